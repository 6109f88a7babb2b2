-- What the fields of a world become in a turn is what the definitions say.
use Rattle.std.proofs.Common.{◌≡◌, ◌≢◌, ℕ, ◌+◌, ◌-◌, ◌<◌, ◌==◌, if◌then◌else◌, List, Option, None, Some, Bool, true, false, slice_set, slice_index_or, length, map, refl, sym, ap, subst, ◌∙◌}
use Rattle.std.specs.Option.{IfSome, IsSome}
use Rattle.std.proofs.lemmas.List.{get_or_default, map-set, set-get_or}
use Rattle.rec_world.proofs.Common.{Contents, Cells, cell, with_cell, Core, cells_of, box, looked_at, left_by, turned, turned_at, turned_by, held, held_by, gathered_by, gathered_from}
use Rattle.rec_word.specs.Mailbox.{crossing_word}
use Rattle.rec_word.specs.declared.mailbox.Mailbox.TheVariants.{Retired}
use Rattle.rec_word.specs.Looked.{looked}
use Rattle.rec_word.specs.Op.{written}
use Rattle.rec_word.specs.declared.looked.Looked.{Looked}
use Rattle.rec_word.specs.declared.looked.Looked.TheVariants.{Takes, Crosses, Waits}
use Rattle.rec_word.specs.declared.op.Op.{Op}
use Rattle.rec_collector.specs.Given.{IsSwapping, swapping_for}
use Rattle.rec_collector.specs.Next.{next_of}
use Rattle.rec_collector.specs.Private as collectors
use Rattle.rec_collector.specs.Step.{IsBetween}
use Rattle.rec_collector.specs.Took.{after_look, crossed_for, left_at, left_of, took_of, took_at, step_of, swapped_of}
use Rattle.rec_collector.specs.declared.phase.Phase.{Phase}
use Rattle.rec_collector.specs.declared.phase.Phase.TheVariants.{Looking, Swapping}
use Rattle.rec_collector.proofs.Steps.{gathers_between, took_between}
use Rattle.rec_collector.proofs.Plain.{plain_took}
use Rattle.rec_collector.specs.Present.{next_present}
use Rattle.rec_core.proofs.PlainWords.{FindsPlain}
use Rattle.rec_world.proofs.Calls.{box_read, home_again}
use Rattle.rec_world.proofs.Mailboxes.{collector_leaves, collector_stays, gathered_stays}

-- the mailbox that the collector looks at, by phase, if it looks at one
abbrev pub looks_for : Phase → Option ℕ
looks_for (Looking t) = Some t
looks_for _ = None

-- A turn that looks at no mailbox holds none, so nothing is to be swapped then.
pub none_swaps : (c : collectors.Private) (word : ℕ) → IsBetween c.phase → looks_for c.phase ≡ None → IsSwapping (took_of c word).phase → ⊥
unfolding took_of
none_swaps c word between none = between_holds (took_at c word c.phase).phase (took_between c word c.phase refl between looks_not)
  where
    looks_not : (t : ℕ) → c.phase ≢ Looking t
    looks_not t is = let not_so : ◌≡◌ {A = Option ℕ} (Some t) None = ap looks_for (sym is) ∙ none in cc

    between_holds : (phase : Phase) → IsBetween phase → IsSwapping phase → ⊥
    between_holds (Swapping t) between is = absurd between
    between_holds _ between is = is

unheld : (phase : Phase) → swapping_for phase ≡ None → IsSwapping phase → ⊥
unheld (Swapping t) none is = let not_so : ◌≡◌ {A = Option ℕ} (Some t) None = none in absurd (cc)
unheld _ none is = is

-- a turn that holds a mailbox looked at it
pub holds_looked : (c : collectors.Private) (word : ℕ) → IsBetween c.phase → IfSome (swapping_for (took_of c word).phase) (λ t. t ≡ looked_at c.phase)
unfolding took_of took_at
holds_looked c word between = go c.phase refl
  where
    unswapped : (t : ℕ) (phase : Phase) → IsBetween phase → IfSome (swapping_for phase) (λ u. u ≡ t)
    unswapped t (Swapping u) between = absurd between
    unswapped t _ between = tt

    after : (t : ℕ) → c.phase ≡ Looking t → (l : Looked) → IfSome (swapping_for (after_look c t l).phase) (λ u. u ≡ t)
    after t is (Takes new) = refl
    after t is (Crosses new) = unswapped t (after_look c t (Crosses new)).phase (gathers_between (crossed_for c t) (next_present c.left t))
    after t is Waits = subst (λ f. IfSome (swapping_for f) (λ u. u ≡ t)) (sym is) tt

    none : (phase : Phase) → (IsSwapping phase → ⊥) → IfSome (swapping_for phase) (λ t. t ≡ looked_at c.phase)
    none (Swapping t) not = absurd (not tt)
    none _ not = tt

    go : (phase : Phase) → c.phase ≡ phase → IfSome (swapping_for (took_of c word).phase) (λ t. t ≡ looked_at c.phase)
    go (Looking t) is = subst (λ f. IfSome (swapping_for (took_at c word f).phase) (λ u. u ≡ looked_at f)) (sym is) (after t is (looked c.epoch word))
    go _ is = none (took_of c word).phase (none_swaps c word between (ap looks_for is))

-- what the mailbox that was looked at holds after the turn, by phase
gathers : (c : collectors.Private) (word : ℕ) (b : Contents) (phase : Phase) → c.phase ≡ phase → IsBetween phase → FindsPlain c word → left_of (took_of c word) b ≡ left_by c word b phase
unfolding took_of left_of left_at
gathers c word b (Looking t) is between plain = ap (λ f. left_of (took_at c word f) b) is ∙ ap (λ q. left_of q b) (plain_took c word t (plain t is)) ∙ go (word == crossing_word c.epoch Retired)
  where
    go : (held_ : Bool) → (let d : collectors.Private = (if held_ then record c { phase = Swapping t; turns = c.turns + 1 } else c) in left_at d b d.phase) ≡ (if held_ then collectors.spare c else b)
    go true = refl
    go false = ap (left_at c b) is
gathers c word b (Swapping t) is between plain = absurd between
gathers c word b phase is between plain = collector_leaves (took_of c word) b (none_swaps c word (subst IsBetween (sym is) between) (ap looks_for is))

pub gathers_so : (c : collectors.Private) (word : ℕ) (b : Contents) → IsBetween c.phase → FindsPlain c word → left_of (took_of c word) b ≡ left_by c word b c.phase
gathers_so c word b between plain = gathers c word b c.phase refl between plain

-- what a turn leaves, with the mailbox that is looked at named
turned_with : (w : Core) (boxes : List (Option Contents)) (op : Op) (found i : ℕ) (mailbox left : Option Contents) (taken new : collectors.Private) (cells : Cells)
    → IsBetween w.collector.phase → FindsPlain w.collector found → w.boxes ≡ map held boxes → looked_at w.collector.phase - 1 < length boxes
    → ◌≡◌ {A = Option Op} (next_of w.collector) (Some op) → i ≡ looked_at w.collector.phase → mailbox ≡ slice_index_or boxes (i - 1) mailbox
    → found ≡ cell (cells_of w) op → cells ≡ with_cell (cells_of w) op (written op found)
    → taken ≡ took_of w.collector found → new ≡ swapped_of taken (held mailbox) → left ≡ Some (left_of taken (held mailbox))
    → ◌≡◌ {A = Core} (record w { headers = cells.headers; words = cells.words; epoch = cells.epoch; freed = cells.freed; crossing = cells.crossing; boxes = map held (slice_set boxes (i - 1) left); collector = new }) (turned w)
unfolding next_of step_of
turned_with w boxes op found i mailbox left taken new cells between plain same there named number its_box finds leaves learns swaps gives =
    let c : collectors.Private = w.collector in
    let t : ℕ = looked_at c.phase in
    let make : ℕ → Cells → List Contents → collectors.Private → Core
    = λ n x b y. record w { headers = x.headers; words = x.words; epoch = x.epoch; freed = x.freed; crossing = x.crossing; boxes = b; collector = y } in
    let was : held mailbox ≡ box w t = box_read boxes t i mailbox number there its_box ∙ ap (λ (bs : List Contents). slice_index_or bs (t - 1) (collectors.blank 0 0)) (sym same) in
    let its_new : new ≡ step_of c found (box w t) = swaps ∙ ap (λ x. swapped_of x (held mailbox)) learns ∙ ap (swapped_of (took_of c found)) was in
    let its_left : left ≡ Some (left_by c found (box w t) c.phase)
    = gives ∙ ap (λ (x : collectors.Private). Some (left_of x (held mailbox))) learns ∙ ap (λ b. Some (left_of (took_of c found) b)) was ∙ ap (λ b. Some b) (gathers_so c found (box w t) between plain) in
    let boxed : map held (slice_set boxes (i - 1) left) ≡ slice_set w.boxes (t - 1) (left_by c found (box w t) c.phase)
    = ap (λ n. map held (slice_set boxes (n - 1) left)) number ∙ ap (λ x. map held (slice_set boxes (t - 1) x)) its_left ∙ map-set held boxes (t - 1) (Some (left_by c found (box w t) c.phase))
    ∙ ap (λ bs. slice_set bs (t - 1) (left_by c found (box w t) c.phase)) (sym same) in
    ap (λ x. make 0 x (map held (slice_set boxes (i - 1) left)) new) leaves
    ∙ ap (λ b. make 0 (with_cell (cells_of w) op (written op found)) b new) boxed
    ∙ ap (λ y. make 0 (with_cell (cells_of w) op (written op found)) (slice_set w.boxes (t - 1) (left_by c found (box w t) c.phase)) y) its_new
    ∙ ap (λ n. turned_by w op n) finds
    ∙ ap (turned_at w) (sym named)

-- what a turn leaves
pub turned_is : (w : Core) (boxes left : List (Option Contents)) (op : Op) (found : ℕ) (taken new : collectors.Private) (cells : Cells)
    → IsBetween w.collector.phase → FindsPlain w.collector found → w.boxes ≡ map held boxes → looked_at w.collector.phase - 1 < length boxes → ((i : ℕ) → i < length boxes → IsSome (slice_index_or boxes i None))
    → ◌≡◌ {A = Option Op} (next_of w.collector) (Some op) → found ≡ cell (cells_of w) op → cells ≡ with_cell (cells_of w) op (written op found)
    → taken ≡ took_of w.collector found → new ≡ gathered_by taken boxes (swapping_for taken.phase) → left ≡ gathered_from taken boxes (swapping_for taken.phase)
    → ◌≡◌ {A = Core} (record w { headers = cells.headers; words = cells.words; epoch = cells.epoch; freed = cells.freed; crossing = cells.crossing; boxes = map held left; collector = new }) (turned w)
turned_is w boxes left op found taken new cells between plain same there home named finds leaves learns swaps gives = go (swapping_for taken.phase) refl
  where
    at : ℕ
    at = looked_at w.collector.phase

    its : Option Contents
    its = slice_index_or boxes (at - 1) None

    made : List (Option Contents) → collectors.Private → Core
    made bs c = record w { headers = cells.headers; words = cells.words; epoch = cells.epoch; freed = cells.freed; crossing = cells.crossing; boxes = map held bs; collector = c }

    with : (left_there : Option Contents) (q : collectors.Private) → q ≡ swapped_of taken (held its) → left_there ≡ Some (left_of taken (held its)) → made (slice_set boxes (at - 1) left_there) q ≡ turned w
    with left_there q = turned_with w boxes op found at its left_there taken q cells between plain same there named refl (get_or_default boxes (at - 1) None its there) finds leaves learns

    none : swapping_for taken.phase ≡ None → made left new ≡ turned w
    none un =
        let not : IsSwapping taken.phase → ⊥ = unheld taken.phase un in
        ap (λ x. made x new) (gives ∙ ap (gathered_from taken boxes) un ∙ sym (set-get_or boxes (at - 1) None)) ∙ ap (made (slice_set boxes (at - 1) its)) (swaps ∙ ap (gathered_by taken boxes) un)
        ∙ with its taken (collector_stays taken (held its) not) (gathered_stays taken its (home (at - 1) there) not)

    some : swapping_for taken.phase ≡ Some at → made left new ≡ turned w
    some is = ap (λ x. made x new) (gives ∙ ap (gathered_from taken boxes) is) ∙ with (Some (left_of taken (held its))) new (swaps ∙ ap (gathered_by taken boxes) is) refl

    go : (x : Option ℕ) → swapping_for taken.phase ≡ x → made left new ≡ turned w
    go None is = none is
    go (Some t) is =
        let looked : IfSome (swapping_for taken.phase) (λ u. u ≡ at) = subst (λ (c : collectors.Private). IfSome (swapping_for c.phase) (λ u. u ≡ at)) (sym learns) (holds_looked w.collector found between) in
        some (is ∙ ap Some (subst (λ x. IfSome x (λ u. u ≡ at)) is looked))

-- every mailbox is home then
pub home_still : (c : collectors.Private) (boxes : List (Option Contents)) (x : Option ℕ) → ((i : ℕ) → i < length boxes → IsSome (slice_index_or boxes i None))
    → (i : ℕ) → i < length (gathered_from c boxes x) → IsSome (slice_index_or (gathered_from c boxes x) i None)
home_still c boxes None home = home
home_still c boxes (Some t) home = home_again boxes (t - 1) (Some (left_of c (held_by boxes t))) refl home
