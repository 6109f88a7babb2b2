-- A trial takes nothing out of the lists while it is at work: what it marks stays marked until it is over.
use Rattle.std.proofs.Common.{◌≡◌, ◌⊎◌, inl, inr, ℕ, ◌-◌, ◌≤◌, nat_lt, if◌then◌else◌, true, false, Bool, Option, None, Some, List, [], ◌∷◌, length, slice_index_or, refl, sym, ap, subst, ◌∙◌, arith, ◌<◌, ◌≢◌}
use Rattle.std.specs.List.{concat}
use Rattle.std.proofs.lemmas.Bool.{cases_eq, ltb-false, ne_eqb, false≢true}
use Rattle.rec_core.proofs.Common.{is_green, State, slot_at, with_slot, one, times, absent, Slot, times-append, times-cons, stays, Work}
use Rattle.rec_counts.specs.declared.colour.Colour.{Colour}
use Rattle.rec_counts.specs.declared.colour.Colour.TheVariants.{Black, Purple, Gray, White, Orange, Green}
use Rattle.rec_counts.specs.Colour.{is_gray, is_purple, is_white}
use Rattle.rec_counts.specs.Counts.{without_root, with_joined}
use Rattle.rec_counts.specs.Groups.{with_member}
use Rattle.rec_counts.proofs.Keeping.{map_at}
use Rattle.rec_counts.proofs.Times.{one-same, times_push}
use Rattle.rec_release.proofs.TakenOff.{written}
use Rattle.rec_trial.specs.declared.phase.Phase.{Phase}
use Rattle.rec_trial.specs.declared.phase.Phase.TheVariants.{Idle, Marking, Scanning, Collecting}
use Rattle.rec_trial.specs.Moves.{all_whitened, blackened_if, cleared, collected_by, dropped, dropped_if, has_rest, joined_if, marked_by, one_off, scanned_by, touched, touched_if, whitened, whitened_if, with_new_set}
use Rattle.rec_trial.specs.Trial.{collect_moved, is_due, learnt_at, moved_at, pointed, roots_moved, scan_moved, set_begun_if, settled}
use Rattle.rec_trial.proofs.Course.{Course, first_view, moved_course}
use Rattle.rec_trial.proofs.Deletion.{Loads}
use Rattle.rec_trial.proofs.Holding.{inv_at, WhileCollecting}
use Rattle.rec_trial.proofs.Rest.{no_roots_at}
use Rattle.rec_trial.proofs.Moving.{settled_by}
use Rattle.rec_trial.proofs.Views.{concat_member, concat_new, view}
use Rattle.rec_collector.specs.Offered.{missing, offered, offered_if, offered_slot, offered_where}
use Rattle.rec_collector.proofs.Offering.{where_green, where_keeps}
use Rattle.rec_prompt.specs.Cover.{IsListed}
use Rattle.rec_prompt.proofs.Heeding.{Heeds, heeds_alike, heeds_on, heeds_same, IsOwned, IsSeen}

-- One slot is written, and is in a list then if it was in one, or is Green as it was; and each list has as many of each, or more.
heeds_written : (s t : State) (x : ℕ) (v : Slot) → t.slots ≡ (with_slot s x v).slots → is_green v.colour ≡ is_green (slot_at s x).colour → v.released ≡ (slot_at s x).released
    → (is_purple (slot_at s x).colour ≡ true → IsListed t x)
    → ((y : ℕ) → times y s.zeros ≤ times y t.zeros) → ((y : ℕ) → times y s.roots ≤ times y t.roots) → ((y : ℕ) → times y (concat s.sets) ≤ times y (concat t.sets)) → ((y : ℕ) → times y s.marked ≤ times y t.marked) → Heeds s t
heeds_written s t x v slots green released purple zeros roots members marked = record {
  greens = λ y. elim (at y) [
    | inl own ↦ ap (λ (u : Slot). is_green u.colour) own.1 ∙ green ∙ ap (λ n. is_green (slot_at s n).colour) (sym own.0)
    | inr other ↦ ap (λ (u : Slot). is_green u.colour) other
  ];
  lists = lists;
  gone = gone;
  kept = λ y some. inr (omega (arith, some, members y));
}
  where
    at : (y : ℕ) → ((y ≡ x) × (slot_at t y ≡ v)) ⊎ (slot_at t y ≡ slot_at s y)
    at y = elim (written s x v y) [
      | inl own ↦ inl (own.0, ap (λ ss. slice_index_or ss y absent) slots ∙ own.1)
      | inr other ↦ inr (ap (λ ss. slice_index_or ss y absent) slots ∙ other)
    ]

    gone : (y : ℕ) → (slot_at s y).released ≡ true → (slot_at t y).released ≡ true
    gone y is = elim (at y) [
      | inl own ↦ ap (λ (u : Slot). u.released) own.1 ∙ released ∙ ap (λ n. (slot_at s n).released) (sym own.0) ∙ is
      | inr other ↦ ap (λ (u : Slot). u.released) other ∙ is
    ]

    lists : (y : ℕ) → IsListed s y → IsSeen t y
    lists y (IsListed.released is) = inl (IsListed.released (gone y is))
    lists y (IsListed.zero some) = inl (IsListed.zero (omega (arith, some, zeros y)))
    lists y (IsListed.root some is) = elim (at y) [
      | inl own ↦ inl (subst (IsListed t) (sym own.0) (purple (ap (λ n. is_purple (slot_at s n).colour) (sym own.0) ∙ is)))
      | inr other ↦ inl (IsListed.root (omega (arith, some, roots y)) (ap (λ (u : Slot). is_purple u.colour) other ∙ is))
    ]
    lists y (IsListed.member some) = inl (IsListed.member (omega (arith, some, members y)))
    lists y (IsListed.marked some) = inl (IsListed.marked (omega (arith, some, marked y)))

-- ---- marking

touches : (b : Bool) (s : State) (x : ℕ) → is_green (slot_at s x).colour ≡ false → Heeds s (touched_if b s x)
touches true s x plain = heeds_same s
touches false s x plain = heeds_written s (touched_if false s x) x (record (slot_at s x) { colour = Gray; cyclic = (slot_at s x).count }) refl (sym plain) refl
    (λ is. IsListed.marked (omega (arith, times_push x s.marked x, one-same x)))
    (λ y. omega arith) (λ y. omega arith) (λ y. omega arith) (λ y. omega (arith, times_push y s.marked x))

one_less : (s : State) (x : ℕ) → Heeds s (one_off s x)
one_less s x = heeds_alike s (one_off s x)
    (λ y. elim (written s x (record (slot_at s x) { cyclic = (slot_at s x).cyclic - 1 }) y) [ inl own ↦ ap (λ (u : Slot). u.colour) own.1 ∙ ap (λ n. (slot_at s n).colour) (sym own.0) | inr other ↦ ap (λ (u : Slot). u.colour) other ])
    (λ y is. elim (written s x (record (slot_at s x) { cyclic = (slot_at s x).cyclic - 1 }) y) [ inl own ↦ ap (λ (u : Slot). u.released) own.1 ∙ ap (λ n. (slot_at s n).released) (sym own.0) ∙ is | inr other ↦ ap (λ (u : Slot). u.released) other ∙ is ])
    (λ y. omega arith) (λ y. omega arith) (λ y. omega arith) (λ y. omega arith)

-- a target that isn't Green
abbrev pub IsPlainTarget : State → Option ℕ → Type 0
IsPlainTarget s None = Unit {0}
IsPlainTarget s (Some x) = is_green (slot_at s x).colour ≡ false

marks : (s : State) (target : Option ℕ) → IsPlainTarget s target → Heeds s (marked_by s target)
marks s None plain = heeds_same s
marks s (Some x) plain = heeds_on (touches (is_gray (slot_at s x).colour) s x plain) (one_less (touched s x) x)

-- the first root leaves the root buffer: it is released, or Purple and marked
drops : (s : State) (x : ℕ) (xs : List ℕ) → s.roots ≡ x ∷ xs → Heeds s (dropped (without_root (x ∷ xs) s) x)
drops s x xs is = go (slot_at u x).released (slot_at u x).colour refl refl
  where
    u : State
    u = without_root (x ∷ xs) s

    out : (y : ℕ) → ((slot_at u y).colour ≡ (slot_at s y).colour) × ((slot_at u y).released ≡ (slot_at s y).released)
    out y = elim (written s x (record (slot_at s x) { buffered = false }) y) [
      | inl own ↦ (ap (λ (v : Slot). v.colour) own.1 ∙ ap (λ n. (slot_at s n).colour) (sym own.0), ap (λ (v : Slot). v.released) own.1 ∙ ap (λ n. (slot_at s n).released) (sym own.0))
      | inr other ↦ (ap (λ (v : Slot). v.colour) other, ap (λ (v : Slot). v.released) other)
    ]

    -- what is in the lists of these counts, where the first root is
    with_first : (t : State) → ((y : ℕ) → is_green (slot_at t y).colour ≡ is_green (slot_at u y).colour) → ((y : ℕ) → IsListed u y → IsSeen t y) → (is_purple (slot_at s x).colour ≡ true → IsSeen t x) → ((y : ℕ) → (slot_at u y).released ≡ true → (slot_at t y).released ≡ true) → ((y : ℕ) → 0 < times y (concat u.sets) → IsOwned t y) → Heeds s t
    with_first t greens lists first gone kept = record { greens = λ y. greens y ∙ ap is_green (out y).0; lists = all; gone = λ y was. gone y ((out y).1 ∙ was); kept = kept }
      where
        all : (y : ℕ) → IsListed s y → IsSeen t y
        all y (IsListed.released was) = lists y (IsListed.released ((out y).1 ∙ was))
        all y (IsListed.zero some) = lists y (IsListed.zero some)
        all y (IsListed.root some purple) = elim (cases_eq y x) [
          | inl same ↦ subst (IsSeen t) (sym same) (first (ap (λ n. is_purple (slot_at s n).colour) (sym same) ∙ purple))
          | inr other ↦ lists y (IsListed.root (omega (arith, some, ap (times y) is, times-cons y x xs, ap one (ne_eqb y x other))) (ap is_purple (out y).0 ∙ purple))
        ]
        all y (IsListed.member some) = lists y (IsListed.member some)
        all y (IsListed.marked some) = lists y (IsListed.marked some)

    other : (c : Colour) → (slot_at u x).colour ≡ c → is_purple c ≡ false → Heeds s u
    other c is_c none = with_first u (λ y. refl) (λ y there. inl there) (λ purple. absurd (false≢true (sym none ∙ ap is_purple (sym is_c ∙ (out x).0) ∙ purple))) (λ y was. was) (λ y some. inr some)

    go : (b : Bool) (c : Colour) → (slot_at u x).released ≡ b → (slot_at u x).colour ≡ c → Heeds s (dropped_if b c u x)
    go true c gone is_c = with_first (dropped_if true c u x) (λ y. refl) (heeds_alike u (dropped_if true c u x) (λ y. refl) (λ y was. was) (λ y. omega arith) (λ y. omega arith) (λ y. omega arith) (λ y. omega arith)).lists (λ purple. inl (IsListed.released gone)) (λ y was. was) (λ y some. inr some)
    go false Purple there is_c =
        let h : Heeds u (touched_if false u x) = touches false u x (ap is_green is_c) in
        with_first (touched_if false u x) h.greens h.lists (λ purple. inl (IsListed.marked (omega (arith, times_push x s.marked x, one-same x)))) h.gone h.kept
    go false Black there is_c = other Black is_c refl
    go false Gray there is_c = other Gray is_c refl
    go false White there is_c = other White is_c refl
    go false Orange there is_c = other Orange is_c refl
    go false Green there is_c = other Green is_c refl

-- ---- scanning

gray_plain : (c : Colour) → is_gray c ≡ true → (is_green c ≡ false) × (is_purple c ≡ false)
gray_plain Gray is = (refl, refl)
gray_plain _ is = absurd (false≢true is)

blackens : (b : Bool) (s : State) (x : ℕ) → (b ≡ true → is_gray (slot_at s x).colour ≡ true) → Heeds s (blackened_if b s x)
blackens false s x gray = heeds_same s
blackens true s x gray =
    let plain = gray_plain (slot_at s x).colour (gray refl) in
    heeds_written s (blackened_if true s x) x (record (slot_at s x) { colour = Black }) refl (sym plain.0) refl (λ purple. absurd (false≢true (sym plain.1 ∙ purple))) (λ y. omega arith) (λ y. omega arith) (λ y. omega arith) (λ y. omega arith)

rest_gray : (v : Slot) → has_rest v ≡ true → is_gray v.colour ≡ true
rest_gray v = go (is_gray v.colour)
  where
    go : (b : Bool) → (if b then nat_lt 0 v.cyclic else false) ≡ true → b ≡ true
    go true is = refl
    go false is = is

scans : (s : State) (target : Option ℕ) → Heeds s (scanned_by s target)
scans s None = heeds_same s
scans s (Some x) = blackens (is_gray (slot_at s x).colour) s x (λ is. is)

whitens : (s : State) → Heeds s (all_whitened s)
whitens s = record { greens = λ x. ap (λ (v : Slot). is_green v.colour) (at x) ∙ green (slot_at s x); lists = lists; gone = λ x is. ap (λ (v : Slot). v.released) (at x) ∙ released (slot_at s x) ∙ is; kept = λ x some. inr some }
  where
    at : (x : ℕ) → slot_at (all_whitened s) x ≡ whitened (slot_at s x)
    at x = map_at whitened refl s.slots x

    green : (v : Slot) → is_green (whitened v).colour ≡ is_green v.colour
    green v = go (is_gray v.colour) refl
      where
        go : (b : Bool) → is_gray v.colour ≡ b → is_green (whitened_if b v).colour ≡ is_green v.colour
        go true is = sym (gray_plain v.colour is).0
        go false is = refl

    purple : (v : Slot) → is_purple v.colour ≡ true → is_purple (whitened v).colour ≡ true
    purple v is = go (is_gray v.colour) refl
      where
        go : (b : Bool) → is_gray v.colour ≡ b → is_purple (whitened_if b v).colour ≡ true
        go true gray = absurd (false≢true (sym (gray_plain v.colour gray).1 ∙ is))
        go false gray = is

    released : (v : Slot) → (whitened v).released ≡ v.released
    released v = go (is_gray v.colour)
      where
        go : (b : Bool) → (whitened_if b v).released ≡ v.released
        go true = refl
        go false = refl

    lists : (x : ℕ) → IsListed s x → IsSeen (all_whitened s) x
    lists x (IsListed.released is) = inl (IsListed.released (ap (λ (v : Slot). v.released) (at x) ∙ released (slot_at s x) ∙ is))
    lists x (IsListed.zero some) = inl (IsListed.zero some)
    lists x (IsListed.root some is) = inl (IsListed.root some (ap (λ (v : Slot). is_purple v.colour) (at x) ∙ purple (slot_at s x) is))
    lists x (IsListed.member some) = inl (IsListed.member some)
    lists x (IsListed.marked some) = inl (IsListed.marked some)

-- ---- collecting

white_plain : (c : Colour) → is_white c ≡ true → (is_green c ≡ false) × (is_purple c ≡ false)
white_plain White is = (refl, refl)
white_plain _ is = absurd (false≢true is)

more_members : (sets : List (List ℕ)) (x y : ℕ) → times y (concat sets) ≤ times y (concat (with_member sets x))
more_members [] x y = omega arith
more_members (xs ∷ sets) x y = omega (arith, ap (times y) (concat_member (xs ∷ sets) x (omega arith)), times_push y (concat (xs ∷ sets)) x)

joins : (b : Bool) (s : State) (x : ℕ) → (b ≡ true → is_white (slot_at s x).colour ≡ true) → Heeds s (joined_if b s x)
joins false s x white = heeds_same s
joins true s x white =
    let plain = white_plain (slot_at s x).colour (white refl) in
    let u : State = with_slot s x (record (slot_at s x) { colour = Orange }) in
    heeds_on (heeds_written s u x (record (slot_at s x) { colour = Orange }) refl (sym plain.0) refl (λ purple. absurd (false≢true (sym plain.1 ∙ purple))) (λ y. omega arith) (λ y. omega arith) (λ y. omega arith) (λ y. omega arith))
    (heeds_alike u (with_joined u x)
    (λ y. elim (written u x (record (slot_at u x) { buffered = true; set = Some (length s.sets - 1) }) y) [ inl own ↦ ap (λ (v : Slot). v.colour) own.1 ∙ ap (λ n. (slot_at u n).colour) (sym own.0) | inr other ↦ ap (λ (v : Slot). v.colour) other ])
    (λ y is. elim (written u x (record (slot_at u x) { buffered = true; set = Some (length s.sets - 1) }) y) [ inl own ↦ ap (λ (v : Slot). v.released) own.1 ∙ ap (λ n. (slot_at u n).released) (sym own.0) ∙ is | inr other ↦ ap (λ (v : Slot). v.released) other ∙ is ])
    (λ y. omega arith) (λ y. omega arith) (λ y. more_members s.sets x y) (λ y. omega arith))

collects : (s : State) (target : Option ℕ) → Heeds s (collected_by s target)
collects s None = heeds_same s
collects s (Some x) = joins (is_white (slot_at s x).colour) s x (λ is. is)

begins_set : (s : State) → Heeds s (with_new_set s)
begins_set s = heeds_alike s (with_new_set s) (λ x. refl) (λ x is. is) (λ x. omega arith) (λ x. omega arith) (λ x. omega (arith, ap (times x) (concat_new s.sets))) (λ x. omega arith)

-- ---- a whole turn

-- A trial that came from the one counts to this work has kept all that was in a list; or it is over, and nothing is marked any more.
pub data Tries (fields : ℕ) (before s : State) (ls : Loads) (v : Work) : Type 0 where
  goes : Heeds s v.counts → v.machine.phase ≢ Idle → Tries fields before s ls v
  ends : (w : Work) → Heeds s w.counts → Course fields before w ls → WhileCollecting (first_view fields before) (view w) ls → w.counts.roots ≡ [] → w.machine.tried ≡ length w.counts.marked → v.machine.phase ≡ Idle → v.counts ≡ cleared w.counts → Tries fields before s ls v

module _ (fields : ℕ) (before s : State) (ls : Loads) where
  abbrev IsOn : Work → Type 0
  IsOn v = Course fields before v ls × Tries fields before s ls v

  -- a move without a load
  tries_move : (w : Work) → Heeds s w.counts → w.machine.phase ≢ Idle → (phase : Phase) → w.machine.phase ≡ phase → Course fields before w ls → Tries fields before s ls (moved_at phase w)
  tries_move w h busy Idle at c = absurd (busy at)
  tries_move w h busy Marking at c = go w.counts.roots refl
    where
      go : (rs : List ℕ) → w.counts.roots ≡ rs → Tries fields before s ls (roots_moved rs w)
      go [] is = Tries.goes h (λ e. cc)
      go (x ∷ xs) is = Tries.goes (heeds_on h (drops w.counts x xs is)) (λ e. cc)
  tries_move w h busy Scanning at c = go (nat_lt w.machine.tried (length w.counts.marked))
    where
      go : (b : Bool) → Tries fields before s ls (scan_moved b w)
      go true = let x : ℕ = slice_index_or w.counts.marked w.machine.tried 0 in Tries.goes (heeds_on h (blackens (has_rest (slot_at w.counts x)) w.counts x (rest_gray (slot_at w.counts x)))) (λ e. cc)
      go false = Tries.goes (heeds_on h (whitens w.counts)) (λ e. cc)
  tries_move w h busy Collecting at c = go (nat_lt w.machine.tried (length w.counts.marked)) refl
    where
      inv : WhileCollecting (first_view fields before) (view w) ls
      inv = subst (λ p. inv_at p (first_view fields before) (view w) ls) at c.inv

      x : ℕ
      x = slice_index_or w.counts.marked w.machine.tried 0

      found : (white : Bool) → is_white (slot_at w.counts x).colour ≡ white → Tries fields before s ls (set_begun_if white w x)
      found true is = Tries.goes (heeds_on h (heeds_on (begins_set w.counts) (joins true (with_new_set w.counts) x (λ _. is)))) (λ e. cc)
      found false is = Tries.goes h (λ e. cc)

      go : (b : Bool) → nat_lt w.machine.tried (length w.counts.marked) ≡ b → Tries fields before s ls (collect_moved b w)
      go true more = found (is_white (slot_at w.counts x).colour) refl
      go false none = Tries.ends w h c inv (subst (λ p. no_roots_at p w.counts.roots) at c.rest.no_roots) (omega (arith, inv.tries, ltb-false w.machine.tried (length w.counts.marked) none)) refl refl

  on_moved : (w : Work) → IsOn w → is_due w ≡ false → IsOn (moved_at w.machine.phase w)
  on_moved w (c, Tries.goes h busy) due = (moved_course w c due, tries_move w h busy w.machine.phase refl c)
  on_moved w (c, Tries.ends v h d inv none all idle is) due = (moved_course w c due, subst (λ p. Tries fields before s ls (moved_at p w)) (sym idle) (Tries.ends v h d inv none all idle is))

  -- the moves up to the next load, or to the end
  pub tries_settled : (w : Work) → Course fields before w ls → Heeds s w.counts → w.machine.phase ≢ Idle → Course fields before (pointed (settled w)) ls × Tries fields before s ls (pointed (settled w))
  tries_settled w c h busy =
      let on : IsOn (settled w) = settled_by IsOn on_moved w (c, Tries.goes h busy) in
      (pointed_course on.0, pointed_tries on.1)
    where
      pointed_course : Course fields before (settled w) ls → Course fields before (pointed (settled w)) ls
      pointed_course d = record { inv = d.inv; same = d.same; rest = d.rest }

      pointed_tries : Tries fields before s ls (settled w) → Tries fields before s ls (pointed (settled w))
      pointed_tries (Tries.goes g busy_) = Tries.goes g busy_
      pointed_tries (Tries.ends v g d inv none all idle is) = Tries.ends v g d inv none all idle is

-- a word that was loaded
pub learnt_heeds : (phase : Phase) (s : State) (target : Option ℕ) → IsPlainTarget s target → Heeds s (learnt_at phase s target)
learnt_heeds Idle s target plain = heeds_same s
learnt_heeds Marking s target plain = marks s target plain
learnt_heeds Scanning s target plain = scans s target
learnt_heeds Collecting s target plain = collects s target

-- ---- every slot is offered

offers_all : (s : State) → Heeds s (offered_where true s)
unfolding offered
offers_all s = record { greens = where_green true s; lists = lists; gone = λ x is. (where_keeps true s).rest.released x ∙ is; kept = λ x some. inr some }
  where
    t : State
    t = offered_where true s

    at : (x : ℕ) → slot_at t x ≡ offered_slot (slot_at s x)
    at x = map_at offered_slot refl s.slots x

    purple : (v : Slot) → is_purple v.colour ≡ true → is_purple (offered_slot v).colour ≡ true
    purple v is = go (stays v)
      where
        go : (b : Bool) → is_purple (offered_if b v).colour ≡ true
        go true = is
        go false = refl

    lists : (x : ℕ) → IsListed s x → IsSeen t x
    lists x (IsListed.released is) = inl (IsListed.released ((where_keeps true s).rest.released x ∙ is))
    lists x (IsListed.zero some) = inl (IsListed.zero some)
    lists x (IsListed.root some is) = inl (IsListed.root (omega (arith, some, times-append x s.roots (missing s))) (ap (λ (v : Slot). is_purple v.colour) (at x) ∙ purple (slot_at s x) is))
    lists x (IsListed.member some) = inl (IsListed.member some)
    lists x (IsListed.marked some) = inl (IsListed.marked some)

pub heeds_offered : (offers : Bool) (s : State) → Heeds s (offered_where offers s)
heeds_offered true s = offers_all s
heeds_offered false s = heeds_same s
