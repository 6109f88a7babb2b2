-- What a trial promises, from what holds of it.
use Rattle.std.proofs.Common.{◌≡◌, ℕ, suc, ◌+◌, ◌*◌, ◌<◌, ◌≤◌, false, Option, Some, IsNone, IsSome, List, [], ◌∷◌, length, map, fold, refl, sym, ap, subst, ◌∙◌, arith, inl, inr, ◌⊎◌}
use Rattle.std.proofs.lemmas.Bool.{false_from_ne_true, false≢true, cases_lt}
use Rattle.std.proofs.lemmas.List.{get_or_past, length-map}
use Rattle.rec_trial.proofs.Common.{Colour, State, slot_at, one, is_black, is_gray, is_white, is_orange, Phase, Idle, Run, noted_at, noted, begun, run_of, IsReady, Machine, next_of}
use Rattle.rec_counts.specs.declared.slot.Slot.{Slot}
use Rattle.rec_counts.specs.Lists as in_counts
use Rattle.rec_counts.specs.Slot.{absent}
use Rattle.rec_trial.specs.Tried.{IsCareful, IsOver, TrialIsCareful, TrialIsWhole, TrialEnds, members}
use Rattle.rec_trial.proofs.AtWork.{told_place}
use Rattle.rec_trial.proofs.Course.{first_view, released_same}
use Rattle.rec_trial.proofs.Done.{greens_at, Walked, once_of, within_of, all_of, no_white_left, walked_at, few_loads}
use Rattle.rec_trial.proofs.Holding.{Over, Placed, inv_at, named}
use Rattle.rec_trial.proofs.Learning.{busy_phase}
use Rattle.rec_trial.proofs.Readings.{loaded_read, naming_read, edges_read}
use Rattle.rec_trial.proofs.Rest.{no_roots_at}
use Rattle.rec_trial.proofs.Runs.{Told, idle_or_busy, noted_idle, told_run, seen_of, seen_in}
use Rattle.rec_trial.proofs.Totals.{times, occurs}
use Rattle.rec_trial.proofs.Views.{view, set_code}

-- how much was loaded
sum_of : Run → ℕ
sum_of r = length r.marking + length r.blackening + length r.collecting

idle_none : (m : Machine) → m.phase ≡ Idle → IsNone (next_of m)
unfolding next_of
idle_none m e = rw e refl

none_idle : (m : Machine) → IsNone (next_of m) → m.phase ≡ Idle
none_idle m h = elim (idle_or_busy m) [
  | inl e ↦ e
  | inr b ↦ absurd (false≢true (sym h ∙ b))
]

stays_idle : (words : List ℕ) (r : Run) → r.work.machine.phase ≡ Idle → fold noted r words ≡ r
stays_idle [] r e = refl
stays_idle (word ∷ words) r e = ap (λ (q : Run). fold noted q words) (noted_idle r word e) ∙ stays_idle words r e

noted_more : (r : Run) (word : ℕ) → (r.work.machine.phase ≡ Idle) ⊎ (sum_of (noted r word) ≡ suc (sum_of r))
unfolding sum_of
noted_more r word = go r.work.machine.phase refl
  where
    go : (p : Phase) → r.work.machine.phase ≡ p → (r.work.machine.phase ≡ Idle) ⊎ (sum_of (noted_at p r word) ≡ suc (sum_of r))
    go Idle e = inl e
    go _ e = inr (omega arith)

-- while there is work, every word was one of a load
turns_by : (words : List ℕ) (r : Run) → IsSome (next_of (fold noted r words).work.machine) → sum_of (fold noted r words) ≡ sum_of r + length words
turns_by [] r b = omega arith
turns_by (word ∷ words) r b = elim (noted_more r word) [
  | inl e ↦ absurd (busy_phase r.work.machine e (subst (λ (q : Run). IsSome (next_of q.work.machine)) (stays_idle (word ∷ words) r e) b))
  | inr e ↦ omega (arith, turns_by words (noted r word) b, e)
]

turns_run : (fields : ℕ) (before : State) (words : List ℕ) → IsSome (next_of (run_of fields before words).work.machine) → length (run_of fields before words).marking + length (run_of fields before words).blackening + length (run_of fields before words).collecting ≡ length words
unfolding run_of sum_of
turns_run fields before words b = omega (arith, turns_by words (begun fields before) b)

-- at every moment
pub whole_careful : (fields : ℕ) (before : State) (words : List ℕ) → TrialIsCareful fields before words
whole_careful fields before words f k a =
    let r : Run = run_of fields before words in
    let s : State = r.work.counts in
    let t : Told fields before r = told_run fields before words f k a in
    let many : length s.slots ≡ length before.slots = t.course.rest.slots in
    let most : length before.slots * (view r.work).fields ≡ length before.slots * fields = ap (λ n. length before.slots * n) t.course.same.fields in
    let w : Walked (first_view fields before) (view r.work).fields (view r.work).count (view r.work).released (members s) (seen_in r) = walked_at r.work.machine.phase (first_view fields before) (view r.work) (seen_in r) t.course.inv in
    let out : (x : ℕ) → length before.slots ≤ x → times x w.marked ≡ 0 = λ x l. w.alive x (ap (λ (v : Slot). v.released) (get_or_past s.slots x absent (omega (arith, many, l)))) in
    let worked : (x : ℕ) → times x w.work ≤ 1 = λ x. omega (arith, w.worked x, w.once x) in
    let joined : (x : ℕ) → times x (members s) ≤ 1 = λ x. omega (arith, w.joined x, w.once x) in
    record {
      counts = λ x. ap (λ (g : ℕ → ℕ). g x) t.course.same.count;
      released = released_same r.work t.course;
      slots = many;
      zeros = t.course.rest.zeros;
      green = greens_at r.work.machine.phase (first_view fields before) (view r.work) (seen_in r) t.course.inv;
      free = t.course.rest.free;
      marking_once = λ x g. omega (arith, loaded_read x g r.marking, once_of w.marks.place x g (w.once x));
      blackening_once = λ x g. omega (arith, loaded_read x g r.blackening, once_of w.blacks.place x g (worked x));
      collecting_once = λ x g. omega (arith, loaded_read x g r.collecting, once_of w.finds.place x g (joined x));
      marking_few = omega (arith, few_loads w.marks (length before.slots) w.once out, most, length-map r.marking seen_of);
      blackening_few = omega (arith, few_loads w.blacks (length before.slots) worked (λ x l. omega (arith, w.worked x, out x l)), most, length-map r.blackening seen_of);
      collecting_few = omega (arith, few_loads w.finds (length before.slots) joined (λ x l. omega (arith, w.joined x, out x l)), most, length-map r.collecting seen_of);
      turns = turns_run fields before words;
      place = λ p h. subst (λ m. p < m * r.work.machine.fields) many (told_place r t p h);
      sets_once = λ x. omega (arith, occurs x (members s), joined x);
      sets_unreleased = λ x h. false_from_ne_true (slot_at before x).released (λ q. omega (arith, occurs x (members s), h, w.joined x, w.alive x (released_same r.work t.course x ∙ q)));
    }

-- after that many words it is over
pub whole_ends : (fields : ℕ) (before : State) (words : List ℕ) → TrialEnds fields before words
whole_ends fields before words f k a long =
    let m : Machine = (run_of fields before words).work.machine in
    let c : IsCareful fields before (length words) (run_of fields before words) = whole_careful fields before words f k a in
    elim (idle_or_busy m) [
      | inl e ↦ idle_none m e
      | inr b ↦ absurd (omega (arith, c.turns b, c.marking_few, c.blackening_few, c.collecting_few, long))
    ]

-- when it is over
pub over_of : (fields : ℕ) (before : State) (r : Run) → Told fields before r → IsNone (next_of r.work.machine) → Over (first_view fields before) (view r.work) (seen_in r)
over_of fields before r t h = subst (λ p. inv_at p (first_view fields before) (view r.work) (seen_in r)) (none_idle r.work.machine h) t.course.inv

set_numbers : (a b : Option ℕ) (i j : ℕ) → a ≡ Some i → b ≡ Some j → set_code b ≤ set_code a → j ≤ i
set_numbers a b i j e g h = let k : suc j ≤ suc i = rw (e, g) at h in omega (arith, k)

-- a marked slot that is not White is a member or Black
member_or_black : {m w j : ℕ} (c : Colour) → m ≡ one (is_white c) + w + j → w ≤ one (is_black c) → j ≤ one (is_orange c) → m ≤ 1 → 0 < m → is_white c ≡ false → j + one (is_black c) ≡ 1
member_or_black c p w o l h e = grind arith

not_gray : (c : Colour) (m : ℕ) → m + one (is_black c) ≡ 1 → m ≤ one (is_orange c) → is_gray c ≡ false
not_gray c m a b = grind arith

module _ (fields : ℕ) (before : State) (r : Run) (t : Told fields before r) (ready : IsReady before) (o : Over (first_view fields before) (view r.work) (seen_in r)) where
  mark : (x : ℕ) → in_counts.times x o.marked ≡ times x o.marked
  mark x = occurs x o.marked

  mem : (x : ℕ) → in_counts.times x (members r.work.counts) ≡ times x (members r.work.counts)
  mem x = occurs x (members r.work.counts)

  one_of : (x : ℕ) → 0 < times x o.marked → times x (members r.work.counts) + one (is_black (slot_at r.work.counts x).colour) ≡ 1
  one_of x h = member_or_black (slot_at r.work.counts x).colour (o.end.parts x) (o.end.worked x) (o.end.oranges x) (o.end.once x) h (no_white_left o.end x h)

  white : (x : ℕ) → is_white (slot_at r.work.counts x).colour ≡ false
  white x = elim (cases_lt 0 (times x o.marked)) [
    | inl h ↦ no_white_left o.end x h
    | inr z ↦ ap is_white (o.end.colours_old x (omega (arith, z))) ∙ ready.no_white x
  ]

  gray : (x : ℕ) → is_gray (slot_at r.work.counts x).colour ≡ false
  gray x = elim (cases_lt 0 (times x o.marked)) [
    | inl h ↦ not_gray (slot_at r.work.counts x).colour (times x (members r.work.counts)) (one_of x h) (o.end.oranges x)
    | inr z ↦ ap is_gray (o.end.colours_old x (omega (arith, z))) ∙ ready.no_gray x
  ]

  -- every field of a member was loaded
  members_all : Placed (view r.work).fields (members r.work.counts) (length (members r.work.counts)) 0 (map seen_of r.collecting)
  members_all = let rests : (view r.work).field ≡ 0 = o.end.place.rests o.end.all_found in rw o.end.all_found at (rw rests at o.end.place)

  pub is_over : IsNone (next_of r.work.machine) → IsOver fields before r o.marked
  is_over none =
      let f = o.end in
      let n : (view r.work).fields ≡ fields = t.course.same.fields in
      record {
        marked_once = λ x. omega (arith, mark x, f.once x);
        marked_unreleased = λ x h. false_from_ne_true (slot_at before x).released (λ q. omega (arith, mark x, h, f.alive x (released_same r.work t.course x ∙ q)));
        marking = λ x g l. omega (arith, loaded_read x g r.marking, mark x, all_of f.marks_all x g (omega (arith, n, l)));
        marking_fields = λ x g h. omega (arith, n, within_of f.marks_all x g (omega (arith, loaded_read x g r.marking, h)));
        member_or_black = λ x h. omega (arith, mem x, one_of x (omega (arith, mark x, h)));
        members_marked = λ x. omega (arith, mem x, mark x, f.parts x);
        members_orange = λ x. omega (arith, mem x, f.oranges x);
        enough = λ x h. let k : (view r.work).count x ≤ named x (map seen_of r.marking) = f.enough x (omega (arith, mem x, h)) in omega (arith, naming_read x r.marking, k, ap (λ (g : ℕ → ℕ). g x) t.course.same.count);
        blackening = λ x g l. omega (arith, loaded_read x g r.blackening, mem x, mark x, all_of f.blacks_all x g (omega (arith, n, l)), f.parts x, ap one (white x));
        blackening_fields = λ x g h. omega (arith, n, within_of f.blacks_all x g (omega (arith, loaded_read x g r.blackening, h)));
        unnamed = λ x h. omega (arith, mem x, f.unnamed x (omega (arith, naming_read x r.blackening, h)));
        collecting = λ x g l. omega (arith, loaded_read x g r.collecting, mem x, all_of members_all x g (omega (arith, n, l)));
        collecting_fields = λ x g h. omega (arith, n, within_of members_all x g (omega (arith, loaded_read x g r.collecting, h)));
        none_later = λ y x i j h m p q. set_numbers (slot_at r.work.counts y).set (slot_at r.work.counts x).set i j p q (f.order.backward y x (omega (arith, edges_read y x r.collecting, h)) (omega (arith, mem x, m)));
        others = λ x h. f.colours_old x (omega (arith, mark x, h));
        no_gray = gray;
        no_white = white;
        roots = subst (λ p. no_roots_at p r.work.counts.roots) (none_idle r.work.machine none) t.course.rest.no_roots;
        no_marked = o.no_marked;
        no_work = o.no_work;
      }

pub whole_over : (fields : ℕ) (before : State) (words : List ℕ) → TrialIsWhole fields before words
whole_over fields before words f k a h =
    let t : Told fields before (run_of fields before words) = told_run fields before words f k a in
    let o = over_of fields before (run_of fields before words) t h in
    (o.marked, is_over fields before (run_of fields before words) t k o h)
