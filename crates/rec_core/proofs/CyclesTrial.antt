-- What a trial at work keeps, over moves and from word to word.
use Rattle.std.proofs.Common.{◌≡◌, inl, inr, ℕ, ◌+◌, ◌*◌, ◌/◌, ◌%◌, ◌<◌, ◌≤◌, true, false, eqb, cond, Some, List, [], ◌∷◌, length, map, refl, sym, ap, subst, ◌∙◌, arith, Bool, Option, None, if◌then◌else◌, ◌==◌, ◌-◌}
use Rattle.std.proofs.lemmas.Bool.{cases_eq, false≢true}
use Rattle.std.proofs.lemmas.Bool.Decides.{nat_tests, eqb_tells}
use Rattle.std.proofs.lemmas.List.Sums.{sum_by-cons}
use Rattle.std.proofs.lemmas.Nat.{div-mul-add, mod-mul-add}
use Rattle.rec_word.specs.declared.op.Op.TheVariants.{LoadChild}
use Rattle.rec_model.specs.Pending.{word_in}
use Rattle.rec_model.specs.References.{closed_at}
use Rattle.rec_model.specs.Moves.AccountMove.{put, register, birth, crossing, leaving, request, batch, release, clearing, freeing, dropping}
use Rattle.rec_model.proofs.Loading.{same_length, replaced_length, nothing_loaded, move_loaded, load_loaded, loaded_replaced, move_replaced}
use Rattle.rec_trial.specs.declared.phase.Phase.{Phase}
use Rattle.rec_trial.specs.declared.phase.Phase.TheVariants.{Idle, Marking, Scanning, Collecting}
use Rattle.rec_trial.specs.Loaded.{Run, load_of, noted_at, noted}
use Rattle.rec_trial.specs.Promised.{IsTrial, unloaded}
use Rattle.rec_trial.specs.Tried.{is_of, loaded}
use Rattle.rec_trial.specs.Trial.{next_of, took_of}
use Rattle.rec_trial.proofs.Course.{first_view}
use Rattle.rec_trial.proofs.Holding.{inv_at}
use Rattle.rec_trial.proofs.Runs.{Told, seen_in, seen_of, told_run}
use Rattle.rec_trial.proofs.Views.{view}
use Rattle.rec_trial.proofs.AtWork.{named_place}
use Rattle.std.proofs.lemmas.Option.{same_Some}
use Rattle.rec_core.proofs.Common.{place_of, State, slot_at, one, one_if_same, node_of, Pending, AccountMove, IsAccounted, HasLoaded, with_load, IsAfterLoads, only_if-le, one_if_self, none_if_differs, move_fields, Load, Machine, Work, TrialStands, word_loaded, target_of, is_green, visible, visible_if, code}
use Rattle.rec_model.proofs.Ledgers.{node_of_null}
use Rattle.rec_core.proofs.Moves.{code_target}

-- where blackening loaded a field that had another target by then, the word that marking loaded there was replaced
abbrev AreReplaced : Pending → (fields : ℕ) → (marking blackening : List Load) → Type 0
AreReplaced w fields marking blackening =
    (place node : ℕ) → place < length w.words → 0 < node → 0 < loaded (place / fields) (place % fields) blackening → one_if_same node (node_of (word_loaded fields marking place)) ≤ closed_at w (w.applied + 1) place node + one_if_same node (node_of (word_loaded fields blackening place))

none_loaded : (x g : ℕ) → loaded x g [] ≡ 0
unfolding loaded
none_loaded x g = refl

loaded_more : (x g : ℕ) (l : Load) (loads : List Load) → loaded x g (l ∷ loads) ≡ one (is_of x g l) + loaded x g loads
unfolding loaded
loaded_more x g l loads = sum_by-cons (λ k. one (is_of x g k)) l loads

-- where blackening loaded nothing
none_replaced : (w : Pending) (fields : ℕ) (marking : List Load) → AreReplaced w fields marking []
none_replaced w fields marking place node inside pos l = absurd (omega (arith, l, none_loaded (place / fields) (place % fields)))

pub trial_stands_begun : (w : Pending) (k : Work) → TrialStands w (unloaded k)
trial_stands_begun w k = record { marks = nothing_loaded w; blacks = none_replaced w w.fields []; unmarked = λ place node pos is. absurd (omega (arith, pos, is, node_of_null)) }

move_places : {w v : Pending} → AccountMove w v → length v.words ≡ length w.words
move_places {w} {v} (put {epoch} {place} {new} s) = replaced_length w.words v.words place (word_in w place) new s.words
move_places {w} {v} (register s) = same_length w.words v.words s.words
move_places {w} {v} (birth s) = same_length w.words v.words s.words
move_places {w} {v} (crossing s) = same_length w.words v.words s.words
move_places {w} {v} (leaving s) = same_length w.words v.words s.words
move_places {w} {v} (request s) = same_length w.words v.words s.words
move_places {w} {v} (batch s) = same_length w.words v.words s.words
move_places {w} {v} (release s) = same_length w.words v.words s.words
move_places {w} {v} (clearing {place} s) = replaced_length w.words v.words place (word_in w place) 0 s.words
move_places {w} {v} (freeing s) = same_length w.words v.words s.words
move_places {w} {v} (dropping s) = same_length w.words v.words s.words

pub trial_stands_moved : {w v : Pending} (r : Run) (m : AccountMove w v) → IsAfterLoads m → IsAccounted w → TrialStands w r → TrialStands v r
trial_stands_moved {w} {v} r m after i t = record {
  marks = subst (λ f. HasLoaded v (word_loaded f r.marking)) (sym (move_fields m)) (move_loaded (word_loaded w.fields r.marking) m after i.epochs t.marks);
  blacks = subst (λ f. AreReplaced v f r.marking r.blackening) (sym (move_fields m)) (λ place node inside pos l. omega (arith, t.blacks place node (omega (arith, inside, move_places m)) pos l, move_replaced place node m after));
  unmarked = subst (λ f. (place node : ℕ) → 0 < node → node_of (word_loaded f r.marking place) ≡ node → is_green (slot_at r.work.counts (node - 1)).colour ≡ false) (sym (move_fields m)) t.unmarked;
}

-- a place is that of a slot's field exactly where it divides into them
same_cell : (fields slot g p : ℕ) → g < fields → cond (eqb (p / fields) slot) (eqb (p % fields) g) false ≡ eqb p (place_of slot g fields)
same_cell fields slot g p h = elim (eqb_tells p (place_of slot g fields)) [
  | inl q ↦ rw (q.0, ap (λ k. k / fields) q.1 ∙ div-mul-add slot fields g h, ap (λ k. k % fields) q.1 ∙ mod-mul-add slot fields g h) (both slot g)
  | inr q ↦ rw q.0 (neither (p / fields) (p % fields) (λ d m. q.1 (whole d m)))
]
  where
    both : (a b : ℕ) → cond (eqb a a) (eqb b b) false ≡ true
    both a b = grind (arith, nat_tests)

    neither : (a b : ℕ) → (a ≡ slot → b ≡ g → ⊥) → cond (eqb a slot) (eqb b g) false ≡ false
    neither a b n = grind (arith, nat_tests, n)

    whole : p / fields ≡ slot → p % fields ≡ g → p ≡ place_of slot g fields
    whole d m =
        let parts : p ≡ (p / fields) * fields + p % fields = omega (arith, h) in
        let named : (p / fields) * fields + p % fields ≡ slot * fields + g = rw (d, m) refl in
        parts ∙ named

-- one load more
word_more : (fields : ℕ) (l : Load) (loads : List Load) (p : ℕ) → l.field < fields → word_loaded fields (l ∷ loads) p ≡ with_load (word_loaded fields loads) (place_of l.slot l.field fields) l.word p
word_more fields l loads p h = ap (λ b. cond b l.word (word_loaded fields loads p)) (same_cell fields l.slot l.field p h)

target_named : (raw node : ℕ) → 0 < node → node_of raw ≡ node → target_of raw ≡ Some (node - 1)
target_named raw node pos is = by (target_of raw) (code_target raw)
  where
    by : (t : Option ℕ) → code t ≡ node_of raw → t ≡ Some (node - 1)
    by None e = absurd (omega (arith, pos, is, e))
    by (Some x) e = ap Some (omega (arith, is, e))

-- what a trial sees of a word: the word, unless that leads to a Green slot
record SeesAs (s : State) (raw word : ℕ) : Type 0 where
  pub less : (node : ℕ) → 0 < node → one_if_same node (node_of word) ≤ one_if_same node (node_of raw)
  pub shows : (node : ℕ) → 0 < node → is_green (slot_at s (node - 1)).colour ≡ false → one_if_same node (node_of raw) ≤ one_if_same node (node_of word)
  pub unmarked : (node : ℕ) → 0 < node → node_of word ≡ node → is_green (slot_at s (node - 1)).colour ≡ false

sees_word : (s : State) (raw : ℕ) → ((x : ℕ) → target_of raw ≡ Some x → is_green (slot_at s x).colour ≡ false) → SeesAs s raw raw
sees_word s raw other = record {
  less = λ node pos. omega arith;
  shows = λ node pos g. omega arith;
  unmarked = λ node pos is. other (node - 1) (target_named raw node pos is);
}

sees_null : (s : State) (raw x : ℕ) → target_of raw ≡ Some x → is_green (slot_at s x).colour ≡ true → SeesAs s raw 0
sees_null s raw x is green =
    let named : node_of raw ≡ x + 1 = sym (code_target raw) ∙ ap code is in
    record {
      less = λ node pos. omega (arith, null_unnamed node pos);
      shows = λ node pos g. elim (cases_eq node (x + 1)) [
        | inl same ↦ absurd (false≢true (sym g ∙ (ap (λ n. is_green (slot_at s n).colour) (omega (arith, same)) ∙ green)))
        | inr other ↦ omega (arith, none_if_differs node (x + 1) other, ap (one_if_same node) named)
      ];
      unmarked = λ node pos null. absurd (omega (arith, pos, null, node_of_null));
    }
  where
    null_unnamed : (node : ℕ) → 0 < node → one_if_same node (node_of 0) ≡ 0
    null_unnamed node pos = none_if_differs node (node_of 0) (λ e. omega (arith, pos, e, node_of_null))

sees_visible : (s : State) (raw : ℕ) → SeesAs s raw (visible s raw)
sees_visible s raw = by (target_of raw) refl
  where
    seen_by : (x : ℕ) (b : Bool) → is_green (slot_at s x).colour ≡ b → target_of raw ≡ Some x → SeesAs s raw (if b then 0 else raw)
    seen_by x true green is = sees_null s raw x is green
    seen_by x false green is = sees_word s raw (λ y its. ap (λ z. is_green (slot_at s z).colour) (same_Some y x (sym its ∙ is)) ∙ green)

    by : (t : Option ℕ) → target_of raw ≡ t → SeesAs s raw (visible_if t s raw)
    by None is = sees_word s raw (λ x its. let not_so : ◌≡◌ {A = Option ℕ} None (Some x) = sym is ∙ its in absurd (cc))
    by (Some x) is = seen_by x (is_green (slot_at s x).colour) refl is

-- one word less is loaded
loads_less : (w : Pending) (load more : ℕ → ℕ) → ((p z : ℕ) → 0 < z → one_if_same z (node_of (more p)) ≤ one_if_same z (node_of (load p))) → HasLoaded w load → HasLoaded w more
loads_less w load more less h p z inside pos = omega (arith, less p z pos, h p z inside pos)

-- what marking loaded, with one word more
marks_more : (w : Pending) (l : Load) (loads : List Load) (raw : ℕ) → IsAccounted w → w.applied + 1 ≡ w.requested → l.field < w.fields → place_of l.slot l.field w.fields < length w.words → raw ≡ word_in w (place_of l.slot l.field w.fields) → ((z : ℕ) → 0 < z → one_if_same z (node_of l.word) ≤ one_if_same z (node_of raw)) → HasLoaded w (word_loaded w.fields loads) → HasLoaded w (word_loaded w.fields (l ∷ loads))
marks_more w l loads raw i done h inside is less t =
    let load : ℕ → ℕ = word_loaded w.fields loads in
    let place : ℕ = place_of l.slot l.field w.fields in
    loads_less w (with_load load place (word_in w place)) (word_loaded w.fields (l ∷ loads)) (λ p z pos. subst (λ n. one_if_same z (node_of n) ≤ one_if_same z (node_of (with_load load place (word_in w place) p))) (sym (word_more w.fields l loads p h)) (by (p == place) p z pos)) (load_loaded w load place i.epochs done inside t)
  where
    by : (b : Bool) (p z : ℕ) → 0 < z → one_if_same z (node_of (if b then l.word else word_loaded w.fields loads p)) ≤ one_if_same z (node_of (if b then word_in w (place_of l.slot l.field w.fields) else word_loaded w.fields loads p))
    by true p z pos = omega (arith, less z pos, ap (λ n. one_if_same z (node_of n)) is)
    by false p z pos = omega arith

-- what marking loaded from a field stands there still, or was replaced
stands_or_replaced : (w : Pending) (load : ℕ → ℕ) (p z : ℕ) → p < length w.words → 0 < z → HasLoaded w load → one_if_same z (node_of (load p)) ≤ closed_at w (w.applied + 1) p z + one_if_same z (node_of (word_in w p))
stands_or_replaced w load p z inside pos h = elim (cases_eq (node_of (word_in w p)) z) [
  | inl e ↦ rw e (omega (arith, only_if-le (eqb z (node_of (load p))) 1, one_if_self z))
  | inr e ↦ omega (arith, loaded_replaced w load p z inside pos e h)
]

-- what blackening loaded, with one word more
blacks_more : (w : Pending) (l : Load) (marking loads : List Load) (raw : ℕ) → l.field < w.fields → raw ≡ word_in w (place_of l.slot l.field w.fields) → ((place z : ℕ) → 0 < z → node_of (word_loaded w.fields marking place) ≡ z → one_if_same z (node_of raw) ≤ one_if_same z (node_of l.word)) → HasLoaded w (word_loaded w.fields marking) → AreReplaced w w.fields marking loads → AreReplaced w w.fields marking (l ∷ loads)
blacks_more w l marking loads raw h is shows t b place node inside pos more = elim (eqb_tells place (place_of l.slot l.field w.fields)) [
  | inl q ↦ rw (here q.0 q.1) (elim (cases_eq node (node_of (word_loaded w.fields marking place))) [
    | inl same ↦ omega (arith, stands_or_replaced w (word_loaded w.fields marking) place node inside pos t, shows place node pos (sym same), ap (λ n. one_if_same node (node_of n)) (is ∙ ap (word_in w) (sym q.1)))
    | inr other_node ↦ omega (arith, none_if_differs node (node_of (word_loaded w.fields marking place)) other_node)
  ])
  | inr q ↦ rw (other q.0) (b place node inside pos (omega (arith, more, loaded_more (place / w.fields) (place % w.fields) l loads, ap one (same_cell w.fields l.slot l.field place h ∙ q.0))))
]
  where
    here : eqb place (place_of l.slot l.field w.fields) ≡ true → place ≡ place_of l.slot l.field w.fields → word_loaded w.fields (l ∷ loads) place ≡ l.word
    here e same = word_more w.fields l loads place h ∙ ap (λ c. cond c l.word (word_loaded w.fields loads place)) e

    other : eqb place (place_of l.slot l.field w.fields) ≡ false → word_loaded w.fields (l ∷ loads) place ≡ word_loaded w.fields loads place
    other e = word_more w.fields l loads place h ∙ ap (λ c. cond c l.word (word_loaded w.fields loads place)) e

trial_told : {fields : ℕ} {before : State} {words : List ℕ} (r : Run) → IsTrial fields before words r → Told fields before r
trial_told {fields} {before} {words} r t = subst (λ q. Told fields before q) (sym t.is) (told_run fields before words t.wide t.ready t.named)

nothing_seen : (loads : List Load) → map seen_of loads ≡ [] → loads ≡ []
nothing_seen [] e = refl
nothing_seen (l ∷ loads) e = cc

module _ {fields : ℕ} {before : State} (r : Run) (t : Told fields before r) where
  invariant_at : (p : Phase) → r.work.machine.phase ≡ p → inv_at p (first_view fields before) (view r.work) (seen_in r)
  invariant_at p e = subst (λ k. inv_at k (first_view fields before) (view r.work) (seen_in r)) e t.course.inv

  -- the due field is one of its slot
  field_inside : (p : Phase) → r.work.machine.phase ≡ p → (p ≡ Idle → ⊥) → r.work.machine.field < r.work.machine.fields
  field_inside Idle e n = absurd (n refl)
  field_inside Marking e n = (invariant_at Marking e).place.below
  field_inside Scanning e n = (invariant_at Scanning e).place.below
  field_inside Collecting e n = (invariant_at Collecting e).place.below

  -- blackening begins when marking is done
  none_blackened : r.work.machine.phase ≡ Marking → r.blackening ≡ []
  none_blackened e = nothing_seen r.blackening (invariant_at Marking e).unscanned.loads

  due_fields : r.work.machine.fields ≡ fields
  due_fields = t.course.same.fields

-- a word is loaded
module _ (w : Pending) (r : Run) (i : IsAccounted w) (done : w.applied + 1 ≡ w.requested) (s : TrialStands w r) (raw word : ℕ) (sees : SeesAs r.work.counts raw word) (inside : place_of r.work.machine.slot r.work.machine.field w.fields < length w.words) (below : r.work.machine.field < w.fields) (is : raw ≡ word_in w (place_of r.work.machine.slot r.work.machine.field w.fields))
    (same : (x : ℕ) → is_green (slot_at (took_of r.work word).counts x).colour ≡ is_green (slot_at r.work.counts x).colour) where
  still_unmarked : (t : State) → ((x : ℕ) → is_green (slot_at t x).colour ≡ is_green (slot_at r.work.counts x).colour) → (place node : ℕ) → 0 < node → node_of (word_loaded w.fields r.marking place) ≡ node → is_green (slot_at t (node - 1)).colour ≡ false
  still_unmarked t e place node pos named = e (node - 1) ∙ s.unmarked place node pos named

  marks_unmarked : (place node : ℕ) → 0 < node → node_of (word_loaded w.fields (load_of r.work.machine word ∷ r.marking) place) ≡ node → is_green (slot_at (took_of r.work word).counts (node - 1)).colour ≡ false
  marks_unmarked place node pos named = same (node - 1) ∙ by (place == place_of r.work.machine.slot r.work.machine.field w.fields) (ap node_of (sym (word_more w.fields (load_of r.work.machine word) r.marking place below)) ∙ named)
    where
      by : (b : Bool) → node_of (if b then word else word_loaded w.fields r.marking place) ≡ node → is_green (slot_at r.work.counts (node - 1)).colour ≡ false
      by true e = sees.unmarked node pos e
      by false e = s.unmarked place node pos e

  shown : (place z : ℕ) → 0 < z → node_of (word_loaded w.fields r.marking place) ≡ z → one_if_same z (node_of raw) ≤ one_if_same z (node_of word)
  shown place z pos named = sees.shows z pos (s.unmarked place z pos named)

  noted_stands : (p : Phase) → (p ≡ Marking → r.blackening ≡ []) → TrialStands w (noted_at p r word)
  noted_stands Idle none = s
  noted_stands Marking none = record {
    marks = marks_more w (load_of r.work.machine word) r.marking raw i done below inside is sees.less s.marks;
    blacks = subst (λ b. AreReplaced w w.fields (load_of r.work.machine word ∷ r.marking) b) (sym (none refl)) (none_replaced w w.fields (load_of r.work.machine word ∷ r.marking));
    unmarked = marks_unmarked;
  }
  noted_stands Scanning none = record { marks = s.marks; blacks = blacks_more w (load_of r.work.machine word) r.marking r.blackening raw below is shown s.marks s.blacks; unmarked = still_unmarked (took_of r.work word).counts same }
  noted_stands Collecting none = record { marks = s.marks; blacks = s.blacks; unmarked = still_unmarked (took_of r.work word).counts same }

pub trial_stands_noted : (w : Pending) (fields : ℕ) (before : State) (words : List ℕ) (r : Run) (place : ℕ) → IsAccounted w → w.applied + 1 ≡ w.requested → w.fields ≡ fields → IsTrial fields before words r → next_of r.work.machine ≡ Some (LoadChild place) → place < length w.words
    → ((x : ℕ) → is_green (slot_at (took_of r.work (visible r.work.counts (word_in w place))).counts x).colour ≡ is_green (slot_at r.work.counts x).colour) → TrialStands w r → TrialStands w (noted r (visible r.work.counts (word_in w place)))
trial_stands_noted w fields before words r place i done width trial next inside same s =
    let m : Machine = r.work.machine in
    let told : Told fields before r = trial_told r trial in
    let n : (m.phase ≡ Idle → ⊥) × (place ≡ place_of m.slot m.field m.fields) = named_place m m.phase place refl next in
    let wide : m.fields ≡ w.fields = due_fields r told ∙ sym width in
    let at : place ≡ place_of m.slot m.field w.fields = n.1 ∙ ap (λ f. place_of m.slot m.field f) wide in
    noted_stands w r i done s (word_in w place) (visible r.work.counts (word_in w place)) (sees_visible r.work.counts (word_in w place)) (subst (λ p. p < length w.words) at inside) (subst (λ f. m.field < f) wide (field_inside r told m.phase refl n.0)) (ap (word_in w) at) same m.phase (none_blackened r told)
