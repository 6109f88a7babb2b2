-- Whole trials, word by word.
use Rattle.std.proofs.Common.{◌≡◌, ℕ, ◌+◌, ◌<◌, true, false, Option, None, Some, IfSome, IsSome, List, [], ◌∷◌, map, fold, get_or, refl, sym, ap, subst, ◌∙◌, arith, ◌⊎◌, inl, inr}
use Rattle.std.specs.List.{concat}
use Rattle.std.proofs.lemmas.List.{get_or-append-add}
use Rattle.std.proofs.lemmas.Bool.{false≢true}
use Rattle.rec_trial.proofs.Common.{target_of, target_bits, is_green, State, slot_at, Phase, Idle, Collecting, Run, load_of, noted_at, noted, begun, run_of, IsReady, LeadsToVisible, AllLeadToVisible, Machine, Work, next_of, list_of, is_due, settled, pointed, took_at, took_of, opened_of, started_of}
use Rattle.rec_counts.specs.Groups.{last_set, earlier_sets}
use Rattle.rec_word.specs.Load.{Load}
use Rattle.rec_trial.proofs.Course.{Course, at_phase, course_of, learnt, learnt_course, first_view, moved_course, released_same, green_same}
use Rattle.rec_trial.proofs.Deletion.{Seen, Loads, seen, queue_at, with_load}
use Rattle.rec_trial.proofs.Moving.{settled_by, settled_is_due}
use Rattle.rec_trial.proofs.Turns.{opening_kept}
use Rattle.rec_trial.proofs.Views.{earlier, view, concat_last}

abbrev pub seen_of : Load → Seen
seen_of l = record { node = l.slot; field = l.field; word = target_bits l.word }

-- the due slot is the one that is seen to be due
pub node_seen : (w : Work) (p : Phase) → get_or (list_of p w.counts) w.machine.done 0 ≡ get_or (queue_at p (view (at_phase p w))) (view (at_phase p w)).at 0
node_seen w Collecting =
    sym (get_or-append-add (concat (earlier_sets w.counts.sets)) (last_set w.counts.sets) w.machine.done 0)
    ∙ ap (λ (xs : List ℕ). get_or xs (earlier w.counts + w.machine.done) 0) (sym (concat_last w.counts.sets))
node_seen w _ = refl

-- what a trial loaded so far
abbrev pub seen_in : Run → Loads
seen_in r = record { marks = map seen_of r.marking; blacks = map seen_of r.blackening; finds = map seen_of r.collecting }

-- up to the next load
went_course : {fields : ℕ} {before : State} (w : Work) {ls : Loads} → Course fields before w ls → Course fields before (pointed (settled w)) ls
went_course {fields} {before} w {ls} c = let k = settled_by (λ v. Course fields before v ls) (λ v k d. moved_course v k d) w c in record { inv = k.inv; same = k.same; rest = k.rest }

-- between two words
pub record Told (fields : ℕ) (before : State) (r : Run) : Type 0 where
  pub course : Course fields before r.work (seen_in r)
  pub due : is_due r.work ≡ true
  pub node : r.work.machine.slot ≡ get_or (list_of r.work.machine.phase r.work.counts) r.work.machine.done 0

-- nothing comes next exactly where no trial is at work
pub idle_or_busy : (m : Machine) → (m.phase ≡ Idle) ⊎ IsSome (next_of m)
unfolding next_of
idle_or_busy m = go m.phase refl
  where
    go : (p : Phase) → m.phase ≡ p → (m.phase ≡ Idle) ⊎ IsSome (next_of m)
    go Idle e = inl e
    go _ e = inr (rw e refl)

pub took_busy : (w : Work) (word : ℕ) → IsSome (next_of w.machine) → took_of w word ≡ pointed (settled (learnt w word))
unfolding next_of took_of
took_busy w word b = go w.machine.phase refl
  where
    go : (p : Phase) → w.machine.phase ≡ p → took_at p w word ≡ pointed (settled (learnt w word))
    go Idle e = absurd (false≢true (rw e at b))
    go _ e = refl

pub noted_work : (r : Run) (word : ℕ) → (noted r word).work ≡ took_of r.work word
unfolding took_of
noted_work r word = go r.work.machine.phase refl
  where
    go : (p : Phase) → r.work.machine.phase ≡ p → (noted_at p r word).work ≡ took_of r.work word
    go Idle e = rw e refl
    go _ e = refl

noted_seen : (p : Phase) (r : Run) (word : ℕ) → with_load p (seen_of (load_of r.work.machine word)) (seen_in r) ≡ seen_in (noted_at p r word)
noted_seen Idle r word = refl
noted_seen _ r word = refl

pub noted_idle : (r : Run) (word : ℕ) → r.work.machine.phase ≡ Idle → noted r word ≡ r
noted_idle r word e = ap (λ p. noted_at p r word) e

module _ {fields : ℕ} {before : State} (r : Run) (t : Told fields before r) (word : ℕ) (a : LeadsToVisible r.work.counts word) where
  told_busy : IsSome (next_of r.work.machine) → Told fields before (noted r word)
  told_busy b =
      let p : Phase = r.work.machine.phase in
      let q : pointed (settled (learnt r.work word)) ≡ (noted r word).work = sym (noted_work r word ∙ took_busy r.work word b) in
      let n : r.work.machine.slot ≡ get_or (queue_at p (view r.work)) (view r.work).at 0 = t.node ∙ node_seen r.work p in
      let l : with_load p (seen p (view r.work) (target_bits word)) (seen_in r) ≡ seen_in (noted r word) = ap (λ x. with_load p (record { node = x; field = r.work.machine.field; word = target_bits word }) (seen_in r)) (sym n) ∙ noted_seen p r word in
      record {
        course = subst (λ w. Course fields before w (seen_in (noted r word))) q (subst (λ ls. Course fields before (pointed (settled (learnt r.work word))) ls) l (went_course (learnt r.work word) (learnt_course r.work t.course t.due b word a)));
        due = ap is_due (sym q) ∙ settled_is_due (learnt r.work word);
        node = subst (λ (w : Work). w.machine.slot ≡ get_or (list_of w.machine.phase w.counts) w.machine.done 0) q refl;
      }

  pub told_next : Told fields before (noted r word)
  told_next = elim (idle_or_busy r.work.machine) [
    | inl e ↦ subst (λ q. Told fields before q) (sym (noted_idle r word e)) t
    | inr b ↦ told_busy b
  ]

-- a trial that is about to begin
pub opened_course : (fields : ℕ) (before : State) → 0 < fields → IsReady before → Course fields before (record { machine = opened_of fields; counts = before }) (record { marks = []; blacks = []; finds = [] })
opened_course fields before f k =
    let none : concat before.sets ≡ [] = ap (λ (sets : List (List ℕ)). concat sets) k.sets in
    course_of (record { machine = opened_of fields; counts = before })
    (opening_kept (first_view fields before) f k.no_gray k.no_white k.marked k.work none refl refl)
    (record { slots = refl; zeros = refl; no_roots = tt; few = rw k.sets (omega arith); free = refl })

pub begun_told : (fields : ℕ) (before : State) → 0 < fields → IsReady before → Told fields before (begun fields before)
unfolding started_of
begun_told fields before f k = record {
  course = went_course (record { machine = opened_of fields; counts = before }) (opened_course fields before f k);
  due = settled_is_due (record { machine = opened_of fields; counts = before });
  node = refl;
}

-- what leads to no released slot and to no Green one at first does so later
pub still_visible : (s before : State) (t : Option ℕ) → ((x : ℕ) → (slot_at s x).released ≡ (slot_at before x).released) → ((x : ℕ) → is_green (slot_at s x).colour ≡ is_green (slot_at before x).colour)
    → IfSome t (λ x. ((slot_at before x).released ≡ false) × (is_green (slot_at before x).colour ≡ false)) → IfSome t (λ x. ((slot_at s x).released ≡ false) × (is_green (slot_at s x).colour ≡ false))
still_visible s before None h g a = tt
still_visible s before (Some x) h g a = (h x ∙ a.0, g x ∙ a.1)

told_all : {fields : ℕ} {before : State} (words : List ℕ) (r : Run) → Told fields before r → AllLeadToVisible before words → Told fields before (fold noted r words)
told_all [] r t a = t
told_all {fields} {before} (word ∷ words) r t a = told_all words (noted r word) (told_next r t word (still_visible r.work.counts before (target_of word) (released_same r.work t.course) (green_same r.work t.course) a.0)) a.1

pub told_run : (fields : ℕ) (before : State) (words : List ℕ) → 0 < fields → IsReady before → AllLeadToVisible before words → Told fields before (run_of fields before words)
unfolding run_of
told_run fields before words f k a = told_all words (begun fields before) (begun_told fields before f k) a
