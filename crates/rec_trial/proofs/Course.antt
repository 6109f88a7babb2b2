-- The course of a trial over the counts: what holds of it by functions, and of the lists beside.
use Rattle.std.proofs.Common.{◌≡◌, ℕ, suc, ◌+◌, ◌<◌, ◌≤◌, Bool, true, false, ltb, IsSome, List, [], ◌∷◌, length, get_or, refl, sym, ap, subst, ◌∙◌, arith, add-one}
use Rattle.std.specs.List.{concat}
use Rattle.std.proofs.lemmas.List.{length-append, length-set}
use Rattle.std.proofs.lemmas.Bool.{false_from_ne_true, false≢true}
use Rattle.std.proofs.lemmas.Bool.Decides.{nat_tests}
use Rattle.rec_trial.proofs.Common.{target_of, target_bits, Gray, State, slot_at, without_root, is_green, is_purple, unreleased_within, Phase, Marking, Scanning, Collecting, LeadsToVisible, Machine, Work, next_of, learnt_at, advanced, begun_at, is_due_at, is_due, moved_at, opened_of}
use Rattle.rec_counts.specs.Groups.{last_set, earlier_sets}
use Rattle.rec_trial.specs.Moves.{touched_if, one_off, all_whitened, joined_if, with_new_set}
use Rattle.rec_trial.proofs.Totals.{nonzero, times, times_here}
use Rattle.rec_trial.proofs.Deletion.{Deletion, Loads, due_at, seen, with_load}
use Rattle.rec_trial.proofs.Deletion as plain
use Rattle.rec_trial.proofs.Holding.{WhileMarking, WhileScanning, WhileCollecting, inv_at, Inv, Same}
use Rattle.rec_trial.proofs.Marks.{times_push}
use Rattle.rec_trial.proofs.Learning.{Learnt, marks_none, takes_one, marks, scans_none, blackens, finds_none, joins, busy_phase, learnt_by}
use Rattle.rec_trial.proofs.Moving.{Moved, scan_begins, root_freed, root_marked, root_passed, scan_passes, scan_blackens, collect_begins, set_passes, set_begins, ends, next_try, tried_slot, moved}
use Rattle.rec_trial.proofs.Orders.{ordered_begin}
use Rattle.rec_trial.proofs.Turns.{mark_none, mark_old, mark_new, scan_loaded, scan_named, find_loaded, find_named, dropped, seeded, scan_begun, blackened, scan_tried, find_begun, joined, find_tried}
use Rattle.rec_trial.proofs.Done.{greens_at, walked_at}
use Rattle.rec_trial.proofs.Places.{ltb_no, ltb_yes}
use Rattle.rec_trial.proofs.Rest.{Rest, moved_rest, learnt_rest}
use Rattle.rec_trial.proofs.Views.{view_one_off, view_advanced, at_of, earlier, view_of, view, view_touched, view_blackened, view_joined, view_whitened, view_rootless, concat_last, concat_new, earlier_new}

-- the trial as it began
abbrev pub first_view : (fields : ℕ) → State → Deletion
first_view fields before = view_of (opened_of fields) before

-- a trial came this far, and loaded this
pub record Course (fields : ℕ) (before : State) (w : Work) (ls : Loads) : Type 0 where
  pub inv : Inv (first_view fields before) (view w) ls
  pub same : Same (first_view fields before) (view w)
  pub rest : Rest before w.machine.phase w.counts

pub course_of : {fields : ℕ} {before : State} (w : Work) {ls : Loads} → Inv (first_view fields before) (view w) ls → Rest before w.machine.phase w.counts → Course fields before w ls
course_of {fields} {before} w {ls} i r = record { inv = i; same = (walked_at w.machine.phase (first_view fields before) (view w) ls i).kept; rest = r }

-- the trial in this phase
abbrev pub at_phase : Phase → Work → Work
at_phase p w = record w { machine = record (w.machine) { phase = p } }

-- a load is due where it is seen to be due
shifted : (e a b : ℕ) → ltb (e + a) (e + b) ≡ ltb a b
shifted e a b = grind (arith, nat_tests)

members_are : (s : State) → length (concat s.sets) ≡ earlier s + length (last_set s.sets)
members_are s = ap length (concat_last s.sets) ∙ length-append (concat (earlier_sets s.sets)) (last_set s.sets)

pub due_seen : (w : Work) (p : Phase) → is_due_at p w.machine.done w.counts ≡ due_at p (view (at_phase p w))
due_seen w Collecting =
    sym (shifted (earlier w.counts) w.machine.done (length (last_set w.counts.sets)))
    ∙ ap (λ n. ltb (earlier w.counts + w.machine.done) n) (sym (members_are w.counts))
due_seen w _ = refl

-- what is marked is in range
pub alive_range : (s : State) (x : ℕ) → ((slot_at s x).released ≡ true → times x s.marked ≡ 0) → 0 < times x s.marked → x < length s.slots
alive_range s x h l = unreleased_within s x (false_from_ne_true (slot_at s x).released (λ e. omega (arith, h e, l)))

tried_range : (s : State) (k : ℕ) → ((x : ℕ) → (slot_at s x).released ≡ true → times x s.marked ≡ 0) → k < length s.marked → get_or s.marked k 0 < length s.slots
tried_range s k h l = alive_range s (get_or s.marked k 0) (h (get_or s.marked k 0)) (times_here s.marked k l)

no_sets : (sets : List (List ℕ)) → length sets ≤ length (concat sets) → concat sets ≡ [] → sets ≡ []
no_sets [] h e = refl
no_sets (xs ∷ sets) h e = absurd (omega (arith, ap length e))

-- a trial that learnt a word, before the moves that follow
abbrev pub learnt : Work → (word : ℕ) → Work
learnt w word = record { machine = advanced w.machine; counts = learnt_at w.machine.phase w.counts (target_of word) }

-- a move keeps what holds
module _ (o : Deletion) (w : Work) (ls : Loads) where
  -- what is seen of the trial in this phase, with another number of slots that it looked at
  abbrev seen_at : Phase → ℕ → Deletion
  seen_at p n = record (view (at_phase p w)) { tried = n }

  moved_kept : {before : State} {v : Work} {p : Phase} → Moved w p v → Rest before p w.counts → is_due_at p w.machine.done w.counts ≡ false → inv_at p o (view (at_phase p w)) ls → Inv o (view v) ls
  moved_kept (scan_begins e) r d i = scan_begun o (view (at_phase Marking w)) ls i (ltb_no w.machine.done (length w.counts.marked) d) e
  moved_kept (root_freed x xs e out) r d i =
      subst (λ s. WhileMarking o s ls) (sym (view_rootless (at_phase Marking w).machine w.counts x xs))
      (dropped o (view (at_phase Marking w)) ls i x xs e (λ q. absurd (false≢true (sym q.live ∙ sym (ap (λ (f : ℕ → Bool). f x) i.kept.released) ∙ out))))
  moved_kept (root_marked x xs e live k) r d i =
      let m : Machine = (at_phase Marking w).machine in
      let l : x < length w.counts.slots = unreleased_within w.counts x live in
      let q : view_of m (touched_if false (without_root (x ∷ xs) w.counts) x) ≡ record (plain.touch (view (at_phase Marking w)) x) { roots = xs } = view_touched m (without_root (x ∷ xs) w.counts) x (omega (arith, l, length-set w.counts.slots x (record (slot_at w.counts x) { buffered = false }))) ∙ ap (λ (s : Deletion). plain.touch s x) (view_rootless m w.counts x xs) in
      subst (λ s. WhileMarking o s ls) (sym q)
      (dropped o (plain.touch (view (at_phase Marking w)) x) ls (seeded o (view (at_phase Marking w)) ls i x (rw e (grind (arith, nat_tests))) k live) x xs e (λ q. grind (arith, nat_tests, times_push x x w.counts.marked)))
  moved_kept (root_passed x xs e live k) r d i =
      subst (λ s. WhileMarking o s ls) (sym (view_rootless (at_phase Marking w).machine w.counts x xs))
      (dropped o (view (at_phase Marking w)) ls i x xs e (λ q. nonzero (times x w.counts.marked) (λ z. false≢true (sym k ∙ ap is_purple (i.colours_old x z ∙ q.is_purple)))))
  moved_kept (scan_passes l h) r d i =
      subst (λ n. WhileScanning o (seen_at Scanning n) ls) (sym (add-one w.machine.tried))
      (scan_tried o (view (at_phase Scanning w)) ls i l h)
  moved_kept (scan_blackens l g c) r d i =
      let x : ℕ = tried_slot w in
      subst (λ s. WhileScanning o s ls) (sym (view_blackened (next_try Scanning w.machine) w.counts x (tried_range w.counts w.machine.tried i.alive l)))
      (subst (λ n. WhileScanning o (plain.blacken (seen_at Scanning n) x) ls) (sym (add-one w.machine.tried))
      (scan_tried o (plain.blacken (view (at_phase Scanning w)) x) ls (blackened o (view (at_phase Scanning w)) ls i x g c) l (λ q. grind (arith, nat_tests, q))))
  moved_kept (collect_begins l) r d i =
      let none : w.counts.sets ≡ [] = no_sets w.counts.sets r.few i.uncollected.nodes in
      let a : at_of Collecting 0 (earlier (all_whitened w.counts)) ≡ 0 = rw none refl in
      subst (λ s. WhileCollecting o s ls) (sym (view_whitened (begun_at Collecting w.machine.fields) w.counts))
      (subst (λ n. WhileCollecting o (record (view (at_phase Scanning w)) { phase = Collecting; at = n; field = 0; tried = 0; colour = plain.whiten (view w).colour }) ls) (sym a)
      (find_begun o (view (at_phase Scanning w)) ls i (ltb_no w.machine.done (length w.counts.work) d) (omega (arith, i.tries, l))))
  moved_kept (set_passes l h) r d i =
      subst (λ n. WhileCollecting o (seen_at Collecting n) ls) (sym (add-one w.machine.tried))
      (find_tried o (view (at_phase Collecting w)) ls i l h)
  moved_kept (set_begins l h) r d i =
      let x : ℕ = tried_slot w in
      let s : State = with_new_set w.counts in
      let n : w.machine.tried + 1 ≡ suc w.machine.tried = add-one w.machine.tried in
      let k : length s.sets ≡ suc (length w.counts.sets) = omega (arith, length-append w.counts.sets ([] ∷ [])) in
      let c : concat s.sets ≡ concat w.counts.sets = concat_new w.counts.sets in
      let full : earlier w.counts + w.machine.done ≡ length (concat w.counts.sets) = omega (arith, i.place.inside, members_are w.counts, ltb_no w.machine.done (length (last_set w.counts.sets)) d) in
      let a : earlier s + 0 ≡ earlier w.counts + w.machine.done = omega (arith, full, ap (λ (ys : List (List ℕ)). length (concat ys)) (earlier_new w.counts.sets)) in
      let q : view_of (record (next_try Collecting w.machine) { done = 0 }) (joined_if true s x) ≡ plain.join (record (seen_at Collecting (suc w.machine.tried)) { sets = suc (length w.counts.sets) }) x = view_joined (record (next_try Collecting w.machine) { done = 0 }) s x (tried_range w.counts w.machine.tried i.alive l) (omega (arith, k)) ∙ (λ j. plain.join (record (view (at_phase Collecting w)) { tried = n j; at = a j; members = c j; sets = k j }) x) in
      let order = ordered_begin (concat w.counts.sets) (view w).set_of (length w.counts.sets) (earlier w.counts + w.machine.done) ls.finds i.order full in
      subst (λ s. WhileCollecting o s ls) (sym q)
      (find_tried o (plain.join (record (view (at_phase Collecting w)) { sets = suc (length w.counts.sets) }) x) ls (joined o (view (at_phase Collecting w)) ls i x h (suc (length w.counts.sets)) (omega arith) order) l (grind (arith, nat_tests)))
  moved_kept (ends l) r d i = record {
    marked = w.counts.marked;
    work = w.counts.work;
    end = record {
      now = record { scanned = i.scanned; split = i.split; tested = i.tested; tries = i.tries; found = i.found; place = i.place; order = i.order };
      all_found = omega (arith, i.place.inside, members_are w.counts, ltb_no w.machine.done (length (last_set w.counts.sets)) d);
      all_tried = omega (arith, i.tries, l);
    };
    no_marked = refl;
    no_work = refl;
  }

  -- so does a word
  learnt_kept : {p : Phase} {code : ℕ} {t : State} → Learnt w.counts p code t → due_at p (view (at_phase p w)) ≡ true → inv_at p o (view (at_phase p w)) ls → inv_at p o (plain.advance (view_of (at_phase p w).machine t)) (with_load p (seen p (view (at_phase p w)) code) ls)
  learnt_kept marks_none d i = mark_none o (view (at_phase Marking w)) ls i (ltb_yes w.machine.done (length w.counts.marked) d)
  learnt_kept (takes_one x l g) d i =
      subst (λ s. WhileMarking o (plain.advance s) (with_load Marking (seen Marking (view (at_phase Marking w)) (suc x)) ls)) (sym (view_one_off (at_phase Marking w).machine w.counts x l))
      (mark_old o (view (at_phase Marking w)) ls i (ltb_yes w.machine.done (length w.counts.marked) d) x g)
  learnt_kept (marks x live green g) d i =
      let m : Machine = (at_phase Marking w).machine in
      let l : x < length w.counts.slots = unreleased_within w.counts x live in
      let q : view_of m (one_off (touched_if false w.counts x) x) ≡ plain.take_one (plain.touch (view (at_phase Marking w)) x) x = view_one_off m (touched_if false w.counts x) x (omega (arith, l, length-set w.counts.slots x (record (slot_at w.counts x) { colour = Gray; cyclic = (slot_at w.counts x).count }))) ∙ ap (λ (s : Deletion). plain.take_one s x) (view_touched m w.counts x l) in
      subst (λ s. WhileMarking o (plain.advance s) (with_load Marking (seen Marking (view (at_phase Marking w)) (suc x)) ls)) (sym q)
      (mark_new o (view (at_phase Marking w)) ls i (ltb_yes w.machine.done (length w.counts.marked) d) x g live green)
  learnt_kept (scans_none {code} n) d i = scan_loaded o (view (at_phase Scanning w)) ls i (ltb_yes w.machine.done (length w.counts.work) d) code n
  learnt_kept (blackens x l g) d i =
      subst (λ s. WhileScanning o (plain.advance s) (with_load Scanning (seen Scanning (view (at_phase Scanning w)) (suc x)) ls)) (sym (view_blackened (at_phase Scanning w).machine w.counts x l))
      (scan_named o (view (at_phase Scanning w)) ls i (ltb_yes w.machine.done (length w.counts.work) d) x g)
  learnt_kept (finds_none {code} n) d i = find_loaded o (view (at_phase Collecting w)) ls i (ltb_yes (view (at_phase Collecting w)).at (length (concat w.counts.sets)) d) code n
  learnt_kept (joins x l some g) d i =
      subst (λ s. WhileCollecting o (plain.advance s) (with_load Collecting (seen Collecting (view (at_phase Collecting w)) (suc x)) ls)) (sym (view_joined (at_phase Collecting w).machine w.counts x l some))
      (find_named o (view (at_phase Collecting w)) ls i (ltb_yes (view (at_phase Collecting w)).at (length (concat w.counts.sets)) d) x g)

-- all of it
module _ {fields : ℕ} {before : State} (w : Work) {ls : Loads} (c : Course fields before w ls) where
  pub released_same : (x : ℕ) → (slot_at w.counts x).released ≡ (slot_at before x).released
  released_same x = ap (λ (f : ℕ → Bool). f x) c.same.released

  pub green_same : (x : ℕ) → is_green (slot_at w.counts x).colour ≡ is_green (slot_at before x).colour
  green_same = greens_at w.machine.phase (first_view fields before) (view w) ls c.inv

  pub moved_course : is_due w ≡ false → Course fields before (moved_at w.machine.phase w) ls
  moved_course d =
      let m : Moved w w.machine.phase (moved_at w.machine.phase w) = moved w w.machine.phase d in
      course_of (moved_at w.machine.phase w) (moved_kept (first_view fields before) w ls m c.rest d c.inv) (moved_rest m released_same c.rest)

  pub learnt_course : is_due w ≡ true → IsSome (next_of w.machine) → (word : ℕ) → LeadsToVisible w.counts word → Course fields before (learnt w word) (with_load w.machine.phase (seen w.machine.phase (view w) (target_bits word)) ls)
  learnt_course d b word a =
      let p : Phase = w.machine.phase in
      let t : State = (learnt w word).counts in
      let k : Learnt w.counts p (target_bits word) t = learnt_by w.counts p w.machine.done (target_bits word) (λ e. busy_phase w.machine e b) d a in
      course_of (learnt w word)
      (subst (λ s. Inv (first_view fields before) s (with_load p (seen p (view w) (target_bits word)) ls)) (sym (view_advanced w.machine t)) (learnt_kept (first_view fields before) w ls k (sym (due_seen w p) ∙ d) c.inv))
      (subst (λ k. Rest before k t) (sym (ap (λ (v : Deletion). v.phase) (view_advanced w.machine t))) (learnt_rest k c.rest))
