-- What always holds of the counts still does after each move and each word of a trial.
use Rattle.std.proofs.Common.{◌≡◌, ℕ, ◌<◌, true, false, Option, IsSome, [], ◌∷◌, length, refl, sym, ap, subst, ◌∙◌, arith}
use Rattle.std.proofs.lemmas.List.{length-set, length-map, length-append}
use Rattle.rec_trial.proofs.Common.{target_of, target_bits, Black, Gray, Orange, State, IsKept, slot_at, with_slot, without_root, one, is_gray, unreleased_within, field_kept, keep_slot, keep_pop_root, keep_begin, keep_join, relisted, Phase, IsAtWork, begins, learns, CanMark, CanScan, IsReady, LeadsToVisible, RulesAt, Machine, Work, next_of, settled, learnt_at, opened_of, started_of, took_of, advanced}
use Rattle.rec_counts.specs.declared.slot.Slot.{Slot}
use Rattle.rec_counts.specs.Lists as in_counts
use Rattle.rec_counts.specs.Slot.{is_in}
use Rattle.rec_counts.proofs.Times.{once_none, once_push}
use Rattle.rec_trial.specs.Moves.{touched_if, blackened_if, whitened, all_whitened, joined_if, with_new_set}
use Rattle.rec_trial.proofs.Conditions.{unbuffered_white, set_room, marked_in_range, root_range, first_there}
use Rattle.rec_trial.proofs.Moving.{settled_by, Moved, scan_begins, root_freed, root_marked, root_passed, scan_passes, scan_blackens, collect_begins, set_passes, set_begins, ends, tried_slot, moved}
use Rattle.rec_trial.proofs.Midway.{Midway, at_work_due, at_work_midway, going_midway, moved_midway, rules_midway}
use Rattle.rec_trial.proofs.Views.{whitened_same}
use Rattle.rec_trial.proofs.Runs.{took_busy}
use Rattle.rec_trial.proofs.Learning.{Learnt, takes_one, marks, blackens, joins, busy_phase, learnt_by}

-- a slot is marked that is not marked yet
touched_counted : (s : State) (x : ℕ) → x < length s.slots → in_counts.times x s.marked ≡ 0 → IsKept s → IsKept (touched_if false s x)
touched_counted s x l new k =
    let v : Slot = record (slot_at s x) { colour = Gray; cyclic = (slot_at s x).count } in
    let k' = keep_slot k x v refl refl in
    relisted k' (once_push _ s.marked x k'.marked_once new (omega (arith, l, length-set s.slots x v))) k'.work_once k'.zeros_once k'.free_once

-- a marked slot is Gray
unmarked : (s : State) → CanMark s → (x : ℕ) → is_gray (slot_at s x).colour ≡ false → in_counts.times x s.marked ≡ 0
unmarked s c x e = c.gray x ∙ ap one e

-- a slot becomes Black that is not in the work list yet
blackened_counted : (s : State) (x : ℕ) → x < length s.slots → in_counts.times x s.work ≡ 0 → IsKept s → IsKept (blackened_if true s x)
blackened_counted s x l new k =
    let v : Slot = record (slot_at s x) { colour = Black } in
    let k' = keep_slot k x v refl refl in
    relisted k' k'.marked_once (once_push _ s.work x k'.work_once new (omega (arith, l, length-set s.slots x v))) k'.zeros_once k'.free_once

unworked : (s : State) → CanScan s → (x : ℕ) → is_gray (slot_at s x).colour ≡ true → in_counts.times x s.work ≡ 0
unworked s c x e = grind (arith, c.work x)

-- a slot joins the last set that is in no buffer yet
joined_counted : (s : State) (x : ℕ) → x < length s.slots → 0 < length s.sets → (slot_at s x).buffered ≡ false → IsKept s → IsKept (joined_if true s x)
joined_counted s x l some new k =
    let v : Slot = record (slot_at s x) { colour = Orange } in
    let out : (slot_at (with_slot s x v) x).buffered ≡ false = field_kept (λ (u : Slot). u.buffered) s.slots x v refl x ∙ new in
    keep_join (keep_slot k x v refl refl) x _ some (omega (arith, l, length-set s.slots x v)) out refl refl

-- whitening changes colours alone
whitened_counted : (s : State) → IsKept s → IsKept (all_whitened s)
whitened_counted s k = record {
  buffers = λ x. k.buffers x ∙ ap one (sym (whitened_same (λ (v : Slot). v.buffered) (λ v. refl) s x));
  numbers = λ i x. k.numbers i x ∙ ap (λ (o : Option ℕ). one (is_in i o)) (sym (whitened_same (λ (v : Slot). v.set) (λ v. refl) s x));
  few_sets = rw (length-map s.slots whitened) k.few_sets;
  marked_once = rw (length-map s.slots whitened) k.marked_once;
  work_once = rw (length-map s.slots whitened) k.work_once;
  zeros_once = rw (length-map s.slots whitened) k.zeros_once;
  free_once = rw (length-map s.slots whitened) k.free_once;
  few_slots = rw (length-map s.slots whitened) k.few_slots;
}

moved_counted : {w v : Work} {p : Phase} → Moved w p v → RulesAt p w.counts → IsKept w.counts → IsKept v.counts
moved_counted (scan_begins e) c k = k
moved_counted {w} (root_freed x xs e o) c k =
    let kept = keep_pop_root k x xs _ e refl refl in
    relisted kept kept.marked_once kept.work_once kept.zeros_once (once_push _ w.counts.free x kept.free_once (c.unlisted x (first_there w.counts x xs e) o) (root_range w.counts k (x ∷ xs) e x refl))
moved_counted {w} (root_marked x xs e o q) c k = touched_counted (without_root (x ∷ xs) w.counts) x (root_range w.counts k (x ∷ xs) e x refl) (unmarked w.counts c x (ap is_gray q)) (keep_pop_root k x xs _ e refl refl)
moved_counted (root_passed x xs e o q) c k = keep_pop_root k x xs _ e refl refl
moved_counted (scan_passes l h) c k = k
moved_counted {w} (scan_blackens l g n) c k = blackened_counted w.counts (tried_slot w) (marked_in_range w.counts k w.machine.tried l) (unworked w.counts c (tried_slot w) g) k
moved_counted {w} (collect_begins l) c k = whitened_counted w.counts k
moved_counted (set_passes l h) c k = k
moved_counted {w} (set_begins l h) c k =
    let x : ℕ = tried_slot w in
    let range : x < length w.counts.slots = marked_in_range w.counts k w.machine.tried l in
    joined_counted (with_new_set w.counts) x range (omega (arith, length-append w.counts.sets ([] ∷ []))) (unbuffered_white w.counts k c x h) (keep_begin k (set_room w.counts k c x range h))
moved_counted (ends l) c k = relisted k (once_none _) (once_none _) k.zeros_once k.free_once

-- so after the moves up to the next load
settled_counted : (w : Work) → Midway w → IsKept w.counts → IsKept (settled w).counts
settled_counted w m k = (settled_by (λ v. Midway v × IsKept v.counts) (λ v h d. (moved_midway v h.0 d, moved_counted (moved v v.machine.phase d) (rules_midway v h.0) h.1)) w (m, k)).1

-- after its start
pub started_counted : (fields : ℕ) (s : State) → 0 < fields → IsKept s → IsReady s → IsKept (started_of fields s).counts
unfolding started_of
started_counted fields s f k r = settled_counted (record { machine = opened_of fields; counts = s }) (going_midway (begins f k r)) k

learnt_counted : {s t : State} {p : Phase} {code : ℕ} → Learnt s p code t → RulesAt p s → IsKept s → IsKept t
learnt_counted (takes_one x l g) c k = keep_slot k x _ refl refl
learnt_counted {s} (marks x live green g) c k = keep_slot (touched_counted s x (unreleased_within s x live) (unmarked s c x g) k) x _ refl refl
learnt_counted {s} (blackens x l g) c k = blackened_counted s x l (unworked s c x g) k
learnt_counted {s} (joins x l some g) c k = joined_counted s x l some (unbuffered_white s k c x g) k
learnt_counted _ c k = k

pub took_counted : (m : Machine) (s : State) → IsAtWork m s → IsSome (next_of m) → (word : ℕ) → LeadsToVisible s word → IsKept s → IsKept (took_of (record { machine = m; counts = s }) word).counts
took_counted m s a b word lead k =
    let w : Work = record { machine = m; counts = s } in
    let u : State = learnt_at m.phase s (target_of word) in
    let k' : IsKept u = learnt_counted (learnt_by s m.phase m.done (target_bits word) (λ e. busy_phase m e b) (at_work_due m s a) lead) (rules_midway w (at_work_midway m s a)) k in
    subst (λ (v : Work). IsKept v.counts) (sym (took_busy w word b)) (settled_counted (record { machine = advanced m; counts = u }) (going_midway (learns a b word lead)) k')
