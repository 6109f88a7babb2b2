-- A whole batch: what is known of the counts afterwards.
use Rattle.std.proofs.Common.{◌≡◌, ℕ, ◌+◌, ◌≤◌, ◌||◌, Bool, true, false, eqb, ltb, List, [], flat_map, length, refl, sym, ap, arith, ◌∙◌}
use Rattle.std.proofs.lemmas.Bool.{false≢true, le-ltb, lt-ltb, ne_eqb}
use Rattle.rec_counts.specs.declared.colour.Colour.TheVariants.{Purple}
use Rattle.rec_counts.specs.declared.slot.Slot.{Slot}
use Rattle.rec_counts.specs.Batched.{batched_at, counted_at}
use Rattle.rec_counts.specs.Colour.{is_green}
use Rattle.rec_counts.specs.Counts.{State, slot_at}
use Rattle.rec_counts.specs.Lists.{times}
use Rattle.rec_counts.specs.Slot.{settled, settled_if}
use Rattle.rec_counts.specs.Touched.{greened_if, mark_of, settled_at}
use Rattle.rec_counts.proofs.Batching.{at_each, batched_all_zeros, batched_kept, batched_rest, batched_zeros, count_at, counted_released, settled_green, unnamed_at}
use Rattle.rec_counts.proofs.ToldSlots.{mark_taken_of}
use Rattle.rec_log.specs.declared.contents.Contents.{Contents}
use Rattle.rec_counts.specs.Batch.{applied, AreAlike, batch, IsApplied, IsBatch, IsCovered}
use Rattle.rec_counts.specs.Targets.{added, leaves, slots_in, taken, taken_targets, told_buffers}
use Rattle.rec_counts.proofs.Told.{told_covered, told_even}
use Rattle.rec_counts.proofs.Touching.{batch_touched, taken_times}

-- nothing is told of the slots past the last one
none_past : (s : State) (newer older : List Contents) → IsCovered s newer older → (x : ℕ) → length s.slots ≤ x → leaves x newer + added x newer + times x (slots_in (flat_map taken_targets older)) ≡ 0
none_past s newer older c x l = omega (arith, c.in_range x l, c.born x l, taken_times x older)

-- a slot that isn't released nor Green, and has a count, is a candidate root once something was taken off
rooted : (r g n : Bool) (v : Slot) → r ≡ false → g ≡ false → n ≡ false → ((settled_if (r || g) n v).colour ≡ Purple) × ((settled_if (r || g) n v).buffered ≡ true)
rooted true g n v e f h = absurd (false≢true (sym e))
rooted false true n v e f h = absurd (false≢true (sym f))
rooted false false true v e f h = absurd (false≢true (sym h))
rooted false false false v e f h = (refl, refl)

-- what is known of the counts after a batch
is_batch : (s : State) (newer older : List Contents) → s.zeros ≡ [] → IsCovered s newer older → IsBatch s newer older (batch s newer older)
unfolding batch
is_batch s newer older z c = record {
  count = λ x. omega (arith, ap (λ (v : Slot). v.count) (each x), count_at s born more less x, taken_times x older, c.covered x);
  touched = batch_touched s newer older;
  same = λ x none. each x ∙ unnamed_at (leaves x newer) (added x newer) (times x less) (slot_at s x) (omega (arith, none)) (omega (arith, none)) (omega (arith, none, taken_times x older));
  greens = λ x unborn. green x ∙ ap (λ b. is_green (greened_if b (slot_at s x)).colour) (le-ltb 0 (leaves x newer) (omega (arith, unborn)));
  born = λ x some. green x ∙ ap (λ b. is_green (greened_if b (slot_at s x)).colour) (lt-ltb 0 (leaves x newer) some);
  roots = λ x r some g n.
      let w : Slot = counted_at s.slots born more less x in
      let is : slot_at (batch s newer older) x ≡ settled w = each x ∙ ap (λ m. settled_at m w) (ap (mark_of (ltb 0 (added x newer))) (lt-ltb 0 (times x less) (omega (arith, some, taken_times x older))) ∙ mark_taken_of (ltb 0 (added x newer))) in
      let still : is_green w.colour ≡ false = sym (green x) ∙ g in
      let count : w.count ≡ (slot_at (batch s newer older) x).count = sym (ap (λ (v : Slot). v.count) (each x) ∙ count_at s born more less x) in
      let root = rooted w.released (is_green w.colour) (eqb w.count 0) w (counted_released s born more less x ∙ r) still (ne_eqb w.count 0 (λ e. omega (arith, n, count, e))) in
      (ap (λ (v : Slot). v.colour) is ∙ root.0, ap (λ (v : Slot). v.buffered) is ∙ root.1);
  zeros = batched_zeros s born more less (none_past s newer older c) z;
  all_zeros = batched_all_zeros s born more less (none_past s newer older c) z;
  lists = batched_kept s born more less z;
  rest = batched_rest s born more less (none_past s newer older c);
}
  where
    born : ℕ → ℕ
    born = λ x. leaves x newer

    more : ℕ → ℕ
    more = λ x. added x newer

    less : List ℕ
    less = slots_in (flat_map taken_targets older)

    each : (x : ℕ) → slot_at (batch s newer older) x ≡ batched_at s.slots born more less x
    each = at_each s born more less (none_past s newer older c)

    green : (x : ℕ) → is_green (slot_at (batch s newer older) x).colour ≡ is_green (counted_at s.slots born more less x).colour
    green x = ap (λ (v : Slot). is_green v.colour) (each x) ∙ settled_green (mark_of (ltb 0 (more x)) (ltb 0 (times x less))) (counted_at s.slots born more less x)

-- the same of the batch of a heap, steady or not
pub is_applied : (steady : Bool) (s : State) (newer older : List Contents) → s.zeros ≡ [] → AreAlike newer older → IsCovered s newer older → IsApplied steady s newer older (applied steady s newer older)
is_applied steady s newer older z a c = is_batch s (told_buffers steady newer older) (told_buffers steady older newer) z (told_covered steady s newer older a c)

-- each count is the old one, plus what is added, less what is taken off, as the buffers have it
pub applied_count : (steady : Bool) (s : State) (newer older : List Contents) {t : State} → AreAlike newer older → IsApplied steady s newer older t → (x : ℕ) → (slot_at t x).count + taken x older ≡ (slot_at s x).count + added x newer
applied_count steady s newer older a b x = omega (arith, b.count x, told_even steady x newer older a)
