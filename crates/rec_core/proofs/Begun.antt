-- The batch is applied, and the first of its zeros is released: the tests of the sets that waited for it begin.
use Rattle.std.proofs.Common.{◌≡◌, inl, inr, ℕ, ◌+◌, ◌<◌, true, false, length, refl, sym, ap, subst, ◌∙◌, arith}
use Rattle.std.specs.List.{concat}
use Rattle.std.proofs.lemmas.Bool.{cases_lt, false≢true}
use Rattle.std.proofs.lemmas.List.{get_or_past}
use Rattle.rec_core.proofs.Common.{AccountMove, move_uncounted, move_accounted, State, slot_at, one, times, absent, Slot, times-nil, leaves, IsReady, IsCleared, Parts, parts_of, zeros_released, Opening, Returning, still, Core, HasCyclesAt, freeing_due, stand_at, one_if_sweeping, IsKeptBy, older_at, pending}
use Rattle.rec_counts.specs.Counts.{IsKept as IsKeptCounts}
use Rattle.rec_counts.specs.Batch.{IsApplied}
use Rattle.rec_collector.specs.Kept as collector_kept
use Rattle.rec_collector.proofs.Clearing.{zeros_clear, Clears}
use Rattle.rec_collector.proofs.Exchanging.{none_exchanged}
use Rattle.rec_collector.proofs.Following.{batched_clear, none_released, resting_cleared}
use Rattle.rec_core.proofs.Applying.{counted, is_counted, puts_is, applies, leaves_are}
use Rattle.rec_counts.proofs.Told.{leaves_told}
use Rattle.rec_core.proofs.Counts.{counted_slot}
use Rattle.rec_core.proofs.CyclesBatch.{is_batch_of, sets_test_begun}
use Rattle.rec_core.proofs.Landed.{landed_pending, HasCleared}
use Rattle.rec_core.proofs.Turns.{now_in}
use Rattle.rec_core.proofs.Zeros.{HasCome, cleared, zeros_come}

-- a member of a set is a slot that is there
member_there : (s : State) (x : ℕ) → IsKeptCounts s → 0 < times x (concat s.sets) → x < length s.slots
member_there s x k member = elim (cases_lt x (length s.slots)) [
  | inl below ↦ below
  | inr past ↦ absurd (omega (arith, member, k.buffers x, ap (λ (v : Slot). one v.buffered) (get_or_past s.slots x absent past)))
]

module _ (w : Core) (t : ℕ) (kept : IsKeptBy true (stand_at w.collector.left Opening) w) (phase : w.collector.phase ≡ Returning t) where
  open w use {collector as c}
  open kept use {collector.{slots}}

  -- the counts then, and the parts
  abbrev s : State
  s = counted w t kept phase

  abbrev batched : Parts
  batched = record (parts_of c) { counts = s }

  -- nothing was at work before
  open (now_in w (Returning t) kept phase) use {rest}

  is : IsApplied c.policy.steady c.counts c.newer c.older s
  is = is_counted w t kept phase

  ready : IsReady s
  ready = record { zeros = is.zeros; free = λ x there. absurd (omega (arith, there, ap (times x) (is.rest.free ∙ rest.free), times-nil x)) }

  unreleased : (x : ℕ) → x < w.config.slots → (slot_at s x).released ≡ true → ⊥
  unreleased x below gone = false≢true (sym (none_released rest x (omega (arith, below, slots))) ∙ sym (is.rest.released x) ∙ gone)

  -- the members of the sets are not released
  alive : (x : ℕ) → 0 < times x (concat c.counts.sets) → (pending w).released (x + 1) ≡ false
  alive x member =
      let there : x < length c.counts.slots = member_there c.counts x kept.collector.machine.counts member in
      ap (λ (v : Slot). v.released) (counted_slot c.counts x there) ∙ none_released rest x there

  pub batch_comes : HasCome w w.crossing w.words (still batched)
  batch_comes =
      let move = AccountMove.batch (applies w t kept phase) in
      record {
        landed = record {
          stands = stand_at c.left Opening;
          kept = kept;
          way = ap collector_kept.under_way phase;
          still = ap one_if_sweeping phase;
          older = ap (older_at w.epoch) phase;
          mutators = kept.mutators;
          accounted = move_accounted move kept.accounted;
          uncounted = λ _. move_uncounted move kept.accounted (kept.uncounted (ap freeing_due phase));
          sound = kept.sound;
          greens = λ x green. elim (cases_lt 0 (leaves x c.newer)) [ inl born ↦ leaves_are w t kept phase x born | inr none ↦ kept.greens x (sym (is.greens x (omega (arith, none, leaves_told c.policy.steady x c.newer c.older))) ∙ green) ];
          many_words = refl;
          slots = is.rest.slots ∙ slots;
          fields = kept.collector.fields;
          policy = kept.collector.policy;
          counts = is.lists kept.collector.machine.counts;
          listed = ready.free;
          emptied = λ x f below within released. absurd (unreleased x below released);
        };
        tests = sets_test_begun (pending w) (landed_pending w w.words s) c.counts s kept.accounted (applies w t kept phase) alive (is_batch_of (pending w) c.policy.steady c.newer c.older is (none_released rest) (puts_is w t kept phase))
            (subst (HasCyclesAt (pending w) c) phase kept.cycles);
      }

  -- the batch left the counts tidy
  batch_clears : Clears (zeros_released false batched) 0
  batch_clears =
      let before : IsCleared (parts_of c) = resting_cleared (parts_of c) rest in
      let tidy = batched_clear is (none_released rest) before.tidy rest.counted before.ready before.work in
      zeros_clear false batched 0 kept.collector.machine.some_fields (is.lists kept.collector.machine.counts) tidy.0 tidy.1 (is.rest.work ∙ before.work)
      (none_exchanged batched (λ x l. is.rest.released x ∙ none_released rest x (omega (arith, l, is.rest.slots))))

  -- The batch is applied, and the first of its zeros is released.
  pub applied_lands : HasCleared w w.crossing w.words (zeros_released false batched)
  applied_lands = cleared (zeros_come false batch_comes ready) batch_clears
