-- What is promised of the sets that pass both tests, and of the slots that are freed.
use Rattle.std.specs.Prelude.{◌≡◌, ℕ, ◌+◌, ◌<◌, ◌≤◌, true, length}
use Rattle.std.specs.List.{concat}
use Rattle.rec_model.specs.Accounted.{named, named_anywhere}
use Rattle.rec_model.specs.References.{IsInReach}
use Rattle.rec_model.specs.Sets.{PassesTests}
use Rattle.rec_counts.specs.Counts.{slot_at}
use Rattle.rec_counts.specs.Lists.{times}
use Rattle.rec_sigma.specs.Judged.{AreOrange, cyclic_sum}
use Rattle.rec_collector.specs.declared.phase.Phase.{Phase}
use Rattle.rec_collector.specs.declared.phase.Phase.TheVariants.{Releasing, Freeing}
use Rattle.rec_core.specs.Core.{Core}
use Rattle.rec_core.specs.Cycles.{is_member_of}
use Rattle.rec_core.specs.Pending.{pending}
use Rattle.rec_collector.specs.Given.{IsFreeingIn}

-- the sets of the last collection are tested
abbrev pub TestsSets : Phase → Type 0
TestsSets (Releasing release) = Unit {0}
TestsSets (Freeing freeing) = Unit {0}
TestsSets _ = ⊥

-- The set of this number passes the Delta test and the Sigma test: each member is Orange, and the members' outside counts sum to
-- zero.
pub record Passes (w : Core) (number : ℕ) : Type 0 where
  pub there : number < length w.collector.counts.sets
  pub orange : AreOrange w.collector.counts number
  pub none : cyclic_sum w.collector.counts number ≡ 0

-- Then, of the words that were seen in fields of its members as it was prepared, each that leads to a member is a reference of the
-- epoch whose batch was applied, and no member has more references than there are such words. So no member is in the reach of that
-- epoch.
pub record IsProvenGarbage (w : Core) (number : ℕ) : Type 0 where
  pub seen : ℕ → ℕ
  pub passes : PassesTests (pending w) (is_member_of w.collector.counts number) seen
  pub unreached : (node : ℕ) → is_member_of w.collector.counts number node ≡ true → IsInReach (pending w) (pending w).applied node → ⊥

-- A slot that was given up is in the reach of no epoch from that of the last batch on; and no register, no field of a slot that isn't
-- given up and nothing that is pending names it.
pub record IsGone (w : Core) (slot : ℕ) : Type 0 where
  pub unreached : (epoch : ℕ) → (pending w).applied ≤ epoch → IsInReach (pending w) epoch (slot + 1) → ⊥
  pub unnamed : named (pending w) (slot + 1) ≡ 0

-- So it is from when it is given up until it is freed, and a member of the set that is freed is given up.
pub record AreGone (w : Core) : Type 0 where
  pub released : (slot : ℕ) → slot < w.config.slots → (slot_at w.collector.counts slot).released ≡ true → IsGone w slot
  pub members : IsFreeingIn w.collector.phase → (slot : ℕ) → 0 < times slot w.collector.counts.work → (slot_at w.collector.counts slot).released ≡ true

-- No register, no field of any slot and nothing that is pending names the slot, and it stands in no list of the collector but the
-- free list.
pub record IsForgotten (w : Core) (slot : ℕ) : Type 0 where
  pub unnamed : named_anywhere (pending w) (slot + 1) ≡ 0
  pub roots : times slot w.collector.counts.roots ≡ 0
  pub sets : times slot (concat w.collector.counts.sets) ≡ 0
  pub marked : times slot w.collector.counts.marked ≡ 0
  pub work : times slot w.collector.counts.work ≡ 0
  pub zeros : times slot w.collector.counts.zeros ≡ 0
  pub free : times slot w.collector.counts.free ≡ 1
