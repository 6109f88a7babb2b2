-- The turn by which the collector crosses for a parked mutator that left no deposit.
use Rattle.std.specs.Prelude.{◌≡◌, ◌≢◌, ℕ, ◌-◌, ◌<◌, true, []}
use Rattle.rec_collector.specs.Private.{Private, buffer_at}
use Rattle.rec_collector.specs.Shown.{applied_newer}
use Rattle.rec_collector.specs.declared.phase.Phase.TheVariants.{Looking, Swapping}

-- It led behind this mutator, and took no mailbox. The mutator's newer buffer, also where the turn completed the collection, has no
-- entries, and as its snapshot the registers of the mutator's last crossing, which the older buffer has.
pub record IsCrossedFor (p q : Private) (t : ℕ) : Type 0 where
  pub behind : (next : ℕ) → q.phase ≡ Looking next → t < next
  pub none_held : (u : ℕ) → q.phase ≢ Swapping u
  pub entries : (buffer_at (applied_newer q) (t - 1)).entries ≡ []
  pub snapshot : (buffer_at (applied_newer q) (t - 1)).snapshot ≡ (buffer_at p.older (t - 1)).snapshot
  pub marked : (buffer_at (applied_newer q) (t - 1)).still ≡ true
