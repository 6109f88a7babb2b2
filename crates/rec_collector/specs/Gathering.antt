-- What holds where a collection goes on to the next mutator that it gathers from.
use Rattle.std.specs.Prelude.{ℕ, ◌+◌, ◌*◌, ◌^◌, ◌≤◌, length}
use Rattle.rec_counts.specs.Batch.{IsCovered}
use Rattle.rec_collector.specs.Kept.{AreSpare, IsAtRest}
use Rattle.rec_collector.specs.Present.{HaveLeft}
use Rattle.rec_collector.specs.Private.{Private, parts_of}
use Rattle.rec_collector.specs.Testing.{told}

-- An epoch is requested, the mutators up to this one were looked at or have left, and the buffers of those behind it are spares. Where
-- all of them have left, the batch is covered.
pub record MayGatherBehind (p : Private) (t : ℕ) : Type 0 where
  pub there : t ≤ length p.newer
  pub rest : IsAtRest (parts_of p)
  pub spares : AreSpare p t
  pub turns : p.turns ≤ 2 * t
  pub requested : p.collections + 1 ≤ p.epoch
  pub freed : p.freed ≤ 2 ^ 16 * p.collections
  pub told : told p.sets + length p.counts.sets ≤ 2 ^ 16 * p.collections
  pub covered : HaveLeft p.left t → IsCovered p.counts p.newer p.older
