-- A work that begins is seen by nobody.
use Rattle.std.proofs.Common.{◌≡◌, ℕ, List, Option, refl, ap}
use Rattle.rec_core.proofs.Common.{Sight, begun_of, Core, sight, mutator, begun_from}
use Rattle.rec_mutator.specs.declared.work.Work.{Work}
use Rattle.rec_core.proofs.Steps.{registers_stay}

-- a work that begins is seen by nobody
pub begun_sight : (w : Core) (t : ℕ) (work : Work) (from : ℕ) → sight (begun_from w t work from) ≡ sight w
unfolding begun_of
begun_sight w t work from = ap (λ (rss : List (List (Option ℕ))). let s : Sight = record (sight w) { registers = rss } in s) (registers_stay w t (begun_of (mutator w t) work from) refl)
