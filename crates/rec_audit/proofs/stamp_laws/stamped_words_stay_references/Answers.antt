-- What is loaded from the heap behind is told by the stamps of the heap itself.
use Rattle.rec_audit.proofs.StampDates.{end_dated}
use Rattle.rec_audit.proofs.StampedLoads.{stays_by_stamps}
use Rattle.rec_audit.proofs.stamp_laws.stamped_words_stay_references.Goals as goal

pub returns : goal.returns
returns c = λ w moves l config run fit. let (v, e, all) = end_dated w config run in stays_by_stamps v w e all moves fit l
