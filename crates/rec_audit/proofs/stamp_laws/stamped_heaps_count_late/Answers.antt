-- What the heap of dated words keeps is told by the stamps of the heap itself.
use Rattle.rec_audit.proofs.StampDates.{end_dated}
use Rattle.rec_audit.proofs.StampedLate.{counted_by_stamps, forgotten_by_stamps, garbage_by_stamps, gone_by_stamps, shown_by_stamps}
use Rattle.rec_audit.proofs.stamp_laws.stamped_heaps_count_late.Goals as goal

pub returns-clause-counts : goal.returns-clause-counts
returns-clause-counts c = λ w slot config run. let (v, e, all) = end_dated w config run in counted_by_stamps v w e all slot

pub returns-clause-passed : goal.returns-clause-passed
returns-clause-passed c = λ w number config run. let (v, e, all) = end_dated w config run in garbage_by_stamps v w e all number

pub returns-clause-gone : goal.returns-clause-gone
returns-clause-gone c = λ w config run. let (v, e, all) = end_dated w config run in gone_by_stamps v w e all

pub returns-clause-forgotten : goal.returns-clause-forgotten
returns-clause-forgotten c = λ w slot config run. let (v, e, all) = end_dated w config run in forgotten_by_stamps v w e all slot

pub returns-clause-shown : goal.returns-clause-shown
returns-clause-shown c = λ w members slot config run. let (v, e, all) = end_dated w config run in shown_by_stamps v w e all members slot
