-- The contract of `orange_members_have_outside_counts`: while prepared sets wait for their tests and are tested, the cyclic count of each member that is Orange is its outside count, of which each reference lowered since preparation took one off: its true count now, less the words that preparation saw in fields of the set's members.
use Rattle.rec_collector.proofs.Outside.{machine_outside, outside_cyclic}
use Rattle.rec_collector.proofs.laws.orange_members_have_outside_counts.Goals as goal

pub returns-clause-outside : goal.returns-clause-outside
returns-clause-outside c = machine_outside

pub returns-clause-cyclic : goal.returns-clause-cyclic
returns-clause-cyclic c = outside_cyclic
