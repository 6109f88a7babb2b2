-- The contract of `parked_mutators_are_crossed_for`: the collector waits for no parked mutator, takes its deposit, and crosses for it where it left none.
use Rattle.rec_collector.proofs.CrossedFor.{crosses, takes_deposits, waits_for_none}
use Rattle.rec_collector.proofs.laws.parked_mutators_are_crossed_for.Goals as goal

pub returns : goal.returns
returns c = record { waits_for_none = waits_for_none; takes_deposits = takes_deposits; crosses = crosses }
