-- The contract of `zeros_are_exact`: in every phase of a machine the zeros are exactly the slots without a count that are neither released nor Orange.
use Rattle.rec_collector.proofs.Always.{machine_exact}
use Rattle.rec_collector.proofs.laws.zeros_are_exact.Goals as goal

pub returns : goal.returns
returns c = machine_exact
