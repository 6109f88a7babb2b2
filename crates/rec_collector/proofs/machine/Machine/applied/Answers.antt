-- The contract of `Machine::applied`: the batch is the one that the step applied, by its rule.
use Rattle.rec_collector.proofs.ShownSteps.{shown_as_made}
use Rattle.rec_collector.proofs.machine.Machine.applied.Goals as goal

pub returns-in_default-Looking-clause-made : goal.returns-in_default-Looking-clause-made
returns-in_default-Looking-clause-made c = λ word t. (shown_as_made t.before c.args.self.now word t.box c.args.op t.turn t.step t.kept t.given).batch

pub returns-clause-made : goal.returns-clause-made
returns-clause-made c = λ word t. (shown_as_made t.before c.args.self.now word t.box c.args.op t.turn t.step t.kept t.given).batch
