-- The contract of `Machine::took_as`: learns the word that the operation of `next` found, of a machine of a known kind.
use Rattle.std.proofs.Common.{◌∙◌}
use Rattle.rec_collector.proofs.Common.{IsMachine}
use Rattle.rec_collector.proofs.Steps.{has_cause, waits, spends}
use Rattle.rec_collector.proofs.Always.{within_limit}
use Rattle.rec_collector.proofs.machine.Machine.took_as.Goals as goal

pub returns-clause-cause : goal.returns-clause-cause
returns-clause-cause c =
    let k : IsMachine c.args.self.now = c.rules.ensures in
    rw (c.learn_as.ensures.took, c.learn_as.ensures.turn) (has_cause c.args.self.now c.args.word k)

pub returns-clause-waiting : goal.returns-clause-waiting
returns-clause-waiting c = λ t is other. c.learn_as.ensures.turn ∙ waits c.args.self.now c.args.word t is other

pub returns-clause-spent : goal.returns-clause-spent
returns-clause-spent c =
    let k : IsMachine c.args.self.now = c.rules.ensures in
    λ n. c.learn_as.ensures.turn ∙ spends c.args.self.now c.args.word k n

pub returns-clause-limit : goal.returns-clause-limit
returns-clause-limit c = within_limit c.learn_as.new.self c.learn_as.ensures.kept
