-- The contract of `command`: the command of a line with this first word and what is behind it, in a mutator that has so many and hasn't left, in a script of this version.
use Rattle.std.proofs.Common.{ℕ, sym, subst}
use Rattle.std.proofs.lemmas.Result.{IfErr-weaker, IfOk-weaker}
use Rattle.rec_script.specs.Lines.{words}
use Rattle.rec_script.specs.Operands.{AreMisread}
use Rattle.rec_script.specs.Script.{IsBadCommand, limits_of}
use Rattle.rec_script.proofs.Commands.{bad_operands, same_allowed}
use Rattle.rec_script.proofs.command.command.Goals as goal

pub returns-in-Some-clause-wrong : goal.returns-in-Some-clause-wrong
returns-in-Some-clause-wrong c =
    IfErr-weaker c.with_operands.result _ _
    (λ kind h cmds same stays.
    bad_operands c.args.version c.args.registers c.args.fields cmds c.in-Some.named c.args.word.now (words c.args.rest.now) kind stays c.in-Some.ensures.allowed c.in-Some.ensures.some
    (subst (λ (n : ℕ). AreMisread n (limits_of c.args.registers c.args.fields c.in-Some.named) (words c.args.rest.now) kind) (sym same) h))
    c.with_operands.ensures.wrong

pub returns-in-Some-clause-allowed : goal.returns-in-Some-clause-allowed
returns-in-Some-clause-allowed c =
    IfOk-weaker c.with_operands.result _ _ (λ cmd h. same_allowed c.args.version c.in-Some.named cmd (sym h) c.in-Some.ensures.allowed) c.with_operands.ensures.word

pub returns-in-None-clause-wrong : goal.returns-in-None-clause-wrong
returns-in-None-clause-wrong c = λ cmds same stays. IsBadCommand.unknown (λ cmd its shape. c.in-None.ensures.none cmd its shape.0)
