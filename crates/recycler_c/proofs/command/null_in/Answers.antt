-- The contract of `null_in`: lets a register be null, in straight code.
use Rattle.std.proofs.Common.{Some, refl, ap, sym, ◌∙◌}
use Rattle.rec_model.specs.declared.answer.Answer.TheVariants as answers
use Rattle.rec_model.specs.declared.command.Cmd.{Cmd}
use Rattle.rec_model.specs.declared.command.Cmd.TheVariants as commands
use Rattle.recycler_c.proofs.Straight.{asked_so}
use Rattle.recycler_c.proofs.command.null_in.Goals as goal

pub returns : goal.returns
returns c = (
  commands.Null c.in-Some-Null.reg,
  sym c.null.ensures ∙ c.in-Some-Null.is ∙ ap (λ (cmd : Cmd). Some cmd) c.in-Some-Null.field-0-is,
  asked_so _ c.in-Mutating.out _ (commands.Null c.in-Some-Null.reg) answers.Done _ c.in-Mutating.is (c.can_ask.ensures.0 c.if-not-can_ask.false) refl c.null-2.ensures c.show_answer.ensures,
)
