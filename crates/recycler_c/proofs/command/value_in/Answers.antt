-- The contract of `value_in`: tells a label, in straight code.
use Rattle.std.proofs.Common.{Some, refl, ap, sym, ◌∙◌}
use Rattle.rec_model.specs.declared.command.Cmd.{Cmd}
use Rattle.rec_model.specs.declared.command.Cmd.TheVariants as commands
use Rattle.recycler_c.proofs.Straight.{asked_so}
use Rattle.recycler_c.proofs.command.value_in.Goals as goal

pub returns : goal.returns
returns c = (
  commands.Value c.in-Some-Value.reg,
  sym c.value.ensures ∙ c.in-Some-Value.is ∙ ap (λ (cmd : Cmd). Some cmd) c.in-Some-Value.field-0-is,
  asked_so _ c.in-Mutating.out _ (commands.Value c.in-Some-Value.reg) c.value-answer.result _ c.in-Mutating.is (c.can_ask.ensures.0 c.if-not-can_ask.false) refl c.value-answer.ensures c.show_answer.ensures,
)
