-- The contract of `same_in`: compares two registers, in straight code.
use Rattle.std.proofs.Common.{Some, refl, ap, sym, ◌∙◌}
use Rattle.rec_model.specs.declared.command.Cmd.{Cmd}
use Rattle.rec_model.specs.declared.command.Cmd.TheVariants as commands
use Rattle.recycler_c.proofs.Straight.{asked_so}
use Rattle.recycler_c.proofs.command.same_in.Goals as goal

pub returns : goal.returns
returns c = (
  commands.Same c.in-Some-Same.a c.in-Some-Same.b,
  sym c.same.ensures ∙ c.in-Some-Same.is ∙ ap (λ (cmd : Cmd). Some cmd) c.in-Some-Same.field-0-is,
  asked_so _ c.in-Mutating.out _ (commands.Same c.in-Some-Same.a c.in-Some-Same.b) c.same-answer.result _ c.in-Mutating.is (c.can_ask.ensures.0 c.if-not-can_ask.false) refl c.same-answer.ensures c.show_answer.ensures,
)
