-- The contract of `copy_in`: copies a register, in straight code.
use Rattle.std.proofs.Common.{Some, refl, ap, sym, ◌∙◌}
use Rattle.rec_model.specs.declared.answer.Answer.TheVariants as answers
use Rattle.rec_model.specs.declared.command.Cmd.{Cmd}
use Rattle.rec_model.specs.declared.command.Cmd.TheVariants as commands
use Rattle.recycler_c.proofs.Straight.{asked_so}
use Rattle.recycler_c.proofs.command.copy_in.Goals as goal

pub returns : goal.returns
returns c = (
  commands.Copy c.in-Some-Copy.dst c.in-Some-Copy.src,
  sym c.copy.ensures ∙ c.in-Some-Copy.is ∙ ap (λ (cmd : Cmd). Some cmd) c.in-Some-Copy.field-0-is,
  asked_so _ c.in-Mutating.out _ (commands.Copy c.in-Some-Copy.dst c.in-Some-Copy.src) answers.Done _ c.in-Mutating.is (c.can_ask.ensures.0 c.if-not-can_ask.false) refl c.copy-2.ensures c.show_answer.ensures,
)
