-- The contract of `get_in`: reads a field, in straight code.
use Rattle.std.proofs.Common.{Some, refl, ap, sym, ◌∙◌}
use Rattle.rec_model.specs.declared.command.Cmd.{Cmd}
use Rattle.rec_model.specs.declared.command.Cmd.TheVariants as commands
use Rattle.recycler_c.proofs.Straight.{asked_so}
use Rattle.recycler_c.proofs.command.get_in.Goals as goal

pub returns : goal.returns
returns c = (
  commands.Get c.in-Some-Get.dst c.in-Some-Get.src c.in-Some-Get.field,
  sym c.get.ensures ∙ c.in-Some-Get.is ∙ ap (λ (cmd : Cmd). Some cmd) c.in-Some-Get.field-0-is,
  asked_so _ c.in-Mutating.out _ (commands.Get c.in-Some-Get.dst c.in-Some-Get.src c.in-Some-Get.field) c.get-answer.result _ c.in-Mutating.is (c.can_ask.ensures.0 c.if-not-can_ask.false) refl c.get-answer.ensures c.show_answer.ensures,
)
