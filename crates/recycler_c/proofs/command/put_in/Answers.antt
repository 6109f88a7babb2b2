-- The contract of `put_in`: writes a field, in straight code.
use Rattle.std.proofs.Common.{Some, refl, ap, sym, ◌∙◌}
use Rattle.rec_model.specs.declared.command.Cmd.{Cmd}
use Rattle.rec_model.specs.declared.command.Cmd.TheVariants as commands
use Rattle.recycler_c.proofs.Straight.{asked_so}
use Rattle.recycler_c.proofs.command.put_in.Goals as goal

pub returns : goal.returns
returns c = (
  commands.Put c.in-Some-Put.src c.in-Some-Put.field c.in-Some-Put.val,
  sym c.put.ensures ∙ c.in-Some-Put.is ∙ ap (λ (cmd : Cmd). Some cmd) c.in-Some-Put.field-0-is,
  asked_so _ c.in-Mutating.out _ (commands.Put c.in-Some-Put.src c.in-Some-Put.field c.in-Some-Put.val) c.put-answer.result _ c.in-Mutating.is (c.can_ask.ensures.0 c.if-not-can_ask.false) refl c.put-answer.ensures c.show_answer.ensures,
)
