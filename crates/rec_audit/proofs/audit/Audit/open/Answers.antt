-- An audit of no step.
use Rattle.std.proofs.Common.{◌≡◌, ◌∙◌, ◌++◌, ◌∷◌, [], ap, arith}
use Rattle.std.proofs.lemmas.Grind.{common_steps}
use Rattle.std.proofs.lemmas.Result.{IfOk-from_err}
use Rattle.rec_audit.specs.declared.kind.Kind.TheVariants.{Title, Heap}
use Rattle.rec_audit.specs.Lines.{text_of_line}
use Rattle.rec_audit.specs.Journal.{line_of}
use Rattle.rec_audit.proofs.Written.{opened}
use Rattle.rec_audit.proofs.audit.Audit.open.Goals as goal

pub returns-in_err-push_line : goal.returns-in_err-push_line
returns-in_err-push_line c = IfOk-from_err c.from_residual.result _ c.from_residual.ensures.0

pub returns-in_err-push_line-2 : goal.returns-in_err-push_line-2
returns-in_err-push_line-2 c = IfOk-from_err c.from_residual-in_err-push_line-2.result _ c.from_residual-in_err-push_line-2.ensures.0

pub returns : goal.returns
returns c =
    let sizes : c.map-heap.result ≡ c.args.slots ∷ c.args.fields ∷ c.args.registers ∷ c.args.mutators ∷ c.args.first ∷ [] = grind (arith, common_steps) in
    opened (record { slots = c.args.slots; fields = c.args.fields; registers = c.args.registers; mutators = c.args.mutators; first = c.args.first }) c.push_line.new.text.items c.push_line-2.new.text.items
    (c.in_ok-push_line.ensures ∙ ap (λ t. t ++ text_of_line (line_of Title (1 ∷ []))) c.new-text.ensures.items)
    (c.in_ok-push_line-2.ensures ∙ ap (λ ns. c.push_line.new.text.items ++ text_of_line (line_of Heap ns)) sizes)
