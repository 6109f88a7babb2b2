-- The contract of `note`: what a line tells is kept.
use Rattle.std.proofs.Common.{◌+◌, ℕ, sym, ap, ◌∙◌, arith}
use Rattle.rec_audit.specs.declared.form.Form.{Form}
use Rattle.rec_audit.proofs.Telling.{few_sets, knows_more}
use Rattle.rec_audit.proofs.checker.Checker.note.Goals as goal
use Rattle.rec_audit.specs.Journal.{line_of}

pub overflow_add-self : goal.overflow_add-self
overflow_add-self c = omega (arith, c.requires.few, c.sets_in.ensures, few_sets c.args.kind)

pub returns-clause-ready : goal.returns-clause-ready
returns-clause-ready c = record { sized = c.in_ok-tell.ensures.sized; size = c.in_ok-tell.ensures.size ∙ ap (λ (f : Form). f.heap.slots) (sym c.behind-self.ensures) }

pub returns-clause-few : goal.returns-clause-few
returns-clause-few c = omega (arith, c.sets_in.ensures, few_sets c.args.kind)

pub returns-clause-knows : goal.returns-clause-knows
returns-clause-knows c = λ lines knows clean.
    knows_more lines (line_of c.args.kind c.args.numbers.now) c.args.self.now _ knows c.requires.stands clean
    (c.in_ok-tell.ensures.graph lines knows.clean.stand knows.form knows.graph) c.behind-self.ensures (ap (λ (n : ℕ). c.args.self.now.sets + n) c.sets_in.ensures)
