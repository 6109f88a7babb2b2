-- The contract of `take`: the line at the front of the bytes is taken, or is at fault.
use Rattle.std.proofs.Common.{◌≡◌, ◌++◌, ℕ, List, sym, ◌∙◌, subst, arith}
use Rattle.std.proofs.lemmas.Bool.{false≢true}
use Rattle.std.proofs.lemmas.Result.{IfOk-from_err}
use Rattle.rec_audit.specs.Lines.{Line, text_of_line}
use Rattle.rec_audit.specs.Form.{MayStand}
use Rattle.rec_audit.proofs.Telling.{fault_of, goes_on, knows_still, longer, none_goes, none_stands}
use Rattle.rec_audit.proofs.checker.Checker.take.Goals as goal
use Rattle.rec_audit.specs.Journal.{line_of}

pub returns-in_default-clause-fault : goal.returns-in_default-clause-fault
returns-in_default-clause-fault c = λ lines knows. none_goes lines c.args.bytes.now c.requires.some (rw c.in_default.is at c.in_ok-kind.ensures).none

pub returns-then-not-may_stand-clause-fault : goal.returns-then-not-may_stand-clause-fault
returns-then-not-may_stand-clause-fault c = λ lines knows.
    let read = rw c.in-Some.is at c.in_ok-kind.ensures in
    none_stands lines c.args.bytes.now c.in-Some.rest.now c.args.self.now.form (line_of c.in-Some.kind c.read_line.new.numbers.items) knows.form c.requires.some read.found read.fit
    (λ stands. false≢true (sym c.if-not-may_stand.true ∙ c.may_stand.ensures.1 (subst (λ (ns : List ℕ). MayStand c.args.self.now.form (line_of c.in-Some.kind ns)) (sym c.as_slice-line.ensures.value) stands)))

pub returns-in-Some-2-clause-fault : goal.returns-in-Some-2-clause-fault
returns-in-Some-2-clause-fault c = λ lines knows.
    let read = rw c.in-Some.is at c.in_ok-kind.ensures in
    let found = rw c.in-Some-2.is at c.in_ok-rule.ensures in
    fault_of c.in-Some-2.rule lines c.args.bytes.now (line_of c.in-Some.kind c.as_slice-line.result.now) (found.found lines knows.graph)
    (goes_on lines c.args.bytes.now c.in-Some.rest.now c.args.self.now.form (line_of c.in-Some.kind c.as_slice-line.result.now) knows.form
    (subst (λ (ns : List ℕ). c.args.bytes.now ≡ text_of_line (line_of c.in-Some.kind ns) ++ c.in-Some.rest.now) (sym c.as_slice-line.ensures.value) read.found)
    (c.may_stand.ensures.0 c.if-not-may_stand.false))

pub returns-in_err-kind-clause-ready : goal.returns-in_err-kind-clause-ready
returns-in_err-kind-clause-ready c = IfOk-from_err c.from_residual.result _ c.from_residual.ensures.0

pub returns-in_err-kind-clause-less : goal.returns-in_err-kind-clause-less
returns-in_err-kind-clause-less c = IfOk-from_err c.from_residual.result _ c.from_residual.ensures.0

pub returns-in_err-kind-clause-few : goal.returns-in_err-kind-clause-few
returns-in_err-kind-clause-few c = IfOk-from_err c.from_residual.result _ c.from_residual.ensures.0

pub returns-in_err-kind-clause-taken : goal.returns-in_err-kind-clause-taken
returns-in_err-kind-clause-taken c = IfOk-from_err c.from_residual.result _ c.from_residual.ensures.0

pub returns-in_err-kind-clause-fault : goal.returns-in_err-kind-clause-fault
returns-in_err-kind-clause-fault c = IfOk-from_err c.from_residual.result _ c.from_residual.ensures.0

pub fault-requires-clause-sized : goal.fault-requires-clause-sized
fault-requires-clause-sized c = c.requires.ready.sized

pub fault-requires-clause-size : goal.fault-requires-clause-size
fault-requires-clause-size c = c.requires.ready.size

pub fault-requires-clause-stands : goal.fault-requires-clause-stands
fault-requires-clause-stands c = c.may_stand.ensures.0 c.if-not-may_stand.false

pub returns-in_err-rule-clause-ready : goal.returns-in_err-rule-clause-ready
returns-in_err-rule-clause-ready c = IfOk-from_err c.from_residual-in_err-rule.result _ c.from_residual-in_err-rule.ensures.0

pub returns-in_err-rule-clause-less : goal.returns-in_err-rule-clause-less
returns-in_err-rule-clause-less c = IfOk-from_err c.from_residual-in_err-rule.result _ c.from_residual-in_err-rule.ensures.0

pub returns-in_err-rule-clause-few : goal.returns-in_err-rule-clause-few
returns-in_err-rule-clause-few c = IfOk-from_err c.from_residual-in_err-rule.result _ c.from_residual-in_err-rule.ensures.0

pub returns-in_err-rule-clause-taken : goal.returns-in_err-rule-clause-taken
returns-in_err-rule-clause-taken c = IfOk-from_err c.from_residual-in_err-rule.result _ c.from_residual-in_err-rule.ensures.0

pub returns-in_err-rule-clause-fault : goal.returns-in_err-rule-clause-fault
returns-in_err-rule-clause-fault c = IfOk-from_err c.from_residual-in_err-rule.result _ c.from_residual-in_err-rule.ensures.0

pub note-requires-clause-ready : goal.note-requires-clause-ready
note-requires-clause-ready c = record { sized = c.in_ok-rule.ensures.sized; size = c.in_ok-rule.ensures.size ∙ c.requires.ready.size }

pub note-requires-clause-stands : goal.note-requires-clause-stands
note-requires-clause-stands c = c.may_stand.ensures.0 c.if-not-may_stand.false

pub returns-clause-taken : goal.returns-clause-taken
returns-clause-taken c = λ lines knows.
    let read = rw c.in-Some.is at c.in_ok-kind.ensures in
    let clear = rw c.in_default-2.is at c.in_ok-rule.ensures in
    let line : Line = line_of c.in-Some.kind c.as_slice-line.result.now in
    record {
      line = line;
      text = subst (λ (ns : List ℕ). c.args.bytes.now ≡ text_of_line (line_of c.in-Some.kind ns) ++ c.in-Some.rest.now) (sym c.as_slice-line.ensures.value) read.found;
      knows = c.in_ok-note.ensures.knows lines (knows_still lines c.args.self.now c.fault.new.graph knows (clear.graph lines knows.graph)) (clear.none lines knows.graph);
    }

pub returns-clause-less : goal.returns-clause-less
returns-clause-less c =
    let read = rw c.in-Some.is at c.in_ok-kind.ensures in
    longer c.args.bytes.now c.in-Some.rest.now (line_of c.in-Some.kind c.read_line.new.numbers.items) read.found

pub returns-clause-few : goal.returns-clause-few
returns-clause-few c =
    let read = rw c.in-Some.is at c.in_ok-kind.ensures in
    omega (arith, longer c.args.bytes.now c.in-Some.rest.now (line_of c.in-Some.kind c.read_line.new.numbers.items) read.found, c.in_ok-note.ensures.few, c.requires.few)

pub returns-clause-ready : goal.returns-clause-ready
returns-clause-ready c = c.in_ok-note.ensures.ready

pub note-requires-clause-few : goal.note-requires-clause-few
note-requires-clause-few c = omega (arith, c.requires.few, c.requires.some)

pub returns-in_err-note-clause-ready : goal.returns-in_err-note-clause-ready
returns-in_err-note-clause-ready c = IfOk-from_err c.from_residual-in_err-note.result _ c.from_residual-in_err-note.ensures.0

pub returns-in_err-note-clause-less : goal.returns-in_err-note-clause-less
returns-in_err-note-clause-less c = IfOk-from_err c.from_residual-in_err-note.result _ c.from_residual-in_err-note.ensures.0

pub returns-in_err-note-clause-few : goal.returns-in_err-note-clause-few
returns-in_err-note-clause-few c = IfOk-from_err c.from_residual-in_err-note.result _ c.from_residual-in_err-note.ensures.0

pub returns-in_err-note-clause-taken : goal.returns-in_err-note-clause-taken
returns-in_err-note-clause-taken c = IfOk-from_err c.from_residual-in_err-note.result _ c.from_residual-in_err-note.ensures.0

pub returns-in_err-note-clause-fault : goal.returns-in_err-note-clause-fault
returns-in_err-note-clause-fault c = IfOk-from_err c.from_residual-in_err-note.result _ c.from_residual-in_err-note.ensures.0
