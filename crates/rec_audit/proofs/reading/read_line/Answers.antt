-- A line is read as its kind and its numbers.
use Rattle.std.proofs.Common.{◌∙◌, ◌++◌, ap, sym}
use Rattle.std.proofs.lemmas.Result.{IfOk-from_err}
use Rattle.rec_audit.specs.Lines.{name_of}
use Rattle.rec_audit.proofs.Texts.{line_text, no_kind, no_numbers}
use Rattle.rec_audit.proofs.reading.read_line.Goals as goal

pub returns-in_default-clause-none : goal.returns-in_default-clause-none
returns-in_default-clause-none c = no_kind c.args.bytes.now (rw c.in_default.is at c.read_kind.ensures).none

pub returns-in_err-rest-clause-found : goal.returns-in_err-rest-clause-found
returns-in_err-rest-clause-found c = IfOk-from_err c.from_residual.result _ c.from_residual.ensures.0

pub returns-in_err-rest-clause-fit : goal.returns-in_err-rest-clause-fit
returns-in_err-rest-clause-fit c = IfOk-from_err c.from_residual.result _ c.from_residual.ensures.0

pub returns-in_err-rest-clause-none : goal.returns-in_err-rest-clause-none
returns-in_err-rest-clause-none c = IfOk-from_err c.from_residual.result _ c.from_residual.ensures.0

pub returns-in-Some-2-clause-found : goal.returns-in-Some-2-clause-found
returns-in-Some-2-clause-found c =
    let named = rw c.in-Some.is at c.read_kind.ensures in
    let read = rw c.in-Some-2.is at c.in_ok-rest.ensures in
    named.found ∙ ap (λ t. name_of c.in-Some.kind ++ t) read.found ∙ sym (line_text (record { kind = c.in-Some.kind; numbers = c.read_numbers.new.numbers.items }) c.in-Some-2.rest.now)

pub returns-in-Some-2-clause-fit : goal.returns-in-Some-2-clause-fit
returns-in-Some-2-clause-fit c = (rw c.in-Some-2.is at c.in_ok-rest.ensures).fit

pub returns-in-None-clause-none : goal.returns-in-None-clause-none
returns-in-None-clause-none c = no_numbers c.args.bytes.now c.in-Some.rest.now c.in-Some.kind (rw c.in-Some.is at c.read_kind.ensures).found (rw c.in-None.is at c.in_ok-rest.ensures).none
