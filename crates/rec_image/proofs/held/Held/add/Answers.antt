-- An image with one mutator more has named enough by then.
use Rattle.std.proofs.Common.{◌+◌, refl, sym, ◌∙◌}
use Rattle.std.proofs.lemmas.Result.{IfOk-from_err}
use Rattle.std.proofs.lemmas.Bool.{both_ways}
use Rattle.rec_image.proofs.Adding.{length-objects}
use Rattle.rec_image.proofs.Endings.{few_objects}
use Rattle.rec_image.proofs.Rows.{least_of, no_row, row_read, not_enough}
use Rattle.rec_image.proofs.held.Held.add.Goals as goal

pub least-least-requires : goal.least-least-requires
least-least-requires c = few_objects c.args.heap c.args.objects.now c.requires.objects

pub count-requires : goal.count-requires
count-requires c = few_objects c.args.heap c.args.objects.now c.requires.objects

pub returns-then-names_enough-clause-found : goal.returns-then-names_enough-clause-found
returns-then-names_enough-clause-found c =
    let enough = c.names_enough.ensures.0 c.if-names_enough.true in
    let least_is = least_of c.args.heap c.args.objects.now c.least-least.result c.count.result c.requires.objects c.least-least.ensures c.count.ensures in
    row_read c.args.heap _ c.args.self.now _ c.args.bytes.now c.in-Some.rest.now c.count.result _ c.requires.held c.requires.left refl (rw c.in-Some.is at c.in_ok-rest.ensures).found
    (c.count.ensures ∙ sym (length-objects c.args.heap.fields c.args.objects.now.nodes.items c.args.objects.now.targets.items)) refl
    (enough.0, enough.1, rw least_is at enough.2)

pub returns-else-names_enough-clause-none : goal.returns-else-names_enough-clause-none
returns-else-names_enough-clause-none c =
    let least_is = least_of c.args.heap c.args.objects.now c.least-least.result c.count.result c.requires.objects c.least-least.ensures c.count.ensures in
    not_enough c.args.heap _ c.args.self.now (record { registers = c.registers_line.new.others; rows = c.args.self.now.rows + 1; naming = c.registers_line.new.naming }) c.args.bytes.now c.in-Some.rest.now c.count.result _ c.requires.held refl (rw c.in-Some.is at c.in_ok-rest.ensures).found
    (c.count.ensures ∙ sym (length-objects c.args.heap.fields c.args.objects.now.nodes.items c.args.objects.now.targets.items)) refl
    (λ enough. both_ways c.names_enough.result c.if-names_enough.false (c.names_enough.ensures.1 (enough.0, enough.1, rw least_is enough.2)))

pub returns-in_default-clause-none : goal.returns-in_default-clause-none
returns-in_default-clause-none c = no_row c.args.heap _ _ c.args.bytes.now (rw c.in_default.is at c.in_ok-rest.ensures).none

pub returns-in_err-rest-clause-found : goal.returns-in_err-rest-clause-found
returns-in_err-rest-clause-found c = IfOk-from_err c.from_residual.result _ c.from_residual.ensures.0

pub returns-in_err-rest-clause-none : goal.returns-in_err-rest-clause-none
returns-in_err-rest-clause-none c = IfOk-from_err c.from_residual.result _ c.from_residual.ensures.0
