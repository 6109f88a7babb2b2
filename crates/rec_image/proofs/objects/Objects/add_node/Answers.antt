-- The line is told piece by piece, and another line has another piece.
use Rattle.std.proofs.Common.{refl}
use Rattle.rec_image.proofs.Adding.{no_label, no_fields, node_read}
use Rattle.rec_image.proofs.objects.Objects.add_node.Goals as goal

pub returns-in_default-numeral-clause-none : goal.returns-in_default-numeral-clause-none
returns-in_default-numeral-clause-none c = no_label c.args.heap.slots c.args.heap.fields c.in-Some.leaf c.args.bytes.now c.in-Some.rest.now c.in-Some.ensures c.in_default-numeral.ensures.none

pub returns-in_default-2-clause-none : goal.returns-in_default-2-clause-none
returns-in_default-2-clause-none c = no_fields c.args.heap.slots c.args.heap.fields c.in-Some.leaf c.args.bytes.now c.in-Some.rest.now c.in-Some-numeral.rest.now c.in-Some-numeral.label c.in-Some.ensures c.in-Some-numeral.ensures.found (rw c.in_default-2.is at c.in_ok-rest.ensures).none

pub returns-clause-found : goal.returns-clause-found
returns-clause-found c = node_read _ _ _ _ _ _ _ _ _ _ _ c.in-Some.ensures c.in-Some-numeral.ensures.found (rw c.in-Some-2.is at c.in_ok-rest.ensures).found c.in_ok-push.ensures.items refl refl
