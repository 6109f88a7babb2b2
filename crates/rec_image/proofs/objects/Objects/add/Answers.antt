-- An image with one object more has room for it, and no more is due than registers can name.
use Rattle.std.proofs.Common.{◌≡◌, length, refl, ◌∙◌, arith}
use Rattle.rec_image.proofs.Adding.{length-objects, no_slot, no_node, too_much_due, object_read}
use Rattle.rec_image.proofs.objects.Objects.add.Goals as goal

pub overflow_cast-count : goal.overflow_cast-count
overflow_cast-count c = omega (arith, length-objects c.args.heap.fields c.args.self.now.nodes.items c.args.self.now.targets.items, c.requires.is_open.few, c.requires.is_open.sized.heap.most_slots)

pub returns-then-count-heap-clause-none : goal.returns-then-count-heap-clause-none
returns-then-count-heap-clause-none c = no_slot c.args.heap _ c.args.bytes.now (length-objects c.args.heap.fields c.args.self.now.nodes.items c.args.self.now.targets.items ∙ (let e : length c.args.self.now.nodes.items ≡ c.args.heap.slots = omega (arith, c.if-count-heap.true) in e))

pub begin-requires : goal.begin-requires
begin-requires c = omega (arith, length-objects c.args.heap.fields c.args.self.now.nodes.items c.args.self.now.targets.items, c.requires.is_open.few, c.requires.is_open.sized.heap.most_slots)

pub returns-in_default-clause-none : goal.returns-in_default-clause-none
returns-in_default-clause-none c = no_node c.args.heap _ c.args.bytes.now (rw c.in_default.is at c.in_ok-rest.ensures).none

pub returns-then-self-heap-clause-none : goal.returns-then-self-heap-clause-none
returns-then-self-heap-clause-none c = too_much_due c.args.heap c.args.self.now _ c.add_node.new.self c.args.bytes.now c.in-Some.rest.now c.len-count.result c.requires (omega arith) c.begin.ensures (rw c.in-Some.is at c.in_ok-rest.ensures).found c.if-self-heap.true

pub returns-clause-found : goal.returns-clause-found
returns-clause-found c = object_read c.args.heap c.args.self.now _ c.add_node.new.self c.args.bytes.now c.in-Some.rest.now c.len-count.result c.requires (omega arith) c.if-count-heap.false refl refl c.begin.ensures (rw c.in-Some.is at c.in_ok-rest.ensures).found c.if-self-heap.false
