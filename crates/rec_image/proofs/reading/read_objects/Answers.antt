-- An object's line that no image goes on with is the first one.
use Rattle.std.proofs.Common.{◌+◌, arith}
use Rattle.rec_image.proofs.Endings.{few_objects, object_stops, objects_on, told_line}
use Rattle.rec_image.proofs.reading.read_objects.Goals as goal

pub count-line-requires : goal.count-line-requires
count-line-requires c = few_objects c.args.heap c.loop-heap.objects c.loop-heap.invariant.are

pub overflow_add-line : goal.overflow_add-line
overflow_add-line c = omega (arith, c.count-line.ensures, few_objects c.args.heap c.loop-heap.objects c.loop-heap.invariant.are)

pub loop-heap-preserved : goal.loop-heap-preserved
loop-heap-preserved c =
    let read = (rw c.in-Ok-Some.field-0-is at c.in-Ok-Some.ensures).found in
    record {
      are = read.are;
      lines = objects_on c.args.heap c.loop-heap.objects c.add.new.self c.args.bytes.now c.loop-heap.rest.now c.in-Ok-Some.behind.now c.loop-heap.invariant.lines read;
    }

pub loop-heap-smaller : goal.loop-heap-smaller
loop-heap-smaller c = (rw c.in-Ok-Some.field-0-is at c.in-Ok-Some.ensures).found.less

pub returns-in-Ok-None-clause-bad : goal.returns-in-Ok-None-clause-bad
returns-in-Ok-None-clause-bad c = λ line e.
    let at = told_line (c.count-line.result + 3) line e in
    object_stops c.args.heap c.loop-heap.objects c.args.bytes.now c.loop-heap.rest.now line c.loop-heap.invariant.are c.loop-heap.invariant.lines
    (c.begins_object.ensures.0 c.loop-heap-test.true) (rw c.in-Ok-None.field-0-is at c.in-Ok-None.ensures).none (omega (arith, c.count-line.ensures))
