-- A mutator's line that no image goes on with is the first one; so is the first of them where objects are named that there aren't.
use Rattle.std.proofs.Common.{◌+◌, ◌++◌, ℕ, sym, ap, arith}
use Rattle.std.specs.List.{flat_map}
use Rattle.rec_image.specs.Drafts.{rows_of}
use Rattle.rec_image.specs.Image.{registers_line}
use Rattle.rec_image.proofs.Endings.{few_objects, row_stops, rows_first, rows_on, rows_stop, told_line}
use Rattle.rec_image.proofs.reading.read_held.Goals as goal

pub count-first-requires : goal.count-first-requires
count-first-requires c = few_objects c.args.heap c.args.objects.now c.requires.objects

pub overflow_add-first : goal.overflow_add-first
overflow_add-first c = omega (arith, few_objects c.args.heap c.args.objects.now c.requires.objects)

pub count-requires : goal.count-requires
count-requires c = few_objects c.args.heap c.args.objects.now c.requires.objects

pub returns-then-objects-count-clause-bad : goal.returns-then-objects-count-clause-bad
returns-then-objects-count-clause-bad c = λ line e.
    let at = told_line (c.count-first.result + 3) line e in
    rows_stop c.args.heap c.args.objects.now c.args.bytes.now line c.requires.objects c.requires.ends (omega (arith, c.count.ensures, c.if-objects-count.true)) (omega (arith, c.count-first.ensures))

pub loop-held-init : goal.loop-held-init
loop-held-init c = record {
  are = rows_first c.args.heap c.args.objects.now c.new-held.result c.requires.objects (omega (arith, c.count.ensures, c.if-objects-count.false)) c.new-held.ensures.registers c.new-held.ensures.rows c.new-held.ensures.naming;
  lines = ap (λ (k : ℕ). flat_map registers_line (rows_of c.args.heap.registers k c.new-held.result.registers.items) ++ c.args.bytes.now) (sym c.new-held.ensures.rows);
  within = omega (arith, c.new-held.ensures.rows);
}

pub overflow_add-line : goal.overflow_add-line
overflow_add-line c = omega (arith, few_objects c.args.heap c.args.objects.now c.requires.objects, c.requires.objects.is_open.sized.most_mutators, c.loop-held.invariant.within)

pub returns-in-Ok-None-clause-bad : goal.returns-in-Ok-None-clause-bad
returns-in-Ok-None-clause-bad c = λ line e.
    let at = told_line (c.count-first.result + 3 + c.loop-held.held.rows) line e in
    row_stops c.args.heap c.args.objects.now c.loop-held.held c.args.bytes.now c.loop-held.rest.now line c.loop-held.invariant.are c.loop-held.invariant.lines c.requires.ends c.loop-held-test.true
    (rw c.in-Ok-None.field-0-is at c.in-Ok-None.ensures).none (omega (arith, c.count-first.ensures))

pub loop-held-preserved : goal.loop-held-preserved
loop-held-preserved c =
    let read = (rw c.in-Ok-Some.field-0-is at c.in-Ok-Some.ensures).found in
    record {
      are = read.are;
      lines = rows_on c.args.heap _ c.loop-held.held c.add.new.self c.args.bytes.now c.loop-held.rest.now c.in-Ok-Some.behind.now c.loop-held.invariant.lines read;
      within = omega (arith, read.rows, c.loop-held-test.true);
    }
