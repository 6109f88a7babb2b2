-- The line is its word, and then the four numbers by twos.
use Rattle.rec_image.proofs.Lines.{heap_found, heap_sized, no_heap, no_heap_rest, no_heap_sizes}
use Rattle.rec_image.proofs.line.heap_line.Goals as goal

pub returns-in_err-rest-clause-none : goal.returns-in_err-rest-clause-none
returns-in_err-rest-clause-none c = no_heap c.from_residual.result c.args.bytes.now c.from_residual.ensures c.in_err-rest.ensures

pub returns-in_err-slots-clause-none : goal.returns-in_err-slots-clause-none
returns-in_err-slots-clause-none c = no_heap_sizes c.from_residual-in_err-slots.result c.args.bytes.now c.in_ok-rest.rest.now c.from_residual-in_err-slots.ensures c.in_ok-rest.ensures c.in_err-slots.ensures.only

pub returns-in_err-registers-clause-none : goal.returns-in_err-registers-clause-none
returns-in_err-registers-clause-none c =
    no_heap_rest c.from_residual-in_err-registers.result c.in_ok-slots.slots c.in_ok-slots.fields c.from.result c.args.bytes.now c.in_ok-rest.rest.now c.in_ok-slots.rest.now
    c.from_residual-in_err-registers.ensures c.in_ok-rest.ensures c.from.ensures c.in_ok-slots.ensures.only c.in_err-registers.ensures.only

pub returns-clause-found : goal.returns-clause-found
returns-clause-found c =
    heap_found c.in_ok-slots.slots c.in_ok-slots.fields c.in_ok-registers.registers c.in_ok-registers.mutators c.args.bytes.now c.in_ok-rest.rest.now c.in_ok-slots.rest.now c.in_ok-registers.rest.now
    c.in_ok-rest.ensures c.in_ok-slots.ensures.found c.in_ok-registers.ensures.found

pub returns-clause-sized : goal.returns-clause-sized
returns-clause-sized c =
    heap_sized c.in_ok-slots.slots c.in_ok-slots.fields c.in_ok-registers.registers c.in_ok-registers.mutators c.from.result c.from.ensures c.in_ok-slots.ensures.sized c.in_ok-registers.ensures.sized
