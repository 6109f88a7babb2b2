-- The parts make up the heap as it is opened from objects.
use Rattle.std.proofs.Common.{◌≡◌, map, length, sym, subst}
use Rattle.rec_core.specs.Objects.{Objects}
use Rattle.rec_core.specs.Core.{opened_from}
use Rattle.rec_world.proofs.Common.{Core, IsWorld, cells_of, held}
use Rattle.rec_world.proofs.Calls.{opened_home}
use Rattle.rec_world.proofs.OpenedObjects.{objects_parts, objects_world, row_holds, row_long}
use Rattle.rec_world.proofs.world.opening.open_objects.Goals as goal
use Rattle.rec_world.proofs.world.opening.open_objects.Goals.{After-of_row}

pub of_row-requires-clause-long : goal.of_row-requires-clause-long
of_row-requires-clause-long c =
    let o : Objects = record { nodes = c.args.nodes.now; fields = c.args.fields.now; registers = c.args.registers.now } in
    row_long c.args.config o c.requires.config c.requires.objects c.in_ok-row.ensures.labels c.new-layout.result.freed c.new-layout.result.places c.new-layout.result.slots c.in_ok-row.row.items
    c.new-layout.ensures.layout c.new-layout.ensures.parts.0 c.new-layout.ensures.parts.1 c.in_ok-row.ensures.row

-- the core that is made
made : After-of_row → Core
made c =
    record {
      config = c.args.config;
      headers = c.of_row.result.headers;
      words = c.of_row.result.words;
      epoch = c.of_row.result.epoch;
      freed = c.of_row.result.freed;
      crossing = c.of_row.result.crossing;
      boxes = map held c.in_ok-boxes.boxes.items;
      mutators = c.in_ok-machines.machines.items;
      collector = c.in-Ok.collector;
      made = length c.args.nodes.now;
    }

is_opened : (c : After-of_row) → made c ≡ opened_from c.args.config (record { nodes = c.args.nodes.now; fields = c.args.fields.now; registers = c.args.registers.now })
unfolding made
is_opened c =
    let o : Objects = record { nodes = c.args.nodes.now; fields = c.args.fields.now; registers = c.args.registers.now } in
    let cells : c.of_row.result ≡ cells_of (opened_from c.args.config o)
    = row_holds c.args.config o c.requires.config c.requires.objects c.in_ok-row.ensures.labels c.new-layout.result.places c.new-layout.result.slots c.in_ok-row.row.items c.of_row.result
    c.of_row.ensures c.new-layout.ensures.parts.0 c.new-layout.ensures.parts.1 c.in_ok-row.ensures.row in
    objects_parts c.args.config o c.requires.config c.requires.objects c.in_ok-row.ensures.labels c.of_row.result c.in_ok-boxes.boxes.items c.in_ok-machines.machines.items c.in-Ok.collector
    cells c.in_ok-boxes.ensures c.in_ok-machines.ensures c.in-Ok.ensures

is_world : (c : After-of_row) → IsWorld (made c)
is_world c = subst IsWorld (sym (is_opened c)) (objects_world c.args.config (record { nodes = c.args.nodes.now; fields = c.args.fields.now; registers = c.args.registers.now }) c.requires.config c.requires.objects c.in_ok-row.ensures.labels)

pub invariant_of-result : goal.invariant_of-result
unfolding made
invariant_of-result c = record { world = is_world (goal.at.invariant_of-result c).After-of_row; home = opened_home c.args.config c.in_ok-boxes.boxes.items c.in_ok-boxes.ensures }

pub returns-clause-opened : goal.returns-clause-opened
unfolding made
returns-clause-opened c = is_opened (goal.at.returns-clause-opened c).After-of_row

pub returns-clause-kept : goal.returns-clause-kept
unfolding made
returns-clause-kept c = is_world (goal.at.returns-clause-kept c).After-of_row
