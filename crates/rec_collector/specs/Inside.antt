-- The private record that the fields of a machine make up.
use Rattle.rec_collector.specs.Private.{Private}
use Rattle.rec_collector.specs.Kept.{IsMachine}
use Rattle.rec_collector.specs.declared.machine.Machine.TheInside.{Inside}

-- the private record
abbrev pub private : Inside → Private
private inside =
    record {
      epoch = inside.epoch;
      collections = inside.collections;
      freed = inside.freed;
      turns = inside.turns;
      phase = inside.phase;
      registers = inside.registers;
      capacity = inside.capacity;
      fields = inside.parts.fields;
      counts = inside.parts.counts;
      newer = inside.newer.items;
      older = inside.older.items;
      left = inside.left.items;
      sets = inside.parts.sets;
      offers = inside.parts.offers;
      postponed = inside.parts.postponed;
      policy = inside.parts.policy;
    }

-- what the fields of every machine keep
abbrev pub IsKept : Inside → Type 0
IsKept inside = IsMachine (private inside)
