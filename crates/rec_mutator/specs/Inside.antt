-- The private record that the fields of a machine make up.
use Rattle.std.specs.Prelude.{false}
use Rattle.rec_mutator.specs.Private.{Private, IsMachine}
use Rattle.rec_mutator.specs.declared.machine.Machine.TheInside.{Inside}

-- the private record
abbrev pub private : Inside → Private
private inside =
    record {
      number = inside.number;
      epoch = inside.epoch;
      slots = inside.slots;
      fields = inside.fields;
      registers = inside.frame;
      log = inside.log;
      from = inside.from;
      phase = inside.phase;
      steps = inside.steps;
      left = inside.left;
      parked = inside.parked;
      dates = false;
    }

-- what the fields of every machine keep
abbrev pub IsKept : Inside → Type 0
IsKept inside = IsMachine (private inside)
