-- The heap that the fields of a world make up.
use Rattle.std.specs.Prelude.{ℕ, ◌<◌, None, IsSome, length, map, slice_index_or}
use Rattle.rec_core.specs.Core.{Core}
use Rattle.rec_world.specs.Mailbox.{held}
use Rattle.rec_world.specs.World.{IsWorld}
use Rattle.rec_world.specs.declared.world.World.TheInside.{Inside}

-- the words, the mailboxes, and the private records of the mutators and of the collector
abbrev pub core : Inside → Core
core inside =
    record {
      config = inside.config;
      headers = inside.memory.headers;
      words = inside.memory.words;
      epoch = inside.memory.epoch;
      freed = inside.memory.freed;
      crossing = inside.memory.crossing;
      boxes = map held inside.boxes.items;
      mutators = inside.machines.items;
      collector = inside.collector;
      made = inside.made;
    }

-- what the fields of every world keep; every mailbox is home
pub record IsWhole (inside : Inside) : Type 0 where
  pub world : IsWorld (core inside)
  pub home : (i : ℕ) → i < length inside.boxes.items → IsSome (slice_index_or inside.boxes.items i None)
