-- What the fields of a buffer say.
use Rattle.std.specs.Prelude.{◌≤◌, vec_len, vec_capacity}
use Rattle.rec_log.specs.declared.contents.Contents.{Contents}
use Rattle.rec_log.specs.declared.buffer.Buffer.TheInside.{Inside}

-- what its callers see
abbrev pub contents : Inside → Contents
contents inside = record { entries = inside.entries.items; snapshot = inside.snapshot.items; capacity = inside.capacity; last = inside.last; still = inside.still }

-- there is memory for as many entries as it can hold, and no more of them stand there
pub record IsRoomy (inside : Inside) : Type 0 where
  pub within : vec_len inside.entries ≤ inside.capacity
  pub reserved : inside.capacity ≤ vec_capacity inside.entries
