-- What a mailbox holds, and what becomes of it as the collector looks into it.
use Rattle.std.specs.Prelude.{ℕ, ◌-◌, Option, None, Some, List, slice_index_or, slice_set}
use Rattle.rec_log.specs.declared.contents.Contents.{Contents}
use Rattle.rec_collector.specs.Private.{Private, blank}
use Rattle.rec_collector.specs.Took.{left_of, swapped_of}

-- the buffer in a mailbox that is home
abbrev pub held : Option Contents → Contents
held (Some b) = b
held None = blank 0 0

-- the buffer in the mailbox of a mutator
abbrev pub held_by : List (Option Contents) → (t : ℕ) → Contents
held_by boxes t = held (slice_index_or boxes (t - 1) None)

-- the collector after it looked into the mailbox of this mutator, or into none
abbrev pub gathered_by : Private → List (Option Contents) → Option ℕ → Private
gathered_by c boxes None = c
gathered_by c boxes (Some t) = swapped_of c (held_by boxes t)

-- the mailboxes then
abbrev pub gathered_from : Private → List (Option Contents) → Option ℕ → List (Option Contents)
gathered_from c boxes None = boxes
gathered_from c boxes (Some t) = slice_set boxes (t - 1) (Some (left_of c (held_by boxes t)))
