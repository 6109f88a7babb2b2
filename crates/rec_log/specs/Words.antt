-- The words in the entries of a buffer.
use Rattle.std.specs.Prelude.{ℕ, map}
use Rattle.rec_log.specs.declared.contents.Contents.{Contents}
use Rattle.rec_log.specs.declared.entry.Entry.{Entry}
use Rattle.rec_log.specs.declared.entry.Entry.TheVariants.{Put, Born}

-- the entry with each of its words changed so
abbrev pub entry_by : (change : ℕ → ℕ) → Entry → Entry
entry_by change (Put place new old) = Put place (change new) (change old)
entry_by change (Born slot leaf) = Born slot leaf

-- the buffer with each word of its entries changed so
abbrev pub buffer_by : (change : ℕ → ℕ) → Contents → Contents
buffer_by change b = record b { entries = map (entry_by change) b.entries }
