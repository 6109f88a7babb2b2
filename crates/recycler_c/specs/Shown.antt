-- Answers as C reads them.
use Rattle.std.specs.Prelude.{ℕ, Option, Some, None}
use Rattle.rec_model.specs.declared.answer.Answer.{Answer}
use Rattle.rec_model.specs.declared.answer.Answer.TheVariants as answers
use Rattle.rec_collector.specs.declared.turn.Turn.{Turn}
use Rattle.rec_collector.specs.declared.turn.Turn.TheVariants as turns
use Rattle.rec_table.specs.declared.telling.Telling.{Telling}
use Rattle.rec_table.specs.declared.telling.Telling.TheVariants as tellings
use Rattle.recycler_c.specs.declared.told.Asked.{Asked}
use Rattle.recycler_c.specs.declared.told.Heard.{Heard}
use Rattle.recycler_c.specs.declared.told.Slot.{Slot}
use Rattle.recycler_c.specs.declared.told.Turned.{Turned}

abbrev plain : ℕ → Asked
plain n = record { answer = n; label = 0; before = 0; after = 0 }

-- what a command was answered
abbrev pub asked_of : Answer → Asked
asked_of answers.Done = plain 0
asked_of answers.Null = plain 1
asked_of answers.Object = plain 2
asked_of (answers.Value label) = record { answer = 3; label = label; before = 0; after = 0 }
asked_of answers.Yes = plain 4
asked_of answers.No = plain 5
asked_of answers.NoObject = plain 6
asked_of answers.Full = plain 7
asked_of (answers.Busy before after) = record { answer = 8; label = 0; before = before; after = after }
asked_of answers.LogFull = plain 9
asked_of answers.NoField = plain 10
asked_of answers.NotYet = plain 11

-- what a turn came to
abbrev pub turned_of : Turn → Turned
turned_of turns.Moved = record { what = 0; mutator = 0; epoch = 0; freed = 0 }
turned_of (turns.Waiting t) = record { what = 1; mutator = t; epoch = 0; freed = 0 }
turned_of (turns.Collected epoch freed) = record { what = 2; mutator = 0; epoch = epoch; freed = freed }
turned_of turns.EpochsSpent = record { what = 3; mutator = 0; epoch = 0; freed = 0 }

-- what a turn came to that tells
abbrev pub telling_of : Telling → Turned
telling_of (tellings.Turned turn) = turned_of turn
telling_of (tellings.Held label) = record { what = 4; mutator = 0; epoch = 0; freed = 0 }

-- what the listener heard
abbrev pub heard_of : Option ℕ → Heard
heard_of None = record { any = 0; label = 0 }
heard_of (Some label) = record { any = 1; label = label }

-- a slot's label, if it holds an object, and its count, as C reads them
abbrev pub slot_told : Option ℕ → (count : ℕ) → Slot
slot_told None count = record { taken = 0; label = 0; count = count }
slot_told (Some label) count = record { taken = 1; label = label; count = count }
