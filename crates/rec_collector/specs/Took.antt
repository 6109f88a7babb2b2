-- What is learnt, and what a turn answers: functions of the private record and of the word found.
use Rattle.std.specs.Prelude.{ℕ, ◌+◌, ◌-◌, false, true, Option, None, Some, [], if◌then◌else◌, length, map, replicate, slice_set}
use Rattle.rec_word.specs.Looked.{looked}
use Rattle.rec_word.specs.declared.looked.Looked.{Looked}
use Rattle.rec_word.specs.declared.looked.Looked.TheVariants.{Takes, Crosses, Waits}
use Rattle.rec_log.specs.declared.contents.Contents.{Contents}
use Rattle.rec_counts.specs.Batch.{applied}
use Rattle.rec_release.specs.Sweep as sweeps
use Rattle.rec_collector.specs.Followed.{Next, followed, worked}
use Rattle.rec_collector.specs.Next.{is_spent}
use Rattle.rec_collector.specs.Parts.{Parts}
use Rattle.rec_collector.specs.Present.{next_present}
use Rattle.rec_collector.specs.Private.{Private, buffer_at, parts_of, with_parts, spare}
use Rattle.rec_collector.specs.Testing.{zeros_released}
use Rattle.rec_collector.specs.declared.phase.Phase.{Phase}
use Rattle.rec_collector.specs.declared.phase.Phase.TheVariants.{Idle, Looking, Swapping, Returning, Opening, Sweeping, Closing}
use Rattle.rec_collector.specs.declared.turn.Turn.{Turn}
use Rattle.rec_collector.specs.declared.turn.Turn.TheVariants.{Moved, Waiting, Collected, EpochsSpent}

-- one turn was made, and this comes next
abbrev pub moved : Private → Phase → Private
moved p phase = record p { phase = phase; turns = p.turns + 1 }

-- a buffer is emptied, and its snapshot made all null
abbrev pub cleared : Contents → Contents
cleared b = record b { entries = []; snapshot = replicate (length b.snapshot) None; last = false; still = false }

-- the collection is complete: the older buffers are cleared and become spares, and the newer ones become the older
abbrev pub ended : Private → Private
ended p = record p { collections = p.collections + 1; turns = 0; phase = Idle; newer = map cleared p.older; older = p.newer }

-- where a sweep of no slot would be closed, the collection is complete
abbrev pub ended_if : Phase → Private → Private
ended_if (Closing swept) p = ended p
ended_if _ p = p

-- the collection goes on with these parts, in this phase
abbrev pub came : Private → Next → Private
came p n = ended_if n.phase (moved (with_parts p n.parts) n.phase)

-- the batch is applied
abbrev pub batched : Private → Parts
batched p = record (parts_of p) { counts = applied p.policy.steady p.counts p.newer p.older }

-- what follows the batch: its zeros are released
abbrev pub batch_next : Private → Next
batch_next p = followed (zeros_released false (batched p))

-- the collection goes on with this mutator's mailbox; without one the batch is applied
abbrev pub gathering_on : Private → Option ℕ → Private
gathering_on p None = came p (batch_next p)
gathering_on p (Some t) = moved p (Looking t)

-- it goes on with the next mutator behind this one that hasn't left
abbrev pub behind : Private → (t : ℕ) → Private
behind p t = gathering_on p (next_present p.left t)

-- the next epoch is requested
abbrev pub requested : Private → Private
requested p = record p { epoch = p.epoch + 1 }

-- a mutator's mailbox was given back: if the buffer that was gathered from it is its last one, it has left
abbrev pub noted : Private → (t : ℕ) → Private
noted p t = record p { left = slice_set p.left (t - 1) (buffer_at p.newer (t - 1)).last }

-- the newer buffer of a mutator that is parked, and whose registers have stood since the older one was retired: it has them as its
-- snapshot too, and is marked as still
abbrev pub stilled : (newer older : Contents) → Contents
stilled newer older = record newer { snapshot = older.snapshot; still = true }

-- the collector crossed for a parked mutator that left no deposit: no mailbox is to be given back
abbrev pub crossed_for : Private → (t : ℕ) → Private
crossed_for p t = record p { phase = Returning t; newer = slice_set p.newer (t - 1) (stilled (buffer_at p.newer (t - 1)) (buffer_at p.older (t - 1))) }

-- what comes of a look at a mutator's crossing word: its mailbox is held, or the collector crosses for it and goes on behind it, or waits
abbrev pub after_look : Private → (t : ℕ) → Looked → Private
after_look p t (Takes left) = moved p (Swapping t)
after_look p t (Crosses left) = behind (crossed_for p t) t
after_look p t Waits = p

-- after so many slots the sweep goes on, or ends
abbrev pub swept_phase : (swept : ℕ) → Option ℕ → Phase
swept_phase swept None = Closing swept
swept_phase swept due = Sweeping due swept

-- one slot more is swept
abbrev pub swept_one : Private → (swept : ℕ) → sweeps.Work → Private
swept_one p swept w = moved (record p { counts = w.counts; freed = p.freed + 1 }) (swept_phase (swept + 1) w.due)

-- what is learnt, by phase
unfoldable pub took_at : Private → (word : ℕ) → Phase → Private
took_at p word Idle = if is_spent p then p else behind (requested p) 0
took_at p word (Looking t) = after_look p t (looked p.epoch word)
took_at p word (Swapping t) = moved p (Swapping t)
took_at p word (Returning t) = behind (noted p t) t
took_at p word Opening = let w : sweeps.Work = sweeps.started_of p.counts in moved (record p { counts = w.counts }) (Sweeping w.due 0)
took_at p word (Sweeping due swept) = swept_one p swept (sweeps.took_of (record { due = due; counts = p.counts }) word)
took_at p word (Closing swept) = ended p
took_at p word phase = came p (worked (parts_of p) word phase)

-- what is learnt
unfoldable pub took_of : Private → (word : ℕ) → Private
took_of p word = took_at p word p.phase

-- a mailbox that is held gives its buffer, and gets a spare
unfoldable pub swapped_at : Private → Contents → Phase → Private
swapped_at p buffer (Swapping t) = record p { phase = Returning t; newer = slice_set p.newer (t - 1) buffer }
swapped_at p buffer _ = p

-- the buffer of a mailbox is swapped
unfoldable pub swapped_of : Private → Contents → Private
swapped_of p buffer = swapped_at p buffer p.phase

-- what the mailbox that is looked at holds then, by phase: a spare, where its buffer is swapped
unfoldable pub left_at : Private → Contents → Phase → Contents
left_at p buffer (Swapping t) = spare p
left_at p buffer _ = buffer

-- what the mailbox that is looked at holds then
unfoldable pub left_of : Private → Contents → Contents
left_of p buffer = left_at p buffer p.phase

-- a whole step: what is learnt of the word, and, where the step takes a mailbox, of the buffer in it
unfoldable pub step_of : Private → (word : ℕ) → (box : Contents) → Private
step_of p word box = swapped_of (took_of p word) box

-- what a turn answers that goes on to this phase: where it would close a sweep of no slot, the collection is complete
abbrev pub came_turn : (epoch : ℕ) → Phase → Turn
came_turn epoch (Closing swept) = Collected (epoch - 1) swept
came_turn epoch phase = Moved

-- what a turn answers that goes on with this mutator's mailbox, or applies the batch
abbrev pub gathering_turn : Private → Option ℕ → Turn
gathering_turn p None = came_turn p.epoch (batch_next p).phase
gathering_turn p (Some t) = Moved

-- what a turn answers that goes on with the next mutator behind this one
abbrev pub behind_turn : Private → (t : ℕ) → Turn
behind_turn p t = gathering_turn p (next_present p.left t)

-- what a turn answers that looked at a mutator's crossing word
abbrev pub look_turn : Private → (t : ℕ) → Looked → Turn
look_turn p t (Takes left) = Moved
look_turn p t (Crosses left) = behind_turn (crossed_for p t) t
look_turn p t Waits = Waiting t

-- what a turn answers, by phase
unfoldable pub turn_at : Private → (word : ℕ) → Phase → Turn
turn_at p word Idle = if is_spent p then EpochsSpent else behind_turn (requested p) 0
turn_at p word (Looking t) = look_turn p t (looked p.epoch word)
turn_at p word (Returning t) = behind_turn (noted p t) t
turn_at p word (Closing swept) = Collected (p.epoch - 1) swept
turn_at p word phase = came_turn p.epoch (worked (parts_of p) word phase).phase

-- what a turn answers
unfoldable pub turn_of : Private → (word : ℕ) → Turn
turn_of p word = turn_at p word p.phase
