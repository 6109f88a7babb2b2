-- A move in words.
use Rattle.std.specs.Prelude.{ℕ, ◌-◌, ◌/◌, ◌%◌, ◌==◌, ◌&&◌, Bool, true, false, if◌then◌else◌, Option, None, Some, List, [], ◌∷◌, ◌++◌, length, take, slice_index_or, nat_lt, not, filter, zip, codes, decimal, max, bytes_eq}
use Rattle.std.specs.List.{flat_map}
use Rattle.std.specs.Option.{option_eq}
use Rattle.std.specs.Cmp.Lexicographic.{pointwise}
use mathlib.Core.Bool.{beq}
use Rattle.rec_word.specs.Word.{target_of}
use Rattle.rec_word.specs.declared.op.Op.{Op}
use Rattle.rec_word.specs.declared.op.Op.TheVariants.{StoreEpoch, LookBox, ReturnBox, LoadChild, ClearField, FreeHeader, AddFreed}
use Rattle.rec_model.specs.declared.answer.Answer.{Answer}
use Rattle.rec_model.specs.declared.answer.Answer.TheVariants as answers
use Rattle.rec_model.specs.declared.command.Cmd.{Cmd}
use Rattle.rec_model.specs.declared.command.Cmd.TheVariants as commands
use Rattle.rec_collector.specs.declared.turn.Turn.{Turn}
use Rattle.rec_collector.specs.declared.turn.Turn.TheVariants as turns
use Rattle.rec_play.specs.declared.moves.Move.{Move}
use Rattle.rec_play.specs.declared.moves.Move.TheVariants.{Command, Step}
use Rattle.rec_report.specs.Text.{answer_word}
use Rattle.recycler_watch.specs.Seen.{Seen, SeenSlot, SeenMutator, SeenCollector}

-- a command as a script spells it
abbrev pub command_words : Cmd → List ℕ
command_words (commands.New reg label) = codes "new " ++ decimal reg ++ codes " " ++ decimal label
command_words (commands.Leaf reg label) = codes "leaf " ++ decimal reg ++ codes " " ++ decimal label
command_words (commands.Null reg) = codes "null " ++ decimal reg
command_words (commands.Copy dst src) = codes "copy " ++ decimal dst ++ codes " " ++ decimal src
command_words (commands.Get dst src field) = codes "get " ++ decimal dst ++ codes " " ++ decimal src ++ codes " " ++ decimal field
command_words (commands.Put src field val) = codes "put " ++ decimal src ++ codes " " ++ decimal field ++ codes " " ++ decimal val
command_words (commands.Value reg) = codes "value " ++ decimal reg
command_words (commands.Same a b) = codes "same " ++ decimal a ++ codes " " ++ decimal b
command_words commands.Leave = codes "leave"
command_words commands.Park = codes "park"
command_words commands.Unpark = codes "unpark"

-- an answer's word, without the numbers behind it
abbrev pub answer_name : Answer → List ℕ
answer_name answers.Done = codes "done"
answer_name answers.Null = codes "null"
answer_name answers.Object = codes "object"
answer_name (answers.Value label) = codes "value"
answer_name answers.Yes = codes "yes"
answer_name answers.No = codes "no"
answer_name answers.NoObject = codes "none"
answer_name answers.Full = codes "full"
answer_name (answers.Busy before after) = codes "busy"
answer_name answers.NoField = codes "nofield"
answer_name answers.NotYet = codes "notyet"
answer_name answers.LogFull = codes "logfull"

-- an object, or null
abbrev pub target_words : Option ℕ → List ℕ
target_words None = codes "null"
target_words (Some slot) = codes "#" ++ decimal slot

-- a field by its place, where objects have so many
abbrev pub field_words : (place fields : ℕ) → List ℕ
field_words place fields = codes "#" ++ decimal (place / max fields 1) ++ codes "." ++ decimal (place % max fields 1)

-- what is seen of a mutator by its number
abbrev pub seen_mutator : Seen → (t : ℕ) → SeenMutator
seen_mutator s t = slice_index_or s.mutators (t - 1) (record { mutator = 0; epoch = 0; left = false; registers = [] })

-- the epoch in which a mutator made its command that is in this one behind it: by leaving it comes into the next one
abbrev pub epoch_then : Cmd → Answer → (after : ℕ) → ℕ
epoch_then commands.Leave answers.Done after = after - 1
epoch_then cmd answer after = after

-- the epoch into which a mutator crossed before its command
abbrev pub crossed_before : (before after : ℕ) → Cmd → Answer → Option ℕ
crossed_before before after cmd answer = if before == epoch_then cmd answer after then None else Some (epoch_then cmd answer after)

-- the epoch into which a mutator crossed that was waited for
abbrev pub crossed : List SeenMutator → List SeenMutator → Option ℕ
crossed [] after = None
crossed (m ∷ ms) [] = None
crossed (m ∷ ms) (n ∷ ns) = if m.epoch == n.epoch then crossed ms ns else Some n.epoch

abbrev pub crosses_words : Option ℕ → List ℕ
crosses_words None = []
crosses_words (Some epoch) = codes "crosses into epoch " ++ decimal epoch ++ codes "; "

abbrev pub polls_words : Option ℕ → List ℕ
polls_words None = []
polls_words (Some epoch) = codes "; it polls, and crosses into epoch " ++ decimal epoch

-- what register `reg` of mutator `t` names
abbrev pub register_of : Seen → (t reg : ℕ) → Option ℕ
register_of s t reg = slice_index_or (seen_mutator s t).registers reg None

-- the object that was born
abbrev pub birth_words : Option ℕ → List ℕ
birth_words born = codes ", " ++ target_words born ++ codes " is born"

-- a field of an object, with what it led to before and does now
abbrev pub put_words : Option ℕ → (field : ℕ) → (before after : Option ℕ) → List ℕ
put_words object field before after = codes ", " ++ target_words object ++ codes "." ++ decimal field ++ codes " was " ++ target_words before ++ codes ", now " ++ target_words after

-- what a command of mutator `t` found or left
abbrev pub outcome_words : (t : ℕ) → Cmd → Answer → (saw left : ℕ) → Seen → List ℕ
outcome_words t (commands.New reg label) answers.Done saw left s = birth_words (register_of s t reg)
outcome_words t (commands.Leaf reg label) answers.Done saw left s = birth_words (register_of s t reg)
outcome_words t (commands.Put src field val) answers.Done saw left s = put_words (register_of s t src) field (target_of saw) (target_of left)
outcome_words t commands.Leave answers.Done saw left s = codes ", its registers are null now"
outcome_words t commands.Leave answers.NotYet saw left s = codes ", its mailbox isn't back yet"
outcome_words t cmd answers.Object saw left s = codes " " ++ target_words (target_of saw)
outcome_words t cmd answer saw left s = []

-- what comes in the same step, by the phase behind it: once no mailbox is waited for, the batch is applied
abbrev pub batch_words : (phase : List ℕ) → List ℕ
batch_words phase = if bytes_eq phase (codes "gather") then [] else codes ", applies the batch"

-- whether a sweep begins or ends, by the freed word before
abbrev pub sweep_words : (freed : ℕ) → List ℕ
sweep_words freed = if freed % 2 == 0 then codes "begins a sweep" else codes "ends the sweep"

-- an operation of the collector, the word that it found, and the phase behind it
abbrev pub op_words : Op → (found : ℕ) → (phase : List ℕ) → (fields : ℕ) → List ℕ
op_words (StoreEpoch epoch) found phase fields = codes "requests epoch " ++ decimal epoch ++ batch_words phase
op_words (LookBox t epoch) found phase fields = codes "looks at mutator " ++ decimal t ++ codes "'s mailbox"
op_words (ReturnBox t epoch) found phase fields = codes "gives mutator " ++ decimal t ++ codes "'s mailbox back" ++ batch_words phase
op_words (LoadChild place) found phase fields = codes "loads " ++ field_words place fields ++ codes ", which is " ++ target_words (target_of found)
op_words (ClearField place) found phase fields = codes "clears " ++ field_words place fields ++ codes ", which was " ++ target_words (target_of found)
op_words (FreeHeader slot) found phase fields = codes "sweeps #" ++ decimal slot ++ codes ", whose slot is free now"
op_words AddFreed found phase fields = sweep_words found
op_words _ found phase fields = codes "makes a step"

abbrev pub step_words : Option (Op × ℕ) → (phase : List ℕ) → (fields : ℕ) → List ℕ
step_words None phase fields = codes "finds the epochs spent"
step_words (Some p) phase fields = op_words p.0 p.1 phase fields

-- what came of a turn of the collector
abbrev pub turn_words : Turn → List ℕ
turn_words turns.Moved = []
turn_words (turns.Waiting t) = codes ", and waits: it hasn't crossed"
turn_words (turns.Collected epoch freed) = codes "; epoch " ++ decimal epoch ++ codes " is collected, " ++ decimal freed ++ codes " slots were swept"
turn_words turns.EpochsSpent = []

-- words where two numbers differ
abbrev where_changed : (before after : ℕ) → List ℕ → List ℕ
where_changed before after words = if before == after then [] else words

-- what became of the sets, where one was tested
abbrev pub sets_words : (before after : SeenCollector) → List ℕ
sets_words before after =
    where_changed after.sets_freed before.sets_freed (codes "; a set passes both tests")
    ++ where_changed after.sets_touched before.sets_touched (codes "; the Delta test refuses a set")
    ++ where_changed after.sets_held before.sets_held (codes "; the Sigma test refuses a set")

-- two lists of what fields or registers lead to
abbrev same_targets : List (Option ℕ) → List (Option ℕ) → Bool
same_targets = pointwise (option_eq (λ m n. m == n))

-- nothing that is seen of a slot changed
abbrev pub is_same_slot : SeenSlot → SeenSlot → Bool
is_same_slot before after =
    before.slot == after.slot
    && (option_eq (λ m n. m == n) before.label after.label
    && (beq before.leaf after.leaf
    && (before.count == after.count
    && (before.cyclic == after.cyclic
    && (bytes_eq before.colour after.colour
    && (beq before.root after.root
    && (beq before.released after.released
    && (option_eq (λ m n. m == n) before.set after.set
    && same_targets before.fields after.fields))))))))

-- the counts that changed: the true one, and the cyclic one
abbrev pub counts_words : (before after : SeenSlot) → List ℕ
counts_words before after =
    where_changed before.count after.count (codes " count " ++ decimal before.count ++ codes " -> " ++ decimal after.count)
    ++ where_changed before.cyclic after.cyclic (codes " cyclic " ++ decimal before.cyclic ++ codes " -> " ++ decimal after.cyclic)

abbrev pub set_words : (before after : Option ℕ) → List ℕ
set_words None (Some set) = codes " joins set " ++ decimal set
set_words (Some set) None = codes " leaves set " ++ decimal set
set_words before after = []

abbrev pub root_words : (before after : Bool) → List ℕ
root_words false true = codes " becomes a root"
root_words true false = codes " is no root any more"
root_words before after = []

abbrev pub colour_words : (before after : List ℕ) → List ℕ
colour_words before after = if bytes_eq before after then [] else codes " " ++ before ++ codes " -> " ++ after

-- whether the slot was released, or lost a reference
abbrev pub loss_words : (before after : SeenSlot) → List ℕ
loss_words before after =
    (if after.released && not before.released then codes " released" else [])
    ++ (if same_targets after.fields before.fields then [] else codes " loses a reference")

-- what changed of a slot
abbrev pub change_words : (before after : SeenSlot) → List ℕ
change_words before after =
    codes "; #" ++ decimal after.slot
    ++ counts_words before after
    ++ colour_words before.colour after.colour
    ++ loss_words before after
    ++ set_words before.set after.set
    ++ root_words before.root after.root

-- the slots that changed, as they were and as they are
abbrev pub changed_slots : (before after : List SeenSlot) → List (SeenSlot × SeenSlot)
changed_slots before after = filter (λ p. not (is_same_slot p.0 p.1)) (zip before after)

-- a line tells six of them at most, and how many more there are
abbrev pub more_words : ℕ → List ℕ
more_words changed = if nat_lt 6 changed then codes "; and " ++ decimal (changed - 6) ++ codes " more slots" else []

abbrev pub changes_words : List (SeenSlot × SeenSlot) → List ℕ
changes_words changed = flat_map (λ p. change_words p.0 p.1) (take 6 changed) ++ more_words (length changed)

-- a move, between what was seen before it and what is seen behind it
abbrev pub sentence : Move → (was is : Seen) → List ℕ
sentence (Command t cmd told) was is =
    crosses_words (crossed_before (seen_mutator was t).epoch (seen_mutator is t).epoch cmd told.answer)
    ++ command_words cmd ++ codes ": " ++ answer_word told.answer
    ++ outcome_words t cmd told.answer told.saw told.left is
sentence (Step found turn) was is =
    step_words found is.collector.phase is.fields
    ++ turn_words turn
    ++ polls_words (crossed was.mutators is.mutators)
    ++ sets_words was.collector is.collector
    ++ changes_words (changed_slots was.slots is.slots)
