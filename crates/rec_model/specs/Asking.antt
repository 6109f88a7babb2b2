-- What a command gives on the heap that never frees.
use Rattle.std.specs.Prelude.{◌≡◌, ◌==◌, ℕ, Bool, true, false, not, ◌&&◌, Option, None, Some, is_some, length, MatchBool}
use Rattle.rec_word.specs.Word.{target_of}
use Rattle.rec_model.specs.declared.command.Cmd.{Cmd}
use Rattle.rec_model.specs.declared.command.Cmd.TheVariants as commands
use Rattle.rec_model.specs.declared.answer.Answer.{Answer}
use Rattle.rec_model.specs.declared.answer.Answer.TheVariants as answers
use Rattle.rec_model.specs.declared.told.Told.{Told}
use Rattle.rec_model.specs.Heap.{Heap, object, field, register, born, with_register, with_field, with_object, without_registers}

-- the next heap, the answer (none where the command is refused: which refusal is left open), and the word seen
pub record Asked : Type 0 where
  pub heap : Heap
  pub answer : Option Answer
  pub saw : ℕ

-- a command with an answer
abbrev pub answered : Heap → Answer → ℕ → Asked
answered heap answer saw = record { heap = heap; answer = Some answer; saw = saw }

-- a command that is refused, and changes nothing
abbrev pub refused : Heap → Asked
refused heap = record { heap = heap; answer = None; saw = 0 }

-- whether a field that was read is null
abbrev pub null_or_object : Option ℕ → Answer
null_or_object None = answers.Null
null_or_object (Some n) = answers.Object

-- a read of a field: of the object in a register, if there is one
abbrev pub got : Heap → ℕ → ℕ → ℕ → Option ℕ → Asked
got heap t dst f None = answered heap answers.NoObject 0
got heap t dst f (Some n) = answered (with_register heap t dst (field heap n f).target) (null_or_object (field heap n f).target) (field heap n f).word

-- a write of a field of an object: where it is made it leaves a word, and the target beside it is the register's
abbrev pub put_to : Heap → (n f : ℕ) → Option ℕ → (left : ℕ) → (made : Bool) → Asked
put_to heap n f val left true = answered (with_field heap n f (record { target = val; word = left })) answers.Done (field heap n f).word
put_to heap n f val left false = refused heap

-- a write of a field of the object in a register, if there is one; into a leaf it is never made
abbrev pub put : Heap → ℕ → Option ℕ → Bool → ℕ → Option ℕ → Asked
put heap f val made left None = answered heap answers.NoObject 0
put heap f val made left (Some n) = put_to heap n f val left (made && not (object heap n).leaf)

-- the label of the object in a register, if there is one
abbrev pub value : Heap → Option ℕ → Answer
value heap None = answers.NoObject
value heap (Some n) = answers.Value (object heap n).label

-- whether two registers name one object, or both are null
abbrev pub same : Option ℕ → Option ℕ → Bool
same None None = true
same (Some m) (Some n) = m == n
same _ _ = false

-- a comparison in words
abbrev pub yes_or_no : Bool → Answer
yes_or_no true = answers.Yes
yes_or_no false = answers.No

-- a birth: of an object that is (or is not) a leaf
abbrev pub bear : (fields : ℕ) → Heap → (t reg label : ℕ) → (leaf made : Bool) → Asked
bear fields heap t reg label leaf true = answered (with_register (with_object heap (born leaf fields label)) t reg (Some (length heap.objects))) answers.Done 0
bear fields heap t reg label leaf false = refused heap

-- a mutator leaves: every register of its own is null
abbrev pub leave : Heap → (t : ℕ) → (made : Bool) → Asked
leave heap t true = answered (without_registers heap t) answers.Done 0
leave heap t false = refused heap

-- What asking gives. Parking and unparking leave the heap as it is. Every object has this many fields; `made` bears on New, Leaf and
-- Leave, and on Put where its object is there; `left` is the word that a Put leaves.
abbrev pub asks : (fields : ℕ) → Heap → (t : ℕ) → Cmd → (made : Bool) → (left : ℕ) → Asked
asks fields heap t (commands.New reg label) made left = bear fields heap t reg label false made
asks fields heap t (commands.Leaf reg label) made left = bear fields heap t reg label true made
asks fields heap t (commands.Null reg) made left = answered (with_register heap t reg None) answers.Done 0
asks fields heap t (commands.Copy dst src) made left = answered (with_register heap t dst (register heap.registers t src)) answers.Done 0
asks fields heap t (commands.Get dst src f) made left = got heap t dst f (register heap.registers t src)
asks fields heap t (commands.Put src f val) made left = put heap f (register heap.registers t val) made left (register heap.registers t src)
asks fields heap t (commands.Value reg) made left = answered heap (value heap (register heap.registers t reg)) 0
asks fields heap t (commands.Same a b) made left = answered heap (yes_or_no (same (register heap.registers t a) (register heap.registers t b))) 0
asks fields heap t commands.Leave made left = leave heap t made
asks fields heap t commands.Park made left = answered heap answers.Done 0
asks fields heap t commands.Unpark made left = answered heap answers.Done 0

-- the command that allocates: a leaf, or an object with fields
abbrev pub allocation : (leaf : Bool) (reg label : ℕ) → Cmd
allocation true reg label = commands.Leaf reg label
allocation false reg label = commands.New reg label

-- the refusals of an allocation
abbrev pub refuses_new : Answer → Bool
refuses_new answers.LogFull = true
refuses_new answers.Full = true
refuses_new (answers.Busy before after) = true
refuses_new _ = false

-- the refusals of a write
abbrev refuses_put : Answer → Bool
refuses_put answers.LogFull = true
refuses_put answers.NoField = true
refuses_put _ = false

-- the refusal of leaving
abbrev refuses_leave : Answer → Bool
refuses_leave answers.NotYet = true
refuses_leave _ = false

-- the refusals that a command may have
abbrev IsRefusalOf : Cmd → Answer → Type 0
IsRefusalOf (commands.New reg label) answer = refuses_new answer ≡ true
IsRefusalOf (commands.Leaf reg label) answer = refuses_new answer ≡ true
IsRefusalOf (commands.Put src f val) answer = refuses_put answer ≡ true
IsRefusalOf commands.Leave answer = refuses_leave answer ≡ true
IsRefusalOf _ answer = ⊥

-- the answer is the one given, or a refusal where none is
abbrev pub AnswersAs : Cmd → Option Answer → Answer → Type 0
AnswersAs cmd (Some answer) told = told ≡ answer
AnswersAs cmd None told = IsRefusalOf cmd told

-- whether the command was made
abbrev pub is_done : Answer → Bool
is_done answers.Done = true
is_done _ = false

-- what asking gives to a command that was told this: New, Leaf, Put and Leave are made exactly where they are answered Done
abbrev pub asked : (fields : ℕ) → Heap → (t : ℕ) → Cmd → Told → Asked
asked fields heap t cmd told = asks fields heap t cmd (is_done told.answer) told.left

-- a Put that is made leaves a word with a target exactly where its register isn't null; nothing else leaves a word
abbrev pub LeavesWord : Heap → (t : ℕ) → Cmd → Told → Type 0
LeavesWord heap t (commands.Put src f val) told = MatchBool (is_done told.answer) (is_some (target_of told.left) ≡ is_some (register heap.registers t val)) (told.left ≡ 0)
LeavesWord heap t _ told = told.left ≡ 0

-- the command would write into a leaf
abbrev pub WritesLeaf : Heap → (t : ℕ) → Cmd → Type 0
WritesLeaf heap t (commands.Put src f val) = (n : ℕ) × (register heap.registers t src ≡ Some n) × ((object heap n).leaf ≡ true)
WritesLeaf heap t _ = ⊥

-- what was told is what asking gives; that there is no field is told only where a leaf would be written
pub record IsTold (fields : ℕ) (heap : Heap) (t : ℕ) (cmd : Cmd) (told : Told) : Type 0 where
  pub answer : AnswersAs cmd (asked fields heap t cmd told).answer told.answer
  pub saw : told.saw ≡ (asked fields heap t cmd told).saw
  pub left : LeavesWord heap t cmd told
  pub no_field : told.answer ≡ answers.NoField → WritesLeaf heap t cmd

-- an answer that saw and left no word
abbrev pub plain : Answer → Told
plain answer = record { answer = answer; saw = 0; left = 0 }
