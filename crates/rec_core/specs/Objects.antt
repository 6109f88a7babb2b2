-- Objects with which a heap is opened, and the heap that never frees that they describe.
use Rattle.std.specs.Prelude.{◌≡◌, ℕ, ◌+◌, ◌-◌, ◌*◌, ◌/◌, ◌%◌, ◌^◌, ◌<◌, ◌≤◌, Bool, true, false, Option, None, Some, IfSome, List, [], ◌∷◌, All, count_by, length, map, replicate, slice_index_or, slice_range}
use Rattle.std.specs.List.{range_with_len, repeat}
use Rattle.rec_word.specs.Word.{is_slot, packed}
use Rattle.rec_word.specs.declared.stamps.Stamp.{Stamp}
use Rattle.rec_model.specs.Heap.{Field, Heap, Object}
use Rattle.rec_model.specs.Reach.{named, IsReached}
pub use Rattle.rec_collector.specs.Rows.{rows_of}
use Rattle.rec_core.specs.declared.config.Config.{Config}

-- the label and the leaf mark of each object, numbered from 0; which object each field leads to, object after object; and which one each
-- register names, mutator after mutator
pub record Objects : Type 0 where
  pub nodes : List (ℕ × Bool)
  pub fields : List (Option ℕ)
  pub registers : List (Option ℕ)

-- null, or one of so many
abbrev pub IsOneOf : (many : ℕ) → Option ℕ → Type 0
IsOneOf many x = IfSome x (λ n. n < many)

-- the label and the leaf mark of an object
abbrev pub node_at : Objects → (n : ℕ) → ℕ × Bool
node_at o n = slice_index_or o.nodes n (0, false)

-- what the fields of an object lead to, where objects have so many
abbrev pub fields_at : (width : ℕ) → List (Option ℕ) → (n : ℕ) → List (Option ℕ)
fields_at width fields n = slice_range fields (n * width) (n * width + width)

-- Objects of a heap with these numbers: each has its fields and each mutator its registers, which lead to objects or are null; the
-- fields of a leaf are null; and each object is on a path of fields from a register.
pub record AreObjects (config : Config) (o : Objects) : Type 0 where
  pub few : length o.nodes ≤ config.slots
  pub fields : length o.fields ≡ length o.nodes * config.fields
  pub registers : length o.registers ≡ config.mutators * config.registers
  pub targets : All (IsOneOf (length o.nodes)) o.fields
  pub held : All (IsOneOf (length o.nodes)) o.registers
  pub leaves : (n : ℕ) → (node_at o n).1 ≡ true → fields_at config.fields o.fields n ≡ replicate config.fields None
  pub reached : (n : ℕ) → n < length o.nodes → IsReached (named o.registers) (λ m. named (fields_at config.fields o.fields m)) n

-- each label fits a header
abbrev pub HaveLabels : List (ℕ × Bool) → Type 0
HaveLabels = All (λ node. node.0 < 2 ^ 32)

-- how many fields and registers hold an object
abbrev pub holders : Objects → (n : ℕ) → ℕ
holders o n = count_by (is_slot n) o.fields + count_by (is_slot n) o.registers

-- so of each
abbrev pub counts_of : Objects → List ℕ
counts_of o = map (holders o) (range_with_len 0 (length o.nodes))

-- the registers of a mutator that names one object: the first does, the others are null
abbrev pub first_registers : (registers : ℕ) → List (Option ℕ)
first_registers registers = Some 0 ∷ replicate (registers - 1) None

-- the object with which a heap is opened that no others are given: its label is 0, its fields are null, and each mutator names it
abbrev pub first_object : Config → Objects
first_object config = record { nodes = (0, false) ∷ []; fields = replicate config.fields None; registers = repeat config.mutators (first_registers config.registers) }

-- the stamp of a reference from before all epochs: no mutator's, and of its place alone
abbrev pub early_stamp : (place : ℕ) → Stamp
early_stamp place = record { writer = 0; epoch = place / 2 ^ 18; index = place % 2 ^ 18 }

-- the word of such a reference at its place
abbrev pub early_word : (place : ℕ) → Option ℕ → ℕ
early_word place None = 0
early_word place (Some slot) = packed (Some slot) (early_stamp place)

-- such words from this place on
abbrev pub early_words : (place : ℕ) → List (Option ℕ) → List ℕ
early_words place [] = []
early_words place (x ∷ xs) = early_word place x ∷ early_words (place + 1) xs

-- such fields
abbrev pub early_fields : (place : ℕ) → List (Option ℕ) → List Field
early_fields place [] = []
early_fields place (x ∷ xs) = record { target = x; word = early_word place x } ∷ early_fields (place + 1) xs

-- an object as it is described
abbrev pub object_at : (width : ℕ) → Objects → (n : ℕ) → Object
object_at width o n = record { label = (node_at o n).0; leaf = (node_at o n).1; fields = early_fields (n * width) (fields_at width o.fields n) }

-- the heap that they describe
abbrev pub described : Config → Objects → Heap
described config o = record { objects = map (object_at config.fields o) (range_with_len 0 (length o.nodes)); registers = rows_of config.registers config.mutators o.registers }
