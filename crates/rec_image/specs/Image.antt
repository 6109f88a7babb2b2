-- An image of a heap: what it holds, which values are images, their text, and the first line of other bytes that no image goes on with.
use Rattle.std.specs.Prelude.{◌≡◌, ℕ, ◌+◌, ◌<◌, ◌≤◌, ◌^◌, ◌==◌, ◌⊎◌, Bool, true, false, List, [], ◌++◌, Option, None, option_map, All, codes, count_by, length, replicate, slice_index_or}
use Rattle.std.specs.Fmt.{decimal}
use Rattle.std.specs.List.{flat_map, range_with_len}
use Rattle.rec_model.specs.declared.limits.TheConstants.{MOST_MUTATORS}
use Rattle.rec_model.specs.Heap.{roots}
use Rattle.rec_model.specs.Numbering.{IsNumbering}
use Rattle.rec_model.specs.Reach.{named}
pub use Rattle.rec_core.specs.Objects.{IsOneOf}
use Rattle.rec_report.specs.Text.{field_word, line_feed}
use Rattle.rec_script.specs.Script.{IsHeap}

-- a live object: its label, its leaf mark, and which object each field leads to
pub record Node : Type 0 where
  pub label : ℕ
  pub leaf : Bool
  pub fields : List (Option ℕ)

-- The slots of a heap, the fields of an object, the registers of a mutator and the mutators; the live objects, numbered from 0; and for
-- each mutator which object each register names.
pub record ImageContents : Type 0 where
  pub slots : ℕ
  pub fields : ℕ
  pub registers : ℕ
  pub mutators : ℕ
  pub objects : List Node
  pub held : List (List (Option ℕ))

-- an object with no field, which no number of an object names
abbrev pub nothing : Node
nothing = record { label = 0; leaf = false; fields = [] }

-- what the fields of an object name, in order
abbrev pub children : List Node → ℕ → List ℕ
children objects n = named (slice_index_or objects n nothing).fields

-- the limits of an object; the fields of a leaf are null
pub record IsNode (slots fields : ℕ) (node : Node) : Type 0 where
  pub label : node.label < 2 ^ 32
  pub width : length node.fields ≡ fields
  pub places : All (IsOneOf slots) node.fields
  pub leaf : node.leaf ≡ true → node.fields ≡ replicate fields None

-- the limits of a mutator's registers
pub record AreRegisters (slots registers : ℕ) (held : List (Option ℕ)) : Type 0 where
  pub number : length held ≡ registers
  pub places : All (IsOneOf slots) held

-- the limits of a heap, and of its number of mutators
pub record IsSized (slots fields registers mutators : ℕ) : Type 0 where
  pub heap : IsHeap slots fields registers
  pub some_mutators : 1 ≤ mutators
  pub most_mutators : mutators ≤ MOST_MUTATORS

-- A value is an image where its numbers are within the limits, it has no more objects than slots, and the objects are numbered as a
-- listing numbers them: so each is on a path of fields from a register, and one heap has one image.
pub record IsImage (v : ImageContents) : Type 0 where
  pub sized : IsSized v.slots v.fields v.registers v.mutators
  pub few : length v.objects ≤ v.slots
  pub objects : All (IsNode v.slots v.fields) v.objects
  pub mutators : length v.held ≡ v.mutators
  pub registers : All (AreRegisters v.slots v.registers) v.held
  pub numbered : IsNumbering (roots v.held) (children v.objects) (range_with_len 0 (length v.objects))

-- what a field or register leads to, behind a space; in the text objects are numbered from 1
abbrev pub word : Option ℕ → List ℕ
word x = field_word (option_map (λ n. n + 1) x)

-- the first line
abbrev pub header_line : List ℕ
header_line = codes "recycler image 1" ++ line_feed

-- the second line
abbrev pub heap_line : (slots fields registers mutators : ℕ) → List ℕ
heap_line slots fields registers mutators =
    codes "heap " ++ (decimal slots ++ (codes " " ++ (decimal fields ++ (codes " " ++ (decimal registers ++ (codes " " ++ (decimal mutators ++ line_feed)))))))

-- what stands before an object's label
abbrev pub node_head : (leaf : Bool) → List ℕ
node_head true = codes "leaf "
node_head false = codes "object "

-- the fields that are told: those of a leaf aren't, since they are null
abbrev pub told_fields : (leaf : Bool) → List (Option ℕ) → List (Option ℕ)
told_fields true fields = []
told_fields false fields = fields

-- the line of an object
abbrev pub object_line : Node → List ℕ
object_line node = node_head node.leaf ++ (decimal node.label ++ (flat_map word (told_fields node.leaf node.fields) ++ line_feed))

-- the line of a mutator
abbrev pub registers_line : List (Option ℕ) → List ℕ
registers_line held = codes "registers" ++ (flat_map word held ++ line_feed)

-- the last line
abbrev pub end_line : List ℕ
end_line = codes "end" ++ line_feed

-- the text of an image
abbrev pub text : ImageContents → List ℕ
text v =
    header_line ++ (heap_line v.slots v.fields v.registers v.mutators
    ++ (flat_map object_line v.objects ++ (flat_map registers_line v.held ++ end_line)))

-- the bytes are the text of an image
abbrev IsText : List ℕ → Type 0
IsText bytes = (v : ImageContents) × IsImage v × (bytes ≡ text v)

-- the text of some image goes on from these bytes
abbrev pub IsContinued : List ℕ → Type 0
IsContinued before = (v : ImageContents) × (after : List ℕ) × IsImage v × (text v ≡ before ++ after)

-- how many LFs there are
abbrev pub feeds : List ℕ → ℕ
feeds bytes = count_by (λ b. b == 10) bytes

-- no bytes, or some that end with an LF
abbrev pub AreWhole : List ℕ → Type 0
AreWhole bytes = (bytes ≡ []) ⊎ ((front : List ℕ) × (bytes ≡ front ++ line_feed))

-- The bytes are the text of no image, and this line, numbered from 1, is the first with which no image goes on: some image goes on from
-- the lines before it, and none from these and it. Where no LF ends it, it is the line of which the end is missing.
pub record StopsAt (bytes : List ℕ) (line : ℕ) : Type 0 where
  pub before : List ℕ
  pub behind : List ℕ
  pub parts : bytes ≡ before ++ behind
  pub whole : AreWhole before
  pub number : line ≡ feeds before + 1
  pub continued : IsContinued before
  pub not_with : (next after : List ℕ) → feeds next ≡ 0 → behind ≡ next ++ (line_feed ++ after) → ¬ IsContinued (before ++ (next ++ line_feed))
  pub no_text : ¬ IsText bytes
