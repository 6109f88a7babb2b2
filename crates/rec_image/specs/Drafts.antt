-- What the lines so far have told, while an image is read: how many objects are met, and how many of them registers have to name.
use Rattle.std.specs.Prelude.{◌≡◌, ◌≢◌, ◌⊎◌, ℕ, zero, suc, true, Bool, None, take, drop, replicate, ◌+◌, ◌-◌, ◌*◌, ◌<◌, ◌≤◌, max, nat_le, nat_lt, if◌then◌else◌, List, [], ◌∷◌, ◌++◌, Option, All, length, map, slice_index}
use Rattle.std.specs.List.{flat_map}
use Rattle.rec_model.specs.Heap.{roots}
use Rattle.rec_model.specs.Reach.{named}
use Rattle.rec_image.specs.declared.held.Held.{Held}
use Rattle.rec_image.specs.declared.line.Heap.{Heap}
use Rattle.rec_image.specs.declared.objects.Objects.{Objects}
use Rattle.rec_image.specs.declared.meeting.Meeting.{Meeting}
use Rattle.rec_image.specs.Image.{Node, ImageContents, IsOneOf, IsImage, word, told_fields, IsNode, AreRegisters, IsSized, header_line, heap_line, object_line, registers_line}

-- nothing is met
abbrev pub unmet : Meeting
unmet = record { met = 0; due = 0 }

-- what is due where the numbers below n have to be met already
abbrev pub due_for : Meeting → ℕ → ℕ
due_for m n = if nat_le n m.met then m.due else max m.due n

-- object n is named: those before it are met already
abbrev pub meets : Meeting → ℕ → Meeting
meets m n = record { met = max m.met (n + 1); due = due_for m n }

-- object n has its turn: it is met already
abbrev pub begins : Meeting → ℕ → Meeting
begins m n = record { met = m.met; due = due_for m (n + 1) }

-- objects are named in this order
abbrev pub meets_all : Meeting → List ℕ → Meeting
meets_all m [] = m
meets_all m (n ∷ ns) = meets_all (meets m n) ns

-- objects with these children, from object n on, have their turns
abbrev pub walks : Meeting → (n : ℕ) → List (List ℕ) → Meeting
walks m n [] = m
walks m n (names ∷ more) = walks (meets_all (begins m n) names) (n + 1) more

-- what an object's fields name
abbrev pub names : Node → List ℕ
names node = named node.fields

-- what is met, and due, where these objects have had their turns
abbrev pub meeting : List Node → Meeting
meeting objects = walks unmet 0 (map names objects)

-- what registers name: nothing is due, for they come before all objects
abbrev pub naming : List (List (Option ℕ)) → Meeting
naming held = meets_all unmet (roots held)

-- how many of n objects registers have to name at least, so that all are met
abbrev pub least : Meeting → (n : ℕ) → ℕ
least m n = if nat_lt m.met n then n else m.due

-- the lines so far, where the heap's numbers are told
abbrev pub so_far : ImageContents → List ℕ
so_far v = header_line ++ (heap_line v.slots v.fields v.registers v.mutators ++ (flat_map object_line v.objects ++ flat_map registers_line v.held))

-- some objects are told, and no register
pub record IsOpen (v : ImageContents) : Type 0 where
  pub sized : IsSized v.slots v.fields v.registers v.mutators
  pub few : length v.objects ≤ v.slots
  pub objects : All (IsNode v.slots v.fields) v.objects
  pub none : v.held ≡ []
  pub due : (meeting v.objects).due ≤ v.mutators * v.registers

-- all objects are told, and the registers of some mutators; those of the others can name what is due
pub record CanClose (v : ImageContents) : Type 0 where
  pub sized : IsSized v.slots v.fields v.registers v.mutators
  pub few : length v.objects ≤ v.slots
  pub objects : All (IsNode v.slots v.fields) v.objects
  pub registers : All (AreRegisters v.slots v.registers) v.held
  pub rows : length v.held ≤ v.mutators
  pub met : (meeting v.objects).met ≤ length v.objects
  pub grow : (naming v.held).due ≡ 0
  pub named : (naming v.held).met ≤ length v.objects
  pub reach : least (meeting v.objects) (length v.objects) ≤ (naming v.held).met + (v.mutators - length v.held) * v.registers

-- the same heap with these objects and these registers behind
abbrev pub with_more : ImageContents → List Node → List (List (Option ℕ)) → ImageContents
with_more v objects held = record v { objects = v.objects ++ objects; held = v.held ++ held }

-- so many words that end a line were read from the front, added to others and met in order
pub record AreRead (count slots : ℕ) (bytes rest : List ℕ) (before after : List (Option ℕ)) (met now : Meeting) : Type 0 where
  pub words : List (Option ℕ)
  pub number : length words ≡ count
  pub places : All (IsOneOf slots) words
  pub line : bytes ≡ flat_map word words ++ 10 ∷ rest
  pub more : after ≡ before ++ words
  pub meeting : now ≡ meets_all met (named words)

-- there are no such words at the front
abbrev pub AreUnread : (count slots : ℕ) → (bytes : List ℕ) → Type 0
AreUnread count slots bytes = (words : List (Option ℕ)) (rest : List ℕ) → length words ≡ count → All (IsOneOf slots) words → bytes ≢ flat_map word words ++ 10 ∷ rest

-- the line of a mutator was read from the front, its registers added to others and met in order
pub record AreRegistersRead (slots registers : ℕ) (bytes rest : List ℕ) (before after : List (Option ℕ)) (met now : Meeting) : Type 0 where
  pub own : List (Option ℕ)
  pub are : AreRegisters slots registers own
  pub line : bytes ≡ registers_line own ++ rest
  pub more : after ≡ before ++ own
  pub meeting : now ≡ meets_all met (named own)

-- objects, by their labels and leaf marks, and their fields in one list
abbrev pub objects_of : (fields : ℕ) → List (ℕ × Bool) → List (Option ℕ) → List Node
objects_of fields [] targets = []
objects_of fields (node ∷ nodes) targets = record { label = node.0; leaf = node.1; fields = take fields targets } ∷ objects_of fields nodes (drop fields targets)

-- the registers of so many mutators, that stand in one list
abbrev pub rows_of : (registers rows : ℕ) → List (Option ℕ) → List (List (Option ℕ))
rows_of registers zero held = []
rows_of registers (suc rows) held = take registers held ∷ rows_of registers rows (drop registers held)

-- a heap's numbers with these objects and registers
abbrev pub draft : Heap → List Node → List (List (Option ℕ)) → ImageContents
draft heap objects held = record { slots = heap.slots; fields = heap.fields; registers = heap.registers; mutators = heap.mutators; objects = objects; held = held }

-- the objects that were read
abbrev pub objects_in : Heap → Objects → List Node
objects_in heap x = objects_of heap.fields x.nodes.items x.targets.items

-- the fields of an object were read from the front, and added to others
pub record AreFieldsRead (slots fields : ℕ) (leaf : Bool) (bytes rest : List ℕ) (before after : Objects) : Type 0 where
  pub own : List (Option ℕ)
  pub number : length own ≡ fields
  pub places : All (IsOneOf slots) own
  pub null : leaf ≡ true → own ≡ replicate fields None
  pub line : bytes ≡ flat_map word (told_fields leaf own) ++ 10 ∷ rest
  pub nodes : after.nodes.items ≡ before.nodes.items
  pub more : after.targets.items ≡ before.targets.items ++ own
  pub meeting : after.meeting ≡ meets_all before.meeting (named own)

abbrev pub AreFieldsUnread : (slots fields : ℕ) (leaf : Bool) (bytes : List ℕ) → Type 0
AreFieldsUnread slots fields leaf bytes = (own : List (Option ℕ)) (rest : List ℕ) → length own ≡ fields → All (IsOneOf slots) own → bytes ≢ flat_map word (told_fields leaf own) ++ 10 ∷ rest

-- the line of an object was read from the front, and the object added to others
pub record IsNodeRead (slots fields : ℕ) (bytes rest : List ℕ) (before after : Objects) : Type 0 where
  pub node : Node
  pub is : IsNode slots fields node
  pub line : bytes ≡ object_line node ++ rest
  pub nodes : after.nodes.items ≡ before.nodes.items ++ (node.label, node.leaf) ∷ []
  pub more : after.targets.items ≡ before.targets.items ++ node.fields
  pub meeting : after.meeting ≡ meets_all before.meeting (names node)

-- what holds of the objects while they are read
pub record AreObjects (heap : Heap) (x : Objects) : Type 0 where
  pub size : length x.targets.items ≡ length x.nodes.items * heap.fields
  pub is_open : IsOpen (draft heap (objects_in heap x) [])
  pub meeting : x.meeting ≡ meeting (objects_in heap x)

-- an object was read from the front, which joins the others
pub record IsObjectRead (heap : Heap) (bytes rest : List ℕ) (before after : Objects) : Type 0 where
  pub node : Node
  pub line : bytes ≡ object_line node ++ rest
  pub more : objects_in heap after ≡ objects_in heap before ++ node ∷ []
  pub less : length rest < length bytes
  pub are : AreObjects heap after

-- an image's numbers are those of this heap
pub record IsOfHeap (heap : Heap) (w : ImageContents) : Type 0 where
  pub slots : w.slots ≡ heap.slots
  pub fields : w.fields ≡ heap.fields
  pub registers : w.registers ≡ heap.registers
  pub mutators : w.mutators ≡ heap.mutators

-- no image with these objects has an object next whose line is at the front
abbrev pub NoObjectNext : Heap → List Node → (bytes : List ℕ) → Type 0
NoObjectNext heap objects bytes = (w : ImageContents) (node : Node) (more : List Node) (rest : List ℕ) → IsImage w → IsOfHeap heap w → w.objects ≡ objects ++ node ∷ more → bytes ≢ object_line node ++ rest

-- bytes that begin as the line of an object
abbrev pub BeginsObject : List ℕ → Type 0
BeginsObject bytes = (slice_index bytes 0 ≡ 111) ⊎ (slice_index bytes 0 ≡ 108)

-- the registers that were read
abbrev pub held_in : Heap → Held → List (List (Option ℕ))
held_in heap x = rows_of heap.registers x.rows x.registers.items

-- what holds of the registers while they are read
pub record AreHeld (heap : Heap) (objects : List Node) (x : Held) : Type 0 where
  pub size : length x.registers.items ≡ x.rows * heap.registers
  pub can : CanClose (draft heap objects (held_in heap x))
  pub naming : x.naming ≡ naming (held_in heap x)

-- the registers of a mutator were read from the front, and join the others
pub record IsRowRead (heap : Heap) (objects : List Node) (bytes rest : List ℕ) (before after : Held) : Type 0 where
  pub own : List (Option ℕ)
  pub line : bytes ≡ registers_line own ++ rest
  pub rows : after.rows ≡ before.rows + 1
  pub more : held_in heap after ≡ held_in heap before ++ own ∷ []
  pub are : AreHeld heap objects after

-- no image with just these objects and these registers has a mutator next whose line is at the front
abbrev pub NoRowNext : Heap → List Node → List (List (Option ℕ)) → (bytes : List ℕ) → Type 0
NoRowNext heap objects held bytes = (w : ImageContents) (own : List (Option ℕ)) (more : List (List (Option ℕ))) (rest : List ℕ) → IsImage w → IsOfHeap heap w → w.objects ≡ objects → w.held ≡ held ++ own ∷ more → bytes ≢ registers_line own ++ rest
