-- The heap that never frees: objects by number, and each mutator's registers.
use Rattle.std.specs.Prelude.{ℕ, Bool, false, ◌-◌, List, [], ◌∷◌, ◌++◌, Option, None, Some, length, map, replicate, slice_index_or, slice_set}
use Rattle.std.specs.List.{flat_map}
use Rattle.rec_model.specs.Reach.{named, IsReached}
use Rattle.rec_model.specs.Numbering.{IsNumbering, holders}

-- where a field leads, and the word that was last put there (0 at birth)
pub record Field : Type 0 where
  pub target : Option ℕ
  pub word : ℕ

-- a label, a mark that tells leaves, and the fields in order
pub record Object : Type 0 where
  pub label : ℕ
  pub leaf : Bool
  pub fields : List Field

-- objects are numbered from 0 in the order of their births; registers stand mutator by mutator
pub record Heap : Type 0 where
  pub objects : List Object
  pub registers : List (List (Option ℕ))

-- a field at birth
abbrev pub null_field : Field
null_field = record { target = None; word = 0 }

-- an object at its birth
abbrev pub born : (leaf : Bool) (fields label : ℕ) → Object
born leaf fields label = record { label = label; leaf = leaf; fields = replicate fields null_field }

-- one object with label 0, in register 0 of every mutator
abbrev pub opening : (fields registers mutators : ℕ) → Heap
opening fields registers mutators =
    record {
      objects = born false fields 0 ∷ [];
      registers = replicate mutators (Some 0 ∷ replicate (registers - 1) None);
    }

-- the registers of a mutator, numbered from 1
abbrev pub registers_of : List (List (Option ℕ)) → ℕ → List (Option ℕ)
registers_of registers t = slice_index_or registers (t - 1) []

-- what a register names
abbrev pub register : List (List (Option ℕ)) → ℕ → ℕ → Option ℕ
register registers t r = slice_index_or (registers_of registers t) r None

-- the registers with one of a mutator's changed
abbrev pub set_register : List (List (Option ℕ)) → ℕ → ℕ → Option ℕ → List (List (Option ℕ))
set_register registers t r target = slice_set registers (t - 1) (slice_set (registers_of registers t) r target)

-- an object with no field, which no number of an object names
abbrev pub nothing : Object
nothing = record { label = 0; leaf = false; fields = [] }

-- the object with this number
abbrev pub object : Heap → ℕ → Object
object heap n = slice_index_or heap.objects n nothing

-- a field of an object
abbrev pub field : Heap → ℕ → ℕ → Field
field heap n f = slice_index_or (object heap n).fields f null_field

-- the heap with a register of a mutator changed
abbrev pub with_register : Heap → ℕ → ℕ → Option ℕ → Heap
with_register heap t r target = record heap { registers = set_register heap.registers t r target }

-- the heap in which every register of a mutator is null
abbrev pub without_registers : Heap → ℕ → Heap
without_registers heap t = record heap { registers = slice_set heap.registers (t - 1) (replicate (length (registers_of heap.registers t)) None) }

-- the heap with a field of an object changed
abbrev pub with_field : Heap → ℕ → ℕ → Field → Heap
with_field heap n f x = record heap { objects = slice_set heap.objects n (record (object heap n) { fields = slice_set (object heap n).fields f x }) }

-- the heap with one object more
abbrev pub with_object : Heap → Object → Heap
with_object heap x = record heap { objects = heap.objects ++ x ∷ [] }

-- what the registers name: mutator 1's register 0 onwards, mutator by mutator
abbrev pub roots : List (List (Option ℕ)) → List ℕ
roots registers = flat_map named registers

-- what the fields of an object name, in order
abbrev pub children : Heap → ℕ → List ℕ
children heap n = named (map (λ x. x.target) (object heap n).fields)

-- on a path of fields from a register
abbrev pub IsLive : Heap → ℕ → Type 0
IsLive heap = IsReached (roots heap.registers) (children heap)

-- the numbering of a listing: by the registers, then by the fields of each listed object
abbrev pub IsListed : Heap → List ℕ → Type 0
IsListed heap = IsNumbering (roots heap.registers) (children heap)

-- how many fields of the listed objects, and how many registers, hold the object
abbrev pub count_of : Heap → List ℕ → ℕ → ℕ
count_of heap = holders (roots heap.registers) (children heap)
