-- What is seen of a running heap, and when a heap that never frees stands for it.
use Rattle.std.specs.Prelude.{◌≡◌, ℕ, ◌+◌, ◌-◌, ◌*◌, ◌<◌, ◌↔◌, true, List, ◌∷◌, Option, None, Some, option_map, map, length, replicate, slice_index_or, slice_set, slice_range}
use Rattle.rec_word.specs.Header.{is_leaf, IsHeaderOf}
use Rattle.rec_word.specs.Place.{place_of}
use Rattle.rec_word.specs.Word.{target_of}
use Rattle.rec_model.specs.Reach.{named, is_in, IsReached}
use Rattle.rec_model.specs.Numbering.{IsNumbering, holders}
use Rattle.rec_model.specs.Heap.{Heap, Field, object, registers_of, set_register, roots}

-- the number of fields of an object; a header for each slot, 0 where it is free; each field's word by its place; each mutator's registers
pub record Sight : Type 0 where
  pub fields : ℕ
  pub headers : List ℕ
  pub words : List ℕ
  pub registers : List (List (Option ℕ))

-- a slot holds an object
abbrev pub IsTaken : Sight → ℕ → Type 0
IsTaken w slot = 0 < slice_index_or w.headers slot 0

-- a slot holds a leaf
abbrev HoldsLeaf : Sight → ℕ → Type 0
HoldsLeaf w slot = is_leaf (slice_index_or w.headers slot 0) ≡ true

-- the words of a slot's fields, in order
abbrev pub words_of : Sight → ℕ → List ℕ
words_of w slot = slice_range w.words (slot * w.fields) (slot * w.fields + w.fields)

-- what the fields of a slot name, in order
abbrev pub targets_of : Sight → ℕ → List ℕ
targets_of w slot = named (map target_of (words_of w slot))

-- on a path of fields from a register
abbrev pub Reaches : Sight → ℕ → Type 0
Reaches w = IsReached (roots w.registers) (targets_of w)

-- the numbering of its slots in a listing
abbrev pub NumbersSlots : Sight → List ℕ → Type 0
NumbersSlots w = IsNumbering (roots w.registers) (targets_of w)

-- how many fields of the numbered slots, and how many registers, hold the slot
abbrev pub holders_of : Sight → List ℕ → ℕ → ℕ
holders_of w = holders (roots w.registers) (targets_of w)

-- what a word is under a numbering of the slots' objects
abbrev pub field_of : (ℕ → ℕ) → ℕ → Field
field_of number word = record { target = option_map number (target_of word); word = word }

-- `number` names the object in each taken slot
pub record StandsBy (heap : Heap) (w : Sight) (number : ℕ → ℕ) : Type 0 where
  pub one_to_one : (s t : ℕ) → IsTaken w s → IsTaken w t → number s ≡ number t → s ≡ t
  pub there : (s : ℕ) → IsTaken w s → number s < length heap.objects
  pub header : (s : ℕ) → IsTaken w s → IsHeaderOf (object heap (number s)).leaf (object heap (number s)).label (slice_index_or w.headers s 0)
  pub registers : heap.registers ≡ map (map (option_map number)) w.registers
  pub fields : (s : ℕ) → Reaches w s → (object heap (number s)).fields ≡ map (field_of number) (words_of w s)

-- The heap stands for what is seen: its objects are one to one to the taken slots, with equal labels and leaf marks, and the registers,
-- and the fields and field words of every slot that a register reaches, agree.
abbrev pub Represents : Heap → Sight → Type 0
Represents heap w = (number : ℕ → ℕ) × StandsBy heap w number

-- just the slots on a path of fields from a register hold objects
abbrev pub IsCollected : Sight → Type 0
IsCollected w = (slot : ℕ) → IsTaken w slot ↔ Reaches w slot

-- What every running heap keeps: registers and the fields of taken slots name taken slots, and the fields of a free slot and of a
-- leaf are 0.
pub record IsSound (w : Sight) : Type 0 where
  pub places : length w.words ≡ length w.headers * w.fields
  pub registers : (slot : ℕ) → is_in slot (roots w.registers) ≡ true → IsTaken w slot
  pub fields : (s slot : ℕ) → IsTaken w s → is_in slot (targets_of w s) ≡ true → IsTaken w slot
  pub free : (s : ℕ) → s < length w.headers → (IsTaken w s → ⊥) → words_of w s ≡ replicate w.fields 0
  pub leaves : (s : ℕ) → HoldsLeaf w s → words_of w s ≡ replicate w.fields 0

-- the word of a slot's field
abbrev pub word_at : Sight → ℕ → ℕ → ℕ
word_at w slot f = slice_index_or w.words (place_of slot f w.fields) 0

-- with a register of a mutator changed
abbrev pub sight_with_register : Sight → ℕ → ℕ → Option ℕ → Sight
sight_with_register w t r target = record w { registers = set_register w.registers t r target }

-- with the word of a slot's field changed
abbrev pub sight_with_word : Sight → ℕ → ℕ → ℕ → Sight
sight_with_word w slot f word = record w { words = slice_set w.words (place_of slot f w.fields) word }

-- with a slot's header changed
abbrev pub sight_with_header : Sight → ℕ → ℕ → Sight
sight_with_header w slot header = record w { headers = slice_set w.headers slot header }

-- what is seen after a mutator left: every register of its own is null
abbrev pub sight_without_registers : Sight → ℕ → Sight
sight_without_registers w t = record w { registers = slice_set w.registers (t - 1) (replicate (length (registers_of w.registers t)) None) }

-- at opening: one object with label 0 in slot 0, in register 0 of every mutator; all else is null or free
abbrev pub opening_sight : (slots fields registers mutators : ℕ) → Sight
opening_sight slots fields registers mutators =
    record {
      fields = fields;
      headers = 1 ∷ replicate (slots - 1) 0;
      words = replicate (slots * fields) 0;
      registers = replicate mutators (Some 0 ∷ replicate (registers - 1) None);
    }
