-- The image of a world, and when an image stands for what is seen of one.
use Rattle.std.specs.Prelude.{◌≡◌, ◌-◌, ◌<◌, ◌==◌, ℕ, Bool, true, false, List, ◌++◌, Option, codes, length, map, option_map, slice_index_or}
use Rattle.std.specs.Fmt.{decimal}
use Rattle.std.specs.List.{flat_map, position_or_len}
use Rattle.rec_word.specs.Header.{is_leaf, label_of, IsHeaderOf}
use Rattle.rec_word.specs.Word.{target_of}
use Rattle.rec_model.specs.Sight.{Sight, IsTaken, NumbersSlots, Reaches, words_of}
use Rattle.rec_core.specs.Core.{Core, sight}
use Rattle.rec_report.specs.Text.{field_number, field_word, line_feed}
use Rattle.rec_image.specs.Image.{Node, ImageContents, node_head, nothing}

-- the number of a slot's object, from 0, where the slots are numbered in this order
abbrev pub place_in : List ℕ → ℕ → ℕ
place_in slots slot = position_or_len (λ s. s == slot) slots

-- the object in a slot
abbrev pub node_of : Sight → List ℕ → ℕ → Node
node_of w slots slot =
    record {
      label = label_of (slice_index_or w.headers slot 0);
      leaf = is_leaf (slice_index_or w.headers slot 0);
      fields = map (λ word. option_map (place_in slots) (target_of word)) (words_of w slot);
    }

-- what the registers name
abbrev pub held_of : Sight → List ℕ → List (List (Option ℕ))
held_of w slots = map (map (option_map (place_in slots))) w.registers

-- a world's image is of its numbers
pub record IsOfWorld (w : Core) (v : ImageContents) : Type 0 where
  pub slots : v.slots ≡ w.config.slots
  pub fields : v.fields ≡ w.config.fields
  pub registers : v.registers ≡ w.config.registers
  pub mutators : v.mutators ≡ w.config.mutators

-- `number` names the object in each taken slot
pub record StandsBy (v : ImageContents) (w : Sight) (number : ℕ → ℕ) : Type 0 where
  pub one_to_one : (s t : ℕ) → IsTaken w s → IsTaken w t → number s ≡ number t → s ≡ t
  pub there : (s : ℕ) → IsTaken w s → number s < length v.objects
  pub header : (s : ℕ) → IsTaken w s → IsHeaderOf (slice_index_or v.objects (number s) nothing).leaf (slice_index_or v.objects (number s) nothing).label (slice_index_or w.headers s 0)
  pub registers : v.held ≡ map (map (option_map number)) w.registers
  pub fields : (s : ℕ) → Reaches w s → (slice_index_or v.objects (number s) nothing).fields ≡ map (λ word. option_map number (target_of word)) (words_of w s)

-- The image stands for what is seen in all but the field words: its objects are one to one to the taken slots, with equal labels and
-- leaf marks, and the registers, and what the fields of every slot that a register reaches lead to, agree.
abbrev pub StandsFor : ImageContents → Sight → Type 0
StandsFor v w = (number : ℕ → ℕ) × StandsBy v w number

-- how the fields with these words are spelled
abbrev pub spelled_fields : List ℕ → List ℕ → List ℕ
spelled_fields slots words = flat_map (λ word. field_word (field_number slots (target_of word))) words

-- how an object is spelled
abbrev pub spelled_node : (leaf : Bool) → (label : ℕ) → List ℕ → List ℕ → List ℕ
spelled_node true label slots words = node_head true ++ (decimal label ++ line_feed)
spelled_node false label slots words = node_head false ++ (decimal label ++ (spelled_fields slots words ++ line_feed))

-- how a mutator is spelled
abbrev pub spelled_registers : List ℕ → List (Option ℕ) → List ℕ
spelled_registers slots registers = codes "registers" ++ (flat_map (λ slot. field_word (field_number slots slot)) registers ++ line_feed)

-- the image of a world whose slots are numbered in this order
abbrev pub image_of : Core → List ℕ → ImageContents
image_of w slots =
    record {
      slots = w.config.slots;
      fields = w.config.fields;
      registers = w.config.registers;
      mutators = w.config.mutators;
      objects = map (node_of (sight w) slots) slots;
      held = held_of (sight w) slots;
    }

-- an image of what is in reach of a world's registers, in the order of a listing
abbrev pub IsImageOf : Core → ImageContents → Type 0
IsImageOf w v = (slots : List ℕ) × NumbersSlots (sight w) slots × (v ≡ image_of w slots)

-- the place in the list, from 0, of what a field or register holds, where it is listed
abbrev pub listed_place : List ℕ → Option ℕ → Option ℕ
listed_place slots x = option_map (λ n. n - 1) (field_number slots x)
