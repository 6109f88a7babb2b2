-- What a walk learns.
use Rattle.std.specs.Prelude.{ℕ, Bool, Option, None, Some, List, [], ◌∷◌, ◌++◌}
use Rattle.rec_word.specs.Place.{place_of}
use Rattle.rec_word.specs.Word.{target_of, is_slot}
use Rattle.rec_word.specs.declared.member.Member.{Member}

-- a field of a slot, and the word that was found there
pub record Load : Type 0 where
  pub slot : ℕ
  pub field : ℕ
  pub word : ℕ

-- where it was found
abbrev pub place_loaded : (fields : ℕ) → Load → ℕ
place_loaded fields l = place_of l.slot l.field fields

-- its word leads to this slot
abbrev pub leads_to : ℕ → Load → Bool
leads_to x l = is_slot x (target_of l.word)

-- what is found where a walk stands; nothing where it has ended
abbrev pub loaded_at : Option Member → (word : ℕ) → List Load
loaded_at None word = []
loaded_at (Some a) word = record { slot = a.slot; field = a.field; word = word } ∷ []

-- what a machine gives while it takes in these words, one after another
unfoldable pub given : {M O : Type 0} → (took : M → (word : ℕ) → M) → (out : M → (word : ℕ) → List O) → M → (words : List ℕ) → List O
given took out m [] = []
given took out m (word ∷ words) = out m word ++ given took out (took m word) words
