-- What a scan did and found, from the allocation's first step on.
use Rattle.std.specs.Prelude.{◌≡◌, ℕ, Bool, ◌<◌, ◌==◌, false, List, [], ◌∷◌, length, map, fold, All, count_by}
use Rattle.std.specs.List.{enumerate_from}
use Rattle.rec_word.specs.declared.op.Op.{Op}
use Rattle.rec_word.specs.declared.op.Op.TheVariants.{LoadFreed, ClaimHeader}
use Rattle.rec_model.specs.Asking.{allocation}
use Rattle.rec_mutator.specs.Next.{next_of}
use Rattle.rec_mutator.specs.Private.{Private, slot_behind}
use Rattle.rec_mutator.specs.Took.{took_of}
use Rattle.rec_mutator.specs.declared.phase.Phase.TheVariants.{Begun}
use Rattle.rec_mutator.specs.declared.work.Work.TheVariants as works

-- the operations of the steps that found these words, in order
abbrev pub ops_along : Private → (words : List ℕ) → List Op
ops_along p [] = []
ops_along p (word ∷ words) = next_of p ∷ ops_along (took_of p word) words

-- The claims of a scan for this header that begins with this slot, after so many others, one for each of these words: claim i is of the
-- header of the slot that comes i slots behind the first one, where slot 0 follows the last.
abbrev pub claims : (header slots from probed : ℕ) → (words : List ℕ) → List Op
claims header slots from probed words = map (λ e. ClaimHeader (slot_behind slots from e.0) header) (enumerate_from probed words)

-- At `start` an allocation was begun, and steps that found these words, one after another, led from there to `p`.
pub record HasScanned (start : Private) (words : List ℕ) (p : Private) : Type 0 where
  pub reg : ℕ
  pub label : ℕ
  pub leaf : Bool
  pub begun : start.phase ≡ Begun (works.Command (allocation leaf reg label))
  pub came : p ≡ fold took_of start words

-- The operations of an allocation's steps and the words that they found, where every probe failed: the first step loaded the freed word
-- and found `before`; then each header was claimed, once round from slot `from` on, and each was found taken.
pub record FailsScan (header slots from before : ℕ) (made : List Op) (words : List ℕ) : Type 0 where
  pub found : List ℕ
  pub words_are : words ≡ before ∷ found
  pub made_are : made ≡ LoadFreed ∷ claims header slots from 0 found
  pub every : length found ≡ slots
  pub taken : All (λ word. 0 < word) found

-- whether an operation claims the header of this slot
abbrev pub is_claim_of : (slot : ℕ) → Op → Bool
is_claim_of slot (ClaimHeader other header) = slot == other
is_claim_of slot _ = false

-- how often the header of this slot was claimed
abbrev pub claims_of : (slot : ℕ) → (made : List Op) → ℕ
claims_of slot made = count_by (is_claim_of slot) made
