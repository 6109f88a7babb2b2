-- A heap that begins anew, beside the old one.
use Rattle.std.specs.Prelude.{◌≡◌, ℕ, ◌<◌, ◌≤◌, List, Option, length, map}
use Rattle.rec_model.specs.declared.limits.TheConstants.{MOST_SLOTS}
use Rattle.rec_model.specs.Heap.{Field, Heap, object}
use Rattle.rec_model.specs.Sight.{NumbersSlots, Represents}
use Rattle.rec_core.specs.Core.{Core, sight}
use Rattle.rec_core.specs.declared.config.Config.{Config}
use Rattle.rec_image.specs.declared.error.RenewError.{RenewError}
use Rattle.rec_image.specs.declared.error.RenewError.TheVariants as errors
use Rattle.rec_image.specs.Image.{ImageContents}
use Rattle.rec_image.specs.Restored.{restored}
use Rattle.rec_image.specs.Standing.{StandsFor, image_of}

-- a heap may have so many slots
abbrev pub IsSlots : ℕ → Type 0
IsSlots slots = (1 ≤ slots) × (slots ≤ MOST_SLOTS)

-- the same objects and registers in a heap with so many slots
abbrev pub in_slots : ImageContents → ℕ → ImageContents
in_slots v slots = record v { slots = slots }

-- the numbers of a heap that begins anew: so many slots, and epochs from 1
abbrev config_anew : Config → (slots : ℕ) → Config
config_anew config slots = record config { slots = slots; first_epoch = 1 }

-- where each field of an object leads
abbrev pub targets : List Field → List (Option ℕ)
targets = map (λ x. x.target)

-- heaps with the same registers, and with as many objects, whose labels, leaf marks and fields are the same: only field words may differ
pub record AgreeButWords (a b : Heap) : Type 0 where
  pub registers : b.registers ≡ a.registers
  pub many : length b.objects ≡ length a.objects
  pub label : (n : ℕ) → (object b n).label ≡ (object a n).label
  pub leaf : (n : ℕ) → (object b n).leaf ≡ (object a n).leaf
  pub fields : (n : ℕ) → targets (object b n).fields ≡ targets (object a n).fields

-- The heap began anew with so many slots: its slots hold what registers reached in the old one.
pub record IsRenewed (w : Core) (slots : ℕ) (new : Core) : Type 0 where
  -- the slots that registers reached, in the order of a listing
  pub list : List ℕ
  pub numbers : NumbersSlots (sight w) list
  pub in_range : IsSlots slots
  pub room : length list ≤ slots
  -- it is restored from the image of the old one, in so many slots
  pub opened : new ≡ restored (in_slots (image_of w list) slots) w.config.log_entries w.config.policy
  pub config : new.config ≡ config_anew w.config slots
  pub made : new.made ≡ length list
  -- what is written of it is what would have been written of the old one, but for the number of slots
  pub image : (again : List ℕ) → NumbersSlots (sight new) again → image_of new again ≡ in_slots (image_of w list) slots
  -- whatever heap that never frees stood for the old one stands for it, with its objects and their numbers, but for field words
  pub stands : (heap : Heap) → Represents heap (sight w) → (same : Heap) × AgreeButWords heap same × Represents same (sight new)
  pub stands_for : (v : ImageContents) → StandsFor v (sight w) → StandsFor v (sight new)

-- Why a heap doesn't begin anew: the number is out of its range, it is one of fewer slots than registers reach, or there is no memory,
-- which comes only where the number is in its range.
abbrev pub IsUnrenewed : Core → (slots : ℕ) → RenewError → Type 0
IsUnrenewed w slots errors.Slots = ¬ IsSlots slots
IsUnrenewed w slots errors.FewSlots = IsSlots slots × ((list : List ℕ) × NumbersSlots (sight w) list × (slots < length list))
IsUnrenewed w slots errors.NoMemory = IsSlots slots
