-- A source from which a heap goes on: the text of its image, and mutators behind it.
use Rattle.std.specs.Prelude.{◌≡◌, false, ◌⊎◌, ℕ, ◌+◌, ◌-◌, ◌<◌, ◌≤◌, List, ◌++◌, drop, length, slice_index, take}
use Rattle.rec_collector.specs.Private.{plain}
use Rattle.rec_model.specs.declared.limits.TheConstants.{MOST_BYTES}
use Rattle.rec_core.specs.Objects.{described}
use Rattle.rec_script.specs.Behind.{Numbers, IsRefusedBehind, SpellsMutators, with_all}
use Rattle.rec_script.specs.Lines.{lines}
use Rattle.rec_script.specs.Script.{ScriptContents, IsTooLong}
use Rattle.rec_script.specs.declared.error.Kind.{Kind}
use Rattle.rec_script.specs.declared.error.Kind.TheVariants.{BadImage}
use Rattle.rec_image.specs.Image.{ImageContents, IsImage, StopsAt, end_line, feeds, text}
use Rattle.rec_image.specs.Restored.{objects_in, restored}
use Rattle.rec_play.specs.Numbers.{config_of, log_room}
use Rattle.rec_play.specs.Start.{IsStartOf, Start}

-- a line `end`, with its LF, begins at this place: at the front, or behind an LF
pub record EndsAt (bytes : List ℕ) (place : ℕ) : Type 0 where
  pub behind : List ℕ
  pub is : drop place bytes ≡ end_line ++ behind
  pub begins : (place ≡ 0) ⊎ (slice_index bytes (place - 1) ≡ 10)

-- Where the image ends: behind the first line `end`, with its LF. Where there is none, all bytes are the image.
pub data CutsAt (bytes : List ℕ) (place : ℕ) : Type 0 where
  behind : (line : ℕ) → place ≡ line + length end_line → EndsAt bytes line → ((before : ℕ) → before < line → ¬ EndsAt bytes before) → CutsAt bytes place
  nowhere : place ≡ length bytes → ((line : ℕ) → ¬ EndsAt bytes line) → CutsAt bytes place

-- the numbers of an image's heap
abbrev pub numbers_of : ImageContents → Numbers
numbers_of v = record { slots = v.slots; fields = v.fields; registers = v.registers; mutators = v.mutators }

-- The bytes, no more than 16,777,216, are the text of this image, and behind it lines that spell these mutators.
pub record Tells (bytes : List ℕ) (contents : ImageContents) (given : ScriptContents) : Type 0 where
  pub short : length bytes ≤ MOST_BYTES
  pub place : ℕ
  pub cut : CutsAt bytes place
  pub image : IsImage contents
  pub told : take place bytes ≡ text contents
  pub spelled : SpellsMutators (numbers_of contents) (lines (drop place bytes)) given

-- and this is the script of these mutators, of which those that aren't given have no commands
pub record IsResumedAs (bytes : List ℕ) (contents : ImageContents) (script : ScriptContents) : Type 0 where
  pub given : ScriptContents
  pub told : Tells bytes contents given
  pub all : script ≡ with_all (numbers_of contents) given

-- the bytes are some image, and mutators behind it
abbrev pub IsResumable : List ℕ → Type 0
IsResumable bytes = (contents : ImageContents) × (given : ScriptContents) × Tells bytes contents given

-- the bytes are the text of this image, and of no other
pub record AreImage (bytes : List ℕ) (contents : ImageContents) : Type 0 where
  pub image : IsImage contents
  pub told : text contents ≡ bytes
  pub only : (other : ImageContents) → IsImage other → text other ≡ bytes → other ≡ contents

-- What is wrong with bytes within the limit: the line with which no image goes on; or, behind an image, the line with which no such
-- mutators do, counted on from the image's.
pub data IsRefusedAt (bytes : List ℕ) (line : ℕ) (kind : Kind) : Type 0 where
  image : (place : ℕ) → CutsAt bytes place → StopsAt (take place bytes) line → kind ≡ BadImage → IsRefusedAt bytes line kind
  mutators : (place : ℕ) (contents : ImageContents) → CutsAt bytes place → AreImage (take place bytes) contents
      → IsRefusedBehind (numbers_of contents) (drop place bytes) (feeds (take place bytes)) line kind → IsRefusedAt bytes line kind

-- the bytes are refused with this line and this kind: past the limit as a script is
abbrev pub IsUnresumed : List ℕ → (line : ℕ) → Kind → Type 0
IsUnresumed bytes line kind = IsTooLong bytes line kind ⊎ ((length bytes ≤ MOST_BYTES) × IsRefusedAt bytes line kind)

-- A run of these commands begins in the heap that the image makes, with logs that have room for them. The heap that the image describes
-- stands for it, and its objects count as born.
pub record IsRestoredFor (contents : ImageContents) (script : ScriptContents) (start : Start) : Type 0 where
  pub world : start.world ≡ restored contents (log_room script) plain
  pub heap : start.heap ≡ described (config_of script) (objects_in contents)
  pub starts : IsStartOf script start
