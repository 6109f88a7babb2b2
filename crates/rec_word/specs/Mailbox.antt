-- A crossing word: bits 0 and 1 where the past mailbox is, bits 2 to 31 the epoch; bit 32 whether the present mailbox isn't home with
-- a spare, and bit 33 whether the mutator is parked. The past mailbox is for the log of the epoch before, the present one for the
-- log of the epoch. Where nobody parks both bits are 0.
use Rattle.std.specs.Prelude.{◌≡◌, ℕ, ◌+◌, ◌*◌, ◌/◌, ◌%◌, ◌^◌, ◌==◌, Bool, true, false, if◌then◌else◌}
use Rattle.rec_word.specs.declared.mailbox.Mailbox.{Mailbox}
use Rattle.rec_word.specs.declared.mailbox.Mailbox.TheVariants.{Spare, WithMutator, Retired, WithCollector}

-- where the mailbox is, as a crossing word says it: an even number is home
abbrev pub mailbox_bits : Mailbox → ℕ
mailbox_bits Spare = 0
mailbox_bits WithMutator = 1
mailbox_bits Retired = 2
mailbox_bits WithCollector = 3

-- the crossing word of a mutator in this epoch, or crossing into it, with its mailbox there
abbrev pub crossing_word : ℕ → Mailbox → ℕ
crossing_word epoch mailbox = epoch * 4 + mailbox_bits mailbox

-- where a crossing word says that the mailbox is
abbrev pub mailbox_of : (crossing : ℕ) → Mailbox
mailbox_of crossing = if crossing % 4 == 0 then Spare else (if crossing % 4 == 1 then WithMutator else (if crossing % 4 == 2 then Retired else WithCollector))

-- what a bit is worth that is set or not
abbrev bit : (worth : ℕ) → Bool → ℕ
bit worth true = worth
bit worth false = 0

-- the crossing word with the bits of the present mailbox
abbrev pub crossing_with : ℕ → Mailbox → (held parked : Bool) → ℕ
crossing_with epoch mailbox held parked = crossing_word epoch mailbox + bit (2 ^ 32) held + bit (2 ^ 33) parked

-- a crossing word without the bits of the present mailbox
abbrev pub low : (crossing : ℕ) → ℕ
low crossing = crossing % 2 ^ 32

-- the epoch that it names
abbrev pub epoch_in : (crossing : ℕ) → ℕ
epoch_in crossing = low crossing / 4

-- the present mailbox isn't home with a spare: its mutator holds it, or left its deposit there
abbrev pub holds : (crossing : ℕ) → Bool
holds crossing = (crossing / 2 ^ 32) % 2 == 1

-- its mutator is parked
abbrev pub is_parked : (crossing : ℕ) → Bool
is_parked crossing = (crossing / 2 ^ 33) % 2 == 1

-- a crossing word with these parts tells them, and without the two bits it is the word of a mutator where nobody parks
pub record TellsParts (epoch : ℕ) (mailbox : Mailbox) (held parked : Bool) : Type 0 where
  pub past : low (crossing_with epoch mailbox held parked) ≡ crossing_word epoch mailbox
  pub epoch_told : epoch_in (crossing_with epoch mailbox held parked) ≡ epoch
  pub mailbox_told : mailbox_of (crossing_with epoch mailbox held parked) ≡ mailbox
  pub held_told : holds (crossing_with epoch mailbox held parked) ≡ held
  pub parked_told : is_parked (crossing_with epoch mailbox held parked) ≡ parked
  pub plain : crossing_with epoch mailbox false false ≡ crossing_word epoch mailbox
  pub plain_past : low (crossing_word epoch mailbox) ≡ crossing_word epoch mailbox
