-- A field word: bits 0 to 15 the target plus one, 16 to 39 the epoch, 40 to 45 the writer, 46 to 63 the index.
use Rattle.std.specs.Prelude.{ℕ, ◌+◌, ◌-◌, ◌*◌, ◌/◌, ◌%◌, ◌^◌, ◌<◌, ◌==◌, if◌then◌else◌, Bool, false, Option, None, Some, IfSome}
use Rattle.rec_word.specs.declared.stamps.Stamp.{Stamp}

-- 0 for null, else the slot plus one
abbrev pub low_bits : Option ℕ → ℕ
low_bits None = 0
low_bits (Some slot) = slot + 1

-- the word with this target and this stamp
abbrev pub packed : Option ℕ → Stamp → ℕ
packed target stamp = low_bits target + stamp.epoch * 2 ^ 16 + stamp.writer * 2 ^ 40 + stamp.index * 2 ^ 46

-- the number before; there is none before 0
abbrev pub predecessor : ℕ → Option ℕ
predecessor n = if n == 0 then None else Some (n - 1)

-- the bits of a field word that say where it leads
abbrev pub target_bits : (word : ℕ) → ℕ
target_bits word = word % 2 ^ 16

-- where a field word leads
abbrev pub target_of : ℕ → Option ℕ
target_of word = predecessor (target_bits word)

-- it is this slot, and not null
abbrev pub is_slot : ℕ → Option ℕ → Bool
is_slot x None = false
is_slot x (Some y) = x == y

-- the stamp in a field word
abbrev pub stamp_of : ℕ → Stamp
stamp_of word = record { writer = (word / 2 ^ 40) % 2 ^ 6; epoch = (word / 2 ^ 16) % 2 ^ 24; index = (word / 2 ^ 46) % 2 ^ 18 }

-- null, or a slot that a heap may have
abbrev pub IsTarget : Option ℕ → Type 0
IsTarget target = IfSome target (λ slot. slot < 65535)

-- the range of each part of a stamp
pub record IsStamp (stamp : Stamp) : Type 0 where
  pub writer : stamp.writer < 2 ^ 6
  pub epoch : stamp.epoch < 2 ^ 24
  pub index : stamp.index < 2 ^ 18
