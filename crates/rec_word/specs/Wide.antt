-- A field word of a wide heap: bits 0 to 31 the target plus one, 32 to 63 a value of the caller's, which no law of counting reads.
use Rattle.std.specs.Prelude.{ℕ, ◌+◌, ◌*◌, ◌/◌, ◌%◌, ◌^◌, ◌<◌, Option, IfSome}
use Rattle.rec_word.specs.Word.{low_bits, predecessor}

-- the word with this target and this value
abbrev pub wide_word : Option ℕ → (value : ℕ) → ℕ
wide_word target value = low_bits target + value * 2 ^ 32

-- where it leads
abbrev pub wide_target_of : ℕ → Option ℕ
wide_target_of word = predecessor (word % 2 ^ 32)

-- the value beside that
abbrev pub value_of : ℕ → ℕ
value_of word = word / 2 ^ 32

-- null, or a slot that a wide heap may have
abbrev pub IsWideTarget : Option ℕ → Type 0
IsWideTarget target = IfSome target (λ slot. slot + 1 < 2 ^ 32)
