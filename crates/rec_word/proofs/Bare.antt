-- A word and its date.
use Rattle.std.proofs.Common.{◌≡◌, ℕ, ◌+◌, ◌*◌, ◌/◌, ◌%◌, ◌^◌, ◌<◌, ◌≤◌, Bool, true, false, Option, None, Some, refl, ap, ◌∙◌, arith}
use Rattle.std.proofs.Math.Nat.{mod-eq_of_lt, mul-add-mod_self_left}
use Rattle.rec_word.specs.Bare.{bare, date_of, dated_word, bare_in, bare_op}
use Rattle.rec_word.specs.Op.{cell_of, written}
use Rattle.rec_word.specs.Word.{low_bits, packed, predecessor, stamp_of, target_bits, target_of, IsStamp, IsTarget}
use Rattle.rec_word.specs.declared.op.Op.{Op}
use Rattle.rec_word.specs.declared.op.Op.TheVariants as ops
use Rattle.rec_word.specs.declared.stamps.Stamp.{Stamp}

-- the bare word leads where the word does
pub bits_bare : (word : ℕ) → target_bits (bare word) ≡ target_bits word
bits_bare word = omega arith

pub target_of_bare : (word : ℕ) → target_of (bare word) ≡ target_of word
target_of_bare word = ap predecessor (bits_bare word)

-- a word of 64 bits is bare
pub bare_small : (word : ℕ) → word < 2 ^ 64 → bare word ≡ word
bare_small word small = mod-eq_of_lt small

-- a dated word is the word with its date, and leads where the word does
pub bare_dated : (dates : Bool) (epoch word : ℕ) → word < 2 ^ 64 → bare (dated_word dates epoch word) ≡ word
bare_dated false epoch word small = mod-eq_of_lt small
bare_dated true epoch word small = mul-add-mod_self_left (2 ^ 64) epoch word ∙ mod-eq_of_lt small

pub date_of_dated : (epoch word : ℕ) → word < 2 ^ 64 → date_of (dated_word true epoch word) ≡ epoch
date_of_dated epoch word small = omega arith

bits_dated : (epoch word : ℕ) → target_bits (dated_word true epoch word) ≡ target_bits word
bits_dated epoch word = omega arith

pub target_of_dated : (dates : Bool) (epoch word : ℕ) → target_of (dated_word dates epoch word) ≡ target_of word
target_of_dated false epoch word = refl
target_of_dated true epoch word = ap predecessor (bits_dated epoch word)

-- its stamp is that of the word
pub stamp_of_dated : (dates : Bool) (epoch word : ℕ) → stamp_of (dated_word dates epoch word) ≡ stamp_of word
stamp_of_dated false epoch word = refl
stamp_of_dated true epoch word = λ i. record { writer = writer i; epoch = its_epoch i; index = index i }
  where
    writer : ((2 ^ 64 * epoch + word) / 2 ^ 40) % 2 ^ 6 ≡ (word / 2 ^ 40) % 2 ^ 6
    writer = omega arith

    its_epoch : ((2 ^ 64 * epoch + word) / 2 ^ 16) % 2 ^ 24 ≡ (word / 2 ^ 16) % 2 ^ 24
    its_epoch = omega arith

    index : ((2 ^ 64 * epoch + word) / 2 ^ 46) % 2 ^ 18 ≡ (word / 2 ^ 46) % 2 ^ 18
    index = omega arith

-- a packed word has 64 bits
pub packed_small : (target : Option ℕ) (stamp : Stamp) → IsTarget target → IsStamp stamp → packed target stamp < 2 ^ 64
packed_small target stamp there is = fits (low_bits target) (low target there) is.writer is.epoch is.index
  where
    low : (x : Option ℕ) → IsTarget x → low_bits x ≤ 65535
    low None there = omega arith
    low (Some slot) there = omega arith

    fits : (n : ℕ) → n ≤ 65535 → stamp.writer < 2 ^ 6 → stamp.epoch < 2 ^ 24 → stamp.index < 2 ^ 18 → n + stamp.epoch * 2 ^ 16 + stamp.writer * 2 ^ 40 + stamp.index * 2 ^ 46 < 2 ^ 64
    fits n few a b c = omega arith

-- an operation names the same cell,
pub bare_cell : (op : Op) → cell_of (bare_op op) ≡ cell_of op
bare_cell (ops.SwapField place word) = refl
bare_cell (ops.LoadField place) = refl
bare_cell (ops.LoadHeader slot) = refl
bare_cell ops.LoadEpoch = refl
bare_cell (ops.LoadCross t) = refl
bare_cell (ops.ClaimHeader slot header) = refl
bare_cell ops.LoadFreed = refl
bare_cell (ops.LoadChild place) = refl
bare_cell (ops.ClearField place) = refl
bare_cell (ops.FreeHeader slot) = refl
bare_cell (ops.TakeBox t epoch) = refl
bare_cell (ops.GiveBox t epoch) = refl
bare_cell (ops.StoreEpoch epoch) = refl
bare_cell (ops.LookBox t epoch) = refl
bare_cell (ops.ReturnBox t epoch) = refl
bare_cell ops.AddFreed = refl
bare_cell (ops.ShiftBox t shift) = refl

-- and leaves the bare word of what it leaves
pub bare_written : (op : Op) (found : ℕ) → written (bare_op op) (bare_in (cell_of op) found) ≡ bare_in (cell_of op) (written op found)
bare_written (ops.SwapField place word) found = refl
bare_written (ops.LoadField place) found = refl
bare_written (ops.LoadHeader slot) found = refl
bare_written ops.LoadEpoch found = refl
bare_written (ops.LoadCross t) found = refl
bare_written (ops.ClaimHeader slot header) found = refl
bare_written ops.LoadFreed found = refl
bare_written (ops.LoadChild place) found = refl
bare_written (ops.ClearField place) found = refl
bare_written (ops.FreeHeader slot) found = refl
bare_written (ops.TakeBox t epoch) found = refl
bare_written (ops.GiveBox t epoch) found = refl
bare_written (ops.StoreEpoch epoch) found = refl
bare_written (ops.LookBox t epoch) found = refl
bare_written (ops.ReturnBox t epoch) found = refl
bare_written ops.AddFreed found = refl
bare_written (ops.ShiftBox t shift) found = refl
