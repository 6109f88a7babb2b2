-- The stamp of the word that a write leaves.
use Rattle.std.proofs.Common.{◌≡◌, ℕ, ◌^◌, ◌<◌, ◌≤◌, true, length, ap, ◌∙◌, arith}
use Rattle.rec_word.specs.Bare.{bare, date_of, dated_word}
use Rattle.rec_word.specs.Word.{packed, stamp_of, target_of, IsStamp}
use Rattle.rec_mutator.specs.Private.{Private, register, word_for, next_stamp, HasStamp, IsMachine}
use Rattle.rec_mutator.specs.Step.{HasRoom}
use Rattle.rec_mutator.proofs.Machines.{has_room, register_target}
use Rattle.rec_word.proofs.Bare.{bare_dated, date_of_dated, packed_small, stamp_of_dated, target_of_dated}
use Rattle.rec_word.proofs.Packing.{stamp_of-packed, target_of-packed}

-- the stamp of the next entry is within its ranges
next_fits : (p : Private) → IsMachine p → HasStamp p → HasRoom p → IsStamp (next_stamp p)
next_fits p m stamp room =
    let free : length p.log.entries < p.log.capacity = has_room p m room in
    let most : p.log.capacity ≤ 2 ^ 18 = m.capacity in
    record { writer = m.number; epoch = stamp; index = omega arith }

-- the word that a machine would write, without its date
abbrev pub bare_for : Private → (val : ℕ) → ℕ
bare_for p val = packed (register p val) (next_stamp p)

small_for : (p : Private) (val : ℕ) → IsMachine p → HasStamp p → HasRoom p → bare_for p val < 2 ^ 64
small_for p val m stamp room = packed_small (register p val) (next_stamp p) (register_target p val m) (next_fits p m stamp room)

-- the word that a machine would write has the stamp of the next entry,
pub word_stamp : (p : Private) (val : ℕ) → IsMachine p → HasStamp p → HasRoom p → stamp_of (word_for p val) ≡ next_stamp p
word_stamp p val m stamp room =
    stamp_of_dated p.dates p.epoch (bare_for p val) ∙ stamp_of-packed (register p val) (next_stamp p) (register_target p val m) (next_fits p m stamp room)

-- leads where the register does,
pub word_target : (p : Private) (val : ℕ) → IsMachine p → HasStamp p → HasRoom p → target_of (word_for p val) ≡ register p val
word_target p val m stamp room =
    target_of_dated p.dates p.epoch (bare_for p val) ∙ target_of-packed (register p val) (next_stamp p) (register_target p val m) (next_fits p m stamp room)

-- has the own epoch as its date, where words are dated,
pub word_date : (p : Private) (val : ℕ) → IsMachine p → HasStamp p → HasRoom p → p.dates ≡ true → date_of (word_for p val) ≡ p.epoch
word_date p val m stamp room dates =
    ap (λ b. date_of (dated_word b p.epoch (bare_for p val))) dates ∙ date_of_dated p.epoch (bare_for p val) (small_for p val m stamp room)

-- and is the word that is packed, without it
pub word_bare : (p : Private) (val : ℕ) → IsMachine p → HasStamp p → HasRoom p → bare (word_for p val) ≡ bare_for p val
word_bare p val m stamp room = bare_dated p.dates p.epoch (bare_for p val) (small_for p val m stamp room)
