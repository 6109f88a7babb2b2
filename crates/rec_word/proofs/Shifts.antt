-- The steps by which a mutator parks and unparks, by the parts of the crossing word.
use Rattle.std.proofs.Common.{◌≡◌, ℕ, ◌+◌, ◌*◌, ◌-◌, ◌%◌, ◌^◌, ◌<◌, ◌≤◌, Bool, true, false, arith}
use Rattle.rec_word.specs.Mailbox.{crossing_with, mailbox_bits}
use Rattle.rec_word.specs.Op.{written}
use Rattle.rec_word.specs.Shift.{ShiftsByTable}
use Rattle.rec_word.specs.declared.mailbox.Mailbox.{Mailbox}
use Rattle.rec_word.specs.declared.mailbox.Mailbox.TheVariants.{Spare, WithMutator, Retired, WithCollector}
use Rattle.rec_word.specs.declared.op.Op.TheVariants.{ShiftBox}
use Rattle.rec_word.specs.declared.shift.Shift.TheVariants.{Unpark}

few_bits : (mailbox : Mailbox) → mailbox_bits mailbox ≤ 3
few_bits Spare = omega arith
few_bits WithMutator = omega arith
few_bits Retired = omega arith
few_bits WithCollector = omega arith

unparks : (t epoch : ℕ) (mailbox : Mailbox) (held : Bool) → epoch ≤ 2 ^ 24 → written (ShiftBox t Unpark) (crossing_with epoch mailbox held true) ≡ crossing_with epoch mailbox held false
unparks t epoch mailbox true most = let few : mailbox_bits mailbox ≤ 3 = few_bits mailbox in omega arith
unparks t epoch mailbox false most = let few : mailbox_bits mailbox ≤ 3 = few_bits mailbox in omega arith

pub shifts_by_table : (t epoch : ℕ) (mailbox : Mailbox) → epoch ≤ 2 ^ 24 → ShiftsByTable t epoch mailbox
shifts_by_table t epoch mailbox most =
    let few : mailbox_bits mailbox ≤ 3 = few_bits mailbox in
    record {
      hold = omega arith;
      park = omega arith;
      unpark = λ held. unparks t epoch mailbox held most;
      free = omega arith;
    }
