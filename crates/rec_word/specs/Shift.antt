-- The steps by which a mutator parks and unparks, as additions to its crossing word.
use Rattle.std.specs.Prelude.{◌≡◌, ℕ, Bool, true, false}
use Rattle.rec_word.specs.Mailbox.{crossing_with}
use Rattle.rec_word.specs.Op.{written}
use Rattle.rec_word.specs.declared.mailbox.Mailbox.{Mailbox}
use Rattle.rec_word.specs.declared.op.Op.TheVariants.{ShiftBox}
use Rattle.rec_word.specs.declared.shift.Shift.TheVariants.{Hold, Park, Unpark, Free}

-- The shifts by the parts of the crossing words that they find: each writes one of the two bits of the present mailbox, and leaves the
-- epoch, the past mailbox and the other bit as they are.
pub record ShiftsByTable (t epoch : ℕ) (mailbox : Mailbox) : Type 0 where
  pub hold : written (ShiftBox t Hold) (crossing_with epoch mailbox false false) ≡ crossing_with epoch mailbox true false
  pub park : written (ShiftBox t Park) (crossing_with epoch mailbox true false) ≡ crossing_with epoch mailbox true true
  pub unpark : (held : Bool) → written (ShiftBox t Unpark) (crossing_with epoch mailbox held true) ≡ crossing_with epoch mailbox held false
  pub free : written (ShiftBox t Free) (crossing_with epoch mailbox true false) ≡ crossing_with epoch mailbox false false
