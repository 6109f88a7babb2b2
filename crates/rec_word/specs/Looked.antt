-- The collector's look at a crossing word, in the collection of an epoch.
use Rattle.std.specs.Prelude.{◌≡◌, ◌≢◌, ℕ, ◌+◌, ◌^◌, ◌<◌, ◌==◌, Bool, true, false, if◌then◌else◌}
use Rattle.rec_word.specs.Mailbox.{crossing_word, crossing_with, low}
use Rattle.rec_word.specs.declared.looked.Looked.{Looked}
use Rattle.rec_word.specs.declared.looked.Looked.TheVariants.{Takes, Crosses, Waits}
use Rattle.rec_word.specs.declared.mailbox.Mailbox.TheVariants.{Spare, Retired, WithCollector}

-- what comes of a look at a parked mutator that has still to cross, whose word is four less than this one; of any other look nothing
abbrev pub crossed_for : (epoch parked : ℕ) → Looked
crossed_for epoch parked =
    if parked == crossing_with epoch Spare true true then Takes (crossing_with epoch WithCollector false true)
    else (if parked == crossing_with epoch Spare false true then Crosses (crossing_with epoch Spare false true) else Waits)

-- what comes of a look: a mailbox with what its mutator retired is taken, whatever the present mailbox is; for a parked mutator that has
-- still to cross the collector crosses, and takes its deposit if it left one; for any other mutator the collector waits
abbrev pub looked : (epoch found : ℕ) → Looked
looked epoch found = if low found == crossing_word epoch Retired then Takes (found + 1) else crossed_for epoch (found + 4)

-- the word that the look leaves
abbrev pub left_by : Looked → (found : ℕ) → ℕ
left_by (Takes word) found = word
left_by (Crosses word) found = word
left_by Waits found = found

-- The look by the crossing words that there are, each told by its parts: this epoch follows that one.
pub record LooksByTable (before epoch : ℕ) : Type 0 where
  pub retired : (held parked : Bool) → looked epoch (crossing_with epoch Retired held parked) ≡ Takes (crossing_with epoch WithCollector held parked)
  pub deposit : looked epoch (crossing_with before Spare true true) ≡ Takes (crossing_with epoch WithCollector false true)
  pub parked : looked epoch (crossing_with before Spare false true) ≡ Crosses (crossing_with epoch Spare false true)
  pub other : (found : ℕ) → ((held parked : Bool) → found ≢ crossing_with epoch Retired held parked)
      → ((held : Bool) → found ≢ crossing_with before Spare held true) → found < 2 ^ 34 → looked epoch found ≡ Waits
