-- A small set, as a test makes it.
use Rattle.std.specs.Prelude.{◌≡◌, ℕ, ◌≤◌, false, [], ◌∷◌, length}
use Rattle.rec_log.specs.declared.contents.Contents.{Contents}
use Rattle.rec_log.specs.declared.entry.Entry.TheVariants.{Put}
use Rattle.rec_counts.specs.Counts.{State, slot_at}

-- two slots and a set, no zeros; slot 1 has one reference, and no slot has more
pub record IsSetOfOne (s : State) : Type 0 where
  pub slots : length s.slots ≡ 2
  pub sets : length s.sets ≡ 1
  pub zeros : s.zeros ≡ []
  pub one : (slot_at s 1).count ≡ 1
  pub few : (x : ℕ) → (slot_at s x).count ≤ 1

-- a log with one write: this word in the place of that one
abbrev pub one_write : ℕ → ℕ → Contents
one_write new old = record { entries = Put 0 new old ∷ []; snapshot = []; capacity = 1; last = false; still = false }
