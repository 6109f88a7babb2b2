-- What holds while slots are released and sets tested, from a batch to the next trial.
use Rattle.std.specs.Prelude.{◌≡◌, ℕ, ◌+◌, ◌-◌, ◌*◌, ◌^◌, ◌<◌, ◌≤◌, nat_le, true, false, Option, None, Some, IsSome, List, [], length}
use Rattle.rec_counts.specs.Counts.{State, slot_at}
use Rattle.rec_counts.specs.Lists.{one, times}
use Rattle.rec_counts.specs.Colour.{is_gray, is_white}
use Rattle.rec_release.specs.CycleFree as frees
use Rattle.rec_release.specs.Release as releases
use Rattle.rec_release.specs.Release.{IsReady}
use Rattle.rec_release.specs.Released.{is_at}
use Rattle.rec_release.specs.Sweep.{AreUnbuffered}
use Rattle.rec_release.specs.TakenOff.{AllZerosButOrange, IsApart}
use Rattle.rec_release.specs.declared.at.At.{At}
use Rattle.rec_word.specs.declared.member.Member.{Member}
use Rattle.rec_collector.specs.Outside.{AreOutside}
use Rattle.rec_collector.specs.Parts.{Parts}
use Rattle.rec_collector.specs.Testing.{Begun, told}
use Rattle.rec_collector.specs.declared.phase.Phase.{Phase}
use Rattle.rec_collector.specs.declared.phase.Phase.TheVariants.{Freeing, Releasing}

-- no trial is at work on the counts, and the last one has left nothing behind but its sets
pub record IsUntried (s : State) : Type 0 where
  pub marked : s.marked ≡ []
  pub no_gray : (x : ℕ) → is_gray (slot_at s x).colour ≡ false
  pub no_white : (x : ℕ) → is_white (slot_at s x).colour ≡ false

-- Every released slot is in the free list, is at work or is held in the work list, or waits in the root buffer or in a set.
abbrev AreListed : State → Option At → Type 0
AreListed s at = (x : ℕ) → x < length s.slots → (slot_at s x).released ≡ true → (slot_at s x).buffered ≡ false → 0 < times x s.free + times x s.work + one (is_at x at)

-- no slot of the work list is buffered
abbrev AreHeld : State → Type 0
AreHeld s = (x : ℕ) → 0 < times x s.work → (slot_at s x).buffered ≡ false

-- What is known of the counts of slots with so many fields, while this field is due of a released slot. Each slot that has no count, is
-- not released and not Orange stands in the zeros.
pub record IsTidy (fields : ℕ) (s : State) (at : Option At) : Type 0 where
  pub untried : IsUntried s
  pub apart : IsApart s
  pub all_zeros : AllZerosButOrange s
  pub outside : AreOutside fields s
  pub listed : AreListed s at
  pub unbuffered : AreUnbuffered s
  pub held : AreHeld s

-- No slot is released and no set freed: no zeros are left, and the work list is empty.
pub record IsCleared (w : Parts) : Type 0 where
  pub tidy : IsTidy w.fields w.counts None
  pub open tidy use *
  pub ready : IsReady w.counts
  pub zeros : w.counts.zeros ≡ []
  pub work : w.counts.work ≡ []

-- slots are released
pub record IsReleasing (w : Parts) (m : releases.Machine) : Type 0 where
  pub fields : m.fields ≡ w.fields
  pub busy : IsSome m.at
  pub tidy : IsTidy w.fields w.counts m.at
  pub open tidy use *
  pub release : releases.IsAtWork m w.counts
  pub work : w.counts.work ≡ []

-- a set is freed
pub record IsFreeing (w : Parts) (m : frees.Machine) : Type 0 where
  pub fields : m.fields ≡ w.fields
  pub busy : IsSome m.at
  pub tidy : IsTidy w.fields w.counts None
  pub open tidy use *
  pub freeing : frees.IsAtWork m w.counts

-- what holds between a batch and the next trial, by what was begun
abbrev pub IsClearingIn : Parts → Option Phase → Type 0
IsClearingIn w None = IsCleared w
IsClearingIn w (Some (Releasing m)) = IsReleasing w m
IsClearingIn w (Some (Freeing m)) = IsFreeing w m
IsClearingIn w (Some _) = ⊥

abbrev pub IsClearing : Begun → Type 0
IsClearing b = IsClearingIn b.parts b.phase

-- the sets that were tested and those that are left can be counted
abbrev pub IsFewTold : Parts → Type 0
IsFewTold w = told w.sets + length w.counts.sets < 2 ^ 64

-- how many fields are still to be exchanged, of the slot that is released and of the members of the set that is freed
abbrev pub release_left : (fields : ℕ) → Option At → ℕ
release_left fields None = 0
release_left fields (Some a) = fields - a.field

abbrev pub freeing_left : (fields : ℕ) → (members : List ℕ) → Option Member → ℕ
freeing_left fields members None = 0
freeing_left fields members (Some a) = (length members - (a.index + 1)) * fields + (fields - a.field)

abbrev pub fields_left : Parts → Option Phase → ℕ
fields_left w (Some (Releasing m)) = release_left w.fields m.at
fields_left w (Some (Freeing m)) = freeing_left w.fields w.counts.work m.at
fields_left w _ = 0

-- So many fields were exchanged at most. Of each released slot all were, but for those that are left.
pub record HasExchanged (w : Parts) (phase : Option Phase) (exchanged : ℕ) : Type 0 where
  pub gone : List ℕ
  pub are : (x : ℕ) → times x gone + one (nat_le (length w.counts.slots) x) ≡ one (slot_at w.counts x).released
  pub few : exchanged + fields_left w phase ≤ length gone * w.fields

-- What a collection has come to, between a batch and the next trial.
pub record IsClear (b : Begun) : Type 0 where
  pub clearing : IsClearing b
  pub exchanged : ℕ
  pub exchanges : HasExchanged b.parts b.phase exchanged
  pub few : IsFewTold b.parts
