-- A release: what comes next, and what is learnt of the word that came out.
use Rattle.std.specs.Prelude.{◌≡◌, ℕ, ◌+◌, ◌<◌, Bool, true, false, nat_lt, if◌then◌else◌, Option, None, Some, IfSome, List, [], ◌∷◌, ◌++◌, length}
use Rattle.rec_word.specs.Place.{place_of}
use Rattle.rec_word.specs.Word.{target_of}
use Rattle.rec_word.specs.declared.op.Op.{Op}
use Rattle.rec_word.specs.declared.op.Op.TheVariants.{ClearField}
use Rattle.rec_counts.specs.Colour.{is_green}
use Rattle.rec_counts.specs.Counts.{State, slot_at, with_slot}
use Rattle.rec_counts.specs.Lists.{times}
use Rattle.rec_counts.specs.Rest.{AreZeros}
use Rattle.rec_release.specs.declared.at.At.{At}
use Rattle.rec_release.specs.TakenOff.{taken_off}

-- how many fields a slot has, the field that is exchanged next, and whether an orange target is lowered
pub record Machine : Type 0 where
  pub fields : ℕ
  pub at : Option At
  pub lowers : Bool

-- a release, with the counts that it works on
pub record Work : Type 0 where
  pub machine : Machine
  pub counts : State

-- what comes next: the field's word becomes 0
abbrev pub op_at : ℕ → Option At → Option Op
op_at fields None = None
op_at fields (Some a) = Some (ClearField (place_of a.slot a.field fields))

unfoldable pub next_of : Machine → Option Op
next_of m = op_at m.fields m.at

abbrev pub listed_if : Bool → State → ℕ → State
listed_if true s x = s
listed_if false s x = record s { free = s.free ++ x ∷ [] }

-- an emptied slot goes to the free list; one that is buffered waits until its buffer drops it
abbrev pub emptied : State → ℕ → State
emptied s x = listed_if (slot_at s x).buffered s x

abbrev pub first_of : List ℕ → Option At
first_of [] = None
first_of (z ∷ zs) = Some (record { slot = z; field = 0 })

abbrev pub without_first : List ℕ → State → State
without_first [] s = s
without_first (z ∷ zs) s = record (with_slot s z (record (slot_at s z) { released = true })) { zeros = zs }

-- the field that comes next, with the counts then
pub record Next : Type 0 where
  pub at : Option At
  pub counts : State

-- The first of the zeros, if there is one, leaves them and is released, and its first field comes next. A Green one has no fields: it
-- is empty at once, and the next zero follows.
abbrev pub next_from : List ℕ → State → Next
next_from [] s = record { at = None; counts = s }
next_from (z ∷ zs) s =
    if is_green (slot_at s z).colour then next_from zs (emptied (without_first (z ∷ zs) s) z) else record { at = first_of (z ∷ zs); counts = without_first (z ∷ zs) s }

abbrev pub work_of : (fields : ℕ) (lowers : Bool) → Next → Work
work_of fields lowers n = record { machine = record { fields = fields; at = n.at; lowers = lowers }; counts = n.counts }

abbrev pub with_next : (fields : ℕ) (lowers : Bool) → State → Work
with_next fields lowers s = work_of fields lowers (next_from s.zeros s)

-- the next field of the same slot comes next; after its last one the slot is emptied, and the next zero is released
abbrev pub gone_on : (fields : ℕ) (lowers : Bool) → At → State → Work
gone_on fields lowers a s =
    if nat_lt (a.field + 1) fields then record { machine = record { fields = fields; at = Some (record { slot = a.slot; field = a.field + 1 }); lowers = lowers }; counts = s } else with_next fields lowers (emptied s a.slot)

abbrev pub took_at : Work → (word : ℕ) → Option At → Work
took_at w word None = w
took_at w word (Some a) = gone_on w.machine.fields w.machine.lowers a (taken_off w.machine.lowers w.counts (target_of word))

-- what is learnt
unfoldable pub took_of : Work → (word : ℕ) → Work
took_of w word = took_at w word w.machine.at

-- a release begins, which lowers orange targets or decrements them
unfoldable pub started_of : Machine → (lowers : Bool) → State → Work
started_of m lowers s = with_next m.fields lowers s

-- the zeros are zeros, and what the free list has is released
pub record IsReady (s : State) : Type 0 where
  pub zeros : AreZeros s
  pub free : (x : ℕ) → 0 < times x s.free → (slot_at s x).released ≡ true

-- the slot at work is released, and not in the free list yet
pub record IsHeld (s : State) (a : At) : Type 0 where
  pub in_range : a.slot < length s.slots
  pub released : (slot_at s a.slot).released ≡ true
  pub unlisted : times a.slot s.free ≡ 0

-- the counts are as the release left them
pub record IsAtWork (m : Machine) (s : State) : Type 0 where
  pub field : IfSome m.at (λ (a : At). a.field < m.fields)
  pub held : IfSome m.at (IsHeld s)
  pub ready : IsReady s
