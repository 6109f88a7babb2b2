-- The freeing of a set: what comes next, and what is learnt of the word that came out.
use Rattle.std.specs.Prelude.{◌≡◌, ℕ, ◌<◌, true, false, Option, None, Some, IfSome, [], ◌++◌, length}
use Rattle.rec_word.specs.Place.{place_of}
use Rattle.rec_word.specs.Word.{target_of}
use Rattle.rec_word.specs.declared.op.Op.{Op}
use Rattle.rec_word.specs.declared.op.Op.TheVariants.{ClearField}
use Rattle.rec_counts.specs.declared.colour.Colour.TheVariants.{Orange}
use Rattle.rec_counts.specs.declared.slot.Slot.{Slot}
use Rattle.rec_counts.specs.Counts.{State, slot_at}
pub use Rattle.rec_counts.specs.Counts.{given_up}
use Rattle.rec_counts.specs.Groups.{last_set}
use Rattle.rec_counts.specs.Lists.{times}
pub use Rattle.rec_counts.specs.Slot.{dead_if, given_up_slot}
use Rattle.rec_word.specs.declared.member.Member.{Member}
use Rattle.rec_word.specs.Walk.{behind, first_in, IsOf}
use Rattle.rec_release.specs.Release.{IsReady}
use Rattle.rec_release.specs.TakenOff.{taken_off}

-- how many fields a slot has, and the field that is exchanged next
pub record Machine : Type 0 where
  pub fields : ℕ
  pub at : Option Member

-- the freeing of a set, with the counts that it works on
pub record Work : Type 0 where
  pub machine : Machine
  pub counts : State

-- what comes next: the field's word becomes 0
abbrev pub op_at : ℕ → Option Member → Option Op
op_at fields None = None
op_at fields (Some a) = Some (ClearField (place_of a.slot a.field fields))

unfoldable pub next_of : Machine → Option Op
next_of m = op_at m.fields m.at

-- the field that comes next, with the counts then
pub record Next : Type 0 where
  pub at : Option Member
  pub counts : State

-- the members go to the free list
abbrev pub listed : State → State
listed s = record s { free = s.free ++ s.work; work = [] }

abbrev pub listed_behind : State → Option Member → Next
listed_behind s None = record { at = None; counts = listed s }
listed_behind s (Some a) = record { at = Some a; counts = s }

-- the field behind this one comes next; behind the last one all members go to the free list
abbrev pub gone_on : (fields : ℕ) → State → Member → Next
gone_on fields s a = listed_behind s (behind fields s.work a)

abbrev pub work_of : ℕ → Next → Work
work_of fields n = record { machine = record { fields = fields; at = n.at }; counts = n.counts }

abbrev pub took_at : Work → (word : ℕ) → Option Member → Work
took_at w word None = w
took_at w word (Some a) = work_of w.machine.fields (gone_on w.machine.fields (taken_off true w.counts (target_of word)) a)

-- what is learnt
unfoldable pub took_of : Work → (word : ℕ) → Work
took_of w word = took_at w word w.machine.at

-- the freeing of the last set begins
unfoldable pub started_of : Machine → State → Work
started_of m s = work_of m.fields (record { at = first_in (last_set s.sets); counts = given_up s })

-- the last set can be freed: the work list is empty; its members are Orange, not released, and neither in the free list nor
-- in the zeros
pub record IsFreeable (s : State) : Type 0 where
  pub some : 0 < length s.sets
  pub work : s.work ≡ []
  pub orange : (x : ℕ) → 0 < times x (last_set s.sets) → (slot_at s x).colour ≡ Orange
  pub unreleased : (x : ℕ) → 0 < times x (last_set s.sets) → (slot_at s x).released ≡ false
  pub unlisted : (x : ℕ) → 0 < times x (last_set s.sets) → times x s.free ≡ 0
  pub counted : (x : ℕ) → 0 < times x (last_set s.sets) → times x s.zeros ≡ 0
  pub ready : IsReady s

-- the counts are as the freeing left them: the slots of the work list are released, and none of them is in the free list; the
-- zeros are zeros, and what the free list has is released
pub record IsAtWork (m : Machine) (s : State) : Type 0 where
  pub field : IfSome m.at (λ (a : Member). a.field < m.fields)
  pub held : IfSome m.at (IsOf s.work)
  pub unlisted : (x : ℕ) → 0 < times x s.work → times x s.free ≡ 0
  pub released : (x : ℕ) → 0 < times x s.work → (slot_at s x).released ≡ true
  pub ready : IsReady s
