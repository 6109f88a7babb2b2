-- A preparation: what comes next, and what is learnt of the word that was loaded.
use Rattle.std.specs.Prelude.{ℕ, ◌+◌, ◌-◌, ◌<◌, Bool, true, false, Option, None, Some, IfSome, List, [], ◌∷◌, length, map, drop, slice_index_or as item_at}
use Rattle.rec_word.specs.Place.{place_of}
use Rattle.rec_word.specs.Word.{target_of}
use Rattle.rec_word.specs.declared.op.Op.{Op}
use Rattle.rec_word.specs.declared.op.Op.TheVariants.{LoadChild}
use Rattle.rec_counts.specs.Counts.{State, slot_at, with_slot}
use Rattle.rec_counts.specs.Slot.{is_in}
pub use Rattle.rec_counts.specs.Slot.{renewed_if}
use Rattle.rec_word.specs.declared.member.Member.{Member}
use Rattle.rec_word.specs.Walk.{behind, IsOf}
use Rattle.rec_sigma.specs.declared.at.At.{At}

-- how many fields a slot has, and the field that is loaded next
pub record Machine : Type 0 where
  pub fields : ℕ
  pub at : Option At

-- a preparation, with the counts that it works on
pub record Work : Type 0 where
  pub machine : Machine
  pub counts : State

-- the members of the set of this number
abbrev pub members_of : State → ℕ → List ℕ
members_of s number = item_at s.sets number []

-- what comes next: the field's word is loaded
abbrev pub op_at : ℕ → Option At → Option Op
op_at fields None = None
op_at fields (Some a) = Some (LoadChild (place_of a.member.slot a.member.field fields))

unfoldable pub next_of : Machine → Option Op
next_of m = op_at m.fields m.at

-- each member of the set of this number has its true count as its cyclic count
abbrev pub renewed : State → ℕ → State
renewed s number = record s { slots = map (λ v. renewed_if (is_in number v.set) v) s.slots }

-- the first member of the first of these sets that has one; they are numbered from here on
abbrev pub first_of : ℕ → List (List ℕ) → Option At
first_of number [] = None
first_of number ([] ∷ sets) = first_of (number + 1) sets
first_of number ((x ∷ xs) ∷ sets) = Some (record { set = number; member = record { index = 0; slot = x; field = 0 } })

abbrev pub begun_at : State → Option At → State
begun_at s None = s
begun_at s (Some a) = renewed s a.set

-- the field that comes next, with the counts then
pub record Next : Type 0 where
  pub at : Option At
  pub counts : State

-- the next set that has a member, from this number on, is begun, if there is one
abbrev pub next_set : State → ℕ → Next
next_set s number = record { at = first_of number (drop number s.sets); counts = begun_at s (first_of number (drop number s.sets)) }

abbrev pub less_if : Bool → State → ℕ → State
less_if true s x = with_slot s x (record (slot_at s x) { cyclic = (slot_at s x).cyclic - 1 })
less_if false s x = s

-- a word that leads to a member of the set takes one off its cyclic count, not below zero; any other takes nothing off
abbrev pub taken_off : ℕ → State → Option ℕ → State
taken_off number s None = s
taken_off number s (Some x) = less_if (is_in number (slot_at s x).set) s x

abbrev pub begun_behind : State → ℕ → Option Member → Next
begun_behind s number None = next_set s (number + 1)
begun_behind s number (Some a) = record { at = Some (record { set = number; member = a }); counts = s }

-- the field behind this one comes next; behind the last one of its set the next set is begun
abbrev pub gone_on : (fields : ℕ) → State → At → Next
gone_on fields s a = begun_behind s a.set (behind fields (members_of s a.set) a.member)

abbrev pub work_of : ℕ → Next → Work
work_of fields n = record { machine = record { fields = fields; at = n.at }; counts = n.counts }

abbrev pub took_at : Work → (word : ℕ) → Option At → Work
took_at w word None = w
took_at w word (Some a) = work_of w.machine.fields (gone_on w.machine.fields (taken_off a.set w.counts (target_of word)) a)

-- what is learnt
unfoldable pub took_of : Work → (word : ℕ) → Work
took_of w word = took_at w word w.machine.at

-- a preparation begins with the first set
unfoldable pub started_of : Machine → State → Work
started_of m s = work_of m.fields (next_set s 0)

-- the member at work stands where the machine says
pub record IsHeld (s : State) (a : At) : Type 0 where
  pub set : a.set < length s.sets
  pub member : IsOf (members_of s a.set) a.member

-- the counts are as the preparation left them
pub record IsAtWork (m : Machine) (s : State) : Type 0 where
  pub field : IfSome m.at (λ (a : At). a.member.field < m.fields)
  pub held : IfSome m.at (IsHeld s)
