-- A whole freeing of a set: what it exchanged, and what became of the counts and the free list.
use Rattle.std.specs.Prelude.{◌≡◌, ℕ, ◌+◌, ◌-◌, Option, None, Some, List, [], ◌++◌, map, fold, length}
use Rattle.rec_word.specs.Place.{places_of}
use Rattle.rec_counts.specs.Counts.{State, slot_at}
use Rattle.rec_counts.specs.Groups.{last_set, earlier_sets}
use Rattle.rec_counts.specs.Lists.{one, times}
use Rattle.rec_word.specs.declared.member.Member.{Member}
use Rattle.rec_word.specs.Load.{Load, given, loaded_at, place_loaded}
use Rattle.rec_word.specs.Walk.{places_left}
use Rattle.rec_release.specs.CycleFree.{Work, took_of, started_of}
use Rattle.rec_release.specs.Released.{leading}

-- the members go to the free list once all fields are exchanged, and are held in the work list till then
abbrev pub listed_of : List ℕ → Option Member → List ℕ
listed_of members None = members
listed_of members (Some a) = []

abbrev pub held_of : List ℕ → Option Member → List ℕ
held_of members None = []
held_of members (Some a) = members

-- From the counts `before`, the freeing of a set with these members came to `after`. `loads` came out, in order; the places
-- `left` are still to be exchanged.
pub record Freed (fields : ℕ) (before : State) (members left listed held : List ℕ) (after : State) (loads : List Load) : Type 0 where
  -- each field of each member is exchanged once, in order
  pub places : map (place_loaded fields) loads ++ left ≡ places_of fields members
  -- each reference that came out takes one off its target's count, and nothing else changes a count
  pub counts : (x : ℕ) → (slot_at after x).count ≡ (slot_at before x).count - leading x (map (λ (l : Load). l.word) loads)
  -- the members are released, and no other slot is
  pub released : (x : ℕ) → one (slot_at after x).released ≡ one (slot_at before x).released + times x members
  pub free : after.free ≡ before.free ++ listed
  pub work : after.work ≡ held
  -- slots that are not orange and whose count came to zero join the zeros
  pub zeros : (more : List ℕ) × (after.zeros ≡ before.zeros ++ more)
  pub sets : after.sets ≡ earlier_sets before.sets
  pub marked : after.marked ≡ before.marked
  pub many : length after.slots ≡ length before.slots

-- the same of the last set, with this field due
abbrev pub FreedTo : (fields : ℕ) (before : State) (at : Option Member) (after : State) (loads : List Load) → Type 0
FreedTo fields before at after loads =
    let members : List ℕ = last_set before.sets in
    Freed fields before members (places_left fields members at) (listed_of members at) (held_of members at) after loads

-- what the freeing of the last set made of the counts, while it took in these words as long as there was work
abbrev pub HasFreed : (fields : ℕ) (before : State) (words : List ℕ) → Type 0
HasFreed fields before words =
    let begun : Work = started_of (record { fields = fields; at = None }) before in
    let end : Work = fold took_of begun words in
    FreedTo fields before end.machine.at end.counts (given took_of (λ (w : Work) word. loaded_at w.machine.at word) begun words)
