-- What handles stand for.
use Rattle.std.specs.Prelude.{◌≡◌, ℕ, ◌+◌, ◌<◌, Bool, true, false, Option, Some, None, List, length, nat_lt, slice_index_or, if◌then◌else◌}
use Rattle.std.specs.Arc.{arc_value}
use Rattle.rec_core.specs.Core.{Core}
use Rattle.rec_notice.specs.declared.listener.Listener.{Listener}
use Rattle.rec_notice.specs.declared.ring_tube.RingTube.{RingTube}
use Rattle.rec_notice.specs.declared.teller.Teller.{Teller}
use Rattle.rec_table.specs.Views.{Started}
use Rattle.recycler_c.specs.declared.end.Collecting.{Collecting}
use Rattle.recycler_c.specs.declared.end.End.{End}
use Rattle.recycler_c.specs.declared.end.End.TheVariants as ends
use Rattle.recycler_c.specs.declared.end.Mutating.{Mutating}
use Rattle.recycler_c.specs.declared.handle.Handle.{Handle}

-- the world of a heap at rest
abbrev pub rests_in : Option End → Option Core
rests_in (Some (ends.Resting w t)) = Some w
rests_in _ = None

-- the collector of a running heap
abbrev pub collects_in : Option End → Option Collecting
collects_in (Some (ends.Collecting c t)) = Some c
collects_in _ = None

-- a mutator of a running heap
abbrev pub mutates_in : Option End → Option Mutating
mutates_in (Some (ends.Mutating m)) = Some m
mutates_in _ = None

-- who hears
abbrev pub hears_in : Option End → Option Listener
hears_in (Some (ends.Listening l)) = Some l
hears_in _ = None

-- who tells what a heap's collector frees
abbrev pub Tellers : Type 0
Tellers = Teller RingTube

-- where notices were asked for, beside a heap at rest or its collector
abbrev pub tells_in : Option End → Option Tellers
tells_in (Some (ends.Resting w t)) = t
tells_in (Some (ends.Collecting c t)) = t
tells_in _ = None

-- the same heap, with this teller
abbrev pub telling : End → Option Tellers → End
telling (ends.Resting w t) t' = ends.Resting w t'
telling (ends.Collecting c t) t' = ends.Collecting c t'
telling e t' = e

-- no heap is open, it rests, or it runs: a collector's handle holds nothing else
abbrev pub can_collect : Option End → Bool
can_collect None = true
can_collect (Some (ends.Resting w t)) = true
can_collect (Some (ends.Collecting c t)) = true
can_collect (Some (ends.Mutating m)) = false
can_collect (Some (ends.Listening l)) = false
can_collect (Some ends.Vacant) = false

-- a mutator that is out: its heap, and its number
pub record Out : Type 0 where
  pub heap : Started
  pub number : ℕ

-- What a mutator's handle stands for: nothing where it is closed, else the mutator that is out, if one is.
abbrev pub seat_in : Option End → Option (Option Out)
seat_in None = None
seat_in (Some (ends.Mutating m)) = Some (Some (record { heap = arc_value m.heap; number = m.mutator.number }))
seat_in (Some _) = Some None

-- mutator k + 1 of a running heap: it is out, or home with the collector
abbrev pub out_beside : Collecting → ℕ → Option Out
out_beside c k = if nat_lt 0 (length c.home.items) then None else Some (record { heap = arc_value c.heap; number = k + 1 })

-- What the handle of mutator k + 1 has to stand for, beside this collector's handle.
abbrev pub seat_beside : Option End → ℕ → Option (Option Out)
seat_beside (Some (ends.Resting w t)) k = if nat_lt k w.config.mutators then Some None else None
seat_beside (Some (ends.Collecting c t)) k = if nat_lt k c.count then Some (out_beside c k) else None
seat_beside _ k = None

-- what one of the handles holds
abbrev pub held_at : List Handle → ℕ → Handle → Option End
held_at hs k d = (slice_index_or hs k d).owned.held

-- each mutator's handle stands for what it has to
abbrev pub AreTied : Option End → List Handle → Type 0
AreTied c hs = (k : ℕ) (d : Handle) → k < length hs → seat_in (held_at hs k d) ≡ seat_beside c k
