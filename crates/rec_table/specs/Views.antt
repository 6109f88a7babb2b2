-- What clauses see of a mutator on the table.
use Rattle.std.specs.Prelude.{◌≡◌, false, ℕ, ◌<◌, ◌≤◌, None, Some, List, [], ◌++◌, ◌+◌, length, slice_index_or}
use Rattle.atomic_table.specs.Seated.{TableId}
use Rattle.rec_mutator.specs.Private.{Private, answer_of, is_busy, work_of}
use Rattle.rec_core.specs.Config.{IsMutator}
use Rattle.rec_core.specs.Core.{Core, mutator}
use Rattle.rec_mutator.specs.declared.made.Made.{Made}
use Rattle.rec_mutator.specs.declared.made.Made.TheVariants as makes
use Rattle.rec_mutator.specs.declared.phase.Phase.{Phase}
use Rattle.rec_mutator.specs.declared.phase.Phase.TheVariants as at
use Rattle.rec_mutator.specs.declared.work.Work.{Work}
use Rattle.rec_mutator.specs.declared.work.Work.TheVariants as works
use Rattle.rec_collector.specs.Private as collectors
use Rattle.rec_table.specs.declared.views.CollectorSeat.{CollectorSeat}
use Rattle.rec_table.specs.Beats.{told, gathered_all}
use Rattle.rec_table.specs.Rule.{beats, boxes_out}
use Rattle.rec_table.specs.declared.views.Beat.{Beat}
use Rattle.rec_table.specs.declared.views.Seated.{Seated}

-- which table it stands on, its number, what it was when the heap started, and its list since
pub record MutatorView : Type 0 where
  pub table : TableId
  pub number : ℕ
  pub opened : Private
  pub log : List Beat

abbrev pub mutator_view : TableId → Private → Seated → MutatorView
mutator_view z opened t = record { table = z; number = t.number; opened = opened; log = t.log }

-- its private record now
abbrev pub mutator_now : MutatorView → Private
mutator_now h = told h.opened h.log

-- it is this heap's own
abbrev pub IsOf : TableId → Core → MutatorView → Type 0
IsOf z key h = (h.table ≡ z) × IsMutator key.config h.number × (h.opened ≡ mutator key h.number)

-- which table a heap stands on, and the world that was started
pub record Started : Type 0 where
  pub table : TableId
  pub world : Core

abbrev pub started : TableId → Core → Started
started z w = record { table = z; world = w }

-- it is a mutator of this heap
abbrev pub IsMutatorOf : Started → MutatorView → Type 0
IsMutatorOf s h = IsOf s.table s.world h

-- a mutator with this number as the heap is started
abbrev pub fresh : Started → ℕ → MutatorView
fresh s n = record { table = s.table; number = n; opened = mutator s.world n; log = [] }

-- they are all mutators of this heap, in order of number
pub record AreMutatorsOf (s : Started) (ms : List MutatorView) : Type 0 where
  pub all : length ms ≡ s.world.config.mutators
  pub each : (k : ℕ) (d : MutatorView) → k < length ms → IsMutatorOf s (slice_index_or ms k d) × ((slice_index_or ms k d).number ≡ k + 1)

-- a work that is finished was answered as such works are
abbrev pub IsTold : Phase → Type 0
IsTold (at.Finished (works.Command cmd) (makes.Answered told)) = Unit {0}
IsTold (at.Finished (works.Command cmd) (makes.Crossed epoch)) = ⊥
IsTold (at.Finished works.Poll (makes.Answered told)) = ⊥
IsTold (at.Finished works.Poll (makes.Crossed epoch)) = Unit {0}
IsTold _ = Unit {0}

-- A work came to its end, and was answered so: the mutator works no more.
pub record HasEnded (began : Work) (made : Made) (p : Private) : Type 0 where
  pub answer : answer_of p ≡ Some made
  pub idle : is_busy p ≡ false
  pub work : work_of p ≡ Some began
  pub told : IsTold p.phase

-- the list grew by this work, which began with some slot as its scan's first one, and by steps
pub data Works (work : Work) (log : List Beat) : List Beat → Type 0 where
  first : (from word : ℕ) → Works work log (log ++ beats (Some (record { work = work; from = from })) word)
  then : (log' : List Beat) (word : ℕ) → Works work log log' → Works work log (log' ++ beats None word)

-- what clauses see of the collector on the table
pub record CollectorView : Type 0 where
  pub table : TableId
  pub opened : collectors.Private
  pub collecting : CollectorSeat

abbrev pub collector_view : TableId → collectors.Private → CollectorSeat → CollectorView
collector_view z opened c = record { table = z; opened = opened; collecting = c }

abbrev pub collector_now : CollectorView → collectors.Private
collector_now g = gathered_all g.opened g.collecting.log

abbrev pub IsOwn : TableId → Core → CollectorView → Type 0
IsOwn z key g = (g.table ≡ z) × (g.opened ≡ key.collector)

-- it is the collector of this heap, which made a seat for each mutator and took in none
abbrev pub IsCollectorOf : Started → CollectorView → Type 0
IsCollectorOf s g = IsOwn s.table s.world g × (g.collecting.made ≡ s.world.config.mutators) × (g.collecting.known ≡ [])

-- the collector as the heap is started
abbrev pub fresh_collector : Started → CollectorView
fresh_collector s = collector_view s.table s.world.collector (record { log = []; made = s.world.config.mutators; known = [] })

-- its list grew by the turn that gives back a mailbox, where it held one; no epoch is requested by that
pub record PutsBack (g h : CollectorView) : Type 0 where
  pub returned : List Beat
  pub grows : h ≡ record g { collecting = record g.collecting { log = g.collecting.log ++ returned } }
  pub once : length returned ≤ 1
  pub home : boxes_out (collector_now g) ≡ [] → returned ≡ []
  pub requests_none : (collector_now h).epoch ≡ (collector_now g).epoch
