-- That a notice names an object: the labels that the collector frees are those of the objects that the legal order frees.
use Rattle.std.specs.Prelude.{◌≡◌, ℕ, List, [], ◌∷◌, map}
use Rattle.std.specs.List.{flat_map}
use Rattle.rec_model.specs.Heap.{Heap, object}
use Rattle.rec_model.specs.LegalOrder.{Event, after_all}
use Rattle.rec_core.specs.Core.{Core}
use Rattle.rec_core.specs.Moves.{Move}
use Rattle.rec_order.specs.Events.{events_of}
use Rattle.rec_order.specs.Legal.{limits_of, moment_of}
use Rattle.rec_order.specs.Naming.{naming_of}

-- the object that an event frees, as a list
abbrev pub freed_in : Event → List ℕ
freed_in (Event.Frees n) = n ∷ []
freed_in _ = []

-- the objects that some events free, in their order
abbrev pub freed_objects : List Event → List ℕ
freed_objects events = flat_map freed_in events

-- the label of an object
abbrev pub label_in : Heap → (n : ℕ) → ℕ
label_in heap n = (object heap n).label

-- what the heap that never frees is at the end of a run's order
abbrev last_heap : Core → Heap → (number : ℕ → ℕ) → (unfreed : List ℕ) → List Move → Heap
last_heap w heap number unfreed moves = (after_all (limits_of w.config) (moment_of w heap unfreed) (events_of (naming_of heap number) w moves)).heap

-- These labels are those of the objects that the run's order frees, in its order.
abbrev pub NameFreed : Core → Heap → (number : ℕ → ℕ) → (unfreed : List ℕ) → List Move → (labels : List ℕ) → Type 0
NameFreed w heap number unfreed moves labels = labels ≡ map (label_in (last_heap w heap number unfreed moves)) (freed_objects (events_of (naming_of heap number) w moves))
