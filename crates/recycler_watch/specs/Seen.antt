-- A heap as it is seen between two moves: a function of the run there.
use Rattle.std.specs.Prelude.{ℕ, ◌&&◌, Bool, true, false, Option, List, map, slice_index_or, is_none, codes}
use Rattle.std.specs.List.{range_with_len}
use Rattle.rec_word.specs.Header.{is_leaf}
use Rattle.rec_word.specs.Word.{target_of}
use Rattle.rec_model.specs.Sight.{words_of}
use Rattle.rec_counts.specs.Counts.{slot_at}
use Rattle.rec_counts.specs.declared.colour.Colour.{Colour}
use Rattle.rec_counts.specs.declared.colour.Colour.TheVariants.{Black, Purple, Gray, White, Orange, Green}
use Rattle.rec_counts.specs.declared.slot.Slot as counted
use Rattle.rec_collector.specs.declared.phase.Phase.{Phase}
use Rattle.rec_collector.specs.declared.phase.Phase.TheVariants.{Idle, Looking, Swapping, Returning, Releasing, Freeing, Trying, Preparing, Opening, Sweeping, Closing}
use Rattle.rec_world.specs.World.{Core, label_of, sight}
use Rattle.rec_core.specs.Core.{mutator}
use Rattle.rec_play.specs.Watched.{Watched}
use Rattle.rec_play.specs.declared.stage.Stage.{Stage}
use Rattle.rec_play.specs.declared.stage.Stage.TheVariants.{Playing}
use Rattle.recycler_watch.specs.declared.state.Slot.{Slot}
use Rattle.recycler_watch.specs.declared.state.Mutator.{Mutator}
use Rattle.recycler_watch.specs.declared.state.Collector.{Collector}
use Rattle.recycler_watch.specs.declared.state.State.{State}

-- a slot: the label of its object, whether that is a leaf, what the collector keeps of it, and what its fields lead to
pub record SeenSlot : Type 0 where
  pub slot : ℕ
  pub label : Option ℕ
  pub leaf : Bool
  pub count : ℕ
  pub cyclic : ℕ
  pub colour : List ℕ
  pub root : Bool
  pub released : Bool
  pub set : Option ℕ
  pub fields : List (Option ℕ)

-- a mutator with its registers, and whether it has left
pub record SeenMutator : Type 0 where
  pub mutator : ℕ
  pub epoch : ℕ
  pub left : Bool
  pub registers : List (Option ℕ)

-- how far the collector is, and what it has come to so far
pub record SeenCollector : Type 0 where
  pub settles : Bool
  pub phase : List ℕ
  pub epoch : ℕ
  pub collections : ℕ
  pub swept : ℕ
  pub sets_freed : ℕ
  pub sets_touched : ℕ
  pub sets_held : ℕ

-- all of them, where an object has so many fields
pub record Seen : Type 0 where
  pub slots : List SeenSlot
  pub mutators : List SeenMutator
  pub collector : SeenCollector
  pub fields : ℕ

abbrev pub colour_name : Colour → List ℕ
colour_name Black = codes "Black"
colour_name Purple = codes "Purple"
colour_name Gray = codes "Gray"
colour_name White = codes "White"
colour_name Orange = codes "Orange"
colour_name Green = codes "Green"

abbrev pub phase_name : Phase → List ℕ
phase_name Idle = codes "rest"
phase_name (Looking _) = codes "gather"
phase_name (Swapping _) = codes "gather"
phase_name (Returning _) = codes "gather"
phase_name (Releasing _) = codes "release"
phase_name (Freeing _) = codes "free"
phase_name (Trying _) = codes "trial"
phase_name (Preparing _) = codes "prepare"
phase_name Opening = codes "sweep"
phase_name (Sweeping _ _) = codes "sweep"
phase_name (Closing _) = codes "sweep"

abbrev is_settling : Stage → Bool
is_settling Playing = false
is_settling _ = true

-- a slot of a heap
abbrev pub counted_slot : counted.Slot → (slot header : ℕ) → List (Option ℕ) → SeenSlot
counted_slot own slot header fields =
    record {
      slot = slot;
      label = label_of header;
      leaf = is_leaf header;
      count = own.count;
      cyclic = own.cyclic;
      colour = colour_name own.colour;
      root = own.buffered && is_none own.set;
      released = own.released;
      set = own.set;
      fields = fields;
    }

abbrev pub slot_of : Core → ℕ → SeenSlot
slot_of w slot = counted_slot (slot_at w.collector.counts slot) slot (slice_index_or w.headers slot 0) (map target_of (words_of (sight w) slot))

-- the first so many slots
abbrev pub slots_of : Core → ℕ → List SeenSlot
slots_of w n = map (slot_of w) (range_with_len 0 n)

abbrev pub mutator_of : Core → ℕ → SeenMutator
mutator_of w t = record { mutator = t; epoch = (mutator w t).epoch; left = (mutator w t).left; registers = (mutator w t).registers }

-- the first so many mutators, which are numbered from 1
abbrev pub mutators_of : Core → ℕ → List SeenMutator
mutators_of w n = map (mutator_of w) (range_with_len 1 n)

abbrev pub collector_of : Core → Stage → SeenCollector
collector_of w stage =
    record {
      settles = is_settling stage;
      phase = phase_name w.collector.phase;
      epoch = w.epoch;
      collections = w.collector.collections;
      swept = w.collector.freed;
      sets_freed = w.collector.sets.freed;
      sets_touched = w.collector.sets.delta;
      sets_held = w.collector.sets.sigma;
    }

-- what is seen of a run
abbrev pub seen_of : Watched → Seen
seen_of w =
    record {
      slots = slots_of w.world w.world.config.slots;
      mutators = mutators_of w.world w.world.config.mutators;
      collector = collector_of w.world w.stage;
      fields = w.script.fields;
    }

-- what the program keeps of it says
abbrev pub slot_seen : Slot → SeenSlot
slot_seen s =
    record {
      slot = s.slot;
      label = s.label;
      leaf = s.leaf;
      count = s.count;
      cyclic = s.cyclic;
      colour = s.colour.now;
      root = s.root;
      released = s.released;
      set = s.set;
      fields = s.fields.items;
    }

abbrev pub mutator_seen : Mutator → SeenMutator
mutator_seen m = record { mutator = m.mutator; epoch = m.epoch; left = m.left; registers = m.registers.items }

abbrev pub collector_seen : Collector → SeenCollector
collector_seen c =
    record {
      settles = c.settles;
      phase = c.phase.now;
      epoch = c.epoch;
      collections = c.collections;
      swept = c.swept;
      sets_freed = c.sets_freed;
      sets_touched = c.sets_touched;
      sets_held = c.sets_held;
    }

abbrev pub seen : State → Seen
seen s =
    record {
      slots = map slot_seen s.slots.items;
      mutators = map mutator_seen s.mutators.items;
      collector = collector_seen s.collector;
      fields = s.fields;
    }
