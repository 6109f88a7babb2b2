-- When what a run told is a legal order of its mutators' journals.
use Rattle.std.specs.Prelude.{◌≡◌, ℕ, ◌-◌, true, List, [], map, length, slice_index_or}
use Rattle.std.specs.List.{filter_map}
use Rattle.rec_model.specs.Heap.{Heap}
use Rattle.rec_model.specs.LegalOrder.{Line, Limits, Moment, line_by, after_all, IsLegalOrder}
use Rattle.rec_model.specs.Sight.{StandsBy}
use Rattle.rec_model.specs.Unfreed.{AreUnfreed}
use Rattle.rec_core.specs.RunAnswers.{told_in_all}
use Rattle.rec_core.specs.Config.{IsMutator}
use Rattle.rec_core.specs.Core.{Core, sight}
use Rattle.rec_core.specs.Moves.{Move, after_moves}
pub use Rattle.rec_core.specs.Worked.{AreIdle}
use Rattle.rec_core.specs.declared.config.Config.{Config}
use Rattle.rec_order.specs.Naming.{Naming, naming_of, named_after_all}
use Rattle.rec_order.specs.Events.{events_of}

-- the numbers that a legal order speaks of
abbrev pub limits_of : Config → Limits
limits_of config = record { fields = config.fields; slots = config.slots; log_entries = config.log_entries }

-- The moment at which an order of a run from this world starts: this heap, these unfreed objects, the marks of the freed word,
-- and the entries of the logs. What a sweep under way freed before is not asked for again.
abbrev pub moment_of : Core → Heap → (unfreed : List ℕ) → Moment
moment_of w heap unfreed = record { heap = heap; unfreed = unfreed; marks = w.freed; frees = true; done = map (λ p. length p.log.entries) w.mutators }

-- there is one journal for each mutator, with the lines that the moves told it
pub record AreJournals (w : Core) (moves : List Move) (journals : List (List Line)) : Type 0 where
  pub one_each : length journals ≡ w.config.mutators
  pub lines : (t : ℕ) → IsMutator w.config t → slice_index_or journals (t - 1) [] ≡ filter_map (line_by t) (told_in_all w moves)

-- The moment is that of the world. Its heap stands for the world by this naming, its unfreed objects are those in taken slots,
-- and its marks are those of the freed word.
pub record IsMomentOf (w : Core) (n : Naming) (moment : Moment) : Type 0 where
  pub stands : StandsBy moment.heap (sight w) n.number
  pub next : n.next ≡ length moment.heap.objects
  pub unfreed : AreUnfreed (sight w) n.number moment.unfreed
  pub marks : moment.marks ≡ w.freed

-- What the moves told is a legal order of the journals, from this heap with these unfreed objects. Its last moment is that of the
-- world that the moves left.
pub record HasLegalOrder (w : Core) (heap : Heap) (number : ℕ → ℕ) (unfreed : List ℕ) (moves : List Move) (journals : List (List Line)) : Type 0 where
  pub legal : IsLegalOrder (limits_of w.config) (moment_of w heap unfreed) journals (events_of (naming_of heap number) w moves)
  pub ends : IsMomentOf (after_moves w moves) (named_after_all (naming_of heap number) w moves) (after_all (limits_of w.config) (moment_of w heap unfreed) (events_of (naming_of heap number) w moves))
