-- What a table leaves as it is closed.
use Rattle.std.specs.Prelude.{◌≡◌, ℕ, ◌+◌, ◌<◌, ◌≤◌, Option, List, [], ◌++◌, length, slice_index_or}
use mathlib.Core.Option as maybe
use mathlib.Core.Option.{some}
use lib.ListN.{get_elem?}
use Rattle.rec_log.specs.declared.contents.Contents.{Contents}
use Rattle.rec_core.specs.Core.{Core, cells_of, mutator, sight}
use Rattle.rec_core.specs.Moves.{Move, AllFit, after_moves}
use Rattle.rec_model.specs.Heap.{Heap}
use Rattle.rec_model.specs.Sight.{StandsBy}
use Rattle.rec_model.specs.Unfreed.{AreUnfreed}
use Rattle.rec_order.specs.Legal.{HasLegalOrder}
use Rattle.rec_world.specs.World.{IsWorld}
use Rattle.rec_table.specs.Beats.{beats_of, told, gathered_all, Offerless}
use Rattle.rec_table.specs.Homes.{homes_of}
use Rattle.rec_core.specs.Row.{row}
use Rattle.rec_table.specs.Journals.{journals_from}
use Rattle.rec_table.specs.Named.{NameFreed}
use Rattle.rec_table.specs.Rule.{boxes_out}
use Rattle.rec_table.specs.Safe.{IsSafe}
use Rattle.rec_table.specs.Telling.{freed_by_all}
use Rattle.rec_table.specs.declared.views.Beat.{Beat}
use Rattle.rec_table.specs.declared.views.CollectorSeat.{CollectorSeat}

-- One run from the started world, whose lists are those that the first seat has, ends with these words, and with these mailboxes as far as
-- they are home; the records of all actors are what their lists make up.
pub record IsRunOf (key : Core) (c : CollectorSeat) (ws : List ℕ) (xs : List (Option Contents)) : Type 0 where
  pub run : List Move
  pub fit : AllFit key run
  pub offerless : Offerless run
  pub world : IsWorld (after_moves key run)
  pub words : ws ≡ row (cells_of (after_moves key run))
  pub homes : List (maybe.Option (Option Contents))
  pub homes_are : homes ≡ homes_of (after_moves key run).crossing (after_moves key run).boxes
  pub many : length homes ≡ length xs
  pub boxes : (k : ℕ) (y : Option Contents) → get_elem? homes k ≡ some (some y) → get_elem? xs k ≡ some y
  pub mine : c.log ≡ beats_of 0 key run
  pub theirs : (k : ℕ) → slice_index_or c.known k [] ≡ beats_of (k + 1) key run
  pub collector : (after_moves key run).collector ≡ gathered_all key.collector c.log
  pub mutators : (k : ℕ) → k < key.config.mutators → mutator (after_moves key run) (k + 1) ≡ told (mutator key (k + 1)) (slice_index_or c.known k [])

-- One run from the started world leads to this one. The collector's list and the mutators', in order of number, are each actor's own
-- moves in it, each once and in order.
pub record Interleaves (key : Core) (collected : List Beat) (lists : List (List Beat)) (w : Core) : Type 0 where
  pub run : List Move
  pub fit : AllFit key run
  pub offerless : Offerless run
  pub ends : after_moves key run ≡ w
  pub collector : collected ≡ beats_of 0 key run
  pub mutators : (k : ℕ) → k < key.config.mutators → slice_index_or lists k [] ≡ beats_of (k + 1) key run

-- The world that a stopped heap leaves. Where the collector held a mailbox still, a turn more has given it back.
pub record IsStopped (key : Core) (collected : List Beat) (lists : List (List Beat)) (w : Core) : Type 0 where
  pub returned : List Beat
  pub once : length returned ≤ 1
  pub home : boxes_out (gathered_all key.collector collected) ≡ [] → returned ≡ []
  pub run : Interleaves key (collected ++ returned) lists w
  -- whatever heap that never frees stood for the started world, the run is a legal order of the journals that the lists tell
  pub order : (heap : Heap) (number : ℕ → ℕ) (unfreed : List ℕ) → StandsBy heap (sight key) number → AreUnfreed (sight key) number unfreed → HasLegalOrder key heap number unfreed run.run (journals_from key 0 lists)
  -- the labels that the collector's list frees are those of the objects that this order frees, in its order
  pub named : (heap : Heap) (number : ℕ → ℕ) (unfreed : List ℕ) → StandsBy heap (sight key) number → AreUnfreed (sight key) number unfreed → NameFreed key heap number unfreed run.run (freed_by_all key.collector collected)
  -- and what every heap promises was so at each moment of it
  pub always : (before after : List Move) → before ++ after ≡ run.run → IsSafe (after_moves key before)
