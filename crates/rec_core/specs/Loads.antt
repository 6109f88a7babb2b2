-- What the collector loads from fields over the moves of a run, and what becomes of it.
use Rattle.std.specs.Prelude.{◌≡◌, ℕ, ◌/◌, ◌%◌, ◌≤◌, Option, None, Some, List, [], ◌∷◌, map, sum_by, slice_index_or}
use Rattle.std.specs.List.{Contains}
use Rattle.rec_word.specs.declared.op.Op.{Op}
use Rattle.rec_word.specs.declared.op.Op.TheVariants.{LoadChild, ClearField}
use Rattle.rec_model.specs.Pending.{epoch_of, Write}
use Rattle.rec_model.specs.Sets.{Cleared}
use Rattle.rec_word.specs.Load.{Load}
use Rattle.rec_collector.specs.Next.{next_of}
use Rattle.rec_collector.specs.Touched.{named_by, tried_at}
use Rattle.rec_core.specs.Cells.{cell}
use Rattle.rec_core.specs.Core.{Core, cells_of}
use Rattle.rec_core.specs.Moves.{Move, turned}
use Rattle.rec_core.specs.Pending.{writes_of}
use Rattle.rec_core.specs.Run.{Step, over, steps_of}
use Rattle.rec_collector.specs.Given.{IsPreparingIn, IsTryingIn}

-- a word that the collector loaded from a field, and the epoch that was requested then
pub record Loaded : Type 0 where
  pub place : ℕ
  pub word : ℕ
  pub epoch : ℕ

-- what an operation of the collector loads: a trial and a preparation name such operations, in all their phases
abbrev pub loaded_by : Core → Option Op → List Loaded
loaded_by w (Some (LoadChild place)) = record { place = place; word = slice_index_or w.words place 0; epoch = w.epoch } ∷ []
loaded_by w _ = []

abbrev pub loaded_in : Core → Move → List Loaded
loaded_in w Move.Turns = loaded_by w (next_of w.collector)
loaded_in w _ = []

-- the words that the collector loads over these moves, in order
abbrev pub loaded_over : Core → List Move → List Loaded
loaded_over w ms = over loaded_in w ms

-- what an operation of the collector takes out of a field
abbrev pub cleared_by : Core → Option Op → List Cleared
cleared_by w (Some (ClearField place)) = record { place = place; word = slice_index_or w.words place 0 } ∷ []
cleared_by w _ = []

abbrev pub cleared_in : Core → Move → List Cleared
cleared_in w Move.Turns = cleared_by w (next_of w.collector)
cleared_in w _ = []

-- the words that the collector takes out of fields over these moves, in order
abbrev pub cleared_over : Core → List Move → List Cleared
cleared_over w ms = over cleared_in w ms

-- the epoch that was requested when the last trial was made
abbrev pub tried_in : Core → ℕ
tried_in w = tried_at w.epoch w.collector.phase

-- From the one state to the other no trial begins: the sets that the last one found are not yet all tested.
abbrev pub IsSameTrial : Core → Core → Type 0
IsSameTrial w v = tried_in v ≡ tried_in w

-- Where a word is that was loaded: it stands in its field, or a write of the epoch requested then, or of a later one, replaced it there,
-- or the collector took it out.
pub data IsKnown (v : Core) (gone : List Cleared) (l : Loaded) : Type 0 where
  stands : slice_index_or v.words l.place 0 ≡ l.word → IsKnown v gone l
  replaced : (write : Write) → Contains (writes_of v) write → write.place ≡ l.place → write.old ≡ l.word → l.epoch ≤ epoch_of write.new → IsKnown v gone l
  taken_out : Contains gone (record { place = l.place; word = l.word }) → IsKnown v gone l

-- So it is a reference of that epoch: it was put then or before, and it is open, closed in that epoch or later, or gone.
pub record IsReferenceStill (v : Core) (gone : List Cleared) (l : Loaded) : Type 0 where
  pub opened : epoch_of l.word ≤ l.epoch
  pub known : IsKnown v gone l

-- how often a move names the slot: a turn of the collector may, by the batch that it applies or by a decrement
abbrev pub named_by_op : Core → Option Op → (x : ℕ) → ℕ
named_by_op w None x = 0
named_by_op w (Some op) x = named_by w.collector (cell (cells_of w) op) x

abbrev pub named_in : Core → Move → (x : ℕ) → ℕ
named_in w Move.Turns x = named_by_op w (next_of w.collector) x
named_in w _ x = 0

-- how often these moves name the slot
abbrev pub named_over : Core → List Move → (x : ℕ) → ℕ
named_over w ms x = sum_by (λ (s : Step). named_in s.before s.move x) (steps_of w ms)

-- with the turn that comes next a trial is over, and the preparation of its sets begins
abbrev pub BeginsPreparing : Core → Type 0
BeginsPreparing w = IsTryingIn w.collector.phase × IsPreparingIn (turned w).collector.phase

-- what was loaded, as the load of a slot's field
abbrev pub load_of : (fields : ℕ) → Loaded → Load
load_of fields l = record { slot = l.place / fields; field = l.place % fields; word = l.word }

abbrev pub fields_loaded : (fields : ℕ) → List Loaded → List Load
fields_loaded fields loads = map (load_of fields) loads
