-- The core of a heap with its collector: the shared words, the mailboxes, and the private record of each actor.
use Rattle.std.specs.Prelude.{ℕ, ◌+◌, ◌-◌, ◌*◌, Bool, false, Option, List, [], ◌∷◌, ◌++◌, length, map, replicate, slice_index_or, slice_set}
use Rattle.rec_word.specs.Header.{header_word}
use Rattle.rec_word.specs.Mailbox.{crossing_word}
use Rattle.rec_word.specs.declared.mailbox.Mailbox.TheVariants.{Spare}
use Rattle.rec_model.specs.Sight.{Sight}
use Rattle.rec_log.specs.declared.contents.Contents.{Contents}
use Rattle.rec_mutator.specs.Private.{Private, opened_by}
use Rattle.rec_mutator.specs.declared.phase.Phase.TheVariants.{Idle}
use Rattle.rec_collector.specs.Private as collectors
use Rattle.rec_core.specs.Cells.{Cells}
use Rattle.rec_core.specs.Objects.{Objects, counts_of, early_words, first_object, first_registers, rows_of}
use Rattle.rec_core.specs.declared.config.Config.{Config}

-- the numbers; headers, field words by place, the epoch word, the freed word and the crossing words; what each mutator's mailbox
-- holds; the private records of the mutators and of the collector; and the births with the opening one
pub record Core : Type 0 where
  pub config : Config
  pub headers : List ℕ
  pub words : List ℕ
  pub epoch : ℕ
  pub freed : ℕ
  pub crossing : List ℕ
  pub boxes : List Contents
  pub mutators : List Private
  pub collector : collectors.Private
  pub made : ℕ

-- the shared words
abbrev pub cells_of : Core → Cells
cells_of w = record { headers = w.headers; words = w.words; epoch = w.epoch; freed = w.freed; crossing = w.crossing }

-- with these shared words
abbrev pub with_cells : Core → Cells → Core
with_cells w cells = record w { headers = cells.headers; words = cells.words; epoch = cells.epoch; freed = cells.freed; crossing = cells.crossing }

-- what is seen of it
abbrev pub sight : Core → Sight
sight w = record { fields = w.config.fields; headers = w.headers; words = w.words; registers = map (λ p. p.registers) w.mutators }

-- a mutator that isn't there
abbrev pub nobody : Private
nobody = record { number = 0; epoch = 0; slots = 0; fields = 0; registers = []; log = record { entries = []; snapshot = []; capacity = 0; last = false; still = false }; from = 0; phase = Idle; steps = 0; left = false; parked = false; dates = false }

-- the private record of a mutator, numbered from 1
abbrev pub mutator : Core → ℕ → Private
mutator w t = slice_index_or w.mutators (t - 1) nobody

-- with the private record of a mutator replaced
abbrev pub with_mutator : Core → (t : ℕ) → Private → Core
with_mutator w t p = record w { mutators = slice_set w.mutators (t - 1) p }

-- how many entries a mutator's log has
abbrev pub log_length : Core → ℕ → ℕ
log_length w t = length (mutator w t).log.entries

-- what the mailbox of a mutator holds
abbrev pub box : Core → ℕ → Contents
box w t = slice_index_or w.boxes (t - 1) (collectors.blank 0 0)

-- the crossing word of a mutator
abbrev pub crossing_of : Core → ℕ → ℕ
crossing_of w t = slice_index_or w.crossing (t - 1) 0

-- a spare buffer of this heap: no entries, and a null snapshot
abbrev pub spare_of : Config → Contents
spare_of config = collectors.blank config.registers config.log_entries

-- a mutator as it is opened with these registers, whose words are dated or not
abbrev pub holding_by : (dates : Bool) → Config → (t : ℕ) → List (Option ℕ) → Private
holding_by dates config t held = opened_by dates t config.first_epoch config.slots config.fields held config.registers config.log_entries

-- mutators as they are opened with these registers, numbered from this number on
abbrev pub all_holding_by : (dates : Bool) → Config → (t : ℕ) → List (List (Option ℕ)) → List Private
all_holding_by dates config t [] = []
all_holding_by dates config t (held ∷ rows) = holding_by dates config t held ∷ all_holding_by dates config (t + 1) rows

-- A heap as it is opened from objects, of bare words or of dated ones. Object n stands in slot n, and each other slot is free. The words
-- in fields are those of references from before all epochs. The collection of the epoch before the first counts as done: its snapshots
-- are all registers, and each object is counted as often as fields and registers hold it.
abbrev pub heap_from_by : (dates : Bool) → Config → Objects → Core
heap_from_by dates config o =
    record {
      config = config;
      headers = map (λ node. header_word node.1 node.0) o.nodes ++ replicate (config.slots - length o.nodes) 0;
      words = early_words 0 o.fields ++ replicate ((config.slots - length o.nodes) * config.fields) 0;
      epoch = config.first_epoch;
      freed = 0;
      crossing = replicate config.mutators (crossing_word config.first_epoch Spare);
      boxes = replicate config.mutators (spare_of config);
      mutators = all_holding_by dates config 1 (rows_of config.registers config.mutators o.registers);
      collector = collectors.opened config.slots config.fields config.registers config.mutators config.log_entries config.first_epoch config.policy (counts_of o) o.registers;
      made = length o.nodes;
    }

-- those of a heap
abbrev pub holding_mutator : Config → (t : ℕ) → List (Option ℕ) → Private
holding_mutator config t held = holding_by false config t held

abbrev pub holding_mutators : Config → (t : ℕ) → List (List (Option ℕ)) → List Private
holding_mutators config t rows = all_holding_by false config t rows

-- a heap as it is opened from objects
abbrev pub opened_from : Config → Objects → Core
opened_from config o = heap_from_by false config o

-- as it is opened with one object, of bare words or of dated ones
abbrev pub heap_by : (dates : Bool) → Config → Core
heap_by dates config = heap_from_by dates config (first_object config)

-- a mutator of such a heap
abbrev pub opened_mutator : Config → ℕ → Private
opened_mutator config t = holding_mutator config t (first_registers config.registers)

-- a heap as it is opened
abbrev pub opened : Config → Core
opened config = opened_from config (first_object config)
