-- A heap that is opened from objects is a world, and its parts make it up.
use Rattle.std.proofs.Common.{◌≡◌, ℕ, ◌+◌, ◌*◌, ◌<◌, List, ◌∷◌, ◌++◌, Option, Some, get_or, length, map, replicate, sym, ap, ◌∙◌, arith, length-append}
use Rattle.std.proofs.lemmas.Grind.{same_number_lists}
use Rattle.std.proofs.lemmas.List.FromFn.{get_or-map-range_with_len, length-map-range_with_len}
use Rattle.rec_model.proofs.Opened.{map-replicate}
use Rattle.rec_collector.specs.Private as collectors
use Rattle.rec_core.specs.Objects.{AreObjects, HaveLabels, Objects, counts_of, holders, rows_of}
use Rattle.rec_core.specs.Core.{holding_mutators, opened_from}
use Rattle.rec_core.specs.Row.{cells_of_row, row}
use Rattle.rec_core.specs.Worked.{AreIdle}
use Rattle.rec_core.specs.declared.config.Config.{Config}
use Rattle.rec_core.proofs.BareRuns.{end_kept}
use Rattle.rec_core.proofs.OpenedFrom.{one_of}
use Rattle.rec_core.proofs.OpenedFromSeen.{headers_many, words_many}
use Rattle.rec_world.proofs.Row.{cells_row}
use Rattle.rec_core.proofs.Runs.{run_opened_from}
use Rattle.rec_world.proofs.Calls.{shaped_of}
use Rattle.rec_world.proofs.Common.{Cells, Contents, Core, IsConfig, IsWorld, Private, cells_of, held, is_busy, spare_of}

-- the counts of all objects
pub counts_are : (o : Objects) (counts : List ℕ) → length counts ≡ length o.nodes → ((n : ℕ) → n < length o.nodes → get_or counts n 0 ≡ holders o n) → counts ≡ counts_of o
counts_are o counts many each =
    same_number_lists counts (counts_of o) (many ∙ sym (length-map-range_with_len (holders o) 0 (length o.nodes)))
    (λ k there. let below : k < length o.nodes = omega (arith, there, many) in
    each k below ∙ sym (get_or-map-range_with_len (holders o) 0 (length o.nodes) k k 0 below (let at : 0 + k ≡ k = omega arith in at)))

-- a row has the freed word
long_row : (c : Cells) → length c.words + length c.headers + 1 < length (row c)
long_row c = omega (arith, length-append c.words (c.headers ++ c.epoch ∷ c.freed ∷ c.crossing), length-append c.headers (c.epoch ∷ c.freed ∷ c.crossing))

module _ (config : Config) (o : Objects) (is : IsConfig config) (are : AreObjects config o) (labels : HaveLabels o.nodes) where
  abbrev w : Core
  w = opened_from config o

  -- its row is long enough
  pub row_long : (freed places slots : ℕ) (items : List ℕ) → freed ≡ places + slots + 1 → places ≡ config.slots * config.fields → slots ≡ config.slots → items ≡ row (cells_of w) → freed < length items
  row_long freed places slots items at is_places is_slots row_is =
      omega (arith, at, is_places, is_slots, ap length row_is, long_row (cells_of w), words_many config o is are labels, headers_many config o is are labels)

  -- and holds its words
  pub row_holds : (places slots : ℕ) (items : List ℕ) (made : Cells) → made ≡ cells_of_row places slots items → places ≡ config.slots * config.fields → slots ≡ config.slots → items ≡ row (cells_of w) → made ≡ cells_of w
  row_holds places slots items made is_made is_places is_slots row_is =
      let by_words : places ≡ length w.words = is_places ∙ sym (words_many config o is are labels) in
      let by_headers : slots ≡ length w.headers = is_slots ∙ sym (headers_many config o is are labels) in
      is_made ∙ (λ i. cells_of_row (by_words i) (by_headers i) (row_is i)) ∙ cells_row (cells_of w)

  -- its parts make it up
  pub objects_parts : (cells : Cells) (boxes : List (Option Contents)) (mutators : List Private) (collector : collectors.Private)
      → cells ≡ cells_of w → boxes ≡ replicate config.mutators (Some (spare_of config)) → mutators ≡ holding_mutators config 1 (rows_of config.registers config.mutators o.registers)
      → collector ≡ w.collector
      → ◌≡◌ {A = Core} (record { config = config; headers = cells.headers; words = cells.words; epoch = cells.epoch; freed = cells.freed; crossing = cells.crossing; boxes = map held boxes; mutators = mutators; collector = collector; made = length o.nodes }) w
  objects_parts cells boxes mutators collector is_cells is_boxes is_mutators is_collector =
      let make : Cells → List Contents → List Private → collectors.Private → Core
      = λ x b m c. record { config = config; headers = x.headers; words = x.words; epoch = x.epoch; freed = x.freed; crossing = x.crossing; boxes = b; mutators = m; collector = c; made = length o.nodes } in
      let spares : map held boxes ≡ replicate config.mutators (spare_of config) = ap (map held) is_boxes ∙ map-replicate held config.mutators (Some (spare_of config)) in
      (λ i. make (is_cells i) (spares i) (is_mutators i) (is_collector i))

  -- it is a world,
  pub objects_world : IsWorld w
  objects_world = record { shaped = shaped_of w (end_kept w is (run_opened_from config o are labels)); run = run_opened_from config o are labels }

  -- in which no mutator works
  pub objects_idle : AreIdle w
  objects_idle t there = ap is_busy (one_of config o is are labels t there)
