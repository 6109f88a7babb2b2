-- A step of a mutator's machine is the one of the definitions.
use Rattle.std.proofs.Common.{◌≡◌, ◌-◌, ◌+◌, ◌<◌, ℕ, List, Some, None, Option, true, map, length, slice_index_or, slice_set, refl, sym, ap, subst, ◌∙◌}
use Rattle.std.specs.Option.{IsSome}
use Rattle.rec_world.proofs.Common.{Contents, next_of, Private, is_busy, took_of, step_of, left_of, Cells, cell, with_cell, births_of, IsMutator, Core, cells_of, mutator, box, stepped, held, IsShaped}
use Rattle.rec_word.specs.Op.{written}
use Rattle.rec_collector.specs.Private as collectors
use Rattle.rec_core.specs.Preconditions.{MayStep}
use Rattle.rec_world.specs.Stepping.{MakesStep}
use Rattle.rec_world.proofs.Calls.{box_read, box_home, stepped_is}

-- a mutator that may step has a machine that may
pub makes_step : (w : Core) (t i : ℕ) (boxes : List (Option Contents)) (p : Private) (mailbox : Option Contents) → MayStep w t → is_busy (mutator w t) ≡ true → p ≡ mutator w t
    → w.boxes ≡ map held boxes → t - 1 < length boxes → i ≡ t → ((j : ℕ) → j < length boxes → IsSome (slice_index_or boxes j None)) → mailbox ≡ slice_index_or boxes (i - 1) mailbox → MakesStep p (cells_of w) mailbox
makes_step w t i boxes p mailbox may busy read same there at home its_box =
    let m : Private = mutator w t in
    let was : held mailbox ≡ box w t = box_read boxes t i mailbox at there its_box ∙ ap (λ (bs : List Contents). slice_index_or bs (t - 1) (collectors.blank 0 0)) (sym same) in
    subst (λ (x : Private). MakesStep x (cells_of w) mailbox) (sym read)
    (record {
      busy = busy;
      between = may.between;
      within = may.within;
      found = may.found;
      home = box_home boxes (i - 1) mailbox home (subst (λ n. n - 1 < length boxes) (sym at) there) its_box;
      spare = λ swaps. was ∙ may.spare swaps;
    })

-- what it leaves
pub made_step_is : (w : Core) (t i births : ℕ) (boxes : List (Option Contents)) (p new : Private) (mailbox left : Option Contents) (cells : Cells)
    → IsShaped w → IsMutator w.config t → w.boxes ≡ map held boxes → t - 1 < length boxes → i ≡ t → p ≡ slice_index_or w.mutators (i - 1) p → mailbox ≡ slice_index_or boxes (i - 1) mailbox
    → new ≡ step_of p (cell (cells_of w) (next_of p)) (held mailbox) → cells ≡ with_cell (cells_of w) (next_of p) (written (next_of p) (cell (cells_of w) (next_of p)))
    → left ≡ Some (left_of (took_of p (cell (cells_of w) (next_of p))) (held mailbox)) → births ≡ births_of (next_of p) (cell (cells_of w) (next_of p))
    → ◌≡◌ {A = Core} (record w { headers = cells.headers; words = cells.words; epoch = cells.epoch; freed = cells.freed; crossing = cells.crossing; mutators = slice_set w.mutators (i - 1) new; boxes = map held (slice_set boxes (i - 1) left); made = w.made + births }) (stepped w t)
unfolding step_of
made_step_is w t i births boxes p new mailbox left cells shaped is same there at read its_box makes leaves gives counts =
    stepped_is w t i boxes (next_of p) (cell (cells_of w) (next_of p)) births p p mailbox left (took_of p (cell (cells_of w) (next_of p))) new cells shaped is same there at read read its_box refl refl leaves refl makes gives counts
