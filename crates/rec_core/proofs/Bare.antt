-- A heap of bare words makes the moves of a heap of dated words.
use Rattle.std.proofs.Common.{◌≡◌, Bool, true, false, ℕ, ◌+◌, ◌-◌, ◌==◌, if◌then◌else◌, List, Option, None, Some, map, slice_set, refl, sym, ap, subst, ◌∙◌}
use Rattle.std.proofs.Math.ListN.{get_or-map}
use Rattle.std.proofs.lemmas.List.{map-set}
use Rattle.rec_word.specs.Bare.{bare, bare_in, bare_op}
use Rattle.rec_word.specs.Op.{cell_of, written}
use Rattle.rec_word.specs.declared.cell.Cell.{Cell}
use Rattle.rec_word.specs.declared.cell.Cell.TheVariants as words
use Rattle.rec_word.specs.declared.op.Op.{Op}
use Rattle.rec_word.specs.declared.op.Op.TheVariants as ops
use Rattle.rec_word.specs.Mailbox.{crossing_word}
use Rattle.rec_word.specs.declared.mailbox.Mailbox.TheVariants.{Retired}
use Rattle.rec_word.proofs.Bare.{bare_cell, bare_written}
use Rattle.rec_log.specs.Words.{buffer_by}
use Rattle.rec_log.specs.declared.contents.Contents.{Contents}
use Rattle.rec_mutator.specs.Bare as mutators
use Rattle.rec_mutator.specs.Next.{next_of}
use Rattle.rec_mutator.specs.Private.{Private, IsMachine}
use Rattle.rec_mutator.specs.Took.{begun_of, left_of, step_of, took_of}
use Rattle.rec_mutator.specs.declared.work.Work.{Work}
use Rattle.rec_mutator.proofs.Bare.{begun_bare, left_bare, next_bare, step_bare, took_bare}
use Rattle.rec_collector.specs.Bare as collectors_bare
use Rattle.rec_collector.specs.Next as collector_next
use Rattle.rec_collector.specs.Private as collectors
use Rattle.rec_collector.specs.Took as collector_took
use Rattle.rec_collector.specs.declared.phase.Phase.{Phase}
use Rattle.rec_collector.specs.declared.phase.Phase.TheVariants.{Idle, Looking, Swapping, Returning, Releasing, Freeing, Trying, Preparing, Opening, Sweeping, Closing}
use Rattle.rec_collector.proofs.Bare as collecting
use Rattle.rec_core.specs.Bare.{bare_cells, bare_core}
use Rattle.rec_core.specs.Cells.{Cells, births_of, cell, with_cell, with_word, word_at}
use Rattle.rec_core.specs.Core.{Core, box, cells_of, mutator, nobody}
use Rattle.rec_core.specs.Kept.{IsKept}
use Rattle.rec_core.specs.Moves.{Move, Fits, after_move, begun_from, collected, found_by, left_by, looked_at, performed, stepped, turned, turned_at, turned_by}
use Rattle.rec_core.proofs.Steps.{actor_of}

-- ---- cells

cell_bare : (cells : Cells) (c : Cell) → word_at (bare_cells cells) c ≡ bare_in c (word_at cells c)
cell_bare cells (words.Field place) = get_or-map bare cells.words place 0
cell_bare cells (words.Header slot) = refl
cell_bare cells words.Epoch = refl
cell_bare cells words.Freed = refl
cell_bare cells (words.Crossing t) = refl

put_bare : (cells : Cells) (c : Cell) (word : ℕ) → with_word (bare_cells cells) c (bare_in c word) ≡ bare_cells (with_word cells c word)
put_bare cells (words.Field place) word = ap (λ (xs : List ℕ). record cells { words = xs }) (sym (map-set bare cells.words place word))
put_bare cells (words.Header slot) word = refl
put_bare cells words.Epoch word = refl
put_bare cells words.Freed word = refl
put_bare cells (words.Crossing t) word = refl

-- the word that an operation names, and what it leaves
pub found_bare : (cells : Cells) (op : Op) → cell (bare_cells cells) (bare_op op) ≡ bare_in (cell_of op) (cell cells op)
found_bare cells op = ap (word_at (bare_cells cells)) (bare_cell op) ∙ cell_bare cells (cell_of op)

left_cells : (cells : Cells) (op : Op) (word : ℕ) → with_cell (bare_cells cells) (bare_op op) (written (bare_op op) (bare_in (cell_of op) word)) ≡ bare_cells (with_cell cells op (written op word))
left_cells cells op word =
    ap (λ c. with_word (bare_cells cells) c (written (bare_op op) (bare_in (cell_of op) word))) (bare_cell op)
    ∙ ap (with_word (bare_cells cells) (cell_of op)) (bare_written op word)
    ∙ put_bare cells (cell_of op) (written op word)

births_bare : (op : Op) (word : ℕ) → births_of (bare_op op) (bare_in (cell_of op) word) ≡ births_of op word
births_bare (ops.SwapField place new) word = refl
births_bare (ops.LoadField place) word = refl
births_bare (ops.LoadHeader slot) word = refl
births_bare ops.LoadEpoch word = refl
births_bare (ops.LoadCross t) word = refl
births_bare (ops.ClaimHeader slot header) word = refl
births_bare ops.LoadFreed word = refl
births_bare (ops.LoadChild place) word = refl
births_bare (ops.ClearField place) word = refl
births_bare (ops.FreeHeader slot) word = refl
births_bare (ops.TakeBox t epoch) word = refl
births_bare (ops.GiveBox t epoch) word = refl
births_bare (ops.StoreEpoch epoch) word = refl
births_bare (ops.LookBox t epoch) word = refl
births_bare (ops.ReturnBox t epoch) word = refl
births_bare ops.AddFreed word = refl
births_bare (ops.ShiftBox t shift) word = refl

-- ---- a step of a mutator

pub mutator_bare : (w : Core) (t : ℕ) → mutator (bare_core w) t ≡ mutators.bare_private (mutator w t)
mutator_bare w t = get_or-map mutators.bare_private w.mutators (t - 1) nobody

pub box_bare : (w : Core) (t : ℕ) → box (bare_core w) t ≡ buffer_by bare (box w t)
box_bare w t = get_or-map (buffer_by bare) w.boxes (t - 1) (collectors.blank 0 0)

performed_bare : (w : Core) (t : ℕ) (op : Op) (word : ℕ) (q : Private) (left : Contents)
    → performed (bare_core w) t (bare_op op) (bare_in (cell_of op) word) (mutators.bare_private q) (buffer_by bare left) ≡ bare_core (performed w t op word q left)
performed_bare w t op word q left =
    let cells : with_cell (bare_cells (cells_of w)) (bare_op op) (written (bare_op op) (bare_in (cell_of op) word)) ≡ bare_cells (with_cell (cells_of w) op (written op word)) = left_cells (cells_of w) op word in
    let each : slice_set (map mutators.bare_private w.mutators) (t - 1) (mutators.bare_private q) ≡ map mutators.bare_private (slice_set w.mutators (t - 1) q) = sym (map-set mutators.bare_private w.mutators (t - 1) q) in
    let boxes : slice_set (map (buffer_by bare) w.boxes) (t - 1) (buffer_by bare left) ≡ map (buffer_by bare) (slice_set w.boxes (t - 1) left) = sym (map-set (buffer_by bare) w.boxes (t - 1) left) in
    let births : births_of (bare_op op) (bare_in (cell_of op) word) ≡ births_of op word = births_bare op word in
    (λ i. record {
      config = w.config;
      headers = (cells i).headers;
      words = (cells i).words;
      epoch = (cells i).epoch;
      freed = (cells i).freed;
      crossing = (cells i).crossing;
      boxes = boxes i;
      mutators = each i;
      collector = collectors_bare.bare_private w.collector;
      made = w.made + births i;
    })

stepped_bare : (w : Core) (t : ℕ) → IsMachine (mutator w t) → stepped (bare_core w) t ≡ bare_core (stepped w t)
stepped_bare w t machine =
    let p : Private = mutator w t in
    let word : ℕ = found_by w t in
    let step : Private → Op → ℕ → Contents → Core = λ r op x b. performed (bare_core w) t op x (step_of r x b) (left_of (took_of r x) b) in
    let own : mutator (bare_core w) t ≡ mutators.bare_private p = mutator_bare w t in
    let named : next_of (mutator (bare_core w) t) ≡ bare_op (next_of p) = ap next_of own ∙ next_bare p machine in
    let finds : found_by (bare_core w) t ≡ bare_in (cell_of (next_of p)) word = ap (cell (bare_cells (cells_of w))) named ∙ found_bare (cells_of w) (next_of p) in
    let holds : box (bare_core w) t ≡ buffer_by bare (box w t) = box_bare w t in
    let went : step_of (mutators.bare_private p) (bare_in (cell_of (next_of p)) word) (buffer_by bare (box w t)) ≡ mutators.bare_private (step_of p word (box w t)) = step_bare p word (box w t) machine in
    let leaves : left_of (took_of (mutators.bare_private p) (bare_in (cell_of (next_of p)) word)) (buffer_by bare (box w t)) ≡ buffer_by bare (left_of (took_of p word) (box w t))
    = ap (λ (r : Private). left_of r (buffer_by bare (box w t))) (took_bare p word machine) ∙ left_bare (took_of p word) (box w t) in
    (λ i. step (own i) (named i) (finds i) (holds i))
    ∙ ((λ i. performed (bare_core w) t (bare_op (next_of p)) (bare_in (cell_of (next_of p)) word) (went i) (leaves i))
    ∙ performed_bare w t (next_of p) word (step_of p word (box w t)) (left_of (took_of p word) (box w t)))

-- ---- a turn of the collector

left_by_bare : (c : collectors.Private) (word : ℕ) (b : Contents) (op : Op) (phase : Phase) → ◌≡◌ {A = Option Op} (collector_next.next_at c phase) (Some op)
    → left_by (collectors_bare.bare_private c) (bare_in (cell_of op) word) (buffer_by bare b) phase ≡ buffer_by bare (left_by c word b phase)
unfolding collector_next.next_at
left_by_bare c word b op (Looking t) named =
    let its : ops.LookBox t c.epoch ≡ op = cc in
    subst (λ o. (if bare_in (cell_of o) word == crossing_word c.epoch Retired then collectors.spare c else buffer_by bare b) ≡ buffer_by bare (if word == crossing_word c.epoch Retired then collectors.spare c else b)) its (go (word == crossing_word c.epoch Retired))
  where
    go : (there : Bool) → (if there then collectors.spare c else buffer_by bare b) ≡ buffer_by bare (if there then collectors.spare c else b)
    go true = refl
    go false = refl
left_by_bare c word b op Idle named = refl
left_by_bare c word b op (Swapping t) named = refl
left_by_bare c word b op (Returning t) named = refl
left_by_bare c word b op (Releasing m) named = refl
left_by_bare c word b op (Freeing m) named = refl
left_by_bare c word b op (Trying m) named = refl
left_by_bare c word b op (Preparing m) named = refl
left_by_bare c word b op Opening named = refl
left_by_bare c word b op (Sweeping due swept) named = refl
left_by_bare c word b op (Closing swept) named = refl

left_is : (c : collectors.Private) (word : ℕ) (b : Contents) (op : Op) → ◌≡◌ {A = Option Op} (collector_next.next_of c) (Some op)
    → left_by (collectors_bare.bare_private c) (bare_in (cell_of op) word) (buffer_by bare b) c.phase ≡ buffer_by bare (left_by c word b c.phase)
unfolding collector_next.next_of
left_is c word b op named = left_by_bare c word b op c.phase named

collected_bare : (w : Core) (op : Op) (word : ℕ) (c : collectors.Private) (left : Contents) → bare_op op ≡ op
    → collected (bare_core w) op (bare_in (cell_of op) word) (collectors_bare.bare_private c) (buffer_by bare left) ≡ bare_core (collected w op word c left)
collected_bare w op word c left none =
    let cells : with_cell (bare_cells (cells_of w)) op (written op (bare_in (cell_of op) word)) ≡ bare_cells (with_cell (cells_of w) op (written op word))
    = ap (λ o. with_cell (bare_cells (cells_of w)) o (written o (bare_in (cell_of op) word))) (sym none) ∙ left_cells (cells_of w) op word in
    let place : ℕ = looked_at w.collector.phase - 1 in
    let boxes : slice_set (map (buffer_by bare) w.boxes) place (buffer_by bare left) ≡ map (buffer_by bare) (slice_set w.boxes place left) = sym (map-set (buffer_by bare) w.boxes place left) in
    (λ i. record {
      config = w.config;
      headers = (cells i).headers;
      words = (cells i).words;
      epoch = (cells i).epoch;
      freed = (cells i).freed;
      crossing = (cells i).crossing;
      boxes = boxes i;
      mutators = map mutators.bare_private w.mutators;
      collector = collectors_bare.bare_private c;
      made = w.made;
    })

turned_by_bare : (w : Core) (op : Op) → ◌≡◌ {A = Option Op} (collector_next.next_of w.collector) (Some op) → turned_by (bare_core w) op (cell (cells_of (bare_core w)) op) ≡ bare_core (turned_by w op (cell (cells_of w) op))
turned_by_bare w op named =
    let c : collectors.Private = w.collector in
    let word : ℕ = cell (cells_of w) op in
    let t : ℕ = looked_at c.phase in
    let none : bare_op op ≡ op = collecting.puts_none c op named in
    let finds : cell (bare_cells (cells_of w)) op ≡ bare_in (cell_of op) word = ap (cell (bare_cells (cells_of w))) (sym none) ∙ found_bare (cells_of w) op in
    let holds : box (bare_core w) t ≡ buffer_by bare (box w t) = box_bare w t in
    let went : collector_took.step_of (collectors_bare.bare_private c) (bare_in (cell_of op) word) (buffer_by bare (box w t)) ≡ collectors_bare.bare_private (collector_took.step_of c word (box w t)) = collecting.step_bare c word (box w t) op named in
    let leaves : left_by (collectors_bare.bare_private c) (bare_in (cell_of op) word) (buffer_by bare (box w t)) c.phase ≡ buffer_by bare (left_by c word (box w t) c.phase) = left_is c word (box w t) op named in
    (λ i. collected (bare_core w) op (finds i) (collector_took.step_of (collectors_bare.bare_private c) (finds i) (holds i)) (left_by (collectors_bare.bare_private c) (finds i) (holds i) c.phase))
    ∙ ((λ i. collected (bare_core w) op (bare_in (cell_of op) word) (went i) (leaves i))
    ∙ collected_bare w op word (collector_took.step_of c word (box w t)) (left_by c word (box w t) c.phase) none)

turned_bare : (w : Core) → turned (bare_core w) ≡ bare_core (turned w)
turned_bare w = ap (turned_at (bare_core w)) (collecting.next_bare w.collector) ∙ go (collector_next.next_of w.collector) refl
  where
    go : (x : Option Op) → ◌≡◌ {A = Option Op} (collector_next.next_of w.collector) x → turned_at (bare_core w) x ≡ bare_core (turned_at w x)
    go None is = refl
    go (Some op) is = turned_by_bare w op is

-- ---- moves

begun_from_bare : (w : Core) (t : ℕ) (work : Work) (from : ℕ) → begun_from (bare_core w) t work from ≡ bare_core (begun_from w t work from)
begun_from_bare w t work from =
    let own : begun_of (mutator (bare_core w) t) work from ≡ mutators.bare_private (begun_of (mutator w t) work from) = ap (λ (p : Private). begun_of p work from) (mutator_bare w t) ∙ begun_bare (mutator w t) work from in
    ap (λ (p : Private). record (bare_core w) { mutators = slice_set (map mutators.bare_private w.mutators) (t - 1) p }) own
    ∙ ap (λ (ps : List Private). record (bare_core w) { mutators = ps }) (sym (map-set mutators.bare_private w.mutators (t - 1) (begun_of (mutator w t) work from)))

-- A move of the heap of bare words leaves the bare words of what it leaves of the one of dated words.
pub move_bare : (w : Core) (m : Move) → IsKept true w → Fits w m → after_move (bare_core w) m ≡ bare_core (after_move w m)
move_bare w (Move.Begins t work from) kept fits = begun_from_bare w t work from
move_bare w (Move.Steps t) kept fits = stepped_bare w t (actor_of w t kept fits.0).own.machine
move_bare w Move.Turns kept fits = turned_bare w
move_bare w Move.Offers kept fits = refl
