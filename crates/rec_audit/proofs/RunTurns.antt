-- The graph of a run's journal follows its heap: through each turn of the collector.
use Rattle.std.proofs.Common.{◌≡◌, ◌≢◌, ◌⊎◌, inl, inr, ℕ, zero, suc, ◌+◌, ◌-◌, ◌/◌, ◌<◌, ◌≤◌, ◌==◌, ◌&&◌, ◌||◌, Bool, true, false, cond, Option, None, Some, List, [], ◌∷◌, ◌++◌, length, slice_index_or, refl, sym, ap, subst, ◌∙◌, arith, append-nil, append_assoc}
use Rattle.std.specs.List.{Contains, sum_by}
use Rattle.std.proofs.lemmas.Bool.{eq-eqb, false≢true, ne_eqb}
use Rattle.std.proofs.lemmas.Bool.Decides.{nat_tests}
use Rattle.std.proofs.lemmas.List.Elements.{Contains-append_cases, Contains-append_left}
use Rattle.std.proofs.lemmas.List.Sums.{sum_by-le-sum_by}
use Rattle.rec_word.specs.declared.op.Op.{Op}
use Rattle.rec_word.specs.declared.op.Op.TheVariants as ops
use Rattle.rec_model.specs.Pending.{Write, epoch_of}
use Rattle.rec_model.specs.Sets.{Cleared}
use Rattle.rec_log.specs.declared.contents.Contents.{Contents as Buffer}
use Rattle.rec_log.specs.declared.entry.Entry.TheVariants as entries
use Rattle.rec_collector.specs.Kept.{under_way}
use Rattle.rec_collector.specs.Next.{next_of}
use Rattle.rec_collector.specs.Private.{Private, buffer_at}
use Rattle.rec_collector.specs.Shown.{Batch, batch_made, batch_of}
use Rattle.rec_collector.specs.Step.{NamesWord, Step}
use Rattle.rec_collector.specs.Took.{turn_of}
use Rattle.rec_collector.specs.Touched.{tried_at}
use Rattle.rec_collector.specs.declared.phase.Phase.{Phase}
use Rattle.rec_collector.specs.declared.phase.Phase.TheVariants.{Freeing, Idle, Looking, Releasing, Returning, Swapping}
use Rattle.rec_collector.specs.declared.turn.Turn.{Turn}
use Rattle.rec_core.specs.Cells.{cell}
use Rattle.rec_core.specs.Config.{IsMutator}
use Rattle.rec_core.specs.Core.{Core, box, cells_of}
use Rattle.rec_core.specs.Kept.{IsKept}
use Rattle.rec_core.specs.Kept as of_core
use Rattle.rec_core.specs.Loads.{cleared_by, tried_in}
use Rattle.rec_audit.specs.Logged.{last_batch}
use Rattle.rec_core.specs.Moves.{looked_at, turned_by}
use Rattle.rec_core.specs.Pending.{applied_at, writes_of, has_batched}
use Rattle.rec_core.proofs.Freed.{frees_while_sweeping}
use Rattle.rec_audit.proofs.Journalled.{StandsIn, applied_in, replaced_when}
use Rattle.rec_audit.proofs.Lasting.{Lasts, closes, lasts_on, op_keeps}
use Rattle.rec_audit.proofs.Newborn.{IsUntold, none_in}
use Rattle.rec_audit.proofs.NewbornTurns.{IsTold, turned_taken, turned_told}
use Rattle.rec_audit.proofs.Newly.{home_taken, put_lasts}
use Rattle.rec_collector.proofs.ShownSteps.{shown_as_made}
use Rattle.rec_core.proofs.Runs.{given_is}
use Rattle.rec_core.proofs.PlainWords.{CrossesNone, none_crossed}
use Rattle.rec_core.proofs.Turns.{now_at}
use Rattle.rec_audit.specs.Form.{heap_of, number}
use Rattle.rec_audit.specs.Graph.{has_target, is_dead, is_put, is_taken, opens, this_block}
use Rattle.rec_audit.specs.Journal.{batch_lines, line_of, op_lines, parts_lines}
use Rattle.rec_audit.specs.Lines.{Line}
use Rattle.rec_audit.specs.Runs.{heap_for, place_of}
use Rattle.rec_audit.specs.declared.kind.Kind.TheVariants as kinds
use Rattle.rec_audit.proofs.Blocks.{Each, IsLineOf, block_more, block_new, dead_closed, dead_more, each_at, each_both, entry_has_line, heap_more_lines, heap_new, is_late, late_plain, line_is_of, parts_are, taken_epoch, taken_in, taken_more}
use Rattle.rec_audit.proofs.LinesGrown.{dead_out, taken_same, taken_sweep}
use Rattle.rec_audit.proofs.OneTurn.{one_turn, ops_of, some_epoch}
use Rattle.rec_audit.proofs.Placing.{HasBegun, Placed, is_unswept, step_placed, step_unswept, worked_in}
use Rattle.rec_audit.proofs.RunGraph.{HasBlock, Status, Tells}
use Rattle.rec_audit.proofs.Runs.{begun}
use Rattle.rec_core.proofs.Turning.{parts_of_turn}

-- ---- epochs

tried_late : (epoch : ℕ) (phase : Phase) → applied_at epoch phase ≤ tried_at epoch phase
tried_late epoch Idle = omega arith
tried_late epoch (Looking t) = omega arith
tried_late epoch (Swapping t) = omega arith
tried_late epoch (Returning t) = omega arith
tried_late epoch (Releasing m) = omega arith
tried_late epoch (Freeing m) = omega arith
tried_late epoch phase = omega arith

pub tried_near : (epoch : ℕ) (phase : Phase) → tried_at epoch phase ≤ applied_at epoch phase + 1
tried_near epoch Idle = omega arith
tried_near epoch (Looking t) = omega arith
tried_near epoch (Swapping t) = omega arith
tried_near epoch (Returning t) = omega arith
tried_near epoch (Releasing m) = omega arith
tried_near epoch (Freeing m) = omega arith
tried_near epoch phase = omega arith

-- before the batch of its collection a collector has made the trial of the one before
tried_waits : (epoch : ℕ) (phase : Phase) → 1 + under_way phase ≤ epoch → has_batched phase ≡ false → applied_at epoch phase + 1 ≤ tried_at epoch phase
tried_waits epoch Idle some waits = omega (arith, some)
tried_waits epoch (Looking t) some waits = omega (arith, some)
tried_waits epoch (Swapping t) some waits = omega (arith, some)
tried_waits epoch (Returning t) some waits = omega (arith, some)
tried_waits epoch phase some waits = absurd (false≢true (sym waits))

-- ---- the batch of a step

pub record IsBatchOf (p : Private) (x : Batch) : Type 0 where
  pub waits : has_batched p.phase ≡ false
  pub next : x.epoch ≡ (place_of p).next
  pub newer : x.newer ≡ p.newer

pub step_batch : {p q : Private} {word : ℕ} {b : Buffer} {op : Op} {turn : Turn} → HasBegun p → CrossesNone p word → (s : Step p word b (Some op) q turn) → (x : Batch) → batch_made s ≡ Some x → IsBatchOf p x
step_batch begun none (Step.spent idle last is same answer) x made = absurd (cc)
step_batch begun none (Step.request next idle more is present g) x made = absurd (cc)
step_batch {p} begun none (Step.request_alone idle more is alone on) x made =
    let y : Batch = record { epoch = p.epoch; newer = p.newer } in
    let same : y ≡ x = cc in
    let epoch : p.epoch ≡ p.epoch - 1 + 1 = omega (arith, begun) in
    subst (IsBatchOf p) same (record { waits = ap has_batched idle; next = epoch ∙ ap (λ f. applied_at p.epoch f + 1) (sym idle); newer = refl })
step_batch begun none (Step.wait t looks other is same answer) x made = absurd (cc)
step_batch begun none (Step.gather t looks word_is is g) x made = absurd (cc)
step_batch begun none (Step.cross_for t next looks crosses is present g) x made = absurd (cc)
step_batch begun none (Step.cross_for_last t looks crosses is left on) x made = absurd (none t _ looks crosses)
step_batch begun none (Step.give_back t next returning is present g) x made = absurd (cc)
step_batch {p} begun none (Step.apply t returning is left on) x made =
    let y : Batch = record { epoch = p.epoch - 1; newer = p.newer } in
    let same : y ≡ x = cc in
    let one : under_way p.phase ≡ 1 = ap under_way returning in
    let epoch : p.epoch - 1 ≡ p.epoch - 2 + 1 = omega (arith, begun, one) in
    subst (IsBatchOf p) same (record { waits = ap has_batched returning; next = epoch ∙ ap (λ f. applied_at p.epoch f + 1) (sym returning); newer = refl })
step_batch begun none (Step.release m releasing is on) x made = absurd (cc)
step_batch begun none (Step.freeing m freeing is on) x made = absurd (cc)
step_batch begun none (Step.trial m trying is on) x made = absurd (cc)
step_batch begun none (Step.preparation m preparing is on) x made = absurd (cc)
step_batch begun none (Step.begin_sweep opening is g) x made = absurd (cc)
step_batch begun none (Step.sweep due swept w phase sweeping is which next g) x made = absurd (cc)
step_batch begun none (Step.end_sweep swept closing is e) x made = absurd (cc)

-- ---- what was replaced

closes_less : (place word late early : ℕ) → early ≤ late → (x : Write) → closes (record { place = place; word = word; epoch = late }) x ≤ closes (record { place = place; word = word; epoch = early }) x
closes_less place word late early up x = grind (arith, nat_tests)

-- since an earlier epoch as well
replaced_earlier : (w : Core) (place word late early : ℕ) → early ≤ late → 0 < sum_by (closes (record { place = place; word = word; epoch = late })) (writes_of w) → 0 < sum_by (closes (record { place = place; word = word; epoch = early })) (writes_of w)
replaced_earlier w place word late early up some = omega (arith, some, sum_by-le-sum_by (closes (record { place = place; word = word; epoch = late })) (closes (record { place = place; word = word; epoch = early })) (writes_of w) (closes_less place word late early up))

-- What was replaced since the epoch of the last batch was so since the last trial, or in the block that stands open.
raises : (lines : List Line) (u : Core) (place word : ℕ) → IsKept true u → HasBlock lines u → 0 < sum_by (closes (record { place = place; word = word; epoch = applied_in u })) (writes_of u) → Status lines u place word
raises lines u place word kept block some = elim (replaced_when u place word kept some) [
  | inl later ↦ Status.lasts (inr (inl (replaced_earlier u place word (applied_in u + 1) (tried_in u) (tried_near u.epoch u.collector.phase) later)))
  | inr here ↦ told here.0 here.1 block
]
  where
    told : (new : ℕ) → StandsIn (last_batch u.collector) (entries.Put place new word) → HasBlock lines u → Status lines u place word
    told new c (HasBlock.none waits empty) = absurd (empty (entries.Put place new word) c)
    told new c (HasBlock.some rest late is) =
        let line = entry_has_line (last_batch u.collector) (entries.Put place new word) c in
        let l : Line = record { kind = kinds.Put; numbers = line.0 ∷ place ∷ new ∷ word ∷ [] } in
        Status.closed l (subst (λ ls. Contains ls l) (sym is) (Contains-append_left (parts_lines (last_batch u.collector)) rest l line.1)) refl refl refl

-- ---- lines of an operation

pub ops_late : (op : Op) (word : ℕ) → Each is_late (op_lines op word)
ops_late (ops.ClearField place) word = go (word == 0)
  where
    go : (b : Bool) → Each is_late (cond b [] (line_of kinds.Out (place ∷ word ∷ []) ∷ []))
    go true = tt
    go false = (refl, tt)
ops_late (ops.FreeHeader slot) word = (refl, tt)
ops_late _ word = tt

op_taken : (lines : List Line) (op : Op) (word slot : ℕ) → ((x : ℕ) → op ≡ ops.FreeHeader x → slot ≢ x) → is_taken lines slot ≡ true → is_taken (lines ++ op_lines op word) slot ≡ true
op_taken lines (ops.ClearField place) word slot other taken = go (word == 0)
  where
    go : (b : Bool) → is_taken (lines ++ cond b [] (line_of kinds.Out (place ∷ word ∷ []) ∷ [])) slot ≡ true
    go true = ap (λ ls. is_taken ls slot) (append-nil lines) ∙ taken
    go false = taken_same lines (line_of kinds.Out (place ∷ word ∷ [])) slot refl refl ∙ taken
op_taken lines (ops.FreeHeader x) word slot other taken =
    taken_sweep lines (line_of kinds.Sweep (x ∷ [])) slot refl ∙ ap (λ b. cond b false (is_taken lines slot)) (ne_eqb x slot (λ same. other x refl (sym same))) ∙ taken
op_taken lines _ word slot other taken = ap (λ ls. is_taken ls slot) (append-nil lines) ∙ taken

-- a word that came out is dead
op_out : (lines : List Line) (w : Core) (op : Op) (place word : ℕ) → word ≢ 0 → Contains (cleared_by w (Some op)) (record { place = place; word = word }) → is_dead (lines ++ op_lines op (cell (cells_of w) op)) word ≡ true
op_out lines w (ops.ClearField x) place word some (zero, below, there) =
    let found : slice_index_or w.words x 0 ≡ word = ap (λ (c : Cleared). c.word) there in
    let out : op_lines (ops.ClearField x) (slice_index_or w.words x 0) ≡ line_of kinds.Out (x ∷ slice_index_or w.words x 0 ∷ []) ∷ []
    = ap (λ b. cond b [] (line_of kinds.Out (x ∷ slice_index_or w.words x 0 ∷ []) ∷ [])) (ne_eqb (slice_index_or w.words x 0) 0 (λ none. some (sym found ∙ none))) in
    ap (λ ls. is_dead (lines ++ ls) word) out
    ∙ dead_out lines (line_of kinds.Out (x ∷ slice_index_or w.words x 0 ∷ [])) word refl refl
    ∙ dead_or (is_dead lines word) (slice_index_or w.words x 0 == word) (eq-eqb (slice_index_or w.words x 0) word found)
  where
    dead_or : (a b : Bool) → b ≡ true → (a || b) ≡ true
    dead_or true b is = refl
    dead_or false b is = is
op_out lines w (ops.ClearField x) place word some (suc k, below, there) = absurd (omega arith)
op_out lines w _ place word some c = absurd (let below = c.1 in omega arith)

-- headers stay, but for one that is freed
pub headers_stay : (w : Core) (op : Op) (slots fields mutators : ℕ) → NamesWord slots fields mutators op → ((x : ℕ) → op ≡ ops.FreeHeader x → ⊥) → (turned_by w op (cell (cells_of w) op)).headers ≡ w.headers
headers_stay w (ops.FreeHeader x) slots fields mutators names other = absurd (other x refl)
headers_stay w (ops.StoreEpoch e) slots fields mutators names other = refl
headers_stay w (ops.LookBox t e) slots fields mutators names other = refl
headers_stay w (ops.ReturnBox t e) slots fields mutators names other = refl
headers_stay w (ops.LoadChild place) slots fields mutators names other = refl
headers_stay w (ops.ClearField place) slots fields mutators names other = refl
headers_stay w ops.AddFreed slots fields mutators names other = refl
headers_stay w _ slots fields mutators names other = absurd names

-- a step that frees one applies no batch
frees_apply_none : (x : ℕ) (op : Op) (q : Private) (b : Batch) → op ≡ ops.FreeHeader x → batch_of op q ≡ Some b → ⊥
frees_apply_none x op q b is made = (let none : batch_of op q ≡ None = ap (λ o. batch_of o q) is in let no : ◌≡◌ {A = Option Batch} None (Some b) = sym none ∙ made in cc)

-- a line that opens a reference puts a word other than 0
pub opens_some : (l : Line) → opens l ≡ true → number 2 l ≢ 0
opens_some l is none = false≢true (sym (ap (λ n. is_put l.kind && has_target n) none ∙ shut (is_put l.kind)) ∙ is)
  where
    shut : (b : Bool) → (b && has_target 0) ≡ false
    shut true = refl
    shut false = refl

pub late_shut : (l : Line) → is_late l.kind ≡ true → opens l ≡ false
late_shut l late = ap (λ b. b && has_target (number 2 l)) (late_plain l.kind late).2

-- ---- a turn

-- the lines behind a batch, if one was applied
abbrev pub behind_batch : List Line → Option Batch → List Line
behind_batch lines None = lines
behind_batch lines (Some b) = lines ++ batch_lines (Some b)

module _ (lines : List Line) (w : Core) (op : Op) (kept : IsKept true w) (named : ◌≡◌ {A = Option Op} (next_of w.collector) (Some op)) (still : IsKept true (turned_by w op (cell (cells_of w) op)))
    (names : NamesWord (length w.collector.counts.slots) w.collector.fields (length w.collector.newer) op) (tells : Tells lines w) where
  open (parts_of_turn w op) use {found as word, q, v}
  open (one_turn w op kept named still) use {s, at_w, at_v}

  -- what was applied
  record Applied (batch : Option Batch) : Type 0 where
    made : batch_made s ≡ batch
    shown : batch_of op q ≡ batch
    placed : Placed w.collector batch q

  its_batch : (x : Batch) → Applied (Some x) → IsBatchOf w.collector x
  its_batch x a = step_batch (begun w kept) (none_crossed w op kept named) s x a.made

  -- the epoch of the last batch rises by one with a batch
  applied_none : Applied None → applied_in v ≡ applied_in w
  applied_none a = omega (arith, at_w, at_v, a.placed.next)

  applied_some : (x : Batch) → Applied (Some x) → applied_in v ≡ applied_in w + 1
  applied_some x a = omega (arith, at_w, at_v, a.placed.next, (its_batch x a).next)

  grown : (batch : Option Batch) → Applied batch → applied_in w ≤ applied_in v
  grown None a = omega (arith, applied_none a)
  grown (Some x) a = omega (arith, applied_some x a)

  lasting : (batch : Option Batch) → Applied batch → applied_in v ≤ tried_in w
  lasting None a = omega (arith, applied_none a, tried_late w.epoch w.collector.phase)
  lasting (Some x) a = omega (arith, applied_some x a, tried_waits w.epoch w.collector.phase (some_epoch w kept) (its_batch x a).waits)

  abbrev lines_behind : Option Batch → List Line
  lines_behind batch = behind_batch lines batch ++ op_lines op (cell (cells_of w) op)

  waits_on : (phase : Phase) → worked_in phase ≡ false → has_batched phase ≡ false
  waits_on Idle is = refl
  waits_on (Looking t) is = refl
  waits_on (Swapping t) is = refl
  waits_on (Returning t) is = refl
  waits_on phase is = is

  -- the block
  block_behind : (batch : Option Batch) → Applied batch → HasBlock (lines_behind batch) v
  block_behind None a = go tells.block
    where
      go : HasBlock lines w → HasBlock (lines ++ op_lines op (cell (cells_of w) op)) v
      go (HasBlock.none waits empty) = HasBlock.none (waits_on q.phase (sym a.placed.working ∙ waits)) (λ e c. empty e (subst (λ row. StandsIn row e) a.placed.last c))
      go (HasBlock.some rest late is) =
          HasBlock.some (rest ++ ops_of w op) (each_both is_late rest (ops_of w op) late (ops_late op (cell (cells_of w) op)))
          (block_more is_late lines (ops_of w op) (λ k l. (late_plain k l).0) (ops_late op (cell (cells_of w) op)) ∙ ap (λ t. t ++ ops_of w op) is ∙ append_assoc (parts_lines (last_batch w.collector)) rest (ops_of w op) ∙ ap (λ row. parts_lines row ++ (rest ++ ops_of w op)) (sym a.placed.last))
  block_behind (Some x) a =
      let e : Line = line_of kinds.Epoch (x.epoch ∷ []) in
      HasBlock.some (ops_of w op) (ops_late op (cell (cells_of w) op))
      (block_more is_late (lines ++ e ∷ parts_lines x.newer) (ops_of w op) (λ k l. (late_plain k l).0) (ops_late op (cell (cells_of w) op)) ∙ ap (λ t. t ++ ops_of w op) (block_new lines e (parts_lines x.newer) refl (parts_are x.newer)) ∙ ap (λ row. parts_lines row ++ ops_of w op) (sym a.placed.last))

  -- what was put before
  closed_behind : (batch : Option Batch) (place wd : ℕ) (l : Line) → Contains (this_block lines) l → l.kind ≡ kinds.Put → number 1 l ≡ place → number 3 l ≡ wd → Status (lines_behind batch) v place wd
  closed_behind None place wd l c put at old =
      Status.closed l (subst (λ ls. Contains ls l) (sym (block_more is_late lines (ops_of w op) (λ k x. (late_plain k x).0) (ops_late op (cell (cells_of w) op)))) (Contains-append_left (this_block lines) (ops_of w op) l c)) put at old
  closed_behind (Some x) place wd l c put at old = Status.dead (dead_more (behind_batch lines (Some x)) (ops_of w op) wd (dead_closed lines (line_of kinds.Epoch (x.epoch ∷ [])) (parts_lines x.newer) l wd refl c put old))

  dead_behind : (batch : Option Batch) (wd : ℕ) → is_dead lines wd ≡ true → is_dead (lines_behind batch) wd ≡ true
  dead_behind None wd dead = dead_more lines (ops_of w op) wd dead
  dead_behind (Some x) wd dead = dead_more (behind_batch lines (Some x)) (ops_of w op) wd (dead_more lines (batch_lines (Some x)) wd dead)

  put_behind : (batch : Option Batch) → Applied batch → (place wd : ℕ) → wd ≢ 0 → Status lines w place wd → Status (lines_behind batch) v place wd
  put_behind batch a place wd some (Status.dead is) = Status.dead (dead_behind batch wd is)
  put_behind batch a place wd some (Status.closed l c put at old) = closed_behind batch place wd l c put at old
  put_behind batch a place wd some (Status.lasts x) = go (lasts_on w v (cleared_by w (Some op)) (record { place = place; word = wd; epoch = tried_in w }) (op_keeps w op kept named) x)
    where
      go : Lasts v (cleared_by w (Some op)) (record { place = place; word = wd; epoch = tried_in w }) → Status (lines_behind batch) v place wd
      go (inl stands) = Status.lasts (inl stands)
      go (inr (inl replaced)) = raises (lines_behind batch) v place wd still (block_behind batch a) (replaced_earlier v place wd (tried_in w) (applied_in v) (lasting batch a) replaced)
      go (inr (inr out)) = Status.dead (op_out (behind_batch lines batch) w op place wd some out)

  -- what the batch puts
  gathered_epoch : (place new old : ℕ) → has_batched w.collector.phase ≡ false → StandsIn w.collector.newer (entries.Put place new old) → epoch_of new ≡ applied_in w + 1
  gathered_epoch place new old waits (i, below, c) = go w.collector.phase refl waits
    where
      is : IsMutator w.config (i + 1)
      is = (let many : length w.collector.newer ≡ w.config.mutators = kept.collector.mutators in (omega arith, omega arith))

      made : epoch_of new ≡ w.epoch - 1
      made =
          let at : i + 1 - 1 ≡ i = omega arith in
          let all = subst (λ n. of_core.IsBufferOf true w.config (w.epoch - 1) (buffer_at w.collector.newer n)) at (kept.collector.newer (i + 1) is) in
          subst (of_core.IsMadeIn (w.epoch - 1)) c.2 (all.made c.0 (entries.Put place new old) c.1)

      gathered : (phase : Phase) → w.collector.phase ≡ phase → applied_at w.epoch phase ≡ w.epoch - 2 → under_way phase ≡ 1 → epoch_of new ≡ applied_in w + 1
      gathered phase at epoch way = omega (arith, made, ap (applied_at w.epoch) at, epoch, (some_epoch w kept), ap under_way at, way)

      go : (phase : Phase) → w.collector.phase ≡ phase → has_batched phase ≡ false → epoch_of new ≡ applied_in w + 1
      go Idle at waits = absurd (none_in (entries.Put place new old) (buffer_at w.collector.newer i).entries (ap (λ (x : Buffer). x.entries) ((now_at w Idle kept at).1 i (omega arith) below)) c)
      go (Looking t) at waits = gathered (Looking t) at refl refl
      go (Swapping t) at waits = gathered (Swapping t) at refl refl
      go (Returning t) at waits = gathered (Returning t) at refl refl
      go phase at waits = absurd (false≢true (sym waits))

  new_status : (place new old : ℕ) → has_batched w.collector.phase ≡ false → StandsIn w.collector.newer (entries.Put place new old) → Status lines w place new
  new_status place new old waits c = go (put_lasts w place new old kept c (omega (arith, gathered_epoch place new old waits c)))
    where
      go : Lasts w [] (record { place = place; word = new; epoch = applied_in w }) → Status lines w place new
      go (inl stands) = Status.lasts (inl stands)
      go (inr (inl replaced)) = raises lines w place new kept tells.block replaced
      go (inr (inr out)) = absurd (let below = out.1 in omega arith)

  -- what is known of a line that puts a word, behind the batch
  record IsKnown (l : Line) : Type 0 where
    status : Status lines w (number 1 l) (number 2 l)
    early : epoch_of (number 2 l) ≤ applied_in v

  known_part : (x : Batch) → Applied (Some x) → (l : Line) → opens l ≡ true → IsLineOf x.newer l → IsKnown l
  known_part x a l opened (IsLineOf.of_entry n (entries.Put place new old) c is) =
      let b = its_batch x a in
      let own : StandsIn w.collector.newer (entries.Put place new old) = subst (λ row. StandsIn row (entries.Put place new old)) b.newer c in
      let same : line_of kinds.Put (n ∷ place ∷ new ∷ old ∷ []) ≡ l = sym is in
      subst IsKnown same (record { status = new_status place new old b.waits own; early = omega (arith, gathered_epoch place new old b.waits own, applied_some x a) })
  known_part x a l opened (IsLineOf.of_entry n (entries.Born slot leaf) c is) = absurd (false≢true (sym (ap opens is) ∙ opened))
  known_part x a l opened (IsLineOf.of_snapshot n i below is) = absurd (false≢true (sym (ap opens is) ∙ opened))

  known_before : (batch : Option Batch) → Applied batch → (l : Line) → Contains lines l → opens l ≡ true → IsKnown l
  known_before batch a l c opened = record { status = tells.puts l c opened; early = omega (arith, tells.early l c opened, grown batch a) }

  known_in_batch : (x : Batch) → Applied (Some x) → (l : Line) → opens l ≡ true → Contains (line_of kinds.Epoch (x.epoch ∷ []) ∷ parts_lines x.newer) l → IsKnown l
  known_in_batch x a l opened (zero, below, there) = absurd (false≢true (ap opens there ∙ opened))
  known_in_batch x a l opened (suc k, below, there) = known_part x a l opened (line_is_of x.newer l (k, omega arith, there))

  known : (batch : Option Batch) → Applied batch → (l : Line) → Contains (lines_behind batch) l → opens l ≡ true → IsKnown l
  known batch a l c opened = elim (Contains-append_cases (behind_batch lines batch) (ops_of w op) l c) [
    | inr late ↦ absurd (false≢true (sym (late_shut l (each_at is_late (ops_of w op) l (ops_late op (cell (cells_of w) op)) late)) ∙ opened))
    | inl before ↦ by batch a before
  ]
    where
      by : (batch : Option Batch) → Applied batch → Contains (behind_batch lines batch) l → IsKnown l
      by None a c = known_before None a l c opened
      by (Some x) a c = elim (Contains-append_cases lines (batch_lines (Some x)) l c) [
        | inl before ↦ known_before (Some x) a l before opened
        | inr here ↦ known_in_batch x a l opened here
      ]

  -- taken slots
  apart_from : (slot : ℕ) → 0 < slice_index_or v.headers slot 0 → (x : ℕ) → op ≡ ops.FreeHeader x → slot ≢ x
  apart_from slot some = (turned_taken w op (length w.collector.counts.slots) w.collector.fields (length w.collector.newer) names slot some).1

  told_taken : (batch : Option Batch) (slot : ℕ) → is_taken lines slot ≡ true → is_taken (behind_batch lines batch) slot ≡ true
  told_taken None slot taken = taken
  told_taken (Some x) slot taken =
      let e : Line = line_of kinds.Epoch (x.epoch ∷ []) in
      ap (λ ls. is_taken ls slot) (sym (append_assoc lines (e ∷ []) (parts_lines x.newer))) ∙ taken_more (lines ++ e ∷ []) (parts_lines x.newer) slot (parts_are x.newer) (taken_epoch lines e slot refl ∙ taken)

  born_taken : (batch : Option Batch) (b : Batch) (slot : ℕ) (leaf : Bool) → batch ≡ Some b → StandsIn b.newer (entries.Born slot leaf) → is_taken (behind_batch lines batch) slot ≡ true
  born_taken None b slot leaf is c = absurd (cc)
  born_taken (Some x) b slot leaf is c =
      let same : b ≡ x = cc in
      let own : StandsIn x.newer (entries.Born slot leaf) = subst (λ (y : Batch). StandsIn y.newer (entries.Born slot leaf)) same c in
      let e : Line = line_of kinds.Epoch (x.epoch ∷ []) in
      let line = entry_has_line x.newer (entries.Born slot leaf) own in
      let l : Line = line_of kinds.Born (line.0 ∷ slot ∷ []) in
      ap (λ ls. is_taken ls slot) (sym (append_assoc lines (e ∷ []) (parts_lines x.newer))) ∙ taken_in (lines ++ e ∷ []) (parts_lines x.newer) slot l (parts_are x.newer) line.1 refl refl

  taken_behind : (batch : Option Batch) → Applied batch → (slot : ℕ) → 0 < slice_index_or v.headers slot 0 → (is_taken (lines_behind batch) slot ≡ true) ⊎ IsUntold v slot
  taken_behind batch a slot some = elim (tells.taken slot (turned_taken w op (length w.collector.counts.slots) w.collector.fields (length w.collector.newer) names slot some).0) [
    | inl told ↦ inl (op_taken (behind_batch lines batch) op (cell (cells_of w) op) slot (apart_from slot some) (told_taken batch slot told))
    | inr untold ↦ go (turned_told w op kept s slot untold)
  ]
    where
      go : IsTold w op kept (batch_made s) slot → (is_taken (lines_behind batch) slot ≡ true) ⊎ IsUntold v slot
      go (IsTold.still u) = inr u
      go (IsTold.told b leaf is c) = inl (op_taken (behind_batch lines batch) op (cell (cells_of w) op) slot (apart_from slot some) (born_taken batch b slot leaf (sym a.made ∙ is) c))

  -- the slots of what the batch puts
  homes_behind : (batch : Option Batch) → Applied batch → is_unswept v.collector.phase ≡ true → (place new old : ℕ) → StandsIn (last_batch v.collector) (entries.Put place new old) → 0 < slice_index_or v.headers (place / w.config.fields) 0
  homes_behind None a unswept place new old c =
      let before : is_unswept w.collector.phase ≡ true = step_unswept s a.made unswept in
      let same : v.headers ≡ w.headers = headers_stay w op (length w.collector.counts.slots) w.collector.fields (length w.collector.newer) names (λ x is. swept x is before) in
      subst (λ hs. 0 < slice_index_or hs (place / w.config.fields) 0) (sym same) (tells.homes before place new old (subst (λ row. StandsIn row (entries.Put place new old)) a.placed.last c))
    where
      swept : (x : ℕ) → op ≡ ops.FreeHeader x → is_unswept w.collector.phase ≡ true → ⊥
      swept x is before =
          let at = frees_while_sweeping w x (named ∙ ap (λ (o : Op). Some o) is) in
          false≢true (sym (ap is_unswept at.2) ∙ before)
  homes_behind (Some x) a unswept place new old c =
      let b = its_batch x a in
      let own : StandsIn w.collector.newer (entries.Put place new old) = subst (λ row. StandsIn row (entries.Put place new old)) (a.placed.last ∙ b.newer) c in
      let same : v.headers ≡ w.headers = headers_stay w op (length w.collector.counts.slots) w.collector.fields (length w.collector.newer) names (λ y is. frees_apply_none y op q x is a.shown) in
      subst (λ hs. 0 < slice_index_or hs (place / w.config.fields) 0) (sym same) (home_taken w place new old kept own (omega (arith, gathered_epoch place new old b.waits own)))

  heap_behind : (batch : Option Batch) → heap_of (lines_behind batch) ≡ heap_for w.config
  heap_behind None = heap_more_lines is_late lines (ops_of w op) (λ k l. (late_plain k l).1) (ops_late op (cell (cells_of w) op)) ∙ tells.heap
  heap_behind (Some x) = heap_more_lines is_late (behind_batch lines (Some x)) (ops_of w op) (λ k l. (late_plain k l).1) (ops_late op (cell (cells_of w) op)) ∙ heap_new lines (line_of kinds.Epoch (x.epoch ∷ [])) (parts_lines x.newer) refl (parts_are x.newer) ∙ tells.heap

  -- all of it
  pub turned_tells : Tells (behind_batch lines (batch_of op q) ++ op_lines op (cell (cells_of w) op)) v
  turned_tells =
      let shown : batch_of op q ≡ batch_made s = (shown_as_made w.collector q (cell (cells_of w) op) (box w (looked_at w.collector.phase)) op (turn_of w.collector (cell (cells_of w) op)) s kept.collector.machine (given_is w op kept named)).batch in
      let a : Applied (batch_of op q) = record { made = sym shown; shown = refl; placed = subst (λ (x : Option Batch). Placed w.collector x q) (sym shown) (step_placed (begun w kept) s) } in
      record {
        heap = heap_behind (batch_of op q);
        puts = λ l c opened. put_behind (batch_of op q) a (number 1 l) (number 2 l) (opens_some l opened) (known (batch_of op q) a l c opened).status;
        early = λ l c opened. (known (batch_of op q) a l c opened).early;
        block = block_behind (batch_of op q) a;
        taken = taken_behind (batch_of op q) a;
        homes = homes_behind (batch_of op q) a;
      }
