-- No slot whose birth is still to be told, and no free one, is taken by the lines of a run's journal.
use Rattle.std.proofs.Common.{◌≡◌, ◌≢◌, ◌⊎◌, inl, inr, ℕ, zero, suc, ◌+◌, ◌-◌, ◌<◌, ◌≤◌, ◌==◌, ◌||◌, if◌then◌else◌, Bool, true, false, cond, Option, None, Some, List, [], ◌∷◌, ◌++◌, length, slice_index_or, slice_set, refl, sym, ap, subst, ◌∙◌, arith, append-nil, append_assoc}
use Rattle.std.specs.List.{Contains, sum_by}
use Rattle.std.proofs.lemmas.Bool.{cases_eq, cases_lt, cond-true, eq-eqb, false≢true, ne_eqb}
use Rattle.std.proofs.lemmas.List.{get_or-set_other, get_or-set_same}
use Rattle.std.proofs.lemmas.List.Elements.{Contains-append_right}
use Rattle.std.proofs.lemmas.List.Sums.{get_or-le-sum_by}
use Rattle.rec_core.proofs.Common.{begun_of, nobody, Private as Mutator, crossing_word, Retired, Op, Contents, Dated, dated_birth, is_from, blank, buffer_at, Phase, Idle, Looking, Swapping, Returning, Turn, cell, IsMutator, Core, cells_of, mutator, box, IsKept, looked_at, left_by, turned_by, pending, epoch_at}
use Rattle.rec_word.specs.declared.op.Op.TheVariants as ops
use Rattle.rec_log.specs.declared.entry.Entry.TheVariants as entries
use Rattle.rec_mutator.specs.declared.work.Work.{Work}
use Rattle.rec_model.specs.Accounted.{named}
use Rattle.rec_collector.specs.Next.{next_of as collector_next}
use Rattle.rec_collector.specs.Private as collectors
use Rattle.rec_collector.specs.Shown.{Batch, batch_made, batch_of}
use Rattle.rec_collector.specs.Step.{NamesWord, Step}
use Rattle.rec_core.specs.Core.{heap_by}
use Rattle.rec_core.specs.Config.{IsConfig}
use Rattle.rec_core.specs.Objects.{first_object}
use Rattle.rec_core.specs.declared.config.Config.{Config}
use Rattle.rec_core.proofs.Opened.{first_labels, first_objects, opened_kept}
use Rattle.rec_core.proofs.OpenedFrom.{pending_begins}
use Rattle.rec_core.specs.Moves.{begun_from, offering, stepped}
use Rattle.rec_core.specs.Pending.{births_of, has_batched}
use Rattle.rec_core.proofs.Reach.{steps_keep_taken}
use Rattle.rec_core.proofs.Steps.{in_list}
use Rattle.rec_core.proofs.Sums.{box_share, buffers_sum, log_share, share}
use Rattle.rec_core.proofs.PlainWords.{crosses_none, none_crossed}
use Rattle.rec_core.proofs.Turns.{now_at}
use Rattle.rec_mutator.specs.Private.{is_busy}
use Rattle.rec_audit.specs.Graph.{is_taken, taken_by, tells}
use Rattle.rec_audit.specs.Journal.{batch_lines, line_of, op_lines, opening_lines}
use Rattle.rec_audit.specs.Runs.{heap_for}
use Rattle.rec_audit.specs.Lines.{Line}
use Rattle.rec_audit.specs.declared.kind.Kind.TheVariants as kinds
use Rattle.rec_audit.proofs.OneTurn.{one_turn, ops_of}
use Rattle.rec_audit.proofs.Blocks.{IsLineOf, line_is_of}
use Rattle.rec_audit.proofs.LinesGrown.{last_same, taken_same, taken_sweep}
use Rattle.rec_audit.proofs.JournalReach.{born_late, from_birth, birth_weighs, tells_births, zip_weighs}
use Rattle.rec_audit.proofs.Journalled.{StandsIn, applied_in, box_later, log_later}
use Rattle.rec_audit.proofs.Newborn.{IsUntold, none_in, untold_before}
use Rattle.rec_audit.proofs.NewbornTurns.{box_after}
use Rattle.rec_audit.proofs.Placing.{Placed, step_placed, worked_in}
use Rattle.rec_audit.proofs.RunTurns.{IsBatchOf, headers_stay, step_batch}
use Rattle.rec_audit.proofs.Runs.{begun}

-- the lines take no slot that is free, or whose birth is still to be told
abbrev pub Untaken : List Line → Core → Type 0
Untaken lines w = (slot : ℕ) → (slice_index_or w.headers slot 0 ≡ 0) ⊎ IsUntold w slot → is_taken lines slot ≡ false

-- ---- lines

-- lines that tell nothing of a slot
pub taken_none : (slot : ℕ) (lines more : List Line) → ((l : Line) → Contains more l → tells slot l ≡ false) → is_taken (lines ++ more) slot ≡ is_taken lines slot
taken_none slot lines [] none = ap (λ ls. is_taken ls slot) (append-nil lines)
taken_none slot lines (l ∷ more) none =
    ap (λ ls. is_taken ls slot) (sym (append_assoc lines (l ∷ []) more))
    ∙ taken_none slot (lines ++ l ∷ []) more (λ x c. none x (Contains-append_right (l ∷ []) more x c))
    ∙ ap (taken_by slot) (last_same (tells slot) lines l (none l (0, omega arith, refl)))

op_untaken : (lines : List Line) (op : Op) (word slot : ℕ) → is_taken lines slot ≡ false → is_taken (lines ++ op_lines op word) slot ≡ false
op_untaken lines (ops.ClearField place) word slot free = go (word == 0)
  where
    go : (b : Bool) → is_taken (lines ++ (if b then [] else line_of kinds.Out (place ∷ word ∷ []) ∷ [])) slot ≡ false
    go true = ap (λ ls. is_taken ls slot) (append-nil lines) ∙ free
    go false = taken_same lines (line_of kinds.Out (place ∷ word ∷ [])) slot refl refl ∙ free
op_untaken lines (ops.FreeHeader x) word slot free = taken_sweep lines (line_of kinds.Sweep (x ∷ [])) slot refl ∙ go (x == slot)
  where
    go : (b : Bool) → cond b false (is_taken lines slot) ≡ false
    go true = refl
    go false = free
op_untaken lines _ word slot free = ap (λ ls. is_taken ls slot) (append-nil lines) ∙ free

-- a slot that is swept
swept_untaken : (lines : List Line) (x word : ℕ) → is_taken (lines ++ op_lines (ops.FreeHeader x) word) x ≡ false
swept_untaken lines x word = taken_sweep lines (line_of kinds.Sweep (x ∷ [])) x refl ∙ ap (λ b. cond b false (is_taken lines x)) (eq-eqb x x refl)

-- the lines of a batch without its birth
batch_untaken : (lines : List Line) (b : Batch) (slot : ℕ) → ((leaf : Bool) → StandsIn b.newer (entries.Born slot leaf) → ⊥) → is_taken lines slot ≡ false → is_taken (lines ++ batch_lines (Some b)) slot ≡ false
batch_untaken lines b slot none free = taken_none slot lines (batch_lines (Some b)) by ∙ free
  where
    of_part : (l : Line) → IsLineOf b.newer l → tells slot l ≡ false
    of_part l (IsLineOf.of_entry n (entries.Put place new old) c is) = ap (tells slot) is
    of_part l (IsLineOf.of_entry n (entries.Born x leaf) c is) = ap (tells slot) is ∙ elim (cases_eq x slot) [
      | inl same ↦ absurd (none leaf (subst (λ y. StandsIn b.newer (entries.Born y leaf)) same c))
      | inr other ↦ ap (λ t. t || false) (ne_eqb x slot other)
    ]
    of_part l (IsLineOf.of_snapshot n i below is) = ap (tells slot) is

    by : (l : Line) → Contains (batch_lines (Some b)) l → tells slot l ≡ false
    by l (zero, below, there) = ap (tells slot) (sym there)
    by l (suc k, below, there) = of_part l (line_is_of b.newer l (k, omega arith, there))

-- ---- births of a later epoch

module _ (w : Core) (kept : IsKept true w) (slot : ℕ) where
  -- one that was gathered
  gathered_weighs : (leaf : Bool) → StandsIn w.collector.newer (entries.Born slot leaf) → 1 ≤ sum_by (share (born_late w slot) tells_births (w.epoch - 1)) w.collector.newer
  gathered_weighs leaf (i, below, c) = omega (
    arith,
    get_or-le-sum_by (share (born_late w slot) tells_births (w.epoch - 1)) w.collector.newer i (blank 0 0) below,
    birth_weighs (born_late w slot) (w.epoch - 1) (buffer_at w.collector.newer i).entries slot leaf c,
    from_birth w slot (w.epoch - 1) leaf (let behind : applied_in w < w.epoch = kept.accounted.epochs.behind in omega arith),
  )

  -- a free slot has none
  free_gathered : (leaf : Bool) → StandsIn w.collector.newer (entries.Born slot leaf) → slice_index_or w.headers slot 0 ≡ 0 → ⊥
  free_gathered leaf c free =
      let n : (slot + 1) - 1 ≡ slot = omega arith in
      let is_free : (pending w).free (slot + 1) ≡ true = ap (λ k. slice_index_or w.headers k 0 == 0) n ∙ eq-eqb (slice_index_or w.headers slot 0) 0 free in
      let none : named (pending w) (slot + 1) ≡ 0 = kept.accounted.unnamed (slot + 1) (omega arith) (ap (λ (b : Bool). if b then true else (pending w).released (slot + 1)) is_free) in
      let births : sum_by (born_late w slot) (births_of w) ≤ named (pending w) (slot + 1) = omega arith in
      omega (arith, none, births, gathered_weighs leaf c, buffers_sum (born_late w slot) tells_births w)

  -- and none beside one that was gathered is in a log or a mailbox
  both_births : (t : ℕ) (leaf other : Bool) → IsMutator w.config t → Contains (mutator w t).log.entries (entries.Born slot leaf) ⊎ Contains (box w t).entries (entries.Born slot leaf) → StandsIn w.collector.newer (entries.Born slot other) → ⊥
  both_births t leaf other is (inl c) gathered = elim (log_later w t kept is) [
    | inr none ↦ none_in (entries.Born slot leaf) (mutator w t).log.entries none c
    | inl later ↦ omega (
      arith,
      kept.accounted.born (slot + 1) (omega arith),
      buffers_sum (born_late w slot) tells_births w,
      gathered_weighs other gathered,
      get_or-le-sum_by (log_share (born_late w slot) tells_births) w.mutators (t - 1) nobody (in_list w t kept is),
      birth_weighs (born_late w slot) (epoch_at (mutator w t)) (mutator w t).log.entries slot leaf c,
      from_birth w slot (epoch_at (mutator w t)) leaf (omega (arith, later)),
    )
  ]
  both_births t leaf other is (inr c) gathered = elim (box_later w t kept is) [
    | inr none ↦ none_in (entries.Born slot leaf) (box w t).entries none c
    | inl later ↦ omega (
      arith,
      kept.accounted.born (slot + 1) (omega arith),
      buffers_sum (born_late w slot) tells_births w,
      gathered_weighs other gathered,
      zip_weighs (box_share (born_late w slot) tells_births) w.mutators w.boxes (t - 1) nobody (blank 0 0) (in_list w t kept is) (let many : length w.boxes ≡ w.config.mutators = kept.mutators.mailboxes in omega (arith, is.0, is.1)),
      birth_weighs (born_late w slot) (epoch_at (mutator w t) - 1) (box w t).entries slot leaf c,
      from_birth w slot (epoch_at (mutator w t) - 1) leaf (omega (arith, later)),
    )
  ]

-- ---- other moves

-- a slot whose birth is untold, while a batch is worked on or not, isn't free
pub untold_taken : (w : Core) (slot : ℕ) → IsKept true w → IsUntold w slot → slice_index_or w.headers slot 0 ≡ 0 → ⊥
untold_taken w slot kept u free =
    let n : (slot + 1) - 1 ≡ slot = omega arith in
    let is_free : (pending w).free (slot + 1) ≡ true = ap (λ k. slice_index_or w.headers k 0 == 0) n ∙ eq-eqb (slice_index_or w.headers slot 0) 0 free in
    let none : named (pending w) (slot + 1) ≡ 0 = kept.accounted.unnamed (slot + 1) (omega arith) (ap (λ (b : Bool). if b then true else (pending w).released (slot + 1)) is_free) in
    let births : sum_by (is_from (applied_in w) (slot + 1)) (births_of w) ≤ named (pending w) (slot + 1) = omega arith in
    omega (arith, none, births, by u)
  where
    its_one : (epoch : ℕ) (leaf : Bool) → applied_in w ≤ epoch → is_from (applied_in w) (slot + 1) (dated_birth epoch (slot + 1) leaf) ≡ 1
    its_one epoch leaf late = from_birth w slot epoch leaf late

    by : IsUntold w slot → 1 ≤ sum_by (is_from (applied_in w) (slot + 1)) (births_of w)
    by (IsUntold.in_log t leaf is c) = elim (log_later w t kept is) [
      | inr nothing ↦ absurd (none_in (entries.Born slot leaf) (mutator w t).log.entries nothing c)
      | inl later ↦ omega (
        arith,
        buffers_sum (is_from (applied_in w) (slot + 1)) tells_births w,
        get_or-le-sum_by (log_share (is_from (applied_in w) (slot + 1)) tells_births) w.mutators (t - 1) nobody (in_list w t kept is),
        birth_weighs (is_from (applied_in w) (slot + 1)) (epoch_at (mutator w t)) (mutator w t).log.entries slot leaf c,
        its_one (epoch_at (mutator w t)) leaf (omega (arith, later)),
      )
    ]
    by (IsUntold.in_box t leaf is c) = elim (box_later w t kept is) [
      | inr nothing ↦ absurd (none_in (entries.Born slot leaf) (box w t).entries nothing c)
      | inl later ↦ omega (
        arith,
        buffers_sum (is_from (applied_in w) (slot + 1)) tells_births w,
        zip_weighs (box_share (is_from (applied_in w) (slot + 1)) tells_births) w.mutators w.boxes (t - 1) nobody (blank 0 0) (in_list w t kept is) (let many : length w.boxes ≡ w.config.mutators = kept.mutators.mailboxes in omega (arith, is.0, is.1)),
        birth_weighs (is_from (applied_in w) (slot + 1)) (epoch_at (mutator w t) - 1) (box w t).entries slot leaf c,
        its_one (epoch_at (mutator w t) - 1) leaf (omega (arith, later)),
      )
    ]
    by (IsUntold.gathered t leaf is waits c) =
        omega (arith, gathered_weighs w kept slot leaf (t - 1, (let many : length w.collector.newer ≡ w.config.mutators = kept.collector.mutators in omega (arith, is.0, is.1)), c), buffers_sum (is_from (applied_in w) (slot + 1)) tells_births w)

-- a birth that is untold is a birth
untold_weighs : (w : Core) (slot : ℕ) → IsKept true w → IsUntold w slot → 1 ≤ sum_by (λ d. 1) (births_of w)
untold_weighs w slot kept (IsUntold.in_log t leaf is c) = omega (
  arith,
  buffers_sum (λ (d : Dated). 1) tells_births w,
  get_or-le-sum_by (log_share (λ (d : Dated). 1) tells_births) w.mutators (t - 1) nobody (in_list w t kept is),
  birth_weighs (λ (d : Dated). 1) (epoch_at (mutator w t)) (mutator w t).log.entries slot leaf c,
)
untold_weighs w slot kept (IsUntold.in_box t leaf is c) = omega (
  arith,
  buffers_sum (λ (d : Dated). 1) tells_births w,
  zip_weighs (box_share (λ (d : Dated). 1) tells_births) w.mutators w.boxes (t - 1) nobody (blank 0 0) (in_list w t kept is) (let many : length w.boxes ≡ w.config.mutators = kept.mutators.mailboxes in omega (arith, is.0, is.1)),
  birth_weighs (λ (d : Dated). 1) (epoch_at (mutator w t) - 1) (box w t).entries slot leaf c,
)
untold_weighs w slot kept (IsUntold.gathered t leaf is waits c) = omega (
  arith,
  buffers_sum (λ (d : Dated). 1) tells_births w,
  get_or-le-sum_by (share (λ (d : Dated). 1) tells_births (w.epoch - 1)) w.collector.newer (t - 1) (blank 0 0) (let many : length w.collector.newer ≡ w.config.mutators = kept.collector.mutators in omega (arith, is.0, is.1)),
  birth_weighs (λ (d : Dated). 1) (w.epoch - 1) (buffer_at w.collector.newer (t - 1)).entries slot leaf c,
)

begun_before : (w : Core) (t : ℕ) (work : Work) (from : ℕ) → IsKept true w → IsMutator w.config t → (slot : ℕ) → IsUntold (begun_from w t work from) slot → IsUntold w slot
unfolding begun_of
begun_before w t work from kept is slot (IsUntold.in_log s leaf there c) = elim (cases_eq s t) [
  | inl same ↦
      let here : mutator (begun_from w t work from) s ≡ begun_of (mutator w t) work from = ap (λ n. slice_index_or (slice_set w.mutators (t - 1) (begun_of (mutator w t) work from)) (n - 1) nobody) same ∙ get_or-set_same w.mutators (t - 1) (begun_of (mutator w t) work from) nobody (in_list w t kept is) in
      IsUntold.in_log t leaf is (subst (λ (x : Mutator). Contains x.log.entries (entries.Born slot leaf)) here c)
  | inr other ↦
      let apart : (s - 1) ≢ (t - 1) = λ e. other (omega (arith, e, is.0, there.0)) in
      IsUntold.in_log s leaf there (subst (λ (x : Mutator). Contains x.log.entries (entries.Born slot leaf)) (get_or-set_other w.mutators (t - 1) (s - 1) (begun_of (mutator w t) work from) nobody apart) c)
]
begun_before w t work from kept is slot (IsUntold.in_box s leaf there c) = IsUntold.in_box s leaf there c
begun_before w t work from kept is slot (IsUntold.gathered s leaf there waits c) = IsUntold.gathered s leaf there waits c

pub begun_untaken : (ls : List Line) (w : Core) (t : ℕ) (work : Work) (from : ℕ) → IsKept true w → IsMutator w.config t → Untaken ls w → Untaken ls (begun_from w t work from)
begun_untaken ls w t work from kept is untaken slot (inl free) = untaken slot (inl free)
begun_untaken ls w t work from kept is untaken slot (inr u) = untaken slot (inr (begun_before w t work from kept is slot u))

pub offering_untaken : (ls : List Line) (w : Core) → Untaken ls w → Untaken ls (offering w)
offering_untaken ls w untaken slot (inl free) = untaken slot (inl free)
offering_untaken ls w untaken slot (inr (IsUntold.in_log t leaf is c)) = untaken slot (inr (IsUntold.in_log t leaf is c))
offering_untaken ls w untaken slot (inr (IsUntold.in_box t leaf is c)) = untaken slot (inr (IsUntold.in_box t leaf is c))
offering_untaken ls w untaken slot (inr (IsUntold.gathered t leaf is waits c)) = untaken slot (inr (IsUntold.gathered t leaf is waits c))

pub stepped_untaken : (ls : List Line) (w : Core) (t : ℕ) → IsKept true w → IsMutator w.config t → is_busy (mutator w t) ≡ true → Untaken ls w → Untaken ls (stepped w t)
stepped_untaken ls w t kept is busy untaken slot (inl free) = elim (cases_lt 0 (slice_index_or w.headers slot 0)) [
  | inl some ↦ absurd (omega (arith, some, free, steps_keep_taken w t slot some))
  | inr none ↦ untaken slot (inl (omega (arith, none)))
]
stepped_untaken ls w t kept is busy untaken slot (inr u) = untaken slot (swap (untold_before w t kept is busy slot u))
  where
    swap : IsUntold w slot ⊎ (slice_index_or w.headers slot 0 ≡ 0) → (slice_index_or w.headers slot 0 ≡ 0) ⊎ IsUntold w slot
    swap (inl v) = inr v
    swap (inr free) = inl free

-- ---- a turn

module _ (ls : List Line) (w : Core) (op : Op) (kept : IsKept true w) (named_is : ◌≡◌ {A = Option Op} (collector_next w.collector) (Some op)) (still : IsKept true (turned_by w op (cell (cells_of w) op)))
    (names : NamesWord (length w.collector.counts.slots) w.collector.fields (length w.collector.newer) op) (untaken : Untaken ls w) where
  open w use {collector as c}

  abbrev found : ℕ
  found = cell (cells_of w) op

  abbrev its_box : Contents
  its_box = box w (looked_at c.phase)

  abbrev v : Core
  v = turned_by w op found

  open v use {collector as q}
  open (one_turn w op kept named_is still) use {s, shown}

  -- where a batch was applied nothing is gathered
  landed : (t slot : ℕ) (leaf : Bool) → IsMutator w.config t → has_batched q.phase ≡ false → Contains (buffer_at q.newer (t - 1)).entries (entries.Born slot leaf) → worked_in q.phase ≡ true → ⊥
  landed t slot leaf is waits e done = go q.phase refl waits done
    where
      go : (phase : Phase) → q.phase ≡ phase → has_batched phase ≡ false → worked_in phase ≡ true → ⊥
      go Idle at waits done =
          let below : t - 1 < length q.newer = (let many : length q.newer ≡ w.config.mutators = still.collector.mutators in omega (arith, is.0, is.1)) in
          none_in (entries.Born slot leaf) (buffer_at q.newer (t - 1)).entries (ap (λ (x : Contents). x.entries) ((now_at v Idle still at).1 (t - 1) (omega arith) below)) e
      go (Looking u) at waits done = false≢true done
      go (Swapping u) at waits done = false≢true done
      go (Returning u) at waits done = false≢true done
      go phase at waits done = false≢true (sym waits)

  -- what is in a mailbox was there before
  box_back : (t slot : ℕ) (leaf : Bool) → IsMutator w.config t → Contains (box v t).entries (entries.Born slot leaf) → Contains (box w t).entries (entries.Born slot leaf)
  box_back t slot leaf is e = elim (box_after w op kept t is) [
    | inl same ↦ subst (λ (b : Contents). Contains b.entries (entries.Born slot leaf)) same e
    | inr takes ↦
        let looked : looked_at c.phase ≡ t = ap looked_at takes.0 in
        let there : t - 1 < length w.boxes = (let many : length w.boxes ≡ w.config.mutators = kept.mutators.mailboxes in omega (arith, is.0, is.1)) in
        let spare : left_by c found its_box c.phase ≡ collectors.spare c = ap (left_by c found its_box) takes.0 ∙ cond-true (found == crossing_word c.epoch Retired) _ _ (eq-eqb found (crossing_word c.epoch Retired) takes.1) in
        let here : box v t ≡ collectors.spare c = ap (λ n. slice_index_or (slice_set w.boxes (n - 1) (left_by c found its_box c.phase)) (t - 1) (blank 0 0)) looked ∙ get_or-set_same w.boxes (t - 1) (left_by c found its_box c.phase) (blank 0 0) there ∙ spare in
        absurd (none_in (entries.Born slot leaf) (box v t).entries (ap (λ (b : Contents). b.entries) here) e)
  ]

  module _ (t slot : ℕ) (leaf : Bool) (is : IsMutator w.config t) (waits : has_batched q.phase ≡ false) (e : Contains (buffer_at q.newer (t - 1)).entries (entries.Born slot leaf)) where
    same_newer : has_batched c.phase ≡ false → q.newer ≡ c.newer → IsUntold w slot
    same_newer before newer = IsUntold.gathered t leaf is before (subst (λ (row : List Contents). Contains (buffer_at row (t - 1)).entries (entries.Born slot leaf)) newer e)

    applied : (b : Batch) → Placed c (Some b) q → IsUntold w slot
    applied b p = absurd (landed t slot leaf is waits e (sym p.working))

    working : has_batched c.phase ≡ true → Placed c None q → IsUntold w slot
    working works p = absurd (landed t slot leaf is waits e (sym p.working ∙ works))

    gathers : (u : ℕ) → c.phase ≡ Looking u → q.newer ≡ slice_set c.newer (u - 1) its_box → IsUntold w slot
    gathers u looks newer = elim (cases_eq t u) [
      | inl same ↦
          let there : t - 1 < length c.newer = (let many : length c.newer ≡ w.config.mutators = kept.collector.mutators in omega (arith, is.0, is.1)) in
          let b : its_box ≡ box w t = ap (λ phase. box w (looked_at phase)) looks ∙ ap (box w) (sym same) in
          let here : buffer_at q.newer (t - 1) ≡ box w t = ap (λ row. buffer_at row (t - 1)) (newer ∙ ap (λ n. slice_set c.newer (n - 1) its_box) (sym same)) ∙ get_or-set_same c.newer (t - 1) its_box (blank 0 0) there ∙ b in
          IsUntold.in_box t leaf is (subst (λ (x : Contents). Contains x.entries (entries.Born slot leaf)) here e)
      | inr other ↦
          let first : 0 < u = (now_at w (Looking u) kept looks).first in
          let apart : (t - 1) ≢ (u - 1) = λ same. other (omega (arith, same, is.0, first)) in
          let stays : buffer_at q.newer (t - 1) ≡ buffer_at c.newer (t - 1) = ap (λ row. buffer_at row (t - 1)) newer ∙ get_or-set_other c.newer (u - 1) (t - 1) its_box (blank 0 0) apart in
          IsUntold.gathered t leaf is (ap has_batched looks) (subst (λ (x : Contents). Contains x.entries (entries.Born slot leaf)) stays e)
    ]

    by_rule : {turn : Turn} (r : Step c found its_box (Some op) q turn) → Placed c (batch_made r) q → IsUntold w slot
    by_rule (Step.spent idle last none same answer) p = absurd (let no : ◌≡◌ {A = Option Op} (Some op) None = none in cc)
    by_rule (Step.request next idle more its present g) p = same_newer (ap has_batched idle) (ap (λ (x : collectors.Private). x.newer) g.after)
    by_rule (Step.request_alone idle more its alone on) p = applied _ p
    by_rule (Step.cross_for u next looks crosses its present g) p = absurd (crosses_none w u kept looks op found its refl crosses)
    by_rule (Step.cross_for_last u looks crosses its left on) p = absurd (crosses_none w u kept looks op found its refl crosses)
    by_rule (Step.wait u looks other its same answer) p = same_newer (ap has_batched looks) (ap (λ (x : collectors.Private). x.newer) same)
    by_rule (Step.gather u looks word_is its g) p = gathers u looks (ap (λ (x : collectors.Private). x.newer) g.after)
    by_rule (Step.give_back u next returning its present g) p = same_newer (ap has_batched returning) (ap (λ (x : collectors.Private). x.newer) g.after)
    by_rule (Step.apply u returning its left on) p = applied _ p
    by_rule (Step.release m releasing its on) p = working (ap has_batched releasing) p
    by_rule (Step.freeing m freeing its on) p = working (ap has_batched freeing) p
    by_rule (Step.trial m trying its on) p = working (ap has_batched trying) p
    by_rule (Step.preparation m preparing its on) p = working (ap has_batched preparing) p
    by_rule (Step.begin_sweep opening its g) p = working (ap has_batched opening) p
    by_rule (Step.sweep due swept x phase sweeping its which next g) p = working (ap has_batched sweeping) p
    by_rule (Step.end_sweep swept closing its e) p = working (ap has_batched closing) p

  untold_back : (slot : ℕ) → IsUntold v slot → IsUntold w slot
  untold_back slot (IsUntold.in_log t leaf is e) = IsUntold.in_log t leaf is e
  untold_back slot (IsUntold.in_box t leaf is e) = IsUntold.in_box t leaf is (box_back t slot leaf is e)
  untold_back slot (IsUntold.gathered t leaf is waits e) = by_rule t slot leaf is waits e s (step_placed (begun w kept) s)

  -- what the batch told is not untold, nor free
  module _ (x : Batch) (applies : batch_of op q ≡ Some x) where
    its_batch : IsBatchOf c x
    its_batch = step_batch (begun w kept) (none_crossed w op kept named_is) s x (sym shown ∙ applies)

    of_newer : (slot : ℕ) (leaf : Bool) → StandsIn x.newer (entries.Born slot leaf) → StandsIn c.newer (entries.Born slot leaf)
    of_newer slot leaf there = subst (λ row. StandsIn row (entries.Born slot leaf)) its_batch.newer there

    untold_not_told : (slot : ℕ) (other : Bool) → IsUntold v slot → StandsIn x.newer (entries.Born slot other) → ⊥
    untold_not_told slot other (IsUntold.in_log t leaf is e) there = both_births w kept slot t leaf other is (inl e) (of_newer slot other there)
    untold_not_told slot other (IsUntold.in_box t leaf is e) there = both_births w kept slot t leaf other is (inr (box_back t slot leaf is e)) (of_newer slot other there)
    untold_not_told slot other (IsUntold.gathered t leaf is waits e) there =
        landed t slot leaf is waits e (sym (subst (λ (y : Option Batch). Placed c y q) (sym shown ∙ applies) (step_placed (begun w kept) s)).working)

  header_back : (slot : ℕ) → slice_index_or v.headers slot 0 ≡ 0 → (slice_index_or w.headers slot 0 ≡ 0) ⊎ (op ≡ ops.FreeHeader slot)
  header_back slot free = at_op op refl
    where
      at_op : (o : Op) → op ≡ o → (slice_index_or w.headers slot 0 ≡ 0) ⊎ (op ≡ ops.FreeHeader slot)
      at_op (ops.FreeHeader x) is = elim (cases_eq slot x) [
        | inl same ↦ inr (is ∙ ap (λ n. ops.FreeHeader n) (sym same))
        | inr other ↦
            let headers : v.headers ≡ slice_set w.headers x 0 = ap (λ (o : Op). (turned_by w o (cell (cells_of w) o)).headers) is in
            inl (sym (get_or-set_other w.headers x slot 0 0 other) ∙ sym (ap (λ hs. slice_index_or hs slot 0) headers) ∙ free)
      ]
      at_op o is = inl (ap (λ hs. slice_index_or hs slot 0) (sym (headers_stay w op (length c.counts.slots) c.fields (length c.newer) names (λ x e. cc))) ∙ free)

  pub turned_untaken : Untaken ((ls ++ batch_lines (batch_of op q)) ++ ops_of w op) v
  turned_untaken slot (inl free) = elim (header_back slot free) [
    | inl none ↦ op_untaken (ls ++ batch_lines (batch_of op q)) op found slot (none_told (batch_of op q) refl none)
    | inr swept ↦
        subst (λ (o : Op). is_taken ((ls ++ batch_lines (batch_of op q)) ++ op_lines o found) slot ≡ false) (sym swept) (swept_untaken (ls ++ batch_lines (batch_of op q)) slot found)
  ]
    where
      none_told : (b : Option Batch) → batch_of op q ≡ b → slice_index_or w.headers slot 0 ≡ 0 → is_taken (ls ++ batch_lines b) slot ≡ false
      none_told None is none = ap (λ ts. is_taken ts slot) (append-nil ls) ∙ untaken slot (inl none)
      none_told (Some x) is none = batch_untaken ls x slot (λ leaf there. free_gathered w kept slot leaf (of_newer x is slot leaf there) none) (untaken slot (inl none))
  turned_untaken slot (inr u) = op_untaken (ls ++ batch_lines (batch_of op q)) op found slot (none_told (batch_of op q) refl)
    where
      none_told : (b : Option Batch) → batch_of op q ≡ b → is_taken (ls ++ batch_lines b) slot ≡ false
      none_told None is = ap (λ ts. is_taken ts slot) (append-nil ls) ∙ untaken slot (inr (untold_back slot u))
      none_told (Some x) is = batch_untaken ls x slot (λ leaf there. untold_not_told x is slot leaf u there) (untaken slot (inr (untold_back slot u)))

-- ---- the opening

pub opened_untaken : (config : Config) → IsConfig config → Untaken (opening_lines (heap_for config)) (heap_by true config)
opened_untaken config is zero (inl free) = absurd (omega (arith, free))
opened_untaken config is (suc n) (inl free) = ne_eqb (suc n) 0 (λ e. omega (arith, e))
opened_untaken config is slot (inr u) = absurd (omega (
  arith,
  untold_weighs (heap_by true config) slot (opened_kept config is) u,
  (pending_begins config (first_object config) is (first_objects config is) (first_labels config)).births (λ d. 1),
))
