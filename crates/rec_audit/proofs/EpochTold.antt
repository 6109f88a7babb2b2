-- The block that a step begins tells all that the buffers of its heap still have of that epoch.
use Rattle.std.proofs.Common.{◌≡◌, ◌≢◌, inl, inr, ℕ, zero, suc, ◌+◌, ◌-◌, ◌<◌, ◌≤◌, ◌==◌, if◌then◌else◌, Bool, true, false, Option, None, Some, List, [], ◌∷◌, map, length, replicate, slice_index_or, refl, sym, ap, subst, ◌∙◌, arith}
use Rattle.std.specs.List.{Contains, enumerate_from, flat_map, sum_by, zip}
use Rattle.std.specs.Option.{option_map}
use Rattle.std.proofs.lemmas.Bool.{cases_eq, eq-eqb}
use Rattle.std.proofs.lemmas.Bool.Decides.{nat_tests}
use Rattle.std.proofs.lemmas.List.Elements.{Contains-append_left, Contains-append_right}
use Rattle.std.proofs.lemmas.List.Sums.{get_or-le-sum_by, sum_by-cons}
use Rattle.rec_word.specs.Bare.{bare, bare_in}
use Rattle.rec_word.specs.Op.{cell_of}
use Rattle.rec_word.specs.declared.op.Op.{Op}
use Rattle.rec_log.specs.Words.{entry_by}
use Rattle.rec_log.specs.declared.contents.Contents.{Contents as Buffer}
use Rattle.rec_log.specs.declared.entry.Entry.{Entry}
use Rattle.rec_log.specs.declared.entry.Entry.TheVariants as entries
use Rattle.rec_model.specs.Pending.{Dated, Write, dated, dated_birth, epoch_of, is_at}
use Rattle.rec_model.specs.Reach.{is_in}
use Rattle.rec_model.specs.Sums.{only_if}
use Rattle.rec_collector.specs.Bare as collectors_bare
use Rattle.rec_collector.specs.Bare.{bare_buffers}
use Rattle.rec_collector.specs.Kept.{under_way}
use Rattle.rec_collector.specs.Next.{next_of}
use Rattle.rec_collector.specs.Private.{blank, buffer_at}
use Rattle.rec_collector.specs.Shown.{Batch, Shown, batch_made, batch_of, shown_of}
use Rattle.rec_collector.specs.declared.phase.Phase.{Phase}
use Rattle.rec_collector.specs.declared.phase.Phase.TheVariants.{Idle, Looking, Returning, Swapping}
use Rattle.rec_collector.proofs.Bare as collecting
use Rattle.rec_collector.proofs.Bare.{buffer_bare}
use Rattle.rec_collector.proofs.BareKept.{rows_many}
use Rattle.rec_core.specs.Bare.{Behind, bare_core}
use Rattle.rec_core.specs.Cells.{cell}
use Rattle.rec_core.specs.Config.{IsConfig, IsMutator}
use Rattle.rec_core.specs.Core.{Core, box, cells_of, heap_by, mutator, nobody, opened}
use Rattle.rec_core.specs.Kept.{IsKept}
use Rattle.rec_core.specs.Moves.{AllFit, Move, after_moves, turned, turned_at, turned_by}
use Rattle.rec_core.specs.Pending.{Filed, applied_at, births_in, births_of, buffers, dated_names, epoch_at, older_at, snapshots_of, writes_of, has_batched}
use Rattle.rec_core.specs.Shown.{shown_behind, turn_shown}
use Rattle.rec_core.specs.Turn.{seen_at}
use Rattle.rec_core.specs.declared.config.Config.{Config}
use Rattle.rec_core.proofs.PlainWords.{none_crossed}
use Rattle.rec_core.proofs.BareSeen.{turned_behind}
use Rattle.rec_core.proofs.Batches.{none_of}
use Rattle.rec_core.proofs.Dated.{Explains, moves_explained}
use Rattle.rec_audit.proofs.Lasting.{wrote}
use Rattle.rec_core.proofs.Runs.{move_kept}
use Rattle.rec_core.proofs.Sums.{box_share, buffers_sum, log_share, share, zip_sum-none}
use Rattle.rec_core.proofs.Turns.{now_at}
use Rattle.rec_audit.specs.Journal.{batch_lines, entry_line, line_of, part_lines, parts_lines, register_number, snap_line}
use Rattle.rec_audit.specs.Lines.{Line}
use Rattle.rec_audit.specs.Logged.{last_batch}
use Rattle.rec_audit.specs.Runs.{TellEpoch}
use Rattle.rec_audit.specs.declared.kind.Kind.TheVariants as kinds
use Rattle.rec_audit.proofs.BareJournal.{bare_batch, batch_is, shown_bare}
use Rattle.rec_audit.proofs.Blocks.{entry_has_line}
use Rattle.rec_audit.proofs.Forming.{part}
use Rattle.rec_audit.proofs.Journalled.{IsOfEpoch, StandsIn, applied_in, box_spare, last_sum, log_spare, stands_in}
use Rattle.rec_audit.proofs.JournalReach.{tells_births, tells_names}
use Rattle.rec_audit.proofs.OneTurn.{one_turn, some_epoch}
use Rattle.rec_audit.proofs.Placing.{Placed, step_placed}
use Rattle.rec_audit.proofs.RunAnswers.{first_explained}
use Rattle.rec_audit.proofs.RunTurns.{IsBatchOf, step_batch}
use Rattle.rec_audit.proofs.Runs.{begun}
use Rattle.rec_audit.proofs.Marking.{or_left, or_right}
use Rattle.rec_core.proofs.Turning.{parts_of_turn}

-- an element weighs no more than all
pub weighs_in : {X : Type 0} (g : X → ℕ) (xs : List X) (x : X) → Contains xs x → g x ≤ sum_by g xs
weighs_in g xs x (k, below, there) = omega (arith, get_or-le-sum_by g xs k x below, ap g there)

-- ---- writes of the epoch of the last batch

is_same : Write → Write → ℕ
is_same x y = only_if (x.place == y.place) (only_if (x.new == y.new) (only_if (x.old == y.old) 1))

itself : (place new old : ℕ) → only_if (place == place) (only_if (new == new) (only_if (old == old) 1)) ≡ 1
itself place new old = grind (arith, nat_tests)

-- they stand in its buffers
write_stands : (w : Core) (x : Write) → IsKept true w → Contains (writes_of w) x → epoch_of x.new ≡ applied_in w → StandsIn (last_batch w.collector) (entries.Put x.place x.new x.old)
unfolding is_same
write_stands w x kept c at =
    let some : 0 < sum_by (wrote (is_same x)) (last_batch w.collector) = omega (arith, weighs_in (is_same x) (writes_of w) x c, itself x.place x.new x.old, last_sum w (is_same x) kept own) in
    let (y, stands, weighs) = stands_in (is_same x) (last_batch w.collector) some in
    let (place, new, old) = parts y.place y.new y.old weighs in
    subst (λ p. StandsIn (last_batch w.collector) (entries.Put p x.new x.old)) (sym place)
    (subst (λ n. StandsIn (last_batch w.collector) (entries.Put y.place n x.old)) (sym new)
    (subst (λ o. StandsIn (last_batch w.collector) (entries.Put y.place y.new o)) (sym old) stands))
  where
    parts : (place new old : ℕ) → 0 < only_if (x.place == place) (only_if (x.new == new) (only_if (x.old == old) 1)) → (x.place ≡ place) × (x.new ≡ new) × (x.old ≡ old)
    parts place new old weighs = (grind (arith, nat_tests), grind (arith, nat_tests), grind (arith, nat_tests))

    none : (place new old : ℕ) → x.new ≢ new → only_if (x.place == place) (only_if (x.new == new) (only_if (x.old == old) 1)) ≡ 0
    none place new old apart = grind (arith, nat_tests)

    own : IsOfEpoch (applied_in w) (is_same x)
    own y other = none y.place y.new y.old (λ same. other (ap epoch_of (sym same) ∙ at))

-- ---- births and snapshots of that epoch

-- A weight of these: a buffer of another epoch has none of it, and no spare has.
module _ (w : Core) (kept : IsKept true w) (f : Filed → List Dated) (h : Dated → ℕ) (apart : (epoch : ℕ) (b : Buffer) → epoch ≢ applied_in w → share h f epoch b ≡ 0)
    (spare : (epoch registers capacity : ℕ) → share h f epoch (blank registers capacity) ≡ 0) where
  number : (i : ℕ) → i < length w.mutators → IsMutator w.config (i + 1)
  number i below = (let many : length w.mutators ≡ w.config.mutators = kept.mutators.many in (omega arith, omega arith))

  log_none : (t : ℕ) → IsMutator w.config t → log_share h f (mutator w t) ≡ 0
  log_none t is = elim (log_spare w t kept is) [
    | inl later ↦ apart (epoch_at (mutator w t)) (mutator w t).log (omega arith)
    | inr none ↦ ap (share h f (epoch_at (mutator w t))) none ∙ spare (epoch_at (mutator w t)) w.config.registers w.config.log_entries
  ]

  box_none : (t : ℕ) → IsMutator w.config t → share h f (epoch_at (mutator w t) - 1) (box w t) ≡ 0
  box_none t is = elim (box_spare w t kept is) [
    | inl later ↦ apart (epoch_at (mutator w t) - 1) (box w t) (omega arith)
    | inr none ↦ ap (share h f (epoch_at (mutator w t) - 1)) none ∙ spare (epoch_at (mutator w t) - 1) w.config.registers w.config.log_entries
  ]

  logs : sum_by (log_share h f) w.mutators ≡ 0
  logs = none_of (log_share h f) w.mutators nobody (λ i below.
      let at : i + 1 - 1 ≡ i = omega arith in
      subst (λ n. log_share h f (slice_index_or w.mutators n nobody) ≡ 0) at (log_none (i + 1) (number i below)))

  boxes : sum_by (box_share h f) (zip w.mutators w.boxes) ≡ 0
  boxes = zip_sum-none (box_share h f) w.mutators w.boxes nobody (blank 0 0) (λ i below there.
      let at : i + 1 - 1 ≡ i = omega arith in
      subst (λ n. box_share h f (slice_index_or w.mutators n nobody, slice_index_or w.boxes n (blank 0 0)) ≡ 0) at (box_none (i + 1) (number i below)))

  row_none : (epoch : ℕ) (row : List Buffer) → epoch ≢ applied_in w → sum_by (share h f epoch) row ≡ 0
  row_none epoch row other = none_of (share h f epoch) row (blank 0 0) (λ i below. apart epoch (slice_index_or row i (blank 0 0)) other)

  abbrev newer_sum : ℕ
  newer_sum = sum_by (share h f (w.epoch - 1)) w.collector.newer

  abbrev older_sum : ℕ
  older_sum = sum_by (share h f (older_at w.epoch w.collector.phase)) w.collector.older

  abbrev last_share : ℕ
  last_share = sum_by (share h f (applied_in w)) (last_batch w.collector)

  gathered : (phase : Phase) → w.collector.phase ≡ phase → has_batched phase ≡ false → applied_at w.epoch phase ≡ w.epoch - 2 → older_at w.epoch phase ≡ w.epoch - 2 → under_way phase ≡ 1 → newer_sum + older_sum ≡ last_share
  gathered phase is waits at before way =
      let epoch : applied_in w ≡ w.epoch - 2 = ap (applied_at w.epoch) is ∙ at in
      let under : under_way w.collector.phase ≡ 1 = ap under_way is ∙ way in
      let older : older_at w.epoch w.collector.phase ≡ applied_in w = ap (older_at w.epoch) is ∙ before ∙ sym epoch in
      let last : last_batch w.collector ≡ w.collector.older = ap (λ p. if has_batched p then w.collector.newer else w.collector.older) is ∙ ap (λ b. if b then w.collector.newer else w.collector.older) waits in
      omega (arith, row_none (w.epoch - 1) w.collector.newer (omega (arith, epoch, some_epoch w kept, under)), ap (λ e. sum_by (share h f e) w.collector.older) older, ap (sum_by (share h f (applied_in w))) last)

  worked : (phase : Phase) → w.collector.phase ≡ phase → has_batched phase ≡ true → applied_at w.epoch phase ≡ w.epoch - 1 → older_at w.epoch phase ≡ w.epoch - 2 → under_way phase ≡ 1 → newer_sum + older_sum ≡ last_share
  worked phase is works at before way =
      let epoch : applied_in w ≡ w.epoch - 1 = ap (applied_at w.epoch) is ∙ at in
      let under : under_way w.collector.phase ≡ 1 = ap under_way is ∙ way in
      let older : older_at w.epoch w.collector.phase ≡ w.epoch - 2 = ap (older_at w.epoch) is ∙ before in
      let last : last_batch w.collector ≡ w.collector.newer = ap (λ p. if has_batched p then w.collector.newer else w.collector.older) is ∙ ap (λ b. if b then w.collector.newer else w.collector.older) works in
      omega (
        arith,
        row_none (older_at w.epoch w.collector.phase) w.collector.older (omega (arith, older, epoch, some_epoch w kept, under)),
        ap (λ e. sum_by (share h f e) w.collector.newer) epoch,
        ap (sum_by (share h f (applied_in w))) last,
      )

  rows : (phase : Phase) → w.collector.phase ≡ phase → newer_sum + older_sum ≡ last_share
  rows Idle is =
      let epoch : older_at w.epoch w.collector.phase ≡ applied_in w = ap (older_at w.epoch) is ∙ sym (ap (applied_at w.epoch) is) in
      let last : last_batch w.collector ≡ w.collector.older = ap (λ p. if has_batched p then w.collector.newer else w.collector.older) is in
      let none : newer_sum ≡ 0 = none_of (share h f (w.epoch - 1)) w.collector.newer (blank 0 0) (λ i below. ap (share h f (w.epoch - 1)) ((now_at w Idle kept is).1 i (omega arith) below) ∙ spare (w.epoch - 1) w.collector.registers w.collector.capacity) in
      omega (arith, none, ap (λ e. sum_by (share h f e) w.collector.older) epoch, ap (sum_by (share h f (applied_in w))) last)
  rows (Looking t) is = gathered (Looking t) is refl refl refl refl
  rows (Swapping t) is = gathered (Swapping t) is refl refl refl refl
  rows (Returning t) is = gathered (Returning t) is refl refl refl refl
  rows phase is = worked phase is refl refl refl refl

  -- all that weighs something stands in the buffers of the last batch
  dated_sum : sum_by h (flat_map f (buffers w)) ≡ sum_by (share h f (applied_in w)) (last_batch w.collector)
  dated_sum = omega (arith, buffers_sum h f w, logs, boxes, rows w.collector.phase refl)

-- a row has a buffer that weighs something
some_in : (g : Buffer → ℕ) (row : List Buffer) → 0 < sum_by g row → (i : ℕ) × (i < length row) × (0 < g (buffer_at row i))
some_in g [] some = absurd (omega arith)
some_in g (b ∷ row) some = elim (cases_eq (g b) 0) [
  | inl none ↦ (let (i, below, weighs) = some_in g row (omega (arith, some, none, sum_by-cons g b row)) in (suc i, omega (arith, below), weighs))
  | inr here ↦ (0, omega arith, omega (arith, here))
]

other_epoch : (epoch node e n : ℕ) (leaf : Bool) → epoch ≢ e → is_at epoch node (dated_birth e n leaf) ≡ 0
other_epoch epoch node e n leaf apart = grind (arith, nat_tests)

other_node : (epoch node e n : ℕ) (leaf : Bool) → n ≢ node → is_at epoch node (dated_birth e n leaf) ≡ 0
other_node epoch node e n leaf apart = grind (arith, nat_tests)

same_at : (epoch node : ℕ) (leaf : Bool) → is_at epoch node (dated_birth epoch node leaf) ≡ 1
same_at epoch node leaf = grind (arith, nat_tests)

-- ---- births

births_apart : (epoch node e : ℕ) (es : List Entry) → epoch ≢ e → sum_by (is_at epoch node) (births_in e es) ≡ 0
births_apart epoch node e [] apart = refl
births_apart epoch node e (entries.Put place new old ∷ es) apart = births_apart epoch node e es apart
births_apart epoch node e (entries.Born slot leaf ∷ es) apart =
    omega (arith, sum_by-cons (is_at epoch node) (dated_birth e (slot + 1) leaf) (births_in e es), other_epoch epoch node e (slot + 1) leaf apart, births_apart epoch node e es apart)

born_in : (epoch node e : ℕ) (es : List Entry) → 0 < sum_by (is_at epoch node) (births_in e es) → (slot : ℕ) × (leaf : Bool) × Contains es (entries.Born slot leaf) × (slot + 1 ≡ node)
born_in epoch node e [] some = absurd (omega arith)
born_in epoch node e (entries.Put place new old ∷ es) some =
    let (slot, leaf, c, is) = born_in epoch node e es some in
    (slot, leaf, Contains-append_right (entries.Put place new old ∷ []) es (entries.Born slot leaf) c, is)
born_in epoch node e (entries.Born s l ∷ es) some = elim (cases_eq (s + 1) node) [
  | inl same ↦ (s, l, (0, omega arith, refl), same)
  | inr other ↦
      let (slot, leaf, c, is) = born_in epoch node e es (omega (arith, some, sum_by-cons (is_at epoch node) (dated_birth e (s + 1) l) (births_in e es), other_node epoch node e (s + 1) l other)) in
      (slot, leaf, Contains-append_right (entries.Born s l ∷ []) es (entries.Born slot leaf) c, is)
]

pub birth_stands : (w : Core) (d : Dated) → IsKept true w → Contains (births_of w) d → d.epoch ≡ applied_in w → (slot : ℕ) × (leaf : Bool) × StandsIn (last_batch w.collector) (entries.Born slot leaf) × (slot + 1 ≡ d.node)
birth_stands w d kept c at =
    let h : Dated → ℕ = is_at d.epoch d.node in
    let sums : sum_by h (births_of w) ≡ sum_by (share h tells_births (applied_in w)) (last_batch w.collector)
    = dated_sum w kept tells_births h (λ epoch b other. births_apart d.epoch d.node epoch b.entries (λ same. other (sym same ∙ at))) (λ epoch registers capacity. refl) in
    let (i, below, weighs) = some_in (share h tells_births (applied_in w)) (last_batch w.collector) (omega (arith, weighs_in h (births_of w) d c, same_at d.epoch d.node d.leaf, sums)) in
    let (slot, leaf, there, is) = born_in d.epoch d.node (applied_in w) (buffer_at (last_batch w.collector) i).entries weighs in
    (slot, leaf, (i, below, there), is)

-- ---- snapshots

names_apart : (epoch node e : ℕ) (xs : List (Option ℕ)) → epoch ≢ e → sum_by (is_at epoch node) (dated_names e xs) ≡ 0
names_apart epoch node e [] apart = refl
names_apart epoch node e (None ∷ xs) apart = names_apart epoch node e xs apart
names_apart epoch node e (Some x ∷ xs) apart =
    omega (arith, sum_by-cons (is_at epoch node) (dated e (x + 1)) (dated_names e xs), other_epoch epoch node e (x + 1) false apart, names_apart epoch node e xs apart)

names_blank : (h : Dated → ℕ) (e registers : ℕ) → sum_by h (dated_names e (replicate registers None)) ≡ 0
names_blank h e zero = refl
names_blank h e (suc registers) = names_blank h e registers

named_in : (epoch node e : ℕ) (xs : List (Option ℕ)) → 0 < sum_by (is_at epoch node) (dated_names e xs) → is_in node (map register_number xs) ≡ true
named_in epoch node e [] some = absurd (omega arith)
named_in epoch node e (None ∷ xs) some = or_right (0 == node) (is_in node (map register_number xs)) (named_in epoch node e xs some)
named_in epoch node e (Some x ∷ xs) some = elim (cases_eq (x + 1) node) [
  | inl same ↦ or_left (x + 1 == node) (is_in node (map register_number xs)) (eq-eqb (x + 1) node same)
  | inr other ↦
      or_right (x + 1 == node) (is_in node (map register_number xs))
      (named_in epoch node e xs (omega (arith, some, sum_by-cons (is_at epoch node) (dated e (x + 1)) (dated_names e xs), other_node epoch node e (x + 1) false other)))
]

pub name_stands : (w : Core) (d : Dated) → IsKept true w → Contains (snapshots_of w) d → d.epoch ≡ applied_in w
    → (i : ℕ) × (i < length (last_batch w.collector)) × (is_in d.node (map register_number (buffer_at (last_batch w.collector) i).snapshot) ≡ true)
name_stands w d kept c at =
    let h : Dated → ℕ = is_at d.epoch d.node in
    let one : h d ≡ 1 = of_one d.epoch d.node in
    let sums : sum_by h (snapshots_of w) ≡ sum_by (share h tells_names (applied_in w)) (last_batch w.collector)
    = dated_sum w kept tells_names h (λ epoch b other. names_apart d.epoch d.node epoch b.snapshot (λ same. other (sym same ∙ at))) (λ epoch registers capacity. names_blank h epoch registers) in
    let (i, below, weighs) = some_in (share h tells_names (applied_in w)) (last_batch w.collector) (omega (arith, weighs_in h (snapshots_of w) d c, one, sums)) in
    (i, below, named_in d.epoch d.node (applied_in w) (buffer_at (last_batch w.collector) i).snapshot weighs)
  where
    of_one : (epoch node : ℕ) → is_at epoch node (record { epoch = epoch; node = node; leaf = d.leaf }) ≡ 1
    of_one epoch node = same_at epoch node d.leaf

-- ---- the lines of the batch, with bare words

-- a snapshot of the buffers has its line
pub snapshot_from : (t : ℕ) (bs : List Buffer) (i : ℕ) → i < length bs → (n : ℕ) × Contains (flat_map part (enumerate_from t bs)) (snap_line n (buffer_at bs i).snapshot)
snapshot_from t [] i below = absurd (omega arith)
snapshot_from t (b ∷ bs) zero below =
    (t, Contains-append_left (part_lines t b) (flat_map part (enumerate_from (t + 1) bs)) (snap_line t b.snapshot) (Contains-append_right (map (entry_line t) b.entries) (snap_line t b.snapshot ∷ []) (snap_line t b.snapshot) (0, omega arith, refl)))
snapshot_from t (b ∷ bs) (suc i) below =
    let more = snapshot_from (t + 1) bs i (omega arith) in
    (more.0, Contains-append_right (part_lines t b) (flat_map part (enumerate_from (t + 1) bs)) (snap_line more.0 (buffer_at bs i).snapshot) more.1)

bare_there : (es : List Entry) (e : Entry) → Contains es e → Contains (map (entry_by bare) es) (entry_by bare e)
bare_there [] e c = absurd (let below = c.1 in omega arith)
bare_there (x ∷ es) e (zero, below, there) = (0, omega arith, ap (entry_by bare) there)
bare_there (x ∷ es) e (suc k, below, there) = Contains-append_right (entry_by bare x ∷ []) (map (entry_by bare) es) (entry_by bare e) (bare_there es e (k, omega arith, there))

stands_bare : (row : List Buffer) (e : Entry) → StandsIn row e → StandsIn (bare_buffers row) (entry_by bare e)
stands_bare row e (i, below, c) =
    (i, omega (arith, below, rows_many row), subst (λ (b : Buffer). Contains b.entries (entry_by bare e)) (sym (buffer_bare row i)) (bare_there (buffer_at row i).entries e c))

-- a line behind the first
behind_first : (e l : Line) (ls : List Line) → Contains ls l → Contains (e ∷ ls) l
behind_first e l ls c = Contains-append_right (e ∷ []) ls l c

-- The batch that was applied is the last one, and of its epoch.
tells_last : (w : Core) (epoch : ℕ) (newer : List Buffer) → IsKept true w → epoch ≡ applied_in w → last_batch w.collector ≡ newer → TellEpoch w epoch (batch_lines (Some (record { epoch = epoch; newer = bare_buffers newer })))
tells_last w epoch newer kept at last = record {
  writes = λ x c is.
      let own : StandsIn newer (entries.Put x.place x.new x.old) = subst (λ row. StandsIn row (entries.Put x.place x.new x.old)) last (write_stands w x kept c (is ∙ at)) in
      let line = entry_has_line (bare_buffers newer) (entries.Put x.place (bare x.new) (bare x.old)) (stands_bare newer (entries.Put x.place x.new x.old) own) in
      (line.0, behind_first e (entry_line line.0 (entries.Put x.place (bare x.new) (bare x.old))) ls line.1);
  births = λ d c is.
      let (slot, leaf, stands, node) = birth_stands w d kept c (is ∙ at) in
      let own : StandsIn newer (entries.Born slot leaf) = subst (λ row. StandsIn row (entries.Born slot leaf)) last stands in
      let line = entry_has_line (bare_buffers newer) (entries.Born slot leaf) (stands_bare newer (entries.Born slot leaf) own) in
      (line.0, slot, behind_first e (entry_line line.0 (entries.Born slot leaf)) ls line.1, sym node);
  held = λ d c is.
      let (i, below, named) = name_stands w d kept c (is ∙ at) in
      let within : i < length newer = subst (λ (row : List Buffer). i < length row) last below in
      let own : is_in d.node (map register_number (buffer_at newer i).snapshot) ≡ true = subst (λ row. is_in d.node (map register_number (buffer_at row i).snapshot) ≡ true) last named in
      let line = snapshot_from 1 (bare_buffers newer) i (omega (arith, within, rows_many newer)) in
      let same : (buffer_at (bare_buffers newer) i).snapshot ≡ (buffer_at newer i).snapshot = ap (λ (b : Buffer). b.snapshot) (buffer_bare newer i) in
      (line.0, map register_number (buffer_at newer i).snapshot, behind_first e _ ls (subst (λ xs. Contains ls (snap_line line.0 xs)) same line.1), own);
}
  where
    e : Line
    e = line_of kinds.Epoch (epoch ∷ [])

    ls : List Line
    ls = parts_lines (bare_buffers newer)

-- ---- a turn

module _ (w : Core) (op : Op) (kept : IsKept true w) (named : ◌≡◌ {A = Option Op} (next_of w.collector) (Some op)) (still : IsKept true (turned_by w op (cell (cells_of w) op))) where
  open (parts_of_turn w op) use {q, v}
  open (one_turn w op kept named still) use {s, shown}

  turned_applies : (d : Batch) → batch_of op q ≡ Some d → (d.epoch ≡ applied_in v) × (last_batch v.collector ≡ d.newer)
  turned_applies d is =
      let made : batch_made s ≡ Some d = sym shown ∙ is in
      let placed : Placed w.collector (Some d) q = subst (λ (x : Option Batch). Placed w.collector x q) made (step_placed (begun w kept) s) in
      let its : IsBatchOf w.collector d = step_batch (begun w kept) (none_crossed w op kept named) s d made in
      let at_v : applied_at q.epoch q.phase ≡ applied_in v = ap (λ e. applied_at e q.phase) still.collector.epoch in
      (omega (arith, at_v, placed.next, its.next), placed.last)

told_at : (u : Core) (step : Shown) (batch : Batch) → IsKept true u → turn_shown (bare_core u) ≡ step ∷ [] → step.batch ≡ Some batch → Behind (turned (bare_core u)) (λ v. TellEpoch v batch.epoch (batch_lines (Some batch)))
told_at u step batch kept shown applied = go (next_of u.collector) refl
  where
    go : (o : Option Op) → ◌≡◌ {A = Option Op} (next_of u.collector) o → Behind (turned (bare_core u)) (λ v. TellEpoch v batch.epoch (batch_lines (Some batch)))
    go None named =
        let none : turn_shown (bare_core u) ≡ [] = ap (λ (o : Option Op). shown_behind (turned (bare_core u)) (seen_at (bare_core u) o)) (collecting.next_bare u.collector ∙ named) in
        absurd (let no : [] ≡ step ∷ [] = sym none ∙ shown in cc)
    go (Some op) named =
        let word : ℕ = cell (cells_of u) op in
        let x : Core = turned_by u op word in
        let is : turned u ≡ x = ap (turned_at u) named in
        let still : IsKept true x = subst (IsKept true) is (move_kept u Move.Turns kept tt) in
        let its : Shown = shown_of op (bare_in (cell_of op) word) (collectors_bare.bare_private x.collector) in
        let bare_is : turn_shown (bare_core u) ≡ its ∷ [] = shown_bare u op kept named ∙ ap (λ (y : Core). shown_of op (bare_in (cell_of op) word) (collectors_bare.bare_private y.collector) ∷ []) is in
        let both : step ∷ [] ≡ its ∷ [] = sym shown ∙ bare_is in
        let same : step ≡ its = cc in
        let made : option_map bare_batch (batch_of op x.collector) ≡ Some batch = sym (batch_is op x.collector) ∙ (ap (λ (y : Shown). y.batch) (sym same) ∙ applied) in
        (x, ap bare_core (sym is) ∙ turned_behind u (bare_core u) (record { bare = refl; kept = kept }), by x still (batch_of op x.collector) (turned_applies u op kept named still) made)
      where
        by : (x : Core) → IsKept true x → (its : Option Batch) → ((d : Batch) → its ≡ Some d → (d.epoch ≡ applied_in x) × (last_batch x.collector ≡ d.newer)) → option_map bare_batch its ≡ Some batch → TellEpoch x batch.epoch (batch_lines (Some batch))
        by x still None applies made = absurd (cc)
        by x still (Some d) applies made =
            let same : bare_batch d ≡ batch = cc in
            let (epoch, last) = applies d refl in
            subst (λ (y : Batch). TellEpoch x y.epoch (batch_lines (Some y))) same (tells_last x d.epoch d.newer still epoch last)

pub epoch_told : (config : Config) (moves : List Move) (step : Shown) (batch : Batch) → IsConfig config → AllFit (opened config) moves → turn_shown (after_moves (opened config) moves) ≡ step ∷ [] → step.batch ≡ Some batch
    → Behind (turned (after_moves (opened config) moves)) (λ v. TellEpoch v batch.epoch (batch_lines (Some batch)))
epoch_told config moves step batch is fit shown applied =
    let all = moves_explained (heap_by true config) (opened config) moves (first_explained config is) fit in
    let u : Core = after_moves (heap_by true config) moves in
    let e : Explains u (after_moves (opened config) moves) = all.1 in
    subst (λ (w : Core). Behind (turned w) (λ v. TellEpoch v batch.epoch (batch_lines (Some batch)))) e.bare (told_at u step batch e.kept (ap turn_shown e.bare ∙ shown) applied)
