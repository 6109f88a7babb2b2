-- What the steps of every run keep, so that their journal is in form.
use Rattle.std.proofs.Common.{◌≡◌, ℕ, ◌+◌, ◌-◌, ◌*◌, ◌^◌, ◌<◌, ◌≤◌, if◌then◌else◌, Bool, true, false, Option, None, Some, IfSome, List, [], ◌∷◌, ◌++◌, length, get_or, refl, sym, ap, subst, ◌∙◌, arith, map, zero, suc}
use Rattle.std.specs.List.{All, Contains}
use Rattle.std.proofs.lemmas.List.{get_or_default}
use Rattle.std.proofs.lemmas.List.Elements.{Contains-append_right, Contains-get_or}
use Rattle.rec_word.specs.Bare.{bare}
use Rattle.rec_word.specs.Word.{stamp_of}
use Rattle.rec_word.specs.declared.stamps.Stamp.{Stamp}
use Rattle.rec_log.specs.Words.{entry_by}
use Rattle.rec_word.specs.declared.op.Op.{Op}
use Rattle.rec_word.specs.declared.op.Op.TheVariants as ops
use Rattle.rec_model.specs.Pending.{epoch_of}
use Rattle.rec_log.specs.declared.contents.Contents.{Contents}
use Rattle.rec_log.specs.declared.entry.Entry.{Entry}
use Rattle.rec_log.specs.declared.entry.Entry.TheVariants as entries
use Rattle.rec_collector.specs.Bare.{bare_private}
use Rattle.rec_collector.specs.Kept.{under_way}
use Rattle.rec_collector.proofs.Bare.{buffer_bare}
use Rattle.rec_collector.proofs.BareKept.{rows_many}
use Rattle.rec_collector.specs.Next.{is_spent, next_at, next_of}
use Rattle.rec_collector.specs.Private.{Private, blank}
use Rattle.rec_collector.specs.Shown.{Batch, Shown, batch_made, batch_of, completed_in, completed_of, passed_in, passed_of}
use Rattle.rec_collector.specs.Step.{NamesWord, Step}
use Rattle.rec_collector.specs.Took.{step_of, turn_of}
use Rattle.rec_collector.specs.declared.phase.Phase.{Phase}
use Rattle.rec_collector.specs.declared.phase.Phase.TheVariants.{Freeing, Idle, Looking, Returning, Swapping}
use Rattle.rec_collector.specs.declared.turn.Turn.{Turn}
use Rattle.rec_collector.proofs.Always.{names_word}
use Rattle.rec_collector.proofs.ShownSteps.{shown_as_made}
use Rattle.rec_core.specs.Cells.{cell}
use Rattle.rec_core.specs.Config.{IsConfig, IsMutator}
use Rattle.rec_core.specs.Bare.{bare_core}
use Rattle.rec_core.specs.Core.{Core, box, cells_of, heap_by, opened}
use Rattle.rec_core.specs.Kept.{IsKept}
use Rattle.rec_core.specs.Kept as of_core
use Rattle.rec_audit.specs.Logged.{HasOwnBuffers, IsOwnBuffer, IsOwnEntry}
use Rattle.rec_core.specs.Moves.{AllFit, Fits, Move, after_move, after_moves, looked_at, turned, turned_by}
use Rattle.rec_core.specs.Pending.{applied_at, has_batched}
use Rattle.rec_core.specs.Shown.{Shows, shown_behind, shown_in, shown_over, turn_shown}
use Rattle.rec_core.specs.Turn.{seen_at}
use Rattle.rec_core.specs.declared.config.Config.{Config}
use Rattle.rec_core.proofs.PlainWords.{CrossesNone, none_crossed}
use Rattle.rec_core.proofs.Freed.{shown_is_within}
use Rattle.rec_audit.proofs.LoggedTurns.{move_own, opened_own}
use Rattle.rec_core.proofs.BareRuns.{explained, given_is, move_kept, opened_kept, rule_of}
use Rattle.rec_core.proofs.Dated.{Explains, move_explained}
use Rattle.rec_core.proofs.Opened as dated_opened
use Rattle.rec_audit.proofs.Stamped.{IsStamped, move_stamped, opened_stamped, stamp_is}
use Rattle.rec_core.proofs.Runs.{move_stays}
use Rattle.rec_core.proofs.Turning.{turn_case}
use Rattle.rec_audit.specs.Form.{AreHeapNumbers}
use Rattle.rec_audit.specs.Journal.{heap_numbers, register_number}
use Rattle.rec_audit.specs.Keeping.{IsBatchOf, IsBufferOf, IsEntryOf, Keep, KeepsBatch, KeepsCompleted, KeepsOp, KeepsPassed, Place, behind_step, behind_steps, first_place, with_batch, with_end}
use Rattle.rec_audit.specs.Runs.{heap_for, place_of}
use Rattle.rec_audit.specs.declared.form.Heap.{Heap}
use Rattle.rec_core.proofs.Turns.{now_at}
use Rattle.rec_audit.proofs.Rising.{AreStamped, AreStampedEntries, IsStampedBatch, IsStampedEntry, IsStampedIn, stamp_number}
use Rattle.rec_audit.proofs.Placing.{HasBegun, Placed, step_placed, worked_in}
use Rattle.rec_audit.proofs.ByStamps.{bare_stamp}

-- ---- the order

-- words come out of fields, and slots are swept, while a batch is worked on
clears_works : (p : Private) (phase : Phase) (place : ℕ) → ◌≡◌ {A = Option Op} (next_at p phase) (Some (ops.ClearField place)) → has_batched phase ≡ true
unfolding next_at
clears_works p Idle place named = absurd (not_so (is_spent p) named)
  where
    not_so : (b : Bool) → ◌≡◌ {A = Option Op} (if b then None else Some (ops.StoreEpoch (p.epoch + 1))) (Some (ops.ClearField place)) → ⊥
    not_so true e = cc
    not_so false e = cc
clears_works p (Looking t) place named = absurd (cc)
clears_works p (Swapping t) place named = absurd (cc)
clears_works p (Returning t) place named = absurd (cc)
clears_works p _ place named = refl

frees_works : (p : Private) (phase : Phase) (slot : ℕ) → ◌≡◌ {A = Option Op} (next_at p phase) (Some (ops.FreeHeader slot)) → has_batched phase ≡ true
unfolding next_at
frees_works p Idle slot named = absurd (not_so (is_spent p) named)
  where
    not_so : (b : Bool) → ◌≡◌ {A = Option Op} (if b then None else Some (ops.StoreEpoch (p.epoch + 1))) (Some (ops.FreeHeader slot)) → ⊥
    not_so true e = cc
    not_so false e = cc
frees_works p (Looking t) slot named = absurd (cc)
frees_works p (Swapping t) slot named = absurd (cc)
frees_works p (Returning t) slot named = absurd (cc)
frees_works p _ slot named = refl

-- a set that passed is freed from then on
passed_works : (p : Private) (phase : Phase) (members : List ℕ) → passed_in p phase ≡ Some members → worked_in phase ≡ true
passed_works p (Freeing m) members is = refl
passed_works p _ members is = absurd (cc)

-- the end of a collection
completes : (at : Place) (q : Private) → at.next ≡ applied_at q.epoch q.phase + 1 → at.working ≡ worked_in q.phase → 1 ≤ q.epoch → (q.phase ≡ Idle → completed_of q ≡ Some (q.epoch - 1)) → KeepsCompleted at (completed_of q) × (with_end at (completed_of q) ≡ place_of q)
completes at q next working some between = go q.phase refl
  where
    stays : (phase : Phase) → q.phase ≡ phase → worked_in phase ≡ has_batched phase → at ≡ place_of q
    stays phase is same =
        let make : ℕ → Bool → Place = λ n b. record { next = n; working = b } in
        ap (λ n. make n at.working) next ∙ ap (make (applied_at q.epoch q.phase + 1)) (working ∙ ap worked_in is ∙ same ∙ ap has_batched (sym is))

    go : (phase : Phase) → q.phase ≡ phase → KeepsCompleted at (completed_in q phase) × (with_end at (completed_in q phase) ≡ place_of q)
    go Idle is =
        let make : ℕ → Bool → Place = λ n b. record { next = n; working = b } in
        subst (λ o. KeepsCompleted at o × (with_end at o ≡ place_of q)) (sym (between is) ∙ ap (completed_in q) is)
        ((working ∙ ap worked_in is, sym (next ∙ ap (λ f. applied_at q.epoch f + 1) is)), ap (λ n. make n false) next ∙ ap (make (applied_at q.epoch q.phase + 1)) (ap has_batched (sym is)))
    go (Looking t) is = (tt, stays (Looking t) is refl)
    go (Swapping t) is = (tt, stays (Swapping t) is refl)
    go (Returning t) is = (tt, stays (Returning t) is refl)
    go phase is = (tt, stays phase is refl)

-- ---- the ranges

entry_of : (config : Config) (t index : ℕ) (entry : Entry) → IsOwnEntry config t index entry → IsEntryOf (heap_for config) entry
entry_of config t index (entries.Put place new old) own = (own.within, record { leads = own.puts.leads; fits = own.puts.fits }, record { leads = own.finds.leads; fits = own.finds.fits })
entry_of config t index (entries.Born slot leaf) own = own

buffer_of : (config : Config) (t : ℕ) (b : Contents) → IsOwnBuffer config t b → length b.snapshot ≡ config.registers → IsBufferOf (heap_for config) b
buffer_of config t b own many = record {
  entries = λ k d below. entry_of config t k (get_or b.entries k d) (own.entries k d below);
  registers = many;
  held = λ k d below. subst (λ x. register_number x ≤ config.slots) (get_or_default b.snapshot k None d below) (held (get_or b.snapshot k None) (λ slot is. own.held k slot is));
}
  where
    held : (x : Option ℕ) → ((slot : ℕ) → x ≡ Some slot → slot < config.slots) → register_number x ≤ config.slots
    held None below = omega arith
    held (Some slot) below = let h : slot < config.slots = below slot refl in omega arith

buffers_of : (w : Core) → IsKept false w → HasOwnBuffers w → All (IsBufferOf (heap_for w.config)) w.collector.newer
buffers_of w kept own k d below =
    let many : length w.collector.newer ≡ w.config.mutators = kept.collector.mutators in
    let is : IsMutator w.config (k + 1) = (omega arith, omega arith) in
    let at : k + 1 - 1 ≡ k = omega arith in
    let b : Contents = get_or w.collector.newer (k + 1 - 1) (blank 0 0) in
    let same : b ≡ get_or w.collector.newer k d = ap (λ n. get_or w.collector.newer n (blank 0 0)) at ∙ get_or_default w.collector.newer k (blank 0 0) d below in
    subst (IsBufferOf (heap_for w.config)) same (buffer_of w.config (k + 1) b (own.newer (k + 1) is) (kept.collector.newer (k + 1) is).snapshot)

-- ---- a turn

pub begun : {dated : Bool} → (w : Core) → IsKept dated w → HasBegun w.collector
begun w kept =
    let some : 1 ≤ w.config.first_epoch = kept.config.some_epoch in
    let all : w.config.first_epoch + w.collector.collections + under_way w.collector.phase ≡ w.epoch = kept.collector.begun in
    let same : w.collector.epoch ≡ w.epoch = kept.collector.epoch in
    omega arith

batch_keeps : (w : Core) (q : Private) (word : ℕ) (b : Contents) (op : Op) (turn : Turn) → IsKept false w → HasOwnBuffers w → CrossesNone w.collector word → (s : Step w.collector word b (Some op) q turn) → KeepsBatch (heap_for w.config) (place_of w.collector) (batch_made s)
batch_keeps w q word b op turn kept own none = go
  where
    some : 1 + under_way w.collector.phase ≤ w.collector.epoch
    some = begun w kept

    last : w.collector.epoch < 2 ^ 24
    last = kept.collector.machine.epoch

    of : (epoch : ℕ) → epoch ≡ (place_of w.collector).next → epoch < 2 ^ 24 → IsBatchOf (heap_for w.config) (place_of w.collector).next (record { epoch = epoch; newer = w.collector.newer })
    of epoch same small = record { next-is = same; fits = omega (arith, same, small); all = kept.collector.mutators; buffers = buffers_of w kept own }

    go : (s : Step w.collector word b (Some op) q turn) → KeepsBatch (heap_for w.config) (place_of w.collector) (batch_made s)
    go (Step.spent idle most is same answer) = tt
    go (Step.request next idle more is present g) = tt
    go (Step.request_alone idle more is alone on) =
        let next : w.collector.epoch ≡ w.collector.epoch - 1 + 1 = omega (arith, some) in
        (ap has_batched idle, of w.collector.epoch (next ∙ ap (λ f. applied_at w.collector.epoch f + 1) (sym idle)) last)
    go (Step.wait t looks other is same answer) = tt
    go (Step.gather t looks word_is is g) = tt
    go (Step.cross_for t next looks crosses is present g) = tt
    go (Step.cross_for_last t looks crosses is left on) = absurd (none t _ looks crosses)
    go (Step.give_back t next returning is present g) = tt
    go (Step.apply t returning is left on) =
        let one : under_way w.collector.phase ≡ 1 = ap under_way returning in
        let next : w.collector.epoch - 1 ≡ w.collector.epoch - 2 + 1 = omega (arith, some, one) in
        (ap has_batched returning, of (w.collector.epoch - 1) (next ∙ ap (λ f. applied_at w.collector.epoch f + 1) (sym returning)) (omega (arith, last)))
    go (Step.release m releasing is on) = tt
    go (Step.freeing m freeing is on) = tt
    go (Step.trial m trying is on) = tt
    go (Step.preparation m preparing is on) = tt
    go (Step.begin_sweep opening is g) = tt
    go (Step.sweep due swept u phase sweeping is which next g) = tt
    go (Step.end_sweep swept closing is e) = tt

-- a write with bare words is one with words
record BareWrite (es : List Entry) (place new old : ℕ) : Type 0 where
  dated_new : ℕ
  dated_old : ℕ
  listed : Contains es (entries.Put place dated_new dated_old)
  same : bare dated_new ≡ new

bare_write : (es : List Entry) (place new old : ℕ) → Contains (map (entry_by bare) es) (entries.Put place new old) → BareWrite es place new old
bare_write [] place new old c = absurd (let below = c.1 in omega arith)
bare_write (e ∷ es) place new old (suc k, below, there) =
    let rest = bare_write es place new old (k, omega arith, there) in
    record { dated_new = rest.dated_new; dated_old = rest.dated_old; listed = Contains-append_right (e ∷ []) es (entries.Put place rest.dated_new rest.dated_old) rest.listed; same = rest.same }
bare_write (entries.Put p n o ∷ es) place new old (zero, below, there) =
    let at : p ≡ place = cc in
    let is : bare n ≡ new = cc in
    record { dated_new = n; dated_old = o; listed = (0, omega arith, ap (λ k. entries.Put k n o) at); same = is }
bare_write (entries.Born slot leaf ∷ es) place new old (zero, below, there) = absurd (cc)

-- the writes that the collector gathered have stamps of their epoch, as the heap of dated words behind tells
stamps_there : (v : Core) → IsKept true v → IsStamped v → (k : ℕ) → k < length v.collector.newer → (place new old : ℕ) → Contains (get_or (bare_core v).collector.newer k (blank 0 0)).entries (entries.Put place new old) → (stamp_of new).epoch ≡ v.collector.epoch - 1
unfolding epoch_of
stamps_there v kept stamped k below place new old c =
    let at : k + 1 - 1 ≡ k = omega arith in
    let many : length v.collector.newer ≡ v.config.mutators = kept.collector.mutators in
    let is : IsMutator v.config (k + 1) = (omega arith, omega arith) in
    let its = bare_write (get_or v.collector.newer k (blank 0 0)).entries place new old (subst (λ (b : Contents). Contains b.entries (entries.Put place new old)) (buffer_bare v.collector.newer k) c) in
    let buffer : of_core.IsBufferOf true v.config (v.epoch - 1) (get_or v.collector.newer k (blank 0 0)) = subst (λ n. of_core.IsBufferOf true v.config (v.epoch - 1) (get_or v.collector.newer n (blank 0 0))) at (kept.collector.newer (k + 1) is) in
    let made : epoch_of its.dated_new ≡ v.epoch - 1 = subst (of_core.IsMadeIn (v.epoch - 1)) its.listed.2 (buffer.made its.listed.0 (entries.Put place its.dated_new its.dated_old) its.listed.1) in
    let dated : epoch_of its.dated_new ≡ (stamp_of its.dated_new).epoch = stamp_is v place its.dated_new its.dated_old stamped (k, below, its.listed) in
    ap (λ n. (stamp_of n).epoch) (sym its.same) ∙ (ap (λ (x : Stamp). x.epoch) (bare_stamp its.dated_new) ∙ (sym dated ∙ (made ∙ ap (λ n. n - 1) (sym kept.collector.epoch))))

-- the words of a batch have the stamps of its epoch
stamped_buffer : (w : Core) (t epoch : ℕ) (b : Contents) → IsKept false w → IsMutator w.config t → IsOwnBuffer w.config t b → of_core.IsBufferOf false w.config epoch b
    → ((place new old : ℕ) → Contains b.entries (entries.Put place new old) → (stamp_of new).epoch ≡ epoch) → AreStampedEntries epoch t b.entries
stamped_buffer w t epoch b kept is own buffer made index d below = go (get_or b.entries index d) refl (own.entries index d below)
  where
    few : index < 2 ^ 18
    few =
        let room : b.capacity ≡ w.config.log_entries = buffer.capacity in
        let some : length b.entries ≤ b.capacity = buffer.few in
        let most : w.config.log_entries ≤ 262143 = kept.config.few_log_entries in
        omega (arith, below)

    go : (entry : Entry) → get_or b.entries index d ≡ entry → IsOwnEntry w.config t index entry → IsStampedEntry epoch t index entry
    go (entries.Put place new old) here o =
        let at : (stamp_of new).epoch ≡ epoch = made place new old (subst (Contains b.entries) here (Contains-get_or b.entries index d below)) in
        (ap (λ e. stamp_number e (stamp_of new).writer (stamp_of new).index) at ∙ ap (λ n. stamp_number epoch n (stamp_of new).index) o.writer ∙ ap (stamp_number epoch t) o.number, few)
    go (entries.Born slot leaf) here o = tt

batch_stamped : (w v : Core) (q : Private) (word : ℕ) (b : Contents) (op : Op) (turn : Turn) → IsKept false w → HasOwnBuffers w → Explains v w → IsStamped v → CrossesNone w.collector word → (s : Step w.collector word b (Some op) q turn) → IsStampedIn (batch_made s)
batch_stamped w v q word b op turn kept own e stamped none = go
  where
    many : length w.collector.newer ≤ 63
    many = (let all : length w.collector.newer ≡ w.config.mutators = kept.collector.mutators in let most : w.config.mutators ≤ 63 = kept.config.few_mutators in omega arith)

    -- nothing was gathered
    idle_ones : w.collector.phase ≡ Idle → IsStampedBatch (record { epoch = w.collector.epoch; newer = w.collector.newer })
    idle_ones idle k d below =
        let spare : get_or w.collector.newer k d ≡ blank w.collector.registers w.collector.capacity = get_or_default w.collector.newer k d (blank 0 0) below ∙ (now_at w Idle kept idle).1 k (omega arith) below in
        subst (λ (x : Contents). AreStampedEntries w.collector.epoch (k + 1) x.entries) (sym spare) (λ index e none. absurd (omega arith))

    its : (k : ℕ) → k < length w.collector.newer → (place new old : ℕ) → Contains (get_or w.collector.newer k (blank 0 0)).entries (entries.Put place new old) → (stamp_of new).epoch ≡ w.collector.epoch - 1
    its = subst (λ (u : Core). (k : ℕ) → k < length u.collector.newer → (place new old : ℕ) → Contains (get_or u.collector.newer k (blank 0 0)).entries (entries.Put place new old) → (stamp_of new).epoch ≡ u.collector.epoch - 1) e.bare
        (λ k below. stamps_there v e.kept stamped k (subst (λ n. k < n) (rows_many v.collector.newer) below))

    gathered : IsStampedBatch (record { epoch = w.collector.epoch - 1; newer = w.collector.newer })
    gathered k d below =
        let all : length w.collector.newer ≡ w.config.mutators = kept.collector.mutators in
        let is : IsMutator w.config (k + 1) = (omega arith, omega arith) in
        let at : k + 1 - 1 ≡ k = omega arith in
        let c : Contents = get_or w.collector.newer (k + 1 - 1) (blank 0 0) in
        let same : c ≡ get_or w.collector.newer k d = ap (λ n. get_or w.collector.newer n (blank 0 0)) at ∙ get_or_default w.collector.newer k (blank 0 0) d below in
        let epoch : w.collector.epoch ≡ w.epoch = kept.collector.epoch in
        subst (λ (x : Contents). AreStampedEntries (w.collector.epoch - 1) (k + 1) x.entries) same
        (stamped_buffer w (k + 1) (w.collector.epoch - 1) c kept is (own.newer (k + 1) is) (subst (λ e. of_core.IsBufferOf false w.config (e - 1) c) (sym epoch) (kept.collector.newer (k + 1) is)) (its (k + 1 - 1) (omega (arith, below))))

    go : (s : Step w.collector word b (Some op) q turn) → IsStampedIn (batch_made s)
    go (Step.spent idle most is same answer) = tt
    go (Step.request next idle more is present g) = tt
    go (Step.request_alone idle more is alone on) = (idle_ones idle, many)
    go (Step.wait t looks other is same answer) = tt
    go (Step.gather t looks word_is is g) = tt
    go (Step.cross_for t next looks crosses is present g) = tt
    go (Step.cross_for_last t looks crosses is left on) = absurd (none t _ looks crosses)
    go (Step.give_back t next returning is present g) = tt
    go (Step.apply t returning is left on) = (gathered, many)
    go (Step.release m releasing is on) = tt
    go (Step.freeing m freeing is on) = tt
    go (Step.trial m trying is on) = tt
    go (Step.preparation m preparing is on) = tt
    go (Step.begin_sweep opening is g) = tt
    go (Step.sweep due swept u phase sweeping is which next g) = tt
    go (Step.end_sweep swept closing is e) = tt

op_keeps : (w : Core) (q : Private) (op : Op) → IsKept false w → HasOwnBuffers w → ◌≡◌ {A = Option Op} (next_of w.collector) (Some op) → NamesWord (length w.collector.counts.slots) w.collector.fields (length w.collector.newer) op
    → KeepsOp (heap_for w.config) (with_batch (place_of w.collector) (batch_of op q)) op (cell (cells_of w) op)
unfolding next_of
op_keeps w q (ops.ClearField place) kept own named names = λ some. (
  clears_works w.collector w.collector.phase place named,
  subst (λ n. place < n * w.config.fields) kept.collector.slots (subst (λ n. place < length w.collector.counts.slots * n) kept.collector.fields names),
  record { leads = (own.words place).leads; fits = (own.words place).fits },
)
op_keeps w q (ops.FreeHeader slot) kept own named names = (frees_works w.collector w.collector.phase slot named, subst (λ n. slot < n) kept.collector.slots names)
op_keeps w q _ kept own named names = tt

pub passed_same : (q : Private) (phase : Phase) → passed_in (bare_private q) phase ≡ passed_in q phase
passed_same q (Freeing m) = refl
passed_same q _ = refl

passed_keeps : (v : Core) (at : Place) → IsKept false v → at.working ≡ worked_in v.collector.phase → (passed : Option (List ℕ)) → passed_of v.collector ≡ passed → KeepsPassed (heap_for v.config) at passed
passed_keeps v at kept working None is = tt
passed_keeps v at kept working (Some members) is =
    let (u, e) = explained v kept in
    let passed : passed_of u.collector ≡ Some members = sym (passed_same u.collector u.collector.phase) ∙ (ap (λ (x : Core). passed_of x.collector) e.bare ∙ is) in
    let within = subst (λ (x : Core). (0 < length members) × All (λ slot. slot < x.config.slots) members) e.bare (shown_is_within u members e.kept passed) in
    (working ∙ passed_works v.collector v.collector.phase members is, within.0, within.1)

-- Steps keep what they have to, and this is where they lead.
pub record KeepTo (heap : Heap) (at : Place) (shown : List Shown) (to : Place) : Type 0 where
  pub keep : Keep heap at shown
  pub stamped : AreStamped shown
  pub ends : behind_steps at shown ≡ to

turn_keeps : (w v : Core) → IsKept false w → HasOwnBuffers w → Explains v w → IsStamped v → KeepTo (heap_for w.config) (place_of w.collector) (turn_shown w) (place_of (turned w).collector)
turn_keeps w behind kept own e stamped =
    turn_case w (λ o v. IsKept false v → v.config ≡ w.config → IfSome o (NamesWord (length w.collector.counts.slots) w.collector.fields (length w.collector.newer)) → KeepTo (heap_for w.config) (place_of w.collector) (shown_behind v (seen_at w o)) (place_of v.collector))
    (λ none still config names. record { keep = tt; stamped = tt; ends = refl })
    by
    (move_kept w Move.Turns kept tt) (move_stays w Move.Turns) (names_word w.collector kept.collector.machine)
  where
    by : (op : Op) → ◌≡◌ {A = Option Op} (next_of w.collector) (Some op) → IsKept false (turned_by w op (cell (cells_of w) op)) → (turned_by w op (cell (cells_of w) op)).config ≡ w.config
        → NamesWord (length w.collector.counts.slots) w.collector.fields (length w.collector.newer) op
        → KeepTo (heap_for w.config) (place_of w.collector) (shown_behind (turned_by w op (cell (cells_of w) op)) (seen_at w (Some op))) (place_of (turned_by w op (cell (cells_of w) op)).collector)
    by op named still config names =
        let word : ℕ = cell (cells_of w) op in
        let b : Contents = box w (looked_at w.collector.phase) in
        let q : Private = step_of w.collector word b in
        let s : Step w.collector word b (Some op) q (turn_of w.collector word) = rule_of w op kept named in
        let made = shown_as_made w.collector q word b op (turn_of w.collector word) s kept.collector.machine (given_is w op kept named) in
        let at : Place = with_batch (place_of w.collector) (batch_of op q) in
        let placed : Placed w.collector (batch_of op q) q = subst (λ (x : Option Batch). Placed w.collector x q) (sym made.batch) (step_placed (begun w kept) s) in
        let some : 1 + under_way q.phase ≤ q.epoch = begun (turned_by w op word) still in
        let end = completes at q placed.next placed.working (omega (arith, some)) made.between in
        record {
          keep = (
            record {
              batch = subst (KeepsBatch (heap_for w.config) (place_of w.collector)) (sym made.batch) (batch_keeps w q word b op (turn_of w.collector word) kept own (none_crossed w op kept named) s);
              op = op_keeps w q op kept own named names;
              passed = passed_keeps (turned_by w op word) at still placed.working (passed_of q) refl;
              completed = end.0;
            },
            tt,
          );
          stamped = (subst IsStampedIn (sym made.batch) (batch_stamped w behind q word b op (turn_of w.collector word) kept own e stamped (none_crossed w op kept named) s), tt);
          ends = end.1;
        }

-- ---- moves

keep_none : (heap : Heap) (at : Place) → KeepTo heap at [] at
keep_none heap at = record { keep = tt; stamped = tt; ends = refl }

keep_both : (heap : Heap) (at between to : Place) (first later : List Shown) → KeepTo heap at first between → KeepTo heap between later to → KeepTo heap at (first ++ later) to
keep_both heap at between to [] later a b = subst (λ x. KeepTo heap x later to) (sym a.ends) b
keep_both heap at between to (x ∷ first) later a b =
    let rest : KeepTo heap (behind_step at x) (first ++ later) to = keep_both heap (behind_step at x) between to first later (record { keep = a.keep.1; stamped = a.stamped.1; ends = a.ends }) b in
    record { keep = (a.keep.0, rest.keep); stamped = (a.stamped.0, rest.stamped); ends = rest.ends }

moves_keep : (w v : Core) (ms : List Move) → IsKept false w → HasOwnBuffers w → Explains v w → IsStamped v → AllFit w ms → KeepTo (heap_for w.config) (place_of w.collector) (shown_over w ms) (place_of (after_moves w ms).collector)
moves_keep w behind [] kept own e stamped fit = keep_none (heap_for w.config) (place_of w.collector)
moves_keep w behind (m ∷ ms) kept own e stamped fit =
    let v : Core = after_move w m in
    let still : IsKept false v = move_kept w m kept fit.0 in
    let next = move_explained behind w m e fit.0 in
    let rest : KeepTo (heap_for w.config) (place_of v.collector) (shown_over v ms) (place_of (after_moves v ms).collector)
    = subst (λ config. KeepTo (heap_for config) (place_of v.collector) (shown_over v ms) (place_of (after_moves v ms).collector)) (move_stays w m) (moves_keep v (after_move behind m) ms still (move_own w m kept fit.0 own) next.1 (move_stamped behind m e.kept next.0 stamped) fit.1) in
    keep_both (heap_for w.config) (place_of w.collector) (place_of v.collector) (place_of (after_moves v ms).collector) _ (shown_over v ms) (first m fit.0) rest
  where
    first : (m : Move) → Fits w m → KeepTo (heap_for w.config) (place_of w.collector) (shown_in w m) (place_of (after_move w m).collector)
    first (Move.Begins t work from) fits = keep_none (heap_for w.config) (place_of w.collector)
    first (Move.Steps t) fits = keep_none (heap_for w.config) (place_of w.collector)
    first Move.Turns fits = turn_keeps w behind kept own e stamped
    first Move.Offers fits = keep_none (heap_for w.config) (place_of w.collector)

-- ---- from an opening on

pub run_keeps : (config : Config) (shown : List Shown) (end : Core) → IsConfig config → Shows (opened config) shown end → KeepTo (heap_for config) (first_place (heap_for config)) shown (place_of end.collector)
run_keeps config shown end is s =
    let all : KeepTo (heap_for config) (place_of (opened config).collector) (shown_over (opened config) s.moves) (place_of (after_moves (opened config) s.moves).collector) = moves_keep (opened config) (heap_by true config) s.moves (opened_kept config is) (opened_own config is) (record { bare = dated_opened.heap_bare config is; kept = dated_opened.opened_kept config is }) (opened_stamped config is) s.fit in
    let some : 1 ≤ config.first_epoch = is.some_epoch in
    let next : config.first_epoch - 1 + 1 ≡ config.first_epoch = omega arith in
    let first : place_of (opened config).collector ≡ first_place (heap_for config) = (let make : ℕ → Place = λ n. record { next = n; working = false } in ap make next) in
    subst (λ v. KeepTo (heap_for config) (first_place (heap_for config)) shown (place_of v.collector)) s.ends
    (subst (λ xs. KeepTo (heap_for config) (first_place (heap_for config)) xs (place_of (after_moves (opened config) s.moves).collector)) (sym s.is)
    (subst (λ at. KeepTo (heap_for config) at (shown_over (opened config) s.moves) (place_of (after_moves (opened config) s.moves).collector)) first all))

-- the numbers of a heap are those that a journal may tell
pub are_numbers : (config : Config) → IsConfig config → AreHeapNumbers (heap_numbers (heap_for config))
are_numbers config is = record {
  five = refl;
  slots = record { some = is.some_slots; most = is.few_slots };
  fields = record { some = is.some_fields; most = is.few_fields };
  registers = record { some = is.some_registers; most = is.few_registers };
  mutators = record { some = is.some_mutators; most = is.few_mutators };
  first = record { some = is.some_epoch; most = is.few_epochs };
}
