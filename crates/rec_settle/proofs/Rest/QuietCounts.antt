-- In a heap at rest each count is the number of fields and registers that name the slot, once the batch of an epoch without writes is
-- applied.
use Rattle.std.proofs.Common.{◌≡◌, ◌⊎◌, inl, inr, ℕ, ◌+◌, ◌-◌, ◌<◌, ◌≤◌, ◌==◌, if◌then◌else◌, Bool, true, false, List, [], Option, None, Some, length, slice_index_or, refl, sym, ap, ◌∙◌, arith}
use Rattle.std.specs.List.{sum_by}
use Rattle.std.proofs.lemmas.Bool.{cases_eq, eq-eqb, false≢true, ne_eqb}
use Rattle.std.proofs.lemmas.List.{get_or_default}
use Rattle.rec_core.proofs.Common.{target_of, is_slot, names, IsAccounted, node_of, Dated, is_at, only_if, one_if_same, sum_at, sum_by-map, sum_at_same, one_if_self, none_if_differs, Contents, State, slot_at, one, Slot, named, Private, blank, buffer_at, Begun, has_left, Phase, Idle, Opening, IsMutator, Core, sight, mutator, box, spare_of, nobody, IsBufferOf, HasMutators, Handshake, stand_at, stand_in, IsHandshake, IsKept, IsKeptBy, Filed, code, dated_names, older_at, applied_at, epoch_at, pending, snapshots_of}
use Rattle.rec_settle.specs.Resting.{holds, AreCounted}
use Rattle.rec_settle.specs.Settling.{leading, heap_sum}
use Rattle.rec_model.specs.Reach.{named as named_slots}
use Rattle.rec_collector.specs.Kept.{under_way}
use Rattle.rec_settle.specs.Quiet.{IsRetired, AreQuiet, AreGathered}
use Rattle.rec_core.proofs.Actors.{idle_here, left_let_go}
use Rattle.rec_core.proofs.Batches.{none_of}
use Rattle.rec_core.proofs.Counts.{accounts_with, counted_slot}
use Rattle.rec_core.proofs.Landed.{landed_pending, HasLanded}
use Rattle.rec_core.proofs.Moves.{code_target}
use Rattle.rec_settle.proofs.Rest.QuietSums.{by_place, mutator_at, snapshot_by, same_rows, AreSilent, IsSilent, silent_sums, null_names, other_names, own_names}
use Rattle.rec_core.proofs.Sums.{log_share, buffers_sum}
use Rattle.rec_core.proofs.Turns.{its_spare, now_at, spare_boxes, spare_row, snapshots_nothing}

-- a word that names the node of a slot leads to it
same_word : (x word : ℕ) → one_if_same (x + 1) (node_of word) ≡ leading x word
same_word x word = ap (one_if_same (x + 1)) (sym (code_target word)) ∙ same_name (target_of word)
  where
    same_name : (target : Option ℕ) → one_if_same (x + 1) (code target) ≡ one (is_slot x target)
    same_name None = none_if_differs (x + 1) 0 (λ e. omega arith)
    same_name (Some y) = elim (cases_eq x y) [
      | inl is ↦ ap (λ n. one_if_same (x + 1) (n + 1)) (sym is) ∙ one_if_self (x + 1) ∙ sym (ap one (eq-eqb x y is))
      | inr other ↦ none_if_differs (x + 1) (y + 1) (λ e. other (omega arith)) ∙ sym (ap one (ne_eqb x y other))
    ]

-- so of all words of a heap
heap_named : (words : List ℕ) (x : ℕ) → sum_at (names (x + 1)) words ≡ heap_sum words x
heap_named words x = sum_at_same (names (x + 1)) (λ place word. leading x word) words (λ place word. same_word x word)

-- a free slot counts as one
free_one : (w : Core) (x : ℕ) → x < length w.headers → only_if (slice_index_or w.headers (x + 1 - 1) 0 == 0) 1 ≡ one (slice_index_or w.headers x 1 == 0)
free_one w x below =
    let at : x + 1 - 1 ≡ x = omega arith in
    let header : slice_index_or w.headers (x + 1 - 1) 0 ≡ slice_index_or w.headers x 1 = ap (λ n. slice_index_or w.headers n 0) at ∙ get_or_default w.headers x 0 1 below in
    ap (λ n. only_if (n == 0) 1) header ∙ same (slice_index_or w.headers x 1 == 0)
  where
    same : (b : Bool) → only_if b 1 ≡ one b
    same true = refl
    same false = refl

-- how often all registers name a slot
abbrev registers_named : Core → (x : ℕ) → ℕ
registers_named w x = sum_by (λ (p : Private). named x p.registers) w.mutators

-- With these words and counts, and the batch of this epoch applied, a count is read off the ledger, where nothing but snapshots is left
-- to count.
ledger_count : (w : Core) (words : List ℕ) (s : State) (applied x : ℕ) → IsAccounted (record (accounts_with (pending w) words s) { applied = applied }) → AreSilent w applied
    → sum_by (is_at applied (x + 1)) (snapshots_of w) ≡ registers_named w x → x < length w.headers → x < length s.slots → (slot_at s x).count ≡ heap_sum words x + holds (sight w) x
ledger_count w words s applied x accounted silent snapshots header slot =
    omega (
      arith,
      accounted.ledger (x + 1) (omega arith),
      ap (λ (v : Slot). v.count) (counted_slot s x slot),
      free_one w x header,
      silent_sums w applied (x + 1) silent,
      snapshots,
      heap_named words x,
      sum_by-map (named x) (λ (q : Private). q.registers) w.mutators,
    )

-- a mutator at rest that has crossed, or that has left: its log is empty, and its mailbox home with a spare
record IsHome (w : Core) (i : ℕ) : Type 0 where
  entries : (mutator_at w i).log.entries ≡ []
  unwritten : named_slots (mutator_at w i).log.snapshot ≡ []
  spare : buffer_at w.boxes i ≡ spare_of w.config

-- the turn of a mutator that stands so is over, or it has left
abbrev IsOver : Handshake → Type 0
IsOver stand = (stand ≡ Handshake.Done) ⊎ (stand ≡ Handshake.Gone)

-- so it is where no mailbox is to be gathered
pub stands_over : (left : List Bool) (phase : Phase) (t : ℕ) → stand_in phase t ≡ Handshake.Done → IsOver (stand_at left phase t)
stands_over left phase t done = elim (has_left left t) as (λ (b : Bool). IsOver (if b then Handshake.Gone else stand_in phase t)) [ true ↦ inr refl | false ↦ inl done ]

-- A mutator at rest is home then: the last buffer of one that has left is gathered.
home_of : (first : ℕ) (w : Core) {stands : ℕ → Handshake} {crossing : List ℕ} → HasMutators true w.config w.epoch stands w.mutators crossing w.boxes → ((t : ℕ) → IsOver (stands t))
    → AreQuiet first w → first < w.epoch → (i : ℕ) → i < w.config.mutators → IsHome w i
home_of first w {stands = stands} {crossing = crossing} mutators over quiet early = by_place w.config (IsHome w) (λ t is. go t is (stands t) (over t) (mutators.each t is).handshake)
  where
    go : (t : ℕ) (is : IsMutator w.config t) (stand : Handshake) → IsOver stand → IsHandshake w.config w.epoch (mutator w t) (slice_index_or crossing (t - 1) 0) (box w t) stand → IsHome w (t - 1)
    go t is Handshake.Done _ (inl (crossed, stays, spare)) =
        let epoch : (mutator w t).epoch ≡ w.epoch = crossed.epoch in
        record { entries = (quiet t is).log (omega (arith, epoch, early)); unwritten = (mutators.each t is).unwritten; spare = spare }
    go t is Handshake.Done _ (inr (inl (crosses, parting))) = absurd (false≢true (sym (idle_here (mutator w t).phase (quiet t is).idle) ∙ crosses.phase))
    go t is Handshake.Done _ (inr (inr retired)) = absurd (omega (arith, (quiet t is).gone retired.left, retired.epoch, early))
    go t is Handshake.Held (inl not_so) _ = cc
    go t is Handshake.Held (inr not_so) _ = cc
    go t is Handshake.Due (inl not_so) _ = cc
    go t is Handshake.Due (inr not_so) _ = cc
    go t is Handshake.Gone _ gone =
        let actor = mutators.each t is in
        record { entries = ap (λ (b : Contents). b.entries) (actor.let_go (left_let_go (mutator w t) gone.left)).log; unwritten = actor.unwritten; spare = gone.spare }

-- a heap in which all mutators are home
record AreHome (w : Core) : Type 0 where
  home : (i : ℕ) → i < w.config.mutators → IsHome w i
  mutators : length w.mutators ≡ w.config.mutators
  boxes : length w.boxes ≡ w.config.mutators

-- is silent where the collector's buffers are
home_silent : (w : Core) (since : ℕ) → AreHome w → ((i : ℕ) → i < length w.collector.newer → IsSilent since (w.epoch - 1) (buffer_at w.collector.newer i))
    → ((i : ℕ) → i < length w.collector.older → IsSilent since (older_at w.epoch w.collector.phase) (buffer_at w.collector.older i)) → AreSilent w since
home_silent w since all newer older =
    let mutators : length w.mutators ≡ w.config.mutators = all.mutators in
    let boxes : length w.boxes ≡ w.config.mutators = all.boxes in
    record {
      logs = λ i below. inl (all.home i (omega (arith, mutators, below))).entries;
      boxes = λ i below. inl (ap (λ (b : Contents). b.entries) (all.home i (omega (arith, boxes, below))).spare);
      newer = newer;
      older = older;
    }

-- and no snapshot names anything but those of the collector's buffers
home_snapshots : (w : Core) (g : Dated → ℕ) → AreHome w → sum_by g (snapshots_of w)
    ≡ sum_by (snapshot_by g (w.epoch - 1)) w.collector.newer + sum_by (snapshot_by g (older_at w.epoch w.collector.phase)) w.collector.older
home_snapshots w g all =
    let of_names : Filed → List Dated = λ b. dated_names b.epoch b.buffer.snapshot in
    let mutators : length w.mutators ≡ w.config.mutators = all.mutators in
    let boxes : length w.boxes ≡ w.config.mutators = all.boxes in
    omega (
      arith,
      buffers_sum g of_names w,
      none_of (log_share g of_names) w.mutators nobody (λ i below. null_names g (epoch_at (mutator_at w i)) (mutator_at w i).log (all.home i (omega (arith, mutators, below))).unwritten),
      spare_boxes g of_names w.config w.mutators w.boxes (snapshots_nothing w.config g) (λ i below. (all.home i (omega (arith, boxes, below))).spare),
    )

-- retired buffers of this epoch name what the registers do
retired_names : (w : Core) (epoch x : ℕ) (row : List Contents) → length w.mutators ≡ w.config.mutators → length row ≡ w.config.mutators
    → ((t : ℕ) → IsMutator w.config t → IsBufferOf true w.config epoch (buffer_at row (t - 1))) → ((t : ℕ) → IsMutator w.config t → IsRetired (mutator w t).registers (buffer_at row (t - 1)))
    → sum_by (snapshot_by (is_at epoch (x + 1)) epoch) row ≡ registers_named w x
retired_names w epoch x row many long buffers retired =
    let here : ℕ → Type 0 = λ i. snapshot_by (is_at epoch (x + 1)) epoch (buffer_at row i) ≡ named x (mutator_at w i).registers in
    let each : (i : ℕ) → i < w.config.mutators → here i
    = by_place w.config here (λ t is. own_names w.config epoch x (buffer_at row (t - 1)) (retired t is).entries (buffers t is) ∙ ap (named x) (retired t is).snapshot) in
    same_rows (snapshot_by (is_at epoch (x + 1)) epoch) (λ (p : Private). named x p.registers) row w.mutators (blank 0 0) nobody (long ∙ sym many) (λ i below. each i (omega (arith, long, below)))

-- The batch of an epoch without writes was applied: the newer buffers are its, and the older ones those of the epoch before. So it is
-- with these words and counts, as long as they are accounted for.
pub accounted_count : (first : ℕ) (w : Core) (words : List ℕ) (s : State) {stands standing : ℕ → Handshake} {crossing : List ℕ} → IsKeptBy true stands w → HasMutators true w.config w.epoch standing w.mutators crossing w.boxes → ((t : ℕ) → IsOver (standing t))
    → under_way w.collector.phase ≡ 1 → older_at w.epoch w.collector.phase ≡ w.epoch - 2 → IsAccounted (landed_pending w words s) → length s.slots ≡ w.config.slots → AreQuiet first w → AreGathered w → first < w.epoch → AreCounted w words s
accounted_count first w words s kept mutators over way behind accounted slots quiet done early x below =
    let c = kept.collector in
    let m = kept.mutators in
    let a : ℕ = w.epoch - 1 in
    let o : ℕ = older_at w.epoch w.collector.phase in
    let some : 1 ≤ w.config.first_epoch = kept.config.some_epoch in
    let before : o < a = omega (arith, behind, c.begun, way, some) in
    let newer : length w.collector.newer ≡ w.config.mutators = c.mutators in
    let older : length w.collector.older ≡ w.config.mutators = c.machine.both ∙ newer in
    let headers : length w.headers ≡ w.config.slots = kept.headers in
    let all : AreHome w = record { home = home_of first w mutators over quiet early; mutators = m.many; boxes = m.mailboxes } in
    let retired : (t : ℕ) → IsMutator w.config t → IsRetired (mutator w t).registers (buffer_at w.collector.newer (t - 1)) = λ t is. (quiet t is).newer early (done t is) in
    let newer_silent : (i : ℕ) → i < w.config.mutators → IsSilent a a (buffer_at w.collector.newer i)
    = by_place w.config (λ i. IsSilent a a (buffer_at w.collector.newer i)) (λ t is. inl (retired t is).entries) in
    let older_silent : (i : ℕ) → i < w.config.mutators → IsSilent a o (buffer_at w.collector.older i)
    = by_place w.config (λ i. IsSilent a o (buffer_at w.collector.older i)) (λ t is. inr (before, (c.older t is).made)) in
    let older_none : (i : ℕ) → i < w.config.mutators → snapshot_by (is_at a (x + 1)) o (buffer_at w.collector.older i) ≡ 0
    = by_place w.config (λ i. snapshot_by (is_at a (x + 1)) o (buffer_at w.collector.older i) ≡ 0) (λ t is. other_names w.config a (x + 1) o (buffer_at w.collector.older (t - 1)) before (c.older t is)) in
    let silent : AreSilent w a = home_silent w a all (λ i within. newer_silent i (omega (arith, newer, within))) (λ i within. older_silent i (omega (arith, older, within))) in
    let snapshots : sum_by (is_at a (x + 1)) (snapshots_of w) ≡ registers_named w x
    = omega (
      arith,
      home_snapshots w (is_at a (x + 1)) all,
      none_of (snapshot_by (is_at a (x + 1)) o) w.collector.older (blank 0 0) (λ i within. older_none i (omega (arith, older, within))),
      retired_names w a x w.collector.newer m.many newer c.newer retired,
    ) in
    ledger_count w words s a x accounted silent snapshots (omega (arith, headers, below)) (omega (arith, slots, below))

-- So it is where a turn of the collection has come to.
pub landed_count : (first : ℕ) {w : Core} {crossing words : List ℕ} {b : Begun} → HasLanded w crossing words b → AreQuiet first w → AreGathered w → first < w.epoch → AreCounted w words b.parts.counts
landed_count first {w} {crossing} {words} {b} k quiet done early = accounted_count first w words b.parts.counts k.kept k.mutators (λ t. stands_over w.collector.left Opening t refl) k.way k.older k.accounted k.slots quiet done early

-- Between two collections the older buffers are those of the last batch, and the newer ones spares.
pub idle_count : (first : ℕ) (w : Core) → IsKept true w → AreQuiet first w → w.collector.phase ≡ Idle → first < w.epoch → AreCounted w w.words w.collector.counts
idle_count first w kept quiet idle early x below =
    let c = kept.collector in
    let m = kept.mutators in
    let a : ℕ = applied_at w.epoch w.collector.phase in
    let o : ℕ = older_at w.epoch w.collector.phase in
    let applied : a ≡ w.epoch - 1 = ap (applied_at w.epoch) idle in
    let last : o ≡ w.epoch - 1 = ap (older_at w.epoch) idle in
    let newer : length w.collector.newer ≡ w.config.mutators = c.mutators in
    let older : length w.collector.older ≡ w.config.mutators = c.machine.both ∙ newer in
    let headers : length w.headers ≡ w.config.slots = kept.headers in
    let slots : length w.collector.counts.slots ≡ w.config.slots = c.slots in
    let all : AreHome w = record { home = home_of first w m (λ t. stands_over w.collector.left w.collector.phase t (ap (λ phase. stand_in phase t) idle)) quiet early; mutators = m.many; boxes = m.mailboxes } in
    let spares : (i : ℕ) → i < length w.collector.newer → buffer_at w.collector.newer i ≡ spare_of w.config = λ i within. (now_at w Idle kept idle).1 i (omega arith) within ∙ its_spare c in
    let retired : (t : ℕ) → IsMutator w.config t → IsRetired (mutator w t).registers (buffer_at w.collector.older (t - 1)) = λ t is. (quiet t is).older (omega (arith, last, early)) in
    let older_silent : (i : ℕ) → i < w.config.mutators → IsSilent a o (buffer_at w.collector.older i)
    = by_place w.config (λ i. IsSilent a o (buffer_at w.collector.older i)) (λ t is. inl (retired t is).entries) in
    let silent : AreSilent w a = home_silent w a all (λ i within. inl (ap (λ (b : Contents). b.entries) (spares i within))) (λ i within. older_silent i (omega (arith, older, within))) in
    let of_names : Filed → List Dated = λ b. dated_names b.epoch b.buffer.snapshot in
    let snapshots : sum_by (is_at a (x + 1)) (snapshots_of w) ≡ registers_named w x
    = omega (
      arith,
      home_snapshots w (is_at a (x + 1)) all,
      spare_row (is_at a (x + 1)) of_names w.config (w.epoch - 1) w.collector.newer (snapshots_nothing w.config (is_at a (x + 1))) spares,
      ap (λ e. sum_by (snapshot_by (is_at e (x + 1)) o) w.collector.older) (applied ∙ sym last),
      retired_names w o x w.collector.older m.many older c.older retired,
    ) in
    ledger_count w w.words w.collector.counts a x kept.accounted silent snapshots (omega (arith, headers, below)) (omega (arith, slots, below))
