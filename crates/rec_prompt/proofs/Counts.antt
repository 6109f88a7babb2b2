-- Between two collections each slot has a count. Where every buffer is clean of a slot, its count is the number of fields that name it.
-- So a field leads to it.
use Rattle.std.proofs.Common.{◌≡◌, inl, inr, ℕ, suc, ◌+◌, ◌-◌, ◌<◌, ◌≤◌, ◌==◌, nat_le, nat_lt, if◌then◌else◌, count_by, true, List, [], ◌∷◌, Option, None, Some, length, slice_index_or, refl, sym, ap, subst, ◌∙◌, arith}
use Rattle.std.specs.List.{sum_by, flat_map}
use Rattle.std.proofs.lemmas.Bool.{cases_eq, cases_lt, ne_eqb}
use Rattle.std.proofs.lemmas.List.Sums.{sum_by-cons, sum_by-le-sum_by}
use Rattle.rec_core.proofs.Common.{target_of, is_node, is_at, is_from, replaces_from, puts_after, names, is_slot, one_if_same, only_if, only_if-le, none_if_differs, node_of, epoch_of, dated, Write, sum_at, IsTaken, Contents, buffer_at, Idle, IsMutator, Core, box, mutator, nobody, sight, IsKept, Filed, writes_in, births_in, dated_names, older_at, epoch_at, buffers, pending, slot_at, Slot, writes_of, births_of, snapshots_of}
use Rattle.rec_collector.specs.Kept.{under_way}
use Rattle.rec_collector.specs.Private as collectors
use Rattle.rec_collector.proofs.Following.{none_released}
use Rattle.rec_core.proofs.Batches.{none_of, same_word}
use Rattle.rec_core.proofs.Steps.{slot_there, taken_slot}
use Rattle.rec_core.proofs.Sums.{share, log_share, box_share, buffers_sum, zip_sum-none}
use Rattle.rec_core.proofs.Turns.{now_at}
use Rattle.rec_prompt.specs.Lost.{fields_to}
use Rattle.rec_prompt.proofs.Begun.{begun, between}
use Rattle.rec_prompt.proofs.Forgets.{counted, Forgets, IsClean, node_leads, spare_clean}

-- a snapshot that doesn't name the slot has nothing of it
snapshot_none : (slot epoch : ℕ) (xs : List (Option ℕ)) → ((r : ℕ) → slice_index_or xs r None ≡ Some slot → ⊥) → sum_by (is_node (slot + 1)) (dated_names epoch xs) ≡ 0
snapshot_none slot epoch [] none = refl
snapshot_none slot epoch (None ∷ xs) none = snapshot_none slot epoch xs (λ r. none (suc r))
snapshot_none slot epoch (Some m ∷ xs) none =
    omega (
      arith,
      sum_by-cons (is_node (slot + 1)) (dated epoch (m + 1)) (dated_names epoch xs),
      none_if_differs (slot + 1) (m + 1) (λ e. none 0 (let same : m ≡ slot = omega (arith, e) in ap Some same)),
      snapshot_none slot epoch xs (λ r. none (suc r)),
    )

-- every buffer is clean of the slot
pub record AreClean (slot : ℕ) (v : Core) : Type 0 where
  pub logs : (i : ℕ) → i < length v.mutators → IsClean slot (slice_index_or v.mutators i nobody).log
  pub boxes : (i : ℕ) → i < length v.mutators → IsClean slot (slice_index_or v.boxes i (collectors.blank 0 0))
  pub newer : (i : ℕ) → i < length v.collector.newer → IsClean slot (buffer_at v.collector.newer i)
  pub older : (i : ℕ) → i < length v.collector.older → IsClean slot (buffer_at v.collector.older i)

-- then what has no weight in a clean buffer has none in all of them
buffers_none : {Y : Type 0} (g : Y → ℕ) (f : Filed → List Y) (slot : ℕ) (v : Core) → ((epoch : ℕ) (b : Contents) → IsClean slot b → share g f epoch b ≡ 0) → AreClean slot v → sum_by g (flat_map f (buffers v)) ≡ 0
buffers_none g f slot v none c = omega (
  arith,
  buffers_sum g f v,
  none_of (log_share g f) v.mutators nobody (λ i below. none (epoch_at (slice_index_or v.mutators i nobody)) (slice_index_or v.mutators i nobody).log (c.logs i below)),
  zip_sum-none (box_share g f) v.mutators v.boxes nobody (collectors.blank 0 0) (λ i below there. none (epoch_at (slice_index_or v.mutators i nobody) - 1) (slice_index_or v.boxes i (collectors.blank 0 0)) (c.boxes i below)),
  none_of (share g f (v.epoch - 1)) v.collector.newer (collectors.blank 0 0) (λ i below. none (v.epoch - 1) (buffer_at v.collector.newer i) (c.newer i below)),
  none_of (share g f (older_at v.epoch v.collector.phase)) v.collector.older (collectors.blank 0 0) (λ i below. none (older_at v.epoch v.collector.phase) (buffer_at v.collector.older i) (c.older i below)),
)

-- what weighs something has an element that does
pub some_at : (f : ℕ → ℕ → ℕ) (xs : List ℕ) → 0 < sum_at f xs → (place : ℕ) × (0 < f place (slice_index_or xs place 0))
some_at f [] some = absurd (omega (arith, some))
some_at f (x ∷ xs) some = elim (cases_lt 0 (f 0 x)) [
  | inl here ↦ (0, here)
  | inr none ↦ let rest = some_at (λ k. f (suc k)) xs (omega (arith, some, none)) in (suc rest.0, rest.1)
]

-- a word that is counted for a slot leads to it
pub counted_leads : (word slot : ℕ) → 0 < one_if_same (slot + 1) (node_of word) → target_of word ≡ Some slot
counted_leads word slot some = elim (cases_eq (slot + 1) (node_of word)) [
  | inl same ↦ node_leads word slot (sym same)
  | inr other ↦ absurd (omega (arith, some, none_if_differs (slot + 1) (node_of word) other))
]

-- how many words lead to a slot
fields_named : (slot : ℕ) (words : List ℕ) → sum_at (names (slot + 1)) words ≡ count_by (λ word. is_slot slot (target_of word)) words
fields_named slot [] = refl
fields_named slot (word ∷ words) = omega (arith, same_word slot word, fields_named slot words, sum_by-cons (λ word. if is_slot slot (target_of word) then 1 else 0) word words)

-- Between two collections, once the buffers are late enough, a field leads to each slot that is lost and isn't freed.
module _ (late : ℕ) (first : Core) (lost : ℕ → Type 0) (v : Core) (kept : IsKept true v) (idle : v.collector.phase ≡ Idle) (f : Forgets late first lost v) (past : late + 1 ≤ counted v) (slot : ℕ) (gone : lost slot) where
  way : under_way v.collector.phase ≡ 0
  way = ap under_way idle

  of_mutator : (i : ℕ) → i < length v.mutators → IsMutator v.config (i + 1)
  of_mutator i below = let many : length v.mutators ≡ v.config.mutators = kept.mutators.many in (omega arith, omega (arith, below, many))

  of_log : (t : ℕ) → IsMutator v.config t → IsClean slot (mutator v t).log
  of_log t is = elim (between v t kept idle is) [
    | inl now ↦ f.logs t slot is (omega (arith, now, past, begun v kept, way)) gone
    | inr spare ↦ spare_clean slot v.config (mutator v t).log spare.0
  ]

  of_box : (t : ℕ) → IsMutator v.config t → IsClean slot (box v t)
  of_box t is = elim (between v t kept idle is) [
    | inl now ↦ f.boxes t slot is (omega (arith, now, past, begun v kept, way)) gone
    | inr spare ↦ spare_clean slot v.config (box v t) spare.1
  ]

  pub clean : AreClean slot v
  clean = record {
    logs = λ i below. let at : i + 1 - 1 ≡ i = omega arith in subst (λ n. IsClean slot (slice_index_or v.mutators n nobody).log) at (of_log (i + 1) (of_mutator i below));
    boxes = λ i below. let at : i + 1 - 1 ≡ i = omega arith in subst (λ n. IsClean slot (slice_index_or v.boxes n (collectors.blank 0 0))) at (of_box (i + 1) (of_mutator i below));
    newer = λ i below. f.newer i slot below (omega (arith, past)) gone;
    older = λ i below. f.older i slot below past gone;
  }

  replaced_none : sum_by (replaces_from (pending v).applied (slot + 1)) (writes_of v) ≡ 0
  replaced_none = omega (
    arith,
    sum_by-le-sum_by (replaces_from (pending v).applied (slot + 1)) (λ (e : Write). one_if_same (slot + 1) (node_of e.old)) (writes_of v) (λ e. only_if-le (nat_le (pending v).applied (epoch_of e.new)) (one_if_same (slot + 1) (node_of e.old))),
    buffers_none (λ (e : Write). one_if_same (slot + 1) (node_of e.old)) (λ (b : Filed). writes_in b.buffer.entries) slot v (λ epoch b c. c.replaced) clean,
  )

  puts_none : sum_by (puts_after (pending v).applied (slot + 1)) (writes_of v) ≡ 0
  puts_none = omega (
    arith,
    sum_by-le-sum_by (puts_after (pending v).applied (slot + 1)) (λ (e : Write). one_if_same (slot + 1) (node_of e.new)) (writes_of v) (λ e. only_if-le (nat_lt (pending v).applied (epoch_of e.new)) (one_if_same (slot + 1) (node_of e.new))),
    buffers_none (λ (e : Write). one_if_same (slot + 1) (node_of e.new)) (λ (b : Filed). writes_in b.buffer.entries) slot v (λ epoch b c. c.put) clean,
  )

  births_none : sum_by (is_from (pending v).applied (slot + 1)) (births_of v) ≡ 0
  births_none = omega (
    arith,
    sum_by-le-sum_by (is_from (pending v).applied (slot + 1)) (is_node (slot + 1)) (births_of v) (λ d. only_if-le (nat_le (pending v).applied d.epoch) (one_if_same (slot + 1) d.node)),
    buffers_none (is_node (slot + 1)) (λ (b : Filed). births_in b.epoch b.buffer.entries) slot v (λ epoch b c. c.births epoch) clean,
  )

  snapshots_none : sum_by (is_at (pending v).applied (slot + 1)) (snapshots_of v) ≡ 0
  snapshots_none = omega (
    arith,
    sum_by-le-sum_by (is_at (pending v).applied (slot + 1)) (is_node (slot + 1)) (snapshots_of v) (λ d. only_if-le ((pending v).applied == d.epoch) (one_if_same (slot + 1) d.node)),
    buffers_none (is_node (slot + 1)) (λ (b : Filed). dated_names b.epoch b.buffer.snapshot) slot v (λ epoch b c. snapshot_none slot epoch b.snapshot c.snapshot) clean,
  )

  -- it holds an object, and has a count
  below : slot < v.config.slots
  below = taken_slot v kept slot (f.taken slot gone)

  has_count : 0 < (slot_at v.collector.counts slot).count
  has_count =
      let rest = (now_at v Idle kept idle).0 in
      let many : length v.collector.counts.slots ≡ v.config.slots = kept.collector.slots in
      rest.counted slot (none_released rest slot (omega (arith, below, many)))

  taken_none : only_if ((pending v).free (slot + 1)) 1 ≡ 0
  taken_none =
      let at : slot + 1 - 1 ≡ slot = omega arith in
      let taken : IsTaken (sight v) slot = f.taken slot gone in
      ap (λ b. only_if b 1) (ap (λ n. slice_index_or v.headers n 0 == 0) at ∙ ne_eqb (slice_index_or v.headers slot 0) 0 (λ e. omega (arith, taken, e)))

  counted_names : (slot_at v.collector.counts slot).count ≡ sum_at (names (slot + 1)) v.words
  counted_names = omega (
    arith,
    kept.accounted.ledger (slot + 1) (omega arith),
    ap (λ (s : Slot). s.count) (slot_there v kept slot below),
    puts_none,
    replaced_none,
    births_none,
    snapshots_none,
    taken_none,
  )

  -- its count is the number of fields that lead to it
  pub counted_fields : (slot_at v.collector.counts slot).count ≡ fields_to (sight v) slot
  counted_fields = counted_names ∙ fields_named slot v.words

  pub led_to : (place : ℕ) × (target_of (slice_index_or v.words place 0) ≡ Some slot)
  led_to = let some = some_at (names (slot + 1)) v.words (omega (arith, counted_names, has_count)) in (some.0, counted_leads (slice_index_or v.words some.0 0) slot some.1)
