-- In a heap at rest nothing is left to count, once the batch of an epoch without writes is applied, but what the snapshots name.
use Rattle.std.proofs.Common.{◌≡◌, ◌⊎◌, inl, inr, ℕ, ◌+◌, ◌-◌, ◌<◌, suc, List, [], ◌∷◌, length, map, slice_index_or, refl, ap, subst, arith, true}
use Rattle.std.specs.List.{All, sum_by, zip}
use Rattle.std.proofs.lemmas.Bool.{lt-leb}
use Rattle.std.proofs.lemmas.List.Elements.{All-head, All-tail}
use Rattle.std.proofs.lemmas.List.Sums.{sum_by-cons}
use Rattle.rec_core.proofs.Common.{puts_after, replaces_from, is_from, puts_in, node_of, epoch_of, Write, Dated, dated, is_at, dated_birth, only_if, one_if_same, none_if_not_lt, Contents, Entry, named, new_target, Private, blank, buffer_at, IsMutator, Core, nobody, IsMadeIn, IsBufferOf, Filed, writes_in, births_in, dated_names, older_at, epoch_at, writes_of, births_of}
use Rattle.rec_core.specs.declared.config.Config.{Config}
use Rattle.rec_model.specs.Reach.{named as named_slots}
use Rattle.rec_log.specs.declared.entry.Entry.TheVariants as entries
use Rattle.rec_counts.proofs.Naming.{named-nil}
use Rattle.rec_core.proofs.Batches.{gain_named, gain_none, none_of, sum_parts}
use Rattle.rec_core.proofs.Sums.{share, log_share, box_share, zip_sum-none, buffers_sum}

-- what holds of each mutator, by its place
pub by_place : (config : Config) (P : ℕ → Type 0) → ((t : ℕ) → IsMutator config t → P (t - 1)) → (i : ℕ) → i < config.mutators → P i
by_place config P each i below = let at : i + 1 - 1 ≡ i = omega arith in subst P at (each (i + 1) (omega arith, omega arith))

-- the mutator at a place
abbrev pub mutator_at : Core → (i : ℕ) → Private
mutator_at w i = slice_index_or w.mutators i nobody

-- sums over two rows that agree place by place
pub same_rows : {X Y : Type 0} (f : X → ℕ) (g : Y → ℕ) (xs : List X) (ys : List Y) (d : X) (e : Y) → length xs ≡ length ys
    → ((i : ℕ) → i < length xs → f (slice_index_or xs i d) ≡ g (slice_index_or ys i e)) → sum_by f xs ≡ sum_by g ys
same_rows f g [] [] d e long same = refl
same_rows f g [] (y ∷ ys) d e long same = absurd (omega (arith, long))
same_rows f g (x ∷ xs) [] d e long same = absurd (omega (arith, long))
same_rows f g (x ∷ xs) (y ∷ ys) d e long same =
    let first : f x ≡ g y = same 0 (omega arith) in
    let rest : sum_by f xs ≡ sum_by g ys = same_rows f g xs ys d e (omega (arith, long)) (λ i below. same (suc i) (omega arith)) in
    omega (arith, sum_by-cons f x xs, sum_by-cons g y ys)

-- a buffer of an epoch that has no entries, or whose epoch is before this one
abbrev pub IsSilent : (since epoch : ℕ) → Contents → Type 0
IsSilent since epoch b = (b.entries ≡ []) ⊎ ((epoch < since) × All (IsMadeIn epoch) b.entries)

-- what its entries add and take from this epoch on
abbrev left_by : (since node epoch : ℕ) → List Entry → ℕ
left_by since node epoch es =
    sum_by (puts_after since node) (writes_in es) + sum_by (replaces_from since node) (writes_in es) + sum_by (is_from since node) (births_in epoch es)

-- entries of an earlier epoch add and take nothing
earlier_left : (since node epoch : ℕ) (es : List Entry) → epoch < since → All (IsMadeIn epoch) es → left_by since node epoch es ≡ 0
earlier_left since node epoch [] before made = refl
earlier_left since node epoch (entries.Put place new old ∷ es) before made =
    let write : Write = record { place = place; new = new; old = old } in
    let at : epoch_of new ≡ epoch = All-head (IsMadeIn epoch) (entries.Put place new old) es made in
    let puts : puts_after since node write ≡ 0 = none_if_not_lt since (epoch_of new) (one_if_same node (node_of new)) (omega arith) in
    let replaces : replaces_from since node write ≡ 0 = ap (λ b. only_if b (one_if_same node (node_of old))) (lt-leb since (epoch_of new) (omega arith)) in
    omega (
      arith,
      sum_by-cons (puts_after since node) write (writes_in es),
      sum_by-cons (replaces_from since node) write (writes_in es),
      puts,
      replaces,
      earlier_left since node epoch es before (All-tail (IsMadeIn epoch) (entries.Put place new old) es made),
    )
earlier_left since node epoch (entries.Born slot leaf ∷ es) before made =
    let first : is_from since node (dated_birth epoch (slot + 1) leaf) ≡ 0 = ap (λ b. only_if b (one_if_same node (slot + 1))) (lt-leb since epoch before) in
    omega (arith, sum_by-cons (is_from since node) (dated_birth epoch (slot + 1) leaf) (births_in epoch es), first, earlier_left since node epoch es before (All-tail (IsMadeIn epoch) (entries.Born slot leaf) es made))

-- so of a silent buffer
silent_left : (since node epoch : ℕ) (b : Contents) → IsSilent since epoch b → left_by since node epoch b.entries ≡ 0
silent_left since node epoch b (inl none) = ap (left_by since node epoch) none
silent_left since node epoch b (inr earlier) = earlier_left since node epoch b.entries earlier.0 earlier.1

-- every buffer of the heap is silent
pub record AreSilent (w : Core) (since : ℕ) : Type 0 where
  pub logs : (i : ℕ) → i < length w.mutators → IsSilent since (epoch_at (mutator_at w i)) (mutator_at w i).log
  pub boxes : (i : ℕ) → i < length w.boxes → IsSilent since (epoch_at (mutator_at w i) - 1) (buffer_at w.boxes i)
  pub newer : (i : ℕ) → i < length w.collector.newer → IsSilent since (w.epoch - 1) (buffer_at w.collector.newer i)
  pub older : (i : ℕ) → i < length w.collector.older → IsSilent since (older_at w.epoch w.collector.phase) (buffer_at w.collector.older i)

-- then no write and no birth is left to count
pub silent_sums : (w : Core) (since node : ℕ) → AreSilent w since
    → sum_by (puts_after since node) (writes_of w) + sum_by (replaces_from since node) (writes_of w) + sum_by (is_from since node) (births_of w) ≡ 0
silent_sums w since node silent =
    let of_writes : Filed → List Write = λ b. writes_in b.buffer.entries in
    let of_births : Filed → List Dated = λ b. births_in b.epoch b.buffer.entries in
    let puts : Write → ℕ = puts_after since node in
    let olds : Write → ℕ = replaces_from since node in
    let born : Dated → ℕ = is_from since node in
    let l : ℕ = w.epoch - 1 in
    let o : ℕ = older_at w.epoch w.collector.phase in
    omega (
      arith,
      buffers_sum puts of_writes w,
      buffers_sum olds of_writes w,
      buffers_sum born of_births w,
      sum_parts (λ (p : Private). log_share puts of_writes p + log_share olds of_writes p) (log_share born of_births) w.mutators,
      sum_parts (log_share puts of_writes) (log_share olds of_writes) w.mutators,
      sum_parts (λ (own : Private × Contents). box_share puts of_writes own + box_share olds of_writes own) (box_share born of_births) (zip w.mutators w.boxes),
      sum_parts (box_share puts of_writes) (box_share olds of_writes) (zip w.mutators w.boxes),
      sum_parts (λ (b : Contents). share puts of_writes l b + share olds of_writes l b) (share born of_births l) w.collector.newer,
      sum_parts (share puts of_writes l) (share olds of_writes l) w.collector.newer,
      sum_parts (λ (b : Contents). share puts of_writes o b + share olds of_writes o b) (share born of_births o) w.collector.older,
      sum_parts (share puts of_writes o) (share olds of_writes o) w.collector.older,
      none_of (λ (p : Private). left_by since node (epoch_at p) p.log.entries) w.mutators nobody (λ i below. silent_left since node (epoch_at (mutator_at w i)) (mutator_at w i).log (silent.logs i below)),
      zip_sum-none (λ (own : Private × Contents). left_by since node (epoch_at own.0 - 1) own.1.entries) w.mutators w.boxes nobody (blank 0 0)
          (λ i _ here. silent_left since node (epoch_at (mutator_at w i) - 1) (buffer_at w.boxes i) (silent.boxes i here)),
      none_of (λ (b : Contents). left_by since node l b.entries) w.collector.newer (blank 0 0) (λ i below. silent_left since node l (buffer_at w.collector.newer i) (silent.newer i below)),
      none_of (λ (b : Contents). left_by since node o b.entries) w.collector.older (blank 0 0) (λ i below. silent_left since node o (buffer_at w.collector.older i) (silent.older i below)),
    )

-- what a snapshot of this epoch weighs
abbrev pub snapshot_by : (g : Dated → ℕ) (epoch : ℕ) → Contents → ℕ
snapshot_by g epoch b = sum_by g (dated_names epoch b.snapshot)

-- a snapshot that is null names nothing
pub null_names : (g : Dated → ℕ) (of : ℕ) (b : Contents) → named_slots b.snapshot ≡ [] → snapshot_by g of b ≡ 0
null_names g of b null = ap (λ ns. sum_by g (map (λ slot. dated of (slot + 1)) ns)) null

-- one of another epoch names nothing in this one
pub other_names : (config : Config) (epoch node of : ℕ) (b : Contents) → of < epoch → IsBufferOf true config of b → snapshot_by (is_at epoch node) of b ≡ 0
other_names config epoch node of b before is = omega (arith, gain_none config epoch of node b (λ same. omega (arith, same, before)) is)

-- one of this epoch names what stands in it
pub own_names : (config : Config) (epoch x : ℕ) (b : Contents) → b.entries ≡ [] → IsBufferOf true config epoch b → snapshot_by (is_at epoch (x + 1)) epoch b ≡ named x b.snapshot
own_names config epoch x b none is =
    omega (
      arith,
      gain_named config epoch x b is,
      ap (λ es. sum_by (puts_in epoch (x + 1)) (writes_in es)) none,
      ap (λ es. named x (map new_target es)) none,
      named-nil x,
    )
