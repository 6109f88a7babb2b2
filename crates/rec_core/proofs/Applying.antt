-- The batch: with the last mailbox given back, what the buffers name is counted, and the accounts are those of the next epoch.
use Rattle.std.proofs.Common.{◌≡◌, ◌⊎◌, inl, inr, ℕ, ◌+◌, ◌-◌, ◌*◌, ◌<◌, ◌≤◌, ◌==◌, if◌then◌else◌, Bool, true, List, [], ◌∷◌, ◌++◌, suc, Option, None, Some, length, map, slice_index_or, refl, sym, ap, subst, ◌∙◌, arith}
use Rattle.std.specs.List.{sum_by, zip}
use Rattle.std.proofs.Math.Nat.{suc-mul, mul-le-mul}
use Rattle.std.proofs.lemmas.Bool.{cases_Bool, cases_lt, cond-false, cond-true, eq-eqb, lt-leb}
use Rattle.std.proofs.lemmas.List.{get_or_past, get_or_default}
use Rattle.std.proofs.lemmas.List.Concat.{length-flat_map}
use Rattle.std.proofs.lemmas.List.Sums.{sum_by-cons, sum_by-append}
use Rattle.rec_core.proofs.Common.{is_dead, is_leaf_from, Applies, is_up_to, puts_in, replaces_in, Write, Dated, dated, is_at, sum_by-flat_map, sum_by-map, counts_bounded, only_if, Contents, Entry, State, slot_at, fresh, absent, Slot, Private, Returning, IsMutator, Core, mutator, box, crossing_of, spare_of, nobody, IsActor, IsBufferOf, Handshake, has_left, has_let_go, HasGone, stand_at, IsHandshake, IsKeptBy, Opening, Filed, filed, code, writes_in, births_in, dated_names, dated_all, dated_registers, older_at, applied_at, epoch_at, filed_box, buffers, writes_of, births_of, snapshots_of, registers_of, pending, Config, is_leaf}
use Rattle.rec_model.specs.Moves.{added, taken}
use Rattle.rec_model.proofs.CollectorMoves.{unnamed_uncounted}
use Rattle.rec_model.proofs.Ledgers.{batch_covered}
use Rattle.rec_log.specs.declared.entry.Entry.TheVariants as entries
use Rattle.rec_counts.specs.Batch.{applied, AreAlike, IsApplied, IsCovered}
use Rattle.rec_counts.specs.Targets as targets
use Rattle.rec_counts.proofs.Whole.{applied_count, is_applied}
use Rattle.rec_collector.proofs.Following.{rows_alike}
use Rattle.rec_collector.specs.Private as collectors
use Rattle.rec_collector.specs.Kept as collector_kept
use Rattle.rec_word.proofs.Headers.{leaf_taken}
use Rattle.rec_core.proofs.Actors.{crossed_here, epoch_here, epoch_next, idle_here, left_let_go}
use Rattle.rec_core.proofs.Batches.{buffer_there, gain, loss, gain_named, gain_none, puts_named, loss_named, loss_none, same_at, none_of, sum_parts, leaves_named}
use Rattle.rec_core.proofs.Counts.{slot_in, accounts_with}
use Rattle.rec_core.proofs.Moves.{spare_names}
use Rattle.rec_core.proofs.Sums.{share, log_share, box_share, zip_sum-none, buffers_sum, dated_most}
use Rattle.rec_core.proofs.Turns.{now_in}

-- a spare adds nothing, and takes nothing
gain_spare : (config : Config) (epoch node of : ℕ) → gain epoch node of (spare_of config) ≡ 0
gain_spare config epoch node of = omega (arith, ap (sum_by (is_at epoch node)) (spare_names config of))

loss_spare : (config : Config) (epoch node of : ℕ) → loss epoch node of (spare_of config) ≡ 0
loss_spare config epoch node of = omega (arith, ap (sum_by (is_at epoch node)) (spare_names config of))

-- there are no more writes in a log than entries, and no more names in a snapshot than registers
fewer_writes : (es : List Entry) → length (writes_in es) ≤ length es
fewer_writes [] = omega arith
fewer_writes (entries.Put place new old ∷ es) = omega (arith, fewer_writes es)
fewer_writes (entries.Born slot leaf ∷ es) = omega (arith, fewer_writes es)

fewer_names : (epoch : ℕ) (xs : List (Option ℕ)) → length (dated_names epoch xs) ≤ length xs
fewer_names epoch [] = omega arith
fewer_names epoch (None ∷ xs) = omega (arith, fewer_names epoch xs)
fewer_names epoch (Some x ∷ xs) = omega (arith, fewer_names epoch xs)

-- a sum of so many terms that are within a bound
all_within : {X : Type 0} (f : X → ℕ) (most : ℕ) (xs : List X) (d : X) → ((i : ℕ) → i < length xs → f (slice_index_or xs i d) ≤ most) → sum_by f xs ≤ length xs * most
all_within f most [] d within = omega arith
all_within f most (x ∷ xs) d within =
    let first : f x ≤ most = within 0 (omega arith) in
    let rest : sum_by f xs ≤ length xs * most = all_within f most xs d (λ i below. within (suc i) (omega arith)) in
    let product : suc (length xs) * most ≡ length xs * most + most = suc-mul (length xs) most in
    omega (arith, sum_by-cons f x xs, product)

-- a sum over all buffers, row by row
rows_sum : (size : Filed → ℕ) (w : Core) → sum_by size (buffers w)
    ≡ sum_by (λ (p : Private). size (filed (epoch_at p) p.log)) w.mutators + (sum_by (λ (own : Private × Contents). size (filed_box own)) (zip w.mutators w.boxes) + (sum_by (λ (b : Contents). size (filed (w.epoch - 1) b)) w.collector.newer + sum_by (λ (b : Contents). size (filed (older_at w.epoch w.collector.phase) b)) w.collector.older))
rows_sum size w =
    let logs : List Filed = map (λ (p : Private). filed (epoch_at p) p.log) w.mutators in
    let boxes : List Filed = map filed_box (zip w.mutators w.boxes) in
    let newer : List Filed = map (filed (w.epoch - 1)) w.collector.newer in
    let older : List Filed = map (filed (older_at w.epoch w.collector.phase)) w.collector.older in
    omega (
      arith,
      sum_by-append size logs (boxes ++ (newer ++ older)),
      sum_by-append size boxes (newer ++ older),
      sum_by-append size newer older,
      sum_by-map size (λ (p : Private). filed (epoch_at p) p.log) w.mutators,
      sum_by-map size filed_box (zip w.mutators w.boxes),
      sum_by-map size (filed (w.epoch - 1)) w.collector.newer,
      sum_by-map size (filed (older_at w.epoch w.collector.phase)) w.collector.older,
    )

-- the limits of a heap, multiplied
products : (n cap : ℕ) → n ≤ 63 → cap ≤ 262143 → n * cap ≤ 63 * 262143
products n cap few most = mul-le-mul few most

registers_products : (n cap : ℕ) → n ≤ 63 → cap ≤ 64 → n * cap ≤ 63 * 64
registers_products n cap few most = mul-le-mul few most

words_products : (slots fields : ℕ) → slots ≤ 65535 → fields ≤ 16 → slots * fields ≤ 65535 * 16
words_products slots fields few most = mul-le-mul few most

-- registers of a later epoch are of none up to this
none_late : (epoch late : ℕ) (xs : List (Option ℕ)) → epoch < late → sum_by (is_up_to epoch) (dated_all late xs) ≡ 0
none_late epoch late [] after = refl
none_late epoch late (x ∷ xs) after =
    let first : is_up_to epoch (dated late (code x)) ≡ 0 = ap (λ b. only_if b 1) (lt-leb late epoch after) in
    omega (arith, sum_by-cons (is_up_to epoch) (dated late (code x)) (dated_all late xs), first, none_late epoch late xs after)

-- an item of a list, by the number of its mutator
by_number : (n i : ℕ) → i < n → (1 ≤ i + 1) × (i + 1 ≤ n)
by_number n i below = (omega arith, omega arith)

-- a buffer of an epoch from the requested one on, or a spare
record IsFar (config : Config) (requested epoch : ℕ) (b : Contents) : Type 0 where
  pub buffer : IsBufferOf true config epoch b
  pub late : (requested ≤ epoch) ⊎ (b ≡ spare_of config)

-- a batch counts nothing of it
far_gain : (config : Config) (e requested of node : ℕ) (b : Contents) → e < requested → IsFar config requested of b → gain e node of b ≡ 0
far_gain config e requested of node b below f = elim f.late [
  | inl late ↦ gain_none config e of node b (λ same. omega (arith, same, late, below)) f.buffer
  | inr spare ↦ ap (gain e node of) spare ∙ gain_spare config e node of
]

far_loss : (config : Config) (e requested of node : ℕ) (b : Contents) → e < requested → IsFar config requested of b → loss e node of b ≡ 0
far_loss config e requested of node b below f = elim f.late [
  | inl late ↦ loss_none config e of node b (λ same. omega (arith, same, late, below)) f.buffer
  | inr spare ↦ ap (loss e node of) spare ∙ loss_spare config e node of
]

-- such are a mutator's log and what its mailbox holds, and its registers are of no earlier epoch
record IsFarFrom (config : Config) (requested : ℕ) (p : Private) (box : Contents) : Type 0 where
  pub log : IsFar config requested (epoch_at p) p.log
  pub mailbox : IsFar config requested (epoch_at p - 1) box
  pub registers : (has_let_go p ≡ true) ⊎ (requested ≤ epoch_at p)

-- where a mutator has left
far_left : {config : Config} {requested : ℕ} {stand : Handshake} {t : ℕ} {p : Private} {crossing : ℕ} {box : Contents}
    → IsActor true config requested stand t p crossing box → p.left ≡ true → (requested ≤ epoch_at p - 1) ⊎ (box ≡ spare_of config) → IsFarFrom config requested p box
far_left {p = p} a left late = record {
  log = record { buffer = a.log; late = inr (a.let_go (left_let_go p left)).log };
  mailbox = record { buffer = a.mailbox; late = late };
  registers = inl (left_let_go p left);
}

-- where its turn in the gathering is past
far_done : {config : Config} {requested : ℕ} {stand : Handshake} {t : ℕ} {p : Private} {crossing : ℕ} {box : Contents}
    → IsActor true config requested stand t p crossing box → IsHandshake config requested p crossing box Handshake.Done → IsFarFrom config requested p box
far_done a (inl (crossed, stays, spare)) =
    let here = crossed_here crossed in
    record { log = record { buffer = a.log; late = inl (omega (arith, here)) }; mailbox = record { buffer = a.mailbox; late = inr spare }; registers = inr (omega (arith, here)) }
far_done {p = p} a (inr (inl (crosses, parting))) =
    let next : epoch_at p ≡ p.epoch + 1 = epoch_next p crosses.phase in
    record {
      log = record { buffer = a.log; late = inr crosses.spare };
      mailbox = record { buffer = a.mailbox; late = inl (omega (arith, next, crosses.epoch)) };
      registers = inr (omega (arith, next, crosses.epoch));
    }
far_done {p = p} a (inr (inr retired)) =
    let here : epoch_at p ≡ p.epoch = epoch_here p (idle_here p.phase (a.own.idle retired.left)) in
    far_left a retired.left (inl (omega (arith, here, retired.epoch)))

-- a sum over two rows side by side, of terms that are within a bound
zip_within : {X Y : Type 0} (f : X × Y → ℕ) (most : ℕ) (xs : List X) (ys : List Y) (d : X) (e : Y) → ((i : ℕ) → i < length xs → i < length ys → f (slice_index_or xs i d, slice_index_or ys i e) ≤ most) → sum_by f (zip xs ys) ≤ length xs * most
zip_within f most [] ys d e within = omega arith
zip_within f most (x ∷ xs) [] d e within = omega arith
zip_within f most (x ∷ xs) (y ∷ ys) d e within =
    let first : f (x, y) ≤ most = within 0 (omega arith) (omega arith) in
    let rest : sum_by f (zip xs ys) ≤ length xs * most = zip_within f most xs ys d e (λ i below here. within (suc i) (omega arith) (omega arith)) in
    let product : suc (length xs) * most ≡ length xs * most + most = suc-mul (length xs) most in
    omega (arith, sum_by-cons f (x, y) (zip xs ys), product)

-- Every mailbox is home: what the batch counts.
module _ (w : Core) (t : ℕ) (kept : IsKeptBy true (stand_at w.collector.left Opening) w) (phase : w.collector.phase ≡ Returning t) where
  open w use {collector as c}
  open kept use {collector.{slots as slots_are}}

  many : length c.newer ≡ w.config.mutators
  many = kept.collector.mutators

  -- what each mutator has in its log and in its mailbox
  far : (s : ℕ) → IsMutator w.config s → IsFarFrom w.config w.epoch (mutator w s) (box w s)
  far s there = elim (cases_Bool (has_left c.left s)) [
    | inl gone ↦
        let g : HasGone w.config w.epoch (mutator w s) (crossing_of w s) (box w s) = subst (IsHandshake w.config w.epoch (mutator w s) (crossing_of w s) (box w s)) (cond-true (has_left c.left s) Handshake.Gone Handshake.Done gone) (actor s there).handshake in
        far_left (actor s there) g.left (inr g.spare)
    | inr present ↦ far_done (actor s there) (subst (IsHandshake w.config w.epoch (mutator w s) (crossing_of w s) (box w s)) (cond-false (has_left c.left s) Handshake.Gone Handshake.Done present) (actor s there).handshake)
  ]
    where
      actor : (s : ℕ) → IsMutator w.config s → IsActor true w.config w.epoch (stand_at c.left Opening s) s (mutator w s) (crossing_of w s) (box w s)
      actor s there = kept.mutators.each s there

  some_epochs : 2 ≤ w.epoch
  some_epochs =
      let first : 1 ≤ w.config.first_epoch = kept.config.some_epoch in
      let way : collector_kept.under_way c.phase ≡ 1 = ap collector_kept.under_way phase in
      omega (arith, kept.collector.begun, way)

  older_is : older_at w.epoch c.phase ≡ w.epoch - 2
  older_is = ap (older_at w.epoch) phase

  applied_is : applied_at w.epoch c.phase ≡ w.epoch - 2
  applied_is = ap (applied_at w.epoch) phase

  -- each item of the rows
  far_at : (i : ℕ) → i < length w.mutators → IsFarFrom w.config w.epoch (slice_index_or w.mutators i nobody) (slice_index_or w.boxes i (collectors.blank 0 0))
  far_at i below =
      let all : length w.mutators ≡ w.config.mutators = kept.mutators.many in
      let is : IsMutator w.config (i + 1) = by_number w.config.mutators i (omega arith) in
      let at : i + 1 - 1 ≡ i = omega arith in
      subst (λ n. IsFarFrom w.config w.epoch (slice_index_or w.mutators n nobody) (slice_index_or w.boxes n (collectors.blank 0 0))) at (far (i + 1) is)

  newer_of : (i : ℕ) → i < length c.newer → IsBufferOf true w.config (w.epoch - 1) (slice_index_or c.newer i (collectors.blank 0 0))
  newer_of = buffer_there w.config (w.epoch - 1) c.newer many kept.collector.newer

  older_of : (i : ℕ) → i < length c.older → IsBufferOf true w.config (w.epoch - 2) (slice_index_or c.older i (collectors.blank 0 0))
  older_of = buffer_there w.config (w.epoch - 2) c.older (kept.collector.machine.both ∙ many) (λ t is. subst (λ e. IsBufferOf true w.config e (collectors.buffer_at c.older (t - 1))) older_is (kept.collector.older t is))

  -- what is added by the accounts is what the newer buffers add
  added_is : (x : ℕ) → added (pending w) (x + 1) ≡ targets.added x c.newer
  added_is x =
      let e : ℕ = w.epoch - 1 in
      let next : applied_at w.epoch c.phase + 1 ≡ e = omega (arith, applied_is, some_epochs) in
      let of_writes : Filed → List Write = λ b. writes_in b.buffer.entries in
      let of_names : Filed → List Dated = λ b. dated_names b.epoch b.buffer.snapshot in
      omega (
        arith,
        ap (λ n. sum_by (puts_in n (x + 1)) (writes_of w) + sum_by (is_at n (x + 1)) (snapshots_of w)) next,
        buffers_sum (puts_in e (x + 1)) of_writes w,
        buffers_sum (is_at e (x + 1)) of_names w,
        sum_parts (log_share (puts_in e (x + 1)) of_writes) (log_share (is_at e (x + 1)) of_names) w.mutators,
        sum_parts (box_share (puts_in e (x + 1)) of_writes) (box_share (is_at e (x + 1)) of_names) (zip w.mutators w.boxes),
        sum_parts (share (puts_in e (x + 1)) of_writes e) (share (is_at e (x + 1)) of_names e) c.newer,
        sum_parts (share (puts_in e (x + 1)) of_writes (older_at w.epoch c.phase)) (share (is_at e (x + 1)) of_names (older_at w.epoch c.phase)) c.older,
        none_of (λ (p : Private). gain e (x + 1) (epoch_at p) p.log) w.mutators nobody (λ i below. far_gain w.config e w.epoch (epoch_at (slice_index_or w.mutators i nobody)) (x + 1) (slice_index_or w.mutators i nobody).log (omega (arith, some_epochs)) (far_at i below).log),
        zip_sum-none (λ (own : Private × Contents). gain e (x + 1) (epoch_at own.0 - 1) own.1) w.mutators w.boxes nobody (collectors.blank 0 0)
            (λ i below _. far_gain w.config e w.epoch (epoch_at (slice_index_or w.mutators i nobody) - 1) (x + 1) (slice_index_or w.boxes i (collectors.blank 0 0)) (omega (arith, some_epochs)) (far_at i below).mailbox),
        same_at (λ (b : Contents). gain e (x + 1) e b) (λ (b : Contents). targets.named x (map targets.new_target b.entries) + targets.named x b.snapshot) c.newer (collectors.blank 0 0)
            (λ i below. gain_named w.config e x (slice_index_or c.newer i (collectors.blank 0 0)) (newer_of i below)),
        none_of (λ (b : Contents). gain e (x + 1) (older_at w.epoch c.phase) b) c.older (collectors.blank 0 0) (λ i below.
            ap (λ n. gain e (x + 1) n (slice_index_or c.older i (collectors.blank 0 0))) older_is ∙ gain_none w.config e (w.epoch - 2) (x + 1) (slice_index_or c.older i (collectors.blank 0 0)) (λ same. omega (arith, same, some_epochs)) (older_of i below)),
      )

  -- and what is put by its writes is what those of the newer buffers put
  pub puts_is : (x : ℕ) → sum_by (puts_in (applied_at w.epoch c.phase + 1) (x + 1)) (writes_of w) ≡ targets.written x c.newer
  puts_is x =
      let e : ℕ = w.epoch - 1 in
      let next : applied_at w.epoch c.phase + 1 ≡ e = omega (arith, applied_is, some_epochs) in
      let of_writes : Filed → List Write = λ b. writes_in b.buffer.entries in
      omega (
        arith,
        ap (λ n. sum_by (puts_in n (x + 1)) (writes_of w)) next,
        buffers_sum (puts_in e (x + 1)) of_writes w,
        none_of (log_share (puts_in e (x + 1)) of_writes) w.mutators nobody (λ i below. omega (arith, far_gain w.config e w.epoch (epoch_at (slice_index_or w.mutators i nobody)) (x + 1) (slice_index_or w.mutators i nobody).log (omega (arith, some_epochs)) (far_at i below).log)),
        zip_sum-none (box_share (puts_in e (x + 1)) of_writes) w.mutators w.boxes nobody (collectors.blank 0 0)
            (λ i below _. omega (arith, far_gain w.config e w.epoch (epoch_at (slice_index_or w.mutators i nobody) - 1) (x + 1) (slice_index_or w.boxes i (collectors.blank 0 0)) (omega (arith, some_epochs)) (far_at i below).mailbox)),
        same_at (share (puts_in e (x + 1)) of_writes e) (λ (b : Contents). targets.named x (map targets.new_target b.entries)) c.newer (collectors.blank 0 0)
            (λ i below. puts_named e x (slice_index_or c.newer i (collectors.blank 0 0)).entries (newer_of i below).made),
        none_of (share (puts_in e (x + 1)) of_writes (older_at w.epoch c.phase)) c.older (collectors.blank 0 0)
            (λ i below. omega (arith, gain_none w.config e (w.epoch - 2) (x + 1) (slice_index_or c.older i (collectors.blank 0 0)) (λ same. omega (arith, same, some_epochs)) (older_of i below))),
      )

  -- what is taken off by the accounts is what the older buffers take
  taken_is : (x : ℕ) → taken (pending w) (x + 1) ≡ targets.taken x c.older
  taken_is x =
      let e : ℕ = w.epoch - 2 in
      let of_writes : Filed → List Write = λ b. writes_in b.buffer.entries in
      let of_births : Filed → List Dated = λ b. births_in b.epoch b.buffer.entries in
      let of_names : Filed → List Dated = λ b. dated_names b.epoch b.buffer.snapshot in
      let o : ℕ = older_at w.epoch c.phase in
      let l : ℕ = w.epoch - 1 in
      omega (
        arith,
        ap (λ n. sum_by (replaces_in n (x + 1)) (writes_of w) + sum_by (is_at n (x + 1)) (births_of w) + sum_by (is_at n (x + 1)) (snapshots_of w)) applied_is,
        buffers_sum (replaces_in e (x + 1)) of_writes w,
        buffers_sum (is_at e (x + 1)) of_births w,
        buffers_sum (is_at e (x + 1)) of_names w,
        sum_parts (λ (p : Private). log_share (replaces_in e (x + 1)) of_writes p + log_share (is_at e (x + 1)) of_births p) (log_share (is_at e (x + 1)) of_names) w.mutators,
        sum_parts (log_share (replaces_in e (x + 1)) of_writes) (log_share (is_at e (x + 1)) of_births) w.mutators,
        sum_parts (λ (own : Private × Contents). box_share (replaces_in e (x + 1)) of_writes own + box_share (is_at e (x + 1)) of_births own) (box_share (is_at e (x + 1)) of_names) (zip w.mutators w.boxes),
        sum_parts (box_share (replaces_in e (x + 1)) of_writes) (box_share (is_at e (x + 1)) of_births) (zip w.mutators w.boxes),
        sum_parts (λ (b : Contents). share (replaces_in e (x + 1)) of_writes l b + share (is_at e (x + 1)) of_births l b) (share (is_at e (x + 1)) of_names l) c.newer,
        sum_parts (share (replaces_in e (x + 1)) of_writes l) (share (is_at e (x + 1)) of_births l) c.newer,
        sum_parts (λ (b : Contents). share (replaces_in e (x + 1)) of_writes o b + share (is_at e (x + 1)) of_births o b) (share (is_at e (x + 1)) of_names o) c.older,
        sum_parts (share (replaces_in e (x + 1)) of_writes o) (share (is_at e (x + 1)) of_births o) c.older,
        none_of (λ (p : Private). loss e (x + 1) (epoch_at p) p.log) w.mutators nobody (λ i below. far_loss w.config e w.epoch (epoch_at (slice_index_or w.mutators i nobody)) (x + 1) (slice_index_or w.mutators i nobody).log (omega (arith, some_epochs)) (far_at i below).log),
        zip_sum-none (λ (own : Private × Contents). loss e (x + 1) (epoch_at own.0 - 1) own.1) w.mutators w.boxes nobody (collectors.blank 0 0)
            (λ i below _. far_loss w.config e w.epoch (epoch_at (slice_index_or w.mutators i nobody) - 1) (x + 1) (slice_index_or w.boxes i (collectors.blank 0 0)) (omega (arith, some_epochs)) (far_at i below).mailbox),
        none_of (λ (b : Contents). loss e (x + 1) l b) c.newer (collectors.blank 0 0)
            (λ i below. loss_none w.config e l (x + 1) (slice_index_or c.newer i (collectors.blank 0 0)) (λ same. omega (arith, same, some_epochs)) (newer_of i below)),
        same_at (λ (b : Contents). loss e (x + 1) o b) (λ (b : Contents). targets.named x (map targets.old_target b.entries) + targets.named x b.snapshot) c.older (collectors.blank 0 0)
            (λ i below. ap (λ n. loss e (x + 1) n (slice_index_or c.older i (collectors.blank 0 0))) older_is ∙ loss_named w.config e x (slice_index_or c.older i (collectors.blank 0 0)) (older_of i below)),
      )

  -- a slot that isn't there is free, so nothing names it
  none_past : (x : ℕ) → w.config.slots ≤ x → (targets.added x c.newer ≡ 0) × (targets.taken x c.older ≡ 0)
  none_past x past =
      let headers : length w.headers ≡ w.config.slots = kept.headers in
      let free : (pending w).free (x + 1) ≡ true = ap (λ n. n == 0) (get_or_past w.headers (x + 1 - 1) 0 (omega arith)) ∙ eq-eqb 0 0 refl in
      let dead : is_dead (pending w) (x + 1) ≡ true = ap (λ (b : Bool). if b then true else (pending w).released (x + 1)) free in
      let none = unnamed_uncounted (pending w) (x + 1) (kept.accounted.unnamed (x + 1) (omega arith) dead) in
      (sym (added_is x) ∙ none.0, sym (taken_is x) ∙ none.1)

  -- a leaf that the newer buffers bear has a leaf's header
  pub leaves_are : (x : ℕ) → 0 < targets.leaves x c.newer → is_leaf (slice_index_or w.headers x 0) ≡ true
  leaves_are x some =
      let a : ℕ = applied_at w.epoch c.phase in
      let at : x + 1 - 1 ≡ x = omega arith in
      let borne : sum_by (λ (b : Contents). sum_by (is_leaf_from a (x + 1)) (births_in (w.epoch - 1) b.entries)) c.newer ≡ targets.leaves x c.newer =
      same_at (λ (b : Contents). sum_by (is_leaf_from a (x + 1)) (births_in (w.epoch - 1) b.entries)) (λ (b : Contents). targets.named x (map targets.leaf_born b.entries)) c.newer (collectors.blank 0 0)
      (λ i below. leaves_named a (w.epoch - 1) x (slice_index_or c.newer i (collectors.blank 0 0)).entries (omega (arith, applied_is, some_epochs))) in
      subst (λ n. is_leaf (slice_index_or w.headers n 0) ≡ true) at
      (kept.accounted.leaves (x + 1) (omega arith) (omega (arith, some, borne, buffers_sum (is_leaf_from a (x + 1)) (λ (b : Filed). births_in b.epoch b.buffer.entries) w)))

  -- so it is there
  no_leaf_past : (x : ℕ) → w.config.slots ≤ x → targets.leaves x c.newer ≡ 0
  no_leaf_past x past = elim (cases_lt 0 (targets.leaves x c.newer)) [
    | inr none ↦ omega (arith, none)
    | inl some ↦
        let headers : length w.headers ≡ w.config.slots = kept.headers in
        absurd (omega (arith, leaf_taken (slice_index_or w.headers x 0) (leaves_are x some), get_or_past w.headers x 0 (omega (arith, past, headers))))
  ]

  -- the count of a slot, by its node
  count_of : (x : ℕ) → x < w.config.slots → (pending w).count (x + 1) ≡ (slot_at c.counts x).count
  count_of x below =
      let at : x + 1 - 1 ≡ x = omega arith in
      ap (λ (n : ℕ). (slice_index_or c.counts.slots n fresh).count) at ∙ ap (λ (v : Slot). v.count) (get_or_default c.counts.slots x fresh absent (omega (arith, slots_are)))

  -- how much there is at most to count
  few_writes : length (writes_of w) ≤ 252 * 262143
  few_writes =
      let mutators : length w.mutators ≡ w.config.mutators = kept.mutators.many in
      let both : length c.older ≡ length c.newer = kept.collector.machine.both in
      let most : w.config.mutators ≤ 63 = kept.config.few_mutators in
      let size : Filed → ℕ = λ b. length (writes_in b.buffer.entries) in
      let cap : ℕ = w.config.log_entries in
      omega (
        arith,
        length-flat_map (λ (b : Filed). writes_in b.buffer.entries) (buffers w),
        rows_sum size w,
        all_within (λ (p : Private). size (filed (epoch_at p) p.log)) cap w.mutators nobody (λ i below. log_within (far_at i below).log.buffer),
        zip_within (λ (own : Private × Contents). size (filed_box own)) cap w.mutators w.boxes nobody (collectors.blank 0 0) (λ i below _. log_within (far_at i below).mailbox.buffer),
        all_within (λ (b : Contents). size (filed (w.epoch - 1) b)) cap c.newer (collectors.blank 0 0) (λ i below. log_within (newer_of i below)),
        all_within (λ (b : Contents). size (filed (older_at w.epoch c.phase) b)) cap c.older (collectors.blank 0 0) (λ i below. log_within (older_of i below)),
        products w.config.mutators cap most kept.config.few_log_entries,
        ap (λ n. n * cap) (sym mutators),
        ap (λ n. n * cap) (sym many),
        ap (λ n. n * cap) (sym (both ∙ many)),
      )
    where
      log_within : {e : ℕ} {b : Contents} → IsBufferOf true w.config e b → length (writes_in b.entries) ≤ w.config.log_entries
      log_within {e} {b} is = let capacity : b.capacity ≡ w.config.log_entries = is.capacity in omega (arith, fewer_writes b.entries, is.few)

  few_names : length (snapshots_of w) ≤ 252 * 64
  few_names =
      let mutators : length w.mutators ≡ w.config.mutators = kept.mutators.many in
      let both : length c.older ≡ length c.newer = kept.collector.machine.both in
      let most : w.config.mutators ≤ 63 = kept.config.few_mutators in
      let size : Filed → ℕ = λ b. length (dated_names b.epoch b.buffer.snapshot) in
      let cap : ℕ = w.config.registers in
      omega (
        arith,
        length-flat_map (λ (b : Filed). dated_names b.epoch b.buffer.snapshot) (buffers w),
        rows_sum size w,
        all_within (λ (p : Private). size (filed (epoch_at p) p.log)) cap w.mutators nobody (λ i below. names_within (epoch_at (slice_index_or w.mutators i nobody)) (far_at i below).log.buffer),
        zip_within (λ (own : Private × Contents). size (filed_box own)) cap w.mutators w.boxes nobody (collectors.blank 0 0) (λ i below _. names_within (epoch_at (slice_index_or w.mutators i nobody) - 1) (far_at i below).mailbox.buffer),
        all_within (λ (b : Contents). size (filed (w.epoch - 1) b)) cap c.newer (collectors.blank 0 0) (λ i below. names_within (w.epoch - 1) (newer_of i below)),
        all_within (λ (b : Contents). size (filed (older_at w.epoch c.phase) b)) cap c.older (collectors.blank 0 0) (λ i below. names_within (older_at w.epoch c.phase) (older_of i below)),
        registers_products w.config.mutators cap most kept.config.few_registers,
        ap (λ n. n * cap) (sym mutators),
        ap (λ n. n * cap) (sym many),
        ap (λ n. n * cap) (sym (both ∙ many)),
      )
    where
      names_within : {e : ℕ} {b : Contents} (o : ℕ) → IsBufferOf true w.config e b → length (dated_names o b.snapshot) ≤ w.config.registers
      names_within {e} {b} o is = omega (arith, fewer_names o b.snapshot, is.snapshot)

  few_words : length w.words ≤ 65535 * 16
  few_words =
      let places : length w.words ≡ length w.headers * w.config.fields = kept.sound.places in
      let headers : length w.headers ≡ w.config.slots = kept.headers in
      omega (arith, ap (λ n. n * w.config.fields) headers, words_products w.config.slots w.config.fields kept.config.few_slots kept.config.few_fields)

  -- the batch may be made: it names slots that are there, passes no greatest count, and takes none below zero
  pub covered : IsCovered c.counts c.newer c.older
  covered = record {
    in_range = λ x past. let none = none_past x (omega (arith, past, slots_are)) in omega (arith, none.0, none.1);
    born = λ x past. no_leaf_past x (omega (arith, past, slots_are));
    fits = λ x. elim (cases_lt x w.config.slots) [
      | inl below ↦ omega (arith, counts_bounded (pending w) kept.accounted (x + 1) (omega arith), count_of x below, added_is x, few_writes, few_names, few_words)
      | inr past ↦
          let none = none_past x past in
          let absent_is : slot_at c.counts x ≡ absent = get_or_past c.counts.slots x absent (omega (arith, past, slots_are)) in
          omega (arith, none.0, ap (λ (v : Slot). v.count) absent_is)
    ];
    covered = λ x. elim (cases_lt x w.config.slots) [
      | inl below ↦ omega (arith, batch_covered (pending w) (x + 1) kept.accounted.epochs kept.accounted.ledger kept.accounted.late (omega arith), count_of x below, added_is x, taken_is x)
      | inr past ↦ let none = none_past x past in omega (arith, none.1)
    ];
  }

  -- what the batch makes of the counts
  abbrev pub counted : State
  counted = applied c.policy.steady c.counts c.newer c.older

  zeros_before : c.counts.zeros ≡ []
  zeros_before = (now_in w (Returning t) kept phase).rest.zeros

  alike : AreAlike c.newer c.older
  alike = rows_alike c kept.collector.machine

  pub is_counted : IsApplied c.policy.steady c.counts c.newer c.older counted
  is_counted = is_applied c.policy.steady c.counts c.newer c.older zeros_before alike covered

  -- no register is of an epoch that is applied
  all_crossed : sum_by (is_up_to (applied_at w.epoch c.phase + 1)) (registers_of w) ≡ 0
  all_crossed =
      let all : length w.mutators ≡ w.config.mutators = kept.mutators.many in
      let next : applied_at w.epoch c.phase + 1 ≡ w.epoch - 1 = omega (arith, applied_is, some_epochs) in
      ap (λ n. sum_by (is_up_to n) (registers_of w)) next
      ∙ sum_by-flat_map (is_up_to (w.epoch - 1)) dated_registers w.mutators
      ∙ none_of (λ (p : Private). sum_by (is_up_to (w.epoch - 1)) (dated_registers p)) w.mutators nobody (λ i below.
      let p : Private = slice_index_or w.mutators i nobody in
      elim (far_at i below).registers [
        | inl gone ↦ ap (λ (b : Bool). sum_by (is_up_to (w.epoch - 1)) (if b then [] else dated_all (epoch_at p) p.registers)) gone
        | inr late ↦ omega (arith, dated_most (is_up_to (w.epoch - 1)) p, none_late (w.epoch - 1) (epoch_at p) p.registers (omega (arith, late, some_epochs)))
      ])

  -- the batch is one of the accounts
  pub applies : Applies (pending w) (record (accounts_with (pending w) w.words counted) { applied = w.epoch - 1 })
  applies = record {
    asked = omega (arith, applied_is, some_epochs);
    crossed = all_crossed;
    counts = counts_move;
    fields = refl;
    applied = omega (arith, applied_is, some_epochs);
    requested = refl;
    words = λ weight. refl;
    logs = record { writes = λ weight. refl; births = λ weight. refl; snapshots = λ weight. refl };
    registers = λ weight. refl;
    free = λ x _. refl;
    released = λ x _. elim (cases_lt (x - 1) w.config.slots) [
      | inl below ↦
          let old : slot_in c.counts x ≡ slot_at c.counts (x - 1) = get_or_default c.counts.slots (x - 1) fresh absent (omega (arith, slots_are)) in
          let new : slot_in counted x ≡ slot_at counted (x - 1) = get_or_default counted.slots (x - 1) fresh absent (omega (arith, slots_are, is_counted.rest.slots)) in
          ap (λ (v : Slot). v.released) new ∙ is_counted.rest.released (x - 1) ∙ ap (λ (v : Slot). v.released) (sym old)
      | inr past ↦
          let old : slot_in c.counts x ≡ fresh = get_or_past c.counts.slots (x - 1) fresh (omega (arith, past, slots_are)) in
          let new : slot_in counted x ≡ fresh = get_or_past counted.slots (x - 1) fresh (omega (arith, past, slots_are, is_counted.rest.slots)) in
          ap (λ (v : Slot). v.released) (new ∙ sym old)
    ];
    leaf = λ x _. refl;
  }
    where
      counts_move : (node : ℕ) → 0 < node → (slot_in counted node).count + taken (pending w) node ≡ (slot_in c.counts node).count + added (pending w) node
      counts_move node pos =
          let x : ℕ = node - 1 in
          let is : node ≡ x + 1 = omega arith in
          elim (cases_lt x w.config.slots) [
            | inl below ↦ omega (
              arith,
              applied_count c.policy.steady c.counts c.newer c.older alike is_counted x,
              ap (taken (pending w)) is,
              ap (added (pending w)) is,
              taken_is x,
              added_is x,
              ap (λ (v : Slot). v.count) (get_or_default c.counts.slots x fresh absent (omega (arith, slots_are))),
              ap (λ (v : Slot). v.count) (get_or_default counted.slots x fresh absent (omega (arith, slots_are, is_counted.rest.slots))),
            )
            | inr past ↦ omega (
              arith,
              (none_past x past).0,
              (none_past x past).1,
              ap (taken (pending w)) is,
              ap (added (pending w)) is,
              taken_is x,
              added_is x,
              ap (λ (v : Slot). v.count) (get_or_past c.counts.slots x fresh (omega (arith, past, slots_are))),
              ap (λ (v : Slot). v.count) (get_or_past counted.slots x fresh (omega (arith, past, slots_are, is_counted.rest.slots))),
            )
          ]
