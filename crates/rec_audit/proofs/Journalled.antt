-- The writes of the epoch of the last batch are those of its buffers; all others are of later epochs, or of earlier ones.
use Rattle.std.proofs.Common.{◌≡◌, ◌≢◌, ◌⊎◌, inl, inr, ℕ, zero, suc, ◌+◌, ◌-◌, ◌<◌, ◌≤◌, ◌==◌, if◌then◌else◌, true, false, List, [], ◌∷◌, length, slice_index_or, refl, sym, ap, subst, ◌∙◌, arith}
use Rattle.std.specs.List.{All, Contains, sum_by, zip}
use Rattle.std.proofs.lemmas.Bool.{cases_Bool, cases_lt}
use Rattle.std.proofs.lemmas.Bool.Decides.{nat_tests}
use Rattle.std.proofs.lemmas.List.Elements.{All-head, All-tail, Contains-append_right}
use Rattle.std.proofs.lemmas.List.Sums.{sum_by-cons, sum_by-le-sum_by}
use Rattle.rec_core.proofs.Common.{only_if, epoch_of, Write, Dated, is_at, is_wrong_register, Holds, Contents, Entry, Private, register, blank, buffer_at, Phase, Idle, Looking, Swapping, Returning, IsMutator, Core, mutator, box, crossing_of, nobody, spare_of, IsMadeIn, IsBufferOf, Handshake, IsHandshake, IsKept, code, epoch_at, has_let_go, writes_in, older_at, pending, applied_at}
use Rattle.rec_log.specs.declared.entry.Entry.TheVariants as entries
use Rattle.rec_collector.specs.Kept.{under_way}
use Rattle.rec_core.specs.Loads.{Loaded}
use Rattle.rec_audit.specs.Logged.{last_batch}
use Rattle.rec_core.specs.Pending.{writes_of, has_batched}
use Rattle.rec_core.proofs.Actors.{crossed_here, epoch_here, epoch_next, idle_here}
use Rattle.rec_core.proofs.Batches.{none_of}
use Rattle.rec_core.proofs.Crossings.{due_gathers}
use Rattle.rec_audit.proofs.Lasting.{closes, closes_parts, some_weighs, wrote, wrote_in_box, writes_sum}
use Rattle.rec_core.proofs.Moves.{has_register}
use Rattle.rec_core.proofs.Steps.{actor_of, in_list, stand_of}
use Rattle.rec_core.proofs.Sums.{zip_sum-none}
use Rattle.rec_core.proofs.Turns.{now_at}

-- the epoch of the last batch
abbrev pub applied_in : Core → ℕ
applied_in w = applied_at w.epoch w.collector.phase

-- ---- logs and mailboxes are of later epochs, or spares

-- a mutator that holds its registers is in a later epoch, or crosses into one
pub held_later : (w : Core) (t : ℕ) → IsKept true w → IsMutator w.config t → has_let_go (mutator w t) ≡ false → applied_in w < epoch_at (mutator w t)
held_later w t kept is held = later (has_register w t 0 (in_list w t kept is) held first)
  where
    first : 0 < length (mutator w t).registers
    first = (let many : length (mutator w t).registers ≡ w.config.registers = (actor_of w t kept is).own.registers in let some : 1 ≤ w.config.registers = kept.config.some_registers in omega arith)

    later : Holds (pending w) (epoch_at (mutator w t)) (code (register (mutator w t) 0)) → applied_in w < epoch_at (mutator w t)
    later holds = elim (cases_lt (applied_in w) (epoch_at (mutator w t))) [
      | inl past ↦ past
      | inr early ↦ absurd (omega (arith, holds, kept.accounted.epochs.registers, sum_by-le-sum_by (is_at (epoch_at (mutator w t)) (code (register (mutator w t) 0))) (is_wrong_register (applied_in w) w.epoch) (pending w).registers (λ d. wrong (epoch_at (mutator w t)) (code (register (mutator w t) 0)) (applied_in w) w.epoch early d)))
    ]
      where
        wrong : (e n a r : ℕ) → e ≤ a → (d : Dated) → is_at e n d ≤ is_wrong_register a r d
        wrong e n a r early d = grind (arith, nat_tests)

pub log_spare : (w : Core) (t : ℕ) → IsKept true w → IsMutator w.config t → (applied_in w < epoch_at (mutator w t)) ⊎ ((mutator w t).log ≡ spare_of w.config)
log_spare w t kept is = elim (cases_Bool (has_let_go (mutator w t))) [
  | inl gone ↦ inr ((actor_of w t kept is).let_go gone).log
  | inr held ↦ inl (held_later w t kept is held)
]

pub log_later : (w : Core) (t : ℕ) → IsKept true w → IsMutator w.config t → (applied_in w < epoch_at (mutator w t)) ⊎ ((mutator w t).log.entries ≡ [])
log_later w t kept is = elim (log_spare w t kept is) [ inl later ↦ inl later | inr spare ↦ inr (ap (λ (b : Contents). b.entries) spare) ]

pub box_spare : (w : Core) (t : ℕ) → IsKept true w → IsMutator w.config t → (applied_in w < epoch_at (mutator w t) - 1) ⊎ (box w t ≡ spare_of w.config)
box_spare w t kept is = go (stand_of w t) refl (actor_of w t kept is).handshake
  where
    behind : applied_in w < w.epoch
    behind = kept.accounted.epochs.behind

    due : stand_of w t ≡ Handshake.Due → epoch_at (mutator w t) ≡ w.epoch → applied_in w < epoch_at (mutator w t) - 1
    due stands at =
        let gathers = due_gathers w.epoch t w.collector.left w.collector.phase stands in
        let way : under_way w.collector.phase ≡ 1 = gathers.1 in
        let all : w.config.first_epoch + w.collector.collections + under_way w.collector.phase ≡ w.epoch = kept.collector.begun in
        let some : 1 ≤ w.config.first_epoch = kept.config.some_epoch in
        omega (arith, gathers.0, at, way, all, some)

    go : (stand : Handshake) → stand_of w t ≡ stand → IsHandshake w.config w.epoch (mutator w t) (crossing_of w t) (box w t) stand → (applied_in w < epoch_at (mutator w t) - 1) ⊎ (box w t ≡ spare_of w.config)
    go Handshake.Done so (inl (crossed, there, spare)) = inr spare
    go Handshake.Done so (inr (inl (crosses, parting))) = inl (omega (arith, behind, crosses.epoch, epoch_next (mutator w t) crosses.phase))
    go Handshake.Done so (inr (inr retired)) = inl (omega (arith, behind, retired.epoch, epoch_here (mutator w t) (idle_here (mutator w t).phase ((actor_of w t kept is).own.idle retired.left))))
    go Handshake.Held so h = inr h.1
    go Handshake.Due so (inl back) = inr back.spare
    go Handshake.Due so (inr (inl crosses)) = inl (due so (epoch_next (mutator w t) crosses.phase ∙ crosses.epoch))
    go Handshake.Due so (inr (inr (crossed, last))) = inl (due so (crossed_here crossed))
    go Handshake.Gone so gone = inr gone.spare

pub box_later : (w : Core) (t : ℕ) → IsKept true w → IsMutator w.config t → (applied_in w < epoch_at (mutator w t) - 1) ⊎ ((box w t).entries ≡ [])
box_later w t kept is = elim (box_spare w t kept is) [ inl later ↦ inl later | inr spare ↦ inr (ap (λ (b : Contents). b.entries) spare) ]

-- ---- weights of the writes of one epoch

-- a weight of writes of this epoch alone
abbrev pub IsOfEpoch : (epoch : ℕ) → (Write → ℕ) → Type 0
IsOfEpoch epoch g = (x : Write) → epoch_of x.new ≢ epoch → g x ≡ 0

other_writes : (g : Write → ℕ) (e epoch : ℕ) (es : List Entry) → e ≢ epoch → IsOfEpoch epoch g → All (IsMadeIn e) es → sum_by g (writes_in es) ≡ 0
other_writes g e epoch [] other of made = refl
other_writes g e epoch (entries.Put place new old ∷ es) other of made =
    let x : Write = record { place = place; new = new; old = old } in
    let at : epoch_of new ≡ e = All-head (IsMadeIn e) (entries.Put place new old) es made in
    let first : g x ≡ 0 = of x (λ same. other (sym at ∙ same)) in
    omega (arith, sum_by-cons g x (writes_in es), first, other_writes g e epoch es other of (All-tail (IsMadeIn e) (entries.Put place new old) es made))
other_writes g e epoch (entries.Born slot leaf ∷ es) other of made = other_writes g e epoch es other of (All-tail (IsMadeIn e) (entries.Born slot leaf) es made)

-- a row of buffers of another epoch, or of spares
row_none : (w : Core) (g : Write → ℕ) (e epoch : ℕ) (row : List Contents) → length row ≡ w.config.mutators → e ≢ epoch → IsOfEpoch epoch g → ((t : ℕ) → IsMutator w.config t → IsBufferOf true w.config e (buffer_at row (t - 1))) → sum_by (wrote g) row ≡ 0
row_none w g e epoch row many other of all = none_of (wrote g) row (blank 0 0) (λ i below.
    let at : i + 1 - 1 ≡ i = omega arith in
    let one : IsBufferOf true w.config e (slice_index_or row i (blank 0 0)) = subst (λ n. IsBufferOf true w.config e (slice_index_or row n (blank 0 0))) at (all (i + 1) (omega arith, omega (arith, below, many))) in
    other_writes g e epoch (slice_index_or row i (blank 0 0)).entries other of one.made)

pub last_sum : (w : Core) (g : Write → ℕ) → IsKept true w → IsOfEpoch (applied_in w) g → sum_by g (writes_of w) ≡ sum_by (wrote g) (last_batch w.collector)
last_sum w g kept of = omega (arith, writes_sum g w, logs, boxes, rows w.collector.phase refl)
  where
    number : (i : ℕ) → i < length w.mutators → IsMutator w.config (i + 1)
    number i below = (let many : length w.mutators ≡ w.config.mutators = kept.mutators.many in (omega arith, omega arith))

    nothing : (b : Contents) → b.entries ≡ [] → wrote g b ≡ 0
    nothing b none = ap (λ es. sum_by g (writes_in es)) none

    log_none : (t : ℕ) → IsMutator w.config t → wrote g (mutator w t).log ≡ 0
    log_none t is = elim (log_later w t kept is) [
      | inl later ↦ other_writes g (epoch_at (mutator w t)) (applied_in w) (mutator w t).log.entries (omega arith) of (actor_of w t kept is).log.made
      | inr none ↦ nothing (mutator w t).log none
    ]

    box_none : (t : ℕ) → IsMutator w.config t → wrote g (box w t) ≡ 0
    box_none t is = elim (box_later w t kept is) [
      | inl later ↦ other_writes g (epoch_at (mutator w t) - 1) (applied_in w) (box w t).entries (omega arith) of (actor_of w t kept is).mailbox.made
      | inr none ↦ nothing (box w t) none
    ]

    logs : sum_by (λ (p : Private). wrote g p.log) w.mutators ≡ 0
    logs = none_of (λ (p : Private). wrote g p.log) w.mutators nobody (λ i below.
        let at : i + 1 - 1 ≡ i = omega arith in
        subst (λ n. wrote g (slice_index_or w.mutators n nobody).log ≡ 0) at (log_none (i + 1) (number i below)))

    boxes : sum_by (wrote_in_box g) (zip w.mutators w.boxes) ≡ 0
    boxes = zip_sum-none (wrote_in_box g) w.mutators w.boxes nobody (blank 0 0) (λ i below there.
        let at : i + 1 - 1 ≡ i = omega arith in
        subst (λ n. wrote g (slice_index_or w.boxes n (blank 0 0)) ≡ 0) at (box_none (i + 1) (number i below)))

    some : 1 + under_way w.collector.phase ≤ w.epoch
    some = (let all : w.config.first_epoch + w.collector.collections + under_way w.collector.phase ≡ w.epoch = kept.collector.begun in let first : 1 ≤ w.config.first_epoch = kept.config.some_epoch in omega arith)

    newer_none : w.epoch - 1 ≢ applied_in w → sum_by (wrote g) w.collector.newer ≡ 0
    newer_none other = row_none w g (w.epoch - 1) (applied_in w) w.collector.newer kept.collector.mutators other of kept.collector.newer

    older_none : older_at w.epoch w.collector.phase ≢ applied_in w → sum_by (wrote g) w.collector.older ≡ 0
    older_none other = row_none w g (older_at w.epoch w.collector.phase) (applied_in w) w.collector.older (kept.collector.machine.both ∙ kept.collector.mutators) other of kept.collector.older

    spares : w.collector.phase ≡ Idle → sum_by (wrote g) w.collector.newer ≡ 0
    spares idle = none_of (wrote g) w.collector.newer (blank 0 0) (λ i below. ap (wrote g) ((now_at w Idle kept idle).1 i (omega arith) below))

    gathered : (phase : Phase) → w.collector.phase ≡ phase → has_batched phase ≡ false → applied_at w.epoch phase ≡ w.epoch - 2 → under_way phase ≡ 1 → sum_by (wrote g) w.collector.newer + sum_by (wrote g) w.collector.older ≡ sum_by (wrote g) (last_batch w.collector)
    gathered phase is waits at way =
        let epoch : applied_in w ≡ w.epoch - 2 = ap (applied_at w.epoch) is ∙ at in
        let under : under_way w.collector.phase ≡ 1 = ap under_way is ∙ way in
        let last : last_batch w.collector ≡ w.collector.older = ap (λ f. if has_batched f then w.collector.newer else w.collector.older) is ∙ ap (λ b. if b then w.collector.newer else w.collector.older) waits in
        omega (arith, newer_none (λ same. omega (arith, same, epoch, some, under)), ap (sum_by (wrote g)) last)

    worked : (phase : Phase) → w.collector.phase ≡ phase → has_batched phase ≡ true → applied_at w.epoch phase ≡ w.epoch - 1 → older_at w.epoch phase ≡ w.epoch - 2 → under_way phase ≡ 1 → sum_by (wrote g) w.collector.newer + sum_by (wrote g) w.collector.older ≡ sum_by (wrote g) (last_batch w.collector)
    worked phase is works at before way =
        let epoch : applied_in w ≡ w.epoch - 1 = ap (applied_at w.epoch) is ∙ at in
        let under : under_way w.collector.phase ≡ 1 = ap under_way is ∙ way in
        let older : older_at w.epoch w.collector.phase ≡ w.epoch - 2 = ap (older_at w.epoch) is ∙ before in
        let last : last_batch w.collector ≡ w.collector.newer = ap (λ f. if has_batched f then w.collector.newer else w.collector.older) is ∙ ap (λ b. if b then w.collector.newer else w.collector.older) works in
        omega (arith, older_none (λ same. omega (arith, same, older, epoch, some, under)), ap (sum_by (wrote g)) last)

    rows : (phase : Phase) → w.collector.phase ≡ phase → sum_by (wrote g) w.collector.newer + sum_by (wrote g) w.collector.older ≡ sum_by (wrote g) (last_batch w.collector)
    rows Idle is =
        let last : last_batch w.collector ≡ w.collector.older = ap (λ f. if has_batched f then w.collector.newer else w.collector.older) is in
        omega (arith, spares is, ap (sum_by (wrote g)) last)
    rows (Looking t) is = gathered (Looking t) is refl refl refl
    rows (Swapping t) is = gathered (Swapping t) is refl refl refl
    rows (Returning t) is = gathered (Returning t) is refl refl refl
    rows phase is = worked phase is refl refl refl refl

-- ---- a write of the last batch

-- such an entry stands in one of these buffers
abbrev pub StandsIn : List Contents → Entry → Type 0
StandsIn row entry = (i : ℕ) × (i < length row) × Contains (buffer_at row i).entries entry

write_entry : (es : List Entry) (x : Write) → Contains (writes_in es) x → Contains es (entries.Put x.place x.new x.old)
write_entry [] x c = absurd (let below = c.1 in omega arith)
write_entry (entries.Put place new old ∷ es) x (zero, below, there) = (0, omega arith, ap (λ (y : Write). entries.Put y.place y.new y.old) there)
write_entry (entries.Put place new old ∷ es) x (suc k, below, there) = Contains-append_right (entries.Put place new old ∷ []) es (entries.Put x.place x.new x.old) (write_entry es x (k, omega arith, there))
write_entry (entries.Born slot leaf ∷ es) x c = Contains-append_right (entries.Born slot leaf ∷ []) es (entries.Put x.place x.new x.old) (write_entry es x c)

pub stands_in : (g : Write → ℕ) (row : List Contents) → 0 < sum_by (wrote g) row → (x : Write) × StandsIn row (entries.Put x.place x.new x.old) × (0 < g x)
stands_in g [] some = absurd (omega arith)
stands_in g (b ∷ row) some = elim (cases_lt 0 (wrote g b)) [
  | inl here ↦ (let (x, c, weighs) = some_weighs g (writes_in b.entries) here in (x, (0, omega arith, write_entry b.entries x c), weighs))
  | inr none ↦ (let (x, c, weighs) = stands_in g row (omega (arith, some, none, sum_by-cons (wrote g) b row)) in (x, (suc c.0, omega (arith, c.1), c.2), weighs))
]

-- What a write replaced since this epoch, it replaced since the next one, or in this one: then it is one of the last batch.
pub replaced_when : (w : Core) (place word : ℕ) → IsKept true w → 0 < sum_by (closes (record { place = place; word = word; epoch = applied_in w })) (writes_of w)
    → (0 < sum_by (closes (record { place = place; word = word; epoch = applied_in w + 1 })) (writes_of w)) ⊎ ((new : ℕ) × StandsIn (last_batch w.collector) (entries.Put place new word))
replaced_when w place word kept some =
    let now : Loaded = record { place = place; word = word; epoch = applied_in w } in
    let next : Loaded = record { place = place; word = word; epoch = applied_in w + 1 } in
    let g : Write → ℕ = λ x. only_if (epoch_of x.new == applied_in w) (closes now x) in
    let split : sum_by (closes now) (writes_of w) ≤ sum_by (closes next) (writes_of w) + sum_by g (writes_of w) = parted (closes now) (closes next) g (writes_of w) (λ x. either place word (applied_in w) x) in
    elim (cases_lt 0 (sum_by (closes next) (writes_of w))) [
      | inl later ↦ inl later
      | inr none ↦
          let here : 0 < sum_by (wrote g) (last_batch w.collector) = omega (arith, some, split, none, last_sum w g kept (λ x other. not_now (applied_in w) x (closes now x) other)) in
          let (x, c, weighs) = stands_in g (last_batch w.collector) here in
          let parts = closes_parts now x (weigh (applied_in w) x (closes now x) weighs) in
          inr (x.new, subst (λ p. StandsIn (last_batch w.collector) (entries.Put p x.new word)) parts.0 (subst (λ o. StandsIn (last_batch w.collector) (entries.Put x.place x.new o)) parts.1 c))
    ]
  where
    either : (place word epoch : ℕ) (x : Write) → closes (record { place = place; word = word; epoch = epoch }) x ≤ closes (record { place = place; word = word; epoch = epoch + 1 }) x + only_if (epoch_of x.new == epoch) (closes (record { place = place; word = word; epoch = epoch }) x)
    either place word epoch x = grind (arith, nat_tests)

    not_now : (epoch : ℕ) (x : Write) (n : ℕ) → epoch_of x.new ≢ epoch → only_if (epoch_of x.new == epoch) n ≡ 0
    not_now epoch x n other = grind (arith, nat_tests)

    weigh : (epoch : ℕ) (x : Write) (n : ℕ) → 0 < only_if (epoch_of x.new == epoch) n → 0 < n
    weigh epoch x n weighs = grind (arith, nat_tests)

    parted : (f a b : Write → ℕ) (xs : List Write) → ((x : Write) → f x ≤ a x + b x) → sum_by f xs ≤ sum_by a xs + sum_by b xs
    parted f a b [] all = omega arith
    parted f a b (x ∷ xs) all = omega (arith, all x, sum_by-cons f x xs, sum_by-cons a x xs, sum_by-cons b x xs, parted f a b xs all)
