-- The turns of the collector that request an epoch, gather the buffers of the mutators and give their mailboxes back keep what every heap
-- keeps. Behind the last mailbox, or with the request where every mutator has left, all is home for the batch.
use Rattle.std.proofs.Common.{◌≡◌, ◌≢◌, inl, inr, ℕ, ◌+◌, ◌-◌, ◌*◌, ◌^◌, ◌<◌, ◌≤◌, ◌==◌, nat_lt, if◌then◌else◌, Bool, true, false, List, length, slice_index_or, slice_set, refl, sym, ap, subst, ◌∙◌, arith}
use Rattle.std.specs.List.{sum_by, flat_map}
use Rattle.std.proofs.lemmas.Bool.{cases_Bool, cases_eq, cases_lt, cond-false, cond-true, eq-eqb, false≢true, le-ltb, lt-ltb, ne_eqb}
use Rattle.std.proofs.lemmas.List.{get_or-set_other, get_or-set_same, length-set}
use Rattle.std.proofs.lemmas.List.Sums.{sum_by-set}
use Rattle.rec_core.proofs.Common.{crossing_word, Retired, Spare, WithCollector, WithMutator, IsAccounted, HasUncountedReleased, AccountMove, Drops, Requests, move_uncounted, move_accounted, Contents, parts_of, moved, noted, requested, HaveLeft, has_left, IsNextPresent, Phase, Idle, Looking, Opening, Returning, IsMutator, Core, mutator, box, crossing_of, spare_of, nobody, SetsWait, IsBufferOf, Handshake, stand_at, stand_in, HasCrossed, HasGone, IsHandshake, IsHeldAt, HasMutators, IsKept, IsKeptBy, IsSettledIn, freeing_due, one_if_sweeping, Filed, writes_in, births_in, dated_names, older_at, epoch_at, buffers, pending, applied_at}
use Rattle.rec_word.specs.declared.mailbox.Mailbox.{Mailbox}
use Rattle.rec_mutator.specs.Took.{is_uncollected_in}
use Rattle.rec_mutator.specs.declared.phase.Phase as phases
use Rattle.rec_mutator.specs.declared.phase.Phase.TheVariants as at
use Rattle.rec_collector.specs.Private as collectors
use Rattle.rec_collector.specs.Kept as collector_kept
use Rattle.rec_collector.specs.Testing.{told}
use Rattle.rec_collector.proofs.Gathering.{noted_keeps, requested_keeps}
use Rattle.rec_collector.proofs.Landing.{freed_at, told_at, under_way_at}
use Rattle.rec_core.specs.Worked.{WaitsFor}
use Rattle.rec_core.proofs.Actors.{crossed_here, idle_here, idle_settled, settled_here, spare_buffer}
use Rattle.rec_core.proofs.CyclesWait.{sets_wait_moved}
use Rattle.rec_core.proofs.Shapes.{same_boxes}
use Rattle.rec_core.proofs.Sums.{share, box_share, buffers_sum, zip_sum-set_second}
use Rattle.rec_core.proofs.TurnCases.{awaiting, Awaits, crossing_with, giving_back, requesting}
use Rattle.rec_core.proofs.Turns.{AddsNothing, alive_in, births_nothing, collector_moves, cycles_in, emptied_in, its_spare, now_at, phase_moves, same_drops, snapshots_nothing, spare_row, stands_as, writes_nothing}

-- A collector that has nothing to gather any more is a machine, as with the last mailbox given back.
awaiting_machine : (p : collectors.Private) → collector_kept.IsMachine p → collector_kept.IsAtRest (parts_of p) → p.turns ≤ 2 * length p.newer → p.collections + 1 ≤ p.epoch → p.freed ≤ 2 ^ 16 * p.collections
    → told p.sets + length p.counts.sets ≤ 2 ^ 16 * p.collections → collector_kept.IsMachine (awaiting p)
awaiting_machine p k rest turns under_way freed tested = record {
  epoch = k.epoch;
  collections = under_way;
  freed = omega (arith, freed);
  some_fields = k.some_fields;
  few_fields = k.few_fields;
  rows = k.rows;
  left = k.left;
  counts = k.counts;
  told = omega (arith, tested);
  postponed = k.postponed;
  now = record { rest = rest; first = omega (arith, k.mutators); there = omega arith; spares = λ place from l. absurd (omega (arith, from, l)); turns = turns };
}

-- where a mutator stands that the collector knows to have left, and any other
stand_gone : (left : List Bool) (phase : Phase) (t : ℕ) → has_left left t ≡ true → stand_at left phase t ≡ Handshake.Gone
stand_gone left phase t gone = cond-true (has_left left t) Handshake.Gone (stand_in phase t) gone

stand_present : (left : List Bool) (phase : Phase) (t : ℕ) → has_left left t ≡ false → stand_at left phase t ≡ stand_in phase t
stand_present left phase t present = cond-false (has_left left t) Handshake.Gone (stand_in phase t) present

-- in a gathering, each other mutator stands where it stood as the mailbox of one is taken, and where it is given back
stand_looked : (t s : ℕ) → s ≢ t → stand_in (Returning t) s ≡ stand_in (Looking t) s
stand_looked t s other = ap (λ (b : Bool). if nat_lt s t then Handshake.Done else (if b then Handshake.Held else Handshake.Due)) (ne_eqb s t other)

stand_own : (t : ℕ) → stand_in (Looking t) t ≡ Handshake.Due
stand_own t = cond-false (nat_lt t t) Handshake.Done Handshake.Due (le-ltb t t (omega arith))

stand_held : (t : ℕ) → stand_in (Returning t) t ≡ Handshake.Held
stand_held t = cond-false (nat_lt t t) Handshake.Done (if t == t then Handshake.Held else Handshake.Due) (le-ltb t t (omega arith)) ∙ cond-true (t == t) Handshake.Held Handshake.Due (eq-eqb t t refl)

stand_returned : (t s : ℕ) → s ≢ t → stand_in (Looking (t + 1)) s ≡ stand_in (Returning t) s
stand_returned t s other = elim (cases_lt s t) [
  | inl below ↦ cond-true (nat_lt s (t + 1)) Handshake.Done Handshake.Due (lt-ltb s (t + 1) (omega arith)) ∙ sym (cond-true (nat_lt s t) Handshake.Done (if s == t then Handshake.Held else Handshake.Due) (lt-ltb s t below))
  | inr past ↦
      cond-false (nat_lt s (t + 1)) Handshake.Done Handshake.Due (le-ltb s (t + 1) (omega arith))
      ∙ sym (cond-false (nat_lt s t) Handshake.Done (if s == t then Handshake.Held else Handshake.Due) (le-ltb s t past) ∙ cond-false (s == t) Handshake.Held Handshake.Due (ne_eqb s t other))
]

stand_done : (t : ℕ) → stand_in (Looking (t + 1)) t ≡ Handshake.Done
stand_done t = cond-true (nat_lt t (t + 1)) Handshake.Done Handshake.Due (lt-ltb t (t + 1) (omega arith))

-- a mutator whose mailbox moves on is settled as before
settled_moved : (from to : Mailbox) (phase : phases.Phase) → (is_uncollected_in from ≡ false → is_uncollected_in to ≡ false) → IsSettledIn from phase → IsSettledIn to phase
settled_moved from to at.Crossing same settled = absurd settled
settled_moved from to at.Swapping same settled = absurd settled
settled_moved from to at.Giving same settled = absurd settled
settled_moved from to at.Leaving same settled = same settled
settled_moved from to at.Retiring same settled = absurd settled
settled_moved from to at.Parting same settled = absurd settled
settled_moved from to _ same settled = tt

-- The next epoch is requested: nobody has crossed into it yet but who left the last one.
module _ (w : Core) (kept : IsKept true w) (idle : w.collector.phase ≡ Idle) (more : w.collector.epoch + 1 ≢ 2 ^ 24) where
  rest : collector_kept.IsAt w.collector Idle
  rest = now_at w Idle kept idle

  spare_newer : (i : ℕ) → i < length w.collector.newer → slice_index_or w.collector.newer i (collectors.blank 0 0) ≡ spare_of w.config
  spare_newer i below = rest.1 i (omega arith) below ∙ its_spare kept.collector

  -- all stay under their epochs, but for the spares of the collector
  request_sums : {Y : Type 0} (g : Y → ℕ) (f : Filed → List Y) → AddsNothing g f w.config → sum_by g (flat_map f (buffers (requesting w))) ≡ sum_by g (flat_map f (buffers w))
  request_sums g f nothing =
      let older : older_at (w.epoch + 1) (Looking 1) ≡ older_at w.epoch w.collector.phase = (let same : w.epoch + 1 - 2 ≡ w.epoch - 1 = omega arith in same ∙ ap (older_at w.epoch) (sym idle)) in
      omega (
        arith,
        buffers_sum g f (requesting w),
        buffers_sum g f w,
        spare_row g f w.config (w.epoch + 1 - 1) w.collector.newer nothing spare_newer,
        spare_row g f w.config (w.epoch - 1) w.collector.newer nothing spare_newer,
        ap (λ e. sum_by (share g f e) w.collector.older) older,
      )

  requests : Requests (pending w) (pending (requesting w))
  requests =
      let some : 1 ≤ w.config.first_epoch = kept.config.some_epoch in
      let begun : w.config.first_epoch + w.collector.collections + collector_kept.under_way w.collector.phase ≡ w.epoch = kept.collector.begun in
      let now : applied_at w.epoch w.collector.phase ≡ w.epoch - 1 = ap (applied_at w.epoch) idle in
      record {
        done = omega (arith, now);
        fields = refl;
        applied = (let same : w.epoch + 1 - 2 ≡ w.epoch - 1 = omega arith in same ∙ sym now);
        requested = refl;
        words = λ weight. refl;
        logs = record {
          writes = λ weight. request_sums weight (λ (b : Filed). writes_in b.buffer.entries) (writes_nothing w.config weight);
          births = λ weight. request_sums weight (λ (b : Filed). births_in b.epoch b.buffer.entries) (births_nothing w.config weight);
          snapshots = λ weight. request_sums weight (λ (b : Filed). dated_names b.epoch b.buffer.snapshot) (snapshots_nothing w.config weight);
        };
        registers = λ weight. refl;
        slots = record { count = λ x _. refl; free = λ x _. refl; released = λ x _. refl; leaf = λ x _. refl };
      }

  -- where a mutator stands then
  request_stands : (t : ℕ) → IsMutator w.config t → IsHandshake w.config (w.epoch + 1) (mutator w t) (crossing_of w t) (box w t) (stand_at w.collector.left (Looking 1) t)
  request_stands t is = elim (cases_Bool (has_left w.collector.left t)) [
    | inl gone ↦
        let g : HasGone w.config w.epoch (mutator w t) (crossing_of w t) (box w t) = subst (IsHandshake w.config w.epoch (mutator w t) (crossing_of w t) (box w t)) (stand_gone w.collector.left w.collector.phase t gone) (kept.mutators.each t is).handshake in
        subst (IsHandshake w.config (w.epoch + 1) (mutator w t) (crossing_of w t) (box w t)) (sym (stand_gone w.collector.left (Looking 1) t gone)) (record { left = g.left; past = omega (arith, g.past); word = g.word; spare = g.spare })
    | inr present ↦
        let some : 1 ≤ t = is.0 in
        let due : stand_at w.collector.left (Looking 1) t ≡ Handshake.Due = stand_present w.collector.left (Looking 1) t present ∙ cond-false (nat_lt t 1) Handshake.Done Handshake.Due (le-ltb t 1 some) in
        let done : IsHandshake w.config w.epoch (mutator w t) (crossing_of w t) (box w t) Handshake.Done
        = subst (IsHandshake w.config w.epoch (mutator w t) (crossing_of w t) (box w t)) (stand_present w.collector.left w.collector.phase t present ∙ ap (λ phase. stand_in phase t) idle) (kept.mutators.each t is).handshake in
        subst (IsHandshake w.config (w.epoch + 1) (mutator w t) (crossing_of w t) (box w t)) (sym due) (becomes_due t is done)
  ]
    where
      becomes_due : (t : ℕ) → IsMutator w.config t → IsHandshake w.config w.epoch (mutator w t) (crossing_of w t) (box w t) Handshake.Done → IsHandshake w.config (w.epoch + 1) (mutator w t) (crossing_of w t) (box w t) Handshake.Due
      becomes_due t is (inl (crossed, stays, spare)) =
          inl (record { epoch = ap (λ n. n + 1) crossed.epoch; word = crossed.word ∙ ap (λ n. crossing_word n Spare) (sym crossed.epoch); here = settled_here Spare (mutator w t).phase crossed.settled; stays = stays; spare = spare })
      becomes_due t is (inr (inl (crosses, parting))) = inr (inl crosses)
      becomes_due t is (inr (inr retired)) =
          let idle_ = (kept.mutators.each t is).own.idle retired.left in
          inr (inr (record { epoch = retired.epoch; word = retired.word; settled = idle_settled Retired (mutator w t).phase idle_ }, retired.last ∙ sym retired.left))

  pub requesting_kept : IsKeptBy true (stand_at w.collector.left (Looking 1)) (requesting w)
  requesting_kept =
      let k = kept.collector in
      let m = kept.mutators in
      let begun : w.config.first_epoch + w.collector.collections + collector_kept.under_way w.collector.phase ≡ w.epoch = k.begun in
      let way : collector_kept.under_way w.collector.phase ≡ 0 = ap collector_kept.under_way idle in
      let last : older_at w.epoch w.collector.phase ≡ w.epoch - 1 = ap (older_at w.epoch) idle in
      let same : w.epoch + 1 - 2 ≡ w.epoch - 1 = omega arith in
      let none : one_if_sweeping w.collector.phase ≡ 0 = ap one_if_sweeping idle in
      record {
        config = kept.config;
        headers = kept.headers;
        labels = kept.labels;
        mutators = record {
          many = m.many;
          words = m.words;
          mailboxes = m.mailboxes;
          each = λ t is. let a = m.each t is in record { own = a.own; log = a.log; unwritten = a.unwritten; unmarked = a.unmarked; let_go = a.let_go; mailbox = a.mailbox; handshake = request_stands t is };
        };
        collector = record {
          machine = awaiting_machine (requested w.collector) (requested_keeps w.collector k.machine idle more) rest.0 (omega (arith, rest.2)) (omega (arith, under_way_at w.collector Idle k.machine idle)) (omega (arith, freed_at w.collector Idle k.machine idle)) (omega (arith, told_at w.collector Idle k.machine idle));
          between = tt;
          slots = k.slots;
          fields = k.fields;
          registers = k.registers;
          capacity = k.capacity;
          policy = k.policy;
          mutators = k.mutators;
          epoch = ap (λ n. n + 1) k.epoch;
          begun = omega (arith, begun, way);
          newer = λ t is.
              let many : length w.collector.newer ≡ w.config.mutators = k.mutators in
              subst (IsBufferOf true w.config (w.epoch + 1 - 1)) (sym (spare_newer (t - 1) (omega (arith, is.0, is.1)))) (spare_buffer w.config (w.epoch + 1 - 1));
          older = λ t is. subst (λ e. IsBufferOf true w.config e (collectors.buffer_at w.collector.older (t - 1))) (last ∙ sym same) (k.older t is);
          listed = k.listed;
          emptied = emptied_in w Idle kept.whole idle;
        };
        sweeps = record { odd = kept.sweeps.odd ∙ none; few = omega (arith, kept.sweeps.few, none); some = tt };
        learnt = kept.learnt;
        made = kept.made;
        sound = kept.sound;
        greens = kept.greens;
        accounted = move_accounted (AccountMove.request requests) kept.accounted;
        uncounted = λ _. move_uncounted (AccountMove.request requests) kept.accounted (kept.uncounted (ap freeing_due idle));
        cycles = sets_wait_moved w.collector.counts (AccountMove.request requests) tt kept.accounted (alive_in w Idle kept.whole idle) (cycles_in w Idle kept.whole idle);
      }

-- a mutator whose mailbox is looked at hasn't crossed, is crossing, or waits for the collector
pub looked_due : {dated : Bool} → (w : Core) (t : ℕ) → IsKept dated w → IsMutator w.config t → w.collector.phase ≡ Looking t → IsHandshake w.config w.epoch (mutator w t) (crossing_of w t) (box w t) Handshake.Due
looked_due w t kept is looks =
    subst (IsHandshake w.config w.epoch (mutator w t) (crossing_of w t) (box w t)) (stand_present w.collector.left w.collector.phase t (now_at w (Looking t) kept looks).present ∙ ap (λ p. stand_in p t) looks ∙ stand_own t)
    (kept.mutators.each t is).handshake

-- One that is waited for hasn't left: its last buffer would be there.
pub awaited_stays : {dated : Bool} → (w : Core) (t : ℕ) → IsKept dated w → IsMutator w.config t → WaitsFor w t → (mutator w t).left ≡ false
awaited_stays w t kept is waits = go (looked_due w t kept is waits.looks)
  where
    go : IsHandshake w.config w.epoch (mutator w t) (crossing_of w t) (box w t) Handshake.Due → (mutator w t).left ≡ false
    go (inl behind) = behind.stays
    go (inr (inl crosses)) = elim (cases_Bool (mutator w t).left) [
      | inl left ↦ absurd (false≢true (sym (idle_here (mutator w t).phase ((kept.mutators.each t is).own.idle left)) ∙ crosses.phase))
      | inr present ↦ present
    ]
    go (inr (inr (crossed, last))) = absurd (waits.behind crossed.word)

-- A mutator's mailbox is taken: the buffer in it is one of the newer ones now, and a spare is left.
module _ (w : Core) (t : ℕ) (kept : IsKept true w) (phase : w.collector.phase ≡ Looking t) (is : IsMutator w.config t) (crossed : crossing_of w t ≡ crossing_word w.epoch Retired) where
  abbrev gathered_by : collectors.Private
  gathered_by = record w.collector { newer = slice_set w.collector.newer (t - 1) (box w t); phase = Returning t; turns = w.collector.turns + 1 }

  abbrev gathered : Core
  gathered = record w { crossing = slice_set w.crossing (t - 1) (crossing_word w.epoch WithCollector); boxes = slice_set w.boxes (t - 1) (collectors.spare w.collector); collector = gathered_by }

  looking : collector_kept.IsAt w.collector (Looking t)
  looking = now_at w (Looking t) kept phase

  spare_there : slice_index_or w.collector.newer (t - 1) (collectors.blank 0 0) ≡ spare_of w.config
  spare_there =
      let many : length w.collector.newer ≡ w.config.mutators = kept.collector.mutators in
      looking.spares (t - 1) (omega arith) (omega (arith, is.0, is.1)) ∙ its_spare kept.collector

  -- it has crossed, and the buffer there is marked just where it has left
  has_retired : HasCrossed w.epoch (mutator w t) (crossing_of w t) Retired × ((box w t).last ≡ (mutator w t).left)
  has_retired =
      elim (looked_due w t kept is phase) [
        | inl behind ↦ let word : crossing_of w t ≡ crossing_word (mutator w t).epoch Spare = behind.word in absurd (omega (arith, word, crossed))
        | inr others ↦ elim others [
          | inl crosses ↦ let word : crossing_of w t ≡ crossing_word w.epoch WithMutator = crosses.word in absurd (omega (arith, word, crossed))
          | inr done ↦ done
        ]
      ]

  has_crossed : HasCrossed w.epoch (mutator w t) (crossing_of w t) Retired
  has_crossed = has_retired.0

  gather_sums : {Y : Type 0} (g : Y → ℕ) (f : Filed → List Y) → AddsNothing g f w.config → sum_by g (flat_map f (buffers gathered)) ≡ sum_by g (flat_map f (buffers w))
  gather_sums g f nothing =
      let many : length w.collector.newer ≡ w.config.mutators = kept.collector.mutators in
      let boxes : length w.boxes ≡ w.config.mutators = kept.mutators.mailboxes in
      let all : length w.mutators ≡ w.config.mutators = kept.mutators.many in
      let older : older_at w.epoch w.collector.phase ≡ w.epoch - 2 = ap (older_at w.epoch) phase in
      omega (
        arith,
        buffers_sum g f gathered,
        buffers_sum g f w,
        zip_sum-set_second (box_share g f) w.mutators w.boxes (t - 1) nobody (collectors.spare w.collector) (collectors.blank 0 0) (omega (arith, all, is.0, is.1)) (omega (arith, is.0, is.1)),
        sum_by-set (share g f (w.epoch - 1)) w.collector.newer (t - 1) (box w t) (collectors.blank 0 0) (omega (arith, is.0, is.1)),
        ap (share g f (epoch_at (mutator w t) - 1)) (its_spare kept.collector),
        ap (share g f (w.epoch - 1)) spare_there,
        ap (λ e. share g f (e - 1) (box w t)) (crossed_here has_crossed),
        nothing.nothing (epoch_at (mutator w t) - 1),
        nothing.nothing (w.epoch - 1),
        ap (λ e. sum_by (share g f e) w.collector.older) older,
      )

  pub gathered_kept : collector_kept.IsMachine gathered_by → IsKept true gathered
  gathered_kept machine =
      let k = kept.collector in
      let a = kept.mutators.each t is in
      let way : collector_kept.under_way w.collector.phase ≡ 1 = ap collector_kept.under_way phase in
      let older : older_at w.epoch w.collector.phase ≡ w.epoch - 2 = ap (older_at w.epoch) phase in
      let none : one_if_sweeping w.collector.phase ≡ 0 = ap one_if_sweeping phase in
      let applied : applied_at w.epoch w.collector.phase ≡ w.epoch - 2 = ap (applied_at w.epoch) phase in
      let drops : Drops (pending w) (record (pending gathered) { applied = (pending w).applied }) = same_drops (pending w) (pending gathered)
      (λ weight. gather_sums weight (λ (b : Filed). writes_in b.buffer.entries) (writes_nothing w.config weight))
      (λ weight. gather_sums weight (λ (b : Filed). births_in b.epoch b.buffer.entries) (births_nothing w.config weight))
      (λ weight. gather_sums weight (λ (b : Filed). dated_names b.epoch b.buffer.snapshot) (snapshots_nothing w.config weight)) in
      let many : length w.collector.newer ≡ w.config.mutators = k.mutators in
      record {
        whole = record {
          config = kept.config;
          headers = kept.headers;
          labels = kept.labels;
          mutators = collector_moves t (crossing_word w.epoch WithCollector) (collectors.spare w.collector) kept.mutators is
              (record {
                own = a.own;
                log = a.log;
                unwritten = a.unwritten;
                unmarked = a.unmarked;
                let_go = a.let_go;
                mailbox = subst (IsBufferOf true w.config (epoch_at (mutator w t) - 1)) (sym (its_spare k)) (spare_buffer w.config (epoch_at (mutator w t) - 1));
                handshake = subst (IsHandshake w.config w.epoch (mutator w t) (crossing_word w.epoch WithCollector) (collectors.spare w.collector)) (sym (stand_present w.collector.left (Returning t) t looking.present ∙ stand_held t))
                    (record { epoch = has_crossed.epoch; word = refl; settled = settled_moved Retired WithCollector (mutator w t).phase (λ collected. collected) has_crossed.settled }, its_spare k);
              })
              (λ s there other. stands_as w.collector.left s (stand_looked t s other ∙ sym (ap (λ p. stand_in p s) phase)));
          collector = record {
            machine = machine;
            between = tt;
            slots = k.slots;
            fields = k.fields;
            registers = k.registers;
            capacity = k.capacity;
            policy = k.policy;
            mutators = length-set w.collector.newer (t - 1) (box w t) ∙ many;
            epoch = k.epoch;
            begun = omega (arith, k.begun, way);
            newer = λ s there. elim (cases_eq s t) [
              | inl same ↦
                  let at : slice_index_or (slice_set w.collector.newer (t - 1) (box w t)) (s - 1) (collectors.blank 0 0) ≡ box w t
                  = ap (λ n. slice_index_or (slice_set w.collector.newer (t - 1) (box w t)) (n - 1) (collectors.blank 0 0)) same ∙ get_or-set_same w.collector.newer (t - 1) (box w t) (collectors.blank 0 0) (omega (arith, is.0, is.1)) in
                  subst (IsBufferOf true w.config (w.epoch - 1)) (sym at) (subst (λ e. IsBufferOf true w.config (e - 1) (box w t)) (crossed_here has_crossed) a.mailbox)
              | inr other ↦
                  let apart : (s - 1) ≢ (t - 1) = λ e. other (omega (arith, is.0, there.0)) in
                  subst (IsBufferOf true w.config (w.epoch - 1)) (sym (get_or-set_other w.collector.newer (t - 1) (s - 1) (box w t) (collectors.blank 0 0) apart)) (k.newer s there)
            ];
            older = λ s there. subst (λ e. IsBufferOf true w.config e (collectors.buffer_at w.collector.older (s - 1))) older (k.older s there);
            listed = k.listed;
            emptied = emptied_in w (Looking t) kept.whole phase;
          };
          sweeps = record { odd = kept.sweeps.odd ∙ none; few = omega (arith, kept.sweeps.few, none); some = tt };
          learnt = kept.learnt;
          made = kept.made;
          sound = kept.sound;
          greens = kept.greens;
          accounted = subst (λ n. IsAccounted (record (pending gathered) { applied = n })) applied (move_accounted (AccountMove.dropping drops) kept.accounted);
          uncounted = λ _. move_uncounted (AccountMove.dropping drops) kept.accounted (kept.uncounted (ap freeing_due phase));
          cycles = subst (λ n. SetsWait (record (pending gathered) { applied = n }) w.collector.counts) applied
              (sets_wait_moved w.collector.counts (AccountMove.dropping drops) tt kept.accounted (alive_in w (Looking t) kept.whole phase) (cycles_in w (Looking t) kept.whole phase));
        };
        held = (looking.present, ap (λ (b : Contents). b.last) (get_or-set_same w.collector.newer (t - 1) (box w t) (collectors.blank 0 0) (omega (arith, is.0, is.1, many))) ∙ has_retired.1);
        behind = tt;
      }

-- A mailbox is given back: if the last buffer of its mutator came from there, that has left.
module _ (w : Core) (t : ℕ) (kept : IsKept true w) (phase : w.collector.phase ≡ Returning t) (is : IsMutator w.config t) where
  -- the collector knows of it then
  abbrev now_left : List Bool
  now_left = (noted w.collector t).left

  held : (has_left w.collector.left t ≡ false) × ((collectors.buffer_at w.collector.newer (t - 1)).last ≡ (mutator w t).left)
  held = subst (IsHeldAt w) phase kept.held

  -- its mailbox is home with a spare
  returned_home : HasCrossed w.epoch (mutator w t) (crossing_of w t) WithCollector × (box w t ≡ spare_of w.config)
  returned_home = subst (IsHandshake w.config w.epoch (mutator w t) (crossing_of w t) (box w t)) (stand_present w.collector.left w.collector.phase t held.0 ∙ ap (λ p. stand_in p t) phase ∙ stand_held t) (kept.mutators.each t is).handshake

  noted_own : has_left now_left t ≡ (mutator w t).left
  noted_own =
      let many : length w.collector.newer ≡ w.config.mutators = kept.collector.mutators in
      get_or-set_same w.collector.left (t - 1) (collectors.buffer_at w.collector.newer (t - 1)).last false (omega (arith, is.0, is.1, many, kept.collector.machine.left)) ∙ held.1

  noted_other : (s : ℕ) → IsMutator w.config s → s ≢ t → has_left now_left s ≡ has_left w.collector.left s
  noted_other s there other = get_or-set_other w.collector.left (t - 1) (s - 1) (collectors.buffer_at w.collector.newer (t - 1)).last false (λ e. other (omega (arith, e, is.0, there.0)))

  -- and says so
  returned_stands : IsHandshake w.config w.epoch (mutator w t) (crossing_word w.epoch Spare) (box w t) (stand_at now_left (Looking (t + 1)) t)
  returned_stands =
      let (crossed, spare) = returned_home in
      elim (cases_Bool (mutator w t).left) [
        | inl gone ↦
            subst (IsHandshake w.config w.epoch (mutator w t) (crossing_word w.epoch Spare) (box w t)) (sym (stand_gone now_left (Looking (t + 1)) t (noted_own ∙ gone)))
            (record { left = gone; past = omega (arith, crossed.epoch); word = ap (λ n. crossing_word n Spare) (sym crossed.epoch); spare = spare })
        | inr stays ↦
            subst (IsHandshake w.config w.epoch (mutator w t) (crossing_word w.epoch Spare) (box w t)) (sym (stand_present now_left (Looking (t + 1)) t (noted_own ∙ stays) ∙ stand_done t))
            (inl (record { epoch = crossed.epoch; word = refl; settled = settled_moved WithCollector Spare (mutator w t).phase (λ _. refl) crossed.settled }, stays, spare))
      ]

  returned_mutators : HasMutators true w.config w.epoch (stand_at now_left (Looking (t + 1))) w.mutators (crossing_with w t Spare) w.boxes
  returned_mutators =
      let a = kept.mutators.each t is in
      subst (λ (bs : List Contents). HasMutators true w.config w.epoch (stand_at now_left (Looking (t + 1))) w.mutators (crossing_with w t Spare) bs) (same_boxes w t)
      (collector_moves t (crossing_word w.epoch Spare) (box w t) kept.mutators is
      (record { own = a.own; log = a.log; unwritten = a.unwritten; unmarked = a.unmarked; let_go = a.let_go; mailbox = a.mailbox; handshake = returned_stands })
      (λ s there other.
      ap (λ (gone : Bool). if gone then Handshake.Gone else stand_in (Looking (t + 1)) s) (noted_other s there other)
      ∙ stands_as w.collector.left s (stand_returned t s other ∙ sym (ap (λ p. stand_in p s) phase))))

  pub giving_back_kept : IsKeptBy true (stand_at now_left (Looking (t + 1))) (giving_back w t)
  giving_back_kept =
      let k = kept.collector in
      let now : collector_kept.IsAt w.collector (Returning t) = now_at w (Returning t) kept phase in
      let way : collector_kept.under_way w.collector.phase ≡ 1 = ap collector_kept.under_way phase in
      let older : older_at w.epoch w.collector.phase ≡ w.epoch - 2 = ap (older_at w.epoch) phase in
      let none : one_if_sweeping w.collector.phase ≡ 0 = ap one_if_sweeping phase in
      let same : pending (giving_back w t) ≡ pending w = rw phase refl in
      record {
        config = kept.config;
        headers = kept.headers;
        labels = kept.labels;
        mutators = returned_mutators;
        collector = record {
          machine = awaiting_machine (noted w.collector t) (noted_keeps w.collector t k.machine phase) now.rest (omega (arith, now.turns, now.there)) (under_way_at w.collector (Returning t) k.machine phase) (omega (arith, freed_at w.collector (Returning t) k.machine phase)) (omega (arith, told_at w.collector (Returning t) k.machine phase));
          between = tt;
          slots = k.slots;
          fields = k.fields;
          registers = k.registers;
          capacity = k.capacity;
          policy = k.policy;
          mutators = k.mutators;
          epoch = k.epoch;
          begun = omega (arith, k.begun, way);
          newer = k.newer;
          older = λ s there. subst (λ e. IsBufferOf true w.config e (collectors.buffer_at w.collector.older (s - 1))) older (k.older s there);
          listed = k.listed;
          emptied = emptied_in w (Returning t) kept.whole phase;
        };
        sweeps = record { odd = kept.sweeps.odd ∙ none; few = omega (arith, kept.sweeps.few, none); some = tt };
        learnt = kept.learnt;
        made = kept.made;
        sound = kept.sound;
        greens = kept.greens;
        accounted = subst IsAccounted (sym same) kept.accounted;
        uncounted = λ _. subst HasUncountedReleased (sym same) (kept.uncounted (ap freeing_due phase));
        cycles = subst (λ x. SetsWait x w.collector.counts) (sym same) (cycles_in w (Returning t) kept.whole phase);
      }

-- Behind a mutator the next one follows, or none.
module _ (u : Core) (t : ℕ) (kept : IsKeptBy true (stand_at u.collector.left (Looking (t + 1))) u) (n : ℕ) (phase : u.collector.phase ≡ Returning n) where
  -- each mutator stands as where the next one's mailbox is looked at
  next_stands : (next s : ℕ) → IsNextPresent u.collector.left t next → stand_at u.collector.left (Looking next) s ≡ stand_at u.collector.left (Looking (t + 1)) s
  next_stands next s found = elim (cases_Bool (has_left u.collector.left s)) [
    | inl gone ↦ stand_gone u.collector.left (Looking next) s gone ∙ sym (stand_gone u.collector.left (Looking (t + 1)) s gone)
    | inr present ↦ stand_present u.collector.left (Looking next) s present ∙ of_present present ∙ sym (stand_present u.collector.left (Looking (t + 1)) s present)
  ]
    where
      of_present : has_left u.collector.left s ≡ false → stand_in (Looking next) s ≡ stand_in (Looking (t + 1)) s
      of_present present = elim (cases_lt t s) [
        | inr up ↦ cond-true (nat_lt s next) Handshake.Done Handshake.Due (lt-ltb s next (omega (arith, up, found.behind))) ∙ sym (cond-true (nat_lt s (t + 1)) Handshake.Done Handshake.Due (lt-ltb s (t + 1) (omega (arith, up))))
        | inl behind ↦ elim (cases_lt s next) [
          | inl passed ↦ absurd (false≢true (sym present ∙ found.passed s behind passed))
          | inr on ↦ cond-false (nat_lt s next) Handshake.Done Handshake.Due (le-ltb s next on) ∙ sym (cond-false (nat_lt s (t + 1)) Handshake.Done Handshake.Due (le-ltb s (t + 1) (omega (arith, behind))))
        ]
      ]

  pub next_kept : (next : ℕ) → IsNextPresent u.collector.left t next → collector_kept.IsMachine (moved u.collector (Looking next)) → IsKept true (record u { collector = moved u.collector (Looking next) })
  next_kept next found machine =
      let k = kept.collector in
      let way : collector_kept.under_way u.collector.phase ≡ 1 = ap collector_kept.under_way phase in
      let older : older_at u.epoch u.collector.phase ≡ u.epoch - 2 = ap (older_at u.epoch) phase in
      let none : one_if_sweeping u.collector.phase ≡ 0 = ap one_if_sweeping phase in
      let v : Core = record u { collector = moved u.collector (Looking next) } in
      let same : pending v ≡ pending u = rw phase refl in
      record {
        whole = record {
          config = kept.config;
          headers = kept.headers;
          labels = kept.labels;
          mutators = phase_moves kept.mutators (λ s there. next_stands next s found);
          collector = record {
            machine = machine;
            between = tt;
            slots = k.slots;
            fields = k.fields;
            registers = k.registers;
            capacity = k.capacity;
            policy = k.policy;
            mutators = k.mutators;
            epoch = k.epoch;
            begun = omega (arith, k.begun, way);
            newer = k.newer;
            older = λ s there. subst (λ e. IsBufferOf true u.config e (collectors.buffer_at u.collector.older (s - 1))) older (k.older s there);
            listed = k.listed;
            emptied = emptied_in u (Returning n) kept phase;
          };
          sweeps = record { odd = kept.sweeps.odd ∙ none; few = omega (arith, kept.sweeps.few, none); some = tt };
          learnt = kept.learnt;
          made = kept.made;
          sound = kept.sound;
          greens = kept.greens;
          accounted = subst IsAccounted (sym same) kept.accounted;
          uncounted = λ _. subst HasUncountedReleased (sym same) (kept.uncounted (ap freeing_due phase));
          cycles = subst (λ x. SetsWait x u.collector.counts) (sym same) (cycles_in u (Returning n) kept phase);
        };
        held = tt;
        behind = tt;
      }

  -- every mailbox is home where nobody follows
  home_kept : HaveLeft u.collector.left t → IsKeptBy true (stand_at u.collector.left Opening) u
  home_kept gone =
      let many : length u.collector.newer ≡ u.config.mutators = kept.collector.mutators in
      record {
        config = kept.config;
        headers = kept.headers;
        labels = kept.labels;
        mutators = phase_moves kept.mutators (λ s there. elim (cases_Bool (has_left u.collector.left s)) [
          | inl left ↦ stand_gone u.collector.left Opening s left ∙ sym (stand_gone u.collector.left (Looking (t + 1)) s left)
          | inr present ↦ elim (cases_lt t s) [
            | inl behind ↦ absurd (false≢true (sym present ∙ gone s behind (omega (arith, there.1, many, kept.collector.machine.left))))
            | inr up ↦ stand_present u.collector.left Opening s present ∙ sym (stand_present u.collector.left (Looking (t + 1)) s present ∙ cond-true (nat_lt s (t + 1)) Handshake.Done Handshake.Due (lt-ltb s (t + 1) (omega (arith, up))))
          ]
        ]);
        collector = kept.collector;
        sweeps = kept.sweeps;
        learnt = kept.learnt;
        made = kept.made;
        sound = kept.sound;
        greens = kept.greens;
        accounted = kept.accounted;
        uncounted = kept.uncounted;
        cycles = kept.cycles;
      }

-- What a turn finds that applies the batch: every mailbox is home.
pub awaits_kept : (w u : Core) → IsKept true w → Awaits w u → IsKeptBy true (stand_at u.collector.left Opening) u
awaits_kept w _ kept (Awaits.alone idle more gone) =
    home_kept (requesting w) 0 (requesting_kept w kept idle (λ last. more (ap (λ n. n + 1) (sym kept.collector.epoch) ∙ last))) (length w.collector.newer) refl gone
awaits_kept w _ kept (Awaits.last t is phase gone) = home_kept (giving_back w t) t (giving_back_kept w t kept phase is) (length w.collector.newer) refl gone
