-- The steps of a crossing keep what every heap with its collector keeps, and so does the begin of a work.
use Rattle.std.proofs.Common.{◌≡◌, ◌⊎◌, inl, inr, ℕ, ◌+◌, ◌-◌, ◌*◌, ◌^◌, ◌<◌, ◌≤◌, ◌==◌, ◌||◌, nat_lt, if◌then◌else◌, Bool, true, false, List, Option, None, Some, length, slice_index_or, slice_set, refl, sym, ap, subst, ◌∙◌, arith, add-zero}
use Rattle.std.specs.List.{sum_by}
use Rattle.std.proofs.Math.Nat.{add-mul}
use Rattle.std.proofs.lemmas.Bool.{false≢true, cases_Bool, cond-false, cond-true, eq-eqb, le-ltb}
use Rattle.std.proofs.lemmas.List.{length-replicate}
use Rattle.std.proofs.lemmas.List.Elements.{All-get_or}
use Rattle.rec_core.proofs.Common.{crossing_word, Retired, WithMutator, IsAccounted, AccountMove, IsSound, IsTaken, move_uncounted, move_accounted, Contents, next_of, next_at, Private, is_busy, IsMachine, IsValid, is_busy_at, IsFitting, begun_of, took_of, took_at, swapped_of, swapped_at, left_of, left_at, retired, IsFound, IsRequested, step_made, learnt_made, step_between, TakesNone, Phase, Looking, Swapping, Returning, has_left, cell, Config, IsMutator, HasLabel, Core, cells_of, sight, mutator, box, crossing_of, spare_of, with_mutator, IsSettledIn, HasLabelAt, IsOwn, IsBufferOf, Handshake, stand_at, stand_in, IsBehind, IsCrossing, IsHandshake, IsActor, IsHeldAt, HasLearnt, LetGo, entries_made, IsKept, HasMutators, IsHeader, performed, found_by, stepped, begun_from, epoch_at, has_let_go, is_parting, applied_at, pending}
use Rattle.rec_word.specs.declared.op.Op.TheVariants as ops
use Rattle.rec_model.specs.Asking.{plain}
use Rattle.rec_model.specs.Reach.{named}
use Rattle.rec_model.specs.declared.answer.Answer.TheVariants as answers
use Rattle.rec_model.specs.declared.command.Cmd.TheVariants as commands
use Rattle.rec_model.proofs.Opened.{named-nones}
use Rattle.rec_mutator.specs.Causes.{gives_back}
use Rattle.rec_mutator.specs.Step.{Crosses, TakesBox}
use Rattle.rec_mutator.specs.Took.{last_of, nulls_of, step_of, IsBetween}
use Rattle.rec_mutator.specs.declared.made.Made.TheVariants as makes
use Rattle.rec_mutator.specs.declared.phase.Phase as phases
use Rattle.rec_mutator.specs.declared.phase.Phase.TheVariants as at
use Rattle.rec_mutator.specs.declared.work.Work.{Work}
use Rattle.rec_mutator.specs.declared.work.Work.TheVariants as works
use Rattle.rec_mutator.proofs.Found.{finds_fitting}
use Rattle.rec_collector.specs.Kept.{under_way}
use Rattle.rec_core.proofs.Actors.{actor_stays, crossing_due, epoch_here, epoch_next, giving_crosses, holds_registers, idle_here, idle_of, left_let_go, not_parting, others_stay, own_stepped, spare_buffer}
use Rattle.rec_core.proofs.Cycling.{cycles_moved, machine_alive}
use Rattle.rec_core.proofs.Leaving.{leave_sound, leaves_at_last, leaves_last, leaving_of, lets_go, registers_leave}
use Rattle.rec_core.proofs.Moves.{same_pending, crossing_amid, crossing_drops, leaving_moves}
use Rattle.rec_core.proofs.Rules.{performed_kept}
use Rattle.rec_core.proofs.Shapes.{after_take, after_give, same_boxes}
use Rattle.rec_core.proofs.Steps.{HasAccounts, Makes, actor_of, stand_of, stays_here, in_list, its_box, register_taken, taken_slot, learnt_stays, entries_stay, registers_stay, quiet_kept, held_after, moved_accounts, stayed_accounts, same_entries}

-- a step that takes the own mailbox
pub takes : (p : Private) (word : ℕ) (b : Contents) → p.phase ≡ at.Crossing → Crosses p (next_of p) (step_of p word b) at.Crossing (ops.TakeBox p.number (p.epoch + 1)) p.epoch b at.Giving
unfolding next_of next_at took_of took_at swapped_of swapped_at step_of
takes p word b is = record { phase = is; operation = ap (next_at p) is; after = ap (λ x. swapped_of (took_at p word x) b) is }

-- it leaves the retired log there
leaves : (p : Private) (word : ℕ) (b : Contents) → p.phase ≡ at.Crossing → left_of (took_of p word) b ≡ retired p
unfolding took_of took_at left_of left_at
leaves p word b is = ap (λ x. left_of (took_at p word x) b) is

-- a step that gives it back
gives : (p : Private) (word : ℕ) (b : Contents) → p.phase ≡ at.Giving
    → Crosses p (next_of p) (step_of p word b) at.Giving (ops.GiveBox p.number (p.epoch + 1)) (p.epoch + 1) p.log (at.Finished works.Poll (makes.Crossed (Some (p.epoch + 1))))
unfolding next_of next_at took_of took_at swapped_of swapped_at step_of
gives p word b is = record { phase = is; operation = ap (next_at p) is; after = ap (λ x. swapped_of (took_at p word x) b) is }

-- where nobody's mailbox waits to be swapped, it holds what it held
pub left_same : (q : Private) (b : Contents) → IsBetween q.phase → left_of q b ≡ b
unfolding left_of left_at
left_same q b is = same_at q b q.phase is
  where
    same_at : (r : Private) (c : Contents) (phase : phases.Phase) → IsBetween phase → left_at r c phase ≡ c
    same_at r c at.Swapping is = absurd is
    same_at r c at.Retiring is = absurd is
    same_at r c _ is = refl

-- a mutator whose turn in a gathering is to come: the batch of the epoch before the last is the last one
pub due_gathers : (requested t : ℕ) (left : List Bool) (phase : Phase) → stand_at left phase t ≡ Handshake.Due → (applied_at requested phase ≡ requested - 2) × (under_way phase ≡ 1)
due_gathers requested t left phase = go (has_left left t) phase
  where
    go : (gone : Bool) (p : Phase) → (if gone then Handshake.Gone else stand_in p t) ≡ Handshake.Due → (applied_at requested p ≡ requested - 2) × (under_way p ≡ 1)
    go true p due = cc
    go false (Looking u) due = (refl, refl)
    go false (Swapping u) due = (refl, refl)
    go false (Returning u) due = (refl, refl)
    go false _ due = cc

-- one whose mailbox is held stands so
pub held_stands : {dated : Bool} → (w : Core) (t : ℕ) → IsKept dated w → w.collector.phase ≡ Returning t → stand_of w t ≡ Handshake.Held
held_stands w t kept phase =
    let held : IsHeldAt w (Returning t) = subst (IsHeldAt w) phase kept.held in
    ap (λ (x : Phase). stand_at w.collector.left x t) phase ∙ cond-false (has_left w.collector.left t) Handshake.Gone (stand_in (Returning t) t) held.0
    ∙ cond-false (nat_lt t t) Handshake.Done (if t == t then Handshake.Held else Handshake.Due) (le-ltb t t (omega arith))
    ∙ cond-true (t == t) Handshake.Held Handshake.Due (eq-eqb t t refl)

-- one mailbox of a heap
boxed : {dated : Bool} → (w : Core) (t : ℕ) → IsKept dated w → IsMutator w.config t → t - 1 < length w.boxes
boxed w t kept is = let many : length w.boxes ≡ w.config.mutators = kept.mutators.mailboxes in omega (arith, is.0, is.1)

-- a mutator that is about to take its mailbox to cross is behind, and its turn in the gathering is to come
pub behind_of : {dated : Bool} → (w : Core) (t : ℕ) → IsKept dated w → IsMutator w.config t → (mutator w t).phase ≡ at.Crossing → (stand_of w t ≡ Handshake.Due) × IsBehind w.config w.epoch (mutator w t) (crossing_of w t) (box w t)
behind_of w t kept is phase = crossing_due w.config w.epoch (mutator w t) (crossing_of w t) (box w t) (stand_of w t) (stays_here w t kept is (ap is_busy_at phase)) phase (actor_of w t kept is).handshake

-- one that is about to give its mailbox back at the end of a poll is crossing, and its turn in the gathering is to come
pub giving_of : {dated : Bool} → (w : Core) (t : ℕ) → IsKept dated w → IsMutator w.config t → (mutator w t).phase ≡ at.Giving → (stand_of w t ≡ Handshake.Due) × IsCrossing w.config w.epoch (mutator w t) (crossing_of w t) (box w t)
giving_of w t kept is phase =
    elim (giving_crosses w.config w.epoch (mutator w t) (crossing_of w t) (box w t) (stand_of w t) (stays_here w t kept is (ap is_busy_at phase)) (ap gives_back phase) (actor_of w t kept is).handshake) [
      | inl crosses ↦ crosses
      | inr leaves ↦ absurd (let no : at.Giving ≡ at.Parting = sym phase ∙ leaves.2 in (cc))
    ]

-- with this mutator, this crossing word and this in its mailbox
abbrev exchanged : Core → (t word : ℕ) → Private → Contents → Core
exchanged w t word q b = record (with_mutator w t q) { crossing = slice_set w.crossing ((mutator w t).number - 1) word; boxes = slice_set w.boxes (t - 1) b }

-- A heap in which a mutator has taken its mailbox, or given it back, is kept where each part of it is.
exchanged_kept : (w : Core) (t word : ℕ) (q : Private) (b : Contents) → IsKept true w → IsMutator w.config t → IsActor true w.config w.epoch (stand_of w t) t q word b
    → HasLearnt w.config.slots w.headers w.freed q.from q.phase → entries_made w.config (mutator w t) + 0 ≤ entries_made w.config q → (w.collector.phase ≡ Returning t → q.left ≡ (mutator w t).left)
    → IsSound (sight (with_mutator w t q)) → HasAccounts w (pending (exchanged w t word q b)) → IsKept true (exchanged w t word q b)
exchanged_kept w t word q b kept is actor learnt more left sound accounts =
    let number : (mutator w t).number ≡ t = (actor_of w t kept is).own.number in
    record {
      whole = record {
        config = kept.config;
        headers = kept.headers;
        labels = kept.labels;
        mutators = subst (λ (n : ℕ). HasMutators true w.config w.epoch (stand_at w.collector.left w.collector.phase) (slice_set w.mutators (t - 1) q) (slice_set w.crossing (n - 1) word) (slice_set w.boxes (t - 1) b)) (sym number)
            (others_stay t q word b kept.mutators is actor);
        collector = kept.collector;
        sweeps = kept.sweeps;
        learnt = learnt_stays w t q w.headers kept is learnt (λ s taken. refl);
        made = subst (λ (n : ℕ). n ≤ w.config.slots + sum_by (entries_made w.config) (slice_set w.mutators (t - 1) q)) (add-zero w.made) (entries_stay w t 0 q kept is more);
        sound = sound;
        greens = kept.greens;
        accounted = accounts.accounted;
        uncounted = accounts.uncounted;
        cycles = accounts.cycles;
      };
      held = held_after w (exchanged w t word q b) t q kept is refl refl left;
      behind = tt;
    }

-- the entries of a full log stand for those of the log that is retired
retired_entries : (config : Config) (p q : Private) → config.first_epoch ≤ p.epoch → length p.log.entries ≤ config.log_entries → epoch_at p ≡ p.epoch → epoch_at q ≡ p.epoch + 1 → q.log ≡ spare_of config → entries_made config p + 0 ≤ entries_made config q
retired_entries config p q early few at_p at_q log =
    let before : entries_made config p ≡ (p.epoch - config.first_epoch) * config.log_entries + length p.log.entries = ap (λ e. (e - config.first_epoch) * config.log_entries + length p.log.entries) at_p in
    let after : entries_made config q ≡ (p.epoch + 1 - config.first_epoch) * config.log_entries + 0
    = ap (λ e. (e - config.first_epoch) * config.log_entries + length q.log.entries) at_q ∙ ap (λ (x : Contents). (p.epoch + 1 - config.first_epoch) * config.log_entries + length x.entries) log in
    let more : p.epoch + 1 - config.first_epoch ≡ (p.epoch - config.first_epoch) + 1 = omega arith in
    let product : (p.epoch + 1 - config.first_epoch) * config.log_entries ≡ (p.epoch - config.first_epoch) * config.log_entries + 1 * config.log_entries
    = ap (λ n. n * config.log_entries) more ∙ add-mul (p.epoch - config.first_epoch) 1 config.log_entries in
    omega (arith, product, before, after)

-- a log that is retired is a buffer of the epoch that it was written in
retired_buffer : (config : Config) (epoch : ℕ) (log : Contents) (names : List (Option ℕ)) (last : Bool) → IsBufferOf true config epoch log → length names ≡ config.registers → IsBufferOf true config epoch (record log { snapshot = names; last = last })
retired_buffer config epoch log names last is many = record { snapshot = many; capacity = is.capacity; few = is.few; made = is.made }

-- a mutator takes its mailbox to cross
taken_kept : (w : Core) (t : ℕ) → IsKept true w → IsMutator w.config t → is_busy (mutator w t) ≡ true → IsFound (mutator w t) (next_of (mutator w t)) (found_by w t) → (mutator w t).phase ≡ at.Crossing → IsKept true (stepped w t)
taken_kept w t kept is busy may phase =
    let p : Private = mutator w t in
    let word : ℕ = found_by w t in
    let q : Private = step_of p word (box w t) in
    let b : Contents = left_of (took_of p word) (box w t) in
    let c = takes p word (box w t) phase in
    let actor = actor_of w t kept is in
    let stays : p.left ≡ false = stays_here w t kept is busy in
    let left : b ≡ retired p = leaves p word (box w t) phase in
    let here : gives_back p.phase ≡ false = ap gives_back phase in
    let (due, behind) = behind_of w t kept is phase in
    let (gathers, way) = due_gathers w.epoch t w.collector.left w.collector.phase due in
    let epoch : p.epoch + 1 ≡ w.epoch = behind.epoch in
    let q_phase : q.phase ≡ at.Giving = ap (λ (x : Private). x.phase) c.after in
    let q_epoch : q.epoch ≡ p.epoch = ap (λ (x : Private). x.epoch) c.after in
    let q_left : q.left ≡ p.left = ap (λ (x : Private). x.left) c.after in
    let q_log : q.log ≡ spare_of w.config = ap (λ (x : Private). x.log) c.after ∙ behind.spare in
    let q_registers : q.registers ≡ p.registers = ap (λ (x : Private). x.registers) c.after in
    let at_p : epoch_at p ≡ p.epoch = epoch_here p here in
    let at_q : epoch_at q ≡ p.epoch + 1 = epoch_next q (ap gives_back q_phase) ∙ ap (λ n. n + 1) q_epoch in
    let begun : w.config.first_epoch + w.collector.collections + under_way w.collector.phase ≡ w.epoch = kept.collector.begun in
    let first : 1 ≤ w.config.first_epoch = kept.config.some_epoch in
    let last : epoch_at q - 1 ≡ p.epoch = omega (arith, at_q) in
    let unapplied : (pending w).applied < p.epoch = omega (arith, gathers, way) in
    let its_word : ℕ = crossing_word (p.epoch + 1) WithMutator in
    let crossings : List ℕ = slice_set w.crossing (p.number - 1) its_word in
    let own : IsOwn true w.config t q = own_stepped actor.own (its_box w t kept is) may (step_made p word (box w t) busy actor.own.between) (subst HasLabelAt (sym q_phase) tt) (idle_of p q stays q_left) in
    let held : has_let_go p ≡ false = holds_registers p stays (not_parting p.phase here) in
    let holds : has_let_go q ≡ false = holds_registers q (q_left ∙ stays) (ap is_parting q_phase) in
    let q_actor : IsActor true w.config w.epoch (stand_of w t) t q its_word b
    = record {
      own = own;
      log = subst (IsBufferOf true w.config (epoch_at q)) (sym q_log) (spare_buffer w.config (epoch_at q));
      unwritten = ap (λ (x : Contents). named x.snapshot) q_log ∙ named-nones w.config.registers;
      unmarked = ap (λ (x : Contents). x.last) q_log;
      let_go = λ gone. absurd (false≢true (sym holds ∙ gone));
      mailbox = subst (IsBufferOf true w.config (epoch_at q - 1)) (sym left) (retired_buffer w.config (epoch_at q - 1) p.log p.registers p.log.last (subst (λ (e : ℕ). IsBufferOf true w.config e p.log) (at_p ∙ sym last) actor.log) actor.own.registers);
      handshake = subst (IsHandshake w.config w.epoch q its_word b) (sym due)
          (inr (inl (record {
            epoch = ap (λ n. n + 1) q_epoch ∙ epoch;
            phase = ap gives_back q_phase;
            word = ap (λ n. crossing_word n WithMutator) epoch;
            spare = q_log;
            last = ap (λ (x : Contents). x.last) left ∙ actor.unmarked ∙ sym (ap is_parting q_phase);
          })));
    } in
    let amid = crossing_amid w t q b crossings (in_list w t kept is) (boxed w t kept is) p.epoch epoch unapplied at_p at_q held holds q_registers behind.spare q_log left in
    let drops = crossing_drops w t q b crossings (in_list w t kept is) (boxed w t kept is) p.epoch last actor.unwritten behind.spare q_log left in
    let half : IsAccounted _ = move_accounted (AccountMove.crossing amid) kept.accounted in
    let alive = machine_alive w.collector w.collector.phase kept.collector.machine kept.collector.machine.now in
    let many : length p.log.entries ≤ p.log.capacity = actor.log.few in
    let capacity : p.log.capacity ≡ w.config.log_entries = actor.own.capacity in
    let whole : IsKept true (exchanged w t its_word q b)
    = exchanged_kept w t its_word q b kept is q_actor (subst (HasLearnt w.config.slots w.headers w.freed q.from) (sym q_phase) tt) (retired_entries w.config p q (omega arith) (omega arith) at_p at_q q_log) (λ _. q_left)
    (subst (λ (rss : List (List (Option ℕ))). IsSound (record (sight w) { registers = rss })) (sym (registers_stay w t q q_registers)) kept.sound)
    (record {
      accounted = move_accounted (AccountMove.dropping drops) half;
      uncounted = λ unfreed. move_uncounted (AccountMove.dropping drops) half (move_uncounted (AccountMove.crossing amid) kept.accounted (kept.uncounted unfreed));
      cycles = cycles_moved w.collector w.collector.phase (AccountMove.dropping drops) tt (λ done. absurd {A = ⊥} (omega (arith, unapplied, epoch, done))) half alive
          (cycles_moved w.collector w.collector.phase (AccountMove.crossing amid) tt (λ _. tt) kept.accounted alive kept.cycles);
    }) in
    after_take (IsKept true) w t p.number (p.epoch + 1) word q b (next_of p) c.operation whole

-- a mutator takes its mailbox to leave
letting_go_kept : (w : Core) (t : ℕ) → IsKept true w → IsMutator w.config t → is_busy (mutator w t) ≡ true → IsFound (mutator w t) (next_of (mutator w t)) (found_by w t) → (mutator w t).phase ≡ at.Leaving → IsKept true (stepped w t)
letting_go_kept w t kept is busy may phase =
    let p : Private = mutator w t in
    let word : ℕ = found_by w t in
    let q : Private = step_of p word (box w t) in
    let b : Contents = left_of (took_of p word) (box w t) in
    let l = lets_go p word (box w t) phase in
    let actor = actor_of w t kept is in
    let stays : p.left ≡ false = stays_here w t kept is busy in
    let left : b ≡ last_of p = leaves_last p word (box w t) phase in
    let here : gives_back p.phase ≡ false = ap gives_back phase in
    let home = leaving_of w t kept is phase in
    let q_phase : q.phase ≡ at.Parting = ap (λ (x : Private). x.phase) l.after in
    let q_epoch : q.epoch ≡ p.epoch = ap (λ (x : Private). x.epoch) l.after in
    let q_left : q.left ≡ p.left = ap (λ (x : Private). x.left) l.after in
    let q_log : q.log ≡ spare_of w.config = ap (λ (x : Private). x.log) l.after ∙ home.0 in
    let q_registers : q.registers ≡ nulls_of p = ap (λ (x : Private). x.registers) l.after in
    let at_p : epoch_at p ≡ p.epoch = epoch_here p here in
    let at_q : epoch_at q ≡ p.epoch + 1 = epoch_next q (ap gives_back q_phase) ∙ ap (λ n. n + 1) q_epoch in
    let last : epoch_at q - 1 ≡ p.epoch = omega (arith, at_q) in
    let its_word : ℕ = crossing_word (p.epoch + 1) WithMutator in
    let crossings : List ℕ = slice_set w.crossing (p.number - 1) its_word in
    let own : IsOwn true w.config t q = own_stepped actor.own (its_box w t kept is) may (step_made p word (box w t) busy actor.own.between) (subst HasLabelAt (sym q_phase) tt) (idle_of p q stays q_left) in
    let gone : has_let_go q ≡ true = ap (λ (x : Bool). x || q.left) (ap is_parting q_phase) in
    let nulls : length (nulls_of p) ≡ w.config.registers = length-replicate (length p.registers) None ∙ actor.own.registers in
    let crosses : (into : ℕ) → p.epoch + 1 ≡ into → IsCrossing w.config into q its_word b
    = λ into epoch. record {
      epoch = ap (λ n. n + 1) q_epoch ∙ epoch;
      phase = ap gives_back q_phase;
      word = ap (λ n. crossing_word n WithMutator) epoch;
      spare = q_log;
      last = ap (λ (x : Contents). x.last) left ∙ sym (ap is_parting q_phase);
    } in
    let q_actor : IsActor true w.config w.epoch (stand_of w t) t q its_word b
    = record {
      own = own;
      log = subst (IsBufferOf true w.config (epoch_at q)) (sym q_log) (spare_buffer w.config (epoch_at q));
      unwritten = ap (λ (x : Contents). named x.snapshot) q_log ∙ named-nones w.config.registers;
      unmarked = ap (λ (x : Contents). x.last) q_log;
      let_go = λ _. record { registers = ap named q_registers ∙ named-nones (length p.registers); log = q_log };
      mailbox = subst (IsBufferOf true w.config (epoch_at q - 1)) (sym left) (retired_buffer w.config (epoch_at q - 1) p.log (nulls_of p) true (subst (λ (e : ℕ). IsBufferOf true w.config e p.log) (at_p ∙ sym last) actor.log) nulls);
      handshake = elim home.2 [
        | inl done ↦ subst (IsHandshake w.config w.epoch q its_word b) (sym done.0) (inr (inl (crosses (w.epoch + 1) (ap (λ n. n + 1) done.1), q_phase)))
        | inr due ↦ subst (IsHandshake w.config w.epoch q its_word b) (sym due.0) (inr (inl (crosses w.epoch due.1)))
      ];
    } in
    let moves = leaving_moves w t q b crossings (in_list w t kept is) (boxed w t kept is) p.epoch at_p at_q gone actor.unwritten home.0 q_log left in
    let many : length p.log.entries ≤ p.log.capacity = actor.log.few in
    let capacity : p.log.capacity ≡ w.config.log_entries = actor.own.capacity in
    let whole : IsKept true (exchanged w t its_word q b)
    = exchanged_kept w t its_word q b kept is q_actor (subst (HasLearnt w.config.slots w.headers w.freed q.from) (sym q_phase) tt) (retired_entries w.config p q (opened_before home.2) (omega arith) at_p at_q q_log) (λ _. q_left)
    (subst (λ (rss : List (List (Option ℕ))). IsSound (record (sight w) { registers = rss })) (sym (registers_leave w t q q_registers)) (leave_sound (sight w) t kept.sound))
    (moved_accounts w (pending (exchanged w t its_word q b)) kept (AccountMove.leaving moves) tt tt) in
    after_take (IsKept true) w t p.number (p.epoch + 1) word q b (next_of p) l.operation whole
  where
    opened_before : ((stand_of w t ≡ Handshake.Done) × ((mutator w t).epoch ≡ w.epoch)) ⊎ ((stand_of w t ≡ Handshake.Due) × ((mutator w t).epoch + 1 ≡ w.epoch)) → w.config.first_epoch ≤ (mutator w t).epoch
    opened_before (inl done) = let begun : w.config.first_epoch + w.collector.collections + under_way w.collector.phase ≡ w.epoch = kept.collector.begun in omega (arith, done.1)
    opened_before (inr due) =
        let begun : w.config.first_epoch + w.collector.collections + under_way w.collector.phase ≡ w.epoch = kept.collector.begun in
        omega (arith, due.1, (due_gathers w.epoch t w.collector.left w.collector.phase due.0).1)

-- A mutator that gives its mailbox back keeps its log, its registers, whether it holds them, and its dates.
given_back : (w : Core) (t word : ℕ) (q : Private) → IsKept true w → IsMutator w.config t → IsActor true w.config w.epoch (stand_of w t) t q word (box w t)
    → HasLearnt w.config.slots w.headers w.freed q.from q.phase → (w.collector.phase ≡ Returning t → q.left ≡ (mutator w t).left)
    → q.log ≡ (mutator w t).log → has_let_go q ≡ has_let_go (mutator w t) → q.registers ≡ (mutator w t).registers → epoch_at q ≡ epoch_at (mutator w t)
    → IsKept true (record (with_mutator w t q) { crossing = slice_set w.crossing ((mutator w t).number - 1) word })
given_back w t word q kept is actor learnt left log held registers epoch =
    let quiet : pending (exchanged w t word q (box w t)) ≡ pending w = ap (λ (bs : List Contents). pending (record (with_mutator w t q) { boxes = bs })) (same_boxes w t) ∙ same_pending w t q log held registers epoch in
    subst (λ (bs : List Contents). IsKept true (record (with_mutator w t q) { crossing = slice_set w.crossing ((mutator w t).number - 1) word; boxes = bs })) (same_boxes w t)
    (exchanged_kept w t word q (box w t) kept is actor learnt (same_entries w.config (mutator w t) q epoch log) left
    (subst (λ (rss : List (List (Option ℕ))). IsSound (record (sight w) { registers = rss })) (sym (registers_stay w t q registers)) kept.sound)
    (stayed_accounts w (pending (exchanged w t word q (box w t))) kept quiet))

-- a mutator gives its mailbox back, and is in the next epoch
given_kept : (w : Core) (t : ℕ) → IsKept true w → IsMutator w.config t → is_busy (mutator w t) ≡ true → IsFound (mutator w t) (next_of (mutator w t)) (found_by w t) → (mutator w t).phase ≡ at.Giving
    → left_of (took_of (mutator w t) (found_by w t)) (box w t) ≡ box w t → IsKept true (stepped w t)
given_kept w t kept is busy may phase same =
    let p : Private = mutator w t in
    let word : ℕ = found_by w t in
    let q : Private = step_of p word (box w t) in
    let c = gives p word (box w t) phase in
    let actor = actor_of w t kept is in
    let stays : p.left ≡ false = stays_here w t kept is busy in
    let (due, crosses) = giving_of w t kept is phase in
    let q_phase : q.phase ≡ at.Finished works.Poll (makes.Crossed (Some (p.epoch + 1))) = ap (λ (x : Private). x.phase) c.after in
    let q_epoch : q.epoch ≡ p.epoch + 1 = ap (λ (x : Private). x.epoch) c.after in
    let q_left : q.left ≡ p.left = ap (λ (x : Private). x.left) c.after in
    let q_log : q.log ≡ p.log = ap (λ (x : Private). x.log) c.after in
    let at_p : epoch_at p ≡ p.epoch + 1 = epoch_next p (ap gives_back phase) in
    let at_q : epoch_at q ≡ epoch_at p = epoch_here q (ap gives_back q_phase) ∙ q_epoch ∙ sym at_p in
    let its_word : ℕ = crossing_word (p.epoch + 1) Retired in
    let own : IsOwn true w.config t q = own_stepped actor.own (its_box w t kept is) may (step_made p word (box w t) busy actor.own.between) (subst HasLabelAt (sym q_phase) tt) (idle_of p q stays q_left) in
    let held : has_let_go p ≡ false = holds_registers p stays (ap is_parting phase) in
    let holds : has_let_go q ≡ false = holds_registers q (q_left ∙ stays) (ap is_parting q_phase) in
    let q_actor : IsActor true w.config w.epoch (stand_of w t) t q its_word (box w t)
    = record {
      own = own;
      log = subst (λ (e : ℕ). IsBufferOf true w.config e q.log) (sym at_q) (subst (IsBufferOf true w.config (epoch_at p)) (sym q_log) actor.log);
      unwritten = ap (λ (x : Contents). named x.snapshot) q_log ∙ actor.unwritten;
      unmarked = ap (λ (x : Contents). x.last) q_log ∙ actor.unmarked;
      let_go = λ gone. absurd (false≢true (sym holds ∙ gone));
      mailbox = subst (λ (e : ℕ). IsBufferOf true w.config (e - 1) (box w t)) (sym at_q) actor.mailbox;
      handshake = subst (IsHandshake w.config w.epoch q its_word (box w t)) (sym due)
          (inr (inr (
            record { epoch = q_epoch ∙ crosses.epoch; word = ap (λ n. crossing_word n Retired) crosses.epoch; settled = subst (IsSettledIn Retired) (sym q_phase) tt },
            crosses.last ∙ ap is_parting phase ∙ sym (q_left ∙ stays),
          )));
    } in
    subst (λ (b : Contents). IsKept true (performed w t (next_of p) word q b)) (sym same)
    (after_give (IsKept true) w t p.number (p.epoch + 1) word q (next_of p) c.operation
    (given_back w t its_word q kept is q_actor (subst (HasLearnt w.config.slots w.headers w.freed q.from) (sym q_phase) tt) (λ _. q_left) q_log (holds ∙ sym held) (ap (λ (x : Private). x.registers) c.after) at_q))

-- a mutator that leaves gives its mailbox back, and has left
parted_kept : (w : Core) (t : ℕ) → IsKept true w → IsMutator w.config t → is_busy (mutator w t) ≡ true → IsFound (mutator w t) (next_of (mutator w t)) (found_by w t) → (mutator w t).phase ≡ at.Parting
    → left_of (took_of (mutator w t) (found_by w t)) (box w t) ≡ box w t → IsKept true (stepped w t)
parted_kept w t kept is busy may phase same =
    let p : Private = mutator w t in
    let word : ℕ = found_by w t in
    let q : Private = step_of p word (box w t) in
    let l = leaves_at_last p word (box w t) phase in
    let actor = actor_of w t kept is in
    let crosses = giving_crosses w.config w.epoch p (crossing_of w t) (box w t) (stand_of w t) (stays_here w t kept is busy) (ap gives_back phase) actor.handshake in
    let q_phase : q.phase ≡ at.Finished (works.Command commands.Leave) (makes.Answered (plain answers.Done)) = ap (λ (x : Private). x.phase) l.after in
    let q_epoch : q.epoch ≡ p.epoch + 1 = ap (λ (x : Private). x.epoch) l.after in
    let q_left : q.left ≡ true = ap (λ (x : Private). x.left) l.after in
    let q_log : q.log ≡ p.log = ap (λ (x : Private). x.log) l.after in
    let q_registers : q.registers ≡ p.registers = ap (λ (x : Private). x.registers) l.after in
    let at_q : epoch_at q ≡ epoch_at p = epoch_here q (ap gives_back q_phase) ∙ q_epoch ∙ sym (epoch_next p (ap gives_back phase)) in
    let its_word : ℕ = crossing_word (p.epoch + 1) Retired in
    let own : IsOwn true w.config t q = own_stepped actor.own (its_box w t kept is) may (step_made p word (box w t) busy actor.own.between) (subst HasLabelAt (sym q_phase) tt) (λ _. ap is_busy_at q_phase) in
    let held : has_let_go p ≡ true = ap (λ (x : Bool). x || p.left) (ap is_parting phase) in
    let gone : LetGo w.config p = actor.let_go held in
    let marked : is_parting p.phase ≡ true = ap is_parting phase in
    let q_actor : IsActor true w.config w.epoch (stand_of w t) t q its_word (box w t)
    = record {
      own = own;
      log = subst (λ (e : ℕ). IsBufferOf true w.config e q.log) (sym at_q) (subst (IsBufferOf true w.config (epoch_at p)) (sym q_log) actor.log);
      unwritten = ap (λ (x : Contents). named x.snapshot) q_log ∙ actor.unwritten;
      unmarked = ap (λ (x : Contents). x.last) q_log ∙ actor.unmarked;
      let_go = λ _. record { registers = ap named q_registers ∙ gone.registers; log = q_log ∙ gone.log };
      mailbox = subst (λ (e : ℕ). IsBufferOf true w.config (e - 1) (box w t)) (sym at_q) actor.mailbox;
      handshake = elim crosses [
        | inl due ↦ subst (IsHandshake w.config w.epoch q its_word (box w t)) (sym due.0)
            (inr (inr (
              record { epoch = q_epoch ∙ due.1.epoch; word = ap (λ n. crossing_word n Retired) due.1.epoch; settled = subst (IsSettledIn Retired) (sym q_phase) tt },
              due.1.last ∙ marked ∙ sym q_left,
            )))
        | inr done ↦ subst (IsHandshake w.config w.epoch q its_word (box w t)) (sym done.0)
            (inr (inr (record { left = q_left; epoch = q_epoch ∙ done.1.epoch; word = ap (λ n. crossing_word n Retired) done.1.epoch; last = done.1.last ∙ marked })))
      ];
    } in
    let unheld : w.collector.phase ≡ Returning t → q.left ≡ p.left
    = λ at. absurd (elim crosses [
      | inl due ↦ let no : Handshake.Held ≡ Handshake.Due = sym (held_stands w t kept at) ∙ due.0 in (cc)
      | inr done ↦ let no : Handshake.Held ≡ Handshake.Done = sym (held_stands w t kept at) ∙ done.0 in (cc)
    ]) in
    subst (λ (b : Contents). IsKept true (performed w t (next_of p) word q b)) (sym same)
    (after_give (IsKept true) w t p.number (p.epoch + 1) word q (next_of p) l.operation
    (given_back w t its_word q kept is q_actor (subst (HasLearnt w.config.slots w.headers w.freed q.from) (sym q_phase) tt) unheld q_log (left_let_go q q_left ∙ sym held) q_registers at_q))

-- a work begins
pub begun_kept : (w : Core) (t : ℕ) (work : Work) (from : ℕ) → IsKept true w → IsMutator w.config t → is_busy (mutator w t) ≡ false → (mutator w t).left ≡ false → IsValid (mutator w t) work → HasLabel work → from < w.config.slots
    → IsKept true (begun_from w t work from)
unfolding begun_of
begun_kept w t work from kept is idle stays valid label there =
    let p : Private = mutator w t in
    let q : Private = begun_of p work from in
    let actor = actor_of w t kept is in
    let machine : IsMachine p = actor.own.machine in
    let here : gives_back p.phase ≡ false = idle_here p.phase idle in
    let own : IsOwn true w.config t q = record {
      number = actor.own.number;
      slots = actor.own.slots;
      fields = actor.own.fields;
      registers = actor.own.registers;
      capacity = actor.own.capacity;
      machine = record {
        number = machine.number;
        epoch = machine.epoch;
        stamped = machine.stamped;
        first_slot = machine.first_slot;
        last_slot = machine.last_slot;
        capacity = machine.capacity;
        entries = machine.entries;
        registers = machine.registers;
        snapshot = machine.snapshot;
        from = subst (λ n. from < n) (sym actor.own.slots) there;
        now = (valid, refl, machine.stamped stays);
      };
      between = tt;
      label = label;
      idle = λ left. absurd (false≢true (sym stays ∙ left));
      awake = actor.own.awake;
      dates = actor.own.dates;
    } in
    quiet_kept w t q kept is stays here refl refl refl (actor_stays actor own stays here refl (λ mailbox word. tt) refl refl actor.log actor.unwritten actor.unmarked) refl refl tt

-- a mutator whose mailbox is taken next crosses or leaves
crosses_or_leaves : (phase : phases.Phase) → TakesBox phase → (phase ≡ at.Crossing) ⊎ (phase ≡ at.Leaving)
crosses_or_leaves at.Crossing box = inl refl
crosses_or_leaves at.Leaving box = inr refl
crosses_or_leaves _ box = absurd box

-- one that gives it back next is at the end of a poll, or leaves
gives_or_parts : (phase : phases.Phase) → gives_back phase ≡ true → (phase ≡ at.Giving) ⊎ (phase ≡ at.Parting)
gives_or_parts at.Giving back = inl refl
gives_or_parts at.Parting back = inr refl
gives_or_parts _ back = absurd (false≢true back)

-- the words of a heap fit its mutators
fitting : {dated : Bool} → (w : Core) (t : ℕ) → IsKept dated w → IsMutator w.config t → is_busy (mutator w t) ≡ true → IsFitting (mutator w t) (cell (cells_of w))
fitting w t kept is busy =
    let actor = actor_of w t kept is in
    let headers : length w.headers ≡ w.config.slots = kept.headers in
    record {
      headers = λ r slot names.
          let taken : IsTaken (sight w) slot = register_taken w kept t r slot names in
          let below : slot < w.config.slots = taken_slot w kept slot taken in
          All-get_or IsHeader w.headers slot 0 (omega arith) kept.labels taken;
      epoch = requested (stand_of w t) actor.handshake;
      home = λ takes.
          let number : (mutator w t).number ≡ t = actor.own.number in
          ap (λ n. slice_index_or w.crossing (n - 1) 0) number ∙ elim (crosses_or_leaves (mutator w t).phase takes) [
            | inl crosses ↦ (behind_of w t kept is crosses).1.word
            | inr leaves ↦ (leaving_of w t kept is leaves).1
          ];
      bits = λ passage passes. absurd (subst IsBetween passes actor.own.between);
    }
  where
    small : w.epoch < 2 ^ 24
    small = subst (λ n. n < 2 ^ 24) kept.collector.epoch kept.collector.machine.epoch

    stays : (mutator w t).left ≡ false
    stays = stays_here w t kept is busy

    requested : (stand : Handshake) → IsHandshake w.config w.epoch (mutator w t) (crossing_of w t) (box w t) stand → IsRequested (mutator w t) w.epoch
    requested Handshake.Done (inl (crossed, there, spare)) = inl (sym crossed.epoch)
    requested Handshake.Done (inr (inl (crosses, parting))) = inl (let epoch : (mutator w t).epoch + 1 ≡ w.epoch + 1 = crosses.epoch in omega arith)
    requested Handshake.Done (inr (inr retired)) = absurd (false≢true (sym stays ∙ retired.left))
    requested Handshake.Held h = inl (sym h.0.epoch)
    requested Handshake.Due (inl behind) = inr (sym behind.epoch, small)
    requested Handshake.Due (inr (inl crosses)) = inr (sym crosses.epoch, small)
    requested Handshake.Due (inr (inr (crossed, last))) = inl (sym crossed.epoch)
    requested Handshake.Gone gone = absurd (false≢true (sym stays ∙ gone.left))

-- what the next step finds is what it may find
pub next_found : {dated : Bool} → (w : Core) (t : ℕ) → IsKept dated w → IsMutator w.config t → is_busy (mutator w t) ≡ true → IsFound (mutator w t) (next_of (mutator w t)) (found_by w t)
next_found w t kept is busy = finds_fitting (mutator w t) (cell (cells_of w)) (fitting w t kept is busy)

-- a step keeps what every heap keeps, by the phase of the mutator
step_at : (w : Core) (t : ℕ) (phase : phases.Phase) → IsKept true w → IsMutator w.config t → is_busy (mutator w t) ≡ true → (mutator w t).phase ≡ phase → TakesNone phase → IsKept true (stepped w t)
step_at w t phase kept is busy at_phase none =
    let p : Private = mutator w t in
    let word : ℕ = found_by w t in
    let its_none : TakesNone p.phase = subst TakesNone (sym at_phase) none in
    let between : IsBetween (took_of p word).phase = step_between (learnt_made p word (box w t) busy its_none) in
    let left : left_of (took_of p word) (box w t) ≡ box w t = left_same (took_of p word) (box w t) between in
    let found = next_found w t kept is busy in
    elim (cases_Bool (gives_back p.phase)) [
      | inl back ↦ elim (gives_or_parts p.phase back) [ inl giving ↦ given_kept w t kept is busy found giving left | inr parting ↦ parted_kept w t kept is busy found parting left ]
      | inr here ↦
          let m : Makes w t word (next_of p) (step_of p word (box w t))
          = record { kept = kept; is = is; none = its_none; busy = busy; found = refl; may = found; step = step_made p word (box w t) busy (actor_of w t kept is).own.between } in
          subst (λ (b : Contents). IsKept true (performed w t (next_of p) word (step_of p word (box w t)) b)) (sym left) (performed_kept here m m.step)
    ]

-- a step of a mutator keeps what every heap with its collector keeps
pub step_kept : (w : Core) (t : ℕ) → IsKept true w → IsMutator w.config t → is_busy (mutator w t) ≡ true → IsKept true (stepped w t)
step_kept w t kept is busy = go (mutator w t).phase refl (actor_of w t kept is).own.between
  where
    go : (phase : phases.Phase) → (mutator w t).phase ≡ phase → IsBetween phase → IsKept true (stepped w t)
    go at.Idle at_phase between = step_at w t at.Idle kept is busy at_phase tt
    go (at.Begun work) at_phase between = step_at w t (at.Begun work) kept is busy at_phase tt
    go (at.Scanning reg label leaf before probed) at_phase between = step_at w t (at.Scanning reg label leaf before probed) kept is busy at_phase tt
    go (at.Scanned reg label leaf before) at_phase between = step_at w t (at.Scanned reg label leaf before) kept is busy at_phase tt
    go (at.Storing src f val slot) at_phase between = step_at w t (at.Storing src f val slot) kept is busy at_phase tt
    go at.Crossing at_phase between = taken_kept w t kept is busy (next_found w t kept is busy) at_phase
    go at.Swapping at_phase between = absurd between
    go at.Giving at_phase between = step_at w t at.Giving kept is busy at_phase tt
    go at.Leaving at_phase between = letting_go_kept w t kept is busy (next_found w t kept is busy) at_phase
    go at.Retiring at_phase between = absurd between
    go at.Parting at_phase between = step_at w t at.Parting kept is busy at_phase tt
    go (at.Finished work made) at_phase between = step_at w t (at.Finished work made) kept is busy at_phase tt
    go (at.Passing passage) at_phase between = absurd between
