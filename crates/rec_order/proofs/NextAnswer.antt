-- An answer of a step may come next in the order.
use Rattle.std.proofs.Common.{◌≡◌, ◌⊎◌, inl, inr, ℕ, ◌-◌, ◌%◌, ◌<◌, ◌≤◌, ◌&&◌, List, [], ◌∷◌, ◌++◌, Some, Bool, true, false, length, slice_index_or, refl, sym, ap, subst, ◌∙◌, arith}
use Rattle.std.specs.List.{slice_get}
use Rattle.std.specs.Option.{IfSome}
use Rattle.std.proofs.lemmas.Bool.{cases_eq}
use Rattle.rec_word.specs.Word.{stamp_of}
use Rattle.rec_word.specs.declared.stamps.Stamp.{Stamp}
use Rattle.rec_model.specs.declared.command.Cmd.{Cmd}
use Rattle.rec_model.specs.declared.command.Cmd.TheVariants as commands
use Rattle.rec_model.specs.declared.answer.Answer.{Answer}
use Rattle.rec_model.specs.declared.answer.Answer.TheVariants as answers
use Rattle.rec_model.specs.declared.told.Told.{Told}
use Rattle.rec_model.specs.Asking.{is_done}
use Rattle.rec_model.specs.LegalOrder.{Line, Event, Limits, Moment, after_all, is_new, NewFits, AllocationFits, AnswerFits, word_left, left_by, BusyFits}
use Rattle.rec_model.specs.LegalOrder.Event.{Answers}
use Rattle.rec_model.specs.Sight.{IsSound}
use Rattle.rec_model.proofs.Growing.{MayCome, StampsAnew, same_answer}
use Rattle.rec_model.proofs.Unfreed.{all_unfreed, fewer_unfreed}
use Rattle.rec_mutator.specs.Causes.{HasCause, FoundNoneAt, gives_back}
use Rattle.rec_mutator.specs.Next.{next_of, next_at}
use Rattle.rec_mutator.specs.Step.{IsStill}
use Rattle.rec_mutator.specs.declared.phase.Phase.{Phase}
use Rattle.rec_mutator.specs.declared.phase.Phase.TheVariants as at
use Rattle.rec_core.specs.Cells.{cell}
use Rattle.rec_core.specs.Config.{IsMutator}
use Rattle.rec_core.specs.Core.{Core, sight, cells_of, mutator, log_length}
use Rattle.rec_core.specs.Kept.{IsKept, HasLearnt, HasPassed}
use Rattle.rec_core.specs.Moves.{found_by, stepped}
use Rattle.rec_core.specs.Pending.{epoch_at}
use Rattle.rec_core.specs.StepAnswers.{IsDecided, IsFilled, IsBirthplace}
use Rattle.rec_core.proofs.Actors.{epoch_here}
use Rattle.rec_core.proofs.Steps.{actor_of}
use Rattle.rec_order.specs.Naming.{Naming}
use Rattle.rec_order.specs.Legal.{limits_of}
use Rattle.rec_order.proofs.Stamps.{HasEntry, IsBefore}
use Rattle.rec_order.proofs.Scans.{HasMet, met_all}
use Rattle.rec_order.proofs.Stands.{Stands, explained}
use Rattle.rec_order.proofs.Steps.{Meets}

-- an allocation's answer fits
new_fits : (limits : Limits) (w : Moment) (answer : Answer) → (answer ≡ answers.Full → length w.unfreed ≡ limits.slots) → (is_done answer ≡ true → length w.unfreed < limits.slots) → NewFits limits w answer
new_fits limits w answers.Done full fewer = fewer refl
new_fits limits w answers.Full full fewer = full refl
new_fits limits w _ full fewer = tt

allocation_fits : (limits : Limits) (w : Moment) (cmd : Cmd) (answer : Answer) → (answer ≡ answers.Full → length w.unfreed ≡ limits.slots)
    → (is_new cmd && is_done answer ≡ true → length w.unfreed < limits.slots) → AllocationFits limits w cmd answer
allocation_fits limits w (commands.New reg label) answer full fewer = new_fits limits w answer full fewer
allocation_fits limits w (commands.Leaf reg label) answer full fewer = new_fits limits w answer full fewer
allocation_fits limits w _ answer full fewer = tt

-- a scan that found none free has passed all slots
found_none : (phase : Phase) (before : ℕ) → FoundNoneAt phase before → (reg : ℕ) × (label : ℕ) × (leaf : Bool) × (phase ≡ at.Scanned reg label leaf before)
found_none (at.Scanned reg label leaf first) before is = (reg, label, leaf, ap (at.Scanned reg label leaf) is)
found_none _ before is = absurd is

-- it looks at the freed word then
looks_again : (w : Core) (t reg label : ℕ) (leaf : Bool) (before : ℕ) → (mutator w t).phase ≡ at.Scanned reg label leaf before → found_by w t ≡ w.freed
unfolding next_of next_at
looks_again w t reg label leaf before is = ap (λ (phase : Phase). cell (cells_of w) (next_at (mutator w t) phase)) is

-- the freed word moved, or was odd
swept_meanwhile : (before after : ℕ) → before ≤ after → (IsStill before after → ⊥) → (before % 2 ≡ 1) ⊎ (before < after)
swept_meanwhile before after below moves = elim (cases_eq before after) [
  | inr other ↦ inr (omega (arith, below, other))
  | inl same ↦ elim (cases_eq (before % 2) 0) [
    | inl even ↦ absurd (moves (even, same))
    | inr odd ↦ inl (omega (arith, odd))
  ]
]

-- the stamp that a word left bears
stamp_is : (cmd : Cmd) (told : Told) (P : ℕ → Type 0) (v : ℕ) → IfSome (word_left cmd told) P → word_left cmd told ≡ Some v → P v
stamp_is cmd told P v held leaves = subst (λ o. IfSome o P) leaves held

module _ (limits : Limits) (start : Moment) (lines : List (List Line)) (events : List Event) (w : Core) (n : Naming) (home : ℕ → ℕ) (t : ℕ) (cmd : Cmd) (told : Told)
    (numbers : limits ≡ limits_of w.config) (kept : IsKept false w) (is : IsMutator w.config t) (here : gives_back (mutator w t).phase ≡ false) (said : IsDecided w t cmd told (stepped w t)) (cause : HasCause (mutator w t) (mutator (stepped w t) t) cmd (found_by w t) told.answer)
    (so : Stands w (after_all limits start events) n home) where
  slots_are : limits.slots ≡ w.config.slots
  slots_are = ap (λ (l : Limits). l.slots) numbers

  -- in a full heap as many objects as slots are unfreed
  filled_unfreed : IsFilled w → length (after_all limits start events).unfreed ≡ limits.slots
  filled_unfreed filled =
      all_unfreed (after_all limits start events).heap (sight w) n.number (after_all limits start events).unfreed so.stands (λ s there. filled s (subst (λ x. s < x) kept.headers there)) so.unfreed
      ∙ kept.headers ∙ sym slots_are

  -- the answer fits
  step_fits : IsSound (sight (stepped w t)) → log_length w t ≤ slice_index_or (after_all limits start events).done (t - 1) 0 → AnswerFits limits (after_all limits start events) t (cmd, told)
  step_fits sound logged =
      record {
        told = (explained limits w (stepped w t) (after_all limits start events) n home t cmd told (ap (λ (l : Limits). l.fields) numbers) kept.headers sound refl said so).0;
        allocation = allocation_fits limits (after_all limits start events) cmd told.answer (λ full. filled_unfreed (said.full full))
            (λ birth.
            let (slot, leaves) = said.leaves in
            let place : IsBirthplace w t slot = leaves.birth birth in
            subst (λ x. length (after_all limits start events).unfreed < x) (kept.headers ∙ sym slots_are)
            (fewer_unfreed (sight w) n.number (after_all limits start events).unfreed slot (subst (λ x. slot < x) (sym kept.headers) place.there) (λ taken. let free : slice_index_or w.headers slot 0 ≡ 0 = place.free in omega (arith, taken, free)) so.unfreed));
        log_full = λ full.
            let spent : length (mutator w t).log.entries ≡ (mutator w t).log.capacity = (cause.log_full.0 full).0 in
            let room : (mutator w t).log.capacity ≡ w.config.log_entries = (actor_of w t kept is).own.capacity in
            let entries : limits.log_entries ≡ w.config.log_entries = ap (λ (l : Limits). l.log_entries) numbers in
            omega (arith, spent, room, entries, logged);
      }

  -- a busy answer has its evidence
  step_busy : Meets limits start events home n.next t (mutator w t).from (mutator w t).phase → (before after : ℕ) → told.answer ≡ answers.Busy before after
      → BusyFits limits start (events ++ Answers t (cmd, told) ∷ []) t (length events) before after
  step_busy meets before after answer =
      let (none, word, moves) = (cause.busy before after).0 answer in
      let (reg, label, leaf, phase) = found_none (mutator w t).phase before none.scanned in
      let has : HasMet limits start events home n.next t (mutator w t).from before limits.slots = subst (Meets limits start events home n.next t (mutator w t).from) phase meets in
      let freed : found_by w t ≡ w.freed = looks_again w t reg label leaf before phase in
      let passed : HasPassed w.config.slots w.headers w.freed (mutator w t).from before w.config.slots = subst (HasLearnt w.config.slots w.headers w.freed (mutator w t).from) phase (kept.learnt t is) in
      let below : before ≤ w.freed = passed.0 in
      let own = (actor_of w t kept is).own in
      let there : (mutator w t).from < limits.slots = subst (λ x. (mutator w t).from < x) (own.slots ∙ sym (ap (λ (l : Limits). l.slots) numbers)) own.machine.from in
      met_all limits start events home n.next t (mutator w t).from before after (cmd, told) there has
      (swept_meanwhile before after (omega (arith, below, freed, word)) (λ still. moves (still.0, still.1 ∙ word)))
      (so.marks ∙ sym freed ∙ sym word)

  -- the mutator's epoch is the one of its next entry
  epoch_is : epoch_at (mutator w t) ≡ (mutator w t).epoch
  epoch_is = epoch_here (mutator w t) here

  -- its word is stamped anew
  step_anew : ((i v : ℕ) (d : Event) → slice_get events i ≡ Some d → left_by d ≡ Some v → HasEntry w (stamp_of v)) → StampsAnew events t (cmd, told)
  step_anew stamps =
      record {
        writer = λ word leaves. ap (λ (s : Stamp). s.writer) (stamp_is cmd told _ word said.stamp leaves);
        anew = λ i v word d there left leaves same.
            let mine : stamp_of v ≡ record { writer = t; epoch = (mutator w t).epoch; index = log_length w t } = same ∙ stamp_is cmd told _ word said.stamp leaves in
            let epoch : (stamp_of v).epoch ≡ (mutator w t).epoch = ap (λ (s : Stamp). s.epoch) mine in
            let index : (stamp_of v).index ≡ log_length w t = ap (λ (s : Stamp). s.index) mine in
            let now : epoch_at (mutator w t) ≡ (mutator w t).epoch = epoch_is in
            elim (subst (λ s. IsBefore (stamp_of v).epoch (stamp_of v).index (epoch_at (mutator w s)) (log_length w s)) (ap (λ (s : Stamp). s.writer) mine) (stamps i v d there left).earlier) [
              | inl earlier ↦ absurd (omega (arith, earlier, epoch, now))
              | inr here ↦ absurd (let lower : (stamp_of v).index < log_length w t = here.1 in omega (arith, lower, index))
            ];
      }

  -- So it may come.
  pub step_may_come : length lines ≡ w.config.mutators → IsSound (sight (stepped w t)) → log_length w t ≤ slice_index_or (after_all limits start events).done (t - 1) 0
      → Meets limits start events home n.next t (mutator w t).from (mutator w t).phase → ((i v : ℕ) (d : Event) → slice_get events i ≡ Some d → left_by d ≡ Some v → HasEntry w (stamp_of v))
      → MayCome limits start lines events (Answers t (cmd, told))
  step_may_come journals sound logged meets stamps =
      let new : StampsAnew events t (cmd, told) = step_anew stamps in
      record {
        numbered = λ s j e.
            let same : (t ≡ s) × ((cmd, told) ≡ j) = same_answer t s (cmd, told) j e in
            (subst (λ x. 0 < x) same.0 is.0, subst (λ x. x ≤ length lines) same.0 (subst (λ x. t ≤ x) (sym journals) is.1));
        fits = step_fits sound logged;
        busy = λ s before later j e answer.
            let same : (t ≡ s) × ((cmd, told) ≡ j) = same_answer t s (cmd, told) j e in
            subst (λ x. BusyFits limits start (events ++ Answers t (cmd, told) ∷ []) x (length events) before later) same.0
            (step_busy meets before later (ap (λ (l : Line). l.1.answer) same.1 ∙ answer));
        writer = λ s word j e leaves.
            let same : (t ≡ s) × ((cmd, told) ≡ j) = same_answer t s (cmd, told) j e in
            new.writer word (ap (λ (l : Line). word_left l.0 l.1) same.1 ∙ leaves) ∙ same.0;
        anew = new.anew;
      }
