-- When a poll ends, rule by rule.
use Rattle.std.proofs.Common.{◌≡◌, ℕ, ◌+◌, Bool, true, false, Option, None, Some, List, if◌then◌else◌, refl, sym, ap, ◌∙◌}
use Rattle.std.proofs.lemmas.Bool.{false≢true}
use Rattle.rec_word.specs.declared.op.Op.{Op}
use Rattle.rec_model.specs.declared.command.Cmd.{Cmd}
use Rattle.rec_model.specs.declared.told.Told.{Told}
use Rattle.rec_log.specs.declared.contents.Contents.{Contents}
use Rattle.rec_log.specs.declared.entry.Entry.{Entry}
use Rattle.rec_mutator.specs.Causes.{PollHasCause, gives_back, is_giving}
use Rattle.rec_mutator.specs.Private.{Private, is_busy, answer_of, answer_at, is_busy_at}
use Rattle.rec_mutator.specs.Step.{Step, Decides, GoesOn}
use Rattle.rec_mutator.specs.Took.{took_of, swapped_at, swapped_of, step_of, IsBetween}
use Rattle.rec_mutator.specs.declared.made.Made.{Made}
use Rattle.rec_mutator.specs.declared.made.Made.TheVariants as makes
use Rattle.rec_mutator.specs.declared.phase.Phase.{Phase}
use Rattle.rec_mutator.specs.declared.phase.Phase.TheVariants.{Begun, Crossing, Swapping, Giving, Leaving, Retiring, Parting, Finished}
use Rattle.rec_mutator.specs.declared.work.Work.TheVariants as works
use Rattle.rec_mutator.proofs.Steps.{step_made}

-- what came of a finished work is what a poll tells
is_polled : Option Made → Bool
is_polled (Some (makes.Crossed epoch)) = true
is_polled _ = false

-- a poll that was begun
is_polling : Phase → Bool
is_polling (Begun works.Poll) = true
is_polling _ = false

-- a step that begins no poll and ends none, from this phase to that one
no_poll : (p q : Private) (at next_phase : Phase) (word : ℕ) → p.phase ≡ at → is_polling at ≡ false → is_giving at ≡ false → gives_back at ≡ false → is_polled (answer_at next_phase) ≡ false
    → q.phase ≡ next_phase → q.epoch ≡ p.epoch → PollHasCause p q word
unfolding is_polled is_polling
no_poll p q at next_phase word is polls gives back tells after epoch =
    let untold : (e : Option ℕ) → answer_of q ≡ Some (makes.Crossed e) → ⊥ = λ e told. false≢true (sym tells ∙ ap is_polled (sym (ap answer_at after) ∙ told)) in
    record {
      none = (λ told. absurd (untold None told), λ because. absurd (false≢true (sym polls ∙ ap is_polling (sym is ∙ because.0))));
      some = λ e. (λ told. absurd (untold (Some e) told), λ because. absurd (false≢true (sym gives ∙ ap is_giving (sym is ∙ because.0))));
      epoch = epoch ∙ sym (ap (λ b. if b then p.epoch + 1 else p.epoch) (ap gives_back is ∙ back));
    }

-- a command's answer
decided : {p : Private} {op : Op} {q : Private} {cmd : Cmd} {at : Phase} {its_op : Op} {registers : List (Option ℕ)} {entries : List Entry} {told : Told} (word : ℕ)
    → is_polling at ≡ false → is_giving at ≡ false → gives_back at ≡ false → Decides p op q cmd at its_op registers entries told → PollHasCause p q word
unfolding is_polled
decided {p = p} {q = q} {cmd = cmd} {at = at} {told = told} word polls gives back d =
    no_poll p q at (Finished (works.Command cmd) (makes.Answered told)) word d.phase polls gives back refl (ap (λ (x : Private). x.phase) d.after) (ap (λ (x : Private). x.epoch) d.after)

-- a step after which a command goes on
going_on : {p : Private} {op : Op} {q : Private} {at : Phase} {its_op : Op} {next_phase : Phase} (word : ℕ)
    → is_polling at ≡ false → is_giving at ≡ false → gives_back at ≡ false → is_polled (answer_at next_phase) ≡ false → GoesOn p op q at its_op next_phase → PollHasCause p q word
going_on {p = p} {q = q} {at = at} {next_phase = next_phase} word polls gives back tells g =
    no_poll p q at next_phase word g.phase polls gives back tells (ap (λ (x : Private). x.phase) g.after) (ap (λ (x : Private). x.epoch) g.after)

-- one epoch in two results
same_epoch : (x y : ℕ) → ◌≡◌ {A = Option Made} (Some (makes.Crossed (Some x))) (Some (makes.Crossed (Some y))) → x ≡ y
same_epoch x y is = cc

-- every step that ends a poll has its cause
poll_cause : {p : Private} {word : ℕ} {box : Contents} {op : Op} {q : Private} → Step p word box op q → PollHasCause p q word
unfolding is_polled is_polling
poll_cause {word = word} (Step.null reg d) = decided word refl refl refl d
poll_cause {word = word} (Step.copy dst src d) = decided word refl refl refl d
poll_cause {word = word} (Step.compare a b d) = decided word refl refl refl d
poll_cause {word = word} (Step.park d) = decided word refl refl refl d
poll_cause {word = word} (Step.unpark d) = decided word refl refl refl d
poll_cause {word = word} (Step.get_of_null dst src f names d) = decided word refl refl refl d
poll_cause {word = word} (Step.get dst src f slot names d) = decided word refl refl refl d
poll_cause {word = word} (Step.put_of_null src f val names d) = decided word refl refl refl d
poll_cause {word = word} (Step.put_refused src f val slot names full d) = decided word refl refl refl d
poll_cause {word = word} (Step.put_into_leaf src f val slot names room leaf d) = decided word refl refl refl d
poll_cause {word = word} (Step.put_begins src f val slot names room leaf g) = going_on word refl refl refl refl g
poll_cause {word = word} (Step.put src f val slot d) = decided word refl refl refl d
poll_cause {word = word} (Step.value_of_null reg names d) = decided word refl refl refl d
poll_cause {word = word} (Step.value reg slot names d) = decided word refl refl refl d
poll_cause {word = word} (Step.new_refused reg label leaf full d) = decided word refl refl refl d
poll_cause {word = word} (Step.new_begins reg label leaf room g) = going_on word refl refl refl refl g
poll_cause {word = word} (Step.new_wins reg label leaf before probed free d) = decided word refl refl refl d
poll_cause {word = word} (Step.new_goes_on reg label leaf before probed taken more g) = going_on word refl refl refl refl g
poll_cause {word = word} (Step.new_finds_none reg label leaf before probed taken last g) = going_on word refl refl refl refl g
poll_cause {word = word} (Step.new_is_full reg label leaf before still d) = decided word refl refl refl d
poll_cause {word = word} (Step.new_is_busy reg label leaf before moves d) = decided word refl refl refl d
poll_cause {word = word} (Step.leave_refused uncollected d) = decided word refl refl refl d
poll_cause {word = word} (Step.leave_begins collected g) = going_on word refl refl refl refl g
poll_cause {p = p} {word = word} {q = q} (Step.leave l) =
    no_poll p q Leaving Parting word l.phase refl refl refl refl (ap (λ (x : Private). x.phase) l.after) (ap (λ (x : Private). x.epoch) l.after)
poll_cause {p = p} {word = word} {q = q} (Step.leave_ends l) =
    let untold : (e : Option ℕ) → answer_of q ≡ Some (makes.Crossed e) → ⊥ = λ e told. false≢true (ap is_polled (sym (ap answer_of l.after) ∙ told)) in
    record {
      none = (λ told. absurd (untold None told), λ because. absurd (false≢true (ap is_polling (sym l.phase ∙ because.0))));
      some = λ e. (λ told. absurd (untold (Some e) told), λ because. absurd (false≢true (ap is_giving (sym l.phase ∙ because.0))));
      epoch = ap (λ (x : Private). x.epoch) l.after ∙ sym (ap (λ b. if b then p.epoch + 1 else p.epoch) (ap gives_back l.phase));
    }
poll_cause {p = p} {word = word} {q = q} (Step.poll_stays own g) =
    let told : answer_of q ≡ Some (makes.Crossed None) = ap answer_of g.after in
    record {
      none = (λ _. (g.phase, own), λ _. told);
      some = λ e. (
        (λ other. let not_so : ◌≡◌ {A = Option Made} (Some (makes.Crossed None)) (Some (makes.Crossed (Some e))) = sym told ∙ other in absurd (cc)),
        λ because. absurd (false≢true (ap is_giving (sym g.phase ∙ because.0))),
      );
      epoch = ap (λ (x : Private). x.epoch) g.after ∙ sym (ap (λ b. if b then p.epoch + 1 else p.epoch) (ap gives_back g.phase));
    }
poll_cause {p = p} {word = word} {q = q} (Step.poll_crosses other g) =
    let untold : (e : Option ℕ) → answer_of q ≡ Some (makes.Crossed e) → ⊥ = λ e told. false≢true (ap is_polled (sym (ap answer_of g.after) ∙ told)) in
    record {
      none = (λ told. absurd (untold None told), λ because. absurd (other because.1));
      some = λ e. (λ told. absurd (untold (Some e) told), λ because. absurd (false≢true (ap is_giving (sym g.phase ∙ because.0))));
      epoch = ap (λ (x : Private). x.epoch) g.after ∙ sym (ap (λ b. if b then p.epoch + 1 else p.epoch) (ap gives_back g.phase));
    }
poll_cause {p = p} {word = word} {q = q} (Step.take_box c) =
    no_poll p q Crossing Giving word c.phase refl refl refl refl (ap (λ (x : Private). x.phase) c.after) (ap (λ (x : Private). x.epoch) c.after)
poll_cause {p = p} {word = word} {q = q} (Step.give_box c) =
    let told : answer_of q ≡ Some (makes.Crossed (Some (p.epoch + 1))) = ap answer_of c.after in
    record {
      none = (
        (λ other. let not_so : ◌≡◌ {A = Option Made} (Some (makes.Crossed (Some (p.epoch + 1)))) (Some (makes.Crossed None)) = sym told ∙ other in absurd (cc)),
        λ because. absurd (false≢true (ap is_polling (sym c.phase ∙ because.0))),
      );
      some = λ e. ((λ other. (c.phase, sym (same_epoch (p.epoch + 1) e (sym told ∙ other)))), λ because. told ∙ ap (λ x. Some (makes.Crossed (Some x))) (sym because.1));
      epoch = ap (λ (x : Private). x.epoch) c.after ∙ sym (ap (λ b. if b then p.epoch + 1 else p.epoch) (ap gives_back c.phase));
    }

-- every poll that ends has its cause
pub poll_has_cause : (p : Private) (word : ℕ) (box : Contents) → is_busy p ≡ true → IsBetween p.phase → PollHasCause p (step_of p word box) word
poll_has_cause p word box busy whole = poll_cause (step_made p word box busy whole)

-- what holds of the whole step holds of what is learnt of the word: a mailbox that waits to be swapped is no poll's end
before_swap : (p q : Private) (word : ℕ) (box : Contents) (at : Phase) → q.phase ≡ at → PollHasCause p (swapped_at q box at) word → PollHasCause p q word
unfolding swapped_at
before_swap p q word box Swapping is cause =
    let none : answer_of q ≡ None = ap answer_at is in
    record {
      none = ((λ told. cause.none.0 (sym none ∙ told)), λ because. none ∙ cause.none.1 because);
      some = λ e. ((λ told. (cause.some e).0 (sym none ∙ told)), λ because. none ∙ (cause.some e).1 because);
      epoch = cause.epoch;
    }
before_swap p q word box Retiring is cause =
    let none : answer_of q ≡ None = ap answer_at is in
    record {
      none = ((λ told. cause.none.0 (sym none ∙ told)), λ because. none ∙ cause.none.1 because);
      some = λ e. ((λ told. (cause.some e).0 (sym none ∙ told)), λ because. none ∙ (cause.some e).1 because);
      epoch = cause.epoch;
    }
before_swap p q word box _ is cause = cause

-- every word that is learnt ends a poll where it has to
pub took_polled : (p : Private) (word : ℕ) → is_busy p ≡ true → IsBetween p.phase → PollHasCause p (took_of p word) word
unfolding step_of swapped_of
took_polled p word busy between = before_swap p (took_of p word) word p.log (took_of p word).phase refl (poll_cause (step_made p word p.log busy between))

-- a busy mutator has answered nothing
pub busy_none : (phase : Phase) → is_busy_at phase ≡ true → answer_at phase ≡ None
busy_none (Finished work made) busy = cc
busy_none _ busy = refl
