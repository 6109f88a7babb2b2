-- The contract of `Trial::took_in`: learns the word that the field holds, in a phase that is known.
use Rattle.std.proofs.Common.{◌≡◌, ℕ, Option, ap, sym, ◌∙◌}
use Rattle.rec_trial.proofs.Common.{target_of, learns, visible, State, Phase, Work, advanced, learnt_at, pointed, settled}
use Rattle.rec_trial.proofs.AtWork.{at_work_place, small_done, took_at_work, took_slots}
use Rattle.rec_trial.proofs.Midway.{at_work_due, at_work_midway, rules_midway}
use Rattle.rec_trial.proofs.Promised.{took_promised, took_recorded}
use Rattle.rec_trial.proofs.Staying.{at_work_here, learnt_here}
use Rattle.rec_trial.proofs.Visible.{visible_leads}
use Rattle.rec_trial.proofs.Runs.{took_busy}
use Rattle.rec_trial.proofs.trial.Trial.took_in.Goals as goal

pub learn-requires-clause-in_range : goal.learn-requires-clause-in_range
learn-requires-clause-in_range c = c.seen_in-seen.ensures.in_range

pub learn-requires-clause-due : goal.learn-requires-clause-due
learn-requires-clause-due c = rw c.requires.phase (at_work_due c.args.self.now c.args.counts.now c.requires.kept)

pub learn-requires-clause-rules : goal.learn-requires-clause-rules
learn-requires-clause-rules c = rw c.requires.phase (rules_midway (record { machine = c.args.self.now; counts = c.args.counts.now }) (at_work_midway c.args.self.now c.args.counts.now c.requires.kept))

pub go_to_next-requires-clause-small : goal.go_to_next-requires-clause-small
go_to_next-requires-clause-small c = small_done c.args.self.now c.args.counts.now c.rules.ensures c.requires.kept c.requires.busy

pub go_to_next-requires-clause-here : goal.go_to_next-requires-clause-here
go_to_next-requires-clause-here c = rw (c.learn.ensures, c.requires.phase) (learnt_here c.args.self.now.phase c.args.counts.now c.args.self.now c.seen_in-seen.result (at_work_here c.args.self.now c.args.counts.now c.requires.kept))

-- what was learnt
learnt : (phase now : Phase) (s t : State) (seen : Option ℕ) (word : ℕ) → t ≡ learnt_at phase s seen → learnt_at phase s seen ≡ learnt_at phase s (target_of (visible s word)) → phase ≡ now → t ≡ learnt_at now s (target_of (visible s word))
learnt phase now s t seen word took alike is = took ∙ alike ∙ ap (λ (p : Phase). learnt_at p s (target_of (visible s word))) is

pub go_to_next-requires-clause-goes_on : goal.go_to_next-requires-clause-goes_on
go_to_next-requires-clause-goes_on c = rw (learnt c.args.phase c.args.self.now.phase c.args.counts.now c.learn.new.counts c.seen_in-seen.result c.args.word c.learn.ensures c.seen_in-seen.ensures.learnt c.requires.phase) (learns c.requires.kept c.requires.busy (visible c.args.counts.now c.args.word) (visible_leads c.args.counts.now c.args.word c.requires.named))

pub returns-clause-took : goal.returns-clause-took
returns-clause-took c =
    let w : Work = record { machine = c.args.self.now; counts = c.args.counts.now } in
    let e : ◌≡◌ {A = Work} (record { machine = c.go_to_next.new.self; counts = c.go_to_next.new.counts }) (pointed (settled (record { machine = advanced c.args.self.now; counts = learnt_at c.args.self.now.phase c.args.counts.now (target_of (visible c.args.counts.now c.args.word)) }))) = rw (learnt c.args.phase c.args.self.now.phase c.args.counts.now c.learn.new.counts c.seen_in-seen.result c.args.word c.learn.ensures c.seen_in-seen.ensures.learnt c.requires.phase) at c.go_to_next.ensures in
    e ∙ sym (took_busy w (visible c.args.counts.now c.args.word) c.requires.busy)

pub returns-clause-kept : goal.returns-clause-kept
returns-clause-kept c = took_at_work c.args.self.now c.args.counts.now c.requires.kept (visible c.args.counts.now c.args.word) (visible_leads c.args.counts.now c.args.word c.requires.named) c.go_to_next.new.self c.go_to_next.new.counts (returns-clause-took c)

pub returns-clause-place : goal.returns-clause-place
returns-clause-place c = at_work_place c.go_to_next.new.self c.go_to_next.new.counts (returns-clause-kept c)

pub returns-clause-slots : goal.returns-clause-slots
returns-clause-slots c = took_slots c.args.self.now c.args.counts.now c.requires.kept (visible c.args.counts.now c.args.word) (visible_leads c.args.counts.now c.args.word c.requires.named) c.go_to_next.new.self c.go_to_next.new.counts (returns-clause-took c)

pub returns-clause-promised : goal.returns-clause-promised
returns-clause-promised c = λ fields before words r e t. took_promised fields before words r c.args.self.now c.args.counts.now (visible c.args.counts.now c.args.word) (visible_leads c.args.counts.now c.args.word c.requires.named) e t

pub returns-clause-recorded : goal.returns-clause-recorded
returns-clause-recorded c = λ r e. took_recorded r c.args.self.now c.args.counts.now (visible c.args.counts.now c.args.word) c.go_to_next.new.self c.go_to_next.new.counts e (returns-clause-took c)
