-- The contract of `Mutator::poll`: looks at the epoch word, and crosses.
use Rattle.std.proofs.Common.{◌≡◌, false, sym, subst}
use Rattle.rec_table.proofs.Common.{IsMutatorOf, IsWorld, MutatorView, Started, mutator_now, started}
use Rattle.rec_table.specs.Straight.{Polled}
use Rattle.rec_table.proofs.mutator.Mutator.poll.Goals as goal
use Rattle.rec_table.proofs.mutator.Mutator.poll.Goals.{After-poll}

pub poll-requires-clause-own : goal.poll-requires-clause-own
poll-requires-clause-own c = subst (λ (s : Started × MutatorView). IsMutatorOf s.0 s.1) (λ i. (started (sym c.board.ensures.table i) (sym c.board.ensures.world i), sym c.self.view_is i)) c.requires.own

pub poll-requires-clause-world : goal.poll-requires-clause-world
poll-requires-clause-world c = subst IsWorld (sym c.board.ensures.world) c.board.ensures.kept

pub poll-requires-clause-may : goal.poll-requires-clause-may
poll-requires-clause-may c = (c.self.invariant, subst (λ (m : MutatorView). (mutator_now m).left ≡ false) (sym c.self.view_is) c.requires.present, tt, tt)

pub invariant_of-self : goal.invariant_of-self
invariant_of-self c = c.poll.ensures.idle

made : (c : After-poll) → Polled c.args.self.now c.poll.new.self c.poll.result
made c = subst (λ (m : MutatorView). Polled m c.poll.new.self c.poll.result) c.self.view_is c.poll.ensures

pub returns-clause-grows : goal.returns-clause-grows
returns-clause-grows c = (made (goal.at.returns-clause-grows c).After-poll).grows

pub returns-clause-is : goal.returns-clause-is
returns-clause-is c = (made (goal.at.returns-clause-is c).After-poll).is

pub returns-clause-answer : goal.returns-clause-answer
returns-clause-answer c = (made (goal.at.returns-clause-answer c).After-poll).answer

pub returns-clause-causes : goal.returns-clause-causes
returns-clause-causes c = (made (goal.at.returns-clause-causes c).After-poll).causes

pub returns-clause-left : goal.returns-clause-left
returns-clause-left c = (made (goal.at.returns-clause-left c).After-poll).left

pub returns-clause-line : goal.returns-clause-line
returns-clause-line c = (made (goal.at.returns-clause-line c).After-poll).line

pub returns-clause-idle : goal.returns-clause-idle
returns-clause-idle c = (made (goal.at.returns-clause-idle c).After-poll).idle

pub returns-clause-same : goal.returns-clause-same
returns-clause-same c = (made (goal.at.returns-clause-same c).After-poll).same
