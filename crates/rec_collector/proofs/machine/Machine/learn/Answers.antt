-- The contract of `Machine::learn`: learns a word, by the phase.
use Rattle.rec_collector.proofs.Common.{IsGiven, IsGivenAt, took_at, took_of, turn_at, turn_of}
use Rattle.rec_collector.proofs.Keeping.{asked, learnt}
use Rattle.rec_collector.proofs.machine.Machine.learn.Goals as goal

pub took_request-requires-clause-covered : goal.took_request-requires-clause-covered
unfolding IsGivenAt
took_request-requires-clause-covered c = asked _ _ _ _ c.self.view_is c.in-Idle.is c.requires

pub took_look-requires-clause-given : goal.took_look-requires-clause-given
took_look-requires-clause-given c = asked _ _ _ _ c.self.view_is c.in-Looking.is c.requires

pub took_return-requires-clause-covered : goal.took_return-requires-clause-covered
unfolding IsGivenAt
took_return-requires-clause-covered c = asked _ _ _ _ c.self.view_is c.in-Returning.is c.requires

pub took_work-requires-clause-given : goal.took_work-requires-clause-given
unfolding IsGiven
took_work-requires-clause-given c = c.requires

pub returns-in-Swapping : goal.returns-in-Swapping
unfolding IsGivenAt
returns-in-Swapping c = absurd (asked _ _ _ _ c.self.view_is c.in-Swapping.is c.requires)

pub returns-in-Idle : goal.returns-in-Idle
unfolding took_at turn_at
returns-in-Idle c = let l = learnt _ _ c.args.word _ _ _ c.self.view_is c.in-Idle.is c.took_request.ensures.took c.took_request.ensures.turn in record { took = l.0; turn = l.1; same = c.took_request.ensures.same; kept = c.took_request.ensures.kept }

pub returns-in-Looking : goal.returns-in-Looking
returns-in-Looking c = let l = learnt _ _ c.args.word _ _ _ c.self.view_is c.in-Looking.is c.took_look.ensures.took c.took_look.ensures.turn in record { took = l.0; turn = l.1; same = c.took_look.ensures.same; kept = c.took_look.ensures.kept }

pub returns-in-Returning : goal.returns-in-Returning
unfolding took_at turn_at
returns-in-Returning c = let l = learnt _ _ c.args.word _ _ _ c.self.view_is c.in-Returning.is c.took_return.ensures.took c.took_return.ensures.turn in record { took = l.0; turn = l.1; same = c.took_return.ensures.same; kept = c.took_return.ensures.kept }

pub returns-in-Opening : goal.returns-in-Opening
unfolding took_at turn_at
returns-in-Opening c = let l = learnt _ _ c.args.word _ _ _ c.self.view_is c.in-Opening.is c.took_opening.ensures.took c.took_opening.ensures.turn in record { took = l.0; turn = l.1; same = c.took_opening.ensures.same; kept = c.took_opening.ensures.kept }

pub returns-in-Sweeping : goal.returns-in-Sweeping
unfolding took_of turn_of
returns-in-Sweeping c = record { took = c.took_sweep.ensures.took; turn = c.took_sweep.ensures.turn; same = c.took_sweep.ensures.same; kept = c.took_sweep.ensures.kept }

pub returns-in-Closing : goal.returns-in-Closing
unfolding took_at turn_at
returns-in-Closing c = let l = learnt _ _ c.args.word _ _ _ c.self.view_is c.in-Closing.is c.end.ensures.took c.end.ensures.turn in record { took = l.0; turn = l.1; same = c.end.ensures.same; kept = c.end.ensures.kept }

pub returns-in_default : goal.returns-in_default
unfolding took_of turn_of
returns-in_default c = record { took = c.took_work.ensures.took; turn = c.took_work.ensures.turn; same = c.took_work.ensures.same; kept = c.took_work.ensures.kept }
