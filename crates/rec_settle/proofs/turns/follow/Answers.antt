-- Behind a step of the collector the mutator for which it waited polls.
use Rattle.std.proofs.Common.{subst, sym}
use Rattle.rec_collector.specs.declared.turn.Turn.{Turn}
use Rattle.rec_core.specs.Turn.{TurnHasCause}
use Rattle.rec_settle.specs.Collecting.{Anyone, HasStepped}
use Rattle.rec_settle.proofs.Waiting.{has_polled, polled_behind}
use Rattle.rec_settle.proofs.turns.follow.Goals as goal

-- whoever is waited for is one of the heap's mutators
pub poll-requires-clause-mutator : goal.poll-requires-clause-mutator
poll-requires-clause-mutator c = (c.requires.awaited c.in-Waiting.mutator c.in-Waiting.is).0

pub returns-in-Waiting-clause-stepped : goal.returns-in-Waiting-clause-stepped
returns-in-Waiting-clause-stepped c = λ before turn.
    subst (λ (t : Turn). HasStepped Anyone before t c.poll.new.self) (sym c.in-Waiting.is)
    (polled_behind Anyone before c.args.world.now c.poll.new.self c.in-Waiting.mutator tt turn.turned c.requires.kept (subst (TurnHasCause before c.args.world.now) c.in-Waiting.is turn.cause)
    (has_polled c.args.world.now c.poll.new.self c.in-Waiting.mutator c.poll.result c.poll.ensures.worked c.poll.ensures.polled.quiet c.poll.ensures.polled.idle c.poll.ensures.polled.crossed c.poll.ensures.polled.none c.poll.ensures.polled.some))
