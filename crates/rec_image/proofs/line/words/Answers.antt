-- Each word is read as any words go on there.
use Rattle.rec_io.proofs.Options.{none_then}
use Rattle.rec_image.proofs.Lines.{no_next, reading_next, no_feed}
use Rattle.std.proofs.Common.{arith}
use Rattle.rec_image.proofs.line.words.Goals as goal

pub returns-in_default-clause-none : goal.returns-in_default-clause-none
returns-in_default-clause-none c = no_next c.args.count c.args.slots c.loop.counter c.args.bytes.now c.loop.rest.now _ _ _ _ c.loop-test.true c.loop.invariant c.in_default.ensures.only

pub loop-preserved : goal.loop-preserved
loop-preserved c = reading_next c.args.count c.args.slots c.loop.counter c.args.bytes.now c.loop.rest.now c.in-Some.behind.now _ _ _ _ _ _ c.in-Some.target c.loop-test.true c.loop.invariant c.in-Some.ensures.found.0 c.in-Some.ensures.found.1 c.in-Some.ensures.only c.in_ok-push.ensures.items c.meet_target.ensures

pub returns-clause-none : goal.returns-clause-none
returns-clause-none c = none_then c.behind_byte.result _ c.behind_byte.ensures (no_feed c.args.count c.args.slots c.loop.counter c.args.bytes.now c.loop.rest.now _ _ _ _ (omega arith) c.loop.invariant)
