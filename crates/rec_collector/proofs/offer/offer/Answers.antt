-- The contract of `offer`: one slot is offered.
use Rattle.std.proofs.Common.{sym, ◌∙◌}
use Rattle.rec_collector.proofs.Offering.{pushed_one}
use Rattle.rec_collector.proofs.offer.offer.Goals as goal

pub returns-then-not-buffered : goal.returns-then-not-buffered
returns-then-not-buffered c =
    c.push_root.ensures ∙ pushed_one c.args.counts.now c.set_colour.new.self c.args.slot c.requires (sym c.keeps_colour.ensures ∙ c.if-keeps_colour.false) c.set_colour.ensures (sym c.buffered.ensures ∙ c.if-not-buffered.true)
