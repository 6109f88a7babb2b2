-- The contract of `Machine::took_look`: a mutator's mailbox is held, or the collector crosses for it, or waits.
use Rattle.std.proofs.Common.{ap, sym, subst, ◌∙◌}
use Rattle.rec_word.specs.Looked.{looked}
use Rattle.rec_collector.specs.Given.{IsGivenAt, IsLookGiven}
use Rattle.rec_collector.specs.Private.{Private}
use Rattle.rec_collector.proofs.machine.Machine.took_look.Goals as goal

pub cross_for-requires-clause-covered : goal.cross_for-requires-clause-covered
unfolding IsGivenAt
cross_for-requires-clause-covered c =
    subst (IsLookGiven c.args.self.now c.args.mutator) (ap (λ (p : Private). looked p.epoch c.args.word) (sym c.self.view_is) ∙ sym c.at.ensures ∙ c.in-Crosses.is) c.requires.given
