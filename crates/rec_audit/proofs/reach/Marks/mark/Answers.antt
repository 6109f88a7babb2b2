-- The contract of `mark`: a slot is marked.
use Rattle.std.proofs.Common.{false, refl, sym, ◌∙◌}
use Rattle.std.proofs.lemmas.List.{get_or_read}
use Rattle.rec_audit.proofs.Marking.{more_marked, more_one}
use Rattle.rec_audit.proofs.reach.Marks.mark.Goals as goal

pub returns-in_ok-push : goal.returns-in_ok-push
returns-in_ok-push c =
    more_one c.args.self.now _ c.args.slot c.requires.marking c.requires.within
    (sym (get_or_read c.args.self.now.marked.items c.args.slot c.index.result.now c.requires.within c.index.ensures false) ∙ c.if-not-index.true)
    refl c.in_ok-push.ensures.items

pub returns-else-not-index : goal.returns-else-not-index
returns-else-not-index c =
    more_marked c.args.self.now c.args.slot c.requires.marking
    (sym (get_or_read c.args.self.now.marked.items c.args.slot c.index.result.now c.requires.within c.index.ensures false) ∙ c.if-not-index.false)
