-- The contract of `Parts::took_prep`: a field was loaded for the preparation.
use Rattle.std.proofs.Common.{sym, ◌∙◌, ap, subst}
use Rattle.rec_collector.proofs.Common.{prepared, with_loaded, worked, Parts}
use Rattle.rec_collector.specs.Works.{MayWork}
use Rattle.rec_sigma.specs.Prepare as preps
use Rattle.rec_collector.proofs.Answering.{due, more_prepared, over_prepared, whole}
use Rattle.rec_collector.proofs.Goings.{with_counts}
use Rattle.rec_collector.proofs.Steps.{prep_next}
use Rattle.rec_collector.proofs.parts.Parts.took_prep.Goals as goal

pub took-requires-clause-busy : goal.took-requires-clause-busy
took-requires-clause-busy c = prep_next _ ∙ (subst (MayWork c.args.self.now c.args.word) c.in-Preparing.is c.requires.may).0

pub returns-else-is_none : goal.returns-else-is_none
returns-else-is_none c =
    let w : Parts = whole c.self.inside in
    let v : preps.Work = record { machine = c.took.new.self; counts = c.took.new.counts } in
    more_prepared w v (due c.next.ensures.next c.is_none.ensures c.if-is_none.false) ∙ ap (prepared w) c.took.ensures.took ∙ ap (λ (u : Parts). with_loaded c.in-Preparing.prep u c.args.word) c.self.view_is
    ∙ ap (worked c.args.self.now c.args.word) (sym c.in-Preparing.is)

pub returns-then-is_none : goal.returns-then-is_none
returns-then-is_none c =
    let w : Parts = whole c.self.inside in
    let v : preps.Work = record { machine = c.took.new.self; counts = c.took.new.counts } in
    ap (λ phase. record { parts = with_counts w v.counts; phase = phase }) c.end_preparing.ensures
    ∙ over_prepared w v (due c.next.ensures.next c.is_none.ensures c.if-is_none.true) ∙ ap (prepared w) c.took.ensures.took ∙ ap (λ (u : Parts). with_loaded c.in-Preparing.prep u c.args.word) c.self.view_is
    ∙ ap (worked c.args.self.now c.args.word) (sym c.in-Preparing.is)
