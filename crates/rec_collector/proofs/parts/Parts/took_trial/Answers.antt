-- The contract of `Parts::took_trial`: a field was loaded for the trial.
use Rattle.std.proofs.Common.{sym, ◌∙◌, ap}
use Rattle.rec_collector.proofs.Common.{tried, with_tried, worked, Parts}
use Rattle.rec_trial.specs.Trial as trials
use Rattle.rec_collector.proofs.Answering.{due, more_tried, over_tried, whole}
use Rattle.rec_collector.proofs.parts.Parts.took_trial.Goals as goal

pub returns-else-is_none : goal.returns-else-is_none
returns-else-is_none c =
    let w : Parts = whole c.self.inside in
    let v : trials.Work = record { machine = c.took.new.self; counts = c.took.new.counts } in
    more_tried w v (due c.next.ensures c.is_none.ensures c.if-is_none.false) ∙ ap (tried w) c.took.ensures.took ∙ ap (λ (u : Parts). with_tried c.in-Trying.trial u c.args.word) c.self.view_is
    ∙ ap (worked c.args.self.now c.args.word) (sym c.in-Trying.is)

pub returns-then-is_none : goal.returns-then-is_none
returns-then-is_none c =
    let w : Parts = whole c.self.inside in
    let v : trials.Work = record { machine = c.took.new.self; counts = c.took.new.counts } in
    c.end_trial.ensures ∙ over_tried w v (due c.next.ensures c.is_none.ensures c.if-is_none.true) ∙ ap (tried w) c.took.ensures.took ∙ ap (λ (u : Parts). with_tried c.in-Trying.trial u c.args.word) c.self.view_is
    ∙ ap (worked c.args.self.now c.args.word) (sym c.in-Trying.is)
