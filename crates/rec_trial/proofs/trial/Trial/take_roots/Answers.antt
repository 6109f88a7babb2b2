-- The contract of `Trial::take_roots`: roots are taken up to one that is to be marked.
use Rattle.std.proofs.Common.{◌≡◌, ◌+◌, ◌<◌, false, rules, sym, ap, subst, ◌∙◌}
use Rattle.rec_trial.specs.Loaded.{HasMoved}
use Rattle.rec_trial.specs.Rules.{RulesAt}
use Rattle.rec_trial.proofs.Common.{Marking, Phase, Work, is_due, is_due_at, moved_at, moves_left}
use Rattle.rec_trial.proofs.Midway.{moves_more, on_the_way, rules_midway}
use Rattle.rec_trial.proofs.Moving.{moved_less}
use Rattle.rec_trial.proofs.trial.Trial.take_roots.Goals as goal

pub loop-counts-init : goal.loop-counts-init
loop-counts-init c = (0, HasMoved.none)

pub take_root-requires : goal.take_root-requires
take_root-requires c =
    let first : Work = record { machine = c.args.self.now; counts = c.args.counts.now } in
    let w : Work = record { machine = c.loop-counts.self; counts = c.loop-counts.counts } in
    let at : Marking ≡ w.machine.phase = search rules in
    subst (λ (p : Phase). RulesAt p w.counts) (sym at) (rules_midway w (on_the_way first c.requires c.loop-counts.invariant.0 w c.loop-counts.invariant.1).midway)

pub loop-counts-smaller : goal.loop-counts-smaller
loop-counts-smaller c =
    let w : Work = record { machine = c.loop-counts.self; counts = c.loop-counts.counts } in
    let at : Marking ≡ w.machine.phase = search rules in
    let here : is_due_at Marking w.machine.done w.counts ≡ false = search rules in
    let d : is_due w ≡ false = ap (λ (p : Phase). is_due_at p w.machine.done w.counts) (sym at) ∙ here in
    subst (λ (x : Work). moves_left x.machine.phase x < moves_left w.machine.phase w) (ap (λ (p : Phase). moved_at p w) (sym at) ∙ sym c.take_root.ensures) (moved_less w d)

pub loop-counts-preserved : goal.loop-counts-preserved
loop-counts-preserved c =
    let first : Work = record { machine = c.args.self.now; counts = c.args.counts.now } in
    let w : Work = record { machine = c.loop-counts.self; counts = c.loop-counts.counts } in
    let v : Work = record { machine = c.take_root.new.self; counts = c.take_root.new.counts } in
    let at : Marking ≡ w.machine.phase = search rules in
    let here : is_due_at Marking w.machine.done w.counts ≡ false = search rules in
    let d : is_due w ≡ false = ap (λ (p : Phase). is_due_at p w.machine.done w.counts) (sym at) ∙ here in
    (c.loop-counts.invariant.0 + 1, moves_more first w v c.loop-counts.invariant.0 Marking c.loop-counts.invariant.1 (sym at) d c.take_root.ensures)
