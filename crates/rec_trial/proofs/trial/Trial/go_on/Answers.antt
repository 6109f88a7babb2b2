-- The contract of `Trial::go_on`: the moves up to the next load, or to the end.
use Rattle.std.proofs.Common.{◌≡◌, ◌<◌, true, false, rules, sym, subst, arith}
use Rattle.rec_trial.proofs.Common.{Work, is_due, moves_left}
use Rattle.rec_trial.proofs.Midway.{rules_midway, moved_on, on_the_way, arrived}
use Rattle.rec_trial.proofs.Moving.{moved_less}
use Rattle.rec_trial.proofs.Passing.{passes, no_more_left}
use Rattle.rec_trial.proofs.trial.Trial.go_on.Goals as goal

pub loop-counts-init : goal.loop-counts-init
loop-counts-init c =
    let first : Work = record { machine = c.args.self.now; counts = c.args.counts.now } in
    on_the_way first c.requires c.take_roots.ensures.0 (record { machine = c.take_roots.new.self; counts = c.take_roots.new.counts }) c.take_roots.ensures.1

pub pass-requires : goal.pass-requires
pass-requires c = c.rules.ensures

pub move_on-requires : goal.move_on-requires
move_on-requires c =
    let w : Work = record { machine = c.loop-counts.self; counts = c.loop-counts.counts } in
    let d : is_due w ≡ false = search rules in
    let v = passes (record { machine = c.args.self.now; counts = c.args.counts.now }) c.loop-counts.self c.pass.new.self c.loop-counts.counts c.loop-counts.invariant d c.pass.ensures.same c.pass.ensures.further c.pass.ensures.passed in
    record { rules = rules_midway (record { machine = c.pass.new.self; counts = c.loop-counts.counts }) v.0.midway }

pub loop-counts-smaller : goal.loop-counts-smaller
loop-counts-smaller c =
    let w : Work = record { machine = c.loop-counts.self; counts = c.loop-counts.counts } in
    let d : is_due w ≡ false = search rules in
    let first : Work = record { machine = c.args.self.now; counts = c.args.counts.now } in
    let v = passes first c.loop-counts.self c.pass.new.self c.loop-counts.counts c.loop-counts.invariant d c.pass.ensures.same c.pass.ensures.further c.pass.ensures.passed in
    let u : Work = record { machine = c.pass.new.self; counts = c.loop-counts.counts } in
    let less = moved_less u v.1 in
    let fewer = no_more_left c.loop-counts.self c.pass.new.self c.loop-counts.counts c.pass.ensures.same c.pass.ensures.further in
    subst (λ (x : Work). moves_left x.machine.phase x < moves_left w.machine.phase w) (sym c.move_on.ensures) (omega (arith, less, fewer))

pub loop-counts-preserved : goal.loop-counts-preserved
loop-counts-preserved c =
    let w : Work = record { machine = c.loop-counts.self; counts = c.loop-counts.counts } in
    let d : is_due w ≡ false = search rules in
    let first : Work = record { machine = c.args.self.now; counts = c.args.counts.now } in
    let v = passes first c.loop-counts.self c.pass.new.self c.loop-counts.counts c.loop-counts.invariant d c.pass.ensures.same c.pass.ensures.further c.pass.ensures.passed in
    rw c.move_on.ensures (moved_on first (record { machine = c.pass.new.self; counts = c.loop-counts.counts }) v.0 v.1)

pub returns : goal.returns
returns c =
    let w : Work = record { machine = c.loop-counts.self; counts = c.loop-counts.counts } in
    let d : is_due w ≡ true = search rules in
    arrived (record { machine = c.args.self.now; counts = c.args.counts.now }) w c.loop-counts.invariant d
