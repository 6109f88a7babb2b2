-- Skips and steps that answer nothing leave all as it was but the work, and the next one follows.
use Rattle.std.proofs.Common.{◌≤◌, arith, refl, sym, ap, ◌∙◌}
use Rattle.std.specs.Option.{is_none}
use Rattle.rec_world.proofs.Common.{IsMutator, Core, mutator}
use Rattle.rec_core.specs.Unfinished.{Waits}
use Rattle.rec_core.specs.Worked.{StepsTo}
use Rattle.rec_core.proofs.Unfinished.{waits_none, waited, nearer, mutator_there}
use Rattle.rec_world.proofs.Calls.{world_kept}
use Rattle.rec_world.proofs.Skipping.{found_of, path_both, path_waits, path_counts, path_world}
use Rattle.rec_world.proofs.world.World.finish.Goals as goal

pub loop-made-init : goal.loop-made-init
loop-made-init c = record { path = StepsTo.here c.args.self.now refl; waits = waits_none c.args.self.now c.args.t c.requires.begun; work = refl; busy = c.requires.busy; world = c.requires.world }

pub skip_taken-requires-clause-found : goal.skip_taken-requires-clause-found
skip_taken-requires-clause-found c = found_of c.args.self.now c.loop-made.self c.args.t c.loop-made.invariant.waits

pub returns-in-Some-clause-finished : goal.returns-in-Some-clause-finished
returns-in-Some-clause-finished c =
    let before : Core = c.args.self.now in
    let w : Core = c.loop-made.self in
    let v : Core = c.skip_taken.new.self in
    let is : IsMutator w.config c.args.t = mutator_there before w c.args.t c.loop-made.invariant.waits c.requires.mutator in
    record {
      last = v;
      path = path_both before c.args.t w v c.loop-made.invariant.path c.skip_taken.ensures.path;
      waits = path_waits before w c.args.t v c.loop-made.invariant.world is c.loop-made.invariant.waits c.skip_taken.ensures.path c.skip_taken.ensures.busy;
      busy = c.skip_taken.ensures.busy;
      work = (path_counts w c.args.t v c.loop-made.invariant.world is c.skip_taken.ensures.path).1 ∙ c.loop-made.invariant.work;
      world = c.skip_taken.ensures.kept;
      steps = c.step.ensures.step.stepped;
      answer = sym c.step.ensures.step.answer ∙ c.in-Some.is;
    }

pub loop-made-preserved : goal.loop-made-preserved
loop-made-preserved c =
    let before : Core = c.args.self.now in
    let w : Core = c.loop-made.self in
    let v : Core = c.skip_taken.new.self in
    let u : Core = c.step.new.self in
    let is : IsMutator w.config c.args.t = mutator_there before w c.args.t c.loop-made.invariant.waits c.requires.mutator in
    let v_is : IsMutator v.config c.args.t = (path_world w c.args.t v c.loop-made.invariant.world is c.skip_taken.ensures.path).1 in
    let waits : Waits before v c.args.t = path_waits before w c.args.t v c.loop-made.invariant.world is c.loop-made.invariant.waits c.skip_taken.ensures.path c.skip_taken.ensures.busy in
    record {
      path = StepsTo.further v u (path_both before c.args.t w v c.loop-made.invariant.path c.skip_taken.ensures.path) c.skip_taken.ensures.busy c.step.ensures.step.stepped;
      waits = waited before v u c.args.t (world_kept v c.skip_taken.ensures.kept) v_is c.skip_taken.ensures.busy waits c.step.ensures.step.stepped (sym c.step.ensures.step.answer ∙ c.in_default.is);
      work = c.step.ensures.step.work ∙ (path_counts w c.args.t v c.loop-made.invariant.world is c.skip_taken.ensures.path).1 ∙ c.loop-made.invariant.work;
      busy = c.step.ensures.step.busy ∙ ap is_none c.in_default.is;
      world = c.step.ensures.kept;
    }

pub loop-made-smaller : goal.loop-made-smaller
loop-made-smaller c =
    let before : Core = c.args.self.now in
    let w : Core = c.loop-made.self in
    let v : Core = c.skip_taken.new.self in
    let is : IsMutator w.config c.args.t = mutator_there before w c.args.t c.loop-made.invariant.waits c.requires.mutator in
    let v_is : IsMutator v.config c.args.t = (path_world w c.args.t v c.loop-made.invariant.world is c.skip_taken.ensures.path).1 in
    let waits : Waits before v c.args.t = path_waits before w c.args.t v c.loop-made.invariant.world is c.loop-made.invariant.waits c.skip_taken.ensures.path c.skip_taken.ensures.busy in
    let less = nearer before v c.step.new.self c.args.t (world_kept v c.skip_taken.ensures.kept) v_is c.skip_taken.ensures.busy waits c.step.ensures.step.stepped in
    let more : (mutator w c.args.t).steps ≤ (mutator v c.args.t).steps = (path_counts w c.args.t v c.loop-made.invariant.world is c.skip_taken.ensures.path).0 in
    omega (arith, less, more)
