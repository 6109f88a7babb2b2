-- The first step finishes the work, or later ones do.
use Rattle.std.proofs.Common.{sym, ◌∙◌}
use Rattle.rec_world.proofs.Beginnings.{finished_first, first_goes_on, first_busy, finished_later}
use Rattle.rec_world.proofs.Calls.{world_kept}
use Rattle.rec_world.proofs.world.World.carry_out.Goals as goal

pub finish-requires-clause-mutator : goal.finish-requires-clause-mutator
finish-requires-clause-mutator c =
    (first_goes_on c.args.self.now c.begin_and_step.new.self c.args.t c.args.work (world_kept c.args.self.now c.requires.world) c.requires.mutator c.begin_and_step.ensures.begun c.begin_and_step.ensures.stepped (sym c.begin_and_step.ensures.answer ∙ c.in_default.is)).is

pub finish-requires-clause-begun : goal.finish-requires-clause-begun
finish-requires-clause-begun c =
    (first_goes_on c.args.self.now c.begin_and_step.new.self c.args.t c.args.work (world_kept c.args.self.now c.requires.world) c.requires.mutator c.begin_and_step.ensures.begun c.begin_and_step.ensures.stepped (sym c.begin_and_step.ensures.answer ∙ c.in_default.is)).found

pub finish-requires-clause-busy : goal.finish-requires-clause-busy
finish-requires-clause-busy c =
    first_busy c.args.self.now c.begin_and_step.new.self c.args.t c.args.work (world_kept c.args.self.now c.requires.world) c.requires.mutator c.begin_and_step.ensures.begun c.begin_and_step.ensures.stepped (sym c.begin_and_step.ensures.answer ∙ c.in_default.is)

pub returns-in-Some-clause-finished : goal.returns-in-Some-clause-finished
returns-in-Some-clause-finished c =
    finished_first c.args.self.now c.begin_and_step.new.self c.args.t c.args.work c.in-Some.made (world_kept c.args.self.now c.requires.world) c.requires.mutator c.begin_and_step.ensures.begun c.begin_and_step.ensures.stepped (sym c.begin_and_step.ensures.answer ∙ c.in-Some.is)

pub returns-clause-finished : goal.returns-clause-finished
returns-clause-finished c =
    finished_later c.args.self.now c.begin_and_step.new.self c.finish.new.self c.args.t c.args.work c.finish.result (world_kept c.args.self.now c.requires.world) c.requires.mutator c.begin_and_step.ensures.begun c.begin_and_step.ensures.stepped
    (first_goes_on c.args.self.now c.begin_and_step.new.self c.args.t c.args.work (world_kept c.args.self.now c.requires.world) c.requires.mutator c.begin_and_step.ensures.begun c.begin_and_step.ensures.stepped (sym c.begin_and_step.ensures.answer ∙ c.in_default.is))
    c.finish.ensures.finished
