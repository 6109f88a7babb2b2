-- The last step of the command says all.
use Rattle.std.proofs.Common.{refl}
use Rattle.rec_world.proofs.Common.{begun}
use Rattle.rec_mutator.specs.declared.work.Work.TheVariants as works
use Rattle.rec_world.proofs.Beginnings.{began_work}
use Rattle.rec_world.proofs.Calls.{world_kept, finished_kept, worked}
use Rattle.rec_world.proofs.Commands.{IsAnswered, command_said, command_crosses}
use Rattle.rec_world.proofs.world.World.command.Goals as goal
use Rattle.rec_world.proofs.world.World.command.Goals.{In-Answered}

-- what is said of the command
said : (c : In-Answered) → IsAnswered c.args.self.now c.carry_out.new.self c.args.t c.args.cmd c.in-Answered.told
said c =
    command_said c.args.self.now (begun c.args.self.now c.args.t (works.Command c.args.cmd)) c.carry_out.new.self c.args.t c.args.cmd c.in-Answered.told (world_kept c.args.self.now c.rules.ensures)
    c.requires.valid.0 refl (began_work c.args.self.now c.args.t (works.Command c.args.cmd) (world_kept c.args.self.now c.rules.ensures) c.requires.valid.0) c.in-Answered.ensures.finished
    (finished_kept c.args.self.now (begun c.args.self.now c.args.t (works.Command c.args.cmd)) c.carry_out.new.self c.args.t _ _ refl c.in-Answered.ensures.finished)

pub unreachable-requires : goal.unreachable-requires
unreachable-requires c =
    command_crosses c.args.self.now (begun c.args.self.now c.args.t (works.Command c.args.cmd)) c.carry_out.new.self c.args.t c.args.cmd c.in-Crossed.field-0 (world_kept c.args.self.now c.rules.ensures)
    c.requires.valid.0 refl (began_work c.args.self.now c.args.t (works.Command c.args.cmd) (world_kept c.args.self.now c.rules.ensures) c.requires.valid.0) c.in-Crossed.ensures.finished
    (finished_kept c.args.self.now (begun c.args.self.now c.args.t (works.Command c.args.cmd)) c.carry_out.new.self c.args.t _ _ refl c.in-Crossed.ensures.finished)

pub returns-clause-worked : goal.returns-clause-worked
returns-clause-worked c = worked c.args.self.now (begun c.args.self.now c.args.t (works.Command c.args.cmd)) c.carry_out.new.self c.args.t _ _ refl c.in-Answered.ensures.finished (said c).stays.idle

pub returns-clause-answer : goal.returns-clause-answer
returns-clause-answer c = c.in-Answered.ensures.finished.answer

pub returns-clause-explained : goal.returns-clause-explained
returns-clause-explained c = (said c).explained

pub returns-clause-refuses : goal.returns-clause-refuses
returns-clause-refuses c = (said c).refuses

pub returns-clause-changes : goal.returns-clause-changes
returns-clause-changes c = (said c).changes

pub returns-clause-stays : goal.returns-clause-stays
returns-clause-stays c = (said c).stays
