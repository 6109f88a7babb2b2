-- The last step of the poll says all.
use Rattle.std.proofs.Common.{refl}
use Rattle.rec_world.proofs.Common.{begun}
use Rattle.rec_mutator.specs.declared.work.Work.TheVariants as works
use Rattle.rec_world.proofs.Beginnings.{began_work}
use Rattle.rec_world.proofs.Calls.{world_kept, finished_kept, worked}
use Rattle.rec_world.specs.World.{IsPolled}
use Rattle.rec_world.proofs.Commands.{poll_said, poll_answers}
use Rattle.rec_world.proofs.world.World.poll.Goals as goal
use Rattle.rec_world.proofs.world.World.poll.Goals.{In-Crossed}

-- what is said of the poll
said : (c : In-Crossed) → IsPolled c.args.self.now c.carry_out.new.self c.args.t c.in-Crossed.epoch
said c =
    poll_said c.args.self.now (begun c.args.self.now c.args.t works.Poll) c.carry_out.new.self c.args.t c.in-Crossed.epoch (world_kept c.args.self.now c.rules.ensures)
    c.requires.mutator c.requires.present refl (began_work c.args.self.now c.args.t works.Poll (world_kept c.args.self.now c.rules.ensures) c.requires.mutator) c.in-Crossed.ensures.finished
    (finished_kept c.args.self.now (begun c.args.self.now c.args.t works.Poll) c.carry_out.new.self c.args.t _ _ refl c.in-Crossed.ensures.finished)

pub unreachable-requires : goal.unreachable-requires
unreachable-requires c =
    poll_answers c.args.self.now (begun c.args.self.now c.args.t works.Poll) c.carry_out.new.self c.args.t c.in-Answered.field-0 (world_kept c.args.self.now c.rules.ensures)
    c.requires.mutator refl (began_work c.args.self.now c.args.t works.Poll (world_kept c.args.self.now c.rules.ensures) c.requires.mutator) c.in-Answered.ensures.finished
    (finished_kept c.args.self.now (begun c.args.self.now c.args.t works.Poll) c.carry_out.new.self c.args.t _ _ refl c.in-Answered.ensures.finished)

pub returns-clause-worked : goal.returns-clause-worked
returns-clause-worked c = worked c.args.self.now (begun c.args.self.now c.args.t works.Poll) c.carry_out.new.self c.args.t _ _ refl c.in-Crossed.ensures.finished (said c).idle

pub returns-clause-answer : goal.returns-clause-answer
returns-clause-answer c = c.in-Crossed.ensures.finished.answer

pub returns-clause-polled : goal.returns-clause-polled
returns-clause-polled c = said c
