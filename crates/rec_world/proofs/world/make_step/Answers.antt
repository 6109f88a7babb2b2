-- The machine learns the word that its operation found.
use Rattle.std.proofs.Common.{ap, ◌∙◌}
use Rattle.rec_world.proofs.Common.{Private, took_of, step_of, swapped_of, cell, held}
use Rattle.rec_world.proofs.world.make_step.Goals as goal

pub returns-clause-machine : goal.returns-clause-machine
unfolding step_of
returns-clause-machine c =
    c.swap_own.ensures.machine
    ∙ ap (λ (p : Private). swapped_of p (held c.args.mailbox.now)) (c.took.ensures.took ∙ ap (took_of c.args.machine.now) (c.perform-found.ensures.found ∙ ap (cell c.args.memory.now) c.next-op.ensures))
