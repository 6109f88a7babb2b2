-- The contract of `make`: a heap in its box, and a vacant box for each of its mutators.
use Rattle.recycler_c.proofs.Settles.{opened_home, opened_idle}
use Rattle.recycler_c.proofs.opening.make.Goals as goal

pub of-requires-clause-idle : goal.of-requires-clause-idle
of-requires-clause-idle c = opened_idle c.args.config c.in_ok-world.world c.in_ok-world.ensures.opened c.in_ok-world.ensures.mutators

pub of-requires-clause-home : goal.of-requires-clause-home
of-requires-clause-home c =
    opened_home c.args.config c.in_ok-world.world c.in_ok-world.ensures.opened c.in_ok-world.ensures.kept (opened_idle c.args.config c.in_ok-world.world c.in_ok-world.ensures.opened c.in_ok-world.ensures.mutators)
