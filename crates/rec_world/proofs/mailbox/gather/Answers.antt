-- A mailbox that the collector holds waits to be swapped.
use Rattle.std.proofs.Common.{sym, ◌∙◌}
use Rattle.rec_world.proofs.Mailboxes.{held_swaps}
use Rattle.rec_world.proofs.mailbox.gather.Goals as goal

pub swap_gathered-requires-clause-swapping : goal.swap_gathered-requires-clause-swapping
swap_gathered-requires-clause-swapping c = held_swaps c.args.collector.now.phase c.in-Some.t (sym c.swapping.ensures ∙ c.in-Some.is)
