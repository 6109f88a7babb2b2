-- What is seen of a mutator: its number, its epoch, whether it has left, and its registers.
use Rattle.recycler_watch.proofs.state.mutator_of.Goals as goal

pub returns : goal.returns
returns c = λ i. record { mutator = c.args.t; epoch = c.epoch_of.ensures i; left = c.left.ensures i; registers = c.in_ok-registers.ensures i }
