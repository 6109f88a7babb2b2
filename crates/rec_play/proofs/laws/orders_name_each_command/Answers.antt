-- The contract of `orders_name_each_command`: an order names each mutator just as often as it has commands, and nobody else.
use Rattle.rec_play.proofs.Orders.{order_names, order_length}
use Rattle.rec_play.proofs.laws.orders_name_each_command.Goals as goal

pub returns : goal.returns
returns c = record { names = order_names; long = order_length }
