-- The contract of `compare_exchange`: the operation keeps the rule of the table, and is the last of those that made the run.
use Rattle.std.proofs.Common.{◌==◌}
use mathlib.Core.Option.{none}
use prog.Atomic.{either}
use Rattle.atomic_table.specs.Table.{step}
use Rattle.rec_table.proofs.Operations.{allows}
use Rattle.rec_table.proofs.operating.compare_exchange.Goals as goal

pub compare_exchange-requires : goal.compare_exchange-requires
compare_exchange-requires g c =
    let key = c.args.board.now.table.shared.key.value in
    let slots = c.args.board.now.table.shared.table_id.slots in (
      c.requires.0,
      c.requires.1,
      allows key g.M.Operating.kind slots c.args.seat.now.id c.args.seat.now.me c.args.word (λ n. either (n == c.args.old) c.args.new n) (g.M.Play.then (step slots c.args.word c.args.old c.args.new none) c.args.seat.now.me) c.requires.2,
    )
