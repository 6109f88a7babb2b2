-- The contract of `load`: the operation keeps the rule of the table, and is the last of those that made the run.
use mathlib.Core.Option.{none}
use Rattle.atomic_table.specs.Table.{step}
use Rattle.rec_table.proofs.Operations.{allows}
use Rattle.rec_table.proofs.operating.load.Goals as goal

pub load-requires : goal.load-requires
load-requires g c =
    let key = c.args.board.now.table.shared.key.value in
    let slots = c.args.board.now.table.shared.table_id.slots in (
      c.requires.0,
      c.requires.1,
      allows key g.M.Operating.kind slots c.args.seat.now.id c.args.seat.now.me c.args.word (λ n. n) (g.M.Play.then (step slots c.args.word 0 0 none) c.args.seat.now.me) c.requires.2,
    )
