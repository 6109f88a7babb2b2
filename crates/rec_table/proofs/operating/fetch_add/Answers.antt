-- The contract of `fetch_add`: the operation keeps the rule of the table, and is the last of those that made the run.
use Rattle.std.proofs.Common.{◌+◌, ◌%◌, ◌^◌}
use mathlib.Core.Option.{none}
use Rattle.atomic_table.specs.Table.{step}
use Rattle.rec_table.proofs.Operations.{allows}
use Rattle.rec_table.proofs.operating.fetch_add.Goals as goal

pub fetch_add-requires : goal.fetch_add-requires
fetch_add-requires g c =
    let key = c.args.board.now.table.shared.key.value in
    let slots = c.args.board.now.table.shared.table_id.slots in (
      c.requires.0,
      c.requires.1,
      allows key g.M.Operating.kind slots c.args.seat.now.id c.args.seat.now.me c.args.word (λ n. (n + c.args.more) % 2 ^ 64) (g.M.Play.then (step slots c.args.word c.args.more 0 none) c.args.seat.now.me) c.requires.2,
    )
