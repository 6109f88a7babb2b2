-- The contract of `make_turn`: makes the operation of a turn that looks at no mailbox, and no more.
use Rattle.std.proofs.Common.{◌+◌, ◌-◌, ◌%◌, ◌^◌, ◌<◌, ℕ, ⊎_elim, sym, ap, ◌∙◌, subst}
use mathlib.Core.Option.{none}
use Rattle.atomic_table.specs.Table.{step}
use Rattle.rec_table.proofs.Common.{written, Op, IsReturnOp}
use Rattle.rec_word.specs.declared.op.Op.TheVariants as ops
use Rattle.rec_core.proofs.Turning.{some_op}
use Rattle.rec_table.proofs.Gathering.{IsLoneOp, allows_lone, allows_return, made_lone, made_return, no_else_turn}
use Rattle.rec_table.proofs.collector.make_turn.Goals as goal

pub load-requires : goal.load-requires
load-requires g c = (
  c.requires.table,
  subst (λ (i : ℕ). i < c.args.board.now.table.shared.table_id.words) (sym c.index-word.ensures) c.requires.there,
  allows_lone c.args.board.now.table.shared.key.value _ _ c.index-word.result c.args.seat.now.me c.args.op g.W.Turning.actor (λ n. n) (step c.args.board.now.table.shared.table_id.slots c.index-word.result 0 0 none)
      c.requires.seat c.requires.actor c.requires.between c.requires.op (subst IsLoneOp (sym c.in-LoadChild.is) tt) c.index-word.ensures (λ n. ap (λ (o : Op). written o n) (sym c.in-LoadChild.is)),
)

pub swap-requires : goal.swap-requires
swap-requires g c = (
  c.requires.table,
  subst (λ (i : ℕ). i < c.args.board.now.table.shared.table_id.words) (sym c.index-word.ensures) c.requires.there,
  allows_lone c.args.board.now.table.shared.key.value _ _ c.index-word.result c.args.seat.now.me c.args.op g.W.Turning.actor (λ _. 0) (step c.args.board.now.table.shared.table_id.slots c.index-word.result 0 0 none)
      c.requires.seat c.requires.actor c.requires.between c.requires.op (⊎_elim (λ x. subst IsLoneOp (sym x.1) tt) (λ x. subst IsLoneOp (sym x.1) tt) c.in-ClearField.is) c.index-word.ensures (λ n. ⊎_elim (λ x. ap (λ (o : Op). written o n) (sym x.1)) (λ x. ap (λ (o : Op). written o n) (sym x.1)) c.in-ClearField.is),
)

pub swap-requires-in-StoreEpoch : goal.swap-requires-in-StoreEpoch
swap-requires-in-StoreEpoch g c = (
  c.requires.table,
  subst (λ (i : ℕ). i < c.args.board.now.table.shared.table_id.words) (sym c.index-word.ensures) c.requires.there,
  allows_lone c.args.board.now.table.shared.key.value _ _ c.index-word.result c.args.seat.now.me c.args.op g.W.Turning.actor (λ _. c.from.result) (step c.args.board.now.table.shared.table_id.slots c.index-word.result c.from.result 0 none)
      c.requires.seat c.requires.actor c.requires.between c.requires.op (subst IsLoneOp (sym c.in-StoreEpoch.is) tt) c.index-word.ensures (λ n. c.from.ensures ∙ ap (λ (o : Op). written o n) (sym c.in-StoreEpoch.is)),
)

pub fetch_add-requires : goal.fetch_add-requires
fetch_add-requires g c = (
  c.requires.table,
  subst (λ (i : ℕ). i < c.args.board.now.table.shared.table_id.words) (sym c.index-word.ensures) c.requires.there,
  allows_lone c.args.board.now.table.shared.key.value _ _ c.index-word.result c.args.seat.now.me c.args.op g.W.Turning.actor (λ n. (n + 1) % 2 ^ 64) (step c.args.board.now.table.shared.table_id.slots c.index-word.result 1 0 none)
      c.requires.seat c.requires.actor c.requires.between c.requires.op (subst IsLoneOp (sym c.in-AddFreed.is) tt) c.index-word.ensures (λ n. ap (λ (o : Op). written o n) (sym c.in-AddFreed.is)),
)

pub fetch_add-requires-in-ReturnBox : goal.fetch_add-requires-in-ReturnBox
fetch_add-requires-in-ReturnBox g c = (
  c.requires.table,
  subst (λ (i : ℕ). i < c.args.board.now.table.shared.table_id.words) (sym c.index-word.ensures) c.requires.there,
  allows_return c.args.board.now.table.shared.key.value _ _ c.index-word.result c.args.seat.now.me c.args.op g.W.Turning.actor (λ n. (n + (2 ^ 64 - 3)) % 2 ^ 64) (step c.args.board.now.table.shared.table_id.slots c.index-word.result (2 ^ 64 - 3) 0 none)
      c.requires.seat c.requires.actor c.requires.between c.requires.op (subst IsReturnOp (sym c.in-ReturnBox.is) tt) c.index-word.ensures (λ n. ap (λ (o : Op). written o n) (sym c.in-ReturnBox.is)),
)

pub unreachable-requires : goal.unreachable-requires
unreachable-requires g c =
    let d = c.in_default in
    no_else_turn g.W.Turning.actor c.args.op c.requires.between c.requires.looks c.requires.op d.not-LoadChild d.not-ClearField d.not-FreeHeader d.not-StoreEpoch d.not-AddFreed d.not-ReturnBox

pub returns-in-LoadChild-clause-view : goal.returns-in-LoadChild-clause-view
returns-in-LoadChild-clause-view g c =
    made_lone g.W.Turning.actor c.args.op c.load.result c.args.seat.now.me c.load.new.seat.me c.requires.seat c.requires.between c.requires.op (subst IsLoneOp (sym c.in-LoadChild.is) tt) c.load.ensures.2.0

pub returns-in-ClearField-clause-view : goal.returns-in-ClearField-clause-view
returns-in-ClearField-clause-view g c =
    made_lone g.W.Turning.actor c.args.op c.swap.result c.args.seat.now.me c.swap.new.seat.me c.requires.seat c.requires.between c.requires.op (⊎_elim (λ x. subst IsLoneOp (sym x.1) tt) (λ x. subst IsLoneOp (sym x.1) tt) c.in-ClearField.is) c.swap.ensures.2.0

pub returns-in-StoreEpoch-clause-view : goal.returns-in-StoreEpoch-clause-view
returns-in-StoreEpoch-clause-view g c =
    made_lone g.W.Turning.actor c.args.op c.swap-in-StoreEpoch.result c.args.seat.now.me c.swap-in-StoreEpoch.new.seat.me c.requires.seat c.requires.between c.requires.op (subst IsLoneOp (sym c.in-StoreEpoch.is) tt) c.swap-in-StoreEpoch.ensures.2.0

pub returns-in-AddFreed-clause-view : goal.returns-in-AddFreed-clause-view
returns-in-AddFreed-clause-view g c =
    made_lone g.W.Turning.actor c.args.op c.fetch_add.result c.args.seat.now.me c.fetch_add.new.seat.me c.requires.seat c.requires.between c.requires.op (subst IsLoneOp (sym c.in-AddFreed.is) tt) c.fetch_add.ensures.2.0

pub returns-in-ReturnBox-clause-view : goal.returns-in-ReturnBox-clause-view
returns-in-ReturnBox-clause-view g c =
    made_return g.W.Turning.actor c.args.op c.fetch_add-in-ReturnBox.result c.args.seat.now.me c.fetch_add-in-ReturnBox.new.seat.me c.requires.seat c.requires.between c.requires.op (subst IsReturnOp (sym c.in-ReturnBox.is) tt) c.fetch_add-in-ReturnBox.ensures.2.0

pub returns-in-ReturnBox-clause-header : goal.returns-in-ReturnBox-clause-header
returns-in-ReturnBox-clause-header g c = λ slot frees.
    absurd (subst IsReturnOp (some_op c.args.op (ops.FreeHeader slot) (sym c.requires.op ∙ frees)) (subst IsReturnOp (sym c.in-ReturnBox.is) tt))
