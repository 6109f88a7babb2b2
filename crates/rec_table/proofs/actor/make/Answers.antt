-- The contract of `make`: makes the atomic operation of a step, and no more.
use Rattle.std.proofs.Common.{ℕ, sym, ap, ◌∙◌, subst, ◌<◌, ⊎_elim}
use mathlib.Core.Option.{none}
use Rattle.atomic_table.specs.Table.{step}
use Rattle.rec_table.proofs.Common.{written, Op, ready, seated_of}
use Rattle.rec_table.proofs.Calls.{load_leaves, IsLoad}
use Rattle.rec_table.proofs.Steps.{IsPlainOp}
use Rattle.rec_table.proofs.Making.{IsTakeOp, IsGiveOp, allows_plain, allows_taking, allows_giving, made_plain, made_taking, made_giving, plain_phase, taking_phase, giving_phase, is_plain_load, no_else}
use Rattle.rec_table.proofs.actor.make.Goals as goal

pub load-requires : goal.load-requires
load-requires g c =
    let key = c.args.board.now.table.shared.key.value in (
      c.requires.table,
      subst (λ (i : ℕ). i < c.args.board.now.table.shared.table_id.words) (sym c.index-word.ensures) c.requires.there,
      allows_plain key _ _ c.index-word.result c.args.seat.now.me c.args.op c.args.work g.W.Doing.work g.W.Doing.actor (λ n. n) (step c.args.board.now.table.shared.table_id.slots c.index-word.result 0 0 none)
          c.requires.seat c.requires.actor c.requires.work.0 c.requires.work.1 (plain_phase (ready g.W.Doing.actor c.args.work) c.args.op c.requires.op c.requires.between (is_plain_load c.args.op c.in-LoadField.is)) c.requires.op c.index-word.ensures (load_leaves c.args.op c.in-LoadField.is),
    )

pub swap-requires : goal.swap-requires
swap-requires g c =
    let key = c.args.board.now.table.shared.key.value in (
      c.requires.table,
      subst (λ (i : ℕ). i < c.args.board.now.table.shared.table_id.words) (sym c.index-word.ensures) c.requires.there,
      allows_plain key _ _ c.index-word.result c.args.seat.now.me c.args.op c.args.work g.W.Doing.work g.W.Doing.actor (λ _. c.in-SwapField.new) (step c.args.board.now.table.shared.table_id.slots c.index-word.result c.in-SwapField.new 0 none)
          c.requires.seat c.requires.actor c.requires.work.0 c.requires.work.1 (plain_phase (ready g.W.Doing.actor c.args.work) c.args.op c.requires.op c.requires.between (subst IsPlainOp (sym c.in-SwapField.is) tt)) c.requires.op c.index-word.ensures (λ n. ap (λ (o : Op). written o n) (sym c.in-SwapField.is)),
    )

pub swap-requires-in-TakeBox : goal.swap-requires-in-TakeBox
swap-requires-in-TakeBox g c =
    let key = c.args.board.now.table.shared.key.value in (
      c.requires.table,
      subst (λ (i : ℕ). i < c.args.board.now.table.shared.table_id.words) (sym c.index-word.ensures) c.requires.there,
      allows_taking key _ _ c.index-word.result c.args.seat.now.me c.args.op c.args.work g.W.Doing.actor (λ _. c.crossing.result) (step c.args.board.now.table.shared.table_id.slots c.index-word.result c.crossing.result 0 none)
          c.requires.seat c.requires.actor c.requires.work.1 (taking_phase (ready g.W.Doing.actor c.args.work) c.args.op c.requires.op c.requires.between (subst IsTakeOp (sym c.in-TakeBox.is) tt)) c.requires.op c.index-word.ensures (λ n. c.crossing.ensures ∙ ap (λ (o : Op). written o n) (sym c.in-TakeBox.is)),
    )

pub swap-requires-in-GiveBox : goal.swap-requires-in-GiveBox
swap-requires-in-GiveBox g c =
    let key = c.args.board.now.table.shared.key.value in (
      c.requires.table,
      subst (λ (i : ℕ). i < c.args.board.now.table.shared.table_id.words) (sym c.index-word.ensures) c.requires.there,
      allows_giving key _ _ c.index-word.result c.args.seat.now.me c.args.op c.args.work g.W.Doing.actor (λ _. c.crossing-in-GiveBox.result) (step c.args.board.now.table.shared.table_id.slots c.index-word.result c.crossing-in-GiveBox.result 0 none)
          c.requires.seat c.requires.actor c.requires.work.1 (giving_phase (ready g.W.Doing.actor c.args.work) c.args.op c.requires.op c.requires.between (subst IsGiveOp (sym c.in-GiveBox.is) tt)) c.requires.op c.index-word.ensures (λ n. c.crossing-in-GiveBox.ensures ∙ ap (λ (o : Op). written o n) (sym c.in-GiveBox.is)),
    )

pub unreachable-requires : goal.unreachable-requires
unreachable-requires g c =
    let d = c.in_default in
    no_else (ready g.W.Doing.actor c.args.work) c.args.op c.requires.op c.requires.between
    (λ (l : IsLoad c.args.op). ⊎_elim (λ x. d.not-LoadField x.0 x.1) (λ y. ⊎_elim (λ x. d.not-LoadHeader x.0 x.1) (λ z. ⊎_elim d.not-LoadEpoch (λ a. ⊎_elim (λ x. d.not-LoadCross x.0 x.1) d.not-LoadFreed a) z) y) l)
    d.not-SwapField d.not-ClaimHeader d.not-TakeBox d.not-GiveBox

pub returns-in-LoadField-clause-view : goal.returns-in-LoadField-clause-view
returns-in-LoadField-clause-view g c =
    made_plain (seated_of c.args.seat.now.me.0) g.W.Doing.actor c.args.work g.W.Doing.work c.load.result c.args.seat.now.me c.load.new.seat.me c.requires.seat c.requires.work.0
    (plain_phase (ready g.W.Doing.actor c.args.work) c.args.op c.requires.op c.requires.between (is_plain_load c.args.op c.in-LoadField.is)) c.load.ensures.2.0

pub returns-in-SwapField-clause-view : goal.returns-in-SwapField-clause-view
returns-in-SwapField-clause-view g c =
    made_plain (seated_of c.args.seat.now.me.0) g.W.Doing.actor c.args.work g.W.Doing.work c.swap.result c.args.seat.now.me c.swap.new.seat.me c.requires.seat c.requires.work.0
    (plain_phase (ready g.W.Doing.actor c.args.work) c.args.op c.requires.op c.requires.between (subst IsPlainOp (sym c.in-SwapField.is) tt)) c.swap.ensures.2.0

pub returns-in-TakeBox-clause-view : goal.returns-in-TakeBox-clause-view
returns-in-TakeBox-clause-view g c =
    (made_taking (seated_of c.args.seat.now.me.0) g.W.Doing.actor c.args.op c.args.work (step c.args.board.now.table.shared.table_id.slots c.index-word.result c.crossing.result 0 none) c.swap-in-TakeBox.result c.args.seat.now.me c.swap-in-TakeBox.new.seat.me c.requires.seat
    (taking_phase (ready g.W.Doing.actor c.args.work) c.args.op c.requires.op c.requires.between (subst IsTakeOp (sym c.in-TakeBox.is) tt)) c.requires.op c.swap-in-TakeBox.ensures.2).0

pub returns-in-TakeBox-clause-found : goal.returns-in-TakeBox-clause-found
returns-in-TakeBox-clause-found g c =
    (made_taking (seated_of c.args.seat.now.me.0) g.W.Doing.actor c.args.op c.args.work (step c.args.board.now.table.shared.table_id.slots c.index-word.result c.crossing.result 0 none) c.swap-in-TakeBox.result c.args.seat.now.me c.swap-in-TakeBox.new.seat.me c.requires.seat
    (taking_phase (ready g.W.Doing.actor c.args.work) c.args.op c.requires.op c.requires.between (subst IsTakeOp (sym c.in-TakeBox.is) tt)) c.requires.op c.swap-in-TakeBox.ensures.2).1

pub returns-in-TakeBox-clause-names : goal.returns-in-TakeBox-clause-names
returns-in-TakeBox-clause-names g c =
    (made_taking (seated_of c.args.seat.now.me.0) g.W.Doing.actor c.args.op c.args.work (step c.args.board.now.table.shared.table_id.slots c.index-word.result c.crossing.result 0 none) c.swap-in-TakeBox.result c.args.seat.now.me c.swap-in-TakeBox.new.seat.me c.requires.seat
    (taking_phase (ready g.W.Doing.actor c.args.work) c.args.op c.requires.op c.requires.between (subst IsTakeOp (sym c.in-TakeBox.is) tt)) c.requires.op c.swap-in-TakeBox.ensures.2).2

pub returns-in-GiveBox-clause-view : goal.returns-in-GiveBox-clause-view
returns-in-GiveBox-clause-view g c =
    (made_giving (seated_of c.args.seat.now.me.0) g.W.Doing.actor c.args.op c.args.work (step c.args.board.now.table.shared.table_id.slots c.index-word.result c.crossing-in-GiveBox.result 0 none) c.swap-in-GiveBox.result c.args.seat.now.me c.swap-in-GiveBox.new.seat.me c.requires.seat
    (giving_phase (ready g.W.Doing.actor c.args.work) c.args.op c.requires.op c.requires.between (subst IsGiveOp (sym c.in-GiveBox.is) tt)) c.requires.op c.swap-in-GiveBox.ensures.2).0

pub returns-in-GiveBox-clause-found : goal.returns-in-GiveBox-clause-found
returns-in-GiveBox-clause-found g c =
    (made_giving (seated_of c.args.seat.now.me.0) g.W.Doing.actor c.args.op c.args.work (step c.args.board.now.table.shared.table_id.slots c.index-word.result c.crossing-in-GiveBox.result 0 none) c.swap-in-GiveBox.result c.args.seat.now.me c.swap-in-GiveBox.new.seat.me c.requires.seat
    (giving_phase (ready g.W.Doing.actor c.args.work) c.args.op c.requires.op c.requires.between (subst IsGiveOp (sym c.in-GiveBox.is) tt)) c.requires.op c.swap-in-GiveBox.ensures.2).1

pub returns-in-GiveBox-clause-names : goal.returns-in-GiveBox-clause-names
returns-in-GiveBox-clause-names g c =
    (made_giving (seated_of c.args.seat.now.me.0) g.W.Doing.actor c.args.op c.args.work (step c.args.board.now.table.shared.table_id.slots c.index-word.result c.crossing-in-GiveBox.result 0 none) c.swap-in-GiveBox.result c.args.seat.now.me c.swap-in-GiveBox.new.seat.me c.requires.seat
    (giving_phase (ready g.W.Doing.actor c.args.work) c.args.op c.requires.op c.requires.between (subst IsGiveOp (sym c.in-GiveBox.is) tt)) c.requires.op c.swap-in-GiveBox.ensures.2).2

pub compare_exchange-requires : goal.compare_exchange-requires
compare_exchange-requires g c =
    let key = c.args.board.now.table.shared.key.value in (
      c.requires.table,
      subst (λ (i : ℕ). i < c.args.board.now.table.shared.table_id.words) (sym c.index-word.ensures) c.requires.there,
      allows_plain key _ _ c.index-word.result c.args.seat.now.me c.args.op c.args.work g.W.Doing.work g.W.Doing.actor (_) (step c.args.board.now.table.shared.table_id.slots c.index-word.result 0 c.in-ClaimHeader.header none)
          c.requires.seat c.requires.actor c.requires.work.0 c.requires.work.1 (plain_phase (ready g.W.Doing.actor c.args.work) c.args.op c.requires.op c.requires.between (subst IsPlainOp (sym c.in-ClaimHeader.is) tt)) c.requires.op c.index-word.ensures
          (λ n. ap (λ (o : Op). written o n) (sym c.in-ClaimHeader.is)),
    )

pub returns-in-ClaimHeader-clause-view : goal.returns-in-ClaimHeader-clause-view
returns-in-ClaimHeader-clause-view g c =
    made_plain (seated_of c.args.seat.now.me.0) g.W.Doing.actor c.args.work g.W.Doing.work c.compare_exchange.result c.args.seat.now.me c.compare_exchange.new.seat.me c.requires.seat c.requires.work.0
    (plain_phase (ready g.W.Doing.actor c.args.work) c.args.op c.requires.op c.requires.between (subst IsPlainOp (sym c.in-ClaimHeader.is) tt)) c.compare_exchange.ensures.2.0
