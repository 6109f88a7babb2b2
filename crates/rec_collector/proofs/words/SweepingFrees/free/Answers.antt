-- The contract of `free`: a header is freed for a sweep by a turn.
use Rattle.rec_collector.proofs.Common.{Private}
use Rattle.rec_collector.proofs.ByTurns.{sweeping_loops, sweeping_more, sweeping_op}
use Rattle.rec_collector.proofs.words.SweepingFrees.free.Goals as goal

pub make-requires : goal.make-requires
make-requires g c =
    let p : Private = g.W.Starting.start in
    let stands = g.T.Turns.StandsAt c.args.board.now c.args.seat.now in
    let n = c.requires.0 in
    let w = c.requires.1 in
    let r = c.requires.2 in (
      n,
      r.now,
      r.stood,
      sweeping_loops stands stands p n w c.args.slot r c.requires.3,
      sweeping_op stands stands p n w c.args.slot r c.requires.3,
    )

pub returns : goal.returns
returns g c = λ n w r named.
    let p : Private = g.W.Starting.start in
    let stands = g.T.Turns.StandsAt c.args.board.now c.args.seat.now in
    let after = g.T.Turns.StandsAt c.args.board.now c.make.new.seat in
    let made = c.make.ensures n r.now r.stood (sweeping_loops stands after p n w c.args.slot r named) (sweeping_op stands after p n w c.args.slot r named) in
    sweeping_more stands after p n w c.args.slot r named c.make.result made.0 made.1
