-- The contract of `load`: a word is loaded for a preparation by a turn.
use Rattle.rec_word.specs.declared.op.Op.TheVariants as ops
use Rattle.rec_sigma.specs.Prepare as preps
use Rattle.rec_collector.proofs.Common.{Op, Private, parts_of, Preparing, prepared}
use Rattle.rec_collector.proofs.ByTurns.{run_loops, run_stands, preparing_given, preparing_more, preparing_op}
use Rattle.rec_collector.proofs.words.PreparingPrepares.load.Goals as goal

pub make-requires : goal.make-requires
make-requires g c =
    let p : Private = g.W.Starting.start in
    let stands = g.T.Turns.StandsAt c.args.board.now c.args.seat.now in
    let n = c.requires.0 in
    let w = c.requires.1 in
    let r = c.requires.2 in
    let op : Op = ops.LoadChild c.args.place in (
      n,
      r.now,
      run_stands stands p n (preps.next_of w.machine) (Preparing w.machine) w.counts (prepared (parts_of p) w) op r c.requires.3,
      run_loops stands p n (preps.next_of w.machine) (Preparing w.machine) w.counts (prepared (parts_of p) w) op r c.requires.3 tt,
      preparing_op stands stands p n w op r c.requires.3,
    )

pub returns : goal.returns
returns g c = λ n w r named.
    let p : Private = g.W.Starting.start in
    let stands = g.T.Turns.StandsAt c.args.board.now c.args.seat.now in
    let after = g.T.Turns.StandsAt c.args.board.now c.make.new.seat in
    let op : Op = ops.LoadChild c.args.place in
    let made = c.make.ensures n r.now (run_stands stands p n (preps.next_of w.machine) (Preparing w.machine) w.counts (prepared (parts_of p) w) op r named) (run_loops stands p n (preps.next_of w.machine) (Preparing w.machine) w.counts (prepared (parts_of p) w) op r named tt) (preparing_op stands after p n w op r named) in (
      preparing_given stands after p n w op r named c.make.result made.0,
      preparing_more stands after p n w op r named c.make.result made.0 made.1,
    )
