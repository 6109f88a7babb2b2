-- The contract of `load`: a word is loaded for a trial by a turn.
use Rattle.rec_word.specs.declared.op.Op.TheVariants as ops
use Rattle.rec_trial.specs.Trial as trials
use Rattle.rec_collector.proofs.Common.{Op, Private, parts_of, Trying, tried}
use Rattle.rec_collector.proofs.ByTurns.{run_loops, run_stands, trying_given, trying_more, trying_op}
use Rattle.rec_collector.proofs.words.TryingTries.load.Goals as goal

pub make-requires : goal.make-requires
make-requires g c =
    let p : Private = g.W.Starting.start in
    let stands = g.T.Turns.StandsAt c.args.board.now c.args.seat.now in
    let n = c.requires.0 in
    let w = c.requires.1 in
    let r = c.requires.2 in
    let op : Op = ops.LoadChild c.args.place in (
      n,
      r.now,
      run_stands stands p n (trials.next_of w.machine) (Trying w.machine) w.counts (tried (parts_of p) w) op r c.requires.3,
      run_loops stands p n (trials.next_of w.machine) (Trying w.machine) w.counts (tried (parts_of p) w) op r c.requires.3 tt,
      trying_op stands stands p n w op r c.requires.3,
    )

pub returns : goal.returns
returns g c = λ n w r named.
    let p : Private = g.W.Starting.start in
    let stands = g.T.Turns.StandsAt c.args.board.now c.args.seat.now in
    let after = g.T.Turns.StandsAt c.args.board.now c.make.new.seat in
    let op : Op = ops.LoadChild c.args.place in
    let made = c.make.ensures n r.now (run_stands stands p n (trials.next_of w.machine) (Trying w.machine) w.counts (tried (parts_of p) w) op r named) (run_loops stands p n (trials.next_of w.machine) (Trying w.machine) w.counts (tried (parts_of p) w) op r named tt) (trying_op stands after p n w op r named) in (
      trying_given stands after p n w op r named c.make.result made.0,
      trying_more stands after p n w op r named c.make.result made.0 made.1,
    )
