-- The contract of `clear`: a field is cleared for the freeing of a set by a turn.
use Rattle.rec_word.specs.declared.op.Op.TheVariants as ops
use Rattle.rec_release.specs.CycleFree as frees
use Rattle.rec_collector.proofs.Common.{Op, Private, parts_of, Freeing, followed, relieved}
use Rattle.rec_collector.proofs.ByTurns.{run_loops, run_stands, freeing_given, freeing_more, freeing_op}
use Rattle.rec_collector.proofs.words.FreeingClears.clear.Goals as goal

pub make-requires : goal.make-requires
make-requires g c =
    let p : Private = g.W.Starting.start in
    let stands = g.T.Turns.StandsAt c.args.board.now c.args.seat.now in
    let n = c.requires.0 in
    let w = c.requires.1 in
    let r = c.requires.2 in
    let op : Op = ops.ClearField c.args.place in (
      n,
      r.now,
      run_stands stands p n (frees.next_of w.machine) (Freeing w.machine) w.counts (followed (relieved (parts_of p) w)) op r c.requires.3,
      run_loops stands p n (frees.next_of w.machine) (Freeing w.machine) w.counts (followed (relieved (parts_of p) w)) op r c.requires.3 tt,
      freeing_op stands stands p n w op r c.requires.3,
    )

pub returns : goal.returns
returns g c = λ n w r named.
    let p : Private = g.W.Starting.start in
    let stands = g.T.Turns.StandsAt c.args.board.now c.args.seat.now in
    let after = g.T.Turns.StandsAt c.args.board.now c.make.new.seat in
    let op : Op = ops.ClearField c.args.place in
    let made = c.make.ensures n r.now (run_stands stands p n (frees.next_of w.machine) (Freeing w.machine) w.counts (followed (relieved (parts_of p) w)) op r named) (run_loops stands p n (frees.next_of w.machine) (Freeing w.machine) w.counts (followed (relieved (parts_of p) w)) op r named tt) (freeing_op stands after p n w op r named) in (
      freeing_given stands after p n w op r named c.make.result made.0,
      freeing_more stands after p n w op r named c.make.result made.0 made.1,
    )
