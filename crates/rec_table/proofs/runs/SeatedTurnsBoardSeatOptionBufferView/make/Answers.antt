-- The contract of `Seated`'s `make`: a turn of a run.
use Rattle.std.proofs.Common.{refl, sym, ap, subst, ◌∙◌, arith}
use Rattle.rec_collector.specs.Given.{IsGiven, IsLooped}
use Rattle.rec_collector.specs.Next.{next_of}
use Rattle.rec_collector.specs.Private.{Private}
use Rattle.rec_collector.specs.Step.{IsBetween}
use Rattle.rec_table.proofs.Common.{Core, NotLooking, boxes_out, collecting_of, Collects}
use Rattle.rec_table.proofs.Gathering.{turn_there}
use Rattle.rec_table.proofs.TurnRuns.{loops_look, stands_on}
use Rattle.rec_table.proofs.runs.SeatedTurnsBoardSeatOptionBufferView.make.Goals as goal

pub make_turn-requires : goal.make_turn-requires
make_turn-requires g c =
    let board = c.args.board.now in
    let key : Core = board.table.shared.key.value in
    let seat = c.args.seat.now in
    let p : Private = c.requires.1 in
    let s = c.requires.2 in
    let looped : IsLooped p.phase = c.requires.3 in
    let op = c.requires.4 in
    let wide = board.wide in
    record {
      table = s.table;
      seat = s.me ∙ (λ k. (Collects (collecting_of seat.me.0), boxes_out (s.is k)));
      actor = refl;
      between = subst (λ (q : Private). IsBetween q.phase) s.is s.between;
      looks = subst (λ (q : Private). NotLooking q.phase) s.is (loops_look p.phase looped);
      op = ap next_of (sym s.is) ∙ op;
      there = turn_there key c.args.op key.collector p board.table.shared.table_id.words s.world refl s.sizes s.kept op (omega (arith, wide.0, wide.1, wide.2));
    }

pub returns : goal.returns
returns g c = λ n p s looped named.
    let board = c.args.board.now in
    let key : Core = board.table.shared.key.value in
    let seat = c.args.seat.now in
    let given : IsGiven p c.make_turn.result = subst (λ (q : Private). IsGiven q c.make_turn.result) (sym s.is) c.make_turn.ensures.given in (
      given,
      stands_on board.table.shared.table_id key g.W.Starting.start seat.table_id seat.me n p c.args.op s looped named c.make_turn.new.seat.table_id c.make_turn.new.seat.me c.make_turn.result c.make_turn.ensures.seat.0 c.make_turn.ensures.view given,
    )
