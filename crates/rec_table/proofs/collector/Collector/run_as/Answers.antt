-- The contract of `Collector::run_as`: makes turns as long as they are of one kind.
use Rattle.std.proofs.Common.{◌≡◌, refl, subst, arith, rules}
use Rattle.rec_table.specs.Turn.{MakesSome, MovesTo}
use Rattle.rec_table.proofs.TurnRuns.{moves_one}
use Rattle.rec_table.proofs.collector.Collector.run_as.Goals as goal

pub loop-moves-init : goal.loop-moves-init
loop-moves-init c = record { own = c.requires.own; moved = λ first m. m; kind = c.requires.kind }

pub loop-moves-preserved : goal.loop-moves-preserved
loop-moves-preserved c = record {
  own = c.turn_of_kind-turn.ensures.own;
  moved = λ first m. moves_one first c.loop-moves.self c.turn_of_kind-turn.new.self c.loop-moves.moves c.turn_of_kind-turn.result (c.loop-moves.invariant.moved first m) c.turn_of_kind-turn.ensures.turn c.in-Moved.is;
  kind = search rules;
}

pub returns-in_default : goal.returns-in_default
returns-in_default c = record {
  made = λ first m. MakesSome.ended c.loop-moves.self (omega (arith, c.loop-moves-test.true)) (c.loop-moves.invariant.moved first m) c.turn_of_kind-turn.ensures.turn c.in_default.not-Moved;
  further = λ is. absurd (c.in_default.not-Moved is);
  own = c.turn_of_kind-turn.ensures.own;
}

pub returns-then-not-is_of_kind-clause-made : goal.returns-then-not-is_of_kind-clause-made
returns-then-not-is_of_kind-clause-made c = λ first m. MakesSome.moved refl (omega (arith, c.loop-moves-test.true))
    (moves_one first c.loop-moves.self c.turn_of_kind-turn.new.self c.loop-moves.moves c.turn_of_kind-turn.result (c.loop-moves.invariant.moved first m) c.turn_of_kind-turn.ensures.turn c.in-Moved.is)

pub returns : goal.returns
returns c =
    let all : c.loop-moves.moves ≡ c.args.most = omega (arith, c.loop-moves-test.false, c.loop-moves.auto.moves-end, c.requires.fewer) in
    record {
      made = λ first m. MakesSome.moved refl (omega arith) (subst (λ n. MovesTo first n c.loop-moves.self) all (c.loop-moves.invariant.moved first m));
      further = λ is. c.requires.fewer;
      own = c.loop-moves.invariant.own;
    }
