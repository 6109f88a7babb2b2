-- The contract of `collect`: makes turns, each behind the gate, until every mutator's last command is answered, or its turns are spent.
use Rattle.std.proofs.Common.{◌+◌, arith, ◌≡◌, ℕ, inl, inr, refl, subst}
use Rattle.rec_threads.proofs.Requests.{no_turn, one_turn}
use Rattle.rec_model.specs.declared.limits.TheConstants.{MOST_TURNS}
use Rattle.rec_threads.specs.Done.{HasTurned}
use Rattle.rec_threads.proofs.collecting.collect.Goals as goal

pub loop-turns-init : goal.loop-turns-init
loop-turns-init g c = record { own = c.requires.own; turned = no_turn c.args.collector }

pub turn-turn-requires : goal.turn-turn-requires
turn-turn-requires g c = record { own = c.loop-turns.invariant.own }

pub loop-turns-preserved : goal.loop-turns-preserved
loop-turns-preserved g c = record {
  own = c.turn-turn.ensures.own;
  turned = one_turn c.loop-turns.turns c.args.collector c.loop-turns.collector c.turn-turn.new.self c.turn-turn.result c.loop-turns.invariant.turned c.turn-turn.ensures.turn;
}

pub returns-in-Some-clause-turned : goal.returns-in-Some-clause-turned
returns-in-Some-clause-turned g c =
    one_turn c.loop-turns.turns c.args.collector c.loop-turns.collector c.turn-turn.new.self c.turn-turn.result c.loop-turns.invariant.turned c.turn-turn.ensures.turn

pub returns-in-Some-clause-collected : goal.returns-in-Some-clause-collected
returns-in-Some-clause-collected g c = record {
  turns = c.loop-turns.turns + 1;
  some = omega arith;
  few = omega arith;
  turned = one_turn c.loop-turns.turns c.args.collector c.loop-turns.collector c.turn-turn.new.self c.turn-turn.result c.loop-turns.invariant.turned c.turn-turn.ensures.turn;
}

pub returns-clause-collected : goal.returns-clause-collected
returns-clause-collected g c = record { turns = c.loop-turns.turns; some = omega arith; few = omega arith; turned = c.loop-turns.invariant.turned }

pub returns-in-Some-clause-own : goal.returns-in-Some-clause-own
returns-in-Some-clause-own g c = c.turn-turn.ensures.own

pub returns-in-Some-clause-ended : goal.returns-in-Some-clause-ended
returns-in-Some-clause-ended g c = inl refl

pub returns-clause-own : goal.returns-clause-own
returns-clause-own g c = c.loop-turns.invariant.own

pub returns-clause-turned : goal.returns-clause-turned
returns-clause-turned g c =
    let all : c.loop-turns.turns ≡ MOST_TURNS = omega (arith, c.loop-turns-test.false, c.loop-turns.auto.turns-end) in
    subst (λ (n : ℕ). HasTurned n c.args.collector c.loop-turns.collector) all c.loop-turns.invariant.turned

pub returns-clause-ended : goal.returns-clause-ended
returns-clause-ended g c = inr refl
