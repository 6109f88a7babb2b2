-- The contract of `Collector::turns_telling`: makes turns that tell until one comes to something else than that it moved or a label is held.
use Rattle.std.proofs.Common.{subst, arith, ◌≡◌, ℕ, refl}
use Rattle.rec_io.proofs.Faults.{rose_since}
use Rattle.rec_notice.specs.Telling.{told}
use Rattle.rec_table.specs.Turn.{MakesTurns, MovesTo}
use Rattle.rec_table.proofs.Freeing.{sent_first, tells_both, tells_none}
use Rattle.rec_table.proofs.TurnRuns.{some_ended, some_moved}
use Rattle.rec_table.specs.Telling.{IfHeld, IfTurned}
use Rattle.rec_table.specs.declared.telling.Telling.{Telling}
use Rattle.rec_table.specs.declared.telling.Telling.TheVariants.{Turned, Held}
use Rattle.rec_collector.specs.declared.turn.Turn.{Turn}
use Rattle.rec_table.proofs.collector.Collector.turns_telling.Goals as goal

pub loop-moves-init : goal.loop-moves-init
loop-moves-init g c = record {
  own = c.requires.own;
  moved = MovesTo.none;
  few = omega arith;
  grows = tells_none c.args.self.now (told g.T.Tube.sent c.args.teller.now);
  first = λ none. absurd (omega (arith, none));
  refused = λ none. absurd (omega (arith, none));
  never_falls = omega arith;
  same = g.met.T.Tube.same_at_first c.args.teller.now.tube;
}

-- what is said of a turn that was made, and of a label that is held
turned : (P : Turn → Type 0) (t : Telling) (turn : Turn) → t ≡ Turned turn → IfTurned t P → P turn
turned P t turn is holds = subst (λ (t : Telling). IfTurned t P) is holds

held : (P : ℕ → Type 0) (t : Telling) (label : ℕ) → t ≡ Held label → IfHeld t P → P label
held P t label is holds = subst (λ (t : Telling). IfHeld t P) is holds

pub loop-moves-preserved : goal.loop-moves-preserved
loop-moves-preserved g c =
    let run = c.run_telling-made in
    let some = turned _ run.result.1 c.in-Turned.turn c.in-Turned.is run.ensures.made in
    let s = some_moved c.args.self.now run.new.self run.result.0 c.args.most c.in-Turned.turn (some c.args.self.now c.loop-moves.invariant.moved) c.in-Moved.is in
    record {
      own = run.ensures.own;
      moved = s.0;
      few = s.1;
      grows = tells_both _ _ _ _ _ _ c.loop-moves.invariant.grows run.ensures.told;
      first = λ some. sent_first _ _ _ _ _ c.loop-moves.invariant.grows (turned _ run.result.1 c.in-Turned.turn c.in-Turned.is run.ensures.first);
      refused = λ some kept. rose_since _ _ _ c.loop-moves.invariant.never_falls (run.ensures.refused kept);
      never_falls = omega (arith, c.loop-moves.invariant.never_falls, run.ensures.never_falls);
      same = g.met.T.Tube.same_later _ _ _ c.loop-moves.invariant.same run.ensures.same;
    }

pub returns-in_default : goal.returns-in_default
returns-in_default g c =
    let run = c.run_telling-made in
    let some = turned _ run.result.1 c.in-Turned.turn c.in-Turned.is run.ensures.made in
    record {
      turns = some_ended c.args.self.now run.new.self run.result.0 c.args.most c.in-Turned.turn (some c.args.self.now c.loop-moves.invariant.moved) c.in_default.not-Moved;
      told = tells_both _ _ _ _ _ _ c.loop-moves.invariant.grows run.ensures.told;
      first = λ some. sent_first _ _ _ _ _ c.loop-moves.invariant.grows (turned _ run.result.1 c.in-Turned.turn c.in-Turned.is run.ensures.first);
      held = tt;
      fewer = tt;
      refused = λ some kept. rose_since _ _ _ c.loop-moves.invariant.never_falls (run.ensures.refused kept);
      never_falls = omega (arith, c.loop-moves.invariant.never_falls, run.ensures.never_falls);
      own = run.ensures.own;
      same = g.met.T.Tube.same_later _ _ _ c.loop-moves.invariant.same run.ensures.same;
    }

pub run_telling-made-requires : goal.run_telling-made-requires
run_telling-made-requires g c = record { own = c.loop-moves.invariant.own; fewer = c.loop-moves-test.true }

pub returns-in-Held-clause-told : goal.returns-in-Held-clause-told
returns-in-Held-clause-told g c = tells_both _ _ _ _ _ _ c.loop-moves.invariant.grows c.run_telling-made.ensures.told

pub returns-in-Held-clause-held : goal.returns-in-Held-clause-held
returns-in-Held-clause-held g c = held _ c.run_telling-made.result.1 c.in-Held.label c.in-Held.is c.run_telling-made.ensures.held

pub returns-in-Held-clause-fewer : goal.returns-in-Held-clause-fewer
returns-in-Held-clause-fewer g c =
    let run = c.run_telling-made in
    let moved = held _ run.result.1 c.in-Held.label c.in-Held.is run.ensures.moved in
    record { moves = run.result.0; fewer = held _ run.result.1 c.in-Held.label c.in-Held.is run.ensures.fewer; moved = moved c.args.self.now c.loop-moves.invariant.moved }

pub returns-in-Held-clause-refused : goal.returns-in-Held-clause-refused
returns-in-Held-clause-refused g c = λ some kept. rose_since _ _ _ c.loop-moves.invariant.never_falls (c.run_telling-made.ensures.refused kept)

pub returns-in-Held-clause-never_falls : goal.returns-in-Held-clause-never_falls
returns-in-Held-clause-never_falls g c = omega (arith, c.loop-moves.invariant.never_falls, c.run_telling-made.ensures.never_falls)

pub returns-in-Held-clause-own : goal.returns-in-Held-clause-own
returns-in-Held-clause-own g c = c.run_telling-made.ensures.own

pub returns-in-Held-clause-same : goal.returns-in-Held-clause-same
returns-in-Held-clause-same g c = g.met.T.Tube.same_later _ _ _ c.loop-moves.invariant.same c.run_telling-made.ensures.same

pub returns-clause-turns : goal.returns-clause-turns
returns-clause-turns g c =
    let all : c.loop-moves.moves ≡ c.args.most = omega (arith, c.loop-moves-test.false, c.loop-moves.invariant.few) in
    MakesTurns.moved refl (subst (λ (n : ℕ). MovesTo c.args.self.now n c.loop-moves.self) all c.loop-moves.invariant.moved)

pub returns-clause-told : goal.returns-clause-told
returns-clause-told g c = c.loop-moves.invariant.grows

pub returns-clause-first : goal.returns-clause-first
returns-clause-first g c = λ some. c.loop-moves.invariant.first (omega (arith, some, c.loop-moves-test.false))

pub returns-clause-refused : goal.returns-clause-refused
returns-clause-refused g c = λ some. c.loop-moves.invariant.refused (omega (arith, some, c.loop-moves-test.false))

pub returns-clause-never_falls : goal.returns-clause-never_falls
returns-clause-never_falls g c = c.loop-moves.invariant.never_falls

pub returns-clause-own : goal.returns-clause-own
returns-clause-own g c = c.loop-moves.invariant.own

pub returns-clause-same : goal.returns-clause-same
returns-clause-same g c = c.loop-moves.invariant.same
