-- The contract of `Collector::run_telling_as`: turns of one kind, each of which tells.
use Rattle.std.proofs.Common.{◌≡◌, ℕ, ◌++◌, List, refl, sym, subst, arith, rules, ◌∙◌}
use Rattle.rec_io.proofs.Faults.{rose_since}
use Rattle.rec_notice.specs.Telling.{told, as_list}
use Rattle.rec_table.specs.Telling.{TellsTurns}
use Rattle.rec_table.specs.Turn.{MakesSome, MovesTo}
use Rattle.rec_table.specs.Views.{CollectorView}
use Rattle.rec_table.proofs.Freeing.{sent_first, tells_more, tells_none}
use Rattle.rec_table.proofs.TurnRuns.{moves_one}
use Rattle.rec_table.proofs.collector.Collector.run_telling_as.Goals as goal

pub loop-moves-init : goal.loop-moves-init
loop-moves-init g c = record {
  own = c.requires.own;
  kind = c.requires.kind;
  moved = λ first m. m;
  grows = tells_none c.args.self.now (told g.T.Tube.sent c.args.teller.now);
  first = λ none. absurd (omega (arith, none));
  refused = λ none. absurd (omega (arith, none));
  never_falls = omega arith;
  same = g.met.T.Tube.same_at_first c.args.teller.now.tube;
}

pub loop-moves-preserved : goal.loop-moves-preserved
loop-moves-preserved g c = record {
  own = c.turn_telling_as.ensures.own;
  kind = search rules;
  moved = λ first m. moves_one first c.loop-moves.self c.turn_telling_as.new.self c.loop-moves.moves c.in-Turned.turn (c.loop-moves.invariant.moved first m) c.in-Turned.ensures.turn c.in-Moved.is;
  grows = tells_more _ _ _ _ _ _ c.loop-moves.invariant.grows c.in-Turned.ensures.told;
  first = λ some. sent_first _ _ _ _ _ c.loop-moves.invariant.grows c.in-Turned.ensures.first;
  refused = λ some kept. rose_since _ _ _ c.loop-moves.invariant.never_falls (c.turn_telling_as.ensures.refused kept);
  never_falls = omega (arith, c.loop-moves.invariant.never_falls, c.turn_telling_as.ensures.never_falls);
  same = g.met.T.Tube.same_later _ _ _ c.loop-moves.invariant.same c.turn_telling_as.ensures.same;
}

pub turn_telling_as-requires : goal.turn_telling_as-requires
turn_telling_as-requires g c = record { own = c.loop-moves.invariant.own; kind = c.loop-moves.invariant.kind }

pub returns-in_default : goal.returns-in_default
returns-in_default g c = record {
  made = λ first m. MakesSome.ended c.loop-moves.self (omega (arith, c.loop-moves-test.true)) (c.loop-moves.invariant.moved first m) c.in-Turned.ensures.turn c.in_default.not-Moved;
  further = λ is. absurd (c.in_default.not-Moved is);
  told = tells_more _ _ _ _ _ _ c.loop-moves.invariant.grows c.in-Turned.ensures.told;
  first = sent_first _ _ _ _ _ c.loop-moves.invariant.grows c.in-Turned.ensures.first;
  held = tt;
  fewer = tt;
  moved = tt;
  refused = λ kept. rose_since _ _ _ c.loop-moves.invariant.never_falls (c.turn_telling_as.ensures.refused kept);
  never_falls = omega (arith, c.loop-moves.invariant.never_falls, c.turn_telling_as.ensures.never_falls);
  own = c.turn_telling_as.ensures.own;
  same = g.met.T.Tube.same_later _ _ _ c.loop-moves.invariant.same c.turn_telling_as.ensures.same;
}

pub returns-in-Held : goal.returns-in-Held
returns-in-Held g c =
    let h = c.in-Held.ensures in
    let same : told g.T.Tube.sent c.turn_telling_as.new.teller ≡ told g.T.Tube.sent c.loop-moves.teller = λ i. h.unsent i ++ as_list ((h.kept ∙ sym h.held) i) in
    record {
      made = tt;
      further = tt;
      told = subst (λ (x : CollectorView × List ℕ). TellsTurns c.args.self.now x.0 (told g.T.Tube.sent c.args.teller.now) x.1) (λ i. (sym h.unturned i, sym same i)) c.loop-moves.invariant.grows;
      first = tt;
      held = h.kept;
      fewer = omega (arith, c.loop-moves-test.true);
      moved = λ first m. subst (MovesTo first c.loop-moves.moves) (sym h.unturned) (c.loop-moves.invariant.moved first m);
      refused = λ kept. rose_since _ _ _ c.loop-moves.invariant.never_falls (c.turn_telling_as.ensures.refused kept);
      never_falls = omega (arith, c.loop-moves.invariant.never_falls, c.turn_telling_as.ensures.never_falls);
      own = c.turn_telling_as.ensures.own;
      same = g.met.T.Tube.same_later _ _ _ c.loop-moves.invariant.same c.turn_telling_as.ensures.same;
    }

pub returns-then-not-is_of_kind : goal.returns-then-not-is_of_kind
returns-then-not-is_of_kind g c = record {
  made = λ first m. MakesSome.moved refl (omega (arith, c.loop-moves-test.true))
      (moves_one first c.loop-moves.self c.turn_telling_as.new.self c.loop-moves.moves c.in-Turned.turn (c.loop-moves.invariant.moved first m) c.in-Turned.ensures.turn c.in-Moved.is);
  further = λ is. omega (arith, c.loop-moves-test.true);
  told = tells_more _ _ _ _ _ _ c.loop-moves.invariant.grows c.in-Turned.ensures.told;
  first = sent_first _ _ _ _ _ c.loop-moves.invariant.grows c.in-Turned.ensures.first;
  held = tt;
  fewer = tt;
  moved = tt;
  refused = λ kept. rose_since _ _ _ c.loop-moves.invariant.never_falls (c.turn_telling_as.ensures.refused kept);
  never_falls = omega (arith, c.loop-moves.invariant.never_falls, c.turn_telling_as.ensures.never_falls);
  own = c.turn_telling_as.ensures.own;
  same = g.met.T.Tube.same_later _ _ _ c.loop-moves.invariant.same c.turn_telling_as.ensures.same;
}

pub returns : goal.returns
returns g c =
    let all : c.loop-moves.moves ≡ c.args.most = omega (arith, c.loop-moves-test.false, c.loop-moves.auto.moves-end, c.requires.fewer) in
    record {
      made = λ first m. MakesSome.moved refl (omega arith) (subst (λ n. MovesTo first n c.loop-moves.self) all (c.loop-moves.invariant.moved first m));
      further = λ is. c.requires.fewer;
      told = c.loop-moves.invariant.grows;
      first = c.loop-moves.invariant.first (omega (arith, all, c.requires.fewer));
      held = tt;
      fewer = tt;
      moved = tt;
      refused = c.loop-moves.invariant.refused (omega (arith, all, c.requires.fewer));
      never_falls = c.loop-moves.invariant.never_falls;
      own = c.loop-moves.invariant.own;
      same = c.loop-moves.invariant.same;
    }
