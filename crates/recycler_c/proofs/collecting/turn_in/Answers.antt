-- The contract of `turn_in`: a turn, where the handle has a collector.
use Rattle.std.proofs.Common.{Option, Some, ap, refl, subst, sym}
use Rattle.rec_table.specs.Turn.{MakesTurn}
use Rattle.recycler_c.specs.Standing.{Tellers, collects_in, tells_in}
use Rattle.recycler_c.specs.Telling.{HasMade, TellsOne}
use Rattle.recycler_c.specs.declared.end.End.{End}
use Rattle.recycler_c.proofs.collecting.turn_in.Goals as goal

pub returns-in-Collecting : goal.returns-in-Collecting
returns-in-Collecting c = record {
  before = c.in-Collecting.running;
  was = ap (λ (e : End). collects_in (Some e)) c.in-Collecting.is;
  after = _;
  is = refl;
  made =
      subst (λ (t : Option Tellers). HasMade MakesTurn TellsOne c.in-Collecting.running t c.turn_of.result c.turn_of.new.running c.turn_of.new.teller)
      (sym (ap (λ (e : End). tells_in (Some e)) c.in-Collecting.is)) c.turn_of.ensures;
}
