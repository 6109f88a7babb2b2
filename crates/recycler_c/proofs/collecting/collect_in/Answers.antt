-- The contract of `collect_in`: turns, where the handle has a collector.
use Rattle.std.proofs.Common.{Option, Some, ap, refl, subst, sym}
use Rattle.rec_table.specs.Turn.{MakesTurns}
use Rattle.recycler_c.specs.Standing.{Tellers, collects_in, tells_in}
use Rattle.recycler_c.specs.Telling.{HasMade, TellsMany}
use Rattle.recycler_c.specs.declared.end.End.{End}
use Rattle.recycler_c.proofs.collecting.collect_in.Goals as goal

pub returns-in-Collecting : goal.returns-in-Collecting
returns-in-Collecting c = record {
  before = c.in-Collecting.running;
  was = ap (λ (e : End). collects_in (Some e)) c.in-Collecting.is;
  after = _;
  is = refl;
  made =
      subst (λ (t : Option Tellers). HasMade (λ before after answer. MakesTurns before after c.args.turns answer) (TellsMany c.args.turns) c.in-Collecting.running t c.turns_of.result c.turns_of.new.running c.turns_of.new.teller)
      (sym (ap (λ (e : End). tells_in (Some e)) c.in-Collecting.is)) c.turns_of.ensures;
}
