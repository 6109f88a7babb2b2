-- The contract of `turn_of`: one turn, and where somebody tells, what it frees is told.
use Rattle.std.proofs.Common.{refl}
use Rattle.recycler_c.specs.Telling.{HasMade}
use Rattle.recycler_c.proofs.collecting.turn_of.Goals as goal

pub returns-in-None : goal.returns-in-None
returns-in-None c = HasMade.silent c.in-None.is c.in-None.is c.turn.result c.turn.ensures.turn c.show_turn.ensures (record { heap = refl; home = refl; count = refl })

pub returns-in-Some : goal.returns-in-Some
returns-in-Some c = HasMade.heard c.in-Some.teller c.turn_telling.new.teller c.in-Some.is refl c.turn_telling.result
    (record {
      turn = c.turn_telling.ensures.turn;
      grows = c.turn_telling.ensures.told;
      first = c.turn_telling.ensures.first;
      held = c.turn_telling.ensures.held;
      kept = c.turn_telling.ensures.kept;
      unsent = c.turn_telling.ensures.unsent;
      unturned = c.turn_telling.ensures.unturned;
      refused = c.turn_telling.ensures.refused;
      ring = c.turn_telling.ensures.same;
    })
    c.show_telling.ensures
    (record { heap = refl; home = refl; count = refl })
