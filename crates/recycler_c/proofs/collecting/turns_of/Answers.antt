-- The contract of `turns_of`: turns, and where somebody tells, what they free is told.
use Rattle.std.proofs.Common.{refl}
use Rattle.recycler_c.specs.Telling.{HasMade}
use Rattle.recycler_c.proofs.collecting.turns_of.Goals as goal

pub returns-in-None : goal.returns-in-None
returns-in-None c = HasMade.silent c.in-None.is c.in-None.is c.turns.result c.turns.ensures.turns c.show_turn.ensures (record { heap = refl; home = refl; count = refl })

pub returns-in-Some : goal.returns-in-Some
returns-in-Some c = HasMade.heard c.in-Some.teller c.turns_telling.new.teller c.in-Some.is refl c.turns_telling.result
    (record {
      turns = c.turns_telling.ensures.turns;
      grows = c.turns_telling.ensures.told;
      first = c.turns_telling.ensures.first;
      held = c.turns_telling.ensures.held;
      fewer = c.turns_telling.ensures.fewer;
      refused = c.turns_telling.ensures.refused;
      ring = c.turns_telling.ensures.same;
    })
    c.show_telling.ensures
    (record { heap = refl; home = refl; count = refl })
