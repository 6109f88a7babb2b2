-- What is lost stays lost until it is freed.
use Rattle.rec_prompt.proofs.Stays.{stays_counted, stays_led, stays_lost}
use Rattle.rec_prompt.proofs.laws.lost_slots_stay_lost.Goals as goal

pub returns-clause-lost : goal.returns-clause-lost
returns-clause-lost c = λ w moves slot config run fit. stays_lost w moves config run fit slot

pub returns-clause-led : goal.returns-clause-led
returns-clause-led c = λ w moves slot from config run fit. stays_led w moves config run fit slot from

pub returns-clause-counted : goal.returns-clause-counted
returns-clause-counted c = λ w moves slot config run fit idle past. stays_counted w moves config run fit idle past slot
