-- What is lost and behind no cycle is freed by the end of the second collection, or of the third.
use Rattle.rec_prompt.proofs.Prompt.{freed_idle, freed_under_way}
use Rattle.rec_prompt.proofs.laws.lost_slots_behind_no_cycle_are_freed.Goals as goal

pub returns-clause-idle : goal.returns-clause-idle
returns-clause-idle c = freed_idle

pub returns-clause-under_way : goal.returns-clause-under_way
returns-clause-under_way c = freed_under_way
