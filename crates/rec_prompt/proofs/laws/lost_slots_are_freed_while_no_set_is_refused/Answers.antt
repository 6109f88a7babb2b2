-- What is lost is freed by the end of the first collection, from the third on, that refuses no set.
use Rattle.rec_prompt.proofs.Cycles.{cycles_idle, cycles_last, cycles_run, cycles_under_way}
use Rattle.rec_prompt.proofs.laws.lost_slots_are_freed_while_no_set_is_refused.Goals as goal

pub returns-clause-idle : goal.returns-clause-idle
returns-clause-idle c = cycles_run

pub returns-clause-under_way : goal.returns-clause-under_way
returns-clause-under_way c = cycles_under_way

pub returns-clause-last : goal.returns-clause-last
returns-clause-last c = cycles_last

pub returns-clause-covered : goal.returns-clause-covered
returns-clause-covered c = cycles_idle
