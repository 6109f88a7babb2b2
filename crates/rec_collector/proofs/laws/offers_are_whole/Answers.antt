-- The contract of `offers_are_whole`: where every slot is to be offered to a trial, each that is neither released nor Green is a candidate root of that trial, and Purple, while no true count and no other list changes.
use Rattle.rec_collector.proofs.Offering.{offers_whole}
use Rattle.rec_collector.proofs.laws.offers_are_whole.Goals as goal

pub returns : goal.returns
returns c = offers_whole
