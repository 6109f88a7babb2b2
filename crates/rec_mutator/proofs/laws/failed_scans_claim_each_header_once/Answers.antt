-- The contract of `failed_scans_claim_each_header_once`: a scan that fails has claimed the header of each slot once, whichever slot it began with.
use Rattle.rec_mutator.proofs.Rounds.{claimed_once}
use Rattle.rec_mutator.proofs.laws.failed_scans_claim_each_header_once.Goals as goal

pub returns : goal.returns
returns c = claimed_once
