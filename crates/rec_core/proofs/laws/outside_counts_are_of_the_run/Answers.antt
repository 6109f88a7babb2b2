-- The outside count of a member is read off the run.
use Rattle.std.proofs.Common.{List, true}
use Rattle.rec_core.proofs.Common.{Core, AllFit, after_moves, IsKept, Move, turned}
use Rattle.rec_core.specs.Loads.{IsSameTrial}
use Rattle.rec_core.proofs.Dated.{Explains, end_explained, move_explained, moves_explained}
use Rattle.rec_core.proofs.Trials.{BeginsNoTrial, no_trial}
use Rattle.rec_core.proofs.Outside.{run_outside, run_passed, run_places}
use Rattle.rec_core.proofs.Runs.{move_kept}
use Rattle.rec_core.proofs.laws.outside_counts_are_of_the_run.Goals as goal

-- the moves from the preparation on
same_trial : (v : Core) (moves : List Move) → IsKept true v → AllFit (turned v) moves → IsSameTrial (turned v) (after_moves (turned v) moves) → BeginsNoTrial (turned v) moves
same_trial v moves kept fit same = no_trial (turned v) moves (move_kept v Move.Turns kept tt) fit same

-- they are made by the heap behind
made_behind : (v w : Core) (moves : List Move) → Explains v w → AllFit (turned w) moves → AllFit (turned v) moves × Explains (after_moves (turned v) moves) (after_moves (turned w) moves)
made_behind v w moves e fit = moves_explained (turned v) (turned w) moves (move_explained v w Move.Turns e tt).1 fit

pub returns : goal.returns
returns c = record {
  places = λ w config run. let (v, e) = end_explained w config run in (v, e.bare, λ moves begins fit. let all = made_behind v w moves e fit in (all.1.bare, λ same has. run_places v moves e.kept begins all.0 (same_trial v moves e.kept all.0 same) has));
  passed = λ w config run. let (v, e) = end_explained w config run in (v, e.bare, λ moves begins fit. let all = made_behind v w moves e fit in (all.1.bare, λ number x same has. run_passed v moves e.kept begins all.0 (same_trial v moves e.kept all.0 same) has number x));
  members = λ w config run. let (v, e) = end_explained w config run in (v, e.bare, λ moves begins fit. let all = made_behind v w moves e fit in (all.1.bare, λ number x same has. run_outside v moves e.kept begins all.0 (same_trial v moves e.kept all.0 same) has number x));
}
