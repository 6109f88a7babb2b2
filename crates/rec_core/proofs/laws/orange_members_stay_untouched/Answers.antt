-- A member of a prepared set that is Orange still was touched by nothing since.
use Rattle.rec_core.proofs.Trials.{no_trial}
use Rattle.rec_core.proofs.Outside.{all_untouched}
use Rattle.rec_core.proofs.Dated.{end_explained, moves_explained}
use Rattle.rec_core.proofs.laws.orange_members_stay_untouched.Goals as goal

pub returns : goal.returns
returns c = λ w config run. let (v, e) = end_explained w config run in (v, e.bare, λ moves fit. let all = moves_explained v w moves e fit in (all.1.bare, λ number x has same. all_untouched v moves number x e.kept has all.0 (no_trial v moves e.kept all.0 same)))
