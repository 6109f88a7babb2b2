-- What the collector loads from fields stays what it is until the sets that the trial found are tested.
use Rattle.rec_audit.proofs.Loads.{all_known}
use Rattle.rec_core.proofs.Trials.{no_trial}
use Rattle.rec_core.proofs.Dated.{end_explained, moves_explained}
use Rattle.rec_audit.proofs.stamp_laws.loaded_words_stay_references.Goals as goal

pub returns : goal.returns
returns c = λ w config run. let (v, e) = end_explained w config run in (v, e.bare, λ moves fit. let all = moves_explained v w moves e fit in (all.1.bare, λ l same. all_known v moves l e.kept all.0 (no_trial v moves e.kept all.0 same)))
