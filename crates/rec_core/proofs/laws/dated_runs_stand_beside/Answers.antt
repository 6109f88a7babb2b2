-- The dated start is kept, and the same moves lead both heaps on.
use Rattle.std.proofs.Common.{true}
use Rattle.rec_core.specs.Core.{heap_from_by, opened_from}
use Rattle.rec_core.specs.Objects.{first_object}
use Rattle.rec_core.proofs.BareOpened.{heap_from_bare}
use Rattle.rec_core.proofs.Dated.{moves_explained}
use Rattle.rec_core.proofs.Opened.{first_labels, first_objects}
use Rattle.rec_core.proofs.OpenedFrom.{opened_from_kept}
use Rattle.rec_core.proofs.laws.dated_runs_stand_beside.Goals as goal

pub returns-clause-opens_from : goal.returns-clause-opens_from
returns-clause-opens_from c = λ config o moves is are labels fit.
    let (there, e) = moves_explained (heap_from_by true config o) (opened_from config o) moves (record { bare = heap_from_bare config o is are labels; kept = opened_from_kept config o is are labels }) fit in
    (there, (e.bare, e.kept))

pub returns-clause-opens : goal.returns-clause-opens
returns-clause-opens c = λ config moves is fit. returns-clause-opens_from c config (first_object config) moves is (first_objects config is) (first_labels config) fit
