-- The dates of the start are told by its stamps, and the moves keep that.
use Rattle.std.proofs.Common.{true, ap, ◌∙◌}
use Rattle.rec_core.proofs.Common.{Core, after_moves, pending}
use Rattle.rec_audit.specs.ByStamps.{by_stamps}
use Rattle.rec_core.specs.Core.{heap_from_by, opened_from}
use Rattle.rec_core.specs.Objects.{first_object}
use Rattle.rec_core.proofs.BareOpened.{heap_from_bare}
use Rattle.rec_audit.proofs.ByStamps.{pending_again}
use Rattle.rec_core.proofs.Dated.{moves_explained}
use Rattle.rec_core.proofs.Opened.{first_labels, first_objects}
use Rattle.rec_core.proofs.OpenedFrom.{opened_from_kept}
use Rattle.rec_audit.proofs.StampDates.{moves_dated, opened_from_dated}
use Rattle.rec_audit.proofs.stamp_laws.stamps_are_dates.Goals as goal

pub returns-clause-opens_from : goal.returns-clause-opens_from
returns-clause-opens_from c = λ config o moves is are labels fit.
    let kept = opened_from_kept config o is are labels in
    let (there, e) = moves_explained (heap_from_by true config o) (opened_from config o) moves (record { bare = heap_from_bare config o is are labels; kept = kept }) fit in
    pending_again (after_moves (heap_from_by true config o) moves) (moves_dated (heap_from_by true config o) moves kept there (opened_from_dated config o is are labels)) ∙ ap (λ (u : Core). pending (by_stamps u)) e.bare

pub returns-clause-opens : goal.returns-clause-opens
returns-clause-opens c = λ config moves is fit. returns-clause-opens_from c config (first_object config) moves is (first_objects config is) (first_labels config) fit
