-- Behind each run of a heap stands a run of a heap of dated words, by the same moves, which is kept.
use Rattle.std.proofs.Common.{◌≡◌, List, [], ◌∷◌, sym, ap, subst, ◌∙◌, true}
use Rattle.rec_mutator.specs.Bare as mutators
use Rattle.rec_mutator.specs.Private.{IsValid, Private, is_busy}
use Rattle.rec_mutator.specs.declared.work.Work.{Work}
use Rattle.rec_mutator.specs.declared.work.Work.TheVariants as works
use Rattle.rec_mutator.proofs.Bare.{busy_bare}
use Rattle.rec_core.specs.Bare.{bare_core}
use Rattle.rec_core.specs.Config.{IsConfig}
use Rattle.rec_core.specs.Core.{Core, mutator, heap_from_by}
use Rattle.rec_core.specs.Kept.{IsKept}
use Rattle.rec_core.specs.Moves.{Move, AllFit, EndsRun, Fits, IsRun, IsStart, after_move, after_moves}
use Rattle.rec_core.proofs.Bare.{move_bare, mutator_bare}
use Rattle.rec_core.proofs.BareOpened.{heap_from_bare}
use Rattle.rec_core.proofs.OpenedFrom.{opened_from_kept}
use Rattle.rec_core.proofs.Runs.{config_after, move_kept}

-- ---- a move that fits the one heap fits the other

valid_bare : (p : Private) (work : Work) → IsValid (mutators.bare_private p) work → IsValid p work
valid_bare p (works.Command cmd) is = is
valid_bare p works.Poll is = is

fits_bare : (v : Core) (m : Move) → Fits (bare_core v) m → Fits v m
fits_bare v (Move.Begins t work from) fits = (
  fits.0,
  sym (ap is_busy (mutator_bare v t) ∙ busy_bare (mutator v t)) ∙ fits.1,
  sym (ap (λ (p : Private). p.left) (mutator_bare v t)) ∙ fits.2,
  valid_bare (mutator v t) work (subst (λ p. IsValid p work) (mutator_bare v t) fits.3),
  fits.4,
  fits.5,
)
fits_bare v (Move.Steps t) fits = (fits.0, sym (ap is_busy (mutator_bare v t) ∙ busy_bare (mutator v t)) ∙ fits.1)
fits_bare v Move.Turns fits = fits
fits_bare v Move.Offers fits = fits

-- ---- a heap of dated words stands behind a heap

-- it is kept, and its bare words are those of the heap
pub record Explains (v w : Core) : Type 0 where
  pub bare : bare_core v ≡ w
  pub kept : IsKept true v

pub move_explained : (v w : Core) (m : Move) → Explains v w → Fits w m → Fits v m × Explains (after_move v m) (after_move w m)
move_explained v w m e fits =
    let there : Fits v m = fits_bare v m (subst (λ (u : Core). Fits u m) (sym e.bare) fits) in
    (there, record { bare = sym (move_bare v m e.kept there) ∙ ap (λ (u : Core). after_move u m) e.bare; kept = move_kept v m e.kept there })

pub moves_explained : (v w : Core) (ms : List Move) → Explains v w → AllFit w ms → AllFit v ms × Explains (after_moves v ms) (after_moves w ms)
moves_explained v w [] e fit = (tt, e)
moves_explained v w (m ∷ ms) e fit =
    let first = move_explained v w m e fit.0 in
    let rest = moves_explained (after_move v m) (after_move w m) ms first.1 fit.1 in
    ((first.0, rest.0), rest.1)

-- the dated start
start_explained : (start : Core) → IsConfig start.config → IsStart start → (v : Core) × Explains v start
start_explained start is (o, are, labels, opens) = (heap_from_by true start.config o, record { bare = heap_from_bare start.config o is are labels ∙ sym opens; kept = opened_from_kept start.config o is are labels })

-- and the dated end, to which the same moves lead
pub run_explained : (start : Core) (moves : List Move) (end : Core) → IsConfig start.config → IsRun start moves end → (v : Core) × Explains v end
run_explained start moves end is run =
    let (v, e) = start_explained start is run.starts in
    let all = moves_explained v start moves e run.fit in
    (after_moves v moves, subst (Explains (after_moves v moves)) run.ends all.1)

pub end_explained : (w : Core) → IsConfig w.config → EndsRun w → (v : Core) × Explains v w
end_explained w is (start, moves, run) = run_explained start moves w (subst IsConfig (ap (λ (v : Core). v.config) (sym run.ends) ∙ config_after start moves) is) run
