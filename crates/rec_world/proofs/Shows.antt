-- A watch is shown nothing of the moves of a work.
use Rattle.std.proofs.Common.{◌≡◌, ℕ, false, [], refl, sym, subst, ◌∙◌, Bool}
use Rattle.rec_mutator.specs.Private.{IsValid, is_busy}
use Rattle.rec_mutator.specs.declared.work.Work.{Work}
use Rattle.rec_core.specs.Config.{HasLabel, IsMutator}
use Rattle.rec_core.specs.Core.{Core, mutator}
use Rattle.rec_core.specs.Kept.{IsKept}
use Rattle.rec_core.specs.Moves.{Move, begun, stepped}
use Rattle.rec_core.specs.Shown.{Shows}
use Rattle.rec_core.specs.Worked.{IsWorked, StepsTo}
use Rattle.rec_core.specs.declared.config.Config.{Config}
use Rattle.rec_core.proofs.Runs.{move_stays}
use Rattle.rec_core.proofs.Shows.{shows_none, shows_one, shows_then}

-- the steps of a work
record AreSteps (w : Core) (v : Core) : Type 0 where
  shows : Shows w [] v
  config : v.config ≡ w.config

are_steps : (w : Core) (t : ℕ) → IsMutator w.config t → (v : Core) → StepsTo w t v → AreSteps w v
are_steps w t there _ (StepsTo.here v is) = subst (AreSteps w) (sym is) (record { shows = shows_none w; config = refl })
are_steps w t there _ (StepsTo.further u v path busy is) =
    let so : AreSteps w u = are_steps w t there u path in
    let step : Shows u [] (stepped u t) = shows_one u (Move.Steps t) (subst (λ (c : Config). IsMutator c t) (sym so.config) there, busy) in
    subst (AreSteps w) (sym is) (record { shows = shows_then w u (stepped u t) [] [] so.shows step; config = move_stays u (Move.Steps t) ∙ so.config })

-- a work that was made to its end
pub shows_worked : {dated : Bool} → (w v : Core) (t : ℕ) (work : Work) → IsKept dated w → IsMutator w.config t → is_busy (mutator w t) ≡ false → (mutator w t).left ≡ false → IsValid (mutator w t) work → HasLabel work → IsWorked w t work v → Shows w [] v
shows_worked w v t work kept there idle present valid label done =
    let begins : Shows w [] (begun w t work) = shows_one w (Move.Begins t work 0) (there, idle, present, valid, label, kept.config.some_slots) in
    let so : AreSteps (begun w t work) done.last = are_steps (begun w t work) t there done.last done.path in
    let last : Shows done.last [] (stepped done.last t) = shows_one done.last (Move.Steps t) (subst (λ (c : Config). IsMutator c t) (sym so.config) there, done.busy) in
    subst (Shows w []) (sym done.steps) (shows_then w (begun w t work) (stepped done.last t) [] [] begins (shows_then (begun w t work) done.last (stepped done.last t) [] [] so.shows last))
