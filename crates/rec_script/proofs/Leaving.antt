-- A mutator leaves with its last command.
use Rattle.std.proofs.Common.{◌≡◌, ℕ, zero, suc, ◌-◌, ◌<◌, List, [], ◌∷◌, ◌++◌, length, Some, inl, inr, refl, sym, ◌∙◌, subst, arith, length-append}
use Rattle.std.specs.Prelude.{All, slice_get}
use Rattle.std.proofs.lemmas.Bool.{cases_lt}
use Rattle.std.proofs.lemmas.Option.{none-some, slice_get_within, get_or_from_slice_get}
use Rattle.rec_model.specs.declared.command.Cmd.{Cmd}
use Rattle.rec_model.specs.declared.command.Cmd.TheVariants.{Leave}
use Rattle.rec_script.specs.Script.{Allows, HasLeft, LeavesLast}

at_front : (xs ys : List Cmd) (k : ℕ) → k < length xs → slice_get (xs ++ ys) k ≡ slice_get xs k
at_front [] ys k lt = absurd (omega arith)
at_front (x ∷ xs) ys zero lt = refl
at_front (x ∷ xs) ys (suc k) lt = at_front xs ys k (omega arith)

pub nobody : LeavesLast []
nobody = λ k e. absurd (none-some Leave e)

-- commands of a version in which nobody leaves
pub all_stay : (version : ℕ) (cmds : List Cmd) → version < 3 → All (Allows version) cmds → LeavesLast cmds
all_stay version cmds early allowed = λ k e. absurd (omega (arith, subst (Allows version) (get_or_from_slice_get cmds k Leave Leave e) (allowed k Leave (slice_get_within cmds k Leave e))))

-- one command more of a mutator that hasn't left
pub stays_before : (cmds : List Cmd) (cmd : Cmd) → LeavesLast cmds → ¬ HasLeft cmds → LeavesLast (cmds ++ cmd ∷ [])
stays_before cmds cmd last stays = λ k e. elim (cases_lt k (length cmds)) [
  | inl lt ↦
      let here : slice_get cmds k ≡ Some Leave = sym (at_front cmds (cmd ∷ []) k lt) ∙ e in
      let at : k ≡ length cmds - 1 = omega (arith, last k here) in
      absurd (stays (subst (λ (n : ℕ). slice_get cmds n ≡ Some Leave) at here))
  | inr ge ↦ omega (arith, slice_get_within (cmds ++ cmd ∷ []) k Leave e, length-append cmds (cmd ∷ []))
]

-- no command stands behind those of a mutator that has left
pub none_behind : (cmds more : List Cmd) → LeavesLast (cmds ++ more) → HasLeft cmds → length more ≡ 0
none_behind cmds more last gone =
    let within : length cmds - 1 < length cmds = slice_get_within cmds (length cmds - 1) Leave gone in
    omega (arith, within, last (length cmds - 1) (at_front cmds more (length cmds - 1) within ∙ gone), length-append cmds more)
