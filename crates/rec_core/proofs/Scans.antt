-- An allocation that is answered Full or Busy has claimed each header, and found each taken.
use Rattle.std.proofs.Common.{◌≡◌, inl, inr, ℕ, true, false, Option, Some, List, [], ◌∷◌, ◌++◌, fold, refl, arith, sym, ◌∙◌, ap, subst, Bool}
use Rattle.std.proofs.lemmas.Bool.{cases_eq}
use Rattle.rec_core.proofs.Common.{Op, next_of, answer_of, is_busy, work_at, work_of, IsStill, took_of, here_same, TakesNone, IsMutator, box, mutator, Core, IsKept, after_move, after_moves, found_by, stepped, AllFit, Fits, Move, header_word}
use Rattle.rec_model.specs.Asking.{allocation}
use Rattle.rec_model.specs.declared.command.Cmd.TheVariants as commands
use Rattle.rec_model.specs.declared.told.Told.{Told}
use Rattle.rec_mutator.specs.Causes.{FoundNone, HasCause}
use Rattle.rec_mutator.specs.Scans.{ops_along, FailsScan}
use Rattle.rec_mutator.specs.declared.made.Made.TheVariants as makes
use Rattle.rec_mutator.specs.Private.{command_of}
use Rattle.rec_mutator.specs.declared.passage.Passage.{Passage}
use Rattle.rec_mutator.specs.declared.passage.Passage.TheVariants.{Parks, Holds, Deposits, Unparks, Reopens, Frees}
use Rattle.rec_mutator.specs.declared.phase.Phase.{Phase}
use Rattle.rec_mutator.specs.declared.phase.Phase.TheVariants.{Begun, Crossing, Swapping, Leaving, Retiring, Passing}
use Rattle.rec_mutator.specs.declared.work.Work.{Work}
use Rattle.rec_mutator.specs.declared.work.Work.TheVariants as works
use Rattle.rec_core.specs.Run.{maker}
use Rattle.rec_core.specs.Scans.{op_of, ops_over, word_of, words_over, BeginsNone, BeginsNot, FailsByProbes}
use Rattle.rec_core.proofs.BareRuns.{move_kept}
use Rattle.rec_core.proofs.Runs.{move_stays, mutator_stays, other_gives, own_gives}
use Rattle.rec_core.proofs.Showing.{step_caused, stepped_mutator}
use Rattle.rec_core.proofs.Steps.{actor_of}
use Rattle.rec_core.proofs.Unfinished.{work_stays}

-- an allocation is no leaving
no_leave : (reg label : ℕ) (leaf : Bool) → ◌≡◌ {A = Option Work} (Some (works.Command commands.Leave)) (Some (works.Command (allocation leaf reg label))) → ⊥
no_leave reg label true e = cc
no_leave reg label false e = cc

-- nor does it park or unpark
no_passage : (passage : Passage) (reg label : ℕ) (leaf : Bool) → ◌≡◌ {A = Option Work} (Some (works.Command (command_of passage))) (Some (works.Command (allocation leaf reg label))) → ⊥
no_passage Parks reg label true e = cc
no_passage Parks reg label false e = cc
no_passage Holds reg label true e = cc
no_passage Holds reg label false e = cc
no_passage Deposits reg label true e = cc
no_passage Deposits reg label false e = cc
no_passage Unparks reg label true e = cc
no_passage Unparks reg label false e = cc
no_passage Reopens reg label true e = cc
no_passage Reopens reg label false e = cc
no_passage Frees reg label true e = cc
no_passage Frees reg label false e = cc

-- a command in work takes no mailbox
command_none : (reg label : ℕ) (leaf : Bool) (phase : Phase) → work_at phase ≡ Some (works.Command (allocation leaf reg label)) → TakesNone phase
command_none reg label leaf Crossing e = cc
command_none reg label leaf Swapping e = cc
command_none reg label leaf Leaving e = absurd (no_leave reg label leaf e)
command_none reg label leaf Retiring e = absurd (no_leave reg label leaf e)
command_none reg label leaf (Passing passage) e = absurd (no_passage passage reg label leaf e)
command_none reg label leaf _ e = tt

-- what a mutator that works on an allocation has become over some moves: its steps alone have changed it
record HasCome (w v : Core) (t reg label : ℕ) (leaf : Bool) (made : List Op) (words : List ℕ) : Type 0 where
  pub dated : Bool
  pub kept : IsKept dated v
  pub config : v.config ≡ w.config
  pub came : mutator v t ≡ fold took_of (mutator w t) words
  pub along : made ≡ ops_along (mutator w t) words
  pub work : work_of (mutator v t) ≡ Some (works.Command (allocation leaf reg label))

-- it has not changed yet
same_come : (w v z : Core) (t reg label : ℕ) (leaf : Bool) (made : List Op) (words : List ℕ) → mutator v t ≡ mutator w t → v.config ≡ w.config → HasCome v z t reg label leaf made words → HasCome w z t reg label leaf made words
same_come w v z t reg label leaf made words e c h =
    record { dated = h.dated; kept = h.kept; config = h.config ∙ c; came = h.came ∙ ap (λ p. fold took_of p words) e; along = h.along ∙ ap (λ p. ops_along p words) e; work = h.work }

-- by equal operations and words
come_by : (w v : Core) (t reg label : ℕ) (leaf : Bool) {made its : List Op} {words found : List ℕ} → made ≡ its → words ≡ found → HasCome w v t reg label leaf made words → HasCome w v t reg label leaf its found
come_by w v t reg label leaf {made = made} {its = its} {words = words} ops are h = subst (HasCome w v t reg label leaf its) are (subst (λ xs. HasCome w v t reg label leaf xs words) ops h)

come : {dated : Bool} → (ms : List Move) (w : Core) (t reg label : ℕ) (leaf : Bool) → IsKept dated w → IsMutator w.config t → work_of (mutator w t) ≡ Some (works.Command (allocation leaf reg label)) → AllFit w ms → BeginsNone t ms
    → HasCome w (after_moves w ms) t reg label leaf (ops_over w t ms) (words_over w t ms)
come [] w t reg label leaf kept is work fit none = record { dated = _; kept = kept; config = refl; came = refl; along = refl; work = work }
come (m ∷ ms) w t reg label leaf kept is work fit none =
    let v : Core = after_move w m in
    let rest : work_of (mutator v t) ≡ Some (works.Command (allocation leaf reg label)) → HasCome v (after_moves v ms) t reg label leaf (ops_over v t ms) (words_over v t ms)
    = λ its. come ms v t reg label leaf (move_kept w m kept fit.0) (subst (λ c. IsMutator c t) (sym (move_stays w m)) is) its fit.1 none.1 in
    elim (cases_eq (maker m) t) [
      | inl e ↦
          come_by w (after_moves v ms) t reg label leaf (sym (ap (λ xs. xs ++ ops_over v t ms) (own_gives t op_of w m e))) (sym (ap (λ xs. xs ++ words_over v t ms) (own_gives t word_of w m e)))
          (own m fit.0 none.0 e rest)
      | inr e ↦
          let same : mutator v t ≡ mutator w t = mutator_stays w m t fit.0 is e in
          come_by w (after_moves v ms) t reg label leaf (sym (ap (λ xs. xs ++ ops_over v t ms) (other_gives t op_of w m e))) (sym (ap (λ xs. xs ++ words_over v t ms) (other_gives t word_of w m e)))
          (same_come w v (after_moves v ms) t reg label leaf (ops_over v t ms) (words_over v t ms) same (move_stays w m) (rest (ap work_of same ∙ work)))
    ]
  where
    Rest : Core → Type 0
    Rest v = work_of (mutator v t) ≡ Some (works.Command (allocation leaf reg label)) → HasCome v (after_moves v ms) t reg label leaf (ops_over v t ms) (words_over v t ms)

    own : (m : Move) → Fits w m → BeginsNot t m → maker m ≡ t → Rest (after_move w m) → HasCome w (after_moves (after_move w m) ms) t reg label leaf (op_of w m ++ ops_over (after_move w m) t ms) (word_of w m ++ words_over (after_move w m) t ms)
    own (Move.Begins s its from) fits not e rest = absurd (not e)
    own (Move.Steps s) fits not e rest =
        let v : Core = stepped w s in
        let busy : is_busy (mutator w t) ≡ true = subst (λ u. is_busy (mutator w u) ≡ true) e fits.1 in
        let takes : TakesNone (mutator w t).phase = command_none reg label leaf (mutator w t).phase work in
        let mine : found_by w s ≡ found_by w t = ap (found_by w) e in
        let here : mutator v t ≡ took_of (mutator w t) (found_by w t) =
        subst (λ u. mutator (stepped w u) t ≡ took_of (mutator w t) (found_by w t)) (sym e) (stepped_mutator w t kept is ∙ here_same (mutator w t) (found_by w t) (box w t) busy takes) in
        let stays : work_of (mutator v t) ≡ work_of (mutator w t) = subst (λ u. work_of (mutator (stepped w u) t) ≡ work_of (mutator w t)) (sym e) (work_stays w t kept is busy) in
        let so : HasCome v (after_moves v ms) t reg label leaf (ops_over v t ms) (words_over v t ms) = rest (stays ∙ work) in
        come_by w (after_moves v ms) t reg label leaf (ap (λ u. next_of (mutator w u) ∷ ops_over v t ms) (sym e)) (ap (λ u. u ∷ words_over v t ms) (sym mine))
        (record {
          dated = so.dated;
          kept = so.kept;
          config = so.config;
          came = so.came ∙ ap (λ p. fold took_of p (words_over v t ms)) here;
          along = ap (λ xs. next_of (mutator w t) ∷ xs) (so.along ∙ ap (λ p. ops_along p (words_over v t ms)) here);
          work = so.work;
        })
    own Move.Turns fits not e rest = absurd (omega (arith, e, is.0))
    own Move.Offers fits not e rest = absurd (omega (arith, e, is.0))

pub fails_by_probes : {dated : Bool} → (w : Core) (moves : List Move) (t reg label : ℕ) (leaf : Bool) (told : Told) → IsKept dated w → IsMutator w.config t → (mutator w t).phase ≡ Begun (works.Command (allocation leaf reg label)) → AllFit w moves → BeginsNone t moves
    → is_busy (mutator (after_moves w moves) t) ≡ true → answer_of (mutator (stepped (after_moves w moves) t) t) ≡ Some (makes.Answered told) → FailsByProbes w t (header_word leaf label) moves (after_moves w moves) told.answer
fails_by_probes w moves t reg label leaf told kept is begin fit none busy answer =
    let v : Core = after_moves w moves in
    let h : HasCome w v t reg label leaf (ops_over w t moves) (words_over w t moves) = come moves w t reg label leaf kept is (ap work_at begin) fit none in
    let there : IsMutator v.config t = subst (λ c. IsMutator c t) (sym h.config) is in
    let cause : HasCause (mutator v t) (mutator (stepped v t) t) (allocation leaf reg label) (found_by v t) told.answer = step_caused v t (allocation leaf reg label) told h.kept there busy h.work answer in
    let slots : (mutator v t).slots ≡ w.config.slots = (actor_of v t h.kept there).own.slots ∙ ap (λ c. c.slots) h.config in
    let words : List ℕ = words_over w t moves in
    let probed : (before : ℕ) → FoundNone (mutator v t) before → FailsScan (header_word leaf label) w.config.slots (mutator w t).from before (ops_over w t moves) words = λ before found.
    subst (λ xs. FailsScan (header_word leaf label) w.config.slots (mutator w t).from before xs words) (sym h.along)
    (subst (λ n. FailsScan (header_word leaf label) n (mutator w t).from before (ops_along (mutator w t) words) words) slots (found.every (mutator w t) words (record { reg = reg; label = label; leaf = leaf; begun = begin; came = h.came }))) in
    record {
      full = λ e. let f = cause.full.0 e in (f.0, probed f.0 f.1, f.2);
      busy = λ before after e. let f = (cause.busy before after).0 e in (probed before f.0, f.1, λ still. f.2 (subst (λ n. IsStill before n) f.1 still));
    }
