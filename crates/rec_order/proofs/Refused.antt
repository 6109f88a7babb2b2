-- Which step of a run told an answer that isn't done, and why that step refused the command where it did.
use Rattle.std.proofs.Common.{◌≡◌, ◌↔◌, inl, inr, ◌⊎◌, ℕ, zero, suc, ◌+◌, ◌≤◌, List, [], ◌∷◌, ◌++◌, Option, Some, length, refl, sym, ap, subst, ◌∙◌, arith, true, false}
use Rattle.std.specs.List.{slice_get}
use Rattle.std.proofs.lemmas.Bool.{false≢true}
use Rattle.std.proofs.lemmas.List.{append-nil, length-append}
use Rattle.std.proofs.lemmas.Option.{slice_get_within}
use Rattle.rec_word.specs.declared.op.Op.{Op}
use Rattle.rec_word.specs.declared.op.Op.TheVariants as ops
use Rattle.rec_model.specs.Asking.{is_done, plain}
use Rattle.rec_model.specs.LegalOrder.{Line, Event}
use Rattle.rec_model.specs.declared.answer.Answer.TheVariants as answers
use Rattle.rec_model.specs.declared.command.Cmd.{Cmd}
use Rattle.rec_model.specs.declared.command.Cmd.TheVariants as commands
use Rattle.rec_model.specs.declared.told.Told.{Told}
use Rattle.rec_model.proofs.Growing.{get_cases}
use Rattle.rec_mutator.specs.Causes.{FoundNoneAt, IsAwaited}
use Rattle.rec_mutator.specs.Private.{answer_of, is_busy, work_of}
use Rattle.rec_mutator.specs.declared.made.Made.{Made}
use Rattle.rec_mutator.specs.declared.made.Made.TheVariants as makes
use Rattle.rec_mutator.specs.declared.phase.Phase.{Phase}
use Rattle.rec_mutator.specs.declared.phase.Phase.TheVariants as at
use Rattle.rec_mutator.specs.declared.work.Work.{Work}
use Rattle.rec_mutator.specs.declared.work.Work.TheVariants as works
use Rattle.rec_collector.specs.Next.{next_of}
use Rattle.rec_core.specs.Config.{IsMutator}
use Rattle.rec_core.specs.Core.{Core, mutator}
use Rattle.rec_core.specs.Kept.{IsKept}
use Rattle.rec_core.specs.Moves.{AllFit, Move, after_move, after_moves, found_by, stepped}
use Rattle.rec_core.specs.RunAnswers.{answered_by, told_by}
use Rattle.rec_core.specs.StepAnswers.{IsFilled, IsShown, IsShownAt}
use Rattle.rec_core.proofs.BareRuns.{move_kept}
use Rattle.rec_core.proofs.Showing.{step_caused, step_shown}
use Rattle.rec_order.specs.Events.{events_in, events_of, swept_by}
use Rattle.rec_order.specs.Naming.{Naming, named_after}
use Rattle.rec_order.specs.Refused.{IsAwaitedStep, IsFilledStep, IsToldBy}

-- what a turn of the collector tells is no answer
pub swept_silent : (n : Naming) (op : Option Op) (t : ℕ) (line : Line) (events : List Event) (i : ℕ) → slice_get (events ++ swept_by n op) i ≡ Some (Event.Answers t line) → slice_get events i ≡ Some (Event.Answers t line)
swept_silent n (Some ops.AddFreed) t line events i there = elim (get_cases events Event.Marks i (Event.Answers t line) there) [
  | inl before ↦ before
  | inr last ↦ let no : Event.Marks ≡ Event.Answers t line = last.1 in cc
]
swept_silent n (Some (ops.FreeHeader slot)) t line events i there = elim (get_cases events (Event.Frees (n.number slot)) i (Event.Answers t line) there) [
  | inl before ↦ before
  | inr last ↦ let no : Event.Frees (n.number slot) ≡ Event.Answers t line = last.1 in cc
]
swept_silent n _ t line events i there = subst (λ es. slice_get es i ≡ Some (Event.Answers t line)) (append-nil events) there

-- the mutator that an event answers, with the line
abbrev pub answered_in : ℕ × Line → Event → ℕ × Line
answered_in none (Event.Answers t line) = (t, line)
answered_in none _ = none

-- an event in a list that begins with one event at most is that one, or a later one
later_or_first : (es later : List Event) (i : ℕ) (e : Event) → length es ≤ 1 → slice_get (es ++ later) i ≡ Some e → ((j : ℕ) × (i ≡ length es + j) × (slice_get later j ≡ Some e)) ⊎ ((i ≡ 0) × (es ≡ e ∷ []))
later_or_first [] later i e few there = inl (i, omega arith, there)
later_or_first (x ∷ []) later zero e few there = let same : x ≡ e = cc in inr (refl, ap (λ y. y ∷ []) same)
later_or_first (x ∷ []) later (suc i) e few there = inl (i, omega arith, there)
later_or_first (x ∷ y ∷ es) later i e few there = absurd (omega (arith, few))

few_answered : (t : ℕ) (work : Option Work) (made : Option Made) → length (answered_by t work made) ≤ 1
few_answered t (Some (works.Command cmd)) (Some (makes.Answered told)) = omega arith
few_answered t _ _ = omega arith

few_told : (t : ℕ) (phase : Phase) (work : Option Work) (made : Option Made) → length (told_by t phase work made) ≤ 1
few_told t at.Leaving work made = omega arith
few_told t at.Parting work made = omega arith
few_told t _ work made = few_answered t work made

few_swept : (n : Naming) (op : Option Op) → length (swept_by n op) ≤ 1
few_swept n (Some ops.AddFreed) = omega arith
few_swept n (Some (ops.FreeHeader slot)) = omega arith
few_swept n _ = omega arith

-- a move tells one event at most
few_in : (n : Naming) (w : Core) (m : Move) → length (events_in n w m) ≤ 1
few_in n w (Move.Begins t work from) = omega arith
few_in n w (Move.Steps t) = few_told t (mutator w t).phase (work_of (mutator w t)) (answer_of (mutator (stepped w t) t))
few_in n w Move.Turns = few_swept n (next_of w.collector)
few_in n w Move.Offers = omega arith

-- a step of mutator s that told this answered the command of mutator t, which is the same one
record TellsBy (s t : ℕ) (line : Line) (work : Option Work) (made : Option Made) : Type 0 where
  own : s ≡ t
  command : work ≡ Some (works.Command line.0)
  answer : made ≡ Some (makes.Answered line.1)

answers_by : (s t : ℕ) (line : Line) (work : Option Work) (made : Option Made) → answered_by s work made ≡ Event.Answers t line ∷ [] → TellsBy s t line work made
answers_by s t line (Some (works.Command cmd)) (Some (makes.Answered told)) is =
    let one : ◌≡◌ {A = ℕ × Line} (s, (cmd, told)) (t, line) = let same : Event.Answers s (cmd, told) ≡ Event.Answers t line = cc in ap (answered_in (t, line)) same in
    record { own = ap (λ (x : ℕ × Line). x.0) one; command = ap (λ (x : ℕ × Line). Some (works.Command x.1.0)) one; answer = ap (λ (x : ℕ × Line). Some (makes.Answered x.1.1)) one }
answers_by s t line _ _ is = absurd (omega (arith, ap length is))

-- why the step that answered a command refused it
pub record IsRefusedBy (u : Core) (t : ℕ) (cmd : Cmd) (told : Told) : Type 0 where
  pub not_yet : (told.answer ≡ answers.NotYet) ↔ IsAwaited (mutator u t) (found_by u t) cmd
  pub full : told.answer ≡ answers.Full → IsFilled u

-- Full is told by a step at which every slot is taken
filled_at : (w v : Core) (t before : ℕ) (told : Told) (phase : Phase) → FoundNoneAt phase before → IsShownAt w t phase (Some (makes.Answered told)) v → told.answer ≡ answers.Full → IsFilled w
filled_at w v t before told (at.Scanned reg label leaf first) same shown full = shown.2.full full
filled_at w v t before told _ none shown full = absurd none

pub step_refused : (w : Core) (t : ℕ) (cmd : Cmd) (told : Told) → IsKept false w → IsMutator w.config t → is_busy (mutator w t) ≡ true → work_of (mutator w t) ≡ Some (works.Command cmd)
    → answer_of (mutator (stepped w t) t) ≡ Some (makes.Answered told) → IsRefusedBy w t cmd told
step_refused w t cmd told kept is busy work answer =
    let cause = step_caused w t cmd told kept is busy work answer in
    record {
      not_yet = cause.not_yet;
      full = λ full.
          let found = cause.full.0 full in
          filled_at w (stepped w t) t found.0 told (mutator w t).phase found.1.scanned (subst (λ (x : Option Made). IsShown w t x (stepped w t)) answer (step_shown w t kept is busy)) full;
    }

tells_by : (s t : ℕ) (line : Line) (phase : Phase) (work : Option Work) (made : Option Made) → is_done line.1.answer ≡ false → told_by s phase work made ≡ Event.Answers t line ∷ [] → TellsBy s t line work made
tells_by s t line at.Leaving work made undone is =
    let one : Event.Answers s (commands.Leave, plain answers.Done) ≡ Event.Answers t line = cc in
    absurd (false≢true (sym undone ∙ sym (ap (λ e. is_done (answered_in (t, line) e).1.1.answer) one)))
tells_by s t line at.Parting work made undone is = absurd (omega (arith, ap length is))
tells_by s t line _ work made undone is = answers_by s t line work made is

-- The step that told a line, and why it refused the command if it did.
record IsRefusing (n : Naming) (w : Core) (moves : List Move) (i t : ℕ) (line : Line) : Type 0 where
  step : IsToldBy n w moves i t line
  why : IsRefusedBy (after_moves w step.earlier) t line.0 line.1

-- the move that told it is a step of the mutator
told_first : (n : Naming) (w : Core) (m : Move) (later : List Move) (t : ℕ) (line : Line) → IsKept false w → AllFit w (m ∷ later) → is_done line.1.answer ≡ false → events_in n w m ≡ Event.Answers t line ∷ []
    → IsRefusing n w (m ∷ later) 0 t line
told_first n w (Move.Begins s work from) later t line kept fit undone is = absurd (omega (arith, ap length is))
told_first n w (Move.Steps s) later t line kept fit undone is =
    let tells : TellsBy s t line (work_of (mutator w s)) (answer_of (mutator (stepped w s) s)) = tells_by s t line (mutator w s).phase (work_of (mutator w s)) (answer_of (mutator (stepped w s) s)) undone is in
    subst (λ x. IsRefusing n w (Move.Steps s ∷ later) 0 x line) tells.own
    (record {
      step = record { earlier = []; later = later; all = refl; place = refl; tells = is ∙ ap (λ x. Event.Answers x line ∷ []) (sym tells.own) };
      why = step_refused w s line.0 line.1 kept fit.0.0 fit.0.1 tells.command tells.answer;
    })
told_first n w Move.Turns later t line kept fit undone is = absurd (omega (arith, slice_get_within [] 0 (Event.Answers t line) (swept_silent n (next_of w.collector) t line [] 0 (ap (λ es. slice_get es 0) is))))
told_first n w Move.Offers later t line kept fit undone is = absurd (omega (arith, ap length is))

-- In a run of moves a step of the mutator told it.
step_told : (n : Naming) (w : Core) (moves : List Move) → IsKept false w → AllFit w moves
    → (i t : ℕ) (line : Line) → slice_get (events_of n w moves) i ≡ Some (Event.Answers t line) → is_done line.1.answer ≡ false → IsRefusing n w moves i t line
step_told n w [] kept fit i t line there undone = absurd (omega (arith, slice_get_within [] i (Event.Answers t line) there))
step_told n w (m ∷ moves) kept fit i t line there undone = elim (later_or_first (events_in n w m) (events_of (named_after n w m) (after_move w m) moves) i (Event.Answers t line) (few_in n w m) there) [
  | inl later ↦
      let so : IsRefusing (named_after n w m) (after_move w m) moves later.0 t line = step_told (named_after n w m) (after_move w m) moves (move_kept w m kept fit.0) fit.1 later.0 t line later.2 undone in
      record {
        step = record {
          earlier = m ∷ so.step.earlier;
          later = so.step.later;
          all = ap (λ ms. m ∷ ms) so.step.all;
          place = later.1 ∙ ap (λ j. length (events_in n w m) + j) so.step.place ∙ sym (length-append (events_in n w m) (events_of (named_after n w m) (after_move w m) so.step.earlier));
          tells = so.step.tells;
        };
        why = so.why;
      }
  | inr first ↦ subst (λ j. IsRefusing n w (m ∷ moves) j t line) (sym first.0) (told_first n w m moves t line kept fit undone first.1)
]

-- A NotYet is told by the first step of leaving, which found a log that was still to be collected.
pub not_yet_told : (n : Naming) (w : Core) (moves : List Move) → IsKept false w → AllFit w moves
    → (i t : ℕ) (line : Line) → slice_get (events_of n w moves) i ≡ Some (Event.Answers t line) → line.1.answer ≡ answers.NotYet → IsAwaitedStep n w moves i t line
not_yet_told n w moves kept fit i t line there refused =
    let so : IsRefusing n w moves i t line = step_told n w moves kept fit i t line there (ap is_done refused) in
    record { step = so.step; awaited = so.why.not_yet.0 refused }

-- A Full is told by a step at which every slot holds an object.
pub full_told : (n : Naming) (w : Core) (moves : List Move) → IsKept false w → AllFit w moves
    → (i t : ℕ) (line : Line) → slice_get (events_of n w moves) i ≡ Some (Event.Answers t line) → line.1.answer ≡ answers.Full → IsFilledStep n w moves i t line
full_told n w moves kept fit i t line there full =
    let so : IsRefusing n w moves i t line = step_told n w moves kept fit i t line there (ap is_done full) in
    record { step = so.step; filled = so.why.full full }
