-- The journals that the lists tell are those of the run, and they have a legal order.
use Rattle.std.proofs.Common.{◌≡◌, ◌≢◌, ℕ, zero, suc, ◌+◌, ◌-◌, ◌<◌, length, get_or, Bool, if◌then◌else◌, List, [], ◌∷◌, ◌++◌, Option, Some, None, refl, sym, ap, subst, ◌∙◌, arith, append_assoc, eq-eqb, ne_eqb, false}
use Rattle.std.proofs.lemmas.Bool.{cases_eq}
use Rattle.std.proofs.Common.{inl, inr}
use Rattle.std.proofs.lemmas.List.{append-nil}
use Rattle.std.proofs.lemmas.List.Elements.{filter_map-append}
use Rattle.std.specs.List.{filter_map, cons_option}
use Rattle.rec_table.proofs.Common.{Private, work_of, answer_of, IsMutator, Core, sight, mutator, Move, Fits, AllFit, after_move, stepped, found_by, IsKept, move_kept, move_stays, other_gives, own_gives, beats_in, beats_of, learnt, told, Beat, Saw}
use Rattle.rec_model.specs.Heap.{Heap}
use Rattle.rec_model.specs.Asking.{plain}
use Rattle.rec_model.specs.LegalOrder.{Event, Line, line_by}
use Rattle.rec_model.specs.Sight.{StandsBy}
use Rattle.rec_model.specs.Unfreed.{AreUnfreed}
use Rattle.rec_model.specs.declared.answer.Answer.TheVariants as answers
use Rattle.rec_model.specs.declared.command.Cmd.TheVariants as commands
use Rattle.rec_mutator.specs.declared.made.Made.{Made}
use Rattle.rec_mutator.specs.declared.made.Made.TheVariants as makes
use Rattle.rec_mutator.specs.declared.phase.Phase.{Phase}
use Rattle.rec_mutator.specs.declared.phase.Phase.TheVariants as at
use Rattle.rec_mutator.specs.declared.work.Work.{Work}
use Rattle.rec_mutator.specs.declared.work.Work.TheVariants as works
use Rattle.rec_core.specs.declared.config.Config.{Config}
use Rattle.rec_core.specs.RunAnswers.{answered_by, told_by, told_in, told_in_all}
use Rattle.rec_core.specs.Run.{by_actor, maker}
use Rattle.rec_order.specs.Legal.{AreIdle, HasLegalOrder}
use Rattle.rec_order.proofs.Legal.{run_legal}
use Rattle.rec_table.specs.Journals.{line_of, line_at, line_in, journal, journals_from}
use Rattle.rec_table.proofs.Beats as beats

pub journal_both : (p : Private) (cs bs : List Beat) → journal p (cs ++ bs) ≡ journal p cs ++ journal (told p cs) bs
journal_both p [] bs = refl
journal_both p (c ∷ cs) bs = ap (λ l. line_in p c ++ l) (journal_both (learnt p c) cs bs) ∙ sym (append_assoc (line_in p c) (journal (learnt p c) cs) (journal (told (learnt p c) cs) bs))

-- an answer is a line of its own mutator
own_event : (x : ℕ) (line : Line) → filter_map (line_by x) (Event.Answers x line ∷ []) ≡ line ∷ []
own_event x line = ap (λ (b : Bool). cons_option (if b then Some line else None) []) (eq-eqb x x refl)

-- and of no other
other_event : (t x : ℕ) (line : Line) → t ≢ x → filter_map (line_by x) (Event.Answers t line ∷ []) ≡ []
other_event t x line other = ap (λ (b : Bool). cons_option (if b then Some line else None) []) (ne_eqb t x other)

-- what an answer told its own mutator
own_answer : (x : ℕ) (work : Option Work) (answer : Option Made) → filter_map (line_by x) (answered_by x work answer) ≡ line_of work answer
own_answer x (Some (works.Command cmd)) (Some (makes.Answered answer)) = own_event x (cmd, answer)
own_answer x (Some (works.Command cmd)) (Some (makes.Crossed epoch)) = refl
own_answer x (Some (works.Command cmd)) None = refl
own_answer x (Some works.Poll) answer = refl
own_answer x None answer = refl

-- and what a step did
own_line : (x : ℕ) (phase : Phase) (work : Option Work) (answer : Option Made) → filter_map (line_by x) (told_by x phase work answer) ≡ line_at phase work answer
own_line x at.Leaving work answer = own_event x (commands.Leave, plain answers.Done)
own_line x at.Parting work answer = refl
own_line x _ work answer = own_answer x work answer

-- what an answer told another
other_answer : (t x : ℕ) (work : Option Work) (answer : Option Made) → t ≢ x → filter_map (line_by x) (answered_by t work answer) ≡ []
other_answer t x (Some (works.Command cmd)) (Some (makes.Answered answer)) other = other_event t x (cmd, answer) other
other_answer t x (Some (works.Command cmd)) (Some (makes.Crossed epoch)) other = refl
other_answer t x (Some (works.Command cmd)) None other = refl
other_answer t x (Some works.Poll) answer other = refl
other_answer t x None answer other = refl

-- and what a step did
other_line : (t x : ℕ) (phase : Phase) (work : Option Work) (answer : Option Made) → t ≢ x → filter_map (line_by x) (told_by t phase work answer) ≡ []
other_line t x at.Leaving work answer other = other_event t x (commands.Leave, plain answers.Done) other
other_line t x at.Parting work answer other = refl
other_line t x _ work answer other = other_answer t x work answer other

-- the lines of one move
move_lines : (w : Core) (m : Move) (x : ℕ) → IsKept false w → Fits w m → IsMutator w.config x → filter_map (line_by x) (told_in w m) ≡ journal (mutator w x) (by_actor x beats_in w m)
move_lines w m x kept fits is = elim (cases_eq (maker m) x) [
  | inl mine ↦ own m fits mine ∙ ap (journal (mutator w x)) (sym (own_gives x beats_in w m mine))
  | inr theirs ↦ other m theirs ∙ ap (journal (mutator w x)) (sym (other_gives x beats_in w m theirs))
]
  where
    own : (m : Move) → Fits w m → maker m ≡ x → filter_map (line_by x) (told_in w m) ≡ journal (mutator w x) (beats_in w m)
    own (Move.Begins t work from) fits mine = refl
    own (Move.Steps t) fits mine =
        let after : mutator (stepped w t) x ≡ learnt (mutator w x) (Saw (found_by w t)) =
        beats.told_in w (Move.Steps t) x kept fits is ∙ ap (told (mutator w x)) (own_gives x beats_in w (Move.Steps t) mine) in
        ap (λ i. filter_map (line_by x) (told_by i (mutator w i).phase (work_of (mutator w i)) (answer_of (mutator (stepped w t) i)))) mine
        ∙ own_line x (mutator w x).phase (work_of (mutator w x)) (answer_of (mutator (stepped w t) x))
        ∙ ap (λ (q : Private). line_at (mutator w x).phase (work_of (mutator w x)) (answer_of q)) after
        ∙ sym (append-nil (line_in (mutator w x) (Saw (found_by w t))))
    own Move.Turns fits mine = absurd (omega (arith, mine, is.0))
    own Move.Offers fits mine = refl

    other : (m : Move) → maker m ≢ x → filter_map (line_by x) (told_in w m) ≡ []
    other (Move.Steps t) theirs = other_line t x (mutator w t).phase (work_of (mutator w t)) (answer_of (mutator (stepped w t) t)) theirs
    other _ theirs = refl

-- The lines that a run told a mutator are those that its list tells.
run_lines : (w : Core) (ms : List Move) (x : ℕ) → IsKept false w → AllFit w ms → IsMutator w.config x → filter_map (line_by x) (told_in_all w ms) ≡ journal (mutator w x) (beats_of x w ms)
run_lines w [] x kept fit is = refl
run_lines w (m ∷ ms) x kept fit is =
    filter_map-append (line_by x) (told_in w m) (told_in_all (after_move w m) ms)
    ∙ ap (λ (ls : List Line). ls ++ filter_map (line_by x) (told_in_all (after_move w m) ms)) (move_lines w m x kept fit.0 is)
    ∙ ap (λ (ls : List Line). journal (mutator w x) (by_actor x beats_in w m) ++ ls)
    (run_lines (after_move w m) ms x (move_kept w m kept fit.0) fit.1 (subst (λ (c : Config). IsMutator c x) (sym (move_stays w m)) is)
    ∙ ap (λ (p : Private). journal p (beats_of x (after_move w m) ms)) (beats.told_in w m x kept fit.0 is))
    ∙ sym (journal_both (mutator w x) (by_actor x beats_in w m) (beats_of x (after_move w m) ms))

at_from : (w : Core) (k : ℕ) (lists : List (List Beat)) (i : ℕ) → i < length lists → get_or (journals_from w k lists) i [] ≡ journal (mutator w (k + i + 1)) (get_or lists i [])
at_from w k [] i lt = absurd (omega arith)
at_from w k (l ∷ ls) zero lt = let e : k + 1 ≡ k + 0 + 1 = omega arith in ap (λ n. journal (mutator w n) l) e
at_from w k (l ∷ ls) (suc i) lt =
    let e : k + 1 + i + 1 ≡ k + suc i + 1 = omega arith in
    at_from w (k + 1) ls i (omega arith) ∙ ap (λ n. journal (mutator w n) (get_or ls i [])) e

as_many : (w : Core) (k : ℕ) (lists : List (List Beat)) → length (journals_from w k lists) ≡ length lists
as_many w k [] = refl
as_many w k (l ∷ ls) = ap suc (as_many w (k + 1) ls)

-- So the journals that the lists tell have a legal order.
pub lists_legal : (key : Core) (heap : Heap) (number : ℕ → ℕ) (unfreed : List ℕ) (run : List Move) (lists : List (List Beat)) → IsKept false key → AreIdle key → StandsBy heap (sight key) number → AreUnfreed (sight key) number unfreed
    → AllFit key run → length lists ≡ key.config.mutators → ((k : ℕ) → k < key.config.mutators → get_or lists k [] ≡ beats_of (k + 1) key run) → HasLegalOrder key heap number unfreed run (journals_from key 0 lists)
lists_legal key heap number unfreed run lists kept idle stands are fit many each =
    run_legal key heap number unfreed run (journals_from key 0 lists) kept idle stands are fit
    (record {
      one_each = as_many key 0 lists ∙ many;
      lines = λ t is.
          let i : ℕ = t - 1 in
          let there : i < length lists = omega (arith, many, is.0, is.1) in
          let same : 0 + i + 1 ≡ t = omega (arith, is.0) in
          let next : i + 1 ≡ t = omega (arith, is.0) in
          at_from key 0 lists i there
          ∙ (λ j. journal (mutator key (same j)) (each i (omega (arith, there, many)) j))
          ∙ ap (λ n. journal (mutator key t) (beats_of n key run)) next
          ∙ sym (run_lines key run t kept fit is);
    })
