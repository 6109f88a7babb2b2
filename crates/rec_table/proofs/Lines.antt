-- The line that a work tells.
use Rattle.std.proofs.Common.{◌≡◌, ℕ, Bool, true, false, true≢false, List, [], ◌∷◌, ◌++◌, Option, Some, None, refl, sym, ap, ◌∙◌, append_assoc}
use Rattle.std.proofs.lemmas.List.{append-nil, map-append}
use Rattle.rec_table.proofs.Common.{Contents, IsBetween, Private, answer_at, answer_of, is_busy, is_busy_at, work_at, work_of, begun_of, spare, step_of, swapped_at, swapped_of, took_at, took_of, learnt, told, saw_all, Beat, Begins, Saw}
use Rattle.rec_mutator.specs.declared.made.Made.{Made}
use Rattle.rec_mutator.specs.declared.made.Made.TheVariants as makes
use Rattle.rec_mutator.specs.declared.phase.Phase.{Phase}
use Rattle.rec_mutator.specs.declared.phase.Phase.TheVariants as at
use Rattle.rec_mutator.specs.declared.work.Work.{Work}
use Rattle.rec_mutator.specs.declared.work.Work.TheVariants as works
use Rattle.rec_mutator.proofs.Leaving.{parts_from}
use Rattle.rec_mutator.proofs.Steps.{step_made}
use Rattle.rec_core.proofs.Leaving.{leaves_at_last, lets_go}
use Rattle.rec_table.specs.Journals.{Tells, journal, line_at, line_in, line_of}
use Rattle.rec_table.specs.declared.start.Start.{Start}
use Rattle.rec_table.proofs.Answering.{Path}
use Rattle.rec_table.proofs.Journals.{journal_both}
use Rattle.rec_table.proofs.Making.{learnt_between}
use Rattle.rec_model.specs.Asking.{plain}
use Rattle.rec_model.specs.LegalOrder.{Line}
use Rattle.rec_model.specs.declared.answer.Answer.TheVariants as answers
use Rattle.rec_model.specs.declared.command.Cmd.TheVariants as commands

-- a step of a record that is idle, or that has finished, leaves it so
step_stays : (p : Private) (word : ℕ) (box : Contents) (phase : Phase) → p.phase ≡ phase → is_busy_at phase ≡ false → is_busy (step_of p word box) ≡ false
unfolding took_of took_at swapped_of swapped_at step_of
step_stays p word box at.Idle e idle = ap (λ (phase : Phase). is_busy (swapped_of (took_at p word phase) box)) e
step_stays p word box (at.Finished work made) e idle = ap (λ (phase : Phase). is_busy (swapped_of (took_at p word phase) box)) e
step_stays p word box _ e idle = absurd (true≢false idle)

-- so one that works after a step worked before it
still_busy : (p : Private) (word : ℕ) → is_busy (learnt p (Saw word)) ≡ true → is_busy p ≡ true
still_busy p word busy = by (is_busy p) refl
  where
    by : (b : Bool) → is_busy p ≡ b → b ≡ true
    by true e = refl
    by false e = absurd (true≢false (sym busy ∙ step_stays p word (spare (took_of p word)) p.phase refl e))

-- and before any number of steps
pub busy_before : (p : Private) (words : List ℕ) → is_busy (told p (saw_all words)) ≡ true → is_busy p ≡ true
busy_before p [] busy = busy
busy_before p (word ∷ words) busy = still_busy p word (busy_before (learnt p (Saw word)) words busy)

-- who works has no answer
none_told : (p : Private) (work : Option Work) → is_busy p ≡ true → line_of work (answer_of p) ≡ []
none_told p work busy = by p.phase refl
  where
    no_answer : (w : Option Work) → line_of w None ≡ []
    no_answer None = refl
    no_answer (Some (works.Command cmd)) = refl
    no_answer (Some works.Poll) = refl

    by : (phase : Phase) → p.phase ≡ phase → line_of work (answer_of p) ≡ []
    by (at.Finished w made) e = absurd (true≢false (sym busy ∙ ap is_busy_at e))
    by _ e = ap (λ (x : Phase). line_of work (answer_at x)) e ∙ no_answer work

-- what a work has told that goes on, by phase: nothing, unless it leaves and has taken the mailbox
abbrev told_at : Phase → List Line
told_at at.Parting = (commands.Leave, plain answers.Done) ∷ []
told_at _ = []

untold_at : (phase : Phase) → (phase ≡ at.Parting → ⊥) → told_at phase ≡ []
untold_at at.Parting other = absurd (other refl)
untold_at _ other = refl

-- a step of a work that goes on tells what it has told then
step_tells : (p : Private) (word : ℕ) → IsBetween p.phase → is_busy p ≡ true → is_busy (learnt p (Saw word)) ≡ true → told_at p.phase ++ line_in p (Saw word) ≡ told_at (learnt p (Saw word)).phase
step_tells p word between busy goes = by p.phase refl
  where
    q : Private
    q = learnt p (Saw word)

    -- what it tells is told by the phase
    tells_in : (phase : Phase) → p.phase ≡ phase → told_at p.phase ++ line_in p (Saw word) ≡ told_at phase ++ line_at phase (work_of p) (answer_of q)
    tells_in phase e = ap (λ (x : Phase). told_at x ++ line_at x (work_of p) (answer_of q)) e

    -- where it doesn't leave it goes on untold
    untold : (phase : Phase) → p.phase ≡ phase → (phase ≡ at.Leaving → ⊥) → line_of (work_of p) (answer_of q) ≡ told_at q.phase
    untold phase e other =
        none_told q (work_of p) goes ∙ sym (untold_at q.phase (λ parts. other (sym e ∙ parts_from (step_made p word (spare (took_of p word)) busy between) parts)))

    by : (phase : Phase) → p.phase ≡ phase → told_at p.phase ++ line_in p (Saw word) ≡ told_at q.phase
    by at.Leaving e = tells_in at.Leaving e ∙ ap (λ (x : Private). told_at x.phase) (sym (lets_go p word (spare (took_of p word)) e).after)
    by at.Parting e = absurd (true≢false (sym goes ∙ ap is_busy (leaves_at_last p word (spare (took_of p word)) e).after))
    by _ e = tells_in _ e ∙ untold _ e (λ is. cc)

-- so do all steps of a work that goes on
steps_tell : (p : Private) (words : List ℕ) → IsBetween p.phase → is_busy (told p (saw_all words)) ≡ true → told_at p.phase ++ journal p (saw_all words) ≡ told_at (told p (saw_all words)).phase
steps_tell p [] between busy = append-nil (told_at p.phase)
steps_tell p (word ∷ words) between busy =
    let q : Private = learnt p (Saw word) in
    let goes : is_busy q ≡ true = busy_before q words busy in
    sym (append_assoc (told_at p.phase) (line_in p (Saw word)) (journal q (saw_all words)))
    ∙ ap (λ (l : List Line). l ++ journal q (saw_all words)) (step_tells p word between (busy_before p (word ∷ words) busy) goes)
    ∙ steps_tell q words (learnt_between p word (busy_before p (word ∷ words) busy) between) busy

-- and the step that ends it tells what is left of its line
last_tells : (p : Private) (word : ℕ) (work : Work) (made : Made) → work_of p ≡ Some work → answer_of (learnt p (Saw word)) ≡ Some made → told_at p.phase ++ line_in p (Saw word) ≡ line_of (Some work) (Some made)
last_tells p word work made works_on answer = by p.phase refl
  where
    tells_in : (phase : Phase) → p.phase ≡ phase → told_at p.phase ++ line_in p (Saw word) ≡ told_at phase ++ line_at phase (Some work) (Some made)
    tells_in phase e = ap (λ (x : Phase). told_at x ++ line_at x (work_of p) (answer_of (learnt p (Saw word)))) e ∙ (λ i. told_at phase ++ line_at phase (works_on i) (answer i))

    by : (phase : Phase) → p.phase ≡ phase → told_at p.phase ++ line_in p (Saw word) ≡ line_of (Some work) (Some made)
    by at.Leaving e = let no : ◌≡◌ {A = Option Made} None (Some made) = sym (ap answer_of (lets_go p word (spare (took_of p word)) e).after) ∙ answer in (cc)
    by at.Parting e =
        let its : ◌≡◌ {A = Option Work} (Some (works.Command commands.Leave)) (Some work) = sym (ap work_at e) ∙ works_on in
        let its_answer : ◌≡◌ {A = Option Made} (Some (makes.Answered (plain answers.Done))) (Some made) = sym (ap answer_of (leaves_at_last p word (spare (took_of p word)) e).after) ∙ answer in
        tells_in at.Parting e ∙ (λ i. line_of (its i) (its_answer i))
    by _ e = tells_in _ e

-- A work tells its answer, once.
pub tells : (p q : Private) (start : Start) (log log' : List Beat) (made : Made) → Path start p log log' q → answer_of q ≡ Some made → Tells p log log' (line_of (Some start.work) (Some made))
unfolding begun_of
tells p q start log log' made path answer =
    let first : Private = begun_of p start.work start.from in
    let last : List Beat = Saw path.last ∷ [] in
    let busy : is_busy (told first (saw_all path.words)) ≡ true = ap is_busy (sym path.along) ∙ path.busy in
    let so_far : journal first (saw_all path.words) ≡ told_at path.before.phase = steps_tell first path.words tt busy ∙ ap (λ (x : Private). told_at x.phase) (sym path.along) in
    record {
      beats = Begins start ∷ saw_all (path.words ++ path.last ∷ []);
      grows = path.grows;
      tells = ap (journal first) (map-append (λ (n : ℕ). Saw n) path.words (path.last ∷ []))
          ∙ journal_both first (saw_all path.words) last
          ∙ (λ i. so_far i ++ journal (sym path.along i) last)
          ∙ ap (λ (l : List Line). told_at path.before.phase ++ l) (append-nil (line_in path.before (Saw path.last)))
          ∙ last_tells path.before path.last start.work made path.works_on (ap answer_of (sym path.made) ∙ answer);
    }
