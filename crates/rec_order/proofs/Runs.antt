-- Runs with moves more; and a work made to its end is a run.
use Rattle.std.proofs.Common.{◌≡◌, inl, inr, ℕ, ◌+◌, ◌<◌, ◌==◌, List, [], ◌∷◌, ◌++◌, Option, None, Some, Bool, true, false, if◌then◌else◌, length, slice_index_or, refl, sym, ap, subst, ◌∙◌, arith, append_assoc, add-zero}
use Rattle.std.proofs.lemmas.Bool.{false≢true}
use Rattle.std.proofs.lemmas.List.{append-nil}
use Rattle.rec_word.specs.declared.op.Op.{Op}
use Rattle.rec_word.specs.declared.op.Op.TheVariants as ops
use Rattle.rec_model.specs.declared.answer.Answer.TheVariants as answers
use Rattle.rec_model.specs.declared.command.Cmd.{Cmd}
use Rattle.rec_model.specs.declared.command.Cmd.TheVariants as commands
use Rattle.rec_model.specs.declared.told.Told.{Told}
use Rattle.rec_model.specs.Asking.{plain}
use Rattle.rec_model.specs.LegalOrder.{Event}
use Rattle.rec_model.specs.Sight.{Sight, IsTaken}
use Rattle.rec_mutator.specs.Next as mutator_next
use Rattle.rec_mutator.specs.Private.{Private, is_busy, is_busy_at, work_of, work_at, answer_of, IsValid}
use Rattle.rec_mutator.specs.Took.{begun_of}
use Rattle.rec_mutator.specs.declared.made.Made.{Made}
use Rattle.rec_mutator.specs.declared.made.Made.TheVariants as makes
use Rattle.rec_mutator.specs.declared.phase.Phase.{Phase}
use Rattle.rec_mutator.specs.declared.phase.Phase.TheVariants as at
use Rattle.rec_mutator.specs.declared.work.Work.{Work}
use Rattle.rec_mutator.specs.declared.work.Work.TheVariants as works
use Rattle.rec_mutator.proofs.Leaving.{parts_from}
use Rattle.rec_mutator.proofs.Polls.{busy_none}
use Rattle.rec_core.specs.RunAnswers.{answered_by, told_by}
use Rattle.rec_core.specs.Cells.{births_of}
use Rattle.rec_core.specs.Config.{IsMutator, HasLabel}
use Rattle.rec_core.specs.Core.{Core, sight, mutator}
use Rattle.rec_core.specs.Kept.{IsKept}
use Rattle.rec_core.specs.Moves.{Move, Fits, AllFit, after_move, after_moves, begun, stepped, found_by}
use Rattle.rec_core.specs.StepAnswers.{IsDecided}
use Rattle.rec_core.specs.Worked.{StepsTo, IsWorked}
use Rattle.rec_core.proofs.BareRuns.{move_kept}
use Rattle.rec_core.proofs.Asked.{begun_sight}
use Rattle.rec_core.proofs.Runs.{after_both, fit_both}
use Rattle.rec_core.proofs.Leaving.{IsStayingIn, leaves_or_stays, polls_stay, told_as}
use Rattle.rec_core.proofs.Showing.{Says, step_says, leaving_decided, parting_says, mutator_left, stepped_mutator}
use Rattle.rec_core.proofs.Unfinished.{its_step, work_stays}
use Rattle.rec_order.specs.Naming.{Naming, NamesGoOn, born_in, named_by, named_after, named_after_all}
use Rattle.rec_order.specs.Events.{events_in, events_of}
use Rattle.rec_order.proofs.Stamps.{IsSilent, leaving_parts, going_silent, holding_silent, stayed_silent, crossed_silent, parting_silent}
use Rattle.rec_order.proofs.Stands.{NamesOn, born_taken}
use Rattle.rec_order.proofs.Steps.{same_names, step_names}
use Rattle.rec_core.proofs.Turn.{turned_made}

-- the naming after two lists
names_both : (n : Naming) (w : Core) (ms ns : List Move) → named_after_all n w (ms ++ ns) ≡ named_after_all (named_after_all n w ms) (after_moves w ms) ns
names_both n w [] ns = refl
names_both n w (m ∷ ms) ns = names_both (named_after n w m) (after_move w m) ms ns

-- what two lists tell
events_both : (n : Naming) (w : Core) (ms ns : List Move) → events_of n w (ms ++ ns) ≡ events_of n w ms ++ events_of (named_after_all n w ms) (after_moves w ms) ns
events_both n w [] ns = refl
events_both n w (m ∷ ms) ns =
    ap (λ es. events_in n w m ++ es) (events_both (named_after n w m) (after_move w m) ms ns)
    ∙ sym (append_assoc (events_in n w m) (events_of (named_after n w m) (after_move w m) ms) (events_of (named_after_all (named_after n w m) (after_move w m) ms) (after_moves (after_move w m) ms) ns))

-- the naming counts the births
named_next : (n : Naming) (op : Op) (found : ℕ) → (named_by n op found).next ≡ n.next + births_of op found
named_next n (ops.ClaimHeader slot label) found = go (found == 0)
  where
    go : (b : Bool) → (if b then born_in n slot else n).next ≡ n.next + (if b then 1 else 0)
    go true = refl
    go false = omega arith
named_next n _ found = omega arith

-- a move counts as many births as it names
move_made : (n : Naming) (w : Core) (m : Move) → (named_after n w m).next + w.made ≡ n.next + (after_move w m).made
move_made n w (Move.Begins t work from) = refl
move_made n w (Move.Steps t) = let next : (named_by n (mutator_next.next_of (mutator w t)) (found_by w t)).next ≡ n.next + births_of (mutator_next.next_of (mutator w t)) (found_by w t) = named_next n (mutator_next.next_of (mutator w t)) (found_by w t) in omega (arith, next)
move_made n w Move.Turns = ap (λ x. n.next + x) (sym (turned_made w))
move_made n w Move.Offers = refl

-- As many objects were born as are counted.
pub moves_made : (n : Naming) (w : Core) (ms : List Move) → (named_after_all n w ms).next + w.made ≡ n.next + (after_moves w ms).made
moves_made n w [] = refl
moves_made n w (m ∷ ms) =
    let rest : (named_after_all (named_after n w m) (after_move w m) ms).next + (after_move w m).made ≡ (named_after n w m).next + (after_moves (after_move w m) ms).made = moves_made (named_after n w m) (after_move w m) ms in
    let first : (named_after n w m).next + w.made ≡ n.next + (after_move w m).made = move_made n w m in
    omega (arith, rest, first)

-- A run from one state to another that tells these events, and takes one naming to another.
pub record Runs (w v : Core) (told : List Event) (n k : Naming) : Type 0 where
  pub moves : List Move
  pub fit : AllFit w moves
  pub ends : after_moves w moves ≡ v
  pub tells : events_of n w moves ≡ told
  pub names : named_after_all n w moves ≡ k

-- no move
runs_none : (w v : Core) (n : Naming) → v ≡ w → Runs w v [] n n
runs_none w v n same = record { moves = []; fit = tt; ends = sym same; tells = refl; names = refl }

-- one move
pub runs_one : (w v : Core) (m : Move) (n : Naming) → Fits w m → v ≡ after_move w m → Runs w v (events_in n w m) n (named_after n w m)
runs_one w v m n fits same = record { moves = m ∷ []; fit = (fits, tt); ends = sym same; tells = append-nil (events_in n w m); names = refl }

-- one run after the other
pub runs_both : (u w v : Core) (first second : List Event) (n k j : Naming) → Runs u w first n k → Runs w v second k j → Runs u v (first ++ second) n j
runs_both u w v first second n k j a b =
    record {
      moves = a.moves ++ b.moves;
      fit = fit_both u a.moves b.moves a.fit (subst (λ x. AllFit x b.moves) (sym a.ends) b.fit);
      ends = after_both u a.moves b.moves ∙ ap (λ x. after_moves x b.moves) a.ends ∙ b.ends;
      tells =
          events_both n u a.moves b.moves
          ∙ ap (λ es. es ++ events_of (named_after_all n u a.moves) (after_moves u a.moves) b.moves) a.tells
          ∙ ap (λ es. first ++ es) (ap (λ x. events_of (named_after_all n u a.moves) x b.moves) a.ends ∙ ap (λ (m : Naming). events_of m w b.moves) a.names ∙ b.tells);
      names =
          names_both n u a.moves b.moves
          ∙ ap (λ x. named_after_all (named_after_all n u a.moves) x b.moves) a.ends ∙ ap (λ (m : Naming). named_after_all m w b.moves) a.names ∙ b.names;
    }

-- a step that counts no birth
runs_unborn : (w v : Core) (t : ℕ) (n : Naming) (told : List Event) → IsMutator w.config t → is_busy (mutator w t) ≡ true → v ≡ stepped w t
    → told_by t (mutator w t).phase (work_of (mutator w t)) (answer_of (mutator (stepped w t) t)) ≡ told → (stepped w t).made ≡ w.made → Runs w v told n n
runs_unborn w v t n told is busy steps tells made =
    let step : Runs w v (events_in n w (Move.Steps t)) n (named_after n w (Move.Steps t)) = runs_one w v (Move.Steps t) n (is, busy) steps in
    let so : Runs w v told n (named_after n w (Move.Steps t)) = subst (λ es. Runs w v es n (named_after n w (Move.Steps t))) tells step in
    subst (Runs w v told n) (same_names n w t made) so

-- a step that answers no command, and isn't one of leaving, decides none
undecided_silent : (w : Core) (t : ℕ) → IsKept false w → IsMutator w.config t → is_busy (mutator w t) ≡ true → IsStayingIn (mutator w t).phase
    → ((cmd : Cmd) (told : Told) → work_of (mutator w t) ≡ Some (works.Command cmd) → answer_of (mutator (stepped w t) t) ≡ Some (makes.Answered told) → ⊥) → IsSilent w t
undecided_silent w t kept is busy stays undecided = go (step_says w t kept is busy stays)
  where
    go : Says w t (mutator (stepped w t) t) (stepped w t) → IsSilent w t
    go (Says.decided cmd told work answer said staying refused) = absurd (undecided cmd told work answer)
    go (Says.going answer only found) = going_silent w t kept is busy stays answer only
    go (Says.holding answer phase still epoch) = holding_silent w t kept is busy stays answer phase still
    go (Says.stayed answer work here only) = stayed_silent w t kept is busy stays answer only
    go (Says.crossed answer work phase still epoch log) = crossed_silent w t kept is busy stays ((mutator w t).epoch + 1) answer still log

-- a mutator that isn't finished has answered nothing
busy_untold : (w : Core) (t : ℕ) (made : Made) → is_busy (mutator w t) ≡ true → answer_of (mutator w t) ≡ Some made → ⊥
busy_untold w t made busy answer = let no : ◌≡◌ {A = Option Made} None (Some made) = sym (busy_none (mutator w t).phase busy) ∙ answer in cc

-- what a work that isn't finished has told, by phase: one that leaves tells its line before its last step, and any other at that
abbrev told_so_far : (t : ℕ) → Phase → List Event
told_so_far t at.Parting = Event.Answers t (commands.Leave, plain answers.Done) ∷ []
told_so_far t _ = []

-- before a mutator has let go, nothing
none_so_far : (t : ℕ) (phase : Phase) → (phase ≡ at.Parting → ⊥) → told_so_far t phase ≡ []
none_so_far t at.Parting other = absurd (other refl)
none_so_far t _ other = refl

-- Steps that finish nothing are a run that nobody sees and that tells nothing, until a mutator that leaves has let go.
record StepsOn (w v : Core) (t : ℕ) (n : Naming) : Type 0 where
  run : Runs w v (told_so_far t (mutator v t).phase) n n
  kept : IsKept false v
  is : IsMutator v.config t
  work : work_of (mutator v t) ≡ work_of (mutator w t)
  seen : ((mutator v t).phase ≡ at.Parting → ⊥) → sight v ≡ sight w

-- one step more
steps_further : (w u : Core) (t : ℕ) (n : Naming) → StepsOn w u t n → is_busy (mutator u t) ≡ true → is_busy (mutator (stepped u t) t) ≡ true → StepsOn w (stepped u t) t n
steps_further w u t n so busy later = elim (leaves_or_stays (mutator u t).phase) [
  | inl leaving ↦
      let parting : (mutator v t).phase ≡ at.Parting = leaving_parts u t so.kept so.is leaving in
      let tells : told_by t (mutator u t).phase (work_of (mutator u t)) (answer_of (mutator v t)) ≡ told_so_far t (mutator v t).phase
      = ap (λ (x : Phase). told_by t x (work_of (mutator u t)) (answer_of (mutator v t))) leaving ∙ sym (ap (told_so_far t) parting) in
      let made : v.made ≡ u.made = (leaving_decided u t so.kept so.is leaving).made ∙ add-zero u.made in
      goes_on (runs_both w u v [] (told_so_far t (mutator v t).phase) n n n (untold (λ parts. let no : at.Leaving ≡ at.Parting = sym leaving ∙ parts in cc)) (runs_unborn u v t n (told_so_far t (mutator v t).phase) so.is busy refl tells made))
      (λ other. absurd (other parting))
  | inr (inl parting) ↦ absurd (busy_untold v t (makes.Answered (plain answers.Done)) later (parting_says u t so.kept so.is parting).answer)
  | inr (inr stays) ↦
      let silent : IsSilent u t = undecided_silent u t so.kept so.is busy stays (λ cmd told work. busy_untold v t (makes.Answered told) later) in
      let before : (mutator u t).phase ≡ at.Parting → ⊥ = λ parts. subst IsStayingIn parts stays in
      let after : (mutator v t).phase ≡ at.Parting → ⊥ = λ parts.
      subst IsStayingIn (parts_from (its_step u t so.kept so.is busy) (ap (λ (p : Private). p.phase) (sym (stepped_mutator u t so.kept so.is)) ∙ parts)) stays in
      let run : Runs w v [] n n = runs_both w u v [] [] n n n (untold before) (runs_unborn u v t n [] so.is busy refl silent.told silent.made) in
      goes_on (subst (λ es. Runs w v es n n) (sym (none_so_far t (mutator v t).phase after)) run) (λ other. silent.seen ∙ so.seen before)
]
  where
    v : Core
    v = stepped u t

    untold : ((mutator u t).phase ≡ at.Parting → ⊥) → Runs w u [] n n
    untold other = subst (λ es. Runs w u es n n) (none_so_far t (mutator u t).phase other) so.run

    goes_on : Runs w v (told_so_far t (mutator v t).phase) n n → (((mutator v t).phase ≡ at.Parting → ⊥) → sight v ≡ sight w) → StepsOn w v t n
    goes_on run seen = record { run = run; kept = move_kept u (Move.Steps t) so.kept (so.is, busy); is = so.is; work = work_stays u t so.kept so.is busy ∙ so.work; seen = seen }

-- a path of steps is one
steps_on : (w : Core) (t : ℕ) (n : Naming) (v : Core) → IsKept false w → IsMutator w.config t → ((mutator w t).phase ≡ at.Parting → ⊥) → StepsTo w t v → is_busy (mutator v t) ≡ true → StepsOn w v t n
steps_on w t n v kept is other (StepsTo.here x same) busy =
    subst (λ y. StepsOn w y t n) (sym same)
    (record { run = subst (λ es. Runs w w es n n) (sym (none_so_far t (mutator w t).phase other)) (runs_none w w n refl); kept = kept; is = is; work = refl; seen = λ _. refl })
steps_on w t n v kept is other (StepsTo.further u x path u_busy steps) busy =
    subst (λ y. StepsOn w y t n) (sym steps)
    (steps_further w u t n (steps_on w t n u kept is other path u_busy) u_busy (subst (λ (y : Core). is_busy (mutator y t) ≡ true) steps busy))

-- A work up to its last step is a run that nobody sees and that tells nothing, until a mutator that leaves has let go.
record WorksOn (w last : Core) (t : ℕ) (work : Work) (n : Naming) : Type 0 where
  run : Runs w last (told_so_far t (mutator last t).phase) n n
  kept : IsKept false last
  is : IsMutator last.config t
  its : work_of (mutator last t) ≡ Some work
  seen : ((mutator last t).phase ≡ at.Parting → ⊥) → sight last ≡ sight w

-- where it doesn't leave, it has told nothing
works_untold : {w last : Core} {t : ℕ} {work : Work} {n : Naming} → WorksOn w last t work n → ((mutator last t).phase ≡ at.Parting → ⊥) → Runs w last [] n n
works_untold {w = w} {last = last} {t = t} {n = n} so other = subst (λ es. Runs w last es n n) (none_so_far t (mutator last t).phase other) so.run

-- a work that was made to its end has come to its last step so
works_on : (w v : Core) (t : ℕ) (work : Work) (n : Naming) → IsKept false w → IsMutator w.config t → is_busy (mutator w t) ≡ false → (mutator w t).left ≡ false → IsValid (mutator w t) work → HasLabel work
    → (done : IsWorked w t work v) → WorksOn w done.last t work n
unfolding begun_of
works_on w v t work n kept is idle present valid label done =
    let fits : Fits w (Move.Begins t work 0) = (is, idle, present, valid, label, kept.config.some_slots) in
    let here : mutator (begun w t work) t ≡ begun_of (mutator w t) work 0 = mutator_left w t (begun_of (mutator w t) work 0) kept is in
    let other : (mutator (begun w t work) t).phase ≡ at.Parting → ⊥ = λ parts. let no : at.Begun work ≡ at.Parting = sym (ap (λ (p : Private). p.phase) here) ∙ parts in cc in
    let so : StepsOn (begun w t work) done.last t n = steps_on (begun w t work) t n done.last (move_kept w (Move.Begins t work 0) kept fits) is other done.path done.busy in
    record {
      run = runs_both w (begun w t work) done.last [] (told_so_far t (mutator done.last t).phase) n n n (runs_one w (begun w t work) (Move.Begins t work 0) n fits refl) so.run;
      kept = so.kept;
      is = so.is;
      its = so.work ∙ ap work_of here;
      seen = λ parts. so.seen parts ∙ begun_sight w t work 0;
    }

-- A poll made to its end is a run that tells nothing, and nobody sees it.
pub polled_runs : (w v : Core) (t : ℕ) (n : Naming) → IsKept false w → IsMutator w.config t → is_busy (mutator w t) ≡ false → (mutator w t).left ≡ false → IsWorked w t works.Poll v → Runs w v [] n n × (sight v ≡ sight w)
polled_runs w v t n kept is idle present done =
    let u : Core = done.last in
    let so : WorksOn w u t works.Poll n = works_on w v t works.Poll n kept is idle present tt tt done in
    let stays : IsStayingIn (mutator u t).phase = polls_stay (mutator u t).phase so.its in
    let other : (mutator u t).phase ≡ at.Parting → ⊥ = λ parts. subst IsStayingIn parts stays in
    let silent : IsSilent u t = undecided_silent u t so.kept so.is done.busy stays
    (λ cmd told work answer. let no : ◌≡◌ {A = Option Work} (Some works.Poll) (Some (works.Command cmd)) = sym so.its ∙ work in cc) in (
      runs_both w u v [] [] n n n (works_untold so other) (runs_unborn u v t n [] so.is done.busy done.steps silent.told silent.made),
      ap sight done.steps ∙ silent.seen ∙ so.seen other,
    )

-- the naming goes on with the step that answers as with the command
names_go_on : (u w v : Core) (t : ℕ) (cmd : Cmd) (told : Told) (n : Naming) (home : ℕ → ℕ) (k : Naming) (homes : ℕ → ℕ) → sight w ≡ sight u → length w.headers ≡ w.config.slots
    → NamesOn w t cmd told v n home k homes → NamesGoOn u v (cmd, told) n k
names_go_on u w v t cmd told n home k homes seen headers (NamesOn.born slot birth place left) =
    NamesGoOn.born slot birth
    (λ taken. let free : slice_index_or w.headers slot 0 ≡ 0 = place.free in let some : 0 < slice_index_or w.headers slot 0 = subst (λ (x : Sight). IsTaken x slot) (sym seen) taken in omega (arith, free, some))
    (born_taken w v slot t cmd told headers birth place left)
names_go_on u w v t cmd told n home k homes seen headers (NamesOn.same unborn) = NamesGoOn.same unborn

-- a step that answers a command, and isn't one of leaving, decides it
decided_so : (u : Core) (t : ℕ) (cmd : Cmd) (told : Told) → IsKept false u → IsMutator u.config t → is_busy (mutator u t) ≡ true → IsStayingIn (mutator u t).phase → work_of (mutator u t) ≡ Some (works.Command cmd)
    → answer_of (mutator (stepped u t) t) ≡ Some (makes.Answered told) → IsDecided u t cmd told (stepped u t)
decided_so u t cmd told kept is busy stays its answer = go (step_says u t kept is busy stays)
  where
    go : Says u t (mutator (stepped u t) t) (stepped u t) → IsDecided u t cmd told (stepped u t)
    go (Says.decided c d work now said staying refused) =
        let same : c ≡ cmd = (let all : ◌≡◌ {A = Option Work} (Some (works.Command c)) (Some (works.Command cmd)) = sym work ∙ its in cc) in
        let so : d ≡ told = (let all : ◌≡◌ {A = Option Made} (Some (makes.Answered d)) (Some (makes.Answered told)) = sym now ∙ answer in cc) in
        subst (λ x. IsDecided u t cmd x (stepped u t)) so (subst (λ x. IsDecided u t x d (stepped u t)) same said)
    go (Says.going none only found) = absurd (let no : ◌≡◌ {A = Option Made} None (Some (makes.Answered told)) = sym none ∙ answer in cc)
    go (Says.holding none phase still epoch) = absurd (let no : ◌≡◌ {A = Option Made} None (Some (makes.Answered told)) = sym none ∙ answer in cc)
    go (Says.stayed none work here only) = absurd (let no : ◌≡◌ {A = Option Made} (Some (makes.Crossed None)) (Some (makes.Answered told)) = sym none ∙ answer in cc)
    go (Says.crossed none work phase still epoch log) = absurd (let no : ◌≡◌ {A = Option Made} (Some (makes.Crossed (Some ((mutator u t).epoch + 1)))) (Some (makes.Answered told)) = sym none ∙ answer in cc)

-- A command made to its end is a run that tells its answer, at its last step, or, where the mutator leaves, at the one before that.
pub commanded_runs : (w v : Core) (t : ℕ) (cmd : Cmd) (told : Told) (n : Naming) → IsKept false w → IsMutator w.config t → is_busy (mutator w t) ≡ false → (mutator w t).left ≡ false
    → IsValid (mutator w t) (works.Command cmd) → HasLabel (works.Command cmd) → IsWorked w t (works.Command cmd) v → answer_of (mutator v t) ≡ Some (makes.Answered told)
    → (k : Naming) × NamesGoOn w v (cmd, told) n k × Runs w v (Event.Answers t (cmd, told) ∷ []) n k
commanded_runs w v t cmd told n kept is idle present valid label done answered =
    let u : Core = done.last in
    let so : WorksOn w u t (works.Command cmd) n = works_on w v t (works.Command cmd) n kept is idle present valid label done in
    let answer : answer_of (mutator (stepped u t) t) ≡ Some (makes.Answered told) = ap (λ (x : Core). answer_of (mutator x t)) (sym done.steps) ∙ answered in
    elim (leaves_or_stays (mutator u t).phase) [
      | inl leaving ↦ absurd (false≢true (sym done.idle ∙ ap (λ (x : Core). is_busy (mutator x t)) done.steps ∙ ap is_busy_at (leaving_parts u t so.kept so.is leaving)))
      | inr (inl parting) ↦
          let silent : IsSilent u t = parting_silent u t so.kept so.is done.busy parting in
          let leave : commands.Leave ≡ cmd = (let all : ◌≡◌ {A = Option Work} (Some (works.Command commands.Leave)) (Some (works.Command cmd)) = sym (ap work_at parting) ∙ so.its in cc) in
          let left : plain answers.Done ≡ told = (let all : ◌≡◌ {A = Option Made} (Some (makes.Answered (plain answers.Done))) (Some (makes.Answered told)) = sym (parting_says u t so.kept so.is parting).answer ∙ answer in cc) in
          let line : List Event = Event.Answers t (commands.Leave, plain answers.Done) ∷ [] in
          let run : Runs w v line n n
          = runs_both w u v line [] n n n (subst (λ es. Runs w u es n n) (ap (told_so_far t) parting) so.run) (runs_unborn u v t n [] so.is done.busy done.steps silent.told silent.made) in
          let P : Cmd → Told → Type 0 = λ c d. (k : Naming) × NamesGoOn w v (c, d) n k × Runs w v (Event.Answers t (c, d) ∷ []) n k in
          subst (λ c. P c told) leave (subst (λ d. P commands.Leave d) left (n, NamesGoOn.same refl, run))
      | inr (inr stays) ↦
          let other : (mutator u t).phase ≡ at.Parting → ⊥ = λ parts. subst IsStayingIn parts stays in
          let (homes, names) = step_names u t cmd told n (λ object. 0) (decided_so u t cmd told so.kept so.is done.busy stays so.its answer) in
          let k : Naming = named_after n u (Move.Steps t) in
          let P : List Event → Type 0 = λ es. Runs u v es n k in
          let tells : events_in n u (Move.Steps t) ≡ Event.Answers t (cmd, told) ∷ []
          = told_as t (mutator u t).phase (work_of (mutator u t)) (answer_of (mutator (stepped u t) t)) stays
          ∙ ap (λ (x : Option Work). answered_by t x (answer_of (mutator (stepped u t) t))) so.its ∙ ap (answered_by t (Some (works.Command cmd))) answer in
          let Q : Core → Type 0 = λ x. NamesGoOn w x (cmd, told) n k in (
            k,
            subst Q (sym done.steps) (names_go_on w u (stepped u t) t cmd told n (λ object. 0) k homes (so.seen other) so.kept.headers names),
            runs_both w u v [] (Event.Answers t (cmd, told) ∷ []) n n k (works_untold so other) (subst P tells (runs_one u v (Move.Steps t) n (so.is, done.busy) done.steps)),
          )
    ]
