-- A command lets a mutator leave just where it is to leave, and that is done.
use Rattle.std.proofs.Common.{◌≡◌, ◌≢◌, ℕ, ◌+◌, if◌then◌else◌, Bool, true, false, true≢false, List, [], ◌∷◌, length, replicate, Option, None, Some, refl, sym, ap, ◌∙◌, subst}
use Rattle.rec_table.proofs.Common.{IsBetween, Private, answer_of, gives_back, is_busy, is_busy_at, work_at, work_of, begun_of, spare, took_at, took_of, learnt, told, saw_all, Beat, Saw}
use Rattle.rec_model.specs.Asking.{allocation, plain}
use Rattle.rec_model.specs.declared.answer.Answer.{Answer}
use Rattle.rec_model.specs.declared.answer.Answer.TheVariants as answers
use Rattle.rec_model.specs.declared.command.Cmd.{Cmd}
use Rattle.rec_model.specs.declared.command.Cmd.TheVariants as commands
use Rattle.rec_model.specs.declared.told.Told.{Told}
use Rattle.rec_mutator.specs.Next.{next_of}
use Rattle.rec_mutator.specs.Step.{Step}
use Rattle.rec_mutator.specs.Took.{answered, is_uncollected, leaving_by, nulls_of}
use Rattle.rec_mutator.specs.declared.made.Made.{Made}
use Rattle.rec_mutator.specs.declared.made.Made.TheVariants as makes
use Rattle.rec_mutator.specs.declared.phase.Phase.{Phase}
use Rattle.rec_mutator.specs.declared.phase.Phase.TheVariants as at
use Rattle.rec_mutator.specs.declared.work.Work.{Work}
use Rattle.rec_mutator.specs.declared.work.Work.TheVariants as works
use Rattle.rec_mutator.proofs.Leaving.{parts_from}
use Rattle.rec_mutator.proofs.Polls.{poll_has_cause}
use Rattle.rec_mutator.proofs.Refusals.{same_command, same_told}
use Rattle.rec_mutator.proofs.Sizes.{step_left}
use Rattle.rec_mutator.proofs.Steps.{TakesNone, here_same, step_made}
use Rattle.rec_core.proofs.Leaving.{leaves_at_last, lets_go}
use Rattle.rec_world.specs.World.{epoch_after, is_leave_done}
use Rattle.rec_table.specs.Answered.{Leaves}
use Rattle.rec_table.specs.declared.start.Start.{Start}
use Rattle.rec_table.proofs.Answering.{Path}
use Rattle.rec_table.proofs.Boxes.{back_ends, gives_none}
use Rattle.rec_table.proofs.Lines.{busy_before}
use Rattle.rec_table.proofs.Making.{learnt_between, learnt_keeps}

-- so many null registers
abbrev nulls : ℕ → List (Option ℕ)
nulls n = replicate n None

-- What a work leaves of a mutator as long as it goes on: the mutator hasn't left by it, and is in its own epoch still; and where it holds
-- its mailbox to leave, its registers are null.
record Keeps (p q : Private) : Type 0 where
  left : q.left ≡ p.left
  epoch : q.epoch ≡ p.epoch
  many : length q.registers ≡ length p.registers
  null : q.phase ≡ at.Parting → q.registers ≡ nulls_of q

-- the epoch stays but by a step that gives the mailbox back
epoch_kept : (p : Private) (word : ℕ) → is_busy p ≡ true → IsBetween p.phase → gives_back p.phase ≡ false → (learnt p (Saw word)).epoch ≡ p.epoch
epoch_kept p word busy between here = (poll_has_cause p word (spare (took_of p word)) busy between).epoch ∙ ap (λ (b : Bool). if b then p.epoch + 1 else p.epoch) here

-- a step after which the work goes on
step_keeps : (p : Private) (word : ℕ) → IsBetween p.phase → is_busy p ≡ true → is_busy (learnt p (Saw word)) ≡ true → Keeps p (learnt p (Saw word))
step_keeps p word between busy goes = record {
  left = step_left (λ parts. true≢false (sym (ap gives_back parts) ∙ here)) step;
  epoch = epoch_kept p word busy between here;
  many = many;
  null = λ parts. ap (λ (x : Private). x.registers) (lets_go p word (spare (took_of p word)) (parts_from step parts)).after ∙ ap nulls (sym many);
}
  where
    q : Private
    q = learnt p (Saw word)

    step : Step p word (spare (took_of p word)) (next_of p) q
    step = step_made p word (spare (took_of p word)) busy between

    many : length q.registers ≡ length p.registers
    many = (learnt_keeps p word busy between).0.registers

    here : gives_back p.phase ≡ false
    here = by (gives_back p.phase) refl
      where
        by : (b : Bool) → gives_back p.phase ≡ b → b ≡ false
        by true gives = absurd (true≢false (sym goes ∙ ap is_busy (here_same p word (spare (took_of p word)) busy (gives_none p.phase gives)) ∙ back_ends p word gives))
        by false gives = refl

-- and any number of steps
steps_keep : (p : Private) (words : List ℕ) → IsBetween p.phase → (p.phase ≡ at.Parting → p.registers ≡ nulls_of p) → is_busy (told p (saw_all words)) ≡ true → Keeps p (told p (saw_all words))
steps_keep p [] between null busy = record { left = refl; epoch = refl; many = refl; null = null }
steps_keep p (word ∷ words) between null busy =
    let q : Private = learnt p (Saw word) in
    let works_on : is_busy p ≡ true = busy_before p (word ∷ words) busy in
    let first : Keeps p q = step_keeps p word between works_on (busy_before q words busy) in
    let rest : Keeps q (told q (saw_all words)) = steps_keep q words (learnt_between p word works_on between) first.null busy in
    record { left = rest.left ∙ first.left; epoch = rest.epoch ∙ first.epoch; many = rest.many ∙ first.many; null = rest.null }

-- so it is before the last step
path_keeps : (start : Start) (p q : Private) (log log' : List Beat) → (path : Path start p log log' q) → Keeps p path.before
unfolding begun_of
path_keeps start p q log log' path =
    let first : Private = begun_of p start.work start.from in
    let all : Keeps first path.before = subst (Keeps first) (sym path.along) (steps_keep first path.words tt (λ parts. let no : at.Begun start.work ≡ at.Parting = parts in (cc)) (ap is_busy (sym path.along) ∙ path.busy)) in
    record { left = all.left; epoch = all.epoch; many = all.many; null = all.null }

-- a work doesn't let it leave whose last step isn't the one of that
left_stays : (start : Start) (p q : Private) (log log' : List Beat) → (path : Path start p log log' q) → path.before.phase ≢ at.Parting → q.left ≡ p.left
left_stays start p q log log' path other =
    ap (λ (x : Private). x.left) path.made ∙ step_left other (step_made path.before path.last (spare (took_of path.before path.last)) path.busy path.between) ∙ (path_keeps start p q log log' path).left

-- a poll doesn't
pub poll_stays : (p q : Private) (from : ℕ) (log log' : List Beat) → Path (record { work = works.Poll; from = from }) p log log' q → q.left ≡ p.left
poll_stays p q from log log' path =
    left_stays (record { work = works.Poll; from = from }) p q log log' path
    (λ parts. let no : ◌≡◌ {A = Option Work} (Some (works.Command commands.Leave)) (Some works.Poll) = sym (ap work_at parts) ∙ path.works_on in (cc))

-- an allocation doesn't leave
no_allocation : (leaf : Bool) (reg label : ℕ) → ◌≡◌ {A = Option Work} (Some (works.Command (allocation leaf reg label))) (Some (works.Command commands.Leave)) → ⊥
no_allocation true reg label e = cc
no_allocation false reg label e = cc

-- where the first step of leaving answers, that is refused
refused_by : (p : Private) (told : Told) (uncollected : Bool) → answer_of (leaving_by p uncollected) ≡ Some (makes.Answered told) → told.answer ≡ answers.NotYet
refused_by p told true answer = ap (λ (t : Told). t.answer) (sym (same_told (plain answers.NotYet) told answer))
refused_by p told false answer = let no : ◌≡◌ {A = Option Made} None (Some (makes.Answered told)) = answer in (cc)

-- and no step but the last one answers then
refused : (p : Private) (word : ℕ) (told : Told) → IsBetween p.phase → is_busy p ≡ true → p.phase ≢ at.Parting → work_of p ≡ Some (works.Command commands.Leave) → answer_of (learnt p (Saw word)) ≡ Some (makes.Answered told)
    → told.answer ≡ answers.NotYet
unfolding took_of took_at
refused p word told between busy other work answer = by p.phase refl
  where
    its : (phase : Phase) → p.phase ≡ phase → work_at phase ≡ Some (works.Command commands.Leave)
    its phase e = sym (ap work_at e) ∙ work

    by : (phase : Phase) → p.phase ≡ phase → told.answer ≡ answers.NotYet
    by at.Idle e = absurd (true≢false (sym busy ∙ ap is_busy_at e))
    by (at.Begun begun) e =
        let same : ◌≡◌ {A = Option Work} (Some begun) (Some (works.Command commands.Leave)) = its (at.Begun begun) e in
        let is : begun ≡ works.Command commands.Leave = cc in
        let first : p.phase ≡ at.Begun (works.Command commands.Leave) = e ∙ ap (λ (w : Work). at.Begun w) is in
        let took : learnt p (Saw word) ≡ leaving_by p (is_uncollected word) = here_same p word (spare (took_of p word)) busy (subst TakesNone (sym first) tt) ∙ ap (took_at p word) first in
        refused_by p told (is_uncollected word) (ap answer_of (sym took) ∙ answer)
    by (at.Scanning reg label leaf before probed) e = absurd (no_allocation leaf reg label (its (at.Scanning reg label leaf before probed) e))
    by (at.Scanned reg label leaf before) e = absurd (no_allocation leaf reg label (its (at.Scanned reg label leaf before) e))
    by (at.Storing src f val slot) e = let no : ◌≡◌ {A = Option Work} (Some (works.Command (commands.Put src f val))) (Some (works.Command commands.Leave)) = its (at.Storing src f val slot) e in (cc)
    by at.Crossing e = let no : ◌≡◌ {A = Option Work} (Some works.Poll) (Some (works.Command commands.Leave)) = its at.Crossing e in (cc)
    by at.Swapping e = absurd (subst IsBetween e between)
    by at.Giving e = let no : ◌≡◌ {A = Option Work} (Some works.Poll) (Some (works.Command commands.Leave)) = its at.Giving e in (cc)
    by at.Leaving e = let no : ◌≡◌ {A = Option Made} None (Some (makes.Answered told)) = sym (ap answer_of (lets_go p word (spare (took_of p word)) e).after) ∙ answer in (cc)
    by at.Retiring e = absurd (subst IsBetween e between)
    by (at.Passing passage) e = absurd (subst IsBetween e between)
    by at.Parting e = absurd (other e)
    by (at.Finished done made) e = absurd (true≢false (sym busy ∙ ap is_busy_at e))

-- where it isn't to leave, or that is refused, it isn't done
none_done : (cmd : Cmd) (answer : Answer) → (cmd ≡ commands.Leave → answer ≡ answers.NotYet) → is_leave_done cmd answer ≡ false
none_done commands.Leave answers.Done not_yet = let no : answers.Done ≡ answers.NotYet = not_yet refl in (cc)
none_done _ _ not_yet = refl

-- and the epoch stays
epoch_stays : (cmd : Cmd) (answer : Answer) (before : ℕ) → is_leave_done cmd answer ≡ false → before ≡ epoch_after cmd answer before
epoch_stays commands.Leave answers.Done before none = absurd (true≢false none)
epoch_stays _ _ before none = refl

-- a command gives no mailbox back but at the end of leaving
command_gives_none : (phase : Phase) (cmd : Cmd) → work_at phase ≡ Some (works.Command cmd) → phase ≢ at.Parting → gives_back phase ≡ false
command_gives_none at.Giving cmd work other = let no : ◌≡◌ {A = Option Work} (Some works.Poll) (Some (works.Command cmd)) = work in (cc)
command_gives_none at.Parting cmd work other = absurd (other refl)
command_gives_none _ cmd work other = refl

pub leaves : (p q : Private) (cmd : Cmd) (from : ℕ) (log log' : List Beat) (told : Told) → p.left ≡ false → Path (record { work = works.Command cmd; from = from }) p log log' q → answer_of q ≡ Some (makes.Answered told) → Leaves p cmd told q
leaves p q cmd from log log' told present path answer = by path.before.phase refl
  where
    start : Start
    start = record { work = works.Command cmd; from = from }

    pre : Private
    pre = path.before

    kept : Keeps p pre
    kept = path_keeps start p q log log' path

    -- its last step is the one by which a mutator has left
    parted : pre.phase ≡ at.Parting → Leaves p cmd told q
    parted parts =
        let after : q ≡ answered (record pre { epoch = pre.epoch + 1; left = true }) commands.Leave (plain answers.Done) = path.made ∙ (leaves_at_last pre path.last (spare (took_of pre path.last)) parts).after in
        let cmds : commands.Leave ≡ cmd = same_command commands.Leave cmd (sym (ap work_at parts) ∙ path.works_on) in
        let tolds : plain answers.Done ≡ told = same_told (plain answers.Done) told (sym (ap answer_of after) ∙ answer) in
        subst (λ (y : Cmd × Told). Leaves p y.0 y.1 q) (λ i. (cmds i, tolds i)) (record {
          left = ap (λ (x : Private). x.left) after;
          epoch = ap (λ (x : Private). x.epoch) after ∙ ap (λ (n : ℕ). n + 1) kept.epoch;
          registers = λ done. ap (λ (x : Private). x.registers) after ∙ kept.null parts ∙ ap nulls kept.many;
        })

    -- or it isn't
    stayed : pre.phase ≢ at.Parting → Leaves p cmd told q
    stayed other =
        let not_yet : cmd ≡ commands.Leave → told.answer ≡ answers.NotYet
        = λ is. refused pre path.last told path.between path.busy other (path.works_on ∙ ap (λ (c : Cmd). Some (works.Command c)) is) (ap answer_of (sym path.made) ∙ answer) in
        let none : is_leave_done cmd told.answer ≡ false = none_done cmd told.answer not_yet in
        let here : gives_back pre.phase ≡ false = command_gives_none pre.phase cmd path.works_on other in
        record {
          left = left_stays start p q log log' path other ∙ present ∙ sym none;
          epoch = ap (λ (x : Private). x.epoch) path.made ∙ epoch_kept pre path.last path.busy path.between here ∙ kept.epoch ∙ epoch_stays cmd told.answer p.epoch none;
          registers = λ done. absurd (true≢false (sym done ∙ none));
        }

    by : (phase : Phase) → pre.phase ≡ phase → Leaves p cmd told q
    by at.Parting is = parted is
    by _ is = stayed (λ parts. let no = sym is ∙ parts in (cc))
