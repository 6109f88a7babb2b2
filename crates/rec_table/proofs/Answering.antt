-- The words that a command's steps found tell why it was answered so.
use Rattle.std.proofs.Common.{◌≡◌, ◌↔◌, ℕ, ◌+◌, ◌<◌, ◌==◌, Bool, true, false, true≢false, if◌then◌else◌, List, [], ◌∷◌, ◌++◌, length, Option, Some, None, refl, sym, ap, ◌∙◌, subst, append_assoc, eq-eqb, ne_eqb, arith}
use Rattle.std.specs.Prelude.{fold}
use Rattle.std.proofs.lemmas.List.{length-append, map-append, nil_from_length}
use Rattle.std.proofs.lemmas.List.Sums.{fold-append}
use Rattle.rec_mutator.specs.Private.{command_of}
use Rattle.rec_mutator.proofs.Machines.{passage_left}
use Rattle.rec_table.proofs.Common.{IsAt, IsBetween, IsNoLeave, IsMachine, Private, answer_at, answer_of, is_busy, is_busy_at, limit_of, work_at, work_of, begun_of, moved, spare, step_of, swapped_at, swapped_of, took_at, took_of, learnt, told, saw_all, Beat, Begins, Saw}
use Rattle.rec_word.specs.Header.{header_word}
use Rattle.rec_model.specs.Asking.{allocation}
use Rattle.rec_model.specs.declared.command.Cmd.{Cmd}
use Rattle.rec_model.specs.declared.command.Cmd.TheVariants as commands
use Rattle.rec_model.specs.declared.answer.Answer.TheVariants as answers
use Rattle.rec_model.specs.declared.told.Told.{Told}
use Rattle.rec_mutator.specs.Causes.{AnswersBy, FindsLeaf, FoundNone, FoundNoneAt, HasCause, IsAwaited}
use Rattle.rec_mutator.specs.Scans.{FailsScan, ops_along}
use Rattle.rec_mutator.specs.declared.made.Made.{Made}
use Rattle.rec_mutator.specs.declared.made.Made.TheVariants as makes
use Rattle.rec_mutator.specs.declared.phase.Phase as phases
use Rattle.rec_mutator.specs.declared.phase.Phase.TheVariants as at
use Rattle.rec_mutator.specs.declared.work.Work.{Work}
use Rattle.rec_mutator.specs.declared.work.Work.TheVariants as works
use Rattle.rec_mutator.proofs.Refusals.{answer_cause, same_command}
use Rattle.rec_mutator.proofs.Steps.{TakesNone, here_same}
pub use Rattle.rec_table.specs.Straight.{Path}
use Rattle.rec_table.specs.Answered.{FailsProbes, IsAnswered, IsPolled, worked}
use Rattle.rec_table.specs.declared.start.Start.{Start}
use Rattle.rec_table.proofs.Beats.{told_both}
use Rattle.rec_table.proofs.Making.{learnt_keeps}
use Rattle.rec_mutator.proofs.Straight.{begun_takes_none}

is_poll : Option Work → Bool
is_poll (Some works.Poll) = true
is_poll _ = false

-- so no step of it does
command_takes_none : (p : Private) (cmd : Cmd) → IsBetween p.phase → IsNoLeave (works.Command cmd) → work_of p ≡ Some (works.Command cmd) → TakesNone p.phase
unfolding is_poll
command_takes_none p cmd between no_leave work = by p.phase refl
  where
    no : (phase : phases.Phase) → p.phase ≡ phase → work_at phase ≡ Some works.Poll → ⊥
    no phase is poll = true≢false (sym (ap is_poll (sym work ∙ ap work_at is ∙ poll)))

    stays : (phase : phases.Phase) → p.phase ≡ phase → work_at phase ≡ Some (works.Command commands.Leave) → ⊥
    stays phase is leaves = subst (λ (c : Cmd). IsNoLeave (works.Command c)) (same_command cmd commands.Leave (sym work ∙ ap work_at is ∙ leaves)) no_leave

    by : (phase : phases.Phase) → p.phase ≡ phase → TakesNone p.phase
    by at.Crossing is = absurd (no at.Crossing is refl)
    by at.Swapping is = absurd (no at.Swapping is refl)
    by at.Leaving is = absurd (stays at.Leaving is refl)
    by at.Retiring is = absurd (stays at.Retiring is refl)
    by (at.Passing passage) is = absurd (subst IsBetween is between)
    by _ is = subst TakesNone (sym is) tt

-- a work without an answer isn't finished
pub busy_still : (p : Private) (work : Work) → work_of p ≡ Some work → ((made : Made) → answer_of p ≡ Some made → ⊥) → is_busy p ≡ true
busy_still p work is none = by p.phase refl
  where
    by : (phase : phases.Phase) → p.phase ≡ phase → is_busy p ≡ true
    by at.Idle e = let bad : ◌≡◌ {A = Option Work} None (Some work) = sym (ap work_at e) ∙ is in cc
    by (at.Begun w) e = ap is_busy_at e
    by (at.Scanning reg label leaf b slot) e = ap is_busy_at e
    by (at.Scanned reg label leaf b) e = ap is_busy_at e
    by (at.Storing src f val slot) e = ap is_busy_at e
    by at.Crossing e = ap is_busy_at e
    by at.Swapping e = ap is_busy_at e
    by at.Giving e = ap is_busy_at e
    by at.Leaving e = ap is_busy_at e
    by at.Retiring e = ap is_busy_at e
    by at.Parting e = ap is_busy_at e
    by (at.Passing passage) e = ap is_busy_at e
    by (at.Finished w made) e = absurd (none made (ap answer_at e))

begun_at : (p : Private) (work : Work) (from : ℕ) → (begun_of p work from).phase ≡ at.Begun work
unfolding begun_of
begun_at p work from = refl

pub begun_slots : (p : Private) (work : Work) (from : ℕ) → (begun_of p work from).slots ≡ p.slots
unfolding begun_of
begun_slots p work from = refl

begun_steps : (p : Private) (work : Work) (from : ℕ) → (begun_of p work from).steps ≡ 0
unfolding begun_of
begun_steps p work from = refl

begun_between : (p : Private) (work : Work) (from : ℕ) → IsBetween (begun_of p work from).phase
unfolding begun_of
begun_between p work from = tt

pub path_first : (start : Start) (p q : Private) (log log' : List Beat) (word : ℕ) → log' ≡ log ++ worked start (word ∷ []) → IsMachine (begun_of p start.work start.from) → is_busy (begun_of p start.work start.from) ≡ true → work_of (begun_of p start.work start.from) ≡ Some start.work
    → (begun_of p start.work start.from).slots ≡ p.slots → q ≡ learnt (begun_of p start.work start.from) (Saw word) → q.steps ≡ (begun_of p start.work start.from).steps + 1 → Path start p log log' q
path_first start p q log log' word grows machine busy works_on slots made stepped = record {
  words = [];
  last = word;
  grows = grows;
  before = begun_of p start.work start.from;
  along = refl;
  came = λ cmd is stays. refl;
  machine = machine;
  between = begun_between p start.work start.from;
  busy = busy;
  works_on = works_on;
  slots = slots;
  made = made;
  counted = begun_steps p start.work start.from;
  stepped = stepped;
}

-- failing probes that found these words, and one step more
pub path_on : (start : Start) (p q m r : Private) (log was on now : List Beat) (ws : List ℕ) (word : ℕ) → Path start p log was q → is_busy m ≡ true → work_of m ≡ Some start.work → on ≡ was ++ saw_all ws → m ≡ fold took_of q ws → m ≡ told q (saw_all ws) → now ≡ on ++ Saw word ∷ []
    → IsMachine m → IsBetween m.phase → m.slots ≡ p.slots → r ≡ learnt m (Saw word) → m.steps ≡ q.steps + length ws → r.steps ≡ m.steps + 1 → Path start p log now r
path_on start p q m r log was on now ws word path busy works_on passed came went more machine between slots made probed stepped =
    let first : List ℕ = path.words ++ path.last ∷ [] in
    let last : List Beat = Saw word ∷ [] in
    let beats : worked start first ++ (saw_all ws ++ last) ≡ worked start ((first ++ ws) ++ word ∷ []) =
    ap (λ (l : List Beat). Begins start ∷ l) (sym (append_assoc (saw_all first) (saw_all ws) last) ∙ ap (λ (l : List Beat). l ++ last) (sym (map-append (λ (n : ℕ). Saw n) first ws)) ∙ sym (map-append (λ (n : ℕ). Saw n) (first ++ ws) (word ∷ []))) in
    record {
      words = first ++ ws;
      last = word;
      grows = more ∙ ap (λ (l : List Beat). l ++ last) passed ∙ (λ i. (path.grows i ++ saw_all ws) ++ last) ∙ append_assoc (log ++ worked start first) (saw_all ws) last ∙ append_assoc log (worked start first) (saw_all ws ++ last)
          ∙ ap (λ (l : List Beat). log ++ l) beats;
      before = m;
      along =
          went ∙ ap (λ (x : Private). told x (saw_all ws)) (path.made ∙ ap (λ (x : Private). learnt x (Saw path.last)) path.along ∙ sym (told_both (begun_of p start.work start.from) (saw_all path.words) (Saw path.last ∷ [])))
          ∙ sym (told_both (begun_of p start.work start.from) (saw_all path.words ++ Saw path.last ∷ []) (saw_all ws))
          ∙ ap (told (begun_of p start.work start.from)) (ap (λ (l : List Beat). l ++ saw_all ws) (sym (map-append (λ (n : ℕ). Saw n) path.words (path.last ∷ []))) ∙ sym (map-append (λ (n : ℕ). Saw n) first ws));
      came = λ cmd is stays.
          let none : TakesNone path.before.phase = command_takes_none path.before cmd path.between stays (path.works_on ∙ ap (λ (w : Work). Some w) is) in
          let so_far : q ≡ fold took_of (begun_of p start.work start.from) first = path.made ∙ here_same path.before path.last (spare (took_of path.before path.last)) path.busy none ∙ ap (λ (x : Private). took_of x path.last) (path.came cmd is stays)
          ∙ sym (fold-append took_of (begun_of p start.work start.from) path.words (path.last ∷ [])) in
          came ∙ ap (λ (x : Private). fold took_of x ws) so_far ∙ sym (fold-append took_of (begun_of p start.work start.from) first ws);
      machine = machine;
      between = between;
      busy = busy;
      works_on = works_on;
      slots = slots;
      made = made;
      counted =
          let counted = path.counted in
          let before = path.stepped in
          let one : length first ≡ length path.words + 1 = length-append path.words (path.last ∷ []) in
          let all : length (first ++ ws) ≡ length first + length ws = length-append first ws in
          omega (arith, counted, before, probed, one, all);
      stepped = stepped;
    }

cmd_of : Cmd → Option Work → Cmd
cmd_of d (Some (works.Command cmd)) = cmd
cmd_of d _ = d

-- a scan is over where none was found
scanned_at : (q : Private) (cmd : Cmd) (before : ℕ) → work_of q ≡ Some (works.Command cmd) → FoundNoneAt q.phase before → (reg : ℕ) × (label : ℕ) × (leaf : Bool) × (cmd ≡ allocation leaf reg label)
unfolding cmd_of
scanned_at q cmd before work found = by q.phase refl found
  where
    by : (phase : phases.Phase) → q.phase ≡ phase → FoundNoneAt phase before → (reg : ℕ) × (label : ℕ) × (leaf : Bool) × (cmd ≡ allocation leaf reg label)
    by (at.Scanned reg label leaf b) e f = (reg, label, leaf, ap (cmd_of cmd) (sym work ∙ ap work_at e))
    by _ e f = absurd f

allocation_stays : (leaf : Bool) (reg label : ℕ) → IsNoLeave (works.Command (allocation leaf reg label))
allocation_stays true reg label = tt
allocation_stays false reg label = tt

fails_probes : (p q : Private) (cmd : Cmd) (from before : ℕ) (words : List ℕ) → (IsNoLeave (works.Command cmd) → q ≡ fold took_of (begun_of p (works.Command cmd) from) words) → q.slots ≡ p.slots → work_of q ≡ Some (works.Command cmd) → FoundNone q before
    → FailsProbes p cmd from before words
unfolding begun_of
fails_probes p q cmd from before words came slots work found =
    let (reg, label, leaf, is) = scanned_at q cmd before work found.scanned in
    let stays : IsNoLeave (works.Command cmd) = subst (λ (c : Cmd). IsNoLeave (works.Command c)) (sym is) (allocation_stays leaf reg label) in
    record {
      reg = reg;
      label = label;
      leaf = leaf;
      is = is;
      fails = subst (λ n. FailsScan (header_word leaf label) n from before (ops_along (begun_of p (works.Command cmd) from) words) words) slots
          (found.every (begun_of p (works.Command cmd) from) words (record { reg = reg; label = label; leaf = leaf; begun = begun_at p (works.Command cmd) from ∙ ap (λ (c : Cmd). at.Begun (works.Command c)) is; came = came stays }));
    }

-- a command that goes on has steps left
steps_left : (p : Private) (cmd : Cmd) → IsMachine p → is_busy p ≡ true → work_of p ≡ Some (works.Command cmd) → p.steps < limit_of p.slots (works.Command cmd)
unfolding is_poll cmd_of
steps_left p cmd machine busy work = by p.phase refl machine.now
  where
    no_poll : (phase : phases.Phase) → p.phase ≡ phase → work_at phase ≡ Some works.Poll → ⊥
    no_poll phase is poll = true≢false (sym (ap is_poll (sym work ∙ ap work_at is ∙ poll)))

    some : (cmd : Cmd) → 0 < limit_of p.slots (works.Command cmd)
    some (commands.New reg label) = omega arith
    some _ = omega arith

    -- a work that goes on is this command
    goes_on : (c : Cmd) (steps : ℕ) (phase : phases.Phase) → p.phase ≡ phase → work_at phase ≡ Some (works.Command c) → steps < limit_of p.slots (works.Command c) → steps < limit_of p.slots (works.Command cmd)
    goes_on c steps phase e is lt = subst (λ (c : Cmd). steps < limit_of p.slots (works.Command c)) (sym (ap (cmd_of cmd) (sym work ∙ ap work_at e ∙ is))) lt

    new : (leaf : Bool) (reg label steps : ℕ) → steps < p.slots + 2 → steps < limit_of p.slots (works.Command (allocation leaf reg label))
    new true reg label steps lt = lt
    new false reg label steps lt = lt

    by : (phase : phases.Phase) → p.phase ≡ phase → IsAt p p.phase → p.steps < limit_of p.slots (works.Command cmd)
    by at.Idle e now = absurd (true≢false (sym busy ∙ ap is_busy_at e))
    by (at.Begun w) e now = let none : p.steps ≡ 0 = (subst (IsAt p) e now).1 in let left = some cmd in omega (arith, none, left)
    by (at.Scanning reg label leaf b probed) e now =
        let (scan, low, steps) = subst (IsAt p) e now in goes_on (allocation leaf reg label) p.steps (at.Scanning reg label leaf b probed) e refl (new leaf reg label p.steps (omega (arith, low, steps)))
    by (at.Scanned reg label leaf b) e now = let steps = (subst (IsAt p) e now).1 in goes_on (allocation leaf reg label) p.steps (at.Scanned reg label leaf b) e refl (new leaf reg label p.steps (omega (arith, steps)))
    by (at.Storing src f val slot) e now = let one : p.steps ≡ 1 = (subst (IsAt p) e now).1 in goes_on (commands.Put src f val) p.steps (at.Storing src f val slot) e refl (omega (arith, one))
    by at.Crossing e now = absurd (no_poll at.Crossing e refl)
    by at.Swapping e now = absurd (no_poll at.Swapping e refl)
    by at.Giving e now = absurd (no_poll at.Giving e refl)
    by at.Leaving e now = let one : p.steps ≡ 1 = (subst (IsAt p) e now).0 in goes_on commands.Leave p.steps at.Leaving e refl (omega (arith, one))
    by at.Retiring e now = let two : p.steps ≡ 2 = (subst (IsAt p) e now).0 in goes_on commands.Leave p.steps at.Retiring e refl (omega (arith, two))
    by at.Parting e now = let two : p.steps ≡ 2 = (subst (IsAt p) e now).0 in goes_on commands.Leave p.steps at.Parting e refl (omega (arith, two))
    by (at.Finished w made) e now = absurd (true≢false (sym busy ∙ ap is_busy_at e))
    by (at.Passing passage) e now = goes_on (command_of passage) p.steps (at.Passing passage) e refl (passage_left p passage (subst (IsAt p) e now).steps)

-- a leaf is found by the first step
finds_first : (q : Private) (cmd : Cmd) (word : ℕ) → IsMachine q → FindsLeaf q word cmd → q.steps ≡ 0
finds_first q (commands.Put src f val) word machine found = (subst (IsAt q) found.0 machine.now).1
finds_first q _ word machine found = absurd found

-- and so is the own crossing word by which a mutator may not leave yet
awaits_first : (q : Private) (cmd : Cmd) (word : ℕ) → IsMachine q → IsAwaited q word cmd → q.steps ≡ 0
awaits_first q commands.Leave word machine awaited = (subst (IsAt q) awaited.0 machine.now).1
awaits_first q _ word machine awaited = absurd awaited

-- so what holds just of a record that has made no step is told by the only step
only_first : (p q : Private) (work : Work) (from : ℕ) (words : List ℕ) (Said : Type 0) (IsSo : Private → Type 0) → q.steps ≡ length words → q ≡ told (begun_of p work from) (saw_all words) → (IsSo q → q.steps ≡ 0) → Said ↔ IsSo q → Said ↔ ((words ≡ []) × IsSo (begun_of p work from))
only_first p q work from words Said IsSo counted along first cause =
    let its : words ≡ [] → q ≡ begun_of p work from = λ none. along ∙ ap (λ (ws : List ℕ). told (begun_of p work from) (saw_all ws)) none in (
      (λ is.
          let found : IsSo q = cause.0 is in
          let none : words ≡ [] = nil_from_length words (sym counted ∙ first found) in
          (none, subst IsSo (its none) found)),
      (λ (none, found). cause.1 (subst IsSo (sym (its none)) found)),
    )

pub answered : (p q : Private) (cmd : Cmd) (from : ℕ) (log log' : List Beat) (told : Told) → Path (record { work = works.Command cmd; from = from }) p log log' q → answer_of q ≡ Some (makes.Answered told) → IsAnswered p cmd log log' q told
answered p q cmd from log log' told path answer =
    let pre : Private = path.before in
    let by : AnswersBy pre path.last (spare (took_of pre path.last)) cmd told = record { busy = path.busy; between = path.between; work = path.works_on; answer = ap answer_of (sym path.made) ∙ answer } in
    let cause : HasCause pre (learnt pre (Saw path.last)) cmd path.last told.answer = answer_cause pre path.last (spare (took_of pre path.last)) cmd told path.machine by in
    record {
      from = from;
      words = path.words;
      last = path.last;
      grows = path.grows;
      few =
          let left : pre.steps < limit_of p.slots (works.Command cmd) = subst (λ n. pre.steps < limit_of n (works.Command cmd)) path.slots (steps_left pre cmd path.machine path.busy path.works_on) in
          let counted = path.counted in
          omega (arith, left, counted);
      cause = subst (λ (y : Private × Private). HasCause y.0 y.1 cmd path.last told.answer) (λ i. (path.along i, sym path.made i)) cause;
      no_field = only_first p pre (works.Command cmd) from path.words (told.answer ≡ answers.NoField) (λ r. FindsLeaf r path.last cmd) path.counted path.along (finds_first pre cmd path.last path.machine) cause.no_field;
      not_yet = only_first p pre (works.Command cmd) from path.words (told.answer ≡ answers.NotYet) (λ r. IsAwaited r path.last cmd) path.counted path.along (awaits_first pre cmd path.last path.machine) cause.not_yet;
      full = λ is. let (before, found, still) = cause.full.0 is in (before, fails_probes p pre cmd from before path.words (path.came cmd refl) path.slots path.works_on found, still);
      busy = λ before after is. let (found, same, still) = (cause.busy before after).0 is in (fails_probes p pre cmd from before path.words (path.came cmd refl) path.slots path.works_on found, same, still);
    }

-- what a poll comes to with its first step, by whether it found the own epoch
abbrev looked : Private → (from : ℕ) → Bool → Private
looked p from own = moved (begun_of p works.Poll from) (if own then at.Finished works.Poll (makes.Crossed None) else at.Crossing)

looked_takes : (p : Private) (from word : ℕ) → took_of (begun_of p works.Poll from) word ≡ looked p from (word == p.epoch)
unfolding begun_of took_of took_at
looked_takes p from word = refl

looks : (p : Private) (from word : ℕ) → is_busy (begun_of p works.Poll from) ≡ true → learnt (begun_of p works.Poll from) (Saw word) ≡ looked p from (word == p.epoch)
looks p from word busy = here_same (begun_of p works.Poll from) word (spare (took_of (begun_of p works.Poll from) word)) busy (begun_takes_none p works.Poll from) ∙ looked_takes p from word

-- a second step is made only where the mutator crosses, and keeps the epoch
looked_again : (p : Private) (from word : ℕ) (own : Bool) → (learnt (looked p from own) (Saw word)).phase ≡ at.Giving → (own ≡ false) × ((learnt (looked p from own) (Saw word)).epoch ≡ p.epoch)
unfolding step_of swapped_of swapped_at took_of took_at begun_of
looked_again p from word true is = let bad : ◌≡◌ {A = Bool} false true = ap is_busy_at is in absurd (true≢false (sym bad))
looked_again p from word false is = (refl, refl)

-- what is answered by the step after a phase
abbrev answered_at : Private → (word : ℕ) → phases.Phase → Option Made
answered_at p word phase = answer_of (swapped_of (took_at p word phase) (spare (took_at p word phase)))

answers_at : (p : Private) (word : ℕ) (phase : phases.Phase) → p.phase ≡ phase → answer_of (learnt p (Saw word)) ≡ answered_at p word phase
unfolding step_of took_of
answers_at p word phase is = ap (answered_at p word) is

crossed_in : Option Made → Option ℕ
crossed_in (Some (makes.Crossed epoch)) = epoch
crossed_in _ = None

same_result : (a b : Option ℕ) → ◌≡◌ {A = Option Made} (Some (makes.Crossed a)) (Some (makes.Crossed b)) → a ≡ b
unfolding crossed_in
same_result a b is = ap crossed_in is

two_words : (words : List ℕ) → length words ≡ 2 → (first : ℕ) × (second : ℕ) × (words ≡ first ∷ second ∷ [])
two_words [] is = absurd (omega (arith, is))
two_words (a ∷ []) is = absurd (omega (arith, is))
two_words (a ∷ b ∷ []) is = (a, b, refl)
two_words (a ∷ b ∷ c ∷ ds) is = absurd (omega (arith, is))

-- why a poll answers so
pub polled : (p q : Private) (from : ℕ) (log log' : List Beat) (result : Option ℕ) → Path (record { work = works.Poll; from = from }) p log log' q → is_busy (begun_of p works.Poll from) ≡ true → answer_of q ≡ Some (makes.Crossed result) → IsPolled p log log' result
unfolding is_poll swapped_of swapped_at took_at
polled p q from log log' result path begun answer = by path.before.phase refl path.machine.now
  where
    told_so : answer_of (learnt path.before (Saw path.last)) ≡ Some (makes.Crossed result)
    told_so = ap answer_of (sym path.made) ∙ answer

    no_command : (phase : phases.Phase) → path.before.phase ≡ phase → is_poll (work_at phase) ≡ false → ⊥
    no_command phase is other = true≢false (ap is_poll (sym path.works_on) ∙ ap (λ (f : phases.Phase). is_poll (work_at f)) is ∙ other)

    not_told : answer_of (learnt path.before (Saw path.last)) ≡ None → ⊥
    not_told none = let bad : ◌≡◌ {A = Option Made} None (Some (makes.Crossed result)) = sym none ∙ told_so in cc

    -- one step
    at_once : path.words ≡ [] → IsPolled p log log' result
    at_once none =
        let is : path.before ≡ begun_of p works.Poll from = path.along ∙ ap (λ (ws : List ℕ). told (begun_of p works.Poll from) (saw_all ws)) none in
        let after : learnt path.before (Saw path.last) ≡ looked p from (path.last == p.epoch) = ap (λ (x : Private). learnt x (Saw path.last)) is ∙ looks p from path.last begun in
        let said : answer_of (looked p from (path.last == p.epoch)) ≡ Some (makes.Crossed result) = ap answer_of (sym after) ∙ told_so in
        record {
          from = from;
          requested = path.last;
          crossing = [];
          grows = path.grows ∙ ap (λ (ws : List ℕ). log ++ worked (record { work = works.Poll; from = from }) (ws ++ path.last ∷ [])) none;
          none = λ own. (refl, same_result result None (sym said ∙ ap (λ (b : Bool). answer_of (looked p from b)) (eq-eqb path.last p.epoch own)));
          some = λ other. let bad : ◌≡◌ {A = Option Made} None (Some (makes.Crossed result)) = sym (ap (λ (b : Bool). answer_of (looked p from b)) (ne_eqb path.last p.epoch other)) ∙ said in absurd (cc);
        }

    -- three steps
    across : path.before.phase ≡ at.Giving → path.before.steps ≡ 2 → IsPolled p log log' result
    across giving two =
        let counted = path.counted in
        let (first, second, are) = two_words path.words (omega (arith, counted, two)) in
        let went : path.before ≡ learnt (looked p from (first == p.epoch)) (Saw second) =
        path.along ∙ ap (λ (ws : List ℕ). told (begun_of p works.Poll from) (saw_all ws)) are ∙ ap (λ (x : Private). learnt x (Saw second)) (looks p from first begun) in
        let crosses = looked_again p from second (first == p.epoch) (ap (λ (x : Private). x.phase) (sym went) ∙ giving) in
        let epoch : path.before.epoch ≡ p.epoch = ap (λ (x : Private). x.epoch) went ∙ crosses.1 in
        record {
          from = from;
          requested = first;
          crossing = second ∷ path.last ∷ [];
          grows = path.grows ∙ ap (λ (ws : List ℕ). log ++ worked (record { work = works.Poll; from = from }) (ws ++ path.last ∷ [])) are;
          none = λ own. absurd (true≢false (sym (eq-eqb first p.epoch own) ∙ crosses.0));
          some = λ other. (refl, same_result result (Some (p.epoch + 1)) (sym told_so ∙ answers_at path.before path.last at.Giving giving ∙ ap (λ n. Some (makes.Crossed (Some (n + 1)))) epoch));
        }

    by : (phase : phases.Phase) → path.before.phase ≡ phase → IsAt path.before path.before.phase → IsPolled p log log' result
    by at.Idle e now = absurd (true≢false (sym path.busy ∙ ap is_busy_at e))
    by (at.Begun w) e now = at_once (nil_from_length path.words (sym path.counted ∙ (subst (IsAt path.before) e now).1))
    by (at.Scanning reg label leaf b probed) e now = absurd (no_command (at.Scanning reg label leaf b probed) e refl)
    by (at.Scanned reg label leaf b) e now = absurd (no_command (at.Scanned reg label leaf b) e refl)
    by (at.Storing src f val slot) e now = absurd (no_command (at.Storing src f val slot) e refl)
    by at.Crossing e now = absurd (not_told (answers_at path.before path.last at.Crossing e))
    by at.Swapping e now = absurd (not_told (answers_at path.before path.last at.Swapping e))
    by at.Giving e now = across e (subst (IsAt path.before) e now).0
    by at.Leaving e now = absurd (no_command at.Leaving e refl)
    by at.Retiring e now = absurd (no_command at.Retiring e refl)
    by at.Parting e now = absurd (no_command at.Parting e refl)
    by (at.Finished w made) e now = absurd (true≢false (sym path.busy ∙ ap is_busy_at e))
    by (at.Passing passage) e now = absurd (no_command (at.Passing passage) e refl)

-- the heap has as many slots for it still
pub path_slots : (start : Start) (p q : Private) (log log' : List Beat) → Path start p log log' q → q.slots ≡ p.slots
path_slots start p q log log' path = ap (λ (x : Private). x.slots) path.made ∙ (learnt_keeps path.before path.last path.busy path.between).0.slots ∙ path.slots
