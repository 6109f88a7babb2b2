-- What a command and a poll are told, from what their steps say.
use Rattle.std.proofs.Common.{◌≡◌, ◌≢◌, ◌↔◌, inl, inr, ℕ, ◌+◌, ◌%◌, ◌<◌, ◌≤◌, ◌&&◌, if◌then◌else◌, Bool, Option, None, Some, IfSome, true, false, List, length, slice_index_or, refl, sym, ap, subst, ◌∙◌, arith, add-zero}
use Rattle.std.proofs.lemmas.Bool.{false≢true}
use Rattle.rec_world.proofs.Common.{Contents, next_of, next_at, Private, IsAt, is_busy, work_of, work_at, answer_of, answer_at, probe_of, step_of, cell, IsMutator, Core, cells_of, box, sight, mutator, log_length, begun, stepped, found_by, WritesLeaf, AwaitsCollector, FindsNone, IsFull, IsBusy, IsLowestFree, Refuses, Changes, Stays, IsFinished, IsPolled, epoch_after, is_leave_done}
use Rattle.rec_word.specs.Header.{is_leaf}
use Rattle.rec_word.specs.Word.{stamp_of}
use Rattle.rec_model.specs.Asking.{is_done, plain, refuses_new, allocation}
use Rattle.rec_model.specs.Explained.{IsExplained}
use Rattle.rec_model.specs.LegalOrder.{is_new, is_birth, word_left}
use Rattle.rec_model.specs.Sight.{Sight, IsTaken}
use Rattle.rec_model.specs.declared.answer.Answer.{Answer}
use Rattle.rec_model.specs.declared.answer.Answer.TheVariants as answers
use Rattle.rec_model.specs.declared.command.Cmd.{Cmd}
use Rattle.rec_model.specs.declared.command.Cmd.TheVariants as commands
use Rattle.rec_model.specs.declared.told.Told.{Told}
use Rattle.rec_model.proofs.Answered.{leave_explained}
use Rattle.rec_mutator.specs.Causes.{HasCause, LacksObject, MakesEntry, FoundNone, FoundNoneAt, gives_back, is_refusal}
use Rattle.rec_mutator.specs.Step.{IsLogFull as IsLogFullOf, IsUncollected}
use Rattle.rec_mutator.specs.declared.made.Made.{Made}
use Rattle.rec_mutator.specs.declared.made.Made.TheVariants as makes
use Rattle.rec_mutator.specs.declared.phase.Phase.{Phase}
use Rattle.rec_mutator.specs.declared.phase.Phase.TheVariants.{Begun, Scanning, Scanned, Giving, Parting}
use Rattle.rec_mutator.specs.declared.work.Work.{Work}
use Rattle.rec_mutator.specs.declared.work.Work.TheVariants as works
use Rattle.rec_mutator.proofs.Polls.{poll_has_cause}
use Rattle.rec_mutator.proofs.Refusals.{same_command, same_told}
use Rattle.rec_mutator.proofs.Sizes.{step_left}
use Rattle.rec_core.specs.Core.{crossing_of}
use Rattle.rec_core.specs.Kept.{IsKept}
use Rattle.rec_core.specs.StepAnswers.{may_answer, sight_told, probed_at, IsBirthplace, IsDecided, entries_after}
use Rattle.rec_core.specs.Unfinished.{OnlyWorks, IsQuiet, HasFound, HasLetGo, Waits}
use Rattle.rec_core.specs.declared.config.Config.{Config}
use Rattle.rec_core.proofs.Crossings.{giving_of}
use Rattle.rec_core.proofs.Leaving.{IsStayingIn, leaves_or_stays, polls_stay}
use Rattle.rec_core.proofs.Showing.{IsStaying, Parts, Says, mutator_other, stepped_mutator, step_says, leaving_says, parting_says, step_caused, works_sight, in_order}
use Rattle.rec_core.proofs.Steps.{actor_of, stays_here}
use Rattle.rec_core.proofs.Unfinished.{works_both, works_quiet, works_let_go, quiet_both, begun_works, waits_quiet, mutator_there, waits_epoch, answered_idle, its_step}
use Rattle.rec_world.proofs.Awaiting.{awaits_collector, home_collected}
use Rattle.rec_world.proofs.Calls.{begun_takes_none}
use Rattle.rec_world.proofs.IntoLeaves.{allocates, into_leaf}

-- A step that answers a command, and isn't one of leaving, in a heap in which nothing else moved since its begin.
record Answering (w : Core) (t : ℕ) (cmd : Cmd) (told : Told) (v : Core) : Type 0 where
  pub kept : IsKept false w
  pub is : IsMutator w.config t
  pub busy : is_busy (mutator w t) ≡ true
  pub work : work_of (mutator w t) ≡ Some (works.Command cmd)
  pub found : HasFound w (mutator w t).from (mutator w t).phase
  pub stays : IsStayingIn (mutator w t).phase
  pub said : IsDecided w t cmd told v
  pub staying : IsStaying cmd told.answer
  pub cause : HasCause (mutator w t) (mutator v t) cmd (found_by w t) told.answer
  pub refused : is_refusal told.answer ≡ true → OnlyWorks w v t

-- the last step of an allocation's scan finds the freed word
scanned_finds : (w : Core) (t reg label : ℕ) (leaf : Bool) (before : ℕ) → (mutator w t).phase ≡ Scanned reg label leaf before → found_by w t ≡ w.freed
unfolding next_of next_at
scanned_finds w t reg label leaf before is = ap (cell (cells_of w)) (ap (next_at (mutator w t)) is)

-- where every probe failed, the freed word found before is the one found now
record FoundFilled (w : Core) (t : ℕ) (cmd : Cmd) (before : ℕ) : Type 0 where
  pub none : FindsNone w t cmd
  pub first : before ≡ w.freed
  pub last : found_by w t ≡ w.freed

found_filled : {w : Core} {t : ℕ} {cmd : Cmd} {told : Told} {v : Core} (before : ℕ) → Answering w t cmd told v → FoundNone (mutator w t) before → FoundFilled w t cmd before
found_filled {w = w} {t = t} {cmd = cmd} before a none = go (mutator w t).phase refl (actor_of w t a.kept a.is).own.machine.now a.work a.found none.scanned
  where
    go : (phase : Phase) → (mutator w t).phase ≡ phase → IsAt (mutator w t) phase → work_at phase ≡ Some (works.Command cmd) → HasFound w (mutator w t).from phase → FoundNoneAt phase before → FoundFilled w t cmd before
    go (Scanned reg label leaf first) its at work found none =
        let p : Private = mutator w t in
        let room : length p.log.entries < p.log.capacity = at.0.room in
        let capacity : p.log.capacity ≡ w.config.log_entries = (actor_of w t a.kept a.is).own.capacity in
        record {
          none = record { new = ap is_new (sym (same_command (allocation leaf reg label) cmd work)) ∙ allocates reg label leaf; room = omega arith; filled = found.1 };
          first = sym none ∙ found.0;
          last = scanned_finds w t reg label leaf first its;
        }
    go _ its at work found none = absurd none

-- an allocation is done, or refused for one of three causes
data IsOfNew (answer : Answer) : Type 0 where
  new_done : answer ≡ answers.Done → IsOfNew answer
  new_log_full : answer ≡ answers.LogFull → IsOfNew answer
  new_full : answer ≡ answers.Full → IsOfNew answer
  new_busy : (before after : ℕ) → answer ≡ answers.Busy before after → IsOfNew answer

answer_of_new : (answer : Answer) → (if is_done answer then true else refuses_new answer) ≡ true → IsOfNew answer
answer_of_new answers.Done may = IsOfNew.new_done refl
answer_of_new answers.Full may = IsOfNew.new_full refl
answer_of_new (answers.Busy before after) may = IsOfNew.new_busy before after refl
answer_of_new answers.LogFull may = IsOfNew.new_log_full refl
answer_of_new _ may = absurd (false≢true may)

new_answered : (cmd : Cmd) (answer : Answer) → is_new cmd ≡ true → may_answer cmd answer ≡ true → IsOfNew answer
new_answered (commands.New reg label) answer new may = answer_of_new answer may
new_answered (commands.Leaf reg label) answer new may = answer_of_new answer may
new_answered _ answer new may = absurd (false≢true new)

-- where every slot is taken, no object is born
not_done : {w : Core} {t : ℕ} {cmd : Cmd} {told : Told} {v : Core} → Answering w t cmd told v → FindsNone w t cmd → told.answer ≡ answers.Done → ⊥
not_done {w = w} {t = t} {cmd = cmd} {told = told} a none done =
    let (slot, leaves) = a.said.leaves in
    let born : is_birth (cmd, told) ≡ true = ap (λ (b : Bool). b && is_done told.answer) none.new ∙ ap is_done done in
    let place : IsBirthplace w t slot = leaves.birth born in
    let free : slice_index_or w.headers slot 0 ≡ 0 = place.free in
    let taken : 0 < slice_index_or w.headers slot 0 = none.filled slot place.there in
    omega arith

-- where the log has room, it isn't full
not_log_full : {w : Core} {t : ℕ} {cmd : Cmd} {told : Told} {v : Core} → Answering w t cmd told v → FindsNone w t cmd → told.answer ≡ answers.LogFull → ⊥
not_log_full {w = w} {t = t} a none is =
    let all : log_length w t ≡ (mutator w t).log.capacity = (a.cause.log_full.0 is).0 in
    let room : log_length w t < w.config.log_entries = none.room in
    let capacity : (mutator w t).log.capacity ≡ w.config.log_entries = (actor_of w t a.kept a.is).own.capacity in
    omega arith

-- Full is told where no sweep runs
told_full : {w : Core} {t : ℕ} {cmd : Cmd} {told : Told} {v : Core} → Answering w t cmd told v → told.answer ≡ answers.Full → IsFull w t cmd
told_full a is =
    let (before, none, still) = a.cause.full.0 is in
    let found = found_filled before a none in
    record { none = found.none; even = ap (λ n. n % 2) (sym found.first) ∙ still.0 }

-- and Busy where one does
told_busy : {w : Core} {t : ℕ} {cmd : Cmd} {told : Told} {v : Core} (before after : ℕ) → Answering w t cmd told v → told.answer ≡ answers.Busy before after → IsBusy w t cmd × (before ≡ w.freed) × (after ≡ w.freed)
told_busy {w = w} before after a is =
    let (none, ends, moves) = (a.cause.busy before after).0 is in
    let found = found_filled before a none in
    let odd : w.freed % 2 ≢ 0 = λ even. moves (ap (λ n. n % 2) found.first ∙ even, found.first ∙ sym found.last) in
    (record { none = found.none; odd = omega (arith, odd) }, found.first, ends ∙ found.last)

-- an even freed word isn't odd
even_odd : (n : ℕ) → n % 2 ≡ 0 → n % 2 ≡ 1 → ⊥
even_odd n even odd = omega arith

must_be_full : {w : Core} {t : ℕ} {cmd : Cmd} {told : Told} {v : Core} → Answering w t cmd told v → IsFull w t cmd → told.answer ≡ answers.Full
must_be_full {w = w} {cmd = cmd} {told = told} a full = go (new_answered cmd told.answer full.none.new a.said.kind)
  where
    go : IsOfNew told.answer → told.answer ≡ answers.Full
    go (IsOfNew.new_done is) = absurd (not_done a full.none is)
    go (IsOfNew.new_log_full is) = absurd (not_log_full a full.none is)
    go (IsOfNew.new_full is) = is
    go (IsOfNew.new_busy before after is) = absurd (even_odd w.freed full.even (told_busy before after a is).0.odd)

must_be_busy : {w : Core} {t : ℕ} {cmd : Cmd} {told : Told} {v : Core} (before after : ℕ) → Answering w t cmd told v → IsBusy w t cmd × (before ≡ w.freed) × (after ≡ w.freed) → told.answer ≡ answers.Busy before after
must_be_busy {w = w} {cmd = cmd} {told = told} before after a (busy, first, last) = go (new_answered cmd told.answer busy.none.new a.said.kind)
  where
    go : IsOfNew told.answer → told.answer ≡ answers.Busy before after
    go (IsOfNew.new_done is) = absurd (not_done a busy.none is)
    go (IsOfNew.new_log_full is) = absurd (not_log_full a busy.none is)
    go (IsOfNew.new_full is) = absurd (even_odd w.freed (told_full a is).even busy.odd)
    go (IsOfNew.new_busy b e is) =
        let parts = told_busy b e a is in
        let same_first : b ≡ before = parts.1 ∙ sym first in
        let same_last : e ≡ after = parts.2 ∙ sym last in
        (cc)

-- what only the registers and the log tell
lacks_same : (p : Private) (phase : Phase) (steps : ℕ) (cmd : Cmd) → LacksObject (record p { phase = phase; steps = steps }) cmd ↔ LacksObject p cmd
lacks_same p phase steps (commands.New reg label) = (λ x. x, λ x. x)
lacks_same p phase steps (commands.Leaf reg label) = (λ x. x, λ x. x)
lacks_same p phase steps (commands.Null reg) = (λ x. x, λ x. x)
lacks_same p phase steps (commands.Copy dst src) = (λ x. x, λ x. x)
lacks_same p phase steps (commands.Get dst src f) = (λ x. x, λ x. x)
lacks_same p phase steps (commands.Put src f val) = (λ x. x, λ x. x)
lacks_same p phase steps (commands.Value reg) = (λ x. x, λ x. x)
lacks_same p phase steps (commands.Same a b) = (λ x. x, λ x. x)
lacks_same p phase steps commands.Park = (λ x. x, λ x. x)
lacks_same p phase steps commands.Unpark = (λ x. x, λ x. x)
lacks_same p phase steps commands.Leave = (λ x. x, λ x. x)

enters_same : (p : Private) (phase : Phase) (steps : ℕ) (cmd : Cmd) → MakesEntry (record p { phase = phase; steps = steps }) cmd ↔ MakesEntry p cmd
enters_same p phase steps (commands.New reg label) = (λ x. x, λ x. x)
enters_same p phase steps (commands.Leaf reg label) = (λ x. x, λ x. x)
enters_same p phase steps (commands.Null reg) = (λ x. x, λ x. x)
enters_same p phase steps (commands.Copy dst src) = (λ x. x, λ x. x)
enters_same p phase steps (commands.Get dst src f) = (λ x. x, λ x. x)
enters_same p phase steps (commands.Put src f val) = (λ x. x, λ x. x)
enters_same p phase steps (commands.Value reg) = (λ x. x, λ x. x)
enters_same p phase steps (commands.Same a b) = (λ x. x, λ x. x)
enters_same p phase steps commands.Park = (λ x. x, λ x. x)
enters_same p phase steps commands.Unpark = (λ x. x, λ x. x)
enters_same p phase steps commands.Leave = (λ x. x, λ x. x)

-- What is said of a command that was told this: how it is explained, why it was refused, what it left, and that all else stays.
pub record IsAnswered (w v : Core) (t : ℕ) (cmd : Cmd) (told : Told) : Type 0 where
  pub explained : IsExplained (sight w) t cmd told (sight v)
  pub refuses : Refuses w t cmd told v
  pub changes : Changes w t cmd told v
  pub stays : Stays w t cmd told v

-- a command by which the mutator doesn't leave
epoch_stays : (cmd : Cmd) (answer : Answer) (before : ℕ) → IsStaying cmd answer → before ≡ epoch_after cmd answer before
epoch_stays commands.Leave answers.Done before stays = absurd stays
epoch_stays _ _ before stays = refl

none_leaves : (cmd : Cmd) (answer : Answer) → IsStaying cmd answer → is_leave_done cmd answer ≡ false
none_leaves commands.Leave answers.Done stays = absurd stays
none_leaves _ _ stays = refl

-- nor by a step that isn't one of leaving
pub stays_after : (w v : Core) (t : ℕ) → IsKept false w → IsMutator w.config t → is_busy (mutator w t) ≡ true → IsStayingIn (mutator w t).phase → v ≡ stepped w t → (mutator v t).left ≡ false
stays_after w v t kept is busy stays steps =
    ap (λ (x : Core). (mutator x t).left) steps ∙ ap (λ (p : Private). p.left) (stepped_mutator w t kept is)
    ∙ step_left (λ parts. subst IsStayingIn parts stays) (its_step w t kept is busy) ∙ stays_here w t kept is busy

-- a mutator that awaits the collector, in another heap with the same crossing word
awaits_along : (w v : Core) (t : ℕ) (cmd : Cmd) → crossing_of v t ≡ crossing_of w t → AwaitsCollector w t cmd → AwaitsCollector v t cmd
awaits_along w v t commands.Leave crossing awaits = subst IsUncollected (sym crossing) awaits
awaits_along w v t _ crossing awaits = absurd awaits

-- what an allocation finds, in another heap with the same headers and freed word, and as many entries of this mutator
finds_along : (w v : Core) (t : ℕ) (cmd : Cmd) → log_length v t ≡ log_length w t → v.config ≡ w.config → v.headers ≡ w.headers → FindsNone w t cmd → FindsNone v t cmd
finds_along w v t cmd entries config headers is =
    let room : log_length w t < w.config.log_entries = is.room in
    let many : v.config.log_entries ≡ w.config.log_entries = ap (λ (c : Config). c.log_entries) config in
    record {
      new = is.new;
      room = omega arith;
      filled = λ slot below. subst (λ (hs : List ℕ). 0 < slice_index_or hs slot 0) (sym headers) (is.filled slot (subst (λ (c : Config). slot < c.slots) config below));
    }

full_along : (w v : Core) (t : ℕ) (cmd : Cmd) → log_length v t ≡ log_length w t → v.config ≡ w.config → v.headers ≡ w.headers → v.freed ≡ w.freed → IsFull w t cmd → IsFull v t cmd
full_along w v t cmd entries config headers freed is = record { none = finds_along w v t cmd entries config headers is.none; even = ap (λ n. n % 2) freed ∙ is.even }

busy_along : (w v : Core) (t : ℕ) (cmd : Cmd) → log_length v t ≡ log_length w t → v.config ≡ w.config → v.headers ≡ w.headers → v.freed ≡ w.freed → IsBusy w t cmd → IsBusy v t cmd
busy_along w v t cmd entries config headers freed is = record { none = finds_along w v t cmd entries config headers is.none; odd = ap (λ n. n % 2) freed ∙ is.odd }

-- a write into a leaf, in another heap with the same headers, and with the same registers and as many entries of this mutator
writes_along : (w v : Core) (t : ℕ) (cmd : Cmd) → (mutator v t).registers ≡ (mutator w t).registers → log_length v t ≡ log_length w t → v.config ≡ w.config → v.headers ≡ w.headers → WritesLeaf w t cmd → WritesLeaf v t cmd
writes_along w v t (commands.Put src f val) registers entries config headers (slot, names, leaf, room) =
    let many : v.config.log_entries ≡ w.config.log_entries = ap (λ (c : Config). c.log_entries) config in
    (slot, ap (λ (rs : List (Option ℕ)). slice_index_or rs src None) registers ∙ names, ap (λ (hs : List ℕ). is_leaf (slice_index_or hs slot 0)) headers ∙ leaf, omega (arith, many, entries, room))
writes_along w v t _ registers entries config headers writes = absurd writes

-- each slot below the one that a scan has come to is taken
probed_lower : (w : Core) (t : ℕ) (phase : Phase) (slot : ℕ) → IsKept false w → IsMutator w.config t → (mutator w t).phase ≡ phase → HasFound w (mutator w t).from phase → probed_at (mutator w t) phase ≡ Some slot → (s : ℕ) → s < slot → IsTaken (sight w) s
probed_lower w t (Scanning reg label leaf before at) slot kept there phase found is s below =
    let same : ◌≡◌ {A = Option ℕ} (Some (probe_of (mutator w t) at)) (Some slot) = is in
    let comes : probe_of (mutator w t) at ≡ slot = cc in
    let here : at ≡ slot = sym (in_order w t reg label leaf before at kept there phase found.0) ∙ comes in
    found.2 s (omega arith)
probed_lower w t _ slot kept there phase found is s below = let not_so : ◌≡◌ {A = Option ℕ} None (Some slot) = is in (cc)

-- the free slot that a scan has come to is the lowest one
lowest : {w : Core} {t : ℕ} {cmd : Cmd} {told : Told} {v : Core} (slot : ℕ) → Answering w t cmd told v → IsBirthplace w t slot → IsLowestFree (sight w) slot
lowest {w = w} {t = t} slot a place =
    let headers : length w.headers ≡ w.config.slots = a.kept.headers in
    let below : slot < w.config.slots = place.there in
    record { there = omega arith; free = place.free; lower = probed_lower w t (mutator w t).phase slot a.kept a.is refl a.found place.probed }

-- what is said of the command, from its last step
answers_all : (w last v : Core) (t : ℕ) (cmd : Cmd) (told : Told) → IsKept false w → IsMutator w.config t → OnlyWorks w last t → v ≡ stepped last t → answer_of (mutator v t) ≡ Some (makes.Answered told)
    → Answering last t cmd told v → IsAnswered w v t cmd told
answers_all w last v t cmd told kept is only steps answer a =
    let p : Private = mutator w t in
    let entries : log_length last t ≡ log_length w t = ap (λ (x : Private). length x.log.entries) only.own in
    let registers : (mutator last t).registers ≡ p.registers = ap (λ (x : Private). x.registers) only.own in
    let epoch : (mutator last t).epoch ≡ p.epoch = ap (λ (x : Private). x.epoch) only.own in
    let capacity : p.log.capacity ≡ w.config.log_entries = (actor_of w t kept is).own.capacity in
    let config : last.config ≡ w.config = ap (λ (x : Core). x.config) only.others in
    let headers : last.headers ≡ w.headers = ap (λ (x : Core). x.headers) only.others in
    let freed : last.freed ≡ w.freed = ap (λ (x : Core). x.freed) only.others in
    let crossing : crossing_of last t ≡ crossing_of w t = ap (λ (x : Core). crossing_of x t) only.others in
    let awaits = awaits_collector last t cmd a.kept a.is a.busy a.stays a.work in
    let same : sight last ≡ sight w = works_sight w last t only in
    let quiet : IsQuiet w last t = works_quiet w last t is.0 only in
    let phase : Phase = (mutator last t).phase in
    let steps_made : ℕ = (mutator last t).steps in
    let (slot, leaves) = a.said.leaves in
    record {
      explained = subst (λ (s : Sight). IsExplained s t cmd told (sight v)) same a.said.explained;
      refuses = record {
        log_full = (
          λ full.
              let found : IsLogFullOf (mutator last t) × MakesEntry (mutator last t) cmd = a.cause.log_full.0 full in
              let all : length p.log.entries ≡ p.log.capacity = subst IsLogFullOf only.own found.0 in
              (all ∙ capacity, (enters_same p phase steps_made cmd).0 (subst (λ (x : Private). MakesEntry x cmd) only.own found.1)),
          λ full.
              let all : length p.log.entries ≡ p.log.capacity = full.0 ∙ sym capacity in
              a.cause.log_full.1 (subst IsLogFullOf (sym only.own) all, subst (λ (x : Private). MakesEntry x cmd) (sym only.own) ((enters_same p phase steps_made cmd).1 full.1)),
        );
        no_object = (
          λ none. (lacks_same p phase steps_made cmd).0 (subst (λ (x : Private). LacksObject x cmd) only.own (a.cause.no_object.0 none)),
          λ none. a.cause.no_object.1 (subst (λ (x : Private). LacksObject x cmd) (sym only.own) ((lacks_same p phase steps_made cmd).1 none)),
        );
        no_field = (
          λ refused. writes_along last w t cmd (sym registers) (sym entries) (sym config) (sym headers) ((into_leaf last t cmd a.kept a.is a.busy a.work).0 (a.cause.no_field.0 refused)),
          λ writes. a.cause.no_field.1 ((into_leaf last t cmd a.kept a.is a.busy a.work).1 (writes_along w last t cmd registers entries config headers writes)),
        );
        not_yet = (
          λ refused. awaits_along last w t cmd (sym crossing) (awaits.0 (a.cause.not_yet.0 refused)),
          λ waits. a.cause.not_yet.1 (awaits.1 (awaits_along w last t cmd crossing waits)),
        );
        full = (
          λ full. full_along last w t cmd (sym entries) (sym config) (sym headers) (sym freed) (told_full a full),
          λ full. must_be_full a (full_along w last t cmd entries config headers freed full),
        );
        busy = λ before after. (
          λ sweeps.
              let (busy, first, ends) = told_busy before after a sweeps in
              (busy_along last w t cmd (sym entries) (sym config) (sym headers) (sym freed) busy, first ∙ freed, ends ∙ freed),
          λ sweeps. must_be_busy before after a (busy_along w last t cmd entries config headers freed sweeps.0, sweeps.1 ∙ sym freed, sweeps.2 ∙ sym freed),
        );
        refused = λ refusal. works_both w last v t only (a.refused refusal);
      };
      changes = record {
        seen = (
          slot,
          subst (λ (s : Sight). sight v ≡ sight_told s slot t cmd told) same leaves.seen,
          λ born. subst (λ (s : Sight). IsLowestFree s slot) same (lowest slot a (leaves.birth born)),
        );
        made = a.said.made ∙ ap (λ n. n + (if is_birth (cmd, told) then 1 else 0)) quiet.made;
        logged = a.said.logged ∙ ap (entries_after cmd told.answer) entries;
        stamp = subst (λ n. IfSome (word_left cmd told) (λ word. stamp_of word ≡ record { writer = t; epoch = n; index = log_length w t })) epoch
            (subst (λ n. IfSome (word_left cmd told) (λ word. stamp_of word ≡ record { writer = t; epoch = (mutator last t).epoch; index = n })) entries a.said.stamp);
      };
      stays = record {
        others = λ s other some.
            ap (λ (x : Core). mutator x s) steps ∙ mutator_other last.mutators t s (step_of (mutator last t) (found_by last t) (box last t)) is.0 other some ∙ quiet.others s other some;
        idle = answered_idle (mutator v t).phase (makes.Answered told) answer;
        epoch = a.said.epoch ∙ epoch ∙ epoch_stays cmd told.answer p.epoch a.staying;
        left = stays_after last v t a.kept a.is a.busy a.stays steps ∙ sym (none_leaves cmd told.answer a.staying);
        requested = a.said.requested ∙ quiet.requested;
        freed = a.said.freed ∙ freed;
        collector = ap (λ (x : Core). x.collector) steps ∙ quiet.collector;
        config = ap (λ (x : Core). x.config) steps ∙ config;
      };
    }

-- what is said of one that let its registers go, and has left
parted_all : (w last v : Core) (t : ℕ) → HasLetGo w last t → Parts last t (mutator v t) v → IsAnswered w v t commands.Leave (plain answers.Done)
parted_all w last v t gone parts =
    let seen : sight v ≡ sight_told (sight w) 0 t commands.Leave (plain answers.Done) = parts.quiet.seen ∙ gone.seen in
    record {
      explained = subst (IsExplained (sight w) t commands.Leave (plain answers.Done)) (sym seen) (leave_explained (sight w) t);
      refuses = record {
        log_full = (λ is. cc, λ full. absurd full.1);
        full = (λ is. cc, λ full. absurd (false≢true full.none.new));
        busy = λ first last. (λ is. cc, λ sweeps. absurd (false≢true sweeps.0.none.new));
        no_object = (λ is. cc, λ none. absurd none);
        no_field = (λ is. cc, λ writes. absurd writes);
        not_yet = (λ is. cc, λ awaits. absurd (home_collected (crossing_of w t) (mutator w t).epoch gone.home awaits));
        refused = λ refusal. absurd (false≢true refusal);
      };
      changes = record {
        seen = (0, seen, λ born. absurd (false≢true born));
        made = parts.quiet.made ∙ gone.made ∙ sym (add-zero w.made);
        logged = ap (λ (b : Contents). length b.entries) (parts.log ∙ gone.log);
        stamp = tt;
      };
      stays = record {
        others = λ s other some. parts.quiet.others s other some ∙ gone.others s other some;
        idle = answered_idle (mutator v t).phase (makes.Answered (plain answers.Done)) parts.answer;
        epoch = parts.epoch ∙ ap (λ n. n + 1) gone.epoch;
        left = parts.left;
        requested = parts.quiet.requested ∙ gone.requested;
        freed = parts.quiet.freed ∙ gone.freed;
        collector = parts.quiet.collector ∙ gone.collector;
        config = parts.quiet.config ∙ gone.config;
      };
    }

-- no work ends in two ways
unfinished : (made : Made) → ◌≡◌ {A = Option Made} None (Some made) → ⊥
unfinished made is = cc

crossed_told : (crossed : Option ℕ) (told : Told) → ◌≡◌ {A = Option Made} (Some (makes.Crossed crossed)) (Some (makes.Answered told)) → ⊥
crossed_told crossed told is = cc

not_polled : (cmd : Cmd) → ◌≡◌ {A = Option Work} (Some (works.Command cmd)) (Some works.Poll) → ⊥
not_polled cmd is = cc

-- what was said of the command that was answered
decided_of : (w v : Core) (t : ℕ) (q : Private) (cmd : Cmd) (told : Told) → work_of (mutator w t) ≡ Some (works.Command cmd) → answer_of q ≡ Some (makes.Answered told) → Says w t q v
    → IsDecided w t cmd told v × IsStaying cmd told.answer × (is_refusal told.answer ≡ true → OnlyWorks w v t)
decided_of w v t q cmd told work answer (Says.decided its_cmd its_told its_work its_answer said staying refused) =
    let cmds : its_cmd ≡ cmd = same_command its_cmd cmd (sym its_work ∙ work) in
    let tolds : its_told ≡ told = same_told its_told told (sym its_answer ∙ answer) in
    let P : Cmd → Told → Type 0 = λ c x. IsDecided w t c x v × IsStaying c x.answer × (is_refusal x.answer ≡ true → OnlyWorks w v t) in
    subst (λ x. P cmd x) tolds (subst (λ c. P c its_told) cmds (said, staying, refused))
decided_of w v t q cmd told work answer (Says.going none only found) = absurd (unfinished (makes.Answered told) (sym none ∙ answer))
decided_of w v t q cmd told work answer (Says.holding none phase still epoch) = absurd (unfinished (makes.Answered told) (sym none ∙ answer))
decided_of w v t q cmd told work answer (Says.stayed crossed poll here only) = absurd (crossed_told None told (sym crossed ∙ answer))
decided_of w v t q cmd told work answer (Says.crossed crossed poll phase still epoch log) = absurd (crossed_told (Some ((mutator w t).epoch + 1)) told (sym crossed ∙ answer))

-- a command that doesn't leave never holds the mailbox
command_works : (before w : Core) (t : ℕ) (cmd : Cmd) → IsStayingIn (mutator w t).phase → Waits before w t → work_of (mutator w t) ≡ Some (works.Command cmd) → OnlyWorks before w t × HasFound w (mutator w t).from (mutator w t).phase
command_works before w t cmd stays (Waits.works only found since) work = (only, found)
command_works before w t cmd stays (Waits.holds phase still epoch) work = absurd (not_polled cmd (sym (sym (ap work_at phase) ∙ work)))
command_works before w t cmd stays (Waits.parts phase gone) work = absurd (subst IsStayingIn phase stays)

-- and one that leaves has let its registers go before its last step
has_let_go : (before w : Core) (t : ℕ) → (mutator before t).phase ≢ Parting → (mutator w t).phase ≡ Parting → Waits before w t → HasLetGo before w t
has_let_go before w t other parts (Waits.works only found since) = absurd (other (since parts))
has_let_go before w t other parts (Waits.holds phase still epoch) =
    let not_so : ◌≡◌ {A = Phase} Giving Parting = sym phase ∙ parts in
    (cc)
has_let_go before w t other parts (Waits.parts phase gone) = gone

-- what the last step of a work says that doesn't leave
end_says : (before v : Core) (t : ℕ) (made : Made) → IsMutator before.config t → (f : IsFinished before t made v) → IsKept false f.last → IsStayingIn (mutator f.last t).phase → Says f.last t (mutator v t) v
end_says before v t made is f kept stays = subst (λ (x : Core). Says f.last t (mutator x t) x) (sym f.steps) (step_says f.last t kept (mutator_there before f.last t f.waits is) f.busy stays)

-- what the last step of any work says: it isn't one of leaving, or the mutator has left by it
data Ends (last v : Core) (t : ℕ) (q : Private) : Type 0 where
  remains : IsStayingIn (mutator last t).phase → Says last t q v → Ends last v t q
  departs : (mutator last t).phase ≡ Parting → Parts last t q v → Ends last v t q

ends_so : (before v : Core) (t : ℕ) (made : Made) → IsMutator before.config t → (f : IsFinished before t made v) → IsKept false f.last → Ends f.last v t (mutator v t)
ends_so before v t made is f kept = elim (leaves_or_stays (mutator f.last t).phase) [
  | inl leaving ↦
      absurd (unfinished made (sym (ap answer_at (leaving_says f.last t kept there leaving).0) ∙ ap (λ (x : Core). answer_of (mutator x t)) (sym f.steps) ∙ f.answer))
  | inr (inl parting) ↦ Ends.departs parting (subst (λ (x : Core). Parts f.last t (mutator x t) x) (sym f.steps) (parting_says f.last t kept there parting))
  | inr (inr stays) ↦ Ends.remains stays (end_says before v t made is f kept stays)
]
  where
    there : IsMutator f.last.config t
    there = mutator_there before f.last t f.waits is

-- What a command is told whose work was begun and finished.
pub command_said : (w b v : Core) (t : ℕ) (cmd : Cmd) (told : Told) → IsKept false w → IsMutator w.config t → b ≡ begun w t (works.Command cmd) → work_of (mutator b t) ≡ Some (works.Command cmd)
    → (f : IsFinished b t (makes.Answered told) v) → IsKept false f.last → IsAnswered w v t cmd told
command_said w b v t cmd told kept is begins its f last_kept = go (ends_so b v t (makes.Answered told) there f last_kept)
  where
    here : OnlyWorks w b t
    here = subst (λ (x : Core). OnlyWorks w x t) (sym begins) (begun_works w t (works.Command cmd) 0 kept is)

    there : IsMutator b.config t
    there = subst (λ (x : Core). IsMutator x.config t) (sym begins) is

    work : work_of (mutator f.last t) ≡ Some (works.Command cmd)
    work = f.work ∙ its

    other : (mutator b t).phase ≢ Parting
    other = subst (λ (x : Core). (mutator x t).phase ≢ Parting) (sym begins) (begun_takes_none w t (works.Command cmd) kept is)

    go : Ends f.last v t (mutator v t) → IsAnswered w v t cmd told
    go (Ends.departs phase parts) =
        let leaves : commands.Leave ≡ cmd = same_command commands.Leave cmd (sym (ap work_at phase) ∙ work) in
        let done : plain answers.Done ≡ told = same_told (plain answers.Done) told (sym parts.answer ∙ f.answer) in
        let gone : HasLetGo w f.last t = works_let_go w b f.last t is.0 here (has_let_go b f.last t other phase f.waits) in
        subst (λ c. IsAnswered w v t c told) leaves (subst (IsAnswered w v t commands.Leave) done (parted_all w f.last v t gone parts))
    go (Ends.remains stays says) =
        let waited = command_works b f.last t cmd stays f.waits work in
        let (said, staying, refused) = decided_of f.last v t (mutator v t) cmd told work f.answer says in
        let last_there : IsMutator f.last.config t = mutator_there b f.last t f.waits there in
        let answer : answer_of (mutator (stepped f.last t) t) ≡ Some (makes.Answered told) = ap (λ (x : Core). answer_of (mutator x t)) (sym f.steps) ∙ f.answer in
        let cause : HasCause (mutator f.last t) (mutator v t) cmd (found_by f.last t) told.answer
        = subst (λ (x : Core). HasCause (mutator f.last t) (mutator x t) cmd (found_by f.last t) told.answer) (sym f.steps) (step_caused f.last t cmd told last_kept last_there f.busy work answer) in
        answers_all w f.last v t cmd told kept is (works_both w b f.last t here waited.0) f.steps f.answer
        (record { kept = last_kept; is = last_there; busy = f.busy; work = work; found = waited.1; stays = stays; said = said; staying = staying; cause = cause; refused = refused })

-- a command never ends as a poll does
pub command_crosses : (w b v : Core) (t : ℕ) (cmd : Cmd) (crossed : Option ℕ) → IsKept false w → IsMutator w.config t → b ≡ begun w t (works.Command cmd) → work_of (mutator b t) ≡ Some (works.Command cmd)
    → (f : IsFinished b t (makes.Crossed crossed) v) → IsKept false f.last → ⊥
command_crosses w b v t cmd crossed kept is begins its f last_kept =
    let there : IsMutator b.config t = subst (λ (x : Core). IsMutator x.config t) (sym begins) is in
    go (f.work ∙ its) f.answer (ends_so b v t (makes.Crossed crossed) there f last_kept)
  where
    go : {last : Core} {q : Private} → work_of (mutator last t) ≡ Some (works.Command cmd) → answer_of q ≡ Some (makes.Crossed crossed) → Ends last v t q → ⊥
    go work answer (Ends.departs phase parts) = absurd (crossed_told crossed (plain answers.Done) (sym (sym parts.answer ∙ answer)))
    go work answer (Ends.remains stays (Says.decided its_cmd told its_work its_answer said staying refused)) = absurd (crossed_told crossed told (sym (sym its_answer ∙ answer)))
    go work answer (Ends.remains stays (Says.going none only found)) = absurd (unfinished (makes.Crossed crossed) (sym none ∙ answer))
    go work answer (Ends.remains stays (Says.holding none phase still epoch)) = absurd (unfinished (makes.Crossed crossed) (sym none ∙ answer))
    go work answer (Ends.remains stays (Says.stayed its_answer poll here only)) = absurd (not_polled cmd (sym work ∙ poll))
    go work answer (Ends.remains stays (Says.crossed its_answer poll phase still epoch log)) = absurd (not_polled cmd (sym work ∙ poll))

-- nor a poll as a command
pub poll_answers : (w b v : Core) (t : ℕ) (told : Told) → IsKept false w → IsMutator w.config t → b ≡ begun w t works.Poll → work_of (mutator b t) ≡ Some works.Poll
    → (f : IsFinished b t (makes.Answered told) v) → IsKept false f.last → ⊥
poll_answers w b v t told kept is begins its f last_kept =
    let there : IsMutator b.config t = subst (λ (x : Core). IsMutator x.config t) (sym begins) is in
    go (f.work ∙ its) f.answer (end_says b v t (makes.Answered told) there f last_kept (polls_stay (mutator f.last t).phase (f.work ∙ its)))
  where
    go : {last : Core} {q : Private} → work_of (mutator last t) ≡ Some works.Poll → answer_of q ≡ Some (makes.Answered told) → Says last t q v → ⊥
    go work answer (Says.decided cmd its_told its_work its_answer said staying refused) = absurd (not_polled cmd (sym its_work ∙ work))
    go work answer (Says.going none only found) = absurd (unfinished (makes.Answered told) (sym none ∙ answer))
    go work answer (Says.holding none phase still epoch) = absurd (unfinished (makes.Answered told) (sym none ∙ answer))
    go work answer (Says.stayed crossed poll here only) = absurd (crossed_told None told (sym crossed ∙ answer))
    go {last} {q} work answer (Says.crossed crossed poll phase still epoch log) = absurd (crossed_told (Some ((mutator last t).epoch + 1)) told (sym crossed ∙ answer))

-- the word that a poll looks at first is the requested epoch
poll_finds : (w : Core) (t : ℕ) → (mutator w t).phase ≡ Begun works.Poll → found_by w t ≡ w.epoch
unfolding next_of next_at
poll_finds w t is = ap (cell (cells_of w)) (ap (next_at (mutator w t)) is)

-- a poll that ends with no crossing found its own epoch requested
stayed_epoch : (w : Core) (t : ℕ) → IsKept false w → IsMutator w.config t → is_busy (mutator w t) ≡ true → answer_of (mutator (stepped w t) t) ≡ Some (makes.Crossed None) → w.epoch ≡ (mutator w t).epoch
stayed_epoch w t kept is busy answer =
    let cause = (poll_has_cause (mutator w t) (found_by w t) (box w t) busy (actor_of w t kept is).own.between).none.0 (ap answer_of (sym (stepped_mutator w t kept is)) ∙ answer) in
    sym (poll_finds w t cause.0) ∙ cause.1

-- a mutator that holds its mailbox isn't in the requested epoch, and has an empty log
holds_next : (w : Core) (t : ℕ) → IsKept false w → IsMutator w.config t → (mutator w t).phase ≡ Giving → ((mutator w t).epoch + 1 ≡ w.epoch) × (log_length w t ≡ 0)
holds_next w t kept is phase =
    let crosses = (giving_of w t kept is phase).1 in
    (crosses.epoch, ap (λ (b : Contents). length b.entries) crosses.spare)

-- a poll that ended in the epoch in which it began
polled_here : (w last v : Core) (t : ℕ) → IsQuiet w last t → (mutator last t).epoch ≡ (mutator w t).epoch → log_length last t ≡ log_length w t → 1 ≤ t → OnlyWorks last v t → last.epoch ≡ (mutator last t).epoch
    → is_busy (mutator v t) ≡ false → (mutator v t).left ≡ (mutator w t).left → IsPolled w v t None
polled_here w last v t quiet epoch log first only requested idle left =
    record {
      quiet = quiet_both w last v t quiet (works_quiet last v t first only);
      crossed = (ap (λ (p : Private). p.epoch) only.own ∙ epoch, ap (λ (p : Private). length p.log.entries) only.own ∙ log);
      idle = idle;
      left = left;
      none = (λ _. sym quiet.requested ∙ requested ∙ epoch, λ _. refl);
      some = λ e is. let not_so : ◌≡◌ {A = Option ℕ} None (Some e) = is in (cc);
    }

-- a poll that ended in the next one
polled_there : (w last v : Core) (t : ℕ) → IsQuiet w last t → (mutator last t).epoch ≡ (mutator w t).epoch → ((mutator last t).epoch + 1 ≡ last.epoch) × (log_length last t ≡ 0) → IsQuiet last v t
    → (mutator v t).epoch ≡ (mutator last t).epoch + 1 → (mutator v t).log ≡ (mutator last t).log → is_busy (mutator v t) ≡ false → (mutator v t).left ≡ (mutator w t).left
    → IsPolled w v t (Some ((mutator last t).epoch + 1))
polled_there w last v t quiet epoch next still its_epoch its_log idle left =
    let requested : last.epoch ≡ w.epoch = quiet.requested in
    let last_epoch : (mutator last t).epoch + 1 ≡ last.epoch = next.0 in
    record {
      quiet = quiet_both w last v t quiet still;
      crossed = (ap (λ n. n + 1) epoch, its_epoch, ap (λ (b : Contents). length b.entries) its_log ∙ next.1);
      idle = idle;
      left = left;
      none = (λ is. cc, λ same. let its : w.epoch ≡ (mutator w t).epoch = same in absurd (omega arith));
      some = λ e is.
          let same : ◌≡◌ {A = Option ℕ} (Some ((mutator last t).epoch + 1)) (Some e) = is in
          let here : (mutator last t).epoch + 1 ≡ e = cc in
          sym here ∙ last_epoch ∙ requested;
    }

-- a mutator that gives no mailbox back has the log with which it began
waits_log : (before w : Core) (t : ℕ) → Waits before w t → gives_back (mutator w t).phase ≡ false → log_length w t ≡ log_length before t
waits_log before w t (Waits.works only found since) here = ap (λ (p : Private). length p.log.entries) only.own
waits_log before w t (Waits.holds phase still epoch) here = absurd (false≢true (sym here ∙ ap gives_back phase))
waits_log before w t (Waits.parts phase gone) here = absurd (false≢true (sym here ∙ ap gives_back phase))

-- What a poll is told whose work was begun and finished.
pub poll_said : (w b v : Core) (t : ℕ) (crossed : Option ℕ) → IsKept false w → IsMutator w.config t → (mutator w t).left ≡ false → b ≡ begun w t works.Poll → work_of (mutator b t) ≡ Some works.Poll
    → (f : IsFinished b t (makes.Crossed crossed) v) → IsKept false f.last → IsPolled w v t crossed
poll_said w b v t crossed kept is present begins its f last_kept =
    let there : IsMutator b.config t = subst (λ (x : Core). IsMutator x.config t) (sym begins) is in
    go (f.work ∙ its) (end_says b v t (makes.Crossed crossed) there f last_kept staying)
  where
    staying : IsStayingIn (mutator f.last t).phase
    staying = polls_stay (mutator f.last t).phase (f.work ∙ its)

    last_there : IsMutator f.last.config t
    last_there = mutator_there b f.last t f.waits (subst (λ (x : Core). IsMutator x.config t) (sym begins) is)

    here : OnlyWorks w b t
    here = subst (λ (x : Core). OnlyWorks w x t) (sym begins) (begun_works w t works.Poll 0 kept is)

    quiet : IsQuiet w f.last t
    quiet = quiet_both w b f.last t (works_quiet w b t is.0 here) (waits_quiet b f.last t is.0 (λ parts. subst IsStayingIn parts staying) f.waits)

    epoch_same : (mutator f.last t).epoch ≡ (mutator w t).epoch
    epoch_same = waits_epoch b f.last t f.waits ∙ ap (λ (p : Private). p.epoch) here.own

    idle : is_busy (mutator v t) ≡ false
    idle = answered_idle (mutator v t).phase (makes.Crossed crossed) f.answer

    left : (mutator v t).left ≡ (mutator w t).left
    left = stays_after f.last v t last_kept last_there f.busy staying f.steps ∙ sym present

    told : (x : Option ℕ) → answer_of (mutator v t) ≡ Some (makes.Crossed x) → x ≡ crossed
    told x answer =
        let same : ◌≡◌ {A = Option Made} (Some (makes.Crossed x)) (Some (makes.Crossed crossed)) = sym answer ∙ f.answer in
        (cc)

    go : work_of (mutator f.last t) ≡ Some works.Poll → Says f.last t (mutator v t) v → IsPolled w v t crossed
    go work (Says.decided cmd its_told its_work its_answer said staying refused) = absurd (not_polled cmd (sym its_work ∙ work))
    go work (Says.going none only found) = absurd (unfinished (makes.Crossed crossed) (sym none ∙ f.answer))
    go work (Says.holding none phase still epoch) = absurd (unfinished (makes.Crossed crossed) (sym none ∙ f.answer))
    go work (Says.stayed answer poll stays only) =
        let log : log_length f.last t ≡ log_length w t = waits_log b f.last t f.waits stays ∙ ap (λ (p : Private). length p.log.entries) here.own in
        let requested : f.last.epoch ≡ (mutator f.last t).epoch = stayed_epoch f.last t last_kept last_there f.busy (ap (λ (x : Core). answer_of (mutator x t)) (sym f.steps) ∙ answer) in
        subst (IsPolled w v t) (told None answer) (polled_here w f.last v t quiet epoch_same log is.0 only requested idle left)
    go work (Says.crossed answer poll phase still epoch log) =
        subst (IsPolled w v t) (told (Some ((mutator f.last t).epoch + 1)) answer)
        (polled_there w f.last v t quiet epoch_same (holds_next f.last t last_kept last_there phase) still epoch log idle left)
