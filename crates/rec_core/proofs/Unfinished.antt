-- Steps of a mutator that finish nothing: what they leave, how many they are, and that each comes nearer to the end.
use Rattle.std.proofs.Common.{◌≡◌, ◌≢◌, inl, inr, ℕ, ◌+◌, ◌-◌, ◌<◌, ◌≤◌, Option, None, Some, IfSome, true, false, refl, sym, ap, subst, ◌∙◌, arith, Bool}
use Rattle.std.specs.Option.{is_none}
use Rattle.std.proofs.lemmas.Bool.{false≢true}
use Rattle.std.proofs.lemmas.List.{set-set, set-get_or}
use Rattle.rec_core.proofs.Common.{crossing_word, Spare, next_of, Private, is_busy, is_busy_at, work_of, work_at, answer_of, answer_at, limit_of, Step, begun_of, step_made, IsMutator, Core, crossing_of, nobody, spare_of, box, mutator, with_mutator, IsKept, begun_from, stepped, found_by, Config}
use Rattle.rec_model.specs.declared.answer.Answer.TheVariants as answers
use Rattle.rec_model.specs.declared.command.Cmd.TheVariants as commands
use Rattle.rec_mutator.specs.Took.{step_of}
use Rattle.rec_mutator.specs.declared.made.Made.{Made}
use Rattle.rec_mutator.specs.declared.made.Made.TheVariants as makes
use Rattle.rec_mutator.specs.Private.{command_of}
use Rattle.rec_mutator.specs.declared.phase.Phase.{Phase}
use Rattle.rec_mutator.specs.declared.phase.Phase.TheVariants.{Idle, Begun, Scanning, Scanned, Storing, Giving, Leaving, Retiring, Parting, Finished, Passing}
use Rattle.rec_mutator.specs.declared.work.Work.{Work}
use Rattle.rec_mutator.specs.declared.work.Work.TheVariants as works
use Rattle.rec_mutator.proofs.Leaving.{parts_from}
use Rattle.rec_mutator.proofs.Machines.{within_limit}
use Rattle.rec_mutator.proofs.Polls.{poll_has_cause}
use Rattle.rec_mutator.proofs.Sizes.{step_keeps, step_counts}
use Rattle.rec_core.specs.Unfinished.{OnlyWorks, IsQuiet, HasFound, HasLetGo, Waits}
use Rattle.rec_core.proofs.Leaving.{IsStayingIn, leaves_or_stays}
use Rattle.rec_core.proofs.Showing.{Says, mutator_left, mutator_other, stepped_mutator, step_says, leaving_says, parting_says, works_sight}
use Rattle.rec_core.proofs.Steps.{actor_of, its_box}
use Rattle.rec_model.specs.Asking.{allocation, plain}
use Rattle.rec_model.specs.Sight.{sight_without_registers}

-- nothing changed
works_none : (w : Core) (t : ℕ) → OnlyWorks w w t
works_none w t = record { others = ap (λ ms. let x : Core = record w { mutators = ms } in x) (sym (set-get_or w.mutators (t - 1) nobody)); own = refl }

-- first these steps and then those
pub works_both : (w v u : Core) (t : ℕ) → OnlyWorks w v t → OnlyWorks v u t → OnlyWorks w u t
works_both w v u t first second =
    let set_set : Core → Core = λ x. with_mutator x t (mutator u t) in
    record {
      others = second.others ∙ ap set_set first.others ∙ ap (λ ms. let x : Core = record w { mutators = ms } in x) (set-set w.mutators (t - 1) (mutator v t) (mutator u t));
      own = second.own ∙ ap (λ (p : Private). let q : Private = record p { from = (mutator u t).from; phase = (mutator u t).phase; steps = (mutator u t).steps } in q) first.own;
    }

-- a work that went on is quiet
pub works_quiet : (w v : Core) (t : ℕ) → 1 ≤ t → OnlyWorks w v t → IsQuiet w v t
works_quiet w v t first only =
    record {
      seen = works_sight w v t only;
      others = λ s other some. ap (λ (x : Core). mutator x s) only.others ∙ mutator_other w.mutators t s (mutator v t) first other some;
      collector = ap (λ (x : Core). x.collector) only.others;
      freed = ap (λ (x : Core). x.freed) only.others;
      requested = ap (λ (x : Core). x.epoch) only.others;
      made = ap (λ (x : Core). x.made) only.others;
      config = ap (λ (x : Core). x.config) only.others;
    }

-- first what is quiet here and then there
pub quiet_both : (w v u : Core) (t : ℕ) → IsQuiet w v t → IsQuiet v u t → IsQuiet w u t
quiet_both w v u t first second =
    record {
      seen = second.seen ∙ first.seen;
      others = λ s other some. second.others s other some ∙ first.others s other some;
      collector = second.collector ∙ first.collector;
      freed = second.freed ∙ first.freed;
      requested = second.requested ∙ first.requested;
      made = second.made ∙ first.made;
      config = second.config ∙ first.config;
    }

-- registers are let go behind a work that went on
pub works_let_go : (w v u : Core) (t : ℕ) → 1 ≤ t → OnlyWorks w v t → HasLetGo v u t → HasLetGo w u t
works_let_go w v u t first only second =
    let still : IsQuiet w v t = works_quiet w v t first only in
    let epoch : (mutator v t).epoch ≡ (mutator w t).epoch = ap (λ (p : Private). p.epoch) only.own in
    record {
      home = sym (ap (λ (x : Core). crossing_of x t) only.others) ∙ second.home ∙ ap (λ n. crossing_word n Spare) epoch;
      seen = second.seen ∙ ap (λ s. sight_without_registers s t) still.seen;
      log = second.log ∙ ap spare_of still.config;
      epoch = second.epoch ∙ epoch;
      others = λ s other some. second.others s other some ∙ still.others s other some;
      collector = second.collector ∙ still.collector;
      freed = second.freed ∙ still.freed;
      requested = second.requested ∙ still.requested;
      made = second.made ∙ still.made;
      config = second.config ∙ still.config;
    }

-- what a scan has found is said of headers and the freed word alone
found_same : (w : Core) (t : ℕ) (q : Private) (from : ℕ) (phase : Phase) → HasFound w from phase → HasFound (with_mutator w t q) from phase
found_same w t q from (Begun work) is = is
found_same w t q from (Scanning reg label leaf before probed) is = is
found_same w t q from (Scanned reg label leaf before) is = is
found_same w t q from _ is = tt

works_found : (w v : Core) (t from : ℕ) (phase : Phase) → OnlyWorks w v t → HasFound w from phase → HasFound v from phase
works_found w v t from phase only is = subst (λ (x : Core). HasFound x from phase) (sym only.others) (found_same w t (mutator v t) from phase is)

-- the begin of a work changes nothing but the work
pub begun_works : {dated : Bool} → (w : Core) (t : ℕ) (work : Work) (from : ℕ) → IsKept dated w → IsMutator w.config t → OnlyWorks w (begun_from w t work from) t
unfolding begun_of
begun_works w t work from kept is =
    let here : mutator (begun_from w t work from) t ≡ begun_of (mutator w t) work from = mutator_left w t (begun_of (mutator w t) work from) kept is in
    let P : Private → Type 0 = λ x. x ≡ record (mutator w t) { from = x.from; phase = x.phase; steps = x.steps } in
    record { others = ap (with_mutator w t) (sym here); own = subst P (sym here) refl }

-- no step was made yet
pub waits_none : (w : Core) (t : ℕ) → HasFound w (mutator w t).from (mutator w t).phase → Waits w w t
waits_none w t found = Waits.works (works_none w t) found (λ parts. parts)

-- steps that finished nothing are quiet, where they don't leave
pub waits_quiet : (before w : Core) (t : ℕ) → 1 ≤ t → (mutator w t).phase ≢ Parting → Waits before w t → IsQuiet before w t
waits_quiet before w t first other (Waits.works only found since) = works_quiet before w t first only
waits_quiet before w t first other (Waits.holds phase still epoch) = still
waits_quiet before w t first other (Waits.parts phase gone) = absurd (other phase)

-- they leave the numbers
waits_config : (before w : Core) (t : ℕ) → Waits before w t → w.config ≡ before.config
waits_config before w t (Waits.works only found since) = ap (λ (x : Core). x.config) only.others
waits_config before w t (Waits.holds phase still epoch) = still.config
waits_config before w t (Waits.parts phase gone) = gone.config

-- so the mutator is still there
pub mutator_there : (before w : Core) (t : ℕ) → Waits before w t → IsMutator before.config t → IsMutator w.config t
mutator_there before w t waits is = subst (λ (c : Config). IsMutator c t) (sym (waits_config before w t waits)) is

-- the mutator is still in its epoch
pub waits_epoch : (before w : Core) (t : ℕ) → Waits before w t → (mutator w t).epoch ≡ (mutator before t).epoch
waits_epoch before w t (Waits.works only found since) = ap (λ (p : Private). p.epoch) only.own
waits_epoch before w t (Waits.holds phase still epoch) = epoch
waits_epoch before w t (Waits.parts phase gone) = gone.epoch

-- a machine whose work isn't finished is busy
busy_told : (at : Phase) (work : Work) → work_at at ≡ Some work → is_busy_at at ≡ is_none (answer_at at)
busy_told Idle work is = let not_so : ◌≡◌ {A = Option Work} None (Some work) = is in (cc)
busy_told _ work is = refl

-- a machine that is busy has a work
busy_work : (at : Phase) → is_busy_at at ≡ true → (work : Work) × (work_at at ≡ Some work)
busy_work Idle busy = absurd (false≢true busy)
busy_work (Begun work) busy = (work, refl)
busy_work (Scanning reg label leaf before probed) busy = (works.Command (allocation leaf reg label), refl)
busy_work (Scanned reg label leaf before) busy = (works.Command (allocation leaf reg label), refl)
busy_work (Storing src f val slot) busy = (works.Command (commands.Put src f val), refl)
busy_work (Finished work made) busy = absurd (false≢true busy)
busy_work Leaving busy = (works.Command commands.Leave, refl)
busy_work Retiring busy = (works.Command commands.Leave, refl)
busy_work Parting busy = (works.Command commands.Leave, refl)
busy_work (Passing passage) busy = (works.Command (command_of passage), refl)
busy_work _ busy = (works.Poll, refl)

-- a finished work is no longer busy
pub answered_idle : (at : Phase) (made : Made) → answer_at at ≡ Some made → is_busy_at at ≡ false
answered_idle Idle made is = refl
answered_idle (Finished its other) made is = refl
answered_idle _ made is = let not_so : ◌≡◌ {A = Option Made} None (Some made) = is in (cc)

-- the step that a mutator makes
pub its_step : {dated : Bool} → (w : Core) (t : ℕ) → IsKept dated w → IsMutator w.config t → is_busy (mutator w t) ≡ true → Step (mutator w t) (found_by w t) (box w t) (next_of (mutator w t)) (step_of (mutator w t) (found_by w t) (box w t))
its_step w t kept is busy = step_made (mutator w t) (found_by w t) (box w t) busy (actor_of w t kept is).own.between

-- the work of a mutator stays the same in its step
pub work_stays : {dated : Bool} → (w : Core) (t : ℕ) → IsKept dated w → IsMutator w.config t → is_busy (mutator w t) ≡ true → work_of (mutator (stepped w t) t) ≡ work_of (mutator w t)
work_stays w t kept is busy = ap work_of (stepped_mutator w t kept is) ∙ (step_keeps (its_box w t kept is).capacity (its_step w t kept is busy)).1

-- after a step a mutator is busy just where nothing was answered
pub step_busy : {dated : Bool} → (w : Core) (t : ℕ) → IsKept dated w → IsMutator w.config t → is_busy (mutator w t) ≡ true → is_busy (mutator (stepped w t) t) ≡ is_none (answer_of (mutator (stepped w t) t))
step_busy w t kept is busy =
    let (work, its) = busy_work (mutator w t).phase busy in
    busy_told (mutator (stepped w t) t).phase work (work_stays w t kept is busy ∙ its)

-- a step counts
pub steps_counted : {dated : Bool} → (w : Core) (t : ℕ) → IsKept dated w → IsMutator w.config t → is_busy (mutator w t) ≡ true → (mutator (stepped w t) t).steps ≡ (mutator w t).steps + 1
steps_counted w t kept is busy = ap (λ (p : Private). p.steps) (stepped_mutator w t kept is) ∙ step_counts (its_step w t kept is busy)

-- the steps of a mutator's work are within its limit
pub steps_limited : {dated : Bool} → (w : Core) (t : ℕ) → IsKept dated w → IsMutator w.config t → IfSome (work_of (mutator w t)) (λ work. (mutator w t).steps ≤ limit_of w.config.slots work)
steps_limited w t kept is =
    let own = (actor_of w t kept is).own in
    subst (λ n. IfSome (work_of (mutator w t)) (λ work. (mutator w t).steps ≤ limit_of n work)) own.slots (within_limit (mutator w t) own.machine)

-- no work takes more steps than an allocation may
most_at : (slots steps : ℕ) (x : Option Work) (work : Work) → 0 < slots → x ≡ Some work → IfSome x (λ one. steps ≤ limit_of slots one) → steps ≤ slots + 2
most_at slots steps None work some is few = let not_so : ◌≡◌ {A = Option Work} None (Some work) = is in (cc)
most_at slots steps (Some (works.Command (commands.New reg label))) work some is few = few
most_at slots steps (Some (works.Command (commands.Leaf reg label))) work some is few = few
most_at slots steps (Some (works.Command (commands.Put src f val))) work some is few = let two : steps ≤ 2 = few in omega arith
most_at slots steps (Some (works.Command commands.Leave)) work some is few = let three : steps ≤ 3 = few in omega arith
most_at slots steps (Some (works.Command commands.Park)) work some is few = let two : steps ≤ 2 = few in omega arith
most_at slots steps (Some (works.Command commands.Unpark)) work some is few = let two : steps ≤ 2 = few in omega arith
most_at slots steps (Some works.Poll) work some is few = let three : steps ≤ 3 = few in omega arith
most_at slots steps _ work some is few = let one : steps ≤ 1 = few in omega arith

most_steps : {dated : Bool} → (w : Core) (t : ℕ) → IsKept dated w → IsMutator w.config t → is_busy (mutator w t) ≡ true → (mutator w t).steps ≤ w.config.slots + 2
most_steps w t kept is busy =
    let (work, its) = busy_work (mutator w t).phase busy in
    most_at w.config.slots (mutator w t).steps (work_of (mutator w t)) work kept.config.some_slots its (steps_limited w t kept is)

-- a loop of steps comes nearer to its end
pub nearer : {dated : Bool} → (before w v : Core) (t : ℕ) → IsKept dated w → IsMutator w.config t → is_busy (mutator w t) ≡ true → Waits before w t → v ≡ stepped w t
    → before.config.slots + 3 - (mutator v t).steps < before.config.slots + 3 - (mutator w t).steps
nearer before w v t kept is busy waits steps =
    let slots : w.config.slots ≡ before.config.slots = ap (λ (c : Config). c.slots) (waits_config before w t waits) in
    let most : (mutator w t).steps ≤ w.config.slots + 2 = most_steps w t kept is busy in
    let more : (mutator v t).steps ≡ (mutator w t).steps + 1 = ap (λ (x : Core). (mutator x t).steps) steps ∙ steps_counted w t kept is busy in
    omega arith

-- a mutator that gives its mailbox back finishes its poll
giving_answers : {dated : Bool} → (w : Core) (t : ℕ) → IsKept dated w → IsMutator w.config t → is_busy (mutator w t) ≡ true → (mutator w t).phase ≡ Giving → answer_of (mutator (stepped w t) t) ≡ Some (makes.Crossed (Some ((mutator w t).epoch + 1)))
giving_answers w t kept is busy phase =
    ap answer_of (stepped_mutator w t kept is)
    ∙ ((poll_has_cause (mutator w t) (found_by w t) (box w t) busy (actor_of w t kept is).own.between).some ((mutator w t).epoch + 1)).1 (phase, refl)

-- Steps that finished nothing, and one more that finishes nothing either.
pub waited : {dated : Bool} → (before w v : Core) (t : ℕ) → IsKept dated w → IsMutator w.config t → is_busy (mutator w t) ≡ true → Waits before w t → v ≡ stepped w t → answer_of (mutator v t) ≡ None → Waits before v t
waited before w v t kept is busy waits steps none = go waits
  where
    told : (made : Made) → answer_of (mutator v t) ≡ Some made → Waits before v t
    told made answer =
        let not_so : ◌≡◌ {A = Option Made} None (Some made) = sym none ∙ answer in
        (cc)

    -- the step that gives a mailbox back answers
    gives : (made : Made) → answer_of (mutator (stepped w t) t) ≡ Some made → Waits before v t
    gives made answer = told made (ap (λ (x : Core). answer_of (mutator x t)) steps ∙ answer)

    parting : (mutator w t).phase ≡ Parting → Waits before v t
    parting phase = gives (makes.Answered (plain answers.Done)) (parting_says w t kept is phase).answer

    leaves : OnlyWorks before w t → (mutator w t).phase ≡ Leaving → Waits before v t
    leaves only phase =
        let (parts, gone) = leaving_says w t kept is phase in
        subst (λ (x : Core). Waits before x t) (sym steps) (Waits.parts parts (works_let_go before w (stepped w t) t is.0 only gone))

    -- no other step takes the mailbox to leave
    stays_here : IsStayingIn (mutator w t).phase → (mutator v t).phase ≡ Parting → ⊥
    stays_here stays parts =
        subst IsStayingIn (parts_from (its_step w t kept is busy) (ap (λ (p : Private). p.phase) (sym (stepped_mutator w t kept is)) ∙ ap (λ (x : Core). (mutator x t).phase) (sym steps) ∙ parts)) stays

    says : OnlyWorks before w t → HasFound w (mutator w t).from (mutator w t).phase → IsStayingIn (mutator w t).phase → Says w t (mutator v t) v → Waits before v t
    says only found stays (Says.decided cmd its_told work answer said staying refused) = told (makes.Answered its_told) answer
    says only found stays (Says.going answer here finds) =
        Waits.works (works_both before w v t only here) (works_found w v t (mutator v t).from (mutator v t).phase here (finds found)) (λ parts. absurd (stays_here stays parts))
    says only found stays (Says.holding answer phase still epoch) = Waits.holds phase (quiet_both before w v t (works_quiet before w t is.0 only) still) (epoch ∙ ap (λ (p : Private). p.epoch) only.own)
    says only found stays (Says.stayed answer work here its_only) = told (makes.Crossed None) answer
    says only found stays (Says.crossed answer work phase still epoch log) = told (makes.Crossed (Some ((mutator w t).epoch + 1))) answer

    go : Waits before w t → Waits before v t
    go (Waits.holds phase still epoch) = gives (makes.Crossed (Some ((mutator w t).epoch + 1))) (giving_answers w t kept is busy phase)
    go (Waits.parts phase gone) = parting phase
    go (Waits.works only found since) = elim (leaves_or_stays (mutator w t).phase) [
      | inl leaving ↦ leaves only leaving
      | inr (inl parts) ↦ parting parts
      | inr (inr stays) ↦ says only found stays (subst (λ (x : Core). Says w t (mutator x t) x) (sym steps) (step_says w t kept is busy stays))
    ]
