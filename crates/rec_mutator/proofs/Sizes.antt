-- No step changes the numbers of a machine, how many registers it has, what its log can hold, or which work was begun; and
-- each step counts.
use Rattle.std.proofs.Common.{◌≡◌, ◌≢◌, ℕ, ◌+◌, Option, None, Some, List, true, length, refl, sym, ap, subst, ◌∙◌}
use Rattle.std.proofs.lemmas.List.{length-replicate, length-set}
use Rattle.rec_word.specs.declared.op.Op.{Op}
use Rattle.rec_model.specs.declared.command.Cmd.{Cmd}
use Rattle.rec_model.specs.declared.told.Told.{Told}
use Rattle.rec_log.specs.declared.contents.Contents.{Contents}
use Rattle.rec_log.specs.declared.entry.Entry.{Entry}
use Rattle.rec_mutator.specs.Private.{Private, KeepsSizes, is_busy, is_busy_at, work_of, work_at}
use Rattle.rec_mutator.specs.Took.{IsBetween, took_of, took_at, begun_by}
use Rattle.rec_mutator.specs.Step.{Step, Decides, GoesOn, LetsGo, HasLeft, Crosses}
use Rattle.rec_mutator.specs.declared.phase.Phase.{Phase}
use Rattle.rec_mutator.specs.declared.phase.Phase.TheVariants.{Begun, Crossing, Swapping, Leaving, Retiring, Parting, Passing}
use Rattle.rec_mutator.specs.declared.work.Work.{Work}
use Rattle.rec_mutator.specs.declared.work.Work.TheVariants as works
use Rattle.rec_mutator.proofs.Steps.{TakesNone, learnt_made}

-- an answer keeps them, if it leaves as many registers, and the work, if it is the command's
decided_keeps : {p : Private} {op : Op} {q : Private} {cmd : Cmd} {at : Phase} {its_op : Op} {registers : List (Option ℕ)} {entries : List Entry} {told : Told}
    → length registers ≡ length p.registers → work_at at ≡ Some (works.Command cmd) → Decides p op q cmd at its_op registers entries told → KeepsSizes p q × (work_of q ≡ work_of p)
decided_keeps {p = p} {cmd = cmd} {registers = registers} {entries = entries} {told = told} many work d = (
  subst (KeepsSizes p) (sym d.after) (record { number = refl; slots = refl; fields = refl; registers = many; capacity = refl; parked = refl }),
  ap work_of d.after ∙ sym (ap work_at d.phase ∙ work),
)

-- so does a step after which the work goes on
going_on_keeps : {p : Private} {op : Op} {q : Private} {at : Phase} {its_op : Op} {next_phase : Phase}
    → work_at at ≡ work_at next_phase → GoesOn p op q at its_op next_phase → KeepsSizes p q × (work_of q ≡ work_of p)
going_on_keeps {p = p} work g = (
  subst (KeepsSizes p) (sym g.after) (record { number = refl; slots = refl; fields = refl; registers = refl; capacity = refl; parked = refl }),
  ap work_of g.after ∙ sym (ap work_at g.phase ∙ work),
)

-- so does a step of a crossing, with a buffer that can hold as much
crossing_keeps : {p : Private} {op : Op} {q : Private} {at : Phase} {its_op : Op} {epoch : ℕ} {log : Contents} {next_phase : Phase}
    → work_at at ≡ work_at next_phase → log.capacity ≡ p.log.capacity → Crosses p op q at its_op epoch log next_phase → KeepsSizes p q × (work_of q ≡ work_of p)
crossing_keeps {p = p} work sized c = (
  subst (KeepsSizes p) (sym c.after) (record { number = refl; slots = refl; fields = refl; registers = refl; capacity = sized; parked = refl }),
  ap work_of c.after ∙ sym (ap work_at c.phase ∙ work),
)

-- so does the step by which a mutator lets its registers go
letting_go_keeps : {p : Private} {op : Op} {q : Private} {log : Contents} → log.capacity ≡ p.log.capacity → LetsGo p op q log → KeepsSizes p q × (work_of q ≡ work_of p)
letting_go_keeps {p = p} sized l = (
  subst (KeepsSizes p) (sym l.after) (record { number = refl; slots = refl; fields = refl; registers = length-replicate (length p.registers) None; capacity = sized; parked = refl }),
  ap work_of l.after ∙ sym (ap work_at l.phase),
)

having_left_keeps : {p : Private} {op : Op} {q : Private} → HasLeft p op q → KeepsSizes p q × (work_of q ≡ work_of p)
having_left_keeps {p = p} l = (
  subst (KeepsSizes p) (sym l.after) (record { number = refl; slots = refl; fields = refl; registers = refl; capacity = refl; parked = refl }),
  ap work_of l.after ∙ sym (ap work_at l.phase),
)

-- every step keeps sizes and work
pub step_keeps : {p : Private} {word : ℕ} {box : Contents} {op : Op} {q : Private} → box.capacity ≡ p.log.capacity → Step p word box op q → KeepsSizes p q × (work_of q ≡ work_of p)
step_keeps {p = p} sized (Step.null reg d) = decided_keeps (length-set p.registers reg _) refl d
step_keeps {p = p} sized (Step.copy dst src d) = decided_keeps (length-set p.registers dst _) refl d
step_keeps sized (Step.compare a b d) = decided_keeps refl refl d
step_keeps sized (Step.park d) = decided_keeps refl refl d
step_keeps sized (Step.unpark d) = decided_keeps refl refl d
step_keeps sized (Step.get_of_null dst src f names d) = decided_keeps refl refl d
step_keeps {p = p} sized (Step.get dst src f slot names d) = decided_keeps (length-set p.registers dst _) refl d
step_keeps sized (Step.put_of_null src f val names d) = decided_keeps refl refl d
step_keeps sized (Step.put_refused src f val slot names full d) = decided_keeps refl refl d
step_keeps sized (Step.put_into_leaf src f val slot names room leaf d) = decided_keeps refl refl d
step_keeps sized (Step.put_begins src f val slot names room leaf g) = going_on_keeps refl g
step_keeps sized (Step.put src f val slot d) = decided_keeps refl refl d
step_keeps sized (Step.value_of_null reg names d) = decided_keeps refl refl d
step_keeps sized (Step.value reg slot names d) = decided_keeps refl refl d
step_keeps sized (Step.new_refused reg label leaf full d) = decided_keeps refl refl d
step_keeps sized (Step.new_begins reg label leaf room g) = going_on_keeps refl g
step_keeps {p = p} sized (Step.new_wins reg label leaf before probed free d) = decided_keeps (length-set p.registers reg _) refl d
step_keeps sized (Step.new_goes_on reg label leaf before probed taken more g) = going_on_keeps refl g
step_keeps sized (Step.new_finds_none reg label leaf before probed taken last g) = going_on_keeps refl g
step_keeps sized (Step.new_is_full reg label leaf before still d) = decided_keeps refl refl d
step_keeps sized (Step.new_is_busy reg label leaf before moves d) = decided_keeps refl refl d
step_keeps sized (Step.leave_refused uncollected d) = decided_keeps refl refl d
step_keeps sized (Step.leave_begins collected g) = going_on_keeps refl g
step_keeps sized (Step.leave l) = letting_go_keeps sized l
step_keeps sized (Step.leave_ends l) = having_left_keeps l
step_keeps sized (Step.poll_stays own g) = going_on_keeps refl g
step_keeps sized (Step.poll_crosses other g) = going_on_keeps refl g
step_keeps sized (Step.take_box c) = crossing_keeps refl sized c
step_keeps sized (Step.give_box c) = crossing_keeps refl refl c

-- so does what is learnt, where no mailbox is taken
pub took_keeps : (p : Private) (word : ℕ) → is_busy p ≡ true → TakesNone p.phase → KeepsSizes p (took_of p word) × (work_of (took_of p word) ≡ work_of p)
took_keeps p word busy none = step_keeps {box = p.log} refl (learnt_made p word p.log busy none)

-- so does what the first step of a work learns
pub first_keeps : (p q : Private) (word : ℕ) (work : Work) → p.phase ≡ Begun work → q ≡ begun_by p word work → KeepsSizes p q × (work_of q ≡ work_of p)
unfolding took_of took_at
first_keeps p q word work begun is =
    let took : took_of p word ≡ begun_by p word work = ap (took_at p word) begun in
    let busy : is_busy p ≡ true = ap is_busy_at begun in
    subst (λ (x : Private). KeepsSizes p x × (work_of x ≡ work_of p)) (sym (is ∙ sym took)) (took_keeps p word busy (subst TakesNone (sym begun) tt))

-- each step counts
pub step_counts : {p : Private} {word : ℕ} {box : Contents} {op : Op} {q : Private} → Step p word box op q → q.steps ≡ p.steps + 1
step_counts (Step.null reg d) = ap (λ (x : Private). x.steps) d.after
step_counts (Step.copy dst src d) = ap (λ (x : Private). x.steps) d.after
step_counts (Step.compare a b d) = ap (λ (x : Private). x.steps) d.after
step_counts (Step.park d) = ap (λ (x : Private). x.steps) d.after
step_counts (Step.unpark d) = ap (λ (x : Private). x.steps) d.after
step_counts (Step.get_of_null dst src f names d) = ap (λ (x : Private). x.steps) d.after
step_counts (Step.get dst src f slot names d) = ap (λ (x : Private). x.steps) d.after
step_counts (Step.put_of_null src f val names d) = ap (λ (x : Private). x.steps) d.after
step_counts (Step.put_refused src f val slot names full d) = ap (λ (x : Private). x.steps) d.after
step_counts (Step.put_into_leaf src f val slot names room leaf d) = ap (λ (x : Private). x.steps) d.after
step_counts (Step.put_begins src f val slot names room leaf g) = ap (λ (x : Private). x.steps) g.after
step_counts (Step.put src f val slot d) = ap (λ (x : Private). x.steps) d.after
step_counts (Step.value_of_null reg names d) = ap (λ (x : Private). x.steps) d.after
step_counts (Step.value reg slot names d) = ap (λ (x : Private). x.steps) d.after
step_counts (Step.new_refused reg label leaf full d) = ap (λ (x : Private). x.steps) d.after
step_counts (Step.new_begins reg label leaf room g) = ap (λ (x : Private). x.steps) g.after
step_counts (Step.new_wins reg label leaf before probed free d) = ap (λ (x : Private). x.steps) d.after
step_counts (Step.new_goes_on reg label leaf before probed taken more g) = ap (λ (x : Private). x.steps) g.after
step_counts (Step.new_finds_none reg label leaf before probed taken last g) = ap (λ (x : Private). x.steps) g.after
step_counts (Step.new_is_full reg label leaf before still d) = ap (λ (x : Private). x.steps) d.after
step_counts (Step.new_is_busy reg label leaf before moves d) = ap (λ (x : Private). x.steps) d.after
step_counts (Step.leave_refused uncollected d) = ap (λ (x : Private). x.steps) d.after
step_counts (Step.leave_begins collected g) = ap (λ (x : Private). x.steps) g.after
step_counts (Step.leave l) = ap (λ (x : Private). x.steps) l.after
step_counts (Step.leave_ends l) = ap (λ (x : Private). x.steps) l.after
step_counts (Step.poll_stays own g) = ap (λ (x : Private). x.steps) g.after
step_counts (Step.poll_crosses other g) = ap (λ (x : Private). x.steps) g.after
step_counts (Step.take_box c) = ap (λ (x : Private). x.steps) c.after
step_counts (Step.give_box c) = ap (λ (x : Private). x.steps) c.after

-- no step changes whether words are dated
pub step_dates : {p : Private} {word : ℕ} {box : Contents} {op : Op} {q : Private} → Step p word box op q → q.dates ≡ p.dates
step_dates (Step.null reg d) = ap (λ (x : Private). x.dates) d.after
step_dates (Step.copy dst src d) = ap (λ (x : Private). x.dates) d.after
step_dates (Step.compare a b d) = ap (λ (x : Private). x.dates) d.after
step_dates (Step.park d) = ap (λ (x : Private). x.dates) d.after
step_dates (Step.unpark d) = ap (λ (x : Private). x.dates) d.after
step_dates (Step.get_of_null dst src f names d) = ap (λ (x : Private). x.dates) d.after
step_dates (Step.get dst src f slot names d) = ap (λ (x : Private). x.dates) d.after
step_dates (Step.put_of_null src f val names d) = ap (λ (x : Private). x.dates) d.after
step_dates (Step.put_refused src f val slot names full d) = ap (λ (x : Private). x.dates) d.after
step_dates (Step.put_into_leaf src f val slot names room leaf d) = ap (λ (x : Private). x.dates) d.after
step_dates (Step.put_begins src f val slot names room leaf g) = ap (λ (x : Private). x.dates) g.after
step_dates (Step.put src f val slot d) = ap (λ (x : Private). x.dates) d.after
step_dates (Step.value_of_null reg names d) = ap (λ (x : Private). x.dates) d.after
step_dates (Step.value reg slot names d) = ap (λ (x : Private). x.dates) d.after
step_dates (Step.new_refused reg label leaf full d) = ap (λ (x : Private). x.dates) d.after
step_dates (Step.new_begins reg label leaf room g) = ap (λ (x : Private). x.dates) g.after
step_dates (Step.new_wins reg label leaf before probed free d) = ap (λ (x : Private). x.dates) d.after
step_dates (Step.new_goes_on reg label leaf before probed taken more g) = ap (λ (x : Private). x.dates) g.after
step_dates (Step.new_finds_none reg label leaf before probed taken last g) = ap (λ (x : Private). x.dates) g.after
step_dates (Step.new_is_full reg label leaf before still d) = ap (λ (x : Private). x.dates) d.after
step_dates (Step.new_is_busy reg label leaf before moves d) = ap (λ (x : Private). x.dates) d.after
step_dates (Step.leave_refused uncollected d) = ap (λ (x : Private). x.dates) d.after
step_dates (Step.leave_begins collected g) = ap (λ (x : Private). x.dates) g.after
step_dates (Step.leave l) = ap (λ (x : Private). x.dates) l.after
step_dates (Step.leave_ends l) = ap (λ (x : Private). x.dates) l.after
step_dates (Step.poll_stays own g) = ap (λ (x : Private). x.dates) g.after
step_dates (Step.poll_crosses other g) = ap (λ (x : Private). x.dates) g.after
step_dates (Step.take_box c) = ap (λ (x : Private). x.dates) c.after
step_dates (Step.give_box c) = ap (λ (x : Private). x.dates) c.after

pub first_counts : (p q : Private) (word : ℕ) (work : Work) → p.phase ≡ Begun work → q ≡ begun_by p word work → q.steps ≡ p.steps + 1
unfolding took_of took_at
first_counts p q word work begun is =
    let took : took_of p word ≡ begun_by p word work = ap (took_at p word) begun in
    let busy : is_busy p ≡ true = ap is_busy_at begun in
    subst (λ (x : Private). x.steps ≡ p.steps + 1) (sym (is ∙ sym took)) (step_counts (learnt_made p word p.log busy (subst TakesNone (sym begun) tt)))

-- what is learnt of the word keeps sizes and work, and counts, by phase
learnt_at : (p : Private) (word : ℕ) (at : Phase) → p.phase ≡ at → is_busy_at at ≡ true → IsBetween at → KeepsSizes p (took_at p word at) × (work_of (took_at p word at) ≡ work_of p) × ((took_at p word at).steps ≡ p.steps + 1)
unfolding took_of took_at
learnt_at p word Crossing is busy between = (record { number = refl; slots = refl; fields = refl; registers = refl; capacity = refl; parked = refl }, sym (ap work_at is), refl)
learnt_at p word Swapping is busy between = absurd between
learnt_at p word Leaving is busy between =
    (record { number = refl; slots = refl; fields = refl; registers = length-replicate (length p.registers) None; capacity = refl; parked = refl }, sym (ap work_at is), refl)
learnt_at p word Retiring is busy between = absurd between
learnt_at p word (Passing passage) is busy between = absurd between
learnt_at p word at is busy between =
    let took : took_of p word ≡ took_at p word at = ap (took_at p word) is in
    let now : is_busy p ≡ true = ap is_busy_at is ∙ busy in
    let none : TakesNone p.phase = subst TakesNone (sym is) tt in
    let keeps = took_keeps p word now none in
    subst (λ (q : Private). KeepsSizes p q × (work_of q ≡ work_of p) × (q.steps ≡ p.steps + 1)) took (keeps.0, keeps.1, step_counts (learnt_made p word p.log now none))

-- what is learnt keeps sizes and work, and counts
pub learnt_keeps : (p : Private) (word : ℕ) → is_busy p ≡ true → IsBetween p.phase → KeepsSizes p (took_of p word) × (work_of (took_of p word) ≡ work_of p) × ((took_of p word).steps ≡ p.steps + 1)
unfolding took_of
learnt_keeps p word busy between = learnt_at p word p.phase refl busy between

-- no step but the one by which a mutator has left marks that it has
pub step_left : {p : Private} {word : ℕ} {box : Contents} {op : Op} {q : Private} → p.phase ≢ Parting → Step p word box op q → q.left ≡ p.left
step_left stays (Step.null reg d) = ap (λ (x : Private). x.left) d.after
step_left stays (Step.copy dst src d) = ap (λ (x : Private). x.left) d.after
step_left stays (Step.compare a b d) = ap (λ (x : Private). x.left) d.after
step_left stays (Step.park d) = ap (λ (x : Private). x.left) d.after
step_left stays (Step.unpark d) = ap (λ (x : Private). x.left) d.after
step_left stays (Step.get_of_null dst src f names d) = ap (λ (x : Private). x.left) d.after
step_left stays (Step.get dst src f slot names d) = ap (λ (x : Private). x.left) d.after
step_left stays (Step.put_of_null src f val names d) = ap (λ (x : Private). x.left) d.after
step_left stays (Step.put_refused src f val slot names full d) = ap (λ (x : Private). x.left) d.after
step_left stays (Step.put_into_leaf src f val slot names room leaf d) = ap (λ (x : Private). x.left) d.after
step_left stays (Step.put_begins src f val slot names room leaf g) = ap (λ (x : Private). x.left) g.after
step_left stays (Step.put src f val slot d) = ap (λ (x : Private). x.left) d.after
step_left stays (Step.value_of_null reg names d) = ap (λ (x : Private). x.left) d.after
step_left stays (Step.value reg slot names d) = ap (λ (x : Private). x.left) d.after
step_left stays (Step.new_refused reg label leaf full d) = ap (λ (x : Private). x.left) d.after
step_left stays (Step.new_begins reg label leaf room g) = ap (λ (x : Private). x.left) g.after
step_left stays (Step.new_wins reg label leaf before probed free d) = ap (λ (x : Private). x.left) d.after
step_left stays (Step.new_goes_on reg label leaf before probed taken more g) = ap (λ (x : Private). x.left) g.after
step_left stays (Step.new_finds_none reg label leaf before probed taken last g) = ap (λ (x : Private). x.left) g.after
step_left stays (Step.new_is_full reg label leaf before still d) = ap (λ (x : Private). x.left) d.after
step_left stays (Step.new_is_busy reg label leaf before moves d) = ap (λ (x : Private). x.left) d.after
step_left stays (Step.leave_refused uncollected d) = ap (λ (x : Private). x.left) d.after
step_left stays (Step.leave_begins collected g) = ap (λ (x : Private). x.left) g.after
step_left stays (Step.leave l) = ap (λ (x : Private). x.left) l.after
step_left stays (Step.leave_ends l) = absurd (stays l.phase)
step_left stays (Step.poll_stays own g) = ap (λ (x : Private). x.left) g.after
step_left stays (Step.poll_crosses other g) = ap (λ (x : Private). x.left) g.after
step_left stays (Step.take_box c) = ap (λ (x : Private). x.left) c.after
step_left stays (Step.give_box c) = ap (λ (x : Private). x.left) c.after
