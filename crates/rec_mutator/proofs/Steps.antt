-- What comes next and what is learnt are a step: by the phase, and then by the registers and the log.
use Rattle.std.proofs.Common.{◌≡◌, inl, inr, ℕ, ◌+◌, ◌%◌, ◌==◌, ◌&&◌, Bool, true, false, Option, None, Some, List, length, refl, sym, ap, subst, ◌∙◌}
use Rattle.std.proofs.lemmas.Bool.{false≢true, eqb-true, cond-true, cond-false, eq-eqb, ne_eqb, cases_eq}
use Rattle.rec_word.specs.Header.{is_leaf}
use Rattle.rec_word.specs.Mailbox.{mailbox_of}
use Rattle.rec_word.specs.declared.mailbox.Mailbox.{Mailbox}
use Rattle.rec_word.specs.declared.mailbox.Mailbox.TheVariants.{Retired, Spare, WithCollector, WithMutator}
use Rattle.rec_word.specs.declared.op.Op.{Op}
use Rattle.rec_word.specs.declared.op.Op.TheVariants as ops
use Rattle.rec_model.specs.declared.answer.Answer.{Answer}
use Rattle.rec_model.specs.declared.answer.Answer.TheVariants as answers
use Rattle.rec_model.specs.declared.command.Cmd.{Cmd}
use Rattle.rec_model.specs.declared.command.Cmd.TheVariants as commands
use Rattle.rec_model.specs.declared.told.Told.{Told}
use Rattle.rec_log.specs.declared.contents.Contents.{Contents}
use Rattle.rec_log.specs.declared.entry.Entry.{Entry}
use Rattle.rec_model.specs.Asking.{plain, allocation}
use Rattle.rec_mutator.specs.Private.{Private, register, is_full, is_busy_at, is_busy}
use Rattle.rec_mutator.specs.Next.{next_of, next_at, read_op, write_op, label_op, new_op}
use Rattle.rec_mutator.specs.Took.{took_of, took_at, moved, answered, read_by, allowed_by, written_by, label_by, new_by, leaving_by, is_uncollected_in, polled, swapped_at, swapped_of, step_of, left_at, left_of, IsBetween}
use Rattle.rec_mutator.specs.Step.{Step, Decides, GoesOn, Crosses, HasRoom, IsStill, IsUncollected, LeavesBox, TakesBox, WholeStep}
use Rattle.rec_mutator.specs.declared.phase.Phase.{Phase}
use Rattle.rec_mutator.specs.declared.phase.Phase.TheVariants.{Idle, Begun, Scanning, Scanned, Storing, Crossing, Swapping, Giving, Leaving, Retiring, Parting, Finished, Passing}
use Rattle.rec_mutator.specs.declared.work.Work.{Work}
use Rattle.rec_mutator.specs.declared.work.Work.TheVariants as works

-- a step of an allocation that was begun
new_step : (p : Private) (word reg label : ℕ) (leaf : Bool) (box : Contents) → p.phase ≡ Begun (works.Command (allocation leaf reg label)) → Step p word box (new_op p (is_full p)) (new_by p word reg label leaf (is_full p))
new_step p word reg label leaf box is = elim (cases_eq (length p.log.entries) p.log.capacity) [
  | inl full ↦
      let t : is_full p ≡ true = eq-eqb (length p.log.entries) p.log.capacity full in
      Step.new_refused reg label leaf full (record {
        phase = is;
        operation = cond-true (is_full p) _ _ t;
        after = cond-true (is_full p) _ _ t;
      })
  | inr room ↦
      let t : is_full p ≡ false = ne_eqb (length p.log.entries) p.log.capacity room in
      Step.new_begins reg label leaf room (record {
        phase = is;
        operation = cond-false (is_full p) _ _ t;
        after = cond-false (is_full p) _ _ t;
      })
]

-- a step of a read
get_step : (p : Private) (word dst src f : ℕ) (box : Contents) (x : Option ℕ) → register p src ≡ x → p.phase ≡ Begun (works.Command (commands.Get dst src f))
    → Step p word box (read_op p f x) (read_by p (commands.Get dst src f) dst word x)
get_step p word dst src f box None names is = Step.get_of_null dst src f names (record { phase = is; operation = refl; after = refl })
get_step p word dst src f box (Some slot) names is = Step.get dst src f slot names (record { phase = is; operation = refl; after = refl })

-- the header that a write looks at
allowed_step : (p : Private) (word src f val slot : ℕ) (box : Contents) (leaf : Bool) → register p src ≡ Some slot → HasRoom p → is_leaf word ≡ leaf → p.phase ≡ Begun (works.Command (commands.Put src f val))
    → Step p word box (ops.LoadHeader slot) (allowed_by p src f val slot leaf)
allowed_step p word src f val slot box true names room its is = Step.put_into_leaf src f val slot names room its (record { phase = is; operation = refl; after = refl })
allowed_step p word src f val slot box false names room its is = Step.put_begins src f val slot names room its (record { phase = is; operation = refl; after = refl })

-- a step of a write
put_step : (p : Private) (word src f val : ℕ) (box : Contents) (x : Option ℕ) (full : Bool) → register p src ≡ x → is_full p ≡ full → p.phase ≡ Begun (works.Command (commands.Put src f val))
    → Step p word box (write_op p x full) (written_by p src f val word x full)
put_step p word src f val box None full names room is = Step.put_of_null src f val names (record { phase = is; operation = refl; after = refl })
put_step p word src f val box (Some slot) true names room is = Step.put_refused src f val slot names (eqb-true (length p.log.entries) p.log.capacity room) (record { phase = is; operation = refl; after = refl })
put_step p word src f val box (Some slot) false names room is = allowed_step p word src f val slot box (is_leaf word) names (λ full. false≢true (sym room ∙ eq-eqb (length p.log.entries) p.log.capacity full)) refl is

-- a step of a look at a label
value_step : (p : Private) (word reg : ℕ) (box : Contents) (x : Option ℕ) → register p reg ≡ x → p.phase ≡ Begun (works.Command (commands.Value reg))
    → Step p word box (label_op p x) (answered p (commands.Value reg) (plain (label_by word x)))
value_step p word reg box None names is = Step.value_of_null reg names (record { phase = is; operation = refl; after = refl })
value_step p word reg box (Some slot) names is = Step.value reg slot names (record { phase = is; operation = refl; after = refl })

-- a probe
probe_step : (p : Private) (word reg label : ℕ) (leaf : Bool) (before probed : ℕ) (box : Contents) → p.phase ≡ Scanning reg label leaf before probed → Step p word box (next_at p (Scanning reg label leaf before probed)) (took_at p word (Scanning reg label leaf before probed))
unfolding next_at took_at
probe_step p word reg label leaf before probed box is = elim (cases_eq word 0) [
  | inl free ↦ Step.new_wins reg label leaf before probed free (record { phase = is; operation = refl; after = cond-true (word == 0) _ _ (eq-eqb word 0 free) })
  | inr taken ↦ elim (cases_eq (probed + 1) p.slots) [
    | inl last ↦
        Step.new_finds_none reg label leaf before probed taken last (record {
          phase = is;
          operation = refl;
          after = cond-false (word == 0) _ _ (ne_eqb word 0 taken) ∙ ap (moved p) (cond-true (probed + 1 == p.slots) (Scanned reg label leaf before) (Scanning reg label leaf before (probed + 1)) (eq-eqb (probed + 1) p.slots last));
        })
    | inr more ↦
        Step.new_goes_on reg label leaf before probed taken more (record {
          phase = is;
          operation = refl;
          after = cond-false (word == 0) _ _ (ne_eqb word 0 taken) ∙ ap (moved p) (cond-false (probed + 1 == p.slots) (Scanned reg label leaf before) (Scanning reg label leaf before (probed + 1)) (ne_eqb (probed + 1) p.slots more));
        })
  ]
]

-- the last step of an allocation that found no free slot
last_step : (p : Private) (word reg label : ℕ) (leaf : Bool) (before : ℕ) (box : Contents) → p.phase ≡ Scanned reg label leaf before → Step p word box (next_at p (Scanned reg label leaf before)) (took_at p word (Scanned reg label leaf before))
unfolding next_at took_at
last_step p word reg label leaf before box is =
    let tells : Answer → Private = λ answer. answered p (allocation leaf reg label) (plain answer) in
    let still : Bool = (before % 2 == 0) && (before == word) in
    let busy : (IsStill before word → ⊥) → still ≡ false → Step p word box (next_at p (Scanned reg label leaf before)) (took_at p word (Scanned reg label leaf before))
    = λ moves no. Step.new_is_busy reg label leaf before moves (record { phase = is; operation = refl; after = ap tells (cond-false still answers.Full (answers.Busy before word) no) }) in
    elim (cases_eq (before % 2) 0) [
      | inl even ↦ elim (cases_eq before word) [
        | inl same_word ↦
            let yes : still ≡ true = rw (eq-eqb (before % 2) 0 even, eq-eqb before word same_word) refl in
            Step.new_is_full reg label leaf before (even, same_word) (record { phase = is; operation = refl; after = ap tells (cond-true still answers.Full (answers.Busy before word) yes) })
        | inr other ↦ busy (λ s. other s.1) (rw (eq-eqb (before % 2) 0 even, ne_eqb before word other) refl)
      ]
      | inr odd ↦ busy (λ s. odd s.0) (rw (ne_eqb (before % 2) 0 odd) refl)
    ]

-- a mailbox that is collected is nowhere else
no_other : (word : ℕ) (m : Mailbox) → mailbox_of word ≡ m → is_uncollected_in m ≡ false → IsUncollected word → ⊥
no_other word m so none (inl other) = false≢true (sym none ∙ ap is_uncollected_in (sym so ∙ other))
no_other word m so none (inr other) = false≢true (sym none ∙ ap is_uncollected_in (sym so ∙ other))

-- where the own mailbox is tells whether a mutator leaves
leave_step : (p : Private) (word : ℕ) (box : Contents) (m : Mailbox) → mailbox_of word ≡ m → p.phase ≡ Begun (works.Command commands.Leave) → Step p word box (ops.LoadCross p.number) (leaving_by p (is_uncollected_in m))
leave_step p word box Retired so is = Step.leave_refused (inl so) (record { phase = is; operation = refl; after = refl })
leave_step p word box WithCollector so is = Step.leave_refused (inr so) (record { phase = is; operation = refl; after = refl })
leave_step p word box Spare so is = Step.leave_begins (no_other word Spare so refl) (record { phase = is; operation = refl; after = refl })
leave_step p word box WithMutator so is = Step.leave_begins (no_other word WithMutator so refl) (record { phase = is; operation = refl; after = refl })

-- the first step of a command
command_step : (p : Private) (word : ℕ) (box : Contents) (cmd : Cmd) → p.phase ≡ Begun (works.Command cmd) → Step p word box (next_at p (Begun (works.Command cmd))) (took_at p word (Begun (works.Command cmd)))
unfolding next_at took_at
command_step p word box (commands.New reg label) is = new_step p word reg label false box is
command_step p word box (commands.Leaf reg label) is = new_step p word reg label true box is
command_step p word box (commands.Null reg) is = Step.null reg (record { phase = is; operation = refl; after = refl })
command_step p word box (commands.Copy dst src) is = Step.copy dst src (record { phase = is; operation = refl; after = refl })
command_step p word box (commands.Get dst src f) is = get_step p word dst src f box (register p src) refl is
command_step p word box (commands.Put src f val) is = put_step p word src f val box (register p src) (is_full p) refl refl is
command_step p word box (commands.Value reg) is = value_step p word reg box (register p reg) refl is
command_step p word box (commands.Same a b) is = Step.compare a b (record { phase = is; operation = refl; after = refl })
command_step p word box commands.Leave is = leave_step p word box (mailbox_of word) refl is
command_step p word box commands.Park is = Step.park (record { phase = is; operation = refl; after = refl })
command_step p word box commands.Unpark is = Step.unpark (record { phase = is; operation = refl; after = refl })

-- a poll that looked at the epoch word
poll_step : (p : Private) (word : ℕ) (box : Contents) → p.phase ≡ Begun works.Poll → Step p word box (next_at p (Begun works.Poll)) (polled p word)
unfolding next_at
poll_step p word box is = elim (cases_eq word p.epoch) [
  | inl own ↦ Step.poll_stays own (record { phase = is; operation = refl; after = ap (moved p) (cond-true (word == p.epoch) _ _ (eq-eqb word p.epoch own)) })
  | inr other ↦ Step.poll_crosses other (record { phase = is; operation = refl; after = ap (moved p) (cond-false (word == p.epoch) _ _ (ne_eqb word p.epoch other)) })
]

-- the first step of a work
begun_step : (p : Private) (word : ℕ) (box : Contents) (work : Work) → p.phase ≡ Begun work → Step p word box (next_at p (Begun work)) (took_at p word (Begun work))
unfolding next_at took_at
begun_step p word box (works.Command cmd) is = command_step p word box cmd is
begun_step p word box works.Poll is = poll_step p word box is

-- no mailbox is taken next, and none is held that waits to be swapped; nor does the mutator park or unpark
abbrev pub TakesNone : Phase → Type 0
TakesNone Crossing = ⊥
TakesNone Swapping = ⊥
TakesNone Leaving = ⊥
TakesNone Retiring = ⊥
TakesNone (Passing passage) = ⊥
TakesNone _ = Unit {0}

-- a step that takes no mailbox, by phase
learnt_at : (p : Private) (word : ℕ) (box : Contents) (phase : Phase) → p.phase ≡ phase → is_busy_at phase ≡ true → TakesNone phase → Step p word box (next_at p phase) (took_at p word phase)
unfolding next_at took_at
learnt_at p word box Idle is busy none = absurd (false≢true busy)
learnt_at p word box (Begun work) is busy none = begun_step p word box work is
learnt_at p word box (Scanning reg label leaf before probed) is busy none = probe_step p word reg label leaf before probed box is
learnt_at p word box (Scanned reg label leaf before) is busy none = last_step p word reg label leaf before box is
learnt_at p word box (Storing src f val slot) is busy none = Step.put src f val slot (record { phase = is; operation = refl; after = refl })
learnt_at p word box Crossing is busy none = absurd none
learnt_at p word box Swapping is busy none = absurd none
learnt_at p word box Giving is busy none = Step.give_box (record { phase = is; operation = refl; after = refl })
learnt_at p word box Leaving is busy none = absurd none
learnt_at p word box Retiring is busy none = absurd none
learnt_at p word box Parting is busy none = Step.leave_ends (record { phase = is; operation = refl; after = refl })
learnt_at p word box (Finished work made) is busy none = absurd (false≢true busy)
learnt_at p word box (Passing passage) is busy none = absurd none

-- a step that takes no mailbox: what comes next, and what is learnt
pub learnt_made : (p : Private) (word : ℕ) (box : Contents) → is_busy p ≡ true → TakesNone p.phase → Step p word box (next_of p) (took_of p word)
unfolding next_of took_of
learnt_made p word box busy none = learnt_at p word box p.phase refl busy none

-- an answered command leaves no mailbox that waits to be swapped
decided_between : {p : Private} {op : Op} {q : Private} {cmd : Cmd} {at : Phase} {its_op : Op} {registers : List (Option ℕ)} {entries : List Entry} {told : Told}
    → Decides p op q cmd at its_op registers entries told → IsBetween q.phase
decided_between d = subst (λ (x : Private). IsBetween x.phase) (sym d.after) tt

-- nor does a work that goes on, if its phase is no such one
going_between : {p : Private} {op : Op} {q : Private} {at : Phase} {its_op : Op} {next_phase : Phase} → IsBetween next_phase → GoesOn p op q at its_op next_phase → IsBetween q.phase
going_between is g = subst (λ (x : Private). IsBetween x.phase) (sym g.after) is

-- nor does a crossing
crossing_between : {p : Private} {op : Op} {q : Private} {at : Phase} {its_op : Op} {epoch : ℕ} {log : Contents} {next_phase : Phase}
    → IsBetween next_phase → Crosses p op q at its_op epoch log next_phase → IsBetween q.phase
crossing_between is c = subst (λ (x : Private). IsBetween x.phase) (sym c.after) is

-- no step leaves a mailbox that waits to be swapped
pub step_between : {p : Private} {word : ℕ} {box : Contents} {op : Op} {q : Private} → Step p word box op q → IsBetween q.phase
step_between (Step.null reg d) = decided_between d
step_between (Step.copy dst src d) = decided_between d
step_between (Step.compare a b d) = decided_between d
step_between (Step.park d) = decided_between d
step_between (Step.unpark d) = decided_between d
step_between (Step.get_of_null dst src f names d) = decided_between d
step_between (Step.get dst src f slot names d) = decided_between d
step_between (Step.put_of_null src f val names d) = decided_between d
step_between (Step.put_refused src f val slot names full d) = decided_between d
step_between (Step.put_into_leaf src f val slot names room leaf d) = decided_between d
step_between (Step.put_begins src f val slot names room leaf g) = going_between tt g
step_between (Step.put src f val slot d) = decided_between d
step_between (Step.value_of_null reg names d) = decided_between d
step_between (Step.value reg slot names d) = decided_between d
step_between (Step.new_refused reg label leaf full d) = decided_between d
step_between (Step.new_begins reg label leaf room g) = going_between tt g
step_between (Step.new_wins reg label leaf before probed free d) = decided_between d
step_between (Step.new_goes_on reg label leaf before probed taken more g) = going_between tt g
step_between (Step.new_finds_none reg label leaf before probed taken last g) = going_between tt g
step_between (Step.new_is_full reg label leaf before still d) = decided_between d
step_between (Step.new_is_busy reg label leaf before moves d) = decided_between d
step_between (Step.leave_refused uncollected d) = decided_between d
step_between (Step.leave_begins collected g) = going_between tt g
step_between (Step.leave l) = subst (λ (x : Private). IsBetween x.phase) (sym l.after) tt
step_between (Step.leave_ends l) = subst (λ (x : Private). IsBetween x.phase) (sym l.after) tt
step_between (Step.poll_stays own g) = going_between tt g
step_between (Step.poll_crosses other g) = going_between tt g
step_between (Step.take_box c) = crossing_between tt c
step_between (Step.give_box c) = crossing_between tt c

-- where no mailbox waits to be swapped, none is
unswapped_at : (q : Private) (box : Contents) (phase : Phase) → IsBetween phase → swapped_at q box phase ≡ q
unfolding swapped_at
unswapped_at q box Swapping is = absurd is
unswapped_at q box Retiring is = absurd is
unswapped_at q box (Passing passage) is = absurd is
unswapped_at q box _ is = refl

pub unswapped : (q : Private) (box : Contents) → IsBetween q.phase → swapped_of q box ≡ q
unfolding swapped_of
unswapped q box is = unswapped_at q box q.phase is

-- a step that takes no mailbox learns of the word alone
pub here_same : (p : Private) (word : ℕ) (box : Contents) → is_busy p ≡ true → TakesNone p.phase → step_of p word box ≡ took_of p word
unfolding step_of
here_same p word box busy none = unswapped (took_of p word) box (step_between (learnt_made p word box busy none))

-- it is a whole step
here_made : (p : Private) (word : ℕ) (box : Contents) → is_busy p ≡ true → TakesNone p.phase → Step p word box (next_of p) (step_of p word box)
here_made p word box busy none = subst (Step p word box (next_of p)) (sym (here_same p word box busy none)) (learnt_made p word box busy none)

-- a step that takes the own mailbox
crossing_made : (p : Private) (word : ℕ) (box : Contents) → p.phase ≡ Crossing → Step p word box (next_of p) (step_of p word box)
unfolding next_of next_at took_of took_at swapped_of swapped_at step_of
crossing_made p word box is =
    Step.take_box (record { phase = is; operation = ap (next_at p) is; after = ap (λ x. swapped_of (took_at p word x) box) is })

leaving_made : (p : Private) (word : ℕ) (box : Contents) → p.phase ≡ Leaving → Step p word box (next_of p) (step_of p word box)
unfolding next_of next_at took_of took_at swapped_of swapped_at step_of
leaving_made p word box is =
    Step.leave (record { phase = is; operation = ap (next_at p) is; after = ap (λ x. swapped_of (took_at p word x) box) is })

-- a step, by phase
step_at : (p : Private) (word : ℕ) (box : Contents) (phase : Phase) → p.phase ≡ phase → is_busy p ≡ true → IsBetween phase → Step p word box (next_of p) (step_of p word box)
step_at p word box Crossing is busy whole = crossing_made p word box is
step_at p word box Swapping is busy whole = absurd whole
step_at p word box Leaving is busy whole = leaving_made p word box is
step_at p word box Retiring is busy whole = absurd whole
step_at p word box (Passing passage) is busy whole = absurd whole
step_at p word box _ is busy whole = here_made p word box busy (subst TakesNone (sym is) tt)

-- what comes next, and what is learnt of the word found and of the mailbox that is taken, is a step
pub step_made : (p : Private) (word : ℕ) (box : Contents) → is_busy p ≡ true → IsBetween p.phase → Step p word box (next_of p) (step_of p word box)
step_made p word box busy whole = step_at p word box p.phase refl busy whole

-- where no mailbox is held, what is in the own one stays
left_same : (q : Private) (box : Contents) (phase : Phase) → q.phase ≡ phase → IsBetween phase → left_of q box ≡ box
unfolding left_of left_at
left_same q box phase is between = ap (left_at q box) is ∙ go phase between
  where
    go : (f : Phase) → IsBetween f → left_at q box f ≡ box
    go Idle b = refl
    go (Begun work) b = refl
    go (Scanning reg label leaf before probed) b = refl
    go (Scanned reg label leaf before) b = refl
    go (Storing src f val slot) b = refl
    go Crossing b = refl
    go Swapping b = absurd b
    go Giving b = refl
    go Leaving b = refl
    go Retiring b = absurd b
    go Parting b = refl
    go (Finished work made) b = refl
    go (Passing passage) b = absurd b

-- what a step leaves in the own mailbox, by phase
leaves_box : (p : Private) (word : ℕ) (box : Contents) (phase : Phase) → p.phase ≡ phase → is_busy p ≡ true → IsBetween phase → LeavesBox p box (left_of (took_of p word) box)
unfolding took_of took_at left_of left_at
leaves_box p word box phase is busy between = go phase is between
  where
    kept : TakesNone p.phase → left_of (took_of p word) box ≡ box
    kept none = left_same (took_of p word) box (took_of p word).phase refl (step_between (learnt_made p word box busy none))

    go : (f : Phase) → p.phase ≡ f → IsBetween f → LeavesBox p box (left_of (took_of p word) box)
    go Idle e b = LeavesBox.keeps (λ n. subst TakesBox e n) (kept (subst TakesNone (sym e) tt))
    go (Begun work) e b = LeavesBox.keeps (λ n. subst TakesBox e n) (kept (subst TakesNone (sym e) tt))
    go (Scanning reg label leaf before probed) e b = LeavesBox.keeps (λ n. subst TakesBox e n) (kept (subst TakesNone (sym e) tt))
    go (Scanned reg label leaf before) e b = LeavesBox.keeps (λ n. subst TakesBox e n) (kept (subst TakesNone (sym e) tt))
    go (Storing src f val slot) e b = LeavesBox.keeps (λ n. subst TakesBox e n) (kept (subst TakesNone (sym e) tt))
    go Crossing e b = LeavesBox.retires e (ap (λ f. left_of (took_at p word f) box) e)
    go Swapping e b = absurd b
    go Giving e b = LeavesBox.keeps (λ n. subst TakesBox e n) (kept (subst TakesNone (sym e) tt))
    go Leaving e b = LeavesBox.lets_go e (ap (λ f. left_of (took_at p word f) box) e)
    go Retiring e b = absurd b
    go Parting e b = LeavesBox.keeps (λ n. subst TakesBox e n) (kept (subst TakesNone (sym e) tt))
    go (Finished work made) e b = LeavesBox.keeps (λ n. subst TakesBox e n) (kept (subst TakesNone (sym e) tt))
    go (Passing passage) e b = absurd b

-- a whole step
pub whole_made : (p : Private) (word : ℕ) (box : Contents) → is_busy p ≡ true → IsBetween p.phase → WholeStep p word box (next_of p) (step_of p word box) (left_of (took_of p word) box)
whole_made p word box busy between = record { own = step_made p word box busy between; mailbox = leaves_box p word box p.phase refl busy between }
