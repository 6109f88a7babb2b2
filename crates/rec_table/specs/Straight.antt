-- Commands in straight code: how a mutator stands between two operations, and what a command comes to.
use Rattle.std.specs.Prelude.{◌≡◌, ℕ, ◌+◌, Bool, true, false, Option, Some, List, [], ◌∷◌, ◌++◌, fold, length}
use Rattle.atomic_table.specs.Table.{Me}
use Rattle.rec_word.specs.declared.op.Op.{Op}
use Rattle.rec_word.specs.declared.op.Op.TheVariants as ops
use Rattle.rec_log.specs.declared.contents.Contents.{Contents}
use Rattle.rec_model.specs.declared.answer.Answer.{Answer}
use Rattle.rec_model.specs.declared.answer.Answer.TheVariants as answers
use Rattle.rec_model.specs.declared.command.Cmd.{Cmd}
use Rattle.rec_model.specs.declared.told.Told.{Told}
use Rattle.rec_mutator.specs.Private.{IsMachine, KeepsSizes, Private, answer_of, is_busy, work_of}
use Rattle.rec_mutator.specs.Step.{NamesSlots}
use Rattle.rec_mutator.specs.Took.{IsBetween, begun_of, took_of}
use Rattle.rec_mutator.specs.declared.made.Made.TheVariants as makes
use Rattle.rec_mutator.specs.declared.work.Work.TheVariants as works
use Rattle.rec_core.specs.Config.{IsMutator, IsNoLeave}
use Rattle.rec_core.specs.Core.{Core, mutator}
use Rattle.rec_table.specs.Answered.{IsAnswered, IsPolled, Leaves, worked}
use Rattle.rec_table.specs.Beats.{learnt, told}
use Rattle.rec_table.specs.Journals.{Tells}
use Rattle.rec_table.specs.Rule.{hands, seated_of}
use Rattle.rec_table.specs.Scan.{saw_all}
use Rattle.rec_table.specs.Views.{MutatorView, mutator_now, Works}
use Rattle.rec_table.specs.declared.start.Start.{Start}
use Rattle.rec_table.specs.declared.views.Beat.{Beat}
use Rattle.rec_table.specs.declared.views.Beat.TheVariants.{Saw}
use Rattle.rec_table.specs.declared.views.View.{View}
use Rattle.rec_table.specs.declared.views.View.TheVariants.{Mutates}

-- an operation that moves no mailbox
abbrev pub IsPlainOp : Op → Type 0
IsPlainOp (ops.TakeBox t e) = ⊥
IsPlainOp (ops.GiveBox t e) = ⊥
IsPlainOp (ops.LookBox t e) = ⊥
IsPlainOp (ops.ReturnBox t e) = ⊥
IsPlainOp (ops.ShiftBox t shift) = ⊥
IsPlainOp _ = Unit {0}

-- the record that a seat's list makes up
abbrev pub record_of : Core → Me (Option Contents) View → Private
record_of key me = told (mutator key (seated_of me.0).number) (seated_of me.0).log

-- a seat of a mutator between two steps
pub record Stands (key : Core) (me : Me (Option Contents) View) : Type 0 where
  pub owner : IsMutator key.config (seated_of me.0).number
  pub seat : me ≡ (Mutates (seated_of me.0), hands (seated_of me.0) (record_of key me))
  pub names : NamesSlots (record_of key me)
  pub same : KeepsSizes (mutator key (seated_of me.0).number) (record_of key me)
  pub between : IsBetween (record_of key me).phase

-- A work that was begun and went on step by step: the words that were found, and the record before the last step.
pub record Path (start : Start) (p : Private) (log log' : List Beat) (q : Private) : Type 0 where
  pub words : List ℕ
  pub last : ℕ
  pub grows : log' ≡ log ++ worked start (words ++ last ∷ [])
  pub before : Private
  pub along : before ≡ told (begun_of p start.work start.from) (saw_all words)
  -- a command that isn't to leave takes no mailbox
  pub came : (cmd : Cmd) → start.work ≡ works.Command cmd → IsNoLeave (works.Command cmd) → before ≡ fold took_of (begun_of p start.work start.from) words
  pub machine : IsMachine before
  pub between : IsBetween before.phase
  pub busy : is_busy before ≡ true
  pub works_on : work_of before ≡ Some start.work
  pub slots : before.slots ≡ p.slots
  pub made : q ≡ learnt before (Saw last)
  pub counted : before.steps ≡ length words
  pub stepped : q.steps ≡ before.steps + 1

-- A command was carried out, and this was told.
pub record Carried (h h' : MutatorView) (cmd : Cmd) (answered : Told) : Type 0 where
  pub grows : Works (works.Command cmd) h.log h'.log
  pub is : h' ≡ record h { log = h'.log }
  pub answer : answer_of (mutator_now h') ≡ Some (makes.Answered answered)
  pub causes : IsAnswered (mutator_now h) cmd h.log h'.log (mutator_now h') answered
  pub leaves : Leaves (mutator_now h) cmd answered (mutator_now h')
  pub line : Tells (mutator_now h) h.log h'.log ((cmd, answered) ∷ [])
  pub idle : is_busy (mutator_now h') ≡ false
  pub same : KeepsSizes (mutator_now h) (mutator_now h')

-- So it was answered.
pub record Carries (h h' : MutatorView) (cmd : Cmd) (answer : Answer) : Type 0 where
  pub told : Told
  pub answers : told.answer ≡ answer
  pub carried : Carried h h' cmd told

-- an allocation was carried out: it won the first slot that it probed, or it was answered so
abbrev pub Bears : (h h' : MutatorView) → Cmd → Bool → Type 0
Bears h h' cmd true = Carries h h' cmd answers.Done
Bears h h' cmd false = (told : Told) × Carried h h' cmd told

-- it was carried out, or nothing happened
abbrev pub CarriesIf : (h h' : MutatorView) → Cmd → Bool → Type 0
CarriesIf h h' cmd true = (told : Told) × Carried h h' cmd told
CarriesIf h h' cmd false = h' ≡ h

-- A poll was made: the epoch into which the mutator crossed, or none.
pub record Polled (h h' : MutatorView) (epoch : Option ℕ) : Type 0 where
  pub grows : Works works.Poll h.log h'.log
  pub is : h' ≡ record h { log = h'.log }
  pub answer : answer_of (mutator_now h') ≡ Some (makes.Crossed epoch)
  pub causes : IsPolled (mutator_now h) h.log h'.log epoch
  pub left : (mutator_now h').left ≡ (mutator_now h).left
  pub line : Tells (mutator_now h) h.log h'.log []
  pub idle : is_busy (mutator_now h') ≡ false
  pub same : KeepsSizes (mutator_now h) (mutator_now h')
