-- Why a command is refused, and that a refusal changes nothing.
use Rattle.std.specs.Prelude.{◌≡◌, ◌↔◌, ℕ, ◌+◌, List, Bool, true, false, None, Some, if◌then◌else◌}
use Rattle.rec_word.specs.Header.{header_word, is_leaf}
use Rattle.rec_model.specs.declared.answer.Answer.{Answer}
use Rattle.rec_model.specs.declared.answer.Answer.TheVariants as answers
use Rattle.rec_model.specs.declared.command.Cmd.{Cmd}
use Rattle.rec_model.specs.declared.command.Cmd.TheVariants as commands
use Rattle.rec_model.specs.declared.told.Told.{Told}
use Rattle.rec_log.specs.declared.contents.Contents.{Contents}
use Rattle.rec_mutator.specs.Private.{Private, register, is_busy, work_of, answer_of}
use Rattle.rec_mutator.specs.Scans.{ops_along, FailsScan, HasScanned}
use Rattle.rec_mutator.specs.Step.{IsLogFull, HasRoom, IsStill, IsUncollected}
use Rattle.rec_mutator.specs.Took.{step_of, IsBetween}
use Rattle.rec_mutator.specs.declared.made.Made.TheVariants as makes
use Rattle.rec_mutator.specs.declared.phase.Phase.{Phase}
use Rattle.rec_mutator.specs.declared.phase.Phase.TheVariants.{Begun, Scanned, Giving, Parting}
use Rattle.rec_mutator.specs.declared.work.Work.TheVariants as works

-- the step that finds this word, and this buffer in the own mailbox, answers this command with what is told
pub record AnswersBy (p : Private) (word : ℕ) (box : Contents) (cmd : Cmd) (told : Told) : Type 0 where
  pub busy : is_busy p ≡ true
  pub between : IsBetween p.phase
  pub work : work_of p ≡ Some (works.Command cmd)
  pub answer : answer_of (step_of p word box) ≡ Some (makes.Answered told)

-- an answer that refuses
abbrev pub is_refusal : Answer → Bool
is_refusal answers.NoObject = true
is_refusal answers.Full = true
is_refusal answers.LogFull = true
is_refusal answers.NoField = true
is_refusal (answers.Busy before after) = true
is_refusal answers.NotYet = true
is_refusal _ = false

-- the command needs an object in a register that is null
abbrev pub LacksObject : Private → Cmd → Type 0
LacksObject p (commands.Get dst src f) = register p src ≡ None
LacksObject p (commands.Put src f val) = register p src ≡ None
LacksObject p (commands.Value reg) = register p reg ≡ None
LacksObject p _ = ⊥

-- a command that makes a log entry where it is done: a birth, or a write into an object
abbrev pub MakesEntry : Private → Cmd → Type 0
MakesEntry p (commands.New reg label) = Unit {0}
MakesEntry p (commands.Leaf reg label) = Unit {0}
MakesEntry p (commands.Put src f val) = (slot : ℕ) × (register p src ≡ Some slot)
MakesEntry p _ = ⊥

-- the first step of a write found that its object is a leaf, and the log has room
abbrev pub FindsLeaf : Private → (word : ℕ) → Cmd → Type 0
FindsLeaf p word (commands.Put src f val) = (p.phase ≡ Begun (works.Command (commands.Put src f val))) × MakesEntry p (commands.Put src f val) × HasRoom p × (is_leaf word ≡ true)
FindsLeaf p word _ = ⊥

-- the first step of leaving found that the own mailbox isn't home with a spare
abbrev pub IsAwaited : Private → (word : ℕ) → Cmd → Type 0
IsAwaited p word commands.Leave = (p.phase ≡ Begun (works.Command commands.Leave)) × IsUncollected word
IsAwaited p word _ = ⊥

-- a mailbox is given back next, at the end of a poll
abbrev pub is_giving : Phase → Bool
is_giving Giving = true
is_giving _ = false

-- a mailbox is given back next: the mutator is in the next epoch then, or has left
abbrev pub gives_back : Phase → Bool
gives_back Giving = true
gives_back Parting = true
gives_back _ = false

-- the scan is over, before which this freed word was found, by phase
abbrev pub FoundNoneAt : Phase → (before : ℕ) → Type 0
FoundNoneAt (Scanned reg label leaf first) before = first ≡ before
FoundNoneAt _ before = ⊥

-- The scan is over, and every probe failed: whatever words the steps of the allocation found, the first one found this freed word, and
-- since then the header of each slot was claimed, one after another from the scan's first slot on, and each was found taken.
pub record FoundNone (p : Private) (before : ℕ) : Type 0 where
  pub scanned : FoundNoneAt p.phase before
  pub every : (start : Private) (words : List ℕ) → (s : HasScanned start words p) → FailsScan (header_word s.leaf s.label) p.slots start.from before (ops_along start words) words

-- When each refusal comes, at the step that answers; and it changes no register and no log.
pub record HasCause (p q : Private) (cmd : Cmd) (word : ℕ) (answer : Answer) : Type 0 where
  pub no_object : (answer ≡ answers.NoObject) ↔ LacksObject p cmd
  pub log_full : (answer ≡ answers.LogFull) ↔ (IsLogFull p × MakesEntry p cmd)
  pub no_field : (answer ≡ answers.NoField) ↔ FindsLeaf p word cmd
  pub full : (answer ≡ answers.Full) ↔ ((before : ℕ) × FoundNone p before × IsStill before word)
  pub not_yet : (answer ≡ answers.NotYet) ↔ IsAwaited p word cmd
  pub busy : (before after : ℕ) → (answer ≡ answers.Busy before after) ↔ (FoundNone p before × (after ≡ word) × (IsStill before word → ⊥))
  pub refused : is_refusal answer ≡ true → (q.registers ≡ p.registers) × (q.log ≡ p.log)

-- When a poll ends that a step ends, and in which epoch the mutator is then. `word` is the word that the step found.
pub record PollHasCause (p q : Private) (word : ℕ) : Type 0 where
  pub none : (answer_of q ≡ Some (makes.Crossed None)) ↔ ((p.phase ≡ Begun works.Poll) × (word ≡ p.epoch))
  pub some : (epoch : ℕ) → (answer_of q ≡ Some (makes.Crossed (Some epoch))) ↔ ((p.phase ≡ Giving) × (epoch ≡ p.epoch + 1))
  pub epoch : q.epoch ≡ (if gives_back p.phase then p.epoch + 1 else p.epoch)
