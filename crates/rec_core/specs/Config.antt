-- The numbers that a heap can have, and the commands that fit them.
use Rattle.std.specs.Prelude.{ℕ, ◌<◌, ◌≤◌}
use Rattle.rec_word.specs.declared.word.TheConstants.{LAST_EPOCH}
use Rattle.rec_model.specs.declared.command.Cmd.{Cmd}
use Rattle.rec_model.specs.declared.command.Cmd.TheVariants as commands
use Rattle.rec_model.specs.declared.limits.TheConstants.{MOST_SLOTS, MOST_FIELDS, MOST_REGISTERS, MOST_MUTATORS, MOST_LOG_ENTRIES}
use Rattle.rec_model.specs.Operands as operands
use Rattle.rec_mutator.specs.declared.work.Work.{Work}
use Rattle.rec_mutator.specs.declared.work.Work.TheVariants as works
use Rattle.rec_core.specs.declared.config.Config.{Config}
use Rattle.rec_core.specs.declared.part.Part.{Part}
use Rattle.rec_core.specs.declared.part.Part.TheVariants.{Slots, Fields, Registers, Mutators, LogEntries, FirstEpoch}

-- every number is in its range
pub record IsConfig (config : Config) : Type 0 where
  pub some_slots : 1 ≤ config.slots
  pub few_slots : config.slots ≤ MOST_SLOTS
  pub some_fields : 1 ≤ config.fields
  pub few_fields : config.fields ≤ MOST_FIELDS
  pub some_registers : 1 ≤ config.registers
  pub few_registers : config.registers ≤ MOST_REGISTERS
  pub some_mutators : 1 ≤ config.mutators
  pub few_mutators : config.mutators ≤ MOST_MUTATORS
  pub some_log_entries : 1 ≤ config.log_entries
  pub few_log_entries : config.log_entries ≤ MOST_LOG_ENTRIES
  pub some_epoch : 1 ≤ config.first_epoch
  pub few_epochs : config.first_epoch ≤ LAST_EPOCH

-- one of the numbers is in its range
abbrev pub IsInRange : Config → Part → Type 0
IsInRange config Slots = (1 ≤ config.slots) × (config.slots ≤ MOST_SLOTS)
IsInRange config Fields = (1 ≤ config.fields) × (config.fields ≤ MOST_FIELDS)
IsInRange config Registers = (1 ≤ config.registers) × (config.registers ≤ MOST_REGISTERS)
IsInRange config Mutators = (1 ≤ config.mutators) × (config.mutators ≤ MOST_MUTATORS)
IsInRange config LogEntries = (1 ≤ config.log_entries) × (config.log_entries ≤ MOST_LOG_ENTRIES)
IsInRange config FirstEpoch = (1 ≤ config.first_epoch) × (config.first_epoch ≤ LAST_EPOCH)

-- where a number stands among the numbers of a heap
abbrev rank : Part → ℕ
rank Slots = 0
rank Fields = 1
rank Registers = 2
rank Mutators = 3
rank LogEntries = 4
rank FirstEpoch = 5

-- the number is out of its range, and each before it is in its own
pub record IsFirstWrong (config : Config) (part : Part) : Type 0 where
  pub wrong : IsInRange config part → ⊥
  pub before : (other : Part) → rank other < rank part → IsInRange config other

-- the registers and the field that a command names are there
abbrev pub HasOperands : Config → Cmd → Type 0
HasOperands config cmd = operands.HasOperands config.registers config.fields cmd

-- a mutator's number: they are numbered from 1
abbrev pub IsMutator : Config → ℕ → Type 0
IsMutator config t = (1 ≤ t) × (t ≤ config.mutators)

-- a work of a mutator that stays
abbrev pub IsNoLeave : Work → Type 0
IsNoLeave (works.Command commands.Leave) = ⊥
IsNoLeave _ = Unit {0}

-- the mutator of a command, and the registers and the field that it names, are there
abbrev pub IsValid : Config → ℕ → Cmd → Type 0
IsValid config t cmd = IsMutator config t × HasOperands config cmd

-- the registers and fields that a work names are there
abbrev pub IsWork : Config → Work → Type 0
IsWork config (works.Command cmd) = HasOperands config cmd
IsWork config works.Poll = Unit {0}

-- the label of an allocation fits a header
abbrev pub HasLabel : Work → Type 0
HasLabel (works.Command cmd) = operands.HasLabel cmd
HasLabel works.Poll = Unit {0}
