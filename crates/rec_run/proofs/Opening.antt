-- A heap whose numbers are in their ranges isn't refused.
use Rattle.rec_core.specs.Config.{IsConfig, IsFirstWrong, IsInRange}
use Rattle.rec_core.specs.declared.config.Config.{Config}
use Rattle.rec_core.specs.declared.part.Part.{Part}
use Rattle.rec_core.specs.declared.part.Part.TheVariants.{Slots, Fields, Registers, Mutators, LogEntries, FirstEpoch}

in_range : (config : Config) → IsConfig config → (part : Part) → IsInRange config part
in_range config is Slots = (is.some_slots, is.few_slots)
in_range config is Fields = (is.some_fields, is.few_fields)
in_range config is Registers = (is.some_registers, is.few_registers)
in_range config is Mutators = (is.some_mutators, is.few_mutators)
in_range config is LogEntries = (is.some_log_entries, is.few_log_entries)
in_range config is FirstEpoch = (is.some_epoch, is.few_epochs)

pub none_wrong : (config : Config) (part : Part) → IsConfig config → IsFirstWrong config part → ⊥
none_wrong config part is wrong = wrong.wrong (in_range config is part)
