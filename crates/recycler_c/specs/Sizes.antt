-- The heap that a caller from C asks for.
use Rattle.std.specs.Prelude.{true}
use Rattle.rec_core.specs.declared.config.Config.{Config}
use Rattle.recycler_c.specs.declared.sizes.Sizes.{Sizes}

-- a steady heap with these numbers
abbrev pub config_of : Sizes → Config
config_of s = record { slots = s.slots; fields = s.fields; registers = s.registers; mutators = s.mutators; log_entries = s.log_entries; first_epoch = s.first_epoch; policy = record { steady = true; least_roots = s.least_roots; most_postponed = s.most_postponed } }
