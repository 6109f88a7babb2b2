-- The heap that an image makes: its numbers, and its objects.
use Rattle.std.specs.Prelude.{ℕ, Bool, List, Option, map}
use Rattle.std.specs.List.{flat_map}
use Rattle.rec_collector.specs.declared.policy.Policy.{Policy}
use Rattle.rec_core.specs.Core.{Core, opened_from}
use Rattle.rec_core.specs.Objects.{Objects}
use Rattle.rec_core.specs.declared.config.Config.{Config}
use Rattle.rec_image.specs.Image.{ImageContents, Node}

-- the numbers of the heap: the image's, logs for so many entries, and epochs from 1; and its policy
abbrev pub config_of : ImageContents → (log_entries : ℕ) → (policy : Policy) → Config
config_of v log_entries policy = record { slots = v.slots; fields = v.fields; registers = v.registers; mutators = v.mutators; log_entries = log_entries; first_epoch = 1; policy = policy }

-- a label and a leaf mark
abbrev pub mark_of : Node → ℕ × Bool
mark_of node = (node.label, node.leaf)

-- an object's fields
abbrev pub fields_in : Node → List (Option ℕ)
fields_in node = node.fields

-- the objects, with their fields and with the registers one behind the other
abbrev pub objects_in : ImageContents → Objects
objects_in v = record { nodes = map mark_of v.objects; fields = flat_map fields_in v.objects; registers = flat_map (λ held. held) v.held }

-- the heap as it is opened
abbrev pub restored : ImageContents → (log_entries : ℕ) → (policy : Policy) → Core
restored v log_entries policy = opened_from (config_of v log_entries policy) (objects_in v)
