-- The registers, the field and the label that a command names.
use Rattle.std.specs.Prelude.{ℕ, ◌<◌, ◌^◌}
use Rattle.rec_model.specs.declared.command.Cmd.{Cmd}
use Rattle.rec_model.specs.declared.command.Cmd.TheVariants.{New, Leaf, Null, Copy, Get, Put, Value, Same, Leave, Park, Unpark}

-- the registers and the field that a command names are there, where there are so many; this is where parking is shut out as long as no
-- heap carries it out: nothing is there for it
abbrev pub HasOperands : (registers fields : ℕ) → Cmd → Type 0
HasOperands registers fields (New reg label) = reg < registers
HasOperands registers fields (Leaf reg label) = reg < registers
HasOperands registers fields (Null reg) = reg < registers
HasOperands registers fields (Copy dst src) = (dst < registers) × (src < registers)
HasOperands registers fields (Get dst src f) = (dst < registers) × (src < registers) × (f < fields)
HasOperands registers fields (Put src f val) = (src < registers) × (f < fields) × (val < registers)
HasOperands registers fields (Value reg) = reg < registers
HasOperands registers fields (Same a b) = (a < registers) × (b < registers)
HasOperands registers fields Leave = Unit {0}
HasOperands registers fields Park = ⊥
HasOperands registers fields Unpark = ⊥

-- the label of an allocation fits a header
abbrev pub HasLabel : Cmd → Type 0
HasLabel (New reg label) = label < 2 ^ 32
HasLabel (Leaf reg label) = label < 2 ^ 32
HasLabel _ = Unit {0}
