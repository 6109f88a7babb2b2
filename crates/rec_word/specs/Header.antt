-- A header: 0 for a free slot; else the object's label plus one, and bit 63 where the object is a leaf.
use Rattle.std.specs.Prelude.{◌≡◌, ℕ, ◌+◌, ◌-◌, ◌%◌, ◌^◌, ◌<◌, ◌≤◌, nat_le, Bool, true, false}

-- the bit that a leaf's header has
abbrev leaf_bit : Bool → ℕ
leaf_bit true = 2 ^ 63
leaf_bit false = 0

-- the header of an object with this label
abbrev pub header_word : (leaf : Bool) → (label : ℕ) → ℕ
header_word leaf label = label + 1 + leaf_bit leaf

-- whether a header is that of a leaf
abbrev pub is_leaf : (header : ℕ) → Bool
is_leaf header = nat_le (2 ^ 63) header

-- the bits of a header that tell the label: 0 for a free slot, else the label plus one
abbrev pub label_bits : (header : ℕ) → ℕ
label_bits header = header % 2 ^ 63

-- the label in a taken slot's header
abbrev pub label_of : (header : ℕ) → ℕ
label_of header = label_bits header - 1

-- the header of a taken slot: it has a label of 32 bits, and nothing beside it but the leaf bit
pub record IsTakenHeader (header : ℕ) : Type 0 where
  pub some : 0 < label_bits header
  pub few : label_bits header ≤ 2 ^ 32
  pub small : header < 2 ^ 64

-- the header is that of an object with this leaf mark and this number as its label
pub record IsHeaderOf (mark : Bool) (number header : ℕ) : Type 0 where
  pub leaf : is_leaf header ≡ mark
  pub label : label_bits header ≡ number + 1
