-- The levels of an index.
use Rattle.std.specs.Prelude.{◌≡◌, ℕ, List, length}
use Rattle.rec_index.specs.Sets.{Tells}
use Rattle.rec_index.specs.declared.index.Index.TheInside.{Inside}

-- the slots, which the set is
abbrev pub members : Inside → List ℕ
members inside = inside.slots

-- each level tells of the one below
pub record IsWhole (inside : Inside) : Type 0 where
  pub words : Tells inside.words inside.slots
  pub groups : Tells inside.groups inside.words
  pub slots_length : length inside.slots ≡ 1024
  pub words_length : length inside.words ≡ 16
  pub groups_length : length inside.groups ≡ 1
