-- The two tests of a set.
use Rattle.std.specs.Prelude.{◌≡◌, ℕ, ◌<◌, None, List, length, sum_by}
use Rattle.rec_counts.specs.declared.colour.Colour.TheVariants.{Orange}
use Rattle.rec_counts.specs.Counts.{State, slot_at}
use Rattle.rec_counts.specs.Lists.{times}
use Rattle.rec_sigma.specs.Prepare.{members_of}
use Rattle.rec_word.specs.Load.{Load}
use Rattle.rec_sigma.specs.Prepared.{PreparedTo, outside}

-- each member of the set of this number is Orange
abbrev pub AreOrange : State → ℕ → Type 0
AreOrange s number = (x : ℕ) → 0 < times x (members_of s number) → (slot_at s x).colour ≡ Orange

-- the sum of the cyclic counts of the members of the set of this number
abbrev pub cyclic_sum : State → ℕ → ℕ
cyclic_sum s number = sum_by (λ x. (slot_at s x).cyclic) (members_of s number)

-- once all sets are prepared, the sum that is judged is that of the members' outside counts
abbrev pub SumsOutside : (fields : ℕ) (before after : State) (loads : List Load) (number : ℕ) → Type 0
SumsOutside fields before after loads number = PreparedTo fields before None after loads → number < length before.sets → cyclic_sum after number ≡ sum_by (λ x. outside before number loads x) (members_of before number)
