-- What a teller has told.
use Rattle.std.specs.Prelude.{ℕ, List, [], ◌∷◌, ◌++◌, Option, Some, None}
use Rattle.rec_notice.specs.declared.teller.Teller.{Teller}

-- a label or none, as a list
abbrev pub as_list : Option ℕ → List ℕ
as_list (Some label) = label ∷ []
as_list None = []

-- the labels that it was told: what its tube sent, followed by the one that it keeps
abbrev pub told : {T : Type 0} → (T → List ℕ) → Teller T → List ℕ
told sent teller = sent teller.tube ++ as_list teller.kept
