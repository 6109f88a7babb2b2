-- The numbering of what is reached: by the roots, then by the children of each numbered one in order.
use Rattle.std.specs.Prelude.{◌≡◌, ℕ, false, ◌+◌, ◌==◌, if◌then◌else◌, List, [], ◌∷◌, ◌++◌, All, count_by}
use Rattle.std.specs.List.{flat_map}
use Rattle.rec_model.specs.Reach.{is_in, IsReached}

-- each number where it first stands, without those met before
abbrev pub firsts_after : List ℕ → List ℕ → List ℕ
firsts_after met [] = []
firsts_after met (n ∷ ns) = if is_in n met then firsts_after met ns else n ∷ firsts_after (met ++ n ∷ []) ns

-- each number where it first stands
abbrev pub firsts : List ℕ → List ℕ
firsts = firsts_after []

-- the list, and then those of the numbers that it lacks, each where it first stands
abbrev pub joined : List ℕ → List ℕ → List ℕ
joined met ns = met ++ firsts_after met ns

-- all different
abbrev pub IsDistinct : List ℕ → Type 0
IsDistinct [] = Unit {0}
IsDistinct (n ∷ ns) = (is_in n ns ≡ false) × IsDistinct ns

-- Each number is met first among the roots or among the children of the numbers in order, and is reached. (Without the
-- second clause a number that names itself, and that nothing else names, would satisfy the first.)
pub record IsNumbering (roots : List ℕ) (children : ℕ → List ℕ) (ns : List ℕ) : Type 0 where
  pub order : ns ≡ firsts (roots ++ flat_map children ns)
  pub reached : All (IsReached roots children) ns

-- how often the number stands in the list
abbrev pub times : ℕ → List ℕ → ℕ
times n = count_by (λ m. m == n)

-- how many of the roots, and of the children of the numbered ones, are this one
abbrev pub holders : (roots : List ℕ) (children : ℕ → List ℕ) (ns : List ℕ) → ℕ → ℕ
holders roots children ns n = times n roots + times n (flat_map children ns)
