-- Rows of registers, and the mutators that hold them.
use Rattle.std.proofs.Common.{◌≡◌, inl, inr, ℕ, zero, suc, ◌+◌, ◌*◌, ◌<◌, Bool, true, Option, None, Some, List, [], ◌∷◌, ◌++◌, All, sum_by, length, map, take, drop, slice_index_or, refl, sym, ap, subst, ◌∙◌, arith, length-drop}
use Rattle.std.specs.Option.{IfSome}
use Rattle.std.proofs.Math.Nat.{suc-mul}
use Rattle.std.proofs.lemmas.Bool.{false≢true}
use Rattle.std.proofs.lemmas.List.{take-append-drop}
use Rattle.std.proofs.lemmas.List.Elements.{All-drop, All-head, All-tail, All-take}
use Rattle.std.proofs.lemmas.List.Sums.{sum_by-cons, sum_by-take-drop}
use Rattle.rec_model.specs.Heap.{roots}
use Rattle.rec_model.specs.Reach.{is_in, named}
use Rattle.rec_model.proofs.Members.{is_in-cons}
use Rattle.rec_core.proofs.Common.{Config, Private, nobody}
use Rattle.rec_core.specs.Objects.{rows_of}
use Rattle.rec_core.specs.Core.{all_holding_by, holding_by}
use Rattle.rec_model.proofs.Named.{named-append}

-- the rows name what the whole list does
pub roots-rows : (width many : ℕ) (xs : List (Option ℕ)) → length xs ≡ many * width → roots (rows_of width many xs) ≡ named xs
roots-rows width zero [] size = refl
roots-rows width zero (x ∷ xs) size = absurd (omega (arith, size))
roots-rows width (suc many) xs size =
    ap (λ ns. named (take width xs) ++ ns) (roots-rows width many (drop width xs) (omega (arith, size, suc-mul many width, length-drop width xs)))
    ∙ sym (named-append (take width xs) (drop width xs)) ∙ ap named (take-append-drop width xs)

-- a sum over them is one over the whole list
pub rows_sum : {X : Type 0} (f : X → ℕ) (width many : ℕ) (xs : List X) → length xs ≡ many * width → sum_by (sum_by f) (rows_of width many xs) ≡ sum_by f xs
rows_sum f width zero [] size = refl
rows_sum f width zero (x ∷ xs) size = absurd (omega (arith, size))
rows_sum f width (suc many) xs size = omega (
  arith,
  sum_by-cons (sum_by f) (take width xs) (rows_of width many (drop width xs)),
  rows_sum f width many (drop width xs) (omega (arith, size, suc-mul many width, length-drop width xs)),
  sum_by-take-drop f xs width,
)

-- each row has what the whole list has
pub All-rows : {X : Type 0} (P : X → Type 0) (width many : ℕ) (xs : List X) → All P xs → (i : ℕ) → i < many → All P (slice_index_or (rows_of width many xs) i [])
All-rows P width zero xs all i there = absurd (omega (arith, there))
All-rows P width (suc many) xs all zero there = All-take P width xs all
All-rows P width (suc many) xs all (suc i) there = All-rows P width many (drop width xs) (All-drop P width xs all) i (omega arith)

-- what is named has what all have
pub named_has : (P : ℕ → Type 0) (xs : List (Option ℕ)) → All (λ x. IfSome x P) xs → (n : ℕ) → is_in n (named xs) ≡ true → P n
named_has P [] all n there = absurd (false≢true there)
named_has P (None ∷ xs) all n there = named_has P xs (All-tail (λ x. IfSome x P) None xs all) n there
named_has P (Some m ∷ xs) all n there = elim (is_in-cons n m (named xs) there) [
  | inl is ↦ subst P is (All-head (λ x. IfSome x P) (Some m) xs all)
  | inr rest ↦ named_has P xs (All-tail (λ x. IfSome x P) (Some m) xs all) n rest
]

-- so many mutators
pub length-holding : (dates : Bool) (config : Config) (t : ℕ) (rows : List (List (Option ℕ))) → length (all_holding_by dates config t rows) ≡ length rows
length-holding dates config t [] = refl
length-holding dates config t (held ∷ rows) = ap suc (length-holding dates config (t + 1) rows)

-- their registers
pub registers_held : (dates : Bool) (config : Config) (t : ℕ) (rows : List (List (Option ℕ))) → map (λ (p : Private). p.registers) (all_holding_by dates config t rows) ≡ rows
registers_held dates config t [] = refl
registers_held dates config t (held ∷ rows) = ap (λ (rss : List (List (Option ℕ))). held ∷ rss) (registers_held dates config (t + 1) rows)

module _ {dates : Bool} where
  -- each of them
  pub holding_at : (config : Config) (t : ℕ) (rows : List (List (Option ℕ))) (i : ℕ) → i < length rows → slice_index_or (all_holding_by dates config t rows) i nobody ≡ holding_by dates config (t + i) (slice_index_or rows i [])
  holding_at config t [] i there = absurd (omega arith)
  holding_at config t (held ∷ rows) zero there = let same : t ≡ t + 0 = omega arith in ap (λ n. holding_by dates config n held) same
  holding_at config t (held ∷ rows) (suc i) there =
      let same : t + 1 + i ≡ t + suc i = omega arith in
      holding_at config (t + 1) rows i (omega arith) ∙ ap (λ n. holding_by dates config n (slice_index_or rows i [])) same

  -- a sum over them, where each weighs what its registers do
  pub holding_sum : (config : Config) (h : Private → ℕ) (g : List (Option ℕ) → ℕ) → ((t : ℕ) (held : List (Option ℕ)) → h (holding_by dates config t held) ≡ g held) → (t : ℕ) (rows : List (List (Option ℕ))) → sum_by h (all_holding_by dates config t rows) ≡ sum_by g rows
  holding_sum config h g same t [] = refl
  holding_sum config h g same t (held ∷ rows) = omega (
    arith,
    sum_by-cons h (holding_by dates config t held) (all_holding_by dates config (t + 1) rows),
    sum_by-cons g held rows,
    same t held,
    holding_sum config h g same (t + 1) rows,
  )
