-- Whether a number is reached can be told, where all that is reached is below some bound.
use Rattle.std.proofs.Common.{◌≡◌, ◌⊎◌, inl, inr, ℕ, zero, suc, ◌+◌, ◌<◌, true, false, List, [], ◌∷◌, ◌++◌, length, sym, ◌∙◌, subst, arith}
use Rattle.std.specs.List.{flat_map}
use Rattle.std.proofs.lemmas.Bool.{cases_Bool, false≢true}
use Rattle.std.proofs.lemmas.List.{length-append}
use Rattle.rec_core.proofs.Common.{IsReached}
use Rattle.rec_model.specs.Numbering.{IsDistinct}
use Rattle.rec_model.specs.Reach.{is_in}
use Rattle.rec_model.specs.Reach.IsReached.{root, child}
use Rattle.rec_model.proofs.Members.{is_in-left, is_in-right, is_in-head, is_in-tail, is_in-cons, is_in-cases, is_in-flat_map, in_flat_map, IsDistinct-push, distinct_below}
use Rattle.rec_model.proofs.Numbered.{closed_has_reached}

-- a list has all of these numbers, or here is one that it lacks
outside : (ns xs : List ℕ) → ((n : ℕ) → is_in n xs ≡ true → is_in n ns ≡ true) ⊎ ((n : ℕ) × (is_in n xs ≡ true) × (is_in n ns ≡ false))
outside ns [] = inl (λ n h. absurd (false≢true h))
outside ns (x ∷ xs) = elim (cases_Bool (is_in x ns)) [
  | inl here ↦ elim (outside ns xs) [
    | inl all ↦ inl (λ n h. elim (is_in-cons n x xs h) [ inl same ↦ subst (λ k. is_in k ns ≡ true) same here | inr later ↦ all n later ])
    | inr other ↦ inr (other.0, is_in-tail other.0 x xs other.1, other.2)
  ]
  | inr lacks ↦ inr (x, is_in-head x xs, lacks)
]

module _ (roots : List ℕ) (children : ℕ → List ℕ) (bound : ℕ) (below : (n : ℕ) → IsReached roots children n → n < bound) where
  -- a list of just what is reached
  record ListsReached (ns : List ℕ) : Type 0 where
    complete : (n : ℕ) → IsReached roots children n → is_in n ns ≡ true
    reached : (n : ℕ) → is_in n ns ≡ true → IsReached roots children n

  -- what the next step adds is reached
  next_reached : (ns : List ℕ) → ((n : ℕ) → is_in n ns ≡ true → IsReached roots children n) → (n : ℕ) → is_in n (roots ++ flat_map children ns) ≡ true → IsReached roots children n
  next_reached ns reached n there = elim (is_in-cases n roots (flat_map children ns) there) [
    | inl of_roots ↦ root n of_roots
    | inr of_children ↦ let (m, in_list, named) = in_flat_map children n ns of_children in child m n (reached m in_list) named
  ]

  -- Numbers are added as long as one is lacking; that ends, since there are so many at most.
  grown : (fuel : ℕ) (ns : List ℕ) → IsDistinct ns → ((n : ℕ) → is_in n ns ≡ true → IsReached roots children n) → bound < length ns + fuel → (ms : List ℕ) × ListsReached ms
  grown zero ns distinct reached many = absurd (omega (arith, many, distinct_below ns bound distinct (λ n there. below n (reached n there))))
  grown (suc fuel) ns distinct reached many = elim (outside ns (roots ++ flat_map children ns)) [
    | inl closed ↦ (
      ns,
      record {
        complete = closed_has_reached roots children ns (λ n there. closed n (is_in-left n roots (flat_map children ns) there)) (λ m n from there. closed n (is_in-right n roots (flat_map children ns) (is_in-flat_map children m n ns from there)));
        reached = reached;
      },
    )
    | inr lacking ↦
        let n : ℕ = lacking.0 in
        let longer : length (ns ++ n ∷ []) ≡ length ns + 1 = length-append ns (n ∷ []) in
        grown fuel (ns ++ n ∷ []) (IsDistinct-push ns n distinct lacking.2)
        (λ m there. elim (is_in-cases m ns (n ∷ []) there) [
          | inl old ↦ reached m old
          | inr new ↦ elim (is_in-cons m n [] new) [ inl same ↦ subst (IsReached roots children) same (next_reached ns reached n lacking.1) | inr none ↦ absurd (false≢true none) ]
        ])
        (omega (arith, many, longer))
  ]

  pub reached_or_not : (n : ℕ) → IsReached roots children n ⊎ (IsReached roots children n → ⊥)
  reached_or_not n =
      let (ms, lists) = grown (suc bound) [] tt (λ m there. absurd (false≢true there)) (omega arith) in
      elim (cases_Bool (is_in n ms)) [
        | inl there ↦ inl (lists.reached n there)
        | inr lacks ↦ inr (λ from. false≢true (sym lacks ∙ lists.complete n from))
      ]
