-- The numbering of what is reached: it lists just that, without repeats, and there is only one.
use Rattle.std.proofs.Common.{◌≡◌, ◌↔◌, inl, inr, ℕ, zero, suc, ◌+◌, ◌-◌, ◌<◌, ◌≤◌, true, List, [], ◌∷◌, ◌++◌, take, drop, length, refl, sym, ◌∙◌, ap, subst, append_assoc, append-nil, arith}
use Rattle.std.specs.List.{flat_map}
use Rattle.std.proofs.lemmas.Bool.{cases_lt, both_ways}
use Rattle.std.proofs.lemmas.Grind.{flat_map-append}
use Rattle.std.proofs.lemmas.List.{take-append-drop, take-append-le, take_all}
use Rattle.std.proofs.Math.Seq.{take-append-add}
use Rattle.rec_model.proofs.Common.{is_in, IsReached, firsts, firsts_after, joined, IsDistinct, IsNumbering}
use Rattle.rec_model.specs.Reach.IsReached.{root, child}
use Rattle.rec_model.proofs.Members.{is_in-left, is_in-right, is_in-head, is_in-flat_map, of_all}
use Rattle.rec_model.proofs.Firsts.{joined-append, is_in-joined, IsDistinct-joined, firsts_after-only}

-- what has the roots, and with each number its children, has all that is reached
pub closed_has_reached : (roots : List ℕ) (children : ℕ → List ℕ) (ns : List ℕ) → ((n : ℕ) → is_in n roots ≡ true → is_in n ns ≡ true) → ((m n : ℕ) → is_in m ns ≡ true → is_in n (children m) ≡ true → is_in n ns ≡ true) → (n : ℕ) → IsReached roots children n → is_in n ns ≡ true
closed_has_reached roots children ns of_roots of_children k (root n there) = of_roots n there
closed_has_reached roots children ns of_roots of_children k (child m n from there) =
    of_children m n (closed_has_reached roots children ns of_roots of_children m from) there

-- the front of a numbering that its first numbers give
abbrev front : (roots : List ℕ) (children : ℕ → List ℕ) → List ℕ → List ℕ
front roots children ns = firsts (roots ++ flat_map children ns)

has_roots : (roots : List ℕ) (children : ℕ → List ℕ) (ns : List ℕ) (n : ℕ) → is_in n roots ≡ true → is_in n (front roots children ns) ≡ true
has_roots roots children ns n there = is_in-joined n [] (roots ++ flat_map children ns) (is_in-left n roots (flat_map children ns) there)

has_children : (roots : List ℕ) (children : ℕ → List ℕ) (ns : List ℕ) (m n : ℕ) → is_in m ns ≡ true → is_in n (children m) ≡ true → is_in n (front roots children ns) ≡ true
has_children roots children ns m n from there = is_in-joined n [] (roots ++ flat_map children ns) (is_in-right n roots (flat_map children ns) (is_in-flat_map children m n ns from there))

-- a numbering lists just what is reached
pub lists_reached : (roots : List ℕ) (children : ℕ → List ℕ) (ns : List ℕ) → IsNumbering roots children ns → (n : ℕ) → IsReached roots children n ↔ (is_in n ns ≡ true)
lists_reached roots children ns numbers n = (
  closed_has_reached roots children ns
      (λ m there. rw numbers.order (has_roots roots children ns m there))
      (λ m k from there. rw numbers.order (has_children roots children ns m k from there)) n,
  of_all (IsReached roots children) ns numbers.reached n,
)

-- without repeats
pub numbering_distinct : (roots : List ℕ) (children : ℕ → List ℕ) (ns : List ℕ) → IsNumbering roots children ns → IsDistinct ns
numbering_distinct roots children ns numbers = rw numbers.order (IsDistinct-joined [] (roots ++ flat_map children ns) tt)

-- what the first k numbers give is the front of a numbering
front_of : (roots : List ℕ) (children : ℕ → List ℕ) (ns : List ℕ) → IsNumbering roots children ns → (k : ℕ) → ns ≡ joined (front roots children (take k ns)) (flat_map children (drop k ns))
front_of roots children ns numbers k =
    numbers.order
    ∙ ap (λ ms. front roots children ms) (sym (take-append-drop k ns))
    ∙ ap (λ ms. firsts (roots ++ ms)) (flat_map-append children (take k ns) (drop k ns))
    ∙ ap firsts (sym (append_assoc roots (flat_map children (take k ns)) (flat_map children (drop k ns))))
    ∙ joined-append [] (roots ++ flat_map children (take k ns)) (flat_map children (drop k ns))

-- a number of a short front is one of the first k
in_first : (n k : ℕ) (xs ys : List ℕ) → length xs ≤ k → is_in n xs ≡ true → is_in n (take k (xs ++ ys)) ≡ true
in_first n k xs ys short there =
    let e : length xs + (k - length xs) ≡ k = omega arith in
    subst (λ i. is_in n (take i (xs ++ ys)) ≡ true) e (rw (take-append-add xs ys (k - length xs)) (is_in-left n xs (take (k - length xs) ys) there))

empty_when : (ns : List ℕ) → ((n : ℕ) → is_in n ns ≡ true → ⊥) → ns ≡ []
empty_when [] none = refl
empty_when (n ∷ ns) none = absurd (none n (is_in-head n ns))

-- where they give no more than themselves they are all
front_is_all : (roots : List ℕ) (children : ℕ → List ℕ) (ns : List ℕ) → IsNumbering roots children ns → (k : ℕ) → length (front roots children (take k ns)) ≤ k → ns ≡ front roots children (take k ns)
front_is_all roots children ns numbers k short =
    split ∙ ap (λ ms. first ++ ms) (empty_when more (λ n there. both_ways (is_in n first)
    (firsts_after-only n first (flat_map children (drop k ns)) there)
    (closed n (of_all (IsReached roots children) ns numbers.reached n (rw split (is_in-right n first more there))))))
    ∙ append-nil first
  where
    first : List ℕ
    first = front roots children (take k ns)

    more : List ℕ
    more = firsts_after (front roots children (take k ns)) (flat_map children (drop k ns))

    split : ns ≡ first ++ more
    split = front_of roots children ns numbers k

    closed : (n : ℕ) → IsReached roots children n → is_in n first ≡ true
    closed = closed_has_reached roots children first
        (has_roots roots children (take k ns))
        (λ m n from there. has_children roots children (take k ns) m n (rw split (in_first m k first more short from)) there)

-- two numberings agree on their first k numbers, for each k
agree : (roots : List ℕ) (children : ℕ → List ℕ) (ns ms : List ℕ) → IsNumbering roots children ns → IsNumbering roots children ms → (k : ℕ) → take k ns ≡ take k ms
agree roots children ns ms numbers also zero = refl
agree roots children ns ms numbers also (suc k) =
    let same : take k ns ≡ take k ms = agree roots children ns ms numbers also k in
    let first : List ℕ = front roots children (take k ns) in
    elim (cases_lt k (length first)) [
      | inl more ↦ first_of_front ns numbers more ∙ ap (λ xs. take (suc k) (front roots children xs)) same ∙ sym (first_of_front ms also (subst (λ xs. k < length (front roots children xs)) same more))
      | inr short ↦ ap (take (suc k)) (
          front_is_all roots children ns numbers k short
          ∙ ap (front roots children) same
          ∙ sym (front_is_all roots children ms also k (subst (λ xs. length (front roots children xs) ≤ k) same short)))
    ]
  where
    first_of_front : (xs : List ℕ) → IsNumbering roots children xs → k < length (front roots children (take k xs)) → take (suc k) xs ≡ take (suc k) (front roots children (take k xs))
    first_of_front xs is_one more =
        ap (take (suc k)) (front_of roots children xs is_one k)
        ∙ take-append-le (suc k) (front roots children (take k xs)) (firsts_after (front roots children (take k xs)) (flat_map children (drop k xs))) more

-- so there is only one
pub one_numbering : (roots : List ℕ) (children : ℕ → List ℕ) (ns ms : List ℕ) → IsNumbering roots children ns → IsNumbering roots children ms → ns ≡ ms
one_numbering roots children ns ms numbers also =
    sym (take_all (length ns + length ms) ns (omega arith))
    ∙ agree roots children ns ms numbers also (length ns + length ms)
    ∙ take_all (length ns + length ms) ms (omega arith)
