-- What lists of registers name.
use Rattle.std.proofs.Common.{◌≡◌, ◌⊎◌, inl, inr, ℕ, ◌-◌, suc, zero, List, [], ◌∷◌, Option, None, Some, true, ◌==◌, slice_index_or, slice_set, map, sym, ap, ◌∙◌}
use Rattle.std.proofs.lemmas.Bool.{or_cases, or_left, eq-eqb, eqb-true}
use Rattle.std.proofs.lemmas.List.{map-set}
use Rattle.std.proofs.Math.ListN.{get_or-map}
use Rattle.std.specs.Option.{option_map}
use Rattle.rec_model.proofs.Common.{named, is_in, roots, register, registers_of, set_register}
use Rattle.rec_model.proofs.Members.{is_in-cases, is_in-left, is_in-right, is_in-tail}

-- what a register names stands in the list of names
pub named_at : (xs : List (Option ℕ)) (r n : ℕ) → slice_index_or xs r None ≡ Some n → is_in n (named xs) ≡ true
named_at [] r n is = cc
named_at (None ∷ xs) zero n is = cc
named_at (None ∷ xs) (suc r) n is = named_at xs r n is
named_at (Some m ∷ xs) zero n is = let same : m ≡ n = (cc) in or_left (m == n) (is_in n (named xs)) (eq-eqb m n same)
named_at (Some m ∷ xs) (suc r) n is = is_in-tail n m (named xs) (named_at xs r n is)

-- a list names what its rest names
pub named_tail : (x : Option ℕ) (xs : List (Option ℕ)) (n : ℕ) → is_in n (named xs) ≡ true → is_in n (named (x ∷ xs)) ≡ true
named_tail None xs n there = there
named_tail (Some m) xs n there = is_in-tail n m (named xs) there

-- after a write a list names what it named before, or what was written
pub named_set : (xs : List (Option ℕ)) (r n : ℕ) (x : Option ℕ) → is_in n (named (slice_set xs r x)) ≡ true → (is_in n (named xs) ≡ true) ⊎ (x ≡ Some n)
named_set [] r n x there = inl there
named_set (None ∷ xs) zero n None there = inl there
named_set (None ∷ xs) zero n (Some m) there =
    elim (or_cases (m == n) (is_in n (named xs)) there) [ inl is ↦ inr (ap Some (eqb-true m n is)) | inr rest ↦ inl rest ]
named_set (Some k ∷ xs) zero n None there = inl (is_in-tail n k (named xs) there)
named_set (Some k ∷ xs) zero n (Some m) there =
    elim (or_cases (m == n) (is_in n (named xs)) there) [ inl is ↦ inr (ap Some (eqb-true m n is)) | inr rest ↦ inl (is_in-tail n k (named xs) rest) ]
named_set (None ∷ xs) (suc r) n x there = named_set xs r n x there
named_set (Some k ∷ xs) (suc r) n x there =
    elim (or_cases (k == n) (is_in n (named (slice_set xs r x))) there) [
      | inl is ↦ inl (or_left (k == n) (is_in n (named xs)) is)
      | inr rest ↦ elim (named_set xs r n x rest) [ inl old ↦ inl (is_in-tail n k (named xs) old) | inr new ↦ inr new ]
    ]

-- what a mutator's registers name is a root
pub roots_at : (rss : List (List (Option ℕ))) (i n : ℕ) → is_in n (named (slice_index_or rss i [])) ≡ true → is_in n (roots rss) ≡ true
roots_at [] i n there = there
roots_at (rs ∷ rss) zero n there = is_in-left n (named rs) (roots rss) there
roots_at (rs ∷ rss) (suc i) n there = is_in-right n (named rs) (roots rss) (roots_at rss i n there)

-- after a write of a mutator's registers the roots are those before, or are named by what was written
pub roots_set : (rss : List (List (Option ℕ))) (i n : ℕ) (rs : List (Option ℕ)) → is_in n (roots (slice_set rss i rs)) ≡ true → (is_in n (roots rss) ≡ true) ⊎ (is_in n (named rs) ≡ true)
roots_set [] i n rs there = inl there
roots_set (ss ∷ rss) zero n rs there =
    elim (is_in-cases n (named rs) (roots rss) there) [ inl new ↦ inr new | inr rest ↦ inl (is_in-right n (named ss) (roots rss) rest) ]
roots_set (ss ∷ rss) (suc i) n rs there =
    elim (is_in-cases n (named ss) (roots (slice_set rss i rs)) there) [
      | inl first ↦ inl (is_in-left n (named ss) (roots rss) first)
      | inr rest ↦ elim (roots_set rss i n rs rest) [ inl old ↦ inl (is_in-right n (named ss) (roots rss) old) | inr new ↦ inr new ]
    ]

-- what a register names is a root
pub register_root : (rss : List (List (Option ℕ))) (t r n : ℕ) → register rss t r ≡ Some n → is_in n (roots rss) ≡ true
register_root rss t r n is = roots_at rss (t - 1) n (named_at (registers_of rss t) r n is)

-- after a register is set the roots are those before, or the new one
pub set_register_roots : (rss : List (List (Option ℕ))) (t r n : ℕ) (x : Option ℕ) → is_in n (roots (set_register rss t r x)) ≡ true → (is_in n (roots rss) ≡ true) ⊎ (x ≡ Some n)
set_register_roots rss t r n x there =
    elim (roots_set rss (t - 1) n (slice_set (registers_of rss t) r x) there) [
      | inl old ↦ inl old
      | inr new ↦ elim (named_set (registers_of rss t) r n x new) [ inl old ↦ inl (roots_at rss (t - 1) n old) | inr is ↦ inr is ]
    ]

-- under a numbering of what is named, a register names the number
pub register-map : (number : ℕ → ℕ) (rss : List (List (Option ℕ))) (t r : ℕ) → register (map (map (option_map number)) rss) t r ≡ option_map number (register rss t r)
register-map number rss t r =
    let own : registers_of (map (map (option_map number)) rss) t ≡ map (option_map number) (registers_of rss t) = get_or-map (map (option_map number)) rss (t - 1) [] in
    ap (λ rs. slice_index_or rs r None) own ∙ get_or-map (option_map number) (registers_of rss t) r None

-- under a numbering of what is named, a register is set to the number
pub set_register-map : (number : ℕ → ℕ) (rss : List (List (Option ℕ))) (t r : ℕ) (x : Option ℕ) → set_register (map (map (option_map number)) rss) t r (option_map number x) ≡ map (map (option_map number)) (set_register rss t r x)
set_register-map number rss t r x =
    let own : registers_of (map (map (option_map number)) rss) t ≡ map (option_map number) (registers_of rss t) = get_or-map (map (option_map number)) rss (t - 1) [] in
    let written : slice_set (registers_of (map (map (option_map number)) rss) t) r (option_map number x) ≡ map (option_map number) (slice_set (registers_of rss t) r x)
    = ap (λ rs. slice_set rs r (option_map number x)) own ∙ sym (map-set (option_map number) (registers_of rss t) r x) in
    ap (λ rs. slice_set (map (map (option_map number)) rss) (t - 1) rs) written
    ∙ sym (map-set (map (option_map number)) rss (t - 1) (slice_set (registers_of rss t) r x))
