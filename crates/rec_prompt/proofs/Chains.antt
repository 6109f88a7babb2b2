-- Where a slot that is lost leads to each one, a cycle leads to each: slots are finite, so a chain of what leads to one comes back.
use Rattle.std.proofs.Common.{◌≡◌, ◌⊎◌, inl, inr, ℕ, zero, suc, ◌+◌, ◌<◌, true, false, List, [], ◌∷◌, length, eqb, refl, sym, subst, ◌∙◌, arith}
use Rattle.std.specs.List.{IsDistinct, list_any, AllByRecursion}
use Rattle.std.proofs.lemmas.Bool.{cases_Bool, cases_eq, eq-eqb, ne_eqb, false≢true}
use Rattle.std.proofs.lemmas.Map.Keys.{IsDistinct-cons}
use Rattle.std.proofs.lemmas.Map.Steps.{length-le_from_distinct_below}
use Rattle.rec_model.specs.Sight.{Sight}
use Rattle.rec_prompt.specs.Lost.{IsBehindNoCycle, Leads, LeadsOn}
use Rattle.rec_prompt.specs.Lost.LeadsOn.{step, further}

-- one step before a path
before : (w : Sight) (a b c : ℕ) → Leads w a b → LeadsOn w b c → LeadsOn w a c
before w a b c first (step last) = further (step first) last
before w a b c first (further path last) = further (before w a b _ first path) last

-- what is in a list or in front of it
in_cons : (x y : ℕ) (xs : List ℕ) → list_any (eqb x) (y ∷ xs) ≡ true → (x ≡ y) ⊎ (list_any (eqb x) xs ≡ true)
in_cons x y xs there = elim (cases_eq x y) [
  | inl same ↦ inl same
  | inr other ↦ inr (rw (ne_eqb x y other) at there)
]

apart : (x : ℕ) (xs : List ℕ) → list_any (eqb x) xs ≡ false → AllByRecursion (λ y. eqb x y ≡ false) xs
apart x [] none = tt
apart x (y ∷ xs) none = elim (cases_eq x y) [
  | inl same ↦ absurd (false≢true (sym none ∙ head same))
  | inr other ↦ (ne_eqb x y other, apart x xs (rw (ne_eqb x y other) at none))
]
  where
    head : x ≡ y → list_any (eqb x) (y ∷ xs) ≡ true
    head same = rw (eq-eqb x y same) refl

distinct_none : IsDistinct eqb []
unfolding IsDistinct
distinct_none = tt

module _ (w : Sight) (lost : ℕ → Type 0) (many : ℕ) (below : (x : ℕ) → lost x → x < many) (led : (x : ℕ) → lost x → (y : ℕ) × lost y × Leads w y x) (slot : ℕ) (none : IsBehindNoCycle w slot) where
  -- a slot leads to the one that is asked for, or is that
  abbrev LeadsThere : ℕ → Type 0
  LeadsThere x = (x ≡ slot) ⊎ LeadsOn w x slot

  -- The chain so far: its first slot leads to each other, and to the one that is asked for.
  record IsChain (x : ℕ) (xs : List ℕ) : Type 0 where
    there : LeadsThere x
    lost_all : (y : ℕ) → list_any (eqb y) (x ∷ xs) ≡ true → lost y
    leads : (y : ℕ) → list_any (eqb y) xs ≡ true → LeadsOn w x y
    distinct : IsDistinct eqb (x ∷ xs)

  -- no cycle leads there
  no_return : (x y : ℕ) → Leads w y x → LeadsThere x → LeadsOn w x y → ⊥
  no_return x y first (inl same) back = none y (before w y x y first back) (subst (LeadsOn w y) same (step first))
  no_return x y first (inr on) back = none y (before w y x y first back) (before w y x slot first on)

  no_loop : (x : ℕ) → Leads w x x → LeadsThere x → ⊥
  no_loop x first (inl same) = none x (step first) (subst (LeadsOn w x) same (step first))
  no_loop x first (inr on) = none x (step first) on

  -- with the one in front that leads to the first
  longer : (x : ℕ) (xs : List ℕ) (y : ℕ) → IsChain x xs → lost y → Leads w y x → IsChain y (x ∷ xs)
  longer x xs y c gone first = record {
    there = inr (elim c.there [
      | inl same ↦ subst (LeadsOn w y) same (step first)
      | inr on ↦ before w y x slot first on
    ]);
    lost_all = λ z there. elim (in_cons z y (x ∷ xs) there) [
      | inl same ↦ subst lost (sym same) gone
      | inr later ↦ c.lost_all z later
    ];
    leads = λ z there. elim (in_cons z x xs there) [
      | inl same ↦ subst (LeadsOn w y) (sym same) (step first)
      | inr later ↦ before w y x z first (c.leads z later)
    ];
    distinct = IsDistinct-cons eqb y (x ∷ xs) (apart y (x ∷ xs) new) c.distinct;
  }
    where
      new : list_any (eqb y) (x ∷ xs) ≡ false
      new = elim (cases_Bool (list_any (eqb y) (x ∷ xs))) [
        | inl there ↦ elim (in_cons y x xs there) [
          | inl same ↦ absurd (no_loop x (subst (λ n. Leads w n x) same first) c.there)
          | inr later ↦ absurd (no_return x y first c.there (c.leads y later))
        ]
        | inr not_there ↦ not_there
      ]

  endless : (fuel x : ℕ) (xs : List ℕ) → IsChain x xs → many < length (x ∷ xs) + fuel → ⊥
  endless zero x xs c more = omega (arith, more, length-le_from_distinct_below (x ∷ xs) many c.distinct (λ y there. below y (c.lost_all y there)))
  endless (suc fuel) x xs c more =
      let (y, gone, first) = led x (c.lost_all x (rw (eq-eqb x x refl) refl)) in
      endless fuel y (x ∷ xs) (longer x xs y c gone first) (omega (arith, more))

  pub none_lost : lost slot → ⊥
  none_lost gone = endless many slot [] (record {
    there = inl refl;
    lost_all = λ y there. elim (in_cons y slot [] there) [
      | inl same ↦ subst lost (sym same) gone
      | inr not_so ↦ absurd (false≢true not_so)
    ];
    leads = λ y there. absurd (false≢true there);
    distinct = IsDistinct-cons eqb slot [] tt distinct_none;
  }) (omega arith)
