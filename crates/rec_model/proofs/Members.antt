-- Which numbers stand in a list: in parts of it, in a list of lists, and in one without repeats.
use Rattle.std.proofs.Common.{subst, zero, suc, get_or, arith, filter, not, ◌≢◌, ◌<◌, ◌≤◌, length, eqb, ◌≡◌, ℕ, ◌==◌, ◌||◌, ◌⊎◌, inl, inr, Bool, true, false, List, [], ◌∷◌, ◌++◌, All, refl, sym, ◌∙◌, ap}
use Rattle.std.specs.List.{flat_map, list_any, IsDistinct as IsDistinctBy}
use Rattle.std.proofs.lemmas.Cmp.{nat_eq_equiv}
use Rattle.std.proofs.lemmas.Map.Made.{length-le_from_is_member}
use Rattle.std.proofs.lemmas.Map.Keys.{IsDistinct-cons}
use Rattle.std.proofs.lemmas.Map.Steps.{length-le_from_distinct_below}
use Rattle.std.proofs.lemmas.List.Folds.{list_any-append}
use Rattle.std.proofs.lemmas.Bool.{cases_Bool, both_ways, false≢true, true≢false, eq-eqb, eqb-true, eqb-false, ne_eqb, or_cases, cases_eq}
use Rattle.std.proofs.lemmas.List.Elements.{All-nil, All-cons, All-head, All-tail, recursion_from_All}
use Rattle.std.proofs.Math.Bool.{or-true}
use Rattle.rec_model.proofs.Common.{is_in, IsDistinct}

-- a number stands in one of two parts
pub is_in-append : (n : ℕ) (xs ys : List ℕ) → is_in n (xs ++ ys) ≡ (is_in n xs || is_in n ys)
is_in-append n xs ys = list_any-append (λ m. m == n) xs ys

pub is_in-left : (n : ℕ) (xs ys : List ℕ) → is_in n xs ≡ true → is_in n (xs ++ ys) ≡ true
is_in-left n xs ys h = is_in-append n xs ys ∙ ap (λ b. b || is_in n ys) h

pub is_in-right : (n : ℕ) (xs ys : List ℕ) → is_in n ys ≡ true → is_in n (xs ++ ys) ≡ true
is_in-right n xs ys h = is_in-append n xs ys ∙ ap (λ b. is_in n xs || b) h ∙ or-true (is_in n xs)

pub is_in-cases : (n : ℕ) (xs ys : List ℕ) → is_in n (xs ++ ys) ≡ true → (is_in n xs ≡ true) ⊎ (is_in n ys ≡ true)
is_in-cases n xs ys h = or_cases (is_in n xs) (is_in n ys) (sym (is_in-append n xs ys) ∙ h)

-- the first number of a list stands in it
pub is_in-head : (n : ℕ) (ns : List ℕ) → is_in n (n ∷ ns) ≡ true
is_in-head n ns = ap (λ b. b || is_in n ns) (eq-eqb n n refl)

pub is_in-tail : (n m : ℕ) (ns : List ℕ) → is_in n ns ≡ true → is_in n (m ∷ ns) ≡ true
is_in-tail n m ns h = is_in-right n (m ∷ []) ns h

-- a number stands at the head or behind it
pub is_in-cons : (n m : ℕ) (ns : List ℕ) → is_in n (m ∷ ns) ≡ true → (m ≡ n) ⊎ (is_in n ns ≡ true)
is_in-cons n m ns h = elim (or_cases (m == n) (is_in n ns) h) [ inl e ↦ inl (eqb-true m n e) | inr e ↦ inr e ]

-- what a list's numbers all have, each of them has
pub of_all : (P : ℕ → Type 0) (ns : List ℕ) → All P ns → (n : ℕ) → is_in n ns ≡ true → P n
of_all P [] all n h = absurd (false≢true h)
of_all P (m ∷ ns) all n h = elim (is_in-cons n m ns h) [ inl e ↦ subst P e (All-head P m ns all) | inr e ↦ of_all P ns (All-tail P m ns all) n e ]

pub all_of : (P : ℕ → Type 0) (ns : List ℕ) → ((n : ℕ) → is_in n ns ≡ true → P n) → All P ns
all_of P [] h = All-nil P
all_of P (m ∷ ns) h = All-cons P m ns (h m (is_in-head m ns)) (all_of P ns (λ n e. h n (is_in-tail n m ns e)))

-- a number of one of the lists stands in all of them joined
pub is_in-flat_map : (f : ℕ → List ℕ) (m n : ℕ) (ms : List ℕ) → is_in m ms ≡ true → is_in n (f m) ≡ true → is_in n (flat_map f ms) ≡ true
is_in-flat_map f m n [] h g = absurd (false≢true h)
is_in-flat_map f m n (k ∷ ms) h g = elim (is_in-cons m k ms h) [
  | inl e ↦ is_in-left n (f k) (flat_map f ms) (rw e g)
  | inr e ↦ is_in-right n (f k) (flat_map f ms) (is_in-flat_map f m n ms e g)
]

-- a number of all the lists joined stands in one of them
pub in_flat_map : (f : ℕ → List ℕ) (n : ℕ) (ms : List ℕ) → is_in n (flat_map f ms) ≡ true → (m : ℕ) × (is_in m ms ≡ true) × (is_in n (f m) ≡ true)
in_flat_map f n [] h = absurd (false≢true h)
in_flat_map f n (k ∷ ms) h = elim (is_in-cases n (f k) (flat_map f ms) h) [
  | inl e ↦ (k, is_in-head k ms, e)
  | inr e ↦ let (m, a, b) = in_flat_map f n ms e in (m, is_in-tail m k ms a, b)
]

pub or_none : (a b : Bool) → (a || b) ≡ false → (a ≡ false) × (b ≡ false)
or_none true b h = absurd (true≢false h)
or_none false b h = (refl, h)

-- a number that isn't in a list is in no part of it
pub not_in-left : (n : ℕ) (xs ys : List ℕ) → is_in n (xs ++ ys) ≡ false → is_in n xs ≡ false
not_in-left n xs ys h = (or_none (is_in n xs) (is_in n ys) (sym (is_in-append n xs ys) ∙ h)).0

-- a new number at the end leaves all different
pub IsDistinct-push : (ns : List ℕ) (n : ℕ) → IsDistinct ns → is_in n ns ≡ false → IsDistinct (ns ++ n ∷ [])
IsDistinct-push [] n d h = (refl, tt)
IsDistinct-push (m ∷ ns) n d h = (
  elim (cases_Bool (is_in m (ns ++ n ∷ []))) [
    | inr none ↦ none
    | inl there ↦ elim (is_in-cases m ns (n ∷ []) there) [
      | inl a ↦ absurd (both_ways (is_in m ns) d.0 a)
      | inr b ↦ elim (is_in-cons m n [] b) [
        | inl e ↦ absurd (both_ways (is_in n (m ∷ ns)) h (subst (λ k. is_in n (k ∷ ns) ≡ true) e (is_in-head n ns)))
        | inr e ↦ absurd (false≢true e)
      ]
    ]
  ],
  IsDistinct-push ns n d.1 (or_none (m == n) (is_in n ns) h).1,
)

-- a number that isn't in a list differs from each one there
differs : (n : ℕ) (ns : List ℕ) → is_in n ns ≡ false → All (λ m. eqb n m ≡ false) ns
differs n [] h = All-nil (λ m. eqb n m ≡ false)
differs n (m ∷ ns) h =
    let parts : ((m == n) ≡ false) × (is_in n ns ≡ false) = or_none (m == n) (is_in n ns) h in
    All-cons (λ m. eqb n m ≡ false) m ns (ne_eqb n m (λ e. eqb-false m n parts.0 (sym e))) (differs n ns parts.1)

-- the same by std's word
by_std : (ns : List ℕ) → IsDistinct ns → IsDistinctBy eqb ns
unfolding IsDistinctBy
by_std [] d = tt
by_std (n ∷ ns) d = IsDistinct-cons eqb n ns (recursion_from_All (λ m. eqb n m ≡ false) ns (differs n ns d.0)) (by_std ns d.1)

any_is_in : (n : ℕ) (ns : List ℕ) → list_any (eqb n) ns ≡ true → is_in n ns ≡ true
any_is_in n [] h = h
any_is_in n (m ∷ ns) h = elim (or_cases (eqb n m) (list_any (eqb n) ns) h) [
  | inl e ↦ subst (λ k. is_in n (k ∷ ns) ≡ true) (eqb-true n m e) (is_in-head n ns)
  | inr e ↦ is_in-tail n m ns (any_is_in n ns e)
]

-- and the other way round
is_in_any : (n : ℕ) (ns : List ℕ) → is_in n ns ≡ true → list_any (eqb n) ns ≡ true
is_in_any n [] h = h
is_in_any n (m ∷ ns) h = elim (is_in-cons n m ns h) [
  | inl e ↦ ap (λ b. b || list_any (eqb n) ns) (eq-eqb n m (sym e))
  | inr e ↦ ap (λ b. eqb n m || b) (is_in_any n ns e) ∙ or-true (eqb n m)
]

-- different numbers that all stand in a list are at most as many
pub distinct_within : (ns ms : List ℕ) → IsDistinct ns → ((n : ℕ) → is_in n ns ≡ true → is_in n ms ≡ true) → length ns ≤ length ms
distinct_within ns ms d within = length-le_from_is_member nat_eq_equiv ns ms (by_std ns d) (λ n h. is_in_any n ms (within n (any_is_in n ns h)))

-- different numbers below a bound are at most as many
pub distinct_below : (ns : List ℕ) (bound : ℕ) → IsDistinct ns → ((n : ℕ) → is_in n ns ≡ true → n < bound) → length ns ≤ bound
distinct_below ns bound d below = length-le_from_distinct_below ns bound (by_std ns d) (λ n h. below n (any_is_in n ns h))

-- the numbers but for one
abbrev without : ℕ → List ℕ → List ℕ
without k ns = filter (λ m. not (m == k)) ns

-- a number stands among those that are left where one is taken out, as long as it is another
pub is_in-without : (n k : ℕ) (ns : List ℕ) → is_in n (without k ns) ≡ true → (is_in n ns ≡ true) × (n ≢ k)
is_in-without n k [] h = absurd (false≢true h)
is_in-without n k (m ∷ ns) h = elim (cases_eq m k) [
  | inl e ↦
      let kept = is_in-without n k ns (rw (eq-eqb m k e) at h) in
      (is_in-tail n m ns kept.0, kept.1)
  | inr apart ↦ elim (is_in-cons n m (without k ns) (rw (ne_eqb m k apart) at h)) [
    | inl e ↦ (subst (λ j. is_in n (j ∷ ns) ≡ true) (sym e) (is_in-head n ns), λ is. apart (e ∙ is))
    | inr later ↦ let kept = is_in-without n k ns later in (is_in-tail n m ns kept.0, kept.1)
  ]
]

pub without-is_in : (n k : ℕ) (ns : List ℕ) → n ≢ k → is_in n ns ≡ true → is_in n (without k ns) ≡ true
without-is_in n k [] other h = absurd (false≢true h)
without-is_in n k (m ∷ ns) other h = elim (cases_eq m k) [
  | inl e ↦ rw (eq-eqb m k e) (elim (is_in-cons n m ns h) [ inl is ↦ absurd (other (sym is ∙ e)) | inr later ↦ without-is_in n k ns other later ])
  | inr apart ↦ rw (ne_eqb m k apart) (elim (is_in-cons n m ns h) [
    | inl is ↦ subst (λ j. is_in n (j ∷ without k ns) ≡ true) (sym is) (is_in-head n (without k ns))
    | inr later ↦ is_in-tail n m (without k ns) (without-is_in n k ns other later)
  ])
]

pub IsDistinct-without : (k : ℕ) (ns : List ℕ) → IsDistinct ns → IsDistinct (without k ns)
IsDistinct-without k [] d = tt
IsDistinct-without k (m ∷ ns) d = elim (cases_eq m k) [
  | inl e ↦ rw (eq-eqb m k e) (IsDistinct-without k ns d.1)
  | inr apart ↦ rw (ne_eqb m k apart) (
    elim (cases_Bool (is_in m (without k ns))) [
      | inr none ↦ none
      | inl there ↦ absurd (both_ways (is_in m ns) d.0 (is_in-without m k ns there).0)
    ],
    IsDistinct-without k ns d.1,
  )
]

-- and so does the one at a place
pub is_in-at : (xs : List ℕ) (i : ℕ) → i < length xs → is_in (get_or xs i 0) xs ≡ true
is_in-at [] i lt = absurd (omega arith)
is_in-at (x ∷ xs) zero lt = is_in-head x xs
is_in-at (x ∷ xs) (suc i) lt = is_in-tail (get_or xs i 0) x xs (is_in-at xs i (omega arith))

-- what holds of each holds of the last, and of those before it
pub All-last : {X : Type 0} (P : X → Type 0) (xs : List X) (x : X) → All P (xs ++ x ∷ []) → P x
All-last P [] x h = All-head P x [] h
All-last P (y ∷ ys) x h = All-last P ys x (All-tail P y (ys ++ x ∷ []) h)

pub All-earlier : {X : Type 0} (P : X → Type 0) (xs : List X) (x : X) → All P (xs ++ x ∷ []) → All P xs
All-earlier P [] x h = All-nil P
All-earlier P (y ∷ ys) x h = All-cons P y ys (All-head P y (ys ++ x ∷ []) h) (All-earlier P ys x (All-tail P y (ys ++ x ∷ []) h))
