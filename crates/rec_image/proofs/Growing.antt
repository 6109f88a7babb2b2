-- A list that names numbers in just their order, each where it is first met: what makes a numbering.
use Rattle.std.proofs.Common.{◌≡◌, ℕ, zero, suc, ◌+◌, ◌<◌, ◌≤◌, ◌⊎◌, inl, inr, true, false, List, [], ◌∷◌, ◌++◌, length, get_or, refl, sym, ap, subst, ◌∙◌, arith, append_assoc, append-nil, length-append}
use Rattle.std.specs.Prelude.{max}
use Rattle.std.specs.List.{flat_map, range_with_len}
use Rattle.std.proofs.lemmas.Bool.{cases_Bool, cases_lt, false≢true}
use Rattle.std.proofs.lemmas.List.FromFn.{length-range_with_len, get_or-range_with_len}
use Rattle.rec_model.proofs.Common.{is_in, IsReached, firsts_after, joined, IsNumbering}
use Rattle.rec_model.specs.Reach.IsReached.{root, child}
use Rattle.rec_model.proofs.Members.{is_in-head, is_in-cons, is_in-tail, of_all, all_of}
use Rattle.rec_model.proofs.Firsts.{joined-met, joined-new}

-- each number is met already or is the next one, where those below m are met
abbrev pub Grows : (m : ℕ) → List ℕ → Type 0
Grows m [] = Unit {0}
Grows m (n ∷ ns) = (n ≤ m) × Grows (max m (n + 1)) ns

-- how many are met then
abbrev pub highest : (m : ℕ) → List ℕ → ℕ
highest m [] = m
highest m (n ∷ ns) = highest (max m (n + 1)) ns

-- objects from number j on, with these children, are met when they have their turns, and their children grow
abbrev pub Follows : (m j : ℕ) → List (List ℕ) → Type 0
Follows m j [] = Unit {0}
Follows m j (names ∷ more) = (j < m) × Grows m names × Follows (highest m names) (j + 1) more

abbrev pub highest_all : (m : ℕ) → List (List ℕ) → ℕ
highest_all m [] = m
highest_all m (names ∷ more) = highest_all (highest m names) more

abbrev flat : List (List ℕ) → List ℕ
flat cs = flat_map (λ (c : List ℕ). c) cs

-- ---- growing lists

pub highest-le : (m : ℕ) (xs : List ℕ) → m ≤ highest m xs
highest-le m [] = omega arith
highest-le m (x ∷ xs) = let more : max m (x + 1) ≤ highest (max m (x + 1)) xs = highest-le (max m (x + 1)) xs in omega arith

pub highest-append : (m : ℕ) (xs ys : List ℕ) → highest m (xs ++ ys) ≡ highest (highest m xs) ys
highest-append m [] ys = refl
highest-append m (x ∷ xs) ys = highest-append (max m (x + 1)) xs ys

pub grows_left : (m : ℕ) (xs ys : List ℕ) → Grows m (xs ++ ys) → Grows m xs
grows_left m [] ys g = tt
grows_left m (x ∷ xs) ys g = (g.0, grows_left (max m (x + 1)) xs ys g.1)

pub grows_right : (m : ℕ) (xs ys : List ℕ) → Grows m (xs ++ ys) → Grows (highest m xs) ys
grows_right m [] ys g = g
grows_right m (x ∷ xs) ys g = grows_right (max m (x + 1)) xs ys g.1

pub grows_join : (m : ℕ) (xs ys : List ℕ) → Grows m xs → Grows (highest m xs) ys → Grows m (xs ++ ys)
grows_join m [] ys g h = h
grows_join m (x ∷ xs) ys g h = (g.0, grows_join (max m (x + 1)) xs ys g.1 h)

-- one number more at each step, at most
pub highest-most : (m : ℕ) (xs : List ℕ) → Grows m xs → highest m xs ≤ m + length xs
highest-most m [] g = omega arith
highest-most m (x ∷ xs) g = let more : highest (max m (x + 1)) xs ≤ max m (x + 1) + length xs = highest-most (max m (x + 1)) xs g.1 in omega (arith, g.0)

highest_all-le : (m : ℕ) (cs : List (List ℕ)) → m ≤ highest_all m cs
highest_all-le m [] = omega arith
highest_all-le m (c ∷ cs) = let one : m ≤ highest m c = highest-le m c in let more : highest m c ≤ highest_all (highest m c) cs = highest_all-le (highest m c) cs in omega arith

highest-flat : (m : ℕ) (cs : List (List ℕ)) → highest m (flat cs) ≡ highest_all m cs
highest-flat m [] = refl
highest-flat m (c ∷ cs) = highest-append m c (flat cs) ∙ highest-flat (highest m c) cs

grows_flat : (m j : ℕ) (cs : List (List ℕ)) → Follows m j cs → Grows m (flat cs)
grows_flat m j [] f = tt
grows_flat m j (c ∷ cs) f = grows_join m c (flat cs) f.1 (grows_flat (highest m c) (j + 1) cs f.2)

pub follows_left : (m j : ℕ) (cs ds : List (List ℕ)) → Follows m j (cs ++ ds) → Follows m j cs
follows_left m j [] ds f = tt
follows_left m j (c ∷ cs) ds f = (f.0, f.1, follows_left (highest m c) (j + 1) cs ds f.2)

pub follows_join : (m j k : ℕ) (cs ds : List (List ℕ)) → j + length cs ≡ k → Follows m j cs → Follows (highest_all m cs) k ds → Follows m j (cs ++ ds)
follows_join m j k [] ds e f g = subst (λ (i : ℕ). Follows m i ds) (let s : k ≡ j = omega arith in s) g
follows_join m j k (c ∷ cs) ds e f g = (f.0, f.1, follows_join (highest m c) (j + 1) k cs ds (omega arith) f.2 g)

pub highest_all-append : (m : ℕ) (cs ds : List (List ℕ)) → highest_all m (cs ++ ds) ≡ highest_all (highest_all m cs) ds
highest_all-append m [] ds = refl
highest_all-append m (c ∷ cs) ds = highest_all-append (highest m c) cs ds

-- there are no more of them than are met
pub follows-length : (m j : ℕ) (cs : List (List ℕ)) → Follows m j cs → j + length cs ≤ max j (highest_all m cs)
follows-length m j [] f = omega arith
follows-length m j (c ∷ cs) f =
    let later : (j + 1) + length cs ≤ max (j + 1) (highest_all (highest m c) cs) = follows-length (highest m c) (j + 1) cs f.2 in
    let up : m ≤ highest m c = highest-le m c in
    let top : highest m c ≤ highest_all (highest m c) cs = highest_all-le (highest m c) cs in
    omega (arith, f.0)

-- what was named is met
member_below : (m k : ℕ) (xs : List ℕ) → is_in k xs ≡ true → k < highest m xs
member_below m k [] h = absurd (false≢true h)
member_below m k (x ∷ xs) h = elim (is_in-cons k x xs h) [
  | inl e ↦ let more : max m (x + 1) ≤ highest (max m (x + 1)) xs = highest-le (max m (x + 1)) xs in omega arith
  | inr e ↦ member_below (max m (x + 1)) k xs e
]

-- what is met was met before, or is named
met_cases : (m k : ℕ) (xs : List ℕ) → Grows m xs → k < highest m xs → (k < m) ⊎ (is_in k xs ≡ true)
met_cases m k [] g lt = inl lt
met_cases m k (x ∷ xs) g lt = elim (met_cases (max m (x + 1)) k xs g.1 lt) [
  | inl below ↦ elim (cases_lt k m) [
    | inl before ↦ inl before
    | inr past ↦ let e : x ≡ k = omega (arith, g.0) in inr (subst (λ n. is_in n (x ∷ xs) ≡ true) e (is_in-head x xs))
  ]
  | inr later ↦ inr (is_in-tail k x xs later)
]

-- ---- the numbers from 0 on

range_more : (a n b : ℕ) → a + n ≡ b → range_with_len a (suc n) ≡ range_with_len a n ++ b ∷ []
range_more a zero b e = ap (λ (k : ℕ). k ∷ []) (let s : a ≡ b = omega arith in s)
range_more a (suc n) b e = ap (λ (ks : List ℕ). a ∷ ks) (range_more (a + 1) n b (omega arith))

in_range : (a n k : ℕ) → a ≤ k → k < a + n → is_in k (range_with_len a n) ≡ true
in_range a zero k low high = absurd (omega arith)
in_range a (suc n) k low high = elim (cases_lt a k) [
  | inl lt ↦ is_in-tail k a (range_with_len (a + 1) n) (in_range (a + 1) n k (omega arith) (omega arith))
  | inr ge ↦ let e : a ≡ k = omega arith in subst (λ i. is_in i (a ∷ range_with_len (a + 1) n) ≡ true) e (is_in-head a (range_with_len (a + 1) n))
]

range_in : (a n k : ℕ) → is_in k (range_with_len a n) ≡ true → k < a + n
range_in a zero k h = absurd (false≢true h)
range_in a (suc n) k h = elim (is_in-cons k a (range_with_len (a + 1) n) h) [
  | inl e ↦ omega arith
  | inr e ↦ let more : k < (a + 1) + n = range_in (a + 1) n k e in omega arith
]

not_in_range : (m k : ℕ) → m ≤ k → is_in k (range_with_len 0 m) ≡ false
not_in_range m k past = elim (cases_Bool (is_in k (range_with_len 0 m))) [
  | inr none ↦ none
  | inl there ↦ absurd (let lt : k < 0 + m = range_in 0 m k there in omega arith)
]

-- the next number more
joined-next : (m k : ℕ) (xs : List ℕ) → k ≡ m → joined (range_with_len 0 m) (k ∷ xs) ≡ joined (range_with_len 0 (suc m)) xs
joined-next m k xs e =
    joined-new (range_with_len 0 m) k xs (not_in_range m k (omega arith))
    ∙ ap (λ (ms : List ℕ). joined ms xs) (sym (range_more 0 m k (omega arith)))

grows_joined : (m : ℕ) (xs : List ℕ) → Grows m xs → joined (range_with_len 0 m) xs ≡ range_with_len 0 (highest m xs)
grows_joined m [] g = append-nil (range_with_len 0 m)
grows_joined m (x ∷ xs) g = elim (cases_lt x m) [
  | inl lt ↦ let same : max m (x + 1) ≡ m = omega arith in
      joined-met (range_with_len 0 m) x xs (in_range 0 m x (omega arith) (omega arith))
      ∙ ap (λ (k : ℕ). joined (range_with_len 0 k) xs) (sym same)
      ∙ grows_joined (max m (x + 1)) xs g.1
  | inr ge ↦ let next : max m (x + 1) ≡ suc m = omega (arith, g.0) in let e : x ≡ m = omega (arith, g.0) in
      joined-next m x xs e
      ∙ ap (λ (k : ℕ). joined (range_with_len 0 k) xs) (sym next)
      ∙ grows_joined (max m (x + 1)) xs g.1
]

-- the number behind the first ones
at_next : (m n k : ℕ) (more : List ℕ) → (range_with_len 0 m ++ k ∷ []) ++ more ≡ range_with_len 0 n → k ≡ m
at_next m n k more e =
    let size : length ((range_with_len 0 m ++ k ∷ []) ++ more) ≡ n = ap (length {A = ℕ}) e ∙ length-range_with_len 0 n in
    let within : m < n = omega (arith, length-append (range_with_len 0 m ++ k ∷ []) more, length-append (range_with_len 0 m) (k ∷ []), length-range_with_len 0 m) in
    let right : get_or (range_with_len 0 n) m 0 ≡ 0 + m = get_or-range_with_len 0 n m 0 within in
    let left : get_or ((range_with_len 0 m ++ k ∷ []) ++ more) m 0 ≡ k =
    ap (λ (xs : List ℕ). get_or xs m 0) (append_assoc (range_with_len 0 m) (k ∷ []) more) ∙ behind (range_with_len 0 m) m (length-range_with_len 0 m) in
    sym left ∙ ap (λ (xs : List ℕ). get_or xs m 0) e ∙ right ∙ (let z : 0 + m ≡ m = omega arith in z)
  where
    behind : (xs : List ℕ) (i : ℕ) → length xs ≡ i → get_or (xs ++ k ∷ more) i 0 ≡ k
    behind [] i e = ap (λ (n : ℕ). get_or (k ∷ more) n 0) (sym e)
    behind (x ∷ xs) zero e = absurd (omega arith)
    behind (x ∷ xs) (suc i) e = behind xs i (omega arith)

joined_grows : (m n : ℕ) (xs : List ℕ) → joined (range_with_len 0 m) xs ≡ range_with_len 0 n → Grows m xs × (highest m xs ≡ n)
joined_grows m n [] e = (tt, sym (length-range_with_len 0 m) ∙ ap (length {A = ℕ}) (sym (append-nil (range_with_len 0 m)) ∙ e) ∙ length-range_with_len 0 n)
joined_grows m n (x ∷ xs) e = elim (cases_lt x m) [
  | inl lt ↦ let same : max m (x + 1) ≡ m = omega arith in
      let found : Grows m xs × (highest m xs ≡ n) = joined_grows m n xs (sym (joined-met (range_with_len 0 m) x xs (in_range 0 m x (omega arith) (omega arith))) ∙ e) in
      ((omega arith, subst (λ (k : ℕ). Grows k xs) (sym same) found.0), ap (λ (k : ℕ). highest k xs) same ∙ found.1)
  | inr ge ↦ let new : is_in x (range_with_len 0 m) ≡ false = not_in_range m x ge in
      let next : x ≡ m = at_next m n x (firsts_after (range_with_len 0 m ++ x ∷ []) xs) (sym (joined-new (range_with_len 0 m) x xs new) ∙ e) in
      let top : max m (x + 1) ≡ suc m = omega arith in
      let found : Grows (suc m) xs × (highest (suc m) xs ≡ n) = joined_grows (suc m) n xs (sym (joined-next m x xs next) ∙ e) in
      ((omega arith, subst (λ (k : ℕ). Grows k xs) (sym top) found.0), ap (λ (k : ℕ). highest k xs) top ∙ found.1)
]

-- ---- numberings

-- the children of the objects from j on, of which each has its own
abbrev pub AreOf : (f : ℕ → List ℕ) (j : ℕ) → List (List ℕ) → Type 0
AreOf f j cs = (i : ℕ) → f (j + i) ≡ get_or cs i []

of_first : (f : ℕ → List ℕ) (j : ℕ) (c : List ℕ) (cs : List (List ℕ)) → AreOf f j (c ∷ cs) → f j ≡ c
of_first f j c cs of = ap f (let e : j ≡ j + 0 = omega arith in e) ∙ of 0

of_rest : (f : ℕ → List ℕ) (j : ℕ) (c : List ℕ) (cs : List (List ℕ)) → AreOf f j (c ∷ cs) → AreOf f (j + 1) cs
of_rest f j c cs of = λ i. ap f (let e : (j + 1) + i ≡ j + suc i = omega arith in e) ∙ of (suc i)

flat_of : (f : ℕ → List ℕ) (j : ℕ) (cs : List (List ℕ)) → AreOf f j cs → flat_map f (range_with_len j (length cs)) ≡ flat cs
flat_of f j [] of = refl
flat_of f j (c ∷ cs) of =
    ap (λ (ns : List ℕ). ns ++ flat_map f (range_with_len (j + 1) (length cs))) (of_first f j c cs of)
    ∙ ap (λ (ns : List ℕ). c ++ ns) (flat_of f (j + 1) cs (of_rest f j c cs of))

-- what follows is reached
follows_reached : (roots : List ℕ) (f : ℕ → List ℕ) (m j : ℕ) (cs : List (List ℕ)) → AreOf f j cs → Follows m j cs → ((k : ℕ) → k < m → IsReached roots f k) → (k : ℕ) → k < highest_all m cs → IsReached roots f k
follows_reached roots f m j [] of follows below k lt = below k lt
follows_reached roots f m j (c ∷ cs) of follows below k lt =
    follows_reached roots f (highest m c) (j + 1) cs (of_rest f j c cs of) follows.2
    (λ i met. elim (met_cases m i c follows.1 met) [
      | inl before ↦ below i before
      | inr named_here ↦ child j i (below j follows.0) (subst (λ (ns : List ℕ). is_in i ns ≡ true) (sym (of_first f j c cs of)) named_here)
    ]) k lt

pub numbered_from : (roots : List ℕ) (f : ℕ → List ℕ) (cs : List (List ℕ)) → AreOf f 0 cs → Grows 0 roots → Follows (highest 0 roots) 0 cs → highest_all (highest 0 roots) cs ≡ length cs → IsNumbering roots f (range_with_len 0 (length cs))
numbered_from roots f cs of grows follows all = record {
  order = sym (
      ap (λ (ns : List ℕ). joined [] (roots ++ ns)) (flat_of f 0 cs of)
      ∙ grows_joined 0 (roots ++ flat cs) (grows_join 0 roots (flat cs) grows (grows_flat (highest 0 roots) 0 cs follows))
      ∙ ap (range_with_len 0) (highest-append 0 roots (flat cs) ∙ highest-flat (highest 0 roots) cs ∙ all));
  reached = all_of (IsReached roots f) (range_with_len 0 (length cs)) (λ k there.
      let below : k < 0 + length cs = range_in 0 (length cs) k there in
      follows_reached roots f (highest 0 roots) 0 cs of follows
      (λ i met. elim (met_cases 0 i roots grows met) [ inl none ↦ absurd (omega arith) | inr there ↦ root i there ])
      k (omega (arith, all)));
}

-- what is met is closed where nothing further is reached
reached_below : (roots : List ℕ) (f : ℕ → List ℕ) (m j : ℕ) → m ≤ j → ((k : ℕ) → is_in k roots ≡ true → k < m) → ((i k : ℕ) → i < j → is_in k (f i) ≡ true → k < m) → (k : ℕ) → IsReached roots f k → k < m
reached_below roots f m j short of_roots of_children k (root n there) = of_roots n there
reached_below roots f m j short of_roots of_children k (child a n from there) =
    let before : a < m = reached_below roots f m j short of_roots of_children a from in
    of_children a n (omega arith) there

numbered_follows : (roots : List ℕ) (f : ℕ → List ℕ) (m j : ℕ) (cs : List (List ℕ)) → AreOf f j cs → ((k : ℕ) → is_in k roots ≡ true → k < m) → ((i k : ℕ) → i < j → is_in k (f i) ≡ true → k < m) → Grows m (flat cs) → ((k : ℕ) → j ≤ k → k < j + length cs → IsReached roots f k) → Follows m j cs
numbered_follows roots f m j [] of of_roots of_children grows reached = tt
numbered_follows roots f m j (c ∷ cs) of of_roots of_children grows reached = (
  elim (cases_lt j m) [
    | inl lt ↦ lt
    | inr short ↦ absurd (let lt : j < m = reached_below roots f m j short of_roots of_children j (reached j (omega arith) (omega arith)) in omega arith)
  ],
  grows_left m c (flat cs) grows,
  numbered_follows roots f (highest m c) (j + 1) cs (of_rest f j c cs of)
      (λ k there. let lt : k < m = of_roots k there in let up : m ≤ highest m c = highest-le m c in omega arith)
      (λ i k before there. elim (cases_lt i j) [
        | inl earlier ↦ let lt : k < m = of_children i k earlier there in let up : m ≤ highest m c = highest-le m c in omega arith
        | inr now ↦ let same : i ≡ j = omega arith in member_below m k c (subst (λ (ns : List ℕ). is_in k ns ≡ true) (ap f same ∙ of_first f j c cs of) there)
      ])
      (grows_right m c (flat cs) grows)
      (λ k past lt. reached k (omega arith) (omega arith)),
)

-- the objects grow as they are numbered
pub record IsGrown (roots : List ℕ) (cs : List (List ℕ)) : Type 0 where
  pub roots_grow : Grows 0 roots
  pub follows : Follows (highest 0 roots) 0 cs
  pub all : highest_all (highest 0 roots) cs ≡ length cs

pub grown_from : (roots : List ℕ) (f : ℕ → List ℕ) (cs : List (List ℕ)) → AreOf f 0 cs → IsNumbering roots f (range_with_len 0 (length cs)) → IsGrown roots cs
grown_from roots f cs of numbers =
    let found : Grows 0 (roots ++ flat cs) × (highest 0 (roots ++ flat cs) ≡ length cs) =
    joined_grows 0 (length cs) (roots ++ flat cs) (ap (λ (ns : List ℕ). joined [] (roots ++ ns)) (sym (flat_of f 0 cs of)) ∙ sym numbers.order) in
    record {
      roots_grow = grows_left 0 roots (flat cs) found.0;
      follows = numbered_follows roots f (highest 0 roots) 0 cs of
          (λ k there. member_below 0 k roots there)
          (λ i k before there. absurd (omega arith))
          (grows_right 0 roots (flat cs) found.0)
          (λ k low lt. of_all (IsReached roots f) (range_with_len 0 (length cs)) numbers.reached k (in_range 0 (length cs) k low lt));
      all = sym (highest-flat (highest 0 roots) cs) ∙ sym (highest-append 0 roots (flat cs)) ∙ found.1;
    }
