-- Bytes cut at their first end of a line or blank.
use Rattle.std.proofs.Common.{◌≡◌, inl, inr, ℕ, zero, suc, ◌+◌, ◌-◌, ◌<◌, ◌≤◌, Bool, true, false, cond, List, [], ◌∷◌, length, get_or, take, drop, refl, sym, ap, ◌∙◌, subst, arith, map}
use Rattle.std.specs.Prelude.{filter}
use Rattle.std.proofs.lemmas.List.{length-drop, length-take-le, take_all, drop_more, drop_all}
use Rattle.std.proofs.lemmas.Bool.{cases_lt, eq-eqb, ne_eqb}
use Rattle.rec_script.specs.Lines.{is_end, is_blank, in_front, cut, without_cr, lines, is_some_word, words}

true_not_false : (A : Type 0) → true ≡ false → A
true_not_false A e = cc

-- what stands before the first cut is the first piece
cut_front : (cuts : ℕ → Bool) (cs : List ℕ) (n : ℕ) → n < length cs → ((k : ℕ) → k < n → cuts (get_or cs k 0) ≡ false) → cuts (get_or cs n 0) ≡ true → cut cuts cs ≡ take n cs ∷ cut cuts (drop (n + 1) cs)
cut_front cuts [] n within before at = absurd (omega arith)
cut_front cuts (c ∷ cs) zero within before at = ap (λ (b : Bool). cond b ([] ∷ cut cuts cs) (in_front c (cut cuts cs))) at
cut_front cuts (c ∷ cs) (suc n) within before at =
    let e : suc n + 1 ≡ suc (n + 1) = omega arith in
    ap (λ (b : Bool). cond b ([] ∷ cut cuts cs) (in_front c (cut cuts cs))) (before 0 (omega arith))
    ∙ ap (in_front c) (cut_front cuts cs n (omega arith) (λ k h. before (suc k) (omega arith)) at)
    ∙ ap (λ (m : ℕ). take (suc n) (c ∷ cs) ∷ cut cuts (drop m (c ∷ cs))) (sym e)

-- without a cut there is one piece
pub cut_none : (cuts : ℕ → Bool) (cs : List ℕ) → 0 < length cs → ((k : ℕ) → k < length cs → cuts (get_or cs k 0) ≡ false) → cut cuts cs ≡ cs ∷ []
cut_none cuts [] some before = absurd (omega arith)
cut_none cuts (c ∷ []) some before = ap (λ (b : Bool). cond b ([] ∷ []) ((c ∷ []) ∷ [])) (before 0 (omega arith))
cut_none cuts (c ∷ d ∷ cs) some before =
    ap (λ (b : Bool). cond b ([] ∷ cut cuts (d ∷ cs)) (in_front c (cut cuts (d ∷ cs)))) (before 0 (omega arith))
    ∙ ap (in_front c) (cut_none cuts (d ∷ cs) (omega arith) (λ k h. before (suc k) (omega arith)))

-- ---- lines

pub with_cr : (cs : List ℕ) → 0 < length cs → get_or cs (length cs - 1) 0 ≡ 13 → without_cr cs ≡ take (length cs - 1) cs
with_cr [] some e = absurd (omega arith)
with_cr (c ∷ []) some e = ap (λ (b : Bool). cond b [] (c ∷ [])) (eq-eqb c 13 e)
with_cr (c ∷ d ∷ cs) some e =
    let same : length (c ∷ d ∷ cs) - 1 ≡ suc (length (d ∷ cs) - 1) = omega arith in
    ap (λ (t : List ℕ). c ∷ t) (with_cr (d ∷ cs) (omega arith) (ap (λ (m : ℕ). get_or (c ∷ d ∷ cs) m 0) (sym same) ∙ e))
    ∙ ap (λ (m : ℕ). take m (c ∷ d ∷ cs)) (sym same)

pub no_cr : (cs : List ℕ) → (0 < length cs → get_or cs (length cs - 1) 0 ≡ 13 → ⊥) → without_cr cs ≡ cs
no_cr [] other = refl
no_cr (c ∷ []) other = ap (λ (b : Bool). cond b [] (c ∷ [])) (ne_eqb c 13 (other (omega arith)))
no_cr (c ∷ d ∷ cs) other =
    let e : length (c ∷ d ∷ cs) - 1 ≡ suc (length (d ∷ cs) - 1) = omega arith in
    ap (λ (t : List ℕ). c ∷ t) (no_cr (d ∷ cs) (λ some h. other (omega arith) (ap (λ (m : ℕ). get_or (c ∷ d ∷ cs) m 0) e ∙ h)))

pub line_and_more : (cs : List ℕ) (n : ℕ) → n < length cs → ((k : ℕ) → k < n → is_end (get_or cs k 0) ≡ false) → is_end (get_or cs n 0) ≡ true → lines cs ≡ without_cr (take n cs) ∷ lines (drop (n + 1) cs)
line_and_more cs n within before at = ap (map without_cr) (cut_front is_end cs n within before at)

pub last_line : (cs : List ℕ) (n : ℕ) → 0 < length cs → n ≡ length cs → ((k : ℕ) → k < n → is_end (get_or cs k 0) ≡ false) → lines cs ≡ without_cr (take n cs) ∷ lines (drop n cs)
last_line cs n some whole before =
    ap (map without_cr) (cut_none is_end cs some (λ k h. before k (omega arith)))
    ∙ ap (λ (t : List ℕ). without_cr t ∷ []) (sym (take_all n cs (omega arith)))
    ∙ ap (λ (t : List ℕ). without_cr (take n cs) ∷ lines t) (sym (drop_all n cs (omega arith)))

-- ---- words

-- blanks at the front are no part of a word
after_blanks : (cs : List ℕ) (n : ℕ) → n ≤ length cs → ((k : ℕ) → k < n → is_blank (get_or cs k 0) ≡ true) → words cs ≡ words (drop n cs)
after_blanks cs zero within before = refl
after_blanks [] (suc n) within before = absurd (omega arith)
after_blanks (c ∷ cs) (suc n) within before =
    ap (λ (b : Bool). filter is_some_word (cond b ([] ∷ cut is_blank cs) (in_front c (cut is_blank cs)))) (before 0 (omega arith))
    ∙ after_blanks cs n (omega arith) (λ k h. before (suc k) (omega arith))

pub some_word : (w : List ℕ) → 0 < length w → is_some_word w ≡ true
some_word [] some = absurd (omega arith)
some_word (c ∷ cs) some = refl

some_front : (n : ℕ) (cs : List ℕ) → 0 < n → 0 < length cs → is_some_word (take n cs) ≡ true
some_front zero cs some there = absurd (omega arith)
some_front (suc n) [] some there = absurd (omega arith)
some_front (suc n) (c ∷ cs) some there = refl

nothing : (cs : List ℕ) → length cs ≡ 0 → words cs ≡ []
nothing [] none = refl
nothing (c ∷ cs) none = absurd (omega arith)

-- a line of blanks has no word
pub all_blank : (cs rest : List ℕ) (n : ℕ) → n ≤ length cs → ((k : ℕ) → k < n → is_blank (get_or cs k 0) ≡ true) → rest ≡ drop n cs → length rest ≡ 0 → words cs ≡ []
all_blank cs rest n within before e none = after_blanks cs n within before ∙ ap words (sym e) ∙ nothing rest none

-- what stands before the first blank is the first word
word_and_more : (cs : List ℕ) (n : ℕ) → 0 < n → n ≤ length cs → ((k : ℕ) → k < n → is_blank (get_or cs k 0) ≡ false) → (n < length cs → is_blank (get_or cs n 0) ≡ true) → words cs ≡ take n cs ∷ words (drop n cs)
word_and_more cs n some within before at = elim (cases_lt n (length cs)) [
  | inl lt ↦
      ap (filter is_some_word) (cut_front is_blank cs n lt before (at lt))
      ∙ ap (λ (b : Bool). cond b (take n cs ∷ words (drop (n + 1) cs)) (words (drop (n + 1) cs))) (some_front n cs some (omega arith))
      ∙ ap (λ (t : List (List ℕ)). take n cs ∷ t)
      (sym (ap words (drop_more cs n 0 lt)
      ∙ ap (λ (b : Bool). filter is_some_word (cond b ([] ∷ cut is_blank (drop (n + 1) cs)) (in_front (get_or cs n 0) (cut is_blank (drop (n + 1) cs))))) (at lt)))
  | inr ge ↦
      ap (filter is_some_word) (cut_none is_blank cs (omega arith) (λ k h. before k (omega arith)))
      ∙ ap (λ (b : Bool). cond b (cs ∷ []) []) (some_word cs (omega arith))
      ∙ ap (λ (t : List ℕ). t ∷ []) (sym (take_all n cs ge))
      ∙ ap (λ (t : List ℕ). take n cs ∷ words t) (sym (drop_all n cs ge))
]

-- the first word of a line behind its blanks
pub first_word : (cs rest word more : List ℕ) (m n : ℕ) → m ≤ length cs → ((k : ℕ) → k < m → is_blank (get_or cs k 0) ≡ true) → (m < length cs → is_blank (get_or cs m 0) ≡ false) → rest ≡ drop m cs → 0 < length rest
    → n ≤ length rest → ((k : ℕ) → k < n → is_blank (get_or rest k 0) ≡ false) → (n < length rest → is_blank (get_or rest n 0) ≡ true) → word ≡ take n rest → more ≡ drop n rest
    → (words cs ≡ word ∷ words more) × (0 < length word)
first_word cs rest word more m n m-within blank letter rest-is some within before at word-is more-is =
    let lt : m < length cs = omega (arith, ap (length {A = ℕ}) rest-is, length-drop m cs) in
    let first : get_or rest 0 0 ≡ get_or cs m 0 = ap (λ (t : List ℕ). get_or t 0 0) (rest-is ∙ drop_more cs m 0 lt) in
    let some-letters : 0 < n = elim (cases_lt 0 n) [
      | inl lt ↦ lt
      | inr ge ↦
          let zero-is : n ≡ 0 = omega arith in
          let is-blank : is_blank (get_or rest 0 0) ≡ true = subst (λ (k : ℕ). is_blank (get_or rest k 0) ≡ true) zero-is (at (omega arith)) in
          absurd (true_not_false _ (sym is-blank ∙ ap is_blank first ∙ letter lt))
    ] in (
      after_blanks cs m m-within blank ∙ ap words (sym rest-is) ∙ word_and_more rest n some-letters within before at ∙ ap (λ (t : List ℕ). t ∷ words (drop n rest)) (sym word-is) ∙ ap (λ (t : List ℕ). word ∷ words t) (sym more-is),
      omega (arith, ap (length {A = ℕ}) word-is, length-take-le n rest within),
    )
