-- Loads as words of fields.
use Rattle.std.proofs.Common.{◌≡◌, ℕ, zero, suc, ◌+◌, ◌<◌, ◌≤◌, Bool, true, false, eqb, ltb, cond, Some, List, [], ◌∷◌, length, map, refl, ap, ◌∙◌, arith, zero-add}
use Rattle.std.specs.List.{range_with_len}
use Rattle.std.proofs.lemmas.Bool.{eqb-true}
use Rattle.std.proofs.lemmas.Bool.Decides.{nat_tests}
use Rattle.rec_trial.proofs.Common.{target_of, target_bits, State, one, unreleased_within, Run, run_of}
use Rattle.rec_counts.specs.Lists as in_counts
use Rattle.rec_word.specs.Load.{Load}
use Rattle.rec_trial.specs.Still.{references}
use Rattle.rec_trial.specs.Tried.{IsCareful, IsOver}
use Rattle.rec_trial.specs.Witnessed.{word_at, TrialIsWitnessed}
use Rattle.rec_trial.proofs.Deletion.{Seen}
use Rattle.rec_trial.proofs.Holding.{named, loaded}
use Rattle.rec_trial.proofs.Readings.{code_some, codes, loaded_read, naming_read, references_read, below_front}
use Rattle.rec_trial.proofs.Runs.{seen_of}
use Rattle.rec_trial.proofs.Totals.{total, total_below, same}
use Rattle.rec_trial.proofs.Whole.{whole_careful, whole_over}

-- sums over the numbers below one
pub below_alike : (f h : ℕ → ℕ) (k : ℕ) → ((g : ℕ) → g < k → f g ≡ h g) → total_below f k ≡ total_below h k
below_alike f h zero e = refl
below_alike f h (suc k) e = omega (arith, e k (omega arith), below_alike f h k (λ g l. e g (omega arith)))

-- a value more at one number
below_changed : (f h : ℕ → ℕ) (a v k : ℕ) → ((n : ℕ) → h n ≡ f n + cond (eqb n a) v 0) → total_below h k ≡ total_below f k + cond (ltb a k) v 0
below_changed f h a v zero e = grind (arith, nat_tests)
below_changed f h a v (suc k) e = fit (total_below f k) (f k) (below_changed f h a v k e) (e k)
  where
    fit : {t m : ℕ} (u n : ℕ) → t ≡ u + cond (ltb a k) v 0 → m ≡ n + cond (eqb k a) v 0 → t + m ≡ u + n + cond (ltb a (suc k)) v 0
    fit u n p q = grind (arith, nat_tests)

pub total_range : (f : ℕ → ℕ) (a n : ℕ) → total f (range_with_len a n) ≡ total_below (λ k. f (a + k)) n
total_range f a zero = refl
total_range f a (suc n) =
    let e : f (a + 0) ≡ f a = ap f (omega arith) in
    let next : (k : ℕ) → f (a + 1 + k) ≡ f (a + suc k) = λ k. ap f (omega arith) in
    omega (arith, e, total_range f (a + 1) n, below_alike (λ k. f (a + 1 + k)) (λ k. f (a + suc k)) n (λ k l. next k), below_front (λ k. f (a + k)) n)

-- a field that was not loaded has no word
no_word : (loads : List Load) (n g : ℕ) → loaded n g (map seen_of loads) ≡ 0 → word_at loads n g ≡ 0
no_word [] n g h = refl
no_word (l ∷ loads) n g h = fit (eqb n l.slot) (eqb g l.field) h (no_word loads n g)
  where
    fit : (a b : Bool) → cond a (one b) 0 + loaded n g (map seen_of loads) ≡ 0 → (loaded n g (map seen_of loads) ≡ 0 → word_at loads n g ≡ 0) → cond (cond a b false) l.word (word_at loads n g) ≡ 0
    fit true true h k = absurd (omega arith)
    fit true false h k = k (omega arith)
    fit false b h k = k (omega arith)

-- how many fields have a word that leads to the slot
abbrev leading : List Load → (slots fields : ℕ) → ℕ → ℕ
leading loads slots fields x = total_below (λ n. total_below (λ g. same (suc x) (codes (word_at loads) n g)) fields) slots

leading_read : (loads : List Load) (slots fields x : ℕ) → references fields (word_at loads) (range_with_len 0 slots) x ≡ leading loads slots fields x
leading_read loads slots fields x =
    let f : ℕ → ℕ = λ n. total_below (λ g. same (suc x) (codes (word_at loads) n g)) fields in
    references_read fields (word_at loads) (range_with_len 0 slots) x ∙ total_range f 0 slots ∙ below_alike (λ n. f (0 + n)) f slots (λ n l. ap f (zero-add n))

-- each load is of a field that there is, and each field was loaded once
record Spread (slots fields : ℕ) (ls : List Seen) : Type 0 where
  once : (n g : ℕ) → loaded n g ls ≤ 1
  inside : (n g : ℕ) → 0 < loaded n g ls → (n < slots) × (g < fields)

-- one word more, of a field that was not loaded
leading_more : (slots fields x : ℕ) (l : Load) (loads : List Load) → l.slot < slots → l.field < fields → loaded l.slot l.field (map seen_of loads) ≡ 0 → leading (l ∷ loads) slots fields x ≡ leading loads slots fields x + same (suc x) (target_bits l.word)
leading_more slots fields x l loads a b none =
    below_changed (λ n. total_below (λ g. same (suc x) (codes (word_at loads) n g)) fields) (λ n. total_below (λ g. same (suc x) (codes (word_at (l ∷ loads)) n g)) fields) l.slot more slots
    (λ n. below_changed (λ g. same (suc x) (codes (word_at loads) n g)) (λ g. same (suc x) (codes (word_at (l ∷ loads)) n g)) l.field (cond (eqb n l.slot) more 0) fields (λ g. cell n g (eqb n l.slot) (eqb g l.field) refl refl) ∙ there l.field fields (cond (eqb n l.slot) more 0) (total_below (λ g. same (suc x) (codes (word_at loads) n g)) fields) b)
    ∙ there l.slot slots more (leading loads slots fields x) a
  where
    more : ℕ
    more = same (suc x) (target_bits l.word)

    there : (a b v m : ℕ) → a < b → m + cond (ltb a b) v 0 ≡ m + v
    there a b v m h = grind (arith, nat_tests)

    null : (m : ℕ) → m ≡ same (suc x) 0 + m
    null m = grind (arith, nat_tests)

    cell : (n g : ℕ) (a b : Bool) → eqb n l.slot ≡ a → eqb g l.field ≡ b → same (suc x) (target_bits (cond (cond a b false) l.word (word_at loads n g))) ≡ same (suc x) (codes (word_at loads) n g) + cond b (cond a more 0) 0
    cell n g true true e f = let z : word_at loads n g ≡ 0 = no_word loads n g (rw (eqb-true n l.slot e, eqb-true g l.field f) none) in rw z (null (same (suc x) (target_bits l.word)))
    cell n g true false e f = omega arith
    cell n g false true e f = omega arith
    cell n g false false e f = omega arith

named_leading : (slots fields x : ℕ) (loads : List Load) → Spread slots fields (map seen_of loads) → named x (map seen_of loads) ≤ leading loads slots fields x
named_leading slots fields x [] s = omega arith
named_leading slots fields x (l ∷ loads) s = omega (arith, leading_more slots fields x l loads (here.0) (here.1) gone, named_leading slots fields x loads others)
  where
    self : (a b m : ℕ) → cond (eqb a a) (same b b) 0 + m ≡ 1 + m
    self a b m = grind (arith, nat_tests)

    here : (l.slot < slots) × (l.field < fields)
    here = s.inside l.slot l.field (omega (arith, self l.slot l.field (loaded l.slot l.field (map seen_of loads))))

    gone : loaded l.slot l.field (map seen_of loads) ≡ 0
    gone = omega (arith, s.once l.slot l.field, self l.slot l.field (loaded l.slot l.field (map seen_of loads)))

    others : Spread slots fields (map seen_of loads)
    others = record { once = λ n g. omega (arith, s.once n g); inside = λ n g h. s.inside n g (omega arith) }

-- a word of a field was loaded there
lead_here : (loads : List Load) (n g x : ℕ) → target_of (word_at loads n g) ≡ Some x → (0 < loaded n g (map seen_of loads)) × (0 < named x (map seen_of loads))
lead_here [] n g x h = cc
lead_here (l ∷ loads) n g x h = go (eqb n l.slot) (eqb g l.field) h (lead_here loads n g x)
  where
    self : (a : ℕ) → a ≡ suc x → same (suc x) a ≡ 1
    self a q = grind (arith, nat_tests)

    go : (a b : Bool) → target_of (cond (cond a b false) l.word (word_at loads n g)) ≡ Some x → (target_of (word_at loads n g) ≡ Some x → (0 < loaded n g (map seen_of loads)) × (0 < named x (map seen_of loads))) → (0 < cond a (one b) 0 + loaded n g (map seen_of loads)) × (0 < same (suc x) (target_bits l.word) + named x (map seen_of loads))
    go true true q k = (omega arith, omega (arith, self (target_bits l.word) (code_some (target_bits l.word) x q)))
    go true false q k = let r = k q in (omega (arith, r.0), omega (arith, r.1))
    go false b q k = let r = k q in (omega (arith, r.0), omega (arith, r.1))

pub whole_witnessed : (fields : ℕ) (before : State) (words : List ℕ) → TrialIsWitnessed fields before words
whole_witnessed fields before words f k a h =
    let r : Run = run_of fields before words in
    let c : IsCareful fields before (length words) r = whole_careful fields before words f k a in
    let o = whole_over fields before words f k a h in
    let v : IsOver fields before r o.0 = o.1 in
    let field_in : (n g : ℕ) → 0 < loaded n g (map seen_of r.marking) → g < fields = λ n g l. v.marking_fields n g (omega (arith, loaded_read n g r.marking, l)) in
    let marked_at : (n g : ℕ) → 0 < loaded n g (map seen_of r.marking) → 0 < in_counts.times n o.0 = λ n g l. omega (arith, loaded_read n g r.marking, v.marking n g (field_in n g l), l) in
    let spread : Spread (length before.slots) fields (map seen_of r.marking) = record {
      once = λ n g. omega (arith, loaded_read n g r.marking, c.marking_once n g);
      inside = λ n g l. (unreleased_within before n (v.marked_unreleased n (marked_at n g l)), field_in n g l);
    } in
    record {
      enough = λ x m. omega (arith, v.enough x m, naming_read x r.marking, named_leading (length before.slots) fields x r.marking spread, leading_read r.marking (length before.slots) fields x);
      replaced = λ n g x out m q.
          let l : (0 < loaded n g (map seen_of r.marking)) × (0 < named x (map seen_of r.marking)) = lead_here r.marking n g x q in (
            omega (arith, v.blackening n g (field_in n g l.0), v.marked_once n, marked_at n g l.0, out),
            λ p. let w : (0 < loaded n g (map seen_of r.blackening)) × (0 < named x (map seen_of r.blackening)) = lead_here r.blackening n g x p in omega (arith, v.unnamed x (omega (arith, naming_read x r.blackening, w.1)), m),
          );
    }
