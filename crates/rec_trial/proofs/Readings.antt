-- What was loaded, read as the loads of a trial by functions.
use Rattle.std.proofs.Common.{◌≡◌, ℕ, zero, suc, ◌+◌, Bool, true, false, eqb, cond, Some, List, [], ◌∷◌, map, refl, ap, ◌∙◌, arith}
use Rattle.std.specs.List.{count_by, sum_by, range_with_len}
use Rattle.std.proofs.lemmas.Bool.Decides.{nat_tests}
use Rattle.std.proofs.lemmas.List.Sums.{sum_by-cons}
use Rattle.rec_trial.proofs.Common.{target_of, is_slot, predecessor, target_bits, one}
use Rattle.rec_word.specs.Load.{Load, leads_to}
use Rattle.rec_trial.specs.Tried as tried
use Rattle.rec_trial.specs.Tried.{is_of}
use Rattle.rec_trial.proofs.Deletion.{Seen}
use Rattle.rec_trial.proofs.Holding.{named, loaded, edges}
use Rattle.rec_trial.proofs.Runs.{seen_of}
use Rattle.rec_trial.proofs.Views.{bits_suc}
use Rattle.rec_trial.proofs.Totals.{same, total, total_below}

-- a word leads to a slot exactly where its code is the slot's
pub leads_code : (x code : ℕ) → one (is_slot x (predecessor code)) ≡ same (suc x) code
leads_code x zero = grind (arith, nat_tests)
leads_code x (suc y) = rw (bits_suc y) (grind (arith, nat_tests))

pub code_some : (code x : ℕ) → predecessor code ≡ Some x → code ≡ suc x
code_some zero x h = cc
code_some (suc y) x h = let k : Some y ≡ Some x = rw (bits_suc y) at h in cc

both : (a b : Bool) → one (cond a b false) ≡ cond a (one b) 0
both true b = refl
both false b = refl

counted : (p : Load → Bool) (f : Seen → ℕ) → ((l : Load) → one (p l) ≡ f (seen_of l)) → (loads : List Load) → count_by p loads ≡ total f (map seen_of loads)
counted p f h [] = refl
counted p f h (l ∷ loads) = omega (arith, sum_by-cons (λ k. one (p k)) l loads, h l, counted p f h loads)

pub loaded_read : (x g : ℕ) (loads : List Load) → tried.loaded x g loads ≡ loaded x g (map seen_of loads)
unfolding tried.loaded
loaded_read x g = counted (is_of x g) (λ l. cond (eqb x l.node) (same g l.field) 0) (λ l. both (eqb x l.slot) (eqb g l.field))

pub naming_read : (x : ℕ) (loads : List Load) → tried.naming x loads ≡ named x (map seen_of loads)
unfolding tried.naming
naming_read x = counted (leads_to x) (λ l. same (suc x) l.word) (λ l. leads_code x (target_bits l.word))

pub edges_read : (n x : ℕ) (loads : List Load) → tried.edges n x loads ≡ edges n x (map seen_of loads)
unfolding tried.edges
edges_read n x =
    counted (λ l. cond (eqb n l.slot) (leads_to x l) false) (λ l. cond (eqb n l.node) (same (suc x) l.word) 0)
    (λ l. both (eqb n l.slot) (leads_to x l) ∙ ap (λ m. cond (eqb n l.slot) m 0) (leads_code x (target_bits l.word)))

-- words that do not change
abbrev pub codes : (word : ℕ → ℕ → ℕ) → ℕ → ℕ → ℕ
codes word n g = target_bits (word n g)

-- a sum over the numbers below one, from the front
pub below_front : (f : ℕ → ℕ) (n : ℕ) → total_below f (suc n) ≡ f 0 + total_below (λ g. f (suc g)) n
below_front f zero = omega arith
below_front f (suc n) = omega (arith, below_front f n)

range_read : (p : ℕ → Bool) (f : ℕ → ℕ) (a n : ℕ) → ((g : ℕ) → one (p (a + g)) ≡ f g) → count_by p (range_with_len a n) ≡ total_below f n
range_read p f a zero h = refl
range_read p f a (suc n) h =
    let e : one (p a) ≡ f 0 = ap (λ k. one (p k)) (omega arith) ∙ h 0 in
    let next : (g : ℕ) → one (p (a + 1 + g)) ≡ f (suc g) = λ g. ap (λ k. one (p k)) (omega arith) ∙ h (suc g) in
    omega (arith, sum_by-cons (λ k. one (p k)) a (range_with_len (a + 1) n), e, range_read p (λ g. f (suc g)) (a + 1) n next, below_front f n)

-- how many fields of slots pass a test
pub fields_read : (fields : ℕ) (p : ℕ → ℕ → Bool) (f : ℕ → ℕ → ℕ) → ((n g : ℕ) → one (p n g) ≡ f n g) → (marked : List ℕ) → sum_by (λ n. count_by (λ field. p n field) (range_with_len 0 fields)) marked ≡ total (λ n. total_below (λ g. f n g) fields) marked
fields_read fields p f h [] = refl
fields_read fields p f h (n ∷ marked) =
    omega (
      arith,
      sum_by-cons (λ m. count_by (λ field. p m field) (range_with_len 0 fields)) n marked,
      range_read (λ field. p n field) (λ g. f n g) 0 fields (λ g. ap (λ k. one (p n k)) (omega arith) ∙ h n g),
      fields_read fields p f h marked,
    )

pub references_read : (fields : ℕ) (word : ℕ → ℕ → ℕ) (marked : List ℕ) (x : ℕ) → sum_by (λ n. count_by (λ field. is_slot x (target_of (word n field))) (range_with_len 0 fields)) marked ≡ total (λ n. total_below (λ g. same (suc x) (codes word n g)) fields) marked
references_read fields word marked x = fields_read fields (λ n g. is_slot x (target_of (word n g))) (λ n g. same (suc x) (codes word n g)) (λ n g. leads_code x (codes word n g)) marked
