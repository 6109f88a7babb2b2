-- Sets in order of finding.
use Rattle.std.proofs.Common.{◌≡◌, ℕ, suc, ◌<◌, ◌≤◌, Bool, true, false, eqb, List, [], ◌∷◌, ◌++◌, length, length-append, get_or, refl, arith, ◌⊎◌, inl, inr, cond}
use Rattle.std.proofs.Math.ListN.{get_or-append}
use Rattle.std.proofs.Math.Seq.{get_or-append_seam}
use Rattle.std.proofs.lemmas.Bool.{cases_lt}
use Rattle.std.proofs.lemmas.Bool.Decides.{nat_tests}
use Rattle.rec_trial.proofs.Deletion.{Seen, next_at}
use Rattle.rec_trial.proofs.Holding.{OrderedOf, named, edges}
use Rattle.rec_trial.proofs.Totals.{same, times, changed, times_here}
use Rattle.rec_trial.proofs.Marks.{times_push, push_kept, edge_split}

pub ordered_none : (set_of : ℕ → ℕ) (sets : ℕ) → OrderedOf [] set_of sets 0 []
ordered_none set_of sets = record {
  bounded = λ x h. absurd (omega arith);
  positive = λ x h. absurd (omega arith);
  current = λ k a b. absurd (omega arith);
  sources = λ n x h. absurd (omega arith);
  backward = λ n x h k. absurd (omega arith);
}

-- a node that has an edge is named
edge_named : (n x : ℕ) (ls : List Seen) → edges n x ls ≤ named x ls
edge_named n x [] = omega arith
edge_named n x (l ∷ ls) = omega (arith, edge_named n x ls, cut (eqb n l.node) (same (suc x) l.word))
  where
    cut : (b : Bool) (m : ℕ) → cond b m 0 ≤ m
    cut b m = grind arith

-- the last of a longer list
get_push : (xs : List ℕ) (x k : ℕ) → k < length (xs ++ x ∷ []) → (k < length xs) ⊎ (get_or (xs ++ x ∷ []) k 0 ≡ x)
get_push xs x k h = elim (cases_lt k (length xs)) [
  | inl a ↦ inl a
  | inr b ↦ let e : k ≡ length xs = omega (arith, h, length-append xs (x ∷ [])) in inr (rw e (get_or-append_seam xs x [] 0))
]

module _ (members : List ℕ) (set_of : ℕ → ℕ) (sets at : ℕ) (finds : List Seen) (d : OrderedOf members set_of sets at finds) where
  -- a word of the node at work, that names no other or one of a set found
  pub ordered_word : at < length members → (x g : ℕ) (b : Bool) → OrderedOf members set_of sets (next_at b at) (record { node = get_or members at 0; field = g; word = x } ∷ finds)
  ordered_word h x g b = record {
    bounded = d.bounded;
    positive = d.positive;
    current = λ k a c. d.current k (before b k a) c;
    sources = λ n y e. source n y (edge_split n y (record { node = get_or members at 0; field = g; word = x }) finds e);
    backward = λ n y e k. back n y k (edge_split n y (record { node = get_or members at 0; field = g; word = x }) finds e);
  }
    where
      before : (b : Bool) (k : ℕ) → next_at b at ≤ k → at ≤ k
      before true k a = a
      before false k a = omega arith

      source : (n y : ℕ) → ((n ≡ get_or members at 0) × (suc y ≡ x)) ⊎ (0 < edges n y finds) → 0 < times n members
      source n y (inl q) = rw q.0 (times_here members at h)
      source n y (inr e) = d.sources n y e

      back : (n y : ℕ) → 0 < times y members → ((n ≡ get_or members at 0) × (suc y ≡ x)) ⊎ (0 < edges n y finds) → set_of y ≤ set_of n
      back n y k (inl q) = rw q.0 (omega (arith, d.current at (omega arith) h, d.bounded y k))
      back n y k (inr e) = d.backward n y e k

  -- a node that no loaded word names joins the last set
  pub ordered_join : (x : ℕ) → 0 < sets → named x finds ≡ 0 → times x members ≡ 0 → OrderedOf (members ++ x ∷ []) (changed set_of x sets) sets at finds
  ordered_join x some none new = record {
    bounded = push_kept (λ y. changed set_of x sets y ≤ sets) x members (omega (arith, put_here x refl)) (λ y h. omega (arith, put_other y h, d.bounded y h));
    positive = push_kept (λ y. 0 < changed set_of x sets y) x members (omega (arith, put_here x refl)) (λ y h. omega (arith, put_other y h, d.positive y h));
    current = λ k a c. current_at k a (get_push members x k c);
    sources = λ n y e. omega (arith, times_push n x members, d.sources n y e);
    backward = λ n y e k. push_kept (λ y. 0 < edges n y finds → changed set_of x sets y ≤ changed set_of x sets n) x members
        (λ e. absurd (omega (arith, edge_named n x finds, none)))
        (λ y h e. omega (arith, put_other y h, put_other n (d.sources n y e), d.backward n y e h)) y k e;
  }
    where
      put_here : (y : ℕ) → y ≡ x → changed set_of x sets y ≡ sets
      put_here y e = grind (arith, nat_tests)

      put_other : (y : ℕ) → 0 < times y members → changed set_of x sets y ≡ set_of y
      put_other y h = grind (arith, nat_tests, new)

      current_at : (k : ℕ) → at ≤ k → (k < length members) ⊎ (get_or (members ++ x ∷ []) k 0 ≡ x) → changed set_of x sets (get_or (members ++ x ∷ []) k 0) ≡ sets
      current_at k a (inl h) = rw (get_or-append members (x ∷ []) 0 k h) (omega (arith, put_other (get_or members k 0) (times_here members k h), d.current k a h))
      current_at k a (inr e) = put_here (get_or (members ++ x ∷ []) k 0) e

  -- a set begins
  pub ordered_begin : at ≡ length members → OrderedOf members set_of (suc sets) at finds
  ordered_begin a = record {
    bounded = λ y h. omega (arith, d.bounded y h);
    positive = d.positive;
    current = λ k b c. absurd (omega arith);
    sources = d.sources;
    backward = d.backward;
  }
