-- The next mutator that hasn't left: what finds it, and what a buffer that is marked changes.
use Rattle.std.proofs.Common.{◌≡◌, ℕ, ◌+◌, ◌-◌, ◌<◌, nat_lt, if◌then◌else◌, not, Bool, true, false, Option, None, Some, List, length, drop, set, slice_index_or, refl, arith, sym, ap, ◌∙◌, inl, inr}
use Rattle.std.specs.Option.{option_map}
use Rattle.std.specs.List.{position, position_or_len}
use Rattle.std.proofs.lemmas.Bool.{cases_lt, false≢true, lt-ltb, not-false, not-true}
use Rattle.std.proofs.lemmas.List.{get_or-drop, get_or-set_other, length-drop, length-set}
use Rattle.std.proofs.lemmas.List.Quantifiers.{position-Some}
use Rattle.std.proofs.lemmas.List.Sums.{fails_before_first}
use Rattle.rec_collector.specs.Present.{HaveLeft, has_left, IsNextPresent, next_present}

same_number : (m n : ℕ) → ◌≡◌ {A = Option ℕ} (Some m) (Some n) → m ≡ n
same_number m n e = cc

pub next_some : (left : List Bool) (t next : ℕ) → next_present left t ≡ Some next → IsNextPresent left t next
next_some left t next e = go (position not (drop t left)) refl e
  where
    -- it is so many places behind
    at : (u i : ℕ) → u ≡ t + i + 1 → has_left left u ≡ slice_index_or (drop t left) i false
    at u i e = let place : u - 1 ≡ t + i = omega (arith, e) in ap (λ n. slice_index_or left n false) place ∙ sym (get_or-drop t left i false)

    go : (o : Option ℕ) → position not (drop t left) ≡ o → option_map (λ passed. t + passed + 1) o ≡ Some next → IsNextPresent left t next
    go None f q = cc
    go (Some i) f q =
        let is : t + i + 1 ≡ next = same_number (t + i + 1) next q in
        let (inside, passes, fails) = position-Some not (drop t left) i false f in
        record {
          behind = omega (arith, is);
          there = omega (arith, is, inside, length-drop t left);
          present = at next i (sym is) ∙ not-true (slice_index_or (drop t left) i false) passes;
          passed = λ u above below. at u (u - t - 1) (omega (arith, above)) ∙ not-false (slice_index_or (drop t left) (u - t - 1) false) (fails (u - t - 1) (omega (arith, above, below, is)));
        }

pub next_none : (left : List Bool) (t : ℕ) → next_present left t ≡ None → HaveLeft left t
next_none left t e = λ u above there. elim (cases_lt first (length (drop t left))) [
  | inl l ↦ absurd (found (nat_lt first (length (drop t left))) (lt-ltb first (length (drop t left)) l) e)
  | inr l ↦
      let place : u - 1 ≡ t + (u - t - 1) = omega (arith, above) in
      ap (λ m. slice_index_or left m false) place ∙ sym (get_or-drop t left (u - t - 1) false)
      ∙ not-false (slice_index_or (drop t left) (u - t - 1) false) (fails_before_first not (drop t left) (u - t - 1) false (omega (arith, above, there, l, length-drop t left)))
]
  where
    -- how many have left before the first one that hasn't, if there is one
    first : ℕ
    first = position_or_len not (drop t left)

    found : (b : Bool) → b ≡ true → option_map (λ passed. t + passed + 1) (if b then Some first else None) ≡ None → ⊥
    found true is none = cc
    found false is none = false≢true is

-- and the other way round
pub next_is : (left : List Bool) (t next : ℕ) → IsNextPresent left t next → next_present left t ≡ Some next
next_is left t next n = go (next_present left t) refl
  where
    go : (o : Option ℕ) → next_present left t ≡ o → o ≡ Some next
    go None e = absurd (false≢true (sym n.present ∙ next_none left t e next n.behind n.there))
    go (Some other) e =
        let m : IsNextPresent left t other = next_some left t other e in
        elim (cases_lt other next) [
          | inl l ↦ absurd (false≢true (sym m.present ∙ n.passed other m.behind l))
          | inr l ↦ elim (cases_lt next other) [
            | inl k ↦ absurd (false≢true (sym n.present ∙ m.passed next n.behind k))
            | inr k ↦ let same : other ≡ next = omega (arith, l, k) in ap Some same
          ]
        ]

pub none_is : (left : List Bool) (t : ℕ) → HaveLeft left t → next_present left t ≡ None
none_is left t gone = go (next_present left t) refl
  where
    go : (o : Option ℕ) → next_present left t ≡ o → o ≡ None
    go None e = refl
    go (Some next) e = let n : IsNextPresent left t next = next_some left t next e in absurd (false≢true (sym n.present ∙ gone next n.behind n.there))

-- a mark of a mutator up to this one says nothing of those behind
pub gone_behind : (left : List Bool) (t : ℕ) (last : Bool) → 0 < t → HaveLeft (set left (t - 1) last) t → HaveLeft left t
gone_behind left t last some gone = λ u above there. sym (get_or-set_other left (t - 1) (u - 1) last false (λ q. absurd (omega (arith, q, above, some)))) ∙ gone u above (omega (arith, there, length-set left (t - 1) last))
