-- A set that passes its tests is in no reach.
use Rattle.std.proofs.Common.{◌≡◌, ℕ, ◌+◌, ◌<◌, ◌≤◌, Bool, true, false, not, eqb, length, sum_by, refl, arith}
use Rattle.std.proofs.lemmas.Bool.Decides.{nat_tests}
use Rattle.std.proofs.lemmas.List.Sums.{sum_by-le-sum_by}
use Rattle.rec_model.proofs.Common.{only_if, one_if_same, sum_at, node_of, home, Write, Pending, word_in, is_at, IsInReach, opened_to, closed_from, is_from, HasLedger, StandsOnce}
use Rattle.rec_model.specs.Sets.{seen_in, IsStanding, PassesTests}
use Rattle.rec_model.proofs.Sums.{sum_at-le-sum_at, sum_at_split, sum_by_split}
use Rattle.rec_model.proofs.Places.{sum_at-le-from_get_or, sum_at_here-le, sum_at-sum_by}
use Rattle.rec_model.proofs.Counted.{opened_from, closed_out_of, edge_sum, root_sum}
use Rattle.rec_model.proofs.Reaching.{all_in_reach}
use Rattle.rec_model.proofs.Naming.{count_is}

-- the open references of the applied epoch from members, and from others
abbrev inner_word : Pending → (ℕ → Bool) → (node place word : ℕ) → ℕ
inner_word w member y place word = only_if (member (home w.fields place)) (opened_to w.applied y place word)

abbrev pub outer_word : Pending → (ℕ → Bool) → (node place word : ℕ) → ℕ
outer_word w member y place word = only_if (not (member (home w.fields place))) (opened_to w.applied y place word)

-- the closed ones
abbrev inner_write : Pending → (ℕ → Bool) → (node : ℕ) → Write → ℕ
inner_write w member y e = only_if (member (home w.fields e.place)) (closed_from w.applied y e)

abbrev pub outer_write : Pending → (ℕ → Bool) → (node : ℕ) → Write → ℕ
outer_write w member y e = only_if (not (member (home w.fields e.place))) (closed_from w.applied y e)

inner_or_outer : (b : Bool) (n : ℕ) → n ≡ only_if b n + only_if (not b) n
inner_or_outer b n = grind arith

-- a test on the one place instead of the other, where they are the same
at_the_other : (member : ℕ → Bool) (fields p k n : ℕ) → only_if (member (home fields p)) (only_if (eqb p k) n) ≤ only_if (eqb k p) (only_if (member (home fields k)) n)
at_the_other member fields p k n = grind (arith, nat_tests)

module _ (w : Pending) (member : ℕ → Bool) (seen : ℕ → ℕ) (l : HasLedger w) (o : StandsOnce w) (y : ℕ) (stands : IsStanding w member seen y) (counted : w.count y ≤ sum_at (seen_in w.fields member seen y) w.words) (pos : 0 < y) where
  -- what was seen are references from members
  seen_inner : sum_at (seen_in w.fields member seen y) w.words ≤ sum_at (inner_word w member y) w.words + sum_by (inner_write w member y) w.writes
  seen_inner =
      let g : ℕ → Write → ℕ = λ p e. only_if (member (home w.fields p)) (only_if (eqb p e.place) (closed_from w.applied y e)) in
      omega (
        arith,
        sum_at-le-from_get_or (seen_in w.fields member seen y) (λ p word. inner_word w member y p word + sum_by (g p) w.writes) w.words 0 at_place,
        sum_at_split (λ p word. inner_word w member y p word + sum_by (g p) w.writes) (inner_word w member y) (λ p word. sum_by (g p) w.writes) w.words (λ p word. refl),
        sum_at-sum_by g w.words w.writes,
        sum_by-le-sum_by (λ e. sum_at (λ p word. g p e) w.words) (inner_write w member y) w.writes (λ e. at_write e),
      )
    where
      at_write : (e : Write) → sum_at (λ p (word : ℕ). only_if (member (home w.fields p)) (only_if (eqb p e.place) (closed_from w.applied y e))) w.words ≤ inner_write w member y e
      at_write e = omega (
        arith,
        sum_at-le-sum_at (λ p (word : ℕ). only_if (member (home w.fields p)) (only_if (eqb p e.place) (closed_from w.applied y e))) (λ p word. only_if (eqb e.place p) (inner_write w member y e)) w.words (λ p word. at_the_other member w.fields p e.place (closed_from w.applied y e)),
        sum_at_here-le e.place (inner_write w member y e) w.words,
      )

      at_place : (p : ℕ) → p < length w.words → seen_in w.fields member seen y p (word_in w p) ≤ inner_word w member y p (word_in w p) + sum_by (λ e. only_if (member (home w.fields p)) (only_if (eqb p e.place) (closed_from w.applied y e))) w.writes
      at_place p inside = go (member (home w.fields p)) refl
        where
          go : (b : Bool) → member (home w.fields p) ≡ b → only_if b (one_if_same y (node_of (seen p))) ≤ only_if b (opened_to w.applied y p (word_in w p)) + sum_by (λ e. only_if b (only_if (eqb p e.place) (closed_from w.applied y e))) w.writes
          go true e = stands p inside e
          go false e = omega arith

  -- so no reference comes from elsewhere, and nothing else counts a member
  pub outer_none : sum_at (outer_word w member y) w.words + sum_by (outer_write w member y) w.writes + sum_by (is_at w.applied y) w.snapshots + sum_by (is_from w.applied y) w.births + only_if (w.free y) 1 ≡ 0
  outer_none = omega (
    arith,
    seen_inner,
    counted,
    count_is w y l o pos,
    sum_at_split (opened_to w.applied y) (inner_word w member y) (outer_word w member y) w.words (λ p word. inner_or_outer (member (home w.fields p)) (opened_to w.applied y p word)),
    sum_by_split (closed_from w.applied y) (inner_write w member y) (outer_write w member y) w.writes (λ e. inner_or_outer (member (home w.fields e.place)) (closed_from w.applied y e)),
  )

  pub inner_source : (r : ℕ) → 0 < edge_sum w w.applied r y → member r ≡ true
  inner_source r g = go (member r) refl
    where
      go : (b : Bool) → member r ≡ b → member r ≡ true
      go true e = e
      go false e = absurd (omega (
        arith,
        g,
        outer_none,
        sum_at-le-sum_at (opened_from w.fields w.applied r y) (outer_word w member y) w.words (λ p word. grind (arith, nat_tests, e)),
        sum_by-le-sum_by (closed_out_of w.fields w.applied r y) (outer_write w member y) w.writes (λ f. grind (arith, nat_tests, e)),
      ))

-- no member is in reach
pub passed_out_of_reach : (w : Pending) (member : ℕ → Bool) (seen : ℕ → ℕ) → HasLedger w → StandsOnce w → PassesTests w member seen → (y : ℕ) → IsInReach w w.applied y → member y ≡ true → ⊥
passed_out_of_reach w member seen l o s = all_in_reach w w.applied (λ y. member y ≡ true → ⊥) at_root at_target
  where
    at_root : (y : ℕ) → 0 < y → 0 < root_sum w w.applied y → member y ≡ true → ⊥
    at_root y pos r is = absurd (omega (arith, r, outer_none w member seen l o y (s.stands y pos is) (s.counted y pos is) pos))

    at_target : (r y : ℕ) → 0 < r → 0 < y → IsInReach w w.applied r → (member r ≡ true → ⊥) → 0 < edge_sum w w.applied r y → member y ≡ true → ⊥
    at_target r y _ pos _ away g is = away (inner_source w member seen l o y (s.stands y pos is) (s.counted y pos is) pos r g)
