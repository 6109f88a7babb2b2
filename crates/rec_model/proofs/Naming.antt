-- What is free or given up is named by nothing, through each kind of move.
use Rattle.std.proofs.Common.{◌≡◌, ◌≢◌, ◌⊎◌, inl, inr, ℕ, ◌+◌, ◌<◌, ◌≤◌, Bool, true, false, cond, not, eqb, ltb, leb, List, length, sum_by, refl, sym, subst, arith}
use Rattle.std.proofs.lemmas.Bool.Decides.{nat_tests}
use Rattle.std.proofs.lemmas.Bool.{cases_lt, cases_eq}
use Rattle.std.proofs.lemmas.List.Sums.{sum_by-le-sum_by}
use Rattle.rec_model.proofs.Common.{only_if, one_if_same, node_of, epoch_of, home, dated, Pending, word_in, is_at, Holds, IsInReach, opened_to, closed_from, Puts, Loads, Registers, Bears, Crosses, LetsGo, Clears, Frees, leads_out_of, with_answer, is_late_snapshot, is_wrong_register, HasEpochs, names, puts_after, replaces_from, is_from, is_after, is_node, HasLedger, late, replaced_late, StandsOnce, touches, IsHeldAt, IsHeld, is_dead, names_unreleased, named_anywhere, IsUnnamed}
use Rattle.rec_model.specs.Accounted.{named}
use Rattle.rec_model.proofs.Sums.{get_or-le-sum_at, sum_at-le-sum_at, sum_by_none, sum_by_le_unless, sum_by_split, sum_at_split}
use Rattle.rec_model.proofs.Weights.{only_if-le, only_if_self, none_if_other, none_if_differs}
use Rattle.rec_model.proofs.Counted.{opened_from, closed_out_of, reference_sum, edge_sum, root_sum}
use Rattle.rec_model.proofs.Reaching.{all_in_reach}
use Rattle.rec_model.proofs.Ledgers.{node_of_null}
use Rattle.rec_model.proofs.Holding.{held_sum}

-- what a mutator has is named
differs_from_held : (w : Pending) (y epoch z : ℕ) → named w y ≡ 0 → (0 < z → Holds w epoch z) → 0 < y → one_if_same y z ≡ 0
differs_from_held w y epoch z q has pos =
    elim (cases_eq y z) [
      | inr e ↦ none_if_differs y z e
      | inl e ↦
          let n : named w z ≡ 0 = subst (λ k. named w k ≡ 0) e q in
          absurd (omega (arith, n, has (omega (arith, e, pos)), sum_by-le-sum_by (is_at epoch z) (is_node z) w.registers (λ d. only_if-le (eqb epoch d.epoch) (one_if_same z d.node))))
    ]

-- so it isn't given up
held_unreleased : (w : Pending) (epoch s : ℕ) → IsUnnamed w → Holds w epoch s → 0 < s → w.released s ≡ false
held_unreleased w epoch s q has pos = go (w.released s) refl
  where
    go : (b : Bool) → w.released s ≡ b → w.released s ≡ false
    go false e = e
    go true e =
        let d : is_dead w s ≡ true = (grind (arith, e)) in
        absurd (omega (arith, q s pos d, has, sum_by-le-sum_by (is_at epoch s) (is_node s) w.registers (λ d. only_if-le (eqb epoch d.epoch) (one_if_same s d.node))))

unreleased_here : (w : Pending) (y place word : ℕ) → w.released (home w.fields place) ≡ false → names_unreleased w.fields w.released y place word ≡ one_if_same y (node_of word)
unreleased_here w y place word e = rw e refl

-- what a mutator loads is named
differs_from_loaded : (w : Pending) (y epoch place : ℕ) → IsUnnamed w → 0 < y → is_dead w y ≡ true → place < length w.words → Holds w epoch (home w.fields place) → one_if_same y (node_of (word_in w place)) ≡ 0
differs_from_loaded w y epoch place q pos d inside has =
    omega (arith, q y pos d, get_or-le-sum_at (names_unreleased w.fields w.released y) w.words place 0 inside, unreleased_here w y place (word_in w place) (held_unreleased w epoch (home w.fields place) q has (omega arith)))

pub put_unnamed : (w v : Pending) (epoch place new : ℕ) → Puts w v epoch place new → IsUnnamed w → IsUnnamed (record w { words = v.words; writes = v.writes })
put_unnamed w v epoch place new s q y pos d =
    let a : ℕ = w.applied in
    let n : named w y ≡ 0 = q y pos d in
    let fresh : one_if_same y (node_of new) ≡ 0 = differs_from_held w y epoch (node_of new) n s.target pos in
    let gone : one_if_same y (node_of (word_in w place)) ≡ 0 = differs_from_loaded w y epoch place q pos d s.inside s.source in
    omega (
      arith,
      n,
      fresh,
      gone,
      s.words (names_unreleased w.fields w.released y),
      s.writes (puts_after a y),
      s.writes (replaces_from a y),
      only_if-le (not (w.released (home w.fields place))) (one_if_same y (node_of new)),
      only_if-le (ltb a (epoch_of new)) (one_if_same y (node_of new)),
      only_if-le (leb a (epoch_of new)) (one_if_same y (node_of (word_in w place))),
    )

register_differs : (w : Pending) (epoch new y : ℕ) → IsUnnamed w → 0 < y → is_dead w y ≡ true → Holds w epoch new ⊎ Loads w epoch new → one_if_same y new ≡ 0
register_differs w epoch new y q pos d (inl has) = differs_from_held w y epoch new (q y pos d) (λ _. has) pos
register_differs w epoch new y q pos d (inr l) = let e : one_if_same y (node_of (word_in w l.place)) ≡ 0 = differs_from_loaded w y epoch l.place q pos d l.inside l.source in rw l.target e

pub register_unnamed : (w v : Pending) (epoch old new : ℕ) → Registers w v epoch old new → IsUnnamed w → IsUnnamed (record w { registers = v.registers })
register_unnamed w v epoch old new s q y pos d =
    elim (cases_lt 0 new) [
      | inl l ↦ omega (arith, q y pos d, s.registers (is_node y), register_differs w epoch new y q pos d (s.value l))
      | inr l ↦ let apart : y ≢ new = omega (arith, l, pos) in omega (arith, q y pos d, s.registers (is_node y), none_if_differs y new apart)
    ]

dead_before_birth : (free released : ℕ → Bool) (x y : ℕ) → released x ≡ false → cond (with_answer free x false y) true (released y) ≡ true → (cond (free y) true (released y) ≡ true) × (y ≢ x)
dead_before_birth free released x y e d = grind (arith, nat_tests)

pub birth_unnamed : (w v : Pending) (epoch old x : ℕ) → Bears w v epoch old x → w.released x ≡ false → IsUnnamed w → IsUnnamed (record w { births = v.births; registers = v.registers; free = with_answer w.free x false; leaf = v.leaf })
birth_unnamed w v epoch old x s unreleased q y pos d =
    let b = dead_before_birth w.free w.released x y unreleased d in
    omega (arith, q y pos b.0, s.births (is_from w.applied y), s.registers (is_node y), none_if_differs y x b.1, only_if-le (leb w.applied epoch) (one_if_same y x))

pub crossing_unnamed : (w v : Pending) (epoch : ℕ) (ns : List ℕ) → Crosses w v epoch ns → IsUnnamed w → IsUnnamed (record w { snapshots = v.snapshots; registers = v.registers })
crossing_unnamed w v epoch ns s q y pos d =
    let none : sum_by (one_if_same y) ns ≡ 0 = omega (
      arith,
      q y pos d,
      s.registers (is_at epoch y),
      sum_by-le-sum_by (is_at epoch y) (is_node y) w.registers (λ e. only_if-le (eqb epoch e.epoch) (one_if_same y e.node)),
      sum_by-le-sum_by (one_if_same y) (λ n. is_at epoch y (dated epoch n)) ns (λ n. omega (arith, only_if_self epoch (one_if_same y n))),
      sum_by_none (λ n. is_at epoch y (dated (epoch + 1) n)) ns (λ n. none_if_other epoch (epoch + 1) (one_if_same y n) (omega arith)),
    ) in
    omega (
      arith,
      q y pos d,
      none,
      s.registers (is_node y),
      s.snapshots (is_from w.applied y),
      sum_by-le-sum_by (λ n. is_from w.applied y (dated epoch n)) (one_if_same y) ns (λ n. only_if-le (leb w.applied epoch) (one_if_same y n)),
    )

pub leaving_unnamed : (w v : Pending) → LetsGo w v → IsUnnamed w → IsUnnamed (record w { registers = v.registers })
leaving_unnamed w v s q y pos d = omega (arith, q y pos d, s.registers (is_node y))

pub batch_unnamed : (w v : Pending) → IsUnnamed w → IsUnnamed (record w { applied = w.applied + 1; count = v.count })
batch_unnamed w v q y pos d =
    let a : ℕ = w.applied in
    omega (
      arith,
      q y pos d,
      sum_by-le-sum_by (puts_after (a + 1) y) (puts_after a y) w.writes (λ e. grind (arith, nat_tests)),
      sum_by-le-sum_by (replaces_from (a + 1) y) (replaces_from a y) w.writes (λ e. grind (arith, nat_tests)),
      sum_by-le-sum_by (is_from (a + 1) y) (is_from a y) w.snapshots (λ e. grind (arith, nat_tests)),
      sum_by-le-sum_by (is_from (a + 1) y) (is_from a y) w.births (λ e. grind (arith, nat_tests)),
    )

pub clearing_unnamed : (w v : Pending) (place : ℕ) → Clears w v place → IsUnnamed w → IsUnnamed (record w { words = v.words; count = v.count })
clearing_unnamed w v place s q y pos d =
    let apart : y ≢ node_of 0 = omega (arith, pos, node_of_null) in
    omega (arith, q y pos d, s.words (names_unreleased w.fields w.released y), only_if-le (not (w.released (home w.fields place))) (one_if_same y (node_of 0)), none_if_differs y (node_of 0) apart)

-- the count of a node is the references of the applied epoch to it, and what else counts
pub count_is : (w : Pending) (x : ℕ) → HasLedger w → StandsOnce w → 0 < x
    → w.count x ≡ reference_sum w w.applied x + sum_by (is_at w.applied x) w.snapshots + sum_by (is_from w.applied x) w.births + only_if (w.free x) 1
count_is w x l o pos =
    let a : ℕ = w.applied in
    omega (
      arith,
      l x pos,
      o (names x),
      sum_at_split (names x) (opened_to a x) (late a (names x)) w.words (λ i word. grind (arith, nat_tests)),
      sum_by_split (replaces_from a x) (closed_from a x) (replaced_late a (names x)) w.writes (λ e. grind (arith, nat_tests)),
    )

-- a node without a count is out of reach, and named by nothing
module _ (w : Pending) (x : ℕ) (ep : HasEpochs w) (l : HasLedger w) (o : StandsOnce w) (h : IsHeldAt w w.applied) (done : w.applied + 1 ≡ w.requested) (pos : 0 < x) (z : w.count x ≡ 0) where
  pub uncounted_out_of_reach : IsInReach w w.applied x → ⊥
  uncounted_out_of_reach reached =
      all_in_reach w w.applied (λ y. y ≡ x → ⊥) at_root at_target x reached refl
    where
      at_root : (y : ℕ) → 0 < y → 0 < root_sum w w.applied y → y ≡ x → ⊥
      at_root y _ r e = let r2 : 0 < root_sum w w.applied x = subst (λ k. 0 < root_sum w w.applied k) e r in absurd (omega (arith, r2, z, count_is w x l o pos))

      at_target : (s y : ℕ) → 0 < s → 0 < y → IsInReach w w.applied s → (s ≡ x → ⊥) → 0 < edge_sum w w.applied s y → y ≡ x → ⊥
      at_target s y _ _ _ _ r e =
          let a : ℕ = w.applied in
          let r2 : 0 < edge_sum w a s x = subst (λ k. 0 < edge_sum w a s k) e r in
          absurd (omega (
            arith,
            r2,
            z,
            count_is w x l o pos,
            sum_at-le-sum_at (opened_from w.fields a s x) (opened_to a x) w.words (λ i word. only_if-le (eqb s (home w.fields i)) (opened_to a x i word)),
            sum_by-le-sum_by (closed_out_of w.fields a s x) (closed_from a x) w.writes (λ e. only_if-le (eqb s (home w.fields e.place)) (closed_from a x e)),
          ))

  pub uncounted_unnamed : named_anywhere w x ≡ 0
  uncounted_unnamed =
      let a : ℕ = w.applied in
      let none : held_sum w a x ≡ 0 = elim (cases_lt 0 (held_sum w a x)) [ inl g ↦ absurd (uncounted_out_of_reach (h x pos g)) | inr g ↦ omega (arith, g) ] in
      omega (
        arith,
        z,
        none,
        l x pos,
        ep.snapshots,
        ep.registers,
        sum_by-le-sum_by (puts_after a x) (touches w.fields a x) w.writes (λ e. grind (arith, nat_tests)),
        sum_by_le_unless (is_late_snapshot w.requested) (is_from a x) (is_at a x) w.snapshots ep.snapshots (λ d b. grind (arith, nat_tests, done)),
        sum_by_le_unless (is_wrong_register a w.requested) (is_node x) (is_after a x) w.registers ep.registers (λ d b. grind (arith, nat_tests)),
      )

dead_or : (free released : ℕ → Bool) (x y : ℕ) → cond (free y) true (with_answer released x true y) ≡ true → (cond (free y) true (released y) ≡ true) ⊎ (y ≡ x)
dead_or free released x y d = grind (arith, nat_tests)

pub release_unnamed : (w : Pending) (x : ℕ) → HasEpochs w → HasLedger w → StandsOnce w → IsHeld w → 0 < x → w.applied + 1 ≡ w.requested → w.count x ≡ 0 → IsUnnamed w → IsUnnamed (record w { released = with_answer w.released x true })
release_unnamed w x ep l o h some done z q y pos d =
    elim (dead_or w.free w.released x y d) [
      | inl b ↦ omega (arith, q y pos b, sum_at-le-sum_at (names_unreleased w.fields (with_answer w.released x true) y) (names_unreleased w.fields w.released y) w.words (λ i word. grind (arith, nat_tests)))
      | inr e ↦
          let u : Pending = record w { released = with_answer w.released x true } in
          subst (λ k. named u k ≡ 0) (sym e) (omega (
            arith,
            uncounted_unnamed w x ep l o (h w.applied (omega arith) (omega (arith, done))) done some z,
            sum_at-le-sum_at (names_unreleased w.fields (with_answer w.released x true) x) (names x) w.words (λ i word. only_if-le (not (with_answer w.released x true (home w.fields i))) (one_if_same x (node_of word))),
          ))
    ]

dead_before_freeing : (free released : ℕ → Bool) (x y : ℕ) → released x ≡ true → cond (with_answer free x true y) true (with_answer released x false y) ≡ true → cond (free y) true (released y) ≡ true
dead_before_freeing free released x y e d = grind (arith, nat_tests)

pub freeing_unnamed : (w v : Pending) (x : ℕ) → Frees w v x → IsUnnamed w → IsUnnamed (record w { count = v.count; free = with_answer w.free x true; released = with_answer w.released x false; leaf = v.leaf })
freeing_unnamed w v x s q y pos d =
    omega (
      arith,
      q y pos (dead_before_freeing w.free w.released x y s.was_released d),
      s.empty,
      sum_at-le-sum_at (names_unreleased w.fields (with_answer w.released x false) y) (λ i word. names_unreleased w.fields w.released y i word + leads_out_of w.fields x i word) w.words (λ i word. grind (arith, nat_tests)),
      sum_at_split (λ i word. names_unreleased w.fields w.released y i word + leads_out_of w.fields x i word) (names_unreleased w.fields w.released y) (leads_out_of w.fields x) w.words (λ i word. refl),
    )

-- what is free or given up is in no reach
dead_source : (w : Pending) (j s x : ℕ) → w.applied ≤ j → IsUnnamed w → 0 < x → is_dead w x ≡ true → 0 < edge_sum w j s x → is_dead w s ≡ true
dead_source w j s x from q pos d r = go (w.released s) refl
  where
    go : (b : Bool) → w.released s ≡ b → is_dead w s ≡ true
    go true e = grind (arith, e)
    go false e = absurd (omega (
      arith,
      r,
      q x pos d,
      sum_at-le-sum_at (opened_from w.fields j s x) (names_unreleased w.fields w.released x) w.words (λ i word. grind (arith, nat_tests, e)),
      sum_by-le-sum_by (closed_out_of w.fields j s x) (replaces_from w.applied x) w.writes (λ f. grind (arith, nat_tests, from)),
    ))

pub dead_out_of_reach : (w : Pending) (j : ℕ) → w.applied ≤ j → IsUnnamed w → (x : ℕ) → IsInReach w j x → is_dead w x ≡ true → ⊥
dead_out_of_reach w j from q = all_in_reach w j (λ x. is_dead w x ≡ true → ⊥) at_root (λ s x _ pos _ away r d. away (dead_source w j s x from q pos d r))
  where
    at_root : (x : ℕ) → 0 < x → 0 < root_sum w j x → is_dead w x ≡ true → ⊥
    at_root x pos r d = absurd (omega (
      arith,
      r,
      q x pos d,
      sum_by-le-sum_by (is_at j x) (is_from w.applied x) w.snapshots (λ e. grind (arith, nat_tests, from)),
      sum_by-le-sum_by (is_from j x) (is_from w.applied x) w.births (λ e. grind (arith, nat_tests, from)),
    ))
