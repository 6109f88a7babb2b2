-- The ledger, and the words of late epochs, through each kind of move.
use Rattle.std.proofs.Common.{◌≡◌, ℕ, ◌+◌, ◌<◌, ◌≤◌, ◌≢◌, true, false, List, refl, arith, inl, inr}
use Rattle.std.proofs.lemmas.Bool.Decides.{nat_tests}
use Rattle.std.proofs.lemmas.Bool.{cases_lt}
use Rattle.std.proofs.lemmas.List.Sums.{sum_by-le-sum_by}
use Rattle.rec_model.proofs.Common.{one_if_same, node_of, epoch_of, home, dated, Pending, word_in, is_at, Holds, Puts, Bears, Crosses, Applies, Clears, Frees, puts_in, replaces_in, added, taken, with_answer, is_wrong_write, is_wrong_register, HasEpochs, names, puts_after, replaces_from, is_from, HasLedger, late, put_late, replaced_late, StandsOnce}
use Rattle.rec_model.proofs.Sums.{sum_at-le-sum_at, sum_by_none, sum_by_le_unless, sum_by_split}
use Rattle.rec_model.proofs.Weights.{only_if_lt, only_if_le, none_if_other, none_if_differs, answered_no, answered_yes, no_from_none}

-- null, as a word, names nothing and is of no epoch
pub node_of_null : node_of 0 ≡ 0
unfolding node_of
node_of_null = refl

pub epoch_of_null : epoch_of 0 ≡ 0
unfolding epoch_of
epoch_of_null = refl

-- the epoch of a mutator that has something in a register
pub epoch_after : (w : Pending) (epoch x : ℕ) → HasEpochs w → Holds w epoch x → w.applied < epoch
epoch_after w epoch x ep h = elim (cases_lt w.applied epoch) [
  | inl l ↦ l
  | inr l ↦ absurd (omega (arith, ep.registers, h, sum_by-le-sum_by (is_at epoch x) (is_wrong_register w.applied w.requested) w.registers (λ d. grind (arith, nat_tests))))
]

pub epoch_within : (w : Pending) (epoch x : ℕ) → HasEpochs w → Holds w epoch x → epoch ≤ w.requested
epoch_within w epoch x ep h = elim (cases_lt w.requested epoch) [
  | inl l ↦ absurd (omega (arith, ep.registers, h, sum_by-le-sum_by (is_at epoch x) (is_wrong_register w.applied w.requested) w.registers (λ d. grind (arith, nat_tests))))
  | inr l ↦ l
]

-- a write
module _ (w v : Pending) (epoch place new : ℕ) (s : Puts w v epoch place new) (ep : HasEpochs w) where
  put_after : w.applied < epoch
  put_after = epoch_after w epoch (home w.fields place) ep s.source

  pub put_ledger : HasLedger w → HasLedger (record w { words = v.words; writes = v.writes })
  put_ledger l x pos =
      omega (arith, put_after, l x pos, s.stamp, s.words (names x), s.writes (puts_after w.applied x), s.writes (replaces_from w.applied x), only_if_lt w.applied (epoch_of new) (one_if_same x (node_of new)) (omega (arith, s.stamp, put_after)), only_if_le w.applied (epoch_of new) (one_if_same x (node_of (word_in w place))) (omega (arith, s.stamp, put_after)))

  pub put_stands : StandsOnce w → StandsOnce (record w { words = v.words; writes = v.writes })
  put_stands o q =
      omega (arith, o q, s.words (late w.applied q), s.writes (put_late w.applied q), s.writes (replaced_late w.applied q), only_if_le w.applied (epoch_of new) (late w.applied q place (word_in w place)) (omega (arith, s.stamp, put_after)))

pub birth_ledger : (w v : Pending) (epoch old x : ℕ) → Bears w v epoch old x → HasEpochs w → HasLedger w → HasLedger (record w { births = v.births; registers = v.registers; free = with_answer w.free x false; leaf = v.leaf })
birth_ledger w v epoch old x s ep l y pos =
    let after : w.applied < epoch = epoch_after w epoch old ep s.had in
    omega (arith, l y pos, s.births (is_from w.applied y), only_if_le w.applied epoch (one_if_same y x) (omega (arith, after)), answered_no w.free x y s.was_free)

pub crossing_ledger : (w v : Pending) (epoch : ℕ) (ns : List ℕ) → Crosses w v epoch ns → HasLedger w → HasLedger (record w { snapshots = v.snapshots; registers = v.registers })
crossing_ledger w v epoch ns s l y pos =
    let after : w.applied < epoch = s.unapplied in
    let apart : w.applied ≢ epoch = omega (arith, after) in
    omega (arith, l y pos, s.snapshots (is_at w.applied y), sum_by_none (λ n. is_at w.applied y (dated epoch n)) ns (λ n. none_if_other w.applied epoch (one_if_same y n) apart))

pub batch_ledger : (w v : Pending) → Applies w v → HasLedger w → HasLedger (record w { applied = w.applied + 1; count = v.count })
batch_ledger w v s l x pos =
    let a : ℕ = w.applied in
    omega (
      arith,
      l x pos,
      s.counts x pos,
      sum_by_split (puts_after a x) (puts_in (a + 1) x) (puts_after (a + 1) x) w.writes (λ e. grind (arith, nat_tests)),
      sum_by_split (replaces_from a x) (replaces_in a x) (replaces_from (a + 1) x) w.writes (λ e. grind (arith, nat_tests)),
      sum_by_split (is_from a x) (is_at a x) (is_from (a + 1) x) w.births (λ d. grind (arith, nat_tests)),
    )

pub batch_stands : (w v : Pending) → HasEpochs w → StandsOnce w → StandsOnce (record w { applied = w.applied + 1; count = v.count })
batch_stands w v ep o q =
    let a : ℕ = w.applied in
    let r : ℕ → ℕ → ℕ = late (a + 1) q in
    omega (
      arith,
      o r,
      sum_by-le-sum_by (put_late a r) (put_late (a + 1) q) w.writes (λ e. grind (arith, nat_tests)),
      sum_by-le-sum_by (put_late (a + 1) q) (put_late a r) w.writes (λ e. grind (arith, nat_tests)),
      sum_at-le-sum_at (late a r) (late (a + 1) q) w.words (λ i v. grind (arith, nat_tests)),
      sum_at-le-sum_at (late (a + 1) q) (late a r) w.words (λ i v. grind (arith, nat_tests)),
      sum_by_le_unless (is_wrong_write w.requested) (replaced_late a r) (replaced_late (a + 1) q) w.writes ep.writes (λ e b. grind (arith, nat_tests)),
      sum_by_le_unless (is_wrong_write w.requested) (replaced_late (a + 1) q) (replaced_late a r) w.writes ep.writes (λ e b. grind (arith, nat_tests)),
    )

pub clearing_ledger : (w v : Pending) (place : ℕ) → Clears w v place → HasLedger w → HasLedger (record w { words = v.words; count = v.count })
clearing_ledger w v place s l x pos =
    let other : x ≢ node_of 0 = omega (arith, pos, node_of_null) in
    omega (arith, l x pos, s.counts x pos, s.words (names x), none_if_differs x (node_of 0) other)

-- a node without a count is no free slot
pub uncounted_taken : (w : Pending) (x : ℕ) → HasLedger w → StandsOnce w → 0 < x → w.count x ≡ 0 → w.free x ≡ false
uncounted_taken w x l o pos z =
    let a : ℕ = w.applied in
    no_from_none
    (w.free x)
    (omega (arith, z, l x pos, o (names x), sum_at-le-sum_at (late a (names x)) (names x) w.words (λ i v. grind (arith, nat_tests)), sum_by-le-sum_by (replaced_late a (names x)) (replaces_from a x) w.writes (λ e. grind (arith, nat_tests))))

pub freeing_ledger : (w v : Pending) (x : ℕ) → Frees w v x → StandsOnce w → HasLedger w → HasLedger (record w { count = v.count; free = with_answer w.free x true; released = with_answer w.released x false; leaf = v.leaf })
freeing_ledger w v x s o l y pos = omega (arith, l y pos, s.counts y pos, answered_yes w.free x y (uncounted_taken w x l o s.is_node s.uncounted))

-- a batch takes off no more than is there
pub batch_covered : (w : Pending) (x : ℕ) → HasEpochs w → HasLedger w → StandsOnce w → 0 < x → taken w x ≤ w.count x + added w x
batch_covered w x ep l o pos =
    let a : ℕ = w.applied in
    let r : ℕ → ℕ → ℕ = late (a + 1) (names x) in
    omega (
      arith,
      l x pos,
      o r,
      sum_by_split (puts_after a x) (puts_in (a + 1) x) (puts_after (a + 1) x) w.writes (λ e. grind (arith, nat_tests)),
      sum_by_split (replaces_from a x) (replaces_in a x) (replaces_from (a + 1) x) w.writes (λ e. grind (arith, nat_tests)),
      sum_by_split (is_from a x) (is_at a x) (is_from (a + 1) x) w.births (λ d. grind (arith, nat_tests)),
      sum_by-le-sum_by (puts_after (a + 1) x) (put_late a r) w.writes (λ e. grind (arith, nat_tests)),
      sum_at-le-sum_at (late a r) (names x) w.words (λ i v. grind (arith, nat_tests)),
      sum_by_le_unless (is_wrong_write w.requested) (replaced_late a r) (replaces_from (a + 1) x) w.writes ep.writes (λ e b. grind (arith, nat_tests)),
    )
