-- Each move of the collector keeps what every heap that counts late keeps.
use Rattle.std.proofs.Common.{◌≡◌, ◌≢◌, inl, inr, ℕ, ◌+◌, ◌<◌, Bool, true, false, sym, ap, subst, arith, ◌∙◌, sum_by}
use Rattle.std.proofs.lemmas.Bool.Decides.{nat_tests}
use Rattle.std.proofs.lemmas.Bool.{cases_eq}
use Rattle.std.proofs.lemmas.List.Sums.{sum_by-le-sum_by}
use Rattle.rec_model.proofs.Common.{only_if, one_if_same, sum_at, home, Pending, is_at, IsInReach, Requests, Applies, Releases, Clears, Frees, Drops, puts_in, replaces_in, added, taken, with_answer, names, puts_after, replaces_from, is_from, is_leaf_from, IsHeldAt, IsHeld, is_dead, IsUnnamed, IsAccounted}
use Rattle.rec_model.specs.Accounted.{named}
use Rattle.rec_model.proofs.Sums.{get_or-le-sum_at}
use Rattle.rec_model.proofs.Weights.{none_if_differs, only_if-le}
use Rattle.rec_model.proofs.Ledgers.{batch_ledger, batch_stands, clearing_ledger, uncounted_taken, freeing_ledger}
use Rattle.rec_model.proofs.Epochs.{request_epochs, batch_epochs, clearing_epochs}
use Rattle.rec_model.proofs.Holding.{request_held, clearing_held, clearing_stands}
use Rattle.rec_model.proofs.Naming.{batch_unnamed, clearing_unnamed, release_unnamed, freeing_unnamed, dead_out_of_reach}
use Rattle.rec_model.proofs.Changed.{after_batch, after_clearing, after_dropping, after_freeing, after_release, after_request, request_alike, batch_alike, release_alike, clearing_alike, freeing_alike, dropping_alike}
use Rattle.rec_model.proofs.Alike.{alike_accounted, dropping_accounted}

-- a batch neither adds to the count of a node that nothing names, nor takes off it
pub unnamed_uncounted : (w : Pending) (x : ℕ) → named w x ≡ 0 → (added w x ≡ 0) × (taken w x ≡ 0)
unnamed_uncounted w x none =
    let a : ℕ = w.applied in (
      omega (arith, none, sum_by-le-sum_by (puts_in (a + 1) x) (puts_after a x) w.writes (λ e. grind (arith, nat_tests)), sum_by-le-sum_by (is_at (a + 1) x) (is_from a x) w.snapshots (λ d. grind (arith, nat_tests))),
      omega (
        arith,
        none,
        sum_by-le-sum_by (replaces_in a x) (replaces_from a x) w.writes (λ e. grind (arith, nat_tests)),
        sum_by-le-sum_by (is_at a x) (is_from a x) w.births (λ d. grind (arith, nat_tests)),
        sum_by-le-sum_by (is_at a x) (is_from a x) w.snapshots (λ d. grind (arith, nat_tests)),
      ),
    )

-- no field leads to a free slot
pub free_unnamed : (w : Pending) (x : ℕ) → IsAccounted w → 0 < x → w.free x ≡ true → sum_at (names x) w.words ≡ 0
free_unnamed w x i pos free =
    let dead : is_dead w x ≡ true = (grind (arith, free)) in
    let one : only_if (w.free x) 1 ≡ 1 = ap (λ b. only_if b 1) free in
    omega (arith, one, i.ledger x pos, i.single x pos free, i.unnamed x pos dead)

pub request_accounted : (w v : Pending) → Requests w v → IsAccounted w → IsAccounted v
request_accounted w v s i =
    let u : Pending = after_request w v in
    let accounted : IsAccounted u = record {
      epochs = request_epochs w v s i.epochs;
      ledger = i.ledger;
      late = i.late;
      held = request_held w i.epochs i.held;
      unnamed = i.unnamed;
      apart = i.apart;
      single = i.single;
      born = i.born;
      leaves = i.leaves;
    } in
    alike_accounted u v (request_alike w v s) accounted

-- a batch leaves the count of a node that nothing names
batch_single : (w v : Pending) → Applies w v → IsAccounted w → (x : ℕ) → 0 < x → w.free x ≡ true → v.count x ≡ 1
batch_single w v s i x pos free =
    let dead : is_dead w x ≡ true = (grind (arith, free)) in
    let none = unnamed_uncounted w x (i.unnamed x pos dead) in
    omega (arith, s.counts x pos, i.single x pos free, none.0, none.1)

pub batch_accounted : (w v : Pending) → Applies w v → IsAccounted w → IsAccounted v
batch_accounted w v s i =
    let u : Pending = after_batch w v in
    let accounted : IsAccounted u = record {
      epochs = batch_epochs w v s i.epochs;
      ledger = batch_ledger w v s i.ledger;
      late = batch_stands w v i.epochs i.late;
      held = λ j from below x pos h. i.held j (omega (arith, from)) below x pos h;
      unnamed = batch_unnamed w v i.unnamed;
      apart = i.apart;
      single = batch_single w v s i;
      born = λ x pos. omega (arith, i.born x pos, sum_by-le-sum_by (is_from (w.applied + 1) x) (is_from w.applied x) w.births (λ d. grind (arith, nat_tests)));
      leaves = λ x pos some. i.leaves x pos (omega (arith, some, sum_by-le-sum_by (is_leaf_from (w.applied + 1) x) (is_leaf_from w.applied x) w.births (λ d. grind (arith, nat_tests))));
    } in
    alike_accounted u v (batch_alike w v s) accounted

apart_after_release : (free released : ℕ → Bool) (x y : ℕ) → free x ≡ false → (free y ≡ true → released y ≡ false) → free y ≡ true → with_answer released x true y ≡ false
apart_after_release free released x y f h e = grind (arith, nat_tests)

pub release_accounted : (w v : Pending) (x : ℕ) → Releases w v x → IsAccounted w → IsAccounted v
release_accounted w v x s i =
    let u : Pending = after_release w v x in
    let accounted : IsAccounted u = record {
      epochs = record {
        behind = i.epochs.behind;
        near = i.epochs.near;
        words = i.epochs.words;
        writes = i.epochs.writes;
        registers = i.epochs.registers;
        snapshots = i.epochs.snapshots;
      };
      ledger = i.ledger;
      late = i.late;
      held = i.held;
      unnamed = release_unnamed w x i.epochs i.ledger i.late i.held s.is_node s.done s.unnamed i.unnamed;
      apart = λ y pos e. apart_after_release w.free w.released x y (uncounted_taken w x i.ledger i.late s.is_node s.unnamed) (i.apart y pos) e;
      single = i.single;
      born = i.born;
      leaves = i.leaves;
    } in
    alike_accounted u v (release_alike w v x s) accounted

-- the node of a field that is cleared is out of reach
cleared_out_of_reach : (w v : Pending) (place : ℕ) → Clears w v place → IsUnnamed w → IsInReach w w.applied (home w.fields place) → ⊥
cleared_out_of_reach w v place s q r = let d : is_dead w (home w.fields place) ≡ true = (grind (arith, s.was_released)) in dead_out_of_reach w w.applied (omega arith) q (home w.fields place) r d

-- only the applied epoch is before the requested one then
cleared_held : (w v : Pending) (place : ℕ) → Clears w v place → IsUnnamed w → IsHeld w → IsHeld (record w { words = v.words; count = v.count })
cleared_held w v place s q h j from below =
    let e : w.applied ≡ j = omega (arith, s.done, from, below) in
    subst (λ k. IsHeldAt (record w { words = v.words; count = v.count }) k) e (clearing_held w v place s w.applied (cleared_out_of_reach w v place s q) (h w.applied (omega arith) (omega (arith, s.done))))

-- no field leads to a free slot
clearing_single : (w v : Pending) (place : ℕ) → Clears w v place → IsAccounted w → (x : ℕ) → 0 < x → w.free x ≡ true → v.count x ≡ 1
clearing_single w v place s i x pos free =
    omega (arith, s.counts x pos, i.single x pos free, free_unnamed w x i pos free, get_or-le-sum_at (names x) w.words place 0 s.inside)

pub clearing_accounted : (w v : Pending) (place : ℕ) → Clears w v place → IsAccounted w → IsAccounted v
clearing_accounted w v place s i =
    let u : Pending = after_clearing w v in
    let accounted : IsAccounted u = record {
      epochs = clearing_epochs w v place s i.epochs;
      ledger = clearing_ledger w v place s i.ledger;
      late = clearing_stands w v place s (cleared_out_of_reach w v place s i.unnamed) (i.held w.applied (omega arith) i.epochs.behind) i.late;
      held = cleared_held w v place s i.unnamed i.held;
      unnamed = clearing_unnamed w v place s i.unnamed;
      apart = i.apart;
      single = clearing_single w v place s i;
      born = i.born;
      leaves = i.leaves;
    } in
    alike_accounted u v (clearing_alike w v place s) accounted

apart_after_freeing : (free released : ℕ → Bool) (x y : ℕ) → (free y ≡ true → released y ≡ false) → with_answer free x true y ≡ true → with_answer released x false y ≡ false
apart_after_freeing free released x y h e = grind (arith, nat_tests)

free_before_freeing : (free : ℕ → Bool) (x y : ℕ) → y ≢ x → with_answer free x true y ≡ true → free y ≡ true
free_before_freeing free x y other e = grind (arith, nat_tests)

one_if_equal : (y x : ℕ) → y ≡ x → one_if_same y x ≡ 1
one_if_equal y x e = grind (arith, nat_tests)

freeing_single : (w v : Pending) (x : ℕ) → Frees w v x → IsAccounted w → (y : ℕ) → 0 < y → with_answer w.free x true y ≡ true → v.count y ≡ 1
freeing_single w v x s i y pos free =
    elim (cases_eq y x) [
      | inl same ↦ let none : w.count y ≡ 0 = subst (λ k. w.count k ≡ 0) (sym same) s.uncounted in omega (arith, none, s.counts y pos, one_if_equal y x same)
      | inr other ↦ omega (arith, s.counts y pos, none_if_differs y x other, i.single y pos (free_before_freeing w.free x y other free))
    ]

-- a birth of a node that was given up isn't to be counted
freeing_leaves : (w v : Pending) (x : ℕ) → Frees w v x → IsAccounted w → (y : ℕ) → 0 < y → 0 < sum_by (is_leaf_from w.applied y) w.births → v.leaf y ≡ true
freeing_leaves w v x s i y pos some =
    elim (cases_eq y x) [
      | inr other ↦ s.leaf y pos other ∙ i.leaves y pos some
      | inl same ↦
          let dead : is_dead w x ≡ true = (grind (arith, s.was_released)) in
          let none : named w y ≡ 0 = subst (λ k. named w k ≡ 0) (sym same) (i.unnamed x s.is_node dead) in
          absurd (omega (arith, some, none, sum_by-le-sum_by (is_leaf_from w.applied y) (is_from w.applied y) w.births (λ d. only_if-le d.leaf (is_from w.applied y d))))
    ]

pub freeing_accounted : (w v : Pending) (x : ℕ) → Frees w v x → IsAccounted w → IsAccounted v
freeing_accounted w v x s i =
    let u : Pending = after_freeing w v x in
    let accounted : IsAccounted u = record {
      epochs = record {
        behind = i.epochs.behind;
        near = i.epochs.near;
        words = i.epochs.words;
        writes = i.epochs.writes;
        registers = i.epochs.registers;
        snapshots = i.epochs.snapshots;
      };
      ledger = freeing_ledger w v x s i.late i.ledger;
      late = i.late;
      held = i.held;
      unnamed = freeing_unnamed w v x s i.unnamed;
      apart = λ y pos e. apart_after_freeing w.free w.released x y (i.apart y pos) e;
      single = freeing_single w v x s i;
      born = i.born;
      leaves = freeing_leaves w v x s i;
    } in
    alike_accounted u v (freeing_alike w v x s) accounted

pub drop_accounted : (w v : Pending) → Drops w v → IsAccounted w → IsAccounted v
drop_accounted w v s i =
    let u : Pending = after_dropping w v in
    alike_accounted u v (dropping_alike w v s) (dropping_accounted w v s i)
