-- The batch of a pair that cancels is covered.
use Rattle.std.proofs.Common.{◌≡◌, ℕ, ◌+◌, ◌≤◌, eqb, Some, None, List, [], ◌∷◌, refl, arith, sym, ap, subst}
use Rattle.std.proofs.lemmas.Bool.{ne_eqb}
use Rattle.std.proofs.lemmas.List.Sums.{sum_by-cons}
use Rattle.rec_counts.specs.Counts.{State, slot_at}
use Rattle.rec_counts.specs.Lists.{one}
use Rattle.rec_counts.proofs.Times.{one-le}
use Rattle.rec_log.specs.declared.contents.Contents.{Contents}
use Rattle.rec_counts.specs.Batch.{IsCovered}
use Rattle.rec_counts.specs.Targets.{added, leaf_born, leaves, named, new_target, old_target, taken}
use Rattle.rec_counts.proofs.Naming.{named-cons, named-nil}
use Rattle.rec_tests.specs.Paired.{IsSetOfOne, one_write}
use Rattle.rec_tests.proofs.cancelled.apply_pair.Goals as goal

pair_added : (x : ℕ) → added x (one_write 2 0 ∷ []) ≡ one (eqb x 1)
pair_added x = omega (arith, named-cons x (Some 1) [], named-nil x)

pair_taken : (x : ℕ) → taken x (one_write 0 2 ∷ []) ≡ one (eqb x 1)
pair_taken x = omega (arith, named-cons x (Some 1) [], named-nil x)

pair_leaves : (x : ℕ) → leaves x (one_write 2 0 ∷ []) ≡ 0
pair_leaves x = omega (arith, named-cons x None [], named-nil x)

pair_covered : (s : State) → IsSetOfOne s → IsCovered s (one_write 2 0 ∷ []) (one_write 0 2 ∷ [])
pair_covered s k = record {
  in_range = λ x l. omega (arith, pair_added x, pair_taken x, ap one (ne_eqb x 1 (λ e. omega (arith, e, l, k.slots))));
  born = λ x l. pair_leaves x;
  fits = λ x. omega (arith, pair_added x, one-le (eqb x 1), k.few x);
  covered = λ x. omega (arith, pair_added x, pair_taken x);
}

pub apply-requires-clause-covered : goal.apply-requires-clause-covered
apply-requires-clause-covered g c =
    let set = c.args.counts.now in
    subst (λ (b : List Contents). IsCovered set c.in_ok-newer.newer b) (sym c.in_ok-newer.ensures.older)
    (subst (λ (b : List Contents). IsCovered set b (one_write 0 2 ∷ [])) (sym c.in_ok-newer.ensures.newer) (pair_covered set c.requires))
