-- A heap as it is opened keeps what every heap that counts late keeps.
use Rattle.std.proofs.Common.{◌+◌, ◌≡◌, ◌≢◌, inl, inr, ℕ, ◌*◌, ◌<◌, ◌≤◌, eqb, ltb, leb, not, Bool, true, cond, sum_by, sym, ap, subst, ◌∙◌, arith, ◌-◌, ◌++◌, replicate, refl}
use Rattle.std.proofs.lemmas.Bool.Decides.{nat_tests}
use Rattle.std.proofs.lemmas.List.Folds.{sum_by-replicate}
use Rattle.std.proofs.lemmas.List.Sums.{sum_by-append, sum_by-le-sum_by}
use Rattle.std.proofs.lemmas.Bool.{cases_eq, true≢false}
use Rattle.rec_model.proofs.Common.{only_if, one_if_same, sum_at, node_of, epoch_of, home, dated, Pending, is_at, Dated, is_late_word, is_wrong_write, is_wrong_register, is_late_snapshot, HasEpochs, names, puts_after, replaces_from, is_from, is_leaf_from, is_after, is_node, HasLedger, late, put_late, replaced_late, touches, IsHeld, is_dead, names_unreleased, IsUnnamed, IsAccounted}
use Rattle.rec_model.specs.Opened.{IsBeginning, opening}
use Rattle.rec_model.proofs.Sums.{sum_at-le-sum_at, sum_at-replicate_none, sum_by_same}
use Rattle.rec_model.proofs.Weights.{only_if-le, only_if_le, only_if_self, none_if_not_lt, none_if_differs}
use Rattle.rec_model.proofs.Reaching.{root_in_reach}
use Rattle.rec_model.proofs.Ledgers.{node_of_null, epoch_of_null}

-- null weighs nothing where a node is meant
null_differs : (x : ℕ) → 0 < x → one_if_same x 0 ≡ 0
null_differs x pos = none_if_differs x 0 (omega (arith, pos))

null_weightless : (b : Bool) (x : ℕ) → 0 < x → only_if b (one_if_same x 0) ≡ 0
null_weightless b x pos = omega (arith, null_differs x pos, only_if-le b (one_if_same x 0))

-- what begins so keeps it all
module _ (w : Pending) (s : IsBeginning w) where
  -- what is late as a word was put after the requested epoch is late after the applied one
  beginning_epochs : HasEpochs w
  beginning_epochs = record {
    behind = omega (arith, s.near);
    near = omega (arith, s.near);
    words = omega (arith, s.early (λ place word. 1), sum_at-le-sum_at (is_late_word w.requested) (late w.applied (λ place word. 1)) w.words (λ place word. later (epoch_of word)));
    writes = s.writes (is_wrong_write w.requested);
    registers = s.entered;
    snapshots = s.left;
  }
    where
      later : (n : ℕ) → only_if (ltb w.requested n) 1 ≤ only_if (ltb w.applied n) 1
      later n = let less : w.applied < w.requested = omega (arith, s.near) in grind (arith, nat_tests, less)

  -- how often registers name a node, as the snapshots of the applied epoch do
  snapshots_at : (x : ℕ) → 0 < x → sum_by (is_at w.applied x) w.snapshots ≡ sum_by (is_node x) w.registers
  snapshots_at x pos =
      s.snapshots (is_at w.applied x) (λ d. null_weightless (eqb w.applied d) x pos)
      ∙ sum_by_same (λ d. is_at w.applied x (dated w.applied d.node)) (is_node x) w.registers (λ d. only_if_self w.applied (one_if_same x d.node))

  snapshots_from : (x : ℕ) → 0 < x → sum_by (is_from w.applied x) w.snapshots ≡ sum_by (is_node x) w.registers
  snapshots_from x pos =
      s.snapshots (is_from w.applied x) (λ d. null_weightless (leb w.applied d) x pos)
      ∙ sum_by_same (λ d. is_from w.applied x (dated w.applied d.node)) (is_node x) w.registers (λ d. only_if_le w.applied w.applied (one_if_same x d.node) (omega arith))

  beginning_ledger : HasLedger w
  beginning_ledger x pos = omega (arith, s.counted x pos, snapshots_at x pos, s.writes (puts_after w.applied x), s.writes (replaces_from w.applied x), s.births (is_from w.applied x))

  beginning_held : IsHeld w
  beginning_held j from below x pos h =
      let here : w.applied ≡ j = omega (arith, from, below, s.near) in
      let most : sum_by (is_after j x) w.registers ≤ sum_by (is_node x) w.registers = sum_by-le-sum_by (is_after j x) (is_node x) w.registers (λ d. only_if-le (ltb j d.epoch) (one_if_same x d.node)) in
      let named : sum_by (is_at j x) w.snapshots ≡ sum_by (is_node x) w.registers = subst (λ k. sum_by (is_at k x) w.snapshots ≡ sum_by (is_node x) w.registers) here (snapshots_at x pos) in
      root_in_reach w j x pos (omega (arith, h, most, named, s.writes (touches w.fields j x)))

  -- nothing was given up, so what is dead is a free slot
  dead_free : (x : ℕ) → 0 < x → is_dead w x ≡ true → w.free x ≡ true
  dead_free x pos d = grind (arith, d, s.released x pos)

  beginning_unnamed : IsUnnamed w
  beginning_unnamed x pos d =
      omega (
        arith,
        s.unnamed x pos (dead_free x pos d),
        snapshots_from x pos,
        sum_at-le-sum_at (names_unreleased w.fields w.released x) (names x) w.words (λ place word. only_if-le (not (w.released (home w.fields place))) (one_if_same x (node_of word))),
        s.writes (puts_after w.applied x),
        s.writes (replaces_from w.applied x),
        s.births (is_from w.applied x),
      )

  pub beginning_accounted : IsAccounted w
  beginning_accounted = record {
    epochs = beginning_epochs;
    ledger = beginning_ledger;
    late = λ q. omega (arith, s.early q, s.writes (put_late w.applied q), s.writes (replaced_late w.applied q));
    held = beginning_held;
    unnamed = beginning_unnamed;
    apart = λ x pos e. s.released x pos;
    single = λ x pos e. omega (arith, s.counted x pos, s.unnamed x pos e, ap (λ b. only_if b 1) e);
    born = λ x pos. omega (arith, s.births (is_from w.applied x));
    leaves = λ x pos some. absurd (omega (arith, some, s.births (is_leaf_from w.applied x)));
  }

-- there is such a heap
named_sum : (weight : Dated → ℕ) (mutators nulls epoch : ℕ) → sum_by weight (replicate mutators (dated epoch 1) ++ replicate (mutators * nulls) (dated epoch 0)) ≡ mutators * weight (dated epoch 1) + mutators * nulls * weight (dated epoch 0)
named_sum weight mutators nulls epoch =
    omega (
      arith,
      sum_by-append weight (replicate mutators (dated epoch 1)) (replicate (mutators * nulls) (dated epoch 0)),
      sum_by-replicate weight mutators (dated epoch 1),
      sum_by-replicate weight (mutators * nulls) (dated epoch 0),
    )

without_nulls : (weight : Dated → ℕ) (mutators nulls epoch : ℕ) → weight (dated epoch 0) ≡ 0 → sum_by weight (replicate mutators (dated epoch 1) ++ replicate (mutators * nulls) (dated epoch 0)) ≡ mutators * weight (dated epoch 1)
without_nulls weight mutators nulls epoch none = omega (arith, named_sum weight mutators nulls epoch, ap (λ k. mutators * nulls * k) none)

none_of_them : (weight : Dated → ℕ) (mutators nulls epoch : ℕ) → weight (dated epoch 0) ≡ 0 → weight (dated epoch 1) ≡ 0 → sum_by weight (replicate mutators (dated epoch 1) ++ replicate (mutators * nulls) (dated epoch 0)) ≡ 0
none_of_them weight mutators nulls epoch null one = omega (arith, without_nulls weight mutators nulls epoch null, ap (λ k. mutators * k) one)

module _ (fields places epoch mutators nulls : ℕ) where
  abbrev w : Pending
  w = opening fields places epoch mutators nulls

  -- no field names a node, and each mutator names node 1
  no_names : (x : ℕ) → 0 < x → sum_at (names x) w.words ≡ 0
  no_names x pos = sum_at-replicate_none (names x) places 0 (λ place. none_if_differs x (node_of 0) (omega (arith, pos, node_of_null)))

  registers_name : (x : ℕ) → 0 < x → sum_by (is_node x) w.registers ≡ mutators * one_if_same x 1
  registers_name x pos = without_nulls (is_node x) mutators nulls epoch (null_differs x pos)

  other : (x : ℕ) → 1 < x → not (eqb x 1) ≡ true
  other x more = grind (arith, nat_tests)

  single : (x : ℕ) → 1 < x → cond (eqb x 1) mutators 1 ≡ 1
  single x more = grind (arith, nat_tests)

  pub opening_begins : 0 < epoch → IsBeginning w
  opening_begins some = record {
    near = omega (arith, some);
    early = λ weight. sum_at-replicate_none (late w.applied weight) places 0 (λ place. none_if_not_lt w.applied (epoch_of 0) (weight place 0) (omega (arith, epoch_of_null)));
    writes = λ weight. refl;
    births = λ weight. refl;
    snapshots = λ weight null.
        without_nulls weight mutators nulls (epoch - 1) (null (epoch - 1))
        ∙ sym (without_nulls (λ d. weight (dated w.applied d.node)) mutators nulls epoch (null (epoch - 1)));
    left = none_of_them (is_late_snapshot epoch) mutators nulls (epoch - 1) (early 0) (early 1);
    entered = none_of_them (is_wrong_register (epoch - 1) epoch) mutators nulls epoch (within 0) (within 1);
    counted = λ x pos. elim (cases_eq x 1) [
      | inl e ↦
          let product : mutators * one_if_same x 1 ≡ mutators * 1 = ap (λ k. mutators * one_if_same k 1) e in
          omega (arith, ap w.count e, product, ap (λ k. only_if (w.free k) 1) e, no_names x pos, registers_name x pos)
      | inr e ↦
          let more : 1 < x = omega (arith, pos, e) in
          let product : mutators * one_if_same x 1 ≡ mutators * 0 = ap (λ k. mutators * k) (none_if_differs x 1 e) in
          omega (arith, single x more, product, ap (λ b. only_if b 1) (other x more), no_names x pos, registers_name x pos)
    ];
    unnamed = λ x pos free.
        let differs : x ≢ 1 = λ is. true≢false (sym free ∙ ap w.free is) in
        let product : mutators * one_if_same x 1 ≡ mutators * 0 = ap (λ k. mutators * k) (none_if_differs x 1 differs) in
        omega (arith, product, no_names x pos, registers_name x pos);
    released = λ node pos. refl;
  }
    where
      early : (node : ℕ) → is_late_snapshot epoch (dated (epoch - 1) node) ≡ 0
      early node = let less : epoch - 1 < epoch = omega (arith, some) in grind (arith, nat_tests)

      within : (node : ℕ) → is_wrong_register (epoch - 1) epoch (dated epoch node) ≡ 0
      within node = let less : epoch - 1 < epoch = omega (arith, some) in grind (arith, nat_tests)
