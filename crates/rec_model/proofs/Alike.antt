-- What every heap that counts late keeps sees the lists through their sums alone.
use Rattle.std.proofs.Common.{◌≡◌, ℕ, ◌<◌, ◌==◌, Bool, true, false, nat_le, nat_lt, cond, not, refl, sym, ap, subst, ◌∙◌, arith}
use Rattle.std.proofs.lemmas.Bool.Decides.{nat_tests}
use Rattle.rec_model.proofs.Common.{only_if, one_if_same, sum_at, HasSameSums, HasSameSumsAt, node_of, epoch_of, home, Write, Dated, dated, Pending, is_at, KeepsEpochs, KeepsSlots, KeepsLogs, Drops, is_late_word, is_wrong_write, is_wrong_register, is_late_snapshot, names, puts_after, replaces_from, is_from, is_leaf_from, is_after, is_node, late, put_late, replaced_late, touches, is_dead, names_unreleased, IsAccounted}
use Rattle.rec_model.proofs.Sums.{sum_at_same}
use Rattle.rec_model.proofs.Counted.{opened_from, closed_out_of}
use Rattle.rec_model.proofs.Reaching.{reach_stays}

-- two heaps that differ in nothing but how their lists are laid out
pub record IsAlike (w v : Pending) : Type 0 where
  pub epochs : KeepsEpochs w v
  pub slots : KeepsSlots w v
  pub words : HasSameSumsAt w.words v.words
  pub logs : KeepsLogs w v
  pub registers : HasSameSums w.registers v.registers

-- v with the epochs of w
abbrev pub with_epochs_of : (w v : Pending) → Pending
with_epochs_of w v = record v { fields = w.fields; applied = w.applied; requested = w.requested }

module _ (w v : Pending) (s : IsAlike w v) where
  dead_alike : (y : ℕ) → 0 < y → is_dead v y ≡ true → is_dead w y ≡ true
  dead_alike y pos d = sym (ap (λ b. cond b true (w.released y)) (s.slots.free y pos)) ∙ sym (ap (λ b. cond (v.free y) true b) (s.slots.released y pos)) ∙ d

  unreleased_alike : (y : ℕ) → sum_at (names_unreleased w.fields v.released y) v.words ≡ sum_at (names_unreleased w.fields w.released y) w.words
  unreleased_alike y =
      sum_at_same (names_unreleased w.fields v.released y) (names_unreleased w.fields w.released y) v.words (λ i word. ap (λ b. only_if (not b) (one_if_same y (node_of word))) (s.slots.released (home w.fields i) (omega arith)))
      ∙ s.words (names_unreleased w.fields w.released y)

  with_epochs_accounted : IsAccounted w → IsAccounted (with_epochs_of w v)
  with_epochs_accounted i =
      let a : ℕ = w.applied in
      record {
        epochs = record {
          behind = i.epochs.behind;
          near = i.epochs.near;
          words = omega (arith, i.epochs.words, s.words (is_late_word w.requested));
          writes = omega (arith, i.epochs.writes, s.logs.writes (is_wrong_write w.requested));
          registers = omega (arith, i.epochs.registers, s.registers (is_wrong_register a w.requested));
          snapshots = omega (arith, i.epochs.snapshots, s.logs.snapshots (is_late_snapshot w.requested));
        };
        ledger = λ x pos. omega (arith, i.ledger x pos, s.slots.count x pos, ap (λ b. only_if b 1) (s.slots.free x pos), s.logs.writes (puts_after a x), s.words (names x), s.logs.writes (replaces_from a x), s.logs.snapshots (is_at a x), s.logs.births (is_from a x));
        late = λ q. omega (arith, i.late q, s.logs.writes (put_late a q), s.words (late a q), s.logs.writes (replaced_late a q));
        held = λ j from below x pos h. reach_stays
            w
            (with_epochs_of w v)
            j
            (λ z _ k. omega (arith, k, s.logs.snapshots (is_at j z), s.logs.births (is_from j z)))
            (λ y z _ _ _ k. omega (arith, k, s.words (opened_from w.fields j y z), s.logs.writes (closed_out_of w.fields j y z)))
            x
            (i.held j from below x pos (omega (arith, h, s.logs.writes (touches w.fields j x), s.registers (is_after j x))));
        unnamed = λ x pos d. omega (arith, i.unnamed x pos (dead_alike x pos d), unreleased_alike x, s.logs.writes (puts_after a x), s.logs.writes (replaces_from a x), s.logs.snapshots (is_from a x), s.logs.births (is_from a x), s.registers (is_node x));
        apart = λ x pos e. s.slots.released x pos ∙ i.apart x pos (sym (s.slots.free x pos) ∙ e);
        single = λ x pos e. s.slots.count x pos ∙ i.single x pos (sym (s.slots.free x pos) ∙ e);
        born = λ x pos. omega (arith, i.born x pos, s.logs.births (is_from a x));
        leaves = λ x pos some. s.slots.leaf x pos ∙ i.leaves x pos (omega (arith, some, s.logs.births (is_leaf_from a x)));
      }

  pub alike_accounted : IsAccounted w → IsAccounted v
  alike_accounted i =
      let with_fields : IsAccounted (record v { applied = w.applied; requested = w.requested }) = subst (λ f. IsAccounted (record v { fields = f; applied = w.applied; requested = w.requested })) (sym s.epochs.fields) (with_epochs_accounted i) in
      let with_applied : IsAccounted (record v { requested = w.requested }) = subst (λ a. IsAccounted (record v { applied = a; requested = w.requested })) (sym s.epochs.applied) with_fields in
      subst (λ r. IsAccounted (record v { requested = r })) (sym s.epochs.requested) with_applied

-- null names no node
null_at : (epoch node e : ℕ) → 0 < node → is_at epoch node (dated e 0) ≡ 0
null_at epoch node e pos = grind (arith, nat_tests)

null_from : (epoch node e : ℕ) → 0 < node → is_from epoch node (dated e 0) ≡ 0
null_from epoch node e pos = grind (arith, nat_tests)

-- nor does what is of an earlier epoch count
early_is : (epoch e n : ℕ) → e < epoch → only_if (epoch == e) n ≡ 0
early_is epoch e n early = grind (arith, nat_tests)

early_le : (epoch e n : ℕ) → e < epoch → only_if (nat_le epoch e) n ≡ 0
early_le epoch e n early = grind (arith, nat_tests)

early_lt : (epoch e n : ℕ) → e < epoch → only_if (nat_lt epoch e) n ≡ 0
early_lt epoch e n early = grind (arith, nat_tests)

early_from : (epoch node : ℕ) (d : Dated) → d.epoch < epoch → is_from epoch node d ≡ 0
early_from epoch node d early = early_le epoch d.epoch (one_if_same node d.node) early

early_puts : (epoch node : ℕ) (e : Write) → epoch_of e.new < epoch → puts_after epoch node e ≡ 0
early_puts epoch node e early = early_lt epoch (epoch_of e.new) (one_if_same node (node_of e.new)) early

early_replaces : (epoch node : ℕ) (e : Write) → epoch_of e.new < epoch → replaces_from epoch node e ≡ 0
early_replaces epoch node e early = early_le epoch (epoch_of e.new) (one_if_same node (node_of e.old)) early

early_closed : (fields epoch source node : ℕ) (e : Write) → epoch_of e.new < epoch → closed_out_of fields epoch source node e ≡ 0
early_closed fields epoch source node e early = ap (only_if (source == home fields e.place)) (early_le epoch (epoch_of e.new) _ early) ∙ none (source == home fields e.place)
  where
    none : (b : Bool) → only_if b 0 ≡ 0
    none true = refl
    none false = refl

-- what is of an epoch before the applied one may go, and what is null
pub dropping_accounted : (w v : Pending) → Drops w v → IsAccounted w → IsAccounted (record w { writes = v.writes; births = v.births; snapshots = v.snapshots })
dropping_accounted w v s i =
    let a : ℕ = w.applied in
    record {
      epochs = record {
        behind = i.epochs.behind;
        near = i.epochs.near;
        words = i.epochs.words;
        writes = omega (arith, i.epochs.writes, s.writes.0 (is_wrong_write w.requested));
        registers = i.epochs.registers;
        snapshots = omega (arith, i.epochs.snapshots, s.snapshots.0 (is_late_snapshot w.requested));
      };
      ledger = λ x pos. omega (
        arith,
        i.ledger x pos,
        s.writes.1 (puts_after a x) (early_puts a x),
        s.writes.1 (replaces_from a x) (early_replaces a x),
        s.snapshots.1 (is_at a x) (λ d l. early_is a d.epoch _ l) (λ e. null_at a x e pos),
        s.births.1 (is_from a x) (early_from a x) (λ e. null_from a x e pos),
      );
      late = λ q. omega (arith, i.late q, s.writes.1 (put_late a q) (λ e l. early_lt a (epoch_of e.new) _ l), s.writes.1 (replaced_late a q) (λ e l. early_le a (epoch_of e.new) _ l));
      held = λ j from below x pos h. reach_stays
          w
          (record w { writes = v.writes; births = v.births; snapshots = v.snapshots })
          j
          (λ z some k. omega (arith, k, s.snapshots.1 (is_at j z) (λ d l. early_is j d.epoch _ (omega (arith, l, from))) (λ e. null_at j z e some), s.births.1 (is_from j z) (λ d l. early_from j z d (omega (arith, l, from))) (λ e. null_from j z e some)))
          (λ y z _ _ _ k. omega (arith, k, s.writes.1 (closed_out_of w.fields j y z) (λ e l. early_closed w.fields j y z e (omega (arith, l, from)))))
          x
          (i.held j from below x pos (omega (arith, h, s.writes.1 (touches w.fields j x) (λ e l. early_lt j (epoch_of e.new) _ (omega (arith, l, from))))));
      unnamed = λ x pos d. omega (
        arith,
        i.unnamed x pos d,
        s.writes.1 (puts_after a x) (early_puts a x),
        s.writes.1 (replaces_from a x) (early_replaces a x),
        s.snapshots.1 (is_from a x) (early_from a x) (λ e. null_from a x e pos),
        s.births.1 (is_from a x) (early_from a x) (λ e. null_from a x e pos),
      );
      apart = i.apart;
      single = i.single;
      born = λ x pos. omega (arith, i.born x pos, s.births.1 (is_from a x) (early_from a x) (λ e. null_from a x e pos));
      leaves = λ x pos some. i.leaves x pos (omega (arith, some, s.births.0 (is_leaf_from a x)));
    }
