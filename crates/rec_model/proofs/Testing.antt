-- While sets are tested: each move, and the release of a set that passes.
use Rattle.std.proofs.Common.{◌≡◌, ◌⊎◌, inl, inr, ℕ, ◌+◌, ◌<◌, ◌≤◌, Bool, true, false, cond, List, [], ◌∷◌, sum_by, refl, sym, ◌∙◌, arith}
use Rattle.std.proofs.lemmas.Bool.Decides.{nat_tests}
use Rattle.std.proofs.lemmas.Bool.{cases_lt, true≢false}
use Rattle.std.proofs.lemmas.List.Sums.{sum_by-le-sum_by}
use Rattle.rec_model.proofs.Common.{home, Pending, word_in, is_at, IsInReach, Applies, replaces_in, AccountMove, is_late_snapshot, is_wrong_register, names, puts_after, replaces_from, is_from, is_after, is_node, late, put_late, touches, IsHeldAt, names_unreleased, IsUnnamed, IsAccounted}
use Rattle.rec_model.specs.Moves.AccountMove.{put, register, birth, crossing, leaving, request, batch, release, clearing, freeing, dropping}
use Rattle.rec_model.specs.Sets.{PassesTests, IsMarked, Cleared, IsTesting, IsAmongTests, with_members, IsTested, ReleasesSet}
use Rattle.rec_model.proofs.Sums.{sum_at-le-sum_at, sum_at_split, sum_by_le_unless, sum_by_split}
use Rattle.rec_model.proofs.Ledgers.{epoch_after}
use Rattle.rec_model.proofs.Weights.{no_from_none}
use Rattle.rec_model.proofs.Holding.{held_sum}
use Rattle.rec_model.proofs.Changed.{after_set, leaving_alike, register_alike, set_alike}
use Rattle.rec_model.proofs.Alike.{alike_accounted}
use Rattle.rec_model.proofs.Sets.{outer_word, outer_none, passed_out_of_reach}
use Rattle.rec_model.proofs.Trials.{uncounted_safe, set_safe, none_replaced}
use Rattle.rec_model.proofs.Since.{batch_since, put_since, registers_since, birth_since, clearing_since, release_since, set_since}

-- the release of a set leaves that nothing names what is free or given up
set_unnamed : (w : Pending) (chosen : ℕ → Bool) (seen : ℕ → ℕ) → IsAccounted w → w.applied + 1 ≡ w.requested → PassesTests w chosen seen → ((z : ℕ) → 0 < z → chosen z ≡ true → sum_by (replaces_in w.applied z) w.writes ≡ 0) → IsUnnamed (record w { released = with_members w.released chosen })
set_unnamed w chosen seen i done t none y pos d =
    elim (dead_or_of_set w.free w.released chosen y d) [
      | inl b ↦ omega (arith, i.unnamed y pos b, sum_at-le-sum_at (names_unreleased w.fields (with_members w.released chosen) y) (names_unreleased w.fields w.released y) w.words (λ p word. grind (arith, nat_tests)))
      | inr is ↦
          let a : ℕ = w.applied in
          elim (cases_lt 0 (held_sum w a y)) [
            | inl some ↦ absurd (passed_out_of_reach w chosen seen i.ledger i.late t y (i.held a (omega arith) (omega (arith, done)) y pos some) is)
            | inr un ↦ omega (
              arith,
              un,
              none y pos is,
              i.epochs.snapshots,
              i.epochs.registers,
              i.late (names y),
              outer_none w chosen seen i.ledger i.late y (t.stands y pos is) (t.counted y pos is) pos,
              sum_by-le-sum_by (puts_after a y) (touches w.fields a y) w.writes (λ e. grind (arith, nat_tests)),
              sum_by_split (replaces_from a y) (replaces_in a y) (replaces_from (a + 1) y) w.writes (λ e. grind (arith, nat_tests)),
              sum_by-le-sum_by (replaces_from (a + 1) y) (touches w.fields a y) w.writes (λ e. grind (arith, nat_tests)),
              sum_at-le-sum_at (names_unreleased w.fields (with_members w.released chosen) y) (λ p word. outer_word w chosen y p word + late a (names y) p word) w.words (λ p word. grind (arith, nat_tests)),
              sum_at_split (λ p word. outer_word w chosen y p word + late a (names y) p word) (outer_word w chosen y) (late a (names y)) w.words (λ p word. refl),
              sum_by_le_unless (is_late_snapshot w.requested) (is_from a y) (is_at a y) w.snapshots i.epochs.snapshots (λ e b. grind (arith, nat_tests, done)),
              sum_by_le_unless (is_wrong_register a w.requested) (is_node y) (is_after a y) w.registers i.epochs.registers (λ e b. grind (arith, nat_tests)),
              late_put y,
            )
          ]
    ]
  where
    dead_or_of_set : (free released chosen : ℕ → Bool) (y : ℕ) → cond (free y) true (with_members released chosen y) ≡ true → (cond (free y) true (released y) ≡ true) ⊎ (chosen y ≡ true)
    dead_or_of_set free released chosen y e = grind (arith, nat_tests)

    late_put : (y : ℕ) → sum_by (put_late w.applied (names y)) w.writes ≤ sum_by (touches w.fields w.applied y) w.writes
    late_put y = sum_by-le-sum_by (put_late w.applied (names y)) (touches w.fields w.applied y) w.writes (λ e. grind (arith, nat_tests))

apart_after_set : (w : Pending) (chosen : ℕ → Bool) (seen : ℕ → ℕ) → PassesTests w chosen seen → IsAccounted w → (y : ℕ) → 0 < y → w.free y ≡ true → with_members w.released chosen y ≡ false
apart_after_set w chosen seen t i y pos e = go (chosen y) refl
  where
    go : (b : Bool) → chosen y ≡ b → with_members w.released chosen y ≡ false
    go true f = absurd (true≢false (sym e ∙ no_from_none (w.free y) (omega (arith, outer_none w chosen seen i.ledger i.late y (t.stands y pos f) (t.counted y pos f) pos))))
    go false f = rw f (i.apart y pos e)

-- the release of a set that passes its tests keeps the accounts, and the tests go on
pub set_accounted : (w v u : Pending) (member chosen : ℕ → Bool) → IsAccounted w → IsTesting w u member → IsTested w u member chosen → ReleasesSet w v chosen → IsAccounted v × IsTesting v u member
set_accounted w v u member chosen i t c s =
    let held : IsHeldAt u u.applied = t.before.held u.applied (omega arith) t.before.epochs.behind in
    let mark : ℕ → ℕ = t.marked.0 in
    let gone : List Cleared = t.since.0 in
    let seen : ℕ → ℕ = c.passes.0 in
    let away : (z : ℕ) → IsInReach u u.applied z → chosen z ≡ true → ⊥ = set_safe w u member mark gone t.marked.1 t.since.1 t.before.ledger t.before.late held i.ledger i.late chosen seen c.passes.1 c.among c.unput in
    let none : (z : ℕ) → 0 < z → chosen z ≡ true → sum_by (replaces_in w.applied z) w.writes ≡ 0 = none_replaced w u member mark gone t.marked.1 t.since.1 t.before.ledger t.before.late held i.ledger i.late chosen seen c.passes.1 c.among c.unput in
    let x : Pending = after_set w v chosen in
    let accounted : IsAccounted x = record {
      epochs = record {
        behind = i.epochs.behind;
        near = i.epochs.near;
        words = i.epochs.words;
        writes = i.epochs.writes;
        registers = i.epochs.registers;
        snapshots = i.epochs.snapshots;
      };
      ledger = i.ledger;
      late = i.late;
      held = i.held;
      unnamed = set_unnamed w chosen seen i t.done c.passes.1 none;
      apart = apart_after_set w chosen seen c.passes.1 i;
      single = i.single;
      born = i.born;
      leaves = i.leaves;
    } in (
      alike_accounted x v (set_alike w v chosen s) accounted,
      record {
        before = t.before;
        done = omega (arith, t.done, s.epochs.applied, s.epochs.requested);
        marked = t.marked;
        since = (gone, set_since w v u member gone chosen s away t.since.1);
      },
    )

-- a batch begins the tests of the sets that a trial left
pub batch_testing : (w v : Pending) (member : ℕ → Bool) (mark : ℕ → ℕ) → IsAccounted w → Applies w v → ((z : ℕ) → 0 < z → member z ≡ true → w.released z ≡ false) → IsMarked w member mark → IsTesting v w member
batch_testing w v member mark i s alive m = record {
  before = i;
  done = omega (arith, s.asked, s.applied, s.requested);
  marked = (mark, m);
  since = ([], batch_since w v member s alive);
}

-- the tests go on over the moves that may be made meanwhile
pub move_testing : {w v u : Pending} {member : ℕ → Bool} → (m : AccountMove w v) → IsAmongTests m → IsAccounted w → IsTesting w u member → IsTesting v u member
move_testing {w} {v} {u} {member} (put {epoch} {place} {new} s) _ i t = record {
  before = t.before;
  done = omega (arith, t.done, s.epochs.applied, s.epochs.requested);
  marked = t.marked;
  since = (t.since.0, put_since w v u member t.since.0 epoch place new s (epoch_after w epoch (home w.fields place) i.epochs s.source) t.since.1);
}
move_testing {w} {v} {u} {member} (register {epoch} {old} {new} s) _ i t = record {
  before = t.before;
  done = omega (arith, t.done, s.epochs.applied, s.epochs.requested);
  marked = t.marked;
  since = (t.since.0, registers_since w v u member t.since.0 (register_alike w v epoch old new s) t.since.1);
}
move_testing {w} {v} {u} {member} (birth {epoch} {old} {node} s) _ i t = record {
  before = t.before;
  done = omega (arith, t.done, s.epochs.applied, s.epochs.requested);
  marked = t.marked;
  since = (t.since.0, birth_since w v u member t.since.0 epoch old node s t.since.1);
}
move_testing {w} (crossing {epoch} s) _ i t = absurd (omega (arith, s.asked, s.unapplied, t.done))
move_testing {w} {v} {u} {member} (leaving s) _ i t = record {
  before = t.before;
  done = omega (arith, t.done, s.epochs.applied, s.epochs.requested);
  marked = t.marked;
  since = (t.since.0, registers_since w v u member t.since.0 (leaving_alike w v s) t.since.1);
}
move_testing {w} {v} {u} {member} (release {node} s) _ i t =
    let held : IsHeldAt u u.applied = t.before.held u.applied (omega arith) t.before.epochs.behind in
    record {
      before = t.before;
      done = omega (arith, t.done, s.epochs.applied, s.epochs.requested);
      marked = t.marked;
      since = (
        t.since.0,
        release_since w v u member t.since.0 node s (λ is. uncounted_safe w u member t.marked.0 t.since.0 t.marked.1 t.since.1 t.before.ledger t.before.late held i.ledger i.late node s.is_node is s.unnamed) t.since.1,
      );
    }
move_testing {w} {v} {u} {member} (clearing {place} s) _ i t = record {
  before = t.before;
  done = omega (arith, t.done, s.epochs.applied, s.epochs.requested);
  marked = t.marked;
  since = (record { place = place; word = word_in w place } ∷ t.since.0, clearing_since w v u member t.since.0 place s t.since.1);
}
move_testing (request s) among i t = absurd among
move_testing (batch s) among i t = absurd among
move_testing (freeing s) among i t = absurd among
move_testing (dropping s) among i t = absurd among
