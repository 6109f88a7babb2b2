-- A batch begins the tests of the sets that waited for it.
use Rattle.std.proofs.Common.{◌≡◌, ℕ, Bool, sum_by, ◌+◌, ◌-◌, ◌<◌, true, false, ltb, List, sym, ◌∙◌, ap, subst, arith}
use Rattle.std.specs.List.{concat}
use Rattle.std.proofs.lemmas.Bool.{lt-ltb, ltb-true}
use Rattle.rec_core.proofs.Common.{sum_at, Pending, IsAccounted, HasLoaded, seen_in, Slot, State, slot_at, times, is_in, Contents, puts_in, is_member, is_member_of, word_loaded, word_seen, SetsWait, SetsTest}
use Rattle.rec_model.specs.Moves as moves
use Rattle.rec_model.proofs.Testing.{batch_testing}
use Rattle.rec_counts.specs.declared.colour.Colour.TheVariants.{Orange}
use Rattle.rec_counts.specs.Batch.{IsApplied}
use Rattle.rec_counts.specs.Targets.{written}
use Rattle.rec_counts.proofs.Told.{written_touches}
use Rattle.rec_collector.specs.Kept.{NoneReleased}
use Rattle.rec_collector.proofs.Outside.{batch_same}
use Rattle.rec_core.proofs.CyclesLess.{TestsLess, member_before}
use Rattle.rec_core.proofs.CyclesTest.{counted_less}

-- What the next batch of `w` makes of the counts: less is left to be tested, and its writes put nothing to a slot that is Orange after it.
pub record IsBatchOf (w : Pending) (s t : State) : Type 0 where
  pub less : TestsLess s t
  pub unput : (x : ℕ) → (slot_at t x).colour ≡ Orange → sum_by (puts_in (w.applied + 1) (x + 1)) w.writes ≡ 0

pub is_batch_of : (w : Pending) (steady : Bool) (newer older : List Contents) {s t : State} → IsApplied steady s newer older t → NoneReleased s → ((x : ℕ) → sum_by (puts_in (w.applied + 1) (x + 1)) w.writes ≡ written x newer) → IsBatchOf w s t
is_batch_of w steady newer older {s} {t} b none e = record {
  less = record {
    among = λ x l. subst (λ xss. 0 < times x (concat xss)) b.rest.sets l;
    members = λ number x y _. ap (is_in number) (b.rest.set y);
    orange = λ x o. ap (λ (v : Slot). v.colour) (sym (batch_same b none x o).0) ∙ o;
    exact = λ x o r. (sym (b.rest.released x) ∙ r, λ k q. subst (λ (v : Slot). v.cyclic ≡ v.count - k) (sym (batch_same b none x o).0) q);
  };
  unput = λ x o. omega (arith, e x, written_touches steady x newer older, (batch_same b none x o).1);
}

is_member_from : (s : State) (x : ℕ) → 0 < times x (concat s.sets) → is_member s (x + 1) ≡ true
is_member_from s x h = let same : x ≡ x + 1 - 1 = omega arith in subst (λ z. ltb 0 (times z (concat s.sets)) ≡ true) same (lt-ltb 0 (times x (concat s.sets)) h)

unreleased_at : (w : Pending) (s : State) → ((x : ℕ) → 0 < times x (concat s.sets) → w.released (x + 1) ≡ false) → (node : ℕ) → 0 < node → is_member s node ≡ true → w.released node ≡ false
unreleased_at w s alive node pos e = let same : node - 1 + 1 ≡ node = omega arith in subst (λ z. w.released z ≡ false) same (alive (node - 1) (ltb-true 0 (times (node - 1) (concat s.sets)) e))

-- the batch that the sets waited for begins their tests
pub sets_test_begun : (w v : Pending) (s t : State) → IsAccounted w → moves.Applies w v → ((x : ℕ) → 0 < times x (concat s.sets) → w.released (x + 1) ≡ false) → IsBatchOf w s t → SetsWait w s → SetsTest v t
sets_test_begun w v s t i a alive b h = record {
  before = w;
  member = is_member s;
  testing = batch_testing w v (is_member s) (word_loaded w.fields h.marking) i a (unreleased_at w s alive) h.marked;
  among = λ x m. is_member_from s x (b.less.among x m);
  loads = h.loads;
  loaded = subst (λ f. HasLoaded w (word_seen f h.loads)) (sym a.fields) h.loaded;
  counted = λ number x e o r. subst (λ f. (slot_at t x).cyclic ≡ (slot_at t x).count - sum_at (seen_in f (is_member_of t number) (word_seen f h.loads) (x + 1)) v.words) (sym a.fields) (omega (
    arith,
    counted_less w.fields w.words (word_seen w.fields h.loads) s t b.less number x e o r (h.counted number x (member_before b.less number x e)),
    a.words (seen_in w.fields (is_member_of t number) (word_seen w.fields h.loads) (x + 1)),
  ));
  unput = b.unput;
}
