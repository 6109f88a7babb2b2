-- The freeing of a set takes in words, one after another: what follows them may be followed.
use Rattle.std.proofs.Common.{ℕ, ◌<◌, Some, IsSome, sym, subst, arith}
use Rattle.rec_release.specs.CycleFree as frees
use Rattle.rec_release.specs.Ran.{RanFreeing}
use Rattle.rec_collector.proofs.Common.{Begun, Freeing, IsClear, IsKept, Parts, relieved}
use Rattle.rec_collector.proofs.Answering.{freed_clear, more_freed}
use Rattle.rec_collector.proofs.Counting.{Counted}
use Rattle.rec_collector.proofs.Freeing.{freed_clears}
use Rattle.rec_collector.proofs.Goings.{with_counts}

-- what was begun is clear, and its counts are kept
abbrev Holds : Begun → Type 0
Holds b = IsClear b × IsKept b.parts.counts

abbrev at_work : Parts → frees.Work → Begun
at_work w v = record { parts = with_counts w v.counts; phase = Some (Freeing v.machine) }

-- one word more
holds_on : (w : Parts) (v : frees.Work) (word : ℕ) → 0 < w.fields → Counted v.counts word → Holds (at_work w v) → Holds (relieved w (frees.took_of v word))
holds_on w v word wide counted h = (
  freed_clear v.machine (with_counts w v.counts) word counted h.1 wide h.0,
  (freed_clears v.machine (with_counts w v.counts) word h.0.exchanged counted (record { wide = wide; counts = h.1; clearing = h.0.clearing; exchanges = h.0.exchanges })).counts,
)

module _ (w : Parts) (m : frees.Machine) (wide : 0 < w.fields) (k : IsKept w.counts) (c : IsClear (record { parts = w; phase = Some (Freeing m) })) where
  holds_midway : (n : ℕ) (v : frees.Work) → RanFreeing (record { machine = m; counts = w.counts }) n v → IsSome (frees.next_of v.machine) → Holds (at_work w v)
  holds_midway n v RanFreeing.none b = (c, k)
  holds_midway n v (RanFreeing.more i u word r busy l) b = subst Holds (sym (more_freed w v b)) (holds_on w u word wide l (holds_midway i u r busy))

  pub ran_clear : (n : ℕ) (v : frees.Work) → RanFreeing (record { machine = m; counts = w.counts }) n v → 0 < n → Holds (relieved w v)
  ran_clear n v RanFreeing.none some = absurd (omega (arith, some))
  ran_clear n v (RanFreeing.more i u word r busy l) some = holds_on w u word wide l (holds_midway i u r busy)
