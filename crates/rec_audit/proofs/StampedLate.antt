-- What is said of a heap of dated words is said of the heap itself, by the dates that its stamps tell.
use Rattle.std.proofs.Common.{◌≡◌, ℕ, ◌+◌, ◌<◌, ◌≤◌, true, List, Option, Some, sym, subst, ◌∙◌}
use Rattle.rec_core.proofs.Common.{Core, Op, Pending, is_member_of, pending, slot_at, times}
use Rattle.rec_word.specs.declared.op.Op.TheVariants as ops
use Rattle.rec_model.specs.Accounted.{named, named_anywhere}
use Rattle.rec_model.specs.References.{IsInReach, count_formula}
use Rattle.rec_model.specs.Sets.{PassesTests}
use Rattle.rec_collector.specs.Next.{next_of}
use Rattle.rec_collector.specs.Shown.{passed_of}
use Rattle.rec_collector.proofs.Bare as collecting
use Rattle.rec_core.specs.Bare.{bare_core}
use Rattle.rec_audit.specs.ByStamps.{by_stamps}
use Rattle.rec_core.specs.Freed.{AreGone, IsForgotten, IsGone, IsProvenGarbage, Passes, TestsSets}
use Rattle.rec_audit.proofs.ByStamps.{pending_again}
use Rattle.rec_core.proofs.CutOff.{passed_bare, passes_behind}
use Rattle.rec_core.proofs.Dated.{Explains}
use Rattle.rec_core.proofs.Freed.{freed_is_forgotten, given_up_are_gone, passed_are_garbage, shown_is_gone}
use Rattle.rec_core.proofs.Reach.{counted_so}
use Rattle.rec_audit.proofs.StampDates.{AreDatedSo}

-- ---- the same accounts

module _ (v : Core) (same : pending v ≡ pending (by_stamps (bare_core v))) where
  abbrev u : Core
  u = by_stamps (bare_core v)

  gone_too : (slot : ℕ) → IsGone v slot → IsGone u slot
  gone_too slot g = record {
    unreached = subst (λ (q : Pending). (epoch : ℕ) → q.applied ≤ epoch → IsInReach q epoch (slot + 1) → ⊥) same g.unreached;
    unnamed = subst (λ (q : Pending). named q (slot + 1) ≡ 0) same g.unnamed;
  }

  garbage_too : (number : ℕ) → IsProvenGarbage v number → IsProvenGarbage u number
  garbage_too number g = record {
    seen = g.seen;
    passes = subst (λ (q : Pending). PassesTests q (is_member_of v.collector.counts number) g.seen) same g.passes;
    unreached = subst (λ (q : Pending). (node : ℕ) → is_member_of v.collector.counts number node ≡ true → IsInReach q q.applied node → ⊥) same g.unreached;
  }

  all_gone_too : AreGone v → AreGone u
  all_gone_too g = record { released = λ slot below released. gone_too slot (g.released slot below released); members = g.members }

  forgotten_too : (slot : ℕ) → IsForgotten v slot → IsForgotten u slot
  forgotten_too slot f = record {
    unnamed = subst (λ (q : Pending). named_anywhere q (slot + 1) ≡ 0) same f.unnamed;
    roots = f.roots;
    sets = f.sets;
    marked = f.marked;
    work = f.work;
    zeros = f.zeros;
    free = f.free;
  }

-- ---- the heap itself

module _ (v w : Core) (e : Explains v w) (all : AreDatedSo v) where
  pub counted_by_stamps : (slot : ℕ) → slot < w.config.slots → (slot_at w.collector.counts slot).count ≡ count_formula (pending (by_stamps w)) (pending (by_stamps w)).applied (slot + 1)
  counted_by_stamps slot = subst (λ (b : Core). slot < b.config.slots → (slot_at b.collector.counts slot).count ≡ count_formula (pending (by_stamps b)) (pending (by_stamps b)).applied (slot + 1)) e.bare
      (λ there. subst (λ (q : Pending). (slot_at v.collector.counts slot).count ≡ count_formula q q.applied (slot + 1)) (pending_again v all) (counted_so v slot e.kept there))

  pub garbage_by_stamps : (number : ℕ) → TestsSets w.collector.phase → Passes w number → IsProvenGarbage (by_stamps w) number
  garbage_by_stamps number = subst (λ (b : Core). TestsSets b.collector.phase → Passes b number → IsProvenGarbage (by_stamps b) number) e.bare
      (λ tests passes. garbage_too v (pending_again v all) number (passed_are_garbage v number e.kept tests (passes_behind v number passes)))

  pub gone_by_stamps : AreGone (by_stamps w)
  gone_by_stamps = subst (λ (b : Core). AreGone (by_stamps b)) e.bare (all_gone_too v (pending_again v all) (given_up_are_gone v e.kept))

  pub forgotten_by_stamps : (slot : ℕ) → ◌≡◌ {A = Option Op} (next_of w.collector) (Some (ops.FreeHeader slot)) → IsForgotten (by_stamps w) slot
  forgotten_by_stamps slot = subst (λ (b : Core). ◌≡◌ {A = Option Op} (next_of b.collector) (Some (ops.FreeHeader slot)) → IsForgotten (by_stamps b) slot) e.bare
      (λ named. forgotten_too v (pending_again v all) slot (freed_is_forgotten v slot e.kept (sym (collecting.next_bare v.collector) ∙ named)))

  pub shown_by_stamps : (members : List ℕ) (slot : ℕ) → ◌≡◌ {A = Option (List ℕ)} (passed_of w.collector) (Some members) → 0 < times slot members → IsGone (by_stamps w) slot
  shown_by_stamps members slot = subst (λ (b : Core). ◌≡◌ {A = Option (List ℕ)} (passed_of b.collector) (Some members) → 0 < times slot members → IsGone (by_stamps b) slot) e.bare
      (λ passed member. gone_too v (pending_again v all) slot (shown_is_gone v members slot e.kept (sym (passed_bare v.collector v.collector.phase) ∙ passed) member))
