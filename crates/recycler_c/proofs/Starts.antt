-- What a heap that was to be set running came to.
use Rattle.std.proofs.Common.{◌≡◌, ℕ, Option, Some, None, true, List, refl, sym, ap, ◌∙◌, subst, arith}
use Rattle.rec_core.specs.Core.{Core}
use Rattle.rec_table.specs.Views.{MutatorView, Started, fresh}
use Rattle.recycler_c.specs.Calls.{IsFresh, IsOut, NotRun, Starts}
use Rattle.recycler_c.specs.Standing.{AreTied, Tellers, can_collect, collects_in, telling, tells_in}
use Rattle.recycler_c.specs.declared.code.Code.{Code}
use Rattle.recycler_c.specs.declared.code.Code.TheVariants as codes
use Rattle.recycler_c.specs.declared.end.Collecting.{Collecting}
use Rattle.recycler_c.specs.declared.end.End.{End}
use Rattle.recycler_c.specs.declared.end.End.TheVariants as ends
use Rattle.recycler_c.specs.declared.handle.Handle.{Handle}
use Rattle.recycler_c.proofs.Ties.{rests_high, rests_low, tied_home}

-- a mutator that is out is fresh, by whatever name its heap has
pub out_moved : (s t : Started) (x : MutatorView) (n : ℕ) (h : Option End) → x ≡ fresh s n → t ≡ s → IsOut s x h → IsOut t (fresh t n) h
out_moved s t x n h is e out = record { mutating = out.mutating; is = out.is; heap = out.heap ∙ sym e; mutator = out.mutator ∙ is ∙ ap (λ (z : Started). fresh z n) (sym e) }

-- the heap that is left running has all its mutators home
home_ties : (w : Core) (hs : List Handle) (end : End) (c : Collecting) → AreTied (Some (ends.Resting w None)) hs → end ≡ ends.Collecting c None → IsFresh w c → AreTied (Some end) hs
home_ties w hs end c tied e f =
    let many : c.count ≡ w.config.mutators = c.counted ∙ ap (λ (v : Core). v.config.mutators) f.started in
    tied_home (Some end) c hs (ap Some e) (omega (arith, f.all, many, c.few.0))
    (λ k d lt under. rests_low (Some (ends.Resting w None)) w hs tied refl k d lt (omega (arith, under, many)))
    (λ k d lt over. rests_high (Some (ends.Resting w None)) w hs tied refl k d lt (omega (arith, over, many)))

pub refused_starts : (w : Core) (t : Option Tellers) (hs : List Handle) (code : Code) (end : End) → NotRun w code end → Starts (Some (ends.Resting w t)) hs code (Some (telling end t)) hs
refused_starts w t hs codes.NoMemory end n = (refl, record { collector = ap (λ (x : End). Some (telling x t)) n; mutators = refl })
refused_starts w t hs codes.Shared end n = record {
  world = w;
  was = refl;
  collecting = n.0;
  is = ap (λ (x : End). collects_in (Some (telling x t))) n.1;
  fresh = n.2;
  mutators = refl;
  teller = ap (λ (x : End). tells_in (Some (telling x t))) n.1;
}
refused_starts w t hs _ end n = absurd n

pub refused_collects : (w : Core) (t : Option Tellers) (code : Code) (end : End) → NotRun w code end → can_collect (Some (telling end t)) ≡ true
refused_collects w t codes.NoMemory end n = ap (λ (x : End). can_collect (Some (telling x t))) n
refused_collects w t codes.Shared end n = ap (λ (x : End). can_collect (Some (telling x t))) n.1
refused_collects w t _ end n = absurd n

pub refused_ties : (w : Core) (t : Option Tellers) (hs : List Handle) (code : Code) (end : End) → AreTied (Some (ends.Resting w None)) hs → NotRun w code end → AreTied (Some (telling end t)) hs
refused_ties w t hs codes.NoMemory end tied n = subst (λ (x : End). AreTied (Some (telling x t)) hs) (sym n) tied
refused_ties w t hs codes.Shared end tied n = subst (λ (x : End). AreTied (Some (telling x t)) hs) (sym n.1) (home_ties w hs (ends.Collecting n.0 None) n.0 tied refl n.2)
refused_ties w t hs _ end tied n = absurd n
