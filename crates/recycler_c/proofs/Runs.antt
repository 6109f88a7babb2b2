-- A heap that is set running, and its ends as they come back.
use Rattle.std.proofs.Common.{◌≡◌, ℕ, ◌+◌, ◌%◌, ◌<◌, All, IsSome, None, Some, is_some, List, [], ◌∷◌, length, map, slice_index_or, refl, sym, ap, ◌∙◌, subst, arith}
use Rattle.std.specs.Arc.{arc_value}
use Rattle.rec_model.specs.declared.limits.TheConstants.{MOST_MUTATORS}
use Rattle.rec_core.specs.Core.{Core}
use Rattle.rec_table.specs.Ends.{IsStopped}
use Rattle.rec_table.specs.Views.{AreMutatorsOf, CollectorView, MutatorView, IsMutatorOf, Started, fresh, fresh_collector}
use Rattle.rec_table.specs.declared.views.Beat.{Beat}
use Rattle.rec_world.specs.World.{IsWorld}
use Rattle.recycler_c.specs.First.{AreFirst}
use Rattle.recycler_c.specs.Calls.{AreGathered, IsFresh}
use Rattle.recycler_c.specs.Standing.{AreTied, held_at, mutates_in}
use Rattle.recycler_c.specs.declared.end.Collecting.{Collecting}
use Rattle.recycler_c.specs.declared.end.End.TheVariants as ends
use Rattle.recycler_c.specs.declared.end.Mutating.{Mutating}
use Rattle.recycler_c.specs.declared.handle.Handle.{Handle}
use Rattle.recycler_c.proofs.Standings.{HasOut, seat_out}
use Rattle.recycler_c.proofs.Still.{no_logs, still}
use Rattle.recycler_c.proofs.Ties.{runs_out}

pub all_of : (s t : Started) (ms : List MutatorView) → t ≡ s → length ms ≡ s.world.config.mutators → AreFirst s ms → AreMutatorsOf t ms
all_of s t ms e many first = subst (λ (x : Started). AreMutatorsOf x ms) (sym e) (record { all = many; each = first })

-- a heap whose actors made no move is stopped as the world that was started
pub fresh_rests : (s : Started) (g : CollectorView) (ms : List MutatorView) (w : Core) → IsWorld s.world → All (λ word. word % 2 ≡ 0) s.world.crossing
    → g ≡ fresh_collector s → ((k : ℕ) (e : MutatorView) → k < length ms → slice_index_or ms k e ≡ fresh s (k + 1))
    → IsStopped s.world g.collecting.log (map (λ m. m.log) ms) w → w ≡ s.world
fresh_rests s g ms w is even e each stopped =
    still s.world (map (λ m. m.log) ms) w is even (no_logs ms (λ k d lt. ap (λ (m : MutatorView). m.log) (each k d lt)))
    (subst (λ (l : List Beat). IsStopped s.world l (map (λ m. m.log) ms) w) (ap (λ (x : CollectorView). x.collecting.log) e) stopped)

-- what is fresh stays so with the same heap, collector and mutators
pub fresh_moved : (c d : Collecting) (w : Core) → arc_value d.heap ≡ arc_value c.heap → d.collector ≡ c.collector → d.home.items ≡ c.home.items → IsFresh w c → IsFresh w d
fresh_moved c d w heap collector home f = record {
  started = ap (λ (s : Started). s.world) heap ∙ f.started;
  collector = collector ∙ f.collector ∙ ap fresh_collector (sym heap);
  all = ap length home ∙ f.all;
  home = λ k e lt. ap (λ (l : List MutatorView). slice_index_or l k e) home ∙ f.home k e lt ∙ ap (λ (s : Started). fresh s (k + 1)) (sym heap);
}

-- the mutators that come home, where they are home already
pub gathered_home : (c : Collecting) (hs : List Handle) → 0 < length c.home.items → AreGathered c hs c.home.items
gathered_home c hs some = record { all = c.whole some; home = λ s. refl; out = λ none. absurd (omega (arith, some, none)) }

-- a running heap none of whose mutators is home, and the mutators that were taken from its handles
pub record AreTaken (c : Collecting) (hs : List Handle) (ms : List MutatorView) : Type 0 where
  pub none : length c.home.items ≡ 0
  pub tied : AreTied (Some (ends.Collecting c None)) hs
  pub many : length hs ≡ MOST_MUTATORS
  pub all : length ms ≡ c.count
  pub each : (k : ℕ) (d : Handle) (e : MutatorView) (m : Mutating) → k < c.count → mutates_in (held_at hs k d) ≡ Some m → slice_index_or ms k e ≡ m.mutator

out_at : (c : Collecting) (hs : List Handle) → length c.home.items ≡ 0 → AreTied (Some (ends.Collecting c None)) hs → length hs ≡ MOST_MUTATORS → (k : ℕ) (d : Handle) → k < c.count →
    HasOut (held_at hs k d) (record { heap = arc_value c.heap; number = k + 1 })
out_at c hs none tied many k d lt =
    seat_out (held_at hs k d) (record { heap = arc_value c.heap; number = k + 1 }) (runs_out (Some (ends.Collecting c None)) c hs tied refl none k d (omega (arith, lt, many, c.few.1)) lt)

pub out_some : (c : Collecting) (hs : List Handle) → length c.home.items ≡ 0 → AreTied (Some (ends.Collecting c None)) hs → length hs ≡ MOST_MUTATORS → (k : ℕ) (d : Handle) → k < c.count →
    IsSome (mutates_in (held_at hs k d))
out_some c hs none tied many k d lt = let o = out_at c hs none tied many k d lt in ap is_some o.is

pub gathered_out : (c : Collecting) (hs : List Handle) (ms : List MutatorView) → AreTaken c hs ms → AreGathered c hs ms
gathered_out c hs ms t = record {
  all = t.all;
  home = λ some. absurd (omega (arith, some, t.none));
  out = λ none k d e lt. let o = out_at c hs none t.tied t.many k d lt in record { mutating = o.mutating; is = o.is; heap = o.heap; mutator = sym (t.each k d e o.mutating lt o.is) };
}

some_handle : (hs : List Handle) → length hs ≡ MOST_MUTATORS → Handle
some_handle [] e = absurd (omega (arith, e))
some_handle (h ∷ hs) e = h

-- they are the first mutators of the heap
pub first_out : (c : Collecting) (hs : List Handle) (ms : List MutatorView) → AreTaken c hs ms → AreFirst (arc_value c.heap) ms
first_out c hs ms t k d lt =
    let h : Handle = some_handle hs t.many in
    let under : k < c.count = omega (arith, lt, t.all) in
    let o = out_at c hs t.none t.tied t.many k h under in
    let is : slice_index_or ms k d ≡ o.mutating.mutator = t.each k h d o.mutating under o.is in
    let own : IsMutatorOf (arc_value c.heap) o.mutating.mutator = subst (λ (s : Started). IsMutatorOf s o.mutating.mutator) o.heap o.mutating.own in
    (subst (λ (x : MutatorView). IsMutatorOf (arc_value c.heap) x) (sym is) own, ap (λ (x : MutatorView). x.number) is ∙ o.number)

-- what stops is said of the heap and the collector that were there before
pub stopped_of : (s t : Started) (g f : CollectorView) (ms : List MutatorView) (w : Core) → t ≡ s → f ≡ g →
    IsStopped t.world f.collecting.log (map (λ m. m.log) ms) w → IsStopped s.world g.collecting.log (map (λ m. m.log) ms) w
stopped_of s t g f ms w heap collector stopped =
    subst (λ (x : Started). IsStopped x.world g.collecting.log (map (λ m. m.log) ms) w) heap (subst (λ (x : CollectorView). IsStopped t.world x.collecting.log (map (λ m. m.log) ms) w) collector stopped)

-- two collectors of one heap count its mutators alike
pub same_count : (c d : Collecting) → arc_value d.heap ≡ arc_value c.heap → d.count ≡ c.count
same_count c d e = d.counted ∙ ap (λ (s : Started). s.world.config.mutators) e ∙ sym c.counted
