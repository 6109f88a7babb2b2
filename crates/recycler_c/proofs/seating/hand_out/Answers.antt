-- The contract of `hand_out`: each mutator goes out into the handle with its number, with a pointer to its heap.
use Rattle.std.proofs.Common.{◌≡◌, ◌≢◌, ℕ, ◌+◌, ◌<◌, All, Some, List, [], ◌∷◌, ◌++◌, length, get_or, option_to_list, sym, ap, ◌∙◌, subst, arith, length-append}
use Rattle.std.proofs.Math.Seq.{get_or-append_seam}
use Rattle.std.proofs.lemmas.List.{get_or_append_left}
use mathlib.Core.Logic.{dite}
use native.Mathlib.Decide.{ℕ_discrete}
use Rattle.std.specs.Arc.{arc_value}
use Rattle.rec_table.specs.Views.{MutatorView, IsMutatorOf, Started}
use Rattle.recycler_c.specs.Calls.{IsOut}
use Rattle.recycler_c.specs.Standing.{mutates_in}
use Rattle.recycler_c.specs.declared.handle.Handle.{Handle}
use Rattle.recycler_c.proofs.Standings.{twice_other, twice_same}
use Rattle.recycler_c.proofs.seating.hand_out.Goals as goal
use Rattle.recycler_c.proofs.seating.hand_out.Goals.{After-unwrap-heap}
use Rattle.rec_model.proofs.Members.{All-last, All-earlier}

-- the mutator that leaves is the one whose turn it is
leaves : (c : After-unwrap-heap) → c.loop-mutator.home.items ≡ c.pop.new.self.items ++ c.in-Some.mutator ∷ []
leaves c = c.in-Some.ensures.items

long : (c : After-unwrap-heap) → length c.loop-mutator.home.items ≡ length c.pop.new.self.items + 1
long c = ap length (leaves c) ∙ length-append c.pop.new.self.items (c.in-Some.mutator ∷ [])

own_is : (c : After-unwrap-heap) (e : MutatorView) → c.in-Some.mutator ≡ get_or c.args.home.now.items (length c.pop.new.self.items) e
own_is c e =
    let new : List MutatorView = c.pop.new.self.items in
    sym (get_or-append_seam new c.in-Some.mutator [] e) ∙ ap (λ (l : List MutatorView). get_or l (length new) e) (sym (leaves c)) ∙ c.loop-mutator.invariant.first (length new) e (omega (arith, long c))

-- and so is the pointer
left : (c : After-unwrap-heap) → c.loop-mutator.heaps.items ≡ c.pop-in-Some.new.self.items ++ c.unwrap-heap.result ∷ []
left c = c.pop-in-Some.ensures.items ∙ ap (λ o. c.pop-in-Some.new.self.items ++ option_to_list o) c.unwrap-heap.ensures

heap_is : (c : After-unwrap-heap) (s : Started) → All (λ heap. arc_value heap ≡ s) c.args.heaps.items → arc_value c.unwrap-heap.result ≡ s
heap_is c s all = All-last (λ heap. arc_value heap ≡ s) c.pop-in-Some.new.self.items c.unwrap-heap.result (subst (λ l. All (λ heap. arc_value heap ≡ s) l) (left c) (c.loop-mutator.invariant.heaps s all))

pub invariant_of-fill : goal.invariant_of-fill
invariant_of-fill c =
    let a : After-unwrap-heap = (goal.at.invariant_of-fill c).After-unwrap-heap in
    let s : Started = c.requires.own.0 in
    let m : MutatorView = c.in-Some.mutator in
    let first : IsMutatorOf s (get_or c.args.home.now.items (length c.pop.new.self.items) m) = (c.requires.own.2 (length c.pop.new.self.items) m (omega (arith, long a, c.loop-mutator.invariant.few))).0 in
    let own : IsMutatorOf s m = subst (λ (x : MutatorView). IsMutatorOf s x) (sym (own_is a m)) first in
    record { own = subst (λ (t : Started). IsMutatorOf t m) (sym (heap_is a s c.requires.own.1)) own }

pub loop-mutator-preserved : goal.loop-mutator-preserved
loop-mutator-preserved c =
    let a : After-unwrap-heap = (goal.at.loop-mutator-preserved c).After-unwrap-heap in
    let i = c.loop-mutator.invariant in
    let hs : List Handle = c.loop-mutator.handles in
    let new : List MutatorView = c.pop.new.self.items in
    let n : ℕ = c.len-own.result in
    let g : Handle = c.take-seat.new.self in
    let h : Handle = c.put.new.self in
    let is_n : n ≡ length new = omega (arith, c.len-own.ensures, c.pop.new.self.ok.0) in
    let there : n < length hs = omega (arith, is_n, long a, i.few, c.requires.room) in
    let fewer : length c.loop-mutator.heaps.items ≡ length c.pop-in-Some.new.self.items + 1 = ap length (left a) ∙ length-append c.pop-in-Some.new.self.items (c.unwrap-heap.result ∷ []) in
    record {
      few = omega (arith, long a, i.few);
      capacity = c.pop.ensures.capacity ∙ i.capacity;
      first = λ k e lt. sym (get_or_append_left new (c.in-Some.mutator ∷ []) e k lt) ∙ ap (λ (l : List MutatorView). get_or l k e) (sym (leaves a)) ∙ i.first k e (omega (arith, lt, long a));
      many = omega (arith, long a, fewer, i.many);
      heaps = λ s all. All-earlier (λ heap. arc_value heap ≡ s) c.pop-in-Some.new.self.items c.unwrap-heap.result (subst (λ l. All (λ heap. arc_value heap ≡ s) l) (left a) (i.heaps s all));
      waiting = λ k d lt. twice_other hs n k g h d (λ same. omega (arith, lt, same, is_n)) ∙ i.waiting k d (omega (arith, lt, long a));
      out = λ s all k d e ge lt. dite (ℕ_discrete k n)
          (λ (same : k ≡ n). record {
            mutating = _;
            is = ap mutates_in (twice_same hs n k g h d same there ∙ c.put.ensures ∙ ap Some c.fill.ensures);
            heap = heap_is a s all;
            mutator = own_is a e ∙ ap (λ (j : ℕ). get_or c.args.home.now.items j e) (sym is_n ∙ sym same);
          })
          (λ (ne : k ≢ n). subst (λ x. IsOut s (get_or c.args.home.now.items k e) x) (sym (twice_other hs n k g h d ne)) (i.out s all k d e (omega (arith, ge, ne, long a, is_n)) lt));
      others = λ k d ge. twice_other hs n k g h d (λ same. omega (arith, ge, same, is_n, long a, i.few)) ∙ i.others k d ge;
    }
