-- What lies in handles, by what they stand for.
use Rattle.std.proofs.Common.{◌≡◌, ℕ, ◌<◌, ◌≤◌, true, false, Option, Some, None, IsSome, is_some, List, length, set, get_or-set_other, get_or-set_same, nat_lt, if◌then◌else◌, refl, sym, ap, ◌∙◌, subst, arith}
use Rattle.std.proofs.lemmas.Bool.Decides.{nat_tests}
use Rattle.std.proofs.lemmas.List.{get_or_default, length-set}
use Rattle.std.specs.Arc.{arc_value}
use Rattle.rec_core.specs.Core.{Core}
use Rattle.rec_table.specs.Views.{MutatorView, Started}
use Rattle.recycler_c.specs.Calls.{IsOut}
use Rattle.recycler_c.specs.Standing.{Out, Tellers, held_at, can_collect, collects_in, mutates_in, rests_in, seat_in}
use Rattle.recycler_c.specs.declared.end.Collecting.{Collecting}
use Rattle.recycler_c.specs.declared.end.End.{End}
use Rattle.recycler_c.specs.declared.end.End.TheVariants as ends
use Rattle.recycler_c.specs.declared.end.Mutating.{Mutating}
use Rattle.recycler_c.specs.declared.handle.Handle.{Handle}

-- an option has a value or none
none_some : {A : Type 0} (x : A) → None ≡ Some x → ⊥
none_some x e = cc

some_same : {A : Type 0} (x y : A) → Some x ≡ Some y → x ≡ y
some_same x y e = cc

-- what a collector's handle holds that isn't at rest runs
pub runs_where_not_rests : (e : End) → can_collect (Some e) ≡ true → ((w : Core) (t : Option Tellers) → e ≡ ends.Resting w t → ⊥) → IsSome (collects_in (Some e))
runs_where_not_rests ends.Vacant can not = absurd (cc)
runs_where_not_rests (ends.Resting w t) can not = absurd (not w t refl)
runs_where_not_rests (ends.Collecting c t) can not = refl
runs_where_not_rests (ends.Mutating m) can not = absurd (cc)
runs_where_not_rests (ends.Listening l) can not = absurd (cc)

-- and what doesn't run rests
pub rests_where_not_runs : (e : End) → can_collect (Some e) ≡ true → ((c : Collecting) (t : Option Tellers) → e ≡ ends.Collecting c t → ⊥) → IsSome (rests_in (Some e))
rests_where_not_runs ends.Vacant can not = absurd (cc)
rests_where_not_runs (ends.Resting w t) can not = refl
rests_where_not_runs (ends.Collecting c t) can not = absurd (not c t refl)
rests_where_not_runs (ends.Mutating m) can not = absurd (cc)
rests_where_not_runs (ends.Listening l) can not = absurd (cc)

-- a seat that stands for nothing is closed
pub seat_closed : (h : Option End) → seat_in h ≡ None → h ≡ None
seat_closed None e = refl
seat_closed (Some ends.Vacant) e = cc
seat_closed (Some (ends.Resting v t)) e = cc
seat_closed (Some (ends.Collecting c t)) e = cc
seat_closed (Some (ends.Mutating m)) e = cc
seat_closed (Some (ends.Listening l)) e = cc

-- and any other is open
pub seat_open : (h : Option End) (o : Option Out) → seat_in h ≡ Some o → IsSome h
seat_open None o e = absurd (cc)
seat_open (Some x) o e = refl

-- the heap and the number in a seat
heap_in : Option (Option Out) → (s : Started) → Started
heap_in (Some (Some o)) s = o.heap
heap_in _ s = s

number_in : Option (Option Out) → ℕ
number_in (Some (Some o)) = o.number
number_in _ = 0

-- what a mutator that is out is
pub record HasOut (h : Option End) (o : Out) : Type 0 where
  pub mutating : Mutating
  pub is : mutates_in h ≡ Some mutating
  pub heap : arc_value mutating.heap ≡ o.heap
  pub number : mutating.mutator.number ≡ o.number

pub seat_out : (h : Option End) (o : Out) → seat_in h ≡ Some (Some o) → HasOut h o
unfolding heap_in number_in
seat_out None o e = absurd (cc)
seat_out (Some ends.Vacant) o e = absurd (cc)
seat_out (Some (ends.Resting v t)) o e = absurd (cc)
seat_out (Some (ends.Collecting c t)) o e = absurd (cc)
seat_out (Some (ends.Listening l)) o e = absurd (cc)
seat_out (Some (ends.Mutating m)) o e = record { mutating = m; is = refl; heap = ap (λ (x : Option (Option Out)). heap_in x o.heap) e; number = ap number_in e }

-- and the seat of such a handle
pub out_seat : (s : Started) (x : MutatorView) (h : Option End) → IsOut s x h → seat_in h ≡ Some (Some (record { heap = s; number = x.number }))
out_seat s x None out = absurd (none_some out.mutating out.is)
out_seat s x (Some ends.Vacant) out = absurd (none_some out.mutating out.is)
out_seat s x (Some (ends.Resting v t)) out = absurd (none_some out.mutating out.is)
out_seat s x (Some (ends.Collecting c t)) out = absurd (none_some out.mutating out.is)
out_seat s x (Some (ends.Listening l)) out = absurd (none_some out.mutating out.is)
out_seat s x (Some (ends.Mutating m)) out =
    let same : m ≡ out.mutating = some_same m out.mutating out.is in
    let heap : arc_value m.heap ≡ s = ap (λ (y : Mutating). arc_value y.heap) same ∙ out.heap in
    let number : m.mutator.number ≡ x.number = ap (λ (y : Mutating). y.mutator.number) same ∙ ap (λ (y : MutatorView). y.number) out.mutator in
    λ i. Some (Some (record { heap = heap i; number = number i }))

-- the choice by a test of numbers
pub below : {A : Type 0} (k n : ℕ) (x y : A) → k < n → (if nat_lt k n then x else y) ≡ x
below k n x y lt = grind (arith, nat_tests)

pub above : {A : Type 0} (k n : ℕ) (x y : A) → n ≤ k → (if nat_lt k n then x else y) ≡ y
above k n x y ge = grind (arith, nat_tests)

-- handles of which one is written
held_other : (hs : List Handle) (i k : ℕ) (h d : Handle) → (k ≡ i → ⊥) → held_at (set hs i h) k d ≡ held_at hs k d
held_other hs i k h d ne = ap (λ (x : Handle). x.owned.held) (get_or-set_other hs i k h d ne)

held_same : (hs : List Handle) (i : ℕ) (h d : Handle) → i < length hs → held_at (set hs i h) i d ≡ h.owned.held
held_same hs i h d lt = ap (λ (x : Handle). x.owned.held) (get_or-set_same hs i h d lt)

-- of which one is written twice
pub twice_other : (hs : List Handle) (i k : ℕ) (g h d : Handle) → (k ≡ i → ⊥) → held_at (set (set hs i g) i h) k d ≡ held_at hs k d
twice_other hs i k g h d ne = held_other (set hs i g) i k h d ne ∙ held_other hs i k g d ne

pub twice_same : (hs : List Handle) (i k : ℕ) (g h d : Handle) → k ≡ i → i < length hs → held_at (set (set hs i g) i h) k d ≡ h.owned.held
twice_same hs i k g h d e lt = ap (λ (j : ℕ). held_at (set (set hs i g) i h) j d) e ∙ held_same (set hs i g) i h d (subst (λ (n : ℕ). i < n) (sym (length-set hs i g)) lt)

-- what is read at one place, by two names of it
pub read_at : (hs : List Handle) (k i : ℕ) (h d : Handle) → k ≡ i → i < length hs → held_at hs k d ≡ held_at hs i h
read_at hs k i h d e lt = ap (λ (j : ℕ). held_at hs j d) e ∙ ap (λ (x : Handle). x.owned.held) (get_or_default hs i d h lt)

-- a handle that holds nothing isn't full
pub not_full_of : (h : Handle) → h.owned.held ≡ None → h.full ≡ false
not_full_of h e = h.holds ∙ ap is_some e

closed_from : (o : Option End) → is_some o ≡ false → o ≡ None
closed_from None e = refl
closed_from (Some x) e = absurd (cc)

pub closed_of : (h : Handle) → h.full ≡ false → h.owned.held ≡ None
closed_of h e = closed_from h.owned.held (sym h.holds ∙ e)

pub open_of : (h : Handle) → h.full ≡ true → IsSome h.owned.held
open_of h e = sym h.holds ∙ e
