-- The mutators' handles stand for what they have to, after each call.
use Rattle.std.proofs.Common.{◌≡◌, ℕ, ◌+◌, ◌<◌, ◌≤◌, Bool, true, false, Option, Some, None, List, length, nat_lt, if◌then◌else◌, refl, sym, ap, ◌∙◌, arith}
use Rattle.std.proofs.lemmas.Bool.{ltb-true, ltb-false}
use Rattle.std.specs.Arc.{arc_value}
use Rattle.rec_core.specs.Core.{Core}
use Rattle.rec_core.proofs.Runs.{config_after}
use Rattle.rec_table.specs.Ends.{IsStopped}
use Rattle.rec_table.specs.declared.views.Beat.{Beat}
use Rattle.recycler_c.specs.Standing.{AreTied, held_at, out_beside, seat_beside, seat_in}
use Rattle.recycler_c.specs.declared.end.Collecting.{Collecting}
use Rattle.recycler_c.specs.declared.end.End.{End}
use Rattle.recycler_c.specs.declared.end.End.TheVariants as ends
use Rattle.recycler_c.specs.declared.handle.Handle.{Handle}
use Rattle.recycler_c.proofs.Standings.{above, below}

by_test_at : {P : Type 0} (k n : ℕ) (b : Bool) → nat_lt k n ≡ b → (k < n → P) → (n ≤ k → P) → P
by_test_at k n true e f g = f (ltb-true k n e)
by_test_at k n false e f g = g (ltb-false k n e)

by_test : {P : Type 0} (k n : ℕ) → (k < n → P) → (n ≤ k → P) → P
by_test k n f g = by_test_at k n (nat_lt k n) refl f g

-- where no heap is open
pub tied_closed : (c : Option End) (hs : List Handle) → c ≡ None → ((k : ℕ) (d : Handle) → k < length hs → held_at hs k d ≡ None) → AreTied c hs
tied_closed c hs e closed k d lt = ap seat_in (closed k d lt) ∙ ap (λ (x : Option End). seat_beside x k) (sym e)

vacant_seat : (b : Bool) → seat_in (if b then Some ends.Vacant else None) ≡ (if b then Some None else None)
vacant_seat true = refl
vacant_seat false = refl

-- a heap at rest, whose first handles are vacant
pub tied_vacant : (c : Option End) (w : Core) (n : ℕ) (hs : List Handle) → c ≡ Some (ends.Resting w None) → n ≡ w.config.mutators
    → ((k : ℕ) (d : Handle) → k < length hs → held_at hs k d ≡ (if nat_lt k n then Some ends.Vacant else None)) → AreTied c hs
tied_vacant c w n hs e same vacant k d lt =
    ap seat_in (vacant k d lt) ∙ vacant_seat (nat_lt k n) ∙ ap (λ (x : ℕ). if nat_lt k x then Some None else None) same ∙ ap (λ (x : Option End). seat_beside x k) (sym e)

-- a heap at rest, whose first handles hold no mutator
pub tied_rests : (c : Option End) (w : Core) (n : ℕ) (hs : List Handle) → c ≡ Some (ends.Resting w None) → n ≡ w.config.mutators
    → ((k : ℕ) (d : Handle) → k < length hs → k < n → seat_in (held_at hs k d) ≡ Some None)
    → ((k : ℕ) (d : Handle) → k < length hs → n ≤ k → seat_in (held_at hs k d) ≡ None) → AreTied c hs
tied_rests c w n hs e same low high k d lt =
    by_test k n
    (λ under. low k d lt under ∙ sym (below k n (Some None) None under)) (λ over. high k d lt over ∙ sym (above k n (Some None) None over))
    ∙ ap (λ (x : ℕ). if nat_lt k x then Some None else None) same ∙ ap (λ (x : Option End). seat_beside x k) (sym e)

-- what a mutator of a running heap is, by whether any is home
out_none : (c : Collecting) (k : ℕ) → length c.home.items ≡ 0 → out_beside c k ≡ Some (record { heap = arc_value c.heap; number = k + 1 })
out_none c k e = above 0 (length c.home.items) None (Some (record { heap = arc_value c.heap; number = k + 1 })) (omega (arith, e))

home_all : (c : Collecting) (k : ℕ) → 0 < length c.home.items → out_beside c k ≡ None
home_all c k lt = below 0 (length c.home.items) None (Some (record { heap = arc_value c.heap; number = k + 1 })) lt

-- a running heap, whose first handles hold its mutators
pub tied_out : (c : Option End) (w : Collecting) (hs : List Handle) → c ≡ Some (ends.Collecting w None) → length w.home.items ≡ 0
    → ((k : ℕ) (d : Handle) → k < length hs → k < w.count → seat_in (held_at hs k d) ≡ Some (Some (record { heap = arc_value w.heap; number = k + 1 })))
    → ((k : ℕ) (d : Handle) → k < length hs →
    w.count ≤ k → seat_in (held_at hs k d) ≡ None) → AreTied c hs
tied_out c w hs e none low high k d lt =
    by_test k w.count
    (λ under. low k d lt under ∙ ap Some (sym (out_none w k none)) ∙ sym (below k w.count (Some (out_beside w k)) None under))
    (λ over. high k d lt over ∙ sym (above k w.count (Some (out_beside w k)) None over))
    ∙ ap (λ (x : Option End). seat_beside x k) (sym e)

-- or whose mutators are all home
pub tied_home : (c : Option End) (w : Collecting) (hs : List Handle) → c ≡ Some (ends.Collecting w None) → 0 < length w.home.items
    → ((k : ℕ) (d : Handle) → k < length hs → k < w.count → seat_in (held_at hs k d) ≡ Some None)
    → ((k : ℕ) (d : Handle) → k < length hs →
    w.count ≤ k → seat_in (held_at hs k d) ≡ None) → AreTied c hs
tied_home c w hs e some low high k d lt =
    by_test k w.count
    (λ under. low k d lt under ∙ ap Some (sym (home_all w k some)) ∙ sym (below k w.count (Some (out_beside w k)) None under))
    (λ over. high k d lt over ∙ sym (above k w.count (Some (out_beside w k)) None over))
    ∙ ap (λ (x : Option End). seat_beside x k) (sym e)

-- what a handle stands for beside a heap at rest, and beside a running one
pub rests_low : (c : Option End) (w : Core) (hs : List Handle) → AreTied c hs → c ≡ Some (ends.Resting w None) → (k : ℕ) (d : Handle) → k < length hs →
    k < w.config.mutators → seat_in (held_at hs k d) ≡ Some None
rests_low c w hs tied e k d lt under = tied k d lt ∙ ap (λ (x : Option End). seat_beside x k) e ∙ below k w.config.mutators (Some None) None under

pub rests_high : (c : Option End) (w : Core) (hs : List Handle) → AreTied c hs → c ≡ Some (ends.Resting w None) → (k : ℕ) (d : Handle) → k < length hs →
    w.config.mutators ≤ k → seat_in (held_at hs k d) ≡ None
rests_high c w hs tied e k d lt over = tied k d lt ∙ ap (λ (x : Option End). seat_beside x k) e ∙ above k w.config.mutators (Some None) None over

pub runs_out : (c : Option End) (w : Collecting) (hs : List Handle) → AreTied c hs → c ≡ Some (ends.Collecting w None) → length w.home.items ≡ 0
    → (k : ℕ) (d : Handle) → k < length hs → k < w.count → seat_in (held_at hs k d) ≡ Some (Some (record { heap = arc_value w.heap; number = k + 1 }))
runs_out c w hs tied e none k d lt under = tied k d lt ∙ ap (λ (x : Option End). seat_beside x k) e ∙ below k w.count (Some (out_beside w k)) None under ∙ ap Some (out_none w k none)

pub runs_home : (c : Option End) (w : Collecting) (hs : List Handle) → AreTied c hs → c ≡ Some (ends.Collecting w None) → 0 < length w.home.items
    → (k : ℕ) (d : Handle) → k < length hs → k < w.count → seat_in (held_at hs k d) ≡ Some None
runs_home c w hs tied e some k d lt under = tied k d lt ∙ ap (λ (x : Option End). seat_beside x k) e ∙ below k w.count (Some (out_beside w k)) None under ∙ ap Some (home_all w k some)

pub runs_high : (c : Option End) (w : Collecting) (hs : List Handle) → AreTied c hs → c ≡ Some (ends.Collecting w None) → (k : ℕ) (d : Handle) → k < length hs →
    w.count ≤ k → seat_in (held_at hs k d) ≡ None
runs_high c w hs tied e k d lt over = tied k d lt ∙ ap (λ (x : Option End). seat_beside x k) e ∙ above k w.count (Some (out_beside w k)) None over

-- Stopping keeps the numbers of a heap.
pub stopped_config : (key : Core) (log : List Beat) (lists : List (List Beat)) (w : Core) → IsStopped key log lists w → w.config ≡ key.config
stopped_config key log lists w s = ap (λ (x : Core). x.config) (sym s.run.ends) ∙ config_after key s.run.run
