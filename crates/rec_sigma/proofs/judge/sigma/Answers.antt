-- The contract of `sigma`: whether the cyclic counts of the members of set `set` sum to zero: no reference was left to a member, but those seen in fields of members.
use Rattle.std.proofs.Common.{◌≡◌, ℕ, zero, suc, ◌<◌, List, [], ◌∷◌, length, get_or, arith, sym, ap, ◌∙◌, inl, inr}
use Rattle.std.specs.List.{sum_by}
use Rattle.std.proofs.lemmas.List.Sums.{sum_by-cons, sum_by_more}
use Rattle.std.proofs.lemmas.Bool.{cases_lt, false≢true}
use Rattle.rec_counts.specs.Counts.{State, slot_at}
use Rattle.rec_counts.proofs.Keeping.{member_in_range}
use Rattle.rec_sigma.specs.Prepare.{members_of}
use Rattle.rec_sigma.proofs.judge.sigma.Goals as goal

-- where the sum is zero, each part is
part_of_none : (f : ℕ → ℕ) (xs : List ℕ) (i : ℕ) → i < length xs → sum_by f xs ≡ 0 → f (get_or xs i 0) ≡ 0
part_of_none f [] i l e = absurd (omega arith)
part_of_none f (x ∷ xs) zero l e = omega (arith, e, sum_by-cons f x xs)
part_of_none f (x ∷ xs) (suc i) l e = part_of_none f xs i (omega arith) (omega (arith, e, sum_by-cons f x xs))

pub is_counted-requires : goal.is_counted-requires
is_counted-requires c = rw c.set-slot-items.ensures (member_in_range c.args.counts.now c.args.set c.loop-slot.slot-index c.rules.ensures (omega (arith, ap length c.set-slot-items.ensures)))

pub returns-then-is_counted : goal.returns-then-is_counted
returns-then-is_counted c =
    let s : State = c.args.counts.now in
    let i : ℕ = c.loop-slot.slot-index in
    let l : i < length (members_of s c.args.set) = omega (arith, ap length c.set-slot-items.ensures) in
    let e : get_or c.set-slot-items.result.now i 0 ≡ get_or (members_of s c.args.set) i 0 = ap (λ xs. get_or xs i 0) c.set-slot-items.ensures in
    (λ n. absurd (false≢true n), λ o. absurd (omega (arith, c.is_counted.ensures.0 c.if-is_counted.true, ap (λ x. (slot_at s x).cyclic) e, part_of_none (λ x. (slot_at s x).cyclic) (members_of s c.args.set) i l o)))

pub loop-slot-preserved : goal.loop-slot-preserved
loop-slot-preserved c =
    let x : ℕ = get_or c.set-slot-items.result.now c.loop-slot.slot-index 0 in
    let n : (slot_at c.args.counts.now x).cyclic ≡ 0 = elim (cases_lt 0 (slot_at c.args.counts.now x).cyclic) [
      | inl l ↦ absurd (false≢true (sym c.if-is_counted.false ∙ c.is_counted.ensures.1 l))
      | inr l ↦ omega (arith, l)
    ] in
    omega (arith, sum_by_more (λ y. (slot_at c.args.counts.now y).cyclic) c.set-slot-items.result.now c.loop-slot.slot-index 0 c.loop-slot-test.true, c.loop-slot.invariant, n)
