-- What the two tests of a set say, and what says it. Where nothing is at work the last set can be refurbished, and where it passed its
-- tests it can be freed; it was tested as the function of the parts says, however that is told.
use Rattle.std.proofs.Common.{◌≡◌, ℕ, ◌+◌, ◌<◌, Bool, true, false, not, cond, eqb, List, [], ◌∷◌, count_by, arith, refl, sym, ◌∙◌, subst, ap, inl, inr, ◌-◌, length}
use Rattle.std.proofs.lemmas.List.Sums.{sum_by-cons}
use Rattle.std.proofs.lemmas.Bool.{cases_lt, eqb-true, eq-eqb, ne_eqb, false≢true}
use Rattle.std.proofs.lemmas.Bool.Decides.{eqb_tells}
use Rattle.std.proofs.lemmas.List.{same_lists, get_or_default}
use Rattle.rec_collector.proofs.Common.{Orange, State, slot_at, IsKept, one, times, one-none, one-same, times-cons, times-nil, times_part, absent, Slot, IsFreeable, IsRefusable, LastRefurbished, Begun, touched, verdict_if, verdict_of, counted_by, last_tested, tested_as, zeros_released, Passed, Touched, Held, IsCleared, Parts}
use Rattle.rec_counts.specs.declared.colour.Colour.{Colour}
use Rattle.rec_counts.specs.Colour.{is_orange}
use Rattle.rec_counts.specs.Groups.{last_set}
use Rattle.rec_sigma.specs.Judged.{AreOrange, cyclic_sum}
use Rattle.rec_sigma.specs.Prepare.{members_of}
use Rattle.rec_sigma.specs.Settling.{refurbished_of}
use Rattle.rec_sigma.proofs.Renewals.{refurbished_last}
use Rattle.rec_collector.specs.declared.verdict.Verdict.{Verdict}
use Rattle.rec_collector.specs.Step.{IsTested}

-- where none of a list passes, it has none that does, and the other way round
none_passes : (p : ℕ → Bool) (xs : List ℕ) → count_by p xs ≡ 0 → (x : ℕ) → 0 < times x xs → p x ≡ false
none_passes p [] e x h = absurd (omega (arith, h, times-nil x))
none_passes p (y ∷ ys) e x h =
    let sum : one (p y) + count_by p ys ≡ 0 = sym (sum_by-cons (λ z. cond (p z) 1 0) y ys) ∙ e in
    elim (eqb_tells x y) [
      | inl q ↦ ap p q.1 ∙ one-none (p y) (omega (arith, sum))
      | inr q ↦ let o : one (eqb x y) ≡ 0 = ap one q.0 in none_passes p ys (omega (arith, sum)) x (omega (arith, h, o, times-cons x y ys))
    ]

all_fail : (p : ℕ → Bool) (xs : List ℕ) → ((x : ℕ) → 0 < times x xs → p x ≡ false) → count_by p xs ≡ 0
all_fail p [] h = refl
all_fail p (y ∷ ys) h =
    let one_more : count_by p (y ∷ ys) ≡ one (p y) + count_by p ys = sum_by-cons (λ z. cond (p z) 1 0) y ys in
    let none : one (p y) ≡ 0 = ap one (h y (omega (arith, times-cons y y ys, one-same y))) in
    omega (arith, one_more, none, all_fail p ys (λ x t. h x (omega (arith, t, times-cons x y ys))))

orange_from : (c : Colour) → not (is_orange c) ≡ false → c ≡ Orange
orange_from Orange e = refl
orange_from _ e = absurd (false≢true (sym e))

-- no member is touched exactly where all are Orange
untouched : (s : State) (number : ℕ) → touched s number ≡ 0 → AreOrange s number
untouched s number e x h = orange_from (slot_at s x).colour (none_passes (λ y. not (is_orange (slot_at s y).colour)) (members_of s number) e x h)

orange_untouched : (s : State) (number : ℕ) → AreOrange s number → touched s number ≡ 0
orange_untouched s number o = all_fail (λ y. not (is_orange (slot_at s y).colour)) (members_of s number) (λ x h. ap (λ c. not (is_orange c)) (o x h))

-- what a verdict says
abbrev pub Says : State → (number : ℕ) → Verdict → Type 0
Says s number Passed = AreOrange s number × (cyclic_sum s number ≡ 0)
Says s number Touched = AreOrange s number → ⊥
Says s number Held = AreOrange s number × (0 < cyclic_sum s number)

pub verdict_says : (s : State) (number : ℕ) → Says s number (verdict_of s number)
verdict_says s number = go (eqb (touched s number) 0) (eqb (cyclic_sum s number) 0) refl refl
  where
    go : (u h : Bool) → eqb (touched s number) 0 ≡ u → eqb (cyclic_sum s number) 0 ≡ h → Says s number (verdict_if u h)
    go false h e f = λ o. false≢true (sym e ∙ eq-eqb (touched s number) 0 (orange_untouched s number o))
    go true true e f = (untouched s number (eqb-true (touched s number) 0 e), eqb-true (cyclic_sum s number) 0 f)
    go true false e f = (
      untouched s number (eqb-true (touched s number) 0 e),
      elim (cases_lt 0 (cyclic_sum s number)) [ inl l ↦ l | inr l ↦ absurd (false≢true (sym f ∙ eq-eqb (cyclic_sum s number) 0 (omega (arith, l)))) ],
    )

pub verdict_passed : (s : State) (number : ℕ) → verdict_of s number ≡ Passed → AreOrange s number × (cyclic_sum s number ≡ 0)
verdict_passed s number e = subst (Says s number) e (verdict_says s number)

-- and what says it
pub passed_verdict : (s : State) (number : ℕ) → AreOrange s number → cyclic_sum s number ≡ 0 → verdict_of s number ≡ Passed
passed_verdict s number o e = ap (λ b. verdict_if b (eqb (cyclic_sum s number) 0)) (eq-eqb (touched s number) 0 (orange_untouched s number o)) ∙ ap (verdict_if true) (eq-eqb (cyclic_sum s number) 0 e)

pub touched_verdict : (s : State) (number : ℕ) → (AreOrange s number → ⊥) → verdict_of s number ≡ Touched
touched_verdict s number n = ap (λ b. verdict_if b (eqb (cyclic_sum s number) 0)) (ne_eqb (touched s number) 0 (λ e. n (untouched s number e)))

pub held_verdict : (s : State) (number : ℕ) → AreOrange s number → 0 < cyclic_sum s number → verdict_of s number ≡ Held
held_verdict s number o h =
    ap (λ b. verdict_if b (eqb (cyclic_sum s number) 0)) (eq-eqb (touched s number) 0 (orange_untouched s number o))
    ∙ ap (verdict_if true) (ne_eqb (cyclic_sum s number) 0 (λ e. absurd (omega (arith, h, e))))

-- what is released and in the free list is no member
member_unlisted : (w : Parts) (x : ℕ) → IsKept w.counts → IsCleared w → 0 < times x (last_set w.counts.sets) → times x w.counts.free ≡ 0
member_unlisted w x k c h = elim (cases_lt 0 (times x w.counts.free)) [
  | inl l ↦ absurd (omega (arith, h, k.buffers x, ap one (c.unbuffered x l), times_part x w.counts.sets (length w.counts.sets - 1)))
  | inr l ↦ omega (arith, l)
]

pub last_refusable : (w : Parts) → 0 < length w.counts.sets → IsKept w.counts → IsCleared w → IsRefusable w.counts
last_refusable w some k c = record {
  some = some;
  work = c.work;
  free = λ x h r. member_unlisted w x k c h;
  zeros = λ x h r n. ap (times x) c.zeros ∙ times-nil x;
}

pub last_freeable : (w : Parts) → 0 < length w.counts.sets → verdict_of w.counts (length w.counts.sets - 1) ≡ Passed → IsKept w.counts → IsCleared w → IsFreeable w.counts
last_freeable w some passed k c =
    let orange = (verdict_passed w.counts (length w.counts.sets - 1) passed).0 in
    record {
      some = some;
      work = c.work;
      orange = orange;
      unreleased = λ x h. (c.apart x (orange x h)).unreleased;
      unlisted = λ x h. member_unlisted w x k c h;
      counted = λ x h. (c.apart x (orange x h)).no_zero;
      ready = c.ready;
    }

-- states with the same parts are the same
same_state : {v v' : List Slot} {r r' m m' w w' z z' f f' : List ℕ} {x x' : List (List ℕ)} → v ≡ v' → r ≡ r' → x ≡ x' → m ≡ m' → w ≡ w' → z ≡ z' → f ≡ f'
    → ◌≡◌ {A = State} (record { slots = v; roots = r; sets = x; marked = m; work = w; zeros = z; free = f }) (record { slots = v'; roots = r'; sets = x'; marked = m'; work = w'; zeros = z'; free = f' })
same_state slots roots sets marked work zeros free = cc

-- a set is refurbished in one way
refurbished_once : (s t u : State) → LastRefurbished s t → LastRefurbished s u → t ≡ u
refurbished_once s t u a b =
    let at : (x : ℕ) → slot_at t x ≡ slot_at u x = λ x. elim (cases_lt 0 (times x (last_set s.sets))) [
      | inl member ↦ a.inside x member ∙ sym (b.inside x member)
      | inr none ↦ let not : times x (last_set s.sets) ≡ 0 = omega (arith, none) in a.others x not ∙ sym (b.others x not)
    ] in
    let slots : t.slots ≡ u.slots = same_lists t.slots u.slots (a.many ∙ sym b.many)
    (λ x d below. get_or_default t.slots x d absent below ∙ at x ∙ sym (get_or_default u.slots x d absent (omega (arith, below, a.many, b.many)))) in
    same_state slots (a.roots ∙ sym b.roots) (a.sets ∙ sym b.sets) (a.marked ∙ sym b.marked) (a.work ∙ sym b.work) (a.zeros ∙ sym b.zeros) (a.free ∙ sym b.free)

-- the last set was tested as the function says
pub is_last_tested : (v : Parts) (u : Begun) → IsKept v.counts → IsRefusable v.counts → IsTested v u → u ≡ last_tested v
unfolding last_tested
is_last_tested v u k r (IsTested.passes orange none is) = is ∙ ap (λ verdict. tested_as verdict v) (sym (passed_verdict v.counts (length v.counts.sets - 1) orange none))
is_last_tested v u k r (IsTested.fails_delta s touched last is) =
    is ∙ ap (λ t. zeros_released true (record v { counts = t; sets = counted_by Touched v.sets })) (refurbished_once v.counts s (refurbished_of v.counts) last (refurbished_last v.counts k r))
    ∙ ap (λ verdict. tested_as verdict v) (sym (touched_verdict v.counts (length v.counts.sets - 1) touched))
is_last_tested v u k r (IsTested.fails_sigma s orange held last is) =
    is ∙ ap (λ t. zeros_released true (record v { counts = t; sets = counted_by Held v.sets })) (refurbished_once v.counts s (refurbished_of v.counts) last (refurbished_last v.counts k r))
    ∙ ap (λ verdict. tested_as verdict v) (sym (held_verdict v.counts (length v.counts.sets - 1) orange held))
