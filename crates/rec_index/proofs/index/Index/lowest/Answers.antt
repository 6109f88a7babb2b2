-- The contract of `Index::lowest`: the lowest member, or `None` where there is none.
use Rattle.std.proofs.Common.{◌≡◌, ℕ, ◌<◌, List, length, get_or, inl, inr, refl, subst, arith}
use Rattle.std.proofs.lemmas.Bool.{cases_lt}
use Rattle.std.proofs.lemmas.List.{get_or_past}
use Rattle.rec_index.specs.Sets.{bit, IsLowest, Tells}
use Rattle.rec_index.proofs.Levels.{none_at_all, lowest_of}
use Rattle.rec_index.proofs.index.Index.lowest.Goals as goal

pub returns-in_err-group-clause-none : goal.returns-in_err-group-clause-none
returns-in_err-group-clause-none c = λ none.
    subst (λ (set : List ℕ). (s : ℕ) → bit set s ≡ 0) c.self.view_is
    (none_at_all c.self.inside.slots c.self.inside.words c.self.inside.groups c.self.invariant.words c.self.invariant.groups c.self.invariant.groups_length (c.in_err-group.ensures.none refl))

pub returns-clause-some : goal.returns-clause-some
returns-clause-some c =
    subst (λ (set : List ℕ). IsLowest set c.in_ok-slot.slot) c.self.view_is
    (lowest_of c.self.inside.slots c.self.inside.words c.self.inside.groups c.self.invariant.words c.self.invariant.groups c.self.invariant.groups_length c.in_ok-group.group c.in_ok-word.word c.in_ok-slot.slot c.in_ok-group.ensures.some c.in_ok-word.ensures.some c.in_ok-slot.ensures.some)

pub lowest-requires-clause-there : goal.lowest-requires-clause-there
lowest-requires-clause-there c = omega (arith, c.self.invariant.groups_length)

pub lowest-requires-clause-few : goal.lowest-requires-clause-few
lowest-requires-clause-few c = omega (arith, c.self.invariant.groups_length)

-- a word that the level above tells of is there, and isn't 0
told_there : (upper lower : List ℕ) (k : ℕ) → Tells upper lower → bit upper k ≡ 1 → k < length lower
told_there upper lower k tells told = elim (cases_lt k (length lower)) [ inl there ↦ there | inr past ↦ absurd (omega (arith, tells k, told, get_or_past lower k 0 past)) ]

told_some : (upper lower : List ℕ) (k : ℕ) → Tells upper lower → bit upper k ≡ 1 → get_or lower k 0 ≡ 0 → ⊥
told_some upper lower k tells told empty = omega (arith, tells k, told, empty)

pub lowest-requires-2-clause-there : goal.lowest-requires-2-clause-there
lowest-requires-2-clause-there c = told_there _ _ _ c.self.invariant.groups c.in_ok-group.ensures.some.holds

pub lowest-requires-2-clause-few : goal.lowest-requires-2-clause-few
lowest-requires-2-clause-few c = omega (arith, c.self.invariant.words_length)

pub returns-in_err-word-clause-none : goal.returns-in_err-word-clause-none
returns-in_err-word-clause-none c = λ none. absurd (told_some _ _ _ c.self.invariant.groups c.in_ok-group.ensures.some.holds (c.in_err-word.ensures.none refl))

pub lowest-requires-3-clause-there : goal.lowest-requires-3-clause-there
lowest-requires-3-clause-there c = told_there _ _ _ c.self.invariant.words c.in_ok-word.ensures.some.holds

pub lowest-requires-3-clause-few : goal.lowest-requires-3-clause-few
lowest-requires-3-clause-few c = omega (arith, c.self.invariant.slots_length)

pub returns-in_err-slot-clause-none : goal.returns-in_err-slot-clause-none
returns-in_err-slot-clause-none c = λ none. absurd (told_some _ _ _ c.self.invariant.words c.in_ok-word.ensures.some.holds (c.in_err-slot.ensures.none refl))

pub overflow_cast-result : goal.overflow_cast-result
overflow_cast-result c = omega (arith, told_there _ _ _ c.self.invariant.words c.in_ok-word.ensures.some.holds, c.in_ok-slot.ensures.some.there, c.self.invariant.slots_length)
