-- The contract of `first_member`: the first member of the first set that has one, from this number on.
use Rattle.std.proofs.Common.{◌≡◌, ℕ, ◌+◌, ◌<◌, ◌≤◌, List, [], ◌∷◌, None, Some, length, get_or, drop, refl, sym, ap, subst, ◌∙◌}
use Rattle.std.proofs.lemmas.List.{drop_all, drop_more}
use Rattle.std.proofs.lemmas.Option.{same_Some}
use Rattle.rec_word.specs.Walk.{first_in}
use Rattle.rec_word.specs.declared.member.Member.{Member}
use Rattle.rec_sigma.specs.Prepare.{first_of}
use Rattle.rec_sigma.proofs.prepare.first_member.Goals as goal

-- a set that has a member has the first one
has : (n : ℕ) (set : List ℕ) (rest : List (List ℕ)) (m : Member) → Some m ≡ first_in set → Some (record { set = n; member = m }) ≡ first_of n (set ∷ rest)
has n [] rest m e = cc
has n (x ∷ xs) rest m e = ap (λ (a : Member). Some (record { set = n; member = a })) (same_Some _ _ e)

-- and one that has none is passed over
lacks : (n : ℕ) (set : List ℕ) (rest : List (List ℕ)) → None ≡ first_in set → first_of (n + 1) rest ≡ first_of n (set ∷ rest)
lacks n [] rest e = refl
lacks n (x ∷ xs) rest e = cc

found : (sets : List (List ℕ)) (n : ℕ) (set : List ℕ) (m : Member) → n < length sets → set ≡ get_or sets n [] → Some m ≡ first_in set → Some (record { set = n; member = m }) ≡ first_of n (drop n sets)
found sets n set m below is e = rw (drop_more sets n [] below) (has n (get_or sets n []) (drop (n + 1) sets) m (e ∙ ap first_in is))

passed : (sets : List (List ℕ)) (n : ℕ) (set : List ℕ) → n < length sets → set ≡ get_or sets n [] → None ≡ first_in set → first_of (n + 1) (drop (n + 1) sets) ≡ first_of n (drop n sets)
passed sets n set below is e = lacks n (get_or sets n []) (drop (n + 1) sets) (e ∙ ap first_in is) ∙ ap (first_of n) (sym (drop_more sets n [] below))

pub loop-set-init : goal.loop-set-init
loop-set-init c = refl

pub set-requires : goal.set-requires
set-requires c = subst (λ (n : ℕ). c.loop-set.set < n) c.sets-set-end.ensures c.loop-set-test.true

pub returns-in-Some-clause-first : goal.returns-in-Some-clause-first
returns-in-Some-clause-first c =
    let below = subst (λ (n : ℕ). c.loop-set.set < n) c.sets-set-end.ensures c.loop-set-test.true in
    found c.args.counts.now.sets c.loop-set.set c.set.result.now c.in-Some.member below c.set.ensures c.in-Some.ensures.first ∙ c.loop-set.invariant

pub loop-set-preserved : goal.loop-set-preserved
loop-set-preserved c =
    let below = subst (λ (n : ℕ). c.loop-set.set < n) c.sets-set-end.ensures c.loop-set-test.true in
    passed c.args.counts.now.sets c.loop-set.set c.set.result.now below c.set.ensures (sym c.in_default.is ∙ c.first.ensures.first) ∙ c.loop-set.invariant

pub returns-clause-first : goal.returns-clause-first
returns-clause-first c =
    let past = subst (λ (n : ℕ). n ≤ c.loop-set.set) c.sets-set-end.ensures c.loop-set-test.false in
    ap (first_of c.loop-set.set) (sym (drop_all c.loop-set.set c.args.counts.now.sets past)) ∙ c.loop-set.invariant
