-- One of a running heap's mutators works on: they stay its mutators.
use Rattle.std.proofs.Common.{◌≡◌, inl, inr, ℕ, ◌+◌, ◌-◌, ◌<◌, ◌≤◌, List, length, slice_index_or, slice_set, subst, sym, ◌∙◌, arith}
use Rattle.std.proofs.lemmas.List.{get_or-set_same, get_or-set_other, length-set}
use Rattle.std.proofs.lemmas.Bool.{cases_eq}
use Rattle.rec_table.specs.Views.{AreMutatorsOf, IsMutatorOf, MutatorView, Started}

-- a number from 1 to as many as there are names one
pub there : (t seen many : ℕ) → 1 ≤ t → t ≤ seen → seen ≡ many → t - 1 < many
there t seen many some within is = omega (arith, some, within, is)

-- the one that works is a mutator of the heap
pub own_at : (s : Started) (ms : List MutatorView) (k : ℕ) (d m : MutatorView) → AreMutatorsOf s ms → k < length ms → m ≡ slice_index_or ms k d → IsMutatorOf s m
own_at s ms k d m are there is = subst (IsMutatorOf s) (sym is) (are.each k d there).0

-- and so it is when its list has grown
pub grown_at : (s : Started) (ms : List MutatorView) (k : ℕ) (d m after : MutatorView) → AreMutatorsOf s ms → k < length ms → m ≡ slice_index_or ms k d
    → after ≡ record m { log = after.log } → AreMutatorsOf s (slice_set ms k after)
grown_at s ms k d m after are there is grown =
    let own : IsMutatorOf s after × (after.number ≡ k + 1) =
    subst (λ (x : MutatorView). IsMutatorOf s x × (x.number ≡ k + 1)) (sym grown) (subst (λ (x : MutatorView). IsMutatorOf s x × (x.number ≡ k + 1)) (sym is) (are.each k d there)) in
    record {
      all = length-set ms k after ∙ are.all;
      each = λ j e within. elim (cases_eq j k) [
        | inl same ↦ subst (λ (i : ℕ). IsMutatorOf s (slice_index_or (slice_set ms k after) i e) × ((slice_index_or (slice_set ms k after) i e).number ≡ i + 1)) (sym same)
            (subst (λ (x : MutatorView). IsMutatorOf s x × (x.number ≡ k + 1)) (sym (get_or-set_same ms k after e there)) own)
        | inr apart ↦ subst (λ (x : MutatorView). IsMutatorOf s x × (x.number ≡ j + 1)) (sym (get_or-set_other ms k j after e apart))
            (are.each j e (subst (λ (n : ℕ). j < n) (length-set ms k after) within))
      ];
    }
