-- How often a slot is named.
use Rattle.std.proofs.Common.{◌≡◌, ℕ, ◌+◌, ◌<◌, ◌≤◌, cond, Option, None, Some, IfSome, List, [], ◌∷◌, ◌++◌, length, map, take, get_or, refl, arith, sym, ◌∙◌, ap, inl, inr}
use Rattle.std.specs.List.{flat_map, sum_by}
use Rattle.std.proofs.lemmas.Bool.{cases_lt}
use Rattle.std.proofs.lemmas.List.{flat_map_more, take_more}
use Rattle.std.proofs.lemmas.List.Elements.{filter_map-append}
use Rattle.std.proofs.lemmas.List.Sums.{sum_by-cons, sum_by-append, sum_by-take-le, sum_by_more}
use Rattle.rec_word.specs.Word.{is_slot}
use Rattle.rec_counts.specs.Lists.{one}
use Rattle.rec_log.specs.declared.contents.Contents.{Contents}
use Rattle.rec_log.specs.declared.entry.Entry.{Entry}
use Rattle.rec_counts.specs.Lists.{times}
use Rattle.rec_counts.proofs.Times.{one-same, times-cons, times-nil}
use Rattle.rec_counts.specs.Targets.{named, added, held, taken, new_target, old_target, slots_in, taken_targets, written}

pub named-nil : (x : ℕ) → named x [] ≡ 0
unfolding named
named-nil x = refl

pub named-cons : (x : ℕ) (t : Option ℕ) (ts : List (Option ℕ)) → named x (t ∷ ts) ≡ one (is_slot x t) + named x ts
unfolding named
named-cons x t ts = sum_by-cons (λ z. cond (is_slot x z) 1 0) t ts

pub named-append : (x : ℕ) (ts us : List (Option ℕ)) → named x (ts ++ us) ≡ named x ts + named x us
unfolding named
named-append x ts us = sum_by-append (λ z. cond (is_slot x z) 1 0) ts us

-- in joined lists a slot is named as often as in all of them together
named_parts : (x : ℕ) (f : Contents → List (Option ℕ)) (bs : List Contents) → named x (flat_map f bs) ≡ sum_by (λ b. named x (f b)) bs
named_parts x f [] = named-nil x
named_parts x f (b ∷ bs) =
    omega (arith, named-append x (f b) (flat_map f bs), named_parts x f bs, sum_by-cons (λ (b : Contents). named x (f b)) b bs)

named_halves : (x : ℕ) (f : Entry → Option ℕ) (bs : List Contents) → sum_by (λ (b : Contents). named x (map f b.entries ++ b.snapshot)) bs ≡ sum_by (λ (b : Contents). named x (map f b.entries) + named x b.snapshot) bs
named_halves x f [] = refl
named_halves x f (b ∷ bs) =
    omega (
      arith,
      sum_by-cons (λ (b : Contents). named x (map f b.entries ++ b.snapshot)) b bs,
      sum_by-cons (λ (b : Contents). named x (map f b.entries) + named x b.snapshot) b bs,
      named-append x (map f b.entries) b.snapshot,
      named_halves x f bs,
    )

-- what is taken off is what the older buffers no longer refer to
pub taken_is : (x : ℕ) (bs : List Contents) → named x (flat_map taken_targets bs) ≡ taken x bs
taken_is x bs = named_parts x taken_targets bs ∙ named_halves x old_target bs

-- with one target more
pub named_more : (x : ℕ) (ts : List (Option ℕ)) (i : ℕ) → i < length ts → named x (take (i + 1) ts) ≡ named x (take i ts) + one (is_slot x (get_or ts i None))
unfolding named
named_more x ts i h = sum_by_more (λ z. cond (is_slot x z) 1 0) ts i None h

-- each of them is among all
pub named-at : (x : ℕ) (ts : List (Option ℕ)) (i : ℕ) → i < length ts → one (is_slot x (get_or ts i None)) ≤ named x ts
unfolding named
named-at x ts i h = omega (arith, sum_by_more (λ z. cond (is_slot x z) 1 0) ts i None h, sum_by-take-le (λ z. cond (is_slot x z) 1 0) ts (i + 1))

pub part-le : (f : Contents → ℕ) (bs : List Contents) (i : ℕ) (d : Contents) → i < length bs → f (get_or bs i d) ≤ sum_by f bs
part-le f bs i d h = omega (arith, sum_by_more f bs i d h, sum_by-take-le f bs (i + 1))

-- so a target that none of the slots past the last one is, is there
pub there : (n : ℕ) (t : Option ℕ) → ((x : ℕ) → n ≤ x → one (is_slot x t) ≡ 0) → IfSome t (λ x. x < n)
there n None h = tt
there n (Some x) h = elim (cases_lt x n) [ inl l ↦ l | inr l ↦ absurd (omega (arith, h x l, one-same x)) ]

-- what is added is what is written, and what the registers hold
pub added_parts : (x : ℕ) (bs : List Contents) → added x bs ≡ written x bs + held x bs
added_parts x [] = refl
added_parts x (b ∷ bs) =
    omega (
      arith,
      sum_by-cons (λ (b : Contents). named x (map new_target b.entries) + named x b.snapshot) b bs,
      sum_by-cons (λ (b : Contents). named x (map new_target b.entries)) b bs,
      sum_by-cons (λ (b : Contents). named x b.snapshot) b bs,
      added_parts x bs,
    )

-- the slots among targets stand there as often as these name them
pub times_slots : (x : ℕ) (ts : List (Option ℕ)) → times x (slots_in ts) ≡ named x ts
times_slots x [] = omega (arith, times-nil x, named-nil x)
times_slots x (None ∷ ts) = omega (arith, named-cons x None ts, times_slots x ts)
times_slots x (Some y ∷ ts) = omega (arith, named-cons x (Some y) ts, times-cons x y (slots_in ts), times_slots x ts)

-- with one more
pub slots_more : (ts : List (Option ℕ)) (i : ℕ) → i < length ts → slots_in (take (i + 1) ts) ≡ slots_in (take i ts) ++ slots_in (get_or ts i None ∷ [])
slots_more ts i h = ap slots_in (take_more ts i None h) ∙ filter_map-append (λ target. target) (take i ts) (get_or ts i None ∷ [])

pub slots_parts : (bs : List Contents) (i : ℕ) (d : Contents) → i < length bs → slots_in (flat_map taken_targets (take (i + 1) bs)) ≡ slots_in (flat_map taken_targets (take i bs)) ++ slots_in (taken_targets (get_or bs i d))
slots_parts bs i d h = ap slots_in (ap (flat_map taken_targets) (take_more bs i d h) ∙ sym (flat_map_more taken_targets [] (take i bs) (get_or bs i d))) ∙ filter_map-append (λ target. target) (flat_map taken_targets (take i bs)) (taken_targets (get_or bs i d))
