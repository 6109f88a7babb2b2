-- A heap in which all that isn't released is within reach is settled, once nothing is released.
use Rattle.std.proofs.Common.{◌≡◌, ◌⊎◌, inl, inr, ℕ, ◌<◌, ◌==◌, if◌then◌else◌, Bool, true, false, Option, None, Some, List, [], ◌∷◌, count_by, sum_by, map, length, replicate, slice_index_or, refl, sym, ap, subst, ◌∙◌, arith}
use Rattle.std.proofs.Math.ListN.{get_or-map}
use Rattle.std.proofs.lemmas.Bool.{false≢true, cases_lt}
use Rattle.std.proofs.lemmas.Bool.Decides.{eqb_tells}
use Rattle.std.proofs.lemmas.List.{get_or_past, get_or_default}
use Rattle.std.proofs.lemmas.List.Sums.{sum_by-cons}
use Rattle.rec_core.proofs.Common.{target_of, is_slot, IsTaken, Reaches, words_of, targets_of, reached_is_taken, word_in, slot_at, one, named, Idle, Core, sight, IsKept}
use Rattle.rec_settle.specs.Resting.{IsHeldIn, AreCounted, AreWithinReach}
use Rattle.rec_settle.specs.Settling.{heap_sum, IsReachable}
use Rattle.rec_model.specs.Heap.{roots}
use Rattle.rec_model.specs.Reach.{is_in, named as names}
use Rattle.rec_model.specs.Reach.IsReached.{root, child}
use Rattle.rec_model.proofs.Names.{named_at}
use Rattle.rec_model.proofs.Words.{named-nulls}
use Rattle.rec_model.proofs.Members.{is_in-left, is_in-right, is_in-head, is_in-tail}
use Rattle.rec_counts.proofs.Naming.{named-nil, named-cons}
use Rattle.rec_collector.proofs.Following.{none_released}
use Rattle.rec_core.specs.Settled.{IsSettled}
use Rattle.rec_settle.proofs.Rest.Reachable.{reached_or_not}
use Rattle.rec_core.proofs.Steps.{taken_slot}
use Rattle.rec_core.proofs.Turns.{now_at}

-- what is named among these targets stands among what they name
named_there : (x : ℕ) (targets : List (Option ℕ)) → 0 < named x targets → is_in x (names targets) ≡ true
named_there x [] some = absurd (omega (arith, some, named-nil x))
named_there x (None ∷ targets) some = named_there x targets (omega (arith, some, named-cons x None targets))
named_there x (Some y ∷ targets) some = elim (eqb_tells x y) [
  | inl same ↦ subst (λ k. is_in k (y ∷ names targets) ≡ true) (sym same.1) (is_in-head y (names targets))
  | inr other ↦
      let none : one (x == y) ≡ 0 = ap one other.0 in
      is_in-tail x y (names targets) (named_there x targets (omega (arith, some, none, named-cons x (Some y) targets)))
]

-- what registers name is a root
pub named_root : (x : ℕ) (registers : List (List (Option ℕ))) → 0 < sum_by (named x) registers → is_in x (roots registers) ≡ true
named_root x [] some = absurd (omega (arith, some))
named_root x (rs ∷ registers) some = elim (cases_lt 0 (named x rs)) [
  | inl here ↦ is_in-left x (names rs) (roots registers) (named_there x rs here)
  | inr none ↦ is_in-right x (names rs) (roots registers) (named_root x registers (omega (arith, some, none, sum_by-cons (named x) rs registers)))
]

-- What is within reach is reached from a register, or is free: fields of free slots lead nowhere.
held_reached : (w : Core) → IsKept true w → (x : ℕ) → IsHeldIn w w.words x → Reaches (sight w) x ⊎ (slice_index_or w.headers x 1 ≡ 0)
held_reached w kept x (IsReachable.held some) = elim (eqb_tells (slice_index_or w.headers x 1) 0) [
  | inl free ↦ inr free.1
  | inr taken ↦
      let none : one (slice_index_or w.headers x 1 == 0) ≡ 0 = ap one taken.0 in
      inl (root x (named_root x (sight w).registers (omega (arith, some, none))))
]
held_reached w kept x (IsReachable.along {n} from field below leads) =
    let targets : List ℕ = targets_of (sight w) n in
    let there : is_in x targets ≡ true = named_at (map target_of (words_of (sight w) n)) field x (get_or-map target_of (words_of (sight w) n) field 0 ∙ ap target_of (word_in (sight w) n field below) ∙ leads) in
    elim (held_reached w kept n from) [
      | inl reached ↦ inl (child n x reached there)
      | inr free ↦ elim (cases_lt n (length w.headers)) [
        | inl inside ↦
            let header : slice_index_or w.headers n 0 ≡ 0 = get_or_default w.headers n 0 1 inside ∙ free in
            let nulls : words_of (sight w) n ≡ replicate w.config.fields 0 = kept.sound.free n inside (λ taken. omega (arith, header, taken)) in
            let none : targets ≡ [] = ap (λ ws. names (map target_of ws)) nulls ∙ named-nulls w.config.fields in
            absurd (false≢true (ap (is_in x) (sym none) ∙ there))
        | inr past ↦ absurd (omega (arith, free, get_or_past w.headers n 1 past))
      ]
    ]

-- each field that leads to the slot counts once
fields_sum : (x : ℕ) (words : List ℕ) → heap_sum words x ≡ count_by (λ word. is_slot x (target_of word)) words
fields_sum x [] = refl
fields_sum x (word ∷ words) = omega (arith, fields_sum x words, alike (is_slot x (target_of word)), sum_by-cons (λ z. if is_slot x (target_of z) then 1 else 0) word words)
  where
    alike : (b : Bool) → one b ≡ (if b then 1 else 0)
    alike true = refl
    alike false = refl

registers_sum : (x : ℕ) (registers : List (List (Option ℕ))) → sum_by (named x) registers ≡ sum_by (count_by (is_slot x)) registers
unfolding named
registers_sum x registers = refl

-- Where no collection is under way, nothing is released: then the heap is settled.
pub settled : (w : Core) → IsKept true w → w.collector.phase ≡ Idle → AreWithinReach w w.words w.collector.counts → AreCounted w w.words w.collector.counts → IsSettled w
settled w kept idle within counted = record {
  collected = λ x. (reached x, reached_is_taken (sight w) kept.sound x);
  counted = λ x taken.
      let below : x < w.config.slots = taken_slot w kept x taken in
      let headers : length w.headers ≡ w.config.slots = kept.headers in
      let header : slice_index_or w.headers x 1 ≡ slice_index_or w.headers x 0 = get_or_default w.headers x 1 0 (omega (arith, below, headers)) in
      let not_free : one (slice_index_or w.headers x 1 == 0) ≡ 0 = unfree (slice_index_or w.headers x 1) (omega (arith, header, taken)) in
      omega (arith, counted x below, not_free, fields_sum x w.words, registers_sum x (sight w).registers);
}
  where
    unfree : (n : ℕ) → 0 < n → one (n == 0) ≡ 0
    unfree n some = elim (eqb_tells n 0) [ inl zero ↦ absurd (omega (arith, zero.1, some)) | inr other ↦ ap one other.0 ]

    reached : (x : ℕ) → IsTaken (sight w) x → Reaches (sight w) x
    reached x taken =
        let below : x < w.config.slots = taken_slot w kept x taken in
        let slots : length w.collector.counts.slots ≡ w.config.slots = kept.collector.slots in
        let headers : length w.headers ≡ w.config.slots = kept.headers in
        let now = now_at w Idle kept idle in
        let unreleased : (slot_at w.collector.counts x).released ≡ false = none_released now.0 x (omega (arith, below, slots)) in
        elim (reached_or_not (roots (sight w).registers) (targets_of (sight w)) w.config.slots (λ n from. taken_slot w kept n (reached_is_taken (sight w) kept.sound n from)) x) [
          | inl from ↦ from
          | inr not_so ↦ absurd (within x unreleased (λ held. elim (held_reached w kept x held) [
            | inl from ↦ not_so from
            | inr free ↦
                let header : slice_index_or w.headers x 1 ≡ slice_index_or w.headers x 0 = get_or_default w.headers x 1 0 (omega (arith, below, headers)) in
                omega (arith, free, header, taken)
          ]))
        ]
