-- What is live in a heap is what a register reaches among the slots that it stands for.
use Rattle.std.proofs.Common.{◌≡◌, ℕ, List, [], ◌∷◌, true, map, refl, sym, ◌∙◌, ap, subst}
use Rattle.std.specs.Prelude.{option_map}
use Rattle.rec_model.proofs.Common.{target_of, named, is_in, Heap, roots, children, IsLive, Sight, IsTaken, Reaches, words_of, targets_of, field_of, StandsBy, IsSound}
use Rattle.rec_model.specs.Reach.IsReached.{root, child}
use Rattle.rec_model.proofs.Carried.{named-map, flat_map-named, in_map}
use Rattle.rec_model.proofs.Standing.{reached_is_taken}
use Rattle.rec_model.proofs.Within.{all_reached}

module _ (heap : Heap) (w : Sight) (number : ℕ → ℕ) (stands : StandsBy heap w number) where
  -- the registers name the numbers of the slots that they name
  pub roots_same : roots heap.registers ≡ map number (roots w.registers)
  roots_same = ap roots stands.registers ∙ flat_map-named number w.registers

  targets_same : (words : List ℕ) → map (λ x. x.target) (map (field_of number) words) ≡ map (option_map number) (map target_of words)
  targets_same [] = refl
  targets_same (word ∷ words) = ap (λ xs. option_map number (target_of word) ∷ xs) (targets_same words)

  -- and so do the fields of what is reached
  pub children_same : (slot : ℕ) → Reaches w slot → children heap (number slot) ≡ map number (targets_of w slot)
  children_same slot reached =
      ap (λ xs. named (map (λ x. x.target) xs)) (stands.fields slot reached)
      ∙ ap named (targets_same (words_of w slot))
      ∙ named-map number (map target_of (words_of w slot))

  -- the object is that of a slot that a register reaches
  abbrev IsOfReached : ℕ → Type 0
  IsOfReached n = (s : ℕ) × Reaches w s × (number s ≡ n)

  child_of_reached : (m n : ℕ) → IsOfReached m → is_in n (children heap m) ≡ true → IsOfReached n
  child_of_reached m n (s, from, is) there =
      let (k, in_slot, named_there) = in_map number n (targets_of w s) (ap (is_in n) (sym (children_same s from) ∙ ap (children heap) is) ∙ there) in
      (k, child s k from in_slot, named_there)

  -- what is live is the object of a slot that a register reaches
  live_is_reached : (n : ℕ) → IsLive heap n → (s : ℕ) × Reaches w s × (number s ≡ n)
  live_is_reached =
      all_reached IsOfReached (roots heap.registers) (children heap)
      (λ n there. let (s, in_roots, is) = in_map number n (roots w.registers) (ap (is_in n) (sym roots_same) ∙ there) in (s, root s in_roots, is))
      (λ m n from of there. child_of_reached m n of there)

  -- so the object of a slot that no register reaches isn't
  pub unreached_is_dead : (slot : ℕ) → IsSound w → IsTaken w slot → (Reaches w slot → ⊥) → IsLive heap (number slot) → ⊥
  unreached_is_dead slot sound taken out live =
      let (s, from, is) = live_is_reached (number slot) live in
      out (subst (Reaches w) (stands.one_to_one s slot (reached_is_taken w sound s from) taken is) from)
