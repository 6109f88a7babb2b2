-- A heap goes on standing for what is seen where a mutator leaves.
use Rattle.std.proofs.Common.{◌≡◌, inl, inr, ℕ, ◌-◌, List, [], Option, None, true, length, map, replicate, slice_set, sym, ap, ◌∙◌}
use Rattle.std.specs.Option.{option_map}
use Rattle.std.proofs.Math.ListN.{get_or-map}
use Rattle.std.proofs.lemmas.Bool.{false≢true}
use Rattle.std.proofs.lemmas.List.{length-map, map-set}
use Rattle.rec_model.specs.Reach.IsReached.{root, child}
use Rattle.rec_model.proofs.Common.{is_in, Heap, registers_of, roots, without_registers, Sight, Reaches, targets_of, StandsBy, sight_without_registers}
use Rattle.rec_model.proofs.Names.{roots_set}
use Rattle.rec_model.proofs.Opened.{map-replicate, named-nones}
use Rattle.rec_model.proofs.Within.{all_reached}

-- what is a root where a mutator's registers are null is one where they aren't
roots_left : (rss : List (List (Option ℕ))) (i many n : ℕ) → is_in n (roots (slice_set rss i (replicate many None))) ≡ true → is_in n (roots rss) ≡ true
roots_left rss i many n there = elim (roots_set rss i n (replicate many None) there) [
  | inl old ↦ old
  | inr new ↦ absurd (false≢true (sym (ap (is_in n) (named-nones many)) ∙ new))
]

-- so what is reached then was reached
reached_left : (w : Sight) (t slot : ℕ) → Reaches (sight_without_registers w t) slot → Reaches w slot
reached_left w t =
    all_reached (Reaches w) (roots (sight_without_registers w t).registers) (targets_of w)
    (λ n there. root n (roots_left w.registers (t - 1) (length (registers_of w.registers t)) n there)) (λ m n from before there. child m n before there)

-- under a numbering of what is named, the registers of a mutator become null
left_map : (number : ℕ → ℕ) (rss : List (List (Option ℕ))) (t : ℕ)
    → slice_set (map (map (option_map number)) rss) (t - 1) (replicate (length (registers_of (map (map (option_map number)) rss) t)) None) ≡ map (map (option_map number)) (slice_set rss (t - 1) (replicate (length (registers_of rss t)) None))
left_map number rss t =
    let named_rss : List (List (Option ℕ)) = map (map (option_map number)) rss in
    let many : ℕ = length (registers_of rss t) in
    let own : registers_of named_rss t ≡ map (option_map number) (registers_of rss t) = get_or-map (map (option_map number)) rss (t - 1) [] in
    let as_many : length (registers_of named_rss t) ≡ many = ap (λ (rs : List (Option ℕ)). length rs) own ∙ length-map (registers_of rss t) (option_map number) in
    ap (λ n. slice_set named_rss (t - 1) (replicate n None)) as_many
    ∙ ap (slice_set named_rss (t - 1)) (sym (map-replicate (option_map number) many None))
    ∙ sym (map-set (map (option_map number)) rss (t - 1) (replicate many None))

-- The registers of a mutator become null, on both sides.
pub leave_stands : (heap : Heap) (w : Sight) (number : ℕ → ℕ) (t : ℕ) → StandsBy heap w number → StandsBy (without_registers heap t) (sight_without_registers w t) number
leave_stands heap w number t by =
    record {
      one_to_one = by.one_to_one;
      there = by.there;
      header = by.header;
      registers = ap (λ (rss : List (List (Option ℕ))). slice_set rss (t - 1) (replicate (length (registers_of rss t)) None)) by.registers ∙ left_map number w.registers t;
      fields = λ s from. by.fields s (reached_left w t s from);
    }
