-- What a line tells of the slots that changed.
use Rattle.std.proofs.Common.{◌≡◌, ◌++◌, ◌∷◌, ℕ, List, [], length, map, take, min, refl, sym, ◌∙◌, ap, append_assoc}
use Rattle.std.specs.List.{flat_map}
use Rattle.std.proofs.lemmas.List.{length-map, take-map, take_min}
use Rattle.recycler_watch.specs.Seen.{SeenSlot}
use Rattle.recycler_watch.specs.Sentence.{change_words, changes_words, more_words}

flat_mapped : {X Y : Type 0} (f : X → Y) (g : Y → List ℕ) (xs : List X) → flat_map (λ x. g (f x)) xs ≡ flat_map g (map f xs)
flat_mapped f g [] = refl
flat_mapped f g (x ∷ xs) = ap (λ ys. g (f x) ++ ys) (flat_mapped f g xs)

-- the first six slots, and how many more there are
pub changes : {X : Type 0} (f : X → SeenSlot × SeenSlot) (old first last : List ℕ) (items : List X) (k n : ℕ) → n ≡ length items → k ≡ min 6 n → first ≡ old ++ flat_map (λ x. change_words (f x).0 (f x).1) (take k items) → last ≡ first ++ more_words n → last ≡ old ++ changes_words (map f items)
changes f old first last items k n counted most told more =
    let g : SeenSlot × SeenSlot → List ℕ = λ p. change_words p.0 p.1 in
    let six : take k items ≡ take 6 items = ap (λ m. take m items) (most ∙ ap (min 6) counted) ∙ take_min 6 items in
    let words : flat_map (λ x. g (f x)) (take k items) ≡ flat_map g (take 6 (map f items)) =
    ap (λ xs. flat_map (λ x. g (f x)) xs) six ∙ flat_mapped f g (take 6 items) ∙ ap (flat_map g) (sym (take-map f 6 items)) in
    more ∙ ap (λ t. t ++ more_words n) (told ∙ ap (λ t. old ++ t) words) ∙ append_assoc old (flat_map g (take 6 (map f items))) (more_words n)
    ∙ ap (λ m. old ++ (flat_map g (take 6 (map f items)) ++ more_words m)) (counted ∙ sym (length-map items f))
