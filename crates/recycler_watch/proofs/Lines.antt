-- What a line of data has.
use Rattle.std.proofs.Common.{◌≡◌, ◌≤◌, ◌++◌, ◌∷◌, ℕ, Bool, true, false, Option, None, List, [], Bor, codes, drop, length, map, refl, sym, ◌∙◌, ap, append-nil}
use Rattle.std.specs.Prelude.{if◌then◌else◌}
use Rattle.std.proofs.Math.ListN.{drop_of_length-le}
use Rattle.rec_play.specs.declared.moves.Move.{Move}
use Rattle.recycler_watch.specs.Seen.{Seen, SeenCollector, SeenSlot, slot_seen}
use Rattle.recycler_watch.specs.Sentence.{is_same_slot, sentence}
use Rattle.recycler_watch.specs.Data.{DataLine, answered_words, asked_words, asker, data_line, first_line, others}
use Rattle.recycler_watch.specs.declared.state.Slot.{Slot}

others_nothing : {X : Type 0} (same : X → X → Bool) (was : List X) → others same was [] ≡ []
others_nothing same [] = refl
others_nothing same (x ∷ xs) = refl

-- behind the last element
pub others_end : {X : Type 0} (same : X → X → Bool) (was is found whole : List X) (i : ℕ) → found ++ others same (drop i was) (drop i is) ≡ whole → length is ≤ i → found ≡ whole
others_end same was is found whole i e past =
    sym (append-nil found)
    ∙ ap (λ xs. found ++ xs) (sym (ap (others same (drop i was)) (drop_of_length-le is past) ∙ others_nothing same (drop i was)))
    ∙ e

mapped : {X Y Z : Type 0} (f : Y → Z) (g : X → Y) (xs : List X) → map (λ x. f (g x)) xs ≡ map f (map g xs)
mapped f g [] = refl
mapped f g (x ∷ xs) = ap (λ ys. f (g x) ∷ ys) (mapped f g xs)

-- one element more, where the rest agrees
one_more : {X : Type 0} (f : X → SeenSlot) (y : X) (rest : List X) (seen : List SeenSlot) (b : Bool) → map f rest ≡ seen → map f (if b then rest else y ∷ rest) ≡ (if b then seen else f y ∷ seen)
one_more f y rest seen true e = e
one_more f y rest seen false e = ap (λ zs. f y ∷ zs) e

others_seen : {X : Type 0} (f : X → SeenSlot) (same : X → X → Bool) → ((x y : X) → same x y ≡ is_same_slot (f x) (f y)) → (was is : List X) → map f (others same was is) ≡ others is_same_slot (map f was) (map f is)
others_seen f same as_seen [] is = refl
others_seen f same as_seen (x ∷ xs) [] = refl
others_seen f same as_seen (x ∷ xs) (y ∷ ys) =
    one_more f y (others same xs ys) (others is_same_slot (map f xs) (map f ys)) (same x y) (others_seen f same as_seen xs ys)
    ∙ ap (λ b. if b then others is_same_slot (map f xs) (map f ys) else f y ∷ others is_same_slot (map f xs) (map f ys)) (as_seen x y)

-- the slots that changed
pub slots_told : (same : Slot → Slot → Bool) → ((x y : Slot) → same x y ≡ is_same_slot (slot_seen x) (slot_seen y)) → (items : List (Bor Slot)) (old new was is : List Slot) → old ≡ was → new ≡ is → map (λ one. one.now) items ≡ others same old new → map (λ one. slot_seen one.now) items ≡ others is_same_slot (map slot_seen was) (map slot_seen is)
slots_told same as_seen items old new was is a b e =
    mapped slot_seen (λ (one : Bor Slot). one.now) items ∙ ap (map slot_seen) (e ∙ ap (λ xs. others same xs new) a ∙ ap (others same was) b) ∙ others_seen slot_seen same as_seen was is

-- all slots
pub slots_whole : (items : List (Bor Slot)) (new is : List Slot) → new ≡ is → map (λ one. one.now) items ≡ new → map (λ one. slot_seen one.now) items ≡ map slot_seen is
slots_whole items new is a e = mapped slot_seen (λ (one : Bor Slot). one.now) items ∙ ap (map slot_seen) (e ∙ a)

abbrev data_of : ℕ → Option ℕ → (command answer : Option (List ℕ)) (says : List ℕ) → SeenCollector → List SeenSlot → DataLine
data_of number mutator command answer says collector slots = record { number = number; mutator = mutator; command = command; answer = answer; says = says; collector = collector; slots = slots }

-- the line of a move, by its parts
pub line_parts : (number : ℕ) (made : Move) (was is : Seen) (mutator : Option ℕ) (command answer : Option (List ℕ)) (says : List ℕ) (slots : List SeenSlot) → mutator ≡ asker made → command ≡ asked_words made → answer ≡ answered_words made → says ≡ sentence made was is → slots ≡ others is_same_slot was.slots is.slots → data_of number mutator command answer says is.collector slots ≡ data_line number made was is
line_parts number made was is mutator command answer says slots a b c d e =
    ap (λ x. data_of number x command answer says is.collector slots) a
    ∙ ap (λ x. data_of number (asker made) x answer says is.collector slots) b
    ∙ ap (λ x. data_of number (asker made) (asked_words made) x says is.collector slots) c
    ∙ ap (λ x. data_of number (asker made) (asked_words made) (answered_words made) x is.collector slots) d
    ∙ ap (λ x. data_of number (asker made) (asked_words made) (answered_words made) (sentence made was is) is.collector x) e

-- the line before the first move, by its parts
pub whole_parts : (number : ℕ) (is : Seen) (says : List ℕ) (slots : List SeenSlot) → says ≡ codes "the whole heap as it is here" → slots ≡ is.slots → data_of number None None None says is.collector slots ≡ first_line number is
whole_parts number is says slots a b =
    ap (λ x. data_of number None None None x is.collector slots) a ∙ ap (λ x. data_of number None None None (codes "the whole heap as it is here") is.collector x) b
