-- In a settled world the true count of a listed slot is the number of registers, and of fields of listed slots, that hold it.
use Rattle.std.proofs.Common.{◌≡◌, inl, inr, ℕ, suc, ◌+◌, ◌*◌, ◌<◌, ◌==◌, Bool, true, false, cond, List, [], ◌∷◌, Option, None, Some, map, take, drop, length, sum_by, count_by, refl, sym, ◌∙◌, ap, subst, arith}
use Rattle.std.specs.List.{flat_map}
use Rattle.std.specs.Prelude.{slice_range}
use Rattle.std.proofs.lemmas.Bool.{cases_eq, cases_lt, ne_eqb, false≢true}
use Rattle.std.proofs.lemmas.Bool.Decides.{eqb_tells}
use Rattle.std.proofs.lemmas.List.{length-drop, take-append-drop, drop-drop, get_or_past}
use Rattle.std.proofs.lemmas.List.Sums.{sum_by-append, sum_by-cons}
use Rattle.rec_word.specs.Word.{target_of, is_slot}
use Rattle.rec_model.specs.Reach.{named, is_in}
use Rattle.rec_model.specs.Numbering.{times, IsDistinct}
use Rattle.rec_model.specs.Heap.{roots}
use Rattle.rec_model.specs.Sight.{IsTaken, NumbersSlots, targets_of, words_of, holders_of}
use Rattle.rec_model.specs.Sums.{only_if, sum_at}
use Rattle.rec_model.proofs.Numbered.{lists_reached, numbering_distinct}
use Rattle.rec_model.proofs.Members.{is_in-head, is_in-tail}
use Rattle.rec_model.proofs.Places.{sum_at-le-from_get_or, sum_at_only}
use Rattle.rec_model.proofs.Sums.{sum_at_none, sum_at_same, sum_at_split, sum_by-flat_map, sum_by-map, sum_by_same}
use Rattle.rec_model.proofs.Words.{named-nulls}
use Rattle.rec_counts.specs.Counts.{slot_at}
use Rattle.rec_model.proofs.Counted.{times-cons}
use Rattle.rec_core.specs.Settled.{IsSettled, fields_holding}
use Rattle.rec_world.specs.World.{Core, sight, IsWorld}

same_either : (m n : ℕ) → (m == n) ≡ (n == m)
same_either m n = elim (cases_eq m n) [
  | inl e ↦ rw e refl
  | inr apart ↦ ne_eqb m n apart ∙ sym (ne_eqb n m (λ e. apart (sym e)))
]

-- a slot stands among what registers or fields name as often as they hold it
times_named : (slot : ℕ) (xs : List (Option ℕ)) → times slot (named xs) ≡ count_by (is_slot slot) xs
times_named slot [] = refl
times_named slot (None ∷ xs) = omega (arith, times_named slot xs, sum_by-cons (λ x. cond (is_slot slot x) 1 0) None xs)
times_named slot (Some n ∷ xs) =
    let here : ◌≡◌ {A = ℕ} (cond (n == slot) 1 0) (cond (slot == n) 1 0) = ap (λ b. cond b 1 0) (same_either n slot) in
    omega (arith, here, times_named slot xs, times-cons slot n (named xs), sum_by-cons (λ x. cond (is_slot slot x) 1 0) (Some n) xs)

times_roots : (slot : ℕ) (registers : List (List (Option ℕ))) → times slot (roots registers) ≡ sum_by (count_by (is_slot slot)) registers
times_roots slot registers =
    sum_by-flat_map (λ m. cond (m == slot) 1 0) named registers ∙ sum_by_same (λ row. times slot (named row)) (count_by (is_slot slot)) registers (times_named slot)

times_words : (slot : ℕ) (words : List ℕ) → times slot (named (map target_of words)) ≡ count_by (λ word. is_slot slot (target_of word)) words
times_words slot words = times_named slot (map target_of words) ∙ sum_by-map (λ x. cond (is_slot slot x) 1 0) target_of words

-- the words of one object, of so many fields, among those of all
abbrev words_at : (fields : ℕ) → List ℕ → ℕ → List ℕ
words_at fields words i = slice_range words (i * fields) (i * fields + fields)

-- a weight over all words is one over the words of each object
by_object : (f : ℕ → ℕ) (fields : ℕ) (words headers : List ℕ) → length words ≡ length headers * fields → sum_by f words ≡ sum_at (λ i header. sum_by f (words_at fields words i)) headers
by_object f fields [] [] size = refl
by_object f fields (word ∷ words) [] size = absurd (omega (arith, size))
by_object f fields words (header ∷ headers) size =
    let later : List ℕ = drop fields words in
    let behind : length later ≡ length headers * fields = omega (arith, size, length-drop fields words) in
    let whole : sum_by f words ≡ sum_by f (take fields words) + sum_by f later = ap (sum_by f) (sym (take-append-drop fields words)) ∙ sum_by-append f (take fields words) later in
    omega (
      arith,
      whole,
      ap (sum_by f) first,
      by_object f fields later headers behind,
      sum_at_same (λ i header. sum_by f (words_at fields later i)) (λ i header. sum_by f (words_at fields words (suc i))) headers (λ i header. ap (sum_by f) (next i)),
    )
  where
    part : (xs : List ℕ) (a : ℕ) → slice_range xs a (a + fields) ≡ take fields (drop a xs)
    part xs a = ap (λ k. take k (drop a xs)) (omega arith)

    first : words_at fields words 0 ≡ take fields words
    first = part words (0 * fields) ∙ ap (λ a. take fields (drop a words)) (let none : 0 * fields ≡ 0 = omega arith in none)

    next : (i : ℕ) → words_at fields (drop fields words) i ≡ words_at fields words (suc i)
    next i =
        let one_more : fields + i * fields ≡ suc i * fields = omega arith in
        part (drop fields words) (i * fields) ∙ ap (take fields) (drop-drop (i * fields) fields words ∙ ap (λ a. drop a words) one_more) ∙ sym (part words (suc i * fields))

-- a weight over different numbers is one over the places that they name
by_place : (f : ℕ → ℕ) (ns xs : List ℕ) → IsDistinct ns → ((n : ℕ) → is_in n ns ≡ true → n < length xs) → sum_by f ns ≡ sum_at (λ i x. only_if (is_in i ns) (f i)) xs
by_place f [] xs distinct inside = sym (sum_at_none (λ i x. 0) xs (λ i x. refl))
by_place f (n ∷ ns) xs distinct inside =
    omega (
      arith,
      sum_by-cons f n ns,
      sum_at_split (λ i x. only_if (is_in i (n ∷ ns)) (f i)) (λ i x. only_if (n == i) (f i)) (λ i x. only_if (is_in i ns) (f i)) xs (λ i x. split i),
      sum_at_only (λ i x. f i) xs n 0 (inside n (is_in-head n ns)),
      by_place f ns xs distinct.1 (λ m h. inside m (is_in-tail m n ns h)),
    )
  where
    split : (i : ℕ) → only_if (is_in i (n ∷ ns)) (f i) ≡ only_if (n == i) (f i) + only_if (is_in i ns) (f i)
    split i = elim (eqb_tells n i) [
      | inl q ↦
          let once : is_in i ns ≡ false = subst (λ k. is_in k ns ≡ false) q.1 distinct.0 in
          rw (q.0, once) (omega arith)
      | inr q ↦ rw (q.0) (omega arith)
    ]

module _ (w : Core) (ns : List ℕ) (world : IsWorld w) (settled : IsSettled w) (numbers : NumbersSlots (sight w) ns) where
  -- just what is listed is taken
  listed_taken : (n : ℕ) → is_in n ns ≡ true → IsTaken (sight w) n
  listed_taken n listed = (settled.collected n).1 ((lists_reached (roots (sight w).registers) (targets_of (sight w)) ns numbers n).1 listed)

  taken_listed : (n : ℕ) → IsTaken (sight w) n → is_in n ns ≡ true
  taken_listed n taken = (lists_reached (roots (sight w).registers) (targets_of (sight w)) ns numbers n).0 ((settled.collected n).0 taken)

  listed_inside : (n : ℕ) → is_in n ns ≡ true → n < length w.headers
  listed_inside n listed = elim (cases_lt n (length w.headers)) [
    | inl below ↦ below
    | inr past ↦ absurd (omega (arith, listed_taken n listed, get_or_past w.headers n 0 past))
  ]

  -- only fields of listed slots name anything
  only_listed : (slot n : ℕ) → n < length w.headers → only_if (is_in n ns) (times slot (targets_of (sight w) n)) ≡ times slot (targets_of (sight w) n)
  only_listed slot n below = go (is_in n ns) refl
    where
      go : (b : Bool) → is_in n ns ≡ b → only_if b (times slot (targets_of (sight w) n)) ≡ times slot (targets_of (sight w) n)
      go true e = refl
      go false e =
          let free : IsTaken (sight w) n → ⊥ = λ taken. false≢true (sym e ∙ taken_listed n taken) in
          let none : targets_of (sight w) n ≡ [] = ap (λ words. named (map target_of words)) (world.shaped.sound.free n below free) ∙ named-nulls w.config.fields in
          sym (ap (times slot) none)

  listed_fields : (slot : ℕ) → times slot (flat_map (targets_of (sight w)) ns) ≡ fields_holding w slot
  listed_fields slot =
      let own : ℕ → ℕ = λ n. times slot (targets_of (sight w) n) in
      let distinct : IsDistinct ns = numbering_distinct (roots (sight w).registers) (targets_of (sight w)) ns numbers in
      omega (
        arith,
        sum_by-flat_map (λ m. cond (m == slot) 1 0) (targets_of (sight w)) ns,
        by_place own ns w.headers distinct listed_inside,
        sum_at-le-from_get_or (λ i header. only_if (is_in i ns) (own i)) (λ i header. own i) w.headers 0 (λ i below. omega (arith, only_listed slot i below)),
        sum_at-le-from_get_or (λ i header. own i) (λ i header. only_if (is_in i ns) (own i)) w.headers 0 (λ i below. omega (arith, only_listed slot i below)),
        sum_at_same (λ i header. own i) (λ i header. count_by (λ word. is_slot slot (target_of word)) (words_of (sight w) i)) w.headers (λ i header. times_words slot (words_of (sight w) i)),
        by_object (λ word. cond (is_slot slot (target_of word)) 1 0) w.config.fields w.words w.headers world.shaped.sound.places,
      )

  -- So the count of a listed slot is that of its row.
  pub counted_holders : (slot : ℕ) → is_in slot ns ≡ true → (slot_at w.collector.counts slot).count ≡ holders_of (sight w) ns slot
  counted_holders slot listed =
      omega (arith, settled.counted slot (listed_taken slot listed), times_roots slot (sight w).registers, listed_fields slot)
