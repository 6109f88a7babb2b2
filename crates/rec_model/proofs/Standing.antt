-- A heap goes on standing for what is seen: one lemma for each thing that a command does to registers, headers and words.
use Rattle.std.proofs.Common.{◌≡◌, ◌≢◌, ◌⊎◌, inl, inr, ℕ, ◌+◌, ◌-◌, ◌*◌, ◌<◌, List, [], ◌∷◌, ◌++◌, Option, None, Some, Bool, true, false, ◌==◌, slice_index_or, slice_set, length, map, drop, replicate, refl, sym, ap, subst, ◌∙◌, arith}
use Rattle.std.proofs.lemmas.Bool.{false≢true, cond-true, cond-false, eq-eqb, ne_eqb, cases_eq}
use Rattle.std.specs.Option.{option_map}
use Rattle.rec_word.specs.Header.{is_leaf, IsHeaderOf}
use Rattle.rec_word.specs.Place.{place_of}
use Rattle.rec_model.specs.Reach.IsReached.{root, child}
use Rattle.rec_model.specs.Explained.{GoesOnBy, with_number}
use Rattle.std.proofs.Math.ListN.{get_or-map}
use Rattle.std.proofs.lemmas.List.{get_or-take, get_or-drop, get_or-set_same, get_or-set_other, get_or_append_left, get_or_push, length_push, length-set, map-set}
use Rattle.rec_model.proofs.Common.{target_of, named, is_in, Heap, Field, Object, object, field, born, null_field, nothing, register, set_register, roots, with_register, with_field, with_object, Sight, IsTaken, words_of, targets_of, word_at, Reaches, field_of, StandsBy, IsSound, sight_with_register, sight_with_word, sight_with_header}
use Rattle.rec_model.proofs.Names.{named_at, named_set, named_tail, set_register_roots, set_register-map, register-map}
use Rattle.rec_model.proofs.Within.{all_reached}
use Rattle.rec_model.proofs.Words.{words_of-set_same, words_of-set_other, named-nulls}
use Rattle.rec_model.proofs.Members.{is_in-left, is_in-right, is_in-head, is_in-tail}

-- what a register reaches is taken
pub reached_is_taken : (w : Sight) → IsSound w → (slot : ℕ) → Reaches w slot → IsTaken w slot
reached_is_taken w sound = all_reached (IsTaken w) (roots w.registers) (targets_of w) sound.registers (λ m n from taken there. sound.fields m n taken there)

-- what a register may be set to: null, what is reached, or a slot whose fields agree and are all null
abbrev pub MayName : Heap → Sight → (ℕ → ℕ) → Option ℕ → Type 0
MayName heap w number x = (n : ℕ) → x ≡ Some n → Reaches w n ⊎ (((object heap (number n)).fields ≡ map (field_of number) (words_of w n)) × (targets_of w n ≡ []))

-- after a register is set, what is reached was reached, or is the new one
reached_after_register : (heap : Heap) (w : Sight) (number : ℕ → ℕ) (t r : ℕ) (x : Option ℕ) → MayName heap w number x
    → (slot : ℕ) → Reaches (sight_with_register w t r x) slot → Reaches w slot ⊎ (x ≡ Some slot)
reached_after_register heap w number t r x may =
    all_reached (λ slot. Reaches w slot ⊎ (x ≡ Some slot)) (roots (set_register w.registers t r x)) (targets_of w)
    (λ n there. elim (set_register_roots w.registers t r n x there) [ inl old ↦ inl (root n old) | inr is ↦ inr is ])
    (λ m n from before there. elim before [
      | inl old ↦ inl (child m n old there)
      | inr is ↦ elim (may m is) [
        | inl old ↦ inl (child m n old there)
        | inr alone ↦ absurd (false≢true (sym (ap (is_in n) alone.1) ∙ there))
      ]
    ])

-- a register is set, on both sides
pub register_stands : (heap : Heap) (w : Sight) (number : ℕ → ℕ) (t r : ℕ) (x : Option ℕ) → MayName heap w number x
    → StandsBy heap w number → StandsBy (with_register heap t r (option_map number x)) (sight_with_register w t r x) number
register_stands heap w number t r x may by =
    record {
      one_to_one = by.one_to_one;
      there = by.there;
      header = by.header;
      registers = ap (λ rss. set_register rss t r (option_map number x)) by.registers ∙ set_register-map number w.registers t r x;
      fields = λ s from. elim (reached_after_register heap w number t r x may s from) [
        | inl old ↦ by.fields s old
        | inr is ↦ elim (may s is) [ inl old ↦ by.fields s old | inr alone ↦ alone.0 ]
      ];
    }

-- what a register names under the numbering
-- a slot's word, among the words of its slot
pub word_in : (w : Sight) (slot f : ℕ) → f < w.fields → slice_index_or (words_of w slot) f 0 ≡ word_at w slot f
word_in w slot f in_range =
    get_or-take (slot * w.fields + w.fields - slot * w.fields) (drop (slot * w.fields) w.words) f 0 (omega arith) ∙ get_or-drop (slot * w.fields) w.words f 0

pub register_names : (heap : Heap) (w : Sight) (number : ℕ → ℕ) (t r : ℕ) → StandsBy heap w number → register heap.registers t r ≡ option_map number (register w.registers t r)
register_names heap w number t r by = ap (λ rss. register rss t r) by.registers ∙ register-map number w.registers t r

-- a field of what is reached, under the numbering
pub field_agrees : (heap : Heap) (w : Sight) (number : ℕ → ℕ) (slot f : ℕ) → StandsBy heap w number → Reaches w slot → f < w.fields
    → field heap (number slot) f ≡ field_of number (word_at w slot f)
field_agrees heap w number slot f by from in_range =
    ap (λ fs. slice_index_or fs f null_field) (by.fields slot from) ∙ get_or-map (field_of number) (words_of w slot) f 0 ∙ ap (field_of number) (word_in w slot f in_range)

-- setting a register keeps every name in a taken slot
pub register_sound : (w : Sight) (t r : ℕ) (x : Option ℕ) → ((n : ℕ) → x ≡ Some n → IsTaken w n) → IsSound w → IsSound (sight_with_register w t r x)
register_sound w t r x taken sound =
    record {
      places = sound.places;
      registers = λ slot there. elim (set_register_roots w.registers t r slot x there) [ inl old ↦ sound.registers slot old | inr is ↦ taken slot is ];
      fields = sound.fields;
      free = sound.free;
      leaves = sound.leaves;
    }

-- no name changes where two numberings agree on all that is named
names_agree : (number next : ℕ → ℕ) (xs : List (Option ℕ)) → ((n : ℕ) → is_in n (named xs) ≡ true → number n ≡ next n) → map (option_map number) xs ≡ map (option_map next) xs
names_agree number next [] same = refl
names_agree number next (None ∷ xs) same = ap (λ ys. None ∷ ys) (names_agree number next xs same)
names_agree number next (Some n ∷ xs) same =
    let head : number n ≡ next n = same n (is_in-head n (named xs)) in
    let tail : map (option_map number) xs ≡ map (option_map next) xs = names_agree number next xs (λ m there. same m (is_in-tail m n (named xs) there)) in
    (cc)

-- registers, under two numberings that agree on all that they name
pub registers_agree : (number next : ℕ → ℕ) (rss : List (List (Option ℕ))) → ((n : ℕ) → is_in n (roots rss) ≡ true → number n ≡ next n) → map (map (option_map number)) rss ≡ map (map (option_map next)) rss
registers_agree number next [] same = refl
registers_agree number next (rs ∷ rss) same =
    let head : map (option_map number) rs ≡ map (option_map next) rs = names_agree number next rs (λ n there. same n (is_in-left n (named rs) (roots rss) there)) in
    let tail : map (map (option_map number)) rss ≡ map (map (option_map next)) rss = registers_agree number next rss (λ n there. same n (is_in-right n (named rs) (roots rss) there)) in
    (cc)

-- a name, under two numberings that agree on it
option_agree : (number next : ℕ → ℕ) (x : Option ℕ) → ((n : ℕ) → x ≡ Some n → number n ≡ next n) → option_map number x ≡ option_map next x
option_agree number next None same = refl
option_agree number next (Some n) same = ap Some (same n refl)

-- words, under two numberings that agree on all that they name
pub fields_agree : (number next : ℕ → ℕ) (words : List ℕ) → ((n : ℕ) → is_in n (named (map target_of words)) ≡ true → number n ≡ next n) → map (field_of number) words ≡ map (field_of next) words
fields_agree number next [] same = refl
fields_agree number next (word ∷ words) same =
    let first : option_map number (target_of word) ≡ option_map next (target_of word)
    = option_agree number next (target_of word) (λ n is. same n (named_at (target_of word ∷ map target_of words) 0 n is)) in
    let rest : map (field_of number) words ≡ map (field_of next) words
    = fields_agree number next words (λ n there. same n (named_tail (target_of word) (map target_of words) n there)) in
    let head : field_of number word ≡ field_of next word = ap (λ (x : Option ℕ). let y : Field = record { target = x; word = word } in y) first in
    ap (λ (x : Field). x ∷ map (field_of number) words) head ∙ ap (λ (xs : List Field). field_of next word ∷ xs) rest

pub with_number-same : (number : ℕ → ℕ) (slot object : ℕ) → with_number number slot object slot ≡ object
with_number-same number slot object = cond-true (slot == slot) object (number slot) (eq-eqb slot slot refl)

-- another slot keeps its number
pub with_number-other : (number : ℕ → ℕ) (slot object s : ℕ) → s ≢ slot → with_number number slot object s ≡ number s
with_number-other number slot object s other = cond-false (s == slot) object (number s) (ne_eqb s slot other)

-- what was taken is another slot than a free one
pub taken_is_other : (w : Sight) (slot s : ℕ) → slice_index_or w.headers slot 0 ≡ 0 → IsTaken w s → s ≢ slot
taken_is_other w slot s free taken is =
    let same : slice_index_or w.headers s 0 ≡ slice_index_or w.headers slot 0 = ap (λ n. slice_index_or w.headers n 0) is in
    omega arith

-- another slot is taken after a header is set where it was before
taken_before : (w : Sight) (slot header s : ℕ) → s ≢ slot → IsTaken (sight_with_header w slot header) s → IsTaken w s
taken_before w slot header s other taken = subst (λ n. 0 < n) (get_or-set_other w.headers slot s header 0 other) taken

-- the new object has a number of its own
born_apart : (number : ℕ → ℕ) (slot object s t : ℕ) → number t < object → with_number number slot object s ≡ with_number number slot object t → s ≡ slot → t ≢ slot → ⊥
born_apart number slot object s t below same s_is t_other =
    let new : with_number number slot object s ≡ object = ap (with_number number slot object) s_is ∙ with_number-same number slot object in
    let old : with_number number slot object t ≡ number t = with_number-other number slot object t t_other in
    omega arith

-- the last object
pub object_born : (heap : Heap) (x : Object) → object (with_object heap x) (length heap.objects) ≡ x
object_born heap x = get_or_push heap.objects x nothing (length heap.objects) refl

-- the objects before it
object_old : (heap : Heap) (x : Object) (n : ℕ) → n < length heap.objects → object (with_object heap x) n ≡ object heap n
object_old heap x n there = get_or_append_left heap.objects (x ∷ []) nothing n there

-- every numbered object is there after a birth
there_after : (heap : Heap) (x : Object) (number : ℕ → ℕ) (slot s : ℕ) → (s ≢ slot → number s < length heap.objects)
    → with_number number slot (length heap.objects) s < length (heap.objects ++ x ∷ [])
there_after heap x number slot s there =
    let more : length (heap.objects ++ x ∷ []) ≡ length heap.objects + 1 = length_push heap.objects x in
    elim (cases_eq s slot) [
      | inl is ↦
          let new : with_number number slot (length heap.objects) s ≡ length heap.objects = ap (with_number number slot (length heap.objects)) is ∙ with_number-same number slot (length heap.objects) in
          omega arith
      | inr other ↦
          let old : with_number number slot (length heap.objects) s ≡ number s = with_number-other number slot (length heap.objects) s other in
          let below : number s < length heap.objects = there other in
          omega arith
    ]

-- the header is that of this object
abbrev IsHeaderFor : Object → (header : ℕ) → Type 0
IsHeaderFor x header = IsHeaderOf x.leaf x.label header

-- so is an equal one of an equal object
header_of : {x y : Object} {header other : ℕ} → ◌≡◌ {A = Object} x y → header ≡ other → IsHeaderFor x header → IsHeaderFor y other
header_of {x} {y} {header} {other} same also its = subst (λ (o : Object). IsHeaderFor o other) same (subst (IsHeaderFor x) also its)

-- an object is born in a free slot, on both sides; nothing names it yet
pub birth_stands : (heap : Heap) (w : Sight) (number : ℕ → ℕ) (leaf : Bool) (slot label header : ℕ) → IsSound w → slot < length w.headers → slice_index_or w.headers slot 0 ≡ 0
    → IsHeaderOf leaf label header → StandsBy heap w number
    → StandsBy (with_object heap (born leaf w.fields label)) (sight_with_header w slot header) (with_number number slot (length heap.objects))
birth_stands heap w number leaf slot label header sound in_range free its by =
    let next : ℕ → ℕ = with_number number slot (length heap.objects) in
    let old : (s : ℕ) → s ≢ slot → next s ≡ number s = with_number-other number slot (length heap.objects) in
    let apart : (s : ℕ) → IsTaken w s → number s ≡ next s = λ s taken. sym (old s (taken_is_other w slot s free taken)) in
    let before : (s : ℕ) → s ≢ slot → IsTaken (sight_with_header w slot header) s → IsTaken w s = taken_before w slot header in
    record {
      one_to_one = λ s t s_taken t_taken same. elim (cases_eq s slot) [
        | inl s_is ↦ elim (cases_eq t slot) [
          | inl t_is ↦ s_is ∙ sym t_is
          | inr t_other ↦ absurd (born_apart number slot (length heap.objects) s t (by.there t (before t t_other t_taken)) same s_is t_other)
        ]
        | inr s_other ↦ elim (cases_eq t slot) [
          | inl t_is ↦ absurd (born_apart number slot (length heap.objects) t s (by.there s (before s s_other s_taken)) (sym same) t_is s_other)
          | inr t_other ↦ by.one_to_one s t (before s s_other s_taken) (before t t_other t_taken) (sym (old s s_other) ∙ same ∙ old t t_other)
        ]
      ];
      there = λ s s_taken. there_after heap (born leaf w.fields label) number slot s (λ other. by.there s (before s other s_taken));
      header = λ s s_taken. elim (cases_eq s slot) [
        | inl s_is ↦
            let P : ℕ → Type 0 = λ n. IsHeaderFor (object (with_object heap (born leaf w.fields label)) (next n)) (slice_index_or (slice_set w.headers slot header) n 0) in
            let same : object (with_object heap (born leaf w.fields label)) (next slot) ≡ born leaf w.fields label
            = ap (object (with_object heap (born leaf w.fields label))) (with_number-same number slot (length heap.objects)) ∙ object_born heap (born leaf w.fields label) in
            subst P (sym s_is) (header_of (sym same) (sym (get_or-set_same w.headers slot header 0 in_range)) its)
        | inr s_other ↦
            let same : object (with_object heap (born leaf w.fields label)) (next s) ≡ object heap (number s)
            = ap (object (with_object heap (born leaf w.fields label))) (old s s_other) ∙ object_old heap (born leaf w.fields label) (number s) (by.there s (before s s_other s_taken)) in
            header_of (sym same) (sym (get_or-set_other w.headers slot s header 0 s_other)) (by.header s (before s s_other s_taken))
      ];
      registers = by.registers ∙ registers_agree number next w.registers (λ n there. apart n (sound.registers n there));
      fields = λ s from.
          let taken : IsTaken w s = reached_is_taken w sound s from in
          ap (λ n. (object (with_object heap (born leaf w.fields label)) n).fields) (sym (apart s taken))
          ∙ ap (λ (x : Object). x.fields) (object_old heap (born leaf w.fields label) (number s) (by.there s taken))
          ∙ by.fields s from
          ∙ fields_agree number next (words_of w s) (λ n there. apart n (sound.fields s n taken there));
    }

-- what was taken stays taken at a birth
taken_stays : (w : Sight) (slot header s : ℕ) → slice_index_or w.headers slot 0 ≡ 0 → IsTaken w s → IsTaken (sight_with_header w slot header) s
taken_stays w slot header s free taken = subst (λ n. 0 < n) (sym (get_or-set_other w.headers slot s header 0 (taken_is_other w slot s free taken))) taken

-- every object keeps its number at a birth, and the new one has its own
pub birth_numbers : (heap : Heap) (w : Sight) (number : ℕ → ℕ) (slot header object t r : ℕ) (x : Option ℕ) → slice_index_or w.headers slot 0 ≡ 0
    → StandsBy heap (sight_with_register (sight_with_header w slot header) t r x) (with_number number slot object)
    → GoesOnBy heap w (sight_with_register (sight_with_header w slot header) t r x) number (with_number number slot object) object
birth_numbers heap w number slot header object t r x free by =
    record {
      stands = by;
      kept = λ s taken. (taken_stays w slot header s free taken, with_number-other number slot object s (taken_is_other w slot s free taken));
      born = λ s taken new. elim (cases_eq s slot) [
        | inl is ↦ ap (with_number number slot object) is ∙ with_number-same number slot object
        | inr other ↦ absurd (new (taken_before w slot header s other taken))
      ];
    }

-- a birth keeps every name in a taken slot
pub birth_sound : (w : Sight) (slot header : ℕ) → slot < length w.headers → slice_index_or w.headers slot 0 ≡ 0 → IsSound w → IsSound (sight_with_header w slot header)
birth_sound w slot header in_range free sound =
    let stays : (s : ℕ) → IsTaken w s → IsTaken (sight_with_header w slot header) s = λ s. taken_stays w slot header s free in
    record {
      places = sound.places ∙ ap (λ n. n * w.fields) (sym (length-set w.headers slot header));
      registers = λ s there. stays s (sound.registers s there);
      fields = λ s n taken there. elim (cases_eq s slot) [
        | inl is ↦
            let nulls : words_of w slot ≡ replicate w.fields 0 = sound.free slot in_range (λ old. taken_is_other w slot slot free old refl) in
            let none : targets_of w s ≡ [] = ap (targets_of w) is ∙ ap (λ ws. named (map target_of ws)) nulls ∙ named-nulls w.fields in
            absurd (false≢true (sym (ap (is_in n) none) ∙ there))
        | inr other ↦ stays n (sound.fields s n (taken_before w slot header s other taken) there)
      ];
      free = λ s there open_slot. sound.free s (subst (λ n. s < n) (length-set w.headers slot header) there) (λ taken. open_slot (stays s taken));
      leaves = λ s leaf. elim (cases_eq s slot) [
        | inl is ↦ ap (words_of w) is ∙ sound.free slot in_range (λ old. taken_is_other w slot slot free old refl)
        | inr other ↦ sound.leaves s (sym (ap is_leaf (get_or-set_other w.headers slot s header 0 other)) ∙ leaf)
      ];
    }

-- what a slot names after a write was named before, or is named by the word
targets_after_write : (w : Sight) (slot f word s n : ℕ) → f < w.fields → is_in n (targets_of (sight_with_word w slot f word) s) ≡ true → (is_in n (targets_of w s) ≡ true) ⊎ (target_of word ≡ Some n)
targets_after_write w slot f word s n in_range there = elim (cases_eq s slot) [
  | inl is ↦
      let own : map target_of (words_of (sight_with_word w slot f word) s) ≡ slice_set (map target_of (words_of w s)) f (target_of word)
      = let P : ℕ → Type 0 = λ m. map target_of (words_of (sight_with_word w slot f word) m) ≡ slice_set (map target_of (words_of w m)) f (target_of word) in
      subst P (sym is) (ap (map target_of) (words_of-set_same w slot f word in_range) ∙ map-set target_of (words_of w slot) f word) in
      named_set (map target_of (words_of w s)) f n (target_of word) (sym (ap (λ xs. is_in n (named xs)) own) ∙ there)
  | inr other ↦ inl (sym (ap (λ ws. is_in n (named (map target_of ws))) (words_of-set_other w slot f word s in_range other)) ∙ there)
]

-- what is reached after a write of what is reached was reached
reached_after_write : (w : Sight) (slot f word : ℕ) → f < w.fields → ((n : ℕ) → target_of word ≡ Some n → Reaches w n) → (s : ℕ) → Reaches (sight_with_word w slot f word) s → Reaches w s
reached_after_write w slot f word in_range may =
    all_reached (Reaches w) (roots w.registers) (targets_of (sight_with_word w slot f word)) (λ n there. root n there)
    (λ m n from before there. elim (targets_after_write w slot f word m n in_range there) [ inl old ↦ child m n before old | inr is ↦ may n is ])

-- the object written
object_written : (heap : Heap) (n f : ℕ) (x : Field) → n < length heap.objects → object (with_field heap n f x) n ≡ record (object heap n) { fields = slice_set (object heap n).fields f x }
object_written heap n f x there = get_or-set_same heap.objects n (record (object heap n) { fields = slice_set (object heap n).fields f x }) nothing there

-- the other objects
object_unwritten : (heap : Heap) (n f m : ℕ) (x : Field) → m ≢ n → object (with_field heap n f x) m ≡ object heap m
object_unwritten heap n f m x other = get_or-set_other heap.objects n m (record (object heap n) { fields = slice_set (object heap n).fields f x }) nothing other

-- a write keeps every header
header_unwritten : (heap : Heap) (n f m header : ℕ) (x : Field) → n < length heap.objects → IsHeaderFor (object heap m) header → IsHeaderFor (object (with_field heap n f x) m) header
header_unwritten heap n f m header x there its = elim (cases_eq m n) [
  | inl is ↦
      let P : ℕ → Type 0 = λ k. IsHeaderFor (object (with_field heap n f x) k) header in
      subst P (sym is) (subst (λ (o : Object). IsHeaderFor o header) (sym (object_written heap n f x there)) (subst (λ k. IsHeaderFor (object heap k) header) is its))
  | inr other ↦ subst (λ (o : Object). IsHeaderFor o header) (sym (object_unwritten heap n f m x other)) its
]

-- a field of what is reached is written, on both sides
pub write_stands : (heap : Heap) (w : Sight) (number : ℕ → ℕ) (slot f word : ℕ) → IsSound w → f < w.fields → Reaches w slot → ((n : ℕ) → target_of word ≡ Some n → Reaches w n)
    → StandsBy heap w number → StandsBy (with_field heap (number slot) f (field_of number word)) (sight_with_word w slot f word) number
write_stands heap w number slot f word sound in_range from may by =
    let taken : IsTaken w slot = reached_is_taken w sound slot from in
    let there : number slot < length heap.objects = by.there slot taken in
    let x : Field = field_of number word in
    record {
      one_to_one = by.one_to_one;
      there = λ s s_taken. subst (λ n. number s < n) (sym (length-set heap.objects (number slot) (record (object heap (number slot)) { fields = slice_set (object heap (number slot)).fields f x }))) (by.there s s_taken);
      header = λ s s_taken. header_unwritten heap (number slot) f (number s) (slice_index_or w.headers s 0) x there (by.header s s_taken);
      registers = by.registers;
      fields = λ s after.
          let before : Reaches w s = reached_after_write w slot f word in_range may s after in
          elim (cases_eq s slot) [
            | inl is ↦
                let P : ℕ → Type 0 = λ n. (object (with_field heap (number slot) f x) (number n)).fields ≡ map (field_of number) (words_of (sight_with_word w slot f word) n) in
                subst P (sym is)
                (ap (λ (o : Object). o.fields) (object_written heap (number slot) f x there)
                ∙ ap (λ fs. slice_set fs f x) (by.fields slot from)
                ∙ sym (map-set (field_of number) (words_of w slot) f word)
                ∙ ap (map (field_of number)) (sym (words_of-set_same w slot f word in_range)))
            | inr other ↦
                ap (λ (o : Object). o.fields) (object_unwritten heap (number slot) f (number s) x (λ same. other (by.one_to_one s slot (reached_is_taken w sound s before) taken same)))
                ∙ by.fields s before
                ∙ ap (map (field_of number)) (sym (words_of-set_other w slot f word s in_range other))
          ];
    }

-- a write of a name of a taken slot keeps every name in a taken slot
pub write_sound : (w : Sight) (slot f word : ℕ) → f < w.fields → IsTaken w slot → is_leaf (slice_index_or w.headers slot 0) ≡ false → ((n : ℕ) → target_of word ≡ Some n → IsTaken w n) → IsSound w → IsSound (sight_with_word w slot f word)
write_sound w slot f word in_range taken unmarked may sound =
    record {
      places = length-set w.words (place_of slot f w.fields) word ∙ sound.places;
      registers = sound.registers;
      fields = λ s n s_taken there. elim (targets_after_write w slot f word s n in_range there) [ inl old ↦ sound.fields s n s_taken old | inr is ↦ may n is ];
      free = λ s there open_slot. words_of-set_other w slot f word s in_range (λ is. open_slot (subst (IsTaken w) (sym is) taken)) ∙ sound.free s there open_slot;
      leaves = λ s leaf. words_of-set_other w slot f word s in_range (λ is. false≢true (sym unmarked ∙ sym (ap (λ n. is_leaf (slice_index_or w.headers n 0)) is) ∙ leaf)) ∙ sound.leaves s leaf;
    }
