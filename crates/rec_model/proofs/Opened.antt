-- The opening heap stands for what is seen at opening.
use Rattle.std.proofs.Common.{◌≡◌, inl, inr, ℕ, ◌+◌, ◌-◌, ◌*◌, ◌<◌, ◌≤◌, zero, suc, List, [], ◌∷◌, Option, None, Some, true, false, ◌==◌, slice_index_or, length, map, take, replicate, refl, sym, ap, subst, ◌∙◌, arith, lit<}
use Rattle.std.proofs.Math.Nat.{mul-le-mul_left}
use Rattle.std.proofs.lemmas.Bool.{eqb-true, or_cases, false≢true, cases_lt}
use Rattle.std.proofs.lemmas.List.{get_or_past, get_or-replicate, length-replicate, drop-replicate, take-replicate}
use Rattle.std.specs.Option.{option_map}
use Rattle.rec_model.proofs.Common.{target_of, named, is_in, opening, roots, Sight, IsTaken, words_of, targets_of, field_of, StandsBy, Represents, IsSound, opening_sight}
use Rattle.rec_word.specs.Header.{is_leaf, IsHeaderOf}
use Rattle.rec_word.proofs.Headers.{leaf_taken}
use Rattle.rec_model.specs.Unfreed.{AreUnfreed}
use Rattle.rec_model.proofs.Members.{is_in-head, is_in-cons, is_in-cases}
use Rattle.rec_model.proofs.Standing.{reached_is_taken}
use Rattle.rec_model.proofs.Words.{named-nulls, null_fields}

-- nulls name nothing
pub named-nones : (n : ℕ) → named (replicate n None) ≡ []
named-nones zero = refl
named-nones (suc n) = named-nones n

-- the registers of a mutator at opening name slot 0
first_register : (registers n : ℕ) → is_in n (named (Some 0 ∷ replicate (registers - 1) None)) ≡ true → n ≡ 0
first_register registers n there = elim (or_cases (0 == n) (is_in n (named (replicate (registers - 1) None))) there) [
  | inl is ↦ sym (eqb-true 0 n is)
  | inr rest ↦ absurd (false≢true (sym (ap (is_in n) (named-nones (registers - 1))) ∙ rest))
]

-- and so do those of all mutators
first_registers : (registers mutators n : ℕ) → is_in n (roots (replicate mutators (Some 0 ∷ replicate (registers - 1) None))) ≡ true → n ≡ 0
first_registers registers zero n there = absurd (false≢true there)
first_registers registers (suc mutators) n there =
    elim (is_in-cases n (named (Some 0 ∷ replicate (registers - 1) None)) (roots (replicate mutators (Some 0 ∷ replicate (registers - 1) None))) there) [
      | inl own ↦ first_register registers n own
      | inr others ↦ first_registers registers mutators n others
    ]

-- a free slot's header
pub nulls_at : (n s : ℕ) → slice_index_or {A = ℕ} (replicate n 0) s 0 ≡ 0
nulls_at n s = elim (cases_lt s n) [
  | inl there ↦ get_or-replicate n s 0 0 there
  | inr past ↦ get_or_past (replicate n 0) s 0 (subst (λ m. m ≤ s) (sym (length-replicate n 0)) past)
]

-- only slot 0 is taken
only_first : (slots fields registers mutators s : ℕ) → IsTaken (opening_sight slots fields registers mutators) s → s ≡ 0
only_first slots fields registers mutators zero taken = refl
only_first slots fields registers mutators (suc s) taken = let zero_there : slice_index_or {A = ℕ} (replicate (slots - 1) 0) s 0 ≡ 0 = nulls_at (slots - 1) s in absurd (omega arith)

-- every slot's words are null
null_words : (slots fields registers mutators s : ℕ) → s < slots → words_of (opening_sight slots fields registers mutators) s ≡ replicate fields 0
null_words slots fields registers mutators s there =
    let next : fields * (s + 1) ≤ fields * slots = mul-le-mul_left fields (omega arith) in
    let many : s * fields + fields - s * fields ≡ fields = omega arith in
    ap (take (s * fields + fields - s * fields)) (drop-replicate (s * fields) (slots * fields) 0)
    ∙ take-replicate (s * fields + fields - s * fields) (slots * fields - s * fields) 0 (omega (arith, next))
    ∙ ap (λ n. replicate n 0) many

-- as many headers as slots
length_headers : (slots : ℕ) → 0 < slots → length {A = ℕ} (1 ∷ replicate (slots - 1) 0) ≡ slots
length_headers slots some = let rest : length {A = ℕ} (replicate (slots - 1) 0) ≡ slots - 1 = length-replicate (slots - 1) 0 in omega arith

-- registers and fields name taken slots
opening_sound : (slots fields registers mutators : ℕ) → 0 < slots → IsSound (opening_sight slots fields registers mutators)
opening_sound slots fields registers mutators some =
    record {
      places = length-replicate (slots * fields) 0 ∙ ap (λ n. n * fields) (sym (length_headers slots some));
      registers = λ n there. let P : ℕ → Type 0 = λ s. IsTaken (opening_sight slots fields registers mutators) s in subst P (sym (first_registers registers mutators n there)) (lit< tt);
      fields = λ s n taken there.
          let none : targets_of (opening_sight slots fields registers mutators) s ≡ []
          = ap (targets_of (opening_sight slots fields registers mutators)) (only_first slots fields registers mutators s taken)
          ∙ ap (λ ws. named (map target_of ws)) (null_words slots fields registers mutators 0 some) ∙ named-nulls fields in
          absurd (false≢true (sym (ap (is_in n) none) ∙ there));
      free = λ s there open_slot. null_words slots fields registers mutators s (subst (λ n. s < n) (length_headers slots some) there);
      leaves = λ s leaf.
          let P : ℕ → Type 0 = λ n. is_leaf (slice_index_or (opening_sight slots fields registers mutators).headers n 0) ≡ true in
          let taken : IsTaken (opening_sight slots fields registers mutators) s = leaf_taken (slice_index_or (opening_sight slots fields registers mutators).headers s 0) leaf in
          let no : false ≡ true = subst P (only_first slots fields registers mutators s taken) leaf in
          absurd (false≢true no);
    }

-- a list of one value, under a function
pub map-replicate : {A B : Type 0} (f : A → B) (n : ℕ) (x : A) → map f (replicate n x) ≡ replicate n (f x)
map-replicate f zero x = refl
map-replicate f (suc n) x = ap (λ xs. f x ∷ xs) (map-replicate f n x)

-- every slot's number at opening
abbrev pub opening_number : ℕ → ℕ
opening_number _ = 0

-- the object in slot 0, as every register of number 0 names it
pub opening_stands_by : (slots fields registers mutators : ℕ) → 0 < slots → StandsBy (opening fields registers mutators) (opening_sight slots fields registers mutators) opening_number
opening_stands_by slots fields registers mutators some =
    let w : Sight = opening_sight slots fields registers mutators in
    let first : (s : ℕ) → IsTaken w s → s ≡ 0 = only_first slots fields registers mutators in
    let own : Some 0 ∷ replicate (registers - 1) None ≡ map (option_map opening_number) (Some 0 ∷ replicate (registers - 1) None)
    = ap (λ (xs : List (Option ℕ)). Some 0 ∷ xs) (sym (map-replicate (option_map opening_number) (registers - 1) None)) in
    record {
      one_to_one = λ s t s_taken t_taken same. first s s_taken ∙ sym (first t t_taken);
      there = λ s taken. lit< tt;
      header = λ s taken. let P : ℕ → Type 0 = λ n. IsHeaderOf false 0 (slice_index_or w.headers n 0) in subst P (sym (first s taken)) (record { leaf = refl; label = refl });
      registers = ap (replicate mutators) own ∙ sym (map-replicate (map (option_map opening_number)) mutators (Some 0 ∷ replicate (registers - 1) None));
      fields = λ s from.
          let is : s ≡ 0 = first s (reached_is_taken w (opening_sound slots fields registers mutators some) s from) in
          null_fields opening_number fields ∙ ap (map (field_of opening_number)) (sym (ap (words_of w) is ∙ null_words slots fields registers mutators 0 some));
    }

pub opening_stands : (slots fields registers mutators : ℕ) → 0 < slots → Represents (opening fields registers mutators) (opening_sight slots fields registers mutators)
opening_stands slots fields registers mutators some = (opening_number, opening_stands_by slots fields registers mutators some)

-- that object is unfreed, and no other
pub opening_unfreed : (slots fields registers mutators : ℕ) → AreUnfreed (opening_sight slots fields registers mutators) opening_number (0 ∷ [])
opening_unfreed slots fields registers mutators =
    record {
      distinct = (refl, tt);
      there = λ s taken. is_in-head 0 [];
      taken = λ n there. elim (is_in-cons n 0 [] there) [ inl is ↦ (0, lit< tt, is) | inr none ↦ absurd (false≢true none) ];
    }
