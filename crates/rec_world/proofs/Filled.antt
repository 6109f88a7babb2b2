-- A numbering that has come to a slot: the fields of that slot join, and it is complete where no slot is left.
use Rattle.std.proofs.Common.{inl, inr, ◌≡◌, ℕ, ◌+◌, ◌*◌, ◌<◌, ◌≤◌, ◌++◌, Option, None, true, List, [], ◌∷◌, All, map, take, length, get_or, sym, ◌∙◌, ap, append_assoc, append-nil, subst, arith, length-append}
use Rattle.std.specs.List.{flat_map}
use Rattle.std.specs.Option.{IfSome}
use Rattle.std.specs.Prelude.{slice_range}
use Rattle.std.proofs.lemmas.List.{take_more, take-append-le, get_or-map, length-map, take-map, get_or_default}
use Rattle.std.proofs.lemmas.List.Elements.{All-get_or}
use Rattle.std.proofs.lemmas.Bool.{false≢true}
use Rattle.std.proofs.lemmas.Grind.{flat_map-append}
use Rattle.std.proofs.Math.ListN.{get_or-map as list_get_or-map}
use Rattle.std.proofs.Math.Nat.{mul-le-mul_right}
use Rattle.rec_world.proofs.Common.{Private, nobody}
use Rattle.rec_word.specs.Word.{target_of}
use Rattle.rec_model.specs.Reach.{named, is_in}
use Rattle.rec_model.specs.Reach.IsReached.{child, root}
use Rattle.rec_model.specs.Numbering.{firsts, firsts_after, joined}
use Rattle.rec_model.specs.Heap.{roots}
use Rattle.rec_model.specs.Sight.{Sight, Reaches, targets_of}
use Rattle.rec_model.proofs.Firsts.{joined-append, joined-cases}
use Rattle.rec_model.proofs.Members.{of_all, all_of}
use Rattle.rec_model.proofs.Named.{joined-step, named-at}
use Rattle.rec_world.specs.Numbering.{sight_of, NamesBelow}

-- the target of the next word joins those before it
pub joined-word : (first met more : List ℕ) (x : Option ℕ) (words : List ℕ) (i : ℕ) → met ≡ joined first (named (map target_of (take i words))) → x ≡ target_of (get_or words i 0) → i < length words → more ≡ joined met (named (x ∷ [])) → more ≡ joined first (named (map target_of (take (i + 1) words)))
joined-word first met more x words i so_far at within e =
    joined-step first met more x (map target_of words) i
    (so_far ∙ ap (λ xs. joined first (named xs)) (sym (take-map target_of i words)))
    (at ∙ sym (get_or-map target_of words i 0 None within))
    (rw length-map within)
    e
    ∙ ap (λ xs. joined first (named xs)) (take-map target_of (i + 1) words)

-- what one word leads to, they all name
pub target-at : (P : ℕ → Type 0) (words : List ℕ) → ((n : ℕ) → is_in n (named (map target_of words)) ≡ true → P n) → (i : ℕ) → i < length words → IfSome (target_of (get_or words i 0)) P
target-at P words h i within = subst (λ x. IfSome x P) (get_or-map target_of words i 0 None within) (named-at P (map target_of words) h i)

-- the list after the first slots have their fields met
pub record IsFilled (w : Sight) (next : ℕ) (list : List ℕ) : Type 0 where
  pub within : next ≤ length list
  pub order : list ≡ firsts (roots w.registers ++ flat_map (targets_of w) (take next list))
  pub reached : All (Reaches w) list

-- at first the roots are met
filled_first : (w : Sight) (list : List ℕ) → list ≡ firsts (roots w.registers) → IsFilled w 0 list
filled_first w list e = record {
  within = omega arith;
  order = e ∙ ap firsts (sym (append-nil (roots w.registers)));
  reached = all_of (Reaches w) list (λ n h. elim (joined-cases n [] (roots w.registers) (rw e at h)) [ inl none ↦ absurd (false≢true none) | inr there ↦ root n there ]);
}

-- then the fields of the next slot
filled_next : (w : Sight) (next slot : ℕ) (list more : List ℕ) → IsFilled w next list → next < length list → slot ≡ get_or list next slot → more ≡ joined list (targets_of w slot) → IsFilled w (next + 1) more
filled_next w next slot list more filled in_list at_next joins =
    let fields : ℕ → List ℕ = targets_of w in
    let front : List ℕ = flat_map fields (take next list) in
    let taken : take (next + 1) more ≡ take next list ++ slot ∷ [] =
    ap (take (next + 1)) joins
    ∙ take-append-le (next + 1) list (firsts_after list (fields slot)) (omega arith)
    ∙ take_more list next slot in_list
    ∙ ap (λ n. take next list ++ n ∷ []) (sym at_next) in
    let met : flat_map fields (take (next + 1) more) ≡ front ++ fields slot =
    ap (flat_map fields) taken ∙ flat_map-append fields (take next list) (slot ∷ []) ∙ ap (λ ns. front ++ ns) (append-nil (fields slot)) in
    record {
      within = rw joins (omega (arith, length-append list (firsts_after list (fields slot))));
      order = joins
          ∙ ap (λ ns. joined ns (fields slot)) filled.order
          ∙ sym (joined-append [] (roots w.registers ++ front) (fields slot))
          ∙ ap firsts (append_assoc (roots w.registers) front (fields slot) ∙ ap (λ ns. roots w.registers ++ ns) (sym met));
      reached = all_of (Reaches w) more (λ n h. elim (joined-cases n list (fields slot) (rw joins at h)) [
        | inl there ↦ of_all (Reaches w) list filled.reached n there
        | inr named_here ↦ child slot n (subst (Reaches w) (sym at_next) (All-get_or (Reaches w) list next slot in_list filled.reached)) named_here
      ]);
    }

-- the fields of a slot stand among the words
pub fields_end : (slot slots fields : ℕ) → slot < slots → slot * fields + fields ≤ slots * fields
fields_end slot slots fields lt =
    let more : slot + 1 ≤ slots = omega arith in
    let e : (slot + 1) * fields ≤ slots * fields = mul-le-mul_right fields more in
    omega (arith, e)

-- the registers joined an empty list
pub filled_registers : (registers : List (List (Option ℕ))) (words : List ℕ) (fields : ℕ) (empty list : List ℕ) → empty ≡ [] → list ≡ joined empty (roots registers) → IsFilled (sight_of registers words fields) 0 list
filled_registers registers words fields empty list none e = filled_first (sight_of registers words fields) list (e ∙ ap (λ ns. joined ns (roots registers)) none)

-- the registers of one mutator more joined the list
pub joined_registers : (first met more : List ℕ) (own : List (Option ℕ)) (registers : List (List (Option ℕ))) (i : ℕ) → met ≡ joined first (roots (take i registers)) → own ≡ get_or registers i [] → i < length registers
    → more ≡ joined met (named own) → more ≡ joined first (roots (take (i + 1) registers))
joined_registers first met more own registers i so_far at within e =
    let parts : roots (take (i + 1) registers) ≡ roots (take i registers) ++ named own
    = ap roots (take_more registers i [] within ∙ ap (λ rs. take i registers ++ rs ∷ []) (sym at)) ∙ flat_map-append named (take i registers) (own ∷ []) ∙ ap (λ ns. roots (take i registers) ++ ns) (append-nil (named own)) in
    e ∙ ap (λ ns. joined ns (named own)) so_far ∙ sym (joined-append first (roots (take i registers)) (named own)) ∙ ap (joined first) (sym parts)

-- a slot that is reached has a name
pub reached_below : (w : Sight) (slots : ℕ) → NamesBelow w slots → (slot : ℕ) → Reaches w slot → slot < slots
reached_below w slots names slot (root n there) = names.registers n there
reached_below w slots names slot (child m n from there) = names.fields m n there

-- the words of a slot joined the list; the slot and the number of fields were read and widened
pub filled_fields : (registers : List (List (Option ℕ))) (words : List ℕ) (fields next slot wide again : ℕ) (list now more : List ℕ) → IsFilled (sight_of registers words fields) next list → now ≡ list → next < length list → slot ≡ get_or now next 0 → wide ≡ fields → again ≡ fields → more ≡ joined list (named (map target_of (slice_range words (slot * wide) (slot * wide + again)))) → IsFilled (sight_of registers words fields) (next + 1) more
filled_fields registers words fields next slot wide again list now more filled same in_list at_next e f joins =
    filled_next (sight_of registers words fields) next slot list more filled in_list
    (at_next ∙ ap (λ ns. get_or ns next 0) same ∙ get_or_default list next 0 slot in_list)
    (joins ∙ ap (λ n. joined list (named (map target_of (slice_range words (slot * n) (slot * n + again))))) e ∙ ap (λ n. joined list (named (map target_of (slice_range words (slot * fields) (slot * fields + n))))) f)

-- and they stand among all the words
pub fields_within : (registers : List (List (Option ℕ))) (words : List ℕ) (fields next slot wide again slots : ℕ) (list now : List ℕ) → IsFilled (sight_of registers words fields) next list → NamesBelow (sight_of registers words fields) slots → length words ≡ slots * fields → now ≡ list → next < length list → slot ≡ get_or now next 0 → wide ≡ fields → again ≡ fields → slot * wide + again ≤ length words
fields_within registers words fields next slot wide again slots list now filled names places same in_list at_next e f =
    let reached : Reaches (sight_of registers words fields) (get_or list next 0) = All-get_or (Reaches (sight_of registers words fields)) list next 0 in_list filled.reached in
    let here : slot ≡ get_or list next 0 = at_next ∙ ap (λ ns. get_or ns next 0) same in
    let below : slot < slots = rw here (reached_below (sight_of registers words fields) slots names (get_or list next 0) reached) in
    rw (e, f, places) (fields_end slot slots fields below)

-- the registers of a mutator that was read from a list
pub own_at : (ms : List Private) (p : Private) (own : List (Option ℕ)) (i : ℕ) → i < length ms → p ≡ get_or ms i p → own ≡ p.registers → own ≡ get_or (map (λ (x : Private). x.registers) ms) i []
own_at ms p own i there read is =
    is ∙ ap (λ (x : Private). x.registers) (read ∙ get_or_default ms i p nobody there) ∙ sym (list_get_or-map (λ (x : Private). x.registers) ms i nobody)
