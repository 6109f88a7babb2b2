-- What threads found in the chunks of a frontier, side by side.
use Rattle.std.proofs.Common.{◌≡◌, ℕ, ◌+◌, ◌<◌, ◌++◌, true, false, List, [], ◌∷◌, Option, None, Some, Result, Ok, Err, Vec, Global, Bor, map, take, length, get_or, inl, inr, refl, sym, ap, subst, ◌∙◌, append_assoc}
use Rattle.std.specs.Prelude.{IfOk, MatchResult, Contains}
use Rattle.std.specs.List.{AllZip, flat_map}
use Rattle.std.specs.Option.{is_some}
use Rattle.std.specs.declared.alloc.AllocError.{AllocError}
use Rattle.std.proofs.lemmas.Bool.{cases_Bool, true≢false}
use Rattle.std.proofs.lemmas.Grind.{flat_map-append}
use Rattle.std.proofs.lemmas.List.{map-append, take_more}
use Rattle.rayon.specs.Lists.{chunks_of}
use Rattle.rayon.proofs.ToStd.{chunks_of-concat, slice-AllZip}
use Rattle.rec_word.specs.Word.{target_of}
use Rattle.rec_model.specs.Listing.{number_in}
use Rattle.rec_model.specs.Reach.{is_in, named}
use Rattle.rec_world.specs.Numbering.{number_of}
use Rattle.rec_trace.specs.Children.{children, all_children, unmet}
use Rattle.rec_trace.proofs.Joining.{in_piece, unmet-append}
use Rattle.rec_model.proofs.Named.{named-append}

-- what one word more leads to
named_word : (words : List ℕ) (i : ℕ) → i < length words → named (map target_of (take (i + 1) words)) ≡ named (map target_of (take i words)) ++ named (target_of (get_or words i 0) ∷ [])
named_word words i lt =
    ap (λ ws. named (map target_of ws)) (take_more words i 0 lt)
    ∙ ap named (map-append target_of (take i words) (get_or words i 0 ∷ []))
    ∙ named-append (map target_of (take i words)) (target_of (get_or words i 0) ∷ [])

-- is added where it isn't found yet
pub added_more : (old now more found words : List ℕ) (i : ℕ) (x : Option ℕ) → now ≡ old ++ unmet found (named (map target_of (take i words))) → i < length words → x ≡ target_of (get_or words i 0)
    → more ≡ now ++ unmet found (named (x ∷ [])) → more ≡ old ++ unmet found (named (map target_of (take (i + 1) words)))
added_more old now more found words i x so_far lt is e =
    let before : List ℕ = named (map target_of (take i words)) in
    e ∙ ap (λ y. now ++ unmet found (named (y ∷ []))) is
    ∙ ap (λ ns. ns ++ unmet found (named (target_of (get_or words i 0) ∷ []))) so_far
    ∙ append_assoc old (unmet found before) (unmet found (named (target_of (get_or words i 0) ∷ [])))
    ∙ ap (λ ns. old ++ ns) (sym (unmet-append found before (named (target_of (get_or words i 0) ∷ []))))
    ∙ ap (λ ns. old ++ unmet found ns) (sym (named_word words i lt))

-- a slot without a number isn't found yet
pub unmet_new : (found : List ℕ) (slot : ℕ) (number : Option ℕ) → number ≡ number_of found slot → is_some number ≡ false → unmet found (slot ∷ []) ≡ slot ∷ []
unmet_new found slot number is none = elim (cases_Bool (is_in slot found)) [
  | inl there ↦ absurd (true≢false (sym (ap is_some (is ∙ numbered there)) ∙ none))
  | inr new ↦ rw new refl
]
  where
    numbered : is_in slot found ≡ true → number_of found slot ≡ Some (number_in found slot)
    numbered there = rw there refl

-- and one with a number is
pub unmet_old : (found : List ℕ) (slot : ℕ) (number : Option ℕ) → number ≡ number_of found slot → is_some number ≡ true → unmet found (slot ∷ []) ≡ []
unmet_old found slot number is some = elim (cases_Bool (is_in slot found)) [
  | inl there ↦ rw there refl
  | inr new ↦ absurd (true≢false (sym some ∙ ap is_some (is ∙ unnumbered new)))
]
  where
    unnumbered : is_in slot found ≡ false → ◌≡◌ {A = Option ℕ} (number_of found slot) None
    unnumbered new = rw new refl

-- what each slot of a frontier has, each slot of a chunk has
pub in_chunk : (P : ℕ → Type 0) (size : ℕ) (frontier : List ℕ) → 0 < size → ((n : ℕ) → is_in n frontier ≡ true → P n) → (k : ℕ) (d chunk : List ℕ) → k < length (chunks_of size frontier) → chunk ≡ get_or (chunks_of size frontier) k d
    → (n : ℕ) → is_in n chunk ≡ true → P n
in_chunk P size frontier some each k d chunk lt is n there =
    each n (subst (λ ns. is_in n ns ≡ true) (chunks_of-concat size frontier some) (in_piece (λ ns. ns) (chunks_of size frontier) k d n lt (ap (is_in n) (sym is) ∙ there)))

module _ (found words : List ℕ) (fields : ℕ) where
  -- what was found in a chunk is what its fields lead to and wasn't found before
  abbrev IsFound : List ℕ → Result (Vec ℕ Global) AllocError → Type 0
  IsFound chunk result = IfOk result (λ v. v.items ≡ unmet found (all_children words fields chunk))

  side_by_side : (chunks : List (List ℕ)) (parts : List (Vec ℕ Global)) → AllZip IsFound chunks (map Ok parts) → flat_map (λ (v : Vec ℕ Global). v.items) parts ≡ unmet found (all_children words fields (flat_map (λ chunk. chunk) chunks))
  side_by_side [] [] each = refl
  side_by_side [] (part ∷ parts) each = absurd each
  side_by_side (chunk ∷ chunks) [] each = absurd each
  side_by_side (chunk ∷ chunks) (part ∷ parts) each =
      (λ i. each.0 i ++ side_by_side chunks parts each.1 i)
      ∙ sym (unmet-append found (all_children words fields chunk) (all_children words fields (flat_map (λ chunk. chunk) chunks)))
      ∙ ap (unmet found) (sym (flat_map-append (children words fields) chunk (flat_map (λ chunk. chunk) chunks)))

  -- and in all of them
  pub gathered : (size : ℕ) (frontier : List ℕ) (shown : List (Bor (List ℕ))) (results : List (Result (Vec ℕ Global) AllocError)) (r : Result (Vec (Vec ℕ Global) Global) AllocError) → 0 < size
      → map (λ (z : Bor (List ℕ)). z.now) shown ≡ chunks_of size frontier → AllZip (λ (z : Bor (List ℕ)) result. IsFound z.now result) shown results
      → MatchResult r (λ v. (parts : List (Vec ℕ Global)) × (results ≡ map Ok parts) × (v.items ≡ parts)) (λ e. Contains results (Err e))
      → IfOk r (λ v. flat_map (λ (part : Vec ℕ Global). part.items) v.items ≡ unmet found (all_children words fields frontier))
  gathered size frontier shown results (Err e) some cut each all = tt
  gathered size frontier shown results (Ok v) some cut each (parts, oks, items) =
      ap (flat_map (λ (part : Vec ℕ Global). part.items)) items
      ∙ side_by_side (chunks_of size frontier) parts (subst (AllZip IsFound (chunks_of size frontier)) oks (slice-AllZip shown (chunks_of size frontier) cut IsFound results each))
      ∙ ap (λ ns. unmet found (all_children words fields ns)) (chunks_of-concat size frontier some)
