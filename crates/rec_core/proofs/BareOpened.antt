-- A heap of dated words as it is opened has the bare words of a heap as it is opened.
use Rattle.std.proofs.Common.{◌≡◌, true, false, ℕ, zero, suc, ◌+◌, ◌-◌, ◌*◌, ◌^◌, ◌<◌, ◌≤◌, Option, None, Some, List, [], ◌∷◌, ◌++◌, All, length, map, replicate, refl, ap, ◌∙◌, arith}
use Rattle.std.proofs.lemmas.List.{map-append}
use Rattle.std.proofs.lemmas.List.Elements.{All-head, All-tail}
use Rattle.rec_word.specs.Bare.{bare}
use Rattle.rec_word.specs.Word.{IsTarget}
use Rattle.rec_word.proofs.Bare.{bare_small, packed_small}
use Rattle.rec_log.specs.Words.{buffer_by}
use Rattle.rec_log.specs.declared.contents.Contents.{Contents}
use Rattle.rec_mutator.specs.Bare as mutators
use Rattle.rec_mutator.specs.Private.{Private}
use Rattle.rec_collector.specs.Private as collectors
use Rattle.rec_core.specs.Bare.{bare_core}
use Rattle.rec_core.specs.Config.{IsConfig}
use Rattle.rec_core.specs.Core.{spare_of, all_holding_by, heap_from_by, holding_by}
use Rattle.rec_core.specs.Objects.{AreObjects, HaveLabels, Objects, early_stamp, early_word, early_words, rows_of}
use Rattle.rec_core.specs.declared.config.Config.{Config}
use Rattle.rec_core.proofs.EarlyWords.{early_is}
use Rattle.rec_core.proofs.OpenedFromSeen.{all_targets, few_fields}

-- what is the same changed is the same changed anywhere
replicate_same : {X : Type 0} (f : X → X) (x : X) → f x ≡ x → (n : ℕ) → map f (replicate n x) ≡ replicate n x
replicate_same f x same zero = refl
replicate_same f x same (suc n) = let rest = replicate_same f x same n in (λ i. same i ∷ rest i)

word_same : (p : ℕ) (x : Option ℕ) → p < 2 ^ 42 → IsTarget x → bare (early_word p x) ≡ early_word p x
word_same p None small is = refl
word_same p (Some slot) small is = bare_small (early_word p (Some slot)) (packed_small (Some slot) (early_stamp p) is (early_is p small))

words_same : (p : ℕ) (xs : List (Option ℕ)) → p + length xs ≤ 2 ^ 42 → All IsTarget xs → map bare (early_words p xs) ≡ early_words p xs
words_same p [] few all = refl
words_same p (x ∷ xs) few all =
    let first : bare (early_word p x) ≡ early_word p x = word_same p x (omega arith) (All-head IsTarget x xs all) in
    let rest : map bare (early_words (p + 1) xs) ≡ early_words (p + 1) xs = words_same (p + 1) xs (omega arith) (All-tail IsTarget x xs all) in
    (λ i. first i ∷ rest i)

holding_same : (config : Config) (t : ℕ) (rows : List (List (Option ℕ))) → map mutators.bare_private (all_holding_by true config t rows) ≡ all_holding_by false config t rows
holding_same config t [] = refl
holding_same config t (held ∷ rows) = ap (λ (ms : List Private). holding_by false config t held ∷ ms) (holding_same config (t + 1) rows)

retired_same : (capacity : ℕ) (rows : List (List (Option ℕ))) → map (buffer_by bare) (map (λ own. collectors.retired own capacity) rows) ≡ map (λ own. collectors.retired own capacity) rows
retired_same capacity [] = refl
retired_same capacity (own ∷ rows) = ap (λ (bs : List Contents). collectors.retired own capacity ∷ bs) (retired_same capacity rows)

module _ (config : Config) (o : Objects) (is : IsConfig config) (are : AreObjects config o) (labels : HaveLabels o.nodes) where
  early : map bare (early_words 0 o.fields) ≡ early_words 0 o.fields
  early = words_same 0 o.fields (few_fields config o is are labels) (all_targets config o is are labels)

  pub heap_from_bare : bare_core (heap_from_by true config o) ≡ heap_from_by false config o
  heap_from_bare =
      let many : ℕ = (config.slots - length o.nodes) * config.fields in
      let words : map bare (early_words 0 o.fields ++ replicate many 0) ≡ early_words 0 o.fields ++ replicate many 0
      = map-append bare (early_words 0 o.fields) (replicate many 0) ∙ (ap (λ ws. ws ++ map bare (replicate many 0)) early ∙ ap (λ ws. early_words 0 o.fields ++ ws) (replicate_same bare 0 refl many)) in
      let boxes : map (buffer_by bare) (replicate config.mutators (spare_of config)) ≡ replicate config.mutators (spare_of config) = replicate_same (buffer_by bare) (spare_of config) refl config.mutators in
      let rows : List (List (Option ℕ)) = rows_of config.registers config.mutators o.registers in
      let each : map mutators.bare_private (all_holding_by true config 1 rows) ≡ all_holding_by false config 1 rows = holding_same config 1 rows in
      let newer : map (buffer_by bare) (heap_from_by true config o).collector.newer ≡ (heap_from_by true config o).collector.newer = replicate_same (buffer_by bare) (spare_of config) refl config.mutators in
      let older : map (buffer_by bare) (heap_from_by true config o).collector.older ≡ (heap_from_by true config o).collector.older = retired_same config.log_entries rows in
      (λ i. record (heap_from_by false config o) {
        words = words i;
        boxes = boxes i;
        mutators = each i;
        collector = record (heap_from_by false config o).collector { newer = newer i; older = older i };
      })
