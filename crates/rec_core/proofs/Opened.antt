-- A heap is opened with one object, which every mutator names.
use Rattle.std.proofs.Common.{◌≡◌, ℕ, zero, suc, ◌+◌, ◌-◌, ◌*◌, ◌<◌, ◌≤◌, ◌^◌, true, false, Option, None, Some, List, [], ◌∷◌, ◌++◌, All, length, take, drop, replicate, slice_index_or, refl, sym, ap, subst, ◌∙◌, arith, length-append}
use Rattle.std.specs.List.{repeat}
use Rattle.std.proofs.Math.Nat.{suc-mul}
use Rattle.std.proofs.Math.Seq.{drop-append_seam, take-append_seam}
use Rattle.std.proofs.lemmas.Bool.{false≢true}
use Rattle.std.proofs.lemmas.List.{get_or-replicate, length-replicate, replicate-append-replicate}
use Rattle.std.proofs.lemmas.List.Elements.{All-append, All-cons, All-nil, All-replicate}
use Rattle.rec_model.specs.Heap.{opening}
use Rattle.rec_model.specs.Reach.{is_in, named}
use Rattle.rec_model.specs.Reach.IsReached.{root}
use Rattle.rec_model.proofs.Members.{is_in-head}
use Rattle.rec_model.proofs.Opened.{opening_stands}
use Rattle.rec_core.proofs.Common.{Config, IsConfig, IsKept, IsMutator, Represents, Sight, mutator, opened, opened_mutator, opening_sight, sight}
use Rattle.rec_core.proofs.BareOpened.{heap_from_bare}
use Rattle.rec_core.proofs.EarlyWords.{early-nulls}
use Rattle.rec_core.proofs.OpenedFrom.{one_of, opened_from_kept}
use Rattle.rec_core.proofs.Seated.{registers_held}
use Rattle.rec_core.specs.Bare.{bare_core}
use Rattle.rec_core.specs.Core.{heap_by, holding_by}
use Rattle.rec_core.specs.Objects.{AreObjects, HaveLabels, IsOneOf, first_object, first_registers, node_at, rows_of}

-- ---- the same row, so many times

length-repeat : {X : Type 0} (n : ℕ) (xs : List X) → length (repeat n xs) ≡ n * length xs
length-repeat zero xs = omega arith
length-repeat (suc n) xs = omega (arith, length-append xs (repeat n xs), length-repeat n xs, suc-mul n (length xs))

All-repeat : {X : Type 0} (P : X → Type 0) (n : ℕ) (xs : List X) → All P xs → All P (repeat n xs)
All-repeat P zero xs all = All-nil P
All-repeat P (suc n) xs all = All-append P xs (repeat n xs) all (All-repeat P n xs all)

-- cut into rows again
rows-repeat : {X : Type 0} (width n : ℕ) (xs : List X) → length xs ≡ width → rows_of width n (repeat n xs) ≡ replicate n xs
rows-repeat width zero xs wide = refl
rows-repeat width (suc n) xs wide =
    let own : take width (xs ++ repeat n xs) ≡ xs = ap (λ k. take k (xs ++ repeat n xs)) (sym wide) ∙ take-append_seam xs (repeat n xs) in
    let rest : drop width (xs ++ repeat n xs) ≡ repeat n xs = ap (λ k. drop k (xs ++ repeat n xs)) (sym wide) ∙ drop-append_seam xs (repeat n xs) in
    let others : rows_of width n (drop width (xs ++ repeat n xs)) ≡ replicate n xs = ap (rows_of width n) rest ∙ rows-repeat width n xs wide in
    (λ i. own i ∷ others i)

-- ---- the object

first_named : (registers mutators : ℕ) → 1 ≤ mutators → is_in 0 (named (repeat mutators (first_registers registers))) ≡ true
first_named registers zero some = absurd (omega (arith, some))
first_named registers (suc n) some = is_in-head 0 (named (replicate (registers - 1) None ++ repeat n (first_registers registers)))

no_leaf : (config : Config) (n : ℕ) → (node_at (first_object config) n).1 ≡ false
no_leaf config zero = refl
no_leaf config (suc n) = refl

pub first_labels : (config : Config) → HaveLabels (first_object config).nodes
first_labels config = All-cons (λ node. node.0 < 2 ^ 32) (0, false) [] (omega arith) (All-nil (λ node. node.0 < 2 ^ 32))

module _ (config : Config) (is : IsConfig config) where
  -- a mutator's registers
  pub registers_many : length (first_registers config.registers) ≡ config.registers
  registers_many = omega (arith, is.some_registers, length-replicate {A = Option ℕ} (config.registers - 1) None)

  first_held : All (IsOneOf 1) (first_registers config.registers)
  first_held = All-cons (IsOneOf 1) (Some 0) (replicate (config.registers - 1) None) (omega arith) (All-replicate (IsOneOf 1) (config.registers - 1) None tt)

  pub first_objects : AreObjects config (first_object config)
  first_objects = record {
    few = is.some_slots;
    fields = length-replicate config.fields None ∙ omega arith;
    registers = length-repeat config.mutators (first_registers config.registers) ∙ ap (λ n. config.mutators * n) registers_many;
    targets = All-replicate (IsOneOf 1) config.fields None tt;
    held = All-repeat (IsOneOf 1) config.mutators (first_registers config.registers) first_held;
    leaves = λ n leaf. absurd (false≢true (sym (no_leaf config n) ∙ leaf));
    reached = λ n below.
        let first : 0 ≡ n = omega (arith, below) in
        root n (subst (λ k. is_in k (named (first_object config).registers) ≡ true) first (first_named config.registers config.mutators is.some_mutators));
  }

  -- ---- the heap

  pub opened_kept : IsKept true (heap_by true config)
  opened_kept = opened_from_kept config (first_object config) is first_objects (first_labels config)

  pub heap_bare : bare_core (heap_by true config) ≡ opened config
  heap_bare = heap_from_bare config (first_object config) is first_objects (first_labels config)

  rows_opened : rows_of config.registers config.mutators (first_object config).registers ≡ replicate config.mutators (first_registers config.registers)
  rows_opened = rows-repeat config.registers config.mutators (first_registers config.registers) registers_many

  pub words_opened : (opened config).words ≡ replicate (config.slots * config.fields) 0
  words_opened =
      let rest : ℕ = (config.slots - 1) * config.fields in
      let slots : config.slots ≡ 1 + (config.slots - 1) = omega (arith, is.some_slots) in
      let all : config.fields + rest ≡ config.slots * config.fields = omega (arith, ap (λ n. n * config.fields) slots) in
      ap (λ ws. ws ++ replicate rest 0) (early-nulls 0 config.fields) ∙ replicate-append-replicate config.fields rest 0 ∙ ap (λ n. replicate n 0) all

  -- what is seen of it
  pub sight_opened : sight (opened config) ≡ opening_sight config.slots config.fields config.registers config.mutators
  sight_opened =
      let held : (sight (opened config)).registers ≡ replicate config.mutators (first_registers config.registers)
      = registers_held false config 1 (rows_of config.registers config.mutators (first_object config).registers) ∙ rows_opened in
      (λ i. let s : Sight = record { fields = config.fields; headers = 1 ∷ replicate (config.slots - 1) 0; words = words_opened i; registers = held i } in s)

  -- the opening heap stands for it
  pub opened_stands : Represents (opening config.fields config.registers config.mutators) (sight (opened config))
  opened_stands = subst (Represents (opening config.fields config.registers config.mutators)) (sym sight_opened) (opening_stands config.slots config.fields config.registers config.mutators is.some_slots)

  -- each of its mutators, by its number
  pub mutator_opened : (t : ℕ) → IsMutator config t → mutator (opened config) t ≡ opened_mutator config t
  mutator_opened t there =
      let at : t - 1 < config.mutators = omega (arith, there.0, there.1) in
      one_of config (first_object config) is first_objects (first_labels config) {dates = false} t there
      ∙ ap (holding_by false config t) (ap (λ rs. slice_index_or rs (t - 1) []) rows_opened ∙ get_or-replicate config.mutators (t - 1) (first_registers config.registers) [] at)
