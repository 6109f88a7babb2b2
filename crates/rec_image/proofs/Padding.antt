-- Objects without targets, and registers that name the next objects in order: what completes an image.
use Rattle.std.proofs.Common.{◌≡◌, ℕ, zero, suc, ◌+◌, ◌-◌, ◌*◌, ◌≤◌, false, List, [], ◌∷◌, ◌++◌, Option, None, Some, All, length, map, replicate, refl, sym, ap, subst, ◌∙◌, arith, length-append}
use Rattle.std.specs.Prelude.{min, max}
use Rattle.std.specs.List.{range_with_len}
use Rattle.std.proofs.lemmas.Bool.{true≢false}
use Rattle.std.proofs.lemmas.List.{length-map, length-replicate}
use Rattle.std.proofs.lemmas.List.FromFn.{length-range_with_len}
use Rattle.std.proofs.lemmas.List.Elements.{All-nil, All-cons, All-append, All-replicate}
use Rattle.std.proofs.Math.Nat.{suc-mul}
use Rattle.rec_model.specs.Heap.{roots}
use Rattle.rec_model.specs.Reach.{named}
use Rattle.rec_image.specs.Image.{Node, IsOneOf, IsNode, AreRegisters}
use Rattle.rec_image.specs.Drafts.{names}
use Rattle.rec_model.proofs.Opened.{named-nones}
use Rattle.rec_image.proofs.Growing.{Grows, highest, Follows, highest_all, grows_join, highest-append}

-- ---- objects

-- an object with null fields
abbrev pub null_node : (fields : ℕ) → Node
null_node fields = record { label = 0; leaf = false; fields = replicate fields None }

pub null_is_node : (slots fields : ℕ) → IsNode slots fields (null_node fields)
null_is_node slots fields = record {
  label = omega arith;
  width = length-replicate fields None;
  places = All-replicate (IsOneOf slots) fields None tt;
  leaf = λ e. absurd (true≢false (sym e));
}

pub null_follow : (m j fields count : ℕ) → j + count ≤ m → Follows m j (map names (replicate count (null_node fields)))
null_follow m j fields zero h = tt
null_follow m j fields (suc count) h = (
  omega arith,
  subst (Grows m) (sym (named-nones fields)) tt,
  subst (λ (ns : List ℕ). Follows (highest m ns) (j + 1) (map names (replicate count (null_node fields)))) (sym (named-nones fields)) (null_follow m (j + 1) fields count (omega arith)),
)

pub null_highest : (m fields count : ℕ) → highest_all m (map names (replicate count (null_node fields))) ≡ m
null_highest m fields zero = refl
null_highest m fields (suc count) =
    ap (λ (ns : List ℕ). highest_all (highest m ns) (map names (replicate count (null_node fields)))) (named-nones fields)
    ∙ null_highest m fields count

-- ---- registers

-- registers that name the next objects, and then null
abbrev next_registers : (registers «from» left : ℕ) → List (Option ℕ)
next_registers registers «from» left = map Some (range_with_len «from» (min registers left)) ++ replicate (registers - min registers left) None

-- the registers of some mutators, which name the next objects as long as some are left
abbrev pub all_registers : (mutators registers «from» left : ℕ) → List (List (Option ℕ))
all_registers zero registers «from» left = []
all_registers (suc mutators) registers «from» left = next_registers registers «from» left ∷ all_registers mutators registers («from» + min registers left) (left - min registers left)

some_names : (ns : List ℕ) (nulls : ℕ) → named (map Some ns ++ replicate nulls None) ≡ ns
some_names [] nulls = named-nones nulls
some_names (n ∷ ns) nulls = ap (λ (ks : List ℕ). n ∷ ks) (some_names ns nulls)

range_grows : (m k : ℕ) → Grows m (range_with_len m k)
range_grows m zero = tt
range_grows m (suc k) = (omega arith, subst (λ (i : ℕ). Grows i (range_with_len (m + 1) k)) (let e : m + 1 ≡ max m (m + 1) = omega arith in e) (range_grows (m + 1) k))

range_highest : (m k : ℕ) → highest m (range_with_len m k) ≡ m + k
range_highest m zero = omega arith
range_highest m (suc k) =
    ap (λ (i : ℕ). highest i (range_with_len (m + 1) k)) (let e : max m (m + 1) ≡ m + 1 = omega arith in e)
    ∙ range_highest (m + 1) k ∙ (let e : (m + 1) + k ≡ m + suc k = omega arith in e)

some_places : (slots m k : ℕ) → m + k ≤ slots → All (IsOneOf slots) (map Some (range_with_len m k))
some_places slots m zero h = All-nil (IsOneOf slots)
some_places slots m (suc k) h = All-cons (IsOneOf slots) (Some m) (map Some (range_with_len (m + 1) k)) (omega arith) (some_places slots (m + 1) k (omega arith))

both_sizes : (xs ys : List (Option ℕ)) (a b n : ℕ) → length xs ≡ a → length ys ≡ b → a + b ≡ n → length (xs ++ ys) ≡ n
both_sizes xs ys a b n e f g = omega (arith, length-append xs ys)

next_are : (slots registers «from» left : ℕ) → «from» + left ≤ slots → AreRegisters slots registers (next_registers registers «from» left)
next_are slots registers «from» left h = record {
  number = both_sizes (map Some (range_with_len «from» (min registers left))) (replicate (registers - min registers left) None) (min registers left) (registers - min registers left) registers
      (length-map (range_with_len «from» (min registers left)) Some ∙ length-range_with_len «from» (min registers left))
      (length-replicate (registers - min registers left) None)
      (omega arith);
  places = All-append (IsOneOf slots) (map Some (range_with_len «from» (min registers left))) (replicate (registers - min registers left) None)
      (some_places slots «from» (min registers left) (omega arith)) (All-replicate (IsOneOf slots) (registers - min registers left) None tt);
}

pub all_are : (slots mutators registers «from» left : ℕ) → «from» + left ≤ slots → All (AreRegisters slots registers) (all_registers mutators registers «from» left)
all_are slots zero registers «from» left h = All-nil (AreRegisters slots registers)
all_are slots (suc mutators) registers «from» left h =
    All-cons (AreRegisters slots registers) (next_registers registers «from» left) (all_registers mutators registers («from» + min registers left) (left - min registers left))
    (next_are slots registers «from» left h)
    (all_are slots mutators registers («from» + min registers left) (left - min registers left) (omega arith))

pub all_length : (mutators registers «from» left : ℕ) → length (all_registers mutators registers «from» left) ≡ mutators
all_length zero registers «from» left = refl
all_length (suc mutators) registers «from» left = ap suc (all_length mutators registers («from» + min registers left) (left - min registers left))

pub all_grow : (mutators registers «from» left : ℕ) → left ≤ mutators * registers → Grows «from» (roots (all_registers mutators registers «from» left)) × (highest «from» (roots (all_registers mutators registers «from» left)) ≡ «from» + left)
all_grow zero registers «from» left h = (tt, omega arith)
all_grow (suc mutators) registers «from» left h =
    let row : named (next_registers registers «from» left) ≡ range_with_len «from» (min registers left) = some_names (range_with_len «from» (min registers left)) (registers - min registers left) in
    let later : Grows («from» + min registers left) (roots (all_registers mutators registers («from» + min registers left) (left - min registers left)))
    × (highest («from» + min registers left) (roots (all_registers mutators registers («from» + min registers left) (left - min registers left))) ≡ («from» + min registers left) + (left - min registers left))
    = all_grow mutators registers («from» + min registers left) (left - min registers left) (omega (arith, suc-mul mutators registers)) in (
      subst (λ (ns : List ℕ). Grows «from» (ns ++ roots (all_registers mutators registers («from» + min registers left) (left - min registers left)))) (sym row)
          (grows_join «from» (range_with_len «from» (min registers left)) (roots (all_registers mutators registers («from» + min registers left) (left - min registers left))) (range_grows «from» (min registers left))
          (subst (λ (k : ℕ). Grows k (roots (all_registers mutators registers («from» + min registers left) (left - min registers left)))) (sym (range_highest «from» (min registers left))) later.0)),
      ap (λ (ns : List ℕ). highest «from» (ns ++ roots (all_registers mutators registers («from» + min registers left) (left - min registers left)))) row
          ∙ highest-append «from» (range_with_len «from» (min registers left)) (roots (all_registers mutators registers («from» + min registers left) (left - min registers left)))
          ∙ ap (λ (k : ℕ). highest k (roots (all_registers mutators registers («from» + min registers left) (left - min registers left)))) (range_highest «from» (min registers left))
          ∙ later.1 ∙ (let e : («from» + min registers left) + (left - min registers left) ≡ «from» + left = omega arith in e),
    )
