-- A scan that goes round claims the header of each slot once.
use Rattle.std.proofs.Common.{◌≡◌, ◌≢◌, inl, inr, ℕ, ◌+◌, ◌<◌, ◌≤◌, ◌==◌, Bool, cond, List, [], ◌∷◌, length, refl, sym, ap, ◌∙◌, arith}
use Rattle.std.proofs.lemmas.Bool.{cases_eq, cases_lt, eq-eqb, ne_eqb}
use Rattle.std.proofs.lemmas.List.Sums.{sum_by-cons}
use Rattle.rec_word.specs.declared.op.Op.{Op}
use Rattle.rec_word.specs.declared.op.Op.TheVariants.{LoadFreed, ClaimHeader}
use Rattle.rec_mutator.specs.Private.{slot_behind}
use Rattle.rec_mutator.specs.Scans.{claims, claims_of, is_claim_of, FailsScan}
use Rattle.rec_mutator.proofs.Around.{all_round, behind_near, behind_round}

-- each slot is met by one number of slots alone
behind_once : (slots from count other : ℕ) → from < slots → count < slots → other < slots → slot_behind slots from count ≡ slot_behind slots from other → count ≡ other
behind_once slots from count other there few less same = elim (cases_lt (from + count) slots) [
  | inl near ↦ elim (cases_lt (from + other) slots) [
    | inl near_too ↦ omega (arith, same, behind_near slots from count near, behind_near slots from other near_too)
    | inr past ↦ omega (arith, same, behind_near slots from count near, behind_round slots from other past (omega arith))
  ]
  | inr past ↦ elim (cases_lt (from + other) slots) [
    | inl near ↦ omega (arith, same, behind_round slots from count past (omega arith), behind_near slots from other near)
    | inr past_too ↦ omega (arith, same, behind_round slots from count past (omega arith), behind_round slots from other past_too (omega arith))
  ]
]

-- 1 where it holds, else 0
abbrev one : Bool → ℕ
one b = cond b 1 0

-- a claim of another header counts nothing
other_claim : (slot header : ℕ) (at : ℕ) (made : List Op) → slot ≢ at → claims_of slot (ClaimHeader at header ∷ made) ≡ claims_of slot made
other_claim slot header at made not_it =
    let rest : ℕ = claims_of slot made in
    let none : one (slot == at) ≡ 0 = ap one (ne_eqb slot at not_it) in
    let sum : claims_of slot (ClaimHeader at header ∷ made) ≡ one (slot == at) + rest = sum_by-cons (λ op. one (is_claim_of slot op)) (ClaimHeader at header) made in
    omega (arith, none, sum)

-- and one of its own is one
own_claim : (slot header : ℕ) (at : ℕ) (made : List Op) → slot ≡ at → claims_of slot (ClaimHeader at header ∷ made) ≡ 1 + claims_of slot made
own_claim slot header at made it =
    let rest : ℕ = claims_of slot made in
    let some : one (slot == at) ≡ 1 = ap one (eq-eqb slot at it) in
    let sum : claims_of slot (ClaimHeader at header ∷ made) ≡ one (slot == at) + rest = sum_by-cons (λ op. one (is_claim_of slot op)) (ClaimHeader at header) made in
    omega (arith, some, sum)

-- behind its place no slot is claimed again
none_again : (found : List ℕ) (header slots from count probed : ℕ) → from < slots → count < probed → probed + length found ≤ slots → claims_of (slot_behind slots from count) (claims header slots from probed found) ≡ 0
none_again [] header slots from count probed there past few = refl
none_again (w ∷ ws) header slots from count probed there past few =
    let short : probed + 1 + length ws ≤ slots = omega (arith, few) in
    other_claim (slot_behind slots from count) header (slot_behind slots from probed) (claims header slots from (probed + 1) ws)
    (λ e. let same : count ≡ probed = behind_once slots from count probed there (omega arith) (omega arith) e in omega (arith, same))
    ∙ none_again ws header slots from count (probed + 1) there (omega arith) short

-- and up to it once
once_ahead : (found : List ℕ) (header slots from count probed : ℕ) → from < slots → probed ≤ count → count < slots → probed + length found ≡ slots → claims_of (slot_behind slots from count) (claims header slots from probed found) ≡ 1
once_ahead [] header slots from count probed there ahead few every = omega (arith, every)
once_ahead (w ∷ ws) header slots from count probed there ahead few every =
    let short : probed + 1 + length ws ≡ slots = omega (arith, every) in
    elim (cases_eq probed count) [
      | inl is ↦
          let none : claims_of (slot_behind slots from count) (claims header slots from (probed + 1) ws) ≡ 0 = none_again ws header slots from count (probed + 1) there (omega (arith, is)) (omega (arith, short)) in
          let own : claims_of (slot_behind slots from count) (claims header slots from probed (w ∷ ws)) ≡ 1 + claims_of (slot_behind slots from count) (claims header slots from (probed + 1) ws) =
          own_claim (slot_behind slots from count) header (slot_behind slots from probed) (claims header slots from (probed + 1) ws) (ap (λ n. slot_behind slots from n) (sym is)) in
          omega (arith, none, own)
      | inr not_yet ↦
          other_claim (slot_behind slots from count) header (slot_behind slots from probed) (claims header slots from (probed + 1) ws)
          (λ e. let same : count ≡ probed = behind_once slots from count probed there few (omega arith) e in not_yet (sym same))
          ∙ once_ahead ws header slots from count (probed + 1) there (omega (arith, not_yet)) few short
    ]

pub claimed_once : (header slots from before : ℕ) (made : List Op) (words : List ℕ) → from < slots → FailsScan header slots from before made words → (slot : ℕ) → slot < slots → claims_of slot made ≡ 1
claimed_once header slots from before made words there fails slot below =
    let found : List ℕ = fails.found in
    let loads : claims_of slot (LoadFreed ∷ claims header slots from 0 found) ≡ 0 + claims_of slot (claims header slots from 0 found) = sum_by-cons (λ op. one (is_claim_of slot op)) LoadFreed (claims header slots from 0 found) in
    let once : claims_of slot (claims header slots from 0 found) ≡ 1 =
    all_round (λ s. claims_of s (claims header slots from 0 found) ≡ 1) slots from there (λ count few. once_ahead found header slots from count 0 there (omega arith) few (omega (arith, fails.every))) slot below in
    ap (claims_of slot) fails.made_are ∙ omega (arith, loads, once)
