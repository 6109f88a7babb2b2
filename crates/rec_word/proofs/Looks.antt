-- The collector's look at a crossing word, by the parts of the word.
use Rattle.std.proofs.Common.{◌≡◌, ◌≢◌, ℕ, ◌+◌, ◌*◌, ◌^◌, ◌<◌, ◌≤◌, ◌==◌, Bool, true, false, cond, if◌then◌else◌, refl, sym, ap, ◌∙◌, arith}
use Rattle.std.proofs.lemmas.Bool.{eq-eqb, eqb-false, eqb-true, ne_eqb}
use Rattle.std.proofs.lemmas.Bool.Decides.{nat_tests}
use Rattle.rec_word.specs.Looked.{crossed_for, left_by, looked, LooksByTable}
use Rattle.rec_word.specs.Mailbox.{crossing_word, crossing_with, low}
use Rattle.rec_word.specs.Op.{written}
use Rattle.rec_word.specs.declared.looked.Looked.{Looked}
use Rattle.rec_word.specs.declared.looked.Looked.TheVariants.{Takes, Crosses, Waits}
use Rattle.rec_word.specs.declared.mailbox.Mailbox.TheVariants.{Spare, Retired, WithCollector}
use Rattle.rec_word.specs.declared.op.Op.TheVariants.{LookBox, ReturnBox}

retired_looked : (epoch : ℕ) (held parked : Bool) → epoch ≤ 2 ^ 24 → looked epoch (crossing_with epoch Retired held parked) ≡ Takes (crossing_with epoch WithCollector held parked)
retired_looked epoch true true most = grind (arith, nat_tests)
retired_looked epoch true false most = grind (arith, nat_tests)
retired_looked epoch false true most = grind (arith, nat_tests)
retired_looked epoch false false most = grind (arith, nat_tests)

deposit_looked : (before epoch : ℕ) → before + 1 ≡ epoch → epoch ≤ 2 ^ 24 → looked epoch (crossing_with before Spare true true) ≡ Takes (crossing_with epoch WithCollector false true)
deposit_looked before epoch follows most = grind (arith, nat_tests)

parked_looked : (before epoch : ℕ) → before + 1 ≡ epoch → epoch ≤ 2 ^ 24 → looked epoch (crossing_with before Spare false true) ≡ Crosses (crossing_with epoch Spare false true)
parked_looked before epoch follows most = grind (arith, nat_tests)

-- a word with the mailbox retired, of 34 bits, is one of the four that have these parts
none_retired : (epoch found : ℕ) → low found ≡ crossing_word epoch Retired → found < 2 ^ 34 → ((held parked : Bool) → found ≢ crossing_with epoch Retired held parked) → ⊥
none_retired epoch found retired small none =
    let plain : found ≢ epoch * 4 + 2 + 0 + 0 = none false false in
    let held : found ≢ epoch * 4 + 2 + 2 ^ 32 + 0 = none true false in
    let parked : found ≢ epoch * 4 + 2 + 0 + 2 ^ 33 = none false true in
    let both : found ≢ epoch * 4 + 2 + 2 ^ 32 + 2 ^ 33 = none true true in
    omega arith

none_parked : (before epoch found : ℕ) → before + 1 ≡ epoch → ((held : Bool) → found ≢ crossing_with before Spare held true) → crossed_for epoch (found + 4) ≡ Waits
none_parked before epoch found follows none =
    let deposit : found ≢ before * 4 + 0 + 2 ^ 32 + 2 ^ 33 = none true in
    let parked : found ≢ before * 4 + 0 + 0 + 2 ^ 33 = none false in
    let not_deposit : (found + 4 == crossing_with epoch Spare true true) ≡ false = grind (arith, nat_tests) in
    let not_parked : (found + 4 == crossing_with epoch Spare false true) ≡ false = grind (arith, nat_tests) in
    rw (not_deposit, not_parked) refl

waits_looked : (before epoch found : ℕ) → before + 1 ≡ epoch → found < 2 ^ 34 → ((held parked : Bool) → found ≢ crossing_with epoch Retired held parked) → ((held : Bool) → found ≢ crossing_with before Spare held true)
    → looked epoch found ≡ Waits
waits_looked before epoch found follows small others none =
    let not_retired : low found ≢ crossing_word epoch Retired = λ retired. none_retired epoch found retired small others in
    let unequal : (low found == crossing_word epoch Retired) ≡ false = grind (arith, nat_tests) in
    rw unequal (none_parked before epoch found follows none)

pub looks_by_table : (before epoch : ℕ) → before + 1 ≡ epoch → epoch ≤ 2 ^ 24 → LooksByTable before epoch
looks_by_table before epoch follows most = record {
  retired = λ held parked. retired_looked epoch held parked most;
  deposit = deposit_looked before epoch follows most;
  parked = parked_looked before epoch follows most;
  other = λ found others none small. waits_looked before epoch found follows small others none;
}

-- ---- words of mutators where nobody parks: a look takes what was retired, and crosses for nobody

pub plain_looked : (epoch found : ℕ) → found < 2 ^ 32 → looked epoch found ≡ (if found == crossing_word epoch Retired then Takes (crossing_word epoch WithCollector) else Waits)
plain_looked epoch found small = go (found == crossing_word epoch Retired) refl
  where
    past : low found ≡ found
    past = omega arith

    go : (b : Bool) → (found == crossing_word epoch Retired) ≡ b → looked epoch found ≡ cond b (Takes (crossing_word epoch WithCollector)) Waits
    go true e = grind (arith, nat_tests)
    go false e = grind (arith, nat_tests)

pub plain_look_leaves : (t epoch found : ℕ) → found < 2 ^ 32 → written (LookBox t epoch) found ≡ (if found == crossing_word epoch Retired then crossing_word epoch WithCollector else found)
plain_look_leaves t epoch found small = ap (λ (l : Looked). left_by l found) (plain_looked epoch found small) ∙ go (found == crossing_word epoch Retired)
  where
    go : (b : Bool) → left_by (cond b (Takes (crossing_word epoch WithCollector)) Waits) found ≡ cond b (crossing_word epoch WithCollector) found
    go true = refl
    go false = refl

-- ---- a mailbox is given back

pub returned : (t epoch : ℕ) (held parked : Bool) → epoch ≤ 2 ^ 24 → written (ReturnBox t epoch) (crossing_with epoch WithCollector held parked) ≡ crossing_with epoch Spare held parked
returned t epoch true true most = omega arith
returned t epoch true false most = omega arith
returned t epoch false true most = omega arith
returned t epoch false false most = omega arith

pub plain_returned : (t epoch : ℕ) → epoch ≤ 2 ^ 24 → written (ReturnBox t epoch) (crossing_word epoch WithCollector) ≡ crossing_word epoch Spare
plain_returned t epoch most = omega arith

-- so what comes of a look says what it found
module _ (epoch found : ℕ) (small : found < 2 ^ 32) where
  plain_when : (b : Bool) (l : Looked) → (found == crossing_word epoch Retired) ≡ b → looked epoch found ≡ l → cond b (Takes (crossing_word epoch WithCollector)) Waits ≡ l
  plain_when b l e is = ap (λ (x : Bool). cond x (Takes (crossing_word epoch WithCollector)) Waits) (sym e) ∙ sym (plain_looked epoch found small) ∙ is

  pub plain_takes : (new : ℕ) → looked epoch found ≡ Takes new → found ≡ crossing_word epoch Retired
  plain_takes new is = go (found == crossing_word epoch Retired) refl
    where
      go : (b : Bool) → (found == crossing_word epoch Retired) ≡ b → found ≡ crossing_word epoch Retired
      go true e = eqb-true found (crossing_word epoch Retired) e
      go false e = let no : Waits ≡ Takes new = plain_when false (Takes new) e is in absurd (cc)

  pub plain_waits : looked epoch found ≡ Waits → found ≢ crossing_word epoch Retired
  plain_waits is = go (found == crossing_word epoch Retired) refl
    where
      go : (b : Bool) → (found == crossing_word epoch Retired) ≡ b → found ≢ crossing_word epoch Retired
      go true e same = let no : Takes (crossing_word epoch WithCollector) ≡ Waits = plain_when true Waits e is in cc
      go false e same = eqb-false found (crossing_word epoch Retired) e same

  pub plain_crosses : (new : ℕ) → looked epoch found ≡ Crosses new → ⊥
  plain_crosses new is = go (found == crossing_word epoch Retired) refl
    where
      go : (b : Bool) → (found == crossing_word epoch Retired) ≡ b → ⊥
      go true e = let no : Takes (crossing_word epoch WithCollector) ≡ Crosses new = plain_when true (Crosses new) e is in cc
      go false e = let no : Waits ≡ Crosses new = plain_when false (Crosses new) e is in cc

  pub plain_stays : found ≢ crossing_word epoch Retired → looked epoch found ≡ Waits
  plain_stays other = plain_looked epoch found small ∙ ap (λ (b : Bool). cond b (Takes (crossing_word epoch WithCollector)) Waits) (ne_eqb found (crossing_word epoch Retired) other)

  pub plain_taken : found ≡ crossing_word epoch Retired → looked epoch found ≡ Takes (crossing_word epoch WithCollector)
  plain_taken same = plain_looked epoch found small ∙ ap (λ (b : Bool). cond b (Takes (crossing_word epoch WithCollector)) Waits) (eq-eqb found (crossing_word epoch Retired) same)
