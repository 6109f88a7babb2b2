-- Where an image is cut off is found line by line.
use Rattle.std.proofs.Common.{◌≡◌, ◌⊎◌, inl, inr, ℕ, ◌+◌, ◌-◌, ◌<◌, ◌≤◌, ◌==◌, List, ◌++◌, true, false, drop, get_or, length, refl, sym, ap, subst, ◌∙◌, arith, length-append}
use Rattle.std.proofs.lemmas.Bool.{cases_eq, cases_lt, eq-eqb, eqb-true, false≢true}
use Rattle.std.proofs.lemmas.List.{get_or-drop, length-drop}
use Rattle.rec_image.specs.Image.{end_line}
use Rattle.rec_run.specs.Resuming.{CutsAt, EndsAt}

-- A line begins at this place, or nothing is left there; and no line `end` begins before it.
pub record IsSought (bytes : List ℕ) (at : ℕ) : Type 0 where
  pub within : at ≤ length bytes + 1
  pub begins : (at ≡ 0) ⊎ ((get_or bytes (at - 1) 0 ≡ 10) ⊎ (length bytes ≤ at))
  pub none : (place : ℕ) → place < at → EndsAt bytes place → ⊥

pub sought_first : (bytes : List ℕ) → IsSought bytes 0
sought_first bytes = record { within = omega arith; begins = inl refl; none = λ place before is. absurd (omega (arith, before)) }

-- it begins there
pub found_there : (bytes behind : List ℕ) (at : ℕ) → IsSought bytes at → at < length bytes → drop at bytes ≡ end_line ++ behind → CutsAt bytes (at + 4)
found_there bytes behind at so left is = CutsAt.behind at (omega arith) (record { behind = behind; is = is; begins = first so.begins }) so.none
  where
    first : (at ≡ 0) ⊎ ((get_or bytes (at - 1) 0 ≡ 10) ⊎ (length bytes ≤ at)) → (at ≡ 0) ⊎ (get_or bytes (at - 1) 0 ≡ 10)
    first (inl none) = inl none
    first (inr (inl feed)) = inr feed
    first (inr (inr past)) = absurd (omega (arith, left, past))

-- no line `end` is left
pub found_nowhere : (bytes : List ℕ) (at : ℕ) → IsSought bytes at → length bytes ≤ at → CutsAt bytes (length bytes)
found_nowhere bytes at so past = CutsAt.nowhere refl (λ place is. elim (cases_lt place at) [
  | inl before ↦ so.none place before is
  | inr beyond ↦ let long : length bytes - place ≡ length end_line + length is.behind = sym (length-drop place bytes) ∙ ap (λ (bs : List ℕ). length bs) is.is ∙ length-append end_line is.behind in omega (arith, long, past, beyond)
])

-- it isn't this line, of which so many bytes stand before its LF
pub sought_further : (bytes : List ℕ) (at n : ℕ) → IsSought bytes at → at < length bytes → ((behind : List ℕ) → drop at bytes ≡ end_line ++ behind → ⊥)
    → n ≤ length (drop at bytes) → ((k : ℕ) → k < n → (get_or (drop at bytes) k 0 == 10) ≡ false) → (n < length (drop at bytes) → (get_or (drop at bytes) n 0 == 10) ≡ true) → IsSought bytes (at + (n + 1))
sought_further bytes at n so left other within inside feed = record {
  within = let few : n ≤ length bytes - at = subst (λ m. n ≤ m) (length-drop at bytes) within in omega (arith, few, left);
  begins = elim (cases_lt n (length (drop at bytes))) [
    | inl less ↦
        let place : at + (n + 1) - 1 ≡ at + n = omega arith in
        inr (inl (ap (λ m. get_or bytes m 0) place ∙ sym (get_or-drop at bytes n 0) ∙ eqb-true (get_or (drop at bytes) n 0) 10 (feed less)))
    | inr all ↦ let long : length (drop at bytes) ≡ length bytes - at = length-drop at bytes in inr (inr (omega (arith, all, long, left)))
  ];
  none = λ place before is. elim (cases_lt place at) [
    | inl early ↦ so.none place early is
    | inr past ↦ elim (cases_eq place at) [
      | inl same ↦ other is.behind (subst (λ m. drop m bytes ≡ end_line ++ is.behind) same is.is)
      | inr later ↦ elim is.begins [
        | inl first ↦ absurd (omega (arith, first, past, later))
        | inr begun ↦
            let k : ℕ = place - 1 - at in
            let here : place - 1 ≡ at + k = omega (arith, past, later) in
            let byte : get_or (drop at bytes) k 0 ≡ 10 = get_or-drop at bytes k 0 ∙ ap (λ m. get_or bytes m 0) (sym here) ∙ begun in
            absurd (false≢true (sym (inside k (omega (arith, here, before))) ∙ eq-eqb (get_or (drop at bytes) k 0) 10 byte))
      ]
    ]
  ];
}
