-- What is known of the reach: when it is begun, when a slot is swept, and when somebody asks about slots.
use Rattle.std.proofs.Common.{◌≡◌, ℕ, Bool, true, false, ◌||◌, ◌==◌, ◌⊎◌, List, [], ◌∷◌, take, drop, refl, sym, ap, ◌∙◌, inl, inr}
use Rattle.std.specs.List.{list_any}
use Rattle.std.proofs.lemmas.Bool.{or_cases, false≢true}
use Rattle.std.proofs.lemmas.List.{take-append-drop}
use Rattle.rec_model.specs.Reach.{is_in, IsReached}
use Rattle.rec_model.specs.Reach.IsReached.{root, child}
use Rattle.rec_model.proofs.Members.{is_in-left, is_in-right, is_in-cases}
use Rattle.rec_audit.specs.declared.known.Known.{Known}
use Rattle.rec_audit.specs.Walks.{IsClosedTo, Reaches}
use Rattle.rec_audit.specs.Known.{IsKnownOf}
use Rattle.rec_audit.proofs.Grown.{member_any}
use Rattle.rec_audit.proofs.Marking.{or_left, or_right}

-- ---- fronts of lists

in_front : (n k : ℕ) (xs : List ℕ) → is_in n (take k xs) ≡ true → is_in n xs ≡ true
in_front n k xs there = ap (is_in n) (sym (take-append-drop k xs)) ∙ is_in-left n (take k xs) (drop k xs) there

front_or_back : (n k : ℕ) (xs : List ℕ) → is_in n xs ≡ true → (is_in n (take k xs) ≡ true) ⊎ (is_in n (drop k xs) ≡ true)
front_or_back n k xs there = is_in-cases n (take k xs) (drop k xs) (ap (is_in n) (take-append-drop k xs) ∙ there)

pub in_more : (n k : ℕ) (xs ys : List ℕ) → take k ys ≡ xs → is_in n xs ≡ true → is_in n ys ≡ true
in_more n k xs ys front there = in_front n k ys (ap (is_in n) front ∙ there)

pub in_back : (n k : ℕ) (xs : List ℕ) → is_in n (drop k xs) ≡ true → is_in n xs ≡ true
in_back n k xs there = ap (is_in n) (sym (take-append-drop k xs)) ∙ is_in-right n (take k xs) (drop k xs) there

-- ---- members that pass a test

pub any_alike : (p q : ℕ → Bool) → ((n : ℕ) → p n ≡ q n) → (xs : List ℕ) → list_any p xs ≡ list_any q xs
any_alike p q same [] = refl
any_alike p q same (x ∷ xs) = ap (λ b. b || list_any p xs) (same x) ∙ ap (λ b. q x || b) (any_alike p q same xs)

pub none_member : (p : ℕ → Bool) (xs : List ℕ) (n : ℕ) → list_any p xs ≡ false → is_in n xs ≡ true → p n ≡ false
none_member p xs n none there = at (p n) refl
  where
    at : (b : Bool) → p n ≡ b → p n ≡ false
    at true e = absurd (false≢true (sym none ∙ member_any p xs n there e))
    at false e = e

-- ---- it is begun

-- ---- a slot is swept

-- from the slots that were back before, a walk leads to no others
pub closed_back : (rs : List ℕ) (children walk : ℕ → List ℕ) (k : Known) (order : List ℕ) (count : ℕ) → IsKnownOf rs children k → ((m : ℕ) → children m ≡ walk m) → take count order ≡ k.back.order.items → IsClosedTo count order walk
closed_back rs children walk k order count is same front p n there leads =
    in_more n count k.back.order.items order front (is.forth p n (sym (ap (is_in p) front) ∙ there) (ap (is_in n) (same p) ∙ leads))

pub known_back : (rs more : List ℕ) (children walk : ℕ → List ℕ) (k l : Known) (slot : ℕ) (order : List ℕ)
    → ((m : ℕ) → children m ≡ walk m) → ((n : ℕ) → is_in n rs ≡ true → is_in n more ≡ true) → ((n : ℕ) → is_in n more ≡ true → (is_in n rs || (slot == n)) ≡ true)
    → l.roots ≡ k.roots → l.apart ≡ k.apart → ((n : ℕ) → is_in n order ≡ (is_in n k.back.order.items || is_in n (slot ∷ [])))
    → ((n : ℕ) → (is_in n l.back.order.items ≡ true → IsReached order walk n) × (IsReached order walk n → is_in n l.back.order.items ≡ true))
    → IsKnownOf rs children k → IsKnownOf more children l
known_back rs more children walk k l slot order same wider only roots-are apart-is has reached is =
    record {
      old = λ n there. wider n (is.old n (sym (ap (λ m. is_in n m.order.items) roots-are) ∙ there));
      each = λ n there. ap (λ m. is_in n m.order.items || is_in n l.back.order.items) roots-are ∙ at n (or_cases (is_in n rs) (slot == n) (only n there));
      apart = λ n there. ap (λ m. is_in n m.order.items) roots-are ∙ is.apart n (sym (ap (λ m. is_in n m.order.items) apart-is) ∙ there);
      sources = λ m n there leads. ap (λ a. is_in m a.order.items) apart-is ∙ is.sources m n (sym (ap (λ a. is_in n a.order.items) apart-is) ∙ there) leads;
      forth = λ m n there leads. (reached n).1 (child m n ((reached m).0 there) (sym (ap (is_in n) (same m)) ∙ leads));
    }
  where
    there_still : (n : ℕ) → is_in n k.back.order.items ≡ true → is_in n l.back.order.items ≡ true
    there_still n there = (reached n).1 (root n (has n ∙ or_left (is_in n k.back.order.items) (is_in n (slot ∷ [])) there))

    at : (n : ℕ) → (is_in n rs ≡ true) ⊎ ((slot == n) ≡ true) → (is_in n k.roots.order.items || is_in n l.back.order.items) ≡ true
    at n (inl before) =
        elim (or_cases (is_in n k.roots.order.items) (is_in n k.back.order.items) (is.each n before)) [
          | inl first ↦ or_left (is_in n k.roots.order.items) (is_in n l.back.order.items) first
          | inr later ↦ or_right (is_in n k.roots.order.items) (is_in n l.back.order.items) (there_still n later)
        ]
    at n (inr now) =
        or_right (is_in n k.roots.order.items) (is_in n l.back.order.items)
        ((reached n).1 (root n (has n ∙ or_right (is_in n k.back.order.items) (is_in n (slot ∷ [])) (ap (λ b. b || false) now))))

-- ---- somebody asks

-- from the slots that were apart before, a walk backwards leads to no others
pub closed_apart : (rs : List ℕ) (children walk : ℕ → List ℕ) (k : Known) (order : List ℕ) (count : ℕ) → IsKnownOf rs children k → ((m n : ℕ) → is_in n (children m) ≡ is_in m (walk n)) → take count order ≡ k.apart.order.items → IsClosedTo count order walk
closed_apart rs children walk k order count is turned front p n there leads =
    in_more n count k.apart.order.items order front (is.sources n p (sym (ap (is_in p) front) ∙ there) (turned n p ∙ leads))

-- what is come to backwards from slots: what was apart before, or from where one of the slots is reached
came_from : (rs slots order : List ℕ) (children walk : ℕ → List ℕ) (k : Known) → IsKnownOf rs children k → ((m n : ℕ) → is_in n (children m) ≡ is_in m (walk n)) → ((n : ℕ) → is_in n order ≡ (is_in n k.apart.order.items || is_in n slots))
    → (n : ℕ) → IsReached order walk n → (is_in n k.apart.order.items ≡ true) ⊎ IsReached slots walk n
came_from rs slots order children walk k is turned has at (root n there) =
    elim (or_cases (is_in n k.apart.order.items) (is_in n slots) (sym (has n) ∙ there)) [ inl before ↦ inl before | inr now ↦ inr (root n now) ]
came_from rs slots order children walk k is turned has at (child m n from leads) =
    elim (came_from rs slots order children walk k is turned has m from) [
      | inl before ↦ inl (is.sources n m before (turned n m ∙ leads))
      | inr now ↦ inr (child m n now leads)
    ]

leads_back : (rs slots : List ℕ) (children walk : ℕ → List ℕ) → ((m n : ℕ) → is_in n (children m) ≡ is_in m (walk n)) → (n : ℕ) → IsReached slots walk n → IsReached rs children n → Reaches rs children slots
leads_back rs slots children walk turned at (root n there) reached = record { member = n; listed = there; reached = reached }
leads_back rs slots children walk turned at (child m n from leads) reached = leads_back rs slots children walk turned m from (child n m reached (turned n m ∙ leads))

-- a root among these: one of the slots is reached
pub root_found : (rs slots order : List ℕ) (children walk : ℕ → List ℕ) (k : Known) → IsKnownOf rs children k → ((m n : ℕ) → is_in n (children m) ≡ is_in m (walk n)) → ((n : ℕ) → is_in n order ≡ (is_in n k.apart.order.items || is_in n slots))
    → (n : ℕ) → IsReached order walk n → is_in n k.roots.order.items ≡ true → Reaches rs children slots
root_found rs slots order children walk k is turned has n come there =
    elim (came_from rs slots order children walk k is turned has n come) [
      | inl before ↦ absurd (false≢true (sym (is.apart n before) ∙ there))
      | inr now ↦ leads_back rs slots children walk turned n now (root n (is.old n there))
    ]

-- and none: it is known that none is
pub known_asked : (rs order : List ℕ) (children walk : ℕ → List ℕ) (k l : Known) (count : ℕ)
    → ((m n : ℕ) → is_in n (children m) ≡ is_in m (walk n))
    → l.roots ≡ k.roots → l.back ≡ k.back → take count l.apart.order.items ≡ k.apart.order.items
    → ((n : ℕ) → (is_in n l.apart.order.items ≡ true → IsReached order walk n) × (IsReached order walk n → is_in n l.apart.order.items ≡ true))
    → list_any (λ n. is_in n k.roots.order.items) (drop count l.apart.order.items) ≡ false
    → IsKnownOf rs children k → IsKnownOf rs children l
known_asked rs order children walk k l count turned roots-are back-is front reached none is =
    record {
      old = λ n there. is.old n (sym (ap (λ m. is_in n m.order.items) roots-are) ∙ there);
      each = λ n there. ap (λ m. is_in n m.order.items || is_in n l.back.order.items) roots-are ∙ ap (λ m. is_in n k.roots.order.items || is_in n m.order.items) back-is ∙ is.each n there;
      apart = λ n there. ap (λ m. is_in n m.order.items) roots-are ∙ at n (front_or_back n count l.apart.order.items there);
      sources = λ m n there leads. (reached m).1 (child n m ((reached n).0 there) (sym (turned m n) ∙ leads));
      forth = λ m n there leads. ap (λ b. is_in n b.order.items) back-is ∙ is.forth m n (sym (ap (λ b. is_in m b.order.items) back-is) ∙ there) leads;
    }
  where
    at : (n : ℕ) → (is_in n (take count l.apart.order.items) ≡ true) ⊎ (is_in n (drop count l.apart.order.items) ≡ true) → is_in n k.roots.order.items ≡ false
    at n (inl before) = is.apart n (sym (ap (is_in n) front) ∙ before)
    at n (inr now) = none_member (λ n. is_in n k.roots.order.items) (drop count l.apart.order.items) n none now

-- ---- what it says

-- a slot that is apart and was not brought back is out of reach
pub apart_unreached : (rs : List ℕ) (children : ℕ → List ℕ) (k : Known) → IsKnownOf rs children k → (n : ℕ) → IsReached rs children n → is_in n k.apart.order.items ≡ true → is_in n k.back.order.items ≡ true
apart_unreached rs children k is at (root n there) apart =
    elim (or_cases (is_in n k.roots.order.items) (is_in n k.back.order.items) (is.each n there)) [ inl first ↦ absurd (false≢true (sym (is.apart n apart) ∙ first)) | inr later ↦ later ]
apart_unreached rs children k is at (child m n from leads) apart = is.forth m n (apart_unreached rs children k is m from (is.sources m n apart leads)) leads
