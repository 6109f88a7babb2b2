-- What is told, one thing after another.
use Rattle.std.proofs.Common.{◌≡◌, ℕ, ◌+◌, ◌<◌, List, [], ◌∷◌, ◌++◌, length, eqb, append_assoc, refl, sym, ap, ◌∙◌, arith}
use Rattle.std.proofs.lemmas.List.{append-nil, length-set}
use Rattle.rec_counts.specs.declared.slot.Slot.{Slot}
use Rattle.rec_counts.specs.Lists.{one}
use Rattle.rec_counts.specs.Touched.{Touching, counted_less, with_taken}
use Rattle.rec_counts.proofs.ToldSlots.{told_kept, told_same, told_taken}
use Rattle.rec_counts.specs.Telling.{Tells}

pub tells_none : (slots : List Slot) (touched : Touching) (born added : ℕ → ℕ) (taken : List ℕ) → ((x : ℕ) → born x ≡ 0) → ((x : ℕ) → added x ≡ 0) → taken ≡ [] → Tells born added taken slots touched slots touched
tells_none slots touched born added taken e f g = record {
  many = refl;
  marked = refl;
  told = λ before b a t k. told_same (λ x. b x + born x) (λ x. a x + added x) (t ++ taken) (λ x. omega (arith, e x)) (λ x. omega (arith, f x)) (ap (λ ts. t ++ ts) g ∙ append-nil t) k;
}

joined : (xs ys zs : List ℕ) → (xs ++ ys) ++ zs ≡ xs ++ (ys ++ zs)
joined xs ys zs = rw append_assoc refl

-- first one thing, then another
pub tells_then : {slots between after : List Slot} {touched middle end : Touching} {born born' added added' : ℕ → ℕ} {taken taken' : List ℕ} → (born'' added'' : ℕ → ℕ) (taken'' : List ℕ) →
    ((x : ℕ) → born'' x ≡ born x + born' x) → ((x : ℕ) → added'' x ≡ added x + added' x) → taken'' ≡ taken ++ taken' →
    Tells born added taken slots touched between middle → Tells born' added' taken' between middle after end → Tells born'' added'' taken'' slots touched after end
tells_then {born = born} {born' = born'} {added = added} {added' = added'} {taken = taken} {taken' = taken'} born'' added'' taken'' e f g k l = record {
  many = l.many ∙ k.many;
  marked = l.marked ∙ k.marked;
  told = λ before b a t m. told_same (λ x. b x + born'' x) (λ x. a x + added'' x) (t ++ taken'') (λ x. omega (arith, e x)) (λ x. omega (arith, f x)) (ap (λ ts. t ++ ts) g ∙ sym (joined t taken taken'))
      (l.told before (λ x. b x + born x) (λ x. a x + added x) (t ++ taken) (k.told before b a t m));
}

-- as often, and the same slots
pub tells_same : {slots after : List Slot} {touched end : Touching} {born added : ℕ → ℕ} {taken : List ℕ} → (born' added' : ℕ → ℕ) (taken' : List ℕ) → ((x : ℕ) → born' x ≡ born x) → ((x : ℕ) → added' x ≡ added x) → taken' ≡ taken →
    Tells born added taken slots touched after end → Tells born' added' taken' slots touched after end
tells_same born' added' taken' e f g k = record {
  many = k.many;
  marked = k.marked;
  told = λ before b a t m. told_same (λ x. b x + born' x) (λ x. a x + added' x) (t ++ taken') (λ x. omega (arith, e x)) (λ x. omega (arith, f x)) (ap (λ ts. t ++ ts) g) (k.told before b a t m);
}

pub tells_taken : (slots : List Slot) (touched : Touching) (x : ℕ) → x < length slots → Tells (λ y. 0) (λ y. 0) (x ∷ []) slots touched (counted_less slots x) (with_taken touched x)
tells_taken slots touched x l = record {
  many = length-set slots x _;
  marked = length-set touched.marks x _;
  told = λ before b a t k. told_same (λ y. b y + 0) (λ y. a y + 0) (t ++ x ∷ []) (λ y. omega arith) (λ y. omega arith) refl (told_taken k x l);
}

pub tells_kept : (slots : List Slot) (touched : Touching) (x : ℕ) → x < length slots → Tells (λ y. 0) (λ y. one (eqb y x)) (x ∷ []) slots touched slots (with_taken touched x)
tells_kept slots touched x l = record {
  many = refl;
  marked = length-set touched.marks x _;
  told = λ before b a t k. told_same (λ y. b y + 0) (λ y. a y + one (eqb y x)) (t ++ x ∷ []) (λ y. omega arith) (λ y. refl) refl (told_kept k x l);
}
