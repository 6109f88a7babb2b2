-- Sweeps, word by word, and what they keep of the counts.
use Rattle.std.proofs.Common.{◌≡◌, ℕ, zero, suc, ◌<◌, Bool, true, false, eqb, ltb, List, [], ◌∷◌, ◌++◌, length, take, drop, refl, arith, sym, ◌∙◌, ap, subst, inl, inr, append_assoc, fold}
use Rattle.std.proofs.lemmas.List.{length-set, get_or-set_same, get_or-set_other, append-nil}
use Rattle.std.proofs.lemmas.Bool.{lt-ltb}
use Rattle.std.proofs.lemmas.Bool.Decides.{eqb_tells}
use Rattle.rec_word.proofs.Given.{given-nil, given-cons}
use Rattle.rec_counts.specs.declared.slot.Slot.{Slot}
use Rattle.rec_counts.specs.Counts.{State, slot_at}
use Rattle.rec_counts.specs.Lists.{one, times, EachOnce}
use Rattle.rec_counts.specs.Slot.{absent, swept_clean}
use Rattle.rec_counts.proofs.Keeping.{field_kept}
use Rattle.rec_counts.proofs.Times.{times-nil, times-cons, times_push, times_rest, one-same, in_range_once, once_rest}
use Rattle.rec_release.specs.Sweep.{AreUnbuffered, Work, swept, swept_if, took_of, started_of, freed, Swept, HasSwept}

pub unbuffered_rest : (s : State) → AreUnbuffered s → AreUnbuffered (record s { free = drop 1 s.free })
unbuffered_rest s k = λ y h. k y (omega (arith, h, times_rest y s.free))

pub unbuffered_swept : (s : State) (x : ℕ) → AreUnbuffered s → AreUnbuffered (swept s x)
unbuffered_swept s x k = λ y h. field_kept (λ (w : Slot). w.buffered) s.slots x (swept_clean (slot_at s x)) refl y ∙ k y (omega (arith, h, times_rest y s.free))

-- nothing is swept yet
swept_none : (s : State) → Swept s s []
swept_none s = record { free = refl; slots = λ x. ap (λ n. swept_if (ltb 0 n) (slot_at s x)) (sym (times-nil x)); many = refl; roots = refl; sets = refl; marked = refl; work = refl; zeros = refl }

-- a slot that was swept is swept again
swept_again : (b : Bool) (v : Slot) → swept_clean (swept_if b v) ≡ swept_clean v
swept_again true v = refl
swept_again false v = refl

-- one slot more
swept_more : (before after : State) (gone : List ℕ) (x : ℕ) (rest : List ℕ) → after.free ≡ x ∷ rest → x < length after.slots → Swept before after gone → Swept before (swept after x) (gone ++ x ∷ [])
swept_more before after gone x rest e l k = record {
  free = k.free ∙ ap (λ f. gone ++ f) e ∙ sym (append_assoc gone (x ∷ []) rest) ∙ ap (λ f. (gone ++ x ∷ []) ++ f) (ap (drop 1) (sym e));
  slots = λ y. elim (eqb_tells y x) [
    | inl q ↦ let n : 0 < times y (gone ++ x ∷ []) = let m : one (eqb y x) ≡ 1 = ap one q.0 in omega (arith, times_push y gone x, m) in
        ap (λ z. slot_at (swept after x) z) q.1 ∙ get_or-set_same after.slots x (swept_clean (slot_at after x)) absent l
        ∙ ap swept_clean (k.slots x) ∙ swept_again (ltb 0 (times x gone)) (slot_at before x)
        ∙ ap (λ z. swept_clean (slot_at before z)) (sym q.1) ∙ ap (λ b. swept_if b (slot_at before y)) (sym (lt-ltb 0 (times y (gone ++ x ∷ [])) n))
    | inr q ↦ let n : times y (gone ++ x ∷ []) ≡ times y gone = let m : one (eqb y x) ≡ 0 = ap one q.0 in omega (arith, times_push y gone x, m) in
        get_or-set_other after.slots x y (swept_clean (slot_at after x)) absent q.1 ∙ k.slots y ∙ ap (λ m. swept_if (ltb 0 m) (slot_at before y)) (sym n)
  ];
  many = length-set after.slots x (swept_clean (slot_at after x)) ∙ k.many;
  roots = k.roots;
  sets = k.sets;
  marked = k.marked;
  work = k.work;
  zeros = k.zeros;
}

-- what a sweep made, from some slots swept before on
record SweptBy (before after : State) (gone words : List ℕ) : Type 0 where
  law : Swept before (fold took_of (started_of after) words).counts (gone ++ take (length words) after.free)
  order : freed (started_of after) words ≡ take (length words) after.free

take_nothing : (n : ℕ) → take {A = ℕ} n [] ≡ []
take_nothing zero = refl
take_nothing (suc n) = refl

swept_by : (words fs : List ℕ) (before s : State) (gone : List ℕ) → EachOnce (length s.slots) fs → Swept before (record s { free = fs }) gone → SweptBy before (record s { free = fs }) gone words
unfolding started_of took_of
swept_by [] fs before s gone o k = record {
  law = subst (Swept before (record s { free = fs })) (sym (append-nil gone)) k;
  order = given-nil took_of (λ (v : Work) word. take 1 v.counts.free) (started_of (record s { free = fs }));
}
swept_by (word ∷ words) [] before s gone o k =
    let i : SweptBy before (record s { free = [] }) gone words = swept_by words [] before s gone o k in
    record {
      law = subst (λ g. Swept before (fold took_of (started_of (record s { free = [] })) words).counts (gone ++ g)) (take_nothing (length words)) i.law;
      order = given-cons took_of (λ (v : Work) word. take 1 v.counts.free) (started_of (record s { free = [] })) word words ∙ i.order ∙ take_nothing (length words);
    }
swept_by (word ∷ words) (x ∷ rest) before s gone o k =
    let after : State = record s { free = x ∷ rest } in
    let l : x < length s.slots = in_range_once (length s.slots) (x ∷ rest) x o (omega (arith, times-cons x x rest, one-same x)) in
    let p : EachOnce (length (swept after x).slots) rest = subst (λ n. EachOnce n rest) (sym (length-set s.slots x (swept_clean (slot_at s x)))) (once_rest (length s.slots) (x ∷ rest) o) in
    let i : SweptBy before (swept after x) (gone ++ x ∷ []) words = swept_by words rest before (swept after x) (gone ++ x ∷ []) p (swept_more before after gone x rest refl l k) in
    record {
      law = subst (Swept before (fold took_of (started_of (swept after x)) words).counts) (append_assoc gone (x ∷ []) (take (length words) rest)) i.law;
      order = given-cons took_of (λ (v : Work) word. take 1 v.counts.free) (started_of after) word words ∙ ap (λ g. x ∷ g) i.order;
    }

-- a whole sweep
pub whole_sweep : (before : State) (words : List ℕ) → EachOnce (length before.slots) before.free → HasSwept before words
whole_sweep before words o =
    let k : SweptBy before before [] words = swept_by words before.free before before [] o (swept_none before) in
    record { gone = k.order; swept = k.law }
