-- Bytes that are the text of no image stop at one line.
use Rattle.std.proofs.Common.{◌≡◌, ◌⊎◌, inl, inr, ℕ, ◌+◌, ◌==◌, Bool, true, false, List, [], ◌∷◌, ◌++◌, drop, get_or, refl, sym, ap, subst, ◌∙◌, arith, append_assoc, append-nil, cond}
use Rattle.std.proofs.lemmas.List.Sums.{sum_by-cons}
use Rattle.std.proofs.lemmas.Bool.{eqb-true}
use Rattle.rec_report.specs.Text.{line_feed}
use Rattle.rec_image.specs.Image.{AreWhole, StopsAt, feeds}

-- ---- two fronts of the same bytes

-- what stands behind the first one in the second
record GoesOn (a b s t : List ℕ) : Type 0 where
  mid : List ℕ
  more : b ≡ a ++ mid
  less : s ≡ mid ++ t

-- one goes on from the other
meet : (a b s t : List ℕ) → a ++ s ≡ b ++ t → GoesOn a b s t ⊎ GoesOn b a t s
meet [] b s t e = inl (record { mid = b; more = refl; less = e })
meet (x ∷ a) [] s t e = inr (record { mid = x ∷ a; more = refl; less = sym e })
meet (x ∷ a) (y ∷ b) s t e =
    let same : x ≡ y = ap (λ l. get_or l 0 0) e in
    elim (meet a b s t (ap (drop 1) e)) [
      | inl m ↦ inl (record { mid = m.mid; more = ap (λ z. z ∷ b) (sym same) ∙ ap (λ l. x ∷ l) m.more; less = m.less })
      | inr m ↦ inr (record { mid = m.mid; more = ap (λ z. z ∷ a) same ∙ ap (λ l. y ∷ l) m.more; less = m.less })
    ]

-- ---- whole lines

-- what stands behind a front of whole lines is whole lines
whole_rest : (a mid : List ℕ) → AreWhole (a ++ mid) → AreWhole mid
whole_rest [] mid whole = whole
whole_rest (x ∷ a) mid (inl none) = cc
whole_rest (x ∷ a) mid (inr (front, is)) = elim (meet (x ∷ a) front mid line_feed is) [
  | inl m ↦ inr (m.mid, m.less)
  | inr m ↦ last m.mid m.less
]
  where
    last : (left : List ℕ) → line_feed ≡ left ++ mid → AreWhole mid
    last [] e = inr ([], sym e)
    last (z ∷ left) e = inl (none left mid (ap (drop 1) e))
      where
        none : (xs ys : List ℕ) → [] ≡ xs ++ ys → ys ≡ []
        none [] ys e = sym e
        none (x ∷ xs) ys e = cc

-- the first line of whole lines
record HasLine (bytes : List ℕ) : Type 0 where
  next : List ℕ
  after : List ℕ
  parts : bytes ≡ next ++ (line_feed ++ after)
  one : feeds next ≡ 0

-- one more byte in front of whole lines
begins : (x : ℕ) (front : List ℕ) → HasLine (front ++ line_feed) → (b : Bool) → (x == 10) ≡ b → HasLine (x ∷ (front ++ line_feed))
begins x front rest true e = record { next = []; after = front ++ line_feed; parts = ap (λ c. c ∷ (front ++ line_feed)) (eqb-true x 10 e); one = refl }
begins x front rest false e =
    let more : feeds (x ∷ rest.next) ≡ 0 + feeds rest.next = sum_by-cons (λ b. cond (b == 10) 1 0) x rest.next ∙ ap (λ (b : Bool). cond b 1 0 + feeds rest.next) e in
    record { next = x ∷ rest.next; after = rest.after; parts = ap (λ l. x ∷ l) rest.parts; one = omega (arith, more, rest.one) }

first_line : (front : List ℕ) → HasLine (front ++ line_feed)
first_line [] = record { next = []; after = []; parts = refl; one = refl }
first_line (x ∷ front) = begins x front (first_line front) (x == 10) refl

-- ---- stops

groups : (a b c d e : List ℕ) → (a ++ (b ++ (c ++ d))) ++ e ≡ (a ++ (b ++ c)) ++ (d ++ e)
groups a b c d e = simp append_assoc

-- no image goes on from a line more than the first stop has
not_further : (bytes front : List ℕ) (line other : ℕ) (x : StopsAt bytes line) (y : StopsAt bytes other) (m : GoesOn x.before y.before x.behind y.behind) → m.mid ≡ front ++ line_feed → ⊥
not_further bytes front line other x y m is =
    let has : HasLine (front ++ line_feed) = first_line front in
    let mid : m.mid ≡ has.next ++ (line_feed ++ has.after) = is ∙ has.parts in
    let (v, t, image, told) = y.continued in
    x.not_with has.next (has.after ++ y.behind) has.one
    (m.less ∙ ap (λ l. l ++ y.behind) mid ∙ append_assoc has.next (line_feed ++ has.after) y.behind ∙ ap (λ l. has.next ++ l) (append_assoc line_feed has.after y.behind))
    (v, has.after ++ t, image, told ∙ ap (λ l. l ++ t) (m.more ∙ ap (λ l. x.before ++ l) mid) ∙ groups x.before has.next line_feed has.after t)

not_after : (bytes : List ℕ) (line other : ℕ) (x : StopsAt bytes line) (y : StopsAt bytes other) → GoesOn x.before y.before x.behind y.behind → line ≡ other
not_after bytes line other x y m = elim (whole_rest x.before m.mid (subst AreWhole m.more y.whole)) [
  | inl none ↦ x.number ∙ ap (λ l. feeds l + 1) (sym (append-nil x.before) ∙ ap (λ l. x.before ++ l) (sym none) ∙ sym m.more) ∙ sym y.number
  | inr some ↦ absurd (not_further bytes some.0 line other x y m some.1)
]

pub stops_once : (bytes : List ℕ) (line other : ℕ) → StopsAt bytes line → StopsAt bytes other → line ≡ other
stops_once bytes line other x y = elim (meet x.before y.before x.behind y.behind (sym x.parts ∙ y.parts)) [
  | inl m ↦ not_after bytes line other x y m
  | inr m ↦ sym (not_after bytes other line y x m)
]
