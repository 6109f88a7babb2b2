-- Members that are given up after a batch were out of reach before it.
use Rattle.std.proofs.Common.{◌≡◌, ◌⊎◌, inl, inr, ℕ, ◌+◌, ◌<◌, ◌≤◌, Bool, true, false, cond, eqb, leb, List, length, sum_by, refl, subst, arith}
use Rattle.std.proofs.lemmas.Bool.Decides.{nat_tests}
use Rattle.std.proofs.lemmas.Bool.{cases_lt}
use Rattle.std.proofs.lemmas.List.Sums.{sum_by-le-sum_by}
use Rattle.rec_model.proofs.Common.{only_if, one_if_same, sum_at, node_of, epoch_of, home, Write, Pending, word_in, IsInReach, opened_to, closed_from, closed_in, closed_at, references_at, puts_in, replaces_in, HasLedger, late, put_late, replaced_late, StandsOnce, touches, IsHeldAt}
use Rattle.rec_model.specs.Sets.{seen_in, IsStanding, PassesTests, marked_in, IsMarked, Cleared, early, replaced_early, gone_early, is_unreleased, IsSince, with_members}
use Rattle.rec_model.proofs.Sums.{get_or-le-sum_at, sum_at-le-sum_at, sum_by_split}
use Rattle.rec_model.proofs.Places.{sum_at-le-from_get_or}
use Rattle.rec_model.proofs.Counted.{edge_sum, root_sum}
use Rattle.rec_model.proofs.Reaching.{all_in_reach}
use Rattle.rec_model.proofs.Ledgers.{node_of_null}
use Rattle.rec_model.proofs.Naming.{count_is}
use Rattle.rec_model.proofs.Sets.{outer_word, outer_write, outer_none, inner_source}
use Rattle.rec_model.proofs.Loading.{at_place, place_sum, closed_sum, place_sum_is}

-- a null word is at no place
pub null_elsewhere : (p z place : ℕ) → 0 < z → at_place p z place 0 ≡ 0
null_elsewhere p z place pos = let null : node_of 0 ≡ 0 = node_of_null in grind (arith, nat_tests)

-- members that were given up since the batch
abbrev given_up : (member released : ℕ → Bool) → ℕ → Bool
given_up member released s = cond (member s) (released s) false

module _ (w u : Pending) (member : ℕ → Bool) (mark : ℕ → ℕ) (gone : List Cleared) (m : IsMarked u member mark) (v : IsSince w u member gone) where
  -- a marking word was a reference when the batch was applied
  marked_then : (p z : ℕ) → p < length u.words → 0 < z → member z ≡ true → one_if_same z (node_of (mark p)) ≤ place_sum u w.applied p z
  marked_then p z inside pos is = subst (λ k. one_if_same z (node_of (mark p)) ≤ place_sum u k p z) v.next (omega (arith, m.stands p z inside pos is, place_sum_is u (u.applied + 1) p z inside))

  -- where no reference is left at its place, it was taken out of a member that was given up
  from_given_up : (p z : ℕ) → p < length u.words → 0 < z → member z ≡ true → 0 < one_if_same z (node_of (mark p)) → place_sum w w.applied p z ≡ 0 → given_up member w.released (home u.fields p) ≡ true
  from_given_up p z inside pos is some none = go (member (home u.fields p)) (w.released (home u.fields p)) refl refl
    where
      went : 0 < sum_by (gone_early w.applied (at_place p z)) gone
      went = omega (arith, some, none, marked_then p z inside pos is, v.kept (at_place p z) (λ i. null_elsewhere p z i pos))

      unreleased : w.released (home u.fields p) ≡ false → (g : Cleared) → gone_early w.applied (at_place p z) g ≤ is_unreleased u.fields w.released g
      unreleased f g = grind (arith, nat_tests, f)

      given_up_then : sum_by (is_unreleased u.fields w.released) gone ≡ 0
      given_up_then = subst (λ k. sum_by (is_unreleased k w.released) gone ≡ 0) v.fields v.given_up

      black : member (home u.fields p) ≡ false → one_if_same z (node_of (mark p)) ≤ closed_at u w.applied p z
      black e = subst (λ a. one_if_same z (node_of (mark p)) ≤ closed_at u a p z) v.next (m.blackened p z inside pos is e)

      go : (b c : Bool) → member (home u.fields p) ≡ b → w.released (home u.fields p) ≡ c → given_up member w.released (home u.fields p) ≡ true
      go true true e f = grind (arith, e, f)
      go true false e f = absurd (omega (arith, went, given_up_then, sum_by-le-sum_by (gone_early w.applied (at_place p z)) (is_unreleased u.fields w.released) gone (unreleased f)))
      go false c e f =
          absurd (omega (
            arith,
            some,
            none,
            black e,
            v.grown (replaced_early w.applied (at_place p z)),
            closed_sum u w.applied p z,
          ))

-- at one place, and put up to the epoch behind b
abbrev place_before : (b p z place word : ℕ) → ℕ
place_before b p z place word = only_if (leb (epoch_of word) (b + 1)) (at_place p z place word)

-- a reference of the batch's epoch was one of the epoch before, if nothing was put there then
stands_before : (u : Pending) (member : ℕ → Bool) (mark : ℕ → ℕ) → IsMarked u member mark → StandsOnce u → (p z : ℕ) → p < length u.words → 0 < z → member z ≡ true → sum_by (put_late u.applied (place_before u.applied p z)) u.writes ≡ 0
    → one_if_same z (node_of (mark p)) ≤ references_at u u.applied p z
stands_before u member mark m o p z inside pos is none =
    let b : ℕ = u.applied in
    let q : ℕ → ℕ → ℕ = place_before b p z in
    omega (
      arith,
      none,
      o q,
      m.stands p z inside pos is,
      get_or-le-sum_at (late b q) u.words p 0 inside,
      one (word_in u p),
      sum_by-le-sum_by (closed_in (b + 1) p z) (λ e. closed_in b p z e + replaced_late b q e) u.writes (λ e. grind (arith, nat_tests)),
      sum_by_split (λ e. closed_in b p z e + replaced_late b q e) (closed_in b p z) (replaced_late b q) u.writes (λ e. refl),
    )
  where
    one : (word : ℕ) → opened_to (u.applied + 1) z p word ≤ opened_to u.applied z p word + late u.applied (place_before u.applied p z) p word
    one word = grind (arith, nat_tests)

put_there : (fields b p z : ℕ) (e : Write) → put_late b (place_before b p z) e ≤ touches fields b (home fields p) e
put_there fields b p z e = go (eqb p e.place) refl
  where
    go : (c : Bool) → eqb p e.place ≡ c → put_late b (place_before b p z) e ≤ touches fields b (home fields p) e
    go true f = let same_place : p ≡ e.place = (grind (arith, nat_tests, f)) in rw same_place (touched e)
      where
        touched : (e : Write) → put_late b (place_before b e.place z) e ≤ touches fields b (home fields e.place) e
        touched e = grind (arith, nat_tests)
    go false f = grind (arith, nat_tests, f)

module _ (w u : Pending) (member : ℕ → Bool) (mark : ℕ → ℕ) (gone : List Cleared) (m : IsMarked u member mark) (v : IsSince w u member gone)
    (lu : HasLedger u) (ou : StandsOnce u) (hu : IsHeldAt u u.applied) (lw : HasLedger w) (ow : StandsOnce w) where
  given_up_safe : (s : ℕ) → 0 < s → given_up member w.released s ≡ true → IsInReach u u.applied s → ⊥
  given_up_safe s pos t = let b = both (member s) (w.released s) t in v.safe s pos b.0 b.1
    where
      both : (b c : Bool) → cond b c false ≡ true → (b ≡ true) × (c ≡ true)
      both b c e = grind arith

  -- no reference at any place leads to a node without a count
  uncounted_place : (z : ℕ) → 0 < z → w.count z ≡ 0 → (p : ℕ) → place_sum w w.applied p z ≡ 0
  uncounted_place z pos none p = omega (
    arith,
    none,
    count_is w z lw ow pos,
    sum_at-le-sum_at (early w.applied (at_place p z)) (opened_to w.applied z) w.words (λ i word. grind (arith, nat_tests)),
    sum_by-le-sum_by (replaced_early w.applied (at_place p z)) (closed_from w.applied z) w.writes (λ e. grind (arith, nat_tests)),
  )

  given_up_stands : (z : ℕ) → 0 < z → member z ≡ true → IsStanding u (given_up member w.released) mark z
  given_up_stands z pos is p inside t =
      let b : ℕ = u.applied in
      elim (cases_lt 0 (sum_by (put_late b (place_before b p z)) u.writes)) [
        | inr none ↦ stands_before u member mark m ou p z inside pos is (omega (arith, none))
        | inl some ↦ absurd (given_up_safe (home u.fields p) (omega arith) t (hu (home u.fields p) (omega arith) (omega (arith, some, sum_by-le-sum_by (put_late b (place_before b p z)) (touches u.fields b (home u.fields p)) u.writes (λ e. put_there u.fields b p z e)))))
      ]

  -- where each marking word that names a member is at a place of a set, these words cover its count
  covered_from : (n : ℕ → Bool) (z : ℕ) → 0 < z → member z ≡ true → ((p : ℕ) → p < length u.words → 0 < one_if_same z (node_of (mark p)) → n (home u.fields p) ≡ true) → u.count z ≤ sum_at (seen_in u.fields n mark z) u.words
  covered_from n z pos is h = omega (arith, m.counted z pos is, sum_at-le-from_get_or (marked_in mark z) (seen_in u.fields n mark z) u.words 0 each)
    where
      each : (p : ℕ) → p < length u.words → one_if_same z (node_of (mark p)) ≤ only_if (n (home u.fields p)) (one_if_same z (node_of (mark p)))
      each p inside = elim (cases_lt 0 (one_if_same z (node_of (mark p)))) [
        | inr none ↦ omega (arith, none)
        | inl some ↦ let e : n (home u.fields p) ≡ true = h p inside some in rw e (omega arith)
      ]

  -- a member whose count came to zero was out of reach before the batch
  pub uncounted_safe : (z : ℕ) → 0 < z → member z ≡ true → w.count z ≡ 0 → IsInReach u u.applied z → ⊥
  uncounted_safe z pos is none reached =
      all_in_reach u u.applied (λ y. y ≡ z → ⊥) at_root at_target z reached refl
    where
      covered : u.count z ≤ sum_at (seen_in u.fields (given_up member w.released) mark z) u.words
      covered = covered_from (given_up member w.released) z pos is (λ p inside some. from_given_up w u member mark gone m v p z inside pos is some (uncounted_place z pos none p))

      at_root : (y : ℕ) → 0 < y → 0 < root_sum u u.applied y → y ≡ z → ⊥
      at_root y _ r e =
          let r2 : 0 < root_sum u u.applied z = subst (λ k. 0 < root_sum u u.applied k) e r in
          absurd (omega (arith, r2, outer_none u (given_up member w.released) mark lu ou z (given_up_stands z pos is) covered pos))

      at_target : (s y : ℕ) → 0 < s → 0 < y → IsInReach u u.applied s → (s ≡ z → ⊥) → 0 < edge_sum u u.applied s y → y ≡ z → ⊥
      at_target s y above _ from _ g e =
          let g2 : 0 < edge_sum u u.applied s z = subst (λ k. 0 < edge_sum u u.applied s k) e g in
          given_up_safe s above (inner_source u (given_up member w.released) mark lu ou z (given_up_stands z pos is) covered pos s g2) from

  -- a set that passes its tests was out of reach before the batch
  module _ (chosen : ℕ → Bool) (seen : ℕ → ℕ) (t : PassesTests w chosen seen)
      (among : (z : ℕ) → 0 < z → chosen z ≡ true → member z ≡ true)
      (unput : (z : ℕ) → 0 < z → chosen z ≡ true → sum_by (puts_in (u.applied + 1) z) u.writes ≡ 0) where
    outer_place : (z : ℕ) → 0 < z → chosen z ≡ true → (p : ℕ) → chosen (home w.fields p) ≡ false → place_sum w w.applied p z ≡ 0
    outer_place z pos is p out = omega (
      arith,
      outer_none w chosen seen lw ow z (t.stands z pos is) (t.counted z pos is) pos,
      sum_at-le-sum_at (early w.applied (at_place p z)) (outer_word w chosen z) w.words (λ i word. at_word i word),
      sum_by-le-sum_by (replaced_early w.applied (at_place p z)) (outer_write w chosen z) w.writes (λ e. at_write e),
    )
      where
        at_word : (i word : ℕ) → early w.applied (at_place p z) i word ≤ outer_word w chosen z i word
        at_word i word = grind (arith, nat_tests, out)

        at_write : (e : Write) → replaced_early w.applied (at_place p z) e ≤ outer_write w chosen z e
        at_write e = grind (arith, nat_tests, out)

    from_both : (z : ℕ) → 0 < z → chosen z ≡ true → (p : ℕ) → p < length u.words → 0 < one_if_same z (node_of (mark p)) → with_members (given_up member w.released) chosen (home u.fields p) ≡ true
    from_both z pos is p inside some = go (chosen (home u.fields p)) refl
      where
        go : (b : Bool) → chosen (home u.fields p) ≡ b → with_members (given_up member w.released) chosen (home u.fields p) ≡ true
        go true e = grind (arith, e)
        go false e =
            let out : chosen (home w.fields p) ≡ false = rw v.fields e in
            let f : given_up member w.released (home u.fields p) ≡ true = from_given_up w u member mark gone m v p z inside pos (among z pos is) some (outer_place z pos is p out) in
            grind (arith, e, f)

    both_stand : (z : ℕ) → 0 < z → chosen z ≡ true → IsStanding u (with_members (given_up member w.released) chosen) mark z
    both_stand z pos is p inside from =
        let b : ℕ = u.applied in
        stands_before u member mark m ou p z inside pos (among z pos is) (omega (arith, unput z pos is, sum_by-le-sum_by (put_late b (place_before b p z)) (puts_in (b + 1) z) u.writes (λ e. grind (arith, nat_tests))))

    both_cover : (z : ℕ) → 0 < z → chosen z ≡ true → u.count z ≤ sum_at (seen_in u.fields (with_members (given_up member w.released) chosen) mark z) u.words
    both_cover z pos is = covered_from (with_members (given_up member w.released) chosen) z pos (among z pos is) (from_both z pos is)

    which : (s : ℕ) → with_members (given_up member w.released) chosen s ≡ true → (chosen s ≡ true) ⊎ (given_up member w.released s ≡ true)
    which s e = go (chosen s) refl
      where
        go : (b : Bool) → chosen s ≡ b → (chosen s ≡ true) ⊎ (given_up member w.released s ≡ true)
        go true f = inl f
        go false f = inr (grind (arith, e, f))

    pub set_safe : (z : ℕ) → IsInReach u u.applied z → chosen z ≡ true → ⊥
    set_safe = all_in_reach u u.applied (λ z. chosen z ≡ true → ⊥) at_root at_target
      where
        at_root : (z : ℕ) → 0 < z → 0 < root_sum u u.applied z → chosen z ≡ true → ⊥
        at_root z pos r is = absurd (omega (arith, r, outer_none u (with_members (given_up member w.released) chosen) mark lu ou z (both_stand z pos is) (both_cover z pos is) pos))

        at_target : (s z : ℕ) → 0 < s → 0 < z → IsInReach u u.applied s → (chosen s ≡ true → ⊥) → 0 < edge_sum u u.applied s z → chosen z ≡ true → ⊥
        at_target s z above pos from away g is =
            elim (which s (inner_source u (with_members (given_up member w.released) chosen) mark lu ou z (both_stand z pos is) (both_cover z pos is) pos s g)) [
              | inl c ↦ away c
              | inr c ↦ given_up_safe s above c from
            ]

    -- so no write of the applied epoch replaced a word that names a member of it
    pub none_replaced : (z : ℕ) → 0 < z → chosen z ≡ true → sum_by (replaces_in w.applied z) w.writes ≡ 0
    none_replaced z pos is =
        let b : ℕ = u.applied in
        elim (cases_lt 0 (sum_by (touches u.fields b z) u.writes)) [
          | inl some ↦ absurd (set_safe z (hu z pos (omega (arith, some))) is)
          | inr none ↦ omega (arith, none, v.closed z, sum_by-le-sum_by (replaces_in w.applied z) (touches u.fields b z) u.writes (λ e. later e))
        ]
      where
        later : (e : Write) → replaces_in w.applied z e ≤ touches u.fields u.applied z e
        later e = let f : u.applied + 1 ≡ w.applied = v.next in grind (arith, nat_tests)
