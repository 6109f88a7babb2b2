-- What is met, and what is due, against how many objects registers name.
use Rattle.std.proofs.Common.{◌≡◌, ℕ, suc, ◌+◌, ◌≤◌, List, [], ◌∷◌, ◌++◌, length, refl, sym, ap, subst, ◌∙◌, arith}
use Rattle.std.specs.Prelude.{max}
use Rattle.std.proofs.lemmas.Bool.Decides.{nat_tests}
use Rattle.rec_image.specs.declared.meeting.Meeting.{Meeting}
use Rattle.rec_image.specs.Drafts.{due_for, meets, begins, meets_all, walks}
use Rattle.rec_image.proofs.Growing.{Grows, highest, Follows, highest_all}

-- what is due covers what was, and what has to be met
due_covers : (m : Meeting) (n r : ℕ) → due_for m n ≤ r → (m.due ≤ r) × (n ≤ max r m.met)
due_covers m n r h = (was m n r h, needs m n r h)
  where
    was : (m : Meeting) (n r : ℕ) → due_for m n ≤ r → m.due ≤ r
    was m n r h = grind (arith, nat_tests)

    needs : (m : Meeting) (n r : ℕ) → due_for m n ≤ r → n ≤ max r m.met
    needs m n r h = grind (arith, nat_tests)

covers_due : (m : Meeting) (n r : ℕ) → m.due ≤ r → n ≤ max r m.met → due_for m n ≤ r
covers_due m n r was needs = grind (arith, nat_tests)

pub meets_highest : (m : Meeting) (ns : List ℕ) (r : ℕ) → max r (meets_all m ns).met ≡ highest (max r m.met) ns
meets_highest m [] r = refl
meets_highest m (n ∷ ns) r = meets_highest (meets m n) ns r ∙ ap (λ (k : ℕ). highest k ns) (let e : max r (max m.met (n + 1)) ≡ max (max r m.met) (n + 1) = omega arith in e)

pub meets_grow : (m : Meeting) (ns : List ℕ) (r : ℕ) → (meets_all m ns).due ≤ r → (m.due ≤ r) × Grows (max r m.met) ns
meets_grow m [] r h = (h, tt)
meets_grow m (n ∷ ns) r h =
    let later : (due_for m n ≤ r) × Grows (max r (max m.met (n + 1))) ns = meets_grow (meets m n) ns r h in
    let now : (m.due ≤ r) × (n ≤ max r m.met) = due_covers m n r later.0 in
    (now.0, (now.1, subst (λ (k : ℕ). Grows k ns) (let e : max r (max m.met (n + 1)) ≡ max (max r m.met) (n + 1) = omega arith in e) later.1))

pub grow_meets : (m : Meeting) (ns : List ℕ) (r : ℕ) → m.due ≤ r → Grows (max r m.met) ns → (meets_all m ns).due ≤ r
grow_meets m [] r h g = h
grow_meets m (n ∷ ns) r h g =
    grow_meets (meets m n) ns r (covers_due m n r h g.0) (subst (λ (k : ℕ). Grows k ns) (let e : max (max r m.met) (n + 1) ≡ max r (max m.met (n + 1)) = omega arith in e) g.1)

pub walks_highest : (m : Meeting) (j : ℕ) (cs : List (List ℕ)) (r : ℕ) → max r (walks m j cs).met ≡ highest_all (max r m.met) cs
walks_highest m j [] r = refl
walks_highest m j (c ∷ cs) r = walks_highest (meets_all (begins m j) c) (j + 1) cs r ∙ ap (λ (k : ℕ). highest_all k cs) (meets_highest (begins m j) c r)

pub walks_follow : (m : Meeting) (j : ℕ) (cs : List (List ℕ)) (r : ℕ) → (walks m j cs).due ≤ r → (m.due ≤ r) × Follows (max r m.met) j cs
walks_follow m j [] r h = (h, tt)
walks_follow m j (c ∷ cs) r h =
    let later : ((meets_all (begins m j) c).due ≤ r) × Follows (max r (meets_all (begins m j) c).met) (j + 1) cs = walks_follow (meets_all (begins m j) c) (j + 1) cs r h in
    let names : (due_for m (j + 1) ≤ r) × Grows (max r m.met) c = meets_grow (begins m j) c r later.0 in
    let now : (m.due ≤ r) × (j + 1 ≤ max r m.met) = due_covers m (j + 1) r names.0 in
    (now.0, (omega (arith, now.1), names.1, subst (λ (k : ℕ). Follows k (j + 1) cs) (meets_highest (begins m j) c r) later.1))

pub follow_walks : (m : Meeting) (j : ℕ) (cs : List (List ℕ)) (r : ℕ) → m.due ≤ r → Follows (max r m.met) j cs → (walks m j cs).due ≤ r
follow_walks m j [] r h f = h
follow_walks m j (c ∷ cs) r h f =
    follow_walks (meets_all (begins m j) c) (j + 1) cs r
    (grow_meets (begins m j) c r (covers_due m (j + 1) r h (omega (arith, f.0))) f.1)
    (subst (λ (k : ℕ). Follows k (j + 1) cs) (sym (meets_highest (begins m j) c r)) f.2)

-- no more is due than is met, or than has had its turn
meets_due : (m : Meeting) (ns : List ℕ) (n : ℕ) → m.due ≤ max n m.met → (meets_all m ns).due ≤ max n (meets_all m ns).met
meets_due m [] n h = h
meets_due m (k ∷ ns) n h = meets_due (meets m k) ns n (step m k n h)
  where
    step : (m : Meeting) (k n : ℕ) → m.due ≤ max n m.met → due_for m k ≤ max n (max m.met (k + 1))
    step m k n h = grind (arith, nat_tests)

pub walks_due : (m : Meeting) (j : ℕ) (cs : List (List ℕ)) → m.due ≤ max j m.met → (walks m j cs).due ≤ max (j + length cs) (walks m j cs).met
walks_due m j [] h = subst (λ (k : ℕ). m.due ≤ max k m.met) (let e : j ≡ j + 0 = omega arith in e) h
walks_due m j (c ∷ cs) h =
    let now : (meets_all (begins m j) c).due ≤ max (j + 1) (meets_all (begins m j) c).met = meets_due (begins m j) c (j + 1) (step m j h) in
    subst (λ (k : ℕ). (walks (meets_all (begins m j) c) (j + 1) cs).due ≤ max k (walks (meets_all (begins m j) c) (j + 1) cs).met) (let e : (j + 1) + length cs ≡ j + suc (length cs) = omega arith in e) (walks_due (meets_all (begins m j) c) (j + 1) cs now)
  where
    step : (m : Meeting) (j : ℕ) → m.due ≤ max j m.met → due_for m (j + 1) ≤ max (j + 1) m.met
    step m j h = grind (arith, nat_tests)

-- objects one after another
pub walks-append : (m : Meeting) (j k : ℕ) (cs ds : List (List ℕ)) → j + length cs ≡ k → walks m j (cs ++ ds) ≡ walks (walks m j cs) k ds
walks-append m j k [] ds e = ap (λ (i : ℕ). walks m i ds) (let s : j ≡ k = omega arith in s)
walks-append m j k (c ∷ cs) ds e = walks-append (meets_all (begins m j) c) (j + 1) k cs ds (omega arith)
