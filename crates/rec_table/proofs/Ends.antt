-- What a closed table leaves.
use Rattle.std.proofs.Common.{◌≡◌, ℕ, zero, suc, ◌+◌, ◌≤◌, arith, List, [], ◌∷◌, ◌++◌, map, length, get_or, Option, refl, sym, ap, ◌∙◌, subst, false}
use mathlib.Core.Option as maybe
use mathlib.Core.Option.{some, none, some-injective, some-ne-none}
use mathlib.Core.Logic.{dite}
use native.Mathlib.Decide.{dec_lt}
use lib.ListN.{get_elem?, take}
use Rattle.std.proofs.Math.Numerals.{add-one}
use Rattle.atomic_table.specs.Table.{State, Final, Seen}
use Rattle.rec_table.proofs.Common.{Contents, Core, IsKept, world_kept, mutator, told, gathered_all, Runs, Holds, Beat, CollectorSeat, View, Collects}
use Rattle.rec_table.specs.Ends.{IsRunOf}
use Rattle.rec_table.proofs.Beats.{mutator_after, world_after}
use Rattle.rec_table.proofs.Collects.{collector_after}

past : (logs : List (List Beat)) (k : ℕ) → length logs ≤ k → get_or logs k [] ≡ []
past [] k le = refl
past (x ∷ xs) zero le = absurd (omega arith)
past (x ∷ xs) (suc k) le = past xs k (omega arith)

-- each home mailbox is the one that was taken off the table
pub same_boxes : (homes : List (maybe.Option (Option Contents))) (xs : List (Option Contents)) → length homes ≡ length xs → ((k : ℕ) (y : Option Contents) → get_elem? homes k ≡ some (some y) → get_elem? xs k ≡ some y)
    → (bs : List (Option Contents)) → homes ≡ map some bs → bs ≡ xs
same_boxes homes xs len each [] is = by xs (sym (ap length is) ∙ len)
  where
    by : (ys : List (Option Contents)) → 0 ≡ length ys → [] ≡ ys
    by [] e = refl
    by (y ∷ ys) e = absurd (omega arith)
same_boxes homes [] len each (b ∷ bs) is = let bad : length homes ≡ suc (length (map some bs)) = ap length is in absurd (omega (arith, bad, len))
same_boxes [] (x ∷ xs) len each (b ∷ bs) is = absurd (omega arith)
same_boxes (h ∷ homes) (x ∷ xs) len each (b ∷ bs) is =
    let head : get_elem? (h ∷ homes) 0 ≡ some (some b) = ap (λ l. get_elem? l 0) is in
    let tail : homes ≡ map some bs = ap rest_of is in
    λ i. sym (some-injective x b (each 0 b head)) i ∷ same_boxes homes xs (omega arith) (λ k y e. each (suc k) y e) bs tail i
  where
    rest_of : List (maybe.Option (Option Contents)) → List (maybe.Option (Option Contents))
    rest_of [] = []
    rest_of (y ∷ ys) = ys

pub ended : (key : Core) (id : ℕ) (v : View) (c : CollectorSeat) (ws : List ℕ) (xs : List (Option Contents)) → v ≡ Collects c → c.made ≡ key.config.mutators → length c.known ≡ key.config.mutators
    → Final (Seen (Runs key) id v) ws xs → IsRunOf key c ws xs
ended key id v c ws xs is made known f =
    let s : State (Option Contents) View = f.0 in
    let h : Holds key s = f.1.0.holds in
    let kept : IsKept false key = world_kept key h.world in
    let mine = h.each id (Collects c) (subst (λ (u : View). get_elem? s.views id ≡ some u) is f.1.1) in
    record {
      run = h.run;
      fit = h.fit;
      offerless = h.offerless;
      world = world_after key h.run h.world h.fit;
      words = sym f.2 ∙ h.words;
      homes = s.homes;
      homes_are = h.homes;
      many = f.3;
      boxes = f.4;
      mine = mine.3;
      theirs = λ k. dite (dec_lt k (length c.known))
          (λ lt. mine.4 k (omega (arith, mine.2)))
          (λ ge. past c.known k (omega (arith, ge)) ∙ sym (h.fresh (k + 1) (omega (arith, ge, mine.1, made, known))));
      collector = collector_after key h.run kept h.fit h.offerless ∙ ap (gathered_all key.collector) (sym mine.3);
      mutators = λ k lt.
          mutator_after key h.run (k + 1) kept h.fit (omega arith, omega (arith, lt)) ∙ ap (told (mutator key (k + 1))) (sym (mine.4 k (omega (arith, lt, known, mine.2))));
    }

take_suc : {A : Type 0} (l : List A) (i : ℕ) (x : A) → get_elem? l i ≡ some x → take (suc i) l ≡ take i l ++ x ∷ []
take_suc [] i x e = absurd (some-ne-none x (sym e))
take_suc (y ∷ ys) zero x e = λ k. some-injective y x e k ∷ []
take_suc (y ∷ ys) (suc i) x e = λ k. y ∷ take_suc ys i x e k

pub take_one : {A : Type 0} (l : List A) (i : ℕ) (x : A) → get_elem? l i ≡ some x → take (i + 1) l ≡ take i l ++ x ∷ []
take_one l i x e = rw add-one (take_suc l i x e)

pub take_whole : {A : Type 0} (l : List A) (i : ℕ) → length l ≤ i → take i l ≡ l
take_whole [] zero le = refl
take_whole [] (suc i) le = refl
take_whole (y ∷ ys) zero le = absurd (omega arith)
take_whole (y ∷ ys) (suc i) le = λ k. y ∷ take_whole ys i (omega arith) k
