-- A trial takes in a word: what marking and blackening loaded is followed still.
use Rattle.std.proofs.Common.{◌≡◌, ◌⊎◌, inl, inr, ℕ, suc, ◌<◌, if◌then◌else◌, cond, eqb, true, false, Bool, Option, None, Some, List, ◌∷◌, refl, sym, ap, ◌∙◌, arith}
use Rattle.std.proofs.lemmas.Bool.{cases_Bool, cases_lt, eq-eqb, eqb-true}
use Rattle.rec_word.specs.Word.{predecessor, target_bits}
use Rattle.rec_core.proofs.Common.{target_of, is_green, State, slot_at, Sight, word_at, visible, visible_if}
use Rattle.rec_trial.specs.declared.phase.Phase.{Phase}
use Rattle.rec_trial.specs.declared.phase.Phase.TheVariants.{Idle, Marking, Scanning, Collecting}
use Rattle.rec_trial.proofs.Deletion.{Loads, Seen, with_load}
use Rattle.rec_trial.proofs.Holding.{loaded}
use Rattle.rec_trial.proofs.Readings.{code_some}
use Rattle.rec_trial.proofs.Totals.{same}
use Rattle.rec_trial.proofs.Views.{bits_suc}
use Rattle.rec_prompt.proofs.Followed.{AreBlackened, AreMarked, hits}
use Rattle.rec_prompt.proofs.Hanging.{Trails}

-- a word that a trial sees leads where it leads
pub seen_leads : (s : State) (word x : ℕ) → target_of (visible s word) ≡ Some x → target_of word ≡ Some x
seen_leads s word x leads = go (target_of word) refl leads
  where
    by : (y : ℕ) (b : Bool) → target_of (if b then 0 else word) ≡ Some x → target_of word ≡ Some x
    by y true none = let not_so : ◌≡◌ {A = Option ℕ} None (Some x) = none in absurd (cc)
    by y false is = is

    go : (t : Option ℕ) → target_of word ≡ t → target_of (visible_if t s word) ≡ Some x → target_of word ≡ Some x
    go None e is = is
    go (Some y) e is = by y (is_green (slot_at s y).colour) is

-- and one that leads to no Green slot is seen as it is
seen_plain : (s : State) (word x : ℕ) → target_of word ≡ Some x → is_green (slot_at s x).colour ≡ false → visible s word ≡ word
seen_plain s word x leads plain = ap (λ t. visible_if t s word) leads ∙ ap (λ b. if b then 0 else word) plain

-- the code of a target
code_of : (word x : ℕ) → target_of word ≡ Some x → same (suc x) (target_bits word) ≡ 1
code_of word x leads = ap (λ (b : Bool). cond b 1 0) (eq-eqb (suc x) (target_bits word) (sym (code_some (target_bits word) x leads)))

of_code : (word x : ℕ) → 0 < same (suc x) (target_bits word) → target_of word ≡ Some x
of_code word x some = go (eqb (suc x) (target_bits word)) refl some
  where
    go : (b : Bool) → eqb (suc x) (target_bits word) ≡ b → 0 < cond b 1 0 → target_of word ≡ Some x
    go true e h = ap predecessor (sym (eqb-true (suc x) (target_bits word) e)) ∙ bits_suc x
    go false e h = absurd (omega (arith, h))

-- one load more
module _ (w : Sight) (pending : ℕ → Type 0) (s : State) (word : ℕ) (l : Seen) (here : word ≡ word_at w l.node l.field) (is : l.word ≡ target_bits (visible s word)) where
  marked_more : (ls : List Seen) → AreMarked w pending s ls → AreMarked w pending s (l ∷ ls)
  marked_more ls marks n g x within some leads = elim (cases_lt 0 (loaded n g ls)) [
    | inl old ↦ elim (marks n g x within old leads) [ inl hit ↦ inl (omega (arith, hit)) | inr rest ↦ inr rest ]
    | inr none ↦ go (eqb n l.node) (eqb g l.field) refl refl (omega (arith, some, none))
  ]
    where
      go : (a b : Bool) → eqb n l.node ≡ a → eqb g l.field ≡ b → 0 < cond a (cond b 1 0) 0 → (0 < hits n g x (l ∷ ls)) ⊎ ((is_green (slot_at s x).colour ≡ true) ⊎ Trails w pending x)
      go true true e f h =
          let there : target_of word ≡ Some x = ap target_of here ∙ ap (λ k. target_of (word_at w k l.field)) (sym (eqb-true n l.node e)) ∙ ap (λ k. target_of (word_at w n k)) (sym (eqb-true g l.field f)) ∙ leads in
          elim (cases_Bool (is_green (slot_at s x).colour)) [
            | inl green ↦ inr (inl green)
            | inr plain ↦
                let one_ : same (suc x) l.word ≡ 1 = ap (same (suc x)) (is ∙ ap target_bits (seen_plain s word x there plain)) ∙ code_of word x there in
                inl (omega (arith, ap (λ (b : Bool). cond b (cond (eqb g l.field) (same (suc x) l.word) 0) 0) e, ap (λ (b : Bool). cond b (same (suc x) l.word) 0) f, one_))
          ]
      go true false e f h = absurd (omega (arith, h))
      go false b e f h = absurd (omega (arith, h))

  blackened_more : (ls : List Seen) → AreBlackened w pending ls → AreBlackened w pending (l ∷ ls)
  blackened_more ls blacks n g x within some = elim (cases_lt 0 (hits n g x ls)) [
    | inl old ↦ blacks n g x within old
    | inr none ↦ go (eqb n l.node) (eqb g l.field) refl refl (omega (arith, some, none))
  ]
    where
      go : (a b : Bool) → eqb n l.node ≡ a → eqb g l.field ≡ b → 0 < cond a (cond b (same (suc x) l.word) 0) 0 → (target_of (word_at w n g) ≡ Some x) ⊎ pending x
      go true true e f h =
          let there : target_of word ≡ Some x = seen_leads s word x (of_code (visible s word) x (omega (arith, h, ap (same (suc x)) is))) in
          inl (ap (λ k. target_of (word_at w k g)) (eqb-true n l.node e) ∙ ap (λ k. target_of (word_at w l.node k)) (eqb-true g l.field f) ∙ sym (ap target_of here) ∙ there)
      go true false e f h = absurd (omega (arith, h))
      go false b e f h = absurd (omega (arith, h))

  -- whichever phase loaded it
  pub loads_more : (phase : Phase) (ls : Loads) → AreMarked w pending s ls.marks → AreBlackened w pending ls.blacks → AreMarked w pending s (with_load phase l ls).marks × AreBlackened w pending (with_load phase l ls).blacks
  loads_more Idle ls marks blacks = (marks, blacks)
  loads_more Marking ls marks blacks = (marked_more ls.marks marks, blacks)
  loads_more Scanning ls marks blacks = (marks, blackened_more ls.blacks blacks)
  loads_more Collecting ls marks blacks = (marks, blacks)
