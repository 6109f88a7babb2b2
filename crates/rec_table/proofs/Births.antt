-- The births of a run are those of the mutators' lists, added up.
use Rattle.std.proofs.Common.{◌≡◌, ◌≢◌, inl, inr, ℕ, zero, suc, ◌+◌, ◌<◌, ◌≤◌, arith, List, [], ◌∷◌, refl, sym, ap, ◌∙◌, false}
use Rattle.std.proofs.lemmas.Bool.{cases_eq}
use Rattle.rec_table.proofs.Common.{Core, mutator, Move, AllFit, Fits, after_move, after_moves, Private, IsKept, move_kept, move_stays, other_gives, own_gives, beats_in, beats_of, births_told, told, Beat}
use Rattle.rec_core.specs.Run.{by_actor, maker}
use Rattle.rec_core.specs.declared.config.Config.{Config}
use Rattle.rec_table.proofs.Beats.{told_in}
use Rattle.rec_table.proofs.Making.{births_both}
use Rattle.rec_core.proofs.Turn.{turned_made}

-- the births in such lists of the first so many mutators, added up
abbrev all_births : Core → (ℕ → List Beat) → ℕ → ℕ
all_births w lists zero = 0
all_births w lists (suc n) = all_births w lists n + births_told (mutator w (n + 1)) (lists (n + 1))

abbrev pub births_all : Core → List Move → ℕ → ℕ
births_all w ms n = all_births w (λ x. beats_of x w ms) n

-- where no list but that of t tells anything
module _ (w : Core) (lists : ℕ → List Beat) (t : ℕ) (none : (x : ℕ) → 1 ≤ x → t ≢ x → lists x ≡ []) where
  none_before : (n : ℕ) → n < t → all_births w lists n ≡ 0
  none_before zero lt = refl
  none_before (suc n) lt =
      let here : births_told (mutator w (n + 1)) (lists (n + 1)) ≡ 0 = ap (births_told (mutator w (n + 1))) (none (n + 1) (omega arith) (λ e. omega (arith, e, lt))) in
      omega (arith, none_before n (omega (arith, lt)), here)

  one_alone : (n : ℕ) → 1 ≤ t → t ≤ n → all_births w lists n ≡ births_told (mutator w t) (lists t)
  one_alone zero low le = absurd (omega (arith, low, le))
  one_alone (suc n) low le = elim (cases_eq t (n + 1)) [
    | inl e ↦
        let here : births_told (mutator w (n + 1)) (lists (n + 1)) ≡ births_told (mutator w t) (lists t) = ap (λ x. births_told (mutator w x) (lists x)) (sym e) in
        omega (arith, none_before n (omega (arith, e)), here)
    | inr ne ↦
        let here : births_told (mutator w (n + 1)) (lists (n + 1)) ≡ 0 = ap (births_told (mutator w (n + 1))) (none (n + 1) (omega arith) ne) in
        omega (arith, one_alone n low (omega (arith, le, ne)), here)
  ]

splits_first : (w : Core) (m : Move) (ms : List Move) (n : ℕ) → IsKept false w → Fits w m → n ≤ w.config.mutators → births_all w (m ∷ ms) n ≡ all_births w (λ x. by_actor x beats_in w m) n + births_all (after_move w m) ms n
splits_first w m ms zero kept fits le = omega arith
splits_first w m ms (suc n) kept fits le =
    let now : List Beat = by_actor (n + 1) beats_in w m in
    let later : List Beat = beats_of (n + 1) (after_move w m) ms in
    let then_ : births_told (told (mutator w (n + 1)) now) later ≡ births_told (mutator (after_move w m) (n + 1)) later
    = ap (λ (p : Private). births_told p later) (sym (told_in w m (n + 1) kept fits (omega arith, omega (arith, le)))) in
    omega (arith, splits_first w m ms n kept fits (omega (arith, le)), births_both (mutator w (n + 1)) now later, then_)

-- a move's births are told of its mutator alone
move_made : (w : Core) (m : Move) → Fits w m → (after_move w m).made ≡ w.made + all_births w (λ x. by_actor x beats_in w m) w.config.mutators
move_made w m fits = by m fits
  where
    own : (m : Move) → 1 ≤ maker m → maker m ≤ w.config.mutators → all_births w (λ x. by_actor x beats_in w m) w.config.mutators ≡ births_told (mutator w (maker m)) (beats_in w m)
    own m low most =
        one_alone w (λ x. by_actor x beats_in w m) (maker m) (λ x le ne. other_gives x beats_in w m ne) w.config.mutators low most
        ∙ ap (births_told (mutator w (maker m))) (own_gives (maker m) beats_in w m refl)

    none : (m : Move) → maker m ≡ 0 → all_births w (λ x. by_actor x beats_in w m) w.config.mutators ≡ 0
    none m is = none_before w (λ x. by_actor x beats_in w m) (suc w.config.mutators) (λ x le ne. other_gives x beats_in w m (λ e. omega (arith, e, is, le))) w.config.mutators (omega arith)

    by : (m : Move) → Fits w m → (after_move w m).made ≡ w.made + all_births w (λ x. by_actor x beats_in w m) w.config.mutators
    by (Move.Begins t work from) fits = omega (arith, own (Move.Begins t work from) fits.0.0 fits.0.1)
    by (Move.Steps t) fits = omega (arith, own (Move.Steps t) fits.0.0 fits.0.1)
    by Move.Turns fits = omega (arith, none Move.Turns refl, turned_made w)
    by Move.Offers fits = omega (arith, none Move.Offers refl)

none_yet : (w : Core) (n : ℕ) → births_all w [] n ≡ 0
none_yet w zero = refl
none_yet w (suc n) = let rest = none_yet w n in omega (arith, rest)

pub births_add_up : (w : Core) (ms : List Move) → IsKept false w → AllFit w ms → (after_moves w ms).made ≡ w.made + births_all w ms w.config.mutators
births_add_up w [] kept fit = let none = none_yet w w.config.mutators in omega (arith, none)
births_add_up w (m ∷ ms) kept fit =
    let same : births_all (after_move w m) ms (after_move w m).config.mutators ≡ births_all (after_move w m) ms w.config.mutators = ap (λ (c : Config). births_all (after_move w m) ms c.mutators) (move_stays w m) in
    omega (arith, births_add_up (after_move w m) ms (move_kept w m kept fit.0) fit.1, same, move_made w m fit.0, splits_first w m ms w.config.mutators kept fit.0 (omega arith))
