-- Runs with moves more, and what they tell of an actor.
use Rattle.std.proofs.Common.{◌≡◌, ◌⊎◌, inl, inr, ⊎_elim, ℕ, ◌-◌, true, List, [], ◌∷◌, ◌++◌, refl, sym, ap, ◌∙◌, subst, arith, get_or-set_same, false}
use Rattle.std.proofs.lemmas.Bool.{cases_eq}
use Rattle.std.proofs.lemmas.List.Sums.{fold-append}
use Rattle.rec_table.proofs.Common.{Private, is_busy, begun_of, took_of, step_of, swapped_of, spare, IsSwapping, IsMutator, Core, mutator, nobody, box, IsKept, Move, after_move, after_moves, begun_from, stepped, Fits, AllFit, found_by, IsWorld, moved_world, move_kept, move_stays, mutator_stays, over_both, own_gives, other_gives, in_list, may_step, beats_in, beats_of, learnt, told, Beat, Saw}
use Rattle.rec_mutator.specs.declared.phase.Phase as phases
use Rattle.rec_mutator.specs.declared.phase.Phase.TheVariants as at
use Rattle.rec_core.specs.Run.{by_actor, maker}
use Rattle.rec_core.specs.declared.config.Config.{Config}
use Rattle.rec_world.proofs.Mailboxes.{machine_stays}

pub beats_both : (x : ℕ) (w : Core) (ms ns : List Move) → beats_of x w (ms ++ ns) ≡ beats_of x w ms ++ beats_of x (after_moves w ms) ns
beats_both x = over_both (by_actor x beats_in)

pub told_both : (p : Private) (cs bs : List Beat) → told p (cs ++ bs) ≡ told (told p cs) bs
told_both = fold-append learnt

pub world_after : (w : Core) (ms : List Move) → IsWorld w → AllFit w ms → IsWorld (after_moves w ms)
world_after w [] world f = world
world_after w (m ∷ ms) world f = world_after (after_move w m) ms (moved_world w m world f.0) f.1

swaps_or_not : (phase : phases.Phase) → IsSwapping phase ⊎ (IsSwapping phase → ⊥)
swaps_or_not at.Swapping = inl tt
swaps_or_not at.Retiring = inl tt
swaps_or_not _ = inr (λ x. x)

-- a step learns of its mailbox only what is known before: it holds a spare
pub step_same : (w : Core) (t : ℕ) → IsKept false w → IsMutator w.config t → is_busy (mutator w t) ≡ true
    → step_of (mutator w t) (found_by w t) (box w t) ≡ step_of (mutator w t) (found_by w t) (spare (took_of (mutator w t) (found_by w t)))
unfolding step_of
step_same w t kept is busy =
    let q : Private = took_of (mutator w t) (found_by w t) in
    ⊎_elim
    (λ (swaps : IsSwapping q.phase). ap (swapped_of q) ((may_step w t kept is busy).spare swaps))
    (λ (not : IsSwapping q.phase → ⊥). sym (machine_stays q (box w t) not) ∙ machine_stays q (spare q) not)
    (swaps_or_not q.phase)

-- what a mutator has after a move is what the move tells of it
pub told_in : (w : Core) (m : Move) (x : ℕ) → IsKept false w → Fits w m → IsMutator w.config x → mutator (after_move w m) x ≡ told (mutator w x) (by_actor x beats_in w m)
told_in w m x kept fits is = elim (cases_eq (maker m) x) [
  | inl own ↦ mine m fits own ∙ ap (told (mutator w x)) (sym (own_gives x beats_in w m own))
  | inr other ↦ mutator_stays w m x fits is other ∙ ap (told (mutator w x)) (sym (other_gives x beats_in w m other))
]
  where
    mine : (m : Move) → Fits w m → maker m ≡ x → mutator (after_move w m) x ≡ told (mutator w x) (beats_in w m)
    mine (Move.Begins t work from) fits own =
        subst (λ u. mutator (begun_from w t work from) u ≡ begun_of (mutator w u) work from) own (get_or-set_same w.mutators (t - 1) (begun_of (mutator w t) work from) nobody (in_list w t kept fits.0))
    mine (Move.Steps t) fits own =
        subst (λ u. mutator (stepped w t) u ≡ learnt (mutator w u) (Saw (found_by w t))) own
        (get_or-set_same w.mutators (t - 1) (step_of (mutator w t) (found_by w t) (box w t)) nobody (in_list w t kept fits.0) ∙ step_same w t kept fits.0 fits.1)
    mine Move.Turns fits own = absurd (omega (arith, own, is.0))
    mine Move.Offers fits own = refl

-- and so after a run
pub mutator_after : (w : Core) (ms : List Move) (x : ℕ) → IsKept false w → AllFit w ms → IsMutator w.config x → mutator (after_moves w ms) x ≡ told (mutator w x) (beats_of x w ms)
mutator_after w [] x kept f is = refl
mutator_after w (m ∷ ms) x kept f is =
    mutator_after (after_move w m) ms x (move_kept w m kept f.0) f.1 (subst (λ (c : Config). IsMutator c x) (sym (move_stays w m)) is)
    ∙ ap (λ p. told p (beats_of x (after_move w m) ms)) (told_in w m x kept f.0 is)
    ∙ sym (told_both (mutator w x) (by_actor x beats_in w m) (beats_of x (after_move w m) ms))
