-- What the collector loaded stands in its field, was replaced, or was taken out, over the moves of a run.
use Rattle.std.proofs.Common.{◌≡◌, inl, inr, ℕ, zero, suc, ◌-◌, ◌≤◌, Option, None, Some, List, [], ◌∷◌, ◌++◌, length, slice_index_or, refl, sym, ap, subst, ◌∙◌, arith, true}
use Rattle.std.specs.List.{Contains}
use Rattle.std.proofs.lemmas.Bool.{cases_lt}
use Rattle.std.proofs.lemmas.List.{get_or_past}
use Rattle.std.proofs.lemmas.List.Elements.{Contains-append_left, Contains-append_right, Contains-append_cases}
use Rattle.rec_core.proofs.Common.{Op, epoch_of, is_late_word, Cleared, get_or-le-sum_at, not_lt_from_none, At, Member, Phase, Looking, Swapping, Returning, Releasing, Freeing, Core, IsKept, AllFit, Move, after_move, after_moves}
use Rattle.rec_word.specs.declared.op.Op.TheVariants as ops
use Rattle.rec_model.proofs.Ledgers.{epoch_of_null}
use Rattle.rec_release.specs.CycleFree.{op_at as freeing_op_at, next_of as freeing_next}
use Rattle.rec_release.specs.Release.{op_at as release_op_at, next_of as release_next}
use Rattle.rec_collector.specs.Next as collectors_next
use Rattle.rec_collector.specs.Touched.{tried_at}
use Rattle.rec_core.specs.Loads.{cleared_in, cleared_over, IsKnown, IsReferenceStill, Loaded, loaded_by, loaded_in, loaded_over, tried_in}
use Rattle.rec_core.proofs.Runs.{move_kept}
use Rattle.rec_audit.proofs.Lasting.{Lasts, known_lasts, lasts_on, move_keeps, Keeps}
use Rattle.rec_core.proofs.Trials.{BeginsNoTrial}

-- more may have been taken out
lasts_more : (v : Core) (first rest : List Cleared) (l : Loaded) → Lasts v rest l → Lasts v (first ++ rest) l
lasts_more v first rest l (inl e) = inl e
lasts_more v first rest l (inr (inl some)) = inr (inl some)
lasts_more v first rest l (inr (inr c)) = inr (inr (Contains-append_right first rest _ c))

-- what was loaded lasts over all moves over which no other trial begins
lasts_over : (w : Core) (ms : List Move) (l : Loaded) → IsKept true w → AllFit w ms → BeginsNoTrial w ms → l.epoch ≡ tried_in w → Lasts w [] l → Lasts (after_moves w ms) (cleared_over w ms) l
lasts_over w [] l kept fit within epoch h = h
lasts_over w (m ∷ ms) l kept fit within epoch h =
    go (λ later. lasts_over (after_move w m) ms l (move_kept w m kept fit.0) fit.1 within.1 (epoch ∙ sym within.0) later)
    (lasts_on w (after_move w m) (cleared_in w m) l (subst (Keeps w (after_move w m) (cleared_in w m)) (sym epoch) (move_keeps w m kept fit.0)) h)
  where
    go : (Lasts (after_move w m) [] l → Lasts (after_moves w (m ∷ ms)) (cleared_over (after_move w m) ms) l) → Lasts (after_move w m) (cleared_in w m) l → Lasts (after_moves w (m ∷ ms)) (cleared_over w (m ∷ ms)) l
    go on (inl e) = lasts_more (after_moves w (m ∷ ms)) (cleared_in w m) (cleared_over (after_move w m) ms) l (on (inl e))
    go on (inr (inl some)) = lasts_more (after_moves w (m ∷ ms)) (cleared_in w m) (cleared_over (after_move w m) ms) l (on (inr (inl some)))
    go on (inr (inr c)) = inr (inr (Contains-append_left (cleared_in w m) (cleared_over (after_move w m) ms) _ c))

-- fields are loaded by trials and preparations alone, in the epoch that is requested then
loads_tried : (w : Core) (place : ℕ) (phase : Phase) → w.collector.phase ≡ phase → ◌≡◌ {A = Option Op} (collectors_next.next_at w.collector phase) (Some (ops.LoadChild place)) → tried_at w.epoch phase ≡ w.epoch
unfolding collectors_next.next_at release_next freeing_next
loads_tried w place (Looking t) at named = absurd (cc)
loads_tried w place (Swapping t) at named = absurd (cc)
loads_tried w place (Returning t) at named = absurd (cc)
loads_tried w place (Releasing m) at named = go m.at named
  where
    go : (x : Option At) → ◌≡◌ {A = Option Op} (release_op_at m.fields x) (Some (ops.LoadChild place)) → w.epoch - 1 ≡ w.epoch
    go None named = absurd (cc)
    go (Some a) named = absurd (cc)
loads_tried w place (Freeing m) at named = go m.at named
  where
    go : (x : Option Member) → ◌≡◌ {A = Option Op} (freeing_op_at m.fields x) (Some (ops.LoadChild place)) → w.epoch - 1 ≡ w.epoch
    go None named = absurd (cc)
    go (Some a) named = absurd (cc)
loads_tried w place _ at named = refl

-- a word that is found in a field was put in the requested epoch or before
put_early : (w : Core) (place : ℕ) → IsKept true w → epoch_of (slice_index_or w.words place 0) ≤ w.epoch
put_early w place kept = elim (cases_lt place (length w.words)) [
  | inl inside ↦ not_lt_from_none w.epoch (epoch_of (slice_index_or w.words place 0)) (omega (arith, kept.accounted.epochs.words, get_or-le-sum_at (is_late_word w.epoch) w.words place 0 inside))
  | inr past ↦ omega (arith, ap epoch_of (get_or_past w.words place 0 past), epoch_of_null)
]

-- what a move loads
record IsFresh (w : Core) (l : Loaded) : Type 0 where
  pub word : slice_index_or w.words l.place 0 ≡ l.word
  pub epoch : l.epoch ≡ tried_in w
  pub opened : epoch_of l.word ≤ l.epoch

loaded_fresh : (w : Core) (m : Move) (l : Loaded) → IsKept true w → Contains (loaded_in w m) l → IsFresh w l
unfolding collectors_next.next_of
loaded_fresh w Move.Turns l kept held = go (collectors_next.next_of w.collector) refl held
  where
    one : (place : ℕ) → ◌≡◌ {A = Option Op} (collectors_next.next_of w.collector) (Some (ops.LoadChild place)) → IsFresh w (record { place = place; word = slice_index_or w.words place 0; epoch = w.epoch })
    one place named = record { word = refl; epoch = sym (loads_tried w place w.collector.phase refl named); opened = put_early w place kept }

    only : (x : Loaded) → Contains (x ∷ []) l → x ≡ l
    only x (zero, below, is) = is
    only x (suc k, below, is) = absurd (omega (arith, below))

    go : (x : Option Op) → ◌≡◌ {A = Option Op} (collectors_next.next_of w.collector) x → Contains (loaded_by w x) l → IsFresh w l
    go None named (k, below, is) = absurd (omega (arith, below))
    go (Some (ops.LoadChild place)) named c = subst (IsFresh w) (only _ c) (one place named)
    go (Some _) named (k, below, is) = absurd (omega (arith, below))
loaded_fresh w _ l kept (k, below, is) = absurd (omega (arith, below))

-- so is every word that is loaded over the moves
pub all_known : (w : Core) (ms : List Move) (l : Loaded) → IsKept true w → AllFit w ms → BeginsNoTrial w ms → Contains (loaded_over w ms) l → IsReferenceStill (after_moves w ms) (cleared_over w ms) l
all_known w [] l kept fit within (k, below, is) = absurd (omega (arith, below))
all_known w (m ∷ ms) l kept fit within c = elim (Contains-append_cases (loaded_in w m) (loaded_over (after_move w m) ms) l c) [
  | inl here ↦
      let fresh : IsFresh w l = loaded_fresh w m l kept here in
      record { opened = fresh.opened; known = known_lasts (after_moves w (m ∷ ms)) (cleared_over w (m ∷ ms)) l (lasts_over w (m ∷ ms) l kept fit within fresh.epoch (inl fresh.word)) }
  | inr later ↦
      let rest : IsReferenceStill (after_moves w (m ∷ ms)) (cleared_over (after_move w m) ms) l = all_known (after_move w m) ms l (move_kept w m kept fit.0) fit.1 within.1 later in
      record { opened = rest.opened; known = known_more (after_moves w (m ∷ ms)) (cleared_in w m) (cleared_over (after_move w m) ms) l rest.known }
]
  where
    known_more : (v : Core) (first rest : List Cleared) (l : Loaded) → IsKnown v rest l → IsKnown v (first ++ rest) l
    known_more v first rest l (IsKnown.stands e) = IsKnown.stands e
    known_more v first rest l (IsKnown.replaced x held at old late) = IsKnown.replaced x held at old late
    known_more v first rest l (IsKnown.taken_out held) = IsKnown.taken_out (Contains-append_right first rest _ held)
