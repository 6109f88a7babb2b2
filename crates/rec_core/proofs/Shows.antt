-- What a watch is shown of moves that follow one another.
use Rattle.std.proofs.Common.{List, [], ◌∷◌, ◌++◌, refl, sym, ap, subst, ◌∙◌}
use Rattle.std.proofs.lemmas.List.{append-nil}
use Rattle.rec_collector.specs.Shown.{Shown}
use Rattle.rec_core.specs.Core.{Core}
use Rattle.rec_core.specs.Moves.{AllFit, Fits, Move, after_move, after_moves}
use Rattle.rec_core.specs.Shown.{Shows, shown_in, shown_over}
use Rattle.rec_core.proofs.Runs.{after_both, fit_both, over_both}

pub shows_none : (w : Core) → Shows w [] w
shows_none w = record { moves = []; fit = tt; ends = refl; is = refl }

-- first these moves, then those
pub shows_then : (u v w : Core) (first later : List Shown) → Shows u first v → Shows v later w → Shows u (first ++ later) w
shows_then u v w first later a b = record {
  moves = a.moves ++ b.moves;
  fit = fit_both u a.moves b.moves a.fit (subst (λ x. AllFit x b.moves) (sym a.ends) b.fit);
  ends = after_both u a.moves b.moves ∙ ap (λ x. after_moves x b.moves) a.ends ∙ b.ends;
  is =
      ap (λ xs. first ++ xs) (b.is ∙ ap (λ x. shown_over x b.moves) (sym a.ends))
      ∙ ap (λ xs. xs ++ shown_over (after_moves u a.moves) b.moves) a.is
      ∙ sym (over_both shown_in u a.moves b.moves);
}

-- one move
pub shows_one : (w : Core) (m : Move) → Fits w m → Shows w (shown_in w m) (after_move w m)
shows_one w m fits = record { moves = m ∷ []; fit = (fits, tt); ends = refl; is = sym (append-nil (shown_in w m)) }
