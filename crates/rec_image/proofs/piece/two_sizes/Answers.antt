-- The second number is told in what is behind the first.
use Rattle.std.proofs.Common.{◌∙◌, ◌++◌, ◌∷◌, ℕ, List, sym, ap}
use Rattle.std.specs.Fmt.{decimal}
use Rattle.rec_image.proofs.piece.two_sizes.Goals as goal

pub returns-in_err-first-clause-only : goal.returns-in_err-first-clause-only
returns-in_err-first-clause-only c = rw c.from_residual.ensures (λ m n t a b x y e. c.in_err-first.ensures.only m (decimal n ++ c.args.end ∷ t) a b e)

pub returns-in_err-second-clause-only : goal.returns-in_err-second-clause-only
returns-in_err-second-clause-only c =
    rw c.from_residual-in_err-second.ensures (λ m n t a b x y e. c.in_err-second.ensures.only n t x y (sym (c.in_ok-first.ensures.only m (decimal n ++ c.args.end ∷ t) a b e).1))

pub returns-clause-found : goal.returns-clause-found
returns-clause-found c = c.in_ok-first.ensures.found.0 ∙ ap (λ (bs : List ℕ). decimal c.in_ok-first.first ++ 32 ∷ bs) c.in_ok-second.ensures.found.0

pub returns-clause-only : goal.returns-clause-only
returns-clause-only c = λ m n t a b x y e.
    let one = c.in_ok-first.ensures.only m (decimal n ++ c.args.end ∷ t) a b e in
    let two = c.in_ok-second.ensures.only n t x y (sym one.1) in
    (one.0, two.0, two.1)
