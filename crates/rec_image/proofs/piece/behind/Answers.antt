-- The front is compared with the piece.
use Rattle.std.proofs.Common.{◌++◌, List, ℕ, sym, ap, ◌∙◌}
use Rattle.rec_image.proofs.Pieces.{match_then, found_piece, no_piece}
use Rattle.rec_image.proofs.piece.behind.Goals as goal

pub returns : goal.returns
returns c = match_then c.strip_prefix.result c.strip_prefix.ensures.cases (no_piece c.args.piece.now c.args.bytes.now) (λ x q. found_piece c.args.piece.now c.args.bytes.now q.0 ∙ ap (λ (xs : List ℕ). c.args.piece.now ++ xs) (sym q.1))
