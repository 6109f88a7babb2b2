-- The contract of `tell_change`: what a register of a steady heap held before and holds now.
use Rattle.std.proofs.Common.{◌≢◌, ◌∷◌, [], true, refl, sym, arith, rules}
use Rattle.rec_word.specs.Word.{is_slot}
use Rattle.rec_counts.specs.Lists.{one}
use Rattle.rec_counts.specs.Targets.{slots_in}
use Rattle.rec_counts.proofs.Tells.{tells_then}
use Rattle.rec_counts.proofs.Told.{told_apart}
use Rattle.rec_counts.proofs.telling.tell_change.Goals as goal

pub returns-then-ne : goal.returns-then-ne
returns-then-ne c =
    let other : c.args.newer ≢ c.args.older = search rules in
    rw (told_apart true c.args.newer c.args.older other, told_apart true c.args.older c.args.newer (λ e. other (sym e)))
    (tells_then (λ x. 0) (λ x. one (is_slot x c.args.newer)) (slots_in (c.args.older ∷ [])) (λ x. refl) (λ x. omega arith) refl c.tell_more.ensures c.tell_less.ensures)
