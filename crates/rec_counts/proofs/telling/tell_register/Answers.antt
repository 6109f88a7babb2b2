-- The contract of `tell_register`: what a register held before and holds now.
use Rattle.std.proofs.Common.{◌≡◌, ◌<◌, ◌∷◌, [], length, refl, arith}
use Rattle.rec_word.specs.Word.{is_slot}
use Rattle.rec_counts.specs.Lists.{one}
use Rattle.rec_counts.specs.Targets.{slots_in}
use Rattle.rec_counts.proofs.Tells.{tells_kept, tells_then}
use Rattle.std.proofs.Common.{rules}
use Rattle.rec_counts.proofs.telling.tell_register.Goals as goal

pub returns-in-Some : goal.returns-in-Some
returns-in-Some c =
    let e : c.args.newer ≡ c.args.older = search rules in
    let l : c.in-Some.slot < length c.args.slots.now = rw c.in-Some.is at c.requires.older in
    rw (e, c.in-Some.is, c.keep.ensures) (tells_kept c.args.slots.now c.args.touched.now c.in-Some.slot l)

pub returns : goal.returns
returns c = tells_then (λ x. 0) (λ x. one (is_slot x c.args.newer)) (slots_in (c.args.older ∷ [])) (λ x. refl) (λ x. omega arith) refl c.tell_more.ensures c.tell_less.ensures
