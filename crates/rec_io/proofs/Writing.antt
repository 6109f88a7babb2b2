-- On several writes to one sink: together they append their bytes, in order.
use Rattle.std.proofs.Common.{◌≡◌, ℕ, ◌+◌, List, [], ◌++◌, take, drop, Option, Some, refl, ◌∙◌, ap, append_assoc, arith}
use Rattle.std.proofs.lemmas.Grind.{common_steps}
use Rattle.std.proofs.Math.Seq.{take-add}
use Rattle.rec_io.specs.Sink.{Appends}
use Rattle.rec_io.specs.Told.{KeepsTold}

-- writes one after the other append what each of them appends
pub appends_more : (first then last : Option (List ℕ)) (xs ys : List ℕ) → Appends first then xs → Appends then last ys →
    Appends first last (xs ++ ys)
appends_more first then last xs ys one two written told =
    two (written ++ xs) (one written told) ∙ ap Some (append_assoc written xs ys)

-- what was written, and a piece that was cut
pub regrouped : (before near far behind : List ℕ) → before ++ ((near ++ far) ++ behind) ≡ (before ++ near) ++ (far ++ behind)
regrouped before near far behind = simp append_assoc refl
