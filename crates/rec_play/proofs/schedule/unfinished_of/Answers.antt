-- The contract of `unfinished_of`: the mutators with commands left.
use Rattle.std.proofs.Common.{◌≡◌, ℕ, ◌+◌, ◌<◌, List, [], ◌∷◌, ◌++◌, slice_index_or, length, take, sym, ap, ◌∙◌, arith}
use Rattle.arrayvec.specs.ArrayVec.{ArrayVec}
use Rattle.rec_play.specs.Playing.{unfinished}
use Rattle.rec_play.proofs.Unfinished.{named_more, named_same}
use Rattle.rec_play.proofs.schedule.unfinished_of.Goals.{then-left-gt0, else-left-gt0}
use Rattle.rec_play.proofs.schedule.unfinished_of.Goals as goal

-- one more is named
more : (left named : List ℕ) (at : ℕ) → 0 < slice_index_or left at 0 → named ≡ unfinished (take at left) → named ++ (at + 1) ∷ [] ≡ unfinished (take (at + 1) left)
more left named at some so =
    let next : at + 1 ≡ 1 + at = omega arith in
    ap (λ ts. ts ++ (at + 1) ∷ []) so ∙ ap (λ t. unfinished (take at left) ++ t ∷ []) next ∙ sym (named_more 1 left at some)

pub loop-at-preserved : goal.loop-at-preserved
loop-at-preserved c =
    elim c.if-left-gt0.branch [
      | then-left-gt0 w ↦ record {
        few =
            let all : length c.if-left-gt0.unfinished.items ≡ length w.push.new.self.items = ap (λ (v : ArrayVec ℕ). length v.items) w.unfinished-is in
            omega (arith, all, w.push.ensures.len, c.loop-at.invariant.few);
        named = ap (λ (v : ArrayVec ℕ). v.items) w.unfinished-is ∙ w.push.ensures.items
            ∙ more c.args.left.now c.loop-at.unfinished.items c.loop-at.at w.if-left-gt0.true c.loop-at.invariant.named;
      }
      | else-left-gt0 w ↦ record {
        few =
            let all : length c.if-left-gt0.unfinished.items ≡ length c.loop-at.unfinished.items = ap (λ (v : ArrayVec ℕ). length v.items) w.unfinished-is in
            omega (arith, all, c.loop-at.invariant.few);
        named = ap (λ (v : ArrayVec ℕ). v.items) w.unfinished-is ∙ c.loop-at.invariant.named ∙ sym (named_same 1 c.args.left.now c.loop-at.at w.if-left-gt0.false);
      }
    ]
