-- One null more is added each time.
use Rattle.std.proofs.Common.{◌≡◌, ◌∙◌, ◌+◌, ◌++◌, ℕ, [], ◌∷◌, List, Option, None, replicate, sym, ap, arith, append-nil, append_assoc}
use Rattle.std.proofs.lemmas.List.{replicate_more}
use Rattle.std.proofs.lemmas.Result.{IfOk-from_err}
use Rattle.rec_image.proofs.objects.add_nulls.Goals as goal

one_more : (first so_far more : List (Option ℕ)) (n : ℕ) → so_far ≡ first ++ replicate n None → more ≡ so_far ++ None ∷ [] → more ≡ first ++ replicate (n + 1) None
one_more first so_far more n so is =
    is ∙ ap (λ (xs : List (Option ℕ)). xs ++ None ∷ []) so ∙ append_assoc first (replicate n None) (None ∷ [])
    ∙ ap (λ (xs : List (Option ℕ)). first ++ xs) (replicate_more n None)

pub loop-init : goal.loop-init
loop-init c = sym (append-nil c.args.targets.now.items)

pub loop-preserved : goal.loop-preserved
loop-preserved c = one_more _ _ _ c.loop.counter c.loop.invariant c.in_ok-push.ensures.items

pub returns : goal.returns
returns c =
    let all : c.loop.counter ≡ c.args.count = omega (arith, c.loop-test.false, c.loop.auto.counter-end) in
    c.loop.invariant ∙ ap (λ (n : ℕ). c.args.targets.now.items ++ replicate n None) all

pub returns-in_err-push : goal.returns-in_err-push
returns-in_err-push c = IfOk-from_err c.from_residual.result _ c.from_residual.ensures.0
