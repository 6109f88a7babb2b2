-- The next mutator is opened, and its registers are left no more.
use Rattle.std.proofs.Common.{◌≡◌, ℕ, suc, ◌+◌, ◌-◌, ◌*◌, ◌++◌, ◌∷◌, [], All, List, length, drop, take, ap, subst, sym, ◌∙◌, arith, length-drop}
use Rattle.std.proofs.Math.Nat.{suc-mul}
use Rattle.std.proofs.lemmas.List.Elements.{All-drop}
use Rattle.rec_word.specs.Word.{IsTarget}
use Rattle.rec_core.specs.Objects.{rows_of}
use Rattle.rec_core.specs.Core.{holding_mutator, holding_mutators}
use Rattle.rec_world.proofs.Common.{Private}
use Rattle.rec_world.proofs.Openings.{holders_more}
use Rattle.rec_world.proofs.world.opening.open_holders.Goals as goal

pub split_at-requires : goal.split_at-requires
split_at-requires c =
    let left : ℕ = c.args.config.now.mutators - (c.loop-t.t + 1) in
    let more : c.args.config.now.mutators - c.loop-t.t ≡ suc left = omega arith in
    omega (arith, c.loop-t.invariant.left, ap (λ n. n * c.args.config.now.registers) more, suc-mul left c.args.config.now.registers)

pub loop-t-preserved : goal.loop-t-preserved
loop-t-preserved c =
    let width : ℕ = c.args.config.now.registers in
    let left : ℕ = c.args.config.now.mutators - (c.loop-t.t + 1) in
    let more : c.args.config.now.mutators - c.loop-t.t ≡ suc left = omega arith in
    let front : c.split_at.result.0.now ≡ take width c.loop-t.rest.now = c.split_at.ensures.front in
    let behind : c.split_at.result.1.now ≡ drop width c.loop-t.rest.now = c.split_at.ensures.back in
    let pushed : c.push.new.self.items ≡ c.loop-t.machines.items ++ holding_mutator c.args.config.now (c.loop-t.t + 1) c.split_at.result.0.now ∷ []
    = c.in_ok-push.ensures.items ∙ ap (λ p. c.loop-t.machines.items ++ p ∷ []) c.in_ok-open_holder.ensures in
    let rest : List Private = holding_mutators c.args.config.now (c.loop-t.t + 1 + 1) (rows_of width left c.split_at.result.1.now) in
    let size : length c.loop-t.rest.now ≡ left * width + width = c.loop-t.invariant.left ∙ ap (λ n. n * width) more ∙ suc-mul left width in
    record {
      mutators = c.loop-t.invariant.mutators
          ∙ holders_more c.args.config.now (c.loop-t.t + 1) (c.args.config.now.mutators - c.loop-t.t) left c.loop-t.rest.now c.split_at.result.0.now c.split_at.result.1.now c.loop-t.machines.items more front behind
          ∙ ap (λ ps. ps ++ rest) (sym pushed);
      left = ap length behind ∙ length-drop width c.loop-t.rest.now ∙ omega (arith, size);
      targets = subst (All IsTarget) (sym behind) (All-drop IsTarget width c.loop-t.rest.now c.loop-t.invariant.targets);
    }
