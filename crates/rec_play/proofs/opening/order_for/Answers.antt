-- The contract of `order_for`: an empty order with room for all commands.
use Rattle.std.proofs.Common.{◌≡◌, ℕ, ◌+◌, ◌*◌, ◌≤◌, List, length, take, sym, ap, ◌∙◌, arith}
use Rattle.std.specs.List.{sum}
use Rattle.std.proofs.lemmas.Result.{IfOk-weaker}
use Rattle.rec_model.specs.declared.limits.TheConstants.{MOST_MUTATORS}
use Rattle.rec_world.specs.Order.{Turns}
use Rattle.rec_script.specs.Script.{ScriptContents}
use Rattle.rec_play.specs.Played.{lengths_of}
use Rattle.rec_play.proofs.Due.{few_mutators}
use Rattle.rec_play.proofs.Ready.{lengths_more, lengths_all, sum_more}
use Rattle.rec_play.proofs.opening.order_for.Goals as goal

pub overflow_add-room : goal.overflow_add-room
overflow_add-room c =
    let mutators : length c.args.script.now.commands ≤ MOST_MUTATORS = few_mutators c.args.script.now c.mutators-index-end.ensures.valid in
    omega (arith, c.loop-index.invariant.small, c.loop-index-test.true, c.mutators-index-end.ensures.value, c.commands.ensures.valid.few)

pub loop-index-preserved : goal.loop-index-preserved
loop-index-preserved c =
    let script : ScriptContents = c.args.script.now in
    let so : List ℕ = take c.loop-index.index (lengths_of script) in
    let next : 200000 * (c.loop-index.index + 1) ≡ 200000 * c.loop-index.index + 200000 = omega arith in
    record {
      counted = ap (λ n. n + length c.commands.result.now) c.loop-index.invariant.counted ∙ sym (sum_more so (length c.commands.result.now))
          ∙ ap sum (sym (lengths_more script.commands c.loop-index.index c.commands.result.now c.commands.ensures.value));
      small = omega (arith, c.loop-index.invariant.small, c.commands.ensures.valid.few);
    }

pub returns : goal.returns
returns c =
    let script : ScriptContents = c.args.script.now in
    let end : take c.loop-index.index (lengths_of script) ≡ lengths_of script = lengths_all script.commands c.loop-index.index (omega (arith, c.loop-index-test.false, c.mutators-index-end.ensures.value)) in
    let all : c.loop-index.room ≡ sum (lengths_of script) = c.loop-index.invariant.counted ∙ ap sum end in
    IfOk-weaker c.open.result _ _ (λ order is. (
      ap (λ (o : Turns). o.list) is,
      (let room : order.room ≡ c.loop-index.room = ap (λ (o : Turns). o.room) is in omega arith),
    )) c.open.ensures
