-- A turn reads the next line of its mutator's journal, which is there since the order names the mutator once more.
use Rattle.std.proofs.Common.{◌≤◌, ◌∙◌, ◌++◌, ◌+◌, ◌-◌, ◌∷◌, [], ap, ◌<◌, arith, get_or, length-set, subst}
use Rattle.rec_report.specs.Text.{own_lines}
use Rattle.rec_report.proofs.AnswerLines.{TurnReads, turn_reads, turn_step, turns_more}
use Rattle.rec_report.proofs.page.Text.add_turns.Goals as goal

pub add_turn-requires : goal.add_turn-requires
add_turn-requires c =
    let reads : TurnReads c.args.journals.now c.args.order.now c.loop-t.t-index c.from-own.result c.index-i.result.now c.index-journals-own.result =
    turn_reads _ _ _ _ _ _ _ c.requires c.loop-t-test.true c.from-own.ensures c.loop-t.invariant.mutators c.loop-t.invariant.turns c.index-i.ensures c.index-journals-own.is in
    rw c.lines.ensures reads.within

pub overflow_add-i : goal.overflow_add-i
overflow_add-i c =
    let reads : TurnReads c.args.journals.now c.args.order.now c.loop-t.t-index c.from-own.result c.index-i.result.now c.index-journals-own.result =
    turn_reads _ _ _ _ _ _ _ c.requires c.loop-t-test.true c.from-own.ensures c.loop-t.invariant.mutators c.loop-t.invariant.turns c.index-i.ensures c.index-journals-own.is in
    let small : c.index-i.result.now ≤ c.loop-t.t-index = reads.small in
    omega arith

pub loop-t-preserved : goal.loop-t-preserved
loop-t-preserved c =
    let reads : TurnReads c.args.journals.now c.args.order.now c.loop-t.t-index c.from-own.result c.index-i.result.now c.index-journals-own.result =
    turn_reads _ _ _ _ _ _ _ c.requires c.loop-t-test.true c.from-own.ensures c.loop-t.invariant.mutators c.loop-t.invariant.turns c.index-i.ensures c.index-journals-own.is in
    record {
      text = turn_step _ _ _ _ _ _ _ _ _ reads c.loop-t-test.true c.from-own.ensures c.loop-t.invariant.text
          (c.in_ok-add_turn.ensures ∙ ap (λ ls. c.loop-t.self ++ get_or (own_lines (c.from-own.result - 1 + 1) ls) c.index-i.result.now [] ∷ []) c.lines.ensures);
      mutators = rw length-set c.loop-t.invariant.mutators;
      turns = turns_more _ _ _ _ _ _ c.loop-t-test.true (ap (λ n. n - 1) c.from-own.ensures) (subst (λ n. 0 < n) c.from-own.ensures reads.some)
          (rw c.loop-t.invariant.mutators reads.there) c.loop-t.invariant.mutators c.index-i.ensures c.loop-t.invariant.turns;
    }
