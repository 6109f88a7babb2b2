-- The contract of `birth_in`: makes an object or a leaf, in straight code.
use Rattle.std.proofs.Common.{refl, subst}
use Rattle.rec_model.specs.Asking.{allocation}
use Rattle.rec_model.specs.declared.answer.Answer.TheVariants as answers
use Rattle.rec_table.specs.Straight.{Bears}
use Rattle.rec_table.specs.Views.{mutator_now}
use Rattle.recycler_c.proofs.Straight.{asked_by, asked_so, may_bear, narrowed}
use Rattle.recycler_c.proofs.command.birth_in.Goals as goal

pub bear-requires-clause-valid : goal.bear-requires-clause-valid
bear-requires-clause-valid c = may_bear (mutator_now c.in-Mutating.out.mutator) c.args.is_leaf c.in-Some.reg c.args.label (c.can_ask.ensures.0 c.if-not-can_ask.false)

pub returns-then-bear : goal.returns-then-bear
returns-then-bear c =
    let cmd = allocation c.args.is_leaf c.in-Some.reg c.args.label in
    let may = may_bear (mutator_now c.in-Mutating.out.mutator) c.args.is_leaf c.in-Some.reg c.args.label (c.can_ask.ensures.0 c.if-not-can_ask.false) in (
      cmd,
      narrowed c.args.is_leaf c.args.reg c.in-Some.reg c.args.label c.byte.result c.byte.ensures c.in-Some.is,
      asked_so _ c.in-Mutating.out _ cmd answers.Done _ c.in-Mutating.is may refl (subst (Bears c.in-Mutating.out.mutator c.bear.new.self cmd) c.if-bear.true c.bear.ensures) c.show_answer.ensures,
    )

pub show_last-requires : goal.show_last-requires
show_last-requires c =
    let carried = subst (Bears c.in-Mutating.out.mutator c.bear.new.self (allocation c.args.is_leaf c.in-Some.reg c.args.label)) c.if-bear.false c.bear.ensures in
    (carried.0, carried.1.answer)

pub returns : goal.returns
returns c =
    let cmd = allocation c.args.is_leaf c.in-Some.reg c.args.label in
    let may = may_bear (mutator_now c.in-Mutating.out.mutator) c.args.is_leaf c.in-Some.reg c.args.label (c.can_ask.ensures.0 c.if-not-can_ask.false) in
    let carried = subst (Bears c.in-Mutating.out.mutator c.bear.new.self cmd) c.if-bear.false c.bear.ensures in (
      cmd,
      narrowed c.args.is_leaf c.args.reg c.in-Some.reg c.args.label c.byte.result c.byte.ensures c.in-Some.is,
      asked_by _ c.in-Mutating.out _ cmd carried.0 _ c.in-Mutating.is may refl carried.1 (c.show_last.ensures carried.0 carried.1.answer),
    )
