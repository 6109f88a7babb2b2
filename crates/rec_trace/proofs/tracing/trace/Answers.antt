-- A trace goes from frontier to frontier, until none is left: then its list is the numbering of a listing.
use Rattle.std.proofs.Common.{◌∙◌}
use Rattle.rec_model.specs.Heap.{roots}
use Rattle.rec_model.specs.Sight.{NumbersSlots, targets_of}
use Rattle.rec_model.proofs.Numbered.{lists_reached, numbering_distinct, one_numbering}
use Rattle.rec_world.specs.World.{sight}
use Rattle.rec_trace.proofs.Filled.{world_below, world_fields, world_frontier, world_listed, world_roots}
use Rattle.std.proofs.lemmas.Result.{IfOk-from_err}
use Rattle.rec_trace.proofs.tracing.trace.Goals as goal

pub loop-first-init : goal.loop-first-init
loop-first-init g c = record {
  slots = c.meet_roots.ensures.slots ∙ c.in_ok-found.ensures.slots ∙ c.slots.ensures.slots;
  filled = world_roots c.args.world.now c.words.ensures.kept c.meet_roots.new.found.list c.meet_roots.ensures.joined;
}

pub follow-requires-clause-fields : goal.follow-requires-clause-fields
follow-requires-clause-fields g c κs within =
    world_fields c.args.world.now c.words.ensures.kept c.loop-first.found.slots c.words.result.now c.from.result c.loop-first.invariant.slots c.words.ensures.words (c.from.ensures ∙ c.fields.ensures.fields)

pub follow-requires-clause-list : goal.follow-requires-clause-list
follow-requires-clause-list g c κs within =
    world_below c.args.world.now c.words.ensures.kept c.loop-first.found.slots c.loop-first.first c.loop-first.found.list c.loop-first.invariant.slots c.loop-first.invariant.filled

pub loop-first-preserved : goal.loop-first-preserved
loop-first-preserved g c = record {
  slots = c.in_ok-found-2.ensures.slots ∙ c.loop-first.invariant.slots;
  filled = world_frontier c.args.world.now c.words.ensures.kept c.loop-first.first c.from.result c.loop-first.found.list _ c.words.result.now c.list-next.result.now
      c.words.ensures.words (c.from.ensures ∙ c.fields.ensures.fields) c.list-next.ensures.list c.loop-first.invariant.filled c.in_ok-found-2.ensures.joined;
}

pub returns-clause-numbers : goal.returns-clause-numbers
returns-clause-numbers g c =
    world_listed c.args.world.now c.words.ensures.kept c.loop-first.first c.loop-first.found.list c.list.result.now c.into_list.result.items c.loop-first.invariant.filled c.list.ensures.list c.loop-first-test.false c.into_list.ensures

pub returns-clause-reached : goal.returns-clause-reached
returns-clause-reached g c =
    let numbers : NumbersSlots (sight c.args.world.now) c.into_list.result.items
    = world_listed c.args.world.now c.words.ensures.kept c.loop-first.first c.loop-first.found.list c.list.result.now c.into_list.result.items c.loop-first.invariant.filled c.list.ensures.list c.loop-first-test.false c.into_list.ensures in
    lists_reached (roots (sight c.args.world.now).registers) (targets_of (sight c.args.world.now)) c.into_list.result.items numbers

pub returns-clause-once : goal.returns-clause-once
returns-clause-once g c =
    let numbers : NumbersSlots (sight c.args.world.now) c.into_list.result.items
    = world_listed c.args.world.now c.words.ensures.kept c.loop-first.first c.loop-first.found.list c.list.result.now c.into_list.result.items c.loop-first.invariant.filled c.list.ensures.list c.loop-first-test.false c.into_list.ensures in
    numbering_distinct (roots (sight c.args.world.now).registers) (targets_of (sight c.args.world.now)) c.into_list.result.items numbers

pub returns-clause-only : goal.returns-clause-only
returns-clause-only g c = λ others also.
    let numbers : NumbersSlots (sight c.args.world.now) c.into_list.result.items
    = world_listed c.args.world.now c.words.ensures.kept c.loop-first.first c.loop-first.found.list c.list.result.now c.into_list.result.items c.loop-first.invariant.filled c.list.ensures.list c.loop-first-test.false c.into_list.ensures in
    one_numbering (roots (sight c.args.world.now).registers) (targets_of (sight c.args.world.now)) c.into_list.result.items others numbers also

pub returns-in_err-found-clause-numbers : goal.returns-in_err-found-clause-numbers
returns-in_err-found-clause-numbers g c = IfOk-from_err c.from_residual.result _ c.from_residual.ensures.0

pub returns-in_err-found-clause-reached : goal.returns-in_err-found-clause-reached
returns-in_err-found-clause-reached g c = IfOk-from_err c.from_residual.result _ c.from_residual.ensures.0

pub returns-in_err-found-clause-once : goal.returns-in_err-found-clause-once
returns-in_err-found-clause-once g c = IfOk-from_err c.from_residual.result _ c.from_residual.ensures.0

pub returns-in_err-found-clause-only : goal.returns-in_err-found-clause-only
returns-in_err-found-clause-only g c = IfOk-from_err c.from_residual.result _ c.from_residual.ensures.0

pub meet_roots-requires-clause-slots : goal.meet_roots-requires-clause-slots
meet_roots-requires-clause-slots g c = c.in_ok-found.ensures.slots ∙ c.slots.ensures.slots

pub meet_roots-requires-clause-empty : goal.meet_roots-requires-clause-empty
meet_roots-requires-clause-empty g c = c.in_ok-found.ensures.empty

pub follow-requires-clause-pieces : goal.follow-requires-clause-pieces
follow-requires-clause-pieces g c κs within = c.requires

pub returns-in_err-found-2-clause-numbers : goal.returns-in_err-found-2-clause-numbers
returns-in_err-found-2-clause-numbers g c = IfOk-from_err c.from_residual-in_err-found-2.result _ c.from_residual-in_err-found-2.ensures.0

pub returns-in_err-found-2-clause-reached : goal.returns-in_err-found-2-clause-reached
returns-in_err-found-2-clause-reached g c = IfOk-from_err c.from_residual-in_err-found-2.result _ c.from_residual-in_err-found-2.ensures.0

pub returns-in_err-found-2-clause-once : goal.returns-in_err-found-2-clause-once
returns-in_err-found-2-clause-once g c = IfOk-from_err c.from_residual-in_err-found-2.result _ c.from_residual-in_err-found-2.ensures.0

pub returns-in_err-found-2-clause-only : goal.returns-in_err-found-2-clause-only
returns-in_err-found-2-clause-only g c = IfOk-from_err c.from_residual-in_err-found-2.result _ c.from_residual-in_err-found-2.ensures.0
