-- Each listed slot is one of the slots, and its mark is that of its object.
use Rattle.std.proofs.Common.{◌<◌, ℕ, List, length, map}
use Rattle.std.proofs.lemmas.Result.{IfOk-from_err}
use Rattle.rec_report.proofs.Rows.{listed_below}
use Rattle.rec_world.specs.World.{sight}
use Rattle.rec_image.specs.Restored.{mark_of}
use Rattle.rec_image.specs.Standing.{node_of}
use Rattle.rec_image.proofs.Rowed.{all_rows, node_more}
use Rattle.rec_image.proofs.live.marks.Goals as goal

pub label-requires : goal.label-requires
label-requires c =
    let within : c.loop-i.i < length c.args.numbering.now.list = rw c.list-slots.ensures.list at c.loop-i-test.true in
    rw c.list-slots.ensures.list (listed_below _ _ _ _ c.requires.kept c.requires.numbered within)

pub leaf-leaf-requires : goal.leaf-leaf-requires
leaf-leaf-requires c =
    let within : c.loop-i.i < length c.args.numbering.now.list = rw c.list-slots.ensures.list at c.loop-i-test.true in
    rw c.list-slots.ensures.list (listed_below _ _ _ _ c.requires.kept c.requires.numbered within)

pub loop-i-preserved : goal.loop-i-preserved
loop-i-preserved c = node_more c.args.world.now _ c.args.numbering.now c.loop-i.i _ _ _ _ _ _ c.requires.numbered c.list-slots.ensures.list c.loop-i-test.true c.label.ensures.label c.unwrap_or-label.ensures c.leaf-leaf.ensures.leaf c.loop-i.invariant c.in_ok-push.ensures.items

pub loop-i-init : goal.loop-i-init
loop-i-init c = c.in_ok-nodes.ensures.items

pub returns : goal.returns
returns c = all_rows (λ (ns : List ℕ). map mark_of (map (node_of (sight c.args.world.now) c.args.numbering.now.list) ns)) c.args.numbering.now.list _ c.loop-i.i _ c.list-slots.ensures.list c.loop-i-test.false c.loop-i.invariant

pub returns-in_err-nodes : goal.returns-in_err-nodes
returns-in_err-nodes c = IfOk-from_err c.from_residual.result _ c.from_residual.ensures.0

pub returns-in_err-push : goal.returns-in_err-push
returns-in_err-push c = IfOk-from_err c.from_residual-in_err-push.result _ c.from_residual-in_err-push.ensures.0
