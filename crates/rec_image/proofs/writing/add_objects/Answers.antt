-- Each listed slot is one of the slots, and its line is that of its object.
use Rattle.std.proofs.Common.{◌<◌, ◌++◌, ℕ, List, length, map, sym, ◌∙◌, append-nil}
use Rattle.std.proofs.lemmas.Result.{IfOk-from_err}
use Rattle.std.specs.List.{flat_map}
use Rattle.rec_report.proofs.Rows.{listed_below, words_end}
use Rattle.rec_world.specs.World.{sight}
use Rattle.rec_image.specs.Image.{object_line}
use Rattle.rec_image.specs.Standing.{node_of}
use Rattle.rec_image.proofs.Rowed.{all_rows}
use Rattle.rec_image.proofs.Written.{node_line, node_written}
use Rattle.rec_image.proofs.writing.add_objects.Goals as goal

pub label-requires : goal.label-requires
label-requires c =
    let within : c.loop-i.i < length c.args.numbering.now.list = rw c.list-slot-items.ensures.list at c.loop-i-test.true in
    rw c.list-slot-items.ensures.list (listed_below _ _ _ _ c.words-words.ensures.kept c.requires within)

pub leaf-leaf-requires : goal.leaf-leaf-requires
leaf-leaf-requires c =
    let within : c.loop-i.i < length c.args.numbering.now.list = rw c.list-slot-items.ensures.list at c.loop-i-test.true in
    rw c.list-slot-items.ensures.list (listed_below _ _ _ _ c.words-words.ensures.kept c.requires within)

pub slice_bounds-own-end : goal.slice_bounds-own-end
slice_bounds-own-end c = words_end _ _ _ _ _ _ _ _ _ c.words-words.ensures.kept c.requires c.list-slot-items.ensures.list c.loop-i-test.true c.from.ensures c.from-in-loop-i.ensures c.from-in-loop-i-2.ensures c.words-words.ensures.words

pub loop-i-preserved : goal.loop-i-preserved
loop-i-preserved c =
    node_written c.args.world.now c.args.numbering.now c.loop-i.i _ _ _ _ _ c.list-slot-items.ensures.list c.loop-i-test.true c.loop-i.invariant
    (c.bytes.ensures ∙ node_line c.args.world.now _ c.args.numbering.now c.loop-i.i _ _ _ _ _ _ _ _ _ c.words-words.ensures.kept c.requires c.list-slot-items.ensures.list c.loop-i-test.true c.from.ensures c.from-in-loop-i.ensures c.from-in-loop-i-2.ensures c.words-words.ensures.words c.label.ensures.label c.unwrap_or-label.ensures c.leaf-leaf.ensures.leaf c.spell_node.ensures)
    c.in_ok-extend_from_slice.ensures.items

pub loop-i-init : goal.loop-i-init
loop-i-init c = sym (append-nil c.args.text.now.items)

pub returns : goal.returns
returns c =
    all_rows (λ (ns : List ℕ). c.args.text.now.items ++ flat_map object_line (map (node_of (sight c.args.world.now) c.args.numbering.now.list) ns)) c.args.numbering.now.list _ c.loop-i.i _
    c.list-slot-items.ensures.list c.loop-i-test.false c.loop-i.invariant

pub returns-in_err-extend_from_slice : goal.returns-in_err-extend_from_slice
returns-in_err-extend_from_slice c = IfOk-from_err c.from_residual.result _ c.from_residual.ensures.0
