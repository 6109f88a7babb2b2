-- Each listed slot is one of the slots, and its row is what was read of it, with its true count.
use Rattle.std.proofs.Common.{◌<◌, length}
use Rattle.rec_report.proofs.Rows.{listed_below, words_end, row_read, row_step}
use Rattle.rec_report.proofs.page.Text.add_rows.Goals as goal

pub label-requires : goal.label-requires
label-requires c =
    let within : c.loop-i.i < length c.args.numbering.now.list = rw c.list-slot-items.ensures.list at c.loop-i-test.true in
    rw c.list-slot-items.ensures.list (listed_below _ _ _ _ c.words-words.ensures.kept c.requires.numbers within)

pub leaf-leaf-requires : goal.leaf-leaf-requires
leaf-leaf-requires c =
    let within : c.loop-i.i < length c.args.numbering.now.list = rw c.list-slot-items.ensures.list at c.loop-i-test.true in
    rw c.list-slot-items.ensures.list (listed_below _ _ _ _ c.words-words.ensures.kept c.requires.numbers within)

pub count-count-requires : goal.count-count-requires
count-count-requires c =
    let within : c.loop-i.i < length c.args.numbering.now.list = rw c.list-slot-items.ensures.list at c.loop-i-test.true in
    rw c.list-slot-items.ensures.list (listed_below _ _ _ _ c.words-words.ensures.kept c.requires.numbers within)

pub slice_bounds-own-end : goal.slice_bounds-own-end
slice_bounds-own-end c = words_end _ _ _ _ _ _ _ _ _ c.words-words.ensures.kept c.requires.numbers c.list-slot-items.ensures.list c.loop-i-test.true c.from.ensures c.from-in-loop-i.ensures c.from-in-loop-i-2.ensures c.words-words.ensures.words

pub loop-i-preserved : goal.loop-i-preserved
loop-i-preserved c =
    let within : c.loop-i.i < length c.args.numbering.now.list = rw c.list-slot-items.ensures.list at c.loop-i-test.true in
    row_step _ _ _ _ c.args.world.now _ _ _ within c.loop-i.invariant c.in_ok-row.ensures (
    row_read _ _ _ _ _ _ _ _ _ _ _ _ _ c.words-words.ensures.kept c.requires.settled c.requires.numbers c.list-slot-items.ensures.list within c.from.ensures c.from-in-loop-i.ensures c.from-in-loop-i-2.ensures c.words-words.ensures.words c.label.ensures.label c.unwrap_or-label.ensures c.leaf-leaf.ensures.leaf c.count-count.ensures) c.in_ok-add.ensures
