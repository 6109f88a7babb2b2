-- Each listed slot is one of the slots, and its fields are those of its object.
use Rattle.std.proofs.Common.{ℕ, List, map}
use Rattle.std.proofs.lemmas.Result.{IfOk-from_err}
use Rattle.std.specs.List.{flat_map}
use Rattle.rec_report.proofs.Rows.{words_end}
use Rattle.rec_world.specs.World.{sight}
use Rattle.rec_image.specs.Restored.{fields_in}
use Rattle.rec_image.specs.Standing.{node_of}
use Rattle.rec_image.proofs.Rowed.{all_rows, fields_more}
use Rattle.rec_image.proofs.live.field_rows.Goals as goal

pub slice_bounds-own-end : goal.slice_bounds-own-end
slice_bounds-own-end c = words_end _ _ _ _ _ _ _ _ _ c.words-words.ensures.kept c.requires c.list-slots.ensures.list c.loop-i-test.true c.from-in-loop-i.ensures c.from-in-loop-i-2.ensures c.from-in-loop-i-3.ensures c.words-words.ensures.words

pub loop-i-preserved : goal.loop-i-preserved
loop-i-preserved c = fields_more c.args.world.now _ c.args.numbering.now c.loop-i.i _ _ _ _ _ _ _ c.words-words.ensures.kept c.requires c.list-slots.ensures.list c.loop-i-test.true c.from-in-loop-i.ensures c.from-in-loop-i-2.ensures c.from-in-loop-i-3.ensures c.words-words.ensures.words c.loop-i.invariant c.in_ok-add_fields.ensures

pub loop-i-init : goal.loop-i-init
loop-i-init c = c.in_ok-targets.ensures.items

pub returns : goal.returns
returns c = all_rows (λ (ns : List ℕ). flat_map fields_in (map (node_of (sight c.args.world.now) c.args.numbering.now.list) ns)) c.args.numbering.now.list _ c.loop-i.i _ c.list-slots.ensures.list c.loop-i-test.false c.loop-i.invariant

pub returns-in_err-targets : goal.returns-in_err-targets
returns-in_err-targets c = IfOk-from_err c.from_residual.result _ c.from_residual.ensures.0

pub returns-in_err-add_fields : goal.returns-in_err-add_fields
returns-in_err-add_fields c = IfOk-from_err c.from_residual-in_err-add_fields.result _ c.from_residual-in_err-add_fields.ensures.0
