-- The line of a mutator is that of its registers, and those of all are written.
use Rattle.std.proofs.Common.{◌++◌, ℕ, List, Option, sym, ◌∙◌, append-nil}
use Rattle.std.proofs.lemmas.Result.{IfOk-from_err}
use Rattle.std.specs.List.{flat_map}
use Rattle.rec_image.specs.Image.{registers_line}
use Rattle.rec_image.proofs.Rowed.{registers_all}
use Rattle.rec_image.proofs.Written.{row_written}
use Rattle.rec_image.proofs.writing.add_registers.Goals as goal

pub loop-t-preserved : goal.loop-t-preserved
loop-t-preserved c =
    row_written c.args.world.now _ c.args.numbering.now c.loop-t.t c.mutators-mutators.result c.registers.result.now _ _ _ _ c.mutators-mutators.ensures.kept c.requires c.loop-t-test.true c.mutators-mutators.ensures.mutators c.registers.ensures.registers c.loop-t.invariant (c.bytes.ensures ∙ c.spell_registers.ensures) c.in_ok-extend_from_slice.ensures.items

pub loop-t-init : goal.loop-t-init
loop-t-init c = sym (append-nil c.args.text.now.items)

pub returns : goal.returns
returns c =
    registers_all (λ (held : List (List (Option ℕ))). c.args.text.now.items ++ flat_map registers_line held) c.args.world.now c.args.numbering.now.list c.loop-t.t _ _
    c.mutators-mutators.ensures.kept c.mutators-mutators.ensures.mutators c.loop-t-test.false c.loop-t.invariant

pub returns-in_err-extend_from_slice : goal.returns-in_err-extend_from_slice
returns-in_err-extend_from_slice c = IfOk-from_err c.from_residual.result _ c.from_residual.ensures.0
