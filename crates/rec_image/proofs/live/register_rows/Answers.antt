-- The row of a mutator is that of its registers.
use Rattle.std.proofs.Common.{ℕ, List, Option}
use Rattle.std.specs.List.{flat_map}
use Rattle.std.proofs.lemmas.Result.{IfOk-from_err}
use Rattle.rec_image.proofs.Rowed.{registers_all, registers_more}
use Rattle.rec_image.proofs.live.register_rows.Goals as goal

pub loop-t-preserved : goal.loop-t-preserved
loop-t-preserved c = registers_more c.args.world.now _ c.args.numbering.now c.loop-t.t c.mutators-t-end.result _ _ _ c.mutators-t-end.ensures.kept c.requires c.loop-t-test.true c.mutators-t-end.ensures.mutators c.registers.ensures.registers c.loop-t.invariant c.in_ok-add_registers.ensures

pub loop-t-init : goal.loop-t-init
loop-t-init c = c.new-held.ensures.items

pub returns : goal.returns
returns c = registers_all (λ (held : List (List (Option ℕ))). flat_map (λ own. own) held) c.args.world.now c.args.numbering.now.list c.loop-t.t _ _ c.mutators-t-end.ensures.kept c.mutators-t-end.ensures.mutators c.loop-t-test.false c.loop-t.invariant

pub returns-in_err-add_registers : goal.returns-in_err-add_registers
returns-in_err-add_registers c = IfOk-from_err c.from_residual.result _ c.from_residual.ensures.0
