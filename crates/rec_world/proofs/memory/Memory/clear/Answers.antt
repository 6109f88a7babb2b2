-- A freed slot joins the index of free slots.
use Rattle.std.proofs.Common.{◌<◌, length, subst, sym}
use Rattle.rec_world.proofs.Common.{Cells, IsWithin}
use Rattle.rec_word.specs.declared.op.Op.TheVariants as ops
use Rattle.rec_world.specs.Indexed.{cells}
use Rattle.rec_world.proofs.Frees.{finds_replaced, zero_chosen}
use Rattle.rec_world.proofs.Indexed.{laid_again, left_is}
use Rattle.rec_world.proofs.memory.Memory.clear.Goals as goal

pub returns-clause-left : goal.returns-clause-left
returns-clause-left c = left_is c.self.inside c.self.invariant c.args.self.now c.self.view_is (ops.FreeHeader c.args.slot) c.requires c.index.result c.index.ensures c.exchange.new.word c.exchange.result c.exchange.ensures.left

pub invariant_of-self : goal.invariant_of-self
invariant_of-self c =
    let there : c.args.slot < length (cells c.self.inside).headers = subst (λ (k : Cells). IsWithin k (ops.FreeHeader c.args.slot)) (sym c.self.view_is) c.requires in
    laid_again c.self.inside c.self.invariant c.args.self.now c.self.view_is (ops.FreeHeader c.args.slot) c.requires c.index.result c.index.ensures c.exchange.new.word c.insert.new.self
    (finds_replaced (cells c.self.inside).headers c.self.inside.free c.self.invariant.free c.insert.new.self c.args.slot c.exchange.new.word 1 there (zero_chosen c.exchange.new.word c.exchange.ensures.left) c.insert.ensures)
