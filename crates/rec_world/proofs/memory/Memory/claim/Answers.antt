-- A claimed slot leaves the index of free slots.
use Rattle.std.proofs.Common.{◌≡◌, ◌<◌, length, subst, sym, arith}
use Rattle.rec_world.proofs.Common.{Cells, IsWithin}
use Rattle.rec_word.specs.Op.{written}
use Rattle.rec_word.specs.declared.op.Op.TheVariants as ops
use Rattle.rec_world.specs.Indexed.{cells}
use Rattle.rec_world.proofs.Frees.{finds_replaced, some_chosen}
use Rattle.rec_world.proofs.Indexed.{laid_again, left_is}
use Rattle.rec_world.proofs.memory.Memory.claim.Goals as goal

pub returns-then-found-eq0-clause-left : goal.returns-then-found-eq0-clause-left
returns-then-found-eq0-clause-left c =
    let leaves : c.args.header ≡ written (ops.ClaimHeader c.args.slot c.args.header) c.index_mut-word.result.now = grind (arith, c.if-found-eq0.true) in
    left_is c.self.inside c.self.invariant c.args.self.now c.self.view_is (ops.ClaimHeader c.args.slot c.args.header) c.requires c.index.result c.index.ensures c.args.header c.index_mut-word.result.now leaves

pub invariant_of-self : goal.invariant_of-self
invariant_of-self c =
    let claims : (c.args.slot < length (cells c.self.inside).headers) × (0 < c.args.header) = subst (λ (k : Cells). IsWithin k (ops.ClaimHeader c.args.slot c.args.header)) (sym c.self.view_is) c.requires in
    laid_again c.self.inside c.self.invariant c.args.self.now c.self.view_is (ops.ClaimHeader c.args.slot c.args.header) c.requires c.index.result c.index.ensures c.args.header c.remove.new.self
    (finds_replaced (cells c.self.inside).headers c.self.inside.free c.self.invariant.free c.remove.new.self c.args.slot c.args.header 0 claims.0 (some_chosen c.args.header (λ e. absurd (omega (arith, e, claims.1)))) c.remove.ensures)

pub returns-else-found-eq0-clause-left : goal.returns-else-found-eq0-clause-left
returns-else-found-eq0-clause-left c =
    let leaves : c.index_mut-word.result.now ≡ written (ops.ClaimHeader c.args.slot c.args.header) c.index_mut-word.result.now = grind (arith, c.if-found-eq0.false) in
    left_is c.self.inside c.self.invariant c.args.self.now c.self.view_is (ops.ClaimHeader c.args.slot c.args.header) c.requires c.index.result c.index.ensures c.index_mut-word.result.now c.index_mut-word.result.now leaves
