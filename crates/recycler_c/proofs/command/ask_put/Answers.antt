-- The contract of `ask_put`: writes a field, in straight code where that goes its usual way.
use Rattle.std.proofs.Common.{◌≡◌, Some}
use Rattle.recycler_c.specs.declared.code.Code.TheVariants as codes
use Rattle.recycler_c.proofs.Straight.{tried, untried}
use Rattle.recycler_c.proofs.command.ask_put.Goals as goal

pub returns-then-done : goal.returns-then-done
returns-then-done c =
    let was : c.args.mutator.now.owned.held ≡ Some c.deref_mut.result.now = cc in
    (codes.Ok, c.number.ensures, tried _ _ _ _ _ _ _ _ was c.put.ensures c.if-done.true c.put_in-done.ensures)

pub returns : goal.returns
returns c =
    let e = c.put_by_steps-2.ensures in
    let was : c.args.mutator.now.owned.held ≡ Some c.deref_mut.result.now = cc in
    (e.0, e.1, untried _ _ _ _ _ _ _ _ _ _ _ was c.put.ensures c.if-done.false c.put_in-done.ensures e.2)
