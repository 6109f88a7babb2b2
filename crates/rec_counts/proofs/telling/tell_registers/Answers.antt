-- The contract of `tell_registers`: the registers of one mutator, by the kind of heap.
use Rattle.std.proofs.Common.{◌≡◌, true, false, rules}
use Rattle.rec_counts.proofs.telling.tell_registers.Goals as goal

pub returns-then-steady : goal.returns-then-steady
returns-then-steady c =
    let is : c.args.steady ≡ true = search rules in
    rw is c.tell_changes.ensures

pub returns-else-steady : goal.returns-else-steady
returns-else-steady c =
    let is : c.args.steady ≡ false = search rules in
    rw is c.tell_all.ensures
