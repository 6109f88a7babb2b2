-- The loop of `hold`: the slots that the registers so far hold.
use Rattle.std.proofs.Common.{◌≡◌, ◌++◌, take}
use Rattle.rec_audit.specs.Graph.{held}
use Rattle.rec_audit.proofs.slots.Slots.hold.Given as goal

abbrev pub invariant-loop-held : goal.invariant-loop-held
invariant-loop-held l = record {
  taken : l.self.taken ≡ l.fn.self.taken;
  named : l.self.named.items ≡ l.fn.self.named.items ++ held (take l.held-index l.registers);
}
