-- The mutators so far are opened, and the registers of the others are left.
use Rattle.std.proofs.Common.{◌≡◌, ◌+◌, ◌-◌, ◌*◌, ◌++◌, All, length}
use Rattle.rec_word.specs.Word.{IsTarget}
use Rattle.rec_core.specs.Objects.{rows_of}
use Rattle.rec_core.specs.Core.{holding_mutators}
use Rattle.rec_world.proofs.world.opening.open_holders.Given as goal

abbrev pub invariant-loop-t : goal.invariant-loop-t
invariant-loop-t l = record {
  mutators : holding_mutators l.config 1 (rows_of l.config.registers l.config.mutators l.registers) ≡ l.machines.items ++ holding_mutators l.config (l.t + 1) (rows_of l.config.registers (l.config.mutators - l.t) l.rest);
  left : length l.rest ≡ (l.config.mutators - l.t) * l.config.registers;
  targets : All IsTarget l.rest;
}
