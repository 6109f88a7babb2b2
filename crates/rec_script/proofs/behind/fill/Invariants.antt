-- The mutators so far are there.
use Rattle.std.proofs.Common.{◌≡◌, ◌-◌, ◌++◌, [], length, replicate}
use Rattle.rec_script.proofs.behind.fill.Given as goal

abbrev pub invariant-loop : goal.invariant-loop
invariant-loop l = l.script ≡ record l.initial.script { commands = l.initial.script.commands ++ replicate (l.counter - length l.initial.script.commands) [] }
