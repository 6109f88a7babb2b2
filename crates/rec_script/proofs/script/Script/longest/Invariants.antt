-- The loops of `Script::longest`: the greatest number of commands that a mutator has.
use Rattle.std.proofs.Common.{◌≡◌, ◌<◌, ◌≤◌, ℕ, [], length, get_or}
use Rattle.std.specs.Prelude.{Any}
use Rattle.rec_script.proofs.script.Script.longest.Given as goal

-- no mutator so far has more, and one has as many
abbrev pub invariant-loop-t : goal.invariant-loop-t
invariant-loop-t l = record {
  bound : (k : ℕ) → k < l.t → length (get_or l.self.commands k []) ≤ l.longest;
  reached : Any (λ cmds. length cmds ≡ l.longest) l.self.commands;
  small : l.longest ≤ 200000;
}
