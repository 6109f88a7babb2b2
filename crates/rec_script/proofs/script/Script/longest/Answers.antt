-- The contract of `Script::longest`: the greatest number of commands that a mutator has.
use Rattle.std.proofs.Common.{◌≡◌, ◌-◌, ◌+◌, ℕ, [], Some, length, get_or, subst, ap, sym, arith}
use Rattle.std.specs.Prelude.{Any, slice_get}
use Rattle.std.proofs.lemmas.List.{get_or_default}
use Rattle.rec_model.specs.declared.command.Cmd.{Cmd}
use Rattle.rec_script.proofs.Mutators.{longest_so_far, reached_at}
use Rattle.rec_script.proofs.script.Script.longest.Goals as goal
use Rattle.rec_script.proofs.script.Script.longest.Goals.{then-length-longest, else-length-longest}

pub loop-t-preserved : goal.loop-t-preserved
loop-t-preserved c =
    let same : c.loop-t.t + 1 - 1 ≡ c.loop-t.t = omega arith in
    let here : slice_get c.args.self.now.commands c.loop-t.t ≡ Some c.commands-length.result.now = subst (λ (n : ℕ). slice_get c.args.self.now.commands n ≡ Some c.commands-length.result.now) same c.commands-length.ensures.value in
    elim c.if-length-longest.branch [
      | then-length-longest w ↦
          let long : length c.commands-length.result.now ≡ c.if-length-longest.longest = omega arith in
          record {
            bound = longest_so_far c.args.self.now.commands c.loop-t.t c.loop-t.longest c.if-length-longest.longest c.commands-length.result.now here (omega arith) (omega arith) c.loop-t.invariant.bound;
            reached = reached_at c.args.self.now.commands c.loop-t.t c.if-length-longest.longest c.commands-length.result.now here long;
            small = omega (arith, c.commands-length.ensures.valid.few);
          }
      | else-length-longest w ↦ record {
        bound = longest_so_far c.args.self.now.commands c.loop-t.t c.loop-t.longest c.if-length-longest.longest c.commands-length.result.now here (omega arith) (omega arith) c.loop-t.invariant.bound;
        reached = subst (λ (n : ℕ). Any (λ cmds. length cmds ≡ n) c.args.self.now.commands) (sym w.longest-is) c.loop-t.invariant.reached;
        small = omega arith;
      }
    ]

pub returns-clause-bound : goal.returns-clause-bound
returns-clause-bound c = λ k d lt.
    let same : get_or c.args.self.now.commands k d ≡ get_or c.args.self.now.commands k [] = get_or_default c.args.self.now.commands k d [] lt in
    omega (arith, ap (length {A = Cmd}) same, c.loop-t.invariant.bound k (omega arith))
