-- The contract of `Mutator::put`: writes a field.
use Rattle.std.proofs.Common.{◌≡◌, IsSome, false, sym, subst}
use Rattle.rec_model.specs.declared.command.Cmd.TheVariants as commands
use Rattle.rec_table.proofs.Common.{IsMutatorOf, IsWorld, MutatorView, Started, is_full, mutator_now, register, started}
use Rattle.rec_table.specs.Rule.{MayAsk}
use Rattle.rec_table.specs.Straight.{Carries}
use Rattle.rec_table.proofs.mutator.Mutator.put.Goals as goal

pub put-requires-clause-own : goal.put-requires-clause-own
put-requires-clause-own c = subst (λ (s : Started × MutatorView). IsMutatorOf s.0 s.1) (λ i. (started (sym c.board.ensures.table i) (sym c.board.ensures.world i), sym c.self.view_is i)) c.requires.own

pub put-requires-clause-world : goal.put-requires-clause-world
put-requires-clause-world c = subst IsWorld (sym c.board.ensures.world) c.board.ensures.kept

pub put-requires-clause-may : goal.put-requires-clause-may
put-requires-clause-may c =
    let valid : MayAsk (mutator_now c.self.inside.actor) (commands.Put c.args.src c.args.field c.args.val) = subst (λ (m : MutatorView). MayAsk (mutator_now m) (commands.Put c.args.src c.args.field c.args.val)) (sym c.self.view_is) c.requires.valid in
    (c.self.invariant, valid.1, valid.0, tt)

pub put-requires-clause-object : goal.put-requires-clause-object
put-requires-clause-object c = subst (λ (m : MutatorView). IsSome (register (mutator_now m) c.args.src)) (sym c.self.view_is) c.requires.object

pub put-requires-clause-room : goal.put-requires-clause-room
put-requires-clause-room c = subst (λ (m : MutatorView). is_full (mutator_now m) ≡ false) (sym c.self.view_is) c.requires.room

pub invariant_of-self : goal.invariant_of-self
invariant_of-self c = c.put.ensures.carried.idle

pub returns : goal.returns
returns c = subst (λ (m : MutatorView). Carries m c.put.new.self (commands.Put c.args.src c.args.field c.args.val) c.put.result) c.self.view_is c.put.ensures
