-- The contract of `Mutator::value`: tells a label.
use Rattle.std.proofs.Common.{IsSome, sym, subst}
use Rattle.rec_model.specs.declared.command.Cmd.TheVariants as commands
use Rattle.rec_table.proofs.Common.{IsMutatorOf, IsWorld, MutatorView, Started, mutator_now, register, started}
use Rattle.rec_table.specs.Rule.{MayAsk}
use Rattle.rec_table.specs.Straight.{Carries}
use Rattle.rec_table.proofs.mutator.Mutator.value.Goals as goal

pub value-requires-clause-own : goal.value-requires-clause-own
value-requires-clause-own c = subst (λ (s : Started × MutatorView). IsMutatorOf s.0 s.1) (λ i. (started (sym c.board.ensures.table i) (sym c.board.ensures.world i), sym c.self.view_is i)) c.requires.own

pub value-requires-clause-world : goal.value-requires-clause-world
value-requires-clause-world c = subst IsWorld (sym c.board.ensures.world) c.board.ensures.kept

pub value-requires-clause-may : goal.value-requires-clause-may
value-requires-clause-may c =
    let valid : MayAsk (mutator_now c.self.inside.actor) (commands.Value c.args.reg) = subst (λ (m : MutatorView). MayAsk (mutator_now m) (commands.Value c.args.reg)) (sym c.self.view_is) c.requires.valid in
    (c.self.invariant, valid.1, valid.0, tt)

pub value-requires-clause-object : goal.value-requires-clause-object
value-requires-clause-object c = subst (λ (m : MutatorView). IsSome (register (mutator_now m) c.args.reg)) (sym c.self.view_is) c.requires.object

pub invariant_of-self : goal.invariant_of-self
invariant_of-self c = c.value.ensures.carried.idle

pub returns : goal.returns
returns c = subst (λ (m : MutatorView). Carries m c.value.new.self (commands.Value c.args.reg) c.value.result) c.self.view_is c.value.ensures
