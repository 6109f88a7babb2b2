-- The contract of `Mutator::same`: compares two registers.
use Rattle.std.proofs.Common.{sym, subst}
use Rattle.rec_model.specs.declared.command.Cmd.TheVariants as commands
use Rattle.rec_table.proofs.Common.{IsMutatorOf, IsWorld, MutatorView, Started, mutator_now, started}
use Rattle.rec_table.specs.Rule.{MayAsk}
use Rattle.rec_table.specs.Straight.{Carries}
use Rattle.rec_table.proofs.mutator.Mutator.same.Goals as goal

pub same-requires-clause-own : goal.same-requires-clause-own
same-requires-clause-own c = subst (λ (s : Started × MutatorView). IsMutatorOf s.0 s.1) (λ i. (started (sym c.board.ensures.table i) (sym c.board.ensures.world i), sym c.self.view_is i)) c.requires.own

pub same-requires-clause-world : goal.same-requires-clause-world
same-requires-clause-world c = subst IsWorld (sym c.board.ensures.world) c.board.ensures.kept

pub same-requires-clause-may : goal.same-requires-clause-may
same-requires-clause-may c =
    let valid : MayAsk (mutator_now c.self.inside.actor) (commands.Same c.args.a c.args.b) = subst (λ (m : MutatorView). MayAsk (mutator_now m) (commands.Same c.args.a c.args.b)) (sym c.self.view_is) c.requires.valid in
    (c.self.invariant, valid.1, valid.0, tt)

pub invariant_of-self : goal.invariant_of-self
invariant_of-self c = c.same.ensures.carried.idle

pub returns : goal.returns
returns c = subst (λ (m : MutatorView). Carries m c.same.new.self (commands.Same c.args.a c.args.b) c.same.result) c.self.view_is c.same.ensures
