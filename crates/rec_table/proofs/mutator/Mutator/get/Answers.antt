-- The contract of `Mutator::get`: reads a field.
use Rattle.std.proofs.Common.{IsSome, sym, subst}
use Rattle.rec_model.specs.declared.command.Cmd.TheVariants as commands
use Rattle.rec_table.proofs.Common.{IsMutatorOf, IsWorld, MutatorView, Started, mutator_now, register, started}
use Rattle.rec_table.specs.Rule.{MayAsk}
use Rattle.rec_table.specs.Straight.{Carries}
use Rattle.rec_table.proofs.mutator.Mutator.get.Goals as goal

pub get-requires-clause-own : goal.get-requires-clause-own
get-requires-clause-own c = subst (λ (s : Started × MutatorView). IsMutatorOf s.0 s.1) (λ i. (started (sym c.board.ensures.table i) (sym c.board.ensures.world i), sym c.self.view_is i)) c.requires.own

pub get-requires-clause-world : goal.get-requires-clause-world
get-requires-clause-world c = subst IsWorld (sym c.board.ensures.world) c.board.ensures.kept

pub get-requires-clause-may : goal.get-requires-clause-may
get-requires-clause-may c =
    let valid : MayAsk (mutator_now c.self.inside.actor) (commands.Get c.args.dst c.args.src c.args.field) = subst (λ (m : MutatorView). MayAsk (mutator_now m) (commands.Get c.args.dst c.args.src c.args.field)) (sym c.self.view_is) c.requires.valid in
    (c.self.invariant, valid.1, valid.0, tt)

pub get-requires-clause-object : goal.get-requires-clause-object
get-requires-clause-object c = subst (λ (m : MutatorView). IsSome (register (mutator_now m) c.args.src)) (sym c.self.view_is) c.requires.object

pub invariant_of-self : goal.invariant_of-self
invariant_of-self c = c.get.ensures.carried.idle

pub returns : goal.returns
returns c = subst (λ (m : MutatorView). Carries m c.get.new.self (commands.Get c.args.dst c.args.src c.args.field) c.get.result) c.self.view_is c.get.ensures
