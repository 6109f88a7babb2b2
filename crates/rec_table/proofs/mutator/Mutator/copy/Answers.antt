-- The contract of `Mutator::copy`: copies a register.
use Rattle.std.proofs.Common.{sym, subst}
use Rattle.rec_model.specs.declared.answer.Answer.TheVariants as answers
use Rattle.rec_model.specs.declared.command.Cmd.TheVariants as commands
use Rattle.rec_table.proofs.Common.{IsMutatorOf, IsWorld, MutatorView, Started, mutator_now, started}
use Rattle.rec_table.specs.Rule.{MayAsk}
use Rattle.rec_table.specs.Straight.{Carries}
use Rattle.rec_table.proofs.mutator.Mutator.copy.Goals as goal

pub copy-requires-clause-own : goal.copy-requires-clause-own
copy-requires-clause-own c = subst (λ (s : Started × MutatorView). IsMutatorOf s.0 s.1) (λ i. (started (sym c.board.ensures.table i) (sym c.board.ensures.world i), sym c.self.view_is i)) c.requires.own

pub copy-requires-clause-world : goal.copy-requires-clause-world
copy-requires-clause-world c = subst IsWorld (sym c.board.ensures.world) c.board.ensures.kept

pub copy-requires-clause-may : goal.copy-requires-clause-may
copy-requires-clause-may c =
    let valid : MayAsk (mutator_now c.self.inside.actor) (commands.Copy c.args.dst c.args.src) = subst (λ (m : MutatorView). MayAsk (mutator_now m) (commands.Copy c.args.dst c.args.src)) (sym c.self.view_is) c.requires.valid in
    (c.self.invariant, valid.1, valid.0, tt)

pub invariant_of-self : goal.invariant_of-self
invariant_of-self c = c.copy.ensures.carried.idle

pub returns : goal.returns
returns c = subst (λ (m : MutatorView). Carries m c.copy.new.self (commands.Copy c.args.dst c.args.src) answers.Done) c.self.view_is c.copy.ensures
