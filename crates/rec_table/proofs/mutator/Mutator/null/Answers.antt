-- The contract of `Mutator::null`: lets a register be null.
use Rattle.std.proofs.Common.{sym, subst}
use Rattle.rec_model.specs.declared.answer.Answer.TheVariants as answers
use Rattle.rec_model.specs.declared.command.Cmd.TheVariants as commands
use Rattle.rec_table.proofs.Common.{IsMutatorOf, IsWorld, MutatorView, Started, mutator_now, started}
use Rattle.rec_table.specs.Rule.{MayAsk}
use Rattle.rec_table.specs.Straight.{Carries}
use Rattle.rec_table.proofs.mutator.Mutator.null.Goals as goal

pub null-requires-clause-own : goal.null-requires-clause-own
null-requires-clause-own c = subst (λ (s : Started × MutatorView). IsMutatorOf s.0 s.1) (λ i. (started (sym c.board.ensures.table i) (sym c.board.ensures.world i), sym c.self.view_is i)) c.requires.own

pub null-requires-clause-world : goal.null-requires-clause-world
null-requires-clause-world c = subst IsWorld (sym c.board.ensures.world) c.board.ensures.kept

pub null-requires-clause-may : goal.null-requires-clause-may
null-requires-clause-may c =
    let valid : MayAsk (mutator_now c.self.inside.actor) (commands.Null c.args.reg) = subst (λ (m : MutatorView). MayAsk (mutator_now m) (commands.Null c.args.reg)) (sym c.self.view_is) c.requires.valid in
    (c.self.invariant, valid.1, valid.0, tt)

pub invariant_of-self : goal.invariant_of-self
invariant_of-self c = c.null.ensures.carried.idle

pub returns : goal.returns
returns c = subst (λ (m : MutatorView). Carries m c.null.new.self (commands.Null c.args.reg) answers.Done) c.self.view_is c.null.ensures
