-- The contract of `Mutator::bear`: makes an object or a leaf.
use Rattle.std.proofs.Common.{◌≡◌, ◌<◌, ◌^◌, ℕ, Bool, true, false, sym, subst}
use Rattle.rec_model.specs.Asking.{allocation}
use Rattle.rec_core.specs.Config.{HasLabel}
use Rattle.rec_mutator.specs.declared.work.Work.TheVariants as works
use Rattle.rec_table.proofs.Common.{IsMutatorOf, IsWorld, MutatorView, Started, is_full, mutator_now, started}
use Rattle.rec_table.proofs.Straight.{idle_born}
use Rattle.rec_table.specs.Rule.{MayAsk}
use Rattle.rec_table.specs.Straight.{Bears}
use Rattle.rec_table.proofs.mutator.Mutator.bear.Goals as goal

labels : (leaf : Bool) (reg label : ℕ) → label < 2 ^ 32 → HasLabel (works.Command (allocation leaf reg label))
labels true reg label small = small
labels false reg label small = small

pub bear-requires-clause-own : goal.bear-requires-clause-own
bear-requires-clause-own c = subst (λ (s : Started × MutatorView). IsMutatorOf s.0 s.1) (λ i. (started (sym c.board.ensures.table i) (sym c.board.ensures.world i), sym c.self.view_is i)) c.requires.own

pub bear-requires-clause-world : goal.bear-requires-clause-world
bear-requires-clause-world c = subst IsWorld (sym c.board.ensures.world) c.board.ensures.kept

pub bear-requires-clause-may : goal.bear-requires-clause-may
bear-requires-clause-may c =
    let valid : MayAsk (mutator_now c.self.inside.actor) (allocation c.args.leaf c.args.reg c.args.label) = subst (λ (m : MutatorView). MayAsk (mutator_now m) (allocation c.args.leaf c.args.reg c.args.label)) (sym c.self.view_is) c.requires.valid in
    (c.self.invariant, valid.1, valid.0, labels c.args.leaf c.args.reg c.args.label c.see_label.ensures)

pub bear-requires-clause-room : goal.bear-requires-clause-room
bear-requires-clause-room c = subst (λ (m : MutatorView). is_full (mutator_now m) ≡ false) (sym c.self.view_is) c.requires.room

pub bear-requires-clause-from : goal.bear-requires-clause-from
bear-requires-clause-from c = subst (λ (m : MutatorView). c.args.from < (mutator_now m).slots) (sym c.self.view_is) c.requires.from

pub invariant_of-self : goal.invariant_of-self
invariant_of-self c = idle_born c.self.inside.actor c.bear.new.self (allocation c.args.leaf c.args.reg c.args.label) c.bear.result c.bear.ensures

pub returns : goal.returns
returns c = subst (λ (m : MutatorView). Bears m c.bear.new.self (allocation c.args.leaf c.args.reg c.args.label) c.bear.result) c.self.view_is c.bear.ensures
