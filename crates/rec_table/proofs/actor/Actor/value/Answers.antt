-- The contract of `Actor::value`: a look at the label of an object.
use Rattle.std.proofs.Common.{◌≡◌, ℕ, ◌<◌, Some, refl, sym, ap, subst, ◌∙◌}
use Rattle.rec_word.specs.declared.op.Op.TheVariants as ops
use Rattle.rec_model.specs.declared.command.Cmd.TheVariants as commands
use Rattle.rec_model.specs.Asking.{plain}
use Rattle.rec_model.specs.declared.told.Told.{Told}
use Rattle.rec_mutator.specs.Next.{next_of, next_at, label_op}
use Rattle.rec_mutator.specs.declared.work.Work.{Work}
use Rattle.rec_mutator.specs.declared.work.Work.TheVariants as works
use Rattle.rec_table.specs.Straight.{record_of}
use Rattle.rec_table.specs.declared.start.Start.{Start}
use Rattle.rec_table.proofs.Common.{Private, IsBetween, IsMachine, register, answer_of, begun_of, beats}
use Rattle.rec_table.proofs.Straight.{awake, carried_once, kept_by, learns_first, none_born, opened_on, owns, seen_on, Begins, begins}
use Rattle.rec_table.proofs.actor.Actor.value.Goals as goal
use Rattle.rec_table.proofs.actor.Actor.value.Goals.{After-from-from}

abbrev work : (c : After-from-from) → Work
work c = works.Command (commands.Value c.args.reg)

starts : (c : After-from-from) → Begins c.args.board.now.table.shared.key.value c.self.inside.opened.value c.self.inside.machine c.self.inside.seat.me c.args.self.now (work c) c.from-from.result
starts c = begins c.args.board.now.table.shared.key.value c.self.inside.opened.value c.self.inside.machine c.self.inside.seat.me c.args.self.now (work c) c.from-from.result
    (owns c.args.board.now.table.shared.table_id c.self.inside.seat.table_id c.args.board.now.table.shared.key.value c.self.inside.opened.value c.self.inside.machine c.self.inside.seat.me c.args.self.now c.self.view_is c.requires.own c.self.invariant.0 c.self.invariant.1 c.self.invariant.2 c.self.invariant.3 c.self.invariant.4)
    c.requires.may c.from-from.ensures.from c.from-from.ensures.kept

object : (c : After-from-from) → register c.self.inside.machine c.args.reg ≡ Some c.in-Some.slot
object c = sym c.register.ensures ∙ c.in-Some.is

-- the operation is the one that comes next
next : (p : Private) (reg slot from : ℕ) → register p reg ≡ Some slot → ops.LoadHeader slot ≡ next_of (begun_of p (works.Command (commands.Value reg)) from)
unfolding next_of next_at begun_of
next p reg slot from object = sym (ap (label_op p) object)

pub perform-header-requires-clause-stands : goal.perform-header-requires-clause-stands
perform-header-requires-clause-stands c =
    let a : After-from-from = (goal.at.perform-header-requires-clause-stands c).After-from-from in
    (starts a).owned.stands

pub perform-header-requires-clause-may : goal.perform-header-requires-clause-may
perform-header-requires-clause-may c =
    let a : After-from-from = (goal.at.perform-header-requires-clause-may c).After-from-from in
    (starts a).goes

pub perform-header-requires-clause-machine : goal.perform-header-requires-clause-machine
perform-header-requires-clause-machine c =
    let a : After-from-from = (goal.at.perform-header-requires-clause-machine c).After-from-from in
    subst (λ (p : Private). IsMachine (begun_of p (work a) a.from-from.result)) (starts a).owned.machine (starts a).begun

pub perform-header-requires-clause-op : goal.perform-header-requires-clause-op
perform-header-requires-clause-op c =
    let a : After-from-from = (goal.at.perform-header-requires-clause-op c).After-from-from in
    next c.self.inside.machine c.args.reg c.in-Some.slot c.from-from.result (object a)
    ∙ ap (λ (p : Private). next_of (begun_of p (work a) c.from-from.result)) (starts a).owned.machine

pub labelled-requires-clause-idle : goal.labelled-requires-clause-idle
labelled-requires-clause-idle c = let a : After-from-from = (goal.at.labelled-requires-clause-idle c).After-from-from in (starts a).may.0

pub labelled-requires-clause-awake : goal.labelled-requires-clause-awake
labelled-requires-clause-awake c = let a : After-from-from = (goal.at.labelled-requires-clause-awake c).After-from-from in awake c.requires.world (starts a).owned

pub labelled-requires-clause-stays : goal.labelled-requires-clause-stays
labelled-requires-clause-stays c = let a : After-from-from = (goal.at.labelled-requires-clause-stays c).After-from-from in (starts a).may.1

pub labelled-requires-clause-valid : goal.labelled-requires-clause-valid
labelled-requires-clause-valid c = let a : After-from-from = (goal.at.labelled-requires-clause-valid c).After-from-from in (starts a).may.2

pub labelled-requires-clause-object : goal.labelled-requires-clause-object
labelled-requires-clause-object c = let a : After-from-from = (goal.at.labelled-requires-clause-object c).After-from-from in object a

pub invariant_of-self : goal.invariant_of-self
invariant_of-self c =
    let a : After-from-from = (goal.at.invariant_of-self c).After-from-from in
    let s = c.self.inside in
    let o = (starts a).owned in
    let start : Start = record { work = work a; from = c.from-from.result } in
    kept_by a.args.board.now.table.shared.key.value s.opened.value c.labelled.new.self c.perform-header.new.seat.me s.births
    (opened_on a.args.board.now.table.shared.key.value s.opened.value s.seat.me c.perform-header.new.seat.me (beats (Some start) c.perform-header.result) o.opened c.perform-header.ensures.me)
    (learns_first (record_of a.args.board.now.table.shared.key.value s.seat.me) s.machine c.labelled.new.self (work a) c.from-from.result c.perform-header.result o.machine c.from-from.ensures.from c.labelled.ensures.took ∙ sym c.perform-header.ensures.learns)
    c.perform-header.ensures.stands
    (none_born a.args.board.now.table.shared.key.value s.opened.value s.seat.me c.perform-header.new.seat.me (Some start) (ops.LoadHeader c.in-Some.slot) c.perform-header.result s.births o.opened
    (next s.machine c.args.reg c.in-Some.slot c.from-from.result (object a) ∙ ap (λ (p : Private). next_of (begun_of p (work a) c.from-from.result)) o.machine)
    refl c.perform-header.ensures.me c.self.invariant.5)

pub returns : goal.returns
returns c =
    let a : After-from-from = (goal.at.returns c).After-from-from in
    let s = c.self.inside in
    let o = (starts a).owned in
    let start : Start = record { work = work a; from = c.from-from.result } in
    let same = o.machine ∙ sym o.now in
    let grows = seen_on s.seat.table_id c.perform-header.new.seat.table_id s.opened.value s.seat.me c.perform-header.new.seat.me c.args.self.now (beats (Some start) c.perform-header.result) c.perform-header.ensures.seat.0 c.self.view_is c.perform-header.ensures.me in
    let told : Told = plain c.labelled.result in
    let carried = carried_once c.args.self.now _ (commands.Value c.args.reg) c.from-from.result c.perform-header.result told c.requires.may
    (subst (λ (p : Private). c.from-from.result < p.slots) same (starts a).low) (subst (λ (p : Private). IsBetween p.phase) same c.self.invariant.4) (subst (λ (p : Private). IsMachine (begun_of p (work a) c.from-from.result)) same (starts a).begun)
    grows
    (ap answer_of (sym (invariant_of-self c).1) ∙ c.labelled.ensures.answer) in
    record { told = told; answers = refl; carried = carried }
