-- The contract of `Actor::null`: a register becomes null.
use Rattle.std.proofs.Common.{◌≡◌, ℕ, ◌<◌, Some, refl, sym, ap, subst, ◌∙◌}
use Rattle.rec_word.specs.declared.op.Op.TheVariants as ops
use Rattle.rec_model.specs.declared.command.Cmd.TheVariants as commands
use Rattle.rec_model.specs.Asking.{plain}
use Rattle.rec_model.specs.declared.answer.Answer.TheVariants as answers
use Rattle.rec_mutator.specs.Next.{next_of, next_at}
use Rattle.rec_mutator.specs.declared.work.Work.{Work}
use Rattle.rec_mutator.specs.declared.work.Work.TheVariants as works
use Rattle.rec_table.specs.Straight.{record_of}
use Rattle.rec_table.specs.declared.start.Start.{Start}
use Rattle.rec_table.proofs.Common.{Private, IsBetween, IsMachine, answer_of, begun_of, beats}
use Rattle.rec_table.proofs.Straight.{awake, carried_once, kept_by, learns_first, none_born, opened_on, owns, seen_on, Begins, begins}
use Rattle.rec_table.proofs.actor.Actor.null.Goals as goal
use Rattle.rec_table.proofs.actor.Actor.null.Goals.{After-from-from}

abbrev work : (c : After-from-from) → Work
work c = works.Command (commands.Null c.args.reg)

starts : (c : After-from-from) → Begins c.args.board.now.table.shared.key.value c.self.inside.opened.value c.self.inside.machine c.self.inside.seat.me c.args.self.now (work c) c.from-from.result
starts c = begins c.args.board.now.table.shared.key.value c.self.inside.opened.value c.self.inside.machine c.self.inside.seat.me c.args.self.now (work c) c.from-from.result
    (owns c.args.board.now.table.shared.table_id c.self.inside.seat.table_id c.args.board.now.table.shared.key.value c.self.inside.opened.value c.self.inside.machine c.self.inside.seat.me c.args.self.now c.self.view_is c.requires.own c.self.invariant.0 c.self.invariant.1 c.self.invariant.2 c.self.invariant.3 c.self.invariant.4)
    c.requires.may c.from-from.ensures.from c.from-from.ensures.kept

-- the operation is the one that comes next
next : (p : Private) (reg from number : ℕ) → number ≡ p.number → ops.LoadCross number ≡ next_of (begun_of p (works.Command (commands.Null reg)) from)
unfolding next_of next_at begun_of
next p reg from number is = ap (λ n. ops.LoadCross n) is

pub perform-word-requires-clause-stands : goal.perform-word-requires-clause-stands
perform-word-requires-clause-stands c =
    let a : After-from-from = (goal.at.perform-word-requires-clause-stands c).After-from-from in
    (starts a).owned.stands

pub perform-word-requires-clause-may : goal.perform-word-requires-clause-may
perform-word-requires-clause-may c =
    let a : After-from-from = (goal.at.perform-word-requires-clause-may c).After-from-from in
    (starts a).goes

pub perform-word-requires-clause-machine : goal.perform-word-requires-clause-machine
perform-word-requires-clause-machine c =
    let a : After-from-from = (goal.at.perform-word-requires-clause-machine c).After-from-from in
    subst (λ (p : Private). IsMachine (begun_of p (work a) a.from-from.result)) (starts a).owned.machine (starts a).begun

pub perform-word-requires-clause-op : goal.perform-word-requires-clause-op
perform-word-requires-clause-op c =
    let a : After-from-from = (goal.at.perform-word-requires-clause-op c).After-from-from in
    next c.self.inside.machine c.args.reg c.from-from.result c.number-number.result c.number-number.ensures
    ∙ ap (λ (p : Private). next_of (begun_of p (work a) c.from-from.result)) (starts a).owned.machine

pub nulled-requires-clause-idle : goal.nulled-requires-clause-idle
nulled-requires-clause-idle c = let a : After-from-from = (goal.at.nulled-requires-clause-idle c).After-from-from in (starts a).may.0

pub nulled-requires-clause-awake : goal.nulled-requires-clause-awake
nulled-requires-clause-awake c = let a : After-from-from = (goal.at.nulled-requires-clause-awake c).After-from-from in awake c.requires.world (starts a).owned

pub nulled-requires-clause-stays : goal.nulled-requires-clause-stays
nulled-requires-clause-stays c = let a : After-from-from = (goal.at.nulled-requires-clause-stays c).After-from-from in (starts a).may.1

pub nulled-requires-clause-valid : goal.nulled-requires-clause-valid
nulled-requires-clause-valid c = let a : After-from-from = (goal.at.nulled-requires-clause-valid c).After-from-from in (starts a).may.2

pub invariant_of-self : goal.invariant_of-self
invariant_of-self c =
    let a : After-from-from = (goal.at.invariant_of-self c).After-from-from in
    let s = c.self.inside in
    let o = (starts a).owned in
    let start : Start = record { work = work a; from = c.from-from.result } in
    kept_by a.args.board.now.table.shared.key.value s.opened.value c.nulled.new.self c.perform-word.new.seat.me s.births
    (opened_on a.args.board.now.table.shared.key.value s.opened.value s.seat.me c.perform-word.new.seat.me (beats (Some start) c.perform-word.result) o.opened c.perform-word.ensures.me)
    (learns_first (record_of a.args.board.now.table.shared.key.value s.seat.me) s.machine c.nulled.new.self (work a) c.from-from.result c.perform-word.result o.machine c.from-from.ensures.from c.nulled.ensures.took ∙ sym c.perform-word.ensures.learns)
    c.perform-word.ensures.stands
    (none_born a.args.board.now.table.shared.key.value s.opened.value s.seat.me c.perform-word.new.seat.me (Some start) (ops.LoadCross c.number-number.result) c.perform-word.result s.births o.opened
    (next s.machine c.args.reg c.from-from.result c.number-number.result c.number-number.ensures ∙ ap (λ (p : Private). next_of (begun_of p (work a) c.from-from.result)) o.machine)
    refl c.perform-word.ensures.me c.self.invariant.5)

pub returns : goal.returns
returns c =
    let a : After-from-from = (goal.at.returns c).After-from-from in
    let s = c.self.inside in
    let o = (starts a).owned in
    let start : Start = record { work = work a; from = c.from-from.result } in
    let same = o.machine ∙ sym o.now in
    let grows = seen_on s.seat.table_id c.perform-word.new.seat.table_id s.opened.value s.seat.me c.perform-word.new.seat.me c.args.self.now (beats (Some start) c.perform-word.result) c.perform-word.ensures.seat.0 c.self.view_is c.perform-word.ensures.me in
    let carried = carried_once c.args.self.now _ (commands.Null c.args.reg) c.from-from.result c.perform-word.result (plain answers.Done) c.requires.may
    (subst (λ (p : Private). c.from-from.result < p.slots) same (starts a).low) (subst (λ (p : Private). IsBetween p.phase) same c.self.invariant.4) (subst (λ (p : Private). IsMachine (begun_of p (work a) c.from-from.result)) same (starts a).begun)
    grows
    (ap answer_of (sym (invariant_of-self c).1) ∙ c.nulled.ensures.answer) in
    record { told = plain answers.Done; answers = refl; carried = carried }
