-- The contract of `Actor::poll`: a look at the epoch word, and the steps by which the mutator crosses.
use Rattle.std.proofs.Common.{◌++◌, ◌≡◌, ℕ, ◌<◌, [], Option, Some, refl, sym, ap, subst, ◌∙◌}
use Rattle.rec_word.specs.declared.op.Op.TheVariants as ops
use Rattle.rec_mutator.specs.Next.{next_of, next_at}
use Rattle.rec_mutator.specs.declared.work.Work.{Work}
use Rattle.rec_mutator.specs.declared.work.Work.TheVariants as works
use Rattle.rec_table.specs.Straight.{record_of}
use Rattle.rec_table.specs.declared.start.Start.{Start}
use Rattle.rec_table.proofs.Common.{Private, IsBetween, IsFound, IsMachine, IsTold, Contents, answer_of, work_of, begun_of, told, mutator_now, mutator_view, MutatorView, Mutates, Saw, View, beats, longer, learnt, seated_of}
use Rattle.rec_table.proofs.Making.{begun_work, counted, keeps_on}
use Rattle.rec_mutator.specs.Took.{IsRequested}
use Rattle.atomic_table.specs.Table.{Me}
use Rattle.rec_table.proofs.Straight.{awake, path_once, polled_once, polled_path, kept_by, learns_first, none_born, opened_on, owns, seen_on, Begins, begins}
use Rattle.rec_table.proofs.actor.Actor.poll.Goals as goal
use Rattle.rec_table.proofs.actor.Actor.poll.Goals.{After-from-from}

abbrev work : (c : After-from-from) → Work
work c = works.Poll

starts : (c : After-from-from) → Begins c.args.board.now.table.shared.key.value c.self.inside.opened.value c.self.inside.machine c.self.inside.seat.me c.args.self.now (work c) c.from-from.result
starts c = begins c.args.board.now.table.shared.key.value c.self.inside.opened.value c.self.inside.machine c.self.inside.seat.me c.args.self.now (work c) c.from-from.result
    (owns c.args.board.now.table.shared.table_id c.self.inside.seat.table_id c.args.board.now.table.shared.key.value c.self.inside.opened.value c.self.inside.machine c.self.inside.seat.me c.args.self.now c.self.view_is c.requires.own c.self.invariant.0 c.self.invariant.1 c.self.invariant.2 c.self.invariant.3 c.self.invariant.4)
    c.requires.may c.from-from.ensures.from c.from-from.ensures.kept

-- the operation is the one that comes next
next : (p : Private) (from : ℕ) → ops.LoadEpoch ≡ next_of (begun_of p works.Poll from)
unfolding next_of next_at begun_of
next p from = refl

-- the word that it finds is the own epoch, or the next one
asked : (p : Private) (from word : ℕ) → IsFound (begun_of p works.Poll from) ops.LoadEpoch word → IsRequested p word
unfolding begun_of
asked p from word found = found

pub perform-requested-requires-clause-stands : goal.perform-requested-requires-clause-stands
perform-requested-requires-clause-stands c =
    let a : After-from-from = (goal.at.perform-requested-requires-clause-stands c).After-from-from in
    (starts a).owned.stands

pub perform-requested-requires-clause-may : goal.perform-requested-requires-clause-may
perform-requested-requires-clause-may c =
    let a : After-from-from = (goal.at.perform-requested-requires-clause-may c).After-from-from in
    (starts a).goes

pub perform-requested-requires-clause-machine : goal.perform-requested-requires-clause-machine
perform-requested-requires-clause-machine c =
    let a : After-from-from = (goal.at.perform-requested-requires-clause-machine c).After-from-from in
    subst (λ (p : Private). IsMachine (begun_of p (work a) a.from-from.result)) (starts a).owned.machine (starts a).begun

pub perform-requested-requires-clause-op : goal.perform-requested-requires-clause-op
perform-requested-requires-clause-op c =
    let a : After-from-from = (goal.at.perform-requested-requires-clause-op c).After-from-from in
    next c.self.inside.machine c.from-from.result
    ∙ ap (λ (p : Private). next_of (begun_of p (work a) c.from-from.result)) (starts a).owned.machine

pub stayed-requires-clause-idle : goal.stayed-requires-clause-idle
stayed-requires-clause-idle c = let a : After-from-from = (goal.at.stayed-requires-clause-idle c).After-from-from in (starts a).may.0

pub stayed-requires-clause-awake : goal.stayed-requires-clause-awake
stayed-requires-clause-awake c = let a : After-from-from = (goal.at.stayed-requires-clause-awake c).After-from-from in awake c.requires.world (starts a).owned

pub stayed-requires-clause-stays : goal.stayed-requires-clause-stays
stayed-requires-clause-stays c = let a : After-from-from = (goal.at.stayed-requires-clause-stays c).After-from-from in (starts a).may.1

pub summoned-requires-clause-idle : goal.summoned-requires-clause-idle
summoned-requires-clause-idle c = let a : After-from-from = (goal.at.summoned-requires-clause-idle c).After-from-from in (starts a).may.0

pub summoned-requires-clause-awake : goal.summoned-requires-clause-awake
summoned-requires-clause-awake c = let a : After-from-from = (goal.at.summoned-requires-clause-awake c).After-from-from in awake c.requires.world (starts a).owned

pub summoned-requires-clause-stays : goal.summoned-requires-clause-stays
summoned-requires-clause-stays c = let a : After-from-from = (goal.at.summoned-requires-clause-stays c).After-from-from in (starts a).may.1

pub summoned-requires-clause-found : goal.summoned-requires-clause-found
summoned-requires-clause-found c =
    let a : After-from-from = (goal.at.summoned-requires-clause-found c).After-from-from in
    subst (λ (p : Private). IsRequested p c.perform-requested.result) (sym (starts a).owned.machine) (asked (record_of a.args.board.now.table.shared.key.value c.self.inside.seat.me) c.from-from.result c.perform-requested.result c.perform-requested.ensures.found)

pub invariant_of-self : goal.invariant_of-self
invariant_of-self c =
    let a : After-from-from = (goal.at.invariant_of-self c).After-from-from in
    let s = c.self.inside in
    let o = (starts a).owned in
    let start : Start = record { work = work a; from = c.from-from.result } in
    kept_by a.args.board.now.table.shared.key.value s.opened.value c.stayed.new.self c.perform-requested.new.seat.me s.births
    (opened_on a.args.board.now.table.shared.key.value s.opened.value s.seat.me c.perform-requested.new.seat.me (beats (Some start) c.perform-requested.result) o.opened c.perform-requested.ensures.me)
    (learns_first (record_of a.args.board.now.table.shared.key.value s.seat.me) s.machine c.stayed.new.self (work a) c.from-from.result c.perform-requested.result o.machine c.from-from.ensures.from c.stayed.ensures.took ∙ sym c.perform-requested.ensures.learns)
    c.perform-requested.ensures.stands
    (none_born a.args.board.now.table.shared.key.value s.opened.value s.seat.me c.perform-requested.new.seat.me (Some start) (ops.LoadEpoch) c.perform-requested.result s.births o.opened
    (next s.machine c.from-from.result ∙ ap (λ (p : Private). next_of (begun_of p (work a) c.from-from.result)) o.machine)
    refl c.perform-requested.ensures.me c.self.invariant.5)

pub returns-then-requested-from : goal.returns-then-requested-from
returns-then-requested-from c =
    let a : After-from-from = (goal.at.returns-then-requested-from c).After-from-from in
    let s = c.self.inside in
    let o = (starts a).owned in
    let start : Start = record { work = works.Poll; from = c.from-from.result } in
    let same = o.machine ∙ sym o.now in
    polled_once c.args.self.now _ c.from-from.result c.perform-requested.result c.requires.may
    (subst (λ (p : Private). c.from-from.result < p.slots) same (starts a).low) (subst (λ (p : Private). IsBetween p.phase) same c.self.invariant.4) (subst (λ (p : Private). IsMachine (begun_of p works.Poll c.from-from.result)) same (starts a).begun)
    (seen_on s.seat.table_id c.perform-requested.new.seat.table_id s.opened.value s.seat.me c.perform-requested.new.seat.me c.args.self.now (beats (Some start) c.perform-requested.result) c.perform-requested.ensures.seat.0 c.self.view_is c.perform-requested.ensures.me)
    (ap answer_of (sym (invariant_of-self c).1) ∙ c.stayed.ensures.answer)

-- The mutator crosses.
pub invariant_of-self-2 : goal.invariant_of-self-2
invariant_of-self-2 c =
    let a : After-from-from = (goal.at.invariant_of-self-2 c).After-from-from in
    let s = c.self.inside in
    let o = (starts a).owned in
    let start : Start = record { work = works.Poll; from = c.from-from.result } in
    kept_by a.args.board.now.table.shared.key.value s.opened.value c.summoned.new.self c.perform-requested.new.seat.me s.births
    (opened_on a.args.board.now.table.shared.key.value s.opened.value s.seat.me c.perform-requested.new.seat.me (beats (Some start) c.perform-requested.result) o.opened c.perform-requested.ensures.me)
    (learns_first (record_of a.args.board.now.table.shared.key.value s.seat.me) s.machine c.summoned.new.self works.Poll c.from-from.result c.perform-requested.result o.machine c.from-from.ensures.from c.summoned.ensures.took ∙ sym c.perform-requested.ensures.learns)
    c.perform-requested.ensures.stands
    (none_born a.args.board.now.table.shared.key.value s.opened.value s.seat.me c.perform-requested.new.seat.me (Some start) ops.LoadEpoch c.perform-requested.result s.births o.opened
    (next s.machine c.from-from.result ∙ ap (λ (p : Private). next_of (begun_of p works.Poll c.from-from.result)) o.machine)
    refl c.perform-requested.ensures.me c.self.invariant.5)

-- the record behind the first step
goes_on : (a : After-from-from) (me' : Me (Option Contents) View) (word : ℕ) → me' ≡ (Mutates (longer (seated_of a.self.inside.seat.me.0) (beats (Some (record { work = works.Poll; from = a.from-from.result })) word)), [])
    → record_of a.args.board.now.table.shared.key.value me' ≡ learnt (begun_of (record_of a.args.board.now.table.shared.key.value a.self.inside.seat.me) works.Poll a.from-from.result) (Saw word)
    → (work_of (told a.self.inside.opened.value (seated_of me'.0).log) ≡ Some works.Poll) × IsTold (told a.self.inside.opened.value (seated_of me'.0).log).phase
goes_on a me' word at learns =
    let s = a.self.inside in
    let p : Private = record_of a.args.board.now.table.shared.key.value s.seat.me in
    let start : Start = record { work = works.Poll; from = a.from-from.result } in
    let opened = opened_on a.args.board.now.table.shared.key.value s.opened.value s.seat.me me' (beats (Some start) word) (starts a).owned.opened at in
    let is = ap (λ (q : Private). told q (seated_of me'.0).log) opened ∙ learns in
    let c = counted p (Some start) word (starts a).goes (starts a).owned.stands.between in
    (ap work_of is ∙ c.work ∙ begun_work p works.Poll a.from-from.result, subst (λ (q : Private). IsTold q.phase) (sym is) c.told)

pub cross-requires-clause-work : goal.cross-requires-clause-work
cross-requires-clause-work c = (goes_on (goal.at.cross-requires-clause-work c).After-from-from c.perform-requested.new.seat.me c.perform-requested.result c.perform-requested.ensures.me c.perform-requested.ensures.learns).0

pub cross-requires-clause-told : goal.cross-requires-clause-told
cross-requires-clause-told c = (goes_on (goal.at.cross-requires-clause-told c).After-from-from c.perform-requested.new.seat.me c.perform-requested.result c.perform-requested.ensures.me c.perform-requested.ensures.learns).1

pub returns : goal.returns
returns c =
    let a : After-from-from = (goal.at.returns c).After-from-from in
    let s = c.self.inside in
    let o = (starts a).owned in
    let h : MutatorView = c.args.self.now in
    let now : Private = mutator_now h in
    let start : Start = record { work = works.Poll; from = c.from-from.result } in
    let same = o.machine ∙ sym o.now in
    let v : MutatorView = mutator_view c.perform-requested.new.seat.table_id s.opened.value (seated_of c.perform-requested.new.seat.me.0) in
    let grows : v ≡ record h { log = h.log ++ beats (Some start) c.perform-requested.result }
    = seen_on s.seat.table_id c.perform-requested.new.seat.table_id s.opened.value s.seat.me c.perform-requested.new.seat.me h (beats (Some start) c.perform-requested.result) c.perform-requested.ensures.seat.0 c.self.view_is c.perform-requested.ensures.me in
    let once = path_once h v works.Poll c.from-from.result c.perform-requested.result c.requires.may
    (subst (λ (p : Private). c.from-from.result < p.slots) same (starts a).low) (subst (λ (p : Private). IsBetween p.phase) same c.self.invariant.4) (subst (λ (p : Private). IsMachine (begun_of p works.Poll c.from-from.result)) same (starts a).begun) grows in
    polled_path h c.cross.new.self c.from-from.result c.cross.result (c.cross.ensures.path start now h.log refl once.0) (c.cross.ensures.grows h.log once.1)
    (c.cross.ensures.is ∙ (λ k. record (grows k) { log = c.cross.new.self.log })) c.cross.ensures.answer
    (keeps_on now (mutator_now v) (mutator_now c.cross.new.self) once.3 c.cross.ensures.same)
