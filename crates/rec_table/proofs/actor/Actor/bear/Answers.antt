-- The contract of `Actor::bear`: a birth, where the log has room.
use Rattle.std.proofs.Common.{◌≡◌, ℕ, ◌<◌, ◌++◌, if◌then◌else◌, Bool, Option, Some, None, false, refl, sym, ap, subst, ◌∙◌, ne_eqb, arith}
use Rattle.atomic_table.specs.Table.{Me}
use Rattle.rec_word.specs.declared.op.Op.TheVariants as ops
use Rattle.rec_model.specs.Asking.{allocation, plain}
use Rattle.rec_model.specs.declared.answer.Answer.TheVariants as answers
use Rattle.rec_model.specs.declared.command.Cmd.{Cmd}
use Rattle.rec_mutator.specs.Next.{next_of}
use Rattle.rec_mutator.specs.declared.work.Work.{Work}
use Rattle.rec_mutator.specs.declared.work.Work.TheVariants as works
use Rattle.rec_mutator.proofs.Straight.{begun_machine, scanning, scans_machine}
use Rattle.rec_table.specs.Rule.{MayBegin}
use Rattle.rec_table.specs.Straight.{Path, record_of}
use Rattle.rec_table.specs.declared.start.Start.{Start}
use Rattle.rec_table.proofs.Common.{Private, IsBetween, IsMachine, Contents, Core, is_full, KeepsSizes, IsTold, Works, answer_of, births_of, is_busy, work_of, begun_of, told, mutator_now, mutator_view, MutatorView, Saw, beats, MayGo, learnt, seated_of, View}
use Rattle.rec_table.proofs.Making.{counted, keeps_on}
use Rattle.rec_table.proofs.Straight.{awake, Owns, answered_idle, born_first, born_last, born_mid, born_second, carried_path, carried_twice, path_twice, works_twice, kept_by, none_born, one_born, opened_on, owns, seen_on}
use Rattle.rec_table.proofs.actor.Actor.bear.Goals as goal
use Rattle.rec_table.proofs.actor.Actor.bear.Goals.{After-pack-header}

abbrev key : (c : After-pack-header) → Core
key c = c.args.board.now.table.shared.key.value

owned : (c : After-pack-header) → Owns (key c) c.self.inside.opened.value c.self.inside.machine c.self.inside.seat.me c.args.self.now
owned c = owns c.args.board.now.table.shared.table_id c.self.inside.seat.table_id (key c) c.self.inside.opened.value c.self.inside.machine c.self.inside.seat.me c.args.self.now c.self.view_is c.requires.own c.self.invariant.0 c.self.invariant.1 c.self.invariant.2 c.self.invariant.3 c.self.invariant.4

abbrev work : (c : After-pack-header) → Work
work c = works.Command (allocation c.args.leaf c.args.reg c.args.label)

begins : (c : After-pack-header) → works.Command c.allocation.result ≡ work c
begins c = ap (λ (cmd : Cmd). works.Command cmd) c.allocation.ensures

may : (c : After-pack-header) → MayBegin c.self.inside.machine (work c)
may c = subst (λ (p : Private). MayBegin p (work c)) ((owned c).now ∙ sym (owned c).machine) c.requires.may

low : (c : After-pack-header) → c.args.from < c.self.inside.machine.slots
low c = subst (λ (p : Private). c.args.from < p.slots) ((owned c).now ∙ sym (owned c).machine) c.requires.from

room : (c : After-pack-header) → is_full c.self.inside.machine ≡ false
room c = ap is_full ((owned c).machine ∙ sym (owned c).now) ∙ c.requires.room

begun : (a : After-pack-header) → IsMachine a.self.inside.machine → IsMachine (begun_of a.self.inside.machine (work a) a.args.from)
begun a m = begun_machine a.self.inside.machine (work a) a.args.from m (may a).2 (may a).1 (low a)

goes : (a : After-pack-header) → MayGo (record_of (key a) a.self.inside.seat.me) (Some (record { work = works.Command a.allocation.result; from = a.args.from }))
goes a =
    subst (λ (w : Work). MayGo (record_of (key a) a.self.inside.seat.me) (Some (record { work = w; from = a.args.from }))) (sym (begins a))
    (subst (λ (p : Private). MayGo p (Some (record { work = work a; from = a.args.from }))) (owned a).machine ((may a).0, (may a).1, (may a).2, (may a).3, low a))

pub perform-before-requires-clause-stands : goal.perform-before-requires-clause-stands
perform-before-requires-clause-stands c = let a : After-pack-header = (goal.at.perform-before-requires-clause-stands c).After-pack-header in (owned a).stands

pub perform-before-requires-clause-may : goal.perform-before-requires-clause-may
perform-before-requires-clause-may c = goes (goal.at.perform-before-requires-clause-may c).After-pack-header

pub perform-before-requires-clause-machine : goal.perform-before-requires-clause-machine
perform-before-requires-clause-machine c =
    let a : After-pack-header = (goal.at.perform-before-requires-clause-machine c).After-pack-header in
    subst (λ (w : Work). IsMachine (begun_of (record_of (key a) c.self.inside.seat.me) w c.args.from)) (sym (begins a))
    (subst (λ (p : Private). IsMachine (begun_of p (work a) c.args.from)) (owned a).machine (begun a c.steps-steps.ensures.kept))

-- the first operation is the one that comes next
first : (a : After-pack-header) → ops.LoadFreed ≡ next_of (begun_of (record_of (key a) a.self.inside.seat.me) (works.Command a.allocation.result) a.args.from)
first a =
    born_first a.self.inside.machine a.args.reg a.args.label a.args.leaf a.args.from (room a)
    ∙ ap (λ (p : Private). next_of (begun_of p (work a) a.args.from)) (owned a).machine
    ∙ ap (λ (w : Work). next_of (begun_of (record_of (key a) a.self.inside.seat.me) w a.args.from)) (sym (begins a))

pub perform-before-requires-clause-op : goal.perform-before-requires-clause-op
perform-before-requires-clause-op c = first (goal.at.perform-before-requires-clause-op c).After-pack-header

-- the record behind the first step
learns : (a : After-pack-header) (me' : Me (Option Contents) View) (before : ℕ) → record_of (key a) me' ≡ learnt (begun_of (record_of (key a) a.self.inside.seat.me) (works.Command a.allocation.result) a.args.from) (Saw before)
    → record_of (key a) me' ≡ learnt (begun_of (record_of (key a) a.self.inside.seat.me) (work a) a.args.from) (Saw before)
learns a me' before is = is ∙ ap (λ (w : Work). learnt (begun_of (record_of (key a) a.self.inside.seat.me) w a.args.from) (Saw before)) (begins a)

mid : (a : After-pack-header) (me' : Me (Option Contents) View) (before : ℕ) → record_of (key a) me' ≡ learnt (begun_of (record_of (key a) a.self.inside.seat.me) (works.Command a.allocation.result) a.args.from) (Saw before)
    → scanning a.self.inside.machine a.args.reg a.args.label a.args.leaf a.args.from before ≡ record_of (key a) me'
mid a me' before is = born_mid (key a) a.self.inside.seat.me me' a.self.inside.machine a.args.reg a.args.label a.args.leaf a.args.from before (owned a).machine (room a) (learns a me' before is)

pub perform-found-requires-clause-may : goal.perform-found-requires-clause-may
perform-found-requires-clause-may c =
    let a : After-pack-header = (goal.at.perform-found-requires-clause-may c).After-pack-header in
    ap is_busy (sym (mid a c.perform-before.new.seat.me c.perform-before.result c.perform-before.ensures.learns))

pub perform-found-requires-clause-machine : goal.perform-found-requires-clause-machine
perform-found-requires-clause-machine c =
    let a : After-pack-header = (goal.at.perform-found-requires-clause-machine c).After-pack-header in
    subst IsMachine (mid a c.perform-before.new.seat.me c.perform-before.result c.perform-before.ensures.learns)
    (scans_machine c.self.inside.machine c.args.reg c.args.label c.args.leaf c.args.from c.perform-before.result (begun a c.steps-steps.ensures.kept) (room a))

pub perform-found-requires-clause-op : goal.perform-found-requires-clause-op
perform-found-requires-clause-op c =
    let a : After-pack-header = (goal.at.perform-found-requires-clause-op c).After-pack-header in
    born_second c.self.inside.machine c.args.reg c.args.label c.args.leaf c.args.from c.perform-before.result c.pack-header.result (low a) c.pack-header.ensures.word
    ∙ ap next_of (mid a c.perform-before.new.seat.me c.perform-before.result c.perform-before.ensures.learns)

pub bore-requires-clause-idle : goal.bore-requires-clause-idle
bore-requires-clause-idle c = (may (goal.at.bore-requires-clause-idle c).After-pack-header).0

pub bore-requires-clause-awake : goal.bore-requires-clause-awake
bore-requires-clause-awake c = let a : After-pack-header = (goal.at.bore-requires-clause-awake c).After-pack-header in awake c.requires.world (owned a)

pub bore-requires-clause-stays : goal.bore-requires-clause-stays
bore-requires-clause-stays c = (may (goal.at.bore-requires-clause-stays c).After-pack-header).1

pub bore-requires-clause-valid : goal.bore-requires-clause-valid
bore-requires-clause-valid c = (may (goal.at.bore-requires-clause-valid c).After-pack-header).2

pub bore-requires-clause-room : goal.bore-requires-clause-room
bore-requires-clause-room c = room (goal.at.bore-requires-clause-room c).After-pack-header

pub bore-requires-clause-from : goal.bore-requires-clause-from
bore-requires-clause-from c = low (goal.at.bore-requires-clause-from c).After-pack-header

pub lost-requires-clause-idle : goal.lost-requires-clause-idle
lost-requires-clause-idle c = (may (goal.at.lost-requires-clause-idle c).After-pack-header).0

pub lost-requires-clause-awake : goal.lost-requires-clause-awake
lost-requires-clause-awake c = let a : After-pack-header = (goal.at.lost-requires-clause-awake c).After-pack-header in awake c.requires.world (owned a)

pub lost-requires-clause-stays : goal.lost-requires-clause-stays
lost-requires-clause-stays c = (may (goal.at.lost-requires-clause-stays c).After-pack-header).1

pub lost-requires-clause-valid : goal.lost-requires-clause-valid
lost-requires-clause-valid c = (may (goal.at.lost-requires-clause-valid c).After-pack-header).2

pub lost-requires-clause-room : goal.lost-requires-clause-room
lost-requires-clause-room c = room (goal.at.lost-requires-clause-room c).After-pack-header

pub lost-requires-clause-from : goal.lost-requires-clause-from
lost-requires-clause-from c = low (goal.at.lost-requires-clause-from c).After-pack-header

-- The claim was won.
pub invariant_of-self : goal.invariant_of-self
invariant_of-self c =
    let a : After-pack-header = (goal.at.invariant_of-self c).After-pack-header in
    let s = c.self.inside in
    let o = owned a in
    let me = c.perform-before.new.seat.me in
    let me' = c.perform-found.new.seat.me in
    let start : Start = record { work = works.Command c.allocation.result; from = c.args.from } in
    let zero : c.perform-found.result ≡ 0 = omega (arith, c.if-found-eq0.true) in
    let opened = opened_on (key a) s.opened.value s.seat.me me (beats (Some start) c.perform-before.result) o.opened c.perform-before.ensures.me in
    let behind = mid a me c.perform-before.result c.perform-before.ensures.learns in
    kept_by (key a) s.opened.value c.bore.new.self me' _
    (opened_on (key a) s.opened.value me me' (beats None c.perform-found.result) opened c.perform-found.ensures.me)
    (born_last (key a) s.seat.me me me' s.machine c.bore.new.self c.args.reg c.args.label c.args.leaf c.args.from c.perform-before.result 0 o.machine (room a) (learns a me c.perform-before.result c.perform-before.ensures.learns)
    (c.perform-found.ensures.learns ∙ ap (λ n. learnt (record_of (key a) me) (Saw n)) zero) c.bore.ensures.took)
    c.perform-found.ensures.stands
    (one_born (key a) s.opened.value me me' (ops.ClaimHeader c.args.from c.pack-header.result) c.perform-found.result s.births _ opened
    (born_second s.machine c.args.reg c.args.label c.args.leaf c.args.from c.perform-before.result c.pack-header.result (low a) c.pack-header.ensures.word ∙ ap next_of behind)
    (ap (λ n. births_of (ops.ClaimHeader c.args.from c.pack-header.result) n) zero) c.perform-found.ensures.me
    (none_born (key a) s.opened.value s.seat.me me (Some start) ops.LoadFreed c.perform-before.result s.births o.opened (first a) refl c.perform-before.ensures.me c.self.invariant.5)
    refl)

pub returns-then-found-eq0 : goal.returns-then-found-eq0
returns-then-found-eq0 c =
    let a : After-pack-header = (goal.at.returns-then-found-eq0 c).After-pack-header in
    let s = c.self.inside in
    let o = owned a in
    let from : ℕ = c.args.from in
    let start : Start = record { work = works.Command c.allocation.result; from = from } in
    let same = o.machine ∙ sym o.now in
    let now : Private = mutator_now c.args.self.now in
    let behind = mid a c.perform-before.new.seat.me c.perform-before.result c.perform-before.ensures.learns in
    let learnt_now : record_of (key a) c.perform-before.new.seat.me ≡ learnt (begun_of now (work a) from) (Saw c.perform-before.result)
    = learns a c.perform-before.new.seat.me c.perform-before.result c.perform-before.ensures.learns ∙ ap (λ (p : Private). learnt (begun_of p (work a) from) (Saw c.perform-before.result)) (sym o.now) in
    let one = seen_on s.seat.table_id c.perform-before.new.seat.table_id s.opened.value s.seat.me c.perform-before.new.seat.me c.args.self.now (beats (Some start) c.perform-before.result) c.perform-before.ensures.seat.0 c.self.view_is c.perform-before.ensures.me
    ∙ (λ k. record c.args.self.now { log = c.args.self.now.log ++ beats (Some (record { work = begins a k; from = from })) c.perform-before.result }) in
    let grows = seen_on c.perform-before.new.seat.table_id c.perform-found.new.seat.table_id s.opened.value c.perform-before.new.seat.me c.perform-found.new.seat.me _ (beats None c.perform-found.result) c.perform-found.ensures.seat.0 one c.perform-found.ensures.me in
    let machine = begun a c.steps-steps.ensures.kept in
    let carried = carried_twice c.args.self.now _ (allocation c.args.leaf c.args.reg c.args.label) from c.perform-before.result c.perform-found.result (learnt (begun_of now (work a) from) (Saw c.perform-before.result)) (plain answers.Done) c.requires.may
    (subst (λ (p : Private). from < p.slots) same (low a)) (subst (λ (p : Private). IsBetween p.phase) same c.self.invariant.4) (subst (λ (p : Private). IsMachine (begun_of p (work a) from)) same machine)
    refl
    (subst IsMachine (behind ∙ learnt_now) (scans_machine s.machine c.args.reg c.args.label c.args.leaf from c.perform-before.result machine (room a)))
    (ap is_busy (sym (behind ∙ learnt_now)))
    grows
    (ap answer_of (sym (invariant_of-self c).1) ∙ c.bore.ensures.answer)
    (ap is_busy (sym (invariant_of-self c).1) ∙ answered_idle c.bore.new.self _ c.bore.ensures.answer) in
    record { told = plain answers.Done; answers = refl; carried = carried }

-- The claim was lost: the scan goes on.
pub invariant_of-self-2 : goal.invariant_of-self-2
invariant_of-self-2 c =
    let a : After-pack-header = (goal.at.invariant_of-self-2 c).After-pack-header in
    let s = c.self.inside in
    let o = owned a in
    let me = c.perform-before.new.seat.me in
    let me' = c.perform-found.new.seat.me in
    let start : Start = record { work = works.Command c.allocation.result; from = c.args.from } in
    let opened = opened_on (key a) s.opened.value s.seat.me me (beats (Some start) c.perform-before.result) o.opened c.perform-before.ensures.me in
    let behind = mid a me c.perform-before.result c.perform-before.ensures.learns in
    kept_by (key a) s.opened.value c.lost.new.self me' s.births
    (opened_on (key a) s.opened.value me me' (beats None c.perform-found.result) opened c.perform-found.ensures.me)
    (born_last (key a) s.seat.me me me' s.machine c.lost.new.self c.args.reg c.args.label c.args.leaf c.args.from c.perform-before.result c.perform-found.result o.machine (room a) (learns a me c.perform-before.result c.perform-before.ensures.learns) c.perform-found.ensures.learns c.lost.ensures.took)
    c.perform-found.ensures.stands
    (none_born (key a) s.opened.value me me' None (ops.ClaimHeader c.args.from c.pack-header.result) c.perform-found.result s.births opened
    (born_second s.machine c.args.reg c.args.label c.args.leaf c.args.from c.perform-before.result c.pack-header.result (low a) c.pack-header.ensures.word ∙ ap next_of behind)
    (ap (λ (b : Bool). if b then 1 else 0) (ne_eqb c.perform-found.result 0 c.if-found-eq0.false)) c.perform-found.ensures.me
    (none_born (key a) s.opened.value s.seat.me me (Some start) ops.LoadFreed c.perform-before.result s.births o.opened (first a) refl c.perform-before.ensures.me c.self.invariant.5))

pub search-requires-clause-work : goal.search-requires-clause-work
search-requires-clause-work c =
    let a : After-pack-header = (goal.at.search-requires-clause-work c).After-pack-header in
    let s = c.self.inside in
    let me = c.perform-before.new.seat.me in
    let me' = c.perform-found.new.seat.me in
    let behind = mid a me c.perform-before.result c.perform-before.ensures.learns in
    let opened = opened_on (key a) s.opened.value me me' (beats None c.perform-found.result) (opened_on (key a) s.opened.value s.seat.me me _ (owned a).opened c.perform-before.ensures.me) c.perform-found.ensures.me in
    let is = ap (λ (q : Private). told q (seated_of me'.0).log) opened ∙ c.perform-found.ensures.learns in
    ap work_of is ∙ (counted (record_of (key a) me) None c.perform-found.result (ap is_busy (sym behind)) c.perform-before.ensures.stands.between).work ∙ ap work_of (sym behind) ∙ ap (λ (w : Work). Some w) (sym (begins a))

pub search-requires-clause-told : goal.search-requires-clause-told
search-requires-clause-told c =
    let a : After-pack-header = (goal.at.search-requires-clause-told c).After-pack-header in
    let s = c.self.inside in
    let me = c.perform-before.new.seat.me in
    let me' = c.perform-found.new.seat.me in
    let behind = mid a me c.perform-before.result c.perform-before.ensures.learns in
    let opened = opened_on (key a) s.opened.value me me' (beats None c.perform-found.result) (opened_on (key a) s.opened.value s.seat.me me _ (owned a).opened c.perform-before.ensures.me) c.perform-found.ensures.me in
    let is = ap (λ (q : Private). told q (seated_of me'.0).log) opened ∙ c.perform-found.ensures.learns in
    subst (λ (q : Private). IsTold q.phase) (sym is) (counted (record_of (key a) me) None c.perform-found.result (ap is_busy (sym behind)) c.perform-before.ensures.stands.between).told

pub returns : goal.returns
returns c =
    let a : After-pack-header = (goal.at.returns c).After-pack-header in
    let s = c.self.inside in
    let o = owned a in
    let h : MutatorView = c.args.self.now in
    let from : ℕ = c.args.from in
    let cmd : Cmd = allocation c.args.leaf c.args.reg c.args.label in
    let start : Start = record { work = works.Command c.allocation.result; from = from } in
    let same = o.machine ∙ sym o.now in
    let now : Private = mutator_now h in
    let behind = mid a c.perform-before.new.seat.me c.perform-before.result c.perform-before.ensures.learns in
    let learnt_now : record_of (key a) c.perform-before.new.seat.me ≡ learnt (begun_of now (work a) from) (Saw c.perform-before.result)
    = learns a c.perform-before.new.seat.me c.perform-before.result c.perform-before.ensures.learns ∙ ap (λ (p : Private). learnt (begun_of p (work a) from) (Saw c.perform-before.result)) (sym o.now) in
    let one = seen_on s.seat.table_id c.perform-before.new.seat.table_id s.opened.value s.seat.me c.perform-before.new.seat.me h (beats (Some start) c.perform-before.result) c.perform-before.ensures.seat.0 c.self.view_is c.perform-before.ensures.me
    ∙ (λ k. record h { log = h.log ++ beats (Some (record { work = begins a k; from = from })) c.perform-before.result }) in
    let grows = seen_on c.perform-before.new.seat.table_id c.perform-found.new.seat.table_id s.opened.value c.perform-before.new.seat.me c.perform-found.new.seat.me _ (beats None c.perform-found.result) c.perform-found.ensures.seat.0 one c.perform-found.ensures.me in
    let machine = begun a c.steps-steps.ensures.kept in
    let twice = path_twice h cmd from c.perform-before.result c.perform-found.result (learnt (begun_of now (work a) from) (Saw c.perform-before.result)) c.requires.may
    (subst (λ (p : Private). from < p.slots) same (low a)) (subst (λ (p : Private). IsBetween p.phase) same c.self.invariant.4) (subst (λ (p : Private). IsMachine (begun_of p (work a) from)) same machine)
    refl
    (subst IsMachine (behind ∙ learnt_now) (scans_machine s.machine c.args.reg c.args.label c.args.leaf from c.perform-before.result machine (room a)))
    (ap is_busy (sym (behind ∙ learnt_now))) in
    let v : MutatorView = mutator_view c.perform-found.new.seat.table_id s.opened.value (seated_of c.perform-found.new.seat.me.0) in
    let told = c.search.ensures.answer.0 in
    let tells_it = c.search.ensures.answer.1 in
    let carried = carried_path h c.search.new.self cmd from told c.requires.may.1
    (c.search.ensures.path (record { work = work a; from = from }) now h.log (sym (begins a)) (subst (λ (x : MutatorView). Path (record { work = work a; from = from }) now h.log x.log (mutator_now x)) (sym grows) twice.0))
    (subst (λ (w : Work). Works w h.log c.search.new.self.log) (begins a) (c.search.ensures.grows h.log (subst (λ (x : Work × MutatorView). Works x.0 h.log x.1.log) (λ k. (sym (begins a) k, sym grows k)) (works_twice h cmd from c.perform-before.result c.perform-found.result))))
    (c.search.ensures.is ∙ (λ k. record (grows k) { log = c.search.new.self.log }))
    tells_it
    (answered_idle (mutator_now c.search.new.self) _ tells_it)
    (keeps_on now (mutator_now v) (mutator_now c.search.new.self) (subst (λ (x : MutatorView). KeepsSizes now (mutator_now x)) (sym grows) twice.1) c.search.ensures.same) in
    (told, carried)

pub search-requires-clause-command : goal.search-requires-clause-command
search-requires-clause-command c = (c.allocation.result, refl)
