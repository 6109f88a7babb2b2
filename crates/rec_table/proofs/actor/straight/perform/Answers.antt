-- The contract of `perform`: makes the atomic operation of a step that moves no mailbox.
use Rattle.std.proofs.Common.{◌<◌, [], length, refl, sym, ap, subst, ◌∙◌, arith}
use Rattle.rec_table.specs.Straight.{Stands, record_of}
use Rattle.rec_table.proofs.Common.{Op, Private, Core, mutator, index_of, ready, seated_of, Mutates}
use Rattle.rec_table.proofs.Acting.{ready_names}
use Rattle.rec_table.proofs.Making.{keeps_on, plain_phase, ready_between, ready_hands, ready_keeps}
use Rattle.rec_table.proofs.Straight.{after_plain, learns_on, stands_on}
use Rattle.rec_table.proofs.Within.{there}
use Rattle.rec_table.proofs.actor.straight.perform.Goals as goal

pub make-requires-clause-seat : goal.make-requires-clause-seat
make-requires-clause-seat c =
    let key : Core = c.args.board.now.table.shared.key.value in
    let t = seated_of c.args.seat.now.me.0 in
    c.requires.stands.seat ∙ (λ k. (Mutates t, ready_hands t (record_of key c.args.seat.now.me) c.args.work c.requires.may k))

pub make-requires-clause-actor : goal.make-requires-clause-actor
make-requires-clause-actor c = refl

pub make-requires-clause-work : goal.make-requires-clause-work
make-requires-clause-work c = (refl, c.requires.may)

pub make-requires-clause-between : goal.make-requires-clause-between
make-requires-clause-between c = ready_between (record_of c.args.board.now.table.shared.key.value c.args.seat.now.me) c.args.work c.requires.stands.between

pub make-requires-clause-op : goal.make-requires-clause-op
make-requires-clause-op c = c.requires.op

pub make-requires-clause-there : goal.make-requires-clause-there
make-requires-clause-there c =
    let key : Core = c.args.board.now.table.shared.key.value in
    let t = seated_of c.args.seat.now.me.0 in
    let p : Private = record_of key c.args.seat.now.me in
    let q : Private = ready p c.args.work in
    let wide = c.args.board.now.wide in
    subst (λ (o : Op). index_of (length key.words) (length key.headers) o < c.args.board.now.table.shared.table_id.words) (sym c.requires.op)
    (there key t.number (mutator key t.number) q c.args.board.now.table.shared.table_id.words c.requires.world c.requires.stands.owner refl
    (keeps_on (mutator key t.number) p q c.requires.stands.same (ready_keeps p c.args.work)) c.requires.machine (ready_names p c.args.work c.requires.stands.names) (omega (arith, wide.0, wide.1, wide.2)))

pub returns-clause-me : goal.returns-clause-me
returns-clause-me c =
    let key : Core = c.args.board.now.table.shared.key.value in
    let t = seated_of c.args.seat.now.me.0 in
    let q : Private = ready (record_of key c.args.seat.now.me) c.args.work in
    c.make.ensures.view ∙ after_plain t q c.args.work c.make.result (plain_phase q c.args.op c.requires.op (ready_between (record_of key c.args.seat.now.me) c.args.work c.requires.stands.between) c.requires.plain)

pub returns-clause-stands : goal.returns-clause-stands
returns-clause-stands c =
    let key : Core = c.args.board.now.table.shared.key.value in
    let t = seated_of c.args.seat.now.me.0 in
    let q : Private = ready (record_of key c.args.seat.now.me) c.args.work in
    subst (Stands key) (sym (c.make.ensures.view ∙ after_plain t q c.args.work c.make.result (plain_phase q c.args.op c.requires.op (ready_between (record_of key c.args.seat.now.me) c.args.work c.requires.stands.between) c.requires.plain)))
    (stands_on key c.args.seat.now.me c.args.work c.args.op c.make.result c.requires.stands c.requires.may c.requires.op c.requires.plain c.make.ensures.names)

pub returns-clause-learns : goal.returns-clause-learns
returns-clause-learns c =
    let key : Core = c.args.board.now.table.shared.key.value in
    let t = seated_of c.args.seat.now.me.0 in
    let q : Private = ready (record_of key c.args.seat.now.me) c.args.work in
    ap (record_of key) (c.make.ensures.view ∙ after_plain t q c.args.work c.make.result (plain_phase q c.args.op c.requires.op (ready_between (record_of key c.args.seat.now.me) c.args.work c.requires.stands.between) c.requires.plain))
    ∙ learns_on key t [] c.args.work c.make.result

pub returns-clause-found : goal.returns-clause-found
returns-clause-found c = c.make.ensures.found
