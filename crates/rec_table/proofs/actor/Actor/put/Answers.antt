-- The contract of `Actor::put`: a write of a field, where there is an object and the log has room.
use Rattle.std.proofs.Common.{◌≡◌, ℕ, ◌<◌, Option, Some, None, false, refl, sym, ap, subst, ◌∙◌}
use Rattle.atomic_table.specs.Table.{Me}
use Rattle.rec_word.specs.Header.{is_leaf, IsTakenHeader}
use Rattle.rec_word.specs.Place.{place_of}
use Rattle.rec_word.specs.declared.op.Op.TheVariants as ops
use Rattle.rec_model.specs.declared.command.Cmd.TheVariants as commands
use Rattle.rec_model.specs.Asking.{plain}
use Rattle.rec_model.specs.declared.answer.Answer.TheVariants as answers
use Rattle.rec_model.specs.declared.told.Told.{Told}
use Rattle.rec_mutator.specs.Next.{next_of, next_at, write_op}
use Rattle.rec_mutator.specs.Private.{word_for}
use Rattle.rec_mutator.specs.declared.work.Work.{Work}
use Rattle.rec_mutator.specs.declared.work.Work.TheVariants as works
use Rattle.rec_mutator.proofs.Straight.{looked_is, looked_machine, storing}
use Rattle.rec_table.specs.Straight.{record_of}
use Rattle.rec_table.specs.declared.start.Start.{Start}
use Rattle.rec_table.proofs.Common.{Private, IsBetween, IsMachine, Contents, is_full, register, answer_of, is_busy, begun_of, took_of, mutator_now, Saw, beats, learnt, View}
use Rattle.rec_table.proofs.Straight.{awake, answered_idle, carried_once, carried_twice, kept_by, learns_first, learns_second, none_born, opened_on, owns, seen_on, Begins, begins}
use Rattle.rec_table.proofs.actor.Actor.put.Goals as goal
use Rattle.rec_table.proofs.actor.Actor.put.Goals.{After-from-from}

abbrev work : (c : After-from-from) → Work
work c = works.Command (commands.Put c.args.src c.args.field c.args.val)

starts : (c : After-from-from) → Begins c.args.board.now.table.shared.key.value c.self.inside.opened.value c.self.inside.machine c.self.inside.seat.me c.args.self.now (work c) c.from-from.result
starts c = begins c.args.board.now.table.shared.key.value c.self.inside.opened.value c.self.inside.machine c.self.inside.seat.me c.args.self.now (work c) c.from-from.result
    (owns c.args.board.now.table.shared.table_id c.self.inside.seat.table_id c.args.board.now.table.shared.key.value c.self.inside.opened.value c.self.inside.machine c.self.inside.seat.me c.args.self.now c.self.view_is c.requires.own c.self.invariant.0 c.self.invariant.1 c.self.invariant.2 c.self.invariant.3 c.self.invariant.4)
    c.requires.may c.from-from.ensures.from c.from-from.ensures.kept

object : (c : After-from-from) → register c.self.inside.machine c.args.src ≡ Some c.in-Some.slot
object c = sym c.register.ensures ∙ c.in-Some.is

room : (c : After-from-from) → is_full c.self.inside.machine ≡ false
room c = ap is_full ((starts c).owned.machine ∙ sym (starts c).owned.now) ∙ c.requires.room

-- the first operation is the one that comes next
next : (p : Private) (src f val slot from : ℕ) → register p src ≡ Some slot → is_full p ≡ false → ops.LoadHeader slot ≡ next_of (begun_of p (works.Command (commands.Put src f val)) from)
unfolding next_of next_at begun_of
next p src f val slot from object room = sym (λ i. write_op p (object i) (room i))

-- and so is the second one
second : (p : Private) (src f val slot place left : ℕ) → place ≡ place_of slot f p.fields → left ≡ word_for p val → ops.SwapField place left ≡ next_of (storing p src f val slot)
unfolding next_of next_at
second p src f val slot place left stands leads = λ i. ops.SwapField (stands i) (leads i)

pub perform-header-requires-clause-stands : goal.perform-header-requires-clause-stands
perform-header-requires-clause-stands c =
    let a : After-from-from = (goal.at.perform-header-requires-clause-stands c).After-from-from in
    (starts a).owned.stands

pub perform-header-requires-clause-may : goal.perform-header-requires-clause-may
perform-header-requires-clause-may c =
    let a : After-from-from = (goal.at.perform-header-requires-clause-may c).After-from-from in
    (starts a).goes

pub perform-header-requires-clause-machine : goal.perform-header-requires-clause-machine
perform-header-requires-clause-machine c =
    let a : After-from-from = (goal.at.perform-header-requires-clause-machine c).After-from-from in
    subst (λ (p : Private). IsMachine (begun_of p (work a) a.from-from.result)) (starts a).owned.machine (starts a).begun

-- the first operation, of the record that the list makes up
first : (a : After-from-from) → ops.LoadHeader a.in-Some.slot ≡ next_of (begun_of (record_of a.args.board.now.table.shared.key.value a.self.inside.seat.me) (work a) a.from-from.result)
first a =
    next a.self.inside.machine a.args.src a.args.field a.args.val a.in-Some.slot a.from-from.result (object a) (room a)
    ∙ ap (λ (p : Private). next_of (begun_of p (work a) a.from-from.result)) (starts a).owned.machine

pub perform-header-requires-clause-op : goal.perform-header-requires-clause-op
perform-header-requires-clause-op c = first (goal.at.perform-header-requires-clause-op c).After-from-from

-- the record behind the first step, where the object is no leaf
mid : (a : After-from-from) (me' : Me (Option Contents) View) (header : ℕ) → is_leaf header ≡ false → record_of a.args.board.now.table.shared.key.value me' ≡ learnt (begun_of (record_of a.args.board.now.table.shared.key.value a.self.inside.seat.me) (work a) a.from-from.result) (Saw header)
    → storing a.self.inside.machine a.args.src a.args.field a.args.val a.in-Some.slot ≡ record_of a.args.board.now.table.shared.key.value me'
mid a me' header no_leaf learns =
    let m : Private = a.self.inside.machine in
    sym (looked_is m a.args.src a.args.field a.args.val a.in-Some.slot header (object a) (room a) no_leaf)
    ∙ learns_first (record_of a.args.board.now.table.shared.key.value a.self.inside.seat.me) m (took_of (begun_of m (work a) m.from) header) (work a) a.from-from.result header (starts a).owned.machine a.from-from.ensures.from refl
    ∙ sym learns

begun_here : (a : After-from-from) → IsMachine (begun_of a.self.inside.machine (work a) a.self.inside.machine.from)
begun_here a = subst (λ n. IsMachine (begun_of a.self.inside.machine (work a) n)) a.from-from.ensures.from (starts a).begun

mid_machine : (a : After-from-from) (me' : Me (Option Contents) View) (header : ℕ) → IsTakenHeader header × (is_leaf header ≡ false) → record_of a.args.board.now.table.shared.key.value me' ≡ learnt (begun_of (record_of a.args.board.now.table.shared.key.value a.self.inside.seat.me) (work a) a.from-from.result) (Saw header) → IsMachine (record_of a.args.board.now.table.shared.key.value me')
mid_machine a me' header found learns =
    subst IsMachine (mid a me' header found.1 learns) (looked_machine a.self.inside.machine a.args.src a.args.field a.args.val a.in-Some.slot header (begun_here a) (object a) (room a) found)

pub barred-requires-clause-idle : goal.barred-requires-clause-idle
barred-requires-clause-idle c = let a : After-from-from = (goal.at.barred-requires-clause-idle c).After-from-from in (starts a).may.0

pub barred-requires-clause-awake : goal.barred-requires-clause-awake
barred-requires-clause-awake c = let a : After-from-from = (goal.at.barred-requires-clause-awake c).After-from-from in awake c.requires.world (starts a).owned

pub barred-requires-clause-stays : goal.barred-requires-clause-stays
barred-requires-clause-stays c = let a : After-from-from = (goal.at.barred-requires-clause-stays c).After-from-from in (starts a).may.1

pub barred-requires-clause-valid : goal.barred-requires-clause-valid
barred-requires-clause-valid c = let a : After-from-from = (goal.at.barred-requires-clause-valid c).After-from-from in (starts a).may.2

pub barred-requires-clause-object : goal.barred-requires-clause-object
barred-requires-clause-object c = let a : After-from-from = (goal.at.barred-requires-clause-object c).After-from-from in object a

pub barred-requires-clause-room : goal.barred-requires-clause-room
barred-requires-clause-room c = let a : After-from-from = (goal.at.barred-requires-clause-room c).After-from-from in room a

pub wrote-requires-clause-idle : goal.wrote-requires-clause-idle
wrote-requires-clause-idle c = let a : After-from-from = (goal.at.wrote-requires-clause-idle c).After-from-from in (starts a).may.0

pub wrote-requires-clause-awake : goal.wrote-requires-clause-awake
wrote-requires-clause-awake c = let a : After-from-from = (goal.at.wrote-requires-clause-awake c).After-from-from in awake c.requires.world (starts a).owned

pub wrote-requires-clause-stays : goal.wrote-requires-clause-stays
wrote-requires-clause-stays c = let a : After-from-from = (goal.at.wrote-requires-clause-stays c).After-from-from in (starts a).may.1

pub wrote-requires-clause-valid : goal.wrote-requires-clause-valid
wrote-requires-clause-valid c = let a : After-from-from = (goal.at.wrote-requires-clause-valid c).After-from-from in (starts a).may.2

pub wrote-requires-clause-object : goal.wrote-requires-clause-object
wrote-requires-clause-object c = let a : After-from-from = (goal.at.wrote-requires-clause-object c).After-from-from in object a

pub wrote-requires-clause-room : goal.wrote-requires-clause-room
wrote-requires-clause-room c = let a : After-from-from = (goal.at.wrote-requires-clause-room c).After-from-from in room a

-- A leaf.
pub invariant_of-self : goal.invariant_of-self
invariant_of-self c =
    let a : After-from-from = (goal.at.invariant_of-self c).After-from-from in
    let s = c.self.inside in
    let o = (starts a).owned in
    let start : Start = record { work = work a; from = c.from-from.result } in
    kept_by a.args.board.now.table.shared.key.value s.opened.value c.barred.new.self c.perform-header.new.seat.me s.births
    (opened_on a.args.board.now.table.shared.key.value s.opened.value s.seat.me c.perform-header.new.seat.me (beats (Some start) c.perform-header.result) o.opened c.perform-header.ensures.me)
    (learns_first (record_of a.args.board.now.table.shared.key.value s.seat.me) s.machine c.barred.new.self (work a) c.from-from.result c.perform-header.result o.machine c.from-from.ensures.from c.barred.ensures.took ∙ sym c.perform-header.ensures.learns)
    c.perform-header.ensures.stands
    (none_born a.args.board.now.table.shared.key.value s.opened.value s.seat.me c.perform-header.new.seat.me (Some start) (ops.LoadHeader c.in-Some.slot) c.perform-header.result s.births o.opened (first a) refl c.perform-header.ensures.me c.self.invariant.5)

pub returns-then-unpack : goal.returns-then-unpack
returns-then-unpack c =
    let a : After-from-from = (goal.at.returns-then-unpack c).After-from-from in
    let s = c.self.inside in
    let o = (starts a).owned in
    let start : Start = record { work = work a; from = c.from-from.result } in
    let same = o.machine ∙ sym o.now in
    let grows = seen_on s.seat.table_id c.perform-header.new.seat.table_id s.opened.value s.seat.me c.perform-header.new.seat.me c.args.self.now (beats (Some start) c.perform-header.result) c.perform-header.ensures.seat.0 c.self.view_is c.perform-header.ensures.me in
    let carried = carried_once c.args.self.now _ (commands.Put c.args.src c.args.field c.args.val) c.from-from.result c.perform-header.result (plain answers.NoField) c.requires.may
    (subst (λ (p : Private). c.from-from.result < p.slots) same (starts a).low) (subst (λ (p : Private). IsBetween p.phase) same c.self.invariant.4) (subst (λ (p : Private). IsMachine (begun_of p (work a) c.from-from.result)) same (starts a).begun)
    grows
    (ap answer_of (sym (invariant_of-self c).1) ∙ c.barred.ensures.answer) in
    record { told = plain answers.NoField; answers = refl; carried = carried }

-- No leaf.
pub perform-word-requires-clause-may : goal.perform-word-requires-clause-may
perform-word-requires-clause-may c =
    let a : After-from-from = (goal.at.perform-word-requires-clause-may c).After-from-from in
    ap is_busy (sym (mid a c.perform-header.new.seat.me c.perform-header.result (sym c.unpack.ensures.leaf ∙ c.if-unpack.false) c.perform-header.ensures.learns))

pub perform-word-requires-clause-machine : goal.perform-word-requires-clause-machine
perform-word-requires-clause-machine c =
    let a : After-from-from = (goal.at.perform-word-requires-clause-machine c).After-from-from in
    mid_machine a c.perform-header.new.seat.me c.perform-header.result (c.perform-header.ensures.found, sym c.unpack.ensures.leaf ∙ c.if-unpack.false) c.perform-header.ensures.learns

pub perform-word-requires-clause-op : goal.perform-word-requires-clause-op
perform-word-requires-clause-op c =
    let a : After-from-from = (goal.at.perform-word-requires-clause-op c).After-from-from in
    second c.self.inside.machine c.args.src c.args.field c.args.val c.in-Some.slot c.place_of-place.result c.word_for-left.result c.place_of-place.ensures c.word_for-left.ensures
    ∙ ap next_of (mid a c.perform-header.new.seat.me c.perform-header.result (sym c.unpack.ensures.leaf ∙ c.if-unpack.false) c.perform-header.ensures.learns)

pub invariant_of-self-2 : goal.invariant_of-self-2
invariant_of-self-2 c =
    let a : After-from-from = (goal.at.invariant_of-self-2 c).After-from-from in
    let s = c.self.inside in
    let o = (starts a).owned in
    let start : Start = record { work = work a; from = c.from-from.result } in
    let no_leaf = sym c.unpack.ensures.leaf ∙ c.if-unpack.false in
    let behind = mid a c.perform-header.new.seat.me c.perform-header.result no_leaf c.perform-header.ensures.learns in
    let opened = opened_on a.args.board.now.table.shared.key.value s.opened.value s.seat.me c.perform-header.new.seat.me (beats (Some start) c.perform-header.result) o.opened c.perform-header.ensures.me in
    kept_by a.args.board.now.table.shared.key.value s.opened.value c.wrote.new.self c.perform-word.new.seat.me s.births
    (opened_on a.args.board.now.table.shared.key.value s.opened.value c.perform-header.new.seat.me c.perform-word.new.seat.me (beats None c.perform-word.result) opened c.perform-word.ensures.me)
    (learns_second (record_of a.args.board.now.table.shared.key.value c.perform-header.new.seat.me) (storing s.machine c.args.src c.args.field c.args.val c.in-Some.slot) c.wrote.new.self c.perform-word.result behind refl tt
    (c.wrote.ensures.took ∙ ap (λ (q : Private). took_of q c.perform-word.result) (looked_is s.machine c.args.src c.args.field c.args.val c.in-Some.slot c.perform-header.result (object a) (room a) no_leaf)) ∙ sym c.perform-word.ensures.learns)
    c.perform-word.ensures.stands
    (none_born a.args.board.now.table.shared.key.value s.opened.value c.perform-header.new.seat.me c.perform-word.new.seat.me None (ops.SwapField c.place_of-place.result c.word_for-left.result) c.perform-word.result s.births opened
    (second s.machine c.args.src c.args.field c.args.val c.in-Some.slot c.place_of-place.result c.word_for-left.result c.place_of-place.ensures c.word_for-left.ensures ∙ ap next_of behind) refl c.perform-word.ensures.me
    (none_born a.args.board.now.table.shared.key.value s.opened.value s.seat.me c.perform-header.new.seat.me (Some start) (ops.LoadHeader c.in-Some.slot) c.perform-header.result s.births o.opened (first a) refl c.perform-header.ensures.me c.self.invariant.5))

pub returns : goal.returns
returns c =
    let a : After-from-from = (goal.at.returns c).After-from-from in
    let s = c.self.inside in
    let o = (starts a).owned in
    let start : Start = record { work = work a; from = c.from-from.result } in
    let no_leaf = sym c.unpack.ensures.leaf ∙ c.if-unpack.false in
    let same = o.machine ∙ sym o.now in
    let now : Private = mutator_now c.args.self.now in
    let learns : record_of a.args.board.now.table.shared.key.value c.perform-header.new.seat.me ≡ learnt (begun_of now (work a) c.from-from.result) (Saw c.perform-header.result)
    = c.perform-header.ensures.learns ∙ ap (λ (p : Private). learnt (begun_of p (work a) c.from-from.result) (Saw c.perform-header.result)) (sym o.now) in
    let one = seen_on s.seat.table_id c.perform-header.new.seat.table_id s.opened.value s.seat.me c.perform-header.new.seat.me c.args.self.now (beats (Some start) c.perform-header.result) c.perform-header.ensures.seat.0 c.self.view_is c.perform-header.ensures.me in
    let grows = seen_on c.perform-header.new.seat.table_id c.perform-word.new.seat.table_id s.opened.value c.perform-header.new.seat.me c.perform-word.new.seat.me _ (beats None c.perform-word.result) c.perform-word.ensures.seat.0 one c.perform-word.ensures.me in
    let told : Told = record { answer = answers.Done; saw = c.perform-word.result; left = c.word_for-left.result } in
    let carried = carried_twice c.args.self.now _ (commands.Put c.args.src c.args.field c.args.val) c.from-from.result c.perform-header.result c.perform-word.result (learnt (begun_of now (work a) c.from-from.result) (Saw c.perform-header.result)) told c.requires.may
    (subst (λ (p : Private). c.from-from.result < p.slots) same (starts a).low) (subst (λ (p : Private). IsBetween p.phase) same c.self.invariant.4) (subst (λ (p : Private). IsMachine (begun_of p (work a) c.from-from.result)) same (starts a).begun)
    refl
    (subst IsMachine learns (mid_machine a c.perform-header.new.seat.me c.perform-header.result (c.perform-header.ensures.found, no_leaf) c.perform-header.ensures.learns))
    (ap is_busy (sym learns ∙ sym (mid a c.perform-header.new.seat.me c.perform-header.result no_leaf c.perform-header.ensures.learns)))
    grows
    (ap answer_of (sym (invariant_of-self-2 c).1) ∙ c.wrote.ensures.answer)
    (ap is_busy (sym (invariant_of-self-2 c).1) ∙ answered_idle c.wrote.new.self _ c.wrote.ensures.answer) in
    record { told = told; answers = refl; carried = carried }
