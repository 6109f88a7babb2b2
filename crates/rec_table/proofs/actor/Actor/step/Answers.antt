-- The contract of `Actor::step`: one step, which begins a work first, or goes on with one.
use Rattle.std.proofs.Common.{◌≡◌, ◌<◌, ◌≤◌, ◌+◌, ◌%◌, ◌^◌, ℕ, length, Option, refl, sym, ap, subst, ◌∙◌, arith}
use Rattle.rec_mutator.specs.Next.{next_of}
use Rattle.std.specs.Option.{IfSome}
use Rattle.rec_mutator.specs.Step.{NamesSlots}
use Rattle.atomic_table.specs.Table.{Me}
use Rattle.rec_table.proofs.Common.{Op, Private, IsMachine, KeepsSizes, work_of, limit_of, IsTold, IsBetween, IsFound, IsMutator, Core, mutator, world_kept, actor_of, Contents, births_of, View, told, learnt, births_told, MutatorView, mutator_now, index_of, me_after, ready, MayGo, seated_of, hands, Saw, Mutates}
use Rattle.rec_table.proofs.Acting.{own_record, opened_is, seen_record, ready_names}
use Rattle.rec_table.proofs.Making.{births_more, keeps_on, Counted, counted, ready_between, ready_hands, made_out, made_hand, made_me, made_told}
use Rattle.rec_table.proofs.Within.{there}
use Rattle.rec_table.proofs.actor.Actor.step.Goals as goal
use Rattle.rec_table.proofs.actor.Actor.step.Goals.{After-next-op}

-- the record that the call speaks of, and its machine
abbrev key : (c : After-next-op) → Core
key c = c.args.board.now.table.shared.key.value

abbrev now : (c : After-next-op) → Private
now c = told (mutator (key c) (seated_of c.self.inside.seat.me.0).number) (seated_of c.self.inside.seat.me.0).log

picked : (c : After-next-op) → mutator_now c.args.self.now ≡ now c
picked c = seen_record c.args.board.now.table.shared.table_id c.self.inside.seat.table_id (key c) c.self.inside.opened.value (seated_of c.self.inside.seat.me.0) c.args.self.now c.self.view_is c.requires.own

machine_is : (c : After-next-op) → c.self.inside.machine ≡ now c
machine_is c = own_record c.args.board.now.table.shared.table_id c.self.inside.seat.table_id (key c) c.self.inside.opened.value c.self.inside.machine (seated_of c.self.inside.seat.me.0) c.args.self.now c.self.view_is c.requires.own c.self.invariant.1

may : (c : After-next-op) → MayGo (now c) c.args.work
may c = subst (λ (p : Private). MayGo p c.args.work) (picked c) c.requires.may

prepared : (c : After-next-op) → c.prepare.new.machine ≡ ready (now c) c.args.work
prepared c = c.prepare.ensures.ready ∙ ap (λ (p : Private). ready p c.args.work) (machine_is c)

between : (c : After-next-op) → IsBetween (ready (now c) c.args.work).phase
between c = ready_between (now c) c.args.work (subst (λ (p : Private). IsBetween p.phase) (machine_is c) c.self.invariant.4)

is_mutator : (c : After-next-op) → IsMutator (key c).config (seated_of c.self.inside.seat.me.0).number
is_mutator c = subst (λ (n : ℕ). IsMutator (key c).config n) (sym (ap (λ (x : MutatorView). x.number) c.self.view_is)) c.requires.own.1

opened : (c : After-next-op) → c.self.inside.opened.value ≡ mutator (key c) (seated_of c.self.inside.seat.me.0).number
opened c = opened_is c.args.board.now.table.shared.table_id c.self.inside.seat.table_id (key c) c.self.inside.opened.value (seated_of c.self.inside.seat.me.0) c.args.self.now c.self.view_is c.requires.own

births_told_now : (c : After-next-op) (word : ℕ) (me' me : Me (Option Contents) View) (m : Private) → me ≡ me_after (seated_of c.self.inside.seat.me.0) (ready (now c) c.args.work) c.args.work word
    → me' ≡ (me.0, hands (seated_of me.0) m) → (n : ℕ) → n ≡ (c.self.inside.births + births_of (next_of (ready (now c) c.args.work)) word) % 2 ^ 64
    → n ≡ births_told c.self.inside.opened.value (seated_of me'.0).log % 2 ^ 64
births_told_now c word me' me m is at n more =
    let s = c.self.inside in
    let t = seated_of s.seat.me.0 in
    births_more s.opened.value (now c) t.log c.args.work word s.births n (ap (λ (p : Private). told p t.log) (sym (opened c))) c.self.invariant.5 more
    ∙ ap (λ l. births_told s.opened.value l % 2 ^ 64) (sym ((λ k. (seated_of (at k).0).log) ∙ (λ k. (seated_of (is k).0).log)))

-- what the seat's list makes up now
told_now : (c : After-next-op) (word : ℕ) (me me' : Me (Option Contents) View) (m : Private) → me ≡ me_after (seated_of c.self.inside.seat.me.0) (ready (now c) c.args.work) c.args.work word
    → me' ≡ (me.0, hands (seated_of me.0) m) → m ≡ learnt c.prepare.new.machine (Saw word) → m ≡ told c.self.inside.opened.value (seated_of me'.0).log
told_now c word me me' m is at learns =
    let s = c.self.inside in
    let t = seated_of s.seat.me.0 in
    made_told s.opened.value (now c) (ready (now c) c.args.work) m t c.args.work word me me' (ap (λ (p : Private). told p t.log) (sym (opened c))) refl (learns ∙ ap (λ (p : Private). learnt p (Saw word)) (prepared c)) is at

learns_now : (c : After-next-op) (word : ℕ) (me me' : Me (Option Contents) View) (m : Private) → me ≡ me_after (seated_of c.self.inside.seat.me.0) (ready (now c) c.args.work) c.args.work word
    → me' ≡ (me.0, hands (seated_of me.0) m) → m ≡ learnt c.prepare.new.machine (Saw word) → told c.self.inside.opened.value (seated_of me'.0).log ≡ learnt (ready (mutator_now c.args.self.now) c.args.work) (Saw word)
learns_now c word me me' m is at learns =
    sym (told_now c word me me' m is at learns) ∙ learns ∙ ap (λ (p : Private). learnt p (Saw word)) (prepared c) ∙ ap (λ (p : Private). learnt (ready p c.args.work) (Saw word)) (sym (picked c))

counts : (c : After-next-op) (word : ℕ) → Counted (mutator_now c.args.self.now) c.args.work word
counts c word = counted (mutator_now c.args.self.now) c.args.work word c.requires.may (subst (λ (p : Private). IsBetween p.phase) (machine_is c ∙ sym (picked c)) c.self.invariant.4)

pub prepare-requires-clause-awake : goal.prepare-requires-clause-awake
prepare-requires-clause-awake c =
    let k : Core = c.args.board.now.table.shared.key.value in
    let s = c.self.inside in
    let t = seated_of s.seat.me.0 in
    let its : IsMutator k.config t.number = subst (λ (n : ℕ). IsMutator k.config n) (sym (ap (λ (x : MutatorView). x.number) c.self.view_is)) c.requires.own.1 in
    c.self.invariant.3.parked
    ∙ ap (λ (p : Private). p.parked) (opened_is c.args.board.now.table.shared.table_id s.seat.table_id k s.opened.value t c.args.self.now c.self.view_is c.requires.own)
    ∙ (actor_of k t.number (world_kept k c.requires.world) its).own.awake

pub make-word-requires-clause-seat : goal.make-word-requires-clause-seat
make-word-requires-clause-seat c =
    let a : After-next-op = (goal.at.make-word-requires-clause-seat c).After-next-op in
    let t = seated_of c.self.inside.seat.me.0 in
    c.self.invariant.0 ∙ (λ k. (Mutates t, hands t (machine_is a k))) ∙ (λ k. (Mutates t, ready_hands t (now a) c.args.work (may a) k))

pub make-word-requires-clause-actor : goal.make-word-requires-clause-actor
make-word-requires-clause-actor c = refl

pub make-word-requires-clause-work : goal.make-word-requires-clause-work
make-word-requires-clause-work c =
    let a : After-next-op = (goal.at.make-word-requires-clause-work c).After-next-op in
    (refl, may a)

pub make-word-requires-clause-between : goal.make-word-requires-clause-between
make-word-requires-clause-between c =
    let a : After-next-op = (goal.at.make-word-requires-clause-between c).After-next-op in
    between a

pub make-word-requires-clause-op : goal.make-word-requires-clause-op
make-word-requires-clause-op c =
    let a : After-next-op = (goal.at.make-word-requires-clause-op c).After-next-op in
    c.next-op.ensures ∙ ap next_of (prepared a)

pub make-word-requires-clause-there : goal.make-word-requires-clause-there
make-word-requires-clause-there c =
    let a : After-next-op = (goal.at.make-word-requires-clause-there c).After-next-op in
    let s = c.self.inside in
    let t = seated_of s.seat.me.0 in
    let wide = c.args.board.now.wide in
    let names : NamesSlots c.prepare.new.machine = subst NamesSlots (sym c.prepare.ensures.ready) (ready_names s.machine c.args.work c.self.invariant.2) in
    subst (λ (o : Op). index_of (length (key a).words) (length (key a).headers) o < c.args.board.now.table.shared.table_id.words) (sym c.next-op.ensures)
    (there (key a) t.number s.opened.value c.prepare.new.machine c.args.board.now.table.shared.table_id.words c.requires.world (is_mutator a) (opened a)
    (keeps_on s.opened.value s.machine c.prepare.new.machine c.self.invariant.3 c.prepare.ensures.same) c.prepare.ensures.kept names (omega (arith, wide.0, wide.1, wide.2)))

pub learn-requires-clause-may : goal.learn-requires-clause-may
learn-requires-clause-may c =
    let a : After-next-op = (goal.at.learn-requires-clause-may c).After-next-op in
    let x : ℕ = (seated_of c.self.inside.seat.me.0).number in
    let own = (actor_of (key a) x (world_kept (key a) c.requires.world) (is_mutator a)).own in
    let is : c.prepare.new.machine.number ≡ x = c.prepare.ensures.same.number ∙ c.self.invariant.3.number ∙ ap (λ (p : Private). p.number) (opened a) ∙ own.number in
    let seated = seated_of c.self.inside.seat.me.0 in
    record {
      busy = c.prepare.ensures.busy;
      begun = c.prepare.ensures.begun;
      between = subst (λ (p : Private). IsBetween p.phase) (sym (prepared a)) (between a);
      number = omega (arith, is, (is_mutator a).0);
      due = c.next-op.ensures;
      found = subst (λ (p : Private). IsFound p c.next-op.result c.make-word.result) (sym (prepared a)) c.make-word.ensures.found;
      out = made_out seated c.prepare.new.machine (ready (now a) c.args.work) c.args.work c.make-word.result c.make-word.new.seat.me c.make-word.ensures.view (prepared a);
      hand = made_hand seated c.prepare.new.machine (ready (now a) c.args.work) c.args.work c.make-word.result c.make-word.new.seat.me c.make-word.ensures.view (prepared a);
    }

pub invariant_of-self : goal.invariant_of-self
invariant_of-self c =
    let a : After-next-op = (goal.at.invariant_of-self c).After-next-op in
    let s = c.self.inside in
    let t = seated_of s.seat.me.0 in
    let q : Private = ready (now a) c.args.work in
    let m : Private = c.learn.new.machine in
    let learns : m ≡ learnt q (Saw c.make-word.result) = c.learn.ensures.machine ∙ ap (λ (p : Private). learnt p (Saw c.make-word.result)) (prepared a) in (
      made_me t q m c.args.work c.make-word.result c.make-word.new.seat.me c.learn.new.seat.me c.make-word.ensures.view c.learn.ensures.me,
      made_told s.opened.value (now a) q m t c.args.work c.make-word.result c.make-word.new.seat.me c.learn.new.seat.me (ap (λ (p : Private). told p t.log) (sym (opened a))) refl learns c.make-word.ensures.view c.learn.ensures.me,
      subst NamesSlots (sym learns) c.make-word.ensures.names,
      keeps_on s.opened.value s.machine m c.self.invariant.3 (keeps_on s.machine c.prepare.new.machine m c.prepare.ensures.same c.learn.ensures.same),
      c.learn.ensures.between,
      births_told_now a c.make-word.result c.learn.new.seat.me c.make-word.new.seat.me m c.make-word.ensures.view c.learn.ensures.me ((s.births + c.births.result) % 2 ^ 64) (ap (λ (n : ℕ). (s.births + n) % 2 ^ 64) (c.births.ensures ∙ ap (λ (o : Op). births_of o c.make-word.result) (c.next-op.ensures ∙ ap next_of (prepared a)))),
    )

pub returns-clause-learns : goal.returns-clause-learns
returns-clause-learns c =
    let a : After-next-op = (goal.at.returns-clause-learns c).After-next-op in
    learns_now a c.make-word.result c.make-word.new.seat.me c.learn.new.seat.me c.learn.new.machine c.make-word.ensures.view c.learn.ensures.me c.learn.ensures.machine

pub returns-clause-steps : goal.returns-clause-steps
returns-clause-steps c =
    let a : After-next-op = (goal.at.returns-clause-steps c).After-next-op in
    ap (λ (p : Private). p.steps) (learns_now a c.make-word.result c.make-word.new.seat.me c.learn.new.seat.me c.learn.new.machine c.make-word.ensures.view c.learn.ensures.me c.learn.ensures.machine) ∙ (counts a c.make-word.result).steps

pub returns-clause-work : goal.returns-clause-work
returns-clause-work c =
    let a : After-next-op = (goal.at.returns-clause-work c).After-next-op in
    ap work_of (learns_now a c.make-word.result c.make-word.new.seat.me c.learn.new.seat.me c.learn.new.machine c.make-word.ensures.view c.learn.ensures.me c.learn.ensures.machine) ∙ (counts a c.make-word.result).work

pub returns-clause-limit : goal.returns-clause-limit
returns-clause-limit c =
    let a : After-next-op = (goal.at.returns-clause-limit c).After-next-op in
    subst (λ (p : Private). IfSome (work_of p) (λ work. p.steps ≤ limit_of p.slots work)) (told_now a c.make-word.result c.make-word.new.seat.me c.learn.new.seat.me c.learn.new.machine c.make-word.ensures.view c.learn.ensures.me c.learn.ensures.machine) (subst (λ (n : ℕ). IfSome (work_of c.learn.new.machine) (λ work. n ≤ limit_of c.learn.new.machine.slots work)) c.steps-steps.ensures.steps c.steps-steps.ensures.limit)

pub returns-clause-same : goal.returns-clause-same
returns-clause-same c =
    let a : After-next-op = (goal.at.returns-clause-same c).After-next-op in
    subst (KeepsSizes (mutator_now c.args.self.now)) (sym (learns_now a c.make-word.result c.make-word.new.seat.me c.learn.new.seat.me c.learn.new.machine c.make-word.ensures.view c.learn.ensures.me c.learn.ensures.machine)) (counts a c.make-word.result).same

pub returns-clause-told : goal.returns-clause-told
returns-clause-told c =
    let a : After-next-op = (goal.at.returns-clause-told c).After-next-op in
    subst (λ (p : Private). IsTold p.phase) (sym (learns_now a c.make-word.result c.make-word.new.seat.me c.learn.new.seat.me c.learn.new.machine c.make-word.ensures.view c.learn.ensures.me c.learn.ensures.machine)) (counts a c.make-word.result).told

pub returns-clause-machine : goal.returns-clause-machine
returns-clause-machine c =
    let a : After-next-op = (goal.at.returns-clause-machine c).After-next-op in
    subst IsMachine (prepared a ∙ ap (λ (p : Private). ready p c.args.work) (sym (picked a))) c.prepare.ensures.kept

pub returns-clause-between : goal.returns-clause-between
returns-clause-between c =
    let a : After-next-op = (goal.at.returns-clause-between c).After-next-op in
    subst (λ (p : Private). IsBetween (ready p c.args.work).phase) (sym (picked a)) (between a)
