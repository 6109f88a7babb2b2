-- The contract of `Collector::turn_as`: one turn of a collector in a phase of a known kind.
use Rattle.std.proofs.Common.{◌≡◌, ◌<◌, ℕ, length, Option, None, Some, refl, sym, ap, ◌∙◌, subst, arith}
use Rattle.rec_table.proofs.Common.{Op, Core, gathered, gathered_all, CollectorView, collector_now, index_of, collecting_of, collecting_more, boxes_out, word_of, NotLooking, Saw, CollectorSeat, Collects}
use Rattle.rec_word.specs.Header.{IsTakenHeader}
use Rattle.rec_word.specs.declared.op.Op.TheVariants as ops
use Rattle.rec_table.specs.Rule.{FindsHeader}
use Rattle.rec_collector.specs.Given.{IsGiven}
use Rattle.rec_collector.specs.Kept.{IsMachine}
use Rattle.rec_collector.proofs.Running.{sizes_on}
use Rattle.rec_collector.specs.Kind.{kind_of}
use Rattle.rec_collector.specs.Next.{next_of}
use Rattle.rec_collector.specs.Private.{Private}
use Rattle.rec_collector.specs.Step.{IsBetween}
use Rattle.rec_collector.specs.Took.{turn_of}
use Rattle.rec_collector.specs.declared.phase.Phase.{Phase}
use Rattle.rec_collector.specs.declared.phase.Phase.TheVariants.{Looking}
use Rattle.rec_table.proofs.Gathering.{turn_there, turn_names, looking_of, not_looking, looking_boxes, turn_me, turn_log, turn_end, lone_out}
use Rattle.rec_table.proofs.Turn.{makes_none, makes_one}
use Rattle.rec_table.specs.Telling.{Frees, IsFreeOp}
use Rattle.rec_table.proofs.Freeing.{frees_slot, looks_none, frees_none, frees_found}
use Rattle.rec_table.proofs.collector.Collector.turn_as.Goals as goal
use Rattle.rec_table.proofs.collector.Collector.turn_as.Goals.{In-Some}

abbrev key : (c : In-Some) → Core
key c = c.args.board.now.table.shared.key.value

abbrev collecting : (c : In-Some) → CollectorSeat
collecting c = collecting_of c.self.inside.seat.me.0

opened : (c : In-Some) → c.self.inside.opened.value ≡ (key c).collector
opened c = ap (λ (g : CollectorView). g.opened) c.self.view_is ∙ c.requires.own.1

table : (c : In-Some) → c.self.inside.seat.table_id ≡ c.args.board.now.table.shared.table_id
table c = ap (λ (g : CollectorView). g.table) c.self.view_is ∙ c.requires.own.0

machine_is : (c : In-Some) → c.self.inside.machine ≡ gathered_all (key c).collector (collecting c).log
machine_is c = c.self.invariant.1 ∙ ap (λ (p : Private). gathered_all p (collecting c).log) (opened c)

named : (c : In-Some) → ◌≡◌ {A = Option Op} (next_of c.self.inside.machine) (Some c.in-Some.op)
named c = sym c.next.ensures.next ∙ c.in-Some.is

there : (c : In-Some) → index_of (length (key c).words) (length (key c).headers) c.in-Some.op < c.args.board.now.table.shared.table_id.words
there c =
    let wide = c.args.board.now.wide in
    turn_there (key c) c.in-Some.op c.self.inside.opened.value c.self.inside.machine c.args.board.now.table.shared.table_id.words c.requires.world (opened c) c.self.invariant.2 c.turns-turns.ensures.kept (named c) (omega (arith, wide.0, wide.1, wide.2))

looking : (c : In-Some) (t e : ℕ) → c.in-Some.op ≡ ops.LookBox t e → (c.self.inside.machine.phase ≡ Looking t) × (c.self.inside.machine.epoch ≡ e)
looking c t e is = looking_of c.self.inside.machine c.in-Some.op t e c.self.invariant.3 (named c) is

-- what is known of the collector's record as the turn begins
now : (c : In-Some) → c.self.inside.machine ≡ collector_now c.args.self.now
now c = c.self.invariant.1 ∙ ap collector_now c.self.view_is

machine : (c : In-Some) → IsMachine (collector_now c.args.self.now)
machine c = subst IsMachine (now c) c.turns-turns.ensures.kept

its_op : (c : In-Some) → ◌≡◌ {A = Option Op} (next_of (collector_now c.args.self.now)) (Some c.in-Some.op)
its_op c = ap next_of (sym (now c)) ∙ named c

pub returns-in_default-clause-turn : goal.returns-in_default-clause-turn
returns-in_default-clause-turn c =
    let is : c.self.inside.machine ≡ collector_now c.args.self.now = c.self.invariant.1 ∙ ap collector_now c.self.view_is in
    makes_none c.args.self.now (subst IsMachine is c.turns-turns.ensures.kept) (ap next_of (sym is) ∙ sym c.next.ensures.next ∙ c.in_default.is)

pub returns-in_default-clause-freed : goal.returns-in_default-clause-freed
returns-in_default-clause-freed c = Frees.none (λ slot is.
    let not_so : ◌≡◌ {A = Option Op} None (Some (ops.FreeHeader slot)) = sym (ap next_of (sym (c.self.invariant.1 ∙ ap collector_now c.self.view_is)) ∙ sym c.next.ensures.next ∙ c.in_default.is) ∙ is in absurd (cc))

pub look-turn-requires-clause-table : goal.look-turn-requires-clause-table
look-turn-requires-clause-table c = table (goal.at.look-turn-requires-clause-table c).In-Some

pub look-turn-requires-clause-seat : goal.look-turn-requires-clause-seat
look-turn-requires-clause-seat c =
    let a : In-Some = (goal.at.look-turn-requires-clause-seat c).In-Some in
    c.self.invariant.0 ∙ (λ k. (Collects (collecting a), looking_boxes c.self.inside.machine c.in-LookBox.t (looking a c.in-LookBox.t c.in-LookBox.epoch c.in-LookBox.is).0 k))

pub look-turn-requires-clause-actor : goal.look-turn-requires-clause-actor
look-turn-requires-clause-actor c = (refl, refl, machine_is (goal.at.look-turn-requires-clause-actor c).In-Some)

pub look-turn-requires-clause-phase : goal.look-turn-requires-clause-phase
look-turn-requires-clause-phase c =
    let a : In-Some = (goal.at.look-turn-requires-clause-phase c).In-Some in
    let l = looking a c.in-LookBox.t c.in-LookBox.epoch c.in-LookBox.is in
    let n = turn_names c.self.inside.machine (ops.LookBox c.in-LookBox.t c.in-LookBox.epoch) c.turns-turns.ensures.kept (named a ∙ ap (λ (o : Op). Some o) c.in-LookBox.is) in
    (l.0, l.1, omega (arith, n.0))

pub look-turn-requires-clause-there : goal.look-turn-requires-clause-there
look-turn-requires-clause-there c =
    let a : In-Some = (goal.at.look-turn-requires-clause-there c).In-Some in
    subst (λ (o : Op). index_of (length (key a).words) (length (key a).headers) o < c.args.board.now.table.shared.table_id.words) c.in-LookBox.is (there a)

pub make_turn-word-requires : goal.make_turn-word-requires
make_turn-word-requires c =
    let a : In-Some = (goal.at.make_turn-word-requires c).In-Some in
    record {
      table = table a;
      seat = c.self.invariant.0 ∙ (λ k. (Collects (collecting a), boxes_out (machine_is a k)));
      actor = refl;
      between = subst (λ (p : Private). IsBetween p.phase) (machine_is a) c.self.invariant.3;
      looks = subst (λ (p : Private). NotLooking p.phase) (machine_is a) (not_looking c.self.inside.machine c.in-Some.op c.self.invariant.3 (named a) c.in_default-op.not-LookBox);
      op = ap next_of (sym (machine_is a)) ∙ named a;
      there = there a;
    }

pub took_as-requires-clause-given : goal.took_as-requires-clause-given
took_as-requires-clause-given c = let a : In-Some = (goal.at.took_as-requires-clause-given c).In-Some in subst (λ (p : Private). IsGiven p c.make_turn-word.result) (sym (machine_is a)) c.make_turn-word.ensures.given

pub took_as-requires-clause-kind : goal.took_as-requires-clause-kind
took_as-requires-clause-kind c = let a : In-Some = (goal.at.took_as-requires-clause-kind c).In-Some in c.requires.kind ∙ ap (λ (p : Private). kind_of p.phase) (sym (now a))

-- a freed slot had a taken header
taken : (c : In-Some) (word : ℕ) → FindsHeader (gathered_all (key c).collector (collecting c).log) word → IsFreeOp c.in-Some.op → IsTakenHeader word
taken c word finds frees =
    let s = frees_slot c.in-Some.op frees in
    finds s.0 (ap next_of (sym (machine_is c)) ∙ named c ∙ ap (λ (o : Op). Some o) s.1)

pub label_freed-requires : goal.label_freed-requires
label_freed-requires c = taken (goal.at.label_freed-requires c).In-Some c.make_turn-word.result c.make_turn-word.ensures.header

pub invariant_of-self : goal.invariant_of-self
invariant_of-self c =
    let a : In-Some = (goal.at.invariant_of-self c).In-Some in
    let s = c.self.inside in
    let t = c.look-turn.ensures.turned in (
      turn_me (collecting a) t.0 c.look-turn.new.machine c.look-turn.new.seat.me t.1,
      turn_log s.opened.value s.machine c.look-turn.new.machine (collecting a) t.0 c.look-turn.new.seat.me c.self.invariant.1 t.2 t.1,
      sizes_on c.self.invariant.2 c.look-turn.ensures.same,
      c.look-turn.ensures.between,
    )

pub invariant_of-self-in_default-op : goal.invariant_of-self-in_default-op
invariant_of-self-in_default-op c =
    let a : In-Some = (goal.at.invariant_of-self-in_default-op c).In-Some in
    let s = c.self.inside in
    let b = Saw c.make_turn-word.result in
    let out = lone_out s.machine c.took_as.new.self c.make_turn-word.result c.self.invariant.3 (not_looking s.machine c.in-Some.op c.self.invariant.3 (named a) c.in_default-op.not-LookBox) c.took_as.ensures.took in
    let seated : c.make_turn-word.new.seat.me ≡ (Collects (collecting_more (collecting a) b), boxes_out c.took_as.new.self) = c.make_turn-word.ensures.view ∙ (λ k. (Collects (collecting_more (collecting a) b), sym out.0 k)) in (
      turn_me (collecting a) b c.took_as.new.self c.make_turn-word.new.seat.me seated,
      turn_log s.opened.value s.machine c.took_as.new.self (collecting a) b c.make_turn-word.new.seat.me c.self.invariant.1 c.took_as.ensures.took seated,
      sizes_on c.self.invariant.2 c.took_as.ensures.same,
      out.1,
    )

pub returns-in-LookBox-clause-turn : goal.returns-in-LookBox-clause-turn
returns-in-LookBox-clause-turn c =
    let a : In-Some = (goal.at.returns-in-LookBox-clause-turn c).In-Some in
    let s = c.self.inside in
    let t = c.look-turn.ensures.turned in
    let e = turn_end s.seat.table_id c.look-turn.new.seat.table_id s.opened.value s.machine c.look-turn.new.machine (collecting a) t.0 c.look-turn.new.seat.me c.args.self.now c.self.view_is c.look-turn.ensures.seat.0 c.self.invariant.1 t.2 t.1 in
    makes_one c.args.self.now _ c.in-Some.op t.0 c.look-turn.result (machine a) (its_op a) e.0 e.1 (t.3 ∙ ap (λ (p : Private). turn_of p (word_of t.0)) (now a))

pub returns-in-LookBox-clause-free : goal.returns-in-LookBox-clause-free
returns-in-LookBox-clause-free c = λ looks_at_none.
    let a : In-Some = (goal.at.returns-in-LookBox-clause-free c).In-Some in
    let looks : c.self.inside.machine.phase ≡ Looking c.in-LookBox.t = (looking a c.in-LookBox.t c.in-LookBox.epoch c.in-LookBox.is).0 in
    absurd (subst (λ (f : Phase). NotLooking f) (ap (λ (p : Private). p.phase) (sym (c.self.invariant.1 ∙ ap collector_now c.self.view_is)) ∙ looks) looks_at_none)

pub returns-in-LookBox-clause-freed : goal.returns-in-LookBox-clause-freed
returns-in-LookBox-clause-freed c =
    let a : In-Some = (goal.at.returns-in-LookBox-clause-freed c).In-Some in
    Frees.none (frees_none c.in-Some.op (next_of (collector_now c.args.self.now)) (its_op a) (λ frees. looks_none c.in-Some.op frees c.in-LookBox.t c.in-LookBox.epoch c.in-LookBox.is))

pub returns-in_default-op : goal.returns-in_default-op
returns-in_default-op c =
    let a : In-Some = (goal.at.returns-in_default-op c).In-Some in
    let s = c.self.inside in
    let b = Saw c.make_turn-word.result in
    let out = lone_out s.machine c.took_as.new.self c.make_turn-word.result c.self.invariant.3 (not_looking s.machine c.in-Some.op c.self.invariant.3 (named a) c.in_default-op.not-LookBox) c.took_as.ensures.took in
    let seated : c.make_turn-word.new.seat.me ≡ (Collects (collecting_more (collecting a) b), boxes_out c.took_as.new.self) = c.make_turn-word.ensures.view ∙ (λ k. (Collects (collecting_more (collecting a) b), sym out.0 k)) in
    let e = turn_end s.seat.table_id c.make_turn-word.new.seat.table_id s.opened.value s.machine c.took_as.new.self (collecting a) b c.make_turn-word.new.seat.me c.args.self.now c.self.view_is c.make_turn-word.ensures.seat.0 c.self.invariant.1 c.took_as.ensures.took seated in
    record {
      turn = makes_one c.args.self.now _ c.in-Some.op b c.took_as.result (machine a) (its_op a) e.0 e.1 (c.took_as.ensures.turn ∙ ap (λ (p : Private). turn_of p c.make_turn-word.result) (now a));
      freed = frees_found c.args.self.now _ c.in-Some.op c.make_turn-word.result c.label_freed.result (its_op a) (ap (λ (x : CollectorView). x.collecting) e.0) (taken a c.make_turn-word.result c.make_turn-word.ensures.header) c.label_freed.ensures;
      free = λ looks. ap boxes_out (e.1 ∙ ap (λ (p : Private). gathered p b) (sym (c.self.invariant.1 ∙ ap collector_now c.self.view_is)) ∙ sym c.took_as.ensures.took) ∙ out.0;
    }
