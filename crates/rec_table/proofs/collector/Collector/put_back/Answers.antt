-- The contract of `Collector::put_back`: gives back a mailbox that it holds, by a turn.
use Rattle.std.proofs.Common.{◌≡◌, Option, Some, true, false, sym, ap, ◌∙◌, subst}
use Rattle.rec_table.proofs.Common.{Op, collector_now}
use Rattle.rec_collector.specs.Next.{next_of}
use Rattle.rec_collector.specs.Private.{Private}
use Rattle.rec_collector.specs.Step.{IsBetween}
use Rattle.rec_table.proofs.PutBack.{none_held, puts_back, returning_looks_none}
use Rattle.rec_table.proofs.collector.Collector.put_back.Goals as goal
use Rattle.rec_table.proofs.collector.Collector.put_back.Goals.{In-Some}

abbrev now : (c : In-Some) → Private
now c = collector_now c.args.self.now

machine_is : (c : In-Some) → c.self.inside.machine ≡ now c
machine_is c = c.self.invariant.1 ∙ ap collector_now c.self.view_is

named : (c : In-Some) → ◌≡◌ {A = Option Op} (next_of (now c)) (Some c.in-Some.op)
named c = ap next_of (sym (machine_is c)) ∙ sym c.next.ensures.next ∙ c.in-Some.is

between : (c : In-Some) → IsBetween (now c).phase
between c = subst (λ (p : Private). IsBetween p.phase) (machine_is c) c.self.invariant.3

pub returns-then-gives_back-clause-none : goal.returns-then-gives_back-clause-none
returns-then-gives_back-clause-none c =
    let a : In-Some = (goal.at.returns-then-gives_back-clause-none c).In-Some in
    c.turn_on.ensures.free (returning_looks_none (now a) c.in-Some.op (between a) (named a) (c.gives_back.ensures.0 c.if-gives_back.true))

pub returns-then-gives_back-clause-returned : goal.returns-then-gives_back-clause-returned
returns-then-gives_back-clause-returned c =
    let a : In-Some = (goal.at.returns-then-gives_back-clause-returned c).In-Some in
    let t = c.turn_on.ensures.turn.turned c.in-Some.op (named a) in
    puts_back c.args.self.now c.turn_on.new.self c.in-Some.op t.0 (between a) (named a) (c.gives_back.ensures.0 c.if-gives_back.true) t.1

pub returns-else-gives_back-clause-none : goal.returns-else-gives_back-clause-none
returns-else-gives_back-clause-none c =
    let a : In-Some = (goal.at.returns-else-gives_back-clause-none c).In-Some in
    none_held (now a) c.in-Some.op (between a) (named a) (λ is. let bad : true ≡ false = sym (c.gives_back.ensures.1 is) ∙ c.if-gives_back.false in cc)
