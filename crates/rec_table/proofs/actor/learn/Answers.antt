-- The contract of `learn`: the machine learns the word that the step found; where it has just taken its mailbox, the retired log goes there for the buffer.
use Rattle.std.proofs.Common.{◌≡◌, ◌-◌, Option, Some, IfSome, ◌∷◌, [], refl, sym, ap, ◌∙◌, subst, arith}
use Rattle.atomic_table.specs.Table.{rest}
use Rattle.rec_table.proofs.Common.{Contents, Private, KeepsSizes, TakesBox, spare, took_of, swapped_of, left_of, seated_of}
use Rattle.rec_world.specs.Mailbox.{held}
use Rattle.rec_mutator.specs.declared.phase.Phase.{Phase}
use Rattle.rec_mutator.specs.declared.phase.Phase.TheVariants.{Begun}
use Rattle.rec_mutator.proofs.Steps.{TakesNone}
use Rattle.rec_table.specs.declared.start.Start.{Start}
use Rattle.rec_table.proofs.Making.{IsTakeOp, taking_phase, takes_own, out_at, first_is, learns_box, learns_word, takes_none, taking_takes, Boxed}
use Rattle.rec_table.proofs.actor.learn.Goals as goal
use Rattle.rec_table.proofs.actor.learn.Goals.{After-from}

taking : (c : After-from) → TakesBox c.args.machine.now.phase
taking c = taking_phase c.args.machine.now c.args.op c.requires.may.due c.requires.may.between (subst IsTakeOp (sym c.in-TakeBox.is) tt)

own : (c : After-from) → c.from.result ≡ c.args.machine.now.number
own c = c.from.ensures ∙ takes_own c.args.machine.now c.args.op c.in-TakeBox.t c.in-TakeBox.field-1 c.requires.may.due c.requires.may.between c.in-TakeBox.is

out : (c : After-from) → c.args.seat.now.me.1 ≡ (c.from.result - 1, Some (spare (took_of c.args.machine.now c.args.word))) ∷ []
out c = out_at c.args.machine.now c.args.word (c.from.result - 1) c.args.seat.now.me.1 (taking c) (ap (λ n. n - 1) (own c)) c.requires.may.out

boxed : (c : After-from) (q r : Private) (m m' : Option Contents) → q ≡ took_of c.args.machine.now c.args.word → KeepsSizes c.args.machine.now q
    → c.args.seat.now.me.1 ≡ (c.from.result - 1, m) ∷ rest c.args.seat.now.me.1 → r ≡ swapped_of q (held m) → m' ≡ Some (left_of q (held m)) → Boxed c.args.machine.now r m' (seated_of c.args.seat.now.me.0) c.args.word
boxed c q r m m' took same value swapped left =
    let is : m ≡ Some (spare (took_of c.args.machine.now c.args.word)) = first_is (c.from.result - 1) (c.from.result - 1) m (Some (spare (took_of c.args.machine.now c.args.word))) c.args.seat.now.me.1 (rest c.args.seat.now.me.1) [] value (out c) in
    learns_box c.args.machine.now q r (held m) m' (seated_of c.args.seat.now.me.0) c.args.word (taking c) took (ap held is) swapped left c.requires.may.hand same

pub overflow_sub-from : goal.overflow_sub-from
overflow_sub-from c = omega (arith, own c, c.requires.may.number)

pub slot_mut-mailbox-requires : goal.slot_mut-mailbox-requires
slot_mut-mailbox-requires c = (c.requires.table, (Some (spare (took_of c.args.machine.now c.args.word)), out c ∙ (λ k. (c.from.result - 1, Some (spare (took_of c.args.machine.now c.args.word))) ∷ rest (sym (out c) k))))

pub returns-in-TakeBox-clause-machine : goal.returns-in-TakeBox-clause-machine
returns-in-TakeBox-clause-machine c =
    (boxed (goal.at.returns-in-TakeBox-clause-machine c).After-from c.took.new.self c.swap_own.new.machine c.slot_mut-mailbox.result.now c.swap_own.new.mailbox c.took.ensures.took c.took.ensures.same c.slot_mut-mailbox.ensures.value c.swap_own.ensures.machine c.swap_own.ensures.mailbox).0

pub returns-in-TakeBox-clause-same : goal.returns-in-TakeBox-clause-same
returns-in-TakeBox-clause-same c =
    (boxed (goal.at.returns-in-TakeBox-clause-same c).After-from c.took.new.self c.swap_own.new.machine c.slot_mut-mailbox.result.now c.swap_own.new.mailbox c.took.ensures.took c.took.ensures.same c.slot_mut-mailbox.ensures.value c.swap_own.ensures.machine c.swap_own.ensures.mailbox).1

pub returns-in-TakeBox-clause-between : goal.returns-in-TakeBox-clause-between
returns-in-TakeBox-clause-between c =
    (boxed (goal.at.returns-in-TakeBox-clause-between c).After-from c.took.new.self c.swap_own.new.machine c.slot_mut-mailbox.result.now c.swap_own.new.mailbox c.took.ensures.took c.took.ensures.same c.slot_mut-mailbox.ensures.value c.swap_own.ensures.machine c.swap_own.ensures.mailbox).2

pub returns-in-TakeBox-clause-me : goal.returns-in-TakeBox-clause-me
returns-in-TakeBox-clause-me c =
    let a : After-from = (goal.at.returns-in-TakeBox-clause-me c).After-from in
    let b = boxed a c.took.new.self c.swap_own.new.machine c.slot_mut-mailbox.result.now c.swap_own.new.mailbox c.took.ensures.took c.took.ensures.same c.slot_mut-mailbox.ensures.value c.swap_own.ensures.machine c.swap_own.ensures.mailbox in
    let l : (c.from.result - 1, c.swap_own.new.mailbox) ∷ rest c.args.seat.now.me.1 ≡ (c.args.machine.now.number - 1, c.swap_own.new.mailbox) ∷ [] = λ j. (own a j - 1, c.swap_own.new.mailbox) ∷ rest (out a j) in
    λ k. (c.args.seat.now.me.0, (l ∙ b.3) k)

pub returns-in_default-op : goal.returns-in_default-op
returns-in_default-op c =
    let p : Private = c.args.machine.now in
    let all = learns_word p c.took-in_default-op.new.self (seated_of c.args.seat.now.me.0) c.args.word c.args.seat.now.me c.requires.may.busy c.requires.may.between
    (takes_none p.phase c.requires.may.between (λ takes. taking_takes p c.args.op takes c.requires.may.due c.in_default-op.not-TakeBox)) c.took-in_default-op.ensures.took c.requires.may.out in
    record {
      seat = (refl, refl);
      machine = all.0;
      same = c.took-in_default-op.ensures.same;
      between = all.1;
      me = all.2;
    }

-- A work that was begun takes no mailbox by its first step.
begun : (work : Option Start) (start : Start) (phase : Phase) → work ≡ Some start → IfSome work (λ s. phase ≡ Begun s.work) → phase ≡ Begun start.work
begun work start phase is so = subst (λ (w : Option Start). IfSome w (λ s. phase ≡ Begun s.work)) is so

pub took_first-requires-clause-begun : goal.took_first-requires-clause-begun
took_first-requires-clause-begun c = begun c.args.work c.in-Some.start c.args.machine.now.phase c.in-Some.is c.requires.may.begun

pub returns-in-Some : goal.returns-in-Some
returns-in-Some c =
    let p : Private = c.args.machine.now in
    let is : p.phase ≡ Begun c.in-Some.start.work = begun c.args.work c.in-Some.start p.phase c.in-Some.is c.requires.may.begun in
    let all = learns_word p c.took_first.new.self (seated_of c.args.seat.now.me.0) c.args.word c.args.seat.now.me c.requires.may.busy c.requires.may.between (subst TakesNone (sym is) tt) c.took_first.ensures.took c.requires.may.out in
    record {
      seat = (refl, refl);
      machine = all.0;
      same = c.took_first.ensures.same;
      between = all.1;
      me = all.2;
    }
