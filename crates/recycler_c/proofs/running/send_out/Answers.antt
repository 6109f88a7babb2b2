-- The contract of `send_out`: all mutators go out.
use Rattle.std.proofs.Common.{List, length, refl, sym, ap, subst, arith}
use Rattle.std.specs.Arc.{arc_value}
use Rattle.rec_table.specs.Views.{MutatorView}
use Rattle.recycler_c.specs.First.{AreFirst}
use Rattle.recycler_c.proofs.running.send_out.Goals as goal

pub hand_out-requires-clause-room : goal.hand_out-requires-clause-room
hand_out-requires-clause-room c = omega (arith, c.requires.all, c.requires.many, c.args.running.few.1)

pub hand_out-requires-clause-open : goal.hand_out-requires-clause-open
hand_out-requires-clause-open c = λ k d lt. c.requires.open k d (omega (arith, lt, c.requires.all))

pub hand_out-requires-clause-heaps : goal.hand_out-requires-clause-heaps
hand_out-requires-clause-heaps c = omega (arith, c.requires.heaps.0, c.requires.all)

pub hand_out-requires-clause-own : goal.hand_out-requires-clause-own
hand_out-requires-clause-own c = (arc_value c.args.running.heap, c.requires.heaps.1, c.args.running.first)

pub invariant_of-running : goal.invariant_of-running
invariant_of-running c = record {
  own = c.args.running.own;
  counted = c.args.running.counted;
  few = c.args.running.few;
  first = subst (λ (l : List MutatorView). AreFirst (arc_value c.args.running.heap) l) (sym c.hand_out.ensures.home) (λ k d lt. absurd (omega (arith, lt)));
  whole = λ some. absurd (omega (arith, some, ap length c.hand_out.ensures.home));
  room = omega (arith, c.hand_out.ensures.capacity, c.args.running.room);
}

pub returns-clause-heap : goal.returns-clause-heap
returns-clause-heap c = refl

pub returns-clause-collector : goal.returns-clause-collector
returns-clause-collector c = refl

pub returns-clause-home : goal.returns-clause-home
returns-clause-home c = c.hand_out.ensures.home

pub returns-clause-count : goal.returns-clause-count
returns-clause-count c = refl

pub returns-clause-out : goal.returns-clause-out
returns-clause-out c = λ k d e lt. c.hand_out.ensures.out (arc_value c.args.running.heap) c.requires.heaps.1 k d e (omega (arith, lt, c.requires.all))

pub returns-clause-others : goal.returns-clause-others
returns-clause-others c = λ k d ge. c.hand_out.ensures.others k d (omega (arith, ge, c.requires.all))
