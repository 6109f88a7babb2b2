-- The contract of `Machine::took_sweep`: a slot more is swept.
use Rattle.std.proofs.Common.{◌≡◌, ◌+◌, is_some, not, Option, true, false, sym, ◌∙◌, ap}
use Rattle.rec_collector.proofs.Common.{Op, Closing, Sweeping}
use Rattle.rec_release.specs.Sweep.{next_of}
use Rattle.rec_collector.proofs.Sweeping.{same_machine, slot_due, sweeping_on, sweeps_last, sweeps_more}
use Rattle.rec_collector.proofs.machine.Machine.took_sweep.Goals as goal
use Rattle.rec_collector.proofs.machine.Machine.took_sweep.Goals.{then-is_none, else-is_none}

pub took-requires-clause-busy : goal.took-requires-clause-busy
took-requires-clause-busy c = slot_due _ c.in-Sweeping.sweep c.in-Sweeping.swept (same_machine c.self-inside.view_is c.self.invariant) c.in-Sweeping.is

pub invariant_of-self-2 : goal.invariant_of-self-2
invariant_of-self-2 c =
    elim c.if-is_none.branch [
      | then-is_none w ↦
          let d : is_some (next_of c.took.new.self) ≡ false = sym (ap (λ (o : Option Op). is_some o) c.next.ensures.next) ∙ c.is_none.ensures ∙ ap not w.if-is_none.true in
          rw w.self-inside-inside-is (sweeping_on _ c.in-Sweeping.sweep c.in-Sweeping.swept c.args.word (record { due = c.took.new.self; counts = c.took.new.counts }) (Closing (c.in-Sweeping.swept + 1)) (same_machine c.self-inside.view_is c.self.invariant) c.in-Sweeping.is c.took.ensures.took c.rules.ensures (sweeps_last (c.in-Sweeping.swept + 1) c.took.new.self d))
      | else-is_none w ↦
          let d : is_some (next_of c.took.new.self) ≡ true = sym (ap (λ (o : Option Op). is_some o) c.next.ensures.next) ∙ c.is_none.ensures ∙ ap not w.if-is_none.false in
          rw w.self-inside-inside-is (sweeping_on _ c.in-Sweeping.sweep c.in-Sweeping.swept c.args.word (record { due = c.took.new.self; counts = c.took.new.counts }) (Sweeping c.took.new.self (c.in-Sweeping.swept + 1)) (same_machine c.self-inside.view_is c.self.invariant) c.in-Sweeping.is c.took.ensures.took c.rules.ensures (sweeps_more (c.in-Sweeping.swept + 1) c.took.new.self d))
    ]

pub returns-clause-kept : goal.returns-clause-kept
returns-clause-kept c =
    elim c.if-is_none.branch [
      | then-is_none w ↦
          let d : is_some (next_of c.took.new.self) ≡ false = sym (ap (λ (o : Option Op). is_some o) c.next.ensures.next) ∙ c.is_none.ensures ∙ ap not w.if-is_none.true in
          rw w.self-inside-inside-is (sweeping_on _ c.in-Sweeping.sweep c.in-Sweeping.swept c.args.word (record { due = c.took.new.self; counts = c.took.new.counts }) (Closing (c.in-Sweeping.swept + 1)) (same_machine c.self-inside.view_is c.self.invariant) c.in-Sweeping.is c.took.ensures.took c.rules.ensures (sweeps_last (c.in-Sweeping.swept + 1) c.took.new.self d))
      | else-is_none w ↦
          let d : is_some (next_of c.took.new.self) ≡ true = sym (ap (λ (o : Option Op). is_some o) c.next.ensures.next) ∙ c.is_none.ensures ∙ ap not w.if-is_none.false in
          rw w.self-inside-inside-is (sweeping_on _ c.in-Sweeping.sweep c.in-Sweeping.swept c.args.word (record { due = c.took.new.self; counts = c.took.new.counts }) (Sweeping c.took.new.self (c.in-Sweeping.swept + 1)) (same_machine c.self-inside.view_is c.self.invariant) c.in-Sweeping.is c.took.ensures.took c.rules.ensures (sweeps_more (c.in-Sweeping.swept + 1) c.took.new.self d))
    ]
