-- The contract of `Machine::let_go`: every register is null, and the log is retired as the last one.
use Rattle.std.proofs.Common.{◌≡◌, ℕ, Option, None, List, true, refl, sym, ap, subst, ◌∙◌, arith}
use Rattle.std.proofs.lemmas.List.Elements.{All-replicate}
use Rattle.rec_log.specs.declared.contents.Contents.{Contents}
use Rattle.rec_word.specs.Word.{IsTarget}
use Rattle.rec_mutator.specs.Inside.{private}
use Rattle.rec_mutator.specs.Private.{Private, IsAt, IsMachine}
use Rattle.rec_mutator.specs.Took.{letting_go, moved, nulls_of, took_at}
use Rattle.rec_mutator.specs.declared.phase.Phase.TheVariants.{Leaving, Retiring}
use Rattle.rec_mutator.proofs.Refusals.{at_phase}
use Rattle.rec_mutator.proofs.machine.Machine.let_go.Goals as goal

-- the registers are null, and the log has them as its snapshot
gone : (p : Private) {registers : List (Option ℕ)} {log : Contents} → registers ≡ nulls_of p → log ≡ record p.log { snapshot = registers; last = true } → moved (record p { registers = registers; log = log }) Retiring ≡ letting_go p
gone p none last =
    let retires : List (Option ℕ) → Contents = λ own. record p.log { snapshot = own; last = true } in
    let all = last ∙ ap retires none in
    λ i. moved (record p { registers = none i; log = all i }) Retiring

-- that leaves a machine
gone_keeps : (p : Private) → IsMachine p → p.phase ≡ Leaving → IsMachine (letting_go p)
gone_keeps p m phase =
    let now : IsAt p Leaving = at_phase p Leaving m phase in
    record {
      number = m.number;
      epoch = m.epoch;
      stamped = m.stamped;
      first_slot = m.first_slot;
      last_slot = m.last_slot;
      capacity = m.capacity;
      entries = m.entries;
      registers = All-replicate IsTarget _ None tt;
      snapshot = refl;
      from = m.from;
      now = (omega (arith, now.0), now.1);
    }

pub returns-clause-took : goal.returns-clause-took
unfolding took_at
returns-clause-took c = gone (private c.self.inside) c.clear_all.ensures c.retire_last.ensures ∙ ap letting_go c.self.view_is

pub invariant_of-self : goal.invariant_of-self
invariant_of-self c =
    let p : Private = private c.self.inside in
    subst IsMachine (sym (gone p c.clear_all.ensures c.retire_last.ensures)) (gone_keeps p c.self.invariant (ap (λ (q : Private). q.phase) c.self.view_is ∙ c.requires.phase))

pub returns-clause-kept : goal.returns-clause-kept
returns-clause-kept c = invariant_of-self c
