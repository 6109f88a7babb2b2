-- The contract of `Machine::learn`: learns the word that was found, by phase.
use Rattle.std.proofs.Common.{◌≡◌, ℕ, sym, ap, subst, ◌∙◌}
use Rattle.rec_mutator.specs.Next.{begun_op, next_at, next_of}
use Rattle.rec_mutator.specs.Private.{Private, IsAt, IsMachine}
use Rattle.rec_mutator.specs.Took.{took_of, took_at, IsFound}
use Rattle.rec_mutator.specs.declared.phase.Phase.{Phase}
use Rattle.rec_mutator.specs.declared.phase.Phase.TheVariants.{Begun}
use Rattle.rec_mutator.specs.declared.work.Work.{Work}
use Rattle.rec_mutator.proofs.machine.Machine.learn.Goals as goal

-- what is learnt in the phase that the machine is in, whose view this is, is what the step finds
learns : {inside p q : Private} (word : ℕ) {at : Phase} → inside ≡ p → inside.phase ≡ at → q ≡ took_at p word at → q ≡ took_of p word
unfolding took_of
learns {p = p} word view is took = took ∙ sym (ap (took_at p word) (ap (λ (x : Private). x.phase) (sym view) ∙ is))

-- the phase that the machine is in, and what holds there
phase_now : {inside p : Private} {at : Phase} → inside ≡ p → inside.phase ≡ at → p.phase ≡ at
phase_now view is = ap (λ (q : Private). q.phase) (sym view) ∙ is

machine_now : {inside p : Private} → IsMachine inside → inside ≡ p → IsMachine p
machine_now m view = subst IsMachine view m

now_at : {inside p : Private} {at : Phase} → IsMachine inside → inside ≡ p → inside.phase ≡ at → IsAt p at
now_at {p = p} m view is = subst (λ (at : Phase). IsAt p at) (phase_now view is) (machine_now m view).now

-- what the first step of a work found
found_first : {inside p : Private} {work : Work} (word : ℕ) → inside ≡ p → inside.phase ≡ Begun work → IsFound p (next_of p) word → IsFound p (begun_op p work) word
unfolding next_of next_at
found_first {p = p} word view is found = subst (λ (at : Phase). IsFound p (next_at p at) word) (phase_now view is) found

pub returns-in-Begun-clause-took : goal.returns-in-Begun-clause-took
unfolding took_at
returns-in-Begun-clause-took c = learns c.args.word c.self.view_is c.in-Begun.is c.took_begun.ensures.took

pub returns-in-Scanning-clause-took : goal.returns-in-Scanning-clause-took
unfolding took_at
returns-in-Scanning-clause-took c = learns c.args.word c.self.view_is c.in-Scanning.is c.took_probe.ensures.took

pub returns-in-Scanned-clause-took : goal.returns-in-Scanned-clause-took
unfolding took_at
returns-in-Scanned-clause-took c = learns c.args.word c.self.view_is c.in-Scanned.is c.took_last.ensures.took

pub returns-in-Storing-clause-took : goal.returns-in-Storing-clause-took
unfolding took_at
returns-in-Storing-clause-took c = learns c.args.word c.self.view_is c.in-Storing.is c.took_store.ensures.took

pub returns-in-Crossing-clause-took : goal.returns-in-Crossing-clause-took
unfolding took_at
returns-in-Crossing-clause-took c = learns c.args.word c.self.view_is c.in-Crossing.is c.took_box.ensures.took

pub returns-in-Giving-clause-took : goal.returns-in-Giving-clause-took
unfolding took_at
returns-in-Giving-clause-took c = learns c.args.word c.self.view_is c.in-Giving.is c.gave_box.ensures.took

pub returns-in-Leaving-clause-took : goal.returns-in-Leaving-clause-took
unfolding took_at
returns-in-Leaving-clause-took c = learns c.args.word c.self.view_is c.in-Leaving.is c.let_go.ensures.took

pub returns-in-Parting-clause-took : goal.returns-in-Parting-clause-took
unfolding took_at
returns-in-Parting-clause-took c = learns c.args.word c.self.view_is c.in-Parting.is c.parted.ensures.took

pub took_begun-requires-clause-valid : goal.took_begun-requires-clause-valid
took_begun-requires-clause-valid c = (now_at c.self.invariant c.self.view_is c.in-Begun.is).0

pub took_begun-requires-clause-first : goal.took_begun-requires-clause-first
took_begun-requires-clause-first c = (now_at c.self.invariant c.self.view_is c.in-Begun.is).1

pub took_begun-requires-clause-stamp : goal.took_begun-requires-clause-stamp
took_begun-requires-clause-stamp c = (now_at c.self.invariant c.self.view_is c.in-Begun.is).2

pub took_begun-requires-clause-found : goal.took_begun-requires-clause-found
took_begun-requires-clause-found c = found_first c.args.word c.self.view_is c.in-Begun.is c.requires.found

pub took_probe-requires-clause-scan : goal.took_probe-requires-clause-scan
took_probe-requires-clause-scan c = (now_at c.self.invariant c.self.view_is c.in-Scanning.is).0

pub took_probe-requires-clause-count : goal.took_probe-requires-clause-count
took_probe-requires-clause-count c = (now_at c.self.invariant c.self.view_is c.in-Scanning.is).1

pub took_probe-requires-clause-steps : goal.took_probe-requires-clause-steps
took_probe-requires-clause-steps c = (now_at c.self.invariant c.self.view_is c.in-Scanning.is).2

pub took_last-requires : goal.took_last-requires
took_last-requires c = record { steps = (now_at c.self.invariant c.self.view_is c.in-Scanned.is).1 }

pub took_store-requires-clause-store : goal.took_store-requires-clause-store
took_store-requires-clause-store c = (now_at c.self.invariant c.self.view_is c.in-Storing.is).0

pub took_store-requires-clause-second : goal.took_store-requires-clause-second
took_store-requires-clause-second c = (now_at c.self.invariant c.self.view_is c.in-Storing.is).1

pub took_box-requires : goal.took_box-requires
took_box-requires c = record { phase = phase_now c.self.view_is c.in-Crossing.is }

pub gave_box-requires : goal.gave_box-requires
gave_box-requires c = record { phase = phase_now c.self.view_is c.in-Giving.is }

pub let_go-requires : goal.let_go-requires
let_go-requires c = record { phase = phase_now c.self.view_is c.in-Leaving.is }

pub parted-requires : goal.parted-requires
parted-requires c = record { phase = phase_now c.self.view_is c.in-Parting.is }

pub returns-in-Begun-clause-was : goal.returns-in-Begun-clause-was
returns-in-Begun-clause-was c = machine_now c.self.invariant c.self.view_is

pub returns-in-Begun-clause-kept : goal.returns-in-Begun-clause-kept
returns-in-Begun-clause-kept c = c.took_begun.ensures.kept

pub returns-in-Scanning-clause-was : goal.returns-in-Scanning-clause-was
returns-in-Scanning-clause-was c = machine_now c.self.invariant c.self.view_is

pub returns-in-Scanning-clause-kept : goal.returns-in-Scanning-clause-kept
returns-in-Scanning-clause-kept c = c.took_probe.ensures.kept

pub returns-in-Scanned-clause-was : goal.returns-in-Scanned-clause-was
returns-in-Scanned-clause-was c = machine_now c.self.invariant c.self.view_is

pub returns-in-Scanned-clause-kept : goal.returns-in-Scanned-clause-kept
returns-in-Scanned-clause-kept c = c.took_last.ensures.kept

pub returns-in-Storing-clause-was : goal.returns-in-Storing-clause-was
returns-in-Storing-clause-was c = machine_now c.self.invariant c.self.view_is

pub returns-in-Storing-clause-kept : goal.returns-in-Storing-clause-kept
returns-in-Storing-clause-kept c = c.took_store.ensures.kept

pub returns-in-Crossing-clause-was : goal.returns-in-Crossing-clause-was
returns-in-Crossing-clause-was c = machine_now c.self.invariant c.self.view_is

pub returns-in-Crossing-clause-kept : goal.returns-in-Crossing-clause-kept
returns-in-Crossing-clause-kept c = c.took_box.ensures.kept

pub returns-in-Giving-clause-was : goal.returns-in-Giving-clause-was
returns-in-Giving-clause-was c = machine_now c.self.invariant c.self.view_is

pub returns-in-Giving-clause-kept : goal.returns-in-Giving-clause-kept
returns-in-Giving-clause-kept c = c.gave_box.ensures.kept

pub returns-in-Leaving-clause-was : goal.returns-in-Leaving-clause-was
returns-in-Leaving-clause-was c = machine_now c.self.invariant c.self.view_is

pub returns-in-Leaving-clause-kept : goal.returns-in-Leaving-clause-kept
returns-in-Leaving-clause-kept c = c.let_go.ensures.kept

pub returns-in-Parting-clause-was : goal.returns-in-Parting-clause-was
returns-in-Parting-clause-was c = machine_now c.self.invariant c.self.view_is

pub returns-in-Parting-clause-kept : goal.returns-in-Parting-clause-kept
returns-in-Parting-clause-kept c = c.parted.ensures.kept

pub returns-in-Idle-clause-was : goal.returns-in-Idle-clause-was
returns-in-Idle-clause-was c = machine_now c.self.invariant c.self.view_is
