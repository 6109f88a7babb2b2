-- The contract of `Machine::took_probe`: a probe that wins its slot leaves a machine.
use Rattle.std.proofs.Common.{◌≡◌, ◌+◌, ◌<◌, ◌≤◌, Some, length, arith, ap, sym, subst, ◌∙◌}
use Rattle.std.specs.List.{All}
use Rattle.std.proofs.lemmas.List.{length-set}
use Rattle.std.proofs.lemmas.List.Elements.{All-set}
use Rattle.rec_word.specs.Word.{IsTarget}
use Rattle.rec_log.specs.declared.contents.Contents.{Contents}
use Rattle.rec_mutator.specs.Inside.{private}
use Rattle.rec_mutator.specs.Private.{Private, limit_of, probe_of, IsMachine, IsScan}
use Rattle.rec_mutator.specs.Took.{moved}
use Rattle.rec_mutator.specs.declared.work.Work.TheVariants as works
use Rattle.rec_mutator.proofs.Around.{behind_below}
use Rattle.rec_mutator.proofs.Machines.{answered_machine, one_more, slot_target, within_scan}
use Rattle.rec_mutator.proofs.machine.Machine.took_probe.Goals as goal

pub invariant_of-self : goal.invariant_of-self
invariant_of-self c =
    let p : Private = private c.self.inside in
    let scan : IsScan p c.args.reg = subst (λ (q : Private). IsScan q c.args.reg) (sym c.self.view_is) c.requires.scan in
    let probed : c.args.count < p.slots = subst (λ (q : Private). c.args.count < q.slots) (sym c.self.view_is) c.requires.count in
    let steps : p.steps ≡ c.args.count + 1 = ap (λ (q : Private). q.steps) c.self.view_is ∙ c.requires.steps in
    let slot : c.probe-slot.result ≡ probe_of p c.args.count = c.probe-slot.ensures ∙ sym (ap (λ (q : Private). probe_of q c.args.count) c.self.view_is) in
    let there : c.probe-slot.result < p.slots = subst (λ n. n < p.slots) (sym slot) (behind_below p.slots p.from c.args.count c.self.invariant.first_slot) in
    let targets = All-set IsTarget p.registers c.args.reg (Some c.probe-slot.result) (slot_target p c.probe-slot.result c.self.invariant there) c.self.invariant.registers in
    let within = subst (λ cmd. p.steps + 1 ≤ limit_of p.slots (works.Command cmd)) (sym c.allocation.ensures) (within_scan p c.args.reg c.args.label c.args.leaf (omega arith)) in
    subst (λ (log : Contents). IsMachine (moved (record p { registers = c.set.new.self; log = log }) c.answered-self-inside.result)) (sym c.note.ensures)
    (answered_machine c.self.invariant
    (subst (λ registers. All IsTarget registers) (sym c.set.ensures) targets)
    (one_more p _ scan.room)
    (ap length c.set.ensures ∙ length-set p.registers c.args.reg (Some c.probe-slot.result))
    within c.answered-self-inside.ensures)

pub returns-then-word-eq0-clause-kept : goal.returns-then-word-eq0-clause-kept
returns-then-word-eq0-clause-kept c = invariant_of-self c
