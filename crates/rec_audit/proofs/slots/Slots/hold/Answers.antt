-- The contract of `hold`: registers hold these slots.
use Rattle.std.proofs.Common.{ℕ, List, ◌++◌, refl, sym, ap, ◌∙◌, arith}
use Rattle.std.proofs.lemmas.List.{take_all, append-nil}
use Rattle.rec_audit.specs.declared.slots.Slots.{Slots}
use Rattle.rec_audit.specs.Graph.{held}
use Rattle.rec_audit.proofs.Held.{held_more_no, held_more_yes}
use Rattle.rec_audit.proofs.slots.Slots.hold.Goals as goal
use Rattle.rec_audit.proofs.slots.Slots.hold.Goals.{then-held-gt0+in_ok-push, else-held-gt0}

pub loop-held-init : goal.loop-held-init
loop-held-init c = record { taken = refl; named = sym (append-nil c.args.self.now.named.items) }

pub loop-held-preserved : goal.loop-held-preserved
loop-held-preserved c =
    elim c.if-held-gt0.branch [
      | then-held-gt0+in_ok-push w ↦ record {
        taken = ap (λ (s : Slots). s.taken) w.self-is ∙ c.loop-held.invariant.taken;
        named = ap (λ (s : Slots). s.named.items) w.self-is ∙ held_more_yes c.args.registers.now c.args.self.now.named.items c.loop-held.self.named.items _ c.loop-held.held-index c.loop-held-test.true w.if-held-gt0.true c.loop-held.invariant.named w.in_ok-push.ensures.items;
      }
      | else-held-gt0 w ↦ record {
        taken = ap (λ (s : Slots). s.taken) w.self-is ∙ c.loop-held.invariant.taken;
        named = ap (λ (s : Slots). s.named.items) w.self-is ∙ held_more_no c.args.registers.now c.args.self.now.named.items c.loop-held.self.named.items c.loop-held.held-index c.loop-held-test.true w.if-held-gt0.false c.loop-held.invariant.named;
      }
    ]

pub returns-clause-taken : goal.returns-clause-taken
returns-clause-taken c = c.loop-held.invariant.taken

pub returns-clause-named : goal.returns-clause-named
returns-clause-named c = c.loop-held.invariant.named ∙ ap (λ (t : List ℕ). c.args.self.now.named.items ++ held t) (take_all c.loop-held.held-index c.args.registers.now (omega arith))
