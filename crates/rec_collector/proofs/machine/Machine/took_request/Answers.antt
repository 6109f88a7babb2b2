-- The contract of `Machine::took_request`: the next epoch is requested, if there is one.
use Rattle.std.proofs.Common.{◌+◌, ap, sym, ◌∙◌}
use Rattle.std.proofs.lemmas.Bool.{cond-false, cond-true, eq-eqb, ne_eqb}
use Rattle.rec_collector.proofs.Common.{behind, behind_turn, Private, requested, took_at, turn_at}
use Rattle.rec_collector.specs.Next.{is_spent}
use Rattle.rec_collector.proofs.machine.Machine.took_request.Goals as goal

pub returns-then-self-eq-EPOCHS-clause-took : goal.returns-then-self-eq-EPOCHS-clause-took
unfolding took_at
returns-then-self-eq-EPOCHS-clause-took c = sym (cond-true (is_spent c.args.self.now) c.args.self.now (behind (requested c.args.self.now) 0) (eq-eqb _ _ (ap (λ (p : Private). p.epoch + 1) (sym c.self.view_is) ∙ c.if-self-eq-EPOCHS.true)))

pub returns-then-self-eq-EPOCHS-clause-turn : goal.returns-then-self-eq-EPOCHS-clause-turn
unfolding turn_at
returns-then-self-eq-EPOCHS-clause-turn c = sym (cond-true (is_spent c.args.self.now) _ (behind_turn (requested c.args.self.now) 0) (eq-eqb _ _ (ap (λ (p : Private). p.epoch + 1) (sym c.self.view_is) ∙ c.if-self-eq-EPOCHS.true)))

pub returns-clause-took : goal.returns-clause-took
unfolding took_at
returns-clause-took c =
    c.gather_behind.ensures.took ∙ ap (λ (p : Private). behind (requested p) 0) c.self.view_is
    ∙ sym (cond-false (is_spent c.args.self.now) c.args.self.now (behind (requested c.args.self.now) 0) (ne_eqb _ _ (λ q. c.if-self-eq-EPOCHS.false (ap (λ (p : Private). p.epoch + 1) c.self.view_is ∙ q))))

pub returns-clause-turn : goal.returns-clause-turn
unfolding turn_at
returns-clause-turn c =
    c.gather_behind.ensures.turn ∙ ap (λ (p : Private). behind_turn (requested p) 0) c.self.view_is
    ∙ sym (cond-false (is_spent c.args.self.now) _ (behind_turn (requested c.args.self.now) 0) (ne_eqb _ _ (λ q. c.if-self-eq-EPOCHS.false (ap (λ (p : Private). p.epoch + 1) c.self.view_is ∙ q))))
