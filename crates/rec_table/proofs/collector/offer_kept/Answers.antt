-- The contract of `offer_kept`: offers the label that the teller keeps.
use Rattle.std.proofs.Common.{◌≡◌, ℕ, Option, Some, None, IfNone, IfSome, IsNone, IsSome, true≢false, refl, sym, ◌∙◌, subst, arith}
use Rattle.std.proofs.lemmas.Bool.{false≢true}
use Rattle.rec_table.proofs.collector.offer_kept.Goals as goal

kept_none : (o : Option ℕ) → IsNone o → o ≡ None
kept_none None none = refl
kept_none (Some x) none = absurd (true≢false none)

pub returns-in_err-label-clause-told : goal.returns-in_err-label-clause-told
returns-in_err-label-clause-told g c = refl

pub returns-in_err-label-clause-none : goal.returns-in_err-label-clause-none
returns-in_err-label-clause-none g c = subst (λ (o : Option ℕ). IfNone o (c.args.teller.now.kept ≡ None)) (sym c.from_residual.ensures) (sym c.kept.ensures ∙ c.in_err-label.was)

pub returns-in_err-label-clause-held : goal.returns-in_err-label-clause-held
returns-in_err-label-clause-held g c = subst (λ (o : Option ℕ). IfSome o (λ label. c.args.teller.now.kept ≡ Some label)) (sym c.from_residual.ensures) tt

pub returns-in_err-label-clause-kept : goal.returns-in_err-label-clause-kept
returns-in_err-label-clause-kept g c = subst (λ (o : Option ℕ). IfSome o (λ label. c.args.teller.now.kept ≡ Some label)) (sym c.from_residual.ensures) tt

pub returns-in_err-label-clause-unsent : goal.returns-in_err-label-clause-unsent
returns-in_err-label-clause-unsent g c = subst (λ (o : Option ℕ). IfSome o (λ _. g.T.Tube.sent c.args.teller.now.tube ≡ g.T.Tube.sent c.args.teller.now.tube)) (sym c.from_residual.ensures) tt

pub returns-in_err-label-clause-refused : goal.returns-in_err-label-clause-refused
returns-in_err-label-clause-refused g c = λ some. absurd (false≢true (subst IsSome (sym c.kept.ensures ∙ c.in_err-label.was) some))

pub returns-in_err-label-clause-never_falls : goal.returns-in_err-label-clause-never_falls
returns-in_err-label-clause-never_falls g c = omega arith

pub returns-in_err-label-clause-same : goal.returns-in_err-label-clause-same
returns-in_err-label-clause-same g c = g.met.T.Tube.same_at_first c.args.teller.now.tube

pub returns-then-again-clause-told : goal.returns-then-again-clause-told
returns-then-again-clause-told g c = c.again.ensures.told

pub returns-then-again-clause-none : goal.returns-then-again-clause-none
returns-then-again-clause-none g c = kept_none c.again.new.self.kept (c.again.ensures.none.0 c.if-again.true)

pub returns-then-again-clause-refused : goal.returns-then-again-clause-refused
returns-then-again-clause-refused g c = λ some. absurd (false≢true (subst IsSome (kept_none c.again.new.self.kept (c.again.ensures.none.0 c.if-again.true)) some))

pub returns-then-again-clause-never_falls : goal.returns-then-again-clause-never_falls
returns-then-again-clause-never_falls g c = c.again.ensures.never_falls

pub returns-then-again-clause-same : goal.returns-then-again-clause-same
returns-then-again-clause-same g c = c.again.ensures.same

pub returns-else-again-clause-told : goal.returns-else-again-clause-told
returns-else-again-clause-told g c = c.again.ensures.told

pub returns-else-again-clause-held : goal.returns-else-again-clause-held
returns-else-again-clause-held g c = sym c.kept.ensures ∙ c.in_ok-label.was

pub returns-else-again-clause-kept : goal.returns-else-again-clause-kept
returns-else-again-clause-kept g c = c.again.ensures.kept c.if-again.false ∙ sym c.kept.ensures ∙ c.in_ok-label.was

pub returns-else-again-clause-unsent : goal.returns-else-again-clause-unsent
returns-else-again-clause-unsent g c = c.again.ensures.unsent c.if-again.false

pub returns-else-again-clause-refused : goal.returns-else-again-clause-refused
returns-else-again-clause-refused g c = λ some. c.again.ensures.rose c.if-again.false

pub returns-else-again-clause-never_falls : goal.returns-else-again-clause-never_falls
returns-else-again-clause-never_falls g c = c.again.ensures.never_falls

pub returns-else-again-clause-same : goal.returns-else-again-clause-same
returns-else-again-clause-same g c = c.again.ensures.same
