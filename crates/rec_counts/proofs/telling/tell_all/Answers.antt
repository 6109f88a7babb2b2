-- The contract of `tell_all`: the registers of one mutator.
use Rattle.std.proofs.Common.{refl, arith, sym, ap, ◌∙◌}
use Rattle.rec_counts.specs.Targets.{named, slots_in}
use Rattle.rec_counts.proofs.Naming.{named-at, named-nil, named_more, slots_more, there}
use Rattle.rec_counts.proofs.Tells.{tells_none, tells_same, tells_then}
use Rattle.std.proofs.lemmas.List.{take_all}
use Rattle.rec_counts.proofs.telling.tell_all.Goals as goal

pub loop-place-init : goal.loop-place-init
loop-place-init c = record { marked = c.requires.marked; tells = tells_none _ _ _ _ _ (λ x. refl) (λ x. named-nil x) refl }

pub tell_register-requires-clause-marked : goal.tell_register-requires-clause-marked
tell_register-requires-clause-marked c = c.loop-place.invariant.marked

pub tell_register-requires-clause-newer : goal.tell_register-requires-clause-newer
tell_register-requires-clause-newer c = there _ _ (λ x l. omega (arith, named-at x c.args.newer.now c.loop-place.place (omega (arith, c.requires.alike, c.loop-place-test.true)), c.requires.in_range x (omega (arith, l, c.loop-place.auto.slots))))

pub tell_register-requires-clause-older : goal.tell_register-requires-clause-older
tell_register-requires-clause-older c = there _ _ (λ x l. omega (arith, named-at x c.args.older.now c.loop-place.place c.loop-place-test.true, c.requires.in_range x (omega (arith, l, c.loop-place.auto.slots))))

pub loop-place-preserved : goal.loop-place-preserved
loop-place-preserved c = record {
  marked = c.tell_register.ensures.marked ∙ c.loop-place.invariant.marked ∙ sym c.tell_register.ensures.many;
  tells = tells_then _ _ _ (λ x. refl) (λ x. named_more x c.args.newer.now c.loop-place.place (omega (arith, c.requires.alike, c.loop-place-test.true))) (slots_more c.args.older.now c.loop-place.place c.loop-place-test.true) c.loop-place.invariant.tells c.tell_register.ensures;
}

pub returns : goal.returns
returns c = tells_same _ _ _ (λ x. refl) (λ x. ap (named x) (sym (take_all c.loop-place.place c.args.newer.now (omega (arith, c.requires.alike))))) (ap slots_in (sym (take_all c.loop-place.place c.args.older.now (omega arith)))) c.loop-place.invariant.tells
