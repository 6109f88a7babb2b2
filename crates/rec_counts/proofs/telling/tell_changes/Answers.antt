-- The contract of `tell_changes`: the registers of one mutator in a steady heap.
use Rattle.std.proofs.Common.{ℕ, true, ◌+◌, ◌++◌, ◌∷◌, [], Option, List, take, refl, arith, sym, ap, ◌∙◌}
use Rattle.rec_word.specs.Word.{is_slot}
use Rattle.rec_counts.specs.Lists.{one}
use Rattle.rec_counts.specs.Targets.{named, slots_in, told_registers}
use Rattle.rec_counts.proofs.Told.{told_at, told_length}
use Rattle.rec_counts.proofs.Naming.{named-at, named-nil, named_more, slots_more, there}
use Rattle.rec_counts.proofs.Tells.{tells_none, tells_same, tells_then}
use Rattle.std.proofs.lemmas.List.{take_all}
use Rattle.rec_counts.proofs.telling.tell_changes.Goals as goal

pub loop-place-init : goal.loop-place-init
loop-place-init c = record { marked = c.requires.marked; tells = tells_none _ _ _ _ _ (λ x. refl) (λ x. named-nil x) refl }

pub tell_change-requires-clause-marked : goal.tell_change-requires-clause-marked
tell_change-requires-clause-marked c = c.loop-place.invariant.marked

pub tell_change-requires-clause-newer : goal.tell_change-requires-clause-newer
tell_change-requires-clause-newer c = there _ _ (λ x l. omega (arith, named-at x c.args.newer.now c.loop-place.place (omega (arith, c.requires.alike, c.loop-place-test.true)), c.requires.in_range x (omega (arith, l, c.loop-place.auto.slots))))

pub tell_change-requires-clause-older : goal.tell_change-requires-clause-older
tell_change-requires-clause-older c = there _ _ (λ x l. omega (arith, named-at x c.args.older.now c.loop-place.place c.loop-place-test.true, c.requires.in_range x (omega (arith, l, c.loop-place.auto.slots))))

pub loop-place-preserved : goal.loop-place-preserved
loop-place-preserved c =
    let new : List (Option ℕ) = told_registers true c.args.newer.now c.args.older.now in
    let old : List (Option ℕ) = told_registers true c.args.older.now c.args.newer.now in
    let i : ℕ = c.loop-place.place in
    record {
      marked = c.tell_change.ensures.marked ∙ c.loop-place.invariant.marked ∙ sym c.tell_change.ensures.many;
      tells = tells_then _ _ _ (λ x. refl)
          (λ x. named_more x new i (omega (arith, told_length true c.args.newer.now c.args.older.now, c.requires.alike, c.loop-place-test.true)) ∙ ap (λ t. named x (take i new) + one (is_slot x t)) (told_at true c.args.newer.now c.args.older.now i))
          (slots_more old i (omega (arith, told_length true c.args.older.now c.args.newer.now, c.loop-place-test.true)) ∙ ap (λ t. slots_in (take i old) ++ slots_in (t ∷ [])) (told_at true c.args.older.now c.args.newer.now i))
          c.loop-place.invariant.tells c.tell_change.ensures;
    }

pub returns : goal.returns
returns c =
    let new : List (Option ℕ) = told_registers true c.args.newer.now c.args.older.now in
    let old : List (Option ℕ) = told_registers true c.args.older.now c.args.newer.now in
    tells_same _ _ _ (λ x. refl) (λ x. ap (named x) (sym (take_all c.loop-place.place new (omega (arith, told_length true c.args.newer.now c.args.older.now, c.requires.alike)))))
    (ap slots_in (sym (take_all c.loop-place.place old (omega (arith, told_length true c.args.older.now c.args.newer.now))))) c.loop-place.invariant.tells
