-- The contract of `tell_old_entries`: the entries of an older buffer.
use Rattle.std.proofs.Common.{◌≡◌, ℕ, ◌<◌, ◌∷◌, ◌++◌, [], None, Option, List, length, map, take, get_or, refl, arith, sym, ap, ◌∙◌}
use Rattle.rec_word.specs.Word.{is_slot}
use Rattle.rec_counts.specs.Lists.{one}
use Rattle.rec_counts.specs.Targets.{old_target, slots_in}
use Rattle.rec_counts.proofs.Naming.{named-at, slots_more, there}
use Rattle.rec_counts.proofs.Tells.{tells_none, tells_same, tells_then}
use Rattle.std.proofs.lemmas.List.{get_or-map, length-map, take_all}
use Rattle.rec_counts.proofs.telling.tell_old_entries.Goals as goal

pub loop-entry-init : goal.loop-entry-init
loop-entry-init c = record { marked = c.requires.marked; tells = tells_none _ _ _ _ _ (λ x. refl) (λ x. refl) refl }

pub tell_less-requires-clause-marked : goal.tell_less-requires-clause-marked
tell_less-requires-clause-marked c = c.loop-entry.invariant.marked

pub tell_less-requires-clause-in_range : goal.tell_less-requires-clause-in_range
tell_less-requires-clause-in_range c =
    let ts : List (Option ℕ) = map old_target c.args.entries.now in
    let h : c.loop-entry.entry-index < length ts = omega (arith, length-map c.args.entries.now old_target, c.loop-entry-test.true) in
    let e : get_or ts c.loop-entry.entry-index None ≡ c.old_target.result = get_or-map old_target c.args.entries.now c.loop-entry.entry-index _ None c.loop-entry-test.true ∙ sym c.old_target.ensures in
    there _ _ (λ x l. omega (arith, ap (λ t. one (is_slot x t)) e, named-at x ts c.loop-entry.entry-index h, c.requires.in_range x (omega (arith, l, c.loop-entry.auto.slots))))

pub loop-entry-preserved : goal.loop-entry-preserved
loop-entry-preserved c =
    let ts : List (Option ℕ) = map old_target c.args.entries.now in
    let i : ℕ = c.loop-entry.entry-index in
    let h : i < length ts = omega (arith, length-map c.args.entries.now old_target, c.loop-entry-test.true) in
    let e : get_or ts i None ≡ c.old_target.result = get_or-map old_target c.args.entries.now i _ None c.loop-entry-test.true ∙ sym c.old_target.ensures in
    record {
      marked = c.tell_less.ensures.marked ∙ c.loop-entry.invariant.marked ∙ sym c.tell_less.ensures.many;
      tells = tells_then _ _ _ (λ x. refl) (λ x. refl) (slots_more ts i h ∙ ap (λ t. slots_in (take i ts) ++ slots_in (t ∷ [])) e) c.loop-entry.invariant.tells c.tell_less.ensures;
    }

pub returns : goal.returns
returns c = tells_same _ _ _ (λ x. refl) (λ x. refl) (ap slots_in (sym (take_all c.loop-entry.entry-index (map old_target c.args.entries.now) (omega (arith, length-map c.args.entries.now old_target))))) c.loop-entry.invariant.tells
