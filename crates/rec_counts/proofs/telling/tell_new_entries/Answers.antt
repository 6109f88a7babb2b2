-- The contract of `tell_new_entries`: the entries of a newer buffer.
use Rattle.std.proofs.Common.{ℕ, ◌+◌, ◌<◌, None, Option, List, length, map, take, get_or, refl, arith, sym, ap, ◌∙◌}
use Rattle.rec_word.specs.Word.{is_slot}
use Rattle.rec_counts.specs.Lists.{one}
use Rattle.rec_counts.specs.Targets.{leaf_born, named, new_target}
use Rattle.rec_counts.proofs.Naming.{named-at, named-nil, named_more, there}
use Rattle.rec_counts.proofs.Tells.{tells_none, tells_same, tells_then}
use Rattle.std.proofs.lemmas.List.{get_or-map, length-map, take_all}
use Rattle.rec_log.specs.declared.entry.Entry.{Entry}
use Rattle.rec_log.specs.declared.entry.Entry.TheVariants.{Put}
use Rattle.rec_counts.proofs.telling.tell_new_entries.Goals as goal

pub loop-entry-init : goal.loop-entry-init
loop-entry-init c = record { marked = c.requires.marked; tells = tells_none _ _ _ _ _ (λ x. named-nil x) (λ x. named-nil x) refl }

pub tell_new_entry-requires-clause-marked : goal.tell_new_entry-requires-clause-marked
tell_new_entry-requires-clause-marked c = c.loop-entry.invariant.marked

pub tell_new_entry-requires-clause-born : goal.tell_new_entry-requires-clause-born
tell_new_entry-requires-clause-born c =
    let ts : List (Option ℕ) = map leaf_born c.args.entries.now in
    let h : c.loop-entry.entry-index < length ts = omega (arith, length-map c.args.entries.now leaf_born, c.loop-entry-test.true) in
    there (length c.loop-entry.slots) (leaf_born (get_or c.args.entries.now c.loop-entry.entry-index (Put 0 0 0))) (λ x l. omega (arith, ap (λ t. one (is_slot x t)) (get_or-map leaf_born c.args.entries.now c.loop-entry.entry-index (Put 0 0 0) None c.loop-entry-test.true), named-at x ts c.loop-entry.entry-index h, c.requires.in_range x (omega (arith, l, c.loop-entry.auto.slots))))

pub tell_new_entry-requires-clause-in_range : goal.tell_new_entry-requires-clause-in_range
tell_new_entry-requires-clause-in_range c =
    let ts : List (Option ℕ) = map new_target c.args.entries.now in
    let h : c.loop-entry.entry-index < length ts = omega (arith, length-map c.args.entries.now new_target, c.loop-entry-test.true) in
    there (length c.loop-entry.slots) (new_target (get_or c.args.entries.now c.loop-entry.entry-index (Put 0 0 0))) (λ x l. omega (arith, ap (λ t. one (is_slot x t)) (get_or-map new_target c.args.entries.now c.loop-entry.entry-index (Put 0 0 0) None c.loop-entry-test.true), named-at x ts c.loop-entry.entry-index h, c.requires.in_range x (omega (arith, l, c.loop-entry.auto.slots))))

pub loop-entry-preserved : goal.loop-entry-preserved
loop-entry-preserved c =
    let es : List Entry = c.args.entries.now in
    let i : ℕ = c.loop-entry.entry-index in
    record {
      marked = c.tell_new_entry.ensures.marked ∙ c.loop-entry.invariant.marked ∙ sym c.tell_new_entry.ensures.many;
      tells = tells_then _ _ _
          (λ x. named_more x (map leaf_born es) i (omega (arith, length-map es leaf_born, c.loop-entry-test.true)) ∙ ap (λ t. named x (take i (map leaf_born es)) + one (is_slot x t)) (get_or-map leaf_born es i _ None c.loop-entry-test.true))
          (λ x. named_more x (map new_target es) i (omega (arith, length-map es new_target, c.loop-entry-test.true)) ∙ ap (λ t. named x (take i (map new_target es)) + one (is_slot x t)) (get_or-map new_target es i _ None c.loop-entry-test.true))
          refl c.loop-entry.invariant.tells c.tell_new_entry.ensures;
    }

pub returns : goal.returns
returns c = tells_same _ _ _
    (λ x. ap (named x) (sym (take_all c.loop-entry.entry-index (map leaf_born c.args.entries.now) (omega (arith, length-map c.args.entries.now leaf_born)))))
    (λ x. ap (named x) (sym (take_all c.loop-entry.entry-index (map new_target c.args.entries.now) (omega (arith, length-map c.args.entries.now new_target)))))
    refl c.loop-entry.invariant.tells
