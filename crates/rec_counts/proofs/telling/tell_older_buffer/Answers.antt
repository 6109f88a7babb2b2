-- The contract of `tell_older_buffer`: one older buffer, and the registers of its mutator.
use Rattle.std.proofs.Common.{◌≡◌, ℕ, ◌++◌, Option, List, length, map, refl, arith, sym, ap, ◌∙◌}
use Rattle.rec_counts.specs.Targets.{named, old_target, slots_in, taken_targets, told_buffer, told_registers}
use Rattle.rec_counts.proofs.Tells.{tells_then}
use Rattle.std.proofs.lemmas.List.Elements.{filter_map-append}
use Rattle.rec_counts.proofs.Naming.{named-append}
use Rattle.rec_counts.proofs.telling.tell_older_buffer.Goals as goal

pub tell_old_entries-requires : goal.tell_old_entries-requires
tell_old_entries-requires c = record {
  marked = c.requires.marked;
  in_range = λ x l. omega (arith, ap (λ es. named x (map old_target es)) c.entries.ensures.entries, named-append x (map old_target c.args.older.now.entries) c.args.older.now.snapshot, c.requires.in_range x l);
}

pub tell_registers-requires : goal.tell_registers-requires
tell_registers-requires c = record {
  marked = c.tell_old_entries.ensures.marked ∙ c.requires.marked ∙ sym c.tell_old_entries.ensures.many;
  alike = ap (λ (r : List (Option ℕ)). length r) c.snapshot-2.ensures ∙ c.requires.alike ∙ sym (ap (λ (r : List (Option ℕ)). length r) c.snapshot.ensures);
  in_range = λ x l. omega (arith, ap (named x) c.snapshot.ensures, ap (named x) c.snapshot-2.ensures, named-append x (map old_target c.args.older.now.entries) c.args.older.now.snapshot, c.requires.in_range x (omega (arith, l, c.tell_old_entries.ensures.many)));
}

pub returns : goal.returns
returns c =
    let rows : ◌≡◌ {A = List (Option ℕ)} c.snapshot-2.result.now c.args.older.now.snapshot = c.snapshot-2.ensures in
    let new : List (Option ℕ) → List (Option ℕ) → List (Option ℕ) = λ a b. told_registers c.args.steady a b in
    tells_then (λ x. 0) (λ x. named x (told_buffer c.args.steady c.args.newer.now c.args.older.now).snapshot) (slots_in (taken_targets (told_buffer c.args.steady c.args.older.now c.args.newer.now))) (λ x. refl)
    (λ x. omega (arith, ap (λ r. named x (new r c.snapshot-2.result.now)) c.snapshot.ensures, ap (λ r. named x (new c.args.newer.now.snapshot r)) c.snapshot-2.ensures))
    (filter_map-append (λ target. target) (map old_target c.args.older.now.entries) (new c.args.older.now.snapshot c.args.newer.now.snapshot)
    ∙ ap (λ es. slots_in (map old_target es) ++ slots_in (new c.args.older.now.snapshot c.args.newer.now.snapshot)) (sym c.entries.ensures.entries)
    ∙ ap (λ r. slots_in (map old_target c.entries.result.now) ++ slots_in (new r c.args.newer.now.snapshot)) (sym c.snapshot-2.ensures)
    ∙ ap (λ r. slots_in (map old_target c.entries.result.now) ++ slots_in (new c.snapshot-2.result.now r)) (sym c.snapshot.ensures))
    c.tell_old_entries.ensures c.tell_registers.ensures
