-- The contract of `Batch::tell`: what the buffers of two epochs tell of the slots.
use Rattle.std.proofs.Common.{ℕ, Bool, [], List, refl, arith, sym, ◌∙◌}
use Rattle.std.specs.List.{flat_map}
use Rattle.rec_counts.specs.Targets.{added, leaves, slots_in, taken_targets, told_buffers}
use Rattle.rec_counts.proofs.Told.{leaves_told, written_told}
use Rattle.rec_counts.proofs.Tells.{tells_then}
use Rattle.rec_log.specs.declared.contents.Contents.{Contents}
use Rattle.rec_counts.proofs.Naming.{added_parts}
use Rattle.rec_counts.proofs.ToldSlots.{told_same}
use Rattle.rec_counts.proofs.batch.BatchChanges.tell.Goals as goal

pub tell_newer-requires : goal.tell_newer-requires
tell_newer-requires c = record { marked = c.requires.marked; in_range = λ x l. omega (arith, added_parts x c.args.self.now.newer.now, c.requires.can.in_range x l) }

pub tell_older-requires : goal.tell_older-requires
tell_older-requires c = record {
  marked = c.tell_newer.ensures.marked ∙ c.requires.marked ∙ sym c.tell_newer.ensures.many;
  alike = c.requires.can.alike;
  in_range = λ x l. omega (arith, added_parts x c.args.self.now.newer.now, c.requires.can.in_range x (omega (arith, l, c.tell_newer.ensures.many)));
}

pub returns : goal.returns
returns c =
    let steady : Bool = c.args.self.now.steady in
    let newer : List Contents = c.args.self.now.newer.now in
    let older : List Contents = c.args.self.now.older.now in
    let new : List Contents = told_buffers steady newer older in
    let less : List ℕ = slots_in (flat_map taken_targets (told_buffers steady older newer)) in
    let all = tells_then (λ x. leaves x new) (λ x. added x new) less (λ x. omega (arith, leaves_told steady x newer older)) (λ x. omega (arith, added_parts x new, written_told steady x newer older)) refl c.tell_newer.ensures c.tell_older.ensures in
    λ before k. told_same (λ x. leaves x new) (λ x. added x new) less (λ x. omega arith) (λ x. omega arith) refl (all.told before (λ x. 0) (λ x. 0) [] k)
