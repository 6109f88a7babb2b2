-- The contract of `tell_older`: the older buffers, and all registers.
use Rattle.std.proofs.Common.{◌≡◌, ℕ, List, ◌+◌, ◌<◌, ◌++◌, length, map, take, get_or, refl, arith, sym, ap, ◌∙◌}
use Rattle.std.specs.List.{flat_map}
use Rattle.rec_counts.specs.Targets.{held, named, old_target, slots_in, taken_targets, told_buffer, told_buffers}
use Rattle.rec_counts.proofs.Told.{told_buffer_at, told_many}
use Rattle.rec_counts.proofs.Naming.{part-le, slots_parts}
use Rattle.rec_counts.proofs.Tells.{tells_none, tells_same, tells_then}
use Rattle.std.proofs.lemmas.List.{get_or_read, take_all}
use Rattle.std.proofs.lemmas.List.Sums.{sum_by_more}
use Rattle.rec_log.specs.declared.contents.Contents.{Contents}
use Rattle.rec_counts.specs.Batch.{blank}
use Rattle.rec_counts.proofs.Naming.{named-append}
use Rattle.rec_counts.proofs.telling.tell_older.Goals as goal

pub loop-place-init : goal.loop-place-init
loop-place-init c = record { marked = c.requires.marked; tells = tells_none _ _ _ _ _ (λ x. refl) (λ x. refl) refl }

pub tell_older_buffer-requires : goal.tell_older_buffer-requires
tell_older_buffer-requires c =
    let place : ℕ = c.loop-place.place in
    let older : c.index-older-place.result ≡ get_or c.args.older.now place blank = get_or_read c.args.older.now place _ c.loop-place-test.true c.index-older-place.is blank in
    let there : place < length c.args.newer.now = omega (arith, c.requires.alike.both, c.loop-place-test.true) in
    let newer : c.index-newer-place.result ≡ get_or c.args.newer.now place blank = get_or_read c.args.newer.now place _ there c.index-newer-place.is blank in
    record {
      marked = c.loop-place.invariant.marked;
      alike = ap (λ (b : Contents). length b.snapshot) older ∙ c.requires.alike.registers place c.loop-place-test.true ∙ sym (ap (λ (b : Contents). length b.snapshot) newer);
      in_range = λ x l. omega (
        arith,
        ap (λ (b : Contents). named x b.snapshot) newer,
        ap (λ (b : Contents). named x (taken_targets b)) older,
        named-append x (map old_target (get_or c.args.older.now place blank).entries) (get_or c.args.older.now place blank).snapshot,
        part-le (λ (b : Contents). named x b.snapshot) c.args.newer.now place blank there,
        part-le (λ (b : Contents). named x (map old_target b.entries) + named x b.snapshot) c.args.older.now place blank c.loop-place-test.true,
        c.requires.in_range x (omega (arith, l, c.loop-place.auto.slots)),
      );
    }

pub loop-place-preserved : goal.loop-place-preserved
loop-place-preserved c =
    let place : ℕ = c.loop-place.place in
    let new : List Contents = told_buffers c.args.steady c.args.newer.now c.args.older.now in
    let old : List Contents = told_buffers c.args.steady c.args.older.now c.args.newer.now in
    let older : c.index-older-place.result ≡ get_or c.args.older.now place blank = get_or_read c.args.older.now place _ c.loop-place-test.true c.index-older-place.is blank in
    let there : place < length c.args.newer.now = omega (arith, c.requires.alike.both, c.loop-place-test.true) in
    let newer : c.index-newer-place.result ≡ get_or c.args.newer.now place blank = get_or_read c.args.newer.now place _ there c.index-newer-place.is blank in
    let more : get_or new place blank ≡ told_buffer c.args.steady c.index-newer-place.result c.index-older-place.result =
    told_buffer_at c.args.steady c.args.newer.now c.args.older.now place ∙ ap (λ b. told_buffer c.args.steady b (get_or c.args.older.now place blank)) (sym newer) ∙ ap (λ b. told_buffer c.args.steady c.index-newer-place.result b) (sym older) in
    let less : get_or old place blank ≡ told_buffer c.args.steady c.index-older-place.result c.index-newer-place.result =
    told_buffer_at c.args.steady c.args.older.now c.args.newer.now place ∙ ap (λ b. told_buffer c.args.steady b (get_or c.args.newer.now place blank)) (sym older) ∙ ap (λ b. told_buffer c.args.steady c.index-older-place.result b) (sym newer) in
    record {
      marked = c.tell_older_buffer.ensures.marked ∙ c.loop-place.invariant.marked ∙ sym c.tell_older_buffer.ensures.many;
      tells = tells_then _ _ _ (λ x. refl)
          (λ x. omega (arith, sum_by_more (λ (b : Contents). named x b.snapshot) new place blank (omega (arith, told_many c.args.steady c.args.newer.now c.args.older.now, there)), ap (λ (b : Contents). named x b.snapshot) more))
          (slots_parts old place blank (omega (arith, told_many c.args.steady c.args.older.now c.args.newer.now, c.loop-place-test.true)) ∙ ap (λ (b : Contents). slots_in (flat_map taken_targets (take place old)) ++ slots_in (taken_targets b)) less)
          c.loop-place.invariant.tells c.tell_older_buffer.ensures;
    }

pub returns : goal.returns
returns c =
    let new : List Contents = told_buffers c.args.steady c.args.newer.now c.args.older.now in
    let old : List Contents = told_buffers c.args.steady c.args.older.now c.args.newer.now in
    tells_same _ _ _ (λ x. refl) (λ x. ap (held x) (sym (take_all c.loop-place.place new (omega (arith, told_many c.args.steady c.args.newer.now c.args.older.now, c.requires.alike.both)))))
    (ap (λ bs. slots_in (flat_map taken_targets bs)) (sym (take_all c.loop-place.place old (omega (arith, told_many c.args.steady c.args.older.now c.args.newer.now))))) c.loop-place.invariant.tells
