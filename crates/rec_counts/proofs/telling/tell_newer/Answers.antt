-- The contract of `tell_newer`: the entries of the newer buffers.
use Rattle.std.proofs.Common.{ℕ, List, map, refl, arith, sym, ap, ◌∙◌}
use Rattle.rec_counts.specs.Targets.{leaf_born, leaves, named, new_target, written}
use Rattle.rec_counts.proofs.Naming.{part-le}
use Rattle.rec_counts.proofs.Tells.{tells_none, tells_same, tells_then}
use Rattle.std.proofs.lemmas.List.{take_all}
use Rattle.std.proofs.lemmas.List.Sums.{sum_by_more}
use Rattle.rec_log.specs.declared.contents.Contents.{Contents}
use Rattle.rec_counts.proofs.telling.tell_newer.Goals as goal

pub loop-buffer-init : goal.loop-buffer-init
loop-buffer-init c = record { marked = c.requires.marked; tells = tells_none _ _ _ _ _ (λ x. refl) (λ x. refl) refl }

pub tell_new_entries-requires : goal.tell_new_entries-requires
tell_new_entries-requires c =
    let bs : List Contents = c.args.newer.now in
    let i : ℕ = c.loop-buffer.buffer-index in
    let d : Contents = c.buffer-item.result in
    record {
      marked = c.loop-buffer.invariant.marked;
      in_range = λ x l. omega (
        arith,
        ap (λ es. named x (map leaf_born es)) c.entries.ensures.entries,
        ap (λ es. named x (map new_target es)) c.entries.ensures.entries,
        ap (λ (b : Contents). named x (map leaf_born b.entries)) c.buffer-item.is,
        ap (λ (b : Contents). named x (map new_target b.entries)) c.buffer-item.is,
        part-le (λ (b : Contents). named x (map leaf_born b.entries)) bs i d c.loop-buffer-test.true,
        part-le (λ (b : Contents). named x (map new_target b.entries)) bs i d c.loop-buffer-test.true,
        c.requires.in_range x (omega (arith, l, c.loop-buffer.auto.slots)),
      );
    }

pub loop-buffer-preserved : goal.loop-buffer-preserved
loop-buffer-preserved c =
    let bs : List Contents = c.args.newer.now in
    let i : ℕ = c.loop-buffer.buffer-index in
    let d : Contents = c.buffer-item.result in
    record {
      marked = c.tell_new_entries.ensures.marked ∙ c.loop-buffer.invariant.marked ∙ sym c.tell_new_entries.ensures.many;
      tells = tells_then _ _ _
          (λ x. omega (arith, sum_by_more (λ (b : Contents). named x (map leaf_born b.entries)) bs i d c.loop-buffer-test.true, ap (λ (b : Contents). named x (map leaf_born b.entries)) c.buffer-item.is, ap (λ es. named x (map leaf_born es)) c.entries.ensures.entries))
          (λ x. omega (arith, sum_by_more (λ (b : Contents). named x (map new_target b.entries)) bs i d c.loop-buffer-test.true, ap (λ (b : Contents). named x (map new_target b.entries)) c.buffer-item.is, ap (λ es. named x (map new_target es)) c.entries.ensures.entries))
          refl c.loop-buffer.invariant.tells c.tell_new_entries.ensures;
    }

pub returns : goal.returns
returns c = tells_same _ _ _ (λ x. ap (leaves x) (sym (take_all c.loop-buffer.buffer-index c.args.newer.now (omega arith)))) (λ x. ap (written x) (sym (take_all c.loop-buffer.buffer-index c.args.newer.now (omega arith)))) refl c.loop-buffer.invariant.tells
