-- One mutator more.
use Rattle.std.proofs.Common.{◌∙◌, ◌+◌, ◌∷◌, ◌++◌, [], map, ap, arith, sym}
use Rattle.std.proofs.lemmas.List.{map-append}
use Rattle.std.proofs.lemmas.List.FromFn.{map-range_with_len_more}
use Rattle.recycler_watch.specs.Seen.{mutator_of, mutator_seen}
use Rattle.recycler_watch.proofs.state.mutators_of.Goals as goal

pub loop-index-preserved : goal.loop-index-preserved
loop-index-preserved c =
    ap (map mutator_seen) c.in_ok-push.ensures.items ∙ map-append mutator_seen c.loop-index.mutators.items (c.in_ok-mutator_of.field-0 ∷ [])
    ∙ (λ i. c.loop-index.invariant i ++ c.in_ok-mutator_of.ensures i ∷ []) ∙ sym (map-range_with_len_more (mutator_of c.args.world.now) 1 c.loop-index.index (c.loop-index.index + 1) (omega arith))
