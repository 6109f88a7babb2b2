-- The contract of `open_row`: a buffer for each mutator, with room for so many entries, and this frame as its snapshot.
use Rattle.std.proofs.Common.{◌≡◌, ◌++◌, ◌∷◌, [], replicate, ap, ◌∙◌, arith}
use Rattle.std.proofs.lemmas.List.{replicate_more}
use Rattle.rec_collector.proofs.Common.{retired}
use Rattle.rec_collector.proofs.buffers.open_row.Goals as goal

pub loop-init : goal.loop-init
loop-init c = c.in_ok-row.ensures.items

pub returns : goal.returns
returns c =
    let all : c.loop.counter ≡ c.args.mutators = omega arith in
    c.loop.invariant ∙ ap (λ n. replicate n (retired c.args.frame.now c.args.capacity)) all

pub open_retired-requires : goal.open_retired-requires
open_retired-requires c = c.requires

pub loop-preserved : goal.loop-preserved
loop-preserved c =
    c.in_ok-push.ensures.items
    ∙ (λ i. c.loop.invariant i ++ c.in_ok-buffer.ensures i ∷ [])
    ∙ replicate_more c.loop.counter (retired c.args.frame.now c.args.capacity)
