-- Each slot of a chunk is one of all, and its chunk joins those before it.
use Rattle.std.proofs.Common.{Vec, Global, ℕ, ◌≡◌, ◌<◌, get_or, sym, subst, ap, ◌∙◌}
use Rattle.rec_model.specs.Reach.{is_in}
use Rattle.rec_model.specs.Numbering.{joined}
use Rattle.rec_trace.proofs.Joining.{in_piece, joined_more}
use Rattle.rec_trace.proofs.chunks.meet_chunks.Goals as goal

pub meet_chunk-requires : goal.meet_chunk-requires
meet_chunk-requires c = λ slot there.
    let own : c.deref.result.now ≡ (get_or c.args.chunks.now c.loop-chunk.chunk-index c.chunk-item.result).items = c.deref.ensures.value ∙ ap (λ (v : Vec ℕ Global). v.items) c.chunk-item.is in
    subst (λ n. slot < n) (sym c.loop-chunk.invariant.slots)
    (c.requires slot (in_piece (λ (v : Vec ℕ Global). v.items) c.args.chunks.now c.loop-chunk.chunk-index c.chunk-item.result slot c.loop-chunk-test.true (ap (is_in slot) (sym own) ∙ there)))

pub loop-chunk-preserved : goal.loop-chunk-preserved
loop-chunk-preserved c =
    let own : c.deref.result.now ≡ (get_or c.args.chunks.now c.loop-chunk.chunk-index c.chunk-item.result).items = c.deref.ensures.value ∙ ap (λ (v : Vec ℕ Global). v.items) c.chunk-item.is in
    record {
      slots = c.meet_chunk.ensures.slots ∙ c.loop-chunk.invariant.slots;
      list = joined_more (λ (v : Vec ℕ Global). v.items) _ _ _ c.args.chunks.now c.loop-chunk.chunk-index c.chunk-item.result c.loop-chunk.invariant.list c.loop-chunk-test.true
          (c.meet_chunk.ensures.joined ∙ ap (joined c.loop-chunk.found.list) own);
    }
