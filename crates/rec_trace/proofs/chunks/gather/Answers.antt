-- What the threads found in the chunks is, side by side, what the fields of the frontier lead to and isn't found yet.
use Rattle.std.proofs.Common.{◌<◌, max, arith}
use Rattle.rec_trace.proofs.Gathered.{gathered, in_chunk}
use Rattle.rec_trace.proofs.chunks.gather.Goals as goal

pub collect-requires-clause-ready : goal.collect-requires-clause-ready
collect-requires-clause-ready g c κs within =
    let some : 0 < max c.par_chunks.result.size 1 = omega arith in
    rw (c.map.ensures.base, c.map.ensures.f, c.with_min_len.ensures.base, c.par_chunks.ensures.slice)
    (λ k d lt x is. ((in_chunk (λ s. s < c.args.found.now.slots) (max c.par_chunks.result.size 1) c.args.frontier.now some c.requires.frontier k d x.now lt is, c.requires.fields), λ y h. tt))

pub returns : goal.returns
returns g c =
    let some : 0 < max c.par_chunks.result.size 1 = omega arith in
    let h = c.in_ok-collect.ensures in
    let chain = rw (c.map.ensures.base, c.map.ensures.f, c.with_min_len.ensures.base, c.par_chunks.ensures.slice) at h.1 in
    gathered c.args.found.now.list c.args.fields.words.now c.args.fields.each (max c.par_chunks.result.size 1) c.args.frontier.now chain.0 h.0 c.in_ok-collect.field-0 some chain.1 chain.2 h.2
