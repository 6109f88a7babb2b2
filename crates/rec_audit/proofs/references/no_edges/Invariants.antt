-- The loop of `no_edges`: the lists so far.
use Rattle.std.proofs.Common.{◌≡◌, [], map, replicate}
use Rattle.rec_audit.proofs.references.no_edges.Given as goal

abbrev pub invariant-loop-slot : goal.invariant-loop-slot
invariant-loop-slot l = map (λ v. v.items) l.edges.items ≡ replicate l._slot []
