-- The headers so far stand behind the row, and their labels fit.
use Rattle.std.proofs.Common.{◌≡◌, ◌++◌, map, take}
use Rattle.rec_word.specs.Header.{header_word}
use Rattle.rec_core.specs.Objects.{HaveLabels}
use Rattle.rec_world.proofs.world.opening.add_headers.Given as goal

abbrev pub invariant-loop-node : goal.invariant-loop-node
invariant-loop-node l = record {
  headers : l.row.items ≡ l.initial.row.items ++ map (λ node. header_word node.1 node.0) (take l.node-index l.nodes);
  labels : HaveLabels (take l.node-index l.nodes);
}
