-- The loop of `read_kind`: the text begins with no name so far.
use Rattle.std.proofs.Common.{◌≡◌, ℕ, ◌<◌, List, ◌++◌, get_or}
use Rattle.rec_audit.specs.Lines.{name_of}
use Rattle.rec_audit.specs.declared.kind.Kind.TheVariants.{Put}
use Rattle.rec_audit.proofs.reading.read_kind.Given as goal

abbrev pub invariant-loop-kind : goal.invariant-loop-kind
invariant-loop-kind l = (k : ℕ) → k < l.kind-index → (rest : List ℕ) → l.bytes ≡ name_of (get_or l.kind-items k Put) ++ rest → ⊥
