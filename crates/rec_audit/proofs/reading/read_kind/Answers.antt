-- The contract of `read_kind`: the kind of the line at the front.
use Rattle.std.proofs.Common.{◌≡◌, List, ℕ, ◌++◌, arith}
use Rattle.rec_audit.specs.Lines.{name_of}
use Rattle.rec_audit.specs.declared.kind.Kind.{Kind}
use Rattle.rec_audit.specs.declared.kind.Kind.TheVariants.{Title, Heap, Epoch, Put, Born, Snap, Out, Free, Sweep, End}
use Rattle.rec_audit.proofs.reading.read_kind.Goals as goal

-- each kind was tried
pub returns-clause-none : goal.returns-clause-none
returns-clause-none c = λ kind.
    elim kind as (λ (k : Kind). (rest : List ℕ) → c.args.bytes.now ≡ name_of k ++ rest → ⊥) [
      | Put ↦ c.loop-kind.invariant 0 (omega arith)
      | Born ↦ c.loop-kind.invariant 1 (omega arith)
      | Out ↦ c.loop-kind.invariant 2 (omega arith)
      | Snap ↦ c.loop-kind.invariant 3 (omega arith)
      | Free ↦ c.loop-kind.invariant 4 (omega arith)
      | Sweep ↦ c.loop-kind.invariant 5 (omega arith)
      | Epoch ↦ c.loop-kind.invariant 6 (omega arith)
      | End ↦ c.loop-kind.invariant 7 (omega arith)
      | Heap ↦ c.loop-kind.invariant 8 (omega arith)
      | Title ↦ c.loop-kind.invariant 9 (omega arith)
    ]
