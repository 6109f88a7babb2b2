-- The loop of `add_words`: the words so far.
use Rattle.std.proofs.Common.{◌≡◌, ℕ, ◌||◌, ◌==◌, nat_eq, take}
use Rattle.std.specs.HashSet.{contains}
use Rattle.std.specs.List.{list_any}
use Rattle.rec_audit.proofs.references.add_words.Given as goal

abbrev pub invariant-loop-word : goal.invariant-loop-word
invariant-loop-word l = (w : ℕ) → contains nat_eq l.set w ≡ (contains nat_eq l.fn.set w || list_any (λ v. v == w) (take l.word-index l.words))
