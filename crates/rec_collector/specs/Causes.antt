-- What each answer of a turn says: why it comes, and what the turn changed.
use Rattle.std.specs.Prelude.{◌≡◌, ℕ, ◌+◌, ◌^◌}
use Rattle.rec_word.specs.Looked.{looked}
use Rattle.rec_word.specs.declared.looked.Looked.TheVariants.{Waits}
use Rattle.rec_collector.specs.Kept.{swept_at}
use Rattle.rec_collector.specs.Private.{Private}
use Rattle.rec_collector.specs.declared.phase.Phase.TheVariants.{Idle, Looking}
use Rattle.rec_collector.specs.declared.turn.Turn.{Turn}
use Rattle.rec_collector.specs.declared.turn.Turn.TheVariants.{Moved, Waiting, Collected, EpochsSpent}

-- `word` is the word found, and `q` what the turn left of `p`. A turn that waits, since its look leaves the crossing word as it is, or that finds the epochs spent, changes
-- nothing. A collection is complete exactly where it is told, with the slots that its sweep has freed. Where every mutator has left, the
-- turn that requests an epoch may complete its collection too. Every other turn
-- counts, and a slot that it frees counts in the sweep and in all.
abbrev pub HasCause : (p : Private) (word : ℕ) (q : Private) → Turn → Type 0
HasCause p word q Moved = (q.turns ≡ p.turns + 1) × (q.collections ≡ p.collections) × (q.freed + swept_at p.phase ≡ p.freed + swept_at q.phase)
HasCause p word q (Waiting t) = (p.phase ≡ Looking t) × (looked p.epoch word ≡ Waits) × (q ≡ p)
HasCause p word q (Collected epoch freed) = (epoch + 1 ≡ q.epoch) × (freed ≡ swept_at p.phase) × (q.phase ≡ Idle) × (q.collections ≡ p.collections + 1) × (q.freed ≡ p.freed) × (q.turns ≡ 0)
HasCause p word q EpochsSpent = (p.phase ≡ Idle) × (p.epoch + 1 ≡ 2 ^ 24) × (q ≡ p)
