-- A run of a preparation: words that it learns one after another.
use Rattle.std.specs.Prelude.{ℕ, ◌+◌, ◌<◌, IfSome, IsSome, length}
use Rattle.rec_word.specs.Word.{target_of}
use Rattle.rec_sigma.specs.Prepare.{Work, next_of, took_of}

-- From the first work a preparation took in so many words, each of which led to a slot that is there, and came to this one.
pub data Ran (first : Work) : ℕ → Work → Type 0 where
  none : Ran first 0 first
  more : (n : ℕ) (w : Work) (word : ℕ) → Ran first n w → IsSome (next_of w.machine) → IfSome (target_of word) (λ slot. slot < length w.counts.slots) → Ran first (n + 1) (took_of w word)
