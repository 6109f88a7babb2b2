-- What holds of a machine and of what it gave goes on to hold, where each word keeps it.
use Rattle.std.proofs.Common.{◌≡◌, ℕ, Option, None, Some, IsSome, is_some, List, [], ◌∷◌, ◌++◌, refl, sym, ◌∙◌, ap, subst, append_assoc, fold}
use Rattle.std.proofs.lemmas.Bool.{false≢true}
use Rattle.std.proofs.lemmas.List.{append-nil}
use Rattle.rec_word.specs.Load.{given}

-- what a machine is at, where it is at work
pub record WorksAt {A : Type 0} (at : Option A) : Type 0 where
  pub place : A
  pub is : at ≡ Some place

-- where something comes next, it is at work, as nothing comes next where it isn't
pub works_at : {A B : Type 0} (next : Option A → Option B) → next None ≡ None → (at : Option A) → IsSome (next at) → WorksAt at
works_at next idle None busy = absurd (false≢true (sym (ap is_some idle) ∙ busy))
works_at next idle (Some a) busy = record { place = a; is = refl }

pub given-nil : {M O : Type 0} (took : M → ℕ → M) (out : M → ℕ → List O) (m : M) → given took out m [] ≡ []
unfolding given
given-nil took out m = refl

pub given-cons : {M O : Type 0} (took : M → ℕ → M) (out : M → ℕ → List O) (m : M) (word : ℕ) (words : List ℕ) → given took out m (word ∷ words) ≡ out m word ++ given took out (took m word) words
unfolding given
given-cons took out m word words = refl

pub given_by : {M O : Type 0} (took : M → ℕ → M) (out : M → ℕ → List O) (P : M → List O → Type 0) → ((m : M) (os : List O) (word : ℕ) → P m os → P (took m word) (os ++ out m word)) →
    (words : List ℕ) (m : M) (os : List O) → P m os → P (fold took m words) (os ++ given took out m words)
given_by took out P more [] m os h = subst (P m) (sym (ap (λ gs. os ++ gs) (given-nil took out m) ∙ append-nil os)) h
given_by took out P more (word ∷ words) m os h =
    subst (P (fold took m (word ∷ words)))
    (append_assoc os (out m word) (given took out (took m word) words) ∙ ap (λ gs. os ++ gs) (sym (given-cons took out m word words)))
    (given_by took out P more words (took m word) (os ++ out m word) (more m os word h))
