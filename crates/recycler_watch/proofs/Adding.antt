-- What stands behind a text.
use Rattle.std.proofs.Common.{◌≡◌, ◌++◌, ◌∙◌, ℕ, List, [], ap, sym, append-nil, append_assoc}
use Rattle.std.specs.Prelude.{if◌then◌else◌, is_ok, OnOk, Result, Ok, Err}
use Rattle.std.proofs.lemmas.Result.{IfOk-equal}

-- words that `push_str` adds
pub pushed : {T E : Type 0} (r : Result T E) (new old piece words : List ℕ) → new ≡ (if is_ok r then old ++ piece else old) → piece ≡ words → OnOk r (new ≡ old ++ words)
pushed (Ok x) new old piece words e same = e ∙ ap (λ t. old ++ t) same
pushed (Err x) new old piece words e same = tt

-- words under another name
pub added : {T E : Type 0} (r : Result T E) (new old piece words : List ℕ) → OnOk r (new ≡ old ++ piece) → piece ≡ words → OnOk r (new ≡ old ++ words)
added r new old piece words e same = IfOk-equal r new (old ++ piece) (old ++ words) e (ap (λ t. old ++ t) same)

-- no words
pub unchanged : (old words : List ℕ) → words ≡ [] → old ≡ old ++ words
unchanged old words none = sym (append-nil old) ∙ ap (λ t. old ++ t) (sym none)

-- words behind words
pub behind : (old text new words more : List ℕ) → text ≡ old ++ words → new ≡ text ++ more → new ≡ old ++ (words ++ more)
behind old text new words more e f = f ∙ ap (λ t. t ++ more) e ∙ append_assoc old words more
