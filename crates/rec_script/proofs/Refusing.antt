-- A refused text is no script's.
use Rattle.std.proofs.Common.{inl, inr, ℕ, ◌+◌, List, take, drop, sym, subst, arith}
use Rattle.std.proofs.lemmas.List.{take-append-drop}
use Rattle.rec_script.specs.declared.error.Kind.{Kind}
use Rattle.rec_script.specs.Lines.{lines}
use Rattle.rec_script.specs.Script.{ScriptContents, IsText, IsRefused, Spells, Continues}

-- the first lines of a script's text are continued by the others
continued_front : (text : List (List ℕ)) (n : ℕ) (contents : ScriptContents) → Spells text contents → Continues (take n text)
continued_front text n contents h = (drop n text, contents, subst (λ (t : List (List ℕ)). Spells t contents) (sym (take-append-drop n text)) h)

pub refused_no_text : (bytes : List ℕ) (line : ℕ) (kind : Kind) → IsRefused bytes line kind → IsText bytes → ⊥
refused_no_text bytes line kind (inl long) text = omega (arith, long.many, text.1)
refused_no_text bytes line kind (inr stopped) text = elim stopped.named [
  | inl at ↦ at.2.not_with (continued_front (lines bytes) (at.0 + 1) text.0 text.2)
  | inr late ↦ late.1.not_whole text.0 text.2
]
