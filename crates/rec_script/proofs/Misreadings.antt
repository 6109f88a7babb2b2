-- What is wrong with operands that were read one after another.
use Rattle.std.proofs.Common.{◌≡◌, inl, inr, ℕ, ◌<◌, List, ◌∷◌, length, sym, ap, subst, ◌∙◌}
use Rattle.rec_script.specs.declared.error.Kind.{Kind}
use Rattle.rec_script.specs.declared.error.Kind.TheVariants.{TooManyCommands}
use Rattle.rec_script.specs.Script.{IsNumeralOf, IsRight, IsWrong, AreWrong}
use Rattle.rec_script.specs.Operands.{AreMisread}

pub misread_room : (count : ℕ) (limits : List (ℕ × Kind)) (operands ws : List (List ℕ)) (kind : Kind) → operands ≡ ws → length ws ≡ length limits → (kind ≡ TooManyCommands) × (count ≡ 200000) → AreMisread count limits operands kind
misread_room count limits operands ws kind e same full = subst (AreMisread count limits operands) (sym full.0) (AreMisread.too_many (ap length e ∙ same) full.1)

pub misread : (count : ℕ) (limits : List (ℕ × Kind)) (operands ws : List (List ℕ)) (kind : Kind) → operands ≡ ws → length ws ≡ length limits → count < 200000 → AreWrong limits ws kind → AreMisread count limits operands kind
misread count limits operands ws kind e same room wrong = AreMisread.operand kind (ap length e ∙ same) room (subst (λ (t : List (List ℕ)). AreWrong limits t kind) (sym e) wrong)

pub is_right : (limit : ℕ × Kind) (word : List ℕ) (n : ℕ) → IsNumeralOf word n × (n < limit.0) → IsRight limit word
is_right limit word n h = (n, h.0, h.1)

pub wrong_here : (limit : ℕ × Kind) (limits : List (ℕ × Kind)) (word : List ℕ) (ws : List (List ℕ)) (kind : Kind) → IsWrong limit word kind → AreWrong (limit ∷ limits) (word ∷ ws) kind
wrong_here limit limits word ws kind h = inl h

pub wrong_behind : (limit : ℕ × Kind) (limits : List (ℕ × Kind)) (word : List ℕ) (ws : List (List ℕ)) (kind : Kind) → IsRight limit word → AreWrong limits ws kind → AreWrong (limit ∷ limits) (word ∷ ws) kind
wrong_behind limit limits word ws kind right h = inr (right, h)
