-- The first word of a line tells which command it is.
use Rattle.std.proofs.Common.{◌≡◌, ℕ, suc, ◌+◌, ◌*◌, ◌≤◌, ◌==◌, Bool, true, false, cond, List, ◌∷◌, length, get_or, map, refl, sym, ap, subst, ◌∙◌, arith}
use Rattle.std.specs.Prelude.{◌↔◌, IsTrue}
use Rattle.std.specs.Fmt.{decimal}
use Rattle.rec_model.specs.declared.command.Cmd.{Cmd}
use Rattle.rec_model.specs.declared.command.Cmd.TheVariants.{New, Leaf, Null, Copy, Get, Put, Value, Same, Leave, Park, Unpark}
use Rattle.rec_script.specs.declared.error.Kind.{Kind}
use Rattle.rec_script.specs.Script.{word_of, operands_of, limits_of, since, Allows, HasLeft, IsBadCommand}
use Rattle.rec_script.specs.Operands.{AreMisread}

-- the first two letters, which tell most words apart
abbrev pub letters : List ℕ → ℕ
letters word = 256 * get_or word 0 0 + get_or word 1 0

-- the fourth letter, which tells the two words apart that begin alike
abbrev fourth : List ℕ → ℕ
fourth word = get_or word 3 0

-- what a word chooses of eleven things
abbrev pub choose : {A : Type 0} → List ℕ → (new leaf null copy get put value same leave park unpark : A) → A
choose word new leaf null copy get put value same leave park unpark =
    cond (letters word == 28261) new (cond (letters word == 27749) (cond (fourth word == 102) leaf leave) (cond (letters word == 28277) null (cond (letters word == 25455) copy (cond (letters word == 26469) get (cond (letters word == 28789) put (cond (letters word == 30305) value (cond (letters word == 28769) park (cond (letters word == 30062) unpark same))))))))

-- the limits of operands, by the word
abbrev limits_by_word : (registers fields : ℕ) → List ℕ → List (ℕ × Kind)
limits_by_word registers fields word =
    choose word (limits_of registers fields (New 0 0)) (limits_of registers fields (Leaf 0 0)) (limits_of registers fields (Null 0)) (limits_of registers fields (Copy 0 0)) (limits_of registers fields (Get 0 0 0)) (limits_of registers fields (Put 0 0 0)) (limits_of registers fields (Value 0)) (limits_of registers fields (Same 0 0)) (limits_of registers fields Leave) (limits_of registers fields Park) (limits_of registers fields Unpark)

by_word : (registers fields : ℕ) (cmd : Cmd) → limits_by_word registers fields (word_of cmd) ≡ limits_of registers fields cmd
by_word registers fields (New reg label) = refl
by_word registers fields _ = refl

-- commands of one word have the same limits
pub same_limits : (registers fields : ℕ) (a b : Cmd) → word_of a ≡ word_of b → limits_of registers fields a ≡ limits_of registers fields b
same_limits registers fields a b e = sym (by_word registers fields a) ∙ ap (limits_by_word registers fields) e ∙ by_word registers fields b

since_by_word : (cmd : Cmd) → choose (word_of cmd) 1 2 1 1 1 1 1 1 3 4 4 ≡ since cmd
since_by_word (New reg label) = refl
since_by_word _ = refl

-- and a version has all of them or none
pub same_allowed : (version : ℕ) (a b : Cmd) → word_of a ≡ word_of b → Allows version a → Allows version b
same_allowed version a b e allowed = subst (λ (n : ℕ). n ≤ version) (sym (since_by_word a) ∙ ap (λ (w : List ℕ). choose w 1 2 1 1 1 1 1 1 3 4 4) e ∙ since_by_word b) allowed

-- there is a limit for each operand
limits_length : (registers fields : ℕ) (cmd : Cmd) → length (limits_of registers fields cmd) ≡ length (map decimal (operands_of cmd))
limits_length registers fields (New reg label) = refl
limits_length registers fields _ = refl

suc_injective : (m n : ℕ) → suc m ≡ suc n → m ≡ n
suc_injective m n e = omega arith

-- what is wrong with the operands behind the word of a command is wrong with the line, behind commands of a mutator that hasn't left
pub bad_operands : (version registers fields : ℕ) (cmds : List Cmd) (cmd : Cmd) (word : List ℕ) (operands : List (List ℕ)) (kind : Kind) → ¬ HasLeft cmds → Allows version cmd → word ≡ word_of cmd → AreMisread (length cmds) (limits_of registers fields cmd) operands kind
    → IsBadCommand version registers fields cmds (word ∷ operands) kind
bad_operands version registers fields cmds cmd word operands _ stays allowed e (AreMisread.number other) =
    IsBadCommand.unknown (λ any its shape. other (
    suc_injective (length operands) (length (map decimal (operands_of any))) shape.1
    ∙ sym (limits_length registers fields any)
    ∙ ap length (same_limits registers fields any cmd (sym shape.0 ∙ e))
    ))
bad_operands version registers fields cmds cmd word operands _ stays allowed e (AreMisread.too_many same full) = IsBadCommand.too_many cmd stays allowed (e, ap suc (same ∙ limits_length registers fields cmd)) full
bad_operands version registers fields cmds cmd word operands kind stays allowed e (AreMisread.operand _ same room wrong) = IsBadCommand.operand cmd kind stays allowed (e, ap suc (same ∙ limits_length registers fields cmd)) room wrong

-- a test that gave false
pub is_not : (b : Bool) (P : Type 0) → (IsTrue b ↔ P) → b ≡ false → P → ⊥
is_not b P iff e p = let t : b ≡ true = iff.1 p in absurd (cc)
