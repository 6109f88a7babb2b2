-- From what was read to what is said of a journal.
use Rattle.std.proofs.Common.{◌≡◌, ◌≤◌, ◌+◌, ℕ, List, [], ◌∷◌, ◌++◌, length, refl, sym, ap, ◌∙◌, subst, arith, append_assoc, append-nil}
use Rattle.std.proofs.lemmas.List.{length_push}
use Rattle.std.proofs.lemmas.List.Concat.{flat_map-append}
use Rattle.rec_model.specs.declared.limits.TheConstants.{MOST_BYTES}
use Rattle.rec_audit.specs.declared.checker.Checker.{Checker}
use Rattle.rec_audit.specs.declared.form.Form.{Form}
use Rattle.rec_audit.specs.declared.form.Stage.TheVariants as stages
use Rattle.rec_audit.specs.declared.verdict.Rule.{Rule}
use Rattle.rec_audit.specs.declared.verdict.Rule.TheVariants as rules
use Rattle.rec_audit.specs.declared.verdict.Verdict.TheVariants.{Yes, No}
use Rattle.rec_audit.specs.Lines.{Line, text_of, text_of_line}
use Rattle.rec_audit.specs.Verdicts.{HasFault, IsVerdict}
use Rattle.rec_audit.specs.Verdicts.IsVerdict.{yes, no as first_fault}
use Rattle.rec_audit.specs.Verdicts.HasFault.{form as unfit}
use Rattle.rec_audit.specs.Checkers.{HasRead, Knows, Takes}
use Rattle.rec_audit.proofs.Telling.{longer}

text_push : (lines : List Line) (line : Line) → text_of (lines ++ line ∷ []) ≡ text_of lines ++ text_of_line line
text_push lines line = flat_map-append text_of_line lines (line ∷ []) ∙ ap (λ t. text_of lines ++ t) (append-nil (text_of_line line))

-- nothing was read
pub read_none : (bytes : List ℕ) (c : Checker) → Knows [] c → HasRead bytes bytes 0 c
read_none bytes c knows = record { lines = []; text = refl; count = refl; knows = knows }

-- a line more was read
pub read_more : (bytes rest behind : List ℕ) (number : ℕ) (c d : Checker) → HasRead bytes rest number c → ((lines : List Line) → Knows lines c → Takes lines rest behind d) → HasRead bytes behind (number + 1) d
read_more bytes rest behind number c d read takes = at (takes read.lines read.knows)
  where
    at : Takes read.lines rest behind d → HasRead bytes behind (number + 1) d
    at more =
        record {
          lines = read.lines ++ more.line ∷ [];
          text =
              read.text
              ∙ ap (λ t. text_of read.lines ++ t) more.text
              ∙ sym (append_assoc (text_of read.lines) (text_of_line more.line) behind)
              ∙ ap (λ t. t ++ behind) (sym (text_push read.lines more.line));
          count = ap (λ (n : ℕ). n + 1) read.count ∙ sym (length_push read.lines more.line);
          knows = more.knows;
        }

-- the next line is at fault
pub says_no : (bytes rest : List ℕ) (number : ℕ) (rule : Rule) (c : Checker) → length bytes ≤ MOST_BYTES → HasRead bytes rest number c → ((lines : List Line) → Knows lines c → HasFault lines rest rule) → IsVerdict bytes (No (number + 1) rule)
says_no bytes rest number rule c few read fault =
    subst (λ (n : ℕ). IsVerdict bytes (No (n + 1) rule)) (sym read.count) (first_fault read.lines rest rule few read.text read.knows.clean (fault read.lines read.knows))

-- no line is
pub says_yes : (bytes rest : List ℕ) (number : ℕ) (c : Checker) → length bytes ≤ MOST_BYTES → rest ≡ [] → HasRead bytes rest number c → c.form.stage ≡ stages.Between → IsVerdict bytes (Yes c.sets)
says_yes bytes rest number c few end read stage =
    subst (λ (n : ℕ). IsVerdict bytes (Yes n)) (sym read.knows.sets)
    (yes read.lines few (read.text ∙ ap (λ t. text_of read.lines ++ t) end ∙ append-nil (text_of read.lines)) read.knows.clean (sym (ap (λ (f : Form). f.stage) read.knows.form) ∙ stage))

-- the input ends too soon
pub says_open : (bytes rest : List ℕ) (number : ℕ) (c : Checker) → length bytes ≤ MOST_BYTES → rest ≡ [] → HasRead bytes rest number c → (c.form.stage ≡ stages.Between → ⊥) → IsVerdict bytes (No (number + 1) rules.Form)
says_open bytes rest number c few end read open-is =
    says_no bytes rest number rules.Form c few read
    (λ lines knows.
    unfit
    (λ line goes. omega (arith, longer rest goes.rest line goes.text, ap (length {A = ℕ}) end))
    (λ whole. open-is (ap (λ (f : Form). f.stage) knows.form ∙ whole.1)))
