-- What a verdict says of a journal: that no line is at fault, or which line is the first, and by which rule.
use Rattle.std.specs.Prelude.{◌≡◌, ℕ, ◌+◌, ◌<◌, ◌≤◌, true, List, [], ◌∷◌, ◌++◌, length, count_by}
use Rattle.rec_model.specs.declared.limits.TheConstants.{MOST_BYTES}
use Rattle.rec_audit.specs.declared.kind.Kind.TheVariants.{Free}
use Rattle.rec_audit.specs.declared.verdict.Rule.{Rule}
use Rattle.rec_audit.specs.declared.verdict.Rule.TheVariants.{Long, Form, Stamp, Reach}
use Rattle.rec_audit.specs.declared.verdict.Verdict.{Verdict}
use Rattle.rec_audit.specs.declared.verdict.Verdict.TheVariants.{Yes, No}
use Rattle.rec_audit.specs.declared.form.Stage.TheVariants as stages
use Rattle.rec_audit.specs.Lines.{Line, text_of, text_of_line}
use Rattle.rec_audit.specs.Form.{number, form_of, MayStand, Stand, stage_behind}
use Rattle.rec_audit.specs.Graph.{HasReached, is_free, is_opened, opens}

-- a word with a target is put into a field, and an earlier line has put the same word
pub record HasStampFault (before : List Line) (line : Line) : Type 0 where
  pub opens : opens line ≡ true
  pub opened : is_opened before (number 2 line) ≡ true

-- a member of a set that is given up is on a path of references from a root
pub record HasReachFault (before : List Line) (line : Line) : Type 0 where
  pub kind : line.kind ≡ Free
  pub reached : HasReached before line.numbers

-- a line that may stand behind others is at fault by this rule
abbrev pub IsFaultBy : Rule → List Line → Line → Type 0
IsFaultBy Long before line = ⊥
IsFaultBy Form before line = ⊥
IsFaultBy Stamp before line = HasStampFault before line
IsFaultBy Reach before line = HasReachFault before line

-- it is at fault by none
pub record IsClean (before : List Line) (line : Line) : Type 0 where
  pub stamp : ¬ HasStampFault before line
  pub reach : ¬ HasReachFault before line

-- none of these lines is at fault
pub record AreClean (lines : List Line) : Type 0 where
  pub stand : Stand lines
  pub clean : (before : List Line) (line : Line) (after : List Line) → lines ≡ before ++ line ∷ after → IsClean before line

-- bytes that begin with the text of a line that may stand behind others
pub record GoesOn (before : List Line) (bytes : List ℕ) (line : Line) : Type 0 where
  pub stands : MayStand (form_of before) line
  pub rest : List ℕ
  pub text : bytes ≡ text_of_line line ++ rest

-- The rule by which the line at the front of the bytes is at fault behind others: no line goes on, and they are no end of a
-- journal either; or one does, and is at fault.
pub data HasFault (before : List Line) (bytes : List ℕ) : Rule → Type 0 where
  form : ((line : Line) → ¬ GoesOn before bytes line) → ¬ ((bytes ≡ []) × (stage_behind before ≡ stages.Between)) → HasFault before bytes Form
  stamp : (line : Line) → GoesOn before bytes line → HasStampFault before line → HasFault before bytes Stamp
  reach : (line : Line) → GoesOn before bytes line → HasReachFault before line → HasFault before bytes Reach

-- what a verdict says of some bytes
pub data IsVerdict (bytes : List ℕ) : Verdict → Type 0 where
  -- They are the text of a journal in form, none of whose lines is at fault, and with so many sets that were given up.
  yes : (lines : List Line) → length bytes ≤ MOST_BYTES → bytes ≡ text_of lines → AreClean lines → stage_behind lines ≡ stages.Between → IsVerdict bytes (Yes (count_by (λ line. is_free line.kind) lines))
  -- They are too many.
  long : MOST_BYTES < length bytes → IsVerdict bytes (No 0 Long)
  -- They begin with lines that are not at fault, and the next line is, by this rule.
  no : (lines : List Line) (rest : List ℕ) (rule : Rule) → length bytes ≤ MOST_BYTES → bytes ≡ text_of lines ++ rest → AreClean lines → HasFault lines rest rule → IsVerdict bytes (No (length lines + 1) rule)
