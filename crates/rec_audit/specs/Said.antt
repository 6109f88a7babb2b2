-- A verdict as a line.
use Rattle.std.specs.Prelude.{ℕ, List, [], ◌∷◌, ◌++◌, codes}
use Rattle.std.specs.Fmt.{decimal}
use Rattle.rec_audit.specs.declared.verdict.Rule.{Rule}
use Rattle.rec_audit.specs.declared.verdict.Rule.TheVariants.{Long, Form, Stamp, Reach}
use Rattle.rec_audit.specs.declared.verdict.Verdict.{Verdict}
use Rattle.rec_audit.specs.declared.verdict.Verdict.TheVariants.{Yes, No}

-- a rule's name
abbrev pub name_of_rule : Rule → List ℕ
name_of_rule Long = codes "long"
name_of_rule Form = codes "form"
name_of_rule Stamp = codes "stamp"
name_of_rule Reach = codes "reach"

-- what is said
abbrev pub words_of : Verdict → List ℕ
words_of (Yes sets) = codes "yes sets " ++ decimal sets
words_of (No line rule) = codes "no line " ++ (decimal line ++ (codes " " ++ name_of_rule rule))

-- and the line that says it
abbrev pub verdict_text : Verdict → List ℕ
verdict_text verdict = words_of verdict ++ 10 ∷ []
