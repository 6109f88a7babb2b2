-- The contract of `Draft::take_words`: takes the first line of the bytes by its words, and gives what is behind it.
use Rattle.std.proofs.Common.{◌≡◌, Result, Err, ap}
use Rattle.rec_script.specs.declared.error.ScriptError.{ScriptError}
use Rattle.rec_script.specs.declared.error.ScriptError.TheVariants.{Bad}
use Rattle.rec_script.specs.Lines.{lines}
use Rattle.rec_script.proofs.draft.Draft.take_words.Goals as goal

pub returns-in-Err-clause-refused : goal.returns-in-Err-clause-refused
returns-in-Err-clause-refused c = λ at kind e.
    let same : c.in-Err.error ≡ Bad at kind = cc in
    let was : ◌≡◌ {A = Result (Unit {0}) ScriptError} (Err c.in-Err.error) (Err (Bad at kind)) = ap (λ (x : ScriptError). Err x) same in
    let h = c.in-Err.ensures.refused at kind was in
    (h.0, record { line = c.next_line.result.0.now; others = lines c.next_line.result.1.now; first = c.next_line.ensures.lines; fault = h.1 })
