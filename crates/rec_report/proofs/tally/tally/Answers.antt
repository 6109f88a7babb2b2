-- No line of a journal is that its log is full.
use Rattle.std.proofs.Common.{◌≢◌, ℕ, ◌<◌, List, [], map, length, get_or, sym, subst}
use Rattle.std.specs.List.{All}
use Rattle.std.proofs.lemmas.List.{length-map, get_or-map}
use Rattle.std.proofs.lemmas.List.Elements.{All-get_or}
use Rattle.rec_model.specs.LegalOrder.{Line}
use Rattle.rec_model.specs.declared.answer.Answer.TheVariants.{LogFull}
use Rattle.rec_world.specs.Journal.{Notes}
use Rattle.rec_report.proofs.tally.tally.Goals as goal

-- the journals' lines, by their index
lines_at : (journals : List Notes) (i : ℕ) (d : Notes) → i < length journals → All (All (λ (line : Line). line.1.answer ≢ LogFull)) (map (λ journal. journal.lines) journals)
    → All (λ (line : Line). line.1.answer ≢ LogFull) (get_or journals i d).lines
lines_at journals i d there room =
    subst (All (λ (line : Line). line.1.answer ≢ LogFull)) (get_or-map (λ (j : Notes). j.lines) journals i d [] there)
    (All-get_or (All (λ (line : Line). line.1.answer ≢ LogFull)) (map (λ (j : Notes). j.lines) journals) i [] (subst (λ n. i < n) (sym (length-map journals (λ (j : Notes). j.lines))) there) room)

pub count_answers-requires-clause-room : goal.count_answers-requires-clause-room
count_answers-requires-clause-room c =
    let P : Notes → Type 0 = λ j. All (λ (line : Line). line.1.answer ≢ LogFull) j.lines in
    subst (All (λ (line : Line). line.1.answer ≢ LogFull)) (sym c.lines.ensures)
    (subst P (sym c.journal-item.is) (lines_at c.args.journals.now c.loop-journal.journal-index c.journal-item.result c.loop-journal-test.true c.requires.room))
