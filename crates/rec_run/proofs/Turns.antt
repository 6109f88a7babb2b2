-- What the order of a legal order's answers names.
use Rattle.std.proofs.Common.{◌≡◌, ℕ, ◌+◌, ◌<◌, ◌==◌, zero, suc, List, [], ◌∷◌, Some, if◌then◌else◌, length, refl, ap, ◌∙◌, arith}
use Rattle.std.specs.List.{slice_get}
use Rattle.std.proofs.lemmas.Bool.{ne_eqb}
use Rattle.std.proofs.lemmas.List.Sums.{sum_by-cons}
use Rattle.rec_model.specs.LegalOrder.{Line, Event, Limits, Moment, actors, IsLegalOrder}
use Rattle.rec_model.specs.LegalOrder.Event.{Answers, Frees, Marks}
use Rattle.rec_model.specs.Numbering.{times}
use Rattle.rec_play.proofs.Going.{turns_are_lines}
use Rattle.rec_report.specs.Text.{IsOrderOf}

-- where each answer is to a mutator, nobody else has a turn
nobody_else : (events : List Event) → ((i t : ℕ) (line : Line) → slice_get events i ≡ Some (Answers t line) → 0 < t) → times 0 (actors events) ≡ 0
nobody_else [] numbered = refl
nobody_else (Answers zero line ∷ events) numbered = absurd (let never : 0 < 0 = numbered 0 0 line refl in omega arith)
nobody_else (Answers (suc t) line ∷ events) numbered =
    let rest : times 0 (actors events) ≡ 0 = nobody_else events (λ i s l is. numbered (suc i) s l is) in
    sum_by-cons (λ m. if m == 0 then 1 else 0) (suc t) (actors events)
    ∙ ap (λ b. (if b then 1 else 0) + times 0 (actors events)) (ne_eqb (suc t) 0 (λ is. omega arith)) ∙ omega (arith, rest)
nobody_else (Frees n ∷ events) numbered = nobody_else events (λ i s l is. numbered (suc i) s l is)
nobody_else (Marks ∷ events) numbered = nobody_else events (λ i s l is. numbered (suc i) s l is)

-- the turns of a legal order are those of its journals
pub legal_turns : (limits : Limits) (start : Moment) (journals : List (List Line)) (events : List Event) → IsLegalOrder limits start journals events → IsOrderOf journals (actors events)
legal_turns limits start journals events legal =
    record {
      each = λ t positive. turns_are_lines t events ∙ ap length (legal.own t positive);
      nobody = nobody_else events (λ i t line is. (legal.numbered i t line is).0);
    }
