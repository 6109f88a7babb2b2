-- The pieces of the three formats one after another.
use Rattle.std.proofs.Common.{◌≡◌, ◌∙◌, ◌++◌, ℕ, List, refl, ap, append_assoc, codes, decimal, get_or}
use Rattle.std.specs.Prelude.{string_bytes}
use Rattle.rec_report.specs.Summary.{no_field_words, not_yet_words}
use Rattle.rec_report.specs.Text.{line_feed}
use Rattle.rec_report.proofs.line.push_answers.Goals as goal

pub returns : goal.returns
returns c =
    let at : ℕ → ℕ = λ i. get_or c.args.counts.now i 0 in
    let old : List ℕ = string_bytes c.args.text.now in
    let first : List ℕ = codes "done " ++ decimal (at 0) ++ codes " null " ++ decimal (at 1) ++ codes " object " ++ decimal (at 2) in
    let second : List ℕ = codes " value " ++ decimal (at 3) ++ codes " yes " ++ decimal (at 4) ++ codes " no " ++ decimal (at 5) in
    let third : List ℕ = codes " none " ++ decimal (at 6) ++ codes " full " ++ decimal (at 7) ++ codes " busy " ++ decimal (at 8) in
    let one : string_bytes c.write.new.self ≡ old ++ first = simp append_assoc c.in_ok-write.ensures.bytes in
    let two : string_bytes c.write-2.new.self ≡ string_bytes c.write.new.self ++ second = simp append_assoc c.in_ok-write-2.ensures.bytes in
    let three : string_bytes c.write-3.new.self ≡ string_bytes c.write-2.new.self ++ third = simp append_assoc c.in_ok-write-3.ensures.bytes in
    let end : List ℕ = no_field_words c.args.version (at 9) ++ not_yet_words c.args.version (at 10) ++ line_feed in
    c.in_ok-end_answers.ensures ∙ ap (λ t. t ++ end) (three ∙ ap (λ t. t ++ third) (two ∙ ap (λ t. t ++ second) one)) ∙ simp append_assoc refl
