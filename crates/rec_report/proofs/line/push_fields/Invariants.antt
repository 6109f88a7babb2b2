-- The fields so far, behind what there was.
use Rattle.std.proofs.Common.{◌≡◌, ◌++◌, false, take, map}
use Rattle.std.specs.Prelude.{string_bytes}
use Rattle.rec_word.specs.Word.{target_of}
use Rattle.rec_report.specs.Text.{field_number, field_words}
use Rattle.rec_report.proofs.line.push_fields.Given as goal

abbrev pub invariant-loop-word : goal.invariant-loop-word
invariant-loop-word l = string_bytes l.text ≡ string_bytes l.fn.text ++ field_words false (map (λ word. field_number l.numbering.list (target_of word)) (take l.word-index l.words))
