-- The contract of `next_word`: the first word of a line, and the bytes after it.
use Rattle.std.proofs.Common.{◌≡◌, ◌<◌, length, arith}
use Rattle.std.proofs.lemmas.Grind.{common_steps}
use Rattle.rec_script.proofs.Cuts.{all_blank, first_word}
use Rattle.rec_script.proofs.line.next_word.Goals as goal

pub returns-then-is_empty-clause-none : goal.returns-then-is_empty-clause-none
returns-then-is_empty-clause-none c =
    let none : length c.split_at.result.1.now ≡ 0 = grind (arith, common_steps) in
    all_blank c.args.line.now c.split_at.result.1.now c.blanks.result c.blanks.ensures.within c.blanks.ensures.before c.split_at.ensures.back none

pub returns-clause-some : goal.returns-clause-some
returns-clause-some c =
    let some : 0 < length c.split_at.result.1.now = grind (arith, common_steps) in
    (first_word c.args.line.now c.split_at.result.1.now c.split_at-2.result.0.now c.split_at-2.result.1.now c.blanks.result c.word_length.result
    c.blanks.ensures.within c.blanks.ensures.before c.blanks.ensures.behind c.split_at.ensures.back some
    c.word_length.ensures.within c.word_length.ensures.before c.word_length.ensures.behind c.split_at-2.ensures.front c.split_at-2.ensures.back).0

pub returns-clause-letters : goal.returns-clause-letters
returns-clause-letters c =
    let some : 0 < length c.split_at.result.1.now = grind (arith, common_steps) in
    (first_word c.args.line.now c.split_at.result.1.now c.split_at-2.result.0.now c.split_at-2.result.1.now c.blanks.result c.word_length.result
    c.blanks.ensures.within c.blanks.ensures.before c.blanks.ensures.behind c.split_at.ensures.back some
    c.word_length.ensures.within c.word_length.ensures.before c.word_length.ensures.behind c.split_at-2.ensures.front c.split_at-2.ensures.back).1
