-- A numeral is a word where nothing is behind it.
use Rattle.std.proofs.Common.{◌<◌, length, ap, arith}
use Rattle.std.proofs.lemmas.Grind.{common_steps}
use Rattle.rec_script.proofs.Numerals.{longer_word, no_word}
use Rattle.rec_script.proofs.operand.numeral.Goals as goal

pub returns-in_default : goal.returns-in_default
returns-in_default c = no_word c.args.word.now (λ n t small. c.in_default.ensures.none n t (omega (arith, small, c.from.ensures)))

pub returns-else-is_empty : goal.returns-else-is_empty
returns-else-is_empty c =
    let some : 0 < length c.in-Some.rest.now = grind (arith, common_steps) in
    longer_word c.args.word.now c.in-Some.rest.now c.in-Some.number c.in-Some.ensures.found
    (omega (arith, c.in-Some.ensures.within, c.from.ensures)) c.in-Some.ensures.apart (λ e. omega (arith, ap length e, some))
