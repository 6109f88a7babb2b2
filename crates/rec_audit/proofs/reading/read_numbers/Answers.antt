-- The contract of `read_numbers`: numerals at the front up to an LF.
use Rattle.std.proofs.Common.{◌≡◌, ◌<◌, ◌^◌, List, ℕ, ◌++◌, subst, sym, arith}
use Rattle.rec_io.proofs.Options.{none_then}
use Rattle.std.proofs.lemmas.List.Elements.{All-push}
use Rattle.rec_audit.specs.Lines.{AreNumbers, numerals}
use Rattle.rec_audit.proofs.Texts.{no_more, one_read, no_end, numerals_push}
use Rattle.rec_audit.proofs.reading.read_numbers.Goals as goal

pub returns-in_default-numeral-clause-none : goal.returns-in_default-numeral-clause-none
returns-in_default-numeral-clause-none c = no_more c.args.bytes.now c.loop-word.rest.now c.in-Some.word.now c.loop-word.invariant.only c.in-Some.ensures (λ n rest fits. c.in_default-numeral.ensures.none n rest (omega arith))

pub loop-word-preserved : goal.loop-word-preserved
loop-word-preserved c =
    let fits : c.in-Some-numeral.number < 2 ^ 64 = omega (arith, c.in-Some-numeral.ensures.within) in
    let read = numerals_push c.args.bytes.now c.loop-word.rest.now c.in-Some.word.now c.in-Some-numeral.next.now c.loop-word.numbers.items c.in-Some-numeral.number c.loop-word.invariant.read c.in-Some.ensures c.in-Some-numeral.ensures.found in
    record {
      read = subst (λ (ns : List ℕ). c.args.bytes.now ≡ numerals ns ++ c.in-Some-numeral.next.now) (sym c.in_ok-push.ensures.items) read;
      only = one_read c.args.bytes.now c.loop-word.rest.now c.in-Some.word.now c.in-Some-numeral.next.now c.in-Some-numeral.number fits c.loop-word.invariant.only c.in-Some.ensures c.in-Some-numeral.ensures.found c.in-Some-numeral.ensures.apart;
      fit = subst (λ (ns : List ℕ). AreNumbers ns) (sym c.in_ok-push.ensures.items) (All-push (λ n. n < 2 ^ 64) c.loop-word.numbers.items c.in-Some-numeral.number c.loop-word.invariant.fit fits);
    }

pub returns-clause-none : goal.returns-clause-none
returns-clause-none c = none_then c.behind_byte-2.result _ c.behind_byte-2.ensures (no_end c.args.bytes.now c.loop-word.rest.now c.loop-word.invariant.only c.in_default.ensures)
