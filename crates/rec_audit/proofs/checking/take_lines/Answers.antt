-- What is to be said of a journal, line after line.
use Rattle.std.proofs.Common.{◌≡◌, ℕ, length, sym, subst, arith}
use Rattle.std.proofs.lemmas.Grind.{common_steps}
use Rattle.std.proofs.lemmas.List.{nil_from_length}
use Rattle.std.proofs.lemmas.Result.{IfOk-from_err}
use Rattle.rec_audit.specs.declared.verdict.Verdict.TheVariants.{Yes}
use Rattle.rec_audit.specs.Verdicts.{IsVerdict}
use Rattle.rec_audit.proofs.Concluding.{read_none, read_more, says_no, says_yes, says_open}
use Rattle.rec_audit.proofs.checking.take_lines.Goals as goal

pub loop-rest-init : goal.loop-rest-init
loop-rest-init c =
    record {
      ready = c.requires.ready;
      few = omega (arith, c.requires.none, c.requires.few);
      upto = omega arith;
      read = read_none c.args.audit.now c.args.checker.now c.requires.knows;
    }

pub take-requires-clause-some : goal.take-requires-clause-some
take-requires-clause-some c = grind (arith, common_steps)

pub overflow_add-line : goal.overflow_add-line
overflow_add-line c = omega (arith, c.loop-rest.invariant.upto, c.requires.few)

pub loop-rest-preserved : goal.loop-rest-preserved
loop-rest-preserved c =
    let taken = rw c.in-Ok.is at c.in_ok-behind.ensures in
    record {
      ready = taken.ready;
      few = taken.few;
      upto = omega (arith, taken.less, c.loop-rest.invariant.upto);
      read = read_more c.args.audit.now c.loop-rest.rest.now c.in-Ok.behind.now c.loop-rest.line c.loop-rest.checker c.take.new.self c.loop-rest.invariant.read taken.taken;
    }

pub loop-rest-smaller : goal.loop-rest-smaller
loop-rest-smaller c = (rw c.in-Ok.is at c.in_ok-behind.ensures).less

pub returns-in-Err : goal.returns-in-Err
returns-in-Err c =
    let taken = rw c.in-Err.is at c.in_ok-behind.ensures in
    says_no c.args.audit.now c.loop-rest.rest.now c.loop-rest.line c.in-Err.rule c.loop-rest.checker c.requires.few c.loop-rest.invariant.read taken.fault

pub returns-in-Some : goal.returns-in-Some
returns-in-Some c =
    let none : length c.loop-rest.rest.now ≡ 0 = grind (arith, common_steps) in
    subst (λ (n : ℕ). IsVerdict c.args.audit.now (Yes n)) (sym c.in-Some.ensures.whole.1)
    (says_yes c.args.audit.now c.loop-rest.rest.now c.loop-rest.line c.loop-rest.checker c.requires.few (nil_from_length c.loop-rest.rest.now none) c.loop-rest.invariant.read c.in-Some.ensures.whole.0)

pub overflow_add-result : goal.overflow_add-result
overflow_add-result c = omega (arith, c.loop-rest.invariant.upto, c.requires.few)

pub returns-in-None : goal.returns-in-None
returns-in-None c =
    let none : length c.loop-rest.rest.now ≡ 0 = grind (arith, common_steps) in
    says_open c.args.audit.now c.loop-rest.rest.now c.loop-rest.line c.loop-rest.checker c.requires.few (nil_from_length c.loop-rest.rest.now none) c.loop-rest.invariant.read c.in-None.ensures.open

pub take-requires-clause-ready : goal.take-requires-clause-ready
take-requires-clause-ready c = c.loop-rest.invariant.ready

pub take-requires-clause-few : goal.take-requires-clause-few
take-requires-clause-few c = c.loop-rest.invariant.few

pub returns-in_err-behind : goal.returns-in_err-behind
returns-in_err-behind c = IfOk-from_err c.from_residual.result _ c.from_residual.ensures.0
