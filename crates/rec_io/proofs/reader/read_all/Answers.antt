-- The contract of `read_all`: reads a source to its end, or past the limit.
use Rattle.std.proofs.Common.{ℕ, List, [], ◌++◌, Err, refl, sym, ap, subst, ◌∙◌, arith}
use Rattle.std.proofs.lemmas.Result.{IfOk-from_err}
use Rattle.rec_io.specs.Faults.{Rose}
use Rattle.rec_io.specs.Source.{Passes}
use Rattle.rec_io.proofs.Reading.{came, no_fault, ok_no_err, passed_on, passes_more}
use Rattle.rec_io.proofs.reader.read_all.Goals as goal

pub returns-then-not-branch-clause-passed : goal.returns-then-not-branch-clause-passed
returns-then-not-branch-clause-passed g c =
    let (piece, passes, items) = c.in_ok-read_more.ensures.passed in
    let P : List ℕ → Type 0 = Passes (g.S.Source.rest c.args.source.now) (g.S.Source.rest c.read_more.new.source) in
    subst P (sym {A = List ℕ} items) (passes_more _ _ _ c.loop-source.bytes.items piece c.loop-source.invariant.passed passes)

pub returns-then-not-branch-clause-whole : goal.returns-then-not-branch-clause-whole
returns-then-not-branch-clause-whole g c = λ short rest told.
    let before = c.loop-source.invariant.passed rest told in
    (c.in_ok-read_more.ensures.end c.if-not-branch.true).told before.left before.told

pub loop-source-preserved : goal.loop-source-preserved
loop-source-preserved g c =
    let (piece, passes, items) = c.in_ok-read_more.ensures.passed in
    let P : List ℕ → Type 0 = Passes (g.S.Source.rest c.args.source.now) (g.S.Source.rest c.read_more.new.source) in
    record {
      room = c.loop-source.invariant.room;
      passed = subst P (sym {A = List ℕ} items) (passes_more _ _ _ c.loop-source.bytes.items piece c.loop-source.invariant.passed passes);
      few = let few = c.in_ok-read_more.ensures.few in let room = c.loop-source.invariant.room in omega (arith, few, room);
      faults = c.in_ok-read_more.ensures.uncounted (ok_no_err _ _) ∙ c.loop-source.invariant.faults;
    }

pub returns-in_err-read_more-clause-left : goal.returns-in_err-read_more-clause-left
returns-in_err-read_more-clause-left g c =
    let (piece, passes) = c.read_more.ensures.left in
    (c.loop-source.bytes.items ++ piece, passes_more _ _ _ c.loop-source.bytes.items piece c.loop-source.invariant.passed passes)

pub returns-then-not-branch-clause-left : goal.returns-then-not-branch-clause-left
returns-then-not-branch-clause-left g c =
    let (piece, passes) = c.read_more.ensures.left in
    (c.loop-source.bytes.items ++ piece, passes_more _ _ _ c.loop-source.bytes.items piece c.loop-source.invariant.passed passes)

pub returns-in_err-chunk-clause-passed : goal.returns-in_err-chunk-clause-passed
returns-in_err-chunk-clause-passed g c = IfOk-from_err c.from_residual.result _ c.from_residual.ensures.0

pub returns-in_err-read_more-clause-passed : goal.returns-in_err-read_more-clause-passed
returns-in_err-read_more-clause-passed g c = IfOk-from_err c.from_residual-in_err-read_more.result _ c.from_residual-in_err-read_more.ensures.0

pub returns-in_err-chunk-clause-whole : goal.returns-in_err-chunk-clause-whole
returns-in_err-chunk-clause-whole g c = IfOk-from_err c.from_residual.result _ c.from_residual.ensures.0

pub returns-in_err-read_more-clause-whole : goal.returns-in_err-read_more-clause-whole
returns-in_err-read_more-clause-whole g c = IfOk-from_err c.from_residual-in_err-read_more.result _ c.from_residual-in_err-read_more.ensures.0

pub returns-in_err-chunk-clause-few : goal.returns-in_err-chunk-clause-few
returns-in_err-chunk-clause-few g c = IfOk-from_err c.from_residual.result _ c.from_residual.ensures.0

pub returns-in_err-read_more-clause-few : goal.returns-in_err-read_more-clause-few
returns-in_err-read_more-clause-few g c = IfOk-from_err c.from_residual-in_err-read_more.result _ c.from_residual-in_err-read_more.ensures.0

pub returns-in_err-chunk-clause-left : goal.returns-in_err-chunk-clause-left
returns-in_err-chunk-clause-left g c = ([], λ rest told. record { left = rest; told = told; front = refl })

pub returns-in_err-chunk-clause-fault : goal.returns-in_err-chunk-clause-fault
returns-in_err-chunk-clause-fault g c = λ is. absurd (no_fault c.from_residual.result c.from_residual.ensures.1 is)

pub returns-in_err-chunk-clause-uncounted : goal.returns-in_err-chunk-clause-uncounted
returns-in_err-chunk-clause-uncounted g c = λ other. refl

pub returns-in_err-read_more-clause-fault : goal.returns-in_err-read_more-clause-fault
returns-in_err-read_more-clause-fault g c = λ is.
    let stopped = c.read_more.ensures.fault (c.in_err-read_more.was ∙ ap Err (came _ _ c.from_residual-in_err-read_more.ensures.1 is)) in
    subst (λ (n : ℕ). Rose n (g.S.Source.faults c.read_more.new.source)) c.loop-source.invariant.faults stopped

pub returns-in_err-read_more-clause-uncounted : goal.returns-in_err-read_more-clause-uncounted
returns-in_err-read_more-clause-uncounted g c = λ other.
    c.read_more.ensures.uncounted (λ bad. other (passed_on _ _ c.from_residual-in_err-read_more.ensures.1 (sym c.in_err-read_more.was ∙ bad))) ∙ c.loop-source.invariant.faults
