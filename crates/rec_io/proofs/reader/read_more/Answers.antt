-- The contract of `read_more`: reads once, and keeps what came.
use Rattle.std.proofs.Common.{ℕ, ◌++◌, List, [], take, refl, sym, ap, ◌∙◌}
use Rattle.std.proofs.Math.Nat.{le-add_right}
use Rattle.std.proofs.lemmas.Bool.{false≢true, true≢false}
use Rattle.std.proofs.lemmas.Result.{IfOk-from_err}
use Rattle.std.proofs.lemmas.List.{append-nil}
use Rattle.rec_io.proofs.Reading.{no_fault, ok_no_err, passes_given, passes_kept, passes_none}
use Rattle.rec_io.proofs.reader.read_more.Goals as goal

pub returns-in_ok-extend_from_slice-in-Bytes-clause-passed : goal.returns-in_ok-extend_from_slice-in-Bytes-clause-passed
returns-in_ok-extend_from_slice-in-Bytes-clause-passed g c = (
  take c.in-Bytes.count c.read.new.into,
  passes_given _ _ c.in-Bytes.count c.read.new.into c.in-Bytes.ensures.in_order,
  c.in_ok-extend_from_slice-in-Bytes.ensures.items ∙ ap (λ (piece : List ℕ). c.args.bytes.now.items ++ piece) c.split_at.ensures.front,
)

pub returns-in_ok-extend_from_slice-in-Bytes-clause-left : goal.returns-in_ok-extend_from_slice-in-Bytes-clause-left
returns-in_ok-extend_from_slice-in-Bytes-clause-left g c = (take c.in-Bytes.count c.read.new.into, passes_given _ _ c.in-Bytes.count c.read.new.into c.in-Bytes.ensures.in_order)

pub returns-in_err-extend_from_slice-in-Bytes-clause-left : goal.returns-in_err-extend_from_slice-in-Bytes-clause-left
returns-in_err-extend_from_slice-in-Bytes-clause-left g c = (take c.in-Bytes.count c.read.new.into, passes_given _ _ c.in-Bytes.count c.read.new.into c.in-Bytes.ensures.in_order)

pub returns-in_err-extend_from_slice-in-Bytes-clause-passed : goal.returns-in_err-extend_from_slice-in-Bytes-clause-passed
returns-in_err-extend_from_slice-in-Bytes-clause-passed g c = IfOk-from_err c.from_residual.result _ c.from_residual.ensures.0

pub returns-in_err-extend_from_slice-in-Bytes-clause-more : goal.returns-in_err-extend_from_slice-in-Bytes-clause-more
returns-in_err-extend_from_slice-in-Bytes-clause-more g c = IfOk-from_err c.from_residual.result _ c.from_residual.ensures.0

pub returns-in_err-extend_from_slice-in-Bytes-clause-end : goal.returns-in_err-extend_from_slice-in-Bytes-clause-end
returns-in_err-extend_from_slice-in-Bytes-clause-end g c = IfOk-from_err c.from_residual.result _ c.from_residual.ensures.0

pub returns-in_err-extend_from_slice-in-Bytes-clause-few : goal.returns-in_err-extend_from_slice-in-Bytes-clause-few
returns-in_err-extend_from_slice-in-Bytes-clause-few g c = IfOk-from_err c.from_residual.result _ c.from_residual.ensures.0

pub returns-in_err-extend_from_slice-in-Bytes-clause-fault : goal.returns-in_err-extend_from_slice-in-Bytes-clause-fault
returns-in_err-extend_from_slice-in-Bytes-clause-fault g c = λ is. absurd (no_fault c.from_residual.result c.from_residual.ensures.1 is)

pub returns-in_err-extend_from_slice-in-Bytes-clause-uncounted : goal.returns-in_err-extend_from_slice-in-Bytes-clause-uncounted
returns-in_err-extend_from_slice-in-Bytes-clause-uncounted g c = λ other. c.in-Bytes.ensures.uncounted (λ bad. cc)

pub returns-in-End-clause-passed : goal.returns-in-End-clause-passed
returns-in-End-clause-passed g c = ([], passes_none _ _ c.in-End.ensures.ended, sym (append-nil c.args.bytes.now.items))

pub returns-in-End-clause-left : goal.returns-in-End-clause-left
returns-in-End-clause-left g c = ([], passes_none _ _ c.in-End.ensures.ended)

pub returns-in-Failed-clause-left : goal.returns-in-Failed-clause-left
returns-in-Failed-clause-left g c = ([], passes_kept _ _ c.in-Failed.ensures.kept)

pub read-requires : goal.read-requires
read-requires g c = c.requires

pub split_at-requires : goal.split_at-requires
split_at-requires g c = c.in-Bytes.ensures.fits

pub returns-in_ok-extend_from_slice-in-Bytes-clause-end : goal.returns-in_ok-extend_from_slice-in-Bytes-clause-end
returns-in_ok-extend_from_slice-in-Bytes-clause-end g c = λ ends. absurd (true≢false ends)

pub returns-in_ok-extend_from_slice-in-Bytes-clause-fault : goal.returns-in_ok-extend_from_slice-in-Bytes-clause-fault
returns-in_ok-extend_from_slice-in-Bytes-clause-fault g c = λ is. absurd (ok_no_err _ _ is)

pub returns-in_ok-extend_from_slice-in-Bytes-clause-uncounted : goal.returns-in_ok-extend_from_slice-in-Bytes-clause-uncounted
returns-in_ok-extend_from_slice-in-Bytes-clause-uncounted g c = λ other. c.in-Bytes.ensures.uncounted (λ bad. cc)

pub returns-in-End-clause-more : goal.returns-in-End-clause-more
returns-in-End-clause-more g c = λ more. absurd (false≢true more)

pub returns-in-End-clause-end : goal.returns-in-End-clause-end
returns-in-End-clause-end g c = λ ends. c.in-End.ensures.ended

pub returns-in-End-clause-few : goal.returns-in-End-clause-few
returns-in-End-clause-few g c = le-add_right _ _

pub returns-in-End-clause-fault : goal.returns-in-End-clause-fault
returns-in-End-clause-fault g c = λ is. absurd (ok_no_err _ _ is)

pub returns-in-End-clause-uncounted : goal.returns-in-End-clause-uncounted
returns-in-End-clause-uncounted g c = λ other. c.in-End.ensures.uncounted (λ bad. cc)

pub returns-in-Failed-clause-fault : goal.returns-in-Failed-clause-fault
returns-in-Failed-clause-fault g c = λ is. c.in-Failed.ensures.rose

pub returns-in-Failed-clause-uncounted : goal.returns-in-Failed-clause-uncounted
returns-in-Failed-clause-uncounted g c = λ other. absurd (other refl)
