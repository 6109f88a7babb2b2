-- The contract of `keep`: what is to be kept of the script in the bytes.
use Rattle.std.proofs.Common.{◌≡◌, sym, ap, subst, ◌∙◌, Result, Err}
use Rattle.std.proofs.lemmas.Result.{err_from_is_err_and}
use Rattle.rec_script.specs.declared.script.Script.{Script}
use Rattle.rec_script.specs.declared.error.ScriptError.{ScriptError}
use Rattle.rec_script.specs.declared.error.ScriptError.TheVariants.{Bad}
use Rattle.rec_script.specs.Script.{IsRefused}
use Rattle.rec_run.proofs.alone.keep.Goals as goal

pub returns-in_err-played-clause-refused : goal.returns-in_err-played-clause-refused
returns-in_err-played-clause-refused c = λ line kind is.
    let p = err_from_is_err_and c.from_residual.result c.from_residual.ensures.1 in
    let same : p.0 ≡ Bad line kind = cc in
    let was : ◌≡◌ {A = Result Script ScriptError} (Err c.in_err-played.field-0.0) (Err (Bad line kind)) = ap (λ (x : ScriptError). Err x) (sym p.2 ∙ same) in
    subst (λ bytes. IsRefused bytes line kind) c.deref.ensures.value (c.in_err-played.ensures.refused line kind was)
