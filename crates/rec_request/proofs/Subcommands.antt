-- Commands that join another as its subcommands.
use Rattle.std.proofs.Common.{◌≡◌, ◌∙◌, true, false, Result, Ok, Err, ap}
use Rattle.std.proofs.lemmas.Bool.{not-true}
use Rattle.std.specs.Result.{IfOk, IsOk}
use Rattle.std.specs.declared.alloc.AllocError.{AllocError}
use Rattle.clap.specs.Words.{App, Shape, app_of}
use Rattle.clap.specs.declared.builder.command.Command.{Command}
use Rattle.clap.specs.declared.builder.command.Command.TheViews.{out-Command}
use Rattle.clap.proofs.WalkLemmas.{both}
use Rattle.rec_request.specs.CommandLine.{app_with}

-- a plain command has no global arguments
pub no_globals : (command : Command) → (app_of command).top.is_plain ≡ true → (out-Command command).has_globals ≡ false
no_globals command plain = not-true _ (both _ _ (both _ _ (both _ _ plain).1).1).0

-- one that was made plain is
pub is_plain : (made : Result Command AllocError) (shape : Shape) → shape.is_plain ≡ true → IfOk made (λ sub. app_of sub ≡ app_with shape) → IfOk made (λ sub. (app_of sub).top.is_plain ≡ true)
is_plain (Ok sub) shape plain is = ap (λ (a : App). a.top.is_plain) is ∙ plain
is_plain (Err e) shape plain is = is

-- a command of this shape that was made is the one that joins
pub joins : (made : Result Command AllocError) (whole : App) (after : Shape → App) (shape : Shape) → IsOk made → IfOk made (λ sub. app_of sub ≡ app_with shape) → IfOk made (λ sub. whole ≡ after (app_of sub).top) → whole ≡ after shape
joins (Ok sub) whole after shape ok is joined = joined ∙ ap (λ (a : App). after a.top) is
joins (Err e) whole after shape ok is joined = cc

-- the same of a command that may not have been made
pub last_joins : (made_whole made : Result Command AllocError) (after : Shape → App) (shape : Shape) → IfOk made_whole (λ whole. IsOk made) → IfOk made (λ sub. app_of sub ≡ app_with shape) → IfOk made_whole (λ whole. IfOk made (λ sub. app_of whole ≡ after (app_of sub).top)) → IfOk made_whole (λ whole. app_of whole ≡ after shape)
last_joins (Ok whole) made after shape ok is joined = joins made (app_of whole) after shape ok is joined
last_joins (Err e) made after shape ok is joined = ok
