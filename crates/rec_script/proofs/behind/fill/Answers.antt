-- One mutator more.
use Rattle.std.proofs.Common.{◌≡◌, ◌-◌, ◌++◌, [], ◌∷◌, List, length, replicate, ap, ◌∙◌, arith, length-append}
use Rattle.std.proofs.lemmas.List.{length-replicate}
use Rattle.rec_model.specs.declared.command.Cmd.{Cmd}
use Rattle.rec_script.specs.Script.{ScriptContents, most_mutators}
use Rattle.rec_script.proofs.Behinds.{all_more}
use Rattle.rec_script.proofs.behind.fill.Goals as goal

pub add_mutator-requires : goal.add_mutator-requires
add_mutator-requires c =
    let first : List (List Cmd) = c.args.script.commands in
    let version : most_mutators c.loop.script.version ≡ most_mutators c.args.script.version = ap (λ (x : ScriptContents). most_mutators x.version) c.loop.invariant in
    let size : length c.loop.script.commands ≡ length (first ++ replicate (c.loop.counter - length first) []) = ap (λ (x : ScriptContents). length x.commands) c.loop.invariant in
    omega (arith, version, size, length-append first (replicate (c.loop.counter - length first) []), length-replicate {A = List Cmd} (c.loop.counter - length first) [])

pub loop-preserved : goal.loop-preserved
loop-preserved c =
    c.in_ok-add_mutator.ensures.commands
    ∙ ap (λ (x : ScriptContents). let y : ScriptContents = record x { commands = x.commands ++ [] ∷ [] } in y) c.loop.invariant
    ∙ ap (λ (css : List (List Cmd)). let y : ScriptContents = record c.args.script { commands = css } in y) (all_more c.args.script.commands c.loop.counter (omega arith))
