-- The contract of `journals_for`: an empty journal for each mutator, with room for its commands.
use Rattle.std.proofs.Common.{◌≡◌, ℕ, ◌++◌, ◌∷◌, [], List, map, length, take, sym, ap, subst, ◌∙◌, arith}
use Rattle.std.proofs.lemmas.List.{map_push}
use Rattle.rec_world.specs.Journal.{Notes}
use Rattle.rec_script.specs.Script.{ScriptContents}
use Rattle.rec_play.specs.Played.{AreReady, lengths_of}
use Rattle.rec_play.proofs.Ready.{journal_with, lengths_more, lengths_all, ready}
use Rattle.rec_play.proofs.opening.journals_for.Goals as goal

pub loop-index-preserved : goal.loop-index-preserved
loop-index-preserved c =
    let script : ScriptContents = c.args.script.now in
    let so : List ℕ = take c.loop-index.index (lengths_of script) in
    c.in_ok-push.ensures.items
    ∙ ap (λ js. js ++ c.in_ok-open.field-0 ∷ []) c.loop-index.invariant
    ∙ ap (λ (j : Notes). map journal_with so ++ j ∷ []) c.in_ok-open.ensures
    ∙ sym (map_push journal_with so (length c.commands.result.now))
    ∙ ap (map journal_with) (sym (lengths_more script.commands c.loop-index.index c.commands.result.now c.commands.ensures.value))

pub returns : goal.returns
returns c =
    let script : ScriptContents = c.args.script.now in
    let end : take c.loop-index.index (lengths_of script) ≡ lengths_of script = lengths_all script.commands c.loop-index.index (omega (arith, c.loop-index-test.false, c.mutators-index-end.ensures.value)) in
    subst (AreReady script.commands) (sym (c.loop-index.invariant ∙ ap (map journal_with) end)) (ready script.commands)
