-- The contract of `make`: a script of version 1, of so many mutators with so many commands each, drawn from a seed as the profile says (`docs/PROFILE.md`, "Made scripts").
use Rattle.std.proofs.Common.{◌≡◌, ◌≤◌, ◌∙◌, ◌++◌, ℕ, List, length, sym, ap, subst, arith}
use Rattle.std.proofs.lemmas.Result.{IfOk-from_err}
use Rattle.std.specs.Prelude.{codes}
use Rattle.rec_script.specs.Lines.{lines}
use Rattle.rec_script.specs.Script.{Spells}
use Rattle.rec_script.specs.Made.{made_script, made_text}
use Rattle.rec_script.proofs.Draws.{mutator_behind, mutator_more, opening_generator, opening_text, short_made, spells_made}
use Rattle.rec_script.proofs.making.make.Goals as goal

pub loop-init : goal.loop-init
loop-init c = record {
  text = c.in_ok-push_str.ensures.bytes ∙ ap (λ (text : List ℕ). text ++ codes "recycler 1\nheap 1024 2 8\n") c.in_ok-text.ensures.bytes ∙ sym (opening_text c.args.seed c.args.commands);
  next = c.new-generator.ensures ∙ sym (opening_generator c.args.seed c.args.commands);
}

pub loop-preserved : goal.loop-preserved
loop-preserved c = record {
  text = mutator_more c.args.seed c.loop.counter c.args.commands _ _ _ _ c.loop.invariant.next c.loop.invariant.text c.in_ok-push_str-2.ensures.bytes c.in_ok-push_commands.ensures.text;
  next = mutator_behind c.args.seed c.loop.counter c.args.commands _ _ c.loop.invariant.next c.in_ok-push_commands.ensures.next;
}

-- the loop ends behind the last mutator, so the text is the whole one
whole : (seed mutators counter commands : ℕ) (text : List ℕ) → text ≡ made_text seed counter commands → counter ≤ mutators → mutators ≤ counter → text ≡ made_text seed mutators commands
whole seed mutators counter commands text so most least = let all : counter ≡ mutators = omega arith in so ∙ ap (λ (n : ℕ). made_text seed n commands) all

pub returns-clause-script : goal.returns-clause-script
returns-clause-script c =
    let all = whole c.args.seed c.args.mutators c.loop.counter c.args.commands _ c.loop.invariant.text c.loop.auto.counter-end c.loop-test.false in
    subst (λ (text : List ℕ). Spells (lines text) (made_script c.args.seed c.args.mutators c.args.commands)) (sym (ap (λ v. v.items) c.into_bytes.ensures.value ∙ all)) (spells_made c.args.seed c.args.mutators c.args.commands c.requires.mutators.0 c.requires.mutators.1 c.requires.commands)

pub returns-clause-few : goal.returns-clause-few
returns-clause-few c =
    let all = whole c.args.seed c.args.mutators c.loop.counter c.args.commands _ c.loop.invariant.text c.loop.auto.counter-end c.loop-test.false in
    subst (λ (text : List ℕ). length text ≤ 16777216) (sym (ap (λ v. v.items) c.into_bytes.ensures.value ∙ all)) (short_made c.args.seed c.args.mutators c.args.commands c.requires.mutators.0 c.requires.mutators.1 c.requires.commands)

pub returns-in_err-text-clause-made : goal.returns-in_err-text-clause-made
returns-in_err-text-clause-made c = IfOk-from_err c.from_residual.result _ c.from_residual.ensures.0

pub returns-in_err-text-clause-script : goal.returns-in_err-text-clause-script
returns-in_err-text-clause-script c = IfOk-from_err c.from_residual.result _ c.from_residual.ensures.0

pub returns-in_err-text-clause-few : goal.returns-in_err-text-clause-few
returns-in_err-text-clause-few c = IfOk-from_err c.from_residual.result _ c.from_residual.ensures.0

pub returns-in_err-push_str-clause-made : goal.returns-in_err-push_str-clause-made
returns-in_err-push_str-clause-made c = IfOk-from_err c.from_residual-in_err-push_str.result _ c.from_residual-in_err-push_str.ensures.0

pub returns-in_err-push_str-clause-script : goal.returns-in_err-push_str-clause-script
returns-in_err-push_str-clause-script c = IfOk-from_err c.from_residual-in_err-push_str.result _ c.from_residual-in_err-push_str.ensures.0

pub returns-in_err-push_str-clause-few : goal.returns-in_err-push_str-clause-few
returns-in_err-push_str-clause-few c = IfOk-from_err c.from_residual-in_err-push_str.result _ c.from_residual-in_err-push_str.ensures.0

pub returns-in_err-push_str-2-clause-made : goal.returns-in_err-push_str-2-clause-made
returns-in_err-push_str-2-clause-made c = IfOk-from_err c.from_residual-in_err-push_str-2.result _ c.from_residual-in_err-push_str-2.ensures.0

pub returns-in_err-push_str-2-clause-script : goal.returns-in_err-push_str-2-clause-script
returns-in_err-push_str-2-clause-script c = IfOk-from_err c.from_residual-in_err-push_str-2.result _ c.from_residual-in_err-push_str-2.ensures.0

pub returns-in_err-push_str-2-clause-few : goal.returns-in_err-push_str-2-clause-few
returns-in_err-push_str-2-clause-few c = IfOk-from_err c.from_residual-in_err-push_str-2.result _ c.from_residual-in_err-push_str-2.ensures.0

pub returns-in_err-push_commands-clause-made : goal.returns-in_err-push_commands-clause-made
returns-in_err-push_commands-clause-made c = IfOk-from_err c.from_residual-in_err-push_commands.result _ c.from_residual-in_err-push_commands.ensures.0

pub returns-in_err-push_commands-clause-script : goal.returns-in_err-push_commands-clause-script
returns-in_err-push_commands-clause-script c = IfOk-from_err c.from_residual-in_err-push_commands.result _ c.from_residual-in_err-push_commands.ensures.0

pub returns-in_err-push_commands-clause-few : goal.returns-in_err-push_commands-clause-few
returns-in_err-push_commands-clause-few c = IfOk-from_err c.from_residual-in_err-push_commands.result _ c.from_residual-in_err-push_commands.ensures.0

pub returns-clause-made : goal.returns-clause-made
returns-clause-made c =
    let all = whole c.args.seed c.args.mutators c.loop.counter c.args.commands _ c.loop.invariant.text c.loop.auto.counter-end c.loop-test.false in
    ap (λ v. v.items) c.into_bytes.ensures.value ∙ all
