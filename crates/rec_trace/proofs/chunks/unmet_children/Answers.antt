-- Each slot of the chunk is one that there is, so its fields stand among the words.
use Rattle.std.proofs.Common.{◌≡◌, ◌<◌, ◌++◌, ℕ, List, get_or, map, take, sym, ap, ◌∙◌, arith}
use Rattle.rec_trace.proofs.Joining.{at_place, fields_there, pieces_more, unmet-append}
use Rattle.std.proofs.lemmas.Result.{IfOk-from_err}
use Rattle.std.proofs.lemmas.List.{take_all}
use Rattle.std.specs.List.{flat_map}
use Rattle.rec_word.specs.Word.{target_of}
use Rattle.rec_model.specs.Reach.{named}
use Rattle.rec_trace.specs.Children.{all_children, children, unmet}
use Rattle.rec_trace.proofs.chunks.unmet_children.Goals as goal

pub of-requires : goal.of-requires
of-requires c =
    fields_there c.args.found.now.slots c.args.fields.words.now c.args.fields.each _ c.requires.fields
    (at_place (λ s. s < c.args.found.now.slots) c.args.chunk.now c.requires.chunk c.loop-slot.slot-index 0 c.loop-slot-test.true)

pub returns-in_err-children : goal.returns-in_err-children
returns-in_err-children c = IfOk-from_err c.from_residual.result _ c.from_residual.ensures.0

pub loop-slot-init : goal.loop-slot-init
loop-slot-init c = c.in_ok-children.ensures.items

pub returns-in_err-push_unmet : goal.returns-in_err-push_unmet
returns-in_err-push_unmet c = IfOk-from_err c.from_residual-in_err-push_unmet.result _ c.from_residual-in_err-push_unmet.ensures.0

pub returns : goal.returns
returns c = c.loop-slot.invariant ∙ ap (λ (l : List ℕ). unmet c.args.found.now.list (all_children c.args.fields.words.now c.args.fields.each l)) (take_all c.loop-slot.slot-index c.args.chunk.now (omega (arith, c.loop-slot-test.false)))

pub loop-slot-preserved : goal.loop-slot-preserved
loop-slot-preserved c =
    let found : List ℕ = c.args.found.now.list in
    let f : ℕ → List ℕ = children c.args.fields.words.now c.args.fields.each in
    let at : ℕ = c.loop-slot.slot-index in
    let slots : List ℕ = c.args.chunk.now in
    let one : named (map target_of c.of.result.now) ≡ f (get_or slots at 0) = ap (λ (words : List ℕ). named (map target_of words)) c.of.ensures in
    c.in_ok-push_unmet.ensures ∙ (λ i. c.loop-slot.invariant i ++ unmet found (one i)) ∙ sym (unmet-append found (flat_map f (take at slots)) (f (get_or slots at 0))) ∙ ap (unmet found) (sym (pieces_more f slots at 0 c.loop-slot-test.true))
