-- Each line is that of the summary.
use Rattle.std.proofs.Common.{◌≡◌, ◌∙◌, List, length, map, refl, sym, ap, get_or}
use Rattle.std.specs.Prelude.{string_bytes}
use Rattle.std.proofs.lemmas.List.{length-map}
use Rattle.rec_model.specs.LegalOrder.{Line}
use Rattle.rec_world.specs.World.{Core}
use Rattle.rec_report.specs.Summary.{answers_at, answers_line, collections_line, commands_of, objects_line, sizes_line}
use Rattle.rec_report.specs.Text.{refusals}
use Rattle.rec_report.proofs.Summed.{answers_line-same, four_lines}
use Rattle.rec_report.proofs.summing.add_lines.Goals as goal

pub returns : goal.returns
returns c =
    let w : Core = c.args.world.now in
    let journals : List (List Line) = map (λ journal. journal.lines) c.args.journals.now in
    let sizes : string_bytes c.in_ok-sizes.field-0 ≡ sizes_line (length journals) (commands_of journals) =
    c.in_ok-sizes.ensures ∙ ap (λ n. sizes_line n c.commands_of.result) (sym (length-map c.args.journals.now (λ journal. journal.lines))) ∙ ap (sizes_line (length journals)) c.commands_of.ensures in
    let answers : string_bytes c.in_ok-answers.field-0 ≡ answers_line c.args.version (answers_at journals) =
    c.in_ok-answers.ensures ∙ answers_line-same c.args.version (λ at. get_or c.tally.result at 0) (answers_at journals) c.tally.ensures in
    let objects : string_bytes c.in_ok-objects.field-0 ≡ objects_line c.args.live w.made (refusals journals) =
    c.in_ok-objects.ensures ∙ ap (λ n. objects_line c.args.live n c.refusals_of.result) c.made.ensures.made ∙ ap (objects_line c.args.live w.made) c.refusals_of.ensures in
    let collections : string_bytes c.in_ok-collections.field-0 ≡ collections_line w.collector.collections w.collector.sets.freed w.collector.sets.delta w.collector.sets.sigma =
    c.in_ok-collections.ensures ∙ rw (c.collections.ensures.collections, c.sets-sets.ensures.sets) refl in
    four_lines _ c.add.new.self c.add-2.new.self c.add-3.new.self c.add-4.new.self _ _ _ _ c.in_ok-add.ensures c.in_ok-add-2.ensures c.in_ok-add-3.ensures c.in_ok-add-4.ensures ∙ rw (sizes, answers, objects, collections) refl
