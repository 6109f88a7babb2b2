-- The summary is its four lines, with as many live objects as rows.
use Rattle.std.proofs.Common.{◌∙◌, ◌++◌, List, map, ap}
use Rattle.rec_model.specs.LegalOrder.{Line}
use Rattle.rec_world.specs.World.{Core}
use Rattle.rec_report.specs.Summary.{summary_lines}
use Rattle.rec_report.proofs.summing.summary.Goals as goal

pub returns : goal.returns
returns c =
    let w : Core = c.args.world.now in
    let journals : List (List Line) = map (λ journal. journal.lines) c.args.journals.now in
    let (rows, lists, same) = c.in_ok-live.ensures in
    record {
      lines = (
        rows,
        lists,
        c.in_ok-add_lines.ensures
            ∙ ap (λ t. t ++ summary_lines c.version.result journals c.in_ok-live.live w.made w.collector.collections w.collector.sets) c.new-text.ensures
            ∙ ap (λ v. summary_lines v journals c.in_ok-live.live w.made w.collector.collections w.collector.sets) c.version.ensures.value
            ∙ ap (λ k. summary_lines c.args.script.now.version journals k w.made w.collector.collections w.collector.sets) same,
      );
    }
