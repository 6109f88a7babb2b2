-- The rows so far stand behind what there was.
use Rattle.std.proofs.Common.{◌≡◌, ◌++◌, map, take}
use Rattle.rec_model.specs.Listing.{slot_row}
use Rattle.rec_world.specs.World.{sight}
use Rattle.rec_report.specs.Text.{row_lines}
use Rattle.rec_report.proofs.page.Text.add_rows.Given as goal

abbrev pub invariant-loop-i : goal.invariant-loop-i
invariant-loop-i l = l.self ≡ l.fn.self ++ row_lines (map (slot_row (sight l.world) l.numbering.list) (take l.i l.numbering.list))
