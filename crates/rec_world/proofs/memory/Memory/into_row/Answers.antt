-- The row is what it holds, laid out.
use Rattle.std.proofs.Common.{sym, ap, ◌∙◌}
use Rattle.rec_core.specs.Row.{row}
use Rattle.rec_world.proofs.Row.{row_cells}
use Rattle.rec_world.proofs.Indexed.{long}
use Rattle.rec_world.proofs.memory.Memory.into_row.Goals as goal

pub returns : goal.returns
returns c = sym (row_cells c.self.inside.layout.places c.self.inside.layout.slots c.self.inside.row.items (long c.self.inside c.self.invariant)) ∙ ap row c.self.view_is
