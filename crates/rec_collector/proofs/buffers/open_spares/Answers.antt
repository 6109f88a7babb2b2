-- The frame of the spares names no slot.
use Rattle.std.proofs.Common.{List, Option, ℕ, None, length, replicate, ap, ◌∙◌, false}
use Rattle.std.proofs.lemmas.List.{length-replicate}
use Rattle.rec_collector.proofs.Common.{retired}
use Rattle.rec_collector.proofs.buffers.open_spares.Goals as goal

pub open_row-row-requires : goal.open_row-row-requires
open_row-row-requires c = ap length c.in_ok-frame.ensures ∙ length-replicate c.args.registers None

pub returns-clause-buffers : goal.returns-clause-buffers
returns-clause-buffers c = c.in_ok-row.ensures ∙ ap (λ (held : List (Option ℕ)). replicate c.args.mutators (retired held c.args.capacity)) c.in_ok-frame.ensures

pub returns-clause-left : goal.returns-clause-left
returns-clause-left c = c.in_ok-left.ensures.items_if_clones_equal (λ y e. e) ∙ ap (λ (n : ℕ). replicate n false) c.from.ensures
