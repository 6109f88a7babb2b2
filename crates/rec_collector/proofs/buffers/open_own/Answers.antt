-- A buffer's frame is made of its registers.
use Rattle.std.proofs.Common.{List, Option, ℕ, length, ap, ◌∙◌}
use Rattle.std.proofs.lemmas.Result.{IfOk-weaker}
use Rattle.rec_collector.proofs.Common.{retired}
use Rattle.rec_collector.proofs.buffers.open_own.Goals as goal

pub open_retired-buffer-requires : goal.open_retired-buffer-requires
open_retired-buffer-requires c = ap length c.in_ok-frame.ensures ∙ c.requires

pub returns : goal.returns
returns c = IfOk-weaker c.open_retired-buffer.result _ _ (λ buffer e. e ∙ ap (λ (own : List (Option ℕ)). retired own c.args.capacity) c.in_ok-frame.ensures) c.open_retired-buffer.ensures
