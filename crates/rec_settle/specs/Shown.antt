-- What a watch is shown of settling, turn by turn.
use Rattle.std.specs.Prelude.{◌≡◌, ℕ, ◌<◌, Bool, true, false, Option, None, Some, IfSome, IsNone, List, [], ◌++◌}
use Rattle.rec_word.specs.declared.op.Op.{Op}
use Rattle.rec_collector.specs.Shown.{Shown}
use Rattle.rec_collector.specs.declared.turn.Turn.{Turn}
use Rattle.rec_core.specs.Core.{Core}
use Rattle.rec_core.specs.Moves.{turned}
use Rattle.rec_core.specs.Shown.{turn_shown}
use Rattle.rec_core.specs.Turn.{step_seen}
use Rattle.rec_settle.specs.Collecting.{Anyone, HasStepped}
use Rattle.rec_settle.specs.Left.{left_in}
use Rattle.rec_settle.specs.Stages.{HasCome, begun, offered, stage_turned}
use Rattle.rec_settle.specs.declared.turns.Settling.{Settling}
use Rattle.rec_settle.specs.declared.turns.Settling.TheVariants.{Finishing, Settled}

-- A turn of settling was made from this stage and heap, and this is told of it; none is left once the heap is settled. From wherever
-- settling began, it has come a turn further, and has fewer to come.
pub record Goes (stage : Settling) (before : Core) (told : Option (Turn × Option (Op × ℕ))) (next : Settling) (after : Core) : Type 0 where
  pub stepped : IfSome told (λ t. HasStepped Anyone (offered stage before) t.0 after)
  pub seen : IfSome told (λ t. t.1 ≡ step_seen (offered stage before))
  pub stage_so : IfSome told (λ t. next ≡ stage_turned (begun stage) t.0 after.epoch)
  pub on : IfSome told (λ t. stage ≡ Settled → ⊥)
  pub comes : (first : Core) → HasCome first stage before → HasCome first next after
  pub nearer : IfSome told (λ t. (first : Core) → HasCome first stage before → left_in next after < left_in stage before)
  pub ended : IsNone told → stage ≡ Settled
  pub stays : stage ≡ Settled → IsNone told × (next ≡ stage) × (after ≡ before)

-- what is shown of it
abbrev pub told_shown : Settling → (before : Core) → Option (Turn × Option (Op × ℕ)) → List Shown
told_shown stage before None = []
told_shown stage before (Some told) = turn_shown (offered stage before)

-- The stages and heaps to which turns of settling lead from this stage and heap, with all that is shown of these turns. Whoever the
-- collector waits for polls behind a turn, of which nothing is shown.
pub data Leads (from : Settling) (first : Core) : List Shown → Settling → Core → Type 0 where
  none : Leads from first [] from first
  turns : (shown : List Shown) (stage : Settling) (before after : Core) (turn : Turn)
      → Leads from first shown stage before → (stage ≡ Settled → ⊥) → HasStepped Anyone (offered stage before) turn after
      → Leads from first (shown ++ turn_shown (offered stage before)) (stage_turned (begun stage) turn after.epoch) after

-- those to which they lead from the heap where settling begins
abbrev pub IsShownTo : (first : Core) → List Shown → Settling → Core → Type 0
IsShownTo first = Leads (Finishing first.epoch) first

-- Turns of settling were made from this stage and heap, with all that is shown of them: at least one, or none is left, since the heap is
-- settled. From wherever settling began, it has come further, and has fewer to come.
pub record HasGone (stage : Settling) (before : Core) (shown : List Shown) (more : Bool) (next : Settling) (after : Core) : Type 0 where
  pub leads : Leads stage before shown next after
  pub comes : (first : Core) → HasCome first stage before → HasCome first next after
  pub nearer : more ≡ true → (first : Core) → HasCome first stage before → left_in next after < left_in stage before
  pub ended : more ≡ false → (stage ≡ Settled) × (next ≡ stage) × (after ≡ before)

-- A watch refused a turn of settling, of which it was shown each one before: the heap is the one right behind it.
pub record StopsBehind (first : Core) (shown : List Shown) (after : Core) : Type 0 where
  pub stage : Settling
  pub before : Core
  pub so : IsShownTo first shown stage before
  pub on : stage ≡ Settled → ⊥
  pub stopped : after ≡ turned (offered stage before)
