-- Turns of a running heap's collector, beside which somebody may tell what they free.
use Rattle.std.specs.Prelude.{◌≡◌, ℕ, ◌≤◌, Option, Some, None, IsSome}
use Rattle.std.specs.Arc.{arc_value}
use mathlib.Core.List.{IsPrefix}
use Rattle.rec_collector.specs.declared.turn.Turn.{Turn}
use Rattle.rec_io.specs.Faults.{Rose}
use Rattle.rec_notice.specs.Ring.{sent_by}
use Rattle.rec_notice.specs.Telling.{told}
use Rattle.rec_table.specs.Telling.{IfHeld, IfTurned, TellsTurn, TellsTurns}
use Rattle.rec_table.specs.Turn.{MakesTurn, MakesTurns, MovesToFewer}
use Rattle.rec_table.specs.Views.{CollectorView}
use Rattle.rec_table.specs.declared.telling.Telling.{Telling}
use Rattle.rtrb.specs.Ring.{SameProducer}
use Rattle.recycler_c.specs.Shown.{telling_of, turned_of}
use Rattle.recycler_c.specs.Standing.{Tellers}
use Rattle.recycler_c.specs.declared.end.Collecting.{Collecting}
use Rattle.recycler_c.specs.declared.told.Turned.{Turned}

-- The collector made one turn and told what it freed; or a label that was kept came back, and it made none.
pub record TellsOne (before : CollectorView) (was : Tellers) (after : CollectorView) (now : Tellers) (answer : Telling) : Type 0 where
  pub turn : IfTurned answer (λ turn. MakesTurn before after turn)
  pub grows : IfTurned answer (λ _. TellsTurn before after (told sent_by was) (told sent_by now))
  -- a label that was kept is sent by then
  pub first : IfTurned answer (λ _. IsPrefix (told sent_by was) (sent_by now.tube))
  -- where a label is held nothing but the count of refusals changes
  pub held : IfHeld answer (λ label. was.kept ≡ Some label)
  pub kept : IfHeld answer (λ label. now.kept ≡ Some label)
  pub unsent : IfHeld answer (λ _. sent_by now.tube ≡ sent_by was.tube)
  pub unturned : IfHeld answer (λ _. after ≡ before)
  -- a label is kept only where the ring had no room for one
  pub refused : IsSome now.kept → Rose was.tube.refusals now.tube.refusals
  pub ring : SameProducer was.tube.producer now.tube.producer

-- The collector made turns, at most so many, and told what they freed. Where a label is held they were fewer.
pub record TellsMany (most : ℕ) (before : CollectorView) (was : Tellers) (after : CollectorView) (now : Tellers) (answer : Telling) : Type 0 where
  pub turns : IfTurned answer (λ turn. MakesTurns before after most turn)
  pub grows : TellsTurns before after (told sent_by was) (told sent_by now)
  pub first : 1 ≤ most → IfTurned answer (λ _. IsPrefix (told sent_by was) (sent_by now.tube))
  pub held : IfHeld answer (λ label. now.kept ≡ Some label)
  pub fewer : IfHeld answer (λ _. MovesToFewer before after most)
  pub refused : 1 ≤ most → IsSome now.kept → Rose was.tube.refusals now.tube.refusals
  pub ring : SameProducer was.tube.producer now.tube.producer

-- nothing else of a running heap changes
pub record KeepsRunning (before after : Collecting) : Type 0 where
  pub heap : arc_value after.heap ≡ arc_value before.heap
  pub home : after.home.items ≡ before.home.items
  pub count : after.count ≡ before.count

-- The collector made its turns as the first relation says, where nobody is told, and else as the second; and how the caller is told.
pub data HasMade (makes : CollectorView → CollectorView → Turn → Type 0) (tells : CollectorView → Tellers → CollectorView → Tellers → Telling → Type 0) (before : Collecting) (was : Option Tellers) (shown : Turned) (after : Collecting) (now : Option Tellers) : Type 0 where
  silent : was ≡ None → now ≡ None → (turn : Turn) → makes before.collector after.collector turn → shown ≡ turned_of turn → KeepsRunning before after → HasMade makes tells before was shown after now
  heard : (t t' : Tellers) → was ≡ Some t → now ≡ Some t' → (answer : Telling) → tells before.collector t after.collector t' answer → shown ≡ telling_of answer → KeepsRunning before after → HasMade makes tells before was shown after now
