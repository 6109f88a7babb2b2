-- What a turn of the collector on the table frees, and what it tells of that.
use Rattle.std.specs.Prelude.{◌≡◌, ◌≢◌, ℕ, List, [], ◌∷◌, ◌++◌, ⊤, Option, Some, None}
use Rattle.rec_word.specs.Header.{IsTakenHeader, label_of}
use Rattle.rec_word.specs.declared.op.Op.{Op}
use Rattle.rec_word.specs.declared.op.Op.TheVariants.{FreeHeader}
use Rattle.rec_collector.specs.Next.{next_of}
use Rattle.rec_collector.specs.Private.{Private}
use Rattle.rec_collector.specs.declared.turn.Turn.{Turn}
use Rattle.rec_notice.specs.Telling.{as_list}
use Rattle.rec_table.specs.Beats.{gathered}
use Rattle.rec_table.specs.Rule.{collecting_more, word_of}
use Rattle.rec_table.specs.Views.{CollectorView, collector_now}
use Rattle.rec_table.specs.declared.telling.Telling.{Telling}
use Rattle.rec_table.specs.declared.telling.Telling.TheVariants.{Turned, Held}
use Rattle.rec_table.specs.declared.views.Beat.{Beat}
use Rattle.rec_table.specs.declared.views.Beat.TheVariants.{Saw}

-- P of the answer to a turn that was made
abbrev pub IfTurned : Telling → (Turn → Type 0) → Type 0
IfTurned (Turned turn) P = P turn
IfTurned (Held label) P = ⊤

-- P of the label, where it is held and no turn was made
abbrev pub IfHeld : Telling → (ℕ → Type 0) → Type 0
IfHeld (Turned turn) P = ⊤
IfHeld (Held label) P = P label

-- the operation frees a slot
abbrev pub IsFreeOp : Op → Type 0
IsFreeOp (FreeHeader slot) = Unit {0}
IsFreeOp _ = ⊥

-- the labels that an operation frees: that of the header which it found, where it sets that to 0
abbrev pub freed_by : Option Op → (found : ℕ) → List ℕ
freed_by (Some (FreeHeader slot)) found = label_of found ∷ []
freed_by _ found = []

-- the labels that a collector with this record frees by such a list, in its order
abbrev pub freed_by_all : Private → List Beat → List ℕ
freed_by_all p [] = []
freed_by_all p (b ∷ bs) = freed_by (next_of p) (word_of b) ++ freed_by_all (gathered p b) bs

-- the labels that the collector has freed since the heap started
abbrev pub freed_labels : CollectorView → List ℕ
freed_labels c = freed_by_all c.opened c.collecting.log

-- The label that the turn between these views freed: it is that of the taken slot's header which its step set to 0. None, where its step is
-- no such one.
pub data Frees (before after : CollectorView) : Option ℕ → Type 0 where
  slot : (slot word : ℕ) → next_of (collector_now before) ≡ Some (FreeHeader slot) → after.collecting ≡ collecting_more before.collecting (Saw word) → IsTakenHeader word → Frees before after (Some (label_of word))
  none : ((slot : ℕ) → next_of (collector_now before) ≢ Some (FreeHeader slot)) → Frees before after None

-- What was told grew just by the label that the turn between these views freed, if it freed one; and so did what was freed since the start.
pub record TellsTurn (before after : CollectorView) (was now : List ℕ) : Type 0 where
  pub label : Option ℕ
  pub freed : Frees before after label
  pub told : now ≡ was ++ as_list label
  pub all : freed_labels after ≡ freed_labels before ++ as_list label

-- What was told grew just by the labels that turns between these views freed, in their order.
pub record TellsTurns (before after : CollectorView) (was now : List ℕ) : Type 0 where
  pub labels : List ℕ
  pub told : now ≡ was ++ labels
  pub all : freed_labels after ≡ freed_labels before ++ labels
