-- What a ring for labels is seen as, from its two ends.
use Rattle.std.specs.Prelude.{◌≡◌, ℕ, ◌<◌, List, [], ◌∷◌, ◌++◌, length, Option, None, IsSome, IfSome}
use mathlib.Core.List.{IsPrefix}
use Rattle.rtrb.specs.Ring.{sent, producer_capacity, received, known_items, IsPair, SameConsumer}
use Rattle.rec_notice.specs.declared.ring_tube.RingTube.{RingTube}
use Rattle.rec_notice.specs.declared.listener.Listener.{Listener}

-- the labels that were sent, from the first on
abbrev pub sent_by : RingTube → List ℕ
sent_by tube = sent tube.producer

-- how many labels the ring has room for
abbrev pub room_of : RingTube → ℕ
room_of tube = producer_capacity tube.producer

-- the labels that were heard, from the first on
abbrev pub heard_by : Listener → List ℕ
heard_by listener = received listener.consumer

-- the labels that the listener has seen in the ring and not heard yet
abbrev pub waits_for : Listener → List ℕ
waits_for listener = known_items listener.consumer

-- the two ends of one ring
abbrev pub AreEnds : RingTube → Listener → Type 0
AreEnds tube listener = IsPair tube.producer listener.consumer

-- the listener at the same ring
abbrev pub SameListener : Listener → Listener → Type 0
SameListener before after = SameConsumer before.consumer after.consumer

-- one answer of the listener
pub record Hears (before : Listener) (answer : Option ℕ) (after : Listener) : Type 0 where
  pub same : SameListener before after
  -- a label that waits is heard
  pub waiting : 0 < length (waits_for before) → IsSome answer
  -- a label that is heard is the first one that waits, and the others wait on; more may be seen
  pub heard : IfSome answer (λ label. heard_by after ≡ heard_by before ++ label ∷ [])
  pub first : IfSome answer (λ label. IsPrefix (waits_for before) (label ∷ waits_for after))
  -- where none is heard none waits
  pub none : answer ≡ None → heard_by after ≡ heard_by before
  pub spent : answer ≡ None → waits_for after ≡ []
