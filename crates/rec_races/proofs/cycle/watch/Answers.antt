-- The contract of `watch`: behind each turn, and behind a poll, the mutator can still be asked.
use Rattle.std.proofs.Common.{◌≡◌, ℕ, ◌<◌, false, List, slice_index_or, sym, subst, ap, ◌∙◌, arith}
use Rattle.rec_mutator.specs.Private.{Private, is_busy}
use Rattle.rec_collector.specs.declared.turn.Turn.{Turn}
use Rattle.rec_core.specs.Config.{IsMutator}
use Rattle.rec_core.specs.Core.{Core, mutator, nobody}
use Rattle.rec_core.specs.Turn.{IsTurn}
use Rattle.rec_core.specs.Unfinished.{IsQuiet}
use Rattle.rec_core.specs.declared.config.Config.{Config}
use Rattle.rec_races.specs.Ready.{IsReady}
use Rattle.rec_races.proofs.cycle.watch.Goals.{in-Waiting, in-Collected+in_default-1, in-Moved-1}
use Rattle.rec_races.proofs.cycle.watch.Goals as goal

turned_ready : (w v : Core) (turn : Turn) → IsReady w → IsTurn w v turn → IsReady v
turned_ready w v turn ready made = (
  subst (λ (c : Config). 2 < c.slots) (sym made.config) ready.0,
  ap (λ (c : Config). c.mutators) made.config ∙ ready.1,
  ap (λ (ms : List Private). is_busy (slice_index_or ms 0 nobody)) made.mutators ∙ ready.2,
)

-- there is one mutator alone
the_one : (w : Core) (t : ℕ) → IsReady w → IsMutator w.config t → t ≡ 1
the_one w t ready is = omega (arith, ready.1, is.0, is.1)

polled_ready : (w v : Core) (t : ℕ) → IsReady w → IsMutator w.config t → IsQuiet w v t → is_busy (mutator v t) ≡ false → IsReady v
polled_ready w v t ready is quiet idle = (
  subst (λ (c : Config). 2 < c.slots) (sym quiet.config) ready.0,
  ap (λ (c : Config). c.mutators) quiet.config ∙ ready.1,
  subst (λ (n : ℕ). is_busy (mutator v n) ≡ false) (the_one w t ready is) idle,
)

pub poll-requires-clause-idle : goal.poll-requires-clause-idle
poll-requires-clause-idle g c =
    let ready : IsReady c.turn-told.new.self = turned_ready _ _ _ c.loop-turn.invariant c.turn-told.ensures.turn in
    subst (λ (n : ℕ). is_busy (mutator c.turn-told.new.self n) ≡ false)
    (sym (the_one c.turn-told.new.self c.in-Waiting.mutator ready (c.turn-told.ensures.turn.awaited c.in-Waiting.mutator c.in-Waiting.is)))
    ready.2

pub loop-turn-preserved : goal.loop-turn-preserved
loop-turn-preserved g c =
    let ready : IsReady c.turn-told.new.self = turned_ready _ _ _ c.loop-turn.invariant c.turn-told.ensures.turn in
    elim c.match-told.branch [
      | in-Waiting w ↦ subst IsReady (sym w.world-is)
          (polled_ready c.turn-told.new.self w.poll.new.self w.in-Waiting.mutator ready
          (c.turn-told.ensures.turn.awaited w.in-Waiting.mutator w.in-Waiting.is) w.poll.ensures.polled.quiet w.poll.ensures.polled.idle)
      | in-Collected+in_default-1 w ↦ subst IsReady (sym w.world-is) ready
      | in-Moved-1 w ↦ subst IsReady (sym w.world-is) ready
    ]
