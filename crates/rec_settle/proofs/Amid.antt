-- What is known in the midst of a collection that settling makes, and once it is complete.
use Rattle.std.proofs.Common.{◌≡◌, ℕ, ◌+◌, ◌≤◌, refl, sym, ap, subst, ◌∙◌, arith, false}
use Rattle.rec_collector.specs.Kept.{under_way}
use Rattle.rec_collector.specs.Private.{Private}
use Rattle.rec_collector.specs.declared.phase.Phase.TheVariants.{Idle}
use Rattle.rec_core.specs.Core.{Core}
use Rattle.rec_core.specs.Kept.{IsKept}
use Rattle.rec_core.specs.Moves.{turned, Move}
use Rattle.rec_settle.specs.Quiet.{AreQuiet}
use Rattle.rec_settle.specs.Resting.{Round, epochs_before, next_round}
use Rattle.rec_core.proofs.BareRuns.{turned_kept}
use Rattle.rec_core.proofs.Gathering.{awaited_stays}
use Rattle.rec_settle.proofs.Rest.BareRest.{RestsBehind, TurnsBehind, quiet_turned, rests_polled, rests_turned}
use Rattle.rec_settle.proofs.Rest.QuietPolls.{polled_kept, quiet_polled}
use Rattle.rec_core.proofs.Runs.{move_stays}
use Rattle.rec_settle.specs.Collecting.{IsAmid, IsCollection}

-- In the midst of a collection mutators are at rest, and no collection more is complete.
pub record IsQuietAmid (first : ℕ) (before w : Core) : Type 0 where
  pub kept : IsKept false w
  pub quiet : AreQuiet first w
  pub config : w.config ≡ before.config
  pub collections : w.collector.collections ≡ before.collector.collections

pub quiet_amid : (first : ℕ) (before w : Core) → IsKept false before → AreQuiet first before → IsAmid before w → IsQuietAmid first before w
quiet_amid first before w kept quiet (IsAmid.here _ is) = subst (IsQuietAmid first before) (sym is) (record { kept = kept; quiet = quiet; config = refl; collections = refl })
quiet_amid first before w kept quiet (IsAmid.turns u _ path is cause) =
    let h = quiet_amid first before u kept quiet path in
    record {
      kept = subst (IsKept false) (sym is) (turned_kept u h.kept);
      quiet = subst (AreQuiet first) (sym is) (quiet_turned first u h.kept h.quiet);
      config = ap (λ (x : Core). x.config) is ∙ move_stays u Move.Turns ∙ h.config;
      collections = cause.1 ∙ h.collections;
    }
quiet_amid first before w kept quiet (IsAmid.polls u _ t path awaited polled) =
    let h = quiet_amid first before u kept quiet path in
    let stays = awaited_stays u t h.kept awaited.there awaited.waits in
    record {
      kept = polled_kept first u w t h.kept awaited.there stays polled.worked h.quiet;
      quiet = quiet_polled first u w t h.kept awaited.there stays polled.worked h.quiet;
      config = polled.quiet.config ∙ h.config;
      collections = ap (λ (c : Private). c.collections) polled.quiet.collector ∙ h.collections;
    }

-- and once it is complete
pub record IsQuietAfter (first : ℕ) (before after : Core) : Type 0 where
  pub kept : IsKept false after
  pub quiet : AreQuiet first after
  pub config : after.config ≡ before.config
  pub collections : after.collector.collections ≡ before.collector.collections + 1

pub quiet_after : (first : ℕ) (before after : Core) → IsKept false before → AreQuiet first before → IsCollection before after → IsQuietAfter first before after
quiet_after first before after kept quiet c =
    let h = quiet_amid first before c.last kept quiet c.path in
    record {
      kept = subst (IsKept false) (sym c.turns) (turned_kept c.last h.kept);
      quiet = subst (AreQuiet first) (sym c.turns) (quiet_turned first c.last h.kept h.quiet);
      config = ap (λ (x : Core). x.config) c.turns ∙ move_stays c.last Move.Turns ∙ h.config;
      collections = c.complete.3 ∙ ap (λ n. n + 1) h.collections;
    }

-- A collection of a round, which began at rest, when nothing had been written or born for so many epochs.
module _ (first : ℕ) (r : Round) (before : Core) (kept : IsKept false before) (quiet : AreQuiet first before) (idle : before.collector.phase ≡ Idle) (late : first + epochs_before r ≤ before.epoch + 1) (some : r ≡ Round.Over → ⊥)
    (begun : RestsBehind r before before.collector.phase) where
  -- the requested epoch, while the collection is under way
  late_amid : (w : Core) → IsQuietAmid first before w → first + epochs_before r + under_way w.collector.phase ≤ w.epoch + 1
  late_amid w h =
      let first_epoch : w.config.first_epoch ≡ before.config.first_epoch = ap (λ c. c.first_epoch) h.config in
      let now : w.config.first_epoch + w.collector.collections + under_way w.collector.phase ≡ w.epoch = h.kept.collector.begun in
      let then : before.config.first_epoch + before.collector.collections + under_way before.collector.phase ≡ before.epoch = kept.collector.begun in
      omega (arith, now, then, first_epoch, h.collections, ap under_way idle, late)

  -- what is known of the heap behind, in the midst of the collection
  rests_amid : (w : Core) → IsAmid before w → RestsBehind r w w.collector.phase
  rests_amid w (IsAmid.here _ is) = subst (λ (x : Core). RestsBehind r x x.collector.phase) (sym is) begun
  rests_amid w (IsAmid.turns u _ path is cause) =
      let h = quiet_amid first before u kept quiet path in
      subst (λ (x : Core). RestsBehind r x x.collector.phase) (sym is) (go (rests_turned first u h.quiet r (late_amid u h) some (rests_amid u path)))
    where
      go : TurnsBehind r u (turned u) → RestsBehind r (turned u) (turned u).collector.phase
      go (TurnsBehind.goes_on stays rests) = rests
      go (TurnsBehind.completes more at rests) = absurd (omega (arith, more, sym (ap (λ (x : Core). x.collector.collections) is) ∙ cause.1))
  rests_amid w (IsAmid.polls u _ t path awaited polled) =
      let h = quiet_amid first before u kept quiet path in
      rests_polled first r u w t h.quiet awaited.there (awaited_stays u t h.kept awaited.there awaited.waits) polled.worked polled.quiet (rests_amid u path)

  -- Once it is complete, the next round may begin.
  pub rests_after : (after : Core) → IsCollection before after → RestsBehind (next_round r) after Idle
  rests_after after c =
      let h = quiet_amid first before c.last kept quiet c.path in
      subst (λ (x : Core). RestsBehind (next_round r) x Idle) (sym c.turns) (go (rests_turned first c.last h.quiet r (late_amid c.last h) some (rests_amid c.last c.path)))
    where
      go : TurnsBehind r c.last (turned c.last) → RestsBehind (next_round r) (turned c.last) Idle
      go (TurnsBehind.goes_on stays rests) = absurd (omega (arith, stays, sym (ap (λ (x : Core). x.collector.collections) c.turns) ∙ c.complete.3))
      go (TurnsBehind.completes more at rests) = rests
