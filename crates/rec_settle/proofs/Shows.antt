-- What a watch is shown of settling is what it is shown of the moves that make up its turns.
use Rattle.std.proofs.Common.{ℕ, Option, None, Some, List, [], sym, subst, false}
use Rattle.std.proofs.lemmas.List.{append-nil}
use Rattle.rec_word.specs.declared.op.Op.{Op}
use Rattle.rec_mutator.specs.declared.work.Work.TheVariants as works
use Rattle.rec_collector.specs.Next.{next_of}
use Rattle.rec_collector.specs.Shown.{Shown}
use Rattle.rec_core.specs.Core.{Core}
use Rattle.rec_core.specs.Kept.{IsKept}
use Rattle.rec_core.specs.Moves.{Move, turned, turned_at}
use Rattle.rec_core.specs.Shown.{Shows, turn_shown}
use Rattle.rec_core.proofs.BareRuns.{shows_kept}
use Rattle.rec_core.proofs.Gathering.{awaited_stays}
use Rattle.rec_core.proofs.Shows.{shows_none, shows_one, shows_then}
use Rattle.rec_world.proofs.Shows.{shows_worked}
use Rattle.rec_settle.specs.Collecting.{Anyone, AreIdle, Follows}
use Rattle.rec_settle.specs.Shown.{Leads}
use Rattle.rec_settle.specs.Stages.{offered}
use Rattle.rec_settle.specs.declared.turns.Settling.{Settling}
use Rattle.rec_settle.specs.declared.turns.Settling.TheVariants.{Finishing, Offering, Trying, Freeing, Settled}
use Rattle.rec_settle.proofs.Goes.{offered_idle}
use Rattle.rec_settle.proofs.Waiting.{others_idle}

-- a turn of the collector changes no mutator
turned_idle : (w : Core) → AreIdle w → AreIdle (turned w)
turned_idle w idle = go (next_of w.collector)
  where
    go : (op : Option Op) → AreIdle (turned_at w op)
    go None = idle
    go (Some op) = idle

-- A turn of the collector was made, and the poll that may follow it.
pub record ShowsStep (w v : Core) : Type 0 where
  pub shows : Shows w (turn_shown w) v
  pub idle : AreIdle v

pub shows_step : (done : ℕ → Type 0) (w v : Core) → IsKept false w → AreIdle w → Follows done w v → ShowsStep w v
shows_step done w v kept idle (Follows.rests left is) = subst (ShowsStep w) (sym is) (record { shows = shows_one w Move.Turns tt; idle = turned_idle w idle })
shows_step done w v kept idle (Follows.polls t awaited same nothing polled) = record {
  shows =
      subst (λ xs. Shows w xs v) (append-nil (turn_shown w))
      (shows_then w w v (turn_shown w) [] (subst (Shows w (turn_shown w)) same (shows_one w Move.Turns tt))
      (shows_worked w v t works.Poll kept awaited.there (idle t awaited.there) (awaited_stays w t kept awaited.there awaited.waits) tt tt polled.worked));
  idle = others_idle w v t polled.quiet.config polled.quiet.others polled.idle idle;
}

-- every slot may be offered before it
offered_shows : (stage : Settling) (w : Core) → Shows w [] (offered stage w)
offered_shows Offering w = shows_one w Move.Offers tt
offered_shows (Finishing requested) w = shows_none w
offered_shows Trying w = shows_none w
offered_shows Freeing w = shows_none w
offered_shows Settled w = shows_none w

-- All turns so far.
pub record ShowsTo (first : Core) (shown : List Shown) (w : Core) : Type 0 where
  pub shows : Shows first shown w
  pub idle : AreIdle w

pub shows_to : (from : Settling) (first : Core) (shown : List Shown) (stage : Settling) (w : Core) → IsKept false first → AreIdle first → Leads from first shown stage w → ShowsTo first shown w
shows_to from first _ _ _ kept idle Leads.none = record { shows = shows_none first; idle = idle }
shows_to from first _ _ _ kept idle (Leads.turns shown stage before after turn so on steps) =
    let h : ShowsTo first shown before = shows_to from first shown stage before kept idle so in
    let offers : Shows before [] (offered stage before) = offered_shows stage before in
    let was : IsKept false (offered stage before) = shows_kept before (offered stage before) [] (shows_kept first before shown kept h.shows) offers in
    let step : ShowsStep (offered stage before) after = shows_step Anyone (offered stage before) after was (offered_idle stage before h.idle) steps.follows in
    record {
      shows = shows_then first before after shown (turn_shown (offered stage before)) h.shows (shows_then before (offered stage before) after [] (turn_shown (offered stage before)) offers step.shows);
      idle = step.idle;
    }
