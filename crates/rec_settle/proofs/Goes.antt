-- What a turn of settling comes to, made or refused.
use Rattle.std.proofs.Common.{◌≡◌, ℕ, ◌-◌, List, slice_index_or, Result, Ok, Err, IfErr, Option, None, Some, is_some, Bool, false, [], ◌++◌, append_assoc, refl, sym, ap, subst, ◌∙◌}
use Rattle.std.proofs.lemmas.Bool.{false≢true}
use Rattle.std.proofs.lemmas.List.{append-nil}
use Rattle.rec_word.specs.declared.op.Op.{Op}
use Rattle.rec_mutator.specs.Private.{Private, is_busy}
use Rattle.rec_collector.specs.Shown.{Shown}
use Rattle.rec_collector.specs.declared.turn.Turn.{Turn}
use Rattle.rec_collector.specs.declared.turn.Turn.TheVariants.{Waiting}
use Rattle.rec_core.specs.Config.{IsMutator}
use Rattle.rec_core.specs.Core.{Core, mutator, nobody}
use Rattle.rec_core.specs.Shown.{turn_shown}
use Rattle.rec_core.specs.Turn.{IsTurn, step_seen}
use Rattle.rec_core.specs.declared.config.Config.{Config}
use Rattle.rec_world.specs.World.{IsWorld}
use Rattle.rec_settle.specs.Collecting.{Anyone, AreIdle, HasStepped, IsSettling}
use Rattle.rec_settle.specs.Shown.{Goes, HasGone, Leads, told_shown}
use Rattle.rec_settle.specs.Stages.{HasCome, Settles, begun, offered, stage_turned}
use Rattle.rec_settle.specs.declared.turns.Settling.{Settling}
use Rattle.rec_settle.specs.declared.turns.Settling.TheVariants.{Finishing, Offering, Trying, Freeing, Settled}
use Rattle.rec_settle.proofs.Coming.{GoesOn, goes_on}

-- a turn was made
pub turn_goes : (stage next : Settling) (before after : Core) (turn : Turn) (seen : Option (Op × ℕ)) → (stage ≡ Settled → ⊥) → IsWorld (offered stage before) → IsWorld after → after.config ≡ (offered stage before).config
    → HasStepped Anyone (offered stage before) turn after → seen ≡ step_seen (offered stage before) → next ≡ stage_turned (begun stage) turn after.epoch → Goes stage before (Some (turn, seen)) next after
turn_goes stage next before after turn seen on was is config steps told next_is =
    let goes : (first : Core) → HasCome first stage before → GoesOn first stage before next after
    = λ first come. subst (λ s. GoesOn first stage before s after) (sym next_is) (goes_on first stage before after turn on come was is config steps) in
    record {
      stepped = steps;
      seen = told;
      stage_so = next_is;
      on = on;
      comes = λ first come. (goes first come).comes;
      nearer = λ first come. (goes first come).nearer;
      ended = λ none. cc;
      stays = λ settled. absurd (on settled);
    }

-- none is left of the settled heap
pub ended_goes : (stage : Settling) (w : Core) → stage ≡ Settled → Goes stage w None stage w
ended_goes stage w is = record {
  stepped = tt;
  seen = tt;
  stage_so = tt;
  on = tt;
  comes = λ first come. come;
  nearer = tt;
  ended = λ none. is;
  stays = λ settled. (refl, refl, refl);
}

-- a step of the collector changes no mutator
pub idle_behind : (before after : Core) (answer : Turn) → IsTurn before after answer → AreIdle before → AreIdle after
idle_behind before after answer turn idle t there =
    ap (λ (ps : List Private). is_busy (slice_index_or ps (t - 1) nobody)) turn.mutators ∙ idle t (subst (λ (c : Config). IsMutator c t) turn.config there)

-- and whoever is waited for hasn't left
pub awaited_there : (before after : Core) (answer : Turn) → IsTurn before after answer → (t : ℕ) → answer ≡ Waiting t → IsMutator after.config t × ((mutator after t).left ≡ false)
awaited_there before after answer turn t waits =
    (turn.awaited t waits, ap (λ (ps : List Private). (slice_index_or ps (t - 1) nobody).left) turn.mutators ∙ turn.present t waits)

-- what holds whatever the error is
pub if_err : {A E P : Type 0} (r : Result A E) → P → IfErr r (λ error. P)
if_err (Ok x) p = tt
if_err (Err e) p = p

-- and offering every slot changes none
pub offered_idle : (stage : Settling) (w : Core) → AreIdle w → AreIdle (offered stage w)
offered_idle Offering w idle = idle
offered_idle (Finishing requested) w idle = idle
offered_idle Trying w idle = idle
offered_idle Freeing w idle = idle
offered_idle Settled w idle = idle

-- so much of settling was gone through by a turn, if one was left
pub turn_gone : (stage next : Settling) (before after : Core) (told : Option (Turn × Option (Op × ℕ))) (more : Bool) → more ≡ is_some told → Goes stage before told next after → HasGone stage before (told_shown stage before told) more next after
turn_gone stage next before after None more is goes =
    let stays = goes.stays (goes.ended refl) in
    record {
      leads = subst (λ s. Leads stage before [] s after) (sym stays.1) (subst (Leads stage before [] stage) (sym stays.2) Leads.none);
      comes = goes.comes;
      nearer = λ some. absurd (false≢true (sym is ∙ some));
      ended = λ none. (goes.ended refl, stays.1, stays.2);
    }
turn_gone stage next before after (Some told) more is goes = record {
  leads = subst (λ s. Leads stage before (turn_shown (offered stage before)) s after) (sym goes.stage_so) (Leads.turns [] stage before after told.0 Leads.none goes.on goes.stepped);
  comes = goes.comes;
  nearer = λ some. goes.nearer;
  ended = λ none. absurd (false≢true (sym none ∙ is));
}

-- turns of settling behind others
pub leads_both : (from : Settling) (first : Core) (stage : Settling) (w : Core) (next : Settling) (v : Core) (shown later : List Shown) → Leads from first shown stage w → Leads stage w later next v → Leads from first (shown ++ later) next v
leads_both from first stage w _ _ shown _ before Leads.none = subst (λ xs. Leads from first xs stage w) (sym (append-nil shown)) before
leads_both from first stage w _ v shown _ before (Leads.turns later s u _ turn so on steps) =
    subst (λ xs. Leads from first xs (stage_turned (begun s) turn v.epoch) v) (append_assoc shown later (turn_shown (offered s u))) (Leads.turns (shown ++ later) s u v turn (leads_both from first stage w s u shown later before so) on steps)

-- settling has ended where no turn was left
pub came_settled : (first : Core) (stage next : Settling) (before after : Core) (shown : List Shown) (more : Bool) → more ≡ false → HasCome first stage before → HasGone stage before shown more next after → IsSettling first after
came_settled first stage next before after shown more none come gone =
    let ended = gone.ended none in
    subst (λ s. Settles s first after) (ended.1 ∙ ended.0) (gone.comes first come).settles
