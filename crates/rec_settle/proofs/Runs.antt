-- Many turns of settling at once.
use Rattle.std.proofs.Common.{◌≡◌, ℕ, ◌≤◌, ◌<◌, Some, List, [], ◌++◌, true, refl, sym, ap, subst, ◌∙◌, arith}
use Rattle.rec_collector.specs.Shown.{Shown}
use Rattle.rec_collector.specs.declared.turn.Turn.{Turn}
use Rattle.rec_collector.specs.declared.turn.Turn.TheVariants.{Moved}
use Rattle.rec_core.specs.Core.{Core}
use Rattle.rec_core.specs.Shown.{turn_shown}
use Rattle.rec_core.specs.Turn.{IsTurn, TurnHasCause, step_seen}
use Rattle.rec_world.specs.Turning.{HasTurned}
use Rattle.rec_world.specs.World.{IsWorld}
use Rattle.rec_world.proofs.Calls.{moved_world}
use Rattle.rec_world.proofs.Common.{Move}
use Rattle.rec_settle.specs.Collecting.{Anyone, AreIdle, Follows, HasStepped}
use Rattle.rec_settle.specs.Left.{left_in}
use Rattle.rec_settle.specs.Shown.{Goes, HasGone, Leads}
use Rattle.rec_settle.specs.Stages.{HasCome, begun, offered, stage_turned}
use Rattle.rec_settle.specs.declared.turns.Settling.{Settling}
use Rattle.rec_settle.specs.declared.turns.Settling.TheVariants.{Finishing, Offering, Trying, Freeing, Settled}
use Rattle.rec_settle.proofs.Coming.{offered_config}
use Rattle.rec_settle.proofs.Goes.{idle_behind, leads_both, offered_idle, turn_goes, turn_gone}

-- a stage that has begun
begun_on : (s : Settling) → (s ≡ Settled → ⊥) → begun s ≡ Settled → ⊥
begun_on Offering on is = cc
begun_on (Finishing requested) on is = on is
begun_on Trying on is = on is
begun_on Freeing on is = on is
begun_on Settled on is = on is

begun_once : (s : Settling) → begun (begun s) ≡ begun s
begun_once Offering = refl
begun_once (Finishing requested) = refl
begun_once Trying = refl
begun_once Freeing = refl
begun_once Settled = refl

begun_offered : (s : Settling) (w : Core) → offered (begun s) w ≡ w
begun_offered Offering w = refl
begun_offered (Finishing requested) w = refl
begun_offered Trying w = refl
begun_offered Freeing w = refl
begun_offered Settled w = refl

-- a turn that moved waits for nobody
moved_step : (w v : Core) → IsTurn w v Moved → HasStepped Anyone w Moved v
moved_step w v turn = record {
  cause = subst (λ (x : Core). TurnHasCause w x Moved) turn.turned turn.cause;
  follows = Follows.rests (λ t waits any. let not_so : Moved ≡ Turn.Waiting t = turn.waiting t waits.looks waits.behind in absurd (cc)) turn.turned;
}

-- Turns of settling that all moved lead to the heap that the next one finds, in the stage that has begun.
pub record At (stage : Settling) (before v : Core) : Type 0 where
  pub s : Settling
  pub w : Core
  pub shown : List Shown
  pub leads : Leads stage before shown s w
  pub on : s ≡ Settled → ⊥
  pub at : offered s w ≡ v
  pub begun_so : begun s ≡ begun stage
  pub comes : (first : Core) → HasCome first stage before → HasCome first s w
  pub few : (first : Core) → HasCome first stage before → left_in s w ≤ left_in stage before
  pub idle : AreIdle v
  pub world : IsWorld v
  pub config : v.config ≡ before.config

-- one turn more
module _ (stage : Settling) (before u v x : Core) (a : At stage before u) (answer : Turn) (turn : IsTurn u v answer) (steps : HasStepped Anyone u answer x) (world : IsWorld x) (config : x.config ≡ u.config) where
  abbrev next : Settling
  next = stage_turned (begun a.s) answer x.epoch

  step_goes : Goes a.s a.w (Some (answer, step_seen (offered a.s a.w))) next x
  step_goes = turn_goes a.s next a.w x answer (step_seen (offered a.s a.w)) a.on (subst IsWorld (sym a.at) a.world) world (config ∙ ap (λ (w : Core). w.config) (sym a.at))
      (subst (λ (w : Core). HasStepped Anyone w answer x) (sym a.at) steps) refl refl

  step_gone : HasGone a.s a.w (turn_shown (offered a.s a.w)) true next x
  step_gone = turn_gone a.s next a.w x (Some (answer, step_seen (offered a.s a.w))) true refl step_goes

  pub run_gone : HasGone stage before (a.shown ++ turn_shown (offered a.s a.w)) true next x
  run_gone = record {
    leads = leads_both stage before a.s a.w next x a.shown (turn_shown (offered a.s a.w)) a.leads step_gone.leads;
    comes = λ first come. step_gone.comes first (a.comes first come);
    nearer = λ more first come. omega (arith, a.few first come, step_gone.nearer more first (a.comes first come));
    ended = λ none. cc;
  }

-- another one that moved
moved_on : (stage : Settling) (before u v : Core) → At stage before u → IsTurn u v Moved → At stage before v
moved_on stage before u v a turn =
    let world : IsWorld v = subst IsWorld (sym turn.turned) (moved_world u Move.Turns a.world tt) in
    let gone = run_gone stage before u v v a Moved turn (moved_step u v turn) world turn.config in
    record {
      s = begun a.s;
      w = v;
      shown = a.shown ++ turn_shown (offered a.s a.w);
      leads = gone.leads;
      on = begun_on a.s a.on;
      at = begun_offered a.s v;
      begun_so = begun_once a.s ∙ a.begun_so;
      comes = gone.comes;
      few = λ first come. omega (arith, gone.nearer refl first come);
      idle = idle_behind u v Moved turn a.idle;
      world = world;
      config = turn.config ∙ a.config;
    }

pub all_moved : (stage : Settling) (before v : Core) (n : ℕ) → (stage ≡ Settled → ⊥) → AreIdle before → IsWorld (offered stage before) → HasTurned (offered stage before) n v Moved → At stage before v
all_moved stage before _ _ on idle world HasTurned.none = record {
  s = stage;
  w = before;
  shown = [];
  leads = Leads.none;
  on = on;
  at = refl;
  begun_so = refl;
  comes = λ first come. come;
  few = λ first come. omega arith;
  idle = offered_idle stage before idle;
  world = world;
  config = offered_config stage before;
}
all_moved stage before v _ on idle world (HasTurned.more n u _ _ moved turn) = moved_on stage before u v (all_moved stage before u n on idle world moved) turn

-- The last turn of a run that was not cut off, and where it was made.
pub record Last (stage : Settling) (before v : Core) (answer : Turn) : Type 0 where
  pub u : Core
  pub at : At stage before u
  pub turn : IsTurn u v answer

pub last_turn : (stage : Settling) (before v : Core) (n most : ℕ) (answer : Turn) → (stage ≡ Settled → ⊥) → AreIdle before → IsWorld (offered stage before) → 0 < most → (answer ≡ Moved → n ≡ most) → HasTurned (offered stage before) n v answer → Last stage before v answer
last_turn stage before _ _ most _ on idle world some all HasTurned.none = absurd (omega (arith, some, all refl))
last_turn stage before v _ most answer on idle world some all (HasTurned.more n u _ _ moved turn) = record { u = u; at = all_moved stage before u n on idle world moved; turn = turn }

-- what the turns of a run come to, with the poll that may follow the last one
pub run_told : (stage : Settling) (before v x : Core) (answer : Turn) (next : Settling) (l : Last stage before v answer) → HasStepped Anyone l.u answer x → IsWorld x → x.config ≡ v.config → next ≡ stage_turned (begun stage) answer x.epoch
    → (shown : List Shown) × HasGone stage before shown true next x
run_told stage before v x answer next l steps world config is =
    let so : stage_turned (begun l.at.s) answer x.epoch ≡ next = ap (λ s. stage_turned s answer x.epoch) l.at.begun_so ∙ sym is in (
      l.at.shown ++ turn_shown (offered l.at.s l.at.w),
      subst (λ s. HasGone stage before (l.at.shown ++ turn_shown (offered l.at.s l.at.w)) true s x) so (run_gone stage before l.u v x l.at answer l.turn steps world (config ∙ l.turn.config)),
    )
