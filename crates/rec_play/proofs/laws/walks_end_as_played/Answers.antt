-- The run of a script is one, and so is its settling.
use Rattle.std.proofs.Common.{◌≡◌, sym, subst}
use Rattle.rec_core.specs.Core.{Core, opened}
use Rattle.rec_order.specs.Naming.{first_naming}
use Rattle.rec_world.proofs.Calls.{world_kept}
use Rattle.rec_settle.specs.Collecting.{IsSettling}
use Rattle.rec_settle.specs.declared.turns.Settling.TheVariants.{Settled}
use Rattle.rec_play.specs.Numbers.{config_of}
use Rattle.rec_play.specs.Playing.{Rest, to_come}
use Rattle.rec_play.specs.Run.{IsPlayedRun}
use Rattle.rec_play.specs.Watched.{IsSettlingAt, IsAt}
use Rattle.rec_play.proofs.Once.{run_once, settling_once}
use Rattle.rec_play.proofs.laws.walks_end_as_played.Goals as goal

pub returns : goal.returns
returns c w seed turns journals events played settled is stage rule by settling =
    let so : IsSettlingAt w Settled = subst (λ s. IsAt s w) stage is.at in
    let run : IsPlayedRun w.script (opened (config_of w.script)) first_naming _ so.so.events so.so.names so.played = subst (λ (r : Rest). IsPlayedRun w.script (opened (config_of w.script)) first_naming (to_come r) so.so.events so.so.names so.played) rule so.so.run in
    let same : so.played ≡ played = run_once w.script (opened (config_of w.script)) first_naming first_naming _ so.so.events events so.so.names by.names so.played played run by.run in
    settling_once so.played w.world settled (world_kept so.played so.come.kept) so.come.idle so.come.settles (subst (λ (x : Core). IsSettling x settled) (sym same) settling)
