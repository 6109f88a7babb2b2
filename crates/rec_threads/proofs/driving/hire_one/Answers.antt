-- The contract of `hire_one`: what the worker's thread takes along and hands back may cross threads.
use contract.Lifetimes.{Lfts}
use denote.Param.Send.{IsSend, IsSync, given_sync, param_send, sendable}
use Rattle.std.proofs.Common.{◌≡◌, MatchBool, sym, ap, ◌∙◌, subst}
use Rattle.rec_script.specs.Script.{ScriptContents}
use Rattle.rec_threads.specs.Done.{HasStayed, IsHired}
use Rattle.rec_threads.specs.declared.duty.Duty.{Duty}
use Rattle.rec_threads.specs.declared.duty.Report.{Report}
use Rattle.rec_threads.specs.declared.worker.Worker.{Worker}
use Rattle.rec_threads.proofs.driving.hire_one.Given.{Over}
use Rattle.rec_threads.proofs.driving.hire_one.Lts as lts
use Rattle.rec_threads.proofs.Sends.{heap_sync, report_send, script_sync, signals_sync, worker_send}
use Rattle.rec_threads.proofs.driving.hire_one.Goals as goal

closure_send : (g : Over) (κs : Lfts 10) → IsSync g.row.R → IsSync g.row.G → IsSend (lts.arg-1-2 g.row.R g.row.G g.R.laws g.G.laws g.R.Threads-dict g.R.Wait-dict g.G.Gate-dict κs)
closure_send g κs r s = search (sendable, worker_send, script_sync, signals_sync, heap_sync) depth 30

pub spawn_with-requires-send-F : goal.spawn_with-requires-send-F
spawn_with-requires-send-F g c κs within = param_send _ _ (closure_send g κs (given_sync _ g.row.R c.requires.shared.0) (given_sync _ g.row.G c.requires.shared.1))

pub spawn_with-requires-send-T : goal.spawn_with-requires-send-T
spawn_with-requires-send-T g c κs within = search (sendable, report_send) depth 20

pub spawn_with-requires-clause-runs : goal.spawn_with-requires-clause-runs
spawn_with-requires-clause-runs g c κs within = (c.requires.ready, (c.requires.script, (record { shared = c.requires.shared.0.shared }, record { shared = c.requires.shared.1.shared })))

pub spawn_with-requires-clause-keeps : goal.spawn_with-requires-clause-keeps
spawn_with-requires-clause-keeps g c κs within = λ r kept. (kept.0, subst (λ (x : ScriptContents × Worker). MatchBool r.orders.value (HasStayed x.0 x.1 r.worker r.over) (r.worker ≡ x.1)) (λ i. (sym c.requires.script i, sym c.of.ensures i)) kept.1)

-- A closure that comes back holds what it was given.
pub spawn_with-requires-in-Err-clause-ready : goal.spawn_with-requires-in-Err-clause-ready
spawn_with-requires-in-Err-clause-ready g c κs within = subst (λ x. IsHired x.1.now x.2.now x.5) (sym c.in-Err.ensures.err) c.requires.ready

pub spawn_with-requires-in-Err-clause-script : goal.spawn_with-requires-in-Err-clause-script
spawn_with-requires-in-Err-clause-script g c κs within = subst (λ x. x.4.now.script.value ≡ x.2.now) (sym c.in-Err.ensures.err) c.requires.script

pub returns-in-Ok-clause-signals : goal.returns-in-Ok-clause-signals
returns-in-Ok-clause-signals g c = ap (λ (d : Duty). d.signals.now.orders.id) c.in-Ok.ensures.ok

pub returns-in-Ok-clause-was : goal.returns-in-Ok-clause-was
returns-in-Ok-clause-was g c = ap (λ (d : Duty). d.was.value) c.in-Ok.ensures.ok ∙ c.of.ensures

pub returns-in-Ok-clause-script : goal.returns-in-Ok-clause-script
returns-in-Ok-clause-script g c = ap (λ (d : Duty). d.signals.now.script.value) c.in-Ok.ensures.ok ∙ c.requires.script

pub returns-in-Err-clause-orders : goal.returns-in-Err-clause-orders
returns-in-Err-clause-orders g c = c.spawn_with-in-Err.ensures.orders ∙ ap (λ x. x.4.now.orders.id) c.in-Err.ensures.err

pub returns-in-Err-clause-done : goal.returns-in-Err-clause-done
returns-in-Err-clause-done g c =
    let r : Report = c.spawn_with-in-Err.result in
    subst (λ x. MatchBool r.orders.value (HasStayed x.2.now x.5 r.worker r.over) (r.worker ≡ x.5)) c.in-Err.ensures.err c.spawn_with-in-Err.ensures.done
