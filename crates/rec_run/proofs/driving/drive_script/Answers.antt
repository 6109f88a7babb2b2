-- What a heap that was set running leaves as it is stopped is told by one order.
use Rattle.std.proofs.Common.{◌≡◌, ◌∙◌, ◌≤◌, List, ◌++◌, length, option_map, sym, ap, subst, arith}
use Rattle.rec_core.specs.Core.{Core}
use Rattle.rec_world.specs.Journal.{Notes}
use Rattle.rec_world.specs.Order.{Turns}
use Rattle.rec_table.specs.Views.{CollectorView, MutatorView, Started, fresh, fresh_collector}
use Rattle.rec_table.specs.declared.views.Beat.{Beat}
use Rattle.rec_threads.specs.Done.{HasCollected, HaveDone}
use Rattle.rec_core.proofs.Runs.{config_after}
use Rattle.rec_threads.proofs.Requests.{at_most}
use Rattle.rec_script.specs.Script.{ScriptContents}
use Rattle.rec_run.proofs.Driven.{was_driven}
use Rattle.rec_run.specs.Running.{IsSetRunning}
use Rattle.rec_run.proofs.driving.drive_script.Goals as goal

-- a new collector's list has the turns that it made
few_turns : (s : Started) (g g' : CollectorView) → g ≡ fresh_collector s → HasCollected 10000000 g g' → length g'.collecting.log ≤ 10000000
few_turns s g g' new did =
    let turned = did.turned in
    let list : g'.collecting.log ≡ turned.beats = ap (λ (x : CollectorView). x.collecting.log) turned.grows ∙ ap (λ (x : CollectorView). x.collecting.log ++ turned.beats) new in
    let many : length turned.beats ≤ did.turns = at_most did.turns g g' turned in
    let few = did.few in
    subst (λ (l : List Beat). length l ≤ 10000000) (sym list) (omega (arith, many, few))

pub returns-clause-outcome : goal.returns-clause-outcome
returns-clause-outcome g c =
    let so : IsSetRunning c.args.script.now c.in_ok-heap.heap c.in_ok-heap.crew = c.in_ok-heap.ensures.running in
    let script : ScriptContents = c.args.script.now in
    let ms : List MutatorView = c.in_ok-heap.crew.mutators.items in
    let js : List Notes = c.in_ok-heap.crew.journals.items in
    let one_each = so.whole.ready.one_each in
    let (events, explained, has_run, made) = was_driven script c.in_ok-heap.heap ms c.in_ok-crew.crew.mutators.items js c.stop.result.journals.items c.in_ok-crew.crew.collector.collecting.log c.stop.result.world
    (record {
      opens = so.started.opens;
      config = so.started.config;
      all = so.whole.all ∙ sym so.whole.script_all;
      one_each = one_each;
      fresh_all = so.started.fresh_mutators;
      empty = λ k lt. (so.whole.ready.each k (fresh c.in_ok-heap.heap 1) (omega (arith, lt, one_each))).empty;
      turns = few_turns c.in_ok-heap.heap c.in_ok-heap.crew.collector c.in_ok-crew.crew.collector so.started.fresh_collector c.in_ok-crew.ensures.collected;
      done = subst (λ (ns : List Notes). HaveDone script.commands ms js c.in_ok-crew.crew.mutators.items ns) (sym c.stop.ensures.journals) c.in_ok-crew.ensures.done;
      stopped = c.stop.ensures.stopped;
    }) in
    let run = c.stop.ensures.stopped.run in
    record {
      events = events;
      explained = explained;
      has_run = has_run;
      made = made;
      order = ap (option_map (λ (turns : Turns). turns.list)) c.stop.ensures.order;
      config = ap (λ (w : Core). w.config) (sym run.ends) ∙ config_after c.in_ok-heap.heap.world run.run ∙ ap (λ (w : Core). w.config) so.started.opens;
      idle = c.stop.ensures.idle;
    }
