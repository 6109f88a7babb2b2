-- The contract of `unshare`: stops a heap whose mutators are all home, where nothing else holds it.
use Rattle.std.proofs.Common.{◌∙◌, map, refl, sym, ap, subst}
use Rattle.std.specs.Arc.{arc_value}
use Rattle.rec_table.specs.Ends.{IsStopped}
use Rattle.rec_table.specs.Views.{MutatorView, Started, IsCollectorOf}
use Rattle.recycler_c.proofs.Runs.{all_of}
use Rattle.recycler_c.proofs.running.unshare.Goals as goal

pub rest-requires-clause-mutators : goal.rest-requires-clause-mutators
rest-requires-clause-mutators c = all_of (arc_value c.args.running.heap) c.in-Ok.heap c.args.running.home.items c.in-Ok.ensures.ok (c.requires ∙ c.args.running.counted) c.args.running.first

pub rest-requires-clause-collector : goal.rest-requires-clause-collector
rest-requires-clause-collector c = subst (λ (s : Started). IsCollectorOf s c.args.running.collector) (sym c.in-Ok.ensures.ok) c.args.running.own

pub returns-in-Ok-clause-stopped : goal.returns-in-Ok-clause-stopped
returns-in-Ok-clause-stopped c =
    subst (λ (s : Started). IsStopped s.world c.args.running.collector.collecting.log (map (λ (m : MutatorView). m.log) c.args.running.home.items) c.rest.result) c.in-Ok.ensures.ok c.rest.ensures.stopped

pub returns-in-Err-clause-shared : goal.returns-in-Err-clause-shared
returns-in-Err-clause-shared c = (ap arc_value c.in-Err.ensures.err, refl, refl)
