-- The contract of `Heap::stop`: stops it, with all its mutators in order of number and its collector, and gives the world that it has become.
use Rattle.std.proofs.Common.{◌≡◌, ◌∙◌, ap, map, subst, sym, false}
use Rattle.rec_table.proofs.Common.{Core, IsKept, world_kept, MutatorView, Started}
use Rattle.rec_collector.specs.Private as collectors
use Rattle.rec_core.specs.Worked.{AreIdle}
use Rattle.rec_table.specs.Ends.{Interleaves}
use Rattle.rec_table.proofs.Stopped.{stopped}
use Rattle.rec_table.proofs.heap.Heap.stop.Goals as goal

pub returns-clause-stopped : goal.returns-clause-stopped
returns-clause-stopped c =
    let is : c.self.inside.board.table.shared.key.value ≡ c.args.self.world = ap (λ (s : Started). s.world) c.self.view_is in
    stopped c.args.self c.args.collector c.put_back.new.self c.args.mutators.items c.fill.result (subst (IsKept false) is (world_kept c.self.inside.board.table.shared.key.value c.self.invariant.0)) (subst AreIdle is c.self.invariant.1) c.requires.collector.0.1 c.requires.mutators c.put_back.ensures.returned
    (subst (λ (k : Core). Interleaves k c.put_back.new.self.collecting.log (map (λ (m : MutatorView). m.log) c.args.mutators.items) c.fill.result) is c.fill.ensures.run)

pub returns-clause-requested : goal.returns-clause-requested
returns-clause-requested c =
    let kept : IsKept false c.fill.result = world_kept c.fill.result c.fill.ensures.kept in
    sym kept.collector.epoch ∙ ap (λ (p : collectors.Private). p.epoch) c.fill.ensures.collector ∙ c.put_back.ensures.returned.requests_none
