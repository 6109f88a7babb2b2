-- The contract of `share`: the heap is shared by its collector and its mutators.
use Rattle.std.proofs.Common.{◌≡◌, ◌+◌, ◌%◌, ◌∙◌, All, None, map, refl, sym, ap, subst, arith}
use Rattle.rec_core.specs.Core.{Core}
use Rattle.rec_table.specs.Ends.{IsStopped}
use Rattle.rec_table.specs.Views.{AreMutatorsOf, MutatorView, IsCollectorOf, Started, fresh, fresh_collector}
use Rattle.rec_world.specs.World.{IsWorld}
use Rattle.recycler_c.specs.Calls.{NotRun}
use Rattle.recycler_c.specs.First.{AreFirst}
use Rattle.recycler_c.specs.declared.end.End.TheVariants as ends
use Rattle.recycler_c.proofs.Runs.{fresh_rests}
use Rattle.recycler_c.proofs.running.share.Goals as goal

many : (s t : Started) → t ≡ s → s.world.config.mutators ≡ t.world.config.mutators
many s t e = ap (λ (x : Started). x.world.config.mutators) (sym e)

pub invariant_of-running : goal.invariant_of-running
invariant_of-running c = record {
  own = subst (λ (s : Started). IsCollectorOf s c.args.collector) (sym c.in-Ok.ensures.ok) c.requires.collector.0;
  counted = omega (arith, c.len-count.ensures, c.args.home.ok.0, c.requires.mutators.all, many _ _ c.in-Ok.ensures.ok);
  few = (
    omega (arith, c.len-count.ensures, c.args.home.ok.0, c.requires.mutators.all, c.requires.kept.shaped.config.some_mutators),
    omega (arith, c.len-count.ensures, c.args.home.ok.0, c.requires.mutators.all, c.requires.kept.shaped.config.few_mutators),
  );
  first = subst (λ (s : Started). AreFirst s c.args.home.items) (sym c.in-Ok.ensures.ok) c.requires.mutators.each;
  whole = λ some. omega (arith, c.len-count.ensures, c.args.home.ok.0);
  room = omega (arith, c.len-count.ensures, c.args.home.ok.0, c.args.home.ok.1);
}

pub invariant_of-running-in-Err-heaps : goal.invariant_of-running-in-Err-heaps
invariant_of-running-in-Err-heaps c = record {
  own = subst (λ (s : Started). IsCollectorOf s c.args.collector) (sym c.in-Ok.ensures.ok) c.requires.collector.0;
  counted = omega (arith, c.len-count.ensures, c.args.home.ok.0, c.requires.mutators.all, many _ _ c.in-Ok.ensures.ok);
  few = (
    omega (arith, c.len-count.ensures, c.args.home.ok.0, c.requires.mutators.all, c.requires.kept.shaped.config.some_mutators),
    omega (arith, c.len-count.ensures, c.args.home.ok.0, c.requires.mutators.all, c.requires.kept.shaped.config.few_mutators),
  );
  first = subst (λ (s : Started). AreFirst s c.args.home.items) (sym c.in-Ok.ensures.ok) c.requires.mutators.each;
  whole = λ some. omega (arith, c.len-count.ensures, c.args.home.ok.0);
  room = omega (arith, c.len-count.ensures, c.args.home.ok.0, c.args.home.ok.1);
}

pub stay-requires-clause-fresh : goal.stay-requires-clause-fresh
stay-requires-clause-fresh c = record {
  started = refl;
  collector = c.requires.collector.1 ∙ ap fresh_collector (sym c.in-Ok.ensures.ok);
  all = c.requires.mutators.all ∙ many _ _ c.in-Ok.ensures.ok;
  home = λ k e lt. c.requires.fresh k e (omega (arith, lt, c.requires.mutators.all, many _ _ c.in-Ok.ensures.ok)) ∙ ap (λ (s : Started). fresh s (k + 1)) (sym c.in-Ok.ensures.ok);
}

pub stay-requires-clause-home : goal.stay-requires-clause-home
stay-requires-clause-home c = subst (λ (s : Started). All (λ word. word % 2 ≡ 0) s.world.crossing) (sym c.in-Ok.ensures.ok) c.requires.home

pub stay-requires-clause-kept : goal.stay-requires-clause-kept
stay-requires-clause-kept c = subst (λ (s : Started). IsWorld s.world) (sym c.in-Ok.ensures.ok) c.requires.kept

pub rest-resting-requires-clause-mutators : goal.rest-resting-requires-clause-mutators
rest-resting-requires-clause-mutators c = subst (λ (s : Started). AreMutatorsOf s c.args.home.items) (sym c.in-Err.ensures.value_returned) c.requires.mutators

pub rest-resting-requires-clause-collector : goal.rest-resting-requires-clause-collector
rest-resting-requires-clause-collector c = subst (λ (s : Started). IsCollectorOf s c.args.collector) (sym c.in-Err.ensures.value_returned) c.requires.collector.0

pub returns-in-Ok-heaps-clause-fresh : goal.returns-in-Ok-heaps-clause-fresh
returns-in-Ok-heaps-clause-fresh c = record {
  started = ap (λ (s : Started). s.world) c.in-Ok.ensures.ok;
  collector = c.requires.collector.1 ∙ ap fresh_collector (sym c.in-Ok.ensures.ok);
  all = c.requires.mutators.all;
  home = λ k e lt. c.requires.fresh k e (omega (arith, lt, c.requires.mutators.all)) ∙ ap (λ (s : Started). fresh s (k + 1)) (sym c.in-Ok.ensures.ok);
}

pub returns-in-Ok-heaps-clause-count : goal.returns-in-Ok-heaps-clause-count
returns-in-Ok-heaps-clause-count c = c.in-Ok-heaps.ensures.count

pub returns-in-Ok-heaps-clause-heaps : goal.returns-in-Ok-heaps-clause-heaps
returns-in-Ok-heaps-clause-heaps c = c.in-Ok-heaps.ensures.heaps

pub returns-in-Err-heaps-clause-refused : goal.returns-in-Err-heaps-clause-refused
returns-in-Err-heaps-clause-refused c = subst (λ (s : Started). NotRun s.world c.stay.result.1 c.stay.result.0) c.in-Ok.ensures.ok c.stay.ensures

pub returns-in-Err-clause-refused : goal.returns-in-Err-clause-refused
returns-in-Err-clause-refused c =
    let stopped = subst (λ (s : Started). IsStopped s.world c.args.collector.collecting.log (map (λ (m : MutatorView). m.log) c.args.home.items) c.rest-resting.result) c.in-Err.ensures.value_returned c.rest-resting.ensures.stopped in
    ap (λ (w : Core). ends.Resting w None) (fresh_rests c.args.heap c.args.collector c.args.home.items c.rest-resting.result c.requires.kept c.requires.home c.requires.collector.1 c.requires.fresh stopped)
