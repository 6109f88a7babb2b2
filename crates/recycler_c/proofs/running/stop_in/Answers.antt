-- The contract of `stop_in`: a running heap is stopped.
use Rattle.std.proofs.Common.{◌≡◌, ◌∙◌, None, Some, length, refl, sym, ap, subst, arith}
use Rattle.std.specs.Arc.{arc_value}
use Rattle.rec_core.specs.declared.config.Config.{Config}
use Rattle.rec_table.specs.Views.{CollectorView, collector_now}
use Rattle.recycler_c.specs.Standing.{AreTied, collects_in, tells_in}
use Rattle.recycler_c.specs.declared.end.End.{End}
use Rattle.recycler_c.specs.declared.end.End.TheVariants as ends
use Rattle.recycler_c.proofs.Runs.{same_count, stopped_of}
use Rattle.recycler_c.proofs.Standings.{rests_where_not_runs}
use Rattle.recycler_c.proofs.Ties.{stopped_config, tied_home, tied_rests}
use Rattle.recycler_c.proofs.running.stop_in.Goals as goal

pub call_home-requires-clause-many : goal.call_home-requires-clause-many
call_home-requires-clause-many c = c.requires.many

pub call_home-requires-clause-tied : goal.call_home-requires-clause-tied
call_home-requires-clause-tied c = subst (λ (e : End). AreTied (Some e) c.args.mutators.now) c.in-Collecting.is c.requires.tied

pub unshare-requires : goal.unshare-requires
unshare-requires c = c.call_home.ensures.gathered.all ∙ sym c.call_home.ensures.count

pub returns-in-Ok-clause-stops : goal.returns-in-Ok-clause-stops
returns-in-Ok-clause-stops c = record {
  collecting = c.in-Collecting.running;
  was = ap (λ (e : End). collects_in (Some e)) c.in-Collecting.is;
  mutators = c.call_home.result.home.items;
  gathered = c.call_home.ensures.gathered;
  world = c.in-Ok.resting;
  is = refl;
  stopped = stopped_of (arc_value c.in-Collecting.running.heap) (arc_value c.call_home.result.heap) c.in-Collecting.running.collector c.call_home.result.collector c.call_home.result.home.items c.in-Ok.resting c.call_home.ensures.heap c.call_home.ensures.collector c.in-Ok.ensures.stopped;
  requested = c.in-Ok.ensures.requested ∙ ap (λ (g : CollectorView). (collector_now g).epoch) c.call_home.ensures.collector;
  home = c.in-Ok.ensures.home;
  teller = ap (λ (e : End). tells_in (Some e)) (sym c.in-Collecting.is);
}

pub returns-in-Ok-clause-collects : goal.returns-in-Ok-clause-collects
returns-in-Ok-clause-collects c = refl

pub returns-in-Ok-clause-tied : goal.returns-in-Ok-clause-tied
returns-in-Ok-clause-tied c =
    let same : c.in-Ok.resting.config ≡ (arc_value c.call_home.result.heap).world.config = stopped_config _ _ _ c.in-Ok.resting c.in-Ok.ensures.stopped in
    let many : c.in-Collecting.running.count ≡ c.in-Ok.resting.config.mutators = sym c.call_home.ensures.count ∙ c.call_home.result.counted ∙ ap (λ (x : Config). x.mutators) (sym same) in
    tied_rests (Some (ends.Resting c.in-Ok.resting None)) c.in-Ok.resting c.in-Collecting.running.count c.call_home.new.mutators refl many
    (λ k d lt under. c.call_home.ensures.low k d under) (λ k d lt over. c.call_home.ensures.high k d over (omega arith))

pub returns-in-Err-clause-stops : goal.returns-in-Err-clause-stops
returns-in-Err-clause-stops c = record {
  collecting = c.in-Collecting.running;
  was = ap (λ (e : End). collects_in (Some e)) c.in-Collecting.is;
  mutators = c.call_home.result.home.items;
  gathered = c.call_home.ensures.gathered;
  collecting' = c.in-Err.running;
  is = refl;
  heap = c.in-Err.ensures.shared.0 ∙ c.call_home.ensures.heap;
  collector = c.in-Err.ensures.shared.1 ∙ c.call_home.ensures.collector;
  home = c.in-Err.ensures.shared.2;
  teller = ap (λ (e : End). tells_in (Some e)) (sym c.in-Collecting.is);
}

pub returns-in-Err-clause-collects : goal.returns-in-Err-clause-collects
returns-in-Err-clause-collects c = refl

pub returns-in-Err-clause-tied : goal.returns-in-Err-clause-tied
returns-in-Err-clause-tied c =
    let count : c.in-Err.running.count ≡ c.in-Collecting.running.count = same_count c.call_home.result c.in-Err.running c.in-Err.ensures.shared.0 ∙ c.call_home.ensures.count in
    let long : length c.in-Err.running.home.items ≡ c.in-Collecting.running.count = ap length c.in-Err.ensures.shared.2 ∙ c.call_home.ensures.gathered.all in
    tied_home (Some (ends.Collecting c.in-Err.running None)) c.in-Err.running c.call_home.new.mutators refl (omega (arith, long, c.in-Collecting.running.few.0))
    (λ k d lt under. c.call_home.ensures.low k d (omega (arith, under, count))) (λ k d lt over. c.call_home.ensures.high k d (omega (arith, over, count)) (omega arith))

pub returns-in_default : goal.returns-in_default
returns-in_default c = record {
  stops = (rests_where_not_runs c.args.end c.requires.collects c.in_default.not-Collecting, record { collector = refl; mutators = refl });
  collects = c.requires.collects;
  tied = c.requires.tied;
}
