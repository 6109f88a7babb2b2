-- The contract of `start_in`: a heap at rest is set running.
use Rattle.std.proofs.Common.{◌≡◌, ℕ, ◌+◌, ◌<◌, ◌∙◌, None, Some, length, refl, sym, ap, subst, arith}
use Rattle.std.specs.Arc.{arc_value}
use Rattle.rec_core.specs.Core.{Core}
use Rattle.rec_table.specs.Views.{Started, fresh, fresh_collector}
use Rattle.recycler_c.specs.Calls.{IsOut, NotRun, Starts}
use Rattle.recycler_c.specs.Standing.{AreTied, can_collect, held_at, rests_in, seat_in, tells_in}
use Rattle.recycler_c.specs.declared.end.End.{End}
use Rattle.recycler_c.specs.declared.end.End.TheVariants as ends
use Rattle.recycler_c.specs.declared.handle.Handle.{Handle}
use Rattle.recycler_c.proofs.Standings.{out_seat, runs_where_not_rests, seat_open}
use Rattle.recycler_c.proofs.Starts.{out_moved, refused_collects, refused_starts, refused_ties}
use Rattle.recycler_c.proofs.Ties.{rests_high, rests_low, tied_out}
use Rattle.recycler_c.proofs.running.start_in.Goals as goal
use Rattle.recycler_c.proofs.running.start_in.Goals.{In-Ok, In-Resting, After-send_out-running}

-- what the handles stand for beside the heap at rest
tied : (c : In-Resting) → AreTied (Some (ends.Resting c.in-Resting.resting None)) c.args.mutators.now
tied c = subst (λ (e : End). AreTied (Some e) c.args.mutators.now) c.in-Resting.is c.requires.tied

-- how many mutators it has
many : (c : In-Ok) → c.in-Ok.running.count ≡ c.in-Resting.resting.config.mutators
many c = c.in-Ok.running.counted ∙ ap (λ (w : Core). w.config.mutators) (c.in-Ok.ensures.fresh.started ∙ c.into_world.ensures.world)

-- the mutator in a handle
out : (c : After-send_out-running) → (k : ℕ) (d : Handle) → k < c.in-Ok.running.count →
    IsOut (arc_value c.send_out-running.result.heap) (fresh (arc_value c.send_out-running.result.heap) (k + 1)) (held_at c.send_out-running.new.mutators k d)
out c k d lt =
    let s = arc_value c.in-Ok.running.heap in
    let there : k < c.into_world.result.config.mutators = omega (arith, lt, c.in-Ok.running.counted, ap (λ (w : Core). w.config.mutators) c.in-Ok.ensures.fresh.started) in
    out_moved s (arc_value c.send_out-running.result.heap) _ (k + 1) (held_at c.send_out-running.new.mutators k d) (c.in-Ok.ensures.fresh.home k (fresh s (k + 1)) there) c.send_out-running.ensures.heap
    (c.send_out-running.ensures.out k d (fresh s (k + 1)) lt)

pub set_running-requires-clause-idle : goal.set_running-requires-clause-idle
set_running-requires-clause-idle c = c.into_world.ensures.idle

pub set_running-requires-clause-home : goal.set_running-requires-clause-home
set_running-requires-clause-home c = c.into_world.ensures.home

pub set_running-requires-clause-kept : goal.set_running-requires-clause-kept
set_running-requires-clause-kept c = c.into_world.ensures.kept

pub send_out-running-requires-clause-many : goal.send_out-running-requires-clause-many
send_out-running-requires-clause-many c = c.requires.many

pub send_out-running-requires-clause-all : goal.send_out-running-requires-clause-all
send_out-running-requires-clause-all c = c.in-Ok.ensures.fresh.all ∙ ap (λ (w : Core). w.config.mutators) (sym c.in-Ok.ensures.fresh.started) ∙ sym c.in-Ok.running.counted

pub send_out-running-requires-clause-heaps : goal.send_out-running-requires-clause-heaps
send_out-running-requires-clause-heaps c = (c.in-Ok.ensures.count, c.in-Ok.ensures.heaps)

pub send_out-running-requires-clause-open : goal.send_out-running-requires-clause-open
send_out-running-requires-clause-open c = λ k d lt.
    let at = goal.at.send_out-running-requires-clause-open c in
    let here = tied at.In-Resting in let all = many at.In-Ok in
    seat_open _ _ (rests_low (Some (ends.Resting c.in-Resting.resting None)) c.in-Resting.resting c.args.mutators.now here refl k d (omega (arith, lt, c.requires.many, c.in-Ok.running.few.1)) (omega (arith, lt, all)))

pub returns-in-Ok-clause-starts : goal.returns-in-Ok-clause-starts
returns-in-Ok-clause-starts c =
    let at = goal.at.returns-in-Ok-clause-starts c in let all = many at.In-Ok in
    record {
      world = c.in-Resting.resting;
      was = ap (λ (e : End). rests_in (Some e)) c.in-Resting.is;
      collecting = c.send_out-running.result;
      is = refl;
      started = ap (λ (s : Started). s.world) c.send_out-running.ensures.heap ∙ c.in-Ok.ensures.fresh.started ∙ c.into_world.ensures.world;
      collector = c.send_out-running.ensures.collector ∙ c.in-Ok.ensures.fresh.collector ∙ ap fresh_collector (sym c.send_out-running.ensures.heap);
      home = c.send_out-running.ensures.home;
      out = λ k d lt. out at.After-send_out-running k d (omega (arith, lt, all));
      teller = ap (λ (e : End). tells_in (Some e)) (sym c.in-Resting.is);
    }

pub returns-in-Ok-clause-collects : goal.returns-in-Ok-clause-collects
returns-in-Ok-clause-collects c = refl

pub returns-in-Ok-clause-tied : goal.returns-in-Ok-clause-tied
returns-in-Ok-clause-tied c =
    let at = goal.at.returns-in-Ok-clause-tied c in
    let here = tied at.In-Resting in let all = many at.In-Ok in
    let r = c.send_out-running.result in
    let s = arc_value r.heap in
    tied_out (Some (ends.Collecting r None)) r c.send_out-running.new.mutators refl (ap length c.send_out-running.ensures.home)
    (λ k d lt under. out_seat s (fresh s (k + 1)) (held_at c.send_out-running.new.mutators k d) (out at.After-send_out-running k d (omega (arith, under, c.send_out-running.ensures.count))))
    (λ k d lt over. ap seat_in (c.send_out-running.ensures.others k d (omega (arith, over, c.send_out-running.ensures.count)))
    ∙ rests_high (Some (ends.Resting c.in-Resting.resting None)) c.in-Resting.resting c.args.mutators.now here refl k d (omega arith) (omega (arith, over, c.send_out-running.ensures.count, all)))

pub returns-in-Err-clause-starts : goal.returns-in-Err-clause-starts
returns-in-Err-clause-starts c =
    let w = c.in-Resting.resting in let t = c.in-Resting.teller in let ms = c.args.mutators.now in
    let refused : NotRun w c.in-Err.code c.in-Err.refused = subst (λ (v : Core). NotRun v c.in-Err.code c.in-Err.refused) c.into_world.ensures.world c.in-Err.ensures.refused in
    let starts : Starts (Some (ends.Resting w t)) ms c.in-Err.code (Some c.with_teller.result) ms = subst (λ (e : End). Starts (Some (ends.Resting w t)) ms c.in-Err.code (Some e) ms) (sym c.with_teller.ensures) (refused_starts w t ms c.in-Err.code c.in-Err.refused refused) in
    subst (λ (e : End). Starts (Some e) ms c.in-Err.code (Some c.with_teller.result) ms) (sym c.in-Resting.is) starts

pub returns-in-Err-clause-collects : goal.returns-in-Err-clause-collects
returns-in-Err-clause-collects c = ap (λ (e : End). can_collect (Some e)) c.with_teller.ensures ∙ refused_collects c.into_world.result c.in-Resting.teller c.in-Err.code c.in-Err.refused c.in-Err.ensures.refused

pub returns-in-Err-clause-tied : goal.returns-in-Err-clause-tied
returns-in-Err-clause-tied c =
    let here = tied (goal.at.returns-in-Err-clause-tied c).In-Resting in
    let refused : NotRun c.in-Resting.resting c.in-Err.code c.in-Err.refused = subst (λ (v : Core). NotRun v c.in-Err.code c.in-Err.refused) c.into_world.ensures.world c.in-Err.ensures.refused in
    subst (λ (e : End). AreTied (Some e) c.args.mutators.now) (sym c.with_teller.ensures) (refused_ties c.in-Resting.resting c.in-Resting.teller c.args.mutators.now c.in-Err.code c.in-Err.refused here refused)

pub returns-in_default : goal.returns-in_default
returns-in_default c = record {
  starts = (runs_where_not_rests c.args.end c.requires.collects c.in_default.not-Resting, record { collector = refl; mutators = refl });
  collects = c.requires.collects;
  tied = c.requires.tied;
}
