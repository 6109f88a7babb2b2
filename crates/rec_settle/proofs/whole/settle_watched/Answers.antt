-- What was settled is so by the collections that were made, and the watch was shown each turn of them.
use Rattle.std.proofs.Common.{[], ◌++◌, ◌∙◌, refl, sym, subst, arith}
use Rattle.std.proofs.lemmas.List.{append-nil}
use Rattle.std.proofs.lemmas.Result.{IfOk-from_err}
use Rattle.rec_io.proofs.Faults.{rose_since}
use Rattle.rec_world.proofs.Calls.{world_kept}
use Rattle.rec_settle.specs.Shown.{IsShownTo, Leads}
use Rattle.rec_settle.proofs.Goes.{came_settled, if_err, leads_both}
use Rattle.rec_settle.specs.declared.turns.Settling.TheVariants.{Finishing, Settled}
use Rattle.rec_settle.proofs.Shows.{shows_to}
use Rattle.rec_settle.proofs.Settles.{EndsSettling, few_freed, settling_settles}
use Rattle.rec_settle.proofs.whole.settle_watched.Goals as goal

pub loop-init : goal.loop-init
loop-init g c = record {
  comes = c.in-Ok.ensures.begins c.requires.idle;
  idle = c.requires.idle;
  config = refl;
  shown = ([], subst (λ s. IsShownTo c.args.world.now [] s c.args.world.now) (sym c.in-Ok.ensures.stage) Leads.none, g.met.W.Watch.none_shown c.args.watch.now);
  never_falls = omega arith;
}

pub loop-preserved : goal.loop-preserved
loop-preserved g c =
    let so = c.loop.invariant.shown in
    let gone = c.in_ok-go_on.ensures.gone in
    record {
      comes = gone.1.comes c.args.world.now c.loop.invariant.comes;
      idle = c.go_on.ensures.idle;
      config = c.go_on.ensures.config ∙ c.loop.invariant.config;
      shown = (
        so.0 ++ gone.0,
        leads_both (Finishing c.args.world.now.epoch) c.args.world.now c.loop.settling c.loop.world c.go_on.new.self c.go_on.new.world so.0 gone.0 so.1 gone.1.leads,
        g.met.W.Watch.shown_then c.args.watch.now c.loop.watch c.go_on.new.watch so.0 gone.0 so.2 gone.2,
      );
      never_falls = omega (arith, c.loop.invariant.never_falls, c.go_on.ensures.never_falls);
    }

pub returns-in_err-go_on-clause-refused : goal.returns-in_err-go_on-clause-refused
returns-in_err-go_on-clause-refused g c =
    let so = c.loop.invariant.shown in
    if_err c.from_residual.result (
      so.0,
      record { stage = c.loop.settling; before = c.loop.world; so = so.1; on = c.in_err-go_on.ensures.refused.0; stopped = c.in_err-go_on.ensures.refused.1 },
      subst (λ xs. g.W.Watch.WasShown c.args.watch.now xs c.go_on.new.watch) (append-nil so.0) (g.met.W.Watch.shown_then c.args.watch.now c.loop.watch c.go_on.new.watch so.0 [] so.2 c.in_err-go_on.ensures.unshown),
    )

pub overflow_sub-result : goal.overflow_sub-result
overflow_sub-result g c =
    let h : EndsSettling c.args.world.now c.go_on.new.world =
    settling_settles c.args.world.now c.go_on.new.world (world_kept c.args.world.now c.start.ensures.kept) c.requires.idle
    (came_settled c.args.world.now c.loop.settling c.go_on.new.self c.loop.world c.go_on.new.world c.in_ok-go_on.ensures.gone.0 c.in_ok-go_on.field-0 c.if-branch.false c.loop.invariant.comes c.in_ok-go_on.ensures.gone.1) in
    omega (arith, h.all.collections, c.collections.ensures.collections, c.collections-collections.ensures.collections)

pub overflow_sub-result-2 : goal.overflow_sub-result-2
overflow_sub-result-2 g c =
    let h : EndsSettling c.args.world.now c.go_on.new.world =
    settling_settles c.args.world.now c.go_on.new.world (world_kept c.args.world.now c.start.ensures.kept) c.requires.idle
    (came_settled c.args.world.now c.loop.settling c.go_on.new.self c.loop.world c.go_on.new.world c.in_ok-go_on.ensures.gone.0 c.in_ok-go_on.field-0 c.if-branch.false c.loop.invariant.comes c.in_ok-go_on.ensures.gone.1) in
    omega (arith, h.all.stays.freed, c.freed.ensures.freed, c.freed-swept.ensures.freed)

pub overflow_cast-result : goal.overflow_cast-result
overflow_cast-result g c =
    let h : EndsSettling c.args.world.now c.go_on.new.world =
    settling_settles c.args.world.now c.go_on.new.world (world_kept c.args.world.now c.start.ensures.kept) c.requires.idle
    (came_settled c.args.world.now c.loop.settling c.go_on.new.self c.loop.world c.go_on.new.world c.in_ok-go_on.ensures.gone.0 c.in_ok-go_on.field-0 c.if-branch.false c.loop.invariant.comes c.in_ok-go_on.ensures.gone.1) in
    omega (arith, few_freed c.args.world.now c.go_on.new.world (world_kept c.args.world.now c.start.ensures.kept) h, c.freed.ensures.freed, c.freed-swept.ensures.freed)

pub returns-clause-done : goal.returns-clause-done
returns-clause-done g c =
    let settling = came_settled c.args.world.now c.loop.settling c.go_on.new.self c.loop.world c.go_on.new.world c.in_ok-go_on.ensures.gone.0 c.in_ok-go_on.field-0 c.if-branch.false c.loop.invariant.comes c.in_ok-go_on.ensures.gone.1 in
    let h : EndsSettling c.args.world.now c.go_on.new.world = settling_settles c.args.world.now c.go_on.new.world (world_kept c.args.world.now c.start.ensures.kept) c.requires.idle settling in
    record {
      left = c.in-Ok.ensures.left;
      settled = h.settled;
      settles = settling;
      epochs = omega (arith, h.all.collections, c.collections.ensures.collections, c.collections-collections.ensures.collections);
      requested = h.epoch;
      freed = omega (arith, h.all.stays.freed, c.freed.ensures.freed, c.freed-swept.ensures.freed);
      live = c.count_taken.ensures;
    }

pub returns-clause-stays : goal.returns-clause-stays
returns-clause-stays g c =
    let stays = (settling_settles c.args.world.now c.go_on.new.world (world_kept c.args.world.now c.start.ensures.kept) c.requires.idle
    (came_settled c.args.world.now c.loop.settling c.go_on.new.self c.loop.world c.go_on.new.world c.in_ok-go_on.ensures.gone.0 c.in_ok-go_on.field-0 c.if-branch.false c.loop.invariant.comes c.in_ok-go_on.ensures.gone.1)).all.stays in
    record { registers = stays.registers; stands = stays.stands; made = stays.made }

pub returns-clause-shown : goal.returns-clause-shown
returns-clause-shown g c =
    let so = c.loop.invariant.shown in
    let gone = c.in_ok-go_on.ensures.gone in
    let all : IsShownTo c.args.world.now (so.0 ++ gone.0) Settled c.go_on.new.world
    = subst (λ s. IsShownTo c.args.world.now (so.0 ++ gone.0) s c.go_on.new.world) (let ended = gone.1.ended c.if-branch.false in ended.1 ∙ ended.0)
    (leads_both (Finishing c.args.world.now.epoch) c.args.world.now c.loop.settling c.loop.world c.go_on.new.self c.go_on.new.world so.0 gone.0 so.1 gone.1.leads) in (
      so.0 ++ gone.0,
      all,
      g.met.W.Watch.shown_then c.args.watch.now c.loop.watch c.go_on.new.watch so.0 gone.0 so.2 gone.2,
      (shows_to (Finishing c.args.world.now.epoch) c.args.world.now (so.0 ++ gone.0) Settled c.go_on.new.world (world_kept c.args.world.now c.start.ensures.kept) c.requires.idle all).shows,
    )

pub returns-in-Err-clause-spent : goal.returns-in-Err-clause-spent
returns-in-Err-clause-spent g c = (c.in-Err.ensures.spent.0, c.in-Err.ensures.spent.1, refl)

pub returns-in-Err-clause-stays : goal.returns-in-Err-clause-stays
returns-in-Err-clause-stays g c = record { registers = refl; stands = λ heap number stands. stands; made = refl }

pub returns-in-Err-clause-idle : goal.returns-in-Err-clause-idle
returns-in-Err-clause-idle g c = c.requires.idle

pub returns-in-Err-clause-config : goal.returns-in-Err-clause-config
returns-in-Err-clause-config g c = refl

pub returns-in-Err-clause-kept : goal.returns-in-Err-clause-kept
returns-in-Err-clause-kept g c = c.start.ensures.kept

pub returns-in-Err-clause-unshown : goal.returns-in-Err-clause-unshown
returns-in-Err-clause-unshown g c = g.met.W.Watch.none_shown c.args.watch.now

pub returns-in-Err-clause-never_falls : goal.returns-in-Err-clause-never_falls
returns-in-Err-clause-never_falls g c = omega arith

pub go_on-requires : goal.go_on-requires
go_on-requires g c = record { idle = c.loop.invariant.idle }

pub returns-in_err-go_on-clause-spent : goal.returns-in_err-go_on-clause-spent
returns-in_err-go_on-clause-spent g c = IfOk-from_err c.from_residual.result _ c.from_residual.ensures.0

pub returns-in_err-go_on-clause-done : goal.returns-in_err-go_on-clause-done
returns-in_err-go_on-clause-done g c = IfOk-from_err c.from_residual.result _ c.from_residual.ensures.0

pub returns-in_err-go_on-clause-stays : goal.returns-in_err-go_on-clause-stays
returns-in_err-go_on-clause-stays g c = IfOk-from_err c.from_residual.result _ c.from_residual.ensures.0

pub returns-in_err-go_on-clause-shown : goal.returns-in_err-go_on-clause-shown
returns-in_err-go_on-clause-shown g c = IfOk-from_err c.from_residual.result _ c.from_residual.ensures.0

pub returns-in_err-go_on-clause-unshown : goal.returns-in_err-go_on-clause-unshown
returns-in_err-go_on-clause-unshown g c = IfOk-from_err c.from_residual.result _ c.from_residual.ensures.0

pub returns-in_err-go_on-clause-idle : goal.returns-in_err-go_on-clause-idle
returns-in_err-go_on-clause-idle g c = c.go_on.ensures.idle

pub returns-in_err-go_on-clause-config : goal.returns-in_err-go_on-clause-config
returns-in_err-go_on-clause-config g c = c.go_on.ensures.config ∙ c.loop.invariant.config

pub returns-in_err-go_on-clause-kept : goal.returns-in_err-go_on-clause-kept
returns-in_err-go_on-clause-kept g c = c.go_on.ensures.kept

pub returns-in_err-go_on-clause-never_falls : goal.returns-in_err-go_on-clause-never_falls
returns-in_err-go_on-clause-never_falls g c = omega (arith, c.loop.invariant.never_falls, c.go_on.ensures.never_falls)

pub returns-clause-idle : goal.returns-clause-idle
returns-clause-idle g c = c.go_on.ensures.idle

pub returns-clause-config : goal.returns-clause-config
returns-clause-config g c = c.go_on.ensures.config ∙ c.loop.invariant.config

pub returns-clause-kept : goal.returns-clause-kept
returns-clause-kept g c = c.go_on.ensures.kept

pub returns-clause-never_falls : goal.returns-clause-never_falls
returns-clause-never_falls g c = omega (arith, c.loop.invariant.never_falls, c.go_on.ensures.never_falls)

pub returns-in_err-go_on-clause-rose : goal.returns-in_err-go_on-clause-rose
returns-in_err-go_on-clause-rose g c = if_err c.from_residual.result (rose_since (g.W.Watch.refused c.args.watch.now) (g.W.Watch.refused c.loop.watch) (g.W.Watch.refused c.go_on.new.watch) c.loop.invariant.never_falls c.in_err-go_on.ensures.rose)

pub loop-smaller : goal.loop-smaller
loop-smaller g c = c.in_ok-go_on.ensures.gone.1.nearer c.if-branch.true c.args.world.now c.loop.invariant.comes
