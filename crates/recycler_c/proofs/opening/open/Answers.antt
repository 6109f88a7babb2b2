-- The contract of `open`: opens a heap at rest, with one object in slot 0 and in register 0 of each mutator.
use Rattle.std.proofs.Common.{◌≡◌, ◌∙◌, Some, None, Option, refl, sym, ap, subst, arith, rules}
use Rattle.rec_core.specs.Core.{opened}
use Rattle.recycler_c.specs.Calls.{Opens}
use Rattle.recycler_c.specs.Standing.{can_collect, held_at, rests_in, seat_beside, tells_in}
use Rattle.recycler_c.specs.declared.code.Code.{Code}
use Rattle.recycler_c.specs.declared.end.End.{End}
use Rattle.recycler_c.proofs.Opened.{opens_refused}
use Rattle.recycler_c.proofs.Standings.{closed_of, open_of, seat_closed}
use Rattle.recycler_c.proofs.Ties.{tied_vacant}
use Rattle.recycler_c.proofs.opening.open.Goals as goal

pub returns-then-collector-clause-opens : goal.returns-then-collector-clause-opens
returns-then-collector-clause-opens c = (open_of c.args.collector.now (search rules), record { collector = refl; mutators = refl })

pub returns-then-collector-clause-collects : goal.returns-then-collector-clause-collects
returns-then-collector-clause-collects c = c.requires.collects

pub returns-then-collector-clause-tied : goal.returns-then-collector-clause-tied
returns-then-collector-clause-tied c = c.requires.tied

pub seat_all-requires-clause-room : goal.seat_all-requires-clause-room
seat_all-requires-clause-room c = omega (arith, c.in-Ok.ensures.seats, c.in-Ok.ensures.config.few_mutators, c.requires.many)

pub seat_all-requires-clause-closed : goal.seat_all-requires-clause-closed
seat_all-requires-clause-closed c = λ k d lt.
    let none : c.args.collector.now.owned.held ≡ None = closed_of c.args.collector.now (search rules) in
    seat_closed (held_at c.args.mutators.now k d) (c.requires.tied k d lt ∙ ap (λ (x : Option End). seat_beside x k) none)

pub seat_all-requires-clause-vacant : goal.seat_all-requires-clause-vacant
seat_all-requires-clause-vacant c = c.in-Ok.ensures.vacant

pub put-requires : goal.put-requires
put-requires c = search rules

pub returns-in-Ok-clause-opens : goal.returns-in-Ok-clause-opens
returns-in-Ok-clause-opens c = record {
  was = closed_of c.args.collector.now (search rules);
  config_fits = c.in-Ok.ensures.config;
  is = ap rests_in (c.put.ensures ∙ ap Some c.in-Ok.ensures.opened);
  silent = ap tells_in (c.put.ensures ∙ ap Some c.in-Ok.ensures.opened);
}

pub returns-in-Ok-clause-collects : goal.returns-in-Ok-clause-collects
returns-in-Ok-clause-collects c = ap can_collect (c.put.ensures ∙ ap Some c.in-Ok.ensures.opened)

pub returns-in-Ok-clause-tied : goal.returns-in-Ok-clause-tied
returns-in-Ok-clause-tied c = tied_vacant _ (opened c.args.config) _ _ (c.put.ensures ∙ ap Some c.in-Ok.ensures.opened) c.in-Ok.ensures.seats c.seat_all.ensures

pub returns-in-Err-clause-opens : goal.returns-in-Err-clause-opens
returns-in-Err-clause-opens c =
    let none : c.args.collector.now.owned.held ≡ None = closed_of c.args.collector.now (search rules) in
    subst (λ (code : Code). Opens c.args.config c.args.collector.now.owned.held c.args.mutators.now code c.args.collector.now.owned.held c.args.mutators.now) (sym c.refusal.ensures)
    (opens_refused c.args.config c.args.collector.now.owned.held c.args.mutators.now c.in-Err.error c.in-Err.ensures.refused none)

pub returns-in-Err-clause-collects : goal.returns-in-Err-clause-collects
returns-in-Err-clause-collects c = c.requires.collects

pub returns-in-Err-clause-tied : goal.returns-in-Err-clause-tied
returns-in-Err-clause-tied c = c.requires.tied
