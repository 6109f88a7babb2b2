-- The contract of `close`: closes a heap at rest, and gives back its memory and that of its handles.
use Rattle.std.proofs.Common.{◌∙◌, Some, Option, IsSome, is_some, refl, sym, ap, subst, rules}
use Rattle.recycler_c.specs.Standing.{can_collect, collects_in, rests_in, seat_beside}
use Rattle.recycler_c.specs.declared.end.End.{End}
use Rattle.recycler_c.proofs.Standings.{closed_of, not_full_of, rests_where_not_runs}
use Rattle.recycler_c.proofs.Ties.{tied_closed}
use Rattle.recycler_c.proofs.opening.close.Goals as goal

pub returns-then-not-collector-clause-closes : goal.returns-then-not-collector-clause-closes
returns-then-not-collector-clause-closes c = (closed_of c.args.collector.now (search rules), record { collector = refl; mutators = refl }, refl)

pub returns-then-not-collector-clause-collects : goal.returns-then-not-collector-clause-collects
returns-then-not-collector-clause-collects c = c.requires.collects

pub returns-then-not-collector-clause-tied : goal.returns-then-not-collector-clause-tied
returns-then-not-collector-clause-tied c = c.requires.tied

pub take-whole-requires : goal.take-whole-requires
take-whole-requires c = search rules

pub put-requires : goal.put-requires
put-requires c = not_full_of c.take-whole.new.self c.take-whole.ensures.closed

pub returns-then-runs-clause-closes : goal.returns-then-runs-clause-closes
returns-then-runs-clause-closes c = (
  subst (λ (x : Option End). IsSome (collects_in x)) (ap Some c.deref.ensures ∙ sym c.take-whole.ensures.was) (c.runs.ensures.0 (search rules)),
  record { collector = c.put.ensures ∙ sym c.take-whole.ensures.was; mutators = refl },
  refl,
)

pub returns-then-runs-clause-collects : goal.returns-then-runs-clause-collects
returns-then-runs-clause-collects c = ap can_collect (c.put.ensures ∙ sym c.take-whole.ensures.was) ∙ c.requires.collects

pub returns-then-runs-clause-tied : goal.returns-then-runs-clause-tied
returns-then-runs-clause-tied c = λ k d lt. c.requires.tied k d lt ∙ ap (λ (x : Option End). seat_beside x k) (sym (c.put.ensures ∙ sym c.take-whole.ensures.was))

pub returns-clause-closes : goal.returns-clause-closes
returns-clause-closes c = (
  subst (λ (x : Option End). IsSome (rests_in x)) (sym c.take-whole.ensures.was)
      (rests_where_not_runs c.take-whole.result.value (ap can_collect (sym c.take-whole.ensures.was) ∙ c.requires.collects)
      (λ w t e. let some : IsSome (collects_in (Some c.deref.result.now)) = ap (λ (x : End). is_some (collects_in (Some x))) (c.deref.ensures ∙ e) in let yes = c.runs.ensures.1 some in cc)),
  c.take-whole.ensures.closed,
  c.empty.ensures,
)

pub returns-clause-collects : goal.returns-clause-collects
returns-clause-collects c = ap can_collect c.take-whole.ensures.closed

pub returns-clause-tied : goal.returns-clause-tied
returns-clause-tied c = tied_closed _ _ c.take-whole.ensures.closed (λ k d lt. c.empty_all.ensures k d lt)
