-- The contract of `call_home`: the mutators that are out come home.
use Rattle.std.proofs.Common.{◌≡◌, ◌<◌, ◌∙◌, None, Some, List, [], ◌∷◌, length, vec_len, refl, sym, ap, arith}
use Rattle.std.proofs.lemmas.Bool.{eqb-false, eqb-true}
use Rattle.rec_table.specs.Views.{MutatorView}
use Rattle.recycler_c.specs.Standing.{seat_in}
use Rattle.recycler_c.specs.declared.end.End.TheVariants as ends
use Rattle.recycler_c.proofs.Runs.{AreTaken, first_out, gathered_home, gathered_out, out_some}
use Rattle.recycler_c.proofs.Ties.{runs_high, runs_home}
use Rattle.recycler_c.proofs.running.call_home.Goals as goal
use Rattle.recycler_c.proofs.running.call_home.Goals.{After-gather}

none_in : (xs : List MutatorView) → length xs ≡ 0 → xs ≡ []
none_in [] e = refl
none_in (x ∷ xs) e = absurd (omega (arith, e))

pub returns-then-not-is_empty-clause-heap : goal.returns-then-not-is_empty-clause-heap
returns-then-not-is_empty-clause-heap c = refl

pub returns-then-not-is_empty-clause-collector : goal.returns-then-not-is_empty-clause-collector
returns-then-not-is_empty-clause-collector c = refl

pub returns-then-not-is_empty-clause-count : goal.returns-then-not-is_empty-clause-count
returns-then-not-is_empty-clause-count c = refl

pub returns-then-not-is_empty-clause-gathered : goal.returns-then-not-is_empty-clause-gathered
returns-then-not-is_empty-clause-gathered c =
    let some : 0 < length c.args.running.home.items = let ne = eqb-false _ _ (sym c.is_empty.ensures ∙ c.if-not-is_empty.true) in omega (arith, ne, c.args.running.home.ok.0) in
    gathered_home c.args.running c.args.mutators.now some

pub returns-then-not-is_empty-clause-low : goal.returns-then-not-is_empty-clause-low
returns-then-not-is_empty-clause-low c = λ k d lt.
    let some : 0 < length c.args.running.home.items = let ne = eqb-false _ _ (sym c.is_empty.ensures ∙ c.if-not-is_empty.true) in omega (arith, ne, c.args.running.home.ok.0) in
    runs_home (Some (ends.Collecting c.args.running None)) c.args.running c.args.mutators.now c.requires.tied refl some k d (omega (arith, lt, c.requires.many, c.args.running.few.1)) lt

pub returns-then-not-is_empty-clause-high : goal.returns-then-not-is_empty-clause-high
returns-then-not-is_empty-clause-high c = λ k d over lt.
    runs_high (Some (ends.Collecting c.args.running None)) c.args.running c.args.mutators.now c.requires.tied refl k d (omega (arith, lt, c.requires.many)) over

pub gather-requires-clause-none : goal.gather-requires-clause-none
gather-requires-clause-none c =
    let zero : vec_len c.args.running.home ≡ 0 = eqb-true _ _ (sym c.is_empty.ensures ∙ c.if-not-is_empty.false) in
    none_in c.args.running.home.items (omega (arith, zero, c.args.running.home.ok.0))

pub gather-requires-clause-room : goal.gather-requires-clause-room
gather-requires-clause-room c = (omega (arith, c.requires.many, c.args.running.few.1), c.args.running.room)

pub gather-requires-clause-out : goal.gather-requires-clause-out
gather-requires-clause-out c =
    let zero : vec_len c.args.running.home ≡ 0 = eqb-true _ _ (sym c.is_empty.ensures ∙ c.if-not-is_empty.false) in
    out_some c.args.running c.args.mutators.now (omega (arith, zero, c.args.running.home.ok.0)) c.requires.tied c.requires.many

taken : (c : After-gather) → AreTaken c.args.running c.args.mutators.now c.gather.new.home.items
taken c =
    let zero : vec_len c.args.running.home ≡ 0 = eqb-true _ _ (sym c.is_empty.ensures ∙ c.if-not-is_empty.false) in
    record { none = omega (arith, zero, c.args.running.home.ok.0); tied = c.requires.tied; many = c.requires.many; all = c.gather.ensures.count; each = c.gather.ensures.home }

pub invariant_of-running : goal.invariant_of-running
invariant_of-running c = record {
  own = c.args.running.own;
  counted = c.args.running.counted;
  few = c.args.running.few;
  first = first_out c.args.running c.args.mutators.now c.gather.new.home.items (taken (goal.at.invariant_of-running c).After-gather);
  whole = λ some. c.gather.ensures.count;
  room = omega (arith, c.gather.ensures.capacity, c.args.running.room);
}

pub returns-clause-heap : goal.returns-clause-heap
returns-clause-heap c = refl

pub returns-clause-collector : goal.returns-clause-collector
returns-clause-collector c = refl

pub returns-clause-count : goal.returns-clause-count
returns-clause-count c = refl

pub returns-clause-gathered : goal.returns-clause-gathered
returns-clause-gathered c = gathered_out c.args.running c.args.mutators.now c.gather.new.home.items (taken (goal.at.returns-clause-gathered c).After-gather)

pub returns-clause-low : goal.returns-clause-low
returns-clause-low c = λ k d lt. ap seat_in (c.gather.ensures.vacant k d lt)

pub returns-clause-high : goal.returns-clause-high
returns-clause-high c = λ k d over lt.
    ap seat_in (c.gather.ensures.others k d over) ∙ runs_high (Some (ends.Collecting c.args.running None)) c.args.running c.args.mutators.now c.requires.tied refl k d (omega (arith, lt, c.requires.many)) over
