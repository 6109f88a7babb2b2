-- The contract of `Trial::run_in`: goes on with a run up to the end of a phase.
use Rattle.std.proofs.Common.{◌≡◌, ℕ, ◌+◌, IsSome, Option, Some, sym, ap, subst, ◌∙◌, rules}
use Rattle.rec_word.specs.Place.{place_of}
use Rattle.rec_word.specs.declared.op.Op.{Op}
use Rattle.rec_word.specs.declared.op.Op.TheVariants.{LoadChild}
use Rattle.rec_trial.proofs.Common.{Machine, Work, next_of}
use Rattle.rec_trial.proofs.Running.{busy_still, due_op, ran_more}
use Rattle.rec_trial.proofs.trial.Trial.run_in.Goals as goal
use Rattle.rec_trial.proofs.trial.Trial.run_in.Goals.{After-took_in}

-- the operation that comes next
named : (m : Machine) (at : ℕ) → IsSome (next_of m) → at ≡ place_of m.slot m.field m.fields → ◌≡◌ {A = Option Op} (next_of m) (Some (LoadChild at))
named m at b is = due_op m b ∙ ap (λ n. Some (LoadChild n)) (sym is)

pub loop-made-init : goal.loop-made-init
loop-made-init g c = record { phase = c.requires.phase; busy = c.requires.busy; kept = c.requires.kept; ran = λ first r. r; stands = c.requires.stands }

pub load-word-requires : goal.load-word-requires
load-word-requires g c =
    let at = c.place.ensures.place ∙ ap (λ (m : Machine). place_of m.slot m.field m.fields) c.self.view_is in
    (c.loop-made.made, record { machine = c.loop-made.self; counts = c.loop-made.counts }, c.loop-made.invariant.stands, named c.loop-made.self c.place.result c.loop-made.invariant.busy at)

pub took_in-requires-clause-named : goal.took_in-requires-clause-named
took_in-requires-clause-named g c =
    let at = c.place.ensures.place ∙ ap (λ (m : Machine). place_of m.slot m.field m.fields) c.self.view_is in
    (c.load-word.ensures c.loop-made.made (record { machine = c.loop-made.self; counts = c.loop-made.counts }) c.loop-made.invariant.stands (named c.loop-made.self c.place.result c.loop-made.invariant.busy at)).0

pub loop-made-preserved : goal.loop-made-preserved
loop-made-preserved g c =
    let at = c.place.ensures.place ∙ ap (λ (m : Machine). place_of m.slot m.field m.fields) c.self.view_is in
    let w : Work = record { machine = c.loop-made.self; counts = c.loop-made.counts } in
    let v : Work = record { machine = c.took_in.new.self; counts = c.took_in.new.counts } in
    let given = c.load-word.ensures c.loop-made.made w c.loop-made.invariant.stands (named c.loop-made.self c.place.result c.loop-made.invariant.busy at) in
    let same : c.args.phase ≡ c.took_in.new.self.phase = search rules in
    record {
      phase = same;
      busy = busy_still c.loop-made.self c.took_in.new.self (sym c.loop-made.invariant.phase ∙ same) c.loop-made.invariant.busy;
      kept = c.took_in.ensures.kept;
      ran = λ first r. ran_more first w v c.loop-made.made c.load-word.result (c.loop-made.invariant.ran first r) c.loop-made.invariant.busy given.0 c.took_in.ensures.took;
      stands = subst (λ (u : Work). g.L.Loads.StandsAt c.args.board.now c.load-word.new.seat (c.loop-made.made + 1) u) (sym c.took_in.ensures.took) given.1;
    }

pub returns-then-not-is_in-clause-ran : goal.returns-then-not-is_in-clause-ran
returns-then-not-is_in-clause-ran g c =
    let at = c.place.ensures.place ∙ ap (λ (m : Machine). place_of m.slot m.field m.fields) c.self.view_is in
    let w : Work = record { machine = c.loop-made.self; counts = c.loop-made.counts } in
    let v : Work = record { machine = c.took_in.new.self; counts = c.took_in.new.counts } in
    let given = c.load-word.ensures c.loop-made.made w c.loop-made.invariant.stands (named c.loop-made.self c.place.result c.loop-made.invariant.busy at) in
    λ first r. ran_more first w v c.loop-made.made c.load-word.result (c.loop-made.invariant.ran first r) c.loop-made.invariant.busy given.0 c.took_in.ensures.took

pub returns-then-not-is_in-clause-stands : goal.returns-then-not-is_in-clause-stands
returns-then-not-is_in-clause-stands g c =
    let at = c.place.ensures.place ∙ ap (λ (m : Machine). place_of m.slot m.field m.fields) c.self.view_is in
    let w : Work = record { machine = c.loop-made.self; counts = c.loop-made.counts } in
    let given = c.load-word.ensures c.loop-made.made w c.loop-made.invariant.stands (named c.loop-made.self c.place.result c.loop-made.invariant.busy at) in
    subst (λ (u : Work). g.L.Loads.StandsAt c.args.board.now c.load-word.new.seat (c.loop-made.made + 1) u) (sym c.took_in.ensures.took) given.1
