-- The contract of `Prep::run_on`: loads words and learns them.
use Rattle.std.proofs.Common.{◌≡◌, ℕ, ◌+◌, ◌<◌, IfSome, IsSome, length, sym, subst, rules}
use Rattle.rec_word.specs.Word.{target_of}
use Rattle.rec_sigma.specs.Prepare.{Work, next_of, took_of}
use Rattle.rec_sigma.specs.Ran.{Ran}
use Rattle.rec_sigma.proofs.prepare.Prep.run_on.Goals as goal

-- one word more
ran_more : (first w v : Work) (n word : ℕ) → Ran first n w → IsSome (next_of w.machine) → IfSome (target_of word) (λ slot. slot < length w.counts.slots) → v ≡ took_of w word → Ran first (n + 1) v
ran_more first w v n word r b l is = subst (λ (u : Work). Ran first (n + 1) u) (sym is) (Ran.more n w word r b l)

pub loop-made-init : goal.loop-made-init
loop-made-init g c = record { busy = c.requires.busy; kept = c.requires.kept; ran = Ran.none; stands = c.requires.stands }

pub load-word-requires : goal.load-word-requires
load-word-requires g c = (c.loop-made.made, record { machine = c.loop-made.self; counts = c.loop-made.counts }, c.loop-made.invariant.stands, c.place.ensures)

pub took-requires-clause-in_range : goal.took-requires-clause-in_range
took-requires-clause-in_range g c = (c.load-word.ensures c.loop-made.made (record { machine = c.loop-made.self; counts = c.loop-made.counts }) c.loop-made.invariant.stands c.place.ensures).0

pub loop-made-preserved : goal.loop-made-preserved
loop-made-preserved g c =
    let w : Work = record { machine = c.loop-made.self; counts = c.loop-made.counts } in
    let v : Work = record { machine = c.took.new.self; counts = c.took.new.counts } in
    let given = c.load-word.ensures c.loop-made.made w c.loop-made.invariant.stands c.place.ensures in
    record {
      busy = search rules;
      kept = c.took.ensures.kept;
      ran = ran_more (record { machine = c.args.self.now; counts = c.args.counts.now }) w v c.loop-made.made c.load-word.result c.loop-made.invariant.ran c.loop-made.invariant.busy given.0 c.took.ensures.took;
      stands = subst (λ (u : Work). g.L.Loads.StandsAt c.args.board.now c.load-word.new.seat (c.loop-made.made + 1) u) (sym c.took.ensures.took) given.1;
    }

pub returns-then-not-is_busy-clause-ran : goal.returns-then-not-is_busy-clause-ran
returns-then-not-is_busy-clause-ran g c =
    let w : Work = record { machine = c.loop-made.self; counts = c.loop-made.counts } in
    let v : Work = record { machine = c.took.new.self; counts = c.took.new.counts } in
    let given = c.load-word.ensures c.loop-made.made w c.loop-made.invariant.stands c.place.ensures in
    ran_more (record { machine = c.args.self.now; counts = c.args.counts.now }) w v c.loop-made.made c.load-word.result c.loop-made.invariant.ran c.loop-made.invariant.busy given.0 c.took.ensures.took

pub returns-then-not-is_busy-clause-stands : goal.returns-then-not-is_busy-clause-stands
returns-then-not-is_busy-clause-stands g c =
    let w : Work = record { machine = c.loop-made.self; counts = c.loop-made.counts } in
    let given = c.load-word.ensures c.loop-made.made w c.loop-made.invariant.stands c.place.ensures in
    subst (λ (u : Work). g.L.Loads.StandsAt c.args.board.now c.load-word.new.seat (c.loop-made.made + 1) u) (sym c.took.ensures.took) given.1
