-- The contract of `Sweep::run_on`: frees headers.
use Rattle.std.proofs.Common.{◌≡◌, ℕ, ◌+◌, IsSome, sym, subst, rules}
use Rattle.rec_release.specs.Sweep.{Work, next_of, took_of}
use Rattle.rec_release.specs.Ran.{RanSweep}
use Rattle.rec_release.proofs.sweep.Sweep.run_on.Goals as goal

-- one header more
swept_more : (first w v : Work) (n word : ℕ) → RanSweep first n w → IsSome (next_of w.due) → v ≡ took_of w word → RanSweep first (n + 1) v
swept_more first w v n word r b is = subst (λ (u : Work). RanSweep first (n + 1) u) (sym is) (RanSweep.more n w word r b)

pub loop-made-init : goal.loop-made-init
loop-made-init g c = record { busy = c.requires.busy; kept = c.requires.kept; ran = RanSweep.none; stands = c.requires.stands }

pub free-word-requires : goal.free-word-requires
free-word-requires g c = (c.loop-made.made, record { due = c.loop-made.self; counts = c.loop-made.counts }, c.loop-made.invariant.stands, c.slot.ensures)

pub loop-made-preserved : goal.loop-made-preserved
loop-made-preserved g c =
    let w : Work = record { due = c.loop-made.self; counts = c.loop-made.counts } in
    let v : Work = record { due = c.took.new.self; counts = c.took.new.counts } in
    record {
      busy = search rules;
      kept = c.took.ensures.kept;
      ran = swept_more (record { due = c.args.self.now; counts = c.args.counts.now }) w v c.loop-made.made c.free-word.result c.loop-made.invariant.ran c.loop-made.invariant.busy c.took.ensures.took;
      stands = subst (λ (u : Work). g.F.Frees.StandsAt c.args.board.now c.free-word.new.seat (c.loop-made.made + 1) u) (sym c.took.ensures.took) (c.free-word.ensures c.loop-made.made w c.loop-made.invariant.stands c.slot.ensures);
    }

pub returns-then-not-is_busy-clause-ran : goal.returns-then-not-is_busy-clause-ran
returns-then-not-is_busy-clause-ran g c =
    let w : Work = record { due = c.loop-made.self; counts = c.loop-made.counts } in
    let v : Work = record { due = c.took.new.self; counts = c.took.new.counts } in
    swept_more (record { due = c.args.self.now; counts = c.args.counts.now }) w v c.loop-made.made c.free-word.result c.loop-made.invariant.ran c.loop-made.invariant.busy c.took.ensures.took

pub returns-then-not-is_busy-clause-stands : goal.returns-then-not-is_busy-clause-stands
returns-then-not-is_busy-clause-stands g c =
    let w : Work = record { due = c.loop-made.self; counts = c.loop-made.counts } in
    subst (λ (u : Work). g.F.Frees.StandsAt c.args.board.now c.free-word.new.seat (c.loop-made.made + 1) u) (sym c.took.ensures.took) (c.free-word.ensures c.loop-made.made w c.loop-made.invariant.stands c.slot.ensures)
