-- The contract of `CycleFree::run_on`: clears fields and learns what came out.
use Rattle.std.proofs.Common.{◌≡◌, ℕ, ◌+◌, ◌<◌, IfSome, IsSome, sym, subst, rules}
use Rattle.rec_word.specs.Word.{target_of}
use Rattle.rec_counts.specs.Counts.{slot_at}
use Rattle.rec_release.specs.CycleFree.{Work, next_of, took_of}
use Rattle.rec_release.specs.Ran.{RanFreeing}
use Rattle.rec_release.proofs.cycle_free.CycleFree.run_on.Goals as goal

-- one field more
freed_more : (first w v : Work) (n word : ℕ) → RanFreeing first n w → IsSome (next_of w.machine) → IfSome (target_of word) (λ slot. 0 < (slot_at w.counts slot).count) → v ≡ took_of w word → RanFreeing first (n + 1) v
freed_more first w v n word r b l is = subst (λ (u : Work). RanFreeing first (n + 1) u) (sym is) (RanFreeing.more n w word r b l)

pub loop-made-init : goal.loop-made-init
loop-made-init g c = record { busy = c.requires.busy; kept = c.requires.kept; ran = RanFreeing.none; stands = c.requires.stands }

pub clear-word-requires : goal.clear-word-requires
clear-word-requires g c = (c.loop-made.made, record { machine = c.loop-made.self; counts = c.loop-made.counts }, c.loop-made.invariant.stands, c.place.ensures)

pub took-requires-clause-counted : goal.took-requires-clause-counted
took-requires-clause-counted g c = (c.clear-word.ensures c.loop-made.made (record { machine = c.loop-made.self; counts = c.loop-made.counts }) c.loop-made.invariant.stands c.place.ensures).0

pub loop-made-preserved : goal.loop-made-preserved
loop-made-preserved g c =
    let w : Work = record { machine = c.loop-made.self; counts = c.loop-made.counts } in
    let v : Work = record { machine = c.took.new.self; counts = c.took.new.counts } in
    let given = c.clear-word.ensures c.loop-made.made w c.loop-made.invariant.stands c.place.ensures in
    record {
      busy = search rules;
      kept = c.took.ensures.kept;
      ran = freed_more (record { machine = c.args.self.now; counts = c.args.counts.now }) w v c.loop-made.made c.clear-word.result c.loop-made.invariant.ran c.loop-made.invariant.busy given.0 c.took.ensures.took;
      stands = subst (λ (u : Work). g.C.Clears.StandsAt c.args.board.now c.clear-word.new.seat (c.loop-made.made + 1) u) (sym c.took.ensures.took) given.1;
    }

pub returns-then-not-is_busy-clause-ran : goal.returns-then-not-is_busy-clause-ran
returns-then-not-is_busy-clause-ran g c =
    let w : Work = record { machine = c.loop-made.self; counts = c.loop-made.counts } in
    let v : Work = record { machine = c.took.new.self; counts = c.took.new.counts } in
    let given = c.clear-word.ensures c.loop-made.made w c.loop-made.invariant.stands c.place.ensures in
    freed_more (record { machine = c.args.self.now; counts = c.args.counts.now }) w v c.loop-made.made c.clear-word.result c.loop-made.invariant.ran c.loop-made.invariant.busy given.0 c.took.ensures.took

pub returns-then-not-is_busy-clause-stands : goal.returns-then-not-is_busy-clause-stands
returns-then-not-is_busy-clause-stands g c =
    let w : Work = record { machine = c.loop-made.self; counts = c.loop-made.counts } in
    let given = c.clear-word.ensures c.loop-made.made w c.loop-made.invariant.stands c.place.ensures in
    subst (λ (u : Work). g.C.Clears.StandsAt c.args.board.now c.clear-word.new.seat (c.loop-made.made + 1) u) (sym c.took.ensures.took) given.1
