-- The contract of `first_free_of_run`: the same within one run of slots.
use Rattle.std.proofs.Common.{◌≡◌, ◌+◌, ◌-◌, ◌<◌, ℕ, arith, sym, subst, ◌∙◌, []}
use Rattle.rec_table.proofs.Common.{seated_of, Passed, Mutates}
use Rattle.rec_table.proofs.Scanning.{comes_to, passed_both, scans_on, passed_none}
use Rattle.rec_table.proofs.scan.first_free_of_run.Goals as goal

pub loop-done-preserved : goal.loop-done-preserved
loop-done-preserved c =
    let i = c.loop-done.invariant in
    let e = c.first_free_of-count.ensures in
    let few = e.few in
    let all : c.args.probed + c.loop-done.done + c.first_free_of-count.result ≡ c.args.probed + (c.loop-done.done + 16) = omega (arith, few, c.if-count-lt-STRIDE.false) in
    record {
      table = e.seat.0 ∙ i.table;
      id = e.seat.1 ∙ i.id;
      passed = subst (λ (n : ℕ). Passed (seated_of c.args.seat.now.me.0) c.args.probed n c.first_free_of-count.new.seat.me) all
          (passed_both (seated_of c.args.seat.now.me.0) c.args.probed (c.args.probed + c.loop-done.done) (c.args.probed + c.loop-done.done + c.first_free_of-count.result) c.loop-done.seat.me c.first_free_of-count.new.seat.me i.passed e.passed);
      few = omega (arith, c.loop-done-test.true);
    }

-- so many slots further on
pub first_free_of-count-requires-clause-scan : goal.first_free_of-count-requires-clause-scan
first_free_of-count-requires-clause-scan c =
    let i = c.loop-done.invariant in
    let key = c.args.board.now.table.shared.key.value in
    let t = seated_of c.args.seat.now.me.0 in
    let count : ℕ = c.args.probed + c.loop-done.done in
    let lt : count < c.args.board.now.layout.slots = omega (arith, i.few, c.requires.probes) in
    let on : c.args.slot + (count - c.args.probed) ≡ c.args.slot + c.loop-done.done = omega arith in
    let near : c.args.slot + (count - c.args.probed) < c.args.board.now.layout.slots = omega (arith, i.few, c.requires.slots) in
    scans_on key count c.args.probed c.args.slot c.args.board.now.layout.slots t c.loop-done.seat.me i.passed c.requires.scan lt (c.args.slot + c.loop-done.done)
    (sym on ∙ comes_to key count c.args.probed c.args.slot c.args.board.now.layout.slots t c.loop-done.seat.me i.passed c.requires.scan lt near)

pub first_free_of-requires-clause-scan : goal.first_free_of-requires-clause-scan
first_free_of-requires-clause-scan c =
    let i = c.loop-done.invariant in
    let key = c.args.board.now.table.shared.key.value in
    let t = seated_of c.args.seat.now.me.0 in
    let count : ℕ = c.args.probed + c.loop-done.done in
    let lt : count < c.args.board.now.layout.slots = omega (arith, i.few, c.requires.probes) in
    let on : c.args.slot + (count - c.args.probed) ≡ c.args.slot + c.loop-done.done = omega arith in
    let near : c.args.slot + (count - c.args.probed) < c.args.board.now.layout.slots = omega (arith, i.few, c.requires.slots) in
    scans_on key count c.args.probed c.args.slot c.args.board.now.layout.slots t c.loop-done.seat.me i.passed c.requires.scan lt (c.args.slot + c.loop-done.done)
    (sym on ∙ comes_to key count c.args.probed c.args.slot c.args.board.now.layout.slots t c.loop-done.seat.me i.passed c.requires.scan lt near)

pub returns-then-count-lt-STRIDE-clause-passed : goal.returns-then-count-lt-STRIDE-clause-passed
returns-then-count-lt-STRIDE-clause-passed c =
    let t = seated_of c.args.seat.now.me.0 in
    let both : c.args.probed + c.loop-done.done + c.first_free_of-count.result ≡ c.args.probed + (c.loop-done.done + c.first_free_of-count.result) = omega arith in
    subst (λ (n : ℕ). Passed t c.args.probed n c.first_free_of-count.new.seat.me) both
    (passed_both t c.args.probed (c.args.probed + c.loop-done.done) (c.args.probed + c.loop-done.done + c.first_free_of-count.result) c.loop-done.seat.me c.first_free_of-count.new.seat.me c.loop-done.invariant.passed c.first_free_of-count.ensures.passed)

pub returns-clause-passed : goal.returns-clause-passed
returns-clause-passed c =
    let t = seated_of c.args.seat.now.me.0 in
    let both : c.args.probed + c.loop-done.done + c.first_free_of.result ≡ c.args.probed + (c.loop-done.done + c.first_free_of.result) = omega arith in
    subst (λ (n : ℕ). Passed t c.args.probed n c.first_free_of.new.seat.me) both
    (passed_both t c.args.probed (c.args.probed + c.loop-done.done) (c.args.probed + c.loop-done.done + c.first_free_of.result) c.loop-done.seat.me c.first_free_of.new.seat.me c.loop-done.invariant.passed c.first_free_of.ensures.passed)

pub loop-done-init : goal.loop-done-init
loop-done-init c = record { table = λ i. c.args.seat.now.table_id; id = λ i. c.args.seat.now.id; passed = passed_none c.args.probed c.args.seat.now.me c.requires.seat; few = c.requires.some }

pub overflow_add-done : goal.overflow_add-done
overflow_add-done c = let few = c.loop-done.invariant.few in let wide = c.args.board.now.wide in omega (arith, few, c.requires.slots, wide.2, wide.3)

pub overflow_add-probed : goal.overflow_add-probed
overflow_add-probed c = omega (arith, c.loop-done-test.true, c.requires.probes, c.args.board.now.wide.2, c.args.board.now.wide.3)

pub overflow_add-slot : goal.overflow_add-slot
overflow_add-slot c = omega (arith, c.loop-done-test.true, c.requires.slots, c.args.board.now.wide.2, c.args.board.now.wide.3)

pub first_free_of-count-requires-clause-table : goal.first_free_of-count-requires-clause-table
first_free_of-count-requires-clause-table c = c.loop-done.invariant.table ∙ c.requires.table

pub first_free_of-count-requires-clause-seat : goal.first_free_of-count-requires-clause-seat
first_free_of-count-requires-clause-seat c = let g = c.loop-done.invariant.passed.grows in g ∙ (λ j. (Mutates (seated_of (sym g j).0), []))

pub first_free_of-count-requires-clause-slots : goal.first_free_of-count-requires-clause-slots
first_free_of-count-requires-clause-slots c = omega (arith, c.loop-done-test.true, c.requires.slots)

pub first_free_of-count-requires-clause-probes : goal.first_free_of-count-requires-clause-probes
first_free_of-count-requires-clause-probes c = omega (arith, c.loop-done-test.true, c.requires.probes)

pub overflow_add-result : goal.overflow_add-result
overflow_add-result c = let few = c.first_free_of-count.ensures.few in omega (arith, few, c.loop-done-test.true, c.ranges.many.fits)

pub returns-then-count-lt-STRIDE-clause-seat : goal.returns-then-count-lt-STRIDE-clause-seat
returns-then-count-lt-STRIDE-clause-seat c = (c.first_free_of-count.ensures.seat.0 ∙ c.loop-done.invariant.table, c.first_free_of-count.ensures.seat.1 ∙ c.loop-done.invariant.id)

pub returns-then-count-lt-STRIDE-clause-few : goal.returns-then-count-lt-STRIDE-clause-few
returns-then-count-lt-STRIDE-clause-few c = let few = c.first_free_of-count.ensures.few in omega (arith, few, c.loop-done-test.true)

pub overflow_add-done-in-loop-done : goal.overflow_add-done-in-loop-done
overflow_add-done-in-loop-done c = omega (arith, c.loop-done-test.true, c.ranges.many.fits)

pub loop-done-smaller : goal.loop-done-smaller
loop-done-smaller c = omega (arith, c.loop-done-test.true)

pub overflow_add-probed-2 : goal.overflow_add-probed-2
overflow_add-probed-2 c = let few = c.loop-done.invariant.few in omega (arith, few, c.requires.probes, c.args.board.now.wide.2, c.args.board.now.wide.3)

pub overflow_add-slot-2 : goal.overflow_add-slot-2
overflow_add-slot-2 c = let few = c.loop-done.invariant.few in omega (arith, few, c.requires.slots, c.args.board.now.wide.2, c.args.board.now.wide.3)

pub overflow_sub-many : goal.overflow_sub-many
overflow_sub-many c = let few = c.loop-done.invariant.few in omega (arith, few)

pub first_free_of-requires-clause-table : goal.first_free_of-requires-clause-table
first_free_of-requires-clause-table c = c.loop-done.invariant.table ∙ c.requires.table

pub first_free_of-requires-clause-seat : goal.first_free_of-requires-clause-seat
first_free_of-requires-clause-seat c = let g = c.loop-done.invariant.passed.grows in g ∙ (λ j. (Mutates (seated_of (sym g j).0), []))

pub first_free_of-requires-clause-slots : goal.first_free_of-requires-clause-slots
first_free_of-requires-clause-slots c = let few = c.loop-done.invariant.few in omega (arith, few, c.requires.slots)

pub first_free_of-requires-clause-probes : goal.first_free_of-requires-clause-probes
first_free_of-requires-clause-probes c = let few = c.loop-done.invariant.few in omega (arith, few, c.requires.probes)

pub overflow_add-result-2 : goal.overflow_add-result-2
overflow_add-result-2 c = let few = c.loop-done.invariant.few in let part = c.first_free_of.ensures.few in omega (arith, few, part, c.ranges.many.fits)

pub returns-clause-seat : goal.returns-clause-seat
returns-clause-seat c = (c.first_free_of.ensures.seat.0 ∙ c.loop-done.invariant.table, c.first_free_of.ensures.seat.1 ∙ c.loop-done.invariant.id)

pub returns-clause-few : goal.returns-clause-few
returns-clause-few c = let few = c.loop-done.invariant.few in let part = c.first_free_of.ensures.few in omega (arith, few, part)
