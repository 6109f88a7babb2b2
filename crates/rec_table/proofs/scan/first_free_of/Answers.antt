-- The contract of `first_free_of`: the same of a few slots.
use Rattle.std.proofs.Common.{◌≡◌, ◌+◌, ◌-◌, ◌<◌, ℕ, arith, sym, subst, ◌∙◌}
use mathlib.Core.Option.{none}
use Rattle.atomic_table.specs.Table.{step}
use Rattle.rec_table.proofs.Common.{seated_of, Passed, probe_of, mutator, told}
use Rattle.rec_table.proofs.Scanning.{allows_pass, comes_to, passed_one, passed_none}
use Rattle.rec_table.proofs.scan.first_free_of.Goals as goal

pub load-requires : goal.load-requires
load-requires c =
    let i = c.loop-index.invariant in
    let wide = c.args.board.now.wide in
    let key = c.args.board.now.table.shared.key.value in
    let t = seated_of c.args.seat.now.me.0 in
    let count : ℕ = c.args.probed + c.loop-index.index in
    let lt : count < c.args.board.now.layout.slots = omega (arith, c.loop-index-test.true, c.requires.probes) in
    let on : c.args.slot + (count - c.args.probed) ≡ c.args.slot + c.loop-index.index = omega arith in
    let near : c.args.slot + (count - c.args.probed) < c.args.board.now.layout.slots = omega (arith, c.loop-index-test.true, c.requires.slots) in
    let comes : c.args.slot + c.loop-index.index ≡ probe_of (told (mutator key t.number) t.log) count = sym on ∙ comes_to key count c.args.probed c.args.slot c.args.board.now.layout.slots t c.loop-index.seat.me i.passed c.requires.scan lt near in (
      i.table ∙ c.requires.table,
      omega (arith, wide.0, wide.1, wide.2, near),
      allows_pass key count c.args.probed c.args.slot c.args.board.now.layout.slots t c.loop-index.seat.me i.passed c.requires.scan lt _ _ _
          (step c.args.board.now.table.shared.table_id.slots (c.args.board.now.layout.places + c.args.slot + c.loop-index.index) 0 0 none) (omega (arith, wide.0, comes)),
    )

pub loop-index-preserved : goal.loop-index-preserved
loop-index-preserved c =
    let i = c.loop-index.invariant in
    let next : c.args.probed + c.loop-index.index + 1 ≡ c.args.probed + (c.loop-index.index + 1) = omega arith in
    record {
      table = c.load.ensures.0 ∙ i.table;
      id = c.load.ensures.1 ∙ i.id;
      passed = subst (λ (n : ℕ). Passed (seated_of c.args.seat.now.me.0) c.args.probed n c.load.new.seat.me) next
          (passed_one (seated_of c.args.seat.now.me.0) c.args.probed (c.args.probed + c.loop-index.index) c.load.result c.loop-index.seat.me c.load.new.seat.me i.passed c.if-load-eq0.false (c.load.ensures.2.0 c.if-load-eq0.false));
      few = omega (arith, c.loop-index-test.true);
    }

pub overflow_add-first_header : goal.overflow_add-first_header
overflow_add-first_header c = let wide = c.args.board.now.wide in omega (arith, wide.0, wide.1, wide.2, wide.3, c.requires.slots)

pub loop-index-init : goal.loop-index-init
loop-index-init c = record { table = λ i. c.args.seat.now.table_id; id = λ i. c.args.seat.now.id; passed = passed_none c.args.probed c.args.seat.now.me c.requires.seat; few = omega arith }

pub overflow_add-first_header-in-loop-index : goal.overflow_add-first_header-in-loop-index
overflow_add-first_header-in-loop-index c = let wide = c.args.board.now.wide in omega (arith, wide.0, wide.1, wide.2, wide.3, c.requires.slots, c.loop-index-test.true)

pub returns-then-load-eq0-clause-seat : goal.returns-then-load-eq0-clause-seat
returns-then-load-eq0-clause-seat c = (c.load.ensures.0 ∙ c.loop-index.invariant.table, c.load.ensures.1 ∙ c.loop-index.invariant.id)

pub returns-then-load-eq0-clause-passed : goal.returns-then-load-eq0-clause-passed
returns-then-load-eq0-clause-passed c = subst (Passed (seated_of c.args.seat.now.me.0) c.args.probed (c.args.probed + c.loop-index.index)) (sym (c.load.ensures.2.1 c.if-load-eq0.true)) c.loop-index.invariant.passed

pub returns-then-load-eq0-clause-few : goal.returns-then-load-eq0-clause-few
returns-then-load-eq0-clause-few c = c.loop-index.invariant.few

pub returns-clause-seat : goal.returns-clause-seat
returns-clause-seat c = (c.loop-index.invariant.table, c.loop-index.invariant.id)

pub returns-clause-passed : goal.returns-clause-passed
returns-clause-passed c =
    let few = c.loop-index.invariant.few in
    let all : c.loop-index.index ≡ c.args.many = omega (arith, few, c.loop-index-test.false) in
    subst (λ (n : ℕ). Passed (seated_of c.args.seat.now.me.0) c.args.probed (c.args.probed + n) c.loop-index.seat.me) all c.loop-index.invariant.passed

pub returns-clause-few : goal.returns-clause-few
returns-clause-few c = omega arith
