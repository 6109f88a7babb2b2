-- The contract of `first_free`: passes taken headers until one is free, or the scan has gone round.
use Rattle.std.proofs.Common.{◌≡◌, ◌+◌, ◌-◌, ◌<◌, ℕ, arith, subst}
use Rattle.rec_table.proofs.Common.{seated_of, Passed}
use Rattle.rec_table.proofs.Scanning.{comes_round, passed_both, scans_on}
use Rattle.rec_table.proofs.scan.first_free.Goals as goal

-- the second run begins with the first slot
pub first_free_of_run-requires-2-clause-scan : goal.first_free_of_run-requires-2-clause-scan
first_free_of_run-requires-2-clause-scan c =
    let e = c.first_free_of_run-count.ensures in
    let few = e.few in
    let t = seated_of c.args.seat.now.me.0 in
    let key = c.args.board.now.table.shared.key.value in
    let slots : ℕ = c.args.board.now.layout.slots in
    let count : ℕ = c.args.probed + (slots - c.args.slot) in
    let all : c.first_free_of_run-count.result ≡ slots - c.args.slot = omega (arith, few, c.if-count-ahead.false) in
    let passed : Passed t c.args.probed count c.first_free_of_run-count.new.seat.me = subst (λ (n : ℕ). Passed t c.args.probed (c.args.probed + n) c.first_free_of_run-count.new.seat.me) all e.passed in
    let lt : count < slots = omega (arith, c.if-left-ahead.false, c.requires.slot) in
    scans_on key count c.args.probed c.args.slot slots t c.first_free_of_run-count.new.seat.me passed c.requires.scan lt 0
    (comes_round key count c.args.probed c.args.slot slots t c.first_free_of_run-count.new.seat.me passed c.requires.scan lt (omega (arith, c.requires.slot)))

pub returns-clause-passed : goal.returns-clause-passed
returns-clause-passed c =
    let e = c.first_free_of_run-count.ensures in
    let few = e.few in
    let t = seated_of c.args.seat.now.me.0 in
    let ahead : ℕ = c.args.board.now.layout.slots - c.args.slot in
    let all : c.first_free_of_run-count.result ≡ ahead = omega (arith, few, c.if-count-ahead.false) in
    let passed : Passed t c.args.probed (c.args.probed + ahead) c.first_free_of_run-count.new.seat.me = subst (λ (n : ℕ). Passed t c.args.probed (c.args.probed + n) c.first_free_of_run-count.new.seat.me) all e.passed in
    passed_both t c.args.probed (c.args.probed + ahead) (c.args.probed + ahead + c.first_free_of_run-2.result) c.first_free_of_run-count.new.seat.me c.first_free_of_run-2.new.seat.me passed c.first_free_of_run-2.ensures.passed
