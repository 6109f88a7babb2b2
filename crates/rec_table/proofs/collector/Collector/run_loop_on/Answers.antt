-- The contract of `Collector::run_loop_on`: makes turns of a kind with a loop.
use Rattle.std.proofs.Common.{◌≡◌, ℕ, ◌+◌, ◌≤◌, ap, sym, subst, ◌∙◌, arith}
use Rattle.rec_collector.specs.declared.turn.Turn.{Turn}
use Rattle.rec_table.proofs.Common.{Core, CollectorSeat, CollectorView, collecting_of, collector_view}
use Rattle.rec_table.specs.Telling.{freed_labels}
use Rattle.rec_table.specs.TurnRuns.{Made}
use Rattle.rec_table.specs.Turn.{MakesSome}
use Rattle.rec_table.proofs.TurnRuns.{made_ended, made_some}
use Rattle.rec_table.proofs.collector.Collector.run_loop_on.Goals as goal
use Rattle.rec_table.proofs.collector.Collector.run_loop_on.Goals.{in-Moved, in_default}

pub returns-clause-made : goal.returns-clause-made
returns-clause-made c = λ first before.
    let key : Core = c.args.board.now.table.shared.key.value in
    let z = c.args.board.now.table.shared.table_id in
    let s = c.self.inside in
    let opened : s.opened.value ≡ key.collector = ap (λ (g : CollectorView). g.opened) c.self.view_is ∙ c.requires.own.1 in
    let table : s.seat.table_id ≡ z = ap (λ (g : CollectorView). g.table) c.self.view_is ∙ c.requires.own.0 in
    let run = c.run_turns-made in
    let from : CollectorSeat = collecting_of s.seat.me.0 in
    let to : CollectorSeat = collecting_of run.new.seat.me.0 in
    let after : CollectorView = collector_view run.new.seat.table_id s.opened.value to in
    let u_is : collector_view z key.collector from ≡ c.args.self.now = (λ k. collector_view (sym table k) (sym opened k) from) ∙ c.self.view_is in
    let v_is : collector_view z key.collector to ≡ after = λ k. collector_view (sym run.ensures.seat.table k) (sym opened k) to in
    let made : Made c.args.self.now after run.result.0 run.result.1 =
    subst (λ (x : CollectorView). Made x after run.result.0 run.result.1) u_is (subst (λ (x : CollectorView). Made (collector_view z key.collector from) x run.result.0 run.result.1) v_is run.ensures.made) in
    let few : c.args.from + run.result.0 ≤ c.args.most = omega (arith, run.ensures.few, c.requires.fewer) in
    elim c.match-turn.branch [
      | in-Moved w ↦ subst (λ (r : ℕ × Turn). MakesSome first after r.0 c.args.most r.1) (sym w.result-is) (made_some first c.args.self.now after c.args.from run.result.0 c.args.most run.result.1 before made w.in-Moved.is few)
      | in_default w ↦ subst (λ (r : ℕ × Turn). MakesSome first after r.0 c.args.most r.1) (sym w.result-is) (made_ended first c.args.self.now after c.args.from run.result.0 c.args.most run.result.1 before made w.in_default.not-Moved few)
    ]

pub returns-clause-unfreed : goal.returns-clause-unfreed
returns-clause-unfreed c = λ other.
    let key : Core = c.args.board.now.table.shared.key.value in
    let z = c.args.board.now.table.shared.table_id in
    let s = c.self.inside in
    let opened : s.opened.value ≡ key.collector = ap (λ (g : CollectorView). g.opened) c.self.view_is ∙ c.requires.own.1 in
    let table : s.seat.table_id ≡ z = ap (λ (g : CollectorView). g.table) c.self.view_is ∙ c.requires.own.0 in
    let run = c.run_turns-made in
    let from : CollectorSeat = collecting_of s.seat.me.0 in
    let to : CollectorSeat = collecting_of run.new.seat.me.0 in
    let u_is : collector_view z key.collector from ≡ c.args.self.now = (λ k. collector_view (sym table k) (sym opened k) from) ∙ c.self.view_is in
    let v_is : collector_view z key.collector to ≡ collector_view run.new.seat.table_id s.opened.value to = λ k. collector_view (sym run.ensures.seat.table k) (sym opened k) to in
    ap freed_labels (sym v_is) ∙ run.ensures.unfreed other ∙ ap freed_labels u_is
