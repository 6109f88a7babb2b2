-- The contract of `run_turns`: makes turns of one kind.
use Rattle.std.proofs.Common.{sym, ap, subst, ◌∙◌, arith, refl}
use Rattle.rec_collector.specs.Kind.{HasLoop}
use Rattle.rec_collector.specs.Private.{Private}
use Rattle.rec_collector.specs.declared.kind.Kind.{Kind}
use Rattle.rec_collector.specs.declared.turn.Turn.TheVariants as turns
use Rattle.rec_table.proofs.Common.{Core, CollectorSeat, Collects, collecting_of, collector_view}
use Rattle.rec_table.specs.TurnRuns.{FreesBySweeps, Made}
use Rattle.rec_table.proofs.TurnRuns.{kinds_loop, loops_out}
use Rattle.rec_table.proofs.runs.run_turns.Goals as goal

pub run_as-requires-clause-stands : goal.run_as-requires-clause-stands
run_as-requires-clause-stands g c =
    let key : Core = c.args.board.now.table.shared.key.value in
    let z = c.args.board.now.table.shared.table_id in
    let seat : CollectorSeat = collecting_of c.args.seat.now.me.0 in
    let p : Private = c.args.machine.now in
    let none = loops_out p p.phase (kinds_loop p.phase (subst (λ (k : Kind). HasLoop k) c.requires.kind c.requires.looped)) in
    record {
      world = c.requires.world;
      table = c.requires.seat.table;
      me = c.requires.seat.me ∙ (λ k. (Collects seat, sym none k));
      same = ap (λ (x : CollectorSeat). record x { log = seat.log }) (sym c.requires.start);
      is = c.requires.seat.is;
      kept = c.rules.ensures;
      sizes = c.requires.seat.sizes;
      between = c.requires.seat.between;
      made = subst (λ (x : CollectorSeat). Made (collector_view z key.collector x) (collector_view z key.collector seat) 0 turns.Moved) (sym c.requires.start) Made.none;
      frees = subst (λ (x : CollectorSeat). FreesBySweeps (collector_view z key.collector x) (collector_view z key.collector seat)) (sym c.requires.start)
          (record { grows = omega arith; none = λ same. refl });
    }

pub returns : goal.returns
returns g c =
    let key : Core = c.args.board.now.table.shared.key.value in
    let z = c.args.board.now.table.shared.table_id in
    let s = c.run_as.ensures.stands in
    let after : CollectorSeat = collecting_of c.run_as.new.seat.me.0 in
    record {
      seat = record { table = s.table; me = s.me; is = s.is; sizes = s.sizes; between = s.between };
      same = s.same ∙ ap (λ (x : CollectorSeat). record x { log = after.log }) c.requires.start;
      made = subst (λ (x : CollectorSeat). Made (collector_view z key.collector x) (collector_view z key.collector after) c.run_as.result.0 c.run_as.result.1) c.requires.start s.made;
      unfreed = λ other.
          let frees = subst (λ (x : CollectorSeat). FreesBySweeps (collector_view z key.collector x) (collector_view z key.collector after)) c.requires.start s.frees in
          frees.none (ap (λ (x : Private). x.freed) (sym s.is) ∙ c.run_as.ensures.unfreed other ∙ ap (λ (x : Private). x.freed) c.requires.seat.is);
      some = c.run_as.ensures.some;
      few = c.run_as.ensures.few;
    }
