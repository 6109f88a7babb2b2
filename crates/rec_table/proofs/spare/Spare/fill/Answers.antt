-- The contract of `Spare::fill`: takes all off the table, and puts a world together from it.
use Rattle.std.proofs.Common.{◌≡◌, ℕ, ◌+◌, ◌%◌, ◌^◌, [], slice_index_or, All, List, refl, sym, ap, ◌∙◌, subst, length, map, ◌≤◌, vec_capacity}
use Rattle.std.specs.List.{sum_by}
use Rattle.rec_table.proofs.Common.{Private, Core, after_moves, births_told, gathered_all, CollectorView, MutatorView, Started, collector_now, started, boxes_out, Beat}
use Rattle.rec_collector.specs.Private as collectors
use Rattle.rec_core.specs.Worked.{AreIdle}
use Rattle.rec_world.specs.Parts.{AreParts}
use Rattle.rec_world.specs.declared.parts.Parts.{Parts}
use Rattle.rec_table.specs.Ends.{IsRunOf}
use Rattle.rec_table.proofs.Stopping.{InHand, all_idle, boxes_even, made_right, parts_right}
use Rattle.std.proofs.lemmas.List.{length-map}
use Rattle.rec_table.proofs.spare.Spare.fill.Goals as goal
use Rattle.rec_table.proofs.spare.Spare.fill.Goals.{After-close-collector}

abbrev heap : (c : After-close-collector) → Started
heap c = started c.args.board.table.shared.table_id c.args.board.table.shared.key.value

abbrev after : (c : After-close-collector) → CollectorView
after c = c.take_in_all-made.new.collector

in_hand : (c : After-close-collector) → InHand (heap c) (after c).collecting c.args.mutators.items c.take_in_all-made.new.machines.items c.close-collector.result
in_hand c =
    let e = c.take_in_all-made.ensures in
    let own = c.requires.collector in
    let same : collector_now (after c) ≡ collector_now c.args.collector = ap collector_now e.collector in
    let opened : c.args.collector.opened ≡ (heap c).world.collector = own.0.1 in
    record {
      world = c.requires.world;
      mutators = c.requires.mutators;
      known = ap (λ (g : CollectorView). g.collecting.known) e.collector;
      machines = e.machines;
      idle = e.idle;
      collector = c.close-collector.ensures.machine ∙ same ∙ ap (λ (p : collectors.Private). gathered_all p c.args.collector.collecting.log) opened ∙ ap (λ (g : CollectorView). gathered_all (heap c).world.collector g.collecting.log) (sym e.collector);
      none = ap boxes_out (c.close-collector.ensures.machine ∙ same) ∙ c.requires.none;
    }

abbrev run : (c : After-close-collector) → IsRunOf (heap c).world (after c).collecting c.close-collector.new.words.items c.close-collector.new.boxes.items
run c = c.close-collector.ensures.run

abbrev end : (c : After-close-collector) → Core
end c = after_moves (heap c).world (run c).run

abbrev parts : (c : After-close-collector) → Parts
parts c =
    record {
      config = c.args.self.config;
      row = c.close-collector.new.words;
      boxes = c.close-collector.new.boxes;
      machines = c.take_in_all-made.new.machines;
      collector = c.close-collector.result;
      made = c.take_in_all-made.result;
      free = c.args.self.free;
    }

right : (c : After-close-collector) → AreParts (end c) (parts c)
right c =
    let s = heap c in
    let collecting = (after c).collecting in
    let hs : List MutatorView = c.args.mutators.items in
    let ms : List Private = c.take_in_all-made.new.machines.items in
    let ws : List ℕ = c.close-collector.new.words.items in
    let xs = c.close-collector.new.boxes.items in
    let made = made_right s collecting hs ms c.close-collector.result ws xs (run c) (in_hand c) c.take_in_all-made.result (c.take_in_all-made.ensures.made ∙ ap (λ (n : ℕ). (n + sum_by (λ (m : MutatorView). births_told m.opened m.log) hs) % 2 ^ 64) c.requires.room.made) in
    parts_right s collecting hs ms c.close-collector.result ws xs (run c) (in_hand c) (parts c) c.requires.room.config refl refl refl refl made

pub of_parts-requires : goal.of_parts-requires
of_parts-requires c = (end c, ((run c).world, right c))

pub returns-clause-run : goal.returns-clause-run
returns-clause-run c =
    let a : After-close-collector = (goal.at.returns-clause-run c).After-close-collector in
    let r = run a in
    let is : c.of_parts.result ≡ end a = c.of_parts.ensures.made (end a) r.world (right a) in
    record {
      run = r.run;
      fit = r.fit;
      offerless = r.offerless;
      ends = sym is;
      collector = ap (λ (g : CollectorView). g.collecting.log) (sym c.take_in_all-made.ensures.collector) ∙ r.mine;
      mutators = λ k lt. ap (λ (l : List (List Beat)). slice_index_or l k []) (sym (in_hand a).known) ∙ r.theirs k;
    }

pub returns-clause-collector : goal.returns-clause-collector
returns-clause-collector c =
    let a : After-close-collector = (goal.at.returns-clause-collector c).After-close-collector in
    let is : c.of_parts.result ≡ end a = c.of_parts.ensures.made (end a) (run a).world (right a) in
    ap (λ (w : Core). w.collector) is ∙ (run a).collector ∙ ap (λ (g : CollectorView). gathered_all (heap a).world.collector g.collecting.log) c.take_in_all-made.ensures.collector
    ∙ ap (λ (p : collectors.Private). gathered_all p c.args.collector.collecting.log) (sym c.requires.collector.0.1)

pub returns-clause-idle : goal.returns-clause-idle
returns-clause-idle c =
    let a : After-close-collector = (goal.at.returns-clause-idle c).After-close-collector in
    let is : c.of_parts.result ≡ end a = c.of_parts.ensures.made (end a) (run a).world (right a) in
    subst AreIdle (sym is) (all_idle (heap a) (after a).collecting c.args.mutators.items c.take_in_all-made.new.machines.items c.close-collector.result c.close-collector.new.words.items c.close-collector.new.boxes.items (run a) (in_hand a))

pub returns-clause-home : goal.returns-clause-home
returns-clause-home c =
    let a : After-close-collector = (goal.at.returns-clause-home c).After-close-collector in
    let is : c.of_parts.result ≡ end a = c.of_parts.ensures.made (end a) (run a).world (right a) in
    subst (λ (w : Core). All (λ word. word % 2 ≡ 0) w.crossing) (sym is) (boxes_even (heap a) (after a).collecting c.args.mutators.items c.take_in_all-made.new.machines.items c.close-collector.result c.close-collector.new.words.items c.close-collector.new.boxes.items (run a) (in_hand a))

pub take_in_all-made-requires-clause-own : goal.take_in_all-made-requires-clause-own
take_in_all-made-requires-clause-own c = c.requires.collector.0

pub take_in_all-made-requires-clause-mutators : goal.take_in_all-made-requires-clause-mutators
take_in_all-made-requires-clause-mutators c = c.requires.mutators

pub take_in_all-made-requires-clause-none : goal.take_in_all-made-requires-clause-none
take_in_all-made-requires-clause-none c = c.requires.collector.2

pub take_in_all-made-requires-clause-room : goal.take_in_all-made-requires-clause-room
take_in_all-made-requires-clause-room c = (c.requires.room.machines, subst (λ (n : ℕ). n ≤ vec_capacity c.args.self.machines) (sym c.requires.mutators.all) c.requires.room.mutators)

pub close-collector-requires-clause-own : goal.close-collector-requires-clause-own
close-collector-requires-clause-own c =
    let e = c.take_in_all-made.ensures.collector in
    (ap (λ (g : CollectorView). g.table) e ∙ c.requires.collector.0.0, ap (λ (g : CollectorView). g.opened) e ∙ c.requires.collector.0.1)

pub close-collector-requires-clause-seats : goal.close-collector-requires-clause-seats
close-collector-requires-clause-seats c =
    let e = c.take_in_all-made.ensures.collector in
    let logs : List (List Beat) = map (λ (m : MutatorView). m.log) c.args.mutators.items in
    let known : c.take_in_all-made.new.collector.collecting.known ≡ logs = ap (λ (g : CollectorView). g.collecting.known) e in
    (ap (λ (g : CollectorView). g.collecting.made) e ∙ c.requires.collector.1, ap length known ∙ length-map c.args.mutators.items (λ (m : MutatorView). m.log) ∙ c.requires.mutators.all)

pub close-collector-requires-clause-none : goal.close-collector-requires-clause-none
close-collector-requires-clause-none c = ap (λ (g : CollectorView). boxes_out (collector_now g)) c.take_in_all-made.ensures.collector ∙ c.requires.none

pub close-collector-requires-clause-room : goal.close-collector-requires-clause-room
close-collector-requires-clause-room c = (c.requires.room.row, c.requires.room.words)

pub close-collector-requires-clause-room_boxes : goal.close-collector-requires-clause-room_boxes
close-collector-requires-clause-room_boxes c = (c.requires.room.boxes, c.requires.room.slots)

pub returns-clause-kept : goal.returns-clause-kept
returns-clause-kept c = c.of_parts.ensures.kept
