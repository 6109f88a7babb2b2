-- The contract of `run`: puts the parts of a world on a table, and makes the seats of its mutators.
use Rattle.std.proofs.Common.{◌≡◌, ℕ, [], length, map, sym, ap, ◌∙◌, subst, arith, ◌≤◌, vec_capacity, false}
use mathlib.Core.Option.{some}
use Rattle.rec_table.proofs.Common.{CollectorView, Core, IsKept, world_kept, boxes_out, IsWorld, fields_many}
use Rattle.rec_collector.specs.Private as collectors
use Rattle.rec_collector.specs.Step.{IsBetween}
use Rattle.rec_table.proofs.Closing.{none_out_where_even}
use Rattle.rec_table.proofs.Seats.{all_home}
use Rattle.rec_core.specs.Worked.{AreIdle}
use Rattle.rec_world.specs.Parts.{AreParts}
use Rattle.rec_table.proofs.heap.run.Goals as goal
use Rattle.rec_table.proofs.heap.run.Goals.{In-Err}

pub open-requires-clause-home : goal.open-requires-clause-home
open-requires-clause-home c =
    let w : Core = c.args.was.now.value in
    let kept : IsKept false w = world_kept w c.requires.world in
    let words_many = kept.mutators.words in
    let boxes_many = kept.mutators.mailboxes in
    ap (map some) c.requires.parts.boxes ∙ sym (all_home w.crossing w.boxes (omega (arith, words_many, boxes_many)) c.requires.home)

pub open-requires-clause-collector : goal.open-requires-clause-collector
open-requires-clause-collector c =
    let w : Core = c.args.was.now.value in
    let kept : IsKept false w = world_kept w c.requires.world in
    let own : c.args.parts.collector ≡ w.collector = c.requires.parts.collector in
    (own, ap boxes_out own ∙ none_out_where_even w kept c.requires.home, subst (λ (p : collectors.Private). IsBetween p.phase) (sym own) kept.collector.between)

-- what came back is what was taken apart
whole : (c : In-Err) → AreParts c.args.was.now.value (record c.args.parts { boxes = c.in-Err.boxes; collector = c.in-Err.collector })
whole c =
    let p = c.requires.parts in
    let e = c.in-Err.ensures.err in
    record {
      config = p.config;
      row = p.row;
      boxes = e.0 ∙ p.boxes;
      machines = p.machines;
      collector = e.1 ∙ p.collector;
      made = p.made;
    }

pub returns-in-Err-clause-refused : goal.returns-in-Err-clause-refused
returns-in-Err-clause-refused c = c.of_parts-world.ensures.made c.args.was.now.value c.requires.world (whole (goal.at.returns-in-Err-clause-refused c).In-Err)

pub returns-in-Ok : goal.returns-in-Ok
returns-in-Ok c =
    let is : c.in-Ok.board.table.shared.key.value ≡ c.args.was.now.value = ap (λ s. s.value) c.in-Ok.ensures.ok.0 in
    let kept : IsKept false c.args.was.now.value = world_kept c.args.was.now.value c.requires.world in
    let many : length c.args.parts.machines.items ≡ c.in-Ok.board.table.shared.key.value.config.mutators = ap length c.requires.parts.machines ∙ kept.mutators.many ∙ ap (λ (w : Core). w.config.mutators) (sym is) in
    let made : CollectorView → Core → ℕ → CollectorView = λ o w n. record { table = o.table; opened = w.collector; collecting = record { log = o.collecting.log; made = n; known = o.collecting.known } } in
    record {
      started = is;
      mutators = (c.seat_all-machines.ensures.all ∙ many, c.seat_all-machines.ensures.each);
      collector = c.seat_all-machines.ensures.collector
          ∙ ap (λ (o : CollectorView). record { table = o.table; opened = o.opened; collecting = record { log = o.collecting.log; made = length c.args.parts.machines.items; known = o.collecting.known } }) c.in-Ok.ensures.ok.1
          ∙ (λ i. made (record { table = c.in-Ok.board.table.shared.table_id; opened = c.args.was.now.value.collector; collecting = record { log = []; made = 0; known = [] } }) (sym is i) (many i));
      refused = tt;
    }

pub open-requires-clause-world : goal.open-requires-clause-world
open-requires-clause-world c = c.requires.world

pub open-requires-clause-words : goal.open-requires-clause-words
open-requires-clause-words c = c.as_slice.ensures.value ∙ c.requires.parts.row

pub open-requires-clause-layout : goal.open-requires-clause-layout
open-requires-clause-layout c =
    let p = c.new-layout.ensures.parts in
    let kept : IsKept false c.args.was.now.value = world_kept c.args.was.now.value c.requires.world in
    (p.0 ∙ fields_many c.args.was.now.value c.args.parts.config.slots c.args.parts.config.fields kept (ap (λ k. k.slots) c.requires.parts.config) (ap (λ k. k.fields) c.requires.parts.config), p.1 ∙ ap (λ k. k.slots) c.requires.parts.config ∙ sym c.requires.world.shaped.headers, c.new-layout.ensures.layout)

pub seat_all-machines-requires-clause-own : goal.seat_all-machines-requires-clause-own
seat_all-machines-requires-clause-own c = (ap (λ (o : CollectorView). o.table) c.in-Ok.ensures.ok.1, ap (λ (o : CollectorView). o.opened) c.in-Ok.ensures.ok.1 ∙ sym (ap (λ s. s.value.collector) c.in-Ok.ensures.ok.0))

pub seat_all-machines-requires-clause-world : goal.seat_all-machines-requires-clause-world
seat_all-machines-requires-clause-world c = subst (λ s. IsWorld s.value) (sym c.in-Ok.ensures.ok.0) c.requires.world

pub seat_all-machines-requires-clause-idle : goal.seat_all-machines-requires-clause-idle
seat_all-machines-requires-clause-idle c = subst (λ s. AreIdle s.value) (sym c.in-Ok.ensures.ok.0) c.requires.idle

pub seat_all-machines-requires-clause-machines : goal.seat_all-machines-requires-clause-machines
seat_all-machines-requires-clause-machines c = c.requires.parts.machines ∙ sym (ap (λ s. s.value.mutators) c.in-Ok.ensures.ok.0)

pub seat_all-machines-requires-clause-none : goal.seat_all-machines-requires-clause-none
seat_all-machines-requires-clause-none c = ap (λ (o : CollectorView). o.collecting.made) c.in-Ok.ensures.ok.1

pub seat_all-machines-requires-clause-room : goal.seat_all-machines-requires-clause-room
seat_all-machines-requires-clause-room c = c.requires.mutators

pub invariant_of-result : goal.invariant_of-result
invariant_of-result c =
    let is = c.in-Ok.ensures.ok.0 in
    let sizes = c.in-Ok.ensures.sizes in
    let kept : IsKept false c.args.was.now.value = world_kept c.args.was.now.value c.requires.world in
    let many : length c.args.parts.machines.items ≡ c.in-Ok.board.table.shared.key.value.config.mutators = ap length c.requires.parts.machines ∙ kept.mutators.many ∙ ap (λ (w : Core). w.config.mutators) (sym (ap (λ s. s.value) is)) in (
      subst (λ s. IsWorld s.value) (sym is) c.requires.world,
      subst (λ s. AreIdle s.value) (sym is) c.requires.idle,
      record {
        config = c.requires.parts.config ∙ sym (ap (λ s. s.value.config) is);
        made = c.requires.parts.made ∙ sym (ap (λ s. s.value.made) is);
        row = c.clear.ensures.items;
        words = omega (arith, sizes.0, ap length c.as_slice.ensures.value, c.args.parts.row.ok.0, c.args.parts.row.ok.1, c.clear.ensures.capacity);
        boxes = c.requires.boxes.0;
        slots = subst (λ (n : ℕ). n ≤ vec_capacity c.args.boxes) (sym sizes.1) c.requires.boxes.1;
        machines = c.seat_all-machines.ensures.machines.0;
        mutators = omega (arith, many, c.args.parts.machines.ok.0, c.args.parts.machines.ok.1, c.seat_all-machines.ensures.machines.1);
      },
    )

pub of_parts-world-requires : goal.of_parts-world-requires
of_parts-world-requires c = (c.args.was.now.value, (c.requires.world, whole c))
