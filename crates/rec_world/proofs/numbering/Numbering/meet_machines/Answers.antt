-- Each mutator's registers name what all of them name, and their names join those before them.
use Rattle.std.proofs.Common.{◌≡◌, ◌<◌, [], map, get_or, sym, subst, ◌∙◌}
use Rattle.std.proofs.lemmas.List.{length-map}
use Rattle.rec_world.proofs.Common.{Private}
use Rattle.rec_model.proofs.Names.{roots_at}
use Rattle.rec_world.proofs.Filled.{joined_registers, own_at}
use Rattle.rec_world.proofs.numbering.Numbering.meet_machines.Goals as goal

pub meet_registers-requires : goal.meet_registers-requires
meet_registers-requires c = λ slot there.
    let own : c.registers.result.now ≡ get_or (map (λ (p : Private). p.registers) c.args.machines.now) c.loop-machine.machine-index []
    = own_at c.args.machines.now c.machine-item.result c.registers.result.now c.loop-machine.machine-index c.loop-machine-test.true c.machine-item.is c.registers.ensures in
    subst (λ n. slot < n) (sym c.loop-machine.invariant.slots)
    (c.requires slot (roots_at (map (λ (p : Private). p.registers) c.args.machines.now) c.loop-machine.machine-index slot (rw own at there)))

pub loop-machine-preserved : goal.loop-machine-preserved
loop-machine-preserved c =
    let own : c.registers.result.now ≡ get_or (map (λ (p : Private). p.registers) c.args.machines.now) c.loop-machine.machine-index []
    = own_at c.args.machines.now c.machine-item.result c.registers.result.now c.loop-machine.machine-index c.loop-machine-test.true c.machine-item.is c.registers.ensures in
    record {
      slots = c.meet_registers.ensures.slots ∙ c.loop-machine.invariant.slots;
      list = joined_registers _ _ _ c.registers.result.now (map (λ (p : Private). p.registers) c.args.machines.now) c.loop-machine.machine-index c.loop-machine.invariant.list own
          (subst (λ n. c.loop-machine.machine-index < n) (sym (length-map c.args.machines.now (λ (p : Private). p.registers))) c.loop-machine-test.true) c.meet_registers.ensures.joined;
    }
