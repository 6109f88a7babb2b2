-- Each register names what all of them name, and its name joins those before it.
use Rattle.std.proofs.Common.{refl, ◌<◌, ◌∙◌}
use Rattle.rec_model.proofs.Named.{joined-step, named-at}
use Rattle.rec_world.proofs.numbering.Numbering.meet_registers.Goals as goal

pub meet-requires : goal.meet-requires
meet-requires c = rw c.loop-register.invariant.slots (named-at (λ slot. slot < c.args.self.now.slots) c.args.registers.now c.requires c.loop-register.register-index)

pub loop-register-preserved : goal.loop-register-preserved
loop-register-preserved c = record {
  slots = c.meet.ensures.slots ∙ c.loop-register.invariant.slots;
  list = joined-step _ _ _ _ _ _ c.loop-register.invariant.list refl c.loop-register-test.true c.meet.ensures.joined;
}
