-- The contract of `settle_world`: a heap at rest is settled.
use Rattle.std.proofs.Common.{◌≡◌, ◌%◌, ◌∙◌, All, Some, refl, sym, ap, subst}
use Rattle.rec_core.specs.Core.{Core}
use Rattle.recycler_c.specs.declared.end.End.TheVariants as ends
use Rattle.recycler_c.proofs.Settles.{settled_home}
use Rattle.recycler_c.proofs.looking.settle_world.Goals as goal

pub of-requires-clause-home : goal.of-requires-clause-home
of-requires-clause-home c = settled_home c.into_world-world.result c.settle.new.world c.in-Ok.ensures.done.settles c.settle.ensures.kept c.settle.ensures.idle

pub of-requires-in-Err-clause-home : goal.of-requires-in-Err-clause-home
of-requires-in-Err-clause-home c = subst (λ (w : Core). All (λ word. word % 2 ≡ 0) w.crossing) (sym c.in-Err.ensures.spent.2) c.into_world-world.ensures.home

pub returns-in-Ok : goal.returns-in-Ok
returns-in-Ok c = λ t. record {
  before = c.into_world-world.result;
  was = ap Some (sym c.into_world-world.ensures.world);
  after = c.settle.new.world;
  is = ap Some c.of.ensures;
  config = c.settle.ensures.config;
  done = c.in-Ok.ensures.done;
  registers = c.settle.ensures.stays.registers;
  stands = c.settle.ensures.stays.stands;
  made = c.settle.ensures.stays.made;
  teller = refl;
}

pub returns-in-Err : goal.returns-in-Err
returns-in-Err c = λ t. (
  record { world = c.into_world-world.result; is = ap Some (sym c.into_world-world.ensures.world); few = c.in-Err.ensures.spent.0 },
  ap (λ (w : Core). Some (ends.Resting w t)) (c.of-in-Err.ensures ∙ c.in-Err.ensures.spent.2 ∙ c.into_world-world.ensures.world),
  refl,
)
