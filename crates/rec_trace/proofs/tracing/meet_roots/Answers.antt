-- The registers of each mutator name slots that there are, and their names join those before them.
use Rattle.std.proofs.Common.{◌≡◌, ◌<◌, ◌+◌, ◌-◌, [], length, get_or, ap, sym, subst, ◌∙◌, arith}
use Rattle.std.proofs.lemmas.List.{length-map}
use Rattle.rec_mutator.specs.Private.{Private}
use Rattle.rec_model.proofs.Names.{roots_at}
use Rattle.rec_world.specs.World.{sight}
use Rattle.rec_world.proofs.Filled.{joined_registers}
use Rattle.rec_world.proofs.Names.{names_below}
use Rattle.rec_trace.proofs.tracing.meet_roots.Goals as goal

pub meet_registers-requires : goal.meet_registers-requires
meet_registers-requires c = λ slot there.
    let at : c.loop-i.i + 1 - 1 ≡ c.loop-i.i = omega arith in
    let own : c.registers.result.now ≡ get_or (sight c.args.world.now).registers c.loop-i.i [] = c.registers.ensures.registers ∙ ap (λ k. get_or (sight c.args.world.now).registers k []) at in
    subst (λ n. slot < n) (sym (c.loop-i.invariant.slots ∙ c.requires.slots))
    ((names_below c.args.world.now c.registers.ensures.kept.shaped).registers slot (roots_at (sight c.args.world.now).registers c.loop-i.i slot (rw own at there)))

pub loop-i-preserved : goal.loop-i-preserved
loop-i-preserved c =
    let at : c.loop-i.i + 1 - 1 ≡ c.loop-i.i = omega arith in
    let own : c.registers.result.now ≡ get_or (sight c.args.world.now).registers c.loop-i.i [] = c.registers.ensures.registers ∙ ap (λ k. get_or (sight c.args.world.now).registers k []) at in
    let many : length (sight c.args.world.now).registers ≡ c.mutators-i-end.result = length-map c.args.world.now.mutators (λ (p : Private). p.registers) ∙ c.registers.ensures.kept.shaped.mutators ∙ sym c.mutators-i-end.ensures.mutators in
    record {
      slots = c.meet_registers.ensures.slots ∙ c.loop-i.invariant.slots;
      list = joined_registers [] _ _ c.registers.result.now (sight c.args.world.now).registers c.loop-i.i c.loop-i.invariant.list own (subst (λ n. c.loop-i.i < n) (sym many) c.loop-i-test.true) c.meet_registers.ensures.joined;
    }
