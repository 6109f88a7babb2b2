-- The collector is to offer every slot, and the core is that of the definitions.
use Rattle.std.proofs.Common.{◌≡◌, sym, ap, subst}
use Rattle.rec_world.proofs.Common.{Core, Move, EndsRun, offering, core, IsWorld}
use Rattle.rec_collector.specs.Private.{Private}
use Rattle.rec_world.proofs.Calls.{moved_world}
use Rattle.rec_world.proofs.world.World.offer_all.Goals as goal
use Rattle.rec_world.proofs.world.World.offer_all.Goals.{After-offer_all}

-- the core before
abbrev before : After-offer_all → Core
before c = core c.self.inside

-- the core that is left
left : (c : After-offer_all) → ◌≡◌ {A = Core} (record (before c) { collector = c.offer_all.new.self }) (offering (before c))
left c = ap (λ (q : Private). record (before c) { collector = q }) c.offer_all.ensures.offered

-- it is a world
world : (c : After-offer_all) → IsWorld (offering (before c))
world c = moved_world (before c) Move.Offers c.self.invariant.world tt

pub invariant_of-self : goal.invariant_of-self
invariant_of-self c =
    let here : After-offer_all = (goal.at.invariant_of-self c).After-offer_all in
    record { world = subst IsWorld (sym (left here)) (world here); home = c.self.invariant.home }

pub returns-clause-run : goal.returns-clause-run
returns-clause-run c =
    let here : After-offer_all = (goal.at.returns-clause-run c).After-offer_all in
    subst EndsRun (sym (left here)) ((world here).run)

pub returns-clause-kept : goal.returns-clause-kept
returns-clause-kept c =
    let here : After-offer_all = (goal.at.returns-clause-kept c).After-offer_all in
    subst IsWorld (sym (left here)) (world here)
