-- Where every number is in its range, want of memory alone refuses; an opened heap is the one that its objects make.
use Rattle.std.proofs.Common.{sym, subst}
use Rattle.rec_model.specs.Sight.{StandsBy}
use Rattle.rec_core.specs.Objects.{Objects, described}
use Rattle.rec_core.specs.Settled.{IsSettled}
use Rattle.rec_core.specs.Worked.{AreIdle}
use Rattle.rec_core.proofs.OpenedFromSeen.{seen_settled, seen_stands}
use Rattle.rec_world.proofs.Common.{Core, sight}
use Rattle.rec_world.proofs.OpenedObjects.{objects_idle}
use Rattle.rec_world.proofs.world.World.open_from.Goals as goal

pub returns-clause-stands : goal.returns-clause-stands
returns-clause-stands c =
    let o : Objects = record { nodes = c.args.nodes.now; fields = c.args.fields.now; registers = c.args.registers.now } in
    let P : Core → Type 0 = λ w. StandsBy (described c.args.config o) (sight w) (λ slot. slot) in
    subst P (sym c.in_ok-world.ensures.opened) (seen_stands c.args.config o (c.first_wrong.ensures.none.0 c.in_default.is) c.requires c.in_ok-world.ensures.labels)

pub returns-clause-settled : goal.returns-clause-settled
returns-clause-settled c =
    let o : Objects = record { nodes = c.args.nodes.now; fields = c.args.fields.now; registers = c.args.registers.now } in
    subst IsSettled (sym c.in_ok-world.ensures.opened) (seen_settled c.args.config o (c.first_wrong.ensures.none.0 c.in_default.is) c.requires c.in_ok-world.ensures.labels)

pub returns-clause-idle : goal.returns-clause-idle
returns-clause-idle c =
    let o : Objects = record { nodes = c.args.nodes.now; fields = c.args.fields.now; registers = c.args.registers.now } in
    let P : Core → Type 0 = λ w. AreIdle w in
    subst P (sym c.in_ok-world.ensures.opened) (objects_idle c.args.config o (c.first_wrong.ensures.none.0 c.in_default.is) c.requires c.in_ok-world.ensures.labels)
