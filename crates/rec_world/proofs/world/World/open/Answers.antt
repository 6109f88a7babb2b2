-- Where every number is in its range, want of memory alone refuses; an opened heap is the one that its numbers make.
use Rattle.std.proofs.Common.{sym, ap, subst, ◌∙◌}
use Rattle.rec_world.proofs.Common.{Core, sight, mutator}
use Rattle.rec_model.specs.Heap.{opening}
use Rattle.rec_model.specs.Sight.{Represents}
use Rattle.rec_core.proofs.Opened.{mutator_opened, opened_stands}
use Rattle.rec_world.proofs.world.World.open.Goals as goal

pub returns-clause-stands : goal.returns-clause-stands
returns-clause-stands c =
    let P : Core → Type 0 = λ w. Represents (opening c.args.config.fields c.args.config.registers c.args.config.mutators) (sight w) in
    subst P (sym c.in_ok-world.ensures.opened) (opened_stands c.args.config (c.first_wrong.ensures.none.0 c.in_default.is))

pub returns-clause-mutators : goal.returns-clause-mutators
returns-clause-mutators c = λ t there. ap (λ (w : Core). mutator w t) c.in_ok-world.ensures.opened ∙ mutator_opened c.args.config (c.first_wrong.ensures.none.0 c.in_default.is) t there
