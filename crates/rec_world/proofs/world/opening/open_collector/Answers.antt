-- The counts are those of the objects.
use Rattle.std.proofs.Common.{◌≡◌, ◌<◌, All, ap, subst, sym, ◌∙◌}
use Rattle.std.proofs.lemmas.Result.{IfOk-weaker}
use Rattle.rec_collector.specs.Private as collectors
use Rattle.rec_core.specs.Objects.{Objects, counts_of}
use Rattle.rec_core.proofs.OpenedFrom.{counts_some}
use Rattle.rec_world.proofs.OpenedObjects.{counts_are}
use Rattle.rec_world.proofs.world.opening.open_collector.Goals as goal
use Rattle.rec_world.proofs.world.opening.open_collector.Goals.{After-as_slice}

-- the objects
abbrev objects_of : After-as_slice → Objects
objects_of c = record { nodes = c.args.nodes.now; fields = c.args.fields.now; registers = c.args.registers.now }

counted : (c : After-as_slice) → c.as_slice.result.now ≡ counts_of (objects_of c)
counted c = c.as_slice.ensures.value ∙ counts_are (objects_of c) c.in_ok-counts.counts.items c.in_ok-counts.ensures.many c.in_ok-counts.ensures.counts

pub open-requires-clause-some : goal.open-requires-clause-some
open-requires-clause-some c = subst (All (λ count. 0 < count)) (sym (counted c)) (counts_some c.args.config.now (objects_of c) c.requires.config c.requires.objects c.requires.labels)

pub returns : goal.returns
returns c =
    let counts = counted (goal.at.returns c).After-as_slice in
    IfOk-weaker c.open.result _ _
    (λ collector is. is ∙ ap (λ ns. collectors.opened c.args.config.now.slots c.args.config.now.fields c.args.config.now.registers c.args.config.now.mutators c.args.config.now.log_entries c.args.config.now.first_epoch c.args.config.now.policy ns c.args.registers.now) counts)
    c.open.ensures.opened
