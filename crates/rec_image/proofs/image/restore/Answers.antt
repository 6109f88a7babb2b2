-- The objects that an image holds open the heap that it makes.
use Rattle.std.proofs.Common.{◌≡◌, ◌∙◌, ap, subst, sym}
use Rattle.std.proofs.lemmas.List.{length-map}
use Rattle.rec_core.specs.Config.{IsConfig}
use Rattle.rec_core.specs.Core.{Core, sight}
use Rattle.rec_core.specs.Objects.{AreObjects, Objects, described}
use Rattle.rec_core.specs.declared.config.Config.{Config}
use Rattle.rec_core.proofs.OpenedFromSeen.{seen_stands}
use Rattle.rec_model.specs.Sight.{Represents}
use Rattle.rec_image.specs.Fields.{contents}
use Rattle.rec_image.specs.Image.{ImageContents, IsImage}
use Rattle.rec_image.specs.Restored.{config_of, mark_of, objects_in, restored}
use Rattle.rec_image.specs.Standing.{StandsFor}
use Rattle.rec_image.proofs.Restoring.{are_objects, have_labels, inside_objects, opened_as, restored_stands}
use Rattle.rec_image.proofs.image.restore.Goals as goal
use Rattle.rec_image.proofs.image.restore.Goals.{After-as_slice-3, In-Ok}

-- what is passed on
passed : After-as_slice-3 → Objects
passed c = record { nodes = c.as_slice.result.now; fields = c.as_slice-2.result.now; registers = c.as_slice-3.result.now }

passed_is : (c : After-as_slice-3) → passed c ≡ objects_in (contents c.image.inside)
unfolding passed
passed_is c =
    let all : objects_in (contents c.image.inside) ≡ record { nodes = c.image.inside.nodes.items; fields = c.image.inside.fields.items; registers = c.image.inside.registers.items }
    = inside_objects c.image.inside.heap.fields c.image.inside.heap.registers c.image.inside.heap.mutators c.image.inside.heap.slots c.image.inside.nodes.items c.image.inside.fields.items c.image.inside.registers.items c.image.invariant.fields c.image.invariant.registers in
    (λ i. record { nodes = c.as_slice.ensures.value i; fields = c.as_slice-2.ensures.value i; registers = c.as_slice-3.ensures.value i }) ∙ sym all

pub open_from-opened-requires : goal.open_from-opened-requires
unfolding passed
open_from-opened-requires c = subst (λ (o : Objects). AreObjects (config_of (contents c.image.inside) c.args.log_entries c.args.policy) o) (sym (passed_is c)) (are_objects (contents c.image.inside) c.image.invariant.image c.args.log_entries c.args.policy)

-- it is what the image makes
opened : (c : In-Ok) → c.in-Ok.world ≡ restored c.args.image.now c.args.log_entries c.args.policy
unfolding passed
opened c = opened_as (contents c.image.inside) c.args.image.now c.args.log_entries c.args.policy (record { nodes = c.as_slice.result.now; fields = c.as_slice-2.result.now; registers = c.as_slice-3.result.now }) c.in-Ok.world (passed_is (goal.at.returns-in-Ok-clause-opened c).After-as_slice-3) c.image.view_is c.in-Ok.ensures.opened

image_now : (c : In-Ok) → IsImage c.args.image.now
image_now c = subst (λ (v : ImageContents). IsImage v) c.image.view_is c.image.invariant.image

config_now : (c : In-Ok) → IsConfig (config_of c.args.image.now c.args.log_entries c.args.policy)
config_now c = subst (λ (v : ImageContents). IsConfig (config_of v c.args.log_entries c.args.policy)) c.image.view_is c.in-Ok.ensures.config

pub returns-in-Ok-clause-opened : goal.returns-in-Ok-clause-opened
returns-in-Ok-clause-opened c = opened c

pub returns-in-Ok-clause-made : goal.returns-in-Ok-clause-made
returns-in-Ok-clause-made c = ap (λ (w : Core). w.made) (opened c) ∙ length-map c.args.image.now.objects mark_of

pub returns-in-Ok-clause-stands : goal.returns-in-Ok-clause-stands
returns-in-Ok-clause-stands c = subst (λ (w : Core). StandsFor c.args.image.now (sight w)) (sym (opened c)) (restored_stands c.args.image.now (image_now c) c.args.log_entries c.args.policy (config_now c))

pub returns-in-Ok-clause-heap : goal.returns-in-Ok-clause-heap
returns-in-Ok-clause-heap c =
    let v : ImageContents = c.args.image.now in
    let config : Config = config_of v c.args.log_entries c.args.policy in
    subst (λ (w : Core). Represents (described config (objects_in v)) (sight w)) (sym (opened c))
    (λ s. s, seen_stands config (objects_in v) (config_now c) (are_objects v (image_now c) c.args.log_entries c.args.policy) (have_labels v (image_now c)))
