-- What is restored from the image is the heap that begins anew.
use Rattle.std.proofs.Common.{ℕ, ◌≡◌, ◌≢◌, ◌<◌, arith, length, rules, refl, ap}
use Rattle.std.proofs.lemmas.List.{length-map}
use Rattle.std.proofs.lemmas.Result.{IfErr-weaker, IfOk-weaker}
use Rattle.rec_world.specs.World.{Core, sight}
use Rattle.rec_image.specs.declared.error.RenewError.{RenewError}
use Rattle.rec_image.specs.declared.error.RenewError.TheVariants.{Slots, FewSlots, NoMemory}
use Rattle.rec_image.specs.Image.{ImageContents}
use Rattle.rec_image.specs.Renewed.{IsSlots, IsUnrenewed, in_slots}
use Rattle.rec_image.specs.Standing.{IsImageOf, node_of}
use Rattle.rec_image.proofs.Moving.{is_renewed}
use Rattle.rec_image.proofs.renewing.open_anew.Goals as goal

-- what the image has more objects than, the heap has fewer slots than registers reach
unrenewed : (w : Core) (slots : ℕ) (v : ImageContents) (error : RenewError) → IsSlots slots → IsImageOf w v → (error ≢ Slots) × (error ≡ FewSlots → slots < length v.objects) → IsUnrenewed w slots error
unrenewed w slots v Slots some is h = absurd (h.0 refl)
unrenewed w slots v FewSlots some (list, numbers, is) h = (some, (list, numbers, omega (arith, h.1 refl, ap (λ (x : ImageContents). length x.objects) is, length-map list (node_of (sight w) list))))
unrenewed w slots v NoMemory some is h = some

pub returns-clause-renewed : goal.returns-clause-renewed
returns-clause-renewed c =
    let some : IsSlots c.args.slots = search rules in
    IfOk-weaker c.restore_in.result _ _
    (λ new h. is_renewed c.args.world.now new c.args.slots c.args.log_entries c.args.policy c.in_ok-image.image (in_slots c.in_ok-image.image c.args.slots) c.of_world.ensures.kept c.in_ok-image.ensures.image some h.0 refl c.requires.entries c.requires.policy h.1)
    c.restore_in.ensures.opened

pub returns-clause-refused : goal.returns-clause-refused
returns-clause-refused c =
    let some : IsSlots c.args.slots = search rules in
    IfErr-weaker c.restore_in.result _ _
    (λ error h. unrenewed c.args.world.now c.args.slots c.in_ok-image.image error some c.in_ok-image.ensures.image h)
    c.restore_in.ensures.refused
