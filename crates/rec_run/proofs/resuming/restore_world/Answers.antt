-- The heap of an image is one in which a run of the script begins.
use Rattle.std.proofs.Common.{◌≡◌, false, ◌∙◌, length, refl, sym, ap, subst}
use Rattle.std.proofs.lemmas.List.{length-map}
use Rattle.std.proofs.lemmas.List.FromFn.{length-map-range_with_len}
use Rattle.rec_collector.specs.Private.{plain}
use Rattle.rec_model.specs.Heap.{Heap}
use Rattle.rec_model.specs.Sight.{Represents}
use Rattle.rec_core.specs.Config.{IsConfig}
use Rattle.rec_core.specs.Core.{Core, sight, opened_from}
use Rattle.rec_core.specs.Objects.{described, object_at}
use Rattle.rec_core.specs.declared.config.Config.{Config}
use Rattle.rec_order.proofs.Unfreed.{there_are_unfreed}
use Rattle.rec_world.specs.OpenError.{IsRefused}
use Rattle.rec_image.specs.Image.{ImageContents}
use Rattle.rec_image.specs.Restored.{config_of as config_in, mark_of, objects_in, restored}
use Rattle.rec_play.specs.Numbers.{config_of}
use Rattle.rec_play.specs.Start.{MayBegin, Start}
use Rattle.rec_play.proofs.Opened.{opened_from_begins}
use Rattle.rec_script.specs.Script.{ScriptContents}
use Rattle.rec_run.proofs.Opening.{none_wrong}
use Rattle.rec_run.proofs.resuming.restore_world.Goals as goal
use Rattle.rec_run.proofs.resuming.restore_world.Goals.{After-restore, In-Ok}

-- the numbers of the heap are the script's
numbers : (c : After-restore) → config_in c.args.image.now c.config_for.result.log_entries plain ≡ config_of c.args.script.now
numbers c = ap (λ (k : Config). config_in c.args.image.now k.log_entries plain) c.config_for.ensures.config ∙ c.requires.numbers

pub unreachable-requires : goal.unreachable-requires
unreachable-requires c =
    let same = numbers (goal.at.unreachable-requires c).After-restore in
    let config : Config = config_in c.args.image.now c.config_for.result.log_entries plain in
    none_wrong config c.in-Err-Config.field-0-0 (subst IsConfig (c.config_for.ensures.config ∙ sym same) c.config_for.ensures.valid) (subst (IsRefused config) c.in-Err-Config.field-0-is c.in-Err-Config.ensures.refused)

-- it is opened from the image's objects
opens : (c : In-Ok) → c.in-Ok.world ≡ opened_from (config_of c.args.script.now) (objects_in c.args.image.now)
opens c = c.in-Ok.ensures.opened ∙ ap (λ k. opened_from k (objects_in c.args.image.now)) (numbers (goal.at.returns-in-Ok-clause-begins c).After-restore)

pub returns-in-Ok-clause-begins : goal.returns-in-Ok-clause-begins
returns-in-Ok-clause-begins c = subst (MayBegin c.args.script.now) (sym (opens c)) (opened_from_begins c.args.script.now (objects_in c.args.image.now))

pub returns-in-Ok-clause-first : goal.returns-in-Ok-clause-first
returns-in-Ok-clause-first c = ap (λ (w : Core). w.epoch) (opens c)

pub returns-in-Ok-clause-start : goal.returns-in-Ok-clause-start
returns-in-Ok-clause-start c =
    let script : ScriptContents = c.args.script.now in
    let v : ImageContents = c.args.image.now in
    let w : Core = c.in-Ok.world in
    let heap : Heap = described (config_of script) (objects_in v) in
    let (number, stands) = subst (λ (k : Config). Represents (described k (objects_in v)) (sight w)) (numbers (goal.at.returns-in-Ok-clause-start c).After-restore) c.in-Ok.ensures.heap in
    let (unfreed, are) = there_are_unfreed heap (sight w) number stands in
    let many : length heap.objects ≡ length v.objects = length-map-range_with_len (object_at script.fields (objects_in v)) 0 (length (objects_in v).nodes) ∙ length-map v.objects mark_of in
    let start : Start = record { world = w; heap = heap; number = number; unfreed = unfreed } in (
      start,
      refl,
      record {
        world = c.in-Ok.ensures.opened ∙ ap (λ (k : Config). restored v k.log_entries plain) c.config_for.ensures.config;
        heap = refl;
        starts = record { begins = returns-in-Ok-clause-begins c; stands = stands; unfreed = are; made = c.in-Ok.ensures.made ∙ sym many };
      },
    )
