-- The numbers of the heap are the image's.
use Rattle.std.proofs.Common.{◌≡◌, ◌∙◌, ℕ, ap, subst}
use Rattle.rec_script.specs.Behind.{IsRefusedBehind, Numbers}
use Rattle.rec_image.specs.Image.{ImageContents}
use Rattle.rec_run.specs.Resuming.{numbers_of}
use Rattle.rec_run.proofs.resuming.read_behind.Goals as goal

pub returns-clause-refused : goal.returns-clause-refused
returns-clause-refused c = λ number kind is.
    let v : ImageContents = c.args.image.now in
    let read : Numbers = record { slots = c.slots.result; fields = c.fields.result; registers = c.registers.result; mutators = c.mutators.result } in
    let same : read ≡ numbers_of v =
    ap (λ (n : ℕ). record read { slots = n }) c.slots.ensures.value
    ∙ ap (λ (n : ℕ). record (numbers_of v) { fields = n; registers = c.registers.result; mutators = c.mutators.result }) c.fields.ensures.value
    ∙ ap (λ (n : ℕ). record (numbers_of v) { registers = n; mutators = c.mutators.result }) c.registers.ensures.value
    ∙ ap (λ (n : ℕ). record (numbers_of v) { mutators = n }) c.mutators.ensures.value in
    subst (λ (h : Numbers). IsRefusedBehind h c.args.bytes.now c.args.line number kind) same (c.read_after.ensures.refused number kind is)
