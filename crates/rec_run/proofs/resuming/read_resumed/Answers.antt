-- What is wrong with the image, or with the mutators behind it, is what is wrong with the bytes.
use Rattle.std.proofs.Common.{◌≡◌, ◌∙◌, Err, ℕ, List, inr, drop, ap, subst, arith}
use Rattle.rec_script.specs.Behind.{IsRefusedBehind}
use Rattle.rec_script.specs.declared.error.ScriptError.{ScriptError}
use Rattle.rec_script.specs.declared.error.ScriptError.TheVariants.{Bad}
use Rattle.rec_image.specs.Image.{StopsAt, feeds}
use Rattle.rec_run.specs.Resuming.{AreImage, IsRefusedAt, numbers_of}
use Rattle.rec_run.proofs.resuming.read_resumed.Goals as goal

pub returns-in-Err-clause-refused : goal.returns-in-Err-clause-refused
returns-in-Err-clause-refused c = λ line kind is.
    let same : c.in-Err.error ≡ Bad line kind = cc in
    let (stops, named) = c.in-Err.ensures.refused line kind (ap (λ (e : ScriptError). Err e) same) in
    inr (omega (arith, c.if-bytes-gt-MOST_BYTES.false), IsRefusedAt.image c.image_length.result c.image_length.ensures.cut (subst (λ (front : List ℕ). StopsAt front line) c.split_at.ensures.front stops) named)

pub returns-in-Err-read_behind-clause-refused : goal.returns-in-Err-read_behind-clause-refused
returns-in-Err-read_behind-clause-refused c = λ line kind is.
    let same : c.in-Err-read_behind.error ≡ Bad line kind = cc in
    let at : ℕ = c.image_length.result in
    let refused : IsRefusedBehind (numbers_of c.in-Ok.image) c.split_at.result.1.now c.count_lines.result line kind = c.in-Err-read_behind.ensures.refused line kind (ap (λ (e : ScriptError). Err e) same) in
    inr (
      omega (arith, c.if-bytes-gt-MOST_BYTES.false),
      IsRefusedAt.mutators at c.in-Ok.image c.image_length.ensures.cut (subst (λ (front : List ℕ). AreImage front c.in-Ok.image) c.split_at.ensures.front c.in-Ok.ensures.found)
          (subst (λ (n : ℕ). IsRefusedBehind (numbers_of c.in-Ok.image) (drop at c.args.bytes.now) n line kind) (c.count_lines.ensures ∙ ap feeds c.split_at.ensures.front)
          (subst (λ (rest : List ℕ). IsRefusedBehind (numbers_of c.in-Ok.image) rest c.count_lines.result line kind) c.split_at.ensures.back refused)),
    )
