-- The first line that no image goes on with, or the image with all its lines.
use Rattle.std.proofs.Common.{◌≡◌, ◌==◌, ◌+◌, ◌∙◌, ℕ, zero, suc, true, false, List, Err, length, refl, sym, ap, subst, arith}
use Rattle.std.proofs.lemmas.Bool.{false≢true, ne_eqb, true≢false}
use Rattle.rec_image.specs.declared.error.ImageError.{ImageError}
use Rattle.rec_image.specs.declared.error.ImageError.TheVariants.{Bad}
use Rattle.rec_image.specs.Drafts.{held_in, objects_in}
use Rattle.rec_image.specs.Image.{ImageContents, IsImage, StopsAt, text}
use Rattle.rec_image.proofs.Endings.{behind_objects, behind_rows, behind_two, end_stops, header_stops, heap_stops, more_stops, few_objects, only_image, read_image, read_text, told_error, told_line}
use Rattle.rec_image.proofs.reading.read.Goals as goal

is_nought : (n : ℕ) → true ≡ (n == 0) → n ≡ 0
is_nought zero h = refl
is_nought (suc n) h = absurd (true≢false (h ∙ ne_eqb (suc n) 0 (λ e. omega (arith, e))))

not_nought : (n : ℕ) → false ≡ (n == 0) → n ≡ 0 → ⊥
not_nought zero h e = false≢true h
not_nought (suc n) h e = absurd (omega (arith, e))

pub returns-in_default-clause-refused : goal.returns-in_default-clause-refused
returns-in_default-clause-refused c = λ line e.
    let at = told_line 1 line e in
    subst (StopsAt c.args.bytes.now) at (header_stops c.args.bytes.now c.in_default.ensures)

pub returns-in_default-heap_line-clause-refused : goal.returns-in_default-heap_line-clause-refused
returns-in_default-heap_line-clause-refused c = λ line e.
    let at = told_line 2 line e in
    subst (StopsAt c.args.bytes.now) at (heap_stops c.args.bytes.now c.in-Some.rest.now c.in-Some.ensures c.in_default-heap_line.ensures.none)

pub returns-in-Err-clause-refused : goal.returns-in-Err-clause-refused
returns-in-Err-clause-refused c = λ line e.
    let is = told_error c.in-Err.error (Bad line) e in
    subst (λ (bs : List ℕ). StopsAt bs line) (sym (behind_two c.in-Some-heap_line.heap c.args.bytes.now c.in-Some.rest.now c.in-Some-heap_line.rest.now c.in-Some.ensures c.in-Some-heap_line.ensures.found)) (c.in-Err.ensures.bad line (ap (λ (x : ImageError). Err x) is))

pub returns-in-Err-read_held-clause-refused : goal.returns-in-Err-read_held-clause-refused
returns-in-Err-read_held-clause-refused c = λ line e.
    let is = told_error c.in-Err-read_held.error (Bad line) e in
    subst (λ (bs : List ℕ). StopsAt bs line) (sym (behind_objects c.in-Some-heap_line.heap (objects_in c.in-Some-heap_line.heap c.in-Ok.found.0) c.args.bytes.now c.in-Some-heap_line.rest.now c.in-Ok.found.1.now (behind_two c.in-Some-heap_line.heap c.args.bytes.now c.in-Some.rest.now c.in-Some-heap_line.rest.now c.in-Some.ensures c.in-Some-heap_line.ensures.found) c.in-Ok.ensures.lines)) (c.in-Err-read_held.ensures.bad line (ap (λ (x : ImageError). Err x) is))

pub count-requires : goal.count-requires
count-requires c = few_objects c.in-Some-heap_line.heap c.in-Ok.found.0 c.in-Ok.ensures.found

pub overflow_add-line : goal.overflow_add-line
overflow_add-line c = omega (arith, c.count.ensures, few_objects c.in-Some-heap_line.heap c.in-Ok.found.0 c.in-Ok.ensures.found, c.in-Ok.ensures.found.is_open.sized.most_mutators)

pub overflow_add-line-2 : goal.overflow_add-line-2
overflow_add-line-2 c = omega (arith, c.count.ensures, few_objects c.in-Some-heap_line.heap c.in-Ok.found.0 c.in-Ok.ensures.found, c.in-Ok.ensures.found.is_open.sized.most_mutators)

pub returns-in_default-behind-clause-refused : goal.returns-in_default-behind-clause-refused
returns-in_default-behind-clause-refused c = λ line e.
    let at = told_line (c.count.result + c.in-Some-heap_line.heap.mutators + 3) line e in
    end_stops c.in-Some-heap_line.heap c.in-Ok.found.0 c.in-Ok-read_held.found.0 c.args.bytes.now c.in-Ok-read_held.found.1.now line c.in-Ok-read_held.ensures.found c.in-Ok-read_held.ensures.all
    (behind_rows c.in-Some-heap_line.heap (objects_in c.in-Some-heap_line.heap c.in-Ok.found.0) (held_in c.in-Some-heap_line.heap c.in-Ok-read_held.found.0) c.args.bytes.now c.in-Ok.found.1.now c.in-Ok-read_held.found.1.now (behind_objects c.in-Some-heap_line.heap (objects_in c.in-Some-heap_line.heap c.in-Ok.found.0) c.args.bytes.now c.in-Some-heap_line.rest.now c.in-Ok.found.1.now (behind_two c.in-Some-heap_line.heap c.args.bytes.now c.in-Some.rest.now c.in-Some-heap_line.rest.now c.in-Some.ensures c.in-Some-heap_line.ensures.found) c.in-Ok.ensures.lines) c.in-Ok-read_held.ensures.lines)
    c.in_default-behind.ensures (omega (arith, c.count.ensures))

pub overflow_add-result : goal.overflow_add-result
overflow_add-result c = omega (arith, c.count.ensures, few_objects c.in-Some-heap_line.heap c.in-Ok.found.0 c.in-Ok.ensures.found, c.in-Ok.ensures.found.is_open.sized.most_mutators)

pub returns-then-not-is_empty-clause-refused : goal.returns-then-not-is_empty-clause-refused
returns-then-not-is_empty-clause-refused c = λ line e.
    let at = told_line (c.count.result + c.in-Some-heap_line.heap.mutators + 3 + 1) line e in
    more_stops c.in-Some-heap_line.heap c.in-Ok.found.0 c.in-Ok-read_held.found.0 c.args.bytes.now c.in-Ok-read_held.found.1.now c.in-Some-behind.rest.now line c.in-Ok-read_held.ensures.found c.in-Ok-read_held.ensures.all
    (behind_rows c.in-Some-heap_line.heap (objects_in c.in-Some-heap_line.heap c.in-Ok.found.0) (held_in c.in-Some-heap_line.heap c.in-Ok-read_held.found.0) c.args.bytes.now c.in-Ok.found.1.now c.in-Ok-read_held.found.1.now (behind_objects c.in-Some-heap_line.heap (objects_in c.in-Some-heap_line.heap c.in-Ok.found.0) c.args.bytes.now c.in-Some-heap_line.rest.now c.in-Ok.found.1.now (behind_two c.in-Some-heap_line.heap c.args.bytes.now c.in-Some.rest.now c.in-Some-heap_line.rest.now c.in-Some.ensures c.in-Some-heap_line.ensures.found) c.in-Ok.ensures.lines) c.in-Ok-read_held.ensures.lines)
    c.in-Some-behind.ensures (not_nought (length c.in-Some-behind.rest.now) c.if-not-is_empty.ensures) (omega (arith, c.count.ensures))

pub returns-clause-found : goal.returns-clause-found
returns-clause-found c =
    let none : length c.in-Some-behind.rest.now ≡ 0 = is_nought (length c.in-Some-behind.rest.now) c.if-not-is_empty.ensures in
    subst (λ (v : ImageContents). IsImage v × (text v ≡ c.args.bytes.now)) (sym c.of.ensures) (
      read_image c.in-Some-heap_line.heap c.in-Ok.found.0 c.in-Ok-read_held.found.0 c.in-Ok-read_held.ensures.found c.in-Ok-read_held.ensures.all,
      read_text c.in-Some-heap_line.heap c.in-Ok.found.0 c.in-Ok-read_held.found.0 c.args.bytes.now c.in-Ok-read_held.found.1.now c.in-Some-behind.rest.now
          (behind_rows c.in-Some-heap_line.heap (objects_in c.in-Some-heap_line.heap c.in-Ok.found.0) (held_in c.in-Some-heap_line.heap c.in-Ok-read_held.found.0) c.args.bytes.now c.in-Ok.found.1.now c.in-Ok-read_held.found.1.now (behind_objects c.in-Some-heap_line.heap (objects_in c.in-Some-heap_line.heap c.in-Ok.found.0) c.args.bytes.now c.in-Some-heap_line.rest.now c.in-Ok.found.1.now (behind_two c.in-Some-heap_line.heap c.args.bytes.now c.in-Some.rest.now c.in-Some-heap_line.rest.now c.in-Some.ensures c.in-Some-heap_line.ensures.found) c.in-Ok.ensures.lines) c.in-Ok-read_held.ensures.lines)
          c.in-Some-behind.ensures none,
    )

pub returns-clause-only : goal.returns-clause-only
returns-clause-only c = λ other image is.
    let none : length c.in-Some-behind.rest.now ≡ 0 = is_nought (length c.in-Some-behind.rest.now) c.if-not-is_empty.ensures in
    only_image c.in-Some-heap_line.heap c.in-Ok.found.0 c.in-Ok-read_held.found.0 c.args.bytes.now c.in-Ok-read_held.ensures.found c.in-Ok-read_held.ensures.all
    (read_text c.in-Some-heap_line.heap c.in-Ok.found.0 c.in-Ok-read_held.found.0 c.args.bytes.now c.in-Ok-read_held.found.1.now c.in-Some-behind.rest.now
    (behind_rows c.in-Some-heap_line.heap (objects_in c.in-Some-heap_line.heap c.in-Ok.found.0) (held_in c.in-Some-heap_line.heap c.in-Ok-read_held.found.0) c.args.bytes.now c.in-Ok.found.1.now c.in-Ok-read_held.found.1.now (behind_objects c.in-Some-heap_line.heap (objects_in c.in-Some-heap_line.heap c.in-Ok.found.0) c.args.bytes.now c.in-Some-heap_line.rest.now c.in-Ok.found.1.now (behind_two c.in-Some-heap_line.heap c.args.bytes.now c.in-Some.rest.now c.in-Some-heap_line.rest.now c.in-Some.ensures c.in-Some-heap_line.ensures.found) c.in-Ok.ensures.lines) c.in-Ok-read_held.ensures.lines)
    c.in-Some-behind.ensures none)
    other image is ∙ sym c.of.ensures

pub read_objects-requires : goal.read_objects-requires
read_objects-requires c = c.in-Some-heap_line.ensures.sized

pub read_held-requires : goal.read_held-requires
read_held-requires c = record { objects = c.in-Ok.ensures.found; ends = c.in-Ok.ensures.ends }

pub of-requires : goal.of-requires
of-requires c = record { objects = c.in-Ok.ensures.found; held = c.in-Ok-read_held.ensures.found; all = c.in-Ok-read_held.ensures.all }
