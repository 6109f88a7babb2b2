-- The places where `read` stops, and the image that it reads.
use Rattle.std.proofs.Common.{◌≡◌, ℕ, zero, suc, ◌+◌, ◌-◌, ◌*◌, ◌<◌, ◌≤◌, List, [], ◌∷◌, ◌++◌, Option, None, Some, All, Result, Err, length, refl, sym, ap, subst, ◌∙◌, arith, length-append, append_assoc, append-nil}
use Rattle.std.specs.List.{flat_map}
use Rattle.std.proofs.lemmas.Grind.{flat_map-append}
use Rattle.std.proofs.lemmas.List.Elements.{All-nil}
use Rattle.rec_report.specs.Text.{line_feed}
use Rattle.rec_image.specs.declared.error.ImageError.{ImageError}
use Rattle.rec_image.specs.declared.error.ImageError.TheVariants.{Bad}
use Rattle.rec_image.specs.declared.held.Held.{Held}
use Rattle.rec_image.specs.declared.line.Heap.{Heap}
use Rattle.rec_image.specs.declared.objects.Objects.{Objects}
use Rattle.rec_image.specs.declared.meeting.Meeting.{Meeting}
use Rattle.rec_image.specs.Drafts.{AreHeld, AreObjects, BeginsObject, CanClose, IsObjectRead, IsRowRead, NoObjectNext, NoRowNext, draft, held_in, meeting, naming, objects_in, rows_of, so_far, unmet}
use Rattle.rec_image.specs.Image.{AreRegisters, ImageContents, IsContinued, IsImage, IsNode, IsSized, Node, StopsAt, end_line, header_line, heap_line, object_line, registers_line, text}
use Rattle.rec_image.proofs.Adding.{length-objects}
use Rattle.rec_image.proofs.Continuing.{closed, continued_open, continued_told, has_told, open_closes, regroup}
use Rattle.rec_image.proofs.Rows.{length-rows}
use Rattle.rec_image.proofs.Stopping.{end_whole, missed_end, missed_header, missed_heap, missed_object, missed_row, same_image, so_far_whole, stopped}

-- ---- objects

so_far_objects : (heap : Heap) (os : List Node) (bytes rest : List ℕ) → bytes ≡ flat_map object_line os ++ rest → so_far (draft heap [] []) ++ bytes ≡ so_far (draft heap os []) ++ rest
so_far_objects heap os bytes rest e =
    sym (regroup header_line (heap_line heap.slots heap.fields heap.registers heap.mutators) [] [] bytes)
    ∙ ap (λ (bs : List ℕ). header_line ++ (heap_line heap.slots heap.fields heap.registers heap.mutators ++ bs)) e
    ∙ regroup header_line (heap_line heap.slots heap.fields heap.registers heap.mutators) (flat_map object_line os) [] rest

pub object_stops : (heap : Heap) (x : Objects) (bytes rest : List ℕ) (line : ℕ) → AreObjects heap x → bytes ≡ flat_map object_line (objects_in heap x) ++ rest → BeginsObject rest → NoObjectNext heap (objects_in heap x) rest → line ≡ length x.nodes.items + 3 → StopsAt (so_far (draft heap [] []) ++ bytes) line
object_stops heap x bytes rest line are e begins none number =
    let whole = so_far_whole heap (objects_in heap x) [] are.is_open.sized are.is_open.objects (All-nil (AreRegisters heap.slots heap.registers)) in
    stopped (so_far (draft heap [] []) ++ bytes) (so_far (draft heap (objects_in heap x) [])) rest line
    (so_far_objects heap (objects_in heap x) bytes rest e) whole.0 (continued_open (draft heap (objects_in heap x) []) are.is_open)
    (omega (arith, whole.1, length-objects heap.fields x.nodes.items x.targets.items))
    (missed_object heap (objects_in heap x) rest are.is_open.sized are.is_open.objects none begins)

-- ---- registers

pub rows_first : (heap : Heap) (x : Objects) (first : Held) → AreObjects heap x → x.meeting.met ≤ length x.nodes.items → first.registers.items ≡ [] → first.rows ≡ 0 → first.naming ≡ unmet → AreHeld heap (objects_in heap x) first
rows_first heap x first are met items rows none =
    let no_rows : held_in heap first ≡ [] = ap (λ (k : ℕ). rows_of heap.registers k first.registers.items) rows in
    record {
      size = omega (arith, ap (length {A = Option ℕ}) items, ap (λ (k : ℕ). k * heap.registers) rows);
      can = subst (λ (hs : List (List (Option ℕ))). CanClose (draft heap (objects_in heap x) hs)) (sym no_rows)
          (open_closes (draft heap (objects_in heap x) []) are.is_open refl (omega (arith, ap (λ (m : Meeting). m.met) are.meeting, length-objects heap.fields x.nodes.items x.targets.items)));
      naming = none ∙ ap naming (sym no_rows);
    }

so_far_rows : (heap : Heap) (os : List Node) (hs : List (List (Option ℕ))) (bytes rest : List ℕ) → bytes ≡ flat_map registers_line hs ++ rest → so_far (draft heap os []) ++ bytes ≡ so_far (draft heap os hs) ++ rest
so_far_rows heap os hs bytes rest e =
    sym (regroup header_line (heap_line heap.slots heap.fields heap.registers heap.mutators) (flat_map object_line os) [] bytes)
    ∙ ap (λ (bs : List ℕ). header_line ++ (heap_line heap.slots heap.fields heap.registers heap.mutators ++ (flat_map object_line os ++ bs))) e
    ∙ regroup header_line (heap_line heap.slots heap.fields heap.registers heap.mutators) (flat_map object_line os) (flat_map registers_line hs) rest

pub row_stops : (heap : Heap) (x : Objects) (held : Held) (bytes rest : List ℕ) (line : ℕ) → AreHeld heap (objects_in heap x) held → bytes ≡ flat_map registers_line (held_in heap held) ++ rest → (BeginsObject bytes → ⊥) → held.rows < heap.mutators → NoRowNext heap (objects_in heap x) (held_in heap held) rest → line ≡ (length x.nodes.items + 3) + held.rows → StopsAt (so_far (draft heap (objects_in heap x) []) ++ bytes) line
row_stops heap x held bytes rest line are e other few none number =
    let whole = so_far_whole heap (objects_in heap x) (held_in heap held) are.can.sized are.can.objects are.can.registers in
    stopped (so_far (draft heap (objects_in heap x) []) ++ bytes) (so_far (draft heap (objects_in heap x) (held_in heap held))) rest line
    (so_far_rows heap (objects_in heap x) (held_in heap held) bytes rest e) whole.0 (continued_told (draft heap (objects_in heap x) (held_in heap held)) are.can)
    (omega (arith, whole.1, length-objects heap.fields x.nodes.items x.targets.items, length-rows heap.registers held.rows held.registers.items))
    (missed_row heap (objects_in heap x) (held_in heap held) rest are.can.sized are.can.objects are.can.registers
    (λ nil begins. other (subst BeginsObject (sym (e ∙ ap (λ (hs : List (List (Option ℕ))). flat_map registers_line hs ++ rest) nil)) begins))
    (omega (arith, length-rows heap.registers held.rows held.registers.items)) none)

-- objects are named that there aren't
pub rows_stop : (heap : Heap) (x : Objects) (bytes : List ℕ) (line : ℕ) → AreObjects heap x → (BeginsObject bytes → ⊥) → length x.nodes.items < x.meeting.met → line ≡ length x.nodes.items + 3 → StopsAt (so_far (draft heap (objects_in heap x) []) ++ bytes) line
rows_stop heap x bytes line are other large number =
    let whole = so_far_whole heap (objects_in heap x) [] are.is_open.sized are.is_open.objects (All-nil (AreRegisters heap.slots heap.registers)) in
    stopped (so_far (draft heap (objects_in heap x) []) ++ bytes) (so_far (draft heap (objects_in heap x) [])) bytes line refl whole.0
    (continued_open (draft heap (objects_in heap x) []) are.is_open)
    (omega (arith, whole.1, length-objects heap.fields x.nodes.items x.targets.items))
    (missed_row heap (objects_in heap x) [] bytes are.is_open.sized are.is_open.objects (All-nil (AreRegisters heap.slots heap.registers)) (λ nil begins. other begins) (omega (arith, are.is_open.sized.some_mutators))
    (λ w own more rest image of same e is.
    let told = has_told w image [] (own ∷ more) e in
    let met : (meeting (objects_in heap x)).met ≤ length (objects_in heap x) = subst (λ (os : List Node). (meeting os).met ≤ length os) same told.met in
    omega (arith, ap (λ (m : Meeting). m.met) are.meeting, length-objects heap.fields x.nodes.items x.targets.items)))

-- ---- the first lines

some_image : IsContinued (so_far (draft (record { slots = 1; fields = 1; registers = 1; mutators = 1 }) [] []))
some_image = continued_open (draft (record { slots = 1; fields = 1; registers = 1; mutators = 1 }) [] []) (record {
  sized = record {
    heap = record { some_slots = omega arith; most_slots = omega arith; some_fields = omega arith; most_fields = omega arith; some_registers = omega arith; most_registers = omega arith };
    some_mutators = omega arith;
    most_mutators = omega arith;
  };
  few = omega arith;
  objects = All-nil (IsNode 1 1);
  none = refl;
  due = omega arith;
})

pub header_stops : (bytes : List ℕ) → ((s : List ℕ) → bytes ≡ header_line ++ s → ⊥) → StopsAt bytes 1
header_stops bytes none =
    let (w, t, image, e) = some_image in
    stopped bytes [] bytes 1 refl (Rattle.std.proofs.Common.inl refl) (w, text w, image, refl) refl (missed_header bytes none)

pub heap_stops : (bytes rest : List ℕ) → bytes ≡ header_line ++ rest → ((slots fields registers mutators : ℕ) (s : List ℕ) → IsSized slots fields registers mutators → rest ≡ heap_line slots fields registers mutators ++ s → ⊥) → StopsAt bytes 2
heap_stops bytes rest e none =
    let (w, t, image, is) = some_image in
    stopped bytes header_line rest 2 e (Rattle.std.proofs.Common.inr (Rattle.std.specs.Prelude.codes "recycler image 1", refl))
    (w, heap_line w.slots w.fields w.registers w.mutators ++ (flat_map object_line w.objects ++ (flat_map registers_line w.held ++ end_line)), image, refl) refl (missed_heap rest none)

pub behind_two : (heap : Heap) (bytes rest behind : List ℕ) → bytes ≡ header_line ++ rest → rest ≡ heap_line heap.slots heap.fields heap.registers heap.mutators ++ behind → bytes ≡ so_far (draft heap [] []) ++ behind
behind_two heap bytes rest behind e f =
    e ∙ ap (λ (bs : List ℕ). header_line ++ bs) f ∙ regroup header_line (heap_line heap.slots heap.fields heap.registers heap.mutators) [] [] behind

pub behind_objects : (heap : Heap) (os : List Node) (bytes rest behind : List ℕ) → bytes ≡ so_far (draft heap [] []) ++ rest → rest ≡ flat_map object_line os ++ behind → bytes ≡ so_far (draft heap os []) ++ behind
behind_objects heap os bytes rest behind e f = e ∙ so_far_objects heap os rest behind f

pub behind_rows : (heap : Heap) (os : List Node) (hs : List (List (Option ℕ))) (bytes rest behind : List ℕ) → bytes ≡ so_far (draft heap os []) ++ rest → rest ≡ flat_map registers_line hs ++ behind → bytes ≡ so_far (draft heap os hs) ++ behind
behind_rows heap os hs bytes rest behind e f = e ∙ so_far_rows heap os hs rest behind f

-- ---- the last line

full : (heap : Heap) (held : Held) → held.rows ≡ heap.mutators → length (held_in heap held) ≡ heap.mutators
full heap held all = length-rows heap.registers held.rows held.registers.items ∙ all

pub end_stops : (heap : Heap) (x : Objects) (held : Held) (bytes rest : List ℕ) (line : ℕ) → AreHeld heap (objects_in heap x) held → held.rows ≡ heap.mutators → bytes ≡ so_far (draft heap (objects_in heap x) (held_in heap held)) ++ rest → ((s : List ℕ) → rest ≡ end_line ++ s → ⊥) → line ≡ (length x.nodes.items + heap.mutators) + 3 → StopsAt bytes line
end_stops heap x held bytes rest line are all e none number =
    let whole = so_far_whole heap (objects_in heap x) (held_in heap held) are.can.sized are.can.objects are.can.registers in
    stopped bytes (so_far (draft heap (objects_in heap x) (held_in heap held))) rest line e whole.0 (continued_told (draft heap (objects_in heap x) (held_in heap held)) are.can)
    (omega (arith, whole.1, length-objects heap.fields x.nodes.items x.targets.items, full heap held all))
    (missed_end heap (objects_in heap x) (held_in heap held) rest are.can (full heap held all) none)

whole_text : (heap : Heap) (os : List Node) (hs : List (List (Option ℕ))) → text (draft heap os hs) ≡ so_far (draft heap os hs) ++ end_line
whole_text heap os hs = regroup header_line (heap_line heap.slots heap.fields heap.registers heap.mutators) (flat_map object_line os) (flat_map registers_line hs) end_line

pub read_image : (heap : Heap) (x : Objects) (held : Held) → AreHeld heap (objects_in heap x) held → held.rows ≡ heap.mutators → IsImage (draft heap (objects_in heap x) (held_in heap held))
read_image heap x held are all = closed (draft heap (objects_in heap x) (held_in heap held)) are.can (full heap held all)

pub read_text : (heap : Heap) (x : Objects) (held : Held) (bytes rest behind : List ℕ) → bytes ≡ so_far (draft heap (objects_in heap x) (held_in heap held)) ++ rest → rest ≡ end_line ++ behind → length behind ≡ 0 → text (draft heap (objects_in heap x) (held_in heap held)) ≡ bytes
read_text heap x held bytes rest behind e f none =
    whole_text heap (objects_in heap x) (held_in heap held)
    ∙ ap (λ (bs : List ℕ). so_far (draft heap (objects_in heap x) (held_in heap held)) ++ bs) (sym (append-nil end_line) ∙ ap (λ (bs : List ℕ). end_line ++ bs) (sym (nil behind none)) ∙ sym f)
    ∙ sym e
  where
    nil : (xs : List ℕ) → length xs ≡ 0 → xs ≡ []
    nil [] e = refl
    nil (x ∷ xs) e = absurd (omega arith)

-- it is the only one
pub only_image : (heap : Heap) (x : Objects) (held : Held) (bytes : List ℕ) → AreHeld heap (objects_in heap x) held → held.rows ≡ heap.mutators → text (draft heap (objects_in heap x) (held_in heap held)) ≡ bytes → (other : ImageContents) → IsImage other → text other ≡ bytes → other ≡ draft heap (objects_in heap x) (held_in heap held)
only_image heap x held bytes are all e other image is =
    (same_image heap (objects_in heap x) (held_in heap held) are.can (full heap held all) other end_line image (is ∙ sym e ∙ whole_text heap (objects_in heap x) (held_in heap held))).0

-- bytes behind the last line
pub more_stops : (heap : Heap) (x : Objects) (held : Held) (bytes rest behind : List ℕ) (line : ℕ) → AreHeld heap (objects_in heap x) held → held.rows ≡ heap.mutators → bytes ≡ so_far (draft heap (objects_in heap x) (held_in heap held)) ++ rest → rest ≡ end_line ++ behind → (length behind ≡ 0 → ⊥) → line ≡ (length x.nodes.items + heap.mutators) + 4 → StopsAt bytes line
more_stops heap x held bytes rest behind line are all e f some number =
    let so = so_far_whole heap (objects_in heap x) (held_in heap held) are.can.sized are.can.objects are.can.registers in
    let whole = end_whole (so_far (draft heap (objects_in heap x) (held_in heap held))) so.0 in
    let parts : bytes ≡ (so_far (draft heap (objects_in heap x) (held_in heap held)) ++ end_line) ++ behind
    = e ∙ ap (λ (bs : List ℕ). so_far (draft heap (objects_in heap x) (held_in heap held)) ++ bs) f ∙ sym (append_assoc (so_far (draft heap (objects_in heap x) (held_in heap held))) end_line behind) in
    record {
      before = so_far (draft heap (objects_in heap x) (held_in heap held)) ++ end_line;
      behind = behind;
      parts = parts;
      whole = whole.0;
      number = omega (arith, whole.1, so.1, length-objects heap.fields x.nodes.items x.targets.items, full heap held all);
      continued = (draft heap (objects_in heap x) (held_in heap held), [], read_image heap x held are all, whole_text heap (objects_in heap x) (held_in heap held) ∙ sym (append-nil (so_far (draft heap (objects_in heap x) (held_in heap held)) ++ end_line)));
      not_with = λ next after none is goes_on.
          let (w, t, image, same) = goes_on in
          nothing w (next ++ line_feed ++ t) image (same ∙ append_assoc (so_far (draft heap (objects_in heap x) (held_in heap held)) ++ end_line) (next ++ line_feed) t) (omega (arith, length-append (next ++ line_feed) t, length-append next line_feed));
      no_text = λ spelled.
          let (w, image, is) = spelled in
          nothing w behind image (sym is ∙ parts) (above behind some);
    }
  where
    above : (xs : List ℕ) → (length xs ≡ 0 → ⊥) → 0 < length xs
    above [] h = absurd (h refl)
    above (y ∷ ys) h = omega arith

    nothing : (w : ImageContents) (t : List ℕ) → IsImage w → text w ≡ (so_far (draft heap (objects_in heap x) (held_in heap held)) ++ end_line) ++ t → 0 < length t → ⊥
    nothing w t image is some_more =
        let same = same_image heap (objects_in heap x) (held_in heap held) are.can (full heap held all) w (end_line ++ t) image (is ∙ append_assoc (so_far (draft heap (objects_in heap x) (held_in heap held))) end_line t) in
        omega (arith, ap (length {A = ℕ}) same.1, length-append end_line t)

-- ---- one line more
pub objects_on : (heap : Heap) (before after : Objects) (bytes rest behind : List ℕ) → bytes ≡ flat_map object_line (objects_in heap before) ++ rest → IsObjectRead heap rest behind before after → bytes ≡ flat_map object_line (objects_in heap after) ++ behind
objects_on heap before after bytes rest behind e read =
    let first : List ℕ = flat_map object_line (objects_in heap before) in
    let step : flat_map object_line (objects_in heap after) ≡ first ++ object_line read.node
    = ap (flat_map object_line) read.more ∙ flat_map-append object_line (objects_in heap before) (read.node ∷ []) ∙ ap (λ (bs : List ℕ). first ++ bs) (append-nil (object_line read.node)) in
    e ∙ ap (λ (bs : List ℕ). first ++ bs) read.line ∙ sym (append_assoc first (object_line read.node) behind) ∙ ap (λ (bs : List ℕ). bs ++ behind) (sym step)

pub rows_on : (heap : Heap) (objects : List Node) (before after : Held) (bytes rest behind : List ℕ) → bytes ≡ flat_map registers_line (held_in heap before) ++ rest → IsRowRead heap objects rest behind before after → bytes ≡ flat_map registers_line (held_in heap after) ++ behind
rows_on heap objects before after bytes rest behind e read =
    let first : List ℕ = flat_map registers_line (held_in heap before) in
    let step : flat_map registers_line (held_in heap after) ≡ first ++ registers_line read.own
    = ap (flat_map registers_line) read.more ∙ flat_map-append registers_line (held_in heap before) (read.own ∷ []) ∙ ap (λ (bs : List ℕ). first ++ bs) (append-nil (registers_line read.own)) in
    e ∙ ap (λ (bs : List ℕ). first ++ bs) read.line ∙ sym (append_assoc first (registers_line read.own) behind) ∙ ap (λ (bs : List ℕ). bs ++ behind) (sym step)

-- ---- what is told is what was made
pub told_line : {T : Type 0} (a b : ℕ) → ◌≡◌ {A = Result T ImageError} (Err (Bad a)) (Err (Bad b)) → a ≡ b
told_line a b e = cc

pub told_error : {T : Type 0} (x y : ImageError) → ◌≡◌ {A = Result T ImageError} (Err x) (Err y) → x ≡ y
told_error x y e = cc

-- ---- there are no more objects than slots
pub few_objects : (heap : Heap) (x : Objects) → AreObjects heap x → length x.nodes.items ≤ 65535
few_objects heap x are = omega (arith, length-objects heap.fields x.nodes.items x.targets.items, are.is_open.few, are.is_open.sized.heap.most_slots)
