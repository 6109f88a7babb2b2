-- The registers of a mutator are read and join the others.
use Rattle.std.proofs.Common.{◌≡◌, ℕ, zero, suc, ◌+◌, ◌-◌, ◌*◌, ◌<◌, ◌≤◌, List, [], ◌∷◌, ◌++◌, Option, All, length, take, drop, refl, sym, ap, subst, ◌∙◌, arith, length-append, length-drop, append_assoc, append-nil}
use Rattle.std.proofs.lemmas.Grind.{flat_map-append}
use Rattle.std.proofs.lemmas.List.{take_all, take-append-le, drop-append-le}
use Rattle.std.proofs.lemmas.List.Elements.{All-push, All-head, All-tail}
use Rattle.std.proofs.Math.Nat.{suc-mul}
use Rattle.rec_model.specs.Heap.{roots}
use Rattle.rec_model.specs.Reach.{named}
use Rattle.rec_image.specs.declared.held.Held.{Held}
use Rattle.rec_image.specs.declared.line.Heap.{Heap}
use Rattle.rec_image.specs.declared.objects.Objects.{Objects}
use Rattle.rec_image.specs.declared.meeting.Meeting.{Meeting}
use Rattle.rec_image.specs.Drafts.{unmet, meets_all, meeting, naming, least, rows_of, held_in, draft, objects_in, AreObjects, AreRegistersRead, AreHeld, IsRowRead, IsOfHeap, NoRowNext}
use Rattle.rec_image.specs.Fields.{IsKept}
use Rattle.rec_image.specs.Image.{Node, ImageContents, AreRegisters, IsImage, registers_line}
use Rattle.rec_image.proofs.Continuing.{HasTold, closed, has_told}
use Rattle.rec_image.proofs.Lines.{meets-append}
use Rattle.rec_image.proofs.Prefixes.{registers_front}

pub length-rows : (registers rows : ℕ) (held : List (Option ℕ)) → length (rows_of registers rows held) ≡ rows
length-rows registers zero held = refl
length-rows registers (suc rows) held = ap suc (length-rows registers rows (drop registers held))

rows-push : (registers rows next : ℕ) (held own : List (Option ℕ)) → next ≡ rows + 1 → length held ≡ rows * registers → length own ≡ registers → rows_of registers next (held ++ own) ≡ rows_of registers rows held ++ own ∷ []
rows-push registers rows zero held own n size is = absurd (omega arith)
rows-push registers zero (suc next) [] own n size is =
    ap (λ (k : ℕ). take registers own ∷ rows_of registers k (drop registers own)) (let e : next ≡ 0 = omega arith in e)
    ∙ ap (λ (xs : List (Option ℕ)). xs ∷ []) (take_all registers own (omega arith))
rows-push registers zero (suc next) (x ∷ held) own n size is = absurd (omega arith)
rows-push registers (suc rows) (suc next) held own n size is =
    let more : length held ≡ rows * registers + registers = size ∙ suc-mul rows registers in
    let fits : registers ≤ length held = omega arith in
    ap (λ (xs : List (Option ℕ)). xs ∷ rows_of registers next (drop registers (held ++ own))) (take-append-le registers held own fits)
    ∙ ap (λ (xs : List (Option ℕ)). take registers held ∷ rows_of registers next xs) (drop-append-le registers held own fits)
    ∙ ap (λ (xs : List (List (Option ℕ))). take registers held ∷ xs) (rows-push registers rows next (drop registers held) own (omega arith) (omega (arith, length-drop registers held)) is)

-- ---- what registers name

naming-push : (held : List (List (Option ℕ))) (own : List (Option ℕ)) → naming (held ++ own ∷ []) ≡ meets_all (naming held) (named own)
naming-push held own =
    ap (meets_all unmet) (flat_map-append named held (own ∷ []) ∙ ap (λ (ns : List ℕ). roots held ++ ns) (append-nil (named own)))
    ∙ meets-append unmet (roots held) (named own)

-- the image's next registers
next_of : (P : List (Option ℕ) → Type 0) (held more : List (List (Option ℕ))) (own : List (Option ℕ)) → All P (held ++ own ∷ more) → P own
next_of P [] more own all = All-head P own more all
next_of P (first ∷ held) more own all = next_of P held more own (All-tail P first (held ++ own ∷ more) all)

next_are : (heap : Heap) (w : ImageContents) (held more : List (List (Option ℕ))) (own : List (Option ℕ)) → IsImage w → IsOfHeap heap w → w.held ≡ held ++ own ∷ more → AreRegisters heap.slots heap.registers own
next_are heap w held more own image of e =
    subst (λ (n : ℕ). AreRegisters n heap.registers own) of.slots (subst (λ (n : ℕ). AreRegisters w.slots n own) of.registers (next_of (AreRegisters w.slots w.registers) held more own (subst (All (AreRegisters w.slots w.registers)) e image.registers)))

-- the registers that were read, with those before them
row_more : (heap : Heap) (before after : Held) (bytes rest : List ℕ) (met now : Meeting) → length before.registers.items ≡ before.rows * heap.registers → after.rows ≡ before.rows + 1 → (read : AreRegistersRead heap.slots heap.registers bytes rest before.registers.items after.registers.items met now) → held_in heap after ≡ held_in heap before ++ read.own ∷ []
row_more heap before after bytes rest met now size next read =
    ap (rows_of heap.registers after.rows) read.more ∙ rows-push heap.registers before.rows after.rows before.registers.items read.own next size read.are.number

row_naming : (heap : Heap) (objects : List Node) (before after : Held) (bytes rest : List ℕ) → AreHeld heap objects before → after.rows ≡ before.rows + 1 → AreRegistersRead heap.slots heap.registers bytes rest before.registers.items after.registers.items before.naming after.naming → after.naming ≡ naming (held_in heap after)
row_naming heap objects before after bytes rest are next read =
    read.meeting ∙ ap (λ (m : Meeting). meets_all m (named read.own)) are.naming ∙ sym (naming-push (held_in heap before) read.own)
    ∙ ap naming (sym (row_more heap before after bytes rest before.naming after.naming are.size next read))

pub row_read : (heap : Heap) (objects : List Node) (before after : Held) (bytes rest : List ℕ) (count left : ℕ) → AreHeld heap objects before → before.rows < heap.mutators → after.rows ≡ before.rows + 1 → AreRegistersRead heap.slots heap.registers bytes rest before.registers.items after.registers.items before.naming after.naming
    → count ≡ length objects → left ≡ (heap.mutators - after.rows) * heap.registers → (after.naming.due ≡ 0) × (after.naming.met ≤ count) × (least (meeting objects) count ≤ after.naming.met + left) → IsRowRead heap objects bytes rest before after
row_read heap objects before after bytes rest count left are within next read is_count is_left enough =
    let more : held_in heap after ≡ held_in heap before ++ read.own ∷ [] = row_more heap before after bytes rest before.naming after.naming are.size next read in
    let names : after.naming ≡ naming (held_in heap after) = row_naming heap objects before after bytes rest are next read in
    record {
      own = read.own;
      line = read.line;
      rows = next;
      more = more;
      are = record {
        size = omega (arith, ap (length {A = Option ℕ}) read.more, length-append before.registers.items read.own, read.are.number, are.size, ap (λ (n : ℕ). n * heap.registers) (let e : after.rows ≡ suc before.rows = omega arith in e), suc-mul before.rows heap.registers);
        can = record {
          sized = are.can.sized;
          few = are.can.few;
          objects = are.can.objects;
          registers = subst (All (AreRegisters heap.slots heap.registers)) (sym more) (All-push (AreRegisters heap.slots heap.registers) (held_in heap before) read.own are.can.registers read.are);
          rows = omega (arith, length-rows heap.registers after.rows after.registers.items);
          met = are.can.met;
          grow = ap (λ (m : Meeting). m.due) (sym names) ∙ enough.0;
          named = omega (arith, ap (λ (m : Meeting). m.met) names, enough.1);
          reach = subst (λ (n : ℕ). least (meeting objects) n ≤ (naming (held_in heap after)).met + (heap.mutators - length (held_in heap after)) * heap.registers) is_count
              (subst (λ (n : ℕ). least (meeting objects) count ≤ (naming (held_in heap after)).met + (heap.mutators - n) * heap.registers) (sym (length-rows heap.registers after.rows after.registers.items))
              (subst (λ (m : Meeting). least (meeting objects) count ≤ m.met + (heap.mutators - after.rows) * heap.registers) names (subst (λ (n : ℕ). least (meeting objects) count ≤ after.naming.met + n) is_left enough.2)));
        };
        naming = names;
      };
    }

-- an image with these registers has named enough
pub no_row : (heap : Heap) (objects : List Node) (held : List (List (Option ℕ))) (bytes : List ℕ) → ((own : List (Option ℕ)) (t : List ℕ) → AreRegisters heap.slots heap.registers own → bytes ≡ registers_line own ++ t → ⊥) → NoRowNext heap objects held bytes
no_row heap objects held bytes none = λ w own more t image of same e. none own t (next_are heap w held more own image of e)

pub not_enough : (heap : Heap) (objects : List Node) (before after : Held) (bytes rest : List ℕ) (count left : ℕ) → AreHeld heap objects before → after.rows ≡ before.rows + 1 → AreRegistersRead heap.slots heap.registers bytes rest before.registers.items after.registers.items before.naming after.naming
    → count ≡ length objects → left ≡ (heap.mutators - after.rows) * heap.registers → ((after.naming.due ≡ 0) × (after.naming.met ≤ count) × (least (meeting objects) count ≤ after.naming.met + left) → ⊥) → NoRowNext heap objects (held_in heap before) bytes
not_enough heap objects before after bytes rest count left are next read is_count is_left none = λ w own more t image of same e is.
    let alike : read.own ≡ own = (registers_front heap.slots heap.registers read.own own rest t are.can.sized.heap.most_slots read.are (next_are heap w (held_in heap before) more own image of e) (sym read.line ∙ is)).0 in
    let all : held_in heap after ≡ held_in heap before ++ own ∷ [] = row_more heap before after bytes rest before.naming after.naming are.size next read ∙ ap (λ (xs : List (Option ℕ)). held_in heap before ++ xs ∷ []) alike in
    let parts : w.held ≡ held_in heap after ++ more = e ∙ sym (append_assoc (held_in heap before) (own ∷ []) more) ∙ ap (λ (hs : List (List (Option ℕ))). hs ++ more) (sym all) in
    let told : HasTold w (held_in heap after) = has_told w image (held_in heap after) more parts in
    let names : after.naming ≡ naming (held_in heap after) = row_naming heap objects before after bytes rest are next read in
    none (
      ap (λ (m : Meeting). m.due) names ∙ told.grow,
      omega (arith, ap (λ (m : Meeting). m.met) names, told.named, ap (λ (os : List Node). length os) same),
      subst (λ (n : ℕ). least (meeting objects) count ≤ after.naming.met + n) (sym is_left)
          (subst (λ (m : Meeting). least (meeting objects) count ≤ m.met + (heap.mutators - after.rows) * heap.registers) (sym names)
          (subst (λ (n : ℕ). least (meeting objects) n ≤ (naming (held_in heap after)).met + (heap.mutators - after.rows) * heap.registers) (sym is_count)
          (subst (λ (os : List Node). least (meeting os) (length os) ≤ (naming (held_in heap after)).met + (heap.mutators - after.rows) * heap.registers) same
          (subst (λ (n : ℕ). least (meeting w.objects) (length w.objects) ≤ (naming (held_in heap after)).met + (heap.mutators - n) * heap.registers) (length-rows heap.registers after.rows after.registers.items)
          (subst (λ (n : ℕ). least (meeting w.objects) (length w.objects) ≤ (naming (held_in heap after)).met + (n - length (held_in heap after)) * heap.registers) of.mutators
          (subst (λ (n : ℕ). least (meeting w.objects) (length w.objects) ≤ (naming (held_in heap after)).met + (w.mutators - length (held_in heap after)) * n) of.registers told.reach)))))),
    )

-- what is least due of the objects that were read
pub least_of : (heap : Heap) (x : Objects) (found count : ℕ) → AreObjects heap x → found ≡ least x.meeting (length x.nodes.items) → count ≡ length x.nodes.items → found ≡ least (meeting (objects_in heap x)) count
least_of heap x found count are is is_count = is ∙ ap (λ (m : Meeting). least m (length x.nodes.items)) are.meeting ∙ ap (least (meeting (objects_in heap x))) (sym is_count)

-- what an `Image` keeps
pub kept : (heap : Heap) (x : Objects) (held : Held) → AreObjects heap x → AreHeld heap (objects_in heap x) held → held.rows ≡ heap.mutators → IsKept (record { heap = heap; nodes = x.nodes; fields = x.targets; registers = held.registers })
kept heap x held are has all = record {
  image = subst (λ (n : ℕ). IsImage (draft heap (objects_in heap x) (rows_of heap.registers n held.registers.items))) all
      (closed (draft heap (objects_in heap x) (held_in heap held)) has.can (length-rows heap.registers held.rows held.registers.items ∙ all));
  fields = are.size;
  registers = has.size ∙ ap (λ (n : ℕ). n * heap.registers) all;
}
