-- The first line with which no image goes on: an image that goes on from the lines before it has another one there.
use Rattle.std.proofs.Common.{◌≡◌, ℕ, ◌+◌, ◌^◌, ◌<◌, inl, inr, Bool, true, false, List, [], ◌∷◌, ◌++◌, Option, All, length, get_or, refl, sym, ap, subst, ◌∙◌, arith, length-append, append_assoc, append-nil}
use Rattle.std.specs.Prelude.{codes}
use Rattle.std.specs.Fmt.{decimal}
use Rattle.std.specs.List.{flat_map}
use Rattle.std.proofs.lemmas.List.Elements.{All-head, All-tail}
use Rattle.rec_report.specs.Text.{line_feed}
use Rattle.rec_image.specs.declared.line.Heap.{Heap}
use Rattle.rec_image.specs.Drafts.{BeginsObject, CanClose, IsOfHeap, NoObjectNext, NoRowNext, draft, so_far}
use Rattle.rec_image.specs.Image.{AreRegisters, AreWhole, ImageContents, IsContinued, IsImage, IsNode, IsSized, Node, StopsAt, end_line, feeds, header_line, heap_line, node_head, object_line, registers_line, text}
use Rattle.rec_image.proofs.Continuing.{regroup}
use Rattle.rec_image.proofs.Prefixes.{IsLine, feed_ends, feeds-append, line_front, lines_front, no_feed_numeral, numeral_front, object_front, object_is_line, object_parts, registers_front, registers_is_line}

-- each image that goes on from the lines before has a next line, and it isn't at the front of the rest
abbrev Misses : (before rest : List ℕ) → Type 0
Misses before rest = (w : ImageContents) (t : List ℕ) → IsImage w → text w ≡ before ++ t → (line : List ℕ) × (after : List ℕ) × IsLine line × (t ≡ line ++ after) × ((s : List ℕ) → rest ≡ line ++ s → ⊥)

pub stopped : (bytes before rest : List ℕ) (line : ℕ) → bytes ≡ before ++ rest → AreWhole before → IsContinued before → line ≡ feeds before + 1 → Misses before rest → StopsAt bytes line
stopped bytes before rest line parts whole goes number misses = record {
  before = before;
  behind = rest;
  parts = parts;
  whole = whole;
  number = number;
  continued = goes;
  not_with = λ next after none e goes_on.
      let (w, t, image, is) = goes_on in
      let (own, later, is_line, same, other) = misses w (next ++ (line_feed ++ t)) image (is ∙ append_assoc before (next ++ line_feed) t ∙ ap (λ (bs : List ℕ). before ++ bs) (append_assoc next line_feed t)) in
      let body : next ≡ is_line.body = (line_front next is_line.body t later none is_line.one (same ∙ ap (λ (bs : List ℕ). bs ++ later) is_line.is ∙ append_assoc is_line.body line_feed later)).0 in
      other after (e ∙ ap (λ (bs : List ℕ). bs ++ (line_feed ++ after)) body ∙ sym (append_assoc is_line.body line_feed after) ∙ ap (λ (bs : List ℕ). bs ++ after) (sym is_line.is));
  no_text = λ spelled.
      let (w, image, is) = spelled in
      let (own, later, is_line, same, other) = misses w rest image (sym is ∙ parts) in
      other later same;
}

-- ---- what the heap's line tells

heap_groups : (h a b c d sp lf t : List ℕ) → (h ++ (a ++ (sp ++ (b ++ (sp ++ (c ++ (sp ++ (d ++ lf)))))))) ++ t ≡ h ++ (a ++ (sp ++ (b ++ (sp ++ (c ++ (sp ++ (d ++ (lf ++ t))))))))
heap_groups h a b c d sp lf t = simp append_assoc

heap_parts : (slots fields registers mutators : ℕ) (t : List ℕ) → heap_line slots fields registers mutators ++ t ≡ codes "heap " ++ (decimal slots ++ (32 ∷ (decimal fields ++ (32 ∷ (decimal registers ++ (32 ∷ (decimal mutators ++ (10 ∷ t))))))))
heap_parts slots fields registers mutators t = heap_groups (codes "heap ") (decimal slots) (decimal fields) (decimal registers) (decimal mutators) (codes " ") line_feed t

-- the numbers of a heap are small
record AreSmall (slots fields registers mutators : ℕ) : Type 0 where
  slots_small : slots < 2 ^ 32
  fields_small : fields < 2 ^ 32
  registers_small : registers < 2 ^ 32
  mutators_small : mutators < 2 ^ 32

small : (slots fields registers mutators : ℕ) → IsSized slots fields registers mutators → AreSmall slots fields registers mutators
small slots fields registers mutators sized = record {
  slots_small = omega (arith, sized.heap.most_slots);
  fields_small = omega (arith, sized.heap.most_fields);
  registers_small = omega (arith, sized.heap.most_registers);
  mutators_small = omega (arith, sized.most_mutators);
}

heap_front : (a b c d a2 b2 c2 d2 : ℕ) (s t : List ℕ) → AreSmall a b c d → AreSmall a2 b2 c2 d2 → heap_line a b c d ++ s ≡ heap_line a2 b2 c2 d2 ++ t → (a ≡ a2) × (b ≡ b2) × (c ≡ c2) × (d ≡ d2) × (s ≡ t)
heap_front a b c d a2 b2 c2 d2 s t p q e =
    let whole : codes "heap " ++ (decimal a ++ (32 ∷ (decimal b ++ (32 ∷ (decimal c ++ (32 ∷ (decimal d ++ (10 ∷ s)))))))) ≡ codes "heap " ++ (decimal a2 ++ (32 ∷ (decimal b2 ++ (32 ∷ (decimal c2 ++ (32 ∷ (decimal d2 ++ (10 ∷ t))))))))
    = sym (heap_parts a b c d s) ∙ e ∙ heap_parts a2 b2 c2 d2 t in
    let first : decimal a ++ (32 ∷ (decimal b ++ (32 ∷ (decimal c ++ (32 ∷ (decimal d ++ (10 ∷ s))))))) ≡ decimal a2 ++ (32 ∷ (decimal b2 ++ (32 ∷ (decimal c2 ++ (32 ∷ (decimal d2 ++ (10 ∷ t))))))) = cc in
    let one = numeral_front a a2 (32 ∷ (decimal b ++ (32 ∷ (decimal c ++ (32 ∷ (decimal d ++ (10 ∷ s))))))) (32 ∷ (decimal b2 ++ (32 ∷ (decimal c2 ++ (32 ∷ (decimal d2 ++ (10 ∷ t))))))) p.slots_small q.slots_small refl refl first in
    let second : decimal b ++ (32 ∷ (decimal c ++ (32 ∷ (decimal d ++ (10 ∷ s))))) ≡ decimal b2 ++ (32 ∷ (decimal c2 ++ (32 ∷ (decimal d2 ++ (10 ∷ t))))) = behind_byte 32 _ _ one.1 in
    let two = numeral_front b b2 (32 ∷ (decimal c ++ (32 ∷ (decimal d ++ (10 ∷ s))))) (32 ∷ (decimal c2 ++ (32 ∷ (decimal d2 ++ (10 ∷ t))))) p.fields_small q.fields_small refl refl second in
    let third : decimal c ++ (32 ∷ (decimal d ++ (10 ∷ s))) ≡ decimal c2 ++ (32 ∷ (decimal d2 ++ (10 ∷ t))) = behind_byte 32 _ _ two.1 in
    let three = numeral_front c c2 (32 ∷ (decimal d ++ (10 ∷ s))) (32 ∷ (decimal d2 ++ (10 ∷ t))) p.registers_small q.registers_small refl refl third in
    let fourth : decimal d ++ (10 ∷ s) ≡ decimal d2 ++ (10 ∷ t) = behind_byte 32 _ _ three.1 in
    let four = numeral_front d d2 (10 ∷ s) (10 ∷ t) p.mutators_small q.mutators_small (feed_ends s) (feed_ends t) fourth in
    (one.0, two.0, three.0, four.0, behind_byte 10 s t four.1)
  where
    behind_byte : (c : ℕ) (xs ys : List ℕ) → c ∷ xs ≡ c ∷ ys → xs ≡ ys
    behind_byte c xs ys e = cc

-- ---- what is behind these lines in an image's text

-- the numbers are told, and the objects and registers go on
behind_heap : (w : ImageContents) (heap : Heap) (os : List Node) (hs : List (List (Option ℕ))) (t : List ℕ) → IsImage w → IsSized heap.slots heap.fields heap.registers heap.mutators → text w ≡ so_far (draft heap os hs) ++ t
    → IsOfHeap heap w × (flat_map object_line os ++ (flat_map registers_line hs ++ t) ≡ flat_map object_line w.objects ++ (flat_map registers_line w.held ++ end_line))
behind_heap w heap os hs t image sized e =
    let whole : header_line ++ (heap_line w.slots w.fields w.registers w.mutators ++ (flat_map object_line w.objects ++ (flat_map registers_line w.held ++ end_line)))
    ≡ header_line ++ (heap_line heap.slots heap.fields heap.registers heap.mutators ++ (flat_map object_line os ++ (flat_map registers_line hs ++ t)))
    = e ∙ sym (regroup header_line (heap_line heap.slots heap.fields heap.registers heap.mutators) (flat_map object_line os) (flat_map registers_line hs) t) in
    let rest : heap_line w.slots w.fields w.registers w.mutators ++ (flat_map object_line w.objects ++ (flat_map registers_line w.held ++ end_line))
    ≡ heap_line heap.slots heap.fields heap.registers heap.mutators ++ (flat_map object_line os ++ (flat_map registers_line hs ++ t)) = behind_header _ _ whole in
    let told = heap_front w.slots w.fields w.registers w.mutators heap.slots heap.fields heap.registers heap.mutators
    (flat_map object_line w.objects ++ (flat_map registers_line w.held ++ end_line)) (flat_map object_line os ++ (flat_map registers_line hs ++ t))
    (small w.slots w.fields w.registers w.mutators image.sized) (small heap.slots heap.fields heap.registers heap.mutators sized) rest in
    (record { slots = told.0; fields = told.1; registers = told.2; mutators = told.3 }, sym told.4)
  where
    behind_header : (s t : List ℕ) → header_line ++ s ≡ header_line ++ t → s ≡ t
    behind_header s t e = cc

object_first : (node : Node) (t : List ℕ) → BeginsObject (object_line node ++ t)
object_first node t = subst BeginsObject (sym (object_parts node t)) (at node.leaf (decimal node.label ++ (flat_map Rattle.rec_image.specs.Image.word (Rattle.rec_image.specs.Image.told_fields node.leaf node.fields) ++ 10 ∷ t)))
  where
    at : (leaf : Bool) (t : List ℕ) → BeginsObject (node_head leaf ++ t)
    at true t = inr refl
    at false t = inl refl

-- a mutator's line, or the last one, doesn't begin as an object's
no_object_first : (held : List (List (Option ℕ))) (t : List ℕ) → BeginsObject (flat_map registers_line held ++ (end_line ++ t)) → ⊥
no_object_first [] t (inl e) = omega arith
no_object_first [] t (inr e) = omega arith
no_object_first (own ∷ held) t (inl e) = omega arith
no_object_first (own ∷ held) t (inr e) = omega arith

no_object_held : (held : List (List (Option ℕ))) (node : Node) (s : List ℕ) → object_line node ++ s ≡ flat_map registers_line held ++ end_line → ⊥
no_object_held held node s e = no_object_first held [] (subst BeginsObject (e ∙ ap (λ (bs : List ℕ). flat_map registers_line held ++ bs) (sym (append-nil end_line))) (object_first node s))

nodes_of : (heap : Heap) (w : ImageContents) (os : List Node) → IsOfHeap heap w → All (IsNode heap.slots heap.fields) os → All (IsNode w.slots w.fields) os
nodes_of heap w os of all = subst (λ (n : ℕ). All (IsNode n w.fields) os) (sym of.slots) (subst (λ (n : ℕ). All (IsNode heap.slots n) os) (sym of.fields) all)

rows_are : (heap : Heap) (w : ImageContents) (hs : List (List (Option ℕ))) → IsOfHeap heap w → All (AreRegisters heap.slots heap.registers) hs → All (AreRegisters w.slots w.registers) hs
rows_are heap w hs of all = subst (λ (n : ℕ). All (AreRegisters n w.registers) hs) (sym of.slots) (subst (λ (n : ℕ). All (AreRegisters heap.slots n) hs) (sym of.registers) all)

behind_objects : (w : ImageContents) (heap : Heap) (os : List Node) (hs : List (List (Option ℕ))) (t : List ℕ) → IsImage w → IsOfHeap heap w → All (IsNode heap.slots heap.fields) os → flat_map object_line os ++ (flat_map registers_line hs ++ t) ≡ flat_map object_line w.objects ++ (flat_map registers_line w.held ++ end_line)
    → (more : List Node) × (w.objects ≡ os ++ more) × (flat_map registers_line hs ++ t ≡ flat_map object_line more ++ (flat_map registers_line w.held ++ end_line))
behind_objects w heap os hs t image of nodes e =
    lines_front (IsNode w.slots w.fields) object_line (flat_map registers_line w.held ++ end_line)
    (λ a b x y p q same. object_front w.slots w.fields a b x y image.sized.heap.most_slots p q same)
    (λ a x same. no_object_held w.held a x same)
    os w.objects (flat_map registers_line hs ++ t) (nodes_of heap w os of nodes) image.objects e

no_registers_end : (own : List (Option ℕ)) (s t : List ℕ) → registers_line own ++ s ≡ end_line ++ t → ⊥
no_registers_end own s t e = let clash : ◌≡◌ {A = ℕ} 114 101 = ap (λ (bs : List ℕ). get_or bs 0 0) e in omega arith

behind_rows : (w : ImageContents) (heap : Heap) (hs : List (List (Option ℕ))) (t : List ℕ) → IsImage w → IsOfHeap heap w → All (AreRegisters heap.slots heap.registers) hs → flat_map registers_line hs ++ t ≡ flat_map registers_line w.held ++ end_line
    → (more : List (List (Option ℕ))) × (w.held ≡ hs ++ more) × (t ≡ flat_map registers_line more ++ end_line)
behind_rows w heap hs t image of rows e =
    lines_front (AreRegisters w.slots w.registers) registers_line end_line
    (λ a b x y p q same. registers_front w.slots w.registers a b x y image.sized.heap.most_slots p q same)
    (λ a x same. no_registers_end a x [] (same ∙ sym (append-nil end_line)))
    hs w.held t (rows_are heap w hs of rows) image.registers e

-- ---- each place where a line can be missed

pub missed_object : (heap : Heap) (os : List Node) (rest : List ℕ) → IsSized heap.slots heap.fields heap.registers heap.mutators → All (IsNode heap.slots heap.fields) os → NoObjectNext heap os rest → BeginsObject rest → Misses (so_far (draft heap os [])) rest
missed_object heap os rest sized nodes none begins = λ w t image e.
    let (of, all) = behind_heap w heap os [] t image sized e in
    let (more, same, tail) = behind_objects w heap os [] t image of nodes all in
    next w t image of more same w.held refl tail
  where
    next : (w : ImageContents) (t : List ℕ) → IsImage w → IsOfHeap heap w → (more : List Node) → w.objects ≡ os ++ more → (held : List (List (Option ℕ))) → w.held ≡ held → t ≡ flat_map object_line more ++ (flat_map registers_line held ++ end_line) → (line : List ℕ) × (after : List ℕ) × IsLine line × (t ≡ line ++ after) × ((s : List ℕ) → rest ≡ line ++ s → ⊥)
    next w t image of [] same [] is tail = absurd (omega (arith, image.mutators, image.sized.some_mutators, ap (length {A = List (Option ℕ)}) is))
    next w t image of [] same (own ∷ held) is tail = (
      registers_line own,
      flat_map registers_line held ++ end_line,
      registers_is_line w.slots w.registers own image.sized.heap.most_slots (All-head (AreRegisters w.slots w.registers) own held (subst (All (AreRegisters w.slots w.registers)) is image.registers)),
      tail ∙ append_assoc (registers_line own) (flat_map registers_line held) end_line,
      λ s at. clash begins (ap (λ (bs : List ℕ). get_or bs 0 0) at),
    )
      where
        clash : BeginsObject rest → get_or rest 0 0 ≡ 114 → ⊥
        clash (inl e) at = omega arith
        clash (inr e) at = omega arith
    next w t image of (node ∷ more) same held is tail = (
      object_line node,
      flat_map object_line more ++ (flat_map registers_line held ++ end_line),
      object_is_line w.slots w.fields node image.sized.heap.most_slots (own_node os w.objects image.objects same),
      tail ∙ append_assoc (object_line node) (flat_map object_line more) (flat_map registers_line held ++ end_line),
      λ s at. none w node more s image of same at,
    )
      where
        own_node : (xs all : List Node) → All (IsNode w.slots w.fields) all → all ≡ xs ++ node ∷ more → IsNode w.slots w.fields node
        own_node xs all are e = at xs (subst (All (IsNode w.slots w.fields)) e are)
          where
            at : (xs : List Node) → All (IsNode w.slots w.fields) (xs ++ node ∷ more) → IsNode w.slots w.fields node
            at [] are = All-head (IsNode w.slots w.fields) node more are
            at (x ∷ xs) are = at xs (All-tail (IsNode w.slots w.fields) x (xs ++ node ∷ more) are)

pub missed_row : (heap : Heap) (os : List Node) (hs : List (List (Option ℕ))) (rest : List ℕ) → IsSized heap.slots heap.fields heap.registers heap.mutators → All (IsNode heap.slots heap.fields) os → All (AreRegisters heap.slots heap.registers) hs → (hs ≡ [] → BeginsObject rest → ⊥) → length hs < heap.mutators → NoRowNext heap os hs rest → Misses (so_far (draft heap os hs)) rest
missed_row heap os hs rest sized nodes rows other few none = λ w t image e.
    let (of, all) = behind_heap w heap os hs t image sized e in
    let (more, same, tail) = behind_objects w heap os hs t image of nodes all in
    next w t image of more same hs refl tail
  where
    row : (w : ImageContents) (t : List ℕ) → IsImage w → IsOfHeap heap w → w.objects ≡ os → (more : List (List (Option ℕ))) → w.held ≡ hs ++ more → t ≡ flat_map registers_line more ++ end_line → (line : List ℕ) × (after : List ℕ) × IsLine line × (t ≡ line ++ after) × ((s : List ℕ) → rest ≡ line ++ s → ⊥)
    row w t image of same [] held tail = absurd (omega (arith, ap (length {A = List (Option ℕ)}) held, length-append hs [], image.mutators, of.mutators))
    row w t image of same (own ∷ more) held tail = (
      registers_line own,
      flat_map registers_line more ++ end_line,
      registers_is_line w.slots w.registers own image.sized.heap.most_slots (at hs (subst (All (AreRegisters w.slots w.registers)) held image.registers)),
      tail ∙ append_assoc (registers_line own) (flat_map registers_line more) end_line,
      λ s e. none w own more s image of same held e,
    )
      where
        at : (xs : List (List (Option ℕ))) → All (AreRegisters w.slots w.registers) (xs ++ own ∷ more) → AreRegisters w.slots w.registers own
        at [] are = All-head (AreRegisters w.slots w.registers) own more are
        at (x ∷ xs) are = at xs (All-tail (AreRegisters w.slots w.registers) x (xs ++ own ∷ more) are)

    next : (w : ImageContents) (t : List ℕ) → IsImage w → IsOfHeap heap w → (more : List Node) → w.objects ≡ os ++ more → (xs : List (List (Option ℕ))) → hs ≡ xs → flat_map registers_line hs ++ t ≡ flat_map object_line more ++ (flat_map registers_line w.held ++ end_line) → (line : List ℕ) × (after : List ℕ) × IsLine line × (t ≡ line ++ after) × ((s : List ℕ) → rest ≡ line ++ s → ⊥)
    next w t image of [] same xs is tail =
        let (more, held, behind) = behind_rows w heap hs t image of rows tail in
        row w t image of (same ∙ append-nil os) more held behind
    next w t image of (node ∷ more) same [] is tail = (
      object_line node,
      flat_map object_line more ++ (flat_map registers_line w.held ++ end_line),
      object_is_line w.slots w.fields node image.sized.heap.most_slots (at os (subst (All (IsNode w.slots w.fields)) same image.objects)),
      ap (λ (rs : List (List (Option ℕ))). flat_map registers_line rs ++ t) (sym is) ∙ tail ∙ append_assoc (object_line node) (flat_map object_line more) (flat_map registers_line w.held ++ end_line),
      λ s e. other is (subst BeginsObject (sym e) (object_first node s)),
    )
      where
        at : (xs : List Node) → All (IsNode w.slots w.fields) (xs ++ node ∷ more) → IsNode w.slots w.fields node
        at [] are = All-head (IsNode w.slots w.fields) node more are
        at (x ∷ xs) are = at xs (All-tail (IsNode w.slots w.fields) x (xs ++ node ∷ more) are)
    next w t image of (node ∷ more) same (own ∷ xs) is tail = absurd (begins_registers (subst BeginsObject
        (sym (append_assoc (object_line node) (flat_map object_line more) (flat_map registers_line w.held ++ end_line)) ∙ sym tail ∙ ap (λ (rs : List (List (Option ℕ))). flat_map registers_line rs ++ t) is)
        (object_first node (flat_map object_line more ++ (flat_map registers_line w.held ++ end_line)))))
      where
        begins_registers : BeginsObject (flat_map registers_line (own ∷ xs) ++ t) → ⊥
        begins_registers (inl e) = omega arith
        begins_registers (inr e) = omega arith

-- an image with all these lines is this one, and nothing is behind it
pub same_image : (heap : Heap) (os : List Node) (hs : List (List (Option ℕ))) → CanClose (draft heap os hs) → length hs ≡ heap.mutators → (w : ImageContents) (t : List ℕ) → IsImage w → text w ≡ so_far (draft heap os hs) ++ t → (w ≡ draft heap os hs) × (t ≡ end_line)
same_image heap os hs can full w t image e =
    let (of, all) = behind_heap w heap os hs t image can.sized e in
    let (more, same, tail) = behind_objects w heap os hs t image of can.objects all in
    next of more same hs refl tail
  where
    row : IsOfHeap heap w → w.objects ≡ os → (more : List (List (Option ℕ))) → w.held ≡ hs ++ more → t ≡ flat_map registers_line more ++ end_line → (w ≡ draft heap os hs) × (t ≡ end_line)
    row of same [] held tail = (
      ap (λ (n : ℕ). record w { slots = n }) of.slots
          ∙ ap (λ (n : ℕ). record w { slots = heap.slots; fields = n }) of.fields
          ∙ ap (λ (n : ℕ). record w { slots = heap.slots; fields = heap.fields; registers = n }) of.registers
          ∙ ap (λ (n : ℕ). record w { slots = heap.slots; fields = heap.fields; registers = heap.registers; mutators = n }) of.mutators
          ∙ ap (λ (ns : List Node). record w { slots = heap.slots; fields = heap.fields; registers = heap.registers; mutators = heap.mutators; objects = ns }) same
          ∙ ap (draft heap os) (held ∙ append-nil hs),
      tail,
    )
    row of same (own ∷ more) held tail = absurd (omega (arith, ap (length {A = List (Option ℕ)}) held, length-append hs (own ∷ more), image.mutators, of.mutators))

    next : IsOfHeap heap w → (more : List Node) → w.objects ≡ os ++ more → (xs : List (List (Option ℕ))) → hs ≡ xs → flat_map registers_line hs ++ t ≡ flat_map object_line more ++ (flat_map registers_line w.held ++ end_line) → (w ≡ draft heap os hs) × (t ≡ end_line)
    next of [] same xs is tail =
        let (more, held, behind) = behind_rows w heap hs t image of can.registers tail in
        row of (same ∙ append-nil os) more held behind
    next of (node ∷ more) same [] is tail = absurd (omega (arith, ap (length {A = List (Option ℕ)}) is, full, can.sized.some_mutators))
    next of (node ∷ more) same (own ∷ xs) is tail = absurd (begins_registers (subst BeginsObject
        (sym (append_assoc (object_line node) (flat_map object_line more) (flat_map registers_line w.held ++ end_line)) ∙ sym tail ∙ ap (λ (rs : List (List (Option ℕ))). flat_map registers_line rs ++ t) is)
        (object_first node (flat_map object_line more ++ (flat_map registers_line w.held ++ end_line)))))
      where
        begins_registers : BeginsObject (flat_map registers_line (own ∷ xs) ++ t) → ⊥
        begins_registers (inl e) = omega arith
        begins_registers (inr e) = omega arith

end_is_line : IsLine end_line
end_is_line = record { body = codes "end"; is = refl; one = refl }

pub missed_end : (heap : Heap) (os : List Node) (hs : List (List (Option ℕ))) (rest : List ℕ) → CanClose (draft heap os hs) → length hs ≡ heap.mutators → ((s : List ℕ) → rest ≡ end_line ++ s → ⊥) → Misses (so_far (draft heap os hs)) rest
missed_end heap os hs rest can full none = λ w t image e. (end_line, [], end_is_line, (same_image heap os hs can full w t image e).1 ∙ sym (append-nil end_line), none)

header_is_line : IsLine header_line
header_is_line = record { body = codes "recycler image 1"; is = refl; one = refl }

pub missed_header : (rest : List ℕ) → ((s : List ℕ) → rest ≡ header_line ++ s → ⊥) → Misses [] rest
missed_header rest none = λ w t image e.
    (header_line, heap_line w.slots w.fields w.registers w.mutators ++ (flat_map object_line w.objects ++ (flat_map registers_line w.held ++ end_line)), header_is_line, sym e, none)

heap_is_line : (slots fields registers mutators : ℕ) → AreSmall slots fields registers mutators → IsLine (heap_line slots fields registers mutators)
heap_is_line slots fields registers mutators are = record {
  body = codes "heap " ++ (decimal slots ++ (codes " " ++ (decimal fields ++ (codes " " ++ (decimal registers ++ (codes " " ++ decimal mutators))))));
  is = grouped (codes "heap ") (decimal slots) (decimal fields) (decimal registers) (decimal mutators) (codes " ");
  one = none (codes "heap ") (decimal slots) (decimal fields) (decimal registers) (decimal mutators) refl (no_feed_numeral slots are.slots_small) (no_feed_numeral fields are.fields_small) (no_feed_numeral registers are.registers_small) (no_feed_numeral mutators are.mutators_small);
}
  where
    grouped : (h a b c d sp : List ℕ) → h ++ (a ++ (sp ++ (b ++ (sp ++ (c ++ (sp ++ (d ++ line_feed))))))) ≡ (h ++ (a ++ (sp ++ (b ++ (sp ++ (c ++ (sp ++ d))))))) ++ line_feed
    grouped h a b c d sp = simp append_assoc

    both : (xs ys : List ℕ) → feeds xs ≡ 0 → feeds ys ≡ 0 → feeds (xs ++ ys) ≡ 0
    both xs ys e f = omega (arith, feeds-append xs ys)

    none : (h a b c d : List ℕ) → feeds h ≡ 0 → feeds a ≡ 0 → feeds b ≡ 0 → feeds c ≡ 0 → feeds d ≡ 0 → feeds (h ++ (a ++ (codes " " ++ (b ++ (codes " " ++ (c ++ (codes " " ++ d))))))) ≡ 0
    none h a b c d p q r s t =
        both h (a ++ (codes " " ++ (b ++ (codes " " ++ (c ++ (codes " " ++ d)))))) p (
        both a (codes " " ++ (b ++ (codes " " ++ (c ++ (codes " " ++ d))))) q (
        both (codes " ") (b ++ (codes " " ++ (c ++ (codes " " ++ d)))) refl (
        both b (codes " " ++ (c ++ (codes " " ++ d))) r (
        both (codes " ") (c ++ (codes " " ++ d)) refl (
        both c (codes " " ++ d) s (both (codes " ") d refl t))))))

pub missed_heap : (rest : List ℕ) → ((slots fields registers mutators : ℕ) (s : List ℕ) → IsSized slots fields registers mutators → rest ≡ heap_line slots fields registers mutators ++ s → ⊥) → Misses header_line rest
missed_heap rest none = λ w t image e. (
  heap_line w.slots w.fields w.registers w.mutators,
  flat_map object_line w.objects ++ (flat_map registers_line w.held ++ end_line),
  heap_is_line w.slots w.fields w.registers w.mutators (small w.slots w.fields w.registers w.mutators image.sized),
  sym (behind_header _ _ e),
  λ s at. none w.slots w.fields w.registers w.mutators s image.sized at,
)
  where
    behind_header : (s t : List ℕ) → header_line ++ s ≡ header_line ++ t → s ≡ t
    behind_header s t e = cc

-- ---- how many lines there are

line_feeds : (line : List ℕ) → IsLine line → feeds line ≡ 1
line_feeds line is = ap feeds is.is ∙ (let e : feeds (is.body ++ line_feed) ≡ 1 = omega (arith, feeds-append is.body line_feed, is.one) in e)

lines_feeds : {A : Type 0} (P : A → Type 0) (line : A → List ℕ) → ((a : A) → P a → IsLine (line a)) → (xs : List A) → All P xs → feeds (flat_map line xs) ≡ length xs
lines_feeds P line is [] all = refl
lines_feeds P line is (x ∷ xs) all =
    omega (arith, feeds-append (line x) (flat_map line xs), line_feeds (line x) (is x (All-head P x xs all)), lines_feeds P line is xs (All-tail P x xs all))

whole_append : (xs ys : List ℕ) → AreWhole xs → AreWhole ys → AreWhole (xs ++ ys)
whole_append xs ys p (inl none) = subst (λ (t : List ℕ). AreWhole (xs ++ t)) (sym none) (subst AreWhole (sym (append-nil xs)) p)
whole_append xs ys p (inr (front, is)) = inr (xs ++ front, ap (λ (t : List ℕ). xs ++ t) is ∙ sym (append_assoc xs front line_feed))

line_whole : (line : List ℕ) → IsLine line → AreWhole line
line_whole line is = inr (is.body, is.is)

lines_whole : {A : Type 0} (P : A → Type 0) (line : A → List ℕ) → ((a : A) → P a → IsLine (line a)) → (xs : List A) → All P xs → AreWhole (flat_map line xs)
lines_whole P line is [] all = inl refl
lines_whole P line is (x ∷ xs) all = whole_append (line x) (flat_map line xs) (line_whole (line x) (is x (All-head P x xs all))) (lines_whole P line is xs (All-tail P x xs all))

pub so_far_whole : (heap : Heap) (os : List Node) (hs : List (List (Option ℕ))) → IsSized heap.slots heap.fields heap.registers heap.mutators → All (IsNode heap.slots heap.fields) os → All (AreRegisters heap.slots heap.registers) hs → AreWhole (so_far (draft heap os hs)) × (feeds (so_far (draft heap os hs)) ≡ 2 + length os + length hs)
so_far_whole heap os hs sized nodes rows =
    let first : IsLine (heap_line heap.slots heap.fields heap.registers heap.mutators) = heap_is_line heap.slots heap.fields heap.registers heap.mutators (small heap.slots heap.fields heap.registers heap.mutators sized) in (
      whole_append header_line _ (line_whole header_line header_is_line) (whole_append _ _ (line_whole _ first) (whole_append _ _
          (lines_whole (IsNode heap.slots heap.fields) object_line (λ a p. object_is_line heap.slots heap.fields a sized.heap.most_slots p) os nodes)
          (lines_whole (AreRegisters heap.slots heap.registers) registers_line (λ a p. registers_is_line heap.slots heap.registers a sized.heap.most_slots p) hs rows))),
      omega (
        arith,
        feeds-append header_line (heap_line heap.slots heap.fields heap.registers heap.mutators ++ (flat_map object_line os ++ flat_map registers_line hs)),
        feeds-append (heap_line heap.slots heap.fields heap.registers heap.mutators) (flat_map object_line os ++ flat_map registers_line hs),
        feeds-append (flat_map object_line os) (flat_map registers_line hs),
        line_feeds header_line header_is_line,
        line_feeds (heap_line heap.slots heap.fields heap.registers heap.mutators) first,
        lines_feeds (IsNode heap.slots heap.fields) object_line (λ a p. object_is_line heap.slots heap.fields a sized.heap.most_slots p) os nodes,
        lines_feeds (AreRegisters heap.slots heap.registers) registers_line (λ a p. registers_is_line heap.slots heap.registers a sized.heap.most_slots p) hs rows,
      ),
    )

pub end_whole : (before : List ℕ) → AreWhole before → AreWhole (before ++ end_line) × (feeds (before ++ end_line) ≡ feeds before + 1)
end_whole before whole = (whole_append before end_line whole (line_whole end_line end_is_line), omega (arith, feeds-append before end_line))
