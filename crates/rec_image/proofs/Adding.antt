-- An object is read and joins the others.
use Rattle.std.proofs.Common.{◌≡◌, ℕ, suc, ◌+◌, ◌*◌, ◌^◌, ◌<◌, ◌≤◌, Bool, true, false, List, [], ◌∷◌, ◌++◌, Option, None, All, length, map, replicate, take, drop, refl, sym, ap, subst, ◌∙◌, arith, length-append, length-drop, append_assoc}
use Rattle.std.specs.Fmt.{decimal}
use Rattle.std.specs.List.{flat_map}
use Rattle.std.proofs.lemmas.List.{take_all, take-append-le, drop-append-le, length-map, length-replicate, map-append}
use Rattle.std.proofs.lemmas.List.Elements.{All-push, All-head, All-tail, All-replicate}
use Rattle.std.proofs.Math.Nat.{suc-mul}
use Rattle.rec_image.specs.declared.line.Heap.{Heap}
use Rattle.rec_image.specs.declared.objects.Objects.{Objects}
use Rattle.rec_image.specs.declared.meeting.Meeting.{Meeting}
use Rattle.rec_io.specs.Text.{EndsNumeral}
use Rattle.rec_image.specs.Drafts.{unmet, begins, meets_all, walks, names, meeting, objects_of, objects_in, AreFieldsRead, AreFieldsUnread, IsNodeRead, AreObjects, IsObjectRead, IsOfHeap, NoObjectNext}
use Rattle.rec_image.specs.Image.{Node, ImageContents, IsOneOf, IsNode, IsImage, word, told_fields, node_head, object_line}
use Rattle.rec_image.proofs.Continuing.{has_room}
use Rattle.rec_image.proofs.Meetings.{walks-append}
use Rattle.rec_model.proofs.Opened.{named-nones}
use Rattle.rec_image.proofs.Prefixes.{numeral_front, head_front, words_end, feed_ends, object_parts, object_front}

-- ---- objects in two lists

pub length-objects : (fields : ℕ) (nodes : List (ℕ × Bool)) (targets : List (Option ℕ)) → length (objects_of fields nodes targets) ≡ length nodes
length-objects fields [] targets = refl
length-objects fields (node ∷ nodes) targets = ap suc (length-objects fields nodes (drop fields targets))

objects-push : (fields : ℕ) (nodes : List (ℕ × Bool)) (node : Node) (targets : List (Option ℕ)) → length targets ≡ length nodes * fields → length node.fields ≡ fields → objects_of fields (nodes ++ (node.label, node.leaf) ∷ []) (targets ++ node.fields) ≡ objects_of fields nodes targets ++ node ∷ []
objects-push fields [] node [] size own = ap (λ (fs : List (Option ℕ)). record node { fields = fs } ∷ []) (take_all fields node.fields (omega arith))
objects-push fields [] node (t ∷ ts) size own = absurd (omega arith)
objects-push fields (first ∷ nodes) node targets size own =
    let more : length targets ≡ length nodes * fields + fields = size ∙ suc-mul (length nodes) fields in
    let fits : fields ≤ length targets = omega arith in
    let front : take fields (targets ++ node.fields) ≡ take fields targets = take-append-le fields targets node.fields fits in
    let rest : drop fields (targets ++ node.fields) ≡ drop fields targets ++ node.fields = drop-append-le fields targets node.fields fits in
    ap (λ (fs : List (Option ℕ)). record { label = first.0; leaf = first.1; fields = fs } ∷ objects_of fields (nodes ++ (node.label, node.leaf) ∷ []) (drop fields (targets ++ node.fields))) front
    ∙ ap (λ (ts : List (Option ℕ)). record { label = first.0; leaf = first.1; fields = take fields targets } ∷ objects_of fields (nodes ++ (node.label, node.leaf) ∷ []) ts) rest
    ∙ ap (λ (os : List Node). record { label = first.0; leaf = first.1; fields = take fields targets } ∷ os) (objects-push fields nodes node (drop fields targets) (omega (arith, length-drop fields targets)) own)

-- ---- the fields of a leaf

pub leaf_fields : (slots fields : ℕ) (leaf : Bool) (bytes rest : List ℕ) (before after : Objects) → leaf ≡ true → bytes ≡ 10 ∷ rest → after.nodes.items ≡ before.nodes.items → after.targets.items ≡ before.targets.items ++ replicate fields None → after.meeting ≡ before.meeting → AreFieldsRead slots fields leaf bytes rest before after
leaf_fields slots fields leaf bytes rest before after is e nodes more met = record {
  own = replicate fields None;
  number = length-replicate fields None;
  places = All-replicate (IsOneOf slots) fields None tt;
  null = λ _. refl;
  line = e ∙ ap (λ (b : Bool). flat_map word (told_fields b (replicate fields None)) ++ 10 ∷ rest) (sym is);
  nodes = nodes;
  more = more;
  meeting = met ∙ ap (meets_all before.meeting) (sym (named-nones fields));
}

-- ---- the line of an object

-- what is behind the head, where an object's line is at the front
behind_head : (leaf : Bool) (bytes rest : List ℕ) (node : Node) (t : List ℕ) → bytes ≡ node_head leaf ++ rest → bytes ≡ object_line node ++ t → (leaf ≡ node.leaf) × (rest ≡ decimal node.label ++ (flat_map word (told_fields node.leaf node.fields) ++ 10 ∷ t))
behind_head leaf bytes rest node t e is = head_front leaf node.leaf rest (decimal node.label ++ (flat_map word (told_fields node.leaf node.fields) ++ 10 ∷ t)) (sym e ∙ is ∙ object_parts node t)

pub no_label : (slots fields : ℕ) (leaf : Bool) (bytes rest : List ℕ) → bytes ≡ node_head leaf ++ rest → ((n : ℕ) (t : List ℕ) → n < 2 ^ 32 → EndsNumeral t → rest ≡ decimal n ++ t → ⊥) → (node : Node) (t : List ℕ) → IsNode slots fields node → bytes ≡ object_line node ++ t → ⊥
no_label slots fields leaf bytes rest e none node t is at =
    none node.label (flat_map word (told_fields node.leaf node.fields) ++ 10 ∷ t) is.label (words_end (told_fields node.leaf node.fields) (10 ∷ t) (feed_ends t)) (behind_head leaf bytes rest node t e at).1

pub no_fields : (slots fields : ℕ) (leaf : Bool) (bytes rest later : List ℕ) (label : ℕ) → bytes ≡ node_head leaf ++ rest → (rest ≡ decimal label ++ later) × (label < 2 ^ 32) × EndsNumeral later → AreFieldsUnread slots fields leaf later → (node : Node) (t : List ℕ) → IsNode slots fields node → bytes ≡ object_line node ++ t → ⊥
no_fields slots fields leaf bytes rest later label e found none node t is at =
    let head = behind_head leaf bytes rest node t e at in
    let same : (label ≡ node.label) × (later ≡ flat_map word (told_fields node.leaf node.fields) ++ 10 ∷ t) =
    numeral_front label node.label later (flat_map word (told_fields node.leaf node.fields) ++ 10 ∷ t) found.1 is.label found.2 (words_end (told_fields node.leaf node.fields) (10 ∷ t) (feed_ends t)) (sym found.0 ∙ head.1) in
    none node.fields t is.width is.places (same.1 ∙ ap (λ (b : Bool). flat_map word (told_fields b node.fields) ++ 10 ∷ t) (sym head.0))

pub node_read : (slots fields : ℕ) (leaf : Bool) (bytes rest later behind : List ℕ) (label : ℕ) (before mid after : Objects) → bytes ≡ node_head leaf ++ rest → (rest ≡ decimal label ++ later) × (label < 2 ^ 32) × EndsNumeral later → AreFieldsRead slots fields leaf later behind before mid → after.nodes.items ≡ mid.nodes.items ++ (label, leaf) ∷ [] → after.targets.items ≡ mid.targets.items → after.meeting ≡ mid.meeting → IsNodeRead slots fields bytes behind before after
node_read slots fields leaf bytes rest later behind label before mid after e found read nodes targets met = record {
  node = record { label = label; leaf = leaf; fields = read.own };
  is = record { label = found.1; width = read.number; places = read.places; leaf = read.null };
  line = e ∙ ap (λ (bs : List ℕ). node_head leaf ++ bs) (found.0 ∙ ap (λ (bs : List ℕ). decimal label ++ bs) read.line) ∙ sym (object_parts (record { label = label; leaf = leaf; fields = read.own }) behind);
  nodes = nodes ∙ ap (λ (ns : List (ℕ × Bool)). ns ++ (label, leaf) ∷ []) read.nodes;
  more = targets ∙ read.more;
  meeting = met ∙ read.meeting;
}

-- ---- an object joins the others

-- what is met with one object more
meeting-push : (objects : List Node) (node : Node) (count : ℕ) → count ≡ length objects → meeting (objects ++ node ∷ []) ≡ meets_all (begins (meeting objects) count) (names node)
meeting-push objects node count e =
    ap (walks unmet 0) (map-append names objects (node ∷ []))
    ∙ walks-append unmet 0 count (map names objects) (names node ∷ []) (omega (arith, length-map objects names))

-- the image's next object
next_of : (P : Node → Type 0) (objects more : List Node) (node : Node) → All P (objects ++ node ∷ more) → P node
next_of P [] more node all = All-head P node more all
next_of P (first ∷ objects) more node all = next_of P objects more node (All-tail P first (objects ++ node ∷ more) all)

next_is_node : (heap : Heap) (w : ImageContents) (objects more : List Node) (node : Node) → IsImage w → IsOfHeap heap w → w.objects ≡ objects ++ node ∷ more → IsNode heap.slots heap.fields node
next_is_node heap w objects more node image of e =
    subst (λ (n : ℕ). IsNode n heap.fields node) of.slots (subst (λ (n : ℕ). IsNode w.slots n node) of.fields (next_of (IsNode w.slots w.fields) objects more node (subst (All (IsNode w.slots w.fields)) e image.objects)))

one_more : (objects more : List Node) (node : Node) (all : List Node) → all ≡ objects ++ node ∷ more → all ≡ (objects ++ node ∷ []) ++ more
one_more objects more node all e = e ∙ sym (append_assoc objects (node ∷ []) more)

pub no_slot : (heap : Heap) (objects : List Node) (bytes : List ℕ) → length objects ≡ heap.slots → NoObjectNext heap objects bytes
no_slot heap objects bytes full = λ w node more rest image of e is.
    let room : length (objects ++ node ∷ []) ≤ w.slots = (has_room w image (objects ++ node ∷ []) more (one_more objects more node w.objects e)).0 in
    omega (arith, length-append objects (node ∷ []), of.slots)

pub no_node : (heap : Heap) (objects : List Node) (bytes : List ℕ) → ((node : Node) (t : List ℕ) → IsNode heap.slots heap.fields node → bytes ≡ object_line node ++ t → ⊥) → NoObjectNext heap objects bytes
no_node heap objects bytes none = λ w node more rest image of e is. none node rest (next_is_node heap w objects more node image of e) is

-- the object that was read, with those before it
met_then : (heap : Heap) (before mid after : Objects) (bytes rest : List ℕ) (count : ℕ) → AreObjects heap before → count ≡ length before.nodes.items → mid.meeting ≡ begins before.meeting count → (read : IsNodeRead heap.slots heap.fields bytes rest mid after) → after.meeting ≡ meeting (objects_in heap before ++ read.node ∷ [])
met_then heap before mid after bytes rest count are is begun read =
    read.meeting
    ∙ ap (λ (m : Meeting). meets_all m (names read.node)) (begun ∙ ap (λ (m : Meeting). begins m count) are.meeting)
    ∙ sym (meeting-push (objects_in heap before) read.node count (is ∙ sym (length-objects heap.fields before.nodes.items before.targets.items)))

pub too_much_due : (heap : Heap) (before mid after : Objects) (bytes rest : List ℕ) (count : ℕ) → AreObjects heap before → count ≡ length before.nodes.items → mid.meeting ≡ begins before.meeting count → IsNodeRead heap.slots heap.fields bytes rest mid after → heap.mutators * heap.registers < after.meeting.due → NoObjectNext heap (objects_in heap before) bytes
too_much_due heap before mid after bytes rest count are is begun read large = λ w node more t image of e at.
    let same : read.node ≡ node = (object_front heap.slots heap.fields read.node node rest t are.is_open.sized.heap.most_slots read.is (next_is_node heap w (objects_in heap before) more node image of e) (sym read.line ∙ at)).0 in
    let room : (meeting (objects_in heap before ++ node ∷ [])).due ≤ w.mutators * w.registers = (has_room w image (objects_in heap before ++ node ∷ []) more (one_more (objects_in heap before) more node w.objects e)).1 in
    let due : after.meeting.due ≡ (meeting (objects_in heap before ++ node ∷ [])).due = ap (λ (m : Meeting). m.due) (met_then heap before mid after bytes rest count are is begun read) ∙ ap (λ (n : Node). (meeting (objects_in heap before ++ n ∷ [])).due) same in
    omega (arith, ap (λ (n : ℕ). n * w.registers) of.mutators, ap (λ (n : ℕ). heap.mutators * n) of.registers)

pub object_read : (heap : Heap) (before mid after : Objects) (bytes rest : List ℕ) (count : ℕ) → AreObjects heap before → count ≡ length before.nodes.items → (count ≡ heap.slots → ⊥) → mid.nodes.items ≡ before.nodes.items → mid.targets.items ≡ before.targets.items → mid.meeting ≡ begins before.meeting count → IsNodeRead heap.slots heap.fields bytes rest mid after → after.meeting.due ≤ heap.mutators * heap.registers → IsObjectRead heap bytes rest before after
object_read heap before mid after bytes rest count are is room nodes targets begun read due =
    let all : objects_in heap after ≡ objects_in heap before ++ read.node ∷ [] =
    ap (λ (ns : List (ℕ × Bool)). objects_of heap.fields ns after.targets.items) (read.nodes ∙ ap (λ (ns : List (ℕ × Bool)). ns ++ (read.node.label, read.node.leaf) ∷ []) nodes)
    ∙ ap (objects_of heap.fields (before.nodes.items ++ (read.node.label, read.node.leaf) ∷ [])) (read.more ∙ ap (λ (ts : List (Option ℕ)). ts ++ read.node.fields) targets)
    ∙ objects-push heap.fields before.nodes.items read.node before.targets.items are.size read.is.width in
    let met : after.meeting ≡ meeting (objects_in heap before ++ read.node ∷ []) = met_then heap before mid after bytes rest count are is begun read in
    record {
      node = read.node;
      line = read.line;
      more = all;
      less = omega (arith, ap (length {A = ℕ}) (read.line ∙ object_parts read.node rest), some_head read.node.leaf, length-append (node_head read.node.leaf) (decimal read.node.label ++ (flat_map word (told_fields read.node.leaf read.node.fields) ++ 10 ∷ rest)), length-append (decimal read.node.label) (flat_map word (told_fields read.node.leaf read.node.fields) ++ 10 ∷ rest), length-append (flat_map word (told_fields read.node.leaf read.node.fields)) (10 ∷ rest));
      are = record {
        size = omega (arith, ap (length {A = Option ℕ}) (read.more ∙ ap (λ (ts : List (Option ℕ)). ts ++ read.node.fields) targets), length-append before.targets.items read.node.fields, read.is.width, are.size, ap (λ (n : ℕ). n * heap.fields) (longer before.nodes.items after.nodes.items (read.node.label, read.node.leaf) (read.nodes ∙ ap (λ (ns : List (ℕ × Bool)). ns ++ (read.node.label, read.node.leaf) ∷ []) nodes)), suc-mul (length before.nodes.items) heap.fields);
        is_open = record {
          sized = are.is_open.sized;
          few = subst (λ (os : List Node). length os ≤ heap.slots) (sym all) (omega (arith, length-append (objects_in heap before) (read.node ∷ []), length-objects heap.fields before.nodes.items before.targets.items, are.is_open.few));
          objects = subst (All (IsNode heap.slots heap.fields)) (sym all) (All-push (IsNode heap.slots heap.fields) (objects_in heap before) read.node are.is_open.objects read.is);
          none = refl;
          due = subst (λ (os : List Node). (meeting os).due ≤ heap.mutators * heap.registers) (sym all) (subst (λ (m : Meeting). m.due ≤ heap.mutators * heap.registers) met due);
        };
        meeting = met ∙ ap meeting (sym all);
      };
    }
  where
    some_head : (leaf : Bool) → 0 < length (node_head leaf)
    some_head true = omega arith
    some_head false = omega arith

    longer : (xs ys : List (ℕ × Bool)) (x : ℕ × Bool) → ys ≡ xs ++ x ∷ [] → length ys ≡ suc (length xs)
    longer xs ys x e = omega (arith, ap (length {A = ℕ × Bool}) e, length-append xs (x ∷ []))
