-- Lines with which an image goes on: it is completed by objects and registers, or nothing completes it.
use Rattle.std.proofs.Common.{◌≡◌, ℕ, zero, suc, ◌+◌, ◌-◌, ◌*◌, ◌<◌, ◌≤◌, List, [], ◌∷◌, ◌++◌, Option, None, Some, All, length, map, replicate, get_or, refl, sym, ap, subst, ◌∙◌, arith, length-append, append-nil, append_assoc}
use Rattle.std.specs.Prelude.{max}
use Rattle.std.specs.List.{flat_map, range_with_len}
use Rattle.std.proofs.lemmas.Bool.Decides.{nat_tests}
use Rattle.std.proofs.lemmas.Grind.{flat_map-append}
use Rattle.std.proofs.lemmas.List.{length-map, length-replicate, map-append}
use Rattle.std.proofs.lemmas.List.Elements.{All-nil, All-head, All-tail, All-append, All-replicate}
use Rattle.std.proofs.Math.Nat.{suc-mul}
use Rattle.rec_model.specs.Heap.{roots}
use Rattle.rec_model.specs.Numbering.{IsNumbering}
use Rattle.rec_model.specs.Reach.{named}
use Rattle.rec_image.specs.Image.{Node, ImageContents, IsOneOf, IsNode, AreRegisters, IsImage, IsContinued, nothing, children, text, header_line, heap_line, object_line, registers_line, end_line}
use Rattle.rec_image.specs.declared.meeting.Meeting.{Meeting}
use Rattle.rec_image.specs.Drafts.{unmet, meets, begins, meets_all, walks, names, meeting, naming, least, so_far, IsOpen, CanClose, with_more}
use Rattle.rec_image.proofs.Growing.{Grows, highest, Follows, highest_all, follows_left, follows_join, follows-length, highest_all-append, AreOf, IsGrown, grown_from, numbered_from, grows_left, grows_right, grows_join, highest-append, highest-most, highest-le}
use Rattle.rec_image.proofs.Meetings.{meets_highest, meets_grow, grow_meets, walks_highest, walks_follow, follow_walks, walks_due}
use Rattle.rec_image.proofs.Padding.{null_node, null_is_node, null_follow, null_highest, all_registers, all_are, all_length, all_grow}

-- each object has its own children
children_are : (objects : List Node) → AreOf (children objects) 0 (map names objects)
children_are objects = λ i. ap (children objects) (let e : 0 + i ≡ i = omega arith in e) ∙ at objects i
  where
    at : (objects : List Node) (i : ℕ) → named (get_or objects i nothing).fields ≡ get_or (map names objects) i []
    at [] i = refl
    at (node ∷ objects) zero = refl
    at (node ∷ objects) (suc i) = at objects i

-- ---- what an image's lines have

grown_image : (v : ImageContents) → IsImage v → IsGrown (roots v.held) (map names v.objects)
grown_image v image = grown_from (roots v.held) (children v.objects) (map names v.objects) (children_are v.objects)
    (subst (λ (k : ℕ). IsNumbering (roots v.held) (children v.objects) (range_with_len 0 k)) (sym (length-map v.objects names)) image.numbered)

-- the walk from nothing, where r objects are named by registers
follows_due : (cs : List (List ℕ)) (r : ℕ) → Follows r 0 cs → (walks unmet 0 cs).due ≤ r
follows_due cs r f = follow_walks unmet 0 cs r (omega arith) (subst (λ (k : ℕ). Follows k 0 cs) (let e : r ≡ max r 0 = omega arith in e) f)

due_follows : (cs : List (List ℕ)) (r : ℕ) → (walks unmet 0 cs).due ≤ r → Follows r 0 cs
due_follows cs r h = subst (λ (k : ℕ). Follows k 0 cs) (let e : max r 0 ≡ r = omega arith in e) (walks_follow unmet 0 cs r h).1

walk_highest : (cs : List (List ℕ)) (r : ℕ) → max r (walks unmet 0 cs).met ≡ highest_all r cs
walk_highest cs r = walks_highest unmet 0 cs r ∙ ap (λ (k : ℕ). highest_all k cs) (let e : max r 0 ≡ r = omega arith in e)

-- what registers name
named_highest : (ns : List ℕ) → (meets_all unmet ns).met ≡ highest 0 ns
named_highest ns = (let e : (meets_all unmet ns).met ≡ max 0 (meets_all unmet ns).met = omega arith in e) ∙ meets_highest unmet ns 0

grows_naming : (ns : List ℕ) → Grows 0 ns → (meets_all unmet ns).due ≡ 0
grows_naming ns g = let h : (meets_all unmet ns).due ≤ 0 = grow_meets unmet ns 0 (omega arith) g in omega arith

naming_grows : (ns : List ℕ) → (meets_all unmet ns).due ≡ 0 → Grows 0 ns
naming_grows ns e = (meets_grow unmet ns 0 (omega arith)).1

-- how many names registers have at most
names-most : (held : List (Option ℕ)) → length (named held) ≤ length held
names-most [] = omega arith
names-most (None ∷ held) = let more : length (named held) ≤ length held = names-most held in omega arith
names-most (Some n ∷ held) = let more : length (named held) ≤ length held = names-most held in omega arith

roots-most : (slots registers : ℕ) (held : List (List (Option ℕ))) → All (AreRegisters slots registers) held → length (roots held) ≤ length held * registers
roots-most slots registers [] are = omega arith
roots-most slots registers (own ∷ held) are =
    let more : length (roots held) ≤ length held * registers = roots-most slots registers held (All-tail (AreRegisters slots registers) own held are) in
    let size : length own ≡ registers = (All-head (AreRegisters slots registers) own held are).number in
    omega (arith, names-most own, length-append (named own) (roots held), suc-mul (length held) registers)

-- ---- an image of these lines

-- what is least due, against a number of objects that registers name
least_at : (m : Meeting) (n r : ℕ) → max r m.met ≡ n → m.due ≤ r → least m n ≤ r
least_at m n r e h = grind (arith, nat_tests)

at_least : (m : Meeting) (n r : ℕ) → m.met ≤ n → r ≤ n → m.due ≤ max n m.met → least m n ≤ r → (max r m.met ≡ n) × (m.due ≤ r)
at_least m n r h k d l = (whole m n r h k d l, due m n r h k d l)
  where
    whole : (m : Meeting) (n r : ℕ) → m.met ≤ n → r ≤ n → m.due ≤ max n m.met → least m n ≤ r → max r m.met ≡ n
    whole m n r h k d l = grind (arith, nat_tests)

    due : (m : Meeting) (n r : ℕ) → m.met ≤ n → r ≤ n → m.due ≤ max n m.met → least m n ≤ r → m.due ≤ r
    due m n r h k d l = grind (arith, nat_tests)

least-most : (m : Meeting) (n : ℕ) → m.met ≤ n → m.due ≤ max n m.met → least m n ≤ n
least-most m n h d = grind (arith, nat_tests)

walk_due : (objects : List Node) → (meeting objects).due ≤ max (length objects) (meeting objects).met
walk_due objects = subst (λ (k : ℕ). (meeting objects).due ≤ max k (meeting objects).met) (let e : 0 + length (map names objects) ≡ length objects = omega (arith, length-map objects names) in e) (walks_due unmet 0 (map names objects) (omega arith))

-- the registers that complete it
abbrev completing : ImageContents → List (List (Option ℕ))
completing v = all_registers (v.mutators - length v.held) v.registers (naming v.held).met (max (naming v.held).met (least (meeting v.objects) (length v.objects)) - (naming v.held).met)

completed : (v : ImageContents) → CanClose v → IsImage (with_more v [] (completing v))
completed v can =
    let few : max (naming v.held).met (least (meeting v.objects) (length v.objects)) ≤ length v.objects = omega (arith, can.named, least-most (meeting v.objects) (length v.objects) can.met (walk_due v.objects)) in
    let grown = all_grow (v.mutators - length v.held) v.registers (naming v.held).met (max (naming v.held).met (least (meeting v.objects) (length v.objects)) - (naming v.held).met) (omega (arith, can.reach)) in
    let parts : roots (v.held ++ completing v) ≡ roots v.held ++ roots (completing v) = flat_map-append named v.held (completing v) in
    let first : (naming v.held).met ≡ highest 0 (roots v.held) = named_highest (roots v.held) in
    let top : highest 0 (roots (v.held ++ completing v)) ≡ max (naming v.held).met (least (meeting v.objects) (length v.objects)) =
    ap (highest 0) parts ∙ highest-append 0 (roots v.held) (roots (completing v)) ∙ ap (λ (k : ℕ). highest k (roots (completing v))) (sym first)
    ∙ grown.1 ∙ (let e : (naming v.held).met + (max (naming v.held).met (least (meeting v.objects) (length v.objects)) - (naming v.held).met) ≡ max (naming v.held).met (least (meeting v.objects) (length v.objects)) = omega arith in e) in
    let fits : (max (max (naming v.held).met (least (meeting v.objects) (length v.objects))) (meeting v.objects).met ≡ length v.objects) × ((meeting v.objects).due ≤ max (naming v.held).met (least (meeting v.objects) (length v.objects)))
    = at_least (meeting v.objects) (length v.objects) (max (naming v.held).met (least (meeting v.objects) (length v.objects))) can.met few (walk_due v.objects) (omega arith) in
    record {
      sized = can.sized;
      few = subst (λ (ns : List Node). length ns ≤ v.slots) (sym (append-nil v.objects)) can.few;
      objects = subst (All (IsNode v.slots v.fields)) (sym (append-nil v.objects)) can.objects;
      mutators = omega (arith, length-append v.held (completing v), all_length (v.mutators - length v.held) v.registers (naming v.held).met (max (naming v.held).met (least (meeting v.objects) (length v.objects)) - (naming v.held).met), can.rows);
      registers = All-append (AreRegisters v.slots v.registers) v.held (completing v) can.registers
          (all_are v.slots (v.mutators - length v.held) v.registers (naming v.held).met (max (naming v.held).met (least (meeting v.objects) (length v.objects)) - (naming v.held).met) (omega (arith, few, can.few)));
      numbered = subst (λ (ns : List Node). IsNumbering (roots (v.held ++ completing v)) (children ns) (range_with_len 0 (length ns))) (sym (append-nil v.objects))
          (subst (λ (k : ℕ). IsNumbering (roots (v.held ++ completing v)) (children v.objects) (range_with_len 0 k)) (length-map v.objects names)
          (numbered_from (roots (v.held ++ completing v)) (children v.objects) (map names v.objects) (children_are v.objects)
          (subst (Grows 0) (sym parts) (grows_join 0 (roots v.held) (roots (completing v)) (naming_grows (roots v.held) can.grow) (subst (λ (k : ℕ). Grows k (roots (completing v))) first grown.0)))
          (subst (λ (k : ℕ). Follows k 0 (map names v.objects)) (sym top) (due_follows (map names v.objects) (max (naming v.held).met (least (meeting v.objects) (length v.objects))) fits.1))
          (ap (λ (k : ℕ). highest_all k (map names v.objects)) top ∙ sym (walk_highest (map names v.objects) (max (naming v.held).met (least (meeting v.objects) (length v.objects)))) ∙ fits.0 ∙ sym (length-map v.objects names))));
    }

-- no more is met than there are slots
meets_within : (slots : ℕ) (m : Meeting) (fields : List (Option ℕ)) → m.met ≤ slots → All (IsOneOf slots) fields → (meets_all m (named fields)).met ≤ slots
meets_within slots m [] h places = h
meets_within slots m (None ∷ fields) h places = meets_within slots m fields h (All-tail (IsOneOf slots) None fields places)
meets_within slots m (Some n ∷ fields) h places =
    let here : n < slots = All-head (IsOneOf slots) (Some n) fields places in
    meets_within slots (meets m n) fields (omega arith) (All-tail (IsOneOf slots) (Some n) fields places)

walks_within : (slots width : ℕ) (m : Meeting) (j : ℕ) (objects : List Node) → m.met ≤ slots → All (IsNode slots width) objects → (walks m j (map names objects)).met ≤ slots
walks_within slots width m j [] h are = h
walks_within slots width m j (node ∷ objects) h are =
    walks_within slots width (meets_all (begins m j) (names node)) (j + 1) objects
    (meets_within slots (begins m j) node.fields h (All-head (IsNode slots width) node objects are).places)
    (All-tail (IsNode slots width) node objects are)

-- the objects that complete it
abbrev missing : ImageContents → List Node
missing v = replicate (max (meeting v.objects).met (meeting v.objects).due - length v.objects) (null_node v.fields)

can_close : (v : ImageContents) → IsOpen v → CanClose (with_more v (missing v) [])
can_close v open_ = subst (λ (hs : List (List (Option ℕ))). CanClose (record v { objects = v.objects ++ missing v; held = hs })) (sym (ap (λ (hs : List (List (Option ℕ))). hs ++ []) open_.none)) plain
  where
    cs : List (List ℕ)
    cs = map names v.objects

    nulls : List (List ℕ)
    nulls = map names (missing v)

    due : ℕ
    due = (meeting v.objects).due

    met : (meeting v.objects).met ≤ v.slots
    met = walks_within v.slots v.fields unmet 0 v.objects (omega arith) open_.objects

    bound : (meeting v.objects).due ≤ max (length v.objects) (meeting v.objects).met
    bound = walk_due v.objects

    turns : Follows (meeting v.objects).due 0 (map names v.objects)
    turns = due_follows (map names v.objects) (meeting v.objects).due (omega arith)

    top : highest_all (meeting v.objects).due (map names v.objects) ≡ max (meeting v.objects).due (meeting v.objects).met
    top = sym (walk_highest (map names v.objects) (meeting v.objects).due)

    few : length v.objects ≤ max (meeting v.objects).due (meeting v.objects).met
    few = omega (arith, follows-length (meeting v.objects).due 0 (map names v.objects) turns, top, length-map v.objects names)

    count : length (missing v) ≡ max (meeting v.objects).met (meeting v.objects).due - length v.objects
    count = length-replicate (max (meeting v.objects).met (meeting v.objects).due - length v.objects) (null_node v.fields)

    whole : length (v.objects ++ missing v) ≡ max (meeting v.objects).due (meeting v.objects).met
    whole = omega (arith, length-append v.objects (missing v), count, few)

    all_turns : Follows (meeting v.objects).due 0 (map names (v.objects ++ missing v))
    all_turns = subst (Follows (meeting v.objects).due 0) (sym (map-append names v.objects (missing v)))
        (follows_join (meeting v.objects).due 0 (length v.objects) (map names v.objects) (map names (missing v)) (omega (arith, length-map v.objects names)) turns
        (subst (λ (k : ℕ). Follows k (length v.objects) (map names (missing v))) (sym top)
        (null_follow (max (meeting v.objects).due (meeting v.objects).met) (length v.objects) v.fields (max (meeting v.objects).met (meeting v.objects).due - length v.objects) (omega (arith, few)))))

    all_top : max (meeting v.objects).due (meeting (v.objects ++ missing v)).met ≡ length (v.objects ++ missing v)
    all_top =
        walk_highest (map names (v.objects ++ missing v)) (meeting v.objects).due
        ∙ ap (highest_all (meeting v.objects).due) (map-append names v.objects (missing v))
        ∙ highest_all-append (meeting v.objects).due (map names v.objects) (map names (missing v))
        ∙ null_highest (highest_all (meeting v.objects).due (map names v.objects)) v.fields (max (meeting v.objects).met (meeting v.objects).due - length v.objects)
        ∙ top ∙ sym whole

    plain : CanClose (record v { objects = v.objects ++ missing v; held = [] })
    plain = record {
      sized = open_.sized;
      few = omega (arith, whole, met, bound, open_.few);
      objects = All-append (IsNode v.slots v.fields) v.objects (missing v) open_.objects (All-replicate (IsNode v.slots v.fields) (max (meeting v.objects).met (meeting v.objects).due - length v.objects) (null_node v.fields) (null_is_node v.slots v.fields));
      registers = All-nil (AreRegisters v.slots v.registers);
      rows = omega arith;
      met = omega (arith, all_top);
      grow = refl;
      named = omega arith;
      reach = omega (arith, open_.due, ap (λ (k : ℕ). k * v.registers) (let z : v.mutators - 0 ≡ v.mutators = omega arith in z), least_at (meeting (v.objects ++ missing v)) (length (v.objects ++ missing v)) (meeting v.objects).due all_top (follows_due (map names (v.objects ++ missing v)) (meeting v.objects).due all_turns));
    }

-- where no more is met than there is, the registers can name what is due
pub open_closes : (v : ImageContents) → IsOpen v → v.held ≡ [] → (meeting v.objects).met ≤ length v.objects → CanClose (record v { held = [] })
open_closes v open_ none met =
    let turns : Follows (meeting v.objects).due 0 (map names v.objects) = due_follows (map names v.objects) (meeting v.objects).due (omega arith) in
    let few : length v.objects ≤ max (meeting v.objects).due (meeting v.objects).met = omega (arith, follows-length (meeting v.objects).due 0 (map names v.objects) turns, walk_highest (map names v.objects) (meeting v.objects).due, length-map v.objects names) in
    record {
      sized = open_.sized;
      few = open_.few;
      objects = open_.objects;
      registers = All-nil (AreRegisters v.slots v.registers);
      rows = omega arith;
      met = met;
      grow = refl;
      named = omega arith;
      reach = omega (arith, least_due (meeting v.objects) (length v.objects) met few, open_.due, ap (λ (k : ℕ). k * v.registers) (let z : v.mutators - 0 ≡ v.mutators = omega arith in z));
    }
  where
    least_due : (m : Meeting) (n : ℕ) → m.met ≤ n → n ≤ max m.due m.met → least m n ≤ m.due
    least_due m n h f = grind (arith, nat_tests)

-- ---- what every image has that goes on from such lines

pub has_room : (w : ImageContents) → IsImage w → (os more : List Node) → w.objects ≡ os ++ more → (length os ≤ w.slots) × ((meeting os).due ≤ w.mutators * w.registers)
has_room w image os more e =
    let grown : IsGrown (roots w.held) (map names w.objects) = grown_image w image in
    let turns : Follows (highest 0 (roots w.held)) 0 (map names os) =
    follows_left (highest 0 (roots w.held)) 0 (map names os) (map names more)
    (subst (Follows (highest 0 (roots w.held)) 0) (ap (map names) e ∙ map-append names os more) grown.follows) in (
      omega (arith, ap (length {A = Node}) e, length-append os more, image.few),
      omega (arith, follows_due (map names os) (highest 0 (roots w.held)) turns, highest-most 0 (roots w.held) grown.roots_grow, roots-most w.slots w.registers w.held image.registers, ap (λ (k : ℕ). k * w.registers) image.mutators),
    )

pub record HasTold (w : ImageContents) (hs : List (List (Option ℕ))) : Type 0 where
  pub met : (meeting w.objects).met ≤ length w.objects
  pub grow : (naming hs).due ≡ 0
  pub named : (naming hs).met ≤ length w.objects
  pub reach : least (meeting w.objects) (length w.objects) ≤ (naming hs).met + (w.mutators - length hs) * w.registers

pub has_told : (w : ImageContents) → IsImage w → (hs more : List (List (Option ℕ))) → w.held ≡ hs ++ more → HasTold w hs
has_told w image hs more e =
    let grown : IsGrown (roots w.held) (map names w.objects) = grown_image w image in
    let parts : roots w.held ≡ roots hs ++ roots more = ap roots e ∙ flat_map-append named hs more in
    let here : Grows 0 (roots hs) = grows_left 0 (roots hs) (roots more) (subst (Grows 0) parts grown.roots_grow) in
    let there : Grows (highest 0 (roots hs)) (roots more) = grows_right 0 (roots hs) (roots more) (subst (Grows 0) parts grown.roots_grow) in
    let now : (naming hs).met ≡ highest 0 (roots hs) = named_highest (roots hs) in
    let r_is : highest 0 (roots w.held) ≡ highest (highest 0 (roots hs)) (roots more) = ap (highest 0) parts ∙ highest-append 0 (roots hs) (roots more) in
    let up : highest 0 (roots hs) ≤ highest (highest 0 (roots hs)) (roots more) = highest-le (highest 0 (roots hs)) (roots more) in
    let most : highest (highest 0 (roots hs)) (roots more) ≤ highest 0 (roots hs) + length (roots more) = highest-most (highest 0 (roots hs)) (roots more) there in
    let of_more : length (roots more) ≤ length more * w.registers = roots-most w.slots w.registers more (All-right hs more (subst (All (AreRegisters w.slots w.registers)) e image.registers)) in
    let rows : length more ≡ w.mutators - length hs = omega (arith, ap (length {A = List (Option ℕ)}) e, length-append hs more, image.mutators) in
    let all : max (highest 0 (roots w.held)) (meeting w.objects).met ≡ length w.objects = walk_highest (map names w.objects) (highest 0 (roots w.held)) ∙ grown.all ∙ length-map w.objects names in
    let due : (meeting w.objects).due ≤ highest 0 (roots w.held) = follows_due (map names w.objects) (highest 0 (roots w.held)) grown.follows in
    record {
      met = omega arith;
      grow = grows_naming (roots hs) here;
      named = omega arith;
      reach = omega (arith, least_at (meeting w.objects) (length w.objects) (highest 0 (roots w.held)) all due, ap (λ (k : ℕ). k * w.registers) rows);
    }
  where
    All-right : (hs more : List (List (Option ℕ))) → All (AreRegisters w.slots w.registers) (hs ++ more) → All (AreRegisters w.slots w.registers) more
    All-right [] more are = are
    All-right (own ∷ hs) more are = All-right hs more (All-tail (AreRegisters w.slots w.registers) own (hs ++ more) are)

-- ---- their texts

pub regroup : (a b c d e : List ℕ) → a ++ (b ++ (c ++ (d ++ e))) ≡ (a ++ (b ++ (c ++ d))) ++ e
regroup a b c d e = simp append_assoc

-- the lines up to some registers, and what is behind them
text_told : (w : ImageContents) (hs more : List (List (Option ℕ))) → w.held ≡ hs ++ more → text w ≡ so_far (record w { held = hs }) ++ (flat_map registers_line more ++ end_line)
text_told w hs more e =
    ap (λ (rs : List ℕ). header_line ++ (heap_line w.slots w.fields w.registers w.mutators ++ (flat_map object_line w.objects ++ (rs ++ end_line)))) (ap (flat_map registers_line) e ∙ flat_map-append registers_line hs more)
    ∙ ap (λ (rs : List ℕ). header_line ++ (heap_line w.slots w.fields w.registers w.mutators ++ (flat_map object_line w.objects ++ rs))) (append_assoc (flat_map registers_line hs) (flat_map registers_line more) end_line)
    ∙ regroup header_line (heap_line w.slots w.fields w.registers w.mutators) (flat_map object_line w.objects) (flat_map registers_line hs) (flat_map registers_line more ++ end_line)

-- the lines up to some objects, and what is behind them
text_open : (w : ImageContents) (os more : List Node) → w.objects ≡ os ++ more → text w ≡ so_far (record w { objects = os; held = [] }) ++ (flat_map object_line more ++ (flat_map registers_line w.held ++ end_line))
text_open w os more e =
    ap (λ (ls : List ℕ). header_line ++ (heap_line w.slots w.fields w.registers w.mutators ++ (ls ++ (flat_map registers_line w.held ++ end_line)))) (ap (flat_map object_line) e ∙ flat_map-append object_line os more)
    ∙ ap (λ (ls : List ℕ). header_line ++ (heap_line w.slots w.fields w.registers w.mutators ++ ls)) (append_assoc (flat_map object_line os) (flat_map object_line more) (flat_map registers_line w.held ++ end_line))
    ∙ regroup header_line (heap_line w.slots w.fields w.registers w.mutators) (flat_map object_line os) [] (flat_map object_line more ++ (flat_map registers_line w.held ++ end_line))

pub continued_told : (v : ImageContents) → CanClose v → IsContinued (so_far v)
continued_told v can = (
  with_more v [] (completing v),
  flat_map registers_line (completing v) ++ end_line,
  completed v can,
  text_told (with_more v [] (completing v)) v.held (completing v) refl
      ∙ ap (λ (os : List Node). so_far (record v { objects = os }) ++ (flat_map registers_line (completing v) ++ end_line)) (append-nil v.objects),
)

pub continued_open : (v : ImageContents) → IsOpen v → IsContinued (so_far v)
continued_open v open_ =
    let u : ImageContents = with_more v (missing v) [] in (
      with_more (with_more v (missing v) []) [] (completing (with_more v (missing v) [])),
      flat_map object_line (missing v) ++ (flat_map registers_line ((v.held ++ []) ++ completing (with_more v (missing v) [])) ++ end_line),
      completed (with_more v (missing v) []) (can_close v open_),
      text_open (with_more (with_more v (missing v) []) [] (completing (with_more v (missing v) []))) v.objects (missing v) (append-nil (v.objects ++ missing v))
          ∙ ap (λ (hs : List (List (Option ℕ))). so_far (record v { held = hs }) ++ (flat_map object_line (missing v) ++ (flat_map registers_line ((v.held ++ []) ++ completing (with_more v (missing v) [])) ++ end_line))) (sym open_.none),
    )

-- registers of all mutators: the value is an image
pub closed : (v : ImageContents) → CanClose v → length v.held ≡ v.mutators → IsImage v
closed v can all =
    let none : completing v ≡ [] = no_rows (v.mutators - length v.held) v.registers (naming v.held).met (max (naming v.held).met (least (meeting v.objects) (length v.objects)) - (naming v.held).met) (omega arith) in
    subst (λ (os : List Node). IsImage (record v { objects = os })) (append-nil v.objects)
    (subst (λ (hs : List (List (Option ℕ))). IsImage (record v { objects = v.objects ++ []; held = hs })) (ap (λ (hs : List (List (Option ℕ))). v.held ++ hs) none ∙ append-nil v.held) (completed v can))
  where
    no_rows : (mutators registers first left : ℕ) → mutators ≡ 0 → all_registers mutators registers first left ≡ []
    no_rows zero registers first left e = refl
    no_rows (suc mutators) registers first left e = absurd (omega arith)
