-- The rows of a world are those of its image.
use Rattle.std.proofs.Common.{◌≡◌, ℕ, zero, suc, ◌+◌, ◌-◌, ◌*◌, ◌<◌, ◌≤◌, Bool, true, List, [], ◌∷◌, ◌++◌, Option, None, Some, All, length, map, get_or, take, drop, refl, sym, ap, subst, ◌∙◌, arith, append-nil, append_assoc}
use Rattle.std.specs.Prelude.{option_map, slice_range, unwrap_or}
use Rattle.std.specs.List.{flat_map}
use Rattle.std.proofs.Math.Seq.{drop-append-add}
use Rattle.std.proofs.lemmas.Grind.{flat_map-append}
use Rattle.std.proofs.lemmas.List.{get_or-map, length-map, map-append, take-append-le, take_all, take_more}
use Rattle.std.proofs.lemmas.List.Elements.{All-get_or, All-head, All-tail}
use Rattle.rec_word.specs.Header.{is_leaf, label_of as label_in}
use Rattle.rec_word.specs.Word.{target_of}
use Rattle.rec_model.specs.Heap.{registers_of, roots}
use Rattle.rec_model.specs.Reach.{is_in, named}
use Rattle.rec_model.specs.Reach.IsReached.{child, root}
use Rattle.rec_model.specs.Sight.{Reaches, targets_of, words_of}
use Rattle.rec_model.proofs.Members.{is_in-head, is_in-tail}
use Rattle.rec_model.proofs.Names.{roots_at}
use Rattle.rec_model.proofs.Numbered.{lists_reached}
use Rattle.rec_world.specs.Numbering.{Numbered}
use Rattle.rec_world.specs.World.{Core, IsWorld, label_of, sight}
use Rattle.rec_report.specs.Report.{IsNumbered}
use Rattle.rec_report.proofs.Rows.{header_label}
use Rattle.rec_image.specs.Drafts.{objects_of, rows_of}
use Rattle.rec_image.specs.Image.{AreRegisters, IsImage, IsNode, Node}
use Rattle.rec_image.specs.Restored.{fields_in, mark_of}
use Rattle.rec_image.specs.Standing.{held_of, image_of, listed_place, node_of, place_in}
use Rattle.rec_image.proofs.Restoring.{fields_long, registers_long}

-- ---- what stands one behind the other, cut again
objects_again : (slots fields : ℕ) (objects : List Node) → All (IsNode slots fields) objects → objects_of fields (map mark_of objects) (flat_map fields_in objects) ≡ objects
objects_again slots fields [] all = refl
objects_again slots fields (node ∷ objects) all =
    let own : length node.fields ≡ fields = (All-head (IsNode slots fields) node objects all).width in
    let rest : List (Option ℕ) = flat_map fields_in objects in
    let first : take fields (node.fields ++ rest) ≡ node.fields = take-append-le fields node.fields rest (omega (arith, own)) ∙ take_all fields node.fields (omega (arith, own)) in
    let at : fields ≡ length node.fields + 0 = omega (arith, own) in
    let behind : drop fields (node.fields ++ rest) ≡ rest = ap (λ n. drop n (node.fields ++ rest)) at ∙ drop-append-add node.fields rest 0 in
    (λ i. record { label = node.label; leaf = node.leaf; fields = first i } ∷ objects_of fields (map mark_of objects) (behind i))
    ∙ ap (λ (os : List Node). node ∷ os) (objects_again slots fields objects (All-tail (IsNode slots fields) node objects all))

held_again : (slots registers mutators : ℕ) (held : List (List (Option ℕ))) → length held ≡ mutators → All (AreRegisters slots registers) held → rows_of registers mutators (flat_map (λ own. own) held) ≡ held
held_again slots registers zero [] many all = refl
held_again slots registers (suc n) [] many all = absurd (omega (arith, many))
held_again slots registers zero (own ∷ held) many all = absurd (omega (arith, many))
held_again slots registers (suc n) (own ∷ held) many all =
    let long : length own ≡ registers = (All-head (AreRegisters slots registers) own held all).number in
    let rest : List (Option ℕ) = flat_map (λ x. x) held in
    let first : take registers (own ++ rest) ≡ own = take-append-le registers own rest (omega (arith, long)) ∙ take_all registers own (omega (arith, long)) in
    let at : registers ≡ length own + 0 = omega (arith, long) in
    let behind : drop registers (own ++ rest) ≡ rest = ap (λ n. drop n (own ++ rest)) at ∙ drop-append-add own rest 0 in
    (λ i. first i ∷ rows_of registers n (behind i))
    ∙ ap (λ (rs : List (List (Option ℕ))). own ∷ rs) (held_again slots registers n held (omega (arith, many)) (All-tail (AreRegisters slots registers) own held all))

-- ---- what is listed has its place
listed_places : (list : List ℕ) (xs : List (Option ℕ)) → ((n : ℕ) → is_in n (named xs) ≡ true → is_in n list ≡ true) → map (listed_place list) xs ≡ map (option_map (place_in list)) xs
listed_places list [] each = refl
listed_places list (None ∷ xs) each = ap (λ (ys : List (Option ℕ)). None ∷ ys) (listed_places list xs each)
listed_places list (Some n ∷ xs) each =
    let first : listed_place list (Some n) ≡ Some (place_in list n) = one (each n (is_in-head n (named xs))) in
    let rest : map (listed_place list) xs ≡ map (option_map (place_in list)) xs = listed_places list xs (λ m h. each m (is_in-tail m n (named xs) h)) in
    (λ i. first i ∷ rest i)
  where
    one : is_in n list ≡ true → listed_place list (Some n) ≡ Some (place_in list n)
    one h = rw h (ap Some (let e : place_in list n + 1 - 1 ≡ place_in list n = omega arith in e))

by_targets : (f : Option ℕ → Option ℕ) (words : List ℕ) → map (λ word. f (target_of word)) words ≡ map f (map target_of words)
by_targets f [] = refl
by_targets f (word ∷ words) = ap (λ (xs : List (Option ℕ)). f (target_of word) ∷ xs) (by_targets f words)

-- ---- what is put behind the others, one by one
pub one_put : {A B : Type 0} (f : A → B) (xs : List A) (i : ℕ) (d : A) (first so_far more : List B) (x : B) → i < length xs → so_far ≡ first ++ map f (take i xs) → x ≡ f (get_or xs i d) → more ≡ so_far ++ x ∷ [] → more ≡ first ++ map f (take (i + 1) xs)
one_put {A} {B} f xs i d first so_far more x within so here is =
    is ∙ (λ j. so j ++ here j ∷ []) ∙ append_assoc first (map f (take i xs)) (f (get_or xs i d) ∷ [])
    ∙ ap (λ (ys : List B). first ++ ys) (sym (ap (map f) (take_more xs i d within) ∙ map-append f (take i xs) (get_or xs i d ∷ [])))

-- ---- the rows of the objects so far
pub all_rows : {A B : Type 0} (f : List A → List B) (xs now : List A) (i : ℕ) (rows : List B) → now ≡ xs → length now ≤ i → rows ≡ f (take i xs) → rows ≡ f xs
all_rows {A} f xs now i rows same all so = so ∙ ap f (take_all i xs (subst (λ (ys : List A). length ys ≤ i) same all))

pub node_more : (w : Core) (fields : ℕ) (n : Numbered) (i label : ℕ) (leaf : Bool) (found : Option ℕ) (now : List ℕ) (so_far more : List (ℕ × Bool)) → IsNumbered w fields n → now ≡ n.list → i < length now
    → found ≡ label_of (get_or w.headers (get_or now i 0) 0) → label ≡ unwrap_or found 0 → leaf ≡ is_leaf (get_or w.headers (get_or now i 0) 0)
    → so_far ≡ map mark_of (map (node_of (sight w) n.list) (take i n.list)) → more ≡ so_far ++ (label, leaf) ∷ [] → more ≡ map mark_of (map (node_of (sight w) n.list) (take (i + 1) n.list))
node_more w fields n i label leaf found now so_far more numbered same within look opened marked so is =
    let inside : i < length n.list = subst (λ (ns : List ℕ). i < length ns) same within in
    let slot : ℕ = get_or n.list i 0 in
    let name : label ≡ label_in (get_or w.headers slot 0) = opened ∙ ap (λ (x : Option ℕ). unwrap_or x 0) look ∙ header_label (get_or w.headers (get_or now i 0) 0) ∙ ap (λ (ns : List ℕ). label_in (get_or w.headers (get_or ns i 0) 0)) same in
    let mark : leaf ≡ is_leaf (get_or w.headers slot 0) = marked ∙ ap (λ (ns : List ℕ). is_leaf (get_or w.headers (get_or ns i 0) 0)) same in
    is ∙ (λ j. so j ++ (name j, mark j) ∷ [])
    ∙ sym (ap (λ (ns : List ℕ). map mark_of (map (node_of (sight w) n.list) ns)) (take_more n.list i 0 inside)
    ∙ ap (map mark_of) (map-append (node_of (sight w) n.list) (take i n.list) (slot ∷ []))
    ∙ map-append mark_of (map (node_of (sight w) n.list) (take i n.list)) (node_of (sight w) n.list slot ∷ []))

pub fields_more : (w : Core) (fields : ℕ) (n : Numbered) (i slot wide again : ℕ) (now words : List ℕ) (so_far more : List (Option ℕ)) → IsWorld w → IsNumbered w fields n → now ≡ n.list → i < length now
    → slot ≡ get_or now i 0 → wide ≡ fields → again ≡ fields → words ≡ w.words
    → so_far ≡ flat_map fields_in (map (node_of (sight w) n.list) (take i n.list)) → more ≡ so_far ++ map (λ word. listed_place n.list (target_of word)) (slice_range words (slot * wide) (slot * wide + again)) → more ≡ flat_map fields_in (map (node_of (sight w) n.list) (take (i + 1) n.list))
fields_more w fields n i slot wide again now words so_far more world numbered same within at e f all so is =
    let inside : i < length n.list = subst (λ (ns : List ℕ). i < length ns) same within in
    let s : ℕ = get_or n.list i 0 in
    let here : slot ≡ s = at ∙ ap (λ (ns : List ℕ). get_or ns i 0) same in
    let reached : Reaches (sight w) s = All-get_or (Reaches (sight w)) n.list i 0 inside numbered.numbers.reached in
    let own : slice_range words (slot * wide) (slot * wide + again) ≡ words_of (sight w) s = rw (e, f, numbered.same_fields, all, here) refl in
    let each : (m : ℕ) → is_in m (named (map target_of (words_of (sight w) s))) ≡ true → is_in m n.list ≡ true
    = λ m there. (lists_reached (roots (sight w).registers) (targets_of (sight w)) n.list numbered.numbers m).0 (child s m reached there) in
    let read : map (λ word. listed_place n.list (target_of word)) (slice_range words (slot * wide) (slot * wide + again)) ≡ (node_of (sight w) n.list s).fields
    = ap (map (λ word. listed_place n.list (target_of word))) own
    ∙ by_targets (listed_place n.list) (words_of (sight w) s)
    ∙ listed_places n.list (map target_of (words_of (sight w) s)) each
    ∙ sym (by_targets (option_map (place_in n.list)) (words_of (sight w) s)) in
    is ∙ (λ j. so j ++ read j)
    ∙ sym (ap (λ (ns : List ℕ). flat_map fields_in (map (node_of (sight w) n.list) ns)) (take_more n.list i 0 inside)
    ∙ ap (flat_map fields_in) (map-append (node_of (sight w) n.list) (take i n.list) (s ∷ []))
    ∙ flat_map-append fields_in (map (node_of (sight w) n.list) (take i n.list)) (node_of (sight w) n.list s ∷ [])
    ∙ ap (λ (xs : List (Option ℕ)). flat_map fields_in (map (node_of (sight w) n.list) (take i n.list)) ++ xs) (append-nil (node_of (sight w) n.list s).fields))

-- ---- the rows of the registers so far
pub registers_more : (w : Core) (fields : ℕ) (n : Numbered) (t mutators : ℕ) (own so_far more : List (Option ℕ)) → IsWorld w → IsNumbered w fields n → t < mutators → mutators ≡ w.config.mutators → own ≡ registers_of (sight w).registers (t + 1)
    → so_far ≡ flat_map (λ x. x) (take t (held_of (sight w) n.list)) → more ≡ so_far ++ map (listed_place n.list) own → more ≡ flat_map (λ x. x) (take (t + 1) (held_of (sight w) n.list))
registers_more w fields n t mutators own so_far more world numbered within count is so then =
    let held : List (List (Option ℕ)) = held_of (sight w) n.list in
    let size : length (sight w).registers ≡ w.config.mutators = length-map w.mutators (λ p. p.registers) ∙ world.shaped.mutators in
    let here : own ≡ get_or (sight w).registers t [] = is ∙ ap (λ (k : ℕ). get_or (sight w).registers k []) (let z : (t + 1) - 1 ≡ t = omega arith in z) in
    let each : (m : ℕ) → is_in m (named own) ≡ true → is_in m n.list ≡ true
    = λ m there. (lists_reached (roots (sight w).registers) (targets_of (sight w)) n.list numbered.numbers m).0 (root m (roots_at (sight w).registers t m (subst (λ (xs : List (Option ℕ)). is_in m (named xs) ≡ true) here there))) in
    let there : get_or held t [] ≡ map (option_map (place_in n.list)) own = get_or-map (map (option_map (place_in n.list))) (sight w).registers t [] [] (omega arith) ∙ ap (map (option_map (place_in n.list))) (sym here) in
    let read : map (listed_place n.list) own ≡ get_or held t [] = listed_places n.list own each ∙ sym there in
    then ∙ (λ j. so j ++ read j)
    ∙ sym (ap (flat_map (λ x. x)) (take_more held t [] (omega (arith, length-map (sight w).registers (map (option_map (place_in n.list)))))) ∙ flat_map-append (λ x. x) (take t held) (get_or held t [] ∷ [])
    ∙ ap (λ (xs : List (Option ℕ)). flat_map (λ x. x) (take t held) ++ xs) (append-nil (get_or held t [])))

pub registers_all : {B : Type 0} (f : List (List (Option ℕ)) → List B) (w : Core) (list : List ℕ) (t mutators : ℕ) (rows : List B) → IsWorld w → mutators ≡ w.config.mutators → mutators ≤ t
    → rows ≡ f (take t (held_of (sight w) list)) → rows ≡ f (held_of (sight w) list)
registers_all f w list t mutators rows world count all so =
    let size : length (sight w).registers ≡ w.config.mutators = length-map w.mutators (λ p. p.registers) ∙ world.shaped.mutators in
    let long : length (held_of (sight w) list) ≡ mutators = length-map (sight w).registers (map (option_map (place_in list))) ∙ size ∙ sym count in
    all_rows f (held_of (sight w) list) _ t rows refl (omega (arith, long, all)) so

-- ---- so they make up its image
pub contents_are : (w : Core) (list : List ℕ) → IsImage (image_of w list) → (slots fields registers mutators : ℕ) (nodes : List (ℕ × Bool)) (targets held : List (Option ℕ))
    → slots ≡ w.config.slots → fields ≡ w.config.fields → registers ≡ w.config.registers → mutators ≡ w.config.mutators
    → nodes ≡ map mark_of (map (node_of (sight w) list) list) → targets ≡ flat_map fields_in (map (node_of (sight w) list) list) → held ≡ flat_map (λ x. x) (held_of (sight w) list)
    → record { slots = slots; fields = fields; registers = registers; mutators = mutators; objects = objects_of fields nodes targets; held = rows_of registers mutators held } ≡ image_of w list
contents_are w list image slots fields registers mutators nodes targets held a b c d of_nodes of_fields of_held =
    let objects : objects_of fields nodes targets ≡ map (node_of (sight w) list) list
    = (λ i. objects_of (b i) (of_nodes i) (of_fields i)) ∙ objects_again w.config.slots w.config.fields (map (node_of (sight w) list) list) image.objects in
    let rows : rows_of registers mutators held ≡ held_of (sight w) list
    = (λ i. rows_of (c i) (d i) (of_held i)) ∙ held_again w.config.slots w.config.registers w.config.mutators (held_of (sight w) list) image.mutators image.registers in
    (λ i. record { slots = a i; fields = b i; registers = c i; mutators = d i; objects = objects i; held = rows i })

pub fields_kept : (w : Core) (list : List ℕ) → IsImage (image_of w list) → (fields : ℕ) (nodes : List (ℕ × Bool)) (targets : List (Option ℕ)) → fields ≡ w.config.fields
    → nodes ≡ map mark_of (map (node_of (sight w) list) list) → targets ≡ flat_map fields_in (map (node_of (sight w) list) list) → length targets ≡ length nodes * fields
fields_kept w list image fields nodes targets b of_nodes of_fields =
    ap (length {A = Option ℕ}) of_fields ∙ fields_long w.config.slots w.config.fields (map (node_of (sight w) list) list) image.objects
    ∙ ap (λ n. n * w.config.fields) (sym (ap (length {A = ℕ × Bool}) of_nodes ∙ length-map (map (node_of (sight w) list) list) mark_of))
    ∙ ap (λ n. length nodes * n) (sym b)

pub registers_kept : (w : Core) (list : List ℕ) → IsImage (image_of w list) → (registers mutators : ℕ) (held : List (Option ℕ)) → registers ≡ w.config.registers → mutators ≡ w.config.mutators
    → held ≡ flat_map (λ x. x) (held_of (sight w) list) → length held ≡ mutators * registers
registers_kept w list image registers mutators held c d of_held =
    ap (length {A = Option ℕ}) of_held ∙ registers_long w.config.slots w.config.registers (held_of (sight w) list) image.registers
    ∙ ap (λ n. n * w.config.registers) (image.mutators ∙ sym d)
    ∙ ap (λ n. mutators * n) (sym c)
