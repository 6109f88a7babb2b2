-- A line begins bytes in one way: it tells what it is of, and what is behind it.
use Rattle.std.proofs.Common.{◌≡◌, ℕ, suc, ◌+◌, ◌^◌, ◌<◌, ◌≤◌, ◌==◌, Bool, true, false, cond, List, [], ◌∷◌, ◌++◌, Option, None, Some, All, length, replicate, get_or, refl, sym, ap, subst, ◌∙◌, arith, append_assoc}
use Rattle.std.specs.Prelude.{codes}
use Rattle.std.specs.Fmt.{decimal}
use Rattle.std.specs.List.{flat_map}
use Rattle.std.proofs.lemmas.Bool.{ne_eqb, false≢true, true≢false}
use Rattle.std.proofs.lemmas.List.Elements.{All-head, All-tail}
use Rattle.std.proofs.lemmas.List.Sums.{sum_by-append}
use Rattle.rec_report.specs.Text.{line_feed}
use Rattle.rec_io.specs.Text.{EndsNumeral}
use Rattle.rec_io.proofs.Numerals.{AreDigits, digits_of, same_numeral}
use Rattle.rec_image.specs.Image.{Node, IsOneOf, IsNode, AreRegisters, word, told_fields, node_head, object_line, registers_line, feeds}

-- ---- numerals

pub numeral_front : (n m : ℕ) (s t : List ℕ) → n < 2 ^ 32 → m < 2 ^ 32 → EndsNumeral s → EndsNumeral t → decimal n ++ s ≡ decimal m ++ t → (n ≡ m) × (s ≡ t)
numeral_front n m s t fits also = same_numeral n m s t (omega arith) (omega arith)

-- ---- what objects lead to

pub feed_ends : (bytes : List ℕ) → EndsNumeral (10 ∷ bytes)
feed_ends bytes = refl

word_ends : (x : Option ℕ) (bytes : List ℕ) → EndsNumeral (word x ++ bytes)
word_ends None bytes = refl
word_ends (Some n) bytes = refl

pub words_end : (xs : List (Option ℕ)) (bytes : List ℕ) → EndsNumeral bytes → EndsNumeral (flat_map word xs ++ bytes)
words_end [] bytes ends = ends
words_end (x ∷ xs) bytes ends = subst EndsNumeral (sym (append_assoc (word x) (flat_map word xs) bytes)) (word_ends x (flat_map word xs ++ bytes))

word_front : (slots : ℕ) (x y : Option ℕ) (s t : List ℕ) → slots ≤ 65535 → IsOneOf slots x → IsOneOf slots y → EndsNumeral s → EndsNumeral t → word x ++ s ≡ word y ++ t → (x ≡ y) × (s ≡ t)
word_front slots None None s t small a b p q e = (refl, let rest : s ≡ t = cc in rest)
word_front slots None (Some m) s t small a b p q e = absurd (let clash : 45 ≡ 35 = ap (λ (bs : List ℕ). get_or bs 1 0) e in omega arith)
word_front slots (Some n) None s t small a b p q e = absurd (let clash : 35 ≡ 45 = ap (λ (bs : List ℕ). get_or bs 1 0) e in omega arith)
word_front slots (Some n) (Some m) s t small a b p q e =
    let rest : decimal (n + 1) ++ s ≡ decimal (m + 1) ++ t = cc in
    let found : (n + 1 ≡ m + 1) × (s ≡ t) = numeral_front (n + 1) (m + 1) s t (omega arith) (omega arith) p q rest in
    let same : n ≡ m = omega (arith, found.0) in
    (ap Some same, found.1)

words_front : (slots : ℕ) (xs ys : List (Option ℕ)) (s t : List ℕ) → slots ≤ 65535 → length xs ≡ length ys → All (IsOneOf slots) xs → All (IsOneOf slots) ys → EndsNumeral s → EndsNumeral t → flat_map word xs ++ s ≡ flat_map word ys ++ t → (xs ≡ ys) × (s ≡ t)
words_front slots [] [] s t small size a b p q e = (refl, e)
words_front slots [] (y ∷ ys) s t small size a b p q e = absurd (omega arith)
words_front slots (x ∷ xs) [] s t small size a b p q e = absurd (omega arith)
words_front slots (x ∷ xs) (y ∷ ys) s t small size a b p q e =
    let first : (x ≡ y) × (flat_map word xs ++ s ≡ flat_map word ys ++ t) =
    word_front slots x y (flat_map word xs ++ s) (flat_map word ys ++ t) small (All-head (IsOneOf slots) x xs a) (All-head (IsOneOf slots) y ys b) (words_end xs s p) (words_end ys t q)
    (sym (append_assoc (word x) (flat_map word xs) s) ∙ e ∙ append_assoc (word y) (flat_map word ys) t) in
    let later : (xs ≡ ys) × (s ≡ t) = words_front slots xs ys s t small (omega arith) (All-tail (IsOneOf slots) x xs a) (All-tail (IsOneOf slots) y ys b) p q first.1 in
    (cc (first.0, later.0), later.1)

-- ---- lines

-- an object's line with what is behind it, piece by piece
pub object_parts : (node : Node) (rest : List ℕ) → object_line node ++ rest ≡ node_head node.leaf ++ (decimal node.label ++ (flat_map word (told_fields node.leaf node.fields) ++ (10 ∷ rest)))
object_parts node rest =
    append_assoc (node_head node.leaf) (decimal node.label ++ (flat_map word (told_fields node.leaf node.fields) ++ line_feed)) rest
    ∙ ap (λ (bs : List ℕ). node_head node.leaf ++ bs) (append_assoc (decimal node.label) (flat_map word (told_fields node.leaf node.fields) ++ line_feed) rest
    ∙ ap (λ (bs : List ℕ). decimal node.label ++ bs) (append_assoc (flat_map word (told_fields node.leaf node.fields)) line_feed rest))

registers_parts : (held : List (Option ℕ)) (rest : List ℕ) → registers_line held ++ rest ≡ codes "registers" ++ (flat_map word held ++ (10 ∷ rest))
registers_parts held rest = ap (λ (bs : List ℕ). codes "registers" ++ bs) (append_assoc (flat_map word held) line_feed rest)

abbrev node_of : ℕ → Bool → List (Option ℕ) → Node
node_of label leaf fields = record { label = label; leaf = leaf; fields = fields }

-- the fields that are told, and the leaf mark, tell all
node_told : (slots fields : ℕ) (a b : Node) → IsNode slots fields a → IsNode slots fields b → a.leaf ≡ b.leaf → a.label ≡ b.label → told_fields a.leaf a.fields ≡ told_fields b.leaf b.fields → a ≡ b
node_told slots fields a b p q leaf label told = same a.label b.label a.leaf b.leaf a.fields b.fields p.leaf q.leaf leaf label told
  where
    same : (l k : ℕ) (x y : Bool) (fs gs : List (Option ℕ)) → (x ≡ true → fs ≡ replicate fields None) → (y ≡ true → gs ≡ replicate fields None) → x ≡ y → l ≡ k → told_fields x fs ≡ told_fields y gs → node_of l x fs ≡ node_of k y gs
    same l k true true fs gs f g e h told = let all : fs ≡ gs = f refl ∙ sym (g refl) in cc
    same l k true false fs gs f g e h told = absurd (true≢false e)
    same l k false true fs gs f g e h told = absurd (false≢true e)
    same l k false false fs gs f g e h told = cc

pub head_front : (x y : Bool) (s t : List ℕ) → node_head x ++ s ≡ node_head y ++ t → (x ≡ y) × (s ≡ t)
head_front true true s t e = (refl, let rest : s ≡ t = cc in rest)
head_front true false s t e = absurd (let clash : 108 ≡ 111 = ap (λ (bs : List ℕ). get_or bs 0 0) e in omega arith)
head_front false true s t e = absurd (let clash : 111 ≡ 108 = ap (λ (bs : List ℕ). get_or bs 0 0) e in omega arith)
head_front false false s t e = (refl, let rest : s ≡ t = cc in rest)

told_places : (slots fields : ℕ) (x : Bool) (fs : List (Option ℕ)) → All (IsOneOf slots) fs → All (IsOneOf slots) (told_fields x fs)
told_places slots fields true fs all = λ k d lt. absurd (omega arith)
told_places slots fields false fs all = all

told_size : (x y : Bool) (fs gs : List (Option ℕ)) → x ≡ y → length fs ≡ length gs → length (told_fields x fs) ≡ length (told_fields y gs)
told_size true true fs gs e h = refl
told_size true false fs gs e h = absurd (true≢false e)
told_size false true fs gs e h = absurd (false≢true e)
told_size false false fs gs e h = h

pub object_front : (slots fields : ℕ) (a b : Node) (s t : List ℕ) → slots ≤ 65535 → IsNode slots fields a → IsNode slots fields b → object_line a ++ s ≡ object_line b ++ t → (a ≡ b) × (s ≡ t)
object_front slots fields a b s t small p q e =
    let heads : (a.leaf ≡ b.leaf) × (decimal a.label ++ (flat_map word (told_fields a.leaf a.fields) ++ (10 ∷ s)) ≡ decimal b.label ++ (flat_map word (told_fields b.leaf b.fields) ++ (10 ∷ t))) =
    head_front a.leaf b.leaf (decimal a.label ++ (flat_map word (told_fields a.leaf a.fields) ++ (10 ∷ s))) (decimal b.label ++ (flat_map word (told_fields b.leaf b.fields) ++ (10 ∷ t))) (sym (object_parts a s) ∙ e ∙ object_parts b t) in
    let labels : (a.label ≡ b.label) × (flat_map word (told_fields a.leaf a.fields) ++ (10 ∷ s) ≡ flat_map word (told_fields b.leaf b.fields) ++ (10 ∷ t)) =
    numeral_front a.label b.label (flat_map word (told_fields a.leaf a.fields) ++ (10 ∷ s)) (flat_map word (told_fields b.leaf b.fields) ++ (10 ∷ t)) p.label q.label (words_end (told_fields a.leaf a.fields) (10 ∷ s) (feed_ends s)) (words_end (told_fields b.leaf b.fields) (10 ∷ t) (feed_ends t)) heads.1 in
    let words : (told_fields a.leaf a.fields ≡ told_fields b.leaf b.fields) × (10 ∷ s ≡ 10 ∷ t) =
    words_front slots (told_fields a.leaf a.fields) (told_fields b.leaf b.fields) (10 ∷ s) (10 ∷ t) small (told_size a.leaf b.leaf a.fields b.fields heads.0 (p.width ∙ sym q.width)) (told_places slots fields a.leaf a.fields p.places) (told_places slots fields b.leaf b.fields q.places) (feed_ends s) (feed_ends t) labels.1 in
    (node_told slots fields a b p q heads.0 labels.0 words.0, let rest : s ≡ t = cc (words.1) in rest)

pub registers_front : (slots registers : ℕ) (a b : List (Option ℕ)) (s t : List ℕ) → slots ≤ 65535 → AreRegisters slots registers a → AreRegisters slots registers b → registers_line a ++ s ≡ registers_line b ++ t → (a ≡ b) × (s ≡ t)
registers_front slots registers a b s t small p q e =
    let parts : codes "registers" ++ (flat_map word a ++ (10 ∷ s)) ≡ codes "registers" ++ (flat_map word b ++ (10 ∷ t)) = sym (registers_parts a s) ∙ e ∙ registers_parts b t in
    let rest : flat_map word a ++ (10 ∷ s) ≡ flat_map word b ++ (10 ∷ t) = cc in
    let words : (a ≡ b) × (10 ∷ s ≡ 10 ∷ t) = words_front slots a b (10 ∷ s) (10 ∷ t) small (p.number ∙ sym q.number) p.places q.places (feed_ends s) (feed_ends t) rest in
    (words.0, let more : s ≡ t = cc (words.1) in more)

-- ---- lists of lines

-- lines of one kind, told one way, before another
pub lines_front : {A : Type 0} (P : A → Type 0) (line : A → List ℕ) (end : List ℕ) → ((a b : A) (s t : List ℕ) → P a → P b → line a ++ s ≡ line b ++ t → (a ≡ b) × (s ≡ t)) → ((a : A) (s : List ℕ) → line a ++ s ≡ end → ⊥) → (xs ys : List A) (t : List ℕ) → All P xs → All P ys → flat_map line xs ++ t ≡ flat_map line ys ++ end → (more : List A) × (ys ≡ xs ++ more) × (t ≡ flat_map line more ++ end)
lines_front P line end one other [] ys t p q e = (ys, refl, e)
lines_front P line end one other (x ∷ xs) [] t p q e = absurd (other x (flat_map line xs ++ t) (sym (append_assoc (line x) (flat_map line xs) t) ∙ e))
lines_front P line end one other (x ∷ xs) (y ∷ ys) t p q e =
    let first : (x ≡ y) × (flat_map line xs ++ t ≡ flat_map line ys ++ end) =
    one x y (flat_map line xs ++ t) (flat_map line ys ++ end) (All-head P x xs p) (All-head P y ys q) (sym (append_assoc (line x) (flat_map line xs) t) ∙ e ∙ append_assoc (line y) (flat_map line ys) end) in
    let (more, same, behind) = lines_front P line end one other xs ys t (All-tail P x xs p) (All-tail P y ys q) first.1 in
    (more, ap (λ z. z ∷ ys) (sym first.0) ∙ ap (λ zs. x ∷ zs) same, behind)

-- ---- LFs

pub feeds-append : (xs ys : List ℕ) → feeds (xs ++ ys) ≡ feeds xs + feeds ys
feeds-append xs ys = sum_by-append (λ b. cond (b == 10) 1 0) xs ys

no_feed_digits : (ds : List ℕ) → AreDigits ds → feeds ds ≡ 0
no_feed_digits [] are = refl
no_feed_digits (d ∷ ds) are =
    let other : (d == 10) ≡ false = ne_eqb d 10 (λ e. omega (arith, (are 0 (omega arith)).0)) in
    rw other (no_feed_digits ds (λ i lt. are (suc i) (omega arith)))

pub no_feed_numeral : (n : ℕ) → n < 2 ^ 32 → feeds (decimal n) ≡ 0
no_feed_numeral n fits = no_feed_digits (decimal n) (digits_of n (omega arith))

no_feed_word : (slots : ℕ) (x : Option ℕ) → slots ≤ 65535 → IsOneOf slots x → feeds (word x) ≡ 0
no_feed_word slots None small is = refl
no_feed_word slots (Some n) small is = no_feed_numeral (n + 1) (omega arith)

no_feed_words : (slots : ℕ) (xs : List (Option ℕ)) → slots ≤ 65535 → All (IsOneOf slots) xs → feeds (flat_map word xs) ≡ 0
no_feed_words slots [] small all = refl
no_feed_words slots (x ∷ xs) small all =
    omega (arith, feeds-append (word x) (flat_map word xs), no_feed_word slots x small (All-head (IsOneOf slots) x xs all), no_feed_words slots xs small (All-tail (IsOneOf slots) x xs all))

-- bytes that end with their one LF
pub record IsLine (line : List ℕ) : Type 0 where
  pub body : List ℕ
  pub is : line ≡ body ++ line_feed
  pub one : feeds body ≡ 0

pub object_is_line : (slots fields : ℕ) (node : Node) → slots ≤ 65535 → IsNode slots fields node → IsLine (object_line node)
object_is_line slots fields node small is = record {
  body = node_head node.leaf ++ (decimal node.label ++ flat_map word (told_fields node.leaf node.fields));
  is = grouped (node_head node.leaf) (decimal node.label) (flat_map word (told_fields node.leaf node.fields));
  one = omega (arith, feeds-append (node_head node.leaf) (decimal node.label ++ flat_map word (told_fields node.leaf node.fields)), feeds-append (decimal node.label) (flat_map word (told_fields node.leaf node.fields)), head node.leaf, no_feed_numeral node.label is.label, no_feed_words slots (told_fields node.leaf node.fields) small (told_places slots fields node.leaf node.fields is.places));
}
  where
    grouped : (a b c : List ℕ) → a ++ (b ++ (c ++ line_feed)) ≡ (a ++ (b ++ c)) ++ line_feed
    grouped a b c = simp append_assoc

    head : (x : Bool) → feeds (node_head x) ≡ 0
    head true = refl
    head false = refl

pub registers_is_line : (slots registers : ℕ) (held : List (Option ℕ)) → slots ≤ 65535 → AreRegisters slots registers held → IsLine (registers_line held)
registers_is_line slots registers held small are = record {
  body = codes "registers" ++ flat_map word held;
  is = sym (append_assoc (codes "registers") (flat_map word held) line_feed);
  one = omega (arith, feeds-append (codes "registers") (flat_map word held), no_feed_words slots held small are.places);
}

feed_counts : (y : ℕ) (ys : List ℕ) → y ≡ 10 → feeds (y ∷ ys) ≡ 0 → ⊥
feed_counts y ys e b = let h : feeds (10 ∷ ys) ≡ 0 = subst (λ (c : ℕ). feeds (c ∷ ys) ≡ 0) e b in omega (arith, feeds-append (10 ∷ []) ys)

-- a first line is told
pub line_front : (xs ys s t : List ℕ) → feeds xs ≡ 0 → feeds ys ≡ 0 → xs ++ (line_feed ++ s) ≡ ys ++ (line_feed ++ t) → (xs ≡ ys) × (s ≡ t)
line_front [] [] s t a b e = (refl, let rest : s ≡ t = cc in rest)
line_front [] (y ∷ ys) s t a b e = absurd (let first : y ≡ 10 = cc in feed_counts y ys first b)
line_front (x ∷ xs) [] s t a b e = absurd (let first : x ≡ 10 = cc in feed_counts x xs first a)
line_front (x ∷ xs) (y ∷ ys) s t a b e =
    let first : x ≡ y = cc in
    let rest : xs ++ (line_feed ++ s) ≡ ys ++ (line_feed ++ t) = cc in
    let found : (xs ≡ ys) × (s ≡ t) = line_front xs ys s t (omega (arith, feeds-append (x ∷ []) xs)) (omega (arith, feeds-append (y ∷ []) ys)) rest in
    (cc (first, found.0), found.1)
