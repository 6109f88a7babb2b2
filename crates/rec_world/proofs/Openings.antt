-- How the words, counts and mutators of a heap are made that is opened from objects.
use Rattle.std.proofs.Common.{◌≡◌, ℕ, suc, ◌+◌, ◌^◌, ◌<◌, if◌then◌else◌, Bool, Option, None, Some, List, [], ◌∷◌, ◌++◌, count_by, length, map, take, drop, get_or, refl, sym, ap, subst, ◌∙◌, arith, append_assoc}
use Rattle.std.specs.Option.{IfSome}
use Rattle.std.proofs.lemmas.List.{length-take, take_more}
use Rattle.std.proofs.lemmas.List.Elements.{All-push}
use Rattle.std.proofs.lemmas.List.Sums.{count_by-le-length, sum_by-append, sum_by-cons}
use Rattle.rec_word.specs.Header.{header_word}
use Rattle.rec_word.specs.Word.{is_slot}
use Rattle.rec_world.proofs.Common.{Private}
use Rattle.rec_core.specs.Objects.{HaveLabels, IsOneOf, early_word, early_words, rows_of}
use Rattle.rec_core.specs.Core.{holding_mutator, holding_mutators}
use Rattle.rec_core.specs.Row.{row}
use Rattle.rec_core.specs.declared.config.Config.{Config}
use Rattle.rec_core.proofs.EarlyWords.{one_if_slot}
use Rattle.rec_core.proofs.OpenedFromSeen.{header_of}

-- one word more
early-push : (p : ℕ) (xs : List (Option ℕ)) (x : Option ℕ) → early_words p (xs ++ x ∷ []) ≡ early_words p xs ++ early_word (p + length xs) x ∷ []
early-push p [] x = let same : p ≡ p + 0 = omega arith in ap (λ q. early_word q x ∷ []) same
early-push p (y ∷ ys) x =
    let same : p + 1 + length ys ≡ p + suc (length ys) = omega arith in
    ap (λ ws. early_word p y ∷ ws) (early-push (p + 1) ys x ∙ ap (λ q. early_words (p + 1) ys ++ early_word q x ∷ []) same)

pub words_more : (old : List ℕ) (xs : List (Option ℕ)) (i : ℕ) → i < length xs → (old ++ early_words 0 (take i xs)) ++ early_word i (get_or xs i None) ∷ [] ≡ old ++ early_words 0 (take (i + 1) xs)
words_more old xs i there =
    let at : 0 + length (take i xs) ≡ i = omega (arith, there, length-take i xs) in
    append_assoc old (early_words 0 (take i xs)) (early_word i (get_or xs i None) ∷ [])
    ∙ ap (λ ws. old ++ ws) (sym (ap (early_words 0) (take_more xs i None there) ∙ early-push 0 (take i xs) (get_or xs i None) ∙ ap (λ q. early_words 0 (take i xs) ++ early_word q (get_or xs i None) ∷ []) at))

map-push : (nodes : List (ℕ × Bool)) (node : ℕ × Bool) → map header_of (nodes ++ node ∷ []) ≡ map header_of nodes ++ header_of node ∷ []
map-push [] node = refl
map-push (first ∷ nodes) node = ap (λ hs. header_of first ∷ hs) (map-push nodes node)

pub headers_more : (old : List ℕ) (nodes : List (ℕ × Bool)) (i : ℕ) (d : ℕ × Bool) → i < length nodes → (old ++ map header_of (take i nodes)) ++ header_of (get_or nodes i d) ∷ [] ≡ old ++ map header_of (take (i + 1) nodes)
headers_more old nodes i d there =
    append_assoc old (map header_of (take i nodes)) (header_of (get_or nodes i d) ∷ [])
    ∙ ap (λ hs. old ++ hs) (sym (ap (map header_of) (take_more nodes i d there) ∙ map-push (take i nodes) (get_or nodes i d)))

-- one label more
pub labels_more : (nodes : List (ℕ × Bool)) (i : ℕ) (d : ℕ × Bool) → i < length nodes → HaveLabels (take i nodes) → (get_or nodes i d).0 < 2 ^ 32 → HaveLabels (take (i + 1) nodes)
labels_more nodes i d there all fits = subst HaveLabels (sym (take_more nodes i d there)) (All-push (λ node. node.0 < 2 ^ 32) (take i nodes) (get_or nodes i d) all fits)

pub held_more : (n : ℕ) (names : List (Option ℕ)) (i : ℕ) → i < length names → count_by (is_slot n) (take (i + 1) names) ≡ count_by (is_slot n) (take i names) + one_if_slot n (get_or names i None)
held_more n names i there = omega (
  arith,
  ap (count_by (is_slot n)) (take_more names i None there),
  sum_by-append (one_if_slot n) (take i names) (get_or names i None ∷ []),
  sum_by-cons (one_if_slot n) (get_or names i None) [],
)

-- there is room for it
pub held_few : (n : ℕ) (names : List (Option ℕ)) (i : ℕ) → i < length names → count_by (is_slot n) (take i names) < length names
held_few n names i there = omega (arith, there, count_by-le-length (is_slot n) (take i names), length-take i names)

pub room_for : (many : ℕ) (counts : List ℕ) (x : Option ℕ) → IsOneOf many x → ((n : ℕ) → n < many → get_or counts n 0 + 1 < 2 ^ 64) → IfSome x (λ n. get_or counts n 0 + 1 < 2 ^ 64)
room_for many counts None is each = tt
room_for many counts (Some n) is each = each n is

-- one mutator more
pub holders_more : (config : Config) (t more left : ℕ) (rest own others : List (Option ℕ)) (machines : List Private) → more ≡ suc left → own ≡ take config.registers rest → others ≡ drop config.registers rest
    → machines ++ holding_mutators config t (rows_of config.registers more rest) ≡ (machines ++ holding_mutator config t own ∷ []) ++ holding_mutators config (t + 1) (rows_of config.registers left others)
holders_more config t more left rest own others machines is front behind =
    ap (λ n. machines ++ holding_mutators config t (rows_of config.registers n rest)) is
    ∙ (λ i. machines ++ holding_mutator config t (sym front i) ∷ holding_mutators config (t + 1) (rows_of config.registers left (sym behind i)))
    ∙ sym (append_assoc machines (holding_mutator config t own ∷ []) (holding_mutators config (t + 1) (rows_of config.registers left others)))

-- the parts of a row
pub row_made : (words nulls headers free crossing : List ℕ) (epoch : ℕ)
    → (((((words ++ nulls) ++ headers) ++ free) ++ epoch ∷ []) ++ 0 ∷ []) ++ crossing ≡ row (record { headers = headers ++ free; words = words ++ nulls; epoch = epoch; freed = 0; crossing = crossing })
row_made words nulls headers free crossing epoch = simp append_assoc
