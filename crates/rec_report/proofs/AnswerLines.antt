-- Answer lines one after another: the next line of a journal, the next journal, and the next turn of an order.
use Rattle.std.proofs.Common.{◌≡◌, inl, inr, ℕ, ◌+◌, ◌-◌, ◌<◌, ◌≤◌, ◌==◌, true, false, List, [], ◌∷◌, ◌++◌, map, take, drop, length, get_or, set, get_or-set_same, get_or-set_other, add-zero, le_trans, refl, sym, ◌∙◌, ap, subst, append_assoc, append-nil, arith, cond}
use Rattle.std.specs.List.{flat_map, enumerate_from}
use Rattle.std.specs.Prelude.{count_by}
use Rattle.std.proofs.lemmas.List.{map-append, take_more, drop_more, length-take-le, take-append-drop, take-map, length-map, get_or-map, get_or_past, get_or_default}
use Rattle.std.proofs.lemmas.List.FromFn.{length-enumerate_from, get_or-enumerate_from}
use Rattle.std.proofs.lemmas.List.Sums.{sum_by_push, count_by-le-length}
use Rattle.std.proofs.lemmas.Bool.{cases_eq, cases_lt, eq-eqb, ne_eqb}
use Rattle.std.proofs.lemmas.Grind.{flat_map-append}
use Rattle.rec_model.specs.LegalOrder.{Line}
use Rattle.rec_world.specs.Journal.{Notes}
use Rattle.rec_model.specs.Numbering.{times}
use Rattle.rec_model.proofs.Counted.{times-append, times-cons, enumerate_from-push}
use Rattle.rec_report.specs.Text.{answer_line, own_lines, lines_by_mutator, turn_line, IsOrderOf, is_refused, refusals}

-- the next element of a list, under a function of its number
pub next_numbered : {X Y : Type 0} (f : ℕ × X → Y) (n : ℕ) (xs : List X) (i : ℕ) (d : X) → i < length xs → map f (enumerate_from n (take (i + 1) xs)) ≡ map f (enumerate_from n (take i xs)) ++ f (n + i, get_or xs i d) ∷ []
next_numbered f n xs i d within =
    let size : length (take i xs) ≡ i = length-take-le i xs (omega arith) in
    ap (λ ys. map f (enumerate_from n ys)) (take_more xs i d within)
    ∙ ap (map f) (enumerate_from-push n (take i xs) (get_or xs i d))
    ∙ map-append f (enumerate_from n (take i xs)) ((n + length (take i xs), get_or xs i d) ∷ [])
    ∙ ap (λ k. map f (enumerate_from n (take i xs)) ++ f (n + k, get_or xs i d) ∷ []) size

next_pieces : {X Y : Type 0} (f : ℕ × X → List Y) (n : ℕ) (xs : List X) (i : ℕ) (d : X) → i < length xs → flat_map f (enumerate_from n (take (i + 1) xs)) ≡ flat_map f (enumerate_from n (take i xs)) ++ f (n + i, get_or xs i d)
next_pieces f n xs i d within =
    let size : length (take i xs) ≡ i = length-take-le i xs (omega arith) in
    ap (λ ys. flat_map f (enumerate_from n ys)) (take_more xs i d within)
    ∙ ap (flat_map f) (enumerate_from-push n (take i xs) (get_or xs i d))
    ∙ flat_map-append f (enumerate_from n (take i xs)) ((n + length (take i xs), get_or xs i d) ∷ [])
    ∙ ap (λ ys. flat_map f (enumerate_from n (take i xs)) ++ ys) (append-nil (f (n + length (take i xs), get_or xs i d)))
    ∙ ap (λ k. flat_map f (enumerate_from n (take i xs)) ++ f (n + k, get_or xs i d)) size

-- what was added so far, and one piece more
pub added : {Y : Type 0} (first so_far more piece before after : List Y) → so_far ≡ first ++ before → more ≡ so_far ++ piece → after ≡ before ++ piece → more ≡ first ++ after
added first so_far more piece before after e f g = f ∙ ap (λ ys. ys ++ piece) e ∙ append_assoc first before piece ∙ ap (λ ys. first ++ ys) (sym g)

-- the line of a command in its journal
pub own_line : (t i : ℕ) (journal : List Line) (d : Line) → i < length journal → get_or (own_lines t journal) i [] ≡ answer_line t (i + 1) (get_or journal i d).1.answer
own_line t i journal d within =
    let size : i < length (enumerate_from 1 journal) = rw length-enumerate_from within in
    let e : 1 + i ≡ i + 1 = omega arith in
    get_or-map (λ p. answer_line t p.0 p.1.1.answer) (enumerate_from 1 journal) i (0, d) [] size
    ∙ ap (λ p. answer_line t p.0 p.1.1.answer) (get_or-enumerate_from 1 journal i (0, d) within)
    ∙ ap (λ k. answer_line t k (get_or journal i d).1.answer) e

times_before : (order : List ℕ) (p : ℕ) → p < length order → times (get_or order p 0) (take p order) < times (get_or order p 0) order
times_before order p within =
    let t : ℕ = get_or order p 0 in
    let whole : order ≡ take p order ++ t ∷ drop (p + 1) order = sym (take-append-drop p order) ∙ ap (λ ns. take p order ++ ns) (drop_more order p 0 within) in
    let parts : times t order ≡ times t (take p order) + (1 + times t (drop (p + 1) order)) =
    ap (times t) whole ∙ times-append t (take p order) (t ∷ drop (p + 1) order)
    ∙ ap (λ k. times t (take p order) + k) (times-cons t t (drop (p + 1) order) ∙ ap (λ b. cond b 1 0 + times t (drop (p + 1) order)) (eq-eqb t t refl)) in
    omega arith

-- the mutators of an order are there, and their journals have the lines
record HasTurn (journals : List (List Line)) (before t : ℕ) : Type 0 where
  some : 0 < t
  there : t - 1 < length journals
  line : before < length (get_or journals (t - 1) [])

has_turn : (journals : List (List Line)) (order : List ℕ) (p : ℕ) → IsOrderOf journals order → p < length order → HasTurn journals (times (get_or order p 0) (take p order)) (get_or order p 0)
has_turn journals order p names within =
    let t : ℕ = get_or order p 0 in
    let more : times t (take p order) < times t order = times_before order p within in
    let some : 0 < t = elim (cases_eq t 0) [
      | inl e ↦ absurd (let none : times t order ≡ 0 = rw e names.nobody in omega arith)
      | inr apart ↦ omega arith
    ] in
    let line : times t (take p order) < length (get_or journals (t - 1) []) = subst (λ k. times t (take p order) < k) (names.each t some) more in
    record {
      some = some;
      there = elim (cases_lt (t - 1) (length journals)) [
        | inl lt ↦ lt
        | inr ge ↦ absurd (let e : length (get_or journals (t - 1) []) ≡ 0 = ap length (get_or_past journals (t - 1) [] ge) in omega arith)
      ];
      line = line;
    }

-- after one more turn each count is right
pub turns_more : (order next : List ℕ) (p count own i : ℕ) → p < length order → own ≡ get_or order p 0 - 1 → 0 < get_or order p 0 → own < length next → length next ≡ count → i ≡ get_or next own i → ((k : ℕ) → k < count → get_or next k 0 ≡ times (k + 1) (take p order)) → (k : ℕ) → k < count → get_or (set next own (i + 1)) k 0 ≡ times (k + 1) (take (p + 1) order)
turns_more order next p count own i within e some in_next size read turns k small =
    let t : ℕ = get_or order p 0 in
    let more : times (k + 1) (take (p + 1) order) ≡ times (k + 1) (take p order) + (cond (t == k + 1) 1 0 + 0) =
    ap (times (k + 1)) (take_more order p 0 within) ∙ times-append (k + 1) (take p order) (t ∷ []) ∙ ap (λ n. times (k + 1) (take p order) + n) (times-cons (k + 1) t []) in
    elim (cases_eq k own) [
      | inl same ↦
          let one : (t == k + 1) ≡ true = eq-eqb t (k + 1) (omega arith) in
          let value : i ≡ times (k + 1) (take p order) = read ∙ get_or_default next own i 0 in_next ∙ subst (λ j. get_or next j 0 ≡ times (k + 1) (take p order)) same (turns k small) in
          rw same (rw get_or-set_same (subst (λ j. i + 1 ≡ times (j + 1) (take (p + 1) order)) same (sym (more ∙ ap (λ b. times (k + 1) (take p order) + (cond b 1 0 + 0)) one ∙ ap (λ n. n + (1 + 0)) (sym value)))))
      | inr apart ↦
          let none : (t == k + 1) ≡ false = ne_eqb t (k + 1) (λ f. apart (omega arith)) in
          let kept : get_or (set next own (i + 1)) k 0 ≡ get_or next k 0 = get_or-set_other next own k (i + 1) 0 apart in
          let same : times (k + 1) (take (p + 1) order) ≡ times (k + 1) (take p order) = more ∙ ap (λ b. times (k + 1) (take p order) + (cond b 1 0 + 0)) none ∙ add-zero (times (k + 1) (take p order)) in
          kept ∙ turns k small ∙ sym same
    ]

-- the answer to the next command of a journal
pub journal_step : (first so_far more : List (List ℕ)) (line : List ℕ) (t i : ℕ) (journal : List Line) (d : Line) → i < length journal → so_far ≡ first ++ own_lines t (take i journal) → line ≡ answer_line t (i + 1) (get_or journal i d).1.answer → more ≡ so_far ++ line ∷ [] → more ≡ first ++ own_lines t (take (i + 1) journal)
journal_step first so_far more line t i journal d within e f g =
    let n : 1 + i ≡ i + 1 = omega arith in
    added first so_far more (line ∷ []) (own_lines t (take i journal)) (own_lines t (take (i + 1) journal)) e g (
    next_numbered (λ p. answer_line t p.0 p.1.1.answer) 1 journal i d within
    ∙ ap (λ k. own_lines t (take i journal) ++ answer_line t k (get_or journal i d).1.answer ∷ []) n
    ∙ ap (λ l. own_lines t (take i journal) ++ l ∷ []) (sym f))

-- the answers to the next mutator
pub journals_step : (first so_far more : List (List ℕ)) (i : ℕ) (journals : List Notes) (d : Notes) → i < length journals → so_far ≡ first ++ lines_by_mutator (map (λ journal. journal.lines) (take i journals)) → more ≡ so_far ++ own_lines (i + 1) (get_or journals i d).lines → more ≡ first ++ lines_by_mutator (map (λ journal. journal.lines) (take (i + 1) journals))
journals_step first so_far more i journals d within e g =
    let n : 1 + i ≡ i + 1 = omega arith in
    let size : i < length (map (λ journal. journal.lines) journals) = rw length-map within in
    added first so_far more (own_lines (i + 1) (get_or journals i d).lines) (lines_by_mutator (map (λ journal. journal.lines) (take i journals))) (lines_by_mutator (map (λ journal. journal.lines) (take (i + 1) journals))) e g (
    ap lines_by_mutator (sym (take-map (λ journal. journal.lines) (i + 1) journals))
    ∙ next_pieces (λ p. own_lines p.0 p.1) 1 (map (λ journal. journal.lines) journals) i d.lines size
    ∙ ap (λ ls. lines_by_mutator (take i (map (λ journal. journal.lines) journals)) ++ own_lines (1 + i) ls) (get_or-map (λ journal. journal.lines) journals i d d.lines within)
    ∙ ap (λ k. lines_by_mutator (take i (map (λ journal. journal.lines) journals)) ++ own_lines k (get_or journals i d).lines) n
    ∙ ap (λ ls. lines_by_mutator ls ++ own_lines (i + 1) (get_or journals i d).lines) (take-map (λ journal. journal.lines) i journals))

-- what a turn reads: the next number of its mutator, and that mutator's journal
pub record TurnReads (journals : List Notes) (order : List ℕ) (p t i : ℕ) (journal : Notes) : Type 0 where
  pub some : 0 < t
  pub there : t - 1 < length journals
  pub number : i ≡ times t (take p order)
  pub lines : journal.lines ≡ get_or (map (λ one. one.lines) journals) (t - 1) []
  pub within : i < length journal.lines
  pub small : i ≤ p

pub turn_reads : (journals : List Notes) (order next : List ℕ) (p t i : ℕ) (journal : Notes) → IsOrderOf (map (λ one. one.lines) journals) order → p < length order → t ≡ get_or order p 0 → length next ≡ length journals → ((k : ℕ) → k < length journals → get_or next k 0 ≡ times (k + 1) (take p order)) → i ≡ get_or next (t - 1) i → journal ≡ get_or journals (t - 1) journal → TurnReads journals order p t i journal
turn_reads journals order next p t i journal names within at size turns read own =
    let turn : HasTurn (map (λ one. one.lines) journals) (times t (take p order)) t = rw at (has_turn (map (λ one. one.lines) journals) order p names within) in
    let there : t - 1 < length journals = rw length-map at turn.there in
    let some : 0 < t = turn.some in
    let back : t - 1 + 1 ≡ t = omega arith in
    let number : i ≡ times t (take p order) = read ∙ get_or_default next (t - 1) i 0 (rw size there) ∙ turns (t - 1) there ∙ ap (λ n. times n (take p order)) back in
    let lines : journal.lines ≡ get_or (map (λ one. one.lines) journals) (t - 1) [] = ap (λ (one : Notes). one.lines) own ∙ sym (get_or-map (λ one. one.lines) journals (t - 1) journal [] there) in
    record {
      some = some;
      there = there;
      number = number;
      lines = lines;
      within = rw (number, lines) turn.line;
      small = rw number (le_trans (count_by-le-length (λ m. m == t) (take p order)) (omega (arith, length-take-le p order (omega arith))));
    }

-- the answer of the next turn
pub turn_step : (first so_far more : List (List ℕ)) (journals : List Notes) (order : List ℕ) (p t i : ℕ) (journal : Notes) → TurnReads journals order p t i journal → p < length order → t ≡ get_or order p 0 → so_far ≡ first ++ map (λ q. turn_line (map (λ one. one.lines) journals) q.1 (times q.1 (take q.0 order))) (enumerate_from 0 (take p order)) → more ≡ so_far ++ get_or (own_lines (t - 1 + 1) journal.lines) i [] ∷ [] → more ≡ first ++ map (λ q. turn_line (map (λ one. one.lines) journals) q.1 (times q.1 (take q.0 order))) (enumerate_from 0 (take (p + 1) order))
turn_step first so_far more journals order p t i journal reads within at e g =
    let all : List (List Line) = map (λ one. one.lines) journals in
    let f : ℕ × ℕ → List ℕ = λ q. turn_line all q.1 (times q.1 (take q.0 order)) in
    let some : 0 < t = reads.some in
    let back : t - 1 + 1 ≡ t = omega arith in
    let zero_more : 0 + p ≡ p = omega arith in
    let line : get_or (own_lines (t - 1 + 1) journal.lines) i [] ≡ f (p, get_or order p 0) =
    ap (λ n. get_or (own_lines n journal.lines) i []) back
    ∙ ap (λ ls. get_or (own_lines t ls) i []) reads.lines
    ∙ ap (λ n. get_or (own_lines t (get_or all (t - 1) [])) n []) reads.number
    ∙ ap (λ n. turn_line all n (times n (take p order))) at in
    added first so_far more (get_or (own_lines (t - 1 + 1) journal.lines) i [] ∷ []) (map f (enumerate_from 0 (take p order))) (map f (enumerate_from 0 (take (p + 1) order))) e g (
    next_numbered f 0 order p 0 within
    ∙ ap (λ n. map f (enumerate_from 0 (take p order)) ++ f (n, get_or order p 0) ∷ []) zero_more
    ∙ ap (λ l. map f (enumerate_from 0 (take p order)) ++ l ∷ []) (sym line))

-- the refusals of the next journal
pub refusals_step : (journals : List Notes) (i : ℕ) (d : Notes) (so_far own : ℕ) (lines : List Line) → i < length journals → so_far ≡ refusals (map (λ journal. journal.lines) (take i journals)) → own ≡ count_by (λ line. is_refused line.1.answer) lines → lines ≡ d.lines → d ≡ get_or journals i d → so_far + own ≡ refusals (map (λ journal. journal.lines) (take (i + 1) journals))
refusals_step journals i d so_far own lines within e f g is =
    let count : List Line → ℕ = count_by (λ line. is_refused line.1.answer) in
    let one : own ≡ count (get_or journals i d).lines = f ∙ ap count (g ∙ ap (λ (j : Notes). j.lines) is) in
    let all : refusals (map (λ journal. journal.lines) (take (i + 1) journals)) ≡ refusals (map (λ journal. journal.lines) (take i journals)) + count (get_or journals i d).lines =
    ap (λ js. refusals (map (λ journal. journal.lines) js)) (take_more journals i d within)
    ∙ ap refusals (map-append (λ (journal : Notes). journal.lines) (take i journals) (get_or journals i d ∷ []))
    ∙ sum_by_push count (map (λ journal. journal.lines) (take i journals)) (get_or journals i d).lines in
    omega arith
