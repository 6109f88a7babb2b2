-- What some lines tell of blocks, references, slots and registers, and with one line more.
use Rattle.std.proofs.Common.{◌≡◌, ◌/◌, ◌==◌, ◌&&◌, ◌||◌, ℕ, Bool, true, false, cond, List, [], ◌∷◌, ◌++◌, map, filter, Some, refl, sym, ap, ◌∙◌, append-nil}
use Rattle.std.specs.List.{find, flat_map, list_any}
use Rattle.std.proofs.lemmas.Bool.{false≢true}
use Rattle.std.proofs.lemmas.List.{reverse-append, map-append}
use Rattle.std.proofs.lemmas.List.Concat.{flat_map-append}
use Rattle.std.proofs.lemmas.List.Elements.{filter-append}
use Rattle.std.proofs.lemmas.List.Folds.{list_any-append}
use Rattle.std.proofs.Math.Bool.{or_assoc, or-false, or-true}
use Rattle.rec_audit.specs.declared.kind.Kind.{Kind}
use Rattle.rec_audit.specs.declared.kind.Kind.TheVariants.{Title, Heap, Epoch, Put, Born, Snap, Out, Free, Sweep, End}
use Rattle.rec_audit.specs.declared.references.Edge.{Edge}
use Rattle.rec_audit.specs.Lines.{Line}
use Rattle.rec_audit.specs.Form.{number, last_that, heap_in, heap_of, is_heap, is_epoch}
use Rattle.rec_audit.specs.Graph.{closes, earlier_blocks, has_target, is_born, is_dead, is_opened, is_out, is_put, is_sweep, is_taken, named_by, opens, opens_from, taken_by, takes, tells, this_block}
use Rattle.rec_audit.specs.States.{back_edge, edge_of}
use Rattle.rec_audit.specs.Graphs.{closing_in, named_in, opened_from, opened_to, opens_to}

-- ---- the last line of a kind

pub last_more : (test : Line → Bool) (lines : List Line) (line : Line) → last_that test (lines ++ line ∷ []) ≡ cond (test line) (Some line) (last_that test lines)
last_more test lines line = ap (find test) (reverse-append lines (line ∷ []))

pub last_same : (test : Line → Bool) (lines : List Line) (line : Line) → test line ≡ false → last_that test (lines ++ line ∷ []) ≡ last_that test lines
last_same test lines line other = last_more test lines line ∙ ap (λ b. cond b (Some line) (last_that test lines)) other

pub last_new : (test : Line → Bool) (lines : List Line) (line : Line) → test line ≡ true → last_that test (lines ++ line ∷ []) ≡ Some line
last_new test lines line is = last_more test lines line ∙ ap (λ b. cond b (Some line) (last_that test lines)) is

pub heap_same : (lines : List Line) (line : Line) → is_heap line.kind ≡ false → heap_of (lines ++ line ∷ []) ≡ heap_of lines
heap_same lines line other = ap heap_in (last_same (λ l. is_heap l.kind) lines line other)

-- ---- blocks

pub any_more : {X : Type 0} (test : X → Bool) (xs : List X) (x : X) → list_any test (xs ++ x ∷ []) ≡ (list_any test xs || test x)
any_more test xs x = list_any-append test xs (x ∷ []) ∙ ap (λ b. list_any test xs || b) (or-false (test x))

abbrev epochs : List Line → Bool
epochs lines = list_any (λ l. is_epoch l.kind) lines

pub this_more : (lines : List Line) (line : Line) → is_epoch line.kind ≡ false → this_block (lines ++ line ∷ []) ≡ this_block lines ++ line ∷ []
this_more [] line other = ap (λ b. cond (b || false) [] (line ∷ [])) other
this_more (x ∷ xs) line other =
    ap (λ b. cond (is_epoch x.kind || b) (this_block (xs ++ line ∷ [])) (x ∷ (xs ++ line ∷ []))) (any_more (λ (l : Line). is_epoch l.kind) xs line ∙ ap (λ b. epochs xs || b) other ∙ or-false (epochs xs))
    ∙ ap (λ t. cond (is_epoch x.kind || epochs xs) t (x ∷ (xs ++ line ∷ []))) (this_more xs line other)
    ∙ both (is_epoch x.kind || epochs xs)
  where
    both : (b : Bool) → cond b (this_block xs ++ line ∷ []) (x ∷ (xs ++ line ∷ [])) ≡ cond b (this_block xs) (x ∷ xs) ++ line ∷ []
    both true = refl
    both false = refl

pub this_new : (lines : List Line) (line : Line) → is_epoch line.kind ≡ true → this_block (lines ++ line ∷ []) ≡ []
this_new [] line is = ap (λ b. cond (b || false) [] (line ∷ [])) is
this_new (x ∷ xs) line is =
    ap (λ b. cond b (this_block (xs ++ line ∷ [])) (x ∷ (xs ++ line ∷ []))) (ap (λ b. is_epoch x.kind || b) (any_more (λ (l : Line). is_epoch l.kind) xs line ∙ ap (λ b. epochs xs || b) is ∙ or-true (epochs xs)) ∙ or-true (is_epoch x.kind))
    ∙ this_new xs line is

pub earlier_more : (lines : List Line) (line : Line) → is_epoch line.kind ≡ false → earlier_blocks (lines ++ line ∷ []) ≡ earlier_blocks lines
earlier_more [] line other = refl
earlier_more (x ∷ xs) line other =
    ap (λ b. cond b (x ∷ earlier_blocks (xs ++ line ∷ [])) []) (any_more (λ (l : Line). is_epoch l.kind) xs line ∙ ap (λ b. epochs xs || b) other ∙ or-false (epochs xs))
    ∙ ap (λ t. cond (epochs xs) (x ∷ t) []) (earlier_more xs line other)

pub earlier_new : (lines : List Line) (line : Line) → is_epoch line.kind ≡ true → earlier_blocks (lines ++ line ∷ []) ≡ lines
earlier_new [] line is = refl
earlier_new (x ∷ xs) line is =
    ap (λ b. cond b (x ∷ earlier_blocks (xs ++ line ∷ [])) []) (any_more (λ (l : Line). is_epoch l.kind) xs line ∙ ap (λ b. epochs xs || b) is ∙ or-true (epochs xs))
    ∙ ap (λ t. x ∷ t) (earlier_new xs line is)

-- what a test that fails on `epoch` lines finds in all lines it finds in the earlier blocks or in this one
any_blocks : (test : Line → Bool) (fails : (l : Line) → is_epoch l.kind ≡ true → test l ≡ false) (lines : List Line) → list_any test lines ≡ (list_any test (earlier_blocks lines) || list_any test (this_block lines))
any_blocks test fails [] = refl
any_blocks test fails (x ∷ xs) = at (any_blocks test fails xs) (epochs xs) refl (is_epoch x.kind) refl
  where
    rest : (a b : Bool) → (a || b) ≡ false → b ≡ false
    rest true b e = absurd (false≢true (sym e))
    rest false b e = e

    none : (ls : List Line) → epochs ls ≡ false → earlier_blocks ls ≡ []
    none [] e = refl
    none (l ∷ ls) e = ap (λ b. cond b (l ∷ earlier_blocks ls) []) (rest (is_epoch l.kind) (epochs ls) e)

    at : list_any test xs ≡ (list_any test (earlier_blocks xs) || list_any test (this_block xs)) → (a : Bool) → epochs xs ≡ a → (b : Bool) → is_epoch x.kind ≡ b → (list_any test (x ∷ xs)) ≡ (list_any test (cond a (x ∷ earlier_blocks xs) []) || list_any test (cond (b || a) (this_block xs) (x ∷ xs)))
    at more true e true f = ap (λ b. test x || b) more ∙ sym (or_assoc (test x) (list_any test (earlier_blocks xs)) (list_any test (this_block xs)))
    at more true e false f = ap (λ b. test x || b) more ∙ sym (or_assoc (test x) (list_any test (earlier_blocks xs)) (list_any test (this_block xs)))
    at more false e true f = ap (λ b. b || list_any test xs) (fails x f) ∙ more ∙ ap (λ t. list_any test t || list_any test (this_block xs)) (none xs e)
    at more false e false f = refl

-- ---- references

pub opened_more : (lines : List Line) (line : Line) (word : ℕ) → is_opened (lines ++ line ∷ []) word ≡ (is_opened lines word || (opens line && (number 2 line == word)))
opened_more lines line word = any_more (λ (l : Line). opens l && (number 2 l == word)) lines line

pub opened_same : (lines : List Line) (line : Line) (word : ℕ) → is_put line.kind ≡ false → is_opened (lines ++ line ∷ []) word ≡ is_opened lines word
opened_same lines line word other =
    opened_more lines line word
    ∙ ap (λ b. is_opened lines word || ((b && has_target (number 2 line)) && (number 2 line == word))) other
    ∙ or-false (is_opened lines word)

pub dead_same : (lines : List Line) (line : Line) (word : ℕ) → is_out line.kind ≡ false → is_epoch line.kind ≡ false → is_dead (lines ++ line ∷ []) word ≡ is_dead lines word
dead_same lines line word other within =
    ap (λ b. b || list_any (closes word) (earlier_blocks (lines ++ line ∷ []))) (any_more (takes word) lines line ∙ ap (λ b. list_any (takes word) lines || (b && (number 1 line == word))) other ∙ or-false (list_any (takes word) lines))
    ∙ ap (λ (ls : List Line). list_any (takes word) lines || list_any (closes word) ls) (earlier_more lines line within)

-- a word that is taken out is dead from then on
pub dead_out : (lines : List Line) (line : Line) (word : ℕ) → is_out line.kind ≡ true → is_epoch line.kind ≡ false → is_dead (lines ++ line ∷ []) word ≡ (is_dead lines word || (number 1 line == word))
dead_out lines line word is within =
    ap (λ b. b || list_any (closes word) (earlier_blocks (lines ++ line ∷ []))) (any_more (takes word) lines line ∙ ap (λ b. list_any (takes word) lines || (b && (number 1 line == word))) is)
    ∙ ap (λ (ls : List Line). (list_any (takes word) lines || (number 1 line == word)) || list_any (closes word) ls) (earlier_more lines line within)
    ∙ swap (list_any (takes word) lines) (number 1 line == word) (list_any (closes word) (earlier_blocks lines))
  where
    swap : (a b c : Bool) → ((a || b) || c) ≡ ((a || c) || b)
    swap true b c = refl
    swap false true true = refl
    swap false true false = refl
    swap false false true = refl
    swap false false false = refl

-- the words that a block has replaced, as a list
pub any_closing : (word : ℕ) (ls : List Line) → list_any (λ v. v == word) (map (number 3) (filter (λ l. is_put l.kind) ls)) ≡ list_any (closes word) ls
any_closing word [] = refl
any_closing word (x ∷ xs) = step (is_put x.kind) ∙ ap (λ b. (is_put x.kind && (number 3 x == word)) || b) (any_closing word xs)
  where
    step : (b : Bool) → list_any (λ v. v == word) (map (number 3) (cond b (x ∷ filter (λ l. is_put l.kind) xs) (filter (λ l. is_put l.kind) xs))) ≡ ((b && (number 3 x == word)) || list_any (λ v. v == word) (map (number 3) (filter (λ l. is_put l.kind) xs)))
    step true = refl
    step false = refl

no_epoch_closes : (word : ℕ) (l : Line) → is_epoch l.kind ≡ true → closes word l ≡ false
no_epoch_closes word l is = ap (λ b. b && (number 3 l == word)) (not_put l.kind is)
  where
    not_put : (k : Kind) → is_epoch k ≡ true → is_put k ≡ false
    not_put Epoch is = refl
    not_put Put is = absurd (false≢true is)
    not_put Title is = refl
    not_put Heap is = refl
    not_put Born is = refl
    not_put Snap is = refl
    not_put Out is = refl
    not_put Free is = refl
    not_put Sweep is = refl
    not_put End is = refl

-- and so are those that were replaced, once their block has ended
pub dead_epoch : (lines : List Line) (line : Line) (word : ℕ) → is_out line.kind ≡ false → is_epoch line.kind ≡ true → is_dead (lines ++ line ∷ []) word ≡ (is_dead lines word || list_any (λ v. v == word) (closing_in lines))
dead_epoch lines line word other is =
    ap (λ b. b || list_any (closes word) (earlier_blocks (lines ++ line ∷ []))) (any_more (takes word) lines line ∙ ap (λ b. list_any (takes word) lines || (b && (number 1 line == word))) other ∙ or-false (list_any (takes word) lines))
    ∙ ap (λ (ls : List Line). list_any (takes word) lines || list_any (closes word) ls) (earlier_new lines line is)
    ∙ ap (λ b. list_any (takes word) lines || b) (any_blocks (closes word) (no_epoch_closes word) lines)
    ∙ sym (or_assoc (list_any (takes word) lines) (list_any (closes word) (earlier_blocks lines)) (list_any (closes word) (this_block lines)))
    ∙ ap (λ b. is_dead lines word || b) (sym (any_closing word (this_block lines)))

closing_more : (lines : List Line) (line : Line) → is_epoch line.kind ≡ false → closing_in (lines ++ line ∷ []) ≡ closing_in lines ++ map (number 3) (filter (λ l. is_put l.kind) (line ∷ []))
closing_more lines line within =
    ap (λ (ls : List Line). map (number 3) (filter (λ l. is_put l.kind) ls)) (this_more lines line within)
    ∙ ap (map (number 3)) (filter-append (λ l. is_put l.kind) (this_block lines) (line ∷ []))
    ∙ map-append (number 3) (filter (λ l. is_put l.kind) (this_block lines)) (filter (λ l. is_put l.kind) (line ∷ []))

pub closing_same : (lines : List Line) (line : Line) → is_epoch line.kind ≡ false → is_put line.kind ≡ false → closing_in (lines ++ line ∷ []) ≡ closing_in lines
closing_same lines line within other =
    closing_more lines line within
    ∙ ap (λ b. closing_in lines ++ map (number 3) (cond b (line ∷ []) [])) other
    ∙ append-nil (closing_in lines)

pub closing_put : (lines : List Line) (line : Line) → is_epoch line.kind ≡ false → is_put line.kind ≡ true → closing_in (lines ++ line ∷ []) ≡ closing_in lines ++ number 3 line ∷ []
closing_put lines line within is = closing_more lines line within ∙ ap (λ b. closing_in lines ++ map (number 3) (cond b (line ∷ []) [])) is

-- the references that are opened from a slot
from_more : (lines : List Line) (line : Line) (slot : ℕ) → is_heap line.kind ≡ false → opened_from (lines ++ line ∷ []) slot ≡ opened_from lines slot ++ map (λ l. edge_of (number 2 l)) (filter (opens_from (heap_of lines).fields slot) (line ∷ []))
from_more lines line slot other =
    ap (λ h. map (λ (l : Line). edge_of (number 2 l)) (filter (opens_from h.fields slot) (lines ++ line ∷ []))) (heap_same lines line other)
    ∙ ap (map (λ (l : Line). edge_of (number 2 l))) (filter-append (opens_from (heap_of lines).fields slot) lines (line ∷ []))
    ∙ map-append (λ (l : Line). edge_of (number 2 l)) (filter (opens_from (heap_of lines).fields slot) lines) (filter (opens_from (heap_of lines).fields slot) (line ∷ []))

pub from_none : (lines : List Line) (line : Line) (slot : ℕ) → is_heap line.kind ≡ false → opens_from (heap_of lines).fields slot line ≡ false → opened_from (lines ++ line ∷ []) slot ≡ opened_from lines slot
from_none lines line slot other shut =
    from_more lines line slot other
    ∙ ap (λ b. opened_from lines slot ++ map (λ (l : Line). edge_of (number 2 l)) (cond b (line ∷ []) [])) shut
    ∙ append-nil (opened_from lines slot)

pub from_one : (lines : List Line) (line : Line) (slot : ℕ) → is_heap line.kind ≡ false → opens_from (heap_of lines).fields slot line ≡ true → opened_from (lines ++ line ∷ []) slot ≡ opened_from lines slot ++ edge_of (number 2 line) ∷ []
from_one lines line slot other is =
    from_more lines line slot other
    ∙ ap (λ b. opened_from lines slot ++ map (λ (l : Line). edge_of (number 2 l)) (cond b (line ∷ []) [])) is

-- the references that are opened to a slot
abbrev pub back_of : (fields : ℕ) → Line → Edge
back_of fields line = back_edge (number 1 line / fields) (number 2 line)

to_more : (lines : List Line) (line : Line) (slot : ℕ) → is_heap line.kind ≡ false → opened_to (lines ++ line ∷ []) slot ≡ opened_to lines slot ++ map (back_of (heap_of lines).fields) (filter (opens_to slot) (line ∷ []))
to_more lines line slot other =
    ap (λ h. map (back_of h.fields) (filter (opens_to slot) (lines ++ line ∷ []))) (heap_same lines line other)
    ∙ ap (map (back_of (heap_of lines).fields)) (filter-append (opens_to slot) lines (line ∷ []))
    ∙ map-append (back_of (heap_of lines).fields) (filter (opens_to slot) lines) (filter (opens_to slot) (line ∷ []))

pub to_none : (lines : List Line) (line : Line) (slot : ℕ) → is_heap line.kind ≡ false → opens_to slot line ≡ false → opened_to (lines ++ line ∷ []) slot ≡ opened_to lines slot
to_none lines line slot other shut =
    to_more lines line slot other
    ∙ ap (λ b. opened_to lines slot ++ map (back_of (heap_of lines).fields) (cond b (line ∷ []) [])) shut
    ∙ append-nil (opened_to lines slot)

pub to_one : (lines : List Line) (line : Line) (slot : ℕ) → is_heap line.kind ≡ false → opens_to slot line ≡ true → opened_to (lines ++ line ∷ []) slot ≡ opened_to lines slot ++ back_of (heap_of lines).fields line ∷ []
to_one lines line slot other is =
    to_more lines line slot other
    ∙ ap (λ b. opened_to lines slot ++ map (back_of (heap_of lines).fields) (cond b (line ∷ []) [])) is

-- ---- slots and registers

pub taken_same : (lines : List Line) (line : Line) (slot : ℕ) → is_born line.kind ≡ false → is_sweep line.kind ≡ false → is_taken (lines ++ line ∷ []) slot ≡ is_taken lines slot
taken_same lines line slot born sweep = ap (taken_by slot) (last_same (tells slot) lines line (ap (λ b. (b && (number 1 line == slot)) || (is_sweep line.kind && (number 0 line == slot))) born ∙ ap (λ b. b && (number 0 line == slot)) sweep))

pub taken_born : (lines : List Line) (line : Line) (slot : ℕ) → line.kind ≡ Born → is_taken (lines ++ line ∷ []) slot ≡ cond (number 1 line == slot) true (is_taken lines slot)
taken_born lines line slot is = at (number 1 line == slot) refl
  where
    tell : (b : Bool) → (number 1 line == slot) ≡ b → tells slot line ≡ b
    tell b e = ap (λ k. (is_born k && (number 1 line == slot)) || (is_sweep k && (number 0 line == slot))) is ∙ or-false (number 1 line == slot) ∙ e

    at : (b : Bool) → (number 1 line == slot) ≡ b → is_taken (lines ++ line ∷ []) slot ≡ cond b true (is_taken lines slot)
    at true e = ap (taken_by slot) (last_new (tells slot) lines line (tell true e)) ∙ ap is_born is
    at false e = ap (taken_by slot) (last_same (tells slot) lines line (tell false e))

pub taken_sweep : (lines : List Line) (line : Line) (slot : ℕ) → line.kind ≡ Sweep → is_taken (lines ++ line ∷ []) slot ≡ cond (number 0 line == slot) false (is_taken lines slot)
taken_sweep lines line slot is = at (number 0 line == slot) refl
  where
    tell : (b : Bool) → (number 0 line == slot) ≡ b → tells slot line ≡ b
    tell b e = ap (λ k. (is_born k && (number 1 line == slot)) || (is_sweep k && (number 0 line == slot))) is ∙ e

    at : (b : Bool) → (number 0 line == slot) ≡ b → is_taken (lines ++ line ∷ []) slot ≡ cond b false (is_taken lines slot)
    at true e = ap (taken_by slot) (last_new (tells slot) lines line (tell true e)) ∙ ap is_born is
    at false e = ap (taken_by slot) (last_same (tells slot) lines line (tell false e))

pub named_more : (lines : List Line) (line : Line) → is_epoch line.kind ≡ false → named_in (lines ++ line ∷ []) ≡ named_in lines ++ named_by line.kind line.numbers
named_more lines line within =
    ap (flat_map (λ (l : Line). named_by l.kind l.numbers)) (this_more lines line within)
    ∙ flat_map-append (λ (l : Line). named_by l.kind l.numbers) (this_block lines) (line ∷ [])
    ∙ ap (λ t. named_in lines ++ t) (append-nil (named_by line.kind line.numbers))

pub named_same : (lines : List Line) (line : Line) → is_epoch line.kind ≡ false → named_by line.kind line.numbers ≡ [] → named_in (lines ++ line ∷ []) ≡ named_in lines
named_same lines line within none = named_more lines line within ∙ ap (λ t. named_in lines ++ t) none ∙ append-nil (named_in lines)
