-- The graph of lines to which the lines of a batch, or of what the collector did, are appended.
use Rattle.std.proofs.Common.{◌≡◌, inl, inr, ℕ, zero, suc, ◌+◌, ◌<◌, ◌==◌, ◌||◌, ◌&&◌, Bool, true, false, cond, List, [], ◌∷◌, ◌++◌, length, map, refl, sym, ap, subst, ◌∙◌, arith, append_assoc, append-nil}
use Rattle.std.specs.List.{Contains, enumerate_from, flat_map, list_any}
use Rattle.std.proofs.Math.Bool.{or-true}
use Rattle.std.proofs.lemmas.Bool.{cases_Bool, eq-eqb, false≢true}
use Rattle.std.proofs.lemmas.List.Elements.{Contains-append_cases, Contains-append_left, Contains-append_right}
use Rattle.rec_log.specs.declared.contents.Contents.{Contents as Buffer}
use Rattle.rec_log.specs.declared.entry.Entry.{Entry}
use Rattle.rec_log.specs.declared.entry.Entry.TheVariants as entries
use Rattle.rec_collector.specs.Private.{buffer_at}
use Rattle.rec_audit.proofs.Journalled.{StandsIn}
use Rattle.rec_audit.specs.Form.{heap_of, is_epoch, is_heap, number}
use Rattle.rec_audit.specs.Graph.{closes, is_born, is_dead, is_out, is_put, is_sweep, is_taken, this_block}
use Rattle.rec_audit.specs.Graphs.{closing_in}
use Rattle.rec_audit.specs.Journal.{entry_line, part_lines, parts_lines, snap_line}
use Rattle.rec_audit.specs.Lines.{Line}
use Rattle.rec_audit.specs.declared.kind.Kind.{Kind}
use Rattle.rec_audit.specs.declared.kind.Kind.TheVariants as kinds
use Rattle.rec_audit.proofs.Forming.{part}
use Rattle.rec_audit.proofs.LinesGrown.{any_closing, dead_epoch, dead_out, dead_same, heap_same, taken_born, taken_same, this_more, this_new}

-- ---- elements

contains_any : (test : Line → Bool) (xs : List Line) (l : Line) → Contains xs l → test l ≡ true → list_any test xs ≡ true
contains_any test [] l c is = absurd (let below = c.1 in omega arith)
contains_any test (x ∷ xs) l (zero, below, there) is = ap (λ y. test y || list_any test xs) there ∙ ap (λ b. b || list_any test xs) is
contains_any test (x ∷ xs) l (suc k, below, there) is = ap (λ b. test x || b) (contains_any test xs l (k, omega arith, there) is) ∙ or-true (test x)

-- ---- kinds of lines

-- what a mutator did
abbrev pub is_part : Kind → Bool
is_part kinds.Put = true
is_part kinds.Born = true
is_part kinds.Snap = true
is_part _ = false

-- what the collector did in a block
abbrev pub is_late : Kind → Bool
is_late kinds.Out = true
is_late kinds.Free = true
is_late kinds.Sweep = true
is_late kinds.End = true
is_late _ = false

-- each line is of such a kind
abbrev pub Each : (Kind → Bool) → List Line → Type 0
Each test [] = Unit {0}
Each test (l ∷ ls) = (test l.kind ≡ true) × Each test ls

pub each_both : (test : Kind → Bool) (xs ys : List Line) → Each test xs → Each test ys → Each test (xs ++ ys)
each_both test [] ys a b = b
each_both test (x ∷ xs) ys a b = (a.0, each_both test xs ys a.1 b)

pub each_at : (test : Kind → Bool) (xs : List Line) (l : Line) → Each test xs → Contains xs l → test l.kind ≡ true
each_at test [] l each c = absurd (let below = c.1 in omega arith)
each_at test (x ∷ xs) l each (zero, below, there) = subst (λ (y : Line). test y.kind ≡ true) there each.0
each_at test (x ∷ xs) l each (suc k, below, there) = each_at test xs l each.1 (k, omega arith, there)

part_plain : (k : Kind) → is_part k ≡ true → (is_epoch k ≡ false) × (is_heap k ≡ false) × (is_out k ≡ false) × (is_sweep k ≡ false)
part_plain kinds.Put is = (refl, refl, refl, refl)
part_plain kinds.Born is = (refl, refl, refl, refl)
part_plain kinds.Snap is = (refl, refl, refl, refl)
part_plain _ is = absurd (false≢true is)

pub late_plain : (k : Kind) → is_late k ≡ true → (is_epoch k ≡ false) × (is_heap k ≡ false) × (is_put k ≡ false) × (is_born k ≡ false)
late_plain kinds.Out is = (refl, refl, refl, refl)
late_plain kinds.Free is = (refl, refl, refl, refl)
late_plain kinds.Sweep is = (refl, refl, refl, refl)
late_plain kinds.End is = (refl, refl, refl, refl)
late_plain _ is = absurd (false≢true is)

-- ---- appended lines

-- what each line more keeps, all keep
pub pushes : (P : List Line → Type 0) (test : Kind → Bool) (lines more : List Line) → Each test more → ((ls : List Line) (l : Line) → test l.kind ≡ true → P ls → P (ls ++ l ∷ [])) → P lines → P (lines ++ more)
pushes P test lines [] each push first = subst P (sym (append-nil lines)) first
pushes P test lines (l ∷ more) each push first = subst P (append_assoc lines (l ∷ []) more) (pushes P test (lines ++ l ∷ []) more each.1 push (push lines l each.0 first))

-- the block goes on
pub block_more : (test : Kind → Bool) (lines more : List Line) → ((k : Kind) → test k ≡ true → is_epoch k ≡ false) → Each test more → this_block (lines ++ more) ≡ this_block lines ++ more
block_more test lines [] plain each = ap this_block (append-nil lines) ∙ sym (append-nil (this_block lines))
block_more test lines (l ∷ more) plain each =
    ap this_block (sym (append_assoc lines (l ∷ []) more))
    ∙ block_more test (lines ++ l ∷ []) more plain each.1
    ∙ ap (λ t. t ++ more) (this_more lines l (plain l.kind each.0))
    ∙ append_assoc (this_block lines) (l ∷ []) more

-- a block begins
pub block_new : (lines : List Line) (e : Line) (parts : List Line) → is_epoch e.kind ≡ true → Each is_part parts → this_block (lines ++ e ∷ parts) ≡ parts
block_new lines e parts is each =
    ap this_block (sym (append_assoc lines (e ∷ []) parts))
    ∙ block_more is_part (lines ++ e ∷ []) parts (λ k part. (part_plain k part).0) each
    ∙ ap (λ t. t ++ parts) (this_new lines e is)

-- the heap stays
pub heap_more_lines : (test : Kind → Bool) (lines more : List Line) → ((k : Kind) → test k ≡ true → is_heap k ≡ false) → Each test more → heap_of (lines ++ more) ≡ heap_of lines
heap_more_lines test lines more plain each = pushes (λ ls. heap_of ls ≡ heap_of lines) test lines more each (λ ls l is same. heap_same ls l (plain l.kind is) ∙ same) refl

pub heap_new : (lines : List Line) (e : Line) (parts : List Line) → e.kind ≡ kinds.Epoch → Each is_part parts → heap_of (lines ++ e ∷ parts) ≡ heap_of lines
heap_new lines e parts is each =
    ap heap_of (sym (append_assoc lines (e ∷ []) parts)) ∙ heap_more_lines is_part (lines ++ e ∷ []) parts (λ k part. (part_plain k part).1) each ∙ heap_same lines e (ap is_heap is)

-- ---- dead words

dead_push : (lines : List Line) (l : Line) (word : ℕ) → is_dead lines word ≡ true → is_dead (lines ++ l ∷ []) word ≡ true
dead_push lines l word dead = elim (cases_Bool (is_epoch l.kind)) [
  | inl epoch ↦ dead_epoch lines l word (no_out l.kind epoch) epoch ∙ ap (λ b. b || list_any (λ v. v == word) (closing_in lines)) dead
  | inr within ↦ elim (cases_Bool (is_out l.kind)) [
    | inl out ↦ dead_out lines l word out within ∙ ap (λ b. b || (number 1 l == word)) dead
    | inr other ↦ dead_same lines l word other within ∙ dead
  ]
]
  where
    no_out : (k : Kind) → is_epoch k ≡ true → is_out k ≡ false
    no_out kinds.Epoch is = refl
    no_out kinds.Out is = absurd (false≢true is)
    no_out _ is = absurd (false≢true is)

pub dead_more : (lines more : List Line) (word : ℕ) → is_dead lines word ≡ true → is_dead (lines ++ more) word ≡ true
dead_more lines [] word dead = ap (λ ls. is_dead ls word) (append-nil lines) ∙ dead
dead_more lines (l ∷ more) word dead = ap (λ ls. is_dead ls word) (sym (append_assoc lines (l ∷ []) more)) ∙ dead_more (lines ++ l ∷ []) more word (dead_push lines l word dead)

-- what the block has replaced is dead once the next one begins
pub dead_closed : (lines : List Line) (e : Line) (parts : List Line) (l : Line) (word : ℕ) → e.kind ≡ kinds.Epoch → Contains (this_block lines) l → l.kind ≡ kinds.Put → number 3 l ≡ word → is_dead (lines ++ e ∷ parts) word ≡ true
dead_closed lines e parts l word is c put old =
    let closed : closes word l ≡ true = ap (λ k. is_put k && (number 3 l == word)) put ∙ eq-eqb (number 3 l) word old in
    let here : list_any (λ v. v == word) (closing_in lines) ≡ true = any_closing word (this_block lines) ∙ contains_any (closes word) (this_block lines) l c closed in
    ap (λ ls. is_dead ls word) (sym (append_assoc lines (e ∷ []) parts))
    ∙ dead_more (lines ++ e ∷ []) parts word (dead_epoch lines e word (ap is_out is) (ap is_epoch is) ∙ ap (λ b. is_dead lines word || b) here ∙ or-true (is_dead lines word))

-- ---- taken slots

pub taken_push : (lines : List Line) (l : Line) (slot : ℕ) → is_sweep l.kind ≡ false → is_taken lines slot ≡ true → is_taken (lines ++ l ∷ []) slot ≡ true
taken_push lines l slot other taken = go l.kind refl
  where
    at : (b : Bool) → cond b true (is_taken lines slot) ≡ true
    at true = refl
    at false = taken

    plain : is_born l.kind ≡ false → is_taken (lines ++ l ∷ []) slot ≡ true
    plain born = taken_same lines l slot born other ∙ taken

    go : (k : Kind) → l.kind ≡ k → is_taken (lines ++ l ∷ []) slot ≡ true
    go kinds.Born is = taken_born lines l slot is ∙ at (number 1 l == slot)
    go k is = plain (ap is_born is)

-- no line of a batch sweeps a slot
pub taken_more : (lines more : List Line) (slot : ℕ) → Each is_part more → is_taken lines slot ≡ true → is_taken (lines ++ more) slot ≡ true
taken_more lines [] slot each taken = ap (λ ls. is_taken ls slot) (append-nil lines) ∙ taken
taken_more lines (l ∷ more) slot each taken =
    ap (λ ls. is_taken ls slot) (sym (append_assoc lines (l ∷ []) more)) ∙ taken_more (lines ++ l ∷ []) more slot each.1 (taken_push lines l slot (part_plain l.kind each.0).3 taken)

-- and what it bears is taken
pub taken_in : (lines more : List Line) (slot : ℕ) (l : Line) → Each is_part more → Contains more l → l.kind ≡ kinds.Born → number 1 l ≡ slot → is_taken (lines ++ more) slot ≡ true
taken_in lines [] slot l each c born is = absurd (let below = c.1 in omega arith)
taken_in lines (x ∷ more) slot l each (zero, below, there) born is =
    let here : is_taken (lines ++ x ∷ []) slot ≡ true = taken_born lines x slot (ap (λ (y : Line). y.kind) there ∙ born) ∙ ap (λ b. cond b true (is_taken lines slot)) (eq-eqb (number 1 x) slot (ap (number 1) there ∙ is)) in
    ap (λ ls. is_taken ls slot) (sym (append_assoc lines (x ∷ []) more)) ∙ taken_more (lines ++ x ∷ []) more slot each.1 here
taken_in lines (x ∷ more) slot l each (suc k, below, there) born is =
    ap (λ ls. is_taken ls slot) (sym (append_assoc lines (x ∷ []) more)) ∙ taken_in (lines ++ x ∷ []) more slot l each.1 (k, omega arith, there) born is

pub taken_epoch : (lines : List Line) (e : Line) (slot : ℕ) → e.kind ≡ kinds.Epoch → is_taken (lines ++ e ∷ []) slot ≡ is_taken lines slot
taken_epoch lines e slot is = taken_same lines e slot (ap is_born is) (ap is_sweep is)

-- ---- the lines of buffers

entries_part : (t : ℕ) (es : List Entry) → Each is_part (map (entry_line t) es)
entries_part t [] = tt
entries_part t (entries.Put place new old ∷ es) = (refl, entries_part t es)
entries_part t (entries.Born slot leaf ∷ es) = (refl, entries_part t es)

parts_part : (t : ℕ) (bs : List Buffer) → Each is_part (flat_map part (enumerate_from t bs))
parts_part t [] = tt
parts_part t (b ∷ bs) = each_both is_part (part_lines t b) (flat_map part (enumerate_from (t + 1) bs)) (each_both is_part (map (entry_line t) b.entries) (snap_line t b.snapshot ∷ []) (entries_part t b.entries) (refl, tt)) (parts_part (t + 1) bs)

pub parts_are : (bs : List Buffer) → Each is_part (parts_lines bs)
parts_are bs = parts_part 1 bs

entry_there : (t : ℕ) (es : List Entry) (e : Entry) → Contains es e → Contains (map (entry_line t) es) (entry_line t e)
entry_there t [] e c = absurd (let below = c.1 in omega arith)
entry_there t (x ∷ es) e (zero, below, there) = (0, omega arith, ap (entry_line t) there)
entry_there t (x ∷ es) e (suc k, below, there) = Contains-append_right (entry_line t x ∷ []) (map (entry_line t) es) (entry_line t e) (entry_there t es e (k, omega arith, there))

stands_from : (t : ℕ) (bs : List Buffer) (i : ℕ) (e : Entry) → i < length bs → Contains (buffer_at bs i).entries e → (n : ℕ) × Contains (flat_map part (enumerate_from t bs)) (entry_line n e)
stands_from t [] i e below c = absurd (omega arith)
stands_from t (b ∷ bs) zero e below c = (t, Contains-append_left (part_lines t b) (flat_map part (enumerate_from (t + 1) bs)) (entry_line t e) (Contains-append_left (map (entry_line t) b.entries) (snap_line t b.snapshot ∷ []) (entry_line t e) (entry_there t b.entries e c)))
stands_from t (b ∷ bs) (suc i) e below c = (let more = stands_from (t + 1) bs i e (omega arith) c in (more.0, Contains-append_right (part_lines t b) (flat_map part (enumerate_from (t + 1) bs)) (entry_line more.0 e) more.1))

-- an entry of the buffers has its line,
pub entry_has_line : (bs : List Buffer) (e : Entry) → StandsIn bs e → (n : ℕ) × Contains (parts_lines bs) (entry_line n e)
entry_has_line bs e c = stands_from 1 bs c.0 e c.1 c.2

-- and each line is that of an entry or of a snapshot
pub data IsLineOf (bs : List Buffer) (l : Line) : Type 0 where
  of_entry : (n : ℕ) (e : Entry) → StandsIn bs e → l ≡ entry_line n e → IsLineOf bs l
  of_snapshot : (n i : ℕ) → i < length bs → l ≡ snap_line n (buffer_at bs i).snapshot → IsLineOf bs l

entry_of_line : (t : ℕ) (es : List Entry) (l : Line) → Contains (map (entry_line t) es) l → (e : Entry) × Contains es e × (l ≡ entry_line t e)
entry_of_line t [] l c = absurd (let below = c.1 in omega arith)
entry_of_line t (x ∷ es) l (zero, below, there) = (x, (0, omega arith, refl), sym there)
entry_of_line t (x ∷ es) l (suc k, below, there) = (let more = entry_of_line t es l (k, omega arith, there) in (more.0, Contains-append_right (x ∷ []) es more.0 more.1, more.2))

further : (b : Buffer) (bs : List Buffer) (l : Line) → IsLineOf bs l → IsLineOf (b ∷ bs) l
further b bs l (IsLineOf.of_entry n e c is) = IsLineOf.of_entry n e (suc c.0, omega (arith, c.1), c.2) is
further b bs l (IsLineOf.of_snapshot n i below is) = IsLineOf.of_snapshot n (suc i) (omega (arith, below)) is

line_from : (t : ℕ) (bs : List Buffer) (l : Line) → Contains (flat_map part (enumerate_from t bs)) l → IsLineOf bs l
line_from t [] l c = absurd (let below = c.1 in omega arith)
line_from t (b ∷ bs) l c = elim (Contains-append_cases (part_lines t b) (flat_map part (enumerate_from (t + 1) bs)) l c) [
  | inl own ↦ elim (Contains-append_cases (map (entry_line t) b.entries) (snap_line t b.snapshot ∷ []) l own) [
    | inl entry ↦ (let e = entry_of_line t b.entries l entry in IsLineOf.of_entry t e.0 (0, omega arith, e.1) e.2)
    | inr snap ↦ IsLineOf.of_snapshot t 0 (omega arith) (the_only (snap_line t b.snapshot) l snap)
  ]
  | inr rest ↦ further b bs l (line_from (t + 1) bs l rest)
]
  where
    the_only : (x l : Line) → Contains (x ∷ []) l → l ≡ x
    the_only x l (zero, below, there) = sym there
    the_only x l (suc k, below, there) = absurd (omega arith)

pub line_is_of : (bs : List Buffer) (l : Line) → Contains (parts_lines bs) l → IsLineOf bs l
line_is_of bs l c = line_from 1 bs l c
