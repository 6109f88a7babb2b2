-- What follows from the accounts of a heap that counts late.
use Rattle.std.proofs.Common.{◌≡◌, ◌≢◌, inl, inr, ℕ, suc, ◌+◌, ◌<◌, ◌≤◌, Bool, true, false, cond, eqb, leb, not, List, [], ◌∷◌, length, map, All, get_or, sum_by, refl, sym, ap, ◌∙◌, arith}
use Rattle.std.proofs.lemmas.Bool.Decides.{nat_tests}
use Rattle.std.proofs.lemmas.Bool.{cases_lt, cases_eq, true≢false}
use Rattle.std.proofs.lemmas.List.Sums.{sum_by-le-sum_by, sum_by-le, get_or-le-sum_by}
use Rattle.rec_model.proofs.Common.{is_in, times, only_if, one_if_same, sum_at, node_of, epoch_of, home, Dated, Pending, word_in, is_at, Holds, references_of, nodes_of, nodes_from, one_if_born, count_formula, IsInReach, IsWriteInReach, opened_to, puts_in, added, with_answer, AccountMove, names, puts_after, replaces_from, is_from, is_node, touches, is_dead, names_unreleased, named_anywhere, IsAccounted, HasUncountedReleased}
use Rattle.rec_model.specs.Moves.AccountMove.{put, register, birth, crossing, leaving, request, batch, release, clearing, freeing, dropping}
use Rattle.rec_model.specs.Accounted.{named}
use Rattle.rec_model.specs.Opened.{IsBeginning}
use Rattle.rec_model.proofs.Sums.{get_or-le-sum_at, sum_by_split}
use Rattle.rec_model.proofs.Weights.{only_if-le, only_if_lt, only_if_le, one_if_self, none_if_differs}
use Rattle.rec_model.proofs.Places.{sum_at-le-from_get_or}
use Rattle.rec_model.proofs.Counted.{is_in-times, is_in-from_times, nodes_of_times, nodes_from_times, references_times}
use Rattle.rec_model.proofs.Ledgers.{epoch_within}
use Rattle.rec_model.proofs.Holding.{held_in_reach, late_home_in_reach}
use Rattle.rec_model.proofs.Naming.{count_is, uncounted_out_of_reach, uncounted_unnamed, dead_out_of_reach}
use Rattle.rec_model.proofs.CollectorMoves.{unnamed_uncounted, free_unnamed}

-- one birth counts as the count formula says
births_once : (w : Pending) (x : ℕ) → 0 < x → sum_by (is_from w.applied x) w.births ≤ 1 → one_if_born w w.applied x ≡ sum_by (is_from w.applied x) w.births
births_once w x pos most = go (is_in x (nodes_from w.applied w.births)) refl
  where
    go : (b : Bool) → is_in x (nodes_from w.applied w.births) ≡ b → cond b 1 0 ≡ sum_by (is_from w.applied x) w.births
    go true e = omega (arith, most, is_in-times x (nodes_from w.applied w.births) e, nodes_from_times w.applied x w.births pos)
    go false e = elim (cases_lt 0 (times x (nodes_from w.applied w.births))) [
      | inl some ↦ absurd (true≢false (sym (is_in-from_times x (nodes_from w.applied w.births) some) ∙ e))
      | inr none ↦ omega (arith, none, nodes_from_times w.applied x w.births pos)
    ]

-- the true count of every node is the count formula at the applied epoch
pub counted_by_formula : (w : Pending) → IsAccounted w → (x : ℕ) → 0 < x → w.count x ≡ count_formula w w.applied x
counted_by_formula w i x pos = go (w.free x) refl
  where
    taken_count : w.free x ≡ false → w.count x ≡ times x (map (λ r. r.target) (references_of w w.applied)) + times x (nodes_of w.applied w.snapshots) + one_if_born w w.applied x
    taken_count e =
        let none : only_if (w.free x) 1 ≡ 0 = ap (λ b. only_if b 1) e in
        omega (arith, none, count_is w x i.ledger i.late pos, references_times w w.applied x pos, nodes_of_times w.applied x w.snapshots pos, births_once w x pos (i.born x pos))

    go : (b : Bool) → w.free x ≡ b → w.count x ≡ count_formula w w.applied x
    go true e = rw e (i.single x pos e)
    go false e = rw e (taken_count e)

-- what a register of a mutator of a later epoch names is in reach
pub registers_in_reach : (w : Pending) → IsAccounted w → (j epoch x : ℕ) → w.applied ≤ j → j < epoch → 0 < x → Holds w epoch x → IsInReach w j x
registers_in_reach w i j epoch x from late pos has =
    let within : epoch ≤ w.requested = epoch_within w epoch x i.epochs has in
    held_in_reach w j epoch x (i.held j from (omega (arith, within, late))) has late pos

-- and so are the source and the targets of a write of a later epoch
pub writes_in_reach : (w : Pending) → IsAccounted w → (j : ℕ) → w.applied ≤ j → j < w.requested → All (λ e. j < epoch_of e.new → IsWriteInReach w j e) w.writes
writes_in_reach w i j from below k d inside late =
    record {
      source = reached source (omega arith) (omega (arith, one_if_self source));
      new = λ pos. reached new pos (omega (arith, one_if_self new));
      old = λ pos. reached old pos (omega (arith, one_if_self old));
    }
  where
    source : ℕ
    source = home w.fields (get_or w.writes k d).place

    new : ℕ
    new = node_of (get_or w.writes k d).new

    old : ℕ
    old = node_of (get_or w.writes k d).old

    reached : (x : ℕ) → 0 < x → 0 < one_if_same x source + one_if_same x new + one_if_same x old → IsInReach w j x
    reached x pos some =
        i.held j from below x pos (omega (
          arith,
          some,
          only_if_lt j (epoch_of (get_or w.writes k d).new) (one_if_same x source + one_if_same x new + one_if_same x old) late,
          get_or-le-sum_by (touches w.fields j x) w.writes k d inside,
        ))

-- what is named is neither free nor given up
taken_if_named : (w : Pending) → IsAccounted w → (x : ℕ) → 0 < x → 0 < named w x → is_dead w x ≡ false
taken_if_named w i x pos some = go (is_dead w x) refl
  where
    go : (b : Bool) → is_dead w x ≡ b → is_dead w x ≡ false
    go false e = e
    go true e = absurd (omega (arith, some, i.unnamed x pos e))

pub registers_name_the_taken : (w : Pending) → IsAccounted w → (epoch x : ℕ) → 0 < x → Holds w epoch x → is_dead w x ≡ false
registers_name_the_taken w i epoch x pos has =
    taken_if_named w i x pos (omega (arith, has, sum_by-le-sum_by (is_at epoch x) (is_node x) w.registers (λ d. only_if-le (eqb epoch d.epoch) (one_if_same x d.node))))

pub fields_name_the_taken : (w : Pending) → IsAccounted w → (place : ℕ) → place < length w.words → w.released (home w.fields place) ≡ false → 0 < node_of (word_in w place) → is_dead w (node_of (word_in w place)) ≡ false
fields_name_the_taken w i place inside unreleased pos =
    let x : ℕ = node_of (word_in w place) in
    let here : names_unreleased w.fields w.released x place (word_in w place) ≡ one_if_same x x = ap (λ b. only_if (not b) (one_if_same x x)) unreleased in
    taken_if_named w i x pos (omega (arith, here, one_if_self x, get_or-le-sum_at (names_unreleased w.fields w.released x) w.words place 0 inside))

-- no field leads to a free slot, not even one of a node that was given up
pub no_field_leads_to_the_free : (w : Pending) → IsAccounted w → (place : ℕ) → place < length w.words → 0 < node_of (word_in w place) → w.free (node_of (word_in w place)) ≡ false
no_field_leads_to_the_free w i place inside pos = go (w.free (node_of (word_in w place))) refl
  where
    go : (b : Bool) → w.free (node_of (word_in w place)) ≡ b → w.free (node_of (word_in w place)) ≡ false
    go false e = e
    go true e = absurd (omega (arith, free_unnamed w (node_of (word_in w place)) i pos e, one_if_self (node_of (word_in w place)), get_or-le-sum_at (names (node_of (word_in w place))) w.words place 0 inside))

-- the word in a field of a node that was given up is counted: it is of the applied epoch or before
pub released_word_applied : (w : Pending) → IsAccounted w → (place : ℕ) → place < length w.words → w.released (home w.fields place) ≡ true → epoch_of (word_in w place) ≤ w.applied
released_word_applied w i place inside released =
    elim (cases_lt w.applied (epoch_of (word_in w place))) [
      | inr l ↦ l
      | inl l ↦
          let dead : is_dead w (home w.fields place) ≡ true = (grind (arith, released)) in
          absurd (dead_out_of_reach w w.applied (omega arith) i.unnamed (home w.fields place) (late_home_in_reach w place inside i.late (i.held w.applied (omega arith) i.epochs.behind) l) dead)
    ]

-- the target of a word of the applied epoch or before has a count
pub applied_word_counted : (w : Pending) → IsAccounted w → (place x : ℕ) → place < length w.words → epoch_of (word_in w place) ≤ w.applied → 0 < x → one_if_same x (node_of (word_in w place)) ≤ w.count x
applied_word_counted w i place x inside early pos =
    omega (
      arith,
      count_is w x i.ledger i.late pos,
      get_or-le-sum_at (opened_to w.applied x) w.words place 0 inside,
      only_if_le (epoch_of (word_in w place)) w.applied (one_if_same x (node_of (word_in w place))) early,
    )

-- what clearing a field of a node that was given up takes off a count is there
pub clearing_covered : (w : Pending) → IsAccounted w → (place x : ℕ) → place < length w.words → w.released (home w.fields place) ≡ true → 0 < x → one_if_same x (node_of (word_in w place)) ≤ w.count x
clearing_covered w i place x inside released pos = applied_word_counted w i place x inside (released_word_applied w i place inside released) pos

-- the count of a node that was given up is how many fields name it
pub released_count : (w : Pending) → IsAccounted w → (x : ℕ) → 0 < x → w.released x ≡ true → w.count x ≡ sum_at (names x) w.words
released_count w i x pos released =
    let dead : is_dead w x ≡ true = (grind (arith, released)) in
    omega (arith, taken (w.free x) refl, i.ledger x pos, i.unnamed x pos dead, sum_by-le-sum_by (is_at w.applied x) (is_from w.applied x) w.snapshots (λ d. grind (arith, nat_tests)))
  where
    taken : (b : Bool) → w.free x ≡ b → only_if (w.free x) 1 ≡ 0
    taken false e = ap (λ b. only_if b 1) e
    taken true e = absurd (true≢false (sym released ∙ i.apart x pos e))

-- where all nodes that were given up are emptied, none of them has a count
pub emptied_uncounted : (w : Pending) → IsAccounted w → ((place : ℕ) → place < length w.words → w.released (home w.fields place) ≡ true → node_of (word_in w place) ≡ 0) → HasUncountedReleased w
emptied_uncounted w i empty x pos released =
    let dead : is_dead w x ≡ true = (grind (arith, released)) in
    omega (arith, released_count w i x pos released, i.unnamed x pos dead, sum_at-le-from_get_or (names x) (names_unreleased w.fields w.released x) w.words 0 each)
  where
    each : (place : ℕ) → place < length w.words → names x place (word_in w place) ≤ names_unreleased w.fields w.released x place (word_in w place)
    each place inside = go (w.released (home w.fields place)) refl
      where
        go : (b : Bool) → w.released (home w.fields place) ≡ b → one_if_same x (node_of (word_in w place)) ≤ only_if (not (w.released (home w.fields place))) (one_if_same x (node_of (word_in w place)))
        go true e = omega (arith, none_if_differs x (node_of (word_in w place)) (differs (empty place inside e)))
          where
            differs : node_of (word_in w place) ≡ 0 → x ≢ node_of (word_in w place)
            differs z = omega (arith, z, pos)
        go false e = rw e (omega arith)

-- a node without a count is in no reach and named by nothing, from a batch to the next request
pub uncounted_gone : (w : Pending) → IsAccounted w → (x : ℕ) → 0 < x → w.applied + 1 ≡ w.requested → w.count x ≡ 0 → (IsInReach w w.applied x → ⊥) × (named_anywhere w x ≡ 0)
uncounted_gone w i x pos done z =
    let held = i.held w.applied (omega arith) i.epochs.behind in
    (uncounted_out_of_reach w x i.epochs i.ledger i.late held done pos z, uncounted_unnamed w x i.epochs i.ledger i.late held done pos z)

-- each element weighs at most one
sum_at-le-length : {X : Type 0} (f : ℕ → X → ℕ) (xs : List X) → ((k : ℕ) (x : X) → f k x ≤ 1) → sum_at f xs ≤ length xs
sum_at-le-length f [] most = omega arith
sum_at-le-length f (x ∷ xs) most = omega (arith, most 0 x, sum_at-le-length (λ k. f (suc k)) xs (λ k y. most (suc k) y))

one_at_most : (x y : ℕ) → one_if_same x y ≤ 1
one_at_most x y = only_if-le (eqb x y) 1

-- no count, with what the next batch adds to it, is above the number of words, writes and snapshots, and one
pub counts_bounded : (w : Pending) → IsAccounted w → (x : ℕ) → 0 < x → w.count x + added w x ≤ length w.words + length w.writes + length w.snapshots + 1
counts_bounded w i x pos =
    let a : ℕ = w.applied in
    go
    (w.free x)
    refl
    (omega (
      arith,
      i.ledger x pos,
      i.born x pos,
      sum_by-le-sum_by (puts_in (a + 1) x) (puts_after a x) w.writes (λ e. grind (arith, nat_tests)),
      sum_at-le-length (names x) w.words (λ k word. one_at_most x (node_of word)),
      sum_by-le (replaces_from a x) 1 w.writes (λ k d inside. omega (arith, one_at_most x (node_of (get_or w.writes k d).old), only_if-le (leb a (epoch_of (get_or w.writes k d).new)) (one_if_same x (node_of (get_or w.writes k d).old)))),
      sum_by_split (λ d. is_at a x d + is_at (a + 1) x d) (is_at a x) (is_at (a + 1) x) w.snapshots (λ d. refl),
      sum_by-le (λ d. is_at a x d + is_at (a + 1) x d) 1 w.snapshots (λ k d inside. once (get_or w.snapshots k d)),
    ))
  where
    once : (d : Dated) → is_at w.applied x d + is_at (w.applied + 1) x d ≤ 1
    once d = grind (arith, nat_tests)

    go : (b : Bool) → w.free x ≡ b → w.count x + added w x ≤ length w.words + length w.writes + length w.snapshots + 1 + only_if (w.free x) 1 → w.count x + added w x ≤ length w.words + length w.writes + length w.snapshots + 1
    go false e most = let none : only_if (w.free x) 1 ≡ 0 = ap (λ b. only_if b 1) e in omega (arith, most, none)
    go true e most = let dead : is_dead w x ≡ true = (grind (arith, e)) in omega (arith, i.single x pos e, (unnamed_uncounted w x (i.unnamed x pos dead)).0)

-- each move keeps that what was given up has no count
pub move_uncounted : {w v : Pending} → AccountMove w v → IsAccounted w → HasUncountedReleased w → HasUncountedReleased v
move_uncounted (put s) i h x pos r = s.slots.count x pos ∙ h x pos (sym (s.slots.released x pos) ∙ r)
move_uncounted (register s) i h x pos r = s.slots.count x pos ∙ h x pos (sym (s.slots.released x pos) ∙ r)
move_uncounted (birth s) i h x pos r = s.count x pos ∙ h x pos (sym (s.released x pos) ∙ r)
move_uncounted (crossing s) i h x pos r = s.slots.count x pos ∙ h x pos (sym (s.slots.released x pos) ∙ r)
move_uncounted (leaving s) i h x pos r = s.slots.count x pos ∙ h x pos (sym (s.slots.released x pos) ∙ r)
move_uncounted (request s) i h x pos r = s.slots.count x pos ∙ h x pos (sym (s.slots.released x pos) ∙ r)
move_uncounted {w} (batch s) i h x pos r =
    let released : w.released x ≡ true = sym (s.released x pos) ∙ r in
    let dead : is_dead w x ≡ true = (grind (arith, released)) in
    let none = unnamed_uncounted w x (i.unnamed x pos dead) in
    omega (arith, s.counts x pos, h x pos released, none.0, none.1)
move_uncounted {w} {v} (release {node} s) i h x pos r =
    elim (cases_eq x node) [
      | inl e ↦ s.count x pos ∙ ap w.count e ∙ s.unnamed
      | inr other ↦ s.count x pos ∙ h x pos (before other (sym (s.released x pos) ∙ r))
    ]
  where
    before : x ≢ node → with_answer w.released node true x ≡ true → w.released x ≡ true
    before other e = grind (arith, nat_tests)
move_uncounted {w} (clearing s) i h x pos r = omega (arith, s.counts x pos, h x pos (sym (s.released x pos) ∙ r))
move_uncounted {w} {v} (freeing {node} s) i h x pos r =
    let still = kept (sym (s.released x pos) ∙ r) in
    omega (arith, s.counts x pos, none_if_differs x node still.1, h x pos still.0)
  where
    kept : with_answer w.released node false x ≡ true → (w.released x ≡ true) × (x ≢ node)
    kept e = grind (arith, nat_tests)
move_uncounted (dropping s) i h x pos r = s.slots.count x pos ∙ h x pos (sym (s.slots.released x pos) ∙ r)

pub beginning_uncounted : (w : Pending) → IsBeginning w → HasUncountedReleased w
beginning_uncounted w s x pos r = absurd (true≢false (sym r ∙ s.released x pos))
