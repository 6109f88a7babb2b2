-- Sets of the cycle buffer while they are tested, over what mutators and the collector do meanwhile.
use Rattle.std.proofs.Common.{◌≡◌, ℕ, ◌+◌, ◌-◌, ◌<◌, ◌≤◌, true, false, eqb, Some, List, [], ◌∷◌, length, sym, ◌∙◌, ap, subst, arith, inl, inr, sum_by}
use Rattle.std.proofs.lemmas.Bool.{true≢false}
use Rattle.std.proofs.lemmas.Bool.Decides.{eqb_tells}
use Rattle.std.proofs.lemmas.List.Sums.{sum_by-cons}
use Rattle.rec_core.proofs.Common.{only_if, one_if_same, sum_at, node_of, home, Pending, Clears, puts_in, AccountMove, IsAccounted, HasLoaded, IsStanding, IsTesting, IsAmongTests, ReleasesSet, seen_in, sum_at_same, State, slot_at, one, times, is_in, some_set, times-nil, times-cons, move_fields, members_of, given_up, IsApart, is_member_of, word_seen, SetsTest}
use Rattle.rec_model.specs.Moves.AccountMove.{put, register, birth, crossing, leaving, request, batch, release, clearing, freeing, dropping}
use Rattle.rec_model.specs.Sets.{IsTested}
use Rattle.rec_model.proofs.Since.{loaded_stands}
use Rattle.rec_model.proofs.Testing.{move_testing, set_accounted}
use Rattle.rec_counts.specs.declared.colour.Colour.TheVariants.{Orange}
use Rattle.rec_counts.specs.Counts.{IsKept}
use Rattle.rec_sigma.specs.Judged.{AreOrange, cyclic_sum}
use Rattle.rec_sigma.proofs.Cyclics.{in_set, set_in_range}
use Rattle.rec_sigma.specs.Refurbish.{LastRefurbished}
use Rattle.rec_core.proofs.CyclesLess.{TestsLess, member_before, less_given_up, less_refurbished}

-- what was seen in the fields of a set's members is the same where all of them are left
seen_same : (fields : ℕ) (s t : State) → TestsLess s t → (seen : ℕ → ℕ) (number x : ℕ) → (slot_at t x).set ≡ Some number → (words : List ℕ) →
    sum_at (seen_in fields (is_member_of t number) seen (x + 1)) words ≡ sum_at (seen_in fields (is_member_of s number) seen (x + 1)) words
seen_same fields s t l seen number x e words =
    sum_at_same (seen_in fields (is_member_of t number) seen (x + 1)) (seen_in fields (is_member_of s number) seen (x + 1)) words (λ p word. ap (λ b. only_if b (one_if_same (x + 1) (node_of (seen p)))) (l.members number x (home fields p - 1) e))

-- the cyclic count of a member is still its true count, less what was seen
pub counted_less : (fields : ℕ) (words : List ℕ) (seen : ℕ → ℕ) (s t : State) → TestsLess s t → (number x : ℕ) → (slot_at t x).set ≡ Some number → (slot_at t x).colour ≡ Orange → (slot_at t x).released ≡ false →
    (slot_at s x).cyclic ≡ (slot_at s x).count - sum_at (seen_in fields (is_member_of s number) seen (x + 1)) words →
    (slot_at t x).cyclic ≡ (slot_at t x).count - sum_at (seen_in fields (is_member_of t number) seen (x + 1)) words
counted_less fields words seen s t l number x e o r c =
    omega (arith, (l.exact x o r).1 (sum_at (seen_in fields (is_member_of s number) seen (x + 1)) words) c, seen_same fields s t l seen number x e words)

-- the tests go on over what the collector does to the counts
pub sets_test_less : (w : Pending) (s t : State) → TestsLess s t → SetsTest w s → SetsTest w t
sets_test_less w s t l h = record {
  before = h.before;
  member = h.member;
  testing = h.testing;
  among = λ x m. h.among x (l.among x m);
  loads = h.loads;
  loaded = h.loaded;
  counted = λ number x e o r. counted_less w.fields w.words (word_seen w.fields h.loads) s t l number x e o r (h.counted number x (member_before l number x e) (l.orange x o) (l.exact x o r).0);
  unput = λ x o. h.unput x (l.orange x o);
}

pub sets_test_refurbished : (w : Pending) (s t : State) → IsKept s → LastRefurbished s t → SetsTest w s → SetsTest w t
sets_test_refurbished w s t k r = sets_test_less w s t (less_refurbished s t k r)

sets_test_given_up : (w : Pending) (s : State) → SetsTest w s → SetsTest w (given_up s)
sets_test_given_up w s = sets_test_less w s (given_up s) (less_given_up s)

-- so many places weigh the same, whatever words stand there
abbrev HasSamePlaces : (xs ys : List ℕ) → Type 0
HasSamePlaces xs ys = (weight : ℕ → ℕ) → sum_at (λ p (word : ℕ). weight p) ys ≡ sum_at (λ p (word : ℕ). weight p) xs

-- the tests of the same sets, of words at the same places
sets_test_on : (w v : Pending) (s : State) (h : SetsTest w s) → IsTesting v h.before h.member → v.fields ≡ w.fields → HasSamePlaces w.words v.words → SetsTest v s
sets_test_on w v s h testing fields places = record {
  before = h.before;
  member = h.member;
  testing = testing;
  among = h.among;
  loads = h.loads;
  loaded = subst (λ f. HasLoaded h.before (word_seen f h.loads)) (sym fields) h.loaded;
  counted = λ number x e o r. subst (λ f. (slot_at s x).cyclic ≡ (slot_at s x).count - sum_at (seen_in f (is_member_of s number) (word_seen f h.loads) (x + 1)) v.words) (sym fields) (omega (
    arith,
    h.counted number x e o r,
    places (λ p. seen_in w.fields (is_member_of s number) (word_seen w.fields h.loads) (x + 1) p 0),
  ));
  unput = h.unput;
}

move_places : {w v : Pending} → AccountMove w v → HasSamePlaces w.words v.words
move_places (put m) f = omega (arith, m.words (λ p word. f p))
move_places (register m) f = m.words (λ p word. f p)
move_places (birth m) f = m.words (λ p word. f p)
move_places (crossing m) f = m.words (λ p word. f p)
move_places (leaving m) f = m.words (λ p word. f p)
move_places (request m) f = m.words (λ p word. f p)
move_places (batch m) f = m.words (λ p word. f p)
move_places (release m) f = m.words (λ p word. f p)
move_places (clearing m) f = omega (arith, m.words (λ p word. f p))
move_places (freeing m) f = m.words (λ p word. f p)
move_places (dropping m) f = m.words (λ p word. f p)

-- the tests go on over what mutators do, releases and clearings
pub sets_test_moved : {w v : Pending} (s : State) (m : AccountMove w v) → IsAmongTests m → IsAccounted w → SetsTest w s → SetsTest v s
sets_test_moved {w} {v} s m among i h = sets_test_on w v s h (move_testing m among i h.testing) (move_fields m) (move_places m)

-- also where the counts change with it
pub sets_test_stepped : {w v : Pending} (s t : State) (m : AccountMove w v) → IsAmongTests m → TestsLess s t → IsAccounted w → SetsTest w s → SetsTest v t
sets_test_stepped {w} {v} s t m among l i h = sets_test_less v s t l (sets_test_moved s m among i h)

-- a word comes out of a field, and its target is lowered or decremented
pub sets_test_taken : (w v : Pending) (s t : State) (place : ℕ) → Clears w v place → TestsLess s t → IsAccounted w → SetsTest w s → SetsTest v t
sets_test_taken w v s t place c l i h = sets_test_stepped s t (clearing c) tt l i h

pub none_of : (f : ℕ → ℕ) (xs : List ℕ) (x : ℕ) → 0 < times x xs → sum_by f xs ≡ 0 → f x ≡ 0
none_of f [] x h e = absurd (omega (arith, h, times-nil x))
none_of f (y ∷ ys) x h e =
    elim (eqb_tells x y) [
      | inl q ↦ omega (arith, e, sum_by-cons f y ys, ap f q.1)
      | inr q ↦ let n : one (eqb x y) ≡ 0 = ap one q.0 in none_of f ys x (omega (arith, h, n, times-cons x y ys)) (omega (arith, e, sum_by-cons f y ys))
    ]

-- what a set that is judged well is known by
pub record IsJudged (w : Pending) (s : State) (number : ℕ) : Type 0 where
  pub kept : IsKept s
  pub apart : IsApart s
  pub released : (x : ℕ) → x < length s.slots → w.released (x + 1) ≡ (slot_at s x).released
  pub count : (x : ℕ) → x < length s.slots → w.count (x + 1) ≡ (slot_at s x).count
  pub orange : AreOrange s number
  pub none : cyclic_sum s number ≡ 0

module _ (w : Pending) (s : State) (number : ℕ) (h : SetsTest w s) (j : IsJudged w s number) where
  member_times : (x : ℕ) → is_in number (slot_at s x).set ≡ true → 0 < times x (members_of s number)
  member_times x e = omega (arith, j.kept.numbers number x, ap one e)

  member_orange : (x : ℕ) → is_in number (slot_at s x).set ≡ true → (slot_at s x).colour ≡ Orange
  member_orange x e = j.orange x (member_times x e)

  member_unreleased : (node : ℕ) → 0 < node → is_member_of s number node ≡ true → w.released node ≡ false
  member_unreleased node pos e =
      let same : node - 1 + 1 ≡ node = omega arith in
      subst (λ z. w.released z ≡ false) same (j.released (node - 1) (set_in_range s number (node - 1) e) ∙ (j.apart (node - 1) (member_orange (node - 1) e)).unreleased)

  set_stands : (node : ℕ) → 0 < node → is_member_of s number node ≡ true → IsStanding w (is_member_of s number) (word_seen w.fields h.loads) node
  set_stands node pos e p inside m = loaded_stands w h.before h.member h.testing.since.0 (word_seen w.fields h.loads) h.testing.since.1 h.loaded p node inside pos (member_unreleased (home w.fields p) (omega arith) m)

  slot_counted : (x : ℕ) → is_in number (slot_at s x).set ≡ true → w.count (x + 1) ≤ sum_at (seen_in w.fields (is_member_of s number) (word_seen w.fields h.loads) (x + 1)) w.words
  slot_counted x e =
      omega (
        arith,
        j.count x (set_in_range s number x e),
        h.counted number x (in_set number (slot_at s x).set e) (member_orange x e) (j.apart x (member_orange x e)).unreleased,
        none_of (λ y. (slot_at s y).cyclic) (members_of s number) x (member_times x e) j.none,
      )

  set_counted : (node : ℕ) → 0 < node → is_member_of s number node ≡ true → w.count node ≤ sum_at (seen_in w.fields (is_member_of s number) (word_seen w.fields h.loads) node) w.words
  set_counted node pos e =
      let same : node - 1 + 1 ≡ node = omega arith in
      subst (λ z. w.count z ≤ sum_at (seen_in w.fields (is_member_of s number) (word_seen w.fields h.loads) z) w.words) same (slot_counted (node - 1) e)

  set_among : (node : ℕ) → 0 < node → is_member_of s number node ≡ true → h.member node ≡ true
  set_among node pos e =
      let same : node - 1 + 1 ≡ node = omega arith in
      subst (λ z. h.member z ≡ true) same (h.among (node - 1) (some_set j.kept (node - 1) number (in_set number (slot_at s (node - 1)).set e)))

  set_unput : (node : ℕ) → 0 < node → is_member_of s number node ≡ true → sum_by (puts_in (h.before.applied + 1) node) h.before.writes ≡ 0
  set_unput node pos e =
      let same : node - 1 + 1 ≡ node = omega arith in
      subst (λ z. sum_by (puts_in (h.before.applied + 1) z) h.before.writes ≡ 0) same (h.unput (node - 1) (member_orange (node - 1) e))

  -- a set that is judged well passes its tests
  pub set_is_tested : IsTested w h.before h.member (is_member_of s number)
  set_is_tested = record {
    passes = ((word_seen w.fields h.loads), record { stands = set_stands; counted = set_counted });
    among = set_among;
    unput = set_unput;
  }

-- the last set is given up
pub set_given_up : (w v : Pending) (s : State) (number : ℕ) → IsAccounted w → SetsTest w s → IsJudged w s number → ReleasesSet w v (is_member_of s number) → IsAccounted v × SetsTest v (given_up s)
set_given_up w v s number i h j r =
    let kept : IsAccounted v × IsTesting v h.before h.member = set_accounted w v h.before h.member (is_member_of s number) i h.testing (set_is_tested w s number h j) r in
    (kept.0, sets_test_given_up v s (sets_test_on w v s h kept.1 r.epochs.fields (λ f. r.words (λ p word. f p))))

-- What is pending is the same but for how its counts are laid out: the accounts are kept, and the tests go on.
pub sets_test_alike : (w v : Pending) (s : State) → IsAccounted w → SetsTest w s → ReleasesSet w v (λ node. false) → IsAccounted v × SetsTest v s
sets_test_alike w v s i h r =
    let tested : IsTested w h.before h.member (λ node. false) = record {
      passes = (λ place. 0, record { stands = λ node pos e. absurd (true≢false (sym e)); counted = λ node pos e. absurd (true≢false (sym e)) });
      among = λ node pos e. absurd (true≢false (sym e));
      unput = λ node pos e. absurd (true≢false (sym e));
    } in
    let kept : IsAccounted v × IsTesting v h.before h.member = set_accounted w v h.before h.member (λ node. false) i h.testing tested r in
    (kept.0, sets_test_on w v s h kept.1 r.epochs.fields (λ f. r.words (λ p word. f p)))
