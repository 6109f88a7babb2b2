-- What a trial leaves when it is over.
use Rattle.std.proofs.Common.{◌≡◌, ◌≢◌, inl, inr, ℕ, zero, suc, ◌+◌, ◌-◌, ◌*◌, ◌/◌, ◌%◌, ◌<◌, ◌≤◌, true, false, Some, IsNone, List, [], ◌∷◌, length, refl, sym, ap, subst, ◌∙◌, arith, add-one, add-suc, zero-add}
use Rattle.std.specs.List.{range_with_len}
use Rattle.std.proofs.lemmas.Bool.{cases_eq}
use Rattle.std.proofs.lemmas.Nat.{div-mul-add, mod-mul-add}
use Rattle.rec_core.proofs.Common.{target_of, predecessor, target_bits, State, slot_at, times, unreleased_within, one_if_same, sum_at, node_of, home, Pending, IsMarked, marked_in, none_if_differs, Load, TrialStands, is_member, word_loaded}
use Rattle.rec_model.specs.References.{closed_at}
use Rattle.rec_trial.specs.Loaded.{Run}
use Rattle.rec_trial.specs.Promised.{IsTrial}
use Rattle.rec_trial.specs.Tried.{members}
use Rattle.rec_trial.specs.Trial.{next_of}
use Rattle.rec_trial.specs.Witnessed.{word_at, fields_leading}
use Rattle.rec_trial.proofs.Places.{ltb_yes, ltb_no}
use Rattle.rec_trial.proofs.Readings.{codes, below_front, references_read}
use Rattle.rec_trial.proofs.Views.{bits_suc}
use Rattle.rec_trial.proofs.Totals.{same, total_below}
use Rattle.rec_trial.proofs.Witnesses.{below_alike, total_range}

sum_at_below : {X : Type 0} (f : ℕ → ℕ) (xs : List X) → sum_at (λ i x. f i) xs ≡ total_below f (length xs)
sum_at_below f [] = refl
sum_at_below f (x ∷ xs) = omega (arith, sum_at_below (λ i. f (suc i)) xs, below_front f (length xs))

below_more : (f : ℕ → ℕ) (a k : ℕ) → total_below f (a + k) ≡ total_below f a + total_below (λ g. f (a + g)) k
below_more f a zero = let same_end : total_below f (a + 0) ≡ total_below f a = ap (total_below f) (omega arith) in omega arith
below_more f a (suc k) = rw (add-suc a k) (omega (arith, below_more f a k))

below_rows : (f : ℕ → ℕ) (fields slots : ℕ) → total_below f (slots * fields) ≡ total_below (λ n. total_below (λ g. f (n * fields + g)) fields) slots
below_rows f fields zero = let none : zero * fields ≡ 0 = omega arith in rw none refl
below_rows f fields (suc n) =
    let next : suc n * fields ≡ n * fields + fields = omega arith in
    rw next (omega (arith, below_more f (n * fields) fields, below_rows f fields n))

-- a node is its slot and one more
node_code : (x word : ℕ) → one_if_same (suc x) (node_of word) ≡ same (suc x) (target_bits word)
unfolding node_of
node_code x word = grind arith

node_leads : (x word : ℕ) → node_of word ≡ suc x → target_of word ≡ Some x
unfolding node_of
node_leads x word e = ap predecessor e ∙ bits_suc x

module _ (loads : List Load) (x : ℕ) where
  -- counted where the word that was loaded from the field leads to the slot
  abbrev leads : (fields place : ℕ) → ℕ
  leads fields place = one_if_same (suc x) (node_of (word_loaded fields loads place))

  cell : (fields n g : ℕ) → g < fields → leads fields (n * fields + g) ≡ same (suc x) (codes (word_at loads) n g)
  cell fields n g h =
      let word : word_loaded fields loads (n * fields + g) ≡ word_at loads n g = rw (div-mul-add n fields g h, mod-mul-add n fields g h) refl in
      ap (λ k. one_if_same (suc x) (node_of k)) word ∙ node_code x (word_at loads n g)

  -- the fields that lead to a slot, as places
  leading_places : {X : Type 0} (fields slots : ℕ) (xs : List X) → length xs ≡ slots * fields → fields_leading fields slots loads x ≡ sum_at (λ i (w : X). leads fields i) xs
  leading_places {X} fields slots xs long =
      let cells : ℕ → ℕ → ℕ = λ n g. same (suc x) (codes (word_at loads) n g) in
      references_read fields (word_at loads) (range_with_len 0 slots) x
      ∙ total_range (λ n. total_below (cells n) fields) 0 slots
      ∙ below_alike (λ n. total_below (cells (0 + n)) fields) (λ n. total_below (λ g. leads fields (n * fields + g)) fields) slots
      (λ n l. ap (λ k. total_below (cells k) fields) (zero-add n) ∙ below_alike (cells n) (λ g. leads fields (n * fields + g)) fields (λ g h. sym (cell fields n g h)))
      ∙ sym (below_rows (leads fields) fields slots)
      ∙ ap (total_below (leads fields)) (sym long)
      ∙ sym (sum_at_below (leads fields) xs)

-- members are slots of sets
member_slot : (s : State) (x : ℕ) → is_member s (suc x) ≡ true → 0 < times x (members s)
member_slot s x e =
    let slot : suc x - 1 ≡ x = omega arith in
    let there : 0 < times (suc x - 1) (members s) = ltb_yes 0 (times (suc x - 1) (members s)) e in
    subst (λ k. 0 < times k (members s)) slot there

home_out : (s : State) (fields place : ℕ) → is_member s (home fields place) ≡ false → times (place / fields) (members s) ≡ 0
home_out s fields place e =
    let slot : place / fields + 1 - 1 ≡ place / fields = omega arith in
    let out : times (place / fields + 1 - 1) (members s) ≡ 0 = omega (arith, ltb_no 0 (times (place / fields + 1 - 1) (members s)) e) in
    subst (λ k. times k (members s) ≡ 0) slot out

-- the trial is over
module _ (w : Pending) (before : State) (words : List ℕ) (r : Run) (t : IsTrial w.fields before words r) (over : IsNone (next_of r.work.machine)) (s : TrialStands w r) where
  is_counted : length w.words ≡ length before.slots * w.fields → ((x : ℕ) → x < length before.slots → w.count (x + 1) ≡ (slot_at before x).count) → (node : ℕ) → 0 < node → is_member r.work.counts node ≡ true → w.count node ≤ sum_at (marked_in (word_loaded w.fields r.marking) node) w.words
  is_counted long counts zero pos member = absurd (omega (arith, pos))
  is_counted long counts (suc x) pos member =
      let m : 0 < times x (members r.work.counts) = member_slot r.work.counts x member in
      let inside : x < length before.slots = unreleased_within before x (t.careful.sets_unreleased x m) in
      let count : w.count (suc x) ≡ (slot_at before x).count = ap w.count (sym (add-one x)) ∙ counts x inside in
      omega (arith, count, (t.witnessed over).enough x m, leading_places r.marking x w.fields (length before.slots) w.words long)

  is_blackened : (place node : ℕ) → place < length w.words → 0 < node → is_member r.work.counts node ≡ true → is_member r.work.counts (home w.fields place) ≡ false → one_if_same node (node_of (word_loaded w.fields r.marking place)) ≤ closed_at w (w.applied + 1) place node
  is_blackened place zero inside pos member out = absurd (omega (arith, pos))
  is_blackened place (suc x) inside pos member out = elim (cases_eq (suc x) (node_of (word_loaded w.fields r.marking place))) [
    | inl e ↦
        let found = (t.witnessed over).replaced (place / w.fields) (place % w.fields) x (home_out r.work.counts w.fields place out) (member_slot r.work.counts x member) (node_leads x (word_loaded w.fields r.marking place) (sym e)) in
        let other : suc x ≢ node_of (word_loaded w.fields r.blackening place) = λ q. found.1 (node_leads x (word_loaded w.fields r.blackening place) (sym q)) in
        omega (arith, s.blacks place (suc x) inside pos (omega (arith, found.0)), none_if_differs (suc x) (node_of (word_loaded w.fields r.blackening place)) other)
    | inr e ↦ omega (arith, none_if_differs (suc x) (node_of (word_loaded w.fields r.marking place)) e)
  ]

pub trial_leaves_marked : (w : Pending) (fields : ℕ) (before : State) (words : List ℕ) (r : Run) → IsTrial fields before words r → IsNone (next_of r.work.machine) → w.fields ≡ fields → length w.words ≡ length before.slots * fields → ((x : ℕ) → x < length before.slots → w.count (x + 1) ≡ (slot_at before x).count) → TrialStands w r → IsMarked w (is_member r.work.counts) (word_loaded w.fields r.marking)
trial_leaves_marked w fields before words r t over width long counts s =
    let trial : IsTrial w.fields before words r = subst (λ f. IsTrial f before words r) (sym width) t in
    let places : length w.words ≡ length before.slots * w.fields = long ∙ ap (λ f. length before.slots * f) (sym width) in
    record {
      stands = λ place node inside pos member. s.marks place node inside pos;
      counted = is_counted w before words r trial over s places counts;
      blackened = is_blackened w before words r trial over s;
    }
