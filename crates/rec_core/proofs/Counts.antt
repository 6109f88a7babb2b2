-- What the collector does to the counts, as moves of the accounts of its heap.
use Rattle.std.proofs.Common.{◌≡◌, ◌≢◌, inl, inr, ℕ, ◌+◌, ◌-◌, ◌*◌, ◌/◌, ◌%◌, ◌<◌, ◌≤◌, ◌==◌, nat_lt, suc, Bool, true, false, if◌then◌else◌, List, [], ◌∷◌, Option, None, Some, length, slice_index_or, slice_set, refl, sym, ap, ◌∙◌, arith}
use Rattle.std.proofs.Math.Nat.{mod-lt, div-add-mod, mul_comm}
use Rattle.std.proofs.lemmas.Bool.{cases_eq, cases_lt, eq-eqb, ne_eqb, cond-true, cond-false}
use Rattle.std.proofs.lemmas.List.{get_or-set_same, get_or-set_other, get_or_past, get_or_default}
use Rattle.rec_core.proofs.Common.{place_of, target_of, Clears, Releases, with_answer, leads_out_of, node_of, home, Pending, ReleasesSet, with_members, only_if, one_if_same, sum_at, sum_at-set, one_if_self, none_if_differs, State, slot_at, with_slot, one, absent, fresh, is_in, unbuffered_if, Slot, dead_if, given_up, emptied, listed_if, without_first, taken_off, is_member_of, code}
use Rattle.rec_model.specs.Pending.{word_in}
use Rattle.rec_model.proofs.Ledgers.{node_of_null}
use Rattle.rec_counts.proofs.Decrementing.{in_range_counted}
use Rattle.rec_release.proofs.Giving.{given_count, given_many, given_slot}
use Rattle.rec_release.proofs.TakenOff.{KeepsMost, off_count, off_most}
use Rattle.rec_core.proofs.Moves.{code_target}

-- what is kept of a node's slot; past the last slot, what is kept of a free one
abbrev pub slot_in : State → (node : ℕ) → Slot
slot_in s node = slice_index_or s.slots (node - 1) fresh

-- the accounts with these field words and these counts
abbrev pub accounts_with : Pending → (words : List ℕ) → State → Pending
accounts_with p words s = record p { words = words; count = λ node. (slot_in s node).count; released = λ node. (slot_in s node).released }

-- a slot that is there, whatever stands past the last one
slot_here : (s : State) (node : ℕ) → node - 1 < length s.slots → slot_in s node ≡ slot_at s (node - 1)
slot_here s node below = get_or_default s.slots (node - 1) fresh absent below

-- past the last slot there is a free one
slot_past : (s : State) (node : ℕ) → length s.slots ≤ node - 1 → slot_in s node ≡ fresh
slot_past s node past = get_or_past s.slots (node - 1) fresh past

-- the counts of a node's slot, by its node, are those of the slot
pub counted_slot : (s : State) (x : ℕ) → x < length s.slots → slot_in s (x + 1) ≡ slot_at s x
counted_slot s x below = let one : x + 1 - 1 ≡ x = omega arith in slot_here s (x + 1) (omega arith) ∙ ap (slot_at s) one

-- counts with the same slots, as far as counting and releasing go, are the same counts
pub alike_slots : (s t : State) → length t.slots ≡ length s.slots → ((x : ℕ) → (slot_at t x).count ≡ (slot_at s x).count) → ((x : ℕ) → (slot_at t x).released ≡ (slot_at s x).released)
    → (node : ℕ) → ((slot_in t node).count ≡ (slot_in s node).count) × ((slot_in t node).released ≡ (slot_in s node).released)
alike_slots s t many counts released node = elim (cases_lt (node - 1) (length s.slots)) [
  | inl below ↦ (
    ap (λ (v : Slot). v.count) (slot_here t node (omega arith)) ∙ counts (node - 1) ∙ ap (λ (v : Slot). v.count) (sym (slot_here s node below)),
    ap (λ (v : Slot). v.released) (slot_here t node (omega arith)) ∙ released (node - 1) ∙ ap (λ (v : Slot). v.released) (sym (slot_here s node below)),
  )
  | inr past ↦ (
    ap (λ (v : Slot). v.count) (slot_past t node (omega arith) ∙ sym (slot_past s node past)),
    ap (λ (v : Slot). v.released) (slot_past t node (omega arith) ∙ sym (slot_past s node past)),
  )
]

-- released stays, where it stays of each slot
released_same : (s t : State) → length t.slots ≡ length s.slots → ((x : ℕ) → (slot_at t x).released ≡ (slot_at s x).released) → (node : ℕ) → (slot_in t node).released ≡ (slot_in s node).released
released_same s t many released node = elim (cases_lt (node - 1) (length s.slots)) [
  | inl below ↦ ap (λ (v : Slot). v.released) (slot_here t node (omega arith)) ∙ released (node - 1) ∙ ap (λ (v : Slot). v.released) (sym (slot_here s node below))
  | inr past ↦ ap (λ (v : Slot). v.released) (slot_past t node (omega arith) ∙ sym (slot_past s node past))
]

-- one reference less to what a word leads to, whether its count is lowered or decremented
taken_counts : (lowers : Bool) (s : State) (word : ℕ) → ((slot : ℕ) → target_of word ≡ Some slot → 0 < (slot_at s slot).count) → (node : ℕ) → 0 < node
    → (slot_in (taken_off lowers s (target_of word)) node).count + one_if_same node (node_of word) ≡ (slot_in s node).count
taken_counts lowers s word counted node pos = go (target_of word) refl
  where
    go : (x : Option ℕ) → target_of word ≡ x → (slot_in (taken_off lowers s x) node).count + one_if_same node (node_of word) ≡ (slot_in s node).count
    go None is =
        let null : node_of word ≡ 0 = sym (code_target word) ∙ ap code is in
        omega (arith, ap (one_if_same node) null, none_if_differs node 0 (λ e. omega arith))
    go (Some x) is =
        let target : node_of word ≡ x + 1 = sym (code_target word) ∙ ap code is in
        let some : 0 < (slot_at s x).count = counted x is in
        let there : x < length s.slots = in_range_counted s x some in
        let off : State = taken_off lowers s (Some x) in
        let many : length off.slots ≡ length s.slots = (off_most lowers s (Some x)).slots in
        let less : (slot_at off (node - 1)).count ≡ (slot_at s (node - 1)).count - one (node - 1 == x) = off_count lowers s (Some x) (node - 1) in
        elim (cases_eq (node - 1) x) [
          | inl e ↦
              let one_less : one (node - 1 == x) ≡ 1 = ap one (eq-eqb (node - 1) x e) in
              let n : node ≡ x + 1 = omega arith in
              omega (
                arith,
                less,
                one_less,
                some,
                ap (λ y. (slot_at s y).count) e,
                ap (one_if_same node) target,
                ap (λ y. one_if_same y (x + 1)) n,
                one_if_self (x + 1),
                ap (λ (v : Slot). v.count) (slot_here off node (omega arith)),
                ap (λ (v : Slot). v.count) (slot_here s node (omega arith)),
              )
          | inr e ↦
              let same : one (node - 1 == x) ≡ 0 = ap one (ne_eqb (node - 1) x e) in
              let none : one_if_same node (x + 1) ≡ 0 = none_if_differs node (x + 1) (λ n. e (omega arith)) in
              elim (cases_lt (node - 1) (length s.slots)) [
                | inl below ↦ omega (
                  arith,
                  less,
                  same,
                  none,
                  ap (one_if_same node) target,
                  ap (λ (v : Slot). v.count) (slot_here off node (omega arith)),
                  ap (λ (v : Slot). v.count) (slot_here s node below),
                )
                | inr past ↦ omega (arith, none, ap (one_if_same node) target, ap (λ (v : Slot). v.count) (slot_past off node (omega arith)), ap (λ (v : Slot). v.count) (slot_past s node past))
              ]
        ]

-- A word comes out of a field of a released node, and its target is counted off.
pub clears : (lowers : Bool) (p : Pending) (s : State) (place : ℕ) → p.applied + 1 ≡ p.requested → place < length p.words → (slot_in s (home p.fields place)).released ≡ true
    → ((slot : ℕ) → target_of (word_in p place) ≡ Some slot → 0 < (slot_at s slot).count)
    → Clears (accounts_with p p.words s) (accounts_with p (slice_set p.words place 0) (taken_off lowers s (target_of (word_in p place)))) place
clears lowers p s place done inside released counted =
    let word : ℕ = word_in p place in
    let rest : KeepsMost s (taken_off lowers s (target_of word)) = off_most lowers s (target_of word) in
    record {
      done = done;
      inside = inside;
      was_released = released;
      words = λ weight. sum_at-set weight p.words place 0 0 inside;
      counts = taken_counts lowers s word counted;
      logs = record { writes = λ weight. refl; births = λ weight. refl; snapshots = λ weight. refl };
      registers = λ weight. refl;
      epochs = record { fields = refl; applied = refl; requested = refl };
      free = λ x _. refl;
      released = λ x _. released_same s (taken_off lowers s (target_of word)) rest.slots rest.released x;
      leaf = λ x _. refl;
    }

-- with its flag set, a slot is released, and every other is as it was
flagged : (s : State) (z : ℕ) → z < length s.slots → (node : ℕ) → 0 < node
    → ((slot_in (with_slot s z (record (slot_at s z) { released = true })) node).released ≡ with_answer (λ x. (slot_in s x).released) (z + 1) true node)
    × ((slot_in (with_slot s z (record (slot_at s z) { released = true })) node).count ≡ (slot_in s node).count)
flagged s z there node pos =
    let v : Slot = record (slot_at s z) { released = true } in
    let test : ℕ → Bool = λ x. (slot_in s x).released in
    elim (cases_eq node (z + 1)) [
      | inl is ↦
          let at : node - 1 ≡ z = omega arith in
          let new : slot_in (with_slot s z v) node ≡ v = ap (λ (n : ℕ). slice_index_or (slice_set s.slots z v) n fresh) at ∙ get_or-set_same s.slots z v fresh there in
          let old : slot_in s node ≡ slot_at s z = ap (λ (n : ℕ). slice_index_or s.slots n fresh) at ∙ get_or_default s.slots z fresh absent there in (
            ap (λ (x : Slot). x.released) new ∙ sym (cond-true (node == z + 1) true (test node) (eq-eqb node (z + 1) is)),
            ap (λ (x : Slot). x.count) new ∙ sym (ap (λ (x : Slot). x.count) old),
          )
      | inr other ↦
          let apart : (node - 1) ≢ z = λ e. other (omega arith) in
          let same : slot_in (with_slot s z v) node ≡ slot_in s node = get_or-set_other s.slots z (node - 1) v fresh apart in (
            ap (λ (x : Slot). x.released) same ∙ sym (cond-false (node == z + 1) true (test node) (ne_eqb node (z + 1) other)),
            ap (λ (x : Slot). x.count) same,
          )
    ]

-- A node without a count is given up.
pub releases : (p : Pending) (words : List ℕ) (s : State) (z : ℕ) (zs : List ℕ) → p.applied + 1 ≡ p.requested → z < length s.slots → (slot_at s z).count ≡ 0
    → Releases (accounts_with p words s) (accounts_with p words (without_first (z ∷ zs) s)) (z + 1)
releases p words s z zs done there none =
    let at : z + 1 - 1 ≡ z = omega arith in
    record {
      done = done;
      is_node = omega arith;
      unnamed = ap (λ (n : ℕ). (slice_index_or s.slots n fresh).count) at ∙ ap (λ (v : Slot). v.count) (get_or_default s.slots z fresh absent there) ∙ none;
      words = λ weight. refl;
      logs = record { writes = λ weight. refl; births = λ weight. refl; snapshots = λ weight. refl };
      registers = λ weight. refl;
      epochs = record { fields = refl; applied = refl; requested = refl };
      count = λ x pos. (flagged s z there x pos).1;
      free = λ x _. refl;
      released = λ x pos. (flagged s z there x pos).0;
      leaf = λ x _. refl;
    }

-- The members of the last set are given up.
pub set_release : (p : Pending) (words : List ℕ) (s : State) → ReleasesSet (accounts_with p words s) (accounts_with p words (given_up s)) (is_member_of s (length s.sets - 1))
set_release p words s = record {
  words = λ weight. refl;
  logs = record { writes = λ weight. refl; births = λ weight. refl; snapshots = λ weight. refl };
  registers = λ weight. refl;
  epochs = record { fields = refl; applied = refl; requested = refl };
  count = λ x _. (member_slot x).0;
  free = λ x _. refl;
  released = λ x _. (member_slot x).1;
  leaf = λ x _. refl;
}
  where
    number : ℕ
    number = length s.sets - 1

    flag : (b : Bool) (v : Slot) → (dead_if b (unbuffered_if b v)).released ≡ (if b then true else v.released)
    flag true v = refl
    flag false v = refl

    member_slot : (x : ℕ) → ((slot_in (given_up s) x).count ≡ (slot_in s x).count) × ((slot_in (given_up s) x).released ≡ with_members (λ y. (slot_in s y).released) (is_member_of s number) x)
    member_slot x = elim (cases_lt (x - 1) (length s.slots)) [
      | inl below ↦
          let old : slot_in s x ≡ slot_at s (x - 1) = slot_here s x below in
          let new : slot_in (given_up s) x ≡ slot_at (given_up s) (x - 1) = slot_here (given_up s) x (omega (arith, below, given_many s)) in (
            ap (λ (v : Slot). v.count) new ∙ given_count s (x - 1) ∙ ap (λ (v : Slot). v.count) (sym old),
            ap (λ (v : Slot). v.released) new ∙ ap (λ (v : Slot). v.released) (given_slot s (x - 1)) ∙ flag (is_in number (slot_at s (x - 1)).set) (slot_at s (x - 1))
                ∙ ap (λ (v : Slot). if is_in number (slot_at s (x - 1)).set then true else v.released) (sym old),
          )
      | inr past ↦
          let old : slot_in s x ≡ fresh = slot_past s x past in
          let new : slot_in (given_up s) x ≡ fresh = slot_past (given_up s) x (omega (arith, past, given_many s)) in
          let none : slot_at s (x - 1) ≡ absent = get_or_past s.slots (x - 1) absent past in (
            ap (λ (v : Slot). v.count) (new ∙ sym old),
            ap (λ (v : Slot). v.released) new ∙ ap (λ (v : Slot). v.released) (sym old) ∙ ap (λ (v : Slot). if is_in number v.set then true else (slot_in s x).released) (sym none),
          )
    ]

-- Where the counts count and release alike, no member is given up.
pub none_release : (p : Pending) (words : List ℕ) (s t : State) → ((node : ℕ) → ((slot_in t node).count ≡ (slot_in s node).count) × ((slot_in t node).released ≡ (slot_in s node).released))
    → ReleasesSet (accounts_with p words s) (accounts_with p words t) (λ node. false)
none_release p words s t same = record {
  words = λ weight. refl;
  logs = record { writes = λ weight. refl; births = λ weight. refl; snapshots = λ weight. refl };
  registers = λ weight. refl;
  epochs = record { fields = refl; applied = refl; requested = refl };
  count = λ x _. (same x).0;
  free = λ x _. refl;
  released = λ x _. (same x).1;
  leaf = λ x _. refl;
}

-- counts with the same slots give the same accounts
pub slots_accounts : (p : Pending) (words : List ℕ) (s t : State) → t.slots ≡ s.slots → accounts_with p words t ≡ accounts_with p words s
slots_accounts p words s t same = ap (λ (slots : List Slot). let q : Pending = record p { words = words; count = λ node. (slice_index_or slots (node - 1) fresh).count; released = λ node. (slice_index_or slots (node - 1) fresh).released } in q) same

-- what goes to the free list counts as before
pub emptied_alike : (s : State) (x : ℕ) → (emptied s x).slots ≡ s.slots
emptied_alike s x = go (slot_at s x).buffered
  where
    go : (b : Bool) → (listed_if b s x).slots ≡ s.slots
    go true = refl
    go false = refl

-- a sum in which nothing counts, place by place
none_at : {X : Type 0} (f : ℕ → X → ℕ) (xs : List X) (d : X) → ((i : ℕ) → i < length xs → f i (slice_index_or xs i d) ≡ 0) → sum_at f xs ≡ 0
none_at f [] d none = refl
none_at f (x ∷ xs) d none =
    let first : f 0 x ≡ 0 = none 0 (omega arith) in
    let rest : sum_at (λ i. f (suc i)) xs ≡ 0 = none_at (λ i. f (suc i)) xs d (λ i below. none (suc i) (omega arith)) in
    omega arith

-- the fields of an emptied slot lead nowhere
pub emptied_leads : (words : List ℕ) (fields slot : ℕ) → 0 < fields → ((f : ℕ) → f < fields → slice_index_or words (place_of slot f fields) 0 ≡ 0) → sum_at (leads_out_of fields (slot + 1)) words ≡ 0
emptied_leads words fields slot some none = none_at (leads_out_of fields (slot + 1)) words 0 (λ i below. elim (cases_eq (slot + 1) (home fields i)) [
  | inl own ↦
      let f : ℕ = i % fields in
      let row : i / fields ≡ slot = omega arith in
      let within : f < fields = mod-lt i some in
      let place : i ≡ place_of slot f fields = sym (div-add-mod i fields) ∙ ap (λ n. fields * n + f) row ∙ ap (λ n. n + f) (mul_comm fields slot) in
      let word : slice_index_or words i 0 ≡ 0 = ap (λ n. slice_index_or words n 0) place ∙ none f within in
      let node : node_of (slice_index_or words i 0) ≡ 0 = ap node_of word ∙ node_of_null in
      ap (λ n. only_if (slot + 1 == home fields i) (only_if (nat_lt 0 n) 1)) node ∙ both (slot + 1 == home fields i)
  | inr other ↦ ap (λ b. only_if b (only_if (nat_lt 0 (node_of (slice_index_or words i 0))) 1)) (ne_eqb (slot + 1) (home fields i) other)
])
  where
    both : (b : Bool) → only_if b (only_if (nat_lt 0 0) 1) ≡ 0
    both true = refl
    both false = refl
