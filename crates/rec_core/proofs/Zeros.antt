-- Where nothing is at work any more, the first of the zeros is released, and the tests go on.
use Rattle.std.proofs.Common.{◌≡◌, ◌⊎◌, inl, inr, Option, None, Some, ℕ, ◌+◌, ◌-◌, ◌*◌, ◌/◌, ◌%◌, ◌<◌, Bool, true, List, [], ◌∷◌, length, slice_index_or, refl, sym, ap, subst, ◌∙◌, arith}
use Rattle.std.proofs.Math.Nat.{mod-lt, div-add-mod, mul_comm}
use Rattle.std.proofs.lemmas.Nat.{div_below}
use Rattle.std.proofs.lemmas.Bool.{cases_eq}
use Rattle.rec_model.proofs.Ledgers.{node_of_null}
use Rattle.rec_counts.specs.Counts.{IsKept as IsKeptCounts}
use Rattle.rec_release.specs.Release.{started_of}
use Rattle.rec_release.proofs.Keeping.{each_next, emptied_sets, first_length, first_zero, ready_first, ready_gone, released_same, FirstZero}
use Rattle.rec_collector.proofs.Greens.{first_greens}
use Rattle.rec_collector.proofs.Clearing.{Clears}
use Rattle.rec_release.proofs.Kept.{emptied_kept, first_kept}
use Rattle.rec_core.proofs.Counts.{accounts_with, counted_slot, emptied_alike, releases, slots_accounts}
use Rattle.rec_core.proofs.CyclesLess.{less_listed, less_without_first}
use Rattle.rec_core.proofs.CyclesTest.{sets_test_less, sets_test_stepped}
use Rattle.rec_core.proofs.Landed.{landed_pending, begun_freeing, begun_release, HasLanded, HasCleared}
use Rattle.std.proofs.lemmas.List.{get_or-replicate}
use Rattle.rec_core.proofs.Common.{place_of, IsAccounted, HasUncountedReleased, AccountMove, node_of, Pending, emptied_uncounted, move_uncounted, move_accounted, Sight, word_in, is_green, State, slot_at, times, absent, Slot, times-cons, one-same, unreleased_within, At, IsReady, emptied, without_first, Parts, Begun, releasing_at, zeros_released, Phase, next_begun, still, with_counts, Core, sight, SetsTest, IsLeft, pending}

-- Where a collection has come to while slots are released and sets tested, but for what its machines know of the counts.
pub record HasCome (w : Core) (crossing words : List ℕ) (b : Begun) : Type 0 where
  pub landed : HasLanded w crossing words b
  pub tests : SetsTest (landed_pending w words b.parts.counts) b.parts.counts

pub cleared : {w : Core} {crossing words : List ℕ} {b : Begun} {n : ℕ} → HasCome w crossing words b → Clears b n → HasCleared w crossing words b
cleared {n = n} h clears = record { landed = h.landed; exchanged = n; clears = clears; tests = h.tests }

-- the fields of released slots are empty
abbrev pub AreEmpty : (slots fields : ℕ) → (words : List ℕ) → State → Type 0
AreEmpty slots fields words s = (x f : ℕ) → x < slots → f < fields → (slot_at s x).released ≡ true → slice_index_or words (place_of x f fields) 0 ≡ 0

-- so they are where nothing is at work
pub landed_empty : {w : Core} {crossing words : List ℕ} {v : Parts} → HasLanded w crossing words (still v) → AreEmpty w.config.slots w.config.fields words v.counts
landed_empty l x f below within released = elim (l.emptied x f below within released) [
  | inl left ↦ absurd left
  | inr rest ↦ elim rest [ inl left ↦ absurd left | inr none ↦ none ]
]

-- the fields of a leaf are empty
pub leaf_empty : {w : Core} {crossing words : List ℕ} {b : Begun} → HasLanded w crossing words b → (x f : ℕ) → f < w.config.fields → is_green (slot_at b.parts.counts x).colour ≡ true → slice_index_or words (place_of x f w.config.fields) 0 ≡ 0
leaf_empty {w} {crossing} {words} l x f within green =
    let seen : Sight = sight (record w { words = words }) in
    sym (word_in seen x f within) ∙ ap (λ ws. slice_index_or ws f 0) (l.sound.leaves x (l.greens x green)) ∙ get_or-replicate w.config.fields f 0 0 within

-- where all fields of released slots are empty, none of these slots is counted
pub empty_uncounted : (p : Pending) (words : List ℕ) (slots : ℕ) (s : State) → 0 < p.fields → length s.slots ≡ slots → length words ≡ slots * p.fields → AreEmpty slots p.fields words s
    → IsAccounted (accounts_with p words s) → HasUncountedReleased (accounts_with p words s)
empty_uncounted p words slots s wide many places empty accounted = emptied_uncounted (accounts_with p words s) accounted (λ place inside released.
    let x : ℕ = place / p.fields in
    let f : ℕ = place % p.fields in
    let there : x < slots = div_below place p.fields slots wide (omega (arith, inside, places)) in
    let at : place ≡ place_of x f p.fields = sym (div-add-mod place p.fields) ∙ ap (λ n. n + f) (mul_comm p.fields x) in
    let is : (slot_at s x).released ≡ true = sym (ap (λ (v : Slot). v.released) (counted_slot s x (omega (arith, there, many)))) ∙ released in
    ap (λ n. node_of (slice_index_or words n 0)) at ∙ ap node_of (empty x f there (mod-lt place wide) is) ∙ node_of_null)

-- what is known where the first of these zeros is released
record IsReleased (p : Pending) (words : List ℕ) (s t : State) : Type 0 where
  pub accounted : IsAccounted (accounts_with p words t)
  pub uncounted : HasUncountedReleased (accounts_with p words t)
  pub tests : SetsTest (accounts_with p words s) s → SetsTest (accounts_with p words t) t

next_released : (p : Pending) (words : List ℕ) (s : State) (zs : List ℕ) → s.zeros ≡ zs → p.applied + 1 ≡ p.requested → IsReady s
    → IsAccounted (accounts_with p words s) → HasUncountedReleased (accounts_with p words s) → IsReleased p words s (without_first zs s)
next_released p words s [] is done ready accounted uncounted = record { accounted = accounted; uncounted = uncounted; tests = λ h. h }
next_released p words s (z ∷ zs) is done ready accounted uncounted =
    let there : 0 < times z s.zeros = omega (arith, ap (times z) is, times-cons z z zs, one-same z) in
    let rule = releases p words s z zs done (unreleased_within s z (ready.zeros.unreleased z there)) (ready.zeros.none z there) in
    record {
      accounted = move_accounted (AccountMove.release rule) accounted;
      uncounted = move_uncounted (AccountMove.release rule) accounted uncounted;
      tests = λ h. sets_test_stepped s (without_first (z ∷ zs) s) (AccountMove.release rule) tt (less_without_first (z ∷ zs) s) accounted h;
    }

-- an object has a field
pub some_fields : {w : Core} {crossing words : List ℕ} {b : Begun} → HasLanded w crossing words b → 0 < w.config.fields
some_fields l = omega (arith, l.kept.collector.machine.some_fields, l.kept.collector.fields)

-- the collection is of the second epoch at least
some_epochs : {w : Core} {crossing words : List ℕ} {b : Begun} → HasLanded w crossing words b → w.epoch - 1 + 1 ≡ w.epoch
some_epochs l = omega (arith, l.kept.config.some_epoch, l.kept.collector.begun, l.way)

-- The first of the zeros is released, and this is begun: its fields are to be emptied, or are empty.
first_come : {w : Core} {crossing words : List ℕ} {v : Parts} (z : ℕ) (zs : List ℕ) (begun : Option Phase) → v.counts.zeros ≡ z ∷ zs → HasCome w crossing words (still v) → IsReady v.counts → begun_freeing begun ≡ None
    → ((f : ℕ) → f < w.config.fields → IsLeft (begun_release begun) z f ⊎ (slice_index_or words (place_of z f w.config.fields) 0 ≡ 0))
    → HasCome w crossing words (record { parts = with_counts v (without_first (z ∷ zs) v.counts); phase = begun })
first_come {w} {crossing} {words} {v} z zs begun is h ready unfreed left =
    let s : State = v.counts in
    let t : State = without_first (z ∷ zs) s in
    let l = h.landed in
    let next = next_released (record (pending w) { applied = w.epoch - 1 }) words s (z ∷ zs) is (some_epochs l) ready l.accounted (l.uncounted refl) in
    record {
      landed = record {
        stands = l.stands;
        kept = l.kept;
        way = l.way;
        still = l.still;
        older = l.older;
        mutators = l.mutators;
        accounted = next.accounted;
        uncounted = λ _. next.uncounted;
        sound = l.sound;
        greens = λ x green. l.greens x (first_greens s z zs x green);
        many_words = l.many_words;
        slots = first_length (z ∷ zs) s ∙ l.slots;
        fields = l.fields;
        policy = l.policy;
        counts = first_kept (z ∷ zs) s is l.counts;
        listed = (ready_first s z zs is ready).free;
        emptied = λ x f below within released. elim (cases_eq x z) [
          | inl same ↦ elim (subst (λ n. IsLeft (begun_release begun) n f ⊎ (slice_index_or words (place_of n f w.config.fields) 0 ≡ 0)) (sym same) (left f within)) [ inl due ↦ inl due | inr none ↦ inr (inr none) ]
          | inr other ↦ inr (inr (landed_empty l x f below within (sym (released_same s z x other) ∙ released)))
        ];
      };
      tests = next.tests h.tests;
    }

-- Slots that are released went to the free list.
pub listed_come : {w : Core} {crossing words : List ℕ} {v : Parts} (t : State) → HasCome w crossing words (still v) → t.slots ≡ v.counts.slots → t.sets ≡ v.counts.sets
    → ((x : ℕ) → 0 < times x t.free → (slot_at t x).released ≡ true) → IsKeptCounts t → HasCome w crossing words (still (record v { counts = t }))
listed_come {w} {crossing} {words} {v} t h slots sets listed kept =
    let l = h.landed in
    let s : State = v.counts in
    let same : landed_pending w words t ≡ landed_pending w words s = slots_accounts (record (pending w) { applied = w.epoch - 1 }) words s t slots in
    record {
      landed = record {
        stands = l.stands;
        kept = l.kept;
        way = l.way;
        still = l.still;
        older = l.older;
        mutators = l.mutators;
        accounted = subst IsAccounted (sym same) l.accounted;
        uncounted = λ none. subst HasUncountedReleased (sym same) (l.uncounted refl);
        sound = l.sound;
        greens = λ x green. l.greens x (ap (λ (vs : List Slot). is_green (slice_index_or vs x absent).colour) (sym slots) ∙ green);
        many_words = l.many_words;
        slots = ap length slots ∙ l.slots;
        fields = l.fields;
        policy = l.policy;
        counts = kept;
        listed = listed;
        emptied = λ x f below within released. inr (inr (landed_empty l x f below within (ap (λ (vs : List Slot). (slice_index_or vs x absent).released) (sym slots) ∙ released)));
      };
      tests = sets_test_less (landed_pending w words t) s t (less_listed s t slots sets) (subst (λ q. SetsTest q s) (sym same) h.tests);
    }

-- what a release begins with this field
abbrev begun_at : (fields : ℕ) (lowers : Bool) → Option At → Option Phase
begun_at fields lowers at = releasing_at (record { fields = fields; at = at; lowers = lowers }) at

-- The zeros are released up to the first that isn't Green: each Green one is empty at once.
pub next_come : {w : Core} {crossing words : List ℕ} {v : Parts} (fields : ℕ) (lowers : Bool) → HasCome w crossing words (still v) → IsReady v.counts → HasCome w crossing words (next_begun fields lowers v)
next_come {w} {crossing} {words} {v} fields lowers h ready =
    each_next (λ at u. HasCome w crossing words (record { parts = with_counts v u; phase = begun_at fields lowers at }))
    (λ u z zs is r green c.
    let first : FirstZero u z zs = first_zero u z zs is r in
    let t : State = without_first (z ∷ zs) u in
    let came : HasCome w crossing words (still (with_counts v t)) = first_come z zs None is c r refl (λ f within. inr (leaf_empty c.landed z f within green)) in
    let gone : IsReady (emptied t z) = ready_gone u z zs is r in
    let many : length t.slots ≡ length u.slots = first_length (z ∷ zs) u in
    listed_come (emptied t z) came (emptied_alike t z) (emptied_sets t z) gone.free (emptied_kept t z (omega (arith, first.in_range, many)) first.unlisted came.landed.counts))
    (λ u z zs is r other c. first_come z zs (begun_at fields lowers (Some (record { slot = z; field = 0 }))) is c r refl (λ f within. inl (refl, omega arith)))
    v.counts.zeros v.counts refl ready h

pub zeros_come : {w : Core} {crossing words : List ℕ} {v : Parts} (lowers : Bool) → HasCome w crossing words (still v) → IsReady v.counts → HasCome w crossing words (zeros_released lowers v)
unfolding started_of
zeros_come {v = v} lowers h ready = next_come v.fields lowers h ready
