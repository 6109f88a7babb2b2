-- What a batch adds: each word that it puts stands or was replaced, and its field is that of a taken slot.
use Rattle.std.proofs.Common.{◌≡◌, ◌≢◌, inl, inr, ℕ, zero, suc, ◌-◌, ◌<◌, ◌≤◌, ◌/◌, ◌==◌, Bool, true, if◌then◌else◌, List, [], ◌∷◌, length, slice_index_or, refl, sym, ap, ◌∙◌, arith}
use Rattle.std.specs.List.{Contains, sum_by}
use Rattle.std.proofs.lemmas.Bool.{cases_eq, cases_lt, eq-eqb}
use Rattle.std.proofs.lemmas.Bool.Decides.{nat_tests}
use Rattle.std.proofs.lemmas.List.Sums.{get_or-le-sum_by, sum_by-cons, sum_by-le-sum_by}
use Rattle.rec_core.proofs.Common.{only_if, epoch_of, sum_at, home, Write, Contents, Entry, blank, buffer_at, Core, IsKept, writes_in, pending}
use Rattle.rec_log.specs.declared.entry.Entry.TheVariants as entries
use Rattle.rec_model.specs.Accounted.{late, put_late, replaced_late, touches}
use Rattle.rec_model.specs.References.{IsInReach}
use Rattle.rec_model.proofs.Naming.{dead_out_of_reach}
use Rattle.rec_core.specs.Pending.{writes_of}
use Rattle.rec_audit.proofs.Journalled.{StandsIn, applied_in}
use Rattle.rec_audit.proofs.Lasting.{Lasts, closes, wrote, writes_sum}

-- an entry's write weighs no more than all
entry_weighs : (g : Write → ℕ) (es : List Entry) (place new old : ℕ) → Contains es (entries.Put place new old) → g (record { place = place; new = new; old = old }) ≤ sum_by g (writes_in es)
entry_weighs g [] place new old c = absurd (let below = c.1 in omega arith)
entry_weighs g (entries.Put p n o ∷ es) place new old (zero, below, there) =
    let first : Write = record { place = p; new = n; old = o } in
    let its : Entry → Write = λ e. write_of first e in
    let same : g first ≡ g (record { place = place; new = new; old = old }) = ap (λ e. g (its e)) there in
    omega (arith, same, sum_by-cons g first (writes_in es))
  where
    write_of : Write → Entry → Write
    write_of d (entries.Put a b c) = record { place = a; new = b; old = c }
    write_of d (entries.Born s l) = d
entry_weighs g (entries.Put p n o ∷ es) place new old (suc k, below, there) = omega (arith, sum_by-cons g (record { place = p; new = n; old = o }) (writes_in es), entry_weighs g es place new old (k, omega arith, there))
entry_weighs g (entries.Born slot leaf ∷ es) place new old (zero, below, there) = absurd (cc)
entry_weighs g (entries.Born slot leaf ∷ es) place new old (suc k, below, there) = entry_weighs g es place new old (k, omega arith, there)

pub row_weighs : (g : Write → ℕ) (row : List Contents) (place new old : ℕ) → StandsIn row (entries.Put place new old) → g (record { place = place; new = new; old = old }) ≤ sum_by (wrote g) row
row_weighs g row place new old (i, below, c) = omega (arith, entry_weighs g (buffer_at row i).entries place new old c, get_or-le-sum_by (wrote g) row i (blank 0 0) below)

-- so does one in the collector's newer buffers
pub newer_weighs : (g : Write → ℕ) (w : Core) (place new old : ℕ) → StandsIn w.collector.newer (entries.Put place new old) → g (record { place = place; new = new; old = old }) ≤ sum_by g (writes_of w)
newer_weighs g w place new old c = omega (arith, row_weighs g w.collector.newer place new old c, writes_sum g w)

-- each weighs nothing where it stands
none_at : (f : ℕ → ℕ → ℕ) (xs : List ℕ) → ((i : ℕ) → i < length xs → f i (slice_index_or xs i 0) ≡ 0) → sum_at f xs ≡ 0
none_at f [] none = refl
none_at f (x ∷ xs) none =
    let first : f 0 x ≡ 0 = none 0 (omega arith) in
    omega (arith, first, none_at (λ i. f (suc i)) xs (λ i below. none (suc i) (omega arith)))

-- A word that was put after the last batch stands in its field, or was replaced from its epoch on.
pub put_lasts : (w : Core) (place new old : ℕ) → IsKept true w → StandsIn w.collector.newer (entries.Put place new old) → applied_in w < epoch_of new → Lasts w [] (record { place = place; word = new; epoch = applied_in w })
put_lasts w place new old kept stands after = elim (cases_lt 0 (sum_by (closes (record { place = place; word = new; epoch = applied_in w })) (writes_of w))) [
  | inl replaced ↦ inr (inl replaced)
  | inr none ↦ inl (elim (cases_eq (slice_index_or w.words place 0) new) [
    | inl same ↦ same
    | inr other ↦ absurd (omega (
      arith,
      kept.accounted.late weight,
      newer_weighs (put_late (applied_in w) weight) w place new old stands,
      one (applied_in w) place new old after,
      none,
      sum_by-le-sum_by (replaced_late (applied_in w) weight) (closes (record { place = place; word = new; epoch = applied_in w })) (writes_of w) (λ x. less (applied_in w) place new x),
      none_at (late (applied_in w) weight) w.words (λ i below. elsewhere (applied_in w) place new i (slice_index_or w.words i 0) (λ at same. other (ap (λ n. slice_index_or w.words n 0) at ∙ sym same))),
    ))
  ])
]
  where
    weight : ℕ → ℕ → ℕ
    weight q word = only_if (place == q) (only_if (new == word) 1)

    one : (epoch place new old : ℕ) → epoch < epoch_of new → put_late epoch (λ q word. only_if (place == q) (only_if (new == word) 1)) (record { place = place; new = new; old = old }) ≡ 1
    one epoch place new old after = grind (arith, nat_tests)

    less : (epoch place new : ℕ) (x : Write) → replaced_late epoch (λ q word. only_if (place == q) (only_if (new == word) 1)) x ≤ closes (record { place = place; word = new; epoch = epoch }) x
    less epoch place new x = grind (arith, nat_tests)

    elsewhere : (epoch place new q word : ℕ) → (place ≡ q → new ≡ word → ⊥) → late epoch (λ q word. only_if (place == q) (only_if (new == word) 1)) q word ≡ 0
    elsewhere epoch place new q word other = elim (cases_eq place q) [
      | inl at ↦ (let apart : new ≢ word = λ same. other at same in grind (arith, nat_tests))
      | inr apart ↦ grind (arith, nat_tests)
    ]

-- The slot that has a field which was written after the last batch is taken.
pub home_taken : (w : Core) (place new old : ℕ) → IsKept true w → StandsIn w.collector.newer (entries.Put place new old) → applied_in w < epoch_of new → 0 < slice_index_or w.headers (place / w.config.fields) 0
home_taken w place new old kept stands after = elim (cases_lt 0 (slice_index_or w.headers (place / w.config.fields) 0)) [
  | inl taken ↦ taken
  | inr none ↦
      let node : ℕ = home w.config.fields place in
      let touched : 1 ≤ sum_by (touches w.config.fields (applied_in w) node) (writes_of w) = omega (arith, newer_weighs (touches w.config.fields (applied_in w) node) w place new old stands, touch w.config.fields (applied_in w) place new old after) in
      let reached : IsInReach (pending w) (applied_in w) node = kept.accounted.held (applied_in w) (omega arith) kept.accounted.epochs.behind node (omega arith) (omega (arith, touched)) in
      let at : node - 1 ≡ place / w.config.fields = omega arith in
      let free : (pending w).free node ≡ true = ap (λ n. slice_index_or w.headers n 0 == 0) at ∙ eq-eqb (slice_index_or w.headers (place / w.config.fields) 0) 0 (omega (arith, none)) in
      absurd (dead_out_of_reach (pending w) (applied_in w) (omega arith) kept.accounted.unnamed node reached (ap (λ (b : Bool). if b then true else (pending w).released node) free))
]
  where
    touch : (fields epoch place new old : ℕ) → epoch < epoch_of new → 1 ≤ touches fields epoch (home fields place) (record { place = place; new = new; old = old })
    touch fields epoch place new old after = grind (arith, nat_tests)
