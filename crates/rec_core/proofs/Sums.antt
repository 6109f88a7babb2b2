-- Sums over the buffers and the registers of a heap, where one mutator and its mailbox change.
use Rattle.std.proofs.Common.{◌≡◌, inl, inr, ℕ, zero, suc, ◌+◌, ◌-◌, ◌<◌, ◌≤◌, if◌then◌else◌, List, [], ◌∷◌, ◌++◌, Option, None, Some, length, map, slice_index_or, slice_set, refl, sym, ap, ◌∙◌, arith, Bool, true, false}
use Rattle.std.specs.List.{sum_by, flat_map, zip}
use Rattle.std.proofs.lemmas.Bool.{cases_lt}
use Rattle.std.proofs.lemmas.List.{set-get_or}
use Rattle.std.proofs.lemmas.List.Sums.{sum_by-append, sum_by-cons, sum_by-set}
use Rattle.rec_core.proofs.Common.{Write, Dated, dated, dated_birth, sum_by-flat_map, sum_by-map, Contents, Entry, Private, blank, Core, mutator, box, nobody, Filed, filed, filed_box, code, writes_in, births_in, dated_names, dated_all, dated_registers, has_let_go, older_at, epoch_at, buffers}
use Rattle.rec_log.specs.declared.entry.Entry.TheVariants as entries

-- a sum that isn't zero has an element that isn't
pub some_of : {X : Type 0} (f : X → ℕ) (xs : List X) (d : X) → 0 < sum_by f xs → (i : ℕ) × (i < length xs) × (0 < f (slice_index_or xs i d))
some_of f [] d some = absurd (omega (arith, some))
some_of f (x ∷ xs) d some = elim (cases_lt 0 (f x)) [
  | inl here ↦ (0, omega arith, here)
  | inr none ↦ let rest = some_of f xs d (omega (arith, some, none, sum_by-cons f x xs)) in (suc rest.0, omega (arith, rest.1), rest.2)
]

-- Two rows side by side.
module _ {X Y : Type 0} where
  -- one place of the first changes, to what is worth the same
  pub zip-first_same : {Z : Type 0} (f : X × Y → Z) (xs : List X) (ys : List Y) (i : ℕ) (x d : X) → ((y : Y) → f (x, y) ≡ f (slice_index_or xs i d, y)) → map f (zip (slice_set xs i x) ys) ≡ map f (zip xs ys)
  zip-first_same f [] ys i x d same = refl
  zip-first_same f (first ∷ xs) [] zero x d same = refl
  zip-first_same f (first ∷ xs) [] (suc i) x d same = refl
  zip-first_same f (first ∷ xs) (second ∷ ys) zero x d same = ap (λ zs. zs ∷ map f (zip xs ys)) (same second)
  zip-first_same f (first ∷ xs) (second ∷ ys) (suc i) x d same = ap (λ zs. f (first, second) ∷ zs) (zip-first_same f xs ys i x d same)

  module _ (f : X × Y → ℕ) where
    pub zip_sum-first_same : (xs : List X) (ys : List Y) (i : ℕ) (x d : X) → ((y : Y) → f (x, y) ≡ f (slice_index_or xs i d, y)) → sum_by f (zip (slice_set xs i x) ys) ≡ sum_by f (zip xs ys)
    zip_sum-first_same xs ys i x d same = sym (sum_by-map (λ n. n) f (zip (slice_set xs i x) ys)) ∙ ap (sum_by (λ n. n)) (zip-first_same f xs ys i x d same) ∙ sum_by-map (λ n. n) f (zip xs ys)

    -- one place of both changes
    pub zip_sum-set : (xs : List X) (ys : List Y) (i : ℕ) (x d : X) (y e : Y) → i < length xs → i < length ys
        → sum_by f (zip (slice_set xs i x) (slice_set ys i y)) + f (slice_index_or xs i d, slice_index_or ys i e) ≡ sum_by f (zip xs ys) + f (x, y)
    zip_sum-set [] ys i x d y e there here = absurd (omega arith)
    zip_sum-set (first ∷ xs) [] i x d y e there here = absurd (omega arith)
    zip_sum-set (first ∷ xs) (second ∷ ys) zero x d y e there here = omega (arith, sum_by-cons f (x, y) (zip xs ys), sum_by-cons f (first, second) (zip xs ys))
    zip_sum-set (first ∷ xs) (second ∷ ys) (suc i) x d y e there here = omega (
      arith,
      sum_by-cons f (first, second) (zip (slice_set xs i x) (slice_set ys i y)),
      sum_by-cons f (first, second) (zip xs ys),
      zip_sum-set xs ys i x d y e (omega arith) (omega arith),
    )

    -- or of the second alone
    pub zip_sum-set_second : (xs : List X) (ys : List Y) (i : ℕ) (d : X) (y e : Y) → i < length xs → i < length ys
        → sum_by f (zip xs (slice_set ys i y)) + f (slice_index_or xs i d, slice_index_or ys i e) ≡ sum_by f (zip xs ys) + f (slice_index_or xs i d, y)
    zip_sum-set_second xs ys i d y e there here = omega (arith, zip_sum-set xs ys i (slice_index_or xs i d) d y e there here, ap (λ zs. sum_by f (zip zs (slice_set ys i y))) (set-get_or xs i d))

    -- no place is worth anything
    pub zip_sum-none : (xs : List X) (ys : List Y) (d : X) (e : Y) → ((i : ℕ) → i < length xs → i < length ys → f (slice_index_or xs i d, slice_index_or ys i e) ≡ 0) → sum_by f (zip xs ys) ≡ 0
    zip_sum-none [] ys d e none = refl
    zip_sum-none (first ∷ xs) [] d e none = refl
    zip_sum-none (first ∷ xs) (second ∷ ys) d e none = omega (
      arith,
      sum_by-cons f (first, second) (zip xs ys),
      none 0 (omega arith) (omega arith),
      zip_sum-none xs ys d e (λ i there here. none (suc i) (omega arith) (omega arith)),
    )

-- what a buffer adds to a sum, by its epoch
abbrev pub share : {Y : Type 0} → (Y → ℕ) → (Filed → List Y) → (epoch : ℕ) → Contents → ℕ
share g f epoch b = sum_by g (f (filed epoch b))

-- what a mutator's log adds to a sum
abbrev pub log_share : {Y : Type 0} → (Y → ℕ) → (Filed → List Y) → Private → ℕ
log_share g f p = share g f (epoch_at p) p.log

-- what its mailbox adds
abbrev pub box_share : {Y : Type 0} → (Y → ℕ) → (Filed → List Y) → Private × Contents → ℕ
box_share g f own = share g f (epoch_at own.0 - 1) own.1

-- the sum over a row of buffers
row_sum : {X Y : Type 0} (g : Y → ℕ) (f : Filed → List Y) (file : X → Filed) (row : List X) → sum_by g (flat_map f (map file row)) ≡ sum_by (λ x. sum_by g (f (file x))) row
row_sum g f file row = sum_by-flat_map g f (map file row) ∙ sum_by-map (λ (b : Filed). sum_by g (f b)) file row

flat_map-append : {X Y : Type 0} (g : Y → ℕ) (f : X → List Y) (xs ys : List X) → sum_by g (flat_map f (xs ++ ys)) ≡ sum_by g (flat_map f xs) + sum_by g (flat_map f ys)
flat_map-append g f xs ys = omega (arith, sum_by-flat_map g f (xs ++ ys), sum_by-append (λ x. sum_by g (f x)) xs ys, sum_by-flat_map g f xs, sum_by-flat_map g f ys)

-- the sum over all buffers, row by row
pub buffers_sum : {Y : Type 0} (g : Y → ℕ) (f : Filed → List Y) (w : Core) → sum_by g (flat_map f (buffers w))
    ≡ sum_by (log_share g f) w.mutators + (sum_by (box_share g f) (zip w.mutators w.boxes) + (sum_by (share g f (w.epoch - 1)) w.collector.newer + sum_by (share g f (older_at w.epoch w.collector.phase)) w.collector.older))
buffers_sum g f w =
    let log_of : Private → Filed = λ p. filed (epoch_at p) p.log in
    let logs : List Filed = map log_of w.mutators in
    let boxes : List Filed = map filed_box (zip w.mutators w.boxes) in
    let newer : List Filed = map (filed (w.epoch - 1)) w.collector.newer in
    let older : List Filed = map (filed (older_at w.epoch w.collector.phase)) w.collector.older in
    omega (
      arith,
      flat_map-append g f logs (boxes ++ (newer ++ older)),
      flat_map-append g f boxes (newer ++ older),
      flat_map-append g f newer older,
      row_sum g f log_of w.mutators,
      row_sum g f filed_box (zip w.mutators w.boxes),
      row_sum g f (filed (w.epoch - 1)) w.collector.newer,
      row_sum g f (filed (older_at w.epoch w.collector.phase)) w.collector.older,
    )

-- with this mutator and this in its mailbox
abbrev with_own : Core → (t : ℕ) → Private → Contents → Core
with_own w t q b = record w { mutators = slice_set w.mutators (t - 1) q; boxes = slice_set w.boxes (t - 1) b }

-- what a change of one mutator and its mailbox does to a sum over all buffers
pub own_sum : {Y : Type 0} (g : Y → ℕ) (f : Filed → List Y) (w : Core) (t : ℕ) (q : Private) (b : Contents) → t - 1 < length w.mutators → t - 1 < length w.boxes
    → sum_by g (flat_map f (buffers (with_own w t q b))) + (log_share g f (mutator w t) + share g f (epoch_at (mutator w t) - 1) (box w t)) ≡ sum_by g (flat_map f (buffers w)) + (log_share g f q + share g f (epoch_at q - 1) b)
own_sum g f w t q b there boxed = omega (
  arith,
  buffers_sum g f (with_own w t q b),
  buffers_sum g f w,
  sum_by-set (log_share g f) w.mutators (t - 1) q nobody there,
  zip_sum-set (box_share g f) w.mutators w.boxes (t - 1) q nobody b (blank 0 0) there boxed,
)

-- and to a sum over the registers
pub registers_sum : (g : Dated → ℕ) (ps : List Private) (i : ℕ) (q : Private) → i < length ps
    → sum_by g (flat_map dated_registers (slice_set ps i q)) + sum_by g (dated_registers (slice_index_or ps i nobody)) ≡ sum_by g (flat_map dated_registers ps) + sum_by g (dated_registers q)
registers_sum g ps i q there = omega (
  arith,
  sum_by-flat_map g dated_registers (slice_set ps i q),
  sum_by-flat_map g dated_registers ps,
  sum_by-set (λ (p : Private). sum_by g (dated_registers p)) ps i q nobody there,
)

-- a mutator that holds its registers dates each of them
pub dated_held : (p : Private) → has_let_go p ≡ false → dated_registers p ≡ dated_all (epoch_at p) p.registers
dated_held p held = ap (λ (gone : Bool). if gone then [] else dated_all (epoch_at p) p.registers) held

-- one that has let go dates none
pub dated_gone : (p : Private) → has_let_go p ≡ true → dated_registers p ≡ []
dated_gone p gone = ap (λ (x : Bool). if x then [] else dated_all (epoch_at p) p.registers) gone

-- one that holds them dates them so where the epoch and the registers are these
pub dated_as : (q : Private) (epoch : ℕ) (registers : List (Option ℕ)) → has_let_go q ≡ false → epoch_at q ≡ epoch → q.registers ≡ registers → dated_registers q ≡ dated_all epoch registers
dated_as q epoch registers held at are = dated_held q held ∙ ap (λ (n : ℕ). dated_all n q.registers) at ∙ ap (dated_all epoch) are

-- no mutator dates more than its registers
pub dated_most : (g : Dated → ℕ) (p : Private) → sum_by g (dated_registers p) ≤ sum_by g (dated_all (epoch_at p) p.registers)
dated_most g p = go (has_let_go p)
  where
    go : (gone : Bool) → sum_by g (if gone then [] else dated_all (epoch_at p) p.registers) ≤ sum_by g (dated_all (epoch_at p) p.registers)
    go true = omega arith
    go false = omega arith

-- what a mutator dates stays, where its epoch, its registers and whether it holds them do
pub dated_same : (p q : Private) → has_let_go q ≡ has_let_go p → epoch_at q ≡ epoch_at p → q.registers ≡ p.registers → dated_registers q ≡ dated_registers p
dated_same p q held epoch registers =
    ap (λ (gone : Bool). if gone then [] else dated_all (epoch_at q) q.registers) held
    ∙ ap (λ (n : ℕ). if has_let_go p then [] else dated_all n q.registers) epoch
    ∙ ap (λ (rs : List (Option ℕ)). if has_let_go p then [] else dated_all (epoch_at p) rs) registers

-- one register more or less
pub register_sum : (g : Dated → ℕ) (epoch : ℕ) (rs : List (Option ℕ)) (r : ℕ) (x : Option ℕ) → r < length rs
    → sum_by g (dated_all epoch (slice_set rs r x)) + g (dated epoch (code (slice_index_or rs r None))) ≡ sum_by g (dated_all epoch rs) + g (dated epoch (code x))
register_sum g epoch rs r x there = omega (
  arith,
  sum_by-map g (λ (y : Option ℕ). dated epoch (code y)) (slice_set rs r x),
  sum_by-map g (λ (y : Option ℕ). dated epoch (code y)) rs,
  sum_by-set (λ (y : Option ℕ). g (dated epoch (code y))) rs r x None there,
)

-- one write more in a log
pub writes_more : (g : Write → ℕ) (es : List Entry) (place new old : ℕ) → sum_by g (writes_in (es ++ entries.Put place new old ∷ [])) ≡ sum_by g (writes_in es) + g (record { place = place; new = new; old = old })
writes_more g [] place new old = omega (arith, sum_by-cons g (record { place = place; new = new; old = old }) [])
writes_more g (entries.Put p n o ∷ es) place new old =
    let first : Write = record { place = p; new = n; old = o } in
    omega (arith, sum_by-cons g first (writes_in (es ++ entries.Put place new old ∷ [])), sum_by-cons g first (writes_in es), writes_more g es place new old)
writes_more g (entries.Born slot leaf ∷ es) place new old = writes_more g es place new old

pub births_same : (g : Dated → ℕ) (epoch : ℕ) (es : List Entry) (place new old : ℕ) → sum_by g (births_in epoch (es ++ entries.Put place new old ∷ [])) ≡ sum_by g (births_in epoch es)
births_same g epoch [] place new old = refl
births_same g epoch (entries.Put p n o ∷ es) place new old = births_same g epoch es place new old
births_same g epoch (entries.Born slot leaf ∷ es) place new old =
    omega (arith, sum_by-cons g (dated_birth epoch (slot + 1) leaf) (births_in epoch (es ++ entries.Put place new old ∷ [])), sum_by-cons g (dated_birth epoch (slot + 1) leaf) (births_in epoch es), births_same g epoch es place new old)

-- one birth more in a log
pub births_more : (g : Dated → ℕ) (epoch : ℕ) (es : List Entry) (slot : ℕ) (leaf : Bool) → sum_by g (births_in epoch (es ++ entries.Born slot leaf ∷ [])) ≡ sum_by g (births_in epoch es) + g (dated_birth epoch (slot + 1) leaf)
births_more g epoch [] slot leaf = omega (arith, sum_by-cons g (dated_birth epoch (slot + 1) leaf) [])
births_more g epoch (entries.Put p n o ∷ es) slot leaf = births_more g epoch es slot leaf
births_more g epoch (entries.Born s l ∷ es) slot leaf =
    omega (arith, sum_by-cons g (dated_birth epoch (s + 1) l) (births_in epoch (es ++ entries.Born slot leaf ∷ [])), sum_by-cons g (dated_birth epoch (s + 1) l) (births_in epoch es), births_more g epoch es slot leaf)

pub writes_same : (g : Write → ℕ) (es : List Entry) (slot : ℕ) (leaf : Bool) → sum_by g (writes_in (es ++ entries.Born slot leaf ∷ [])) ≡ sum_by g (writes_in es)
writes_same g [] slot leaf = refl
writes_same g (entries.Put p n o ∷ es) slot leaf =
    let first : Write = record { place = p; new = n; old = o } in
    omega (arith, sum_by-cons g first (writes_in (es ++ entries.Born slot leaf ∷ [])), sum_by-cons g first (writes_in es), writes_same g es slot leaf)
writes_same g (entries.Born s l ∷ es) slot leaf = writes_same g es slot leaf

-- what is named weighs no more than all, and as much where null weighs nothing
pub names_most : (g : Dated → ℕ) (epoch : ℕ) (xs : List (Option ℕ)) → sum_by g (dated_names epoch xs) ≤ sum_by g (dated_all epoch xs)
names_most g epoch [] = omega arith
names_most g epoch (None ∷ xs) = omega (arith, sum_by-cons g (dated epoch 0) (dated_all epoch xs), names_most g epoch xs)
names_most g epoch (Some n ∷ xs) = omega (arith, sum_by-cons g (dated epoch (n + 1)) (dated_names epoch xs), sum_by-cons g (dated epoch (n + 1)) (dated_all epoch xs), names_most g epoch xs)

pub names_all : (g : Dated → ℕ) (epoch : ℕ) (xs : List (Option ℕ)) → ((e : ℕ) → g (dated e 0) ≡ 0) → sum_by g (dated_names epoch xs) ≡ sum_by g (dated_all epoch xs)
names_all g epoch [] null = refl
names_all g epoch (None ∷ xs) null = omega (arith, null epoch, sum_by-cons g (dated epoch 0) (dated_all epoch xs), names_all g epoch xs null)
names_all g epoch (Some n ∷ xs) null = omega (arith, sum_by-cons g (dated epoch (n + 1)) (dated_names epoch xs), sum_by-cons g (dated epoch (n + 1)) (dated_all epoch xs), names_all g epoch xs null)
