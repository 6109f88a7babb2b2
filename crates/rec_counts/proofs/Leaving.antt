-- Slots leave their buffer together.
use Rattle.std.proofs.Common.{◌≡◌, ℕ, ◌+◌, ◌-◌, ◌<◌, ◌≤◌, Bool, true, false, ltb, Option, Some, None, List, ◌++◌, length, map, get_or, refl, arith, sym, ◌∙◌, ap}
use Rattle.std.proofs.lemmas.List.{length-map, get_or-map, ext_get_or, length-append}
use Rattle.std.proofs.lemmas.Bool.{ltb-true, ltb-false}
use Rattle.rec_counts.specs.Colour.{whitened}
use Rattle.rec_counts.specs.declared.colour.Colour.{Colour}
use Rattle.rec_counts.specs.declared.colour.Colour.TheVariants.{Black, Purple, Gray, White, Orange, Green}
use Rattle.rec_counts.specs.declared.slot.Slot.{Slot}
use Rattle.rec_counts.specs.Slot.{absent, given_up_if, given_up_slot, renewed_if, white_if, is_in, unbuffered, unrooted, unrooted_if, unbuffered_if, out_of_set}
use Rattle.rec_counts.specs.Lists.{times}
use Rattle.rec_counts.specs.Groups.{last_set, earlier_sets}
use Rattle.rec_counts.specs.Kept.{Kept}
use Rattle.rec_counts.proofs.Times.{one-le, length-once, one-none, test_of}
use Rattle.rec_counts.proofs.Keeping.{no_set, some_set, keep_drop, map_at, slots_kept}

pub unbuffered_twice : (b : Bool) (v : Slot) → unbuffered (unbuffered_if b v) ≡ unbuffered v
unbuffered_twice true v = refl
unbuffered_twice false v = refl

pub renewed_twice : (b : Bool) (v : Slot) → renewed_if true (renewed_if b v) ≡ renewed_if true v
renewed_twice true v = refl
renewed_twice false v = refl

pub given_up_twice : (b : Bool) (v : Slot) → given_up_if true (given_up_if b v) ≡ given_up_if true v
given_up_twice true v = refl
given_up_twice false v = refl

pub white_twice : (b : Bool) (v : Slot) → white_if true (white_if b v) ≡ white_if true v
white_twice true v = ap (λ (to : Colour). record v { colour = to }) (go v.colour)
  where
    go : (c : Colour) → whitened (whitened c) ≡ whitened c
    go Black = refl
    go Purple = refl
    go Gray = refl
    go White = refl
    go Orange = refl
    go Green = refl
white_twice false v = refl

-- lists with the same changes are one list
pub all_of : (f : Slot → Slot) (slots slots' : List Slot) → length slots' ≡ length slots → ((x : ℕ) → get_or slots' x absent ≡ f (get_or slots x absent)) → slots' ≡ map f slots
all_of f slots slots' e h =
    ext_get_or absent slots' (map f slots) (e ∙ sym (length-map slots f)) (λ i l. h i ∙ sym (get_or-map f slots i absent absent (omega arith)))

-- what leaves with the root buffer
root_left : {slots : List Slot} {roots : List ℕ} {sets : List (List ℕ)} {marked work zeros free : List ℕ} → Kept slots roots sets marked work zeros free →
    (x : ℕ) → unbuffered_if (ltb 0 (times x roots)) (get_or slots x absent) ≡ unrooted (get_or slots x absent)
root_left {slots = slots} {roots = roots} {sets = sets} k x = go (ltb 0 (times x roots)) (get_or slots x absent).set refl refl
  where
    go : (b : Bool) (o : Option ℕ) → ltb 0 (times x roots) ≡ b → (get_or slots x absent).set ≡ o → unbuffered_if b (get_or slots x absent) ≡ unrooted_if o (get_or slots x absent)
    go true None e f = let v = get_or slots x absent in let with_set : Option ℕ → Slot = λ o. record v { buffered = false; set = o } in ap with_set (sym f)
    go true (Some j) e f = absurd (omega (arith, ltb-true 0 (times x roots) e, some_set k x j f, k.buffers x, one-le (get_or slots x absent).buffered))
    go false None e f = let v = get_or slots x absent in let with_flag : Bool → Slot = λ b. record v { buffered = b } in ap with_flag (one-none v.buffered (omega (arith, ltb-false 0 (times x roots) e, no_set k x f, k.buffers x)))
    go false (Some j) e f = refl

pub roots_left : {slots : List Slot} {roots : List ℕ} {sets : List (List ℕ)} {marked work zeros free : List ℕ} → Kept slots roots sets marked work zeros free →
    (before after : List Slot) (members : List ℕ) → before ≡ slots → members ≡ roots → length after ≡ length before →
    ((x : ℕ) → get_or after x absent ≡ unbuffered_if (ltb 0 (times x members)) (get_or before x absent)) → after ≡ map unrooted slots
roots_left {slots = slots} k before after members e f l h =
    all_of unrooted slots after (l ∙ ap length e)
    (λ x. h x ∙ ap (λ s. unbuffered_if (ltb 0 (times x members)) (get_or s x absent)) e ∙ ap (λ m. unbuffered_if (ltb 0 (times x m)) (get_or slots x absent)) f ∙ root_left k x)

-- each member of the last set is changed
pub set_changed : (change : Bool → Slot → Slot) {slots : List Slot} {roots : List ℕ} {sets : List (List ℕ)} {marked work zeros free : List ℕ} → Kept slots roots sets marked work zeros free →
    (before after : List Slot) (members : List ℕ) → before ≡ slots → members ≡ last_set sets → length after ≡ length before →
    ((x : ℕ) → get_or after x absent ≡ change (ltb 0 (times x members)) (get_or before x absent)) → after ≡ map (λ v. change (is_in (length sets - 1) v.set) v) slots
set_changed change {slots = slots} {sets = sets} k before after members e f l h =
    all_of (λ v. change (is_in (length sets - 1) v.set) v) slots after (l ∙ ap length e)
    (λ x. h x ∙ ap (λ s. change (ltb 0 (times x members)) (get_or s x absent)) e ∙ ap (λ m. change (ltb 0 (times x m)) (get_or slots x absent)) f
    ∙ ap (λ b. change b (get_or slots x absent)) (test_of (times x (last_set sets)) (is_in (length sets - 1) (get_or slots x absent).set) (k.numbers (length sets - 1) x)))

-- there is room for the members of the last set
pub work_room : {slots : List Slot} {roots : List ℕ} {sets : List (List ℕ)} {marked work zeros free : List ℕ} → Kept slots roots sets marked work zeros free →
    0 < length sets → ((x : ℕ) → times x work + times x (last_set sets) ≤ 1) → length work + length (last_set sets) ≤ length slots
work_room {slots = slots} {sets = sets} {work = work} k some new =
    let k' = keep_drop k some new in
    omega (arith, length-once _ (work ++ last_set sets) k'.work_once, length-append work (last_set sets), length-map slots (out_of_set (length sets - 1)))

-- a slot that is given up stays in the buffers where one that left stays
given_up_stays : (number : ℕ) (v : Slot) → ((given_up_slot number v).buffered ≡ (out_of_set number v).buffered) × ((given_up_slot number v).set ≡ (out_of_set number v).set)
given_up_stays number v = go (is_in number v.set)
  where
    go : (b : Bool) → ((given_up_if b v).buffered ≡ (unbuffered_if b v).buffered) × ((given_up_if b v).set ≡ (unbuffered_if b v).set)
    go true = (refl, refl)
    go false = (refl, refl)

-- the last set is given up, and its members stand in the work list
pub keep_given_up : {slots : List Slot} {roots : List ℕ} {sets : List (List ℕ)} {marked work zeros free : List ℕ} → Kept slots roots sets marked work zeros free →
    0 < length sets → ((x : ℕ) → times x work + times x (last_set sets) ≤ 1) →
    Kept (map (given_up_slot (length sets - 1)) slots) roots (earlier_sets sets) marked (work ++ last_set sets) zeros free
keep_given_up {slots = slots} {sets = sets} k some new =
    let n : ℕ = length sets - 1 in
    let alike : (x : ℕ) → ((get_or (map (given_up_slot n) slots) x absent).buffered ≡ (get_or (map (out_of_set n) slots) x absent).buffered) × ((get_or (map (given_up_slot n) slots) x absent).set ≡ (get_or (map (out_of_set n) slots) x absent).set) =
    λ x. rw (map_at (given_up_slot n) refl slots x, map_at (out_of_set n) refl slots x) (given_up_stays n (get_or slots x absent)) in
    slots_kept (keep_drop k some new) (map (given_up_slot n) slots) (length-map slots (given_up_slot n) ∙ sym (length-map slots (out_of_set n))) (λ x. (alike x).0) (λ x. (alike x).1)
