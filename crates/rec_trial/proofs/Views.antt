-- The machine and the counts, seen as a trial by functions: what is done to the counts is done to what is seen.
use Rattle.std.proofs.Common.{◌≡◌, ℕ, suc, ◌+◌, ◌-◌, ◌<◌, Bool, true, false, eqb, cond, Option, None, Some, List, [], ◌∷◌, ◌++◌, length, refl, sym, ap, ◌∙◌, arith, inl, inr, append_assoc, ltb, add-one}
use Rattle.std.proofs.Math.ListN.{get_or-map}
use Rattle.std.specs.List.{concat}
use Rattle.std.proofs.lemmas.List.{append-nil, get_or-set_same, get_or-set_other, length-set, length-append}
use Rattle.std.proofs.lemmas.Bool.Decides.{eqb_tells, nat_tests}
use Rattle.rec_trial.proofs.Common.{Colour, Black, Gray, White, Orange, State, slot_at, with_slot, without_root, is_gray, field_kept, Phase, Idle, Marking, Scanning, Collecting, Machine, Work, advanced_if, advanced, predecessor}
use Rattle.rec_counts.specs.declared.slot.Slot.{Slot}
use Rattle.rec_counts.specs.Groups.{last_set, earlier_sets, with_member}
use Rattle.rec_counts.specs.Slot.{absent}
use Rattle.rec_trial.specs.Moves.{touched_if, one_off, blackened_if, whitened, whitened_if, all_whitened, joined_if}
use Rattle.rec_trial.proofs.Totals.{changed}
use Rattle.rec_trial.proofs.Deletion.{Deletion, next_at, next_field}
use Rattle.rec_trial.proofs.Deletion as plain

-- the number of a set, from 1; 0 for none
abbrev pub set_code : Option ℕ → ℕ
set_code None = 0
set_code (Some i) = suc i

-- how many nodes of the list at work are done, where so many are of the last set and so many members stand before it
abbrev pub at_of : Phase → (done earlier : ℕ) → ℕ
at_of Idle done earlier = earlier + done
at_of Marking done earlier = done
at_of Scanning done earlier = done
at_of Collecting done earlier = earlier + done

-- how many members stand before the last set
abbrev pub earlier : State → ℕ
earlier s = length (concat (earlier_sets s.sets))

abbrev pub view_of : Machine → State → Deletion
view_of m s = record {
  phase = m.phase;
  fields = m.fields;
  count = λ x. (slot_at s x).count;
  cyclic = λ x. (slot_at s x).cyclic;
  colour = λ x. (slot_at s x).colour;
  released = λ x. (slot_at s x).released;
  roots = s.roots;
  marked = s.marked;
  work = s.work;
  members = concat s.sets;
  set_of = λ x. set_code (slot_at s x).set;
  sets = length s.sets;
  tried = m.tried;
  at = at_of m.phase m.done (earlier s);
  field = m.field;
}

abbrev pub view : Work → Deletion
view w = view_of w.machine w.counts

pub same_functions : {A B : Type 0} {f g : A → B} → ((x : A) → f x ≡ g x) → f ≡ g
same_functions h = λ i x. h x i

-- what is seen of the slots after a write
module _ {A : Type 0} (f : Slot → A) (s : State) (x : ℕ) (v : Slot) where
  part_changed : x < length s.slots → (λ y. f (slot_at (with_slot s x v) y)) ≡ changed (λ y. f (slot_at s y)) x (f v)
  part_changed l = same_functions (λ y. elim (eqb_tells y x) [
    | inl q ↦ rw (q.0, q.1) (ap f (get_or-set_same s.slots x v absent l))
    | inr q ↦ rw q.0 (ap f (get_or-set_other s.slots x y v absent q.1))
  ])

  part_kept : f v ≡ f (slot_at s x) → ◌≡◌ {A = ℕ → A} (λ y. f (slot_at (with_slot s x v) y)) (λ y. f (slot_at s y))
  part_kept e = same_functions (field_kept f s.slots x v e)

-- a slot is written that keeps its true count, stays released or not, and stays in its set or in none
view_set : (s : State) (x : ℕ) (v : Slot) (m : Machine) {cyclic : ℕ → ℕ} {colour : ℕ → Colour} → v.count ≡ (slot_at s x).count → v.released ≡ (slot_at s x).released → v.set ≡ (slot_at s x).set → ◌≡◌ {A = ℕ → ℕ} (λ y. (slot_at (with_slot s x v) y).cyclic) cyclic → ◌≡◌ {A = ℕ → Colour} (λ y. (slot_at (with_slot s x v) y).colour) colour → view_of m (with_slot s x v) ≡ record (view_of m s) { cyclic = cyclic; colour = colour }
view_set s x v m a b e cyclic colour =
    let count = part_kept (λ (u : Slot). u.count) s x v a in
    let released = part_kept (λ (u : Slot). u.released) s x v b in
    let in_set = part_kept (λ (u : Slot). set_code u.set) s x v (ap set_code e) in
    λ i. record (view_of m s) { count = count i; cyclic = cyclic i; colour = colour i; released = released i; set_of = in_set i }

module _ (m : Machine) (s : State) (x : ℕ) (l : x < length s.slots) where
  pub view_touched : view_of m (touched_if false s x) ≡ plain.touch (view_of m s) x
  view_touched =
      let v : Slot = record (slot_at s x) { colour = Gray; cyclic = (slot_at s x).count } in
      let q = view_set s x v m refl refl refl (part_changed (λ (u : Slot). u.cyclic) s x v l) (part_changed (λ (u : Slot). u.colour) s x v l) in
      λ i. record (q i) { marked = s.marked ++ x ∷ [] }

  pub view_one_off : view_of m (one_off s x) ≡ plain.take_one (view_of m s) x
  view_one_off =
      let v : Slot = record (slot_at s x) { cyclic = (slot_at s x).cyclic - 1 } in
      view_set s x v m refl refl refl (part_changed (λ (u : Slot). u.cyclic) s x v l) (part_kept (λ (u : Slot). u.colour) s x v refl)

  pub view_blackened : view_of m (blackened_if true s x) ≡ plain.blacken (view_of m s) x
  view_blackened =
      let v : Slot = record (slot_at s x) { colour = Black } in
      let q = view_set s x v m refl refl refl (part_kept (λ (u : Slot). u.cyclic) s x v refl) (part_changed (λ (u : Slot). u.colour) s x v l) in
      λ i. record (q i) { work = s.work ++ x ∷ [] }

-- one member more at the end of the last set
pub concat_member : (sets : List (List ℕ)) (x : ℕ) → 0 < length sets → concat (with_member sets x) ≡ concat sets ++ x ∷ []
concat_member [] x l = absurd (omega arith)
concat_member (ys ∷ []) x l = append-nil (ys ++ x ∷ []) ∙ ap (λ zs. zs ++ x ∷ []) (sym (append-nil ys))
concat_member (ys ∷ zs ∷ sets) x l =
    let e : length (ys ∷ zs ∷ sets) - 1 ≡ suc (length (zs ∷ sets) - 1) = omega arith in
    rw e (ap (λ us. ys ++ us) (concat_member (zs ∷ sets) x (omega arith)) ∙ sym (append_assoc ys (concat (zs ∷ sets)) (x ∷ [])))

earlier_member : (sets : List (List ℕ)) (x : ℕ) → 0 < length sets → earlier_sets (with_member sets x) ≡ earlier_sets sets
earlier_member [] x l = absurd (omega arith)
earlier_member (ys ∷ []) x l = refl
earlier_member (ys ∷ zs ∷ sets) x l =
    let e : length (ys ∷ zs ∷ sets) - 1 ≡ suc (length (zs ∷ sets) - 1) = omega arith in
    let f : length (with_member (ys ∷ zs ∷ sets) x) - 1 ≡ suc (length (with_member (zs ∷ sets) x) - 1) = omega (arith, length-set (ys ∷ zs ∷ sets) (length (ys ∷ zs ∷ sets) - 1) (last_set (ys ∷ zs ∷ sets) ++ x ∷ []), length-set (zs ∷ sets) (length (zs ∷ sets) - 1) (last_set (zs ∷ sets) ++ x ∷ [])) in
    rw f (rw e (ap (λ us. ys ∷ us) (earlier_member (zs ∷ sets) x (omega arith))))

pub length_member : (sets : List (List ℕ)) (x : ℕ) → length (with_member sets x) ≡ length sets
length_member sets x = length-set sets (length sets - 1) (last_set sets ++ x ∷ [])

-- all sets are the earlier ones and the last
pub concat_last : (sets : List (List ℕ)) → concat sets ≡ concat (earlier_sets sets) ++ last_set sets
concat_last [] = refl
concat_last (ys ∷ []) = append-nil ys
concat_last (ys ∷ zs ∷ sets) =
    let e : length (ys ∷ zs ∷ sets) - 1 ≡ suc (length (zs ∷ sets) - 1) = omega arith in
    rw e (ap (λ us. ys ++ us) (concat_last (zs ∷ sets)) ∙ sym (append_assoc ys (concat (earlier_sets (zs ∷ sets))) (last_set (zs ∷ sets))))

pub earlier_new : (sets : List (List ℕ)) → earlier_sets (sets ++ [] ∷ []) ≡ sets
earlier_new [] = refl
earlier_new (ys ∷ sets) =
    let e : length ((ys ∷ sets) ++ [] ∷ []) - 1 ≡ suc (length (sets ++ [] ∷ []) - 1) = omega (arith, length-append sets ([] ∷ [])) in
    rw e (ap (λ us. ys ∷ us) (earlier_new sets))

pub concat_new : (sets : List (List ℕ)) → concat (sets ++ [] ∷ []) ≡ concat sets
concat_new [] = refl
concat_new (ys ∷ sets) = ap (λ us. ys ++ us) (concat_new sets)

-- a slot joins the last set
pub view_joined : (m : Machine) (s : State) (x : ℕ) → x < length s.slots → 0 < length s.sets → view_of m (joined_if true s x) ≡ plain.join (view_of m s) x
view_joined m s x l some =
    let v : Slot = record (slot_at s x) { colour = Orange } in
    let t : State = with_slot s x v in
    let u : Slot = record (slot_at t x) { buffered = true; set = Some (length s.sets - 1) } in
    let l' : x < length t.slots = omega (arith, l, length-set s.slots x v) in
    let number : suc (length s.sets - 1) ≡ length s.sets = omega arith in
    let count = part_kept (λ (w : Slot). w.count) t x u refl ∙ part_kept (λ (w : Slot). w.count) s x v refl in
    let cyclic = part_kept (λ (w : Slot). w.cyclic) t x u refl ∙ part_kept (λ (w : Slot). w.cyclic) s x v refl in
    let colour = part_kept (λ (w : Slot). w.colour) t x u refl ∙ part_changed (λ (w : Slot). w.colour) s x v l in
    let released = part_kept (λ (w : Slot). w.released) t x u refl ∙ part_kept (λ (w : Slot). w.released) s x v refl in
    let in_set = part_changed (λ (w : Slot). set_code w.set) t x u l' ∙ ap (λ (f : ℕ → ℕ). changed f x (suc (length s.sets - 1))) (part_kept (λ (w : Slot). set_code w.set) s x v refl) ∙ ap (λ n. changed (λ y. set_code (slot_at s y).set) x n) number in
    let members = concat_member s.sets x some in
    let sets = length_member s.sets x in
    let at = ap (λ (ys : List (List ℕ)). at_of m.phase m.done (length (concat ys))) (earlier_member s.sets x some) in
    λ i. record (plain.join (view_of m s) x) { count = count i; cyclic = cyclic i; colour = colour i; released = released i; set_of = in_set i; members = members i; sets = sets i; at = at i }

-- every Gray slot becomes White, and nothing else changes
pub whitened_same : {A : Type 0} (f : Slot → A) → ((v : Slot) → f (record v { colour = White }) ≡ f v) → (s : State) (x : ℕ) → f (slot_at (all_whitened s) x) ≡ f (slot_at s x)
whitened_same f h s x = ap f (get_or-map whitened s.slots x absent) ∙ go (is_gray (slot_at s x).colour)
  where
    go : (b : Bool) → f (whitened_if b (slot_at s x)) ≡ f (slot_at s x)
    go true = h (slot_at s x)
    go false = refl

whitened_colour : (s : State) (x : ℕ) → (slot_at (all_whitened s) x).colour ≡ plain.whiten (λ y. (slot_at s y).colour) x
whitened_colour s x = ap (λ (v : Slot). v.colour) (get_or-map whitened s.slots x absent) ∙ fit (slot_at s x)
  where
    fit : (v : Slot) → (whitened v).colour ≡ cond (is_gray v.colour) White v.colour
    fit v = grind arith

pub view_whitened : (m : Machine) (s : State) → view_of m (all_whitened s) ≡ record (view_of m s) { colour = plain.whiten (λ y. (slot_at s y).colour) }
view_whitened m s =
    let count = same_functions (whitened_same (λ (w : Slot). w.count) (λ v. refl) s) in
    let cyclic = same_functions (whitened_same (λ (w : Slot). w.cyclic) (λ v. refl) s) in
    let released = same_functions (whitened_same (λ (w : Slot). w.released) (λ v. refl) s) in
    let in_set = same_functions (whitened_same (λ (w : Slot). set_code w.set) (λ v. refl) s) in
    let colour = same_functions (whitened_colour s) in
    λ i. record (view_of m s) { count = count i; cyclic = cyclic i; colour = colour i; released = released i; set_of = in_set i }

-- a root leaves: nothing but a buffer flag changes in what is kept of it
pub view_rootless : (m : Machine) (s : State) (x : ℕ) (xs : List ℕ) → view_of m (without_root (x ∷ xs) s) ≡ record (view_of m s) { roots = xs }
view_rootless m s x xs =
    let v : Slot = record (slot_at s x) { buffered = false } in
    let q = view_set s x v m refl refl refl (part_kept (λ (u : Slot). u.cyclic) s x v refl) (part_kept (λ (u : Slot). u.colour) s x v refl) in
    λ i. record (q i) { roots = xs }

pub bits_suc : (x : ℕ) → predecessor (suc x) ≡ Some x
bits_suc x =
    let some : eqb (suc x) 0 ≡ false = grind (arith, nat_tests) in
    let less : suc x - 1 ≡ x = omega arith in
    rw (some, less) refl

-- the place moves on
at_next : (p : Phase) (done before : ℕ) → at_of p (done + 1) before ≡ suc (at_of p done before)
at_next Idle done before = omega arith
at_next _ done before = omega arith

pub view_advanced : (m : Machine) (s : State) → view_of (advanced m) s ≡ plain.advance (view_of m s)
view_advanced m s = go (ltb (m.field + 1) m.fields) ∙ (λ i. record (view_of m s) { at = next_at (ltb (f i) m.fields) (view_of m s).at; field = next_field (ltb (f i) m.fields) m.field })
  where
    f : m.field + 1 ≡ suc m.field
    f = add-one m.field

    go : (b : Bool) → view_of (advanced_if b m) s ≡ record (view_of m s) { at = next_at b (view_of m s).at; field = next_field b m.field }
    go true = λ i. record (view_of m s) { field = f i }
    go false = let a : at_of m.phase (m.done + 1) (earlier s) ≡ suc (at_of m.phase m.done (earlier s)) = at_next m.phase m.done (earlier s) in λ i. record (view_of m s) { at = a i; field = 0 }
