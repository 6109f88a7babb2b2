-- A slot that has one reference less goes where it is due.
use Rattle.std.proofs.Common.{◌≡◌, ℕ, ◌<◌, ◌||◌, Bool, true, false, eqb, List, [], ◌∷◌, ◌++◌, length, get_or, refl, sym, ◌∙◌, ap}
use Rattle.std.proofs.Math.ListN.{set}
use Rattle.std.proofs.lemmas.List.{length-set}
use Rattle.std.proofs.lemmas.Bool.{eqb-true}
use Rattle.rec_counts.specs.declared.slot.Slot.{Slot}
use Rattle.rec_counts.specs.declared.slot.Due.TheVariants.{Zero, Root, Nothing}
use Rattle.rec_counts.specs.Slot.{absent, lessened, due_of, due_if}
use Rattle.rec_counts.specs.Colour.{is_green}
use Rattle.rec_counts.specs.Lists.{times}
use Rattle.rec_counts.specs.Kept.{Kept, HasRoom}
use Rattle.rec_counts.specs.Touched.{Touching}
use Rattle.rec_counts.proofs.Keeping.{keep_slot, keep_push_root, relisted}
use Rattle.rec_counts.proofs.Times.{once_push}

-- what is known of a slot that is due at the zeros
pub record ToZeros (v : Slot) : Type 0 where
  pub unreleased : v.released ≡ false
  pub last : v.count ≡ 1
  pub buffered : (lessened v).buffered ≡ v.buffered
  pub set : (lessened v).set ≡ v.set

-- what is known of a slot that is due at the root buffer
pub record ToRoots (v : Slot) : Type 0 where
  pub unbuffered : v.buffered ≡ false
  pub buffered : (lessened v).buffered ≡ true
  pub set : (lessened v).set ≡ v.set

pub to_zeros : (v : Slot) → due_of v ≡ Zero → ToZeros v
to_zeros v d = go v.released (is_green v.colour) (eqb v.count 1) (v.buffered || is_green v.colour) refl refl refl d
  where
    go : (r g l b : Bool) → v.released ≡ r → is_green v.colour ≡ g → eqb v.count 1 ≡ l → due_if r l b ≡ Zero → ToZeros v
    go true g l b e h f d = cc
    go false true true b e h f d = record { unreleased = e; last = eqb-true v.count 1 f; buffered = rw (e, h) refl; set = rw (e, h) refl }
    go false false true b e h f d = record { unreleased = e; last = eqb-true v.count 1 f; buffered = rw (e, h, f) refl; set = rw (e, h, f) refl }
    go false g false true e h f d = cc
    go false g false false e h f d = cc

pub to_roots : (v : Slot) → due_of v ≡ Root → ToRoots v
to_roots v d = go v.released (is_green v.colour) (eqb v.count 1) v.buffered refl refl refl refl d
  where
    go : (r g l b : Bool) → v.released ≡ r → is_green v.colour ≡ g → eqb v.count 1 ≡ l → v.buffered ≡ b → due_if r l (b || g) ≡ Root → ToRoots v
    go true g l b e h f i d = cc
    go false g true b e h f i d = cc
    go false g false true e h f i d = cc
    go false true false false e h f i d = cc
    go false false false false e h f i d = record { unbuffered = i; buffered = rw (e, h, f) refl; set = rw (e, h, f) refl }

-- it goes to the zeros
pub keep_zero : {slots : List Slot} {roots : List ℕ} {sets : List (List ℕ)} {marked work zeros free : List ℕ} → Kept slots roots sets marked work zeros free →
    (x : ℕ) (v : Slot) → x < length slots → ToZeros v → v ≡ get_or slots x absent → times x zeros ≡ 0 →
    Kept (set slots x (lessened v)) roots sets marked work (zeros ++ x ∷ []) free
keep_zero {slots = slots} {zeros = zeros} k x v l t e f =
    let k' = keep_slot k x (lessened v) (t.buffered ∙ ap (λ (w : Slot). w.buffered) e) (t.set ∙ ap (λ (w : Slot). w.set) e) in
    relisted k' k'.marked_once k'.work_once (once_push _ zeros x k'.zeros_once f (rw (length-set slots x (lessened v)) l)) k'.free_once

-- it goes into the root buffer
pub keep_root : {slots : List Slot} {roots : List ℕ} {sets : List (List ℕ)} {marked work zeros free : List ℕ} → Kept slots roots sets marked work zeros free →
    (x : ℕ) (v : Slot) → x < length slots → ToRoots v → v ≡ get_or slots x absent →
    Kept (set slots x (lessened v)) (roots ++ x ∷ []) sets marked work zeros free
keep_root k x v l t e = keep_push_root k x (lessened v) l (ap (λ (w : Slot). w.buffered) (sym e) ∙ t.unbuffered) t.buffered (t.set ∙ ap (λ (w : Slot). w.set) e)

-- the rooms are the same for as many slots
pub room_kept : {n n' roots sets marked work zeros free : ℕ} {touched : Touching} → HasRoom n roots sets marked work zeros free touched → n' ≡ n → HasRoom n' roots sets marked work zeros free touched
room_kept h e = record { roots_room = rw e h.roots_room; sets_room = rw e h.sets_room; marked_room = rw e h.marked_room; work_room = rw e h.work_room; zeros_room = rw e h.zeros_room; free_room = rw e h.free_room; none_touched = rw e h.none_touched }

-- it is not among the zeros yet
pub new_zero : {v w : Slot} (x : ℕ) (zeros : List ℕ) → ToZeros v → v ≡ w → (w.released ≡ false → w.count ≡ 1 → times x zeros ≡ 0) → times x zeros ≡ 0
new_zero x zeros t e h = h (ap (λ (w : Slot). w.released) (sym e) ∙ t.unreleased) (ap (λ (w : Slot). w.count) (sym e) ∙ t.last)

-- what is known of a slot that is due nowhere
pub record ToNothing (v : Slot) : Type 0 where
  pub buffered : (lessened v).buffered ≡ v.buffered
  pub set : (lessened v).set ≡ v.set

pub to_nothing : (v : Slot) → due_of v ≡ Nothing → ToNothing v
to_nothing v d = go v.released (is_green v.colour) (eqb v.count 1) v.buffered refl refl refl refl d
  where
    go : (r g l b : Bool) → v.released ≡ r → is_green v.colour ≡ g → eqb v.count 1 ≡ l → v.buffered ≡ b → due_if r l (b || g) ≡ Nothing → ToNothing v
    go true g l b e h f i d = record { buffered = rw e refl; set = rw e refl }
    go false g true b e h f i d = cc
    go false true false b e h f i d = record { buffered = rw (e, h) refl; set = rw (e, h) refl }
    go false false false true e h f i d = record { buffered = rw (e, h, f) (sym i); set = rw (e, h, f) refl }
    go false false false false e h f i d = cc
