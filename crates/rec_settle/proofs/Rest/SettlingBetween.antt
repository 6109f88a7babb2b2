-- Sets that nothing holds stay so between their preparation and their tests: through a sweep, and through a batch that names no
-- member.
use Rattle.std.proofs.Common.{◌≡◌, ℕ, ◌/◌, ◌<◌, Bool, true, false, ltb, Some, None, List, [], length, get_or, refl, sym, ap, ◌∙◌}
use Rattle.std.proofs.lemmas.Bool.{false≢true, ltb-true}
use Rattle.rec_core.proofs.Common.{target_of, Contents, Slot, State, slot_at, times, is_in, times-nil, Swept, swept_if}
use Rattle.rec_settle.specs.Settling.{AreUnheld}
use Rattle.rec_counts.specs.Batch.{names, IsBatch}
use Rattle.rec_settle.proofs.Rest.SettlingTests.{outside_same, unheld_alike}

-- A batch that names no member.
pub unheld_batch : (fields : ℕ) (words left : List ℕ) {s t : State} {newer older : List Contents} → IsBatch s newer older t → ((x i : ℕ) → (slot_at s x).set ≡ Some i → names x newer older ≡ 0) → AreUnheld fields words left s → AreUnheld fields words left t
unheld_batch fields words left {s} {t} b unnamed u =
    unheld_alike fields words left s t (record { set = b.rest.set; released = b.rest.released; colour = λ x i e o. ap (λ (v : Slot). v.colour) (b.same x (unnamed x i e)) ∙ o }) (λ x i e. b.rest.cyclic x) u

-- what a sweep makes of a slot
record IsSwept (b : Bool) (v w : Slot) : Type 0 where
  set : w.set ≡ v.set
  released : w.released ≡ true → v.released ≡ true
  same : b ≡ false → w ≡ v

swept_slot : (b : Bool) (v : Slot) → IsSwept b v (swept_if b v)
swept_slot true v = record { set = refl; released = λ e. cc; same = λ e. cc }
swept_slot false v = record { set = refl; released = λ e. e; same = λ e. refl }

-- A sweep of released slots.
pub unheld_swept : (fields : ℕ) (words : List ℕ) (before after : State) (gone : List ℕ) → Swept before after gone → ((x : ℕ) → 0 < times x gone → (slot_at before x).released ≡ true) → AreUnheld fields words [] before → AreUnheld fields words [] after
unheld_swept fields words before after gone w dead u = record {
  back = record {
    orange = λ x i e. ap (λ (v : Slot). v.colour) (member x i e) ∙ u.back.orange x i (was x i e);
    unreleased = λ x i e. ap (λ (v : Slot). v.released) (member x i e) ∙ u.back.unreleased x i (was x i e);
    emptied = λ p l e z. u.back.emptied p l ((swept (p / fields)).released e) z;
    earlier = λ p x i j l e f h. u.back.earlier p x i j l (was (p / fields) i e) (was x j f) h;
    members = λ p x j l n e f h. outside p x j l (sym ((swept (p / fields)).set) ∙ e) (was x j f) h (slot_at before (p / fields)).released refl;
  };
  cyclic = λ x i e. ap (λ (v : Slot). v.cyclic) (member x i e) ∙ u.cyclic x i (was x i e) ∙ sym (outside_same words fields before after i x (λ n. ap (is_in i) (swept n).set));
}
  where
    swept : (x : ℕ) → IsSwept (ltb 0 (times x gone)) (slot_at before x) (slot_at after x)
    swept x = rw (w.slots x) (swept_slot (ltb 0 (times x gone)) (slot_at before x))

    was : (x i : ℕ) → (slot_at after x).set ≡ Some i → (slot_at before x).set ≡ Some i
    was x i e = sym (swept x).set ∙ e

    -- a member isn't swept
    member : (x i : ℕ) → (slot_at after x).set ≡ Some i → slot_at after x ≡ slot_at before x
    member x i e = (swept x).same (go (ltb 0 (times x gone)) refl)
      where
        go : (b : Bool) → ltb 0 (times x gone) ≡ b → b ≡ false
        go true t = absurd (false≢true (sym (u.back.unreleased x i (was x i e)) ∙ dead x (ltb-true 0 (times x gone) t)))
        go false t = refl

    -- what was swept leads nowhere
    outside : (p x j : ℕ) → p < length words → (slot_at before (p / fields)).set ≡ None → (slot_at before x).set ≡ Some j → target_of (get_or words p 0) ≡ Some x → (r : Bool) → (slot_at before (p / fields)).released ≡ r → ⊥
    outside p x j l e f h true r = let none : None ≡ Some x = sym (u.back.emptied p l r (times-nil p)) ∙ h in cc
    outside p x j l e f h false r = u.back.members p x j l r e f h
