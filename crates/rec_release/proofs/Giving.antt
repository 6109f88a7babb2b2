-- A set is given up.
use Rattle.std.proofs.Common.{◌≡◌, ℕ, ◌+◌, ◌-◌, ◌<◌, Bool, true, false, ltb, IfSome, List, ◌++◌, length, refl, arith, sym, ◌∙◌, ap, subst, inl, inr}
use Rattle.std.proofs.lemmas.List.{length-map}
use Rattle.std.proofs.lemmas.Bool.{cases_lt}
use Rattle.rec_counts.specs.declared.slot.Slot.{Slot}
use Rattle.rec_counts.specs.Counts.{State, IsKept, slot_at}
use Rattle.rec_counts.specs.Groups.{last_set}
use Rattle.rec_counts.specs.Lists.{one, times}
use Rattle.rec_counts.specs.Slot.{is_in, unbuffered_if}
use Rattle.rec_counts.proofs.Keeping.{map_at, last_once}
use Rattle.rec_counts.proofs.Times.{one-le, one-some, one-none}
use Rattle.rec_word.specs.Walk.{first_in, IsOf}
use Rattle.rec_word.proofs.Walks.{first_stands, Stands}
use Rattle.rec_release.specs.CycleFree.{dead_if, given_up, given_up_slot, IsAtWork, IsFreeable}

-- what a slot has then
pub given_slot : (s : State) (x : ℕ) → slot_at (given_up s) x ≡ given_up_slot (length s.sets - 1) (slot_at s x)
given_slot s x = map_at (given_up_slot (length s.sets - 1)) refl s.slots x

given_count_if : (b : Bool) (v : Slot) → (dead_if b (unbuffered_if b v)).count ≡ v.count
given_count_if true v = refl
given_count_if false v = refl

pub given_count : (s : State) (x : ℕ) → (slot_at (given_up s) x).count ≡ (slot_at s x).count
given_count s x = ap (λ (v : Slot). v.count) (given_slot s x) ∙ given_count_if (is_in (length s.sets - 1) (slot_at s x).set) (slot_at s x)

given_released_if : (b : Bool) (v : Slot) (n : ℕ) → n ≡ one b → (0 < n → v.released ≡ false) → one (dead_if b (unbuffered_if b v)).released ≡ one v.released + n
given_released_if true v n e h = omega (arith, e, ap one (h (omega (arith, e))))
given_released_if false v n e h = omega (arith, e)

pub given_released : (s : State) (x : ℕ) → IsKept s → IsFreeable s → one (slot_at (given_up s) x).released ≡ one (slot_at s x).released + times x (last_set s.sets)
given_released s x k f = ap (λ (v : Slot). one v.released) (given_slot s x) ∙ given_released_if (is_in (length s.sets - 1) (slot_at s x).set) (slot_at s x) (times x (last_set s.sets)) (k.numbers (length s.sets - 1) x) (f.unreleased x)

pub given_work : (s : State) → IsFreeable s → (given_up s).work ≡ last_set s.sets
given_work s f = ap (λ ws. ws ++ last_set s.sets) f.work

-- the counts are as the freeing wants them
pub given_is_work : (s : State) (fields : ℕ) → 0 < fields → IsKept s → IsFreeable s → IsAtWork (record { fields = fields; at = first_in (last_set s.sets) }) (given_up s)
given_is_work s fields l k f =
    let ms : List ℕ = last_set s.sets in
    let now : State = given_up s in
    let first : Stands fields ms (first_in ms) = first_stands fields ms l in
    let inside : (x : ℕ) → 0 < times x now.work → 0 < times x ms = λ x h. omega (arith, h, ap (times x) (given_work s f)) in
    let freed : (x : ℕ) → 0 < times x ms → (slot_at now x).released ≡ true = λ x h. one-some (slot_at now x).released (omega (arith, given_released s x k f, ap one (f.unreleased x h), h, last_once s k x, one-le (ltb x (length s.slots)))) in
    let others : (x : ℕ) → 0 < times x s.zeros → (slot_at now x).released ≡ false = λ x h.
    let none : times x ms ≡ 0 = elim (cases_lt 0 (times x ms)) [ inl m ↦ absurd (omega (arith, h, f.counted x m)) | inr m ↦ omega (arith, m) ] in
    one-none (slot_at now x).released (omega (arith, given_released s x k f, none, ap one (f.ready.zeros.unreleased x h))) in
    record {
      field = first.field;
      held = subst (λ ws. IfSome (first_in ms) (IsOf ws)) (sym (given_work s f)) first.member;
      unlisted = λ x h. f.unlisted x (inside x h);
      released = λ x h. freed x (inside x h);
      ready = record {
        zeros = record {
          once = f.ready.zeros.once;
          none = λ x h. given_count s x ∙ f.ready.zeros.none x h;
          unreleased = others;
        };
        free = λ x h. one-some (slot_at now x).released (omega (arith, given_released s x k f, ap one (f.ready.free x h), one-le (slot_at now x).released));
      };
    }

-- the number of slots stays
pub given_many : (s : State) → length (given_up s).slots ≡ length s.slots
given_many s = length-map s.slots (given_up_slot (length s.sets - 1))
