-- A trial that was offered every slot finds all garbage.
use Rattle.std.proofs.Common.{◌≡◌, ◌||◌, ℕ, zero, suc, ◌+◌, ◌<◌, ◌&&◌, Bool, true, false, not, leb, ltb, List, length, refl, sym, ap, ◌∙◌, arith, IsNone}
use Rattle.std.specs.List.{count_by, range_with_len}
use Rattle.std.proofs.lemmas.Bool.Decides.{nat_tests}
use Rattle.std.proofs.lemmas.Bool.{false≢true}
use Rattle.rec_core.proofs.Common.{target_of, is_slot, only_if, State, slot_at, one, times, absent, stays, Slot, is_green, unreleased_within}
use Rattle.rec_settle.specs.Settling.{offered_slots, IsOffered, IsReachable, IsGarbage, FindsGarbage}
use Rattle.rec_trial.specs.Loaded.{Run}
use Rattle.rec_trial.specs.Promised.{IsTrial}
use Rattle.rec_trial.specs.Still.{AreStill, IsHeld, IsExact, references, rest, visible_words}
use Rattle.rec_trial.specs.Still as still
use Rattle.rec_trial.specs.Tried.{IsOver}
use Rattle.rec_trial.specs.Trial.{next_of}
use Rattle.rec_trial.proofs.Exactly.{reached_other}
use Rattle.rec_settle.specs.Settling as settling
use Rattle.rec_settle.proofs.Rest.SettlingSums.{sum_by_alike, times-range, times-filter}

-- what is offered is not released, and not Green
pub offered_unreleased : (v : Slot) → stays v ≡ false → v.released ≡ false
offered_unreleased v e = by v.released e
  where
    by : (b : Bool) → (b || is_green v.colour) ≡ false → b ≡ false
    by true h = absurd (false≢true (sym h))
    by false h = refl

pub offered_other : (v : Slot) → stays v ≡ false → is_green v.colour ≡ false
offered_other v e = by v.released e
  where
    by : (b : Bool) → (b || is_green v.colour) ≡ false → is_green v.colour ≡ false
    by true h = absurd (false≢true (sym h))
    by false h = h

pub offered_where : (v : Slot) → v.released ≡ false → is_green v.colour ≡ false → stays v ≡ false
offered_where v r g = ap (λ b. b || is_green v.colour) r ∙ g

-- each stands once among them
pub times_offered : (s : State) (x : ℕ) → times x (offered_slots s) ≡ one (not (stays (slot_at s x)))
times_offered s x = times-filter x (λ n. not (stays (slot_at s n))) (range_with_len 0 (length s.slots)) ∙ go (stays (slot_at s x)) refl
  where
    inside : (x n : ℕ) → x < n → one (leb 0 x && ltb x (0 + n)) ≡ 1
    inside x n l = grind (arith, nat_tests)

    go : (b : Bool) → stays (slot_at s x) ≡ b → only_if (not b) (times x (range_with_len 0 (length s.slots))) ≡ one (not b)
    go true e = refl
    go false e = times-range x 0 (length s.slots) ∙ inside x (length s.slots) (unreleased_within s x (offered_unreleased (slot_at s x) e))

pub offered_inside : (s : State) (x : ℕ) → 0 < times x (offered_slots s) → x < length s.slots
offered_inside s x h = go (stays (slot_at s x)) refl
  where
    go : (b : Bool) → stays (slot_at s x) ≡ b → x < length s.slots
    go true e = let n : times x (offered_slots s) ≡ 0 = times_offered s x ∙ ap (λ b. one (not b)) e in absurd (omega (arith, n, h))
    go false e = unreleased_within s x (offered_unreleased (slot_at s x) e)

module _ {fields : ℕ} {before : State} {r : Run} {marked : List ℕ} (word : ℕ → ℕ → ℕ) (holds : ℕ → ℕ) (o : IsOver fields before r marked) (exact : IsExact fields word before r marked) (a : IsOffered fields word holds before) where
  -- what is neither released nor Green was marked
  pub all_greened : (n : ℕ) → stays (slot_at before n) ≡ false → 0 < times n marked
  all_greened n e = exact.reached_marked n (still.IsReached.seed (a.seeds n e))

  -- and nothing else: no slot on such a path is Green
  marked_offered : (n : ℕ) → 0 < times n marked → stays (slot_at before n) ≡ false
  marked_offered n m = offered_where (slot_at before n) (o.marked_unreleased n m) (reached_other (exact.marked_reached n m))

  same_marked : (n : ℕ) → times n marked ≡ times n (offered_slots before)
  same_marked n = go (stays (slot_at before n)) refl
    where
      go : (b : Bool) → stays (slot_at before n) ≡ b → times n marked ≡ times n (offered_slots before)
      go true e = let u : times n (offered_slots before) ≡ 0 = times_offered before n ∙ ap (λ b. one (not b)) e in omega (arith, u, none (times n marked) refl)
        where
          none : (k : ℕ) → times n marked ≡ k → times n marked ≡ 0
          none zero z = z
          none (suc k) z = absurd (false≢true (sym (marked_offered n (omega (arith, z))) ∙ e))
      go false e = let u : times n (offered_slots before) ≡ 1 = times_offered before n ∙ ap (λ b. one (not b)) e in omega (arith, u, o.marked_once n, all_greened n e)

  -- so the rest of a slot is how often it is held
  rest_is : (n : ℕ) → stays (slot_at before n) ≡ false → rest fields word marked before n ≡ holds n
  rest_is n e =
      let same : references fields word marked n ≡ references fields word (offered_slots before) n =
      sum_by_alike (λ m. count_by (λ field. is_slot n (target_of (word m field))) (range_with_len 0 fields)) (offered_slots before) marked before.slots absent (offered_inside before) same_marked in
      omega (arith, same, a.counted n e)

  reachable : {n : ℕ} → IsHeld fields word marked before n → IsReachable fields word holds n
  reachable (still.IsHeld.rests {x} m h) = settling.IsReachable.held (omega (arith, rest_is x (marked_offered x m), h))
  reachable (still.IsHeld.along p field l t g) = settling.IsReachable.along (reachable p) field l t

  -- a path to a slot that isn't Green has no Green slot on it
  held : {n : ℕ} → is_green (slot_at before n).colour ≡ false → IsReachable fields word holds n → IsHeld fields word marked before n
  held g (settling.IsReachable.held {x} h) =
      let offered : stays (slot_at before x) ≡ false = offered_where (slot_at before x) (a.held x h) g in
      still.IsHeld.rests (all_greened x offered) (omega (arith, rest_is x offered, h))
  held g (settling.IsReachable.along {n = k} {x} p field l t) = still.IsHeld.along (held (a.other k field x l t) p) field l t g

  found : FindsGarbage fields word holds before r.work.counts
  found = record {
    only = λ n m.
        let marked_there : 0 < times n marked = omega (arith, o.members_marked n, m) in
        let other : is_green (slot_at before n).colour ≡ false = offered_other (slot_at before n) (marked_offered n marked_there) in
        record { unreleased = o.marked_unreleased n marked_there; other = other; unreached = λ p. exact.members_unheld n m (held other p) };
    all = λ n g. exact.unheld_members n (all_greened n (offered_where (slot_at before n) g.unreleased g.other)) (λ p. g.unreached (reachable p));
  }

-- A trial on words that do not change, which was offered each slot that is neither released nor Green: the members of its sets are
-- exactly those of these slots that are on no path of fields from one that is held.
pub trial_finds_garbage : (fields : ℕ) (before : State) (words : List ℕ) (r : Run) (word : (slot field : ℕ) → ℕ) (holds : ℕ → ℕ) → IsTrial fields before words r → IsNone (next_of r.work.machine) → AreStill (visible_words before word) r.marking → AreStill (visible_words before word) r.blackening → IsOffered fields word holds before → FindsGarbage fields word holds before r.work.counts
trial_finds_garbage fields before words r word holds t none m b a = let e = t.exact word none m b in found word holds e.1 e.2 a

-- what is garbage is not held
pub garbage_unheld : (fields : ℕ) (word : (slot field : ℕ) → ℕ) (holds : ℕ → ℕ) (s : State) (x : ℕ) → IsGarbage fields word holds s x → holds x ≡ 0
garbage_unheld fields word holds s x g = go (holds x) refl
  where
    go : (k : ℕ) → holds x ≡ k → holds x ≡ 0
    go zero z = z
    go (suc k) z = absurd (g.unreached (settling.IsReachable.held (omega (arith, z))))
