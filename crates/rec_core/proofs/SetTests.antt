-- Sets are tested while nothing is released or freed: one that passes is given up, any other refurbished. Whatever follows, every heap
-- keeps what it keeps.
use Rattle.std.proofs.Common.{◌≡◌, ◌⊎◌, inl, inr, ℕ, suc, ◌+◌, ◌-◌, ◌*◌, ◌<◌, ◌==◌, true, Option, None, Some, List, [], ◌∷◌, length, slice_get, slice_index_or, refl, sym, ap, subst, ◌∙◌, arith}
use Rattle.std.proofs.lemmas.Bool.{cases_Bool}
use Rattle.std.proofs.lemmas.Bool.Decides.{eqb_tells}
use Rattle.rec_core.proofs.Common.{State, slot_at, one, times, Slot, times-nil, times-cons, Member, Pending, IsFreeable, given_up, IsReady, Parts, with_parts, ClearsOn, IsTested, IsCleared, IsClearing, Begun, counted_by, freeing_at, last_tested, Phase, Releasing, Freeing, Turn, last_by, last_given, still, Core, SetsTest, HasCyclesAt, IsLeftOf, IsKept}
use Rattle.rec_counts.specs.Groups.{last_set}
use Rattle.rec_counts.proofs.Front.{nothing_first}
use Rattle.rec_word.specs.Walk.{first_member}
use Rattle.rec_word.proofs.Walks.{first_none}
use Rattle.rec_release.proofs.Giving.{given_many, given_released, given_work}
use Rattle.rec_release.proofs.Kept.{given_kept}
use Rattle.rec_sigma.specs.Refurbish.{IsRefusable, LastRefurbished}
use Rattle.rec_sigma.specs.Settling.{refurbished_of}
use Rattle.rec_sigma.specs.Judged.{AreOrange, cyclic_sum}
use Rattle.rec_sigma.proofs.Renewals.{refurbished_last, same_count, same_released}
use Rattle.rec_sigma.proofs.Kept.{refurbished_kept}
use Rattle.rec_collector.specs.Private as collectors
use Rattle.rec_collector.specs.Kept as collector_kept
use Rattle.rec_collector.specs.declared.sets.Sets.{Sets}
use Rattle.rec_collector.proofs.Judging.{is_last_tested, last_freeable, last_refusable, verdict_passed}
use Rattle.rec_collector.proofs.Testing.{clear_ready, last_clear, refurbished_ready}
use Rattle.rec_core.proofs.Counts.{alike_slots, counted_slot, none_release, set_release}
use Rattle.rec_core.proofs.CyclesTest.{IsJudged, set_given_up, sets_test_alike, sets_test_refurbished}
use Rattle.rec_core.proofs.Landed.{landed_pending, HasLanded, HasCleared, applied_pending, begun_freeing}
use Rattle.rec_core.proofs.Landings.{IsUnswept, goes_on, trial_begins, trial_waits}
use Rattle.rec_core.proofs.Zeros.{HasCome, AreEmpty, cleared, empty_uncounted, landed_empty, some_fields, zeros_come}
use Rattle.rec_collector.proofs.Greens.{given_greens, refurbished_greens}

-- what stands in a list stands at a place of it
record StandsAt (x : ℕ) (xs : List ℕ) : Type 0 where
  pub place : ℕ
  pub within : place < length xs
  pub is : x ≡ slice_index_or xs place 0

stands : (x : ℕ) (xs : List ℕ) → 0 < times x xs → StandsAt x xs
stands x [] some = absurd (omega (arith, some, times-nil x))
stands x (y ∷ ys) some = elim (eqb_tells x y) [
  | inl q ↦ record { place = 0; within = omega arith; is = q.1 }
  | inr q ↦
      let none : one (x == y) ≡ 0 = ap one q.0 in
      let rest = stands x ys (omega (arith, some, none, times-cons x y ys)) in
      record { place = suc rest.place; within = omega (arith, rest.within); is = rest.is }
]

-- all fields of the members are still to be emptied as the freeing of a set begins
first_left : (members : List ℕ) (x f : ℕ) → 0 < times x members → IsLeftOf members (first_member (slice_get members 0)) x f
first_left members x f some = go (slice_get members 0) refl
  where
    go : (first : Option ℕ) → slice_get members 0 ≡ first → IsLeftOf members (first_member first) x f
    go None is = absurd (omega (arith, some, ap (times x) (nothing_first members is), times-nil x))
    go (Some y) is = let at = stands x members some in (at.place, omega arith, at.within, at.is, λ e. omega arith)

-- the number of the last set
abbrev pub last_number : State → ℕ
last_number s = length s.sets - 1

-- Nothing is at work, and a set is left.
module _ (w : Core) (crossing words : List ℕ) (v : Parts) (h : HasCleared w crossing words (still v)) (some : 0 < length v.counts.sets) where
  open v use {counts as s}

  l : HasLanded w crossing words (still v)
  l = h.landed

  idle : IsCleared v
  idle = h.clears.clearing

  refusable : IsRefusable s
  refusable = last_refusable v some l.counts idle

  empty : AreEmpty w.config.slots w.config.fields words s
  empty = landed_empty l

  judged : AreOrange s (last_number s) → cyclic_sum s (last_number s) ≡ 0 → IsJudged (landed_pending w words s) s (last_number s)
  judged orange none = record {
    kept = l.counts;
    apart = idle.apart;
    released = λ x below. ap (λ (c : Slot). c.released) (counted_slot s x below);
    count = λ x below. ap (λ (c : Slot). c.count) (counted_slot s x below);
    orange = orange;
    none = none;
  }

  -- a set that passes is given up, and its first member's first field is due
  given_lands : AreOrange s (last_number s) → cyclic_sum s (last_number s) ≡ 0 → IsFreeable s → (at : Option Member) → first_member (slice_get (last_set s.sets) 0) ≡ at
      → HasCome w crossing words (record { parts = (last_given v).parts; phase = freeing_at (record { fields = v.fields; at = at }) at })
  given_lands orange none f at first =
      let given = set_given_up (landed_pending w words s) (landed_pending w words (given_up s)) s (last_number s) l.accounted h.tests (judged orange none) (set_release (applied_pending w) words s) in
      let released : (x : ℕ) → one (slot_at (given_up s) x).released ≡ one (slot_at s x).released + times x (last_set s.sets) = λ x. given_released s x l.counts f in
      let many : length (given_up s).slots ≡ w.config.slots = given_many s ∙ l.slots in
      let before : (x : ℕ) → (slot_at (given_up s) x).released ≡ true → ((slot_at s x).released ≡ true) ⊎ (0 < times x (last_set s.sets))
      = λ x is. elim (cases_Bool (slot_at s x).released) [
        | inl old ↦ inl old
        | inr old ↦ inr (omega (arith, released x, ap one is, ap one old))
      ] in
      let headers : length w.headers ≡ w.config.slots = l.kept.headers in
      let places : length words ≡ w.config.slots * w.config.fields = l.many_words ∙ l.kept.sound.places ∙ ap (λ n. n * w.config.fields) headers in
      let due : begun_freeing (freeing_at (record { fields = v.fields; at = at }) at) ≡ first_member (slice_get (last_set s.sets) 0) = given_due v.fields at ∙ sym first in
      record {
        landed = record {
          stands = l.stands;
          kept = l.kept;
          way = l.way;
          still = l.still;
          older = l.older;
          mutators = l.mutators;
          accounted = given.0;
          greens = λ x green. l.greens x (given_greens s x green);
          uncounted = λ unstarted.
              let no_members : last_set s.sets ≡ [] = nothing_first (last_set s.sets) (first_none (slice_get (last_set s.sets) 0) (sym due ∙ unstarted)) in
              empty_uncounted (applied_pending w) words w.config.slots (given_up s) (some_fields l) many places (λ x f below within is. elim (before x is) [
                | inl old ↦ empty x f below within old
                | inr member ↦ absurd (omega (arith, member, ap (times x) no_members, times-nil x))
              ]) given.0;
          sound = l.sound;
          many_words = l.many_words;
          slots = many;
          fields = l.fields;
          policy = l.policy;
          counts = given_kept s some f.work l.counts;
          listed = λ x there. elim (cases_Bool (slot_at (given_up s) x).released) [ inl is ↦ is | inr not ↦ absurd (omega (arith, released x, ap one not, ap one (l.listed x there))) ];
          emptied = λ x f_ below within is. elim (before x is) [
            | inl old ↦ inr (inr (empty x f_ below within old))
            | inr member ↦ inr (inl (subst (λ ms. IsLeftOf ms (begun_freeing (freeing_at (record { fields = v.fields; at = at }) at)) x f_) (sym (given_work s f))
                (subst (λ o. IsLeftOf (last_set s.sets) o x f_) (sym due) (first_left (last_set s.sets) x f_ member))))
          ];
        };
        tests = given.1;
      }
    where
      given_due : (fields : ℕ) (o : Option Member) → begun_freeing (freeing_at (record { fields = fields; at = o }) o) ≡ o
      given_due fields None = refl
      given_due fields (Some a) = refl

  -- any other is refurbished
  refused_comes : (sets : Sets) → IsReady (refurbished_of s) → HasCome w crossing words (still (record v { counts = refurbished_of s; sets = sets }))
  refused_comes sets ready =
      let t : State = refurbished_of s in
      let r : LastRefurbished s t = refurbished_last s l.counts refusable in
      let same = alike_slots s t r.many (λ x. same_count r x) (λ x. same_released r x) in
      let alike = sets_test_alike (landed_pending w words s) (landed_pending w words t) s l.accounted h.tests (none_release (applied_pending w) words s t same) in
      record {
        landed = record {
          stands = l.stands;
          kept = l.kept;
          way = l.way;
          still = l.still;
          older = l.older;
          mutators = l.mutators;
          accounted = alike.0;
          greens = λ x green. l.greens x (refurbished_greens s t r x green);
          uncounted = λ none node pos is. (same node).0 ∙ l.uncounted refl node pos (sym (same node).1 ∙ is);
          sound = l.sound;
          many_words = l.many_words;
          slots = r.many ∙ l.slots;
          fields = l.fields;
          policy = l.policy;
          counts = refurbished_kept s refusable l.counts;
          listed = ready.free;
          emptied = λ x f below within is. inr (inr (empty x f below within (sym (same_released r x) ∙ is)));
        };
        tests = sets_test_refurbished (landed_pending w words t) s t l.counts r alike.1;
      }

  -- where the test of the last set comes to
  last_lands : HasCleared w crossing words (last_tested v)
  last_lands = cleared (last_by (HasCome w crossing words) v
      (λ passed. let says = verdict_passed s (last_number s) passed in given_lands says.0 says.1 (last_freeable v some passed l.counts idle) (first_member (slice_get (last_set s.sets) 0)) refl)
      (λ verdict. let ready = refurbished_ready v some l.counts idle in zeros_come true (refused_comes (counted_by verdict v.sets) ready) ready))
      (last_clear h.exchanged v some h.clears)

  pub tested_lands : (u : Begun) → IsTested v u → HasCleared w crossing words u
  tested_lands u tested = subst (HasCleared w crossing words) (sym (is_last_tested v u l.counts refusable tested)) last_lands

-- a release, or the freeing of a set, goes on
begun_unswept : (epoch : ℕ) (v : Parts) (phase : Phase) → IsClearing (record { parts = v; phase = Some phase }) → IsUnswept epoch phase
begun_unswept epoch v (Releasing m) clearing = record { way = refl; still = refl; applied = refl; older = refl; stands = λ s. refl; held = λ v. tt; between = tt; some = tt }
begun_unswept epoch v (Freeing m) clearing = record { way = refl; still = refl; applied = refl; older = refl; stands = λ s. refl; held = λ v. tt; between = tt; some = tt }
begun_unswept epoch v _ clearing = absurd clearing

-- and the sets that are left are to be tested
begun_tests : (p : Pending) (c : collectors.Private) (v : Parts) (phase : Phase) → IsClearing (record { parts = v; phase = Some phase }) → SetsTest p v.counts → HasCyclesAt p (with_parts c v) phase
begun_tests p c v (Releasing m) clearing tests = tests
begun_tests p c v (Freeing m) clearing tests = tests
begun_tests p c v _ clearing tests = absurd clearing

-- whatever follows a release, or the freeing of a set
pub clears_kept : (w : Core) (crossing words : List ℕ) (q : collectors.Private) → collector_kept.IsMachine q → (turn : Turn) {b : Begun} → HasCleared w crossing words b → ClearsOn w.collector q turn b → IsKept true (record w { crossing = crossing; words = words; collector = q })
clears_kept w crossing words q machine turn {b} h (ClearsOn.works phase is g) =
    let there : HasCleared w crossing words (record { parts = b.parts; phase = Some phase }) = subst (λ o. HasCleared w crossing words (record { parts = b.parts; phase = o })) is h in
    goes_on w crossing words q machine b.parts phase there.landed (begun_unswept w.epoch b.parts phase there.clears.clearing) (begun_tests (landed_pending w words b.parts.counts) w.collector b.parts phase there.clears.clearing there.tests) g.after
clears_kept w crossing words q machine turn {b} h (ClearsOn.tests c is some tested on) =
    clears_kept w crossing words q machine turn (tested_lands w crossing words b.parts (subst (λ o. HasCleared w crossing words (record { parts = b.parts; phase = o })) is h) some c tested) on
clears_kept w crossing words q machine turn {b} h (ClearsOn.tries is none due on) =
    let there : HasCleared w crossing words (still b.parts) = subst (λ o. HasCleared w crossing words (record { parts = b.parts; phase = o })) is h in
    trial_begins w crossing words q machine b.parts turn there.landed (clear_ready b.parts there.landed.counts there.clears.clearing none) on
clears_kept w crossing words q machine turn {b} h (ClearsOn.waits is none off on) =
    let there : HasCleared w crossing words (still b.parts) = subst (λ o. HasCleared w crossing words (record { parts = b.parts; phase = o })) is h in
    trial_waits w crossing words q machine b.parts turn there.landed (clear_ready b.parts there.landed.counts there.clears.clearing none) on
