-- From a batch to the next trial: what holds where the next of the zeros is released, and where a word came out of a released slot.
use Rattle.std.proofs.Common.{◌≡◌, ℕ, ◌+◌, ◌<◌, Bool, None, Some, List, [], ◌∷◌, refl, arith, ◌∙◌, ap, subst, true, false, Option, IsNone, length, leb, ◌≤◌, ◌*◌}
use Rattle.rec_collector.proofs.Common.{Slot, State, IsKept, slot_at, times, one, times-nil, emptied, next_from, without_first, IsReady, ready_off, KeepsMost, release_left, HasExchanged, IsClearing, IsReleasing, IsTidy, with_released, Parts, Begun, zeros_released, with_release, Releasing}
use Rattle.rec_word.specs.Word.{target_of}
use Rattle.rec_release.specs.Release.{started_of as zeros_started}
use Rattle.rec_release.specs.declared.at.At.{At}
use Rattle.rec_release.proofs.Keeping.{each_next, emptied_length, first_length, first_zero, none_left, FirstZero, held_off, ready_emptied, work_next, work_on}
use Rattle.rec_release.proofs.Kept.{off_kept, emptied_kept, first_kept}
use Rattle.rec_collector.proofs.Counting.{Counted}
use Rattle.rec_collector.proofs.Exchanging.{exchanged_as, first_are}
use Rattle.rec_collector.proofs.Goings.{emptied_same, next_begun, released_by, released_emptied, released_last, released_more, released_most, released_off}
use Rattle.rec_collector.proofs.Tidy.{tidy_emptied, tidy_first, tidy_off}
use Rattle.rec_release.specs.Release as releases
use Rattle.rec_counts.specs.Colour.{is_green}

-- A collection has come to this, between a batch and the next trial, with so many fields exchanged at most.
pub record Clears (b : Begun) (exchanged : ℕ) : Type 0 where
  pub wide : 0 < b.parts.fields
  pub counts : IsKept b.parts.counts
  pub clearing : IsClearing b
  pub exchanges : HasExchanged b.parts b.phase exchanged

-- The zeros were released up to this field: what holds of the counts then.
record HasReleased (w : Parts) (n : ℕ) (at : Option At) (u : State) : Type 0 where
  pub counts : IsKept u
  pub tidy : IsTidy w.fields u at
  pub work : u.work ≡ []
  pub gone : List ℕ
  pub are : (x : ℕ) → times x gone + one (leb (length u.slots) x) ≡ one (slot_at u x).released
  pub few : n + release_left w.fields at ≤ length gone * w.fields

-- a Green zero is released, and empty at once
green_released : (w : Parts) (n : ℕ) (s : State) (z : ℕ) (zs : List ℕ) → s.zeros ≡ z ∷ zs → IsReady s → is_green (slot_at s z).colour ≡ true → HasReleased w n None s → HasReleased w n None (emptied (without_first (z ∷ zs) s) z)
green_released w n s z zs e ready green h =
    let u : State = without_first (z ∷ zs) s in
    let first : FirstZero s z zs = first_zero s z zs e ready in
    let same = emptied_same u z in
    record {
      counts = emptied_kept u z (omega (arith, first.in_range, first_length (z ∷ zs) s)) first.unlisted (first_kept (z ∷ zs) s e h.counts);
      tidy = tidy_emptied u (record { slot = z; field = 0 }) (tidy_first (z ∷ zs) s e ready.zeros h.tidy);
      work = same.1 ∙ h.work;
      gone = z ∷ h.gone;
      are = λ x. omega (arith, first_are z zs s h.gone e ready h.are x, ap (λ k. one (leb k x)) (emptied_length u z), ap (λ (v : Slot). one v.released) (same.0 x));
      few = omega (arith, h.few);
    }

-- the first that isn't Green is released
other_released : (w : Parts) (n : ℕ) (s : State) (z : ℕ) (zs : List ℕ) → s.zeros ≡ z ∷ zs → IsReady s → is_green (slot_at s z).colour ≡ false → HasReleased w n None s → HasReleased w n (Some (record { slot = z; field = 0 })) (without_first (z ∷ zs) s)
other_released w n s z zs e ready green h = record {
  counts = first_kept (z ∷ zs) s e h.counts;
  tidy = tidy_first (z ∷ zs) s e ready.zeros h.tidy;
  work = h.work;
  gone = z ∷ h.gone;
  are = first_are z zs s h.gone e ready h.are;
  few = omega (arith, h.few);
}

-- what was begun then
released_begun : (fields : ℕ) (lowers : Bool) (w : Parts) (n : ℕ) (at : Option At) (u : State) → fields ≡ w.fields → 0 < w.fields → HasReleased w n at u → releases.IsAtWork (record { fields = fields; at = at; lowers = lowers }) u
    → (IsNone (releases.next_of (record { fields = fields; at = at; lowers = lowers })) → u.zeros ≡ []) → Clears (with_release w (releases.work_of fields lowers (record { at = at; counts = u }))) n
unfolding releases.next_of
released_begun fields lowers w n None u same wide h r none = record {
  wide = wide;
  counts = h.counts;
  clearing = record { tidy = h.tidy; ready = r.ready; zeros = none refl; work = h.work };
  exchanges = record { gone = h.gone; are = h.are; few = h.few };
}
released_begun fields lowers w n (Some a) u same wide h r none = record {
  wide = wide;
  counts = h.counts;
  clearing = record { fields = same; busy = refl; tidy = h.tidy; release = r; work = h.work };
  exchanges = record { gone = h.gone; are = h.are; few = h.few };
}

-- the next of the zeros is released
next_clears : (fields : ℕ) (lowers : Bool) (w : Parts) (n : ℕ) → fields ≡ w.fields → 0 < w.fields → IsKept w.counts → IsTidy w.fields w.counts None → IsReady w.counts → w.counts.work ≡ [] → HasExchanged w None n → Clears (next_begun fields lowers w) n
next_clears fields lowers w n same wide k tidy ready work h =
    let s : State = w.counts in
    released_begun fields lowers w n (next_from s.zeros s).at (next_from s.zeros s).counts same wide
    (each_next (HasReleased w n) (green_released w n) (other_released w n) s.zeros s refl ready (record { counts = k; tidy = tidy; work = work; gone = h.gone; are = h.are; few = h.few }))
    (work_next fields lowers s (omega (arith, wide, same)) ready)
    (none_left fields lowers s)

pub zeros_clear : (lowers : Bool) (w : Parts) (n : ℕ) → 0 < w.fields → IsKept w.counts → IsTidy w.fields w.counts None → IsReady w.counts → w.counts.work ≡ [] → HasExchanged w None n → Clears (zeros_released lowers w) n
unfolding zeros_started
zeros_clear lowers w n wide k tidy ready work h = next_clears w.fields lowers w n refl wide k tidy ready work h

-- another field of the same slot is due
tidy_more : {fields : ℕ} → (s : State) (a : At) → IsTidy fields s (Some a) → IsTidy fields s (Some (record { slot = a.slot; field = a.field + 1 }))
tidy_more s a i = record { untried = i.untried; apart = i.apart; all_zeros = i.all_zeros; outside = i.outside; listed = i.listed; unbuffered = i.unbuffered; held = i.held }

-- a word came out of a field of a released slot
module _ (m : releases.Machine) (w : Parts) (word n : ℕ) (counted : Counted w.counts word) (c : IsReleasing w m) (k : IsKept w.counts) (h : HasExchanged w (Some (Releasing m)) n) (a : At) (e : m.at ≡ Some a) where
  abbrev off : State
  off = released_off m w word

  most : KeepsMost w.counts off
  most = released_most m w word

  at_work : releases.IsAtWork (record { fields = m.fields; at = Some a; lowers = m.lowers }) w.counts
  at_work = subst (λ o. releases.IsAtWork (record { fields = m.fields; at = o; lowers = m.lowers }) w.counts) e c.release

  work : off.work ≡ []
  work = most.work ∙ c.work

  tidy : IsTidy w.fields off (Some a)
  tidy = subst (IsTidy w.fields off) e (tidy_off m.lowers w.counts (target_of word) m.at counted c.release.ready (λ x l. absurd (omega (arith, l, ap (times x) c.work, times-nil x))) c.tidy)

  kept : IsKept off
  kept = off_kept m.lowers w.counts (target_of word) counted c.release.ready.zeros k

  more_clears : 0 < w.fields → a.field + 1 < m.fields → Clears (released_more m w word a) (n + 1)
  more_clears wide l = record {
    wide = wide;
    counts = kept;
    clearing = record { fields = c.fields; busy = refl; tidy = tidy_more off a tidy; release = work_on m.fields m.lowers a w.counts (target_of word) at_work l; work = work };
    exchanges = exchanged_as w off n (n + 1) most.slots most.released (omega (arith, l, c.fields, ap (release_left w.fields) e)) h;
  }

  last_clears : 0 < w.fields → Clears (released_last m w word a) (n + 1)
  last_clears wide =
      let held : releases.IsHeld off a = held_off m.lowers w.counts (target_of word) a at_work.held in
      let same = emptied_same off a.slot in
      next_clears m.fields m.lowers (released_emptied m w word a) (n + 1) c.fields wide (emptied_kept off a.slot held.in_range held.unlisted kept) (tidy_emptied off a tidy)
      (ready_emptied off a.slot held.released (ready_off m.lowers w.counts (target_of word) c.release.ready)) (same.1 ∙ work)
      (exchanged_as w (emptied off a.slot) n (n + 1) (emptied_length off a.slot ∙ most.slots) (λ x. ap (λ (v : Slot). v.released) (same.0 x) ∙ most.released x) (omega (arith, at_work.field, c.fields, ap (release_left w.fields) e)) h)

pub released_clears : (m : releases.Machine) (w : Parts) (word n : ℕ) → Counted w.counts word → Clears (record { parts = w; phase = Some (Releasing m) }) n → Clears (with_released m w word) (n + 1)
released_clears m w word n counted c = released_by (λ b. Clears b (n + 1)) m w word c.clearing.busy
    (λ a e l. more_clears m w word n counted c.clearing c.counts c.exchanges a e c.wide l)
    (λ a e l. last_clears m w word n counted c.clearing c.counts c.exchanges a e c.wide)
