-- A word came out of a field of the slot that is released: its target is lowered or decremented, and the next field follows, or the next
-- of the zeros is released.
use Rattle.std.proofs.Common.{◌≡◌, ◌⊎◌, inl, inr, ℕ, ◌+◌, ◌<◌, ◌≤◌, true, Option, None, Some, length, slice_index_or, refl, sym, ap, subst, ◌∙◌, arith}
use Rattle.std.proofs.lemmas.Bool.{cases_eq}
use Rattle.rec_core.proofs.Common.{place_of, target_of, State, slot_at, times, At, IsReady, emptied, IsReleasing, with_released, parts_of, Phase, Releasing, released_by, released_last, released_more, Core, IsLeft, IsKept, freeing_due}
use Rattle.rec_release.specs.Release.{Machine, IsAtWork}
use Rattle.rec_release.proofs.Keeping.{emptied_sets, ready_emptied}
use Rattle.rec_release.proofs.TakenOff.{ready_off}
use Rattle.rec_release.proofs.Kept.{emptied_kept}
use Rattle.rec_collector.specs.Kept as collector_kept
use Rattle.rec_collector.proofs.Clearing.{released_clears}
use Rattle.rec_core.proofs.Counts.{emptied_alike}
use Rattle.rec_core.proofs.Landed.{HasCleared, begun_freeing, begun_release}
use Rattle.rec_core.proofs.Landings.{IsUnswept}
use Rattle.rec_core.proofs.Taken as taken
use Rattle.rec_core.proofs.Turns.{cycles_in, emptied_in, now_at}
use Rattle.rec_core.proofs.Zeros.{HasCome, cleared, listed_come, next_come}

module _ (w : Core) (m : Machine) (a : At) (kept : IsKept true w) (phase : w.collector.phase ≡ Releasing m) (at : m.at ≡ Some a) where
  open w use {collector as c}
  open (taken.emptied_at w a.slot a.field) use {place, word, words}

  now : collector_kept.IsTesting c (Releasing m)
  now = now_at w (Releasing m) kept phase

  clearing : IsReleasing (parts_of c) m
  clearing = now.clearing

  at_work : IsAtWork (record { fields = m.fields; at = Some a; lowers = m.lowers }) c.counts
  at_work = subst (λ o. IsAtWork (record { fields = m.fields; at = o; lowers = m.lowers }) c.counts) at clearing.release

  -- its field may be emptied
  pub may_empty : taken.MayEmpty w a.slot a.field
  may_empty = record {
    kept = kept;
    unswept = subst (IsUnswept w.epoch) (sym phase) (record { way = refl; still = refl; applied = refl; older = refl; stands = λ s. refl; held = λ v. tt; between = tt; some = tt });
    below = omega (arith, at_work.held.in_range, kept.collector.slots);
    within = omega (arith, at_work.field, clearing.fields, kept.collector.fields);
    released = at_work.held.released;
  }

  -- the counts then
  abbrev off : State
  off = taken.off w a.slot a.field may_empty m.lowers

  open (taken.most w a.slot a.field may_empty m.lowers) use {free as still_free, released as still_released, slots as still_slots}

  -- what is left to be emptied: less by this field
  left : (x f : ℕ) → x < w.config.slots → f < w.config.fields → (slot_at off x).released ≡ true → IsLeft (Some (record { slot = a.slot; field = a.field + 1 })) x f ⊎ (slice_index_or words (place_of x f w.config.fields) 0 ≡ 0)
  left x f there in_range is = elim (emptied_in w (Releasing m) kept.whole phase x f there in_range (sym (still_released x) ∙ is)) [
    | inl due ↦
        let own : IsLeft (Some a) x f = subst (λ o. IsLeft o x f) at due in
        elim (cases_eq f a.field) [
          | inl same ↦ inr (ap (λ n. slice_index_or words n 0) (ap (λ n. place_of n f w.config.fields) own.0 ∙ ap (λ n. place_of a.slot n w.config.fields) same) ∙ taken.own_empty w a.slot a.field may_empty)
          | inr other ↦ inl (own.0, omega (arith, own.1))
        ]
    | inr rest ↦ elim rest [
      | inl due ↦ absurd due
      | inr none ↦ inr (taken.still_empty w a.slot a.field may_empty x f none)
    ]
  ]

  came : (begun : Option Phase) → begun_freeing begun ≡ None
      → ((x f : ℕ) → x < w.config.slots → f < w.config.fields → (slot_at off x).released ≡ true → IsLeft (begun_release begun) x f ⊎ (slice_index_or words (place_of x f w.config.fields) 0 ≡ 0))
      → HasCome w w.crossing words (record { parts = record (parts_of c) { counts = off }; phase = begun })
  came begun unfreed due =
      taken.off_comes w a.slot a.field may_empty m.lowers begun (λ none. taken.off_uncounted w a.slot a.field may_empty m.lowers (kept.uncounted (ap freeing_due phase))) clearing.release.ready.zeros (cycles_in w (Releasing m) kept.whole phase)
      (λ x f there in_range is. elim (due x f there in_range is) [ inl l ↦ inl l | inr none ↦ inr (inr none) ])

  -- the next field of the slot follows
  on : HasCome w w.crossing words (released_more m (parts_of c) word a)
  on = came (released_more m (parts_of c) word a).phase refl left

  -- or the slot is emptied, and the next of the zeros is released
  next : m.fields ≤ a.field + 1 → HasCome w w.crossing words (released_last m (parts_of c) word a)
  next last =
      let h = came None refl (λ x f there in_range is. elim (left x f there in_range is) [ inl due ↦ absurd (omega (arith, due.1, in_range, last, clearing.fields, kept.collector.fields)) | inr e ↦ inr e ]) in
      let ready : IsReady (emptied off a.slot) = ready_emptied off a.slot (still_released a.slot ∙ at_work.held.released) (ready_off m.lowers c.counts (target_of word) clearing.release.ready) in
      let many : length off.slots ≡ w.config.slots = still_slots ∙ kept.collector.slots in
      next_come m.fields m.lowers (listed_come (emptied off a.slot) h (emptied_alike off a.slot) (emptied_sets off a.slot) ready.free (emptied_kept off a.slot (omega (arith, may_empty.below, many)) (ap (times a.slot) still_free ∙ at_work.held.unlisted) h.landed.counts)) ready

  released_comes : HasCome w w.crossing words (with_released m (parts_of c) word)
  released_comes = released_by (HasCome w w.crossing words) m (parts_of c) word clearing.busy
      (λ b e more. let same : a ≡ b = same_at (sym at ∙ e) in subst (λ d. HasCome w w.crossing words (released_more m (parts_of c) word d)) same on)
      (λ b e last. let same : a ≡ b = same_at (sym at ∙ e) in subst (λ d. HasCome w w.crossing words (released_last m (parts_of c) word d)) same (next (omega (arith, last, ap (λ (d : At). d.field) same))))
    where
      same_at : {x y : At} → ◌≡◌ {A = Option At} (Some x) (Some y) → x ≡ y
      same_at e = cc

  -- where the release comes to
  pub released_lands : HasCleared w w.crossing words (with_released m (parts_of c) word)
  released_lands = cleared released_comes (released_clears m (parts_of c) word now.exchanged (taken.counted_word w a.slot a.field may_empty)
      (record { wide = kept.collector.machine.some_fields; counts = kept.collector.machine.counts; clearing = clearing; exchanges = now.exchanges }))
