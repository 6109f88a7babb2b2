-- A word came out of a field of a member of the set that is freed: its target is lowered or decremented, and the next field follows. With
-- the last one all members go to the free list, and the first of the zeros is released.
use Rattle.std.proofs.Common.{◌≡◌, ◌⊎◌, inl, inr, ℕ, ◌+◌, ◌*◌, ◌<◌, ◌≤◌, true, Option, None, Some, length, slice_index_or, refl, sym, ap, subst, ◌∙◌, arith}
use Rattle.std.proofs.lemmas.Bool.{cases_eq}
use Rattle.std.proofs.lemmas.List.{length-set}
use Rattle.rec_core.proofs.Common.{place_of, target_of, HasUncountedReleased, State, slot_at, times, in_range_once, times_at, Member, IsAtWork, listed, IsReady, IsFreeing, with_freed, parts_of, Phase, Freeing, field_behind, freed_by, freed_last, freed_on, member_behind, Core, IsLeftOf, IsKept}
use Rattle.rec_release.specs.CycleFree.{Machine}
use Rattle.rec_release.proofs.Freeing.{off_work}
use Rattle.rec_release.proofs.Kept.{members_listed}
use Rattle.rec_collector.specs.Kept as collector_kept
use Rattle.rec_collector.proofs.Freeing.{freed_clears, listed_ready}
use Rattle.rec_core.proofs.Landed.{landed_pending, HasCleared, applied_pending, begun_freeing}
use Rattle.rec_core.proofs.Landings.{IsUnswept}
use Rattle.rec_core.proofs.Taken as taken
use Rattle.rec_core.proofs.Turns.{cycles_in, emptied_in, now_at}
use Rattle.rec_core.proofs.Zeros.{HasCome, AreEmpty, cleared, empty_uncounted, listed_come, zeros_come}

-- what the freeing of a set knows of the field that it comes to
pub record Empties (w : Core) (m : Machine) (a : Member) : Type 0 where
  pub clearing : IsFreeing (parts_of w.collector) m
  pub fields : m.fields ≡ w.config.fields
  pub may_empty : taken.MayEmpty w a.slot a.field

module _ (w : Core) (m : Machine) (a : Member) (kept : IsKept true w) (phase : w.collector.phase ≡ Freeing m) (at : m.at ≡ Some a) where
  open w use {collector as c}
  open (taken.emptied_at w a.slot a.field) use {place, word, words}

  now : collector_kept.IsTesting c (Freeing m)
  now = now_at w (Freeing m) kept phase

  at_work : IsAtWork (record { fields = m.fields; at = Some a }) c.counts
  at_work = subst (λ o. IsAtWork (record { fields = m.fields; at = o }) c.counts) at now.clearing.freeing

  -- the field may be emptied, as its member stands in the work list
  pub empties : Empties w m a
  empties =
      let fields : m.fields ≡ w.config.fields = now.clearing.fields ∙ kept.collector.fields in
      let in_work : 0 < times a.slot c.counts.work = subst (λ x. 0 < times x c.counts.work) (sym at_work.held.slot) (times_at c.counts.work a.index at_work.held.index) in
      let there : a.slot < length c.counts.slots = in_range_once (length c.counts.slots) c.counts.work a.slot kept.collector.machine.counts.work_once in_work in
      record {
        clearing = now.clearing;
        fields = fields;
        may_empty = record {
          kept = kept;
          unswept = subst (IsUnswept w.epoch) (sym phase) (record { way = refl; still = refl; applied = refl; older = refl; stands = λ s. refl; held = λ v. tt; between = tt; some = tt });
          below = omega (arith, there, kept.collector.slots);
          within = omega (arith, at_work.field, fields);
          released = at_work.released a.slot in_work;
        };
      }

  open empties use {clearing, fields, may_empty}

  -- the counts then
  abbrev off : State
  off = taken.off w a.slot a.field may_empty true

  open (taken.most w a.slot a.field may_empty true) use {free as still_free, released as still_released, slots as still_slots, work as still_work}

  -- what was still to be emptied of the set, or is empty
  was_left : (x f : ℕ) → x < w.config.slots → f < w.config.fields → (slot_at off x).released ≡ true → IsLeftOf c.counts.work (Some a) x f ⊎ (slice_index_or words (place_of x f w.config.fields) 0 ≡ 0)
  was_left x f there in_range is = elim (emptied_in w (Freeing m) kept.whole phase x f there in_range (sym (still_released x) ∙ is)) [
    | inl due ↦ absurd due
    | inr rest ↦ elim rest [
      | inl due ↦ inl (subst (λ o. IsLeftOf c.counts.work o x f) at due)
      | inr none ↦ inr (taken.still_empty w a.slot a.field may_empty x f none)
    ]
  ]

  -- this field is empty
  own_empty : (x f index : ℕ) → x ≡ slice_index_or c.counts.work index 0 → index ≡ a.index → f ≡ a.field → slice_index_or words (place_of x f w.config.fields) 0 ≡ 0
  own_empty x f index slot same_index same_field =
      let same : x ≡ a.slot = slot ∙ ap (λ i. slice_index_or c.counts.work i 0) same_index ∙ sym at_work.held.slot in
      ap (λ n. slice_index_or words n 0) (ap (λ n. place_of n f w.config.fields) same ∙ ap (λ n. place_of a.slot n w.config.fields) same_field) ∙ taken.own_empty w a.slot a.field may_empty

  came : (begun : Option Phase) → (begun_freeing begun ≡ None → HasUncountedReleased (landed_pending w words off))
      → ((x f : ℕ) → x < w.config.slots → f < w.config.fields → (slot_at off x).released ≡ true → IsLeftOf c.counts.work (begun_freeing begun) x f ⊎ (slice_index_or words (place_of x f w.config.fields) 0 ≡ 0))
      → HasCome w w.crossing words (record { parts = record (parts_of c) { counts = off }; phase = begun })
  came begun uncounted due =
      taken.off_comes w a.slot a.field may_empty true begun uncounted clearing.freeing.ready.zeros (cycles_in w (Freeing m) kept.whole phase)
      (λ x f there in_range is. inr (subst (λ work. IsLeftOf work (begun_freeing begun) x f ⊎ (slice_index_or words (place_of x f w.config.fields) 0 ≡ 0)) (sym still_work) (due x f there in_range is)))

  -- a set is still freed
  busy : {b : Member} → ◌≡◌ {A = Option Member} (Some b) None → HasUncountedReleased (landed_pending w words off)
  busy e = absurd (cc)

  -- the next field of the member follows
  on : HasCome w w.crossing words (freed_on m (parts_of c) word (field_behind a))
  on = came (freed_on m (parts_of c) word (field_behind a)).phase busy (λ x f there in_range is. elim (was_left x f there in_range is) [
    | inl due ↦ elim (cases_eq due.0 a.index) [
      | inl same ↦ elim (cases_eq f a.field) [
        | inl own ↦ inr (own_empty x f due.0 due.3 same own)
        | inr other ↦ inl (due.0, due.1, due.2, due.3, λ e. let later : a.field ≤ f = due.4 e in omega arith)
      ]
      | inr other ↦ inl (due.0, due.1, due.2, due.3, λ e. absurd (other e))
    ]
    | inr none ↦ inr none
  ])

  -- what is left once the last field of the member is out
  left_behind : w.config.fields ≤ a.field + 1 → (x f : ℕ) → x < w.config.slots → f < w.config.fields → (slot_at off x).released ≡ true → IsLeftOf c.counts.work (Some (member_behind off.work a)) x f ⊎ (slice_index_or words (place_of x f w.config.fields) 0 ≡ 0)
  left_behind last x f there in_range is = elim (was_left x f there in_range is) [
    | inl due ↦ elim (cases_eq due.0 a.index) [
      | inl same ↦ let later : a.field ≤ f = due.4 same in inr (own_empty x f due.0 due.3 same (omega arith))
      | inr other ↦ let from : a.index ≤ due.0 = due.1 in inl (due.0, omega arith, due.2, due.3, λ e. omega arith)
    ]
    | inr none ↦ inr none
  ]

  -- the first field of the next member follows
  next : m.fields ≤ a.field + 1 → HasCome w w.crossing words (freed_on m (parts_of c) word (member_behind off.work a))
  next last = came (freed_on m (parts_of c) word (member_behind off.work a)).phase busy (left_behind (omega (arith, last, fields)))

  -- the set is freed: all its members' fields are empty, they go to the free list, and the first of the zeros is released
  freed : m.fields ≤ a.field + 1 → length off.work ≤ a.index + 1 → HasCome w w.crossing words (freed_last (parts_of c) word)
  freed last behind =
      let wide : 0 < w.config.fields = omega (arith, may_empty.within) in
      let many : length off.slots ≡ w.config.slots = still_slots ∙ kept.collector.slots in
      let headers : length w.headers ≡ w.config.slots = kept.headers in
      let places : length words ≡ w.config.slots * w.config.fields = length-set w.words place 0 ∙ kept.sound.places ∙ ap (λ n. n * w.config.fields) headers in
      let empty : AreEmpty w.config.slots w.config.fields words off
      = λ x f there in_range is. elim (left_behind (omega (arith, last, fields)) x f there in_range is) [
        | inl due ↦ let none : length c.counts.work ≤ a.index + 1 = omega (arith, behind, ap length still_work) in absurd (omega (arith, due.1, due.2, none))
        | inr none ↦ none
      ] in
      let h = came None (λ _. empty_uncounted (applied_pending w) words w.config.slots off wide many places empty (taken.off_accounted w a.slot a.field may_empty true)) (λ x f there in_range is. inr (empty x f there in_range is)) in
      let off_at_work : IsAtWork (record { fields = m.fields; at = Some a }) off = off_work m.fields c.counts (target_of word) a at_work in
      let ready : IsReady (listed off) = listed_ready (record { fields = m.fields; at = Some a }) off off_at_work in
      zeros_come true (listed_come (listed off) h refl refl ready.free (members_listed off off_at_work.unlisted h.landed.counts)) ready

  freed_comes : HasCome w w.crossing words (with_freed m (parts_of c) word)
  freed_comes = freed_by (HasCome w w.crossing words) m (parts_of c) word clearing.busy
      (λ b e more. let same : a ≡ b = same_at (sym at ∙ e) in subst (λ d. HasCome w w.crossing words (freed_on m (parts_of c) word (field_behind d))) same on)
      (λ b e last _. let same : a ≡ b = same_at (sym at ∙ e) in subst (λ d. HasCome w w.crossing words (freed_on m (parts_of c) word (member_behind off.work d))) same (next (omega (arith, last, ap (λ (d : Member). d.field) same))))
      (λ b e last behind. let same : a ≡ b = same_at (sym at ∙ e) in freed (omega (arith, last, ap (λ (d : Member). d.field) same)) (omega (arith, behind, ap (λ (d : Member). d.index) same)))
    where
      same_at : {x y : Member} → ◌≡◌ {A = Option Member} (Some x) (Some y) → x ≡ y
      same_at e = cc

  -- where the freeing comes to
  pub freed_lands : HasCleared w w.crossing words (with_freed m (parts_of c) word)
  freed_lands = cleared freed_comes (freed_clears m (parts_of c) word now.exchanged (taken.counted_word w a.slot a.field may_empty)
      (record { wide = kept.collector.machine.some_fields; counts = kept.collector.machine.counts; clearing = clearing; exchanges = now.exchanges }))
