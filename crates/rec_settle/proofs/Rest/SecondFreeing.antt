-- The freeing of a set in a heap at rest: a field of a member is exchanged, and the other sets stay unheld. Only Green slots come to the
-- zeros.
use Rattle.std.proofs.Common.{◌≡◌, ℕ, ◌+◌, ◌/◌, ◌<◌, ◌≤◌, true, Option, Some, None, List, [], ◌∷◌, ◌++◌, drop, length, refl, sym, ap, subst, ◌∙◌, arith, ◌%◌, inl, inr, slice_index_or}
use Rattle.std.proofs.lemmas.List.{drop_all, drop_more, get_or-replicate, get_or-set_other, length-set}
use Rattle.std.proofs.lemmas.Nat.{div-mul-add}
use Rattle.rec_word.proofs.FieldPlaces.{places_step, places_end}
use Rattle.rec_release.specs.CycleFree.{Machine}
use Rattle.rec_word.specs.Walk.{places_left}
use Rattle.rec_release.proofs.TakenOff.{ready_off}
use Rattle.rec_collector.proofs.Tidy.{tidy_off}
use Rattle.rec_core.proofs.TurnCases.{word_at, words_without}
use Rattle.rec_core.proofs.Freeing.{empties}
use Rattle.rec_core.proofs.Taken as taken
use Rattle.rec_settle.proofs.Rest.SecondBatch.{FreesOn, greens_released}
use Rattle.rec_settle.proofs.Rest.SecondReach.{green_zeros_rest, reached_still}
use Rattle.rec_settle.proofs.Rest.SettlingTests.{unheld_alike, unheld_cleared}
use Rattle.std.proofs.Math.Nat.{mod-lt, div-add-mod, mul_comm}
use Rattle.std.proofs.lemmas.Bool.{cases_eq}
use Rattle.rec_core.proofs.Common.{place_of, places_from, places_of, target_of, State, slot_at, Member, listed, IsAtWork, IsReady, taken_off, IsTidy, with_freed, parts_of, Freeing, field_behind, freed_by, freed_last, freed_listed, freed_on, member_behind, Core, sight, IsKept, is_green, times, word_in}
use Rattle.rec_settle.specs.Resting.{AreCounted, FreesRest, SetsRest, AreLeaves}
use Rattle.rec_settle.specs.Settling.{AreUnheld}
use Rattle.rec_release.proofs.Freeing.{off_work}
use Rattle.rec_collector.proofs.Freeing.{listed_ready}

-- no field of a Green slot leads anywhere
leaves_kept : (w : Core) → IsKept true w → AreLeaves w.config.fields w.words w.collector.counts
leaves_kept w kept place inside green =
    let fields : ℕ = w.config.fields in
    let wide : 0 < fields = kept.config.some_fields in
    let at : place ≡ place_of (place / fields) (place % fields) fields = sym (div-add-mod place fields) ∙ ap (λ n. n + place % fields) (mul_comm fields (place / fields)) in
    ap (λ n. target_of (slice_index_or w.words n 0)) at
    ∙ ap target_of (sym (word_in (sight w) (place / fields) (place % fields) (mod-lt place wide)) ∙ ap (λ ws. slice_index_or ws (place % fields) 0) (kept.sound.leaves (place / fields) (kept.greens (place / fields) green)) ∙ get_or-replicate fields (place % fields) 0 0 (mod-lt place wide))

-- the same member
same_member : {a b : Member} → ◌≡◌ {A = Option Member} (Some a) (Some b) → a ≡ b
same_member e = cc

-- sets rest the same once the members of a freed one are listed
rest_listed : (w : Core) (words : List ℕ) (s : State) → SetsRest w words [] s → SetsRest w words [] (listed s)
rest_listed w words s rested = record {
  unheld = unheld_alike w.config.fields words [] s (listed s) (record { set = λ x. refl; released = λ x. refl; colour = λ x i e o. o }) (λ x i e. refl) rested.unheld;
  found = rested.found;
  unnamed = rested.unnamed;
}

module _ (w : Core) (m : Machine) (a : Member) (kept : IsKept true w) (phase : w.collector.phase ≡ Freeing m) (at : m.at ≡ Some a)
    (counted : AreCounted w (words_without w a.slot a.field) (taken_off true w.collector.counts (target_of (word_at w a.slot a.field)))) (rested : FreesRest w w.words (record { machine = m; counts = w.collector.counts })) where
  open w use {collector as c}
  open (taken.emptied_at w a.slot a.field) use {place, word, words}
  open (empties w m a kept phase at) use {clearing as clear, fields as same_fields, may_empty as may}
  open may use {within, released}

  -- the counts then
  abbrev off : State
  off = taken_off true c.counts (target_of word)

  open (taken.most w a.slot a.field may true) use {green as still_green, released as still_released, set as still_set, slots as still_slots, work as still_work}

  -- the places that are still to be exchanged
  abbrev behind : List ℕ
  behind = places_from m.fields a.slot (a.field + 1) ++ places_of m.fields (drop (a.index + 1) off.work)

  were_left : places_left m.fields c.counts.work m.at ≡ place ∷ behind
  were_left =
      let work : c.counts.work ≡ off.work = sym still_work in
      let due : a.field < m.fields = omega (arith, within, same_fields) in
      ap (places_left m.fields c.counts.work) at
      ∙ ap (λ ps. ps ++ places_of m.fields (drop (a.index + 1) c.counts.work)) (places_step m.fields a.slot a.field due)
      ∙ ap (λ n. place_of a.slot a.field n ∷ (places_from m.fields a.slot (a.field + 1) ++ places_of m.fields (drop (a.index + 1) c.counts.work))) same_fields
      ∙ ap (λ xs. place ∷ (places_from m.fields a.slot (a.field + 1) ++ places_of m.fields (drop (a.index + 1) xs))) work

  unheld_then : AreUnheld w.config.fields words behind off
  unheld_then =
      let of : place / w.config.fields ≡ a.slot = div-mul-add a.slot w.config.fields a.field within in
      let gone : (slot_at c.counts (place / w.config.fields)).released ≡ true = ap (λ n. (slot_at c.counts n).released) of ∙ released in
      let before : AreUnheld w.config.fields w.words (place ∷ behind) c.counts = subst (λ left. AreUnheld w.config.fields w.words left c.counts) were_left rested.unheld in
      unheld_cleared w.config.fields w.words behind c.counts place (taken.inside w a.slot a.field may) gone before

  rested_then : SetsRest w words behind off
  rested_then = record {
    unheld = unheld_then;
    found = λ x unreleased other none unreached. rested.found x (sym (still_released x) ∙ unreleased) (sym (still_green x) ∙ other) (sym (still_set x) ∙ none)
        (λ reached. unreached (reached_still w kept a.slot a.field within released x reached));
    unnamed = λ x i is. rested.unnamed x i (sym (still_set x) ∙ is);
  }

  ready : IsReady off
  ready = ready_off true c.counts (target_of word) clear.freeing.ready

  -- only Green slots come to the zeros
  green_zeros : (x : ℕ) → 0 < times x off.zeros → is_green (slot_at off x).colour ≡ true
  green_zeros =
      let tidy : IsTidy c.fields off None = tidy_off true c.counts (target_of word) None (taken.counted_word w a.slot a.field may) clear.freeing.ready clear.freeing.released clear.tidy in
      green_zeros_rest w words behind off (still_slots ∙ kept.collector.slots) ready.zeros tidy.apart counted rested_then

  -- no field of one leads anywhere
  leaves : AreLeaves w.config.fields words off
  leaves p inside green = elim (cases_eq p place) [
    | inl same ↦ ap (λ n. target_of (slice_index_or words n 0)) same ∙ ap target_of (taken.own_empty w a.slot a.field may)
    | inr other ↦ ap target_of (get_or-set_other w.words place p 0 0 other) ∙ leaves_kept w kept p (omega (arith, inside, length-set w.words place 0)) (sym (still_green (p / w.config.fields)) ∙ green)
  ]

  -- the next field of the member follows
  on : FreesOn w words (freed_on m (parts_of c) word (field_behind a))
  on = rested_then

  -- after its last field the others follow
  others : m.fields ≤ a.field + 1 → behind ≡ places_of m.fields (drop (a.index + 1) off.work)
  others last = ap (λ ps. ps ++ places_of m.fields (drop (a.index + 1) off.work)) (places_end m.fields a.slot (a.field + 1) last)

  -- the first field of the next member follows
  next : m.fields ≤ a.field + 1 → a.index + 1 < length off.work → FreesOn w words (freed_on m (parts_of c) word (member_behind off.work a))
  next last more =
      let left : behind ≡ places_left m.fields off.work (Some (member_behind off.work a)) = others last ∙ ap (places_of m.fields) (drop_more off.work (a.index + 1) 0 more) in
      subst (λ ps. SetsRest w words ps off) left rested_then

  -- the set is freed
  freed : m.fields ≤ a.field + 1 → length off.work ≤ a.index + 1 → FreesOn w words (freed_last (parts_of c) word)
  freed last past =
      let left : behind ≡ [] = others last ∙ ap (places_of m.fields) (drop_all (a.index + 1) off.work past) in
      let off_at_work : IsAtWork (record { fields = m.fields; at = Some a }) off = off_work m.fields c.counts (target_of word) a (subst (λ o. IsAtWork (record { fields = m.fields; at = o }) c.counts) at clear.freeing) in
      greens_released w words true (freed_listed (parts_of c) word) (listed_ready (record { fields = m.fields; at = Some a }) off off_at_work) leaves green_zeros (rest_listed w words off (subst (λ ps. SetsRest w words ps off) left rested_then))

  -- The field of a member is exchanged.
  pub frees_rest_more : FreesOn w (words_without w a.slot a.field) (with_freed m (parts_of w.collector) (word_at w a.slot a.field))
  frees_rest_more = freed_by (FreesOn w words) m (parts_of c) word clear.busy
      (λ b e more. let same : a ≡ b = same_member (sym at ∙ e) in subst (λ d. FreesOn w words (freed_on m (parts_of c) word (field_behind d))) same on)
      (λ b e last more.
      let same : a ≡ b = same_member (sym at ∙ e) in
      subst (λ d. FreesOn w words (freed_on m (parts_of c) word (member_behind off.work d))) same (next (omega (arith, last, ap (λ (d : Member). d.field) same)) (omega (arith, more, ap (λ (d : Member). d.index) same))))
      (λ b e last past. let same : a ≡ b = same_member (sym at ∙ e) in freed (omega (arith, last, ap (λ (d : Member). d.field) same)) (omega (arith, past, ap (λ (d : Member). d.index) same)))
