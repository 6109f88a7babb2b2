-- What backs a set that waits for its tests does so after a word came out of a field of a released slot, and after a batch.
use Rattle.std.proofs.Common.{◌≡◌, ◌≢◌, inl, inr, ℕ, ◌+◌, ◌<◌, true, false, List, [], length, map, slice_index_or, slice_set, sym, ap, ◌∙◌, arith}
use Rattle.std.proofs.lemmas.Bool.{cases_lt, false≢true}
use Rattle.std.proofs.lemmas.List.{get_or_past, get_or-set_other}
use Rattle.rec_core.proofs.Common.{place_of, target_of, State, slot_at, absent, IsApart, Contents, named, old_target, Opening, Returning, Core, sight, IsKeptBy, stand_at, Slot}
use Rattle.rec_counts.specs.Batch.{is_touched, names}
use Rattle.rec_counts.specs.declared.colour.Colour.TheVariants.{Orange}
use Rattle.rec_counts.specs.Targets.{held, taken}
use Rattle.rec_counts.proofs.Naming.{added_parts, named-nil}
use Rattle.rec_counts.proofs.Told.{told_even, written_told}
use Rattle.rec_collector.specs.Private as collectors
use Rattle.rec_collector.proofs.Following.{none_released, rows_alike}
use Rattle.rec_core.proofs.Applying.{counted, is_counted}
use Rattle.rec_core.proofs.Sums.{some_of}
use Rattle.rec_core.proofs.Turns.{now_in}
use Rattle.rec_word.proofs.FieldPlaces.{one_place}
use Rattle.rec_prompt.specs.Cover.{IsPending}
use Rattle.rec_prompt.proofs.Backing.{AreBacked, backed_stays}
use Rattle.rec_prompt.proofs.Batch.{at_most, IsLate, told_newer, told_older}
use Rattle.rec_prompt.proofs.Fading.{Fades}

-- Once the batch is applied, what is pending is late. A released slot isn't Orange, so no path within a set of Orange members is cut.
pub backed_cut : (v : Core) (slot field : ℕ) → field < v.config.fields → (slot_at v.collector.counts slot).released ≡ true → IsApart v.collector.counts → ((x : ℕ) → IsPending v x → IsLate v x)
    → (t : State) → Fades v.collector.counts t → AreBacked (sight v) (IsPending v) v.collector.counts → AreBacked (sight (record v { words = slice_set v.words (place_of slot field v.config.fields) 0 })) (IsLate v) t
backed_cut v slot field within gone apart late t f = backed_stays (sight v) (sight (record v { words = slice_set v.words (place_of slot field v.config.fields) 0 })) (IsPending v) (IsLate v) v.collector.counts t f
    (λ k orange x member is. late x is)
    (λ k orange from x there member (g, inside, leads). inl (g, inside, ap target_of (get_or-set_other v.words (place_of slot field v.config.fields) (place_of from g v.config.fields) 0 0 (λ same. not_released from (f.oranges from (orange from there)) (one_place v.config.fields from slot g field inside within same).0)) ∙ leads))
  where
    not_released : (from : ℕ) → (slot_at v.collector.counts from).colour ≡ Orange → from ≢ slot
    not_released from orange same = false≢true (sym (apart from orange).unreleased ∙ ap (λ n. (slot_at v.collector.counts n).released) same ∙ gone)

module _ (u : Core) (t : ℕ) (kept : IsKeptBy true (stand_at u.collector.left Opening) u) (phase : u.collector.phase ≡ Returning t) where
  open u use {collector as c}
  open (now_in u (Returning t) kept phase) use {rest}

  -- an Orange slot isn't named by the batch
  unnamed : (x : ℕ) → (slot_at (counted u t kept phase) x).colour ≡ Orange → names x (told_newer u t kept phase) (told_older u t kept phase) ≡ 0
  unnamed x orange = elim (cases_lt 0 (names x (told_newer u t kept phase) (told_older u t kept phase))) [
    | inr none ↦ omega (arith, none)
    | inl some ↦ elim (cases_lt x (length c.counts.slots)) [
      | inl below ↦ absurd (not_touched (sym (ap is_touched orange) ∙ (is_counted u t kept phase).touched x (none_released rest x below) some))
      | inr past ↦ absurd (not_absent (sym (ap (λ (v : Slot). v.colour) (get_or_past (counted u t kept phase).slots x absent (omega (arith, past, (is_counted u t kept phase).rest.slots)))) ∙ orange))
    ]
  ]
    where
      not_touched : false ≡ true → ⊥
      not_touched is = false≢true is

      not_absent : absent.colour ≡ Orange → ⊥
      not_absent is = absurd (cc)

  fades_counted : Fades c.counts (counted u t kept phase)
  fades_counted = record {
    sets = λ k. inl (ap (λ (xss : List (List ℕ)). slice_index_or xss k []) (is_counted u t kept phase).rest.sets);
    oranges = λ x is. sym (ap (λ (v : Slot). v.colour) ((is_counted u t kept phase).same x (unnamed x is))) ∙ is;
  }

  -- what the batch took off an Orange slot, a snapshot names
  still_late : (x : ℕ) → (slot_at (counted u t kept phase) x).colour ≡ Orange → IsPending u x → IsLate u x
  still_late x orange (IsPending.log i some) = IsLate.log i some
  still_late x orange (IsPending.mailbox i some) = IsLate.mailbox i some
  still_late x orange (IsPending.newer i some) = IsLate.newer i some
  still_late x orange (IsPending.older early i some) =
      let took : 0 < taken x c.older = omega (arith, some, at_most (λ (b : Contents). named x (map old_target b.entries) + named x b.snapshot) c.older i (collectors.blank 0 0) (omega (arith, named-nil x))) in
      let names_ : 0 < held x c.newer = omega (arith, took, unnamed x orange, told_even c.policy.steady x c.newer c.older (rows_alike c kept.collector.machine), added_parts x c.newer, added_parts x (told_newer u t kept phase), written_told c.policy.steady x c.newer c.older) in
      let (j, below, one_) = some_of (λ (b : Contents). named x b.snapshot) c.newer (collectors.blank 0 0) names_ in
      IsLate.newer j (omega (arith, one_))

  pub backed_counted : AreBacked (sight u) (IsPending u) c.counts → AreBacked (sight u) (IsLate u) (counted u t kept phase)
  backed_counted = backed_stays (sight u) (sight u) (IsPending u) (IsLate u) c.counts (counted u t kept phase) fades_counted (λ k orange x member is. still_late x (orange x member) is) (λ k orange from x there member leads. inl leads)
