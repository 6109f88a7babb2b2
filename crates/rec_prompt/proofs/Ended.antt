-- A trial ends with each slot a member of a set, or on a path of fields from what is pending. A slot that isn't marked is on one, since
-- marking loaded each field of what is marked. And so is a Black one: something has it that no marked slot accounts for, or a Black slot
-- leads to it.
use Rattle.std.proofs.Common.{◌≡◌, ◌⊎◌, inl, inr, ℕ, ◌+◌, ◌-◌, ◌/◌, ◌%◌, ◌<◌, ◌≤◌, ◌==◌, true, false, Some, [], length, slice_index_or, sym, ap, ◌∙◌, arith}
use Rattle.std.specs.List.{sum_by, concat}
use Rattle.std.proofs.Math.Nat.{mod-lt, div-add-mod, mul_comm}
use Rattle.std.proofs.lemmas.Bool.{cases_lt, false≢true, ne_eqb}
use Rattle.rec_core.proofs.Common.{place_of, target_of, is_green, only_if-le, State, slot_at, one, times, times-nil, one_if_same, only_if, node_of, names, is_at, is_from, replaces_from, Slot, IsTaken, word_at, Core, sight, IsKept, pending, applied_at}
use Rattle.rec_counts.specs.Colour.{is_white}
use Rattle.rec_trial.specs.Moves.{cleared}
use Rattle.rec_trial.specs.Trial.{Work}
use Rattle.rec_trial.proofs.Course.{first_view}
use Rattle.rec_trial.proofs.Deletion.{Loads}
use Rattle.rec_trial.proofs.Done.{all_of, within_of}
use Rattle.rec_trial.proofs.Holding.{Hot, loaded, named, WhileCollecting}
use Rattle.rec_trial.proofs.Totals.{first_whole, occurs, same}
use Rattle.rec_trial.proofs.Totals as totals
use Rattle.rec_trial.proofs.Views.{view}
use Rattle.rec_core.proofs.Steps.{slot_there, taken_slot}
use Rattle.rec_prompt.specs.Cover.{Covers, Hangs, IsListed, IsPending}
use Rattle.rec_prompt.specs.Cover.Hangs.{later, listed, behind}
use Rattle.rec_prompt.specs.Lost.{Leads}
use Rattle.rec_prompt.proofs.Counts.{counted_leads}
use Rattle.rec_prompt.proofs.Followed.{AreBlackened, AreMarked, edge_hits, hits, hits_few, hits_loaded, hits_named, more_somewhere}
use Rattle.rec_prompt.proofs.Hanging.{all_on_trails, leaders_from, LeadersCount, Trails}
use Rattle.rec_prompt.proofs.Pended.{born_pends, leads_there, replaced_pends, snapped_pends}

-- all marked slots were looked at, and this is what is known of the counts then
module _ (w : Core) (kept : IsKept true w) (before : State) (ls : Loads) (v : Work) (inv : WhileCollecting (first_view w.config.fields before) (view v) ls) (all : v.machine.tried ≡ length v.counts.marked)
    (counts : (x : ℕ) → (slot_at v.counts x).count ≡ (slot_at w.collector.counts x).count) (greens : (x : ℕ) → is_green (slot_at v.counts x).colour ≡ is_green (slot_at w.collector.counts x).colour)
    (zeros : v.counts.zeros ≡ []) (roots : v.counts.roots ≡ []) (marks : AreMarked (sight w) (IsPending w) v.counts ls.marks) (blacks : AreBlackened (sight w) (IsPending w) ls.blacks) (cover : Covers (sight w) (IsPending w) v.counts) where
  abbrev s : State
  s = v.counts

  -- on a path from what is pending, or from what is released
  abbrev pub IsHeld : ℕ → Type 0
  IsHeld = Trails (sight w) (λ x. IsPending w x ⊎ ((slot_at s x).released ≡ true))

  -- what has to be held
  abbrev Counts : ℕ → Type 0
  Counts x = IsTaken (sight w) x × (is_green (slot_at s x).colour ≡ false)

  alive : LeadersCount (sight w) s
  alive = leaders_from (sight w) s kept.sound (λ x green. kept.greens x (sym (greens x) ∙ green))

  held_trail : (x : ℕ) → Trails (sight w) (IsPending w) x → IsHeld x
  held_trail = all_on_trails (sight w) (IsPending w) IsHeld (λ x is. Trails.first (inl is)) (λ from x path leads. Trails.along path leads)

  abbrev is_marked : ℕ → Type 0
  is_marked x = 0 < totals.times x s.marked

  -- marking loaded each field of what is marked
  was_loaded : (n g : ℕ) → g < w.config.fields → is_marked n → 0 < loaded n g ls.marks
  was_loaded n g within there = let same_fields : v.machine.fields ≡ w.config.fields = inv.kept.fields in omega (arith, there, all_of inv.marks_all n g (omega (arith, within, same_fields)))

  -- and so each slot that a field of it leads to is marked, or held
  led_from_marked : (n x : ℕ) → is_marked n → Leads (sight w) n x → Counts x → is_marked x ⊎ IsHeld x
  led_from_marked n x there (g, within, leads) is = elim (marks n g x within (was_loaded n g within there) leads) [
    | inl hit ↦ inl (elim (cases_lt 0 (totals.times x s.marked)) [ inl marked ↦ marked | inr none ↦ absurd (omega (arith, hit, hits_named n g x ls.marks, inv.fresh x (omega (arith, none)))) ])
    | inr rest ↦ elim rest [ inl green ↦ absurd (false≢true (sym is.1 ∙ green)) | inr trail ↦ inr (held_trail x trail) ]
  ]

  listed_marked : (x : ℕ) → IsListed s x → is_marked x ⊎ IsHeld x
  listed_marked x (IsListed.released gone) = inr (Trails.first (inr gone))
  listed_marked x (IsListed.zero some) = absurd (omega (arith, some, ap (times x) zeros, times-nil x))
  listed_marked x (IsListed.root some purple) = absurd (omega (arith, some, ap (times x) roots, times-nil x))
  listed_marked x (IsListed.member some) = inl (omega (arith, some, inv.parts x, occurs x (concat s.sets)))
  listed_marked x (IsListed.marked some) = inl (omega (arith, some, occurs x s.marked))

  -- A slot that isn't marked is held.
  marked_or_held : (x : ℕ) → Hangs (sight w) (IsPending w) s x → Counts x → is_marked x ⊎ IsHeld x
  marked_or_held x (later is) counts_ = inr (Trails.first (inl is))
  marked_or_held x (listed is) counts_ = listed_marked x is
  marked_or_held x (behind {from = from} path leads) counts_ = elim (marked_or_held from path (alive from x leads)) [
    | inl there ↦ led_from_marked from x there leads counts_
    | inr held ↦ inr (Trails.along held leads)
  ]

  found : (x : ℕ) → Counts x → is_marked x ⊎ IsHeld x
  found x is = marked_or_held x (cover x is.0 is.1) is

  -- A slot with a rest is held: it is pending, or a field leads to it that marking didn't load so.
  rest_held : (x : ℕ) → Counts x → named x ls.marks < (slot_at w.collector.counts x).count → IsHeld x
  rest_held x is rest = elim (cases_lt 0 (sum_by (replaces_from a (x + 1)) (pending w).writes)) [
    | inl replaced ↦ Trails.first (inl (replaced_pends w kept.whole x replaced))
    | inr unreplaced ↦ elim (cases_lt 0 (sum_by (is_from a (x + 1)) (pending w).births)) [
      | inl born ↦ Trails.first (inl (born_pends w kept.whole x born))
      | inr unborn ↦ elim (cases_lt 0 (sum_by (is_at a (x + 1)) (pending w).snapshots)) [
        | inl snapped ↦ Trails.first (inl (snapped_pends w kept.whole x snapped))
        | inr unsnapped ↦ by_field (more_somewhere (names (x + 1)) loads w.words (omega (
          arith,
          rest,
          hits_few fields x ls.marks w.words,
          kept.accounted.ledger (x + 1) (omega arith),
          ap (λ (c : Slot). c.count) (slot_there w kept x (taken_slot w kept x is.0)),
          unreplaced,
          unborn,
          unsnapped,
          untaken,
        )))
      ]
    ]
  ]
    where
      a : ℕ
      a = applied_at w.epoch w.collector.phase

      fields : ℕ
      fields = w.config.fields

      loads : ℕ → ℕ → ℕ
      loads p word = hits (p / fields) (p % fields) x ls.marks

      untaken : only_if ((pending w).free (x + 1)) 1 ≡ 0
      untaken =
          let at : x + 1 - 1 ≡ x = omega arith in
          ap (λ b. only_if b 1) (ap (λ n. slice_index_or w.headers n 0 == 0) at ∙ ne_eqb (slice_index_or w.headers x 0) 0 (λ e. omega (arith, is.0, e)))

      by_field : (p : ℕ) × (loads p (slice_index_or w.words p 0) < names (x + 1) p (slice_index_or w.words p 0)) → IsHeld x
      by_field (p, more) =
          let leads : Leads (sight w) (p / fields) x = leads_there w kept.whole p x (omega (arith, more)) in
          let from = alive (p / fields) x leads in
          elim (found (p / fields) from) [
            | inr held ↦ Trails.along held leads
            | inl marked ↦ elim (marks (p / fields) (p % fields) x (mod-lt p kept.config.some_fields) (was_loaded (p / fields) (p % fields) (mod-lt p kept.config.some_fields) marked) (at_place p leads more)) [
              | inl hit ↦ absurd (omega (arith, hit, more, one_if_at_most (x + 1) (node_of (slice_index_or w.words p 0))))
              | inr rest_ ↦ elim rest_ [ inl green ↦ absurd (false≢true (sym is.1 ∙ green)) | inr trail ↦ held_trail x trail ]
            ]
          ]
        where
          one_if_at_most : (n k : ℕ) → one_if_same n k ≤ 1
          one_if_at_most n k = only_if-le (n == k) 1

          at_place : (p : ℕ) → Leads (sight w) (p / fields) x → loads p (slice_index_or w.words p 0) < names (x + 1) p (slice_index_or w.words p 0) → target_of (word_at (sight w) (p / fields) (p % fields)) ≡ Some x
          at_place p leads more =
              let here : place_of (p / fields) (p % fields) fields ≡ p = ap (λ k. k + p % fields) (mul_comm (p / fields) fields) ∙ div-add-mod p fields in
              ap (λ n. target_of (slice_index_or w.words n 0)) here ∙ counted_leads (slice_index_or w.words p 0) x (omega (arith, more))

  -- So what became Black is held.
  hot_held : (x : ℕ) → Hot s.marked (view v).cyclic ls.blacks x → Counts x → IsHeld x
  hot_held x (Hot.warm there rest) is = rest_held x is (omega (arith, rest, inv.rest x there, counts x))
  hot_held x (Hot.along {n = n} hot edge) is =
      let (g, hit) = edge_hits n x ls.blacks edge in
      elim (blacks n g x (within_of_blacks n g x hit) hit) [
        | inr pending_ ↦ Trails.first (inl pending_)
        | inl leads ↦ let l : Leads (sight w) n x = (g, within_of_blacks n g x hit, leads) in Trails.along (hot_held n hot (alive n x l)) l
      ]
    where
      within_of_blacks : (n g x : ℕ) → 0 < hits n g x ls.blacks → g < w.config.fields
      within_of_blacks n g x hit = let same_fields : v.machine.fields ≡ w.config.fields = inv.kept.fields in omega (arith, same_fields, within_of inv.blacks_all n g (omega (arith, hit, hits_loaded n g x ls.blacks)))

  -- Each slot is a member of a set, or held.
  pub member_or_held : (x : ℕ) → IsTaken (sight w) x → is_green (slot_at s x).colour ≡ false → (0 < times x (concat s.sets)) ⊎ IsHeld x
  member_or_held x there plain = elim (found x (there, plain)) [
    | inr held ↦ inr held
    | inl marked ↦ elim (cases_lt 0 (totals.times x (concat s.sets))) [
      | inl member ↦ inl (omega (arith, member, occurs x (concat s.sets)))
      | inr none ↦ inr (hot_held x (inv.hot x (omega (arith, marked, none, inv.parts x, ap one (not_white x marked)))) (there, plain))
    ]
  ]
    where
      not_white : (x : ℕ) → is_marked x → is_white (slot_at s x).colour ≡ false
      not_white x marked = inv.tested x (omega (arith, marked, ap (λ n. totals.total_of_first (same x) n s.marked) all, first_whole (same x) s.marked))

  -- So each hangs on something once nothing is marked any more.
  pub ended_covers : Covers (sight w) (IsPending w) (cleared s)
  ended_covers x there plain = elim (member_or_held x there plain) [
    | inl member ↦ listed (IsListed.member member)
    | inr held ↦ all_on_trails (sight w) (λ y. IsPending w y ⊎ ((slot_at s y).released ≡ true)) (Hangs (sight w) (IsPending w) (cleared s))
        (λ y is. elim is [ inl pending_ ↦ later pending_ | inr gone ↦ listed (IsListed.released gone) ]) (λ m n hung leads. behind hung leads) x held
  ]
