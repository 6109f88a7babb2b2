-- Where no set was refused, each lost slot is freed by the end of the third collection: the trial of the second one has found it, and the
-- tests of the third release it.
use Rattle.std.proofs.Common.{◌≡◌, ◌⊎◌, inl, inr, ℕ, suc, ◌+◌, ◌/◌, ◌<◌, ◌≤◌, true, false, Option, None, Some, List, [], ◌∷◌, length, map, slice_index_or, sym, ap, subst, ◌∙◌, arith, refl}
use Rattle.std.proofs.lemmas.Bool.{cases_lt, false≢true, ne_eqb}
use Rattle.std.proofs.lemmas.List.{get_or_past}
use Rattle.rec_core.proofs.Common.{place_of, target_of, is_green, is_node, one, one_if_same, node_of, named, old_target, slot_at, Write, Contents, Entry, AllFit, Core, Fits, Idle, IsKept, Move, after_move, after_moves, buffer_at, nobody, sight, writes_in, births_in, dated_birth}
use Rattle.std.specs.List.{sum_by}
use Rattle.std.proofs.lemmas.List.Sums.{sum_by-cons}
use Rattle.rec_log.specs.declared.entry.Entry.TheVariants as entries
use Rattle.rec_model.specs.Reach.{is_in}
use Rattle.rec_model.proofs.Members.{not_in-left}
use Rattle.rec_core.proofs.Moves.{home_of}
use Rattle.rec_core.proofs.Common.{Private}
use Rattle.rec_counts.proofs.Naming.{named-cons, named-nil}
use Rattle.rec_collector.specs.Private as collectors
use Rattle.rec_collector.proofs.Following.{none_released}
use Rattle.rec_core.proofs.Batches.{same_name, same_word}
use Rattle.rec_core.proofs.Runs.{config_after, move_kept, rule_of, turned_kept}
use Rattle.rec_core.proofs.Steps.{taken_slot}
use Rattle.rec_core.proofs.Turning.{turn_case}
use Rattle.rec_core.proofs.Turns.{now_at}
use Rattle.rec_prompt.specs.Cover.{IsPending, takes}
use Rattle.rec_prompt.specs.Prompt.{freed_by, freed_in, freed_over}
use Rattle.rec_prompt.proofs.Backed.{HasBacked, move_backed}
use Rattle.rec_prompt.proofs.Clears.{refused, touched}
use Rattle.rec_prompt.proofs.Counts.{AreClean, clean}
use Rattle.rec_prompt.proofs.Forgets.{counted, Forgets, IsClean}
use Rattle.rec_prompt.proofs.Found.{has_found, IsNear}
use Rattle.rec_prompt.proofs.Hanging.{all_on_trails, Trails}
use Rattle.rec_prompt.proofs.Heeding.{FoundIn, IsOwned}
use Rattle.rec_prompt.proofs.Moves.{not_second}
use Rattle.rec_prompt.proofs.Mutators.{begun_hides, Hides, hides_trails_too, offering_pends, step_hides}
use Rattle.rec_prompt.proofs.Passed.{found_more, IsSoon, passed_rule}
use Rattle.rec_prompt.proofs.Turned.{IsWatched}
use Rattle.rec_prompt.proofs.Watched.{move_grown, move_refused, move_watched, moves_grown, moves_refused}

-- Each slot hangs on something, and is found while no trial or test is at work; or it is before the tests of the collection after so many.
pub record Stands (since : ℕ) (v : Core) : Type 0 where
  pub watched : IsWatched v
  pub backed : HasBacked v
  pub found : has_found v.collector.phase ≡ true → IsSoon since v.collector ⊎ FoundIn (sight v) (IsPending v) v.collector.counts

-- what mutators do leaves what is found
hides_found : (v u : Core) → Hides v u → FoundIn (sight v) (IsPending v) v.collector.counts → FoundIn (sight u) (IsPending u) u.collector.counts
hides_found v u h f slot taken plain = elim (h.taken slot taken) [
  | inr born ↦ inr (Trails.first (inl born))
  | inl was ↦ subst (λ (k : collectors.Private). IsOwned k.counts slot ⊎ Trails (sight u) (λ y. IsPending u y ⊎ ((slot_at k.counts y).released ≡ true)) slot) (sym h.collector)
      (elim (f slot was (sym (ap (λ (k : collectors.Private). is_green (slot_at k.counts slot).colour) h.collector) ∙ plain)) [
        | inl own ↦ inl own
        | inr trail ↦ inr (hides_trails_too v u h (λ y. (slot_at v.collector.counts y).released ≡ true) slot trail)
      ])
]

-- one move
Next : (since : ℕ) (v : Core) (m : Move) → Type 0
Next since v m = (Stands since (after_move v m) × (((n x : ℕ) → is_in x (freed_in v m) ≡ false → IsNear n v.collector x → IsNear n (after_move v m).collector x) ⊎ (refused v.collector.sets < refused (after_move v m).collector.sets))) ⊎ (touched v.collector.sets < touched (after_move v m).collector.sets)

hides_next : {since : ℕ} (v u : Core) → u.collector ≡ v.collector → Hides v u → Stands since v → (has_found v.collector.phase ≡ true → IsSoon since u.collector ⊎ FoundIn (sight u) (IsPending u) u.collector.counts)
hides_next {since} v u same h st found = elim (st.found found) [ inl soon ↦ inl (subst (IsSoon since) (sym same) soon) | inr was ↦ inr (hides_found v u h was) ]

move_stands : (since : ℕ) (v : Core) (m : Move) → IsKept true v → v.config.policy.least_roots ≡ 0 → Fits v m → Stands since v → Next since v m
unfolding Next
move_stands since v (Move.Begins t work from) kept always fits st = elim (move_watched v (Move.Begins t work from) kept fits st.backed st.watched) [
  | inl there ↦ inl (record { watched = there; backed = move_backed v (Move.Begins t work from) kept fits st.backed; found = hides_next v (after_move v (Move.Begins t work from)) refl (begun_hides v t work from fits.0 kept) st }, inl (λ n x unfreed near. near))
  | inr more ↦ absurd (omega (arith, more))
]
move_stands since v (Move.Steps t) kept always fits st = elim (move_watched v (Move.Steps t) kept fits st.backed st.watched) [
  | inl there ↦ inl (record { watched = there; backed = move_backed v (Move.Steps t) kept fits st.backed; found = hides_next v (after_move v (Move.Steps t)) refl (step_hides v t kept fits.0 fits.1) st }, inl (λ n x unfreed near. near))
  | inr more ↦ absurd (omega (arith, more))
]
move_stands since v Move.Offers kept always fits st = elim (move_watched v Move.Offers kept fits st.backed st.watched) [
  | inl there ↦ inl (record { watched = there; backed = move_backed v Move.Offers kept fits st.backed; found = λ found. elim (st.found found) [ inl soon ↦ inl soon | inr was ↦ inr (found_more (sight v) (IsPending v) (IsPending (after_move v Move.Offers)) v.collector.counts (offering_pends v) was) ] }, inl (λ n x unfreed near. near))
  | inr more ↦ absurd (omega (arith, more))
]
move_stands since v Move.Turns kept always fits st = elim (move_watched v Move.Turns kept fits st.backed st.watched) [
  | inr more ↦ inr more
  | inl there ↦ elim (turn_case v (λ o u. IsKept true u → ((has_found u.collector.phase ≡ true → IsSoon since u.collector ⊎ FoundIn (sight u) (IsPending u) u.collector.counts) × (((n x : ℕ) → is_in x (freed_by o) ≡ false → IsNear n v.collector x → IsNear n u.collector x) ⊎ (refused v.collector.sets < refused u.collector.sets))) ⊎ (touched v.collector.sets < touched u.collector.sets))
      (λ none after. inl (st.found, inl (λ n x unfreed near. near))) (λ op named after. passed_rule v op kept after st.watched st.backed always since st.found (rule_of v op kept named)) (turned_kept v kept)) [
        | inl both ↦ inl (record { watched = there; backed = move_backed v Move.Turns kept fits st.backed; found = both.0 }, both.1)
        | inr more ↦ inr more
      ]
]

-- some moves over which no set is refused of which a member was touched
pub moves_stand : (since : ℕ) (v : Core) (ms : List Move) → IsKept true v → v.config.policy.least_roots ≡ 0 → AllFit v ms → touched (after_moves v ms).collector.sets ≤ touched v.collector.sets → Stands since v
    → Stands since (after_moves v ms) × (((n x : ℕ) → is_in x (freed_over v ms) ≡ false → IsNear n v.collector x → IsNear n (after_moves v ms).collector x) ⊎ (refused v.collector.sets < refused (after_moves v ms).collector.sets))
unfolding Next
moves_stand since v [] kept always fit few st = (st, inl (λ n x unfreed near. near))
moves_stand since v (m ∷ ms) kept always fit few st =
    let after : IsKept true (after_move v m) = move_kept v m kept fit.0 in
    elim (move_stands since v m kept always fit.0 st) [
      | inr more ↦ absurd (omega (arith, few, more, (moves_grown (after_move v m) ms after fit.1).0))
      | inl one_ ↦
          let rest = moves_stand since (after_move v m) ms after (ap (λ k. k.policy.least_roots) (config_after v (m ∷ [])) ∙ always) fit.1 (omega (arith, few, (move_grown v m kept fit.0).0)) one_.0 in (
            rest.0,
            elim one_.1 [
              | inr more ↦ inr (omega (arith, more, moves_refused (after_move v m) ms after fit.1))
              | inl first ↦ elim rest.1 [
                | inr more ↦ inr (omega (arith, more, move_refused v m kept fit.0))
                | inl later ↦ inl (λ n x unfreed near. later n x (not_second x (freed_in v m) (freed_over (after_move v m) ms) unfreed) (first n x (not_in-left x (freed_in v m) (freed_over (after_move v m) ms) unfreed) near))
              ]
            ],
          )
    ]

-- ---- lost slots

-- a clean buffer takes nothing off
takes_entries : (slot : ℕ) (es : List Entry) → sum_by (λ (e : Write). one_if_same (slot + 1) (node_of e.old)) (writes_in es) ≡ 0 → sum_by (is_node (slot + 1)) (births_in 0 es) ≡ 0 → named slot (map old_target es) ≡ 0
takes_entries slot [] writes births = named-nil slot
takes_entries slot (entries.Put place new old ∷ es) writes births =
    let e : Write = record { place = place; new = new; old = old } in
    let first : sum_by (λ (e : Write). one_if_same (slot + 1) (node_of e.old)) (e ∷ writes_in es) ≡ one_if_same (slot + 1) (node_of old) + sum_by (λ (e : Write). one_if_same (slot + 1) (node_of e.old)) (writes_in es) = sum_by-cons (λ (e : Write). one_if_same (slot + 1) (node_of e.old)) e (writes_in es) in
    omega (arith, writes, first, same_word slot old, named-cons slot (target_of old) (map old_target es), takes_entries slot es (omega (arith, writes, first)) births)
takes_entries slot (entries.Born x leaf ∷ es) writes births =
    let first : sum_by (is_node (slot + 1)) (dated_birth 0 (x + 1) leaf ∷ births_in 0 es) ≡ one_if_same (slot + 1) (x + 1) + sum_by (is_node (slot + 1)) (births_in 0 es) = sum_by-cons (is_node (slot + 1)) (dated_birth 0 (x + 1) leaf) (births_in 0 es) in
    omega (arith, births, first, same_name slot (Some x), named-cons slot (Some x) (map old_target es), takes_entries slot es writes (omega (arith, births, first)))

takes_snapshot : (slot : ℕ) (xs : List (Option ℕ)) → ((r : ℕ) → slice_index_or xs r None ≡ Some slot → ⊥) → named slot xs ≡ 0
takes_snapshot slot [] none = named-nil slot
takes_snapshot slot (None ∷ xs) none = omega (arith, named-cons slot None xs, takes_snapshot slot xs (λ r. none (suc r)))
takes_snapshot slot (Some x ∷ xs) none = omega (arith, named-cons slot (Some x) xs, ap one (ne_eqb slot x (λ e. none 0 (ap Some (sym e)))), takes_snapshot slot xs (λ r. none (suc r)))

takes_none : (slot : ℕ) (b : Contents) → IsClean slot b → takes slot b ≡ 0
takes_none slot b c = omega (arith, takes_entries slot b.entries c.replaced (c.births 0), takes_snapshot slot b.snapshot c.snapshot)

-- where every buffer is clean of it, a slot isn't pending
clean_unpended : (v : Core) (slot : ℕ) → IsKept true v → AreClean slot v → IsPending v slot → ⊥
clean_unpended v slot kept c (IsPending.log i some) = elim (cases_lt i (length v.mutators)) [
  | inl below ↦ absurd (omega (arith, some, takes_none slot (slice_index_or v.mutators i nobody).log (c.logs i below)))
  | inr past ↦ absurd (omega (arith, some, ap (λ (p : Private). takes slot p.log) (get_or_past v.mutators i nobody past), named-nil slot))
]
clean_unpended v slot kept c (IsPending.mailbox i some) = elim (cases_lt i (length v.mutators)) [
  | inl below ↦ absurd (omega (arith, some, takes_none slot (slice_index_or v.boxes i (collectors.blank 0 0)) (c.boxes i below)))
  | inr past ↦
      let many : length v.mutators ≡ v.config.mutators = kept.mutators.many in
      let boxes : length v.boxes ≡ v.config.mutators = kept.mutators.mailboxes in
      absurd (omega (arith, some, ap (takes slot) (get_or_past v.boxes i (collectors.blank 0 0) (omega (arith, past, many, boxes))), named-nil slot))
]
clean_unpended v slot kept c (IsPending.newer i some) = elim (cases_lt i (length v.collector.newer)) [
  | inl below ↦ absurd (omega (arith, some, takes_none slot (buffer_at v.collector.newer i) (c.newer i below)))
  | inr past ↦ absurd (omega (arith, some, ap (takes slot) (get_or_past v.collector.newer i (collectors.blank 0 0) past), named-nil slot))
]
clean_unpended v slot kept c (IsPending.older early i some) = elim (cases_lt i (length v.collector.older)) [
  | inl below ↦ absurd (omega (arith, some, takes_none slot (buffer_at v.collector.older i) (c.older i below)))
  | inr past ↦ absurd (omega (arith, some, ap (takes slot) (get_or_past v.collector.older i (collectors.blank 0 0) past), named-nil slot))
]

-- Between two collections, once the buffers are late enough, a lost slot that isn't Green is a member of a set.
pub lost_found : (first : Core) (late : ℕ) (lost : ℕ → Type 0) (v : Core) → IsKept true v → v.collector.phase ≡ Idle → Forgets late first lost v → late + 1 ≤ counted v → FoundIn (sight v) (IsPending v) v.collector.counts → (slot : ℕ) → lost slot → is_green (slot_at v.collector.counts slot).colour ≡ false → IsOwned v.collector.counts slot
lost_found first late lost v kept idle f past found slot gone plain = elim (found slot (f.taken slot gone) plain) [
  | inl own ↦ own
  | inr trail ↦ absurd (all_on_trails (sight v) (λ y. IsPending v y ⊎ ((slot_at v.collector.counts y).released ≡ true)) (λ y. lost y → ⊥)
      (λ y is gone_. elim is [ inl pending ↦ clean_unpended v y kept (clean late first lost v kept idle f past y gone_) pending | inr released ↦ false≢true (sym (unreleased y gone_) ∙ released) ])
      (λ m y path (field, within, leads) gone_. path (subst lost (source m field within) (f.fields (place_of m field v.config.fields) y leads gone_)))
      slot trail gone)
]
  where
    unreleased : (y : ℕ) → lost y → (slot_at v.collector.counts y).released ≡ false
    unreleased y gone_ =
        let many : length v.collector.counts.slots ≡ v.config.slots = kept.collector.slots in
        none_released (now_at v Idle kept idle).0 y (omega (arith, many, taken_slot v kept y (f.taken y gone_)))

    source : (m field : ℕ) → field < v.config.fields → place_of m field v.config.fields / v.config.fields ≡ m
    source m field within = let here : place_of m field v.config.fields / v.config.fields + 1 ≡ m + 1 = home_of m field v.config.fields within in omega (arith, here)
