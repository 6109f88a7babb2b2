-- A turn of the collector, where no set is refused of which a member was touched: what the last trial found stays found up to the next
-- batch. And where no set is refused, what is released or a member before the tests is released after them.
use Rattle.std.proofs.Common.{IfSome, ◌≡◌, ◌≢◌, ◌⊎◌, inl, inr, ℕ, ◌+◌, ◌<◌, ◌==◌, true, false, Option, None, Some, List, [], ◌∷◌, length, slice_index_or, slice_set, refl, sym, ap, subst, ◌∙◌, arith}
use Rattle.rec_core.specs.Pending.{has_batched}
use Rattle.std.specs.List.{concat}
use Rattle.std.proofs.lemmas.Bool.{cases_eq, cond-false, false≢true, ne_eqb}
use Rattle.std.proofs.lemmas.List.{get_or-set_other, set-get_or}
use Rattle.rec_core.proofs.Common.{Begun, crossing_word, Retired, place_of, target_of, Op, is_green, State, slot_at, times, absent, Slot, Sight, IsTaken, Contents, Parts, parts_of, with_released, with_freed, zeros_released, ClearsOn, Phase, Idle, Looking, Returning, Releasing, Freeing, Trying, Preparing, Opening, Sweeping, Closing, Turn, Machine, cell, with_cell, Core, cells_of, box, sight, IsKept, IsKeptBy, stand_at, looked_at, step_of, turned_by, At, Member, swept, swept_clean, visible, requested, noted, freed_by as freed_cases}
use Rattle.rec_word.specs.Op.{written}
use Rattle.rec_word.specs.declared.op.Op.TheVariants as ops
use Rattle.rec_model.specs.Reach.{is_in}
use Rattle.rec_model.proofs.Members.{is_in-head}
use Rattle.rec_release.specs.CycleFree as frees
use Rattle.rec_release.specs.Release as releases
use Rattle.rec_release.specs.Sweep as sweeps
use Rattle.rec_sigma.specs.Prepare as preps
use Rattle.rec_trial.specs.Trial as trials
use Rattle.rec_collector.specs.Kept as collector_kept
use Rattle.rec_collector.specs.Private as collectors
use Rattle.rec_collector.specs.Step as step
use Rattle.rec_collector.proofs.Trying.{took_others}
use Rattle.rec_core.proofs.Applying.{counted}
use Rattle.rec_core.proofs.Begun.{applied_lands}
use Rattle.rec_core.proofs.Freeing.{freed_lands}
use Rattle.rec_core.proofs.Gathering.{awaits_kept}
use Rattle.rec_core.proofs.Landed.{HasCleared}
use Rattle.rec_core.proofs.Phases.{clears_in}
use Rattle.rec_core.proofs.PlainWords.{crosses_none, waits_other}
use Rattle.rec_core.proofs.Preparing.{loads_due}
use Rattle.rec_core.proofs.Releasing.{released_lands}
use Rattle.rec_core.proofs.Trying.{loads_child}
use Rattle.rec_core.proofs.TurnCases.{Awaits, giving_back, requesting}
use Rattle.rec_core.proofs.Turning.{mutator_at, some_op}
use Rattle.rec_core.proofs.Turns.{now_at}
use Rattle.rec_prompt.specs.Cover.{Covers, IsPending}
use Rattle.rec_prompt.specs.Lost.{Leads}
use Rattle.rec_prompt.specs.Prompt.{freed_by}
use Rattle.rec_prompt.proofs.Batch.{batch_covers, batch_gone, batch_owned, IsLate}
use Rattle.rec_prompt.proofs.Clears.{heeds_zeros, refused, touched}
use Rattle.rec_counts.proofs.Times.{times_at}
use Rattle.rec_word.specs.Walk.{IsOf}
use Rattle.rec_prompt.proofs.Backing.{AreBacked, backed_fades, backed_more}
use Rattle.rec_prompt.proofs.Cut.{backed_counted, backed_cut}
use Rattle.rec_prompt.proofs.Fading.{fades_freed, fades_released, fades_same, fades_zeros}
use Rattle.rec_prompt.proofs.Found.{before_tests, clears_found, has_found, IsNear, prepares_counts, tries_found, tries_keeps}
use Rattle.rec_prompt.proofs.Hanging.{all_on_trails, leaders_count, leaders_from, LeadersCount, Trails}
use Rattle.rec_prompt.proofs.Heeding.{FoundIn, Heeds, heeds_covers, heeds_found, heeds_others, heeds_owned, IsOwned}
use Rattle.rec_prompt.proofs.Trialled.{trialled}
use Rattle.rec_prompt.proofs.Turned.{awaits_more, before_pends, covers_more, freed_covers, gathered_pends, heeds_freed, heeds_released, IsWatched, late_of, late_pends, plain_boxes, quiet, released_covers, same_late, sight_is}
use Rattle.rec_prompt.proofs.Turns.{clears_rows, op_frees, prepares_rows, Rows, rows_as, tries_rows}

-- what is found is found where more is pending
pub found_more : (w : Sight) (before after : ℕ → Type 0) (s : State) → ((x : ℕ) → before x → after x) → FoundIn w before s → FoundIn w after s
found_more w before after s more f slot taken plain = elim (f slot taken plain) [
  | inl own ↦ inl own
  | inr trail ↦ inr (all_on_trails w (λ y. before y ⊎ ((slot_at s y).released ≡ true)) (Trails w (λ y. after y ⊎ ((slot_at s y).released ≡ true))) (λ y is. Trails.first (elim is [ inl p ↦ inl (more y p) | inr gone ↦ inr gone ])) (λ m n path leads. Trails.along path leads) slot trail)
]

-- before the tests of the collection after so many, whose trial isn't made yet
abbrev pub IsSoon : (since : ℕ) → collectors.Private → Type 0
IsSoon since p = (before_tests p.phase ≡ true) × (p.collections ≡ since)

module _ (v : Core) (op : Op) (kept : IsKept true v) (after : IsKept true (turned_by v op (cell (cells_of v) op))) (i : IsWatched v) (backs : AreBacked (sight v) (IsPending v) v.collector.counts) (always : v.config.policy.least_roots ≡ 0) (since : ℕ) (f : has_found v.collector.phase ≡ true → IsSoon since v.collector ⊎ FoundIn (sight v) (IsPending v) v.collector.counts) where
  open v use {collector as c}

  abbrev its_word : ℕ
  its_word = cell (cells_of v) op

  abbrev its_box : Contents
  its_box = box v (looked_at c.phase)

  abbrev q : collectors.Private
  q = step_of c its_word its_box

  abbrev u : Core
  u = turned_by v op its_word

  abbrev IsFoundNext : Type 0
  IsFoundNext = has_found q.phase ≡ true → IsSoon since q ⊎ FoundIn (sight u) (IsPending u) q.counts

  abbrev StaysNear : Type 0
  StaysNear = (n x : ℕ) → is_in x (freed_by (Some op)) ≡ false → IsNear n c x → IsNear n q x

  -- so it is after the turn, but that a set was refused; or one of which a member was touched
  abbrev IsPassed : Type 0
  IsPassed = (IsFoundNext × (StaysNear ⊎ (refused c.sets < refused q.sets))) ⊎ (touched c.sets < touched q.sets)

  found_to : (words : List ℕ) (pending : ℕ → Type 0) (s : State) → u.words ≡ words → u.headers ≡ v.headers → ((x : ℕ) → pending x → IsPending u x) → FoundIn (sight (record v { words = words })) pending s → FoundIn (sight u) (IsPending u) s
  found_to words pending s is same more g = subst (λ (k : Sight). FoundIn k (IsPending u) s) (sym (sight_is v op kept words is same)) (found_more (sight (record v { words = words })) pending (IsPending u) s more g)

  -- a phase with the same counts follows
  near_same : ((before_tests c.phase ≡ true) → (before_tests q.phase ≡ true) × (q.collections ≡ c.collections)) → q.counts ≡ c.counts → StaysNear
  near_same on same n x unfreed (inl (early, many, own)) = let next = on early in inl (next.0, next.1 ∙ many, subst (λ (s : State). IsOwned s x) (sym same) own)
  near_same on same n x unfreed (inr gone) = inr (ap (λ (s : State). (slot_at s x).released) same ∙ gone)

  -- past the tests it is found
  was_found : before_tests c.phase ≡ false → has_found c.phase ≡ true → FoundIn (sight v) (IsPending v) c.counts
  was_found late found = elim (f found) [ inl soon ↦ absurd (false≢true (sym late ∙ soon.0)) | inr was ↦ was ]

  -- of a gathering
  gathers : (phase : Phase) → c.phase ≡ phase → has_found phase ≡ true → before_tests q.phase ≡ true → q.collections ≡ c.collections → q.counts ≡ c.counts → u.words ≡ v.words → u.headers ≡ v.headers → ((x : ℕ) → IsPending v x → IsPending u x) → IsPassed
  gathers phase at found early many same words headers more = inl (
    λ next. elim (f (ap has_found at ∙ found)) [
      | inl soon ↦ inl (early, many ∙ soon.1)
      | inr was ↦ inr (subst (FoundIn (sight u) (IsPending u)) (sym same) (found_to v.words (IsPending v) c.counts words headers more was))
    ],
    inl (near_same (λ _. (early, many)) same),
  )

  -- what follows a release or a batch
  cleared_passed : (words : List ℕ) (w crossing_of : Core) (pending : ℕ → Type 0) (s : State) → sight (record w { words = words }) ≡ sight (record v { words = words }) → u.words ≡ words → u.headers ≡ v.headers → ((x : ℕ) → pending x → IsPending u x)
      → ((x : ℕ) → IsOwned c.counts x → IsOwned s x) → ((x : ℕ) → (slot_at c.counts x).released ≡ true → (slot_at s x).released ≡ true)
      → (before : Begun) → before.parts.counts ≡ s → before.parts.sets ≡ c.sets → w.collector.collections ≡ c.collections
      → ((has_found q.phase ≡ true → FoundIn (sight (record w { words = words })) pending q.counts) × (((x : ℕ) → IsOwned s x → IsNear w.collector.collections q x) ⊎ (refused before.parts.sets < refused q.sets)) × ((x : ℕ) → (slot_at s x).released ≡ true → (slot_at q.counts x).released ≡ true)) ⊎ (touched before.parts.sets < touched q.sets) → IsPassed
  cleared_passed words w crossing_of pending s same_sight is headers more own gone before counts same_sets many (inr less) = inr (omega (arith, less, ap touched same_sets))
  cleared_passed words w crossing_of pending s same_sight is headers more own gone before counts same_sets many (inl all) = inl (
    λ next. inr (found_to words pending q.counts is headers more (subst (λ (k : Sight). FoundIn k pending q.counts) same_sight (all.0 next))),
    elim all.1 [ inl kept_ ↦ inl (near kept_) | inr less ↦ inr (omega (arith, less, ap refused same_sets)) ],
  )
    where
      near : ((x : ℕ) → IsOwned s x → IsNear w.collector.collections q x) → StaysNear
      near kept_ n x unfreed (inl (early, same, own_)) = subst (λ k. IsNear k q x) (many ∙ same) (kept_ x (own x own_))
      near kept_ n x unfreed (inr was) = inr (all.2 x (gone x was))

  -- a batch
  batched : (turn : Turn) (b : Core) (t : ℕ) (home : IsKeptBy true (stand_at b.collector.left Opening) b) (at : b.collector.phase ≡ Returning t) → sight (record b { words = b.words }) ≡ sight (record v { words = b.words }) → b.collector.sets ≡ c.sets → b.collector.counts ≡ c.counts → b.collector.collections ≡ c.collections → b.config.policy.least_roots ≡ 0
      → Covers (sight b) (IsPending b) b.collector.counts → AreBacked (sight b) (IsPending b) b.collector.counts → ((x : ℕ) → IsLate b x → IsPending u x) → u.words ≡ b.words → u.headers ≡ v.headers
      → ClearsOn b.collector q turn (zeros_released false (record (parts_of b.collector) { counts = counted b t home at })) → IsPassed
  batched turn b t home at same_sight sets counts many its_policy cover backed more words headers on =
      let parts : Parts = record (parts_of b.collector) { counts = counted b t home at } in
      let h : HasCleared b b.crossing b.words (zeros_released false parts) = applied_lands b t home at in
      let zeros : Heeds (counted b t home at) (zeros_released false parts).parts.counts = heeds_zeros false parts in
      let alive_zeros : LeadersCount (sight b) (zeros_released false parts).parts.counts = leaders_from (sight b) (zeros_released false parts).parts.counts h.landed.sound h.landed.greens in
      let alive : LeadersCount (sight b) (counted b t home at) = λ m n leads. (let there = alive_zeros m n leads in (there.0, sym (zeros.greens m) ∙ there.1)) in
      cleared_passed b.words b b (IsLate b) (zeros_released false parts).parts.counts same_sight words headers more
      (λ x own. heeds_owned zeros x (batch_owned b t home at x (subst (λ (s : State). IsOwned s x) (sym counts) own)))
      (λ x gone. zeros.gone x (batch_gone b t home at x (ap (λ (s : State). (slot_at s x).released) counts ∙ gone)))
      (zeros_released false parts) refl sets many
      (clears_found b b.crossing b.words (IsLate b) q turn its_policy h (heeds_covers (sight b) (IsLate b) (counted b t home at) (zeros_released false parts).parts.counts alive_zeros zeros (batch_covers b t home at alive cover)) (backed_fades (sight b) (IsLate b) (counted b t home at) (zeros_released false parts).parts.counts (fades_zeros false parts) (backed_counted b t home at backed)) on)

  released_passed : (turn : Turn) (m : releases.Machine) → c.phase ≡ Releasing m → ◌≡◌ {A = Option Op} (Some op) (releases.next_of m) → ClearsOn c q turn (with_released m (parts_of c) its_word) → IsPassed
  unfolding releases.next_of
  released_passed turn m at named on = go m.at refl
    where
      go : (x : Option At) → m.at ≡ x → IsPassed
      go None is = let not_so : ◌≡◌ {A = Option Op} (Some op) None = named ∙ ap (releases.op_at m.fields) is in absurd (cc)
      go (Some a) is =
          let now : collector_kept.IsTesting c (Releasing m) = now_at v (Releasing m) kept at in
          let place : ℕ = place_of a.slot a.field v.config.fields in
          let fields : m.fields ≡ v.config.fields = now.clearing.fields ∙ kept.collector.fields in
          let its : op ≡ ops.ClearField place = some_op op (ops.ClearField place) (named ∙ ap (releases.op_at m.fields) is ∙ ap (λ n. Some (ops.ClearField (place_of a.slot a.field n))) fields) in
          let found_is : its_word ≡ slice_index_or v.words place 0 = ap (cell (cells_of v)) its in
          let word : ℕ = slice_index_or v.words place 0 in
          let on_ : ClearsOn c q turn (with_released m (parts_of c) word) = subst (λ n. ClearsOn c q turn (with_released m (parts_of c) n)) found_is on in
          let within : a.field < m.fields = subst (λ o. IfSome o (λ (x : At). x.field < m.fields)) is now.clearing.release.field in
          let held : releases.IsHeld c.counts a = subst (λ o. IfSome o (releases.IsHeld c.counts)) is now.clearing.release.held in
          let backed = backed_cut v a.slot a.field (omega (arith, within, fields)) held.released now.clearing.tidy.apart (late_of v (ap has_batched at)) (with_released m (parts_of c) word).parts.counts (fades_released m (parts_of c) word now.clearing.busy) backs in
          let h : Heeds c.counts (with_released m (parts_of c) word).parts.counts = heeds_released v kept place (ap has_batched at) now.clearing.tidy.apart i.covers m now.clearing.busy in
          cleared_passed (slice_set v.words place 0) v v (IsLate v) (with_released m (parts_of c) word).parts.counts refl
          (ap (λ (o : Op). (with_cell (cells_of v) o (written o its_word)).words) its) (ap (λ (o : Op). (with_cell (cells_of v) o (written o its_word)).headers) its)
          (late_pends v op kept (plain_boxes v op kept (Releasing m) at refl) (clears_rows c q turn on_)) (heeds_owned h) h.gone (with_released m (parts_of c) word) refl refl refl
          (clears_found v v.crossing (slice_set v.words place 0) (IsLate v) q turn always (released_lands v m a kept at is) (released_covers v kept place (ap has_batched at) now.clearing.tidy.apart i.covers m now.clearing.busy) backed on_)

  freed_passed : (turn : Turn) (m : frees.Machine) → c.phase ≡ Freeing m → ◌≡◌ {A = Option Op} (Some op) (frees.next_of m) → ClearsOn c q turn (with_freed m (parts_of c) its_word) → IsPassed
  unfolding frees.next_of
  freed_passed turn m at named on = go m.at refl
    where
      go : (x : Option Member) → m.at ≡ x → IsPassed
      go None is = let not_so : ◌≡◌ {A = Option Op} (Some op) None = named ∙ ap (frees.op_at m.fields) is in absurd (cc)
      go (Some a) is =
          let now : collector_kept.IsTesting c (Freeing m) = now_at v (Freeing m) kept at in
          let place : ℕ = place_of a.slot a.field v.config.fields in
          let fields : m.fields ≡ v.config.fields = now.clearing.fields ∙ kept.collector.fields in
          let its : op ≡ ops.ClearField place = some_op op (ops.ClearField place) (named ∙ ap (frees.op_at m.fields) is ∙ ap (λ n. Some (ops.ClearField (place_of a.slot a.field n))) fields) in
          let found_is : its_word ≡ slice_index_or v.words place 0 = ap (cell (cells_of v)) its in
          let word : ℕ = slice_index_or v.words place 0 in
          let on_ : ClearsOn c q turn (with_freed m (parts_of c) word) = subst (λ n. ClearsOn c q turn (with_freed m (parts_of c) n)) found_is on in
          let within : a.field < m.fields = subst (λ o. IfSome o (λ (x : Member). x.field < m.fields)) is now.clearing.freeing.field in
          let held : IsOf c.counts.work a = subst (λ o. IfSome o (IsOf c.counts.work)) is now.clearing.freeing.held in
          let there : 0 < times a.slot c.counts.work = omega (arith, times_at c.counts.work a.index held.index, ap (λ n. times n c.counts.work) held.slot) in
          let backed = backed_cut v a.slot a.field (omega (arith, within, fields)) (now.clearing.freeing.released a.slot there) now.clearing.tidy.apart (late_of v (ap has_batched at)) (with_freed m (parts_of c) word).parts.counts (fades_freed m (parts_of c) word now.clearing.busy) backs in
          let h : Heeds c.counts (with_freed m (parts_of c) word).parts.counts = heeds_freed v kept place (ap has_batched at) now.clearing.tidy.apart i.covers m now.clearing.busy in
          let sets : (with_freed m (parts_of c) word).parts.sets ≡ c.sets = freed_cases (λ b. b.parts.sets ≡ c.sets) m (parts_of c) word now.clearing.busy (λ b e more. refl) (λ b e last more. refl) (λ b e last none. refl) in
          cleared_passed (slice_set v.words place 0) v v (IsLate v) (with_freed m (parts_of c) word).parts.counts refl
          (ap (λ (o : Op). (with_cell (cells_of v) o (written o its_word)).words) its) (ap (λ (o : Op). (with_cell (cells_of v) o (written o its_word)).headers) its)
          (late_pends v op kept (plain_boxes v op kept (Freeing m) at refl) (clears_rows c q turn on_)) (heeds_owned h) h.gone (with_freed m (parts_of c) word) refl sets refl
          (clears_found v v.crossing (slice_set v.words place 0) (IsLate v) q turn always (freed_lands v m a kept at is) (freed_covers v kept place (ap has_batched at) now.clearing.tidy.apart i.covers m now.clearing.busy) backed on_)

  -- a field is loaded
  trial_passed : (turn : Turn) (m : Machine) → c.phase ≡ Trying m → ◌≡◌ {A = Option Op} (Some op) (trials.next_of m) → step.TriesOn c (parts_of c) (trials.took_of (record { machine = m; counts = c.counts }) (visible c.counts its_word)) q turn → IsPassed
  trial_passed turn m at named on =
      let (place, its) = loads_child m op named in
      let found_is : its_word ≡ slice_index_or v.words place 0 = ap (cell (cells_of v)) its in
      let tried = trialled v m kept at place (sym named ∙ ap (λ o. Some o) its) (i.follows m at) i.covers in
      let its_on = subst (λ n. step.TriesOn c (parts_of c) (trials.took_of (record { machine = m; counts = c.counts }) (visible c.counts n)) q turn) found_is on in
      inl (
        λ next. inr (found_to v.words (IsPending v) q.counts (ap (λ (o : Op). (with_cell (cells_of v) o (written o its_word)).words) its ∙ ap (slice_set v.words place) found_is ∙ set-get_or v.words place 0)
            (ap (λ (o : Op). (with_cell (cells_of v) o (written o its_word)).headers) its)
            (λ x is. late_pends v op kept (plain_boxes v op kept (Trying m) at refl) (tries_rows c q (parts_of c) _ turn its_on) x (late_of v (ap has_batched at) x is))
            (tries_found v v.crossing v.words (IsPending v) q turn c (parts_of c) _ its_on tried.found next)),
        inl (λ n x unfreed near. elim near [
          | inl old ↦ absurd (false≢true (sym (ap before_tests at) ∙ old.0))
          | inr gone ↦ inr (tries_keeps v v.crossing v.words (IsPending v) q turn c (parts_of c) _ its_on x (tried.gone x gone))
        ]),
      )

  preparation_passed : (turn : Turn) (m : preps.Machine) → c.phase ≡ Preparing m → ◌≡◌ {A = Option Op} (Some op) (preps.next_of m) → step.PreparesOn c (parts_of c) (preps.took_of (record { machine = m; counts = c.counts }) its_word) q turn → IsPassed
  preparation_passed turn m at named on =
      let (a, is, its) = loads_due m op (sym named) in
      let place : ℕ = place_of a.member.slot a.member.field m.fields in
      let found_is : its_word ≡ slice_index_or v.words place 0 = ap (cell (cells_of v)) its in
      let s : State = (preps.took_of (record { machine = m; counts = c.counts }) its_word).counts in
      let h : Heeds c.counts s = heeds_others c.counts s (took_others (record { machine = m; counts = c.counts }) its_word) in
      let same : q.counts ≡ s = prepares_counts v v.crossing v.words (IsPending v) q turn c (parts_of c) _ on in
      inl (
        λ next. inr (found_to v.words (IsPending v) q.counts (ap (λ (o : Op). (with_cell (cells_of v) o (written o its_word)).words) its ∙ ap (slice_set v.words place) found_is ∙ set-get_or v.words place 0)
            (ap (λ (o : Op). (with_cell (cells_of v) o (written o its_word)).headers) its)
            (λ x is_. late_pends v op kept (plain_boxes v op kept (Preparing m) at refl) (prepares_rows c q (parts_of c) _ turn on) x (late_of v (ap has_batched at) x is_))
            (subst (FoundIn (sight v) (IsPending v)) (sym same) (heeds_found (sight v) (IsPending v) c.counts s h (was_found (ap before_tests at) (ap has_found at))))),
        inl (λ n x unfreed near. elim near [
          | inl old ↦ absurd (false≢true (sym (ap before_tests at) ∙ old.0))
          | inr gone ↦ inr (ap (λ (k : State). (slot_at k x).released) same ∙ h.gone x gone)
        ]),
      )

  -- a sweep begins or ends
  sweeps_on : (phase : Phase) → c.phase ≡ phase → has_found phase ≡ true → has_batched phase ≡ true → before_tests phase ≡ false → op ≡ ops.AddFreed → q.counts ≡ c.counts → Rows c q → u.boxes ≡ v.boxes → IsPassed
  sweeps_on phase at found batched_ late its same rows boxes =
      let calm = quiet v op kept ops.AddFreed its refl refl in
      inl (
        λ next. inr (subst (FoundIn (sight u) (IsPending u)) (sym same) (found_to v.words (IsPending v) c.counts calm.0 calm.1 (λ x is. late_pends v op kept boxes rows x (late_of v (ap has_batched at ∙ batched_) x is)) (was_found (ap before_tests at ∙ late) (ap has_found at ∙ found)))),
        inl (near_same (λ early. absurd (false≢true (sym (ap before_tests at ∙ late) ∙ early))) same),
      )

  -- a slot is swept
  swept_passed : (x n : ℕ) (next : Phase) → c.phase ≡ Sweeping (Some x) n → op ≡ ops.FreeHeader x → q ≡ record c { counts = swept c.counts x; freed = c.freed + 1; phase = next; turns = c.turns + 1 } → IsPassed
  swept_passed x n next at its is = inl (λ found. inr found_then, inl near)
    where
      words : u.words ≡ v.words
      words = ap (λ (o : Op). (with_cell (cells_of v) o (written o its_word)).words) its

      headers : u.headers ≡ slice_set v.headers x 0
      headers = ap (λ (o : Op). (with_cell (cells_of v) o (written o its_word)).headers) its

      freed_x : (y : ℕ) → y ≡ x → is_in y (freed_by (Some op)) ≡ true
      freed_x y same = ap (λ (o : Op). is_in y (freed_by (Some o))) its ∙ ap (λ k. is_in y (k ∷ [])) (sym same) ∙ is_in-head y []

      not_swept : (y : ℕ) → IsTaken (sight u) y → y ≢ x
      not_swept y taken same = op_frees v u op y refl (freed_x y same) taken

      same_slot : (y : ℕ) → y ≢ x → slot_at q.counts y ≡ slot_at c.counts y
      same_slot y apart = ap (λ (k : collectors.Private). slot_at k.counts y) is ∙ get_or-set_other c.counts.slots x y (swept_clean (slot_at c.counts x)) absent apart

      sets : q.counts.sets ≡ c.counts.sets
      sets = ap (λ (k : collectors.Private). k.counts.sets) is

      more : (y : ℕ) → IsPending v y → IsPending u y
      more y pending = late_pends v op kept (plain_boxes v op kept (Sweeping (Some x) n) at refl) (Rows.kept_rows (ap (λ (k : collectors.Private). k.newer) is) (ap (λ (k : collectors.Private). k.older) is) (ap (λ (k : collectors.Private). k.collections) is)) y (late_of v (ap has_batched at) y pending)

      still : (m k : ℕ) → Leads (sight v) m k → Leads (sight u) m k
      still m k (field, within, leads) = (field, within, ap (λ ws. target_of (slice_index_or ws (place_of m field v.config.fields) 0)) words ∙ leads)

      -- a path that doesn't begin with the swept slot, which leads nowhere
      trails : (y : ℕ) → Trails (sight v) (λ z. IsPending v z ⊎ ((slot_at c.counts z).released ≡ true)) y → (y ≡ x) ⊎ Trails (sight u) (λ z. IsPending u z ⊎ ((slot_at q.counts z).released ≡ true)) y
      trails = all_on_trails (sight v) (λ z. IsPending v z ⊎ ((slot_at c.counts z).released ≡ true)) (λ y. (y ≡ x) ⊎ Trails (sight u) (λ z. IsPending u z ⊎ ((slot_at q.counts z).released ≡ true)) y)
          (λ y is_. elim is_ [
            | inl pending ↦ inr (Trails.first (inl (more y pending)))
            | inr gone ↦ elim (cases_eq y x) [ inl same ↦ inl same | inr apart ↦ inr (Trails.first (inr (ap (λ (s : Slot). s.released) (same_slot y apart) ∙ gone))) ]
          ])
          (λ m k path leads. elim path [
            | inl same ↦ absurd (not_swept m (leaders_count u after m k (still m k leads)).0 same)
            | inr path_ ↦ inr (Trails.along path_ (still m k leads))
          ])

      owned : (y : ℕ) → y ≢ x → IsOwned c.counts y → IsOwned q.counts y
      owned y apart (inl gone) = inl (ap (λ (s : Slot). s.released) (same_slot y apart) ∙ gone)
      owned y apart (inr member) = inr (omega (arith, member, ap (λ (xss : List (List ℕ)). times y (concat xss)) sets))

      found_then : FoundIn (sight u) (IsPending u) q.counts
      found_then slot taken plain =
          let apart : slot ≢ x = not_swept slot taken in
          let was : IsTaken (sight v) slot = subst (λ k. 0 < k) (ap (λ hs. slice_index_or hs slot 0) headers ∙ get_or-set_other v.headers x slot 0 0 apart) taken in
          elim (was_found (ap before_tests at) (ap has_found at) slot was (sym (ap (λ (s : Slot). is_green s.colour) (same_slot slot apart)) ∙ plain)) [
            | inl own ↦ inl (owned slot apart own)
            | inr trail ↦ elim (trails slot trail) [ inl same ↦ absurd (apart same) | inr there ↦ inr there ]
          ]

      near : StaysNear
      near k y unfreed (inl (early, many, own)) = absurd (false≢true (sym (ap before_tests at) ∙ early))
      near k y unfreed (inr gone) = elim (cases_eq y x) [
        | inl same ↦ absurd (false≢true (sym unfreed ∙ freed_x y same))
        | inr apart ↦ inr (ap (λ (s : Slot). s.released) (same_slot y apart) ∙ gone)
      ]

  -- A turn, rule by rule.
  pub passed_rule : {turn : Turn} → step.Step c its_word its_box (Some op) q turn → IsPassed
  unfolding sweeps.started_of sweeps.took_of sweeps.next_of
  passed_rule (step.Step.spent at last none is turn_is) = let n : ◌≡◌ {A = Option Op} (Some op) None = none in absurd (cc)
  passed_rule {turn} (step.Step.request next at more is n g) =
      let calm = quiet v op kept (ops.StoreEpoch (c.epoch + 1)) (some_op op (ops.StoreEpoch (c.epoch + 1)) is) refl refl in
      let then_ : q.phase ≡ Looking next = ap (λ (x : collectors.Private). x.phase) g.after in
      gathers Idle at refl (ap before_tests then_) (ap (λ (x : collectors.Private). x.collections) g.after) (ap (λ (x : collectors.Private). x.counts) g.after) calm.0 calm.1 (before_pends v op kept turn Idle (Looking next) at refl then_ refl (ap (λ (x : collectors.Private). x.newer) g.after) (ap (λ (x : collectors.Private). x.older) g.after))
  passed_rule {turn} (step.Step.request_alone at more is gone on) =
      let calm = quiet v op kept (ops.StoreEpoch (c.epoch + 1)) (some_op op (ops.StoreEpoch (c.epoch + 1)) is) refl refl in
      let b : Core = requesting v in
      let awaits : Awaits v b = Awaits.alone at (λ last. more (ap (λ n. n + 1) kept.collector.epoch ∙ last)) gone in
      batched turn b (length c.newer) (awaits_kept v b kept awaits) refl refl refl refl refl always (covers_more (sight b) (IsPending v) (IsPending b) c.counts (awaits_more v op kept b refl refl refl refl refl) i.covers) (backed_more (sight b) (IsPending v) (IsPending b) c.counts c.counts (fades_same c.counts) (awaits_more v op kept b refl refl refl refl refl) backs)
      (λ x late. late_pends v op kept (plain_boxes v op kept Idle at refl) (rows_as refl refl refl (clears_rows (requested c) q turn on)) x (same_late v op kept b refl refl refl x late)) calm.0 calm.1 (clears_in b.collector.phase on)
  passed_rule (step.Step.cross_for t next at crosses is n g) = absurd (crosses_none v t kept at op its_word is refl crosses)
  passed_rule (step.Step.cross_for_last t at crosses is gone on) = absurd (crosses_none v t kept at op its_word is refl crosses)
  passed_rule {turn} (step.Step.wait t at stays is same turn_is) =
      let other : its_word ≢ crossing_word c.epoch Retired = waits_other v t kept at op its_word is refl stays in
      let its : op ≡ ops.LookBox t c.epoch = some_op op (ops.LookBox t c.epoch) is in
      let calm = quiet v op kept (ops.LookBox t c.epoch) its refl refl in
      let then_ : q.phase ≡ Looking t = ap (λ (x : collectors.Private). x.phase) same ∙ at in
      gathers (Looking t) at refl (ap before_tests then_) (ap (λ (x : collectors.Private). x.collections) same) (ap (λ (x : collectors.Private). x.counts) same) calm.0 calm.1
      (before_pends v op kept turn (Looking t) (Looking t) at (cond-false (its_word == crossing_word c.epoch Retired) (collectors.spare c) (box v t) (ne_eqb its_word (crossing_word c.epoch Retired) other)) then_ refl (ap (λ (x : collectors.Private). x.newer) same) (ap (λ (x : collectors.Private). x.older) same))
  passed_rule {turn} (step.Step.gather t at crossed is g) =
      let calm = quiet v op kept (ops.LookBox t c.epoch) (some_op op (ops.LookBox t c.epoch) is) refl refl in
      gathers (Looking t) at refl (ap (λ (x : collectors.Private). before_tests x.phase) g.after) (ap (λ (x : collectors.Private). x.collections) g.after) (ap (λ (x : collectors.Private). x.counts) g.after) calm.0 calm.1 (gathered_pends v op kept turn t at g)
  passed_rule {turn} (step.Step.give_back t next at is n g) =
      let calm = quiet v op kept (ops.ReturnBox t c.epoch) (some_op op (ops.ReturnBox t c.epoch) is) refl refl in
      let then_ : q.phase ≡ Looking next = ap (λ (x : collectors.Private). x.phase) g.after in
      gathers (Returning t) at refl (ap before_tests then_) (ap (λ (x : collectors.Private). x.collections) g.after) (ap (λ (x : collectors.Private). x.counts) g.after) calm.0 calm.1 (before_pends v op kept turn (Returning t) (Looking next) at refl then_ refl (ap (λ (x : collectors.Private). x.newer) g.after) (ap (λ (x : collectors.Private). x.older) g.after))
  passed_rule {turn} (step.Step.apply t at is gone on) =
      let calm = quiet v op kept (ops.ReturnBox t c.epoch) (some_op op (ops.ReturnBox t c.epoch) is) refl refl in
      let b : Core = giving_back v t in
      let now = now_at v (Returning t) kept at in
      let awaits : Awaits v b = Awaits.last t (mutator_at v t (Returning t) kept at (now.first, now.there)) at gone in
      batched turn b (length c.newer) (awaits_kept v b kept awaits) refl refl refl refl refl always (covers_more (sight b) (IsPending v) (IsPending b) c.counts (awaits_more v op kept b refl refl refl refl refl) i.covers) (backed_more (sight b) (IsPending v) (IsPending b) c.counts c.counts (fades_same c.counts) (awaits_more v op kept b refl refl refl refl refl) backs)
      (λ x late. late_pends v op kept (plain_boxes v op kept (Returning t) at refl) (rows_as refl refl refl (clears_rows (noted c t) q turn on)) x (same_late v op kept b refl refl refl x late)) calm.0 calm.1 (clears_in b.collector.phase on)
  passed_rule {turn} (step.Step.release m at is on) = released_passed turn m at is on
  passed_rule {turn} (step.Step.freeing m at is on) = freed_passed turn m at is on
  passed_rule {turn} (step.Step.trial m at is on) = trial_passed turn m at is on
  passed_rule {turn} (step.Step.preparation m at is on) = preparation_passed turn m at is on
  passed_rule {turn} (step.Step.begin_sweep at is g) = sweeps_on Opening at refl refl refl (some_op op ops.AddFreed is) (ap (λ (x : collectors.Private). x.counts) g.after) (Rows.kept_rows (ap (λ (x : collectors.Private). x.newer) g.after) (ap (λ (x : collectors.Private). x.older) g.after) (ap (λ (x : collectors.Private). x.collections) g.after)) (plain_boxes v op kept Opening at refl)
  passed_rule (step.Step.sweep None swept_ w next at is took follows g) = let n : ◌≡◌ {A = Option Op} (Some op) None = is in absurd (cc)
  passed_rule {turn} (step.Step.sweep (Some x) swept_ w next at is took follows g) =
      swept_passed x swept_ next at (some_op op (ops.FreeHeader x) is) (g.after ∙ ap (λ (k : sweeps.Work). record c { counts = k.counts; freed = c.freed + 1; phase = next; turns = c.turns + 1 }) took)
  passed_rule {turn} (step.Step.end_sweep swept_ at is e) = sweeps_on (Closing swept_) at refl refl refl (some_op op ops.AddFreed is) (ap (λ (x : collectors.Private). x.counts) e.after) (Rows.turned_rows (ap (λ (x : collectors.Private). x.newer) e.after) (ap (λ (x : collectors.Private). x.older) e.after) (ap (λ (x : collectors.Private). x.collections) e.after) (ap (λ (x : collectors.Private). x.phase) e.after)) (plain_boxes v op kept (Closing swept_) at refl)
