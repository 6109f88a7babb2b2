-- A trial at work loads a field of the heap, whose word leads to no slot that was given up. Where it has come to is as the landing
-- of a turn wants it.
use Rattle.std.proofs.Common.{◌≡◌, inl, inr, ℕ, ◌+◌, ◌-◌, ◌/◌, ◌%◌, ◌<◌, ◌≤◌, ◌==◌, if◌then◌else◌, Bool, true, false, Option, None, Some, [], ◌∷◌, ◌++◌, IfSome, length, slice_index_or, refl, sym, ap, subst, ◌∙◌, arith}
use Rattle.std.proofs.Math.Nat.{mod-lt, div-add-mod, mul_comm}
use Rattle.std.proofs.lemmas.Bool.{false≢true, cases_Bool, cases_lt, eq-eqb}
use Rattle.std.proofs.lemmas.List.{get_or_past}
use Rattle.rec_core.proofs.Common.{place_of, target_of, Op, is_dead, node_of, home, Pending, fields_name_the_taken, slot_at, fresh, Slot, At, Member, LeadsToUnreleased, LeadsToVisible, visible, Machine, Work, op_at, parts_of, TriesOn, Trying, Turn, still, Core, TrialStands, IsLoading, IsLeft, IsLeftOf, IsKept, freeing_due, release_due, code, slot_of, pending, is_green}
use Rattle.rec_word.specs.declared.op.Op.TheVariants.{LoadChild}
use Rattle.rec_trial.specs.declared.phase.Phase as trial_phases
use Rattle.rec_trial.specs.declared.phase.Phase.TheVariants as trial_at
use Rattle.rec_trial.specs.Loaded.{noted}
use Rattle.rec_trial.specs.Trial.{next_of, took_of}
use Rattle.rec_trial.proofs.AtWork.{at_work_place}
use Rattle.rec_trial.proofs.Counted.{took_counted}
use Rattle.rec_trial.proofs.Keeps.{took_keeps}
use Rattle.rec_trial.proofs.Promised.{took_promised, took_recorded}
use Rattle.rec_collector.specs.Kept as collector_kept
use Rattle.rec_collector.specs.Private.{Private}
use Rattle.rec_core.proofs.CyclesTrial.{trial_stands_noted}
use Rattle.rec_core.proofs.Landed.{landed_pending, HasLanded}
use Rattle.rec_core.proofs.Landings.{IsUnswept, here_done, here_pending, landed_alike, landed_still, lands_here, tried_alike, tries_kept}
use Rattle.rec_core.proofs.Moves.{code_target}
use Rattle.rec_core.proofs.Steps.{slot_there, fields_many}
use Rattle.rec_core.proofs.Turns.{cycles_in, now_at}
use Rattle.rec_trial.proofs.Visible.{visible_leads}

-- the operation of a trial loads a field
pub loads_child : (m : Machine) (op : Op) → ◌≡◌ {A = Option Op} (Some op) (next_of m) → (place : ℕ) × (op ≡ LoadChild place)
unfolding next_of
loads_child m op named = go m.phase named
  where
    loads : (place : ℕ) → ◌≡◌ {A = Option Op} (Some op) (Some (LoadChild place)) → (p : ℕ) × (op ≡ LoadChild p)
    loads place is = (place, cc)

    go : (phase : trial_phases.Phase) → ◌≡◌ {A = Option Op} (Some op) (op_at phase m) → (place : ℕ) × (op ≡ LoadChild place)
    go trial_at.Idle none = absurd (cc)
    go trial_at.Marking is = loads _ is
    go trial_at.Scanning is = loads _ is
    go trial_at.Collecting is = loads _ is

-- A word of the heap leads to no slot that was given up, where no release is at work: the fields of those that were given up are
-- empty, and no other field names one.
module _ (w : Core) (place : ℕ) (kept : IsKept true w) (unreleased : release_due w.collector.phase ≡ None) (unfreed : freeing_due w.collector.phase ≡ None) (inside : place < length w.words) where
  abbrev word : ℕ
  word = slice_index_or w.words place 0

  -- the slot that has the field
  abbrev own : ℕ
  own = place / w.config.fields

  -- where it was given up, the field is empty
  given_up_empty : (slot_of w (own + 1)).released ≡ true → word ≡ 0
  given_up_empty up = elim (cases_lt own w.config.slots) [
    | inl there ↦
        let some : 1 ≤ w.config.fields = kept.config.some_fields in
        let f : ℕ = place % w.config.fields in
        let within : f < w.config.fields = mod-lt place some in
        let at : place ≡ place_of own f w.config.fields = sym (div-add-mod place w.config.fields) ∙ ap (λ n. n + f) (mul_comm w.config.fields own) in
        let released : (slot_at w.collector.counts own).released ≡ true = ap (λ (v : Slot). v.released) (sym (slot_there w kept own there)) ∙ up in
        elim (kept.collector.emptied own f there within released) [
          | inl left ↦ absurd (subst (λ (o : Option At). IsLeft o own f) unreleased left)
          | inr rest ↦ elim rest [
            | inl left ↦ absurd (subst (λ (o : Option Member). IsLeftOf w.collector.counts.work o own f) unfreed left)
            | inr none ↦ ap (λ n. slice_index_or w.words n 0) at ∙ none
          ]
        ]
    | inr past ↦
        let many : length w.collector.counts.slots ≡ w.config.slots = kept.collector.slots in
        let is : slot_of w (own + 1) ≡ fresh = get_or_past w.collector.counts.slots (own + 1 - 1) fresh (omega (arith, past, many)) in
        absurd (false≢true (sym (ap (λ (v : Slot). v.released) is) ∙ up))
  ]

  -- what it names is neither free nor given up
  alive : (slot : ℕ) → target_of word ≡ Some slot → is_dead (pending w) (slot + 1) ≡ false
  alive slot is =
      let node : node_of word ≡ slot + 1 = sym (code_target word) ∙ ap code is in
      ap (is_dead (pending w)) (sym node) ∙ elim (cases_Bool ((pending w).released (home w.config.fields place))) [
        | inl up ↦ let null : ◌≡◌ {A = Option ℕ} None (Some slot) = sym (ap target_of (given_up_empty up)) ∙ is in absurd (cc)
        | inr not_so ↦ fields_name_the_taken (pending w) kept.accounted place inside not_so (omega (arith, node))
      ]

  parts : (free released : Bool) → (if free then true else released) ≡ false → (free ≡ false) × (released ≡ false)
  parts true released is = absurd (false≢true (sym is))
  parts false released is = (refl, is)

  -- so it leads to a slot that is there, and wasn't given up
  live_target : (slot : ℕ) → target_of word ≡ Some slot → (slot < w.config.slots) × ((slot_at w.collector.counts slot).released ≡ false)
  live_target slot is =
      let lives = parts ((pending w).free (slot + 1)) ((pending w).released (slot + 1)) (alive slot is) in
      elim (cases_lt slot w.config.slots) [
        | inl there ↦ (there, ap (λ (v : Slot). v.released) (sym (slot_there w kept slot there)) ∙ lives.1)
        | inr past ↦
            let headers : length w.headers ≡ w.config.slots = kept.headers in
            let free : (pending w).free (slot + 1) ≡ true = ap (λ n. n == 0) (get_or_past w.headers (slot + 1 - 1) 0 (omega (arith, past, headers))) ∙ eq-eqb 0 0 refl in
            absurd (false≢true (sym lives.0 ∙ free))
      ]

  unreleased_target : LeadsToUnreleased w.collector.counts word
  unreleased_target = go (target_of word) refl
    where
      go : (t : Option ℕ) → target_of word ≡ t → IfSome t (λ slot. (slot_at w.collector.counts slot).released ≡ false)
      go None is = tt
      go (Some slot) is = (live_target slot is).1

  pub target_there : IfSome (target_of word) (λ slot. slot < length w.collector.counts.slots)
  target_there = go (target_of word) refl
    where
      go : (t : Option ℕ) → target_of word ≡ t → IfSome t (λ slot. slot < length w.collector.counts.slots)
      go None is = tt
      go (Some slot) is = let many : length w.collector.counts.slots ≡ w.config.slots = kept.collector.slots in omega (arith, (live_target slot is).0, many)

-- A trial is at work: the field that it loads is one of the heap.
module _ (w : Core) (m : Machine) (kept : IsKept true w) (phase : w.collector.phase ≡ Trying m) where
  open w use {collector as c}

  now : collector_kept.IsTrying c m
  now = now_at w (Trying m) kept phase

  unswept : IsUnswept w.epoch (Trying m)
  unswept = record { way = refl; still = refl; applied = refl; older = refl; stands = λ s. refl; held = λ v. tt; between = tt; some = tt }

  loaded_inside : (place : ℕ) → ◌≡◌ {A = Option Op} (next_of m) (Some (LoadChild place)) → place < length w.words
  loaded_inside place named = subst (λ n. place < n) (fields_many w (length c.counts.slots) m.fields kept kept.collector.slots (now.fields ∙ kept.collector.fields)) (at_work_place m c.counts now.kept place named)

  -- and what it finds there leads to no slot that was given up
  pub loaded_leads : (place : ℕ) → ◌≡◌ {A = Option Op} (next_of m) (Some (LoadChild place)) → LeadsToUnreleased c.counts (slice_index_or w.words place 0)
  loaded_leads place named = unreleased_target w place kept (ap release_due phase) (ap freeing_due phase) (loaded_inside place named)

  -- where it has come to, words and crossing words are as they were
  module _ (place : ℕ) (named : ◌≡◌ {A = Option Op} (next_of m) (Some (LoadChild place))) where
    abbrev found : ℕ
    found = slice_index_or w.words place 0

    abbrev after : Work
    after = took_of (record { machine = m; counts = c.counts }) (visible c.counts found)

    pub trying_lands : HasLanded w w.crossing w.words (still (record (parts_of c) { counts = after.counts }))
    trying_lands =
        let leads = visible_leads c.counts found (loaded_leads place named) in
        landed_alike (landed_still (parts_of c) c.phase (ap release_due phase) (ap freeing_due phase) (lands_here w (Trying m) kept phase unswept)) after.counts
        (tried_alike c.counts after.counts (took_keeps m c.counts now.kept (visible c.counts found) leads)) (took_counted m c.counts now.kept now.busy (visible c.counts found) leads kept.collector.machine.counts)

    -- and its record goes with it
    pub trying_loads : IsLoading (landed_pending w w.words after.counts) after.counts after.machine
    trying_loads =
        let loading : IsLoading (pending w) c.counts m = cycles_in w (Trying m) kept.whole phase in
        let p : Pending = landed_pending w w.words c.counts in
        let named_there : next_of loading.run.work.machine ≡ Some (LoadChild place) = ap (λ (x : Work). next_of x.machine) loading.at ∙ named in
        let same_counts : loading.run.work.counts ≡ c.counts = ap (λ (x : Work). x.counts) loading.at in
        let leads : LeadsToVisible c.counts (visible c.counts found) = visible_leads c.counts found (loaded_leads place named) in
        let greens : (x : ℕ) → is_green (slot_at (took_of loading.run.work (visible loading.run.work.counts found)).counts x).colour ≡ is_green (slot_at loading.run.work.counts x).colour
        = subst (λ (v : Work). (x : ℕ) → is_green (slot_at (took_of v (visible v.counts found)).counts x).colour ≡ is_green (slot_at v.counts x).colour) (sym loading.at) (took_keeps m c.counts now.kept (visible c.counts found) leads).green in
        let stands : TrialStands p (noted loading.run (visible loading.run.work.counts found))
        = trial_stands_noted p w.config.fields loading.before loading.words loading.run place (lands_here w (Trying m) kept phase unswept).accounted (here_done w kept) refl loading.trial named_there (loaded_inside place named) greens
        (subst (λ (x : Pending). TrialStands x loading.run) (here_pending w (Trying m) phase unswept) loading.stands) in
        let seen : TrialStands p (noted loading.run (visible c.counts found)) = subst (λ s. TrialStands p (noted loading.run (visible s found))) same_counts stands in
        record {
          before = loading.before;
          words = loading.words ++ visible c.counts found ∷ [];
          run = noted loading.run (visible c.counts found);
          trial = took_promised w.config.fields loading.before loading.words loading.run m c.counts (visible c.counts found) leads loading.at loading.trial;
          at = took_recorded loading.run m c.counts (visible c.counts found) after.machine after.counts loading.at refl;
          stands = record { marks = seen.marks; blacks = seen.blacks; unmarked = seen.unmarked };
        }

    -- whatever follows
    pub trying_kept : (q : Private) (turn : Turn) → collector_kept.IsMachine q → TriesOn c (parts_of c) after q turn → IsKept true (record w { collector = q })
    trying_kept q turn machine on = tries_kept w w.crossing w.words q machine (parts_of c) after turn trying_lands trying_loads on
