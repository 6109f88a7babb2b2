-- The trial to which every slot is offered, in a heap at rest: as it begins, from load to load, and what it has found.
use Rattle.std.proofs.Common.{◌≡◌, inl, inr, ℕ, ◌+◌, ◌-◌, ◌*◌, ◌/◌, ◌%◌, ◌<◌, ◌==◌, if◌then◌else◌, Bool, true, false, Option, None, Some, List, [], ◌∷◌, ◌++◌, length, slice_index_or, sum_by, refl, sym, ap, subst, ◌∙◌, arith, IsNone}
use Rattle.std.proofs.Math.Nat.{mod-lt, div-add-mod, mul_comm}
use Rattle.std.proofs.lemmas.Bool.{cases_lt, eq-eqb, eqb-true, false≢true}
use Rattle.std.proofs.lemmas.List.{get_or_default, get_or_past}
use Rattle.std.proofs.lemmas.Nat.{div_below}
use Rattle.rec_core.proofs.Common.{place_of, target_of, Op, is_dead, Pending, registers_name_the_taken, Slot, State, slot_at, one, no_set, some_set, unreleased_within, named, visible, IsTaken, Machine, Work, op_at, started_of, PreparedTo, prep_started, with_offers, Parts, new_prep, Trying, still, Core, sight, IsKept, is_green}
use Rattle.rec_settle.specs.Resting.{holds, AreCounted, AreFound, AreLeaves, AreUnnamed, TrialRests, PrepRests}
use Rattle.rec_settle.specs.Settling.{heap_sum, offered_slots, IsOffered, FindsGarbage, AreEmptied, LeadBack}
use Rattle.rec_word.specs.declared.op.Op.TheVariants.{LoadChild}
use Rattle.rec_model.specs.Heap.{roots}
use Rattle.rec_model.specs.Reach.{is_in}
use Rattle.rec_counts.specs.Counts.{IsKept as IsKeptCounts}
use Rattle.rec_trial.specs.Loaded.{Run, noted, noted_at}
use Rattle.rec_trial.specs.Promised.{unloaded}
use Rattle.rec_trial.specs.Rules.{IsReady}
use Rattle.rec_trial.specs.Still.{AreStill, references, visible_words}
use Rattle.rec_trial.specs.Trial.{next_of as trial_next, took_of}
use Rattle.rec_trial.specs.declared.phase.Phase as trial_phases
use Rattle.rec_trial.specs.declared.phase.Phase.TheVariants as trial_at
use Rattle.rec_trial.proofs.Promised.{begun_promised, took_promised, took_recorded}
use Rattle.rec_sigma.specs.Prepare as preps
use Rattle.rec_sigma.proofs.Runs.{Came, came_first, started_is}
use Rattle.rec_collector.specs.Offered.{AreOffered, KeepsOffered}
use Rattle.rec_collector.proofs.Offering.{offers_whole, where_ready}
use Rattle.rec_settle.specs.Settling.{word_in}
use Rattle.rec_core.proofs.Counts.{counted_slot}
use Rattle.rec_core.proofs.Landed.{landed_pending, HasLanded}
use Rattle.rec_core.proofs.Reach.{sight_is}
use Rattle.rec_settle.proofs.Rest.SettlingFinds.{garbage_unheld, offered_other, offered_unreleased, trial_finds_garbage}
use Rattle.rec_settle.proofs.Rest.SettlingPrepared.{loads_begun}
use Rattle.rec_settle.proofs.Rest.SettlingSets.{found_counts, found_lead_back, references_in_words}
use Rattle.rec_core.proofs.Trying.{loaded_leads}
use Rattle.rec_core.proofs.Turns.{now_at}
use Rattle.rec_core.proofs.Zeros.{landed_empty, leaf_empty}
use Rattle.rec_settle.proofs.Rest.Rested.{named_root}
use Rattle.rec_trial.proofs.Visible.{visible_leads, visible_same}

module _ {w : Core} {crossing words : List ℕ} {v : Parts} (l : HasLanded w crossing words (still v)) where
  open v use {counts as s}

  abbrev p : Pending
  p = landed_pending w words s

  -- There are as many words as the slots have fields.
  pub words_landed : length words ≡ length v.counts.slots * w.config.fields
  words_landed = l.many_words ∙ l.kept.sound.places ∙ ap (λ n. n * w.config.fields) (l.kept.headers ∙ sym l.slots)

  -- what is known of the node of a slot that is there, is known of the slot
  node_unreleased : (x : ℕ) → x < w.config.slots → p.released (x + 1) ≡ false → (slot_at s x).released ≡ false
  node_unreleased x there e = ap (λ (c : Slot). c.released) (sym (counted_slot s x (omega (arith, there, l.slots)))) ∙ e

  not_dead : (free released : Bool) → (if free then true else released) ≡ false → released ≡ false
  not_dead true released is = absurd (false≢true (sym is))
  not_dead false released is = is

  -- what a register names is not released,
  named_unreleased : (x : ℕ) → 0 < sum_by (named x) (sight w).registers → (slot_at s x).released ≡ false
  named_unreleased x h =
      let root : is_in x (roots (sight w).registers) ≡ true = named_root x (sight w).registers h in
      let (epoch, held) = (sight_is w l.kept).registers x root in
      let alive : is_dead p (x + 1) ≡ false = registers_name_the_taken p l.accounted epoch (x + 1) (omega arith) held in
      let headers : length w.headers ≡ w.config.slots = l.kept.headers in
      let taken : IsTaken (sight w) x = l.kept.sound.registers x root in
      let there : x < w.config.slots = elim (cases_lt x (length w.headers)) [ inl below ↦ omega (arith, below, headers) | inr past ↦ absurd (omega (arith, taken, get_or_past w.headers x 0 past)) ] in
      node_unreleased x there (not_dead (p.free (x + 1)) (p.released (x + 1)) alive)

  -- and neither is what is free
  free_unreleased : (x : ℕ) → slice_index_or w.headers x 1 ≡ 0 → (slot_at s x).released ≡ false
  free_unreleased x none = elim (cases_lt x (length w.headers)) [
    | inl there ↦
        let headers : length w.headers ≡ w.config.slots = l.kept.headers in
        let at : x + 1 - 1 ≡ x = omega arith in
        let zero_there : slice_index_or w.headers (x + 1 - 1) 0 ≡ 0 = ap (λ n. slice_index_or w.headers n 0) at ∙ sym (get_or_default w.headers x 1 0 there) ∙ none in
        node_unreleased x (omega (arith, there, headers)) (l.accounted.apart (x + 1) (omega arith) (ap (λ n. n == 0) zero_there ∙ eq-eqb 0 0 refl))
    | inr past ↦ absurd (omega (arith, none, get_or_past w.headers x 1 past))
  ]

  -- So what a register names, and what is free, is not released.
  held_unreleased : (x : ℕ) → 0 < holds (sight w) x → (slot_at v.counts x).released ≡ false
  held_unreleased x h = elim (cases_lt 0 (sum_by (named x) (sight w).registers)) [
    | inl registers ↦ named_unreleased x registers
    | inr none ↦ free (slice_index_or w.headers x 1 == 0) refl (omega (arith, h, none))
  ]
    where
      free : (b : Bool) → (slice_index_or w.headers x 1 == 0) ≡ b → 0 < one b → (slot_at s x).released ≡ false
      free true e some = free_unreleased x (eqb-true (slice_index_or w.headers x 1) 0 e)
      free false e some = absurd (omega (arith, some))

  -- where nothing is begun, released slots lead nowhere
  pub emptied_landed : AreEmptied w.config.fields words [] v.counts
  emptied_landed place inside released _ =
      let fields : ℕ = w.config.fields in
      let wide : 0 < fields = l.kept.config.some_fields in
      let x : ℕ = place / fields in
      let f : ℕ = place % fields in
      let there : x < w.config.slots = div_below place fields w.config.slots wide (omega (arith, inside, words_landed, ap (λ n. n * fields) l.slots)) in
      let at : place ≡ place_of x f fields = sym (div-add-mod place fields) ∙ ap (λ n. n + f) (mul_comm fields x) in
      ap (λ n. target_of (slice_index_or words n 0)) at ∙ ap target_of (landed_empty l x f there (mod-lt place wide) released)

  -- no field of a Green slot leads anywhere
  pub leaves_landed : AreLeaves w.config.fields words v.counts
  leaves_landed place inside green =
      let fields : ℕ = w.config.fields in
      let wide : 0 < fields = l.kept.config.some_fields in
      let at : place ≡ place_of (place / fields) (place % fields) fields = sym (div-add-mod place fields) ∙ ap (λ n. n + place % fields) (mul_comm fields (place / fields)) in
      ap (λ n. target_of (slice_index_or words n 0)) at ∙ ap target_of (leaf_empty l (place / fields) (place % fields) (mod-lt place wide) green)

  -- every slot is offered: these are the counts with which the trial begins
  offered_landed : v.counts.sets ≡ [] → v.offers ≡ true → AreCounted w words v.counts
      → IsOffered w.config.fields (word_in w.config.fields words) (holds (sight w)) (with_offers v).counts × AreEmptied w.config.fields words [] (with_offers v).counts × AreLeaves w.config.fields words (with_offers v).counts
  offered_landed none_sets asked counted =
      let fields : ℕ = w.config.fields in
      let t : State = (with_offers v).counts in
      let offers : AreOffered s t = (offers_whole v asked l.counts none_sets).0 in
      let keeps : KeepsOffered s t = offers.keeps in
      let empty : AreEmptied fields words [] t = λ place inside released z. emptied_landed place inside (sym (keeps.rest.released (place / fields)) ∙ released) z in
      let long : length words ≡ length t.slots * fields = words_landed ∙ ap (λ n. n * fields) (sym keeps.rest.slots) in
      let leaves : AreLeaves fields words t = λ place inside green. leaves_landed place inside (sym (offers.green (place / fields)) ∙ green) in (
        record {
          seeds = λ x e. offers.seeds x (sym (keeps.rest.released x) ∙ offered_unreleased (slot_at t x) e) (sym (offers.green x) ∙ offered_other (slot_at t x) e);
          counted = λ x e.
              let there : x < w.config.slots = omega (arith, unreleased_within t x (offered_unreleased (slot_at t x) e), keeps.rest.slots, l.slots) in
              let words_of : references fields (word_in fields words) (offered_slots t) x ≡ heap_sum words x = references_in_words fields words t x l.kept.config.some_fields long empty leaves in
              keeps.counts x ∙ counted x there ∙ ap (λ n. n + holds (sight w) x) (sym words_of);
          held = λ x h. keeps.rest.released x ∙ held_unreleased x h;
          other = λ n field x within leads. not_green n field x within leads (is_green (slot_at t n).colour) refl;
        },
        empty,
        leaves,
      )
    where
      not_green : (n field x : ℕ) → field < w.config.fields → target_of (word_in w.config.fields words n field) ≡ Some x → (b : Bool) → is_green (slot_at (with_offers v).counts n).colour ≡ b → b ≡ false
      not_green n field x within leads false e = refl
      not_green n field x within leads true e =
          let none : word_in w.config.fields words n field ≡ 0 = leaf_empty l n field within (sym ((offers_whole v asked l.counts none_sets).0.green n) ∙ e) in
          let null : target_of 0 ≡ None = refl in
          let not_so : ◌≡◌ {A = Option ℕ} None (Some x) = sym null ∙ (ap target_of (sym none) ∙ leads) in
          absurd (cc)

-- So where counts are true, and every slot is to be offered, the trial that begins now rests.
pub trial_rests_begun : {w : Core} {crossing words : List ℕ} {v : Parts} → HasLanded w crossing words (still v) → IsReady v.counts → v.counts.sets ≡ [] → v.offers ≡ true → AreCounted w words v.counts
    → TrialRests w words (started_of v.fields (with_offers v).counts)
trial_rests_begun {w} {crossing} {words} {v} l ready none asked counted =
    let before : State = (with_offers v).counts in
    let u : Work = started_of v.fields before in
    let offered = offered_landed l none asked counted in
    record {
      before = before;
      loaded = [];
      run = unloaded u;
      trial = begun_promised w.config.fields before u l.kept.config.some_fields (where_ready v.offers v.counts ready) (ap (λ n. started_of n before) l.fields);
      at = refl;
      marks = tt;
      blacks = tt;
      finds = tt;
      offered = offered.0;
      emptied = offered.1;
      leaves = offered.2;
    }

-- the field that is due is the one that comes next
due_place : (m : Machine) (place : ℕ) → ◌≡◌ {A = Option Op} (trial_next m) (Some (LoadChild place)) → place ≡ place_of m.slot m.field m.fields
unfolding trial_next
due_place m place named = go m.phase named
  where
    loads : (at : ℕ) → ◌≡◌ {A = Option Op} (Some (LoadChild at)) (Some (LoadChild place)) → place ≡ at
    loads at is = cc

    go : (phase : trial_phases.Phase) → ◌≡◌ {A = Option Op} (op_at phase m) (Some (LoadChild place)) → place ≡ place_of m.slot m.field m.fields
    go trial_at.Idle none = let no : ◌≡◌ {A = Option Op} None (Some (LoadChild place)) = none in absurd (cc)
    go trial_at.Marking is = loads (place_of m.slot m.field m.fields) is
    go trial_at.Scanning is = loads (place_of m.slot m.field m.fields) is
    go trial_at.Collecting is = loads (place_of m.slot m.field m.fields) is

-- one load more, of the word that its field has
module _ (word : ℕ → ℕ → ℕ) (r : Run) (found : ℕ) (is : found ≡ word r.work.machine.slot r.work.machine.field) where
  still_marks : (phase : trial_phases.Phase) → AreStill word r.marking → AreStill word (noted_at phase r found).marking
  still_marks trial_at.Marking h = (is, h)
  still_marks _ h = h

  still_blacks : (phase : trial_phases.Phase) → AreStill word r.blackening → AreStill word (noted_at phase r found).blackening
  still_blacks trial_at.Scanning h = (is, h)
  still_blacks _ h = h

  still_finds : (phase : trial_phases.Phase) → AreStill word r.collecting → AreStill word (noted_at phase r found).collecting
  still_finds trial_at.Collecting h = (is, h)
  still_finds _ h = h

-- A field was loaded: each word that was loaded stands still.
pub trial_rests_more : (w : Core) (m : Machine) (place : ℕ) → IsKept true w → w.collector.phase ≡ Trying m → ◌≡◌ {A = Option Op} (trial_next m) (Some (LoadChild place))
    → TrialRests w w.words (record { machine = m; counts = w.collector.counts }) → TrialRests w w.words (took_of (record { machine = m; counts = w.collector.counts }) (visible w.collector.counts (slice_index_or w.words place 0)))
trial_rests_more w m place kept phase named h =
    let s : State = w.collector.counts in
    let raw : ℕ = slice_index_or w.words place 0 in
    let found : ℕ = visible s raw in
    let after : Work = took_of (record { machine = m; counts = s }) found in
    let word : ℕ → ℕ → ℕ = visible_words h.before (word_in w.config.fields w.words) in
    let fields : m.fields ≡ w.config.fields = (now_at w (Trying m) kept phase).fields ∙ kept.collector.fields in
    let here : place ≡ place_of m.slot m.field w.config.fields = due_place m place named ∙ ap (place_of m.slot m.field) fields in
    let same : h.run.work.machine ≡ m = ap (λ (x : Work). x.machine) h.at in
    let greens : (x : ℕ) → is_green (slot_at s x).colour ≡ is_green (slot_at h.before x).colour = λ x. ap (λ (v : Work). is_green (slot_at v.counts x).colour) (sym h.at) ∙ h.trial.careful.green x in
    let is : found ≡ word h.run.work.machine.slot h.run.work.machine.field = visible_same h.before s greens raw ∙ ap (λ n. visible h.before (slice_index_or w.words n 0)) here ∙ ap (λ (x : Machine). word x.slot x.field) (sym same) in
    record {
      before = h.before;
      loaded = h.loaded ++ found ∷ [];
      run = noted h.run found;
      trial = took_promised w.config.fields h.before h.loaded h.run m s found (visible_leads s raw (loaded_leads w m kept phase place named)) h.at h.trial;
      at = took_recorded h.run m s found after.machine after.counts h.at refl;
      marks = still_marks word h.run found is h.run.work.machine.phase h.marks;
      blacks = still_blacks word h.run found is h.run.work.machine.phase h.blacks;
      finds = still_finds word h.run found is h.run.work.machine.phase h.finds;
      offered = h.offered;
      emptied = h.emptied;
      leaves = h.leaves;
    }

-- The trial is over: it found what is not within reach, and its sets are to be prepared.
pub prep_rests_begun : {w : Core} {crossing words : List ℕ} (v : Parts) (m : Machine) → HasLanded w crossing words (still v) → TrialRests w words (record { machine = m; counts = v.counts }) → trial_next m ≡ None
    → PrepRests w words (prep_started v)
prep_rests_begun {w} {crossing} {words} v m l h over =
    let fields : ℕ = w.config.fields in
    let word : ℕ → ℕ → ℕ = word_in fields words in
    let after : State = h.run.work.counts in
    let same : after ≡ v.counts = ap (λ (x : Work). x.counts) h.at in
    let kept : IsKeptCounts after = subst IsKeptCounts (sym same) l.counts in
    let done : IsNone (trial_next h.run.work.machine) = subst (λ (x : Work). IsNone (trial_next x.machine)) (sym h.at) (subst (λ o. IsNone o) (sym over) refl) in
    let long : length words ≡ length h.before.slots * fields = words_landed l ∙ ap (λ (t : State). length t.slots * fields) (sym same) ∙ ap (λ n. n * fields) h.trial.careful.slots in
    let finds : FindsGarbage fields word (holds (sight w)) h.before after = trial_finds_garbage fields h.before h.loaded h.run word (holds (sight w)) h.trial done h.marks h.blacks h.offered in
    let found : AreFound w words after = λ x e other none unheld. omega (arith, no_set kept x none, finds.all x (record { unreleased = sym (h.trial.careful.released x) ∙ e; other = sym (h.trial.careful.green x) ∙ other; unreached = unheld })) in
    let unnamed : AreUnnamed w after = λ x i e. garbage_unheld fields word (holds (sight w)) h.before x (finds.only x (some_set kept x i e)) in
    let came : Came fields v.counts (preps.work_of fields (preps.next_set v.counts 0)) [] = came_first fields v.counts l.kept.config.some_fields l.counts.numbers in
    record {
      before = v.counts;
      before_kept = l.counts;
      loads = [];
      prepares = subst (λ (x : preps.Work). PreparedTo fields v.counts x.machine.at x.counts []) (sym (started_is (new_prep v.fields) v.counts)) came.law;
      are_loads = loads_begun fields words;
      counted = subst (λ (t : State). (x i : ℕ) → (slot_at t x).set ≡ Some i → (slot_at t x).count ≡ heap_sum words x) same
          (found_counts fields h.before h.loaded words h.run (holds (sight w)) h.trial done h.marks h.blacks h.finds h.offered kept long h.emptied h.leaves);
      back = subst (LeadBack fields words []) same (found_lead_back fields h.before h.loaded words h.run (holds (sight w)) h.trial done h.marks h.blacks h.finds h.offered kept long h.emptied h.leaves);
      found = subst (AreFound w words) same found;
      unnamed = subst (AreUnnamed w) same unnamed;
    }
