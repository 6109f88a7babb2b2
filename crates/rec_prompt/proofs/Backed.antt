-- In every state of every run the sets that wait for their tests are backed, whatever was refused.
use Rattle.std.proofs.Common.{◌≡◌, ◌≢◌, inl, ℕ, ◌+◌, ◌<◌, ◌==◌, true, false, Option, None, Some, IfSome, List, [], ◌∷◌, length, slice_index_or, slice_set, refl, sym, ap, subst, ◌∙◌, arith}
use Rattle.std.proofs.lemmas.Bool.{cond-false, ne_eqb}
use Rattle.std.proofs.lemmas.List.{set-get_or}
use Rattle.rec_core.specs.Pending.{has_batched}
use Rattle.rec_core.proofs.Common.{Contents, AllFit, crossing_word, IsApart, times, Fits, Move, Retired, place_of, target_of, visible, LeadsToVisible, Op, State, slot_at, Sight, Parts, parts_of, prep_started, put_off, with_offers, with_released, with_freed, zeros_released, ClearsOn, TriesOn, PreparesOn, Begun, still, noted, requested, Phase, Idle, Looking, Returning, Releasing, Freeing, Trying, Preparing, Opening, Sweeping, Closing, Turn, Machine, Work, cell, with_cell, Core, cells_of, box, sight, stand_at, IsKept, IsKeptBy, left_by, looked_at, turned_by, At, Member, swept, swept_clean, after_move, after_moves}
use Rattle.rec_word.specs.Op.{written}
use Rattle.rec_word.specs.declared.op.Op.TheVariants as ops
use Rattle.rec_release.specs.CycleFree as frees
use Rattle.rec_release.specs.Release as releases
use Rattle.rec_release.specs.Sweep as sweeps
use Rattle.rec_sigma.specs.Prepare as preps
use Rattle.rec_trial.specs.Rules.{IsReady}
use Rattle.rec_trial.specs.Trial as trials
use Rattle.rec_word.specs.Walk.{IsOf}
use Rattle.rec_trial.specs.Loaded.{run_of}
use Rattle.rec_trial.specs.Trial.{list_of}
use Rattle.rec_trial.proofs.Course.{first_view, learnt, learnt_course}
use Rattle.rec_trial.proofs.Holding.{inv_at}
use Rattle.rec_trial.proofs.Views.{view}
use Rattle.rec_counts.proofs.Times.{times_at}
use Rattle.rec_trial.proofs.Deletion.{Loads}
use Rattle.rec_trial.proofs.Midway.{at_work_course, at_work_due, at_work_told}
use Rattle.rec_trial.proofs.Runs.{opened_course, seen_in, took_busy}
use Rattle.rec_trial.proofs.Running.{due_op}
use Rattle.rec_trial.proofs.Visible.{visible_leads}
use Rattle.rec_collector.specs.Kept as collector_kept
use Rattle.rec_collector.specs.Private as collectors
use Rattle.rec_collector.specs.Step as step
use Rattle.rec_collector.specs.Took.{step_of}
use Rattle.rec_collector.proofs.Offering.{where_ready}
use Rattle.rec_collector.proofs.Testing.{clear_ready}
use Rattle.rec_collector.proofs.Trying.{took_others}
use Rattle.rec_core.proofs.Applying.{counted}
use Rattle.rec_core.proofs.Begun.{applied_lands}
use Rattle.rec_core.proofs.Freeing.{freed_lands}
use Rattle.rec_core.proofs.Gathering.{awaits_kept}
use Rattle.rec_core.proofs.Landed.{HasCleared}
use Rattle.rec_core.proofs.Landings.{prep_others}
use Rattle.rec_core.proofs.Phases.{clears_in}
use Rattle.rec_core.proofs.PlainWords.{crosses_none, waits_other}
use Rattle.rec_core.proofs.Preparing.{loads_due}
use Rattle.rec_core.proofs.Releasing.{released_lands}
use Rattle.rec_core.proofs.SetTests.{tested_lands}
use Rattle.rec_core.proofs.Trying.{loaded_leads, loads_child}
use Rattle.rec_core.proofs.TurnCases.{Awaits, giving_back, requesting}
use Rattle.rec_core.proofs.Turning.{mutator_at, some_op, turn_case}
use Rattle.rec_core.proofs.Turns.{now_at}
use Rattle.rec_core.proofs.Runs.{move_kept, rule_of}
use Rattle.rec_prompt.specs.Cover.{IsPending}
use Rattle.rec_prompt.specs.Lost.{Leads}
use Rattle.rec_prompt.proofs.Backing.{AreBacked, backed_fades, backed_learnt, backed_more, backed_settled, backed_stays, none_backed}
use Rattle.rec_prompt.proofs.Batch.{IsLate}
use Rattle.rec_prompt.proofs.Cut.{backed_counted, backed_cut}
use Rattle.rec_prompt.proofs.Fading.{Fades, fades_on, fades_others, fades_postponed, fades_freed, fades_released, fades_same, fades_tested, fades_written, fades_zeros}
use Rattle.rec_prompt.proofs.Found.{prepares_counts}
use Rattle.rec_prompt.proofs.Learnt.{seen_leads}
use Rattle.rec_prompt.proofs.Mutators.{begun_hides, Hides, hides_leads, offering_pends, step_hides}
use Rattle.rec_prompt.proofs.Turned.{awaits_more, before_pends, gathered_pends, late_of, late_pends, plain_boxes, quiet, same_late}
use Rattle.rec_prompt.proofs.Turns.{clears_rows, prepares_rows, Rows, rows_as, tries_rows}

-- Over a turn, what follows leaves the sets backed.
module _ (w : Core) (crossing words : List ℕ) (pending : ℕ → Type 0) (q : collectors.Private) (turn : Turn) where
  abbrev at_words : Sight
  at_words = sight (record w { words = words })

  prepares_backed : (p : collectors.Private) (v : Parts) (u : preps.Work) → PreparesOn p v u q turn → AreBacked at_words pending u.counts → AreBacked at_words pending q.counts
  prepares_backed p v u on = subst (AreBacked at_words pending) (sym (prepares_counts w crossing words pending q turn p v u on))

  tries_backed : (p : collectors.Private) (v : Parts) (u : Work) → TriesOn p v u q turn → AreBacked at_words pending u.counts → AreBacked at_words pending q.counts
  tries_backed p v u (TriesOn.more some g) b = subst (AreBacked at_words pending) (sym (ap (λ (x : collectors.Private). x.counts) g.after)) b
  tries_backed p v u (TriesOn.prepares none on) b =
      let its : Parts = record v { counts = u.counts } in
      prepares_backed p its (prep_started its) on (backed_fades at_words pending u.counts (prep_started its).counts (fades_others u.counts (prep_started its).counts (prep_others its)) b)

  trial_backed : (v : Parts) → 0 < v.fields → IsReady v.counts → TriesOn w.collector v (trials.started_of v.fields v.counts) q turn → AreBacked at_words pending q.counts
  unfolding trials.started_of
  trial_backed v wide ready on =
      let first : Work = record { machine = trials.opened_of v.fields; counts = v.counts } in
      tries_backed w.collector v (trials.pointed (trials.settled first)) on
      (backed_settled v.fields v.counts (record { marks = []; blacks = []; finds = [] }) at_words pending first (opened_course v.fields v.counts wide ready) (none_backed at_words pending v.counts ready.sets))

  clears_backed : {b : Begun} → HasCleared w crossing words b → AreBacked at_words pending b.parts.counts → ClearsOn w.collector q turn b → AreBacked at_words pending q.counts
  clears_backed {b} h backed (ClearsOn.works phase is g) = subst (AreBacked at_words pending) (sym (ap (λ (x : collectors.Private). x.counts) g.after)) backed
  clears_backed {b} h backed (ClearsOn.tests c is some tested on) =
      let there : HasCleared w crossing words (still b.parts) = subst (λ o. HasCleared w crossing words (record { parts = b.parts; phase = o })) is h in
      clears_backed (tested_lands w crossing words b.parts there some c tested) (backed_fades at_words pending b.parts.counts c.parts.counts (fades_tested b.parts c tested) backed) on
  clears_backed {b} h backed (ClearsOn.tries is none due on) =
      let there : HasCleared w crossing words (still b.parts) = subst (λ o. HasCleared w crossing words (record { parts = b.parts; phase = o })) is h in
      trial_backed (with_offers b.parts) h.clears.wide (where_ready b.parts.offers b.parts.counts (clear_ready b.parts there.landed.counts there.clears.clearing none)) on
  clears_backed {b} h backed (ClearsOn.waits is none off on) =
      let v : Parts = put_off b.parts in
      prepares_backed w.collector v (prep_started v) on
      (backed_fades at_words pending b.parts.counts (prep_started v).counts (fades_on (fades_postponed b.parts.counts) (fades_others v.counts (prep_started v).counts (prep_others v))) backed)

-- ---- the rules of a turn

module _ (v : Core) (op : Op) (kept : IsKept true v) (backs : AreBacked (sight v) (IsPending v) v.collector.counts) where
  open v use {collector as c}

  abbrev its_word : ℕ
  its_word = cell (cells_of v) op

  abbrev its_box : Contents
  its_box = box v (looked_at c.phase)

  abbrev q : collectors.Private
  q = step_of c its_word its_box

  abbrev u : Core
  u = turned_by v op its_word

  -- the sets are backed after the turn
  abbrev IsBackedThen : Type 0
  IsBackedThen = AreBacked (sight u) (IsPending u) q.counts

  -- where these are the words, and what is pending is so then
  backed_then : (words : List ℕ) → u.words ≡ words → (pending : ℕ → Type 0) → ((x : ℕ) → pending x → IsPending u x) → (s : State) → Fades s q.counts → AreBacked (sight (record v { words = words })) pending s → IsBackedThen
  backed_then words is pending more s f = backed_stays (sight (record v { words = words })) (sight u) pending (IsPending u) s q.counts f
      (λ k orange x member late. more x late)
      (λ k orange from x there member (field, within, leads). inl (field, within, ap (λ ws. target_of (slice_index_or ws (place_of from field v.config.fields) 0)) is ∙ leads))

  -- the same words
  calm : u.words ≡ v.words → ((x : ℕ) → IsPending v x → IsPending u x) → Fades c.counts q.counts → IsBackedThen
  calm is more f = backed_then v.words is (IsPending v) more c.counts f backs

  same_counts : q.counts ≡ c.counts → Fades c.counts q.counts
  same_counts is = subst (Fades c.counts) (sym is) (fades_same c.counts)

  -- once the batch is applied
  late_on : (phase : Phase) → c.phase ≡ phase → left_by c its_word (box v (looked_at phase)) phase ≡ box v (looked_at phase) → has_batched phase ≡ true → Rows c q → (x : ℕ) → IsPending v x → IsPending u x
  late_on phase at left batched rows x is = late_pends v op kept (plain_boxes v op kept phase at left) rows x (late_of v (ap has_batched at ∙ batched) x is)

  -- the batch
  batch_backed : (turn : Turn) (b : Core) (t : ℕ) (home : IsKeptBy true (stand_at b.collector.left Opening) b) (at : b.collector.phase ≡ Returning t) → AreBacked (sight b) (IsPending b) b.collector.counts → ((x : ℕ) → IsLate b x → IsPending u x) → b.config ≡ v.config → b.words ≡ v.words → u.words ≡ v.words
      → ClearsOn b.collector q turn (zeros_released false (record (parts_of b.collector) { counts = counted b t home at })) → IsBackedThen
  batch_backed turn b t home at backed more config same_words words on = backed_stays (sight b) (sight u) (IsLate b) (IsPending u) q.counts q.counts (fades_same q.counts)
      (λ k orange x member late. more x late)
      (λ k orange from x there member (field, within, leads). inl (field, subst (λ n. field < n) (ap (λ k. k.fields) config) within, ap (λ ws. target_of (slice_index_or ws (place_of from field v.config.fields) 0)) (words ∙ sym same_words) ∙ subst (λ n. target_of (slice_index_or b.words (place_of from field n) 0) ≡ Some x) (ap (λ k. k.fields) config) leads))
      (clears_backed b b.crossing b.words (IsLate b) q turn (applied_lands b t home at)
      (backed_fades (sight b) (IsLate b) (counted b t home at) (zeros_released false (record (parts_of b.collector) { counts = counted b t home at })).parts.counts (fades_zeros false (record (parts_of b.collector) { counts = counted b t home at })) (backed_counted b t home at backed))
      on)

  -- a word came out of a field of a released slot
  cut_backed : (turn : Turn) (slot field : ℕ) (b : Begun) → field < v.config.fields → (slot_at c.counts slot).released ≡ true → IsApart c.counts → has_batched c.phase ≡ true → Fades c.counts b.parts.counts → op ≡ ops.ClearField (place_of slot field v.config.fields) → HasCleared v v.crossing (slice_set v.words (place_of slot field v.config.fields) 0) b → u.boxes ≡ v.boxes → ClearsOn c q turn b → IsBackedThen
  cut_backed turn slot field b within gone apart batched f its h boxes on = backed_then (slice_set v.words (place_of slot field v.config.fields) 0) (ap (λ (o : Op). (with_cell (cells_of v) o (written o its_word)).words) its) (IsLate v)
      (late_pends v op kept boxes (clears_rows c q turn on)) q.counts (fades_same q.counts)
      (clears_backed v v.crossing (slice_set v.words (place_of slot field v.config.fields) 0) (IsLate v) q turn h (backed_cut v slot field within gone apart (late_of v batched) b.parts.counts f backs) on)

  released_turn : (turn : Turn) (m : releases.Machine) → c.phase ≡ Releasing m → ◌≡◌ {A = Option Op} (Some op) (releases.next_of m) → ClearsOn c q turn (with_released m (parts_of c) its_word) → IsBackedThen
  unfolding releases.next_of
  released_turn turn m at named on = go m.at refl
    where
      go : (x : Option At) → m.at ≡ x → IsBackedThen
      go None is = let not_so : ◌≡◌ {A = Option Op} (Some op) None = named ∙ ap (releases.op_at m.fields) is in absurd (cc)
      go (Some a) is =
          let now : collector_kept.IsTesting c (Releasing m) = now_at v (Releasing m) kept at in
          let fields : m.fields ≡ v.config.fields = now.clearing.fields ∙ kept.collector.fields in
          let place : ℕ = place_of a.slot a.field v.config.fields in
          let its : op ≡ ops.ClearField place = some_op op (ops.ClearField place) (named ∙ ap (releases.op_at m.fields) is ∙ ap (λ n. Some (ops.ClearField (place_of a.slot a.field n))) fields) in
          let found_is : its_word ≡ slice_index_or v.words place 0 = ap (cell (cells_of v)) its in
          let within : a.field < m.fields = subst (λ o. IfSome o (λ (x : At). x.field < m.fields)) is now.clearing.release.field in
          let held : releases.IsHeld c.counts a = subst (λ o. IfSome o (releases.IsHeld c.counts)) is now.clearing.release.held in
          cut_backed turn a.slot a.field (with_released m (parts_of c) (slice_index_or v.words place 0)) (omega (arith, within, fields)) held.released now.clearing.tidy.apart (ap has_batched at) (fades_released m (parts_of c) (slice_index_or v.words place 0) now.clearing.busy) its (released_lands v m a kept at is)
          (plain_boxes v op kept (Releasing m) at refl) (subst (λ n. ClearsOn c q turn (with_released m (parts_of c) n)) found_is on)

  freed_turn : (turn : Turn) (m : frees.Machine) → c.phase ≡ Freeing m → ◌≡◌ {A = Option Op} (Some op) (frees.next_of m) → ClearsOn c q turn (with_freed m (parts_of c) its_word) → IsBackedThen
  unfolding frees.next_of
  freed_turn turn m at named on = go m.at refl
    where
      go : (x : Option Member) → m.at ≡ x → IsBackedThen
      go None is = let not_so : ◌≡◌ {A = Option Op} (Some op) None = named ∙ ap (frees.op_at m.fields) is in absurd (cc)
      go (Some a) is =
          let now : collector_kept.IsTesting c (Freeing m) = now_at v (Freeing m) kept at in
          let fields : m.fields ≡ v.config.fields = now.clearing.fields ∙ kept.collector.fields in
          let place : ℕ = place_of a.slot a.field v.config.fields in
          let its : op ≡ ops.ClearField place = some_op op (ops.ClearField place) (named ∙ ap (frees.op_at m.fields) is ∙ ap (λ n. Some (ops.ClearField (place_of a.slot a.field n))) fields) in
          let found_is : its_word ≡ slice_index_or v.words place 0 = ap (cell (cells_of v)) its in
          let within : a.field < m.fields = subst (λ o. IfSome o (λ (x : Member). x.field < m.fields)) is now.clearing.freeing.field in
          let held : IsOf c.counts.work a = subst (λ o. IfSome o (IsOf c.counts.work)) is now.clearing.freeing.held in
          let there : 0 < times a.slot c.counts.work = omega (arith, times_at c.counts.work a.index held.index, ap (λ n. times n c.counts.work) held.slot) in
          cut_backed turn a.slot a.field (with_freed m (parts_of c) (slice_index_or v.words place 0)) (omega (arith, within, fields)) (now.clearing.freeing.released a.slot there) now.clearing.tidy.apart (ap has_batched at) (fades_freed m (parts_of c) (slice_index_or v.words place 0) now.clearing.busy) its (freed_lands v m a kept at is)
          (plain_boxes v op kept (Freeing m) at refl) (subst (λ n. ClearsOn c q turn (with_freed m (parts_of c) n)) found_is on)

  -- a field is loaded for the trial
  trial_turn : (turn : Turn) (m : Machine) → c.phase ≡ Trying m → ◌≡◌ {A = Option Op} (Some op) (trials.next_of m) → TriesOn c (parts_of c) (trials.took_of (record { machine = m; counts = c.counts }) (visible c.counts its_word)) q turn → IsBackedThen
  trial_turn turn m at named on =
      let (place, its) = loads_child m op named in
      let found_is : its_word ≡ slice_index_or v.words place 0 = ap (cell (cells_of v)) its in
      let word : ℕ = slice_index_or v.words place 0 in
      let its_on = subst (λ n. TriesOn c (parts_of c) (trials.took_of (record { machine = m; counts = c.counts }) (visible c.counts n)) q turn) found_is on in
      let now : collector_kept.IsTrying c m = now_at v (Trying m) kept at in
      let fields : m.fields ≡ v.config.fields = now.fields ∙ kept.collector.fields in
      let first : Work = record { machine = m; counts = c.counts } in
      let ls : Loads = seen_in (run_of m.fields now.on_trial.kept.before now.on_trial.kept.words) in
      let course = at_work_course m c.counts now.on_trial.kept in
      let due = at_work_due m c.counts now.on_trial.kept in
      let loads : place_of m.slot m.field m.fields ≡ place = same_place (place_of m.slot m.field m.fields) place (sym (due_op m now.busy) ∙ sym named ∙ ap (λ o. Some o) its) in
      let leads : LeadsToVisible c.counts (visible c.counts word) = visible_leads c.counts word (loaded_leads v m kept at place (sym named ∙ ap (λ o. Some o) its)) in
      let then : Work = learnt first (visible c.counts word) in
      let backed : AreBacked (sight v) (IsPending v) then.counts = backed_learnt m.fields now.on_trial.kept.before ls (sight v) (IsPending v) first m.phase refl course due m.slot (λ collecting. subst (λ (x : Work). x.machine.slot ≡ slice_index_or (list_of x.machine.phase x.counts) x.machine.done 0) (sym now.on_trial.kept.is) (at_work_told m c.counts now.on_trial.kept).node ∙ ap (λ p. slice_index_or (list_of p c.counts) m.done 0) collecting) (target_of (visible c.counts word))
      (λ collecting. to_target m word place fields loads (subst (λ p. inv_at p (first_view m.fields now.on_trial.kept.before) (view first) ls) collecting course.inv).place.below (target_of (visible c.counts word)) refl) backs in
      let settled : AreBacked (sight v) (IsPending v) (trials.pointed (trials.settled then)).counts = backed_settled m.fields now.on_trial.kept.before _ (sight v) (IsPending v) then (learnt_course first course due now.busy (visible c.counts word) leads) backed in
      backed_then v.words (ap (λ (o : Op). (with_cell (cells_of v) o (written o its_word)).words) its ∙ ap (slice_set v.words place) found_is ∙ set-get_or v.words place 0) (IsPending v) (late_on (Trying m) at refl refl (tries_rows c q (parts_of c) _ turn its_on)) q.counts (fades_same q.counts)
      (tries_backed v v.crossing v.words (IsPending v) q turn c (parts_of c) _ its_on (subst (λ (x : Work). AreBacked (sight v) (IsPending v) x.counts) (sym (took_busy first (visible c.counts word) now.busy)) settled))
    where
      same_place : (a b : ℕ) → ◌≡◌ {A = Option Op} (Some (ops.LoadChild a)) (Some (ops.LoadChild b)) → a ≡ b
      same_place a b e = cc

      to_target : (m : Machine) (word place : ℕ) → m.fields ≡ v.config.fields → place_of m.slot m.field m.fields ≡ place → m.field < m.fields → (t : Option ℕ) → target_of (visible c.counts (slice_index_or v.words place 0)) ≡ t → IfSome t (Leads (sight v) m.slot)
      to_target m word place fields loads within None is = tt
      to_target m word place fields loads within (Some x) is = (m.field, omega (arith, within, fields), ap (λ n. target_of (slice_index_or v.words (place_of m.slot m.field n) 0)) (sym fields) ∙ ap (λ n. target_of (slice_index_or v.words n 0)) loads ∙ seen_leads c.counts (slice_index_or v.words place 0) x is)

  -- or for a preparation
  preparation_turn : (turn : Turn) (m : preps.Machine) → c.phase ≡ Preparing m → ◌≡◌ {A = Option Op} (Some op) (preps.next_of m) → PreparesOn c (parts_of c) (preps.took_of (record { machine = m; counts = c.counts }) its_word) q turn → IsBackedThen
  preparation_turn turn m at named on =
      let (a, is, its) = loads_due m op (sym named) in
      let place : ℕ = place_of a.member.slot a.member.field m.fields in
      let found_is : its_word ≡ slice_index_or v.words place 0 = ap (cell (cells_of v)) its in
      calm (ap (λ (o : Op). (with_cell (cells_of v) o (written o its_word)).words) its ∙ ap (slice_set v.words place) found_is ∙ set-get_or v.words place 0) (late_on (Preparing m) at refl refl (prepares_rows c q (parts_of c) _ turn on))
      (subst (Fades c.counts) (sym (prepares_counts v v.crossing v.words (IsPending v) q turn c (parts_of c) _ on)) (fades_others c.counts (preps.took_of (record { machine = m; counts = c.counts }) its_word).counts (took_others (record { machine = m; counts = c.counts }) its_word)))

  -- A turn, rule by rule.
  backed_rule : {turn : Turn} → step.Step c its_word its_box (Some op) q turn → IsBackedThen
  unfolding sweeps.started_of sweeps.took_of sweeps.next_of
  backed_rule (step.Step.spent at last none is turn_is) = let n : ◌≡◌ {A = Option Op} (Some op) None = none in absurd (cc)
  backed_rule {turn} (step.Step.request next at more is n g) =
      calm (quiet v op kept (ops.StoreEpoch (c.epoch + 1)) (some_op op (ops.StoreEpoch (c.epoch + 1)) is) refl refl).0 (before_pends v op kept turn Idle (Looking next) at refl (ap (λ (x : collectors.Private). x.phase) g.after) refl (ap (λ (x : collectors.Private). x.newer) g.after) (ap (λ (x : collectors.Private). x.older) g.after)) (same_counts (ap (λ (x : collectors.Private). x.counts) g.after))
  backed_rule {turn} (step.Step.request_alone at more is gone on) =
      let b : Core = requesting v in
      let awaits : Awaits v b = Awaits.alone at (λ last. more (ap (λ n. n + 1) kept.collector.epoch ∙ last)) gone in
      batch_backed turn b (length c.newer) (awaits_kept v b kept awaits) refl (backed_more (sight b) (IsPending v) (IsPending b) c.counts c.counts (fades_same c.counts) (awaits_more v op kept b refl refl refl refl refl) backs)
      (λ x late. late_pends v op kept (plain_boxes v op kept Idle at refl) (rows_as refl refl refl (clears_rows (requested c) q turn on)) x (same_late v op kept b refl refl refl x late)) refl refl (quiet v op kept (ops.StoreEpoch (c.epoch + 1)) (some_op op (ops.StoreEpoch (c.epoch + 1)) is) refl refl).0 (clears_in b.collector.phase on)
  backed_rule (step.Step.cross_for t next at crosses is n g) = absurd (crosses_none v t kept at op its_word is refl crosses)
  backed_rule (step.Step.cross_for_last t at crosses is gone on) = absurd (crosses_none v t kept at op its_word is refl crosses)
  backed_rule {turn} (step.Step.wait t at stays is same turn_is) =
      let other : its_word ≢ crossing_word c.epoch Retired = waits_other v t kept at op its_word is refl stays in
      calm (quiet v op kept (ops.LookBox t c.epoch) (some_op op (ops.LookBox t c.epoch) is) refl refl).0
      (before_pends v op kept turn (Looking t) (Looking t) at (cond-false (its_word == crossing_word c.epoch Retired) (collectors.spare c) (box v t) (ne_eqb its_word (crossing_word c.epoch Retired) other)) (ap (λ (x : collectors.Private). x.phase) same ∙ at) refl (ap (λ (x : collectors.Private). x.newer) same) (ap (λ (x : collectors.Private). x.older) same))
      (same_counts (ap (λ (x : collectors.Private). x.counts) same))
  backed_rule {turn} (step.Step.gather t at takes is g) = calm (quiet v op kept (ops.LookBox t c.epoch) (some_op op (ops.LookBox t c.epoch) is) refl refl).0 (gathered_pends v op kept turn t at g) (same_counts (ap (λ (x : collectors.Private). x.counts) g.after))
  backed_rule {turn} (step.Step.give_back t next at is n g) =
      calm (quiet v op kept (ops.ReturnBox t c.epoch) (some_op op (ops.ReturnBox t c.epoch) is) refl refl).0 (before_pends v op kept turn (Returning t) (Looking next) at refl (ap (λ (x : collectors.Private). x.phase) g.after) refl (ap (λ (x : collectors.Private). x.newer) g.after) (ap (λ (x : collectors.Private). x.older) g.after)) (same_counts (ap (λ (x : collectors.Private). x.counts) g.after))
  backed_rule {turn} (step.Step.apply t at is gone on) =
      let b : Core = giving_back v t in
      let now = now_at v (Returning t) kept at in
      let awaits : Awaits v b = Awaits.last t (mutator_at v t (Returning t) kept at (now.first, now.there)) at gone in
      batch_backed turn b (length c.newer) (awaits_kept v b kept awaits) refl (backed_more (sight b) (IsPending v) (IsPending b) c.counts c.counts (fades_same c.counts) (awaits_more v op kept b refl refl refl refl refl) backs)
      (λ x late. late_pends v op kept (plain_boxes v op kept (Returning t) at refl) (rows_as refl refl refl (clears_rows (noted c t) q turn on)) x (same_late v op kept b refl refl refl x late)) refl refl (quiet v op kept (ops.ReturnBox t c.epoch) (some_op op (ops.ReturnBox t c.epoch) is) refl refl).0 (clears_in b.collector.phase on)
  backed_rule {turn} (step.Step.release m at is on) = released_turn turn m at is on
  backed_rule {turn} (step.Step.freeing m at is on) = freed_turn turn m at is on
  backed_rule {turn} (step.Step.trial m at is on) = trial_turn turn m at is on
  backed_rule {turn} (step.Step.preparation m at is on) = preparation_turn turn m at is on
  backed_rule (step.Step.begin_sweep at is g) = calm (quiet v op kept ops.AddFreed (some_op op ops.AddFreed is) refl refl).0 (late_on Opening at refl refl (Rows.kept_rows (ap (λ (x : collectors.Private). x.newer) g.after) (ap (λ (x : collectors.Private). x.older) g.after) (ap (λ (x : collectors.Private). x.collections) g.after))) (same_counts (ap (λ (x : collectors.Private). x.counts) g.after))
  backed_rule (step.Step.sweep None swept_ w next at is took follows g) = let n : ◌≡◌ {A = Option Op} (Some op) None = is in absurd (cc)
  backed_rule (step.Step.sweep (Some x) swept_ w next at is took follows g) =
      let then : q ≡ record c { counts = swept c.counts x; freed = c.freed + 1; phase = next; turns = c.turns + 1 } = g.after ∙ ap (λ (k : sweeps.Work). record c { counts = k.counts; freed = c.freed + 1; phase = next; turns = c.turns + 1 }) took in
      let its : op ≡ ops.FreeHeader x = some_op op (ops.FreeHeader x) is in
      calm (ap (λ (o : Op). (with_cell (cells_of v) o (written o its_word)).words) its) (late_on (Sweeping (Some x) swept_) at refl refl (Rows.kept_rows (ap (λ (k : collectors.Private). k.newer) then) (ap (λ (k : collectors.Private). k.older) then) (ap (λ (k : collectors.Private). k.collections) then)))
      (subst (Fades c.counts) (sym (ap (λ (k : collectors.Private). k.counts) then)) (fades_written c.counts (swept c.counts x) x (swept_clean (slot_at c.counts x)) refl refl (λ black. absurd (cc))))
  backed_rule (step.Step.end_sweep swept_ at is e) = calm (quiet v op kept ops.AddFreed (some_op op ops.AddFreed is) refl refl).0 (late_on (Closing swept_) at refl refl (Rows.turned_rows (ap (λ (x : collectors.Private). x.newer) e.after) (ap (λ (x : collectors.Private). x.older) e.after) (ap (λ (x : collectors.Private). x.collections) e.after) (ap (λ (x : collectors.Private). x.phase) e.after))) (same_counts (ap (λ (x : collectors.Private). x.counts) e.after))

-- ---- moves

-- the sets of a heap are backed
abbrev pub HasBacked : Core → Type 0
HasBacked w = AreBacked (sight w) (IsPending w) w.collector.counts

hides_backed : (v u : Core) → Hides v u → HasBacked v → HasBacked u
hides_backed v u h b = subst (λ (k : collectors.Private). AreBacked (sight u) (IsPending u) k.counts) (sym h.collector) (backed_stays (sight v) (sight u) (IsPending v) (IsPending u) v.collector.counts v.collector.counts (fades_same v.collector.counts)
    (λ k orange x member is. h.pending x is)
    (λ k orange from x there member leads. hides_leads v u h from x leads)
    b)

pub move_backed : (v : Core) (m : Move) → IsKept true v → Fits v m → HasBacked v → HasBacked (after_move v m)
move_backed v (Move.Begins t work from) kept fits b = hides_backed v (after_move v (Move.Begins t work from)) (begun_hides v t work from fits.0 kept) b
move_backed v (Move.Steps t) kept fits b = hides_backed v (after_move v (Move.Steps t)) (step_hides v t kept fits.0 fits.1) b
move_backed v Move.Offers kept fits b = backed_more (sight v) (IsPending v) (IsPending (after_move v Move.Offers)) v.collector.counts v.collector.counts (fades_same v.collector.counts) (offering_pends v) b
move_backed v Move.Turns kept fits b = turn_case v (λ o u. HasBacked u) (λ none. b) (λ op named. backed_rule v op kept b (rule_of v op kept named))

pub moves_backed : (v : Core) (ms : List Move) → IsKept true v → AllFit v ms → HasBacked v → HasBacked (after_moves v ms)
moves_backed v [] kept fit b = b
moves_backed v (m ∷ ms) kept fit b = moves_backed (after_move v m) ms (move_kept v m kept fit.0) fit.1 (move_backed v m kept fit.0 b)
