-- The collection that frees the sets, turn by turn, but for the sweep of a slot, which changes what is held.
use Rattle.std.proofs.Common.{◌≡◌, ◌⊎◌, inl, inr, ℕ, ◌+◌, ◌-◌, ◌<◌, true, Option, Some, List, [], length, slice_index_or, refl, sym, ap, subst, ◌∙◌, arith}
use Rattle.rec_core.proofs.Common.{target_of, Slot, taken_off, Member, Work, started_of, prep_started, put_off, with_offers, Parts, PreparesOn, TriesOn, Phase, Idle, Looking, Returning, Releasing, Freeing, Trying, Preparing, Opening, Sweeping, Closing, Turn, still, Core, IsKept, stand_in, older_at, visible}
use Rattle.rec_settle.specs.Resting.{AreCounted, Round, RestsIn, SetsRest, ComesTo, AreFound}
use Rattle.rec_release.specs.CycleFree as frees
use Rattle.rec_release.proofs.TakenOff.{off_most}
use Rattle.rec_sigma.specs.Prepare as preps
use Rattle.rec_trial.specs.Trial.{took_of}
use Rattle.rec_trial.proofs.Keeps.{took_keeps}
use Rattle.rec_collector.specs.Kept.{under_way}
use Rattle.rec_collector.specs.Private.{Private}
use Rattle.rec_collector.proofs.Testing.{clear_ready}
use Rattle.rec_collector.proofs.Trying.{took_others}
use Rattle.rec_settle.specs.Quiet.{AreQuiet, AreGathered}
use Rattle.rec_core.proofs.TurnCases.{Awaits, TurnCase, word_at, words_without}
use Rattle.rec_core.proofs.Begun.{applied_lands, batch_comes}
use Rattle.rec_core.proofs.Freeing.{empties, freed_lands}
use Rattle.rec_core.proofs.Landed.{HasCleared, HasLanded}
use Rattle.rec_settle.proofs.Rest.FirstRound.{all_gathered}
use Rattle.rec_settle.proofs.Rest.QuietCounts.{accounted_count, landed_count, stands_over}
use Rattle.rec_settle.proofs.Rest.QuietTurns.{awaits_epoch, awaits_gathered, awaits_quiet, awaits_way}
use Rattle.rec_settle.proofs.Rest.RestingSeen.{comes_awaited, rests_seen}
use Rattle.rec_settle.proofs.Rest.SecondBatch.{frees_rest_applied}
use Rattle.rec_settle.proofs.Rest.SecondFreeing.{frees_rest_more}
use Rattle.rec_settle.proofs.Rest.SecondRound.{second_clears}
use Rattle.rec_settle.proofs.Rest.Within.{within_begun, within_same, within_tries, within_prepares, within_waits}
use Rattle.rec_core.proofs.Taken.{off_accounted, MayEmpty}
use Rattle.rec_core.proofs.Trying.{loaded_leads}
use Rattle.rec_core.proofs.Gathering.{awaits_kept}
use Rattle.rec_core.proofs.Turns.{now_at}
use Rattle.rec_trial.proofs.Visible.{visible_leads}
use Rattle.rec_settle.proofs.Rest.SecondReach.{within_all}

-- once no set is left, a trial begins or is postponed
tries_on : {w : Core} {crossing words : List ℕ} {q : Private} {turn : Turn} → ((u : Parts) → HasLanded w crossing words (still u) → AreCounted w words u.counts) → (u : Parts) → HasCleared w crossing words (still u) → u.counts.sets ≡ [] → AreFound w words u.counts
    → TriesOn w.collector (with_offers u) (started_of u.fields (with_offers u).counts) q turn ⊎ PreparesOn w.collector (put_off u) (prep_started (put_off u)) q turn → ComesTo Round.Second w words q
tries_on counted u h none found (inr on) = let ready = clear_ready u h.landed.counts h.clears.clearing none in within_waits h.landed ready (within_all h.landed h.clears.clearing none (counted u h.landed) found) on
tries_on counted u h none found (inl on) = within_tries (within_begun h.landed (clear_ready u h.landed.counts h.clears.clearing none) (within_all h.landed h.clears.clearing none (counted u h.landed) found)) on

module _ (first : ℕ) (w : Core) (kept : IsKept true w) (quiet : AreQuiet first w) where
  -- what is known in this phase
  known_in : (phase : Phase) → w.collector.phase ≡ phase → RestsIn Round.Second w w.words w.collector w.collector.phase → RestsIn Round.Second w w.words w.collector phase
  known_in phase is h = subst (RestsIn Round.Second w w.words w.collector) is h

  -- what is known of the sets still where a turn applies the batch
  sets_awaited : (u : Core) → Awaits w u → RestsIn Round.Second w w.words w.collector w.collector.phase → SetsRest u u.words [] u.collector.counts
  sets_awaited u (Awaits.alone idle more left) h = rests_seen Round.Second w u refl refl w.words w.collector Idle (known_in Idle idle h)
  sets_awaited u (Awaits.last t is returns left) h = rests_seen Round.Second w u refl refl w.words w.collector (Returning t) (known_in (Returning t) returns h)

  -- the counts after the exchange of a field are true
  exchanged_count : (m : frees.Machine) (a : Member) (phase : w.collector.phase ≡ Freeing m) (at : m.at ≡ Some a) → first < w.epoch
      → AreCounted w (words_without w a.slot a.field) (taken_off true w.collector.counts (target_of (word_at w a.slot a.field)))
  exchanged_count m a phase at early =
      let may : MayEmpty w a.slot a.field = (empties w m a kept phase at).may_empty in
      let slots : length w.collector.counts.slots ≡ w.config.slots = kept.collector.slots in
      accounted_count first w (words_without w a.slot a.field) (taken_off true w.collector.counts (target_of (word_at w a.slot a.field))) kept.whole kept.mutators
      (λ t. stands_over w.collector.left w.collector.phase t (ap (λ f. stand_in f t) phase)) (ap under_way phase) (ap (older_at w.epoch) phase)
      (off_accounted w a.slot a.field may true)
      ((off_most true w.collector.counts (target_of (word_at w a.slot a.field))).slots ∙ slots)
      quiet (all_gathered w (Freeing m) phase (λ t there. refl)) early

  abbrev Comes : Core → Type 0
  Comes after = ComesTo Round.Second w after.words after.collector

  -- Nothing was written or born in the last two epochs, once the collection is under way.
  pub second_turned : (v : Core) → TurnCase w v → first + 1 + under_way w.collector.phase < w.epoch + 1 → ((due : Option ℕ) (n : ℕ) → w.collector.phase ≡ Sweeping due n → ⊥) → RestsIn Round.Second w w.words w.collector w.collector.phase → ComesTo Round.Second w v.words v.collector
  second_turned v (TurnCase.spent phase last is) late unswept h = subst Comes (sym is) (ComesTo.goes_on refl h)
  second_turned v (TurnCase.requests next phase present is) late unswept h = subst Comes (sym is) (ComesTo.goes_on refl (known_in Idle phase h))
  second_turned v (TurnCase.waits t there phase word is) late unswept h = subst Comes (sym is) (ComesTo.goes_on refl h)
  second_turned v (TurnCase.gathers t there phase word is) late unswept h = subst Comes (sym is) (ComesTo.goes_on refl (known_in (Looking t) phase h))
  second_turned v (TurnCase.gives_back t next there phase present is) late unswept h = subst Comes (sym is) (ComesTo.goes_on refl (known_in (Returning t) phase h))
  second_turned v (TurnCase.applies u q turn awaits on is) late unswept h =
      let now = awaits_way w u awaits in
      let by = awaits_kept w u kept awaits in
      let all : AreGathered u = awaits_gathered w u kept awaits in
      let still_quiet : AreQuiet first u = awaits_quiet first w u kept awaits quiet in
      let far : first + 1 < u.epoch = omega (arith, late, awaits_epoch w u awaits) in
      let early : first < u.epoch = omega (arith, far) in
      let behind : older_at u.epoch u.collector.phase ≡ u.epoch - 2 = ap (older_at u.epoch) now in
      let many : ℕ = length u.collector.newer in
      subst Comes (sym is) (comes_awaited Round.Second w u awaits u.words q (second_clears (applied_lands u many by now)
      (frees_rest_applied u many by now (λ s of. ((still_quiet s of).newer early (all s of), (still_quiet s of).older (omega (arith, far, behind)))) (sets_awaited u awaits h) (landed_count first (batch_comes u many by now).landed still_quiet all early))
      (tries_on (λ x l. landed_count first l still_quiet all early)) on))
  second_turned v (TurnCase.releases m a q turn phase at on is) late unswept h = absurd (known_in (Releasing m) phase h)
  second_turned v (TurnCase.frees m a q turn phase at on is) late unswept h =
      let far : first + 1 < w.epoch = omega (arith, late, ap under_way phase) in
      subst Comes (sym is) (second_clears (freed_lands w m a kept phase at) (frees_rest_more w m a kept phase at (exchanged_count m a phase at (omega (arith, far))) (known_in (Freeing m) phase h)) (tries_on (λ u l. landed_count first l quiet (all_gathered w (Freeing m) phase (λ t there. refl)) (omega (arith, far)))) on)
  second_turned v (TurnCase.tries m place q turn phase named on is) late unswept h =
      let u : Work = took_of (record { machine = m; counts = w.collector.counts }) (visible w.collector.counts (slice_index_or w.words place 0)) in
      let keeps = took_keeps m w.collector.counts (now_at w (Trying m) kept phase).kept (visible w.collector.counts (slice_index_or w.words place 0)) (visible_leads w.collector.counts (slice_index_or w.words place 0) (loaded_leads w m kept phase place named)) in
      subst Comes (sym is) (within_tries (within_same w w.words w.collector.counts u.counts keeps.released (known_in (Trying m) phase h)) on)
  second_turned v (TurnCase.prepares m a q turn phase at on is) late unswept h =
      let found : ℕ = word_at w a.member.slot a.member.field in
      let u : preps.Work = preps.took_of (record { machine = m; counts = w.collector.counts }) found in
      let others = took_others (record { machine = m; counts = w.collector.counts }) found in
      subst Comes (sym is) (within_prepares (within_same w w.words w.collector.counts u.counts (λ x. ap (λ (y : Slot). y.released) (others.slots x)) (known_in (Preparing m) phase h)) on)
  second_turned v (TurnCase.begins_sweep phase is) late unswept h = subst Comes (sym is) (ComesTo.goes_on refl (known_in Opening phase h))
  second_turned v (TurnCase.sweeps n slot next phase which is) late unswept h = absurd (unswept (Some slot) n phase)
  second_turned v (TurnCase.ends_sweep n phase is) late unswept h = subst Comes (sym is) (ComesTo.completes refl refl (known_in (Closing n) phase h))
