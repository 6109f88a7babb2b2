-- A trial ends with each slot found: released, a member of a set, or on a path of fields from what is pending or released. That stays so up
-- to the next batch. And what is released or a member before the tests is released after them, where no set is refused.
use Rattle.std.proofs.Common.{◌≡◌, ◌⊎◌, inl, inr, ℕ, ◌-◌, ◌<◌, true, false, Bool, None, Some, List, [], length, refl, sym, ap, subst, ◌∙◌, arith}
use Rattle.std.specs.List.{concat}
use Rattle.std.proofs.lemmas.Bool.{false≢true}
use Rattle.rec_core.proofs.Common.{IsApart, State, slot_at, times, times-nil, IsFreeable, Parts, prep_started, with_offers, ClearsOn, IsTested, PreparesOn, TriesOn, Begun, Phase, Idle, Looking, Swapping, Returning, Trying, Releasing, Freeing, Turn, still, IsClearing, Work, Core, Sight, sight}
use Rattle.rec_trial.specs.Moves.{cleared}
use Rattle.rec_trial.specs.Rules.{IsReady}
use Rattle.rec_trial.specs.Trial as trials
use Rattle.rec_trial.proofs.Deletion.{Loads}
use Rattle.rec_trial.proofs.Done.{all_of}
use Rattle.rec_trial.proofs.Runs.{opened_course}
use Rattle.rec_trial.proofs.Totals.{occurs}
use Rattle.rec_sigma.specs.Prepare as preps
use Rattle.rec_collector.specs.Private as collectors
use Rattle.rec_collector.proofs.Judging.{last_freeable, passed_verdict}
use Rattle.rec_collector.proofs.Offering.{where_keeps, where_ready}
use Rattle.rec_collector.proofs.Postponing.{always_tries}
use Rattle.rec_collector.proofs.Testing.{clear_ready}
use Rattle.rec_core.proofs.Landed.{HasCleared}
use Rattle.rec_core.proofs.Landings.{prep_others}
use Rattle.rec_core.proofs.SetTests.{tested_lands}
use Rattle.rec_prompt.specs.Cover.{Covers, Hangs, IsListed}
use Rattle.rec_prompt.specs.Cover.Hangs.{later, listed, behind}
use Rattle.rec_prompt.proofs.Clears.{clears_grown, heeds_freeing, heeds_leaders, heeds_zeros, IsGrown, refused, touched}
use Rattle.rec_prompt.proofs.Backing.{AreBacked, backed_fades}
use Rattle.rec_prompt.proofs.Fading.{fades_tested}
use Rattle.rec_prompt.proofs.Spared.{spared_covers, spared_gone, spared_leaders}
use Rattle.rec_prompt.proofs.Hanging.{leaders_from, LeadersCount, Trails}
use Rattle.rec_prompt.proofs.Heeding.{FoundIn, Heeds, heeds_covers, heeds_found, heeds_others, heeds_owned, heeds_same, IsOwned}
use Rattle.rec_prompt.proofs.Trialled.{none_idle}
use Rattle.rec_prompt.proofs.Tried.{heeds_offered, Tries, tries_settled}

-- the last trial is over, and the next batch isn't made yet
abbrev pub has_found : Phase → Bool
has_found (Releasing m) = false
has_found (Freeing m) = false
has_found (Trying m) = false
has_found _ = true

-- the sets of the collection under way, or of the next one, aren't all tested yet
abbrev pub before_tests : Phase → Bool
before_tests Idle = true
before_tests (Looking t) = true
before_tests (Swapping t) = true
before_tests (Returning t) = true
before_tests (Releasing m) = true
before_tests (Freeing m) = true
before_tests _ = false

-- The slot is released, or, before the tests of the collection after so many, a member.
abbrev pub IsNear : (collections : ℕ) → collectors.Private → (slot : ℕ) → Type 0
IsNear n p x = ((before_tests p.phase ≡ true) × (p.collections ≡ n) × IsOwned p.counts x) ⊎ ((slot_at p.counts x).released ≡ true)

module _ (w : Core) (crossing words : List ℕ) (pending : ℕ → Type 0) (q : collectors.Private) (turn : Turn) where
  abbrev seen : Sight
  seen = sight (record w { words = words })

  abbrev IsFoundThen : Type 0
  IsFoundThen = has_found q.phase ≡ true → FoundIn seen pending q.counts

  abbrev Keeps : State → Type 0
  Keeps s = (x : ℕ) → (slot_at s x).released ≡ true → (slot_at q.counts x).released ≡ true

  pub prepares_counts : (p : collectors.Private) (v : Parts) (u : preps.Work) → PreparesOn p v u q turn → q.counts ≡ u.counts
  prepares_counts p v u (PreparesOn.more some g) = ap (λ (x : collectors.Private). x.counts) g.after
  prepares_counts p v u (PreparesOn.sweeps_next none some g) = ap (λ (x : collectors.Private). x.counts) g.after
  prepares_counts p v u (PreparesOn.completes none free e) = ap (λ (x : collectors.Private). x.counts) e.after

  pub tries_found : (p : collectors.Private) (v : Parts) (u : Work) → TriesOn p v u q turn → (trials.next_of u.machine ≡ None → FoundIn seen pending u.counts) → IsFoundThen
  tries_found p v u (TriesOn.more some g) f found = absurd (false≢true (sym (ap (λ (x : collectors.Private). has_found x.phase) g.after) ∙ found))
  tries_found p v u (TriesOn.prepares none on) f found =
      let its : Parts = record v { counts = u.counts } in
      subst (FoundIn seen pending) (sym (prepares_counts p its (prep_started its) on)) (heeds_found seen pending u.counts (prep_started its).counts (heeds_others u.counts (prep_started its).counts (prep_others its)) (f none))

  pub tries_keeps : (p : collectors.Private) (v : Parts) (u : Work) → TriesOn p v u q turn → Keeps u.counts
  tries_keeps p v u (TriesOn.more some g) x gone = ap (λ (k : collectors.Private). (slot_at k.counts x).released) g.after ∙ gone
  tries_keeps p v u (TriesOn.prepares none on) x gone =
      let its : Parts = record v { counts = u.counts } in
      ap (λ (s : State). (slot_at s x).released) (prepares_counts p its (prep_started its) on) ∙ (heeds_others u.counts (prep_started its).counts (prep_others its)).gone x gone

  -- a trial begins
  trial_found : (v : Parts) → 0 < v.fields → IsReady v.counts → v.counts.zeros ≡ [] → LeadersCount seen v.counts → Covers seen pending v.counts → TriesOn w.collector v (trials.started_of v.fields v.counts) q turn → IsFoundThen × Keeps v.counts
  unfolding trials.started_of
  trial_found v wide ready zeros alive c on =
      let first : Work = record { machine = trials.opened_of v.fields; counts = v.counts } in
      let none : Loads = record { marks = []; blacks = []; finds = [] } in
      let u : Work = trials.pointed (trials.settled first) in
      let goes = tries_settled v.fields v.counts v.counts none first (opened_course v.fields v.counts wide ready) (heeds_same v.counts) (λ e. cc) in
      let both = of_tries u goes.1 in
      (tries_found w.collector v u on both.0, λ x gone. tries_keeps w.collector v u on x (both.1 x gone))
    where
      of_tries : (u : Work) → Tries v.fields v.counts v.counts (record { marks = []; blacks = []; finds = [] }) u → (trials.next_of u.machine ≡ None → FoundIn seen pending u.counts) × ((x : ℕ) → (slot_at v.counts x).released ≡ true → (slot_at u.counts x).released ≡ true)
      of_tries u (Tries.goes h busy) = (λ none. absurd (busy (none_idle u.machine none)), h.gone)
      of_tries u (Tries.ends x h d inv roots all idle is) = (λ none. subst (FoundIn seen pending) (sym is) found, λ y gone. ap (λ (s : State). (slot_at s y).released) is ∙ h.gone y gone)
        where
          unmarked : (y : ℕ) → times y x.counts.marked ≡ 0
          unmarked y = let fields : x.machine.fields ≡ v.fields = inv.kept.fields in omega (arith, occurs y x.counts.marked, all_of inv.marks_all y 0 (omega (arith, fields, wide)))

          of_list : (y : ℕ) → IsListed x.counts y → (slot_at x.counts y).released ≡ true
          of_list y (IsListed.released gone) = gone
          of_list y (IsListed.zero some) = absurd (omega (arith, some, ap (times y) (d.rest.zeros ∙ zeros), times-nil y))
          of_list y (IsListed.root some purple) = absurd (omega (arith, some, ap (times y) roots, times-nil y))
          of_list y (IsListed.member some) = absurd (omega (arith, some, inv.parts y, occurs y (concat x.counts.sets), occurs y x.counts.marked, unmarked y))
          of_list y (IsListed.marked some) = absurd (omega (arith, some, unmarked y))

          trails : (y : ℕ) → Hangs seen pending x.counts y → Trails seen (λ z. pending z ⊎ ((slot_at x.counts z).released ≡ true)) y
          trails y (later is_) = Trails.first (inl is_)
          trails y (listed is_) = Trails.first (inr (of_list y is_))
          trails y (behind path leads) = Trails.along (trails _ path) leads

          found : FoundIn seen pending (cleared x.counts)
          found y taken plain = inr (trails y (heeds_covers seen pending v.counts x.counts (heeds_leaders seen v.counts x.counts h alive) h c y taken plain))

  -- What was found then, and what was a member or released is near, or a set was refused; or one of which a member was touched.
  abbrev IsFoundAfter : Begun → Type 0
  IsFoundAfter b = (IsFoundThen × (((x : ℕ) → IsOwned b.parts.counts x → IsNear w.collector.collections q x) ⊎ (refused b.parts.sets < refused q.sets)) × Keeps b.parts.counts) ⊎ (touched b.parts.sets < touched q.sets)

  -- Whatever follows a release, or the freeing of a set.
  pub clears_found : {b : Begun} → w.config.policy.least_roots ≡ 0 → HasCleared w crossing words b → Covers seen pending b.parts.counts → AreBacked seen pending b.parts.counts → ClearsOn w.collector q turn b → IsFoundAfter b
  clears_found {b} always h c backs (ClearsOn.works phase is g) = inl (
    λ found. absurd (not_found phase found_of (sym (ap (λ (x : collectors.Private). has_found x.phase) g.after) ∙ found)),
    inl (λ x own. inl (ap (λ (k : collectors.Private). before_tests k.phase) g.after ∙ clearing_before phase found_of, ap (λ (k : collectors.Private). k.collections) g.after, subst (λ (k : collectors.Private). IsOwned k.counts x) (sym g.after) own)),
    λ x gone. ap (λ (k : collectors.Private). (slot_at k.counts x).released) g.after ∙ gone,
  )
    where
      found_of : IsClearing (record { parts = b.parts; phase = Some phase })
      found_of = subst (λ o. IsClearing (record { parts = b.parts; phase = o })) is h.clears.clearing

      not_found : (p : Phase) → IsClearing (record { parts = b.parts; phase = Some p }) → has_found p ≡ true → ⊥
      not_found (Releasing m) clearing found = false≢true found
      not_found (Freeing m) clearing found = false≢true found
      not_found _ clearing found = clearing

      clearing_before : (p : Phase) → IsClearing (record { parts = b.parts; phase = Some p }) → before_tests p ≡ true
      clearing_before (Releasing m) clearing = refl
      clearing_before (Freeing m) clearing = refl
      clearing_before _ clearing = absurd clearing
  clears_found {b} always h c backs (ClearsOn.tests d is some tested on) = go tested (clears_grown w crossing words pending q turn w.collector on) (λ covers. clears_found always (tested_lands w crossing words b.parts there some d tested) covers (backed_fades seen pending b.parts.counts d.parts.counts (fades_tested b.parts d tested) backs) on)
    where
      there : HasCleared w crossing words (still b.parts)
      there = subst (λ o. HasCleared w crossing words (record { parts = b.parts; phase = o })) is h

      alive : LeadersCount seen b.parts.counts
      alive = leaders_from seen b.parts.counts h.landed.sound h.landed.greens

      go : IsTested b.parts d → IsGrown d.parts.sets q.sets → (Covers seen pending d.parts.counts → IsFoundAfter d) → IsFoundAfter b
      go (IsTested.passes orange none eq) few next =
          let freeable : IsFreeable b.parts.counts = last_freeable b.parts some (passed_verdict b.parts.counts (length b.parts.counts.sets - 1) orange none) there.landed.counts there.clears.clearing in
          let heeds : Heeds b.parts.counts d.parts.counts = subst (λ (x : Begun). Heeds b.parts.counts x.parts.counts) (sym eq) (heeds_freeing b.parts there.landed.counts freeable) in
          elim (next (heeds_covers seen pending b.parts.counts d.parts.counts (heeds_leaders seen b.parts.counts d.parts.counts heeds alive) heeds c)) [
            | inl all ↦ inl (all.0, elim all.1 [ inl near ↦ inl (λ x own. near x (heeds_owned heeds x own)) | inr more ↦ inr (omega (arith, more, ap (λ (x : Begun). refused x.parts.sets) eq)) ], λ x gone. all.2 x (heeds.gone x gone))
            | inr more ↦ inr (omega (arith, more, ap (λ (x : Begun). touched x.parts.sets) eq))
          ]
      go (IsTested.fails_delta s touched_ last eq) few next = inr (omega (arith, few.0, ap (λ (x : Begun). touched x.parts.sets) eq))
      go (IsTested.fails_sigma s orange held last eq) few next =
          let apart : IsApart b.parts.counts = there.clears.clearing.tidy.apart in
          let zeros : Heeds s d.parts.counts = subst (λ (x : Begun). Heeds s x.parts.counts) (sym eq) (heeds_zeros true (record b.parts { counts = s })) in
          let spared : Covers seen pending s = spared_covers seen pending b.parts.counts s apart last orange backs alive c in
          let more : refused b.parts.sets < refused q.sets = omega (arith, few.0, few.1, ap (λ (x : Begun). refused x.parts.sets) eq) in
          elim (next (heeds_covers seen pending s d.parts.counts (heeds_leaders seen s d.parts.counts zeros (spared_leaders seen pending b.parts.counts s apart last orange alive)) zeros spared)) [
            | inl all ↦ inl (all.0, inr more, λ x gone. all.2 x (zeros.gone x (spared_gone b.parts.counts s last x gone)))
            | inr touched_ ↦ inr (omega (arith, touched_, ap (λ (x : Begun). touched x.parts.sets) eq))
          ]
  clears_found {b} always h c backs (ClearsOn.tries is none due on) =
      let there : HasCleared w crossing words (still b.parts) = subst (λ o. HasCleared w crossing words (record { parts = b.parts; phase = o })) is h in
      let alive : LeadersCount seen b.parts.counts = leaders_from seen b.parts.counts h.landed.sound h.landed.greens in
      let offers : Heeds b.parts.counts (with_offers b.parts).counts = heeds_offered b.parts.offers b.parts.counts in
      let ready : IsReady b.parts.counts = clear_ready b.parts there.landed.counts there.clears.clearing none in
      let alive_then : LeadersCount seen (with_offers b.parts).counts = heeds_leaders seen b.parts.counts (with_offers b.parts).counts offers alive in
      let zeros : (with_offers b.parts).counts.zeros ≡ [] = (where_keeps b.parts.offers b.parts.counts).zeros ∙ there.clears.clearing.zeros in
      let both = trial_found (with_offers b.parts) h.clears.wide (where_ready b.parts.offers b.parts.counts ready) zeros alive_then (heeds_covers seen pending b.parts.counts (with_offers b.parts).counts alive_then offers c) on in
      inl (
        both.0,
        inl (λ x own. inr (both.1 x (elim own [
          | inl gone ↦ offers.gone x gone
          | inr member ↦ absurd (omega (arith, member, ap (λ (xss : List (List ℕ)). times x (concat xss)) none, times-nil x))
        ]))),
        λ x gone. both.1 x (offers.gone x gone),
      )
  clears_found {b} always h c backs (ClearsOn.waits is none off on) = absurd (false≢true (sym off ∙ always_tries b.parts (ap (λ k. k.least_roots) h.landed.policy ∙ always)))
