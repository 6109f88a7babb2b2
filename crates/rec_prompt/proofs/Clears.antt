-- What follows a release, a test of a set or a trial, up to the end of a turn: each slot hangs on something still, unless a set was refused
-- of which a member was touched.
use Rattle.std.proofs.Common.{◌≡◌, ◌≢◌, ◌⊎◌, inl, inr, ℕ, ◌+◌, ◌-◌, ◌<◌, ◌≤◌, true, Bool, None, Some, List, [], length, refl, sym, ap, subst, ◌∙◌, arith}
use Rattle.rec_core.proofs.Common.{State, IsApart, IsFreeable, Parts, put_off, prep_started, with_offers, ClearsOn, IsTested, PreparesOn, TriesOn, Begun, zeros_released, with_freeing, new_freeing, Idle, Trying, Preparing, Opening, Turn, still, IsClearing, Machine, Work, Core, Sight, sight}
use Rattle.rec_counts.specs.Counts.{IsKept as IsKeptCounts}
use Rattle.rec_release.specs.CycleFree as frees
use Rattle.rec_release.specs.Release as releases
use Rattle.rec_sigma.specs.Prepare as preps
use Rattle.rec_trial.specs.Rules.{IsReady}
use Rattle.rec_trial.specs.Moves.{cleared}
use Rattle.rec_trial.specs.Trial as trials
use Rattle.rec_trial.proofs.Course.{Course}
use Rattle.rec_trial.proofs.Deletion.{Loads}
use Rattle.rec_trial.proofs.Done.{all_of}
use Rattle.rec_trial.proofs.Moving.{settled_is_due}
use Rattle.rec_trial.proofs.Runs.{opened_course}
use Rattle.rec_trial.proofs.Totals.{occurs}
use Rattle.rec_collector.specs.Private as collectors
use Rattle.rec_collector.specs.declared.sets.Sets.{Sets}
use Rattle.rec_collector.proofs.Judging.{last_freeable, passed_verdict}
use Rattle.rec_collector.proofs.Offering.{where_ready}
use Rattle.rec_collector.proofs.Testing.{clear_ready}
use Rattle.rec_core.proofs.Landed.{HasCleared}
use Rattle.rec_core.proofs.Landings.{prep_others}
use Rattle.rec_core.proofs.SetTests.{tested_lands}
use Rattle.rec_prompt.specs.Cover.{Covers, IsListed}
use Rattle.rec_prompt.proofs.Backing.{AreBacked, backed_fades}
use Rattle.rec_prompt.proofs.Fading.{fades_tested}
use Rattle.rec_prompt.proofs.Followed.{IsFollowed}
use Rattle.rec_prompt.proofs.Spared.{spared_covers, spared_leaders}
use Rattle.rec_prompt.proofs.Hanging.{leaders_from, LeadersCount}
use Rattle.rec_prompt.proofs.Heeding.{Heeds, heeds_covers, heeds_next, heeds_on, heeds_others, heeds_postponed, heeds_same, IsSeen}
use Rattle.rec_prompt.proofs.Lessened.{heeds_given_up}
use Rattle.rec_prompt.proofs.Tried.{heeds_offered, Tries, tries_settled}

-- how many sets were refused, of those that were tested
abbrev pub refused : Sets → ℕ
refused n = n.delta + n.sigma

-- and how many of them as a member was touched
abbrev pub touched : Sets → ℕ
touched n = n.delta

-- neither falls
abbrev pub IsGrown : Sets → Sets → Type 0
IsGrown m n = (m.delta ≤ n.delta) × (m.sigma ≤ n.sigma)

pub grown_same : (m n : Sets) → n ≡ m → IsGrown m n
grown_same m n same = (omega (arith, ap (λ (x : Sets). x.delta) same), omega (arith, ap (λ (x : Sets). x.sigma) same))

-- what leads somewhere has to hang on something, in these counts too
pub heeds_leaders : (w : Sight) (s t : State) → Heeds s t → LeadersCount w s → LeadersCount w t
heeds_leaders w s t h alive from slot leads = let there = alive from slot leads in (there.0, h.greens from ∙ there.1)

-- the zeros are released
pub heeds_zeros : (lowers : Bool) (v : Parts) → Heeds v.counts (zeros_released lowers v).parts.counts
unfolding releases.started_of
heeds_zeros lowers v = heeds_next v.counts.zeros v.counts refl

-- the freeing of the last set begins
pub heeds_freeing : (v : Parts) → IsKeptCounts v.counts → IsFreeable v.counts → Heeds v.counts (with_freeing v (frees.started_of (new_freeing v.fields) v.counts)).parts.counts
unfolding frees.started_of
heeds_freeing v kept f = heeds_given_up v.counts kept f

-- where nothing is marked, the end of a trial changes nothing
unmarked_heeds : (s : State) → ((x : ℕ) → IsListed s x → IsSeen (cleared s) x) → Heeds s (cleared s)
unmarked_heeds s lists = record { greens = λ x. refl; lists = lists; gone = λ x is. is; kept = λ x some. inr some }

-- Over a turn with these words, in which this is pending.
module _ (w : Core) (crossing words : List ℕ) (pending : ℕ → Type 0) (q : collectors.Private) (turn : Turn) where
  abbrev seen : Sight
  seen = sight (record w { words = words })

  -- each slot hangs on something at the end of the turn, and a trial that is at work then is followed
  pub record IsOn : Type 0 where
    pub covers : Covers seen pending q.counts
    pub follows : (m : Machine) → q.phase ≡ Trying m → IsFollowed seen pending q.counts m

  -- or more sets were refused of which a member was touched
  abbrev pub IsOver : (r : ℕ) → Type 0
  IsOver r = IsOn ⊎ (r < touched q.sets)

  -- a preparation goes on, or is over
  pub prepares_on : (p : collectors.Private) (v : Parts) (u : preps.Work) → PreparesOn p v u q turn → Covers seen pending u.counts → IsOn × (q.sets ≡ v.sets)
  prepares_on p v u (PreparesOn.more some g) c = (record { covers = subst (Covers seen pending) (sym (ap (λ (x : collectors.Private). x.counts) g.after)) c; follows = λ m at. other m (sym (ap (λ (x : collectors.Private). x.phase) g.after) ∙ at) }, ap (λ (x : collectors.Private). x.sets) g.after)
    where
      other : (m : Machine) → Preparing u.machine ≡ Trying m → IsFollowed seen pending q.counts m
      other m is = absurd (cc)
  prepares_on p v u (PreparesOn.sweeps_next none some g) c = (record { covers = subst (Covers seen pending) (sym (ap (λ (x : collectors.Private). x.counts) g.after)) c; follows = λ m at. other m (sym (ap (λ (x : collectors.Private). x.phase) g.after) ∙ at) }, ap (λ (x : collectors.Private). x.sets) g.after)
    where
      other : (m : Machine) → Opening ≡ Trying m → IsFollowed seen pending q.counts m
      other m is = absurd (cc)
  prepares_on p v u (PreparesOn.completes none free e) c = (record { covers = subst (Covers seen pending) (sym (ap (λ (x : collectors.Private). x.counts) e.after)) c; follows = λ m at. other m (sym (ap (λ (x : collectors.Private). x.phase) e.after) ∙ at) }, ap (λ (x : collectors.Private). x.sets) e.after)
    where
      other : (m : Machine) → Idle ≡ Trying m → IsFollowed seen pending q.counts m
      other m is = absurd (cc)

  -- a trial goes on, or its sets are prepared
  pub tries_on : (p : collectors.Private) (v : Parts) (u : Work) → TriesOn p v u q turn → LeadersCount seen u.counts → Covers seen pending u.counts → (trials.next_of u.machine ≢ None → IsFollowed seen pending u.counts u.machine) → IsOn × (q.sets ≡ v.sets)
  tries_on p v u (TriesOn.more some g) alive c f = (
    record {
      covers = subst (Covers seen pending) (sym (ap (λ (x : collectors.Private). x.counts) g.after)) c;
      follows = λ m at.
          let same : u.machine ≡ m = own m (sym (ap (λ (x : collectors.Private). x.phase) g.after) ∙ at) in
          subst (λ (s : State). IsFollowed seen pending s m) (sym (ap (λ (x : collectors.Private). x.counts) g.after)) (subst (IsFollowed seen pending u.counts) same (f some));
    },
    ap (λ (x : collectors.Private). x.sets) g.after,
  )
    where
      own : (m : Machine) → Trying u.machine ≡ Trying m → u.machine ≡ m
      own m is = cc
  tries_on p v u (TriesOn.prepares none on) alive c f =
      let its : Parts = record v { counts = u.counts } in
      let h : Heeds u.counts (prep_started its).counts = heeds_others u.counts (prep_started its).counts (prep_others its) in
      prepares_on p its (prep_started its) on (heeds_covers seen pending u.counts (prep_started its).counts (heeds_leaders seen u.counts (prep_started its).counts h alive) h c)

  -- refused sets stay so
  pub prepares_refused : (p : collectors.Private) (v : Parts) (u : preps.Work) → PreparesOn p v u q turn → q.sets ≡ v.sets
  prepares_refused p v u (PreparesOn.more some g) = ap (λ (x : collectors.Private). x.sets) g.after
  prepares_refused p v u (PreparesOn.sweeps_next none some g) = ap (λ (x : collectors.Private). x.sets) g.after
  prepares_refused p v u (PreparesOn.completes none free e) = ap (λ (x : collectors.Private). x.sets) e.after

  pub tries_refused : (p : collectors.Private) (v : Parts) (u : Work) → TriesOn p v u q turn → q.sets ≡ v.sets
  tries_refused p v u (TriesOn.more some g) = ap (λ (x : collectors.Private). x.sets) g.after
  tries_refused p v u (TriesOn.prepares none on) = prepares_refused p (record v { counts = u.counts }) _ on

  tested_grown : (v : Parts) (c : Begun) → IsTested v c → IsGrown v.sets c.parts.sets
  tested_grown v c (IsTested.passes orange none is) = (omega (arith, ap (λ (b : Begun). b.parts.sets.delta) is), omega (arith, ap (λ (b : Begun). b.parts.sets.sigma) is))
  tested_grown v c (IsTested.fails_delta s touched_ last is) = (omega (arith, ap (λ (b : Begun). b.parts.sets.delta) is), omega (arith, ap (λ (b : Begun). b.parts.sets.sigma) is))
  tested_grown v c (IsTested.fails_sigma s orange held last is) = (omega (arith, ap (λ (b : Begun). b.parts.sets.delta) is), omega (arith, ap (λ (b : Begun). b.parts.sets.sigma) is))

  pub clears_grown : (p : collectors.Private) {b : Begun} → ClearsOn p q turn b → IsGrown b.parts.sets q.sets
  clears_grown p {b} (ClearsOn.works phase is g) = grown_same b.parts.sets q.sets (ap (λ (x : collectors.Private). x.sets) g.after)
  clears_grown p {b} (ClearsOn.tests c is some tested on) = let first = tested_grown b.parts c tested in let rest = clears_grown p on in (omega (arith, first.0, rest.0), omega (arith, first.1, rest.1))
  clears_grown p {b} (ClearsOn.tries is none due on) = grown_same b.parts.sets q.sets (tries_refused p (with_offers b.parts) _ on)
  clears_grown p {b} (ClearsOn.waits is none off on) = grown_same b.parts.sets q.sets (prepares_refused p (put_off b.parts) _ on)

  -- A trial begins.
  pub trial_on : (v : Parts) → 0 < v.fields → v.fields ≡ w.config.fields → IsReady v.counts → LeadersCount seen v.counts → Covers seen pending v.counts → TriesOn w.collector v (trials.started_of v.fields v.counts) q turn → IsOn × (q.sets ≡ v.sets)
  unfolding trials.started_of
  trial_on v wide same ready alive c on =
      let first : Work = record { machine = trials.opened_of v.fields; counts = v.counts } in
      let none : Loads = record { marks = []; blacks = []; finds = [] } in
      let u : Work = trials.pointed (trials.settled first) in
      let goes = tries_settled v.fields v.counts v.counts none first (opened_course v.fields v.counts wide ready) (heeds_same v.counts) (λ e. cc) in
      let h : Heeds v.counts u.counts = heeds_tries u goes.1 in
      tries_on w.collector v u on (heeds_leaders seen v.counts u.counts h alive) (heeds_covers seen pending v.counts u.counts (heeds_leaders seen v.counts u.counts h alive) h c)
      (λ busy. record {
        before = v.counts;
        ls = none;
        course = subst (λ n. Course n v.counts u none) same goes.0;
        due = settled_is_due first;
        node = refl;
        marks = λ n g x within some leads. absurd (omega (arith, some));
        blacks = λ n g x within some. absurd (omega (arith, some));
      })
    where
      -- without loads nothing is marked at the end
      heeds_tries : (u : Work) → Tries v.fields v.counts v.counts (record { marks = []; blacks = []; finds = [] }) u → Heeds v.counts u.counts
      heeds_tries u (Tries.goes h busy) = h
      heeds_tries u (Tries.ends x h d inv roots all idle is) = subst (Heeds v.counts) (sym is) (heeds_on h (unmarked_heeds x.counts lists))
        where
          lists : (y : ℕ) → IsListed x.counts y → IsSeen (cleared x.counts) y
          lists y (IsListed.released gone) = inl (IsListed.released gone)
          lists y (IsListed.zero some) = inl (IsListed.zero some)
          lists y (IsListed.root some purple) = inl (IsListed.root some purple)
          lists y (IsListed.member some) = inl (IsListed.member some)
          lists y (IsListed.marked some) = let fields : x.machine.fields ≡ v.fields = inv.kept.fields in absurd (omega (arith, some, occurs y x.counts.marked, all_of inv.marks_all y 0 (omega (arith, fields, wide))))

  -- Whatever follows a release, or the freeing of a set.
  pub clears_on : {b : Begun} → HasCleared w crossing words b → Covers seen pending b.parts.counts → AreBacked seen pending b.parts.counts → ClearsOn w.collector q turn b → IsOver (touched b.parts.sets)
  clears_on {b} h c backs (ClearsOn.works phase is g) = inl (record { covers = subst (Covers seen pending) (sym (ap (λ (x : collectors.Private). x.counts) g.after)) c; follows = λ m at. absurd (not_trying m (subst (λ o. IsClearing (record { parts = b.parts; phase = o })) (is ∙ ap (λ p. Some p) (sym (ap (λ (x : collectors.Private). x.phase) g.after) ∙ at)) h.clears.clearing)) })
    where
      not_trying : (m : Machine) → IsClearing (record { parts = b.parts; phase = Some (Trying m) }) → ⊥
      not_trying m none = none
  clears_on {b} h c backs (ClearsOn.tests d is some tested on) = go tested (clears_grown w.collector on).0 (λ covers. clears_on (tested_lands w crossing words b.parts there some d tested) covers (backed_fades seen pending b.parts.counts d.parts.counts (fades_tested b.parts d tested) backs) on)
    where
      there : HasCleared w crossing words (still b.parts)
      there = subst (λ o. HasCleared w crossing words (record { parts = b.parts; phase = o })) is h

      alive : LeadersCount seen b.parts.counts
      alive = leaders_from seen b.parts.counts h.landed.sound h.landed.greens

      go : IsTested b.parts d → touched d.parts.sets ≤ touched q.sets → (Covers seen pending d.parts.counts → IsOver (touched d.parts.sets)) → IsOver (touched b.parts.sets)
      go (IsTested.passes orange none eq) few next =
          let freeable : IsFreeable b.parts.counts = last_freeable b.parts some (passed_verdict b.parts.counts (length b.parts.counts.sets - 1) orange none) there.landed.counts there.clears.clearing in
          let heeds : Heeds b.parts.counts d.parts.counts = subst (λ (x : Begun). Heeds b.parts.counts x.parts.counts) (sym eq) (heeds_freeing b.parts there.landed.counts freeable) in
          subst IsOver (ap (λ (x : Begun). touched x.parts.sets) eq) (next (heeds_covers seen pending b.parts.counts d.parts.counts (heeds_leaders seen b.parts.counts d.parts.counts heeds alive) heeds c))
      go (IsTested.fails_delta s touched_ last eq) few next = inr (omega (arith, few, ap (λ (x : Begun). touched x.parts.sets) eq))
      go (IsTested.fails_sigma s orange held last eq) few next =
          let apart : IsApart b.parts.counts = there.clears.clearing.tidy.apart in
          let zeros : Heeds s d.parts.counts = subst (λ (x : Begun). Heeds s x.parts.counts) (sym eq) (heeds_zeros true (record b.parts { counts = s })) in
          let spared : Covers seen pending s = spared_covers seen pending b.parts.counts s apart last orange backs alive c in
          subst IsOver (ap (λ (x : Begun). touched x.parts.sets) eq) (next (heeds_covers seen pending s d.parts.counts (heeds_leaders seen s d.parts.counts zeros (spared_leaders seen pending b.parts.counts s apart last orange alive)) zeros spared))
  clears_on {b} h c backs (ClearsOn.tries is none due on) =
      let there : HasCleared w crossing words (still b.parts) = subst (λ o. HasCleared w crossing words (record { parts = b.parts; phase = o })) is h in
      let alive : LeadersCount seen b.parts.counts = leaders_from seen b.parts.counts h.landed.sound h.landed.greens in
      let offers : Heeds b.parts.counts (with_offers b.parts).counts = heeds_offered b.parts.offers b.parts.counts in
      let ready : IsReady b.parts.counts = clear_ready b.parts there.landed.counts there.clears.clearing none in
      let alive_then : LeadersCount seen (with_offers b.parts).counts = heeds_leaders seen b.parts.counts (with_offers b.parts).counts offers alive in
      let on_ = trial_on (with_offers b.parts) h.clears.wide h.landed.fields (where_ready b.parts.offers b.parts.counts ready) alive_then (heeds_covers seen pending b.parts.counts (with_offers b.parts).counts alive_then offers c) on in
      inl on_.0
  clears_on {b} h c backs (ClearsOn.waits is none off on) =
      let alive : LeadersCount seen b.parts.counts = leaders_from seen b.parts.counts h.landed.sound h.landed.greens in
      let v : Parts = put_off b.parts in
      let postpones : Heeds b.parts.counts v.counts = heeds_postponed b.parts.counts in
      let all : Heeds b.parts.counts (prep_started v).counts = heeds_on postpones (heeds_others v.counts (prep_started v).counts (prep_others v)) in
      inl (prepares_on w.collector v (prep_started v) on (heeds_covers seen pending b.parts.counts (prep_started v).counts (heeds_leaders seen b.parts.counts (prep_started v).counts all alive) all c)).0
