-- The collection whose trial is offered every slot, over a whole turn of the collector.
use Rattle.std.proofs.Common.{◌≡◌, ◌⊎◌, inl, inr, ℕ, ◌<◌, true, Option, None, Some, List, length, refl, sym, ap, subst, ◌∙◌, arith}
use Rattle.rec_core.proofs.Common.{State, Member, Work, started_of, IsClearingIn, relieved_at, with_freed, with_offers, Parts, parts_of, with_parts, ClearsOn, IsTested, PreparesOn, TriesOn, Begun, moved, Phase, Idle, Looking, Returning, Releasing, Freeing, Trying, Preparing, Opening, Sweeping, Closing, Turn, still, IsMutator, Core, IsKept}
use Rattle.rec_settle.specs.Resting.{AreCounted, TrialRests, PrepRests, Round, RestsIn, ComesTo}
use Rattle.rec_trial.specs.Rules.{IsReady}
use Rattle.rec_trial.proofs.Counted.{started_counted}
use Rattle.rec_trial.proofs.Keeps.{started_keeps}
use Rattle.rec_release.specs.CycleFree as frees
use Rattle.rec_sigma.specs.Prepare as preps
use Rattle.rec_collector.specs.Private.{Private}
use Rattle.rec_collector.proofs.Testing.{clear_ready}
use Rattle.rec_settle.specs.Quiet.{gathered, AreGathered}
use Rattle.rec_core.proofs.TurnCases.{Awaits, TurnCase, word_at}
use Rattle.rec_core.proofs.Begun.{applied_lands}
use Rattle.rec_core.proofs.Freeing.{freed_lands}
use Rattle.rec_core.proofs.Landed.{HasLanded, HasCleared}
use Rattle.rec_core.proofs.Landings.{landed_alike, landed_offered, prep_lands, tried_alike}
use Rattle.rec_core.proofs.Preparing.{preparing_lands}
use Rattle.rec_core.proofs.Releasing.{released_lands}
use Rattle.rec_settle.proofs.Rest.FirstPreparing.{prep_rests_more, sets_rest_begun}
use Rattle.rec_settle.proofs.Rest.FirstTrial.{prep_rests_begun, trial_rests_begun, trial_rests_more}
use Rattle.rec_settle.proofs.Rest.QuietTurns.{awaits_gathered, awaits_way}
use Rattle.rec_settle.proofs.Rest.RestingSeen.{comes_awaited}
use Rattle.std.proofs.lemmas.Bool.{false≢true}
use Rattle.rec_collector.proofs.Offering.{where_ready}
use Rattle.rec_collector.proofs.Postponing.{offers_try}
use Rattle.rec_core.proofs.SetTests.{tested_lands}
use Rattle.rec_core.proofs.Trying.{trying_lands}
use Rattle.rec_core.proofs.Gathering.{awaits_kept}

-- A preparation came so far: it goes on, or its sets rest, and a sweep follows or the second collection.
first_prepares : {w : Core} {crossing words : List ℕ} {u : Parts} {v : preps.Work} {q : Private} {turn : Turn} → HasLanded w crossing words (still (record u { counts = v.counts })) → PrepRests w words v → PreparesOn w.collector u v q turn
    → ComesTo Round.First w words q
first_prepares {w} {crossing} {words} {u} {v} l h (PreparesOn.more some g) = subst (ComesTo Round.First w words) (sym g.after) (ComesTo.goes_on refl h)
first_prepares {w} {crossing} {words} {u} {v} l h (PreparesOn.sweeps_next none some g) = subst (ComesTo Round.First w words) (sym g.after) (ComesTo.goes_on refl (sets_rest_begun (record u { counts = v.counts }) v.machine l h none))
first_prepares {w} {crossing} {words} {u} {v} l h (PreparesOn.completes none free e) = subst (ComesTo Round.First w words) (sym e.after) (ComesTo.completes refl refl (sets_rest_begun (record u { counts = v.counts }) v.machine l h none))

-- A trial came so far: it goes on, or its sets are prepared.
first_tries : {w : Core} {crossing words : List ℕ} {u : Parts} {v : Work} {q : Private} {turn : Turn} → HasLanded w crossing words (still (record u { counts = v.counts })) → TrialRests w words v → TriesOn w.collector u v q turn
    → ComesTo Round.First w words q
first_tries {w} {crossing} {words} {u} {v} l h (TriesOn.more some g) = subst (ComesTo Round.First w words) (sym g.after) (ComesTo.goes_on refl h)
first_tries {w} {crossing} {words} {u} {v} l h (TriesOn.prepares over on) =
    let its : Parts = record u { counts = v.counts } in
    first_prepares {u = its} (prep_lands w crossing words w.collector l.kept.collector.machine its l) (prep_rests_begun its v.machine l h over) on

-- where a trial begins, the collection has come to
trial_lands : {w : Core} {crossing words : List ℕ} {v : Parts} → HasLanded w crossing words (still v) → IsReady v.counts → HasLanded w crossing words (still (record (with_offers v) { counts = (started_of v.fields (with_offers v).counts).counts }))
trial_lands {w} {crossing} {words} {v} l ready =
    let before : State = (with_offers v).counts in
    let same : v.fields ≡ w.config.fields = l.fields in
    let wide : 0 < v.fields = omega (arith, l.kept.config.some_fields, same) in
    let its : IsReady before = where_ready v.offers v.counts ready in
    let on : HasLanded w crossing words (still (with_offers v)) = landed_offered l in
    landed_alike on (started_of v.fields before).counts (tried_alike before (started_of v.fields before).counts (started_keeps v.fields before wide its)) (started_counted v.fields before wide on.counts its)

-- a test asks for nothing
tested_offers : {v : Parts} {b : Begun} → IsTested v b → b.parts.offers ≡ v.offers
tested_offers (IsTested.passes orange none e) = ap (λ (x : Begun). x.parts.offers) e
tested_offers (IsTested.fails_delta s touched last e) = ap (λ (x : Begun). x.parts.offers) e
tested_offers (IsTested.fails_sigma s orange some last e) = ap (λ (x : Begun). x.parts.offers) e

-- what is begun goes on as long as the trial is waited for
asked_in : (w : Core) (words : List ℕ) (v : Parts) (c : Private) (phase : Phase) → IsClearingIn v (Some phase) → c.offers ≡ true → RestsIn Round.First w words c phase
asked_in w words v c (Releasing m) clear asked = asked
asked_in w words v c (Freeing m) clear asked = asked
asked_in w words v c _ clear asked = absurd clear

-- While slots are released and sets tested, it is only waited for the trial.
first_clears : {w : Core} {crossing words : List ℕ} {q : Private} {turn : Turn} {b : Begun} → HasCleared w crossing words b → b.parts.offers ≡ true
    → ((u : Begun) → HasLanded w crossing words u → AreCounted w words u.parts.counts) → ClearsOn w.collector q turn b → ComesTo Round.First w words q
first_clears {w} {crossing} {words} {q} {turn} {b} h asked counted (ClearsOn.works phase is g) =
    subst (ComesTo Round.First w words) (sym g.after) (ComesTo.goes_on refl (asked_in w words b.parts (moved (with_parts w.collector b.parts) phase) phase (subst (IsClearingIn b.parts) is h.clears.clearing) asked))
first_clears {w} {crossing} {words} {q} {turn} {b} h asked counted (ClearsOn.tests c none some tested on) =
    first_clears (tested_lands w crossing words b.parts (subst (λ o. HasCleared w crossing words (record { parts = b.parts; phase = o })) none h) some c tested) (tested_offers tested ∙ asked) counted on
first_clears {w} {crossing} {words} {q} {turn} {b} h asked counted (ClearsOn.tries none empty due on) =
    let its : HasCleared w crossing words (still b.parts) = subst (λ o. HasCleared w crossing words (record { parts = b.parts; phase = o })) none h in
    let ready : IsReady b.parts.counts = clear_ready b.parts its.landed.counts its.clears.clearing empty in
    first_tries {u = with_offers b.parts} (trial_lands its.landed ready) (trial_rests_begun its.landed ready empty asked (counted b h.landed)) on
first_clears {b = b} h asked counted (ClearsOn.waits none empty off on) = absurd (false≢true (sym off ∙ offers_try b.parts asked))

-- where a collection has no mailbox to gather any more
pub all_gathered : (w : Core) (phase : Phase) → w.collector.phase ≡ phase → ((t : ℕ) → IsMutator w.config t → gathered phase t ≡ true) → AreGathered w
all_gathered w phase is h t there = ap (λ f. gathered f t) is ∙ h t there

-- what is known in this phase
known_in : (w : Core) (phase : Phase) → w.collector.phase ≡ phase → RestsIn Round.First w w.words w.collector w.collector.phase → RestsIn Round.First w w.words w.collector phase
known_in w phase is h = subst (RestsIn Round.First w w.words w.collector) is h

-- a set that is freed asks for nothing either
freed_offers : (m : frees.Machine) (v : Parts) (word : ℕ) → (with_freed m v word).parts.offers ≡ v.offers
freed_offers m v word =
    let u : frees.Work = frees.took_of (record { machine = m; counts = v.counts }) word in
    go (record v { counts = u.counts }) u.machine u.machine.at
  where
    go : (x : Parts) (n : frees.Machine) (at : Option Member) → (relieved_at x n at).parts.offers ≡ x.offers
    go x n None = refl
    go x n (Some a) = refl

-- what is known of the heap that a turn leaves
abbrev Comes : (w after : Core) → Type 0
Comes w after = ComesTo Round.First w after.words after.collector

-- it is waited for the trial still where a turn applies the batch
asked_awaited : (w u : Core) → Awaits w u → RestsIn Round.First w w.words w.collector w.collector.phase → u.collector.offers ≡ true
asked_awaited w u (Awaits.alone idle more left) h = known_in w Idle idle h
asked_awaited w u (Awaits.last t is returns left) h = known_in w (Returning t) returns h

-- So it is over a whole turn, but for the sweep of a slot, which changes what is held. Counts are to be true once all mailboxes are
-- gathered.
pub first_turned : (w v : Core) → IsKept true w → TurnCase w v → ((x : Core) → (x ≡ w) ⊎ Awaits w x → AreGathered x → (crossing words : List ℕ) (u : Begun) → HasLanded x crossing words u → AreCounted x words u.parts.counts)
    → ((due : Option ℕ) (n : ℕ) → w.collector.phase ≡ Sweeping due n → ⊥) → RestsIn Round.First w w.words w.collector w.collector.phase → (words : List ℕ) × (v.words ≡ words) × ComesTo Round.First w words v.collector
first_turned w v kept turn counted unswept h = (v.words, refl, go turn)
  where
    go : TurnCase w v → ComesTo Round.First w v.words v.collector
    go (TurnCase.spent phase last is) = subst (Comes w) (sym is) (ComesTo.goes_on refl h)
    go (TurnCase.requests next phase present is) = subst (Comes w) (sym is) (ComesTo.goes_on refl (known_in w Idle phase h))
    go (TurnCase.waits t there phase word is) = subst (Comes w) (sym is) (ComesTo.goes_on refl h)
    go (TurnCase.gathers t there phase word is) = subst (Comes w) (sym is) (ComesTo.goes_on refl (known_in w (Looking t) phase h))
    go (TurnCase.gives_back t next there phase present is) = subst (Comes w) (sym is) (ComesTo.goes_on refl (known_in w (Returning t) phase h))
    go (TurnCase.applies u q turn awaits on is) =
        let lands = applied_lands u (length u.collector.newer) (awaits_kept w u kept awaits) (awaits_way w u awaits) in
        subst (Comes w) (sym is) (comes_awaited Round.First w u awaits u.words q (first_clears lands (asked_awaited w u awaits h) (counted u (inr awaits) (awaits_gathered w u kept awaits) u.crossing u.words) on))
    go (TurnCase.releases m a q turn phase at on is) =
        subst (Comes w) (sym is) (first_clears (released_lands w m a kept phase at) (known_in w (Releasing m) phase h) (counted w (inl refl) (all_gathered w (Releasing m) phase (λ t there. refl)) w.crossing _) on)
    go (TurnCase.frees m a q turn phase at on is) =
        let offers = freed_offers m (parts_of w.collector) (word_at w a.slot a.field) in
        subst (Comes w) (sym is) (first_clears (freed_lands w m a kept phase at) (offers ∙ known_in w (Freeing m) phase h) (counted w (inl refl) (all_gathered w (Freeing m) phase (λ t there. refl)) w.crossing _) on)
    go (TurnCase.tries m place q turn phase named on is) =
        subst (Comes w) (sym is) (first_tries {u = parts_of w.collector} (trying_lands w m kept phase place named) (trial_rests_more w m place kept phase named (known_in w (Trying m) phase h)) on)
    go (TurnCase.prepares m a q turn phase at on is) =
        subst (Comes w) (sym is) (first_prepares {u = parts_of w.collector} (preparing_lands w m kept phase a at) (prep_rests_more w m a kept phase at (known_in w (Preparing m) phase h)) on)
    go (TurnCase.begins_sweep phase is) = subst (Comes w) (sym is) (ComesTo.goes_on refl (known_in w Opening phase h))
    go (TurnCase.sweeps n slot next phase which is) = absurd (unswept (Some slot) n phase)
    go (TurnCase.ends_sweep n phase is) = subst (Comes w) (sym is) (ComesTo.completes refl refl (known_in w (Closing n) phase h))
