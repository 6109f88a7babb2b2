-- The tests of the sets in a heap at rest: the last set passes and is given up, till none is left; then all that isn't released is within
-- reach, and a trial begins.
use Rattle.std.proofs.Common.{◌≡◌, ◌⊎◌, inl, inr, ℕ, ◌+◌, ◌-◌, ◌<◌, Bool, true, false, Option, Some, None, List, [], ◌∷◌, ◌++◌, length, slice_get, refl, sym, ap, subst, ◌∙◌, arith}
use Rattle.std.proofs.lemmas.Bool.{false≢true}
use Rattle.rec_core.proofs.Common.{places_of, Slot, slot_at, is_in, Member, given_up, IsCleared, prep_started, put_off, with_offers, Parts, new_freeing, with_parts, ClearsOn, IsTested, PreparesOn, TriesOn, Begun, freeing_at, with_freeing, moved, Phase, Freeing, Turn, still, Core, is_green}
use Rattle.rec_settle.specs.Resting.{ComesTo, RestsIn, Round, SetsRest, AreFound}
use Rattle.rec_counts.specs.Counts.{IsKept}
use Rattle.rec_counts.specs.Groups.{last_set}
use Rattle.rec_word.specs.Walk.{first_member}
use Rattle.rec_release.specs.CycleFree.{started_of}
use Rattle.rec_word.specs.Walk.{places_left}
use Rattle.rec_sigma.specs.Judged.{AreOrange, cyclic_sum}
use Rattle.rec_trial.specs.Trial as trials
use Rattle.rec_collector.specs.Private.{Private}
use Rattle.rec_collector.specs.declared.sets.Sets.{Sets}
use Rattle.rec_settle.specs.Resting.ComesTo.{goes_on}
use Rattle.rec_core.proofs.Landed.{HasCleared}
use Rattle.rec_settle.proofs.Rest.SecondBatch.{FreesIn, FreesOn}
use Rattle.rec_settle.proofs.Rest.SettlingPasses.{IsGivenUp, given, still_in, unheld_given_up, unheld_passes}
use Rattle.rec_core.proofs.SetTests.{last_number, tested_lands}
use Rattle.rec_core.proofs.Zeros.{some_fields}

-- all fields of the members are still to be exchanged as the freeing of a set begins
places_begun : (fields : ℕ) (members : List ℕ) → places_of fields members ≡ places_left fields members (first_member (slice_get members 0))
places_begun fields [] = refl
places_begun fields (x ∷ xs) = refl

module _ (w : Core) (words : List ℕ) (v : Parts) (fields : 0 < w.config.fields) (own_fields : v.fields ≡ w.config.fields) (kept : IsKept v.counts) (clear : IsCleared v) (rested : SetsRest w words [] v.counts) where
  open v use {counts as s}

  passes : AreOrange s (last_number s) × (cyclic_sum s (last_number s) ≡ 0)
  passes = unheld_passes w.config.fields words s kept rested.unheld

  -- what is left is found as before: members of the last set are released now
  found : (x : ℕ) → (slot_at (given_up s) x).released ≡ false → (slot_at (given_up s) x).set ≡ None → (slot_at s x).released ≡ false × ((slot_at s x).set ≡ None) × (is_green (slot_at s x).colour ≡ is_green (slot_at (given_up s) x).colour)
  found x unreleased none = go (is_in (last_number s) (slot_at s x).set) refl (given s x)
    where
      go : (b : Bool) → is_in (last_number s) (slot_at s x).set ≡ b → IsGivenUp b (slot_at s x) (slot_at (given_up s) x) → (slot_at s x).released ≡ false × ((slot_at s x).set ≡ None) × (is_green (slot_at s x).colour ≡ is_green (slot_at (given_up s) x).colour)
      go true q g = absurd (false≢true (sym unreleased ∙ (g.members refl).0))
      go false q g = let same : slot_at s x ≡ slot_at (given_up s) x = sym (g.others refl) in (ap (λ (o : Slot). o.released) same ∙ unreleased, ap (λ (o : Slot). o.set) same ∙ none, ap (λ (o : Slot). is_green o.colour) same)

  rested_then : SetsRest w words (places_of w.config.fields (last_set s.sets)) (given_up s)
  rested_then = record {
    unheld = unheld_given_up w.config.fields words s fields kept rested.unheld;
    found = λ x unreleased other none. let was = found x unreleased none in rested.found x was.0 (was.2 ∙ other) was.1;
    unnamed = λ x i is. rested.unnamed x i (still_in s x i is).was;
  }

  given_rests : (sets : Sets) → FreesOn w words (with_freeing (record v { sets = sets }) (started_of (new_freeing v.fields) s))
  unfolding started_of
  given_rests sets = by (first_member (slice_get (last_set s.sets) 0)) refl
    where
      left : places_of w.config.fields (last_set s.sets) ≡ places_left v.fields (s.work ++ last_set s.sets) (first_member (slice_get (last_set s.sets) 0))
      left =
          ap (λ n. places_of n (last_set s.sets)) (sym own_fields)
          ∙ places_begun v.fields (last_set s.sets)
          ∙ ap (λ held. places_left v.fields (held ++ last_set s.sets) (first_member (slice_get (last_set s.sets) 0))) (sym clear.work)

      rests : SetsRest w words (places_left v.fields (s.work ++ last_set s.sets) (first_member (slice_get (last_set s.sets) 0))) (given_up s)
      rests = subst (λ ps. SetsRest w words ps (given_up s)) left rested_then

      by : (at : Option Member) → first_member (slice_get (last_set s.sets) 0) ≡ at
          → FreesIn w words (record v { counts = given_up s; sets = sets }) (freeing_at (record { fields = v.fields; at = first_member (slice_get (last_set s.sets) 0) }) at)
      by None e = subst (λ at. SetsRest w words (places_left v.fields (s.work ++ last_set s.sets) at) (given_up s)) e rests
      by (Some a) e = rests

  tested_rests : (b : Begun) → IsTested v b → FreesOn w words b
  tested_rests b (IsTested.passes orange none is) = subst (FreesOn w words) (sym is) (given_rests (record v.sets { freed = v.sets.freed + 1 }))
  tested_rests b (IsTested.fails_delta t touched last is) = absurd (touched passes.0)
  tested_rests b (IsTested.fails_sigma t orange some last is) = absurd (omega (arith, some, passes.1))

-- the freeing of a set goes on
frees_in : (w : Core) (words : List ℕ) (v : Parts) (phase : Phase) → FreesIn w words v (Some phase) → RestsIn Round.Second w words (moved (with_parts w.collector v) phase) phase
frees_in w words v (Freeing m) rested = rested
frees_in w words v _ rested = absurd rested

-- The second collection goes on: while a set is left, it is freed, as it passes its tests; then a trial begins or is postponed, with all within
-- reach that is neither released nor Green.
pub second_clears : {w : Core} {crossing words : List ℕ} {q : Private} {turn : Turn} {b : Begun} → HasCleared w crossing words b → FreesOn w words b
    → ((u : Parts) → HasCleared w crossing words (still u) → u.counts.sets ≡ [] → AreFound w words u.counts
    → TriesOn w.collector (with_offers u) (trials.started_of u.fields (with_offers u).counts) q turn ⊎ PreparesOn w.collector (put_off u) (prep_started (put_off u)) q turn → ComesTo Round.Second w words q)
    → ClearsOn w.collector q turn b → ComesTo Round.Second w words q
second_clears {w} {crossing} {words} {q} {turn} {b} h rested tries (ClearsOn.works phase is g) =
    subst (ComesTo Round.Second w words) (sym g.after) (goes_on refl (frees_in w words b.parts phase (subst (FreesIn w words b.parts) is rested)))
second_clears {w} {crossing} {words} {q} {turn} {b} h rested tries (ClearsOn.tests c none some tested on) =
    let its : HasCleared w crossing words (still b.parts) = subst (λ o. HasCleared w crossing words (record { parts = b.parts; phase = o })) none h in
    let sets : SetsRest w words [] b.parts.counts = subst (FreesIn w words b.parts) none rested in
    second_clears (tested_lands w crossing words b.parts its some c tested) (tested_rests w words b.parts (some_fields its.landed) its.landed.fields its.landed.counts its.clears.clearing sets c tested) tries on
second_clears {w} {crossing} {words} {q} {turn} {b} h rested tries (ClearsOn.tries none empty due on) =
    let its : HasCleared w crossing words (still b.parts) = subst (λ o. HasCleared w crossing words (record { parts = b.parts; phase = o })) none h in
    let sets : SetsRest w words [] b.parts.counts = subst (FreesIn w words b.parts) none rested in
    tries b.parts its empty sets.found (inl on)
second_clears {w} {crossing} {words} {q} {turn} {b} h rested tries (ClearsOn.waits none empty off on) =
    let its : HasCleared w crossing words (still b.parts) = subst (λ o. HasCleared w crossing words (record { parts = b.parts; phase = o })) none h in
    let sets : SetsRest w words [] b.parts.counts = subst (FreesIn w words b.parts) none rested in
    tries b.parts its empty sets.found (inr on)
