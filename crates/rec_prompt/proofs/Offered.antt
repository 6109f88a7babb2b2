-- Once every slot was offered to a trial each slot hangs on something, whatever was refused before.
use Rattle.std.proofs.Common.{◌||◌, if◌then◌else◌, nat_le, length, ◌≡◌, ◌⊎◌, inl, inr, ℕ, ◌+◌, true, false, Bool, Option, None, Some, List, [], ◌∷◌, slice_index_or, slice_set, refl, sym, ap, subst, ◌∙◌, arith}
use Rattle.std.specs.List.{concat}
use Rattle.std.proofs.lemmas.Bool.{cases_Bool, false≢true}
use Rattle.rec_core.proofs.Common.{Contents, place_of, is_green, State, slot_at, one, times, times-nil, Slot, stays, Sight, Op, At, Member, AllFit, Fits, Move, Core, IsKept, IsKeptBy, Opening, Returning, Releasing, Freeing, Parts, parts_of, with_offers, with_released, with_freed, zeros_released, ClearsOn, TriesOn, PreparesOn, IsTested, Begun, still, noted, requested, Turn, Work, cell, with_cell, cells_of, box, sight, stand_at, looked_at, turned_by, freed_by, after_move, after_moves}
use Rattle.rec_word.specs.Op.{written}
use Rattle.rec_word.specs.declared.op.Op.TheVariants as ops
use Rattle.rec_counts.specs.Colour.{is_purple}
use Rattle.rec_counts.specs.Counts.{IsKept as IsKeptCounts}
use Rattle.rec_counts.proofs.Keeping.{map_at}
use Rattle.rec_release.specs.CycleFree as frees
use Rattle.rec_release.specs.Release as releases
use Rattle.rec_release.specs.Sweep as sweeps
use Rattle.rec_sigma.specs.Prepare as preps
use Rattle.rec_trial.specs.Rules.{IsReady}
use Rattle.rec_collector.specs.Kept as collector_kept
use Rattle.rec_collector.specs.Offered.{offered, offered_if, offered_slot, offered_where}
use Rattle.rec_collector.specs.Followed.{makes_trial}
use Rattle.rec_collector.specs.Private as collectors
use Rattle.rec_collector.specs.Step as step
use Rattle.rec_collector.specs.Took.{step_of}
use Rattle.rec_collector.proofs.Offering.{where_kept, where_ready}
use Rattle.rec_collector.proofs.Testing.{clear_ready}
use Rattle.rec_core.proofs.Landed.{HasCleared}
use Rattle.rec_core.proofs.SetTests.{tested_lands}
use Rattle.rec_core.proofs.Common.{Idle}
use Rattle.rec_core.proofs.Applying.{counted}
use Rattle.rec_core.proofs.Begun.{applied_lands}
use Rattle.rec_core.proofs.Freeing.{freed_lands}
use Rattle.rec_core.proofs.Gathering.{awaits_kept}
use Rattle.rec_core.proofs.Phases.{clears_in}
use Rattle.rec_core.proofs.PlainWords.{crosses_none}
use Rattle.rec_core.proofs.Releasing.{released_lands}
use Rattle.rec_core.proofs.Runs.{move_kept, rule_of}
use Rattle.rec_core.proofs.TurnCases.{Awaits, giving_back, requesting}
use Rattle.rec_core.proofs.Turning.{mutator_at, some_op, turn_case}
use Rattle.rec_core.proofs.Turns.{now_at}
use Rattle.rec_prompt.specs.Cover.{Covers, IsCovered, IsListed, IsPending, touched_sets}
use Rattle.rec_core.proofs.Common.{EndsRun, IsConfig}
use Rattle.rec_core.proofs.Dated.{move_explained, moves_explained}
use Rattle.rec_prompt.proofs.Covered.{backed_behind, covered_here}
use Rattle.rec_prompt.specs.Cover.Hangs.{listed}
use Rattle.rec_prompt.proofs.Backed.{move_backed}
use Rattle.rec_prompt.proofs.Batch.{IsLate}
use Rattle.rec_prompt.proofs.Clears.{heeds_leaders, IsOn, touched, trial_on}
use Rattle.rec_prompt.proofs.Turned.{finish, IsWatched, late_pends, plain_boxes, quiet, same_late}
use Rattle.rec_prompt.proofs.Turns.{clears_rows, rows_as}
use Rattle.rec_prompt.proofs.Watched.{moves_watched}
use Rattle.rec_prompt.proofs.Hanging.{leaders_from, LeadersCount}
use Rattle.rec_prompt.proofs.Tried.{heeds_offered}

-- each slot that isn't Green is released, or a candidate root
offered_covers : (w : Sight) (pending : ℕ → Type 0) (s : State) → IsKeptCounts s → s.sets ≡ [] → Covers w pending (offered_where true s)
unfolding offered
offered_covers w pending s kept none slot taken plain = listed (go (stays (slot_at s slot)) refl)
  where
    t : State
    t = offered_where true s

    at : slot_at t slot ≡ offered_slot (slot_at s slot)
    at = map_at offered_slot refl s.slots slot

    stayed : (v : Slot) → stays v ≡ true → (v.released ≡ true) ⊎ (is_green v.colour ≡ true)
    stayed v is = elim (cases_Bool v.released) [ inl gone ↦ inl gone | inr there ↦ inr (sym (ap (λ b. b || is_green v.colour) there) ∙ is) ]

    go : (b : Bool) → stays (slot_at s slot) ≡ b → IsListed t slot
    go true is =
        let same : slot_at t slot ≡ slot_at s slot = at ∙ ap (λ b. offered_if b (slot_at s slot)) is in
        elim (stayed (slot_at s slot) is) [
          | inl gone ↦ IsListed.released (ap (λ (v : Slot). v.released) same ∙ gone)
          | inr green ↦ absurd (false≢true (sym plain ∙ ap (λ (v : Slot). is_green v.colour) same ∙ green))
        ]
    go false is =
        let new : slot_at t slot ≡ offered_if false (slot_at s slot) = at ∙ ap (λ b. offered_if b (slot_at s slot)) is in
        let kept_then : IsKeptCounts t = where_kept true s kept in
        IsListed.root (omega (arith, kept_then.buffers slot, ap (λ (v : Slot). one v.buffered) new, ap (λ (xss : List (List ℕ)). times slot (concat xss)) none, times-nil slot)) (ap (λ (v : Slot). is_purple v.colour) new)

-- what follows a release: slots are to be offered still, or a trial has begun with all of them
module _ (w : Core) (crossing words : List ℕ) (pending : ℕ → Type 0) (q : collectors.Private) (turn : Turn) where
  abbrev Regains : Type 0
  Regains = (q.offers ≡ true) ⊎ IsOn w crossing words pending q turn

  tested_offers : (v : Parts) (c : Begun) → IsTested v c → c.parts.offers ≡ v.offers
  tested_offers v c (IsTested.passes orange none is) = ap (λ (b : Begun). b.parts.offers) is
  tested_offers v c (IsTested.fails_delta s touched last is) = ap (λ (b : Begun). b.parts.offers) is
  tested_offers v c (IsTested.fails_sigma s orange held last is) = ap (λ (b : Begun). b.parts.offers) is

  clears_regains : {b : Begun} → HasCleared w crossing words b → b.parts.offers ≡ true → ClearsOn w.collector q turn b → Regains
  clears_regains {b} h offers (ClearsOn.works phase is g) = inl (ap (λ (x : collectors.Private). x.offers) g.after ∙ offers)
  clears_regains {b} h offers (ClearsOn.tests c is some tested on) =
      let there : HasCleared w crossing words (still b.parts) = subst (λ o. HasCleared w crossing words (record { parts = b.parts; phase = o })) is h in
      clears_regains (tested_lands w crossing words b.parts there some c tested) (tested_offers b.parts c tested ∙ offers) on
  clears_regains {b} h offers (ClearsOn.tries is none due on) =
      let there : HasCleared w crossing words (still b.parts) = subst (λ o. HasCleared w crossing words (record { parts = b.parts; phase = o })) is h in
      let seen_then : Sight = sight (record w { words = words }) in
      let alive : LeadersCount seen_then (with_offers b.parts).counts = heeds_leaders seen_then b.parts.counts (with_offers b.parts).counts (heeds_offered b.parts.offers b.parts.counts) (leaders_from seen_then b.parts.counts h.landed.sound h.landed.greens) in
      let ready : IsReady b.parts.counts = clear_ready b.parts there.landed.counts there.clears.clearing none in
      let covers : Covers seen_then pending (with_offers b.parts).counts = subst (λ o. Covers seen_then pending (offered_where o b.parts.counts)) (sym offers) (offered_covers seen_then pending b.parts.counts there.landed.counts none) in
      inr (trial_on w crossing words pending q turn (with_offers b.parts) h.clears.wide h.landed.fields (where_ready b.parts.offers b.parts.counts ready) alive covers on).0
  clears_regains {b} h offers (ClearsOn.waits is none off on) = absurd (false≢true (sym off ∙ made b.parts offers))
    where
      made : (v : Parts) → v.offers ≡ true → makes_trial v ≡ true
      made v is = ap (λ b. if b then true else if nat_le v.policy.least_roots (length v.counts.roots) then true else nat_le v.policy.most_postponed v.postponed) is

-- ---- the rules of a turn, where slots are to be offered

module _ (v : Core) (op : Op) (kept : IsKept true v) (offers : v.collector.offers ≡ true) where
  open v use {collector as c}

  abbrev its_word : ℕ
  its_word = cell (cells_of v) op

  abbrev its_box : Contents
  its_box = box v (looked_at c.phase)

  abbrev q : collectors.Private
  q = step_of c its_word its_box

  abbrev u : Core
  u = turned_by v op its_word

  -- they are so still, or each slot hangs on something
  abbrev IsRegained : Type 0
  IsRegained = (q.offers ≡ true) ⊎ IsWatched u

  regained : (words crossing : List ℕ) (w : Core) (pending : ℕ → Type 0) (turn : Turn) → sight (record w { words = words }) ≡ sight (record v { words = words }) → u.words ≡ words → u.headers ≡ v.headers → ((x : ℕ) → pending x → IsPending u x) → Regains w crossing words pending q turn → IsRegained
  regained words crossing w pending turn same_sight is headers more (inl still_) = inl still_
  regained words crossing w pending turn same_sight is headers more (inr on) = inr (finish v op kept words crossing w pending turn same_sight is headers more on)

  batch_regains : (turn : Turn) (b : Core) (t : ℕ) (home : IsKeptBy true (stand_at b.collector.left Opening) b) (at : b.collector.phase ≡ Returning t) → sight (record b { words = b.words }) ≡ sight (record v { words = b.words }) → b.collector.offers ≡ true → ((x : ℕ) → IsLate b x → IsPending u x) → u.words ≡ b.words → u.headers ≡ v.headers
      → ClearsOn b.collector q turn (zeros_released false (record (parts_of b.collector) { counts = counted b t home at })) → IsRegained
  batch_regains turn b t home at same_sight offers_b more words headers on = regained b.words b.crossing b (IsLate b) turn same_sight words headers more (clears_regains b b.crossing b.words (IsLate b) q turn (applied_lands b t home at) offers_b on)

  released_regains : (turn : Turn) (m : releases.Machine) → c.phase ≡ Releasing m → ◌≡◌ {A = Option Op} (Some op) (releases.next_of m) → ClearsOn c q turn (with_released m (parts_of c) its_word) → IsRegained
  unfolding releases.next_of
  released_regains turn m at named on = go m.at refl
    where
      go : (x : Option At) → m.at ≡ x → IsRegained
      go None is = let not_so : ◌≡◌ {A = Option Op} (Some op) None = named ∙ ap (releases.op_at m.fields) is in absurd (cc)
      go (Some a) is =
          let now : collector_kept.IsTesting c (Releasing m) = now_at v (Releasing m) kept at in
          let place : ℕ = place_of a.slot a.field v.config.fields in
          let fields : m.fields ≡ v.config.fields = now.clearing.fields ∙ kept.collector.fields in
          let its : op ≡ ops.ClearField place = some_op op (ops.ClearField place) (named ∙ ap (releases.op_at m.fields) is ∙ ap (λ n. Some (ops.ClearField (place_of a.slot a.field n))) fields) in
          let found_is : its_word ≡ slice_index_or v.words place 0 = ap (cell (cells_of v)) its in
          let on_ : ClearsOn c q turn (with_released m (parts_of c) (slice_index_or v.words place 0)) = subst (λ n. ClearsOn c q turn (with_released m (parts_of c) n)) found_is on in
          regained (slice_set v.words place 0) v.crossing v (IsLate v) turn refl (ap (λ (o : Op). (with_cell (cells_of v) o (written o its_word)).words) its) (ap (λ (o : Op). (with_cell (cells_of v) o (written o its_word)).headers) its)
          (late_pends v op kept (plain_boxes v op kept (Releasing m) at refl) (clears_rows c q turn on_))
          (clears_regains v v.crossing (slice_set v.words place 0) (IsLate v) q turn (released_lands v m a kept at is) offers on_)

  freed_regains : (turn : Turn) (m : frees.Machine) → c.phase ≡ Freeing m → ◌≡◌ {A = Option Op} (Some op) (frees.next_of m) → ClearsOn c q turn (with_freed m (parts_of c) its_word) → IsRegained
  unfolding frees.next_of
  freed_regains turn m at named on = go m.at refl
    where
      go : (x : Option Member) → m.at ≡ x → IsRegained
      go None is = let not_so : ◌≡◌ {A = Option Op} (Some op) None = named ∙ ap (frees.op_at m.fields) is in absurd (cc)
      go (Some a) is =
          let now : collector_kept.IsTesting c (Freeing m) = now_at v (Freeing m) kept at in
          let place : ℕ = place_of a.slot a.field v.config.fields in
          let fields : m.fields ≡ v.config.fields = now.clearing.fields ∙ kept.collector.fields in
          let its : op ≡ ops.ClearField place = some_op op (ops.ClearField place) (named ∙ ap (frees.op_at m.fields) is ∙ ap (λ n. Some (ops.ClearField (place_of a.slot a.field n))) fields) in
          let found_is : its_word ≡ slice_index_or v.words place 0 = ap (cell (cells_of v)) its in
          let word : ℕ = slice_index_or v.words place 0 in
          let on_ : ClearsOn c q turn (with_freed m (parts_of c) word) = subst (λ n. ClearsOn c q turn (with_freed m (parts_of c) n)) found_is on in
          regained (slice_set v.words place 0) v.crossing v (IsLate v) turn refl (ap (λ (o : Op). (with_cell (cells_of v) o (written o its_word)).words) its) (ap (λ (o : Op). (with_cell (cells_of v) o (written o its_word)).headers) its)
          (late_pends v op kept (plain_boxes v op kept (Freeing m) at refl) (clears_rows c q turn on_))
          (clears_regains v v.crossing (slice_set v.words place 0) (IsLate v) q turn (freed_lands v m a kept at is) (freed_by (λ b. b.parts.offers ≡ c.offers) m (parts_of c) word now.clearing.busy (λ b e more. refl) (λ b e last more. refl) (λ b e last none. refl) ∙ offers) on_)

  -- nothing but a trial that begins takes slots off the offer
  prepares_offers : (turn : Turn) (p : Parts) (k : preps.Work) → PreparesOn c p k q turn → q.offers ≡ p.offers
  prepares_offers turn p k (PreparesOn.more some g) = ap (λ (x : collectors.Private). x.offers) g.after
  prepares_offers turn p k (PreparesOn.sweeps_next none some g) = ap (λ (x : collectors.Private). x.offers) g.after
  prepares_offers turn p k (PreparesOn.completes none free e) = ap (λ (x : collectors.Private). x.offers) e.after

  tries_offers : (turn : Turn) (p : Parts) (k : Work) → TriesOn c p k q turn → q.offers ≡ p.offers
  tries_offers turn p k (TriesOn.more some g) = ap (λ (x : collectors.Private). x.offers) g.after
  tries_offers turn p k (TriesOn.prepares none on) = prepares_offers turn (record p { counts = k.counts }) _ on

  regains_rule : {turn : Turn} → step.Step c its_word its_box (Some op) q turn → IsRegained
  unfolding sweeps.started_of sweeps.took_of sweeps.next_of
  regains_rule (step.Step.spent at last none is turn_is) = let n : ◌≡◌ {A = Option Op} (Some op) None = none in absurd (cc)
  regains_rule {turn} (step.Step.request next at more is n g) = inl (ap (λ (x : collectors.Private). x.offers) g.after ∙ offers)
  regains_rule {turn} (step.Step.request_alone at more is gone on) =
      let b : Core = requesting v in
      let awaits : Awaits v b = Awaits.alone at (λ last. more (ap (λ n. n + 1) kept.collector.epoch ∙ last)) gone in
      let calm = quiet v op kept (ops.StoreEpoch (c.epoch + 1)) (some_op op (ops.StoreEpoch (c.epoch + 1)) is) refl refl in
      batch_regains turn b (length c.newer) (awaits_kept v b kept awaits) refl refl offers
      (λ x late. late_pends v op kept (plain_boxes v op kept Idle at refl) (rows_as refl refl refl (clears_rows (requested c) q turn on)) x (same_late v op kept b refl refl refl x late)) calm.0 calm.1 (clears_in b.collector.phase on)
  regains_rule (step.Step.cross_for t next at crosses is n g) = absurd (crosses_none v t kept at op its_word is refl crosses)
  regains_rule (step.Step.cross_for_last t at crosses is gone on) = absurd (crosses_none v t kept at op its_word is refl crosses)
  regains_rule (step.Step.wait t at waits is same turn_is) = inl (ap (λ (x : collectors.Private). x.offers) same ∙ offers)
  regains_rule (step.Step.gather t at takes is g) = inl (ap (λ (x : collectors.Private). x.offers) g.after ∙ offers)
  regains_rule (step.Step.give_back t next at is n g) = inl (ap (λ (x : collectors.Private). x.offers) g.after ∙ offers)
  regains_rule {turn} (step.Step.apply t at is gone on) =
      let b : Core = giving_back v t in
      let now = now_at v (Returning t) kept at in
      let awaits : Awaits v b = Awaits.last t (mutator_at v t (Returning t) kept at (now.first, now.there)) at gone in
      let calm = quiet v op kept (ops.ReturnBox t c.epoch) (some_op op (ops.ReturnBox t c.epoch) is) refl refl in
      batch_regains turn b (length c.newer) (awaits_kept v b kept awaits) refl refl offers
      (λ x late. late_pends v op kept (plain_boxes v op kept (Returning t) at refl) (rows_as refl refl refl (clears_rows (noted c t) q turn on)) x (same_late v op kept b refl refl refl x late)) calm.0 calm.1 (clears_in b.collector.phase on)
  regains_rule {turn} (step.Step.release m at is on) = released_regains turn m at is on
  regains_rule {turn} (step.Step.freeing m at is on) = freed_regains turn m at is on
  regains_rule {turn} (step.Step.trial m at is on) = inl (tries_offers turn (parts_of c) _ on ∙ offers)
  regains_rule {turn} (step.Step.preparation m at is on) = inl (prepares_offers turn (parts_of c) _ on ∙ offers)
  regains_rule (step.Step.begin_sweep at is g) = inl (ap (λ (x : collectors.Private). x.offers) g.after ∙ offers)
  regains_rule (step.Step.sweep due swept_ w next at is took follows g) = inl (ap (λ (x : collectors.Private). x.offers) g.after ∙ offers)
  regains_rule (step.Step.end_sweep swept_ at is e) = inl (ap (λ (x : collectors.Private). x.offers) e.after ∙ offers)

-- ---- moves

-- slots are to be offered, or each hangs on something
move_regains : (v : Core) (m : Move) → IsKept true v → Fits v m → v.collector.offers ≡ true → ((after_move v m).collector.offers ≡ true) ⊎ IsWatched (after_move v m)
move_regains v (Move.Begins t work from) kept fits offers = inl offers
move_regains v (Move.Steps t) kept fits offers = inl offers
move_regains v Move.Offers kept fits offers = inl refl
move_regains v Move.Turns kept fits offers = turn_case v (λ o u. (u.collector.offers ≡ true) ⊎ IsWatched u) (λ none. inl offers) (λ op named. regains_rule v op kept offers (rule_of v op kept named))

-- The move with which the trial begins leaves each slot on something, and that stays so until one more set is refused of which a member was touched.
pub offered_again : (w : Core) (m : Move) (moves : List Move) → IsConfig w.config → EndsRun w → AllFit w (m ∷ moves) → w.collector.offers ≡ true → (after_move w m).collector.offers ≡ false → touched_sets (after_moves (after_move w m) moves) ≡ touched_sets (after_move w m) → IsCovered (after_moves (after_move w m) moves)
offered_again w m moves config run fit offers none same =
    let (v, e, b) = backed_behind w config run in
    let all = moves_explained v w (m ∷ moves) e fit in
    let one_ = move_explained v w m e fit.0 in
    elim (move_regains v m e.kept all.0.0 (ap (λ (x : Core). x.collector.offers) e.bare ∙ offers)) [
      | inl still_ ↦ absurd (false≢true (sym none ∙ sym (ap (λ (x : Core). x.collector.offers) one_.1.bare) ∙ still_))
      | inr there ↦ covered_here (after_moves v (m ∷ moves)) (after_moves w (m ∷ moves)) all.1
          (moves_watched (after_move v m) moves (move_kept v m e.kept all.0.0) all.0.1 (move_backed v m e.kept all.0.0 b) there (omega (arith, same, ap touched_sets all.1.bare, ap touched_sets one_.1.bare))).covers
    ]
