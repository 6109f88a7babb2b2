-- A heap at rest, over the turns of the collection whose trial is offered every slot and of the one that frees its sets.
use Rattle.std.proofs.Common.{◌≡◌, ◌⊎◌, inl, inr, ℕ, ◌+◌, ◌≤◌, Option, Some, List, drop, slice_get, slice_set, refl, sym, ap, subst, ◌∙◌, arith, true}
use Rattle.std.proofs.lemmas.Bool.{false≢true}
use Rattle.rec_core.proofs.Common.{Begun, Phase, Idle, Looking, Returning, Releasing, Freeing, Trying, Preparing, Opening, Sweeping, Closing, Core, sight, IsKept, turned}
use Rattle.rec_settle.specs.Resting.{AreCounted, holds, Round, RestsIn, ComesTo, TurnsTo, epochs_before}
use Rattle.rec_collector.specs.Kept.{under_way}
use Rattle.rec_settle.specs.Quiet.{gathered, AreQuiet, AreGathered}
use Rattle.rec_core.proofs.Landed.{HasLanded}
use Rattle.rec_core.proofs.TurnCases.{Awaits, TurnCase, header_freed, swept_by}
use Rattle.rec_settle.proofs.Rest.FirstRound.{first_turned}
use Rattle.rec_settle.proofs.Rest.QuietCounts.{landed_count}
use Rattle.rec_settle.proofs.Rest.QuietTurns.{awaits_epoch, awaits_quiet}
use Rattle.rec_settle.proofs.Rest.RestingSeen.{rests_seen}
use Rattle.rec_settle.proofs.Rest.SecondTurns.{second_turned}
use Rattle.rec_settle.proofs.Rest.TurnRules.{turn_is}
use Rattle.rec_settle.proofs.Rest.Within.{sets_swept, within_swept}

-- behind a slot that is swept the sweep goes on, or ends
abbrev FollowsSweep : Core → (n : ℕ) → (next : Phase) → Type 0
FollowsSweep w n next = (next ≡ Sweeping (slice_get (drop 1 w.collector.counts.free) 0) (n + 1)) ⊎ (next ≡ Closing (n + 1))

-- in a phase in which a slot is swept, whatever the round
swept_first : (w : Core) (n slot : ℕ) (next : Phase) → IsKept true w → w.collector.phase ≡ Sweeping (Some slot) n → FollowsSweep w n next → RestsIn Round.First w w.words w.collector (Sweeping (Some slot) n)
    → RestsIn Round.First (header_freed w slot) w.words (swept_by w.collector slot next) next
swept_first w n slot next kept phase (inl is) h = subst (RestsIn Round.First (header_freed w slot) w.words (swept_by w.collector slot next)) (sym is) (sets_swept w n slot kept phase h)
swept_first w n slot next kept phase (inr is) h = subst (RestsIn Round.First (header_freed w slot) w.words (swept_by w.collector slot next)) (sym is) (sets_swept w n slot kept phase h)

swept_second : (w : Core) (n slot : ℕ) (next : Phase) → IsKept true w → w.collector.phase ≡ Sweeping (Some slot) n → FollowsSweep w n next → RestsIn Round.Second w w.words w.collector (Sweeping (Some slot) n)
    → RestsIn Round.Second (header_freed w slot) w.words (swept_by w.collector slot next) next
swept_second w n slot next kept phase (inl is) h = subst (RestsIn Round.Second (header_freed w slot) w.words (swept_by w.collector slot next)) (sym is) (within_swept w n slot kept phase h)
swept_second w n slot next kept phase (inr is) h = subst (RestsIn Round.Second (header_freed w slot) w.words (swept_by w.collector slot next)) (sym is) (within_swept w n slot kept phase h)

swept_rests : (r : Round) (w : Core) (n slot : ℕ) (next : Phase) → IsKept true w → w.collector.phase ≡ Sweeping (Some slot) n → FollowsSweep w n next → RestsIn r w w.words w.collector (Sweeping (Some slot) n)
    → RestsIn r (header_freed w slot) w.words (swept_by w.collector slot next) next
swept_rests Round.First w n slot next kept phase which h = swept_first w n slot next kept phase which h
swept_rests Round.Second w n slot next kept phase which h = swept_second w n slot next kept phase which h
swept_rests Round.Over w n slot next kept phase which h = within_swept w n slot kept phase h

-- where a turn has come to is said of the heap that it left, where the same is held in it
seen : (r : Round) (w v : Core) → v.config ≡ w.config → holds (sight v) ≡ holds (sight w) → ComesTo r w v.words v.collector → TurnsTo r w v
seen r w v config held (ComesTo.goes_on same h) = TurnsTo.goes_on same (rests_seen r w v config held v.words v.collector v.collector.phase h)
seen r w v config held (ComesTo.completes more idle h) = TurnsTo.completes more idle (rests_seen _ w v config held v.words v.collector Idle h)

-- A turn changes no number of the heap, and nothing that is held, but for a slot that is swept.
record IsSeenAlike (w v : Core) : Type 0 where
  config : v.config ≡ w.config
  held : holds (sight v) ≡ holds (sight w)

alike : (w v : Core) → TurnCase w v → ((due : Option ℕ) (n : ℕ) → w.collector.phase ≡ Sweeping due n → ⊥) → IsSeenAlike w v
alike w v turn unswept = go turn
  where
    same : (x : Core) → v ≡ x → x.config ≡ w.config → holds (sight x) ≡ holds (sight w) → IsSeenAlike w v
    same x is config held = subst (IsSeenAlike w) (sym is) (record { config = config; held = held })

    go : TurnCase w v → IsSeenAlike w v
    go (TurnCase.spent phase last is) = same _ is refl refl
    go (TurnCase.requests next phase present is) = same _ is refl refl
    go (TurnCase.waits t there phase word is) = same _ is refl refl
    go (TurnCase.gathers t there phase word is) = same _ is refl refl
    go (TurnCase.gives_back t next there phase present is) = same _ is refl refl
    go (TurnCase.applies _ q answer (Awaits.alone phase more left) on is) = same _ is refl refl
    go (TurnCase.applies _ q answer (Awaits.last t there phase left) on is) = same _ is refl refl
    go (TurnCase.releases m a q answer phase at on is) = same _ is refl refl
    go (TurnCase.frees m a q answer phase at on is) = same _ is refl refl
    go (TurnCase.tries m place q answer phase named on is) = same _ is refl refl
    go (TurnCase.prepares m a q answer phase at on is) = same _ is refl refl
    go (TurnCase.begins_sweep phase is) = same _ is refl refl
    go (TurnCase.sweeps n slot next phase which is) = absurd (unswept (Some slot) n phase)
    go (TurnCase.ends_sweep n phase is) = same _ is refl refl

-- whether a slot is swept
sweeping_or_not : (phase : Phase) → ((due : Option ℕ) × (n : ℕ) × (phase ≡ Sweeping due n)) ⊎ ((due : Option ℕ) (n : ℕ) → phase ≡ Sweeping due n → ⊥)
sweeping_or_not (Sweeping due n) = inl (due, n, refl)
sweeping_or_not _ = inr (λ due n is. cc)

-- one phase isn't another
other : {due : Option ℕ} {n : ℕ} {at : Phase} (phase : Phase) → (phase ≡ Sweeping due n → ⊥) → at ≡ phase → at ≡ Sweeping due n → ⊥
other phase differs is sweeping = differs (sym is ∙ sweeping)

-- a collection that isn't complete is under way
pub busy_way : (phase : Phase) → (phase ≡ Idle → ⊥) → under_way phase ≡ 1
busy_way Idle busy = absurd (busy refl)
busy_way _ busy = refl

module _ (first : ℕ) (w : Core) (kept : IsKept true w) (quiet : AreQuiet first w) where
  -- a collection that has gathered all mailboxes is under way
  way : AreGathered w → under_way w.collector.phase ≡ 1
  way all = busy_way w.collector.phase (λ idle. false≢true (sym (ap (λ phase. gathered phase 1) idle) ∙ all 1 (omega arith, kept.config.some_mutators)))

  -- so counts are true
  counted : (x : Core) → (x ≡ w) ⊎ Awaits w x → first + 1 + under_way w.collector.phase ≤ w.epoch + 1 → AreGathered x → (crossing words : List ℕ) (u : Begun) → HasLanded x crossing words u → AreCounted x words u.parts.counts
  counted x (inl is) late all crossing words u l =
      let same : w.epoch ≡ x.epoch = ap (λ (y : Core). y.epoch) (sym is) in
      landed_count first l (subst (AreQuiet first) (sym is) quiet) all (omega (arith, late, way (subst AreGathered is all), same))
  counted x (inr awaits) late all crossing words u l = landed_count first l (awaits_quiet first w x kept awaits quiet) all (omega (arith, late, awaits_epoch w x awaits))

  -- a turn that sweeps no slot
  comes : (r : Round) (v : Core) → TurnCase w v → first + epochs_before r + under_way w.collector.phase ≤ w.epoch + 1 → ((due : Option ℕ) (n : ℕ) → w.collector.phase ≡ Sweeping due n → ⊥) → RestsIn r w w.words w.collector w.collector.phase → (r ≡ Round.Over → ⊥)
      → ComesTo r w v.words v.collector
  comes Round.First v turn late unswept h some =
      let (words, same, there) = first_turned w v kept turn (λ x which. counted x which late) unswept h in
      subst (λ ws. ComesTo Round.First w ws v.collector) (sym same) there
  comes Round.Second v turn late unswept h some = second_turned first w kept quiet v turn (omega (arith, late)) unswept h
  comes Round.Over v turn late unswept h some = absurd (some refl)

  -- a turn that sweeps one
  sweeps : (r : Round) (due : Option ℕ) (n : ℕ) (v : Core) → TurnCase w v → w.collector.phase ≡ Sweeping due n → RestsIn r w w.words w.collector (Sweeping due n) → TurnsTo r w v
  sweeps r due n v (TurnCase.sweeps m slot next phase which is) sweeping h =
      let rests = rests_seen r (header_freed w slot) (record w { headers = slice_set w.headers slot 0; collector = swept_by w.collector slot next }) refl refl w.words (swept_by w.collector slot next) next
      (swept_rests r w m slot next kept phase which (subst (RestsIn r w w.words w.collector) (sym sweeping ∙ phase) h)) in
      subst (TurnsTo r w) (sym is) (TurnsTo.goes_on refl rests)
  sweeps r due n v (TurnCase.spent phase last is) sweeping h = absurd (other Idle (λ e. cc) phase sweeping)
  sweeps r due n v (TurnCase.requests next phase present is) sweeping h = absurd (other Idle (λ e. cc) phase sweeping)
  sweeps r due n v (TurnCase.waits t there phase word is) sweeping h = absurd (other (Looking t) (λ e. cc) phase sweeping)
  sweeps r due n v (TurnCase.gathers t there phase word is) sweeping h = absurd (other (Looking t) (λ e. cc) phase sweeping)
  sweeps r due n v (TurnCase.gives_back t next there phase present is) sweeping h = absurd (other (Returning t) (λ e. cc) phase sweeping)
  sweeps r due n v (TurnCase.applies _ q answer (Awaits.alone phase more left) on is) sweeping h = absurd (other Idle (λ e. cc) phase sweeping)
  sweeps r due n v (TurnCase.applies _ q answer (Awaits.last t there phase left) on is) sweeping h = absurd (other (Returning t) (λ e. cc) phase sweeping)
  sweeps r due n v (TurnCase.releases m a q answer phase at on is) sweeping h = absurd (other (Releasing m) (λ e. cc) phase sweeping)
  sweeps r due n v (TurnCase.frees m a q answer phase at on is) sweeping h = absurd (other (Freeing m) (λ e. cc) phase sweeping)
  sweeps r due n v (TurnCase.tries m place q answer phase named on is) sweeping h = absurd (other (Trying m) (λ e. cc) phase sweeping)
  sweeps r due n v (TurnCase.prepares m a q answer phase at on is) sweeping h = absurd (other (Preparing m) (λ e. cc) phase sweeping)
  sweeps r due n v (TurnCase.begins_sweep phase is) sweeping h = absurd (other Opening (λ e. cc) phase sweeping)
  sweeps r due n v (TurnCase.ends_sweep m phase is) sweeping h = absurd (other (Closing m) (λ e. cc) phase sweeping)

  -- Every turn of either collection keeps what is known of it, and its last one leaves what is known of the next. Mutators did nothing
  -- in so many epochs.
  pub rests_turned : (r : Round) → first + epochs_before r + under_way w.collector.phase ≤ w.epoch + 1 → (r ≡ Round.Over → ⊥) → RestsIn r w w.words w.collector w.collector.phase → TurnsTo r w (turned w)
  rests_turned r late some h = elim (sweeping_or_not w.collector.phase) [
    | inl is ↦ sweeps r is.0 is.1 (turned w) (turn_is w kept) is.2 (subst (RestsIn r w w.words w.collector) is.2 h)
    | inr unswept ↦
        let same : IsSeenAlike w (turned w) = alike w (turned w) (turn_is w kept) unswept in
        seen r w (turned w) same.config same.held (comes r (turned w) (turn_is w kept) late unswept h some)
  ]
