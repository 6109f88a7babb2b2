-- What is known of a heap at rest is said of what is held in it alone: of headers and registers.
use Rattle.std.proofs.Common.{◌≡◌, ℕ, ◌+◌, false, None, Some, List, refl, sym, ap, subst, ◌∙◌}
use Rattle.rec_core.proofs.Common.{State, slot_at, Work, Phase, Idle, Looking, Swapping, Returning, Releasing, Freeing, Trying, Preparing, Opening, Sweeping, Closing, Core, sight, is_green}
use Rattle.rec_core.specs.declared.config.Config.{Config}
use Rattle.rec_settle.specs.Resting.{holds, AreFound, AreUnnamed, AreWithinReach, TrialRests, PrepRests, SetsRest, Round, RestsIn, ComesTo}
use Rattle.rec_settle.specs.Settling.{IsReachable, IsOffered}
use Rattle.rec_sigma.specs.Prepare as preps
use Rattle.rec_collector.specs.Private.{Private}
use Rattle.rec_settle.specs.Resting.{next_round}
use Rattle.rec_settle.specs.Settling.{word_in}
use Rattle.rec_core.proofs.TurnCases.{Awaits, giving_back, requesting}

-- a heap with the numbers of another
abbrev seen_as : Core → Core → Core
seen_as w v = record v { config = w.config }

module _ (w v : Core) (same : holds (sight v) ≡ holds (sight w)) (words : List ℕ) where
  open w use {config.{fields}}

  found_seen : (s : State) → AreFound w words s → AreFound (seen_as w v) words s
  found_seen s h = subst (λ (f : ℕ → ℕ). (x : ℕ) → (slot_at s x).released ≡ false → is_green (slot_at s x).colour ≡ false → (slot_at s x).set ≡ None → (IsReachable fields (word_in fields words) f x → ⊥) → ⊥) (sym same) h

  within_seen : (s : State) → AreWithinReach w words s → AreWithinReach (seen_as w v) words s
  within_seen s h = subst (λ (f : ℕ → ℕ). (x : ℕ) → (slot_at s x).released ≡ false → (IsReachable fields (word_in fields words) f x → ⊥) → ⊥) (sym same) h

  unnamed_seen : (s : State) → AreUnnamed w s → AreUnnamed (seen_as w v) s
  unnamed_seen s h = subst (λ (f : ℕ → ℕ). (x i : ℕ) → (slot_at s x).set ≡ Some i → f x ≡ 0) (sym same) h

  trial_seen : (p : Work) → TrialRests w words p → TrialRests (seen_as w v) words p
  trial_seen p h = record {
    before = h.before;
    loaded = h.loaded;
    run = h.run;
    trial = h.trial;
    at = h.at;
    marks = h.marks;
    blacks = h.blacks;
    finds = h.finds;
    offered = subst (λ (f : ℕ → ℕ). IsOffered fields (word_in fields words) f h.before) (sym same) h.offered;
    emptied = h.emptied;
    leaves = h.leaves;
  }

  prep_seen : (p : preps.Work) → PrepRests w words p → PrepRests (seen_as w v) words p
  prep_seen p h = record {
    before = h.before;
    before_kept = h.before_kept;
    loads = h.loads;
    prepares = h.prepares;
    are_loads = h.are_loads;
    counted = h.counted;
    back = h.back;
    found = found_seen h.before h.found;
    unnamed = unnamed_seen h.before h.unnamed;
  }

  sets_seen : (left : List ℕ) (s : State) → SetsRest w words left s → SetsRest (seen_as w v) words left s
  sets_seen left s h = record { unheld = h.unheld; found = found_seen s h.found; unnamed = unnamed_seen s h.unnamed }

  first_seen : (c : Private) (phase : Phase) → RestsIn Round.First w words c phase → RestsIn Round.First (seen_as w v) words c phase
  first_seen c (Trying trial) h = trial_seen _ h
  first_seen c (Preparing prep) h = prep_seen _ h
  first_seen c Opening h = sets_seen _ _ h
  first_seen c (Sweeping due n) h = sets_seen _ _ h
  first_seen c (Closing n) h = sets_seen _ _ h
  first_seen c _ h = h

  second_seen : (c : Private) (phase : Phase) → RestsIn Round.Second w words c phase → RestsIn Round.Second (seen_as w v) words c phase
  second_seen c Idle h = sets_seen _ _ h
  second_seen c (Looking t) h = sets_seen _ _ h
  second_seen c (Swapping t) h = sets_seen _ _ h
  second_seen c (Returning t) h = sets_seen _ _ h
  second_seen c (Releasing release) h = absurd h
  second_seen c (Freeing freeing) h = sets_seen _ _ h
  second_seen c _ h = within_seen c.counts h

  round_seen : (r : Round) (c : Private) (phase : Phase) → RestsIn r w words c phase → RestsIn r (seen_as w v) words c phase
  round_seen Round.First c phase h = first_seen c phase h
  round_seen Round.Second c phase h = second_seen c phase h
  round_seen Round.Over c phase h = within_seen c.counts h

-- So it goes over to a heap with the same numbers in which the same is held, as every turn leaves it that sweeps no slot, and every poll.
pub rests_seen : (r : Round) (w v : Core) → v.config ≡ w.config → holds (sight v) ≡ holds (sight w) → (words : List ℕ) (c : Private) (phase : Phase) → RestsIn r w words c phase → RestsIn r v words c phase
rests_seen r w v config same words c phase h =
    let is : v ≡ seen_as w v = ap (λ (x : Config). let y : Core = record v { config = x } in y) config in
    subst (λ (x : Core). RestsIn r x words c phase) (sym is) (round_seen w v same words r c phase h)

-- where a turn has come to is said of a heap with the same numbers in which the same is held
comes_seen : (r : Round) (w v : Core) → v.config ≡ w.config → holds (sight v) ≡ holds (sight w) → v.collector.collections ≡ w.collector.collections → (words : List ℕ) (q : Private) → ComesTo r w words q → ComesTo r v words q
comes_seen r w v config held collections words q (ComesTo.goes_on same h) = ComesTo.goes_on (same ∙ sym collections) (rests_seen r w v config held words q q.phase h)
comes_seen r w v config held collections words q (ComesTo.completes more idle h) = ComesTo.completes (more ∙ ap (λ n. n + 1) (sym collections)) idle (rests_seen (next_round r) w v config held words q Idle h)

-- as of the heap that a turn finds which applies the batch
pub comes_awaited : (r : Round) (w u : Core) → Awaits w u → (words : List ℕ) (q : Private) → ComesTo r u words q → ComesTo r w words q
comes_awaited r w u (Awaits.alone idle more left) words q comes = comes_seen r (requesting w) w refl refl refl words q comes
comes_awaited r w u (Awaits.last t is returns left) words q comes = comes_seen r (giving_back w t) w refl refl refl words q comes
