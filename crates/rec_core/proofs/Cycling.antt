-- What is known of the sets, over the moves of what is pending.
use Rattle.std.proofs.Common.{◌≡◌, ◌⊎◌, inl, inr, ℕ, ◌+◌, ◌-◌, ◌<◌, Bool, true, false, length, sym, ap, subst, ◌∙◌, arith}
use Rattle.std.specs.List.{concat}
use Rattle.std.proofs.lemmas.Bool.{cases_Bool, cases_lt}
use Rattle.std.proofs.lemmas.List.{get_or_past, get_or_default}
use Rattle.rec_core.proofs.Common.{IsAccounted, AccountMove, Pending, IsAfterLoads, IsAmongTests, State, slot_at, one, times, absent, fresh, Slot, move_fields, AreUnbuffered, Machine, Phase, Idle, Releasing, Freeing, Trying, Preparing, Opening, Sweeping, Closing, is_member, AreFields, IsLoading, AreSeen, HasCyclesAt}
use Rattle.rec_counts.specs.Counts.{IsKept as IsKeptCounts}
use Rattle.rec_trial.specs.Promised.{IsTrial}
use Rattle.rec_trial.proofs.Places.{ltb_yes}
use Rattle.rec_sigma.specs.Prepare as preps
use Rattle.rec_sigma.specs.Prepared as prepared
use Rattle.rec_collector.specs.Private.{Private}
use Rattle.rec_collector.specs.Kept.{IsMachine, IsAt, NoneReleased}
use Rattle.rec_collector.proofs.Following.{none_released}
use Rattle.rec_core.proofs.Counts.{slot_in}
use Rattle.rec_core.proofs.CyclesTest.{sets_test_moved}
use Rattle.rec_core.proofs.CyclesTrial.{trial_stands_moved}
use Rattle.rec_core.proofs.CyclesWait.{sets_stand_moved, sets_wait_moved}

-- no member of a set is given up
abbrev AreAlive : (released : ℕ → Bool) → State → Type 0
AreAlive released s = (node : ℕ) → 0 < node → is_member s node ≡ true → released node ≡ false

-- so while sets wait, and while they are prepared
abbrev pub AreAliveAt : (released : ℕ → Bool) → State → Phase → Type 0
AreAliveAt released s (Releasing m) = Unit {0}
AreAliveAt released s (Freeing m) = Unit {0}
AreAliveAt released s (Trying m) = Unit {0}
AreAliveAt released s _ = AreAlive released s

-- what is kept of a slot that isn't there is not released
unreleased_in : (s : State) (node : ℕ) → (node - 1 < length s.slots → (slot_at s (node - 1)).released ≡ false) → (slot_in s node).released ≡ false
unreleased_in s node there = elim (cases_lt (node - 1) (length s.slots)) [
  | inl below ↦ ap (λ (v : Slot). v.released) (get_or_default s.slots (node - 1) fresh absent below) ∙ there below
  | inr past ↦ ap (λ (v : Slot). v.released) (get_or_past s.slots (node - 1) fresh past)
]

-- where no slot is released
pub none_alive : (s : State) → NoneReleased s → AreAlive (λ node. (slot_in s node).released) s
none_alive s none node pos member = unreleased_in s node (none (node - 1))

-- where what is released is in the free list, whose slots are in no buffer
listed_alive : (s : State) → IsKeptCounts s → ((x : ℕ) → x < length s.slots → (slot_at s x).released ≡ true → 0 < times x s.free) → AreUnbuffered s → AreAlive (λ node. (slot_in s node).released) s
listed_alive s k listed unbuffered node pos member = unreleased_in s node (λ below. go (cases_Bool (slot_at s (node - 1)).released) below)
  where
    there : 0 < times (node - 1) (concat s.sets)
    there = ltb_yes 0 (times (node - 1) (concat s.sets)) member

    go : ((slot_at s (node - 1)).released ≡ true) ⊎ ((slot_at s (node - 1)).released ≡ false) → node - 1 < length s.slots → (slot_at s (node - 1)).released ≡ false
    go (inr not_so) below = not_so
    go (inl is) below =
        let free : (slot_at s (node - 1)).buffered ≡ false = unbuffered (node - 1) (listed (node - 1) below is) in
        absurd (omega (arith, there, k.buffers (node - 1), ap one free))

-- no machine releases a member before the next batch
pub machine_alive : (c : Private) (phase : Phase) → IsMachine c → IsAt c phase → AreAliveAt (λ node. (slot_in c.counts node).released) c.counts phase
machine_alive c Idle m now = none_alive c.counts (none_released now.0)
machine_alive c (Releasing release) m now = tt
machine_alive c (Freeing freeing) m now = tt
machine_alive c (Trying trial) m now = tt
machine_alive c (Preparing prep) m now = listed_alive c.counts m.counts now.tried.listed now.tried.unbuffered
machine_alive c Opening m now = listed_alive c.counts m.counts now.0.tried.listed now.0.tried.unbuffered
machine_alive c (Sweeping due n) m now = listed_alive c.counts m.counts now.0.tried.listed now.0.tried.unbuffered
machine_alive c (Closing n) m now = listed_alive c.counts m.counts now.0.tried.listed now.0.tried.unbuffered
machine_alive c _ m now = none_alive c.counts (none_released now.rest)

-- a trial at work
loading_moved : {w v : Pending} (s : State) (trial : Machine) (m : AccountMove w v) → IsAfterLoads m → IsAccounted w → IsLoading w s trial → IsLoading v s trial
loading_moved {w} {v} s trial m after i l = record {
  before = l.before;
  words = l.words;
  run = l.run;
  trial = subst (λ f. IsTrial f l.before l.words l.run) (sym (move_fields m)) l.trial;
  at = l.at;
  stands = trial_stands_moved l.run m after i l.stands;
}

-- sets that are prepared
seen_moved : {w v : Pending} (s : State) (prep : preps.Machine) (m : AccountMove w v) → IsAfterLoads m → IsAccounted w → AreAlive w.released s → AreSeen w s prep → AreSeen v s prep
seen_moved {w} {v} s prep m after i alive l = record {
  before = l.before;
  before_kept = l.before_kept;
  loads = l.loads;
  prepares = subst (λ f. prepared.PreparedTo f l.before prep.at s l.loads) (sym (move_fields m)) l.prepares;
  fields = subst (λ f. AreFields f l.loads) (sym (move_fields m)) l.fields;
  stands = sets_stand_moved s l.loads m after i alive l.stands;
}

-- What is known of the sets is kept by the moves that mutators make. A move that may not be made while sets are tested is one that is
-- made before the batch.
pub cycles_moved : {w v : Pending} (c : Private) (phase : Phase) (m : AccountMove w v) → IsAfterLoads m → (w.applied + 1 ≡ w.requested → IsAmongTests m) → IsAccounted w → AreAliveAt w.released c.counts phase → HasCyclesAt w c phase → HasCyclesAt v c phase
cycles_moved c (Releasing release) m after among i alive h = sets_test_moved c.counts m (among h.testing.done) i h
cycles_moved c (Freeing freeing) m after among i alive h = sets_test_moved c.counts m (among h.testing.done) i h
cycles_moved c (Trying trial) m after among i alive h = loading_moved c.counts trial m after i h
cycles_moved c (Preparing prep) m after among i alive h = seen_moved c.counts prep m after i alive h
cycles_moved c _ m after among i alive h = sets_wait_moved c.counts m after i alive h
