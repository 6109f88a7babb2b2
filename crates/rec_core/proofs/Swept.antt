-- What a turn of the collector shows of its sweep.
use Rattle.std.proofs.Common.{◌≡◌, ℕ, zero, suc, ◌+◌, ◌-◌, ◌%◌, ◌^◌, ◌<◌, Bool, false, true, Option, None, Some, length, slice_index_or, refl, sym, ap, subst, ◌∙◌, arith}
use Rattle.std.proofs.lemmas.Bool.{eq-eqb, true≢false}
use Rattle.rec_core.proofs.Common.{noted, requested, place_of, Op, Contents, IsTaken, State, slot_at, At, Member, prep_started, relieved_at, with_freed, with_released, Parts, new_freeing, new_release, parts_of, ClearsOn, IsTested, TriesOn, PreparesOn, Begun, freeing_at, releasing_at, batched, step_of, turn_of, Phase, Turn, cell, with_cell, Core, cells_of, sight, box, one_if_sweeping, IsSomeSwept, IsKept, looked_at, collected, turned, pending}
use Rattle.rec_word.specs.Op.{written}
use Rattle.rec_word.specs.declared.op.Op.TheVariants as ops
use Rattle.rec_release.specs.CycleFree as frees
use Rattle.rec_release.specs.CycleFree.{next_of as freeing_next, op_at as freeing_op_at}
use Rattle.rec_release.specs.Release as releases
use Rattle.rec_release.specs.Release.{next_of as release_next, op_at as release_op_at}
use Rattle.rec_release.specs.Sweep as sweeps
use Rattle.rec_sigma.specs.Prepare as preps
use Rattle.rec_trial.specs.Trial as trials
use Rattle.rec_collector.specs.Kept.{swept_at}
use Rattle.rec_collector.specs.Next.{next_of}
use Rattle.rec_collector.specs.Private.{Private}
use Rattle.rec_collector.specs.Step.{Step}
use Rattle.rec_core.specs.Swept.{SweepsNothing, IsSweep}
use Rattle.rec_core.proofs.PlainWords.{crosses_none}
use Rattle.rec_core.proofs.Preparing.{loads_due}
use Rattle.rec_core.proofs.Reach.{released_unreached}
use Rattle.rec_core.proofs.Runs.{rule_of}
use Rattle.rec_core.proofs.Steps.{slot_there}
use Rattle.rec_core.proofs.Sweeping.{swept_below, due_released}
use Rattle.rec_core.proofs.Trying.{loads_child}
use Rattle.rec_core.proofs.Turning.{some_op, freed_more, turn_case}

-- a slot that was given up holds an object
released_taken : (w : Core) (x : ℕ) → IsKept true w → x < w.config.slots → (slot_at w.collector.counts x).released ≡ true → IsTaken (sight w) x
released_taken w x kept below released = go (slice_index_or w.headers x 0) refl
  where
    one_less : x + 1 - 1 ≡ x
    one_less = omega arith

    go : (header : ℕ) → slice_index_or w.headers x 0 ≡ header → 0 < slice_index_or w.headers x 0
    go zero none =
        let free : (pending w).free (x + 1) ≡ true = eq-eqb (slice_index_or w.headers (x + 1 - 1) 0) 0 (ap (λ n. slice_index_or w.headers n 0) one_less ∙ none) in
        absurd (true≢false (sym released ∙ ap (λ s. s.released) (sym (slot_there w kept x below)) ∙ kept.accounted.apart (x + 1) (omega arith) free))
    go (suc n) some = omega (arith, some)

-- no header and no freed word changed, and no slot of a sweep is told
rests_by : (w : Core) (op o : Op) (word : ℕ) (q : Private) (left : Contents) → op ≡ o → (with_cell (cells_of w) o (written o word)).headers ≡ w.headers → (with_cell (cells_of w) o (written o word)).freed ≡ w.freed
    → (0 < swept_at q.phase → 0 < swept_at w.collector.phase) → next_of w.collector ≡ Some op → SweepsNothing (Some o) → IsSweep w (collected w op word q left)
rests_by w op o word q left its headers freed more names nothing = IsSweep.rests (subst SweepsNothing (sym (names ∙ ap (λ i. Some i) its)) nothing) (ap (λ i. (with_cell (cells_of w) i (written i word)).headers) its ∙ headers) (ap (λ i. (with_cell (cells_of w) i (written i word)).freed) its ∙ freed) more

-- no slot of a sweep is told
none_told : (w : Core) (q : Private) → swept_at q.phase ≡ 0 → 0 < swept_at q.phase → 0 < swept_at w.collector.phase
none_told w q none more = absurd (omega (arith, none, more))

-- a preparation tells none, a trial tells none, and no test tells one
preparation_told : (p : Private) (w : Parts) (v : preps.Work) (q : Private) (turn : Turn) → PreparesOn p w v q turn → swept_at q.phase ≡ 0
preparation_told p w v q turn (PreparesOn.more some g) = ap (λ c. swept_at c.phase) g.after
preparation_told p w v q turn (PreparesOn.sweeps_next none some g) = ap (λ c. swept_at c.phase) g.after
preparation_told p w v q turn (PreparesOn.completes none empty e) = ap (λ c. swept_at c.phase) e.after

trial_told : (p : Private) (w : Parts) (v : trials.Work) (q : Private) (turn : Turn) → TriesOn p w v q turn → swept_at q.phase ≡ 0
trial_told p w v q turn (TriesOn.more some g) = ap (λ c. swept_at c.phase) g.after
trial_told p w v q turn (TriesOn.prepares none on) = let u : Parts = record w { counts = v.counts } in preparation_told p u (prep_started u) q turn on

-- nor does what was begun between a batch and a trial
abbrev TellsNone : Option Phase → Type 0
TellsNone None = Unit {0}
TellsNone (Some phase) = swept_at phase ≡ 0

release_tells : (m : releases.Machine) (at : Option At) → TellsNone (releasing_at m at)
release_tells m None = tt
release_tells m (Some a) = refl

freeing_tells : (m : frees.Machine) (at : Option Member) → TellsNone (freeing_at m at)
freeing_tells m None = tt
freeing_tells m (Some a) = refl

zeros_tell : (lowers : Bool) (fields : ℕ) (s : State) → TellsNone (releasing_at (releases.started_of (new_release fields) lowers s).machine (releases.started_of (new_release fields) lowers s).machine.at)
zeros_tell lowers fields s = let v : releases.Work = releases.started_of (new_release fields) lowers s in release_tells v.machine v.machine.at

released_tells : (m : releases.Machine) (w : Parts) (word : ℕ) → TellsNone (with_released m w word).phase
released_tells m w word = let v : releases.Work = releases.took_of (record { machine = m; counts = w.counts }) word in release_tells v.machine v.machine.at

relieved_tells : (w : Parts) (m : frees.Machine) (at : Option Member) → TellsNone (relieved_at w m at).phase
relieved_tells w m None = zeros_tell true w.fields w.counts
relieved_tells w m (Some a) = refl

freed_tells : (m : frees.Machine) (w : Parts) (word : ℕ) → TellsNone (with_freed m w word).phase
freed_tells m w word = let v : frees.Work = frees.took_of (record { machine = m; counts = w.counts }) word in relieved_tells (record w { counts = v.counts }) v.machine v.machine.at

tested_tells : (w : Parts) (v : Begun) → IsTested w v → TellsNone v.phase
tested_tells w v (IsTested.passes orange none is) = let u : frees.Work = frees.started_of (new_freeing w.fields) w.counts in subst (λ (c : Begun). TellsNone c.phase) (sym is) (freeing_tells u.machine u.machine.at)
tested_tells w v (IsTested.fails_delta s not last is) = subst (λ (c : Begun). TellsNone c.phase) (sym is) (zeros_tell true w.fields s)
tested_tells w v (IsTested.fails_sigma s orange some last is) = subst (λ (c : Begun). TellsNone c.phase) (sym is) (zeros_tell true w.fields s)

test_told : (p q : Private) (turn : Turn) (b : Begun) → TellsNone b.phase → ClearsOn p q turn b → swept_at q.phase ≡ 0
test_told p q turn b tells (ClearsOn.works phase at g) = ap (λ c. swept_at c.phase) g.after ∙ subst TellsNone at tells
test_told p q turn b tells (ClearsOn.tests c none some tested on) = test_told p q turn c (tested_tells b.parts c tested) on
test_told p q turn b tells (ClearsOn.tries none empty due on) = trial_told p _ _ q turn on
test_told p q turn b tells (ClearsOn.waits none empty off on) = preparation_told p _ _ q turn on

-- and none of them sweeps a slot
pub preparation_sweeps : {p : Private} {w : Parts} {v : preps.Work} {q : Private} {turn : Turn} → PreparesOn p w v q turn → q.freed ≡ p.freed
preparation_sweeps (PreparesOn.more some g) = ap (λ (c : Private). c.freed) g.after
preparation_sweeps (PreparesOn.sweeps_next none some g) = ap (λ (c : Private). c.freed) g.after
preparation_sweeps (PreparesOn.completes none empty e) = ap (λ (c : Private). c.freed) e.after

pub trial_sweeps : {p : Private} {w : Parts} {v : trials.Work} {q : Private} {turn : Turn} → TriesOn p w v q turn → q.freed ≡ p.freed
trial_sweeps (TriesOn.more some g) = ap (λ (c : Private). c.freed) g.after
trial_sweeps (TriesOn.prepares none on) = preparation_sweeps on

pub test_sweeps : {p q : Private} {turn : Turn} {b : Begun} → ClearsOn p q turn b → q.freed ≡ p.freed
test_sweeps (ClearsOn.works phase begun g) = ap (λ (c : Private). c.freed) g.after
test_sweeps (ClearsOn.tests c none some tested on) = test_sweeps on
test_sweeps (ClearsOn.tries none empty due on) = trial_sweeps on
test_sweeps (ClearsOn.waits none empty off on) = preparation_sweeps on

-- the freed word goes up by one
freed_by : (w : Core) (op : Op) (word : ℕ) → IsKept true w → word ≡ cell (cells_of w) op → op ≡ ops.AddFreed → (with_cell (cells_of w) op (written op word)).freed ≡ w.freed + 1
freed_by w op word kept found its =
    let was : word ≡ w.freed = found ∙ ap (cell (cells_of w)) its in
    ap (λ i. (with_cell (cells_of w) i (written i word)).freed) its ∙ ap (λ n. (n + 1) % 2 ^ 64) was ∙ freed_more w kept

-- each rule
rule_sweeps : (w : Core) (op : Op) (word : ℕ) (q : Private) (turn : Turn) (left : Contents) → IsKept true w → next_of w.collector ≡ Some op → word ≡ cell (cells_of w) op → Step w.collector word (box w (looked_at w.collector.phase)) (Some op) q turn
    → IsSweep w (collected w op word q left)
unfolding release_next freeing_next sweeps.next_of
rule_sweeps w op word q turn left kept names found (Step.spent idle last none same answer) = let not_so : ◌≡◌ {A = Option Op} (Some op) None = none in absurd (cc)
rule_sweeps w op word q turn left kept names found (Step.request next idle more named n g) =
    rests_by w op (ops.StoreEpoch (w.collector.epoch + 1)) word q left (some_op op (ops.StoreEpoch (w.collector.epoch + 1)) named) refl refl (none_told w q (ap (λ c. swept_at c.phase) g.after)) names tt
rule_sweeps w op word q turn left kept names found (Step.request_alone idle more named gone on) =
    rests_by w op (ops.StoreEpoch (w.collector.epoch + 1)) word q left (some_op op (ops.StoreEpoch (w.collector.epoch + 1)) named) refl refl (none_told w q (test_told (requested w.collector) q turn _ (zeros_tell false (batched w.collector).fields (batched w.collector).counts) on)) names tt
rule_sweeps w op word q turn left kept names found (Step.wait t looking other named same answer) =
    rests_by w op (ops.LookBox t w.collector.epoch) word q left (some_op op (ops.LookBox t w.collector.epoch) named) refl refl (none_told w q (ap (λ c. swept_at c.phase) same ∙ ap swept_at looking)) names tt
rule_sweeps w op word q turn left kept names found (Step.gather t looking crossed named g) =
    rests_by w op (ops.LookBox t w.collector.epoch) word q left (some_op op (ops.LookBox t w.collector.epoch) named) refl refl (none_told w q (ap (λ c. swept_at c.phase) g.after)) names tt
rule_sweeps w op word q turn left kept names found (Step.cross_for t next looking crosses named n g) = absurd (crosses_none w t kept looking op word named found crosses)
rule_sweeps w op word q turn left kept names found (Step.cross_for_last t looking crosses named gone on) = absurd (crosses_none w t kept looking op word named found crosses)
rule_sweeps w op word q turn left kept names found (Step.give_back t next returning named n g) =
    rests_by w op (ops.ReturnBox t w.collector.epoch) word q left (some_op op (ops.ReturnBox t w.collector.epoch) named) refl refl (none_told w q (ap (λ c. swept_at c.phase) g.after)) names tt
rule_sweeps w op word q turn left kept names found (Step.apply t returning named gone on) =
    rests_by w op (ops.ReturnBox t w.collector.epoch) word q left (some_op op (ops.ReturnBox t w.collector.epoch) named) refl refl (none_told w q (test_told (noted w.collector t) q turn _ (zeros_tell false (batched w.collector).fields (batched w.collector).counts) on)) names tt
rule_sweeps w op word q turn left kept names found (Step.release m releasing named on) = go m.at refl
  where
    go : (x : Option At) → m.at ≡ x → IsSweep w (collected w op word q left)
    go None at = let not_so : ◌≡◌ {A = Option Op} (Some op) None = named ∙ ap (release_op_at m.fields) at in absurd (cc)
    go (Some a) at =
        let place : ℕ = place_of a.slot a.field m.fields in
        let its : op ≡ ops.ClearField place = some_op op (ops.ClearField place) (named ∙ ap (release_op_at m.fields) at) in
        rests_by w op (ops.ClearField place) word q left its refl refl (none_told w q (test_told w.collector q turn _ (released_tells m (parts_of w.collector) word) on)) names tt
rule_sweeps w op word q turn left kept names found (Step.freeing m freeing named on) = go m.at refl
  where
    go : (x : Option Member) → m.at ≡ x → IsSweep w (collected w op word q left)
    go None at = let not_so : ◌≡◌ {A = Option Op} (Some op) None = named ∙ ap (freeing_op_at m.fields) at in absurd (cc)
    go (Some a) at =
        let place : ℕ = place_of a.slot a.field m.fields in
        let its : op ≡ ops.ClearField place = some_op op (ops.ClearField place) (named ∙ ap (freeing_op_at m.fields) at) in
        rests_by w op (ops.ClearField place) word q left its refl refl (none_told w q (test_told w.collector q turn _ (freed_tells m (parts_of w.collector) word) on)) names tt
rule_sweeps w op word q turn left kept names found (Step.trial m trying named on) =
    let (place, its) = loads_child m op named in
    rests_by w op (ops.LoadChild place) word q left its refl refl (none_told w q (trial_told w.collector _ _ q turn on)) names tt
rule_sweeps w op word q turn left kept names found (Step.preparation m preparing named on) =
    let (a, at, its) = loads_due m op (sym named) in
    rests_by w op (ops.LoadChild (place_of a.member.slot a.member.field m.fields)) word q left its refl refl (none_told w q (preparation_told w.collector _ _ q turn on)) names tt
rule_sweeps w op word q turn left kept names found (Step.begin_sweep opening named g) =
    let its : op ≡ ops.AddFreed = some_op op ops.AddFreed named in
    let none : one_if_sweeping w.collector.phase ≡ 0 = ap one_if_sweeping opening in
    let even : w.freed % 2 ≡ one_if_sweeping w.collector.phase = kept.sweeps.odd in
    IsSweep.marks (names ∙ ap (λ i. Some i) its) (ap (λ i. (with_cell (cells_of w) i (written i word)).headers) its) (freed_by w op word kept found its) (λ (odd : w.freed % 2 ≡ 1). absurd (omega (arith, odd, even, none))) (ap (λ c. swept_at c.phase) g.after)
rule_sweeps w op word q turn left kept names found (Step.sweep None swept u next sweeping named took follows g) = let not_so : ◌≡◌ {A = Option Op} (Some op) None = named in absurd (cc)
rule_sweeps w op word q turn left kept names found (Step.sweep (Some x) swept u next sweeping named took follows g) =
    let its : op ≡ ops.FreeHeader x = some_op op (ops.FreeHeader x) named in
    let below : x < w.config.slots = swept_below w swept x kept sweeping in
    let released : (slot_at w.collector.counts x).released ≡ true = due_released w swept x kept sweeping in
    let headers : length w.headers ≡ w.config.slots = kept.headers in
    IsSweep.frees x (names ∙ ap (λ i. Some i) its) (omega (arith, below, headers)) (released_taken w x kept below released) (λ from. released_unreached w x x kept released from refl) (kept.sweeps.odd ∙ ap one_if_sweeping sweeping)
    (ap (λ i. (with_cell (cells_of w) i (written i word)).headers) its) (ap (λ i. (with_cell (cells_of w) i (written i word)).freed) its)
rule_sweeps w op word q turn left kept names found (Step.end_sweep swept closing named e) =
    let its : op ≡ ops.AddFreed = some_op op ops.AddFreed named in
    let some : 0 < swept = subst IsSomeSwept closing kept.sweeps.some in
    let told : swept_at w.collector.phase ≡ swept = ap swept_at closing in
    IsSweep.marks (names ∙ ap (λ i. Some i) its) (ap (λ i. (with_cell (cells_of w) i (written i word)).headers) its) (freed_by w op word kept found its) (λ odd. omega (arith, some, told)) (ap (λ c. swept_at c.phase) e.after)

-- A turn frees nothing, or begins or ends a sweep, or frees a slot.
pub turned_sweeps : (w : Core) → IsKept true w → IsSweep w (turned w)
turned_sweeps w kept = turn_case w (λ o v. IsSweep w v) (λ none. IsSweep.rests (subst SweepsNothing (sym none) tt) refl refl (λ more. more)) (λ op named.
    let word : ℕ = cell (cells_of w) op in
    rule_sweeps w op word (step_of w.collector word (box w (looked_at w.collector.phase))) (turn_of w.collector word) _ kept named refl (rule_of w op kept named))
