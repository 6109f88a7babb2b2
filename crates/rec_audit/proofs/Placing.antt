-- Where a collector stands in a journal behind each of its steps, rule by rule.
use Rattle.std.proofs.Common.{◌≡◌, ℕ, ◌+◌, ◌-◌, ◌≤◌, if◌then◌else◌, Bool, true, false, List, Option, None, Some, refl, sym, ap, subst, ◌∙◌, arith}
use Rattle.std.proofs.lemmas.Bool.{false≢true}
use Rattle.rec_word.specs.declared.op.Op.{Op}
use Rattle.rec_log.specs.declared.contents.Contents.{Contents}
use Rattle.rec_counts.specs.Counts.{State}
use Rattle.rec_word.specs.declared.member.Member.{Member}
use Rattle.rec_release.specs.CycleFree as frees
use Rattle.rec_release.specs.Release as releases
use Rattle.rec_release.specs.declared.at.At.{At}
use Rattle.rec_sigma.specs.Prepare as preps
use Rattle.rec_trial.specs.Trial as trials
use Rattle.rec_collector.specs.Followed.{relieved_at, with_freed}
use Rattle.rec_collector.specs.Kept.{under_way}
use Rattle.rec_collector.specs.Parts.{Parts, new_freeing, new_release}
use Rattle.rec_collector.specs.Private.{Private, parts_of}
use Rattle.rec_collector.specs.Shown.{Batch, batch_made}
use Rattle.rec_collector.specs.Step.{ClearsOn, Ends, GoesOn, IsNext, IsTested, PreparesOn, Step, TriesOn}
use Rattle.rec_collector.specs.Testing.{Begun, freeing_at, releasing_at}
use Rattle.rec_collector.specs.Took.{batched, noted, requested}
use Rattle.rec_collector.specs.declared.phase.Phase.{Phase}
use Rattle.rec_collector.specs.declared.phase.Phase.TheVariants.{Freeing, Idle, Looking, Opening, Preparing, Releasing, Returning, Swapping, Trying}
use Rattle.rec_collector.specs.declared.turn.Turn.{Turn}
use Rattle.rec_audit.specs.Logged.{last_batch}
use Rattle.rec_collector.specs.Took.{crossed_for}
use Rattle.rec_core.specs.Pending.{applied_at, has_batched}
use Rattle.rec_audit.specs.Keeping.{with_batch}
use Rattle.rec_audit.specs.Runs.{place_of}

-- no mailbox is looked at or held: a step that left this phase worked on a batch, unless it only requested an epoch
abbrev pub worked_in : Phase → Bool
worked_in Idle = true
worked_in phase = has_batched phase

-- ---- what a step that works on a batch leaves

record Worked (p q : Private) : Type 0 where
  epoch : q.epoch ≡ p.epoch
  phase : worked_in q.phase ≡ true
  last : last_batch q ≡ p.newer

works_worked : (phase : Phase) → has_batched phase ≡ true → worked_in phase ≡ true
works_worked Idle is = refl
works_worked (Looking t) is = is
works_worked (Swapping t) is = is
works_worked (Returning t) is = is
works_worked phase is = is

going : (p : Private) {r q : Private} {turn : Turn} {next : Phase} → r.epoch ≡ p.epoch → r.newer ≡ p.newer → has_batched next ≡ true → GoesOn r q turn next → Worked p q
going p {r} {q} {turn} {next} same newer is g = record {
  epoch = ap (λ (x : Private). x.epoch) g.after ∙ same;
  phase = ap (λ (x : Private). worked_in x.phase) g.after ∙ works_worked next is;
  last = ap last_batch g.after ∙ ap (λ b. if b then r.newer else r.older) is ∙ newer;
}

ending : (p : Private) {r q : Private} {turn : Turn} {swept : ℕ} → r.epoch ≡ p.epoch → r.newer ≡ p.newer → Ends r q turn swept → Worked p q
ending p same newer e = record { epoch = ap (λ (x : Private). x.epoch) e.after ∙ same; phase = ap (λ (x : Private). worked_in x.phase) e.after; last = ap last_batch e.after ∙ newer }

prepares : (p q : Private) (turn : Turn) (w : Parts) (v : preps.Work) → PreparesOn p w v q turn → Worked p q
prepares p q turn w v (PreparesOn.more due on) = going p refl refl refl on
prepares p q turn w v (PreparesOn.sweeps_next none some on) = going p refl refl refl on
prepares p q turn w v (PreparesOn.completes none free on) = ending p refl refl on

tries : (p q : Private) (turn : Turn) (w : Parts) (v : trials.Work) → TriesOn p w v q turn → Worked p q
tries p q turn w v (TriesOn.more due on) = going p refl refl refl on
tries p q turn w v (TriesOn.prepares none on) = prepares p q turn _ _ on

-- what was begun, if something was, is a release or a freeing
abbrev IsBegun : Option Phase → Type 0
IsBegun None = Unit {0}
IsBegun (Some phase) = has_batched phase ≡ true

release_begun : (m : releases.Machine) (at : Option At) → IsBegun (releasing_at m at)
release_begun m None = tt
release_begun m (Some a) = refl

freeing_begun : (m : frees.Machine) (at : Option Member) → IsBegun (freeing_at m at)
freeing_begun m None = tt
freeing_begun m (Some a) = refl

zeros_begun : (lowers : Bool) (fields : ℕ) (s : State) → (let v : releases.Work = releases.started_of (new_release fields) lowers s in IsBegun (releasing_at v.machine v.machine.at))
zeros_begun lowers fields s = let v : releases.Work = releases.started_of (new_release fields) lowers s in release_begun v.machine v.machine.at

tested_begun : (w : Parts) (c : Begun) → IsTested w c → IsBegun c.phase
tested_begun w c (IsTested.passes orange none is) = let v : frees.Work = frees.started_of (new_freeing w.fields) w.counts in subst (λ (b : Begun). IsBegun b.phase) (sym is) (freeing_begun v.machine v.machine.at)
tested_begun w c (IsTested.fails_delta s touched r is) = subst (λ (b : Begun). IsBegun b.phase) (sym is) (zeros_begun true w.fields s)
tested_begun w c (IsTested.fails_sigma s orange more r is) = subst (λ (b : Begun). IsBegun b.phase) (sym is) (zeros_begun true w.fields s)

clears : (p q : Private) (turn : Turn) (b : Begun) → IsBegun b.phase → ClearsOn p q turn b → Worked p q
clears p q turn b begun (ClearsOn.works phase is on) = going p refl refl (subst IsBegun is begun) on
clears p q turn b begun (ClearsOn.tests c none some test on) = clears p q turn c (tested_begun b.parts c test) on
clears p q turn b begun (ClearsOn.tries none sets due on) = tries p q turn _ _ on
clears p q turn b begun (ClearsOn.waits none sets off on) = prepares p q turn _ _ on

freed_begun : (m : frees.Machine) (w : Parts) (word : ℕ) → IsBegun (with_freed m w word).phase
unfolding frees.took_of
freed_begun m w word =
    let v : frees.Work = frees.took_of (record { machine = m; counts = w.counts }) word in
    go (record w { counts = v.counts }) v.machine v.machine.at
  where
    go : (u : Parts) (n : frees.Machine) (at : Option Member) → IsBegun (relieved_at u n at).phase
    go u n None = zeros_begun true u.fields u.counts
    go u n (Some a) = refl

-- ---- places

-- the epoch of the last batch where no mailbox is looked at or held
applied_worked : (epoch : ℕ) (phase : Phase) → worked_in phase ≡ true → applied_at epoch phase ≡ epoch - 1
applied_worked epoch Idle is = refl
applied_worked epoch (Looking t) is = absurd (let no : false ≡ true = is in cc)
applied_worked epoch (Swapping t) is = absurd (let no : false ≡ true = is in cc)
applied_worked epoch (Returning t) is = absurd (let no : false ≡ true = is in cc)
applied_worked epoch _ is = refl

-- the buffers of the last batch behind a step
abbrev last_of : Private → Option Batch → List Contents
last_of p None = last_batch p
last_of p (Some batch) = batch.newer

-- where the collector stands behind a step, but for the end of a collection
pub record Placed (p : Private) (batch : Option Batch) (q : Private) : Type 0 where
  pub next : (with_batch (place_of p) batch).next ≡ applied_at q.epoch q.phase + 1
  pub working : (with_batch (place_of p) batch).working ≡ worked_in q.phase
  pub last : last_batch q ≡ last_of p batch

-- a step on a batch that was applied before
works : (p q : Private) → has_batched p.phase ≡ true → Worked p q → Placed p None q
works p q is done = record {
  next = ap (λ e. e + 1) (applied_worked p.epoch p.phase (works_worked p.phase is) ∙ ap (λ e. e - 1) (sym done.epoch) ∙ sym (applied_worked q.epoch q.phase done.phase));
  working = is ∙ sym done.phase;
  last = done.last ∙ sym (ap (λ b. if b then p.newer else p.older) is);
}

-- the step that applies one
applies : (p r q : Private) (epoch : ℕ) → r.epoch ≡ epoch + 1 → Worked r q → Placed p (Some (record { epoch = epoch; newer = r.newer })) q
applies p r q epoch is done = record {
  next = (let same : q.epoch - 1 ≡ epoch = omega (arith, done.epoch, is) in ap (λ e. e + 1) (sym same ∙ sym (applied_worked q.epoch q.phase done.phase)));
  working = sym done.phase;
  last = done.last;
}

-- a step in a gathering
gathers : (p q : Private) → has_batched p.phase ≡ false → worked_in q.phase ≡ false → applied_at q.epoch q.phase ≡ applied_at p.epoch p.phase → q.older ≡ p.older → Placed p None q
gathers p q before after same older = record {
  next = ap (λ e. e + 1) (sym same);
  working = before ∙ sym after;
  last = ap (λ b. if b then q.newer else q.older) (waits q.phase after) ∙ older ∙ sym (ap (λ b. if b then p.newer else p.older) before);
}
  where
    waits : (phase : Phase) → worked_in phase ≡ false → has_batched phase ≡ false
    waits Idle is = refl
    waits (Looking t) is = refl
    waits (Swapping t) is = refl
    waits (Returning t) is = refl
    waits phase is = is

-- epochs have begun, and another one with each collection
abbrev pub HasBegun : Private → Type 0
HasBegun p = 1 + under_way p.phase ≤ p.epoch

-- each rule
pub step_placed : {p q : Private} {word : ℕ} {b : Contents} {op : Op} {turn : Turn} → HasBegun p → (s : Step p word b (Some op) q turn) → Placed p (batch_made s) q
step_placed {p} {q} begun (Step.spent idle last is same answer) = let no : ◌≡◌ {A = Option Op} (Some _) None = is in absurd (cc)
step_placed {p} {q} begun (Step.request next idle more is present g) =
    let epoch : q.epoch ≡ p.epoch + 1 = ap (λ (x : Private). x.epoch) g.after in
    let phase : q.phase ≡ Looking next = ap (λ (x : Private). x.phase) g.after in
    gathers p q (ap has_batched idle) (ap worked_in phase)
    (ap (applied_at q.epoch) phase ∙ (let same : q.epoch - 2 ≡ p.epoch - 1 = omega (arith, epoch) in same) ∙ sym (ap (applied_at p.epoch) idle))
    (ap (λ (x : Private). x.older) g.after)
step_placed {p} {q} begun (Step.request_alone idle more is alone on) = applies p (requested p) q p.epoch refl (clears (requested p) q _ _ (zeros_begun false p.fields (batched (requested p)).counts) on)
step_placed {p} {q} begun (Step.wait t looks other is same answer) =
    let phase : q.phase ≡ Looking t = ap (λ (x : Private). x.phase) same ∙ looks in
    gathers p q (ap has_batched looks) (ap worked_in phase) (ap (λ (x : Private). applied_at x.epoch x.phase) same) (ap (λ (x : Private). x.older) same)
step_placed {p} {q} begun (Step.gather t looks word_is is g) =
    let phase : q.phase ≡ Returning t = ap (λ (x : Private). x.phase) g.after in
    gathers p q (ap has_batched looks) (ap worked_in phase) (ap (λ (x : Private). applied_at x.epoch x.phase) g.after ∙ sym (ap (applied_at p.epoch) looks)) (ap (λ (x : Private). x.older) g.after)
step_placed {p} {q} begun (Step.cross_for t next looks crosses is present g) =
    let phase : q.phase ≡ Looking next = ap (λ (x : Private). x.phase) g.after in
    gathers p q (ap has_batched looks) (ap worked_in phase) (ap (λ (x : Private). applied_at x.epoch x.phase) g.after ∙ sym (ap (applied_at p.epoch) looks)) (ap (λ (x : Private). x.older) g.after)
step_placed {p} {q} begun (Step.cross_for_last t looks crosses is left on) =
    let some : 1 + under_way p.phase ≤ p.epoch = begun in
    let one : under_way p.phase ≡ 1 = ap under_way looks in
    applies p (crossed_for p t) q (p.epoch - 1) (omega arith) (clears (crossed_for p t) q _ _ (zeros_begun false p.fields (batched (crossed_for p t)).counts) on)
step_placed {p} {q} begun (Step.give_back t next returning is present g) =
    let phase : q.phase ≡ Looking next = ap (λ (x : Private). x.phase) g.after in
    gathers p q (ap has_batched returning) (ap worked_in phase) (ap (λ (x : Private). applied_at x.epoch x.phase) g.after ∙ sym (ap (applied_at p.epoch) returning)) (ap (λ (x : Private). x.older) g.after)
step_placed {p} {q} begun (Step.apply t returning is left on) =
    let some : 1 + under_way p.phase ≤ p.epoch = begun in
    let one : under_way p.phase ≡ 1 = ap under_way returning in
    applies p (noted p t) q (p.epoch - 1) (omega arith) (clears (noted p t) q _ _ (zeros_begun false p.fields (batched (noted p t)).counts) on)
step_placed {p} {q} {word} begun (Step.release m releasing is on) = works p q (ap has_batched releasing) (let v : releases.Work = releases.took_of (record { machine = m; counts = p.counts }) word in clears p q _ _ (release_begun v.machine v.machine.at) on)
step_placed {p} {q} {word} begun (Step.freeing m freeing is on) = works p q (ap has_batched freeing) (clears p q _ _ (freed_begun m (parts_of p) word) on)
step_placed {p} {q} begun (Step.trial m trying is on) = works p q (ap has_batched trying) (tries p q _ _ _ on)
step_placed {p} {q} begun (Step.preparation m preparing is on) = works p q (ap has_batched preparing) (prepares p q _ _ _ on)
step_placed {p} {q} begun (Step.begin_sweep opening is g) = works p q (ap has_batched opening) (going p refl refl refl g)
step_placed {p} {q} begun (Step.sweep due swept w phase sweeping is which next g) = works p q (ap has_batched sweeping) (going p refl refl (sweeping_on next) g)
  where
    sweeping_on : IsNext swept w phase → has_batched phase ≡ true
    sweeping_on (IsNext.more some is) = ap has_batched is
    sweeping_on (IsNext.last none is) = ap has_batched is
step_placed {p} {q} begun (Step.end_sweep swept closing is e) = works p q (ap has_batched closing) (ending p refl refl e)

-- ---- before the sweep

-- no slot of the collection under way was swept
abbrev pub is_unswept : Phase → Bool
is_unswept (Releasing m) = true
is_unswept (Freeing m) = true
is_unswept (Trying m) = true
is_unswept (Preparing m) = true
is_unswept Opening = true
is_unswept _ = false

-- a step that leaves it so found it so, or applied the batch
pub step_unswept : {p q : Private} {word : ℕ} {b : Contents} {op : Op} {turn : Turn} → (s : Step p word b (Some op) q turn) → batch_made s ≡ None → is_unswept q.phase ≡ true → is_unswept p.phase ≡ true
step_unswept (Step.spent idle last is same answer) none still = let no : ◌≡◌ {A = Option Op} (Some _) None = is in absurd (cc)
step_unswept (Step.request next idle more is present g) none still = absurd (false≢true (sym (ap (λ (x : Private). is_unswept x.phase) g.after) ∙ still))
step_unswept (Step.request_alone idle more is alone on) none still = absurd (cc)
step_unswept (Step.wait t looks other is same answer) none still = absurd (false≢true (sym (ap (λ (x : Private). is_unswept x.phase) same ∙ ap is_unswept looks) ∙ still))
step_unswept (Step.cross_for t next looks crosses is present g) none still = absurd (false≢true (sym (ap (λ (x : Private). is_unswept x.phase) g.after) ∙ still))
step_unswept (Step.cross_for_last t looks crosses is left on) none still = absurd (cc)
step_unswept (Step.gather t looks word_is is g) none still = absurd (false≢true (sym (ap (λ (x : Private). is_unswept x.phase) g.after) ∙ still))
step_unswept (Step.give_back t next returning is present g) none still = absurd (false≢true (sym (ap (λ (x : Private). is_unswept x.phase) g.after) ∙ still))
step_unswept (Step.apply t returning is left on) none still = absurd (cc)
step_unswept (Step.release m releasing is on) none still = ap is_unswept releasing
step_unswept (Step.freeing m freeing is on) none still = ap is_unswept freeing
step_unswept (Step.trial m trying is on) none still = ap is_unswept trying
step_unswept (Step.preparation m preparing is on) none still = ap is_unswept preparing
step_unswept (Step.begin_sweep opening is g) none still = absurd (false≢true (sym (ap (λ (x : Private). is_unswept x.phase) g.after) ∙ still))
step_unswept (Step.sweep due swept w phase sweeping is which next g) none still = absurd (false≢true (sym (ap (λ (x : Private). is_unswept x.phase) g.after ∙ swept_on next) ∙ still))
  where
    swept_on : IsNext swept w phase → is_unswept phase ≡ false
    swept_on (IsNext.more some is) = ap is_unswept is
    swept_on (IsNext.last none is) = ap is_unswept is
step_unswept (Step.end_sweep swept closing is e) none still = absurd (false≢true (sym (ap (λ (x : Private). is_unswept x.phase) e.after) ∙ still))
