-- What follows a word, as the calls that make it tell.
use Rattle.std.proofs.Common.{Bool, ◌≡◌, ◌≢◌, ℕ, zero, suc, ◌-◌, ◌<◌, true, false, cond, is_some, not, Option, None, Some, length, refl, arith, sym, ◌∙◌, ap, subst, List, ◌+◌}
use Rattle.std.proofs.lemmas.Bool.{false≢true}
use Rattle.rec_collector.proofs.Common.{Op, IsKept, State, IsClear, IsFewTold, IsCleared, followed, going_on, gone_on, next_in, prep_started, prepared, prepared_at, sweep_phase, tried, tried_at, trial_started, relieved, relieved_at, with_freed, with_released, Parts, new_freeing, Begun, last_tested, releasing_at, tested, with_release, counted_by, tested_as, verdict_of, with_freeing, zeros_released, Held, Passed, Touched, Phase, Preparing, Releasing, Trying, Freeing, Contents, NoneReleased}
use Rattle.rec_release.specs.declared.at.At.{At}
use Rattle.rec_collector.specs.declared.parts.Parts.TheInside.{Inside}
use Rattle.rec_collector.specs.declared.sets.Sets.{Sets}
use Rattle.rec_collector.specs.declared.verdict.Verdict.{Verdict}
use Rattle.rec_sigma.specs.Settling.{refurbished_of}
use Rattle.rec_collector.proofs.Clearing.{Clears, released_clears}
use Rattle.rec_collector.proofs.Counting.{KeepsTold, last_told, Counted, freed_told, released_told, same_told, told_on, zeros_told}
use Rattle.rec_collector.proofs.Goings.{last_sets, still, with_counts}
use Rattle.rec_collector.proofs.Steps.{prep_next, release_next, freeing_next}
use Rattle.rec_collector.proofs.Testing.{last_clear}
use Rattle.rec_counts.specs.Rest.{KeepsRest}
use Rattle.rec_word.specs.declared.member.Member.{Member}
use Rattle.rec_counts.specs.Batch.{applied, AreAlike, IsCovered}
use Rattle.rec_collector.proofs.Following.{batch_clears}
use Rattle.rec_counts.proofs.Whole.{is_applied}
use Rattle.rec_collector.proofs.Freeing.{freed_clears}
use Rattle.rec_release.specs.CycleFree as frees
use Rattle.rec_release.specs.Release as releases
use Rattle.rec_sigma.specs.Prepare as preps
use Rattle.rec_sigma.specs.declared.at.At as loads
use Rattle.rec_trial.specs.Trial as trials
use Rattle.rec_collector.specs.Zeros.{AreCounted}

-- the parts that their fields make up
abbrev pub whole : Inside → Parts
whole inside = record { counts = inside.counts; fields = inside.fields; sets = inside.sets; offers = inside.offers; postponed = inside.postponed; policy = inside.policy }

-- whether a machine names an operation, as its answer is looked at
pub due : {none is : Bool} {next op : Option Op} → next ≡ op → is_some next ≡ not none → none ≡ is → is_some op ≡ not is
due names looked told = sym (ap (λ (o : Option Op). is_some o) names) ∙ looked ∙ ap not told

-- a preparation goes on while a field is due; then what is free is swept
pub more_prepared : (w : Parts) (v : preps.Work) → is_some (preps.next_of v.machine) ≡ true → next_in (Preparing v.machine) (with_counts w v.counts) ≡ prepared w v
unfolding prepared
more_prepared w v b = go v.machine.at (sym (prep_next v.machine) ∙ b)
  where
    go : (at : Option loads.At) → is_some at ≡ true → next_in (Preparing v.machine) (with_counts w v.counts) ≡ prepared_at (with_counts w v.counts) v.machine at
    go (Some a) e = refl
    go None e = absurd (false≢true e)

pub over_prepared : (w : Parts) (v : preps.Work) → is_some (preps.next_of v.machine) ≡ false → next_in (sweep_phase v.counts.free) (with_counts w v.counts) ≡ prepared w v
unfolding prepared
over_prepared w v b = go v.machine.at (sym (prep_next v.machine) ∙ b)
  where
    go : (at : Option loads.At) → is_some at ≡ false → next_in (sweep_phase v.counts.free) (with_counts w v.counts) ≡ prepared_at (with_counts w v.counts) v.machine at
    go None e = refl
    go (Some a) e = absurd (false≢true (sym e))

-- a trial goes on while a field is to be loaded; then its sets are prepared
pub more_tried : (w : Parts) (v : trials.Work) → is_some (trials.next_of v.machine) ≡ true → next_in (Trying v.machine) (with_counts w v.counts) ≡ tried w v
unfolding tried
more_tried w v b = go (trials.next_of v.machine) b
  where
    go : (op : Option Op) → is_some op ≡ true → next_in (Trying v.machine) (with_counts w v.counts) ≡ tried_at (with_counts w v.counts) v.machine op
    go (Some o) e = refl
    go None e = absurd (false≢true e)

pub over_tried : (w : Parts) (v : trials.Work) → is_some (trials.next_of v.machine) ≡ false → prepared (with_counts w v.counts) (prep_started (with_counts w v.counts)) ≡ tried w v
unfolding tried
over_tried w v b = go (trials.next_of v.machine) b
  where
    go : (op : Option Op) → is_some op ≡ false → prepared (with_counts w v.counts) (prep_started (with_counts w v.counts)) ≡ tried_at (with_counts w v.counts) v.machine op
    go None e = refl
    go (Some o) e = absurd (false≢true (sym e))

-- a release goes on while a field is due; then nothing was begun
pub more_released : (w : Parts) (v : releases.Work) → is_some (releases.next_of v.machine) ≡ true → ◌≡◌ {A = Begun} (record { parts = with_counts w v.counts; phase = Some (Releasing v.machine) }) (with_release w v)
more_released w v b = go v.machine.at (sym (release_next v.machine) ∙ b)
  where
    go : (at : Option At) → is_some at ≡ true → ◌≡◌ {A = Begun} (record { parts = with_counts w v.counts; phase = Some (Releasing v.machine) }) (record { parts = with_counts w v.counts; phase = releasing_at v.machine at })
    go (Some a) e = refl
    go None e = absurd (false≢true e)

pub over_released : (w : Parts) (v : releases.Work) → is_some (releases.next_of v.machine) ≡ false → still (with_counts w v.counts) ≡ with_release w v
over_released w v b = go v.machine.at (sym (release_next v.machine) ∙ b)
  where
    go : (at : Option At) → is_some at ≡ false → ◌≡◌ {A = Begun} (still (with_counts w v.counts)) (record { parts = with_counts w v.counts; phase = releasing_at v.machine at })
    go None e = refl
    go (Some a) e = absurd (false≢true (sym e))

-- the freeing of a set goes on while a field is due; then the zeros are released
pub more_freed : (w : Parts) (v : frees.Work) → is_some (frees.next_of v.machine) ≡ true → ◌≡◌ {A = Begun} (record { parts = with_counts w v.counts; phase = Some (Freeing v.machine) }) (relieved w v)
more_freed w v b = go v.machine.at (sym (freeing_next v.machine) ∙ b)
  where
    go : (at : Option Member) → is_some at ≡ true → ◌≡◌ {A = Begun} (record { parts = with_counts w v.counts; phase = Some (Freeing v.machine) }) (relieved_at (with_counts w v.counts) v.machine at)
    go (Some a) e = refl
    go None e = absurd (false≢true e)

pub over_freed : (w : Parts) (v : frees.Work) → is_some (frees.next_of v.machine) ≡ false → zeros_released true (with_counts w v.counts) ≡ relieved w v
over_freed w v b = go v.machine.at (sym (freeing_next v.machine) ∙ b)
  where
    go : (at : Option Member) → is_some at ≡ false → zeros_released true (with_counts w v.counts) ≡ relieved_at (with_counts w v.counts) v.machine at
    go None e = refl
    go (Some a) e = absurd (false≢true (sym e))

-- what a word, and a batch, come to may be followed
pub released_clear : (m : releases.Machine) (w : Parts) (word : ℕ) → Counted w.counts word → IsKept w.counts → 0 < w.fields → IsClear (record { parts = w; phase = Some (Releasing m) }) → IsClear (with_released m w word)
released_clear m w word counted k wide c =
    let on : Clears (with_released m w word) (c.exchanged + 1) = released_clears m w word c.exchanged counted (record { wide = wide; counts = k; clearing = c.clearing; exchanges = c.exchanges }) in
    let told : KeepsTold w (with_released m w word).parts = released_told m w word c.clearing.busy in
    record { clearing = on.clearing; exchanged = c.exchanged + 1; exchanges = on.exchanges; few = omega (arith, c.few, told.told) }

pub freed_clear : (m : frees.Machine) (w : Parts) (word : ℕ) → Counted w.counts word → IsKept w.counts → 0 < w.fields → IsClear (record { parts = w; phase = Some (Freeing m) }) → IsClear (with_freed m w word)
freed_clear m w word counted k wide c =
    let on : Clears (with_freed m w word) (c.exchanged + 1) = freed_clears m w word c.exchanged counted (record { wide = wide; counts = k; clearing = c.clearing; exchanges = c.exchanges }) in
    let told : KeepsTold w (with_freed m w word).parts = freed_told m w word c.clearing.busy in
    record { clearing = on.clearing; exchanged = c.exchanged + 1; exchanges = on.exchanges; few = omega (arith, c.few, told.told) }

pub batch_clear : (steady : Bool) (w : Parts) (newer older : List Contents) → 0 < w.fields → IsKept w.counts → AreAlike newer older → IsCovered w.counts newer older → IsCleared w → NoneReleased w.counts → AreCounted w.counts → IsFewTold w → IsClear (zeros_released false (record w { counts = applied steady w.counts newer older }))
batch_clear steady w newer older wide k alike covered c none counted few =
    let v : Parts = record w { counts = applied steady w.counts newer older } in
    let on : Clears (zeros_released false v) 0 = batch_clears steady w newer older wide k alike covered c none counted in
    let rests : KeepsRest w.counts v.counts = (is_applied steady w.counts newer older c.zeros alike covered).rest in
    let told : KeepsTold w (zeros_released false v).parts = told_on (same_told w v.counts rests.slots rests.sets) (zeros_told false v) in
    record { clearing = on.clearing; exchanged = 0; exchanges = on.exchanges; few = omega (arith, few, told.told) }

-- the last set was tested, and passed or was refused
pub passed_last : (w : Parts) (verdict : Verdict) (sets : Sets) → verdict ≡ verdict_of w.counts (length w.counts.sets - 1) → verdict ≡ Passed → sets ≡ counted_by verdict w.sets
    → with_freeing (record w { sets = sets }) (frees.started_of (new_freeing w.fields) w.counts) ≡ last_tested w
unfolding last_tested
passed_last w verdict sets says passed counted =
    ap (λ (n : Sets). with_freeing (record w { sets = n }) (frees.started_of (new_freeing w.fields) w.counts)) (counted ∙ ap (λ (v : Verdict). counted_by v w.sets) passed) ∙ ap (λ (v : Verdict). tested_as v w) (sym passed ∙ says)

pub refused_last : (w : Parts) (verdict : Verdict) (s : State) (sets : Sets) → verdict ≡ verdict_of w.counts (length w.counts.sets - 1) → verdict ≢ Passed → s ≡ refurbished_of w.counts → sets ≡ counted_by verdict w.sets
    → zeros_released true (record w { counts = s; sets = sets }) ≡ last_tested w
unfolding last_tested
refused_last w verdict s sets says refused state counted =
    ap (λ (t : State). zeros_released true (record w { counts = t; sets = sets })) state ∙ ap (λ (n : Sets). zeros_released true (record w { counts = refurbished_of w.counts; sets = n })) counted ∙ go verdict refused ∙ ap (λ (v : Verdict). tested_as v w) says
  where
    go : (v : Verdict) → v ≢ Passed → zeros_released true (record w { counts = refurbished_of w.counts; sets = counted_by v w.sets }) ≡ tested_as v w
    go Passed n = absurd (n refl)
    go Touched n = refl
    go Held n = refl

-- where something was begun, it follows
pub begun_follows : (w : Parts) (phase : Phase) → next_in phase w ≡ followed (record { parts = w; phase = Some phase })
unfolding followed tested
begun_follows w phase = go (length w.counts.sets)
  where
    go : (n : ℕ) → next_in phase w ≡ gone_on (tested n (record { parts = w; phase = Some phase }))
    go zero = refl
    go (suc n) = refl

pub none_of : {A : Type 0} (o : Option A) → is_some o ≡ false → o ≡ None
none_of None e = refl
none_of (Some a) e = absurd (false≢true (sym e))

-- Sets were tested, and it came to this: the tests that are left lead where all would.
pub record IsUnderTest (from b : Begun) : Type 0 where
  pub exchanged : ℕ
  pub clears : Clears b exchanged
  pub few : IsFewTold b.parts
  pub same : tested (length b.parts.counts.sets) b ≡ tested (length from.parts.counts.sets) from

tested_busy : (n : ℕ) (b : Begun) (phase : Phase) → b.phase ≡ Some phase → tested n b ≡ b
unfolding tested
tested_busy zero b phase e = refl
tested_busy (suc n) b phase e = ap (λ (o : Option Phase). cond (is_some o) b (tested n (last_tested b.parts))) e

tested_more : (n : ℕ) (b : Begun) → b.phase ≡ None → 0 < n → tested n b ≡ tested (n - 1) (last_tested b.parts)
unfolding tested
tested_more zero b e l = absurd (omega (arith, l))
tested_more (suc n) b e l = ap (λ (o : Option Phase). cond (is_some o) b (tested n (last_tested b.parts))) e ∙ ap (λ i. tested i (last_tested b.parts)) (omega arith)

-- it begins with what was begun
pub starts_test : (b : Begun) → IsKept b.parts.counts → 0 < b.parts.fields → IsClear b → IsUnderTest b b
starts_test b k wide c = record { exchanged = c.exchanged; clears = record { wide = wide; counts = k; clearing = c.clearing; exchanges = c.exchanges }; few = c.few; same = refl }

-- and goes on with the last set
pub last_under_test : (from b c : Begun) → IsUnderTest from b → b.phase ≡ None → 0 < length b.parts.counts.sets → c ≡ last_tested b.parts → IsUnderTest from c
last_under_test from b c t none some is = subst (IsUnderTest from) (sym is) (record {
  exchanged = t.exchanged;
  clears = last_clear t.exchanged b.parts some (subst (λ o. Clears (record { parts = b.parts; phase = o }) t.exchanged) none t.clears);
  few = let keeps : KeepsTold b.parts (last_tested b.parts).parts = last_told b.parts some in omega (arith, t.few, keeps.told);
  same = ap (λ n. tested n (last_tested b.parts)) (omega (arith, last_sets b.parts some)) ∙ sym (tested_more (length b.parts.counts.sets) b none some) ∙ t.same;
})

-- it ends with the phase that was begun
pub test_begins : (from b : Begun) (phase : Phase) → IsUnderTest from b → b.phase ≡ Some phase → next_in phase b.parts ≡ followed from
unfolding followed
test_begins from b phase t e = sym (ap (going_on b.parts) e) ∙ ap gone_on (sym (tested_busy (length b.parts.counts.sets) b phase e) ∙ t.same)

-- or once no set is left
pub test_ends : (from b : Begun) → IsUnderTest from b → b.phase ≡ None → length b.parts.counts.sets ≡ 0 → trial_started b.parts ≡ followed from
unfolding followed tested
test_ends from b t e none = sym (ap (going_on b.parts) e) ∙ ap gone_on (no_more (length b.parts.counts.sets) none ∙ t.same)
  where
    no_more : (n : ℕ) → n ≡ 0 → b ≡ tested n b
    no_more zero z = refl
    no_more (suc n) z = absurd (omega (arith, z))
