-- The preparation of the sets that the first collection found: from load to load, and what it leaves.
use Rattle.std.proofs.Common.{◌≡◌, ℕ, ◌*◌, ◌<◌, Option, None, Some, List, [], ◌++◌, IfSome, length, refl, sym, ap, subst, ◌∙◌, true}
use Rattle.rec_core.proofs.Common.{Slot, State, PreparedTo, loaded_at, Parts, Preparing, still, Core, IsKept, is_green}
use Rattle.rec_settle.specs.Resting.{PrepRests, SetsRest}
use Rattle.rec_settle.specs.Settling.{AreLoadsOf}
use Rattle.rec_sigma.specs.declared.at.At as loads
use Rattle.rec_sigma.specs.Prepare.{Machine, Work, took_of}
use Rattle.rec_sigma.proofs.Runs.{Came, came_on}
use Rattle.rec_collector.specs.Kept as collector_kept
use Rattle.rec_core.proofs.TurnCases.{word_at}
use Rattle.rec_core.proofs.Landed.{HasLanded}
use Rattle.rec_settle.proofs.Rest.FirstTrial.{words_landed}
use Rattle.rec_settle.proofs.Rest.SettlingPrepared.{loads_more}
use Rattle.rec_settle.proofs.Rest.SettlingTests.{unheld_prepared}
use Rattle.rec_core.proofs.Turns.{now_at}

-- A field was loaded for the preparation, and the word that stands there was found.
pub prep_rests_more : (w : Core) (m : Machine) (a : loads.At) → IsKept true w → w.collector.phase ≡ Preparing m → m.at ≡ Some a → PrepRests w w.words (record { machine = m; counts = w.collector.counts })
    → PrepRests w w.words (took_of (record { machine = m; counts = w.collector.counts }) (word_at w a.member.slot a.member.field))
prep_rests_more w m a kept phase at h =
    let fields : ℕ = w.config.fields in
    let s : State = w.collector.counts in
    let found : ℕ = word_at w a.member.slot a.member.field in
    let after : Work = took_of (record { machine = m; counts = s }) found in
    let now : collector_kept.IsPreparing w.collector m = now_at w (Preparing m) kept phase in
    let same : m.fields ≡ fields = now.fields ∙ kept.collector.fields in
    let below : a.member.field < fields = subst (λ n. a.member.field < n) same (subst (λ (o : Option loads.At). IfSome o (λ (b : loads.At). b.member.field < m.fields)) at now.kept.field) in
    let came : Came fields h.before after (h.loads ++ loaded_at m.at found)
    = came_on fields h.before (record { machine = m; counts = s }) h.loads found h.before_kept.numbers (record { fields_kept = same; work = now.kept; law = h.prepares }) in
    record {
      before = h.before;
      before_kept = h.before_kept;
      loads = h.loads ++ loaded_at m.at found;
      prepares = came.law;
      are_loads = subst (λ (o : Option loads.At). AreLoadsOf fields w.words (h.loads ++ loaded_at o found)) (sym at) (loads_more fields w.words h.loads a found below refl h.are_loads);
      counted = h.counted;
      back = h.back;
      found = h.found;
      unnamed = h.unnamed;
    }

-- All sets are prepared: nothing holds them.
pub sets_rest_begun : {w : Core} {crossing words : List ℕ} (v : Parts) (m : Machine) → HasLanded w crossing words (still v) → PrepRests w words (record { machine = m; counts = v.counts }) → m.at ≡ None → SetsRest w words [] v.counts
sets_rest_begun {w} {crossing} {words} v m l h done =
    let fields : ℕ = w.config.fields in
    let all : PreparedTo fields h.before None v.counts h.loads = subst (λ (o : Option loads.At). PreparedTo fields h.before o v.counts h.loads) done h.prepares in
    let long : length words ≡ length h.before.slots * fields = words_landed l ∙ ap (λ n. n * fields) all.others.many in
    record {
      unheld = unheld_prepared fields words h.before v.counts h.loads l.kept.config.some_fields h.before_kept long h.are_loads all h.counted h.back;
      found = λ x e other none. h.found x (sym (ap (λ (c : Slot). c.released) (all.others.slots x)) ∙ e) (sym (ap (λ (c : Slot). is_green c.colour) (all.others.slots x)) ∙ other) (sym (ap (λ (c : Slot). c.set) (all.others.slots x)) ∙ none);
      unnamed = λ x i e. h.unnamed x i (sym (ap (λ (c : Slot). c.set) (all.others.slots x)) ∙ e);
    }
