-- Every turn of the collector is one of its rules.
use Rattle.std.proofs.Common.{◌≡◌, ◌≢◌, ◌⊎◌, inl, inr, ℕ, ◌+◌, ◌-◌, ◌%◌, ◌^◌, ◌==◌, Bool, true, Option, None, Some, List, IsNone, drop, length, slice_get, slice_index_or, slice_set, refl, sym, ap, subst, ◌∙◌}
use Rattle.std.proofs.lemmas.Bool.{eq-eqb, ne_eqb, cond-true, cond-false}
use Rattle.std.proofs.lemmas.List.{set-get_or}
use Rattle.rec_core.proofs.Common.{crossing_word, Retired, Spare, WithCollector, place_of, Op, Contents, At, Member, with_freed, with_released, parts_of, ClearsOn, TriesOn, PreparesOn, IsNext, step_of, turn_of, moved, Phase, Idle, Looking, Returning, Releasing, Freeing, Trying, Preparing, Opening, Sweeping, Closing, Turn, cell, IsMutator, Core, cells_of, box, crossing_of, IsKept, looked_at, left_by, collected, turned, visible}
use Rattle.rec_word.specs.Op.{written}
use Rattle.rec_word.specs.declared.op.Op.TheVariants as ops
use Rattle.rec_release.specs.CycleFree.{next_of as freeing_next, op_at as freeing_op_at}
use Rattle.rec_release.specs.Release.{next_of as release_next, op_at as release_op_at}
use Rattle.rec_release.specs.Sweep as sweeps
use Rattle.rec_collector.specs.Causes.{HasCause}
use Rattle.rec_sigma.specs.Prepare as preps
use Rattle.rec_trial.specs.Trial as trials
use Rattle.rec_collector.specs.Next.{next_of}
use Rattle.rec_collector.specs.Private as collectors
use Rattle.rec_collector.specs.Private.{Private}
use Rattle.rec_collector.specs.Step.{Step}
use Rattle.rec_collector.specs.Took.{took_of}
use Rattle.rec_collector.proofs.Steps.{has_cause, spends}
use Rattle.rec_word.specs.Looked as looks
use Rattle.rec_word.specs.declared.looked.Looked.{Looked}
use Rattle.rec_word.proofs.Looks.{plain_look_leaves}
use Rattle.rec_core.proofs.PlainWords.{crosses_none, found_small, gives_home, takes_retired, waits_other}
use Rattle.rec_core.proofs.TurnCases.{Awaits, TurnCase, crossing_with, giving_back, requesting, word_at, swept_by}
use Rattle.rec_core.proofs.Phases.{clears_in}
use Rattle.rec_core.proofs.Preparing.{loads_due}
use Rattle.rec_core.proofs.Runs.{rule_of}
use Rattle.rec_core.proofs.Trying.{loads_child}
use Rattle.rec_core.proofs.Turning.{plain_left, mutator_at, some_op, freed_more, turn_case}
use Rattle.rec_core.proofs.Turns.{now_at}

-- what a turn leaves where no mailbox is taken, with its operation named
plain : (w : Core) (op its : Op) (word : ℕ) (q : Private) (phase : Phase) → w.collector.phase ≡ phase → left_by w.collector word (box w (looked_at phase)) phase ≡ box w (looked_at phase) → op ≡ its
    → collected w op word q (left_by w.collector word (box w (looked_at w.collector.phase)) w.collector.phase) ≡ record (collected w its word q (box w 1)) { boxes = w.boxes }
plain w op its word q phase is same named = plain_left w op word q phase is same ∙ ap (λ o. let v : Core = record (collected w o word q (box w 1)) { boxes = w.boxes } in v) named

-- a turn that requests the next epoch
requests_as : {dated : Bool} → (w : Core) (op : Op) (word : ℕ) (q : Private) → w.collector.phase ≡ Idle → IsKept dated w → op ≡ ops.StoreEpoch (w.collector.epoch + 1)
    → collected w op word q (left_by w.collector word (box w (looked_at w.collector.phase)) w.collector.phase) ≡ record w { epoch = w.epoch + 1; collector = q }
requests_as w op word q idle kept its =
    plain w op (ops.StoreEpoch (w.collector.epoch + 1)) word q Idle idle refl its
    ∙ ap (λ (n : ℕ). let v : Core = record w { epoch = n + 1; collector = q } in v) kept.collector.epoch

-- one that gives a mailbox back
returns_as : {dated : Bool} → (w : Core) (t : ℕ) (op : Op) (word : ℕ) (q : Private) → w.collector.phase ≡ Returning t → IsKept dated w → IsMutator w.config t → op ≡ ops.ReturnBox t w.collector.epoch → word ≡ cell (cells_of w) op
    → collected w op word q (left_by w.collector word (box w (looked_at w.collector.phase)) w.collector.phase) ≡ record w { crossing = crossing_with w t Spare; collector = q }
returns_as w t op word q returning kept is its found =
    plain w op (ops.ReturnBox t w.collector.epoch) word q (Returning t) returning refl its
    ∙ ap (λ (n : ℕ). let v : Core = record w { crossing = slice_set w.crossing (t - 1) n; collector = q } in v) (gives_home w t op word kept returning is (ap (λ (o : Op). Some o) its) found)
    ∙ ap (λ (n : ℕ). let v : Core = record w { crossing = slice_set w.crossing (t - 1) (crossing_word n Spare); collector = q } in v) kept.collector.epoch

-- each rule
rule_is : {dated : Bool} → (w : Core) (op : Op) (word : ℕ) (q : Private) (turn : Turn) → IsKept dated w → word ≡ cell (cells_of w) op → Step w.collector word (box w (looked_at w.collector.phase)) (Some op) q turn
    → TurnCase w (collected w op word q (left_by w.collector word (box w (looked_at w.collector.phase)) w.collector.phase))
unfolding release_next freeing_next sweeps.started_of sweeps.next_of sweeps.took_of
rule_is w op word q turn kept found (Step.spent idle last none same answer) = let not_so : ◌≡◌ {A = Option Op} (Some op) None = none in absurd (cc)
rule_is w op word q turn kept found (Step.request next idle more named present g) =
    let its : op ≡ ops.StoreEpoch (w.collector.epoch + 1) = some_op op (ops.StoreEpoch (w.collector.epoch + 1)) named in
    TurnCase.requests next idle present (
    requests_as w op word q idle kept its
    ∙ ap (λ (c : Private). let v : Core = record w { epoch = w.epoch + 1; collector = c } in v) g.after
    )
rule_is w op word q turn kept found (Step.request_alone idle more named left on) =
    let its : op ≡ ops.StoreEpoch (w.collector.epoch + 1) = some_op op (ops.StoreEpoch (w.collector.epoch + 1)) named in
    TurnCase.applies (requesting w) q turn (Awaits.alone idle (λ last. more (ap (λ n. n + 1) kept.collector.epoch ∙ last)) left) (clears_in (Returning (length w.collector.newer)) on) (requests_as w op word q idle kept its)
rule_is w op word q turn kept found (Step.cross_for t next looking crosses named present g) = absurd (crosses_none w t kept looking op word named found crosses)
rule_is w op word q turn kept found (Step.cross_for_last t looking crosses named left on) = absurd (crosses_none w t kept looking op word named found crosses)
rule_is w op word q turn kept found (Step.wait t looking stays named same answer) =
    let other : word ≢ crossing_word w.collector.epoch Retired = waits_other w t kept looking op word named found stays in
    let its : op ≡ ops.LookBox t w.collector.epoch = some_op op (ops.LookBox t w.collector.epoch) named in
    let at : word ≡ slice_index_or w.crossing (t - 1) 0 = found ∙ ap (cell (cells_of w)) its in
    let now = now_at w (Looking t) kept looking in
    let left : left_by w.collector word (box w t) (Looking t) ≡ box w t = cond-false (word == crossing_word w.collector.epoch Retired) (collectors.spare w.collector) (box w t) (ne_eqb word (crossing_word w.collector.epoch Retired) other) in
    let same_word : written (ops.LookBox t w.collector.epoch) word ≡ word = ap (λ (l : Looked). looks.left_by l word) stays in
    let crossing : slice_set w.crossing (t - 1) (written (ops.LookBox t w.collector.epoch) word) ≡ w.crossing = ap (slice_set w.crossing (t - 1)) (same_word ∙ at) ∙ set-get_or w.crossing (t - 1) 0 in
    TurnCase.waits t (mutator_at w t (Looking t) kept looking (now.first, now.there)) looking (λ has. other (at ∙ has ∙ ap (λ n. crossing_word n Retired) (sym kept.collector.epoch))) (
    plain w op (ops.LookBox t w.collector.epoch) word q (Looking t) looking left its
    ∙ ap (λ (cs : List ℕ). let v : Core = record w { crossing = cs; collector = q } in v) crossing
    ∙ ap (λ (c : Private). let v : Core = record w { collector = c } in v) same
    )
rule_is w op word q turn kept found (Step.gather t looking takes named g) =
    let crossed : word ≡ crossing_word w.collector.epoch Retired = takes_retired w t kept looking op word named found takes in
    let its : op ≡ ops.LookBox t w.collector.epoch = some_op op (ops.LookBox t w.collector.epoch) named in
    let at : word ≡ slice_index_or w.crossing (t - 1) 0 = found ∙ ap (cell (cells_of w)) its in
    let epoch : w.collector.epoch ≡ w.epoch = kept.collector.epoch in
    let now = now_at w (Looking t) kept looking in
    let has : crossing_of w t ≡ crossing_word w.epoch Retired = sym at ∙ crossed ∙ ap (λ n. crossing_word n Retired) epoch in
    let b : Bool = word == crossing_word w.collector.epoch Retired in
    let yes : b ≡ true = eq-eqb word (crossing_word w.collector.epoch Retired) crossed in
    let next : written (ops.LookBox t w.collector.epoch) word ≡ crossing_word w.epoch WithCollector = plain_look_leaves t w.collector.epoch word (found_small w t kept looking op word named found) ∙ cond-true b (crossing_word w.collector.epoch WithCollector) word yes ∙ ap (λ n. crossing_word n WithCollector) epoch in
    let after : q ≡ moved (record w.collector { newer = slice_set w.collector.newer (t - 1) (box w t) }) (Returning t)
    = g.after ∙ ap (λ (phase : Phase). moved (record w.collector { newer = slice_set w.collector.newer (t - 1) (box w (looked_at phase)) }) (Returning t)) looking in
    let leaves : Phase → Core = λ f. collected (record w { collector = record w.collector { phase = f } }) op word q (left_by w.collector word (box w (looked_at f)) f) in
    TurnCase.gathers t (mutator_at w t (Looking t) kept looking (now.first, now.there)) looking has (
    ap leaves looking
    ∙ ap (λ (o : Op). collected (record w { collector = record w.collector { phase = Looking t } }) o word q (left_by w.collector word (box w t) (Looking t))) its
    ∙ ap (λ (x : Contents). let v : Core = record w { crossing = slice_set w.crossing (t - 1) (written (ops.LookBox t w.collector.epoch) word); boxes = slice_set w.boxes (t - 1) x; collector = q } in v) (cond-true b (collectors.spare w.collector) (box w t) yes)
    ∙ ap (λ (n : ℕ). let v : Core = record w { crossing = slice_set w.crossing (t - 1) n; boxes = slice_set w.boxes (t - 1) (collectors.spare w.collector); collector = q } in v) next
    ∙ ap (λ (c : Private). let v : Core = record w { crossing = slice_set w.crossing (t - 1) (crossing_word w.epoch WithCollector); boxes = slice_set w.boxes (t - 1) (collectors.spare w.collector); collector = c } in v) after
    )
rule_is w op word q turn kept found (Step.give_back t next returning named present g) =
    let its : op ≡ ops.ReturnBox t w.collector.epoch = some_op op (ops.ReturnBox t w.collector.epoch) named in
    let now = now_at w (Returning t) kept returning in
    let is : IsMutator w.config t = mutator_at w t (Returning t) kept returning (now.first, now.there) in
    TurnCase.gives_back t next is returning present (
    returns_as w t op word q returning kept is its found
    ∙ ap (λ (c : Private). let v : Core = record w { crossing = slice_set w.crossing (t - 1) (crossing_word w.epoch Spare); collector = c } in v) g.after
    )
rule_is w op word q turn kept found (Step.apply t returning named left on) =
    let its : op ≡ ops.ReturnBox t w.collector.epoch = some_op op (ops.ReturnBox t w.collector.epoch) named in
    let now = now_at w (Returning t) kept returning in
    let is : IsMutator w.config t = mutator_at w t (Returning t) kept returning (now.first, now.there) in
    TurnCase.applies (giving_back w t) q turn (Awaits.last t is returning left) (clears_in (Returning (length w.collector.newer)) on) (returns_as w t op word q returning kept is its found)
rule_is w op word q turn kept found (Step.release m releasing named on) = go m.at refl
  where
    go : (x : Option At) → m.at ≡ x → TurnCase w (collected w op word q (left_by w.collector word (box w (looked_at w.collector.phase)) w.collector.phase))
    go None at = let not_so : ◌≡◌ {A = Option Op} (Some op) None = named ∙ ap (release_op_at m.fields) at in absurd (cc)
    go (Some a) at =
        let place : ℕ = place_of a.slot a.field w.config.fields in
        let fields : m.fields ≡ w.config.fields = (now_at w (Releasing m) kept releasing).clearing.fields ∙ kept.collector.fields in
        let its : op ≡ ops.ClearField place = some_op op (ops.ClearField place) (named ∙ ap (release_op_at m.fields) at ∙ ap (λ n. Some (ops.ClearField (place_of a.slot a.field n))) fields) in
        let there : word ≡ word_at w a.slot a.field = found ∙ ap (cell (cells_of w)) its in
        TurnCase.releases m a q turn releasing at (subst (λ n. ClearsOn w.collector q turn (with_released m (parts_of w.collector) n)) there on) (plain w op (ops.ClearField place) word q (Releasing m) releasing refl its)
rule_is w op word q turn kept found (Step.freeing m freeing named on) = go m.at refl
  where
    go : (x : Option Member) → m.at ≡ x → TurnCase w (collected w op word q (left_by w.collector word (box w (looked_at w.collector.phase)) w.collector.phase))
    go None at = let not_so : ◌≡◌ {A = Option Op} (Some op) None = named ∙ ap (freeing_op_at m.fields) at in absurd (cc)
    go (Some a) at =
        let place : ℕ = place_of a.slot a.field w.config.fields in
        let fields : m.fields ≡ w.config.fields = (now_at w (Freeing m) kept freeing).clearing.fields ∙ kept.collector.fields in
        let its : op ≡ ops.ClearField place = some_op op (ops.ClearField place) (named ∙ ap (freeing_op_at m.fields) at ∙ ap (λ n. Some (ops.ClearField (place_of a.slot a.field n))) fields) in
        let there : word ≡ word_at w a.slot a.field = found ∙ ap (cell (cells_of w)) its in
        TurnCase.frees m a q turn freeing at (subst (λ n. ClearsOn w.collector q turn (with_freed m (parts_of w.collector) n)) there on) (plain w op (ops.ClearField place) word q (Freeing m) freeing refl its)
rule_is w op word q turn kept found (Step.trial m trying named on) =
    let (place, its) = loads_child m op named in
    let there : word ≡ slice_index_or w.words place 0 = found ∙ ap (cell (cells_of w)) its in
    let stays : slice_set w.words place word ≡ w.words = ap (slice_set w.words place) there ∙ set-get_or w.words place 0 in
    TurnCase.tries m place q turn trying (sym named ∙ ap (λ o. Some o) its) (subst (λ n. TriesOn w.collector (parts_of w.collector) (trials.took_of (record { machine = m; counts = w.collector.counts }) (visible w.collector.counts n)) q turn) there on) (
    plain w op (ops.LoadChild place) word q (Trying m) trying refl its ∙ ap (λ (ws : List ℕ). let v : Core = record w { words = ws; collector = q } in v) stays
    )
rule_is w op word q turn kept found (Step.preparation m preparing named on) =
    let (a, at, due) = loads_due m op (sym named) in
    let place : ℕ = place_of a.member.slot a.member.field w.config.fields in
    let fields : m.fields ≡ w.config.fields = (now_at w (Preparing m) kept preparing).fields ∙ kept.collector.fields in
    let its : op ≡ ops.LoadChild place = due ∙ ap (λ n. ops.LoadChild (place_of a.member.slot a.member.field n)) fields in
    let there : word ≡ word_at w a.member.slot a.member.field = found ∙ ap (cell (cells_of w)) its in
    let stays : slice_set w.words place word ≡ w.words = ap (slice_set w.words place) there ∙ set-get_or w.words place 0 in
    TurnCase.prepares m a q turn preparing at (subst (λ n. PreparesOn w.collector (parts_of w.collector) (preps.took_of (record { machine = m; counts = w.collector.counts }) n) q turn) there on) (
    plain w op (ops.LoadChild place) word q (Preparing m) preparing refl its ∙ ap (λ (ws : List ℕ). let v : Core = record w { words = ws; collector = q } in v) stays
    )
rule_is w op word q turn kept found (Step.begin_sweep opening named g) =
    let its : op ≡ ops.AddFreed = some_op op ops.AddFreed named in
    let there : word ≡ w.freed = found ∙ ap (cell (cells_of w)) its in
    let more : (word + 1) % 2 ^ 64 ≡ w.freed + 1 = ap (λ n. (n + 1) % 2 ^ 64) there ∙ freed_more w kept in
    TurnCase.begins_sweep opening (
    plain w op ops.AddFreed word q Opening opening refl its
    ∙ ap (λ (n : ℕ). let v : Core = record w { freed = n; collector = q } in v) more
    ∙ ap (λ (c : Private). let v : Core = record w { freed = w.freed + 1; collector = c } in v) g.after
    )
rule_is w op word q turn kept found (Step.sweep None n u next sweeping named took follows g) = let not_so : ◌≡◌ {A = Option Op} (Some op) None = named in absurd (cc)
rule_is w op word q turn kept found (Step.sweep (Some x) n u next sweeping named took follows g) =
    let its : op ≡ ops.FreeHeader x = some_op op (ops.FreeHeader x) named in
    let after : q ≡ swept_by w.collector x next
    = g.after ∙ ap (λ (v : sweeps.Work). let c : Private = record w.collector { counts = v.counts; freed = w.collector.freed + 1; phase = next; turns = w.collector.turns + 1 } in c) took in
    TurnCase.sweeps n x next sweeping (follow follows) (
    plain w op (ops.FreeHeader x) word q (Sweeping (Some x) n) sweeping refl its ∙ ap (λ (c : Private). let v : Core = record w { headers = slice_set w.headers x 0; collector = c } in v) after
    )
  where
    follow : IsNext n u next → (next ≡ Sweeping (slice_get (drop 1 w.collector.counts.free) 0) (n + 1)) ⊎ (next ≡ Closing (n + 1))
    follow (IsNext.more some is) = inl (is ∙ ap (λ (v : sweeps.Work). Sweeping v.due (n + 1)) took)
    follow (IsNext.last none is) = inr is
rule_is w op word q turn kept found (Step.end_sweep n closing named e) =
    let its : op ≡ ops.AddFreed = some_op op ops.AddFreed named in
    let there : word ≡ w.freed = found ∙ ap (cell (cells_of w)) its in
    let more : (word + 1) % 2 ^ 64 ≡ w.freed + 1 = ap (λ n. (n + 1) % 2 ^ 64) there ∙ freed_more w kept in
    TurnCase.ends_sweep n closing (
    plain w op ops.AddFreed word q (Closing n) closing refl its
    ∙ ap (λ (m : ℕ). let v : Core = record w { freed = m; collector = q } in v) more
    ∙ ap (λ (c : Private). let v : Core = record w { freed = w.freed + 1; collector = c } in v) e.after
    )

-- Every turn is one of the rules, where its operation is carried out by one.
pub turn_by : {dated : Bool} → (w : Core) → IsKept dated w
    → ((op : Op) → ◌≡◌ {A = Option Op} (next_of w.collector) (Some op)
    → Step w.collector (cell (cells_of w) op) (box w (looked_at w.collector.phase)) (Some op) (step_of w.collector (cell (cells_of w) op) (box w (looked_at w.collector.phase))) (turn_of w.collector (cell (cells_of w) op)))
    → TurnCase w (turned w)
turn_by w kept rule = turn_case w (λ o v. TurnCase w v)
    (λ none.
    let last : IsNone (next_of w.collector) = subst (λ (o : Option Op). IsNone o) (sym none) refl in
    let is = subst (HasCause w.collector 0 (took_of w.collector 0)) (spends w.collector 0 kept.collector.machine last) (has_cause w.collector 0 kept.collector.machine) in
    TurnCase.spent is.0 (ap (λ n. n + 1) (sym kept.collector.epoch) ∙ is.1) refl)
    (λ op named.
    let word : ℕ = cell (cells_of w) op in
    rule_is w op word (step_of w.collector word (box w (looked_at w.collector.phase))) (turn_of w.collector word) kept refl (rule op named))

-- Every turn of a kept heap's collector is one of the rules.
pub turn_is : (w : Core) → IsKept true w → TurnCase w (turned w)
turn_is w kept = turn_by w kept (λ op named. rule_of w op kept named)
