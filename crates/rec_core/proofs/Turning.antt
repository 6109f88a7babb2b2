-- Every turn of the collector keeps what every heap keeps, rule by rule; and so does every run.
use Rattle.std.proofs.Common.{◌≡◌, ◌≢◌, ℕ, ◌+◌, ◌-◌, ◌*◌, ◌%◌, ◌^◌, ◌<◌, ◌≤◌, ◌==◌, Bool, true, List, Option, None, Some, length, slice_index_or, slice_set, refl, sym, ap, subst, ◌∙◌, arith}
use Rattle.std.proofs.lemmas.Bool.{eq-eqb, ne_eqb, cond-true, cond-false}
use Rattle.std.proofs.lemmas.List.{set-get_or}
use Rattle.rec_core.proofs.Common.{crossing_word, Retired, Spare, WithCollector, place_of, Op, Contents, At, Member, with_freed, with_released, parts_of, ClearsOn, TriesOn, PreparesOn, IsNext, Phase, Idle, Looking, Returning, Releasing, Freeing, Trying, Preparing, Opening, Sweeping, Closing, Turn, cell, IsMutator, Core, cells_of, box, crossing_of, one_if_sweeping, IsKept, looked_at, left_by, step_of, collected, turned, turned_at, turned_by, visible}
use Rattle.rec_word.specs.Looked as looks
use Rattle.rec_word.specs.Op.{written}
use Rattle.rec_word.specs.declared.looked.Looked.{Looked}
use Rattle.rec_word.proofs.Looks.{plain_look_leaves}
use Rattle.rec_core.proofs.PlainWords.{crosses_none, found_small, gives_home, takes_retired, waits_other}
use Rattle.rec_word.specs.declared.op.Op.TheVariants as ops
use Rattle.rec_release.specs.CycleFree.{next_of as freeing_next, op_at as freeing_op_at}
use Rattle.rec_release.specs.Release.{next_of as release_next, op_at as release_op_at}
use Rattle.rec_release.specs.Sweep as sweeps
use Rattle.rec_sigma.specs.Prepare.{took_of as loaded_of}
use Rattle.rec_trial.specs.Trial.{took_of as tried_of}
use Rattle.rec_collector.specs.Kept as collector_kept
use Rattle.rec_collector.specs.Next as collector_next
use Rattle.rec_collector.specs.Private as collectors
use Rattle.rec_collector.specs.Step.{Step}
use Rattle.rec_core.proofs.Begun.{applied_lands}
use Rattle.rec_core.proofs.Freeing.{freed_lands}
use Rattle.rec_core.proofs.Gathering.{awaits_kept, gathered_kept, giving_back_kept, next_kept, requesting_kept}
use Rattle.rec_core.proofs.Phases.{clears_in}
use Rattle.rec_core.proofs.Preparing.{loads_due, preparing_kept}
use Rattle.rec_core.proofs.Releasing.{released_lands}
use Rattle.rec_core.proofs.SetTests.{clears_kept}
use Rattle.rec_core.proofs.Sweeping.{began_kept, ended_kept, swept_kept, IsStillSweeping}
use Rattle.rec_core.proofs.Trying.{loads_child, trying_kept}
use Rattle.rec_core.proofs.TurnCases.{Awaits, giving_back, requesting}
use Rattle.rec_core.proofs.Turns.{now_at}
use Rattle.rec_core.proofs.Shapes.{same_boxes}

-- What a turn with this operation finds, and what it leaves.
pub record TurnParts : Type 0 where
  pub found : ℕ
  pub its_box : Contents
  pub q : collectors.Private
  pub v : Core

abbrev pub parts_of_turn : Core → Op → TurnParts
parts_of_turn w op = record {
  found = cell (cells_of w) op;
  its_box = box w (looked_at w.collector.phase);
  q = step_of w.collector (cell (cells_of w) op) (box w (looked_at w.collector.phase));
  v = turned_by w op (cell (cells_of w) op);
}

-- one operation in two options
pub some_op : (x y : Op) → ◌≡◌ {A = Option Op} (Some x) (Some y) → x ≡ y
some_op x y is = cc

-- a mutator whose mailbox is looked at, or given back, is there
pub mutator_at : {dated : Bool} → (w : Core) (t : ℕ) (phase : Phase) → IsKept dated w → w.collector.phase ≡ phase → (0 < t) × (t ≤ length w.collector.newer) → IsMutator w.config t
mutator_at w t phase kept is there = let many : length w.collector.newer ≡ w.config.mutators = kept.collector.mutators in (omega (arith, there.0), omega (arith, there.1, many))

-- the freed word rises by one: it is far from its greatest value
pub freed_more : {dated : Bool} → (w : Core) → IsKept dated w → (w.freed + 1) % 2 ^ 64 ≡ w.freed + 1
freed_more w kept =
    let most : w.freed ≤ 2 * w.collector.collections + one_if_sweeping w.collector.phase = kept.sweeps.few in
    let few : w.collector.collections + collector_kept.under_way w.collector.phase ≤ w.collector.epoch = kept.collector.machine.collections in
    let epoch : w.collector.epoch < 2 ^ 24 = kept.collector.machine.epoch in
    small (w.freed + 1) (omega (arith, one_at_most w.collector.phase))
  where
    one_at_most : (phase : Phase) → one_if_sweeping phase ≤ 1
    one_at_most (Sweeping due n) = omega arith
    one_at_most (Closing n) = omega arith
    one_at_most _ = omega arith

    small : (n : ℕ) → n < 2 ^ 64 → n % 2 ^ 64 ≡ n
    small n below = grind (arith, below)

-- A turn of a kept heap, with its operation and the word that it finds.
pub record Turns (w : Core) (op : Op) (word : ℕ) (q : collectors.Private) : Type 0 where
  pub kept : IsKept true w
  pub found : word ≡ cell (cells_of w) op
  pub machine : collector_kept.IsMachine q

-- what a turn leaves where no mailbox is taken
pub plain_left : (w : Core) (op : Op) (word : ℕ) (q : collectors.Private) (phase : Phase) → w.collector.phase ≡ phase → left_by w.collector word (box w (looked_at phase)) phase ≡ box w (looked_at phase)
    → collected w op word q (left_by w.collector word (box w (looked_at w.collector.phase)) w.collector.phase) ≡ record (collected w op word q (box w 1)) { boxes = w.boxes }
plain_left w op word q phase is same =
    let leaves : Phase → Core = λ f. collected (record w { collector = record w.collector { phase = f } }) op word q (left_by w.collector word (box w (looked_at f)) f) in
    let there : slice_set w.boxes (looked_at phase - 1) (left_by w.collector word (box w (looked_at phase)) phase) ≡ w.boxes = ap (slice_set w.boxes (looked_at phase - 1)) same ∙ same_boxes w (looked_at phase) in
    ap leaves is ∙ ap (λ (bs : List Contents). record (collected w op word q (box w 1)) { boxes = bs }) there

-- each rule
pub rule_kept : (w : Core) (op : Op) (word : ℕ) (q : collectors.Private) (turn : Turn) → Turns w op word q → Step w.collector word (box w (looked_at w.collector.phase)) (Some op) q turn
    → IsKept true (collected w op word q (left_by w.collector word (box w (looked_at w.collector.phase)) w.collector.phase))
unfolding release_next freeing_next sweeps.started_of sweeps.next_of sweeps.took_of
rule_kept w op word q turn m (Step.spent idle last none same answer) = let not_so : ◌≡◌ {A = Option Op} (Some op) None = none in absurd (cc)
rule_kept w op word q turn m (Step.request next idle more named found g) =
    let its : op ≡ ops.StoreEpoch (w.collector.epoch + 1) = some_op op (ops.StoreEpoch (w.collector.epoch + 1)) named in
    let whole = next_kept (requesting w) 0 (requesting_kept w m.kept idle more) (length w.collector.newer) refl next found (subst collector_kept.IsMachine g.after m.machine) in
    let epoch : w.collector.epoch + 1 ≡ w.epoch + 1 = ap (λ n. n + 1) m.kept.collector.epoch in
    subst (IsKept true) (sym (plain_left w op word q Idle idle refl))
    (subst (λ o. IsKept true (record (collected w o word q (box w 1)) { boxes = w.boxes })) (sym its)
    (subst (λ n. IsKept true (record w { epoch = n; collector = q })) (sym epoch) (subst (λ x. IsKept true (record w { epoch = w.epoch + 1; collector = x })) (sym g.after) whole)))
rule_kept w op word q turn m (Step.request_alone idle more named gone on) =
    let its : op ≡ ops.StoreEpoch (w.collector.epoch + 1) = some_op op (ops.StoreEpoch (w.collector.epoch + 1)) named in
    let u : Core = requesting w in
    let epoch : w.collector.epoch + 1 ≡ w.epoch + 1 = ap (λ n. n + 1) m.kept.collector.epoch in
    let home = awaits_kept w u m.kept (Awaits.alone idle (λ last. more (epoch ∙ last)) gone) in
    let whole = clears_kept u u.crossing u.words q m.machine turn (applied_lands u (length w.collector.newer) home refl) (clears_in u.collector.phase on) in
    subst (IsKept true) (sym (plain_left w op word q Idle idle refl))
    (subst (λ o. IsKept true (record (collected w o word q (box w 1)) { boxes = w.boxes })) (sym its) (subst (λ n. IsKept true (record w { epoch = n; collector = q })) (sym epoch) whole))
rule_kept w op word q turn m (Step.cross_for t next looking crosses named found g) = absurd (crosses_none w t m.kept looking op word named m.found crosses)
rule_kept w op word q turn m (Step.cross_for_last t looking crosses named gone on) = absurd (crosses_none w t m.kept looking op word named m.found crosses)
rule_kept w op word q turn m (Step.wait t looking stays named same answer) =
    let other : word ≢ crossing_word w.collector.epoch Retired = waits_other w t m.kept looking op word named m.found stays in
    let its : op ≡ ops.LookBox t w.collector.epoch = some_op op (ops.LookBox t w.collector.epoch) named in
    let at : word ≡ slice_index_or w.crossing (t - 1) 0 = m.found ∙ ap (cell (cells_of w)) its in
    let left : left_by w.collector word (box w t) (Looking t) ≡ box w t = cond-false (word == crossing_word w.collector.epoch Retired) (collectors.spare w.collector) (box w t) (ne_eqb word (crossing_word w.collector.epoch Retired) other) in
    let same_word : written (ops.LookBox t w.collector.epoch) word ≡ word = ap (λ (l : Looked). looks.left_by l word) stays in
    let crossing : slice_set w.crossing (t - 1) (written (ops.LookBox t w.collector.epoch) word) ≡ w.crossing = ap (slice_set w.crossing (t - 1)) (same_word ∙ at) ∙ set-get_or w.crossing (t - 1) 0 in
    subst (IsKept true) (sym (plain_left w op word q (Looking t) looking left))
    (subst (λ o. IsKept true (record (collected w o word q (box w 1)) { boxes = w.boxes })) (sym its)
    (subst (λ cs. IsKept true (record w { crossing = cs; collector = q })) (sym crossing) (subst (λ x. IsKept true (record w { collector = x })) (sym same) m.kept)))
rule_kept w op word q turn m (Step.gather t looking takes named g) =
    let crossed : word ≡ crossing_word w.collector.epoch Retired = takes_retired w t m.kept looking op word named m.found takes in
    let its : op ≡ ops.LookBox t w.collector.epoch = some_op op (ops.LookBox t w.collector.epoch) named in
    let at : word ≡ slice_index_or w.crossing (t - 1) 0 = m.found ∙ ap (cell (cells_of w)) its in
    let epoch : w.collector.epoch ≡ w.epoch = m.kept.collector.epoch in
    let now = now_at w (Looking t) m.kept looking in
    let is : IsMutator w.config t = mutator_at w t (Looking t) m.kept looking (now.first, now.there) in
    let has : crossing_of w t ≡ crossing_word w.epoch Retired = sym at ∙ crossed ∙ ap (λ n. crossing_word n Retired) epoch in
    let b : Bool = word == crossing_word w.collector.epoch Retired in
    let yes : b ≡ true = eq-eqb word (crossing_word w.collector.epoch Retired) crossed in
    let next : written (ops.LookBox t w.collector.epoch) word ≡ crossing_word w.epoch WithCollector = plain_look_leaves t w.collector.epoch word (found_small w t m.kept looking op word named m.found) ∙ cond-true b (crossing_word w.collector.epoch WithCollector) word yes ∙ ap (λ n. crossing_word n WithCollector) epoch in
    let after : q ≡ record w.collector { newer = slice_set w.collector.newer (t - 1) (box w t); phase = Returning t; turns = w.collector.turns + 1 }
    = g.after ∙ ap (λ (phase : Phase). record w.collector { newer = slice_set w.collector.newer (t - 1) (box w (looked_at phase)); phase = Returning t; turns = w.collector.turns + 1 }) looking in
    let whole = gathered_kept w t m.kept looking is has (subst collector_kept.IsMachine after m.machine) in
    let leaves : Phase → Core = λ f. collected (record w { collector = record w.collector { phase = f } }) op word q (left_by w.collector word (box w (looked_at f)) f) in
    subst (IsKept true) (sym (ap leaves looking))
    (subst (λ o. IsKept true (collected (record w { collector = record w.collector { phase = Looking t } }) o word q (left_by w.collector word (box w t) (Looking t)))) (sym its)
    (subst (λ (x : Contents). IsKept true (record w { crossing = slice_set w.crossing (t - 1) (written (ops.LookBox t w.collector.epoch) word); boxes = slice_set w.boxes (t - 1) x; collector = q })) (sym (cond-true b (collectors.spare w.collector) (box w t) yes))
    (subst (λ (n : ℕ). IsKept true (record w { crossing = slice_set w.crossing (t - 1) n; boxes = slice_set w.boxes (t - 1) (collectors.spare w.collector); collector = q })) (sym next)
    (subst (λ x. IsKept true (record w { crossing = slice_set w.crossing (t - 1) (crossing_word w.epoch WithCollector); boxes = slice_set w.boxes (t - 1) (collectors.spare w.collector); collector = x })) (sym after) whole))))
rule_kept w op word q turn m (Step.give_back t next returning named found g) =
    let its : op ≡ ops.ReturnBox t w.collector.epoch = some_op op (ops.ReturnBox t w.collector.epoch) named in
    let epoch : w.collector.epoch ≡ w.epoch = m.kept.collector.epoch in
    let now = now_at w (Returning t) m.kept returning in
    let is : IsMutator w.config t = mutator_at w t (Returning t) m.kept returning (now.first, now.there) in
    let home : written (ops.ReturnBox t w.collector.epoch) word ≡ crossing_word w.collector.epoch Spare = gives_home w t op word m.kept returning is named m.found in
    let whole = next_kept (giving_back w t) t (giving_back_kept w t m.kept returning is) (length w.collector.newer) refl next found (subst collector_kept.IsMachine g.after m.machine) in
    subst (IsKept true) (sym (plain_left w op word q (Returning t) returning refl))
    (subst (λ o. IsKept true (record (collected w o word q (box w 1)) { boxes = w.boxes })) (sym its)
    (subst (λ n. IsKept true (record w { crossing = slice_set w.crossing (t - 1) n; collector = q })) (sym (home ∙ ap (λ n. crossing_word n Spare) epoch))
    (subst (λ x. IsKept true (record w { crossing = slice_set w.crossing (t - 1) (crossing_word w.epoch Spare); collector = x })) (sym g.after) whole)))
rule_kept w op word q turn m (Step.apply t returning named gone on) =
    let its : op ≡ ops.ReturnBox t w.collector.epoch = some_op op (ops.ReturnBox t w.collector.epoch) named in
    let epoch : w.collector.epoch ≡ w.epoch = m.kept.collector.epoch in
    let now = now_at w (Returning t) m.kept returning in
    let is : IsMutator w.config t = mutator_at w t (Returning t) m.kept returning (now.first, now.there) in
    let returned : written (ops.ReturnBox t w.collector.epoch) word ≡ crossing_word w.collector.epoch Spare = gives_home w t op word m.kept returning is named m.found in
    let u : Core = giving_back w t in
    let home = awaits_kept w u m.kept (Awaits.last t is returning gone) in
    let whole = clears_kept u u.crossing u.words q m.machine turn (applied_lands u (length w.collector.newer) home refl) (clears_in u.collector.phase on) in
    subst (IsKept true) (sym (plain_left w op word q (Returning t) returning refl))
    (subst (λ o. IsKept true (record (collected w o word q (box w 1)) { boxes = w.boxes })) (sym its)
    (subst (λ n. IsKept true (record w { crossing = slice_set w.crossing (t - 1) n; collector = q })) (sym (returned ∙ ap (λ n. crossing_word n Spare) epoch)) whole))
rule_kept w op word q turn m (Step.release release releasing named on) = go release.at refl
  where
    go : (x : Option At) → release.at ≡ x → IsKept true (collected w op word q (left_by w.collector word (box w (looked_at w.collector.phase)) w.collector.phase))
    go None at = let not_so : ◌≡◌ {A = Option Op} (Some op) None = named ∙ ap (release_op_at release.fields) at in absurd (cc)
    go (Some a) at =
        let place : ℕ = place_of a.slot a.field w.config.fields in
        let fields : release.fields ≡ w.config.fields = (now_at w (Releasing release) m.kept releasing).clearing.fields ∙ m.kept.collector.fields in
        let its : op ≡ ops.ClearField place = some_op op (ops.ClearField place) (named ∙ ap (release_op_at release.fields) at ∙ ap (λ n. Some (ops.ClearField (place_of a.slot a.field n))) fields) in
        let found : word ≡ slice_index_or w.words place 0 = m.found ∙ ap (cell (cells_of w)) its in
        let whole = clears_kept w w.crossing (slice_set w.words place 0) q m.machine turn (released_lands w release a m.kept releasing at) (subst (λ n. ClearsOn w.collector q turn (with_released release (parts_of w.collector) n)) found on) in
        subst (IsKept true) (sym (plain_left w op word q (Releasing release) releasing refl)) (subst (λ o. IsKept true (record (collected w o word q (box w 1)) { boxes = w.boxes })) (sym its) whole)
rule_kept w op word q turn m (Step.freeing freeing is_freeing named on) = go freeing.at refl
  where
    go : (x : Option Member) → freeing.at ≡ x → IsKept true (collected w op word q (left_by w.collector word (box w (looked_at w.collector.phase)) w.collector.phase))
    go None at = let not_so : ◌≡◌ {A = Option Op} (Some op) None = named ∙ ap (freeing_op_at freeing.fields) at in absurd (cc)
    go (Some a) at =
        let place : ℕ = place_of a.slot a.field w.config.fields in
        let fields : freeing.fields ≡ w.config.fields = (now_at w (Freeing freeing) m.kept is_freeing).clearing.fields ∙ m.kept.collector.fields in
        let its : op ≡ ops.ClearField place = some_op op (ops.ClearField place) (named ∙ ap (freeing_op_at freeing.fields) at ∙ ap (λ n. Some (ops.ClearField (place_of a.slot a.field n))) fields) in
        let found : word ≡ slice_index_or w.words place 0 = m.found ∙ ap (cell (cells_of w)) its in
        let whole = clears_kept w w.crossing (slice_set w.words place 0) q m.machine turn (freed_lands w freeing a m.kept is_freeing at) (subst (λ n. ClearsOn w.collector q turn (with_freed freeing (parts_of w.collector) n)) found on) in
        subst (IsKept true) (sym (plain_left w op word q (Freeing freeing) is_freeing refl)) (subst (λ o. IsKept true (record (collected w o word q (box w 1)) { boxes = w.boxes })) (sym its) whole)
rule_kept w op word q turn m (Step.trial trial trying named on) =
    let (place, its) = loads_child trial op named in
    let found : word ≡ slice_index_or w.words place 0 = m.found ∙ ap (cell (cells_of w)) its in
    let stays : slice_set w.words place word ≡ w.words = ap (slice_set w.words place) found ∙ set-get_or w.words place 0 in
    let whole = trying_kept w trial m.kept trying place (sym named ∙ ap (λ o. Some o) its) q turn m.machine (subst (λ n. TriesOn w.collector (parts_of w.collector) (tried_of (record { machine = trial; counts = w.collector.counts }) (visible w.collector.counts n)) q turn) found on) in
    subst (IsKept true) (sym (plain_left w op word q (Trying trial) trying refl))
    (subst (λ o. IsKept true (record (collected w o word q (box w 1)) { boxes = w.boxes })) (sym its) (subst (λ ws. IsKept true (record w { words = ws; collector = q })) (sym stays) whole))
rule_kept w op word q turn m (Step.preparation prep preparing named on) =
    let (a, at, due) = loads_due prep op (sym named) in
    let place : ℕ = place_of a.member.slot a.member.field w.config.fields in
    let fields : prep.fields ≡ w.config.fields = (now_at w (Preparing prep) m.kept preparing).fields ∙ m.kept.collector.fields in
    let its : op ≡ ops.LoadChild place = due ∙ ap (λ n. ops.LoadChild (place_of a.member.slot a.member.field n)) fields in
    let found : word ≡ slice_index_or w.words place 0 = m.found ∙ ap (cell (cells_of w)) its in
    let stays : slice_set w.words place word ≡ w.words = ap (slice_set w.words place) found ∙ set-get_or w.words place 0 in
    let whole = preparing_kept w prep m.kept preparing a at q turn m.machine (subst (λ n. PreparesOn w.collector (parts_of w.collector) (loaded_of (record { machine = prep; counts = w.collector.counts }) n) q turn) found on) in
    subst (IsKept true) (sym (plain_left w op word q (Preparing prep) preparing refl))
    (subst (λ o. IsKept true (record (collected w o word q (box w 1)) { boxes = w.boxes })) (sym its) (subst (λ ws. IsKept true (record w { words = ws; collector = q })) (sym stays) whole))
rule_kept w op word q turn m (Step.begin_sweep opening named g) =
    let its : op ≡ ops.AddFreed = some_op op ops.AddFreed named in
    let found : word ≡ w.freed = m.found ∙ ap (cell (cells_of w)) its in
    let more : (word + 1) % 2 ^ 64 ≡ w.freed + 1 = ap (λ n. (n + 1) % 2 ^ 64) found ∙ freed_more w m.kept in
    let whole = began_kept w _ m.kept opening (subst collector_kept.IsMachine (begun_after g.after) m.machine) in
    subst (IsKept true) (sym (plain_left w op word q Opening opening refl))
    (subst (λ o. IsKept true (record (collected w o word q (box w 1)) { boxes = w.boxes })) (sym its)
    (subst (λ n. IsKept true (record w { freed = n; collector = q })) (sym more) (subst (λ x. IsKept true (record w { freed = w.freed + 1; collector = x })) (sym (begun_after g.after)) whole)))
  where
    begun_after : q ≡ record w.collector { counts = (sweeps.started_of w.collector.counts).counts; phase = Sweeping (sweeps.started_of w.collector.counts).due 0; turns = w.collector.turns + 1 }
        → q ≡ record w.collector { phase = Sweeping (sweeps.started_of w.collector.counts).due 0; turns = w.collector.turns + 1 }
    begun_after is = is
rule_kept w op word q turn m (Step.sweep None swept u next sweeping named took follows g) = let not_so : ◌≡◌ {A = Option Op} (Some op) None = named in absurd (cc)
rule_kept w op word q turn m (Step.sweep (Some x) swept u next sweeping named took follows g) =
    let its : op ≡ ops.FreeHeader x = some_op op (ops.FreeHeader x) named in
    let after : q ≡ record w.collector { counts = sweeps.swept w.collector.counts x; freed = w.collector.freed + 1; phase = next; turns = w.collector.turns + 1 }
    = g.after ∙ ap (λ (v : sweeps.Work). record w.collector { counts = v.counts; freed = w.collector.freed + 1; phase = next; turns = w.collector.turns + 1 }) took in
    let whole = swept_kept w swept x m.kept sweeping next (still next follows) (subst collector_kept.IsMachine after m.machine) in
    subst (IsKept true) (sym (plain_left w op word q (Sweeping (Some x) swept) sweeping refl))
    (subst (λ o. IsKept true (record (collected w o word q (box w 1)) { boxes = w.boxes })) (sym its)
    (subst (λ y. IsKept true (record w { headers = slice_set w.headers x 0; collector = y })) (sym after) whole))
  where
    still : (n : Phase) → IsNext swept u n → IsStillSweeping w swept x m.kept sweeping n
    still n (IsNext.more some is) = subst (IsStillSweeping w swept x m.kept sweeping) (sym is) (record { sweeping = refl; way = refl; applied = λ e. refl; older = λ e. refl; stands = λ s. refl; held = λ v. tt; between = tt; some = tt; waits = λ p d h. h })
    still n (IsNext.last none is) = subst (IsStillSweeping w swept x m.kept sweeping) (sym is) (record { sweeping = refl; way = refl; applied = λ e. refl; older = λ e. refl; stands = λ s. refl; held = λ v. tt; between = tt; some = omega arith; waits = λ p d h. h })
rule_kept w op word q turn m (Step.end_sweep swept closing named e) =
    let its : op ≡ ops.AddFreed = some_op op ops.AddFreed named in
    let found : word ≡ w.freed = m.found ∙ ap (cell (cells_of w)) its in
    let more : (word + 1) % 2 ^ 64 ≡ w.freed + 1 = ap (λ n. (n + 1) % 2 ^ 64) found ∙ freed_more w m.kept in
    let whole = ended_kept w swept m.kept closing (subst collector_kept.IsMachine e.after m.machine) in
    subst (IsKept true) (sym (plain_left w op word q (Closing swept) closing refl))
    (subst (λ o. IsKept true (record (collected w o word q (box w 1)) { boxes = w.boxes })) (sym its)
    (subst (λ n. IsKept true (record w { freed = n; collector = q })) (sym more) (subst (λ x. IsKept true (record w { freed = w.freed + 1; collector = x })) (sym e.after) whole)))

-- what holds of a turn without an operation, and of each with one, holds of the turn that comes next
pub turn_case : (w : Core) (P : Option Op → Core → Type 0) → (collector_next.next_of w.collector ≡ None → P None w) → ((op : Op) → ◌≡◌ {A = Option Op} (collector_next.next_of w.collector) (Some op) → P (Some op) (turned_by w op (cell (cells_of w) op)))
    → P (collector_next.next_of w.collector) (turned w)
turn_case w P none some = go (collector_next.next_of w.collector) refl
  where
    go : (x : Option Op) → collector_next.next_of w.collector ≡ x → P x (turned_at w x)
    go None named = none named
    go (Some op) named = some op named

-- a turn leaves the mutators
pub turned_mutators : (w : Core) → (turned w).mutators ≡ w.mutators
turned_mutators w = turn_case w (λ o v. v.mutators ≡ w.mutators) (λ none. refl) (λ op named. refl)
