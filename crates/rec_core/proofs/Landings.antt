-- Where a trial or a preparation has come to, the collection goes on: to the next field, to a preparation, to a sweep, or to its end.
-- Each keeps what every heap keeps.
use Rattle.std.proofs.Common.{◌≡◌, ◌⊎◌, inl, inr, ℕ, ◌+◌, ◌-◌, ◌*◌, ◌<◌, ◌≤◌, if◌then◌else◌, Bool, true, false, List, [], ◌∷◌, Option, None, Some, IsNone, length, map, slice_index_or, refl, sym, ap, subst, ◌∙◌, arith}
use Rattle.std.specs.List.{All, concat, sum_by, flat_map}
use Rattle.std.proofs.Math.ListN.{get_or-map}
use Rattle.std.proofs.lemmas.Bool.{cases_Bool, ltb-true}
use Rattle.std.proofs.lemmas.List.{get_or_default, length-map, length-replicate}
use Rattle.std.proofs.lemmas.List.Elements.{All-head, All-tail, All-nil}
use Rattle.std.proofs.lemmas.List.Sums.{sum_by-cons}
use Rattle.rec_core.proofs.Common.{IsAccounted, HasUncountedReleased, AccountMove, Drops, epoch_of, Write, Dated, dated, Pending, dated_birth, IsMarked, move_uncounted, move_accounted, Contents, Entry, State, slot_at, times, absent, fresh, Slot, times-append, times-nil, released_among, KeepsOthers, prep_started, put_off, with_offers, Parts, new_prep, Begun, parts_of, with_parts, PreparesOn, TriesOn, IsBetween, cleared, ended, moved, Phase, Idle, Trying, Preparing, Opening, Turn, still, IsMutator, Core, is_member, word_loaded, SetsWait, IsLoading, AreSeen, HasCyclesAt, IsMadeIn, IsBufferOf, Handshake, IsHeldAt, stand_at, stand_in, freeing_due, one_if_sweeping, release_due, IsLeft, IsLeftOf, IsSomeSwept, IsKept, Filed, writes_in, births_in, dated_names, applied_at, older_at, buffers, pending, Config}
use Rattle.rec_log.specs.declared.entry.Entry.TheVariants as entries
use Rattle.rec_counts.specs.Counts.{IsKept as IsKeptCounts}
use Rattle.rec_model.proofs.Opened.{named-nones}
use Rattle.rec_trial.specs.Promised.{unloaded}
use Rattle.rec_trial.specs.Rules.{IsReady}
use Rattle.rec_trial.specs.Trial as trials
use Rattle.rec_trial.proofs.Counted.{started_counted}
use Rattle.rec_trial.proofs.Keeps.{KeepsCounts, started_keeps}
use Rattle.rec_trial.proofs.Midway.{times_released}
use Rattle.rec_trial.specs.Postponed.{postponed}
use Rattle.rec_trial.proofs.Postponed.{IsPostponed, postponed_is, postponed_keeps}
use Rattle.rec_trial.proofs.Promised.{begun_promised}
use Rattle.rec_sigma.specs.Prepare as preps
use Rattle.rec_sigma.specs.Prepared as prepared
use Rattle.rec_sigma.proofs.Runs.{Came, came_first, next_set_others, started_is}
use Rattle.rec_sigma.proofs.Kept.{others_kept}
use Rattle.rec_collector.specs.Offered.{KeepsOffered}
use Rattle.rec_collector.specs.Private as collectors
use Rattle.rec_collector.specs.Kept as collector_kept
use Rattle.rec_collector.proofs.Following.{none_released}
use Rattle.rec_collector.proofs.Offering.{where_keeps, where_kept, where_ready, where_green}
use Rattle.rec_core.proofs.Batches.{buffer_there, none_of}
use Rattle.rec_core.proofs.Counts.{slot_in, accounts_with, alike_slots}
use Rattle.rec_core.proofs.CyclesMarked.{trial_leaves_marked}
use Rattle.rec_core.proofs.CyclesPrepared.{fields_begun, sets_wait_prepared}
use Rattle.rec_core.proofs.CyclesTrial.{trial_stands_begun}
use Rattle.rec_core.proofs.CyclesWait.{sets_stand_begun, sets_wait_moved}
use Rattle.rec_core.proofs.Cycling.{none_alive}
use Rattle.rec_core.proofs.Landed.{landed_pending, HasLanded}
use Rattle.rec_core.proofs.Zeros.{landed_empty}
use Rattle.rec_core.proofs.Sums.{share, buffers_sum}
use Rattle.rec_core.proofs.Turns.{phase_moves, stands_as}
use Rattle.rec_collector.proofs.Greens.{KeepsGreens, others_greens}

-- writes of an early epoch weigh nothing, if nothing early does
pub early_writes : (weight : Write → ℕ) (epoch bound : ℕ) (es : List Entry) → epoch < bound → ((e : Write) → epoch_of e.new < bound → weight e ≡ 0) → All (IsMadeIn epoch) es → sum_by weight (writes_in es) ≡ 0
early_writes weight epoch bound [] early none made = refl
early_writes weight epoch bound (entries.Put place new old ∷ es) early none made =
    let at : epoch_of new ≡ epoch = All-head (IsMadeIn epoch) (entries.Put place new old) es made in
    let first : weight (record { place = place; new = new; old = old }) ≡ 0 = none (record { place = place; new = new; old = old }) (omega arith) in
    omega (arith, sum_by-cons weight (record { place = place; new = new; old = old }) (writes_in es), first, early_writes weight epoch bound es early none (All-tail (IsMadeIn epoch) (entries.Put place new old) es made))
early_writes weight epoch bound (entries.Born slot leaf ∷ es) early none made = early_writes weight epoch bound es early none (All-tail (IsMadeIn epoch) (entries.Born slot leaf) es made)

early_births : (weight : Dated → ℕ) (epoch bound : ℕ) (es : List Entry) → epoch < bound → ((d : Dated) → d.epoch < bound → weight d ≡ 0) → sum_by weight (births_in epoch es) ≡ 0
early_births weight epoch bound [] early none = refl
early_births weight epoch bound (entries.Put place new old ∷ es) early none = early_births weight epoch bound es early none
early_births weight epoch bound (entries.Born slot leaf ∷ es) early none =
    omega (arith, sum_by-cons weight (dated_birth epoch (slot + 1) leaf) (births_in epoch es), none (dated_birth epoch (slot + 1) leaf) early, early_births weight epoch bound es early none)

early_names : (weight : Dated → ℕ) (epoch bound : ℕ) (xs : List (Option ℕ)) → epoch < bound → ((d : Dated) → d.epoch < bound → weight d ≡ 0) → sum_by weight (dated_names epoch xs) ≡ 0
early_names weight epoch bound [] early none = refl
early_names weight epoch bound (None ∷ xs) early none = early_names weight epoch bound xs early none
early_names weight epoch bound (Some x ∷ xs) early none =
    omega (arith, sum_by-cons weight (dated epoch (x + 1)) (dated_names epoch xs), none (dated epoch (x + 1)) early, early_names weight epoch bound xs early none)

-- A collection is complete: the older buffers are forgotten, and the newer ones are the older of the next collection.
module _ (w : Core) (c : collectors.Private) (before : Phase) (some : 2 ≤ w.epoch) (older_before : older_at w.epoch before ≡ w.epoch - 2)
    (both : length c.older ≡ w.config.mutators) (filed_older : (t : ℕ) → IsMutator w.config t → IsBufferOf true w.config (w.epoch - 2) (collectors.buffer_at c.older (t - 1))) where
  abbrev amid : Core
  amid = record w { collector = record c { phase = before } }

  abbrev complete : (turns collections : ℕ) → Core
  complete turns collections = record w { collector = record c { phase = Idle; turns = turns; collections = collections; newer = map cleared c.older; older = c.newer } }

  -- cleared buffers add nothing
  cleared_row : {Y : Type 0} (g : Y → ℕ) (f : Filed → List Y) (e : ℕ) → ((b : Contents) → share g f e (cleared b) ≡ 0) → (row : List Contents) → sum_by (share g f e) (map cleared row) ≡ 0
  cleared_row g f e none [] = refl
  cleared_row g f e none (b ∷ row) = omega (arith, sum_by-cons (share g f e) (cleared b) (map cleared row), none b, cleared_row g f e none row)

  -- what is lost
  complete_sums : {Y : Type 0} (g : Y → ℕ) (f : Filed → List Y) (turns collections : ℕ) → ((b : Contents) → share g f (w.epoch - 1) (cleared b) ≡ 0)
      → sum_by g (flat_map f (buffers (complete turns collections))) + sum_by (share g f (w.epoch - 2)) c.older ≡ sum_by g (flat_map f (buffers amid))
  complete_sums g f turns collections none = omega (
    arith,
    buffers_sum g f (complete turns collections),
    buffers_sum g f amid,
    cleared_row g f (w.epoch - 1) none c.older,
    ap (λ e. sum_by (share g f e) c.older) older_before,
  )

  cleared_names : (g : Dated → ℕ) (e : ℕ) (b : Contents) → sum_by g (dated_names e (cleared b).snapshot) ≡ 0
  cleared_names g e b = ap (λ (ns : List ℕ). sum_by g (map (λ (slot : ℕ). dated e (slot + 1)) ns)) (named-nones (length b.snapshot))

  pub complete_drops : (words : List ℕ) (s : State) (turns collections : ℕ)
      → Drops (record (accounts_with (pending amid) words s) { applied = w.epoch - 1 }) (accounts_with (pending (complete turns collections)) words s)
  complete_drops words s turns collections = record {
    writes = (
      λ weight. omega (arith, complete_sums weight (λ (b : Filed). writes_in b.buffer.entries) turns collections (λ b. refl)),
      λ weight none. omega (
        arith,
        complete_sums weight (λ (b : Filed). writes_in b.buffer.entries) turns collections (λ b. refl),
        none_of (share weight (λ (b : Filed). writes_in b.buffer.entries) (w.epoch - 2)) c.older (collectors.blank 0 0) (λ i below. early_writes weight (w.epoch - 2) (w.epoch - 1) (slice_index_or c.older i (collectors.blank 0 0)).entries (omega arith) none (buffer_there w.config (w.epoch - 2) c.older both filed_older i below).made),
      ),
    );
    births = (
      λ weight. omega (arith, complete_sums weight (λ (b : Filed). births_in b.epoch b.buffer.entries) turns collections (λ b. refl)),
      λ weight none _. omega (
        arith,
        complete_sums weight (λ (b : Filed). births_in b.epoch b.buffer.entries) turns collections (λ b. refl),
        none_of (share weight (λ (b : Filed). births_in b.epoch b.buffer.entries) (w.epoch - 2)) c.older (collectors.blank 0 0) (λ i below. early_births weight (w.epoch - 2) (w.epoch - 1) (slice_index_or c.older i (collectors.blank 0 0)).entries (omega arith) none),
      ),
    );
    snapshots = (
      λ weight. omega (arith, complete_sums weight (λ (b : Filed). dated_names b.epoch b.buffer.snapshot) turns collections (cleared_names weight (w.epoch - 1))),
      λ weight none _. omega (
        arith,
        complete_sums weight (λ (b : Filed). dated_names b.epoch b.buffer.snapshot) turns collections (cleared_names weight (w.epoch - 1)),
        none_of (share weight (λ (b : Filed). dated_names b.epoch b.buffer.snapshot) (w.epoch - 2)) c.older (collectors.blank 0 0) (λ i below. early_names weight (w.epoch - 2) (w.epoch - 1) (slice_index_or c.older i (collectors.blank 0 0)).snapshot (omega arith) none),
      ),
    );
    words = λ weight. refl;
    registers = λ weight. refl;
    epochs = record { fields = refl; applied = refl; requested = refl };
    slots = record { count = λ x _. refl; free = λ x _. refl; released = λ x _. refl; leaf = λ x _. refl };
  }

-- counts that count and release alike give the same accounts
alike_drops : (p : Pending) (words : List ℕ) (s t : State) → ((node : ℕ) → ((slot_in t node).count ≡ (slot_in s node).count) × ((slot_in t node).released ≡ (slot_in s node).released)) → Drops (accounts_with p words s) (accounts_with p words t)
alike_drops p words s t same = record {
  writes = (λ weight. omega arith, λ weight _. refl);
  births = (λ weight. omega arith, λ weight _ _. refl);
  snapshots = (λ weight. omega arith, λ weight _ _. refl);
  words = λ weight. refl;
  registers = λ weight. refl;
  epochs = record { fields = refl; applied = refl; requested = refl };
  slots = record { count = λ x _. (same x).0; free = λ x _. refl; released = λ x _. (same x).1; leaf = λ x _. refl };
}

-- a row of cleared buffers is one of spares of this size
pub cleared_buffer : (config : Config) (epoch e : ℕ) (b : Contents) → IsBufferOf true config e b → IsBufferOf true config epoch (cleared b)
cleared_buffer config epoch e b is = record { snapshot = length-replicate (length b.snapshot) None ∙ is.snapshot; capacity = is.capacity; few = omega arith; made = All-nil (IsMadeIn epoch) }

-- Counts with the same slots, as far as counting and releasing go; and what gets into the free list is released.
pub record IsAlike (s t : State) : Type 0 where
  pub slots : length t.slots ≡ length s.slots
  pub count : (x : ℕ) → (slot_at t x).count ≡ (slot_at s x).count
  pub released : (x : ℕ) → (slot_at t x).released ≡ (slot_at s x).released
  pub free : (x : ℕ) → 0 < times x t.free → (0 < times x s.free) ⊎ ((slot_at s x).released ≡ true)
  -- and no slot becomes Green
  pub greens : KeepsGreens s t

-- a trial leaves such counts,
pub tried_alike : (s t : State) → KeepsCounts s t → IsAlike s t
tried_alike s t k = record {
  slots = k.slots;
  greens = λ x green. sym (k.green x) ∙ green;
  count = k.counts;
  released = k.released;
  free = λ x some. elim (cases_Bool (slot_at s x).released) [
    | inl is ↦ inr is
    | inr is ↦
        let none : times x (released_among s s.roots) ≡ 0 = times_released x s s.roots ∙ ap (λ b. if b then times x s.roots else 0) is in
        inl (omega (arith, some, none, ap (times x) k.free, times-append x t.free (released_among s t.roots), times-append x s.free (released_among s s.roots)))
  ];
}

-- and so does a preparation
pub prepared_alike : (s t : State) → KeepsOthers s t → IsAlike s t
prepared_alike s t k = record {
  slots = k.many;
  greens = others_greens s t k;
  count = λ x. ap (λ (v : Slot). v.count) (k.slots x);
  released = λ x. ap (λ (v : Slot). v.released) (k.slots x);
  free = λ x some. inl (subst (λ xs. 0 < times x xs) k.free some);
}

pub landed_drops : (w : Core) (words : List ℕ) (s t : State) → IsAlike s t → Drops (landed_pending w words s) (landed_pending w words t)
landed_drops w words s t same = alike_drops (record (pending w) { applied = w.epoch - 1 }) words s t (alike_slots s t same.slots same.count same.released)

-- and so does offering every slot to a trial
offered_alike : (s t : State) → KeepsOffered s t → KeepsGreens s t → IsAlike s t
offered_alike s t k greens = record {
  slots = k.rest.slots;
  greens = greens;
  count = k.counts;
  released = k.rest.released;
  free = λ x some. inl (subst (λ xs. 0 < times x xs) k.rest.free some);
}

-- Where a collection has come to with nothing begun, it has come to with such counts.
pub landed_alike : {w : Core} {crossing words : List ℕ} {v : Parts} → HasLanded w crossing words (still v) → (t : State) → IsAlike v.counts t → IsKeptCounts t → HasLanded w crossing words (still (record v { counts = t }))
landed_alike {w} {crossing} {words} {v} l t same counts =
    let move : AccountMove (landed_pending w words v.counts) (landed_pending w words t) = AccountMove.dropping (landed_drops w words v.counts t same) in
    record {
      stands = l.stands;
      kept = l.kept;
      way = l.way;
      still = l.still;
      older = l.older;
      mutators = l.mutators;
      accounted = move_accounted move l.accounted;
      uncounted = λ none. move_uncounted move l.accounted (l.uncounted refl);
      sound = l.sound;
      greens = λ x green. l.greens x (same.greens x green);
      many_words = l.many_words;
      slots = same.slots ∙ l.slots;
      fields = l.fields;
      policy = l.policy;
      counts = counts;
      listed = λ x some. same.released x ∙ elim (same.free x some) [ inl there ↦ l.listed x there | inr is ↦ is ];
      emptied = λ x f below within released. inr (inr (landed_empty l x f below within (sym (same.released x) ∙ released)));
    }

-- a phase in which nothing is released or freed is one in which nothing of that is begun
landed_in : {w : Core} {crossing words : List ℕ} (v : Parts) (phase : Phase) → release_due phase ≡ None → freeing_due phase ≡ None → HasLanded w crossing words (still v) → HasLanded w crossing words (record { parts = v; phase = Some phase })
landed_in {w} {crossing} {words} v phase unreleased unfreed l = record {
  stands = l.stands;
  kept = l.kept;
  way = l.way;
  still = l.still;
  older = l.older;
  mutators = l.mutators;
  accounted = l.accounted;
  uncounted = λ none. l.uncounted refl;
  sound = l.sound;
  greens = l.greens;
  many_words = l.many_words;
  slots = l.slots;
  fields = l.fields;
  policy = l.policy;
  counts = l.counts;
  listed = l.listed;
  emptied = λ x f below within released. inr (inr (landed_empty l x f below within released));
}

pub landed_still : {w : Core} {crossing words : List ℕ} (v : Parts) (phase : Phase) → release_due phase ≡ None → freeing_due phase ≡ None → HasLanded w crossing words (record { parts = v; phase = Some phase }) → HasLanded w crossing words (still v)
landed_still {w} {crossing} {words} v phase unreleased unfreed l = record {
  stands = l.stands;
  kept = l.kept;
  way = l.way;
  still = l.still;
  older = l.older;
  mutators = l.mutators;
  accounted = l.accounted;
  uncounted = λ none. l.uncounted unfreed;
  sound = l.sound;
  greens = l.greens;
  many_words = l.many_words;
  slots = l.slots;
  fields = l.fields;
  policy = l.policy;
  counts = l.counts;
  listed = l.listed;
  emptied = λ x f below within released. elim (l.emptied x f below within released) [
    | inl left ↦ absurd (subst (λ o. IsLeft o x f) unreleased left)
    | inr rest ↦ elim rest [ inl left ↦ absurd (subst (λ o. IsLeftOf v.counts.work o x f) unfreed left) | inr none ↦ inr (inr none) ]
  ];
}

-- whether every slot is to be offered to the next trial doesn't matter to it, nor how many trials were postponed
landed_asked : {w : Core} {crossing words : List ℕ} {v : Parts} → HasLanded w crossing words (still v) → (offers : Bool) (postponed : ℕ) → HasLanded w crossing words (still (record v { offers = offers; postponed = postponed }))
landed_asked l offers postponed = record {
  stands = l.stands;
  kept = l.kept;
  way = l.way;
  still = l.still;
  older = l.older;
  mutators = l.mutators;
  accounted = l.accounted;
  uncounted = l.uncounted;
  sound = l.sound;
  greens = l.greens;
  many_words = l.many_words;
  slots = l.slots;
  fields = l.fields;
  policy = l.policy;
  counts = l.counts;
  listed = l.listed;
  emptied = l.emptied;
}

-- every slot is offered where that was asked for
pub landed_offered : {w : Core} {crossing words : List ℕ} {v : Parts} → HasLanded w crossing words (still v) → HasLanded w crossing words (still (with_offers v))
landed_offered {w} {crossing} {words} {v} l =
    let s : State = (with_offers v).counts in
    landed_asked (landed_alike l s (offered_alike v.counts s (where_keeps v.offers v.counts) (λ x green. sym (where_green v.offers v.counts x) ∙ green)) (where_kept v.offers v.counts l.counts)) false 0

-- where there is no set, nothing is asked of its members
no_member : (s : State) → s.sets ≡ [] → (node : ℕ) → is_member s node ≡ true → ⊥
no_member s none node is = omega (arith, ltb-true 0 (times (node - 1) (concat s.sets)) is, ap (λ xss. times (node - 1) (concat xss)) none, times-nil (node - 1))

none_marked : (p : Pending) (s : State) → s.sets ≡ [] → (mark : ℕ → ℕ) → IsMarked p (is_member s) mark
none_marked p s none mark = record {
  stands = λ place node inside some is. absurd (no_member s none node is);
  counted = λ node some is. absurd (no_member s none node is);
  blackened = λ place node inside some is out. absurd (no_member s none node is);
}

-- one turn more, and another phase, change nothing of what is known of the sets in that phase
came_cycles : (p : Pending) (c : collectors.Private) (phase : Phase) → HasCyclesAt p c phase → HasCyclesAt p (moved c phase) phase
came_cycles p c (Trying m) h = h
came_cycles p c _ h = h

-- a phase of a collection that has applied its batch: every mailbox is home, and nothing is swept yet
pub record IsUnswept (requested : ℕ) (phase : Phase) : Type 0 where
  pub way : collector_kept.under_way phase ≡ 1
  pub still : one_if_sweeping phase ≡ 0
  pub applied : applied_at requested phase ≡ requested - 1
  pub older : older_at requested phase ≡ requested - 2
  pub stands : (s : ℕ) → stand_in phase s ≡ Handshake.Done
  pub held : (v : Core) → IsHeldAt v phase
  pub between : IsBetween phase
  pub some : IsSomeSwept phase

-- in such a phase, the batch of the last epoch is applied
pub here_pending : (w : Core) (phase : Phase) → w.collector.phase ≡ phase → IsUnswept w.epoch phase → pending w ≡ landed_pending w w.words w.collector.counts
here_pending w phase is on = ap (λ (n : ℕ). let p : Pending = record (pending w) { applied = n } in p) (ap (applied_at w.epoch) is ∙ on.applied)

-- the requested epoch is the next one
pub here_done : (w : Core) → IsKept true w → w.epoch - 1 + 1 ≡ w.epoch
here_done w kept =
    let first : 1 ≤ w.config.first_epoch = kept.config.some_epoch in
    omega (arith, first, kept.collector.begun)

-- in such a phase, a collection has come to where it is
pub lands_here : (w : Core) (phase : Phase) → IsKept true w → w.collector.phase ≡ phase → IsUnswept w.epoch phase → HasLanded w w.crossing w.words (record { parts = parts_of w.collector; phase = Some w.collector.phase })
lands_here w phase kept is on =
    let k = kept.collector in
    let same : pending w ≡ landed_pending w w.words w.collector.counts = here_pending w phase is on in
    record {
      stands = stand_at w.collector.left w.collector.phase;
      kept = kept.whole;
      way = ap collector_kept.under_way is ∙ on.way;
      still = ap one_if_sweeping is ∙ on.still;
      older = ap (older_at w.epoch) is ∙ on.older;
      mutators = phase_moves kept.mutators (λ s there. stands_as w.collector.left s (sym (ap (λ f. stand_in f s) is ∙ on.stands s)));
      accounted = subst IsAccounted same kept.accounted;
      uncounted = λ unfreed. subst HasUncountedReleased same (kept.uncounted unfreed);
      sound = kept.sound;
      greens = kept.greens;
      many_words = refl;
      slots = k.slots;
      fields = k.fields;
      policy = k.policy;
      counts = k.machine.counts;
      listed = k.listed;
      emptied = k.emptied;
    }

-- A preparation that begins keeps what it doesn't concern.
pub prep_others : (v : Parts) → KeepsOthers v.counts (prep_started v).counts
unfolding preps.started_of
prep_others v = next_set_others v.counts 0

module _ (w : Core) (crossing words : List ℕ) (q : collectors.Private) (machine : collector_kept.IsMachine q) where
  abbrev landed : Core
  landed = record w { crossing = crossing; words = words; collector = q }

  -- the collection goes on
  pub goes_on : (v : Parts) (next : Phase) → HasLanded w crossing words (record { parts = v; phase = Some next }) → IsUnswept w.epoch next → HasCyclesAt (landed_pending w words v.counts) (with_parts w.collector v) next → q ≡ moved (with_parts w.collector v) next → IsKept true landed
  goes_on v next l on cycles is =
      let k = l.kept.collector in
      let c : collectors.Private = moved (with_parts w.collector v) next in
      let same : pending (record w { crossing = crossing; words = words; collector = c }) ≡ landed_pending w words v.counts = rw (on.applied, on.older, l.older) refl in
      let whole : IsKept true (record w { crossing = crossing; words = words; collector = c }) = record {
        whole = record {
          config = l.kept.config;
          headers = l.kept.headers;
          labels = l.kept.labels;
          mutators = phase_moves l.mutators (λ s there. stands_as w.collector.left s (on.stands s));
          collector = record {
            machine = subst collector_kept.IsMachine is machine;
            between = on.between;
            slots = l.slots;
            fields = l.fields;
            registers = k.registers;
            capacity = k.capacity;
            policy = l.policy;
            mutators = k.mutators;
            epoch = k.epoch;
            begun = omega (arith, k.begun, l.way, on.way);
            newer = k.newer;
            older = λ s there. subst (λ e. IsBufferOf true w.config e (collectors.buffer_at w.collector.older (s - 1))) (l.older ∙ sym on.older) (k.older s there);
            listed = l.listed;
            emptied = l.emptied;
          };
          sweeps = record { odd = l.kept.sweeps.odd ∙ l.still ∙ sym on.still; few = omega (arith, l.kept.sweeps.few, l.still); some = on.some };
          learnt = l.kept.learnt;
          made = l.kept.made;
          sound = l.sound;
          greens = l.greens;
          accounted = subst IsAccounted (sym same) l.accounted;
          uncounted = λ none. subst HasUncountedReleased (sym same) (l.uncounted none);
          cycles = subst (λ p. HasCyclesAt p c next) (sym same) (came_cycles (landed_pending w words v.counts) (with_parts w.collector v) next cycles);
        };
        held = on.held (record w { crossing = crossing; words = words; collector = c });
        behind = tt;
      } in
      subst (λ (x : collectors.Private). IsKept true (record w { crossing = crossing; words = words; collector = x })) (sym is) whole

  -- the collection is complete
  completes : (v : Parts) → HasLanded w crossing words (still v) → SetsWait (landed_pending w words v.counts) v.counts → q ≡ ended (with_parts w.collector v) → IsKept true landed
  completes v l waits is =
      let k = l.kept.collector in
      let c : collectors.Private = ended (with_parts w.collector v) in
      let its : collector_kept.IsMachine c = subst collector_kept.IsMachine is machine in
      let both : length w.collector.older ≡ w.config.mutators = k.machine.both ∙ k.mutators in
      let older : (t : ℕ) → IsMutator w.config t → IsBufferOf true w.config (w.epoch - 2) (collectors.buffer_at w.collector.older (t - 1))
      = λ s there. subst (λ e. IsBufferOf true w.config e (collectors.buffer_at w.collector.older (s - 1))) l.older (k.older s there) in
      let some_epochs : 2 ≤ w.epoch = (let first : 1 ≤ w.config.first_epoch = l.kept.config.some_epoch in omega (arith, k.begun, l.way)) in
      let drops : Drops (landed_pending w words v.counts) (pending (record w { crossing = crossing; words = words; collector = c }))
      = complete_drops w w.collector w.collector.phase some_epochs l.older both older words v.counts 0 (w.collector.collections + 1) in
      let whole : IsKept true (record w { crossing = crossing; words = words; collector = c }) = record {
        whole = record {
          config = l.kept.config;
          headers = l.kept.headers;
          labels = l.kept.labels;
          mutators = phase_moves l.mutators (λ s there. refl);
          collector = record {
            machine = its;
            between = tt;
            slots = l.slots;
            fields = l.fields;
            registers = k.registers;
            capacity = k.capacity;
            policy = l.policy;
            mutators = length-map w.collector.older cleared ∙ both;
            epoch = k.epoch;
            begun = omega (arith, k.begun, l.way);
            newer = λ s there.
                let at : slice_index_or (map cleared w.collector.older) (s - 1) (cleared (collectors.blank 0 0)) ≡ cleared (collectors.buffer_at w.collector.older (s - 1)) = get_or-map cleared w.collector.older (s - 1) (collectors.blank 0 0) in
                subst (IsBufferOf true w.config (w.epoch - 1)) (sym at) (cleared_buffer w.config (w.epoch - 1) (w.epoch - 2) (collectors.buffer_at w.collector.older (s - 1)) (older s there));
            older = k.newer;
            listed = l.listed;
            emptied = l.emptied;
          };
          sweeps = record { odd = l.kept.sweeps.odd ∙ l.still; few = omega (arith, l.kept.sweeps.few, l.still); some = tt };
          learnt = l.kept.learnt;
          made = l.kept.made;
          sound = l.sound;
          greens = l.greens;
          accounted = move_accounted (AccountMove.dropping drops) l.accounted;
          uncounted = λ none. move_uncounted (AccountMove.dropping drops) l.accounted (l.uncounted refl);
          cycles = sets_wait_moved v.counts (AccountMove.dropping drops) tt l.accounted (none_alive v.counts (none_released its.now.0)) waits;
        };
        held = tt;
        behind = tt;
      } in
      subst (λ (x : collectors.Private). IsKept true (record w { crossing = crossing; words = words; collector = x })) (sym is) whole

  -- all fields, by the slots of the counts
  places_landed : {b : Begun} → HasLanded w crossing words b → (slots : ℕ) → length b.parts.counts.slots ≡ slots → length words ≡ slots * w.config.fields
  places_landed l slots many = l.many_words ∙ l.kept.sound.places ∙ ap (λ n. n * w.config.fields) (l.kept.headers ∙ sym l.slots ∙ many)

  -- whatever follows a preparation
  pub prepares_kept : (v : Parts) (u : preps.Work) (turn : Turn) → HasLanded w crossing words (still (record v { counts = u.counts })) → AreSeen (landed_pending w words u.counts) u.counts u.machine → PreparesOn w.collector v u q turn → IsKept true landed
  prepares_kept v u turn l seen on = go on
    where
      its : Parts
      its = record v { counts = u.counts }

      waits : u.machine.at ≡ None → SetsWait (landed_pending w words u.counts) u.counts
      waits done =
          let all : prepared.PreparedTo w.config.fields seen.before None u.counts seen.loads = subst (λ a. prepared.PreparedTo w.config.fields seen.before a u.counts seen.loads) done seen.prepares in
          sets_wait_prepared (landed_pending w words u.counts) seen.before u.counts seen.loads seen.before_kept (places_landed l (length seen.before.slots) all.others.many) seen.fields all seen.stands

      go : PreparesOn w.collector v u q turn → IsKept true landed
      go (PreparesOn.more some g) = goes_on its (Preparing u.machine) (landed_in its (Preparing u.machine) refl refl l) (record { way = refl; still = refl; applied = refl; older = refl; stands = λ s. refl; held = λ v. tt; between = tt; some = tt }) seen g.after
      go (PreparesOn.sweeps_next none some g) = goes_on its Opening (landed_in its Opening refl refl l) (record { way = refl; still = refl; applied = refl; older = refl; stands = λ s. refl; held = λ v. tt; between = tt; some = tt }) (waits none) g.after
      go (PreparesOn.completes none free e) = completes its l (waits none) e.after

  pub prep_lands : (v : Parts) → HasLanded w crossing words (still v) → HasLanded w crossing words (still (record v { counts = (prep_started v).counts }))
  prep_lands v l =
      let u : preps.Work = prep_started v in
      let others : KeepsOthers v.counts u.counts = prep_others v in
      landed_alike l u.counts (prepared_alike v.counts u.counts others) (others_kept v.counts u.counts others l.counts)

  prep_seen : (v : Parts) (m : trials.Machine) → HasLanded w crossing words (still v) → IsLoading (landed_pending w words v.counts) v.counts m → trials.next_of m ≡ None
      → AreSeen (landed_pending w words (prep_started v).counts) (prep_started v).counts (prep_started v).machine
  prep_seen v m l loading over =
      let u : preps.Work = prep_started v in
      let others : KeepsOthers v.counts u.counts = prep_others v in
      let p : Pending = landed_pending w words u.counts in
      let some : 1 ≤ w.config.fields = l.kept.config.some_fields in
      let same : v.fields ≡ w.config.fields = l.fields in
      let came : Came w.config.fields v.counts (preps.work_of w.config.fields (preps.next_set v.counts 0)) [] = came_first w.config.fields v.counts some l.counts.numbers in
      let counts : loading.run.work.counts ≡ v.counts = ap (λ (x : trials.Work). x.counts) loading.at in
      let done : IsNone (trials.next_of loading.run.work.machine) = subst (λ (x : trials.Work). IsNone (trials.next_of x.machine)) (sym loading.at) (subst (λ o. IsNone o) (sym over) refl) in
      let many : length v.counts.slots ≡ length loading.before.slots = ap (λ (x : State). length x.slots) (sym counts) ∙ loading.trial.careful.slots in
      let marked : IsMarked p (is_member loading.run.work.counts) (word_loaded w.config.fields loading.run.marking)
      = trial_leaves_marked p w.config.fields loading.before loading.words loading.run loading.trial done refl (places_landed l (length loading.before.slots) many)
      (λ x below. slot_counted u.counts x (omega (arith, below, many, others.many)) ∙ ap (λ (y : Slot). y.count) (others.slots x) ∙ ap (λ (y : State). (slot_at y x).count) (sym counts) ∙ loading.trial.careful.counts x)
      (record { marks = loading.stands.marks; blacks = loading.stands.blacks; unmarked = loading.stands.unmarked }) in
      record {
        before = v.counts;
        before_kept = l.counts;
        loads = [];
        prepares = subst (λ (x : preps.Work). prepared.PreparedTo w.config.fields v.counts x.machine.at x.counts []) (sym (started_is (new_prep v.fields) v.counts)) came.law;
        fields = fields_begun w.config.fields;
        stands = sets_stand_begun p v.counts u.counts loading.run.marking others (subst (λ (y : State). IsMarked p (is_member y) (word_loaded w.config.fields loading.run.marking)) counts marked);
      }
    where
      slot_counted : (s : State) (x : ℕ) → x < length s.slots → (slot_in s (x + 1)).count ≡ (slot_at s x).count
      slot_counted s x below =
          let at : x + 1 - 1 ≡ x = omega arith in
          ap (λ n. (slice_index_or s.slots n fresh).count) at ∙ ap (λ (y : Slot). y.count) (get_or_default s.slots x fresh absent below)

  -- the same where no set was found
  none_seen : (v : Parts) → HasLanded w crossing words (still v) → v.counts.sets ≡ [] → AreSeen (landed_pending w words (prep_started v).counts) (prep_started v).counts (prep_started v).machine
  none_seen v l none =
      let u : preps.Work = prep_started v in
      let some : 1 ≤ w.config.fields = l.kept.config.some_fields in
      let came : Came w.config.fields v.counts (preps.work_of w.config.fields (preps.next_set v.counts 0)) [] = came_first w.config.fields v.counts some l.counts.numbers in
      record {
        before = v.counts;
        before_kept = l.counts;
        loads = [];
        prepares = subst (λ (x : preps.Work). prepared.PreparedTo w.config.fields v.counts x.machine.at x.counts []) (sym (started_is (new_prep v.fields) v.counts)) came.law;
        fields = fields_begun w.config.fields;
        stands = sets_stand_begun (landed_pending w words u.counts) v.counts u.counts [] (prep_others v) (none_marked (landed_pending w words u.counts) v.counts none (word_loaded w.config.fields []));
      }

  -- whatever follows a trial
  pub tries_kept : (v : Parts) (u : trials.Work) (turn : Turn) → HasLanded w crossing words (still (record v { counts = u.counts })) → IsLoading (landed_pending w words u.counts) u.counts u.machine → TriesOn w.collector v u q turn → IsKept true landed
  tries_kept v u turn l loading (TriesOn.more some g) = goes_on (record v { counts = u.counts }) (Trying u.machine) (landed_in (record v { counts = u.counts }) (Trying u.machine) refl refl l) (record { way = refl; still = refl; applied = refl; older = refl; stands = λ s. refl; held = λ v. tt; between = tt; some = tt }) loading g.after
  tries_kept v u turn l loading (TriesOn.prepares over on) =
      let its : Parts = record v { counts = u.counts } in
      prepares_kept its (prep_started its) turn (prep_lands its l) (prep_seen its u.machine l loading over) on

  -- where nothing is left to release or to test, a trial begins
  trial_begins_on : (v : Parts) (turn : Turn) → HasLanded w crossing words (still v) → IsReady v.counts → TriesOn w.collector v (trials.started_of v.fields v.counts) q turn → IsKept true landed
  trial_begins_on v turn l ready on =
      let some : 1 ≤ w.config.fields = l.kept.config.some_fields in
      let same : v.fields ≡ w.config.fields = l.fields in
      let wide : 0 < v.fields = omega (arith, some, same) in
      let u : trials.Work = trials.started_of v.fields v.counts in
      tries_kept v u turn
      (landed_alike l u.counts (tried_alike v.counts u.counts (started_keeps v.fields v.counts wide ready)) (started_counted v.fields v.counts wide l.counts ready))
      (record {
        before = v.counts;
        words = [];
        run = unloaded u;
        trial = begun_promised w.config.fields v.counts u some ready (ap (λ n. trials.started_of n v.counts) same);
        at = refl;
        stands = trial_stands_begun (landed_pending w words u.counts) u;
      })
      on

  -- or it is postponed
  pub trial_waits : (v : Parts) (turn : Turn) → HasLanded w crossing words (still v) → IsReady v.counts → PreparesOn w.collector (put_off v) (prep_started (put_off v)) q turn → IsKept true landed
  trial_waits v turn l ready on =
      let s : State = postponed v.counts in
      let is : IsPostponed v.counts s = postponed_is v.counts l.counts ready in
      let there : HasLanded w crossing words (still (put_off v)) = landed_asked (landed_alike l s (tried_alike v.counts s (postponed_keeps v.counts l.counts ready)) is.kept) v.offers (v.postponed + 1) in
      prepares_kept (put_off v) (prep_started (put_off v)) turn (prep_lands (put_off v) there) (none_seen (put_off v) there (is.waits.sets ∙ ready.sets)) on

  -- once every slot was offered to it, where that was asked for
  pub trial_begins : (v : Parts) (turn : Turn) → HasLanded w crossing words (still v) → IsReady v.counts → TriesOn w.collector (with_offers v) (trials.started_of v.fields (with_offers v).counts) q turn → IsKept true landed
  trial_begins v turn l ready on = trial_begins_on (with_offers v) turn (landed_offered l) (where_ready v.offers v.counts ready) on
