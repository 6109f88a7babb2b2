-- What every heap with its collector keeps holds as it is opened from objects.
use Rattle.std.proofs.Common.{◌≡◌, inl, inr, ℕ, zero, suc, ◌+◌, ◌-◌, ◌*◌, ◌<◌, ◌≤◌, ◌==◌, Bool, true, false, if◌then◌else◌, Option, None, Some, List, [], ◌∷◌, All, count_by, length, take, drop, replicate, slice_index_or, refl, sym, ap, subst, ◌∙◌, arith}
use Rattle.std.specs.List.{flat_map, sum_by}
use Rattle.std.proofs.lemmas.Bool.{cases_lt, cond-false, eq-eqb, false≢true, ne_eqb}
use Rattle.std.proofs.lemmas.Bool.Decides.{nat_tests}
use Rattle.std.proofs.lemmas.List.{get_or-map, get_or-replicate, length-replicate}
use Rattle.std.proofs.lemmas.List.Elements.{All-from_get_or, All-head, All-nil, All-tail}
use Rattle.std.proofs.lemmas.List.FromFn.{get_or-map-range_with_len, length-map-range_with_len}
use Rattle.std.proofs.lemmas.List.Sums.{sum_by-cons, sum_by-take-drop}
use Rattle.rec_word.proofs.Headers.{header_taken}
use Rattle.rec_word.specs.Header.{IsTakenHeader}
use Rattle.rec_model.specs.Opened.{IsBeginning}
use Rattle.rec_model.specs.Reach.{is_in, named as named_of}
use Rattle.rec_model.specs.Reach.IsReached.{child, root}
use Rattle.rec_model.proofs.Beginning.{beginning_accounted}
use Rattle.rec_model.proofs.Members.{is_in-cons}
use Rattle.rec_model.proofs.Opened.{named-nones}
use Rattle.rec_model.proofs.Sums.{sum_by_none}
use Rattle.rec_counts.proofs.Opening.{counted_at, each_opened, fresh_behind, keep_from, length-counted}
use Rattle.rec_collector.specs.Kept as collector_kept
use Rattle.rec_collector.specs.Private as collectors
use Rattle.rec_collector.proofs.Following.{none_released}
use Rattle.rec_collector.proofs.Opening.{opened_keeps}
use Rattle.rec_collector.proofs.Rows.{length-rows, row_width}
use Rattle.rec_core.proofs.Common.{Config, Contents, Core, Dated, Filed, Handshake, HasCollector, HasLearnt, IsActor, IsBufferOf, IsConfig, IsHeader, IsKept, IsMachine, IsMadeIn, IsMutator, IsOwn, IsReached, IsTarget, Private, Slot, Spare, beginning_uncounted, births_in, buffers, code, crossing_word, dated, dated_all, dated_names, dated_registers, fresh, has_left, is_green, is_late_snapshot, is_node, is_slot, is_wrong_register, names, nobody, one_if_same, only_if, pending, spare_of, stand_at, sum_at, sum_by-flat_map, sum_by-map, sum_by_same, times-nil, writes_in, sight, Sight, IsSound}
use Rattle.rec_core.proofs.Actors.{spare_buffer}
use Rattle.rec_core.proofs.Batches.{same_name}
use Rattle.rec_core.proofs.CyclesWait.{sets_wait_none}
use Rattle.rec_core.proofs.EarlyWords.{early_names, early_none_late, one_if_slot, one_is}
use Rattle.rec_core.proofs.OpenedFromSeen.{all_targets, below_targets, below_taken, few_fields, free_past, header_at, headers_many, label_fits, seen_sound, taken_below, few_objects}
use Rattle.rec_core.proofs.Seated.{All-rows, holding_at, holding_sum, length-holding, registers_held, rows_sum}
use Rattle.rec_core.proofs.Sums.{buffers_sum, log_share, names_all, share}
use Rattle.rec_core.proofs.Turns.{AddsNothing, births_nothing, snapshots_nothing, spare_boxes, spare_row, writes_nothing}
use Rattle.rec_core.specs.Objects.{AreObjects, HaveLabels, IsOneOf, Objects, counts_of, fields_at, holders, node_at, rows_of}
use Rattle.rec_core.specs.Core.{heap_from_by, holding_by}

-- what is named is held,
named_held : (n : ℕ) (xs : List (Option ℕ)) → is_in n (named_of xs) ≡ true → 0 < count_by (is_slot n) xs
named_held n [] there = absurd (false≢true there)
named_held n (None ∷ xs) there = omega (arith, named_held n xs there, sum_by-cons (one_if_slot n) None xs)
named_held n (Some m ∷ xs) there = elim (is_in-cons n m (named_of xs) there) [
  | inl is ↦
      let own : one_if_slot n (Some m) ≡ 1 = ap (λ (b : Bool). if b then 1 else 0) (eq-eqb n m (sym is)) in
      omega (arith, own, sum_by-cons (one_if_slot n) (Some m) xs)
  | inr rest ↦ omega (arith, named_held n xs rest, sum_by-cons (one_if_slot n) (Some m) xs)
]

-- a part holds no more than the whole,
part_held : (n k j : ℕ) (xs : List (Option ℕ)) → count_by (is_slot n) (take k (drop j xs)) ≤ count_by (is_slot n) xs
part_held n k j xs =
    omega (arith, sum_by-take-drop (one_if_slot n) xs j, sum_by-take-drop (one_if_slot n) (drop j xs) k)

-- and what is none of so many is held by nothing
none_held : (n x : ℕ) (xs : List (Option ℕ)) → n ≤ x → All (IsOneOf n) xs → count_by (is_slot x) xs ≡ 0
none_held n x [] past all = refl
none_held n x (None ∷ xs) past all = omega (arith, sum_by-cons (one_if_slot x) None xs, none_held n x xs past (All-tail (IsOneOf n) None xs all))
none_held n x (Some m ∷ xs) past all =
    let below : m < n = All-head (IsOneOf n) (Some m) xs all in
    let other : one_if_slot x (Some m) ≡ 0 = ap (λ (b : Bool). if b then 1 else 0) (ne_eqb x m (λ e. omega (arith, e, below, past))) in
    omega (arith, other, sum_by-cons (one_if_slot x) (Some m) xs, none_held n x xs past (All-tail (IsOneOf n) (Some m) xs all))

module _ (config : Config) (o : Objects) (is : IsConfig config) (are : AreObjects config o) (labels : HaveLabels o.nodes) where
  abbrev w : Core
  w = heap_from_by true config o

  abbrev many : ℕ
  many = length o.nodes

  abbrev last : ℕ
  last = config.first_epoch - 1

  abbrev rows : List (List (Option ℕ))
  rows = rows_of config.registers config.mutators o.registers

  rows_many : length rows ≡ config.mutators
  rows_many = length-rows config.registers config.mutators o.registers

  some_epoch : 1 ≤ config.first_epoch
  some_epoch = is.some_epoch

  -- each object is counted
  holders_some : (n : ℕ) → IsReached (named_of o.registers) (λ m. named_of (fields_at config.fields o.fields m)) n → 0 < holders o n
  holders_some n (root m there) = omega (arith, named_held n o.registers there)
  holders_some n (child m k from there) =
      omega (arith, named_held n (fields_at config.fields o.fields m) there, part_held n (m * config.fields + config.fields - m * config.fields) (m * config.fields) o.fields)

  counts_many : length (counts_of o) ≡ many
  counts_many = length-map-range_with_len (holders o) 0 many

  pub counts_some : All (λ count. 0 < count) (counts_of o)
  counts_some = All-from_get_or (λ count. 0 < count) (counts_of o) 0 (λ i there.
      let below : i < many = omega (arith, there, counts_many) in
      omega (arith, holders_some i (are.reached i below), get_or-map-range_with_len (holders o) 0 many i i 0 below (omega arith)))

  -- the registers of a mutator
  abbrev row : ℕ → List (Option ℕ)
  row t = slice_index_or rows (t - 1) []

  place_there : (t : ℕ) → IsMutator config t → t - 1 < config.mutators
  place_there t there = omega (arith, there.0, there.1)

  row_long : (t : ℕ) → IsMutator config t → length (row t) ≡ config.registers
  row_long t there = row_width config.registers config.mutators o.registers are.registers (t - 1) (place_there t there)

  pub one_of : {dates : Bool} → (t : ℕ) → IsMutator config t → slice_index_or (heap_from_by dates config o).mutators (t - 1) nobody ≡ holding_by dates config t (row t)
  one_of {dates = dates} t there =
      let number : 1 + (t - 1) ≡ t = omega (arith, there.0) in
      holding_at config 1 rows (t - 1) (omega (arith, place_there t there, rows_many)) ∙ ap (λ n. holding_by dates config n (row t)) number

  -- its machine,
  machine_held : (t : ℕ) → IsMutator config t → IsMachine (holding_by true config t (row t))
  machine_held t there =
      let stamped : config.first_epoch ≤ 16777215 = is.few_epochs in
      record {
        number = omega (arith, there.1, is.few_mutators);
        epoch = omega (arith, stamped);
        stamped = λ _. omega (arith, stamped);
        first_slot = omega (arith, is.some_slots);
        last_slot = omega (arith, is.few_slots);
        capacity = omega (arith, is.few_log_entries);
        entries = omega arith;
        registers = All-rows IsTarget config.registers config.mutators o.registers (below_targets many (few_objects config o is are labels) o.registers are.held) (t - 1) (place_there t there);
        snapshot = length-replicate config.registers None ∙ sym (row_long t there);
        from = omega (arith, is.some_slots);
        now = refl;
      }

  own_held : (t : ℕ) → IsMutator config t → IsOwn true config t (holding_by true config t (row t))
  own_held t there = record {
    number = refl;
    slots = refl;
    fields = refl;
    registers = row_long t there;
    capacity = refl;
    machine = machine_held t there;
    between = tt;
    label = tt;
    idle = λ left. absurd (false≢true left);
    awake = refl;
    dates = refl;
  }

  -- its crossing word and its mailbox
  actor_held : (t : ℕ) → IsMutator config t → IsActor true config config.first_epoch Handshake.Done t (holding_by true config t (row t)) (crossing_word config.first_epoch Spare) (spare_of config)
  actor_held t there = record {
    own = own_held t there;
    log = spare_buffer config config.first_epoch;
    unwritten = named-nones config.registers;
    unmarked = refl;
    let_go = λ gone. absurd (false≢true gone);
    mailbox = spare_buffer config (config.first_epoch - 1);
    handshake = inl (record { epoch = refl; word = omega arith; settled = tt }, refl, refl);
  }

  each_held : (t : ℕ) → IsMutator config t
      → IsActor true config config.first_epoch Handshake.Done t (slice_index_or w.mutators (t - 1) nobody) (slice_index_or w.crossing (t - 1) 0) (slice_index_or w.boxes (t - 1) (collectors.blank 0 0))
  each_held t there =
      let at = place_there t there in
      subst (λ (p : Private). IsActor true config config.first_epoch Handshake.Done t p (slice_index_or w.crossing (t - 1) 0) (slice_index_or w.boxes (t - 1) (collectors.blank 0 0))) (sym (one_of t there))
      (subst (λ (n : ℕ). IsActor true config config.first_epoch Handshake.Done t (holding_by true config t (row t)) n (slice_index_or w.boxes (t - 1) (collectors.blank 0 0))) (sym (get_or-replicate config.mutators (t - 1) (crossing_word config.first_epoch Spare) 0 at))
      (subst (λ (b : Contents). IsActor true config config.first_epoch Handshake.Done t (holding_by true config t (row t)) (crossing_word config.first_epoch Spare) b) (sym (get_or-replicate config.mutators (t - 1) (spare_of config) (collectors.blank 0 0) at))
      (actor_held t there)))

  -- the collector
  machine_from : collector_kept.IsMachine w.collector
  machine_from = opened_keeps config.slots config.fields config.registers config.mutators config.log_entries config.first_epoch config.policy (counts_of o) o.registers
      (omega (arith, is.some_fields)) (omega (arith, is.few_fields)) (omega (arith, is.some_mutators)) (omega (arith, is.few_mutators)) (omega (arith, is.few_epochs))
      counts_some are.registers (keep_from config.slots (counts_of o) (omega (arith, counts_many, are.few)) (omega (arith, is.few_slots)))

  slots_many : length w.collector.counts.slots ≡ config.slots
  slots_many = length-counted config.slots (counts_of o) (omega (arith, counts_many, are.few))

  older_row : (t : ℕ) → IsMutator config t → collectors.buffer_at w.collector.older (t - 1) ≡ collectors.retired (row t) config.log_entries
  older_row t there = get_or-map (λ own. collectors.retired own config.log_entries) rows (t - 1) [] (collectors.blank 0 0) (omega (arith, place_there t there, rows_many))

  collector_from : HasCollector true config config.first_epoch w.words w.collector
  collector_from = record {
    machine = machine_from;
    between = tt;
    slots = slots_many;
    fields = refl;
    registers = refl;
    capacity = refl;
    policy = refl;
    mutators = length-replicate config.mutators (spare_of config);
    epoch = refl;
    begun = omega arith;
    newer = λ t there. subst (IsBufferOf true config last) (sym (get_or-replicate config.mutators (t - 1) (spare_of config) (collectors.blank 0 0) (place_there t there))) (spare_buffer config last);
    older = λ t there. subst (IsBufferOf true config last) (sym (older_row t there)) (record { snapshot = row_long t there; capacity = refl; few = omega arith; made = All-nil (IsMadeIn last) });
    listed = λ x more. absurd (omega (arith, more, times-nil x));
    emptied = λ x f below within released. absurd (false≢true (sym (none_released machine_from.now.0 x (omega (arith, below, slots_many))) ∙ released));
  }

  -- Sums over the buffers: only the older ones add anything.
  older_sum : {Y : Type 0} (g : Y → ℕ) (f : Filed → List Y) → AddsNothing g f config
      → sum_by g (flat_map f (buffers w)) ≡ sum_by (λ held. share g f last (collectors.retired held config.log_entries)) rows
  older_sum {Y} g f nothing =
      let spares : List Contents = replicate config.mutators (spare_of config) in
      let spare_at : (i : ℕ) → i < length spares → slice_index_or spares i (collectors.blank 0 0) ≡ spare_of config
      = λ i below. get_or-replicate config.mutators i (spare_of config) (collectors.blank 0 0) (omega (arith, below, length-replicate config.mutators (spare_of config))) in
      let logs : sum_by (log_share g f) w.mutators ≡ 0
      = holding_sum config (log_share g f) (λ held. 0) (λ t held. nothing.nothing config.first_epoch) 1 rows ∙ sum_by_none (λ held. 0) rows (λ held. refl) in
      omega (
        arith,
        buffers_sum g f w,
        logs,
        spare_boxes g f config w.mutators spares nothing spare_at,
        spare_row g f config last spares nothing spare_at,
        sum_by-map (share g f last) (λ held. collectors.retired held config.log_entries) rows,
      )

  -- sums over the registers
  registers_sum : (g : Dated → ℕ) → sum_by g (pending w).registers ≡ sum_by (λ held. sum_by g (dated_all config.first_epoch held)) rows
  registers_sum g =
      sum_by-flat_map g dated_registers w.mutators
      ∙ holding_sum config (λ (p : Private). sum_by g (dated_registers p)) (λ held. sum_by g (dated_all config.first_epoch held)) (λ t held. refl) 1 rows

  -- how often registers name a node
  registers_name : (x : ℕ) → sum_by (is_node (x + 1)) (pending w).registers ≡ count_by (is_slot x) o.registers
  registers_name x =
      registers_sum (is_node (x + 1))
      ∙ sum_by_same (λ held. sum_by (is_node (x + 1)) (dated_all config.first_epoch held)) (count_by (is_slot x)) rows (λ held.
      sum_by-map (is_node (x + 1)) (λ y. dated config.first_epoch (code y)) held
      ∙ sum_by_same (λ y. one_if_same (x + 1) (code y)) (one_if_slot x) held (λ y. same_name x y ∙ one_is (is_slot x y)))
      ∙ rows_sum (one_if_slot x) config.registers config.mutators o.registers are.registers

  -- how often fields do
  fields_name : (x : ℕ) → sum_at (names (x + 1)) w.words ≡ count_by (is_slot x) o.fields
  fields_name x = early_names x 0 o.fields ((config.slots - many) * config.fields) (few_fields config o is are labels) (all_targets config o is are labels)

  -- what is kept of a node
  abbrev slot_from : ℕ → Slot
  slot_from x = slice_index_or w.collector.counts.slots x fresh

  count_taken : (x : ℕ) → x < many → (slot_from x).count ≡ holders o x
  count_taken x below = ap (λ (v : Slot). v.count) (counted_at config.slots (counts_of o) x fresh (omega (arith, below, counts_many))) ∙ get_or-map-range_with_len (holders o) 0 many x x 0 below (omega arith)

  fresh_past : (x : ℕ) → many ≤ x → slot_from x ≡ fresh
  fresh_past x past = fresh_behind config.slots (counts_of o) x (omega (arith, past, counts_many))

  slot_unreleased : (x : ℕ) → (slot_from x).released ≡ false
  slot_unreleased x = elim (cases_lt x many) [
    | inl below ↦ ap (λ (v : Slot). v.released) (counted_at config.slots (counts_of o) x fresh (omega (arith, below, counts_many)))
    | inr past ↦ ap (λ (v : Slot). v.released) (fresh_past x past)
  ]

  -- whether it is free
  abbrev is_open : ℕ → Bool
  is_open x = slice_index_or w.headers x 0 == 0

  open_taken : (x : ℕ) → x < many → is_open x ≡ false
  open_taken x below = ne_eqb (slice_index_or w.headers x 0) 0 (λ e. omega (arith, e, below_taken config o is are labels x below))

  counted_slot : (x : ℕ) → (slot_from x).count ≡ sum_at (names (x + 1)) w.words + sum_by (is_node (x + 1)) (pending w).registers + only_if (is_open x) 1
  counted_slot x = elim (cases_lt x many) [
    | inl below ↦ omega (arith, count_taken x below, fields_name x, registers_name x, ap (λ (b : Bool). only_if b 1) (open_taken x below))
    | inr past ↦
        let free : is_open x ≡ true = eq-eqb (slice_index_or w.headers x 0) 0 (free_past config o is are labels x past) in
        omega (arith, ap (λ (v : Slot). v.count) (fresh_past x past), fields_name x, registers_name x, none_held many x o.fields past are.targets, none_held many x o.registers past are.held, ap (λ (b : Bool). only_if b 1) free)
  ]

  unnamed_slot : (x : ℕ) → is_open x ≡ true → sum_at (names (x + 1)) w.words + sum_by (is_node (x + 1)) (pending w).registers ≡ 0
  unnamed_slot x free = elim (cases_lt x many) [
    | inl below ↦ absurd (false≢true (sym (open_taken x below) ∙ free))
    | inr past ↦ omega (arith, fields_name x, registers_name x, none_held many x o.fields past are.targets, none_held many x o.registers past are.held)
  ]

  -- the snapshots name what the registers name
  snapshots_name : (weight : Dated → ℕ) → ((d : ℕ) → weight (dated d 0) ≡ 0) → sum_by weight (pending w).snapshots ≡ sum_by (λ d. weight (dated last d.node)) (pending w).registers
  snapshots_name weight null =
      older_sum weight (λ (b : Filed). dated_names b.epoch b.buffer.snapshot) (snapshots_nothing config weight)
      ∙ sum_by_same (λ held. sum_by weight (dated_names last held)) (λ held. sum_by (λ (d : Dated). weight (dated last d.node)) (dated_all config.first_epoch held)) rows (λ held.
      names_all weight last held null
      ∙ sum_by-map weight (λ y. dated last (code y)) held
      ∙ sym (sum_by-map (λ (d : Dated). weight (dated last d.node)) (λ y. dated config.first_epoch (code y)) held))
      ∙ sym (registers_sum (λ (d : Dated). weight (dated last d.node)))

  not_late : (n : ℕ) → is_late_snapshot config.first_epoch (dated last n) ≡ 0
  not_late n = grind (arith, nat_tests, some_epoch)

  not_wrong : (n : ℕ) → is_wrong_register last config.first_epoch (dated config.first_epoch n) ≡ 0
  not_wrong n = grind (arith, nat_tests, some_epoch)

  pub pending_begins : IsBeginning (pending w)
  pending_begins = record {
    near = omega (arith, some_epoch);
    early = λ weight. early_none_late last weight 0 o.fields ((config.slots - many) * config.fields) (few_fields config o is are labels) (all_targets config o is are labels);
    writes = λ weight. older_sum weight (λ (b : Filed). writes_in b.buffer.entries) (writes_nothing config weight) ∙ sum_by_none (λ (held : List (Option ℕ)). 0) rows (λ held. refl);
    births = λ weight. older_sum weight (λ (b : Filed). births_in b.epoch b.buffer.entries) (births_nothing config weight) ∙ sum_by_none (λ (held : List (Option ℕ)). 0) rows (λ held. refl);
    snapshots = snapshots_name;
    left = older_sum (is_late_snapshot config.first_epoch) (λ (b : Filed). dated_names b.epoch b.buffer.snapshot) (snapshots_nothing config (is_late_snapshot config.first_epoch))
        ∙ sum_by_none (λ held. sum_by (is_late_snapshot config.first_epoch) (dated_names last held)) rows (λ held.
        sum_by-map (is_late_snapshot config.first_epoch) (λ slot. dated last (slot + 1)) (named_of held) ∙ sum_by_none (λ slot. is_late_snapshot config.first_epoch (dated last (slot + 1))) (named_of held) (λ slot. not_late (slot + 1)));
    entered = registers_sum (is_wrong_register last config.first_epoch)
        ∙ sum_by_none (λ held. sum_by (is_wrong_register last config.first_epoch) (dated_all config.first_epoch held)) rows (λ held.
        sum_by-map (is_wrong_register last config.first_epoch) (λ y. dated config.first_epoch (code y)) held ∙ sum_by_none (λ y. is_wrong_register last config.first_epoch (dated config.first_epoch (code y))) held (λ y. not_wrong (code y)));
    counted = λ node pos.
        let x : node ≡ node - 1 + 1 = omega (arith, pos) in
        subst (λ n. (slot_from (node - 1)).count ≡ sum_at (names n) w.words + sum_by (is_node n) (pending w).registers + only_if (is_open (node - 1)) 1) (sym x) (counted_slot (node - 1));
    unnamed = λ node pos free.
        let x : node ≡ node - 1 + 1 = omega (arith, pos) in
        subst (λ n. sum_at (names n) w.words + sum_by (is_node n) (pending w).registers ≡ 0) (sym x) (unnamed_slot (node - 1) free);
    released = λ node pos. slot_unreleased (node - 1);
  }

  labels_held : All IsHeader w.headers
  labels_held = All-from_get_or IsHeader w.headers 0 (λ i there some.
      let below : i < many = taken_below config o is are labels i some in
      subst IsTakenHeader (sym (header_at o.nodes (replicate (config.slots - many) 0) i below)) (header_taken (node_at o i).1 (node_at o i).0 (label_fits config o is are labels i below)))

  -- none has left, and no gathering is under way
  all_done : (t : ℕ) → stand_at w.collector.left w.collector.phase t ≡ Handshake.Done
  all_done t = cond-false (has_left w.collector.left t) Handshake.Gone Handshake.Done (none_left config.mutators (t - 1))
    where
      none_left : (n i : ℕ) → slice_index_or (replicate n false) i false ≡ false
      none_left zero i = refl
      none_left (suc n) zero = refl
      none_left (suc n) (suc i) = none_left n i

  -- The heap that is opened from objects keeps it all.
  -- the same is seen of dated words as of bare ones
  same_seen : sight (heap_from_by false config o) ≡ sight w
  same_seen = ap (λ (rss : List (List (Option ℕ))). let s : Sight = record (sight w) { registers = rss } in s) (registers_held false config 1 rows ∙ sym (registers_held true config 1 rows))

  pub opened_from_kept : IsKept true w
  opened_from_kept = record {
    whole = record {
      config = is;
      headers = headers_many config o is are labels;
      labels = labels_held;
      mutators = record {
        many = length-holding true config 1 rows ∙ rows_many;
        words = length-replicate config.mutators (crossing_word config.first_epoch Spare);
        mailboxes = length-replicate config.mutators (spare_of config);
        each = λ t there. subst (λ (stand : Handshake). IsActor true config config.first_epoch stand t (slice_index_or w.mutators (t - 1) nobody) (slice_index_or w.crossing (t - 1) 0) (slice_index_or w.boxes (t - 1) (collectors.blank 0 0))) (sym (all_done t)) (each_held t there);
      };
      collector = collector_from;
      sweeps = record { odd = refl; few = omega arith; some = tt };
      learnt = λ t there. subst (λ (p : Private). HasLearnt config.slots w.headers 0 p.from p.phase) (sym (one_of t there)) tt;
      made = omega (arith, are.few);
      greens = λ x green. absurd (false≢true (sym (each_opened (λ (v : Slot). is_green v.colour ≡ false) (λ count. 0 < count) config.slots (counts_of o) (λ count _. refl) refl refl counts_some x) ∙ green));
      sound = subst IsSound same_seen (seen_sound config o is are labels);
      accounted = beginning_accounted (pending w) pending_begins;
      uncounted = λ unfreed. beginning_uncounted (pending w) pending_begins;
      cycles = sets_wait_none (pending w) w.collector.counts refl (each_opened (λ (v : Slot). v.set ≡ None) (λ count. 0 < count) config.slots (counts_of o) (λ count _. refl) refl refl counts_some);
    };
    held = tt;
    behind = tt;
  }
