-- The turns of a sweep keep what every heap with its collector keeps.
use Rattle.std.proofs.Common.{◌≡◌, ◌≢◌, inl, inr, ℕ, suc, ◌+◌, ◌-◌, ◌*◌, ◌%◌, ◌<◌, ◌≤◌, ◌==◌, nat_lt, if◌then◌else◌, Bool, true, false, List, [], ◌∷◌, Option, None, Some, length, map, replicate, drop, slice_index_or, slice_set, refl, sym, ap, subst, ◌∙◌, arith}
use Rattle.std.specs.List.{sum_by, flat_map, slice_get}
use Rattle.std.proofs.Math.ListN.{get_or-map}
use Rattle.std.proofs.Math.Nat.{mul-le-mul, add-mul}
use Rattle.std.proofs.lemmas.Bool.{false≢true, cases_Bool, cases_eq, cond-false, cond-true, eq-eqb, ne_eqb}
use Rattle.std.proofs.lemmas.List.{length-set, length-map, get_or-set_same, get_or-set_other, get_or_default, get_or-replicate, length-replicate, length-take, length-drop, ext_get_or}
use Rattle.std.proofs.lemmas.List.Sums.{sum_by-append, sum_by-cons}
use Rattle.std.proofs.lemmas.List.Elements.{All-set}
use Rattle.std.proofs.lemmas.Option.{same_Some}
use Rattle.rec_core.proofs.Common.{place_of, IsAccounted, HasUncountedReleased, is_dead, names, is_node, AccountMove, Frees, leads_out_of, dated, Pending, one_if_same, sum_at, Sight, IsTaken, IsSound, words_of, targets_of, sight_with_header, move_uncounted, released_count, move_accounted, word_in, get_or-le-sum_at, none_if_differs, one_if_self, State, slot_at, one, times, absent, fresh, swept_clean, Slot, times-nil, times-cons, times_part, times_rest, one-same, one-le, in_range_once, swept, Private, cleared, Phase, Idle, Opening, Sweeping, Closing, IsBetween, IsMutator, Core, sight, mutator, nobody, SetsWait, HasCyclesAt, freeing_due, IsBufferOf, Handshake, stand_in, IsHeldAt, HasPassed, HasLearnt, HaveLearnt, one_if_sweeping, IsSomeSwept, IsKept, IsKeptBy, IsHeader, dated_all, dated_registers, epoch_at, has_let_go, registers_of, older_at, applied_at, pending, Config, is_leaf, is_green}
use Rattle.rec_model.specs.Heap.{roots}
use Rattle.rec_model.specs.Reach.{is_in, named}
use Rattle.rec_model.proofs.Members.{is_in-cons, is_in-cases}
use Rattle.rec_model.proofs.Seen.{field_target}
use Rattle.rec_counts.specs.Slot.{is_in as is_in_set}
use Rattle.rec_counts.proofs.Front.{first_in}
use Rattle.rec_mutator.specs.declared.phase.Phase as phases
use Rattle.rec_mutator.specs.declared.phase.Phase.TheVariants as at
use Rattle.rec_collector.specs.Private as collectors
use Rattle.rec_collector.specs.Kept as collector_kept
use Rattle.rec_core.proofs.Counts.{slot_in, accounts_with, emptied_leads}
use Rattle.rec_core.proofs.CyclesWait.{KeepsMembers, sets_wait_moved, sets_wait_swept, slot_keeps_members}
use Rattle.rec_core.proofs.Landings.{complete_drops, cleared_buffer}
use Rattle.rec_core.proofs.Places.{place_within}
use Rattle.rec_core.proofs.Sums.{dated_held}
use Rattle.rec_core.proofs.Turns.{alive_in, cycles_in, emptied_in, now_at, phase_moves, stands_as}

-- as a sweep begins or ends, a scan that has begun before knows nothing more
learnt_change : (config : Config) (headers later : List ℕ) (freed next : ℕ) (mutators : List Private) → ((from before probed : ℕ) → HasPassed config.slots headers freed from before probed → HasPassed config.slots later next from before probed) → ((slot : ℕ) → is_leaf (slice_index_or headers slot 0) ≡ false → is_leaf (slice_index_or later slot 0) ≡ false) → HaveLearnt config headers freed mutators → HaveLearnt config later next mutators
learnt_change config headers later freed next mutators change unmarked learnt t is = go (slice_index_or mutators (t - 1) nobody).from (slice_index_or mutators (t - 1) nobody).phase (learnt t is)
  where
    go : (from : ℕ) (phase : phases.Phase) → HasLearnt config.slots headers freed from phase → HasLearnt config.slots later next from phase
    go from (at.Scanning reg label leaf before probed) s = change from before probed s
    go from (at.Scanned reg label leaf before) s = change from before config.slots s
    go from (at.Storing src f val slot) s = unmarked slot s
    go from _ s = tt

-- a swept header is that of no leaf
swept_unmarked : (headers : List ℕ) (x : ℕ) → x < length headers → (slot : ℕ) → is_leaf (slice_index_or headers slot 0) ≡ false → is_leaf (slice_index_or (slice_set headers x 0) slot 0) ≡ false
swept_unmarked headers x there slot unmarked = elim (cases_eq slot x) [
  | inl same ↦ ap (λ n. is_leaf (slice_index_or (slice_set headers x 0) n 0)) same ∙ ap is_leaf (get_or-set_same headers x 0 0 there)
  | inr other ↦ ap is_leaf (get_or-set_other headers x slot 0 0 other) ∙ unmarked
]

passed_more : (slots : ℕ) (headers : List ℕ) (freed from before probed : ℕ) → HasPassed slots headers freed from before probed → HasPassed slots headers (freed + 1) from before probed
passed_more slots headers freed from before probed is = let up : before ≤ freed = is.0 in (omega arith, λ same. absurd (omega arith))

-- A sweep begins.
module _ (w : Core) (due : Option ℕ) (kept : IsKept true w) (phase : w.collector.phase ≡ Opening) where
  abbrev began_by : collectors.Private
  began_by = record w.collector { phase = Sweeping due 0; turns = w.collector.turns + 1 }

  pub began_kept : collector_kept.IsMachine began_by → IsKept true (record w { freed = w.freed + 1; collector = began_by })
  began_kept machine =
      let k = kept.collector in
      let way : collector_kept.under_way w.collector.phase ≡ 1 = ap collector_kept.under_way phase in
      let still : one_if_sweeping w.collector.phase ≡ 0 = ap one_if_sweeping phase in
      let older : older_at w.epoch w.collector.phase ≡ w.epoch - 2 = ap (older_at w.epoch) phase in
      let same : pending (record w { freed = w.freed + 1; collector = began_by }) ≡ pending w = rw phase refl in
      record {
        whole = record {
          config = kept.config;
          headers = kept.headers;
          labels = kept.labels;
          mutators = phase_moves kept.mutators (λ s there. stands_as w.collector.left s (sym (ap (λ p. stand_in p s) phase)));
          collector = record {
            machine = machine;
            between = tt;
            slots = k.slots;
            fields = k.fields;
            registers = k.registers;
            capacity = k.capacity;
            policy = k.policy;
            mutators = k.mutators;
            epoch = k.epoch;
            begun = omega (arith, k.begun, way);
            newer = k.newer;
            older = λ s there. subst (λ e. IsBufferOf true w.config e (collectors.buffer_at w.collector.older (s - 1))) older (k.older s there);
            listed = k.listed;
            emptied = emptied_in w Opening kept.whole phase;
          };
          sweeps = record { odd = odd_next w.freed (kept.sweeps.odd ∙ still); few = omega (arith, kept.sweeps.few, still); some = tt };
          learnt = learnt_change w.config w.headers w.headers w.freed (w.freed + 1) w.mutators (passed_more w.config.slots w.headers w.freed) (λ slot unmarked. unmarked) kept.learnt;
          made = kept.made;
          sound = kept.sound;
          greens = kept.greens;
          accounted = subst IsAccounted (sym same) kept.accounted;
          uncounted = λ _. subst HasUncountedReleased (sym same) (kept.uncounted (ap freeing_due phase));
          cycles = subst (λ (p : Pending). SetsWait p w.collector.counts) (sym same) (cycles_in w Opening kept.whole phase);
        };
        held = tt;
        behind = tt;
      }
    where
      odd_next : (n : ℕ) → n % 2 ≡ 0 → (n + 1) % 2 ≡ 1
      odd_next n even = grind arith

-- A sweep ends, and with it the collection.
module _ (w : Core) (swept_ : ℕ) (kept : IsKept true w) (phase : w.collector.phase ≡ Closing swept_) where
  abbrev ended_by : collectors.Private
  ended_by = record w.collector { phase = Idle; turns = 0; collections = w.collector.collections + 1; newer = map cleared w.collector.older; older = w.collector.newer }

  pub ended_kept : collector_kept.IsMachine ended_by → IsKept true (record w { freed = w.freed + 1; collector = ended_by })
  ended_kept machine =
      let k = kept.collector in
      let way : collector_kept.under_way w.collector.phase ≡ 1 = ap collector_kept.under_way phase in
      let odd : one_if_sweeping w.collector.phase ≡ 1 = ap one_if_sweeping phase in
      let last : older_at w.epoch w.collector.phase ≡ w.epoch - 2 = ap (older_at w.epoch) phase in
      let applied : applied_at w.epoch w.collector.phase ≡ w.epoch - 1 = ap (applied_at w.epoch) phase in
      let some : 2 ≤ w.epoch = (let first : 1 ≤ w.config.first_epoch = kept.config.some_epoch in omega (arith, k.begun, way)) in
      let both : length w.collector.older ≡ w.config.mutators = k.machine.both ∙ k.mutators in
      let older : (t : ℕ) → IsMutator w.config t → IsBufferOf true w.config (w.epoch - 2) (collectors.buffer_at w.collector.older (t - 1))
      = λ s there. subst (λ e. IsBufferOf true w.config e (collectors.buffer_at w.collector.older (s - 1))) last (k.older s there) in
      let drops = complete_drops w w.collector w.collector.phase some last both older w.words w.collector.counts 0 (w.collector.collections + 1) in
      let same : record (accounts_with (pending w) w.words w.collector.counts) { applied = w.epoch - 1 } ≡ pending w = ap (λ (n : ℕ). let q : Pending = record (pending w) { applied = n } in q) (sym applied) in
      let accounted : IsAccounted (record (accounts_with (pending w) w.words w.collector.counts) { applied = w.epoch - 1 }) = subst IsAccounted (sym same) kept.accounted in
      record {
        whole = record {
          config = kept.config;
          headers = kept.headers;
          labels = kept.labels;
          mutators = phase_moves kept.mutators (λ s there. stands_as w.collector.left s (sym (ap (λ p. stand_in p s) phase)));
          collector = record {
            machine = machine;
            between = tt;
            slots = k.slots;
            fields = k.fields;
            registers = k.registers;
            capacity = k.capacity;
            policy = k.policy;
            mutators = length-map w.collector.older cleared ∙ both;
            epoch = k.epoch;
            begun = omega (arith, k.begun, way);
            newer = λ s there.
                let at_ : slice_index_or (map cleared w.collector.older) (s - 1) (cleared (collectors.blank 0 0)) ≡ cleared (collectors.buffer_at w.collector.older (s - 1)) = get_or-map cleared w.collector.older (s - 1) (collectors.blank 0 0) in
                subst (IsBufferOf true w.config (w.epoch - 1)) (sym at_) (cleared_buffer w.config (w.epoch - 1) (w.epoch - 2) (collectors.buffer_at w.collector.older (s - 1)) (older s there));
            older = k.newer;
            listed = k.listed;
            emptied = emptied_in w (Closing swept_) kept.whole phase;
          };
          sweeps = record { odd = even_next w.freed (kept.sweeps.odd ∙ odd); few = omega (arith, kept.sweeps.few, odd); some = tt };
          learnt = learnt_change w.config w.headers w.headers w.freed (w.freed + 1) w.mutators (passed_more w.config.slots w.headers w.freed) (λ slot unmarked. unmarked) kept.learnt;
          made = kept.made;
          sound = kept.sound;
          greens = kept.greens;
          accounted = move_accounted (AccountMove.dropping drops) accounted;
          uncounted = λ _. move_uncounted (AccountMove.dropping drops) accounted (subst HasUncountedReleased (sym same) (kept.uncounted (ap freeing_due phase)));
          cycles = sets_wait_moved w.collector.counts (AccountMove.dropping drops) tt accounted (alive_in w (Closing swept_) kept.whole phase) (subst (λ (p : Pending). SetsWait p w.collector.counts) (sym same) (cycles_in w (Closing swept_) kept.whole phase));
        };
        held = tt;
        behind = tt;
      }
    where
      even_next : (n : ℕ) → n % 2 ≡ 1 → (n + 1) % 2 ≡ 0
      even_next n odd = grind arith

-- what registers name is dated, where no mutator that has let go of its own names anything
roots_dated : (n : ℕ) (ps : List Private) → ((i : ℕ) → i < length ps → has_let_go (slice_index_or ps i nobody) ≡ true → named (slice_index_or ps i nobody).registers ≡ []) → is_in n (roots (map (λ (p : Private). p.registers) ps)) ≡ true
    → 0 < sum_by (is_node (n + 1)) (flat_map dated_registers ps)
roots_dated n [] gone there = absurd (false≢true there)
roots_dated n (p ∷ ps) gone there =
    let parts = sum_by-append (is_node (n + 1)) (dated_registers p) (flat_map dated_registers ps) in
    elim (is_in-cases n (named p.registers) (roots (map (λ (q : Private). q.registers) ps)) there) [
      | inl own ↦ elim (cases_Bool (has_let_go p)) [
        | inl left ↦ absurd (false≢true (sym (ap (is_in n) (gone 0 (omega arith) left)) ∙ own))
        | inr held ↦ omega (arith, parts, ap (sum_by (is_node (n + 1))) (dated_held p held), own_named (epoch_at p) p.registers own)
      ]
      | inr others ↦ omega (arith, parts, roots_dated n ps (λ i below. gone (suc i) (omega arith)) others)
    ]
  where
    own_named : (e : ℕ) (rs : List (Option ℕ)) → is_in n (named rs) ≡ true → 0 < sum_by (is_node (n + 1)) (dated_all e rs)
    own_named e [] is = absurd (false≢true is)
    own_named e (None ∷ rs) is = omega (arith, sum_by-cons (is_node (n + 1)) (dated e 0) (dated_all e rs), own_named e rs is)
    own_named e (Some m ∷ rs) is = elim (is_in-cons n m (named rs) is) [
      | inl same ↦ omega (arith, sum_by-cons (is_node (n + 1)) (dated e (m + 1)) (dated_all e rs), ap (λ k. one_if_same (n + 1) (k + 1)) same, one_if_self (n + 1))
      | inr rest ↦ omega (arith, sum_by-cons (is_node (n + 1)) (dated e (m + 1)) (dated_all e rs), own_named e rs rest)
    ]

-- so what a register names is named by the accounts
pub root_named : {stands : (t : ℕ) → Handshake} (w : Core) (n : ℕ) → IsKeptBy true stands w → is_in n (roots (sight w).registers) ≡ true → 0 < sum_by (is_node (n + 1)) (registers_of w)
root_named w n kept = roots_dated n w.mutators gone
  where
    gone : (i : ℕ) → i < length w.mutators → has_let_go (slice_index_or w.mutators i nobody) ≡ true → named (slice_index_or w.mutators i nobody).registers ≡ []
    gone i below left =
        let many : length w.mutators ≡ w.config.mutators = kept.mutators.many in
        let at : i + 1 - 1 ≡ i = omega arith in
        let own : has_let_go (mutator w (i + 1)) ≡ true = ap (λ k. has_let_go (slice_index_or w.mutators k nobody)) at ∙ left in
        ap (λ k. named (slice_index_or w.mutators k nobody).registers) (sym at) ∙ ((kept.mutators.each (i + 1) (omega (arith, below), omega (arith, below, many))).let_go own).registers

-- The slot of a node that was given up and emptied, and that has no count, is freed.
slot_freed : (p : Pending) (headers : List ℕ) (s : State) (x : ℕ) → x < length s.slots → x < length headers → (slot_at s x).released ≡ true → (slot_at s x).count ≡ 0
    → sum_at (leads_out_of p.fields (x + 1)) p.words ≡ 0
    → Frees (record (accounts_with p p.words s) { free = λ node. slice_index_or headers (node - 1) 0 == 0; leaf = λ node. is_leaf (slice_index_or headers (node - 1) 0) })
    (record (accounts_with p p.words (swept s x)) { free = λ node. slice_index_or (slice_set headers x 0) (node - 1) 0 == 0; leaf = λ node. is_leaf (slice_index_or (slice_set headers x 0) (node - 1) 0) }) (x + 1)
slot_freed p headers s x there header released none empty =
    let v : Slot = swept_clean (slot_at s x) in
    let old : slot_in s (x + 1) ≡ slot_at s x = (let at : x + 1 - 1 ≡ x = omega arith in ap (λ (n : ℕ). slice_index_or s.slots n fresh) at ∙ get_or_default s.slots x fresh absent there) in
    record {
      is_node = omega arith;
      was_released = ap (λ (y : Slot). y.released) old ∙ released;
      empty = empty;
      uncounted = ap (λ (y : Slot). y.count) old ∙ none;
      counts = λ node pos. elim (cases_eq node (x + 1)) [
        | inl is ↦
            let at : node - 1 ≡ x = omega arith in
            let new : slot_in (swept s x) node ≡ v = ap (λ (n : ℕ). slice_index_or (slice_set s.slots x v) n fresh) at ∙ get_or-set_same s.slots x v fresh there in
            let was : slot_in s node ≡ slot_at s x = ap (λ (n : ℕ). slot_in s n) is ∙ old in
            omega (arith, ap (λ (y : Slot). y.count) new, ap (λ (y : Slot). y.count) was, none, ap (λ n. one_if_same n (x + 1)) is, one_if_self (x + 1))
        | inr other ↦
            let apart : (node - 1) ≢ x = λ e. other (omega arith) in
            omega (arith, ap (λ (y : Slot). y.count) (get_or-set_other s.slots x (node - 1) v fresh apart), none_if_differs node (x + 1) other)
      ];
      words = λ weight. refl;
      logs = record { writes = λ weight. refl; births = λ weight. refl; snapshots = λ weight. refl };
      registers = λ weight. refl;
      epochs = record { fields = refl; applied = refl; requested = refl };
      free = λ node pos. elim (cases_eq node (x + 1)) [
        | inl is ↦
            let at : node - 1 ≡ x = omega arith in
            let test : ℕ → Bool = λ n. slice_index_or headers (n - 1) 0 == 0 in
            ap (λ (n : ℕ). slice_index_or (slice_set headers x 0) n 0 == 0) at ∙ ap (λ (n : ℕ). n == 0) (get_or-set_same headers x 0 0 header) ∙ eq-eqb 0 0 refl ∙ sym (cond-true (node == x + 1) true (test node) (eq-eqb node (x + 1) is))
        | inr other ↦
            let apart : (node - 1) ≢ x = λ e. other (omega arith) in
            let test : ℕ → Bool = λ n. slice_index_or headers (n - 1) 0 == 0 in
            ap (λ (n : ℕ). n == 0) (get_or-set_other headers x (node - 1) 0 0 apart) ∙ sym (cond-false (node == x + 1) true (test node) (ne_eqb node (x + 1) other))
      ];
      released = λ node pos. elim (cases_eq node (x + 1)) [
        | inl is ↦
            let at : node - 1 ≡ x = omega arith in
            let new : slot_in (swept s x) node ≡ v = ap (λ (n : ℕ). slice_index_or (slice_set s.slots x v) n fresh) at ∙ get_or-set_same s.slots x v fresh there in
            ap (λ (y : Slot). y.released) new ∙ sym (cond-true (node == x + 1) false (slot_in s node).released (eq-eqb node (x + 1) is))
        | inr other ↦
            let apart : (node - 1) ≢ x = λ e. other (omega arith) in
            ap (λ (y : Slot). y.released) (get_or-set_other s.slots x (node - 1) v fresh apart) ∙ sym (cond-false (node == x + 1) false (slot_in s node).released (ne_eqb node (x + 1) other))
      ];
      leaf = λ node pos other. ap is_leaf (get_or-set_other headers x (node - 1) 0 0 (λ e. other (omega (arith, e, pos))));
    }

-- A slot of the free list is swept: its header is 0 and its count one.
module _ (w : Core) (done : ℕ) (x : ℕ) (kept : IsKept true w) (phase : w.collector.phase ≡ Sweeping (Some x) done) where
  open w use {collector as c}
  open kept use {headers, collector.{slots}}

  sweeping : collector_kept.IsAt c (Sweeping (Some x) done)
  sweeping = now_at w (Sweeping (Some x) done) kept phase

  listed : 0 < times x c.counts.free
  listed = first_in c.counts.free x (sym sweeping.2)

  pub swept_below : x < w.config.slots
  swept_below = let there : x < length c.counts.slots = in_range_once (length c.counts.slots) c.counts.free x kept.collector.machine.counts.free_once listed in omega (arith, slots)

  -- it was given up
  pub due_released : (slot_at c.counts x).released ≡ true
  due_released = kept.collector.listed x listed

  in_accounts : slot_in c.counts (x + 1) ≡ slot_at c.counts x
  in_accounts = let one_ : x + 1 - 1 ≡ x = omega arith in ap (λ (n : ℕ). slice_index_or c.counts.slots n fresh) one_ ∙ get_or_default c.counts.slots x fresh absent (omega (arith, swept_below, slots))

  uncounted : (slot_at c.counts x).count ≡ 0
  uncounted = ap (λ (v : Slot). v.count) (sym in_accounts) ∙ kept.uncounted (ap freeing_due phase) (x + 1) (omega arith) (ap (λ (v : Slot). v.released) in_accounts ∙ due_released)

  -- the fields of what was given up are empty
  given_up_empty : (y f : ℕ) → y < w.config.slots → f < w.config.fields → (slot_at c.counts y).released ≡ true → slice_index_or w.words (place_of y f w.config.fields) 0 ≡ 0
  given_up_empty y f below within released = elim (emptied_in w (Sweeping (Some x) done) kept.whole phase y f below within released) [
    | inl left ↦ absurd left
    | inr rest ↦ elim rest [ inl left ↦ absurd left | inr none ↦ none ]
  ]

  empty : (f : ℕ) → f < w.config.fields → slice_index_or w.words (place_of x f w.config.fields) 0 ≡ 0
  empty f within = given_up_empty x f swept_below within due_released

  dead : is_dead (pending w) (x + 1) ≡ true
  dead = ap (λ (b : Bool). if (pending w).free (x + 1) then true else b) (ap (λ (v : Slot). v.released) in_accounts ∙ due_released) ∙ either ((pending w).free (x + 1))
    where
      either : (b : Bool) → (if b then true else true) ≡ true
      either true = refl
      either false = refl

  -- nothing that is seen names it
  unrooted : is_in x (roots (sight w).registers) ≡ true → ⊥
  unrooted there = absurd (omega (arith, root_named w x kept.whole there, kept.accounted.unnamed (x + 1) (omega arith) dead))

  unheld : (s : ℕ) → is_in x (targets_of (sight w) s) ≡ true → ⊥
  unheld s there =
      let t = field_target (sight w) s x there in
      absurd (omega (
        arith,
        released_count (pending w) kept.accounted (x + 1) (omega arith) (ap (λ (v : Slot). v.released) in_accounts ∙ due_released),
        ap (λ (v : Slot). v.count) in_accounts,
        uncounted,
        get_or-le-sum_at (names (x + 1)) w.words (s * w.config.fields + t.0) 0 t.2,
        ap (one_if_same (x + 1)) t.3,
        one_if_self (x + 1),
      ))

  abbrev seen : Sight
  seen = sight_with_header (sight w) x 0

  still_taken : (s : ℕ) → s ≢ x → IsTaken (sight w) s → IsTaken seen s
  still_taken s other taken = subst (λ n. 0 < n) (sym (get_or-set_other w.headers x s 0 0 other)) taken

  was_taken : (s : ℕ) → IsTaken seen s → (s ≢ x) × IsTaken (sight w) s
  was_taken s taken = elim (cases_eq s x) [
    | inl same ↦
        let none : slice_index_or (slice_set w.headers x 0) s 0 ≡ 0 = ap (λ n. slice_index_or (slice_set w.headers x 0) n 0) same ∙ get_or-set_same w.headers x 0 0 (omega (arith, swept_below, headers)) in
        absurd (omega (arith, taken, none))
    | inr other ↦ (other, subst (λ n. 0 < n) (get_or-set_other w.headers x s 0 0 other) taken)
  ]

  sound : IsSound seen
  sound = record {
    places = kept.sound.places ∙ ap (λ n. n * w.config.fields) (sym (length-set w.headers x 0));
    registers = λ s there. elim (cases_eq s x) [
      | inl same ↦ absurd (unrooted (subst (λ n. is_in n (roots (sight w).registers) ≡ true) same there))
      | inr other ↦ still_taken s other (kept.sound.registers s there)
    ];
    fields = λ s n taken there. elim (cases_eq n x) [
      | inl same ↦ absurd (unheld s (subst (λ m. is_in m (targets_of (sight w) s) ≡ true) same there))
      | inr other ↦ still_taken n other (kept.sound.fields s n (was_taken s taken).1 there)
    ];
    free = λ s there offered. elim (cases_eq s x) [
      | inl same ↦ ap (words_of (sight w)) same ∙ null_words
      | inr other ↦ kept.sound.free s (subst (λ n. s < n) (length-set w.headers x 0) there) (λ taken. offered (still_taken s other taken))
    ];
    leaves = λ s leaf. elim (cases_eq s x) [
      | inl same ↦ ap (words_of (sight w)) same ∙ null_words
      | inr other ↦ kept.sound.leaves s (ap is_leaf (sym (get_or-set_other w.headers x s 0 0 other)) ∙ leaf)
    ];
  }
    where
      inside : (f : ℕ) → f < w.config.fields → place_of x f w.config.fields < length w.words
      inside f within = place_within w.config.fields (length w.headers) (length w.words) x f kept.sound.places (omega (arith, swept_below, headers)) within

      all_places : length w.words ≡ length w.headers * w.config.fields
      all_places = kept.sound.places

      last_place : x * w.config.fields + w.config.fields ≤ length w.words
      last_place =
          let next : (x + 1) * w.config.fields ≤ length w.headers * w.config.fields = mul-le-mul (let up : x + 1 ≤ length w.headers = omega (arith, swept_below, headers) in up) (let same : w.config.fields ≤ w.config.fields = omega arith in same) in
          let split : (x + 1) * w.config.fields ≡ x * w.config.fields + 1 * w.config.fields = add-mul x 1 w.config.fields in
          omega (arith, next, split, all_places)

      many : length (words_of (sight w) x) ≡ w.config.fields
      many =
          let from : ℕ = x * w.config.fields in
          let long : ℕ = x * w.config.fields + w.config.fields - x * w.config.fields in
          omega (arith, length-take long (drop from w.words), length-drop from w.words, last_place)

      null_words : words_of (sight w) x ≡ replicate w.config.fields 0
      null_words = ext_get_or 0 (words_of (sight w) x) (replicate w.config.fields 0) (many ∙ sym (length-replicate w.config.fields 0)) (λ f there.
          let within : f < w.config.fields = omega (arith, there, many) in
          word_in (sight w) x f within ∙ empty f within ∙ sym (get_or-replicate w.config.fields f 0 0 within))

  abbrev swept_by : (next : Phase) → collectors.Private
  swept_by next = record c { counts = swept c.counts x; freed = c.freed + 1; phase = next; turns = c.turns + 1 }

  abbrev after_sweep : (next : Phase) → Core
  after_sweep next = record w { headers = slice_set w.headers x 0; collector = swept_by next }

  -- a phase in which the sweep goes on, or ends next
  pub record IsStillSweeping (next : Phase) : Type 0 where
    pub sweeping : one_if_sweeping next ≡ 1
    pub way : collector_kept.under_way next ≡ 1
    pub applied : (e : ℕ) → applied_at e next ≡ e - 1
    pub older : (e : ℕ) → older_at e next ≡ e - 2
    pub stands : (s : ℕ) → stand_in next s ≡ Handshake.Done
    pub held : (v : Core) → IsHeldAt v next
    pub between : IsBetween next
    pub some : IsSomeSwept next
    pub waits : (p : Pending) (d : collectors.Private) → SetsWait p d.counts → HasCyclesAt p d next

  released_else : (y : ℕ) → y ≢ x → slot_at (swept c.counts x) y ≡ slot_at c.counts y
  released_else y other = get_or-set_other c.counts.slots x y (swept_clean (slot_at c.counts x)) absent other

  swept_unreleased : (slot_at (swept c.counts x) x).released ≡ false
  swept_unreleased = ap (λ (v : Slot). v.released) (get_or-set_same c.counts.slots x (swept_clean (slot_at c.counts x)) absent (omega (arith, swept_below, slots)))

  swept_black : is_green (slot_at (swept c.counts x) x).colour ≡ false
  swept_black = ap (λ (v : Slot). is_green v.colour) (get_or-set_same c.counts.slots x (swept_clean (slot_at c.counts x)) absent (omega (arith, swept_below, slots)))

  -- the first of the list is nowhere else in it
  gone : (y : ℕ) → 0 < times y (drop 1 c.counts.free) → y ≢ x
  gone y there = go c.counts.free (sym sweeping.2) (kept.collector.machine.counts.free_once y) there
    where
      go : (xs : List ℕ) → slice_get xs 0 ≡ Some x → times y xs ≤ one (nat_lt y (length c.counts.slots)) → 0 < times y (drop 1 xs) → y ≢ x
      go [] is few there_ same = absurd (omega (arith, there_, times-nil y))
      go (z ∷ zs) is few there_ same =
          let head : z ≡ x = same_Some z x is in
          omega (arith, few, there_, times-cons y z zs, ap (λ n. one (y == n)) head, ap (λ n. one (n == x)) same, one-same x, one-le (nat_lt y (length c.counts.slots)))

  -- it is in no set: what is in the free list is in no buffer
  in_no_set : (slot_at c.counts x).set ≡ None
  in_no_set = go (slot_at c.counts x).set refl
    where
      unbuffered : one (slot_at c.counts x).buffered ≡ 0
      unbuffered = ap one (sweeping.0.tried.unbuffered x listed)

      go : (o : Option ℕ) → (slot_at c.counts x).set ≡ o → (slot_at c.counts x).set ≡ None
      go None is = is
      go (Some number) is =
          let k = kept.collector.machine.counts in
          let in_it : one (is_in_set number (slot_at c.counts x).set) ≡ 1 = ap (λ (o : Option ℕ). one (is_in_set number o)) is ∙ one-same number in
          absurd (omega (arith, k.buffers x, unbuffered, k.numbers number x, in_it, times_part x c.counts.sets number))

  still_members : KeepsMembers c.counts (swept c.counts x)
  still_members = slot_keeps_members c.counts (swept c.counts x) x (swept_clean (slot_at c.counts x)) refl refl in_no_set in_no_set

  pub swept_kept : (next : Phase) → IsStillSweeping next → collector_kept.IsMachine (swept_by next) → IsKept true (after_sweep next)
  swept_kept next on machine =
      let k = kept.collector in
      let way : collector_kept.under_way c.phase ≡ 1 = ap collector_kept.under_way phase in
      let odd : one_if_sweeping c.phase ≡ 1 = ap one_if_sweeping phase in
      let older : older_at w.epoch c.phase ≡ older_at w.epoch next = ap (older_at w.epoch) phase ∙ sym (on.older w.epoch) in
      let applied : applied_at w.epoch c.phase ≡ applied_at w.epoch next = ap (applied_at w.epoch) phase ∙ sym (on.applied w.epoch) in
      let leads = emptied_leads w.words w.config.fields x (let some : 1 ≤ w.config.fields = kept.config.some_fields in some) empty in
      let freed = slot_freed (pending w) w.headers c.counts x (omega (arith, swept_below, slots)) (omega (arith, swept_below, headers)) due_released uncounted leads in
      let same : pending (after_sweep next) ≡ record (accounts_with (pending w) w.words (swept c.counts x)) { free = λ node. slice_index_or (slice_set w.headers x 0) (node - 1) 0 == 0; leaf = λ node. is_leaf (slice_index_or (slice_set w.headers x 0) (node - 1) 0) } = rw (sym applied, sym older) refl in
      record {
        whole = record {
          config = kept.config;
          headers = length-set w.headers x 0 ∙ headers;
          labels = All-set IsHeader w.headers x 0 (λ some. absurd (omega (arith, some))) kept.labels;
          mutators = phase_moves kept.mutators (λ s there. stands_as w.collector.left s (on.stands s ∙ sym (ap (λ p. stand_in p s) phase)));
          collector = record {
            machine = machine;
            between = on.between;
            slots = length-set c.counts.slots x (swept_clean (slot_at c.counts x)) ∙ slots;
            fields = k.fields;
            registers = k.registers;
            capacity = k.capacity;
            policy = k.policy;
            mutators = k.mutators;
            epoch = k.epoch;
            begun = omega (arith, k.begun, way, on.way);
            newer = k.newer;
            older = λ s there. subst (λ e. IsBufferOf true w.config e (collectors.buffer_at c.older (s - 1))) older (k.older s there);
            listed = λ y there. ap (λ (v : Slot). v.released) (released_else y (gone y there)) ∙ k.listed y (omega (arith, there, times_rest y c.counts.free));
            emptied = λ y f below within is. elim (cases_eq y x) [
              | inl same_ ↦ absurd (false≢true (sym swept_unreleased ∙ ap (λ n. (slot_at (swept c.counts x) n).released) (sym same_) ∙ is))
              | inr other ↦ inr (inr (given_up_empty y f below within (sym (ap (λ (v : Slot). v.released) (released_else y other)) ∙ is)))
            ];
          };
          sweeps = record { odd = kept.sweeps.odd ∙ odd ∙ sym on.sweeping; few = omega (arith, kept.sweeps.few, odd, on.sweeping); some = on.some };
          learnt = learnt_change w.config w.headers (slice_set w.headers x 0) w.freed w.freed w.mutators (λ from before probed is. (is.0, λ now even. absurd (omega (arith, odd, kept.sweeps.odd, ap (λ n. n % 2) now, even)))) (swept_unmarked w.headers x (omega (arith, swept_below, headers))) kept.learnt;
          made = kept.made;
          sound = sound;
          greens = λ y green. elim (cases_eq y x) [
            | inl same_ ↦ absurd (false≢true (sym swept_black ∙ ap (λ n. is_green (slot_at (swept c.counts x) n).colour) (sym same_) ∙ green))
            | inr other ↦ ap is_leaf (get_or-set_other w.headers x y 0 0 other) ∙ kept.greens y (ap (λ (v : Slot). is_green v.colour) (sym (released_else y other)) ∙ green)
          ];
          accounted = subst IsAccounted (sym same) (move_accounted (AccountMove.freeing freed) kept.accounted);
          uncounted = λ _. subst HasUncountedReleased (sym same) (move_uncounted (AccountMove.freeing freed) kept.accounted (kept.uncounted (ap freeing_due phase)));
          cycles = on.waits (pending (after_sweep next)) (swept_by next) (subst (λ (p : Pending). SetsWait p (swept c.counts x)) (sym same)
              (sets_wait_swept c.counts (swept c.counts x) (AccountMove.freeing freed) tt kept.accounted (alive_in w (Sweeping (Some x) done) kept.whole phase) still_members (cycles_in w (Sweeping (Some x) done) kept.whole phase)));
        };
        held = on.held (after_sweep next);
        behind = tt;
      }
