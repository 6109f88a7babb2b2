-- What is still to be taken off by the epochs of what is pending is so by a buffer that the collector hasn't applied yet. So what is in
-- the reach of the last batch's epoch hangs on what is pending: each root of that epoch is pending, and so is what a write replaced since.
use Rattle.std.proofs.Common.{◌≡◌, ◌⊎◌, inl, inr, ℕ, suc, ◌+◌, ◌-◌, ◌/◌, ◌%◌, ◌<◌, ◌≤◌, ◌==◌, nat_le, true, false, Bool, List, [], ◌∷◌, Option, None, Some, length, map, slice_index_or, refl, ap, subst, ◌∙◌, arith}
use Rattle.rec_core.specs.Pending.{has_batched}
use Rattle.std.specs.List.{All, sum_by, flat_map, zip}
use Rattle.std.proofs.Math.Nat.{mod-lt, div-add-mod, mul_comm}
use Rattle.std.proofs.lemmas.Bool.{cases_lt, eqb-true, lt-leb, ne_eqb}
use Rattle.std.proofs.lemmas.List.Elements.{All-head, All-tail}
use Rattle.std.proofs.lemmas.List.Sums.{sum_by-cons, sum_by-le-sum_by}
use Rattle.rec_core.proofs.Common.{place_of, target_of, is_at, is_from, replaces_from, one_if_same, only_if, only_if-le, node_of, epoch_of, home, dated, dated_birth, Write, sum_at, Contents, Entry, buffer_at, Phase, Idle, Looking, Swapping, Returning, Core, nobody, sight, Handshake, IsKeptBy, IsMadeIn, Filed, writes_in, births_in, dated_names, applied_at, older_at, epoch_at, buffers, pending, named, old_target, one}
use Rattle.rec_log.specs.declared.entry.Entry.TheVariants as entries
use Rattle.rec_counts.proofs.Naming.{named-cons}
use Rattle.rec_collector.specs.Kept.{under_way}
use Rattle.rec_collector.specs.Private as collectors
use Rattle.rec_model.specs.References.{IsInReach, opened_to}
use Rattle.rec_model.proofs.Counted.{closed_out_of, edge_sum, opened_from, root_sum}
use Rattle.rec_model.proofs.Reaching.{all_in_reach}
use Rattle.rec_core.proofs.Batches.{buffer_there, same_name, same_word}
use Rattle.rec_core.proofs.Sums.{share, log_share, box_share, buffers_sum, some_of}
use Rattle.rec_prompt.specs.Cover.{IsPending, takes}
use Rattle.rec_prompt.specs.Lost.{Leads}
use Rattle.rec_prompt.proofs.Counts.{counted_leads, some_at}
use Rattle.rec_prompt.proofs.Hanging.{Trails}

some_pair : {X Y : Type 0} (f : X × Y → ℕ) (xs : List X) (ys : List Y) (d : X) (e : Y) → 0 < sum_by f (zip xs ys) → (i : ℕ) × (0 < f (slice_index_or xs i d, slice_index_or ys i e))
some_pair f [] ys d e some = absurd (omega (arith, some))
some_pair f (x ∷ xs) [] d e some = absurd (omega (arith, some))
some_pair f (x ∷ xs) (y ∷ ys) d e some = elim (cases_lt 0 (f (x, y))) [
  | inl here ↦ (0, here)
  | inr none ↦ let rest = some_pair f xs ys d e (omega (arith, some, none, sum_by-cons f (x, y) (zip xs ys))) in (suc rest.0, rest.1)
]

-- How often a buffer takes the slot off is at least how often it does so from an epoch on.
replaced_most : (epoch slot : ℕ) (es : List Entry) → sum_by (replaces_from epoch (slot + 1)) (writes_in es) ≤ named slot (map old_target es)
replaced_most epoch slot [] = omega arith
replaced_most epoch slot (entries.Put place new old ∷ es) =
    let e : Write = record { place = place; new = new; old = old } in
    omega (arith, sum_by-cons (replaces_from epoch (slot + 1)) e (writes_in es), named-cons slot (target_of old) (map old_target es), only_if-le (nat_le epoch (epoch_of new)) (one_if_same (slot + 1) (node_of old)), same_word slot old, replaced_most epoch slot es)
replaced_most epoch slot (entries.Born x leaf ∷ es) = omega (arith, named-cons slot (Some x) (map old_target es), replaced_most epoch slot es)

born_most : (epoch of slot : ℕ) (es : List Entry) → sum_by (is_from epoch (slot + 1)) (births_in of es) ≤ named slot (map old_target es)
born_most epoch of slot [] = omega arith
born_most epoch of slot (entries.Put place new old ∷ es) = omega (arith, named-cons slot (target_of old) (map old_target es), born_most epoch of slot es)
born_most epoch of slot (entries.Born x leaf ∷ es) =
    omega (arith, sum_by-cons (is_from epoch (slot + 1)) (dated_birth of (x + 1) leaf) (births_in of es), named-cons slot (Some x) (map old_target es), only_if-le (nat_le epoch of) (one_if_same (slot + 1) (x + 1)), same_name slot (Some x), born_most epoch of slot es)

snapped_most : (epoch of slot : ℕ) (xs : List (Option ℕ)) → sum_by (is_at epoch (slot + 1)) (dated_names of xs) ≤ named slot xs
snapped_most epoch of slot [] = omega arith
snapped_most epoch of slot (None ∷ xs) = omega (arith, named-cons slot None xs, snapped_most epoch of slot xs)
snapped_most epoch of slot (Some x ∷ xs) =
    omega (arith, sum_by-cons (is_at epoch (slot + 1)) (dated of (x + 1)) (dated_names of xs), named-cons slot (Some x) xs, only_if-le (epoch == of) (one_if_same (slot + 1) (x + 1)), same_name slot (Some x), snapped_most epoch of slot xs)

-- and one of an earlier epoch does so nowhere
replaced_early : (epoch of slot : ℕ) (es : List Entry) → of < epoch → All (IsMadeIn of) es → sum_by (replaces_from epoch (slot + 1)) (writes_in es) ≡ 0
replaced_early epoch of slot [] early made = refl
replaced_early epoch of slot (entries.Put place new old ∷ es) early made =
    let at : epoch_of new ≡ of = All-head (IsMadeIn of) (entries.Put place new old) es made in
    let e : Write = record { place = place; new = new; old = old } in
    omega (arith, sum_by-cons (replaces_from epoch (slot + 1)) e (writes_in es), ap (λ b. only_if b (one_if_same (slot + 1) (node_of old))) (ap (nat_le epoch) at ∙ lt-leb epoch of early), replaced_early epoch of slot es early (All-tail (IsMadeIn of) (entries.Put place new old) es made))
replaced_early epoch of slot (entries.Born x leaf ∷ es) early made = replaced_early epoch of slot es early (All-tail (IsMadeIn of) (entries.Born x leaf) es made)

born_early : (epoch of slot : ℕ) (es : List Entry) → of < epoch → sum_by (is_from epoch (slot + 1)) (births_in of es) ≡ 0
born_early epoch of slot [] early = refl
born_early epoch of slot (entries.Put place new old ∷ es) early = born_early epoch of slot es early
born_early epoch of slot (entries.Born x leaf ∷ es) early =
    omega (arith, sum_by-cons (is_from epoch (slot + 1)) (dated_birth of (x + 1) leaf) (births_in of es), ap (λ b. only_if b (one_if_same (slot + 1) (x + 1))) (lt-leb epoch of early), born_early epoch of slot es early)

snapped_early : (epoch of slot : ℕ) (xs : List (Option ℕ)) → of < epoch → sum_by (is_at epoch (slot + 1)) (dated_names of xs) ≡ 0
snapped_early epoch of slot [] early = refl
snapped_early epoch of slot (None ∷ xs) early = snapped_early epoch of slot xs early
snapped_early epoch of slot (Some x ∷ xs) early =
    omega (arith, sum_by-cons (is_at epoch (slot + 1)) (dated of (x + 1)) (dated_names of xs), ap (λ b. only_if b (one_if_same (slot + 1) (x + 1))) (ne_eqb epoch of (λ e. omega (arith, e, early))), snapped_early epoch of slot xs early)

-- a buffer of an earlier epoch than the last batch's is one that this batch applied
batched_then : (requested : ℕ) (phase : Phase) → 1 + under_way phase ≤ requested → (older_at requested phase < applied_at requested phase) ⊎ (has_batched phase ≡ false)
batched_then requested Idle some = inr refl
batched_then requested (Looking t) some = inr refl
batched_then requested (Swapping t) some = inr refl
batched_then requested (Returning t) some = inr refl
batched_then requested _ some = inl (omega (arith, some))

only_if_some : (b : Bool) (n : ℕ) → 0 < only_if b n → (b ≡ true) × (0 < n)
only_if_some true n some = (refl, some)
only_if_some false n some = absurd (omega (arith, some))

only_if_most : (a b c : Bool) (n : ℕ) → only_if a (only_if b (only_if c n)) ≤ only_if b n
only_if_most true true true n = omega arith
only_if_most true true false n = omega arith
only_if_most true false c n = omega arith
only_if_most false b c n = omega arith

-- Of a heap of dated words.
module _ {stands : (t : ℕ) → Handshake} (v : Core) (kept : IsKeptBy true stands v) where
  abbrev applied : ℕ
  applied = applied_at v.epoch v.collector.phase

  some_epoch : 1 + under_way v.collector.phase ≤ v.epoch
  some_epoch = omega (arith, kept.config.some_epoch, kept.collector.begun)

  -- what all buffers take off the slot from that epoch on is taken off by one that isn't applied
  by_some : {Y : Type 0} (g : Y → ℕ) (f : Filed → List Y) (slot : ℕ) → ((epoch : ℕ) (b : Contents) → share g f epoch b ≤ takes slot b) → ((epoch : ℕ) (b : Contents) → epoch < applied → All (IsMadeIn epoch) b.entries → share g f epoch b ≡ 0)
      → 0 < sum_by g (flat_map f (buffers v)) → IsPending v slot
  by_some g f slot most early some = elim (cases_lt 0 (sum_by (log_share g f) v.mutators)) [
    | inl logs ↦
        let (i, below, one) = some_of (log_share g f) v.mutators nobody logs in
        IsPending.log i (omega (arith, one, most (epoch_at (slice_index_or v.mutators i nobody)) (slice_index_or v.mutators i nobody).log))
    | inr none ↦ elim (cases_lt 0 (sum_by (box_share g f) (zip v.mutators v.boxes))) [
      | inl boxes ↦
          let (i, one) = some_pair (box_share g f) v.mutators v.boxes nobody (collectors.blank 0 0) boxes in
          IsPending.mailbox i (omega (arith, one, most (epoch_at (slice_index_or v.mutators i nobody) - 1) (slice_index_or v.boxes i (collectors.blank 0 0))))
      | inr none_ ↦ elim (cases_lt 0 (sum_by (share g f (v.epoch - 1)) v.collector.newer)) [
        | inl newer ↦
            let (i, below, one) = some_of (share g f (v.epoch - 1)) v.collector.newer (collectors.blank 0 0) newer in
            IsPending.newer i (omega (arith, one, most (v.epoch - 1) (buffer_at v.collector.newer i)))
        | inr none__ ↦
            let at : ℕ = older_at v.epoch v.collector.phase in
            let (i, below, one) = some_of (share g f at) v.collector.older (collectors.blank 0 0) (omega (arith, some, none, none_, none__, buffers_sum g f v)) in
            elim (batched_then v.epoch v.collector.phase some_epoch) [
              | inl past ↦
                  let many : length v.collector.older ≡ v.config.mutators = kept.collector.machine.both ∙ kept.collector.mutators in
                  let made = (buffer_there v.config at v.collector.older many kept.collector.older i below).made in
                  absurd (omega (arith, one, early at (buffer_at v.collector.older i) past made))
              | inr before ↦ IsPending.older before i (omega (arith, one, most at (buffer_at v.collector.older i)))
            ]
      ]
    ]
  ]

  pub replaced_pends : (slot : ℕ) → 0 < sum_by (replaces_from applied (slot + 1)) (pending v).writes → IsPending v slot
  replaced_pends slot some = by_some (replaces_from applied (slot + 1)) (λ (b : Filed). writes_in b.buffer.entries) slot
      (λ epoch b. omega (arith, replaced_most applied slot b.entries))
      (λ epoch b past made. replaced_early applied epoch slot b.entries past made) some

  pub born_pends : (slot : ℕ) → 0 < sum_by (is_from applied (slot + 1)) (pending v).births → IsPending v slot
  born_pends slot some = by_some (is_from applied (slot + 1)) (λ (b : Filed). births_in b.epoch b.buffer.entries) slot
      (λ epoch b. omega (arith, born_most applied epoch slot b.entries))
      (λ epoch b past made. born_early applied epoch slot b.entries past) some

  pub snapped_pends : (slot : ℕ) → 0 < sum_by (is_at applied (slot + 1)) (pending v).snapshots → IsPending v slot
  snapped_pends slot some = by_some (is_at applied (slot + 1)) (λ (b : Filed). dated_names b.epoch b.buffer.snapshot) slot
      (λ epoch b. omega (arith, snapped_most applied epoch slot b.snapshot))
      (λ epoch b past made. snapped_early applied epoch slot b.snapshot past) some

  -- A place that is counted for a slot is a field that leads to it.
  pub leads_there : (place slot : ℕ) → 0 < one_if_same (slot + 1) (node_of (slice_index_or v.words place 0)) → Leads (sight v) (place / v.config.fields) slot
  leads_there place slot some =
      let fields : ℕ = v.config.fields in
      let here : place_of (place / fields) (place % fields) fields ≡ place = ap (λ k. k + place % fields) (mul_comm (place / fields) fields) ∙ div-add-mod place fields in
      (place % fields, mod-lt place kept.config.some_fields, ap (λ n. target_of (slice_index_or v.words n 0)) here ∙ counted_leads (slice_index_or v.words place 0) slot some)

  -- What is in reach of the last batch's epoch is on a path of fields from what is pending.
  pub reach_trails : (slot : ℕ) → IsInReach (pending v) applied (slot + 1) → Trails (sight v) (IsPending v) slot
  reach_trails slot reached = all_in_reach (pending v) applied (λ node. (x : ℕ) → node ≡ x + 1 → Trails (sight v) (IsPending v) x) at_root at_target (slot + 1) reached slot refl
    where
      at_root : (node : ℕ) → 0 < node → 0 < root_sum (pending v) applied node → (x : ℕ) → node ≡ x + 1 → Trails (sight v) (IsPending v) x
      at_root node pos some x is = Trails.first (elim (cases_lt 0 (sum_by (is_at applied (x + 1)) (pending v).snapshots)) [
        | inl snapshot ↦ snapped_pends x snapshot
        | inr none ↦ born_pends x (let there : 0 < root_sum (pending v) applied (x + 1) = subst (λ n. 0 < root_sum (pending v) applied n) is some in omega (arith, there, none))
      ])

      at_target : (source node : ℕ) → 0 < source → 0 < node → IsInReach (pending v) applied source → ((x : ℕ) → source ≡ x + 1 → Trails (sight v) (IsPending v) x) → 0 < edge_sum (pending v) applied source node → (x : ℕ) → node ≡ x + 1 → Trails (sight v) (IsPending v) x
      at_target source node some_source pos from hung some x is =
          let fields : ℕ = v.config.fields in
          let there : 0 < edge_sum (pending v) applied source (x + 1) = subst (λ n. 0 < edge_sum (pending v) applied source n) is some in
          elim (cases_lt 0 (sum_at (opened_from fields applied source (x + 1)) v.words)) [
            | inl open_ ↦
                let (place, weighs) = some_at (opened_from fields applied source (x + 1)) v.words open_ in
                let word : ℕ = slice_index_or v.words place 0 in
                let own = only_if_some (source == home fields place) (opened_to applied (x + 1) place word) weighs in
                let named_ = only_if_some (nat_le (epoch_of word) applied) (one_if_same (x + 1) (node_of word)) own.1 in
                Trails.along (hung (place / fields) (eqb-true source (home fields place) own.0)) (leads_there place x named_.1)
            | inr none ↦ Trails.first (replaced_pends x (omega (
              arith,
              there,
              none,
              sum_by-le-sum_by (closed_out_of fields applied source (x + 1)) (replaces_from applied (x + 1)) (pending v).writes
                  (λ e. only_if_most (source == home fields e.place) (nat_le applied (epoch_of e.new)) (nat_le (epoch_of e.old) applied) (one_if_same (x + 1) (node_of e.old))),
            )))
          ]
