-- A batch leaves each slot on something: what it took something off is a candidate root or a zero then, or a snapshot of the batch's epoch
-- names it, in a steady heap. What it only added to was in the reach of the epoch before, so it hangs on what was taken off.
use Rattle.std.proofs.Common.{◌≡◌, inl, inr, ℕ, zero, suc, ◌+◌, ◌<◌, ◌≤◌, ◌==◌, nat_lt, true, false, Bool, List, [], ◌∷◌, length, map, slice_index_or, refl, sym, ap, ◌∙◌, arith}
use Rattle.std.specs.List.{sum_by, concat}
use Rattle.std.proofs.lemmas.Bool.{cases_Bool, cases_lt, eqb-true, false≢true, lt-ltb}
use Rattle.std.proofs.lemmas.List.{get_or_past}
use Rattle.std.proofs.lemmas.List.Sums.{sum_by-cons, sum_by-le-sum_by}
use Rattle.rec_core.proofs.Common.{is_green, State, slot_at, one, times, times-nil, Slot, Contents, named, old_target, puts_in, node_of, epoch_of, home, one_if_same, only_if, Write, IsTaken, Opening, Returning, Core, sight, nobody, IsKeptBy, stand_at, pending, applied_at, buffer_at}
use Rattle.rec_counts.specs.Batch.{names}
use Rattle.rec_counts.specs.Colour.{is_purple}
use Rattle.rec_counts.specs.Counts.{IsKept as IsKeptCounts}
use Rattle.rec_counts.specs.Targets.{held, leaves, taken, told_buffers, written}
use Rattle.rec_counts.proofs.Naming.{added_parts, named-nil}
use Rattle.rec_counts.proofs.Told.{told_even, written_told}
use Rattle.rec_counts.proofs.Times.{one-some}
use Rattle.rec_collector.specs.Private as collectors
use Rattle.rec_collector.proofs.Following.{none_released, rows_alike}
use Rattle.rec_model.specs.Accounted.{touches}
use Rattle.rec_model.specs.References.{IsInReach}
use Rattle.rec_core.proofs.Applying.{counted, is_counted, puts_is}
use Rattle.rec_core.proofs.Turns.{now_in}
use Rattle.rec_prompt.specs.Cover.{Covers, IsListed, IsPending, takes}
use Rattle.rec_prompt.specs.Cover.Hangs.{later, listed, behind}
use Rattle.rec_prompt.proofs.Heeding.{IsOwned}
use Rattle.rec_prompt.proofs.Hanging.{all_on_trails, carried, IsHung, LeadersCount, Trails}
use Rattle.rec_core.proofs.Sums.{some_of}
use Rattle.rec_prompt.proofs.Pended.{reach_trails}

-- A batch after the next takes something off the slot: by a log, by what a mailbox holds, or by a newer buffer.
pub data IsLate (w : Core) (slot : ℕ) : Type 0 where
  log : (i : ℕ) → 0 < takes slot (slice_index_or w.mutators i nobody).log → IsLate w slot
  mailbox : (i : ℕ) → 0 < takes slot (slice_index_or w.boxes i (collectors.blank 0 0)) → IsLate w slot
  newer : (i : ℕ) → 0 < takes slot (collectors.buffer_at w.collector.newer i) → IsLate w slot

-- an element weighs no more than all of them
pub at_most : {X : Type 0} (f : X → ℕ) (xs : List X) (i : ℕ) (d : X) → f d ≡ 0 → f (slice_index_or xs i d) ≤ sum_by f xs
at_most f [] i d none = omega (arith, none)
at_most f (x ∷ xs) zero d none = omega (arith, sum_by-cons f x xs)
at_most f (x ∷ xs) (suc i) d none = omega (arith, sum_by-cons f x xs, at_most f xs i d none)

module _ (u : Core) (t : ℕ) (kept : IsKeptBy true (stand_at u.collector.left Opening) u) (phase : u.collector.phase ≡ Returning t) where
  open u use {collector as c}

  abbrev s : State
  s = counted u t kept phase

  open (now_in u (Returning t) kept phase) use {rest}

  abbrev pub told_newer : List Contents
  told_newer = told_buffers c.policy.steady c.newer c.older

  abbrev pub told_older : List Contents
  told_older = told_buffers c.policy.steady c.older c.newer

  lists : IsKeptCounts s
  lists = (is_counted u t kept phase).lists kept.collector.machine.counts

  unreleased : (x : ℕ) → IsTaken (sight u) x → (slot_at c.counts x).released ≡ false
  unreleased x taken_ =
      let headers : length u.headers ≡ u.config.slots = kept.headers in
      let many : length c.counts.slots ≡ u.config.slots = kept.collector.slots in
      none_released rest x (elim (cases_lt x (length c.counts.slots)) [ inl below ↦ below | inr past ↦ absurd (omega (arith, taken_, get_or_past u.headers x 0 (omega (arith, past, headers, many)))) ])

  -- a slot that is Purple and buffered is a root or a member
  in_buffer : (x : ℕ) → is_purple (slot_at s x).colour ≡ true → (slot_at s x).buffered ≡ true → IsListed s x
  in_buffer x purple buffered = elim (cases_lt 0 (times x (concat s.sets))) [
    | inl member ↦ IsListed.member member
    | inr none ↦ IsListed.root (omega (arith, none, lists.buffers x, ap one buffered)) purple
  ]

  -- what something was taken off
  told_hung : (x : ℕ) → 0 < taken x told_older → IsHung (sight u) (IsLate u) s x
  told_hung x told there plain = elim (cases_lt 0 (slot_at s x).count) [
    | inl left ↦ let root = (is_counted u t kept phase).roots x (unreleased x there) told plain left in listed (in_buffer x (ap is_purple root.0) root.1)
    | inr none ↦ listed (IsListed.zero ((is_counted u t kept phase).all_zeros (λ y live zero. absurd (omega (arith, zero, rest.counted y live))) x ((is_counted u t kept phase).rest.released x ∙ unreleased x there) (omega (arith, none))))
  ]

  taken_hung : (x : ℕ) → 0 < taken x c.older → IsHung (sight u) (IsLate u) s x
  taken_hung x some there plain = elim (cases_lt 0 (taken x told_older)) [
    | inl told ↦ told_hung x told there plain
    | inr untold ↦
        let names_ : 0 < held x c.newer = omega (arith, some, untold, told_even c.policy.steady x c.newer c.older (rows_alike c kept.collector.machine), added_parts x c.newer, added_parts x told_newer, written_told c.policy.steady x c.newer c.older) in
        let (i, below, one_) = some_of (λ (b : Contents). named x b.snapshot) c.newer (collectors.blank 0 0) names_ in
        later (IsLate.newer i (omega (arith, one_)))
  ]

  -- what was pending
  pending_hung : (x : ℕ) → IsPending u x → IsHung (sight u) (IsLate u) s x
  pending_hung x (IsPending.log i some) there plain = later (IsLate.log i some)
  pending_hung x (IsPending.mailbox i some) there plain = later (IsLate.mailbox i some)
  pending_hung x (IsPending.newer i some) there plain = later (IsLate.newer i some)
  pending_hung x (IsPending.older early i some) there plain =
      taken_hung x (omega (arith, some, at_most (λ (b : Contents). named x (map old_target b.entries) + named x b.snapshot) c.older i (collectors.blank 0 0) (omega (arith, named-nil x)))) there plain

  -- what is on a path from there
  module _ (alive : LeadersCount (sight u) s) where
    trail_hung : (x : ℕ) → Trails (sight u) (IsPending u) x → IsHung (sight u) (IsLate u) s x
    trail_hung = all_on_trails (sight u) (IsPending u) (IsHung (sight u) (IsLate u) s) pending_hung (λ from slot hung leads there plain. let from_there = alive from slot leads in behind (hung from_there.0 from_there.1) leads)

    -- what a write of the batch's epoch put was in the reach of the epoch before
    written_hung : (x : ℕ) → 0 < written x c.newer → IsHung (sight u) (IsLate u) s x
    written_hung x some =
        let a : ℕ = applied_at u.epoch c.phase in
        let writes : List Write = (pending u).writes in
        let puts : sum_by (puts_in (a + 1) (x + 1)) writes ≤ sum_by (touches u.config.fields a (x + 1)) writes = sum_by-le-sum_by (puts_in (a + 1) (x + 1)) (touches u.config.fields a (x + 1)) writes (λ e. put_touches u.config.fields a (x + 1) e) in
        let reached : IsInReach (pending u) a (x + 1) = kept.accounted.held a (omega arith) kept.accounted.epochs.behind (x + 1) (omega arith) (omega (arith, some, puts, puts_is u t kept phase x)) in
        trail_hung x (reach_trails u kept x reached)
      where
        by_tests : (same_ later_ : Bool) (a b d : ℕ) → (same_ ≡ true → later_ ≡ true) → only_if same_ b ≤ only_if later_ (a + b + d)
        by_tests true later_ a b d so = omega (arith, ap (λ (x : Bool). only_if x (a + b + d)) (so refl))
        by_tests false later_ a b d so = omega arith

        put_touches : (fields a node : ℕ) (e : Write) → puts_in (a + 1) node e ≤ touches fields a node e
        put_touches fields a node e = by_tests (a + 1 == epoch_of e.new) (nat_lt a (epoch_of e.new)) (one_if_same node (home fields e.place)) (one_if_same node (node_of e.new)) (one_if_same node (node_of e.old))
            (λ same_. lt-ltb a (epoch_of e.new) (let at : a + 1 ≡ epoch_of e.new = eqb-true (a + 1) (epoch_of e.new) same_ in omega (arith, at)))

    -- A Purple root that the batch names isn't one any more only where it was added to.
    root_hung : (x : ℕ) → 0 < times x c.counts.roots → is_purple (slot_at c.counts x).colour ≡ true → IsHung (sight u) (IsLate u) s x
    root_hung x root purple there plain = elim (cases_lt 0 (names x told_newer told_older)) [
      | inr none ↦
          let same : slot_at s x ≡ slot_at c.counts x = (is_counted u t kept phase).same x (omega (arith, none)) in
          let before : one (slot_at c.counts x).buffered ≡ times x c.counts.roots + times x (concat c.counts.sets) = sym (kept.collector.machine.counts.buffers x) in
          listed (in_buffer x (ap (λ (v : Slot). is_purple v.colour) same ∙ purple) (one-some (slot_at s x).buffered (omega (arith, root, before, ap (λ (v : Slot). one v.buffered) same))))
      | inl some ↦ elim (cases_lt 0 (taken x told_older)) [
        | inl told ↦ told_hung x told there plain
        | inr untold ↦ elim (cases_lt 0 (leaves x told_newer)) [
          | inl born ↦ absurd (false≢true (sym plain ∙ (is_counted u t kept phase).born x born))
          | inr unborn ↦ elim (cases_lt 0 (held x c.newer)) [
            | inl snapshot ↦
                let (i, below, one_) = some_of (λ (b : Contents). named x b.snapshot) c.newer (collectors.blank 0 0) snapshot in
                later (IsLate.newer i (omega (arith, one_)))
            | inr none ↦ written_hung x (omega (arith, some, untold, unborn, none, told_even c.policy.steady x c.newer c.older (rows_alike c kept.collector.machine), added_parts x c.newer)) there plain
          ]
        ]
      ]
    ]

    list_hung : (x : ℕ) → IsListed c.counts x → IsHung (sight u) (IsLate u) s x
    list_hung x (IsListed.released gone) there plain = absurd (false≢true (sym (unreleased x there) ∙ gone))
    list_hung x (IsListed.zero some) there plain = absurd (omega (arith, some, ap (times x) rest.zeros, times-nil x))
    list_hung x (IsListed.root some purple) there plain = root_hung x some purple there plain
    list_hung x (IsListed.member some) there plain = listed (IsListed.member (omega (arith, some, ap (λ (xss : List (List ℕ)). times x (concat xss)) (is_counted u t kept phase).rest.sets)))
    list_hung x (IsListed.marked some) there plain = listed (IsListed.marked (omega (arith, some, ap (times x) (is_counted u t kept phase).rest.marked)))

    -- So each slot hangs on something after the batch.
    pub batch_covers : Covers (sight u) (IsPending u) c.counts → Covers (sight u) (IsLate u) s
    batch_covers cover slot there plain = elim (cases_Bool (is_green (slot_at c.counts slot).colour)) [
      | inr before ↦ carried (sight u) (sight u) (IsPending u) (IsLate u) c.counts s alive pending_hung list_hung (λ m n leads. inl leads) slot (cover slot there before) there plain
      | inl green ↦ absurd (false≢true (sym plain ∙ still_green slot green))
    ]
      where
        still_green : (x : ℕ) → is_green (slot_at c.counts x).colour ≡ true → is_green (slot_at s x).colour ≡ true
        still_green x green = elim (cases_lt 0 (leaves x told_newer)) [ inl born ↦ (is_counted u t kept phase).born x born | inr none ↦ (is_counted u t kept phase).greens x (omega (arith, none)) ∙ green ]

  -- and what was a member or released is so after it
  pub batch_owned : (x : ℕ) → IsOwned c.counts x → IsOwned s x
  batch_owned x (inl gone) = inl ((is_counted u t kept phase).rest.released x ∙ gone)
  batch_owned x (inr member) = inr (omega (arith, member, ap (λ (xss : List (List ℕ)). times x (concat xss)) (is_counted u t kept phase).rest.sets))

  pub batch_gone : (x : ℕ) → (slot_at c.counts x).released ≡ true → (slot_at s x).released ≡ true
  batch_gone x gone = (is_counted u t kept phase).rest.released x ∙ gone
