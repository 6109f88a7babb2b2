-- A turn of the collector leaves each slot on something, unless it refuses a set of which a member was touched.
use Rattle.std.proofs.Common.{◌≡◌, ◌≢◌, ◌⊎◌, inl, inr, ℕ, ◌+◌, ◌-◌, ◌*◌, ◌<◌, ◌==◌, true, false, Bool, Option, None, Some, IfSome, IsSome, List, [], ◌∷◌, length, map, slice_index_or, slice_set, refl, sym, ap, subst, ◌∙◌, arith}
use Rattle.rec_core.specs.Pending.{has_batched}
use Rattle.std.proofs.lemmas.Bool.{cases_eq, false≢true, cond-false, ne_eqb}
use Rattle.std.proofs.lemmas.List.{get_or-set_same, get_or-set_other, set-get_or}
use Rattle.rec_core.proofs.Common.{crossing_word, Retired, place_of, target_of, Op, is_green, State, slot_at, times, absent, Slot, taken_off, IsApart, emptied, Sight, IsTaken, Contents, buffer_at, Parts, parts_of, relieved_at, with_released, with_freed, zeros_released, ClearsOn, TriesOn, PreparesOn, Begun, noted, requested, Phase, Idle, Looking, Returning, Releasing, Freeing, Trying, Preparing, Opening, Sweeping, Closing, Turn, Machine, cell, with_cell, Core, cells_of, box, nobody, sight, stand_at, IsKept, IsKeptBy, left_by, looked_at, turned_by, At, Member, swept, swept_clean, visible, freed_by, freed_last, freed_listed, released_by}
use Rattle.rec_word.specs.Op.{written}
use Rattle.rec_word.specs.declared.op.Op.TheVariants as ops
use Rattle.rec_counts.proofs.Naming.{named-nil}
use Rattle.rec_prompt.proofs.Mutators.{nulls_take}
use Rattle.rec_release.specs.CycleFree as frees
use Rattle.rec_release.specs.Release as releases
use Rattle.rec_release.specs.Sweep as sweeps
use Rattle.rec_sigma.specs.Prepare as preps
use Rattle.rec_trial.specs.Trial as trials
use Rattle.rec_collector.specs.Kept as collector_kept
use Rattle.rec_collector.specs.Private as collectors
use Rattle.rec_collector.specs.Step as step
use Rattle.rec_collector.specs.Took.{crossed_for, step_of}
use Rattle.rec_core.proofs.Begun.{applied_lands}
use Rattle.rec_core.proofs.Gathering.{awaits_kept}
use Rattle.rec_core.proofs.Landed.{HasCleared}
use Rattle.rec_core.proofs.Shapes.{same_boxes}
use Rattle.rec_core.proofs.PlainWords.{crosses_none, takes_retired, waits_other}
use Rattle.rec_core.proofs.TurnCases.{Awaits, giving_back, requesting}
use Rattle.rec_core.proofs.Turning.{mutator_at, some_op}
use Rattle.rec_core.proofs.Applying.{counted}
use Rattle.rec_core.proofs.Phases.{clears_in}
use Rattle.rec_core.proofs.Turns.{now_at}
use Rattle.rec_prompt.specs.Cover.{Covers, Hangs, IsCovered, IsListed, IsPending, takes}
use Rattle.rec_prompt.specs.Cover.Hangs.{later, listed, behind}
use Rattle.rec_prompt.specs.Lost.{Leads}
use Rattle.rec_counts.proofs.Times.{times_at}
use Rattle.rec_word.specs.Walk.{IsOf}
use Rattle.rec_prompt.proofs.Backing.{AreBacked, backed_fades, backed_more}
use Rattle.rec_prompt.proofs.Cut.{backed_counted, backed_cut}
use Rattle.rec_prompt.proofs.Fading.{fades_freed, fades_released, fades_same, fades_zeros}
use Rattle.rec_prompt.proofs.Batch.{batch_covers, IsLate}
use Rattle.rec_prompt.proofs.Clears.{clears_on, clears_grown, grown_same, IsGrown, prepares_refused, tries_refused, heeds_leaders, heeds_zeros, IsOn, IsOver, prepares_on, touched, tries_on}
use Rattle.rec_prompt.proofs.Followed.{IsFollowed}
use Rattle.rec_prompt.proofs.Forgets.{set_or}
use Rattle.rec_prompt.proofs.Hanging.{all_on_trails, carried, leaders_count, leaders_from, LeadersCount, Trails}
use Rattle.rec_prompt.proofs.Heeding.{Heeds, heeds_alike, heeds_covers, heeds_emptied, heeds_next, heeds_on, heeds_others, IsSeen}
use Rattle.rec_prompt.proofs.Lessened.{heeds_taken_off}
use Rattle.rec_core.proofs.Freeing.{freed_lands}
use Rattle.rec_core.proofs.Preparing.{loads_due}
use Rattle.rec_core.proofs.Releasing.{released_lands}
use Rattle.rec_core.proofs.Trying.{loads_child}
use Rattle.rec_collector.proofs.Trying.{took_others}
use Rattle.rec_prompt.proofs.Trialled.{trialled}
use Rattle.std.specs.List.{concat}
use Rattle.rec_counts.specs.Colour.{is_purple}
use Rattle.rec_model.specs.Reach.{is_in}
use Rattle.rec_model.proofs.Members.{is_in-head}
use Rattle.rec_prompt.specs.Prompt.{freed_by as freed_by_op}
use Rattle.rec_prompt.proofs.Turns.{clears_rows, op_frees, prepares_rows, Rows, rows_as, tries_rows}

-- Each slot hangs on something, and a trial at work is followed.
pub record IsWatched (w : Core) : Type 0 where
  pub covers : IsCovered w
  pub follows : (m : Machine) → w.collector.phase ≡ Trying m → IsFollowed (sight w) (IsPending w) w.collector.counts m

-- what hangs on what is pending hangs on it where more is
pub covers_more : (w : Sight) (before after : ℕ → Type 0) (s : State) → ((x : ℕ) → before x → after x) → Covers w before s → Covers w after s
covers_more w before after s more c slot taken plain = go slot (c slot taken plain)
  where
    go : (x : ℕ) → Hangs w before s x → Hangs w after s x
    go x (later is) = later (more x is)
    go x (listed is) = listed is
    go x (behind path leads) = behind (go _ path) leads

pub followed_more : (w : Sight) (before after : ℕ → Type 0) (s : State) (m : Machine) → ((x : ℕ) → before x → after x) → IsFollowed w before s m → IsFollowed w after s m
followed_more w before after s m more f = record {
  before = f.before;
  ls = f.ls;
  course = f.course;
  due = f.due;
  node = f.node;
  marks = λ n g x within there leads. elim (f.marks n g x within there leads) [
    | inl hit ↦ inl hit
    | inr rest ↦ elim rest [ inl green ↦ inr (inl green) | inr trail ↦ inr (inr (all_on_trails w before (Trails w after) (λ y is. Trails.first (more y is)) (λ from y path l. Trails.along path l) x trail)) ]
  ];
  blacks = λ n g x within hit. elim (f.blacks n g x within hit) [ inl leads ↦ inl leads | inr is ↦ inr (more x is) ];
}

-- once the batch is applied, what is pending is late
pub late_of : (w : Core) → has_batched w.collector.phase ≡ true → (x : ℕ) → IsPending w x → IsLate w x
late_of w batched x (IsPending.log i some) = IsLate.log i some
late_of w batched x (IsPending.mailbox i some) = IsLate.mailbox i some
late_of w batched x (IsPending.newer i some) = IsLate.newer i some
late_of w batched x (IsPending.older early i some) = absurd (false≢true (sym early ∙ batched))

-- A word came out of a field of a released slot.
module _ (v : Core) (kept : IsKept true v) (place : ℕ) (batched : has_batched v.collector.phase ≡ true) (apart : IsApart v.collector.counts) (c : IsCovered v) (lowers : Bool) where
  abbrev word : ℕ
  word = slice_index_or v.words place 0

  abbrev after : Sight
  after = sight (record v { words = slice_set v.words place 0 })

  abbrev t : State
  t = taken_off lowers v.collector.counts (target_of word)

  off : Heeds v.collector.counts t × ((x : ℕ) → target_of word ≡ Some x → IsSeen t x)
  off = heeds_taken_off lowers v.collector.counts (target_of word) kept.collector.machine.counts apart

  still_led : (m n : ℕ) → Leads after m n → Leads (sight v) m n
  still_led m n (field, within, leads) = elim (set_or v.words place 0 (place_of m field v.config.fields) 0) [
    | inl other ↦ (field, within, ap target_of (sym other) ∙ leads)
    | inr null ↦ let not_so : ◌≡◌ {A = Option ℕ} None (Some n) = sym (ap target_of null) ∙ leads in absurd (cc)
  ]

  pub off_leaders : LeadersCount after t
  off_leaders = heeds_leaders after v.collector.counts t off.0 (λ m n leads. leaders_count v kept m n (still_led m n leads))

  pub off_covers : Covers after (IsLate v) t
  off_covers slot taken plain = carried (sight v) after (IsPending v) (IsLate v) v.collector.counts t off_leaders
      (λ x is taken_ plain_. later (late_of v batched x is))
      (λ x is taken_ plain_. hung x (off.0.lists x is) plain_)
      (λ m n (field, within, leads). elim (cases_eq (place_of m field v.config.fields) place) [
        | inl same ↦ inr (λ taken_ plain_. hung n (off.1 n (ap (λ i. target_of (slice_index_or v.words i 0)) (sym same) ∙ leads)) plain_)
        | inr other ↦ inl (field, within, ap target_of (get_or-set_other v.words place (place_of m field v.config.fields) 0 0 other) ∙ leads)
      ])
      slot (c slot taken (sym (off.0.greens slot) ∙ plain)) taken plain
    where
      hung : (x : ℕ) → IsSeen t x → is_green (slot_at t x).colour ≡ false → Hangs after (IsLate v) t x
      hung x (inl there) plain_ = listed there
      hung x (inr green) plain_ = absurd (false≢true (sym plain_ ∙ green))

-- the same, up to where the release, or the freeing of a set, has come to
module _ (v : Core) (kept : IsKept true v) (place : ℕ) (batched : has_batched v.collector.phase ≡ true) (apart : IsApart v.collector.counts) (c : IsCovered v) where
  abbrev found : ℕ
  found = slice_index_or v.words place 0

  abbrev then : Sight
  then = sight (record v { words = slice_set v.words place 0 })

  heeds_then : (lowers : Bool) (u : State) → Heeds (taken_off lowers v.collector.counts (target_of found)) u → Covers then (IsLate v) u
  heeds_then lowers u h = heeds_covers then (IsLate v) (taken_off lowers v.collector.counts (target_of found)) u (heeds_leaders then (taken_off lowers v.collector.counts (target_of found)) u h (off_leaders v kept place batched apart c lowers)) h (off_covers v kept place batched apart c lowers)

  pub heeds_released : (m : releases.Machine) → IsSome m.at → Heeds v.collector.counts (with_released m (parts_of v.collector) found).parts.counts
  heeds_released m busy = released_by (λ b. Heeds v.collector.counts b.parts.counts) m (parts_of v.collector) found busy
      (λ a at more. (off v kept place batched apart c m.lowers).0)
      (λ a at last. let s : State = emptied (taken_off m.lowers v.collector.counts (target_of found)) a.slot in heeds_on (off v kept place batched apart c m.lowers).0 (heeds_on (heeds_emptied (taken_off m.lowers v.collector.counts (target_of found)) a.slot) (heeds_next s.zeros s refl)))

  pub heeds_freed : (m : frees.Machine) → IsSome m.at → Heeds v.collector.counts (with_freed m (parts_of v.collector) found).parts.counts
  heeds_freed m busy = freed_by (λ b. Heeds v.collector.counts b.parts.counts) m (parts_of v.collector) found busy
      (λ a at more. (off v kept place batched apart c true).0)
      (λ a at last more. (off v kept place batched apart c true).0)
      (λ a at last none.
      let s : State = taken_off true v.collector.counts (target_of found) in
      let lists : Heeds s (frees.listed s) = heeds_alike s (frees.listed s) (λ x. refl) (λ x is. is) (λ x. omega arith) (λ x. omega arith) (λ x. omega arith) (λ x. omega arith) in
      heeds_on (off v kept place batched apart c true).0 (heeds_on lists (heeds_zeros true (freed_listed (parts_of v.collector) found))))

  pub released_covers : (m : releases.Machine) → IsSome m.at → Covers then (IsLate v) (with_released m (parts_of v.collector) found).parts.counts
  released_covers m busy = released_by (λ b. Covers then (IsLate v) b.parts.counts) m (parts_of v.collector) found busy
      (λ a at more. off_covers v kept place batched apart c m.lowers)
      (λ a at last. let s : State = emptied (taken_off m.lowers v.collector.counts (target_of found)) a.slot in heeds_then m.lowers (releases.next_from s.zeros s).counts (heeds_on (heeds_emptied (taken_off m.lowers v.collector.counts (target_of found)) a.slot) (heeds_next s.zeros s refl)))

  pub freed_covers : (m : frees.Machine) → IsSome m.at → Covers then (IsLate v) (with_freed m (parts_of v.collector) found).parts.counts
  freed_covers m busy = freed_by (λ b. Covers then (IsLate v) b.parts.counts) m (parts_of v.collector) found busy
      (λ a at more. off_covers v kept place batched apart c true)
      (λ a at last more. off_covers v kept place batched apart c true)
      (λ a at last none.
      let s : State = taken_off true v.collector.counts (target_of found) in
      let lists : Heeds s (frees.listed s) = heeds_alike s (frees.listed s) (λ x. refl) (λ x is. is) (λ x. omega arith) (λ x. omega arith) (λ x. omega arith) (λ x. omega arith) in
      heeds_then true (freed_last (parts_of v.collector) found).parts.counts (heeds_on lists (heeds_zeros true (freed_listed (parts_of v.collector) found))))

-- ---- the rules of a turn

-- the collector has turned with this operation
module _ (v : Core) (op : Op) (kept : IsKept true v) where
  open v use {collector as c}

  abbrev its_word : ℕ
  its_word = cell (cells_of v) op

  abbrev its_box : Contents
  its_box = box v (looked_at c.phase)

  abbrev q : collectors.Private
  q = step_of c its_word its_box

  abbrev u : Core
  u = turned_by v op its_word

  -- the same of what is seen where the words are these, and what is pending is so still
  pub sight_is : (words : List ℕ) → u.words ≡ words → u.headers ≡ v.headers → sight u ≡ sight (record v { words = words })
  sight_is words is same = λ j. record { fields = v.config.fields; headers = same j; words = is j; registers = map (λ p. p.registers) v.mutators }

  -- no mailbox is looked at
  pub plain_boxes : (phase : Phase) → c.phase ≡ phase → left_by c its_word (box v (looked_at phase)) phase ≡ box v (looked_at phase) → u.boxes ≡ v.boxes
  plain_boxes phase is same = ap (λ (p : Phase). slice_set v.boxes (looked_at p - 1) (left_by c its_word (box v (looked_at p)) p)) is ∙ ap (slice_set v.boxes (looked_at phase - 1)) same ∙ same_boxes v (looked_at phase)

  -- what is late is pending after it, by what becomes of the collector's buffers
  pub late_pends : u.boxes ≡ v.boxes → Rows c q → (x : ℕ) → IsLate v x → IsPending u x
  late_pends boxes rows x (IsLate.log j some) = IsPending.log j some
  late_pends boxes rows x (IsLate.mailbox j some) = IsPending.mailbox j (subst (λ (bs : List Contents). 0 < takes x (slice_index_or bs j (collectors.blank 0 0))) (sym boxes) some)
  late_pends boxes (Rows.kept_rows newer older many) x (IsLate.newer j some) = IsPending.newer j (subst (λ (bs : List Contents). 0 < takes x (buffer_at bs j)) (sym newer) some)
  late_pends boxes (Rows.turned_rows newer older many idle) x (IsLate.newer j some) = IsPending.older (ap has_batched idle) j (subst (λ (bs : List Contents). 0 < takes x (buffer_at bs j)) (sym older) some)

  -- the words and headers after an operation that changes neither
  pub quiet : (o : Op) → op ≡ o → (with_cell (cells_of v) o (written o (cell (cells_of v) o))).words ≡ v.words → (with_cell (cells_of v) o (written o (cell (cells_of v) o))).headers ≡ v.headers → (u.words ≡ v.words) × (u.headers ≡ v.headers)
  quiet o its words headers = (ap (λ (p : Op). (with_cell (cells_of v) p (written p (cell (cells_of v) p))).words) its ∙ words, ap (λ (p : Op). (with_cell (cells_of v) p (written p (cell (cells_of v) p))).headers) its ∙ headers)

  -- just before a batch, as much is pending as before the turn
  pub awaits_more : (b : Core) → b.mutators ≡ v.mutators → b.boxes ≡ v.boxes → b.collector.newer ≡ c.newer → b.collector.older ≡ c.older → has_batched b.collector.phase ≡ false → (x : ℕ) → IsPending v x → IsPending b x
  awaits_more b mutators boxes newer older early x (IsPending.log j some) = IsPending.log j (subst (λ ps. 0 < takes x (slice_index_or ps j nobody).log) (sym mutators) some)
  awaits_more b mutators boxes newer older early x (IsPending.mailbox j some) = IsPending.mailbox j (subst (λ (bs : List Contents). 0 < takes x (slice_index_or bs j (collectors.blank 0 0))) (sym boxes) some)
  awaits_more b mutators boxes newer older early x (IsPending.newer j some) = IsPending.newer j (subst (λ (bs : List Contents). 0 < takes x (buffer_at bs j)) (sym newer) some)
  awaits_more b mutators boxes newer older early x (IsPending.older e j some) = IsPending.older early j (subst (λ (bs : List Contents). 0 < takes x (buffer_at bs j)) (sym older) some)

  pub same_late : (b : Core) → b.mutators ≡ v.mutators → b.boxes ≡ v.boxes → b.collector.newer ≡ c.newer → (x : ℕ) → IsLate b x → IsLate v x
  same_late b mutators boxes newer x (IsLate.log j some) = IsLate.log j (subst (λ ps. 0 < takes x (slice_index_or ps j nobody).log) mutators some)
  same_late b mutators boxes newer x (IsLate.mailbox j some) = IsLate.mailbox j (subst (λ (bs : List Contents). 0 < takes x (slice_index_or bs j (collectors.blank 0 0))) boxes some)
  same_late b mutators boxes newer x (IsLate.newer j some) = IsLate.newer j (subst (λ (bs : List Contents). 0 < takes x (buffer_at bs j)) newer some)

  -- what is pending in the rules that only gather
  module _ (turn : Turn) where
    -- what is pending is so still where a phase before the batch follows, with the same buffers
    pub before_pends : (phase next : Phase) → c.phase ≡ phase → left_by c its_word (box v (looked_at phase)) phase ≡ box v (looked_at phase) → q.phase ≡ next → has_batched next ≡ false → q.newer ≡ c.newer → q.older ≡ c.older → (x : ℕ) → IsPending v x → IsPending u x
    before_pends phase next at left then_ early_then newer older = more
      where
        more : (x : ℕ) → IsPending v x → IsPending u x
        more x (IsPending.log j some) = IsPending.log j some
        more x (IsPending.mailbox j some) = IsPending.mailbox j (subst (λ (bs : List Contents). 0 < takes x (slice_index_or bs j (collectors.blank 0 0))) (sym (plain_boxes phase at left)) some)
        more x (IsPending.newer j some) = IsPending.newer j (subst (λ (bs : List Contents). 0 < takes x (buffer_at bs j)) (sym newer) some)
        more x (IsPending.older is j some) = IsPending.older (ap has_batched then_ ∙ early_then) j (subst (λ (bs : List Contents). 0 < takes x (buffer_at bs j)) (sym older) some)

    -- a mailbox is gathered
    pub gathered_pends : (t : ℕ) → c.phase ≡ Looking t → step.GoesOn (record c { newer = slice_set c.newer (t - 1) its_box }) q turn (Returning t) → (x : ℕ) → IsPending v x → IsPending u x
    gathered_pends t at g = more
      where
        then_ : q.phase ≡ Returning t
        then_ = ap (λ (x : collectors.Private). x.phase) g.after

        now : collector_kept.IsLooking c t (2 * t - 1)
        now = now_at v (Looking t) kept at

        newer : q.newer ≡ slice_set c.newer (t - 1) (box v t)
        newer = ap (λ (x : collectors.Private). x.newer) g.after ∙ ap (λ (p : Phase). slice_set c.newer (t - 1) (box v (looked_at p))) at

        older : q.older ≡ c.older
        older = ap (λ (x : collectors.Private). x.older) g.after

        -- the gathered buffer
        own : (x : ℕ) → 0 < takes x (box v t) → IsPending u x
        own x some = IsPending.newer (t - 1) (subst (λ (bs : List Contents). 0 < takes x (buffer_at bs (t - 1))) (sym newer) (subst (λ (b : Contents). 0 < takes x b) (sym (get_or-set_same c.newer (t - 1) (box v t) (collectors.blank 0 0) (omega (arith, now.there, now.first)))) some))

        -- there was a spare in its place
        spare_there : (x : ℕ) → takes x (buffer_at c.newer (t - 1)) ≡ 0
        spare_there x = ap (takes x) (now.spares (t - 1) (omega arith) (omega (arith, now.there, now.first))) ∙ omega (arith, named-nil x, nulls_take x c.registers)

        more : (x : ℕ) → IsPending v x → IsPending u x
        more x (IsPending.log j some) = IsPending.log j some
        more x (IsPending.mailbox j some) = elim (cases_eq j (t - 1)) [
          | inl same ↦ own x (subst (λ n. 0 < takes x (slice_index_or v.boxes n (collectors.blank 0 0))) same some)
          | inr other_ ↦ IsPending.mailbox j (subst (λ (b : Contents). 0 < takes x b) (sym (ap (λ (p : Phase). slice_index_or (slice_set v.boxes (looked_at p - 1) (left_by c its_word (box v (looked_at p)) p)) j (collectors.blank 0 0)) at ∙ get_or-set_other v.boxes (t - 1) j (left_by c its_word (box v t) (Looking t)) (collectors.blank 0 0) other_)) some)
        ]
        more x (IsPending.newer j some) = elim (cases_eq j (t - 1)) [
          | inl same ↦ absurd (omega (arith, some, ap (λ n. takes x (buffer_at c.newer n)) same, spare_there x))
          | inr other_ ↦ IsPending.newer j (subst (λ (bs : List Contents). 0 < takes x (buffer_at bs j)) (sym newer) (subst (λ (b : Contents). 0 < takes x b) (sym (get_or-set_other c.newer (t - 1) j (box v t) (collectors.blank 0 0) other_)) some))
        ]
        more x (IsPending.older early j some) = IsPending.older (ap has_batched then_) j (subst (λ (bs : List Contents). 0 < takes x (buffer_at bs j)) (sym older) some)

  -- what follows over these words is so over those of the turn
  pub finish : (words crossing : List ℕ) (w : Core) (pending : ℕ → Type 0) (turn : Turn) → sight (record w { words = words }) ≡ sight (record v { words = words }) → u.words ≡ words → u.headers ≡ v.headers → ((x : ℕ) → pending x → IsPending u x) → IsOn w crossing words pending q turn → IsWatched u
  finish words crossing w pending turn same_sight is same more on =
      let same : sight (record w { words = words }) ≡ sight u = same_sight ∙ sym (sight_is words is same) in
      record {
        covers = subst (λ (s : Sight). Covers s (IsPending u) q.counts) same (covers_more (sight (record w { words = words })) pending (IsPending u) q.counts more on.covers);
        follows = λ m at. subst (λ (s : Sight). IsFollowed s (IsPending u) q.counts m) same (followed_more (sight (record w { words = words })) pending (IsPending u) q.counts m more (on.follows m at));
      }

  -- where each slot hangs on something, and sets that wait are backed
  module _ (after : IsKept true (turned_by v op (cell (cells_of v) op))) (i : IsWatched v) (backs : AreBacked (sight v) (IsPending v) v.collector.counts) where
    -- each slot hangs on something then, or more sets were refused
    abbrev IsTurned : Type 0
    IsTurned = IsWatched u ⊎ (touched c.sets < touched q.sets)

    -- the rules, with this answer
    module _ (turn : Turn) where
      -- a phase before the batch follows, with the same counts and buffers
      before_batch : (phase next : Phase) → c.phase ≡ phase → left_by c its_word (box v (looked_at phase)) phase ≡ box v (looked_at phase) → q.phase ≡ next → has_batched phase ≡ false → has_batched next ≡ false → ((m : Machine) → next ≡ Trying m → ⊥)
          → q.counts ≡ c.counts → q.newer ≡ c.newer → q.older ≡ c.older → u.words ≡ v.words → u.headers ≡ v.headers → IsWatched u
      before_batch phase next at left then_ early early_then other counts newer older words headers = record {
        covers = subst (λ (s : Sight). Covers s (IsPending u) q.counts) (sym (sight_is v.words words headers)) (subst (Covers (sight v) (IsPending u)) (sym counts) (covers_more (sight v) (IsPending v) (IsPending u) c.counts (before_pends turn phase next at left then_ early_then newer older) i.covers));
        follows = λ m is. absurd (other m (sym then_ ∙ is));
      }

      gathered : (t : ℕ) → c.phase ≡ Looking t → its_word ≡ crossing_word c.epoch Retired → step.GoesOn (record c { newer = slice_set c.newer (t - 1) its_box }) q turn (Returning t) → u.words ≡ v.words → u.headers ≡ v.headers → IsWatched u
      gathered t at crossed g words headers = record {
        covers = subst (λ (s : Sight). Covers s (IsPending u) q.counts) (sym (sight_is v.words words headers)) (subst (Covers (sight v) (IsPending u)) (sym (ap (λ (x : collectors.Private). x.counts) g.after)) (covers_more (sight v) (IsPending v) (IsPending u) c.counts (gathered_pends turn t at g) i.covers));
        follows = λ m is. absurd (other m (sym (ap (λ (x : collectors.Private). x.phase) g.after) ∙ is));
      }
        where
          other : (m : Machine) → Returning t ≡ Trying m → ⊥
          other m is = cc

      -- a turn without a batch: what follows is over these words
      over : (words crossing : List ℕ) (r : ℕ) → u.words ≡ words → u.headers ≡ v.headers → ((x : ℕ) → IsLate v x → IsPending u x) → r ≡ touched c.sets → IsOver v crossing words (IsLate v) q turn r → IsTurned
      over words crossing r is headers more same (inl on) = inl (finish words crossing v (IsLate v) turn refl is headers more on)
      over words crossing r is headers more same (inr less) = inr (omega (arith, less, same))

      -- The batch is applied, from where the last mailbox was given back.
      batch_on : (b : Core) (t : ℕ) (home : IsKeptBy true (stand_at b.collector.left Opening) b) (at : b.collector.phase ≡ Returning t) → sight (record b { words = b.words }) ≡ sight (record v { words = b.words }) → b.collector.sets ≡ c.sets → Covers (sight b) (IsPending b) b.collector.counts → AreBacked (sight b) (IsPending b) b.collector.counts
          → ((x : ℕ) → IsLate b x → IsPending u x) → u.words ≡ v.words → u.headers ≡ v.headers
          → ClearsOn b.collector q turn (zeros_released false (record (parts_of b.collector) { counts = counted b t home at })) → b.words ≡ v.words → IsTurned
      batch_on b t home at same_sight sets cover backed more words headers on same_words = go (clears_on b b.crossing b.words (IsLate b) q turn h (heeds_covers (sight b) (IsLate b) (counted b t home at) (zeros_released false batched).parts.counts alive_zeros zeros (batch_covers b t home at alive cover)) (backed_fades (sight b) (IsLate b) (counted b t home at) (zeros_released false batched).parts.counts (fades_zeros false batched) (backed_counted b t home at backed)) on)
        where
          batched : Parts
          batched = record (parts_of b.collector) { counts = counted b t home at }

          h : HasCleared b b.crossing b.words (zeros_released false batched)
          h = applied_lands b t home at

          zeros : Heeds (counted b t home at) (zeros_released false batched).parts.counts
          zeros = heeds_zeros false batched

          alive_zeros : LeadersCount (sight b) (zeros_released false batched).parts.counts
          alive_zeros = leaders_from (sight b) (zeros_released false batched).parts.counts h.landed.sound h.landed.greens

          alive : LeadersCount (sight b) (counted b t home at)
          alive m n leads = let there = alive_zeros m n leads in (there.0, sym (zeros.greens m) ∙ there.1)

          go : IsOver b b.crossing b.words (IsLate b) q turn (touched b.collector.sets) → IsTurned
          go (inl on_) = inl (finish b.words b.crossing b (IsLate b) turn same_sight (words ∙ sym same_words) headers more on_)
          go (inr less) = inr (omega (arith, less, ap touched sets))

      -- a release, or the freeing of a set, that has exchanged a word
      cleared_on : (place : ℕ) (b : Begun) → has_batched c.phase ≡ true → op ≡ ops.ClearField place → HasCleared v v.crossing (slice_set v.words place 0) b → Covers (sight (record v { words = slice_set v.words place 0 })) (IsLate v) b.parts.counts → AreBacked (sight (record v { words = slice_set v.words place 0 })) (IsLate v) b.parts.counts → touched b.parts.sets ≡ touched c.sets → u.boxes ≡ v.boxes → ClearsOn c q turn b → IsTurned
      cleared_on place b batched its h cover backed sets boxes on = over (slice_set v.words place 0) v.crossing (touched b.parts.sets)
          (ap (λ (o : Op). (with_cell (cells_of v) o (written o its_word)).words) its) (ap (λ (o : Op). (with_cell (cells_of v) o (written o its_word)).headers) its)
          (late_pends boxes (clears_rows c q turn on)) sets (clears_on v v.crossing (slice_set v.words place 0) (IsLate v) q turn h cover backed on)

      released_turn : (m : releases.Machine) → c.phase ≡ Releasing m → ◌≡◌ {A = Option Op} (Some op) (releases.next_of m) → ClearsOn c q turn (with_released m (parts_of c) its_word) → IsTurned
      unfolding releases.next_of
      released_turn m at named on = go m.at refl
        where
          go : (x : Option At) → m.at ≡ x → IsTurned
          go None is = let not_so : ◌≡◌ {A = Option Op} (Some op) None = named ∙ ap (releases.op_at m.fields) is in absurd (cc)
          go (Some a) is =
              let now : collector_kept.IsTesting c (Releasing m) = now_at v (Releasing m) kept at in
              let within : a.field < m.fields = subst (λ o. IfSome o (λ (x : At). x.field < m.fields)) is now.clearing.release.field in
              let held : releases.IsHeld c.counts a = subst (λ o. IfSome o (releases.IsHeld c.counts)) is now.clearing.release.held in
              let place : ℕ = place_of a.slot a.field v.config.fields in
              let fields : m.fields ≡ v.config.fields = now.clearing.fields ∙ kept.collector.fields in
              let its : op ≡ ops.ClearField place = some_op op (ops.ClearField place) (named ∙ ap (releases.op_at m.fields) is ∙ ap (λ n. Some (ops.ClearField (place_of a.slot a.field n))) fields) in
              let found_is : its_word ≡ slice_index_or v.words place 0 = ap (cell (cells_of v)) its in
              cleared_on place (with_released m (parts_of c) (slice_index_or v.words place 0)) (ap has_batched at) its (released_lands v m a kept at is)
              (released_covers v kept place (ap has_batched at) now.clearing.tidy.apart i.covers m now.clearing.busy) (backed_cut v a.slot a.field (omega (arith, within, fields)) held.released now.clearing.tidy.apart (late_of v (ap has_batched at)) (with_released m (parts_of c) (slice_index_or v.words place 0)).parts.counts (fades_released m (parts_of c) (slice_index_or v.words place 0) now.clearing.busy) backs) refl (plain_boxes (Releasing m) at refl) (subst (λ n. ClearsOn c q turn (with_released m (parts_of c) n)) found_is on)

      freed_turn : (m : frees.Machine) → c.phase ≡ Freeing m → ◌≡◌ {A = Option Op} (Some op) (frees.next_of m) → ClearsOn c q turn (with_freed m (parts_of c) its_word) → IsTurned
      unfolding frees.next_of
      freed_turn m at named on = go m.at refl
        where
          go : (x : Option Member) → m.at ≡ x → IsTurned
          go None is = let not_so : ◌≡◌ {A = Option Op} (Some op) None = named ∙ ap (frees.op_at m.fields) is in absurd (cc)
          go (Some a) is =
              let now : collector_kept.IsTesting c (Freeing m) = now_at v (Freeing m) kept at in
              let within : a.field < m.fields = subst (λ o. IfSome o (λ (x : Member). x.field < m.fields)) is now.clearing.freeing.field in
              let held : IsOf c.counts.work a = subst (λ o. IfSome o (IsOf c.counts.work)) is now.clearing.freeing.held in
              let there : 0 < times a.slot c.counts.work = omega (arith, times_at c.counts.work a.index held.index, ap (λ n. times n c.counts.work) held.slot) in
              let place : ℕ = place_of a.slot a.field v.config.fields in
              let fields : m.fields ≡ v.config.fields = now.clearing.fields ∙ kept.collector.fields in
              let its : op ≡ ops.ClearField place = some_op op (ops.ClearField place) (named ∙ ap (frees.op_at m.fields) is ∙ ap (λ n. Some (ops.ClearField (place_of a.slot a.field n))) fields) in
              let found_is : its_word ≡ slice_index_or v.words place 0 = ap (cell (cells_of v)) its in
              let word : ℕ = slice_index_or v.words place 0 in
              cleared_on place (with_freed m (parts_of c) word) (ap has_batched at) its (freed_lands v m a kept at is)
              (freed_covers v kept place (ap has_batched at) now.clearing.tidy.apart i.covers m now.clearing.busy)
              (backed_cut v a.slot a.field (omega (arith, within, fields)) (now.clearing.freeing.released a.slot there) now.clearing.tidy.apart (late_of v (ap has_batched at)) (with_freed m (parts_of c) word).parts.counts (fades_freed m (parts_of c) word now.clearing.busy) backs)
              (freed_by (λ b. touched b.parts.sets ≡ touched c.sets) m (parts_of c) word now.clearing.busy (λ b e more. refl) (λ b e last more. refl) (λ b e last none. refl))
              (plain_boxes (Freeing m) at refl) (subst (λ n. ClearsOn c q turn (with_freed m (parts_of c) n)) found_is on)

      -- a field is loaded for the trial
      trial_turn : (m : Machine) → c.phase ≡ Trying m → ◌≡◌ {A = Option Op} (Some op) (trials.next_of m) → TriesOn c (parts_of c) (trials.took_of (record { machine = m; counts = c.counts }) (visible c.counts its_word)) q turn → IsWatched u
      trial_turn m at named on =
          let (place, its) = loads_child m op named in
          let found_is : its_word ≡ slice_index_or v.words place 0 = ap (cell (cells_of v)) its in
          let tried = trialled v m kept at place (sym named ∙ ap (λ o. Some o) its) (i.follows m at) i.covers in
          let its_on = subst (λ n. TriesOn c (parts_of c) (trials.took_of (record { machine = m; counts = c.counts }) (visible c.counts n)) q turn) found_is on in
          let goes = tries_on v v.crossing v.words (IsPending v) q turn c (parts_of c) _ its_on tried.leaders tried.covers tried.follows in
          finish v.words v.crossing v (IsPending v) turn refl (ap (λ (o : Op). (with_cell (cells_of v) o (written o its_word)).words) its ∙ ap (slice_set v.words place) found_is ∙ set-get_or v.words place 0)
          (ap (λ (o : Op). (with_cell (cells_of v) o (written o its_word)).headers) its)
          (λ x is. late_pends (plain_boxes (Trying m) at refl) (tries_rows c q (parts_of c) _ turn its_on) x (late_of v (ap has_batched at) x is)) goes.0

      -- or for a preparation
      preparation_turn : (m : preps.Machine) → c.phase ≡ Preparing m → ◌≡◌ {A = Option Op} (Some op) (preps.next_of m) → PreparesOn c (parts_of c) (preps.took_of (record { machine = m; counts = c.counts }) its_word) q turn → IsWatched u
      preparation_turn m at named on =
          let (a, is, its) = loads_due m op (sym named) in
          let place : ℕ = place_of a.member.slot a.member.field m.fields in
          let found_is : its_word ≡ slice_index_or v.words place 0 = ap (cell (cells_of v)) its in
          let s : State = (preps.took_of (record { machine = m; counts = c.counts }) its_word).counts in
          let h : Heeds c.counts s = heeds_others c.counts s (took_others (record { machine = m; counts = c.counts }) its_word) in
          let goes = prepares_on v v.crossing v.words (IsPending v) q turn c (parts_of c) _ on (heeds_covers (sight v) (IsPending v) c.counts s (heeds_leaders (sight v) c.counts s h (leaders_count v kept)) h i.covers) in
          finish v.words v.crossing v (IsPending v) turn refl (ap (λ (o : Op). (with_cell (cells_of v) o (written o its_word)).words) its ∙ ap (slice_set v.words place) found_is ∙ set-get_or v.words place 0)
          (ap (λ (o : Op). (with_cell (cells_of v) o (written o its_word)).headers) its)
          (λ x is_. late_pends (plain_boxes (Preparing m) at refl) (prepares_rows c q (parts_of c) _ turn on) x (late_of v (ap has_batched at) x is_)) goes.0

      -- a slot is swept
      swept_turn : (x n : ℕ) (next : Phase) → c.phase ≡ Sweeping (Some x) n → op ≡ ops.FreeHeader x → q ≡ record c { counts = swept c.counts x; freed = c.freed + 1; phase = next; turns = c.turns + 1 } → ((m : Machine) → next ≡ Trying m → ⊥) → IsWatched u
      swept_turn x n next at its is other = record {
        covers = λ slot taken plain. carried (sight v) (sight u) (IsPending v) (IsPending u) c.counts q.counts (leaders_count u after)
            (λ y pending taken_ plain_. later (more y pending))
            (λ y list taken_ plain_. listed (lists y (not_swept y taken_) list))
            (λ m k leads. inl (still m k leads))
            slot (i.covers slot (was_taken slot (not_swept slot taken) taken) (sym (ap (λ (s : Slot). is_green s.colour) (same_slot slot (not_swept slot taken))) ∙ plain)) taken plain;
        follows = λ m is_. absurd (other m (sym (ap (λ (k : collectors.Private). k.phase) is) ∙ is_));
      }
        where
          words : u.words ≡ v.words
          words = ap (λ (o : Op). (with_cell (cells_of v) o (written o its_word)).words) its

          headers : u.headers ≡ slice_set v.headers x 0
          headers = ap (λ (o : Op). (with_cell (cells_of v) o (written o its_word)).headers) its

          not_swept : (y : ℕ) → IsTaken (sight u) y → y ≢ x
          not_swept y taken same = op_frees v u op y refl (ap (λ (o : Op). is_in y (freed_by_op (Some o))) its ∙ ap (λ k. is_in y (k ∷ [])) (sym same) ∙ is_in-head y []) taken

          was_taken : (y : ℕ) → y ≢ x → IsTaken (sight u) y → IsTaken (sight v) y
          was_taken y apart taken = subst (λ k. 0 < k) (ap (λ hs. slice_index_or hs y 0) headers ∙ get_or-set_other v.headers x y 0 0 apart) taken

          counts : q.counts ≡ swept c.counts x
          counts = ap (λ (k : collectors.Private). k.counts) is

          same_slot : (y : ℕ) → y ≢ x → slot_at q.counts y ≡ slot_at c.counts y
          same_slot y apart = ap (λ (s : State). slot_at s y) counts ∙ get_or-set_other c.counts.slots x y (swept_clean (slot_at c.counts x)) absent apart

          still : (m k : ℕ) → Leads (sight v) m k → Leads (sight u) m k
          still m k (field, within, leads) = (field, within, ap (λ ws. target_of (slice_index_or ws (place_of m field v.config.fields) 0)) words ∙ leads)

          more : (y : ℕ) → IsPending v y → IsPending u y
          more y pending = late_pends (plain_boxes (Sweeping (Some x) n) at refl) (Rows.kept_rows (ap (λ (k : collectors.Private). k.newer) is) (ap (λ (k : collectors.Private). k.older) is) (ap (λ (k : collectors.Private). k.collections) is)) y (late_of v (ap has_batched at) y pending)

          lists : (y : ℕ) → y ≢ x → IsListed c.counts y → IsListed q.counts y
          lists y apart (IsListed.released gone) = IsListed.released (ap (λ (s : Slot). s.released) (same_slot y apart) ∙ gone)
          lists y apart (IsListed.zero some) = IsListed.zero (omega (arith, some, ap (λ (s : State). times y s.zeros) counts))
          lists y apart (IsListed.root some purple) = IsListed.root (omega (arith, some, ap (λ (s : State). times y s.roots) counts)) (ap (λ (s : Slot). is_purple s.colour) (same_slot y apart) ∙ purple)
          lists y apart (IsListed.member some) = IsListed.member (omega (arith, some, ap (λ (s : State). times y (concat s.sets)) counts))
          lists y apart (IsListed.marked some) = IsListed.marked (omega (arith, some, ap (λ (s : State). times y s.marked) counts))

      -- a sweep begins or ends, with the same counts
      same_counts : (phase : Phase) → c.phase ≡ phase → left_by c its_word (box v (looked_at phase)) phase ≡ box v (looked_at phase) → has_batched phase ≡ true → op ≡ ops.AddFreed → q.counts ≡ c.counts → Rows c q → ((m : Machine) → q.phase ≡ Trying m → ⊥) → IsWatched u
      same_counts phase at left batched its counts rows other = record {
        covers = subst (λ (s : Sight). Covers s (IsPending u) q.counts) (sym (sight_is v.words (ap (λ (o : Op). (with_cell (cells_of v) o (written o its_word)).words) its) (ap (λ (o : Op). (with_cell (cells_of v) o (written o its_word)).headers) its)))
            (subst (Covers (sight v) (IsPending u)) (sym counts) (covers_more (sight v) (IsPending v) (IsPending u) c.counts (λ x is. late_pends (plain_boxes phase at left) rows x (late_of v (ap has_batched at ∙ batched) x is)) i.covers));
        follows = λ m is. absurd (other m is);
      }

    -- A turn, rule by rule.
    pub by_rule : {turn : Turn} → step.Step c its_word its_box (Some op) q turn → IsTurned
    unfolding sweeps.started_of sweeps.took_of sweeps.next_of
    by_rule (step.Step.spent at last none is turn_is) = let n : ◌≡◌ {A = Option Op} (Some op) None = none in absurd (cc)
    by_rule {turn} (step.Step.request next at more is n g) =
        let calm = quiet (ops.StoreEpoch (c.epoch + 1)) (some_op op (ops.StoreEpoch (c.epoch + 1)) is) refl refl in
        inl (before_batch turn Idle (Looking next) at refl (ap (λ (x : collectors.Private). x.phase) g.after) refl refl (λ m e. cc) (ap (λ (x : collectors.Private). x.counts) g.after) (ap (λ (x : collectors.Private). x.newer) g.after) (ap (λ (x : collectors.Private). x.older) g.after) calm.0 calm.1)
    by_rule {turn} (step.Step.request_alone at more is gone on) =
        let calm = quiet (ops.StoreEpoch (c.epoch + 1)) (some_op op (ops.StoreEpoch (c.epoch + 1)) is) refl refl in
        let b : Core = requesting v in
        let awaits : Awaits v b = Awaits.alone at (λ last. more (ap (λ n. n + 1) kept.collector.epoch ∙ last)) gone in
        batch_on turn b (length c.newer) (awaits_kept v b kept awaits) refl refl refl (covers_more (sight b) (IsPending v) (IsPending b) c.counts (awaits_more b refl refl refl refl refl) i.covers) (backed_more (sight b) (IsPending v) (IsPending b) c.counts c.counts (fades_same c.counts) (awaits_more b refl refl refl refl refl) backs)
        (λ x late. late_pends (plain_boxes Idle at refl) (rows_as refl refl refl (clears_rows (requested c) q turn on)) x (same_late b refl refl refl x late)) calm.0 calm.1 (clears_in b.collector.phase on) refl
    by_rule (step.Step.cross_for t next at crosses is n g) = absurd (crosses_none v t kept at op its_word is refl crosses)
    by_rule (step.Step.cross_for_last t at crosses is gone on) = absurd (crosses_none v t kept at op its_word is refl crosses)
    by_rule {turn} (step.Step.wait t at stays is same turn_is) =
        let other : its_word ≢ crossing_word c.epoch Retired = waits_other v t kept at op its_word is refl stays in
        let its : op ≡ ops.LookBox t c.epoch = some_op op (ops.LookBox t c.epoch) is in
        let calm = quiet (ops.LookBox t c.epoch) its refl refl in
        inl (before_batch turn (Looking t) (Looking t) at (cond-false (its_word == crossing_word c.epoch Retired) (collectors.spare c) (box v t) (ne_eqb its_word (crossing_word c.epoch Retired) other)) (ap (λ (x : collectors.Private). x.phase) same ∙ at) refl refl (λ m e. cc) (ap (λ (x : collectors.Private). x.counts) same) (ap (λ (x : collectors.Private). x.newer) same) (ap (λ (x : collectors.Private). x.older) same) calm.0 calm.1)
    by_rule {turn} (step.Step.gather t at takes is g) = let crossed = takes_retired v t kept at op its_word is refl takes in let calm = quiet (ops.LookBox t c.epoch) (some_op op (ops.LookBox t c.epoch) is) refl refl in inl (gathered turn t at crossed g calm.0 calm.1)
    by_rule {turn} (step.Step.give_back t next at is n g) =
        let calm = quiet (ops.ReturnBox t c.epoch) (some_op op (ops.ReturnBox t c.epoch) is) refl refl in
        inl (before_batch turn (Returning t) (Looking next) at refl (ap (λ (x : collectors.Private). x.phase) g.after) refl refl (λ m e. cc) (ap (λ (x : collectors.Private). x.counts) g.after) (ap (λ (x : collectors.Private). x.newer) g.after) (ap (λ (x : collectors.Private). x.older) g.after) calm.0 calm.1)
    by_rule {turn} (step.Step.apply t at is gone on) =
        let calm = quiet (ops.ReturnBox t c.epoch) (some_op op (ops.ReturnBox t c.epoch) is) refl refl in
        let b : Core = giving_back v t in
        let now = now_at v (Returning t) kept at in
        let awaits : Awaits v b = Awaits.last t (mutator_at v t (Returning t) kept at (now.first, now.there)) at gone in
        batch_on turn b (length c.newer) (awaits_kept v b kept awaits) refl refl refl (covers_more (sight b) (IsPending v) (IsPending b) c.counts (awaits_more b refl refl refl refl refl) i.covers) (backed_more (sight b) (IsPending v) (IsPending b) c.counts c.counts (fades_same c.counts) (awaits_more b refl refl refl refl refl) backs)
        (λ x late. late_pends (plain_boxes (Returning t) at refl) (rows_as refl refl refl (clears_rows (noted c t) q turn on)) x (same_late b refl refl refl x late)) calm.0 calm.1 (clears_in b.collector.phase on) refl
    by_rule {turn} (step.Step.release m at is on) = released_turn turn m at is on
    by_rule {turn} (step.Step.freeing m at is on) = freed_turn turn m at is on
    by_rule {turn} (step.Step.trial m at is on) = inl (trial_turn turn m at is on)
    by_rule {turn} (step.Step.preparation m at is on) = inl (preparation_turn turn m at is on)
    by_rule {turn} (step.Step.begin_sweep at is g) = inl (same_counts turn Opening at refl refl (some_op op ops.AddFreed is) (ap (λ (x : collectors.Private). x.counts) g.after) (Rows.kept_rows (ap (λ (x : collectors.Private). x.newer) g.after) (ap (λ (x : collectors.Private). x.older) g.after) (ap (λ (x : collectors.Private). x.collections) g.after)) (λ m e. not_sweeping m (sym (ap (λ (x : collectors.Private). x.phase) g.after) ∙ e)))
      where
        not_sweeping : {due : Option ℕ} {n : ℕ} (m : Machine) → Sweeping due n ≡ Trying m → ⊥
        not_sweeping m e = cc
    by_rule (step.Step.sweep None swept_ w next at is took follows g) = let n : ◌≡◌ {A = Option Op} (Some op) None = is in absurd (cc)
    by_rule {turn} (step.Step.sweep (Some x) swept_ w next at is took follows g) =
        inl (swept_turn turn x swept_ next at (some_op op (ops.FreeHeader x) is) (g.after ∙ ap (λ (k : sweeps.Work). record c { counts = k.counts; freed = c.freed + 1; phase = next; turns = c.turns + 1 }) took) (λ m e. not_next m follows e))
      where
        not_next : (m : Machine) → step.IsNext swept_ w next → next ≡ Trying m → ⊥
        not_next m (step.IsNext.more some is_) e = let n : Sweeping w.due (swept_ + 1) ≡ Trying m = sym is_ ∙ e in cc
        not_next m (step.IsNext.last none is_) e = let n : Closing (swept_ + 1) ≡ Trying m = sym is_ ∙ e in cc
    by_rule {turn} (step.Step.end_sweep swept_ at is e) = inl (same_counts turn (Closing swept_) at refl refl (some_op op ops.AddFreed is) (ap (λ (x : collectors.Private). x.counts) e.after) (Rows.turned_rows (ap (λ (x : collectors.Private). x.newer) e.after) (ap (λ (x : collectors.Private). x.older) e.after) (ap (λ (x : collectors.Private). x.collections) e.after) (ap (λ (x : collectors.Private). x.phase) e.after)) (λ m e_. not_idle m (sym (ap (λ (x : collectors.Private). x.phase) e.after) ∙ e_)))
      where
        not_idle : (m : Machine) → Idle ≡ Trying m → ⊥
        not_idle m e_ = cc

-- refused sets stay so over a turn
module _ (v : Core) (op : Op) where
  abbrev r : collectors.Private
  r = step_of v.collector (cell (cells_of v) op) (box v (looked_at v.collector.phase))

  from_sets : r.sets ≡ v.collector.sets → IsGrown v.collector.sets r.sets
  from_sets same = grown_same v.collector.sets r.sets same

  pub rule_grown : {turn : Turn} → step.Step v.collector (cell (cells_of v) op) (box v (looked_at v.collector.phase)) (Some op) r turn → IsGrown v.collector.sets r.sets
  rule_grown (step.Step.spent at last none is turn_is) = from_sets (ap (λ (x : collectors.Private). x.sets) is)
  rule_grown (step.Step.request next at more is n g) = from_sets (ap (λ (x : collectors.Private). x.sets) g.after)
  rule_grown {turn} (step.Step.request_alone at more is gone on) = clears_grown v v.crossing v.words (IsLate v) r turn (requested v.collector) on
  rule_grown (step.Step.wait t at other is same turn_is) = from_sets (ap (λ (x : collectors.Private). x.sets) same)
  rule_grown (step.Step.gather t at crossed is g) = from_sets (ap (λ (x : collectors.Private). x.sets) g.after)
  rule_grown (step.Step.cross_for t next at crosses is n g) = from_sets (ap (λ (x : collectors.Private). x.sets) g.after)
  rule_grown {turn} (step.Step.cross_for_last t at crosses is gone on) = clears_grown v v.crossing v.words (IsLate v) r turn (crossed_for v.collector t) on
  rule_grown (step.Step.give_back t next at is n g) = from_sets (ap (λ (x : collectors.Private). x.sets) g.after)
  rule_grown {turn} (step.Step.apply t at is gone on) = clears_grown v v.crossing v.words (IsLate v) r turn (noted v.collector t) on
  rule_grown {turn} (step.Step.release m at is on) = clears_grown v v.crossing v.words (IsLate v) r turn v.collector on
  rule_grown {turn} (step.Step.freeing m at is on) = subst (λ n. IsGrown n r.sets) (freed_sets m) (clears_grown v v.crossing v.words (IsLate v) r turn v.collector on)
    where
      freed_sets : (m : frees.Machine) → (with_freed m (parts_of v.collector) (cell (cells_of v) op)).parts.sets ≡ v.collector.sets
      freed_sets m = let u : frees.Work = frees.took_of (record { machine = m; counts = v.collector.counts }) (cell (cells_of v) op) in go (record (parts_of v.collector) { counts = u.counts }) u.machine u.machine.at
        where
          go : (w : Parts) (k : frees.Machine) (a : Option Member) → (relieved_at w k a).parts.sets ≡ w.sets
          go w k None = refl
          go w k (Some a) = refl
  rule_grown {turn} (step.Step.trial m at is on) = from_sets (tries_refused v v.crossing v.words (IsLate v) r turn v.collector (parts_of v.collector) _ on)
  rule_grown {turn} (step.Step.preparation m at is on) = from_sets (prepares_refused v v.crossing v.words (IsLate v) r turn v.collector (parts_of v.collector) _ on)
  rule_grown (step.Step.begin_sweep at is g) = from_sets (ap (λ (x : collectors.Private). x.sets) g.after)
  rule_grown (step.Step.sweep due swept_ w next at is took follows g) = from_sets (ap (λ (x : collectors.Private). x.sets) g.after)
  rule_grown (step.Step.end_sweep swept_ at is e) = from_sets (ap (λ (x : collectors.Private). x.sets) e.after)
