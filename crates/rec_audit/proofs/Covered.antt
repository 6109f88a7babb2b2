-- Each path of a run's references is one of its journal's graph, where a set is given up.
use Rattle.std.proofs.Common.{◌≡◌, ◌≢◌, ◌⊎◌, inl, inr, ℕ, zero, suc, ◌+◌, ◌-◌, ◌/◌, ◌<◌, ◌≤◌, ◌==◌, ◌&&◌, ◌||◌, not, leb, nat_lt, nat_le, Bool, true, false, cond, List, [], ◌∷◌, ◌++◌, filter, map, length, slice_index_or, refl, sym, ap, subst, ◌∙◌, arith}
use Rattle.std.specs.List.{Contains, flat_map, list_any, range_with_len, sum_by, zip}
use Rattle.std.proofs.lemmas.Bool.{cases_Bool, cases_eq, cases_lt, eq-eqb, eqb-true, false≢true, lt-ltb, or_cases}
use Rattle.std.proofs.lemmas.Bool.Decides.{nat_tests}
use Rattle.std.proofs.lemmas.List.{get_or_past}
use Rattle.std.proofs.lemmas.List.Elements.{Contains-append_left, Contains-append_right}
use Rattle.std.proofs.lemmas.List.Folds.{list_any-append}
use Rattle.std.proofs.lemmas.List.FromFn.{get_or-range_with_len, length-range_with_len}
use Rattle.std.proofs.lemmas.List.Sums.{sum_by-append, sum_by-cons, sum_by-le-sum_by}
use Rattle.rec_core.proofs.Common.{only_if, one_if_same, epoch_of, node_of, home, sum_at, get_or-le-sum_at, Write, Dated, dated_birth, is_at, is_from, Contents, Entry, blank, buffer_at, Phase, Idle, Private, IsMutator, Core, nobody, IsKept, epoch_at, births_in, pending}
use Rattle.rec_log.specs.declared.entry.Entry.TheVariants as entries
use Rattle.rec_word.specs.Bare.{bare}
use Rattle.rec_word.specs.Word.{target_bits}
use Rattle.rec_model.specs.Accounted.{late}
use Rattle.rec_model.specs.Reach.{is_in, IsReached}
use Rattle.rec_model.specs.References.{IsInReach}
use Rattle.rec_model.proofs.Counted.{closed_out_of, edge_sum, opened_from, root_sum}
use Rattle.rec_model.proofs.Members.{is_in-cons}
use Rattle.rec_model.proofs.Reaching.{all_in_reach}
use Rattle.rec_core.specs.Loads.{Loaded}
use Rattle.rec_core.specs.Pending.{births_of, older_at, snapshots_of, writes_of, has_batched}
use Rattle.rec_audit.proofs.Lasting.{Lasts, closes, some_weighs, wrote}
use Rattle.rec_core.proofs.Sums.{box_share, buffers_sum, log_share, share, some_of}
use Rattle.rec_audit.specs.Form.{heap_of, is_epoch, number}
use Rattle.rec_audit.specs.Graph.{IsReachedAt, closes as closes_line, earlier_blocks, has_target, held, is_dead, is_out, is_put, is_taken, named_by, opens, opens_from, roots, takes, target_in, targets, this_block}
use Rattle.rec_audit.specs.Journal.{entry_line, parts_lines, register_number, snap_line}
use Rattle.rec_audit.specs.Lines.{Line}
use Rattle.rec_audit.specs.Logged.{last_batch}
use Rattle.rec_audit.specs.Runs.{IsReachedIn}
use Rattle.rec_audit.specs.declared.form.Heap.{Heap}
use Rattle.rec_audit.proofs.Balance.{after, both_more, early, puts, replaced_by, replaces, rows_weigh, takes_out}
use Rattle.rec_audit.proofs.Bared.{Alike, by_bare, leads_same, roots_same, target_there}
use Rattle.rec_audit.proofs.Blocks.{entry_has_line}
use Rattle.rec_audit.proofs.Covering.{Covers}
use Rattle.rec_audit.proofs.EpochTold.{birth_stands, name_stands, snapshot_from, weighs_in}
use Rattle.rec_audit.proofs.JournalReach.{tells_births, worked_epoch}
use Rattle.rec_audit.proofs.Journalled.{applied_in, replaced_when}
use Rattle.rec_audit.proofs.Newborn.{IsUntold}
use Rattle.rec_audit.proofs.RunGraph.{HasBlock, Tells}
use Rattle.rec_audit.proofs.Untold.{untold_taken}
use Rattle.rec_word.proofs.Bare.{bits_bare}
use Rattle.rec_audit.proofs.Marking.{or_left, or_right}

-- ---- lists

some_word : (f : ℕ → ℕ → ℕ) (xs : List ℕ) → 0 < sum_at f xs → (i : ℕ) × (i < length xs) × (0 < f i (slice_index_or xs i 0))
some_word f [] some = absurd (omega (arith, some))
some_word f (x ∷ xs) some = elim (cases_lt 0 (f 0 x)) [
  | inl here ↦ (0, omega arith, here)
  | inr none ↦ (let more = some_word (λ i. f (suc i)) xs (omega (arith, some, none)) in (suc more.0, omega (arith, more.1), more.2))
]

some_both : {X Y : Type 0} (f : X × Y → ℕ) (xs : List X) (ys : List Y) (d : X) (e : Y) → 0 < sum_by f (zip xs ys) → (i : ℕ) × (i < length xs) × (0 < f (slice_index_or xs i d, slice_index_or ys i e))
some_both f [] ys d e some = absurd (omega (arith, some))
some_both f (x ∷ xs) [] d e some = absurd (omega (arith, some))
some_both f (x ∷ xs) (y ∷ ys) d e some = elim (cases_lt 0 (f (x, y))) [
  | inl here ↦ (0, omega arith, here)
  | inr none ↦ (let more = some_both f xs ys d e (omega (arith, some, none, sum_by-cons f (x, y) (zip xs ys))) in (suc more.0, omega (arith, more.1), more.2))
]

any_weighs : {X : Type 0} (test : X → Bool) (h : X → ℕ) (xs : List X) → ((x : X) → test x ≡ true → 1 ≤ h x) → list_any test xs ≡ true → 1 ≤ sum_by h xs
any_weighs test h [] weighs is = absurd (false≢true is)
any_weighs test h (x ∷ xs) weighs is = elim (or_cases (test x) (list_any test xs) is) [
  | inl here ↦ omega (arith, weighs x here, sum_by-cons h x xs)
  | inr later ↦ omega (arith, any_weighs test h xs weighs later, sum_by-cons h x xs)
]

-- the blocks are apart
blocks_less : (h : Line → ℕ) (ls : List Line) → sum_by h (earlier_blocks ls) + sum_by h (this_block ls) ≤ sum_by h ls
blocks_less h [] = omega arith
blocks_less h (x ∷ xs) = go (list_any (λ (l : Line). is_epoch l.kind) xs) refl (is_epoch x.kind) (blocks_less h xs)
  where
    none : (ls : List Line) → list_any (λ (l : Line). is_epoch l.kind) ls ≡ false → earlier_blocks ls ≡ []
    none [] is = refl
    none (l ∷ ls) is = ap (λ b. cond b (l ∷ earlier_blocks ls) []) (rest (is_epoch l.kind) (list_any (λ (k : Line). is_epoch k.kind) ls) is)
      where
        rest : (a b : Bool) → (a || b) ≡ false → b ≡ false
        rest true b e = absurd (false≢true (sym e))
        rest false b e = e

    go : (b : Bool) → list_any (λ (l : Line). is_epoch l.kind) xs ≡ b → (a : Bool) → sum_by h (earlier_blocks xs) + sum_by h (this_block xs) ≤ sum_by h xs
        → sum_by h (cond b (x ∷ earlier_blocks xs) []) + sum_by h (cond (a || b) (this_block xs) (x ∷ xs)) ≤ sum_by h (x ∷ xs)
    go true is true more = omega (arith, more, sum_by-cons h x (earlier_blocks xs), sum_by-cons h x xs)
    go true is false more = omega (arith, more, sum_by-cons h x (earlier_blocks xs), sum_by-cons h x xs)
    go false is true more = omega (arith, more, sum_by-cons h x xs)
    go false is false more = omega (arith, sum_by-cons h x xs)

named_there : (n : ℕ) (ls : List Line) (l : Line) → Contains ls l → is_in n (named_by l.kind l.numbers) ≡ true → is_in n (flat_map (λ (x : Line). named_by x.kind x.numbers) ls) ≡ true
named_there n [] l c is = absurd (let below = c.1 in omega arith)
named_there n (x ∷ ls) l (zero, below, there) is =
    list_any-append (λ m. m == n) (named_by x.kind x.numbers) (flat_map (λ (y : Line). named_by y.kind y.numbers) ls)
    ∙ or_left (is_in n (named_by x.kind x.numbers)) (is_in n (flat_map (λ (y : Line). named_by y.kind y.numbers) ls)) (ap (λ (y : Line). is_in n (named_by y.kind y.numbers)) there ∙ is)
named_there n (x ∷ ls) l (suc k, below, there) is =
    list_any-append (λ m. m == n) (named_by x.kind x.numbers) (flat_map (λ (y : Line). named_by y.kind y.numbers) ls)
    ∙ or_right (is_in n (named_by x.kind x.numbers)) (is_in n (flat_map (λ (y : Line). named_by y.kind y.numbers) ls)) (named_there n ls l (k, omega arith, there) is)

held_there : (n : ℕ) (xs : List ℕ) → 0 < n → is_in n xs ≡ true → is_in (n - 1) (held xs) ≡ true
held_there n [] some is = absurd (false≢true is)
held_there n (x ∷ xs) some is = elim (is_in-cons n x xs is) [
  | inl same ↦
      let more : nat_lt 0 x ≡ true = lt-ltb 0 x (omega (arith, some, same)) in
      ap (λ b. is_in (n - 1) (map (λ m. m - 1) (cond b (x ∷ filter (λ m. nat_lt 0 m) xs) (filter (λ m. nat_lt 0 m) xs)))) more
      ∙ or_left (x - 1 == n - 1) (is_in (n - 1) (held xs)) (eq-eqb (x - 1) (n - 1) (ap (λ m. m - 1) same))
  | inr later ↦ go (nat_lt 0 x) (held_there n xs some later)
]
  where
    go : (b : Bool) → is_in (n - 1) (held xs) ≡ true → is_in (n - 1) (map (λ m. m - 1) (cond b (x ∷ filter (λ m. nat_lt 0 m) xs) (filter (λ m. nat_lt 0 m) xs))) ≡ true
    go true there = or_right (x - 1 == n - 1) (is_in (n - 1) (held xs)) there
    go false there = there

filter_there : (p : ℕ → Bool) (n : ℕ) (xs : List ℕ) → Contains xs n → p n ≡ true → is_in n (filter p xs) ≡ true
filter_there p n [] c is = absurd (let below = c.1 in omega arith)
filter_there p n (x ∷ xs) (zero, below, there) is = ap (λ b. is_in n (cond b (x ∷ filter p xs) (filter p xs))) (ap p there ∙ is) ∙ or_left (x == n) (is_in n (filter p xs)) (eq-eqb x n there)
filter_there p n (x ∷ xs) (suc k, below, there) is = go (p x) (filter_there p n xs (k, omega arith, there) is)
  where
    go : (b : Bool) → is_in n (filter p xs) ≡ true → is_in n (cond b (x ∷ filter p xs) (filter p xs)) ≡ true
    go true more = or_right (x == n) (is_in n (filter p xs)) more
    go false more = more

in_range : (n m : ℕ) → n < m → Contains (range_with_len 0 m) n
in_range n m below = (n, omega (arith, length-range_with_len 0 m), get_or-range_with_len 0 m n n below ∙ (let same : 0 + n ≡ n = omega arith in same))

-- ---- births

born_some : (g : Dated → ℕ) (node e : ℕ) (es : List Entry) → ((d : Dated) → d.node ≢ node → g d ≡ 0) → 0 < sum_by g (births_in e es) → (slot : ℕ) × (leaf : Bool) × Contains es (entries.Born slot leaf) × (slot + 1 ≡ node)
born_some g node e [] only some = absurd (omega (arith, some))
born_some g node e (entries.Put place new old ∷ es) only some = (let more = born_some g node e es only some in (more.0, more.1, Contains-append_right (entries.Put place new old ∷ []) es (entries.Born more.0 more.1) more.2, more.3))
born_some g node e (entries.Born s l ∷ es) only some = elim (cases_eq (s + 1) node) [
  | inl same ↦ (s, l, (0, omega arith, refl), same)
  | inr other ↦
      let more = born_some g node e es only (omega (arith, some, sum_by-cons g (dated_birth e (s + 1) l) (births_in e es), only (dated_birth e (s + 1) l) other)) in
      (more.0, more.1, Contains-append_right (entries.Born s l ∷ []) es (entries.Born more.0 more.1) more.2, more.3)
]

early_births : (g : Dated → ℕ) (e : ℕ) (es : List Entry) → ((d : Dated) → d.epoch ≡ e → g d ≡ 0) → sum_by g (births_in e es) ≡ 0
early_births g e [] none = refl
early_births g e (entries.Put place new old ∷ es) none = early_births g e es none
early_births g e (entries.Born s l ∷ es) none = omega (arith, sum_by-cons g (dated_birth e (s + 1) l) (births_in e es), none (dated_birth e (s + 1) l) refl, early_births g e es none)

early_row : (g : Dated → ℕ) (e : ℕ) (row : List Contents) → ((d : Dated) → d.epoch ≡ e → g d ≡ 0) → sum_by (share g tells_births e) row ≡ 0
early_row g e [] none = refl
early_row g e (b ∷ row) none = omega (arith, sum_by-cons (share g tells_births e) b row, early_births g e b.entries none, early_row g e row none)

-- a birth after the epoch of a batch that is worked on is in a log or a mailbox
later_birth : (w : Core) (node : ℕ) → IsKept true w → has_batched w.collector.phase ≡ true → 0 < sum_by (is_from (applied_in w + 1) node) (births_of w) → (slot : ℕ) × IsUntold w slot × (slot + 1 ≡ node)
later_birth w node kept works some =
    let g : Dated → ℕ = is_from (applied_in w + 1) node in
    let now : applied_in w ≡ w.epoch - 1 = worked_epoch w.epoch w.collector.phase works in
    let newer : sum_by (share g tells_births (w.epoch - 1)) w.collector.newer ≡ 0 = early_row g (w.epoch - 1) w.collector.newer (λ d same. before (applied_in w) node d (omega (arith, same, now))) in
    let older : sum_by (share g tells_births (older_at w.epoch w.collector.phase)) w.collector.older ≡ 0
    = early_row g (older_at w.epoch w.collector.phase) w.collector.older (λ d same. before (applied_in w) node d (omega (arith, same, now, older_low w.epoch w.collector.phase))) in
    elim (cases_lt 0 (sum_by (log_share g tells_births) w.mutators)) [
      | inl logs ↦ in_logs (some_of (log_share g tells_births) w.mutators nobody logs)
      | inr none ↦ in_boxes (some_both (box_share g tells_births) w.mutators w.boxes nobody (blank 0 0) (omega (arith, some, none, newer, older, buffers_sum g tells_births w)))
    ]
  where
    before : (a node : ℕ) (d : Dated) → d.epoch ≤ a → is_from (a + 1) node d ≡ 0
    before a node d up = grind (arith, nat_tests)

    other : (a node : ℕ) (d : Dated) → d.node ≢ node → is_from a node d ≡ 0
    other a node d apart = grind (arith, nat_tests)

    older_low : (epoch : ℕ) (phase : Phase) → older_at epoch phase ≤ epoch - 1
    older_low epoch Idle = omega arith
    older_low epoch _ = omega arith

    number_of : (i : ℕ) → i < length w.mutators → IsMutator w.config (i + 1)
    number_of i below = (let many : length w.mutators ≡ w.config.mutators = kept.mutators.many in (omega arith, omega arith))

    in_logs : (i : ℕ) × (i < length w.mutators) × (0 < log_share (is_from (applied_in w + 1) node) tells_births (slice_index_or w.mutators i nobody)) → (slot : ℕ) × IsUntold w slot × (slot + 1 ≡ node)
    in_logs (i, below, weighs) =
        let p : Private = slice_index_or w.mutators i nobody in
        let at : i ≡ i + 1 - 1 = omega arith in
        let born = born_some (is_from (applied_in w + 1) node) node (epoch_at p) p.log.entries (other (applied_in w + 1) node) weighs in
        (born.0, IsUntold.in_log (i + 1) born.1 (number_of i below) (subst (λ n. Contains (slice_index_or w.mutators n nobody).log.entries (entries.Born born.0 born.1)) at born.2), born.3)

    in_boxes : (i : ℕ) × (i < length w.mutators) × (0 < box_share (is_from (applied_in w + 1) node) tells_births (slice_index_or w.mutators i nobody, slice_index_or w.boxes i (blank 0 0))) → (slot : ℕ) × IsUntold w slot × (slot + 1 ≡ node)
    in_boxes (i, below, weighs) =
        let p : Private = slice_index_or w.mutators i nobody in
        let b : Contents = slice_index_or w.boxes i (blank 0 0) in
        let at : i ≡ i + 1 - 1 = omega arith in
        let born = born_some (is_from (applied_in w + 1) node) node (epoch_at p - 1) b.entries (other (applied_in w + 1) node) weighs in
        (born.0, IsUntold.in_box (i + 1) born.1 (number_of i below) (subst (λ n. Contains (slice_index_or w.boxes n (blank 0 0)).entries (entries.Born born.0 born.1)) at born.2), born.3)

-- such a slot is one of the heap
untold_within : (w : Core) → IsKept true w → (slot : ℕ) → IsUntold w slot → slot < w.config.slots
untold_within w kept slot u = elim (cases_lt slot w.config.slots) [
  | inl below ↦ below
  | inr past ↦ absurd (untold_taken w slot kept u (get_or_past w.headers slot 0 (let many : length w.headers ≡ w.config.slots = kept.headers in omega (arith, past, many))))
]

-- ---- words

-- counted where a word leads somewhere and has this bare word
abbrev pub marks : (word place bare_word : ℕ) → ℕ
marks b place z = only_if (has_target z) (only_if (z == b) 1)

-- a line that puts it at a place
abbrev marks_at : (at b place z : ℕ) → ℕ
marks_at at b place z = only_if (has_target z) (only_if (place == at) (only_if (z == b) 1))

split_late : (a : ℕ) (g : ℕ → ℕ → ℕ) (p y : ℕ) → (has_target y ≡ false → g p y ≡ 0) → g p y ≤ early a g p y + late a g p y
split_late a g p y none = go (has_target y) refl
  where
    both : (e n : ℕ) → n ≤ only_if (nat_le e a) n + only_if (nat_lt a e) n
    both e n = grind (arith, nat_tests)

    go : (b : Bool) → has_target y ≡ b → g p y ≤ only_if b (only_if (nat_le (epoch_of y) a) (g p y)) + only_if (nat_lt a (epoch_of y)) (g p y)
    go true is = both (epoch_of y) (g p y)
    go false is = omega (arith, none is)

module _ (ls bs : List Line) (v : Core) (kept : IsKept true v) (told : Tells ls v) (covers : Covers ls v) (alike : Alike ls bs) (works : has_batched v.collector.phase ≡ true) (once : (b : ℕ) → sum_by (puts (marks b)) bs ≤ 1) where
  abbrev a : ℕ
  a = applied_in v

  -- the block that stands open
  block_is : (rest : List Line) × (this_block ls ≡ parts_lines (last_batch v.collector) ++ rest)
  block_is = go told.block
    where
      go : HasBlock ls v → (rest : List Line) × (this_block ls ≡ parts_lines (last_batch v.collector) ++ rest)
      go (HasBlock.none waits empty) = absurd (false≢true (sym waits ∙ works))
      go (HasBlock.some rest late is) = (rest, is)

  in_block : (l : Line) → Contains (parts_lines (last_batch v.collector)) l → Contains (this_block ls) l
  in_block l c = subst (λ ts. Contains ts l) (sym block_is.1) (Contains-append_left (parts_lines (last_batch v.collector)) block_is.0 l c)

  block_replaces : (g : ℕ → ℕ → ℕ) → sum_by (wrote (replaced_by g)) (last_batch v.collector) ≤ sum_by (replaces g) (this_block ls)
  block_replaces g = omega (
    arith,
    rows_weigh (replaces g) (replaced_by g) (λ t place new old. refl) (λ t slot leaf. refl) (λ l is. ap (λ k. only_if (is_put k) (g (number 1 l) (number 3 l))) is) 1 (last_batch v.collector),
    ap (sum_by (replaces g)) block_is.1,
    sum_by-append (replaces g) (parts_lines (last_batch v.collector)) block_is.0,
  )

  -- what the block replaced, and what earlier ones did, come to no more than what was put
  within : (g : ℕ → ℕ → ℕ) → sum_at (early a g) v.words + (sum_by (after a (replaced_by (early a g))) (writes_of v) + (sum_by (takes_out (early a g)) ls + (sum_by (replaces (early a g)) (earlier_blocks ls) + sum_by (replaces (early a g)) (this_block ls)))) ≤ sum_by (puts (early a g)) ls
  within g = omega (arith, covers.balance.stands g, blocks_less (replaces (early a g)) ls)

  -- no earlier block replaced a later word
  none_late_before : (g : ℕ → ℕ → ℕ) → sum_by (replaces (late a g)) (earlier_blocks ls) ≡ 0
  none_late_before g = omega (arith, covers.balance.near g, block_replaces (late a g), blocks_less (replaces (late a g)) ls)

  early_puts : (g : ℕ → ℕ → ℕ) → sum_by (puts (early a g)) ls ≤ sum_by (puts g) ls
  early_puts g = sum_by-le-sum_by (puts (early a g)) (puts g) ls (λ l. less (is_put l.kind) (has_target (number 2 l)) (nat_le (epoch_of (number 2 l)) a) (g (number 1 l) (number 2 l)))
    where
      inner : (c : Bool) (n : ℕ) → only_if c n ≤ n
      inner true n = omega arith
      inner false n = omega arith

      middle : (b c : Bool) (n : ℕ) → only_if b (only_if c n) ≤ n
      middle true c n = inner c n
      middle false c n = omega arith

      less : (x b c : Bool) (n : ℕ) → only_if x (only_if b (only_if c n)) ≤ only_if x n
      less true b c n = middle b c n
      less false b c n = omega arith

  -- ---- a word that lasts

  module _ (place word : ℕ) (target : has_target word ≡ true) (up : epoch_of word ≤ a) (lasts : Lasts v [] (record { place = place; word = word; epoch = applied_in v })) where
    weighs_here : (g : ℕ → ℕ → ℕ) → early a g place word ≡ g place word
    weighs_here g = ap (λ b. only_if b (only_if (nat_le (epoch_of word) a) (g place word))) target ∙ inside (epoch_of word) a (g place word) up
      where
        inside : (e b n : ℕ) → e ≤ b → only_if (nat_le e b) n ≡ n
        inside e b n low = grind (arith, nat_tests)

    present : (g : ℕ → ℕ → ℕ) → 1 ≤ g place word → 1 ≤ sum_at (early a g) v.words + (sum_by (after a (replaced_by (early a g))) (writes_of v) + sum_by (replaces (early a g)) (this_block ls))
    present g some = go lasts
      where
        f : ℕ → ℕ → ℕ
        f = early a g

        later : (x : Write) → closes (record { place = place; word = word; epoch = a + 1 }) x ≤ after a (replaced_by (early a g)) x
        later x = elim (cases_eq place x.place) [
          | inr apart ↦ (let none : closes (record { place = place; word = word; epoch = a + 1 }) x ≡ 0 = grind (arith, nat_tests) in omega (arith, none))
          | inl at ↦ elim (cases_eq word x.old) [
            | inr apart ↦ (let none : closes (record { place = place; word = word; epoch = a + 1 }) x ≡ 0 = grind (arith, nat_tests) in omega (arith, none))
            | inl same ↦
                let value : 1 ≤ early a g x.place x.old = subst (λ q. 1 ≤ early a g q x.old) at (subst (λ y. 1 ≤ early a g place y) same (omega (arith, weighs_here g, some))) in
                over (epoch_of x.new) a (early a g x.place x.old) value
          ]
        ]
          where
            over : (e b n : ℕ) → 1 ≤ n → only_if (place == x.place) (only_if (word == x.old) (only_if (leb (b + 1) e) 1)) ≤ only_if (nat_lt b e) n
            over e b n value = grind (arith, nat_tests)

        go : Lasts v [] (record { place = place; word = word; epoch = applied_in v }) → 1 ≤ sum_at (early a g) v.words + (sum_by (after a (replaced_by (early a g))) (writes_of v) + sum_by (replaces (early a g)) (this_block ls))
        go (inl stands) = elim (cases_lt place (length v.words)) [
          | inl there ↦ omega (arith, get_or-le-sum_at (early a g) v.words place 0 there, ap (early a g place) stands, weighs_here g, some)
          | inr past ↦ absurd (false≢true (sym (ap has_target (sym stands ∙ get_or_past v.words place 0 past)) ∙ target))
        ]
        go (inr (inl replaced)) = elim (replaced_when v place word kept replaced) [
          | inl after_it ↦ omega (arith, after_it, sum_by-le-sum_by (closes (record { place = place; word = word; epoch = a + 1 })) (after a (replaced_by (early a g))) (writes_of v) later)
          | inr here ↦
              let line = entry_has_line (last_batch v.collector) (entries.Put place here.0 word) here.1 in
              let l : Line = entry_line line.0 (entries.Put place here.0 word) in
              omega (arith, weighs_in (replaces (early a g)) (this_block ls) l (in_block l line.1), weighs_here g, some)
        ]
        go (inr (inr out)) = absurd (let below = out.1 in omega arith)

    -- a line of the journal puts its bare word there
    has_line : (l : Line) × Contains bs l × (opens l ≡ true) × (number 1 l ≡ place) × (number 2 l ≡ bare word)
    has_line =
        let some : 0 < sum_by (puts (marks_at place (bare word))) bs = omega (arith, present (by_bare (marks_at place (bare word))) (one place (bare word) (leads_same word ∙ target)), within (by_bare (marks_at place (bare word))), early_puts (by_bare (marks_at place (bare word))), alike.put (marks_at place (bare word))) in
        let (l, c, weighs) = some_weighs (puts (marks_at place (bare word))) bs some in
        let parts = of_line (is_put l.kind) (has_target (number 2 l)) (number 1 l) (number 2 l) weighs in
        (l, c, ap (λ b. b && has_target (number 2 l)) parts.0 ∙ parts.1, parts.2, parts.3)
      where
        one : (p z : ℕ) → has_target z ≡ true → 1 ≤ marks_at p z p z
        one p z leads = subst (λ b. 1 ≤ only_if b (only_if (p == p) (only_if (z == z) 1))) (sym leads) (itself p z)
          where
            itself : (p z : ℕ) → 1 ≤ only_if (p == p) (only_if (z == z) 1)
            itself p z = grind (arith, nat_tests)

        of_line : (x y : Bool) (p z : ℕ) → 0 < only_if x (only_if y (only_if (p == place) (only_if (z == bare word) 1))) → (x ≡ true) × (y ≡ true) × (p ≡ place) × (z ≡ bare word)
        of_line true true p z weighs = (refl, refl, grind (arith, nat_tests), grind (arith, nat_tests))
        of_line true false p z weighs = absurd (omega (arith, weighs))
        of_line false y p z weighs = absurd (omega (arith, weighs))

    -- and it isn't dead
    lives : is_dead bs (bare word) ≡ false
    lives = elim (cases_Bool (is_dead bs (bare word))) [
      | inr alive ↦ alive
      | inl dead ↦ absurd (elim (or_cases (list_any (takes (bare word)) bs) (list_any (closes_line (bare word)) (earlier_blocks bs)) dead) [
        | inl out ↦ taken out
        | inr closed ↦ replaced closed
      ])
    ]
      where
        leads : has_target (bare word) ≡ true
        leads = leads_same word ∙ target

        here : 1 ≤ marks (bare word) place (bare word)
        here = subst (λ b. 1 ≤ only_if b (only_if (bare word == bare word) 1)) (sym leads) (itself (bare word))
          where
            itself : (z : ℕ) → 1 ≤ only_if (z == z) 1
            itself z = grind (arith, nat_tests)

        shut : (p y : ℕ) → has_target y ≡ false → by_bare (marks (bare word)) p y ≡ 0
        shut p y none = ap (λ b. only_if b (only_if (bare y == bare word) 1)) (leads_same y ∙ none)

        all : sum_by (puts (early a (by_bare (marks (bare word))))) ls ≤ 1
        all = omega (arith, early_puts (by_bare (marks (bare word))), alike.put (marks (bare word)), once (bare word))

        one_if : (x : Bool) (z : ℕ) → z ≡ bare word → x ≡ true → 1 ≤ only_if x (marks (bare word) place z)
        one_if x z same is = subst (λ b. 1 ≤ only_if b (marks (bare word) place z)) (sym is) (subst (λ y. 1 ≤ marks (bare word) place y) (sym same) here)

        split_if : (x : Bool) (p y : ℕ) → only_if x (by_bare (marks (bare word)) p y) ≤ only_if x (early a (by_bare (marks (bare word))) p y) + only_if x (late a (by_bare (marks (bare word))) p y)
        split_if true p y = split_late a (by_bare (marks (bare word))) p y (shut p y)
        split_if false p y = omega arith

        taken : list_any (takes (bare word)) bs ≡ true → ⊥
        taken out =
            let outs : 1 ≤ sum_by (takes_out (marks (bare word))) bs = any_weighs (takes (bare word)) (takes_out (marks (bare word))) bs (λ l is. both_if l is) out in
            omega (
              arith,
              outs,
              alike.out (marks (bare word)) (λ p. refl),
              both_more (takes_out (early a (by_bare (marks (bare word))))) (takes_out (late a (by_bare (marks (bare word))))) (takes_out (by_bare (marks (bare word)))) ls (λ l. split_if (is_out l.kind) (number 0 l) (number 1 l)),
              covers.balance.gone (by_bare (marks (bare word))),
              within (by_bare (marks (bare word))),
              present (by_bare (marks (bare word))) here,
              all,
            )
          where
            both_if : (l : Line) → takes (bare word) l ≡ true → 1 ≤ takes_out (marks (bare word)) l
            both_if l is = go (is_out l.kind) is
              where
                go : (x : Bool) → (x && (number 1 l == bare word)) ≡ true → 1 ≤ only_if x (marks (bare word) (number 0 l) (number 1 l))
                go true is = one_if true (number 1 l) (eqb-true (number 1 l) (bare word) is) refl
                go false is = absurd (false≢true is)

        replaced : list_any (closes_line (bare word)) (earlier_blocks bs) ≡ true → ⊥
        replaced closed =
            let changes : 1 ≤ sum_by (replaces (marks (bare word))) (earlier_blocks bs) = any_weighs (closes_line (bare word)) (replaces (marks (bare word))) (earlier_blocks bs) (λ l is. both_if l is) closed in
            omega (
              arith,
              changes,
              alike.earlier (marks (bare word)),
              both_more (replaces (early a (by_bare (marks (bare word))))) (replaces (late a (by_bare (marks (bare word))))) (replaces (by_bare (marks (bare word)))) (earlier_blocks ls) (λ l. split_if (is_put l.kind) (number 1 l) (number 3 l)),
              none_late_before (by_bare (marks (bare word))),
              within (by_bare (marks (bare word))),
              present (by_bare (marks (bare word))) here,
              all,
            )
          where
            both_if : (l : Line) → closes_line (bare word) l ≡ true → 1 ≤ replaces (marks (bare word)) l
            both_if l is = go (is_put l.kind) is
              where
                go : (x : Bool) → (x && (number 3 l == bare word)) ≡ true → 1 ≤ only_if x (marks (bare word) (number 1 l) (number 3 l))
                go true is = one_if true (number 3 l) (eqb-true (number 3 l) (bare word) is) refl
                go false is = absurd (false≢true is)

    fields_are : (heap_of bs).fields ≡ v.config.fields
    fields_are = ap (λ (h : Heap). h.fields) (alike.heap ∙ told.heap)

    leads_on : (n : ℕ) → target_bits word ≡ n → is_in (n - 1) (targets bs (place / v.config.fields)) ≡ true
    leads_on n is =
        let (l, c, opened, at, puts_it) = has_line in
        let from : opens_from (heap_of bs).fields (place / v.config.fields) l ≡ true
        = ap (λ b. b && (number 1 l / (heap_of bs).fields == place / v.config.fields)) opened ∙ eq-eqb (number 1 l / (heap_of bs).fields) (place / v.config.fields) (ap (λ k. k / (heap_of bs).fields) at ∙ ap (λ k. place / k) fields_are) in
        let alive : not (is_dead bs (number 2 l)) ≡ true = ap not (ap (is_dead bs) puts_it ∙ lives) in
        let to : target_in l ≡ n - 1 = ap (λ y. target_bits y - 1) puts_it ∙ ap (λ k. k - 1) (bits_bare word ∙ is) in
        subst (λ k. is_in k (targets bs (place / v.config.fields)) ≡ true) to (target_there (λ line. not (is_dead bs (number 2 line))) (opens_from (heap_of bs).fields (place / v.config.fields)) bs l c from alive)

  -- ---- the reach

  named_root : (n : ℕ) (l : Line) → Contains (parts_lines (last_batch v.collector)) l → is_in n (named_by l.kind l.numbers) ≡ true → is_in n (roots ls) ≡ true
  named_root n l c is =
      list_any-append (λ m. m == n) (flat_map (λ (x : Line). named_by x.kind x.numbers) (this_block ls)) (filter (λ slot. not (is_taken ls slot)) (range_with_len 0 (heap_of ls).slots))
      ∙ or_left (is_in n (flat_map (λ (x : Line). named_by x.kind x.numbers) (this_block ls))) (is_in n (filter (λ slot. not (is_taken ls slot)) (range_with_len 0 (heap_of ls).slots))) (named_there n (this_block ls) l (in_block l c) is)

  untaken_root : (slot : ℕ) → (slice_index_or v.headers slot 0 ≡ 0) ⊎ IsUntold v slot → slot < v.config.slots → is_in slot (roots ls) ≡ true
  untaken_root slot why below =
      let slots : (heap_of ls).slots ≡ v.config.slots = ap (λ (h : Heap). h.slots) told.heap in
      list_any-append (λ m. m == slot) (flat_map (λ (x : Line). named_by x.kind x.numbers) (this_block ls)) (filter (λ s. not (is_taken ls s)) (range_with_len 0 (heap_of ls).slots))
      ∙ or_right (is_in slot (flat_map (λ (x : Line). named_by x.kind x.numbers) (this_block ls))) (is_in slot (filter (λ s. not (is_taken ls s)) (range_with_len 0 (heap_of ls).slots)))
      (filter_there (λ s. not (is_taken ls s)) slot (range_with_len 0 (heap_of ls).slots) (in_range slot (heap_of ls).slots (omega (arith, below, slots))) (ap not (covers.untaken slot why)))

  at_root : (x : ℕ) → 0 < x → 0 < root_sum (pending v) a x → IsReachedAt bs (x - 1)
  at_root x pos some = IsReached.root (x - 1) (ap (is_in (x - 1)) (roots_same ls bs alike) ∙ elim (cases_lt 0 (sum_by (is_at a x) (snapshots_of v))) [
    | inl held_it ↦ of_snapshot (some_weighs (is_at a x) (snapshots_of v) held_it)
    | inr none ↦ of_birth (omega (arith, some, none))
  ])
    where
      parts_at : (d : Dated) → 0 < is_at a x d → (d.epoch ≡ a) × (d.node ≡ x)
      parts_at d weighs = (grind (arith, nat_tests), grind (arith, nat_tests))

      of_snapshot : (d : Dated) × Contains (snapshots_of v) d × (0 < is_at a x d) → is_in (x - 1) (roots ls) ≡ true
      of_snapshot (d, c, weighs) =
          let parts = parts_at d weighs in
          let (i, below, named) = name_stands v d kept c parts.0 in
          let line = snapshot_from 1 (last_batch v.collector) i below in
          let l : Line = snap_line line.0 (buffer_at (last_batch v.collector) i).snapshot in
          named_root (x - 1) l line.1 (held_there x (map register_number (buffer_at (last_batch v.collector) i).snapshot) pos (subst (λ n. is_in n (map register_number (buffer_at (last_batch v.collector) i).snapshot) ≡ true) parts.1 named))

      split : (d : Dated) → is_from a x d ≤ is_at a x d + is_from (a + 1) x d
      split d = grind (arith, nat_tests)

      born_now : (d : Dated) × Contains (births_of v) d × (0 < is_at a x d) → is_in (x - 1) (roots ls) ≡ true
      born_now (d, c, weighs) =
          let parts = parts_at d weighs in
          let (slot, leaf, stands, is) = birth_stands v d kept c parts.0 in
          let line = entry_has_line (last_batch v.collector) (entries.Born slot leaf) stands in
          let same : x - 1 ≡ slot = omega (arith, is, parts.1) in
          named_root (x - 1) (entry_line line.0 (entries.Born slot leaf)) line.1 (or_left (slot == x - 1) false (eq-eqb slot (x - 1) (sym same)))

      born_later : (slot : ℕ) × IsUntold v slot × (slot + 1 ≡ x) → is_in (x - 1) (roots ls) ≡ true
      born_later (slot, u, is) =
          let same : slot ≡ x - 1 = omega (arith, is) in
          subst (λ n. is_in n (roots ls) ≡ true) same (untaken_root slot (inr u) (untold_within v kept slot u))

      of_birth : 0 < sum_by (is_from a x) (births_of v) → is_in (x - 1) (roots ls) ≡ true
      of_birth more = elim (cases_lt 0 (sum_by (is_at a x) (births_of v))) [
        | inl now ↦ born_now (some_weighs (is_at a x) (births_of v) now)
        | inr none ↦ born_later (later_birth v x kept works (omega (arith, more, none, both_more (is_at a x) (is_from (a + 1) x) (is_from a x) (births_of v) split)))
      ]

  at_edge : (s x : ℕ) → 0 < s → 0 < x → IsInReach (pending v) a s → IsReachedAt bs (s - 1) → 0 < edge_sum (pending v) a s x → IsReachedAt bs (x - 1)
  unfolding node_of
  at_edge s x some pos from reached edge = elim (cases_lt 0 (sum_at (opened_from v.config.fields a s x) v.words)) [
    | inl open_ones ↦ of_word (some_word (opened_from v.config.fields a s x) v.words open_ones)
    | inr none ↦ of_write (some_weighs (closed_out_of v.config.fields a s x) (writes_of v) (omega (arith, edge, none)))
  ]
    where
      lasting : (place word : ℕ) → s ≡ home v.config.fields place → x ≡ node_of word → epoch_of word ≤ a → Lasts v [] (record { place = place; word = word; epoch = applied_in v }) → IsReachedAt bs (x - 1)
      lasting place word source target up lasts =
          let leads : has_target word ≡ true = lt-ltb 0 (target_bits word) (omega (arith, pos, target)) in
          let at : place / v.config.fields ≡ s - 1 = omega (arith, source) in
          IsReached.child (s - 1) (x - 1) reached (subst (λ k. is_in (x - 1) (targets bs k) ≡ true) at (leads_on place word leads up lasts x (sym target)))

      of_word : (i : ℕ) × (i < length v.words) × (0 < opened_from v.config.fields a s x i (slice_index_or v.words i 0)) → IsReachedAt bs (x - 1)
      of_word (i, below, weighs) =
          let w : ℕ = slice_index_or v.words i 0 in
          let parts = parts_open (home v.config.fields i) (epoch_of w) (node_of w) weighs in
          lasting i w parts.0 parts.1 parts.2 (inl refl)
        where
          parts_open : (h e n : ℕ) → 0 < only_if (s == h) (only_if (nat_le e a) (one_if_same x n)) → (s ≡ h) × (x ≡ n) × (e ≤ a)
          parts_open h e n weighs = (grind (arith, nat_tests), grind (arith, nat_tests), grind (arith, nat_tests))

      of_write : (u : Write) × Contains (writes_of v) u × (0 < closed_out_of v.config.fields a s x u) → IsReachedAt bs (x - 1)
      of_write (u, c, weighs) =
          let parts = parts_closed (home v.config.fields u.place) (epoch_of u.new) (epoch_of u.old) (node_of u.old) weighs in
          let l : Loaded = record { place = u.place; word = u.old; epoch = applied_in v } in
          lasting u.place u.old parts.0 parts.1 parts.2 (inr (inl (omega (arith, weighs_in (closes l) (writes_of v) u c, closes_it u.place u.old a (epoch_of u.new) parts.3))))
        where
          parts_closed : (h e o n : ℕ) → 0 < only_if (s == h) (only_if (nat_le a e) (only_if (nat_le o a) (one_if_same x n))) → (s ≡ h) × (x ≡ n) × (o ≤ a) × (a ≤ e)
          parts_closed h e o n weighs = (grind (arith, nat_tests), grind (arith, nat_tests), grind (arith, nat_tests), grind (arith, nat_tests))

          closes_it : (p y b e : ℕ) → b ≤ e → only_if (p == p) (only_if (y == y) (only_if (leb b e) 1)) ≡ 1
          closes_it p y b e low = grind (arith, nat_tests)

  covered : (node : ℕ) → IsInReach (pending v) (applied_in v) node → IsReachedAt bs (node - 1)
  covered node reached = all_in_reach (pending v) (applied_in v) (λ n. IsReachedAt bs (n - 1)) at_root at_edge node reached

  -- and a free slot is a root
  pub covered_all : (slot : ℕ) → slot < v.config.slots → IsReachedIn v slot → IsReachedAt bs slot
  covered_all slot below (inl reached) = (let same : slot + 1 - 1 ≡ slot = omega arith in subst (IsReachedAt bs) same (covered (slot + 1) reached))
  covered_all slot below (inr free) = IsReached.root slot (ap (is_in slot) (roots_same ls bs alike) ∙ untaken_root slot (inl free) below)
