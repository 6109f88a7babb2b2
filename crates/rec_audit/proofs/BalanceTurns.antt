-- The balance of a run's journal through each turn of the collector, and along the run.
use Rattle.std.proofs.Common.{◌≡◌, ◌≢◌, ℕ, suc, ◌+◌, ◌-◌, ◌<◌, ◌≤◌, ◌==◌, if◌then◌else◌, nat_lt, nat_le, Bool, true, false, Option, None, Some, List, [], ◌∷◌, ◌++◌, length, refl, sym, ap, subst, ◌∙◌, arith, append-nil}
use Rattle.std.specs.List.{Contains, sum_by}
use Rattle.std.proofs.lemmas.Bool.Decides.{nat_tests}
use Rattle.std.proofs.lemmas.List.Elements.{Contains-append_right}
use Rattle.std.proofs.lemmas.List.Sums.{sum_by-append, sum_by-cons, sum_by-le-sum_by}
use Rattle.rec_core.proofs.PlainWords.{none_crossed}
use Rattle.rec_core.proofs.Common.{only_if, epoch_of, sum_at, Write, Contents, Entry, buffer_at, Phase, Idle, Looking, Swapping, Returning, Op, cell, IsMutator, Core, cells_of, box, IsKept, looked_at, turned_by, writes_in, applied_at}
use Rattle.rec_word.specs.declared.op.Op.TheVariants as ops
use Rattle.rec_log.specs.declared.entry.Entry.TheVariants as entries
use Rattle.rec_model.specs.Accounted.{is_wrong_write, late, put_late, replaced_late}
use Rattle.rec_model.proofs.Sums.{sum_at_same, sum_at_split, sum_by_same}
use Rattle.rec_collector.specs.Next.{next_of as collector_next}
use Rattle.rec_collector.specs.Private as collectors
use Rattle.rec_collector.specs.Shown.{Batch, batch_of}
use Rattle.rec_collector.specs.Step.{NamesWord}
use Rattle.rec_collector.specs.Took.{step_of}
use Rattle.rec_core.specs.Kept as of_core
use Rattle.rec_core.specs.Loads.{tried_in}
use Rattle.rec_core.specs.Pending.{older_at, writes_of, has_batched}
use Rattle.rec_audit.proofs.Lasting.{op_keeps, op_less, wrote}
use Rattle.rec_audit.specs.Form.{number}
use Rattle.rec_audit.specs.Graph.{has_target, is_out, is_put}
use Rattle.rec_audit.specs.Journal.{batch_lines, op_lines}
use Rattle.rec_audit.specs.Lines.{Line}
use Rattle.rec_audit.specs.Logged.{last_batch}
use Rattle.rec_audit.proofs.Balance.{Balanced, BalancedAt, after, batch_puts, batch_replaces, batch_takes, both_less, both_more, early, late_null, late_puts, late_replaces, none_late, op_weighs, put_by, puts, replaced_by, replaces, takes_out}
use Rattle.rec_audit.proofs.Journalled.{StandsIn, applied_in, last_sum}
use Rattle.rec_audit.proofs.Newly.{row_weighs}
use Rattle.rec_audit.proofs.OneTurn.{one_turn, ops_of}
use Rattle.rec_audit.proofs.Placing.{Placed, step_placed}
use Rattle.rec_audit.proofs.RunTurns.{IsBatchOf, ops_late, step_batch, tried_near}
use Rattle.rec_audit.proofs.Runs.{begun}

-- ---- the writes of the last batch

-- a weight of writes, for those of this epoch
abbrev in_epoch : (epoch : ℕ) → (Write → ℕ) → Write → ℕ
in_epoch epoch weight x = only_if (epoch_of x.new == epoch) (weight x)

-- they are of its epoch
last_made : (w : Core) (place new old : ℕ) → IsKept true w → StandsIn (last_batch w.collector) (entries.Put place new old) → epoch_of new ≡ applied_in w
last_made w place new old kept (i, below, c) = go w.collector.phase refl
  where
    made : (row : List Contents) (e : ℕ) → length row ≡ w.config.mutators → ((t : ℕ) → IsMutator w.config t → of_core.IsBufferOf true w.config e (buffer_at row (t - 1))) → last_batch w.collector ≡ row → epoch_of new ≡ e
    made row e many all last =
        let at : i + 1 - 1 ≡ i = omega arith in
        let there : i < length row = subst (λ (xs : List Contents). i < length xs) last below in
        let its = subst (λ n. of_core.IsBufferOf true w.config e (buffer_at row n)) at (all (i + 1) (omega arith, omega (arith, there, many))) in
        let own : Contains (buffer_at row i).entries (entries.Put place new old) = subst (λ xs. Contains (buffer_at xs i).entries (entries.Put place new old)) last c in
        subst (of_core.IsMadeIn e) own.2 (its.made own.0 (entries.Put place new old) own.1)

    older : (phase : Phase) → w.collector.phase ≡ phase → has_batched phase ≡ false → older_at w.epoch phase ≡ applied_at w.epoch phase → epoch_of new ≡ applied_in w
    older phase is waits same =
        made w.collector.older (older_at w.epoch w.collector.phase) (kept.collector.machine.both ∙ kept.collector.mutators) kept.collector.older (ap (λ b. if b then w.collector.newer else w.collector.older) (ap has_batched is ∙ waits))
        ∙ ap (older_at w.epoch) is ∙ same ∙ sym (ap (applied_at w.epoch) is)

    newer : (phase : Phase) → w.collector.phase ≡ phase → has_batched phase ≡ true → applied_at w.epoch phase ≡ w.epoch - 1 → epoch_of new ≡ applied_in w
    newer phase is works same = made w.collector.newer (w.epoch - 1) kept.collector.mutators kept.collector.newer (ap (λ b. if b then w.collector.newer else w.collector.older) (ap has_batched is ∙ works)) ∙ sym same ∙ sym (ap (applied_at w.epoch) is)

    go : (phase : Phase) → w.collector.phase ≡ phase → epoch_of new ≡ applied_in w
    go Idle is = older Idle is refl refl
    go (Looking t) is = older (Looking t) is refl refl
    go (Swapping t) is = older (Swapping t) is refl refl
    go (Returning t) is = older (Returning t) is refl refl
    go phase is = newer phase is refl refl

-- two weights that are one on what stands in a row
entries_same : (f g : Write → ℕ) (es : List Entry) → ((place new old : ℕ) → Contains es (entries.Put place new old) → f (record { place = place; new = new; old = old }) ≡ g (record { place = place; new = new; old = old })) → sum_by f (writes_in es) ≡ sum_by g (writes_in es)
entries_same f g [] same = refl
entries_same f g (entries.Put p n o ∷ es) same =
    let x : Write = record { place = p; new = n; old = o } in
    omega (
      arith,
      sum_by-cons f x (writes_in es),
      sum_by-cons g x (writes_in es),
      same p n o (0, omega arith, refl),
      entries_same f g es (λ place new old c. same place new old (Contains-append_right (entries.Put p n o ∷ []) es (entries.Put place new old) c)),
    )
entries_same f g (entries.Born s l ∷ es) same = entries_same f g es (λ place new old c. same place new old (Contains-append_right (entries.Born s l ∷ []) es (entries.Put place new old) c))

row_same : (f g : Write → ℕ) (row : List Contents) → ((place new old : ℕ) → StandsIn row (entries.Put place new old) → f (record { place = place; new = new; old = old }) ≡ g (record { place = place; new = new; old = old })) → sum_by (wrote f) row ≡ sum_by (wrote g) row
row_same f g [] same = refl
row_same f g (b ∷ row) same = omega (
  arith,
  sum_by-cons (wrote f) b row,
  sum_by-cons (wrote g) b row,
  entries_same f g b.entries (λ place new old c. same place new old (0, omega arith, c)),
  row_same f g row (λ place new old c. same place new old (suc c.0, omega (arith, c.1), c.2)),
)

in_epoch_of : (epoch : ℕ) (h : Write → ℕ) (x : Write) → epoch_of x.new ≢ epoch → in_epoch epoch h x ≡ 0
in_epoch_of epoch h x other = grind (arith, nat_tests)

in_epoch_is : (epoch : ℕ) (h : Write → ℕ) (x : Write) → epoch_of x.new ≡ epoch → in_epoch epoch h x ≡ h x
in_epoch_is epoch h x same = grind (arith, nat_tests)

-- whatever they weigh
last_weighs : (w : Core) (h : Write → ℕ) → IsKept true w → sum_by (in_epoch (applied_in w) h) (writes_of w) ≡ sum_by (wrote h) (last_batch w.collector)
last_weighs w h kept =
    last_sum w (in_epoch (applied_in w) h) kept (λ x other. in_epoch_of (applied_in w) h x other)
    ∙ row_same (in_epoch (applied_in w) h) h (last_batch w.collector) (λ place new old c. in_epoch_is (applied_in w) h (record { place = place; new = new; old = old }) (last_made w place new old kept c))

-- a word that one of them replaced is younger by an epoch at most
last_near : (w : Core) (place new old : ℕ) → IsKept true w → StandsIn (last_batch w.collector) (entries.Put place new old) → epoch_of old ≤ applied_in w + 1
last_near w place new old kept c =
    let x : Write = record { place = place; new = new; old = old } in
    let g : Write → ℕ = is_wrong_write w.epoch in
    let all : sum_by (wrote g) (last_batch w.collector) ≤ sum_by g (writes_of w) = omega (arith, sym (last_weighs w g kept), sum_by-le-sum_by (in_epoch (applied_in w) g) g (writes_of w) (λ y. less (applied_in w) g y)) in
    right w.epoch new old (omega (arith, row_weighs g (last_batch w.collector) place new old c, all, kept.accounted.epochs.writes)) (last_made w place new old kept c)
  where
    less : (e : ℕ) (g : Write → ℕ) (y : Write) → in_epoch e g y ≤ g y
    less e g y = grind (arith, nat_tests)

    right : (requested new old : ℕ) → is_wrong_write requested (record { place = place; new = new; old = old }) ≡ 0 → epoch_of new ≡ applied_in w → epoch_of old ≤ applied_in w + 1
    right requested new old none same = grind (arith, nat_tests)

-- the number of a line, and whether it puts a word or takes one out
abbrev number_in : ℕ → Line → ℕ
number_in i l = number i l

abbrev is_put_in : Line → Bool
is_put_in l = is_put l.kind

abbrev is_out_in : Line → Bool
is_out_in l = is_out l.kind

no_weight_in : (us : List Write) → sum_by (λ (u : Write). 0) us ≡ 0
no_weight_in [] = refl
no_weight_in (u ∷ us) = omega (arith, sum_by-cons (λ (x : Write). 0) u us, no_weight_in us)

no_weight : (row : List Contents) → sum_by (wrote (λ u. 0)) row ≡ 0
no_weight [] = refl
no_weight (c ∷ row) = omega (arith, sum_by-cons (wrote (λ u. 0)) c row, no_weight_in (writes_in c.entries), no_weight row)

-- ---- weights

null_early : (epoch : ℕ) (weight : ℕ → ℕ → ℕ) (place : ℕ) → early epoch weight place 0 ≡ 0
null_early epoch weight place = refl

-- a weight of words, for those that lead somewhere and were put in this epoch
abbrev at_epoch : (epoch : ℕ) → (weight : ℕ → ℕ → ℕ) → (place word : ℕ) → ℕ
at_epoch epoch weight place word = only_if (has_target word) (only_if (epoch_of word == epoch) (weight place word))

split_early : (a : ℕ) (g : ℕ → ℕ → ℕ) (p y : ℕ) → early (a + 1) g p y ≡ early a g p y + at_epoch (a + 1) g p y
split_early a g p y = go (has_target y)
  where
    rest : (e n : ℕ) → only_if (nat_le e (a + 1)) n ≡ only_if (nat_le e a) n + only_if (e == a + 1) n
    rest e n = grind (arith, nat_tests)

    go : (b : Bool) → only_if b (only_if (nat_le (epoch_of y) (a + 1)) (g p y)) ≡ only_if b (only_if (nat_le (epoch_of y) a) (g p y)) + only_if b (only_if (epoch_of y == a + 1) (g p y))
    go true = rest (epoch_of y) (g p y)
    go false = refl

at_is_late : (a : ℕ) (g : ℕ → ℕ → ℕ) (p y : ℕ) → late a (at_epoch (a + 1) g) p y ≡ at_epoch (a + 1) g p y
at_is_late a g p y = go (has_target y)
  where
    rest : (e n : ℕ) → only_if (nat_lt a e) (only_if (e == a + 1) n) ≡ only_if (e == a + 1) n
    rest e n = grind (arith, nat_tests)

    zero_if : (b : Bool) → only_if b 0 ≡ 0
    zero_if true = refl
    zero_if false = refl

    go : (b : Bool) → only_if (nat_lt a (epoch_of y)) (only_if b (only_if (epoch_of y == a + 1) (g p y))) ≡ only_if b (only_if (epoch_of y == a + 1) (g p y))
    go true = rest (epoch_of y) (g p y)
    go false = zero_if (nat_lt a (epoch_of y))

late_later : (a : ℕ) (g : ℕ → ℕ → ℕ) (p y : ℕ) → late a (late (a + 1) g) p y ≡ late (a + 1) g p y
late_later a g p y = grind (arith, nat_tests)

-- ---- a turn

-- a step that applies a batch takes nothing out and sweeps nothing
batch_plain : (op : Op) (word : ℕ) (q : collectors.Private) (x : Batch) → batch_of op q ≡ Some x → op_lines op word ≡ []
batch_plain (ops.ClearField place) word q x is = absurd (cc)
batch_plain (ops.FreeHeader slot) word q x is = absurd (cc)
batch_plain _ word q x is = refl

module _ (ls : List Line) (w : Core) (op : Op) (kept : IsKept true w) (named : ◌≡◌ {A = Option Op} (collector_next w.collector) (Some op)) (still : IsKept true (turned_by w op (cell (cells_of w) op)))
    (names : NamesWord (length w.collector.counts.slots) w.collector.fields (length w.collector.newer) op) (balanced : Balanced ls w) where
  abbrev q : collectors.Private
  q = step_of w.collector (cell (cells_of w) op) (box w (looked_at w.collector.phase))

  abbrev v : Core
  v = turned_by w op (cell (cells_of w) op)

  open (one_turn w op kept named still) use {s, shown, at_w, at_v}

  placed : (x : Option Batch) → batch_of op q ≡ x → Placed w.collector x q
  placed x is = subst (λ (y : Option Batch). Placed w.collector y q) (sym shown ∙ is) (step_placed (begun w kept) s)

  tried : tried_in w ≤ applied_in w + 1
  tried = tried_near w.epoch w.collector.phase

  ops_puts : (f : ℕ → ℕ → ℕ) → sum_by (puts f) (ops_of w op) ≡ 0
  ops_puts f = none_late (puts f) (ops_of w op) (ops_late op (cell (cells_of w) op)) (late_puts f)

  ops_replaces : (f : ℕ → ℕ → ℕ) → sum_by (replaces f) (ops_of w op) ≡ 0
  ops_replaces f = none_late (replaces f) (ops_of w op) (ops_late op (cell (cells_of w) op)) (late_replaces f)

  -- words of earlier epochs are put by no write since
  put_nothing : (f : ℕ → ℕ → ℕ) → ((place word : ℕ) → epoch_of word ≤ applied_in w → f place word ≡ 0) → sum_by (put_by f) (writes_of w) ≤ sum_by (put_by f) (writes_of v)
  put_nothing f none = (op_keeps w op kept named).writes (put_by f) (λ u below. none u.place u.new (omega (arith, below, tried)))

  -- ---- no batch is applied

  module _ (is : batch_of op q ≡ None) where
    same_epoch : applied_in v ≡ applied_in w
    same_epoch = omega (arith, at_w, at_v, (placed None is).next)

    -- what stands lasts, so no later word comes out
    none_out : (g : ℕ → ℕ → ℕ) → sum_by (takes_out (late (applied_in w) g)) (ops_of w op) ≡ 0
    none_out g =
        let f : ℕ → ℕ → ℕ = late (applied_in w) g in
        let after_it : sum_by (put_late (applied_in w) g) (writes_of v) ≡ sum_at (late (applied_in w) g) v.words + sum_by (replaced_late (applied_in w) g) (writes_of v)
        = subst (λ n. sum_by (put_late n g) (writes_of v) ≡ sum_at (late n g) v.words + sum_by (replaced_late n g) (writes_of v)) same_epoch (still.accounted.late g) in
        omega (
          arith,
          kept.accounted.late g,
          after_it,
          put_nothing f (λ place word up. early_none (applied_in w) g place word up),
          op_less w op kept named (replaced_late (applied_in w) g),
          op_weighs w op (length w.collector.counts.slots) w.collector.fields (length w.collector.newer) names f (late_null (applied_in w) g),
        )
      where
        early_none : (a : ℕ) (g : ℕ → ℕ → ℕ) (place word : ℕ) → epoch_of word ≤ a → late a g place word ≡ 0
        early_none a g place word up = grind (arith, nat_tests)

    quiet_turn : Balanced (ls ++ ops_of w op) v
    quiet_turn = subst (λ n. BalancedAt n (ls ++ ops_of w op) v) (sym same_epoch) (record {
      stands = λ g.
          let f : ℕ → ℕ → ℕ = early (applied_in w) g in
          omega (
            arith,
            balanced.stands g,
            sum_by-append (takes_out f) ls (ops_of w op),
            sum_by-append (replaces f) ls (ops_of w op),
            sum_by-append (puts f) ls (ops_of w op),
            ops_replaces f,
            op_less w op kept named (after (applied_in w) (replaced_by f)),
            op_weighs w op (length w.collector.counts.slots) w.collector.fields (length w.collector.newer) names f (null_early (applied_in w) g),
          );
      near = λ g.
          let f : ℕ → ℕ → ℕ = late (applied_in w) g in
          omega (arith, balanced.near g, sum_by-append (replaces f) ls (ops_of w op), ops_replaces f, ap (sum_by (wrote (replaced_by f))) (placed None is).last);
      gone = λ g. omega (arith, balanced.gone g, sum_by-append (takes_out (late (applied_in w) g)) ls (ops_of w op), none_out g);
    })

  -- ---- a batch is applied

  module _ (x : Batch) (is : batch_of op q ≡ Some x) where
    next_epoch : applied_in v ≡ applied_in w + 1
    next_epoch = (let its : IsBatchOf w.collector x = step_batch (begun w kept) (none_crossed w op kept named) s x (sym shown ∙ is) in omega (arith, at_w, at_v, (placed (Some x) is).next, its.next))

    last_is : last_batch v.collector ≡ x.newer
    last_is = (placed (Some x) is).last

    abbrev behind : List Line
    behind = (ls ++ batch_lines (Some x)) ++ ops_of w op

    newer_weigh : (h : Write → ℕ) → sum_by (in_epoch (applied_in w + 1) h) (writes_of v) ≡ sum_by (wrote h) x.newer
    newer_weigh h = ap (λ n. sum_by (in_epoch n h) (writes_of v)) (sym next_epoch) ∙ last_weighs v h still ∙ ap (sum_by (wrote h)) last_is

    -- what writes replaced since the batch, and in it
    since : (h : Write → ℕ) → sum_by (after (applied_in w + 1) h) (writes_of v) + sum_by (wrote h) x.newer ≤ sum_by (after (applied_in w) h) (writes_of w)
    since h = omega (arith, newer_weigh h, both_less (after (applied_in w + 1) h) (in_epoch (applied_in w + 1) h) (after (applied_in w) h) (writes_of v) (λ u. parts (applied_in w) (epoch_of u.new) (h u)), op_less w op kept named (after (applied_in w) h))
      where
        parts : (a e n : ℕ) → only_if (nat_lt (a + 1) e) n + only_if (e == a + 1) n ≤ only_if (nat_lt a e) n
        parts a e n = grind (arith, nat_tests)

    lines_put : (f : ℕ → ℕ → ℕ) → sum_by (puts f) behind ≡ sum_by (puts f) ls + sum_by (wrote (put_by f)) x.newer
    lines_put f = omega (arith, sum_by-append (puts f) (ls ++ batch_lines (Some x)) (ops_of w op), sum_by-append (puts f) ls (batch_lines (Some x)), batch_puts f x, ops_puts f)

    lines_replace : (f : ℕ → ℕ → ℕ) → sum_by (replaces f) behind ≡ sum_by (replaces f) ls + sum_by (wrote (replaced_by f)) x.newer
    lines_replace f = omega (arith, sum_by-append (replaces f) (ls ++ batch_lines (Some x)) (ops_of w op), sum_by-append (replaces f) ls (batch_lines (Some x)), batch_replaces f x, ops_replaces f)

    lines_take : (f : ℕ → ℕ → ℕ) → sum_by (takes_out f) behind ≡ sum_by (takes_out f) ls
    lines_take f = omega (
      arith,
      sum_by-append (takes_out f) (ls ++ batch_lines (Some x)) (ops_of w op),
      sum_by-append (takes_out f) ls (batch_lines (Some x)),
      batch_takes f x,
      ap (sum_by (takes_out f)) (batch_plain op (cell (cells_of w) op) q x is),
    )

    words_less : (f : ℕ → ℕ → ℕ) → ((place : ℕ) → f place 0 ≡ 0) → sum_at f v.words ≤ sum_at f w.words
    words_less f null = omega (arith, op_weighs w op (length w.collector.counts.slots) w.collector.fields (length w.collector.newer) names f null)

    -- of what was told before
    of_earlier : (g : ℕ → ℕ → ℕ) → (let f : ℕ → ℕ → ℕ = early (applied_in w) g in
        sum_at f v.words + (sum_by (after (applied_in w + 1) (replaced_by f)) (writes_of v) + (sum_by (takes_out f) behind + sum_by (replaces f) behind)) ≤ sum_by (puts f) behind)
    of_earlier g =
        let f : ℕ → ℕ → ℕ = early (applied_in w) g in
        omega (arith, balanced.stands g, since (replaced_by f), lines_put f, lines_replace f, lines_take f, words_less f (null_early (applied_in w) g))

    -- of what the batch tells
    of_batch : (g : ℕ → ℕ → ℕ) → (let f : ℕ → ℕ → ℕ = at_epoch (applied_in w + 1) g in
        sum_at f v.words + (sum_by (after (applied_in w + 1) (replaced_by f)) (writes_of v) + (sum_by (takes_out f) behind + sum_by (replaces f) behind)) ≤ sum_by (puts f) behind)
    of_batch g =
        let a : ℕ = applied_in w in
        let f : ℕ → ℕ → ℕ = at_epoch (applied_in w + 1) g in
        let stood : sum_at (late (applied_in w) f) w.words ≡ sum_at f w.words = sum_at_same (late (applied_in w) f) f w.words (at_is_late (applied_in w) g) in
        let were : sum_by (put_late (applied_in w) f) (writes_of w) ≡ sum_by (put_by f) (writes_of w) = sum_by_same (put_late (applied_in w) f) (put_by f) (writes_of w) (λ u. at_is_late (applied_in w) g u.place u.new) in
        let put : sum_by (put_by f) (writes_of w) ≤ sum_by (wrote (put_by f)) x.newer
        = omega (arith, put_nothing f (λ place word up. at_none (applied_in w) g place word up), last_sum v (put_by f) still (λ u other. other_none (applied_in w) g u.place u.new (λ same. other (same ∙ sym next_epoch))), ap (sum_by (wrote (put_by f))) last_is) in
        let told : sum_by (replaces f) ls ≤ sum_by (wrote (replaced_by f)) (last_batch w.collector)
        = omega (
          arith,
          balanced.near f,
          sum_by_same (replaces (late (applied_in w) f)) (replaces f) ls (λ l. ap (only_if (is_put_in l)) (at_is_late (applied_in w) g (number_in 1 l) (number_in 3 l))),
          row_same (replaced_by (late (applied_in w) f)) (replaced_by f) (last_batch w.collector) (λ place new old c. at_is_late (applied_in w) g place old),
        ) in
        let out : sum_by (takes_out f) ls ≡ 0
        = omega (arith, balanced.gone f, sum_by_same (takes_out (late (applied_in w) f)) (takes_out f) ls (λ l. ap (only_if (is_out_in l)) (at_is_late (applied_in w) g (number_in 0 l) (number_in 1 l)))) in
        let replaced : sum_by (wrote (replaced_by f)) (last_batch w.collector) + sum_by (after (applied_in w) (replaced_by f)) (writes_of w) ≤ sum_by (replaced_late (applied_in w) f) (writes_of w)
        = omega (arith, last_weighs w (replaced_by f) kept, both_less (in_epoch (applied_in w) (replaced_by f)) (after (applied_in w) (replaced_by f)) (replaced_late (applied_in w) f) (writes_of w) (λ u. from_epoch (applied_in w) (epoch_of u.new) (f u.place u.old) (late (applied_in w) f u.place u.old) (at_is_late (applied_in w) g u.place u.old))) in
        omega (arith, kept.accounted.late f, stood, were, put, told, out, replaced, since (replaced_by f), lines_put f, lines_replace f, lines_take f, words_less f (λ place. refl))
      where
        at_none : (a : ℕ) (g : ℕ → ℕ → ℕ) (place word : ℕ) → epoch_of word ≤ a → at_epoch (a + 1) g place word ≡ 0
        at_none a g place word up = grind (arith, nat_tests)

        other_none : (a : ℕ) (g : ℕ → ℕ → ℕ) (place word : ℕ) → epoch_of word ≢ a + 1 → at_epoch (a + 1) g place word ≡ 0
        other_none a g place word other = grind (arith, nat_tests)

        from_epoch : (a e n m : ℕ) → m ≡ n → only_if (e == a) n + only_if (nat_lt a e) n ≤ only_if (nat_le a e) m
        from_epoch a e n m same = grind (arith, nat_tests)

    batch_turn : Balanced behind v
    batch_turn = subst (λ n. BalancedAt n behind v) (sym next_epoch) (record {
      stands = λ g.
          let a : ℕ = applied_in w in
          let e : ℕ → ℕ → ℕ = early (applied_in w) g in
          let f : ℕ → ℕ → ℕ = at_epoch (applied_in w + 1) g in
          let whole : ℕ → ℕ → ℕ = early (applied_in w + 1) g in
          omega (
            arith,
            of_earlier g,
            of_batch g,
            sum_at_split whole e f v.words (split_early (applied_in w) g),
            both_more (after (applied_in w + 1) (replaced_by e)) (after (applied_in w + 1) (replaced_by f)) (after (applied_in w + 1) (replaced_by whole)) (writes_of v) (λ u. under (nat_lt (applied_in w + 1) (epoch_of u.new)) _ _ _ (split_early (applied_in w) g u.place u.old)),
            both_more (takes_out e) (takes_out f) (takes_out whole) behind (λ l. under (is_out_in l) _ _ _ (split_early (applied_in w) g (number_in 0 l) (number_in 1 l))),
            both_more (replaces e) (replaces f) (replaces whole) behind (λ l. under (is_put_in l) _ _ _ (split_early (applied_in w) g (number_in 1 l) (number_in 3 l))),
            both_less (puts e) (puts f) (puts whole) behind (λ l. over (is_put_in l) _ _ _ (split_early (applied_in w) g (number_in 1 l) (number_in 2 l))),
          );
      near = λ g.
          let f : ℕ → ℕ → ℕ = late (applied_in w + 1) g in
          let none : sum_by (replaces f) ls ≡ 0
          = omega (
            arith,
            balanced.near f,
            sum_by_same (replaces (late (applied_in w) f)) (replaces f) ls (λ l. ap (only_if (is_put_in l)) (late_later (applied_in w) g (number_in 1 l) (number_in 3 l))),
            row_same (replaced_by (late (applied_in w) f)) (λ u. 0) (last_batch w.collector) (λ place new old c. late_later (applied_in w) g place old ∙ near_none (applied_in w) g place old (last_near w place new old kept c)),
            no_weight (last_batch w.collector),
          ) in
          omega (arith, none, lines_replace f, ap (sum_by (wrote (replaced_by f))) last_is);
      gone = λ g.
          let f : ℕ → ℕ → ℕ = late (applied_in w + 1) g in
          omega (arith, balanced.gone f, sum_by_same (takes_out (late (applied_in w) f)) (takes_out f) ls (λ l. ap (only_if (is_out_in l)) (late_later (applied_in w) g (number_in 0 l) (number_in 1 l))), lines_take f);
    })
      where
        under : (b : Bool) (m n k : ℕ) → m ≡ n + k → only_if b m ≤ only_if b n + only_if b k
        under true m n k is = omega (arith, is)
        under false m n k is = omega arith

        over : (b : Bool) (m n k : ℕ) → m ≡ n + k → only_if b n + only_if b k ≤ only_if b m
        over true m n k is = omega (arith, is)
        over false m n k is = omega arith

        near_none : (a : ℕ) (g : ℕ → ℕ → ℕ) (place old : ℕ) → epoch_of old ≤ a + 1 → late (a + 1) g place old ≡ 0
        near_none a g place old up = grind (arith, nat_tests)

  -- what the lines of a turn leave
  pub turned_balance : Balanced ((ls ++ batch_lines (batch_of op q)) ++ ops_of w op) v
  turned_balance = go (batch_of op q) refl
    where
      go : (x : Option Batch) → batch_of op q ≡ x → Balanced ((ls ++ batch_lines x) ++ ops_of w op) v
      go None is = subst (λ ts. Balanced (ts ++ ops_of w op) v) (sym (append-nil ls)) (quiet_turn is)
      go (Some x) is = batch_turn x is
