-- What a run's journal has put comes to what stands in its heap, what was replaced, and what was taken out: of each word that leads
-- somewhere and was put up to the epoch of the last batch.
use Rattle.std.proofs.Common.{◌≡◌, inl, inr, ℕ, zero, suc, ◌+◌, ◌<◌, ◌≤◌, ◌==◌, ◌||◌, if◌then◌else◌, nat_lt, nat_le, Bool, true, false, Some, List, [], ◌∷◌, map, slice_index_or, slice_set, refl, sym, ap, ◌∙◌, arith}
use Rattle.std.specs.List.{enumerate_from, flat_map, sum_by}
use Rattle.std.proofs.lemmas.Bool.{eqb-true}
use Rattle.std.proofs.lemmas.Bool.Decides.{nat_tests}
use Rattle.std.proofs.lemmas.List.{set-get_or}
use Rattle.std.proofs.lemmas.List.Sums.{sum_by-append, sum_by-cons}
use Rattle.rec_core.proofs.Common.{only_if, epoch_of, sum_at, Write, Contents, Entry, Private, is_busy, next_of, whole_made, Op, cell, with_cell, IsMutator, Core, cells_of, mutator, box, IsKept, found_by, stepped, turned_by, writes_in}
use Rattle.rec_word.specs.Op.{written}
use Rattle.rec_word.specs.declared.op.Op.TheVariants as ops
use Rattle.rec_log.specs.declared.entry.Entry.TheVariants as entries
use Rattle.rec_model.specs.Accounted.{late}
use Rattle.rec_model.proofs.Ledgers.{epoch_of_null}
use Rattle.rec_mutator.specs.Causes.{gives_back}
use Rattle.rec_mutator.specs.Next.{next_at}
use Rattle.rec_mutator.specs.declared.phase.Phase as phases
use Rattle.rec_mutator.specs.declared.phase.Phase.TheVariants as at
use Rattle.rec_collector.specs.Shown.{Batch}
use Rattle.rec_collector.specs.Step.{NamesWord}
use Rattle.rec_core.specs.Pending.{epoch_at, is_parting, writes_of}
use Rattle.rec_core.proofs.Actors.{busy_stays}
use Rattle.rec_audit.proofs.Lasting.{step_logs, step_sums, wrote}
use Rattle.rec_core.proofs.Steps.{actor_of}
use Rattle.rec_audit.specs.Form.{number}
use Rattle.rec_audit.specs.Graph.{has_target, is_out, is_put}
use Rattle.rec_audit.specs.Journal.{batch_lines, entry_line, line_of, op_lines, part_lines, snap_line}
use Rattle.rec_audit.specs.Lines.{Line}
use Rattle.rec_audit.specs.Logged.{last_batch}
use Rattle.rec_audit.specs.declared.kind.Kind.TheVariants as kinds
use Rattle.rec_audit.proofs.Blocks.{Each, is_late, late_plain}
use Rattle.rec_audit.proofs.Forming.{part}
use Rattle.rec_audit.proofs.Journalled.{applied_in, held_later}

-- ---- weights of words

-- a weight of words, for those that lead somewhere and were put up to this epoch
abbrev pub early : (epoch : ℕ) → (weight : ℕ → ℕ → ℕ) → (place word : ℕ) → ℕ
early epoch weight place word = only_if (has_target word) (only_if (nat_le (epoch_of word) epoch) (weight place word))

-- of the word that a write put, and of the one that it replaced
abbrev pub put_by : (weight : ℕ → ℕ → ℕ) → Write → ℕ
put_by weight x = weight x.place x.new

abbrev pub replaced_by : (weight : ℕ → ℕ → ℕ) → Write → ℕ
replaced_by weight x = weight x.place x.old

-- a weight of writes, for those after this epoch
abbrev pub after : (epoch : ℕ) → (Write → ℕ) → Write → ℕ
after epoch weight x = only_if (nat_lt epoch (epoch_of x.new)) (weight x)

-- of the word that a line puts, of the one that it replaces, and of the one that it takes out
abbrev pub puts : (weight : ℕ → ℕ → ℕ) → Line → ℕ
puts weight l = only_if (is_put l.kind) (weight (number 1 l) (number 2 l))

abbrev pub replaces : (weight : ℕ → ℕ → ℕ) → Line → ℕ
replaces weight l = only_if (is_put l.kind) (weight (number 1 l) (number 3 l))

abbrev pub takes_out : (weight : ℕ → ℕ → ℕ) → Line → ℕ
takes_out weight l = only_if (is_out l.kind) (weight (number 0 l) (number 1 l))

-- What the lines tell of words, and what the heap has of them, at this epoch of its last batch.
pub record BalancedAt (epoch : ℕ) (lines : List Line) (w : Core) : Type 0 where
  -- a word stands once at most for each time that a line put it
  pub stands : (weight : ℕ → ℕ → ℕ)
      → sum_at (early epoch weight) w.words + (sum_by (after epoch (replaced_by (early epoch weight))) (writes_of w) + (sum_by (takes_out (early epoch weight)) lines + sum_by (replaces (early epoch weight)) lines))
      ≤ sum_by (puts (early epoch weight)) lines
  -- a later word was replaced by writes of the last batch alone
  pub near : (weight : ℕ → ℕ → ℕ) → sum_by (replaces (late epoch weight)) lines ≤ sum_by (wrote (replaced_by (late epoch weight))) (last_batch w.collector)
  -- and none was taken out
  pub gone : (weight : ℕ → ℕ → ℕ) → sum_by (takes_out (late epoch weight)) lines ≡ 0

abbrev pub Balanced : List Line → Core → Type 0
Balanced lines w = BalancedAt (applied_in w) lines w

pub late_null : (epoch : ℕ) (weight : ℕ → ℕ → ℕ) (place : ℕ) → late epoch weight place 0 ≡ 0
late_null epoch weight place = (let none : epoch_of 0 ≡ 0 = epoch_of_null in grind (arith, nat_tests))

-- ---- lists

-- a word is replaced in a list of words by one that weighs nothing
set_less : (f : ℕ → ℕ → ℕ) (xs : List ℕ) (p y : ℕ) → f p y ≡ 0 → f p 0 ≡ 0 → sum_at f (slice_set xs p y) + f p (slice_index_or xs p 0) ≤ sum_at f xs
set_less f [] p y none null = omega (arith, null)
set_less f (x ∷ xs) zero y none null = omega (arith, none)
set_less f (x ∷ xs) (suc p) y none null = (let more = set_less (λ i. f (suc i)) xs p y none null in omega (arith, more))

-- two weights together come to a third one
pub both_less : {X : Type 0} (f g h : X → ℕ) (xs : List X) → ((x : X) → f x + g x ≤ h x) → sum_by f xs + sum_by g xs ≤ sum_by h xs
both_less f g h [] all = omega arith
both_less f g h (x ∷ xs) all = omega (arith, all x, sum_by-cons f x xs, sum_by-cons g x xs, sum_by-cons h x xs, both_less f g h xs all)

pub both_more : {X : Type 0} (f g h : X → ℕ) (xs : List X) → ((x : X) → h x ≤ f x + g x) → sum_by h xs ≤ sum_by f xs + sum_by g xs
both_more f g h [] all = omega arith
both_more f g h (x ∷ xs) all = omega (arith, all x, sum_by-cons f x xs, sum_by-cons g x xs, sum_by-cons h x xs, both_more f g h xs all)

-- what such lines don't weigh
pub none_late : (h : Line → ℕ) (more : List Line) → Each is_late more → ((l : Line) → is_late l.kind ≡ true → h l ≡ 0) → sum_by h more ≡ 0
none_late h [] each none = refl
none_late h (l ∷ more) each none = omega (arith, sum_by-cons h l more, none l each.0, none_late h more each.1 none)

pub late_puts : (weight : ℕ → ℕ → ℕ) (l : Line) → is_late l.kind ≡ true → puts weight l ≡ 0
late_puts weight l is = ap (λ b. only_if b (weight (number 1 l) (number 2 l))) (late_plain l.kind is).2

pub late_replaces : (weight : ℕ → ℕ → ℕ) (l : Line) → is_late l.kind ≡ true → replaces weight l ≡ 0
late_replaces weight l is = ap (λ b. only_if b (weight (number 1 l) (number 3 l))) (late_plain l.kind is).2

-- ---- the lines of a batch

entries_weigh : (f : Line → ℕ) (h : Write → ℕ) (t : ℕ) → ((place new old : ℕ) → f (entry_line t (entries.Put place new old)) ≡ h (record { place = place; new = new; old = old }))
    → ((slot : ℕ) (leaf : Bool) → f (entry_line t (entries.Born slot leaf)) ≡ 0) → (es : List Entry) → sum_by f (map (entry_line t) es) ≡ sum_by h (writes_in es)
entries_weigh f h t put born [] = refl
entries_weigh f h t put born (entries.Put p n o ∷ es) =
    omega (arith, sum_by-cons f (entry_line t (entries.Put p n o)) (map (entry_line t) es), sum_by-cons h (record { place = p; new = n; old = o }) (writes_in es), put p n o, entries_weigh f h t put born es)
entries_weigh f h t put born (entries.Born s l ∷ es) = omega (arith, sum_by-cons f (entry_line t (entries.Born s l)) (map (entry_line t) es), born s l, entries_weigh f h t put born es)

pub rows_weigh : (f : Line → ℕ) (h : Write → ℕ) → ((t place new old : ℕ) → f (entry_line t (entries.Put place new old)) ≡ h (record { place = place; new = new; old = old }))
    → ((t slot : ℕ) (leaf : Bool) → f (entry_line t (entries.Born slot leaf)) ≡ 0) → ((l : Line) → l.kind ≡ kinds.Snap → f l ≡ 0) → (n : ℕ) (row : List Contents) → sum_by f (flat_map part (enumerate_from n row)) ≡ sum_by (wrote h) row
rows_weigh f h put born snap n [] = refl
rows_weigh f h put born snap n (b ∷ row) = omega (
  arith,
  sum_by-append f (part_lines n b) (flat_map part (enumerate_from (n + 1) row)),
  sum_by-append f (map (entry_line n) b.entries) (snap_line n b.snapshot ∷ []),
  sum_by-cons f (snap_line n b.snapshot) [],
  snap (snap_line n b.snapshot) refl,
  entries_weigh f h n (put n) (born n) b.entries,
  sum_by-cons (wrote h) b row,
  rows_weigh f h put born snap (n + 1) row,
)

pub batch_puts : (weight : ℕ → ℕ → ℕ) (x : Batch) → sum_by (puts weight) (batch_lines (Some x)) ≡ sum_by (wrote (put_by weight)) x.newer
batch_puts weight x = omega (
  arith,
  sum_by-cons (puts weight) (line_of kinds.Epoch (x.epoch ∷ [])) (flat_map part (enumerate_from 1 x.newer)),
  rows_weigh (puts weight) (put_by weight) (λ t place new old. refl) (λ t slot leaf. refl) (λ l is. ap (λ k. only_if (is_put k) (weight (number 1 l) (number 2 l))) is) 1 x.newer,
)

pub batch_replaces : (weight : ℕ → ℕ → ℕ) (x : Batch) → sum_by (replaces weight) (batch_lines (Some x)) ≡ sum_by (wrote (replaced_by weight)) x.newer
batch_replaces weight x = omega (
  arith,
  sum_by-cons (replaces weight) (line_of kinds.Epoch (x.epoch ∷ [])) (flat_map part (enumerate_from 1 x.newer)),
  rows_weigh (replaces weight) (replaced_by weight) (λ t place new old. refl) (λ t slot leaf. refl) (λ l is. ap (λ k. only_if (is_put k) (weight (number 1 l) (number 3 l))) is) 1 x.newer,
)

pub batch_takes : (weight : ℕ → ℕ → ℕ) (x : Batch) → sum_by (takes_out weight) (batch_lines (Some x)) ≡ 0
batch_takes weight x = omega (
  arith,
  sum_by-cons (takes_out weight) (line_of kinds.Epoch (x.epoch ∷ [])) (flat_map part (enumerate_from 1 x.newer)),
  rows_weigh (takes_out weight) (λ u. 0) (λ t place new old. refl) (λ t slot leaf. refl) (λ l is. ap (λ k. only_if (is_out k) (weight (number 0 l) (number 1 l))) is) 1 x.newer,
  nothing x.newer,
)
  where
    nothing_in : (us : List Write) → sum_by (λ (u : Write). 0) us ≡ 0
    nothing_in [] = refl
    nothing_in (u ∷ us) = omega (arith, sum_by-cons (λ (v : Write). 0) u us, nothing_in us)

    nothing : (row : List Contents) → sum_by (wrote (λ u. 0)) row ≡ 0
    nothing [] = refl
    nothing (c ∷ row) = omega (arith, sum_by-cons (wrote (λ u. 0)) c row, nothing_in (writes_in c.entries), nothing row)

-- ---- a step of a mutator

stores : (p : Private) (phase : phases.Phase) (place new : ℕ) → next_at p phase ≡ ops.SwapField place new → (is_parting phase ≡ false) × (gives_back phase ≡ false)
unfolding next_at
stores p at.Giving place new is = absurd (cc)
stores p at.Parting place new is = absurd (cc)
stores p _ place new is = (refl, refl)

module _ (w : Core) (t : ℕ) (kept : IsKept true w) (is : IsMutator w.config t) (busy : is_busy (mutator w t) ≡ true) where
  put_later : (place new : ℕ) → next_of (mutator w t) ≡ ops.SwapField place new → applied_in w < (mutator w t).epoch
  unfolding next_of
  put_later place new op =
      let p : Private = mutator w t in
      let at_stores = stores p p.phase place new op in
      let here : epoch_at p ≡ p.epoch = ap (λ b. if b then p.epoch + 1 else p.epoch) at_stores.1 in
      omega (arith, here, held_later w t kept is (let stays : p.left ≡ false = busy_stays (actor_of w t kept is).own busy in ap (λ b. b || p.left) at_stores.0 ∙ stays))

  -- words and writes together gain nothing of what a new word doesn't weigh
  pub step_weighs : (f : ℕ → ℕ → ℕ) (h : Write → ℕ) → ((place : ℕ) → f place 0 ≡ 0)
      → ((place new old : ℕ) → applied_in w < epoch_of new → (f place new ≡ 0) × (h (record { place = place; new = new; old = old }) ≤ f place old))
      → sum_at f (stepped w t).words + sum_by h (writes_of (stepped w t)) ≤ sum_at f w.words + sum_by h (writes_of w)
  step_weighs f h null weighs =
      let actor = actor_of w t kept is in
      let whole = whole_made (mutator w t) (found_by w t) (box w t) busy actor.own.between in
      elim (step_logs actor.own.dates actor.own.machine whole.own whole.mailbox) [
        | inl plain ↦ omega (arith, step_sums w t kept is busy h, plain.same h, ap (sum_at f) (plain.words (cells_of w) refl))
        | inr put ↦
            let found : found_by w t ≡ slice_index_or w.words put.place 0 = ap (cell (cells_of w)) put.operation in
            let past : applied_in w < epoch_of put.new = omega (arith, put.stamp, put_later put.place put.new put.operation) in
            let both = weighs put.place put.new (found_by w t) past in
            let words : (stepped w t).words ≡ slice_set w.words put.place put.new = ap (λ (o : Op). (with_cell (cells_of w) o (written o (found_by w t))).words) put.operation in
            omega (arith, step_sums w t kept is busy h, put.more h, both.1, ap (f put.place) found, ap (sum_at f) words, set_less f w.words put.place put.new both.0 (null put.place))
      ]

-- ---- an operation of the collector

taken_weighs : (f : ℕ → ℕ → ℕ) (place word : ℕ) → f place 0 ≡ 0 → sum_by (takes_out f) (op_lines (ops.ClearField place) word) ≡ f place word
taken_weighs f place word null = go (word == 0) refl
  where
    go : (b : Bool) → word == 0 ≡ b → sum_by (takes_out f) (if b then [] else line_of kinds.Out (place ∷ word ∷ []) ∷ []) ≡ f place word
    go true is = sym (ap (f place) (eqb-true word 0 is) ∙ null)
    go false is = omega (arith, sum_by-cons (takes_out f) (line_of kinds.Out (place ∷ word ∷ [])) [])

-- words lose what comes out
pub op_weighs : (w : Core) (op : Op) (slots fields mutators : ℕ) → NamesWord slots fields mutators op → (f : ℕ → ℕ → ℕ) → ((place : ℕ) → f place 0 ≡ 0)
    → sum_at f (turned_by w op (cell (cells_of w) op)).words + sum_by (takes_out f) (op_lines op (cell (cells_of w) op)) ≤ sum_at f w.words
op_weighs w (ops.ClearField place) slots fields mutators names f null =
    omega (arith, set_less f w.words place 0 (null place) (null place), taken_weighs f place (slice_index_or w.words place 0) (null place))
op_weighs w (ops.LoadChild place) slots fields mutators names f null = omega (arith, ap (sum_at f) (set-get_or w.words place 0))
op_weighs w (ops.StoreEpoch e) slots fields mutators names f null = omega arith
op_weighs w (ops.LookBox t e) slots fields mutators names f null = omega arith
op_weighs w (ops.ReturnBox t e) slots fields mutators names f null = omega arith
op_weighs w (ops.FreeHeader slot) slots fields mutators names f null = omega (arith, sum_by-cons (takes_out f) (line_of kinds.Sweep (slot ∷ [])) [])
op_weighs w ops.AddFreed slots fields mutators names f null = omega arith
op_weighs w _ slots fields mutators names f null = absurd names
