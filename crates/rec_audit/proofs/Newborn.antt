-- Each birth that no batch has told yet stands in a log, in a mailbox or in a buffer that was gathered, until a batch tells it.
use Rattle.std.proofs.Common.{◌≡◌, ◌≢◌, ◌⊎◌, inl, inr, ℕ, zero, suc, ◌-◌, ◌<◌, ◌==◌, Bool, true, false, Option, List, [], ◌∷◌, ◌++◌, length, slice_index_or, slice_set, refl, sym, ap, subst, ◌∙◌, arith}
use Rattle.rec_core.specs.Pending.{has_batched}
use Rattle.std.specs.List.{Contains}
use Rattle.std.proofs.lemmas.Bool.{cases_eq, cond-false, ne_eqb}
use Rattle.std.proofs.lemmas.List.{get_or-set_other, get_or-set_same, set-get_or}
use Rattle.std.proofs.lemmas.List.Elements.{Contains-append_cases, Contains-append_left, Contains-append_right}
use Rattle.rec_core.proofs.Common.{header_word, Op, Contents, Entry, Private, is_busy, next_of, Step, Decides, GoesOn, LeavesBox, left_of, took_of, whole_made, probe_of, blank, buffer_at, Cells, cell, with_cell, IsMutator, Core, cells_of, mutator, box, nobody, IsKept, found_by, stepped}
use Rattle.rec_word.specs.Op.{written}
use Rattle.rec_word.specs.declared.op.Op.TheVariants as ops
use Rattle.rec_log.specs.declared.entry.Entry.TheVariants as entries
use Rattle.rec_model.specs.declared.command.Cmd.{Cmd}
use Rattle.rec_model.specs.declared.told.Told.{Told}
use Rattle.rec_mutator.specs.Step.{TakesBox}
use Rattle.rec_mutator.specs.Took.{step_of}
use Rattle.rec_mutator.specs.declared.phase.Phase as phases
use Rattle.rec_mutator.specs.declared.phase.Phase.TheVariants as at
use Rattle.rec_core.proofs.Crossings.{behind_of}
use Rattle.rec_core.proofs.Leaving.{leaving_of}
use Rattle.rec_core.proofs.Steps.{actor_of, in_list}

-- the birth in a slot is still to be told by a batch
pub data IsUntold (w : Core) (slot : ℕ) : Type 0 where
  in_log : (t : ℕ) (leaf : Bool) → IsMutator w.config t → Contains (mutator w t).log.entries (entries.Born slot leaf) → IsUntold w slot
  in_box : (t : ℕ) (leaf : Bool) → IsMutator w.config t → Contains (box w t).entries (entries.Born slot leaf) → IsUntold w slot
  gathered : (t : ℕ) (leaf : Bool) → IsMutator w.config t → has_batched w.collector.phase ≡ false → Contains (buffer_at w.collector.newer (t - 1)).entries (entries.Born slot leaf) → IsUntold w slot

pub none_in : (e : Entry) (es : List Entry) → es ≡ [] → Contains es e → ⊥
none_in e es none c = let below : c.1 ≡ c.1 = refl in absurd (omega (arith, c.1, ap (length {A = Entry}) none))

-- the one element that is there
only_one : (x y : Entry) → Contains (x ∷ []) y → x ≡ y
only_one x y (zero, below, there) = there
only_one x y (suc k, below, there) = absurd (omega arith)

-- ---- the steps of a mutator

-- what is taken after an operation was taken before
abbrev KeepsHeaders : (word : ℕ) → Op → Type 0
KeepsHeaders word op = (cells : Cells) → cell cells op ≡ word → (s : ℕ) → 0 < slice_index_or (with_cell cells op (written op word)).headers s 0 → 0 < slice_index_or cells.headers s 0

-- or it is the slot that was claimed
abbrev ClaimsSlot : (word : ℕ) → Op → (slot : ℕ) → Type 0
ClaimsSlot word op slot = (cells : Cells) → cell cells op ≡ word → (s : ℕ) → 0 < slice_index_or (with_cell cells op (written op word)).headers s 0 → (0 < slice_index_or cells.headers s 0) ⊎ (s ≡ slot)

-- the slot was free
abbrev FindsFree : (word : ℕ) → Op → (slot : ℕ) → Type 0
FindsFree word op slot = (cells : Cells) → cell cells op ≡ word → slice_index_or cells.headers slot 0 ≡ 0

-- A step keeps log and mailbox, adds an entry to the log, or moves the log into the mailbox.
data MovesLog (p q : Private) (word : ℕ) (op : Op) (b left : Contents) : Type 0 where
  keeps : q.log.entries ≡ p.log.entries → left.entries ≡ b.entries → KeepsHeaders word op → MovesLog p q word op b left
  writes : (place new old : ℕ) → q.log.entries ≡ p.log.entries ++ entries.Put place new old ∷ [] → left.entries ≡ b.entries → KeepsHeaders word op → MovesLog p q word op b left
  bears : (slot : ℕ) (leaf : Bool) → q.log.entries ≡ p.log.entries ++ entries.Born slot leaf ∷ [] → left.entries ≡ b.entries → ClaimsSlot word op slot → FindsFree word op slot → MovesLog p q word op b left
  retires : b.entries ≡ [] → left.entries ≡ p.log.entries → q.log.entries ≡ b.entries → KeepsHeaders word op → MovesLog p q word op b left

load_headers : (word slot : ℕ) → KeepsHeaders word (ops.LoadHeader slot)
load_headers word slot cells is s some = subst (λ hs. 0 < slice_index_or hs s 0) (ap (slice_set cells.headers slot) (sym is) ∙ set-get_or cells.headers slot 0) some

-- a claim that found the slot taken
lost_headers : (word slot header : ℕ) → word ≢ 0 → KeepsHeaders word (ops.ClaimHeader slot header)
lost_headers word slot header other cells is s some =
    let stays : written (ops.ClaimHeader slot header) word ≡ word = cond-false (word == 0) header word (ne_eqb word 0 other) in
    subst (λ hs. 0 < slice_index_or hs s 0) (ap (slice_set cells.headers slot) (stays ∙ sym is) ∙ set-get_or cells.headers slot 0) some

claimed_headers : (word slot header : ℕ) → ClaimsSlot word (ops.ClaimHeader slot header) slot
claimed_headers word slot header cells is s some = elim (cases_eq s slot) [
  | inl same ↦ inr same
  | inr other ↦ inl (subst (λ n. 0 < n) (get_or-set_other cells.headers slot s (written (ops.ClaimHeader slot header) word) 0 other) some)
]

stays_there : {p : Private} {b left : Contents} → LeavesBox p b left → (TakesBox p.phase → ⊥) → left.entries ≡ b.entries
stays_there (LeavesBox.retires phase is) other = absurd (other (subst TakesBox (sym phase) tt))
stays_there (LeavesBox.lets_go phase is) other = absurd (other (subst TakesBox (sym phase) tt))
stays_there (LeavesBox.keeps phase is) other = ap (λ (x : Contents). x.entries) is

goes_there : {p : Private} {b left : Contents} → LeavesBox p b left → TakesBox p.phase → left.entries ≡ p.log.entries
goes_there (LeavesBox.retires phase is) takes = ap (λ (x : Contents). x.entries) is
goes_there (LeavesBox.lets_go phase is) takes = ap (λ (x : Contents). x.entries) is
goes_there (LeavesBox.keeps other is) takes = absurd (other takes)

module _ {p q : Private} {word : ℕ} {b left : Contents} {op : Op} (leaves : LeavesBox p b left) where
  keeps_as : (its_op : Op) → op ≡ its_op → KeepsHeaders word its_op → (TakesBox p.phase → ⊥) → q.log.entries ≡ p.log.entries → MovesLog p q word op b left
  keeps_as its_op is headers other same = MovesLog.keeps same (stays_there leaves other) (subst (KeepsHeaders word) (sym is) headers)

  keeps_decides : {cmd : Cmd} {phase : phases.Phase} {its_op : Op} {registers : List (Option ℕ)} {told : Told} → Decides p op q cmd phase its_op registers p.log.entries told → KeepsHeaders word its_op → (TakesBox phase → ⊥) → MovesLog p q word op b left
  keeps_decides {its_op = its_op} d headers other = keeps_as its_op d.operation headers (λ e. other (subst TakesBox d.phase e)) (ap (λ (x : Private). x.log.entries) d.after)

  keeps_goes : {phase next : phases.Phase} {its_op : Op} → GoesOn p op q phase its_op next → KeepsHeaders word its_op → (TakesBox phase → ⊥) → MovesLog p q word op b left
  keeps_goes {its_op = its_op} d headers other = keeps_as its_op d.operation headers (λ e. other (subst TakesBox d.phase e)) (ap (λ (x : Private). x.log.entries) d.after)

  -- where the mailbox is taken, it was home with a spare
  moves_as : (its_op : Op) → op ≡ its_op → KeepsHeaders word its_op → TakesBox p.phase → b.entries ≡ [] → q.log.entries ≡ b.entries → MovesLog p q word op b left
  moves_as its_op is headers takes none swapped = MovesLog.retires none (goes_there leaves takes) swapped (subst (KeepsHeaders word) (sym is) headers)

step_moves : {p q : Private} {word : ℕ} {b left : Contents} {op : Op} → (TakesBox p.phase → b.entries ≡ []) → Step p word b op q → LeavesBox p b left → MovesLog p q word op b left
step_moves spare (Step.null reg d) l = keeps_decides l d (λ cells e s some. some) (λ e. e)
step_moves spare (Step.copy dst src d) l = keeps_decides l d (λ cells e s some. some) (λ e. e)
step_moves spare (Step.compare x y d) l = keeps_decides l d (λ cells e s some. some) (λ e. e)
step_moves spare (Step.park d) l = keeps_decides l d (λ cells e s some. some) (λ e. e)
step_moves spare (Step.unpark d) l = keeps_decides l d (λ cells e s some. some) (λ e. e)
step_moves spare (Step.get_of_null dst src f none d) l = keeps_decides l d (λ cells e s some. some) (λ e. e)
step_moves spare (Step.get dst src f slot is d) l = keeps_decides l d (λ cells e s some. some) (λ e. e)
step_moves spare (Step.put_of_null src f val none d) l = keeps_decides l d (λ cells e s some. some) (λ e. e)
step_moves spare (Step.put_refused src f val slot is full d) l = keeps_decides l d (λ cells e s some. some) (λ e. e)
step_moves {word = word} spare (Step.put_into_leaf src f val slot is room leaf d) l = keeps_decides l d (load_headers word slot) (λ e. e)
step_moves {word = word} spare (Step.put_begins src f val slot is room unmarked d) l = keeps_goes l d (load_headers word slot) (λ e. e)
step_moves {p} {word = word} spare (Step.put src f val slot d) l = MovesLog.writes _ _ _ (ap (λ (x : Private). x.log.entries) d.after) (stays_there l (subst TakesBox d.phase)) (subst (KeepsHeaders word) (sym d.operation) (λ cells e s some. some))
step_moves spare (Step.value_of_null reg none d) l = keeps_decides l d (λ cells e s some. some) (λ e. e)
step_moves {word = word} spare (Step.value reg slot is d) l = keeps_decides l d (load_headers word slot) (λ e. e)
step_moves spare (Step.new_refused reg label leaf full d) l = keeps_decides l d (λ cells e s some. some) (λ e. e)
step_moves spare (Step.new_begins reg label leaf room d) l = keeps_goes l d (λ cells e s some. some) (λ e. e)
step_moves {p} {word = word} spare (Step.new_wins reg label leaf before probed free d) l =
    MovesLog.bears (probe_of p probed) leaf (ap (λ (x : Private). x.log.entries) d.after) (stays_there l (subst TakesBox d.phase)) (subst (λ o. ClaimsSlot word o (probe_of p probed)) (sym d.operation) (claimed_headers word (probe_of p probed) (header_word leaf label)))
    (subst (λ o. FindsFree word o (probe_of p probed)) (sym d.operation) (λ cells e. e ∙ free))
step_moves {word = word} spare (Step.new_goes_on reg label leaf before probed taken next d) l = keeps_goes l d (lost_headers word _ _ taken) (λ e. e)
step_moves {word = word} spare (Step.new_finds_none reg label leaf before probed taken last d) l = keeps_goes l d (lost_headers word _ _ taken) (λ e. e)
step_moves spare (Step.new_is_full reg label leaf before still d) l = keeps_decides l d (λ cells e s some. some) (λ e. e)
step_moves spare (Step.new_is_busy reg label leaf before swept d) l = keeps_decides l d (λ cells e s some. some) (λ e. e)
step_moves spare (Step.leave_refused uncollected d) l = keeps_decides l d (λ cells e s some. some) (λ e. e)
step_moves spare (Step.leave_begins collected d) l = keeps_goes l d (λ cells e s some. some) (λ e. e)
step_moves spare (Step.leave d) l = (let takes = subst TakesBox (sym d.phase) tt in moves_as l _ d.operation (λ cells e s some. some) takes (spare takes) (ap (λ (x : Private). x.log.entries) d.after))
step_moves spare (Step.leave_ends d) l = keeps_as l _ d.operation (λ cells e s some. some) (subst TakesBox d.phase) (ap (λ (x : Private). x.log.entries) d.after)
step_moves spare (Step.poll_stays own d) l = keeps_goes l d (λ cells e s some. some) (λ e. e)
step_moves spare (Step.poll_crosses other d) l = keeps_goes l d (λ cells e s some. some) (λ e. e)
step_moves spare (Step.take_box d) l = (let takes = subst TakesBox (sym d.phase) tt in moves_as l _ d.operation (λ cells e s some. some) takes (spare takes) (ap (λ (x : Private). x.log.entries) d.after))
step_moves spare (Step.give_box d) l = keeps_as l _ d.operation (λ cells e s some. some) (subst TakesBox d.phase) (ap (λ (x : Private). x.log.entries) d.after)

-- a mailbox that is taken has no entries
spare_taken : {dated : Bool} → (w : Core) (t : ℕ) → IsKept dated w → IsMutator w.config t → TakesBox (mutator w t).phase → (box w t).entries ≡ []
spare_taken w t kept is = go (mutator w t).phase refl
  where
    go : (phase : phases.Phase) → (mutator w t).phase ≡ phase → TakesBox phase → (box w t).entries ≡ []
    go at.Crossing here takes = ap (λ (b : Contents). b.entries) (behind_of w t kept is here).1.spare
    go at.Leaving here takes = ap (λ (b : Contents). b.entries) (leaving_of w t kept is here).0
    go _ here takes = absurd takes

-- one of a row is replaced
abbrev nth : List Contents → ℕ → Contents
nth row i = slice_index_or row i (blank 0 0)

set_own : (row : List Contents) (i : ℕ) (b : Contents) → i < length row → nth (slice_set row i b) i ≡ b
set_own row i b there = get_or-set_same row i b (blank 0 0) there

module _ {dated : Bool} (w : Core) (t : ℕ) (kept : IsKept dated w) (is : IsMutator w.config t) (busy : is_busy (mutator w t) ≡ true) where
  abbrev q : Private
  q = step_of (mutator w t) (found_by w t) (box w t)

  abbrev left : Contents
  left = left_of (took_of (mutator w t) (found_by w t)) (box w t)

  moves : MovesLog (mutator w t) q (found_by w t) (next_of (mutator w t)) (box w t) left
  moves =
      let whole = whole_made (mutator w t) (found_by w t) (box w t) busy (actor_of w t kept is).own.between in
      step_moves (spare_taken w t kept is) whole.own whole.mailbox

  own_log : mutator (stepped w t) t ≡ q
  own_log = get_or-set_same w.mutators (t - 1) q nobody (in_list w t kept is)

  own_box : box (stepped w t) t ≡ left
  own_box = set_own w.boxes (t - 1) left (let many : length w.boxes ≡ w.config.mutators = kept.mutators.mailboxes in omega (arith, is.0, is.1))

  log_of : (slot : ℕ) (leaf : Bool) → Contains q.log.entries (entries.Born slot leaf) → IsUntold (stepped w t) slot
  log_of slot leaf c = IsUntold.in_log t leaf is (subst (λ (x : Private). Contains x.log.entries (entries.Born slot leaf)) (sym own_log) c)

  box_of : (slot : ℕ) (leaf : Bool) → Contains left.entries (entries.Born slot leaf) → IsUntold (stepped w t) slot
  box_of slot leaf c = IsUntold.in_box t leaf is (subst (λ (x : Contents). Contains x.entries (entries.Born slot leaf)) (sym own_box) c)

  from_log : (slot : ℕ) (leaf : Bool) → Contains (mutator w t).log.entries (entries.Born slot leaf) → IsUntold (stepped w t) slot
  from_log slot leaf c = go moves
    where
      go : MovesLog (mutator w t) q (found_by w t) (next_of (mutator w t)) (box w t) left → IsUntold (stepped w t) slot
      go (MovesLog.keeps log b headers) = log_of slot leaf (subst (λ es. Contains es (entries.Born slot leaf)) (sym log) c)
      go (MovesLog.writes place new old log b headers) = log_of slot leaf (subst (λ es. Contains es (entries.Born slot leaf)) (sym log) (Contains-append_left (mutator w t).log.entries (entries.Put place new old ∷ []) (entries.Born slot leaf) c))
      go (MovesLog.bears s l log b headers free) = log_of slot leaf (subst (λ es. Contains es (entries.Born slot leaf)) (sym log) (Contains-append_left (mutator w t).log.entries (entries.Born s l ∷ []) (entries.Born slot leaf) c))
      go (MovesLog.retires none b swapped headers) = box_of slot leaf (subst (λ es. Contains es (entries.Born slot leaf)) (sym b) c)

  from_box : (slot : ℕ) (leaf : Bool) → Contains (box w t).entries (entries.Born slot leaf) → IsUntold (stepped w t) slot
  from_box slot leaf c = go moves
    where
      go : MovesLog (mutator w t) q (found_by w t) (next_of (mutator w t)) (box w t) left → IsUntold (stepped w t) slot
      go (MovesLog.keeps log b headers) = box_of slot leaf (subst (λ es. Contains es (entries.Born slot leaf)) (sym b) c)
      go (MovesLog.writes place new old log b headers) = box_of slot leaf (subst (λ es. Contains es (entries.Born slot leaf)) (sym b) c)
      go (MovesLog.bears s l log b headers free) = box_of slot leaf (subst (λ es. Contains es (entries.Born slot leaf)) (sym b) c)
      go (MovesLog.retires none b swapped headers) = absurd (none_in (entries.Born slot leaf) (box w t).entries none c)

  pub stepped_untold : (slot : ℕ) → IsUntold w slot → IsUntold (stepped w t) slot
  stepped_untold slot (IsUntold.in_log s leaf there c) = elim (cases_eq s t) [
    | inl same ↦ from_log slot leaf (subst (λ n. Contains (mutator w n).log.entries (entries.Born slot leaf)) same c)
    | inr other ↦
        let apart : (s - 1) ≢ (t - 1) = λ e. other (omega (arith, e, is.0, there.0)) in
        IsUntold.in_log s leaf there (subst (λ (x : Private). Contains x.log.entries (entries.Born slot leaf)) (sym (get_or-set_other w.mutators (t - 1) (s - 1) q nobody apart)) c)
  ]
  stepped_untold slot (IsUntold.in_box s leaf there c) = elim (cases_eq s t) [
    | inl same ↦ from_box slot leaf (subst (λ n. Contains (box w n).entries (entries.Born slot leaf)) same c)
    | inr other ↦
        let apart : (s - 1) ≢ (t - 1) = λ e. other (omega (arith, e, is.0, there.0)) in
        IsUntold.in_box s leaf there (subst (λ (x : Contents). Contains x.entries (entries.Born slot leaf)) (sym (get_or-set_other w.boxes (t - 1) (s - 1) left (blank 0 0) apart)) c)
  ]
  stepped_untold slot (IsUntold.gathered s leaf there waits c) = IsUntold.gathered s leaf there waits c

  pub stepped_taken : (slot : ℕ) → 0 < slice_index_or (stepped w t).headers slot 0 → (0 < slice_index_or w.headers slot 0) ⊎ IsUntold (stepped w t) slot
  stepped_taken slot some = go moves
    where
      go : MovesLog (mutator w t) q (found_by w t) (next_of (mutator w t)) (box w t) left → (0 < slice_index_or w.headers slot 0) ⊎ IsUntold (stepped w t) slot
      go (MovesLog.keeps log b headers) = inl (headers (cells_of w) refl slot some)
      go (MovesLog.writes place new old log b headers) = inl (headers (cells_of w) refl slot some)
      go (MovesLog.bears s leaf log b headers free) = elim (headers (cells_of w) refl slot some) [
        | inl before ↦ inl before
        | inr same ↦
            let last : Contains q.log.entries (entries.Born s leaf) = subst (λ es. Contains es (entries.Born s leaf)) (sym log) (Contains-append_right (mutator w t).log.entries (entries.Born s leaf ∷ []) (entries.Born s leaf) (0, omega arith, refl)) in
            inr (subst (IsUntold (stepped w t)) (sym same) (log_of s leaf last))
      ]
      go (MovesLog.retires none b swapped headers) = inl (headers (cells_of w) refl slot some)

  -- what is untold behind a step was so before, or its slot was free
  own_before : (slot : ℕ) (leaf : Bool) → Contains q.log.entries (entries.Born slot leaf) → IsUntold w slot ⊎ (slice_index_or w.headers slot 0 ≡ 0)
  own_before slot leaf c = go moves
    where
      go : MovesLog (mutator w t) q (found_by w t) (next_of (mutator w t)) (box w t) left → IsUntold w slot ⊎ (slice_index_or w.headers slot 0 ≡ 0)
      go (MovesLog.keeps log b headers) = inl (IsUntold.in_log t leaf is (subst (λ es. Contains es (entries.Born slot leaf)) log c))
      go (MovesLog.writes place new old log b headers) = elim (Contains-append_cases (mutator w t).log.entries (entries.Put place new old ∷ []) (entries.Born slot leaf) (subst (λ es. Contains es (entries.Born slot leaf)) log c)) [
        | inl before ↦ inl (IsUntold.in_log t leaf is before)
        | inr last ↦ absurd (let no : entries.Put place new old ≡ entries.Born slot leaf = only_one (entries.Put place new old) (entries.Born slot leaf) last in cc)
      ]
      go (MovesLog.bears s l log b headers free) = elim (Contains-append_cases (mutator w t).log.entries (entries.Born s l ∷ []) (entries.Born slot leaf) (subst (λ es. Contains es (entries.Born slot leaf)) log c)) [
        | inl before ↦ inl (IsUntold.in_log t leaf is before)
        | inr last ↦
            let both : entries.Born s l ≡ entries.Born slot leaf = only_one (entries.Born s l) (entries.Born slot leaf) last in
            let same : s ≡ slot = cc in
            inr (subst (λ n. slice_index_or w.headers n 0 ≡ 0) same (free (cells_of w) refl))
      ]
      go (MovesLog.retires none b swapped headers) = absurd (none_in (entries.Born slot leaf) q.log.entries (swapped ∙ none) c)

  box_before : (slot : ℕ) (leaf : Bool) → Contains left.entries (entries.Born slot leaf) → IsUntold w slot
  box_before slot leaf c = go moves
    where
      in_box_still : left.entries ≡ (box w t).entries → IsUntold w slot
      in_box_still b = IsUntold.in_box t leaf is (subst (λ es. Contains es (entries.Born slot leaf)) b c)

      go : MovesLog (mutator w t) q (found_by w t) (next_of (mutator w t)) (box w t) left → IsUntold w slot
      go (MovesLog.keeps log b headers) = in_box_still b
      go (MovesLog.writes place new old log b headers) = in_box_still b
      go (MovesLog.bears s l log b headers free) = in_box_still b
      go (MovesLog.retires none b swapped headers) = IsUntold.in_log t leaf is (subst (λ es. Contains es (entries.Born slot leaf)) b c)

  pub untold_before : (slot : ℕ) → IsUntold (stepped w t) slot → IsUntold w slot ⊎ (slice_index_or w.headers slot 0 ≡ 0)
  untold_before slot (IsUntold.in_log s leaf there c) = elim (cases_eq s t) [
    | inl same ↦ own_before slot leaf (subst (λ (x : Private). Contains x.log.entries (entries.Born slot leaf)) own_log (subst (λ n. Contains (mutator (stepped w t) n).log.entries (entries.Born slot leaf)) same c))
    | inr other ↦
        let apart : (s - 1) ≢ (t - 1) = λ e. other (omega (arith, e, is.0, there.0)) in
        inl (IsUntold.in_log s leaf there (subst (λ (x : Private). Contains x.log.entries (entries.Born slot leaf)) (get_or-set_other w.mutators (t - 1) (s - 1) q nobody apart) c))
  ]
  untold_before slot (IsUntold.in_box s leaf there c) = elim (cases_eq s t) [
    | inl same ↦ inl (box_before slot leaf (subst (λ (x : Contents). Contains x.entries (entries.Born slot leaf)) own_box (subst (λ n. Contains (box (stepped w t) n).entries (entries.Born slot leaf)) same c)))
    | inr other ↦
        let apart : (s - 1) ≢ (t - 1) = λ e. other (omega (arith, e, is.0, there.0)) in
        inl (IsUntold.in_box s leaf there (subst (λ (x : Contents). Contains x.entries (entries.Born slot leaf)) (get_or-set_other w.boxes (t - 1) (s - 1) left (blank 0 0) apart) c))
  ]
  untold_before slot (IsUntold.gathered s leaf there waits c) = inl (IsUntold.gathered s leaf there waits c)
