-- Where the stamps of what is put rise along some lines, no word is put twice.
use Rattle.std.proofs.Common.{◌≡◌, ◌∙◌, ℕ, suc, ◌+◌, ◌*◌, ◌^◌, ◌<◌, ◌≤◌, ◌==◌, ◌&&◌, Bool, true, false, cond, List, [], ◌∷◌, ◌++◌, length, map, get_or, Option, None, Some, inl, inr, refl, sym, ap, subst, arith}
use Rattle.std.specs.List.{enumerate_from, flat_map}
use Rattle.std.proofs.lemmas.Bool.{eqb-true, false≢true, or_cases}
use Rattle.rec_word.specs.Word.{stamp_of}
use Rattle.rec_word.specs.declared.op.Op.{Op}
use Rattle.rec_word.specs.declared.op.Op.TheVariants.{ClearField, FreeHeader}
use Rattle.rec_log.specs.declared.contents.Contents.{Contents}
use Rattle.rec_log.specs.declared.entry.Entry.{Entry}
use Rattle.rec_log.specs.declared.entry.Entry.TheVariants.{Put, Born}
use Rattle.rec_collector.specs.Shown.{Batch, Shown}
use Rattle.rec_audit.specs.Form.{number}
use Rattle.rec_audit.specs.Graph.{is_opened, opens}
use Rattle.rec_audit.specs.Journal.{batch_lines, completed_lines, entry_line, journal, lines_of, op_lines, opening_lines, part_lines, parts_lines, passed_lines, snap_line}
use Rattle.rec_audit.specs.Keeping.{Keep, KeepsBatch, Place, behind_step, behind_steps, first_place, with_batch, with_end}
use Rattle.rec_audit.specs.Lines.{Line}
use Rattle.rec_audit.specs.Verdicts.{HasStampFault}
use Rattle.rec_audit.specs.declared.form.Heap.{Heap}
use Rattle.rec_audit.proofs.Forming.{part}
use Rattle.rec_audit.specs.declared.kind.Kind.TheVariants as kinds

-- ---- stamps in their order

-- the number of a stamp: by its epoch, then by its writer, then by its index
abbrev pub stamp_number : (epoch writer index : ℕ) → ℕ
stamp_number epoch writer index = epoch * 2 ^ 24 + writer * 2 ^ 18 + index

abbrev pub number_of : (word : ℕ) → ℕ
number_of word = stamp_number (stamp_of word).epoch (stamp_of word).writer (stamp_of word).index

-- what these lines put has stamps that rise, from this number on and below that
abbrev pub Rises : ℕ → List Line → ℕ → Type 0
Rises k [] m = k ≤ m
Rises k (line ∷ lines) m = (n : ℕ) × (k ≤ n) × (opens line ≡ true → (k ≤ number_of (number 2 line)) × (number_of (number 2 line) < n)) × Rises n lines m

rises_le : (k m : ℕ) (lines : List Line) → Rises k lines m → k ≤ m
rises_le k m [] r = r
rises_le k m (line ∷ lines) r = let up : k ≤ r.0 = r.1 in omega (arith, rises_le r.0 m lines r.3)

-- a line that opens nothing
rises_quiet : (k : ℕ) (line : Line) → opens line ≡ false → Rises k (line ∷ []) k
rises_quiet k line is = (k, omega arith, λ e. absurd (false≢true (sym is ∙ e)), omega arith)

rises_both : (k n m : ℕ) (xs ys : List Line) → Rises k xs n → Rises n ys m → Rises k (xs ++ ys) m
rises_both k n m [] ys a b = lower k n m ys a b
  where
    lower : (k n m : ℕ) (ys : List Line) → k ≤ n → Rises n ys m → Rises k ys m
    lower k n m [] up r = omega (arith, up, r)
    lower k n m (y ∷ ys) up r = let more : n ≤ r.0 = r.1 in (r.0, omega (arith, up, more), λ e. (omega (arith, up, (r.2 e).0), (r.2 e).1), r.3)
rises_both k n m (x ∷ xs) ys a b = (a.0, a.1, a.2, rises_both a.0 n m xs ys a.3 b)

pub rises_split : (k m : ℕ) (before after : List Line) → Rises k (before ++ after) m → (n : ℕ) × Rises k before n × Rises n after m
rises_split k m [] after r = (k, omega arith, r)
rises_split k m (x ∷ before) after r = let more = rises_split r.0 m before after r.3 in (more.0, (r.0, r.1, r.2, more.1), more.2)

pub both_of : (a b : Bool) → (a && b) ≡ true → (a ≡ true) × (b ≡ true)
both_of true b is = (refl, is)
both_of false b is = absurd (false≢true is)

-- what was opened has a stamp below the end
rises_opened : (k m word : ℕ) (lines : List Line) → Rises k lines m → is_opened lines word ≡ true → number_of word < m
rises_opened k m word [] r is = absurd (false≢true is)
rises_opened k m word (line ∷ lines) r is = elim (or_cases (opens line && (number 2 line == word)) (is_opened lines word) is) [
  | inl here ↦
      let both = both_of (opens line) (number 2 line == word) here in
      let same : number 2 line ≡ word = eqb-true (number 2 line) word both.1 in
      let below : number_of (number 2 line) < r.0 = (r.2 both.0).1 in
      subst (λ n. number_of n < m) same (omega (arith, below, rises_le r.0 m lines r.3))
  | inr later ↦ rises_opened r.0 m word lines r.3 later
]

-- so no line puts a word that an earlier one has put
pub no_stamp_fault : (k m : ℕ) (lines before after : List Line) (line : Line) → Rises k lines m → lines ≡ before ++ line ∷ after → HasStampFault before line → ⊥
no_stamp_fault k m lines before after line r e fault =
    let at = rises_split k m before (line ∷ after) (subst (λ xs. Rises k xs m) e r) in
    let below : number_of (number 2 line) < at.0 = rises_opened k at.0 (number 2 line) before at.1 fault.opened in
    let above : at.0 ≤ number_of (number 2 line) = (at.2.2 fault.opens).0 in
    omega (arith, below, above)

-- ---- the lines of a batch

-- an entry's word has the stamp of its mutator, and of its place in the log
abbrev pub IsStampedEntry : (epoch t index : ℕ) → Entry → Type 0
IsStampedEntry epoch t index (Put place new old) = (number_of new ≡ stamp_number epoch t index) × (index < 2 ^ 18)
IsStampedEntry epoch t index (Born slot leaf) = Unit {0}

abbrev pub AreStampedEntries : (epoch t : ℕ) → List Entry → Type 0
AreStampedEntries epoch t entries = (index : ℕ) (d : Entry) → index < length entries → IsStampedEntry epoch t index (get_or entries index d)

abbrev pub IsStampedBatch : Batch → Type 0
IsStampedBatch batch = (k : ℕ) (d : Contents) → k < length batch.newer → AreStampedEntries batch.epoch (k + 1) (get_or batch.newer k d).entries

abbrev pub IsStampedIn : Option Batch → Type 0
IsStampedIn None = Unit {0}
IsStampedIn (Some batch) = IsStampedBatch batch × (length batch.newer ≤ 63)

abbrev pub AreStamped : List Shown → Type 0
AreStamped [] = Unit {0}
AreStamped (step ∷ steps) = IsStampedIn step.batch × AreStamped steps

-- the entries from this place on
entries_rise : (epoch t first k : ℕ) (es : List Entry) → k ≤ stamp_number epoch t first → k ≤ stamp_number epoch (t + 1) 0
    → ((index : ℕ) (d : Entry) → index < length es → IsStampedEntry epoch t (first + index) (get_or es index d)) → Rises k (map (entry_line t) es) (stamp_number epoch (t + 1) 0)
entries_rise epoch t first k [] low high all = high
entries_rise epoch t first k (Put place new old ∷ es) low high all =
    let own : (number_of new ≡ stamp_number epoch t (first + 0)) × (first + 0 < 2 ^ 18) = all 0 (Put place new old) (omega arith) in
    let is : number_of new ≡ stamp_number epoch t (first + 0) = own.0 in
    let few : first + 0 < 2 ^ 18 = own.1 in (
      number_of new + 1,
      omega (arith, is, low),
      λ e. (omega (arith, is, low), omega arith),
      entries_rise epoch t (first + 1) (number_of new + 1) es (omega (arith, is)) (omega (arith, is, few)) (behind epoch t first (Put place new old) es all),
    )
  where
    behind : (epoch t first : ℕ) (x : Entry) (es : List Entry) → ((index : ℕ) (d : Entry) → index < length (x ∷ es) → IsStampedEntry epoch t (first + index) (get_or (x ∷ es) index d)) → (index : ℕ) (d : Entry) → index < length es → IsStampedEntry epoch t (first + 1 + index) (get_or es index d)
    behind epoch t first x es all index d below = let at : first + suc index ≡ first + 1 + index = omega arith in subst (λ n. IsStampedEntry epoch t n (get_or es index d)) at (all (suc index) d (omega arith))
entries_rise epoch t first k (Born slot leaf ∷ es) low high all =
    (k, omega arith, λ e. absurd (false≢true e), entries_rise epoch t (first + 1) k es (omega arith) high (λ index d below. (let at : first + suc index ≡ first + 1 + index = omega arith in subst (λ n. IsStampedEntry epoch t n (get_or es index d)) at (all (suc index) d (omega arith)))))

part_rises : (epoch t : ℕ) (b : Contents) → AreStampedEntries epoch t b.entries → Rises (stamp_number epoch t 0) (part_lines t b) (stamp_number epoch (t + 1) 0)
part_rises epoch t b all =
    rises_both (stamp_number epoch t 0) (stamp_number epoch (t + 1) 0) (stamp_number epoch (t + 1) 0) (map (entry_line t) b.entries) (snap_line t b.snapshot ∷ [])
    (entries_rise epoch t 0 (stamp_number epoch t 0) b.entries (omega arith) (omega arith) (λ index d below. (let at : index ≡ 0 + index = omega arith in subst (λ n. IsStampedEntry epoch t n (get_or b.entries index d)) at (all index d below))))
    (rises_quiet (stamp_number epoch (t + 1) 0) (snap_line t b.snapshot) refl)

parts_rise : (epoch t : ℕ) (bs : List Contents) → ((k : ℕ) (d : Contents) → k < length bs → AreStampedEntries epoch (t + k) (get_or bs k d).entries) → Rises (stamp_number epoch t 0) (flat_map part (enumerate_from t bs)) (stamp_number epoch (t + length bs) 0)
parts_rise epoch t [] all = omega arith
parts_rise epoch t (b ∷ bs) all =
    let own : AreStampedEntries epoch t b.entries = (let at : t + 0 ≡ t = omega arith in subst (λ n. AreStampedEntries epoch n b.entries) at (all 0 b (omega arith))) in
    let end : stamp_number epoch (t + 1 + length bs) 0 ≡ stamp_number epoch (t + length (b ∷ bs)) 0 = omega arith in
    subst (λ n. Rises (stamp_number epoch t 0) (flat_map part (enumerate_from t (b ∷ bs))) n) end
    (rises_both (stamp_number epoch t 0) (stamp_number epoch (t + 1) 0) (stamp_number epoch (t + 1 + length bs) 0) (part_lines t b) (flat_map part (enumerate_from (t + 1) bs))
    (part_rises epoch t b own)
    (parts_rise epoch (t + 1) bs (λ k d below. (let at : t + suc k ≡ t + 1 + k = omega arith in subst (λ n. AreStampedEntries epoch n (get_or bs k d).entries) at (all (suc k) d (omega arith))))))

-- ---- steps

-- the stamps of an epoch begin here
abbrev pub from_epoch : ℕ → ℕ
from_epoch epoch = stamp_number epoch 0 0

batch_rises : (at : Place) (batch : Option Batch) → IsStampedIn batch → at.next ≤ (with_batch at batch).next → ((b : Batch) → batch ≡ Some b → b.epoch ≡ at.next) → Rises (from_epoch at.next) (batch_lines batch) (from_epoch (with_batch at batch).next)
batch_rises at None is up same = omega arith
batch_rises at (Some batch) is up same =
    let epoch : batch.epoch ≡ at.next = same batch refl in
    let few : length batch.newer ≤ 63 = is.1 in
    let parts : Rises (stamp_number batch.epoch 1 0) (parts_lines batch.newer) (stamp_number batch.epoch (1 + length batch.newer) 0) = parts_rise batch.epoch 1 batch.newer (λ k d below. (let n : k + 1 ≡ 1 + k = omega arith in subst (λ m. AreStampedEntries batch.epoch m (get_or batch.newer k d).entries) n (is.0 k d below))) in
    let rest : Rises (stamp_number batch.epoch 1 0) (parts_lines batch.newer) (from_epoch (batch.epoch + 1)) = subst (λ xs. Rises (stamp_number batch.epoch 1 0) xs (from_epoch (batch.epoch + 1))) (append-none (parts_lines batch.newer)) (rises_both (stamp_number batch.epoch 1 0) (stamp_number batch.epoch (1 + length batch.newer) 0) (from_epoch (batch.epoch + 1)) (parts_lines batch.newer) [] parts (omega (arith, few))) in
    (stamp_number batch.epoch 1 0, omega (arith, epoch), λ e. absurd (false≢true e), rest)
  where
    append-none : (xs : List Line) → xs ++ [] ≡ xs
    append-none [] = refl
    append-none (x ∷ xs) = ap (λ t. x ∷ t) (append-none xs)

op_rises : (k : ℕ) (op : Op) (word : ℕ) → Rises k (op_lines op word) k
op_rises k (ClearField place) word = go (word == 0)
  where
    go : (b : Bool) → Rises k (cond b [] (record { kind = kinds.Out; numbers = place ∷ word ∷ [] } ∷ [])) k
    go true = omega arith
    go false = (k, omega arith, λ e. absurd (false≢true e), omega arith)
op_rises k (FreeHeader slot) word = (k, omega arith, λ e. absurd (false≢true e), omega arith)
op_rises k _ word = omega arith

passed_rises : (k : ℕ) (passed : Option (List ℕ)) → Rises k (passed_lines passed) k
passed_rises k None = omega arith
passed_rises k (Some members) = (k, omega arith, λ e. absurd (false≢true e), omega arith)

completed_rises : (k : ℕ) (completed : Option ℕ) → Rises k (completed_lines completed) k
completed_rises k None = omega arith
completed_rises k (Some epoch) = (k, omega arith, λ e. absurd (false≢true e), omega arith)

step_rises : (at : Place) (step : Shown) → IsStampedIn step.batch → at.next ≤ (with_batch at step.batch).next → ((b : Batch) → step.batch ≡ Some b → b.epoch ≡ at.next) → Rises (from_epoch at.next) (lines_of step) (from_epoch (behind_step at step).next)
step_rises at step is up same =
    let m : ℕ = from_epoch (with_batch at step.batch).next in
    let whole : Rises (from_epoch at.next) (lines_of step) m = rises_both (from_epoch at.next) m m (batch_lines step.batch) _ (batch_rises at step.batch is up same)
    (rises_both m m m (op_lines step.op step.word) _ (op_rises m step.op step.word) (rises_both m m m (passed_lines step.passed) (completed_lines step.completed) (passed_rises m step.passed) (completed_rises m step.completed))) in
    subst (Rises (from_epoch at.next) (lines_of step)) (ap from_epoch (sym (end_same (with_batch at step.batch) step.completed))) whole
  where
    end_same : (place : Place) (completed : Option ℕ) → (with_end place completed).next ≡ place.next
    end_same place None = refl
    end_same place (Some epoch) = refl

opening_rises : (heap : Heap) (k : ℕ) → Rises k (opening_lines heap) k
opening_rises heap k = (k, omega arith, λ e. absurd (false≢true e), (k, omega arith, λ e. absurd (false≢true e), omega arith))

steps_rise : (heap : Heap) (at : Place) (steps : List Shown) → Keep heap at steps → AreStamped steps → Rises (from_epoch at.next) (flat_map lines_of steps) (from_epoch (behind_steps at steps).next)
steps_rise heap at [] keep stamped = omega arith
steps_rise heap at (step ∷ steps) keep stamped =
    rises_both (from_epoch at.next) (from_epoch (behind_step at step).next) (from_epoch (behind_steps at (step ∷ steps)).next) (lines_of step) (flat_map lines_of steps)
    (step_rises at step stamped.0 (grows step.batch keep.0.batch) (next_is step.batch keep.0.batch))
    (steps_rise heap (behind_step at step) steps keep.1 stamped.1)
  where
    grows : (batch : Option Batch) → KeepsBatch heap at batch → at.next ≤ (with_batch at batch).next
    grows None keeps = omega arith
    grows (Some batch) keeps = let same : batch.epoch ≡ at.next = keeps.1.next-is in omega arith

    next_is : (batch : Option Batch) → KeepsBatch heap at batch → (b : Batch) → batch ≡ Some b → b.epoch ≡ at.next
    next_is None keeps b is = absurd (cc)
    next_is (Some batch) keeps b is = (let same : b ≡ batch = cc in ap (λ (x : Batch). x.epoch) same ∙ keeps.1.next-is)

-- along the whole journal
pub journal_rises : (heap : Heap) (steps : List Shown) → Keep heap (first_place heap) steps → AreStamped steps → Rises (from_epoch heap.first) (journal heap steps) (from_epoch (behind_steps (first_place heap) steps).next)
journal_rises heap steps keep stamped =
    rises_both (from_epoch heap.first) (from_epoch heap.first) (from_epoch (behind_steps (first_place heap) steps).next) (opening_lines heap) (flat_map lines_of steps)
    (opening_rises heap (from_epoch heap.first)) (steps_rise heap (first_place heap) steps keep stamped)
