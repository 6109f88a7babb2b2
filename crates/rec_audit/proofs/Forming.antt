-- Journals of steps that keep what they have to are in form: a walk along their lines.
use Rattle.std.proofs.Common.{◌≡◌, ◌∙◌, ℕ, zero, suc, ◌+◌, ◌*◌, ◌<◌, ◌≤◌, ◌^◌, ◌==◌, Bool, true, false, cond, nat_lt, List, [], ◌∷◌, ◌++◌, length, map, get_or, Option, None, Some, ◌⊎◌, inl, inr, refl, sym, ap, subst, arith, append_assoc, append-nil}
use Rattle.std.specs.List.{All, flat_map, enumerate_from}
use Rattle.std.proofs.Math.Nat.{mul-le-mul_left}
use Rattle.std.proofs.lemmas.Bool.{lt-ltb, le-ltb, eq-eqb, false≢true}
use Rattle.std.proofs.lemmas.List.{length-map}
use Rattle.std.proofs.lemmas.List.Elements.{All-map}
use Rattle.rec_word.specs.declared.op.Op.{Op}
use Rattle.rec_word.specs.declared.op.Op.TheVariants.{ClearField, FreeHeader}
use Rattle.rec_log.specs.declared.contents.Contents.{Contents}
use Rattle.rec_log.specs.declared.entry.Entry.{Entry}
use Rattle.rec_log.specs.declared.entry.Entry.TheVariants.{Put, Born}
use Rattle.rec_collector.specs.Shown.{Batch, Shown}
use Rattle.rec_audit.specs.declared.kind.Kind.TheVariants as kinds
use Rattle.rec_audit.specs.declared.form.Form.{Form}
use Rattle.rec_audit.specs.declared.form.Heap.{Heap}
use Rattle.rec_audit.specs.declared.form.Stage.{Stage}
use Rattle.rec_audit.specs.declared.form.Stage.TheVariants as stages
use Rattle.rec_audit.specs.Lines.{Line}
use Rattle.rec_audit.specs.Form.{AreHeapNumbers, IsInForm, MayStand, Stand, behind, form_of, leads_to, places_of}
use Rattle.rec_audit.specs.Journal.{batch_lines, completed_lines, entry_line, heap_numbers, journal, line_of, lines_of, op_lines, opening_lines, part_lines, parts_lines, passed_lines, register_number, snap_line}
use Rattle.rec_audit.specs.Keeping.{IsBufferOf, IsEntryOf, Keep, KeepsBatch, KeepsCompleted, KeepsOp, KeepsPassed, KeepsStep, Place, behind_step, behind_steps, first_place, with_batch, with_end}
use Rattle.rec_audit.proofs.Knowing.{clean_none, form_more, split_push}

-- ---- walks

-- each line may stand behind those before it
abbrev Fits : Form → List Line → Type 0
Fits f [] = Unit {0}
Fits f (line ∷ lines) = MayStand f line × Fits (behind f line) lines

abbrev after : Form → List Line → Form
after f [] = f
after f (line ∷ lines) = after (behind f line) lines

record Walk (f : Form) (lines : List Line) (g : Form) : Type 0 where
  fits : Fits f lines
  ends : after f lines ≡ g

walk_none : (f : Form) → Walk f [] f
walk_none f = record { fits = tt; ends = refl }

walk_one : (f g : Form) (line : Line) → MayStand f line → behind f line ≡ g → Walk f (line ∷ []) g
walk_one f g line stands ends = record { fits = (stands, tt); ends = ends }

walk_join : (f g h : Form) (xs ys : List Line) → Walk f xs g → Walk g ys h → Walk f (xs ++ ys) h
walk_join f g h [] ys a b = subst (λ x. Walk x ys h) (sym a.ends) b
walk_join f g h (x ∷ xs) ys a b =
    let rest : Walk (behind f x) (xs ++ ys) h = walk_join (behind f x) g h xs ys (record { fits = a.fits.1; ends = a.ends }) b in
    record { fits = (a.fits.0, rest.fits); ends = rest.ends }

pub stand_more : (lines : List Line) (l : Line) → Stand lines → MayStand (form_of lines) l → Stand (lines ++ l ∷ [])
stand_more lines l stand stands = λ before line more e. at before line more (split_push lines before more l line e)
  where
    at : (before : List Line) (line : Line) (more : List Line) → ((lines ≡ before) × (l ≡ line)) ⊎ ((rest : List Line) × (lines ≡ before ++ line ∷ rest)) → MayStand (form_of before) line
    at before line more (inl same) = subst (λ (x : Line). MayStand (form_of before) x) same.1 (subst (λ (ls : List Line). MayStand (form_of ls) l) same.0 stands)
    at before line more (inr rest) = stand before line rest.0 rest.1

-- lines that stand, and a walk behind them
stand_walk : (lines more : List Line) (g : Form) → Stand lines → Walk (form_of lines) more g → Stand (lines ++ more) × (form_of (lines ++ more) ≡ g)
stand_walk lines [] g stand walk = (subst Stand (sym (append-nil lines)) stand, ap form_of (append-nil lines) ∙ walk.ends)
stand_walk lines (l ∷ ls) g stand walk =
    let rest : Walk (form_of (lines ++ l ∷ [])) ls g = subst (λ f. Walk f ls g) (sym (form_more lines l)) (record { fits = walk.fits.1; ends = walk.ends }) in
    let more : Stand ((lines ++ l ∷ []) ++ ls) × (form_of ((lines ++ l ∷ []) ++ ls) ≡ g) = stand_walk (lines ++ l ∷ []) ls g (stand_more lines l stand walk.fits.0) rest in
    (subst Stand (append_assoc lines (l ∷ []) ls) more.0, ap form_of (sym (append_assoc lines (l ∷ []) ls)) ∙ more.1)

-- ---- numbers

all_none : {X : Type 0} (P : X → Type 0) → All P []
all_none P = λ k d lt. absurd (omega arith)

all_cons : {X : Type 0} (P : X → Type 0) (x : X) (xs : List X) → P x → All P xs → (k : ℕ) (d : X) → k < length (x ∷ xs) → P (get_or (x ∷ xs) k d)
all_cons P x xs here rest zero d lt = here
all_cons P x xs here rest (suc k) d lt = rest k d (omega arith)

all_head : {X : Type 0} (P : X → Type 0) (x : X) (xs : List X) → All P (x ∷ xs) → P x
all_head P x xs all = all 0 x (omega arith)

all_tail : {X : Type 0} (P : X → Type 0) (x : X) (xs : List X) → All P (x ∷ xs) → All P xs
all_tail P x xs all = λ k d lt. all (suc k) d (omega arith)

abbrev Small : ℕ → Type 0
Small n = n < 2 ^ 64

-- the heap is no larger than a heap may be
record IsHeap (heap : Heap) : Type 0 where
  slots : heap.slots ≤ 65535
  places : places_of heap < 2 ^ 64
  some : 1 ≤ heap.mutators
  mutators : heap.mutators ≤ 63

-- ---- a batch

abbrev at : Heap → Stage → ℕ → Form
at heap stage next = record { heap = heap; stage = stage; next = next }

entry_stands : (heap : Heap) (t next : ℕ) (entry : Entry) → IsHeap heap → t ≤ 63 → IsEntryOf heap entry → MayStand (at heap (stages.Part t) next) (entry_line t entry)
entry_stands heap t next (Put place new old) is few (within, is_new, is_old) =
    let size : places_of heap < 2 ^ 64 = is.places in
    record {
      stage = refl;
      numbers = record { four = refl; place = within; new = is_new.leads; old = is_old.leads };
      fits = all_cons Small t (place ∷ new ∷ old ∷ []) (omega arith) (all_cons Small place (new ∷ old ∷ []) (omega arith) (all_cons Small new (old ∷ []) is_new.fits (all_cons Small old [] is_old.fits (all_none Small))));
    }
entry_stands heap t next (Born slot leaf) is few within =
    let size : heap.slots ≤ 65535 = is.slots in
    record {
      stage = refl;
      numbers = record { two = refl; slot = within };
      fits = all_cons Small t (slot ∷ []) (omega arith) (all_cons Small slot [] (omega arith) (all_none Small));
    }

entry_behind : (heap : Heap) (t next : ℕ) (entry : Entry) → behind (at heap (stages.Part t) next) (entry_line t entry) ≡ at heap (stages.Part t) next
entry_behind heap t next (Put place new old) = refl
entry_behind heap t next (Born slot leaf) = refl

entries_walk : (heap : Heap) (t next : ℕ) (entries : List Entry) → IsHeap heap → t ≤ 63 → All (IsEntryOf heap) entries → Walk (at heap (stages.Part t) next) (map (entry_line t) entries) (at heap (stages.Part t) next)
entries_walk heap t next [] is few all = walk_none _
entries_walk heap t next (entry ∷ entries) is few all =
    walk_join _ (at heap (stages.Part t) next) _ (entry_line t entry ∷ []) (map (entry_line t) entries)
    (walk_one _ _ (entry_line t entry) (entry_stands heap t next entry is few (all_head (IsEntryOf heap) entry entries all)) (entry_behind heap t next entry))
    (entries_walk heap t next entries is few (all_tail (IsEntryOf heap) entry entries all))

part_walk : (heap : Heap) (t next : ℕ) (buffer : Contents) → IsHeap heap → t ≤ 63 → IsBufferOf heap buffer → Walk (at heap (stages.Part t) next) (part_lines t buffer) (at heap (leads_to heap.mutators kinds.Snap t) next)
part_walk heap t next buffer is few of =
    let size : heap.slots ≤ 65535 = is.slots in
    let many : length (map register_number buffer.snapshot) ≡ heap.registers = length-map buffer.snapshot register_number ∙ of.registers in
    walk_join _ (at heap (stages.Part t) next) _ (map (entry_line t) buffer.entries) (snap_line t buffer.snapshot ∷ [])
    (entries_walk heap t next buffer.entries is few of.entries)
    (walk_one _ _ (snap_line t buffer.snapshot)
    (record {
      stage = refl;
      numbers = record { count = omega arith; held = All-map (λ n. n ≤ heap.slots) register_number buffer.snapshot of.held };
      fits = all_cons Small t (map register_number buffer.snapshot) (omega arith) (All-map Small register_number buffer.snapshot (λ k d lt. let h : register_number (get_or buffer.snapshot k d) ≤ heap.slots = of.held k d lt in omega arith));
    })
    refl)

abbrev pub part : ℕ × Contents → List Line
part p = part_lines p.0 p.1

-- the parts from one mutator on, up to the last one
parts_walk : (heap : Heap) (t next : ℕ) (buffer : Contents) (more : List Contents) → IsHeap heap → t + length more ≡ heap.mutators → All (IsBufferOf heap) (buffer ∷ more)
    → Walk (at heap (stages.Part t) next) (flat_map part (enumerate_from t (buffer ∷ more))) (at heap stages.Steps next)
parts_walk heap t next buffer [] is e all =
    let few : t ≤ 63 = (let m : heap.mutators ≤ 63 = is.mutators in omega arith) in
    let last : nat_lt t heap.mutators ≡ false = le-ltb t heap.mutators (omega arith) in
    walk_join _ (at heap stages.Steps next) _ (part_lines t buffer) []
    (subst (λ b. Walk (at heap (stages.Part t) next) (part_lines t buffer) (at heap (cond b (stages.Part (t + 1)) stages.Steps) next)) last (part_walk heap t next buffer is few (all_head (IsBufferOf heap) buffer [] all)))
    (walk_none _)
parts_walk heap t next buffer (c ∷ cs) is e all =
    let few : t ≤ 63 = (let m : heap.mutators ≤ 63 = is.mutators in omega arith) in
    let some : nat_lt t heap.mutators ≡ true = lt-ltb t heap.mutators (omega arith) in
    walk_join _ (at heap (stages.Part (t + 1)) next) _ (part_lines t buffer) (flat_map part (enumerate_from (t + 1) (c ∷ cs)))
    (subst (λ b. Walk (at heap (stages.Part t) next) (part_lines t buffer) (at heap (cond b (stages.Part (t + 1)) stages.Steps) next)) some (part_walk heap t next buffer is few (all_head (IsBufferOf heap) buffer (c ∷ cs) all)))
    (parts_walk heap (t + 1) next c cs is (omega arith) (all_tail (IsBufferOf heap) buffer (c ∷ cs) all))

all_parts : (heap : Heap) (next : ℕ) (buffers : List Contents) → IsHeap heap → length buffers ≡ heap.mutators → All (IsBufferOf heap) buffers → Walk (at heap (stages.Part 1) next) (parts_lines buffers) (at heap stages.Steps next)
all_parts heap next [] is e all = absurd (let some : 1 ≤ heap.mutators = is.some in omega arith)
all_parts heap next (b ∷ bs) is e all = parts_walk heap 1 next b bs is (omega arith) all

-- ---- where a collector stands

abbrev stage_for : Bool → Stage
stage_for false = stages.Between
stage_for true = stages.Steps

abbrev form_at : Heap → Place → Form
form_at heap place = at heap (stage_for place.working) place.next

from_stage : (heap : Heap) (place : Place) (b : Bool) → place.working ≡ b → at heap (stage_for b) place.next ≡ form_at heap place
from_stage heap place b e = ap (λ x. at heap (stage_for x) place.next) (sym e)

-- a walk that ends where it began
round : (heap : Heap) (place : Place) (lines : List Line) → place.working ≡ true → Walk (at heap stages.Steps place.next) lines (at heap stages.Steps place.next) → Walk (form_at heap place) lines (form_at heap place)
round heap place lines e walk = subst (λ f. Walk f lines f) (from_stage heap place true e) walk

batch_walk : (heap : Heap) (place : Place) (batch : Option Batch) → IsHeap heap → KeepsBatch heap place batch → Walk (form_at heap place) (batch_lines batch) (form_at heap (with_batch place batch))
batch_walk heap place None is keeps = walk_none _
batch_walk heap place (Some batch) is (idle, of) =
    let most : place.next ≤ 16777215 = of.fits in
    let same : batch.epoch ≡ place.next = of.next-is in
    subst (λ f. Walk f (batch_lines (Some batch)) (at heap stages.Steps (batch.epoch + 1))) (from_stage heap place false idle)
    (walk_join _ (at heap (stages.Part 1) (batch.epoch + 1)) _ (line_of kinds.Epoch (batch.epoch ∷ []) ∷ []) (parts_lines batch.newer)
    (walk_one _ _ (line_of kinds.Epoch (batch.epoch ∷ []))
    (record { stage = refl; numbers = record { one = refl; number = same; most = of.fits }; fits = all_cons Small batch.epoch [] (omega arith) (all_none Small) })
    refl)
    (all_parts heap (batch.epoch + 1) batch.newer is of.all of.buffers))

-- ---- what it does

op_walk : (heap : Heap) (place : Place) (op : Op) (word : ℕ) → IsHeap heap → KeepsOp heap place op word → Walk (form_at heap place) (op_lines op word) (form_at heap place)
op_walk heap place (ClearField field) word is keeps = at_word (word == 0) refl
  where
    at_word : (b : Bool) → (word == 0) ≡ b → Walk (form_at heap place) (cond b [] (line_of kinds.Out (field ∷ word ∷ []) ∷ [])) (form_at heap place)
    at_word true e = walk_none _
    at_word false e =
        let some : word ≡ 0 → ⊥ = λ none. false≢true (sym e ∙ eq-eqb word 0 none) in
        let (works, within, of) = keeps some in
        let size : places_of heap < 2 ^ 64 = is.places in
        round heap place _ works (walk_one _ _ (line_of kinds.Out (field ∷ word ∷ []))
        (record {
          stage = refl;
          numbers = record { two = refl; place = within; some = some; word = of.leads };
          fits = all_cons Small field (word ∷ []) (omega arith) (all_cons Small word [] of.fits (all_none Small));
        })
        refl)
op_walk heap place (FreeHeader slot) word is (works, within) =
    let size : heap.slots ≤ 65535 = is.slots in
    round heap place _ works (walk_one _ _ (line_of kinds.Sweep (slot ∷ []))
    (record { stage = refl; numbers = record { one = refl; slot = within }; fits = all_cons Small slot [] (omega arith) (all_none Small) })
    refl)
op_walk heap place _ word is keeps = walk_none _

passed_walk : (heap : Heap) (place : Place) (passed : Option (List ℕ)) → IsHeap heap → KeepsPassed heap place passed → Walk (form_at heap place) (passed_lines passed) (form_at heap place)
passed_walk heap place None is keeps = walk_none _
passed_walk heap place (Some members) is (works, some, within) =
    let size : heap.slots ≤ 65535 = is.slots in
    round heap place _ works (walk_one _ _ (line_of kinds.Free members)
    (record { stage = refl; numbers = record { some = some; slots = within }; fits = λ k d lt. (let h : get_or members k d < heap.slots = within k d lt in omega arith) })
    refl)

completed_walk : (heap : Heap) (place : Place) (completed : Option ℕ) → IsHeap heap → place.next ≤ 16777216 → KeepsCompleted place completed → Walk (form_at heap place) (completed_lines completed) (form_at heap (with_end place completed))
completed_walk heap place None is few keeps = walk_none _
completed_walk heap place (Some epoch) is few (works, ends) =
    subst (λ f. Walk f (completed_lines (Some epoch)) (at heap stages.Between place.next)) (from_stage heap place true works)
    (walk_one _ _ (line_of kinds.End (epoch ∷ []))
    (record { stage = refl; numbers = record { one = refl; number = ends }; fits = all_cons Small epoch [] (omega arith) (all_none Small) })
    refl)

-- ---- steps

-- the next epoch is at most one past the last one
next_small : (heap : Heap) (place : Place) (batch : Option Batch) → place.next ≤ 16777216 → KeepsBatch heap place batch → (with_batch place batch).next ≤ 16777216
next_small heap place None few keeps = few
next_small heap place (Some batch) few (idle, of) = let most : place.next ≤ 16777215 = of.fits in let same : batch.epoch ≡ place.next = of.next-is in omega arith

end_same : (place : Place) (completed : Option ℕ) → (with_end place completed).next ≡ place.next
end_same place None = refl
end_same place (Some epoch) = refl

step_walk : (heap : Heap) (place : Place) (step : Shown) → IsHeap heap → place.next ≤ 16777216 → KeepsStep heap place step → Walk (form_at heap place) (lines_of step) (form_at heap (behind_step place step))
step_walk heap place step is few keeps =
    let behind_batch : Place = with_batch place step.batch in
    walk_join _ (form_at heap behind_batch) _ (batch_lines step.batch) _ (batch_walk heap place step.batch is keeps.batch)
    (walk_join _ (form_at heap behind_batch) _ (op_lines step.op step.word) _ (op_walk heap behind_batch step.op step.word is keeps.op)
    (walk_join _ (form_at heap behind_batch) _ (passed_lines step.passed) (completed_lines step.completed) (passed_walk heap behind_batch step.passed is keeps.passed)
    (completed_walk heap behind_batch step.completed is (next_small heap place step.batch few keeps.batch) keeps.completed)))

steps_walk : (heap : Heap) (place : Place) (steps : List Shown) → IsHeap heap → place.next ≤ 16777216 → Keep heap place steps → Walk (form_at heap place) (flat_map lines_of steps) (form_at heap (behind_steps place steps))
steps_walk heap place [] is few keeps = walk_none _
steps_walk heap place (step ∷ steps) is few (one, more) =
    let next : (with_batch place step.batch).next ≤ 16777216 = next_small heap place step.batch few one.batch in
    let same : (behind_step place step).next ≡ (with_batch place step.batch).next = end_same (with_batch place step.batch) step.completed in
    walk_join _ (form_at heap (behind_step place step)) _ (lines_of step) (flat_map lines_of steps) (step_walk heap place step is few one)
    (steps_walk heap (behind_step place step) steps is (omega arith) more)

-- ---- the whole journal

places_small : (slots fields : ℕ) → slots ≤ 65535 → fields ≤ 16 → slots * fields < 2 ^ 64
places_small slots fields a b = let one : slots * fields ≤ slots * 16 = mul-le-mul_left slots b in omega arith

is_heap : (heap : Heap) → AreHeapNumbers (heap_numbers heap) → IsHeap heap
is_heap heap are =
    record {
      slots = are.slots.most;
      places = places_small heap.slots heap.fields are.slots.most are.fields.most;
      some = are.mutators.some;
      mutators = are.mutators.most;
    }

opening_walk : (heap : Heap) → AreHeapNumbers (heap_numbers heap) → Walk (form_of []) (opening_lines heap) (form_at heap (first_place heap))
opening_walk heap are =
    let slots : heap.slots ≤ 65535 = are.slots.most in
    let fields : heap.fields ≤ 16 = are.fields.most in
    let registers : heap.registers ≤ 64 = are.registers.most in
    let mutators : heap.mutators ≤ 63 = are.mutators.most in
    let first : heap.first ≤ 16777215 = are.first.most in
    record {
      fits = (
        record { stage = refl; numbers = record { one = refl; version = refl }; fits = all_cons Small 1 [] (omega arith) (all_none Small) },
        (
          record {
            stage = refl;
            numbers = are;
            fits = all_cons Small heap.slots (heap.fields ∷ heap.registers ∷ heap.mutators ∷ heap.first ∷ []) (omega arith) (all_cons Small heap.fields (heap.registers ∷ heap.mutators ∷ heap.first ∷ []) (omega arith) (all_cons Small heap.registers (heap.mutators ∷ heap.first ∷ []) (omega arith) (all_cons Small heap.mutators (heap.first ∷ []) (omega arith) (all_cons Small heap.first [] (omega arith) (all_none Small)))));
          },
          tt,
        ),
      );
      ends = refl;
    }

-- all lines of a journal stand, and behind them is awaited what the collector's place says
journal_stands : (heap : Heap) (steps : List Shown) → AreHeapNumbers (heap_numbers heap) → Keep heap (first_place heap) steps → Stand (journal heap steps) × (form_of (journal heap steps) ≡ form_at heap (behind_steps (first_place heap) steps))
journal_stands heap steps are keeps =
    let first : heap.first ≤ 16777215 = are.first.most in
    stand_walk [] (journal heap steps) (form_at heap (behind_steps (first_place heap) steps)) clean_none.stand
    (walk_join _ (form_at heap (first_place heap)) _ (opening_lines heap) (flat_map lines_of steps) (opening_walk heap are)
    (steps_walk heap (first_place heap) steps (is_heap heap are) (omega arith) keeps))

pub stands : (heap : Heap) (steps : List Shown) → AreHeapNumbers (heap_numbers heap) → Keep heap (first_place heap) steps → Stand (journal heap steps)
stands heap steps are keeps = (journal_stands heap steps are keeps).0

pub in_form : (heap : Heap) (steps : List Shown) → AreHeapNumbers (heap_numbers heap) → Keep heap (first_place heap) steps → (behind_steps (first_place heap) steps).working ≡ false → IsInForm (journal heap steps)
in_form heap steps are keeps idle =
    record {
      stand = stands heap steps are keeps;
      whole = ap (λ (f : Form). f.stage) (journal_stands heap steps are keeps).1 ∙ ap stage_for idle;
    }
