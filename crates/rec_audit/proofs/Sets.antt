-- A journal tells of as many sets as passed both tests. Where no line is at fault, that is what is said of it.
use Rattle.std.proofs.Common.{◌≡◌, ◌∙◌, ℕ, ◌+◌, ◌≤◌, ◌==◌, Bool, true, false, cond, List, [], ◌∷◌, ◌++◌, length, map, Option, None, Some, refl, ap, subst, arith}
use Rattle.std.specs.List.{count_by, flat_map, enumerate_from}
use Rattle.std.specs.Option.{is_some}
use Rattle.std.proofs.lemmas.List.Sums.{sum_by-append, sum_by-cons}
use Rattle.rec_word.specs.declared.op.Op.{Op}
use Rattle.rec_word.specs.declared.op.Op.TheVariants.{ClearField, FreeHeader}
use Rattle.rec_log.specs.declared.contents.Contents.{Contents}
use Rattle.rec_log.specs.declared.entry.Entry.{Entry}
use Rattle.rec_log.specs.declared.entry.Entry.TheVariants.{Put, Born}
use Rattle.rec_collector.specs.Shown.{Batch, Shown}
use Rattle.rec_audit.specs.declared.kind.Kind.TheVariants as kinds
use Rattle.rec_audit.specs.declared.form.Heap.{Heap}
use Rattle.rec_audit.specs.declared.verdict.Verdict.TheVariants.{Yes}
use Rattle.rec_audit.specs.Lines.{Line, text_of}
use Rattle.rec_audit.specs.Form.{AreHeapNumbers, IsInForm}
use Rattle.rec_audit.specs.Graph.{is_free}
use Rattle.rec_audit.specs.Journal.{batch_lines, completed_lines, entry_line, heap_numbers, journal, line_of, lines_of, op_lines, opening_lines, part_lines, passed_lines, sets_passed, snap_line}
use Rattle.rec_audit.specs.Keeping.{Keep, behind_steps, first_place}
use Rattle.rec_audit.specs.Verdicts.{IsClean, IsVerdict}
use Rattle.rec_audit.specs.Verdicts.IsVerdict.{yes}
use Rattle.rec_audit.proofs.Forming.{in_form, part}

abbrev frees : Line → ℕ
frees line = cond (is_free line.kind) 1 0

abbrev pub sets : List Line → ℕ
sets lines = count_by (λ line. is_free line.kind) lines

sets_append : (xs ys : List Line) → sets (xs ++ ys) ≡ sets xs + sets ys
sets_append xs ys = sum_by-append frees xs ys

entries_none : (t : ℕ) (entries : List Entry) → sets (map (entry_line t) entries) ≡ 0
entries_none t [] = refl
entries_none t (Put place new old ∷ entries) = let more : sets (map (entry_line t) entries) ≡ 0 = entries_none t entries in omega arith
entries_none t (Born slot leaf ∷ entries) = let more : sets (map (entry_line t) entries) ≡ 0 = entries_none t entries in omega arith

part_none : (t : ℕ) (buffer : Contents) → sets (part_lines t buffer) ≡ 0
part_none t buffer =
    let entries : sets (map (entry_line t) buffer.entries) ≡ 0 = entries_none t buffer.entries in
    let snap : sets (snap_line t buffer.snapshot ∷ []) ≡ 0 = refl in
    let both : sets (part_lines t buffer) ≡ sets (map (entry_line t) buffer.entries) + sets (snap_line t buffer.snapshot ∷ []) = sets_append (map (entry_line t) buffer.entries) (snap_line t buffer.snapshot ∷ []) in
    omega (arith, both, entries, snap)

parts_none : (n : ℕ) (buffers : List Contents) → sets (flat_map part (enumerate_from n buffers)) ≡ 0
parts_none n [] = refl
parts_none n (b ∷ bs) =
    let rest : List Line = flat_map part (enumerate_from (n + 1) bs) in
    let first : sets (part_lines n b) ≡ 0 = part_none n b in
    let more : sets rest ≡ 0 = parts_none (n + 1) bs in
    let both : sets (part_lines n b ++ rest) ≡ sets (part_lines n b) + sets rest = sets_append (part_lines n b) rest in
    both ∙ ap (λ k. k + sets rest) first ∙ ap (λ k. 0 + k) more

batch_none : (batch : Option Batch) → sets (batch_lines batch) ≡ 0
batch_none None = refl
batch_none (Some batch) = let parts : sets (flat_map part (enumerate_from 1 batch.newer)) ≡ 0 = parts_none 1 batch.newer in omega arith

op_none : (op : Op) (word : ℕ) → sets (op_lines op word) ≡ 0
op_none (ClearField place) word = at (word == 0)
  where
    at : (b : Bool) → sets (cond b [] (line_of kinds.Out (place ∷ word ∷ []) ∷ [])) ≡ 0
    at true = refl
    at false = refl
op_none (FreeHeader slot) word = refl
op_none _ word = refl

passed_one : (passed : Option (List ℕ)) → sets (passed_lines passed) ≡ cond (is_some passed) 1 0
passed_one None = refl
passed_one (Some members) = refl

completed_none : (completed : Option ℕ) → sets (completed_lines completed) ≡ 0
completed_none None = refl
completed_none (Some epoch) = refl

step_sets : (step : Shown) → sets (lines_of step) ≡ cond (is_some step.passed) 1 0
step_sets step =
    let a : List Line = batch_lines step.batch in
    let b : List Line = op_lines step.op step.word in
    let c : List Line = passed_lines step.passed in
    let d : List Line = completed_lines step.completed in
    four (sets a) (sets b) (sets c) (sets d) (sets (c ++ d)) (sets (b ++ (c ++ d))) (sets (a ++ (b ++ (c ++ d)))) (cond (is_some step.passed) 1 0)
    (sets_append c d) (sets_append b (c ++ d)) (sets_append a (b ++ (c ++ d))) (batch_none step.batch) (op_none step.op step.word) (passed_one step.passed) (completed_none step.completed)
  where
    four : (a b c d cd bcd abcd n : ℕ) → cd ≡ c + d → bcd ≡ b + cd → abcd ≡ a + bcd → a ≡ 0 → b ≡ 0 → c ≡ n → d ≡ 0 → abcd ≡ n
    four a b c d cd bcd abcd n e f g h i j k = omega arith

steps_sets : (steps : List Shown) → sets (flat_map lines_of steps) ≡ sets_passed steps
steps_sets [] = refl
steps_sets (step ∷ steps) =
    let all : sets (flat_map lines_of (step ∷ steps)) ≡ sets (lines_of step) + sets (flat_map lines_of steps) = sets_append (lines_of step) (flat_map lines_of steps) in
    let one : sets (lines_of step) ≡ cond (is_some step.passed) 1 0 = step_sets step in
    let more : sets (flat_map lines_of steps) ≡ sets_passed steps = steps_sets steps in
    let next : sets_passed (step ∷ steps) ≡ cond (is_some step.passed) 1 0 + sets_passed steps = sum_by-cons (λ (s : Shown). cond (is_some s.passed) 1 0) step steps in
    omega (arith, all, one, more, next)

journal_sets : (heap : Heap) (steps : List Shown) → sets (journal heap steps) ≡ sets_passed steps
journal_sets heap steps =
    let both : sets (journal heap steps) ≡ sets (opening_lines heap) + sets (flat_map lines_of steps) = sets_append (opening_lines heap) (flat_map lines_of steps) in
    let none : sets (opening_lines heap) ≡ 0 = refl in
    let more : sets (flat_map lines_of steps) ≡ sets_passed steps = steps_sets steps in
    sum (sets (journal heap steps)) (sets (opening_lines heap)) (sets (flat_map lines_of steps)) (sets_passed steps) both none more
  where
    sum : (a b c d : ℕ) → a ≡ b + c → b ≡ 0 → c ≡ d → a ≡ d
    sum a b c d e f g = omega arith

-- no line is at fault, so this is said
pub answered : (heap : Heap) (steps : List Shown) → AreHeapNumbers (heap_numbers heap) → Keep heap (first_place heap) steps → (behind_steps (first_place heap) steps).working ≡ false
    → ((before : List Line) (line : Line) (after : List Line) → journal heap steps ≡ before ++ line ∷ after → IsClean before line)
    → length (text_of (journal heap steps)) ≤ 16777216 → IsVerdict (text_of (journal heap steps)) (Yes (sets_passed steps))
answered heap steps are keeps idle clean short =
    let form : IsInForm (journal heap steps) = in_form heap steps are keeps idle in
    subst (λ n. IsVerdict (text_of (journal heap steps)) (Yes n)) (journal_sets heap steps)
    (yes (journal heap steps) short refl (record { stand = form.stand; clean = clean }) form.whole)
