-- What a line that may stand tells, by its kind.
use Rattle.std.proofs.Common.{◌≡◌, ◌<◌, ◌≤◌, ◌+◌, ◌*◌, ◌/◌, ◌&&◌, ℕ, Bool, true, false, cond, List, [], ◌∷◌, ◌++◌, Some, nat_lt, length, get_or, filter, count_by, length-append, ◌≢◌, refl, sym, ap, ◌∙◌, subst, arith}
use Rattle.std.proofs.Math.Nat.{div-lt_iff_lt-mul}
use Rattle.std.proofs.lemmas.Bool.{false≢true}
use Rattle.std.proofs.lemmas.List.Elements.{filter-append}
use Rattle.std.proofs.lemmas.List.Sums.{length-filter}
use Rattle.rec_audit.specs.declared.kind.Kind.{Kind}
use Rattle.rec_audit.specs.declared.kind.Kind.TheVariants.{Title, Heap, Epoch, Put, Born, Snap, Out, Free, Sweep, End}
use Rattle.rec_audit.specs.declared.form.Stage.TheVariants as stages
use Rattle.rec_audit.specs.declared.form.Form.{Form}
use Rattle.rec_audit.specs.declared.checker.Checker.{Checker}
use Rattle.rec_audit.specs.declared.graph.Graph.{Graph}
use Rattle.std.proofs.lemmas.Bool.Decides.{nat_tests}
use Rattle.rec_audit.specs.Lines.{Line, AreNumbers, name_of, numerals, text_of_line}
use Rattle.rec_audit.proofs.Texts.{ended, line_text, same_line}
use Rattle.rec_audit.specs.Form.{HasNumbers, MayStand, Stand, behind, form_of, heap_in, is_heap, stage_behind, stage_of}
use Rattle.rec_audit.specs.Graph.{HasReached, has_target, is_free, is_opened, is_put, opens}
use Rattle.rec_audit.specs.Graphs.{IsGraphOf, TellNothing}
use Rattle.rec_audit.specs.Verdicts.{GoesOn, HasFault, HasStampFault, IsClean, IsFaultBy}
use Rattle.rec_audit.specs.Verdicts.HasFault.{form as unfit, stamp, reach}
use Rattle.rec_audit.specs.declared.verdict.Rule.{Rule}
use Rattle.rec_audit.specs.declared.verdict.Rule.TheVariants.{Long, Form as FormRule, Stamp, Reach}
use Rattle.rec_audit.specs.Checkers.{Knows}
use Rattle.rec_audit.proofs.Grown.{told_heap}
use Rattle.rec_audit.proofs.Knowing.{clean_more, form_more, title_before}
use Rattle.rec_audit.specs.Journal.{line_of}

-- its numbers are those of its kind
pub numbers_of : (form : Form) (kind other : Kind) (numbers : List ℕ) → kind ≡ other → MayStand form (line_of kind numbers) → HasNumbers form other numbers
numbers_of form kind other numbers is stands = subst (λ (k : Kind). HasNumbers form k numbers) is stands.numbers

-- the heap behind a line is told by its own line alone
pub heap_kept : (form : Form) (kind other : Kind) (numbers : List ℕ) → kind ≡ other → is_heap other ≡ false → (behind form (line_of kind numbers)).heap.slots ≡ form.heap.slots
heap_kept form kind other numbers is no-heap = ap (λ b. (cond b (heap_in (Some (line_of kind numbers))) form.heap).slots) (ap is_heap is ∙ no-heap)

pub heap_told : (form : Form) (kind : Kind) (numbers : List ℕ) → kind ≡ Heap → (behind form (line_of kind numbers)).heap.slots ≡ get_or numbers 0 0
heap_told form kind numbers is = ap (λ b. (cond b (heap_in (Some (line_of kind numbers))) form.heap).slots) (ap is_heap is)

-- behind its line the graph tells nothing but the heap
pub told_behind : (lines : List Line) (form : Form) (kind : Kind) (numbers : List ℕ) → kind ≡ Heap → MayStand form (line_of kind numbers) → Stand lines → form ≡ form_of lines → TellNothing (lines ++ line_of kind numbers ∷ []) (get_or numbers 0 0)
told_behind lines form kind numbers is stands stand at =
    let stage : stage_behind lines ≡ stages.Heap = sym (ap (λ (f : Form). f.stage) at) ∙ sym stands.stage ∙ ap (λ k. stage_of k (get_or numbers 0 0)) is in
    let title = title_before lines stand stage in
    subst (λ (k : Kind). TellNothing (lines ++ line_of k numbers ∷ []) (get_or numbers 0 0)) (sym is)
    (subst (λ (ls : List Line). TellNothing (ls ++ line_of Heap numbers ∷ []) (get_or numbers 0 0)) (sym title.1) (told_heap title.0 numbers))

pub some_fields : (place slots fields : ℕ) → place < slots * fields → fields ≡ 0 → ⊥
some_fields place slots fields within none = omega (arith, within, ap (λ (n : ℕ). slots * n) none)

-- a field's slot is one of the heap
pub source_within : (place slots fields : ℕ) → place < slots * fields → place / fields < slots
source_within place slots fields within =
    let apart : fields ≢ 0 = some_fields place slots fields within in
    let some : 0 < fields = omega arith in
    (div-lt_iff_lt-mul some).1 within

-- ---- faults

pub stamp_fault : (lines : List Line) (kind : Kind) (numbers : List ℕ) → kind ≡ Put → has_target (get_or numbers 2 0) ≡ true → is_opened lines (get_or numbers 2 0) ≡ true → HasStampFault lines (line_of kind numbers)
stamp_fault lines kind numbers is target opened = record { opens = ap (λ k. is_put k && has_target (get_or numbers 2 0)) is ∙ target; opened = opened }

no_free : Put ≡ Free → ⊥
no_free e = cc

-- a word that has no target, or that no line has put
pub put_clean : (lines : List Line) (kind : Kind) (numbers : List ℕ) → kind ≡ Put → (has_target (get_or numbers 2 0) ≡ true → is_opened lines (get_or numbers 2 0) ≡ true → ⊥) → IsClean lines (line_of kind numbers)
put_clean lines kind numbers is new =
    record {
      stamp = λ fault. new (sym (ap (λ k. is_put k && has_target (get_or numbers 2 0)) is) ∙ fault.opens) fault.opened;
      reach = λ fault. no_free (sym is ∙ fault.kind);
    }

pub free_clean : (lines : List Line) (kind : Kind) (numbers : List ℕ) → kind ≡ Free → (HasReached lines numbers → ⊥) → IsClean lines (line_of kind numbers)
free_clean lines kind numbers is unreached =
    record {
      stamp = λ fault. false≢true (sym (ap (λ k. is_put k && has_target (get_or numbers 2 0)) is) ∙ fault.opens);
      reach = λ fault. unreached fault.reached;
    }

pub other_clean : (lines : List Line) (kind : Kind) (numbers : List ℕ) → (kind ≡ Put → ⊥) → (kind ≡ Free → ⊥) → IsClean lines (line_of kind numbers)
other_clean lines kind numbers no-put no-free =
    record {
      stamp = λ fault. put kind fault.opens no-put;
      reach = λ fault. no-free fault.kind;
    }
  where
    put : (k : Kind) → (is_put k && has_target (get_or numbers 2 0)) ≡ true → (k ≡ Put → ⊥) → ⊥
    put Put opens none = none refl
    put Title opens none = false≢true opens
    put Heap opens none = false≢true opens
    put Epoch opens none = false≢true opens
    put Born opens none = false≢true opens
    put Snap opens none = false≢true opens
    put Out opens none = false≢true opens
    put Free opens none = false≢true opens
    put Sweep opens none = false≢true opens
    put End opens none = false≢true opens

-- ---- a line more

abbrev free : Line → Bool
free l = is_free l.kind

free_more : (lines : List Line) (line : Line) → count_by (λ l. is_free l.kind) (lines ++ line ∷ []) ≡ count_by (λ l. is_free l.kind) lines + cond (is_free line.kind) 1 0
free_more lines line =
    sym (length-filter free (lines ++ line ∷ []))
    ∙ ap (length {A = Line}) (filter-append free lines (line ∷ []))
    ∙ length-append (filter free lines) (filter free (line ∷ []))
    ∙ ap (λ (n : ℕ). n + length (filter free (line ∷ []))) (length-filter free lines)
    ∙ ap (λ (n : ℕ). count_by free lines + n) (one (is_free line.kind))
  where
    one : (b : Bool) → length (cond b (line ∷ []) []) ≡ cond b 1 0
    one true = refl
    one false = refl

pub knows_more : (lines : List Line) (line : Line) (c d : Checker) → Knows lines c → MayStand c.form line → IsClean lines line → IsGraphOf (lines ++ line ∷ []) d.graph → d.form ≡ behind c.form line → d.sets ≡ c.sets + cond (is_free line.kind) 1 0 → Knows (lines ++ line ∷ []) d
knows_more lines line c d knows stands clean graph form sets =
    record {
      clean = clean_more lines line knows.clean (subst (λ (f : Form). MayStand f line) knows.form stands) clean;
      form = form ∙ ap (λ (f : Form). behind f line) knows.form ∙ sym (form_more lines line);
      graph = graph;
      sets = sets ∙ ap (λ (n : ℕ). n + cond (is_free line.kind) 1 0) knows.sets ∙ sym (free_more lines line);
    }

-- looking for a fault changes nothing that is known
pub knows_still : (lines : List Line) (c : Checker) (graph : Graph) → Knows lines c → IsGraphOf lines graph → Knows lines (record c { graph = graph })
knows_still lines c graph knows is = record { clean = knows.clean; form = knows.form; graph = is; sets = knows.sets }

pub few_sets : (kind : Kind) → cond (is_free kind) 1 0 ≤ 1
few_sets kind = at (is_free kind)
  where
    at : (b : Bool) → cond b 1 0 ≤ 1
    at true = omega arith
    at false = omega arith

pub some_target : (n : ℕ) → (n ≡ 0 → ⊥) → nat_lt 0 n ≡ true
some_target n some = grind (arith, nat_tests)

-- ---- the line at the front of bytes

pub fault_of : (rule : Rule) (lines : List Line) (bytes : List ℕ) (line : Line) → IsFaultBy rule lines line → GoesOn lines bytes line → HasFault lines bytes rule
fault_of Long lines bytes line is goes = absurd is
fault_of FormRule lines bytes line is goes = absurd is
fault_of Stamp lines bytes line is goes = stamp line goes is
fault_of Reach lines bytes line is goes = reach line goes is

pub longer : (bytes rest : List ℕ) (line : Line) → bytes ≡ text_of_line line ++ rest → length rest < length bytes
longer bytes rest line is =
    omega (arith, ap (length {A = ℕ}) (is ∙ line_text line rest), length-append (name_of line.kind) (ended line.numbers rest), length-append (numerals line.numbers) (10 ∷ rest))

-- no line goes on, as none has its text there
pub none_goes : (lines : List Line) (bytes : List ℕ) → 0 < length bytes → ((line : Line) (rest : List ℕ) → AreNumbers line.numbers → bytes ≡ text_of_line line ++ rest → ⊥) → HasFault lines bytes FormRule
none_goes lines bytes some none = unfit (λ line goes. none line goes.rest goes.stands.fits goes.text) (λ end. omega (arith, some, ap (length {A = ℕ}) end.0))

-- or as the one that has may not stand
pub none_stands : (lines : List Line) (bytes rest : List ℕ) (at : Form) (line : Line) → at ≡ form_of lines → 0 < length bytes → bytes ≡ text_of_line line ++ rest → AreNumbers line.numbers → (MayStand at line → ⊥) → HasFault lines bytes FormRule
none_stands lines bytes rest at line is some text fit shut =
    unfit
    (λ other goes.
    let same : line ≡ other = (same_line line other rest goes.rest fit goes.stands.fits (sym text ∙ goes.text)).0 in
    shut (subst (λ (f : Form). MayStand f line) (sym is) (subst (λ (l : Line). MayStand (form_of lines) l) (sym same) goes.stands)))
    (λ end. omega (arith, some, ap (length {A = ℕ}) end.0))

pub goes_on : (lines : List Line) (bytes rest : List ℕ) (at : Form) (line : Line) → at ≡ form_of lines → bytes ≡ text_of_line line ++ rest → MayStand at line → GoesOn lines bytes line
goes_on lines bytes rest at line is text stands = record { stands = subst (λ (f : Form). MayStand f line) is stands; rest = rest; text = text }
