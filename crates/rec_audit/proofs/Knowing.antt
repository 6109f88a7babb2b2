-- What is known of lines, and of one line more.
use Rattle.std.proofs.Common.{◌≡◌, ◌+◌, ℕ, Bool, true, false, cond, nat_lt, List, [], ◌∷◌, ◌++◌, length, Some, ◌⊎◌, inl, inr, refl, sym, ap, ◌∙◌, subst, arith, length-append}
use Rattle.rec_audit.specs.declared.kind.Kind.{Kind}
use Rattle.rec_audit.specs.declared.kind.Kind.TheVariants.{Title, Heap, Epoch, Put, Born, Snap, Out, Free, Sweep, End}
use Rattle.rec_audit.specs.declared.form.Stage.{Stage}
use Rattle.rec_audit.specs.declared.form.Stage.TheVariants as stages
use Rattle.rec_audit.specs.declared.form.Heap.{Heap as HeapNumbers}
use Rattle.rec_audit.specs.declared.form.Form.{Form}
use Rattle.rec_audit.specs.Lines.{Line}
use Rattle.rec_audit.specs.Form.{MayStand, Stand, behind, form_of, heap_in, heap_of, is_heap, is_numbering, last_that, leads_to, next_block, next_in, number, number_behind, stage_behind, stage_in, stage_of}
use Rattle.rec_audit.specs.Verdicts.{AreClean, IsClean}
use Rattle.rec_audit.proofs.LinesGrown.{last_more, last_new}

-- ---- a line among others and one more

-- it is the last one, or one of the others
pub split_push : (lines before after : List Line) (l line : Line) → lines ++ l ∷ [] ≡ before ++ line ∷ after → ((lines ≡ before) × (l ≡ line)) ⊎ ((rest : List Line) × (lines ≡ before ++ line ∷ rest))
split_push [] [] after l line e = inl (refl, cc)
split_push [] (b ∷ bs) after l line e = absurd (omega (arith, ap (length {A = Line}) e, length-append bs (line ∷ after)))
split_push (x ∷ xs) [] after l line e = let same : x ≡ line = cc in inr (xs, ap (λ y. y ∷ xs) same)
split_push (x ∷ xs) (b ∷ bs) after l line e =
    let head : x ≡ b = cc in
    let tail : xs ++ l ∷ [] ≡ bs ++ line ∷ after = cc in
    elim (split_push xs bs after l line tail) [
      | inl same ↦ inl (let first : xs ≡ bs = same.0 in cc, same.1)
      | inr more ↦ inr (more.0, let rest : xs ≡ bs ++ line ∷ more.0 = more.1 in cc)
    ]

pub clean_none : AreClean []
clean_none = record { stand = λ before line after e. absurd (none before line after e); clean = λ before line after e. absurd (none before line after e) }
  where
    none : (before : List Line) (line : Line) (after : List Line) → [] ≡ before ++ line ∷ after → ⊥
    none before line after e = omega (arith, ap (length {A = Line}) e, length-append before (line ∷ after))

pub clean_more : (lines : List Line) (l : Line) → AreClean lines → MayStand (form_of lines) l → IsClean lines l → AreClean (lines ++ l ∷ [])
clean_more lines l are stands clean =
    record {
      stand = λ before line after e. stand before line after (split_push lines before after l line e);
      clean = λ before line after e. at before line after (split_push lines before after l line e);
    }
  where
    stand : (before : List Line) (line : Line) (after : List Line) → ((lines ≡ before) × (l ≡ line)) ⊎ ((rest : List Line) × (lines ≡ before ++ line ∷ rest)) → MayStand (form_of before) line
    stand before line after (inl same) = subst (λ (x : Line). MayStand (form_of before) x) same.1 (subst (λ (ls : List Line). MayStand (form_of ls) l) same.0 stands)
    stand before line after (inr more) = are.stand before line more.0 more.1

    at : (before : List Line) (line : Line) (after : List Line) → ((lines ≡ before) × (l ≡ line)) ⊎ ((rest : List Line) × (lines ≡ before ++ line ∷ rest)) → IsClean before line
    at before line after (inl same) = subst (λ (x : Line). IsClean before x) same.1 (subst (λ (ls : List Line). IsClean ls l) same.0 clean)
    at before line after (inr more) = are.clean before line more.0 more.1

-- ---- where a journal stands behind a line more

pub heap_more : (lines : List Line) (line : Line) → heap_of (lines ++ line ∷ []) ≡ cond (is_heap line.kind) (heap_in (Some line)) (heap_of lines)
heap_more lines line = ap heap_in (last_more (λ l. is_heap l.kind) lines line) ∙ at (is_heap line.kind)
  where
    at : (b : Bool) → heap_in (cond b (Some line) (last_that (λ l. is_heap l.kind) lines)) ≡ cond b (heap_in (Some line)) (heap_of lines)
    at true = refl
    at false = refl

pub next_more : (lines : List Line) (line : Line) → next_block (lines ++ line ∷ []) ≡ cond (is_numbering line.kind) (number_behind line.kind line.numbers) (next_block lines)
next_more lines line = ap next_in (last_more (λ l. is_numbering l.kind) lines line) ∙ at (is_numbering line.kind)
  where
    at : (b : Bool) → next_in (cond b (Some line) (last_that (λ l. is_numbering l.kind) lines)) ≡ cond b (number_behind line.kind line.numbers) (next_block lines)
    at true = refl
    at false = refl

pub stage_more : (lines : List Line) (line : Line) → stage_behind (lines ++ line ∷ []) ≡ leads_to (heap_of (lines ++ line ∷ [])).mutators line.kind (number 0 line)
stage_more lines line = ap (stage_in (heap_of (lines ++ line ∷ [])).mutators) (last_new (λ l. true) lines line refl)

pub form_more : (lines : List Line) (line : Line) → form_of (lines ++ line ∷ []) ≡ behind (form_of lines) line
form_more lines line =
    both (heap_of (lines ++ line ∷ [])) (cond (is_heap line.kind) (heap_in (Some line)) (heap_of lines)) (stage_behind (lines ++ line ∷ [])) (leads_to (heap_of (lines ++ line ∷ [])).mutators line.kind (number 0 line)) (next_block (lines ++ line ∷ [])) (cond (is_numbering line.kind) (number_behind line.kind line.numbers) (next_block lines))
    (heap_more lines line) (stage_more lines line) (next_more lines line)
    ∙ ap (λ (h : HeapNumbers). let f : Form = record { heap = cond (is_heap line.kind) (heap_in (Some line)) (heap_of lines); stage = leads_to h.mutators line.kind (number 0 line); next = cond (is_numbering line.kind) (number_behind line.kind line.numbers) (next_block lines) } in f) (heap_more lines line)
  where
    both : (a b : HeapNumbers) (s t : Stage) (m n : ℕ) → a ≡ b → s ≡ t → m ≡ n → let f : Form = record { heap = a; stage = s; next = m } in f ≡ record { heap = b; stage = t; next = n }
    both a b s t m n e f g =
        ap (λ (h : HeapNumbers). let f : Form = record { heap = h; stage = s; next = m } in f) e
        ∙ ap (λ (u : Stage). let f : Form = record { heap = b; stage = u; next = m } in f) f
        ∙ ap (λ (k : ℕ). let f : Form = record { heap = b; stage = t; next = k } in f) g

-- ---- the line of the heap stands behind the title alone

last_view : (lines : List Line) → (lines ≡ []) ⊎ ((before : List Line) × (line : Line) × (lines ≡ before ++ line ∷ []))
last_view [] = inl refl
last_view (x ∷ xs) =
    elim (last_view xs) [
      | inl none ↦ inr ([], x, ap (λ t. x ∷ t) none)
      | inr more ↦ inr (x ∷ more.0, more.1, ap (λ t. x ∷ t) more.2)
    ]

leads_to_heap : (m : ℕ) (k : Kind) (n : ℕ) → leads_to m k n ≡ stages.Heap → k ≡ Title
leads_to_heap m Title n e = refl
leads_to_heap m Heap n e = absurd (cc)
leads_to_heap m Epoch n e = absurd (cc)
leads_to_heap m Put n e = absurd (cc)
leads_to_heap m Born n e = absurd (cc)
leads_to_heap m Snap n e = absurd (at (nat_lt n m) e)
  where
    at : (b : Bool) → cond b (stages.Part (n + 1)) stages.Steps ≡ stages.Heap → ⊥
    at true e = cc
    at false e = cc
leads_to_heap m Out n e = absurd (cc)
leads_to_heap m Free n e = absurd (cc)
leads_to_heap m Sweep n e = absurd (cc)
leads_to_heap m End n e = absurd (cc)

leads_to_title : (m : ℕ) (k : Kind) (n : ℕ) → leads_to m k n ≡ stages.Title → ⊥
leads_to_title m Title n e = cc
leads_to_title m Heap n e = cc
leads_to_title m Epoch n e = cc
leads_to_title m Put n e = cc
leads_to_title m Born n e = cc
leads_to_title m Snap n e = at (nat_lt n m) e
  where
    at : (b : Bool) → cond b (stages.Part (n + 1)) stages.Steps ≡ stages.Title → ⊥
    at true e = cc
    at false e = cc
leads_to_title m Out n e = cc
leads_to_title m Free n e = cc
leads_to_title m Sweep n e = cc
leads_to_title m End n e = cc

-- nothing stands before the title
no_line_before : (lines : List Line) → stage_behind lines ≡ stages.Title → lines ≡ []
no_line_before lines e =
    elim (last_view lines) [
      | inl none ↦ none
      | inr more ↦ absurd (leads_to_title (heap_of (more.0 ++ more.1 ∷ [])).mutators more.1.kind (number 0 more.1) (sym (stage_more more.0 more.1) ∙ ap stage_behind (sym more.2) ∙ e))
    ]

-- and the title alone before the heap
pub title_before : (lines : List Line) → Stand lines → stage_behind lines ≡ stages.Heap → (title : List ℕ) × (let l : Line = record { kind = Title; numbers = title } in lines ≡ l ∷ [])
title_before lines stand e =
    elim (last_view lines) [
      | inl none ↦ absurd (let at : stage_behind [] ≡ stages.Heap = ap stage_behind (sym none) ∙ e in no_heap at)
      | inr more ↦ at more.0 more.1 more.2
    ]
  where
    no_heap : stages.Title ≡ stages.Heap → ⊥
    no_heap f = cc

    at : (before : List Line) (line : Line) → lines ≡ before ++ line ∷ [] → (title : List ℕ) × (let l : Line = record { kind = Title; numbers = title } in lines ≡ l ∷ [])
    at before line is =
        let kind : line.kind ≡ Title = leads_to_heap (heap_of (before ++ line ∷ [])).mutators line.kind (number 0 line) (sym (stage_more before line) ∙ ap stage_behind (sym is) ∙ e) in
        let none : before ≡ [] = no_line_before before (sym (stand before line [] is).stage ∙ ap (λ k. stage_of k (number 0 line)) kind) in
        (line.numbers, is ∙ ap (λ t. t ++ line ∷ []) none ∙ ap (λ k. let l : Line = record { kind = k; numbers = line.numbers } in l ∷ []) kind)
