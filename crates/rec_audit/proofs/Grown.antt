-- The graph of some lines, and of one line more.
use Rattle.std.proofs.Common.{◌≡◌, ◌<◌, ◌/◌, ◌-◌, ◌==◌, ◌&&◌, ◌||◌, ℕ, Bool, true, false, cond, not, nat_eq, List, [], ◌∷◌, ◌++◌, length, get_or, set, replicate, map, filter, refl, sym, ap, ◌∙◌, subst, arith, ⊎_elim, inl, inr, length-set}
use Rattle.std.specs.List.{flat_map, list_any, range_with_len}
use Rattle.std.specs.HashSet.{contains}
use Rattle.std.proofs.lemmas.Bool.{cases_eq, cases_lt, or_cases, eq-eqb, ne_eqb, false≢true}
use Rattle.std.proofs.lemmas.List.{length-replicate, get_or-replicate, get_or_past, get_or-set_same, get_or-set_other}
use Rattle.std.specs.List.{All}
use Rattle.std.proofs.lemmas.List.FromFn.{get_or-range_with_len, length-range_with_len}
use Rattle.std.proofs.lemmas.List.Elements.{filter-append, All-head, All-tail}
use Rattle.std.proofs.lemmas.List.Folds.{list_any-append}
use Rattle.std.proofs.Math.Bool.{or-false, or-true}
use Rattle.rec_model.specs.Reach.{is_in}
use Rattle.rec_model.proofs.Members.{is_in-cons}
use Rattle.rec_word.specs.Word.{target_bits}
use Rattle.rec_audit.specs.declared.kind.Kind.{Kind}
use Rattle.rec_audit.specs.declared.kind.Kind.TheVariants.{Title, Heap, Out, Sweep}
use Rattle.rec_audit.specs.declared.references.Edge.{Edge}
use Rattle.rec_audit.specs.declared.references.References.{References}
use Rattle.rec_audit.specs.Lines.{Line}
use Rattle.rec_audit.specs.Form.{number, heap_of, is_heap, is_epoch}
use Rattle.rec_audit.specs.Graph.{held, has_target, is_born, is_dead, is_opened, is_out, is_put, is_sweep, is_taken, named_by, opens, opens_from, roots, target_in, targets}
use Rattle.rec_audit.specs.States.{HasNoReferences, Puts, TakesOut, EndsBlock, edge_of, edges_at, edges_of, into_of, with_edge, without}
use Rattle.rec_audit.specs.Walks.{ArePruned, free_slots}
use Rattle.rec_audit.specs.declared.slots.Slots.{Slots}
use Rattle.rec_audit.specs.declared.graph.Graph.{Graph}
use Rattle.rec_audit.specs.declared.known.Known.{Known}
use Rattle.rec_audit.specs.Known.{AreKnown, IsKnownOf}
use Rattle.rec_audit.specs.Graphs.{AreReferences, IsGraphOf, IsPutLine, IsBornLine, IsSnapLine, IsOutLine, IsSweepLine, IsEpochLine, TellNothing, closing_in, named_in, opened_from, opened_to, opens_to, slots_of}
use Rattle.rec_counts.proofs.ToldSlots.{filter_same}
use Rattle.rec_audit.proofs.LinesGrown.{back_of, closing_put, closing_same, dead_epoch, dead_out, dead_same, from_none, from_one, heap_same, named_more, named_same, opened_more, opened_same, taken_born, taken_same, taken_sweep, this_new, to_none, to_one}

-- ---- those that are left by a test

without_same : (d e : ℕ → Bool) → ((word : ℕ) → d word ≡ e word) → (es : List Edge) → without d es ≡ without e es
without_same d e same [] = refl
without_same d e same (x ∷ xs) =
    ap (λ b. cond (not b) (x ∷ without d xs) (without d xs)) (same x.word)
    ∙ ap (λ t. cond (not (e x.word)) (x ∷ t) t) (without_same d e same xs)

-- what is dead by a first test is dead by both
pub without_both : (d e : ℕ → Bool) → ((word : ℕ) → d word ≡ true → e word ≡ true) → (es : List Edge) → without e (without d es) ≡ without e es
without_both d e wider [] = refl
without_both d e wider (x ∷ xs) = at (without_both d e wider xs) (d x.word) refl
  where
    at : without e (without d xs) ≡ without e xs → (b : Bool) → d x.word ≡ b → without e (cond (not b) (x ∷ without d xs) (without d xs)) ≡ without e (x ∷ xs)
    at more true is = more ∙ sym (ap (λ b. cond (not b) (x ∷ without e xs) (without e xs)) (wider x.word is))
    at more false is = ap (λ t. cond (not (e x.word)) (x ∷ t) t) more

-- two lists that are alike but for dead ones stay alike where more are dead
alike_wider : (d e : ℕ → Bool) → ((word : ℕ) → d word ≡ true → e word ≡ true) → (xs ys : List Edge) → without d xs ≡ without d ys → without e xs ≡ without e ys
alike_wider d e wider xs ys alike = sym (without_both d e wider xs) ∙ ap (without e) alike ∙ without_both d e wider ys

alike_same : (d e : ℕ → Bool) → ((word : ℕ) → e word ≡ d word) → (xs ys : List Edge) → without d xs ≡ without d ys → without e xs ≡ without e ys
alike_same d e same xs ys alike = without_same e d same xs ∙ alike ∙ sym (without_same e d same ys)

alike_push : (d : ℕ → Bool) (xs ys : List Edge) (e : Edge) → without d xs ≡ without d ys → without d (xs ++ e ∷ []) ≡ without d (ys ++ e ∷ [])
alike_push d xs ys e alike = filter-append (λ e. not (d e.word)) xs (e ∷ []) ∙ ap (λ t. t ++ without d (e ∷ [])) alike ∙ sym (filter-append (λ e. not (d e.word)) ys (e ∷ []))

-- a list of references more at one slot, beside what lines have opened there
pushed : (d : ℕ → Bool) (edges : List (List Edge)) (at slot : ℕ) (e : Edge) (was is : List Edge) → at < length edges → without d (edges_at edges slot) ≡ without d was → (at ≡ slot → is ≡ was ++ e ∷ []) → ((at ≡ slot → ⊥) → is ≡ was) → without d (edges_at (with_edge edges at e) slot) ≡ without d is
pushed d edges at slot e was is within alike here there =
    elim (cases_eq at slot) [
      | inl same ↦
          ap (λ (k : ℕ). without d (edges_at (with_edge edges at e) k)) (sym same)
          ∙ ap (without d) (get_or-set_same edges at (edges_at edges at ++ e ∷ []) [] within)
          ∙ ap (λ (k : ℕ). without d (edges_at edges k ++ e ∷ [])) same
          ∙ alike_push d (edges_at edges slot) was e alike
          ∙ ap (without d) (sym (here same))
      | inr apart ↦ ap (without d) (get_or-set_other edges at slot (edges_at edges at ++ e ∷ []) [] (λ e. apart (sym e))) ∙ alike ∙ ap (without d) (sym (there apart))
    ]

-- ---- the references behind a line more

-- a line that tells nothing of them
references_same : (lines : List Line) (line : Line) (r : References) → is_put line.kind ≡ false → is_out line.kind ≡ false → is_epoch line.kind ≡ false → is_heap line.kind ≡ false → AreReferences lines r → AreReferences (lines ++ line ∷ []) r
references_same lines line r put out epoch heap are =
    record {
      opened = λ w. are.opened w ∙ sym (opened_same lines line w put);
      dead = λ w. are.dead w ∙ sym (dead_same lines line w out epoch);
      closing = are.closing ∙ sym (closing_same lines line epoch put);
      edges = λ s.
          alike_same (is_dead lines) (is_dead (lines ++ line ∷ [])) (λ w. dead_same lines line w out epoch) (edges_at (edges_of r) s) (opened_from lines s) (are.edges s)
          ∙ ap (without (is_dead (lines ++ line ∷ []))) (sym (from_none lines line s heap (ap (λ b. (b && has_target (number 2 line)) && (number 1 line / (heap_of lines).fields == s)) put)));
      into = λ s.
          alike_same (is_dead lines) (is_dead (lines ++ line ∷ [])) (λ w. dead_same lines line w out epoch) (edges_at (into_of r) s) (opened_to lines s) (are.into s)
          ∙ ap (without (is_dead (lines ++ line ∷ []))) (sym (to_none lines line s heap (ap (λ b. (b && has_target (number 2 line)) && (target_in line == s)) put)));
    }

-- a word that is taken out
references_out : (lines : List Line) (line : Line) (r s : References) → is_put line.kind ≡ false → is_out line.kind ≡ true → is_epoch line.kind ≡ false → is_heap line.kind ≡ false → AreReferences lines r → TakesOut r s (number 1 line) → AreReferences (lines ++ line ∷ []) s
references_out lines line r s put out epoch heap are more =
    record {
      opened = λ w. ap (λ o. contains nat_eq o w) more.opened ∙ are.opened w ∙ sym (opened_same lines line w put);
      dead = λ w. more.dead w ∙ ap (λ b. b || (number 1 line == w)) (are.dead w) ∙ sym (dead_out lines line w out epoch);
      closing = ap (λ v. v.items) more.closing ∙ are.closing ∙ sym (closing_same lines line epoch put);
      edges = λ slot.
          ap (λ v. without (is_dead (lines ++ line ∷ [])) (edges_at (map (λ v. v.items) v.items) slot)) more.edges
          ∙ alike_wider (is_dead lines) (is_dead (lines ++ line ∷ [])) (λ w there. dead_out lines line w out epoch ∙ ap (λ b. b || (number 1 line == w)) there) (edges_at (edges_of r) slot) (opened_from lines slot) (are.edges slot)
          ∙ ap (without (is_dead (lines ++ line ∷ []))) (sym (from_none lines line slot heap (ap (λ b. (b && has_target (number 2 line)) && (number 1 line / (heap_of lines).fields == slot)) put)));
      into = λ slot.
          ap (λ v. without (is_dead (lines ++ line ∷ [])) (edges_at (map (λ v. v.items) v.items) slot)) more.into
          ∙ alike_wider (is_dead lines) (is_dead (lines ++ line ∷ [])) (λ w there. dead_out lines line w out epoch ∙ ap (λ b. b || (number 1 line == w)) there) (edges_at (into_of r) slot) (opened_to lines slot) (are.into slot)
          ∙ ap (without (is_dead (lines ++ line ∷ []))) (sym (to_none lines line slot heap (ap (λ b. (b && has_target (number 2 line)) && (target_in line == slot)) put)));
    }

-- a block that has ended
references_epoch : (lines : List Line) (line : Line) (r s : References) → is_put line.kind ≡ false → is_out line.kind ≡ false → is_epoch line.kind ≡ true → is_heap line.kind ≡ false → AreReferences lines r → EndsBlock r s → AreReferences (lines ++ line ∷ []) s
references_epoch lines line r s put out epoch heap are more =
    record {
      opened = λ w. ap (λ o. contains nat_eq o w) more.opened ∙ are.opened w ∙ sym (opened_same lines line w put);
      dead = λ w. more.dead w ∙ ap (λ b. b || list_any (λ v. v == w) r.closing.items) (are.dead w) ∙ ap (λ vs. is_dead lines w || list_any (λ v. v == w) vs) are.closing ∙ sym (dead_epoch lines line w out epoch);
      closing = more.closing ∙ sym (ap (λ (ls : List Line). map (number 3) (filter (λ l. is_put l.kind) ls)) (this_new lines line epoch));
      edges = λ slot.
          ap (λ v. without (is_dead (lines ++ line ∷ [])) (edges_at (map (λ v. v.items) v.items) slot)) more.edges
          ∙ alike_wider (is_dead lines) (is_dead (lines ++ line ∷ [])) (λ w there. dead_epoch lines line w out epoch ∙ ap (λ b. b || list_any (λ v. v == w) (closing_in lines)) there) (edges_at (edges_of r) slot) (opened_from lines slot) (are.edges slot)
          ∙ ap (without (is_dead (lines ++ line ∷ []))) (sym (from_none lines line slot heap (ap (λ b. (b && has_target (number 2 line)) && (number 1 line / (heap_of lines).fields == slot)) put)));
      into = λ slot.
          ap (λ v. without (is_dead (lines ++ line ∷ [])) (edges_at (map (λ v. v.items) v.items) slot)) more.into
          ∙ alike_wider (is_dead lines) (is_dead (lines ++ line ∷ [])) (λ w there. dead_epoch lines line w out epoch ∙ ap (λ b. b || list_any (λ v. v == w) (closing_in lines)) there) (edges_at (into_of r) slot) (opened_to lines slot) (are.into slot)
          ∙ ap (without (is_dead (lines ++ line ∷ []))) (sym (to_none lines line slot heap (ap (λ b. (b && has_target (number 2 line)) && (target_in line == slot)) put)));
    }

-- a word that is put into a field
references_put : (lines : List Line) (line : Line) (r s : References) → is_put line.kind ≡ true → is_out line.kind ≡ false → is_epoch line.kind ≡ false → is_heap line.kind ≡ false → number 1 line / (heap_of lines).fields < length (edges_of r) → (has_target (number 2 line) ≡ true → target_in line < length (into_of r)) → AreReferences lines r → Puts r s (number 1 line / (heap_of lines).fields) (number 2 line) (number 3 line) → AreReferences (lines ++ line ∷ []) s
references_put lines line r s put out epoch heap within below are more =
    record {
      opened = λ w.
          more.opened w
          ∙ ap (λ b. b || (has_target (number 2 line) && (number 2 line == w))) (are.opened w)
          ∙ sym (opened_more lines line w ∙ ap (λ b. is_opened lines w || ((b && has_target (number 2 line)) && (number 2 line == w))) put);
      dead = λ w. ap (λ d. contains nat_eq d w) more.dead ∙ are.dead w ∙ sym (dead_same lines line w out epoch);
      closing = more.closing ∙ ap (λ vs. vs ++ number 3 line ∷ []) are.closing ∙ sym (closing_put lines line epoch put);
      edges = λ slot.
          alike_same (is_dead lines) (is_dead (lines ++ line ∷ [])) (λ w. dead_same lines line w out epoch) (edges_at (edges_of s) slot) (opened_from (lines ++ line ∷ []) slot)
          (ap (λ es. without (is_dead lines) (edges_at es slot)) more.edges ∙ kept slot (has_target (number 2 line)) refl);
      into = λ slot.
          alike_same (is_dead lines) (is_dead (lines ++ line ∷ [])) (λ w. dead_same lines line w out epoch) (edges_at (into_of s) slot) (opened_to (lines ++ line ∷ []) slot)
          (ap (λ es. without (is_dead lines) (edges_at es slot)) more.into ∙ kept_to slot (has_target (number 2 line)) refl);
    }
  where
    opens_is : (slot : ℕ) (b : Bool) → has_target (number 2 line) ≡ b → opens_from (heap_of lines).fields slot line ≡ (b && (number 1 line / (heap_of lines).fields == slot))
    opens_is slot b is = ap (λ p. (p && has_target (number 2 line)) && (number 1 line / (heap_of lines).fields == slot)) put ∙ ap (λ t. t && (number 1 line / (heap_of lines).fields == slot)) is

    opens_to_is : (slot : ℕ) (b : Bool) → has_target (number 2 line) ≡ b → opens_to slot line ≡ (b && (target_in line == slot))
    opens_to_is slot b is = ap (λ p. (p && has_target (number 2 line)) && (target_in line == slot)) put ∙ ap (λ t. t && (target_in line == slot)) is

    kept : (slot : ℕ) (b : Bool) → has_target (number 2 line) ≡ b → without (is_dead lines) (edges_at (cond b (with_edge (edges_of r) (number 1 line / (heap_of lines).fields) (edge_of (number 2 line))) (edges_of r)) slot) ≡ without (is_dead lines) (opened_from (lines ++ line ∷ []) slot)
    kept slot false is = are.edges slot ∙ ap (without (is_dead lines)) (sym (from_none lines line slot heap (opens_is slot false is)))
    kept slot true is =
        pushed (is_dead lines) (edges_of r) (number 1 line / (heap_of lines).fields) slot (edge_of (number 2 line)) (opened_from lines slot) (opened_from (lines ++ line ∷ []) slot) within (are.edges slot)
        (λ same. from_one lines line slot heap (opens_is slot true is ∙ eq-eqb (number 1 line / (heap_of lines).fields) slot same))
        (λ apart. from_none lines line slot heap (opens_is slot true is ∙ ne_eqb (number 1 line / (heap_of lines).fields) slot apart))

    kept_to : (slot : ℕ) (b : Bool) → has_target (number 2 line) ≡ b → without (is_dead lines) (edges_at (cond b (with_edge (into_of r) (target_in line) (back_of (heap_of lines).fields line)) (into_of r)) slot) ≡ without (is_dead lines) (opened_to (lines ++ line ∷ []) slot)
    kept_to slot false is = are.into slot ∙ ap (without (is_dead lines)) (sym (to_none lines line slot heap (opens_to_is slot false is)))
    kept_to slot true is =
        pushed (is_dead lines) (into_of r) (target_in line) slot (back_of (heap_of lines).fields line) (opened_to lines slot) (opened_to (lines ++ line ∷ []) slot) (below is) (are.into slot)
        (λ same. to_one lines line slot heap (opens_to_is slot true is ∙ eq-eqb (target_in line) slot same))
        (λ apart. to_none lines line slot heap (opens_to_is slot true is ∙ ne_eqb (target_in line) slot apart))

-- references that forgot dead ones
pub references_pruned : (lines : List Line) (r s : References) → AreReferences lines r → s.opened ≡ r.opened → s.dead ≡ r.dead → s.closing ≡ r.closing → ArePruned (contains nat_eq r.dead) (edges_of r) (edges_of s) → ArePruned (contains nat_eq r.dead) (into_of r) (into_of s) → AreReferences lines s
references_pruned lines r s are opened dead closing edges into =
    record {
      opened = λ w. ap (λ o. contains nat_eq o w) opened ∙ are.opened w;
      dead = λ w. ap (λ d. contains nat_eq d w) dead ∙ are.dead w;
      closing = ap (λ v. v.items) closing ∙ are.closing;
      edges = λ slot. alike_same (contains nat_eq r.dead) (is_dead lines) (λ w. sym (are.dead w)) (edges_at (edges_of s) slot) (edges_at (edges_of r) slot) (edges.same slot) ∙ are.edges slot;
      into = λ slot. alike_same (contains nat_eq r.dead) (is_dead lines) (λ w. sym (are.dead w)) (edges_at (into_of s) slot) (edges_at (into_of r) slot) (into.same slot) ∙ are.into slot;
    }

-- a list of marks for slots, where one slot's mark is written
written_at : (xs : List Bool) (i : ℕ) (b : Bool) (slot : ℕ) → slot < length xs → get_or (set xs i b) slot false ≡ cond (i == slot) b (get_or xs slot false)
written_at xs i b slot within =
    elim (cases_eq i slot) [
      | inl same ↦ ap (λ (k : ℕ). get_or (set xs k b) slot false) same ∙ get_or-set_same xs slot b false within ∙ sym (ap (λ t. cond t b (get_or xs slot false)) (eq-eqb i slot same))
      | inr apart ↦ get_or-set_other xs i slot b false (λ e. apart (sym e)) ∙ sym (ap (λ t. cond t b (get_or xs slot false)) (ne_eqb i slot apart))
    ]

-- ---- the graph behind a line more

size_same : (lines : List Line) (line : Line) (n : ℕ) → is_heap line.kind ≡ false → n ≡ (heap_of lines).slots → n ≡ (heap_of (lines ++ line ∷ [])).slots
size_same lines line n other is = is ∙ ap (λ h. h.slots) (sym (heap_same lines line other))

unmarked : (lines : List Line) (g : Graph) → g.is_known ≡ false → AreKnown g.is_known lines g.known
unmarked lines g known = subst (λ k. AreKnown k lines g.known) (sym known) tt

pub graph_put : (lines : List Line) (line : Line) (source new old : ℕ) (g h : Graph) → source < length (edges_of g.references) → (has_target new ≡ true → target_bits new - 1 < length (into_of g.references)) → IsPutLine lines source new old line → Puts g.references h.references source new old → h.slots ≡ g.slots → h.is_known ≡ false → IsGraphOf lines g → IsGraphOf (lines ++ line ∷ []) h
graph_put lines line source new old g h within below put puts slots marked is =
    record {
      size = ap (λ (s : Slots). length s.taken.items) slots ∙ size_same lines line (slots_of g) heap is.size;
      references = references_put lines line g.references h.references (ap is_put put.kind) (ap is_out put.kind) (ap is_epoch put.kind) heap (subst (λ (n : ℕ). n < length (edges_of g.references)) (sym put.source-is) within) (subst (λ (n : ℕ). has_target n ≡ true → target_bits n - 1 < length (into_of g.references)) (sym put.new-is) below) is.references
          (subst (λ (n : ℕ). Puts g.references h.references n (number 2 line) (number 3 line)) (sym put.source-is) (subst (λ (n : ℕ). Puts g.references h.references source n (number 3 line)) (sym put.new-is) (subst (λ (n : ℕ). Puts g.references h.references source new n) (sym put.old-is) puts)));
      taken = λ slot lt. ap (λ (s : Slots). get_or s.taken.items slot false) slots ∙ is.taken slot (subst (λ (s : Slots). slot < length s.taken.items) slots lt) ∙ sym (taken_same lines line slot (ap is_born put.kind) (ap is_sweep put.kind));
      named = ap (λ (s : Slots). s.named.items) slots ∙ is.named ∙ sym (named_same lines line (ap is_epoch put.kind) (ap (λ k. named_by k line.numbers) put.kind));
      known = unmarked (lines ++ line ∷ []) h marked;
    }
  where
    heap : is_heap line.kind ≡ false
    heap = ap is_heap put.kind

pub graph_born : (lines : List Line) (line : Line) (slot : ℕ) (g h : Graph) → IsBornLine slot line → h.references ≡ g.references → h.slots.taken.items ≡ set g.slots.taken.items slot true → h.slots.named.items ≡ g.slots.named.items ++ slot ∷ [] → h.is_known ≡ false → IsGraphOf lines g → IsGraphOf (lines ++ line ∷ []) h
graph_born lines line slot g h born references taken named marked is =
    record {
      size = size ∙ size_same lines line (slots_of g) (ap is_heap born.kind) is.size;
      references = references_same lines line h.references (ap is_put born.kind) (ap is_out born.kind) (ap is_epoch born.kind) (ap is_heap born.kind) (subst (AreReferences lines) (sym references) is.references);
      taken = λ other lt.
          ap (λ (t : List Bool). get_or t other false) taken
          ∙ written_at g.slots.taken.items slot true other (subst (λ (n : ℕ). other < n) size lt)
          ∙ ap (cond (slot == other) true) (is.taken other (subst (λ (n : ℕ). other < n) size lt))
          ∙ ap (λ (k : ℕ). cond (k == other) true (is_taken lines other)) (sym born.slot-is)
          ∙ sym (taken_born lines line other born.kind);
      named = named ∙ ap (λ (t : List ℕ). t ++ slot ∷ []) is.named ∙ ap (λ (k : ℕ). named_in lines ++ k ∷ []) (sym born.slot-is) ∙ sym (named_more lines line (ap is_epoch born.kind) ∙ ap (λ k. named_in lines ++ named_by k line.numbers) born.kind);
      known = unmarked (lines ++ line ∷ []) h marked;
    }
  where
    size : slots_of h ≡ slots_of g
    size = ap (length {A = Bool}) taken ∙ length-set g.slots.taken.items slot true

pub graph_snap : (lines : List Line) (line : Line) (registers : List ℕ) (g h : Graph) → IsSnapLine registers line → h.references ≡ g.references → h.slots.taken ≡ g.slots.taken → h.slots.named.items ≡ g.slots.named.items ++ held registers → h.is_known ≡ false → IsGraphOf lines g → IsGraphOf (lines ++ line ∷ []) h
graph_snap lines line registers g h snap references taken named marked is =
    record {
      size = ap (λ v. length v.items) taken ∙ size_same lines line (slots_of g) (ap is_heap snap.kind) is.size;
      references = references_same lines line h.references (ap is_put snap.kind) (ap is_out snap.kind) (ap is_epoch snap.kind) (ap is_heap snap.kind) (subst (AreReferences lines) (sym references) is.references);
      taken = λ slot lt. ap (λ v. get_or v.items slot false) taken ∙ is.taken slot (subst (λ v. slot < length v.items) taken lt) ∙ sym (taken_same lines line slot (ap is_born snap.kind) (ap is_sweep snap.kind));
      named = named ∙ ap (λ (t : List ℕ). t ++ held registers) is.named ∙ ap (λ (t : List ℕ). named_in lines ++ held t) (sym snap.held) ∙ sym (named_more lines line (ap is_epoch snap.kind) ∙ ap (λ k. named_in lines ++ named_by k line.numbers) snap.kind);
      known = unmarked (lines ++ line ∷ []) h marked;
    }

pub graph_sweep : (lines : List Line) (line : Line) (slot : ℕ) (g h : Graph) → IsSweepLine slot line → AreReferences lines h.references → h.slots.taken.items ≡ set g.slots.taken.items slot false → h.slots.named ≡ g.slots.named → AreKnown h.is_known (lines ++ line ∷ []) h.known → IsGraphOf lines g → IsGraphOf (lines ++ line ∷ []) h
graph_sweep lines line slot g h sweep references taken named marked is =
    record {
      size = size ∙ size_same lines line (slots_of g) (ap is_heap sweep.kind) is.size;
      references = references_same lines line h.references (ap is_put sweep.kind) (ap is_out sweep.kind) (ap is_epoch sweep.kind) (ap is_heap sweep.kind) references;
      taken = λ other lt.
          ap (λ (t : List Bool). get_or t other false) taken
          ∙ written_at g.slots.taken.items slot false other (subst (λ (n : ℕ). other < n) size lt)
          ∙ ap (cond (slot == other) false) (is.taken other (subst (λ (n : ℕ). other < n) size lt))
          ∙ ap (λ (k : ℕ). cond (k == other) false (is_taken lines other)) (sym sweep.slot-is)
          ∙ sym (taken_sweep lines line other sweep.kind);
      named = ap (λ v. v.items) named ∙ is.named ∙ sym (named_same lines line (ap is_epoch sweep.kind) (ap (λ k. named_by k line.numbers) sweep.kind));
      known = marked;
    }
  where
    size : slots_of h ≡ slots_of g
    size = ap (length {A = Bool}) taken ∙ length-set g.slots.taken.items slot false

pub graph_epoch : (lines : List Line) (line : Line) (g h : Graph) → IsEpochLine line → EndsBlock g.references h.references → h.slots.taken ≡ g.slots.taken → h.slots.named.items ≡ [] → h.is_known ≡ false → IsGraphOf lines g → IsGraphOf (lines ++ line ∷ []) h
graph_epoch lines line g h epoch more taken named marked is =
    record {
      size = ap (λ v. length v.items) taken ∙ size_same lines line (slots_of g) (ap is_heap epoch) is.size;
      references = references_epoch lines line g.references h.references (ap is_put epoch) (ap is_out epoch) (ap is_epoch epoch) (ap is_heap epoch) is.references more;
      taken = λ slot lt. ap (λ v. get_or v.items slot false) taken ∙ is.taken slot (subst (λ v. slot < length v.items) taken lt) ∙ sym (taken_same lines line slot (ap is_born epoch) (ap is_sweep epoch));
      named = named ∙ sym (ap (flat_map (λ (l : Line). named_by l.kind l.numbers)) (this_new lines line (ap is_epoch epoch)));
      known = unmarked (lines ++ line ∷ []) h marked;
    }

-- ---- what is reached

-- two tests that agree on the slots of a heap
filter_below : (p q : ℕ → Bool) (n : ℕ) → ((k : ℕ) → k < n → p k ≡ q k) → filter p (range_with_len 0 n) ≡ filter q (range_with_len 0 n)
filter_below p q n same = on (range_with_len 0 n) (λ k d lt. subst (λ (m : ℕ). m < n) (sym (get_or-range_with_len 0 n k d (omega (arith, length-range_with_len 0 n)))) (omega (arith, length-range_with_len 0 n)))
  where
    on : (xs : List ℕ) → All (λ k. k < n) xs → filter p xs ≡ filter q xs
    on [] all = refl
    on (x ∷ xs) all =
        ap (λ b. cond b (x ∷ filter p xs) (filter p xs)) (same x (All-head (λ k. k < n) x xs all))
        ∙ ap (λ t. cond (q x) (x ∷ t) t) (on xs (All-tail (λ k. k < n) x xs all))

abbrev pub to : Edge → ℕ
to e = e.to

-- where references lead, by the lines that open them and by themselves
targets_are : (lines : List Line) (slot : ℕ) → targets lines slot ≡ map to (without (is_dead lines) (opened_from lines slot))
targets_are lines slot = on (filter (opens_from (heap_of lines).fields slot) lines)
  where
    on : (xs : List Line) → map target_in (filter (λ line. not (is_dead lines (number 2 line))) xs) ≡ map to (without (is_dead lines) (map (λ line. edge_of (number 2 line)) xs))
    on [] = refl
    on (x ∷ xs) = at (is_dead lines (number 2 x)) ∙ ap (λ t. cond (not (is_dead lines (number 2 x))) (target_in x ∷ t) t) (on xs) ∙ sym (beside (is_dead lines (number 2 x)))
      where
        at : (b : Bool) → map target_in (cond (not b) (x ∷ filter (λ line. not (is_dead lines (number 2 line))) xs) (filter (λ line. not (is_dead lines (number 2 line))) xs)) ≡ cond (not b) (target_in x ∷ map target_in (filter (λ line. not (is_dead lines (number 2 line))) xs)) (map target_in (filter (λ line. not (is_dead lines (number 2 line))) xs))
        at true = refl
        at false = refl

        beside : (b : Bool) → map to (cond (not b) (edge_of (number 2 x) ∷ without (is_dead lines) (map (λ line. edge_of (number 2 line)) xs)) (without (is_dead lines) (map (λ line. edge_of (number 2 line)) xs))) ≡ cond (not b) (target_in x ∷ map to (without (is_dead lines) (map (λ line. edge_of (number 2 line)) xs))) (map to (without (is_dead lines) (map (λ line. edge_of (number 2 line)) xs)))
        beside true = refl
        beside false = refl

-- a line that tells nothing of the graph
pub record IsQuiet (line : Line) : Type 0 where
  pub put : is_put line.kind ≡ false
  pub out : is_out line.kind ≡ false
  pub epoch : is_epoch line.kind ≡ false
  pub heap : is_heap line.kind ≡ false
  pub born : is_born line.kind ≡ false
  pub sweep : is_sweep line.kind ≡ false
  pub named : named_by line.kind line.numbers ≡ []

pub quiet_line : (line : Line) (kind : Kind) → line.kind ≡ kind → is_put kind ≡ false → is_out kind ≡ false → is_epoch kind ≡ false → is_heap kind ≡ false → is_born kind ≡ false → is_sweep kind ≡ false → named_by kind line.numbers ≡ [] → IsQuiet line
quiet_line line kind is a b c d e f g =
    record {
      put = ap is_put is ∙ a;
      out = ap is_out is ∙ b;
      epoch = ap is_epoch is ∙ c;
      heap = ap is_heap is ∙ d;
      born = ap is_born is ∙ e;
      sweep = ap is_sweep is ∙ f;
      named = ap (λ k. named_by k line.numbers) is ∙ g;
    }

-- roots stay where a line tells nothing of blocks, of the heap and of slots
roots_same : (lines : List Line) (line : Line) → is_epoch line.kind ≡ false → is_heap line.kind ≡ false → is_born line.kind ≡ false → is_sweep line.kind ≡ false → named_by line.kind line.numbers ≡ [] → roots (lines ++ line ∷ []) ≡ roots lines
roots_same lines line epoch heap born sweep named =
    ap (λ t. t ++ filter (λ slot. not (is_taken (lines ++ line ∷ []) slot)) (range_with_len 0 (heap_of (lines ++ line ∷ [])).slots)) (named_same lines line epoch named)
    ∙ ap (λ h. named_in lines ++ filter (λ slot. not (is_taken (lines ++ line ∷ []) slot)) (range_with_len 0 h.slots)) (heap_same lines line heap)
    ∙ ap (λ t. named_in lines ++ t) (filter_same (λ slot. not (is_taken (lines ++ line ∷ []) slot)) (λ slot. not (is_taken lines slot)) (λ slot. ap not (taken_same lines line slot born sweep)) (range_with_len 0 (heap_of lines).slots))

roots_quiet : (lines : List Line) (line : Line) → IsQuiet line → roots (lines ++ line ∷ []) ≡ roots lines
roots_quiet lines line quiet = roots_same lines line quiet.epoch quiet.heap quiet.born quiet.sweep quiet.named

pub targets_same : (lines : List Line) (line : Line) → is_put line.kind ≡ false → is_out line.kind ≡ false → is_epoch line.kind ≡ false → is_heap line.kind ≡ false → (slot : ℕ) → targets (lines ++ line ∷ []) slot ≡ targets lines slot
targets_same lines line put out epoch heap slot =
    targets_are (lines ++ line ∷ []) slot
    ∙ ap (map to) (without_same (is_dead (lines ++ line ∷ [])) (is_dead lines) (λ w. dead_same lines line w out epoch) (opened_from (lines ++ line ∷ []) slot))
    ∙ ap (λ es. map to (without (is_dead lines) es)) (from_none lines line slot heap (ap (λ b. (b && has_target (number 2 line)) && (number 1 line / (heap_of lines).fields == slot)) put))
    ∙ sym (targets_are lines slot)

-- what is known stays known where the roots stay and no reference comes
pub known_less : (rs ss : List ℕ) (c d : ℕ → List ℕ) (k : Known) → rs ≡ ss → ((m n : ℕ) → is_in n (d m) ≡ true → is_in n (c m) ≡ true) → IsKnownOf rs c k → IsKnownOf ss d k
known_less rs ss c d k roots-are fewer is =
    record {
      old = λ n there. ap (is_in n) (sym roots-are) ∙ is.old n there;
      each = λ n there. is.each n (ap (is_in n) roots-are ∙ there);
      apart = is.apart;
      sources = λ m n there leads. is.sources m n there (fewer m n leads);
      forth = λ m n there leads. is.forth m n there (fewer m n leads);
    }

graph_known : (b : Bool) (lines more : List Line) (k : Known) → roots lines ≡ roots more → ((m n : ℕ) → is_in n (targets more m) ≡ true → is_in n (targets lines m) ≡ true) → AreKnown b lines k → AreKnown b more k
graph_known false lines more k roots-are fewer are = tt
graph_known true lines more k roots-are fewer are = known_less (roots lines) (roots more) (targets lines) (targets more) k roots-are fewer are

pub graph_quiet : (lines : List Line) (line : Line) (g : Graph) → IsQuiet line → IsGraphOf lines g → IsGraphOf (lines ++ line ∷ []) g
graph_quiet lines line g quiet is =
    record {
      size = size_same lines line (slots_of g) quiet.heap is.size;
      references = references_same lines line g.references quiet.put quiet.out quiet.epoch quiet.heap is.references;
      taken = λ slot lt. is.taken slot lt ∙ sym (taken_same lines line slot quiet.born quiet.sweep);
      named = is.named ∙ sym (named_same lines line quiet.epoch quiet.named);
      known = graph_known g.is_known lines (lines ++ line ∷ []) g.known (sym (roots_quiet lines line quiet)) (λ m n there. ap (is_in n) (sym (targets_same lines line quiet.put quiet.out quiet.epoch quiet.heap m)) ∙ there) is.known;
    }

-- where more words are dead, fewer references are left
fewer_left : (d e : ℕ → Bool) → ((word : ℕ) → d word ≡ true → e word ≡ true) → (n : ℕ) (es : List Edge) → is_in n (map to (without e es)) ≡ true → is_in n (map to (without d es)) ≡ true
fewer_left d e wider n [] there = there
fewer_left d e wider n (x ∷ xs) there = at (fewer_left d e wider n xs) (d x.word) refl (e x.word) refl there
  where
    at : (is_in n (map to (without e xs)) ≡ true → is_in n (map to (without d xs)) ≡ true) → (a : Bool) → d x.word ≡ a → (b : Bool) → e x.word ≡ b → is_in n (map to (cond (not b) (x ∷ without e xs) (without e xs))) ≡ true → is_in n (map to (cond (not a) (x ∷ without d xs) (without d xs))) ≡ true
    at more true p true q h = more h
    at more true p false q h = absurd (false≢true (sym q ∙ wider x.word p))
    at more false p true q h = ap (λ b. (x.to == n) || b) (more h) ∙ or-true (x.to == n)
    at more false p false q h =
        elim (or_cases (x.to == n) (is_in n (map to (without e xs))) h) [
          | inl here ↦ ap (λ b. b || is_in n (map to (without d xs))) here
          | inr there ↦ ap (λ b. (x.to == n) || b) (more there) ∙ or-true (x.to == n)
        ]

-- a word that is taken out makes no reference
fewer_out : (lines : List Line) (line : Line) → line.kind ≡ Out → (m n : ℕ) → is_in n (targets (lines ++ line ∷ []) m) ≡ true → is_in n (targets lines m) ≡ true
fewer_out lines line kind m n there =
    ap (is_in n) (targets_are lines m)
    ∙ fewer_left (is_dead lines) (is_dead (lines ++ line ∷ [])) (λ w dead. dead_out lines line w (ap is_out kind) (ap is_epoch kind) ∙ ap (λ b. b || (number 1 line == w)) dead) n (opened_from lines m)
    (ap (λ es. is_in n (map to (without (is_dead (lines ++ line ∷ [])) es))) (sym (from_none lines line m (ap is_heap kind) (ap (λ k. (is_put k && has_target (number 2 line)) && (number 1 line / (heap_of lines).fields == m)) kind)))
    ∙ ap (is_in n) (sym (targets_are (lines ++ line ∷ []) m))
    ∙ there)

pub graph_out : (lines : List Line) (line : Line) (word : ℕ) (g h : Graph) → IsOutLine word line → TakesOut g.references h.references word → h.slots ≡ g.slots → h.known ≡ g.known → h.is_known ≡ g.is_known → IsGraphOf lines g → IsGraphOf (lines ++ line ∷ []) h
graph_out lines line word g h out more slots known knows is =
    record {
      size = ap (λ (s : Slots). length s.taken.items) slots ∙ size_same lines line (slots_of g) (ap is_heap out.kind) is.size;
      references = references_out lines line g.references h.references (ap is_put out.kind) (ap is_out out.kind) (ap is_epoch out.kind) (ap is_heap out.kind) is.references (subst (λ (w : ℕ). TakesOut g.references h.references w) (sym out.word-is) more);
      taken = λ slot lt. ap (λ (s : Slots). get_or s.taken.items slot false) slots ∙ is.taken slot (subst (λ (s : Slots). slot < length s.taken.items) slots lt) ∙ sym (taken_same lines line slot (ap is_born out.kind) (ap is_sweep out.kind));
      named = ap (λ (s : Slots). s.named.items) slots ∙ is.named ∙ sym (named_same lines line (ap is_epoch out.kind) (ap (λ k. named_by k line.numbers) out.kind));
      known = subst (λ b. AreKnown b (lines ++ line ∷ []) h.known) (sym knows) (subst (AreKnown g.is_known (lines ++ line ∷ [])) (sym known) (graph_known g.is_known lines (lines ++ line ∷ []) g.known (sym same) (fewer_out lines line out.kind) is.known));
    }
  where
    same : roots (lines ++ line ∷ []) ≡ roots lines
    same = roots_same lines line (ap is_epoch out.kind) (ap is_heap out.kind) (ap is_born out.kind) (ap is_sweep out.kind) (ap (λ k. named_by k line.numbers) out.kind)

-- where references lead, by the lists that are kept
pub children_are : (lines : List Line) (r : References) → AreReferences lines r → (m : ℕ) → targets lines m ≡ map to (without (contains nat_eq r.dead) (edges_at (edges_of r) m))
children_are lines r are m =
    targets_are lines m
    ∙ ap (map to) (sym (are.edges m))
    ∙ ap (map to) (sym (without_same (contains nat_eq r.dead) (is_dead lines) are.dead (edges_at (edges_of r) m)))

-- a reference from a slot is one to where it leads
transposed : (lines : List Line) (u v : ℕ) → is_in v (targets lines u) ≡ is_in u (map to (without (is_dead lines) (opened_to lines v)))
transposed lines u v = on lines
  where
    F : ℕ
    F = (heap_of lines).fields

    live : Line → Bool
    live l = not (is_dead lines (number 2 l))

    test : (o a b k : Bool) → ((o && a) && (k && b)) ≡ ((o && b) && (k && a))
    test false a b k = refl
    test true true true k = refl
    test true true false true = refl
    test true true false false = refl
    test true false true true = refl
    test true false true false = refl
    test true false false k = refl

    left : (x : Line) (q : List Line) (e : Bool) → is_in v (map target_in (cond e (x ∷ q) q)) ≡ ((e && (target_in x == v)) || is_in v (map target_in q))
    left x q true = refl
    left x q false = refl

    left_all : (x : Line) (p : List Line) (c : Bool) → is_in v (map target_in (filter live (cond c (x ∷ p) p))) ≡ ((c && (live x && (target_in x == v))) || is_in v (map target_in (filter live p)))
    left_all x p true = left x (filter live p) (live x)
    left_all x p false = refl

    right : (e : Edge) (q : List Edge) (k : Bool) → is_in u (map to (cond k (e ∷ q) q)) ≡ ((k && (e.to == u)) || is_in u (map to q))
    right e q true = refl
    right e q false = refl

    right_all : (x : Line) (p : List Line) (c : Bool) → is_in u (map to (without (is_dead lines) (map (back_of F) (cond c (x ∷ p) p)))) ≡ ((c && (live x && (number 1 x / F == u))) || is_in u (map to (without (is_dead lines) (map (back_of F) p))))
    right_all x p true = right (back_of F x) (without (is_dead lines) (map (back_of F) p)) (live x)
    right_all x p false = refl

    on : (xs : List Line) → is_in v (map target_in (filter live (filter (opens_from F u) xs))) ≡ is_in u (map to (without (is_dead lines) (map (back_of F) (filter (opens_to v) xs))))
    on [] = refl
    on (x ∷ xs) =
        left_all x (filter (opens_from F u) xs) (opens_from F u x)
        ∙ ap (λ b. (opens_from F u x && (live x && (target_in x == v))) || b) (on xs)
        ∙ ap (λ b. b || is_in u (map to (without (is_dead lines) (map (back_of F) (filter (opens_to v) xs))))) (test (opens x) (number 1 x / F == u) (target_in x == v) (live x))
        ∙ sym (right_all x (filter (opens_to v) xs) (opens_to v x))

pub sources_are : (lines : List Line) (r : References) → AreReferences lines r → (u v : ℕ) → is_in v (targets lines u) ≡ is_in u (map to (without (contains nat_eq r.dead) (edges_at (into_of r) v)))
sources_are lines r are u v =
    transposed lines u v
    ∙ ap (λ es. is_in u (map to es)) (sym (are.into v))
    ∙ ap (λ es. is_in u (map to es)) (sym (without_same (contains nat_eq r.dead) (is_dead lines) are.dead (edges_at (into_of r) v)))

-- the roots, by the slots that aren't taken and those that are named
pub roots_are : (lines : List Line) (g : Graph) → IsGraphOf lines g → (n : ℕ) → is_in n (roots lines) ≡ (is_in n (free_slots g.slots.taken.items) || is_in n g.slots.named.items)
roots_are lines g is n =
    list_any-append (λ m. m == n) (named_in lines) (filter (λ slot. not (is_taken lines slot)) (range_with_len 0 (heap_of lines).slots))
    ∙ swap (is_in n (named_in lines)) (is_in n (filter (λ slot. not (is_taken lines slot)) (range_with_len 0 (heap_of lines).slots)))
    ∙ ap (λ t. is_in n (filter (λ slot. not (is_taken lines slot)) (range_with_len 0 (heap_of lines).slots)) || is_in n t) (sym is.named)
    ∙ ap (λ t. is_in n t || is_in n g.slots.named.items) (sym free-are)
  where
    free-are : free_slots g.slots.taken.items ≡ filter (λ slot. not (is_taken lines slot)) (range_with_len 0 (heap_of lines).slots)
    free-are =
        filter_below (λ slot. not (get_or g.slots.taken.items slot false)) (λ slot. not (is_taken lines slot)) (length g.slots.taken.items) (λ k lt. ap not (is.taken k lt))
        ∙ ap (λ (n : ℕ). filter (λ slot. not (is_taken lines slot)) (range_with_len 0 n)) is.size

    swap : (a b : Bool) → (a || b) ≡ (b || a)
    swap true true = refl
    swap true false = refl
    swap false true = refl
    swap false false = refl

-- the roots behind a `sweep`: those before, and its slot
filter_wider : (p q : ℕ → Bool) (n : ℕ) (xs : List ℕ) → (p n ≡ true → q n ≡ true) → is_in n (filter p xs) ≡ true → is_in n (filter q xs) ≡ true
filter_wider p q n [] wider there = there
filter_wider p q n (x ∷ xs) wider there = at (filter_wider p q n xs wider) (p x) refl (q x) refl there
  where
    at : (is_in n (filter p xs) ≡ true → is_in n (filter q xs) ≡ true) → (a : Bool) → p x ≡ a → (b : Bool) → q x ≡ b → is_in n (cond a (x ∷ filter p xs) (filter p xs)) ≡ true → is_in n (cond b (x ∷ filter q xs) (filter q xs)) ≡ true
    at more false e true f h = ap (λ b. (x == n) || b) (more h) ∙ or-true (x == n)
    at more false e false f h = more h
    at more true e true f h =
        elim (or_cases (x == n) (is_in n (filter p xs)) h) [
          | inl here ↦ ap (λ b. b || is_in n (filter q xs)) here
          | inr later ↦ ap (λ b. (x == n) || b) (more later) ∙ or-true (x == n)
        ]
    at more true e false f h =
        elim (is_in-cons n x (filter p xs) h) [
          | inl same ↦ absurd (false≢true (sym f ∙ ap q same ∙ wider (sym (ap p same) ∙ e)))
          | inr later ↦ more later
        ]

roots_swept : (lines : List Line) (line : Line) → line.kind ≡ Sweep → roots (lines ++ line ∷ []) ≡ named_in lines ++ filter (λ slot. not (is_taken (lines ++ line ∷ []) slot)) (range_with_len 0 (heap_of lines).slots)
roots_swept lines line kind =
    ap (λ t. t ++ filter (λ slot. not (is_taken (lines ++ line ∷ []) slot)) (range_with_len 0 (heap_of (lines ++ line ∷ [])).slots)) (named_same lines line (ap is_epoch kind) (ap (λ k. named_by k line.numbers) kind))
    ∙ ap (λ h. named_in lines ++ filter (λ slot. not (is_taken (lines ++ line ∷ []) slot)) (range_with_len 0 h.slots)) (heap_same lines line (ap is_heap kind))

abbrev roots_by : List Line → (ℕ → Bool) → List ℕ
roots_by lines free = named_in lines ++ filter free (range_with_len 0 (heap_of lines).slots)

wider_roots : (lines : List Line) (p q : ℕ → Bool) (n : ℕ) → (p n ≡ true → q n ≡ true) → is_in n (roots_by lines p) ≡ true → is_in n (roots_by lines q) ≡ true
wider_roots lines p q n wider there =
    list_any-append (λ m. m == n) (named_in lines) (filter q (range_with_len 0 (heap_of lines).slots))
    ∙ elim (or_cases (is_in n (named_in lines)) (is_in n (filter p (range_with_len 0 (heap_of lines).slots))) (sym (list_any-append (λ m. m == n) (named_in lines) (filter p (range_with_len 0 (heap_of lines).slots))) ∙ there)) [
      | inl named ↦ ap (λ b. b || is_in n (filter q (range_with_len 0 (heap_of lines).slots))) named
      | inr free ↦ ap (λ b. is_in n (named_in lines) || b) (filter_wider p q n (range_with_len 0 (heap_of lines).slots) wider free) ∙ or-true (is_in n (named_in lines))
    ]

pub more_roots : (lines : List Line) (line : Line) → line.kind ≡ Sweep → (n : ℕ) → is_in n (roots lines) ≡ true → is_in n (roots (lines ++ line ∷ [])) ≡ true
more_roots lines line kind n there =
    ap (is_in n) (roots_swept lines line kind)
    ∙ wider_roots lines (λ slot. not (is_taken lines slot)) (λ slot. not (is_taken (lines ++ line ∷ []) slot)) n (λ free. ap not (taken_sweep lines line n kind) ∙ at (number 0 line == n) free) there
  where
    at : (b : Bool) → not (is_taken lines n) ≡ true → not (cond b false (is_taken lines n)) ≡ true
    at true free = refl
    at false free = free

pub only_roots : (lines : List Line) (line : Line) → line.kind ≡ Sweep → (n : ℕ) → is_in n (roots (lines ++ line ∷ [])) ≡ true → (is_in n (roots lines) || (number 0 line == n)) ≡ true
only_roots lines line kind n there = at (number 0 line == n) refl
  where
    at : (b : Bool) → (number 0 line == n) ≡ b → (is_in n (roots lines) || b) ≡ true
    at true e = or-true (is_in n (roots lines))
    at false e =
        or-false (is_in n (roots lines))
        ∙ wider_roots lines (λ slot. not (is_taken (lines ++ line ∷ []) slot)) (λ slot. not (is_taken lines slot)) n
        (λ free. sym (ap not (taken_sweep lines line n kind ∙ ap (λ b. cond b false (is_taken lines n)) e)) ∙ free)
        (sym (ap (is_in n) (roots_swept lines line kind)) ∙ there)

-- ---- lines that tell nothing yet

pub empty_at : (n slot : ℕ) → edges_at (replicate n []) slot ≡ []
empty_at n slot = ⊎_elim (λ lt. get_or-replicate n slot [] [] lt) (λ past. get_or_past (replicate n []) slot [] (omega (arith, length-replicate {A = List Edge} n []))) (cases_lt slot n)

pub graph_none : (lines : List Line) (slots : ℕ) (g : Graph) → HasNoReferences slots g.references → length g.slots.taken.items ≡ slots → ((k : ℕ) → k < slots → get_or g.slots.taken.items k false ≡ (k == 0)) → g.slots.named.items ≡ [] → g.is_known ≡ false → TellNothing lines slots → IsGraphOf lines g
graph_none lines slots g none size taken named marked tell =
    record {
      size = size ∙ sym tell.size;
      references = record {
        opened = λ w. ap (list_any (nat_eq w)) none.opened ∙ sym (tell.opened w);
        dead = λ w. ap (list_any (nat_eq w)) none.dead ∙ sym (tell.dead w);
        closing = none.closing ∙ sym tell.closing;
        edges = λ slot. ap (λ es. without (is_dead lines) (edges_at es slot)) none.edges ∙ ap (without (is_dead lines)) (empty_at slots slot ∙ sym (tell.edges slot));
        into = λ slot. ap (λ es. without (is_dead lines) (edges_at es slot)) none.into ∙ ap (without (is_dead lines)) (empty_at slots slot ∙ sym (tell.into slot));
      };
      taken = λ slot lt. taken slot (subst (λ (n : ℕ). slot < n) size lt) ∙ sym (tell.taken slot);
      named = named ∙ sym tell.named;
      known = unmarked lines g marked;
    }

pub told_none : TellNothing [] 0
told_none = record { size = refl; opened = λ w. refl; dead = λ w. refl; closing = refl; edges = λ slot. refl; into = λ slot. refl; taken = λ slot. refl; named = refl }

pub told_heap : (title heap : List ℕ) → let t : Line = record { kind = Title; numbers = title } in let h : Line = record { kind = Heap; numbers = heap } in TellNothing (t ∷ h ∷ []) (get_or heap 0 0)
told_heap title heap = record { size = refl; opened = λ w. refl; dead = λ w. refl; closing = refl; edges = λ slot. refl; into = λ slot. refl; taken = λ slot. refl; named = refl }

-- ---- members

pub any_member : (p : ℕ → Bool) (xs : List ℕ) → list_any p xs ≡ true → (m : ℕ) × (is_in m xs ≡ true) × (p m ≡ true)
any_member p [] e = absurd (false≢true e)
any_member p (x ∷ xs) e =
    elim (or_cases (p x) (list_any p xs) e) [
      | inl here ↦ (x, ap (λ b. b || is_in x xs) (eq-eqb x x refl), here)
      | inr there ↦ let m = any_member p xs there in (m.0, ap (λ b. (x == m.0) || b) m.1 ∙ or-true (x == m.0), m.2)
    ]

pub member_any : (p : ℕ → Bool) (xs : List ℕ) (m : ℕ) → is_in m xs ≡ true → p m ≡ true → list_any p xs ≡ true
member_any p [] m there is = absurd (false≢true there)
member_any p (x ∷ xs) m there is =
    elim (is_in-cons m x xs there) [
      | inl same ↦ ap (λ b. b || list_any p xs) (ap p same ∙ is)
      | inr more ↦ ap (λ b. p x || b) (member_any p xs m more is) ∙ or-true (p x)
    ]
