-- A graph keeps its room for each slot of its heap, and names no other one.
use Rattle.std.proofs.Common.{◌≡◌, ◌<◌, ◌≤◌, ◌-◌, ℕ, Bool, true, false, cond, nat_lt, List, [], ◌∷◌, ◌++◌, length, map, filter, refl, sym, ap, ◌∙◌, subst, arith, inl, inr, length-set, Vec, Global}
use Rattle.std.specs.List.{All}
use Rattle.std.proofs.lemmas.Bool.{cases_eq}
use Rattle.std.proofs.lemmas.Bool.Decides.{nat_tests}
use Rattle.std.proofs.lemmas.List.{get_or-set_same, get_or-set_other, length-map, length-replicate}
use Rattle.std.proofs.lemmas.List.Elements.{All-push, All-head, All-tail, All-cons}
use Rattle.rec_word.specs.Word.{target_bits}
use Rattle.rec_audit.specs.declared.references.Edge.{Edge}
use Rattle.rec_audit.specs.declared.references.References.{References}
use Rattle.rec_audit.specs.declared.slots.Slots.{Slots}
use Rattle.rec_audit.specs.declared.graph.Graph.{Graph}
use Rattle.rec_audit.specs.Graph.{has_target, held}
use Rattle.rec_audit.specs.Known.{IsRoomy}
use Rattle.rec_audit.specs.States.{HasNoReferences, Puts, back_edge, edge_of, edges_at, edges_of, into_of, with_edge}
use Rattle.rec_audit.specs.Walks.{ArePruned, AreWithin}
use Rattle.rec_audit.specs.Graphs.{IsSized, slots_of}
use Rattle.rec_audit.proofs.Grown.{empty_at}
use Rattle.rec_audit.proofs.Pruning.{pruned_none}

abbrev IsBelow : ℕ → Edge → Type 0
IsBelow n e = e.to < n

pub lists_of : (r : References) → length (edges_of r) ≡ length r.edges.items
lists_of r = length-map r.edges.items (λ (v : Vec Edge Global). v.items)

pub lists_to : (r : References) → length (into_of r) ≡ length r.into.items
lists_to r = length-map r.into.items (λ (v : Vec Edge Global). v.items)

pub tested : (n : ℕ) → nat_lt 0 n ≡ true → 0 < n
tested n is = grind (arith, nat_tests)

-- a reference more stays within the heap
within_more : (n at : ℕ) (edges : List (List Edge)) (e : Edge) → AreWithin n edges → at < length edges → e.to < n → AreWithin n (with_edge edges at e)
within_more n at edges e within inner below slot =
    elim (cases_eq at slot) [
      | inl same ↦
          subst (λ (es : List Edge). All (IsBelow n) es)
          (sym (ap (λ (k : ℕ). edges_at (with_edge edges at e) k) (sym same) ∙ get_or-set_same edges at (edges_at edges at ++ e ∷ []) [] inner))
          (All-push (IsBelow n) (edges_at edges at) e (within at) below)
      | inr apart ↦ subst (λ (es : List Edge). All (IsBelow n) es) (sym (get_or-set_other edges at slot (edges_at edges at ++ e ∷ []) [] (λ e. apart (sym e)))) (within slot)
    ]

if_more : (n at : ℕ) (edges : List (List Edge)) (e : Edge) (b : Bool) → AreWithin n edges → (b ≡ true → at < length edges) → (b ≡ true → e.to < n) → AreWithin n (cond b (with_edge edges at e) edges)
if_more n at edges e true within inner below = within_more n at edges e within (inner refl) (below refl)
if_more n at edges e false within inner below = within

if_long : (at : ℕ) (edges : List (List Edge)) (e : Edge) (b : Bool) → length (cond b (with_edge edges at e) edges) ≡ length edges
if_long at edges e true = length-set edges at (edges_at edges at ++ e ∷ [])
if_long at edges e false = refl

-- a target of a word is a slot of the heap
pub target_below : (n word : ℕ) → target_bits word ≤ n → has_target word ≡ true → target_bits word - 1 < n
target_below n word fits is = omega (arith, tested (target_bits word) is)

pub sized_put : (g h : Graph) (source new old : ℕ) → IsSized g → source < slots_of g → target_bits new ≤ slots_of g → Puts g.references h.references source new old → h.slots ≡ g.slots → h.known ≡ g.known → IsSized h
sized_put g h source new old sized within target puts slots known =
    record {
      edges = sym (lists_of h.references) ∙ ap (length {A = List Edge}) puts.edges ∙ if_long source (edges_of g.references) (edge_of new) (has_target new) ∙ lists_of g.references ∙ sized.edges ∙ sym size;
      into = sym (lists_to h.references) ∙ ap (length {A = List Edge}) puts.into ∙ if_long (target_bits new - 1) (into_of g.references) (back_edge source new) (has_target new) ∙ lists_to g.references ∙ sized.into ∙ sym size;
      roomy = subst (λ (n : ℕ). IsRoomy n h.known) (sym size) (subst (IsRoomy (slots_of g)) (sym known) sized.roomy);
      targets = subst (λ (n : ℕ). AreWithin n (edges_of h.references)) (sym size) (subst (AreWithin (slots_of g)) (sym puts.edges)
          (if_more (slots_of g) source (edges_of g.references) (edge_of new) (has_target new) sized.targets (λ is. omega (arith, lists_of g.references, sized.edges)) (target_below (slots_of g) new target)));
      sources = subst (λ (n : ℕ). AreWithin n (into_of h.references)) (sym size) (subst (AreWithin (slots_of g)) (sym puts.into)
          (if_more (slots_of g) (target_bits new - 1) (into_of g.references) (back_edge source new) (has_target new) sized.sources (λ is. omega (arith, lists_to g.references, sized.into, target_below (slots_of g) new target is)) (λ is. within)));
      named = subst (λ (s : Slots). All (λ slot. slot < length s.taken.items) s.named.items) (sym slots) sized.named;
    }
  where
    size : slots_of h ≡ slots_of g
    size = ap (λ (s : Slots). length s.taken.items) slots

-- references that forgot dead ones, and as many slots
pub sized_pruned : {d e : ℕ → Bool} (g h : Graph) → IsSized g → ArePruned d (edges_of g.references) (edges_of h.references) → ArePruned e (into_of g.references) (into_of h.references) → IsRoomy (slots_of g) h.known → slots_of h ≡ slots_of g → All (λ slot. slot < slots_of g) h.slots.named.items → IsSized h
sized_pruned g h sized edges into roomy size named =
    record {
      edges = sym (lists_of h.references) ∙ edges.size ∙ lists_of g.references ∙ sized.edges ∙ sym size;
      into = sym (lists_to h.references) ∙ into.size ∙ lists_to g.references ∙ sized.into ∙ sym size;
      roomy = subst (λ (n : ℕ). IsRoomy n h.known) (sym size) roomy;
      targets = subst (λ (n : ℕ). AreWithin n (edges_of h.references)) (sym size) (edges.within (slots_of g) sized.targets);
      sources = subst (λ (n : ℕ). AreWithin n (into_of h.references)) (sym size) (into.within (slots_of g) sized.sources);
      named = subst (λ (n : ℕ). All (λ slot. slot < n) h.slots.named.items) (sym size) named;
    }

pub sized_same : (g h : Graph) → IsSized g → h.references.edges ≡ g.references.edges → h.references.into ≡ g.references.into → h.known ≡ g.known → slots_of h ≡ slots_of g → All (λ slot. slot < slots_of g) h.slots.named.items → IsSized h
sized_same g h sized edges into known size named =
    sized_pruned g h sized
    (subst (λ v. ArePruned (λ w. false) (edges_of g.references) (map (λ v. v.items) v.items)) (sym edges) (pruned_none (λ w. false) (edges_of g.references)))
    (subst (λ v. ArePruned (λ w. false) (into_of g.references) (map (λ v. v.items) v.items)) (sym into) (pruned_none (λ w. false) (into_of g.references)))
    (subst (IsRoomy (slots_of g)) (sym known) sized.roomy) size named

-- slots that registers hold
pub held_within : (limit : ℕ) (ns : List ℕ) → All (λ n. n ≤ limit) ns → All (λ n. n < limit) (held ns)
held_within limit [] all = λ k d lt. absurd (omega arith)
held_within limit (n ∷ ns) all = at (held_within limit ns (All-tail (λ n. n ≤ limit) n ns all)) (nat_lt 0 n) refl
  where
    at : All (λ n. n < limit) (held ns) → (b : Bool) → nat_lt 0 n ≡ b → All (λ n. n < limit) (map (λ n. n - 1) (cond b (n ∷ filter (λ n. nat_lt 0 n) ns) (filter (λ n. nat_lt 0 n) ns)))
    at more false is = more
    at more true is = All-cons (λ n. n < limit) (n - 1) (held ns) (omega (arith, tested n is, All-head (λ n. n ≤ limit) n ns all)) more

-- the heap at its opening
pub sized_open : (slots : ℕ) (g : Graph) → HasNoReferences slots g.references → length g.slots.taken.items ≡ slots → g.slots.named.items ≡ [] → IsRoomy slots g.known → IsSized g
sized_open slots g none taken named roomy =
    record {
      edges = sym (lists_of g.references) ∙ ap (length {A = List Edge}) none.edges ∙ length-replicate slots [] ∙ sym taken;
      into = sym (lists_to g.references) ∙ ap (length {A = List Edge}) none.into ∙ length-replicate slots [] ∙ sym taken;
      roomy = subst (λ (n : ℕ). IsRoomy n g.known) (sym taken) roomy;
      targets = λ slot. subst (λ (es : List Edge). All (IsBelow (slots_of g)) es) (sym (ap (λ (es : List (List Edge)). edges_at es slot) none.edges ∙ empty_at slots slot)) (λ k d lt. absurd (omega arith));
      sources = λ slot. subst (λ (es : List Edge). All (IsBelow (slots_of g)) es) (sym (ap (λ (es : List (List Edge)). edges_at es slot) none.into ∙ empty_at slots slot)) (λ k d lt. absurd (omega arith));
      named = subst (λ (ns : List ℕ). All (λ slot. slot < slots_of g) ns) (sym named) (λ k d lt. absurd (omega arith));
    }
