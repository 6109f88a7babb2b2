-- What the parts of the checker keep, and what each of their calls changes.
use Rattle.std.specs.Prelude.{◌≡◌, ℕ, ◌-◌, ◌<◌, ◌≤◌, ◌==◌, ◌&&◌, ◌||◌, nat_eq, not, Bool, true, false, if◌then◌else◌, List, [], ◌∷◌, ◌++◌, length, map, filter, take, replicate, slice_index_or, slice_set}
use Rattle.std.specs.List.{list_any}
use Rattle.std.specs.HashSet.{contains}
use Rattle.rec_model.specs.Reach.{is_in}
use Rattle.rec_model.specs.Numbering.{IsDistinct}
use Rattle.rec_word.specs.Word.{target_bits}
use Rattle.rec_audit.specs.declared.references.Edge.{Edge}
use Rattle.rec_audit.specs.declared.references.References.{References}
use Rattle.rec_audit.specs.declared.reach.Marks.{Marks}
use Rattle.rec_audit.specs.Graph.{has_target}

-- ---- references

-- the references that are kept for each slot
abbrev pub edges_of : References → List (List Edge)
edges_of r = map (λ v. v.items) r.edges.items

-- the references that are kept to each slot
abbrev pub into_of : References → List (List Edge)
into_of r = map (λ v. v.items) r.into.items

-- those of one slot
abbrev pub edges_at : List (List Edge) → (slot : ℕ) → List Edge
edges_at edges slot = slice_index_or edges slot []

-- those whose words a test doesn't find
abbrev pub without : (ℕ → Bool) → List Edge → List Edge
without dead edges = filter (λ e. not (dead e.word)) edges

-- the reference that a word with a target is
abbrev pub edge_of : (word : ℕ) → Edge
edge_of word = record { to = target_bits word - 1; word = word }

-- the same, as the slot has it to which it leads
abbrev pub back_edge : (source word : ℕ) → Edge
back_edge source word = record { to = source; word = word }

-- a list of references more at one slot
abbrev pub with_edge : List (List Edge) → (slot : ℕ) → Edge → List (List Edge)
with_edge edges slot edge = slice_set edges slot (edges_at edges slot ++ edge ∷ [])

-- nothing was told yet
pub record HasNoReferences (slots : ℕ) (r : References) : Type 0 where
  pub opened : r.opened.keys ≡ []
  pub dead : r.dead.keys ≡ []
  pub closing : r.closing.items ≡ []
  pub edges : edges_of r ≡ replicate slots []
  pub into : into_of r ≡ replicate slots []

-- a word was put into a field of a slot in the place of another one
pub record Puts (r s : References) (source new old : ℕ) : Type 0 where
  pub opened : (word : ℕ) → contains nat_eq s.opened word ≡ (contains nat_eq r.opened word || (has_target new && (new == word)))
  pub dead : s.dead ≡ r.dead
  pub closing : s.closing.items ≡ r.closing.items ++ old ∷ []
  pub edges : edges_of s ≡ (if has_target new then with_edge (edges_of r) source (edge_of new) else edges_of r)
  pub into : into_of s ≡ (if has_target new then with_edge (into_of r) (target_bits new - 1) (back_edge source new) else into_of r)

-- a word was taken out of a field
pub record TakesOut (r s : References) (word : ℕ) : Type 0 where
  pub opened : s.opened ≡ r.opened
  pub dead : (w : ℕ) → contains nat_eq s.dead w ≡ (contains nat_eq r.dead w || (word == w))
  pub closing : s.closing ≡ r.closing
  pub edges : s.edges ≡ r.edges
  pub into : s.into ≡ r.into

-- the block that stood open has ended
pub record EndsBlock (r s : References) : Type 0 where
  pub opened : s.opened ≡ r.opened
  pub dead : (w : ℕ) → contains nat_eq s.dead w ≡ (contains nat_eq r.dead w || list_any (λ v. v == w) r.closing.items)
  pub closing : s.closing.items ≡ []
  pub edges : s.edges ≡ r.edges
  pub into : s.into ≡ r.into

-- ---- marks

-- the marked slots are those in the order, each once
pub record IsMarking (m : Marks) : Type 0 where
  pub within : (slot : ℕ) → is_in slot m.order.items ≡ true → slot < length m.marked.items
  pub listed : (slot : ℕ) → slice_index_or m.marked.items slot false ≡ is_in slot m.order.items
  pub distinct : IsDistinct m.order.items

-- some slots were marked too
pub record MarksMore (m n : Marks) (slots : List ℕ) : Type 0 where
  pub marking : IsMarking n
  pub size : length n.marked.items ≡ length m.marked.items
  pub longer : length m.order.items ≤ length n.order.items
  pub front : take (length m.order.items) n.order.items ≡ m.order.items
  pub has : (slot : ℕ) → is_in slot n.order.items ≡ (is_in slot m.order.items || is_in slot slots)
