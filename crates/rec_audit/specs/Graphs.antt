-- What a graph is behind some lines, and which line each of its calls takes.
use Rattle.std.specs.Prelude.{◌≡◌, ℕ, ◌/◌, ◌<◌, ◌==◌, ◌&&◌, nat_eq, Bool, false, List, [], length, map, filter, drop, slice_index_or, All}
use Rattle.std.specs.List.{flat_map}
use Rattle.std.specs.HashSet.{contains}
use Rattle.rec_audit.specs.declared.kind.Kind.TheVariants.{Epoch, Put, Born, Snap, Out, Sweep}
use Rattle.rec_audit.specs.declared.references.Edge.{Edge}
use Rattle.rec_audit.specs.declared.references.References.{References}
use Rattle.rec_audit.specs.declared.graph.Graph.{Graph}
use Rattle.rec_audit.specs.Lines.{Line}
use Rattle.rec_audit.specs.Form.{number, heap_of}
use Rattle.rec_audit.specs.Graph.{is_dead, is_opened, is_put, is_taken, named_by, opens, opens_from, target_in, this_block}
use Rattle.rec_audit.specs.Known.{AreKnown, IsRoomy}
use Rattle.rec_audit.specs.States.{back_edge, edge_of, edges_at, edges_of, into_of, without}
use Rattle.rec_audit.specs.Walks.{AreWithin}

-- how many slots the heap has
abbrev pub slots_of : Graph → ℕ
slots_of g = length g.slots.taken.items

-- it has room for each slot, and names no other one
pub record IsSized (g : Graph) : Type 0 where
  pub edges : length g.references.edges.items ≡ slots_of g
  pub into : length g.references.into.items ≡ slots_of g
  pub roomy : IsRoomy (slots_of g) g.known
  pub targets : AreWithin (slots_of g) (edges_of g.references)
  pub sources : AreWithin (slots_of g) (into_of g.references)
  pub named : All (λ slot. slot < slots_of g) g.slots.named.items

-- the references that some lines open from a slot
abbrev pub opened_from : List Line → (slot : ℕ) → List Edge
opened_from lines slot = map (λ line. edge_of (number 2 line)) (filter (opens_from (heap_of lines).fields slot) lines)

-- a line opens a reference to a slot
abbrev pub opens_to : (slot : ℕ) → Line → Bool
opens_to slot line = opens line && (target_in line == slot)

-- the references that some lines open to a slot
abbrev pub opened_to : List Line → (slot : ℕ) → List Edge
opened_to lines slot = map (λ line. back_edge (number 1 line / (heap_of lines).fields) (number 2 line)) (filter (opens_to slot) lines)

-- the words that the block that stands open has replaced
abbrev pub closing_in : List Line → List ℕ
closing_in lines = map (number 3) (filter (λ line. is_put line.kind) (this_block lines))

-- the slots that the block that stands open names as roots
abbrev pub named_in : List Line → List ℕ
named_in lines = flat_map (λ line. named_by line.kind line.numbers) (this_block lines)

-- the references of some lines: those that are kept for a slot are those that were opened from it
-- or to it, but for dead ones
pub record AreReferences (lines : List Line) (r : References) : Type 0 where
  pub opened : (word : ℕ) → contains nat_eq r.opened word ≡ is_opened lines word
  pub dead : (word : ℕ) → contains nat_eq r.dead word ≡ is_dead lines word
  pub closing : r.closing.items ≡ closing_in lines
  pub edges : (slot : ℕ) → without (is_dead lines) (edges_at (edges_of r) slot) ≡ without (is_dead lines) (opened_from lines slot)
  pub into : (slot : ℕ) → without (is_dead lines) (edges_at (into_of r) slot) ≡ without (is_dead lines) (opened_to lines slot)

-- the graph behind some lines
pub record IsGraphOf (lines : List Line) (g : Graph) : Type 0 where
  pub size : slots_of g ≡ (heap_of lines).slots
  pub references : AreReferences lines g.references
  pub taken : (slot : ℕ) → slot < slots_of g → slice_index_or g.slots.taken.items slot false ≡ is_taken lines slot
  pub named : g.slots.named.items ≡ named_in lines
  pub known : AreKnown g.is_known lines g.known

-- ---- lines

pub record IsPutLine (lines : List Line) (source new old : ℕ) (line : Line) : Type 0 where
  pub kind : line.kind ≡ Put
  pub source-is : number 1 line / (heap_of lines).fields ≡ source
  pub new-is : number 2 line ≡ new
  pub old-is : number 3 line ≡ old

pub record IsBornLine (slot : ℕ) (line : Line) : Type 0 where
  pub kind : line.kind ≡ Born
  pub slot-is : number 1 line ≡ slot

pub record IsSnapLine (registers : List ℕ) (line : Line) : Type 0 where
  pub kind : line.kind ≡ Snap
  pub held : drop 1 line.numbers ≡ registers

pub record IsOutLine (word : ℕ) (line : Line) : Type 0 where
  pub kind : line.kind ≡ Out
  pub word-is : number 1 line ≡ word

pub record IsSweepLine (slot : ℕ) (line : Line) : Type 0 where
  pub kind : line.kind ≡ Sweep
  pub slot-is : number 0 line ≡ slot

abbrev pub IsEpochLine : Line → Type 0
IsEpochLine line = line.kind ≡ Epoch

-- lines that tell of a heap with so many slots, or of none, and of nothing else
pub record TellNothing (lines : List Line) (slots : ℕ) : Type 0 where
  pub size : (heap_of lines).slots ≡ slots
  pub opened : (word : ℕ) → is_opened lines word ≡ false
  pub dead : (word : ℕ) → is_dead lines word ≡ false
  pub closing : closing_in lines ≡ []
  pub edges : (slot : ℕ) → opened_from lines slot ≡ []
  pub into : (slot : ℕ) → opened_to lines slot ≡ []
  pub taken : (slot : ℕ) → is_taken lines slot ≡ (slot == 0)
  pub named : named_in lines ≡ []
