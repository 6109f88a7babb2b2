-- References, and what counts at an epoch: its references, roots, count and reach.
use Rattle.std.specs.Prelude.{ℕ, ◌+◌, ◌<◌, ◌==◌, ◌&&◌, nat_lt, nat_le, if◌then◌else◌, Bool, true, Option, None, Some, List, ◌++◌, map, filter}
use Rattle.std.specs.List.{enumerate_from, sum_by}
use Rattle.rec_model.specs.Reach.{is_in, IsReached}
use Rattle.rec_model.specs.Numbering.{times}
use Rattle.rec_model.specs.Sums.{only_if, one_if_same}
use Rattle.rec_model.specs.Pending.{node_of, epoch_of, home, Write, Dated, Pending, word_in}

-- A word with a target that was put into a field is a reference from the field's node to the target, opened at the word's
-- epoch. It is open while it stands there. It is closed at the epoch of the write that replaced it. One that the collector
-- took out is gone, and is a reference no more.
pub record Reference : Type 0 where
  pub source : ℕ
  pub target : ℕ
  pub opened : ℕ
  pub closed : Option ℕ

-- what a word in a field is
abbrev pub open_reference : (fields : ℕ) → ℕ × ℕ → Reference
open_reference fields at = record { source = home fields at.0; target = node_of at.1; opened = epoch_of at.1; closed = None }

-- what the word that a write replaced is. Its source is the node that now has the field; while that slot is free, the source is
-- in no reach.
abbrev pub closed_reference : (fields : ℕ) → Write → Reference
closed_reference fields write = record { source = home fields write.place; target = node_of write.old; opened = epoch_of write.old; closed = Some (epoch_of write.new) }

-- the open references, by place, and then the closed ones
abbrev pub references : Pending → List Reference
references w = map (open_reference w.fields) (enumerate_from 0 w.words) ++ map (closed_reference w.fields) w.writes

-- it is open, or closed at this epoch or later
abbrev lasts_to : (epoch : ℕ) → Option ℕ → Bool
lasts_to epoch None = true
lasts_to epoch (Some closed) = nat_le epoch closed

-- it has a target, was opened at this epoch or before, and is open, or closed at this epoch or later
abbrev pub is_of : (epoch : ℕ) → Reference → Bool
is_of epoch r = nat_lt 0 r.target && (nat_le r.opened epoch && lasts_to epoch r.closed)

-- the references of an epoch
abbrev pub references_of : Pending → (epoch : ℕ) → List Reference
references_of w epoch = filter (is_of epoch) (references w)

-- the nodes of this epoch
abbrev pub nodes_of : (epoch : ℕ) → List Dated → List ℕ
nodes_of epoch ds = map (λ d. d.node) (filter (λ d. nat_lt 0 d.node && (epoch == d.epoch)) ds)

-- the nodes of this epoch and later ones
abbrev pub nodes_from : (epoch : ℕ) → List Dated → List ℕ
nodes_from epoch ds = map (λ d. d.node) (filter (λ d. nat_lt 0 d.node && nat_le epoch d.epoch) ds)

-- The roots of an epoch: what the snapshots name that were written on leaving it, and the nodes born in it or later.
abbrev pub roots_at : Pending → (epoch : ℕ) → List ℕ
roots_at w epoch = nodes_of epoch w.snapshots ++ nodes_from epoch w.births

-- what the references of an epoch from this node lead to
abbrev pub targets_at : Pending → (epoch : ℕ) → (source : ℕ) → List ℕ
targets_at w epoch source = map (λ r. r.target) (filter (λ r. r.source == source) (references_of w epoch))

-- The reach of an epoch: the nodes on a path of its references from one of its roots.
abbrev pub IsInReach : Pending → (epoch : ℕ) → (node : ℕ) → Type 0
IsInReach w epoch = IsReached (roots_at w epoch) (targets_at w epoch)

-- 1 for a node that was born in the epoch or later, else 0
abbrev pub one_if_born : Pending → (epoch node : ℕ) → ℕ
one_if_born w epoch node = if is_in node (nodes_from epoch w.births) then 1 else 0

-- The count formula: the references of the epoch to the node, how often the snapshots written on leaving it name the node,
-- and one if it was born in the epoch or later. Of a free slot it is one.
abbrev pub count_formula : Pending → (epoch node : ℕ) → ℕ
count_formula w epoch node =
    if w.free node then 1 else times node (map (λ r. r.target) (references_of w epoch)) + times node (nodes_of epoch w.snapshots) + one_if_born w epoch node

-- The source, the new target and the replaced target of a write are in the reach of an epoch.
pub record IsWriteInReach (w : Pending) (epoch : ℕ) (write : Write) : Type 0 where
  pub source : IsInReach w epoch (home w.fields write.place)
  pub new : 0 < node_of write.new → IsInReach w epoch (node_of write.new)
  pub old : 0 < node_of write.old → IsInReach w epoch (node_of write.old)

-- The same as weights: counted where the word was put up to an epoch and names the node,
abbrev pub opened_to : (epoch node place word : ℕ) → ℕ
opened_to epoch node place word = only_if (nat_le (epoch_of word) epoch) (one_if_same node (node_of word))

-- and where a write of the epoch or a later one replaced such a word.
abbrev pub closed_from : (epoch node : ℕ) → Write → ℕ
closed_from epoch node write = only_if (nat_le epoch (epoch_of write.new)) (opened_to epoch node write.place write.old)

-- Counted where a write at this place did so.
abbrev pub closed_in : (epoch place node : ℕ) → Write → ℕ
closed_in epoch place node write = only_if (place == write.place) (closed_from epoch node write)

-- how many references of an epoch from one field to a node were closed
abbrev pub closed_at : Pending → (epoch place node : ℕ) → ℕ
closed_at w epoch place node = sum_by (closed_in epoch place node) w.writes

-- how many references of an epoch there are from one field to a node
abbrev pub references_at : Pending → (epoch place node : ℕ) → ℕ
references_at w epoch place node = opened_to epoch node place (word_in w place) + closed_at w epoch place node
