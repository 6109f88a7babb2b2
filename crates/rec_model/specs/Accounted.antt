-- What a heap that counts late keeps: its epochs, its ledger, what is held, and what is named.
use Rattle.std.specs.Prelude.{◌≡◌, ℕ, ◌+◌, ◌<◌, ◌≤◌, nat_lt, nat_le, not, if◌then◌else◌, Bool, true, false}
use Rattle.std.specs.List.{sum_by}
use Rattle.rec_model.specs.Sums.{only_if, one_if_same, sum_at}
use Rattle.rec_model.specs.Pending.{node_of, epoch_of, home, Write, Dated, Pending, is_at}
use Rattle.rec_model.specs.References.{IsInReach}

-- counted where the word was put after this epoch
abbrev pub is_late_word : (epoch place word : ℕ) → ℕ
is_late_word epoch place word = only_if (nat_lt epoch (epoch_of word)) 1

-- counted where the write was made after this epoch, and once more where it replaced a word more than one epoch younger than itself
abbrev pub is_wrong_write : (epoch : ℕ) → Write → ℕ
is_wrong_write epoch write = only_if (nat_lt epoch (epoch_of write.new)) 1 + only_if (nat_lt (epoch_of write.new + 1) (epoch_of write.old)) 1

-- counted where the mutator isn't past the applied epoch, or is past the requested one
abbrev pub is_wrong_register : (applied requested : ℕ) → Dated → ℕ
is_wrong_register applied requested d = only_if (nat_le d.epoch applied) 1 + only_if (nat_lt requested d.epoch) 1

-- counted where the snapshot was written on leaving this epoch or a later one
abbrev pub is_late_snapshot : (epoch : ℕ) → Dated → ℕ
is_late_snapshot epoch d = only_if (nat_le epoch d.epoch) 1

-- No word, write or mutator is past the requested epoch, and each mutator is past the applied one; a write replaced a word at
-- most one epoch younger than itself; and the applied epoch is one or two behind the requested one.
pub record HasEpochs (w : Pending) : Type 0 where
  pub behind : w.applied < w.requested
  pub near : w.requested ≤ w.applied + 2
  pub words : sum_at (is_late_word w.requested) w.words ≡ 0
  pub writes : sum_by (is_wrong_write w.requested) w.writes ≡ 0
  pub registers : sum_by (is_wrong_register w.applied w.requested) w.registers ≡ 0
  pub snapshots : sum_by (is_late_snapshot w.requested) w.snapshots ≡ 0

-- counted where the word names the node
abbrev pub names : (node place word : ℕ) → ℕ
names node place word = one_if_same node (node_of word)

-- counted where the write put a word that names the node after this epoch
abbrev pub puts_after : (epoch node : ℕ) → Write → ℕ
puts_after epoch node write = only_if (nat_lt epoch (epoch_of write.new)) (one_if_same node (node_of write.new))

-- counted where the write replaced a word that names the node in this epoch or later
abbrev pub replaces_from : (epoch node : ℕ) → Write → ℕ
replaces_from epoch node write = only_if (nat_le epoch (epoch_of write.new)) (one_if_same node (node_of write.old))

-- counted where it is of this epoch or a later one and names the node
abbrev pub is_from : (epoch node : ℕ) → Dated → ℕ
is_from epoch node d = only_if (nat_le epoch d.epoch) (one_if_same node d.node)

-- counted where it is a leaf, besides
abbrev pub is_leaf_from : (epoch node : ℕ) → Dated → ℕ
is_leaf_from epoch node d = only_if d.leaf (is_from epoch node d)

-- counted where it is of a later epoch and names the node
abbrev pub is_after : (epoch node : ℕ) → Dated → ℕ
is_after epoch node d = only_if (nat_lt epoch d.epoch) (one_if_same node d.node)

-- counted where it names the node
abbrev pub is_node : (node : ℕ) → Dated → ℕ
is_node node d = one_if_same node d.node

-- The ledger of each node: its count, and the new targets that are still to be added, come to the fields that name it and
-- what is still to be taken off, which are the replaced targets, snapshots and births; and one for a free slot.
abbrev pub HasLedger : Pending → Type 0
HasLedger w =
    (node : ℕ) → 0 < node
    → w.count node + sum_by (puts_after w.applied node) w.writes
    ≡ sum_at (names node) w.words + sum_by (replaces_from w.applied node) w.writes + sum_by (is_at w.applied node) w.snapshots + sum_by (is_from w.applied node) w.births + only_if (w.free node) 1

-- a weight of words, for those that were put after this epoch
abbrev pub late : (epoch : ℕ) → (weight : ℕ → ℕ → ℕ) → (place word : ℕ) → ℕ
late epoch weight place word = only_if (nat_lt epoch (epoch_of word)) (weight place word)

-- of the word that a write put
abbrev pub put_late : (epoch : ℕ) → (weight : ℕ → ℕ → ℕ) → Write → ℕ
put_late epoch weight write = late epoch weight write.place write.new

-- of the word that a write of this epoch or a later one replaced
abbrev pub replaced_late : (epoch : ℕ) → (weight : ℕ → ℕ → ℕ) → Write → ℕ
replaced_late epoch weight write = only_if (nat_le epoch (epoch_of write.new)) (late epoch weight write.place write.old)

-- Each word that was put after the applied epoch stands in its field, or was replaced by one write: whatever a word weighs.
abbrev pub StandsOnce : Pending → Type 0
StandsOnce w =
    (weight : ℕ → ℕ → ℕ) → sum_by (put_late w.applied weight) w.writes ≡ sum_at (late w.applied weight) w.words + sum_by (replaced_late w.applied weight) w.writes

-- how often a write after this epoch has the node as its source, its new target or its replaced target
abbrev pub touches : (fields epoch node : ℕ) → Write → ℕ
touches fields epoch node write =
    only_if (nat_lt epoch (epoch_of write.new)) (one_if_same node (home fields write.place) + one_if_same node (node_of write.new) + one_if_same node (node_of write.old))

-- What writes after this epoch, and registers of mutators that left it, name is in its reach.
abbrev pub IsHeldAt : Pending → (epoch : ℕ) → Type 0
IsHeldAt w epoch = (node : ℕ) → 0 < node → 0 < sum_by (touches w.fields epoch node) w.writes + sum_by (is_after epoch node) w.registers → IsInReach w epoch node

-- so for every epoch from the applied one up to the requested one
abbrev pub IsHeld : Pending → Type 0
IsHeld w = (epoch : ℕ) → w.applied ≤ epoch → epoch < w.requested → IsHeldAt w epoch

-- the slot is free, or the node was given up
abbrev pub is_dead : Pending → (node : ℕ) → Bool
is_dead w node = if w.free node then true else w.released node

-- counted where the word stands in a field of a node that isn't given up, and names the node
abbrev pub names_unreleased : (fields : ℕ) → (released : ℕ → Bool) → (node place word : ℕ) → ℕ
names_unreleased fields released node place word = only_if (not (released (home fields place))) (one_if_same node (node_of word))

-- How often the node is named: by fields of nodes that aren't given up, by what is pending, and by registers. Pending are new
-- targets after the applied epoch, and replaced targets, snapshots and births from it on.
abbrev pub named : Pending → (node : ℕ) → ℕ
named w node =
    sum_at (names_unreleased w.fields w.released node) w.words
    + sum_by (puts_after w.applied node) w.writes
    + sum_by (replaces_from w.applied node) w.writes
    + sum_by (is_from w.applied node) w.snapshots
    + sum_by (is_from w.applied node) w.births
    + sum_by (is_node node) w.registers

-- How often the node is named, also by fields of nodes that are given up.
abbrev pub named_anywhere : Pending → (node : ℕ) → ℕ
named_anywhere w node =
    sum_at (names node) w.words
    + sum_by (puts_after w.applied node) w.writes
    + sum_by (replaces_from w.applied node) w.writes
    + sum_by (is_from w.applied node) w.snapshots
    + sum_by (is_from w.applied node) w.births
    + sum_by (is_node node) w.registers

-- nothing names a free slot or a node that was given up
abbrev pub IsUnnamed : Pending → Type 0
IsUnnamed w = (node : ℕ) → 0 < node → is_dead w node ≡ true → named w node ≡ 0

-- What every heap that counts late keeps.
pub record IsAccounted (w : Pending) : Type 0 where
  pub epochs : HasEpochs w
  pub ledger : HasLedger w
  pub late : StandsOnce w
  pub held : IsHeld w
  pub unnamed : IsUnnamed w
  -- a slot is free, or its node was given up, and not both
  pub apart : (node : ℕ) → 0 < node → w.free node ≡ true → w.released node ≡ false
  -- a free slot has count one
  pub single : (node : ℕ) → 0 < node → w.free node ≡ true → w.count node ≡ 1
  -- a node is born once
  pub born : (node : ℕ) → 0 < node → sum_by (is_from w.applied node) w.births ≤ 1
  -- a node that was born a leaf is one, as long as its birth is to be counted
  pub leaves : (node : ℕ) → 0 < node → 0 < sum_by (is_leaf_from w.applied node) w.births → w.leaf node ≡ true

-- Every node that was given up has no count, as long as none is given up but for its count.
abbrev pub HasUncountedReleased : Pending → Type 0
HasUncountedReleased w = (node : ℕ) → 0 < node → w.released node ≡ true → w.count node ≡ 0
