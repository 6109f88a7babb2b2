-- What a heap that counts late has to account for: its field words, its registers, and what is not counted yet.
use Rattle.std.specs.Prelude.{ℕ, ◌+◌, ◌/◌, ◌<◌, ◌==◌, Bool, false, List, slice_index_or}
use Rattle.std.specs.List.{sum_by}
use Rattle.rec_word.specs.Bare.{date_of}
use Rattle.rec_word.specs.Word.{target_bits}
use Rattle.rec_model.specs.Sums.{only_if, one_if_same}

-- A node is the object that a slot holds, from its birth to its freeing. It is numbered by its slot plus one; 0 is null.
-- The node that a field word names.
unfoldable pub node_of : (word : ℕ) → ℕ
node_of word = target_bits word

-- The epoch in which a field word was put: its date. A word without one was put by no mutator, and before all epochs.
unfoldable pub epoch_of : (word : ℕ) → ℕ
epoch_of word = date_of word

-- the node that has a field, by the place of the field and the number of fields of an object
abbrev pub home : (fields place : ℕ) → ℕ
home fields place = place / fields + 1

-- a write in a log: where, which word it put, and which word it replaced. It was made in the epoch of the word that it put,
-- which has a stamp also where it is null.
pub record Write : Type 0 where
  pub place : ℕ
  pub new : ℕ
  pub old : ℕ

-- A node, or null, with an epoch. The birth of a leaf is marked.
pub record Dated : Type 0 where
  pub epoch : ℕ
  pub node : ℕ
  pub leaf : Bool

abbrev pub dated : (epoch node : ℕ) → Dated
dated epoch node = record { epoch = epoch; node = node; leaf = false }

abbrev pub dated_birth : (epoch node : ℕ) → (leaf : Bool) → Dated
dated_birth epoch node leaf = record { epoch = epoch; node = node; leaf = leaf }

-- The writes, births and snapshots are those of all logs that the collector isn't done with, wherever they are and in
-- whatever order.
pub record Pending : Type 0 where
  -- the number of fields of an object
  pub fields : ℕ
  -- the field words by place
  pub words : List ℕ
  pub writes : List Write
  -- each birth with the epoch in which it was
  pub births : List Dated
  -- what the registers named when their mutator left an epoch, with that epoch
  pub snapshots : List Dated
  -- what the registers name, with the epoch in which their mutator is
  pub registers : List Dated
  -- the epoch of the last batch, and the epoch that was requested last
  pub applied : ℕ
  pub requested : ℕ
  -- of each node: its true count, whether its slot is free, whether the collector gave it up, and whether it is a leaf
  pub count : ℕ → ℕ
  pub free : ℕ → Bool
  pub released : ℕ → Bool
  pub leaf : ℕ → Bool

-- the word in a field
abbrev pub word_in : Pending → (place : ℕ) → ℕ
word_in w place = slice_index_or w.words place 0

-- counted where it is of this epoch and names this node
abbrev pub is_at : (epoch node : ℕ) → Dated → ℕ
is_at epoch node d = only_if (epoch == d.epoch) (one_if_same node d.node)

-- a mutator in this epoch has this node, or null, in a register
abbrev pub Holds : Pending → (epoch node : ℕ) → Type 0
Holds w epoch node = 0 < sum_by (is_at epoch node) w.registers
