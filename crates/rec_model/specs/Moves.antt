-- The moves of a heap that counts late, each by the laws of its sums. Each law speaks of every weight, so a move says which
-- elements a list gains and loses, and not how they are laid out in logs, mailboxes and mutators.
use Rattle.std.specs.Prelude.{◌≡◌, ◌≢◌, ◌⊎◌, ℕ, ◌+◌, ◌<◌, ◌≤◌, ◌==◌, nat_lt, nat_le, if◌then◌else◌, Bool, true, false, List, length}
use Rattle.std.specs.List.{sum_by}
use Rattle.rec_model.specs.Sums.{only_if, one_if_same, sum_at, HasSameSums, HasSameSumsAt}
use Rattle.rec_model.specs.Pending.{node_of, epoch_of, home, Write, Dated, dated, dated_birth, Pending, word_in, is_at, Holds}

-- the list gains one element
abbrev Gains : {X : Type 0} → (before : List X) → X → (after : List X) → Type 0
Gains {X} before x after = (weight : X → ℕ) → sum_by weight after ≡ sum_by weight before + weight x

-- one element of the list is replaced
abbrev Replaces : {X : Type 0} → (before : List X) → (old new : X) → (after : List X) → Type 0
Replaces {X} before old new after = (weight : X → ℕ) → sum_by weight after + weight old ≡ sum_by weight before + weight new

-- the element at one place of the list is replaced
abbrev pub ReplacesAt : {X : Type 0} → (before : List X) → (place : ℕ) → (old new : X) → (after : List X) → Type 0
ReplacesAt {X} before place old new after = (weight : ℕ → X → ℕ) → sum_at weight after + weight place old ≡ sum_at weight before + weight place new

-- a test with its answer for one number changed
abbrev pub with_answer : (ℕ → Bool) → ℕ → Bool → ℕ → Bool
with_answer test x answer y = if y == x then answer else test y

-- the epochs and the number of fields stay
pub record KeepsEpochs (before after : Pending) : Type 0 where
  pub fields : after.fields ≡ before.fields
  pub applied : after.applied ≡ before.applied
  pub requested : after.requested ≡ before.requested

-- the counts, what is free, what is released and what is a leaf stay
pub record KeepsSlots (before after : Pending) : Type 0 where
  pub count : (x : ℕ) → 0 < x → after.count x ≡ before.count x
  pub free : (x : ℕ) → 0 < x → after.free x ≡ before.free x
  pub released : (x : ℕ) → 0 < x → after.released x ≡ before.released x
  pub leaf : (x : ℕ) → 0 < x → after.leaf x ≡ before.leaf x

-- the logs stay
pub record KeepsLogs (before after : Pending) : Type 0 where
  pub writes : HasSameSums before.writes after.writes
  pub births : HasSameSums before.births after.births
  pub snapshots : HasSameSums before.snapshots after.snapshots

-- A mutator in this epoch exchanges the word in the field of a node that it holds, and logs it. The new word is null or names
-- a node that it holds.
pub record Puts (before after : Pending) (epoch place new : ℕ) : Type 0 where
  pub inside : place < length before.words
  pub source : Holds before epoch (home before.fields place)
  pub target : 0 < node_of new → Holds before epoch (node_of new)
  pub stamp : epoch_of new ≡ epoch
  pub words : ReplacesAt before.words place (word_in before place) new after.words
  pub writes : Gains before.writes (record { place = place; new = new; old = word_in before place }) after.writes
  pub births : HasSameSums before.births after.births
  pub snapshots : HasSameSums before.snapshots after.snapshots
  pub registers : HasSameSums before.registers after.registers
  pub epochs : KeepsEpochs before after
  pub slots : KeepsSlots before after

-- a mutator in this epoch finds the node in a field of a node that it holds
pub record Loads (w : Pending) (epoch node : ℕ) : Type 0 where
  pub place : ℕ
  pub inside : place < length w.words
  pub source : Holds w epoch (home w.fields place)
  pub target : node ≡ node_of (word_in w place)

-- A register of a mutator in this epoch changes: to null, to a node that it holds, or to one that it finds in a field.
pub record Registers (before after : Pending) (epoch old new : ℕ) : Type 0 where
  pub had : Holds before epoch old
  pub value : 0 < new → Holds before epoch new ⊎ Loads before epoch new
  pub registers : Replaces before.registers (dated epoch old) (dated epoch new) after.registers
  pub words : HasSameSumsAt before.words after.words
  pub logs : KeepsLogs before after
  pub epochs : KeepsEpochs before after
  pub slots : KeepsSlots before after

-- A mutator in this epoch takes a free slot for a new node, lets a register name it, and logs it: whether it is a leaf stands in its
-- slot and in the log.
pub record Bears (before after : Pending) (epoch old node : ℕ) : Type 0 where
  pub had : Holds before epoch old
  pub is_node : 0 < node
  pub was_free : before.free node ≡ true
  pub leaf : Bool
  pub births : Gains before.births (dated_birth epoch node leaf) after.births
  pub registers : Replaces before.registers (dated epoch old) (dated epoch node) after.registers
  pub words : HasSameSumsAt before.words after.words
  pub writes : HasSameSums before.writes after.writes
  pub snapshots : HasSameSums before.snapshots after.snapshots
  pub epochs : KeepsEpochs before after
  pub count : (x : ℕ) → 0 < x → after.count x ≡ before.count x
  pub free : (x : ℕ) → 0 < x → after.free x ≡ with_answer before.free node false x
  pub released : (x : ℕ) → 0 < x → after.released x ≡ before.released x
  pub leaves : (x : ℕ) → 0 < x → after.leaf x ≡ with_answer before.leaf node leaf x

-- A mutator leaves this epoch for the requested one: what its registers name is written as a snapshot.
pub record Crosses (before after : Pending) (epoch : ℕ) (names : List ℕ) : Type 0 where
  pub asked : epoch + 1 ≡ before.requested
  pub unapplied : before.applied < epoch
  pub snapshots : (weight : Dated → ℕ) → sum_by weight after.snapshots ≡ sum_by weight before.snapshots + sum_by (λ x. weight (dated epoch x)) names
  pub registers : (weight : Dated → ℕ) → sum_by weight after.registers + sum_by (λ x. weight (dated epoch x)) names ≡ sum_by weight before.registers + sum_by (λ x. weight (dated (epoch + 1) x)) names
  pub words : HasSameSumsAt before.words after.words
  pub writes : HasSameSums before.writes after.writes
  pub births : HasSameSums before.births after.births
  pub epochs : KeepsEpochs before after
  pub slots : KeepsSlots before after

-- A mutator that leaves lets its registers go: it names nothing more, and no register names more than before.
pub record LetsGo (before after : Pending) : Type 0 where
  pub registers : (weight : Dated → ℕ) → sum_by weight after.registers ≤ sum_by weight before.registers
  pub words : HasSameSumsAt before.words after.words
  pub logs : KeepsLogs before after
  pub epochs : KeepsEpochs before after
  pub slots : KeepsSlots before after

-- The collector requests the next epoch, once the batch of the last one is applied.
pub record Requests (before after : Pending) : Type 0 where
  pub done : before.applied + 1 ≡ before.requested
  pub fields : after.fields ≡ before.fields
  pub applied : after.applied ≡ before.applied
  pub requested : after.requested ≡ before.requested + 1
  pub words : HasSameSumsAt before.words after.words
  pub logs : KeepsLogs before after
  pub registers : HasSameSums before.registers after.registers
  pub slots : KeepsSlots before after

-- counted where the write was made in this epoch and put a word that names the node
abbrev pub puts_in : (epoch node : ℕ) → Write → ℕ
puts_in epoch node write = only_if (epoch == epoch_of write.new) (one_if_same node (node_of write.new))

-- counted where the write was made in this epoch and replaced a word that names the node
abbrev pub replaces_in : (epoch node : ℕ) → Write → ℕ
replaces_in epoch node write = only_if (epoch == epoch_of write.new) (one_if_same node (node_of write.old))

-- what the next batch adds to a node's count: the new targets of its own epoch and the snapshots written on leaving it
abbrev pub added : Pending → (node : ℕ) → ℕ
added w node = sum_by (puts_in (w.applied + 1) node) w.writes + sum_by (is_at (w.applied + 1) node) w.snapshots

-- what the next batch takes off: the replaced targets, births and snapshots of the epoch before
abbrev pub taken : Pending → (node : ℕ) → ℕ
taken w node = sum_by (replaces_in w.applied node) w.writes + sum_by (is_at w.applied node) w.births + sum_by (is_at w.applied node) w.snapshots

-- counted where a register's mutator isn't past this epoch
abbrev pub is_up_to : (epoch : ℕ) → Dated → ℕ
is_up_to epoch d = only_if (nat_le d.epoch epoch) 1

-- The collector applies the batch of the next epoch, once every mutator has left it.
pub record Applies (before after : Pending) : Type 0 where
  pub asked : before.applied + 2 ≡ before.requested
  pub crossed : sum_by (is_up_to (before.applied + 1)) before.registers ≡ 0
  pub counts : (x : ℕ) → 0 < x → after.count x + taken before x ≡ before.count x + added before x
  pub fields : after.fields ≡ before.fields
  pub applied : after.applied ≡ before.applied + 1
  pub requested : after.requested ≡ before.requested
  pub words : HasSameSumsAt before.words after.words
  pub logs : KeepsLogs before after
  pub registers : HasSameSums before.registers after.registers
  pub free : (x : ℕ) → 0 < x → after.free x ≡ before.free x
  pub released : (x : ℕ) → 0 < x → after.released x ≡ before.released x
  pub leaf : (x : ℕ) → 0 < x → after.leaf x ≡ before.leaf x

-- The collector gives up a node of count zero.
pub record Releases (before after : Pending) (node : ℕ) : Type 0 where
  pub done : before.applied + 1 ≡ before.requested
  pub is_node : 0 < node
  pub unnamed : before.count node ≡ 0
  pub words : HasSameSumsAt before.words after.words
  pub logs : KeepsLogs before after
  pub registers : HasSameSums before.registers after.registers
  pub epochs : KeepsEpochs before after
  pub count : (x : ℕ) → 0 < x → after.count x ≡ before.count x
  pub free : (x : ℕ) → 0 < x → after.free x ≡ before.free x
  pub released : (x : ℕ) → 0 < x → after.released x ≡ with_answer before.released node true x
  pub leaf : (x : ℕ) → 0 < x → after.leaf x ≡ before.leaf x

-- The collector takes the word out of a field of a node that it gave up, and takes one off the count of the target.
pub record Clears (before after : Pending) (place : ℕ) : Type 0 where
  pub done : before.applied + 1 ≡ before.requested
  pub inside : place < length before.words
  pub was_released : before.released (home before.fields place) ≡ true
  pub words : ReplacesAt before.words place (word_in before place) 0 after.words
  pub counts : (x : ℕ) → 0 < x → after.count x + one_if_same x (node_of (word_in before place)) ≡ before.count x
  pub logs : KeepsLogs before after
  pub registers : HasSameSums before.registers after.registers
  pub epochs : KeepsEpochs before after
  pub free : (x : ℕ) → 0 < x → after.free x ≡ before.free x
  pub released : (x : ℕ) → 0 < x → after.released x ≡ before.released x
  pub leaf : (x : ℕ) → 0 < x → after.leaf x ≡ before.leaf x

-- counted where the field is the node's own, and not null
abbrev pub leads_out_of : (fields node place word : ℕ) → ℕ
leads_out_of fields node place word = only_if (node == home fields place) (only_if (nat_lt 0 (node_of word)) 1)

-- The collector frees the slot of a node that it gave up and emptied, and that has no count: its count becomes one.
pub record Frees (before after : Pending) (node : ℕ) : Type 0 where
  pub is_node : 0 < node
  pub was_released : before.released node ≡ true
  pub empty : sum_at (leads_out_of before.fields node) before.words ≡ 0
  pub uncounted : before.count node ≡ 0
  pub counts : (x : ℕ) → 0 < x → after.count x ≡ before.count x + one_if_same x node
  pub words : HasSameSumsAt before.words after.words
  pub logs : KeepsLogs before after
  pub registers : HasSameSums before.registers after.registers
  pub epochs : KeepsEpochs before after
  pub free : (x : ℕ) → 0 < x → after.free x ≡ with_answer before.free node true x
  pub released : (x : ℕ) → 0 < x → after.released x ≡ with_answer before.released node false x
  -- a slot that is freed has no object to be a leaf
  pub leaf : (x : ℕ) → 0 < x → x ≢ node → after.leaf x ≡ before.leaf x

-- The list keeps all elements from this epoch on, and gains none.
abbrev KeepsFrom : {X : Type 0} → (epoch_of : X → ℕ) → (epoch : ℕ) → (before after : List X) → Type 0
KeepsFrom {X} epoch_of epoch before after =
    ((weight : X → ℕ) → sum_by weight after ≤ sum_by weight before)
    × ((weight : X → ℕ) → ((x : X) → epoch_of x < epoch → weight x ≡ 0) → sum_by weight after ≡ sum_by weight before)

-- The same of a list of nodes, which may lose what is null too.
abbrev KeepsNodesFrom : (epoch : ℕ) → (before after : List Dated) → Type 0
KeepsNodesFrom epoch before after =
    ((weight : Dated → ℕ) → sum_by weight after ≤ sum_by weight before)
    × ((weight : Dated → ℕ) → ((d : Dated) → d.epoch < epoch → weight d ≡ 0) → ((e : ℕ) → weight (dated e 0) ≡ 0) → sum_by weight after ≡ sum_by weight before)

-- Logs of epochs before the applied one are cleared, or nothing but the order of the lists and what is null in them changes.
pub record Drops (before after : Pending) : Type 0 where
  pub writes : KeepsFrom (λ (e : Write). epoch_of e.new) before.applied before.writes after.writes
  pub births : KeepsNodesFrom before.applied before.births after.births
  pub snapshots : KeepsNodesFrom before.applied before.snapshots after.snapshots
  pub words : HasSameSumsAt before.words after.words
  pub registers : HasSameSums before.registers after.registers
  pub epochs : KeepsEpochs before after
  pub slots : KeepsSlots before after

-- a move of a mutator or of the collector
pub data AccountMove (before after : Pending) : Type 0 where
  put : {epoch place new : ℕ} → Puts before after epoch place new → AccountMove before after
  register : {epoch old new : ℕ} → Registers before after epoch old new → AccountMove before after
  birth : {epoch old node : ℕ} → Bears before after epoch old node → AccountMove before after
  crossing : {epoch : ℕ} {names : List ℕ} → Crosses before after epoch names → AccountMove before after
  leaving : LetsGo before after → AccountMove before after
  request : Requests before after → AccountMove before after
  batch : Applies before after → AccountMove before after
  release : {node : ℕ} → Releases before after node → AccountMove before after
  clearing : {place : ℕ} → Clears before after place → AccountMove before after
  freeing : {node : ℕ} → Frees before after node → AccountMove before after
  dropping : Drops before after → AccountMove before after
