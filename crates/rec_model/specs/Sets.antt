-- Sets of nodes that hold each other alone: what a trial leaves, which sets pass the tests, and their release.
use Rattle.std.specs.Prelude.{◌≡◌, ℕ, ◌+◌, ◌<◌, ◌≤◌, nat_le, not, if◌then◌else◌, Bool, true, false, List, length, ◌==◌}
use Rattle.std.specs.List.{sum_by}
use Rattle.rec_model.specs.Sums.{only_if, one_if_same, sum_at, HasSameSums, HasSameSumsAt}
use Rattle.rec_model.specs.Pending.{node_of, epoch_of, home, Write, Pending}
use Rattle.rec_model.specs.References.{IsInReach, closed_at, references_at}
use Rattle.rec_model.specs.Moves.{KeepsEpochs, KeepsLogs, puts_in, replaces_in, AccountMove}
use Rattle.rec_model.specs.Moves.AccountMove.{put, register, birth, crossing, leaving, batch, release, clearing}
use Rattle.rec_model.specs.Accounted.{IsAccounted}

-- counted where the field is a member's, and the word that was seen in it names the node
abbrev pub seen_in : (fields : ℕ) → (member : ℕ → Bool) → (seen : ℕ → ℕ) → (node place word : ℕ) → ℕ
seen_in fields member seen node place word = only_if (member (home fields place)) (one_if_same node (node_of (seen place)))

-- each word that was seen in a field of a member and names the node is a reference of the applied epoch
abbrev pub IsStanding : Pending → (member : ℕ → Bool) → (seen : ℕ → ℕ) → (node : ℕ) → Type 0
IsStanding w member seen node =
    (place : ℕ) → place < length w.words → member (home w.fields place) ≡ true → one_if_same node (node_of (seen place)) ≤ references_at w w.applied place node

-- A set passes its tests, by the words that were seen in the fields of its members: each of them is a reference of the applied
-- epoch, and no member has more counts than there are seen words that name it.
pub record PassesTests (w : Pending) (member : ℕ → Bool) (seen : ℕ → ℕ) : Type 0 where
  pub stands : (node : ℕ) → 0 < node → member node ≡ true → IsStanding w member seen node
  pub counted : (node : ℕ) → 0 < node → member node ≡ true → w.count node ≤ sum_at (seen_in w.fields member seen node) w.words

-- counted where the word that marking loaded from the field names the node
abbrev pub marked_in : (mark : ℕ → ℕ) → (node place word : ℕ) → ℕ
marked_in mark node place word = one_if_same node (node_of (mark place))

-- What a trial leaves to the next batch: the members of its sets, and the word that marking loaded from each field. A marking
-- word that names a member is a reference of the batch's epoch. A member has no more counts than there are marking words that
-- name it. Where the field is no member's, such a word was replaced.
pub record IsMarked (w : Pending) (member : ℕ → Bool) (mark : ℕ → ℕ) : Type 0 where
  pub stands : (place node : ℕ) → place < length w.words → 0 < node → member node ≡ true → one_if_same node (node_of (mark place)) ≤ references_at w (w.applied + 1) place node
  pub counted : (node : ℕ) → 0 < node → member node ≡ true → w.count node ≤ sum_at (marked_in mark node) w.words
  pub blackened : (place node : ℕ) → place < length w.words → 0 < node → member node ≡ true → member (home w.fields place) ≡ false → one_if_same node (node_of (mark place)) ≤ closed_at w (w.applied + 1) place node

-- The collector has loaded these words from fields, and each that has a target is still a reference of the next batch's epoch.
abbrev pub HasLoaded : Pending → (load : ℕ → ℕ) → Type 0
HasLoaded w load = (place node : ℕ) → place < length w.words → 0 < node → one_if_same node (node_of (load place)) ≤ references_at w (w.applied + 1) place node

-- the words that were loaded, with one more
abbrev pub with_load : (load : ℕ → ℕ) → (place word : ℕ) → ℕ → ℕ
with_load load place word p = if p == place then word else load p

-- the moves that leave what was loaded a reference
abbrev pub IsAfterLoads : {before after : Pending} → AccountMove before after → Type 0
IsAfterLoads (batch s) = ⊥
IsAfterLoads (clearing s) = ⊥
IsAfterLoads _ = Unit {0}

-- a word that the collector took out of a field
pub record Cleared : Type 0 where
  pub place : ℕ
  pub word : ℕ

-- a weight of words, for those that were put up to this epoch
abbrev pub early : (epoch : ℕ) → (weight : ℕ → ℕ → ℕ) → (place word : ℕ) → ℕ
early epoch weight place word = only_if (nat_le (epoch_of word) epoch) (weight place word)

-- of the word that a write of this epoch or a later one replaced
abbrev pub replaced_early : (epoch : ℕ) → (weight : ℕ → ℕ → ℕ) → Write → ℕ
replaced_early epoch weight write = only_if (nat_le epoch (epoch_of write.new)) (early epoch weight write.place write.old)

-- of a word that was taken out
abbrev pub gone_early : (epoch : ℕ) → (weight : ℕ → ℕ → ℕ) → Cleared → ℕ
gone_early epoch weight cleared = early epoch weight cleared.place cleared.word

-- counted where the field isn't of a node that was given up
abbrev pub is_unreleased : (fields : ℕ) → (released : ℕ → Bool) → Cleared → ℕ
is_unreleased fields released cleared = only_if (not (released (home fields cleared.place))) 1

-- From the batch on, which made `w` of `u`: the references of the batch's epoch stand, were replaced, or were taken out of nodes
-- that were given up; logs have only grown, and not by writes of that epoch; and a member that was given up was out of reach
-- before.
pub record IsSince (w u : Pending) (member : ℕ → Bool) (gone : List Cleared) : Type 0 where
  pub next : u.applied + 1 ≡ w.applied
  pub fields : w.fields ≡ u.fields
  pub places : length w.words ≡ length u.words
  pub kept : (weight : ℕ → ℕ → ℕ) → ((place : ℕ) → weight place 0 ≡ 0)
      → sum_at (early w.applied weight) w.words + sum_by (replaced_early w.applied weight) w.writes + sum_by (gone_early w.applied weight) gone
      ≡ sum_at (early w.applied weight) u.words + sum_by (replaced_early w.applied weight) u.writes
  pub grown : (weight : Write → ℕ) → sum_by weight u.writes ≤ sum_by weight w.writes
  pub closed : (node : ℕ) → sum_by (replaces_in w.applied node) w.writes ≡ sum_by (replaces_in w.applied node) u.writes
  pub given_up : sum_by (is_unreleased w.fields w.released) gone ≡ 0
  pub safe : (node : ℕ) → 0 < node → member node ≡ true → w.released node ≡ true → IsInReach u u.applied node → ⊥

-- The tests of a trial's sets run, after the batch that made `w` of `u`.
pub record IsTesting (w u : Pending) (member : ℕ → Bool) : Type 0 where
  pub before : IsAccounted u
  pub done : w.applied + 1 ≡ w.requested
  pub marked : (mark : ℕ → ℕ) × IsMarked u member mark
  pub since : (gone : List Cleared) × IsSince w u member gone

-- the moves that may be made while sets are tested
abbrev pub IsAmongTests : {before after : Pending} → AccountMove before after → Type 0
IsAmongTests (put s) = Unit {0}
IsAmongTests (register s) = Unit {0}
IsAmongTests (birth s) = Unit {0}
IsAmongTests (crossing s) = Unit {0}
IsAmongTests (leaving s) = Unit {0}
IsAmongTests (release s) = Unit {0}
IsAmongTests (clearing s) = Unit {0}
IsAmongTests _ = ⊥

-- a test with yes for all members too
abbrev pub with_members : (ℕ → Bool) → (member : ℕ → Bool) → ℕ → Bool
with_members test member y = if member y then true else test y

-- A set of members of the trial passes its tests, and no write of the batch's epoch put a word that names one of them.
pub record IsTested (w u : Pending) (member chosen : ℕ → Bool) : Type 0 where
  pub passes : (seen : ℕ → ℕ) × PassesTests w chosen seen
  pub among : (node : ℕ) → 0 < node → chosen node ≡ true → member node ≡ true
  pub unput : (node : ℕ) → 0 < node → chosen node ≡ true → sum_by (puts_in (u.applied + 1) node) u.writes ≡ 0

-- The collector gives up all members of a set.
pub record ReleasesSet (before after : Pending) (chosen : ℕ → Bool) : Type 0 where
  pub words : HasSameSumsAt before.words after.words
  pub logs : KeepsLogs before after
  pub registers : HasSameSums before.registers after.registers
  pub epochs : KeepsEpochs before after
  pub count : (x : ℕ) → 0 < x → after.count x ≡ before.count x
  pub free : (x : ℕ) → 0 < x → after.free x ≡ before.free x
  pub released : (x : ℕ) → 0 < x → after.released x ≡ with_members before.released chosen x
  pub leaf : (x : ℕ) → 0 < x → after.leaf x ≡ before.leaf x
