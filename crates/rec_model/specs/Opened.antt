-- A heap that counts late as it is opened.
use Rattle.std.specs.Prelude.{◌≡◌, ℕ, ◌+◌, ◌-◌, ◌*◌, ◌<◌, ◌==◌, not, if◌then◌else◌, true, false, [], ◌++◌, replicate}
use Rattle.std.specs.List.{sum_by}
use Rattle.rec_model.specs.Sums.{only_if, sum_at}
use Rattle.rec_model.specs.Pending.{Write, Dated, dated, Pending}
use Rattle.rec_model.specs.Accounted.{is_late_snapshot, is_node, is_wrong_register, late, names}

-- Each mutator is in the requested epoch, and the collection of the epoch before counts as done: no word was put since. Its snapshots
-- name what the registers name, and nothing else is pending. Each node is counted as often as fields and registers name it, a free slot
-- is named by none of them and counts once, and nothing was given up.
pub record IsBeginning (w : Pending) : Type 0 where
  pub near : w.applied + 1 ≡ w.requested
  pub early : (weight : ℕ → ℕ → ℕ) → sum_at (late w.applied weight) w.words ≡ 0
  pub writes : (weight : Write → ℕ) → sum_by weight w.writes ≡ 0
  pub births : (weight : Dated → ℕ) → sum_by weight w.births ≡ 0
  pub snapshots : (weight : Dated → ℕ) → ((d : ℕ) → weight (dated d 0) ≡ 0) → sum_by weight w.snapshots ≡ sum_by (λ d. weight (dated w.applied d.node)) w.registers
  pub left : sum_by (is_late_snapshot w.requested) w.snapshots ≡ 0
  pub entered : sum_by (is_wrong_register w.applied w.requested) w.registers ≡ 0
  pub counted : (node : ℕ) → 0 < node → w.count node ≡ sum_at (names node) w.words + sum_by (is_node node) w.registers + only_if (w.free node) 1
  pub unnamed : (node : ℕ) → 0 < node → w.free node ≡ true → sum_at (names node) w.words + sum_by (is_node node) w.registers ≡ 0
  pub released : (node : ℕ) → 0 < node → w.released node ≡ false

-- such a heap: node 1 is in a register of each mutator, and all other registers, so many of each mutator, and all fields are null
abbrev pub opening : (fields places epoch mutators nulls : ℕ) → Pending
opening fields places epoch mutators nulls =
    record {
      fields = fields;
      words = replicate places 0;
      writes = [];
      births = [];
      snapshots = replicate mutators (dated (epoch - 1) 1) ++ replicate (mutators * nulls) (dated (epoch - 1) 0);
      registers = replicate mutators (dated epoch 1) ++ replicate (mutators * nulls) (dated epoch 0);
      applied = epoch - 1;
      requested = epoch;
      count = λ node. if node == 1 then mutators else 1;
      free = λ node. not (node == 1);
      released = λ node. false;
      leaf = λ node. false;
    }
