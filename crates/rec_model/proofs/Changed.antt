-- What each move changes: the heap with just that changed differs from the one after the move in nothing but how its lists are
-- laid out.
use Rattle.std.proofs.Common.{ℕ, ◌+◌, Bool, true, false, List, refl}
use Rattle.rec_model.proofs.Common.{Pending, Puts, Registers, Bears, Crosses, LetsGo, Requests, Applies, Releases, Clears, Frees, Drops, with_answer}
use Rattle.rec_model.specs.Sets.{with_members, ReleasesSet}
use Rattle.rec_model.proofs.Alike.{IsAlike}

abbrev pub after_put : (w v : Pending) → Pending
after_put w v = record w { words = v.words; writes = v.writes }

pub put_alike : (w v : Pending) (epoch place new : ℕ) → Puts w v epoch place new → IsAlike (after_put w v) v
put_alike w v epoch place new s = record {
  epochs = record { fields = s.epochs.fields; applied = s.epochs.applied; requested = s.epochs.requested };
  slots = record { count = s.slots.count; free = s.slots.free; released = s.slots.released; leaf = s.slots.leaf };
  words = λ f. refl;
  logs = record { writes = λ f. refl; births = s.births; snapshots = s.snapshots };
  registers = s.registers;
}

abbrev pub after_register : (w v : Pending) → Pending
after_register w v = record w { registers = v.registers }

pub register_alike : (w v : Pending) (epoch old new : ℕ) → Registers w v epoch old new → IsAlike (after_register w v) v
register_alike w v epoch old new s = record {
  epochs = record { fields = s.epochs.fields; applied = s.epochs.applied; requested = s.epochs.requested };
  slots = record { count = s.slots.count; free = s.slots.free; released = s.slots.released; leaf = s.slots.leaf };
  words = s.words;
  logs = record { writes = s.logs.writes; births = s.logs.births; snapshots = s.logs.snapshots };
  registers = λ f. refl;
}

abbrev pub after_birth : (w v : Pending) → (node : ℕ) → Pending
after_birth w v node = record w { births = v.births; registers = v.registers; free = with_answer w.free node false; leaf = v.leaf }

pub birth_alike : (w v : Pending) (epoch old node : ℕ) → Bears w v epoch old node → IsAlike (after_birth w v node) v
birth_alike w v epoch old node s = record {
  epochs = record { fields = s.epochs.fields; applied = s.epochs.applied; requested = s.epochs.requested };
  slots = record { count = s.count; free = s.free; released = s.released; leaf = λ x _. refl };
  words = s.words;
  logs = record { writes = s.writes; births = λ f. refl; snapshots = s.snapshots };
  registers = λ f. refl;
}

abbrev pub after_crossing : (w v : Pending) → Pending
after_crossing w v = record w { snapshots = v.snapshots; registers = v.registers }

pub crossing_alike : (w v : Pending) (epoch : ℕ) (ns : List ℕ) → Crosses w v epoch ns → IsAlike (after_crossing w v) v
crossing_alike w v epoch ns s = record {
  epochs = record { fields = s.epochs.fields; applied = s.epochs.applied; requested = s.epochs.requested };
  slots = record { count = s.slots.count; free = s.slots.free; released = s.slots.released; leaf = s.slots.leaf };
  words = s.words;
  logs = record { writes = s.writes; births = s.births; snapshots = λ f. refl };
  registers = λ f. refl;
}

-- a mutator that leaves changes what registers name, as a register does that changes
pub leaving_alike : (w v : Pending) → LetsGo w v → IsAlike (after_register w v) v
leaving_alike w v s = record {
  epochs = record { fields = s.epochs.fields; applied = s.epochs.applied; requested = s.epochs.requested };
  slots = record { count = s.slots.count; free = s.slots.free; released = s.slots.released; leaf = s.slots.leaf };
  words = s.words;
  logs = record { writes = s.logs.writes; births = s.logs.births; snapshots = s.logs.snapshots };
  registers = λ f. refl;
}

abbrev pub after_request : (w v : Pending) → Pending
after_request w v = record w { requested = w.requested + 1 }

pub request_alike : (w v : Pending) → Requests w v → IsAlike (after_request w v) v
request_alike w v s = record {
  epochs = record { fields = s.fields; applied = s.applied; requested = s.requested };
  slots = record { count = s.slots.count; free = s.slots.free; released = s.slots.released; leaf = s.slots.leaf };
  words = s.words;
  logs = record { writes = s.logs.writes; births = s.logs.births; snapshots = s.logs.snapshots };
  registers = s.registers;
}

abbrev pub after_batch : (w v : Pending) → Pending
after_batch w v = record w { applied = w.applied + 1; count = v.count }

pub batch_alike : (w v : Pending) → Applies w v → IsAlike (after_batch w v) v
batch_alike w v s = record {
  epochs = record { fields = s.fields; applied = s.applied; requested = s.requested };
  slots = record { count = λ x _. refl; free = s.free; released = s.released; leaf = s.leaf };
  words = s.words;
  logs = record { writes = s.logs.writes; births = s.logs.births; snapshots = s.logs.snapshots };
  registers = s.registers;
}

abbrev pub after_release : (w v : Pending) → (node : ℕ) → Pending
after_release w v node = record w { released = with_answer w.released node true }

pub release_alike : (w v : Pending) (node : ℕ) → Releases w v node → IsAlike (after_release w v node) v
release_alike w v node s = record {
  epochs = record { fields = s.epochs.fields; applied = s.epochs.applied; requested = s.epochs.requested };
  slots = record { count = s.count; free = s.free; released = s.released; leaf = s.leaf };
  words = s.words;
  logs = record { writes = s.logs.writes; births = s.logs.births; snapshots = s.logs.snapshots };
  registers = s.registers;
}

abbrev pub after_clearing : (w v : Pending) → Pending
after_clearing w v = record w { words = v.words; count = v.count }

pub clearing_alike : (w v : Pending) (place : ℕ) → Clears w v place → IsAlike (after_clearing w v) v
clearing_alike w v place s = record {
  epochs = record { fields = s.epochs.fields; applied = s.epochs.applied; requested = s.epochs.requested };
  slots = record { count = λ x _. refl; free = s.free; released = s.released; leaf = s.leaf };
  words = λ f. refl;
  logs = record { writes = s.logs.writes; births = s.logs.births; snapshots = s.logs.snapshots };
  registers = s.registers;
}

abbrev pub after_freeing : (w v : Pending) → (node : ℕ) → Pending
after_freeing w v node = record w { count = v.count; free = with_answer w.free node true; released = with_answer w.released node false; leaf = v.leaf }

pub freeing_alike : (w v : Pending) (node : ℕ) → Frees w v node → IsAlike (after_freeing w v node) v
freeing_alike w v node s = record {
  epochs = record { fields = s.epochs.fields; applied = s.epochs.applied; requested = s.epochs.requested };
  slots = record { count = λ y _. refl; free = s.free; released = s.released; leaf = λ x _. refl };
  words = s.words;
  logs = record { writes = s.logs.writes; births = s.logs.births; snapshots = s.logs.snapshots };
  registers = s.registers;
}

abbrev pub after_dropping : (w v : Pending) → Pending
after_dropping w v = record w { writes = v.writes; births = v.births; snapshots = v.snapshots }

pub dropping_alike : (w v : Pending) → Drops w v → IsAlike (after_dropping w v) v
dropping_alike w v s = record {
  epochs = record { fields = s.epochs.fields; applied = s.epochs.applied; requested = s.epochs.requested };
  slots = record { count = s.slots.count; free = s.slots.free; released = s.slots.released; leaf = s.slots.leaf };
  words = s.words;
  logs = record { writes = λ f. refl; births = λ f. refl; snapshots = λ f. refl };
  registers = s.registers;
}

abbrev pub after_set : (w v : Pending) → (chosen : ℕ → Bool) → Pending
after_set w v chosen = record w { released = with_members w.released chosen }

pub set_alike : (w v : Pending) (chosen : ℕ → Bool) → ReleasesSet w v chosen → IsAlike (after_set w v chosen) v
set_alike w v chosen s = record {
  epochs = record { fields = s.epochs.fields; applied = s.epochs.applied; requested = s.epochs.requested };
  slots = record { count = s.count; free = s.free; released = s.released; leaf = s.leaf };
  words = s.words;
  logs = record { writes = s.logs.writes; births = s.logs.births; snapshots = s.logs.snapshots };
  registers = s.registers;
}
