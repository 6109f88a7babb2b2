-- A heap whose slots are to be offered to the next trial keeps what it kept.
use Rattle.std.proofs.Common.{true}
use Rattle.rec_core.proofs.Common.{IsHeldAt, Returning, Pending, Phase, Idle, Core, HasCyclesAt, IsKept, offering, pending}
use Rattle.rec_collector.specs.Private.{Private}
use Rattle.rec_collector.proofs.Keeping.{offers_kept}

-- its sets are the same, and so is what is at work on them: its counts stay
cycles_on : (w : Pending) (c : Private) (phase : Phase) → HasCyclesAt w c phase → HasCyclesAt w (record c { offers = true }) phase
cycles_on w c Idle k = k
cycles_on w c _ k = k

held_on : (w : Core) (phase : Phase) → IsHeldAt w phase → IsHeldAt (offering w) phase
held_on w (Returning t) h = h
held_on w _ h = tt

-- That all slots are to be offered changes nothing of what a heap keeps.
pub offering_kept : (w : Core) → IsKept true w → IsKept true (offering w)
offering_kept w k = record {
  whole = record {
    config = k.config;
    headers = k.headers;
    labels = k.labels;
    mutators = k.mutators;
    collector = record {
      machine = offers_kept w.collector true k.collector.machine;
      between = k.collector.between;
      slots = k.collector.slots;
      fields = k.collector.fields;
      registers = k.collector.registers;
      capacity = k.collector.capacity;
      policy = k.collector.policy;
      mutators = k.collector.mutators;
      epoch = k.collector.epoch;
      begun = k.collector.begun;
      newer = k.collector.newer;
      older = k.collector.older;
      listed = k.collector.listed;
      emptied = k.collector.emptied;
    };
    sweeps = k.sweeps;
    learnt = k.learnt;
    made = k.made;
    sound = k.sound;
    greens = k.greens;
    accounted = k.accounted;
    uncounted = k.uncounted;
    cycles = cycles_on (pending w) w.collector w.collector.phase k.cycles;
  };
  held = held_on w w.collector.phase k.held;
  behind = tt;
}
