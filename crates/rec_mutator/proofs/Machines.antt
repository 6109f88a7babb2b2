-- A step of a machine leaves a machine.
use Rattle.std.proofs.Common.{◌≡◌, ◌≢◌, inl, inr, Bool, true, false, ℕ, ◌+◌, ◌^◌, ◌<◌, ◌≤◌, List, [], ◌∷◌, ◌++◌, Option, None, Some, length, replicate, refl, sym, subst, ◌∙◌, arith, length-append}
use Rattle.std.specs.List.{All}
use Rattle.std.specs.Option.{IfSome}
use Rattle.std.proofs.lemmas.List.Elements.{All-set, All-get_or, All-replicate}
use Rattle.std.proofs.lemmas.Bool.{cases_lt, false≢true}
use Rattle.std.proofs.lemmas.List.{get_or_past, length-replicate, length-set}
use Rattle.rec_word.specs.Word.{target_of, IsTarget}
use Rattle.rec_word.specs.declared.op.Op.{Op}
use Rattle.rec_word.specs.declared.op.Op.TheVariants as ops
use Rattle.rec_model.specs.declared.command.Cmd.{Cmd}
use Rattle.rec_model.specs.declared.command.Cmd.TheVariants as commands
use Rattle.rec_model.specs.declared.told.Told.{Told}
use Rattle.rec_model.specs.Asking.{allocation}
use Rattle.rec_log.specs.declared.contents.Contents.{Contents}
use Rattle.rec_log.specs.declared.entry.Entry.{Entry}
use Rattle.rec_mutator.specs.Private.{Private, opened, register, HasOperands, work_of, work_at, command_of, limit_of, probe_of, steps_to, HasNext, IsAt, IsMachine}
use Rattle.rec_mutator.specs.Step.{Step, Decides, GoesOn, LetsGo, HasLeft, Crosses, HasRoom}
use Rattle.rec_mutator.specs.Took.{moved, nulls_of, IsFound}
use Rattle.rec_mutator.specs.declared.made.Made.TheVariants as makes
use Rattle.rec_mutator.specs.declared.passage.Passage.{Passage}
use Rattle.rec_mutator.specs.declared.passage.Passage.TheVariants.{Parks, Holds, Deposits, Unparks, Reopens, Frees}
use Rattle.rec_mutator.specs.declared.phase.Phase.{Phase}
use Rattle.rec_mutator.specs.declared.phase.Phase.TheVariants.{Idle, Begun, Scanning, Scanned, Storing, Crossing, Swapping, Giving, Leaving, Retiring, Parting, Finished, Passing}
use Rattle.rec_mutator.specs.declared.work.Work.TheVariants as works
use Rattle.rec_mutator.proofs.Around.{behind_below}
use Rattle.rec_mutator.proofs.Refusals.{at_phase}

-- where a field word leads may be a slot
word_target : (word : ℕ) → IsTarget (target_of word)
word_target word = grind arith

-- what a register names may be a slot
pub register_target : (p : Private) (r : ℕ) → IsMachine p → IsTarget (register p r)
register_target p r m = elim (cases_lt r (length p.registers)) [
  | inl there ↦ All-get_or IsTarget p.registers r None there m.registers
  | inr past ↦ subst IsTarget (sym (get_or_past p.registers r None past)) tt
]

-- a step leaves a machine, if its registers may be there, its entries fit, and that holds which its phase wants
stepped_machine : {p : Private} {registers : List (Option ℕ)} {entries : List Entry} {phase : Phase}
    → IsMachine p → All IsTarget registers → length entries ≤ p.log.capacity → length registers ≡ length p.registers → IsAt (moved (record p { registers = registers; log = record p.log { entries = entries } }) phase) phase
    → IsMachine (moved (record p { registers = registers; log = record p.log { entries = entries } }) phase)
stepped_machine m targets few many now = record {
  number = m.number;
  epoch = m.epoch;
  stamped = m.stamped;
  first_slot = m.first_slot;
  last_slot = m.last_slot;
  capacity = m.capacity;
  entries = few;
  registers = targets;
  snapshot = m.snapshot ∙ sym many;
  from = m.from;
  now = now;
}

-- so does an answer
pub answered_machine : {p : Private} {registers : List (Option ℕ)} {entries : List Entry} {cmd : Cmd} {told : Told} {phase : Phase}
    → IsMachine p → All IsTarget registers → length entries ≤ p.log.capacity → length registers ≡ length p.registers → p.steps + 1 ≤ limit_of p.slots (works.Command cmd) → phase ≡ Finished (works.Command cmd) (makes.Answered told)
    → IsMachine (moved (record p { registers = registers; log = record p.log { entries = entries } }) phase)
answered_machine {p = p} {registers = registers} {entries = entries} m targets few many steps is =
    subst (λ (at : Phase). IsMachine (moved (record p { registers = registers; log = record p.log { entries = entries } }) at)) (sym is) (stepped_machine m targets few many steps)

decided_machine : {p : Private} {op : Op} {q : Private} {cmd : Cmd} {at : Phase} {its_op : Op} {registers : List (Option ℕ)} {entries : List Entry} {told : Told}
    → IsMachine p → All IsTarget registers → length entries ≤ p.log.capacity → length registers ≡ length p.registers → p.steps + 1 ≤ limit_of p.slots (works.Command cmd) → Decides p op q cmd at its_op registers entries told → IsMachine q
decided_machine m targets few many steps d = subst IsMachine (sym d.after) (answered_machine m targets few many steps refl)

-- so does a step after which the work goes on, if that holds which its phase wants
pub moved_machine : {p : Private} {phase : Phase} → IsMachine p → IsAt (moved p phase) phase → IsMachine (moved p phase)
moved_machine m now = stepped_machine m m.registers m.entries refl now

going_on_machine : {p : Private} {op : Op} {q : Private} {at : Phase} {its_op : Op} {next_phase : Phase}
    → IsMachine p → IsAt (moved p next_phase) next_phase → GoesOn p op q at its_op next_phase → IsMachine q
going_on_machine m now g = subst IsMachine (sym g.after) (moved_machine m now)

-- a command's first step is within its limit
pub first_step : (p : Private) (cmd : Cmd) → p.steps ≡ 0 → p.steps + 1 ≤ limit_of p.slots (works.Command cmd)
first_step p (commands.New reg label) none = omega arith
first_step p (commands.Leaf reg label) none = omega arith
first_step p (commands.Null reg) none = omega arith
first_step p (commands.Copy dst src) none = omega arith
first_step p (commands.Get dst src f) none = omega arith
first_step p (commands.Put src f val) none = omega arith
first_step p (commands.Value reg) none = omega arith
first_step p (commands.Same a b) none = omega arith
first_step p commands.Leave none = omega arith
first_step p commands.Park none = omega arith
first_step p commands.Unpark none = omega arith

-- an allocation has as many steps as slots, and two
pub allocation_limit : (slots reg label : ℕ) (leaf : Bool) → limit_of slots (works.Command (allocation leaf reg label)) ≡ slots + 2
allocation_limit slots reg label true = refl
allocation_limit slots reg label false = refl

-- parking and unparking have a step left
pub passage_left : (p : Private) (passage : Passage) → p.steps ≡ steps_to passage → p.steps < limit_of p.slots (works.Command (command_of passage))
passage_left p Parks is = omega arith
passage_left p Holds is = omega arith
passage_left p Deposits is = omega arith
passage_left p Unparks is = omega arith
passage_left p Reopens is = omega arith
passage_left p Frees is = omega arith

-- so their steps are within the limit
pub within_passage : (p : Private) (passage : Passage) → p.steps ≡ steps_to passage → p.steps ≤ limit_of p.slots (works.Command (command_of passage))
within_passage p passage is = let less : p.steps < limit_of p.slots (works.Command (command_of passage)) = passage_left p passage is in omega (arith, less)

-- the steps of a work that isn't over are within its limit, by phase
within_at : (p : Private) (at : Phase) → IsAt p at → IfSome (work_at at) (λ work. p.steps ≤ limit_of p.slots work)
within_at p (Begun work) is = omega (arith, is.1)
within_at p (Scanning reg label leaf before probed) is = rw (allocation_limit p.slots reg label leaf) (omega (arith, is.1, is.2))
within_at p (Scanned reg label leaf before) is = rw (allocation_limit p.slots reg label leaf) (omega (arith, is.1))
within_at p (Storing src f val slot) is = omega (arith, is.1)
within_at p Crossing is = omega (arith, is.0)
within_at p Swapping is = omega (arith, is.0)
within_at p Giving is = omega (arith, is.0)
within_at p Leaving is = omega (arith, is.0)
within_at p Retiring is = omega (arith, is.0)
within_at p Parting is = omega (arith, is.0)
within_at p (Finished work made) is = is
within_at p Idle is = tt
within_at p (Passing passage) is = within_passage p passage is.steps

-- the steps of every work are
pub within_limit : (p : Private) → IsMachine p → IfSome (work_of p) (λ work. p.steps ≤ limit_of p.slots work)
within_limit p m = within_at p p.phase m.now

-- its register is there
allocation_register : (p : Private) (reg label : ℕ) (leaf : Bool) → HasOperands p (allocation leaf reg label) → reg < length p.registers
allocation_register p reg label true there = there
allocation_register p reg label false there = there

-- so many steps of it are within the limit
pub within_scan : (p : Private) (reg label : ℕ) (leaf : Bool) → p.steps ≤ p.slots + 1 → p.steps + 1 ≤ limit_of p.slots (works.Command (allocation leaf reg label))
within_scan p reg label leaf few = let limit : limit_of p.slots (works.Command (allocation leaf reg label)) ≡ p.slots + 2 = allocation_limit p.slots reg label leaf in omega (arith, few)

-- one entry more fits
pub one_more : (p : Private) (entry : Entry) → length p.log.entries < p.log.capacity → length (p.log.entries ++ entry ∷ []) ≤ p.log.capacity
one_more p entry room = let more : length (p.log.entries ++ entry ∷ []) ≡ length p.log.entries + 1 = length-append p.log.entries (entry ∷ []) in omega arith

-- a log with room has room for one
pub has_room : (p : Private) → IsMachine p → HasRoom p → length p.log.entries < p.log.capacity
has_room p m room = let most : length p.log.entries ≤ p.log.capacity = m.entries in omega arith

-- a slot of a machine's heap fits a field word
pub slot_target : (p : Private) (slot : ℕ) → IsMachine p → slot < p.slots → IsTarget (Some slot)
slot_target p slot m there = let few : p.slots < 2 ^ 16 = m.last_slot in omega arith

-- the buffer in a mailbox is as large as the log, and holds no more than it can
pub record IsBox (p : Private) (box : Contents) : Type 0 where
  pub snapshot : length box.snapshot ≡ length p.registers
  pub capacity : box.capacity ≡ p.log.capacity
  pub entries : length box.entries ≤ box.capacity

-- the log is such a buffer
own_box : (p : Private) → IsMachine p → IsBox p p.log
own_box p m = record { snapshot = m.snapshot; capacity = refl; entries = m.entries }

-- so does a step of a crossing
crossing_machine : {p : Private} {op : Op} {q : Private} {at : Phase} {its_op : Op} {epoch : ℕ} {log : Contents} {next_phase : Phase}
    → IsMachine p → IsBox p log → (epoch ≤ 2 ^ 24) × (p.left ≡ false → epoch < 2 ^ 24) → IsAt (record p { epoch = epoch; log = log; phase = next_phase; steps = p.steps + 1 }) next_phase → Crosses p op q at its_op epoch log next_phase → IsMachine q
crossing_machine {p = p} {log = log} m box small now c =
    let most : p.log.capacity ≤ 2 ^ 18 = m.capacity in
    let same : log.capacity ≡ p.log.capacity = box.capacity in
    subst IsMachine (sym c.after) (record {
      number = m.number;
      epoch = small.0;
      stamped = small.1;
      first_slot = m.first_slot;
      last_slot = m.last_slot;
      capacity = omega arith;
      entries = box.entries;
      registers = m.registers;
      snapshot = box.snapshot;
      from = m.from;
      now = now;
    })

-- so does a step by which the mutator lets its registers go,
letting_go_machine : {p : Private} {op : Op} {q : Private} {log : Contents} → IsMachine p → IsBox p log → LetsGo p op q log → IsMachine q
letting_go_machine {p = p} {log = log} m box l =
    let now = at_phase p _ m l.phase in
    let one : p.steps ≡ 1 = now.0 in
    let most : p.log.capacity ≤ 2 ^ 18 = m.capacity in
    let same : log.capacity ≡ p.log.capacity = box.capacity in
    let many : length (nulls_of p) ≡ length p.registers = length-replicate (length p.registers) None in
    subst IsMachine (sym l.after) (record {
      number = m.number;
      epoch = m.epoch;
      stamped = m.stamped;
      first_slot = m.first_slot;
      last_slot = m.last_slot;
      capacity = omega arith;
      entries = box.entries;
      registers = All-replicate IsTarget (length p.registers) None tt;
      snapshot = box.snapshot ∙ sym many;
      from = m.from;
      now = (omega arith, now.1);
    })

-- and the one by which it has left
having_left_machine : {p : Private} {op : Op} {q : Private} → IsMachine p → HasLeft p op q → IsMachine q
having_left_machine {p = p} m l =
    let now = at_phase p _ m l.phase in
    let two : p.steps ≡ 2 = now.0 in
    subst IsMachine (sym l.after) (record {
      number = m.number;
      epoch = omega (arith, now.1);
      stamped = λ stays. absurd (false≢true (sym stays));
      first_slot = m.first_slot;
      last_slot = m.last_slot;
      capacity = m.capacity;
      entries = m.entries;
      registers = m.registers;
      snapshot = m.snapshot;
      from = m.from;
      now = omega arith;
    })

-- where the epoch word isn't the own epoch, it is the next one
has_next : (p : Private) (word : ℕ) (op : Op) → word ≢ p.epoch → op ≡ ops.LoadEpoch → IsFound p op word → HasNext p
has_next p word op other at found = elim (subst (λ o. IsFound p o word) at found) [
  | inl own ↦ absurd (other own)
  | inr next ↦ let is : word ≡ p.epoch + 1 = next.0 in let few : word < 2 ^ 24 = next.1 in omega arith
]

-- every step does
pub step_machine : {p : Private} {word : ℕ} {box : Contents} {op : Op} {q : Private} → IsMachine p → IsBox p box → IsFound p op word → Step p word box op q → IsMachine q
step_machine {p = p} m sized found (Step.null reg d) = decided_machine m (All-set IsTarget p.registers reg None tt m.registers) m.entries (length-set p.registers reg None) (first_step p (commands.Null reg) (at_phase p _ m d.phase).1) d
step_machine {p = p} m sized found (Step.copy dst src d) = decided_machine m (All-set IsTarget p.registers dst (register p src) (register_target p src m) m.registers) m.entries (length-set p.registers dst _) (first_step p (commands.Copy dst src) (at_phase p _ m d.phase).1) d
step_machine {p = p} m sized found (Step.compare a b d) = decided_machine m m.registers m.entries refl (first_step p (commands.Same a b) (at_phase p _ m d.phase).1) d
step_machine {p = p} m sized found (Step.park d) = decided_machine m m.registers m.entries refl (first_step p commands.Park (at_phase p _ m d.phase).1) d
step_machine {p = p} m sized found (Step.unpark d) = decided_machine m m.registers m.entries refl (first_step p commands.Unpark (at_phase p _ m d.phase).1) d
step_machine {p = p} m sized found (Step.get_of_null dst src f names d) = decided_machine m m.registers m.entries refl (first_step p (commands.Get dst src f) (at_phase p _ m d.phase).1) d
step_machine {p = p} {word = word} m sized found (Step.get dst src f slot names d) = decided_machine m (All-set IsTarget p.registers dst (target_of word) (word_target word) m.registers) m.entries (length-set p.registers dst _) (first_step p (commands.Get dst src f) (at_phase p _ m d.phase).1) d
step_machine {p = p} m sized found (Step.put_of_null src f val names d) = decided_machine m m.registers m.entries refl (first_step p (commands.Put src f val) (at_phase p _ m d.phase).1) d
step_machine {p = p} m sized found (Step.put_refused src f val slot names full d) = decided_machine m m.registers m.entries refl (first_step p (commands.Put src f val) (at_phase p _ m d.phase).1) d
step_machine {p = p} m sized found (Step.put_into_leaf src f val slot names room leaf d) = decided_machine m m.registers m.entries refl (first_step p (commands.Put src f val) (at_phase p _ m d.phase).1) d
step_machine {p = p} m sized found (Step.put_begins src f val slot names room leaf g) =
    let begun = at_phase p _ m g.phase in
    let none : p.steps ≡ 0 = begun.1 in
    going_on_machine m (record { operands = begun.0; source = names; room = has_room p m room; stamp = begun.2 }, omega arith) g
step_machine {p = p} m sized found (Step.put src f val slot d) =
    let store = at_phase p _ m d.phase in
    let one : p.steps ≡ 1 = store.1 in
    decided_machine m m.registers (one_more p _ store.0.room) refl (omega arith) d
step_machine {p = p} m sized found (Step.value_of_null reg names d) = decided_machine m m.registers m.entries refl (first_step p (commands.Value reg) (at_phase p _ m d.phase).1) d
step_machine {p = p} m sized found (Step.value reg slot names d) = decided_machine m m.registers m.entries refl (first_step p (commands.Value reg) (at_phase p _ m d.phase).1) d
step_machine {p = p} m sized found (Step.new_refused reg label leaf full d) = decided_machine m m.registers m.entries refl (first_step p (allocation leaf reg label) (at_phase p _ m d.phase).1) d
step_machine {p = p} m sized found (Step.new_begins reg label leaf room g) =
    let begun = at_phase p _ m g.phase in
    let none : p.steps ≡ 0 = begun.1 in
    going_on_machine m (record { register = allocation_register p reg label leaf begun.0; room = has_room p m room }, m.first_slot, omega arith) g
step_machine {p = p} m sized found (Step.new_wins reg label leaf before probed free d) =
    let scan = at_phase p _ m d.phase in
    let there : probed < p.slots = scan.1 in
    let steps : p.steps ≡ probed + 1 = scan.2 in
    decided_machine m (All-set IsTarget p.registers reg (Some (probe_of p probed)) (slot_target p (probe_of p probed) m (behind_below p.slots p.from probed m.first_slot)) m.registers) (one_more p _ scan.0.room) (length-set p.registers reg _) (within_scan p reg label leaf (omega arith)) d
step_machine {p = p} m sized found (Step.new_goes_on reg label leaf before probed taken more g) =
    let scan = at_phase p _ m g.phase in
    let there : probed < p.slots = scan.1 in
    let steps : p.steps ≡ probed + 1 = scan.2 in
    going_on_machine m (record { register = scan.0.register; room = scan.0.room }, omega arith, omega arith) g
step_machine {p = p} m sized found (Step.new_finds_none reg label leaf before probed taken last g) =
    let scan = at_phase p _ m g.phase in
    let steps : p.steps ≡ probed + 1 = scan.2 in
    going_on_machine m (record { register = scan.0.register; room = scan.0.room }, omega arith) g
step_machine {p = p} m sized found (Step.new_is_full reg label leaf before still d) =
    let scan = at_phase p _ m d.phase in
    let steps : p.steps ≡ p.slots + 1 = scan.1 in
    decided_machine m m.registers m.entries refl (within_scan p reg label leaf (omega arith)) d
step_machine {p = p} m sized found (Step.new_is_busy reg label leaf before moves d) =
    let scan = at_phase p _ m d.phase in
    let steps : p.steps ≡ p.slots + 1 = scan.1 in
    decided_machine m m.registers m.entries refl (within_scan p reg label leaf (omega arith)) d
step_machine {p = p} m sized found (Step.leave_refused uncollected d) = decided_machine m m.registers m.entries refl (first_step p commands.Leave (at_phase p _ m d.phase).1) d
step_machine {p = p} m sized found (Step.leave_begins collected g) =
    let begun = at_phase p _ m g.phase in
    let none : p.steps ≡ 0 = begun.1 in
    going_on_machine m (omega arith, begun.2) g
step_machine {p = p} m sized found (Step.leave l) = letting_go_machine m sized l
step_machine {p = p} m sized found (Step.leave_ends l) = having_left_machine m l
step_machine {p = p} m sized found (Step.poll_stays own g) =
    let begun = at_phase p _ m g.phase in
    let none : p.steps ≡ 0 = begun.1 in
    going_on_machine m (omega arith) g
step_machine {p = p} {word = word} {op = op} m sized found (Step.poll_crosses other g) =
    let begun = at_phase p _ m g.phase in
    let none : p.steps ≡ 0 = begun.1 in
    going_on_machine m (omega arith, has_next p word op other g.operation found) g
step_machine {p = p} m sized found (Step.take_box c) =
    let crosses = at_phase p _ m c.phase in
    let one : p.steps ≡ 1 = crosses.0 in
    crossing_machine m sized (m.epoch, m.stamped) (omega arith, crosses.1) c
step_machine {p = p} m sized found (Step.give_box c) =
    let crosses = at_phase p _ m c.phase in
    let two : p.steps ≡ 2 = crosses.0 in
    crossing_machine m (own_box p m) (omega (arith, crosses.1), λ _. crosses.1) (omega arith) c

-- a machine with an empty log is as it is opened
pub opened_as : (number epoch slots fields : ℕ) {registers held : List (Option ℕ)} {log : Contents} (regs cap : ℕ) → registers ≡ held → log ≡ record { entries = []; snapshot = replicate regs None; capacity = cap; last = false; still = false }
    → let p : Private = record { number = number; epoch = epoch; slots = slots; fields = fields; registers = registers; log = log; from = 0; phase = Idle; steps = 0; left = false; parked = false; dates = false } in p ≡ opened number epoch slots fields held regs cap
opened_as number epoch slots fields regs cap same empty i = record { number = number; epoch = epoch; slots = slots; fields = fields; registers = same i; log = empty i; from = 0; phase = Idle; steps = 0; left = false; parked = false; dates = false }

-- and is one
pub opened_machine : (number epoch slots fields : ℕ) (held : List (Option ℕ)) (regs cap : ℕ) → number < 2 ^ 6 → epoch < 2 ^ 24 → 0 < slots → slots < 2 ^ 16 → cap ≤ 2 ^ 18 → All IsTarget held → regs ≡ length held
    → IsMachine (opened number epoch slots fields held regs cap)
opened_machine number epoch slots fields held regs cap few early some most room targets size = record {
  number = few;
  epoch = omega arith;
  stamped = λ there. early;
  first_slot = some;
  last_slot = most;
  capacity = room;
  entries = omega arith;
  registers = targets;
  snapshot = length-replicate regs None ∙ size;
  from = some;
  now = refl;
}
