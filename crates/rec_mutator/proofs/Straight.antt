-- What is learnt of the usual works all at once, behind their last operation, is what is learnt step by step.
use Rattle.std.proofs.Common.{◌≡◌, ℕ, ◌+◌, ◌%◌, ◌<◌, Bool, true, false, List, [], ◌∷◌, ◌++◌, Option, Some, None, if◌then◌else◌, refl, sym, ap, subst, ◌∙◌, arith, set, inl, eq-eqb, ◌==◌}
use Rattle.rec_word.specs.Header.{is_leaf, label_of, IsTakenHeader}
use Rattle.rec_word.specs.Place.{place_of}
use Rattle.rec_word.specs.Word.{target_of}
use Rattle.rec_model.specs.Asking.{allocation, null_or_object, plain, same, yes_or_no}
use Rattle.rec_model.specs.declared.answer.Answer.{Answer}
use Rattle.rec_model.specs.declared.answer.Answer.TheVariants as answers
use Rattle.rec_model.specs.declared.command.Cmd.TheVariants as commands
use Rattle.rec_model.specs.declared.told.Told.{Told}
use Rattle.rec_log.specs.declared.contents.Contents.{Contents}
use Rattle.rec_log.specs.declared.entry.Entry.TheVariants as entries
use Rattle.rec_mutator.specs.Next.{next_of, next_at, read_op, write_op, label_op, new_op}
use Rattle.rec_mutator.specs.Private.{Private, register, is_busy, is_full, word_for, probe_of, IsValid, IsMachine}
use Rattle.rec_mutator.specs.Took.{begun_of, took_of, took_at, read_by, written_by, allowed_by, label_by, new_by, born_in, IsFound, IsRequested}
use Rattle.rec_mutator.specs.declared.made.Made.TheVariants as makes
use Rattle.rec_mutator.specs.declared.phase.Phase.{Phase}
use Rattle.rec_mutator.specs.declared.phase.Phase.TheVariants.{Begun, Scanning, Storing, Crossing, Finished}
use Rattle.rec_mutator.specs.declared.work.Work.{Work}
use Rattle.rec_mutator.specs.declared.work.Work.TheVariants as works
use Rattle.rec_mutator.proofs.Around.{behind_near}
use Rattle.rec_mutator.proofs.Machines.{step_machine}
use Rattle.rec_mutator.proofs.Steps.{TakesNone, learnt_made}

-- the operands that a work names are there as well once it was begun
valid_begun : (p : Private) (work begun : Work) (from : ℕ) → IsValid p work → IsValid (begun_of p begun from) work
unfolding begun_of
valid_begun p (works.Command cmd) begun from valid = valid
valid_begun p works.Poll begun from valid = tt

-- a machine that begins a work is one
pub begun_machine : (p : Private) (work : Work) (from : ℕ) → IsMachine p → IsValid p work → p.left ≡ false → from < p.slots → IsMachine (begun_of p work from)
unfolding begun_of
begun_machine p work from m valid stays there = record {
  number = m.number;
  epoch = m.epoch;
  stamped = m.stamped;
  first_slot = m.first_slot;
  last_slot = m.last_slot;
  capacity = m.capacity;
  entries = m.entries;
  registers = m.registers;
  snapshot = m.snapshot;
  from = there;
  now = (valid_begun p work work from valid, refl, m.stamped stays);
}

-- and so is one that learns of a step that takes no mailbox
plain_machine : (p : Private) (word : ℕ) → IsMachine p → is_busy p ≡ true → TakesNone p.phase → IsFound p (next_of p) word → IsMachine (took_of p word)
plain_machine p word m busy none found = step_machine m (record { snapshot = m.snapshot; capacity = refl; entries = m.entries }) found (learnt_made p word p.log busy none)

pub begun_busy : (p : Private) (work : Work) (from : ℕ) → is_busy (begun_of p work from) ≡ true
unfolding begun_of
begun_busy p work from = refl

pub begun_takes_none : (p : Private) (work : Work) (from : ℕ) → TakesNone (begun_of p work from).phase
unfolding begun_of
begun_takes_none p work from = tt

first_machine : (p : Private) (work : Work) (from word : ℕ) → IsMachine (begun_of p work from) → IsFound (begun_of p work from) (next_of (begun_of p work from)) word → IsMachine (took_of (begun_of p work from) word)
first_machine p work from word m found = plain_machine (begun_of p work from) word m (begun_busy p work from) (begun_takes_none p work from) found

-- A read of an object's field.
abbrev get : (dst src f : ℕ) → Work
get dst src f = works.Command (commands.Get dst src f)

pub got_is : (p : Private) (dst src f slot word : ℕ) {registers : List (Option ℕ)} {phase : Phase} {target : Option ℕ} → register p src ≡ Some slot → target ≡ target_of word → registers ≡ set p.registers dst target
    → phase ≡ Finished (get dst src f) (makes.Answered (record { answer = null_or_object target; saw = word; left = 0 }))
    → record p { registers = registers; phase = phase; steps = 1 } ≡ took_of (begun_of p (get dst src f) p.from) word
unfolding begun_of took_of took_at
got_is p dst src f slot word {target = target} object leads becomes ends =
    let q : Private = record p { phase = Begun (get dst src f); steps = 0 } in
    let tells : Option ℕ → Told = λ x. record { answer = null_or_object x; saw = word; left = 0 } in
    (λ i. record p { registers = becomes i; phase = ends i; steps = 1 })
    ∙ (λ i. record p { registers = set p.registers dst (leads i); phase = Finished (get dst src f) (makes.Answered (tells (leads i))); steps = 1 })
    ∙ sym (ap (read_by q (commands.Get dst src f) dst word) object)

pub got_machine : (p : Private) (dst src f slot word : ℕ) → IsMachine (begun_of p (get dst src f) p.from) → register p src ≡ Some slot → IsMachine (took_of (begun_of p (get dst src f) p.from) word)
unfolding begun_of next_of next_at
got_machine p dst src f slot word m object =
    let q : Private = begun_of p (get dst src f) p.from in
    first_machine p (get dst src f) p.from word m (subst (λ (x : Option ℕ). IsFound q (read_op q f x) word) (sym object) tt)

-- A register that becomes a copy, or null.
abbrev copy : (dst src : ℕ) → Work
copy dst src = works.Command (commands.Copy dst src)

pub copied_is : (p : Private) (dst src word : ℕ) {registers : List (Option ℕ)} {phase : Phase} {told : Told} → registers ≡ set p.registers dst (register p src) → told ≡ plain answers.Done → phase ≡ Finished (copy dst src) (makes.Answered told)
    → record p { registers = registers; phase = phase; steps = 1 } ≡ took_of (begun_of p (copy dst src) p.from) word
unfolding begun_of took_of took_at
copied_is p dst src word becomes tells ends =
    (λ i. record p { registers = becomes i; phase = ends i; steps = 1 }) ∙ (λ i. record p { registers = set p.registers dst (register p src); phase = Finished (copy dst src) (makes.Answered (tells i)); steps = 1 })

pub copied_machine : (p : Private) (dst src word : ℕ) → IsMachine (begun_of p (copy dst src) p.from) → IsMachine (took_of (begun_of p (copy dst src) p.from) word)
unfolding begun_of next_of next_at
copied_machine p dst src word m = first_machine p (copy dst src) p.from word m tt

abbrev null : (reg : ℕ) → Work
null reg = works.Command (commands.Null reg)

pub nulled_is : (p : Private) (reg word : ℕ) {registers : List (Option ℕ)} {phase : Phase} {told : Told} → registers ≡ set p.registers reg None → told ≡ plain answers.Done → phase ≡ Finished (null reg) (makes.Answered told)
    → record p { registers = registers; phase = phase; steps = 1 } ≡ took_of (begun_of p (null reg) p.from) word
unfolding begun_of took_of took_at
nulled_is p reg word becomes tells ends =
    (λ i. record p { registers = becomes i; phase = ends i; steps = 1 }) ∙ (λ i. record p { registers = set p.registers reg None; phase = Finished (null reg) (makes.Answered (tells i)); steps = 1 })

pub nulled_machine : (p : Private) (reg word : ℕ) → IsMachine (begun_of p (null reg) p.from) → IsMachine (took_of (begun_of p (null reg) p.from) word)
unfolding begun_of next_of next_at
nulled_machine p reg word m = first_machine p (null reg) p.from word m tt

-- A write of a field, in two steps.
abbrev put : (src f val : ℕ) → Work
put src f val = works.Command (commands.Put src f val)

abbrev pub storing : (p : Private) (src f val slot : ℕ) → Private
storing p src f val slot = record p { phase = Storing src f val slot; steps = 1 }

-- by its first one
pub looked_is : (p : Private) (src f val slot header : ℕ) → register p src ≡ Some slot → is_full p ≡ false → is_leaf header ≡ false → took_of (begun_of p (put src f val) p.from) header ≡ storing p src f val slot
unfolding begun_of took_of took_at
looked_is p src f val slot header object room no_leaf =
    let q : Private = record p { phase = Begun (put src f val); steps = 0 } in
    (λ i. written_by q src f val header (object i) (room i)) ∙ ap (allowed_by q src f val slot) no_leaf

pub looked_machine : (p : Private) (src f val slot header : ℕ) → IsMachine (begun_of p (put src f val) p.from) → register p src ≡ Some slot → is_full p ≡ false → IsTakenHeader header × (is_leaf header ≡ false) → IsMachine (storing p src f val slot)
unfolding begun_of next_of next_at
looked_machine p src f val slot header m object room found =
    let q : Private = begun_of p (put src f val) p.from in
    subst IsMachine (looked_is p src f val slot header object room found.1)
    (first_machine p (put src f val) p.from header m (subst (λ (x : Option ℕ × Bool). IsFound q (write_op q x.0 x.1) header) (λ i. (sym object i, sym room i)) found.0))

pub wrote_is : (p : Private) (src f val slot header word : ℕ) {log : Contents} {phase : Phase} {place left : ℕ} → register p src ≡ Some slot → is_full p ≡ false → is_leaf header ≡ false → place ≡ place_of slot f p.fields → left ≡ word_for p val
    → log ≡ record p.log { entries = p.log.entries ++ entries.Put place left word ∷ [] } → phase ≡ Finished (put src f val) (makes.Answered (record { answer = answers.Done; saw = word; left = left }))
    → record p { log = log; phase = phase; steps = 2 } ≡ took_of (took_of (begun_of p (put src f val) p.from) header) word
unfolding took_of took_at
wrote_is p src f val slot header word object room no_leaf stands leads more ends =
    let logs : ℕ → ℕ → Contents = λ place left. record p.log { entries = p.log.entries ++ entries.Put place left word ∷ [] } in
    (λ i. record p { log = more i; phase = ends i; steps = 2 })
    ∙ (λ i. record p { log = logs (stands i) (leads i); phase = Finished (put src f val) (makes.Answered (record { answer = answers.Done; saw = word; left = leads i })); steps = 2 })
    ∙ ap (λ (q : Private). took_of q word) (sym (looked_is p src f val slot header object room no_leaf))

pub wrote_machine : (p : Private) (src f val slot header word : ℕ) → IsMachine (begun_of p (put src f val) p.from) → register p src ≡ Some slot → is_full p ≡ false → IsTakenHeader header × (is_leaf header ≡ false)
    → IsMachine (took_of (took_of (begun_of p (put src f val) p.from) header) word)
unfolding next_of next_at
wrote_machine p src f val slot header word m object room found =
    subst (λ (q : Private). IsMachine (took_of q word)) (sym (looked_is p src f val slot header object room found.1))
    (plain_machine (storing p src f val slot) word (looked_machine p src f val slot header m object room found) refl tt tt)

-- A write into a leaf ends with its first step.
pub barred_is : (p : Private) (src f val slot header : ℕ) {phase : Phase} {told : Told} → register p src ≡ Some slot → is_full p ≡ false → is_leaf header ≡ true → told ≡ plain answers.NoField → phase ≡ Finished (put src f val) (makes.Answered told)
    → record p { phase = phase; steps = 1 } ≡ took_of (begun_of p (put src f val) p.from) header
unfolding begun_of took_of took_at
barred_is p src f val slot header object room leaf tells ends =
    let q : Private = record p { phase = Begun (put src f val); steps = 0 } in
    (λ i. record p { phase = ends i; steps = 1 })
    ∙ (λ i. record p { phase = Finished (put src f val) (makes.Answered (tells i)); steps = 1 })
    ∙ sym ((λ i. written_by q src f val header (object i) (room i)) ∙ ap (allowed_by q src f val slot) leaf)

pub barred_machine : (p : Private) (src f val slot header : ℕ) → IsMachine (begun_of p (put src f val) p.from) → register p src ≡ Some slot → is_full p ≡ false → IsTakenHeader header × (is_leaf header ≡ true) → IsMachine (took_of (begun_of p (put src f val) p.from) header)
unfolding begun_of next_of next_at
barred_machine p src f val slot header m object room found =
    let q : Private = begun_of p (put src f val) p.from in
    first_machine p (put src f val) p.from header m (subst (λ (x : Option ℕ × Bool). IsFound q (write_op q x.0 x.1) header) (λ i. (sym object i, sym room i)) found.0)

-- A birth whose first probe wins, in two steps.
abbrev new : (reg label : ℕ) (leaf : Bool) → Work
new reg label leaf = works.Command (allocation leaf reg label)

abbrev pub scanning : (p : Private) (reg label : ℕ) (leaf : Bool) (from before : ℕ) → Private
scanning p reg label leaf from before = record p { from = from; phase = Scanning reg label leaf before 0; steps = 1 }

pub scans_is : (p : Private) (reg label : ℕ) (leaf : Bool) (from before : ℕ) → is_full p ≡ false → took_of (begun_of p (new reg label leaf) from) before ≡ scanning p reg label leaf from before
unfolding begun_of took_of took_at
scans_is p reg label true from before room = ap (new_by (record p { from = from; phase = Begun (new reg label true); steps = 0 }) before reg label true) room
scans_is p reg label false from before room = ap (new_by (record p { from = from; phase = Begun (new reg label false); steps = 0 }) before reg label false) room

pub found_new : (p : Private) (reg label : ℕ) (leaf : Bool) (from before : ℕ) → is_full p ≡ false → IsFound (begun_of p (new reg label leaf) from) (next_of (begun_of p (new reg label leaf) from)) before
unfolding begun_of next_of next_at
found_new p reg label true from before room = let q : Private = begun_of p (new reg label true) from in subst (λ (x : Bool). IsFound q (new_op q x) before) (sym room) tt
found_new p reg label false from before room = let q : Private = begun_of p (new reg label false) from in subst (λ (x : Bool). IsFound q (new_op q x) before) (sym room) tt

pub scans_machine : (p : Private) (reg label : ℕ) (leaf : Bool) (from before : ℕ) → IsMachine (begun_of p (new reg label leaf) from) → is_full p ≡ false → IsMachine (scanning p reg label leaf from before)
scans_machine p reg label leaf from before m room = subst IsMachine (scans_is p reg label leaf from before room) (first_machine p (new reg label leaf) from before m (found_new p reg label leaf from before room))

pub found_claim : (p : Private) (reg label : ℕ) (leaf : Bool) (from before found : ℕ) → IsFound (scanning p reg label leaf from before) (next_of (scanning p reg label leaf from before)) found
unfolding next_of next_at
found_claim p reg label leaf from before found = tt

first_probe : (slots from : ℕ) → from < slots → from ≡ (from + 0) % slots
first_probe slots from there =
    let near = behind_near slots from 0 (omega arith) in
    omega (arith, near)

pub bore_is : (p : Private) (reg label : ℕ) (leaf : Bool) (from before : ℕ) {registers : List (Option ℕ)} {log : Contents} {phase : Phase} {told : Told} → is_full p ≡ false → from < p.slots
    → registers ≡ set p.registers reg (Some from) → log ≡ record p.log { entries = p.log.entries ++ entries.Born from leaf ∷ [] } → told ≡ plain answers.Done → phase ≡ Finished (new reg label leaf) (makes.Answered told)
    → record p { from = from; registers = registers; log = log; phase = phase; steps = 2 } ≡ took_of (took_of (begun_of p (new reg label leaf) from) before) 0
unfolding took_of took_at
bore_is p reg label leaf from before room there becomes more tells ends =
    let q : Private = scanning p reg label leaf from before in
    let first : from ≡ probe_of q 0 = first_probe p.slots from there in
    (λ i. record p { from = from; registers = becomes i; log = more i; phase = ends i; steps = 2 })
    ∙ (λ i. record p { from = from; registers = set p.registers reg (Some from); log = record p.log { entries = p.log.entries ++ entries.Born from leaf ∷ [] }; phase = Finished (new reg label leaf) (makes.Answered (tells i)); steps = 2 })
    ∙ ap (born_in q reg label leaf) first
    ∙ ap (λ (q : Private). took_of q 0) (sym (scans_is p reg label leaf from before room))

pub bore_machine : (p : Private) (reg label : ℕ) (leaf : Bool) (from before : ℕ) → IsMachine (begun_of p (new reg label leaf) from) → is_full p ≡ false → IsMachine (took_of (took_of (begun_of p (new reg label leaf) from) before) 0)
unfolding next_of next_at
bore_machine p reg label leaf from before m room =
    subst (λ (q : Private). IsMachine (took_of q 0)) (sym (scans_is p reg label leaf from before room))
    (plain_machine (scanning p reg label leaf from before) 0 (scans_machine p reg label leaf from before m room) refl tt tt)

-- A look at an object's label.
abbrev value : (reg : ℕ) → Work
value reg = works.Command (commands.Value reg)

pub labelled_is : (p : Private) (reg slot header : ℕ) {label : ℕ} {phase : Phase} {told : Told} → register p reg ≡ Some slot → label ≡ label_of header → told ≡ plain (answers.Value label) → phase ≡ Finished (value reg) (makes.Answered told)
    → record p { phase = phase; steps = 1 } ≡ took_of (begun_of p (value reg) p.from) header
unfolding begun_of took_of took_at
labelled_is p reg slot header object label tells ends =
    let finished : Told → Private = λ told. record p { phase = Finished (value reg) (makes.Answered told); steps = 1 } in
    (λ i. record p { phase = ends i; steps = 1 })
    ∙ ap finished tells
    ∙ ap (λ n. finished (plain (answers.Value n))) label
    ∙ sym (ap (λ (x : Option ℕ). finished (plain (label_by header x))) object)

pub labelled_machine : (p : Private) (reg slot header : ℕ) → IsMachine (begun_of p (value reg) p.from) → register p reg ≡ Some slot → IsTakenHeader header → IsMachine (took_of (begun_of p (value reg) p.from) header)
unfolding begun_of next_of next_at
labelled_machine p reg slot header m object taken =
    let q : Private = begun_of p (value reg) p.from in
    first_machine p (value reg) p.from header m (subst (λ (x : Option ℕ). IsFound q (label_op q x) header) (sym object) taken)

-- A comparison of two registers.
abbrev compare : (a b : ℕ) → Work
compare a b = works.Command (commands.Same a b)

pub compared_is : (p : Private) (a b word : ℕ) {one other : Option ℕ} {answer : Answer} {phase : Phase} {told : Told} → one ≡ register p a → other ≡ register p b → answer ≡ yes_or_no (same one other) → told ≡ plain answer → phase ≡ Finished (compare a b) (makes.Answered told)
    → record p { phase = phase; steps = 1 } ≡ took_of (begun_of p (compare a b) p.from) word
unfolding begun_of took_of took_at
compared_is p a b word one other is tells ends =
    let finished : Told → Private = λ told. record p { phase = Finished (compare a b) (makes.Answered told); steps = 1 } in
    (λ i. record p { phase = ends i; steps = 1 }) ∙ ap finished (tells ∙ ap plain is ∙ (λ i. plain (yes_or_no (same (one i) (other i)))))

pub compared_machine : (p : Private) (a b word : ℕ) → IsMachine (begun_of p (compare a b) p.from) → IsMachine (took_of (begun_of p (compare a b) p.from) word)
unfolding begun_of next_of next_at
compared_machine p a b word m = first_machine p (compare a b) p.from word m tt

-- A poll that finds its own epoch requested.
pub stayed_is : (p : Private) (word : ℕ) {phase : Phase} → word ≡ p.epoch → phase ≡ Finished works.Poll (makes.Crossed None) → record p { phase = phase; steps = 1 } ≡ took_of (begun_of p works.Poll p.from) word
unfolding begun_of took_of took_at
stayed_is p word own ends =
    let here : (word == p.epoch) ≡ true = eq-eqb word p.epoch own in
    (λ i. record p { phase = ends i; steps = 1 }) ∙ sym (ap (λ (b : Bool). record p { phase = if b then Finished works.Poll (makes.Crossed None) else Crossing; steps = 1 }) here)

pub stayed_machine : (p : Private) (word : ℕ) → IsMachine (begun_of p works.Poll p.from) → word ≡ p.epoch → IsMachine (took_of (begun_of p works.Poll p.from) word)
unfolding begun_of next_of next_at
stayed_machine p word m own = first_machine p works.Poll p.from word m (inl own)

-- and of one that finds another
pub found_poll : (p : Private) (from word : ℕ) → IsRequested p word → IsFound (begun_of p works.Poll from) (next_of (begun_of p works.Poll from)) word
unfolding begun_of next_of next_at
found_poll p from word asked = asked
