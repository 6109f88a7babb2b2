-- What a mutator does next and what it learns is the same in a heap of bare words, but for the words.
use Rattle.std.proofs.Common.{◌≡◌, Bool, true, false, ℕ, ◌+◌, ◌<◌, ◌==◌, if◌then◌else◌, List, [], ◌∷◌, Option, None, Some, length, refl, sym, ap, ◌∙◌, arith}
use Rattle.std.proofs.lemmas.List.{map-append}
use Rattle.std.proofs.lemmas.List.{length-map}
use Rattle.rec_word.specs.Bare.{bare, bare_in, bare_op}
use Rattle.rec_word.specs.Mailbox.{holds}
use Rattle.rec_word.specs.Op.{cell_of}
use Rattle.rec_word.specs.Place.{place_of}
use Rattle.rec_word.specs.Header.{is_leaf}
use Rattle.rec_word.specs.Word.{packed}
use Rattle.rec_word.specs.declared.op.Op.TheVariants as ops
use Rattle.rec_word.proofs.Bare.{target_of_bare}
use Rattle.rec_log.specs.Words.{entry_by}
use Rattle.rec_log.specs.declared.contents.Contents.{Contents}
use Rattle.rec_log.specs.declared.entry.Entry.{Entry}
use Rattle.rec_log.specs.declared.entry.Entry.TheVariants as entries
use Rattle.rec_model.specs.Asking.{allocation, null_or_object, plain}
use Rattle.rec_model.specs.declared.answer.Answer.TheVariants as answers
use Rattle.rec_model.specs.declared.command.Cmd.{Cmd}
use Rattle.rec_model.specs.declared.command.Cmd.TheVariants as commands
use Rattle.rec_mutator.specs.Bare.{bare_buffer, bare_phase, bare_private}
use Rattle.rec_mutator.specs.Next.{begun_op, first_op, new_op, next_at, next_of, read_op, write_op, label_op}
use Rattle.rec_mutator.specs.Private.{IsAt, IsMachine, IsStore, Private, is_busy, is_busy_at, is_full, probe_of, register, word_for}
use Rattle.rec_mutator.specs.Step.{HasRoom}
use Rattle.rec_mutator.specs.Took.{allowed_by, answered, awoken, begun_by, begun_of, born_in, first_by, label_by, left_at, left_of, leaving_by, is_uncollected, moved, new_by, passed, probed, read_by, stored, step_of, swapped_at, swapped_of, took_at, took_of, with_entry, with_register, written_by}
use Rattle.rec_mutator.specs.declared.made.Made.TheVariants as makes
use Rattle.rec_mutator.specs.declared.passage.Passage.{Passage}
use Rattle.rec_mutator.specs.declared.passage.Passage.TheVariants.{Parks, Holds, Deposits, Unparks, Reopens, Frees}
use Rattle.rec_mutator.specs.declared.phase.Phase.{Phase}
use Rattle.rec_mutator.specs.declared.phase.Phase.TheVariants.{Idle, Begun, Scanning, Scanned, Storing, Crossing, Swapping, Giving, Leaving, Retiring, Parting, Finished, Passing}
use Rattle.rec_mutator.specs.declared.work.Work.{Work}
use Rattle.rec_mutator.specs.declared.work.Work.TheVariants as works
use Rattle.rec_mutator.proofs.LogStamps.{word_bare}

-- a log is as full
full_bare : (p : Private) → is_full (bare_private p) ≡ is_full p
full_bare p = ap (λ n. n == p.log.capacity) (length-map p.log.entries (entry_by bare))

-- one entry more
entry_bare : (p : Private) (entry : Entry) (phase : Phase) → moved (with_entry (bare_private p) (entry_by bare entry)) (bare_phase phase) ≡ bare_private (moved (with_entry p entry) phase)
entry_bare p entry phase = ap (λ (es : List Entry). record p { log = record p.log { entries = es }; phase = bare_phase phase; steps = p.steps + 1; dates = false }) (sym (map-append (entry_by bare) p.log.entries (entry ∷ [])))

-- a write that goes on has room
store_room : (p : Private) (src f val slot : ℕ) → IsStore p src f val slot → HasRoom p
store_room p src f val slot store = λ full. let room : length p.log.entries < p.log.capacity = store.room in omega (arith, room, full)

-- the word that a write puts is the bare one
for_bare : (p : Private) (src f val slot : ℕ) → IsMachine p → IsStore p src f val slot → word_for (bare_private p) val ≡ bare (word_for p val)
for_bare p src f val slot m store =
    ap (λ n. packed (register p val) (record { writer = p.number; epoch = p.epoch; index = n })) (length-map p.log.entries (entry_by bare)) ∙ sym (word_bare p val m store.stamp (store_room p src f val slot store))

-- what comes next, by what decides it
new_next : (p : Private) (full : Bool) → new_op (bare_private p) full ≡ bare_op (new_op p full)
new_next p true = refl
new_next p false = refl

read_next : (p : Private) (f : ℕ) (x : Option ℕ) → read_op (bare_private p) f x ≡ bare_op (read_op p f x)
read_next p f None = refl
read_next p f (Some slot) = refl

write_next : (p : Private) (x : Option ℕ) (full : Bool) → write_op (bare_private p) x full ≡ bare_op (write_op p x full)
write_next p None full = refl
write_next p (Some slot) true = refl
write_next p (Some slot) false = refl

label_next : (p : Private) (x : Option ℕ) → label_op (bare_private p) x ≡ bare_op (label_op p x)
label_next p None = refl
label_next p (Some slot) = refl

first_next : (p : Private) (cmd : Cmd) → first_op (bare_private p) cmd ≡ bare_op (first_op p cmd)
first_next p (commands.New reg label) = ap (new_op (bare_private p)) (full_bare p) ∙ new_next p (is_full p)
first_next p (commands.Leaf reg label) = ap (new_op (bare_private p)) (full_bare p) ∙ new_next p (is_full p)
first_next p (commands.Null reg) = refl
first_next p (commands.Copy dst src) = refl
first_next p (commands.Get dst src f) = read_next p f (register p src)
first_next p (commands.Put src f val) = ap (write_op (bare_private p) (register p src)) (full_bare p) ∙ write_next p (register p src) (is_full p)
first_next p (commands.Value reg) = label_next p (register p reg)
first_next p (commands.Same a b) = refl
first_next p commands.Leave = refl
first_next p commands.Park = refl
first_next p commands.Unpark = refl

begun_next : (p : Private) (work : Work) → begun_op (bare_private p) work ≡ bare_op (begun_op p work)
begun_next p (works.Command cmd) = first_next p cmd
begun_next p works.Poll = refl

next_at_bare : (p : Private) (phase : Phase) → IsMachine p → IsAt p phase → next_at (bare_private p) (bare_phase phase) ≡ bare_op (next_at p phase)
unfolding next_at
next_at_bare p Idle m now = refl
next_at_bare p (Begun work) m now = begun_next p work
next_at_bare p (Scanning reg label leaf before probed) m now = refl
next_at_bare p (Scanned reg label leaf before) m now = refl
next_at_bare p (Storing src f val slot) m now = ap (ops.SwapField (place_of slot f p.fields)) (for_bare p src f val slot m now.0)
next_at_bare p Crossing m now = refl
next_at_bare p Swapping m now = refl
next_at_bare p Giving m now = refl
next_at_bare p Leaving m now = refl
next_at_bare p Retiring m now = refl
next_at_bare p Parting m now = refl
next_at_bare p (Finished work made) m now = refl
next_at_bare p (Passing passage) m now = refl

-- what comes next
pub next_bare : (p : Private) → IsMachine p → next_of (bare_private p) ≡ bare_op (next_of p)
unfolding next_of
next_bare p m = next_at_bare p p.phase m m.now

-- what is learnt of the first step, by what decides it
new_learnt : (p : Private) (word reg label : ℕ) (leaf full : Bool) → new_by (bare_private p) (bare_in (cell_of (new_op p full)) word) reg label leaf full ≡ bare_private (new_by p word reg label leaf full)
new_learnt p word reg label true true = refl
new_learnt p word reg label false true = refl
new_learnt p word reg label leaf false = refl

new_is : (p : Private) (word reg label : ℕ) (leaf : Bool) → new_by (bare_private p) (bare_in (cell_of (new_op p (is_full p))) word) reg label leaf (is_full (bare_private p)) ≡ bare_private (new_by p word reg label leaf (is_full p))
new_is p word reg label leaf = ap (new_by (bare_private p) (bare_in (cell_of (new_op p (is_full p))) word) reg label leaf) (full_bare p) ∙ new_learnt p word reg label leaf (is_full p)

read_learnt : (p : Private) (dst src f word : ℕ) (x : Option ℕ) → read_by (bare_private p) (commands.Get dst src f) dst (bare_in (cell_of (read_op p f x)) word) x ≡ bare_private (read_by p (commands.Get dst src f) dst word x)
read_learnt p dst src f word None = refl
read_learnt p dst src f word (Some slot) =
    ap (λ (x : Option ℕ). answered (with_register (bare_private p) dst x) (commands.Get dst src f) (record { answer = null_or_object x; saw = bare word; left = 0 })) (target_of_bare word)

allowed_learnt : (p : Private) (src f val slot : ℕ) (leaf : Bool) → allowed_by (bare_private p) src f val slot leaf ≡ bare_private (allowed_by p src f val slot leaf)
allowed_learnt p src f val slot true = refl
allowed_learnt p src f val slot false = refl

write_learnt : (p : Private) (src f val word : ℕ) (x : Option ℕ) (full : Bool) → written_by (bare_private p) src f val (bare_in (cell_of (write_op p x full)) word) x full ≡ bare_private (written_by p src f val word x full)
write_learnt p src f val word None full = refl
write_learnt p src f val word (Some slot) true = refl
write_learnt p src f val word (Some slot) false = allowed_learnt p src f val slot (is_leaf word)

label_learnt : (p : Private) (reg word : ℕ) (x : Option ℕ) → answered (bare_private p) (commands.Value reg) (plain (label_by (bare_in (cell_of (label_op p x)) word) x)) ≡ bare_private (answered p (commands.Value reg) (plain (label_by word x)))
label_learnt p reg word None = refl
label_learnt p reg word (Some slot) = refl

leaving_learnt : (p : Private) (uncollected : Bool) → leaving_by (bare_private p) uncollected ≡ bare_private (leaving_by p uncollected)
leaving_learnt p true = refl
leaving_learnt p false = refl

poll_learnt : (p : Private) (own : Bool) → moved (bare_private p) (if own then Finished works.Poll (makes.Crossed None) else Crossing) ≡ bare_private (moved p (if own then Finished works.Poll (makes.Crossed None) else Crossing))
poll_learnt p true = refl
poll_learnt p false = refl

first_learnt : (p : Private) (word : ℕ) (cmd : Cmd) → first_by (bare_private p) (bare_in (cell_of (first_op p cmd)) word) cmd ≡ bare_private (first_by p word cmd)
first_learnt p word (commands.New reg label) = new_is p word reg label false
first_learnt p word (commands.Leaf reg label) = new_is p word reg label true
first_learnt p word (commands.Null reg) = refl
first_learnt p word (commands.Copy dst src) = refl
first_learnt p word (commands.Get dst src f) = read_learnt p dst src f word (register p src)
first_learnt p word (commands.Put src f val) =
    ap (written_by (bare_private p) src f val (bare_in (cell_of (write_op p (register p src) (is_full p))) word) (register p src)) (full_bare p) ∙ write_learnt p src f val word (register p src) (is_full p)
first_learnt p word (commands.Value reg) = label_learnt p reg word (register p reg)
first_learnt p word (commands.Same a b) = refl
first_learnt p word commands.Leave = leaving_learnt p (is_uncollected word)
first_learnt p word commands.Park = refl
first_learnt p word commands.Unpark = refl

begun_learnt : (p : Private) (word : ℕ) (work : Work) → begun_by (bare_private p) (bare_in (cell_of (begun_op p work)) word) work ≡ bare_private (begun_by p word work)
begun_learnt p word (works.Command cmd) = first_learnt p word cmd
begun_learnt p word works.Poll = poll_learnt p (word == p.epoch)

-- a birth, and a probe
born_learnt : (p : Private) (reg label : ℕ) (leaf : Bool) (slot : ℕ) → born_in (bare_private p) reg label leaf slot ≡ bare_private (born_in p reg label leaf slot)
born_learnt p reg label leaf slot = entry_bare (with_register p reg (Some slot)) (entries.Born slot leaf) (Finished (works.Command (allocation leaf reg label)) (makes.Answered (plain answers.Done)))

probe_learnt : (p : Private) (reg label : ℕ) (leaf : Bool) (before count slot : ℕ) (free last : Bool)
    → (if free then born_in (bare_private p) reg label leaf slot else moved (bare_private p) (if last then Scanned reg label leaf before else Scanning reg label leaf before (count + 1)))
    ≡ bare_private (if free then born_in p reg label leaf slot else moved p (if last then Scanned reg label leaf before else Scanning reg label leaf before (count + 1)))
probe_learnt p reg label leaf before count slot true last = born_learnt p reg label leaf slot
probe_learnt p reg label leaf before count slot false true = refl
probe_learnt p reg label leaf before count slot false false = refl

-- the write of a field
store_learnt : (p : Private) (src f val slot word : ℕ) → IsMachine p → IsStore p src f val slot → stored (bare_private p) src f val slot (bare word) ≡ bare_private (stored p src f val slot word)
store_learnt p src f val slot word m store =
    ap (λ n. answered (with_entry (bare_private p) (entries.Put (place_of slot f p.fields) n (bare word))) (commands.Put src f val) (record { answer = answers.Done; saw = bare word; left = n })) (for_bare p src f val slot m store)
    ∙ entry_bare p (entries.Put (place_of slot f p.fields) (word_for p val) word) (Finished (works.Command (commands.Put src f val)) (makes.Answered (record { answer = answers.Done; saw = word; left = word_for p val })))

awoken_learnt : (p : Private) (word : ℕ) (deposit : Bool) → awoken (bare_private p) word deposit ≡ bare_private (awoken p word deposit)
awoken_learnt p word true = refl
awoken_learnt p word false = refl

-- a step of parking or unparking
passed_learnt : (p : Private) (word : ℕ) (passage : Passage) → passed (bare_private p) word passage ≡ bare_private (passed p word passage)
passed_learnt p word Parks = refl
passed_learnt p word Holds = refl
passed_learnt p word Deposits = refl
passed_learnt p word Unparks = awoken_learnt p word (holds word)
passed_learnt p word Reopens = refl
passed_learnt p word Frees = refl

took_at_bare : (p : Private) (word : ℕ) (phase : Phase) → IsMachine p → IsAt p phase → took_at (bare_private p) (bare_in (cell_of (next_at p phase)) word) (bare_phase phase) ≡ bare_private (took_at p word phase)
unfolding next_at took_at
took_at_bare p word Idle m now = refl
took_at_bare p word (Begun work) m now = begun_learnt p word work
took_at_bare p word (Scanning reg label leaf before count) m now = probe_learnt p reg label leaf before count (probe_of p count) (word == 0) (count + 1 == p.slots)
took_at_bare p word (Scanned reg label true before) m now = refl
took_at_bare p word (Scanned reg label false before) m now = refl
took_at_bare p word (Storing src f val slot) m now = store_learnt p src f val slot word m now.0
took_at_bare p word Crossing m now = refl
took_at_bare p word Swapping m now = refl
took_at_bare p word Giving m now = refl
took_at_bare p word Leaving m now = refl
took_at_bare p word Retiring m now = refl
took_at_bare p word Parting m now = refl
took_at_bare p word (Finished work made) m now = refl
took_at_bare p word (Passing passage) m now = passed_learnt p word passage

-- what is learnt
pub took_bare : (p : Private) (word : ℕ) → IsMachine p → took_of (bare_private p) (bare_in (cell_of (next_of p)) word) ≡ bare_private (took_of p word)
unfolding next_of took_of
took_bare p word m = took_at_bare p word p.phase m m.now

-- the buffer of the own mailbox is swapped
swapped_at_bare : (p : Private) (b : Contents) (phase : Phase) → swapped_at (bare_private p) (bare_buffer b) (bare_phase phase) ≡ bare_private (swapped_at p b phase)
unfolding swapped_at
swapped_at_bare p b Idle = refl
swapped_at_bare p b (Begun work) = refl
swapped_at_bare p b (Scanning reg label leaf before probed) = refl
swapped_at_bare p b (Scanned reg label leaf before) = refl
swapped_at_bare p b (Storing src f val slot) = refl
swapped_at_bare p b Crossing = refl
swapped_at_bare p b Swapping = refl
swapped_at_bare p b Giving = refl
swapped_at_bare p b Leaving = refl
swapped_at_bare p b Retiring = refl
swapped_at_bare p b Parting = refl
swapped_at_bare p b (Finished work made) = refl
swapped_at_bare p b (Passing passage) = refl

swapped_bare : (p : Private) (b : Contents) → swapped_of (bare_private p) (bare_buffer b) ≡ bare_private (swapped_of p b)
unfolding swapped_of
swapped_bare p b = swapped_at_bare p b p.phase

left_at_bare : (p : Private) (b : Contents) (phase : Phase) → left_at (bare_private p) (bare_buffer b) (bare_phase phase) ≡ bare_buffer (left_at p b phase)
unfolding left_at
left_at_bare p b Idle = refl
left_at_bare p b (Begun work) = refl
left_at_bare p b (Scanning reg label leaf before probed) = refl
left_at_bare p b (Scanned reg label leaf before) = refl
left_at_bare p b (Storing src f val slot) = refl
left_at_bare p b Crossing = refl
left_at_bare p b Swapping = refl
left_at_bare p b Giving = refl
left_at_bare p b Leaving = refl
left_at_bare p b Retiring = refl
left_at_bare p b Parting = refl
left_at_bare p b (Finished work made) = refl
left_at_bare p b (Passing passage) = refl

pub left_bare : (p : Private) (b : Contents) → left_of (bare_private p) (bare_buffer b) ≡ bare_buffer (left_of p b)
unfolding left_of
left_bare p b = left_at_bare p b p.phase

-- a whole step
pub step_bare : (p : Private) (word : ℕ) (b : Contents) → IsMachine p → step_of (bare_private p) (bare_in (cell_of (next_of p)) word) (bare_buffer b) ≡ bare_private (step_of p word b)
unfolding step_of
step_bare p word b m = ap (λ (q : Private). swapped_of q (bare_buffer b)) (took_bare p word m) ∙ swapped_bare (took_of p word) b

-- a work begins
pub begun_bare : (p : Private) (work : Work) (from : ℕ) → begun_of (bare_private p) work from ≡ bare_private (begun_of p work from)
unfolding begun_of
begun_bare p work from = refl

-- a work is under way or not
busy_at_bare : (phase : Phase) → is_busy_at (bare_phase phase) ≡ is_busy_at phase
busy_at_bare Idle = refl
busy_at_bare (Begun work) = refl
busy_at_bare (Scanning reg label leaf before probed) = refl
busy_at_bare (Scanned reg label leaf before) = refl
busy_at_bare (Storing src f val slot) = refl
busy_at_bare Crossing = refl
busy_at_bare Swapping = refl
busy_at_bare Giving = refl
busy_at_bare Leaving = refl
busy_at_bare Retiring = refl
busy_at_bare Parting = refl
busy_at_bare (Finished work made) = refl
busy_at_bare (Passing passage) = refl

pub busy_bare : (p : Private) → is_busy (bare_private p) ≡ is_busy p
busy_bare p = busy_at_bare p.phase
