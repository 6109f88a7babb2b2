-- The operation that comes next names a word of the heap, if the registers name its slots.
use Rattle.std.proofs.Common.{◌≡◌, ℕ, ◌<◌, Bool, true, false, Option, None, Some, arith, refl}
use Rattle.rec_word.proofs.FieldPlaces.{place_within}
use Rattle.rec_model.specs.declared.command.Cmd.{Cmd}
use Rattle.rec_model.specs.declared.command.Cmd.TheVariants as commands
use Rattle.rec_mutator.specs.Private.{Private, register, is_full, HasOperands, IsValid, IsAt, IsMachine}
use Rattle.rec_mutator.specs.Next.{next_of, next_at, begun_op, first_op, read_op, write_op, label_op, new_op}
use Rattle.rec_mutator.specs.Step.{NamesWord, NamesSlots}
use Rattle.rec_mutator.specs.declared.phase.Phase.{Phase}
use Rattle.rec_mutator.specs.declared.phase.Phase.TheVariants.{Idle, Begun, Scanning, Scanned, Storing, Leaving, Retiring, Parting, Finished, Passing}
use Rattle.rec_mutator.specs.declared.work.Work.{Work}
use Rattle.rec_mutator.specs.declared.work.Work.TheVariants as works
use Rattle.rec_mutator.proofs.Around.{behind_below}

-- what is null or a slot of the heap
abbrev IsSlot : Private → Option ℕ → Type 0
IsSlot p x = (slot : ℕ) → x ≡ Some slot → slot < p.slots

read_names : (p : Private) (f : ℕ) (x : Option ℕ) → IsSlot p x → f < p.fields → NamesWord p.slots p.fields (read_op p f x)
read_names p f None there in_range = tt
read_names p f (Some slot) there in_range = place_within p.slots p.fields slot f (there slot refl) in_range

write_names : (p : Private) (x : Option ℕ) (full : Bool) → IsSlot p x → NamesWord p.slots p.fields (write_op p x full)
write_names p None full there = tt
write_names p (Some slot) true there = tt
write_names p (Some slot) false there = there slot refl

label_names : (p : Private) (x : Option ℕ) → IsSlot p x → NamesWord p.slots p.fields (label_op p x)
label_names p None there = tt
label_names p (Some slot) there = there slot refl

new_names : (p : Private) (full : Bool) → NamesWord p.slots p.fields (new_op p full)
new_names p true = tt
new_names p false = tt

-- the first step of a command
first_names : (p : Private) (cmd : Cmd) → HasOperands p cmd → NamesSlots p → NamesWord p.slots p.fields (first_op p cmd)
first_names p (commands.New reg label) operands there = new_names p (is_full p)
first_names p (commands.Leaf reg label) operands there = new_names p (is_full p)
first_names p (commands.Get dst src f) operands there = read_names p f (register p src) (there src) operands.2
first_names p (commands.Put src f val) operands there = write_names p (register p src) (is_full p) (there src)
first_names p (commands.Value reg) operands there = label_names p (register p reg) (there reg)
first_names p _ operands there = tt

-- the first step of a work
begun_names : (p : Private) (work : Work) → IsValid p work → NamesSlots p → NamesWord p.slots p.fields (begun_op p work)
begun_names p (works.Command cmd) valid there = first_names p cmd valid there
begun_names p works.Poll valid there = tt

-- a step, by phase
names_at : (p : Private) (phase : Phase) → IsMachine p → IsAt p phase → NamesSlots p → NamesWord p.slots p.fields (next_at p phase)
unfolding next_at
names_at p Idle kept at there = tt
names_at p (Begun work) kept at there = begun_names p work at.0 there
names_at p (Scanning reg label leaf before probed) kept at there = (behind_below p.slots p.from probed kept.first_slot, omega arith)
names_at p (Scanned reg label leaf before) kept at there = tt
names_at p (Finished work made) kept at there = tt
names_at p (Passing passage) kept at there = tt
names_at p (Storing src f val slot) kept at there = place_within p.slots p.fields slot f (there src slot at.0.source) at.0.operands.1
names_at p Leaving kept at there = omega (arith, at.1)
names_at p Retiring kept at there = omega (arith, at.1)
names_at p Parting kept at there = omega (arith, at.1)
names_at p _ kept at there = omega (arith, at.1)

-- what comes next names a word of the heap
pub names_word : (p : Private) → IsMachine p → NamesSlots p → NamesWord p.slots p.fields (next_of p)
unfolding next_of
names_word p kept there = names_at p p.phase kept kept.now there
