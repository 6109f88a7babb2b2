-- What a step finds is what it may find, if the words are those of a heap whose registers name taken slots.
use Rattle.std.proofs.Common.{◌≡◌, ℕ, Bool, true, false, Option, None, Some, refl, sym, subst}
use Rattle.rec_word.specs.declared.op.Op.{Op}
use Rattle.rec_model.specs.declared.command.Cmd.{Cmd}
use Rattle.rec_model.specs.declared.command.Cmd.TheVariants as commands
use Rattle.rec_mutator.specs.Private.{Private, register, is_full}
use Rattle.rec_mutator.specs.Next.{next_of, next_at, begun_op, first_op, read_op, write_op, label_op, new_op}
use Rattle.rec_mutator.specs.Step.{IsFitting, TakesBox}
use Rattle.rec_mutator.specs.Took.{IsFound}
use Rattle.rec_mutator.specs.declared.phase.Phase.{Phase}
use Rattle.rec_mutator.specs.declared.phase.Phase.TheVariants.{Begun, Crossing, Leaving, Passing}
use Rattle.rec_mutator.specs.declared.work.Work.{Work}
use Rattle.rec_mutator.specs.declared.work.Work.TheVariants as works

read_finds : (p : Private) (cell : Op → ℕ) (f : ℕ) (x : Option ℕ) → IsFound p (read_op p f x) (cell (read_op p f x))
read_finds p cell f None = tt
read_finds p cell f (Some slot) = tt

write_finds : (p : Private) (cell : Op → ℕ) (src : ℕ) (x : Option ℕ) (full : Bool) → register p src ≡ x → IsFitting p cell → IsFound p (write_op p x full) (cell (write_op p x full))
write_finds p cell src None full is fits = tt
write_finds p cell src (Some slot) true is fits = tt
write_finds p cell src (Some slot) false is fits = fits.headers src slot is

label_finds : (p : Private) (cell : Op → ℕ) (reg : ℕ) (x : Option ℕ) → register p reg ≡ x → IsFitting p cell → IsFound p (label_op p x) (cell (label_op p x))
label_finds p cell reg None is fits = tt
label_finds p cell reg (Some slot) is fits = fits.headers reg slot is

new_finds : (p : Private) (cell : Op → ℕ) (full : Bool) → IsFound p (new_op p full) (cell (new_op p full))
new_finds p cell true = tt
new_finds p cell false = tt

-- the first step of a command
first_finds : (p : Private) (cell : Op → ℕ) (cmd : Cmd) → IsFitting p cell → IsFound p (first_op p cmd) (cell (first_op p cmd))
first_finds p cell (commands.New reg label) fits = new_finds p cell (is_full p)
first_finds p cell (commands.Leaf reg label) fits = new_finds p cell (is_full p)
first_finds p cell (commands.Get dst src f) fits = read_finds p cell f (register p src)
first_finds p cell (commands.Put src f val) fits = write_finds p cell src (register p src) (is_full p) refl fits
first_finds p cell (commands.Value reg) fits = label_finds p cell reg (register p reg) refl fits
first_finds p cell _ fits = tt

-- the first step of a work
begun_finds : (p : Private) (cell : Op → ℕ) (work : Work) → IsFitting p cell → IsFound p (begun_op p work) (cell (begun_op p work))
begun_finds p cell (works.Command cmd) fits = first_finds p cell cmd fits
begun_finds p cell works.Poll fits = fits.epoch

-- a step, by phase
finds_at : (p : Private) (cell : Op → ℕ) (phase : Phase) → p.phase ≡ phase → IsFitting p cell → IsFound p (next_at p phase) (cell (next_at p phase))
unfolding next_at
finds_at p cell (Begun work) is fits = begun_finds p cell work fits
finds_at p cell Crossing is fits = fits.home (subst TakesBox (sym is) tt)
finds_at p cell Leaving is fits = fits.home (subst TakesBox (sym is) tt)
finds_at p cell (Passing passage) is fits = fits.bits passage is
finds_at p cell _ is fits = tt

-- what a step finds is what it may find
pub finds_fitting : (p : Private) (cell : Op → ℕ) → IsFitting p cell → IsFound p (next_of p) (cell (next_of p))
unfolding next_of
finds_fitting p cell fits = finds_at p cell p.phase refl fits
