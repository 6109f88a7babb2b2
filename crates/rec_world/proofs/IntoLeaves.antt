-- A write is answered NoField exactly where its object is a leaf and the log has room.
use Rattle.std.proofs.Common.{◌≡◌, ◌↔◌, ℕ, ◌≤◌, Bool, true, false, Option, Some, length, slice_index_or, refl, sym, ap, subst, ◌∙◌, arith}
use Rattle.std.proofs.lemmas.Bool.{false≢true, ne_eqb}
use Rattle.rec_world.proofs.Common.{next_of, next_at, write_op, Private, IsStore, is_busy, is_busy_at, is_full, register, work_at, work_of, cell, IsMutator, Core, cells_of, mutator, found_by, WritesLeaf}
use Rattle.rec_word.specs.Header.{is_leaf}
use Rattle.rec_model.specs.Asking.{allocation}
use Rattle.rec_model.specs.LegalOrder.{is_new}
use Rattle.rec_model.specs.declared.command.Cmd.{Cmd}
use Rattle.rec_model.specs.declared.command.Cmd.TheVariants as commands
use Rattle.rec_mutator.specs.Causes.{FindsLeaf}
use Rattle.rec_mutator.specs.Step.{HasRoom}
use Rattle.rec_mutator.specs.Took.{IsBetween}
use Rattle.rec_mutator.specs.declared.phase.Phase.{Phase}
use Rattle.rec_mutator.specs.declared.phase.Phase.TheVariants.{Idle, Begun, Scanning, Scanned, Storing, Finished, Passing}
use Rattle.rec_mutator.specs.declared.work.Work.{Work}
use Rattle.rec_mutator.specs.declared.work.Work.TheVariants as works
use Rattle.rec_mutator.proofs.Refusals.{at_phase, same_command}
use Rattle.rec_core.specs.Kept.{IsKept, HasLearnt}
use Rattle.rec_core.proofs.Steps.{actor_of}

-- an allocation is new
pub allocates : (reg label : ℕ) (leaf : Bool) → is_new (allocation leaf reg label) ≡ true
allocates reg label true = refl
allocates reg label false = refl

-- an allocation is no write
not_allocates : (reg label : ℕ) (leaf : Bool) (src f val : ℕ) → ◌≡◌ {A = Option Work} (Some (works.Command (allocation leaf reg label))) (Some (works.Command (commands.Put src f val))) → ⊥
not_allocates reg label leaf src f val work = false≢true (sym (ap is_new (same_command (allocation leaf reg label) (commands.Put src f val) work)) ∙ allocates reg label leaf)

-- the first step of a write that the log has room for looks at the object's header
looks : (w : Core) (t src f val slot : ℕ) → (mutator w t).phase ≡ Begun (works.Command (commands.Put src f val)) → register (mutator w t) src ≡ Some slot → HasRoom (mutator w t) → found_by w t ≡ slice_index_or w.headers slot 0
unfolding next_of next_at
looks w t src f val slot phase names room =
    let p : Private = mutator w t in
    ap (cell (cells_of w))
    (ap (next_at p) phase ∙ ap (λ (x : Option ℕ). write_op p x (is_full p)) names ∙ ap (write_op p (Some slot)) (ne_eqb (length p.log.entries) p.log.capacity room))

-- a write into a leaf is at its first step
first_step : (w : Core) (t src f val slot : ℕ) → IsKept false w → IsMutator w.config t → is_busy (mutator w t) ≡ true → work_of (mutator w t) ≡ Some (works.Command (commands.Put src f val)) → register (mutator w t) src ≡ Some slot
    → is_leaf (slice_index_or w.headers slot 0) ≡ true → (mutator w t).phase ≡ Begun (works.Command (commands.Put src f val))
first_step w t src f val slot kept is busy work names leaf = go (mutator w t).phase refl busy work
  where
    go : (phase : Phase) → (mutator w t).phase ≡ phase → is_busy_at phase ≡ true → work_at phase ≡ Some (works.Command (commands.Put src f val)) → (mutator w t).phase ≡ Begun (works.Command (commands.Put src f val))
    go Idle its busy work = absurd (false≢true busy)
    go (Begun begun) its busy work =
        let same : begun ≡ works.Command (commands.Put src f val) = cc in
        its ∙ ap Begun same
    go (Scanning reg label marks before probed) its busy work = absurd (not_allocates reg label marks src f val work)
    go (Scanned reg label marks before) its busy work = absurd (not_allocates reg label marks src f val work)
    go (Storing object field value at) its busy work =
        let sources : object ≡ src = cc in
        let store : IsStore (mutator w t) object field value at = (at_phase (mutator w t) (Storing object field value at) (actor_of w t kept is).own.machine its).0 in
        let both : ◌≡◌ {A = Option ℕ} (Some at) (Some slot) = sym store.source ∙ ap (register (mutator w t)) sources ∙ names in
        let same : at ≡ slot = cc in
        let unmarked : is_leaf (slice_index_or w.headers at 0) ≡ false = subst (HasLearnt w.config.slots w.headers w.freed (mutator w t).from) its (kept.learnt t is) in
        absurd (false≢true (sym unmarked ∙ ap (λ n. is_leaf (slice_index_or w.headers n 0)) same ∙ leaf))
    go (Finished done made) its busy work = absurd (false≢true busy)
    go (Passing passage) its busy work = absurd (subst IsBetween its (actor_of w t kept is).own.between)
    go _ its busy work = cc

pub into_leaf : (w : Core) (t : ℕ) (cmd : Cmd) → IsKept false w → IsMutator w.config t → is_busy (mutator w t) ≡ true → work_of (mutator w t) ≡ Some (works.Command cmd) → FindsLeaf (mutator w t) (found_by w t) cmd ↔ WritesLeaf w t cmd
into_leaf w t (commands.Put src f val) kept is busy work = (
  λ (phase, (slot, names), room, leaf).
      let own = (actor_of w t kept is).own in
      let few : length (mutator w t).log.entries ≤ (mutator w t).log.capacity = own.machine.entries in
      (slot, names, ap is_leaf (sym (looks w t src f val slot phase names room)) ∙ leaf, omega (arith, few, room, own.capacity)),
  λ (slot, names, leaf, few).
      let own = (actor_of w t kept is).own in
      let room : HasRoom (mutator w t) = λ all. omega (arith, all, few, own.capacity) in
      let phase : (mutator w t).phase ≡ Begun (works.Command (commands.Put src f val)) = first_step w t src f val slot kept is busy work names leaf in
      (phase, (slot, names), room, ap is_leaf (looks w t src f val slot phase names room) ∙ leaf),
)
into_leaf w t _ kept is busy work = (λ x. x, λ x. x)
