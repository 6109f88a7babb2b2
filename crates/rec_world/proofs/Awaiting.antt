-- Leaving is answered NotYet exactly where the own mailbox isn't home with a spare.
use Rattle.std.proofs.Common.{◌≡◌, ◌↔◌, inl, inr, ℕ, Bool, true, Option, Some, refl, sym, ap, subst, ◌∙◌, false}
use Rattle.std.proofs.lemmas.Bool.{false≢true}
use Rattle.rec_world.proofs.Common.{next_of, next_at, is_busy, is_busy_at, work_at, work_of, cell, IsMutator, Core, cells_of, mutator, found_by, AwaitsCollector, IsBetween}
use Rattle.rec_word.specs.Mailbox.{crossing_word, mailbox_of}
use Rattle.rec_word.specs.declared.mailbox.Mailbox.{Mailbox}
use Rattle.rec_word.specs.declared.mailbox.Mailbox.TheVariants.{Retired, Spare, WithCollector}
use Rattle.rec_model.specs.Asking.{allocation}
use Rattle.rec_model.specs.LegalOrder.{is_new}
use Rattle.rec_model.specs.declared.command.Cmd.{Cmd}
use Rattle.rec_model.specs.declared.command.Cmd.TheVariants as commands
use Rattle.rec_mutator.specs.Causes.{IsAwaited}
use Rattle.rec_mutator.specs.Step.{IsUncollected}
use Rattle.rec_mutator.specs.declared.phase.Phase.{Phase}
use Rattle.rec_mutator.specs.declared.phase.Phase.TheVariants.{Idle, Begun, Scanning, Scanned, Leaving, Retiring, Parting, Finished, Passing}
use Rattle.rec_mutator.specs.declared.work.Work.{Work}
use Rattle.rec_mutator.specs.declared.work.Work.TheVariants as works
use Rattle.rec_mutator.proofs.Refusals.{same_command}
use Rattle.rec_core.specs.Core.{crossing_of}
use Rattle.rec_core.specs.Kept.{IsKept}
use Rattle.rec_core.proofs.Actors.{mailbox_told}
use Rattle.rec_core.proofs.Leaving.{IsStayingIn}
use Rattle.rec_core.proofs.Steps.{actor_of}
use Rattle.rec_world.proofs.IntoLeaves.{allocates}

-- a mailbox that is home with a spare was collected
pub home_collected : (word epoch : ℕ) → word ≡ crossing_word epoch Spare → IsUncollected word → ⊥
home_collected word epoch home (inl retired) =
    let not_so : ◌≡◌ {A = Mailbox} Spare Retired = sym (ap mailbox_of home ∙ mailbox_told epoch Spare) ∙ retired in
    (cc)
home_collected word epoch home (inr held) =
    let not_so : ◌≡◌ {A = Mailbox} Spare WithCollector = sym (ap mailbox_of home ∙ mailbox_told epoch Spare) ∙ held in
    (cc)

-- an allocation doesn't leave
not_allocates : (reg label : ℕ) (leaf : Bool) → ◌≡◌ {A = Option Work} (Some (works.Command (allocation leaf reg label))) (Some (works.Command commands.Leave)) → ⊥
not_allocates reg label leaf work = false≢true (sym (ap is_new (same_command (allocation leaf reg label) commands.Leave work)) ∙ allocates reg label leaf)

-- the first step of leaving looks at the own crossing word
leaving_finds : (w : Core) (t : ℕ) → IsKept false w → IsMutator w.config t → (mutator w t).phase ≡ Begun (works.Command commands.Leave) → found_by w t ≡ crossing_of w t
unfolding next_of next_at
leaving_finds w t kept is phase = ap (cell (cells_of w)) (ap (next_at (mutator w t)) phase) ∙ ap (crossing_of w) (actor_of w t kept is).own.number

-- leaving that isn't done yet is at its first step
at_first : (w : Core) (t : ℕ) → IsKept false w → IsMutator w.config t → is_busy (mutator w t) ≡ true → IsStayingIn (mutator w t).phase → work_of (mutator w t) ≡ Some (works.Command commands.Leave)
    → (mutator w t).phase ≡ Begun (works.Command commands.Leave)
at_first w t kept is busy stays work = go (mutator w t).phase refl busy stays (actor_of w t kept is).own.between work
  where
    go : (phase : Phase) → (mutator w t).phase ≡ phase → is_busy_at phase ≡ true → IsStayingIn phase → IsBetween phase → work_at phase ≡ Some (works.Command commands.Leave) → (mutator w t).phase ≡ Begun (works.Command commands.Leave)
    go Idle its busy stays between work = absurd (false≢true busy)
    go (Begun begun) its busy stays between work =
        let same : begun ≡ works.Command commands.Leave = cc in
        its ∙ ap Begun same
    go (Scanning reg label leaf before probed) its busy stays between work = absurd (not_allocates reg label leaf work)
    go (Scanned reg label leaf before) its busy stays between work = absurd (not_allocates reg label leaf work)
    go Leaving its busy stays between work = absurd stays
    go Retiring its busy stays between work = absurd between
    go Parting its busy stays between work = absurd stays
    go (Finished done made) its busy stays between work = absurd (false≢true busy)
    go (Passing passage) its busy stays between work = absurd between
    go _ its busy stays between work = cc

pub awaits_collector : (w : Core) (t : ℕ) (cmd : Cmd) → IsKept false w → IsMutator w.config t → is_busy (mutator w t) ≡ true → IsStayingIn (mutator w t).phase → work_of (mutator w t) ≡ Some (works.Command cmd)
    → IsAwaited (mutator w t) (found_by w t) cmd ↔ AwaitsCollector w t cmd
awaits_collector w t commands.Leave kept is busy stays work = (
  λ (phase, awaits). subst IsUncollected (leaving_finds w t kept is phase) awaits,
  λ awaits.
      let phase : (mutator w t).phase ≡ Begun (works.Command commands.Leave) = at_first w t kept is busy stays work in
      (phase, subst IsUncollected (sym (leaving_finds w t kept is phase)) awaits),
)
awaits_collector w t _ kept is busy stays work = (λ x. x, λ x. x)
