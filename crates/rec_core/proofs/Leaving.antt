-- The steps of a mutator that leaves.
use Rattle.std.proofs.Common.{◌≡◌, ◌⊎◌, inl, inr, ℕ, ◌+◌, ◌-◌, List, Option, None, Some, map, length, replicate, slice_set, refl, sym, ap, ◌∙◌, Bool}
use Rattle.std.proofs.lemmas.Bool.{false≢true}
use Rattle.std.proofs.lemmas.List.{map-set}
use Rattle.rec_model.specs.Heap.{registers_of as registers_in}
use Rattle.rec_model.specs.Reach.{is_in}
use Rattle.rec_model.specs.Sight.{sight_without_registers}
use Rattle.rec_model.proofs.Names.{roots_set}
use Rattle.rec_model.proofs.Opened.{named-nones}
use Rattle.rec_mutator.specs.Step.{LetsGo, HasLeft}
use Rattle.rec_mutator.specs.Took.{last_of, nulls_of, step_of}
use Rattle.rec_mutator.specs.declared.made.Made.{Made}
use Rattle.rec_mutator.specs.declared.phase.Phase as phases
use Rattle.rec_mutator.specs.declared.phase.Phase.TheVariants as at
use Rattle.rec_mutator.specs.declared.work.Work.{Work}
use Rattle.rec_mutator.specs.declared.work.Work.TheVariants as works
use Rattle.rec_core.specs.RunAnswers.{answered_by, told_by}
use Rattle.rec_core.specs.StepAnswers.{IsShownAs, IsShownAt}
use Rattle.rec_core.proofs.Common.{crossing_word, Spare, IsSound, Sight, Contents, next_of, next_at, Private, is_busy_at, work_at, took_of, took_at, swapped_of, swapped_at, left_of, left_at, IsMutator, Core, sight, mutator, box, crossing_of, spare_of, Handshake, IsKept}
use Rattle.rec_core.proofs.Actors.{leaving_home}
use Rattle.rec_core.proofs.Steps.{actor_of, own_registers, stand_of, stays_here}

-- a step that isn't one of leaving, by phase: the mailbox isn't taken to leave, nor given back at the end of that
abbrev pub IsStayingIn : phases.Phase → Type 0
IsStayingIn at.Leaving = ⊥
IsStayingIn at.Parting = ⊥
IsStayingIn _ = Unit {0}

-- the two steps of leaving, and all others
pub leaves_or_stays : (phase : phases.Phase) → (phase ≡ at.Leaving) ⊎ ((phase ≡ at.Parting) ⊎ IsStayingIn phase)
leaves_or_stays at.Leaving = inl refl
leaves_or_stays at.Parting = inr (inl refl)
leaves_or_stays _ = inr (inr tt)

-- a poll doesn't leave
pub polls_stay : (phase : phases.Phase) → work_at phase ≡ Some works.Poll → IsStayingIn phase
polls_stay at.Leaving its = cc
polls_stay at.Parting its = cc
polls_stay _ its = tt

-- a step that isn't one of leaving tells what it answers
pub told_as : (t : ℕ) (phase : phases.Phase) (work : Option Work) (made : Option Made) → IsStayingIn phase → told_by t phase work made ≡ answered_by t work made
told_as t at.Leaving work made stays = absurd stays
told_as t at.Parting work made stays = absurd stays
told_as t _ work made stays = refl

-- and shows that
pub shown_as : (w : Core) (t : ℕ) (phase : phases.Phase) (made : Option Made) (v : Core) → IsStayingIn phase → IsShownAs w t made v → IsShownAt w t phase made v
shown_as w t at.Leaving made v stays shown = absurd stays
shown_as w t at.Parting made v stays shown = absurd stays
shown_as w t _ made v stays shown = shown

-- a step that takes the own mailbox to leave
pub lets_go : (p : Private) (word : ℕ) (b : Contents) → p.phase ≡ at.Leaving → LetsGo p (next_of p) (step_of p word b) b
unfolding next_of next_at took_of took_at swapped_of swapped_at step_of
lets_go p word b is = record { phase = is; operation = ap (next_at p) is; after = ap (λ x. swapped_of (took_at p word x) b) is }

-- the step that gives it back then
pub leaves_at_last : (p : Private) (word : ℕ) (b : Contents) → p.phase ≡ at.Parting → HasLeft p (next_of p) (step_of p word b)
unfolding next_of next_at took_of took_at swapped_of swapped_at step_of
leaves_at_last p word b is = record { phase = is; operation = ap (next_at p) is; after = ap (λ x. swapped_of (took_at p word x) b) is }

-- what was in it stays there
pub parting_keeps : (p : Private) (word : ℕ) (b : Contents) → p.phase ≡ at.Parting → left_of (took_of p word) b ≡ b
unfolding took_of took_at left_of left_at
parting_keeps p word b is = ap (λ x. left_of (took_at p word x) b) is

-- it leaves the last log there
pub leaves_last : (p : Private) (word : ℕ) (b : Contents) → p.phase ≡ at.Leaving → left_of (took_of p word) b ≡ last_of p
unfolding took_of took_at left_of left_at
leaves_last p word b is = ap (λ x. left_of (took_at p word x) b) is

-- The mailbox that is taken to leave is home with a spare, in the requested epoch or in the one before.
pub leaving_of : {dated : Bool} → (w : Core) (t : ℕ) → IsKept dated w → IsMutator w.config t → (mutator w t).phase ≡ at.Leaving
    → (box w t ≡ spare_of w.config) × (crossing_of w t ≡ crossing_word (mutator w t).epoch Spare)
    × (((stand_of w t ≡ Handshake.Done) × ((mutator w t).epoch ≡ w.epoch)) ⊎ ((stand_of w t ≡ Handshake.Due) × ((mutator w t).epoch + 1 ≡ w.epoch)))
leaving_of w t kept is phase =
    leaving_home w.config w.epoch (mutator w t) (crossing_of w t) (box w t) (stand_of w t) (stays_here w t kept is (ap is_busy_at phase)) phase (actor_of w t kept is).handshake

-- what is seen of the registers of one that leaves
pub registers_leave : (w : Core) (t : ℕ) (q : Private) → q.registers ≡ nulls_of (mutator w t) → map (λ (p : Private). p.registers) (slice_set w.mutators (t - 1) q) ≡ (sight_without_registers (sight w) t).registers
registers_leave w t q null =
    let set_own : List (Option ℕ) → List (List (Option ℕ)) = λ rs. slice_set (sight w).registers (t - 1) rs in
    map-set (λ (p : Private). p.registers) w.mutators (t - 1) q ∙ ap set_own (null ∙ ap (λ (rs : List (Option ℕ)). replicate (length rs) None) (sym (own_registers w t)))

-- every register of a mutator becomes null, and what is named still is taken
pub leave_sound : (w : Sight) (t : ℕ) → IsSound w → IsSound (sight_without_registers w t)
leave_sound w t sound =
    let many : ℕ = length (registers_in w.registers t) in
    record {
      places = sound.places;
      registers = λ slot there. elim (roots_set w.registers (t - 1) slot (replicate many None) there) [
        | inl old ↦ sound.registers slot old
        | inr new ↦ absurd (false≢true (sym (ap (is_in slot) (named-nones many)) ∙ new))
      ];
      fields = sound.fields;
      free = sound.free;
      leaves = sound.leaves;
    }
