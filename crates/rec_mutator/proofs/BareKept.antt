-- What every machine keeps, the mutator of a heap of bare words keeps too.
use Rattle.std.proofs.Common.{◌≡◌, ◌<◌, ◌≤◌, length, refl, sym, subst}
use Rattle.std.proofs.lemmas.List.{length-map}
use Rattle.rec_word.specs.Bare.{bare}
use Rattle.rec_log.specs.Words.{entry_by}
use Rattle.rec_mutator.specs.Bare.{bare_made, bare_phase, bare_private}
use Rattle.rec_mutator.specs.Private.{IsAt, IsMachine, IsValid, Private}
use Rattle.rec_mutator.specs.declared.made.Made.{Made}
use Rattle.rec_mutator.specs.declared.phase.Phase.{Phase}
use Rattle.rec_mutator.specs.declared.phase.Phase.TheVariants.{Idle, Begun, Scanning, Scanned, Storing, Crossing, Swapping, Giving, Leaving, Retiring, Parting, Finished, Passing}
use Rattle.rec_mutator.specs.declared.work.Work.{Work}
use Rattle.rec_mutator.specs.declared.work.Work.TheVariants as works

-- what holds of a phase whatever a finished work came to
pub phase_bare : (P : Phase → Type 0) → ((work : Work) (made : Made) → P (Finished work made) → P (Finished work (bare_made made))) → (phase : Phase) → P phase → P (bare_phase phase)
phase_bare P ends Idle is = is
phase_bare P ends (Begun work) is = is
phase_bare P ends (Scanning reg label leaf before probed) is = is
phase_bare P ends (Scanned reg label leaf before) is = is
phase_bare P ends (Storing src f val slot) is = is
phase_bare P ends Crossing is = is
phase_bare P ends Swapping is = is
phase_bare P ends Giving is = is
phase_bare P ends Leaving is = is
phase_bare P ends Retiring is = is
phase_bare P ends Parting is = is
phase_bare P ends (Finished work made) is = ends work made is
phase_bare P ends (Passing passage) is = is

-- what is said of a phase whatever a finished work came to
pub said_bare : {A : Type 0} (f : Phase → A) → ((work : Work) (made : Made) → f (Finished work (bare_made made)) ≡ f (Finished work made)) → (phase : Phase) → f (bare_phase phase) ≡ f phase
said_bare f ends Idle = refl
said_bare f ends (Begun work) = refl
said_bare f ends (Scanning reg label leaf before probed) = refl
said_bare f ends (Scanned reg label leaf before) = refl
said_bare f ends (Storing src f2 val slot) = refl
said_bare f ends Crossing = refl
said_bare f ends Swapping = refl
said_bare f ends Giving = refl
said_bare f ends Leaving = refl
said_bare f ends Retiring = refl
said_bare f ends Parting = refl
said_bare f ends (Finished work made) = ends work made
said_bare f ends (Passing passage) = refl

pub entries_bare : (p : Private) → length (bare_private p).log.entries ≡ length p.log.entries
entries_bare p = length-map p.log.entries (entry_by bare)

valid_too : (p : Private) (work : Work) → IsValid p work → IsValid (bare_private p) work
valid_too p (works.Command cmd) is = is
valid_too p works.Poll is = is

-- what holds in each phase
at_bare : (p : Private) (phase : Phase) → IsAt p phase → IsAt (bare_private p) (bare_phase phase)
at_bare p Idle is = is
at_bare p (Begun work) is = (valid_too p work is.0, is.1, is.2)
at_bare p (Scanning reg label leaf before probed) is = (record { register = is.0.register; room = subst (λ n. n < p.log.capacity) (sym (entries_bare p)) is.0.room }, is.1, is.2)
at_bare p (Scanned reg label leaf before) is = (record { register = is.0.register; room = subst (λ n. n < p.log.capacity) (sym (entries_bare p)) is.0.room }, is.1)
at_bare p (Storing src f val slot) is =
    (record { operands = is.0.operands; source = is.0.source; room = subst (λ n. n < p.log.capacity) (sym (entries_bare p)) is.0.room; stamp = is.0.stamp }, is.1)
at_bare p Crossing is = is
at_bare p Swapping is = is
at_bare p Giving is = is
at_bare p Leaving is = is
at_bare p Retiring is = is
at_bare p Parting is = is
at_bare p (Finished work made) is = is
at_bare p (Passing passage) is = record { steps = is.steps; stays = is.stays; parked = is.parked }

pub machine_bare : (p : Private) → IsMachine p → IsMachine (bare_private p)
machine_bare p m = record {
  number = m.number;
  epoch = m.epoch;
  stamped = m.stamped;
  first_slot = m.first_slot;
  last_slot = m.last_slot;
  capacity = m.capacity;
  entries = subst (λ n. n ≤ p.log.capacity) (sym (entries_bare p)) m.entries;
  registers = m.registers;
  snapshot = m.snapshot;
  from = m.from;
  now = at_bare p p.phase m.now;
}
