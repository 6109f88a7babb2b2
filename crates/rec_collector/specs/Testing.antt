-- The tests of sets, and what becomes of a set by what they say.
use Rattle.std.specs.Prelude.{ℕ, zero, suc, ◌+◌, ◌-◌, ◌==◌, Bool, true, false, not, if◌then◌else◌, Option, None, Some, is_some, count_by, length}
use Rattle.rec_counts.specs.Counts.{State, slot_at}
use Rattle.rec_counts.specs.Colour.{is_orange}
use Rattle.rec_release.specs.CycleFree as frees
use Rattle.rec_release.specs.Release as releases
use Rattle.rec_release.specs.declared.at.At.{At}
use Rattle.rec_word.specs.declared.member.Member.{Member}
use Rattle.rec_sigma.specs.Judged.{cyclic_sum}
use Rattle.rec_sigma.specs.Prepare.{members_of}
use Rattle.rec_sigma.specs.Settling.{refurbished_of}
use Rattle.rec_collector.specs.Parts.{Parts, new_freeing, new_release}
use Rattle.rec_collector.specs.declared.phase.Phase.{Phase}
use Rattle.rec_collector.specs.declared.phase.Phase.TheVariants.{Freeing, Releasing}
use Rattle.rec_collector.specs.declared.sets.Sets.{Sets}
use Rattle.rec_collector.specs.declared.verdict.Verdict.{Verdict}
use Rattle.rec_collector.specs.declared.verdict.Verdict.TheVariants.{Passed, Touched, Held}

-- how many members of the set of this number are not Orange
abbrev pub touched : State → (number : ℕ) → ℕ
touched s number = count_by (λ x. not (is_orange (slot_at s x).colour)) (members_of s number)

abbrev pub verdict_if : (untouched unheld : Bool) → Verdict
verdict_if false unheld = Touched
verdict_if true false = Held
verdict_if true true = Passed

-- the Delta test asks whether each member is Orange, and the Sigma test whether the sum of the members' outside counts is zero
abbrev pub verdict_of : State → (number : ℕ) → Verdict
verdict_of s number = verdict_if (touched s number == 0) (cyclic_sum s number == 0)

-- one set more was tested
abbrev pub counted_by : Verdict → Sets → Sets
counted_by Passed n = record n { freed = n.freed + 1 }
counted_by Touched n = record n { delta = n.delta + 1 }
counted_by Held n = record n { sigma = n.sigma + 1 }

-- how many sets were tested
abbrev pub told : Sets → ℕ
told n = n.freed + n.delta + n.sigma

-- the parts, and the phase that a move began, if it began one
pub record Begun : Type 0 where
  pub parts : Parts
  pub phase : Option Phase

abbrev pub releasing_at : releases.Machine → Option At → Option Phase
releasing_at m None = None
releasing_at m (Some a) = Some (Releasing m)

-- a release came so far, and goes on while a field is due
abbrev pub with_release : Parts → releases.Work → Begun
with_release w v = record { parts = record w { counts = v.counts }; phase = releasing_at v.machine v.machine.at }

abbrev pub freeing_at : frees.Machine → Option Member → Option Phase
freeing_at m None = None
freeing_at m (Some a) = Some (Freeing m)

-- the freeing of a set came so far, and goes on while a field is due
abbrev pub with_freeing : Parts → frees.Work → Begun
with_freeing w v = record { parts = record w { counts = v.counts }; phase = freeing_at v.machine v.machine.at }

-- the zeros are to be released
abbrev pub zeros_released : (lowers : Bool) → Parts → Begun
zeros_released lowers w = with_release w (releases.started_of (new_release w.fields) lowers w.counts)

-- A set that passes both tests is freed. Any other is refurbished, and its zeros are released.
abbrev settled_by : Verdict → Parts → Begun
settled_by Passed w = with_freeing w (frees.started_of (new_freeing w.fields) w.counts)
settled_by _ w = zeros_released true (record w { counts = refurbished_of w.counts })

-- the last set was tested, and this was said of it
abbrev pub tested_as : Verdict → Parts → Begun
tested_as verdict w = settled_by verdict (record w { sets = counted_by verdict w.sets })

-- the last set is tested
unfoldable pub last_tested : Parts → Begun
last_tested w = tested_as (verdict_of w.counts (length w.counts.sets - 1)) w

-- so many sets are tested, the last first, until a phase has begun
unfoldable pub tested : ℕ → Begun → Begun
tested zero b = b
tested (suc n) b = if is_some b.phase then b else tested n (last_tested b.parts)
