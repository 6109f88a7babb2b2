-- What a collection works on between a batch and a sweep.
use Rattle.std.specs.Prelude.{ℕ, Bool, None, false}
use Rattle.rec_counts.specs.Counts.{State}
use Rattle.rec_release.specs.CycleFree as frees
use Rattle.rec_release.specs.Release as releases
use Rattle.rec_sigma.specs.Prepare as preps
use Rattle.rec_collector.specs.declared.policy.Policy.{Policy}
use Rattle.rec_collector.specs.declared.sets.Sets.{Sets}

-- the counts; how many fields a slot has; what became of the sets that were tested; whether every slot is to be offered to the next
-- trial; how many collections in a row have postponed their trial by now; and how the heap is collected
pub record Parts : Type 0 where
  pub counts : State
  pub fields : ℕ
  pub sets : Sets
  pub offers : Bool
  pub postponed : ℕ
  pub policy : Policy

-- no set was tested
abbrev pub no_sets : Sets
no_sets = record { freed = 0; delta = 0; sigma = 0 }

-- nothing was tested or postponed, and no slot is to be offered
abbrev pub new_parts : State → (fields : ℕ) → Policy → Parts
new_parts counts fields policy = record { counts = counts; fields = fields; sets = no_sets; offers = false; postponed = 0; policy = policy }

-- machines that begin their work
abbrev pub new_release : (fields : ℕ) → releases.Machine
new_release fields = record { fields = fields; at = None; lowers = false }

abbrev pub new_freeing : (fields : ℕ) → frees.Machine
new_freeing fields = record { fields = fields; at = None }

abbrev pub new_prep : (fields : ℕ) → preps.Machine
new_prep fields = record { fields = fields; at = None }
