-- A scan on the table: its failing probes are loads of taken headers, and the machine learns of all of them at once.
use Rattle.std.specs.Prelude.{◌≡◌, ℕ, ◌+◌, ◌<◌, Bool, Option, List, [], ◌++◌, length, map, fold, All}
use Rattle.atomic_table.specs.Table.{Me}
use Rattle.rec_log.specs.declared.contents.Contents.{Contents}
use Rattle.rec_mutator.specs.Private.{Private, probe_of}
use Rattle.rec_mutator.specs.Took.{took_of}
use Rattle.rec_mutator.specs.declared.phase.Phase.TheVariants.{Scanning}
use Rattle.rec_table.specs.Views.{MutatorView, mutator_now}
use Rattle.rec_table.specs.Rule.{longer}
use Rattle.rec_table.specs.declared.views.Beat.{Beat}
use Rattle.rec_table.specs.declared.views.Beat.TheVariants.{Saw}
use Rattle.rec_table.specs.declared.views.Seated.{Seated}
use Rattle.rec_table.specs.declared.views.View.{View}
use Rattle.rec_table.specs.declared.views.View.TheVariants.{Mutates}

-- what steps record that found these words
abbrev pub saw_all : (words : List ℕ) → List Beat
saw_all words = map (λ word. Saw word) words

-- a scan of so many slots has made so many probes, and so has come to this slot
pub record ScansFrom (p : Private) (probed slot slots : ℕ) : Type 0 where
  pub reg : ℕ
  pub label : ℕ
  pub leaf : Bool
  pub before : ℕ
  pub phase : p.phase ≡ Scanning reg label leaf before probed
  pub comes : slot ≡ probe_of p probed
  pub many : p.slots ≡ slots
  pub there : probed < slots

-- The seat's list grew by the word of each probe from one on and before another, in order, each of a taken header.
pub record Passed (t : Seated) (probed count : ℕ) (me : Me (Option Contents) View) : Type 0 where
  pub words : List ℕ
  pub taken : All (λ word. 0 < word) words
  pub every : probed + length words ≡ count
  pub grows : me ≡ (Mutates (longer t (saw_all words)), [])

-- The mutator's list grew by the words of failing probes, each of a taken header, and its record learnt them one after another.
pub record HasScanned (h h' : MutatorView) : Type 0 where
  pub words : List ℕ
  pub taken : All (λ word. 0 < word) words
  pub grows : h' ≡ record h { log = h.log ++ saw_all words }
  pub learns : mutator_now h' ≡ fold took_of (mutator_now h) words
  pub steps : (mutator_now h').steps ≡ (mutator_now h).steps + length words
