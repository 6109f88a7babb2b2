-- What each status says of the bytes that a request read and wrote.
use Rattle.std.specs.Prelude.{◌≡◌, ◌⊎◌, ⊤, ℕ, List, Option, Some}
use Rattle.rec_io.specs.Faults.{Rose}
use Rattle.rec_request.specs.declared.request.Request.{Request}
use Rattle.rec_run.specs.declared.status.Status.{Status}
use Rattle.rec_run.specs.declared.status.Status.TheVariants.{Done, Usage, BadScript, ReadFault, WriteFault, NoMemory}
use Rattle.rec_request.specs.CommandLine.{Asks, AsksForSource, AsksToAudit, AsksToMake, AsksToRead, AsksToResume, IsCommandLine, ReadsSource}
use Rattle.rec_run.specs.Headline.{WroteAnswer, WroteFront, ReadRefused}
use Rattle.rec_run.specs.Resuming.{IsResumable, IsUnresumed}
use Rattle.rec_script.specs.Script.{IsRefused, IsText}
use Rattle.rec_script.specs.declared.error.Kind.{Kind}

-- What became of a source or a sink: the bytes that it tells of, and how many of its calls failed, before and after.
pub record Passage : Type 0 where
  pub before : Option (List ℕ)
  pub after : Option (List ℕ)
  pub faults : ℕ
  pub faults_after : ℕ

-- what a run made of a source or a sink of some type
abbrev pub passage : {X : Type 0} (told : X → Option (List ℕ)) (faults : X → ℕ) (old new : X) → Passage
passage told faults old new = record { before = told old; after = told new; faults = faults old; faults_after = faults new }

-- a source that nothing was read from, whatever it tells
abbrev pub untouched : (told : Option (List ℕ)) (faults : ℕ) → Passage
untouched told faults = record { before = told; after = told; faults = faults; faults_after = faults }

-- a call of it failed
abbrev pub Failed : Passage → Type 0
Failed passage = Rose passage.faults passage.faults_after

-- Done: the whole answer was written. What was read is refused: it is no script, or no image with mutators behind it; a read or a
-- write failed, and then a front of the answer was written. Whoever carries out a request never finds its words wrong.
abbrev pub Ends : Request → Status → (source sink : Passage) → Type 0
Ends request Done source sink = WroteAnswer request source.before source.after sink.before sink.after
Ends request Usage source sink = ⊥
Ends request (BadScript line kind) source sink = ReadRefused request source.before source.after line kind
Ends request ReadFault source sink = ReadsSource request × Failed source
Ends request WriteFault source sink = Failed sink × WroteFront request source.before source.after sink.before sink.after
Ends request NoMemory source sink = ⊤

-- Why a run of these words ended so, where it isn't done and memory didn't run out. A made script is read from no source, so it is never
-- bad and no read of it fails; a journal is never bad, as there is something to say of every text.
abbrev pub HasCause : (words : List (List ℕ)) → Status → (source sink : Passage) → Type 0
HasCause words Usage source sink = ¬ IsCommandLine words
HasCause words (BadScript line kind) source sink = (request : Request) × Asks words request × ReadRefused request source.before source.after line kind
HasCause words ReadFault source sink = AsksForSource words × Failed source
HasCause words WriteFault source sink = Failed sink
HasCause words Done source sink = ⊤
HasCause words NoMemory source sink = ⊤

-- the answer was written, unless memory ran out
abbrev pub IsDone : Status → Type 0
IsDone status = (status ≡ Done) ⊎ (status ≡ NoMemory)

-- When a run of these words must end in Done or refuse what it read, unless memory runs out.
pub record MustEnd (words : List (List ℕ)) (status : Status) (source sink : Passage) : Type 0 where
  -- A script that is told is answered, unless a call fails.
  pub complete : AsksToRead words → (bytes : List ℕ) → source.before ≡ Some bytes → IsText bytes → ¬ Failed source → ¬ Failed sink → IsDone status
  -- An image that is told, with mutators behind it, goes on, unless a call fails; and bytes that are none are refused, unless a read fails.
  pub resumed : AsksToResume words → (bytes : List ℕ) → source.before ≡ Some bytes → IsResumable bytes → ¬ Failed source → ¬ Failed sink → IsDone status
  pub unresumed : AsksToResume words → (bytes : List ℕ) → source.before ≡ Some bytes → ¬ IsResumable bytes → ¬ Failed source
      → ((line : ℕ) × (kind : Kind) × IsUnresumed bytes line kind × (status ≡ BadScript line kind)) ⊎ (status ≡ NoMemory)
  -- A text that is told and is no script's is refused with its line and kind, unless a read fails.
  pub refuses : AsksToRead words → (bytes : List ℕ) (line : ℕ) (kind : Kind) → source.before ≡ Some bytes → IsRefused bytes line kind → ¬ Failed source
      → (status ≡ BadScript line kind) ⊎ (status ≡ NoMemory)
  -- Whatever is read as a journal, what is to be said of it is written, unless a call fails.
  pub audited : AsksToAudit words → ¬ Failed source → ¬ Failed sink → IsDone status
  -- A made script is written, unless a write fails.
  pub made : AsksToMake words → ¬ Failed sink → IsDone status
