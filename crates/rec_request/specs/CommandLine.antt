-- Which words are a command line, and what they ask for.
use Rattle.std.specs.Prelude.{◌≡◌, ⊤, ℕ, ◌≤◌, Bool, true, false, List, [], ◌∷◌, Option, None, Some, codes}
use Rattle.std.specs.Str.{bytes_eq}
use Rattle.std.specs.Str.Parse.{IsNumeral, without_leading_plus, digits_value}
use Rattle.rec_model.specs.declared.limits.TheConstants.{MOST_SCRIPT_MUTATORS, MOST_COMMANDS, MOST_TURNS}
use Rattle.clap.specs.Words.{App, Row, Rule, Shape, Text, fault_of, first_of, new_rule, subcommand_of}
use Rattle.clap.specs.Simple.{new_shape}
use Rattle.clap.specs.declared.builder.action.ArgAction.TheVariants.{SetTrue}
use Rattle.rec_request.specs.declared.request.How.{How}
use Rattle.rec_request.specs.declared.request.How.TheVariants as hows
use Rattle.rec_request.specs.declared.request.Keeping.{Keeping}
use Rattle.rec_request.specs.declared.request.Kept.{Kept}
use Rattle.rec_request.specs.declared.request.Kept.TheVariants.{Journal, Image}
use Rattle.rec_request.specs.declared.request.Make.{Make}
use Rattle.rec_request.specs.declared.request.Play.{Play}
use Rattle.rec_request.specs.declared.request.Request.{Request}
use Rattle.rec_request.specs.declared.request.Resume.{Resume}
use Rattle.rec_request.specs.declared.request.Request.TheVariants as requests

-- an option with a value, named by this word behind two dashes
abbrev pub option : Text → Rule
option name = record (new_rule name) { long = Some name }

-- a flag, which has no value
abbrev pub flag : Text → Rule
flag name = record (option name) { action = Some SetTrue }

-- a subcommand that runs commands, with its options
abbrev pub run : Text → Shape
run name = record (new_shape name) { rules = option (codes "seed") ∷ option (codes "turns") ∷ [] }

-- the subcommand `play` and its options
abbrev pub play : Shape
play = record (new_shape (codes "play")) { rules = option (codes "seed") ∷ option (codes "turns") ∷ flag (codes "summary") ∷ flag (codes "trace") ∷ flag (codes "audit") ∷ flag (codes "image") ∷ [] }

-- the subcommand `make` and its options
abbrev pub make : Shape
make = record (new_shape (codes "make")) { rules = option (codes "seed") ∷ option (codes "mutators") ∷ option (codes "commands") ∷ [] }

-- the subcommand `resume` and its options
abbrev pub resume : Shape
resume = run (codes "resume")

-- a command without subcommands
abbrev pub app_with : Shape → App
app_with shape = record { top = shape; subs = [] }

-- the program's command: a subcommand is required, and there is neither help nor a version; `threads` and `audit` have no options
abbrev pub recycler : App
recycler =
    record {
      top =
          record (new_shape (codes "recycler")) {
            is_leaf = false;
            disable_help_flag = true;
            disable_help_subcommand = true;
            disable_version_flag = true;
            subcommand_required = true;
          };
      subs = play ∷ new_shape (codes "threads") ∷ make ∷ new_shape (codes "audit") ∷ resume ∷ [];
    }

-- An option says a number up to this most: a plus or none, and then decimal digits. Where it isn't given it says its default.
abbrev pub Says : Option Text → (default most n : ℕ) → Type 0
Says None default most n = n ≡ default
Says (Some text) default most n = IsNumeral 10 (without_leading_plus text) × (n ≡ digits_value 10 (without_leading_plus text)) × (n ≤ most)

-- whether a flag is set: where it stands among the words its value is true, and where it doesn't stand there it is false
abbrev pub is_set : Option Text → Bool
is_set None = false
is_set (Some text) = bytes_eq text (codes "true")

-- what the options of `play` ask for: a seed of 64 bits, at most ten million turns, a summary or the whole text, and a trace or none
pub record AsksPlay (options : List Row) (asked : Play) : Type 0 where
  pub seeded : Says (first_of (codes "seed") options) 0 18446744073709551615 asked.seed
  pub limited : Says (first_of (codes "turns") options) 1000000 MOST_TURNS asked.turns
  pub summed : asked.summary ≡ is_set (first_of (codes "summary") options)
  pub traced : asked.trace ≡ is_set (first_of (codes "trace") options)
  pub unaudited : is_set (first_of (codes "audit") options) ≡ false
  pub unimaged : is_set (first_of (codes "image") options) ≡ false

-- what is kept of a run, as the flag that asks for it
abbrev pub is_journal : Kept → Bool
is_journal Journal = true
is_journal Image = false

abbrev pub is_image : Kept → Bool
is_image Journal = false
is_image Image = true

-- they ask for what is kept of the run: an audit or an image stands among them, and no other flag
pub record AsksKeeping (options : List Row) (asked : Keeping) : Type 0 where
  pub seeded : Says (first_of (codes "seed") options) 0 18446744073709551615 asked.seed
  pub limited : Says (first_of (codes "turns") options) 1000000 MOST_TURNS asked.turns
  pub unsummed : is_set (first_of (codes "summary") options) ≡ false
  pub untraced : is_set (first_of (codes "trace") options) ≡ false
  pub audited : is_set (first_of (codes "audit") options) ≡ is_journal asked.kept
  pub imaged : is_set (first_of (codes "image") options) ≡ is_image asked.kept

-- what the options of `resume` ask for: a seed of 64 bits, and at most ten million turns
pub record AsksResume (options : List Row) (asked : Resume) : Type 0 where
  pub seeded : Says (first_of (codes "seed") options) 0 18446744073709551615 asked.seed
  pub limited : Says (first_of (codes "turns") options) 1000000 MOST_TURNS asked.turns

-- what the options of `make` ask for: a seed of 64 bits, one to eight mutators, and at most 200,000 commands of each
pub record AsksMake (options : List Row) (asked : Make) : Type 0 where
  pub seeded : Says (first_of (codes "seed") options) 0 18446744073709551615 asked.seed
  pub some : 1 ≤ asked.mutators
  pub few : Says (first_of (codes "mutators") options) 2 MOST_SCRIPT_MUTATORS asked.mutators
  pub limited : Says (first_of (codes "commands") options) 1000 MOST_COMMANDS asked.commands

-- what a subcommand with its options asks for, if there is one
abbrev pub AsksBy : Option (Text × List Row) → Request → Type 0
AsksBy None request = ⊥
AsksBy (Some (name, options)) (requests.Answer (hows.Play asked)) = (name ≡ codes "play") × AsksPlay options asked
AsksBy (Some (name, options)) (requests.Answer hows.Threads) = name ≡ codes "threads"
AsksBy (Some (name, options)) (requests.Keep asked) = (name ≡ codes "play") × AsksKeeping options asked
AsksBy (Some (name, options)) (requests.Resume asked) = (name ≡ codes "resume") × AsksResume options asked
AsksBy (Some (name, options)) (requests.Make asked) = (name ≡ codes "make") × AsksMake options asked
AsksBy (Some (name, options)) requests.Audit = name ≡ codes "audit"

-- The command takes the words, the first of which is the program's name, and they ask for this.
pub record Asks (words : List Text) (request : Request) : Type 0 where
  pub taken : fault_of recycler words ≡ []
  pub asked : AsksBy (subcommand_of recycler words) request

-- the turns of a played run are in their range
abbrev HasFewTurns : How → Type 0
HasFewTurns (hows.Play asked) = asked.turns ≤ MOST_TURNS
HasFewTurns hows.Threads = ⊤

-- each number of a request is in its range
abbrev pub IsInRange : Request → Type 0
IsInRange (requests.Answer how) = HasFewTurns how
IsInRange (requests.Keep asked) = asked.turns ≤ MOST_TURNS
IsInRange (requests.Resume asked) = asked.turns ≤ MOST_TURNS
IsInRange (requests.Make asked) = (1 ≤ asked.mutators) × (asked.mutators ≤ MOST_SCRIPT_MUTATORS) × (asked.commands ≤ MOST_COMMANDS)
IsInRange requests.Audit = ⊤

-- a request that a script is read for
abbrev pub ReadsScript : Request → Type 0
ReadsScript (requests.Answer how) = ⊤
ReadsScript (requests.Keep asked) = ⊤
ReadsScript (requests.Resume asked) = ⊥
ReadsScript (requests.Make asked) = ⊥
ReadsScript requests.Audit = ⊥

-- a request that a source is read for
abbrev pub ReadsSource : Request → Type 0
ReadsSource (requests.Answer how) = ⊤
ReadsSource (requests.Keep asked) = ⊤
ReadsSource (requests.Resume asked) = ⊤
ReadsSource (requests.Make asked) = ⊥
ReadsSource requests.Audit = ⊤

-- The command takes the words, and each number is in its range.
abbrev pub IsCommandLine : List Text → Type 0
IsCommandLine words = (request : Request) × Asks words request

-- The words are a command line that asks for what a script is read for.
abbrev pub AsksToRead : List Text → Type 0
AsksToRead words = (request : Request) × Asks words request × ReadsScript request

-- The words are a command line that asks for a heap to go on from its image.
abbrev pub AsksToResume : List Text → Type 0
AsksToResume words = (asked : Resume) × Asks words (requests.Resume asked)

-- The words are a command line that asks for what a source is read for.
abbrev pub AsksForSource : List Text → Type 0
AsksForSource words = (request : Request) × Asks words request × ReadsSource request

-- The words are a command line that asks what is to be said of a journal.
abbrev pub AsksToAudit : List Text → Type 0
AsksToAudit words = Asks words requests.Audit

-- The words are a command line that asks for a made script.
abbrev pub AsksToMake : List Text → Type 0
AsksToMake words = (asked : Make) × Asks words (requests.Make asked)
