-- The lines of a run, as text.
use Rattle.std.specs.Prelude.{◌≡◌, ◌⊎◌, ℕ, ◌+◌, ◌-◌, ◌^◌, ◌≤◌, ◌==◌, ◌&&◌, Bool, true, false, if◌then◌else◌, Option, List, [], ◌∷◌, ◌++◌, length, max, not, codes, decimal, bytes_eq}
use Rattle.std.specs.Io.KnownBytes.{Appends}
use Rattle.std.specs.Fmt.{styled_decimal, format_spec}
use Rattle.rec_core.specs.Core.{opened}
use Rattle.rec_script.specs.Script.{ScriptContents}
use Rattle.rec_play.specs.Numbers.{config_of}
use Rattle.rec_play.specs.Played.{lengths_of}
use Rattle.rec_play.specs.Playing.{generator_of}
use Rattle.rec_play.specs.Watched.{Watched, IsWatched, Tells}
use Rattle.rec_play.specs.declared.stage.Stage.TheVariants.{Playing}
use Rattle.rec_play.specs.Watched.{IsOver}
use Rattle.rec_play.specs.declared.moves.Move.{Move}
use Rattle.rec_play.specs.declared.moves.Move.TheVariants.{Command, Step}
use Rattle.recycler_watch.specs.Seen.{Seen, SeenCollector, seen_of}
use Rattle.recycler_watch.specs.Sentence.{sentence}
use Rattle.recycler_watch.specs.declared.request.Asked.{Asked}
use Rattle.recycler_watch.specs.declared.request.Request.{Request}
use Rattle.recycler_watch.specs.declared.request.Request.TheVariants.{Graph}

-- The walk that is asked: the run of the script at its opening, with the seed and the most drawn turns that the words name.
pub record IsAsked (contents : ScriptContents) (asked : Asked) (walk : Watched) : Type 0 where
  pub script : walk.script ≡ contents
  pub rule : walk.rule ≡ record { left = lengths_of contents; generator = generator_of asked.seed; turns = asked.turns }
  pub rest : walk.rest ≡ walk.rule
  pub stage : walk.stage ≡ Playing
  pub world : walk.world ≡ opened (config_of contents)
  pub watched : IsWatched walk

-- a number in five places, or as many more as it takes
abbrev pub placed : ℕ → List ℕ
placed number = styled_decimal (format_spec 32 3 0 5 (2 ^ 64 - 1)) number

-- headings for what begins with a move
abbrev pub headings : (was is : SeenCollector) → List ℕ
headings was is =
    (if is.settles && not was.settles then codes "== the commands are made, the heap settles\n" else [])
    ++ (if is.epoch == was.epoch then [] else codes "== epoch " ++ decimal is.epoch ++ codes "\n")

-- who made the move
abbrev pub actor_words : Move → List ℕ
actor_words (Command t cmd told) = codes " mutator " ++ decimal t ++ codes "  "
actor_words (Step found turn) = codes " collector  "

-- a heading behind the move that led to another phase
abbrev pub phase_line : (was is : List ℕ) → List ℕ
phase_line was is = if bytes_eq was is then [] else if bytes_eq is (codes "rest") then [] else codes "-- " ++ is ++ codes "\n"

-- the move with this number, with its headings
abbrev pub move_text : ℕ → Move → (was is : Seen) → List ℕ
move_text number made was is =
    headings was.collector is.collector
    ++ placed number ++ actor_words made ++ sentence made was is ++ codes "\n"
    ++ phase_line was.collector.phase is.collector.phase

-- A move was made, which tells what was done.
pub record IsMade (before : Watched) (move : Move) (after : Watched) : Type 0 where
  pub tells : Tells before after move
  pub watched : IsWatched after
  pub script : after.script ≡ before.script
  pub rule : after.rule ≡ before.rule

-- So many moves were made, then these, and this is the text of these: of each one, in order, with its number.
pub data IsTold : (made : ℕ) (before : Watched) (moves : List Move) (text : List ℕ) (after : Watched) → Type 0 where
  none : (made : ℕ) (w : Watched) → IsTold made w [] [] w
  more : (made : ℕ) (before mid after : Watched) (moves : List Move) (move : Move) (text : List ℕ) → IsTold made before moves text mid → IsMade mid move after → IsTold made before (moves ++ move ∷ []) (text ++ move_text (made + length moves + 1) move (seen_of mid) (seen_of after)) after

-- where a run stands behind its last move: so many moves were asked for, or no move is left
abbrev IsEnd : (last after : Watched) → (made asked : ℕ) → Type 0
IsEnd last after made asked = ((after ≡ last) × (made ≡ asked)) ⊎ (IsOver after.stage × (made ≤ asked))

-- The moves before a number are made, and not told.
pub record HasPassed (before : Watched) (asked : ℕ) (after : Watched) (made : ℕ) : Type 0 where
  pub moves : List Move
  pub text : List ℕ
  pub last : Watched
  pub run : IsTold 0 before moves text last
  pub end : IsEnd last after (length moves) asked
  pub count : made ≡ length moves

-- The moves from one number to another are made, and the text of each one stands in what is written, in order.
pub record HasTold (before : Watched) (made to : ℕ) (after : Watched) (made_after : ℕ) (old new : Option (List ℕ)) : Type 0 where
  pub moves : List Move
  pub text : List ℕ
  pub last : Watched
  pub run : IsTold made before moves text last
  pub end : IsEnd last after (made + length moves) (max to made)
  pub count : made_after ≡ made + length moves
  pub written : Appends old new text

-- the next move is made, and its text is written, or none is left
abbrev pub IsNext : (goes_on : Bool) (before : Watched) (made : ℕ) (after : Watched) (made_after : ℕ) (old new : Option (List ℕ)) → Type 0
IsNext true before made after made_after old new = (move : Move) × IsMade before move after × (made_after ≡ made + 1) × Appends old new (move_text made_after move (seen_of before) (seen_of after))
IsNext false before made after made_after old new = IsOver after.stage × (made_after ≡ made) × (new ≡ old)

-- how many moves are made before those that are told, where these words are asked
abbrev pub before_of : Request → (from to : ℕ) → ℕ
before_of Graph from to = to
before_of _ from to = from - 1

abbrev pub before_window : Asked → ℕ
before_window asked = before_of asked.request asked.from asked.to

-- What `trace` writes: the moves before `from` are made, and those from there up to `to` are told.
pub record IsTrace (before : Watched) (from to : ℕ) (after : Watched) (old new : Option (List ℕ)) : Type 0 where
  pub begin : Watched
  pub passed : ℕ
  pub made : ℕ
  pub passes : HasPassed before (from - 1) begin passed
  pub tells : HasTold begin passed to after made old new
