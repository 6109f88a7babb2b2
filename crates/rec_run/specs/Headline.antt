-- What the program's answer to a request is. Each word of the headline has its meaning here, or in a definition that is cited here. Which
-- run it was stands apart, in the fields `made`: `Making` has their definitions, and nothing else here cites these. Some fields say in the
-- headline's words what others imply: `reached` and `counts` what `settled` and `listing` do, `given` and `full` what `legal` does. So the
-- headline is read here, and each of them is proved.
use Rattle.std.specs.Prelude.{◌≡◌, ◌⊎◌, ℕ, ◌+◌, ◌<◌, ◌≤◌, ◌↔◌, Bool, true, false, Option, None, Some, List, [], ◌++◌, length, map}
use Rattle.std.specs.List.{slice_get}
use Rattle.std.specs.Option.{ForSome}
use Rattle.rec_model.specs.Heap.{Heap, children, roots}
use Rattle.rec_model.specs.Asking.{allocation, asks, is_done, AnswersAs}
use Rattle.rec_model.specs.Numbering.{holders}
use Rattle.rec_model.specs.Reach.{is_in, IsReached}
use Rattle.rec_model.specs.declared.answer.Answer.TheVariants as answers
use Rattle.rec_model.specs.declared.limits.TheConstants.{MOST_BYTES}
use Rattle.rec_model.specs.declared.command.Cmd.{Cmd}
use Rattle.rec_model.specs.declared.told.Told.{Told}
use Rattle.rec_model.specs.LegalOrder.{Line, Event, Moment, actors, after_all, moment, IsLegalOrder, NoLogFull}
use Rattle.rec_model.specs.Listing.{Row, IsListing}
use Rattle.rec_model.specs.Sight.{IsTaken, NumbersSlots, Represents, targets_of}
use Rattle.rec_core.specs.Core.{Core, sight}
use Rattle.rec_core.specs.Settled.{IsSettled}
use Rattle.rec_settle.specs.Collecting.{taken_slots}
use Rattle.rec_play.specs.Played.{limits_of}
use Rattle.rec_play.specs.Start.{Start, moment_at, opening_of}
use Rattle.rec_io.specs.Sink.{Appends}
use Rattle.rec_io.specs.Source.{BeginsWith}
use Rattle.rec_script.specs.Behind.{with_all}
use Rattle.rec_script.specs.Lines.{lines}
use Rattle.rec_script.specs.Script.{ScriptContents, Spells, IsRefused}
use Rattle.rec_request.specs.declared.request.How.{How}
use Rattle.rec_request.specs.declared.request.How.TheVariants as hows
use Rattle.rec_request.specs.declared.request.Keeping.{Keeping}
use Rattle.rec_request.specs.declared.request.Kept.{Kept}
use Rattle.rec_request.specs.declared.request.Kept.TheVariants as kepts
use Rattle.rec_request.specs.declared.request.Play.{Play}
use Rattle.rec_request.specs.declared.request.Request.{Request}
use Rattle.rec_request.specs.declared.request.Resume.{Resume}
use Rattle.rec_request.specs.declared.request.Request.TheVariants as requests
use Rattle.rec_script.specs.declared.error.Kind.{Kind}
use Rattle.rec_script.specs.Made.{made_text}
use Rattle.rec_report.specs.Summary.{summary_text}
use Rattle.rec_report.specs.Text.{play_text, trace_line}
use Rattle.rec_collector.specs.Shown.{Shown}
use Rattle.rec_image.specs.Image.{ImageContents, IsImage, text as image_text}
use Rattle.rec_image.specs.Standing.{IsOfWorld, StandsFor}
use Rattle.rec_audit.specs.Journal.{journal, sets_passed}
use Rattle.rec_audit.specs.Lines.{text_of}
use Rattle.rec_audit.specs.declared.form.Heap.{Heap as HeapNumbers}
use Rattle.rec_audit.specs.declared.verdict.Verdict.{Verdict}
use Rattle.rec_audit.specs.declared.verdict.Verdict.TheVariants.{Yes}
use Rattle.rec_audit.specs.Said.{verdict_text}
use Rattle.rec_audit.specs.Verdicts.{IsVerdict}
use Rattle.rec_run.specs.Making.{AreShown, IsMade}
use Rattle.rec_run.specs.Resuming.{IsRestoredFor, IsUnresumed, Tells, numbers_of}
use Rattle.rec_io.specs.Whole.{IsAtEnd}

-- The world is settled and these are its rows: just the slots that registers reach hold objects, a row for each, with its true count.
pub record IsSettledAs (world : Core) (heap : Heap) (slots : ℕ) (rows : List Row) : Type 0 where
  pub settled : IsSettled world
  -- just the slots that the registers reach, by fields from slot to slot, hold objects
  pub reached : (slot : ℕ) → IsTaken (sight world) slot ↔ IsReached (roots (sight world).registers) (targets_of (sight world)) slot
  pub room : length world.headers ≡ slots
  -- the heap stands for this world, and has these rows; the numbering is the first part of the listing
  pub stands : Represents heap (sight world)
  pub listing : IsListing heap rows
  -- the count in each row is how many registers, and fields of listed objects, hold the object
  pub counts : map (λ row. row.count) rows ≡ map (holders (roots heap.registers) (children heap) listing.0) listing.0

-- what stands before the event with this number, in an order from this moment on
abbrev pub before : ScriptContents → (first : Moment) → List Event → ℕ → Moment
before script first events i = moment (limits_of script) first events i

-- and what stands behind all of them
abbrev pub behind : ScriptContents → (first : Moment) → List Event → Moment
behind script first events = after_all (limits_of script) first events

-- The journals have the script's commands, each with what was told, and no log was full. One legal order from this moment on has their
-- lines: it keeps each mutator's own, and the heap that never frees explains it.
pub record AreExplained (script : ScriptContents) (first : Moment) (journals : List (List Line)) (events : List Event) : Type 0 where
  pub commands : map (map (λ line. line.0)) journals ≡ script.commands
  pub legal : IsLegalOrder (limits_of script) first journals events
  -- each answer is the one that the heap that never frees gives there; where it gives none, the command is refused, and changes nothing
  pub given : (i t : ℕ) (cmd : Cmd) (told : Told) → slice_get events i ≡ Some (Event.Answers t (cmd, told))
      → AnswersAs cmd (asks script.fields (before script first events i).heap t cmd (is_done told.answer) told.left).answer told.answer
  -- an allocation is answered full only where as many objects as there are slots are not freed
  pub full : (i t reg label : ℕ) (leaf : Bool) (told : Told) → slice_get events i ≡ Some (Event.Answers t (allocation leaf reg label, told))
      → told.answer ≡ answers.Full → length (before script first events i).unfreed ≡ script.slots
  pub no_log_full : NoLogFull journals

-- whether a summary is printed in place of the whole text
abbrev pub is_summary : How → Bool
is_summary (hows.Play play) = play.summary
is_summary hows.Threads = false

-- the order that the answers are printed in: that of a played run, and none of a run on threads
abbrev pub printed_order : How → (order : List ℕ) → Option (List ℕ)
printed_order (hows.Play play) order = Some order
printed_order hows.Threads order = None

-- What is printed of a run whose heap is settled: the whole text, or the summary of a script of this version, with the numbers of the
-- settled heap. Without an order the answers stand mutator by mutator.
abbrev pub printed : (version : ℕ) → (summary : Bool) → List (List Line) → (order : Option (List ℕ)) → List Row → (made : ℕ) → Core → List ℕ
printed version false journals order rows made world = play_text journals order rows made
printed version true journals order rows made world = summary_text version journals (length rows) made world.collector.collections world.collector.sets

-- whether a run is traced before its heap is settled
abbrev pub is_traced : How → Bool
is_traced (hows.Play play) = play.trace
is_traced hows.Threads = false

-- The line of a trace of this heap, which is settled as that world. It tells how many slots the trace lists, and how many held objects
-- before settling and after it. Just the slots of the trace hold objects afterwards, so the first number and the last are one.
pub record IsTraceLine (end world : Core) (line : List ℕ) : Type 0 where
  -- the slots on a path of fields from a register before settling, each once
  pub slots : List ℕ
  pub traced : NumbersSlots (sight end) slots
  pub left : (slot : ℕ) → IsTaken (sight world) slot ↔ (is_in slot slots ≡ true)
  pub many : length slots ≡ taken_slots world
  pub told : line ≡ trace_line (length slots) (taken_slots end) (taken_slots world)

-- what stands behind the text: the line of a trace, or nothing
abbrev pub IsTail : (traced : Bool) → (end world : Core) → List ℕ → Type 0
IsTail false end world tail = tail ≡ []
IsTail true end world tail = IsTraceLine end world tail

-- What the text says of a run that begins at this moment, whichever run it was: each printed answer is the one that the heap that never
-- frees gives to the script's commands in one order that keeps each mutator's own; an allocation is answered full only where no slot was
-- free; and in the settled world just the objects that registers reach hold slots, listed with true counts. A summary counts the same
-- answers and objects. Where a trace is asked for, its line stands behind.
pub record Meaning (script : ScriptContents) (first : Moment) (how : How) (journals : List (List Line)) (events : List Event) (end world : Core) (text : List ℕ) : Type 0 where
  pub explained : AreExplained script first journals events
  pub rows : List Row
  pub settled : IsSettledAs world (behind script first events).heap script.slots rows
  pub tail : List ℕ
  pub ends : IsTail (is_traced how) end world tail
  pub written : text ≡ printed script.version (is_summary how) journals (printed_order how (actors events)) rows (length (behind script first events).heap.objects) world ++ tail

-- The text answers the script, run from this start. The journals, the order and the worlds that give the text its meaning are those of
-- the run that was made: of a played one the order is the one that the playing rule draws.
pub record Answers (script : ScriptContents) (start : Start) (how : How) (text : List ℕ) : Type 0 where
  pub journals : List (List Line)
  pub events : List Event
  -- the world after the last turn
  pub end : Core
  -- and the one that settling it left
  pub world : Core
  pub meaning : Meaning script (moment_at script start) how journals events end world text
  pub made : IsMade script start how journals events end world

-- The bytes are the text of a script within the limits, and the answer is the script's, run so.
pub record AnswersTo (bytes : List ℕ) (how : How) (text : List ℕ) : Type 0 where
  pub script : ScriptContents
  pub short : length bytes ≤ MOST_BYTES
  pub spelled : Spells (lines bytes) script
  pub answered : Answers script (opening_of script) how text

-- The bytes are a journal's, or none's, and the text says what is to be said of them.
pub record SaysVerdict (bytes text : List ℕ) : Type 0 where
  pub verdict : Verdict
  pub said : IsVerdict bytes verdict
  pub written : text ≡ verdict_text verdict

-- the numbers of a script's heap that its collector's journal tells
abbrev pub heap_told : ScriptContents → HeapNumbers
heap_told script = record { slots = script.slots; fields = script.fields; registers = script.registers; mutators = length script.commands; first = 1 }

-- The text is the journal of the collector while the script was played and its heap settled afterwards: of all steps that it made then,
-- each once, and in order.
pub record IsJournal (script : ScriptContents) (asked : Keeping) (end world : Core) (text : List ℕ) : Type 0 where
  -- the steps that were made while it was played
  pub played : List Shown
  -- and while it was settled
  pub settling : List Shown
  pub written : text ≡ text_of (journal (heap_told script) (played ++ settling))
  -- it is answered yes, unless it is too long, with as many sets as passed both tests
  pub answered : length text ≤ MOST_BYTES → IsVerdict text (Yes (sets_passed (played ++ settling)))
  pub made : AreShown script asked end world played settling

-- The text is the image of the settled heap: it is of the heap's numbers, and stands for it in all but the field words.
pub record IsImageText (world : Core) (text : List ℕ) : Type 0 where
  pub contents : ImageContents
  pub image : IsImage contents
  pub numbers : IsOfWorld world contents
  pub stands : StandsFor contents (sight world)
  pub written : text ≡ image_text contents

-- what is kept of a run, whose heap was this one and is settled as that one
abbrev pub IsKept : Kept → ScriptContents → Keeping → (end world : Core) → (text : List ℕ) → Type 0
IsKept kepts.Journal script asked end world text = IsJournal script asked end world text
IsKept kepts.Image script asked end world text = IsImageText world text

-- how commands are played where neither a summary nor a trace is asked for
abbrev plainly : (seed turns : ℕ) → Play
plainly seed turns = record { seed = seed; turns = turns; summary = false; trace = false }

-- how a script is played of which something else than its answers is written
abbrev pub played : Keeping → Play
played asked = plainly asked.seed asked.turns

-- The script was played and its heap settled afterwards, and the text is what was asked to be kept of that.
pub record TellsRun (script : ScriptContents) (asked : Keeping) (text : List ℕ) : Type 0 where
  pub journals : List (List Line)
  pub events : List Event
  -- the world after the last turn
  pub end : Core
  -- and the one that settling it left
  pub world : Core
  pub explained : AreExplained script (moment_at script (opening_of script)) journals events
  -- just what the registers reach is left, and the heap of the order stands for it
  pub settled : IsSettled world
  pub stands : Represents (behind script (moment_at script (opening_of script)) events).heap (sight world)
  pub kept : IsKept asked.kept script asked end world text
  pub made : IsMade script (opening_of script) (hows.Play (played asked)) journals events end world

-- The bytes are the text of a script within the limits, and the text tells of its run.
pub record TellsOf (bytes : List ℕ) (asked : Keeping) (text : List ℕ) : Type 0 where
  pub script : ScriptContents
  pub short : length bytes ≤ MOST_BYTES
  pub spelled : Spells (lines bytes) script
  pub told : TellsRun script asked text

-- The bytes are the text of an image and of mutators behind it, and the text answers these, run from the heap that the image makes. The
-- mutators that aren't given have no commands.
pub record ResumesTo (bytes : List ℕ) (asked : Resume) (text : List ℕ) : Type 0 where
  pub contents : ImageContents
  pub given : ScriptContents
  pub told : Tells bytes contents given
  pub start : Start
  pub restored : IsRestoredFor contents (with_all (numbers_of contents) given) start
  pub answered : Answers (with_all (numbers_of contents) given) start (hows.Play (plainly asked.seed asked.turns)) text

-- the answer of the bytes to a request; a made script is that of its seed, whatever the bytes
abbrev pub IsAnswer : Request → (bytes text : List ℕ) → Type 0
IsAnswer (requests.Answer how) bytes text = AnswersTo bytes how text
IsAnswer (requests.Keep asked) bytes text = TellsOf bytes asked text
IsAnswer (requests.Resume asked) bytes text = ResumesTo bytes asked text
IsAnswer (requests.Make asked) bytes text = text ≡ made_text asked.seed asked.mutators asked.commands
IsAnswer requests.Audit bytes text = SaysVerdict bytes text

-- the bytes are those told, where any are told
abbrev pub Are : Option (List ℕ) → List ℕ → Type 0
Are told bytes = ForSome told (λ all. all ≡ bytes)

-- More bytes were read than a script has, and at most a piece of 65,536 more: they stand in front of what there was, and what is behind
-- them is left.
pub record IsReadPast (rest : List ℕ) (left : Option (List ℕ)) : Type 0 where
  pub bytes : List ℕ
  pub passed : BeginsWith rest bytes left
  pub many : MOST_BYTES < length bytes
  pub few : length bytes ≤ MOST_BYTES + 65536

-- a source was read to its end, which is within the limit of a script, or past that limit
abbrev pub IsReadOut : Option (List ℕ) → Option (List ℕ) → Type 0
IsReadOut before after = ForSome before (λ rest. ((after ≡ Some []) × (length rest ≤ MOST_BYTES)) ⊎ IsReadPast rest after)

-- what a request reads of a source: all its bytes, and nothing for a made script; a journal may be read past its limit, since of one
-- that long one thing is said, whatever follows
abbrev pub HasRead : Request → (rest left : Option (List ℕ)) → (bytes : List ℕ) → Type 0
HasRead (requests.Answer how) rest left bytes = Are rest bytes × IsAtEnd rest left
HasRead (requests.Keep asked) rest left bytes = Are rest bytes × IsAtEnd rest left
HasRead (requests.Resume asked) rest left bytes = Are rest bytes × IsAtEnd rest left
HasRead (requests.Make asked) rest left bytes = (left ≡ rest) × (bytes ≡ [])
HasRead requests.Audit rest left bytes = Are rest bytes × IsReadOut rest left

-- The bytes that the request reads were read, and the whole answer was written.
pub record WroteAnswer (request : Request) (rest left before after : Option (List ℕ)) : Type 0 where
  pub bytes : List ℕ
  pub read : HasRead request rest left bytes
  pub text : List ℕ
  pub answer : IsAnswer request bytes text
  pub written : Appends before after text

-- The bytes that the request reads were read, and a front of the answer was written.
pub record WroteFront (request : Request) (rest left before after : Option (List ℕ)) : Type 0 where
  pub bytes : List ℕ
  pub read : HasRead request rest left bytes
  pub text : List ℕ
  pub answer : IsAnswer request bytes text
  pub front : List ℕ
  pub back : List ℕ
  pub cut : text ≡ front ++ back
  pub written : Appends before after front

-- the bytes are refused with this line and this kind: they are no script, or no image with mutators behind it
abbrev pub IsRefusedFor : Request → List ℕ → (line : ℕ) → Kind → Type 0
IsRefusedFor (requests.Answer how) bytes line kind = IsRefused bytes line kind
IsRefusedFor (requests.Keep asked) bytes line kind = IsRefused bytes line kind
IsRefusedFor (requests.Resume asked) bytes line kind = IsUnresumed bytes line kind
IsRefusedFor (requests.Make asked) bytes line kind = ⊥
IsRefusedFor requests.Audit bytes line kind = ⊥

-- The source was read to its end or past the limit, and its bytes are refused with this line and kind.
pub record ReadRefused (request : Request) (rest left : Option (List ℕ)) (line : ℕ) (kind : Kind) : Type 0 where
  pub bytes : List ℕ
  pub read : Are rest bytes
  pub ended : IsReadOut rest left
  pub refused : IsRefusedFor request bytes line kind
