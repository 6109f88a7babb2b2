-- The summary of a run: four lines in the place of its whole text.
use Rattle.std.specs.Prelude.{ℕ, ◌-◌, ◌==◌, nat_le, if◌then◌else◌, List, [], ◌∷◌, ◌++◌, codes, length, count_by}
use Rattle.std.specs.Fmt.{decimal}
use Rattle.std.specs.List.{flat_map, sum_by}
use Rattle.rec_model.specs.declared.answer.Answer.{Answer}
use Rattle.rec_model.specs.declared.answer.Answer.TheVariants as answers
use Rattle.rec_model.specs.LegalOrder.{Line}
use Rattle.rec_collector.specs.declared.sets.Sets.{Sets}
use Rattle.rec_report.specs.Text.{line_feed, refusals}

-- how many commands the mutators were answered
abbrev pub commands_of : List (List Line) → ℕ
commands_of journals = sum_by length journals

-- the mutators, and the commands of all
abbrev pub sizes_line : (mutators commands : ℕ) → List ℕ
sizes_line mutators commands = codes "mutators " ++ decimal mutators ++ codes " commands " ++ decimal commands ++ line_feed

-- The place of an answer among the words of the summary's second line. The last one has no word there: a summary is asked for
-- where no answer is that a log is full.
abbrev pub place_of : Answer → ℕ
place_of answers.Done = 0
place_of answers.Null = 1
place_of answers.Object = 2
place_of (answers.Value label) = 3
place_of answers.Yes = 4
place_of answers.No = 5
place_of answers.NoObject = 6
place_of answers.Full = 7
place_of (answers.Busy before after) = 8
place_of answers.NoField = 9
place_of answers.NotYet = 10
place_of answers.LogFull = 11

-- how many of a mutator's answers have this place
abbrev pub own_answers : (place : ℕ) → List Line → ℕ
own_answers place journal = count_by (λ line. place_of line.1.answer == place) journal

-- how many answers have this place
abbrev pub answers_at : List (List Line) → (place : ℕ) → ℕ
answers_at journals place = sum_by (own_answers place) journals

-- how many puts found a leaf, which a script of version 1 has not
abbrev pub no_field_words : (version count : ℕ) → List ℕ
no_field_words version count = if nat_le 2 version then codes " nofield " ++ decimal count else []

-- how many mutators couldn't leave yet, who in versions 1 and 2 never leave
abbrev pub not_yet_words : (version count : ℕ) → List ℕ
not_yet_words version count = if nat_le 3 version then codes " notyet " ++ decimal count else []

-- how many answers there are of each kind, by their places, to a script of this version
abbrev pub answers_line : (version : ℕ) → (ℕ → ℕ) → List ℕ
answers_line version at =
    codes "done " ++ decimal (at 0) ++ codes " null " ++ decimal (at 1) ++ codes " object " ++ decimal (at 2)
    ++ codes " value " ++ decimal (at 3) ++ codes " yes " ++ decimal (at 4) ++ codes " no " ++ decimal (at 5)
    ++ codes " none " ++ decimal (at 6) ++ codes " full " ++ decimal (at 7) ++ codes " busy " ++ decimal (at 8)
    ++ no_field_words version (at 9) ++ not_yet_words version (at 10) ++ line_feed

-- live objects, births with the opening one, refusals, and how many objects are live no more
abbrev pub objects_line : (live made refused : ℕ) → List ℕ
objects_line live made refused =
    codes "live " ++ decimal live ++ codes " made " ++ decimal made ++ codes " refused " ++ decimal refused
    ++ codes " freed " ++ decimal (made - live) ++ line_feed

-- collections, and what became of the sets that they tested: freed, or refused by Delta or by Sigma
abbrev pub collections_line : (collections cycles delta sigma : ℕ) → List ℕ
collections_line collections cycles delta sigma =
    codes "epochs " ++ decimal collections ++ codes " cycles " ++ decimal cycles ++ codes " delta " ++ decimal delta
    ++ codes " sigma " ++ decimal sigma ++ line_feed

-- the four lines, of a script of this version
abbrev pub summary_lines : (version : ℕ) → List (List Line) → (live made collections : ℕ) → Sets → List (List ℕ)
summary_lines version journals live made collections sets =
    sizes_line (length journals) (commands_of journals)
    ∷ answers_line version (answers_at journals)
    ∷ objects_line live made (refusals journals)
    ∷ collections_line collections sets.freed sets.delta sets.sigma
    ∷ []

-- the summary as a whole
abbrev pub summary_text : (version : ℕ) → List (List Line) → (live made collections : ℕ) → Sets → List ℕ
summary_text version journals live made collections sets = flat_map (λ line. line) (summary_lines version journals live made collections sets)
