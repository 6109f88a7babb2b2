-- What a line of data has of a move.
use Rattle.std.specs.Prelude.{ℕ, Bool, if◌then◌else◌, Option, None, Some, option_map, List, [], ◌∷◌, map, codes, string_bytes}
use Rattle.rec_play.specs.declared.moves.Move.{Move}
use Rattle.rec_play.specs.declared.moves.Move.TheVariants.{Command, Step}
use Rattle.rec_report.specs.Text.{answer_word}
use Rattle.recycler_watch.specs.Seen.{Seen, SeenCollector, SeenSlot, collector_seen, slot_seen}
use Rattle.recycler_watch.specs.Sentence.{command_words, is_same_slot, sentence}
use Rattle.recycler_watch.specs.declared.tell.Line.{Line}

-- its number; who made it, what that mutator asked and was answered; its words; how far the collector is, and the slots that are told
pub record DataLine : Type 0 where
  pub number : ℕ
  pub mutator : Option ℕ
  pub command : Option (List ℕ)
  pub answer : Option (List ℕ)
  pub says : List ℕ
  pub collector : SeenCollector
  pub slots : List SeenSlot

abbrev pub asker : Move → Option ℕ
asker (Command t cmd told) = Some t
asker (Step found turn) = None

abbrev pub asked_words : Move → Option (List ℕ)
asked_words (Command t cmd told) = Some (command_words cmd)
asked_words (Step found turn) = None

abbrev pub answered_words : Move → Option (List ℕ)
answered_words (Command t cmd told) = Some (answer_word told.answer)
answered_words (Step found turn) = None

-- what isn't as it was; all, where nothing was
abbrev pub others : {X : Type 0} → (X → X → Bool) → (was is : List X) → List X
others same [] is = is
others same (x ∷ xs) [] = []
others same (x ∷ xs) (y ∷ ys) = if same x y then others same xs ys else y ∷ others same xs ys

-- the line of a move
abbrev pub data_line : ℕ → Move → (was is : Seen) → DataLine
data_line number made was is =
    record {
      number = number;
      mutator = asker made;
      command = asked_words made;
      answer = answered_words made;
      says = sentence made was is;
      collector = is.collector;
      slots = others is_same_slot was.slots is.slots;
    }

-- the line before the first move
abbrev pub first_line : ℕ → Seen → DataLine
first_line number is =
    record {
      number = number;
      mutator = None;
      command = None;
      answer = None;
      says = codes "the whole heap as it is here";
      collector = is.collector;
      slots = is.slots;
    }

-- what the program's line says of it
abbrev pub line_seen : Line → DataLine
line_seen l =
    record {
      number = l.number;
      mutator = l.mutator;
      command = option_map string_bytes l.command;
      answer = option_map string_bytes l.answer;
      says = string_bytes l.says;
      collector = collector_seen l.collector;
      slots = map (λ one. slot_seen one.now) l.slots.items;
    }
