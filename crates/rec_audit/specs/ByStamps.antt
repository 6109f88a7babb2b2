-- The dates that the stamps in a heap's own words tell.
use Rattle.std.specs.Prelude.{ℕ, ◌==◌, if◌then◌else◌, true, map}
use Rattle.rec_word.specs.Bare.{dated_word}
use Rattle.rec_word.specs.Word.{stamp_of}
use Rattle.rec_model.specs.Sets.{Cleared}
use Rattle.rec_log.specs.Words.{buffer_by}
use Rattle.rec_mutator.specs.Private as mutators
use Rattle.rec_collector.specs.Private as collectors
use Rattle.rec_core.specs.Core.{Core}
use Rattle.rec_core.specs.Loads.{Loaded}

-- the epoch in which a word was put, by its stamp; a word of writer 0 was put by no mutator, and before all epochs
abbrev pub stamp_epoch : (word : ℕ) → ℕ
stamp_epoch word = if (stamp_of word).writer == 0 then 0 else (stamp_of word).epoch

-- the word with that epoch as its date
abbrev pub by_stamp : (word : ℕ) → ℕ
by_stamp word = dated_word true (stamp_epoch word) word

-- the records of a mutator and of the collector with such words in their buffers
abbrev pub mutator_by_stamps : mutators.Private → mutators.Private
mutator_by_stamps p = record p { log = buffer_by by_stamp p.log }

abbrev collector_by_stamps : collectors.Private → collectors.Private
collector_by_stamps c = record c { newer = map (buffer_by by_stamp) c.newer; older = map (buffer_by by_stamp) c.older }

-- The heap with each word in a field or in a buffer dated by its own stamp.
abbrev pub by_stamps : Core → Core
by_stamps w =
    record w {
      words = map by_stamp w.words;
      boxes = map (buffer_by by_stamp) w.boxes;
      mutators = map mutator_by_stamps w.mutators;
      collector = collector_by_stamps w.collector;
    }

-- what the collector loaded from a field, and what it took out of one, dated so
abbrev pub load_by_stamp : Loaded → Loaded
load_by_stamp l = record l { word = by_stamp l.word }

abbrev pub cleared_by_stamp : Cleared → Cleared
cleared_by_stamp c = record c { word = by_stamp c.word }
