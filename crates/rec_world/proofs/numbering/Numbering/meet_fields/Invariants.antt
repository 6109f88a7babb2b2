-- The targets of the words so far have joined the list.
use Rattle.std.proofs.Common.{◌≡◌, take, map}
use Rattle.rec_word.specs.Word.{target_of}
use Rattle.rec_model.specs.Reach.{named}
use Rattle.rec_model.specs.Numbering.{joined}
use Rattle.rec_world.proofs.numbering.Numbering.meet_fields.Given as goal

abbrev pub invariant-loop-word : goal.invariant-loop-word
invariant-loop-word l = record {
  slots : l.self.slots ≡ l.fn.self.slots;
  list : l.self.list ≡ joined l.fn.self.list (named (map target_of (take l.word-index l.words)));
}
