-- The fields so far stand behind the others.
use Rattle.std.proofs.Common.{◌≡◌, ◌++◌, map, take}
use Rattle.rec_word.specs.Word.{target_of}
use Rattle.rec_image.specs.Standing.{listed_place}
use Rattle.rec_image.proofs.live.add_fields.Given as goal

abbrev pub invariant-loop-word : goal.invariant-loop-word
invariant-loop-word l = l.targets.items ≡ l.fn.targets.items ++ map (λ word. listed_place l.numbering.list (target_of word)) (take l.word-index l.words)
