-- What changed of the slots so far stands behind what there was.
use Rattle.std.proofs.Common.{◌≡◌, ◌++◌, take}
use Rattle.std.specs.Prelude.{string_bytes}
use Rattle.std.specs.List.{flat_map}
use Rattle.recycler_watch.specs.Seen.{slot_seen}
use Rattle.recycler_watch.specs.Sentence.{change_words}
use Rattle.recycler_watch.proofs.words.add_first.Given as goal

abbrev pub invariant-loop-before : goal.invariant-loop-before
invariant-loop-before l = string_bytes l.text ≡ string_bytes l.fn.text ++ flat_map (λ p. change_words (slot_seen p.0.now) (slot_seen p.1.now)) (take l.before-index l.changed)
