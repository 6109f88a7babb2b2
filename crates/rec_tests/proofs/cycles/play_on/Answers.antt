-- Journals and order may note what is played.
use Rattle.rec_tests.proofs.cycles.play_on.Goals as goal

pub play-requires-clause-notes : goal.play-requires-clause-notes
play-requires-clause-notes c = record { ready = c.requires.journals; order = c.requires.order; room = c.requires.room }
