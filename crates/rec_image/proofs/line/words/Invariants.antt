-- So many words are read, and any words that the bytes begin with go on with those that are left.
use Rattle.rec_image.proofs.Lines.{AreReading}
use Rattle.rec_image.proofs.line.words.Given as goal

abbrev pub invariant-loop : goal.invariant-loop
invariant-loop l = AreReading l.count l.slots l.counter l.fn.bytes l.rest l.fn.others.items l.others.items l.fn.meeting l.meeting
