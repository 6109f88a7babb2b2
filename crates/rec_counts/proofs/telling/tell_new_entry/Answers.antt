-- The contract of `tell_new_entry`: the leaf that the entry bore, or the target that it put.
use Rattle.std.proofs.Common.{◌≡◌}
use Rattle.rec_word.specs.Word.{target_of}
use Rattle.rec_counts.proofs.telling.tell_new_entry.Goals as goal

pub returns-in-Put : goal.returns-in-Put
returns-in-Put c =
    let e : c.target.result ≡ target_of c.in-Put.new = c.target.ensures.target in
    rw (c.in-Put.is, ← e) c.tell_more.ensures
