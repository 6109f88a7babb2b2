-- The pieces of the format one after another.
use Rattle.std.proofs.Common.{append_assoc}
use Rattle.std.proofs.lemmas.Result.{IfOk-weaker}
use Rattle.recycler_watch.proofs.words.answer_text.Goals as goal

pub returns-in-Busy : goal.returns-in-Busy
returns-in-Busy c =
    let name = rw c.in-Busy.is at c.answer_name-name.ensures in
    rw c.in-Busy.is (IfOk-weaker c.format-in-Busy.result _ _ (λ text h. simp append_assoc (rw name at h)) c.format-in-Busy.ensures.ok)
