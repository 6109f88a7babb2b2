-- What a command found or left, by the command and its answer.
use Rattle.std.proofs.Common.{◌∙◌, sym}
use Rattle.rec_word.specs.Word.{target_of}
use Rattle.recycler_watch.specs.Seen.{seen}
use Rattle.recycler_watch.specs.Sentence.{outcome_words, put_words}
use Rattle.recycler_watch.proofs.Adding.{added, pushed}
use Rattle.recycler_watch.proofs.words.add_outcome.Goals as goal

pub returns-in-Put-Done : goal.returns-in-Put-Done
returns-in-Put-Done c =
    added c.add_put.result _ _ _ _ c.add_put.ensures
    ((λ i. put_words (c.register.ensures i) c.in-Put-Done.field (target_of c.args.told.saw) (target_of c.args.told.left))
    ∙ sym (λ i. outcome_words c.args.t (c.in-Put-Done.is-0 i) (c.in-Put-Done.is-1 i) c.args.told.saw c.args.told.left (seen c.args.is.now)))

pub returns-in-Leave-Done : goal.returns-in-Leave-Done
returns-in-Leave-Done c = pushed c.push_str.result _ _ _ _ c.push_str.ensures.bytes (sym (λ i. outcome_words c.args.t (c.in-Leave-Done.is-0 i) (c.in-Leave-Done.is-1 i) c.args.told.saw c.args.told.left (seen c.args.is.now)))

pub returns-in-Leave-NotYet : goal.returns-in-Leave-NotYet
returns-in-Leave-NotYet c =
    pushed c.push_str-in-Leave-NotYet.result _ _ _ _ c.push_str-in-Leave-NotYet.ensures.bytes
    (sym (λ i. outcome_words c.args.t (c.in-Leave-NotYet.is-0 i) (c.in-Leave-NotYet.is-1 i) c.args.told.saw c.args.told.left (seen c.args.is.now)))
