-- From the front of the answers on.
use Rattle.rec_notice.proofs.Waiting.{are_heard}
use Rattle.rec_notice.proofs.laws.waiting_labels_are_heard.Goals as goal

pub returns-clause-answers : goal.returns-clause-answers
returns-clause-answers c before after answers all fits = (are_heard answers before after all fits).each

pub returns-clause-heard : goal.returns-clause-heard
returns-clause-heard c before after answers all fits = (are_heard answers before after all fits).heard
