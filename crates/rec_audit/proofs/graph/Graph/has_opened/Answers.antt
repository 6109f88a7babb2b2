-- The contract of `has_opened`: a reference of a word was opened.
use Rattle.std.proofs.Common.{◌∙◌}
use Rattle.rec_audit.proofs.graph.Graph.has_opened.Goals as goal

pub returns : goal.returns
returns c = λ lines is. c.has_opened.ensures ∙ is.references.opened c.args.word
