-- A write that replaces such a word is pending, and nothing else takes it out.
use Rattle.rec_model.proofs.Loading.{nothing_loaded, load_loaded, move_loaded, loaded_replaced, move_replaced}
use Rattle.rec_model.proofs.Since.{loaded_stands}
use Rattle.rec_model.proofs.set_laws.loaded_words_stand.Goals as goal

pub returns-clause-begun : goal.returns-clause-begun
returns-clause-begun c = nothing_loaded

pub returns-clause-loaded : goal.returns-clause-loaded
returns-clause-loaded c = λ w load place i. load_loaded w load place i.epochs

pub returns-clause-moved : goal.returns-clause-moved
returns-clause-moved c = λ before after load move fits i. move_loaded load move fits i.epochs

pub returns-clause-replaced : goal.returns-clause-replaced
returns-clause-replaced c = loaded_replaced

pub returns-clause-closed : goal.returns-clause-closed
returns-clause-closed c = λ before after move fits place node. move_replaced place node move fits

pub returns-clause-tested : goal.returns-clause-tested
returns-clause-tested c = λ w u member load place node t h. loaded_stands w u member t.since.0 load t.since.1 h place node
