-- The contract of `Level::insert`: makes `i` a member.
use Rattle.rec_index.proofs.Words.{inserted}
use Rattle.rec_index.proofs.level.Level.insert.Goals as goal

pub returns-clause-holds : goal.returns-clause-holds
returns-clause-holds c = inserted c.self.inside.words.items c.args.self.now c.args.i c.index_mut.result.now c.self.view_is c.requires c.index_mut.ensures.value
