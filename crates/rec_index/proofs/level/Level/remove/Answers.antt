-- The contract of `Level::remove`: takes `i` out, where it is a member, and answers whether its word is 0 then.
use Rattle.rec_index.proofs.Words.{removed}
use Rattle.rec_index.proofs.level.Level.remove.Goals as goal

pub returns-clause-holds : goal.returns-clause-holds
returns-clause-holds c = removed c.self.inside.words.items c.args.self.now c.args.i c.index_mut-word.result.now c.self.view_is c.requires c.index_mut-word.ensures.value
