-- The contract of `Level::lowest`: the lowest member of those in a word, or `None` where there is none.
use Rattle.std.proofs.Common.{rules}
use Rattle.rec_index.proofs.Words.{lowest_in}
use Rattle.rec_index.proofs.level.Level.lowest.Goals as goal

pub returns-clause-some : goal.returns-clause-some
returns-clause-some c =
    lowest_in c.self.inside.words.items c.args.self.now c.args.word c.index-bits.result.now c.self.view_is c.requires.there c.index-bits.ensures c.if-bits-eq0.false (search rules)
