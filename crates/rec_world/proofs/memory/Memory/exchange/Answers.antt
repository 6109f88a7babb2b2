-- What is written at an operation's number is the operation's.
use Rattle.std.proofs.Common.{◌≡◌, ap, sym, ◌∙◌}
use Rattle.rec_word.specs.Op.{written}
use Rattle.rec_core.specs.Row.{index_at, index_of}
use Rattle.rec_world.proofs.Indexed.{laid_apart, left_is}
use Rattle.rec_world.proofs.memory.Memory.exchange.Goals as goal

pub returns-clause-left : goal.returns-clause-left
returns-clause-left c =
    let m = c.self.inside in
    let at : c.index.result ≡ index_of m.layout.places m.layout.slots c.args.op = c.index.ensures ∙ ap (index_at m.layout.places m.layout.slots) c.requires.names in
    left_is m c.self.invariant c.args.self.now c.self.view_is c.args.op c.requires.within c.index.result at c.exchange.new.word c.exchange.result (c.exchange.ensures.left ∙ ap (written c.args.op) (sym c.exchange.ensures.found))

pub invariant_of-self : goal.invariant_of-self
invariant_of-self c =
    let m = c.self.inside in
    let at : c.index.result ≡ index_of m.layout.places m.layout.slots c.args.op = c.index.ensures ∙ ap (index_at m.layout.places m.layout.slots) c.requires.names in
    laid_apart m c.self.invariant c.args.self.now c.self.view_is c.args.op c.requires.within c.index.result at c.args.at c.requires.names c.requires.other c.exchange.new.word
