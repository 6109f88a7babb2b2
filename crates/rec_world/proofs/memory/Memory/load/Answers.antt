-- A load leaves the row as it was.
use Rattle.std.proofs.Common.{◌≡◌, ap, ◌∙◌}
use Rattle.rec_word.specs.Atom.{leaves}
use Rattle.rec_core.specs.Row.{index_at, index_of}
use Rattle.rec_world.proofs.Indexed.{loaded_is}
use Rattle.rec_world.proofs.memory.Memory.load.Goals as goal

pub returns-clause-left : goal.returns-clause-left
returns-clause-left c =
    let m = c.self.inside in
    let at : c.index.result ≡ index_of m.layout.places m.layout.slots c.args.op = c.index.ensures ∙ ap (index_at m.layout.places m.layout.slots) c.requires.names in
    loaded_is m c.self.invariant c.args.self.now c.self.view_is c.args.op c.requires.within c.index.result at c.index-2.result.now (ap (λ a. leaves a c.index-2.result.now) c.requires.load) c.index-2.ensures
