-- The parts make up the world whose parts they are.
use Rattle.std.proofs.Common.{◌≡◌, ◌*◌, ◌∙◌, sym, subst}
use Rattle.rec_world.proofs.Common.{IsWorld}
use Rattle.rec_core.specs.Row.{cells_of_row}
use Rattle.rec_world.proofs.Apart.{made_up, parts_home}
use Rattle.rec_world.proofs.world.World.of_parts.Goals.{After-of_row}
use Rattle.rec_world.proofs.world.World.of_parts.Goals as goal

-- the row's words, by the numbers of the heap
words_are : (c : After-of_row) → c.of_row.result ≡ cells_of_row (c.args.parts.config.slots * c.args.parts.config.fields) c.args.parts.config.slots c.args.parts.row.items
words_are c = c.of_row.ensures ∙ (λ i. cells_of_row (c.new-layout.ensures.parts.0 i) (c.new-layout.ensures.parts.1 i) c.args.parts.row.items)

pub invariant_of-result : goal.invariant_of-result
invariant_of-result c =
    let w = c.requires.0 in
    let world : IsWorld w = c.requires.1.0 in
    record {
      world = subst IsWorld (sym (made_up w c.args.parts world c.requires.1.1 c.of_row.result (words_are c))) world;
      home = parts_home w c.args.parts world c.requires.1.1;
    }

pub returns-clause-made : goal.returns-clause-made
returns-clause-made c = λ w world are. made_up w c.args.parts world are c.of_row.result (words_are c)

pub returns-clause-kept : goal.returns-clause-kept
returns-clause-kept c = subst IsWorld (sym (made_up c.requires.0 c.args.parts c.requires.1.0 c.requires.1.1 c.of_row.result (words_are c))) c.requires.1.0
