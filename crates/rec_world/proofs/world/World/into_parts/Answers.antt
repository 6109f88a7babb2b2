-- The fields of the world are its parts.
use Rattle.std.proofs.Common.{refl, subst}
use Rattle.rec_world.proofs.Common.{Core, core}
use Rattle.rec_world.specs.Parts.{AreParts}
use Rattle.rec_world.specs.declared.parts.Parts.{Parts}
use Rattle.rec_world.proofs.Apart.{all_home}
use Rattle.rec_world.proofs.world.World.into_parts.Goals as goal

pub returns-clause-parts : goal.returns-clause-parts
returns-clause-parts c =
    let parts : Parts =
    record {
      config = c.self.inside.config;
      row = c.into_row-row.result.0;
      boxes = c.self.inside.boxes;
      machines = c.self.inside.machines;
      collector = c.self.inside.collector;
      made = c.self.inside.made;
      free = c.into_row-row.result.1;
    } in
    let are : AreParts (core c.self.inside) parts =
    record {
      config = refl;
      row = c.into_row-row.ensures;
      boxes = all_home c.self.inside.boxes.items c.self.invariant.home;
      machines = refl;
      collector = refl;
      made = refl;
    } in
    subst (λ (w : Core). AreParts w parts) c.self.view_is are
