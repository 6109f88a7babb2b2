-- A leaf has no word, and its fields are null.
use Rattle.std.proofs.Common.{refl}
use Rattle.rec_image.proofs.Adding.{leaf_fields}
use Rattle.rec_image.proofs.objects.Objects.add_fields.Goals as goal

pub returns-clause-found : goal.returns-clause-found
returns-clause-found c = leaf_fields _ _ _ _ _ _ _ c.if-not-leaf.false c.in-Some.ensures refl c.in_ok-add_nulls.ensures refl
