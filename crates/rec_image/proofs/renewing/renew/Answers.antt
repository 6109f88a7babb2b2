-- The world that is put together again is the one that was given.
use Rattle.std.proofs.Common.{subst}
use Rattle.rec_core.specs.Core.{Core}
use Rattle.rec_image.specs.Renewed.{IsRenewed, IsUnrenewed}
use Rattle.rec_image.proofs.renewing.renew.Goals as goal

pub returns-in-Ok-clause-renewed : goal.returns-in-Ok-clause-renewed
returns-in-Ok-clause-renewed c = subst (λ (w : Core). IsRenewed w c.args.slots c.in-Ok.new) c.with_kind-world.ensures.same c.in-Ok.ensures.renewed

pub returns-in-Err-clause-refused : goal.returns-in-Err-clause-refused
returns-in-Err-clause-refused c = subst (λ (w : Core). IsUnrenewed w c.args.slots c.in-Err.error) c.with_kind-world.ensures.same c.in-Err.ensures.refused
