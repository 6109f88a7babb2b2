-- The contract of `ask_first`: asks where nobody tells yet.
use Rattle.std.proofs.Common.{◌∙◌, Some, refl, ap, arith}
use Rattle.recycler_c.specs.Standing.{hears_in}
use Rattle.recycler_c.specs.declared.end.End.{End}
use Rattle.recycler_c.proofs.Standings.{closed_of}
use Rattle.recycler_c.proofs.noticing.ask_first.Goals as goal

pub returns-in-Ok-clause-asks : goal.returns-in-Ok-clause-asks
returns-in-Ok-clause-asks c = record {
  within = (omega arith, omega arith);
  world = c.args.resting;
  was = refl;
  silent = refl;
  closed = closed_of c.args.listener.now c.requires;
  is = refl;
  teller = c.in-Ok.teller;
  tells = refl;
  listener = c.in-Ok.ensures.0;
  hears = ap hears_in c.put.ensures ∙ ap (λ (e : End). hears_in (Some e)) c.in-Ok.ensures.1;
  new = c.in-Ok.ensures.2;
}
