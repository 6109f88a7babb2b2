-- The contract of `hear_in`: an answer of the listener, where the handle has one.
use Rattle.std.proofs.Common.{Some, ap, refl}
use Rattle.recycler_c.specs.Standing.{hears_in}
use Rattle.recycler_c.specs.declared.end.End.{End}
use Rattle.recycler_c.proofs.noticing.hear_in.Goals as goal

pub returns-in-Listening : goal.returns-in-Listening
returns-in-Listening c = record {
  before = c.in-Listening.listener;
  was = ap (λ (e : End). hears_in (Some e)) c.in-Listening.is;
  after = c.hear.new.self;
  is = refl;
  answer = c.hear.result;
  hears = c.hear.ensures;
  told_so = c.show_heard.ensures;
}
