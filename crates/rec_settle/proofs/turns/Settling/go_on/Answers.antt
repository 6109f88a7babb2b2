-- A turn of settling that a watch is shown, or many that none is shown.
use Rattle.std.proofs.Common.{is_some, sym, ap}
use Rattle.rec_settle.specs.Shown.{told_shown}
use Rattle.rec_settle.proofs.Goes.{turn_gone}
use Rattle.rec_settle.proofs.turns.Settling.go_on.Goals as goal

pub returns-in-Some-clause-gone : goal.returns-in-Some-clause-gone
returns-in-Some-clause-gone g c = (
  told_shown c.args.self.now c.args.world.now c.in_ok-next_watched.field-0,
  turn_gone c.args.self.now c.next_watched.new.self c.args.world.now c.next_watched.new.world c.in_ok-next_watched.field-0 _ (sym (ap (λ told. is_some told) c.in-Some.is)) c.in_ok-next_watched.ensures.goes,
  c.in_ok-next_watched.ensures.shown,
)

pub returns-in-None-clause-gone : goal.returns-in-None-clause-gone
returns-in-None-clause-gone g c = (
  told_shown c.args.self.now c.args.world.now c.in_ok-next_watched.field-0,
  turn_gone c.args.self.now c.next_watched.new.self c.args.world.now c.next_watched.new.world c.in_ok-next_watched.field-0 _ (sym (ap (λ told. is_some told) c.in-None.is)) c.in_ok-next_watched.ensures.goes,
  c.in_ok-next_watched.ensures.shown,
)
