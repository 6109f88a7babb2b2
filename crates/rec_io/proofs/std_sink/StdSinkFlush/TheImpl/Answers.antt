-- A sink over std tells nothing of what it holds or passed on.
use Rattle.std.proofs.Common.{None, OnOk, Result, Ok, Err}
use Rattle.rec_io.specs.Told.{KeepsTold}
use Rattle.rec_io.proofs.Told.{untold}
use Rattle.rec_io.proofs.std_sink.StdSinkFlush.TheImpl.Goals as goal

passed_untold : (E : Type 0) (answer : Result (Unit {0}) E) → OnOk answer (KeepsTold None None)
passed_untold E (Ok nothing) = untold _
passed_untold E (Err fault) = tt

pub flush-tells : goal.flush-tells
flush-tells g c = record {
  passed = passed_untold _ c.result;
  faultless = c.ensures.ok;
  rose = c.ensures.rose;
  kept = untold _;
  never_falls = c.ensures.never_falls;
}
