-- A sink over std tells nothing of what it holds, so it promises what each sink does of bytes that are told.
use Rattle.std.proofs.Common.{◌≢◌, List, ℕ, None, refl, take}
use Rattle.rec_io.specs.declared.sink.Taken.{Taken}
use Rattle.rec_io.specs.declared.sink.Taken.TheVariants.{Bytes, Failed}
use Rattle.rec_io.specs.Sink.{IfTaken, OnWriteFailed, Appends}
use Rattle.rec_io.specs.Told.{KeepsTold}
use Rattle.rec_io.proofs.Told.{untold}
use Rattle.rec_io.proofs.std_sink.StdSinkSink.TheImpl.Goals as goal

appends_untold : (answer : Taken) (piece : List ℕ) → IfTaken answer (λ n. Appends None None (take n piece))
appends_untold (Bytes n) piece = untold _
appends_untold Failed piece = tt

kept_untold : (answer : Taken) → OnWriteFailed answer (KeepsTold None None)
kept_untold (Bytes n) = tt
kept_untold Failed = untold _

-- what stays after a write that takes bytes stays after each that didn't fail
uncounted : (answer : Taken) (P : Type 0) → IfTaken answer (λ n. P) → answer ≢ Failed → P
uncounted (Bytes n) P same other = same
uncounted Failed P same other = absurd (other refl)

pub write-tells : goal.write-tells
write-tells g c = record {
  some = c.ensures.some;
  fits = c.ensures.fits;
  appends = appends_untold c.result c.args.piece.now;
  kept = kept_untold c.result;
  rose = c.ensures.rose;
  uncounted = uncounted c.result _ c.ensures.after_bytes;
  never_falls = c.ensures.never_falls;
  within_count = c.ensures.within_count;
  stays_told = λ told. told;
}
