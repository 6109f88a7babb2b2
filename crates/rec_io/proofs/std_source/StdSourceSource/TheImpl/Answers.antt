-- A source over std tells no rest, so it promises what each source does of the rest that is told.
use Rattle.std.proofs.Common.{◌≢◌, List, ℕ, None, refl}
use Rattle.rec_io.specs.declared.source.Given.{Given}
use Rattle.rec_io.specs.declared.source.Given.TheVariants.{Bytes, End, Failed}
use Rattle.rec_io.specs.Source.{IfGiven, OnEnd, OnReadFailed, GivesFront, IsSpent}
use Rattle.rec_io.specs.Told.{KeepsTold}
use Rattle.rec_io.proofs.Told.{untold}
use Rattle.rec_io.proofs.std_source.StdSourceSource.TheImpl.Goals as goal

in_order_untold : (answer : Given) (into : List ℕ) → IfGiven answer (λ n. GivesFront None None n into)
in_order_untold (Bytes n) into = record { within = untold _; bytes = untold _; moves_on = untold _ }
in_order_untold End into = tt
in_order_untold Failed into = tt

ended_untold : (answer : Given) → OnEnd answer (IsSpent None None)
ended_untold (Bytes n) = tt
ended_untold End = record { empty = untold _; told = untold _ }
ended_untold Failed = tt

kept_untold : (answer : Given) → OnReadFailed answer (KeepsTold None None)
kept_untold (Bytes n) = tt
kept_untold End = tt
kept_untold Failed = untold _

-- what stays after a read that gives bytes, and after the end, stays after each that didn't fail
uncounted : (answer : Given) (P : Type 0) → IfGiven answer (λ n. P) → OnEnd answer P → answer ≢ Failed → P
uncounted (Bytes n) P given ended other = given
uncounted End P given ended other = ended
uncounted Failed P given ended other = absurd (other refl)

pub read-tells : goal.read-tells
read-tells g c = record {
  some = c.ensures.some;
  fits = c.ensures.fits;
  in_order = in_order_untold c.result c.new.into.now;
  ended = ended_untold c.result;
  kept = kept_untold c.result;
  rose = c.ensures.rose;
  uncounted = uncounted c.result _ c.ensures.after_bytes c.ensures.after_end;
  never_falls = c.ensures.never_falls;
  within_count = c.ensures.within_count;
  stays_told = λ told. told;
}
