-- A steady source never fails, so it promises what each source does of failed reads and of the count of faults.
use Rattle.std.proofs.Common.{◌≡◌, refl, arith}
use Rattle.rec_io.specs.declared.source.Given.{Given}
use Rattle.rec_io.specs.declared.source.Given.TheVariants.{Bytes, End, Failed}
use Rattle.rec_io.specs.Source.{OnReadFailed}
use Rattle.rec_io.proofs.steady_source.SteadySourceSource.TheImpl.Goals as goal

-- of an answer that is not `Failed`, what is said of that answer holds
never_failed : (P : Type 0) (answer : Given) → (answer ≡ Failed → ⊥) → OnReadFailed answer P
never_failed P (Bytes n) never = tt
never_failed P End never = tt
never_failed P Failed never = absurd (never refl)

pub read-tells : goal.read-tells
read-tells g c = record {
  some = c.ensures.some;
  fits = c.ensures.fits;
  in_order = c.ensures.in_order;
  ended = c.ensures.ended;
  kept = never_failed _ c.result c.ensures.never_fails;
  rose = never_failed _ c.result c.ensures.never_fails;
  uncounted = λ other. refl;
  never_falls = omega arith;
  within_count = omega arith;
  stays_told = λ told. told;
}
