-- What a source in memory holds.
use Rattle.std.specs.Prelude.{◌≡◌, ◌↔◌, ℕ, List, [], drop, length, min}
use Rattle.rec_io.specs.declared.source.Given.{Given}
use Rattle.rec_io.specs.declared.source.Given.TheVariants.{Bytes, End, Failed}
use Rattle.rec_io.specs.Calls.{NextFails}
use Rattle.rec_io.specs.Faults.{counted_up}
use Rattle.rec_io.specs.Source.{IfGiven}

-- the bytes not yet read, the numbers of the calls that fail, how many calls were made, and how many of them failed
pub record BytesState : Type 0 where
  pub rest : List ℕ
  pub fails : List ℕ
  pub calls : ℕ
  pub faults : ℕ

-- what a read leaves of it that gives this: each call counts, and one that failed is a fault
abbrev pub after_read : Given → BytesState → BytesState
after_read (Bytes n) s = record s { rest = drop n s.rest; calls = counted_up s.calls }
after_read End s = record s { calls = counted_up s.calls }
after_read Failed s = record s { calls = counted_up s.calls; faults = counted_up s.faults }

-- what a read of it gives into so much room: it fails at the calls that are listed and at no others, and else gives as much as fits
pub record Gives (s : BytesState) (room : ℕ) (given : Given) : Type 0 where
  pub fails : (given ≡ Failed) ↔ NextFails s.fails s.calls
  pub ends : (given ≡ End) ↔ ((¬ NextFails s.fails s.calls) × (s.rest ≡ []))
  pub gives : IfGiven given (λ n. n ≡ min room (length s.rest))
