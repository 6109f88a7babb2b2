-- What follows of an answer that may be none.
use Rattle.std.proofs.Common.{Option, None, Some}
use Rattle.std.specs.Prelude.{IfNone, MatchOption}

pub none_then : {X : Type 0} (r : Option X) {P S : Type 0} (Q : X → Type 0) → MatchOption r P Q → (P → S) → IfNone r S
none_then None q h f = f h
none_then (Some x) q h f = tt
