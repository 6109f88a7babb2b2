-- What isn't in the index is taken.
use Rattle.std.proofs.Common.{ℕ, ◌<◌, List, length, get_or, subst, refl, arith}
use Rattle.rec_world.proofs.Common.{Cells}
use Rattle.rec_world.specs.Indexed.{cells}
use Rattle.rec_world.proofs.Frees.{absent_taken, member_there}
use Rattle.rec_world.proofs.Indexed.{headers_many}
use Rattle.rec_world.proofs.memory.Memory.lowest_free.Goals as goal

pub returns-in-Some-clause-lower : goal.returns-in-Some-clause-lower
returns-in-Some-clause-lower c = λ s below.
    let headers : List ℕ = (cells c.self.inside).headers in
    let there : c.in-Some.slot < length headers = member_there headers c.self.inside.free c.self.invariant.free c.in-Some.slot (c.in-Some.ensures.some.holds) in
    subst (λ (k : Cells). 0 < get_or k.headers s 0) c.self.view_is
    (absent_taken headers c.self.inside.free c.self.invariant.free s (omega (arith, below, there)) (c.in-Some.ensures.some.lower s below))

pub returns-in-None-clause-lower : goal.returns-in-None-clause-lower
returns-in-None-clause-lower c = λ s below.
    subst (λ (k : Cells). 0 < get_or k.headers s 0) c.self.view_is
    (absent_taken (cells c.self.inside).headers c.self.inside.free c.self.invariant.free s (omega (arith, below, headers_many c.self.inside c.self.invariant)) (c.in-None.ensures.none refl s))
