-- The end that a caller of the C library holds, boxed, and what it owns.
use base.Fml.{Fml, ftrue}
use denote.Param.{param}
use denote.RawPtr.{Ptr}
use Rattle.std.specs.declared.option.Option.{Option}
use Rattle.std.specs.declared.option.Option.TheVariants.{None, Some}
use Rattle.std.specs.declared.alloc.Global.{Global}
use Rattle.std.specs.contracts.impls.GlobalAllocator.TheImpl.{ghosts}
use Rattle.std_alloc.specs.Box.Ownership.{box_owns}
use Rattle.recycler_c.specs.declared.end.End.{End}
use Rattle.recycler_c.specs.contracts.end.End as end

-- the C library's heap
abbrev pub the_heap : Global
the_heap = record { memory = record { seal = tt } }

abbrev pub boxed : Ptr → Option End → Fml
boxed p None = ftrue
boxed p (Some x) = box_owns (ghosts.dealloc_token the_heap) (param 0 end.the_row) p x
