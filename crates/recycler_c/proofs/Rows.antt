-- The types that a box of an end is made with.
use Rattle.std.proofs.Common.{[], ◌∷◌}
use mir.Syntax.{impl, tnil, tcons, dnil, Dict}
use mir.Raw.{raw as bare}
use denote.Exit.{no}
use denote.Param.{arg, layout}
use denote.RattleType.{RattleType}
use Rattle.std.specs.contracts.alloc.Global as heap
use Rattle.recycler_c.specs.contracts.end.End as end

abbrev pub heap_row : RattleType
heap_row = arg (bare (layout heap.the_row)) no heap.the_row

abbrev pub end_row : RattleType
end_row = arg (bare (layout end.the_row)) no end.the_row

abbrev pub no_drop : Dict
no_drop = impl ("recycler_c::Destruct++none::drop" ∷ []) (tcons (layout heap_row) tnil) dnil
