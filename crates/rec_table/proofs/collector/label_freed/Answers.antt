-- The contract of `label_freed`: the label of the object that an operation frees.
use Rattle.std.proofs.Common.{ℕ, ◌∷◌, [], Some, sym, ap, ◌∙◌, subst}
use Rattle.rec_table.proofs.Common.{Op}
use Rattle.rec_table.specs.Telling.{IsFreeOp, freed_by}
use Rattle.rec_table.proofs.Freeing.{frees_slot, freed_others}
use Rattle.rec_table.proofs.collector.label_freed.Goals as goal

pub unpack-requires : goal.unpack-requires
unpack-requires c = c.requires (subst IsFreeOp (sym c.in-FreeHeader.is) tt)

pub returns-in-FreeHeader : goal.returns-in-FreeHeader
returns-in-FreeHeader c = ap (λ (l : ℕ). l ∷ []) c.unpack.ensures.label ∙ sym (ap (λ (o : Op). freed_by (Some o) c.args.found) c.in-FreeHeader.is)

pub returns-in_default : goal.returns-in_default
returns-in_default c = sym (freed_others c.args.op c.args.found (λ frees. let s = frees_slot c.args.op frees in c.in_default.not-FreeHeader s.0 s.1))
