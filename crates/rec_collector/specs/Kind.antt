-- Which of the phases it is that a collection spends its turns in.
use Rattle.rec_collector.specs.declared.kind.Kind.{Kind}
use Rattle.rec_collector.specs.declared.kind.Kind.TheVariants as kinds
use Rattle.rec_collector.specs.declared.phase.Phase.{Phase}
use Rattle.rec_collector.specs.declared.phase.Phase.TheVariants.{Releasing, Freeing, Trying, Preparing, Sweeping}

abbrev pub kind_of : Phase → Kind
kind_of (Releasing release) = kinds.Releasing
kind_of (Freeing freeing) = kinds.Freeing
kind_of (Trying trial) = kinds.Trying
kind_of (Preparing prep) = kinds.Preparing
kind_of (Sweeping due swept) = kinds.Sweeping
kind_of _ = kinds.Other

-- turns of this kind are made in a loop of their own
abbrev pub HasLoop : Kind → Type 0
HasLoop kinds.Freeing = Unit {0}
HasLoop kinds.Trying = Unit {0}
HasLoop kinds.Preparing = Unit {0}
HasLoop kinds.Sweeping = Unit {0}
HasLoop _ = ⊥
